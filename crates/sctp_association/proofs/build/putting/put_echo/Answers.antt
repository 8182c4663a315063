use Rattle.std.proofs.Common.{◌∙◌, ℕ, false, List, ap, sym}
use Rattle.sctp_model.specs.wire.Chunk.{CookieEcho}
use Rattle.sctp_model.specs.end.EndView.{Echoing, CookieAlarm}
use Rattle.sctp_model.specs.end.Building.{EchoSlot, EchoCookie}
use Rattle.sctp_association.proofs.PutLemmas.{not_due, stays_out, goes_in, started_left}
use Rattle.sctp_association.proofs.build.putting.put_echo.Goals as goal

pub returns-then-not-packing : goal.returns-then-not-packing
returns-then-not-packing c = λ e t phase packet. not_due EchoSlot e c.args.packing.now c.if-not-packing.true packet

pub returns-then-not-branch : goal.returns-then-not-branch
returns-then-not-branch c = λ e t phase packet.
    stays_out EchoSlot e c.args.packing.now _ (CookieEcho c.deref.result.now) _ c.if-not-packing.false
    (EchoCookie t c.deref.result.now (phase ∙ ap (λ (xs : List ℕ). Echoing t xs) (sym c.deref.ensures.value)))
    packet c.if-not-branch.true c.in_ok-try_chunk.ensures.answer c.in_ok-try_chunk.ensures.after

pub returns : goal.returns
returns c = λ e t phase packet.
    let m = c.args.packing.now.marks in
    goes_in EchoSlot e c.args.packing.now (record m { cookie_echo = false; starts = c.add.new.self }) _ (CookieEcho c.deref.result.now) _ c.if-not-packing.false
    (EchoCookie t c.deref.result.now (phase ∙ ap (λ (xs : List ℕ). Echoing t xs) (sym c.deref.ensures.value)))
    (started_left CookieAlarm (record m { cookie_echo = false }) e c.add.new.self c.add.ensures)
    (λ still. still) packet c.if-not-branch.false c.in_ok-try_chunk.ensures.answer c.in_ok-try_chunk.ensures.after
