use Rattle.std.proofs.Common.{◌≡◌, ◌<◌, ℕ, length, map, sym, ◌∙◌, ap, arith, if◌then◌else◌}
use Rattle.std.proofs.lemmas.List.{length-map}
use Rattle.std.specs.Prelude.{min}
use Rattle.sctp_recv.specs.Fields.{stream_of}
use Rattle.sctp_recv.specs.ReceiverKept.{StreamKept, stream_at}
use Rattle.sctp_recv.proofs.ShownLemmas.{shown_put, shown_past}
use Rattle.sctp_recv.proofs.StreamLemmas.{stream_mapped}
use Rattle.sctp_recv.proofs.ready.show.Goals as goal

pub returns-then-at-len : goal.returns-then-at-len
returns-then-at-len g c = λ old h long but.
    let items = c.args.streams.now.items in
    let n = length-map items stream_of in
    shown_past c.args.ready.now.words.items old (map stream_of items) c.args.stream h (omega (arith, n, long)) but
    (omega (arith, n, c.from-at.ensures, c.len.ensures, c.if-at-len.true, c.args.streams.now.ok))

pub returns : goal.returns
returns g c = λ old h long but.
    let items = c.args.streams.now.items in
    let s = c.args.stream in
    let n = length-map items stream_of in
    let within : c.from-at.result < length items = omega (arith, c.len.ensures, c.if-at-len.false, c.args.streams.now.ok) in
    let here = stream_mapped items c.from-at.result c.index.result.now within c.index.ensures in
    let same : stream_at (map stream_of items) s ≡ stream_of c.index.result.now = ap (λ (i : ℕ). stream_at (map stream_of items) i) (sym c.from-at.ensures) ∙ here in
    shown_put c.args.ready.now.words.items c.mark.new.self.words.items old (map stream_of items) s (if c.has_message-waits.result then 1 else 0) h (omega (arith, n, long)) but (omega (arith, n, within, c.from-at.ensures))
    c.mark.ensures.size c.mark.ensures.here (ap (λ (x : StreamKept). min 1 (length x.waiting)) same ∙ c.has_message-waits.ensures) c.mark.ensures.others
