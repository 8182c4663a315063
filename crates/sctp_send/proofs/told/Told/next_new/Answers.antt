use Rattle.std.proofs.Common.{◌≡◌, ◌∙◌, ℕ, max, length, sym, ap, subst, arith}
use Rattle.std.specs.Prelude.{option_map}
use Rattle.sctp_model.specs.sender.Filling.{newcomer}
use Rattle.sctp_model.proofs.sender.FillLaws.{goes_none}
use Rattle.sctp_model.specs.sender.Queueing.{cut}
use Rattle.sctp_packet.specs.Draft.{room_in}
use Rattle.sctp_send.specs.inner.Asking.{IsAsked}
use Rattle.sctp_send.specs.inner.Stocking.{bare}
use Rattle.sctp_send.proofs.fill.TurnLemmas.{none_waits, first_waits}
use Rattle.sctp_send.proofs.told.Told.next_new.Goals as goal

pub returns-then-len-eq0-clause-goes : goal.returns-then-len-eq0-clause-goes
returns-then-len-eq0-clause-goes g c = λ v p k room stands.
    let f = g.F.Framing.format in
    let none = none_waits f (bare c.args.self.now) v c.args.stock.now k (sym c.takes_turns.ensures ∙ c.if-takes_turns.false) (sym c.len.ensures ∙ c.if-len-eq0.true) in
    goes_none f (room_in p) v (stands ∙ ap (option_map (newcomer v)) none)

pub lets_begin-requires-clause-all : goal.lets_begin-requires-clause-all
lets_begin-requires-clause-all g c =
    c.fragments-all.ensures.count c.get-message.result.now c.get-message.ensures ∙ ap (λ (n : ℕ). length (cut n c.get-message.result.now.value.bytes.items)) c.requires.queue

pub returns-then-not-lets_begin-clause-goes : goal.returns-then-not-lets_begin-clause-goes
returns-then-not-lets_begin-clause-goes g c = λ v p k room stands.
    let f = g.F.Framing.format in
    let whole : c.fragments-all.result ≡ max c.fragments-all.result 1 = omega (arith, c.fragments-all.ensures.some) in
    let its = first_waits f (bare c.args.self.now) v c.args.stock.now c.get-message.result.now c.fragments-all.result c.fragments-all.result k (sym c.takes_turns.ensures ∙ c.if-takes_turns.false) (omega arith) c.get-message.ensures
    (c.fragments-all.ensures.count c.get-message.result.now c.get-message.ensures ∙ ap (λ (n : ℕ). length (cut n c.get-message.result.now.value.bytes.items)) c.requires.queue) whole in
    subst (IsAsked f v p) c.if-not-lets_begin.true (c.lets_begin.ensures.asked v p k room stands its)

pub returns-clause-goes : goal.returns-clause-goes
returns-clause-goes g c = λ v p k room stands.
    let f = g.F.Framing.format in
    let whole : c.fragments-all.result ≡ max c.fragments-all.result 1 = omega (arith, c.fragments-all.ensures.some) in
    let its = first_waits f (bare c.args.self.now) v c.args.stock.now c.get-message.result.now c.fragments-all.result c.fragments-all.result k (sym c.takes_turns.ensures ∙ c.if-takes_turns.false) (omega arith) c.get-message.ensures
    (c.fragments-all.ensures.count c.get-message.result.now c.get-message.ensures ∙ ap (λ (n : ℕ). length (cut n c.get-message.result.now.value.bytes.items)) c.requires.queue) whole in
    ((stands, its), subst (IsAsked f v p) c.if-not-lets_begin.false (c.lets_begin.ensures.asked v p k room stands its))
