use Rattle.std.proofs.Common.{◌∙◌, ℕ, ◌%◌, ◌^◌, subst, sym, ap, arith}
use Rattle.std.proofs.lemmas.List.{length-map}
use Rattle.sctp_model.specs.sender.Queueing.{owed_for}
use Rattle.sctp_send.specs.SenderKept.{Kept}
use Rattle.sctp_send.specs.SenderFields.{queued_by}
use Rattle.sctp_send.specs.SenderStands.{StandsFor, Keeps}
use Rattle.sctp_send.proofs.QueueLemmas.{spent_ticket, spent_owed, none_refuses}
use Rattle.sctp_send.proofs.sender.Sender.refusal.Goals as goal

pub returns-then-given-clause-some : goal.returns-then-given-clause-some
unfolding StandsFor
returns-then-given-clause-some g c = λ v stands.
    let s = c.self.inside in
    let keeps = subst (λ (k : Kept). Keeps g.F.Framing.format k v) (sym c.self.view_is) stands in
    let long = length-map s.parts.queue.items (queued_by s.told.fragment) in
    spent_ticket g.F.Framing.format _ v c.args.stream c.args.bytes.now keeps (record { stream = omega arith; sends = sym c.sends.ensures ∙ c.if-not-sends.false; some = omega arith; short = omega arith; waits = omega arith }) (omega arith)

pub returns-then-promised-more-gt-TSN_LIMIT-clause-some : goal.returns-then-promised-more-gt-TSN_LIMIT-clause-some
unfolding StandsFor
returns-then-promised-more-gt-TSN_LIMIT-clause-some g c = λ v stands.
    let s = c.self.inside in
    let keeps = subst (λ (k : Kept). Keeps g.F.Framing.format k v) (sym c.self.view_is) stands in
    let long = length-map s.parts.queue.items (queued_by s.told.fragment) in
    let more = c.owed-more.ensures ∙ ap (λ (n : ℕ). owed_for n % 2 ^ 64) c.fragments_in.ensures in
    spent_owed g.F.Framing.format _ v c.args.stream c.args.bytes.now c.promised-promised.result c.owed-more.result keeps (record { stream = omega arith; sends = sym c.sends.ensures ∙ c.if-not-sends.false; some = omega arith; short = omega arith; waits = omega arith }) (omega arith) (c.promised-promised.ensures v stands) more (omega arith)

pub returns-clause-none : goal.returns-clause-none
unfolding StandsFor
returns-clause-none g c = λ v stands.
    let s = c.self.inside in
    let keeps = subst (λ (k : Kept). Keeps g.F.Framing.format k v) (sym c.self.view_is) stands in
    let long = length-map s.parts.queue.items (queued_by s.told.fragment) in
    let more = c.owed-more.ensures ∙ ap (λ (n : ℕ). owed_for n % 2 ^ 64) c.fragments_in.ensures in
    none_refuses g.F.Framing.format _ v c.args.stream c.args.bytes.now c.promised-promised.result c.owed-more.result keeps (record { stream = omega arith; sends = sym c.sends.ensures ∙ c.if-not-sends.false; some = omega arith; short = omega arith; waits = omega arith }) (omega arith) (c.promised-promised.ensures v stands) more (omega arith)
