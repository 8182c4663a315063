use Rattle.std.proofs.Common.{◌≡◌, ℕ, ◌∙◌, ◌<◌, ◌%◌, ◌^◌, length, refl, sym, ap, subst, arith, deque_len}
use Rattle.sctp_model.specs.sender.Queueing.{owed_for}
use Rattle.sctp_send.specs.inner.Owning.{IsOwned, messages_of}
use Rattle.sctp_send.specs.inner.Seating.{owed_by}
use Rattle.sctp_send.specs.declared.kept.waiting.Waiting.{Waiting}
use Rattle.sctp_send.proofs.kept.OwnedLemmas.{message_read, messages_long}
use Rattle.sctp_send.proofs.kept.SeatedLemmas.{mapped_removed, queue_removed}
use Rattle.sctp_send.proofs.kept.UserLemmas.{reached}
use Rattle.sctp_send.proofs.kept.queue.Queue.remove.Goals as goal
use Rattle.sctp_send.proofs.kept.queue.Queue.remove.Goals.{then-self, else-self}

pub take_bytes-requires : goal.take_bytes-requires
take_bytes-requires c =
    let w = c.self.inside in
    let y = c.in_ok-waiting.waiting in
    let there : c.args.place < deque_len w.messages = c.in_ok-waiting.ensures.variant.0 refl in
    let long = messages_long w.messages.items in
    rw c.deref-message.ensures
    (reached w.user_bytes.items (messages_of w.messages.items) c.args.place y.message c.self.invariant.user (omega (arith, there, long)) (sym (message_read w.messages.items c.args.place y c.in_ok-waiting.ensures.value)))

pub invariant_of-self-then-self : goal.invariant_of-self-then-self
invariant_of-self-then-self c =
    let w = c.self.inside in
    let y = c.in_ok-waiting.waiting in
    let there : c.args.place < deque_len w.messages = c.in_ok-waiting.ensures.variant.0 refl in
    let own = subst (λ (z : Waiting). IsOwned w.size 0 z.message z.others.items) (sym c.in_ok-waiting.ensures.value) (c.self.invariant.owned c.args.place y (omega (arith, there))) in
    let owes : c.owed-owed.result ≡ owed_by w.size y.message % 2 ^ 64 = c.owed-owed.ensures ∙ ap (λ (n : ℕ). owed_for n % 2 ^ 64) (c.fragments.ensures w.size own) in
    rw (c.in_ok-waiting.ensures.items, c.take_bytes.ensures, c.deref-message.ensures)
    (queue_removed w.size w.owed c.owed-owed.result w.bytes (length c.deref-bytes.result.now) w.last c.args.place w.rises w.is_seated w.messages.items y w.seats.items c.free_seat.new.seats.items w.user_bytes.items c.self.invariant (omega (arith, there)) c.in_ok-waiting.ensures.value
    owes (rw (c.deref-bytes.ensures.value, c.deref-message.ensures) refl) (omega (arith, c.deref-bytes.ensures.len, c.deref-bytes.type_inv)) (λ ps _. c.free_seat.ensures ps))

pub invariant_of-self-else-self : goal.invariant_of-self-else-self
invariant_of-self-else-self c =
    let w = c.self.inside in
    let y = c.in_ok-waiting.waiting in
    let there : c.args.place < deque_len w.messages = c.in_ok-waiting.ensures.variant.0 refl in
    let own = subst (λ (z : Waiting). IsOwned w.size 0 z.message z.others.items) (sym c.in_ok-waiting.ensures.value) (c.self.invariant.owned c.args.place y (omega (arith, there))) in
    let owes : c.owed-owed.result ≡ owed_by w.size y.message % 2 ^ 64 = c.owed-owed.ensures ∙ ap (λ (n : ℕ). owed_for n % 2 ^ 64) (c.fragments.ensures w.size own) in
    rw (c.in_ok-waiting.ensures.items, c.take_bytes.ensures, c.deref-message.ensures)
    (queue_removed w.size w.owed c.owed-owed.result w.bytes (length c.deref-bytes.result.now) w.last c.args.place w.rises w.is_seated w.messages.items y w.seats.items w.seats.items w.user_bytes.items c.self.invariant (omega (arith, there)) c.in_ok-waiting.ensures.value
    owes (rw (c.deref-bytes.ensures.value, c.deref-message.ensures) refl) (omega (arith, c.deref-bytes.ensures.len, c.deref-bytes.type_inv)) (λ ps on. absurd (cc (on, c.if-self.false))))

pub returns-clause-some : goal.returns-clause-some
returns-clause-some c = λ lt. elim c.if-self.branch [
  | then-self b ↦ b.self-is ∙ rw (← c.self.view_is, c.in_ok-waiting.ensures.items, mapped_removed (λ (z : Waiting). z.message) c.self.inside.messages.items c.args.place) refl
  | else-self b ↦ b.self-is ∙ rw (← c.self.view_is, c.in_ok-waiting.ensures.items, mapped_removed (λ (z : Waiting). z.message) c.self.inside.messages.items c.args.place) refl
]
