use Rattle.std.proofs.Common.{refl, arith}
use Rattle.sctp_send.proofs.kept.queue.Queue.new.Goals as goal

pub invariant_of-result : goal.invariant_of-result
invariant_of-result c = rw (c.new-messages.ensures.items, c.new-seats.ensures, c.new-user_bytes.ensures.items) (record {
  some = c.requires;
  owed = refl;
  bytes = refl;
  user = record { sums = λ s. refl; reach = λ k d low on. absurd (omega (arith, low)) };
  order = λ on i j d lt low. absurd (omega (arith, low));
  most = λ on k d low. absurd (omega (arith, low));
  seats = λ on f. refl;
  owned = λ k d low. absurd (omega (arith, low));
})
