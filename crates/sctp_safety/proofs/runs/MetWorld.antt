-- A world whose two endpoints have met stays one, whatever step follows.
use Rattle.std.proofs.Common.{◌≡◌, ℕ, suc, max, nat_le, if◌then◌else◌, Bool, true, false, List, ◌++◌, length, Option, Some, None, refl, sym, subst, arith, ◌∙◌}
use Rattle.sctp_model.specs.wire.Chunk.{ChunkMeaning}
use Rattle.sctp_model.specs.wire.Packet.{Packet, size_of_packet}
use Rattle.sctp_model.specs.world.Calls.{Call}
use Rattle.sctp_model.specs.end.EndView.{EndView}
use Rattle.sctp_model.specs.end.Strays.{Verdict, Taken, Dropped, Answer}
use Rattle.sctp_model.specs.end.Moments.{ticked}
use Rattle.sctp_model.specs.end.UserCalls.{SendAnswer, Ticket, Refused, NotOpen, send_answer, send_leaves, abandoned_at, AbortAnswer, Aborts, NoPeer, TooLong, peer_tag, abort_packet, abort_answer_to, abort_answer, abandons}
use Rattle.sctp_model.specs.world.World.{Side, A, B, other, Log, World, end_of, bag_of, with_end, with_packet, with_log, end_now, came, logged, logged_one, clock_of, with_clock}
use Rattle.sctp_model.specs.world.Events.{with_verdict, with_abort}
use Rattle.sctp_model.specs.world.Steps.{accepted, named_at}
use Rattle.sctp_model.specs.world.Premises.{asked_at}
use Rattle.sctp_safety.proofs.runs.Dates.{Dated, all_dated}
use Rattle.sctp_safety.proofs.runs.DatedBags.{Dates, dated_bag, bag_push}
use Rattle.sctp_safety.proofs.runs.Pair.{AreOpening}
use Rattle.sctp_safety.proofs.runs.Timed.{asked_more}
use Rattle.sctp_safety.proofs.runs.Pairs.{IsPair, pair_round, pair_quiet, pair_now, pair_ticked, pair_sent, pair_abandoned, pair_clock}
use Rattle.sctp_safety.proofs.runs.Answers.{OpensOrEnds, one_opening}

-- ---- what closes the world to an opening without packets

pub closed_verdict : (w : World) (x : Side) (v : Verdict) → (with_verdict w x v).openable ≡ w.openable
closed_verdict w A Taken = refl
closed_verdict w B Taken = refl
closed_verdict w A (Dropped n) = refl
closed_verdict w B (Dropped n) = refl
closed_verdict w A (Answer p) = refl
closed_verdict w B (Answer p) = refl

pub closed_abort : (w : World) (x : Side) (a : AbortAnswer) → (with_abort w x a).openable ≡ w.openable
closed_abort w A (Aborts p) = refl
closed_abort w B (Aborts p) = refl
closed_abort w x NoPeer = refl
closed_abort w x TooLong = refl

pub closed_end : (w : World) (x : Side) (t : EndView) → (with_end w x t).openable ≡ w.openable
closed_end w A t = refl
closed_end w B t = refl

pub closed_packet : (w : World) (x : Side) (p : Packet) → (with_packet w x p).openable ≡ w.openable
closed_packet w A p = refl
closed_packet w B p = refl

pub closed_came : (w : World) (x : Side) (t : EndView) → (came w x t).openable ≡ false
closed_came w A t = refl
closed_came w B t = refl

pub closed_log : (w : World) (x : Side) (t : EndView) (l : Log) → (with_log (with_end w x t) x l).openable ≡ w.openable
closed_log w A t l = refl
closed_log w B t l = refl

-- ---- with the dates of the packets

module _ (d : Dates) where
  -- both directions between the end of this side and the one across
  abbrev pub MetAt : World → Side → Type 0
  MetAt w x = IsPair (end_of w x) (end_of w (other x)) (asked_at w x) (asked_at w (other x)) (dated_bag d w x) (dated_bag d w (other x))

  -- the endpoints have met, and are closed to an opening without packets
  pub record IsMetWorld (w : World) : Type 0 where
    pub closed : w.openable ≡ false
    pub met : MetAt w A

  pub at_side : (w : World) (x : Side) → MetAt w A → MetAt w x
  at_side w A m = m
  at_side w B m = pair_round w.a w.b (asked_at w A) (asked_at w B) (dated_bag d w A) (dated_bag d w B) m

  pub from_side : (w : World) (x : Side) → MetAt w x → MetAt w A
  from_side w A m = m
  from_side w B m = pair_round w.b w.a (asked_at w B) (asked_at w A) (dated_bag d w B) (dated_bag d w A) m

  -- the end of this side is another, after a packet of its own more
  abbrev pub MetWith : World → Side → EndView → List ChunkMeaning → Type 0
  MetWith w x t xs =
      IsPair t (end_of w (other x)) (asked_at w x) (asked_at w (other x)) (dated_bag d w x ++ all_dated (d x (suc (length (bag_of w x)))) xs) (dated_bag d w (other x))

  abbrev pub Before : World → Side → EndView → Type 0
  Before w x t = IsPair t (end_of w (other x)) (asked_at w x) (asked_at w (other x)) (dated_bag d w x) (dated_bag d w (other x))

  pub now_at : (w : World) (x : Side) → MetAt w x → Before w x (end_now w x)
  now_at w x m = pair_now (end_of w (other x)) (asked_at w x) (asked_at w (other x)) (dated_bag d w x) (dated_bag d w (other x)) (end_of w x) (clock_of w x) m (omega arith)

  -- ---- putting an endpoint back into the world

  pub put_end : (w : World) (x : Side) (t : EndView) → Before w x t → MetAt (with_end w x t) x
  put_end w A t m = m
  put_end w B t m = m

  pub came_end : (w : World) (x : Side) (t : EndView) → Before w x t → MetAt (came w x t) x
  came_end w A t m = m
  came_end w B t m = m

  pub put_packet : (w : World) (x : Side) (p : Packet) → MetWith w x (end_of w x) p.chunks → MetAt (with_packet w x p) x
  put_packet w A p m = subst (λ (xs : List Dated). IsPair w.a w.b (asked_at w A) (asked_at w B) xs (dated_bag d w B)) (sym (bag_push (d A) w.from_a p)) m
  put_packet w B p m = subst (λ (xs : List Dated). IsPair w.b w.a (asked_at w B) (asked_at w A) xs (dated_bag d w A)) (sym (bag_push (d B) w.from_b p)) m

  pub put_both : (w : World) (x : Side) (t : EndView) (p : Packet) → MetWith w x t p.chunks → MetAt (with_packet (with_end w x t) x p) x
  put_both w A t p m = put_packet (with_end w A t) A p m
  put_both w B t p m = put_packet (with_end w B t) B p m

  pub quiet_packet : (w : World) (x : Side) (p : Packet) → AreOpening p.chunks → MetAt w x → MetAt (with_packet w x p) x
  quiet_packet w x p opening m =
      put_packet w x p (pair_quiet (end_of w x) (end_of w (other x)) (asked_at w x) (asked_at w (other x)) (dated_bag d w x) (dated_bag d w (other x)) m
      (d x (suc (length (bag_of w x)))) p.chunks opening)

  pub put_verdict : (w : World) (x : Side) (v : Verdict) → OpensOrEnds v → MetAt w x → MetAt (with_verdict w x v) x
  put_verdict w x Taken opening m = m
  put_verdict w x (Dropped n) opening m = m
  put_verdict w x (Answer p) opening m = quiet_packet w x p opening m

  pub put_abort : (w : World) (x : Side) (e : EndView) (r : List ℕ) (m : MetAt w x) → MetAt (with_abort w x (abort_answer e r)) x
  put_abort w x e r m = go (peer_tag e.phase)
    where
      by : (n : ℕ) (b : Bool) → MetAt (with_abort w x (if b then Aborts (abort_packet e n r) else TooLong)) x
      by n true = quiet_packet w x (abort_packet e n r) (one_opening _ refl) m
      by n false = m

      go : (o : Option ℕ) → MetAt (with_abort w x (abort_answer_to e r o)) x
      go None = m
      go (Some n) = by n (nat_le (size_of_packet (abort_packet e n r).chunks) e.configuration.limit)

  -- ---- a packet arrived

  pub told_of : (w : World) (x : Side) (t : EndView) (v : Verdict) → Before w x t → OpensOrEnds v → IsMetWorld (with_verdict (came w x t) x v)
  told_of w x t v k opens = record {
    closed = closed_verdict (came w x t) x v ∙ closed_came w x t;
    met = from_side (with_verdict (came w x t) x v) x (put_verdict (came w x t) x v opens (came_end w x t k));
  }

  pub only_came : (w : World) (x : Side) (t : EndView) → Before w x t → IsMetWorld (came w x t)
  only_came w x t k = record { closed = closed_came w x t; met = from_side (came w x t) x (came_end w x t k) }

  -- ---- the user

  pub sent_at : (w : World) (x : Side) (c : Call) → MetAt w x →
      MetAt (with_log (with_end w x (send_leaves (send_answer (end_of w x) c) (end_of w x) c)) x (accepted w x (send_answer (end_of w x) c) c)) x
  sent_at w A c m = go (send_answer w.a c) (pair_sent w.a w.b (asked_at w A) (asked_at w B) (dated_bag d w A) (dated_bag d w B) c m)
    where
      go : (o : SendAnswer) → IsPair (send_leaves o w.a c) w.b (asked_more (asked_at w A) o c) (asked_at w B) (dated_bag d w A) (dated_bag d w B) →
          MetAt (with_log (with_end w A (send_leaves o w.a c)) A (accepted w A o c)) A
      go (Ticket t) k = k
      go (Refused r) k = k
      go NotOpen k = k
  sent_at w B c m = go (send_answer w.b c) (pair_sent w.b w.a (asked_at w B) (asked_at w A) (dated_bag d w B) (dated_bag d w A) c m)
    where
      go : (o : SendAnswer) → IsPair (send_leaves o w.b c) w.a (asked_more (asked_at w B) o c) (asked_at w A) (dated_bag d w B) (dated_bag d w A) →
          MetAt (with_log (with_end w B (send_leaves o w.b c)) B (accepted w B o c)) B
      go (Ticket t) k = k
      go (Refused r) k = k
      go NotOpen k = k

  pub abandoned_there : (w : World) (x : Side) (k : ℕ) → MetAt w x →
      MetAt (with_log (with_end w x (abandoned_at (end_of w x) k)) x (named_at (logged_one w x k (abandoned_at (end_of w x) k)) (abandons (end_of w x) k) k)) x
  abandoned_there w A k m = pair_abandoned w.a w.b (asked_at w A) (asked_at w B) (dated_bag d w A) (dated_bag d w B) k m
  abandoned_there w B k m = pair_abandoned w.b w.a (asked_at w B) (asked_at w A) (dated_bag d w B) (dated_bag d w A) k m

  -- ---- a time

  -- the clock of one endpoint goes on
  pub goes_on : (w : World) (x : Side) (m : ℕ) → MetAt w x → MetAt (with_clock w x m) x
  goes_on w A m k = pair_clock w.a w.b (asked_at w A) (asked_at w B) (dated_bag d w A) (dated_bag d w B) m k
  goes_on w B m k = pair_clock w.b w.a (asked_at w B) (asked_at w A) (dated_bag d w B) (dated_bag d w A) m k

  -- an endpoint is notified by its clock
  pub moment_at : (w : World) (x : Side) → MetAt w x →
      MetAt (with_log (with_end w x (ticked (end_of w x) (clock_of w x))) x (logged w x (ticked (end_of w x) (clock_of w x)))) x
  moment_at w A k = pair_ticked w.b (asked_at w A) (asked_at w B) (dated_bag d w A) (dated_bag d w B) w.a w.clock_a k (omega arith)
  moment_at w B k = pair_ticked w.a (asked_at w B) (asked_at w A) (dated_bag d w B) (dated_bag d w A) w.b w.clock_b k (omega arith)

  -- both of it at both endpoints, which is the same as one after the other
  pub passes_at : (w : World) (m : ℕ) → MetAt w A → MetAt (record w {
    a = ticked w.a (max w.clock_a m);
    b = ticked w.b (max w.clock_b m);
    log_a = logged w A (ticked w.a (max w.clock_a m));
    log_b = logged w B (ticked w.b (max w.clock_b m));
    clock_a = max w.clock_a m;
    clock_b = max w.clock_b m;
  }) A
  passes_at w m k =
      let here = with_clock w A m in
      let late = with_clock here B m in
      let told = with_log (with_end late A (ticked late.a late.clock_a)) A (logged late A (ticked late.a late.clock_a)) in
      from_side (with_log (with_end told B (ticked told.b told.clock_b)) B (logged told B (ticked told.b told.clock_b))) B
      (moment_at told B (at_side told B (moment_at late A (from_side late B (goes_on here B m (at_side here B (goes_on w A m k)))))))
