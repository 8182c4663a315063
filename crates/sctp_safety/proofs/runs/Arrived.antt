-- If a sender is drained and the receiver at its peer is at rest, no message is missing: each was delivered, or abandoned.
use Rattle.std.proofs.Common.{◌≡◌, ℕ, zero, suc, ◌<◌, ◌≤◌, ◌⊎◌, ◌==◌, ◌&&◌, true, List, [], ◌∷◌, length, Option, Some, None, inl, inr, refl, sym, subst, ap, arith, eqb-true, ◌∙◌}
use Rattle.std.proofs.lemmas.Bool.{cases_lt, and_parts}
use Rattle.sctp_model.specs.numbers.Lists.{Has}
use Rattle.sctp_model.specs.messages.Format.{Format, Kind, Ordered, Unordered, Lane, ordered_lane}
use Rattle.sctp_model.specs.messages.Plan.{Message, Entry, Part, entry_at, message_at, IsClosed}
use Rattle.sctp_model.specs.messages.Pieces.{piece_of}
use Rattle.sctp_model.specs.sender.SenderView.{SenderView}
use Rattle.sctp_model.specs.receiver.ReceiverView.{ReceiverView, Reaches}
use Rattle.sctp_model.specs.world.Safe.{WasHanded}
use Rattle.sctp_model.specs.world.Calls.{Asked}
use Rattle.sctp_model.specs.sender.Entries.{continued, one_if_some, in_part, sum_below}
use Rattle.sctp_model.specs.sender.Readers.{drained}
use Rattle.sctp_model.specs.receiver.Laws.{IsIdle}
use Rattle.sctp_model.specs.world.Premises.{IsAllArrived}
use Rattle.sctp_safety.specs.Way.{Way}
use Rattle.sctp_safety.proofs.lists.Basics.{lane_is, each_or, item_at-within, item_at-above}
use Rattle.sctp_safety.proofs.moves.Facts.{Good, IsLost, IsOver}
use Rattle.sctp_safety.proofs.plan.EntryLemmas.{lost_at}
use Rattle.sctp_safety.proofs.plan.PlanLemmas.{message_of}
use Rattle.sctp_safety.proofs.plan.OneMessage.{whole_when_kept}
use Rattle.sctp_safety.proofs.moves.SafeWhenGood.{settled_at}
use Rattle.sctp_safety.proofs.plan.InPart.{idle_closed}
use Rattle.sctp_safety.proofs.plan.Spread.{lower_to}
use Rattle.sctp_safety.proofs.plan.WaitedFor.{not_all_reached}
use Rattle.sctp_safety.proofs.runs.Dates.{Dated}
use Rattle.sctp_safety.proofs.runs.Direction.{way_of, Direction}
use Rattle.sctp_safety.proofs.runs.Sending.{good_here}

-- ---- a drained sender

pub record IsEmpty (v : SenderView) : Type 0 where
  pub queue : v.queue ≡ []
  pub idle : (s : ℕ) → s < v.streams → continued v.plan s ≡ None
  pub all : v.cum ≡ length v.plan.entries

nothing_in : {A : Type 0} (xs : List A) → length xs ≡ 0 → xs ≡ []
nothing_in [] e = refl
nothing_in (x ∷ xs) e = absurd (omega (arith, e))

each_nothing : (g : ℕ → ℕ) (n : ℕ) → sum_below g n ≡ 0 → (s : ℕ) → s < n → g s ≡ 0
each_nothing g zero e s lt = absurd (omega (arith, lt))
each_nothing g (suc n) e s lt = go (cases_lt s n) (λ less. each_nothing g n (omega (arith, e)) s less)
  where
    go : (s < n) ⊎ (n ≤ s) → (s < n → g s ≡ 0) → g s ≡ 0
    go (inl less) before = before less
    go (inr le) before = let same : s ≡ n = omega (arith, le, lt) in ap g same ∙ omega (arith, e)

pub drained_is : (v : SenderView) → drained v ≡ true → IsEmpty v
drained_is v e = record {
  queue = nothing_in v.queue (eqb-true (length v.queue) 0 both.0);
  idle = λ s lt. none (continued v.plan s) (each_nothing (λ u. one_if_some (continued v.plan u)) v.streams (eqb-true (in_part v) 0 more.0) s lt);
  all = eqb-true v.cum (length v.plan.entries) more.1;
}
  where
    both : ((length v.queue == 0) ≡ true) × (((in_part v == 0) && (v.cum == length v.plan.entries)) ≡ true)
    both = and_parts (length v.queue == 0) ((in_part v == 0) && (v.cum == length v.plan.entries)) e

    more : ((in_part v == 0) ≡ true) × ((v.cum == length v.plan.entries) ≡ true)
    more = and_parts (in_part v == 0) (v.cum == length v.plan.entries) both.1

    none : (o : Option Entry) → one_if_some o ≡ 0 → o ≡ None
    none None h = refl
    none (Some x) h = absurd (cc)

-- ---- nothing is missing

module _ (w : Way) (g : Good w) (idle : IsIdle w.format w.receiver) (all : w.sender.cum ≡ length w.sender.plan.entries)
    (closed : (l : Lane) (n : ℕ) (m : Message) → message_at w.sender.plan l n ≡ Some m → IsClosed w.sender.plan l n) where
  abbrev IsArrived : Lane → ℕ → Type 0
  IsArrived l n = (w.sender.abandoned l n ≡ true) ⊎ WasHanded w.sender.plan w.receiver l n

  -- all that has an index was acknowledged, so reached
  all_reached : (i : ℕ) → 0 < i → i ≤ length w.sender.plan.entries → Reaches w.receiver i
  all_reached i some le = g.between.cum i (omega (arith, all, le))

  -- a message that is waited for next isn't all reached, once it is closed
  none_waits : (s : ℕ) (m : Message) → message_at w.sender.plan (ordered_lane s) (w.receiver.next s) ≡ Some m → ⊥
  none_waits s m named =
      not_all_reached w.format w.sender w.receiver s g.held (idle.ordered s) g.arranged (closed (ordered_lane s) (w.receiver.next s) m named)
      (λ i e here own. all_reached i (item_at-above w.sender.plan.entries i e here) (item_at-within w.sender.plan.entries i e here))

  ordered_arrives : (s n : ℕ) (m : Message) → message_at w.sender.plan (ordered_lane s) n ≡ Some m → IsArrived (ordered_lane s) n
  ordered_arrives s n m named = go (cases_lt n (w.receiver.next s))
    where
      turn : WasHanded w.sender.plan w.receiver (ordered_lane s) n ⊎ (w.sender.abandoned (ordered_lane s) n ≡ true) → IsArrived (ordered_lane s) n
      turn (inl h) = inr h
      turn (inr h) = inl h

      go : (n < w.receiver.next s) ⊎ (w.receiver.next s ≤ n) → IsArrived (ordered_lane s) n
      go (inl below) = turn (g.held.told.passed s n below)
      go (inr le) = let first = lower_to (w.sender.plan.messages (ordered_lane s)) (w.receiver.next s) n m le named in absurd (none_waits s first.0 first.1)

  -- a fragment that was reached is kept, if its message isn't over
  kept_or_over : (l : Lane) (n : ℕ) (m : Message) → message_at w.sender.plan l n ≡ Some m → (k i : ℕ) → entry_at w.sender.plan i ≡ Some (Part l n k) →
      Has w.receiver.kept (piece_of w.format i l n k m) ⊎ IsArrived l n
  kept_or_over l n m named k i here = go (all_reached i some (item_at-within w.sender.plan.entries i _ here))
    where
      some : 0 < i
      some = item_at-above w.sender.plan.entries i _ here

      settled : Has w.receiver.kept (piece_of w.format i l n k m) ⊎ IsOver w.format w.sender w.receiver l n → Has w.receiver.kept (piece_of w.format i l n k m) ⊎ IsArrived l n
      settled (inl h) = inl h
      settled (inr (inl h)) = inr (inr h)
      settled (inr (inr (gone, done))) = inr (inl gone)

      seen : w.receiver.seen i ≡ true → Has w.receiver.kept (piece_of w.format i l n k m) ⊎ IsArrived l n
      seen h = settled (settled_at w.format w.sender w.receiver i l n k m named here (g.held.seen i h))

      jumped : (w.receiver.seen i ≡ true) ⊎ IsLost w.format w.sender w.receiver i → Has w.receiver.kept (piece_of w.format i l n k m) ⊎ IsArrived l n
      jumped (inl h) = seen h
      jumped (inr x) = inr (inl (lost_at w.format w.sender w.receiver i l n (Part l n k) here (refl, refl) x))

      go : Reaches w.receiver i → Has w.receiver.kept (piece_of w.format i l n k m) ⊎ IsArrived l n
      go (inl h) = seen h
      go (inr h) = jumped (g.held.jumped i some h)

  unordered_arrives : (l : Lane) (n : ℕ) (m : Message) → l.kind ≡ Unordered → message_at w.sender.plan l n ≡ Some m → IsClosed w.sender.plan l n → IsArrived l n
  unordered_arrives l n m kind named (inl (i, here)) = inl (g.sound.ended i l n here)
  unordered_arrives l n m kind named (inr (x, (there, each))) = go (each_or (length x.fragments) part)
    where
      IsThere : ℕ → Type 0
      IsThere k = (i : ℕ) × (entry_at w.sender.plan i ≡ Some (Part l n k)) × Has w.receiver.kept (piece_of w.format i l n k x)

      part : (k : ℕ) → k < length x.fragments → IsThere k ⊎ IsArrived l n
      part k b = which (kept_or_over l n x there k (each k b).0 (each k b).1)
        where
          which : Has w.receiver.kept (piece_of w.format (each k b).0 l n k x) ⊎ IsArrived l n → IsThere k ⊎ IsArrived l n
          which (inl h) = inl ((each k b).0, (each k b).1, h)
          which (inr h) = inr h

      go : ((k : ℕ) → k < length x.fragments → IsThere k) ⊎ IsArrived l n → IsArrived l n
      go (inr h) = h
      go (inl whole) =
          let y = whole_when_kept w.format w.sender.plan g.arranged l n x there w.receiver.kept g.held.kept whole in
          absurd (idle.unordered y.head (ap (λ (k : Lane). k.kind) y.lane ∙ kind) (y.head ∷ y.rest) (y.whole, y.within, inl refl))

  every_message : (l : Lane) (n : ℕ) (m : Message) → message_at w.sender.plan l n ≡ Some m → IsArrived l n
  every_message l n m named = go l.kind refl
    where
      go : (k : Kind) → l.kind ≡ k → IsArrived l n
      go Ordered e =
          let same : ordered_lane l.stream ≡ l = lane_is (ordered_lane l.stream) l refl (sym e) in
          subst (λ (k : Lane). IsArrived k n) same (ordered_arrives l.stream n m (subst (λ (k : Lane). message_at w.sender.plan k n ≡ Some m) (sym same) named))
      go Unordered e = unordered_arrives l n m e named (closed l n m named)

  pub all_arrives : IsAllArrived w.sender w.receiver
  all_arrives l n (i, e, here, of) = let m = message_of w.format w.sender.plan g.arranged i e l n here of in every_message l n m.0 m.1

-- Of a drained sender nothing is missing at its peer.
pub drained_arrives : (f : Format) (n : ℕ) (a : SenderView) (u : Asked) (r : ReceiverView) (out back : List Dated) → Direction f n a u r out back →
    drained a ≡ true → IsAllArrived a r
drained_arrives f n a u r out back d empty = all_arrives (way_of f n a u r d.bags) good d.idle is.all closed
  where
    good : Good (way_of f n a u r d.bags)
    good = good_here f n a u r out back d

    is : IsEmpty a
    is = drained_is a empty

    closed : (l : Lane) (k : ℕ) (m : Message) → message_at a.plan l k ≡ Some m → IsClosed a.plan l k
    closed l k m named =
        let there = good.sound.streamed l k m named in
        let same = d.outbound in
        idle_closed f a.plan good.arranged l.stream (is.idle l.stream (omega (arith, there, same))) l k m refl named
