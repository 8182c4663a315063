-- A message in part is the one of its stream's last entry: all others of the stream are closed, and it may take its next fragment.
use Rattle.std.proofs.Common.{◌≡◌, ℕ, suc, ◌+◌, ◌-◌, ◌<◌, ◌≤◌, ◌⊎◌, ◌==◌, nat_lt, true, false, length, Option, Some, None, inl, inr, refl, sym, subst, arith, ◌∙◌, eqb-true}
use Rattle.std.specs.Prelude.{option_and_then}
use Rattle.std.proofs.lemmas.Bool.{and_parts, cases_Bool, cases_eq}
use Rattle.std.proofs.lemmas.Bool.Decides.{nat_tests}
use Rattle.sctp_model.specs.messages.Format.{Format, Lane, same_lane}
use Rattle.sctp_model.specs.messages.Plan.{Message, Entry, Part, End, Plan, entry_at, message_at, IsAssigned, IsComplete, HasEnd, IsClosed}
use Rattle.sctp_model.specs.sender.SenderView.{SenderView}
use Rattle.sctp_model.specs.sender.Words.{when}
use Rattle.sctp_model.specs.sender.Entries.{entry_lane, entry_number, fragments_in, latest, next_part, continued, is_of, is_in_part}
use Rattle.sctp_model.proofs.sender.WordLaws.{when_there, when_absent, some_is}
use Rattle.sctp_model.proofs.sender.PointLaws.{of_itself}
use Rattle.sctp_safety.specs.Way.{IsAllClosed}
use Rattle.sctp_safety.proofs.moves.Facts.{IsOrderedPlan}
use Rattle.sctp_safety.proofs.lists.Basics.{same_lane-true}
use Rattle.sctp_safety.proofs.plan.PlanLemmas.{message_of, assigned_below, renamed}
use Rattle.sctp_safety.proofs.plan.Searches.{IsLatestIn, latest_is, latest_none}

-- an end mark is after every fragment of its message
abbrev pub AreEndsLast : Plan → Type 0
AreEndsLast p = (i j : ℕ) (l : Lane) (n k : ℕ) → entry_at p i ≡ Some (Part l n k) → entry_at p j ≡ Some (End l n) → i < j

-- ---- a stream whose last message is closed

-- two tickets: the first is lower, they are one, or the first is higher
by_tickets : {P : Type 0} (a b : ℕ) → (a < b → P) → (a ≡ b → P) → (b < a → P) → P
by_tickets {P} a b low one high = by_test (cases_Bool (nat_lt a b)) (cases_eq a b)
  where
    by_test : (nat_lt a b ≡ true) ⊎ (nat_lt a b ≡ false) → (a ≡ b) ⊎ (a ≡ b → ⊥) → P
    by_test (inl lt) same = low (grind (arith, lt, nat_tests))
    by_test (inr ge) (inl same) = one same
    by_test (inr ge) (inr other) = high (grind (arith, ge, other, nat_tests))

-- A message of a stream is closed if that of the last entry is: with a lower ticket it was before; a higher ticket would have an entry after it.
closed_with_last : (f : Format) (p : Plan) → IsOrderedPlan f p → (s : ℕ) (e : Entry) → IsLatestIn p s e → IsClosed p (entry_lane e) (entry_number e) → IsAllClosed p s
closed_with_last f p a s e r done l n m on named =
    by_tickets m.ticket newest.0.ticket
    (λ low. a.closed l (entry_lane e) n (entry_number e) m newest.0 named newest.1 streams low)
    (λ one. let same = a.different l (entry_lane e) n (entry_number e) m newest.0 named newest.1 one in
    renamed (IsClosed p) (entry_lane e) l (entry_number e) n (sym same.0) (sym same.1) done)
    (λ high. absurd (let behind : r.index < first.0 = a.order r.index first.0 e (Part l n 0) (entry_lane e) l (entry_number e) n newest.0 m r.here (of_itself e) newest.1 first.1 (refl, refl) named (sym streams) high in
    let before : first.0 ≤ r.index = r.last first.0 (Part l n 0) first.1 on in omega (arith, behind, before)))
  where
    newest : (x : Message) × (message_at p (entry_lane e) (entry_number e) ≡ Some x)
    newest = message_of f p a r.index e (entry_lane e) (entry_number e) r.here (of_itself e)

    first : IsAssigned p l n 0
    first = a.begun l n m named

    streams : l.stream ≡ (entry_lane e).stream
    streams = on ∙ sym r.stream

-- a message whose last fragment has an index is complete: each fragment has the one before it
complete_to : (f : Format) (p : Plan) → IsOrderedPlan f p → (i : ℕ) (l : Lane) (n k : ℕ) (m : Message) → entry_at p i ≡ Some (Part l n k) → message_at p l n ≡ Some m → length m.fragments ≤ suc k → IsComplete p l n m
complete_to f p a i l n k m here named all = (named, each)
  where
    each : (j : ℕ) → j < length m.fragments → IsAssigned p l n j
    each j low =
        let place : k ≡ j + (k - j) = omega (arith, low, all) in
        assigned_below f p a l n j (k - j) (i, subst (λ (x : ℕ). entry_at p i ≡ Some (Part l n x)) place here)

-- the test of what is after a fragment, for its message
behind_part : (p : Plan) (l : Lane) (n k : ℕ) (m : Message) (o : Option Entry) → message_at p l n ≡ Some m → next_part p (Part l n k) ≡ o → when (nat_lt (suc k) (length m.fragments)) (Part l n (suc k)) ≡ o
behind_part p l n k m o named is = subst (λ (x : Option Message). when (nat_lt (suc k) (length (fragments_in x))) (Part l n (suc k)) ≡ o) named is

-- If a stream has nothing to go on with, all its messages are closed.
pub idle_closed : (f : Format) (p : Plan) → IsOrderedPlan f p → (s : ℕ) → continued p s ≡ None → IsAllClosed p s
idle_closed f p a s idle = by_last (latest s p.entries) refl idle
  where
    by_last : (o : Option Entry) → latest s p.entries ≡ o → option_and_then (next_part p) o ≡ None → IsAllClosed p s
    by_last None none quiet = λ l n m on named. let first = a.begun l n m named in absurd (latest_none p s none first.0 (Part l n 0) first.1 on)
    by_last (Some (End l n)) found quiet = let r = latest_is p s (End l n) found in closed_with_last f p a s (End l n) r (inl (r.index, r.here))
    by_last (Some (Part l n k)) found quiet =
        let r = latest_is p s (Part l n k) found in
        let m = a.within r.index l n k r.here in
        let over = when_absent (nat_lt (suc k) (length m.0.fragments)) (Part l n (suc k)) (behind_part p l n k m.0 None m.1 quiet) in
        closed_with_last f p a s (Part l n k) r (inr (m.0, complete_to f p a r.index l n k m.0 r.here m.1 (grind (arith, over, nat_tests))))

-- ---- a stream with a message in part

-- If a stream goes on, the message in part may take this fragment.
pub record GoesOnWith (p : Plan) (s : ℕ) (e : Entry) : Type 0 where
  pub lane : Lane
  pub number : ℕ
  pub fragment : ℕ
  pub message : Message
  pub stream : lane.stream ≡ s
  pub same : Part lane number (suc fragment) ≡ e
  pub named : message_at p lane number ≡ Some message
  pub has : IsAssigned p lane number fragment
  pub free : IsAssigned p lane number (suc fragment) → ⊥
  pub no_end : HasEnd p lane number → ⊥
  pub bound : suc fragment < length message.fragments

-- the last entry of the stream is the fragment before it: neither a further one nor an end mark is after it
goes_from : (f : Format) (p : Plan) → IsOrderedPlan f p → AreEndsLast p → (s : ℕ) (e : Entry) (l : Lane) (n k : ℕ) → IsLatestIn p s (Part l n k) → next_part p (Part l n k) ≡ Some e → GoesOnWith p s e
goes_from f p a ends s e l n k r next = record {
  lane = l;
  number = n;
  fragment = k;
  message = m.0;
  stream = r.stream;
  same = test.1;
  named = m.1;
  has = (r.index, r.here);
  free = free;
  no_end = no_end;
  bound = grind (arith, lower, nat_tests);
}
  where
    m : (x : Message) × (message_at p l n ≡ Some x) × (k < length x.fragments)
    m = a.within r.index l n k r.here

    test : (nat_lt (suc k) (length m.0.fragments) ≡ true) × (Part l n (suc k) ≡ e)
    test = when_there (nat_lt (suc k) (length m.0.fragments)) (Part l n (suc k)) e (behind_part p l n k m.0 (Some e) m.1 next)

    lower : nat_lt (suc k) (length m.0.fragments) ≡ true
    lower = test.0

    free : IsAssigned p l n (suc k) → ⊥
    free (j, there) =
        let before = a.follows j l n k there in
        let one : before.0 ≡ r.index = a.once before.0 r.index l n k before.2 r.here in
        let low : before.0 < j = before.1 in
        let high : j ≤ r.index = r.last j (Part l n (suc k)) there r.stream in
        omega (arith, one, low, high)

    no_end : HasEnd p l n → ⊥
    no_end (j, there) =
        let behind : r.index < j = ends r.index j l n k r.here there in
        let high : j ≤ r.index = r.last j (End l n) there r.stream in
        omega (arith, behind, high)

pub goes_on_with : (f : Format) (p : Plan) → IsOrderedPlan f p → AreEndsLast p → (s : ℕ) (e : Entry) → continued p s ≡ Some e → GoesOnWith p s e
goes_on_with f p a ends s e goes = by_last (latest s p.entries) refl goes
  where
    by_last : (o : Option Entry) → latest s p.entries ≡ o → option_and_then (next_part p) o ≡ Some e → GoesOnWith p s e
    by_last None found next = absurd (cc)
    by_last (Some (End l n)) found next = absurd (cc)
    by_last (Some (Part l n k)) found next = goes_from f p a ends s e l n k (latest_is p s (Part l n k) found) next

-- a message in part takes further indexes
pub not_closed : (p : Plan) (s : ℕ) (e : Entry) → (g : GoesOnWith p s e) → IsClosed p g.lane g.number → ⊥
not_closed p s e g (inl marked) = g.no_end marked
not_closed p s e g (inr (x, (named, each))) =
    let mine = g.named in
    let same : g.message ≡ x = cc in
    g.free (each (suc g.fragment) (subst (λ (y : Message). suc g.fragment < length y.fragments) same g.bound))

-- what its stream goes on with says whether a message is in part
pub in_part_open : (f : Format) (v : SenderView) → IsOrderedPlan f v.plan → AreEndsLast v.plan → (l : Lane) (n : ℕ) → is_in_part v l n ≡ true → IsClosed v.plan l n → ⊥
in_part_open f v a ends l n in_part closed =
    let there = some_is (is_of l n) (continued v.plan l.stream) in_part in
    let g = goes_on_with f v.plan a ends l.stream there.0 there.1 in
    let mine : is_of l n (Part g.lane g.number (suc g.fragment)) ≡ true = subst (λ (y : Entry). is_of l n y ≡ true) (sym g.same) there.2 in
    let tests = and_parts (same_lane l g.lane) (n == g.number) mine in
    not_closed v.plan l.stream there.0 g (renamed (IsClosed v.plan) l g.lane n g.number (same_lane-true l g.lane tests.0) (eqb-true n g.number tests.1) closed)
