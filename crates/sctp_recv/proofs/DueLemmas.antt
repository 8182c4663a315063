-- What is due on a stream, one message after another taken out of its ordered chunks.
use Rattle.std.proofs.Common.{◌≡◌, ◌↔◌, ℕ, zero, suc, ◌+◌, ◌-◌, ◌<◌, ◌≤◌, max, nat_lt, true, List, [], ◌∷◌, ◌++◌, Option, None, Some, refl, sym, ◌∙◌, ap, subst, append_assoc, arith}
use Rattle.std.specs.Prelude.{not, ◌&&◌}
use Rattle.std.proofs.lemmas.Bool.Decides.{nat_tests}
use Rattle.std.proofs.lemmas.Grind.{common_steps}
use Rattle.sctp_model.specs.messages.Format.{Format, Lane, ordered_lane}
use Rattle.sctp_model.specs.messages.Pieces.{Piece, is_number_below}
use Rattle.sctp_model.specs.receiver.ReceiverView.{Handed, ReceiverView}
use Rattle.sctp_model.specs.receiver.Receiving.{IsWholeNumber, IsLowest, HasNoWhole, message_of, IsDue, Stop, GivesWhole, Past}
use Rattle.sctp_model.proofs.receiver.Filters.{filter_both, filter_where, filter_passed}
use Rattle.sctp_model.proofs.receiver.OneStep.{filter_has}
use Rattle.sctp_model.proofs.receiver.OfLane.{whole_of}
use Rattle.sctp_model.proofs.receiver.RowFacts.{row_same}
use Rattle.sctp_chains.specs.WholeOf.{from_number}
use Rattle.sctp_recv.specs.inner.Giving.{IsDueView, IsRest, IsDueSoFar}

-- ---- chunks from a number on

both_from : (j k : ℕ) (o : Option ℕ) → j ≤ k → (not (is_number_below j o) && not (is_number_below k o)) ≡ not (is_number_below k o)
both_from j k None le = refl
both_from j k (Some n) le = grind (arith, le, nat_tests, common_steps)

pub from_twice : (j k : ℕ) (xs : List Piece) → j ≤ k → from_number k (from_number j xs) ≡ from_number k xs
from_twice j k xs le =
    filter_both (λ (x : Piece). not (is_number_below j x.number)) (λ (x : Piece). not (is_number_below k x.number)) xs
    ∙ filter_where (λ (x : Piece). not (is_number_below j x.number) && not (is_number_below k x.number)) (λ (x : Piece). not (is_number_below k x.number)) xs (λ x there. both_from j k x.number le)

not_below_own : (n : ℕ) → not (nat_lt n n) ≡ true
not_below_own n = grind (arith, nat_tests)

number_from : (f : Format) (kept : List Piece) (l : Lane) (n : ℕ) (xs : List Piece) → IsWholeNumber f kept l n xs ↔ IsWholeNumber f (from_number n kept) l n xs
number_from f kept l n [] = ((λ w. absurd w.0), (λ w. absurd w.0))
number_from f kept l n (x ∷ xs) = (
  (λ w. (
    w.0,
    (λ z there. filter_passed (λ (y : Piece). not (is_number_below n y.number)) kept z
        (ap (λ (o : Option ℕ). not (is_number_below n o)) ((row_same f x xs z w.0.1 there).1 ∙ w.2.1) ∙ not_below_own n) (w.1 z there)),
    w.2,
  )),
  (λ w. (w.0, (λ z there. filter_has (λ (y : Piece). not (is_number_below n y.number)) kept z (w.1 z there)), w.2)),
)

pub rest_first : (next : ℕ) (kept : List Piece) → IsRest next kept kept
rest_first next kept = record { same = λ k le. refl }

pub rest_next : (next n : ℕ) (kept rest : List Piece) → IsRest next kept rest → next ≤ n → IsRest (suc n) kept (from_number (suc n) rest)
rest_next next n kept rest h low = record { same = λ k le. from_twice (suc n) k rest le ∙ h.same k (omega (arith, low, le)) }

pub whole_rest : (f : Format) (l : Lane) (next n : ℕ) (kept rest : List Piece) (xs : List Piece) → IsRest next kept rest → next ≤ n → IsWholeNumber f rest l n xs ↔ IsWholeNumber f kept l n xs
whole_rest f l next n kept rest xs h low = (
  (λ w. (number_from f kept l n xs).1 (subst (λ (ps : List Piece). IsWholeNumber f ps l n xs) (h.same n low) ((number_from f rest l n xs).0 w))),
  (λ w. (number_from f rest l n xs).1 (subst (λ (ps : List Piece). IsWholeNumber f ps l n xs) (sym (h.same n low)) ((number_from f kept l n xs).0 w))),
)

-- ---- what is due

-- numbers that are skipped, and not whole, are passed over
past_all : (f : Format) (r : ReceiverView) (s d n m o : ℕ) (ms : List Handed) → n + d ≡ m → ((k : ℕ) → n ≤ k → k < m → (k < r.skip (ordered_lane s)) × HasNoWhole f r.kept (ordered_lane s) k) →
    IsDue f r s m ms o → IsDue f r s n ms o
past_all f r s zero n m o ms e each due = let same : m ≡ n = omega arith in subst (λ (k : ℕ). IsDue f r s k ms o) same due
past_all f r s (suc d) n m o ms e each due =
    let here = each n (omega arith) (omega arith) in
    Past n o ms here.0 here.1 (past_all f r s d (suc n) m o ms (omega arith) (λ k low high. each k (omega arith) high) due)

pub due_first : (f : Format) (kept : List Piece) (s from floor : ℕ) → IsDueSoFar f kept s from floor from []
due_first f kept s from floor r v = (omega arith, λ os o due. due)

module _ (f : Format) (kept rest : List Piece) (s from floor next : ℕ) (rests : IsRest next kept rest) (r : ReceiverView) (v : IsDueView f kept s from floor r) where
  to_view : (n : ℕ) (xs : List Piece) → next ≤ n → IsWholeNumber f rest (ordered_lane s) n xs → IsWholeNumber f r.kept (ordered_lane s) n xs
  to_view n xs low w = (whole_of f r.kept (ordered_lane s) n xs).1 (subst (λ (ps : List Piece). IsWholeNumber f ps (ordered_lane s) n xs) (sym v.same) ((whole_rest f (ordered_lane s) next n kept rest xs rests low).0 w))

  from_view : (n : ℕ) (xs : List Piece) → next ≤ n → IsWholeNumber f r.kept (ordered_lane s) n xs → IsWholeNumber f rest (ordered_lane s) n xs
  from_view n xs low w = (whole_rest f (ordered_lane s) next n kept rest xs rests low).1 (subst (λ (ps : List Piece). IsWholeNumber f ps (ordered_lane s) n xs) v.same ((whole_of f r.kept (ordered_lane s) n xs).0 w))

  none_view : (n : ℕ) → next ≤ n → HasNoWhole f rest (ordered_lane s) n → HasNoWhole f r.kept (ordered_lane s) n
  none_view n low none xs w = none xs (from_view n xs low w)

-- one message more
pub due_more : (f : Format) (kept rest : List Piece) (s from floor next n : ℕ) (ms : List Handed) (x : Piece) (xs : List Piece) → IsDueSoFar f kept s from floor next ms → IsRest next kept rest →
    next ≤ n → n ≤ max next floor → ((k : ℕ) → next ≤ k → k < n → HasNoWhole f rest (ordered_lane s) k) →
    IsWholeNumber f rest (ordered_lane s) n (x ∷ xs) → IsLowest f rest (ordered_lane s) n (x ∷ xs) → IsDueSoFar f kept s from floor (suc n) (ms ++ message_of f x xs ∷ [])
due_more f kept rest s from floor next n ms x xs so rests low high none whole lowest r v = (omega (arith, (so r v).0, low), more)
  where
    more : (os : List Handed) (o : ℕ) → IsDue f r s (suc n) os o → IsDue f r s from ((ms ++ message_of f x xs ∷ []) ++ os) o
    more os o due =
        let here : IsDue f r s n (message_of f x xs ∷ os) o =
        GivesWhole n o x xs os (to_view f kept rest s from floor next rests r v n (x ∷ xs) low whole)
        (λ y ys other. lowest y ys (from_view f kept rest s from floor next rests r v n (y ∷ ys) low other)) due in
        let past = past_all f r s (n - next) next n o (message_of f x xs ∷ os) (omega (arith, low))
        (λ k lo hi. (v.skipped k (omega (arith, (so r v).0, lo)) (omega (arith, high, hi, lo)), none_view f kept rest s from floor next rests r v k lo (none k lo hi))) here in
        subst (λ (hs : List Handed). IsDue f r s from hs o) (sym (append_assoc ms (message_of f x xs ∷ []) os)) ((so r v).1 (message_of f x xs ∷ os) o past)

-- and no more
pub due_end : (f : Format) (kept rest : List Piece) (s from floor next : ℕ) (ms : List Handed) → IsDueSoFar f kept s from floor next ms → IsRest next kept rest →
    ((n : ℕ) → next ≤ n → n ≤ max next floor → HasNoWhole f rest (ordered_lane s) n) → (r : ReceiverView) → IsDueView f kept s from floor r → IsDue f r s from ms (max next floor)
due_end f kept rest s from floor next ms so rests none r v =
    let stop : IsDue f r s (max next floor) [] (max next floor) =
    Stop (max next floor) (omega (arith, v.above)) (none_view f kept rest s from floor next rests r v (max next floor) (omega arith) (none (max next floor) (omega arith) (omega arith))) in
    let past = past_all f r s (max next floor - next) next (max next floor) (max next floor) [] (omega arith)
    (λ k lo hi. (v.skipped k (omega (arith, (so r v).0, lo)) (omega (arith, lo, hi)), none_view f kept rest s from floor next rests r v k lo (none k lo (omega (arith, hi))))) stop in
    subst (λ (hs : List Handed). IsDue f r s from hs (max next floor)) (append_none ms) ((so r v).1 [] (max next floor) past)
  where
    append_none : (hs : List Handed) → hs ++ [] ≡ hs
    append_none [] = refl
    append_none (g ∷ hs) = ap (λ (ks : List Handed). g ∷ ks) (append_none hs)

-- what is due ends above the skipped numbers
pub due_above : (f : Format) (r : ReceiverView) (s n : ℕ) (ms : List Handed) (m : ℕ) → IsDue f r s n ms m → (r.skip (ordered_lane s) ≤ m) × (n ≤ m)
due_above f r s _ _ _ (Stop n above none) = (above, omega arith)
due_above f r s _ _ _ (GivesWhole n m x xs ms whole low rest) = let more = due_above f r s (suc n) ms m rest in (more.0, omega (arith, more.1))
due_above f r s _ _ _ (Past n m ms below none rest) = let more = due_above f r s (suc n) ms m rest in (more.0, omega (arith, more.1))
