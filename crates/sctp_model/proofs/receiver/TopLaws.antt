-- What the calls of a receiver do to TOP: a chunk that is kept raises it to its number, a FORWARD to the largest that it skips, and nothing else moves it.
use Rattle.std.proofs.Common.{◌≡◌, ℕ, zero, suc, ◌-◌, ◌≤◌, ◌<◌, ◌⊎◌, max, not, ◌&&◌, ◌==◌, nat_lt, Bool, true, false, List, [], ◌∷◌, ◌++◌, filter, Option, None, Some, inl, inr, refl, sym, ap, subst, arith, append_assoc, ◌∙◌}
use Rattle.std.specs.Prelude.{if◌then◌else◌}
use Rattle.std.proofs.lemmas.Bool.{and_parts, cases_eq, cases_Bool}
use Rattle.std.proofs.lemmas.Bool.Decides.{nat_tests}
use Rattle.sctp_model.specs.numbers.Lists.{Has, at}
use Rattle.sctp_model.specs.messages.Format.{Format, Interleaved, Unordered, Lane, same_kind, same_lane, ordered_lane, unordered_lane}
use Rattle.sctp_model.specs.messages.Framing.{is_skipped}
use Rattle.sctp_model.specs.messages.Pieces.{Piece, is_number_below, same_number}
use Rattle.sctp_model.specs.receiver.ReceiverView.{Handed, ReceiverView, handed}
use Rattle.sctp_model.specs.receiver.Receiving.{IsDue, Stop, GivesWhole, Past, is_below, handed_ordered, GivesOrdered, GivesAll, message_of, recorded, goes_with, without_message, handed_unordered}
use Rattle.sctp_model.specs.receiver.SackMade.{first_taken, TakeLeaves}
use Rattle.sctp_model.specs.receiver.Top.{number_on, largest_kept, largest_handed, top}
use Rattle.sctp_model.specs.receiver.ForwardTaken.{stays_by, let_go}
use Rattle.sctp_model.proofs.receiver.Giving.{at_here, at_elsewhere}
use Rattle.sctp_model.proofs.receiver.RowFacts.{lanes_same}

true_of : (b : Bool) → not b ≡ false → b ≡ true
true_of true e = refl
true_of false e = absurd (cc)

-- ---- numbers of a lane

number_same : (l k : Lane) (n : ℕ) → same_lane k l ≡ true → number_on l k (Some n) ≡ n
number_same l k n same = rw same refl

number_other : (l k : Lane) (o : Option ℕ) → same_lane k l ≡ false → number_on l k o ≡ 0
number_other l k None other = refl
number_other l k (Some n) other = rw other refl

-- it is at most this, if each number of such a chunk is
number_most : (l k : Lane) (o : Option ℕ) (m : ℕ) → ((n : ℕ) → o ≡ Some n → same_lane k l ≡ true → n ≤ m) → number_on l k o ≤ m
number_most l k None m most = omega arith
number_most l k (Some n) m most = elim (cases_Bool (same_lane k l)) [
  | inl same ↦ let told = most n refl same in let is = number_same l k n same in omega (arith, told, is)
  | inr other ↦ let is = number_other l k (Some n) other in omega (arith, is)
]

never : (b : Bool) → (b && false) ≡ false
never true = refl
never false = refl

ordered_apart : (s q : ℕ) → same_lane (ordered_lane s) (unordered_lane q) ≡ false
ordered_apart s q = never (s == q)

-- ordered chunks have no number of an unordered lane
pub ordered_none : (s q : ℕ) (o : Option ℕ) → number_on (unordered_lane q) (ordered_lane s) o ≡ 0
ordered_none s q o = number_other (unordered_lane q) (ordered_lane s) o (ordered_apart s q)

-- those of an unordered lane do
pub number_own : (s : ℕ) (o : Option ℕ) → ((i : ℕ) → o ≡ Some i → number_on (unordered_lane s) (unordered_lane s) o ≡ i) × (o ≡ None → number_on (unordered_lane s) (unordered_lane s) o ≡ 0)
number_own s o = (λ i is. ap (number_on (unordered_lane s) (unordered_lane s)) is ∙ number_same (unordered_lane s) (unordered_lane s) i itself, λ none. ap (number_on (unordered_lane s) (unordered_lane s)) none)
  where
    same : (s == s) ≡ true
    same = grind (arith, nat_tests)

    itself : same_lane (unordered_lane s) (unordered_lane s) ≡ true
    itself = ap (λ (b : Bool). b && true) same

-- ---- lists

handed_both : (l : Lane) (hs ks : List Handed) → largest_handed l (hs ++ ks) ≡ max (largest_handed l hs) (largest_handed l ks)
handed_both l [] ks = omega arith
handed_both l (h ∷ hs) ks = let more = handed_both l hs ks in omega (arith, more)

handed_none : (l : Lane) (hs : List Handed) → ((h : Handed) → Has hs h → same_lane h.lane l ≡ false) → largest_handed l hs ≡ 0
handed_none l [] other = refl
handed_none l (h ∷ hs) other =
    let here = number_other l h.lane h.number (other h (inl refl)) in
    let more = handed_none l hs (λ k there. other k (inr there)) in
    omega (arith, here, more)

-- a chunk's number is at most the largest
kept_reaches : (l : Lane) (kept : List Piece) (x : Piece) → Has kept x → number_on l x.lane x.number ≤ largest_kept l kept
kept_reaches l [] x there = absurd there
kept_reaches l (y ∷ ys) x (inl is) =
    let same : number_on l y.lane y.number ≡ number_on l x.lane x.number = ap (λ (z : Piece). number_on l z.lane z.number) is in
    omega (arith, same)
kept_reaches l (y ∷ ys) x (inr there) = let more = kept_reaches l ys x there in omega (arith, more)

-- if only chunks go whose numbers are at most m, the largest stays beside m
kept_beside : (l : Lane) (stays : Piece → Bool) (kept : List Piece) (m : ℕ) → ((y : Piece) → Has kept y → stays y ≡ false → number_on l y.lane y.number ≤ m) →
    max m (largest_kept l (filter stays kept)) ≡ max m (largest_kept l kept)
kept_beside l stays [] m low = refl
kept_beside l stays (x ∷ xs) m low = go (cases_Bool (stays x)) (kept_beside l stays xs m (λ y there. low y (inr there)))
  where
    go : (stays x ≡ true) ⊎ (stays x ≡ false) → max m (largest_kept l (filter stays xs)) ≡ max m (largest_kept l xs) → max m (largest_kept l (filter stays (x ∷ xs))) ≡ max m (largest_kept l (x ∷ xs))
    go (inl here) more = rw here (omega (arith, more))
    go (inr gone) more = let least = low x (inl refl) gone in rw gone (omega (arith, more, least))

-- ---- messages that wait after others

-- the numbers of a stream's messages, if messages were put after those of stream s
handed_more : (l : Lane) (r : ReceiverView) (s : ℕ) (ms : List Handed) (q : ℕ) →
    largest_handed l (r.taken q ++ at r.waiting s (r.waiting s ++ ms) q) ≡ (if q == s then max (largest_handed l (handed r q)) (largest_handed l ms) else largest_handed l (handed r q))
handed_more l r s ms q = elim (cases_eq q s) [
  | inl same ↦
      let is : at r.waiting s (r.waiting s ++ ms) q ≡ r.waiting q ++ ms =
      ap (at r.waiting s (r.waiting s ++ ms)) same ∙ at_here r.waiting s (r.waiting s ++ ms) ∙ ap (λ (j : ℕ). r.waiting j ++ ms) (sym same) in
      let test : (q == s) ≡ true = grind (arith, same, nat_tests) in
      rw (is, test) (ap (largest_handed l) (sym (append_assoc (r.taken q) (r.waiting q) ms)) ∙ handed_both l (handed r q) ms)
  | inr other ↦
      let is = at_elsewhere r.waiting s (r.waiting s ++ ms) q other in
      let test : (q == s) ≡ false = grind (arith, other, nat_tests) in
      rw (is, test) refl
]

-- ---- a chunk that is kept

pub top_kept : (r : ReceiverView) (x : Piece) (q : ℕ) → top (record (recorded r x) { kept = x ∷ r.kept }) q ≡ max (top r q) (number_on (unordered_lane q) x.lane x.number)
top_kept r x q = omega arith

-- ---- ordered messages that are delivered

due_lane : (f : Format) (r : ReceiverView) (s n m : ℕ) (ms : List Handed) → IsDue f r s n ms m → (h : Handed) → Has ms h → h.lane ≡ ordered_lane s
due_lane f r s n m [] (Stop _ low none) h there = absurd there
due_lane f r s n m (k ∷ ms) (GivesWhole _ _ x xs _ whole lowest rest) h (inl e) = subst (λ (g : Handed). g.lane ≡ ordered_lane s) e whole.2.0
due_lane f r s n m (k ∷ ms) (GivesWhole _ _ x xs _ whole lowest rest) h (inr there) = due_lane f r s _ m ms rest h there
due_lane f r s n m ms (Past _ _ _ low none rest) h there = due_lane f r s _ m ms rest h there

-- of an unordered lane, ordered messages have none
told_in_order : (r : ReceiverView) (s n : ℕ) (ms : List Handed) (q : ℕ) → ((h : Handed) → Has ms h → h.lane ≡ ordered_lane s) →
    largest_handed (unordered_lane q) (handed (handed_ordered r s ms n) q) ≡ largest_handed (unordered_lane q) (handed r q)
told_in_order r s n ms q lanes = by_case (q == s) (handed_more (unordered_lane q) r s ms q)
  where
    none : largest_handed (unordered_lane q) ms ≡ 0
    none = handed_none (unordered_lane q) ms (λ h there. ap (λ (l : Lane). same_lane l (unordered_lane q)) (lanes h there) ∙ ordered_apart s q)

    by_case : (b : Bool) → largest_handed (unordered_lane q) (handed (handed_ordered r s ms n) q)
        ≡ (if b then max (largest_handed (unordered_lane q) (handed r q)) (largest_handed (unordered_lane q) ms) else largest_handed (unordered_lane q) (handed r q)) →
        largest_handed (unordered_lane q) (handed (handed_ordered r s ms n) q) ≡ largest_handed (unordered_lane q) (handed r q)
    by_case true is = omega (arith, is, none)
    by_case false is = is

pub top_given : (f : Format) (s : ℕ) (r t : ReceiverView) (q : ℕ) → GivesOrdered f s r t → top t q ≡ top r q
top_given f s r t q (ms, n, due, is) =
    let told = told_in_order r s n ms q (due_lane f r s (r.next s) n ms due) in
    let kept = kept_beside (unordered_lane q) (λ (x : Piece). not (is_below s n x)) r.kept 0 (λ y there gone. low y (true_of (is_below s n y) gone)) in
    ap (λ (v : ReceiverView). top v q) is ∙ omega (arith, told, kept)
  where
    low : (y : Piece) → is_below s n y ≡ true → number_on (unordered_lane q) y.lane y.number ≤ 0
    low y below =
        let lane = lanes_same y.lane (ordered_lane s) (and_parts (same_lane y.lane (ordered_lane s)) (is_number_below n y.number) below).0 in
        let none = number_other (unordered_lane q) y.lane y.number (ap (λ (l : Lane). same_lane l (unordered_lane q)) lane ∙ ordered_apart s q) in
        omega (arith, none)

pub top_all_given : (f : Format) (n : ℕ) (r t : ReceiverView) (q : ℕ) → GivesAll f n r t → top t q ≡ top r q
top_all_given f zero r t q is = ap (λ (v : ReceiverView). top v q) is
top_all_given f (suc n) r t q (between, before, last) = top_given f n between t q last ∙ top_all_given f n r between q before

-- ---- what the user takes

pub top_taken : (r : ReceiverView) (s : ℕ) (h : Option Handed) (t : ReceiverView) (q : ℕ) → TakeLeaves r s h t → top t q ≡ top r q
top_taken r s None t q (none, is) = ap (λ (v : ReceiverView). top v q) is
top_taken r s (Some h) t q (rest, waits, is) = ap (λ (v : ReceiverView). top v q) is
    ∙ ap (λ (hs : List Handed). max (r.skip (unordered_lane q) - 1) (max (largest_kept (unordered_lane q) r.kept) (largest_handed (unordered_lane q) hs))) same
  where
    own : q ≡ s → handed (first_taken r s h rest) q ≡ handed r q
    own e =
        let taken : at r.taken s (r.taken s ++ h ∷ []) q ≡ r.taken q ++ h ∷ [] =
        ap (at r.taken s (r.taken s ++ h ∷ [])) e ∙ at_here r.taken s (r.taken s ++ h ∷ []) ∙ ap (λ (j : ℕ). r.taken j ++ h ∷ []) (sym e) in
        let left : at r.waiting s rest q ≡ rest = ap (at r.waiting s rest) e ∙ at_here r.waiting s rest in
        let all : r.waiting q ≡ h ∷ rest = ap r.waiting e ∙ waits in
        rw (taken, left, all) (append_assoc (r.taken q) (h ∷ []) rest)

    same : handed (first_taken r s h rest) q ≡ handed r q
    same = elim (cases_eq q s) [
      | inl e ↦ own e
      | inr other ↦ let taken = at_elsewhere r.taken s (r.taken s ++ h ∷ []) q other in let left = at_elsewhere r.waiting s rest q other in rw (taken, left) refl
    ]

-- ---- an unordered message that is delivered

-- chunks that go with it say its number, if they are of its lane
goes_low : (l : Lane) (x : Piece) (xs : List Piece) (y : Piece) → goes_with Interleaved (x ∷ xs) y ≡ true → number_on l y.lane y.number ≤ number_on l x.lane x.number
goes_low l x xs y goes =
    let parts = and_parts (same_lane y.lane x.lane) (same_number y.number x.number) goes in
    number_most l y.lane y.number (number_on l x.lane x.number) (λ n is same. low n x.number parts.1 is (ap (λ (k : Lane). same_lane k l) (sym (lanes_same y.lane x.lane parts.0)) ∙ same))
  where
    low : (n : ℕ) (o : Option ℕ) → same_number y.number o ≡ true → y.number ≡ Some n → same_lane x.lane l ≡ true → n ≤ number_on l x.lane o
    low n None one is same = absurd (cc (one, is))
    low n (Some m) one is same =
        let equal : same_number (Some n) (Some m) ≡ true = ap (λ (o : Option ℕ). same_number o (Some m)) (sym is) ∙ one in
        let told = number_same l x.lane m same in
        let e : n ≡ m = grind (arith, equal, nat_tests) in
        omega (arith, told, e)

-- a lane of another stream has no number of an unordered lane
pub other_stream : (k : Lane) (o : Option ℕ) (q : ℕ) → (q == k.stream) ≡ false → number_on (unordered_lane q) k o ≡ 0
other_stream k o q other =
    let turned : (k.stream == q) ≡ false = grind (arith, other, nat_tests) in
    number_other (unordered_lane q) k o (ap (λ (b : Bool). b && same_kind k.kind Unordered) turned)

pub top_whole : (r : ReceiverView) (x : Piece) (xs : List Piece) (q : ℕ) → Has r.kept x → top (handed_unordered Interleaved r x xs) q ≡ top r q
top_whole r x xs q there = by_case (q == x.lane.stream) refl (handed_more (unordered_lane q) r x.lane.stream (message_of Interleaved x xs ∷ []) q)
  where
    kept : max (number_on (unordered_lane q) x.lane x.number) (largest_kept (unordered_lane q) (without_message Interleaved r.kept (x ∷ xs)))
        ≡ max (number_on (unordered_lane q) x.lane x.number) (largest_kept (unordered_lane q) r.kept)
    kept = kept_beside (unordered_lane q) (λ (y : Piece). not (goes_with Interleaved (x ∷ xs) y)) r.kept (number_on (unordered_lane q) x.lane x.number)
        (λ y has gone. goes_low (unordered_lane q) x xs y (true_of (goes_with Interleaved (x ∷ xs) y) gone))

    reaches : number_on (unordered_lane q) x.lane x.number ≤ largest_kept (unordered_lane q) r.kept
    reaches = kept_reaches (unordered_lane q) r.kept x there

    by_case : (b : Bool) → (q == x.lane.stream) ≡ b →
        largest_handed (unordered_lane q) (handed (handed_unordered Interleaved r x xs) q)
        ≡ (if b then max (largest_handed (unordered_lane q) (handed r q)) (max (number_on (unordered_lane q) x.lane x.number) 0) else largest_handed (unordered_lane q) (handed r q)) →
        top (handed_unordered Interleaved r x xs) q ≡ top r q
    by_case true here told = omega (arith, kept, reaches, told)
    by_case false other told = let none = other_stream x.lane x.number q other in omega (arith, kept, reaches, told, none)

-- ---- a FORWARD

skipped_low : (l k : Lane) (o : Option ℕ) (skip : ℕ) → is_skipped o skip ≡ true → number_on l k o ≤ skip - 1
skipped_low l k o skip is = number_most l k o (skip - 1) (λ n one same. low n (ap (λ (m : Option ℕ). is_skipped m skip) (sym one) ∙ is))
  where
    low : (n : ℕ) → nat_lt n skip ≡ true → n ≤ skip - 1
    low n is = let below : n < skip = grind (arith, is, nat_tests) in omega (arith, below)

-- what it lets go lies below what is skipped
pub top_let_go : (r : ReceiverView) (q : ℕ) → top (let_go Interleaved r) q ≡ top r q
top_let_go r q =
    let kept = kept_beside (unordered_lane q) (λ (y : Piece). stays_by y.lane.kind Interleaved r y) r.kept (r.skip (unordered_lane q) - 1) (λ y there gone. low y gone) in
    omega (arith, kept)
  where
    by_kind : (y : Piece) (k : Lane) → y.lane ≡ k → stays_by k.kind Interleaved r y ≡ false → same_lane k (unordered_lane q) ≡ true → is_skipped y.number (r.skip (unordered_lane q)) ≡ true
    by_kind y k is gone same =
        let lane = lanes_same k (unordered_lane q) same in
        true_of _ (ap (λ (j : Lane). not (is_skipped y.number (r.skip j))) (sym lane ∙ sym is) ∙ ap (λ (j : Lane). stays_by j.kind Interleaved r y) (sym lane) ∙ gone)

    low : (y : Piece) → stays_by y.lane.kind Interleaved r y ≡ false → number_on (unordered_lane q) y.lane y.number ≤ r.skip (unordered_lane q) - 1
    low y gone = elim (cases_Bool (same_lane y.lane (unordered_lane q))) [
      | inl same ↦ skipped_low (unordered_lane q) y.lane y.number (r.skip (unordered_lane q)) (by_kind y y.lane refl gone same)
      | inr other ↦ let none = number_other (unordered_lane q) y.lane y.number other in omega (arith, none)
    ]

-- what it skips raises TOP
pub top_skips : (r : ReceiverView) (jump : ℕ) (skip : Lane → ℕ) (q : ℕ) → r.skip (unordered_lane q) ≤ skip (unordered_lane q) →
    top (record r { jump = jump; skip = skip }) q ≡ max (top r q) (skip (unordered_lane q) - 1)
top_skips r jump skip q more = omega (arith, more)
