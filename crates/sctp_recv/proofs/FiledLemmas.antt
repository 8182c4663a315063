-- Where the chunks kept are, when those of one stream change; and the bytes of all streams' chunks.
use Rattle.std.proofs.Common.{◌≡◌, ℕ, zero, suc, ◌+◌, ◌<◌, ◌≤◌, ◌⊎◌, Bool, true, false, List, [], ◌∷◌, ◌++◌, length, set, Option, None, Some, inl, inr, refl, sym, ◌∙◌, ap, subst, arith}
use Rattle.std.specs.Prelude.{slice_get}
use Rattle.std.proofs.lemmas.Bool.{cases_eq}
use Rattle.std.proofs.lemmas.List.{length-set}
use Rattle.sctp_model.specs.numbers.Lists.{Has}
use Rattle.sctp_model.specs.messages.Format.{Format, Kind, Ordered, Unordered, Lane, ordered_lane, unordered_lane}
use Rattle.sctp_model.specs.messages.Pieces.{Piece}
use Rattle.sctp_model.specs.receiver.ReceiverView.{size_of_pieces}
use Rattle.sctp_model.proofs.receiver.OfLane.{of_more, of_other}
use Rattle.sctp_recv.specs.Fields.{inside}
use Rattle.sctp_recv.specs.declared.inbound.Inbound.{Inbound}
use Rattle.sctp_recv.specs.declared.stream.Stream.{Stream}
use Rattle.sctp_model.specs.receiver.KeptOfLane.{of_lane}
use Rattle.sctp_recv.specs.Filed.{Keeps, SameLanes, IsFiledOn, AreFiled}
use Rattle.sctp_recv.specs.inner.Giving.{SameChunks}
use Rattle.sctp_recv.specs.inner.Forwarding.{HasRoomOn, HaveRoom}
use Rattle.std.proofs.lemmas.Option.{slice_get_within}

-- ---- one element of a list

pub got_set_same : {A : Type 0} (xs : List A) (i : ℕ) (x : A) → i < length xs → slice_get (set xs i x) i ≡ Some x
got_set_same [] i x low = absurd (omega arith)
got_set_same (y ∷ xs) zero x low = refl
got_set_same (y ∷ xs) (suc i) x low = got_set_same xs i x (omega arith)

pub got_set_other : {A : Type 0} (xs : List A) (i j : ℕ) (x : A) → (j ≡ i → ⊥) → slice_get (set xs i x) j ≡ slice_get xs j
got_set_other [] i j x other = refl
got_set_other (y ∷ xs) zero zero x other = absurd (other refl)
got_set_other (y ∷ xs) zero (suc j) x other = refl
got_set_other (y ∷ xs) (suc i) zero x other = refl
got_set_other (y ∷ xs) (suc i) (suc j) x other = got_set_other xs i j x (λ e. other (ap suc e))

pub got_below : {A : Type 0} (xs : List A) (i : ℕ) → i < length xs → (x : A) × (slice_get xs i ≡ Some x)
got_below [] i low = absurd (omega (arith, low))
got_below (x ∷ xs) zero low = (x, refl)
got_below (x ∷ xs) (suc i) low = got_below xs i (omega (arith, low))

-- one element behind the others
pub got_more : {A : Type 0} (xs : List A) (y : A) (i : ℕ) (x : A) → slice_get (xs ++ y ∷ []) i ≡ Some x → (slice_get xs i ≡ Some x) ⊎ ((i ≡ length xs) × (y ≡ x))
got_more [] y zero x e = inr (refl, cc)
got_more [] y (suc i) x e = absurd (let no : None ≡ Some x = e in cc)
got_more (z ∷ xs) y zero x e = inl e
got_more (z ∷ xs) y (suc i) x e = elim (got_more xs y i x e) [ inl old ↦ inl old | inr new ↦ inr (ap suc new.0, new.1) ]

pub one_got : {A : Type 0} (o : Option A) (x y : A) → o ≡ Some x → o ≡ Some y → x ≡ y
one_got o x y a b = cc

-- ---- nothing is kept as yet

-- nothing is known of any of the streams
abbrev pub AreFresh : {F : Type 0} → List (Stream F) → Type 0
AreFresh {F} streams = (s : ℕ) (x : Stream F) → slice_get streams s ≡ Some x → inside x ≡ None

pub fresh_more : {F : Type 0} (streams : List (Stream F)) (y : Stream F) → AreFresh streams → inside y ≡ None → AreFresh (streams ++ y ∷ [])
fresh_more streams y h new s x got = elim (got_more streams y s x got) [ inl old ↦ h s x old | inr is ↦ ap inside (sym is.1) ∙ new ]

pub fresh_filed : {F : Type 0} (f : Format) (streams : List (Stream F)) → AreFresh streams → AreFiled f [] streams
fresh_filed {F} f streams h = record {
  each = λ s x got. record { ordered = none (inside x) false (ordered_lane s) (h s x got); unordered = none (inside x) true (unordered_lane s) (h s x got) };
  there = λ x has. absurd has;
}
  where
    none : (o : Option (Inbound F)) (u : Bool) (l : Lane) → o ≡ None → Keeps f o u l []
    none o u l is = subst (λ (p : Option (Inbound F)). Keeps f p u l []) (sym is) refl

-- on so many of the streams touched there is room, also once one stream more has it
pub room_next : {F : Type 0} (touched : List ℕ) (n s : ℕ) (streams : List (Stream F)) (y : Stream F) → HaveRoom touched n streams → slice_get touched n ≡ Some s → s < length streams → HasRoomOn (inside y) →
    HaveRoom touched (n + 1) (set streams s y)
room_next {F} touched n s streams y h is low room i q z less at_i got = elim (cases_eq q s) [
  | inl same ↦ subst (λ (w : Stream F). HasRoomOn (inside w)) (one_got (slice_get (set streams s y) s) y z (got_set_same streams s y low) (ap (slice_get (set streams s y)) (sym same) ∙ got)) room
  | inr other ↦
      let not_here : i ≡ n → ⊥ = λ e. other (one_got (slice_get touched n) q s (ap (slice_get touched) (sym e) ∙ at_i) is) in
      h i q z (omega (arith, less, not_here)) at_i (sym (got_set_other streams s q y other) ∙ got)
]

-- or is not there
pub room_past : {F : Type 0} (touched : List ℕ) (n s : ℕ) (streams : List (Stream F)) → HaveRoom touched n streams → slice_get touched n ≡ Some s → length streams ≤ s → HaveRoom touched (n + 1) streams
room_past {F} touched n s streams h is past i q z less at_i got = elim (cases_eq i n) [
  | inl e ↦
      let same : q ≡ s = one_got (slice_get touched n) q s (ap (slice_get touched) (sym e) ∙ at_i) is in
      let low = slice_get_within streams q z got in
      absurd (omega (arith, same, low, past))
  | inr other ↦ h i q z (omega (arith, less, other)) at_i got
]

-- ---- one stream's chunks are others

-- the chunks of all other streams are as they were
abbrev pub SameOff : (s : ℕ) → (old new : List Piece) → Type 0
SameOff s old new = (l : Lane) → (l.stream ≡ s → ⊥) → of_lane l new ≡ of_lane l old

pub filed_as : {F : Type 0} (f : Format) (old new : List Piece) (q : ℕ) (x : Stream F) → of_lane (ordered_lane q) new ≡ of_lane (ordered_lane q) old → of_lane (unordered_lane q) new ≡ of_lane (unordered_lane q) old →
    IsFiledOn f old q x → IsFiledOn f new q x
filed_as f old new q x o u h = record {
  ordered = subst (λ (ps : List Piece). Keeps f (inside x) false (ordered_lane q) ps) (sym o) h.ordered;
  unordered = subst (λ (ps : List Piece). Keeps f (inside x) true (unordered_lane q) ps) (sym u) h.unordered;
}

pub filed_set : {F : Type 0} (f : Format) (old new : List Piece) (streams : List (Stream F)) (s : ℕ) (y : Stream F) → AreFiled f old streams → s < length streams → IsFiledOn f new s y → SameOff s old new →
    ((x : Piece) → Has new x → x.lane.stream < length streams) → AreFiled f new (set streams s y)
filed_set {F} f old new streams s y h low here off there = record {
  each = λ q x got. elim (cases_eq q s) [
    | inl same ↦
        let is : y ≡ x = one_got (slice_get (set streams s y) s) y x (got_set_same streams s y low) (ap (slice_get (set streams s y)) (sym same) ∙ got) in
        subst (λ (p : ℕ). IsFiledOn f new p x) (sym same) (subst (λ (z : Stream F). IsFiledOn f new s z) is here)
    | inr other ↦ filed_as f old new q x (off (ordered_lane q) other) (off (unordered_lane q) other) (h.each q x (sym (got_set_other streams s q y other) ∙ got))
  ];
  there = λ x has. let m = length-set streams s y in omega (arith, there x has, m);
}

-- the same chunks, where a stream's chunks are those that they were
pub filed_same : {F : Type 0} (f : Format) (kept : List Piece) (streams : List (Stream F)) (s : ℕ) (x y : Stream F) → AreFiled f kept streams → s < length streams → slice_get streams s ≡ Some x →
    SameLanes f x y → AreFiled f kept (set streams s y)
filed_same f kept streams s x y h low got same =
    filed_set f kept kept streams s y h low (record { ordered = same false (ordered_lane s) _ (h.each s x got).ordered; unordered = same true (unordered_lane s) _ (h.each s x got).unordered })
    (λ l other. refl) h.there

-- what a stream's own struct says of either kind
pub same_lanes : {F : Type 0} (f : Format) (old new : Inbound F) → SameChunks f old new → (u : Bool) (l : Lane) (kept : List Piece) → Keeps f (Some old) u l kept → Keeps f (Some new) u l kept
same_lanes f old new same true l kept is = same.1 l kept is
same_lanes f old new same false l kept is = same.0 l kept is

-- ---- bytes

-- the sum of g below n
abbrev pub sum_to : (ℕ → ℕ) → ℕ → ℕ
sum_to g zero = 0
sum_to g (suc n) = sum_to g n + g n

pub sum_same : (g h : ℕ → ℕ) (n : ℕ) → ((q : ℕ) → q < n → g q ≡ h q) → sum_to g n ≡ sum_to h n
sum_same g h zero same = refl
sum_same g h (suc n) same =
    let more = sum_same g h n (λ q low. same q (omega (arith, low))) in
    let here = same n (omega arith) in
    omega (arith, more, here)

pub sum_one : (g h : ℕ → ℕ) (s n : ℕ) → s < n → ((q : ℕ) → (q ≡ s → ⊥) → g q ≡ h q) → sum_to h n + g s ≡ sum_to g n + h s
sum_one g h s zero low same = absurd (omega (arith, low))
sum_one g h s (suc n) low same = elim (cases_eq s n) [
  | inl here ↦
      let rest = sum_same g h n (λ q less. same q (λ e. omega (arith, less, e, here))) in
      let a : g s ≡ g n = ap g here in
      let b : h s ≡ h n = ap h here in
      omega (arith, rest, a, b)
  | inr other ↦
      let more = sum_one g h s n (omega (arith, low, other)) same in
      let here = same n (λ e. other (sym e)) in
      omega (arith, more, here)
]

-- of fewer it is no more
pub sum_upto : (g : ℕ → ℕ) (m n : ℕ) → m ≤ n → sum_to g m ≤ sum_to g n
sum_upto g m zero le = let none : m ≡ 0 = omega (arith, le) in let same = ap (sum_to g) none in omega (arith, same)
sum_upto g m (suc n) le = elim (cases_eq m (suc n)) [
  | inl all ↦ let same = ap (sum_to g) all in omega (arith, same)
  | inr other ↦ let more = sum_upto g m n (omega (arith, le, other)) in omega (arith, more)
]

-- one of them is no more than all
pub sum_has : (g : ℕ → ℕ) (s n : ℕ) → s < n → g s ≤ sum_to g n
sum_has g s zero low = absurd (omega (arith, low))
sum_has g s (suc n) low = elim (cases_eq s n) [
  | inl here ↦ let a : g s ≡ g n = ap g here in omega (arith, a)
  | inr other ↦ let more = sum_has g s n (omega (arith, low, other)) in omega (arith, more)
]

-- the bytes of a stream's chunks
abbrev pub stream_size : List Piece → ℕ → ℕ
stream_size kept q = size_of_pieces (of_lane (ordered_lane q) kept) + size_of_pieces (of_lane (unordered_lane q) kept)

own_size : (x : Piece) (kept : List Piece) (k : Kind) → x.lane.kind ≡ k → stream_size (x ∷ kept) x.lane.stream ≡ length x.bytes + stream_size kept x.lane.stream
own_size x kept Ordered kind =
    let lane_is : x.lane ≡ ordered_lane x.lane.stream = λ i. record { stream = x.lane.stream; kind = kind i } in
    let o = ap size_of_pieces (of_more (ordered_lane x.lane.stream) x kept lane_is) in
    let u = ap size_of_pieces (of_other (unordered_lane x.lane.stream) x kept (λ e. let no : Ordered ≡ Unordered = sym kind ∙ ap (λ (l : Lane). l.kind) e in cc)) in
    omega (arith, o, u)
own_size x kept Unordered kind =
    let lane_is : x.lane ≡ unordered_lane x.lane.stream = λ i. record { stream = x.lane.stream; kind = kind i } in
    let u = ap size_of_pieces (of_more (unordered_lane x.lane.stream) x kept lane_is) in
    let o = ap size_of_pieces (of_other (ordered_lane x.lane.stream) x kept (λ e. let no : Unordered ≡ Ordered = sym kind ∙ ap (λ (l : Lane). l.kind) e in cc)) in
    omega (arith, o, u)

other_size : (x : Piece) (kept : List Piece) (q : ℕ) → (q ≡ x.lane.stream → ⊥) → stream_size kept q ≡ stream_size (x ∷ kept) q
other_size x kept q other =
    let o = ap size_of_pieces (of_other (ordered_lane q) x kept (λ e. other (sym (ap (λ (l : Lane). l.stream) e)))) in
    let u = ap size_of_pieces (of_other (unordered_lane q) x kept (λ e. other (sym (ap (λ (l : Lane). l.stream) e)))) in
    omega (arith, o, u)

no_sizes : (n : ℕ) → sum_to (stream_size []) n ≡ 0
no_sizes zero = refl
no_sizes (suc n) = let more = no_sizes n in omega (arith, more)

-- all chunks are of streams below n
pub all_sizes : (n : ℕ) (kept : List Piece) → ((x : Piece) → Has kept x → x.lane.stream < n) → size_of_pieces kept ≡ sum_to (stream_size kept) n
all_sizes n [] there = sym (no_sizes n)
all_sizes n (x ∷ kept) there =
    let more = all_sizes n kept (λ y has. there y (inr has)) in
    let one = sum_one (stream_size kept) (stream_size (x ∷ kept)) x.lane.stream n (there x (inl refl)) (λ q other. other_size x kept q other) in
    let own = own_size x kept x.lane.kind refl in
    omega (arith, more, one, own)

-- where one stream's chunks changed alone
pub size_changed : (n s : ℕ) (old new : List Piece) → s < n → ((x : Piece) → Has old x → x.lane.stream < n) → ((x : Piece) → Has new x → x.lane.stream < n) → SameOff s old new →
    size_of_pieces new + stream_size old s ≡ size_of_pieces old + stream_size new s
size_changed n s old new low there after off =
    let a = all_sizes n old there in
    let b = all_sizes n new after in
    let one = sum_one (stream_size old) (stream_size new) s n low (λ q other. let o = ap size_of_pieces (off (ordered_lane q) other) in let u = ap size_of_pieces (off (unordered_lane q) other) in omega (arith, o, u)) in
    omega (arith, a, b, one)
