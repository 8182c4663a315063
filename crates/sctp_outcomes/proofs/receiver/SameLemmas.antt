-- The tests of sameness say what is the same.
use Rattle.std.proofs.Common.{◌≡◌, ℕ, ◌==◌, ◌&&◌, Bool, true, false, List, [], ◌∷◌, Option, None, Some, refl, ap, sym, subst, ◌∙◌, eqb-true}
use Rattle.std.proofs.lemmas.Bool.{and_parts, eq-eqb}
use Rattle.sctp_model.specs.messages.Format.{Kind, Ordered, Unordered, Lane, same_kind, same_lane}
use Rattle.sctp_model.specs.messages.Pieces.{Piece, same_number}
use Rattle.sctp_outcomes.specs.receiver.Wholes.{same_bytes, same_flag, same_piece}

pub both : (a b : Bool) → a ≡ true → b ≡ true → (a && b) ≡ true
both true true p q = refl
both true false p q = q
both false b p q = absurd (cc)

kind_is : (a b : Kind) → same_kind a b ≡ true → a ≡ b
kind_is Ordered Ordered e = refl
kind_is Ordered Unordered e = absurd (cc)
kind_is Unordered Ordered e = absurd (cc)
kind_is Unordered Unordered e = refl

kind_same : (a : Kind) → same_kind a a ≡ true
kind_same Ordered = refl
kind_same Unordered = refl

lane_of_parts : (l k : Lane) → l.stream ≡ k.stream → l.kind ≡ k.kind → l ≡ k
lane_of_parts l k a b =
    subst (λ (u : ℕ). l ≡ record { stream = u; kind = k.kind }) a
    (subst (λ (z : Kind). l ≡ record { stream = l.stream; kind = z }) b refl)

pub lane_is : (l k : Lane) → same_lane l k ≡ true → l ≡ k
lane_is l k e =
    let p = and_parts (l.stream == k.stream) (same_kind l.kind k.kind) e in
    lane_of_parts l k (eqb-true l.stream k.stream p.0) (kind_is l.kind k.kind p.1)

pub lane_same : (l k : Lane) → l ≡ k → same_lane l k ≡ true
lane_same l k e = subst (λ (z : Lane). same_lane l z ≡ true) e (both (l.stream == l.stream) (same_kind l.kind l.kind) (eq-eqb l.stream l.stream refl) (kind_same l.kind))

pub number_is : (a b : Option ℕ) → same_number a b ≡ true → a ≡ b
number_is None None e = refl
number_is None (Some n) e = absurd (cc)
number_is (Some m) None e = absurd (cc)
number_is (Some m) (Some n) e = ap (λ (k : ℕ). Some k) (eqb-true m n e)

number_itself : (a : Option ℕ) → same_number a a ≡ true
number_itself None = refl
number_itself (Some n) = eq-eqb n n refl

pub number_same : (a b : Option ℕ) → a ≡ b → same_number a b ≡ true
number_same a b e = subst (λ (z : Option ℕ). same_number a z ≡ true) e (number_itself a)

bytes_are : (xs ys : List ℕ) → same_bytes xs ys ≡ true → xs ≡ ys
bytes_are [] [] e = refl
bytes_are [] (y ∷ ys) e = absurd (cc)
bytes_are (x ∷ xs) [] e = absurd (cc)
bytes_are (x ∷ xs) (y ∷ ys) e =
    let p = and_parts (x == y) (same_bytes xs ys) e in
    let h : x ≡ y = eqb-true x y p.0 in
    let t : xs ≡ ys = bytes_are xs ys p.1 in
    cc

bytes_same : (xs : List ℕ) → same_bytes xs xs ≡ true
bytes_same [] = refl
bytes_same (x ∷ xs) = both (x == x) (same_bytes xs xs) (eq-eqb x x refl) (bytes_same xs)

flag_is : (a b : Bool) → same_flag a b ≡ true → a ≡ b
flag_is true b e = sym e
flag_is false true e = absurd (cc)
flag_is false false e = refl

flag_same : (a : Bool) → same_flag a a ≡ true
flag_same true = refl
flag_same false = refl

abbrev piece_with : ℕ → Lane → Option ℕ → Bool → Bool → ℕ → List ℕ → Piece
piece_with i l n b e w bytes = record { index = i; lane = l; number = n; begin = b; end = e; word = w; bytes = bytes }

pub piece_is : (x y : Piece) → same_piece x y ≡ true → x ≡ y
piece_is x y e =
    let a = and_parts (x.index == y.index) _ e in
    let b = and_parts (same_lane x.lane y.lane) _ a.1 in
    let c = and_parts (same_number x.number y.number) _ b.1 in
    let d = and_parts (same_flag x.begin y.begin) _ c.1 in
    let f = and_parts (same_flag x.end y.end) _ d.1 in
    let g = and_parts (x.word == y.word) _ f.1 in
    ap (λ (i : ℕ). piece_with i x.lane x.number x.begin x.end x.word x.bytes) (eqb-true x.index y.index a.0)
    ∙ ap (λ (l : Lane). piece_with y.index l x.number x.begin x.end x.word x.bytes) (lane_is x.lane y.lane b.0)
    ∙ ap (λ (n : Option ℕ). piece_with y.index y.lane n x.begin x.end x.word x.bytes) (number_is x.number y.number c.0)
    ∙ ap (λ (z : Bool). piece_with y.index y.lane y.number z x.end x.word x.bytes) (flag_is x.begin y.begin d.0)
    ∙ ap (λ (z : Bool). piece_with y.index y.lane y.number y.begin z x.word x.bytes) (flag_is x.end y.end f.0)
    ∙ ap (λ (w : ℕ). piece_with y.index y.lane y.number y.begin y.end w x.bytes) (eqb-true x.word y.word g.0)
    ∙ ap (λ (z : List ℕ). piece_with y.index y.lane y.number y.begin y.end y.word z) (bytes_are x.bytes y.bytes g.1)

pub piece_same : (x : Piece) → same_piece x x ≡ true
piece_same x =
    both _ _ (eq-eqb x.index x.index refl) (both _ _ (lane_same x.lane x.lane refl) (both _ _ (number_itself x.number)
    (both _ _ (flag_same x.begin) (both _ _ (flag_same x.end) (both _ _ (eq-eqb x.word x.word refl) (bytes_same x.bytes))))))
