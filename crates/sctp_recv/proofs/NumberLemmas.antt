-- Numbers as 64 bits hold them, and chunks whose number is no count below the largest: none of them is passed.
use Rattle.std.proofs.Common.{◌≡◌, ℕ, suc, ◌+◌, ◌-◌, ◌<◌, ◌≤◌, min, Bool, true, false, nat_lt, ◌==◌, List, [], ◌∷◌, Option, Some, None, inl, inr, refl, sym, ◌∙◌, ap, arith}
use Rattle.std.specs.Prelude.{◌&&◌, ◌||◌, option_map}
use Rattle.std.proofs.lemmas.Bool.{cases_lt}
use Rattle.std.proofs.lemmas.Bool.Decides.{nat_tests}
use Rattle.sctp_model.specs.numbers.Lists.{Has}
use Rattle.sctp_model.specs.numbers.Serial.{COUNTS}
use Rattle.sctp_model.specs.messages.Format.{Format, Plain, Interleaved, Kind, Ordered, Unordered, same_lane}
use Rattle.sctp_model.specs.messages.Framing.{number_near}
use Rattle.sctp_model.specs.messages.Pieces.{Piece, same_number, fragment_of}
use Rattle.sctp_model.specs.receiver.PieceTaken.{is_held, is_repeated, are_one_fragment}
use Rattle.sctp_recv.specs.declared.restart.Restart.{Restart}
use Rattle.sctp_recv.specs.Resets.{UNRESET, restart_in, base_of}
use Rattle.sctp_recv.specs.ResetsKept.{ResetsKept}
use Rattle.sctp_recv.specs.ReceiverKept.{number_read, IsCount, in_64, is_below_or_none}

-- ---- what 64 bits hold

-- the largest stands for no count below it
pub beyond : (n o : Option ℕ) → n ≡ in_64 o → n ≡ Some (COUNTS - 1) → (m : ℕ) × (o ≡ Some m) × (COUNTS ≤ suc m)
beyond n None is large = absurd (let no : None ≡ Some (COUNTS - 1) = sym is ∙ large in cc)
beyond n (Some m) is large =
    let both : Some (min m (COUNTS - 1)) ≡ Some (COUNTS - 1) = sym is ∙ large in
    let same : min m (COUNTS - 1) ≡ COUNTS - 1 = cc in
    (m, refl, omega (arith, same))

-- any other number is itself
pub within : (n o : Option ℕ) → n ≡ in_64 o → (n ≡ Some (COUNTS - 1) → ⊥) → (n ≡ o) × IsCount n
within n None is other = (is, λ m e. absurd (let no : None ≡ Some m = sym is ∙ e in cc))
within n (Some m) is other = elim (cases_lt m (COUNTS - 1)) [
  | inl low ↦
      let same : min m (COUNTS - 1) ≡ m = omega (arith, low) in
      let own : n ≡ Some m = is ∙ ap Some same in
      (own, λ i e. let both : Some m ≡ Some i = sym own ∙ e in let one : m ≡ i = cc in omega (arith, low, one))
  | inr high ↦ absurd (other (is ∙ ap Some (omega (arith, high))))
]

-- ---- a chunk whose number is no count below the largest

-- no chunk that is kept has its number
none_same : (o : Option ℕ) (m : ℕ) → IsCount o → COUNTS ≤ suc m → same_number o (Some m) ≡ false
none_same None m small large = refl
none_same (Some n) m small large = let low = small n refl in grind (arith, low, large, nat_tests)

apart : (a b : Bool) → (a && (false && b)) ≡ false
apart true b = refl
apart false b = refl

not_held : (kept : List Piece) (x : Piece) (m : ℕ) → ((y : Piece) → Has kept y → IsCount y.number) → COUNTS ≤ suc m → x.number ≡ Some m → is_held kept x ≡ false
not_held [] x m small large is = refl
not_held (y ∷ ys) x m small large is =
    let here : same_number y.number x.number ≡ false = ap (same_number y.number) is ∙ none_same y.number m (small y (inl refl)) large in
    let one : are_one_fragment y x ≡ false = ap (λ (b : Bool). same_lane y.lane x.lane && (b && (fragment_of y == fragment_of x))) here ∙ apart (same_lane y.lane x.lane) (fragment_of y == fragment_of x) in
    ap (λ (b : Bool). b || is_held ys x) one ∙ not_held ys x m (λ z there. small z (inr there)) large is

pub not_repeated : (f : Format) (kept : List Piece) (x : Piece) (m : ℕ) → ((y : Piece) → Has kept y → IsCount y.number) → COUNTS ≤ suc m → x.number ≡ Some m → is_repeated f kept x ≡ false
not_repeated Plain kept x m small large is = refl
not_repeated Interleaved kept x m small large is = not_held kept x m small large is

-- it doesn't come too late
pub not_late : (b : Bool) (low m : ℕ) → low < COUNTS → COUNTS ≤ suc m → (b && is_below_or_none low (Some m)) ≡ false
not_late b low m under large = let below : nat_lt m low ≡ false = grind (arith, under, large, nat_tests) in ap (λ (t : Bool). b && t) below ∙ never b
  where
    never : (a : Bool) → (a && false) ≡ false
    never true = refl
    never false = refl

-- ---- what a stream reads

-- before the first request it is the number that is near
pub read_unreset : (f : Format) (k : Kind) (n : Option ℕ) (resets : Option ResetsKept) (stream wire near : ℕ) → resets ≡ None → n ≡ number_near f k wire near →
    n ≡ number_read f k (base_of (restart_in resets stream) k) wire near
read_unreset f k n resets stream wire near none is =
    let at : near ≡ near - 0 = omega arith in
    is ∙ sym (same (number_near f k wire near)) ∙ ap (λ (m : ℕ). option_map (λ i. 0 + i) (number_near f k wire m)) at
    ∙ ap (λ (b : ℕ). number_read f k b wire near) (sym (from_none k)) ∙ ap (λ (r : Option ResetsKept). number_read f k (base_of (restart_in r stream) k) wire near) (sym none)
  where
    same : (o : Option ℕ) → option_map (λ m. 0 + m) o ≡ o
    same None = refl
    same (Some m) = ap Some (omega arith)

    from_none : (q : Kind) → base_of UNRESET q ≡ 0
    from_none Ordered = refl
    from_none Unordered = refl

-- the number read from the base that is known, as 64 bits hold it
pub number_in_64 : (f : Format) (k : Kind) (n : Option ℕ) (x r : Restart) (base wire near : ℕ) → n ≡ in_64 (number_read f k base wire near) → x ≡ r → base ≡ base_of x k →
    n ≡ in_64 (number_read f k (base_of r k) wire near)
number_in_64 f k n x r base wire near is same from = is ∙ ap (λ (b : ℕ). in_64 (number_read f k b wire near)) (from ∙ ap (λ (y : Restart). base_of y k) same)

-- where it isn't the largest
pub number_of : (f : Format) (k : Kind) (n : Option ℕ) (x r : Restart) (base wire near : ℕ) → n ≡ in_64 (number_read f k base wire near) → x ≡ r → base ≡ base_of x k → (n ≡ Some (COUNTS - 1) → ⊥) →
    (n ≡ number_read f k (base_of r k) wire near) × IsCount n
number_of f k n x r base wire near is same from other = within n (number_read f k (base_of r k) wire near) (number_in_64 f k n x r base wire near is same from) other
