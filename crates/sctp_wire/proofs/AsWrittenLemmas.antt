-- A list is as it is written if each item but the last is padded with zeros and nothing follows the last.
use Rattle.std.proofs.Common.{◌≡◌, ℕ, ◌-◌, ◌<◌, ◌≤◌, inl, inr, Bool, true, false, List, [], ◌∷◌, ◌++◌, length, take, drop, replicate, refl, sym, ap, ◌∙◌, append_assoc, append-nil, arith, length-drop, ⊎_elim, ◌≢◌}
use Rattle.std.specs.Prelude.{Option, Some, None, ◌==◌, ◌↔◌, is_some, unwrap_or, EachIndex, slice_index}
use Rattle.std.proofs.lemmas.List.{drop-drop, drop_all, take-append-drop, take_at, drop_at, length-take-le, nil_from_length, ext_get_or, get_or-replicate, append_cancel_left}
use Rattle.std.proofs.lemmas.Bool.{cases_lt}
use Rattle.std.proofs.lemmas.Bool.Decides.{eqb_tells}
use Rattle.std.proofs.lemmas.Grind.{common_steps}
use Rattle.sctp_model.specs.wire.Chunk.{padded}
use Rattle.sctp_model.specs.numbers.Numbers.{AreBytes}
use Rattle.sctp_model.specs.wire.Typed.{Typed, typed_bytes, filled, written_typed, length_field, starts_typed, typed_at, typed_of, are_typed, typed_in, AreAsWritten}
use Rattle.sctp_model.proofs.TypedLemmas.{typed_of-nil, typed_of-first, typed_of-none, in_front, behind_first, HasFirst, has_first, cut_off, length-item}
use Rattle.sctp_model.proofs.TypedWriting.{zeros_long}
use Rattle.sctp_wire.specs.inner.FirstAsWritten.{IsFirstAsWritten}

-- ---- a list and its first item

listed_on : (item : Typed) (o : Option (List Typed)) → is_some (in_front item o) ≡ true → (is_some o ≡ true) × (unwrap_or (in_front item o) [] ≡ item ∷ unwrap_or o [])
listed_on item None h = cc
listed_on item (Some others) h = (refl, refl)

-- what stands behind the first item of a list is a list, of the other items
pub others_listed : (bytes : List ℕ) → starts_typed bytes ≡ true → are_typed bytes ≡ true
    → (are_typed (behind_first bytes) ≡ true) × (typed_in bytes ≡ typed_at bytes ∷ typed_in (behind_first bytes))
others_listed bytes begins listed =
    let step = typed_of-first bytes begins in
    let on = listed_on (typed_at bytes) (typed_of (behind_first bytes)) (rw step at listed) in
    (on.0, ap (λ (o : Option (List Typed)). unwrap_or o []) step ∙ on.1)

pub listed_same : (bytes : List ℕ) → starts_typed bytes ≡ true → are_typed bytes ≡ are_typed (behind_first bytes)
listed_same bytes begins = ap is_some (typed_of-first bytes begins) ∙ front_some (typed_of (behind_first bytes))
  where
    front_some : (o : Option (List Typed)) → is_some (in_front (typed_at bytes) o) ≡ is_some o
    front_some None = refl
    front_some (Some others) = refl

-- where no item begins, only nothing is a list
pub listed_at_end : (bytes : List ℕ) → starts_typed bytes ≡ false → are_typed bytes ≡ (length bytes == 0)
listed_at_end [] none = ap is_some typed_of-nil
listed_at_end (b ∷ bytes) none =
    let some : (length (b ∷ bytes) == 0) ≡ false = grind (arith, common_steps) in
    ap is_some (typed_of-none (b ∷ bytes) (omega arith) none) ∙ sym some

starts_by : (bytes : List ℕ) (t : Bool) → starts_typed bytes ≡ t → 0 < length bytes → are_typed bytes ≡ true → starts_typed bytes ≡ true
starts_by bytes true e some listed = e
starts_by bytes false e some listed = let none = ap is_some (typed_of-none bytes some e) in cc

-- an item begins a list that isn't empty
pub list_starts : (bytes : List ℕ) → 0 < length bytes → are_typed bytes ≡ true → starts_typed bytes ≡ true
list_starts bytes some listed = starts_by bytes (starts_typed bytes) refl some listed

-- what a list that isn't empty is made of
pub record IsList (bytes : List ℕ) : Type 0 where
  pub begins : starts_typed bytes ≡ true
  pub others : are_typed (behind_first bytes) ≡ true
  pub items : typed_in bytes ≡ typed_at bytes ∷ typed_in (behind_first bytes)
  pub shorter : length (behind_first bytes) < length bytes

pub a_list : (bytes : List ℕ) → starts_typed bytes ≡ true → are_typed bytes ≡ true → IsList bytes
a_list bytes begins listed =
    let on = others_listed bytes begins listed in
    let f = has_first bytes begins in
    let least = f.least in
    let there = f.there in
    record { begins = begins; others = on.0; items = on.1; shorter = omega (arith, length-drop (padded (length_field bytes)) bytes) }

pub behind_shorter : (bytes : List ℕ) → starts_typed bytes ≡ true → length (behind_first bytes) < length bytes
behind_shorter bytes begins =
    let f = has_first bytes begins in
    let least = f.least in
    let there = f.there in
    omega (arith, length-drop (padded (length_field bytes)) bytes)

pub items_of-nil : (bytes : List ℕ) → length bytes ≡ 0 → typed_in bytes ≡ []
items_of-nil bytes e = ap typed_in (nil_from_length bytes e) ∙ ap (λ (o : Option (List Typed)). unwrap_or o []) typed_of-nil

pub nothing_as_written : (bytes : List ℕ) → length bytes ≡ 0 → AreAsWritten bytes
nothing_as_written bytes e = nil_from_length bytes e ∙ ap written_typed (sym (items_of-nil bytes e))

-- ---- the first item as it is written

-- zeros, told one by one
zeros_are : (bytes : List ℕ) → EachIndex bytes (λ k. slice_index bytes k ≡ 0) → bytes ≡ replicate (length bytes) 0
zeros_are bytes each =
    ext_get_or 0 bytes (replicate (length bytes) 0) (sym (zeros_long (length bytes))) (λ k low. each k low ∙ sym (get_or-replicate (length bytes) k 0 0 low))

each_zero : (n : ℕ) (bytes : List ℕ) → bytes ≡ replicate n 0 → EachIndex bytes (λ k. slice_index bytes k ≡ 0)
each_zero n bytes e = λ k low. rw e (get_or-replicate n k 0 0 (omega (arith, ap length e, zeros_long n)))

-- the only item of a list, without padding
pub last_as_written : (bytes : List ℕ) → AreBytes bytes → starts_typed bytes ≡ true → are_typed bytes ≡ true → length_field bytes ≡ length bytes → AreAsWritten bytes
last_as_written bytes ranged begins listed ends =
    let c = cut_off bytes ranged (has_first bytes begins) in
    let over : drop (length_field bytes) bytes ≡ [] = drop_all (length_field bytes) bytes (omega arith) in
    let nothing : typed_in (behind_first bytes) ≡ [] = items_of-nil (behind_first bytes) (omega (arith, length-drop (padded (length_field bytes)) bytes)) in
    c.parts ∙ rw over (append-nil (typed_bytes (typed_at bytes))) ∙ sym (ap written_typed ((others_listed bytes begins listed).1 ∙ ap (λ (others : List Typed). typed_at bytes ∷ others) nothing))

-- the bytes of an item with others behind it, cut where its padding begins and ends
pub record IsSplit (bytes : List ℕ) : Type 0 where
  pub padding : List ℕ
  pub padding_is : padding ≡ take (padded (length_field bytes) - length_field bytes) (drop (length_field bytes) bytes)
  pub long : length padding ≡ padded (length_field bytes) - length_field bytes
  pub own : length (typed_bytes (typed_at bytes)) ≡ length_field bytes
  pub parts : bytes ≡ typed_bytes (typed_at bytes) ++ (padding ++ behind_first bytes)

split : (bytes : List ℕ) → AreBytes bytes → HasFirst bytes → (length bytes ≢ length_field bytes) → IsSplit bytes
split bytes ranged f other =
    let size = length_field bytes in
    let gap = padded size - size in
    let c = cut_off bytes ranged f in
    let there = f.there in
    let room = f.room other in
    let rest : drop gap (drop size bytes) ≡ behind_first bytes = drop-drop gap size bytes ∙ ap (λ (n : ℕ). drop n bytes) (omega arith) in
    record {
      padding = take gap (drop size bytes);
      padding_is = refl;
      long = length-take-le gap (drop size bytes) (omega (arith, length-drop size bytes));
      own = length-item (typed_at bytes) ∙ c.size;
      parts = c.parts ∙ ap (λ (xs : List ℕ). typed_bytes (typed_at bytes) ++ xs) (sym (rw (← rest) (take-append-drop gap (drop size bytes))));
    }

filled_with : (bytes : List ℕ) (s : IsSplit bytes) → filled (typed_bytes (typed_at bytes)) ≡ typed_bytes (typed_at bytes) ++ replicate (padded (length_field bytes) - length_field bytes) 0
filled_with bytes s = ap (λ (n : ℕ). typed_bytes (typed_at bytes) ++ replicate (padded n - n) 0) s.own

-- where others follow, what is written is the item, zeros, and what is written for them
parted : (bytes : List ℕ) (s : IsSplit bytes) (more : List ℕ) → bytes ≡ filled (typed_bytes (typed_at bytes)) ++ more
    → (s.padding ≡ replicate (padded (length_field bytes) - length_field bytes) 0) × (behind_first bytes ≡ more)
parted bytes s more whole =
    let item = typed_bytes (typed_at bytes) in
    let gap = padded (length_field bytes) - length_field bytes in
    let zeros : List ℕ = replicate gap 0 in
    let same : s.padding ++ behind_first bytes ≡ zeros ++ more =
    append_cancel_left item (s.padding ++ behind_first bytes) (zeros ++ more) (sym s.parts ∙ whole ∙ ap (λ (xs : List ℕ). xs ++ more) (filled_with bytes s) ∙ append_assoc item zeros more) in (
      sym (take_at s.padding (behind_first bytes) gap s.long) ∙ ap (take gap) same ∙ take_at zeros more gap (zeros_long gap),
      sym (drop_at s.padding (behind_first bytes) gap s.long) ∙ ap (drop gap) same ∙ drop_at zeros more gap (zeros_long gap),
    )

written_on : (bytes : List ℕ) (others : List Typed) → typed_in (behind_first bytes) ≡ others → typed_in bytes ≡ typed_at bytes ∷ others → IsSplit bytes → (length_field bytes < length bytes) → AreAsWritten bytes
    → IsFirstAsWritten bytes × AreAsWritten (behind_first bytes)
written_on bytes [] rest is s more as_written =
    let only : bytes ≡ typed_bytes (typed_at bytes) = as_written ∙ ap written_typed is in absurd (omega (arith, ap length only, s.own))
written_on bytes (next ∷ others) rest is s more as_written =
    let size = length_field bytes in
    let gap = padded size - size in
    let p = parted bytes s (written_typed (next ∷ others)) (as_written ∙ ap written_typed is) in
    let some : 0 < length (behind_first bytes) =
    ⊎_elim (λ (low : 0 < length (behind_first bytes)). low)
    (λ (none : length (behind_first bytes) ≤ 0). absurd (let nil = items_of-nil (behind_first bytes) (omega arith) in cc)) (cases_lt 0 (length (behind_first bytes))) in
    (inr (omega (arith, length-drop (padded size) bytes), each_zero gap (take gap (drop size bytes)) (sym s.padding_is ∙ p.0)), p.1 ∙ ap written_typed (sym rest))

written_back : (bytes : List ℕ) (next : Typed) (others : List Typed) → typed_in (behind_first bytes) ≡ next ∷ others → typed_in bytes ≡ typed_at bytes ∷ next ∷ others → IsSplit bytes
    → EachIndex (take (padded (length_field bytes) - length_field bytes) (drop (length_field bytes) bytes)) (λ k. slice_index (take (padded (length_field bytes) - length_field bytes) (drop (length_field bytes) bytes)) k ≡ 0)
    → AreAsWritten (behind_first bytes) → AreAsWritten bytes
written_back bytes next others rest is s each as_written =
    let gap = padded (length_field bytes) - length_field bytes in
    let item = typed_bytes (typed_at bytes) in
    let zeros : s.padding ≡ replicate gap 0 =
    s.padding_is ∙ zeros_are (take gap (drop (length_field bytes) bytes)) each ∙ ap (λ (n : ℕ). replicate n 0) (ap length (sym s.padding_is) ∙ s.long) in
    s.parts ∙ ap (λ (xs : List ℕ). item ++ (xs ++ behind_first bytes)) zeros ∙ sym (append_assoc item (replicate gap 0) (behind_first bytes))
    ∙ ap (λ (xs : List ℕ). xs ++ behind_first bytes) (sym (filled_with bytes s)) ∙ ap (λ (xs : List ℕ). filled item ++ xs) (as_written ∙ ap written_typed rest) ∙ ap written_typed (sym is)

back_from : (bytes : List ℕ) → (length bytes ≢ length_field bytes) → starts_typed bytes ≡ true → are_typed bytes ≡ true → IsSplit bytes → IsFirstAsWritten bytes → AreAsWritten (behind_first bytes) → AreAsWritten bytes
back_from bytes other begins listed s (inl ends) as_written = absurd (other (sym ends))
back_from bytes other begins listed s (inr (low, each)) as_written =
    let on = others_listed bytes begins listed in
    let behind = behind_first bytes in
    let some : 0 < length behind = omega (arith, length-drop (padded (length_field bytes)) bytes) in
    let next = others_listed behind (list_starts behind some on.0) on.0 in
    written_back bytes (typed_at behind) (typed_in (behind_first behind)) next.1 (on.1 ∙ ap (λ (xs : List Typed). typed_at bytes ∷ xs) next.1) s each as_written

-- a list is as it is written where its first item is and what stands behind it
pub as_written_step : (bytes : List ℕ) → AreBytes bytes → starts_typed bytes ≡ true → are_typed bytes ≡ true
    → AreAsWritten bytes ↔ (IsFirstAsWritten bytes × AreAsWritten (behind_first bytes))
as_written_step bytes ranged begins listed =
    let f = has_first bytes begins in
    let there = f.there in
    ⊎_elim (λ (last : ((length bytes == length_field bytes) ≡ true) × (length bytes ≡ length_field bytes)).
    let ends = last.1 in (
      λ (as_written : AreAsWritten bytes). (inl (sym ends), nothing_as_written (behind_first bytes) (omega (arith, length-drop (padded (length_field bytes)) bytes))),
      λ (parts : IsFirstAsWritten bytes × AreAsWritten (behind_first bytes)). last_as_written bytes ranged begins listed (sym ends),
    ))
    (λ (other : ((length bytes == length_field bytes) ≡ false) × (length bytes ≢ length_field bytes)).
    let s = split bytes ranged f other.1 in
    let apart = other.1 in (
      λ (as_written : AreAsWritten bytes). written_on bytes (typed_in (behind_first bytes)) refl (others_listed bytes begins listed).1 s (omega arith) as_written,
      λ (parts : IsFirstAsWritten bytes × AreAsWritten (behind_first bytes)). back_from bytes apart begins listed s parts.0 parts.1,
    ))
    (eqb_tells (length bytes) (length_field bytes))
