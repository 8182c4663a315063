-- Memory for one more item stays when items are removed, and what was possible was done.
use Rattle.std.proofs.Common.{◌≡◌, ℕ, ◌-◌, ◌^◌, ◌<◌, ◌≤◌, Bool, true, false, ◌&&◌, cond, ◌==◌, nat_lt, List, [], ◌∷◌, length, true≢false, refl, sym, ◌∙◌, arith}
use Rattle.std.specs.Prelude.{Result, Ok, Err, is_ok, OnOk, OnErr, Option, None, Some, IfSome, OnSome, IsSome}
use Rattle.std.proofs.lemmas.Bool.Decides.{nat_tests}

-- what an `Ok` says holds where an `Err` can't be
pub was_ok : {A E : Type 0} (r : Result A E) (P Q : Type 0) → OnOk r P → OnErr r Q → (Q → ⊥) → P
was_ok (Ok a) P Q h e never = h
was_ok (Err a) P Q h e never = absurd (never e)

-- and what it became
pub became_ok : {A E X : Type 0} (r : Result A E) (z x y : X) (Q : Type 0) → z ≡ cond (is_ok r) x y → OnErr r Q → (Q → ⊥) → z ≡ x
became_ok (Ok a) z x y Q h e never = h
became_ok (Err a) z x y Q h e never = absurd (never e)

-- of three tests behind another the last and one of the others, and back
without_second : (single alone s p q r : Bool) → cond single alone (s && (p && (q && r))) ≡ true → cond single alone (s && (p && r)) ≡ true
without_second single alone s p q r h = grind (arith, nat_tests)

without_first : (single alone s p q r : Bool) → cond single alone (s && (p && (q && r))) ≡ true → cond single alone (s && (q && r)) ≡ true
without_first single alone s p q r h = grind (arith, nat_tests)

with_both : (single alone s p q r : Bool) → cond single alone (s && (p && r)) ≡ true → cond single alone (s && (q && r)) ≡ true → cond single alone (s && (p && (q && r))) ≡ true
with_both single alone s p q r h l = grind (arith, nat_tests)

-- the first block's length and capacity, the others' number and a bound of it, how many items there are, and whether a block is in reserve
one_kept : (len cap blocks most n len' cap' blocks' most' n' : ℕ) (spare : Bool) → len ≤ cap → most' ≡ most → blocks' ≤ blocks → n' ≤ n → (0 < blocks → 512 ≤ cap') → (blocks ≡ 0 → len' ≤ len) → (blocks ≡ 0 → cap' ≡ cap)
    → cond ((blocks == 0) && nat_lt len 512) (nat_lt len cap) (spare && (nat_lt blocks most && nat_lt n (2 ^ 64 - 1))) ≡ true
    → cond ((blocks' == 0) && nat_lt len' 512) (nat_lt len' cap') (spare && (nat_lt blocks' most' && nat_lt n' (2 ^ 64 - 1))) ≡ true
one_kept len cap blocks most n len' cap' blocks' most' n' spare a same b c d e f h = grind (arith, nat_tests)

-- the same with both bounds of their number
pub room_kept : (len cap blocks most places n len' cap' blocks' most' places' n' : ℕ) (spare : Bool) → len ≤ cap → most' ≡ most → places' ≡ places → blocks' ≤ blocks → n' ≤ n → (0 < blocks → 512 ≤ cap') → (blocks ≡ 0 → len' ≤ len) → (blocks ≡ 0 → cap' ≡ cap)
    → cond ((blocks == 0) && nat_lt len 512) (nat_lt len cap) (spare && (nat_lt blocks most && (nat_lt blocks places && nat_lt n (2 ^ 64 - 1)))) ≡ true
    → cond ((blocks' == 0) && nat_lt len' 512) (nat_lt len' cap') (spare && (nat_lt blocks' most' && (nat_lt blocks' places' && nat_lt n' (2 ^ 64 - 1)))) ≡ true
room_kept len cap blocks most places n len' cap' blocks' most' places' n' spare a same same' b c d e f h =
    let single = (blocks == 0) && nat_lt len 512 in
    let single' = (blocks' == 0) && nat_lt len' 512 in
    let p = nat_lt blocks most in
    let q = nat_lt blocks places in
    let r = nat_lt n (2 ^ 64 - 1) in
    with_both single' (nat_lt len' cap') spare (nat_lt blocks' most') (nat_lt blocks' places') (nat_lt n' (2 ^ 64 - 1))
    (one_kept len cap blocks most n len' cap' blocks' most' n' spare a same b c d e f (without_second single (nat_lt len cap) spare p q r h))
    (one_kept len cap blocks places n len' cap' blocks' places' n' spare a same' b c d e f (without_first single (nat_lt len cap) spare p q r h))

-- the item that an equal list has there
pub if_some_by : {X : Type 0} (r : Option X) (f f' : X → X) → ((d : X) → f d ≡ f' d) → IfSome r (λ x. x ≡ f x) → IfSome r (λ x. x ≡ f' x)
if_some_by None f f' same h = tt
if_some_by (Some x) f f' same h = h ∙ same x

-- what holds where there is something
pub when_some : {X : Type 0} (r : Option X) (P : Type 0) → IsSome r → OnSome r P → P
when_some None P there h = absurd (true≢false (sym there))
when_some (Some x) P there h = h

-- a list without length
pub no_items : {X : Type 0} (xs : List X) → length xs ≡ 0 → xs ≡ []
no_items [] h = refl
no_items (x ∷ xs) h = absurd (omega arith)

-- a length that was found to be nothing
pub is_there : {n m : ℕ} {b : Bool} → n ≡ m → b ≡ (n == 0) → b ≡ true → m ≡ 0
is_there {n} {m} {b} e f h = grind (arith, nat_tests)

-- what holds anyway holds where there is something
pub so_some : {X : Type 0} (r : Option X) (P : Type 0) → P → OnSome r P
so_some None P h = tt
so_some (Some x) P h = h
