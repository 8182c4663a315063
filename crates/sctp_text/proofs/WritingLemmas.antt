-- A slice that is written in parts, each taken from what the parts before it left.
use Rattle.std.proofs.Common.{◌≡◌, ℕ, ◌+◌, ◌-◌, ◌<◌, ◌≤◌, List, ◌++◌, length, take, drop, arith, sym, ap, ◌∙◌, length-drop}
use Rattle.std.proofs.lemmas.List.{drop-drop, take_rest}
use Rattle.std.proofs.Math.Seq.{take-add}

pub part_within : (bytes rest : List ℕ) (done count : ℕ)
    → done ≤ length bytes → rest ≡ drop done bytes → count ≤ length rest → done + count ≤ length bytes
part_within bytes rest done count fits is small = omega (arith, ap length is, length-drop done bytes)

pub part_left : (bytes rest : List ℕ) (done count : ℕ)
    → rest ≡ drop done bytes → take (length rest - count) (drop count rest) ≡ drop (done + count) bytes
part_left bytes rest done count is =
    take_rest rest count ∙ ap (λ list. drop count list) is ∙ drop-drop count done bytes

pub part_joined : (bytes rest : List ℕ) (done count : ℕ)
    → rest ≡ drop done bytes → take done bytes ++ take count rest ≡ take (done + count) bytes
part_joined bytes rest done count is =
    ap (λ list. take done bytes ++ take count list) is ∙ sym (take-add done count bytes)

pub part_wanted : (bytes rest : List ℕ) (done : ℕ) → rest ≡ drop done bytes → 0 < length rest → done < length bytes
part_wanted bytes rest done is some = omega (arith, ap length is, length-drop done bytes)
