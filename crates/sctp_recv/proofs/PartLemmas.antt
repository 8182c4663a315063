-- The data of fragments, with one fragment more.
use Rattle.std.proofs.Common.{◌≡◌, ℕ, zero, suc, ◌+◌, ◌<◌, ◌≤◌, List, [], ◌∷◌, ◌++◌, length, get_or, take, drop, refl, sym, ◌∙◌, ap, append_assoc, add-one, length-append, arith}
use Rattle.std.proofs.lemmas.List.{drop-drop}
use Rattle.std.specs.declared.vec.Vec.{Vec}
use Rattle.std.specs.declared.alloc.Global.{Global}
use Rattle.sctp_recv.specs.Parts.{text_of_parts}

append_nil : (xs : List ℕ) → xs ++ [] ≡ xs
append_nil [] = refl
append_nil (x ∷ xs) = ap (λ (ys : List ℕ). x ∷ ys) (append_nil xs)

text_suc : (ps : List (Vec ℕ Global)) (i : ℕ) (p : Vec ℕ Global) → i < length ps → p ≡ get_or ps i p → text_of_parts (take (suc i) ps) ≡ text_of_parts (take i ps) ++ p.items
text_suc [] i p l e = absurd (omega arith)
text_suc (q ∷ ps) zero p l e = append_nil q.items ∙ ap (λ (v : Vec ℕ Global). v.items) (sym e)
text_suc (q ∷ ps) (suc i) p l e = ap (λ (bs : List ℕ). q.items ++ bs) (text_suc ps i p (omega arith) e) ∙ sym (append_assoc q.items (text_of_parts (take i ps)) p.items)

pub text_more : (ps : List (Vec ℕ Global)) (i : ℕ) (p : Vec ℕ Global) → i < length ps → p ≡ get_or ps i p → text_of_parts (take (i + 1) ps) ≡ text_of_parts (take i ps) ++ p.items
text_more ps i p l e = rw add-one (text_suc ps i p l e)

pub length_more : (ps : List (Vec ℕ Global)) (i : ℕ) (p : Vec ℕ Global) → i < length ps → p ≡ get_or ps i p → length (text_of_parts (take (i + 1) ps)) ≡ length (text_of_parts (take i ps)) + length p.items
length_more ps i p l e = ap length (text_more ps i p l e) ∙ length-append (text_of_parts (take i ps)) p.items

pub text_within : (ps : List (Vec ℕ Global)) (i : ℕ) → length (text_of_parts (take i ps)) ≤ length (text_of_parts ps)
text_within [] zero = omega arith
text_within [] (suc i) = omega arith
text_within (p ∷ ps) zero = omega arith
text_within (p ∷ ps) (suc i) = omega (arith, text_within ps i, length-append p.items (text_of_parts (take i ps)), length-append p.items (text_of_parts ps))

-- all parts are the text
pub text_all : (ps : List (Vec ℕ Global)) (i : ℕ) → length ps ≤ i → text_of_parts (take i ps) ≡ text_of_parts ps
text_all [] zero le = refl
text_all [] (suc i) le = refl
text_all (p ∷ ps) zero le = absurd (omega arith)
text_all (p ∷ ps) (suc i) le = ap (λ (bs : List ℕ). p.items ++ bs) (text_all ps i (omega arith))

-- what is the same behind a place is so further on
pub drop_further : (n m : ℕ) (xs ys : List ℕ) → drop n xs ≡ drop n ys → drop (n + m) xs ≡ drop (n + m) ys
drop_further n m xs ys same = sym (drop-drop m n xs) ∙ ap (λ (zs : List ℕ). drop m zs) same ∙ drop-drop m n ys

pub ruleset texts = (text_more, length_more)
