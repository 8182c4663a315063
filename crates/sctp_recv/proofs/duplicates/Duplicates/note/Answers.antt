use Rattle.std.proofs.Common.{◌≡◌, ℕ, zero, suc, List, [], ◌∷◌, ◌++◌, length, take, refl, sym, ap, arith}
use Rattle.sctp_model.specs.numbers.Limits.{DUPLICATE_LIMIT}
use Rattle.sctp_recv.proofs.duplicates.Duplicates.note.Goals as goal

-- of two lists as many as the first has are the first
take_front : (n : ℕ) (xs ys : List ℕ) → n ≡ length xs → take n (xs ++ ys) ≡ xs
take_front zero [] ys e = refl
take_front zero (x ∷ xs) ys e = absurd (omega arith)
take_front (suc n) [] ys e = absurd (omega arith)
take_front (suc n) (x ∷ xs) ys e = ap (λ (zs : List ℕ). x ∷ zs) (take_front n xs ys (omega arith))

pub returns-else-len-lt-DUPLICATE_LIMIT-clause-noted : goal.returns-else-len-lt-DUPLICATE_LIMIT-clause-noted
returns-else-len-lt-DUPLICATE_LIMIT-clause-noted c =
    sym (take_front DUPLICATE_LIMIT c.args.self.now.tsns.items (c.args.tsn ∷ []) (omega (arith, c.len.ensures, c.if-len-lt-DUPLICATE_LIMIT.false, c.args.self.now.tsns.ok, c.args.self.now.few)))
