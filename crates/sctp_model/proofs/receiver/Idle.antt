-- If nothing is due, giving changes nothing.
use Rattle.std.proofs.Common.{◌≡◌, ℕ, zero, suc, ◌⊎◌, Bool, true, false, ◌==◌, List, [], ◌∷◌, ◌++◌, filter, refl, ap, sym, ◌∙◌, subst, inl, inr, arith}
use Rattle.std.specs.Prelude.{not}
use Rattle.std.proofs.Math.Path.{fun_ext}
use Rattle.std.proofs.lemmas.Bool.{cases_Bool}
use Rattle.std.proofs.lemmas.Bool.Decides.{nat_tests}
use Rattle.sctp_model.specs.numbers.Lists.{Has, at}
use Rattle.sctp_model.specs.messages.Format.{Format, Lane, ordered_lane}
use Rattle.sctp_model.specs.messages.Pieces.{Piece}
use Rattle.sctp_model.specs.receiver.ReceiverView.{ReceiverView}
use Rattle.sctp_model.specs.receiver.Receiving.{HasNoWhole, HasNoWholeWith, Stop, is_below, without_below, GivesOrdered, GivesAll}
use Rattle.sctp_model.specs.receiver.Laws.{IsIdle, IsSettled}

-- ---- giving if nothing is due

at_same : {A : Type 0} (g : ℕ → A) (s : ℕ) (v : A) → v ≡ g s → (q : ℕ) → g q ≡ at g s v q
at_same g s v e q = go (cases_Bool (q == s))
  where
    go : (q == s ≡ true) ⊎ (q == s ≡ false) → g q ≡ at g s v q
    go (inl p) = let same : q ≡ s = grind (arith, nat_tests) in rw p (ap g same ∙ sym e)
    go (inr p) = rw p refl

append_nil : {A : Type 0} (xs : List A) → xs ++ [] ≡ xs
append_nil [] = refl
append_nil (x ∷ xs) = ap (λ (ys : List _). x ∷ ys) (append_nil xs)

filter_all : (test : Piece → Bool) (xs : List Piece) → ((x : Piece) → Has xs x → test x ≡ false) → filter (λ (x : Piece). not (test x)) xs ≡ xs
filter_all test [] none = refl
filter_all test (x ∷ xs) none =
    let here = none x (inl refl) in
    let more = filter_all test xs (λ y there. none y (inr there)) in
    rw here (ap (λ (ys : List Piece). x ∷ ys) more)

pub nothing_given : (f : Format) (r : ReceiverView) (s : ℕ) → IsIdle f r → IsSettled r → GivesOrdered f s r r
nothing_given f r s idle settled = ([], r.next s, Stop (r.next s) (idle.ordered s).passed (idle.ordered s).none, same)
  where
    kept : r.kept ≡ without_below r.kept s (r.next s)
    kept = sym (filter_all (is_below s (r.next s)) r.kept (settled s))

    same : r ≡ record r { next = at r.next s (r.next s); waiting = at r.waiting s (r.waiting s ++ []); kept = without_below r.kept s (r.next s) }
    same = λ i. record r {
      next = fun_ext (λ (q : ℕ). at_same r.next s (r.next s) refl q) i;
      waiting = fun_ext (λ (q : ℕ). at_same r.waiting s (r.waiting s ++ []) (append_nil (r.waiting s)) q) i;
      kept = kept i;
    }

pub nothing_given_anywhere : (f : Format) (n : ℕ) (r : ReceiverView) → IsIdle f r → IsSettled r → GivesAll f n r r
nothing_given_anywhere f zero r idle settled = refl
nothing_given_anywhere f (suc n) r idle settled = (r, nothing_given_anywhere f n r idle settled, nothing_given f r n idle settled)

-- Rest is a matter of what is kept, and of which numbers are waited for and skipped.
pub still_idle : (f : Format) (r t : ReceiverView) → r.kept ≡ t.kept → r.next ≡ t.next → r.skip ≡ t.skip → IsIdle f r → IsIdle f t
still_idle f r t kept next skip idle = record {
  ordered = λ s. record {
    passed = let p = (idle.ordered s).passed in let n : r.next s ≡ t.next s = ap (λ (g : ℕ → ℕ). g s) next in let k : r.skip (ordered_lane s) ≡ t.skip (ordered_lane s) = ap (λ (g : Lane → ℕ). g (ordered_lane s)) skip in omega (arith, p, n, k);
    none = subst (λ (v : ReceiverView). HasNoWhole f v.kept (ordered_lane s) (v.next s)) (λ i. record r { kept = kept i; next = next i }) (idle.ordered s).none;
  };
  unordered = λ y kind. subst (λ (ps : List Piece). HasNoWholeWith f ps y) kept (idle.unordered y kind);
}
