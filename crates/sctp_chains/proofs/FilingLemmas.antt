-- A fragment is filed: in each of four ways the chains have one fragment more.
use Rattle.std.proofs.Common.{◌≡◌, ℕ, suc, ◌<◌, ◌≤◌, true, List, [], ◌∷◌, ◌++◌, length, get_or, set, take, drop, Some, None, inl, inr, refl, sym, ◌∙◌, ap, subst, append_assoc, arith}
use Rattle.std.specs.List.{remove}
use Rattle.std.proofs.lemmas.List.{set_split}
use Rattle.sctp_model.specs.numbers.Lists.{Has}
use Rattle.sctp_chains.specs.Same.{AreSame}
use Rattle.sctp_chains.specs.Cells.{Cell}
use Rattle.sctp_chains.specs.Links.{ChainKept, cells_in, is_linked, join, IsChain, IsBelow, AreChains}
use Rattle.sctp_chains.specs.inner.Filing.{IsPlace, IsLinkBefore, IsLinkBehind, Avoids, HaveMore, Gains}
use Rattle.sctp_chains.proofs.ListLemmas.{in_front, in_part, in_around, in_midst, around, here_first, take_one, set_removed, taken_has, dropped_has, order_across, order_back, halves}
use Rattle.sctp_chains.proofs.SameLemmas.{same_as, same_midst}
use Rattle.sctp_chains.proofs.ChainLemmas.{joined_chain, joined_cells}
use Rattle.sctp_chains.proofs.SpotLemmas.{IsSpot, spot, none_before, none_behind, gains, not_back, append_nil}

module _ (cs : List ChainKept) (k : ℕ) (a : ChainKept) (le : k ≤ length cs) (own : IsChain a) (one : a.first ≡ a.last) (place : AreChains cs → IsPlace a.first cs k) where
  spot_here : AreChains cs → Avoids a.first cs → IsSpot a (take k cs) (drop k cs)
  spot_here old new = spot cs k a old own one new (place old)

  pub files_alone : IsLinkBefore cs k a None → IsLinkBehind cs k a None → Gains a cs (take k cs ++ a ∷ drop k cs)
  files_alone before behind old new =
      let s = spot_here old new in
      subst (λ (ds : List ChainKept). HaveMore a ds (take k cs ++ a ∷ drop k cs)) (halves cs k)
      (gains (take k cs) [] (drop k cs) a a (subst AreChains (sym (halves cs k)) old) s (λ c there. elim (in_part (take k cs) (drop k cs) c there) [
        | inl front ↦ (none_before cs k a old le s before c front, not_back c a (old.each c (taken_has cs k c front)) own (s.before c front))
        | inr back ↦ (not_back a c own (old.each c (dropped_has cs k c back)) (s.behind c back), none_behind cs k a old s behind c back)
      ]) (same_as _ _ (sym (append_nil (cells_in a)))))

  pub files_back : (j : ℕ) (c : ChainKept) → c ≡ get_or cs j c → IsLinkBefore cs k a (Some j) → IsLinkBehind cs k a None → Gains a cs (set cs j (join c a))
  files_back j c at before behind old new = subst (HaveMore a cs) (sym (set_split cs j (join c a) before.1)) (subst (λ (ds : List ChainKept). HaveMore a ds (front ++ join c a ∷ back)) whole
      (gains front (c ∷ []) back (join c a) a parts (record {
        own = joined_chain c a good own linked;
        before = λ x there. order_across IsBelow front (c ∷ back) parts.rising x c there (inl refl);
        behind = λ x there. (spot_here old new).behind x (in_drop x there);
      }) (λ x there. (
        old.parted x c (in_all x there) here,
        elim (in_part front back x there) [
          | inl early ↦ not_back x a (old.each x (in_all x there)) own ((spot_here old new).before x (in_take x (in_front front (c ∷ []) x early)))
          | inr late ↦ none_behind cs k a old (spot_here old new) behind x (in_drop x late)
        ],
      )) same))
    where
      front : List ChainKept
      front = take j cs

      back : List ChainKept
      back = drop (suc j) cs

      linked : is_linked c a ≡ true
      linked = before.2 c at

      whole : front ++ c ∷ back ≡ cs
      whole = around cs j c before.1 at

      parts : AreChains (front ++ ((c ∷ []) ++ back))
      parts = subst AreChains (sym whole) old

      in_drop : (x : ChainKept) → Has back x → Has (drop k cs) x
      in_drop x there = subst (λ (n : ℕ). Has (drop n cs) x) before.0 there

      in_take : (x : ChainKept) → Has (front ++ c ∷ []) x → Has (take k cs) x
      in_take x there = subst (λ (n : ℕ). Has (take n cs) x) before.0 (subst (λ (xs : List ChainKept). Has xs x) (sym (take_one cs j c before.1 at)) there)

      in_all : (x : ChainKept) → Has (front ++ back) x → Has cs x
      in_all x there = subst (λ (xs : List ChainKept). Has xs x) whole (in_around front back c x there)

      here : Has cs c
      here = subst (λ (xs : List ChainKept). Has xs c) whole (in_midst front back c)

      good : IsChain c
      good = old.each c here

      same : AreSame (cells_in (join c a)) (cells_in a ++ (cells_in c ++ []))
      same = subst (λ (xs : List Cell). AreSame xs (cells_in a ++ (cells_in c ++ [])))
          (ap (λ (xs : List Cell). cells_in c ++ xs) (append_nil (cells_in a)) ∙ sym (joined_cells c a good own linked)) (same_midst (cells_in c) (cells_in a) [])

  pub files_front : (j : ℕ) (d : ChainKept) → d ≡ get_or cs j d → IsLinkBefore cs k a None → IsLinkBehind cs k a (Some j) → Gains a cs (set cs j (join a d))
  files_front j d at before behind old new = subst (HaveMore a cs) (sym (set_split cs j (join a d) behind.1)) (subst (λ (ds : List ChainKept). HaveMore a ds (front ++ join a d ∷ back)) whole
      (gains front (d ∷ []) back (join a d) a parts (record {
        own = joined_chain a d own good linked;
        before = λ x there. (spot_here old new).before x (in_take x there);
        behind = λ x there. (order_back IsBelow front (d ∷ back) parts.rising).0 x there;
      }) (λ x there. (
        elim (in_part front back x there) [
          | inl early ↦ none_before cs k a old le (spot_here old new) before x (in_take x early)
          | inr late ↦ not_back a x own (old.each x (in_all x there)) ((spot_here old new).behind x (in_drop x (inr late)))
        ],
        old.parted d x here (in_all x there),
      )) same))
    where
      front : List ChainKept
      front = take j cs

      back : List ChainKept
      back = drop (suc j) cs

      linked : is_linked a d ≡ true
      linked = behind.2 d at

      whole : front ++ d ∷ back ≡ cs
      whole = around cs j d behind.1 at

      parts : AreChains (front ++ ((d ∷ []) ++ back))
      parts = subst AreChains (sym whole) old

      in_take : (x : ChainKept) → Has front x → Has (take k cs) x
      in_take x there = subst (λ (n : ℕ). Has (take n cs) x) behind.0 there

      in_drop : (x : ChainKept) → Has (d ∷ back) x → Has (drop k cs) x
      in_drop x there = subst (λ (n : ℕ). Has (drop n cs) x) behind.0 (subst (λ (xs : List ChainKept). Has xs x) (sym (here_first cs j d behind.1 at)) there)

      in_all : (x : ChainKept) → Has (front ++ back) x → Has cs x
      in_all x there = subst (λ (xs : List ChainKept). Has xs x) whole (in_around front back d x there)

      here : Has cs d
      here = subst (λ (xs : List ChainKept). Has xs d) whole (in_midst front back d)

      good : IsChain d
      good = old.each d here

      same : AreSame (cells_in (join a d)) (cells_in a ++ (cells_in d ++ []))
      same = same_as _ _ (joined_cells a d own good linked ∙ ap (λ (xs : List Cell). cells_in a ++ xs) (sym (append_nil (cells_in d))))

  pub files_both : (i j : ℕ) (c d : ChainKept) → c ≡ get_or cs i c → d ≡ get_or cs j d → IsLinkBefore cs k a (Some i) → IsLinkBehind cs k a (Some j) →
      Gains a cs (remove (set cs i (join (join c a) d)) j)
  files_both i j c d at also before behind old new = subst (HaveMore a cs) (sym left) (subst (λ (ds : List ChainKept). HaveMore a ds (front ++ m ∷ back)) whole
      (gains front (c ∷ d ∷ []) back m a parts (record {
        own = joined_chain (join c a) d wide (old.each d last) after;
        before = λ x there. order_across IsBelow front (c ∷ d ∷ back) parts.rising x c there (inl refl);
        behind = λ x there. (order_back IsBelow front (c ∷ d ∷ back) parts.rising).1.0 x there;
      }) (λ x there. (old.parted x c (in_all x there) first, old.parted d x last (in_all x there))) same))
    where
      front : List ChainKept
      front = take i cs

      back : List ChainKept
      back = drop (suc (suc i)) cs

      m : ChainKept
      m = join (join c a) d

      next : j ≡ suc i
      next = behind.0 ∙ sym before.0

      less : suc i < length cs
      less = let l = behind.1 in let n = next in omega (arith, l, n)

      second : d ≡ get_or cs (suc i) d
      second = subst (λ (n : ℕ). d ≡ get_or cs n d) next also

      whole : front ++ c ∷ d ∷ back ≡ cs
      whole = ap (λ (xs : List ChainKept). front ++ c ∷ xs) (sym (here_first cs (suc i) d less second)) ∙ around cs i c before.1 at

      left : remove (set cs i m) j ≡ front ++ m ∷ back
      left = ap (remove (set cs i m)) next ∙ set_removed cs i m less

      parts : AreChains (front ++ ((c ∷ d ∷ []) ++ back))
      parts = subst AreChains (sym whole) old

      in_all : (x : ChainKept) → Has (front ++ back) x → Has cs x
      in_all x there = subst (λ (xs : List ChainKept). Has xs x) whole (in_around front (d ∷ back) c x (in_around front back d x there))

      first : Has cs c
      first = subst (λ (xs : List ChainKept). Has xs c) whole (in_midst front (d ∷ back) c)

      last : Has cs d
      last = subst (λ (xs : List ChainKept). Has xs d) whole (in_around front (d ∷ back) c d (in_midst front back d))

      wide : IsChain (join c a)
      wide = joined_chain c a (old.each c first) own (before.2 c at)

      after : is_linked (join c a) d ≡ true
      after = behind.2 d also

      cells : cells_in m ≡ cells_in c ++ (cells_in a ++ cells_in d)
      cells = joined_cells (join c a) d wide (old.each d last) after ∙ ap (λ (xs : List Cell). xs ++ cells_in d) (joined_cells c a (old.each c first) own (before.2 c at))
          ∙ append_assoc (cells_in c) (cells_in a) (cells_in d)

      same : AreSame (cells_in m) (cells_in a ++ (cells_in c ++ (cells_in d ++ [])))
      same = subst (λ (xs : List Cell). AreSame (cells_in m) (cells_in a ++ (cells_in c ++ xs))) (sym (append_nil (cells_in d)))
          (subst (λ (xs : List Cell). AreSame xs (cells_in a ++ (cells_in c ++ cells_in d))) (sym cells) (same_midst (cells_in c) (cells_in a) (cells_in d)))
