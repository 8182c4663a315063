-- The next wish, found among the items: the first that is marked, or else the first that never went out, or else what is assigned next.
use Rattle.std.proofs.Common.{◌≡◌, ℕ, zero, suc, ◌+◌, ◌-◌, ◌<◌, ◌≤◌, List, [], ◌∷◌, length, drop, Bool, true, false, Option, Some, None, refl, sym, ap, ◌∙◌, subst, arith, length-drop}
use Rattle.std.specs.Prelude.{not, ◌&&◌, nat_le, slice_get, if◌then◌else◌, option_map}
use Rattle.std.specs.Option.{option_or}
use Rattle.std.proofs.lemmas.Bool.Decides.{nat_tests}
use Rattle.sctp_model.specs.messages.Format.{Format}
use Rattle.sctp_model.specs.messages.Plan.{Entry, entry_at}
use Rattle.sctp_model.specs.sender.SenderView.{SenderView}
use Rattle.sctp_model.specs.sender.Words.{lowest, some_passes}
use Rattle.sctp_model.specs.sender.Entries.{is_unsent, passes_at}
use Rattle.sctp_model.specs.sender.Assigning.{assigned}
use Rattle.sctp_model.specs.sender.Filling.{standing, newcomer, next_wish}
use Rattle.sctp_model.proofs.sender.WordLaws.{lowest_found, lowest_none}
use Rattle.sctp_model.proofs.sender.PointLaws.{get-drop}
use Rattle.sctp_model.proofs.sender.Bounds.{IsBounded, is_bounded}
use Rattle.sctp_send.specs.SenderKept.{Item, Kept}
use Rattle.sctp_send.specs.SenderStands.{item_here, items_from, Keeps}
pub use Rattle.sctp_send.specs.inner.Wishing.{first_offset, is_item_marked, is_item_unsent}

-- the items from an index on pass just where their indexes do
abbrev pub Agrees : SenderView → (Item → Bool) → (ℕ → Bool) → ℕ → List Entry → Type 0
Agrees v test on from es = (k : ℕ) (e : Entry) → slice_get es k ≡ Some e → test (item_here v (from + k) e) ≡ on (from + k)

pub agrees_on : (v : SenderView) (test : Item → Bool) (on : ℕ → Bool) (from : ℕ) (e : Entry) (es : List Entry) → Agrees v test on from (e ∷ es) → Agrees v test on (suc from) es
agrees_on v test on from e es h k d here = let next : from + suc k ≡ suc from + k = omega arith in rw next at (h (suc k) d here)

-- what was found passes, and what stands before doesn't
pub record IsFirstOffset (on : ℕ → Bool) (from at count : ℕ) : Type 0 where
  pub within : at < count
  pub passes : on (from + at) ≡ true
  pub before : (k : ℕ) → k < at → on (from + k) ≡ false

pub found_offset : (v : SenderView) (test : Item → Bool) (on : ℕ → Bool) (from at : ℕ) (es : List Entry) → Agrees v test on from es → first_offset test (items_from v from es) ≡ Some at → IsFirstOffset on from at (length es)
found_offset v test on from at [] h is = absurd (cc)
found_offset v test on from at (e ∷ es) h is = by_test (test (item_here v from e)) here is (λ k. found_offset v test on (suc from) k es (agrees_on v test on from e es h))
  where
    zeroed : from + 0 ≡ from
    zeroed = omega arith

    here : test (item_here v from e) ≡ on (from + 0)
    here = rw zeroed (rw zeroed at (h 0 e refl))

    by_at : (o : Option ℕ) → on (from + 0) ≡ false → option_map suc o ≡ Some at → ((k : ℕ) → o ≡ Some k → IsFirstOffset on (suc from) k (length es)) → IsFirstOffset on from at (suc (length es))
    by_at None off none further = absurd (cc)
    by_at (Some k) off some further =
        let r = further k refl in
        let same : suc k ≡ at = cc in
        let low = r.within in
        let next : suc from + k ≡ from + suc k = omega arith in
        subst (λ (x : ℕ). IsFirstOffset on from x (suc (length es))) same (record { within = omega arith; passes = rw next at r.passes; before = before r })
      where
        before : IsFirstOffset on (suc from) k (length es) → (j : ℕ) → j < suc k → on (from + j) ≡ false
        before r zero lt = off
        before r (suc j) lt = let next : suc from + j ≡ from + suc j = omega arith in rw next at (r.before j (omega arith))

    by_test : (b : Bool) → b ≡ on (from + 0) → (if b then Some 0 else option_map suc (first_offset test (items_from v (suc from) es))) ≡ Some at
        → ((k : ℕ) → first_offset test (items_from v (suc from) es) ≡ Some k → IsFirstOffset on (suc from) k (length es)) → IsFirstOffset on from at (suc (length es))
    by_test true same some further = let z : 0 ≡ at = cc in subst (λ (x : ℕ). IsFirstOffset on from x (suc (length es))) z (record { within = omega arith; passes = sym same; before = λ k lt. absurd (omega arith) })
    by_test false same some further = by_at (first_offset test (items_from v (suc from) es)) (sym same) some further

-- where none was found, none passes
pub none_offset : (v : SenderView) (test : Item → Bool) (on : ℕ → Bool) (from : ℕ) (es : List Entry) → Agrees v test on from es → first_offset test (items_from v from es) ≡ None → (k : ℕ) → k < length es → on (from + k) ≡ false
none_offset v test on from [] h is k lt = absurd (omega arith)
none_offset v test on from (e ∷ es) h is k lt = by_test (test (item_here v from e)) here is (λ none j low. none_offset v test on (suc from) es (agrees_on v test on from e es h) none j low) k lt
  where
    zeroed : from + 0 ≡ from
    zeroed = omega arith

    here : test (item_here v from e) ≡ on (from + 0)
    here = rw zeroed (rw zeroed at (h 0 e refl))

    by_option : (o : Option ℕ) → option_map suc o ≡ None → o ≡ None
    by_option None none = refl
    by_option (Some j) none = absurd (cc)

    by_test : (b : Bool) → b ≡ on (from + 0) → (if b then Some 0 else option_map suc (first_offset test (items_from v (suc from) es))) ≡ None
        → (first_offset test (items_from v (suc from) es) ≡ None → (j : ℕ) → j < length es → on (suc from + j) ≡ false) → (j : ℕ) → j < suc (length es) → on (from + j) ≡ false
    by_test true same none further j low = absurd (cc)
    by_test false same none further zero low = sym same
    by_test false same none further (suc j) low = let next : suc from + j ≡ from + suc j = omega arith in rw next at (further (by_option (first_offset test (items_from v (suc from) es)) none) j (omega arith))

-- ---- over the whole plan: nothing up to CUM passes

split : (c j : ℕ) → c < j → suc c + (j - suc c) ≡ j
split c j lt = omega arith

pub lowest_offset : (f : Format) (s : Kept) (v : SenderView) (test : Item → Bool) (on : ℕ → Bool) (at : ℕ) → Keeps f s v → Agrees v test on (suc v.cum) (drop v.cum v.plan.entries)
    → ((j : ℕ) → 0 < j → j ≤ v.cum → on j ≡ false) → first_offset test s.items ≡ Some at → lowest on (length v.plan.entries) ≡ Some (suc (v.cum + at))
lowest_offset f s v test on at k h below is =
    let r = found_offset v test on (suc v.cum) at (drop v.cum v.plan.entries) h (ap (first_offset test) (sym k.holds.items) ∙ is) in
    let long = length-drop v.cum v.plan.entries in
    let low = r.within in
    let b = (is_bounded f v k.reached).within in
    let at_is : suc v.cum + at ≡ suc (v.cum + at) = omega arith in
    lowest_found on (length v.plan.entries) (suc (v.cum + at)) (record {
      some = omega arith;
      within = omega arith;
      passes = rw at_is at r.passes;
      first = λ j some lt. by_cum j (nat_le j v.cum) refl some lt (λ i less. r.before i less);
    })
  where
    by_cum : (j : ℕ) (t : Bool) → nat_le j v.cum ≡ t → 0 < j → j < suc (v.cum + at) → ((i : ℕ) → i < at → on (suc v.cum + i) ≡ false) → on j ≡ false
    by_cum j true le some lt before = below j some (grind (arith, nat_tests))
    by_cum j false gt some lt before =
        let past : v.cum < j = grind (arith, nat_tests) in
        let back = split v.cum j past in
        rw back at (before (j - suc v.cum) (omega arith))

pub none_at_all : (f : Format) (s : Kept) (v : SenderView) (test : Item → Bool) (on : ℕ → Bool) → Keeps f s v → Agrees v test on (suc v.cum) (drop v.cum v.plan.entries)
    → ((j : ℕ) → 0 < j → j ≤ v.cum → on j ≡ false) → first_offset test s.items ≡ None → lowest on (length v.plan.entries) ≡ None
none_at_all f s v test on k h below is = lowest_none on (length v.plan.entries) (λ j some le. by_cum j (nat_le j v.cum) refl some le)
  where
    by_cum : (j : ℕ) (t : Bool) → nat_le j v.cum ≡ t → 0 < j → j ≤ length v.plan.entries → on j ≡ false
    by_cum j true le some hi = below j some (grind (arith, nat_tests))
    by_cum j false gt some hi =
        let past : v.cum < j = grind (arith, nat_tests) in
        let long = length-drop v.cum v.plan.entries in
        let back = split v.cum j past in
        rw back at (none_offset v test on (suc v.cum) (drop v.cum v.plan.entries) h (ap (first_offset test) (sym k.holds.items) ∙ is) (j - suc v.cum) (omega arith))

pub marks_agree : (v : SenderView) → Agrees v is_item_marked v.marked (suc v.cum) (drop v.cum v.plan.entries)
marks_agree v k e here = refl

pub unsent_agree : (v : SenderView) → Agrees v is_item_unsent (passes_at v.plan (is_unsent v)) (suc v.cum) (drop v.cum v.plan.entries)
unsent_agree v k e here =
    let at_is : suc v.cum + k ≡ suc (v.cum + k) = omega arith in
    let there : entry_at v.plan (suc (v.cum + k)) ≡ Some e = get-drop v.cum v.plan.entries k ∙ here in
    let found : entry_at v.plan (suc v.cum + k) ≡ Some e = rw at_is there in
    sym (ap (some_passes (is_unsent v (suc v.cum + k))) found)

pub none_marked : (f : Format) (v : SenderView) → IsBounded v → (j : ℕ) → 0 < j → j ≤ v.cum → v.marked j ≡ false
none_marked f v b j some le = b.apart j (b.covered j some le)

none_unsent : (v : SenderView) → IsBounded v → (j : ℕ) → 0 < j → j ≤ v.cum → passes_at v.plan (is_unsent v) j ≡ false
none_unsent v b j some le = by_entry (entry_at v.plan j)
  where
    by_entry : (o : Option Entry) → some_passes (is_unsent v j) o ≡ false
    by_entry None = refl
    by_entry (Some e) = rw (b.covered j some le) (by_sent (v.sent j))
      where
        by_sent : (x : Bool) → (not x && false) ≡ false
        by_sent true = refl
        by_sent false = refl

-- ---- the next wish

pub wish_marked : (f : Format) (s : Kept) (v : SenderView) (at : ℕ) → Keeps f s v → first_offset is_item_marked s.items ≡ Some at → next_wish f v ≡ Some (standing v (suc (v.cum + at)))
wish_marked f s v at k is = rw (lowest_offset f s v is_item_marked v.marked at k (marks_agree v) (none_marked f v (is_bounded f v k.reached)) is) refl

pub wish_unsent : (f : Format) (s : Kept) (v : SenderView) (at : ℕ) → Keeps f s v → first_offset is_item_marked s.items ≡ None → first_offset is_item_unsent s.items ≡ Some at → next_wish f v ≡ Some (standing v (suc (v.cum + at)))
wish_unsent f s v at k none is =
    rw (
      none_at_all f s v is_item_marked v.marked k (marks_agree v) (none_marked f v (is_bounded f v k.reached)) none,
      lowest_offset f s v is_item_unsent (passes_at v.plan (is_unsent v)) at k (unsent_agree v) (none_unsent v (is_bounded f v k.reached)) is,
    ) refl

pub wish_new : (f : Format) (s : Kept) (v : SenderView) → Keeps f s v → first_offset is_item_marked s.items ≡ None → first_offset is_item_unsent s.items ≡ None → next_wish f v ≡ option_map (newcomer v) (assigned f v)
wish_new f s v k none also =
    rw (
      none_at_all f s v is_item_marked v.marked k (marks_agree v) (none_marked f v (is_bounded f v k.reached)) none,
      none_at_all f s v is_item_unsent (passes_at v.plan (is_unsent v)) k (unsent_agree v) (none_unsent v (is_bounded f v k.reached)) also,
    ) (alone (assigned f v))
  where
    alone : (o : Option SenderView) → option_or (option_map (newcomer v) o) None ≡ option_map (newcomer v) o
    alone None = refl
    alone (Some u) = refl
