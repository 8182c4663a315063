-- Marks and end marks of a view that calls reach: what is marked for retransmission went out and is of no abandoned message; an end mark is of an abandoned
-- one.
use Rattle.std.proofs.Common.{◌≡◌, ℕ, zero, suc, ◌<◌, ◌≤◌, inl, inr, List, [], ◌∷◌, ◌++◌, length, Bool, true, false, Option, Some, refl, sym, ap, ◌∙◌, subst, arith}
use Rattle.std.specs.Prelude.{◌==◌, not, ◌&&◌, ◌||◌, slice_get, nat_lt, if◌then◌else◌}
use Rattle.std.proofs.lemmas.Bool.{and_parts}
use Rattle.std.proofs.lemmas.Bool.Decides.{nat_tests}
use Rattle.sctp_model.specs.numbers.Lists.{Has, item_at}
use Rattle.sctp_model.specs.messages.Format.{Format, Lane}
use Rattle.sctp_model.specs.messages.Plan.{Entry, End, Plan, entry_at, parts_from}
use Rattle.sctp_model.specs.sender.SenderView.{SenderView}
use Rattle.sctp_model.specs.sender.Words.{some_passes}
use Rattle.sctp_model.specs.sender.Entries.{entry_lane, entry_number, is_of, is_of_abandoned, is_wanted, is_unsettled, passes_at}
use Rattle.sctp_model.specs.sender.Filling.{with_sent}
use Rattle.sctp_model.specs.sender.SackTaken.{covered_by}
use Rattle.sctp_model.specs.sender.Abandoning.{Name, ended, with_abandoned, is_worn, is_to_repeat, marking, unsettled_at}
use Rattle.sctp_model.specs.sender.Reached.{IsReached, Begins, Queues, Goes, Covers, Closes, Abandons, Repeats, Rebases}
use Rattle.sctp_model.proofs.sender.WordLaws.{some_is}
use Rattle.sctp_model.proofs.sender.WishCases.{IsAssigned, Whole, Begun, Continued, after_wish}
use Rattle.sctp_model.proofs.sender.AbandonCases.{same_lane-self, after_abandon, after_end, given_other}
use Rattle.sctp_model.proofs.sender.Bounds.{IsBounded, is_bounded}
use Rattle.sctp_model.proofs.sender.PlanLaws.{continued_is}
use Rattle.sctp_model.proofs.sender.CountLaws.{HasMessages, is_named}

-- ---- a longer plan

slice_kept : (es ds : List Entry) (i : ℕ) → i < length es → slice_get (es ++ ds) i ≡ slice_get es i
slice_kept [] ds i low = absurd (omega arith)
slice_kept (e ∷ es) ds zero low = refl
slice_kept (e ∷ es) ds (suc i) low = slice_kept es ds i (omega arith)

-- the entries that there were are where they were
pub entry_kept : (es ds : List Entry) (i : ℕ) → i ≤ length es → item_at (es ++ ds) i ≡ item_at es i
entry_kept es ds zero low = refl
entry_kept es ds (suc i) low = slice_kept es ds i (omega arith)

-- an assignment puts fragments after the plan
pub record IsPutBehind (v u : SenderView) : Type 0 where
  pub more : List Entry
  pub entries : u.plan.entries ≡ v.plan.entries ++ more
  pub parts : (l : Lane) (n : ℕ) → Has more (End l n) → ⊥

no_end : (l b : Lane) (m n k d : ℕ) → Has (parts_from b m k d) (End l n) → ⊥
no_end l b m n k zero has = has
no_end l b m n k (suc d) has = elim has [ inl same ↦ cc | inr rest ↦ no_end l b m n (suc k) d rest ]

pub put_behind : (f : Format) (v u : SenderView) → HasMessages v → IsAssigned v f u → IsPutBehind v u
put_behind _ v _ h (Whole q rest is) =
    record { more = parts_from q.lane (length (v.plan.messages q.lane)) 0 (length q.message.fragments); entries = refl; parts = λ l n has. no_end l q.lane (length (v.plan.messages q.lane)) n 0 (length q.message.fragments) has }
put_behind _ v _ h (Begun s q lt on first) =
    record { more = parts_from q.lane (length (v.plan.messages q.lane)) 0 1; entries = refl; parts = λ l n has. no_end l q.lane (length (v.plan.messages q.lane)) n 0 1 has }
put_behind _ v _ h (Continued s e lt on) = record { more = e ∷ []; entries = refl; parts = none }
  where
    none : (l : Lane) (n : ℕ) → Has (e ∷ []) (End l n) → ⊥
    none l n (inl same) = let next = continued_is v.streams v.plan s e h on in let part = next.is in cc
    none l n (inr never) = never

-- ---- marks

pub record IsMarkedWell (v : SenderView) : Type 0 where
  pub sent : (i : ℕ) → v.marked i ≡ true → v.sent i ≡ true
  pub kept : (i : ℕ) (e : Entry) → v.marked i ≡ true → entry_at v.plan i ≡ Some e → is_of_abandoned v e ≡ false

-- what is marked has an index of the plan
marked_within : (v : SenderView) (i : ℕ) → IsBounded v → v.marked i ≡ true → i ≤ length v.plan.entries
marked_within v i b on = by_test (nat_lt (length v.plan.entries) i) refl
  where
    by_test : (t : Bool) → nat_lt (length v.plan.entries) i ≡ t → i ≤ length v.plan.entries
    by_test true past = absurd (let off = b.unmarked i (grind (arith, nat_tests)) in cc)
    by_test false low = grind (arith, nat_tests)

marked_assigned : (f : Format) (v u : SenderView) → IsBounded v → HasMessages v → IsMarkedWell v → IsAssigned v f u → IsMarkedWell u
marked_assigned f v u b named h a = by_case f u a (put_behind f v u named a)
  where
    stays : (i : ℕ) (e : Entry) (more es : List Entry) → v.marked i ≡ true → es ≡ v.plan.entries ++ more → item_at es i ≡ Some e → entry_at v.plan i ≡ Some e
    stays i e more es on longer here = sym (entry_kept v.plan.entries more i (marked_within v i b on)) ∙ ap (λ (xs : List Entry). item_at xs i) (sym longer) ∙ here

    by_case : (g : Format) (x : SenderView) → IsAssigned v g x → IsPutBehind v x → IsMarkedWell x
    by_case _ _ (Whole q rest is) p = record { sent = h.sent; kept = λ i e on here. h.kept i e on (stays i e p.more _ on p.entries here) }
    by_case _ _ (Begun s q lt on first) p = record { sent = h.sent; kept = λ i e mark here. h.kept i e mark (stays i e p.more _ mark p.entries here) }
    by_case _ _ (Continued s x lt on) p = record { sent = h.sent; kept = λ i e mark here. h.kept i e mark (stays i e p.more _ mark p.entries here) }

marked_sent : (u : SenderView) (i : ℕ) → IsMarkedWell u → IsMarkedWell (with_sent u i)
marked_sent u i h = record { sent = λ j on. by_sent j (j == i) on; kept = λ j e on here. h.kept j e (by_mark j (j == i) on) here }
  where
    by_sent : (j : ℕ) (b : Bool) → (if b then false else u.marked j) ≡ true → (if b then true else u.sent j) ≡ true
    by_sent j true on = refl
    by_sent j false on = h.sent j on

    by_mark : (j : ℕ) (b : Bool) → (if b then false else u.marked j) ≡ true → u.marked j ≡ true
    by_mark j true on = absurd (cc)
    by_mark j false on = on

-- fewer marks
marked_covered : (v : SenderView) (c r : ℕ) (covered : ℕ → Bool) → IsMarkedWell v → IsMarkedWell (record (covered_by v c covered) { rwnd = r })
marked_covered v c r covered h = record {
  sent = λ i on. h.sent i (and_parts (v.marked i) (not (covered i)) on).0;
  kept = λ i e on here. h.kept i e (and_parts (v.marked i) (not (covered i)) on).0 here;
}

marked_given : (v : SenderView) (n : Name) → IsBounded v → IsMarkedWell v → IsMarkedWell (with_abandoned v n)
marked_given v n b h = record { sent = λ i on. h.sent i (still i on).0; kept = λ i e on here. kept i e (still i on) here }
  where
    mine : ℕ → Entry → Bool
    mine j e = is_of n.lane n.number e

    still : (i : ℕ) → (v.marked i && not (passes_at v.plan mine i)) ≡ true → (v.marked i ≡ true) × (not (passes_at v.plan mine i) ≡ true)
    still i on = and_parts (v.marked i) (not (passes_at v.plan mine i)) on

    -- the entry was there before
    before : (i : ℕ) (e : Entry) → i ≤ length v.plan.entries → entry_at (ended v n) i ≡ Some e → entry_at v.plan i ≡ Some e
    before i e low = after_end (λ (p : Plan). entry_at p i ≡ Some e → entry_at v.plan i ≡ Some e) v n (λ off here. here) (λ on here. sym (entry_kept v.plan.entries (End n.lane n.number ∷ []) i low) ∙ here)

    its_own : (e : Entry) → (entry_lane e ≡ n.lane) × (entry_number e ≡ n.number) → is_of n.lane n.number e ≡ true
    its_own e (lane, number) = let self : (n.number == n.number) ≡ true = grind (arith, nat_tests) in rw (lane, number, same_lane-self n.lane, self) refl

    kept : (i : ℕ) (e : Entry) → (v.marked i ≡ true) × (not (passes_at v.plan mine i) ≡ true) → entry_at (ended v n) i ≡ Some e → is_of_abandoned (with_abandoned v n) e ≡ false
    kept i e (on, other) here =
        let there = before i e (marked_within v i b on) here in
        let off : not (is_of n.lane n.number e) ≡ true = subst (λ (o : Option Entry). not (some_passes (mine i) o) ≡ true) there other in
        given_other v n (entry_lane e) (entry_number e) (λ same. let yes = its_own e same in let clash : not true ≡ true = subst (λ (t : Bool). not t ≡ true) yes off in cc) ∙ h.kept i e on there

marked_timed : (v : SenderView) (test : ℕ → Bool) → IsMarkedWell v → IsMarkedWell (marking v test)
marked_timed v test h = record { sent = λ i on. (by_mark i (v.marked i) refl on).0; kept = λ i e on here. (by_mark i (v.marked i) refl on).1 e here }
  where
    lost : (x : Bool) → not x ≡ true → x ≡ false
    lost true is = absurd (cc)
    lost false is = refl

    by_mark : (i : ℕ) (b : Bool) → v.marked i ≡ b → (b || (test i && unsettled_at v i (entry_at v.plan i))) ≡ true → (v.sent i ≡ true) × ((e : Entry) → entry_at v.plan i ≡ Some e → is_of_abandoned v e ≡ false)
    by_mark i true marked on = (h.sent i marked, λ e here. h.kept i e marked here)
    by_mark i false marked on =
        let there = some_is (is_to_repeat v i) (entry_at v.plan i) (and_parts (test i) (unsettled_at v i (entry_at v.plan i)) on).1 in
        let parts = and_parts (v.sent i) (is_wanted v i there.0) (and_parts (is_unsettled v i there.0) (not (is_worn v i there.0)) there.2).0 in
        let wanted = and_parts (not (v.covered i)) (not (is_of_abandoned v there.0)) parts.1 in
        let found = there.1 in
        (parts.0, λ e here. let same : there.0 ≡ e = cc in subst (λ (x : Entry). is_of_abandoned v x ≡ false) same (lost (is_of_abandoned v there.0) wanted.1))

pub is_marked_well : (f : Format) (v : SenderView) → IsReached f v → IsMarkedWell v
is_marked_well f _ (Begins i s b r p most large) = record { sent = λ j on. absurd (cc); kept = λ j e on here. absurd (cc) }
is_marked_well f _ (Queues v l p b u n h free) = let k = is_marked_well f v h in record { sent = k.sent; kept = k.kept }
is_marked_well f _ (Goes v room w h next may) =
    let k = is_marked_well f v h in
    after_wish IsMarkedWell f v w k (λ u a. marked_assigned f v u (is_bounded f v h) (is_named f v h) k a) (λ u i x. marked_sent u i x) next
is_marked_well f _ (Covers v x h none) = marked_covered v _ _ _ (is_marked_well f v h)
is_marked_well f _ (Closes v x h none) = marked_covered v _ _ _ (is_marked_well f v h)
is_marked_well f _ (Abandons v t h) =
    let k = is_marked_well f v h in
    after_abandon IsMarkedWell v t k (λ on. record { sent = k.sent; kept = k.kept }) (λ n is kept. marked_given v n (is_bounded f v h) k)
is_marked_well f _ (Repeats v test h) = marked_timed v test (is_marked_well f v h)
is_marked_well f _ (Rebases v x h) = let k = is_marked_well f v h in record { sent = k.sent; kept = k.kept }
