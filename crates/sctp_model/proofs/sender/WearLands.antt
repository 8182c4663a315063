-- What was repeated as often as it may be is given up: nothing that is unsettled is worn any more.
use Rattle.std.proofs.Common.{◌≡◌, ℕ, zero, suc, ◌+◌, ◌<◌, ◌≤◌, ◌⊎◌, inl, inr, Bool, true, false, List, [], ◌∷◌, length, Option, Some, None, refl, sym, ap, ◌∙◌, subst, arith, if◌then◌else◌}
use Rattle.std.specs.Prelude.{◌==◌, not, ◌&&◌, ◌||◌, nat_lt, fold, slice_get, option_map, option_and_then, unwrap_or}
use Rattle.std.specs.Option.{option_map_or}
use Rattle.std.proofs.lemmas.Bool.{and_parts}
use Rattle.std.proofs.lemmas.Bool.Decides.{nat_tests}
use Rattle.sctp_model.specs.numbers.Lists.{Has, item_at}
use Rattle.sctp_model.specs.messages.Format.{Format, Lane, same_lane}
use Rattle.sctp_model.specs.messages.Plan.{Message, Entry, End, Plan, entry_at}
use Rattle.sctp_model.specs.sender.SenderView.{SenderView}
use Rattle.sctp_model.specs.sender.Words.{some_passes, count_up}
use Rattle.sctp_model.specs.sender.Entries.{entry_lane, entry_number, entry_message, is_of, is_in_part, is_wanted, is_of_abandoned, is_unsettled, any_from, some_entry}
use Rattle.sctp_model.specs.sender.Assigning.{with_entry}
use Rattle.sctp_model.specs.sender.Abandoning.{Name, name_at, name_of, without, has_uncovered, may_abandon_named, with_abandoned, abandon_named, abandon_after, is_used_up, is_worn, is_worn_at, ticket_at, wear_one, worn}
use Rattle.sctp_model.specs.sender.Reached.{IsReached, Abandons}
use Rattle.sctp_model.proofs.sender.WordLaws.{some_is}
use Rattle.sctp_model.proofs.sender.AbandonCases.{same_lane-self, lanes_same, after_abandon, after_end, given_other, given_itself}
use Rattle.sctp_model.proofs.sender.Bounds.{IsBounded, is_bounded, entry_beyond}
use Rattle.sctp_model.proofs.sender.MarkLaws.{entry_kept}
use Rattle.sctp_model.proofs.sender.OwnLaws.{Owns, AllOwn}
use Rattle.sctp_model.proofs.sender.TicketLaws.{is_ticketed}
use Rattle.sctp_model.proofs.sender.LandLaws.{NoneWorn, LandsAs, abandoned_lands}
use Rattle.sctp_model.proofs.sender.WornLaws.{wears_each}

-- ---- one index

-- what is unsettled there may go again
abbrev IsClear : SenderView → ℕ → Type 0
IsClear v i = (e : Entry) → entry_at v.plan i ≡ Some e → (is_unsettled v i e && is_worn v i e) ≡ false

abbrev shape : (s c a w : Bool) → Bool
shape s c a w = (s && (not c && not a)) && w

given_shape : (s c w : Bool) → shape s c true w ≡ false
given_shape true true w = refl
given_shape true false w = refl
given_shape false c w = refl

-- ---- a message is given up

-- what was so of the entries that there were, with what is given up, is so there
given_at : (v : SenderView) (n : Name) (i : ℕ) → IsBounded v
    → ((e : Entry) → entry_at v.plan i ≡ Some e → shape (v.sent i) (v.covered i) ((with_abandoned v n).abandoned (entry_lane e) (entry_number e)) (is_worn v i e) ≡ false)
    → IsClear (with_abandoned v n) i
given_at v n i b old = after_end (λ (p : Plan). IsClear (record (with_abandoned v n) { plan = p }) i) v n (λ off. old) (λ on e there. more e there (nat_lt (length v.plan.entries) i) refl)
  where
    more : (e : Entry) → entry_at (with_entry v.plan (End n.lane n.number)) i ≡ Some e → (t : Bool) → nat_lt (length v.plan.entries) i ≡ t
        → shape (v.sent i) (v.covered i) ((with_abandoned v n).abandoned (entry_lane e) (entry_number e)) (is_worn v i e) ≡ false
    more e there true past = let off = b.unsent i (grind (arith, nat_tests)) in rw off refl
    more e there false within = old e (sym (entry_kept v.plan.entries (End n.lane n.number ∷ []) i (grind (arith, nat_tests))) ∙ there)

its_own : (n : Name) (e : Entry) → (entry_lane e ≡ n.lane) × (entry_number e ≡ n.number) → is_of n.lane n.number e ≡ true
its_own n e (lane, number) = let self : (n.number == n.number) ≡ true = grind (arith, nat_tests) in rw (lane, number, same_lane-self n.lane, self) refl

given_clear : (v : SenderView) (n : Name) (i : ℕ) → IsBounded v → IsClear v i → IsClear (with_abandoned v n) i
given_clear v n i b clear = given_at v n i b (λ e there. by_name e there (is_of n.lane n.number e) refl)
  where
    u : SenderView
    u = with_abandoned v n

    by_name : (e : Entry) → entry_at v.plan i ≡ Some e → (x : Bool) → is_of n.lane n.number e ≡ x → shape (v.sent i) (v.covered i) (u.abandoned (entry_lane e) (entry_number e)) (is_worn v i e) ≡ false
    by_name e there true on =
        let parts = and_parts (same_lane n.lane (entry_lane e)) (n.number == entry_number e) on in
        let lane = lanes_same n.lane (entry_lane e) parts.0 in
        let number : n.number ≡ entry_number e = let is = parts.1 in grind (arith, nat_tests) in
        let given : u.abandoned (entry_lane e) (entry_number e) ≡ true =
        subst (λ (m : ℕ). u.abandoned (entry_lane e) m ≡ true) number (subst (λ (l : Lane). u.abandoned l n.number ≡ true) lane (given_itself v n)) in
        subst (λ (a : Bool). shape (v.sent i) (v.covered i) a (is_worn v i e) ≡ false) (sym given) (given_shape (v.sent i) (v.covered i) (is_worn v i e))
    by_name e there false off =
        let apart = given_other v n (entry_lane e) (entry_number e) (λ same. let on = its_own n e same in let clash : true ≡ false = sym on ∙ off in absurd (cc)) in
        subst (λ (a : Bool). shape (v.sent i) (v.covered i) a (is_worn v i e) ≡ false) (sym apart) (clear e there)

abandoned_clear : (f : Format) (v : SenderView) (t i : ℕ) → IsReached f v → IsClear v i → IsClear (abandon_after v t) i
abandoned_clear f v t i h clear = after_abandon (λ (u : SenderView). IsClear u i) v t clear (λ on. clear) (λ n is kept. given_clear v n i (is_bounded f v h) clear)

-- ---- what is worn is given up

own_at : (p : Plan) (k : ℕ) (all es : List Entry) (i : ℕ) (e : Entry) → AllOwn p k all es → slice_get es i ≡ Some e → Owns p k all (entry_lane e) (entry_number e)
own_at p k all [] i e own is = absurd (cc)
own_at p k all (x ∷ es) zero e own is = let same : x ≡ e = cc in subst (λ (y : Entry). Owns p k all (entry_lane y) (entry_number y)) same own.0
own_at p k all (x ∷ es) (suc i) e own is = own_at p k all es i e own.1 is

pub own_item : (p : Plan) (k : ℕ) (all es : List Entry) (i : ℕ) (e : Entry) → AllOwn p k all es → item_at es i ≡ Some e → Owns p k all (entry_lane e) (entry_number e)
own_item p k all es zero e own is = absurd (cc)
own_item p k all es (suc i) e own is = own_at p k all es i e own is

-- an entry that passes is one of all
any_there : (test : ℕ → Entry → Bool) (i : ℕ) (es : List Entry) (j : ℕ) (e : Entry) → slice_get es j ≡ Some e → test (i + j) e ≡ true → any_from test i es ≡ true
any_there test i [] j e is on = absurd (cc)
any_there test i (x ∷ es) zero e is on =
    let same : x ≡ e = cc in
    let at : i + 0 ≡ i = omega arith in
    let here : test i x ≡ true = subst (λ (y : Entry). test i y ≡ true) (sym same) (subst (λ (k : ℕ). test k e ≡ true) at on) in
    rw here refl
any_there test i (x ∷ es) (suc j) e is on =
    let at : i + suc j ≡ suc i + j = omega arith in
    let rest = any_there test (suc i) es j e is (subst (λ (k : ℕ). test k e ≡ true) at on) in
    go (test i x) rest
  where
    go : (b : Bool) → any_from test (suc i) es ≡ true → (b || any_from test (suc i) es) ≡ true
    go true rest = refl
    go false rest = rest

item_any : (test : ℕ → Entry → Bool) (es : List Entry) (j : ℕ) (e : Entry) → item_at es j ≡ Some e → test j e ≡ true → any_from test 1 es ≡ true
item_any test es zero e is on = absurd (cc)
item_any test es (suc j) e is on = any_there test 1 es j e is (let at : suc j ≡ 1 + j = omega arith in subst (λ (k : ℕ). test k e ≡ true) at on)

off_of : (b : Bool) → not b ≡ true → b ≡ false
off_of true on = absurd (cc)
off_of false on = refl

covered_not : (a b : Bool) → b ≡ true → (not a && not b) ≡ false
covered_not true b on = refl
covered_not false true on = refl
covered_not false false on = absurd (cc)

worn_clears : (f : Format) (v : SenderView) (i : ℕ) (e : Entry) → IsReached f v → entry_at v.plan i ≡ Some e → (is_unsettled v i e && is_worn v i e) ≡ true → IsClear (abandon_after v (ticket_at v i)) i
worn_clears f v i e h there on =
    let parts = and_parts (is_unsettled v i e) (is_worn v i e) on in
    let may = and_parts v.partial (some_passes (is_used_up (v.repeats i)) (entry_message v.plan e)) parts.1 in
    let used = some_is (is_used_up (v.repeats i)) (entry_message v.plan e) may.1 in
    let wanted = and_parts (v.sent i) (is_wanted v i e) parts.0 in
    let kept = and_parts (not (v.covered i)) (not (is_of_abandoned v e)) wanted.1 in
    let bare = off_of (v.covered i) kept.0 in
    let whole = off_of (is_of_abandoned v e) kept.1 in
    let whose : option_and_then (entry_message v.plan) (entry_at v.plan i) ≡ Some used.0 = ap (option_and_then (entry_message v.plan)) there ∙ used.1 in
    let ticket : ticket_at v i ≡ used.0.ticket = ap (λ (o : Option Message). unwrap_or (option_map (λ x. x.ticket) o) 0) whose in
    let own = own_item v.plan v.tickets v.plan.entries v.plan.entries i e (is_ticketed f v h).owned there in
    let self : (used.0.ticket == used.0.ticket) ≡ true = grind (arith, nat_tests) in
    let has : some_passes (λ (x : Message). x.ticket == used.0.ticket) (entry_message v.plan e) ≡ true = ap (some_passes (λ (x : Message). x.ticket == used.0.ticket)) used.1 ∙ self in
    let named : name_of v (ticket_at v i) ≡ Some (name_at e) = ap (name_of v) ticket ∙ (own used.0.ticket has).2 in
    let mine : (is_of (entry_lane e) (entry_number e) e && not (v.covered i)) ≡ true = (let its = its_own (name_at e) e (refl, refl) in rw (its, bare) refl) in
    let open_still : some_entry v (λ j x. is_of (entry_lane e) (entry_number e) x && not (v.covered j)) ≡ true =
    item_any (λ j x. is_of (entry_lane e) (entry_number e) x && not (v.covered j)) v.plan.entries i e there mine in
    let uncovered = covered_not (is_in_part v (entry_lane e) (entry_number e)) (has_uncovered v (name_at e)) open_still in
    let given : may_abandon_named v (name_at e) ≡ true = rw (may.0, whole, uncovered) refl in
    subst (λ (o : Option Name). IsClear (option_map_or (abandon_named v) o (record v { queue = without (ticket_at v i) v.queue })) i) (sym named)
    (subst (λ (x : Bool). IsClear (if x then with_abandoned v (name_at e) else v) i) (sym given) (given_at v (name_at e) i (is_bounded f v h) (λ d here. gone_now d here)))
  where
    gone_now : (d : Entry) → entry_at v.plan i ≡ Some d → shape (v.sent i) (v.covered i) ((with_abandoned v (name_at e)).abandoned (entry_lane d) (entry_number d)) (is_worn v i d) ≡ false
    gone_now d here =
        let same : e ≡ d = cc in
        let lost : (with_abandoned v (name_at e)).abandoned (entry_lane d) (entry_number d) ≡ true =
        subst (λ (x : Entry). (with_abandoned v (name_at e)).abandoned (entry_lane x) (entry_number x) ≡ true) same (given_itself v (name_at e)) in
        subst (λ (a : Bool). shape (v.sent i) (v.covered i) a (is_worn v i d) ≡ false) (sym lost) (given_shape (v.sent i) (v.covered i) (is_worn v i d))

-- ---- index after index

one_reached : (f : Format) (v : SenderView) (i : ℕ) → IsReached f v → IsReached f (wear_one (λ i. true) v i)
one_reached f v i h = go (is_worn_at (λ i. true) v i)
  where
    go : (b : Bool) → IsReached f (if b then abandon_after v (ticket_at v i) else v)
    go true = Abandons v (ticket_at v i) h
    go false = h

one_clear : (f : Format) (v : SenderView) (i j : ℕ) → IsReached f v → IsClear v j → IsClear (wear_one (λ i. true) v i) j
one_clear f v i j h clear = go (is_worn_at (λ i. true) v i)
  where
    go : (b : Bool) → IsClear (if b then abandon_after v (ticket_at v i) else v) j
    go true = abandoned_clear f v (ticket_at v i) j h clear
    go false = clear

clear_here : (f : Format) (v : SenderView) (i : ℕ) → IsReached f v → IsClear (wear_one (λ i. true) v i) i
clear_here f v i h = go (is_worn_at (λ i. true) v i) refl
  where
    go : (b : Bool) → is_worn_at (λ i. true) v i ≡ b → IsClear (if b then abandon_after v (ticket_at v i) else v) i
    go true on =
        let there = some_is (λ e. is_unsettled v i e && is_worn v i e) (entry_at v.plan i) on in
        worn_clears f v i there.0 h there.1 there.2
    go false off = λ e there. subst (λ (o : Option Entry). some_passes (λ e. is_unsettled v i e && is_worn v i e) o ≡ false) there off

all_clear : (f : Format) (v : SenderView) (is : List ℕ) (j : ℕ) → IsReached f v → Has is j ⊎ IsClear v j → IsClear (fold (wear_one (λ i. true)) v is) j
all_clear f v [] j h (inl none) = absurd none
all_clear f v [] j h (inr clear) = clear
all_clear f v (i ∷ is) j h (inr clear) = all_clear f (wear_one (λ i. true) v i) is j (one_reached f v i h) (inr (one_clear f v i j h clear))
all_clear f v (i ∷ is) j h (inl (inr later)) = all_clear f (wear_one (λ i. true) v i) is j (one_reached f v i h) (inl later)
all_clear f v (i ∷ is) j h (inl (inl same)) =
    all_clear f (wear_one (λ i. true) v i) is j (one_reached f v i h) (inr (subst (λ (k : ℕ). IsClear (wear_one (λ i. true) v i) k) same (clear_here f v i h)))

counted_in : (i n j : ℕ) → i ≤ j → j < i + n → Has (count_up i n) j
counted_in i zero j lo hi = absurd (omega (arith, lo, hi))
counted_in i (suc n) j lo hi = go (i == j) refl (λ more. counted_in (suc i) n j more (omega (arith, hi)))
  where
    go : (b : Bool) → (i == j) ≡ b → (suc i ≤ j → Has (count_up (suc i) n) j) → Has (i ∷ count_up (suc i) n) j
    go true same rest = inl (grind (arith, nat_tests))
    go false other rest = inr (rest (grind (arith, nat_tests, lo)))

-- Nothing worn is left.
pub worn_clear : (f : Format) (v : SenderView) → IsReached f v → NoneWorn (worn (λ i. true) v)
worn_clear f v h j = all_clear f v (count_up 1 (length v.plan.entries)) j h (by (entry_at v.plan j) refl)
  where
    within : (e : Entry) → entry_at v.plan j ≡ Some e → (t : Bool) → nat_lt (length v.plan.entries) j ≡ t → j ≤ length v.plan.entries
    within e is true past = absurd (let none = entry_beyond v.plan j (grind (arith, nat_tests)) in cc)
    within e is false low = grind (arith, nat_tests)

    some : (k : ℕ) (e : Entry) → entry_at v.plan k ≡ Some e → 1 ≤ k
    some zero e is = absurd (cc)
    some (suc k) e is = omega arith

    by : (o : Option Entry) → entry_at v.plan j ≡ o → Has (count_up 1 (length v.plan.entries)) j ⊎ IsClear v j
    by None is = inr (λ e there. absurd (cc))
    by (Some e) is = inl (let lo = some j e is in let hi = within e is (nat_lt (length v.plan.entries) j) refl in counted_in 1 (length v.plan.entries) j lo (omega (arith, hi)))

-- nor does anything land in flight by it
pub worn_lands : (v : SenderView) (test : ℕ → Bool) → LandsAs v (worn test v)
worn_lands v test = wears_each (LandsAs v) (λ u t k none. abandoned_lands u t (k none)) test v (count_up 1 (length v.plan.entries)) (λ none. none)
