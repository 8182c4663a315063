-- What takes its index next, and the next wish, are computed as the relations say.
use Rattle.std.proofs.Common.{◌≡◌, ℕ, zero, suc, ◌+◌, ◌%◌, ◌<◌, Bool, true, false, not, ◌&&◌, List, [], ◌∷◌, length, map, drop, Option, Some, None, refl, sym, ap, ◌∙◌, subst, arith}
use Rattle.std.specs.Prelude.{slice_get, option_map}
use Rattle.std.specs.Option.{option_or}
use Rattle.std.proofs.lemmas.Bool.{and_parts}
use Rattle.sctp_model.specs.messages.Format.{Plain, Interleaved}
use Rattle.sctp_model.specs.messages.Plan.{Entry, entry_at}
use Rattle.sctp_model.specs.sender.SenderView.{Queued, SenderView}
use Rattle.sctp_model.specs.sender.Words.{first_there, count_up, lowest, some_passes}
use Rattle.sctp_model.specs.sender.Entries.{is_unsent, is_of_abandoned, passes_at}
use Rattle.sctp_model.specs.sender.Assigning.{with_message, turn_of, whole_next, assigned}
use Rattle.sctp_model.specs.sender.Filling.{Wish, standing, newcomer, next_wish}
use Rattle.sctp_model.proofs.sender.WordLaws.{lowest_is, lowest_none, lowest_found, none_lowest}
use Rattle.sctp_outcomes.specs.sender.Wishes.{IsLowestSo, IsNoneSo, IsToRepeat, IsToGo, SendsInTurn, TakesIndex, Whole_message, In_turn, IsNextWish, Repeats_one, Sends_one, Assigns_one}
use Rattle.sctp_outcomes.specs.sender.WishLaws.{NextIndexIsComputed, NextWishIsComputed}
use Rattle.sctp_outcomes.proofs.sender.TurnCases.{turn_is_computed}

-- ---- the first that answers among counted things

-- it answers at a distance, and none before it does
record IsFirstAt {A : Type 0} (g : ℕ → Option A) (i n : ℕ) (u : A) : Type 0 where
  distance : ℕ
  within : distance < n
  none : (e : ℕ) → e < distance → g (i + e) ≡ None
  here : g (i + distance) ≡ Some u

first_at : {A : Type 0} (g : ℕ → Option A) (i n : ℕ) (u : A) → first_there (map g (count_up i n)) ≡ Some u → IsFirstAt g i n u
first_at g i zero u is = absurd (cc)
first_at {A} g i (suc n) u is = by_first (g i) refl is (λ there. first_at g (suc i) n u there)
  where
    by_first : (o : Option A) → g i ≡ o → option_or o (first_there (map g (count_up (suc i) n))) ≡ Some u
        → (first_there (map g (count_up (suc i) n)) ≡ Some u → IsFirstAt g (suc i) n u) → IsFirstAt g i (suc n) u
    by_first (Some x) some here further =
        let same : x ≡ u = cc in
        let at : i + 0 ≡ i = omega arith in
        record { distance = 0; within = omega arith; none = λ e lt. absurd (omega arith); here = rw at (some ∙ ap (λ (y : A). Some y) same) }
    by_first None none here further =
        let r = further here in
        let at : i + suc r.distance ≡ suc i + r.distance = omega arith in
        record { distance = suc r.distance; within = let lt = r.within in omega arith; none = λ e lt. before r e lt; here = rw at r.here }
      where
        before : (r : IsFirstAt g (suc i) n u) → (e : ℕ) → e < suc r.distance → g (i + e) ≡ None
        before r zero lt = let at : i + 0 ≡ i = omega arith in rw at none
        before r (suc e) lt = let at : i + suc e ≡ suc i + e = omega arith in rw at (r.none e (omega arith))

at_first : {A : Type 0} (g : ℕ → Option A) (i n d : ℕ) (u : A) → d < n → ((e : ℕ) → e < d → g (i + e) ≡ None) → g (i + d) ≡ Some u → first_there (map g (count_up i n)) ≡ Some u
at_first g i zero d u within none here = absurd (omega arith)
at_first g i (suc n) zero u within none here = let at : i + 0 ≡ i = omega arith in let some : g i ≡ Some u = rw at at here in rw some refl
at_first g i (suc n) (suc d) u within none here =
    let at : i + 0 ≡ i = omega arith in
    let off : g i ≡ None = rw at at (none 0 (omega arith)) in
    let next : i + suc d ≡ suc i + d = omega arith in
    rw off (at_first g (suc i) n d u (omega arith) (λ e lt. let step : i + suc e ≡ suc i + e = omega arith in rw step at (none (suc e) (omega arith))) (rw next at here))

-- ---- what takes its index next

-- the streams in turn
in_turn : (v : SenderView) → ℕ → Option SenderView
in_turn v d = turn_of v ((v.turn + d) % v.streams)

map_twice : (g : ℕ → Option SenderView) (h : ℕ → ℕ) (ks : List ℕ) → map g (map h ks) ≡ map (λ k. g (h k)) ks
map_twice g h [] = refl
map_twice g h (k ∷ ks) = ap (λ (os : List (Option SenderView)). g (h k) ∷ os) (map_twice g h ks)

turns_are : (v : SenderView) → assigned Interleaved v ≡ first_there (map (λ d. turn_of v ((v.turn + d) % v.streams)) (count_up 0 v.streams))
turns_are v = ap (λ (os : List (Option SenderView)). first_there os) (map_twice (turn_of v) (λ d. (v.turn + d) % v.streams) (count_up 0 v.streams))

-- what answers nothing sends nothing
sends_none : (v : SenderView) (s : ℕ) → turn_of v s ≡ None → (x : SenderView) → SendsInTurn v s x → ⊥
sends_none v s none x is = let some = (turn_is_computed v x s).1 is in absurd (cc)

none_sent : (v : SenderView) (s : ℕ) → ((x : SenderView) → SendsInTurn v s x → ⊥) → turn_of v s ≡ None
none_sent v s never = by_turn (turn_of v s) refl
  where
    by_turn : (o : Option SenderView) → turn_of v s ≡ o → o ≡ None
    by_turn None is = refl
    by_turn (Some x) is = absurd (never x ((turn_is_computed v x s).0 is))

pub next_index_is_computed : NextIndexIsComputed
next_index_is_computed Plain v u = (λ is. forth v.queue refl is, λ is. back u is)
  where
    forth : (qs : List Queued) → v.queue ≡ qs → option_map (λ q. record v { plan = with_message v.plan q (length q.message.fragments); queue = drop 1 qs }) (slice_get qs 0) ≡ Some u → TakesIndex v Plain u
    forth [] queue is = absurd (cc)
    forth (q ∷ qs) queue is =
        let same : record v { plan = with_message v.plan q (length q.message.fragments); queue = qs } ≡ u = cc in
        subst (λ (x : SenderView). TakesIndex v Plain x) same (Whole_message q qs queue)

    back : (x : SenderView) → TakesIndex v Plain x → whole_next v ≡ Some x
    back _ (Whole_message q others queue) = rw queue refl
next_index_is_computed Interleaved v u = (λ is. forth (sym (turns_are v) ∙ is), λ is. turns_are v ∙ back u is)
  where
    forth : first_there (map (λ d. turn_of v ((v.turn + d) % v.streams)) (count_up 0 v.streams)) ≡ Some u → TakesIndex v Interleaved u
    forth is =
        let r = first_at (λ d. turn_of v ((v.turn + d) % v.streams)) 0 v.streams u is in
        In_turn r.distance u r.within (λ e x lt sent. sends_none v ((v.turn + e) % v.streams) (let at : 0 + e ≡ e = omega arith in rw at at (r.none e lt)) x sent)
        ((turn_is_computed v u ((v.turn + r.distance) % v.streams)).0 (let at : 0 + r.distance ≡ r.distance = omega arith in rw at at r.here))

    back : (x : SenderView) → TakesIndex v Interleaved x → first_there (map (λ d. turn_of v ((v.turn + d) % v.streams)) (count_up 0 v.streams)) ≡ Some x
    back _ (In_turn d x within none sent) =
        at_first (λ e. turn_of v ((v.turn + e) % v.streams)) 0 v.streams d x within
        (λ e lt. let at : 0 + e ≡ e = omega arith in rw at (none_sent v ((v.turn + e) % v.streams) (λ y is. none e y lt is)))
        (let at : 0 + d ≡ d = omega arith in rw at ((turn_is_computed v x ((v.turn + d) % v.streams)).1 sent))

-- ---- among the indexes assigned

-- what a test says is so, both ways
abbrev Tells : (ℕ → Bool) → (ℕ → Type 0) → Type 0
Tells test IsSo = ((i : ℕ) → test i ≡ true → IsSo i) × ((i : ℕ) → IsSo i → test i ≡ true)

off_of : (b : Bool) → (b ≡ true → ⊥) → b ≡ false
off_of true never = absurd (never refl)
off_of false never = refl

never_both : (b : Bool) → b ≡ true → b ≡ false → ⊥
never_both b on off = absurd (cc)

module _ (v : SenderView) (test : ℕ → Bool) (IsSo : ℕ → Type 0) (tells : Tells test IsSo) where
  lowest_so : (i : ℕ) → lowest test (length v.plan.entries) ≡ Some i → IsLowestSo v IsSo i
  lowest_so i is =
      let h = lowest_is test (length v.plan.entries) i is in
      record { some = h.some; assigned = h.within; so = tells.0 i h.passes; lowest = λ j lo lt so. never_both (test j) (tells.1 j so) (h.first j lo lt) }

  so_lowest : (i : ℕ) → IsLowestSo v IsSo i → lowest test (length v.plan.entries) ≡ Some i
  so_lowest i h =
      lowest_found test (length v.plan.entries) i
      (record { some = h.some; within = h.assigned; passes = tells.1 i h.so; first = λ j lo lt. off_of (test j) (λ on. h.lowest j lo lt (tells.0 j on)) })

  none_so : lowest test (length v.plan.entries) ≡ None → IsNoneSo v IsSo
  none_so is = λ i lo hi so. never_both (test i) (tells.1 i so) (none_lowest test (length v.plan.entries) is i lo hi)

  so_none : IsNoneSo v IsSo → lowest test (length v.plan.entries) ≡ None
  so_none none = lowest_none test (length v.plan.entries) (λ i lo hi. off_of (test i) (λ on. none i lo hi (tells.0 i on)))

marks_tell : (v : SenderView) → Tells v.marked (IsToRepeat v)
marks_tell v = (λ i on. on, λ i on. on)

not_true : (b : Bool) → not b ≡ true → b ≡ false
not_true true is = absurd (cc)
not_true false is = refl

unsent_tells : (v : SenderView) → Tells (passes_at v.plan (is_unsent v)) (IsToGo v)
unsent_tells v = (λ i on. forth i (entry_at v.plan i) refl on, λ i so. back i so)
  where
    forth : (i : ℕ) (o : Option Entry) → entry_at v.plan i ≡ o → some_passes (is_unsent v i) o ≡ true → IsToGo v i
    forth i None stands on = absurd (cc)
    forth i (Some e) stands on =
        let a = and_parts (not (v.sent i)) (not (v.covered i) && not (is_of_abandoned v e)) on in
        let b = and_parts (not (v.covered i)) (not (is_of_abandoned v e)) a.1 in
        record { entry = e; stands = stands; unsent = not_true (v.sent i) a.0; uncovered = not_true (v.covered i) b.0; kept = not_true (is_of_abandoned v e) b.1 }

    back : (i : ℕ) → IsToGo v i → passes_at v.plan (is_unsent v) i ≡ true
    back i so = rw so.stands (rw so.unsent (rw so.uncovered (rw so.kept refl)))

-- ---- the next wish

pub next_wish_is_computed : NextWishIsComputed
next_wish_is_computed f v w = (λ is. forth (lowest v.marked many) refl (lowest (passes_at v.plan (is_unsent v)) many) refl (assigned f v) refl is, λ is. back w is)
  where
    many : ℕ
    many = length v.plan.entries

    forth : (a : Option ℕ) → lowest v.marked (length v.plan.entries) ≡ a → (b : Option ℕ) → lowest (passes_at v.plan (is_unsent v)) (length v.plan.entries) ≡ b
        → (c : Option SenderView) → assigned f v ≡ c → first_there (option_map (standing v) a ∷ option_map (standing v) b ∷ option_map (newcomer v) c ∷ []) ≡ Some w → IsNextWish f v w
    forth (Some i) marks b unsent c new is = let same : standing v i ≡ w = cc in subst (λ (x : Wish). IsNextWish f v x) same (Repeats_one i (lowest_so v v.marked (IsToRepeat v) (marks_tell v) i marks))
    forth None marks (Some i) unsent c new is =
        let same : standing v i ≡ w = cc in
        subst (λ (x : Wish). IsNextWish f v x) same
        (Sends_one i (none_so v v.marked (IsToRepeat v) (marks_tell v) marks) (lowest_so v (passes_at v.plan (is_unsent v)) (IsToGo v) (unsent_tells v) i unsent))
    forth None marks None unsent (Some u) new is =
        let same : newcomer v u ≡ w = cc in
        subst (λ (x : Wish). IsNextWish f v x) same
        (Assigns_one u (none_so v v.marked (IsToRepeat v) (marks_tell v) marks) (none_so v (passes_at v.plan (is_unsent v)) (IsToGo v) (unsent_tells v) unsent) ((next_index_is_computed f v u).0 new))
    forth None marks None unsent None new is = absurd (cc)

    back : (x : Wish) → IsNextWish f v x → next_wish f v ≡ Some x
    back _ (Repeats_one i h) = rw (so_lowest v v.marked (IsToRepeat v) (marks_tell v) i h) refl
    back _ (Sends_one i none h) =
        rw (so_none v v.marked (IsToRepeat v) (marks_tell v) none) (rw (so_lowest v (passes_at v.plan (is_unsent v)) (IsToGo v) (unsent_tells v) i h) refl)
    back _ (Assigns_one u none never new) =
        rw (so_none v v.marked (IsToRepeat v) (marks_tell v) none)
        (rw (so_none v (passes_at v.plan (is_unsent v)) (IsToGo v) (unsent_tells v) never) (rw ((next_index_is_computed f v u).1 new) refl))
