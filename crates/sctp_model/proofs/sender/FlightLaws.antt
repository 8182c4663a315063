-- Bytes in flight of a view that calls reach: entries up to CUM have none, and what is assigned has none before it goes out.
use Rattle.std.proofs.Common.{◌≡◌, ℕ, zero, suc, ◌+◌, ◌<◌, ◌≤◌, List, [], ◌∷◌, ◌++◌, length, drop, Bool, true, false, Option, Some, refl, ap, ◌∙◌, arith}
use Rattle.std.specs.Prelude.{not, ◌&&◌, if◌then◌else◌}
use Rattle.sctp_model.specs.messages.Format.{Format}
use Rattle.sctp_model.specs.messages.Plan.{Message, Entry, Plan, parts_from}
use Rattle.sctp_model.specs.sender.SenderView.{Queued, SenderView}
use Rattle.sctp_model.specs.sender.Entries.{entry_message, bytes_in, entry_bytes, sum_from, is_in_flight, flight_of, in_flight}
use Rattle.sctp_model.specs.sender.Assigning.{with_message, with_entry, assigned}
use Rattle.sctp_model.specs.sender.Reached.{IsReached}
use Rattle.sctp_model.proofs.sender.WishCases.{IsAssigned, Whole, Begun, Continued, assigned_cases}
use Rattle.sctp_model.proofs.sender.Bounds.{IsBounded, is_bounded}
use Rattle.sctp_model.proofs.sender.PlanLaws.{AllNamed, message_stays}
use Rattle.sctp_model.proofs.sender.CountLaws.{is_named}

-- ---- sums over entries

pub sum_from-append : (g : ℕ → Entry → ℕ) (i : ℕ) (es ds : List Entry) → sum_from g i (es ++ ds) ≡ sum_from g i es + sum_from g (i + length es) ds
sum_from-append g i [] ds = let same : i + 0 ≡ i = omega arith in rw same (omega arith)
sum_from-append g i (e ∷ es) ds = let next : suc i + length es ≡ i + suc (length es) = omega arith in let rest = sum_from-append g (suc i) es ds in rw (← next) (omega (arith, rest))

-- where the first ones are 0, it is that of the others
pub sum_from-drop : (g : ℕ → Entry → ℕ) (i n : ℕ) (es : List Entry) → ((j : ℕ) (e : Entry) → i ≤ j → j < i + n → g j e ≡ 0) → n ≤ length es → sum_from g i es ≡ sum_from g (i + n) (drop n es)
sum_from-drop g i zero es none le = let same : i + 0 ≡ i = omega arith in rw same refl
sum_from-drop g i (suc n) [] none le = absurd (omega arith)
sum_from-drop g i (suc n) (e ∷ es) none le =
    let next : suc i + n ≡ i + suc n = omega arith in
    let rest = sum_from-drop g (suc i) n es (λ j d lo hi. none j d (omega arith) (omega arith)) (omega arith) in
    rw (none i e (omega arith) (omega arith), ← next) (omega (arith, rest))

sum_from-zero : (g : ℕ → Entry → ℕ) (i : ℕ) (es : List Entry) → ((j : ℕ) (e : Entry) → i ≤ j → g j e ≡ 0) → sum_from g i es ≡ 0
sum_from-zero g i [] none = refl
sum_from-zero g i (e ∷ es) none = let here = none i e (omega arith) in let rest = sum_from-zero g (suc i) es (λ j d lo. none j d (omega arith)) in omega arith

-- ---- in flight

-- what is covered isn't in flight
pub covered_lands : (v : SenderView) (i : ℕ) (e : Entry) → v.covered i ≡ true → flight_of v i e ≡ 0
covered_lands v i e on = rw on (by_tests (v.marked i) (v.sent i))
  where
    by_tests : (m s : Bool) → (if not m && (s && false) then length (entry_bytes v.plan e) else 0) ≡ 0
    by_tests true s = refl
    by_tests false true = refl
    by_tests false false = refl

-- nor what never went out
pub unsent_lands : (v : SenderView) (i : ℕ) (e : Entry) → v.sent i ≡ false → flight_of v i e ≡ 0
unsent_lands v i e off = rw off (by_mark (v.marked i))
  where
    by_mark : (m : Bool) → (if not m && false then length (entry_bytes v.plan e) else 0) ≡ 0
    by_mark true = refl
    by_mark false = refl

-- only entries above CUM are in flight
pub flight_above : (f : Format) (v : SenderView) → IsReached f v → in_flight v ≡ sum_from (flight_of v) (suc v.cum) (drop v.cum v.plan.entries)
flight_above f v h =
    let b = is_bounded f v h in
    let one : 1 + v.cum ≡ suc v.cum = omega arith in
    rw one at (sum_from-drop (flight_of v) 1 v.cum v.plan.entries (λ j e lo hi. covered_lands v j e (b.covered j (omega arith) (omega arith))) b.within)

-- ---- what is assigned isn't in flight yet

-- entries whose messages are in both plans fly alike
record IsAlike (v : SenderView) (p : Plan) (es : List Entry) : Type 0 where
  sums : (i : ℕ) → sum_from (flight_of (record v { plan = p })) i es ≡ sum_from (flight_of v) i es

flies_alike : (v : SenderView) (p : Plan) (e : Entry) (es : List Entry) → entry_message p e ≡ entry_message v.plan e → IsAlike v p es → IsAlike v p (e ∷ es)
flies_alike v p e es same h = record {
  sums = λ i.
      let here : flight_of (record v { plan = p }) i e ≡ flight_of v i e = ap (λ (m : Option Message). if is_in_flight v i e then length (bytes_in e m) else 0) same in
      let rest = h.sums (suc i) in
      omega arith;
}

-- a message took its number
alike_new : (v : SenderView) (q : Queued) (d : ℕ) (es : List Entry) → AllNamed v.streams v.plan es → IsAlike v (with_message v.plan q d) es
alike_new v q d [] named = record { sums = λ i. refl }
alike_new v q d (e ∷ es) named = flies_alike v (with_message v.plan q d) e es (message_stays v.streams v.plan q d e named.0) (alike_new v q d es named.1)

-- an entry was added
alike_more : (v : SenderView) (x : Entry) (es : List Entry) → IsAlike v (with_entry v.plan x) es
alike_more v x [] = record { sums = λ i. refl }
alike_more v x (e ∷ es) = flies_alike v (with_entry v.plan x) e es refl (alike_more v x es)

-- entries after the plan never went out
flight_longer : (v : SenderView) (p : Plan) (more : List Entry) → IsBounded v → p.entries ≡ v.plan.entries ++ more → IsAlike v p v.plan.entries → in_flight (record v { plan = p }) ≡ in_flight v
flight_longer v p more b longer h =
    let u : SenderView = record v { plan = p } in
    let split = sum_from-append (flight_of u) 1 v.plan.entries more in
    let none = sum_from-zero (flight_of u) (1 + length v.plan.entries) more (λ j e lo. unsent_lands u j e (b.unsent j (omega arith))) in
    let same = h.sums 1 in
    ap (sum_from (flight_of u) 1) longer ∙ omega (arith, split, none, same)

pub flight_assigned : (f : Format) (v u : SenderView) → IsReached f v → assigned f v ≡ Some u → in_flight u ≡ in_flight v
flight_assigned f v u h is = by_case f u (assigned_cases f v u is)
  where
    b : IsBounded v
    b = is_bounded f v h

    by_case : (g : Format) (x : SenderView) → IsAssigned v g x → in_flight x ≡ in_flight v
    by_case _ _ (Whole q rest queue) =
        flight_longer v (with_message v.plan q (length q.message.fragments)) (parts_from q.lane (length (v.plan.messages q.lane)) 0 (length q.message.fragments)) b refl (alike_new v q (length q.message.fragments) v.plan.entries (is_named f v h))
    by_case _ _ (Begun s q lt idle first) =
        flight_longer v (with_message v.plan q 1) (parts_from q.lane (length (v.plan.messages q.lane)) 0 1) b refl (alike_new v q 1 v.plan.entries (is_named f v h))
    by_case _ _ (Continued s e lt on) = flight_longer v (with_entry v.plan e) (e ∷ []) b refl (alike_more v e v.plan.entries)
