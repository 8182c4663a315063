-- AGED asks no more than that each packet arrives timely since it was built: bags and plans only grow.
use Rattle.std.proofs.Common.{◌≡◌, ℕ, zero, suc, ◌<◌, ◌≤◌, ◌⊎◌, max, nat_le, true, false, List, [], ◌∷◌, length, Option, Some, None, inl, inr, refl, sym, subst, ap, ◌∙◌, arith}
use Rattle.std.proofs.lemmas.Bool.{cases_lt}
use Rattle.std.proofs.lemmas.Bool.Decides.{nat_tests}
use Rattle.sctp_model.specs.numbers.Lists.{item_at}
use Rattle.sctp_model.specs.wire.Packet.{Packet}
use Rattle.sctp_model.specs.sender.SenderView.{SenderView}
use Rattle.sctp_model.specs.receiver.ReceiverView.{Handed}
use Rattle.sctp_model.specs.end.EndView.{Configuration, Draw, Phase, Role, EndView, fresh_end}
use Rattle.sctp_model.specs.end.Opening.{opened}
use Rattle.sctp_model.specs.end.UserCalls.{SendAnswer, Ticket, Refused, NotOpen, send_answer, abort_answer, abort_leaves, shut, reset_call, reset_leaves, reset_there, told_leaves}
use Rattle.sctp_model.specs.world.World.{Side, A, B, World, end_of, bag_of, start, Setup, clock_of}
use Rattle.sctp_model.specs.world.Events.{Event, OpenBoth, At, Drawing, Connect, Build, Deliver, Foreign, Send, Abandon, Take, Shutdown, Abort, Outcome, Reset, WasReset, Later, Moment}
use Rattle.sctp_model.specs.world.Steps.{Step, OpensBoth, OpenRefused, TimePasses, Draws, Connects, ConnectRefused, BuildsOne, BuildsNone, PacketComes, IsAbsent, Sends, AbandonsOne, TakesOne, ShutsDown, AbortsIt, NoMemory, PacketCut, PassesThrough, ResetsOne, TellsReset, Run, Rest, Then, TimeGoesOn, MomentComes}
use Rattle.sctp_model.specs.world.Aged.{assigned_tsns, ComesInTime, AllComeInTime, Aged}
use Rattle.std.specs.Prelude.{slice_get}
use Rattle.sctp_safety.proofs.runs.Dating.{IsLonger, bags_grow}
use Rattle.sctp_safety.proofs.runs.Direction.{entry_there}
use Rattle.sctp_safety.proofs.machine.OneEnd.{IsAt, at_end, at_log, at_packet, at_came, answer_of, at_verdict, abort_of, at_abort, both_ends}
use Rattle.sctp_safety.proofs.machine.DiagramRuns.{IsFresh, step_onward}
use Rattle.sctp_outcomes.specs.Kept.{is_before, IsSound, KeepsLogs, AddsNumbers, SendNotes, TakeNotes}
use Rattle.sctp_outcomes.specs.AgedSinceBuilt.{built_in, IsTimely, AreTimely, AgedAsksNoMore, AgedAsksNoLess, PlansOnlyGrow}
use Rattle.sctp_outcomes.proofs.logs.Built.{builds_add_numbers}
use Rattle.sctp_outcomes.proofs.logs.Called.{connect_keeps_logs, shutdown_keeps_logs, abort_keeps_logs, abandon_keeps_logs, send_gives_tickets, take_takes_one, reset_keeps_logs, told_keeps_logs}
use Rattle.sctp_outcomes.proofs.logs.Heard.{packets_keep_logs, cut_packets_keep_logs}
use Rattle.sctp_outcomes.proofs.logs.Passed.{moments_keep_logs}

-- ---- plans only grow

pub record Onward (e t : EndView) : Type 0 where
  pub sound : IsSound t
  pub grown : length e.sender.plan.entries ≤ length t.sender.plan.entries

by_itself : (e : EndView) → IsSound e → Onward e e
by_itself e s = record { sound = s; grown = omega arith }

by_logs : (e t : EndView) → KeepsLogs e t → Onward e t
by_logs e t k = record { sound = k.sound; grown = k.grown }

by_numbers : (e t : EndView) → AddsNumbers e t → Onward e t
by_numbers e t k = record { sound = k.sound; grown = k.grown }

by_send : (a : SendAnswer) (e t : EndView) → SendNotes a e t → Onward e t
by_send (Ticket n) e t a = record { sound = a.sound; grown = a.grown }
by_send (Refused r) e t k = by_logs e t k
by_send NotOpen e t k = by_logs e t k

by_take : (h : Option Handed) (stream : ℕ) (e t : EndView) → TakeNotes h stream e t → Onward e t
by_take (Some h) stream e t a = record { sound = a.sound; grown = a.grown }
by_take None stream e t k = by_logs e t k

new_sound : (c : Configuration) (r : Role) (h : Phase) → IsSound (fresh_end c r h)
new_sound c r h = record { bare = λ on. record { sender = refl; receiver = refl }; buffer = refl; named = λ e none. absurd none }

opened_sound : (c : Configuration) (own peer : Draw) → IsSound (opened c own peer)
opened_sound c own peer = record { bare = λ on. absurd (cc); buffer = refl; named = λ e none. absurd none }

by_opening : (e : EndView) (own peer : Draw) → is_before e.phase ≡ true → IsSound e → Onward e (opened e.configuration own peer)
by_opening e own peer before s = record {
  sound = opened_sound e.configuration own peer;
  grown = (let q : length e.sender.plan.entries ≡ 0 = ap (λ (v : SenderView). length v.plan.entries) (s.bare before).sender in omega (arith, q));
}

abbrev pub AreSound : World → Type 0
AreSound w = (x : Side) → IsSound (end_of w x)

abbrev pub GoOn : World → World → Type 0
GoOn w v = (x : Side) → Onward (end_of w x) (end_of v x)

at_one : (w v : World) (x : Side) (t : EndView) (given : Option Packet) → IsAt w v x t given → AreSound w → Onward (end_of w x) t → GoOn w v
at_one w v x t given at sound new = both_ends (λ (y : Side) (e : EndView). Onward (end_of w y) e) w v x t given at (λ y. by_itself (end_of w y) (sound y)) new

at_both : (w v : World) → Onward w.a v.a → Onward w.b v.b → GoOn w v
at_both w v a b A = a
at_both w v a b B = b

pub step_goes_on : (w : World) (e : Event) (o : Option Outcome) (v : World) → IsFresh w → AreSound w → Step w e o v → GoOn w v
step_goes_on w e o v f s (OpensBoth x y like may dx dy) =
    at_both w v (by_opening w.a x y (ap is_before (f may).0) (s A)) (by_opening w.b y x (ap is_before (f may).1) (s B))
step_goes_on w e o v f s (OpenRefused x y closed) = at_both w w (by_itself w.a (s A)) (by_itself w.b (s B))
step_goes_on w e o v f s (TimeGoesOn A m small) = at_both w v (by_itself w.a (s A)) (by_itself w.b (s B))
step_goes_on w e o v f s (TimeGoesOn B m small) = at_both w v (by_itself w.a (s A)) (by_itself w.b (s B))
step_goes_on w e o v f s (MomentComes x) = at_one w v x _ None (at_log w x _ _) s (by_logs (end_of w x) _ (moments_keep_logs (end_of w x) (clock_of w x) (s x)))
step_goes_on w e o v f s (TimePasses m small) =
    at_both w v (by_logs w.a v.a (moments_keep_logs w.a (max w.clock_a m) (s A))) (by_logs w.b v.b (moments_keep_logs w.b (max w.clock_b m) (s B)))
step_goes_on w e o v f s (Draws d dd) = at_both w v (by_itself w.a (s A)) (by_itself w.b (s B))
step_goes_on w e o v f s (Connects d dd answer) = at_both w v (by_logs w.a v.a (connect_keeps_logs w.a w.clock_a d (s A) answer)) (by_itself w.b (s B))
step_goes_on w e o v f s (ConnectRefused d answer) = at_both w w (by_itself w.a (s A)) (by_itself w.b (s B))
step_goes_on w e o v f s (BuildsOne x y ys t b) =
    at_one w v x t _ (at_packet w x t _) s (by_numbers (end_of w x) t (builds_add_numbers (end_of w x) (clock_of w x) (y ∷ ys) t (s x) b))
step_goes_on w e o v f s (BuildsNone x t b) = at_one w v x t None (at_end w x t) s (by_numbers (end_of w x) t (builds_add_numbers (end_of w x) (clock_of w x) [] t (s x) b))
step_goes_on w e o v f s (PacketComes _ x p t d brings received) =
    at_one w v x t (answer_of d) (at_verdict w x t d) s (by_logs (end_of w x) t (packets_keep_logs (end_of w x) (clock_of w x) w.draw p t d (s x) received))
step_goes_on w e o v f s (PacketCut _ x p t brings cut) =
    at_one w v x t None (at_came w x t) s (by_logs (end_of w x) t (cut_packets_keep_logs (end_of w x) (clock_of w x) w.draw p t (s x) cut))
step_goes_on w e o v f s (IsAbsent x n none) = at_both w w (by_itself w.a (s A)) (by_itself w.b (s B))
step_goes_on w e o v f s (Sends x c) =
    at_one w v x _ None (at_log w x _ _) s (by_send (send_answer (end_of w x) c) (end_of w x) _ (send_gives_tickets (end_of w x) c (s x)))
step_goes_on w e o v f s (AbandonsOne x n) = at_one w v x _ None (at_log w x _ _) s (by_logs (end_of w x) _ (abandon_keeps_logs (end_of w x) n (s x)))
step_goes_on w e o v f s (TakesOne x n h t takes) = at_one w v x t None (at_end w x t) s (by_take h n (end_of w x) t (take_takes_one (end_of w x) n h t (s x) takes))
step_goes_on w e o v f s (ResetsOne x n) = at_one w v x (reset_leaves (reset_call (end_of w x) n) (end_of w x) n) None (at_end w x _) s (by_logs (end_of w x) _ (reset_keeps_logs (end_of w x) n (s x)))
step_goes_on w e o v f s (TellsReset x) = at_one w v x (told_leaves (reset_there (end_of w x)) (end_of w x)) None (at_end w x _) s (by_logs (end_of w x) _ (told_keeps_logs (end_of w x) (s x)))
step_goes_on w e o v f s (ShutsDown x) = at_one w v x (shut (end_of w x)) None (at_end w x _) s (by_logs (end_of w x) _ (shutdown_keeps_logs (end_of w x) (s x)))
step_goes_on w e o v f s (AbortsIt x why) =
    let a = abort_answer (end_of w x) why in
    at_one w v x (abort_leaves a (end_of w x)) (abort_of a) (at_abort w x _ a) s (by_logs (end_of w x) _ (abort_keeps_logs (end_of w x) a (s x)))
step_goes_on w e o v f s (NoMemory _ other_event) = at_both w w (by_itself w.a (s A)) (by_itself w.b (s B))

pub start_sound : (s : Setup) → AreSound (start s)
start_sound s A = new_sound _ _ _
start_sound s B = new_sound _ _ _

-- ---- the world that building left

built_here : (s : Side) (n : ℕ) (w : World) (vs : List World) → n ≤ length (bag_of w s) → built_in s n w vs ≡ w
built_here s n w [] le = refl
built_here s n w (v ∷ vs) le = let on : nat_le n (length (bag_of w s)) ≡ true = grind (arith, nat_tests) in rw on refl

built_later : (s : Side) (n : ℕ) (w v : World) (vs : List World) → length (bag_of w s) < n → built_in s n w (v ∷ vs) ≡ built_in s n v vs
built_later s n w v vs lt = let off : nat_le n (length (bag_of w s)) ≡ false = grind (arith, nat_tests) in rw off refl

-- what is known at a world of a run: of each packet that there is, no fewer TSNs are assigned by now than when it was built; each other one is built from
-- here on
record IsHere (f : World) (all : List World) (w : World) (vs : List World) : Type 0 where
  past : (s : Side) (n : ℕ) → n ≤ length (bag_of w s) → (x : Side) → assigned_tsns (built_in s n f all) x ≤ assigned_tsns w x
  next : (s : Side) (n : ℕ) → length (bag_of w s) < n → built_in s n f all ≡ built_in s n w vs

here_on : (f : World) (all : List World) (w v : World) (vs : List World) → IsHere f all w (v ∷ vs) → IsLonger w v → ((x : Side) → assigned_tsns w x ≤ assigned_tsns v x) → IsHere f all v vs
here_on f all w v vs h longer grown = record {
  past = λ s n le x. past s n le x (cases_lt (length (bag_of w s)) n);
  next = λ s n lt. (let more = longer s in let before : length (bag_of w s) < n = omega (arith, lt, more) in h.next s n before ∙ built_later s n w v vs before);
}
  where
    past : (s : Side) (n : ℕ) → n ≤ length (bag_of v s) → (x : Side) → (length (bag_of w s) < n) ⊎ (n ≤ length (bag_of w s)) → assigned_tsns (built_in s n f all) x ≤ assigned_tsns v x
    past s n le x (inl lt) =
        let is = h.next s n lt ∙ built_later s n w v vs lt ∙ built_here s n v vs le in
        let same = ap (λ (u : World). assigned_tsns u x) is in omega (arith, same)
    past s n le x (inr old) = let a = h.past s n old x in let b = grown x in omega (arith, a, b)

-- ---- what was built by this world arrives in time

got_within : {A : Type 0} (xs : List A) (i : ℕ) (x : A) → slice_get xs i ≡ Some x → i < length xs
got_within [] i x h = absurd (cc)
got_within (y ∷ ys) zero x h = omega arith
got_within (y ∷ ys) (suc i) x h = let l : i < length ys = got_within ys i x h in omega (arith, l)

item_at-within : {A : Type 0} (xs : List A) (i : ℕ) (x : A) → item_at xs i ≡ Some x → i ≤ length xs
item_at-within xs zero x h = omega arith
item_at-within xs (suc i) x h = let l : i < length xs = got_within xs i x h in omega (arith, l)

item_at-above : {A : Type 0} (xs : List A) (i : ℕ) (x : A) → item_at xs i ≡ Some x → 0 < i
item_at-above xs zero x h = absurd (cc)
item_at-above xs (suc i) x h = omega arith

item_there : {T : Type 0} (xs : List T) (n : ℕ) → 0 < n → n ≤ length xs → (x : T) × (item_at xs n ≡ Some x)
item_there xs zero some le = absurd (omega arith)
item_there xs (suc i) some le = entry_there xs i (omega arith)

module _ (f : World) (all : List World) (u : World) (past : (s : Side) (n : ℕ) → n ≤ length (bag_of u s) → (x : Side) → assigned_tsns (built_in s n f all) x ≤ assigned_tsns u x) where
  one_in_time : (w : World) (e : Event) → IsLonger u w → IsTimely f all w e → ComesInTime u w e
  one_in_time w (Deliver s n) longer timely = λ p there x.
      let within = item_at-within (bag_of u s) n p there in
      let more = longer s in
      let q = item_there (bag_of w s) n (item_at-above (bag_of u s) n p there) (omega (arith, within, more)) in
      let a = timely q.0 q.1 x in
      let b = past s n within x in
      omega (arith, a, b)
  one_in_time w (OpenBoth x y) longer timely = tt
  one_in_time w (Later s m) longer timely = tt
  one_in_time w (Moment s) longer timely = tt
  one_in_time w (At m) longer timely = tt
  one_in_time w (Drawing d) longer timely = tt
  one_in_time w (Connect d) longer timely = tt
  one_in_time w (Build s) longer timely = tt
  one_in_time w (Foreign s p) longer timely = tt
  one_in_time w (Send s c) longer timely = tt
  one_in_time w (Abandon s k) longer timely = tt
  one_in_time w (Take s k) longer timely = tt
  one_in_time w (Reset s k) longer timely = tt
  one_in_time w (WasReset s) longer timely = tt
  one_in_time w (Shutdown s) longer timely = tt
  one_in_time w (Abort s r) longer timely = tt

  all_in_time : (w : World) (es : List Event) (os : List (Option Outcome)) (vs : List World) → PassesThrough w es os vs → IsLonger u w → AreTimely f all w es vs → AllComeInTime u w es vs
  all_in_time w [] [] [] passes longer timely = tt
  all_in_time w (e ∷ es) (o ∷ os) (v ∷ vs) (step, passes) longer (now, later) =
      let more = bags_grow w e o v step in
      (one_in_time w e longer now, all_in_time v es os vs passes (λ s. (let a = longer s in let b = more s in omega (arith, a, b))) later)
  all_in_time w [] (o ∷ os) vs passes longer timely = absurd passes
  all_in_time w [] [] (v ∷ vs) passes longer timely = absurd passes
  all_in_time w (e ∷ es) [] vs passes longer timely = absurd passes
  all_in_time w (e ∷ es) (o ∷ os) [] passes longer timely = absurd passes

module _ (f : World) (all : List World) where
  aged_from : (w : World) (es : List Event) (os : List (Option Outcome)) (vs : List World) → PassesThrough w es os vs → IsFresh w → AreSound w → IsHere f all w vs → AreTimely f all w es vs → Aged w es vs
  aged_from w [] [] [] passes fresh sound here timely = tt
  aged_from w (e ∷ es) (o ∷ os) (v ∷ vs) (step, passes) fresh sound here (now, later) =
      let on = step_goes_on w e o v fresh sound step in (
        all_in_time f all w here.past w (e ∷ es) (o ∷ os) (v ∷ vs) (step, passes) (λ s. omega arith) (now, later),
        aged_from v es os vs passes (step_onward w e o v fresh step).fresh (λ x. (on x).sound) (here_on f all w v vs here (bags_grow w e o v step) (λ x. (on x).grown)) later,
      )
  aged_from w [] (o ∷ os) vs passes fresh sound here timely = absurd passes
  aged_from w [] [] (v ∷ vs) passes fresh sound here timely = absurd passes
  aged_from w (e ∷ es) [] vs passes fresh sound here timely = absurd passes
  aged_from w (e ∷ es) (o ∷ os) [] passes fresh sound here timely = absurd passes

-- at the start nothing was built but the packets that are numbered 0, which are none
start_here : (w : World) (vs : List World) → IsHere w vs w vs
start_here w vs = record {
  past = λ s n le x. (let same = ap (λ (u : World). assigned_tsns u x) (built_here s n w vs le) in omega (arith, same));
  next = λ s n lt. refl;
}

pub aged_asks_no_more : AgedAsksNoMore
aged_asks_no_more s es os vs passes timely = aged_from (start s) vs (start s) es os vs passes (λ q. (refl, refl)) (start_sound s) (start_here (start s) vs) timely

-- ---- and no less

-- what AGED says of the packets that there are
first_in_time : (w : World) (es : List Event) (vs : List World) → Aged w es vs → AllComeInTime w w es vs
first_in_time w (e ∷ es) (v ∷ vs) (now, later) = now
first_in_time w [] vs aged = tt
first_in_time w (e ∷ es) [] aged = tt

-- Of each packet that there is, its date has it, and it arrives in time since then.
record IsDated (f : World) (all : List World) (w : World) (es : List Event) (vs : List World) : Type 0 where
  has : (s : Side) (n : ℕ) → n ≤ length (bag_of w s) → n ≤ length (bag_of (built_in s n f all) s)
  since : (s : Side) (n : ℕ) → n ≤ length (bag_of w s) → AllComeInTime (built_in s n f all) w es vs

one_timely : (f : World) (all : List World) (w : World) (e : Event) (es : List Event) (v : World) (vs : List World) → IsDated f all w (e ∷ es) (v ∷ vs) → IsTimely f all w e
one_timely f all w (Deliver s n) es v vs d = λ p there x.
    let low = item_at-within (bag_of w s) n p there in
    let q = item_there (bag_of (built_in s n f all) s) n (item_at-above (bag_of w s) n p there) (d.has s n low) in
    (d.since s n low).0 q.0 q.1 x
one_timely f all w (OpenBoth x y) es v vs d = tt
one_timely f all w (Later s m) es v vs d = tt
one_timely f all w (Moment s) es v vs d = tt
one_timely f all w (At m) es v vs d = tt
one_timely f all w (Drawing x) es v vs d = tt
one_timely f all w (Connect x) es v vs d = tt
one_timely f all w (Build s) es v vs d = tt
one_timely f all w (Foreign s p) es v vs d = tt
one_timely f all w (Send s c) es v vs d = tt
one_timely f all w (Abandon s k) es v vs d = tt
one_timely f all w (Take s k) es v vs d = tt
one_timely f all w (Reset s k) es v vs d = tt
one_timely f all w (WasReset s) es v vs d = tt
one_timely f all w (Shutdown s) es v vs d = tt
one_timely f all w (Abort s r) es v vs d = tt

dated_on : (f : World) (all : List World) (w v : World) (e : Event) (es : List Event) (vs : List World) → IsHere f all w (v ∷ vs) → Aged v es vs → IsDated f all w (e ∷ es) (v ∷ vs) → IsDated f all v es vs
dated_on f all w v e es vs here aged d = record {
  has = λ s n le. has s n le (cases_lt (length (bag_of w s)) n);
  since = λ s n le. since s n le (cases_lt (length (bag_of w s)) n);
}
  where
    built : (s : Side) (n : ℕ) → n ≤ length (bag_of v s) → length (bag_of w s) < n → built_in s n f all ≡ v
    built s n le lt = here.next s n lt ∙ built_later s n w v vs lt ∙ built_here s n v vs le

    has : (s : Side) (n : ℕ) → n ≤ length (bag_of v s) → (length (bag_of w s) < n) ⊎ (n ≤ length (bag_of w s)) → n ≤ length (bag_of (built_in s n f all) s)
    has s n le (inl lt) = let same = ap (λ (u : World). length (bag_of u s)) (built s n le lt) in omega (arith, le, same)
    has s n le (inr old) = d.has s n old

    since : (s : Side) (n : ℕ) → n ≤ length (bag_of v s) → (length (bag_of w s) < n) ⊎ (n ≤ length (bag_of w s)) → AllComeInTime (built_in s n f all) v es vs
    since s n le (inl lt) = subst (λ (u : World). AllComeInTime u v es vs) (sym (built s n le lt)) (first_in_time v es vs aged)
    since s n le (inr old) = (d.since s n old).1

module _ (f : World) (all : List World) where
  timely_from : (w : World) (es : List Event) (os : List (Option Outcome)) (vs : List World) → PassesThrough w es os vs → IsFresh w → AreSound w → IsHere f all w vs → IsDated f all w es vs → Aged w es vs → AreTimely f all w es vs
  timely_from w [] [] [] passes fresh sound here d aged = tt
  timely_from w (e ∷ es) (o ∷ os) (v ∷ vs) (step, passes) fresh sound here d (now, later) =
      let on = step_goes_on w e o v fresh sound step in (
        one_timely f all w e es v vs d,
        timely_from v es os vs passes (step_onward w e o v fresh step).fresh (λ x. (on x).sound) (here_on f all w v vs here (bags_grow w e o v step) (λ x. (on x).grown))
            (dated_on f all w v e es vs here later d) later,
      )
  timely_from w [] (o ∷ os) vs passes fresh sound here d aged = absurd passes
  timely_from w [] [] (v ∷ vs) passes fresh sound here d aged = absurd passes
  timely_from w (e ∷ es) [] vs passes fresh sound here d aged = absurd passes
  timely_from w (e ∷ es) (o ∷ os) [] passes fresh sound here d aged = absurd passes

start_dated : (w : World) (es : List Event) (vs : List World) → Aged w es vs → IsDated w vs w es vs
start_dated w es vs aged = record {
  has = λ s n le. (let same = ap (λ (u : World). length (bag_of u s)) (built_here s n w vs le) in omega (arith, le, same));
  since = λ s n le. subst (λ (u : World). AllComeInTime u w es vs) (sym (built_here s n w vs le)) (first_in_time w es vs aged);
}

pub aged_asks_no_less : AgedAsksNoLess
aged_asks_no_less s es os vs passes aged = timely_from (start s) vs (start s) es os vs passes (λ q. (refl, refl)) (start_sound s) (start_here (start s) vs) (start_dated (start s) es vs aged) aged

-- ---- over two runs

record IsWell (w : World) : Type 0 where
  fresh : IsFresh w
  sound : AreSound w

well_step : (w : World) (e : Event) (o : Option Outcome) (v : World) → IsWell w → Step w e o v → IsWell v
well_step w e o v i step = record { fresh = (step_onward w e o v i.fresh step).fresh; sound = λ x. (step_goes_on w e o v i.fresh i.sound step x).sound }

well_run : (w : World) (es : List Event) (os : List (Option Outcome)) (v : World) → IsWell w → Run w es os v → IsWell v
well_run w es os v i (Rest _) = i
well_run w es os v i (Then _ mid _ e rest o others step run) = well_run mid rest others v (well_step w e o mid i step) run

run_grows : (w : World) (es : List Event) (os : List (Option Outcome)) (v : World) → IsWell w → Run w es os v → (x : Side) → assigned_tsns w x ≤ assigned_tsns v x
run_grows w es os v i (Rest _) x = omega arith
run_grows w es os v i (Then _ mid _ e rest o others step run) x =
    let here = (step_goes_on w e o mid i.fresh i.sound step x).grown in
    let later = run_grows mid rest others v (well_step w e o mid i step) run x in
    omega (arith, here, later)

pub plans_only_grow : PlansOnlyGrow
plans_only_grow s events more answers others w v before after x =
    run_grows w more others v (well_run (start s) events answers w (record { fresh = λ q. (refl, refl); sound = start_sound s }) before) after x
