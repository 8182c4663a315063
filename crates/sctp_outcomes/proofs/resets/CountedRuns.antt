-- Over every run: what is noted of resets is of requests performed in earlier steps, and never more than wait.
use Rattle.std.proofs.Common.{◌≡◌, ◌⊎◌, ◌&&◌, ℕ, ◌-◌, ◌≤◌, max, Bool, true, false, List, [], ◌∷◌, ◌++◌, length, length-append, Option, Some, None, inl, inr, refl, sym, subst, ap, arith, if◌then◌else◌}
use Rattle.std.specs.Prelude.{◌==◌, unwrap_or}
use Rattle.std.proofs.lemmas.Bool.Decides.{nat_tests}
use Rattle.sctp_model.specs.wire.Packet.{Packet}
use Rattle.sctp_model.specs.wire.Chunk.{ChunkMeaning}
use Rattle.sctp_model.specs.wire.Reconfig.{ResetMeaning}
use Rattle.sctp_model.specs.receiver.ReceiverView.{Handed, ReceiverView, handed}
use Rattle.sctp_model.specs.receiver.SackMade.{TakeLeaves, first_taken}
use Rattle.sctp_model.specs.receiver.ResetTaken.{old_waiting, told_of}
use Rattle.sctp_model.specs.end.EndView.{Draw, ResetAlarm, EndView}
use Rattle.sctp_model.specs.end.Opening.{opened}
use Rattle.sctp_model.specs.end.Arriving.{Receives, IsCutShort, DroppedUnread, ReadAs, CutFirst, CutLater}
use Rattle.sctp_model.specs.end.Strays.{Verdict}
use Rattle.sctp_model.specs.sender.Resetting.{may_ask}
use Rattle.sctp_model.specs.end.Clock.{is_home}
use Rattle.sctp_model.specs.end.Reconfiguring.{asking, asking_now}
use Rattle.sctp_model.specs.end.Building.{Slot, EchoSlot, CookieAckSlot, HeartbeatSlot, BeatSlot, ErrorSlot, SackSlot, ForwardSlot, AnswerSlot, RequestSlot, ShutdownSlot, ShutdownAckSlot, once_built, Puts, NoMore, NotDue, Put, IsFull, Builds, Sleeps, Waits, Calls, Echoes, EndsFull, Fills}
use Rattle.sctp_model.specs.end.UserCalls.{send_answer, shut, abort_answer, abort_leaves, ResetCall, Begun, NotAgreed, NoStream, reset_call, reset_leaves, reset_there, told_leaves}
use Rattle.sctp_model.specs.world.World.{Side, A, B, World, end_of, end_now, start, Setup, clock_of}
use Rattle.sctp_model.specs.world.Events.{Event, Outcome}
use Rattle.sctp_model.specs.world.Steps.{Brings, Step, OpensBoth, OpenRefused, TimePasses, Draws, Connects, ConnectRefused, BuildsOne, BuildsNone, PacketComes, IsAbsent, Sends, AbandonsOne, TakesOne, ShutsDown, AbortsIt, NoMemory, PacketCut, ResetsOne, TellsReset, PassesThrough, last_of, TimeGoesOn, MomentComes}
use Rattle.sctp_safety.proofs.machine.OneEnd.{IsAt, at_end, at_log, at_packet, at_came, answer_of, at_verdict, abort_of, at_abort, both_ends}
use Rattle.sctp_safety.proofs.machine.DiagramRuns.{IsFresh, step_onward}
use Rattle.sctp_safety.proofs.runs.Courses.{runs_have_worlds}
use Rattle.sctp_outcomes.specs.Kept.{is_before, IsSound}
use Rattle.sctp_outcomes.specs.Resets.{HasStep, RequestArrives, InWhole, InFront, WasPerformed, EachCountIsOfARequest, NeverMoreThanWait}
use Rattle.sctp_outcomes.proofs.AgedDates.{AreSound, step_goes_on, start_sound}
use Rattle.sctp_outcomes.proofs.Unheard.{unheard_ticked, unheard_sent, unheard_abandoned, unheard_shut, unheard_aborted}
use Rattle.sctp_outcomes.proofs.logs.Heard.{moment_keeps}
use Rattle.sctp_outcomes.proofs.resets.Counted.{IsPerformed, Counts, counts_among}
use Rattle.sctp_outcomes.proofs.resets.CountedEnds.{arrives_count}

-- ---- a receiver at which no packet arrives

-- what is reported was reported before, and no fewer messages are delivered
record IsStill (r t : ReceiverView) : Type 0 where
  grown : (s : ℕ) → length (handed r s) ≤ length (handed t s)
  told : (s n : ℕ) → t.resets.told s ≡ Some n → r.resets.told s ≡ Some n

still : (r t : ReceiverView) → t ≡ r → IsStill r t
still r t is = record {
  grown = λ s. (let same = ap (λ (x : ReceiverView). length (handed x s)) is in omega (arith, same));
  told = λ s n here. subst (λ (x : ReceiverView). x.resets.told s ≡ Some n) is here;
}

still_on : (r t u : ReceiverView) → IsStill r t → IsStill t u → IsStill r u
still_on r t u a b = record { grown = λ s. (let x = a.grown s in let y = b.grown s in omega (arith, x, y)); told = λ s n is. a.told s n (b.told s n is) }

-- a message is taken
takes : (r : ReceiverView) (m : ℕ) (h : Option Handed) (t : ReceiverView) → TakeLeaves r m h t → IsStill r t
takes r m None t (none, is) = still r t is
takes r m (Some h) t (rest, waits, is) = subst (IsStill r) (sym is) (record { grown = grown; told = λ s n here. here })
  where
    grown : (s : ℕ) → length (handed r s) ≤ length (handed (first_taken r m h rest) s)
    grown s = go (s == m) refl
      where
        go : (b : Bool) → (s == m) ≡ b → length (r.taken s ++ r.waiting s) ≤ length ((if b then r.taken m ++ h ∷ [] else r.taken s) ++ (if b then rest else r.waiting s))
        go true at =
            let own : s ≡ m = grind (arith, nat_tests) in
            let x = ap (λ (k : ℕ). length (r.taken k ++ r.waiting k)) own in
            let y = length-append (r.taken m) (r.waiting m) in
            let z = ap length waits in
            let u = length-append (r.taken m ++ h ∷ []) rest in
            let v = length-append (r.taken m) (h ∷ []) in
            omega (arith, x, y, z, u, v)
        go false at = omega arith

-- a stream is reported to the user
tells : (r : ReceiverView) (m : ℕ) → IsStill r (told_of r m)
tells r m = record { grown = λ s. omega arith; told = λ s n here. go s n (s == m) here }
  where
    go : (s n : ℕ) (b : Bool) → (if b then None else r.resets.told s) ≡ Some n → r.resets.told s ≡ Some n
    go s n true here = absurd (cc)
    go s n false here = here

-- ---- a packet that is built

built_still : (s : Slot) (e : EndView) → IsStill e.receiver (once_built s e).receiver
built_still EchoSlot e = still e.receiver e.receiver refl
built_still CookieAckSlot e = still e.receiver e.receiver refl
built_still HeartbeatSlot e = still e.receiver e.receiver refl
built_still BeatSlot e = still e.receiver e.receiver refl
built_still ErrorSlot e = still e.receiver e.receiver refl
built_still SackSlot e = record { grown = λ s. omega arith; told = λ s n is. is }
built_still ForwardSlot e = still e.receiver e.receiver refl
built_still AnswerSlot e = record { grown = λ s. omega arith; told = λ s n is. is }
built_still RequestSlot e = still e.receiver e.receiver refl
built_still ShutdownSlot e = still e.receiver e.receiver refl
built_still ShutdownAckSlot e = still e.receiver e.receiver refl

puts_still : (ss : List Slot) (e : EndView) (xs zs : List ChunkMeaning) (full : Bool) (t : EndView) → Puts ss e xs zs full t → IsStill e.receiver t.receiver
puts_still ss e xs zs full t (NoMore _ _) = still e.receiver e.receiver refl
puts_still ss e xs zs full t (NotDue _ more _ _ _ _ _ off rest) = puts_still more e xs zs full t rest
puts_still ss e xs zs full t (Put s more _ x _ _ _ _ due wants room rest) =
    still_on e.receiver (once_built s e).receiver t.receiver (built_still s e) (puts_still more (once_built s e) (xs ++ x ∷ []) zs full t rest)
puts_still ss e xs zs full t (IsFull _ _ _ _ _ due wants room) = still e.receiver e.receiver refl

asking_receiver : (e : EndView) → (asking e).receiver ≡ e.receiver
asking_receiver e = go (e.terms.reset && (is_home ResetAlarm e.phase && may_ask e.sender))
  where
    go : (b : Bool) → (asking_now b e).receiver ≡ e.receiver
    go true = refl
    go false = refl

builds_still : (e : EndView) (zs : List ChunkMeaning) (t : EndView) → Builds e zs t → IsStill e.receiver t.receiver
builds_still e zs t (Sleeps _) = still e.receiver e.receiver refl
builds_still e zs t (Waits _ _ _) = still e.receiver e.receiver refl
builds_still e zs t (Calls _ _ _) = still e.receiver e.receiver refl
builds_still e zs t (Echoes _ _ _ full _ is puts) = puts_still _ e [] zs full t puts
builds_still e zs t (EndsFull _ _ _ _ is puts) = still_on e.receiver (asking e).receiver t.receiver (still e.receiver (asking e).receiver (asking_receiver e)) (puts_still _ (asking e) [] zs true t puts)
builds_still e zs t (Fills _ _ ys x is puts) = still_on e.receiver (asking e).receiver x.receiver (still e.receiver (asking e).receiver (asking_receiver e)) (puts_still _ (asking e) [] ys false x puts)

-- ---- a world

by_still : {P : ReceiverView → ℕ → ResetMeaning → Type 0} (r t : ReceiverView) → IsStill r t → Counts P r t
by_still r t k = record { grown = k.grown; told = λ s n is. inl (k.told s n is) }

opening_still : (e : EndView) (own peer : Draw) → is_before e.phase ≡ true → IsSound e → IsStill e.receiver (opened e.configuration own peer).receiver
opening_still e own peer before sound =
    let u = (sound.bare before).receiver in
    record { grown = λ s. (let same = ap (λ (r : ReceiverView). length (handed r s)) u in omega (arith, same)); told = λ s n is. absurd (cc) }

now_sound : (w : World) (y : Side) → AreSound w → IsSound (end_now w y)
now_sound w y s = (moment_keeps (end_of w y) (clock_of w y) (s y)).sound

receives_leaves : (w : World) (e : Event) (y : Side) (p : Option Packet) (t : EndView) (d : Verdict) → Brings w e y p → AreSound w → Receives (end_of w y) (clock_of w y) w.draw p t d → Counts (RequestArrives w e y t) (end_of w y).receiver t.receiver
receives_leaves w e y p t d brings s DroppedUnread = by_still (end_of w y).receiver t.receiver (still (end_of w y).receiver (end_of w y).receiver refl)
receives_leaves w e y p t d brings s (ReadAs q _ _ arrives) =
    counts_among (end_of w y).receiver t.receiver
    (λ r c m k. InWhole q d brings arrives k) (arrives_count (end_now w y) w.draw q t d (now_sound w y s) arrives)

cut_leaves : (w : World) (e : Event) (y : Side) (p : Option Packet) (t : EndView) → Brings w e y p → AreSound w → IsCutShort (end_of w y) (clock_of w y) w.draw p t → Counts (RequestArrives w e y t) (end_of w y).receiver t.receiver
cut_leaves w e y p t brings s (CutFirst _) = by_still (end_of w y).receiver t.receiver (still (end_of w y).receiver (end_of w y).receiver refl)
cut_leaves w e y p t brings s (CutLater q z front back c _ d part arrives untold) =
    counts_among (end_of w y).receiver t.receiver
    (λ r h m k. InFront q (z ∷ front) c back d brings part arrives untold k) (arrives_count (end_now w y) w.draw _ t d (now_sound w y s) arrives)

module _ (x : Side) where
  abbrev LeavesIn : Event → World → World → Type 0
  LeavesIn e w v = Counts (RequestArrives w e x (end_of v x)) (end_of w x).receiver (end_of v x).receiver

  at_one : (w v : World) (e : Event) (y : Side) (t : EndView) (given : Option Packet) → IsAt w v y t given → Counts (RequestArrives w e y t) (end_of w y).receiver t.receiver → LeavesIn e w v
  at_one w v e y t given at new =
      both_ends (λ (z : Side) (d : EndView). Counts (RequestArrives w e z d) (end_of w z).receiver d.receiver) w v y t given at (λ z. by_still (end_of w z).receiver (end_of w z).receiver (still (end_of w z).receiver (end_of w z).receiver refl)) new x

  by_same : (w v : World) (e : Event) (y : Side) (t : EndView) (given : Option Packet) → IsAt w v y t given → t.receiver ≡ (end_of w y).receiver → LeavesIn e w v
  by_same w v e y t given at same = at_one w v e y t given at (by_still (end_of w y).receiver t.receiver (still (end_of w y).receiver t.receiver same))

  at_both : (w v : World) (e : Event) → IsStill w.a.receiver v.a.receiver → IsStill w.b.receiver v.b.receiver → LeavesIn e w v
  at_both w v e a b = go x
    where
      go : (y : Side) → Counts (RequestArrives w e y (end_of v y)) (end_of w y).receiver (end_of v y).receiver
      go A = by_still w.a.receiver v.a.receiver a
      go B = by_still w.b.receiver v.b.receiver b

  calm : (w v : World) (e : Event) → v.a.receiver ≡ w.a.receiver → v.b.receiver ≡ w.b.receiver → LeavesIn e w v
  calm w v e a b = at_both w v e (still w.a.receiver v.a.receiver a) (still w.b.receiver v.b.receiver b)

  reset_same : (e : EndView) (a : ResetCall) (m : ℕ) → (reset_leaves a e m).receiver ≡ e.receiver
  reset_same e Begun m = refl
  reset_same e NotAgreed m = refl
  reset_same e NoStream m = refl

  tells_still : (e : EndView) (o : Option ℕ) → IsStill e.receiver (told_leaves o e).receiver
  tells_still e None = still e.receiver e.receiver refl
  tells_still e (Some m) = tells e.receiver m

  step_leaves : (w : World) (e : Event) (o : Option Outcome) (v : World) → IsFresh w → AreSound w → Step w e o v → LeavesIn e w v
  step_leaves w e o v f s (OpensBoth y z like may dx dy) = at_both w v e (opening_still w.a y z (ap is_before (f may).0) (s A)) (opening_still w.b z y (ap is_before (f may).1) (s B))
  step_leaves w e o v f s (OpenRefused y z closed) = calm w w e refl refl
  step_leaves w e o v f s (TimeGoesOn A m small) = calm w v e refl refl
  step_leaves w e o v f s (TimeGoesOn B m small) = calm w v e refl refl
  step_leaves w e o v f s (MomentComes y) = by_same w v e y _ None (at_log w y _ _) (unheard_ticked (end_of w y) (clock_of w y)).receiver
  step_leaves w e o v f s (TimePasses m small) = calm w v e (unheard_ticked w.a (max w.clock_a m)).receiver (unheard_ticked w.b (max w.clock_b m)).receiver
  step_leaves w e o v f s (Draws d dd) = calm w v e refl refl
  step_leaves w e o v f s (Connects d dd answer) = calm w v e refl refl
  step_leaves w e o v f s (ConnectRefused d answer) = calm w w e refl refl
  step_leaves w e o v f s (BuildsOne y c cs t b) = at_one w v e y t _ (at_packet w y t _) (by_still (end_of w y).receiver t.receiver (builds_still (end_now w y) (c ∷ cs) t b))
  step_leaves w e o v f s (BuildsNone y t b) = at_one w v e y t None (at_end w y t) (by_still (end_of w y).receiver t.receiver (builds_still (end_now w y) [] t b))
  step_leaves w e o v f s (PacketComes _ y p t d brings received) = at_one w v e y t (answer_of d) (at_verdict w y t d) (receives_leaves w e y p t d brings s received)
  step_leaves w e o v f s (PacketCut _ y p t brings cut) = at_one w v e y t None (at_came w y t) (cut_leaves w e y p t brings s cut)
  step_leaves w e o v f s (IsAbsent y k none) = calm w w e refl refl
  step_leaves w e o v f s (Sends y c) = by_same w v e y _ None (at_log w y _ _) (unheard_sent (end_of w y) c (send_answer (end_of w y) c)).receiver
  step_leaves w e o v f s (AbandonsOne y k) = by_same w v e y _ None (at_log w y _ _) (unheard_abandoned (end_of w y) k).receiver
  step_leaves w e o v f s (TakesOne y m h t taken) =
      at_one w v e y t None (at_end w y t) (by_still (end_of w y).receiver t.receiver (subst (λ (d : EndView). IsStill (end_of w y).receiver d.receiver) (sym taken.leaves) (takes (end_of w y).receiver m h taken.receiver taken.takes)))
  step_leaves w e o v f s (ResetsOne y m) = by_same w v e y (reset_leaves (reset_call (end_of w y) m) (end_of w y) m) None (at_end w y _) (reset_same (end_of w y) (reset_call (end_of w y) m) m)
  step_leaves w e o v f s (TellsReset y) =
      at_one w v e y (told_leaves (reset_there (end_of w y)) (end_of w y)) None (at_end w y _) (by_still (end_of w y).receiver _ (tells_still (end_of w y) (reset_there (end_of w y))))
  step_leaves w e o v f s (ShutsDown y) = by_same w v e y (shut (end_of w y)) None (at_end w y _) (unheard_shut (end_of w y)).receiver
  step_leaves w e o v f s (AbortsIt y why) =
      let a = abort_answer (end_of w y) why in by_same w v e y (abort_leaves a (end_of w y)) (abort_of a) (at_abort w y _ a) (unheard_aborted (end_of w y) a).receiver
  step_leaves w e o v f s (NoMemory _ other) = calm w w e refl refl

  -- ---- a run

  module _ (m n : ℕ) where
    performed : (w : World) (e : Event) (v : World) → LeavesIn e w v → (end_of v x).receiver.resets.told m ≡ Some n → ((end_of w x).receiver.resets.told m ≡ Some n) ⊎ WasPerformed x m n w e v
    performed w e v l is = go (l.told m n is)
      where
        go : ((end_of w x).receiver.resets.told m ≡ Some n) ⊎ IsPerformed (RequestArrives w e x (end_of v x)) (end_of w x).receiver (end_of v x).receiver m n
            → ((end_of w x).receiver.resets.told m ≡ Some n) ⊎ WasPerformed x m n w e v
        go (inl before) = inl before
        go (inr p) = inr (record {
          arrives = p.arrives;
          receiver = p.receiver;
          cumulative = p.cumulative;
          request = p.request;
          in_turn = p.in_turn;
          performed = p.performed;
          named = p.named;
          anew = p.anew;
          count = p.count;
          after = p.after;
          before = p.before;
        })

    run_performed : (w : World) (es : List Event) (os : List (Option Outcome)) (vs : List World) → PassesThrough w es os vs → IsFresh w → AreSound w → (end_of (last_of w vs) x).receiver.resets.told m ≡ Some n
        → ((end_of w x).receiver.resets.told m ≡ Some n) ⊎ HasStep (WasPerformed x m n) w es vs
    run_performed w [] [] [] passes fresh sound is = inl is
    run_performed w (e ∷ es) (o ∷ os) (v ∷ vs) (step, passes) fresh sound is =
        by_later (run_performed v es os vs passes (step_onward w e o v fresh step).fresh (λ y. (step_goes_on w e o v fresh sound step y).sound) is)
      where
        by_here : ((end_of w x).receiver.resets.told m ≡ Some n) ⊎ WasPerformed x m n w e v → ((end_of w x).receiver.resets.told m ≡ Some n) ⊎ (WasPerformed x m n w e v ⊎ HasStep (WasPerformed x m n) v es vs)
        by_here (inl before) = inl before
        by_here (inr here) = inr (inl here)

        by_later : ((end_of v x).receiver.resets.told m ≡ Some n) ⊎ HasStep (WasPerformed x m n) v es vs → ((end_of w x).receiver.resets.told m ≡ Some n) ⊎ (WasPerformed x m n w e v ⊎ HasStep (WasPerformed x m n) v es vs)
        by_later (inl now) = by_here (performed w e v (step_leaves w e o v fresh sound step) now)
        by_later (inr later) = inr (inr later)
    run_performed w [] (o ∷ os) vs passes fresh sound is = absurd passes
    run_performed w [] [] (v ∷ vs) passes fresh sound is = absurd passes
    run_performed w (e ∷ es) [] vs passes fresh sound is = absurd passes
    run_performed w (e ∷ es) (o ∷ os) [] passes fresh sound is = absurd passes

  -- no more is noted than was delivered
  abbrev IsBounded : World → Type 0
  IsBounded w = (m n : ℕ) → (end_of w x).receiver.resets.told m ≡ Some n → n ≤ length (handed (end_of w x).receiver m)

  bounded_step : (w : World) (e : Event) (v : World) → LeavesIn e w v → IsBounded w → IsBounded v
  bounded_step w e v l b m n is = go (l.told m n is)
    where
      go : ((end_of w x).receiver.resets.told m ≡ Some n) ⊎ IsPerformed (RequestArrives w e x (end_of v x)) (end_of w x).receiver (end_of v x).receiver m n → n ≤ length (handed (end_of v x).receiver m)
      go (inl before) = let low = b m n before in let more = l.grown m in omega (arith, low, more)
      go (inr p) = p.before

  bounded_run : (w : World) (es : List Event) (os : List (Option Outcome)) (vs : List World) → PassesThrough w es os vs → IsFresh w → AreSound w → IsBounded w → IsBounded (last_of w vs)
  bounded_run w [] [] [] passes fresh sound b = b
  bounded_run w (e ∷ es) (o ∷ os) (v ∷ vs) (step, passes) fresh sound b =
      bounded_run v es os vs passes (step_onward w e o v fresh step).fresh (λ y. (step_goes_on w e o v fresh sound step y).sound) (bounded_step w e v (step_leaves w e o v fresh sound step) b)
  bounded_run w [] (o ∷ os) vs passes fresh sound b = absurd passes
  bounded_run w [] [] (v ∷ vs) passes fresh sound b = absurd passes
  bounded_run w (e ∷ es) [] vs passes fresh sound b = absurd passes
  bounded_run w (e ∷ es) (o ∷ os) [] passes fresh sound b = absurd passes

none_told : (s : Setup) (x : Side) (m n : ℕ) → (end_of (start s) x).receiver.resets.told m ≡ Some n → ⊥
none_told s A m n is = absurd (cc)
none_told s B m n is = absurd (cc)

pub each_count_is_of_a_request : EachCountIsOfARequest
each_count_is_of_a_request s es os vs passes x m n is = go (run_performed x m n (start s) es os vs passes (λ q. (refl, refl)) (start_sound s) is)
  where
    go : ((end_of (start s) x).receiver.resets.told m ≡ Some n) ⊎ HasStep (WasPerformed x m n) (start s) es vs → HasStep (WasPerformed x m n) (start s) es vs
    go (inl before) = absurd (none_told s x m n before)
    go (inr step) = step

waits_at_least : (r : ReceiverView) (m : ℕ) → ((n : ℕ) → r.resets.told m ≡ Some n → n ≤ length (handed r m)) → old_waiting r m ≤ length (r.waiting m)
waits_at_least r m bound = go (r.resets.told m) refl
  where
    go : (o : Option ℕ) → r.resets.told m ≡ o → unwrap_or o 0 - length (r.taken m) ≤ length (r.waiting m)
    go None is = omega arith
    go (Some n) is = let low = bound n is in let all = length-append (r.taken m) (r.waiting m) in omega (arith, low, all)

pub never_more_than_wait : NeverMoreThanWait
never_more_than_wait s es os w run x m =
    let h = runs_have_worlds (start s) w es os run in
    let bound : IsBounded x w = subst (IsBounded x) h.ends (bounded_run x (start s) es os h.worlds h.passes (λ q. (refl, refl)) (start_sound s) (λ k n is. absurd (none_told s x k n is))) in
    waits_at_least (end_of w x).receiver m (λ n is. bound m n is)
