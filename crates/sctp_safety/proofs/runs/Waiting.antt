-- What a time, a packet to be built and the calls of its user do to an endpoint that isn't open: its views stay new.
use Rattle.std.proofs.Common.{◌≡◌, ℕ, ◌≤◌, ◌||◌, nat_lt, Bool, true, false, not, ◌==◌, ◌&&◌, List, [], ◌∷◌, ◌++◌, Option, Some, None, inl, inr, refl, sym, subst, ap, arith, ◌∙◌, ◌⊎◌, if◌then◌else◌}
use Rattle.sctp_model.specs.numbers.Lists.{Has}
use Rattle.sctp_model.specs.wire.Chunk.{ChunkMeaning}
use Rattle.sctp_model.specs.sender.SenderView.{SenderView}
use Rattle.sctp_model.specs.receiver.ReceiverView.{Handed, ReceiverView}
use Rattle.sctp_model.specs.world.Calls.{Call}
use Rattle.sctp_model.specs.sender.Abandoning.{abandon_after, timed_out}
use Rattle.sctp_model.specs.sender.Readers.{point}
use Rattle.sctp_model.specs.receiver.SackMade.{TakeLeaves}
use Rattle.sctp_model.specs.end.EndView.{Draw, AbortedHere, TimedOut, Phase, Idle, Listening, Calling, Echoing, Open, Over, Alarm, InitAlarm, CookieAlarm, DataAlarm, ShutdownAlarm, AckAlarm, ResetAlarm, EndView, has_association, send_limits}
use Rattle.sctp_model.specs.end.EndView.{BeatAlarm, GuardAlarm}
use Rattle.sctp_model.specs.end.Clock.{is_home, is_over_at, with_timer, closed, at_moment, settled}
use Rattle.sctp_model.specs.end.Clock.{expired_timer, may_go_on}
use Rattle.sctp_model.specs.end.Building.{Slot, EchoSlot, CookieAckSlot, HeartbeatSlot, ErrorSlot, SackSlot, ForwardSlot, AnswerSlot, RequestSlot, AnswerReset, AskReset, ShutdownSlot, ShutdownAckSlot, Wants, EchoCookie, AckCookie, AckHeartbeat, ReportCauses, Acknowledge, PassOn, SayShutdown, AnswerShutdown, Puts, NoMore, NotDue, Put, IsFull, echoing_slots, Builds, Sleeps, Waits, Calls, Echoes, Fills, once_built}
use Rattle.sctp_model.specs.end.Building.{EndsFull, BeatSlot, Beat}
use Rattle.sctp_model.specs.end.Closing.{hears}
use Rattle.sctp_model.specs.end.Moments.{after_abandoning, is_data_due, given_up, due_again, rung, ring, rung_all, all_alarms, passed, ticked, waited_in}
use Rattle.std.specs.Prelude.{find, nat_le, is_some}
use Rattle.sctp_model.specs.sender.Resetting.{retried}
use Rattle.sctp_model.specs.sender.Words.{count_up}
use Rattle.sctp_model.specs.end.UserCalls.{Begun, NotAgreed, NoStream, reset_call, reset_leaves, reset_there, told_leaves, NotOpen, is_established, send_answer, is_open, abandoned_at, UserTakes, shut_in, shut, AbortAnswer, Aborts, NoPeer, TooLong, abort_leaves, called}
use Rattle.sctp_model.specs.end.UserCalls.{updating}
use Rattle.sctp_safety.proofs.lists.Basics.{Has-cases}
use Rattle.sctp_safety.proofs.runs.Homes.{home_like, home_turned}
use Rattle.sctp_safety.proofs.runs.EndingTimes.{was_running}
use Rattle.sctp_safety.proofs.runs.Pair.{opens_or_ends, AreOpening}
use Rattle.sctp_safety.proofs.runs.Answers.{one_opening}
use Rattle.sctp_safety.proofs.runs.Unmet.{never_opened, IsBlank, IsUnmet, alike, timed_fresh, open_now, still, over, rests}

-- ---- time

-- giving up finds no message of a new sender, and neither does the data timer
none_expires : (e : EndView) → IsBlank e → (rings : Bool) (now : ℕ) → given_up rings e.sender now ≡ e.sender
none_expires e b true now = ap (λ (a : SenderView). given_up true a now) b.sender ∙ sym b.sender
none_expires e b false now = ap (λ (a : SenderView). given_up false a now) b.sender ∙ sym b.sender

none_is_abandoned : (e : EndView) → IsBlank e → (k : ℕ) → abandon_after e.sender k ≡ e.sender
none_is_abandoned e b k = ap (λ (a : SenderView). abandon_after a k) b.sender ∙ sym b.sender

none_marked : (e : EndView) → IsBlank e → timed_out e.sender ≡ e.sender
none_marked e b = ap timed_out b.sender ∙ timed_fresh e.terms.own_tsn e.terms.outbound e.configuration.fragment b.rwnd e.terms.partial (send_limits e.configuration) ∙ sym b.sender

none_retried : (e : EndView) → IsBlank e → retried e.sender ≡ e.sender
none_retried e b = ap retried b.sender ∙ sym b.sender

-- the timers of closing run in open endpoints alone
no_shutdown_timer : (h : Phase) → never_opened h ≡ true → is_home ShutdownAlarm h ≡ true → ⊥
no_shutdown_timer (Open t g) off on = absurd (cc)
no_shutdown_timer Idle off on = absurd (cc)
no_shutdown_timer Listening off on = absurd (cc)
no_shutdown_timer (Calling d) off on = absurd (cc)
no_shutdown_timer (Echoing t xs) off on = absurd (cc)
no_shutdown_timer (Over why) off on = absurd (cc)

no_ack_timer : (h : Phase) → never_opened h ≡ true → is_home AckAlarm h ≡ true → ⊥
no_ack_timer (Open t g) off on = absurd (cc)
no_ack_timer Idle off on = absurd (cc)
no_ack_timer Listening off on = absurd (cc)
no_ack_timer (Calling d) off on = absurd (cc)
no_ack_timer (Echoing t xs) off on = absurd (cc)
no_ack_timer (Over why) off on = absurd (cc)

module _ (clock : ℕ) where
  abbrev Unmet : EndView → Type 0
  Unmet e = IsUnmet clock e

  pub waits_now : (e : EndView) (now : ℕ) → Unmet e → now ≤ clock → Unmet (at_moment e now)
  waits_now e now m le = record {
    blank = record { rwnd = m.blank.rwnd; sender = m.blank.sender; receiver = m.blank.receiver };
    unopened = m.unopened;
    home = record { shutdown = m.home.shutdown; ack = m.home.ack; shutdown_runs = m.home.shutdown_runs; ack_runs = m.home.ack_runs };
    moment = let b = m.moment in omega (arith, b, le);
  }

  becomes_abandoned : (e : EndView) (a : SenderView) → Unmet e → a ≡ e.sender → Unmet (after_abandoning e a)
  becomes_abandoned e a m same =
      rests clock (settled (record e { sender = a; due = record e.due { forward = e.due.forward || not (point a == point e.sender) } }))
      (still clock e _ m (alike e _ refl refl same refl refl) m.unopened (home_like e _ m.home refl refl refl refl refl))

  again : (a : Alarm) (e : EndView) → Unmet e → is_over_at e.moment (e.timers a).expiry ≡ true → Unmet (due_again a (with_timer a (expired_timer e.configuration.longest_wait (e.timers a)) e))
  again InitAlarm e m on = still clock e _ m (alike e _ refl refl refl refl refl) m.unopened (home_like e _ m.home refl refl refl refl refl)
  again CookieAlarm e m on = still clock e _ m (alike e _ refl refl refl refl refl) m.unopened (home_like e _ m.home refl refl refl refl refl)
  again DataAlarm e m on = still clock e _ m (alike e _ refl refl (none_marked e m.blank) refl refl) m.unopened (home_like e _ m.home refl refl refl refl refl)
  again ResetAlarm e m on = still clock e _ m (alike e _ refl refl (none_retried e m.blank) refl refl) m.unopened (home_like e _ m.home refl refl refl refl refl)
  again BeatAlarm e m on = still clock e _ m (alike e _ refl refl refl refl refl) m.unopened (home_like e _ m.home refl refl refl refl refl)
  again GuardAlarm e m on = still clock e _ m (alike e _ refl refl refl refl refl) m.unopened (home_like e _ m.home refl refl refl refl refl)
  again ShutdownAlarm e m on = absurd (let r = was_running e.moment (e.timers ShutdownAlarm).expiry on in no_shutdown_timer e.phase m.unopened (m.home.shutdown_runs r.0 r.1))
  again AckAlarm e m on = absurd (let r = was_running e.moment (e.timers AckAlarm).expiry on in no_ack_timer e.phase m.unopened (m.home.ack_runs r.0 r.1))

  rings : (a : Alarm) (e : EndView) → Unmet e → (b : Bool) → is_over_at e.moment (e.timers a).expiry ≡ b → Unmet (rung b a e)
  rings a e m false is = m
  rings a e m true is = go (may_go_on a e)
    where
      go : (c : Bool) → Unmet (if c then due_again a (with_timer a (expired_timer e.configuration.longest_wait (e.timers a)) e) else closed TimedOut e)
      go true = again a e m is
      go false = over clock e TimedOut refl m

  all_ring : (alarms : List Alarm) (e : EndView) → Unmet e → Unmet (rung_all alarms e)
  all_ring [] e m = m
  all_ring (a ∷ more) e m = all_ring more (ring a e) (rings a e m (is_over_at e.moment (e.timers a).expiry) refl)

  waits_on : (b : Bool) (e : EndView) → Unmet e → Unmet (waited_in b e)
  waits_on false e m = m
  waits_on true e m = still clock e (waited_in true e) m (alike e (waited_in true e) refl refl refl refl refl) m.unopened (home_like e (waited_in true e) m.home refl refl refl refl refl)

  pub waits_ticked : (e : EndView) (now : ℕ) → Unmet e → now ≤ clock → Unmet (ticked e now)
  waits_ticked e now m le = go (has_association e.phase)
    where
      there : Unmet (at_moment e now)
      there = waits_now e now m le

      go : (b : Bool) → Unmet (if b then passed (at_moment e now) else at_moment e now)
      go false = there
      go true =
          let u = after_abandoning (at_moment e now) (given_up (is_data_due (at_moment e now)) e.sender (at_moment e now).moment) in
          let r = rung_all all_alarms u in
          waits_on (is_over_at r.moment r.delayed) r (all_ring all_alarms u
          (becomes_abandoned (at_moment e now) (given_up (is_data_due (at_moment e now)) e.sender (at_moment e now).moment) there (none_expires e m.blank (is_data_due (at_moment e now)) (at_moment e now).moment)))

  -- ---- a packet

  -- the two places of a packet while a cookie is echoed
  is_echo_slot : Slot → Bool
  is_echo_slot EchoSlot = true
  is_echo_slot ErrorSlot = true
  is_echo_slot CookieAckSlot = false
  is_echo_slot HeartbeatSlot = false
  is_echo_slot BeatSlot = false
  is_echo_slot SackSlot = false
  is_echo_slot ForwardSlot = false
  is_echo_slot AnswerSlot = false
  is_echo_slot RequestSlot = false
  is_echo_slot ShutdownSlot = false
  is_echo_slot ShutdownAckSlot = false

  one_put : (s : Slot) (e : EndView) (x : ChunkMeaning) → is_echo_slot s ≡ true → Unmet e → Wants e s x → Unmet (once_built s e) × (opens_or_ends x ≡ true)
  unfolding is_echo_slot
  one_put s e x on m (EchoCookie _ _ _) = (still clock e (once_built EchoSlot e) m (alike e (once_built EchoSlot e) refl refl refl refl refl) m.unopened (home_like e _ m.home refl refl refl refl refl), refl)
  one_put s e x on m AckCookie = absurd (cc)
  one_put s e x on m (AckHeartbeat _ _) = absurd (cc)
  one_put s e x on m ReportCauses = (still clock e (once_built ErrorSlot e) m (alike e (once_built ErrorSlot e) refl refl refl refl refl) m.unopened (home_like e _ m.home refl refl refl refl refl), refl)
  one_put s e x on m Beat = absurd (cc)
  one_put s e x on m (Acknowledge _ _) = absurd (cc)
  one_put s e x on m PassOn = absurd (cc)
  one_put s e x on m AnswerReset = absurd (cc)
  one_put s e x on m (AskReset _ _) = absurd (cc)
  one_put s e x on m (SayShutdown _ _) = absurd (cc)
  one_put s e x on m AnswerShutdown = absurd (cc)

  -- all opening, and one more
  opening_push : (xs : List ChunkMeaning) (x : ChunkMeaning) → AreOpening xs → opens_or_ends x ≡ true → AreOpening (xs ++ x ∷ [])
  opening_push xs x all one y has = go (Has-cases xs (x ∷ []) y has)
    where
      go : Has xs y ⊎ Has (x ∷ []) y → opens_or_ends y ≡ true
      go (inl h) = all y h
      go (inr h) = one_opening x one y h

  puts : (ss : List Slot) (e : EndView) (xs zs : List ChunkMeaning) (full : Bool) (t : EndView) → ((s : Slot) → Has ss s → is_echo_slot s ≡ true) → Unmet e → AreOpening xs →
      Puts ss e xs zs full t → Unmet t × AreOpening zs
  puts ss e xs zs full t echo m all (NoMore _ _) = (m, all)
  puts ss e xs zs full t echo m all (NotDue _ more _ _ _ _ _ off rest) = puts more e xs zs full t (λ s h. echo s (inr h)) m all rest
  puts ss e xs zs full t echo m all (Put s more _ x _ _ _ _ due wants room rest) =
      let one = one_put s e x (echo s (inl refl)) m wants in
      puts more (once_built s e) (xs ++ x ∷ []) zs full t (λ s h. echo s (inr h)) one.0 (opening_push xs x all one.1) rest
  puts ss e xs zs full t echo m all (IsFull _ _ _ _ _ due wants room) = (m, all)

  both_echo : (s : Slot) → Has echoing_slots s → is_echo_slot s ≡ true
  unfolding is_echo_slot
  both_echo s (inl e) = ap is_echo_slot (sym e)
  both_echo s (inr (inl e)) = ap is_echo_slot (sym e)
  both_echo s (inr (inr h)) = absurd h

  pub waits_built : (e : EndView) (zs : List ChunkMeaning) (t : EndView) → Unmet e → Builds e zs t → Unmet t × AreOpening zs
  waits_built e zs t m (Sleeps none) = (m, λ x h. absurd h)
  waits_built e zs t m (Waits d is off) = (m, λ x h. absurd h)
  waits_built e zs t m (Calls d is on) = (still clock e t m (alike e t refl refl refl refl refl) m.unopened (home_like e _ m.home refl refl refl refl refl), one_opening _ refl)
  waits_built e zs t m (Echoes k cookie _ full _ is ps) = puts echoing_slots e [] zs full t both_echo m (λ x h. absurd h) ps
  waits_built e zs t m (EndsFull k g _ _ is ps) = absurd (open_now e.phase k g is m.unopened)
  waits_built e zs t m (Fills k g xs x is ps) = absurd (open_now e.phase k g is m.unopened)

  -- ---- the user

  not_established : (h : Phase) → never_opened h ≡ true → hears is_established h ≡ false
  not_established Idle off = refl
  not_established Listening off = refl
  not_established (Calling d) off = refl
  not_established (Echoing t xs) off = refl
  not_established (Open t g) off = absurd (cc)
  not_established (Over why) off = refl

  pub nothing_sent : (e : EndView) (c : Call) → Unmet e → send_answer e c ≡ NotOpen
  nothing_sent e c m = let off = not_established e.phase m.unopened in rw off refl

  pub waits_abandoned : (e : EndView) (k : ℕ) → Unmet e → Unmet (abandoned_at e k)
  waits_abandoned e k m = go (is_open e.phase)
    where
      go : (b : Bool) → Unmet (if b then after_abandoning e (abandon_after e.sender k) else record e { sender = abandon_after e.sender k })
      go true = becomes_abandoned e (abandon_after e.sender k) m (none_is_abandoned e m.blank k)
      go false = still clock e (record e { sender = abandon_after e.sender k }) m (alike e _ refl refl (none_is_abandoned e m.blank k) refl refl) m.unopened (home_like e _ m.home refl refl refl refl refl)

  pub waits_taken : (e : EndView) (s : ℕ) (h : Option Handed) (t : EndView) → Unmet e → UserTakes e s h t → Unmet t
  waits_taken e s h t m k = go h k.takes
    where
      go : (o : Option Handed) → TakeLeaves e.receiver s o k.receiver → Unmet t
      go None (none, same) = subst Unmet (sym k.leaves) (still clock e (updating (record e { receiver = k.receiver })) m (alike e _ refl refl refl same refl) m.unopened (home_like e _ m.home refl refl refl refl refl))
      go (Some x) (rest, there, same) = absurd (let q : e.receiver.waiting s ≡ [] = ap (λ (r : ReceiverView). r.waiting s) m.blank.receiver in cc)

  pub waits_reset : (e : EndView) (n : ℕ) → Unmet e → Unmet (reset_leaves (reset_call e n) e n)
  waits_reset e n m = go e.terms.reset (hears is_established e.phase) (nat_le e.sender.streams n) (not_established e.phase m.unopened)
    where
      go : (b h s : Bool) → h ≡ false → Unmet (reset_leaves (if not (b && h) then NotAgreed else if s then NoStream else Begun) e n)
      go true false s off = m
      go false false s off = m
      go b true s off = absurd (cc)

  pub waits_told : (e : EndView) → Unmet e → Unmet (told_leaves (reset_there e) e)
  waits_told e m = go (reset_there e) none
    where
      none_of : (xs : List ℕ) → find (λ (s : ℕ). false) xs ≡ None
      none_of [] = refl
      none_of (x ∷ xs) = none_of xs

      none : reset_there e ≡ None
      none = ap (λ (r : ReceiverView). find (λ (s : ℕ). is_some (r.resets.told s)) (count_up 0 r.streams)) m.blank.receiver ∙ none_of (count_up 0 e.terms.inbound)

      go : (o : Option ℕ) → o ≡ None → Unmet (told_leaves o e)
      go None is = m
      go (Some s) is = absurd (cc)

  pub waits_shut : (e : EndView) → Unmet e → Unmet (shut e)
  waits_shut e m = go e.phase m.unopened
    where
      go : (h : Phase) → never_opened h ≡ true → Unmet (shut_in h e)
      go Idle off = m
      go Listening off = m
      go (Calling d) off = m
      go (Echoing t xs) off = m
      go (Open t g) off = absurd (cc)
      go (Over why) off = m

  pub waits_aborted : (e : EndView) (a : AbortAnswer) → Unmet e → Unmet (abort_leaves a e)
  waits_aborted e (Aborts x) m = over clock e AbortedHere refl m
  waits_aborted e NoPeer m = m
  waits_aborted e TooLong m = m

  pub waits_called : (e : EndView) (d : Draw) → Unmet e → Unmet (called e d)
  waits_called e d m =
      let h = home_turned (Calling d) e in
      still clock e (called e d) m (alike e _ refl refl refl refl refl) refl (record { shutdown = h.shutdown; ack = h.ack; shutdown_runs = h.shutdown_runs; ack_runs = h.ack_runs })

-- a later clock
pub waits_longer : (clock later : ℕ) (e : EndView) → clock ≤ later → IsUnmet clock e → IsUnmet later e
waits_longer clock later e le m = record { blank = m.blank; unopened = m.unopened; home = m.home; moment = let b = m.moment in omega (arith, b, le) }
