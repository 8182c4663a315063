-- What a call makes: one packet arrives at most, and finds no reset left to be told.
use Rattle.std.proofs.Common.{◌≡◌, ◌⊎◌, ℕ, ◌≤◌, ◌==◌, not, Bool, true, false, List, [], ◌∷◌, ◌++◌, length, Option, Some, None, inl, inr, refl, sym, subst, ap, ◌∙◌, arith, if◌then◌else◌}
use Rattle.std.proofs.lemmas.Bool.{cases_lt}
use Rattle.sctp_model.specs.wire.Packet.{Packet}
use Rattle.sctp_model.specs.receiver.ReceiverView.{Handed, ReceiverView}
use Rattle.sctp_model.specs.receiver.SackMade.{TakeLeaves}
use Rattle.sctp_model.specs.end.EndView.{EndView}
use Rattle.sctp_model.specs.end.UserCalls.{SendAnswer, Ticket, Refused, NotOpen, send_answer, send_leaves, UserTakes, ResetCall, Begun, NotAgreed, NoStream, reset_call, reset_leaves, reset_there, told_leaves}
use Rattle.sctp_model.specs.world.Calls.{Call}
use Rattle.sctp_model.specs.world.World.{Side, A, B, other, World, end_of}
use Rattle.sctp_model.specs.world.Events.{Event, OpenBoth, Later, Moment, At, Drawing, Connect, Build, Deliver, Foreign, Send, Abandon, Take, Reset, WasReset, Shutdown, Abort, Outcome}
use Rattle.sctp_model.specs.world.Steps.{Step, OpensBoth, OpenRefused, TimeGoesOn, MomentComes, TimePasses, Draws, Connects, ConnectRefused, BuildsOne, BuildsNone, PacketComes, PacketCut, IsAbsent, Sends, AbandonsOne, TakesOne, ResetsOne, TellsReset, ShutsDown, AbortsIt, NoMemory, Brings, FromBag, FromStranger, NoPacket, PassesThrough, last_of}
use Rattle.sctp_safety.proofs.machine.OneEnd.{IsAt, at_end, at_log}
use Rattle.sctp_outcomes.specs.AllReported.{arrives_at, NoneIsLeft, HearsToldOnly}
use Rattle.sctp_channels.specs.Driven.{is_call}
use Rattle.sctp_channels.specs.Making.{others_in, IsAllNoted}

-- ---- a call of the user leaves no reset to be told

left_same : (n : ℕ) (e t : EndView) → t.receiver ≡ e.receiver → NoneIsLeft e n → NoneIsLeft t n
left_same n e t is h = subst (λ (r : ReceiverView). (r.resets.told n ≡ None) ⊎ (r.streams ≤ n)) (sym is) h

left_sent : (n : ℕ) (a : SendAnswer) (e : EndView) (c : Call) → NoneIsLeft e n → NoneIsLeft (send_leaves a e c) n
left_sent n (Ticket t) e c h = h
left_sent n (Refused r) e c h = h
left_sent n NotOpen e c h = h

left_reset : (n : ℕ) (a : ResetCall) (e : EndView) (s : ℕ) → NoneIsLeft e n → NoneIsLeft (reset_leaves a e s) n
left_reset n Begun e s h = h
left_reset n NotAgreed e s h = h
left_reset n NoStream e s h = h

left_told : (n : ℕ) (o : Option ℕ) (e : EndView) → NoneIsLeft e n → NoneIsLeft (told_leaves o e) n
left_told n None e h = h
left_told n (Some i) e (inr beyond) = inr beyond
left_told n (Some i) e (inl none) = inl (go (n == i))
  where
    go : (b : Bool) → (if b then None else e.receiver.resets.told n) ≡ None
    go true = refl
    go false = none

left_taken : (n s : ℕ) (h : Option Handed) (e t : EndView) → UserTakes e s h t → NoneIsLeft e n → NoneIsLeft t n
left_taken n s h e t takes left = subst (λ (u : EndView). NoneIsLeft u n) (sym takes.leaves) (by h takes.takes)
  where
    by : (h : Option Handed) → TakeLeaves e.receiver s h takes.receiver → NoneIsLeft (record e { receiver = takes.receiver }) n
    by None (none, is) = left_same n e (record e { receiver = takes.receiver }) is left
    by (Some h) (rest, there, is) = subst (λ (r : ReceiverView). (r.resets.told n ≡ None) ⊎ (r.streams ≤ n)) (sym is) left

left_at : (n : ℕ) (w v : World) (s : Side) (t : EndView) (given : Option Packet) → IsAt w v s t given → (NoneIsLeft (end_of w s) n → NoneIsLeft t n) → (z : Side) → NoneIsLeft (end_of w z) n → NoneIsLeft (end_of v z) n
left_at n w v A t given is up A h = subst (λ (u : EndView). NoneIsLeft u n) (sym is.here) (up h)
left_at n w v B t given is up B h = subst (λ (u : EndView). NoneIsLeft u n) (sym is.here) (up h)
left_at n w v A t given is up B h = subst (λ (u : EndView). NoneIsLeft u n) (sym is.there) h
left_at n w v B t given is up A h = subst (λ (u : EndView). NoneIsLeft u n) (sym is.there) h

packet_no_call : (w : World) (e : Event) (z : Side) (o : Option Packet) → Brings w e z o → (y : Side) → is_call y e ≡ false
packet_no_call w e z o (FromBag _ _ _ _) y = refl
packet_no_call w e z o (FromStranger _ _ _) y = refl
packet_no_call w e z o (NoPacket _) y = refl

call_left : (y z : Side) (n : ℕ) (w : World) (e : Event) (o : Option Outcome) (v : World) → Step w e o v → is_call y e ≡ true → NoneIsLeft (end_of w z) n → NoneIsLeft (end_of v z) n
call_left y z n w e o v (OpensBoth _ _ _ _ _ _) on h = absurd (cc)
call_left y z n w e o v (OpenRefused _ _ _) on h = h
call_left y z n w e o v (TimeGoesOn s m small) on h = absurd (cc)
call_left y z n w e o v (MomentComes s) on h = absurd (cc)
call_left y z n w e o v (TimePasses m small) on h = absurd (cc)
call_left y z n w e o v (Draws d dd) on h = absurd (cc)
call_left y z n w e o v (Connects d dd answer) on h = absurd (cc)
call_left y z n w e o v (ConnectRefused d answer) on h = h
call_left y z n w e o v (BuildsOne s c cs t b) on h = absurd (cc)
call_left y z n w e o v (BuildsNone s t b) on h = absurd (cc)
call_left y z n w e o v (PacketComes _ s p t d brings received) on h = absurd (let off = packet_no_call w e s p brings y in cc (off, on))
call_left y z n w e o v (PacketCut _ s p t brings cut) on h = absurd (let off = packet_no_call w e s p brings y in cc (off, on))
call_left y z n w e o v (IsAbsent s i none) on h = h
call_left y z n w e o v (Sends s c) on h = left_at n w v s _ None (at_log w s _ _) (left_sent n (send_answer (end_of w s) c) (end_of w s) c) z h
call_left y z n w e o v (AbandonsOne s i) on h = absurd (cc)
call_left y z n w e o v (TakesOne s m g t takes) on h = left_at n w v s t None (at_end w s t) (left_taken n m g (end_of w s) t takes) z h
call_left y z n w e o v (ResetsOne s m) on h = left_at n w v s _ None (at_end w s _) (left_reset n (reset_call (end_of w s) m) (end_of w s) m) z h
call_left y z n w e o v (TellsReset s) on h = left_at n w v s _ None (at_end w s _) (left_told n (reset_there (end_of w s)) (end_of w s)) z h
call_left y z n w e o v (ShutsDown s) on h = absurd (cc)
call_left y z n w e o v (AbortsIt s why) on h = absurd (cc)
call_left y z n w e o v (NoMemory _ other_event) on h = h

-- no packet arrives by it
call_quiet : (y z : Side) (e : Event) → is_call y e ≡ true → arrives_at z e ≡ false
call_quiet y z (OpenBoth a b) on = refl
call_quiet y z (Later s m) on = refl
call_quiet y z (Moment s) on = refl
call_quiet y z (At m) on = refl
call_quiet y z (Drawing d) on = refl
call_quiet y z (Connect d) on = refl
call_quiet y z (Build s) on = refl
call_quiet y z (Deliver s k) on = absurd (cc)
call_quiet y z (Foreign s p) on = absurd (cc)
call_quiet y z (Send s c) on = refl
call_quiet y z (Abandon s k) on = refl
call_quiet y z (Take s k) on = refl
call_quiet y z (Reset s k) on = refl
call_quiet y z (WasReset s) on = refl
call_quiet y z (Shutdown s) on = refl
call_quiet y z (Abort s r) on = refl

-- ---- what a call makes

module _ (y z : Side) (n : ℕ) where
  -- calls of the user alone
  hears_calls : (w : World) (es : List Event) (os : List (Option Outcome)) (vs : List World) → PassesThrough w es os vs → length (others_in y es) ≤ 0 → HearsToldOnly z n w es vs
  hears_calls w [] os vs passes none = tt
  hears_calls w (e ∷ es) (o ∷ os) (v ∷ vs) (step, passes) none = go (is_call y e) refl none (λ few. hears_calls v es os vs passes few)
    where
      go : (b : Bool) → is_call y e ≡ b → length (if not b then e ∷ others_in y es else others_in y es) ≤ 0 → (length (others_in y es) ≤ 0 → HearsToldOnly z n v es vs) → HearsToldOnly z n w (e ∷ es) (v ∷ vs)
      go true on few further = (inl (call_quiet y z e on), further few)
      go false off few further = absurd (omega (arith, few))
  hears_calls w (e ∷ es) [] vs passes none = absurd passes
  hears_calls w (e ∷ es) (o ∷ os) [] passes none = absurd passes

  -- and one event more
  pub hears_once : (w : World) (es : List Event) (os : List (Option Outcome)) (vs : List World) → PassesThrough w es os vs → length (others_in y es) ≤ 1 → NoneIsLeft (end_of w z) n → HearsToldOnly z n w es vs
  hears_once w [] os vs passes few left = tt
  hears_once w (e ∷ es) (o ∷ os) (v ∷ vs) (step, passes) few left = go (is_call y e) refl few (λ less kept. hears_once v es os vs passes less kept)
    where
      go : (b : Bool) → is_call y e ≡ b → length (if not b then e ∷ others_in y es else others_in y es) ≤ 1 → (length (others_in y es) ≤ 1 → NoneIsLeft (end_of v z) n → HearsToldOnly z n v es vs) →
          HearsToldOnly z n w (e ∷ es) (v ∷ vs)
      go true on some further = (inl (call_quiet y z e on), further some (call_left y z n w e o v step on left))
      go false off some further = (inr left, hears_calls v es os vs passes (omega (arith, some)))
  hears_once w (e ∷ es) [] vs passes few left = absurd passes
  hears_once w (e ∷ es) (o ∷ os) [] passes few left = absurd passes

-- ---- one run after the other

pub hears_on : (z : Side) (n : ℕ) (w : World) (es : List Event) (os : List (Option Outcome)) (vs : List World) (fs : List Event) (us : List World) → PassesThrough w es os vs → HearsToldOnly z n w es vs →
    HearsToldOnly z n (last_of w vs) fs us → HearsToldOnly z n w (es ++ fs) (vs ++ us)
hears_on z n w [] [] [] fs us passes first later = later
hears_on z n w (e ∷ es) (o ∷ os) (v ∷ vs) fs us (step, passes) (now, first) later = (now, hears_on z n v es os vs fs us passes first later)
hears_on z n w [] (o ∷ os) vs fs us passes first later = absurd passes
hears_on z n w [] [] (v ∷ vs) fs us passes first later = absurd passes
hears_on z n w (e ∷ es) [] vs fs us passes first later = absurd passes
hears_on z n w (e ∷ es) (o ∷ os) [] fs us passes first later = absurd passes

-- where resets are noted none is left
pub none_left : (v : EndView) (n : ℕ) → IsAllNoted v → NoneIsLeft v n
none_left v n all = elim (cases_lt n v.receiver.streams) [ inl lt ↦ inl (all.there n lt) | inr le ↦ inr le ]
