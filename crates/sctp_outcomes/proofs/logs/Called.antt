-- What the user's calls note.
use Rattle.std.proofs.Common.{◌≡◌, ℕ, Bool, true, false, List, [], ◌∷◌, Option, Some, None, refl, sym, subst, ap, ◌∙◌, arith, not, ◌&&◌}
use Rattle.std.specs.Prelude.{if◌then◌else◌, find, nat_le, is_some}
use Rattle.sctp_model.specs.sender.Queueing.{Refusal, refusal}
use Rattle.sctp_model.specs.sender.Abandoning.{abandon_after}
use Rattle.sctp_model.specs.receiver.ReceiverView.{Handed, ReceiverView}
use Rattle.sctp_model.specs.receiver.SackMade.{TakeLeaves}
use Rattle.sctp_model.specs.end.EndView.{AbortedHere, Phase, Idle, Listening, Calling, Echoing, Open, Over, Established, ShutdownPending, ShutdownSent, ShutdownReceived, ShutdownAckSent, EndView}
use Rattle.sctp_model.specs.end.Clock.{closed, turned}
use Rattle.sctp_model.specs.end.Closing.{hears, rested}
use Rattle.sctp_model.specs.end.Moments.{after_abandoning}
use Rattle.sctp_model.specs.end.UserCalls.{updating, Called, connect_answer, Aborts, NoPeer, TooLong, is_established, answer_for, NotOpen, send_leaves, is_open, shut_in, Begun, NotAgreed, NoStream, reset_leaves, reset_there, told_leaves}
use Rattle.sctp_outcomes.specs.Kept.{is_before, IsSound, IsUnused, KeepsLogs, ConnectKeepsLogs, ShutdownKeepsLogs, AbortKeepsLogs, AbandonKeepsLogs, SendNotes, SendGivesTickets, TakeNotes, TakeTakesOne, ResetKeepsLogs, ToldKeepsLogs}
use Rattle.sctp_outcomes.proofs.logs.Senders.{abandoned_keeps}
use Rattle.sctp_outcomes.proofs.logs.Ends.{abandoning_keeps, never, heard_after, keeps_itself, keeps_on, same_keeps, sender_keeps, rested_keeps, joined_keeps}
use Rattle.sctp_model.specs.sender.Words.{count_up}

-- ---- connect, shutdown, abort

-- who may call has no association
idle_before : (h : Phase) → connect_answer h ≡ Called → is_before h ≡ true
idle_before Idle is = refl
idle_before Listening is = refl
idle_before (Calling d) is = refl
idle_before (Echoing t xs) is = absurd (cc)
idle_before (Open t g) is = absurd (cc)
idle_before (Over why) is = absurd (cc)

pub connect_keeps_logs : ConnectKeepsLogs
connect_keeps_logs e now d s may = same_keeps e _ refl refl refl (λ on. idle_before e.phase may) s

pub shutdown_keeps_logs : ShutdownKeepsLogs
shutdown_keeps_logs e s = go e.phase
  where
    go : (h : Phase) → KeepsLogs e (shut_in h e)
    go (Open t Established) =
        let mid = turned (Open t ShutdownPending) e in
        let first = same_keeps e mid refl refl refl (λ on. absurd (cc)) s in
        keeps_on e mid (rested mid) first (rested_keeps mid first.sound)
    go (Open t ShutdownPending) = keeps_itself e s
    go (Open t ShutdownSent) = keeps_itself e s
    go (Open t ShutdownReceived) = keeps_itself e s
    go (Open t ShutdownAckSent) = keeps_itself e s
    go Idle = keeps_itself e s
    go Listening = keeps_itself e s
    go (Calling d) = keeps_itself e s
    go (Echoing t xs) = keeps_itself e s
    go (Over why) = keeps_itself e s

pub abort_keeps_logs : AbortKeepsLogs
abort_keeps_logs e (Aborts p) s = same_keeps e (closed AbortedHere e) refl refl refl (λ on. absurd (cc)) s
abort_keeps_logs e NoPeer s = keeps_itself e s
abort_keeps_logs e TooLong s = keeps_itself e s

-- ---- abandon

pub abandon_keeps_logs : AbandonKeepsLogs
abandon_keeps_logs e k s = go (is_open e.phase)
  where
    go : (b : Bool) → KeepsLogs e (if b then after_abandoning e (abandon_after e.sender k) else record e { sender = abandon_after e.sender k })
    go true = abandoning_keeps e (abandon_after e.sender k) (abandoned_keeps e.sender k) s
    go false = sender_keeps e _ (abandoned_keeps e.sender k) refl refl refl s

-- ---- send

pub send_gives_tickets : SendGivesTickets
send_gives_tickets e c s = by_state (hears is_established e.phase) refl
  where
    by_reason : (o : Option Refusal) → hears is_established e.phase ≡ true → SendNotes (answer_for e o) e (send_leaves (answer_for e o) e c)
    by_reason None on = record {
      sound = record { bare = λ before. never (heard_after is_established e.phase on) before; buffer = s.buffer; named = s.named };
      grown = omega arith;
      numbers = refl;
      tickets = refl;
      taken = refl;
    }
    by_reason (Some r) on = keeps_itself e s

    by_state : (b : Bool) → hears is_established e.phase ≡ b
        → SendNotes (if b then answer_for e (refusal e.sender c.lane.stream c.bytes) else NotOpen) e (send_leaves (if b then answer_for e (refusal e.sender c.lane.stream c.bytes) else NotOpen) e c)
    by_state true on = by_reason (refusal e.sender c.lane.stream c.bytes) on
    by_state false off = keeps_itself e s

-- ---- take

-- a stream is reset with an association
pub reset_keeps_logs : ResetKeepsLogs
reset_keeps_logs e n s = go e.terms.reset (hears is_established e.phase) (nat_le e.sender.streams n) refl
  where
    begun : hears is_established e.phase ≡ true → KeepsLogs e (reset_leaves Begun e n)
    begun on = joined_keeps e (reset_leaves Begun e n) refl refl (record { taken = refl; buffer = refl }) refl (heard_after is_established e.phase on) s

    go : (b h w : Bool) → hears is_established e.phase ≡ h → KeepsLogs e (reset_leaves (if not (b && h) then NotAgreed else if w then NoStream else Begun) e n)
    go false h w is = keeps_itself e s
    go true false w is = keeps_itself e s
    go true true true is = keeps_itself e s
    go true true false is = begun is

-- before an association no reset arrived
pub told_keeps_logs : ToldKeepsLogs
told_keeps_logs e s = go (reset_there e) refl (is_before e.phase) refl
  where
    none_of : (xs : List ℕ) → find (λ (x : ℕ). false) xs ≡ None
    none_of [] = refl
    none_of (x ∷ xs) = none_of xs

    none : is_before e.phase ≡ true → reset_there e ≡ None
    none before = ap (λ (r : ReceiverView). find (λ (x : ℕ). is_some (r.resets.told x)) (count_up 0 r.streams)) (s.bare before).receiver ∙ none_of (count_up 0 0)

    go : (o : Option ℕ) → reset_there e ≡ o → (b : Bool) → is_before e.phase ≡ b → KeepsLogs e (told_leaves o e)
    go None is b at = keeps_itself e s
    go (Some n) is true at = absurd (let q : Some n ≡ None = sym is ∙ none at in cc)
    go (Some n) is false at = joined_keeps e (told_leaves (Some n) e) refl refl (record { taken = refl; buffer = refl }) refl at s

-- nothing waits before an association
nothing_waits : (e : EndView) (n : ℕ) (h : Handed) (rest : List Handed) → IsUnused e → e.receiver.waiting n ≡ h ∷ rest → ⊥
nothing_waits e n h rest u waits = let q : [] ≡ h ∷ rest = subst (λ (r : ReceiverView). r.waiting n ≡ h ∷ rest) u.receiver waits in absurd (cc)

take_notes : (e : EndView) (n : ℕ) (h : Option Handed) (r : ReceiverView) → IsSound e → TakeLeaves e.receiver n h r → TakeNotes h n e (updating (record e { receiver = r }))
take_notes e n None r s (none, is) = same_keeps e _ refl is refl (λ on. on) s
take_notes e n (Some h) r s (rest, waits, is) = record {
  sound = record { bare = λ on. absurd (nothing_waits e n h rest (s.bare on) waits); buffer = ap (λ (x : ReceiverView). x.buffer) is ∙ s.buffer; named = s.named };
  grown = omega arith;
  numbers = refl;
  tickets = refl;
  taken = ap (λ (x : ReceiverView). x.taken) is;
}

pub take_takes_one : TakeTakesOne
take_takes_one e n h t s takes = subst (TakeNotes h n e) (sym takes.leaves) (take_notes e n h takes.receiver s takes.takes)
