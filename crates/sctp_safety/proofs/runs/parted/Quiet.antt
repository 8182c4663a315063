-- What takes no packet leaves what an endpoint knows of its peer's requests.
use Rattle.std.proofs.Common.{◌≡◌, ℕ, ◌&&◌, ◌||◌, not, Bool, true, false, List, Option, Some, None, refl, sym, ap, ◌∙◌}
use Rattle.std.specs.Prelude.{◌==◌, if◌then◌else◌}
use Rattle.sctp_model.specs.wire.Chunk.{ChunkMeaning}
use Rattle.sctp_model.specs.world.Calls.{Call}
use Rattle.sctp_model.specs.sender.SenderView.{SenderView}
use Rattle.sctp_model.specs.sender.Resetting.{may_ask}
use Rattle.sctp_model.specs.sender.Readers.{point}
use Rattle.sctp_model.specs.sender.Abandoning.{abandon_after}
use Rattle.sctp_model.specs.receiver.ReceiverView.{Handed, ReceiverView}
use Rattle.sctp_model.specs.receiver.SackMade.{TakeLeaves}
use Rattle.sctp_model.specs.end.EndView.{Phase, Established, ShutdownPending, ShutdownSent, ShutdownReceived, ShutdownAckSent, Idle, Listening, Calling, Echoing, Open, Over, ResetAlarm, EndView}
use Rattle.sctp_model.specs.end.Clock.{is_home, settled, turned}
use Rattle.sctp_model.specs.end.Reconfiguring.{asking_now, asking}
use Rattle.sctp_model.specs.end.Building.{Slot, Puts, NoMore, NotDue, Put, IsFull, Builds, Sleeps, Waits, Calls, Echoes, EndsFull, Fills, EchoSlot, CookieAckSlot, HeartbeatSlot, BeatSlot, ErrorSlot, SackSlot, ForwardSlot, ShutdownSlot, ShutdownAckSlot, once_built, AnswerSlot, RequestSlot}
use Rattle.sctp_model.specs.end.Moments.{after_abandoning}
use Rattle.sctp_model.specs.end.UserCalls.{SendAnswer, Ticket, Refused, NotOpen, send_leaves, is_open, abandoned_at, shut_in, shut, AbortAnswer, Aborts, NoPeer, TooLong, abort_leaves, UserTakes}
use Rattle.sctp_safety.proofs.runs.Pair.{views_rested}
use Rattle.sctp_safety.proofs.runs.ResetFacts.{IsNoted, noted_received}

-- the same is known of them
pub record IsQuiet (r t : ReceiverView) : Type 0 where
  pub initial : t.initial ≡ r.initial
  pub streams : t.streams ≡ r.streams
  pub waited : t.resets.waited ≡ r.resets.waited
  pub result : t.resets.result ≡ r.resets.result
  pub taken : t.resets.taken ≡ r.resets.taken

pub quiet_same : (r t : ReceiverView) → t ≡ r → IsQuiet r t
quiet_same r t is = record {
  initial = ap (λ (x : ReceiverView). x.initial) is;
  streams = ap (λ (x : ReceiverView). x.streams) is;
  waited = ap (λ (x : ReceiverView). x.resets.waited) is;
  result = ap (λ (x : ReceiverView). x.resets.result) is;
  taken = ap (λ (x : ReceiverView). x.resets.taken) is;
}

quiet_on : (r t u : ReceiverView) → IsQuiet r t → IsQuiet t u → IsQuiet r u
quiet_on r t u a b = record {
  initial = b.initial ∙ a.initial;
  streams = b.streams ∙ a.streams;
  waited = b.waited ∙ a.waited;
  result = b.result ∙ a.result;
  taken = b.taken ∙ a.taken;
}

-- so what is noted was noted before
pub quiet_noted : (a : SenderView) (r t : ReceiverView) (s : ℕ) → IsQuiet r t → IsNoted a t s → IsNoted a r s
quiet_noted a r t s q k = noted_received a t r s (sym q.initial) (sym q.streams) (sym q.waited) (sym q.result) (sym q.taken) k

-- ---- a packet that is built

built_quiet : (s : Slot) (e : EndView) → IsQuiet e.receiver (once_built s e).receiver
built_quiet EchoSlot e = quiet_same e.receiver _ refl
built_quiet CookieAckSlot e = quiet_same e.receiver _ refl
built_quiet HeartbeatSlot e = quiet_same e.receiver _ refl
built_quiet BeatSlot e = quiet_same e.receiver _ refl
built_quiet ErrorSlot e = quiet_same e.receiver _ refl
built_quiet SackSlot e = record { initial = refl; streams = refl; waited = refl; result = refl; taken = refl }
built_quiet ForwardSlot e = quiet_same e.receiver _ refl
built_quiet AnswerSlot e = record { initial = refl; streams = refl; waited = refl; result = refl; taken = refl }
built_quiet RequestSlot e = quiet_same e.receiver _ refl
built_quiet ShutdownSlot e = quiet_same e.receiver _ refl
built_quiet ShutdownAckSlot e = quiet_same e.receiver _ refl

puts_quiet : (ss : List Slot) (e : EndView) (xs zs : List ChunkMeaning) (full : Bool) (t : EndView) → Puts ss e xs zs full t → IsQuiet e.receiver t.receiver
puts_quiet ss e xs zs full t (NoMore _ _) = quiet_same e.receiver _ refl
puts_quiet ss e xs zs full t (NotDue _ more _ _ _ _ _ off rest) = puts_quiet more e xs zs full t rest
puts_quiet ss e xs zs full t (Put s more _ x _ _ _ _ due wants room rest) =
    quiet_on e.receiver (once_built s e).receiver t.receiver (built_quiet s e) (puts_quiet more (once_built s e) _ zs full t rest)
puts_quiet ss e xs zs full t (IsFull _ _ _ _ _ due wants room) = quiet_same e.receiver _ refl

asking_quiet : (e : EndView) → IsQuiet e.receiver (asking e).receiver
asking_quiet e = go (e.terms.reset && (is_home ResetAlarm e.phase && may_ask e.sender))
  where
    go : (b : Bool) → IsQuiet e.receiver (asking_now b e).receiver
    go true = quiet_same e.receiver _ refl
    go false = quiet_same e.receiver _ refl

pub builds_quiet : (e : EndView) (zs : List ChunkMeaning) (t : EndView) → Builds e zs t → IsQuiet e.receiver t.receiver
builds_quiet e zs t (Sleeps _) = quiet_same e.receiver _ refl
builds_quiet e zs t (Waits _ _ _) = quiet_same e.receiver _ refl
builds_quiet e zs t (Calls _ _ _) = quiet_same e.receiver _ refl
builds_quiet e zs t (Echoes _ _ _ full _ is puts) = puts_quiet _ e _ zs full t puts
builds_quiet e zs t (EndsFull _ _ _ _ is puts) = quiet_on e.receiver (asking e).receiver t.receiver (asking_quiet e) (puts_quiet _ (asking e) _ zs true t puts)
builds_quiet e zs t (Fills _ _ ys x is puts) = quiet_on e.receiver (asking e).receiver x.receiver (asking_quiet e) (puts_quiet _ (asking e) _ ys false x puts)

-- ---- calls

pub sent_quiet : (a : SendAnswer) (e : EndView) (c : Call) → IsQuiet e.receiver (send_leaves a e c).receiver
sent_quiet (Ticket t) e c = quiet_same e.receiver _ refl
sent_quiet (Refused r) e c = quiet_same e.receiver _ refl
sent_quiet NotOpen e c = quiet_same e.receiver _ refl

pub abandoned_quiet : (e : EndView) (n : ℕ) → IsQuiet e.receiver (abandoned_at e n).receiver
abandoned_quiet e n = go (is_open e.phase)
  where
    x : EndView
    x = settled (record e { sender = abandon_after e.sender n; due = record e.due { forward = e.due.forward || not (point (abandon_after e.sender n) == point e.sender) } })

    go : (b : Bool) → IsQuiet e.receiver (if b then after_abandoning e (abandon_after e.sender n) else record e { sender = abandon_after e.sender n }).receiver
    go true = quiet_same e.receiver _ (views_rested x).receiver
    go false = quiet_same e.receiver _ refl

pub taken_quiet : (e : EndView) (s : ℕ) (h : Option Handed) (t : EndView) → UserTakes e s h t → IsQuiet e.receiver t.receiver
taken_quiet e s h t takes = quiet_on e.receiver takes.receiver t.receiver (by h takes.takes) (quiet_same takes.receiver t.receiver (ap (λ (x : EndView). x.receiver) takes.leaves))
  where
    by : (h : Option Handed) → TakeLeaves e.receiver s h takes.receiver → IsQuiet e.receiver takes.receiver
    by None (none, is) = quiet_same e.receiver takes.receiver is
    by (Some h) (rest, there, is) = record {
      initial = ap (λ (x : ReceiverView). x.initial) is;
      streams = ap (λ (x : ReceiverView). x.streams) is;
      waited = ap (λ (x : ReceiverView). x.resets.waited) is;
      result = ap (λ (x : ReceiverView). x.resets.result) is;
      taken = ap (λ (x : ReceiverView). x.resets.taken) is;
    }

pub shut_quiet : (e : EndView) → IsQuiet e.receiver (shut e).receiver
shut_quiet e = go e.phase
  where
    go : (h : Phase) → IsQuiet e.receiver (shut_in h e).receiver
    go (Open t Established) = quiet_same e.receiver _ (views_rested (turned (Open t ShutdownPending) e)).receiver
    go (Open t ShutdownPending) = quiet_same e.receiver _ refl
    go (Open t ShutdownSent) = quiet_same e.receiver _ refl
    go (Open t ShutdownReceived) = quiet_same e.receiver _ refl
    go (Open t ShutdownAckSent) = quiet_same e.receiver _ refl
    go Idle = quiet_same e.receiver _ refl
    go Listening = quiet_same e.receiver _ refl
    go (Calling d) = quiet_same e.receiver _ refl
    go (Echoing t xs) = quiet_same e.receiver _ refl
    go (Over why) = quiet_same e.receiver _ refl

pub aborted_quiet : (e : EndView) (a : AbortAnswer) → IsQuiet e.receiver (abort_leaves a e).receiver
aborted_quiet e (Aborts x) = quiet_same e.receiver _ refl
aborted_quiet e NoPeer = quiet_same e.receiver _ refl
aborted_quiet e TooLong = quiet_same e.receiver _ refl
