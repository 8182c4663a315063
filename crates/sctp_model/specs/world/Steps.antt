-- STEP and RUN: every event with every way that it can go.
use Rattle.std.specs.Prelude.{◌≡◌, ℕ, ◌^◌, ◌<◌, max, true, false, ◌&&◌, List, [], ◌∷◌, ◌++◌, Option, None, Some, if◌then◌else◌}
use Rattle.sctp_model.specs.numbers.Lists.{at, item_at}
use Rattle.sctp_model.specs.wire.Chunk.{ChunkMeaning}
use Rattle.sctp_model.specs.wire.Packet.{Packet, size_of_packet}
use Rattle.sctp_model.specs.wire.Places.{ArePlaced}
use Rattle.sctp_model.specs.sender.Abandoning.{AbandonAnswer, gives_up}
use Rattle.sctp_model.specs.receiver.ReceiverView.{Handed}
use Rattle.sctp_model.specs.world.Calls.{Call}
use Rattle.sctp_model.specs.end.EndView.{Draw, IsDraw, EndView}
use Rattle.sctp_model.specs.end.Opening.{opened}
use Rattle.sctp_model.specs.end.Strays.{Verdict}
use Rattle.sctp_model.specs.end.Arriving.{Receives, IsCutShort}
use Rattle.sctp_model.specs.end.Building.{Builds, packet_of}
use Rattle.sctp_model.specs.end.Moments.{ticked}
use Rattle.sctp_model.specs.end.UserCalls.{Called, NotIdle, connect_answer, called, SendAnswer, Ticket, Refused, NotOpen, send_answer, send_leaves}
use Rattle.sctp_model.specs.end.UserCalls.{abandons, abandoned_at, UserTakes, reset_call, reset_leaves, reset_there, told_leaves, shutdown_answer, shut}
use Rattle.sctp_model.specs.end.UserCalls.{abort_answer, abort_leaves}
use Rattle.sctp_model.specs.world.World.{Side, A, B, other, are_alike, Log, World, end_of, bag_of, log_of, with_end, with_packet, with_log, end_now, came}
use Rattle.sctp_model.specs.world.World.{logged, logged_one, clock_of, with_clock}
use Rattle.sctp_model.specs.world.Events.{Event, OpenBoth, At, Drawing, Connect, Build, Deliver, Foreign, Send, Abandon, Take, Reset, WasReset, Shutdown}
use Rattle.sctp_model.specs.world.Events.{Abort, brings_packet, Outcome, Done, RefusedState, Sent, Quiet, Absent, Told, Fate, next_number, told}
use Rattle.sctp_model.specs.world.Events.{with_verdict, abort_told, with_abort, reset_told, resets_told, shutdown_told, message_told, Later, Moment}

-- ---- logs

-- an accepted call of `send` joins the log, a refused one doesn't
abbrev pub accepted : World → Side → SendAnswer → Call → Log
accepted w s (Ticket t) c = record (log_of w s) { calls = (log_of w s).calls ++ c ∷ [] }
accepted w s (Refused r) c = log_of w s
accepted w s NotOpen c = log_of w s

-- `abandon` was called with this ticket and answered so: the log names the ticket if the message is given up by it.
abbrev pub named_at : Log → AbandonAnswer → ℕ → Log
named_at l a ticket = record l { named = if gives_up a then at l.named ticket true else l.named }

-- ---- packets that arrive

-- The event brings this to the endpoint of this side: a packet of the bag across; a third party's, in which each chunk is where it may be; or a third
-- party's bytes that don't read.
pub data Brings (w : World) : Event → Side → Option Packet → Type 0 where
  FromBag : (s : Side) (n : ℕ) (p : Packet) → item_at (bag_of w s) n ≡ Some p → Brings w (Deliver s n) (other s) (Some p)
  FromStranger : (s : Side) (p : Packet) → ArePlaced p.chunks → Brings w (Foreign s (Some p)) s (Some p)
  NoPacket : (s : Side) → Brings w (Foreign s None) s None

-- ---- STEP

-- In the world `w` the event is answered so, and leaves the last world. None for an answer: an allocation failed. A packet is then cut short; any other
-- event has changed nothing.
pub data Step (w : World) : Event → Option Outcome → World → Type 0 where
  OpensBoth : (x y : Draw) → are_alike w.a.configuration w.b.configuration ≡ true → w.openable ≡ true → IsDraw x → IsDraw y →
      Step w (OpenBoth x y) (Some Done) (record w { a = opened w.a.configuration x y; b = opened w.b.configuration y x; openable = false })
  OpenRefused : (x y : Draw) → (w.openable && are_alike w.a.configuration w.b.configuration) ≡ false → Step w (OpenBoth x y) (Some RefusedState) w
  TimeGoesOn : (s : Side) (m : ℕ) → m < 2 ^ 64 → Step w (Later s m) (Some Done) (with_clock w s m)
  MomentComes : (s : Side) →
      Step w (Moment s) (Some Done) (with_log (with_end w s (ticked (end_of w s) (clock_of w s))) s (logged w s (ticked (end_of w s) (clock_of w s))))
  TimePasses : (m : ℕ) → m < 2 ^ 64 → Step w (At m) (Some Done) (record w {
    a = ticked w.a (max w.clock_a m);
    b = ticked w.b (max w.clock_b m);
    log_a = logged w A (ticked w.a (max w.clock_a m));
    log_b = logged w B (ticked w.b (max w.clock_b m));
    clock_a = max w.clock_a m;
    clock_b = max w.clock_b m;
  })
  Draws : (d : Draw) → IsDraw d → Step w (Drawing d) (Some Done) (record w { draw = d })
  Connects : (d : Draw) → IsDraw d → connect_answer w.a.phase ≡ Called →
      Step w (Connect d) (Some Done) (record w { a = called (end_now w A) d; openable = false })
  ConnectRefused : (d : Draw) → connect_answer w.a.phase ≡ NotIdle → Step w (Connect d) (Some RefusedState) w
  BuildsOne : (s : Side) (x : ChunkMeaning) (xs : List ChunkMeaning) (t : EndView) → Builds (end_now w s) (x ∷ xs) t →
      Step w (Build s) (Some (Sent (next_number w s) (size_of_packet (x ∷ xs)))) (with_packet (with_end w s t) s (packet_of (end_of w s) (x ∷ xs)))
  BuildsNone : (s : Side) (t : EndView) → Builds (end_now w s) [] t → Step w (Build s) (Some Quiet) (with_end w s t)
  PacketComes : (e : Event) (s : Side) (p : Option Packet) (t : EndView) (v : Verdict) → Brings w e s p → Receives (end_of w s) (clock_of w s) w.draw p t v →
      Step w e (Some (told w s v)) (with_verdict (came w s t) s v)
  IsAbsent : (s : Side) (n : ℕ) → item_at (bag_of w s) n ≡ None → Step w (Deliver s n) (Some Absent) w
  Sends : (s : Side) (c : Call) → Step w (Send s c) (Some (Told (send_answer (end_of w s) c)))
      (with_log (with_end w s (send_leaves (send_answer (end_of w s) c) (end_of w s) c)) s (accepted w s (send_answer (end_of w s) c) c))
  AbandonsOne : (s : Side) (k : ℕ) → Step w (Abandon s k) (Some (Fate (abandons (end_of w s) k)))
      (with_log (with_end w s (abandoned_at (end_of w s) k)) s (named_at (logged_one w s k (abandoned_at (end_of w s) k)) (abandons (end_of w s) k) k))
  TakesOne : (s : Side) (n : ℕ) (h : Option Handed) (t : EndView) → UserTakes (end_of w s) n h t →
      Step w (Take s n) (Some (message_told h)) (with_end w s t)
  ResetsOne : (s : Side) (n : ℕ) →
      Step w (Reset s n) (Some (reset_told (reset_call (end_of w s) n))) (with_end w s (reset_leaves (reset_call (end_of w s) n) (end_of w s) n))
  TellsReset : (s : Side) →
      Step w (WasReset s) (Some (resets_told (end_of w s) (reset_there (end_of w s)))) (with_end w s (told_leaves (reset_there (end_of w s)) (end_of w s)))
  ShutsDown : (s : Side) → Step w (Shutdown s) (Some (shutdown_told (shutdown_answer (end_of w s).phase))) (with_end w s (shut (end_of w s)))
  AbortsIt : (s : Side) (r : List ℕ) → Step w (Abort s r) (Some (abort_told w s (abort_answer (end_of w s) r)))
      (with_abort (with_end w s (abort_leaves (abort_answer (end_of w s) r) (end_of w s))) s (abort_answer (end_of w s) r))
  PacketCut : (e : Event) (s : Side) (p : Option Packet) (t : EndView) → Brings w e s p → IsCutShort (end_of w s) (clock_of w s) w.draw p t →
      Step w e None (came w s t)
  NoMemory : (e : Event) → brings_packet e ≡ false → Step w e None w

-- ---- RUN

-- A run: one step after another, with the answer to each event.
pub data Run : World → List Event → List (Option Outcome) → World → Type 0 where
  Rest : (last : World) → Run last [] [] last
  Then : (w next last : World) (e : Event) (es : List Event) (o : Option Outcome) (os : List (Option Outcome)) →
      Step w e o next → Run next es os last → Run w (e ∷ es) (o ∷ os) last

-- The same with its worlds: a run on from this world, and the world after each event.
abbrev pub PassesThrough : World → List Event → List (Option Outcome) → List World → Type 0
PassesThrough w [] [] [] = Unit {0}
PassesThrough w (e ∷ es) (o ∷ os) (v ∷ vs) = Step w e o v × PassesThrough v es os vs
PassesThrough w [] (o ∷ os) vs = ⊥
PassesThrough w [] [] (v ∷ vs) = ⊥
PassesThrough w (e ∷ es) [] vs = ⊥
PassesThrough w (e ∷ es) (o ∷ os) [] = ⊥

-- where it ends: in the last of these worlds, or where it began
abbrev pub last_of : World → List World → World
last_of w [] = w
last_of w (v ∷ vs) = last_of v vs
