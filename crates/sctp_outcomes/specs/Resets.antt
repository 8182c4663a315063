-- Stream reset at each endpoint (RFC 6525, 5): no request is forgotten, a stream that is ready is asked for, and what is reported of a reset was so when a
-- request was performed.
use Rattle.std.specs.Prelude.{◌≡◌, ◌⊎◌, ℕ, ◌≤◌, true, false, List, [], ◌∷◌, ◌++◌, length, drop, Option, Some, is_some}
use Rattle.sctp_model.specs.numbers.Lists.{Has}
use Rattle.sctp_model.specs.wire.Chunk.{ChunkMeaning, Unknown}
use Rattle.sctp_model.specs.wire.Packet.{Packet}
use Rattle.sctp_model.specs.wire.Typed.{Typed, typed_in}
use Rattle.sctp_model.specs.wire.Reconfig.{OUTGOING_RESET, ResetMeaning, Performed, reconfig_chunk, reset_item, reset_read, is_parameter}
use Rattle.sctp_model.specs.sender.Outgoing.{Request}
use Rattle.sctp_model.specs.sender.Resetting.{named_next, may_ask, asked, request_said}
use Rattle.sctp_model.specs.receiver.ReceiverView.{ReceiverView, handed, IsCumulative}
use Rattle.sctp_model.specs.receiver.ResetTaken.{names, reset_answer, is_in_turn, last_finished, old_waiting, was_performed}
use Rattle.sctp_model.specs.end.Sealing.{Body}
use Rattle.sctp_model.specs.end.EndView.{Tags, Established, Open, ResetAlarm, EndView, has_association}
use Rattle.sctp_model.specs.end.Closing.{rested}
use Rattle.sctp_model.specs.end.PeerFaults.{Note, GoesOn, PassedOver}
use Rattle.sctp_model.specs.end.Opening.{begun}
use Rattle.sctp_model.specs.end.Acting.{Acts}
use Rattle.sctp_model.specs.end.Reconfiguring.{parameter_heard, takes_reconfig}
use Rattle.sctp_model.specs.end.Passing.{has_ports, passes}
use Rattle.sctp_model.specs.end.Strays.{Verdict, opened_by}
use Rattle.sctp_model.specs.end.Arriving.{Arrives, cut_to, is_answer}
use Rattle.sctp_model.specs.end.Building.{Slot, is_due, Wants, has_room, Builds}
use Rattle.sctp_model.specs.world.World.{Side, World, end_of, end_now, Setup, start}
use Rattle.sctp_model.specs.world.Events.{Event, Outcome}
use Rattle.sctp_model.specs.world.Steps.{Brings, Run, PassesThrough, last_of}

-- ---- requests

-- In every world of every run, also of one that meets no premise, an established endpoint whose request waits for its answer is to send it, or its timer runs
-- (RFC 6525, 5.1.1).
abbrev pub NoRequestIsForgotten : Type 0
NoRequestIsForgotten = (s : Setup) (events : List Event) (answers : List (Option Outcome)) (w : World) → Run (start s) events answers w →
    (x : Side) (t : Tags) → (end_of w x).phase ≡ Open t Established → is_some (end_of w x).sender.resets.pending ≡ true →
    ((end_of w x).due.request ≡ true) ⊎ (is_some ((end_of w x).timers ResetAlarm).expiry ≡ true)

-- Something is due at this endpoint, and its chunk has no space after these.
pub record IsPacketFull (xs : List ChunkMeaning) (t : EndView) : Type 0 where
  pub slot : Slot
  pub chunk : ChunkMeaning
  pub due : is_due slot t ≡ true
  pub wants : Wants t slot chunk
  pub room : has_room t xs chunk ≡ false

-- The packet has this request, with its number and its last TSN, and repeats the number of the last one of the peer that is finished; or it is full without
-- it: then it is due still.
pub data IsSaidOrDue (e : EndView) (q : Request) (xs : List ChunkMeaning) (t : EndView) : Type 0 where
  IsInPacket : Has xs (reconfig_chunk (reset_item (last_finished e.receiver) (request_said (asked e.sender) q) ∷ [])) → IsSaidOrDue e q xs t
  IsDueStill : IsPacketFull xs t → t.due.request ≡ true → IsSaidOrDue e q xs t

-- This endpoint builds this packet, and is left so: it makes this request, for the streams that are ready, up to the last index assigned; that is outstanding,
-- and said or due. If it said the same as the last one, it names the first stream twice.
pub record AsksFor (e : EndView) (q : Request) (xs : List ChunkMeaning) (t : EndView) : Type 0 where
  pub streams : q.streams ≡ named_next e.sender
  pub last : q.last ≡ length e.sender.plan.entries
  pub made : (asked e.sender).resets.pending ≡ Some q
  pub outstanding : t.sender.resets ≡ (asked e.sender).resets
  pub said : IsSaidOrDue e q xs t

-- An established endpoint that agreed on resets, has no request open and has a number left asks, with its next packet, for the streams that are ready:
-- nothing of them waits or is in part, and all is acknowledged.
abbrev pub ReadyIsAskedFor : Type 0
ReadyIsAskedFor = (e : EndView) (tags : Tags) (xs : List ChunkMeaning) (t : EndView) → e.phase ≡ Open tags Established → e.terms.reset ≡ true →
    may_ask e.sender ≡ true → Builds e xs t → (q : Request) × AsksFor e q xs t

-- ---- what is reported of a reset

-- P of one step of a run
abbrev pub HasStep : (World → Event → World → Type 0) → World → List Event → List World → Type 0
HasStep P w (e ∷ es) (v ∷ vs) = P w e v ⊎ HasStep P v es vs
HasStep P w es vs = ⊥

-- One of these parameters, which act one after the other at this endpoint, is a request, says this, and finds this receiver.
pub data IsAmongParameters (c : ℕ) : EndView → List Typed → ReceiverView → ResetMeaning → Type 0 where
  FirstAsks : (e : EndView) (x : Typed) (xs : List Typed) → is_parameter OUTGOING_RESET 12 x ≡ true → IsAmongParameters c e (x ∷ xs) e.receiver (reset_read x)
  LaterAsks : (e : EndView) (x : Typed) (xs : List Typed) (r : ReceiverView) (m : ResetMeaning) → IsAmongParameters c (parameter_heard c e x) xs r m →
      IsAmongParameters c e (x ∷ xs) r m

-- One of these chunks, which act one after the other at this endpoint, is a RE-CONFIG with this request, which finds this receiver, and this cumulative index.
pub data IsAmongChunks (tag : ℕ) : EndView → List ChunkMeaning → ReceiverView → (c : ℕ) → ResetMeaning → Type 0 where
  InFirst : (e : EndView) (kind flags : ℕ) (value : List ℕ) (xs : List ChunkMeaning) (r : ReceiverView) (c : ℕ) (m : ResetMeaning) →
      takes_reconfig e kind ≡ true →
      IsCumulative e.receiver c → IsAmongParameters c e (typed_in value) r m → IsAmongChunks tag e (Unknown kind flags value ∷ xs) r c m
  BehindActing : (e mid : EndView) (k : Note) (x : ChunkMeaning) (xs : List ChunkMeaning) (r : ReceiverView) (c : ℕ) (m : ResetMeaning) →
      Acts e tag x (GoesOn k mid) →
      IsAmongChunks tag (rested mid) xs r c m → IsAmongChunks tag e (x ∷ xs) r c m
  BehindPassed : (e : EndView) (x : ChunkMeaning) (xs : List ChunkMeaning) (r : ReceiverView) (c : ℕ) (m : ResetMeaning) → Acts e tag x PassedOver →
      IsAmongChunks tag e xs r c m → IsAmongChunks tag e (x ∷ xs) r c m

-- Such a chunk is in this packet, which passes at this endpoint: at one with an association, or after the cookie that begins one.
pub data IsInArriving (e : EndView) (p : Packet) (r : ReceiverView) (c : ℕ) (m : ResetMeaning) : Type 0 where
  AtOpen : has_ports e.configuration p ≡ true → passes e.phase p ≡ true → has_association e.phase ≡ true → IsAmongChunks p.tag e p.chunks r c m →
      IsInArriving e p r c m
  BehindCookie : (b : Body) → has_ports e.configuration p ≡ true → passes e.phase p ≡ true → has_association e.phase ≡ false → opened_by e p ≡ Some b →
      IsAmongChunks p.tag (begun b e) (drop 1 p.chunks) r c m → IsInArriving e p r c m

-- In this step a packet arrives at this side, and leaves its endpoint so. This request is among all its chunks, or among those before one for which an
-- allocation failed.
pub data RequestArrives (w : World) (e : Event) (x : Side) (t : EndView) (r : ReceiverView) (c : ℕ) (m : ResetMeaning) : Type 0 where
  InWhole : (p : Packet) (d : Verdict) → Brings w e x (Some p) → Arrives (end_now w x) w.draw p t d → IsInArriving (end_now w x) p r c m →
      RequestArrives w e x t r c m
  InFront : (p : Packet) (front : List ChunkMeaning) (y : ChunkMeaning) (back : List ChunkMeaning) (d : Verdict) → Brings w e x (Some p) →
      p.chunks ≡ front ++ y ∷ back →
      Arrives (end_now w x) w.draw (cut_to p front) t d → is_answer d ≡ false → IsInArriving (end_now w x) (cut_to p front) r c m → RequestArrives w e x t r c m

-- In this step a packet arrived at this side, and in it a request was performed that names this stream, and hadn't been performed before; at that time this
-- many of its messages had been delivered, taken or not.
pub record WasPerformed (x : Side) (stream n : ℕ) (w : World) (e : Event) (v : World) : Type 0 where
  pub receiver : ReceiverView
  pub cumulative : ℕ
  pub request : ResetMeaning
  pub arrives : RequestArrives w e x (end_of v x) receiver cumulative request
  pub in_turn : is_in_turn receiver request.number ≡ true
  pub performed : reset_answer receiver cumulative request ≡ Performed
  pub named : names receiver request.streams stream ≡ true
  pub anew : was_performed receiver request ≡ false
  pub count : n ≡ length (handed receiver stream)
  pub after : length (handed (end_of w x).receiver stream) ≤ n
  pub before : n ≤ length (handed (end_of v x).receiver stream)

-- In every world of every run what is noted for a stream, to be reported, is what had been delivered on it when a request was performed in an earlier step.
abbrev pub EachCountIsOfARequest : Type 0
EachCountIsOfARequest = (s : Setup) (events : List Event) (answers : List (Option Outcome)) (worlds : List World) →
    PassesThrough (start s) events answers worlds →
    (x : Side) (stream n : ℕ) → (end_of (last_of (start s) worlds) x).receiver.resets.told stream ≡ Some n →
    HasStep (WasPerformed x stream n) (start s) events worlds

-- And what is reported is never more than wait for `take`.
abbrev pub NeverMoreThanWait : Type 0
NeverMoreThanWait = (s : Setup) (events : List Event) (answers : List (Option Outcome)) (w : World) → Run (start s) events answers w →
    (x : Side) (stream : ℕ) → old_waiting (end_of w x).receiver stream ≤ length ((end_of w x).receiver.waiting stream)
