-- The packet that an open endpoint builds, computed: what is due at each place, in their order, and then fragments.
use Rattle.std.proofs.Common.{◌≡◌, ℕ, Bool, true, false, List, [], ◌∷◌, ◌++◌, Option, Some, None, refl, if◌then◌else◌, sym, subst}
use Rattle.sctp_model.specs.numbers.Serial.{tsn}
use Rattle.sctp_model.specs.receiver.ResetTaken.{last_finished}
use Rattle.sctp_model.specs.wire.Chunk.{ChunkMeaning, Sack, Heartbeat, HeartbeatAck, Shutdown, ShutdownAck, Error, CookieEcho, CookieAck}
use Rattle.sctp_model.specs.sender.SentChunks.{forward_chunk_of}
use Rattle.sctp_model.specs.receiver.SackMade.{sack_of}
use Rattle.sctp_model.specs.end.EndView.{Tags, Stage, Open, EndView, format_of}
use Rattle.sctp_model.specs.end.Reports.{written}
use Rattle.sctp_model.specs.end.Beating.{beat_said}
use Rattle.sctp_model.specs.end.Building.{Slot, EchoSlot, CookieAckSlot, HeartbeatSlot, BeatSlot, ErrorSlot, SackSlot, ForwardSlot, ShutdownSlot, ShutdownAckSlot, open_slots, has_some, is_due, Wants, AckCookie, AckHeartbeat, Beat, ReportCauses, Acknowledge, PassOn, SayShutdown, AnswerShutdown, has_room, Puts, NoMore, NotDue, Put, IsFull, fragments, sent, Builds, EndsFull, Fills, once_built, AnswerSlot, RequestSlot, AnswerReset, AskReset, most_blocks}
use Rattle.sctp_outcomes.specs.receiver.Runs.{all_runs}
use Rattle.sctp_outcomes.specs.receiver.Steps.{IsBound, cumulative}
use Rattle.sctp_outcomes.proofs.receiver.RunsLemmas.{runs_are}
use Rattle.sctp_outcomes.proofs.receiver.StepsLemmas.{cumulative_is}
use Rattle.sctp_model.specs.sender.Outgoing.{Request}
use Rattle.sctp_model.specs.wire.Reconfig.{reconfig_chunk, reset_item}
use Rattle.sctp_model.specs.sender.Resetting.{request_said}
use Rattle.std.specs.Prelude.{is_some}
use Rattle.std.proofs.lemmas.Bool.{and_parts}
use Rattle.sctp_model.specs.end.Reconfiguring.{asking}
use Rattle.sctp_model.specs.receiver.ReceiverView.{ReceiverView}
use Rattle.sctp_safety.proofs.machine.Reconfigured.{asking_same}

-- ---- one place

-- the value of a HEARTBEAT that waits
abbrev info_of : Option (List ℕ) → List ℕ
info_of None = []
info_of (Some info) = info

-- the chunk of a request
abbrev request_chunk : EndView → Option Request → ChunkMeaning
request_chunk e None = reconfig_chunk []
request_chunk e (Some q) = reconfig_chunk (reset_item (last_finished e.receiver) (request_said e.sender q) ∷ [])

-- the chunk that is due at a place; no index past the bound was recorded
abbrev chunk_at : Slot → EndView → (bound : ℕ) → ChunkMeaning
chunk_at EchoSlot e bound = CookieEcho []
chunk_at CookieAckSlot e bound = CookieAck
chunk_at HeartbeatSlot e bound = HeartbeatAck (info_of e.due.heartbeat)
chunk_at BeatSlot e bound = Heartbeat (beat_said e)
chunk_at ErrorSlot e bound = Error (written e.due.causes)
chunk_at SackSlot e bound = Sack (sack_of (most_blocks e.configuration) e.receiver (cumulative e.receiver bound) (all_runs e.receiver (cumulative e.receiver bound) bound))
chunk_at ForwardSlot e bound = forward_chunk_of (format_of e) e.configuration.limit e.sender
chunk_at AnswerSlot e bound = reconfig_chunk e.receiver.resets.answers
chunk_at RequestSlot e bound = request_chunk e e.sender.resets.pending
chunk_at ShutdownSlot e bound = Shutdown (tsn e.receiver.initial (cumulative e.receiver bound))
chunk_at ShutdownAckSlot e bound = ShutdownAck

-- a place of an open endpoint's packet
abbrev is_open_slot : Slot → Bool
is_open_slot EchoSlot = false
is_open_slot s = true

waits_with : (o : Option (List ℕ)) → has_some o ≡ true → o ≡ Some (info_of o)
waits_with None on = absurd (cc)
waits_with (Some info) on = refl

wanted : (s : Slot) (e : EndView) (bound : ℕ) → IsBound e.receiver bound → is_open_slot s ≡ true → is_due s e ≡ true → Wants e s (chunk_at s e bound)
wanted EchoSlot e bound within on due = absurd (cc)
wanted CookieAckSlot e bound within on due = AckCookie
wanted HeartbeatSlot e bound within on due = AckHeartbeat (info_of e.due.heartbeat) (waits_with e.due.heartbeat due)
wanted BeatSlot e bound within on due = Beat
wanted ErrorSlot e bound within on due = ReportCauses
wanted SackSlot e bound within on due =
    let c = cumulative_is e.receiver bound within in
    Acknowledge (sack_of (most_blocks e.configuration) e.receiver (cumulative e.receiver bound) (all_runs e.receiver (cumulative e.receiver bound) bound)) (record {
      c = cumulative e.receiver bound;
      runs = all_runs e.receiver (cumulative e.receiver bound) bound;
      cumulative = c;
      all = runs_are e.receiver (cumulative e.receiver bound) bound within c;
      is = refl;
    })
wanted ForwardSlot e bound within on due = PassOn
wanted AnswerSlot e bound within on due = AnswerReset
wanted RequestSlot e bound within on due = by e.sender.resets.pending refl (and_parts e.due.request (is_some e.sender.resets.pending) due).1
  where
    by : (o : Option Request) → e.sender.resets.pending ≡ o → is_some o ≡ true → Wants e RequestSlot (request_chunk e o)
    by None q h = absurd (cc)
    by (Some r) q h = AskReset r q
wanted ShutdownSlot e bound within on due = SayShutdown (cumulative e.receiver bound) (cumulative_is e.receiver bound within)
wanted ShutdownAckSlot e bound within on due = AnswerShutdown

-- what is built changes nothing of what was recorded
bound_after : (s : Slot) (e : EndView) (bound : ℕ) → IsBound e.receiver bound → IsBound (once_built s e).receiver bound
bound_after EchoSlot e bound within = within
bound_after CookieAckSlot e bound within = within
bound_after HeartbeatSlot e bound within = within
bound_after BeatSlot e bound within = within
bound_after ErrorSlot e bound within = within
bound_after SackSlot e bound within = within
bound_after ForwardSlot e bound within = within
bound_after AnswerSlot e bound within = within
bound_after RequestSlot e bound within = within
bound_after ShutdownSlot e bound within = within
bound_after ShutdownAckSlot e bound within = within

-- ---- all places

-- chunks so far, whether the packet is full, and the endpoint that has built them
pub record Built : Type 0 where
  pub chunks : List ChunkMeaning
  pub full : Bool
  pub after : EndView

-- one place, and the others
abbrev built_at : (due room : Bool) → Slot → EndView → ℕ → List ChunkMeaning → (EndView → List ChunkMeaning → Built) → Built
built_at false room s e bound xs more = more e xs
built_at true false s e bound xs more = record { chunks = xs; full = true; after = e }
built_at true true s e bound xs more = more (once_built s e) (xs ++ chunk_at s e bound ∷ [])

abbrev built_over : List Slot → (bound : ℕ) → EndView → List ChunkMeaning → Built
built_over [] bound e xs = record { chunks = xs; full = false; after = e }
built_over (s ∷ ss) bound e xs = built_at (is_due s e) (has_room e xs (chunk_at s e bound)) s e bound xs (built_over ss bound)

abbrev AreOpenSlots : List Slot → Type 0
AreOpenSlots [] = Unit {0}
AreOpenSlots (s ∷ ss) = (is_open_slot s ≡ true) × AreOpenSlots ss

puts_are : (ss : List Slot) (bound : ℕ) (e : EndView) (xs : List ChunkMeaning) → AreOpenSlots ss → IsBound e.receiver bound →
    Puts ss e xs (built_over ss bound e xs).chunks (built_over ss bound e xs).full (built_over ss bound e xs).after
puts_are [] bound e xs places within = NoMore e xs
puts_are (s ∷ ss) bound e xs places within =
    go (is_due s e) refl (has_room e xs (chunk_at s e bound)) refl (puts_are ss bound e xs places.1 within)
    (puts_are ss bound (once_built s e) (xs ++ chunk_at s e bound ∷ []) places.1 (bound_after s e bound within))
  where
    It : Built → Type 0
    It b = Puts (s ∷ ss) e xs b.chunks b.full b.after

    Rest : EndView → List ChunkMeaning → Type 0
    Rest t ys = Puts ss t ys (built_over ss bound t ys).chunks (built_over ss bound t ys).full (built_over ss bound t ys).after

    go : (due : Bool) → is_due s e ≡ due → (room : Bool) → has_room e xs (chunk_at s e bound) ≡ room → Rest e xs → Rest (once_built s e) (xs ++ chunk_at s e bound ∷ []) →
        It (built_at due room s e bound xs (built_over ss bound))
    go false off room is same more = NotDue s ss e xs _ _ _ off same
    go true on false is same more = IsFull s ss e (chunk_at s e bound) xs on (wanted s e bound within places.0 on) is
    go true on true is same more = Put s ss e (chunk_at s e bound) xs _ _ _ on (wanted s e bound within places.0 on) is more

-- ---- the packet

-- with fragments after that, unless the packet is full
abbrev with_fragments : Built → Built
with_fragments b =
    if b.full then b else record { chunks = b.chunks ++ fragments b.after b.chunks; full = false; after = sent b.after b.chunks }

abbrev pub packet_built : EndView → (bound : ℕ) → Built
packet_built e bound = with_fragments (built_over open_slots bound (asking e) [])

-- So much an open endpoint builds.
pub builds_are : (t : Tags) (g : Stage) (e : EndView) (bound : ℕ) → e.phase ≡ Open t g → IsBound e.receiver bound →
    Builds e (packet_built e bound).chunks (packet_built e bound).after
builds_are t g e bound is within = go (built_over open_slots bound (asking e) [])
    (puts_are open_slots bound (asking e) [] (refl, (refl, (refl, (refl, (refl, (refl, (refl, (refl, (refl, (refl, tt))))))))))
    (subst (λ (r : ReceiverView). IsBound r bound) (sym (asking_same e).receiver.1) within))
  where
    by : (zs : List ChunkMeaning) (full : Bool) (x : EndView) → Puts open_slots (asking e) [] zs full x →
        Builds e (with_fragments (record { chunks = zs; full = full; after = x })).chunks (with_fragments (record { chunks = zs; full = full; after = x })).after
    by zs true x puts = EndsFull t g zs x is puts
    by zs false x puts = Fills t g zs x is puts

    go : (b : Built) → Puts open_slots (asking e) [] b.chunks b.full b.after → Builds e (with_fragments b).chunks (with_fragments b).after
    go b puts = by b.chunks b.full b.after puts
