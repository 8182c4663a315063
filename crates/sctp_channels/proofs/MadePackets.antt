-- What packets make: what is due is queued before one is sent, and resets are noted after one is received.
use Rattle.std.proofs.Common.{◌≡◌, ℕ, zero, suc, ◌<◌, false, List, [], ◌∷◌, length, take, Option, Some, None, Ok, Err, refl, arith, sym, subst, ap, ◌∙◌}
use Rattle.std.proofs.lemmas.List.{append-nil}
use Rattle.sctp_model.specs.wire.Chunk.{ChunkMeaning}
use Rattle.sctp_model.specs.wire.Packet.{Packet}
use Rattle.sctp_model.specs.receiver.ResetTaken.{old_waiting}
use Rattle.sctp_model.specs.end.EndView.{EndView}
use Rattle.sctp_model.specs.end.Clock.{at_moment}
use Rattle.sctp_model.specs.end.Building.{Builds, packet_of}
use Rattle.sctp_model.specs.end.Strays as model
use Rattle.sctp_model.specs.end.UserCalls.{reset_there, told_leaves}
use Rattle.sctp_model.specs.world.World.{Side, other, World, end_of, clock_of, end_now}
use Rattle.sctp_model.specs.world.Events.{Event, Build, Outcome}
use Rattle.sctp_model.specs.world.Steps as steps
use Rattle.sctp_model.specs.world.Steps.{Step, Brings, FromBag, FromStranger, NoPacket, last_of}
use Rattle.sctp_packet.specs.PacketBytes.{WritesPacket}
use Rattle.sctp_safety.proofs.machine.OneEnd.{IsAt, at_end, at_packet, at_came, answer_of, at_verdict}
use Rattle.sctp_endpoint.specs.EndpointStands.{EndpointStands}
use Rattle.sctp_endpoint.specs.Handled.{VerdictStands}
use Rattle.sctp_endpoint.specs.declared.after.Verdict.{Verdict}
use Rattle.sctp_endpoint.specs.declared.after.Verdict.TheVariants.{Taken, Dropped, Answer}
use Rattle.sctp_channels.specs.declared.channels.Channels.{Channels}
use Rattle.sctp_channels.specs.Streams.{Table}
use Rattle.sctp_channels.specs.Settling.{Standing, settled_below, settled_all}
use Rattle.sctp_channels.specs.Events.{with_reset, reset_noted, resets_noted, all_noted, swept, noted_and_swept}
use Rattle.sctp_channels.specs.Packets.{StandNoted}
use Rattle.sctp_channels.specs.ChannelsStand.{ChannelsStand}
use Rattle.sctp_channels.specs.Driven.{is_call, Elsewhere, Notes}
use Rattle.sctp_channels.specs.Making.{Makes, IsReached, IsAllNoted, IsMade}
use Rattle.sctp_channels.specs.MadeByCalls.{IsAnsweredBy, PacketsAreMade, IsSentAs, TransmitsAreMade}
use Rattle.sctp_channels.proofs.AllNoted.{resets_are_all_noted}
use Rattle.sctp_channels.proofs.StreamsThere.{waits_there, builds_noted}
use Rattle.sctp_channels.proofs.MadeLemmas.{packets_in, makes_nothing, makes_more, makes_one, makes_no_time, no_call, makes_told, reached_on}
use Rattle.sctp_channels.proofs.MadeRuns.{noted_same}
use Rattle.sctp_channels.proofs.MadeSettled.{any_made, all_receiver}
use Rattle.sctp_channels.proofs.MadeSwept.{swept_made}

-- ---- a packet is sent

module _ (y : Side) (w : World) (x : Table) where
  abbrev S : Standing
  S = settled_all (end_of w y) x

  m : Makes y w x [] [] [] S.view S.table
  m = any_made y w x (length x.streams)

  abbrev w1 : World
  w1 = last_of w m.worlds

  built_there : (xs : List ChunkMeaning) (t : EndView) → Builds (at_moment S.view (clock_of w y)) xs t → Builds (end_now w1 y) xs t
  built_there xs t b = subst (λ (n : ℕ). Builds (at_moment (end_of w1 y) n) xs t) (sym (makes_no_time y w x [] [] [] S.view S.table m y)) (subst (λ (e : EndView). Builds (at_moment e (clock_of w y)) xs t) (sym m.here) b)

  still_noted : (xs : List ChunkMeaning) (t : EndView) → Builds (at_moment S.view (clock_of w y)) xs t → IsAllNoted (end_of w y) → IsAllNoted t
  still_noted xs t b all = builds_noted (at_moment S.view (clock_of w y)) xs t b (noted_same (end_of w y) (at_moment S.view (clock_of w y)) (all_receiver (end_of w y) 0 (take (length x.streams) x.streams)) all)

  none_made : (t : EndView) → Builds (at_moment S.view (clock_of w y)) [] t → Makes y w x (Build y ∷ []) [] [] t S.table
  none_made t b =
      makes_more y w x [] (Build y ∷ []) [] [] [] [] S.view t S.table S.table m
      (makes_one y w1 S.table (Build y ∷ []) (Build y) _ _ t None [] S.table refl (at_end w1 y t) (steps.BuildsNone y t (built_there [] t b)) (Elsewhere (Build y) _ refl) refl)

  some_made : (c : ChunkMeaning) (cs : List ChunkMeaning) (t : EndView) → Builds (at_moment S.view (clock_of w y)) (c ∷ cs) t →
      Makes y w x (Build y ∷ []) [] (packet_of (at_moment S.view (clock_of w y)) (c ∷ cs) ∷ []) t S.table
  some_made c cs t b =
      subst (λ (e : EndView). Makes y w x (Build y ∷ []) [] (packet_of e (c ∷ cs) ∷ []) t S.table) m.here
      (makes_more y w x [] (Build y ∷ []) [] [] [] (packet_of (end_of w1 y) (c ∷ cs) ∷ []) S.view t S.table S.table m
      (makes_one y w1 S.table (Build y ∷ []) (Build y) _ _ t (Some (packet_of (end_of w1 y) (c ∷ cs))) [] S.table refl (at_packet w1 y t (packet_of (end_of w1 y) (c ∷ cs)))
      (steps.BuildsOne y c cs t (built_there (c ∷ cs) t b)) (Elsewhere (Build y) _ refl) refl))

pub transmits_made : TransmitsAreMade
transmits_made y w x (Ok None) c ((t, b, stands), is) = (
  [],
  refl,
  record {
    view = t;
    table = (settled_all (end_of w y) x).table;
    makes = none_made y w x t b;
    stands = is t stands;
    few = omega arith;
    noted = λ r all. still_noted y w x [] t b all;
  },
)
transmits_made y w x (Ok (Some sent)) c (s, is) = go s.chunks s.some s.builds s.packet
  where
    go : (xs : List ChunkMeaning) → (xs ≡ [] → ⊥) → Builds (at_moment (settled_all (end_of w y) x).view (clock_of w y)) xs s.after →
        WritesPacket sent.packet.items (packet_of (at_moment (settled_all (end_of w y) x).view (clock_of w y)) xs) → (ps : List Packet) × IsSentAs (Ok (Some sent)) ps × IsMade y w x (Build y ∷ []) [] ps c
    go [] some b writes = absurd (some refl)
    go (k ∷ ks) some b writes = (
      packet_of (at_moment (settled_all (end_of w y) x).view (clock_of w y)) (k ∷ ks) ∷ [],
      (packet_of (at_moment (settled_all (end_of w y) x).view (clock_of w y)) (k ∷ ks), refl, writes),
      record {
        view = s.after;
        table = (settled_all (end_of w y) x).table;
        makes = some_made y w x k ks s.after b;
        stands = is s.after s.stands;
        few = omega arith;
        noted = λ r all. still_noted y w x (k ∷ ks) s.after b all;
      },
    )
transmits_made y w x (Err why) c (n, stands) = (
  [],
  refl,
  record {
    view = (settled_below n (end_of w y) x).view;
    table = (settled_below n (end_of w y) x).table;
    makes = any_made y w x n;
    stands = stands;
    few = omega arith;
    noted = λ r all. noted_same (end_of w y) (settled_below n (end_of w y) x).view (all_receiver (end_of w y) 0 (take n x.streams)) all;
  },
)

-- ---- resets are noted

noted_made : (y : Side) (n : ℕ) (w : World) (x : Table) → Makes y w x [] [] [] (resets_noted n (end_of w y) x).view (resets_noted n (end_of w y) x).table
noted_made y zero w x = makes_nothing y w x
noted_made y (suc n) w x = go (reset_there (end_of w y)) refl (λ u q. noted_made y n u q)
  where
    go : (o : Option ℕ) → reset_there (end_of w y) ≡ o → ((u : World) (q : Table) → Makes y u q [] [] [] (resets_noted n (end_of u y) q).view (resets_noted n (end_of u y) q).table) → Makes y w x [] [] [] (resets_noted n (reset_noted o (end_of w y) x).view (reset_noted o (end_of w y) x).table).view
        (resets_noted n (reset_noted o (end_of w y) x).view (reset_noted o (end_of w y) x).table).table
    go None is further = further w x
    go (Some s) is further =
        let z = with_reset s (old_waiting (end_of w y).receiver s) x in
        let one = makes_told y w x (Some s) is z (Notes s (old_waiting (end_of w y).receiver s)) in
        let more = further (last_of w one.worlds) z in
        makes_more y w x [] [] [] [] [] [] (told_leaves (Some s) (end_of w y)) _ z _ one
        (subst (λ (e : EndView). Makes y (last_of w one.worlds) z [] [] [] (resets_noted n e z).view (resets_noted n e z).table) one.here more)

-- ---- streams are freed

noted_swept_made : (y : Side) (w : World) (x : Table) → Makes y w x [] [] [] (noted_and_swept (end_of w y) x).view (noted_and_swept (end_of w y) x).table
noted_swept_made y w x =
    let t = all_noted (end_of w y) x in
    let m = noted_made y (end_of w y).receiver.streams w x in
    makes_more y w x [] [] [] [] [] [] t.view t.view t.table (swept t.view t.table) m
    (subst (λ (e : EndView). Makes y (last_of w m.worlds) t.table [] [] [] e (swept e t.table)) m.here (swept_made y (length t.table.streams) (last_of w m.worlds) t.table))

-- the same messages wait, on as many streams
noted_receiver : (n : ℕ) (v : EndView) (x : Table) → ((resets_noted n v x).view.receiver.waiting ≡ v.receiver.waiting) × ((resets_noted n v x).view.receiver.streams ≡ v.receiver.streams)
noted_receiver zero v x = (refl, refl)
noted_receiver (suc n) v x = go (reset_there v) (λ u q. noted_receiver n u q)
  where
    go : (o : Option ℕ) → ((u : EndView) (q : Table) → ((resets_noted n u q).view.receiver.waiting ≡ u.receiver.waiting) × ((resets_noted n u q).view.receiver.streams ≡ u.receiver.streams)) → ((resets_noted n (reset_noted o v x).view (reset_noted o v x).table).view.receiver.waiting ≡ v.receiver.waiting)
        × ((resets_noted n (reset_noted o v x).view (reset_noted o v x).table).view.receiver.streams ≡ v.receiver.streams)
    go None further = further v x
    go (Some s) further = further (told_leaves (Some s) v) (with_reset s (old_waiting v.receiver s) x)

-- ---- a packet is received

brings_no_call : (w : World) (e : Event) (y : Side) (o : Option Packet) → Brings w e y o → (z : Side) → is_call z e ≡ false
brings_no_call w e y o (FromBag _ _ _ _) z = refl
brings_no_call w e y o (FromStranger _ _ _) z = refl
brings_no_call w e y o (NoPacket _) z = refl

module _ (y : Side) (w : World) (x : Table) (e : Event) (o : Option Packet) (brings : Brings w e y o) where
  -- one step, and the resets after it
  packet_made : (a : Option Outcome) (v : World) (t : EndView) (given : Option Packet) → IsAt w v y t given → Step w e a v →
      Makes y w x (e ∷ []) [] (packets_in given) (noted_and_swept t x).view (noted_and_swept t x).table
  packet_made a v t given is step =
      let off = brings_no_call w e y o brings in
      let one = makes_one y w x (e ∷ []) e a v t given [] x (no_call y e (off y)) is step (Elsewhere e a (off y)) (off (other y)) in
      let more : Makes y (last_of w one.worlds) x [] [] [] (noted_and_swept t x).view (noted_and_swept t x).table =
      subst (λ (q : EndView). Makes y (last_of w one.worlds) x [] [] [] (noted_and_swept q x).view (noted_and_swept q x).table) one.here (noted_swept_made y (last_of w one.worlds) x) in
      subst (λ (ps : List Packet). Makes y w x (e ∷ []) [] ps (noted_and_swept t x).view (noted_and_swept t x).table) (append-nil (packets_in given))
      (makes_more y w x (e ∷ []) [] [] [] (packets_in given) [] t (noted_and_swept t x).view x (noted_and_swept t x).table one more)

  packet_noted : (ps : List Packet) (t : EndView) → Makes y w x (e ∷ []) [] ps (noted_and_swept t x).view (noted_and_swept t x).table → IsReached w → IsAllNoted (all_noted t x).view
  packet_noted ps t m r = record { there = there; waiting = λ s some. there s (waits s some) }
    where
      there : (s : ℕ) → s < (all_noted t x).view.receiver.streams → (all_noted t x).view.receiver.resets.told s ≡ None
      there s lt = resets_are_all_noted t x s (subst (λ (n : ℕ). s < n) (noted_receiver t.receiver.streams t x).1 lt)

      waits : (s : ℕ) → ((all_noted t x).view.receiver.waiting s ≡ [] → ⊥) → s < (all_noted t x).view.receiver.streams
      waits s some =
          subst (λ (q : EndView). s < q.receiver.streams) m.here
          (waits_there (last_of w m.worlds) (reached_on y w x (e ∷ []) [] ps _ _ m r) y s (λ none. some (ap (λ (q : EndView). q.receiver.waiting s) (sym m.here) ∙ none)))

  heard : (a : Option Outcome) (v : World) (t : EndView) (given : Option Packet) (c : Channels) → IsAt w v y t given → Step w e a v → StandNoted t x c → IsMade y w x (e ∷ []) [] (packets_in given) c
  heard a v t given c is step stands =
      let m = packet_made a v t given is step in
      record { view = (noted_and_swept t x).view; table = (noted_and_swept t x).table; makes = m; stands = stands; few = omega arith; noted = λ r all. packet_noted (packets_in given) t m r }

answered : (told : Verdict) (k : model.Verdict) → VerdictStands told k → IsAnsweredBy (Ok told) (packets_in (answer_of k))
answered Taken k is = ap (λ (q : model.Verdict). packets_in (answer_of q)) is
answered (Dropped reason) k is = ap (λ (q : model.Verdict). packets_in (answer_of q)) is
answered (Answer bytes) (model.Answer p) writes = (p, refl, writes)
answered (Answer bytes) (model.Dropped n) none = absurd none
answered (Answer bytes) model.Taken none = absurd none

pub hears_made : PacketsAreMade
hears_made y w x e o (Ok told) c brings (t, k, receives, verdict, stands) =
    (packets_in (answer_of k), answered told k verdict, heard y w x e o brings _ _ t (answer_of k) c (at_verdict w y t k) (steps.PacketComes e y o t k brings receives) stands)
hears_made y w x e o (Err why) c brings (t, cut, wants, stands) = ([], refl, heard y w x e o brings _ _ t None c (at_came w y t) (steps.PacketCut e y o t brings cut) stands)
