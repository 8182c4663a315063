-- `build`: a packet that is begun empty, filled by the slots that are due and then with user data, is the specification's next packet, and leaves its view.
use Rattle.std.proofs.Common.{◌≡◌, ◌∙◌, ℕ, ◌≤◌, Bool, true, false, not, List, [], ◌∷◌, ◌++◌, map, Option, Some, None, option_map, Result, Ok, Err, IfOk, OnErr, IfSome, MatchOption, length, refl, ap, sym, subst, arith}
use Rattle.std.specs.Prelude.{unwrap_or, OnOk}
use Rattle.std.proofs.Math.Seq.{drop-length}
use Rattle.std.specs.declared.vec.Vec.{Vec}
use Rattle.std.specs.declared.alloc.Global.{Global}
use Rattle.sctp_model.specs.wire.Chunk.{ChunkMeaning}
use Rattle.sctp_model.specs.wire.Packet.{size_of_packet}
use Rattle.sctp_model.specs.sender.SenderView.{SenderView}
use Rattle.sctp_model.specs.sender.Filling.{newly_numbered, begun_tickets}
use Rattle.sctp_model.specs.receiver.ReceiverView.{ReceiverView, fresh_receiver}
use Rattle.sctp_model.specs.receiver.SackMade.{sack_sent}
use Rattle.sctp_model.specs.end.EndView as model
use Rattle.sctp_model.specs.end.EndView.{EndView, Configuration, Draw, Alarm, InitAlarm, Timer, has_association, format_of, format_for}
use Rattle.sctp_model.specs.end.Clock.{started}
use Rattle.sctp_model.specs.end.Pacing.{Pace, sent_pace}
use Rattle.sctp_model.specs.end.Reconfiguring.{asking}
use Rattle.sctp_model.specs.end.Closing.{with_due}
use Rattle.sctp_model.specs.end.Opening.{own_init}
use Rattle.sctp_model.specs.end.UserCalls.{peer_tag}
use Rattle.sctp_model.specs.end.Building.{Slot, Puts, open_slots, echoing_slots, Builds, Sleeps, Waits, Calls, Echoes, EndsFull, Fills, filled_behind, fragments, sent, tag_to}
use Rattle.sctp_model.specs.end.Building.{packet_of as end_packet}
use Rattle.sctp_packet.specs.Draft.{Draft, packet_of, after_try, with_chunks}
use Rattle.sctp_packet.specs.PacketBytes.{WritesPacket}
use Rattle.sctp_values.specs.declared.ticket.Ticket.{Ticket}
use Rattle.sctp_association.specs.declared.build.sendings.Filled.{Filled}
use Rattle.sctp_congestion.specs.PaceStands.{PacesStand}
use Rattle.sctp_congestion.specs.declared.pacing.Pacing.{Pacing}
use Rattle.sctp_association.specs.Asks.{asks}
use Rattle.sctp_association.specs.StartsMean.{starts_at, with_start}
use Rattle.sctp_association.specs.PhaseMeans.{phase_unjoined, phase_of}
use Rattle.sctp_association.specs.TrafficStands.{TrafficStands}
use Rattle.sctp_association.specs.MachineStands.{KeepsMachine, MachineStands}
use Rattle.sctp_association.specs.Drafted.{drafted, IsOf, IsOwn, IsEmpty, PutsAt, IsPacked, IsWhole}
use Rattle.sctp_association.specs.Sends.{Sends, FillsNone}
use Rattle.sctp_association.specs.FillsBehind.{timers_behind, FillsBehind}
use Rattle.sctp_association.specs.BuildAnswers.{BuildAnswer}
use Rattle.sctp_association.specs.declared.state.life.Unjoined.{Unjoined}
use Rattle.sctp_association.specs.declared.state.life.Association.{Association}
use Rattle.sctp_association.specs.declared.state.life.Life.{Life}
use Rattle.sctp_association.specs.declared.state.life.Life.TheVariants as life
use Rattle.sctp_association.specs.declared.time.starts.Starts.{Starts}
use Rattle.sctp_association.specs.declared.traffic.Traffic.{Traffic}
use Rattle.sctp_association.specs.declared.build.packing.Marks.{Marks}
use Rattle.sctp_association.specs.declared.build.packing.Packing.{Packing}
use Rattle.sctp_association.specs.declared.build.Built.{Built}
use Rattle.sctp_association.specs.declared.machine.Machine.{Machine}
use Rattle.sctp_association.proofs.MachineLemmas.{joined, phase_joined}
use Rattle.sctp_association.proofs.PutLemmas.{started_left}
use Rattle.sctp_association.proofs.OptionLemmas.{unbeating_after}
use Rattle.sctp_association.proofs.AskLemmas.{unasked}
use Rattle.sctp_association.proofs.SendsLemmas.{one_control, puts_from_none, sends_none, sends_nothing, sends_behind}

-- the tag of its packets is that of the peer, where one is known
pub tag_by : (h : model.Phase) → unwrap_or (peer_tag h) 0 ≡ tag_to h
tag_by model.Idle = refl
tag_by model.Listening = refl
tag_by (model.Calling d) = refl
tag_by (model.Echoing t xs) = refl
tag_by (model.Open t g) = refl
tag_by (model.Over why) = refl

-- ---- tickets

nothing_numbered : (v : SenderView) → newly_numbered v v ≡ []
nothing_numbered v = ap (begun_tickets v.plan) (drop-length v.plan.entries)

pub none_numbered : (tickets : Vec Ticket Global) (v : SenderView) → tickets.items ≡ [] → map (λ t. t.0) tickets.items ≡ newly_numbered v v
none_numbered tickets v none = ap (λ (ts : List Ticket). map (λ t. t.0) ts) none ∙ sym (nothing_numbered v)

-- the end's packet, whole or narrowed
pub own_of : (e : EndView) (p : Packing) → IsOf e p → IsOwn e p
own_of e p of = record { limit = omega (arith, of.limit); source = of.source; destination = of.destination; tag = of.tag; sack = of.sack }

-- ---- nothing is sent

pub quiet_packet : (e : EndView) (p : Packing) (filled : Filled) → Builds e [] e → IsEmpty e p → FillsNone filled → IsPacked e e.sender e.pace p filled
quiet_packet e p filled builds empty none = record {
  builds = subst (λ (zs : List ChunkMeaning). Builds e zs (drafted p.marks e)) (sym empty.chunks) (subst (λ (y : EndView). Builds e [] y) (sym empty.same) builds);
  packet = own_of e p empty.packet;
  tickets_are = none_numbered filled.tickets e.sender none.tickets;
  sendings = sends_nothing e p.writer.chunks filled empty.chunks none;
}

pub sleeps : (e : EndView) (h : model.Phase) (p : Packing) (filled : Filled) → e.phase ≡ h → has_association h ≡ false → IsEmpty e p → FillsNone filled → IsPacked e e.sender e.pace p filled
sleeps e h p filled phase over empty none = quiet_packet e p filled (Sleeps (ap has_association phase ∙ over)) empty none

pub waits : (e : EndView) (d : Draw) (p : Packing) (filled : Filled) → e.phase ≡ model.Calling d → p.marks.init ≡ false → IsEmpty e p → FillsNone filled → IsPacked e e.sender e.pace p filled
waits e d p filled phase marked empty none = quiet_packet e p filled (Waits d phase (sym (ap (λ (x : EndView). x.due.init) empty.same) ∙ marked)) empty none

-- ---- INIT

pub calls_packet : (e : EndView) (c : Configuration) (d : Draw) (old : Packing) (new : Draft) (s : Starts) (put : Bool) (filled : Filled) → e.configuration ≡ c
    → e.phase ≡ model.Calling d → IsEmpty e old → old.marks.init ≡ true → put ≡ true → new ≡ after_try old.writer (own_init c d) put
    → starts_at s ≡ with_start InitAlarm (starts_at old.marks.starts) → FillsNone filled
    → IsPacked e e.sender e.pace (record { writer = new; marks = record old.marks { init = false; starts = s } }) filled
calls_packet e c d old new s put filled configured phase empty due is after starts none =
    let m = old.marks in
    let n : Marks = record m { init = false; starts = s } in
    let there : new ≡ with_chunks old.writer (own_init c d ∷ []) = after ∙ ap (after_try old.writer (own_init c d)) is in
    let calls : e.due.init ≡ true = sym (ap (λ (x : EndView). x.due.init) empty.same) ∙ due in
    let chunks : own_init e.configuration d ∷ [] ≡ old.writer.chunks ++ own_init c d ∷ [] =
    ap (λ (k : Configuration). own_init k d ∷ []) configured ∙ sym (ap (λ (xs : List ChunkMeaning). xs ++ own_init c d ∷ []) empty.chunks) in
    let leaves : started InitAlarm (with_due (record e.due { init = false }) e) ≡ drafted n e =
    sym (ap (λ (x : EndView). started InitAlarm (with_due (record x.due { init = false }) x)) empty.same) ∙ started_left InitAlarm (record m { init = false }) e s starts in
    let one : IsPacked e e.sender e.pace (record { writer = with_chunks old.writer (own_init c d ∷ []); marks = n }) filled = record {
      builds = subst (λ (zs : List ChunkMeaning). Builds e zs (drafted n e)) chunks (subst (λ (y : EndView). Builds e (own_init e.configuration d ∷ []) y) leaves (Calls d phase calls));
      packet = own_of e _ (record { options = empty.packet.options; limit = empty.packet.limit; source = empty.packet.source; destination = empty.packet.destination; tag = empty.packet.tag; sack = empty.packet.sack });
      tickets_are = none_numbered filled.tickets e.sender none.tickets;
      sendings = subst (λ (zs : List ChunkMeaning). Sends e zs filled.sendings) chunks (sends_none e (own_init e.configuration d ∷ []) filled (one_control _ refl) none);
    } in
    subst (λ (w : Draft). IsPacked e e.sender e.pace (record { writer = w; marks = n }) filled) (sym there) one

-- ---- control chunks, and fragments

-- what went into an empty packet
from_empty : (e : EndView) (old : Packing) (zs : List ChunkMeaning) (full : Bool) (x : EndView) (ss : List Slot) → IsEmpty e old → Puts ss (drafted old.marks e) old.writer.chunks zs full x → Puts ss e [] zs full x
from_empty e old zs full x ss empty puts =
    subst (λ (y : EndView). Puts ss y [] zs full x) empty.same (subst (λ (xs : List ChunkMeaning). Puts ss (drafted old.marks e) xs zs full x) empty.chunks puts)

pub echoes_packet : (e : EndView) (t : model.Tags) (cookie : List ℕ) (old new : Packing) (room : Bool) (filled : Filled) → e.phase ≡ model.Echoing t cookie → IsEmpty e old
    → PutsAt echoing_slots e old new room → FillsNone filled → IsPacked e e.sender e.pace new filled
echoes_packet e t cookie old new room filled phase empty puts none = record {
  builds = Echoes t cookie new.writer.chunks (not room) (drafted new.marks e) phase (from_empty e old new.writer.chunks (not room) (drafted new.marks e) echoing_slots empty puts.puts);
  packet = own_of e new puts.packet;
  tickets_are = none_numbered filled.tickets e.sender none.tickets;
  sendings = sends_none e new.writer.chunks filled (puts_from_none _ _ _ _ _ (from_empty e old new.writer.chunks (not room) (drafted new.marks e) echoing_slots empty puts.puts)) none;
}

from_unasked : (e : EndView) (old : Packing) (zs : List ChunkMeaning) (full : Bool) (x : EndView) → asks e ≡ false → IsEmpty e old → Puts open_slots (drafted old.marks e) old.writer.chunks zs full x
    → Puts open_slots (asking e) [] zs full x
from_unasked e old zs full x off empty puts = subst (λ (y : EndView). Puts open_slots y [] zs full x) (sym (unasked e off)) (from_empty e old zs full x open_slots empty puts)

pub full_packet : (e : EndView) (t : model.Tags) (g : model.Stage) (old new : Packing) (room : Bool) (filled : Filled) → e.phase ≡ model.Open t g → asks e ≡ false → IsEmpty e old
    → room ≡ false → PutsAt open_slots e old new room → FillsNone filled → IsPacked e e.sender e.pace new filled
full_packet e t g old new room filled phase off empty is puts none =
    let full = subst (PutsAt open_slots e old new) is puts in record {
      builds = EndsFull t g new.writer.chunks (drafted new.marks e) phase (from_unasked e old new.writer.chunks true (drafted new.marks e) off empty full.puts);
      packet = own_of e new full.packet;
      tickets_are = none_numbered filled.tickets e.sender none.tickets;
      sendings = sends_none e new.writer.chunks filled (puts_from_none _ _ _ _ _ (from_unasked e old new.writer.chunks true (drafted new.marks e) off empty full.puts)) none;
    }

filled_packet : (e : EndView) (t : model.Tags) (g : model.Stage) (old mid new : Packing) (traffic : Traffic) (o : Option Pace) (filled : Filled) → e.phase ≡ model.Open t g → asks e ≡ false → IsEmpty e old
    → PutsAt open_slots e old mid true → FillsBehind e.pace e mid new traffic filled → o ≡ (sent (drafted mid.marks e) mid.writer.chunks).pace
    → IsPacked e (filled_behind (drafted mid.marks e) mid.writer.chunks).view o new filled
filled_packet e t g old mid new traffic o filled phase off empty puts fills paced =
    let x = drafted mid.marks e in
    let zs = mid.writer.chunks in
    let v = (filled_behind x zs).view in
    let built = Fills t g zs x phase (from_unasked e old zs false x off empty puts.puts) in
    let ws = (filled_behind x zs).wishes in
    let went : EndView = record x { timers = timers_behind x zs; sender = v; pace = (sent x zs).pace } in
    let leaves : sent x zs ≡ record (drafted new.marks e) { sender = v; pace = o } =
    unbeating_after ws went empty.packet.options
    ∙ ap (λ (q : Option Pace). record went { pace = q }) (sym paced)
    ∙ sym (ap (λ (m : Marks). record (drafted m e) { sender = v; pace = o }) fills.marks ∙ ap (λ (f : Alarm → Timer). record x { sender = v; pace = o; timers = f }) fills.timers) in
    record {
      builds = subst (λ (cs : List ChunkMeaning). Builds e cs (record (drafted new.marks e) { sender = v; pace = o })) (sym fills.chunks) (subst (λ (y : EndView). Builds e (zs ++ fragments x zs) y) leaves built);
      packet = fills.packet;
      tickets_are = fills.tickets_are;
      sendings = sends_behind e zs new.writer.chunks filled.sendings (unasked e off) (puts_from_none _ _ _ _ _ (from_unasked e old zs false x off empty puts.puts)) fills.chunks fills.sendings_are;
    }

pub fills_packet : {E : Type 0} (r : Result Filled E) (e : EndView) (t : model.Tags) (g : model.Stage) (old mid new : Packing) (room : Bool) (traffic : Traffic) (q : Option Pacing)
    → e.phase ≡ model.Open t g → asks e ≡ false → IsEmpty e old → room ≡ true → PutsAt open_slots e old mid room → IfOk r (λ filled. FillsBehind e.pace e mid new traffic filled)
    → OnOk r (PacesStand (format_of e) (filled_behind (drafted mid.marks e) mid.writer.chunks).view.cum q (sent (drafted mid.marks e) mid.writer.chunks).pace) → IfOk r (IsWhole e traffic q new)
fills_packet (Ok filled) e t g old mid new room traffic q phase off empty is puts fills paced = record {
  sender = (filled_behind (drafted mid.marks e) mid.writer.chunks).view;
  after = (sent (drafted mid.marks e) mid.writer.chunks).pace;
  packed = filled_packet e t g old mid new traffic (sent (drafted mid.marks e) mid.writer.chunks).pace filled phase off empty (subst (PutsAt open_slots e old mid) is puts) fills refl;
  traffic_stands = fills.traffic_stands;
  pace_stands = paced;
  unpaced = λ none. ap (λ (o : Option Pace). option_map (sent_pace e.moment e.sender (filled_behind (drafted mid.marks e) mid.writer.chunks).view (filled_behind (drafted mid.marks e) mid.writer.chunks).wishes) o) none;
}
fills_packet (Err failed) e t g old mid new room traffic q phase off empty is puts fills paced = fills

-- what is so anyway is so where there is a result
pub on_ok : {A E : Type 0} (P : Type 0) (r : Result A E) → P → OnOk r P
on_ok P (Ok x) p = p
on_ok P (Err why) p = tt

-- ---- the answer

-- the header is that of the end's packet
packet_same : (e : EndView) (p : Packing) → IsOwn e p → packet_of p.writer ≡ end_packet e p.writer.chunks
packet_same e p ours = rw (ours.source, ours.destination, ours.tag) refl

pub answered : (e : EndView) (s : SenderView) (o : Option Pace) (r : Option Built) (m : Machine) (p : Packing) (filled : Filled) → IsPacked e s o p filled
    → MatchOption r (p.writer.chunks ≡ []) (λ b. WritesPacket b.packet.items (packet_of p.writer)) → IfSome r (λ b. length b.packet.items ≡ size_of_packet p.writer.chunks)
    → IfSome r (λ b. length b.packet.items ≤ p.writer.limit) → IfSome r (λ b. b.tickets ≡ filled.tickets) → IfSome r (λ b. b.sendings ≡ filled.sendings) → MachineStands m (record (drafted p.marks e) { sender = s; pace = o }) → BuildAnswer e r m
answered e s o None m p filled packed none size within same counts stands =
    let x : EndView = record (drafted p.marks e) { sender = s; pace = o } in (x, subst (λ (zs : List ChunkMeaning). Builds e zs x) none packed.builds, stands)
answered e s o (Some b) m p filled packed writes size within same counts stands = record {
  chunks = p.writer.chunks;
  after = record (drafted p.marks e) { sender = s; pace = o };
  builds = packed.builds;
  some = writes.some;
  packet = subst (WritesPacket b.packet.items) (packet_same e p packed.packet) writes;
  size = size;
  within = omega (arith, within, packed.packet.limit);
  tickets = ap (λ (ts : Vec Ticket Global). map (λ t. t.0) ts.items) same ∙ packed.tickets_are;
  sendings = subst (Sends e p.writer.chunks) (sym counts) packed.sendings;
  stands = stands;
}

-- ---- what stands for the end meanwhile

pub with_moment : (m : Machine) (v : EndView) (n : ℕ) → KeepsMachine m v → KeepsMachine (record m { moment = n }) (record v { moment = n })
with_moment m v n k = record { configuration = k.configuration; role = k.role; clock = refl; due = k.due; timers = k.timers; delayed = k.delayed; phase = k.phase; life = k.life; room = k.room; pace = k.pace; unpaced = k.unpaced; options = k.options; beats = k.beats }

-- a receiver that nothing came to has no duplicates to tell
pub told_fresh : (r : ReceiverView) (b n : ℕ) → r ≡ fresh_receiver 0 0 b n → sack_sent r ≡ r
told_fresh r b n is = ap sack_sent is ∙ sym is

pub phase_at : (m : Machine) (x : Unjoined) (v : EndView) → m.life ≡ life.Unjoined x → KeepsMachine m v → v.phase ≡ phase_unjoined x
phase_at m x v is k = sym k.phase ∙ ap phase_of is

pub stays_unjoined : (m : Machine) (x : Unjoined) (v : EndView) → m.life ≡ life.Unjoined x → KeepsMachine m v → KeepsMachine (record m { life = life.Unjoined x }) v
stays_unjoined m x v is k = subst (λ (h : Life). KeepsMachine (record m { life = h }) v) is k

-- a packet that leaves sender and pace as they were
pub whole_so : (e : EndView) (p : Packing) (filled : Filled) (traffic : Traffic) (q : Option Pacing) → IsPacked e e.sender e.pace p filled
    → TrafficStands traffic (format_of e) e.sender e.receiver → PacesStand (format_of e) e.sender.cum q e.pace → IsWhole e traffic q p filled
whole_so e p filled traffic q packed stands paces = record { sender = e.sender; after = e.pace; packed = packed; traffic_stands = stands; pace_stands = paces; unpaced = λ none. none }

-- where a call may run out of memory: the end as it was
pub with_end : {E : Type 0} (r : Result Filled E) (e v : EndView) (p : Packing) (m : Machine) → IfOk r (λ filled. IsPacked e e.sender e.pace p filled) → KeepsMachine m (record v { sender = e.sender; pace = e.pace })
    → IfOk r (λ filled. (s : SenderView) × (o : Option Pace) × IsPacked e s o p filled × KeepsMachine m (record v { sender = s; pace = o }))
with_end (Ok filled) e v p m packed stands = (e.sender, e.pace, packed, stands)
with_end (Err failed) e v p m packed stands = packed

-- the traffic as it was
pub with_traffic_kept : {E : Type 0} (r : Result Filled E) (e : EndView) (p : Packing) (traffic : Traffic) (q : Option Pacing) → IfOk r (λ filled. IsPacked e e.sender e.pace p filled)
    → TrafficStands traffic (format_of e) e.sender e.receiver → PacesStand (format_of e) e.sender.cum q e.pace → IfOk r (IsWhole e traffic q p)
with_traffic_kept (Ok filled) e p traffic q packed stands paces = whole_so e p filled traffic q packed stands paces
with_traffic_kept (Err failed) e p traffic q packed stands paces = packed

-- the end with its sender and its pace gone on
with_both : (m : Machine) (a b : Association) (v : EndView) (x : SenderView) (q : Option Pacing) (o : Option Pace) → m.life ≡ life.Joined a → KeepsMachine m v
    → TrafficStands b.traffic (format_for v.terms.interleave) x v.receiver → PacesStand (format_for v.terms.interleave) x.cum q o → (v.pace ≡ None → o ≡ None)
    → KeepsMachine (record m { life = life.Joined (record a { traffic = b.traffic }); pace = q }) (record v { sender = x; pace = o })
with_both m a b v x q o is k stands paces none = record {
  configuration = k.configuration;
  role = k.role;
  clock = k.clock;
  due = k.due;
  timers = k.timers;
  delayed = k.delayed;
  phase = phase_joined m a v is k;
  life = record { terms = (joined m a v is k).terms; traffic = stands; buffer = (joined m a v is k).buffer; answers = (joined m a v is k).answers };
  room = k.room;
  pace = paces;
  unpaced = λ off. none (k.unpaced off);
  options = k.options;
  beats = k.beats;
}

pub with_traffic_and_pace : (m : Machine) (a b : Association) (v : EndView) (x : SenderView) (q : Option Pacing) (o : Option Pace) → m.life ≡ life.Joined a → KeepsMachine m v
    → b ≡ record a { traffic = b.traffic } → TrafficStands b.traffic (format_for v.terms.interleave) x v.receiver → PacesStand (format_for v.terms.interleave) x.cum q o → (v.pace ≡ None → o ≡ None)
    → KeepsMachine (record m { life = life.Joined b; pace = q }) (record v { sender = x; pace = o })
with_traffic_and_pace m a b v x q o is k kept stands paces none =
    subst (λ (h : Association). KeepsMachine (record m { life = life.Joined h; pace = q }) (record v { sender = x; pace = o })) (sym kept) (with_both m a b v x q o is k stands paces none)

pub with_sender : {E : Type 0} (r : Result Filled E) (v : EndView) (n : ℕ) (p : Packing) (m : Machine) (a b : Association) (q : Option Pacing) → m.life ≡ life.Joined a → KeepsMachine m v
    → b ≡ record a { traffic = b.traffic } → IfOk r (IsWhole (record v { moment = n }) b.traffic q p)
    → IfOk r (λ filled. (x : SenderView) × (o : Option Pace) × IsPacked (record v { moment = n }) x o p filled × KeepsMachine (record m { life = life.Joined b; pace = q }) (record v { sender = x; pace = o }))
with_sender (Ok filled) v n p m a b q is k kept w = (w.sender, w.after, w.packed, with_traffic_and_pace m a b v w.sender q w.after is k kept w.traffic_stands w.pace_stands w.unpaced)
with_sender (Err failed) v n p m a b q is k kept w = w

pub still_stands : {A E : Type 0} (r : Result A E) (v : EndView) (m : Machine) (a b : Association) (q : Option Pacing) → m.life ≡ life.Joined a → KeepsMachine m v → b ≡ record a { traffic = b.traffic }
    → OnErr r (PacesStand (format_for v.terms.interleave) v.sender.cum q v.pace) → OnErr r (TrafficStands b.traffic (format_for v.terms.interleave) v.sender v.receiver)
    → OnErr r (KeepsMachine (record m { life = life.Joined b; pace = q }) v)
still_stands (Ok x) v m a b q is k kept paces stands = tt
still_stands (Err failed) v m a b q is k kept paces stands = with_traffic_and_pace m a b v v.sender q v.pace is k kept stands paces (λ none. none)
