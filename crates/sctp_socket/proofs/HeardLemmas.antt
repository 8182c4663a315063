-- A socket after a packet.
use Rattle.std.proofs.Common.{◌≡◌, ℕ, Bool, true, false, if◌then◌else◌, List, max, Option, Some, None, IsSome, MatchOption, Result, Ok, Err, refl, sym, ap, subst, ◌∙◌}
use Rattle.sctp_model.specs.wire.Packet.{Packet}
use Rattle.sctp_model.specs.end.EndView.{Draw, EndView}
use Rattle.sctp_model.specs.end.Arriving.{Receives, IsCutShort, WantsNoMemory}
use Rattle.sctp_terms.specs.declared.reason.Reason.TheVariants.{State}
use Rattle.sctp_values.specs.declared.no_memory.NoMemory.{NoMemory}
use Rattle.sctp_packet.specs.PacketBytes.{ReadsPacket, FaultsPacket}
use Rattle.sctp_packet.specs.declared.fault.PacketFault.{PacketFault}
use Rattle.sctp_endpoint.specs.Handled.{IsRead}
use Rattle.sctp_endpoint.specs.declared.after.Verdict.{Verdict}
use Rattle.sctp_endpoint.specs.declared.after.Verdict.TheVariants.{Dropped}
use Rattle.sctp_socket.specs.Entries.{EndHeard, Succeeded, heard_entry, moved, moved_by}
use Rattle.sctp_socket.specs.Hearing as hearing
use Rattle.sctp_socket.specs.Hearing.{is_call, succeeds, went}
use Rattle.sctp_socket.specs.Peers.{Admits}
use Rattle.sctp_socket.specs.Table as table
use Rattle.sctp_socket.specs.Table.{entry_of, tagged, Replaced, IsSame}
use Rattle.sctp_socket.specs.SocketStands.{AreSlots, IsSlot, IsSocket, IsTable}
use Rattle.sctp_socket.specs.SocketView.{Slot, SocketView, at_time, put, slot_at, standing_of, succeeded_by, with_slot}
use Rattle.sctp_socket.specs.declared.heard.Heard.TheVariants as heard
use Rattle.sctp_socket.specs.declared.meeting.Standing.{Standing}
use Rattle.sctp_socket.specs.declared.peer.Peer.{Peer}
use Rattle.sctp_socket.specs.declared.peer.Source.{Source}
use Rattle.sctp_socket.specs.declared.table.Entry.{Entry}
use Rattle.sctp_socket.specs.declared.socket.Socket.{Socket}
use Rattle.sctp_socket.specs.declared.table.Table.{Table}
use Rattle.sctp_socket.proofs.SocketLemmas.{none_there, some_there, table_same, table_succeeded, table_replaced, with_table}

-- bytes are read as one packet, or as none
pub none_read : (bytes : List ℕ) (o : Option Packet) → IsRead bytes o → ((p : Packet) → ReadsPacket bytes p → ⊥) → o ≡ None
none_read bytes None reads never = refl
none_read bytes (Some p) reads never = absurd (never p reads)

pub some_read : (bytes : List ℕ) (o : Option Packet) (p : Packet) → IsRead bytes o → ((q : Packet) → ReadsPacket bytes q → p ≡ q) → ((f : PacketFault) → FaultsPacket bytes f → ⊥) → o ≡ Some p
some_read bytes None p reads is never = absurd (never reads.0 reads.1)
some_read bytes (Some q) p reads is never = ap (λ (k : Packet). Some k) (sym (is q reads))

-- there is a call with the number whose place an association takes
call_slot : (o : Option Slot) → is_call (standing_of o) ≡ true → IsSome o
call_slot None h = h
call_slot (Some x) h = refl

call_of : (v : SocketView) (b : Bool) (found : Option ℕ) (n : ℕ) → (if b then found else None) ≡ Some n → (b ≡ true) × (found ≡ Some n)
call_of v true found n h = (refl, h)
call_of v false found n h = absurd (cc)

pub call_there : (v : SocketView) (standing : Standing) (found : Option ℕ) (n : ℕ) → standing ≡ standing_of (slot_at v found) → succeeds standing found ≡ Some n → IsSome (v.slots n)
call_there v standing found n is h =
    let call = call_of v (is_call standing) found n h in
    let there : slot_at v found ≡ v.slots n = ap (λ (o : Option ℕ). slot_at v o) call.1 in
    call_slot (v.slots n) (subst (λ (o : Option Slot). is_call (standing_of o) ≡ true) there (subst (λ (s : Standing). is_call s ≡ true) is call.0))

module _ {E : Type 0} (Stands : E → EndView → Type 0) where
  -- an association admits the same packets in both
  pub admits : (s : Source) (from : Peer) (m : Option (Entry E)) (o : Option Slot) → AreSlots Stands m o → table.IsAdmitted s from m → hearing.IsAdmitted s from o
  admits s from None None h k = absurd k
  admits s from None (Some x) h k = absurd h
  admits s from (Some e) None h k = absurd h
  admits s from (Some e) (Some x) h k = (sym h.current ∙ k.0, subst (λ (p : Peer). Admits s p from) h.peer k.1)

  pub admitted : (s : Source) (from : Peer) (m : Option (Entry E)) (o : Option Slot) → AreSlots Stands m o → hearing.IsAdmitted s from o → table.IsAdmitted s from m
  admitted s from None None h k = absurd k
  admitted s from None (Some x) h k = absurd h
  admitted s from (Some e) None h k = absurd h
  admitted s from (Some e) (Some x) h k = (h.current ∙ k.0, subst (λ (p : Peer). Admits s p from) (sym h.peer) k.1)

  -- the one that a packet is for by its tag
  pub found_for : (t : Table E) (v : SocketView) (tag : ℕ) (from : Peer) (s : Source) (r : Option ℕ) → IsTable Stands t v →
      MatchOption r ((n : ℕ) → table.IsFor t tag from s n → ⊥) (λ n. table.IsFor t tag from s n) →
      MatchOption r ((n : ℕ) → hearing.IsFor v tag from s n → ⊥) (λ n. hearing.IsFor v tag from s n)
  found_for t v tag from s None h k = λ n is. k n (record {
    found = h.tagged tag ∙ is.tagged;
    admitted = admitted s from (entry_of t n) (v.slots n) (h.slots n) is.admitted;
  })
  found_for t v tag from s (Some n) h k = record { tagged = sym (h.tagged tag) ∙ k.found; admitted = admits s from (entry_of t n) (v.slots n) (h.slots n) k.admitted }

  -- the same associations
  pub socket_same : (s : Socket E) (u : Table E) (v : SocketView) → IsSame s.table u → IsSocket Stands s v → IsSocket Stands (record s { table = u }) v
  socket_same s u v same h = with_table Stands s u v v.slots v.tagged h (table_same Stands s.table u v same h.table)

  pub some_both : (m : Option (Entry E)) (o : Option Slot) → AreSlots Stands m o → IsSome o → IsSome m
  some_both None None h k = k
  some_both None (Some x) h k = absurd h
  some_both (Some e) o h k = refl

  -- an association takes the place of a call
  pub socket_succeeded : (s : Socket E) (u : Table E) (v : SocketView) (n : ℕ) (e : Entry E) (x : Slot) → Succeeded s.table n e u → IsSocket Stands s v → IsSlot Stands e x →
      IsSocket Stands (record s { table = u }) (succeeded_by n x v)
  socket_succeeded s u v n e x r h k =
      with_table Stands s u v (put n (Some x) v.slots) (put x.own (Some n) v.tagged) h (table_succeeded Stands s.table u v n e x r h.table k)

  -- an association's endpoint has handled a packet
  pub heard_slot : (r : Result Verdict NoMemory) (e : Entry E) (x : Slot) (from : Peer) (f : E) (t : EndView) → IsSlot Stands e x → Stands f t →
      IsSlot Stands (heard_entry r e from f) (went x (moved_by r x.peer from) t)
  heard_slot r e x from f t k h = record {
    peer = ap (λ (p : Peer). moved_by r p from) k.peer;
    own = k.own;
    bar = k.bar;
    current = k.current;
    end = h;
  }

  pub socket_replaced : (s : Socket E) (u : Table E) (v : SocketView) (n : ℕ) (e : Entry E) (x : Slot) → Replaced s.table n e u → IsSocket Stands s v → IsSlot Stands e x →
      IsSocket Stands (record s { table = u }) (with_slot n x v)
  socket_replaced s u v n e x r h k = with_table Stands s u v (put n (Some x) v.slots) v.tagged h (table_replaced Stands s.table u v n e x r h.table k)

  -- the endpoint with this number has handled a packet
  pub end_at_heard : (s : Socket E) (u : Table E) (v : SocketView) (n : ℕ) (from : Peer) (d : Draw) (p : Packet) (bytes : List ℕ) (told : Verdict) →
      EndHeard Stands s.table n from s.moment bytes d (Some (Ok told)) u → IsRead bytes (Some p) → IsSocket Stands s v →
      (w : SocketView) × hearing.EndAtHears v (Some n) from d p (Ok (heard.Of n told)) w × IsSocket Stands (record s { table = u }) w
  end_at_heard s u v n from d p bytes told h reads k =
      let there = some_there Stands (entry_of s.table n) (v.slots n) h.0 h.2 (k.table.slots n) in
      let x = there.0 in
      let did = h.3 x.end (Some p) there.2.end reads in
      let y = went x (moved told x.peer from) did.0 in
      let w = with_slot n y v in (
        w,
        subst (λ (o : Option Slot). hearing.EndOfHears o v (Some n) from d p (Ok (heard.Of n told)) w) (sym there.1)
            (refl, did.0, did.1, subst (λ (now : ℕ). Receives x.end now d (Some p) did.0 did.1) k.moment did.2, did.3, refl),
        socket_replaced s u v n (heard_entry (Ok told) h.0 from h.1) y h.4 k (heard_slot (Ok told) h.0 x from h.1 did.0 there.2 did.4),
      )

  pub end_at_failed : (s : Socket E) (u : Table E) (v : SocketView) (n : ℕ) (from : Peer) (d : Draw) (p : Packet) (bytes : List ℕ) (why : NoMemory) →
      EndHeard Stands s.table n from s.moment bytes d (Some (Err why)) u → IsRead bytes (Some p) → IsSocket Stands s v →
      (w : SocketView) × hearing.EndAtHears v (Some n) from d p (Err why) w × IsSocket Stands (record s { table = u }) w
  end_at_failed s u v n from d p bytes why h reads k =
      let there = some_there Stands (entry_of s.table n) (v.slots n) h.0 h.2 (k.table.slots n) in
      let x = there.0 in
      let did = h.3 x.end (Some p) there.2.end reads in
      let y = went x x.peer did.0 in
      let w = with_slot n y v in (
        w,
        subst (λ (o : Option Slot). hearing.EndOfHears o v (Some n) from d p (Err why) w) (sym there.1) (
          n,
          refl,
          did.0,
          subst (λ (now : ℕ). IsCutShort x.end now d (Some p) did.0) k.moment did.1,
          subst (λ (now : ℕ). WantsNoMemory x.end now d (Some p) → ⊥) k.moment did.3,
          refl,
        ),
        socket_replaced s u v n (heard_entry (Err why) h.0 from h.1) y h.4 k (heard_slot (Err why) h.0 x from h.1 did.0 there.2 did.2),
      )

  -- there is none with this number
  pub end_at_none : (s : Socket E) (u : Table E) (v : SocketView) (n : ℕ) (from : Peer) (d : Draw) (p : Packet) → entry_of s.table n ≡ None → IsSame s.table u → IsSocket Stands s v →
      (w : SocketView) × hearing.EndAtHears v (Some n) from d p (Ok (heard.Nobody (Dropped State))) w × IsSocket Stands (record s { table = u }) w
  end_at_none s u v n from d p is same k = (
    v,
    subst (λ (o : Option Slot). hearing.EndOfHears o v (Some n) from d p (Ok (heard.Nobody (Dropped State))) v) (sym (none_there Stands (entry_of s.table n) (v.slots n) is (k.table.slots n)))
        (refl, refl),
    socket_same s u v same k,
  )

  -- the same, given a time
  pub socket_timed : (s : Socket E) (v : SocketView) (now later : ℕ) → later ≡ max v.moment now → IsSocket Stands s v → IsSocket Stands (record s { moment = later }) (at_time v now)
  socket_timed s v now later is h = record {
    configuration = h.configuration;
    master = h.master;
    room = h.room;
    moment = is;
    table = record { next = h.table.next; slots = h.table.slots; tagged = h.table.tagged };
    latest = h.latest;
    turns = h.turns;
  }
