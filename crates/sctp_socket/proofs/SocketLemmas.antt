-- A socket after a change of one association.
use Rattle.std.proofs.Common.{◌≡◌, ℕ, Bool, true, false, cond, ◌==◌, if◌then◌else◌, List, ◌∷◌, [], ◌++◌, ◌+◌, ◌-◌, max, Option, Some, None, refl, sym, ap, subst, ◌∙◌, arith}
use Rattle.std.proofs.lemmas.Bool.Decides.{nat_tests}
use Rattle.std.proofs.lemmas.Map.Text.{is_eq-slice_cmp}
use Rattle.std.proofs.lemmas.Slice.Eq.{bytes_eq-Decides}
use Rattle.std.specs.BTreeMap.{get, is_at}
use Rattle.std.specs.Map.{lookup}
use Rattle.std.specs.Ordering.{is_eq, nat_cmp}
use Rattle.std.specs.Cmp.Lexicographic.{slice_cmp}
use Rattle.sctp_model.specs.end.EndView.{EndView}
use Rattle.sctp_socket.specs.ByPeer as peers
use Rattle.sctp_socket.specs.Entries.{Succeeded}
use Rattle.sctp_socket.specs.Numbers as numbers
use Rattle.sctp_socket.specs.Peers.{text_of}
use Rattle.sctp_socket.specs.Table as table
use Rattle.sctp_socket.specs.Table.{entry_of, next_of, tagged, Replaced, Adds, IsSame}
use Rattle.sctp_socket.specs.Tags as tags
use Rattle.sctp_socket.specs.Tags.{is_another}
use Rattle.sctp_socket.specs.Turns.{waiting_of}
use Rattle.sctp_socket.specs.SocketStands.{AreSlots, IsSlot, IsSocket, IsTable}
use Rattle.sctp_socket.specs.SocketView.{Slot, SocketView, at_time, begun_with, is_same_peer, is_taken, put, put_peer, retired, succeeded_by, with_retired, with_slot}
use Rattle.sctp_socket.specs.declared.by_peer.ByPeer.{ByPeer}
use Rattle.sctp_socket.specs.declared.peer.Peer.{Peer}
use Rattle.sctp_socket.specs.declared.table.Entry.{Entry}
use Rattle.sctp_socket.specs.declared.socket.Socket.{Socket}
use Rattle.sctp_socket.specs.declared.table.Table.{Table}
use Rattle.sctp_socket.specs.declared.tags.Tags.{Tags}
use Rattle.sctp_socket.specs.declared.turns.Turns.{Turns}

same_number : (x y : ℕ) → is_eq (nat_cmp x y) ≡ (x == y)
same_number x y = grind (arith, nat_tests)

-- a map of numbers after a change at one
pub number_put : {X : Type 0} (found old : Option X) (n i : ℕ) (w : Option X) → found ≡ cond (is_eq (nat_cmp n i)) w old → found ≡ (if n == i then w else old)
number_put found old n i w h = h ∙ ap (λ (b : Bool). cond b w old) (same_number n i)

-- the latest numbers of peers after a change at one
pub latest_put : (m n : ByPeer) (p : Peer) (number : Option ℕ) → (f : Peer → Option ℕ) → peers.Puts p number m n → ((q : Peer) → peers.number_with m q ≡ f q) →
    (q : Peer) → peers.number_with n q ≡ put_peer p number f q
latest_put m n p number f h k q =
    h.0 (text_of q) ∙ ap (λ (b : Bool). cond b number (peers.number_with m q)) (is_eq-slice_cmp (text_of p) (text_of q))
    ∙ ap (λ (o : Option ℕ). cond (is_same_peer p q) number o) (k q)

-- the same text has the same number
text_same : (m : ByPeer) (p q : Peer) → is_same_peer p q ≡ true → peers.number_with m p ≡ peers.number_with m q
text_same m p q h = ap (λ (xs : List ℕ). get (slice_cmp nat_cmp) m.numbers xs) ((bytes_eq-Decides (text_of p) (text_of q)).0 h)

back : (b : Bool) (o n m mp a : Option ℕ) → o ≡ (if b then mp else n) → n ≡ (if b then a else m) → (b ≡ true → mp ≡ m) → o ≡ m
back true o n m mp a h j k = h ∙ k refl
back false o n m mp a h j k = h ∙ j

-- a peer's number put back
pub latest_back : (m n o : ByPeer) (p : Peer) (a : Option ℕ) → (f : Peer → Option ℕ) → peers.Puts p a m n → peers.Puts p (peers.number_with m p) n o →
    ((q : Peer) → peers.number_with m q ≡ f q) → (q : Peer) → peers.number_with o q ≡ f q
latest_back m n o p a f h j k q =
    back (is_same_peer p q) (peers.number_with o q) (peers.number_with n q) (peers.number_with m q) (peers.number_with m p) a
    (j.0 (text_of q) ∙ ap (λ (b : Bool). cond b (peers.number_with m p) (peers.number_with n q)) (is_eq-slice_cmp (text_of p) (text_of q)))
    (h.0 (text_of q) ∙ ap (λ (b : Bool). cond b a (peers.number_with m q)) (is_eq-slice_cmp (text_of p) (text_of q)))
    (text_same m p q)
    ∙ k q

-- the same peers
pub latest_same : (m n : ByPeer) → (f : Peer → Option ℕ) → peers.Keeps m n → ((q : Peer) → peers.number_with m q ≡ f q) → (q : Peer) → peers.number_with n q ≡ f q
latest_same m n f h k q = ap (λ (es : List (List ℕ × ℕ)). lookup (is_at (slice_cmp nat_cmp (text_of q))) es) h ∙ k q

-- the tags after a change at one
pub tags_put : (t u : Tags) (f : ℕ → Option ℕ) (tag : ℕ) (number : Option ℕ) → tags.Puts tag number t u → ((i : ℕ) → tags.number_of t i ≡ f i) → (i : ℕ) →
    tags.number_of u i ≡ put tag number f i
tags_put t u f tag number h k i =
    number_put (tags.number_of u i) (tags.number_of t i) tag i number (h.0 i) ∙ ap (λ (o : Option ℕ). if tag == i then number else o) (k i)

module _ {E : Type 0} where
  some_is : (d e : Entry E) → Some d ≡ Some e → d ≡ e
  some_is d e h = cc

module _ {E : Type 0} (Stands : E → EndView → Type 0) where
  chosen : (b : Bool) (e k : Option (Entry E)) (x y : Option Slot) → AreSlots Stands e x → AreSlots Stands k y → AreSlots Stands (if b then e else k) (if b then x else y)
  chosen true e k x y h j = h
  chosen false e k x y h j = j

  -- the associations after a change of one
  pub slots_put : (t u : Table E) (f : ℕ → Option Slot) (n : ℕ) (e : Option (Entry E)) (x : Option Slot) → numbers.Puts n e t.entries u.entries →
      ((i : ℕ) → AreSlots Stands (entry_of t i) (f i)) → AreSlots Stands e x → (i : ℕ) → AreSlots Stands (entry_of u i) (put n x f i)
  slots_put t u f n e x p h k i =
      subst (λ (o : Option (Entry E)). AreSlots Stands o (put n x f i)) (sym (number_put (entry_of u i) (entry_of t i) n i e (p.0 i)))
      (chosen (n == i) e (entry_of t i) x (f i) k (h i))

  -- one is replaced
  pub table_replaced : (t u : Table E) (v : SocketView) (n : ℕ) (e : Entry E) (x : Slot) → Replaced t n e u → IsTable Stands t v → IsSlot Stands e x → IsTable Stands u (with_slot n x v)
  table_replaced t u v n e x r h k = record {
    next = r.next ∙ h.next;
    slots = slots_put t u v.slots n (Some e) (Some x) r.entry h.slots k;
    tagged = λ tag. ap (λ (g : Tags). tags.number_of g tag) r.tags ∙ h.tagged tag;
  }

  -- one takes the place of a call
  pub table_succeeded : (t u : Table E) (v : SocketView) (n : ℕ) (e : Entry E) (x : Slot) → Succeeded t n e u → IsTable Stands t v → IsSlot Stands e x →
      IsTable Stands u (succeeded_by n x v)
  table_succeeded t u v n e x r h k = record {
    next = r.next ∙ h.next;
    slots = slots_put t u v.slots n (Some e) (Some x) r.entry h.slots k;
    tagged = λ tag. r.tagged tag ∙ ap (λ (o : Option ℕ). if e.own == tag then Some n else o) (h.tagged tag)
        ∙ ap (λ (o : ℕ). if o == tag then Some n else v.tagged tag) k.own;
  }

  -- nothing changed
  pub table_same : (t u : Table E) (v : SocketView) → IsSame t u → IsTable Stands t v → IsTable Stands u v
  table_same t u v r h = record {
    next = r.next ∙ h.next;
    slots = λ n. subst (λ (o : Option (Entry E)). AreSlots Stands o (v.slots n)) (sym (r.entries n)) (h.slots n);
    tagged = λ tag. r.tags tag ∙ h.tagged tag;
  }

  -- one more
  pub table_added : (t u : Table E) (v : SocketView) (e : Entry E) (x : Slot) (number : ℕ) → Adds t e number u → IsTable Stands t v → IsSlot Stands e x →
      IsTable Stands u (begun_with x v)
  table_added t u v e x number r h k =
      let is : number ≡ v.next = r.given ∙ h.next in
      subst (λ (n : ℕ). IsTable Stands u (record (begun_with x v) { slots = put n (Some x) v.slots; tagged = put x.own (Some n) v.tagged })) is (record {
        next = r.next ∙ ap (λ (n : ℕ). n + 1) h.next;
        slots = slots_put t u v.slots number (Some e) (Some x) r.entry h.slots k;
        tagged = λ tag. tags_put t.tags u.tags v.tagged e.own (Some number) r.tag h.tagged tag
            ∙ ap (λ (o : ℕ). if o == tag then Some number else v.tagged tag) k.own;
      })

  -- what there is at a number, in both
  pub none_there : (e : Option (Entry E)) (o : Option Slot) → e ≡ None → AreSlots Stands e o → o ≡ None
  none_there None None is h = refl
  none_there None (Some x) is h = absurd h
  none_there (Some e) o is h = absurd (cc)

  pub some_there : (m : Option (Entry E)) (o : Option Slot) (e : Entry E) → m ≡ Some e → AreSlots Stands m o → (x : Slot) × (o ≡ Some x) × IsSlot Stands e x
  some_there None o e is h = absurd (cc)
  some_there (Some d) None e is h = absurd h
  some_there (Some d) (Some x) e is h = (x, refl, subst (λ (k : Entry E). IsSlot Stands k x) (some_is d e is) h)

  -- ---- the whole socket

  -- the same but for its associations
  pub with_table : (s : Socket E) (u : Table E) (v : SocketView) (slots : ℕ → Option Slot) (tagged : ℕ → Option ℕ) → IsSocket Stands s v →
      IsTable Stands u (record v { slots = slots; tagged = tagged }) → IsSocket Stands (record s { table = u }) (record v { slots = slots; tagged = tagged })
  with_table s u v slots tagged h k = record {
    configuration = h.configuration;
    master = h.master;
    room = h.room;
    moment = h.moment;
    table = k;
    latest = h.latest;
    turns = h.turns;
  }

  -- one is over for its user
  retired_slot : (e f : Entry E) (x : Slot) → f ≡ record e { current = false } → IsSlot Stands e x → IsSlot Stands f (retired x)
  retired_slot e f x is k = subst (λ (d : Entry E). IsSlot Stands d (retired x)) (sym is) (record { peer = k.peer; own = k.own; bar = k.bar; current = refl; end = k.end })

  retired_by : (s : Socket E) (u : Table E) (v : SocketView) (n : ℕ) (m : Option (Entry E)) (o : Option Slot) → entry_of s.table n ≡ m → AreSlots Stands m o →
      table.Changes (λ e f. f ≡ record e { current = false }) n s.table u → (entry_of s.table n ≡ None → IsSame s.table u) → IsSocket Stands s v →
      IsSocket Stands (record s { table = u }) (with_retired n o v)
  retired_by s u v n None None is k step none h = with_table s u v v.slots v.tagged h (table_same s.table u v (none is) h.table)
  retired_by s u v n None (Some x) is k step none h = absurd k
  retired_by s u v n (Some e) None is k step none h = absurd k
  retired_by s u v n (Some e) (Some x) is k step none h =
      let f = step e is in
      with_table s u v (put n (Some (retired x)) v.slots) v.tagged h (table_replaced s.table u v n f.0 (retired x) f.2 h.table (retired_slot e f.0 x f.1 k))

  pub socket_retired : (s : Socket E) (u : Table E) (v : SocketView) (n : ℕ) → table.Changes (λ e f. f ≡ record e { current = false }) n s.table u →
      (entry_of s.table n ≡ None → IsSame s.table u) → IsSocket Stands s v → IsSocket Stands (record s { table = u }) (with_retired n (v.slots n) v)
  socket_retired s u v n step none h = retired_by s u v n (entry_of s.table n) (v.slots n) refl (h.table.slots n) step none h

  -- one more
  pub entered : (s : Socket E) (u : Table E) (m : ByPeer) (w : Turns) (v : SocketView) (e : Entry E) (x : Slot) (number given : ℕ) → number ≡ next_of s.table →
      waiting_of w ≡ waiting_of s.turns ++ number ∷ [] → peers.Puts e.peer (Some number) s.peers m → Adds s.table e given u → IsSocket Stands s v → IsSlot Stands e x →
      (given ≡ v.next) × IsSocket Stands (record s { room = s.room - 1; table = u; peers = m; turns = w }) (begun_with x v)
  entered s u m w v e x number given is items puts adds h k =
      let next : number ≡ v.next = is ∙ h.table.next in (
        adds.given ∙ h.table.next,
        record {
          configuration = h.configuration;
          master = h.master;
          room = ap (λ (r : ℕ). r - 1) h.room;
          moment = h.moment;
          table = table_added s.table u v e x given adds h.table k;
          latest = λ q. latest_put s.peers m e.peer (Some number) v.latest puts h.latest q
              ∙ ap (λ (p : Peer). if is_same_peer p q then Some number else v.latest q) k.peer
              ∙ ap (λ (n : ℕ). if is_same_peer x.peer q then Some n else v.latest q) next;
          turns = items ∙ ap (λ (xs : List ℕ). xs ++ number ∷ []) h.turns ∙ ap (λ (n : ℕ). v.turns ++ n ∷ []) next;
        },
      )

  -- all is as it was
  pub withdrawn : (s : Socket E) (u : Table E) (m n : ByPeer) (w : Turns) (v : SocketView) (p : Peer) (number : ℕ) → IsSame s.table u → peers.Puts p (Some number) s.peers m →
      peers.Puts p (peers.number_with s.peers p) m n → waiting_of w ≡ waiting_of s.turns → IsSocket Stands s v → IsSocket Stands (record s { table = u; peers = n; turns = w }) v
  withdrawn s u m n w v p number same puts back items h = record {
    configuration = h.configuration;
    master = h.master;
    room = h.room;
    moment = h.moment;
    table = table_same s.table u v same h.table;
    latest = latest_back s.peers m n p (Some number) v.latest puts back h.latest;
    turns = items ∙ h.turns;
  }

  -- whether a tag is of another association, in both
  pub taken_in : (t : Table E) (v : SocketView) (own given : ℕ) (number there : Option ℕ) (b : Bool) → IsTable Stands t v → own ≡ given → number ≡ there →
      b ≡ table.serves_another t own number → b ≡ is_taken v given there
  taken_in t v own given number there b h is same k =
      k ∙ ap (λ (o : Option ℕ). is_another o number) (h.tagged own) ∙ ap (λ (n : ℕ). is_taken v n number) is ∙ ap (λ (o : Option ℕ). is_taken v given o) same

  -- an association that began, given a time
  pub begun_timed : (s : Socket E) (v : SocketView) (x : Slot) (now later : ℕ) → later ≡ max v.moment now → IsSocket Stands s (begun_with x v) →
      IsSocket Stands (record s { moment = later }) (begun_with x (at_time v now))
  begun_timed s v x now later is h = record {
    configuration = h.configuration;
    master = h.master;
    room = h.room;
    moment = is;
    table = record { next = h.table.next; slots = h.table.slots; tagged = h.table.tagged };
    latest = h.latest;
    turns = h.turns;
  }
