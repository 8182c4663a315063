-- The associations of a socket, by their numbers and by their verification tags (RFC 9260, 8.5; RFC 6951, 5.4).
use Rattle.std.specs.Prelude.{◌≡◌, ℕ, ◌+◌, Bool, true, false, Option, Some, None}
use Rattle.sctp_socket.specs.Numbers as numbers
use Rattle.sctp_socket.specs.Tags as tags
use Rattle.sctp_socket.specs.Peers.{Admits}
use Rattle.sctp_socket.specs.declared.peer.Peer.{Peer}
use Rattle.sctp_socket.specs.declared.peer.Source.{Source}
use Rattle.sctp_socket.specs.declared.table.Entry.{Entry}
use Rattle.sctp_socket.specs.declared.table.Table.{Table}

module _ {E : Type 0} where
  -- the association with this number
  abbrev pub entry_of : Table E → (number : ℕ) → Option (Entry E)
  entry_of t number = numbers.value_of t.entries number

  -- the number of the association that a tag is of
  abbrev pub tagged : Table E → (tag : ℕ) → Option ℕ
  tagged t tag = tags.number_of t.tags tag

  -- the number that the next association gets
  abbrev pub next_of : Table E → ℕ
  next_of t = numbers.next_of t.entries

  -- no association
  pub record HasNone (t : Table E) : Type 0 where
    pub entries : numbers.HasNone t.entries
    pub tags : tags.HasNone t.tags

  -- the same associations, under the same numbers and tags, and the same next number
  pub record IsSame (t u : Table E) : Type 0 where
    pub entries : (number : ℕ) → entry_of u number ≡ entry_of t number
    pub tags : (tag : ℕ) → tagged u tag ≡ tagged t tag
    pub next : next_of u ≡ next_of t

  -- an association more, under the next number
  pub record Entered (t : Table E) (e : Entry E) (number : Option ℕ) (u : Table E) : Type 0 where
    pub given : number ≡ Some (next_of t)
    pub entry : numbers.Puts (next_of t) (Some e) t.entries u.entries
    pub next : next_of u ≡ next_of t + 1
    pub tags : u.tags ≡ t.tags

  -- the same associations, and this tag is free
  pub record Freed (t : Table E) (own : ℕ) (u : Table E) : Type 0 where
    pub entries : numbers.Keeps t.entries u.entries
    pub next : next_of u ≡ next_of t
    pub tag : tags.Puts own None t.tags u.tags

  -- an association more, under the next number and its tag, which was of none
  pub record Adds (t : Table E) (e : Entry E) (number : ℕ) (u : Table E) : Type 0 where
    pub given : number ≡ next_of t
    pub entry : numbers.Puts number (Some e) t.entries u.entries
    pub next : next_of u ≡ next_of t + 1
    pub free : tags.is_free t.tags e.own ≡ true
    pub tag : tags.Puts e.own (Some number) t.tags u.tags

  -- it was added, or its tag is already of an association and nothing changed
  abbrev pub Opened : Table E → Entry E → (number : Option ℕ) → Table E → Type 0
  Opened t e (Some number) u = Adds t e number u
  Opened t e None u = (tags.is_free t.tags e.own ≡ false) × IsSame t u

  -- an association less; its number isn't given again, and its tag stays
  pub record Closed (t : Table E) (number : ℕ) (u : Table E) : Type 0 where
    pub entry : numbers.Puts number None t.entries u.entries
    pub next : next_of u ≡ next_of t
    pub tags : u.tags ≡ t.tags

  -- the same associations, but for the one with this number
  pub record Replaced (t : Table E) (number : ℕ) (e : Entry E) (u : Table E) : Type 0 where
    pub entry : numbers.Puts number (Some e) t.entries u.entries
    pub next : next_of u ≡ next_of t
    pub tags : u.tags ≡ t.tags

  -- the association with this number, if there is one, is replaced by one that has this relation to it
  abbrev pub Changes : (Entry E → Entry E → Type 0) → (number : ℕ) → (t u : Table E) → Type 0
  Changes P number t u = (e : Entry E) → entry_of t number ≡ Some e → (f : Entry E) × P e f × Replaced t number f u

  -- the same associations, and this tag is of none
  pub record Unnoted (t : Table E) (tag : ℕ) (u : Table E) : Type 0 where
    pub entries : u.entries ≡ t.entries
    pub freed : tags.Puts tag None t.tags u.tags

  -- the tag is of an association, also of one that was removed, other than this one, if there is one
  abbrev pub serves_another : Table E → (tag : ℕ) → (number : Option ℕ) → Bool
  serves_another t tag number = tags.serves_another t.tags tag number

  -- there is an association, its peer hasn't restarted, and it admits packets from there
  abbrev pub IsAdmitted : Source → (from : Peer) → Option (Entry E) → Type 0
  IsAdmitted source from None = ⊥
  IsAdmitted source from (Some e) = (e.current ≡ true) × Admits source e.peer from

  -- A packet with this verification tag is for the association with this number: the tag is of that, and its peer admits the packet.
  pub record IsFor (t : Table E) (tag : ℕ) (from : Peer) (source : Source) (number : ℕ) : Type 0 where
    pub found : tagged t tag ≡ Some number
    pub admitted : IsAdmitted source from (entry_of t number)
