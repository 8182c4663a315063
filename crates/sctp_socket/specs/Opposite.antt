-- Two sockets that call each other (RFC 9260, 5.2.1): which call wins, as both see it.
use Rattle.std.specs.Prelude.{◌≡◌, ◌≢◌, ℕ, ◌⊎◌, Bool, true, Option}
use Rattle.sctp_model.specs.end.EndView.{Draw}
use Rattle.sctp_model.specs.end.Sealing.{Body}
use Rattle.sctp_socket.specs.declared.meeting.Standing.{Standing}
use Rattle.sctp_socket.specs.declared.meeting.Standing.TheVariants.{Called, Echoed, Joined}
use Rattle.sctp_socket.specs.declared.meeting.Meeting.TheVariants.{Ignored, Begins, CallsAgain}
use Rattle.sctp_socket.specs.Meeting.{is_barred, meets, meets_from}

-- Both echo, the one under the tag a, the other under b: the cookie that each made as it called begins an association at just one of them, and the other ignores it.
abbrev pub OneCallWins : Type 0
OneCallWins = (a b : ℕ) → a ≢ b →
    ((meets_from (Echoed a b) a b ≡ Begins) × (meets_from (Echoed b a) b a ≡ Ignored))
    ⊎ ((meets_from (Echoed a b) a b ≡ Ignored) × (meets_from (Echoed b a) b a ≡ Begins))

-- One that still waits for its first answer takes the cookie that it made as it called, whatever the tags.
abbrev pub CallersTake : Type 0
CallersTake = (d : Draw) (b : ℕ) → meets_from (Called d) d.tag b ≡ Begins

-- A caller takes no cookie that it made before it called.
abbrev pub OlderAreIgnored : Type 0
OlderAreIgnored = (d : Draw) (l b : ℕ) → l ≢ d.tag → meets_from (Called d) l b ≡ Ignored

-- A cookie made at or before the bar does nothing.
abbrev pub BarredAreIgnored : Type 0
BarredAreIgnored = (x : Standing) (bar : Option ℕ) (served : Bool) (b : Body) → is_barred bar b.made ≡ true → meets x bar served b ≡ Ignored

-- NO TAG OF THIS SIDE SERVES TWO ASSOCIATIONS: a cookie under a tag that another one has or had begins nothing; and one under the own tag of the association or the call that is
-- there begins one in the place of that call alone, with the peer whose tag it answers if it answered one.
pub record TagsServeOnce : Type 0 where
  pub others : (x : Standing) (bar : Option ℕ) (b : Body) → meets x bar true b ≡ Ignored
  pub joined : (own peer caller : ℕ) → meets_from (Joined own peer) own caller ≢ Begins
  pub echoed : (own peer caller : ℕ) → caller ≢ peer → meets_from (Echoed own peer) own caller ≡ CallsAgain
