-- Which association each verification tag of this side is of (RFC 9260, 5.3.1 and 8.5).
use Rattle.std.specs.Prelude.{ℕ, Bool, true, false, not, ◌==◌, Option, Some, None, is_some}
use Rattle.std.specs.Ordering.{nat_cmp}
use Rattle.std.specs.BTreeMap.{get, Updates, IsUnchanged, IsEmpty}
use Rattle.sctp_socket.specs.declared.tags.Tags.{Tags}

-- the number of the association that a tag is of
abbrev pub number_of : Tags → (tag : ℕ) → Option ℕ
number_of t tag = get nat_cmp t.numbers tag

-- no tag
abbrev pub HasNone : Tags → Type 0
HasNone t = IsEmpty t.numbers

-- the same tags, but for this one
abbrev pub Puts : (tag : ℕ) → (number : Option ℕ) → (t u : Tags) → Type 0
Puts tag number t u = Updates nat_cmp t.numbers u.numbers tag number

-- the same tags
abbrev pub Keeps : (t u : Tags) → Type 0
Keeps t u = IsUnchanged t.numbers u.numbers

-- it is of none
abbrev pub is_free : Tags → (tag : ℕ) → Bool
is_free t tag = not (is_some (number_of t tag))

-- the tag is of an association, and that isn't this one
abbrev pub is_another : (found number : Option ℕ) → Bool
is_another None number = false
is_another (Some found) None = true
is_another (Some found) (Some number) = not (found == number)

-- the tag is of an association other than this one, if there is one
abbrev pub serves_another : Tags → (tag : ℕ) → (number : Option ℕ) → Bool
serves_another t tag number = is_another (number_of t tag) number
