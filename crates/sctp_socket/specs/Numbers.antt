-- Values under numbers that are never given again.
use Rattle.std.specs.Prelude.{ℕ, ◌<◌, Option}
use Rattle.std.specs.Ordering.{nat_cmp}
use Rattle.std.specs.BTreeMap.{get, ContainsKey, Updates, IsUnchanged, IsEmpty}
use Rattle.sctp_socket.specs.declared.numbered.Numbered.{Numbered}

module _ {E : Type 0} where
  -- the value with this number
  abbrev pub value_of : Numbered E → (number : ℕ) → Option E
  value_of m number = get nat_cmp m.values number

  -- the number that the next value gets
  abbrev pub next_of : Numbered E → ℕ
  next_of m = m.next

  -- no value
  abbrev pub HasNone : Numbered E → Type 0
  HasNone m = IsEmpty m.values

  -- the same values, but for this number
  abbrev pub Puts : (number : ℕ) → Option E → (m n : Numbered E) → Type 0
  Puts number value m n = Updates nat_cmp m.values n.values number value

  -- the same values
  abbrev pub Keeps : (m n : Numbered E) → Type 0
  Keeps m n = IsUnchanged m.values n.values

  -- each number that has a value was given before the next one
  abbrev pub AreGiven : Numbered E → Type 0
  AreGiven m = (number : ℕ) → ContainsKey nat_cmp m.values number → number < m.next
