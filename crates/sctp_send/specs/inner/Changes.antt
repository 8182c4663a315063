-- What the calls make of entries, one by one.
use Rattle.std.specs.Prelude.{◌≡◌, ℕ, suc, nat_lt, nat_le, Bool, true, false, not, ◌&&◌, ◌==◌, if◌then◌else◌, List, [], ◌∷◌, map}
use Rattle.sctp_send.specs.declared.kept.entry.Standing.{Standing}
use Rattle.sctp_send.specs.declared.kept.entry.Standing.TheVariants.{Unsent, Sent, Marked}
use Rattle.sctp_send.specs.CoveredRuns.{in_runs, AreInOrder}
use Rattle.sctp_send.specs.declared.kept.entry.CoveredRun.{CoveredRun}
use Rattle.sctp_send.specs.declared.kept.entry.State.{State}
use Rattle.sctp_send.specs.declared.kept.entry.Entry.{Entry as EntryFields}

-- the standing without its mark
abbrev pub unmarked : Standing → Standing
unmarked Unsent = Unsent
unmarked Sent = Sent
unmarked Marked = Sent

-- what became of an entry
abbrev pub state_of : EntryFields → State
state_of e = record { standing = e.standing; covered = e.covered; abandoned = e.abandoned; repeats = e.repeats }

-- an entry of which this became
abbrev pub stood : State → EntryFields → EntryFields
stood s e = record e { standing = s.standing; covered = s.covered; abandoned = s.abandoned; repeats = s.repeats }

-- ---- covered or not (RFC 9260, 6.2.1)

-- the peer has it: there is nothing to repeat
abbrev pub as_covered : EntryFields → EntryFields
as_covered e = record e { covered = true; standing = unmarked e.standing }

-- the peer says that it hasn't, or no longer
abbrev pub as_uncovered : EntryFields → EntryFields
as_uncovered e = record e { covered = false }

-- one of the two
abbrev pub told : Bool → EntryFields → EntryFields
told b e = if b then as_covered e else as_uncovered e

-- told so if the index passes
abbrev pub told_at : Bool → (ℕ → Bool) → ℕ → EntryFields → EntryFields
told_at b test i e = if test i then told b e else e

-- each changed by its index, the first of which is i
abbrev pub each_changed : {A : Type 0} → (ℕ → A → A) → ℕ → List A → List A
each_changed g i [] = []
each_changed g i (x ∷ xs) = g i x ∷ each_changed g (suc i) xs

-- entries told by their indexes
abbrev pub all_told : (ℕ → Bool) → ℕ → List EntryFields → List EntryFields
all_told test i es = each_changed (λ k. told (test k)) i es

-- entries that pass are told so, and the others stay
abbrev pub told_where : Bool → (ℕ → Bool) → ℕ → List EntryFields → List EntryFields
told_where b test i es = each_changed (told_at b test) i es

-- the runs are in order, and each entry is as they say
abbrev pub IsExact : (known : Bool) → List CoveredRun → List EntryFields → Type 0
IsExact false rs es = Unit {0}
IsExact true rs es = AreInOrder 0 rs × (all_told (in_runs rs) 1 es ≡ es)

-- behind one offset, up to another
abbrev pub is_between : ℕ → ℕ → ℕ → Bool
is_between from to i = nat_lt from i && nat_le i to

-- there, and in none of the runs
abbrev pub in_gaps : List CoveredRun → (from to : ℕ) → ℕ → Bool
in_gaps rs from to i = is_between from to i && not (in_runs rs i)

-- in one of the runs, and in none of the others
abbrev pub in_alone : (runs others : List CoveredRun) → ℕ → Bool
in_alone rs os i = in_runs rs i && not (in_runs os i)

-- ---- abandoned (RFC 3758, 3.5)

-- an entry of the message with this ticket is abandoned, and its mark ends
abbrev pub as_abandoned : ℕ → EntryFields → EntryFields
as_abandoned t e = if e.message.value.ticket == t then record e { abandoned = true; standing = unmarked e.standing } else e

-- each entry of that message is abandoned
abbrev pub all_abandoned : ℕ → List EntryFields → List EntryFields
all_abandoned t es = map (as_abandoned t) es
