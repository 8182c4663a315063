-- What is done about unknown types (RFC 9260, 3.2 and 3.2.1). Of chunks: what one does at an end, and that behind one that stops nothing is
-- looked at. Of parameters, told of whole lists: what stands up to the first one that stops is looked at; of that the known ones are acted on,
-- and those are reported whose rule says so.
use Rattle.std.specs.Prelude.{◌≡◌, ℕ, ◌/◌, ◌<◌, Bool, true, false, not, if◌then◌else◌, ◌&&◌, ◌||◌, List, [], ◌∷◌, ◌++◌}
use Rattle.std.specs.List.{filter}
use Rattle.sctp_model.specs.wire.Chunk.{ChunkMeaning, Unknown}
use Rattle.sctp_model.specs.wire.Typed.{Typed}
use Rattle.sctp_model.specs.wire.Unknown.{RuleMeaning, parameter_rule, is_known_parameter, is_passed_over, parameters_acted_on, parameters_reported}
use Rattle.sctp_model.specs.end.EndView.{EndView}
use Rattle.sctp_model.specs.end.Reports.{causes_with, with_causes}
use Rattle.sctp_model.specs.end.PeerFaults.{GoesOn, Ends, Unnoted}
use Rattle.sctp_model.specs.end.Acting.{unknown_item, may_report, unknown_acts}
use Rattle.sctp_model.specs.end.Strays.{Verdict}
use Rattle.sctp_model.specs.end.Arriving.{AllAct, Notes}

-- the items up to the first one that stops, and that one
abbrev pub up_to : {X : Type 0} → (X → Bool) → List X → List X
up_to stops [] = []
up_to stops (x ∷ xs) = x ∷ (if stops x then [] else up_to stops xs)

-- ---- by the two highest bits of a type

-- 00: nothing behind it is looked at; 01: the same, and it is reported; 10: it is skipped; 11: skipped and reported
pub record IsByTwoBits (highest : ℕ) (rule : RuleMeaning) : Type 0 where
  pub stops : highest ≡ 0 → rule ≡ record { stop = true; report = false }
  pub stops_reported : highest ≡ 1 → rule ≡ record { stop = true; report = true }
  pub skipped : highest ≡ 2 → rule ≡ record { stop = false; report = false }
  pub skipped_reported : highest ≡ 3 → rule ≡ record { stop = false; report = true }

-- ---- chunks, at an end that may have a peer

-- the end, which tells its peer of the chunk, where it has one and the report still fits
abbrev pub reporting : EndView → (kind flags : ℕ) → List ℕ → EndView
reporting e kind flags value = with_causes (if may_report e.phase then causes_with e (unknown_item kind flags value) else e.due.causes) e

-- what the chunk does
pub record ActsByTwoBits (highest : ℕ) (e : EndView) (kind flags : ℕ) (value : List ℕ) : Type 0 where
  pub stops : highest ≡ 0 → unknown_acts e kind flags value ≡ Ends e
  pub stops_reported : highest ≡ 1 → unknown_acts e kind flags value ≡ Ends (reporting e kind flags value)
  pub skipped : highest ≡ 2 → unknown_acts e kind flags value ≡ GoesOn Unnoted e
  pub skipped_reported : highest ≡ 3 → unknown_acts e kind flags value ≡ GoesOn Unnoted (reporting e kind flags value)

-- Behind one that stops nothing is looked at: whatever else stood there, the packet would leave the same and be told the same.
abbrev pub LooksNoFurther : (kind flags : ℕ) → List ℕ → Type 0
LooksNoFurther kind flags value =
    (tag : ℕ) (e : EndView) (n : Notes) (front back other : List ChunkMeaning) (t : EndView) (m : Notes) (v : Verdict) → kind / 64 < 2 →
    AllAct tag e n (front ++ Unknown kind flags value ∷ back) t m v → AllAct tag e n (front ++ Unknown kind flags value ∷ other) t m v

-- ---- parameters

-- neither known nor skipped without a word
abbrev pub is_unknown_parameter : Typed → Bool
is_unknown_parameter x = not (is_known_parameter x.kind || is_passed_over x.kind)

-- an unknown one behind which nothing is looked at
abbrev pub stops_list : Typed → Bool
stops_list x = is_unknown_parameter x && (parameter_rule x.kind).stop

-- an unknown one that is reported where it is looked at
abbrev pub is_told_parameter : Typed → Bool
is_told_parameter x = is_unknown_parameter x && (parameter_rule x.kind).report

-- one that is acted on where it is looked at
abbrev pub is_acted_on : Typed → Bool
is_acted_on x = is_known_parameter x.kind

-- The parameters of a chunk, by the rule.
pub record AreByParameterRule (xs : List Typed) : Type 0 where
  pub acted_on : parameters_acted_on xs ≡ filter is_acted_on (up_to stops_list xs)
  pub reported : parameters_reported xs ≡ filter is_told_parameter (up_to stops_list xs)
