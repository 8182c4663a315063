-- A chunk of an unknown type by the rule; and of parameters what is acted on and reported is what the rule picks from those up to the first one that stops.
use Rattle.std.proofs.Common.{◌≡◌, ℕ, ◌/◌, ◌%◌, ◌<◌, Bool, true, false, List, [], ◌∷◌, ◌++◌, refl, ◌∙◌, ap, sym, arith, ⊎_elim, ◌≢◌}
use Rattle.std.specs.Prelude.{◌==◌, not, if◌then◌else◌, ◌&&◌, ◌||◌}
use Rattle.std.specs.List.{filter}
use Rattle.std.proofs.lemmas.Bool.{lt-ltb, le-ltb}
use Rattle.std.proofs.lemmas.Bool.Decides.{eqb_tells}
use Rattle.sctp_model.specs.wire.Chunk.{Unknown}
use Rattle.sctp_model.specs.wire.Typed.{Typed}
use Rattle.sctp_model.specs.wire.Unknown.{RuleMeaning, chunk_rule, parameter_rule, reported_before, is_known_parameter, is_passed_over}
use Rattle.sctp_model.specs.end.EndView.{EndView}
use Rattle.sctp_model.specs.end.Reports.{causes_with, with_causes}
use Rattle.sctp_model.specs.end.PeerFaults.{After, GoesOn, Ends, PassedOver, Replies, Drops}
use Rattle.sctp_model.specs.end.Closing.{rested}
use Rattle.sctp_model.specs.wire.Reconfig.{RECONFIG}
use Rattle.sctp_model.specs.end.Reconfiguring.{takes_reconfig}
use Rattle.sctp_model.specs.end.Acting.{OtherActs, ReconfigComes, IsUnknown, unknown_item, may_report, unknown_causes, unknown_leaves, unknown_acts}
use Rattle.sctp_model.specs.end.Arriving.{Next, Passes, Last, EndsAnswered, Stopped, noted}
use Rattle.sctp_wire.specs.UnknownLaws.{IsByTwoBits, ActsByTwoBits, LooksNoFurther, is_told_parameter, is_acted_on, AreByParameterRule}

-- ---- bits

pub chunk_bits : (kind : ℕ) → IsByTwoBits (kind / 64) (chunk_rule kind)
chunk_bits kind = record {
  stops = λ e. let low = lt-ltb kind 128 (omega arith) in let even : kind / 64 % 2 ≡ 0 = omega arith in rw (low, even) refl;
  stops_reported = λ e. let low = lt-ltb kind 128 (omega arith) in let odd : kind / 64 % 2 ≡ 1 = omega arith in rw (low, odd) refl;
  skipped = λ e. let high = le-ltb kind 128 (omega arith) in let even : kind / 64 % 2 ≡ 0 = omega arith in rw (high, even) refl;
  skipped_reported = λ e. let high = le-ltb kind 128 (omega arith) in let odd : kind / 64 % 2 ≡ 1 = omega arith in rw (high, odd) refl;
}

pub parameter_bits : (kind : ℕ) → IsByTwoBits (kind / 16384) (parameter_rule kind)
parameter_bits kind = record {
  stops = λ e. let low = lt-ltb kind 32768 (omega arith) in let even : kind / 16384 % 2 ≡ 0 = omega arith in rw (low, even) refl;
  stops_reported = λ e. let low = lt-ltb kind 32768 (omega arith) in let odd : kind / 16384 % 2 ≡ 1 = omega arith in rw (low, odd) refl;
  skipped = λ e. let high = le-ltb kind 32768 (omega arith) in let even : kind / 16384 % 2 ≡ 0 = omega arith in rw (high, even) refl;
  skipped_reported = λ e. let high = le-ltb kind 32768 (omega arith) in let odd : kind / 16384 % 2 ≡ 1 = omega arith in rw (high, odd) refl;
}

-- ---- chunks

-- the machine's telling, with the rule apart
abbrev by_rule : EndView → ℕ → ℕ → List ℕ → RuleMeaning → After
by_rule e kind flags value r = unknown_leaves r.stop (with_causes (if r.report && may_report e.phase then causes_with e (unknown_item kind flags value) else e.due.causes) e)

pub acts_by_bits : (e : EndView) (kind flags : ℕ) (value : List ℕ) → ActsByTwoBits (kind / 64) e kind flags value
acts_by_bits e kind flags value = record {
  stops = λ is. ap (by_rule e kind flags value) ((chunk_bits kind).stops is);
  stops_reported = λ is. ap (by_rule e kind flags value) ((chunk_bits kind).stops_reported is);
  skipped = λ is. ap (by_rule e kind flags value) ((chunk_bits kind).skipped is);
  skipped_reported = λ is. ap (by_rule e kind flags value) ((chunk_bits kind).skipped_reported is);
}

-- such a chunk ends its packet
ends_packet : (e : EndView) (kind flags : ℕ) (value : List ℕ) → kind / 64 < 2 → (t : EndView) × (unknown_acts e kind flags value ≡ Ends t)
ends_packet e kind flags value low =
    (with_causes (unknown_causes e kind flags value) e, ap (λ (b : Bool). unknown_leaves b (with_causes (unknown_causes e kind flags value) e)) (lt-ltb kind 128 (omega arith)))

-- its type is not RE-CONFIG's
not_reconfig : (e : EndView) (kind : ℕ) → kind / 64 < 2 → takes_reconfig e kind ≡ false
not_reconfig e kind low =
    ⊎_elim (λ (y : ((kind == RECONFIG) ≡ true) × (kind ≡ RECONFIG)). let is = y.1 in absurd (omega arith)) (λ (no : ((kind == RECONFIG) ≡ false) × (kind ≢ RECONFIG)). rw no.0 refl) (eqb_tells kind RECONFIG)

-- so it acts as one of an unknown type
acts_as_unknown : (e : EndView) (kind flags : ℕ) (value : List ℕ) (a : After) → kind / 64 < 2 → OtherActs e kind flags value a → a ≡ unknown_acts e kind flags value
acts_as_unknown e kind flags value a low (ReconfigComes c takes at) = let q : true ≡ false = sym takes ∙ not_reconfig e kind low in absurd (cc)
acts_as_unknown e kind flags value a low (IsUnknown b off same) = same

pub looks_no_further : (kind flags : ℕ) (value : List ℕ) → LooksNoFurther kind flags value
looks_no_further kind flags value tag e n [] back other t m v low (Next _ mid _ k _ _ _ _ _ act rest) = let u = ends_packet e kind flags value low in let q : GoesOn k mid ≡ Ends u.0 = acts_as_unknown e kind flags value _ low act ∙ u.1 in absurd (cc)
looks_no_further kind flags value tag e n [] back other t m v low (Passes _ _ _ _ _ _ _ act rest) = let u = ends_packet e kind flags value low in let q : PassedOver ≡ Ends u.0 = acts_as_unknown e kind flags value _ low act ∙ u.1 in absurd (cc)
looks_no_further kind flags value tag e n [] back other t m v low (Last _ _ _ _ _ act) = Last e t n (Unknown kind flags value) other act
looks_no_further kind flags value tag e n [] back other t m v low (EndsAnswered _ _ _ _ _ p act) = let u = ends_packet e kind flags value low in let q : Replies t p ≡ Ends u.0 = acts_as_unknown e kind flags value _ low act ∙ u.1 in absurd (cc)
looks_no_further kind flags value tag e n [] back other t m v low (Stopped _ _ _ _ r act) = let u = ends_packet e kind flags value low in let q : Drops r ≡ Ends u.0 = acts_as_unknown e kind flags value _ low act ∙ u.1 in absurd (cc)
looks_no_further kind flags value tag e n (x ∷ front) back other t m v low (Next _ mid _ k _ _ _ _ _ act rest) =
    Next e mid t k n m x (front ++ Unknown kind flags value ∷ other) v act (looks_no_further kind flags value tag (rested mid) (noted k n) front back other t m v low rest)
looks_no_further kind flags value tag e n (x ∷ front) back other t m v low (Passes _ _ _ _ _ _ _ act rest) =
    Passes e t n m x (front ++ Unknown kind flags value ∷ other) v act (looks_no_further kind flags value tag e n front back other t m v low rest)
looks_no_further kind flags value tag e n (x ∷ front) back other t m v low (Last _ _ _ _ _ act) = Last e t n x (front ++ Unknown kind flags value ∷ other) act
looks_no_further kind flags value tag e n (x ∷ front) back other t m v low (EndsAnswered _ _ _ _ _ p act) = EndsAnswered e t n x (front ++ Unknown kind flags value ∷ other) p act
looks_no_further kind flags value tag e n (x ∷ front) back other t m v low (Stopped _ _ _ _ r act) = Stopped e n x (front ++ Unknown kind flags value ∷ other) r act

-- ---- parameters

-- one that is told, or not, before what is told of the others
told_before : {X : Type 0} (told : X → Bool) (stops t : Bool) (x : X) (later : List X) (rest : List X) → told x ≡ t → later ≡ filter told rest
    → reported_before t x (if stops then [] else later) ≡ filter told (x ∷ (if stops then [] else rest))
told_before told true true x later rest e same = rw e refl
told_before told true false x later rest e same = rw e refl
told_before told false true x later rest e same = rw e (ap (λ xs. x ∷ xs) same)
told_before told false false x later rest e same = rw e same

acted_by : (known passed stop report : Bool) (x : Typed) (later rest : List Typed) → is_acted_on x ≡ known → later ≡ filter is_acted_on rest
    → (if known then x ∷ later else if passed then later else if stop then [] else later) ≡ filter is_acted_on (x ∷ (if not (known || passed) && stop then [] else rest))
acted_by true passed stop report x later rest e same = rw e (ap (λ (xs : List Typed). x ∷ xs) same)
acted_by false true stop report x later rest e same = rw e same
acted_by false false true report x later rest e same = rw e refl
acted_by false false false report x later rest e same = rw e same

told_by : (known passed stop report : Bool) (x : Typed) (later rest : List Typed) → is_told_parameter x ≡ (not (known || passed) && report) → later ≡ filter is_told_parameter rest
    → (if known || passed then later else reported_before report x (if stop then [] else later)) ≡ filter is_told_parameter (x ∷ (if not (known || passed) && stop then [] else rest))
told_by true passed stop report x later rest e same = rw e same
told_by false true stop report x later rest e same = rw e same
told_by false false stop report x later rest e same = told_before is_told_parameter stop report x later rest e same

pub parameters_by_rule : (xs : List Typed) → AreByParameterRule xs
parameters_by_rule [] = record { acted_on = refl; reported = refl }
parameters_by_rule (x ∷ xs) =
    let later = parameters_by_rule xs in
    let rule = parameter_rule x.kind in
    let known = is_known_parameter x.kind in
    let passed = is_passed_over x.kind in
    record { acted_on = acted_by known passed rule.stop rule.report x _ _ refl later.acted_on; reported = told_by known passed rule.stop rule.report x _ _ refl later.reported }
