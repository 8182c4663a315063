-- A run of events of the two endpoints alone meets the premises.
use Rattle.std.proofs.Common.{◌≡◌, ◌&&◌, Bool, true, false, List, [], ◌∷◌, ◌++◌, Option, Some, inl, inr, subst}
use Rattle.std.proofs.lemmas.Bool.{and_parts}
use Rattle.sctp_model.specs.numbers.Lists.{Has}
use Rattle.sctp_model.specs.end.Sealing.{Sealing}
use Rattle.sctp_model.specs.end.EndView.{Draw}
use Rattle.sctp_model.specs.world.World.{World}
use Rattle.sctp_model.specs.world.Events.{Event, OpenBoth, Foreign, Outcome}
use Rattle.sctp_model.specs.world.Steps.{Run, Rest, Then}
use Rattle.sctp_model.specs.world.Premises.{FreshAndUnforged}

-- not a third party's packet, and not `open`
abbrev pub is_ours : Event → Bool
is_ours (Foreign x p) = false
is_ours e = true

abbrev pub is_by_packets : Event → Bool
is_by_packets (OpenBoth x y) = false
is_by_packets e = true

abbrev pub are_all : (Event → Bool) → List Event → Bool
are_all test [] = true
are_all test (e ∷ es) = test e && are_all test es

each_of : (test : Event → Bool) (es : List Event) (e : Event) → are_all test es ≡ true → Has es e → test e ≡ true
each_of test [] e all h = absurd h
each_of test (x ∷ es) e all (inl q) = subst (λ (y : Event). test y ≡ true) q (and_parts (test x) (are_all test es) all).0
each_of test (x ∷ es) e all (inr h) = each_of test es e (and_parts (test x) (are_all test es) all).1 h

pub premises_of_ours : (s : Sealing) (es : List Event) → are_all is_ours es ≡ true → FreshAndUnforged s es
premises_of_ours s es all x p has = absurd (let q : false ≡ true = each_of is_ours es (Foreign x (Some p)) all has in cc)

pub opened_by_packets : (es : List Event) → are_all is_by_packets es ≡ true → (x y : Draw) → Has es (OpenBoth x y) → ⊥
opened_by_packets es all x y has = let q : false ≡ true = each_of is_by_packets es (OpenBoth x y) all has in cc

-- ---- one run after another

pub run_on : (u v w : World) (es fs : List Event) (os ps : List (Option Outcome)) → Run u es os v → Run v fs ps w → Run u (es ++ fs) (os ++ ps) w
run_on u v w es fs os ps (Rest _) b = b
run_on u v w es fs os ps (Then _ mid _ e rest o others step run) b = Then u mid w e (rest ++ fs) o (others ++ ps) step (run_on mid v w rest fs others ps run b)
