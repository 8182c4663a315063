-- What an acknowledgement takes back: the list that the sender made is the one that the pace asks for; a SHUTDOWN takes nothing back.
use Rattle.std.proofs.Common.{◌≡◌, ℕ, ◌≤◌, Bool, true, false, List, [], refl, sym, arith}
use Rattle.std.specs.Prelude.{nat_le, not, ◌&&◌, ◌||◌}
use Rattle.std.specs.List.{All}
use Rattle.sctp_model.specs.sender.SenderView.{SenderView}
use Rattle.sctp_model.specs.sender.SackTaken.{index_of, shutdown_taken}
use Rattle.sctp_model.specs.end.Misses.{is_taken_back}
use Rattle.sctp_send.specs.PaceAnswers.{AreTakenBack}
use Rattle.sctp_congestion.specs.Went.{AreThose}
use Rattle.sctp_association.specs.Weighing.{TakesNoneBack}

-- what is within one number is within a larger one
all_under : (m n : ℕ) (is : List ℕ) → m ≤ n → All (λ i. i ≤ m) is → All (λ i. i ≤ n) is
all_under m n is up low = λ k d there. let under = low k d there in omega (arith, under, up)

-- those that the sender lists, with memory for them
pub back_fits : (v u : SenderView) (highest room : ℕ) (is : List ℕ) → v.cum ≤ u.cum → AreTakenBack v u is → All (λ i. i ≤ highest) is → highest ≤ room
    → AreThose (is_taken_back v u) u.cum room is
back_fits v u highest room is rises back low fits = record {
  those = λ i above. back.those i (omega (arith, rises, above));
  within = all_under highest room is fits low;
}

-- none
pub none_fit : (v u : SenderView) (room : ℕ) → TakesNoneBack v u → AreThose (is_taken_back v u) u.cum room []
none_fit v u room none = record { those = λ i above. sym (none i above); within = λ k d there. omega (arith, there) }

-- a SHUTDOWN covers all that was covered
pub shut_keeps : (v : SenderView) (tsn : ℕ) → TakesNoneBack v (shutdown_taken v tsn)
shut_keeps v tsn i above = none (v.sent i) (v.covered i) (nat_le i (index_of v tsn))
  where
    none : (a b c : Bool) → (a && (b && not (c || b))) ≡ false
    none false b c = refl
    none true false c = refl
    none true true true = refl
    none true true false = refl
