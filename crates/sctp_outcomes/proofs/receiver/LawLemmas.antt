-- The laws of what is computed, from the lemmas on each part and the laws that each step has one result.
use Rattle.std.proofs.Common.{◌≡◌, List, Option, Some, None, refl, sym, subst}
use Rattle.sctp_model.specs.messages.Pieces.{Piece}
use Rattle.sctp_model.specs.receiver.ReceiverView.{ReceiverView}
use Rattle.sctp_model.specs.receiver.PieceTaken.{PieceAnswer, PieceTaken, answer_to}
use Rattle.sctp_model.specs.receiver.ForwardTaken.{ForwardAnswer, ForwardTaken, forward_answer}
use Rattle.sctp_model.proofs.receiver.OneWhole.{number_only, with_only, due_only}
use Rattle.sctp_model.proofs.receiver.OneStep.{piece_only, forward_only}
use Rattle.sctp_outcomes.specs.receiver.Wholes.{whole_number, whole_with}
use Rattle.sctp_outcomes.specs.receiver.Steps.{piece_step, forward_step}
use Rattle.sctp_outcomes.specs.receiver.StepLaws.{WholesAreAll, IsNumberFound, NumberIsComputed, NumberIsOne, IsWithFound, WithIsComputed, WithIsOne, DueIsOne, PiecesAreTakenSo, ForwardsAreTakenSo}
use Rattle.sctp_outcomes.proofs.receiver.WholesLemmas.{wholes_are, has_wholes}
use Rattle.sctp_outcomes.proofs.receiver.NumberLemmas.{whole_is, none_whole, with_is, none_with}
use Rattle.sctp_outcomes.proofs.receiver.StepsLemmas.{piece_steps, forward_steps}

pub wholes_are_all : WholesAreAll
wholes_are_all f kept xs = (wholes_are f kept xs, λ h. has_wholes f kept xs h.0 h.1)

pub number_is_computed : NumberIsComputed
number_is_computed f kept l n = go (whole_number f kept l n) refl
  where
    go : (o : Option (List Piece)) → whole_number f kept l n ≡ o → IsNumberFound f kept l n o
    go None e = none_whole f kept l n e
    go (Some w) e = whole_is f kept l n w e

pub number_is_one : NumberIsOne
number_is_one f kept xs ys l n apart one other = number_only f kept l n apart xs ys one.0 one.1 other.0 other.1

pub with_is_computed : WithIsComputed
with_is_computed f kept y = go (whole_with f kept y) refl
  where
    go : (o : Option (List Piece)) → whole_with f kept y ≡ o → IsWithFound f kept y o
    go None e = none_with f kept y e
    go (Some w) e = with_is f kept y w e

pub with_is_one : WithIsOne
with_is_one f kept xs ys y apart one other = with_only f kept y apart xs ys one other

pub due_is_one : DueIsOne
due_is_one f r s n m o ms os apart one other = due_only f r s apart n ms m os o one other

pub pieces_so : PiecesAreTakenSo
pieces_so f r t c p a o h = (λ g. piece_only f r p a (answer_to f r c p) t (piece_step f r c p) o g (piece_steps f r c p h), back)
  where
    back : (a ≡ answer_to f r c p) × (t ≡ piece_step f r c p) → PieceTaken f r p a t
    back (e, d) =
        subst (λ (b : PieceAnswer). PieceTaken f r p b t) (sym e)
        (subst (λ (u : ReceiverView). PieceTaken f r p (answer_to f r c p) u) (sym d) (piece_steps f r c p h))

pub forwards_so : ForwardsAreTakenSo
forwards_so f r t c x a apart h = (λ g. forward_only f r x a (forward_answer r c x) t (forward_step f r c x) apart g (forward_steps f r c x h), back)
  where
    back : (a ≡ forward_answer r c x) × (t ≡ forward_step f r c x) → ForwardTaken f r x a t
    back (e, d) =
        subst (λ (b : ForwardAnswer). ForwardTaken f r x b t) (sym e)
        (subst (λ (u : ReceiverView). ForwardTaken f r x (forward_answer r c x) u) (sym d) (forward_steps f r c x h))
