use Rattle.sctp_recv.proofs.ResetsStay.{piece_resets, forward_resets, take_resets}
use Rattle.sctp_recv.proofs.laws.resets_stay.Goals as goal

pub returns : goal.returns
returns c = record { piece = piece_resets; forward = forward_resets; take = take_resets }
