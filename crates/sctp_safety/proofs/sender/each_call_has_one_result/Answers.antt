use Rattle.sctp_safety.proofs.sending.SenderCalls.{each_view_has_one_fill, each_view_has_one_point, each_plan_has_one_forward, forward_is_given, forward_end_is_given}
use Rattle.sctp_safety.proofs.sender.each_call_has_one_result.Goals as goal

pub returns-clause-fill : goal.returns-clause-fill
returns-clause-fill c = each_view_has_one_fill

pub returns-clause-point : goal.returns-clause-point
returns-clause-point c = each_view_has_one_point

pub returns-clause-forward : goal.returns-clause-forward
returns-clause-forward c = each_plan_has_one_forward

pub returns-clause-given : goal.returns-clause-given
returns-clause-given c = forward_is_given

pub returns-clause-upto : goal.returns-clause-upto
returns-clause-upto c = forward_end_is_given
