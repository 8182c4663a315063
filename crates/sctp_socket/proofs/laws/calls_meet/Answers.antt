use Rattle.sctp_socket.proofs.MeetingLaws as laws
use Rattle.sctp_socket.proofs.laws.calls_meet.Goals as goal

pub returns-clause-one : goal.returns-clause-one
returns-clause-one c = laws.one_call_wins

pub returns-clause-caller : goal.returns-clause-caller
returns-clause-caller c = laws.callers_take

pub returns-clause-older : goal.returns-clause-older
returns-clause-older c = laws.older_are_ignored

pub returns-clause-barred : goal.returns-clause-barred
returns-clause-barred c = laws.barred_are_ignored

pub returns-clause-tags : goal.returns-clause-tags
returns-clause-tags c = laws.tags_serve_once
