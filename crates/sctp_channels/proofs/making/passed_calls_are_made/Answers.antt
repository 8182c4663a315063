use Rattle.sctp_channels.proofs.MadePassed.{connects_are_made, abandons_are_made, shutdowns_are_made, aborts_are_made, times_are_made}
use Rattle.sctp_channels.proofs.making.passed_calls_are_made.Goals as goal

pub returns-clause-connects : goal.returns-clause-connects
returns-clause-connects c = connects_are_made

pub returns-clause-shuts : goal.returns-clause-shuts
returns-clause-shuts c = shutdowns_are_made

pub returns-clause-aborts : goal.returns-clause-aborts
returns-clause-aborts c = aborts_are_made

pub returns-clause-times : goal.returns-clause-times
returns-clause-times c = times_are_made

pub returns-clause-abandons : goal.returns-clause-abandons
returns-clause-abandons c = abandons_are_made
