use Rattle.sctp_channels.proofs.NextChannel.{courses_keep_places}
use Rattle.sctp_channels.proofs.Promised.{resets_are_noted, places_are_kept}
use Rattle.sctp_channels.proofs.laws.resets_are_noted.Goals as goal

pub returns-clause-noted : goal.returns-clause-noted
returns-clause-noted c = resets_are_noted

pub returns-clause-kept : goal.returns-clause-kept
returns-clause-kept c = places_are_kept

pub returns-clause-course : goal.returns-clause-course
returns-clause-course c = courses_keep_places
