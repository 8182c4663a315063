use Rattle.sctp_channels.proofs.MadePackets.{hears_made, transmits_made}
use Rattle.sctp_channels.proofs.making.packets_are_made.Goals as goal

pub returns-clause-hears : goal.returns-clause-hears
returns-clause-hears c = hears_made

pub returns-clause-transmits : goal.returns-clause-transmits
returns-clause-transmits c = transmits_made
