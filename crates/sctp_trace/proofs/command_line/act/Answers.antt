use Rattle.std.proofs.Common.{rules, refl, []}
use Rattle.sctp_trace.proofs.command_line.act.Goals as goal

pub returns-in-Run-clause-acts : goal.returns-in-Run-clause-acts
returns-in-Run-clause-acts g c =
    let ran = c.run.ensures.runs in
    (ran.0, ran.1, ran.2, ran.3, ran.4, ran.5, rw c.in-Run.is ran.6)

-- nothing is read or said
pub returns-in-Packet-clause-acts : goal.returns-in-Packet-clause-acts
returns-in-Packet-clause-acts g c =
    let printed = c.print_packet_of.ensures.prints in
    ([], printed.0, [], search rules, printed.1, search rules, rw c.in-Packet.is (refl, refl, printed.2))

pub returns-in-Chunks-clause-acts : goal.returns-in-Chunks-clause-acts
returns-in-Chunks-clause-acts g c =
    let printed = c.print_chunks_of.ensures.prints in
    ([], printed.0, [], search rules, printed.1, search rules, rw c.in-Chunks.is (refl, refl, printed.2))
