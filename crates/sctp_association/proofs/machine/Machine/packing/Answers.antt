use Rattle.std.proofs.Common.{◌∙◌, sym}
use Rattle.sctp_association.specs.MachineStands.{MachineStands}
use Rattle.sctp_association.proofs.machine.Machine.packing.Goals as goal

pub returns-clause-empty : goal.returns-clause-empty
unfolding MachineStands
returns-clause-empty c = λ v moment before.
    let stands = c.empty_packet-writer.ensures.keeps v before in
    let fresh = c.empty_packet-writer.ensures.empty v before in
    record {
      packet = record {
        options = fresh.options;
        limit = fresh.limit;
        source = fresh.source;
        destination = fresh.destination;
        tag = fresh.tag;
        sack = λ still. sym stands.due.sack ∙ (sym c.of.ensures.sack ∙ still);
      };
      chunks = fresh.chunks;
      same = c.of.ensures.same (record v { moment = moment }) stands.due;
    }
