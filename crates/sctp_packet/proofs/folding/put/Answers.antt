use Rattle.std.proofs.Common.{refl, arith}
use Rattle.std.proofs.lemmas.Grind.{common_steps, elements}
use Rattle.byteorder.specs.Endian.{little_bytes}
use Rattle.sctp_packet.proofs.RoomLemmas.{behind_word}
use Rattle.sctp_packet.proofs.folding.put.Goals as goal

pub returns-clause-behind : goal.returns-clause-behind
returns-clause-behind c = λ j high. behind_word c.args.at j c.args.bytes.now (little_bytes 8 c.args.value) c.write_u64.new.buf refl c.requires high c.write_u64.ensures

pub returns-clause-here : goal.returns-clause-here
returns-clause-here c = grind (arith, elements)

pub returns-clause-before : goal.returns-clause-before
returns-clause-before c = grind (arith, common_steps)
