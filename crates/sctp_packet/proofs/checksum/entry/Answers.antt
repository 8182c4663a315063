use Rattle.std.proofs.Common.{ℕ, sym, subst}
use Rattle.sctp_packet.specs.Tables.{IsEntry}
use Rattle.sctp_packet.proofs.StepBits.{entry_divides}
use Rattle.sctp_packet.proofs.TableLemmas.{entry_is}
use Rattle.sctp_packet.proofs.checksum.entry.Goals as goal

pub returns-clause-steps : goal.returns-clause-steps
returns-clause-steps c = entry_is c.args.place c.args.byte _ c.requires.place c.requires.byte

pub returns-clause-remainder : goal.returns-clause-remainder
returns-clause-remainder c =
    subst (λ (n : ℕ). IsEntry c.args.place c.args.byte n) (sym (returns-clause-steps c)) (entry_divides c.args.place c.args.byte c.requires.byte)
