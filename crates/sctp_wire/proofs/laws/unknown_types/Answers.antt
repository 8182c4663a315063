use Rattle.sctp_wire.proofs.UnknownLemmas.{chunk_bits, parameter_bits, acts_by_bits, looks_no_further, parameters_by_rule}
use Rattle.sctp_wire.proofs.laws.unknown_types.Goals as goal

pub returns : goal.returns
returns c =
    record { chunk_bits = chunk_bits; parameter_bits = parameter_bits; chunks = acts_by_bits; packet = looks_no_further; parameters = parameters_by_rule }
