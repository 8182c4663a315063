use Rattle.std.proofs.Common.{refl}
use Rattle.std.proofs.lemmas.List.{take_rest}
use Rattle.sctp_reconfig.proofs.parameter.read_reset.Goals as goal

pub returns : goal.returns
returns c =
    let value = c.args.value.now in
    rw (c.read_u32.ensures, c.read_u32-2.ensures, c.new.ensures, take_rest value 8, take_rest value 12) refl
