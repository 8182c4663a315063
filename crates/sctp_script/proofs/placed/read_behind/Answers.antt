use Rattle.std.proofs.Common.{inl}
use Rattle.sctp_script.proofs.PlaceLemmas.{behind_says}
use Rattle.sctp_script.proofs.placed.read_behind.Goals as goal

pub returns-in-Ok-Some : goal.returns-in-Ok-Some
returns-in-Ok-Some c = inl (rw c.in-Ok-Some.field-0-is at c.in-Ok-Some.ensures)

pub returns-in-Ok-None : goal.returns-in-Ok-None
returns-in-Ok-None c = behind_says c.args.with_options c.args.configs.a c.args.configs.b c.args.line.now c.read_paired.result (rw c.in-Ok-None.field-0-is at c.in-Ok-None.ensures) c.read_paired.ensures

pub returns-in-Err : goal.returns-in-Err
returns-in-Err c = let (is, x, gs, line, none) = c.in-Err.ensures in inl (x, gs, line, (is, none))
