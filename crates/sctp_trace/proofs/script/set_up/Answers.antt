use Rattle.std.proofs.Common.{Option, Some, ap}
use Rattle.std.specs.Option.{is_some}
use Rattle.sctp_model.specs.world.World.{start}
use Rattle.sctp_events.specs.Setups.{setup_with}
use Rattle.sctp_script.specs.PlacedAnswer.{place_at}
use Rattle.sctp_pair.specs.declared.pair.Pair.{Pair}
use Rattle.sctp_pair.specs.PairStands.{PairStands}
use Rattle.sctp_trace.specs.Stages.{LISTENER_KEY}
use Rattle.sctp_trace.proofs.script.set_up.Goals as goal

pub returns-in-Ok : goal.returns-in-Ok
returns-in-Ok c =
    let s = c.keys_have_seals.ensures.some LISTENER_KEY in
    let starts : PairStands c.in-Ok.made (start (setup_with c.args.configs.now.a c.args.configs.now.b s.0)) = c.in-Ok.ensures s.0 s.1 in
    (s.0, s.1, (rw c.replace.ensures.after starts, ap (λ (o : Option Pair). place_at (is_some o) (record { fresh = Some c.args.configs.now; with_options = c.args.with_options })) c.replace.ensures.after))
