use Rattle.sctp_model.specs.end.Control.{fresh_control}
use Rattle.sctp_model.specs.messages.Framing.{header_of}
use Rattle.std.specs.Prelude.{false}
use Rattle.sctp_congestion.proofs.PaceLemmas.{header_fresh}
use Rattle.sctp_congestion.proofs.pacing.Pacing.fresh.Goals as goal

pub returns : goal.returns
returns c = λ f header. record {
  trips = c.fresh.ensures;
  misses = c.fresh-2.ensures 0;
  control = c.fresh_window.ensures;
  header = header_fresh (header_of f) c.args.controls (fresh_control 1 false c.args.header c.args.pmdcs c.args.a_rwnd) header;
}
