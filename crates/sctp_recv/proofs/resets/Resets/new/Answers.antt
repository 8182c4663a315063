use Rattle.std.proofs.Common.{refl, ◌∙◌, ap, length, map, List}
use Rattle.sctp_recv.specs.declared.restart.Restart.{Restart}
use Rattle.sctp_recv.specs.declared.restart.ResetResponse.{ResetResponse}
use Rattle.sctp_recv.specs.Resets.{restart_at, response_of}
use Rattle.sctp_recv.proofs.ResetLemmas.{unreset_at, length_unreset}
use Rattle.sctp_recv.proofs.resets.Resets.new.Goals as goal

pub returns : goal.returns
returns c = record {
  last = c.tsn_of.ensures;
  result = refl;
  waited = refl;
  answers = ap (λ (xs : List ResetResponse). map response_of xs) c.new-3.ensures.items;
  restart = λ s. ap (λ (xs : List Restart). restart_at xs s) c.in_ok-streams.ensures ∙ unreset_at c.args.count s;
  told = c.in_ok-told.ensures.none;
  all = record {
    streams = ap (λ (xs : List Restart). length xs) c.in_ok-streams.ensures ∙ length_unreset c.args.count;
    bits = c.in_ok-told.ensures.fits;
  };
}
