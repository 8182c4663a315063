use Rattle.sctp_congestion.proofs.MissLemmas.{misses_later}
use Rattle.sctp_congestion.proofs.pacing.Pacing.stays.Goals as goal

pub returns : goal.returns
returns c = λ f cum later p stands more. record {
  trips = stands.trips;
  misses = misses_later cum later c.args.self.now.misses p.misses stands.misses more;
  control = stands.control;
  header = stands.header;
}
