-- The steps of an endpoint alone.
use Rattle.sctp_model.specs.receiver.Laws.{IsOrdinary}
use Rattle.sctp_model.specs.end.EndView.{EndView, format_of}
use Rattle.sctp_outcomes.specs.OneEnd.{IsReal, ActIsOne, BuildIsOne}
use Rattle.sctp_outcomes.proofs.Receivers.{Whatever, holds_arrives, holds_builds}
use Rattle.sctp_outcomes.proofs.Bounded.{IsBounded, bounded_law}
use Rattle.sctp_outcomes.proofs.Ordinary.{ordinary_law}
use Rattle.sctp_outcomes.proofs.TotalPackets.{arrived}
use Rattle.sctp_outcomes.proofs.TotalBuilds.{built}
use Rattle.sctp_outcomes.proofs.OnePacket.{one_arrives}
use Rattle.sctp_outcomes.proofs.OneBuild.{one_built}

bounded : (e : EndView) → IsReal e → IsBounded (format_of e) e.receiver
bounded e r = record { bound = r.bound; within = r.within }

real : (e : EndView) → IsOrdinary (format_of e) e.receiver → IsBounded (format_of e) e.receiver → IsReal e
real e o b = record { ordinary = o; bound = b.bound; within = b.within }

pub act_is_one : ActIsOne
act_is_one e r = record {
  some = λ d p. let a = arrived e d p (bounded e r) in (a.last, a.verdict, a.arrives);
  one = λ d p t u v w a b. one_arrives e d p t u v w r.ordinary a b;
  real = λ d p t v a. real t (holds_arrives (Whatever IsOrdinary) ordinary_law e d p t v r.ordinary a) (holds_arrives (Whatever IsBounded) bounded_law e d p t v (bounded e r) a);
}

pub build_is_one : BuildIsOne
build_is_one e r = record {
  some = let b = built e (bounded e r) in (b.chunks, b.left, b.builds);
  one = λ xs ys t u a b. one_built e xs ys t u a b;
  real = λ xs t b. real t (holds_builds (Whatever IsOrdinary) ordinary_law e xs t r.ordinary b) (holds_builds (Whatever IsBounded) bounded_law e xs t (bounded e r) b);
}
