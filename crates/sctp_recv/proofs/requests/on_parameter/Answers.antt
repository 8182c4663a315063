use Rattle.std.proofs.Common.{Some, sym, subst}
use Rattle.sctp_reconfig.specs.Meanings.{parameter_meaning}
use Rattle.sctp_reconfig.specs.declared.parameter.Parameter.{Parameter}
use Rattle.sctp_recv.specs.Requests.{requested}
use Rattle.sctp_recv.specs.Resets.{resets_of, KeepsResets}
use Rattle.sctp_recv.proofs.RequestLemmas.{kept_before}
use Rattle.sctp_recv.proofs.requests.on_parameter.Goals as goal

pub returns-in-OtherRequest-clause-stands : goal.returns-in-OtherRequest-clause-stands
returns-in-OtherRequest-clause-stands g c = λ k v t most before short fits.
    let f = g.F.Framing.format in
    let kept = kept_before f c.args.streams.now c.args.cumulative c.args.limit c.args.resets.now k v t before in
    subst (λ (p : Parameter). KeepsResets f (Some (resets_of c.on_other.new.resets)) v.initial v.streams v.taken (requested c.args.limit t v (parameter_meaning p)).resets) (sym c.in-OtherRequest.is)
    (c.on_other.ensures.denied f v kept before.space)
