use Rattle.std.proofs.Common.{◌≡◌, Option, Some, sym, ◌∙◌, ap, subst}
use Rattle.sctp_recv.specs.Fields.{unboxed, inside}
use Rattle.sctp_recv.specs.Filed.{Keeps}
use Rattle.sctp_recv.proofs.FiledLemmas.{same_lanes}
use Rattle.sctp_recv.proofs.stream.take_first.Goals as goal

pub returns-in-Some-clause-chunks : goal.returns-in-Some-clause-chunks
returns-in-Some-clause-chunks g c = λ u l kept stands.
    let f = g.F.Framing.format in
    let old = c.deref_mut.result.now in
    let is : inside c.args.stream.now ≡ Some old = ap unboxed c.in-Some.is ∙ ap Some (sym c.deref_mut.ensures.value) in
    same_lanes f old (record old { waiting = c.give_back.new.waiting }) ((λ k ks so. so), (λ k ks so. so)) u l kept (subst (λ (o : Option _). Keeps f o u l kept) is stands)
