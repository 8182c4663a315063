use Rattle.std.proofs.Common.{◌≡◌, List, [], ◌∷◌, Some, refl, sym, ◌∙◌, ap, subst, arith}
use Rattle.std.proofs.lemmas.Grind.{common_steps}
use Rattle.sctp_model.specs.receiver.ReceiverView.{ReceiverView}
use Rattle.sctp_reconfig.specs.Reading.{ParameterMeaning, ListAtMost}
use Rattle.sctp_reconfig.specs.Meanings.{parameter_meaning}
use Rattle.sctp_recv.specs.Requests.{requested, all_requested}
use Rattle.sctp_recv.specs.Resets.{resets_of, KeepsResets}
use Rattle.sctp_recv.proofs.ResetLemmas.{keeps_resets}
use Rattle.sctp_recv.proofs.RequestLemmas.{requested_else}
use Rattle.sctp_recv.proofs.requests.on_parameters.Goals as goal

pub loop-parameter-init : goal.loop-parameter-init
loop-parameter-init g c =
    let limit = c.args.limit in
    let p = parameter_meaning c.args.first in
    let given = c.into_iter-parameter-iterator.ensures.into_iter_gives in
    record {
      space = c.on_parameter.ensures.space;
      room = c.on_parameter.ensures.room;
      lists = λ n all. subst (λ (ps : List ParameterMeaning). ListAtMost n ps) (sym given) all.1;
      stands = λ k v t n before all fits. (
        (requested limit t v p).resets,
        c.on_parameter.ensures.stands k v t n before all.0 fits,
        ap (λ (u : ReceiverView). all_requested limit t u c.into_iter-parameter-iterator.result) (sym (requested_else limit t v p))
            ∙ ap (λ (ps : List ParameterMeaning). all_requested limit t (requested limit t v p) ps) given,
      );
    }

pub loop-parameter-preserved : goal.loop-parameter-preserved
loop-parameter-preserved g c =
    let f = g.F.Framing.format in
    let limit = c.args.limit in
    let p = parameter_meaning c.in-Some.parameter in
    let own = c.loop-parameter.resets in
    let left = c.next.new.self in
    let inv = c.loop-parameter.invariant in
    let rest : c.loop-parameter.parameter-iterator ≡ p ∷ left = grind (arith, common_steps) in
    record {
      space = λ had. c.on_parameter-in-loop-parameter.ensures.space (inv.space had);
      room = let more = c.on_parameter-in-loop-parameter.ensures.room in let had = inv.room in omega (arith, more, had);
      lists = λ n all. (subst (λ (ps : List ParameterMeaning). ListAtMost n ps) rest (inv.lists n all)).1;
      stands = λ k v t n before all fits.
          let m = inv.stands k v t n before all fits in
          let here = subst (λ (ps : List ParameterMeaning). ListAtMost n ps) rest (inv.lists n all) in
          let had = inv.room in
          let w : ReceiverView = record v { resets = m.0 } in
          let step = c.on_parameter-in-loop-parameter.ensures.stands (record k { resets = Some (resets_of own) }) w t n (record {
            keeps = keeps_resets f k v (Some (resets_of own)) m.0 before.keeps m.1;
            resets = refl;
            streams = before.streams;
            cumulative = before.cumulative;
            space = inv.space before.space;
          }) here.0 (omega (arith, fits, had)) in (
            (requested limit t w p).resets,
            step,
            ap (λ (u : ReceiverView). all_requested limit t u left) (sym (requested_else limit t w p)) ∙ ap (λ (ps : List ParameterMeaning). all_requested limit t w ps) (sym rest) ∙ m.2,
          );
    }

pub returns : goal.returns
returns g c = λ k v t n before all fits.
    let limit = c.args.limit in
    let m = c.loop-parameter.invariant.stands k v t n before all fits in
    let w : ReceiverView = record v { resets = m.0 } in
    let none : c.loop-parameter.parameter-iterator ≡ [] = grind (arith, common_steps) in
    let same : w ≡ all_requested limit t v (parameter_meaning c.args.first ∷ c.args.others) = ap (λ (ps : List ParameterMeaning). all_requested limit t w ps) (sym none) ∙ m.2 in
    subst (λ (u : ReceiverView). KeepsResets g.F.Framing.format (Some (resets_of c.loop-parameter.resets)) v.initial v.streams v.taken u.resets) same m.1
