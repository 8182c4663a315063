use Rattle.std.proofs.Common.{◌≡◌, List, [], ◌∷◌, ap, subst, ◌∙◌, arith}
use Rattle.std.proofs.lemmas.Grind.{common_steps}
use Rattle.sctp_model.specs.receiver.ReceiverView.{ReceiverView}
use Rattle.sctp_reconfig.specs.Reading.{ParameterMeaning, ListAtMost}
use Rattle.sctp_reconfig.specs.Meanings.{parameter_meaning}
use Rattle.sctp_recv.specs.Requests.{all_requested}
use Rattle.sctp_recv.proofs.parameters.first_request.Goals as goal

pub loop-parameter-preserved : goal.loop-parameter-preserved
loop-parameter-preserved c =
    let p = parameter_meaning c.in-Some.parameter in
    let left = c.next.new.self in
    let is : c.loop-parameter.parameters ≡ p ∷ left = grind (arith, common_steps) in
    record {
      acts = λ limit t v.
          c.loop-parameter.invariant.acts limit t v
          ∙ ap (λ (ps : List ParameterMeaning). all_requested limit t v ps) is
          ∙ ap (λ (u : ReceiverView). all_requested limit t u left) (c.is_request.ensures c.if-is_request.false limit t v);
      lists = λ n all. (subst (λ (ps : List ParameterMeaning). ListAtMost n ps) is (c.loop-parameter.invariant.lists n all)).1;
    }

pub returns-then-is_request-clause-acts : goal.returns-then-is_request-clause-acts
returns-then-is_request-clause-acts c = λ limit t v.
    let p = parameter_meaning c.in-Some.parameter in
    let left = c.next.new.self in
    let is : c.loop-parameter.parameters ≡ p ∷ left = grind (arith, common_steps) in
    c.loop-parameter.invariant.acts limit t v ∙ ap (λ (ps : List ParameterMeaning). all_requested limit t v ps) is

pub returns-then-is_request-clause-lists : goal.returns-then-is_request-clause-lists
returns-then-is_request-clause-lists c = λ n all.
    let p = parameter_meaning c.in-Some.parameter in
    let left = c.next.new.self in
    let is : c.loop-parameter.parameters ≡ p ∷ left = grind (arith, common_steps) in
    subst (λ (ps : List ParameterMeaning). ListAtMost n ps) is (c.loop-parameter.invariant.lists n all)

pub returns-clause-acts : goal.returns-clause-acts
returns-clause-acts c = λ limit t v.
    let is : c.loop-parameter.parameters ≡ [] = grind (arith, common_steps) in
    c.loop-parameter.invariant.acts limit t v ∙ ap (λ (ps : List ParameterMeaning). all_requested limit t v ps) is
