use Rattle.std.proofs.Common.{◌≡◌, ℕ, ◌∷◌, Option, Some, refl, sym, ◌∙◌, ap, subst}
use Rattle.std.specs.declared.alloc.Global.{Global}
use Rattle.std.specs.declared.boxed.Box.{Box}
use Rattle.std.specs.Box.{with_value}
use Rattle.sctp_model.specs.numbers.Serial.{tsn}
use Rattle.sctp_model.specs.receiver.ReceiverView.{ReceiverView}
use Rattle.sctp_reconfig.specs.Meanings.{parameter_meaning}
use Rattle.sctp_recv.specs.declared.resets.Resets.{Resets}
use Rattle.sctp_recv.specs.KeptOf.{kept_of}
use Rattle.sctp_recv.specs.ResetsKept.{ResetsKept}
use Rattle.sctp_recv.specs.Requests.{all_requested}
use Rattle.sctp_recv.specs.Resets.{resets_of, resets_in, KeepsResets}
use Rattle.sctp_recv.specs.StandsFor.{StandsFor}
use Rattle.sctp_recv.specs.inner.Requesting.{IsBefore}
use Rattle.sctp_recv.proofs.ReceiverSteps.{cumulative_is}
use Rattle.sctp_recv.proofs.ResultLemmas.{if_err}
use Rattle.sctp_recv.proofs.ResetLemmas.{keeps_resets}
use Rattle.sctp_recv.proofs.RequestLemmas.{all_else}
use Rattle.sctp_recv.proofs.ReportLemmas.{stands_resets, made_kept}
use Rattle.sctp_recv.proofs.receiver.Receiver.on_all.Goals as goal

pub returns-in_err-make_resets-clause-refused : goal.returns-in_err-make_resets-clause-refused
returns-in_err-make_resets-clause-refused g c = λ v w.
    let f = g.F.Framing.format in
    let kept = made_kept f c.args.self.now v w c.make_resets.new.resets c.stream_count-count.result (c.stream_count-count.ensures v w) c.make_resets.ensures.same in
    if_err c.from_residual.result (stands_resets f c.args.self.now v c.make_resets.new.resets v.resets w kept)

pub returns-in_err-reserve-clause-refused : goal.returns-in_err-reserve-clause-refused
returns-in_err-reserve-clause-refused g c = λ v w.
    let f = g.F.Framing.format in
    let b = c.in-Some.made in
    let made = made_kept f c.args.self.now v w c.make_resets.new.resets c.stream_count-count.result (c.stream_count-count.ensures v w) c.make_resets.ensures.same in
    let here = subst (λ (o : Option (Box Resets Global)). KeepsResets f (resets_in o) v.initial v.streams v.taken v.resets) c.in-Some.is made in
    let same : resets_of c.reserve.new.self ≡ resets_of b.value = c.reserve.ensures.same ∙ ap resets_of c.deref_mut-resets.ensures.value in
    let kept = subst (λ (k : ResetsKept). KeepsResets f (Some k) v.initial v.streams v.taken v.resets) (sym same) here in
    if_err c.from_residual-in_err-reserve.result (stands_resets f c.args.self.now v (Some (with_value b c.reserve.new.self)) v.resets w kept)

pub returns-clause-step : goal.returns-clause-step
unfolding StandsFor
returns-clause-step g c = λ v w lists.
    let f = g.F.Framing.format in
    let r = c.args.self.now in
    let k = kept_of r in
    let s = r.seen.kept in
    let b = c.in-Some.made in
    let own = c.reserve.new.self in
    let made = made_kept f r v w c.make_resets.new.resets c.stream_count-count.result (c.stream_count-count.ensures v w) c.make_resets.ensures.same in
    let here = subst (λ (o : Option (Box Resets Global)). KeepsResets f (resets_in o) v.initial v.streams v.taken v.resets) c.in-Some.is made in
    let same : resets_of own ≡ resets_of b.value = c.reserve.ensures.same ∙ ap resets_of c.deref_mut-resets.ensures.value in
    let kept = subst (λ (n : ResetsKept). KeepsResets f (Some n) v.initial v.streams v.taken v.resets) (sym same) here in
    let wire = c.tsn_of-cumulative.ensures ∙ ap (λ (i : ℕ). tsn r.initial i) c.cumulative.ensures.value ∙ ap (λ (i : ℕ). tsn i s.cumulative) (sym w.0.initial) in
    let before : IsBefore f r.streams c.tsn_of-cumulative.result c.args.limit own (record k { resets = Some (resets_of own) }) v s.cumulative = record {
      keeps = keeps_resets f k v (Some (resets_of own)) v.resets w.0 kept;
      resets = refl;
      streams = refl;
      cumulative = wire;
      space = c.in_ok-reserve.ensures.space;
    } in
    let last = c.on_parameters.ensures (record k { resets = Some (resets_of own) }) v s.cumulative c.args.most before lists c.in_ok-reserve.ensures.room in
    let ps = parameter_meaning c.args.first ∷ c.args.others in
    let all = all_requested c.args.limit s.cumulative v ps in
    let stands = stands_resets f r v (Some (with_value b c.on_parameters.new.resets)) all.resets w last in
    (s.cumulative, cumulative_is s v w.0.seen, subst (λ (t : ReceiverView). StandsFor f (record r { resets = Some (with_value b c.on_parameters.new.resets) }) t) (sym (all_else c.args.limit s.cumulative v ps)) stands)
