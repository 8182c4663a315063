use Rattle.std.proofs.Common.{◌≡◌, ℕ, false, List, ◌∷◌, ◌==◌, length, map, inl, inr, refl, sym, ◌∙◌, ap, subst, arith}
use Rattle.std.specs.Prelude.{◌||◌}
use Rattle.std.proofs.lemmas.Grind.{common_steps}
use Rattle.std.proofs.lemmas.List.{length-map}
use Rattle.sctp_model.specs.sender.Outgoing.{lists}
use Rattle.sctp_model.specs.receiver.ResetTaken.{names}
use Rattle.sctp_recv.specs.Fields.{stream_of}
use Rattle.sctp_recv.specs.Resets.{resets_of}
use Rattle.sctp_recv.specs.inner.Requesting.{is_same, AreLow}
use Rattle.sctp_recv.proofs.RestartLemmas.{restarted_none, restarted_more, restarted_as, all_of, listed_all, listed_some, one_listed, none_listed}
use Rattle.sctp_recv.proofs.renumbering.restart_named.Goals as goal

pub returns-then-is_empty-clause-restarts : goal.returns-then-is_empty-clause-restarts
returns-then-is_empty-clause-restarts g c = λ v all few low.
    restarted_as c.args.again (map stream_of c.args.streams.now.items) (λ s. _) (names v c.args.named.now) (resets_of c.args.resets.now) (resets_of c.restart_all.new.resets) (c.restart_all.ensures.restarts all few)
    (λ s under. sym (listed_all v c.args.named.now s (sym c.is_empty.ensures ∙ c.if-is_empty.true)))

pub loop-stream-init : goal.loop-stream-init
loop-stream-init g c =
    let xs = c.args.named.now in
    let same : c.into_iter-stream-iterator.result ≡ xs = c.into_iter-stream-iterator.ensures.into_iter_gives ∙ c.iter-stream-items.ensures in
    record {
      restarts = λ all low. (
        (λ s. false),
        restarted_none c.args.again (map stream_of c.args.streams.now.items) (resets_of c.args.resets.now),
        (λ s. ap (λ (ys : List ℕ). lists ys s) (sym same)),
        subst (λ (ys : List ℕ). AreLow (length c.args.streams.now.items) ys) (sym same) low,
      );
      answers = refl;
      named = refl;
    }

pub loop-stream-preserved : goal.loop-stream-preserved
loop-stream-preserved g c =
    let items = c.args.streams.now.items in
    let ss = map stream_of items in
    let n = length-map items stream_of in
    let x = c.in-Some.stream in
    let old = resets_of c.args.resets.now in
    let now = resets_of c.loop-stream.resets in
    let new = resets_of c.restart_on.new.resets in
    let inv = c.loop-stream.invariant in
    let rest : c.loop-stream.stream-iterator ≡ x ∷ c.next.new.self = grind (arith, common_steps) in
    record {
      restarts = λ all low.
          let m = inv.restarts all low in
          let under = subst (λ (ys : List ℕ). AreLow (length items) ys) rest m.3 in
          let still = all_of c.args.again items ss m.0 old now m.1 n all in
          let one = c.restart_on.ensures.restarts still (under x (inl refl)) in (
            (λ s. m.0 s || is_same x s),
            restarted_more c.args.again ss m.0 (is_same x) old now new m.1 one,
            (λ s. m.2 s ∙ ap (λ (ys : List ℕ). m.0 s || lists ys s) rest ∙ one_listed (m.0 s) (x == s) (lists c.next.new.self s)),
            (λ s there. under s (inr there)),
          );
      answers = c.restart_on.ensures.answers ∙ inv.answers;
      named = c.restart_on.ensures.named ∙ inv.named;
    }

pub returns-clause-restarts : goal.returns-clause-restarts
returns-clause-restarts g c = λ v all few low.
    let xs = c.args.named.now in
    let m = c.loop-stream.invariant.restarts all low in
    restarted_as c.args.again (map stream_of c.args.streams.now.items) m.0 (names v xs) (resets_of c.args.resets.now) (resets_of c.loop-stream.resets) m.1
    (λ s under. none_listed (m.0 s) ∙ ap (λ (ys : List ℕ). m.0 s || lists ys s) (sym c.in-None.ensures.steps.0) ∙ sym (m.2 s) ∙ sym (listed_some v xs s (sym c.is_empty.ensures ∙ c.if-is_empty.false)))
