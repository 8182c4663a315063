use Rattle.std.proofs.Common.{◌≡◌, ◌≤◌, ◌<◌, ◌^◌, ℕ, Bool, List, Option, Some, false, true, length, sym, ◌∙◌, ap, subst, arith}
use Rattle.std.specs.Prelude.{not, ◌&&◌, vec_capacity}
use Rattle.std.proofs.lemmas.List.{length-map}
use Rattle.sctp_model.specs.wire.Reconfig as model
use Rattle.sctp_model.specs.wire.Reconfig.{Performed}
use Rattle.sctp_model.specs.receiver.ReceiverView.{ReceiverView}
use Rattle.sctp_model.specs.receiver.ResetTaken.{names, names_anew, was_performed, renumbered, renumbered_by}
use Rattle.sctp_reconfig.specs.Meanings.{request_meaning, result_meaning}
use Rattle.sctp_recv.specs.declared.resets.Resets.{Resets}
use Rattle.sctp_recv.specs.Fields.{stream_of}
use Rattle.sctp_recv.specs.ReceiverKept.{StreamKept}
use Rattle.sctp_recv.specs.ResetsKept.{ResetsKept}
use Rattle.sctp_recv.specs.Resets.{resets_of, AreAll, KeepsResets}
use Rattle.sctp_recv.specs.inner.Restarting.{postponed, AreRestarted}
use Rattle.sctp_recv.specs.inner.Requesting.{AreLow}
use Rattle.sctp_recv.proofs.RenumberedLemmas.{renumbered_kept}
use Rattle.sctp_recv.proofs.RequestLemmas.{not_performed}
use Rattle.sctp_recv.proofs.requests.act.Goals as goal
use Rattle.sctp_recv.proofs.requests.act.Goals.{then-is_performed, else-is_performed}

pub returns-clause-acts : goal.returns-clause-acts
returns-clause-acts g c = λ k v before.
    let f = g.F.Framing.format in
    let items = c.args.streams.now.items in
    let m = request_meaning c.args.request.now in
    let a = result_meaning c.args.answer in
    let named = names v m.streams in
    let start = c.args.resets.now in
    let new = resets_of c.postpone.new.self in
    let count : v.streams ≡ length items = before.keeps.streams ∙ ap (λ (ss : List StreamKept). length ss) before.streams ∙ length-map items stream_of in
    let kept = subst (λ (o : Option ResetsKept). KeepsResets f o v.initial v.streams v.taken v.resets) before.resets before.keeps.resets in
    elim c.if-is_performed.branch [
      | then-is_performed w ↦
          let mid = w.restart_named.new.resets in
          let again = w.was_performed-again.result in
          let done : a ≡ Performed = c.is_performed.ensures.performed w.if-is_performed.true in
          let low = subst (λ (q : ℕ). AreLow q m.streams) count (before.low done) in
          let all = subst (λ (q : ℕ). AreAll q (resets_of start)) count kept.all in
          let few : length items < 2 ^ 16 = let few_streams = before.keeps.few_streams in let same = before.keeps.streams in omega (arith, few_streams, same, count) in
          let restarted = w.restart_named.ensures.restarts v all few low in
          let began = renumbered_kept f k v again named (resets_of start) (resets_of mid) before.keeps kept
          (subst (λ (ss : List StreamKept). AreRestarted again ss named (resets_of start) (resets_of mid)) (sym before.streams) restarted) in
          let anew = subst (λ (b : Bool). KeepsResets f (Some (resets_of mid)) v.initial v.streams v.taken (renumbered v named (λ s. named s && not b)).resets)
          (w.was_performed-again.ensures f v kept) began in
          let there = subst (λ (r : Resets). KeepsResets f (Some (resets_of r)) v.initial v.streams v.taken (renumbered v named (names_anew v m)).resets) (sym w.resets-is) anew in
          let room = subst (λ (r : Resets). length m.streams ≤ vec_capacity r.named) (sym w.resets-is) (subst (λ (xs : _). length m.streams ≤ vec_capacity xs) (sym w.restart_named.ensures.named) before.room) in
          let last = c.postpone.ensures.postponed f (renumbered v named (names_anew v m)) there room in
          subst (λ (o : model.ResetResult). KeepsResets f (Some new) v.initial v.streams v.taken (postponed (renumbered_by v named (names_anew v m) o) m a).resets) (sym done) last
      | else-is_performed w ↦
          let there = subst (λ (r : Resets). KeepsResets f (Some (resets_of r)) v.initial v.streams v.taken v.resets) (sym w.resets-is) kept in
          let room = subst (λ (r : Resets). length m.streams ≤ vec_capacity r.named) (sym w.resets-is) before.room in
          let last = c.postpone.ensures.postponed f v there room in
          let same = not_performed v named (names_anew v m) a (λ done. let no : false ≡ true = sym w.if-is_performed.false ∙ c.is_performed.ensures.all done in absurd (cc)) in
          subst (λ (x : ReceiverView). KeepsResets f (Some new) v.initial v.streams v.taken (postponed x m a).resets) (sym same) last
    ]
