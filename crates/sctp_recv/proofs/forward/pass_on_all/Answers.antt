use Rattle.std.proofs.Common.{◌≡◌, ℕ, suc, ◌+◌, ◌<◌, length, map, set, true, false, Some, inl, inr, refl, sym, ◌∙◌, ap, subst, arith}
use Rattle.std.specs.Prelude.{slice_get, slice_index_or}
use Rattle.std.proofs.lemmas.List.{length-map, length-set}
use Rattle.std.proofs.lemmas.Option.{slice_get_read}
use Rattle.sctp_model.specs.messages.Format.{ordered_lane, unordered_lane}
use Rattle.sctp_model.specs.receiver.Receiving.{handed_ordered}
use Rattle.sctp_model.proofs.receiver.OfLane.{of_says}
use Rattle.sctp_recv.specs.declared.restart.Restart.{Restart}
use Rattle.sctp_recv.specs.Resets.{restart_in, resets_in}
use Rattle.sctp_recv.specs.Fields.{inside, stream_of}
use Rattle.sctp_recv.specs.inner.Bits.{IsSameBut}
use Rattle.sctp_recv.proofs.ShownLemmas.{same_but}
use Rattle.sctp_recv.specs.Filed.{Keeps}
use Rattle.sctp_model.specs.receiver.KeptOfLane.{of_lane}
use Rattle.sctp_wire.specs.ChunkTree.{skip_meaning}
use Rattle.sctp_recv.specs.inner.Forwarding.{PassesOn, AreEntriesOf}
use Rattle.sctp_recv.proofs.EntryLemmas.{moved, own_counts, passes_own}
use Rattle.sctp_recv.proofs.TouchedLemmas.{got_at, below_more, between, behind_all}
use Rattle.sctp_recv.proofs.PassLemmas.{IsUpTo, upto_first, upto_next}
use Rattle.sctp_recv.proofs.QuietLemmas.{upto_to, upto_all}
use Rattle.sctp_recv.proofs.forward.pass_on_all.Goals as goal
use Rattle.sctp_recv.proofs.forward.pass_on_all.Goals.{then-next-place+then-place-len, else-next-place, else-next-place-via-then-next-place+else-place-len, else-next-place-via-else-next-place}

pub loop-at-init : goal.loop-at-init
loop-at-init g c = record {
  size = refl;
  within = omega arith;
  shown = λ h. h;
  below = λ i s low got. absurd (omega (arith, low));
  upto = λ v r xs rise entries h room rising quiet. (r, upto_first g.F.Framing.format (restart_in (resets_in c.args.resets.now)) c.args.jump xs v r c.args.streams.now.items c.args.held h);
}

pub loop-at-preserved : goal.loop-at-preserved
loop-at-preserved g c =
    let f = g.F.Framing.format in
    let b = restart_in (resets_in c.args.resets.now) in
    let olds = c.args.streams.now.items in
    let items = c.loop-at.streams.items in
    let touched = c.args.touched.now in
    let i = c.loop-at.at in
    let k = c.from-place.result in
    let inv = c.loop-at.invariant in
    let stream = slice_index_or touched i 0 in
    let same : stream ≡ k = sym c.from-place.ensures in
    let here : slice_get touched i ≡ Some k = got_at touched i k 0 c.loop-at-test.true c.from-place.ensures in
    elim c.if-next-place.branch [
      | then-next-place+then-place-len w ↦
          let x = w.index_mut.result.now in
          let y = w.pass_on-left.new.known in
          let low : k < length items = omega (arith, w.if-place-len.true, w.len.ensures, c.loop-at.streams.ok) in
          let got_now : slice_get items k ≡ Some x = slice_get_read items (length items) k x refl low w.index_mut.ensures.value in
          let n_items = length-map items stream_of in
          let n_set = length-set items k y in
          rw (w.streams-is, w.ready-is, w.left-is, w.next-is) (record {
            shown = λ before. w.show.ensures (map stream_of items) (inv.shown before) (omega (arith, n_items, n_set)) (subst (λ (q : ℕ). IsSameBut q (map stream_of items) (map stream_of (set items k y))) (sym same) (same_but items k y));
            size = length-set items k y ∙ inv.size;
            within = omega (arith, low, inv.size);
            below = below_more touched i c.loop-at.next (k + 1) (length olds) k inv.below here (omega (arith, w.if-next-place.true)) (inl (omega arith));
            upto = λ v r xs rise entries h room rising quiet.
                let m = inv.upto v r xs rise entries h room rising quiet in
                let n = upto_to f b c.args.jump xs v r olds items c.args.held c.loop-at.left h inv.size c.loop-at.next k m.0 (omega (arith, w.if-next-place.true)) (omega (arith, low, inv.size))
                (λ q z past less at_q. quiet q z at_q (between touched i c.loop-at.next (length olds) k q inv.below rising here past less (omega (arith, less, low, inv.size)))) m.1 in
                let got : slice_get olds k ≡ Some x = sym (n.1.later k (omega arith)) ∙ got_now in
                let filed = h.filed.each k x got in
                let own = map skip_meaning w.of_stream-own.result.now in
                let its = moved k xs (map skip_meaning c.args.entries.now) own entries (subst (λ (q : ℕ). AreEntriesOf q (map skip_meaning c.args.entries.now) own) same (w.of_stream-own.ensures rise)) in
                let counts = own_counts f (b k) w.restart_of-restart.result k stream (stream_of x) xs own its same (w.restart_of-restart.ensures ∙ ap b same) (h.counts k x got) in
                let p = passes_own f (b k) k c.args.jump xs own (of_lane (ordered_lane k) v.kept) (of_lane (unordered_lane k) v.kept) (inside x) (inside y) c.loop-at.left w.pass_on-left.result its
                (subst (λ (q : ℕ). PassesOn f (b q) q c.args.jump own (of_lane (ordered_lane q) v.kept) (of_lane (unordered_lane q) v.kept) (inside x) (inside y) c.loop-at.left w.pass_on-left.result) same
                (subst (λ (r : Restart). PassesOn f r stream c.args.jump own (of_lane (ordered_lane stream) v.kept) (of_lane (unordered_lane stream) v.kept) (inside x) (inside y) c.loop-at.left w.pass_on-left.result) w.restart_of-restart.ensures
                (w.pass_on-left.ensures (of_lane (ordered_lane stream) v.kept) (of_lane (unordered_lane stream) v.kept)
                (subst (λ (q : ℕ). Keeps f (inside x) false (ordered_lane q) (of_lane (ordered_lane q) v.kept)) (sym same) filed.ordered)
                (subst (λ (q : ℕ). Keeps f (inside x) true (unordered_lane q) (of_lane (unordered_lane q) v.kept)) (sym same) filed.unordered)
                (λ z n has number. h.counted z n (of_says (ordered_lane stream) v.kept z has).0 number) (room i k x c.loop-at-test.true here got) counts))) in
                let next = upto_next f b c.args.jump xs v r olds items c.args.held c.loop-at.left k n.0 h n.1 x (omega (arith, low, inv.size)) inv.size got y w.pass_on-left.result p in
                let at_next : suc k ≡ k + 1 = omega arith in
                (handed_ordered n.0 k p.messages p.next, subst (λ (q : ℕ). IsUpTo f v r olds (set items k y) c.args.held w.pass_on-left.result q (handed_ordered n.0 k p.messages p.next)) at_next next);
          })
      | else-next-place w ↦
          rw (w.streams-is, w.ready-is, w.left-is, w.next-is) (record {
            shown = inv.shown;
            size = inv.size;
            within = inv.within;
            below = below_more touched i c.loop-at.next c.loop-at.next (length olds) k inv.below here (omega arith) (elim w.else-next-place.branch [
              | else-next-place-via-then-next-place+else-place-len u ↦ inr (omega (arith, u.if-place-len.false, u.len.ensures, c.loop-at.streams.ok, inv.size))
              | else-next-place-via-else-next-place u ↦ inl (omega (arith, u.if-next-place.false))
            ]);
            upto = inv.upto;
          })
    ]

pub returns-clause-count : goal.returns-clause-count
returns-clause-count g c = c.loop-at.invariant.size

pub returns-clause-shown : goal.returns-clause-shown
returns-clause-shown g c = c.loop-at.invariant.shown

pub returns-clause-passed : goal.returns-clause-passed
returns-clause-passed g c = λ v r xs rise entries h room rising quiet.
    let f = g.F.Framing.format in
    let b = restart_in (resets_in c.args.resets.now) in
    let olds = c.args.streams.now.items in
    let items = c.loop-at.streams.items in
    let touched = c.args.touched.now in
    let inv = c.loop-at.invariant in
    let m = inv.upto v r xs rise entries h room rising quiet in
    let n = upto_to f b c.args.jump xs v r olds items c.args.held c.loop-at.left h inv.size c.loop-at.next (length olds) m.0 inv.within (omega arith)
    (λ q z past less at_q. quiet q z at_q (behind_all touched c.loop-at.at c.loop-at.next (length olds) q inv.below (omega (arith, c.loop-at-test.false)) past less)) m.1 in
    (n.0, n.1.gives, upto_all f b c.args.jump xs v r olds items c.args.held c.loop-at.left n.0 h n.1 inv.size)
