use Rattle.std.proofs.Common.{ℕ, ◌<◌, ◌≤◌, length, refl, sym, ◌∙◌, subst, arith}
use Rattle.std.proofs.lemmas.Option.{slice_get_read}
use Rattle.sctp_recv.specs.StandsFor.{AreFindable}
use Rattle.sctp_recv.specs.declared.places.Lows.{Lows}
use Rattle.sctp_recv.proofs.RestLemmas.{findable_noted}
use Rattle.sctp_recv.proofs.forward.note_lowest.Goals.{then-place-len, else-place-len}
use Rattle.sctp_recv.proofs.forward.note_lowest.Goals as goal

pub loop-at-preserved : goal.loop-at-preserved
loop-at-preserved g c = λ v filed findable.
    let f = g.F.Framing.format in
    let items = c.args.streams.now.items in
    let k = c.from-place.result in
    let before = c.loop-at.invariant v filed findable in
    elim c.if-place-len.branch [
      | then-place-len w ↦
          let x = w.index.result.now in
          let low : k < length items = omega (arith, w.if-place-len.true, c.len.ensures, c.args.streams.now.ok) in
          let got = slice_get_read items (length items) k x refl low w.index.ensures in
          subst (λ (lows : Lows). AreFindable f v lows) (sym w.lows-is)
          (findable_noted f v items k x w.lowest_unordered-lowest.result 18446744073709551615 c.loop-at.lows w.set.new.self (sym c.is_numbered.ensures ∙ c.if-is_numbered.false) filed got w.lowest_unordered-lowest.ensures w.set.ensures.count
          (λ q i marked below. w.set.ensures.marked q i marked (λ same. subst (λ (n : ℕ). n ≤ i) (sym w.unwrap_or.ensures) (below (same ∙ sym c.from-place.ensures)))) before)
      | else-place-len w ↦ subst (λ (lows : Lows). AreFindable f v lows) (sym w.lows-is) before
    ]
