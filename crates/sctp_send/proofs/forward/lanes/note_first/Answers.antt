use Rattle.std.proofs.Common.{◌≡◌, ◌∙◌, ◌<◌, List, length, map, take, sym, subst, ap, refl, arith}
use Rattle.sctp_model.specs.messages.Forward.{Skip}
use Rattle.sctp_send.specs.OutstandingFields.{item_meaning, entries_of}
use Rattle.sctp_send.specs.inner.Lanes.{passed_meaning, AreRising, noted_entry}
use Rattle.sctp_send.proofs.forward.LaneLemmas.{below_rising}
use Rattle.sctp_send.proofs.forward.LaneWalks.{none_below, lanes_step}
use Rattle.sctp_send.proofs.forward.lanes.note_first.Goals as goal

pub loop-at-init : goal.loop-at-init
loop-at-init g c = record {
  lanes = λ size. ap (map passed_meaning) c.requires.none ∙ sym (none_below g.F.Framing.format c.args.streams);
  few = rw c.requires.none (omega arith);
}

pub note_entry-requires-clause-rising : goal.note_entry-requires-clause-rising
note_entry-requires-clause-rising g c =
    subst (AreRising 0) (sym (c.loop-at.invariant.lanes 1)) (below_rising g.F.Framing.format (entries_of (map (item_meaning 1) (take c.loop-at.at c.args.outstanding.now.items))) c.args.streams)

pub loop-at-preserved : goal.loop-at-preserved
loop-at-preserved g c = record {
  lanes = λ size.
      lanes_step g.F.Framing.format size c.args.streams c.loop-at.at c.args.outstanding.now.items c.get.result.now (map passed_meaning c.loop-at.lanes.items) (map passed_meaning c.note_entry.new.lanes.items) (omega arith) c.get.ensures
      (c.note_entry.ensures.noted size c.if-not-note_entry.false) (c.loop-at.invariant.lanes size);
  few = c.note_entry.ensures.few;
}

pub returns-then-not-note_entry-clause-lanes : goal.returns-then-not-note_entry-clause-lanes
returns-then-not-note_entry-clause-lanes g c = λ size. ap (map passed_meaning) (c.note_entry.ensures.same c.if-not-note_entry.true) ∙ c.loop-at.invariant.lanes size

pub returns-then-not-note_entry-clause-last : goal.returns-then-not-note_entry-clause-last
returns-then-not-note_entry-clause-last g c = λ size some.
    let before = map passed_meaning c.loop-at.lanes.items in
    let wanted : List Skip = noted_entry g.F.Framing.format c.args.streams (item_meaning size c.get.result.now).entry before in
    let is = lanes_step g.F.Framing.format size c.args.streams c.loop-at.at c.args.outstanding.now.items c.get.result.now before wanted (omega arith) c.get.ensures refl (c.loop-at.invariant.lanes size) in
    subst (λ (xs : List Skip). c.args.most < length xs) is (c.note_entry.ensures.full size c.if-not-note_entry.true)

pub returns-clause-lanes : goal.returns-clause-lanes
returns-clause-lanes g c = λ size.
    let end : c.loop-at.at ≡ c.args.run = omega arith in
    rw end at (c.loop-at.invariant.lanes size)
