use Rattle.std.proofs.Common.{◌≡◌, ◌∙◌, ℕ, inl, inr, false, subst, sym, arith}
use Rattle.std.proofs.lemmas.Bool.{cases_lt, and_parts}
use Rattle.sctp_model.specs.sender.Abandoning.{is_to_expire, is_overdue, may_abandon}
use Rattle.sctp_send.specs.SenderKept.{Kept}
use Rattle.sctp_send.specs.SenderStands.{StandsFor, Keeps}
use Rattle.sctp_send.proofs.abandon.ExpireKept.{due_stays, due_given}
use Rattle.sctp_send.proofs.abandon.MomentKept.{unknown_late}
use Rattle.sctp_send.proofs.sender.Sender.lowest_late.Goals as goal

pub loop-preserved : goal.loop-preserved
unfolding StandsFor
loop-preserved g c =
    let above = c.in-Some.ensures.above in
    record {
      low = omega (arith, c.loop.invariant.low, above);
      above = omega (arith, c.loop.invariant.above, above);
      before = λ v stands t lo hi. elim (cases_lt c.loop.last t) [
        | inr le ↦ c.loop.invariant.before v stands t lo le
        | inl past ↦ elim (cases_lt t c.in-Some.ticket) [
          | inl lt ↦ due_stays g.F.Framing.format c.args.self.now v c.args.now t stands (c.in-Some.ensures.before t past lt)
          | inr ge ↦ let same : c.in-Some.ticket ≡ t = omega (arith, ge, hi) in subst (λ (x : ℕ). is_to_expire v c.args.now x ≡ false) same (sym (c.is_late.ensures v stands) ∙ c.if-is_late.false)
        ]
      ];
    }

pub returns-in-None : goal.returns-in-None
unfolding StandsFor
returns-in-None g c = λ v stands t lo. elim (cases_lt c.loop.last t) [
  | inr le ↦ c.loop.invariant.before v stands t lo le
  | inl past ↦ due_stays g.F.Framing.format c.args.self.now v c.args.now t stands (c.in-None.ensures.none t past)
]

pub returns-then-is_late : goal.returns-then-is_late
unfolding StandsFor
returns-then-is_late g c = λ v stands.
    let above = c.in-Some.ensures.above in
    let late = sym (c.is_late.ensures v stands) ∙ c.if-is_late.true in
    let due = (and_parts (is_overdue v c.args.now c.in-Some.ticket) (may_abandon v c.in-Some.ticket) late).0 in
    record {
      above = omega (arith, c.loop.invariant.above, above);
      given = due_given g.F.Framing.format v c.args.now c.in-Some.ticket stands.reached due;
      late = late;
      before = λ t lo hi. elim (cases_lt c.loop.last t) [
        | inr le ↦ c.loop.invariant.before v stands t lo le
        | inl past ↦ due_stays g.F.Framing.format c.args.self.now v c.args.now t stands (c.in-Some.ensures.before t past hi)
      ];
    }

pub returns : goal.returns
unfolding StandsFor
returns g c = λ v stands t lo. elim (cases_lt c.loop.last t) [
  | inr le ↦ c.loop.invariant.before v stands t lo le
  | inl past ↦
      let s = c.self.inside in
      let keeps = subst (λ (k : Kept). Keeps g.F.Framing.format k v) (sym c.self.view_is) stands in
      unknown_late g.F.Framing.format _ v c.args.now t keeps (inr (omega (arith, past, c.loop.invariant.low, c.len-end.ensures)))
]
