use Rattle.std.proofs.Common.{◌≡◌, ◌∙◌, ◌<◌, map, inl, inr, ap, arith}
use Rattle.std.proofs.lemmas.Bool.{cases_lt}
use Rattle.sctp_send.specs.OutstandingFields.{item_meaning}
use Rattle.sctp_send.proofs.pace.TallyLemmas.{tally_skip, Shut, shut_passed, shut_beyond, shut_idle}
use Rattle.sctp_send.proofs.pace.tally.Tally.of_shutdown.Goals as goal

pub returns : goal.returns
returns c = λ top.
    let size = c.args.outstanding.now.size in
    let xs = map (item_meaning size) c.args.outstanding.now.items in
    let n = c.args.passed in
    let on = Shut xs n in
    let last = c.last_closed.result in
    let above = c.last_closed.ensures.above in
    let first : c.of_passed.result.at ≡ n = c.of_passed.ensures.at in
    let end : c.skip.result.at ≡ last = omega (arith, c.skip.ensures.at, first, above) in
    let passed = c.of_passed.ensures.tally on (λ j lo hi. shut_passed xs n j hi) in
    record {
      tally = tally_skip c.args.outstanding.now.header xs on c.of_passed.result c.skip.result last passed (λ j lo hi. shut_idle xs n j (omega (arith, lo, first))) c.skip.ensures.at c.skip.ensures.bytes c.skip.ensures.newest;
      here = ap on end ∙ (elim (cases_lt n last) [ inl past ↦ shut_beyond xs n last past ∙ c.last_closed.ensures.here size past | inr within ↦ shut_passed xs n last within ]);
      beyond = λ j lo.
          let past : n < j = omega (arith, lo, end, above) in
          shut_beyond xs n j past ∙ (elim (cases_lt c.args.top j) [ inl over ↦ top j over | inr within ↦ c.last_closed.ensures.beyond size j (omega (arith, lo, end)) within ]);
    }
