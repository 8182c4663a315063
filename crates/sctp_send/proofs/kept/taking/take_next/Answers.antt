use Rattle.std.proofs.Common.{◌∙◌, ◌%◌, ◌^◌, ◌+◌, refl, ap, arith}
use Rattle.sctp_values.specs.Meanings.{kind_meaning}
use Rattle.sctp_send.specs.SenderFields.{latest}
use Rattle.sctp_send.specs.declared.kept.message.Message.{Message as MessageFields}
use Rattle.sctp_send.proofs.kept.taking.take_next.Goals as goal

pub returns-in_ok-message-in-Some-clause-some : goal.returns-in_ok-message-in-Some-clause-some
returns-in_ok-message-in-Some-clause-some c =
    let x = c.args.track.now in
    let r = c.in-Some.rest in
    record {
      rest = r;
      left = record { message = r.message; fragment = (r.fragment + 1) % 2 ^ 32; others = c.pop.new.self };
      before = c.in-Some.is;
      after = refl;
      message = refl;
      others = c.in_ok-message-in-Some.ensures.items;
      next = λ lt. omega (arith, lt);
      fragment = refl;
      number = λ same. c.latest_of-number.ensures ∙ ap (λ (m : MessageFields). latest (kind_meaning m.kind) x.ordered x.unordered) (c.deref.ensures ∙ same);
    }
