use Rattle.std.proofs.Common.{refl, sym}
use Rattle.sctp_script.proofs.OptionsLeave.{left_here, both_left}
use Rattle.sctp_script.proofs.options.read_options.Goals as goal

pub returns-in_default-left_at : goal.returns-in_default-left_at
returns-in_default-left_at c =
    let (gs, line) = c.in-Some.ensures in
    (refl, c.in-Some.named, gs, line, λ d e both. c.in_default-left_at.ensures _ gs line d (left_here _ _ gs _ _ d (sym c.has_a.ensures) (sym c.caller.ensures) both.0))

pub returns-in_default-left_at-2 : goal.returns-in_default-left_at-2
returns-in_default-left_at-2 c =
    let (gs, line) = c.in-Some.ensures in
    (refl, c.in-Some.named, gs, line, λ d e both. c.in_default-left_at-2.ensures _ gs line e (left_here _ _ gs _ _ e (sym c.has_b.ensures) (sym c.listener.ensures) both.1))

pub returns : goal.returns
returns c =
    let (gs, line) = c.in-Some.ensures in
    both_left c.args.line.now _ gs c.args.before.a c.args.before.b _ _ c.of.result c.args.before.across line
    (left_here _ _ gs _ _ _ c.has_a.ensures c.caller.ensures (c.in-Some-left_at.ensures _ gs line))
    (left_here _ _ gs _ _ _ c.has_b.ensures c.listener.ensures (c.in-Some-left_at-2.ensures _ gs line)) c.of.ensures
