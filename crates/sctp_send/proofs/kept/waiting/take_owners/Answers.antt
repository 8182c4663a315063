use Rattle.std.proofs.Common.{◌≡◌, arith}
use Rattle.std.specs.declared.sync.Arc.{Arc}
use Rattle.std.specs.declared.alloc.Global.{Global}
use Rattle.std.proofs.lemmas.List.{length_push}
use Rattle.std.proofs.lemmas.List.Elements.{All-push}
use Rattle.sctp_send.specs.declared.kept.message.Message.{Message as MessageFields}
use Rattle.sctp_send.proofs.kept.waiting.take_owners.Goals as goal

pub loop-preserved : goal.loop-preserved
loop-preserved c =
    let xs = c.loop.others.items in
    let long = length_push xs c.in_ok-owner.owner in
    let before = c.loop.invariant.1 in
    rw c.in-Ok.ensures.items (All-push (λ (x : Arc MessageFields Global). x.value ≡ c.args.message.now.value) xs c.in_ok-owner.owner c.loop.invariant.0 c.in_ok-owner.ensures, omega (arith, long, before))
