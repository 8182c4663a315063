use Rattle.std.proofs.Common.{take, drop, ◌∙◌, arith, length-drop}
use Rattle.std.proofs.lemmas.List.{take_at}
use Rattle.sctp_send.proofs.kept.blocks.drop_front.Goals as goal

pub returns : goal.returns
returns c =
    let xs = c.args.fates.now.items in
    let long = length-drop 4096 xs in
    c.truncate.ensures.items ∙ rw c.rotate_left.ensures.items (take_at (drop 4096 xs) (take 4096 xs) _ (omega (arith, long, c.len.ensures, c.rotate_left.ensures.len, c.args.fates.now.ok, c.requires)))
