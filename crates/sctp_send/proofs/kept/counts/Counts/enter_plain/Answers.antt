use Rattle.std.proofs.Common.{refl}
use Rattle.sctp_send.proofs.kept.TurnedLemmas.{plain_uncovered}
use Rattle.sctp_send.proofs.kept.counts.Counts.enter_plain.Goals as goal

pub returns : goal.returns
returns c =
    let weighs = plain_uncovered c.args.size c.args.entry.now c.requires.plain in
    rw (weighs.0, weighs.1, c.fly.ensures, ← c.bytes_in.ensures.bytes) refl
