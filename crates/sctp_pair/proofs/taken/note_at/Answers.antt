use Rattle.std.proofs.Common.{◌<◌, refl, length, arith}
use Rattle.sctp_recv.specs.HandedOf.{handed_of}
use Rattle.sctp_pair.proofs.TakenLemmas.{logged_more}
use Rattle.sctp_pair.proofs.taken.note_at.Goals as goal

pub returns : goal.returns
returns c = λ taken all.
    let ls = c.args.logs.now.items in
    let less : c.from.result < length ls = let l = c.requires.within in omega (arith, l, c.from.ensures) in
    rw (← c.from.ensures) (logged_more ls _ c.from.result c.index_mut-log.result.now c.note.new.self taken (handed_of c.args.message.now) less c.index_mut-log.ensures.value refl c.note.ensures all)
