use Rattle.std.proofs.Common.{◌≡◌, ◌+◌, ◌*◌, min, length}
use Rattle.sctp_send.proofs.fill.EnterLemmas.{range_is}
use Rattle.sctp_send.proofs.kept.pieces.bytes_of.Goals as goal

pub returns-in-Fragment : goal.returns-in-Fragment
returns-in-Fragment c = λ l n.
    let bytes = c.args.message.now.bytes.items in
    let k = c.in-Fragment.fragment in
    let from : c.min-from.result ≡ min (k * c.args.size) (length bytes) = rw (c.from.ensures, c.as_slice-bytes.ensures.value) at c.min-from.ensures in
    let to : c.min-to.result ≡ min (c.min-from.result + c.args.size) (length bytes) = rw (c.from-in-Fragment.ensures, c.as_slice-bytes.ensures.value) at c.min-to.ensures in
    rw (c.in-Fragment.is, c.as_slice-bytes.ensures.value) (range_is c.args.size k bytes c.min-from.result c.min-to.result c.requires from to)
