use Rattle.std.proofs.Common.{◌++◌, List, ℕ, length, ap, arith}
use Rattle.std.proofs.lemmas.List.{drop-replicate}
use Rattle.sctp_socket.proofs.peer.Host.new.Goals as goal

pub returns : goal.returns
returns c =
    let bytes = c.args.bytes.now in (
      (grind (arith, c.if-is_empty.false, c.is_empty.ensures), grind (arith, c.if-bytes-gt-LONGEST_HOST.false)),
      rw c.copy_from_slice.ensures.after (ap (λ (rest : List ℕ). record { bytes = bytes ++ rest; size = length bytes }) (drop-replicate (length bytes) 32 0)),
    )
