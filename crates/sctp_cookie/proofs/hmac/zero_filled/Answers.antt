use Rattle.std.proofs.Common.{◌++◌, List, ℕ, length, ap}
use Rattle.std.proofs.lemmas.List.{drop-replicate}
use Rattle.sctp_cookie.proofs.hmac.zero_filled.Goals as goal

pub returns : goal.returns
returns c =
    let bytes = c.args.bytes.now in
    rw c.copy_from_slice.ensures.after (ap (λ (rest : List ℕ). bytes ++ rest) (drop-replicate (length bytes) 64 0))
