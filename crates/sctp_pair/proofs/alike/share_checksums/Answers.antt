use Rattle.std.proofs.Common.{refl}
use Rattle.sctp_pair.proofs.alike.share_checksums.Goals as goal

pub returns : goal.returns
returns c = rw (c.limit-limit.ensures.plain.zero_checksum, c.limit-other.ensures.plain.zero_checksum) refl
