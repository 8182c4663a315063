use Rattle.std.proofs.Common.{refl}
use Rattle.sctp_cookie.specs.Hmac.{hmac}
use Rattle.sctp_cookie.proofs.hmac.hmac_sha256.Goals as goal

pub returns : goal.returns
unfolding hmac
returns c =
    rw (c.digest_of_two.ensures, c.xored-2.ensures, c.digest_of_two-inner.ensures, c.xored.ensures, c.block_key-block.ensures) refl
