use Rattle.std.proofs.Common.{refl}
use Rattle.std.proofs.lemmas.List.{take_rest}
use Rattle.sctp_cookie.specs.CookieBody.{body_of}
use Rattle.sctp_cookie.proofs.body.body_of.Goals as goal

pub returns : goal.returns
unfolding body_of
returns c =
    let bytes = c.args.bytes.now in
    rw (c.read_u64.ensures, c.read_u16.ensures, c.read_u16-2.ensures, c.read_u32.ensures, c.read_u32-2.ensures, c.read_u32-3.ensures, c.read_u32-4.ensures, c.read_u32-5.ensures, c.read_u16-3.ensures, c.read_u16-4.ensures, take_rest bytes 8, take_rest bytes 10, take_rest bytes 12, take_rest bytes 16, take_rest bytes 20, take_rest bytes 24, take_rest bytes 28, take_rest bytes 32, take_rest bytes 34) refl
