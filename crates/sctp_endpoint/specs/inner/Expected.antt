-- User data as most is (RFC 9260, 6.2; RFC 8260, 2.1).
use Rattle.std.specs.Prelude.{◌≡◌, ◌<◌, true, length}
use Rattle.sctp_model.specs.wire.Chunk.{PieceMeaning}
use Rattle.sctp_model.specs.messages.Format.{Format}
use Rattle.sctp_model.specs.end.EndView.{EndView, Tags, Established, Open, format_of}
use Rattle.sctp_model.specs.end.Acting.{same_format}

-- The association is established, the chunk has user data, and it is of the association's format.
pub record IsExpected (f : Format) (v : EndView) (p : PieceMeaning) : Type 0 where
  pub tags : Tags
  pub phase : v.phase ≡ Open tags Established
  pub some : 0 < length p.bytes
  pub same : same_format f (format_of v) ≡ true
