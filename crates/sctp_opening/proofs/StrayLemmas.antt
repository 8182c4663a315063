-- Packets whose first chunk has no cookie, at a listener and at a closed endpoint.
use Rattle.std.proofs.Common.{◌≡◌, ℕ, Option, Some, None, refl}
use Rattle.sctp_model.specs.wire.Chunk.{InitMeaning, Init, ShutdownAck}
use Rattle.sctp_model.specs.end.Sealing.{Sealing}
use Rattle.sctp_model.specs.end.EndView.{EndView}
use Rattle.sctp_model.specs.end.Strays.{body_in}

pub none_in_init : (o : Option Sealing) (e : EndView) (tag : ℕ) (m : InitMeaning) → body_in o e tag (Init m) ≡ None
none_in_init None e tag m = refl
none_in_init (Some s) e tag m = refl

pub none_in_shutdown_ack : (o : Option Sealing) (e : EndView) (tag : ℕ) → body_in o e tag ShutdownAck ≡ None
none_in_shutdown_ack None e tag = refl
none_in_shutdown_ack (Some s) e tag = refl
