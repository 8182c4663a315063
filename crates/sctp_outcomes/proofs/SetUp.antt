-- No chunk changes how an endpoint is set up, so no packet does.
use Rattle.std.proofs.Common.{◌≡◌, ℕ, refl, ◌∙◌}
use Rattle.sctp_model.specs.wire.Packet.{Packet}
use Rattle.sctp_model.specs.wire.Chunk.{ChunkMeaning, Data, IData, Init, InitAck, Sack, Heartbeat, HeartbeatAck, Abort, Shutdown, ShutdownAck, Error, CookieEcho, CookieAck, ShutdownComplete, ForwardTsn, IForwardTsn, Unknown}
use Rattle.sctp_model.specs.end.EndView.{EndView}
use Rattle.sctp_model.specs.end.PeerFaults.{Replies}
use Rattle.sctp_model.specs.end.Opening.{RefusedAck}
use Rattle.sctp_model.specs.end.Acting.{Acts, AckCompletes, PieceEmpty, WrongFormat, SackWrong, ShutdownWrong, WrongKind, IsBad, IsUnknown, Misnumbered}
use Rattle.sctp_model.specs.end.Arriving.{DroppedUnread, ReadAs, CutFirst, CutLater}
use Rattle.sctp_safety.proofs.machine.EndWords.{Keeps, all_act_keeps}
use Rattle.sctp_safety.proofs.machine.Sides.{goes_same, ends_same, same_rested, unknown_never_replies}
use Rattle.sctp_safety.proofs.machine.Diagram.{arrives_later}
use Rattle.sctp_outcomes.specs.SetUp.{ChunksLeaveTheConfiguration, PacketsLeaveTheConfiguration, CutPacketsLeaveTheConfiguration}

-- a chunk that is answered closes the endpoint
replies_leave : (e : EndView) (tag : ℕ) (x : ChunkMeaning) (t : EndView) (p : Packet) → Acts e tag x (Replies t p) → t.configuration ≡ e.configuration
replies_leave e tag (Data q) t p (PieceEmpty _ _ _ _ _) = refl
replies_leave e tag (Data q) t p (WrongFormat _ _ _ _ _ _) = refl
replies_leave e tag (Data q) t p (Misnumbered _ _ _ _ _ _ _ _ _) = refl
replies_leave e tag (IData q) t p (PieceEmpty _ _ _ _ _) = refl
replies_leave e tag (IData q) t p (WrongFormat _ _ _ _ _ _) = refl
replies_leave e tag (IData q) t p (Misnumbered _ _ _ _ _ _ _ _ _) = refl
replies_leave e tag (Init m) t p h = absurd (cc)
replies_leave e tag (InitAck m) t p (RefusedAck _ _ _ _ _) = refl
replies_leave e tag (Sack k) t p (SackWrong _ _ _ _ _) = refl
replies_leave e tag (Heartbeat i) t p h = elim h [ ]
replies_leave e tag (HeartbeatAck i) t p h = absurd (cc)
replies_leave e tag (Abort b xs) t p h = absurd (cc)
replies_leave e tag (Shutdown n) t p (ShutdownWrong _ _ _ _ _) = refl
replies_leave e tag ShutdownAck t p (AckCompletes _ _ _ _) = refl
replies_leave e tag (Error xs) t p h = elim h [ ]
replies_leave e tag (CookieEcho xs) t p h = elim h [ ]
replies_leave e tag CookieAck t p h = elim h [ ]
replies_leave e tag (ShutdownComplete b) t p h = elim h [ ]
replies_leave e tag (ForwardTsn m) t p (WrongKind _ _ _ _ _) = refl
replies_leave e tag (ForwardTsn m) t p (IsBad _ _ _ _ _ _ _) = refl
replies_leave e tag (IForwardTsn m) t p (WrongKind _ _ _ _ _) = refl
replies_leave e tag (IForwardTsn m) t p (IsBad _ _ _ _ _ _ _) = refl
replies_leave e tag (Unknown k f v) t p (IsUnknown _ _ h) = absurd (unknown_never_replies e t p k f v h)

-- an endpoint that is set up as this one
abbrev IsSetUpAs : EndView → EndView → Type 0
IsSetUpAs o t = t.configuration ≡ o.configuration

each_leaves : (tag : ℕ) (o : EndView) → Keeps tag (IsSetUpAs o) (λ (x : ChunkMeaning). Unit {0}) (λ (p : Packet). Unit {0})
each_leaves tag o = record {
  goes = λ e x y t any k act. (same_rested t).configuration ∙ (goes_same e tag x y t act).configuration ∙ k;
  ends = λ e x t any k act. (ends_same e tag x t act).configuration ∙ k;
  replies = λ e x t p any k act. (replies_leave e tag x t p act ∙ k, tt);
}

pub chunks_leave_the_configuration : ChunksLeaveTheConfiguration
chunks_leave_the_configuration tag e t n m xs v acts =
    (all_act_keeps tag (IsSetUpAs e) (λ (x : ChunkMeaning). Unit {0}) (λ (p : Packet). Unit {0}) (each_leaves tag e) e n xs t m v (λ x h. tt) refl acts).0

pub packets_leave_the_configuration : PacketsLeaveTheConfiguration
packets_leave_the_configuration e now d p t v DroppedUnread = refl
packets_leave_the_configuration e now d p t v (ReadAs q _ _ arrives) = (arrives_later _ d q t v arrives).configuration

pub cut_packets_leave_the_configuration : CutPacketsLeaveTheConfiguration
cut_packets_leave_the_configuration e now d p t (CutFirst _) = refl
cut_packets_leave_the_configuration e now d p t (CutLater q y front back x _ v split arrives untold) = (arrives_later _ d _ t v arrives).configuration
