-- Fragments behind control chunks (RFC 9260, 6.1).
use Rattle.std.specs.Prelude.{◌≡◌, List, ◌++◌, map, Option}
use Rattle.sctp_model.specs.wire.Chunk.{ChunkMeaning}
use Rattle.sctp_model.specs.sender.Filling.{newly_numbered}
use Rattle.sctp_model.specs.end.EndView.{EndView, Alarm, DataAlarm, Timer, format_of}
use Rattle.sctp_model.specs.end.Clock.{replaced}
use Rattle.sctp_model.specs.end.Building.{filled_behind, fragments, timer_after}
use Rattle.sctp_model.specs.end.Pacing.{Pace}
use Rattle.sctp_association.specs.Sends.{sendings_by}
use Rattle.sctp_association.specs.TrafficStands.{TrafficStands}
use Rattle.sctp_association.specs.Drafted.{drafted, IsOwn}
use Rattle.sctp_association.specs.declared.traffic.Traffic.{Traffic}
use Rattle.sctp_association.specs.declared.build.packing.Packing.{Packing}
use Rattle.sctp_association.specs.declared.build.sendings.Filled.{Filled}

-- the timers once fragments went out behind these chunks, but for that of HEARTBEATs
abbrev pub timers_behind : EndView → List ChunkMeaning → Alarm → Timer
timers_behind e xs = replaced DataAlarm (timer_after e (filled_behind e xs).wishes) e.timers

-- What fits went in; the traffic stands for what that leaves; the timer of fragments starts if anything went out; nothing else changed. What is sent again is
-- counted by this pace.
pub record FillsBehind (o : Option Pace) (e : EndView) (old new : Packing) (traffic : Traffic) (filled : Filled) : Type 0 where
  pub chunks : new.writer.chunks ≡ old.writer.chunks ++ fragments (drafted old.marks e) old.writer.chunks
  pub packet : IsOwn e new
  pub marks : new.marks ≡ record old.marks { starts = new.marks.starts }
  pub timers : (drafted new.marks e).timers ≡ timers_behind (drafted old.marks e) old.writer.chunks
  pub traffic_stands : TrafficStands traffic (format_of e) (filled_behind (drafted old.marks e) old.writer.chunks).view e.receiver
  pub sendings_are : filled.sendings ≡ sendings_by o (filled_behind (drafted old.marks e) old.writer.chunks).wishes
  pub tickets_are : map (λ t. t.0) filled.tickets.items ≡ newly_numbered e.sender (filled_behind (drafted old.marks e) old.writer.chunks).view
