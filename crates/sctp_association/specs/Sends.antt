-- Of the user data in a packet that an end builds: how many of its chunks are sent for the first time, and how many again, and why (RFC 9260, 6.1, 6.3.3
-- and 7.2.4).
use Rattle.std.specs.Prelude.{◌≡◌, ℕ, Bool, true, false, not, ◌&&◌, List, [], ◌++◌, count_by, Option, None, Some}
use Rattle.std.specs.List.{All}
use Rattle.sctp_model.specs.wire.Chunk.{ChunkMeaning, Data, IData, Init, InitAck, Sack, Heartbeat, HeartbeatAck, Abort, Shutdown, ShutdownAck, Error, CookieEcho, CookieAck, ShutdownComplete, ForwardTsn, IForwardTsn, Unknown}
use Rattle.sctp_model.specs.sender.Filling.{Wish}
use Rattle.sctp_model.specs.end.EndView.{EndView}
use Rattle.sctp_model.specs.end.Misses.{is_missed}
use Rattle.sctp_model.specs.end.Pacing.{Pace}
use Rattle.sctp_model.specs.end.Building.{filled_behind, fragments}
use Rattle.sctp_model.specs.end.Reconfiguring.{asking}
use Rattle.sctp_send.specs.FillAnswers.{is_sent_first, is_sent_again}
use Rattle.sctp_association.specs.declared.build.sendings.Sendings.{Sendings}
use Rattle.sctp_association.specs.declared.build.sendings.Filled.{Filled}

-- user data, by SSN or by MID (RFC 9260, 3.3.1; RFC 8260, 2.1)
abbrev pub is_user_data : ChunkMeaning → Bool
is_user_data (Data p) = true
is_user_data (IData p) = true
is_user_data (Init m) = false
is_user_data (InitAck m) = false
is_user_data (Sack s) = false
is_user_data (Heartbeat info) = false
is_user_data (HeartbeatAck info) = false
is_user_data (Abort reflected causes) = false
is_user_data (Shutdown seen) = false
is_user_data ShutdownAck = false
is_user_data (Error causes) = false
is_user_data (CookieEcho cookie) = false
is_user_data CookieAck = false
is_user_data (ShutdownComplete reflected) = false
is_user_data (ForwardTsn point) = false
is_user_data (IForwardTsn point) = false
is_user_data (Unknown kind flags value) = false

-- a control chunk: any other (RFC 9260, 3.2)
abbrev pub IsControl : ChunkMeaning → Type 0
IsControl x = is_user_data x ≡ false

-- no user data
abbrev pub none_sent : Sendings
none_sent = record { first = 0; timed = 0; missed = 0 }

-- none was filled in
pub record FillsNone (x : Filled) : Type 0 where
  pub tickets : x.tickets.items ≡ []
  pub sendings : x.sendings ≡ none_sent

-- ---- what is sent again

-- by this pace the index has its third miss indication, unless it is acknowledged; without a pace none has
abbrev pub is_missed_by : Option Pace → ℕ → Bool
is_missed_by None i = false
is_missed_by (Some p) i = is_missed p.misses i

-- a chunk that is fast retransmitted: it has three miss indications, also if the data timer expired since (RFC 9260, 7.2.4)
abbrev pub is_sent_missed : Option Pace → Wish → Bool
is_sent_missed o w = is_sent_again w && is_missed_by o w.index

-- any other one that is sent again (RFC 9260, 6.3.3)
abbrev pub is_sent_timed : Option Pace → Wish → Bool
is_sent_timed o w = is_sent_again w && not (is_missed_by o w.index)

-- how many there are of each kind, by the pace before the packet
abbrev pub sendings_by : Option Pace → List Wish → Sendings
sendings_by o ws = record { first = count_by is_sent_first ws; timed = count_by (is_sent_timed o) ws; missed = count_by (is_sent_missed o) ws }

-- ---- the packet

-- The sendings of these chunks, which are built by this end: none where they are control chunks alone; else those of what fills the packet behind its
-- control chunks, once it has made its request to reset streams.
pub data Sends (e : EndView) : List ChunkMeaning → Sendings → Type 0 where
  SendsNone : (zs : List ChunkMeaning) → All IsControl zs → Sends e zs none_sent
  SendsBehind : (zs : List ChunkMeaning) → All IsControl zs
      → Sends e (zs ++ fragments (asking e) zs) (sendings_by e.pace (filled_behind (asking e) zs).wishes)
