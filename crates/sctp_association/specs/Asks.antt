-- A request to reset streams: whether an end makes one before its next packet, and what it says (RFC 6525, 4.1 and 5.1.1).
use Rattle.std.specs.Prelude.{◌≡◌, ℕ, Bool, true, ◌&&◌, [], ◌∷◌}
use Rattle.sctp_model.specs.wire.Chunk.{ChunkMeaning}
use Rattle.sctp_model.specs.wire.Reconfig.{ResetMeaning, reconfig_chunk, reset_item}
use Rattle.sctp_model.specs.sender.Resetting.{may_ask}
use Rattle.sctp_model.specs.end.EndView.{ResetAlarm, EndView}
use Rattle.sctp_model.specs.end.Clock.{is_home}
use Rattle.sctp_send.specs.ResetAnswers.{WasMade}
use Rattle.sctp_send.specs.declared.resetting.ResetRequest.{ResetRequest}
use Rattle.sctp_association.specs.TimersMean.{timer_meaning}
use Rattle.sctp_association.specs.declared.build.asking.Asked.{Asked}

-- Both ends have agreed on resets, it is in ESTABLISHED, and its sender may ask.
abbrev pub asks : EndView → Bool
asks e = e.terms.reset && (is_home ResetAlarm e.phase && may_ask e.sender)

-- What a request replaced, if it is made, is what was before: whether one was due, its timer, and the last request of the sender.
pub record WasBefore (x : Asked) (e : EndView) : Type 0 where
  pub due : x.was_due ≡ e.due.request
  pub timer : timer_meaning x.timer ≡ e.timers ResetAlarm
  pub request : may_ask e.sender ≡ true → WasMade x.request e.sender

-- what a request says
abbrev pub said_by : ResetRequest → ResetMeaning
said_by q = record { number = q.number; last = q.last; streams = q.streams.now }

-- its RE-CONFIG; `answered` is the sequence number of the peer's last request that is finished
abbrev pub request_chunk : (answered : ℕ) → ResetRequest → ChunkMeaning
request_chunk answered q = reconfig_chunk (reset_item answered (said_by q) ∷ [])
