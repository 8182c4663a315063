-- The status that C gets of an endpoint.
use Rattle.std.specs.Prelude.{◌≡◌, ◌≤◌, ◌*◌, ℕ, Option, Some, None, length}
use Rattle.sctp_model.specs.numbers.Limits.{WINDOW, QUEUE_LIMIT, LONGEST_MESSAGE}
use Rattle.sctp_model.specs.sender.Readers.{outstanding}
use Rattle.sctp_model.specs.receiver.ReceiverView.{held_bytes, size_of_pieces}
use Rattle.sctp_model.specs.end.EndView.{EndView, state_of, ended_of}
use Rattle.sctp_model.specs.end.Moments.{next_moment}
use Rattle.sctp_association.specs.OwnTag.{own_tag}
use Rattle.sctp_send.specs.Waiting.{queued_bytes}
use Rattle.sctp_send.specs.ResetAnswers.{resetting_streams}
use Rattle.sctp_c.specs.Codes.{moment_code, state_number, ended_number, tag_number}
use Rattle.sctp_c.specs.declared.codes.TheConstants.{OK, NOTHING}
use Rattle.sctp_c.specs.declared.status.SctpStatus.{SctpStatus}

-- each number is the view's
pub record IsStatus (s : SctpStatus) (v : EndView) : Type 0 where
  pub moment : s.next_moment ≡ moment_code (next_moment v)
  pub tickets : s.tickets ≡ v.sender.tickets
  pub outstanding : s.outstanding ≡ outstanding v.sender
  pub queued : s.queued ≡ length v.sender.queue
  pub bytes : s.queued_bytes ≡ queued_bytes v.sender
  pub held : s.held_bytes ≡ held_bytes v.receiver
  pub window : s.peer_window ≡ v.sender.rwnd
  pub state : s.state ≡ state_number (state_of v.phase)
  pub ended : s.ended ≡ ended_number (ended_of v.phase)
  pub outbound : s.outbound ≡ v.terms.outbound
  pub inbound : s.inbound ≡ v.receiver.streams
  pub interleaved : s.interleaved ≡ v.terms.interleave
  pub partial : s.partial ≡ v.terms.partial
  pub reassembly : s.reassembly_bytes ≡ size_of_pieces v.receiver.kept
  pub resetting : s.resetting ≡ resetting_streams v.sender
  pub tag : s.own_tag ≡ tag_number (own_tag v.phase)
  pub reserved : s.reserved ≡ 0

-- and none of these is larger: TSNs outstanding, messages queued and their bytes, and bytes received and not taken
pub record IsWithin (s : SctpStatus) (v : EndView) : Type 0 where
  pub outstanding : s.outstanding ≤ WINDOW
  pub queued : s.queued ≤ QUEUE_LIMIT
  pub bytes : s.queued_bytes ≤ QUEUE_LIMIT * LONGEST_MESSAGE
  pub held : s.held_bytes ≤ v.configuration.buffer

-- what C gets of the verification tag of an endpoint: if it has none, the number is as it was
abbrev pub TagTold : Option ℕ → (code old new : ℕ) → Type 0
TagTold None n old new = (n ≡ NOTHING) × (new ≡ old)
TagTold (Some t) n old new = (n ≡ OK) × (new ≡ t)
