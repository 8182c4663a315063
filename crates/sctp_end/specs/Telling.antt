-- What a status says of an endpoint.
use Rattle.std.specs.Prelude.{◌≡◌, length, option_map}
use Rattle.sctp_model.specs.sender.Readers.{outstanding}
use Rattle.sctp_model.specs.receiver.ReceiverView.{held_bytes}
use Rattle.sctp_model.specs.end.EndView.{EndView, state_of, ended_of}
use Rattle.sctp_model.specs.end.Moments.{next_moment}
use Rattle.sctp_terms.specs.Meanings.{end_meaning, state_meaning}
use Rattle.sctp_send.specs.Waiting.{queued_bytes}
use Rattle.sctp_recv.specs.Readable.{ReadableAnswer}
use Rattle.sctp_association.specs.Agreeing.{AgreedAnswer}
use Rattle.sctp_end.specs.declared.status.Status.{Status}

-- Each of its numbers and names is the endpoint's; readable is the lowest of all streams on which a message waits, and none if none waits.
pub record IsStatus (v : EndView) (x : Status) : Type 0 where
  pub state : state_meaning x.state ≡ state_of v.phase
  pub ended : option_map end_meaning x.ended ≡ ended_of v.phase
  pub next : x.next ≡ next_moment v
  pub agreed : AgreedAnswer v.terms x.agreed
  pub outstanding : x.outstanding ≡ outstanding v.sender
  pub queued : x.queued ≡ length v.sender.queue
  pub bytes : x.queued_bytes ≡ queued_bytes v.sender
  pub held : x.held ≡ held_bytes v.receiver
  pub window : x.window ≡ v.sender.rwnd
  pub readable : ReadableAnswer v.receiver.waiting 0 x.readable
