-- A plain packet: a SACK at most, and fragments behind it (RFC 9260, 6.1 and 6.2).
use Rattle.std.specs.Prelude.{◌≡◌, Bool, true, false, []}
use Rattle.sctp_model.specs.end.EndView as model
use Rattle.sctp_model.specs.end.EndView.{EndView}
use Rattle.sctp_model.specs.end.Building.{has_some, has_causes}
use Rattle.sctp_association.specs.Asks.{asks}
use Rattle.sctp_association.specs.declared.state.due.Due.{Due}
use Rattle.sctp_association.specs.declared.time.starts.Starts.{Starts}
use Rattle.sctp_association.specs.declared.build.packing.Marks.{Marks}

-- While the association is open nothing is due but a SACK at most.
pub record IsPlain (d : Due) (x : model.Due) : Type 0 where
  pub cookie_ack : d.cookie_ack ≡ false
  pub heartbeat : has_some x.heartbeat ≡ false
  pub beat : x.beat ≡ false
  pub causes : has_causes x.causes ≡ false
  pub forward : d.forward ≡ false
  pub request : d.request ≡ false
  pub shutdown : d.shutdown ≡ false
  pub shutdown_ack : d.shutdown_ack ≡ false

-- Of resets nothing is due, and no request is made.
pub record IsCalm (e : EndView) : Type 0 where
  pub answers : e.receiver.resets.answers ≡ []
  pub unasked : asks e ≡ false

-- a SACK is due still where it had no room
abbrev pub still_due : (room sack : Bool) → Bool
still_due true sack = false
still_due false sack = sack

-- no timer starts but that of fragments, if anything
abbrev pub fragments_alone : Bool → Starts
fragments_alone starts = record { init = false; cookie = false; fragments = starts; shutdown = false; shutdown_ack = false; reset = false }

-- what such a packet leaves of what was due: all but the SACK, and whether the timer of fragments starts
abbrev pub plain_marks : Due → (sack fragments : Bool) → Marks
plain_marks d sack fragments = record {
  init = d.init;
  cookie_echo = d.cookie_echo;
  cookie_ack = d.cookie_ack;
  heartbeat = true;
  causes = true;
  sack = sack;
  forward = d.forward;
  answers = true;
  request = d.request;
  shutdown = d.shutdown;
  shutdown_ack = d.shutdown_ack;
  starts = fragments_alone fragments;
}
