-- What is due, as an end's view says it (RFC 9260, 6.10).
use Rattle.std.specs.Prelude.{◌≡◌, ℕ, List, option_map, false}
use Rattle.sctp_model.specs.wire.Typed.{WritesTyped}
use Rattle.sctp_model.specs.end.EndView as model
use Rattle.sctp_association.specs.declared.state.carried.HeartbeatInfo.{HeartbeatInfo}
use Rattle.sctp_association.specs.declared.state.due.Due.{Due}

-- the value that is brought back
abbrev pub info_bytes : HeartbeatInfo → List ℕ
info_bytes h = h.bytes.items

-- Each flag is the view's; the causes are kept as they are written in an ERROR (3.3.10). No HEARTBEAT is due.
pub record DueStands (d : Due) (m : model.Due) : Type 0 where
  pub init : d.init ≡ m.init
  pub cookie_echo : d.cookie_echo ≡ m.cookie_echo
  pub cookie_ack : d.cookie_ack ≡ m.cookie_ack
  pub heartbeat : option_map info_bytes d.heartbeat ≡ m.heartbeat
  pub beat : m.beat ≡ false
  pub causes : WritesTyped d.causes.bytes.items m.causes
  pub sack : d.sack ≡ m.sack
  pub forward : d.forward ≡ m.forward
  pub request : d.request ≡ m.request
  pub shutdown : d.shutdown ≡ m.shutdown
  pub shutdown_ack : d.shutdown_ack ≡ m.shutdown_ack
