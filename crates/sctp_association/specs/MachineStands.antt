-- Which end stands for which view of an end (RFC 9260, 4).
use Rattle.std.specs.Prelude.{◌≡◌, ◌≤◌, false, [], None, vec_capacity}
use Rattle.sctp_model.specs.sender.SenderView.{SenderView, fresh_sender}
use Rattle.sctp_model.specs.receiver.ReceiverView.{ReceiverView, fresh_receiver}
use Rattle.sctp_model.specs.end.Sealing.{Sealing}
use Rattle.sctp_model.specs.end.EndView.{EndView, Configuration, send_limits, Terms, no_terms, no_beats, format_for}
use Rattle.sctp_model.specs.end.EndView as model
use Rattle.sctp_cookie.specs.Seals.{IsUnder}
use Rattle.sctp_terms.specs.PlainOptions.{HasPlainOptions}
use Rattle.sctp_congestion.specs.PaceStands.{PacesStand}
use Rattle.sctp_association.specs.TimersMean.{timers_meaning}
use Rattle.sctp_opening.specs.Terms.{terms_meaning}
use Rattle.sctp_association.specs.PhaseMeans.{phase_of}
use Rattle.sctp_association.specs.DueStands.{DueStands}
use Rattle.sctp_association.specs.TrafficStands.{TrafficStands}
use Rattle.sctp_association.specs.declared.state.life.Role.{Role}
use Rattle.sctp_association.specs.declared.state.life.Role.TheVariants.{Caller, Listener, Paired}
use Rattle.sctp_association.specs.declared.state.life.Life.{Life}
use Rattle.sctp_association.specs.declared.state.life.Life.TheVariants.{Unjoined, Joined}
use Rattle.sctp_association.specs.declared.state.life.Association.{Association}
use Rattle.sctp_association.specs.declared.machine.Machine.{Machine}

-- how it came to be; a listener's seal is its key's (5.1.3)
abbrev pub RoleStands : Role → model.Role → Type 0
RoleStands Caller r = r ≡ model.Caller
RoleStands (Listener key) r = (s : Sealing) × (r ≡ model.Listener s) × IsUnder key s
RoleStands Paired r = r ≡ model.Paired

-- before an association nothing stands in terms, sender and receiver
pub record IsUnjoined (c : Configuration) (t : Terms) (s : SenderView) (r : ReceiverView) : Type 0 where
  pub terms : t ≡ no_terms
  pub sender : s ≡ fresh_sender 0 0 c.fragment 0 false (send_limits c)
  pub receiver : r ≡ fresh_receiver 0 0 c.buffer c.reserve

-- An association has its terms, and its traffic goes on in the format agreed on, with the receive buffer that the end is set up with. Without stream reset no response waits.
pub record IsJoined (a : Association) (c : Configuration) (t : Terms) (s : SenderView) (r : ReceiverView) : Type 0 where
  pub terms : terms_meaning a.terms ≡ t
  pub traffic : TrafficStands a.traffic (format_for t.interleave) s r
  pub buffer : r.buffer ≡ c.buffer
  pub answers : t.reset ≡ false → r.resets.answers ≡ []

-- What stands for terms, sender and receiver: a relation of these parts, so that a change of the others leaves it as it is.
abbrev pub LifeStands : Life → Configuration → Terms → SenderView → ReceiverView → Type 0
LifeStands (Unjoined x) c t s r = IsUnjoined c t s r
LifeStands (Joined a) c t s r = IsJoined a c t s r

-- Each part stands for its part; without fast retransmit there is no pace; the buffer that is kept for the next packet is part of no view, and no larger than a packet may be.
-- The end asks for none of the options that are plain, and so sends no HEARTBEATs; what window it advertised last is read by none that is on.
pub record KeepsMachine (m : Machine) (v : EndView) : Type 0 where
  pub configuration : m.config ≡ v.configuration
  pub role : RoleStands m.role v.role
  pub clock : m.moment ≡ v.moment
  pub due : DueStands m.due v.due
  pub timers : timers_meaning m.timers ≡ v.timers
  pub delayed : m.delayed ≡ v.delayed
  pub phase : phase_of m.life ≡ v.phase
  pub life : LifeStands m.life v.configuration v.terms v.sender v.receiver
  pub room : vec_capacity m.room ≤ v.configuration.limit
  pub pace : PacesStand (format_for v.terms.interleave) v.sender.cum m.pace v.pace
  pub unpaced : v.configuration.fast_retransmit ≡ false → v.pace ≡ None
  pub options : HasPlainOptions v.configuration
  pub beats : v.beats ≡ no_beats

-- Stands for: hidden from the crates above, which know it by the clauses alone.
unfoldable pub MachineStands : Machine → EndView → Type 0
MachineStands m v = KeepsMachine m v
