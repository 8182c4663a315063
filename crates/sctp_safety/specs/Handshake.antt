-- An association opens: a run by packets alone after which both endpoints are established, with each other's tags.
use Rattle.std.specs.Prelude.{◌≡◌, ℕ, List, Option, Some}
use Rattle.sctp_model.specs.numbers.Lists.{Has}
use Rattle.sctp_model.specs.end.EndView.{format_of, Draw, Tags, Established, Echoing, Open, Completed, Over}
use Rattle.sctp_model.specs.messages.Format.{Interleaved}
use Rattle.sctp_model.specs.end.PeerFaults.{STATE}
use Rattle.sctp_model.specs.world.World.{World, Setup}
use Rattle.sctp_model.specs.world.Events.{Event, OpenBoth, Outcome, NotActed}
use Rattle.sctp_model.specs.world.Steps.{Step, Run}
use Rattle.sctp_model.specs.world.Premises.{IsReachable}

-- both are established, and agree on tags, first TSNs and the format
pub record AreOpen (w : World) : Type 0 where
  pub tags : Tags
  pub a : w.a.phase ≡ Open tags Established
  pub b : w.b.phase ≡ Open (record { own = tags.peer; peer = tags.own }) Established
  pub tsn_of_a : w.b.terms.peer_tsn ≡ w.a.terms.own_tsn
  pub tsn_of_b : w.a.terms.peer_tsn ≡ w.b.terms.own_tsn
  pub format_a : format_of w.a ≡ Interleaved
  pub format_b : format_of w.b ≡ Interleaved

-- There is such a run; it doesn't open the endpoints without packets.
pub record AnAssociationOpens : Type 0 where
  pub setup : Setup
  pub events : List Event
  pub last : World
  pub by_packets : (x y : Draw) → Has events (OpenBoth x y) → ⊥
  pub reached : IsReachable setup events last
  pub open_ends : AreOpen last

-- And one, longer by three packets, after which both endpoints are closed since both were done.
pub record AnAssociationCloses : Type 0 where
  pub setup : Setup
  pub events : List Event
  pub last : World
  pub by_packets : (x y : Draw) → Has events (OpenBoth x y) → ⊥
  pub reached : IsReachable setup events last
  pub a : last.a.phase ≡ Over Completed
  pub b : last.b.phase ≡ Over Completed

-- And one in which the INIT arrives twice, and is answered under two tags. The caller takes the answer that arrives first, here the second one, and drops
-- the other; when its cookie arrives both endpoints go by the tags that it says.
pub record TheFirstAnswerCounts : Type 0 where
  pub setup : Setup
  pub events : List Event
  pub later : Event
  pub before : World
  pub last : World
  pub answers : List (Option Outcome)
  pub reached : IsReachable setup events before
  -- the answer that was made first arrives later, and is dropped for the state
  pub dropped : Step before later (Some (NotActed STATE)) last
  pub same : last.a.phase ≡ before.a.phase
  pub tags : Tags
  pub cookie : List ℕ
  pub a : before.a.phase ≡ Echoing tags cookie
  pub more : List Event
  pub open_world : World
  pub goes_on : Run last more answers open_world
  pub b : open_world.b.phase ≡ Open (record { own = tags.peer; peer = tags.own }) Established
  pub agreed : open_world.b.terms.own_tsn ≡ open_world.a.terms.peer_tsn
