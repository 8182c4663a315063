-- A stream is free behind an event only if that tells what is ignored.
use Rattle.std.proofs.Common.{ℕ, Bool, true, false, List, length, Option, Some, None, subst, if◌then◌else◌}
use Rattle.std.specs.Prelude.{is_some}
use Rattle.sctp_model.specs.end.EndView.{EndView, ended_of}
use Rattle.sctp_channels.specs.declared.channels.Channels.{Channels}
use Rattle.sctp_channels.specs.declared.event.Event.{Event}
use Rattle.sctp_channels.specs.declared.reading.Written.{Written}
use Rattle.sctp_channels.specs.declared.reading.Written.TheVariants.{Nothing, Message as Copied, Other}
use Rattle.sctp_channels.specs.Streams.{Table, first_from}
use Rattle.sctp_channels.specs.Told.{Report}
use Rattle.sctp_channels.specs.Events.{Reported, quiet, is_used, reports_end, reports_over, freed_behind, with_freed}
use Rattle.sctp_channels.specs.ChannelsStand.{ChannelsStand}
use Rattle.sctp_channels.specs.Telling.{Tells}
use Rattle.sctp_channels.specs.Writing.{Writes}

-- once the association is over
pub over_freed : (v : EndView) (x : Table) (e : Option Event) (c : Channels) → Tells (reports_over v x) e c → Tells (with_freed (reports_over v x)) e c
over_freed v x e c = go (is_some (ended_of v.phase)) (first_from (is_used x) 0 (length x.streams))
  where
    go : (b : Bool) (o : Option ℕ) → Tells (if b then reports_end o v x else quiet v x) e c → Tells (with_freed (if b then reports_end o v x else quiet v x)) e c
    go true None told = told
    go true (Some s) told = told
    go false o told = told

-- a message that is copied, or none
pub writes_freed : (r : Reported) (v : EndView) (x : Table) (w : Written) (c : Channels) (old new : List ℕ) → Writes r v x w c old new → Writes (with_freed r) v x w c old new
writes_freed r v x Nothing c old new (tells, same) =
    (record { report = tells.report; stands = subst (λ (o : Option Report). ChannelsStand c r.view (freed_behind o r.view r.table)) tells.report tells.stands }, same)
writes_freed r v x (Copied s text n) c old new (m, tells, copies) =
    (m, record { report = tells.report; stands = subst (λ (o : Option Report). ChannelsStand c r.view (freed_behind o r.view r.table)) tells.report tells.stands }, copies)
writes_freed r v x Other c old new (fits, stands, same) = (fits, stands, same)
