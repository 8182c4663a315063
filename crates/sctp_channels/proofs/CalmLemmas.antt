-- What is noted of channels that are closed and of amounts that are low.
use Rattle.std.specs.Prelude.{slice_get}
use Rattle.std.proofs.Common.{◌≡◌, ℕ, Bool, List, length, Option, None, Some, sym, subst, ap, ◌∙◌}
use Rattle.sctp_model.specs.end.EndView.{EndView}
use Rattle.sctp_model.specs.receiver.ReceiverView.{Handed}
use Rattle.sctp_model.specs.end.UserCalls.{UserTakes}
use Rattle.sctp_channels.specs.Streams.{Table, first_from}
use Rattle.sctp_channels.specs.Buffered.{is_low}
use Rattle.sctp_channels.specs.Settling.{is_closed}
use Rattle.sctp_channels.specs.Events.{Reported, reports_closed, reports_low, reports_first, reports_second, next_report}
use Rattle.sctp_channels.specs.Told.{Told, Closed, BufferedAmountLow, Message, Report}
use Rattle.sctp_channels.specs.inner.Upcoming.{TellsNoMessage}
use Rattle.sctp_channels.specs.ChannelsStand.{IsCalm}

-- a message that is taken changes neither
pub taken_calm : (b : Bool) (v t : EndView) (x : Table) (s : ℕ) (o : Option Handed) → UserTakes v s o t → IsCalm b v x → IsCalm b t x
taken_calm b v t x s o takes calm = subst (λ (u : EndView). IsCalm b u x) (sym takes.leaves) calm

-- it is the one that waits
pub took_this : (v t : EndView) (s : ℕ) (k h : Handed) → UserTakes v s (Some k) t → slice_get (v.receiver.waiting s) 0 ≡ Some h → k ≡ h
took_this v t s k h takes first =
    let there = takes.takes.1 in
    let this : Some k ≡ Some h = sym (ap (λ (hs : List Handed). slice_get hs 0) there) ∙ first in
    cc

-- ---- which report is next

pub next_closed : (v : EndView) (x : Table) (s : ℕ) → Some s ≡ first_from (is_closed v x) 0 (length x.streams) → next_report v x ≡ reports_closed s v x
next_closed v x s is = ap (λ (o : Option ℕ). reports_first o v x) (sym is)

pub next_low : (v : EndView) (x : Table) (s : ℕ) → None ≡ first_from (is_closed v x) 0 (length x.streams) → Some s ≡ first_from (is_low v x) 0 (length x.streams) → next_report v x ≡ reports_low s v x
next_low v x s none is = ap (λ (o : Option ℕ). reports_first o v x) (sym none) ∙ ap (λ (o : Option ℕ). reports_second o v x) (sym is)

-- ---- neither tells a message

abbrev told_in : Option Report → Told
told_in None = Closed
told_in (Some r) = r.told

pub closed_tells : (v : EndView) (x : Table) (s : ℕ) → Some s ≡ first_from (is_closed v x) 0 (length x.streams) → TellsNoMessage (next_report v x)
closed_tells v x s is t k told =
    let same : Closed ≡ Message k = ap told_in (sym (ap (λ (r : Reported). r.report) (next_closed v x s is)) ∙ told) in
    absurd (cc)

pub low_tells : (v : EndView) (x : Table) (s : ℕ) → None ≡ first_from (is_closed v x) 0 (length x.streams) → Some s ≡ first_from (is_low v x) 0 (length x.streams) → TellsNoMessage (next_report v x)
low_tells v x s none is t k told =
    let same : BufferedAmountLow ≡ Message k = ap told_in (sym (ap (λ (r : Reported). r.report) (next_low v x s none is)) ∙ told) in
    absurd (cc)
