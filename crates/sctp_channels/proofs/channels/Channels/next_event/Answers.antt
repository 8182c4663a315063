use Rattle.std.proofs.Common.{◌≡◌, ℕ, Some, None, false, refl, sym, ap, ◌∙◌, subst}
use Rattle.std.specs.Prelude.{IfOk}
use Rattle.sctp_channels.specs.declared.channels.Channels.{Channels}
use Rattle.sctp_channels.specs.declared.event.Event.TheVariants as event
use Rattle.sctp_channels.specs.declared.threshold.Threshold.{Threshold}
use Rattle.sctp_channels.specs.Streams.{Table, threshold_at, with_threshold}
use Rattle.sctp_channels.specs.Buffered.{told_low}
use Rattle.sctp_channels.specs.Events.{Reported, with_freed}
use Rattle.sctp_channels.specs.Telling.{Tells}
use Rattle.sctp_channels.specs.ChannelsStand.{ChannelsStand, endpoint_of, table_of}
use Rattle.sctp_channels.proofs.CalmLemmas.{next_closed, next_low}
use Rattle.sctp_channels.proofs.FreedLemmas.{over_freed}
use Rattle.sctp_channels.proofs.HearingLemmas.{next_turn}
use Rattle.sctp_channels.proofs.TableLemmas.{threshold_as, put_threshold}
use Rattle.sctp_channels.proofs.channels.Channels.next_event.Goals as goal

pub returns-in-Closed-clause-told : goal.returns-in-Closed-clause-told
returns-in-Closed-clause-told c = λ v x stands.
    let s = c.in-Closed.stream in
    let now = c.ahead.ensures.same v x stands in
    subst (λ (r : Reported). Tells (with_freed r) (Some (event.Closed s)) c.leave.new.self) (sym (next_closed v x s (c.in-Closed.ensures.ahead v x stands))) (record {
      report = refl;
      stands = c.leave.ensures.step v x now;
    })

pub returns-in-Low-clause-told : goal.returns-in-Low-clause-told
unfolding ChannelsStand endpoint_of table_of
returns-in-Low-clause-told c = λ v x stands.
    let s = c.in-Low.stream in
    let now = c.ahead.ensures.same v x stands in
    let is = c.in-Low.ensures.ahead v x stands in
    let kept = threshold_as _ x s _ c.threshold-threshold.ensures now.1 in
    let told : c.told_low.result ≡ told_low (threshold_at x s) = c.told_low.ensures ∙ ap (λ (t : Threshold). told_low t) kept in
    let new : Channels = record { alloc = c.ahead.new.self.alloc; endpoint = c.ahead.new.self.endpoint; table = c.set_threshold.new.self; is_calm = false } in
    subst (λ (r : Reported). Tells (with_freed r) (Some (event.BufferedAmountLow s)) new) (sym (next_low v x s is.0 is.1)) (record {
      report = refl;
      stands = (now.0, put_threshold _ _ x s _ _ c.set_threshold.ensures now.1 told, (λ on. absurd (cc on)));
    })

pub returns-in-Some-clause-told : goal.returns-in-Some-clause-told
returns-in-Some-clause-told c = λ v x stands.
    let now = c.ahead.ensures.same v x stands in
    let is = c.in-Nothing.ensures.ahead v x stands in
    subst (λ (r : Reported). IfOk c.hear.result (λ event. Tells (with_freed r) event c.hear.new.self))
    (sym (next_turn v x (Some c.in-Some.stream) is.0 is.1 (c.in-Some.ensures v x now))) (c.hear.ensures.told v x now)

pub returns-in-Some-clause-refused : goal.returns-in-Some-clause-refused
returns-in-Some-clause-refused c = λ v x stands. c.hear.ensures.refused v x (c.ahead.ensures.same v x stands)

pub returns-in-None-clause-told : goal.returns-in-None-clause-told
returns-in-None-clause-told c = λ v x stands.
    let now = c.ahead.ensures.same v x stands in
    let is = c.in-Nothing.ensures.ahead v x stands in
    subst (λ (r : Reported). Tells (with_freed r) c.end.result c.end.new.self) (sym (next_turn v x None is.0 is.1 (c.in-None.ensures v x now)))
    (over_freed v x c.end.result c.end.new.self (c.end.ensures.step v x now))
