-- A time that is taken notes nothing.
use Rattle.std.proofs.Common.{Bool, true, false, List, [], ◌∷◌, refl}
use Rattle.std.specs.Prelude.{if◌then◌else◌, nat_lt}
use Rattle.sctp_model.specs.end.EndView.{TimedOut, Alarm, InitAlarm, CookieAlarm, DataAlarm, ShutdownAlarm, AckAlarm, EndView, has_association, ResetAlarm}
use Rattle.sctp_model.specs.end.EndView.{BeatAlarm, GuardAlarm}
use Rattle.sctp_model.specs.end.Clock.{at_moment, closed, with_timer, is_over_at}
use Rattle.sctp_model.specs.end.Clock.{expired_timer, may_go_on}
use Rattle.sctp_model.specs.end.Moments.{after_abandoning, is_data_due, given_up, due_again, rung, ring, rung_all, all_alarms, waited_in, waited, passed}
use Rattle.sctp_outcomes.specs.Kept.{IsSound, KeepsLogs, MomentsKeepLogs}
use Rattle.sctp_outcomes.proofs.logs.Senders.{given_up_keeps, retried_keeps, timed_out_keeps}
use Rattle.sctp_outcomes.proofs.logs.Ends.{abandoning_keeps, keeps_itself, keeps_on, same_keeps, sender_keeps}
use Rattle.sctp_outcomes.proofs.logs.Heard.{moment_keeps}

again_keeps : (a : Alarm) (e : EndView) → IsSound e → KeepsLogs e (due_again a e)
again_keeps InitAlarm e s = same_keeps e _ refl refl refl (λ on. on) s
again_keeps CookieAlarm e s = same_keeps e _ refl refl refl (λ on. on) s
again_keeps DataAlarm e s = sender_keeps e _ (timed_out_keeps e.sender) refl refl refl s
again_keeps ShutdownAlarm e s = same_keeps e _ refl refl refl (λ on. on) s
again_keeps AckAlarm e s = same_keeps e _ refl refl refl (λ on. on) s
again_keeps ResetAlarm e s = sender_keeps e _ (retried_keeps e.sender) refl refl refl s
again_keeps BeatAlarm e s = same_keeps e _ refl refl refl (λ on. on) s
again_keeps GuardAlarm e s = same_keeps e _ refl refl refl (λ on. on) s

rung_keeps : (b : Bool) (a : Alarm) (e : EndView) → IsSound e → KeepsLogs e (rung b a e)
rung_keeps false a e s = keeps_itself e s
rung_keeps true a e s = go (may_go_on a e)
  where
    go : (c : Bool) → KeepsLogs e (if c then due_again a (with_timer a (expired_timer e.configuration.longest_wait (e.timers a)) e) else closed TimedOut e)
    go true =
        let mid = with_timer a (expired_timer e.configuration.longest_wait (e.timers a)) e in
        let first = same_keeps e mid refl refl refl (λ on. on) s in
        keeps_on e mid (due_again a mid) first (again_keeps a mid first.sound)
    go false = same_keeps e (closed TimedOut e) refl refl refl (λ on. absurd (cc)) s

all_keep : (alarms : List Alarm) (e : EndView) → IsSound e → KeepsLogs e (rung_all alarms e)
all_keep [] e s = keeps_itself e s
all_keep (a ∷ more) e s =
    let first = rung_keeps (is_over_at e.moment (e.timers a).expiry) a e s in
    keeps_on e (ring a e) (rung_all more (ring a e)) first (all_keep more (ring a e) first.sound)

waited_keeps : (b : Bool) (e : EndView) → IsSound e → KeepsLogs e (waited_in b e)
waited_keeps false e s = keeps_itself e s
waited_keeps true e s = same_keeps e _ refl refl refl (λ on. on) s

pub moments_keep_logs : MomentsKeepLogs
moments_keep_logs e now s = go (has_association e.phase)
  where
    go : (b : Bool) → KeepsLogs e (if b then passed (at_moment e now) else at_moment e now)
    go false = moment_keeps e now s
    go true =
        let m = at_moment e now in
        let u = after_abandoning m (given_up (is_data_due m) m.sender m.moment) in
        let first = moment_keeps e now s in
        let second = abandoning_keeps m (given_up (is_data_due m) m.sender m.moment) (given_up_keeps (is_data_due m) m.sender m.moment) first.sound in
        let r = rung_all all_alarms u in
        let third = keeps_on m u r second (all_keep all_alarms u second.sound) in
        keeps_on e m (waited r) first (keeps_on m r (waited r) third (waited_keeps (is_over_at r.moment r.delayed) r third.sound))
