-- What an acknowledgement leaves of a sender, whatever the pace of its endpoint: what was taken, or that with marks.
use Rattle.std.proofs.Common.{◌≡◌, ℕ, ◌-◌, Bool, List, Option, None, Some, refl, sym, ◌∙◌}
use Rattle.std.specs.Prelude.{option_map}
use Rattle.sctp_model.specs.wire.Chunk.{ChunkMeaning}
use Rattle.sctp_model.specs.wire.Packet.{size_of_packet}
use Rattle.sctp_model.specs.end.EndView.{waits_of, DataAlarm, Timer, EndView}
use Rattle.sctp_model.specs.end.Building.{room_behind}
use Rattle.sctp_model.specs.messages.Format.{Format}
use Rattle.sctp_model.specs.sender.SenderView.{SenderView}
use Rattle.sctp_model.specs.sender.Abandoning.{marking}
use Rattle.sctp_model.specs.sender.Reached.{IsReached, Repeats}
use Rattle.sctp_model.specs.end.Misses.{is_missed}
use Rattle.sctp_model.specs.end.Pacing.{Pace, heard, misses_heard}
use Rattle.sctp_model.specs.end.Clock.{with_timer, timer_heard, sender_heard, paced}

pub heard_cases : (P : SenderView → Type 0) (o : Option Pace) (now : ℕ) (v u : SenderView) → P u → ((test : ℕ → Bool) → P (marking u test)) → P (sender_heard o now v u)
heard_cases P None now v u as_taken with_marks = as_taken
heard_cases P (Some p) now v u as_taken with_marks = with_marks (is_missed (misses_heard v u p.misses))

pub heard_plan : (o : Option Pace) (now : ℕ) (v u : SenderView) → (sender_heard o now v u).plan ≡ u.plan
heard_plan o now v u = heard_cases (λ x. x.plan ≡ u.plan) o now v u refl (λ test. refl)

pub heard_tickets : (o : Option Pace) (now : ℕ) (v u : SenderView) → (sender_heard o now v u).tickets ≡ u.tickets
heard_tickets o now v u = heard_cases (λ x. x.tickets ≡ u.tickets) o now v u refl (λ test. refl)

pub heard_reached : (f : Format) (o : Option Pace) (now : ℕ) (v u : SenderView) → IsReached f u → IsReached f (sender_heard o now v u)
heard_reached f o now v u h = heard_cases (IsReached f) o now v u h (λ test. Repeats u test h)

-- an endpoint without a pace marks nothing, and its timer is as it is set, but starts if data is in flight
pub unpaced : (v : SenderView) (wait : ℕ) (t : Timer) (e : EndView) → e.pace ≡ None → paced v wait t e ≡ with_timer DataAlarm (timer_heard None e.moment (waits_of e.configuration) wait v e.sender t) e
unpaced v wait t e none = (λ i. record (with_timer DataAlarm (timer_heard (none i) e.moment (waits_of e.configuration) wait v e.sender t) e) {
  sender = sender_heard (none i) e.moment v e.sender;
  pace = option_map (λ p. (heard e.moment v e.sender p).pace) (none i);
}) ∙ (λ i. record (with_timer DataAlarm (timer_heard None e.moment (waits_of e.configuration) wait v e.sender t) e) { pace = sym none i })

-- and its fragments have what a packet leaves
pub unpaced_room : (e : EndView) (xs : List ChunkMeaning) → e.pace ≡ None → room_behind e xs ≡ e.configuration.limit - size_of_packet xs
unpaced_room e xs none = rw none refl
