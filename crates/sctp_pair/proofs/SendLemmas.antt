-- What is answered to a message that the sender refuses, and to a copy of one.
use Rattle.std.proofs.Common.{◌≡◌, ℕ, Bool, List, true, Option, Some, ap, ◌∙◌, subst}
use Rattle.std.specs.Prelude.{if◌then◌else◌}
use Rattle.sctp_model.specs.messages.Format.{Lane}
use Rattle.sctp_model.specs.world.Calls.{Call}
use Rattle.sctp_model.specs.sender.Queueing.{Refusal, refusal}
use Rattle.sctp_model.specs.end.EndView.{EndView}
use Rattle.sctp_model.specs.end.Closing.{hears}
use Rattle.sctp_model.specs.end.UserCalls.{is_established, Refused, NotOpen, answer_for, send_answer}
use Rattle.sctp_model.specs.world.World.{World, Side}
use Rattle.sctp_model.specs.world.Events.{Send, Outcome}
use Rattle.sctp_model.specs.world.Steps.{Step}
use Rattle.sctp_association.specs.CallAnswers.{call_with}

pub is_refused : (v : EndView) (c : Call) (r : Refusal) → hears is_established v.phase ≡ true → refusal v.sender c.lane.stream c.bytes ≡ Some r → send_answer v c ≡ Refused r
is_refused v c r heard is =
    ap (λ (b : Bool). if b then answer_for v (refusal v.sender c.lane.stream c.bytes) else NotOpen) heard ∙ ap (λ (o : Option Refusal). answer_for v o) is

pub same_bytes : (w : World) (s : Side) (l : Lane) (payload : ℕ) (copy bytes : List ℕ) (until limit : Option ℕ) (o : Option Outcome) (x : World) → copy ≡ bytes →
    Step w (Send s (call_with l payload copy until limit)) o x → Step w (Send s (call_with l payload bytes until limit)) o x
same_bytes w s l payload copy bytes until limit o x same step = subst (λ (xs : List ℕ). Step w (Send s (call_with l payload xs until limit)) o x) same step
