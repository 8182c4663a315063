-- In every world of every run an endpoint that is set up without resets has agreed on none, passes over each RE-CONFIG, and makes none.
use Rattle.std.proofs.Common.{Bool, true, false, ◌&&◌, ◌==◌, max, List, [], ◌∷◌, Option, None, refl, sym, subst, ◌≡◌, ap, ◌∙◌}
use Rattle.sctp_model.specs.wire.Packet.{Packet}
use Rattle.sctp_model.specs.end.EndView.{EndView, Configuration, ResetAlarm}
use Rattle.sctp_model.specs.end.Arriving.{DroppedUnread, ReadAs, CutFirst, CutLater}
use Rattle.sctp_model.specs.end.UserCalls.{shut, abort_answer, abort_leaves, reset_call, reset_leaves, reset_there, told_leaves}
use Rattle.sctp_model.specs.world.World.{Side, A, B, World, end_of, end_now, start, Setup, configuration_of, clock_of}
use Rattle.sctp_model.specs.world.Events.{Event, Outcome}
use Rattle.sctp_model.specs.world.Steps.{Step, OpensBoth, OpenRefused, TimePasses, Draws, Connects, ConnectRefused, BuildsOne, BuildsNone, PacketComes, IsAbsent, Sends, AbandonsOne, TakesOne, ShutsDown, AbortsIt, NoMemory, Run, Rest, Then, PacketCut, ResetsOne, TellsReset, TimeGoesOn, MomentComes}
use Rattle.sctp_safety.proofs.machine.OneEnd.{IsAt, at_end, at_log, at_packet, at_came, answer_of, at_verdict, abort_of, at_abort, both_ends}
use Rattle.sctp_outcomes.proofs.UnresetEnds.{IsUnresetAt, unreset_arrives, unreset_builds, unreset_ticked, unreset_sent, unreset_abandoned, unreset_shut, unreset_aborted, unreset_reset, unreset_told}
use Rattle.sctp_safety.proofs.machine.DiagramRuns.{ends_follow_the_diagram}
use Rattle.sctp_outcomes.specs.NeverReset.{NoResetUnasked}
use Rattle.sctp_model.specs.wire.Reconfig.{RECONFIG}
use Rattle.sctp_model.specs.sender.Resetting.{may_ask}
use Rattle.sctp_model.specs.end.Closing.{takes_data, hears}
use Rattle.sctp_model.specs.end.Clock.{is_home}
use Rattle.sctp_model.specs.end.Reconfiguring.{asking_now}

-- both endpoints are
abbrev pub AreUnreset : World → Type 0
AreUnreset w = (x : Side) → IsUnresetAt (end_of w x)

at_one_end : (w v : World) (x : Side) (t : EndView) (given : Option Packet) → IsAt w v x t given → AreUnreset w → IsUnresetAt t → AreUnreset v
at_one_end w v x t given at all new = both_ends (λ (y : Side) (e : EndView). IsUnresetAt e) w v x t given at all new

at_both : (v : World) → IsUnresetAt v.a → IsUnresetAt v.b → AreUnreset v
at_both v a b A = a
at_both v a b B = b

pub unreset_step : (w : World) (e : Event) (o : Option Outcome) (v : World) → AreUnreset w → Step w e o v → AreUnreset v
unreset_step w e o v r (OpensBoth x y like may dx dy) = at_both v (λ off. off) (λ off. off)
unreset_step w e o v r (OpenRefused x y closed) = r
unreset_step w e o v r (TimeGoesOn A m small) = at_both v (r A) (r B)
unreset_step w e o v r (TimeGoesOn B m small) = at_both v (r A) (r B)
unreset_step w e o v r (MomentComes x) = at_one_end w v x _ None (at_log w x _ _) r (unreset_ticked (end_of w x) (clock_of w x) (r x))
unreset_step w e o v r (TimePasses m small) = at_both v (unreset_ticked w.a (max w.clock_a m) (r A)) (unreset_ticked w.b (max w.clock_b m) (r B))
unreset_step w e o v r (Draws d dd) = at_both v (r A) (r B)
unreset_step w e o v r (Connects d dd answer) = at_both v (r A) (r B)
unreset_step w e o v r (ConnectRefused d answer) = r
unreset_step w e o v r (BuildsOne x y ys t b) = at_one_end w v x t _ (at_packet w x t _) r (unreset_builds (end_now w x) (y ∷ ys) t (r x) b)
unreset_step w e o v r (BuildsNone x t b) = at_one_end w v x t None (at_end w x t) r (unreset_builds (end_now w x) [] t (r x) b)
unreset_step w e o v r (PacketComes _ x _ t d brings (ReadAs p _ _ arrives)) =
    at_one_end w v x t (answer_of d) (at_verdict w x t d) r (unreset_arrives (end_now w x) w.draw p t d (r x) arrives)
unreset_step w e o v r (PacketComes _ x _ _ _ brings DroppedUnread) = at_one_end w v x (end_now w x) None (at_came w x (end_now w x)) r (r x)
unreset_step w e o v r (PacketCut _ x _ _ brings (CutFirst _)) = at_one_end w v x (end_now w x) None (at_came w x (end_now w x)) r (r x)
unreset_step w e o v r (PacketCut _ x _ t brings (CutLater p y front back c _ d part arrives untold)) =
    at_one_end w v x t None (at_came w x t) r (unreset_arrives (end_now w x) w.draw _ t d (r x) arrives)
unreset_step w e o v r (IsAbsent x n none) = r
unreset_step w e o v r (Sends x c) = at_one_end w v x _ None (at_log w x _ _) r (unreset_sent (end_of w x) c (r x))
unreset_step w e o v r (AbandonsOne x n) = at_one_end w v x _ None (at_log w x _ _) r (unreset_abandoned (end_of w x) n (r x))
unreset_step w e o v r (TakesOne x n h t takes) = at_one_end w v x t None (at_end w x t) r (subst IsUnresetAt (sym takes.leaves) (r x))
unreset_step w e o v r (ResetsOne x n) = at_one_end w v x (reset_leaves (reset_call (end_of w x) n) (end_of w x) n) None (at_end w x _) r (unreset_reset (end_of w x) (reset_call (end_of w x) n) n (r x))
unreset_step w e o v r (TellsReset x) = at_one_end w v x (told_leaves (reset_there (end_of w x)) (end_of w x)) None (at_end w x _) r (unreset_told (end_of w x) (reset_there (end_of w x)) (r x))
unreset_step w e o v r (ShutsDown x) = at_one_end w v x (shut (end_of w x)) None (at_end w x _) r (unreset_shut (end_of w x) (r x))
unreset_step w e o v r (AbortsIt x why) =
    let a = abort_answer (end_of w x) why in
    at_one_end w v x (abort_leaves a (end_of w x)) (abort_of a) (at_abort w x _ a) r (unreset_aborted (end_of w x) a (r x))
unreset_step w e o v r (NoMemory _ other_event) = r

pub unreset_run : (w : World) (es : List Event) (os : List (Option Outcome)) (v : World) → AreUnreset w → Run w es os v → AreUnreset v
unreset_run w es os v r (Rest _) = r
unreset_run w es os v r (Then _ mid _ e rest o others step run) = unreset_run mid rest others v (unreset_step w e o mid r step) run

-- an endpoint is set up as its pair was
configured_so : (s : Setup) (x : Side) → (end_of (start s) x).configuration ≡ configuration_of s x
configured_so s A = refl
configured_so s B = refl

never_acts : (a b c : Bool) → b ≡ false → (a && (b && c)) ≡ false
never_acts a true c off = absurd (cc)
never_acts true false c off = refl
never_acts false false c off = refl

never_asks : (e : EndView) (b c : Bool) → b ≡ false → asking_now (b && c) e ≡ e
never_asks e true c off = absurd (cc)
never_asks e false c off = refl

pub no_reset_unasked : NoResetUnasked
no_reset_unasked s events answers w run x none = record {
  agreed = off;
  deaf = λ kind. never_acts (kind == RECONFIG) e.terms.reset (hears takes_data e.phase) off;
  asks = never_asks e e.terms.reset (is_home ResetAlarm e.phase && may_ask e.sender) off;
}
  where
    e : EndView
    e = end_of w x

    off : e.terms.reset ≡ false
    off =
        let later = ends_follow_the_diagram s [] events [] answers (start s) w (Rest (start s)) run x in
        unreset_run (start s) events answers w (at_both (start s) (λ off. refl) (λ off. refl)) run x (ap (λ (c : Configuration). c.reset) (later.configuration ∙ configured_so s x) ∙ none)
