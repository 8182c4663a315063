-- In every world of every run an endpoint that is set up without round trips has no pace.
use Rattle.std.proofs.Common.{max, List, [], ◌∷◌, Option, None, refl, sym, subst, ◌≡◌, ap, ◌∙◌}
use Rattle.sctp_model.specs.wire.Packet.{Packet}
use Rattle.sctp_model.specs.end.EndView.{EndView, Configuration, first_offer}
use Rattle.sctp_model.specs.end.Arriving.{DroppedUnread, ReadAs, CutFirst, CutLater}
use Rattle.sctp_model.specs.end.UserCalls.{shut, abort_answer, abort_leaves, reset_call, reset_leaves, reset_there, told_leaves}
use Rattle.sctp_model.specs.world.World.{Side, A, B, World, end_of, end_now, start, Setup, configuration_of, clock_of}
use Rattle.sctp_model.specs.world.Events.{Event, Outcome}
use Rattle.sctp_model.specs.world.Steps.{Step, OpensBoth, OpenRefused, TimePasses, Draws, Connects, ConnectRefused, BuildsOne, BuildsNone, PacketComes, IsAbsent, Sends, AbandonsOne, TakesOne, ShutsDown, AbortsIt, NoMemory, Run, Rest, Then, PacketCut, ResetsOne, TellsReset, TimeGoesOn, MomentComes}
use Rattle.sctp_safety.proofs.machine.OneEnd.{IsAt, at_end, at_log, at_packet, at_came, answer_of, at_verdict, abort_of, at_abort, both_ends}
use Rattle.sctp_outcomes.proofs.PlainEnds.{IsPlainAt, plain_anew, plain_arrives, plain_builds, plain_ticked, plain_sent, plain_abandoned, plain_shut, plain_aborted, plain_reset, plain_told}
use Rattle.sctp_safety.proofs.machine.DiagramRuns.{ends_follow_the_diagram}
use Rattle.sctp_outcomes.specs.NeverHeld.{NoPaceUnasked}

-- both endpoints' senders are
abbrev pub ArePlain : World → Type 0
ArePlain w = (x : Side) → IsPlainAt (end_of w x)

at_one_end : (w v : World) (x : Side) (t : EndView) (given : Option Packet) → IsAt w v x t given → ArePlain w → IsPlainAt t → ArePlain v
at_one_end w v x t given at all new = both_ends (λ (y : Side) (e : EndView). IsPlainAt e) w v x t given at all new

at_both : (v : World) → IsPlainAt v.a → IsPlainAt v.b → ArePlain v
at_both v a b A = a
at_both v a b B = b

pub plain_step : (w : World) (e : Event) (o : Option Outcome) (v : World) → ArePlain w → Step w e o v → ArePlain v
plain_step w e o v r (OpensBoth x y like may dx dy) = at_both v (plain_anew v.a _ (first_offer w.a.configuration) refl) (plain_anew v.b _ (first_offer w.b.configuration) refl)
plain_step w e o v r (OpenRefused x y closed) = r
plain_step w e o v r (TimeGoesOn A m small) = at_both v (r A) (r B)
plain_step w e o v r (TimeGoesOn B m small) = at_both v (r A) (r B)
plain_step w e o v r (MomentComes x) = at_one_end w v x _ None (at_log w x _ _) r (plain_ticked (end_of w x) (clock_of w x) (r x))
plain_step w e o v r (TimePasses m small) = at_both v (plain_ticked w.a (max w.clock_a m) (r A)) (plain_ticked w.b (max w.clock_b m) (r B))
plain_step w e o v r (Draws d dd) = at_both v (r A) (r B)
plain_step w e o v r (Connects d dd answer) = at_both v (r A) (r B)
plain_step w e o v r (ConnectRefused d answer) = r
plain_step w e o v r (BuildsOne x y ys t b) = at_one_end w v x t _ (at_packet w x t _) r (plain_builds (end_now w x) (y ∷ ys) t (r x) b)
plain_step w e o v r (BuildsNone x t b) = at_one_end w v x t None (at_end w x t) r (plain_builds (end_now w x) [] t (r x) b)
plain_step w e o v r (PacketComes _ x _ t d brings (ReadAs p _ _ arrives)) =
    at_one_end w v x t (answer_of d) (at_verdict w x t d) r (plain_arrives (end_now w x) w.draw p t d (r x) arrives)
plain_step w e o v r (PacketComes _ x _ _ _ brings DroppedUnread) = at_one_end w v x (end_now w x) None (at_came w x (end_now w x)) r (r x)
plain_step w e o v r (PacketCut _ x _ _ brings (CutFirst _)) = at_one_end w v x (end_now w x) None (at_came w x (end_now w x)) r (r x)
plain_step w e o v r (PacketCut _ x _ t brings (CutLater p y front back c _ d part arrives untold)) =
    at_one_end w v x t None (at_came w x t) r (plain_arrives (end_now w x) w.draw _ t d (r x) arrives)
plain_step w e o v r (IsAbsent x n none) = r
plain_step w e o v r (Sends x c) = at_one_end w v x _ None (at_log w x _ _) r (plain_sent (end_of w x) c (r x))
plain_step w e o v r (AbandonsOne x n) = at_one_end w v x _ None (at_log w x _ _) r (plain_abandoned (end_of w x) n (r x))
plain_step w e o v r (TakesOne x n h t takes) = at_one_end w v x t None (at_end w x t) r (subst IsPlainAt (sym takes.leaves) (r x))
plain_step w e o v r (ResetsOne x n) = at_one_end w v x (reset_leaves (reset_call (end_of w x) n) (end_of w x) n) None (at_end w x _) r (plain_reset (end_of w x) (reset_call (end_of w x) n) n (r x))
plain_step w e o v r (TellsReset x) = at_one_end w v x (told_leaves (reset_there (end_of w x)) (end_of w x)) None (at_end w x _) r (plain_told (end_of w x) (reset_there (end_of w x)) (r x))
plain_step w e o v r (ShutsDown x) = at_one_end w v x (shut (end_of w x)) None (at_end w x _) r (plain_shut (end_of w x) (r x))
plain_step w e o v r (AbortsIt x why) =
    let a = abort_answer (end_of w x) why in
    at_one_end w v x (abort_leaves a (end_of w x)) (abort_of a) (at_abort w x _ a) r (plain_aborted (end_of w x) a (r x))
plain_step w e o v r (NoMemory _ other_event) = r

pub plain_run : (w : World) (es : List Event) (os : List (Option Outcome)) (v : World) → ArePlain w → Run w es os v → ArePlain v
plain_run w es os v r (Rest _) = r
plain_run w es os v r (Then _ mid _ e rest o others step run) = plain_run mid rest others v (plain_step w e o mid r step) run

-- an endpoint is set up as its pair was
configured_so : (s : Setup) (x : Side) → (end_of (start s) x).configuration ≡ configuration_of s x
configured_so s A = refl
configured_so s B = refl

pub no_pace_unasked : NoPaceUnasked
no_pace_unasked s events answers w run x off =
    let later = ends_follow_the_diagram s [] events [] answers (start s) w (Rest (start s)) run x in
    plain_run (start s) events answers w (at_both (start s) (λ none. refl) (λ none. refl)) run x (ap (λ (c : Configuration). c.fast_retransmit) (later.configuration ∙ configured_so s x) ∙ off)
