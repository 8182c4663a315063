-- In every world of every run that meets the premises no endpoint is held for ever.
use Rattle.std.proofs.Common.{◌<◌, ◌≡◌, max, List, [], ◌∷◌, Option, None, refl, sym, subst, arith, ◌∙◌}
use Rattle.sctp_model.specs.wire.Packet.{Packet}
use Rattle.sctp_model.specs.end.EndView.{Configuration, first_offer, EndView}
use Rattle.sctp_model.specs.end.Arriving.{DroppedUnread, ReadAs, CutFirst, CutLater}
use Rattle.sctp_model.specs.end.UserCalls.{shut, abort_answer, abort_leaves, reset_call, reset_leaves, reset_there, told_leaves}
use Rattle.sctp_model.specs.world.World.{Side, A, B, World, end_of, end_now, start, Setup, configuration_of, clock_of}
use Rattle.sctp_model.specs.world.Events.{Event, Outcome}
use Rattle.sctp_model.specs.world.Steps.{Step, OpensBoth, OpenRefused, TimePasses, Draws, Connects, ConnectRefused, BuildsOne, BuildsNone, PacketComes, IsAbsent, Sends, AbandonsOne, TakesOne, ShutsDown, AbortsIt, NoMemory, Run, Rest, Then, PacketCut, ResetsOne, TellsReset, TimeGoesOn, MomentComes}
use Rattle.sctp_safety.proofs.machine.OneEnd.{IsAt, at_end, at_log, at_packet, at_came, answer_of, at_verdict, abort_of, at_abort, both_ends}
use Rattle.sctp_safety.proofs.machine.DiagramRuns.{ends_follow_the_diagram, IsFresh, step_onward}
use Rattle.sctp_outcomes.specs.NeverHeld.{NoneIsHeldForEver}
use Rattle.sctp_outcomes.proofs.HeldEnds.{IsHeldWell, begins_paced, held_arrives, held_builds, held_ticked, held_called, held_queued, held_abandoned, held_shut, held_aborted, never_held, held_reset, held_told}
use Rattle.sctp_outcomes.proofs.Reaching.{AreReached, reached_step, senders_reached}

-- both endpoints are
abbrev AreHeldWell : World → Type 0
AreHeldWell w = (x : Side) → IsHeldWell (end_of w x)

at_one_end : (w v : World) (x : Side) (t : EndView) (given : Option Packet) → IsAt w v x t given → AreHeldWell w → IsHeldWell t → AreHeldWell v
at_one_end w v x t given at all new = both_ends (λ (y : Side) (e : EndView). IsHeldWell e) w v x t given at all new

at_both : (v : World) → IsHeldWell v.a → IsHeldWell v.b → AreHeldWell v
at_both v a b A = a
at_both v a b B = b

-- a fragment of either endpoint isn't empty
abbrev pub HaveFragments : World → Type 0
HaveFragments w = (x : Side) → 0 < (end_of w x).configuration.fragment

held_step : (w : World) (e : Event) (o : Option Outcome) (v : World) → HaveFragments w → AreReached w → AreHeldWell w → Step w e o v → AreHeldWell v
held_step w e o v f k r (OpensBoth x y like may dx dy) = at_both v
    (λ some. begins_paced w.a.configuration _ (first_offer w.a.configuration) some, λ some. absurd (omega (arith, some)))
    (λ some. begins_paced w.b.configuration _ (first_offer w.b.configuration) some, λ some. absurd (omega (arith, some)))
held_step w e o v f k r (OpenRefused x y closed) = r
held_step w e o v f k r (TimeGoesOn A m small) = at_both v (r A) (r B)
held_step w e o v f k r (TimeGoesOn B m small) = at_both v (r A) (r B)
held_step w e o v f k r (MomentComes x) = at_one_end w v x _ None (at_log w x _ _) r (held_ticked (end_of w x) (clock_of w x) (f x) (k x) (r x))
held_step w e o v f k r (TimePasses m small) = at_both v (held_ticked w.a (max w.clock_a m) (f A) (k A) (r A)) (held_ticked w.b (max w.clock_b m) (f B) (k B) (r B))
held_step w e o v f k r (Draws d dd) = at_both v (r A) (r B)
held_step w e o v f k r (Connects d dd answer) = at_both v (held_called (end_now w A) d answer (r A)) (r B)
held_step w e o v f k r (ConnectRefused d answer) = r
held_step w e o v f k r (BuildsOne x y ys t b) = at_one_end w v x t _ (at_packet w x t _) r (held_builds (end_now w x) (y ∷ ys) t (r x) b)
held_step w e o v f k r (BuildsNone x t b) = at_one_end w v x t None (at_end w x t) r (held_builds (end_now w x) [] t (r x) b)
held_step w e o v f k r (PacketComes _ x _ t d brings (ReadAs p _ _ arrives)) =
    at_one_end w v x t (answer_of d) (at_verdict w x t d) r (held_arrives (end_now w x) w.draw p t d (r x) arrives)
held_step w e o v f k r (PacketComes _ x _ _ _ brings DroppedUnread) = at_one_end w v x (end_now w x) None (at_came w x (end_now w x)) r (r x)
held_step w e o v f k r (PacketCut _ x _ _ brings (CutFirst _)) = at_one_end w v x (end_now w x) None (at_came w x (end_now w x)) r (r x)
held_step w e o v f k r (PacketCut _ x _ t brings (CutLater p y front back c _ d part arrives untold)) =
    at_one_end w v x t None (at_came w x t) r (held_arrives (end_now w x) w.draw _ t d (r x) arrives)
held_step w e o v f k r (IsAbsent x n none) = r
held_step w e o v f k r (Sends x c) = at_one_end w v x _ None (at_log w x _ _) r (held_queued (end_of w x) c (r x))
held_step w e o v f k r (AbandonsOne x n) = at_one_end w v x _ None (at_log w x _ _) r (held_abandoned (end_of w x) n (r x))
held_step w e o v f k r (TakesOne x n h t takes) = at_one_end w v x t None (at_end w x t) r (subst IsHeldWell (sym takes.leaves) (r x))
held_step w e o v f k r (ResetsOne x n) = at_one_end w v x (reset_leaves (reset_call (end_of w x) n) (end_of w x) n) None (at_end w x _) r (held_reset (end_of w x) (reset_call (end_of w x) n) n (r x))
held_step w e o v f k r (TellsReset x) = at_one_end w v x (told_leaves (reset_there (end_of w x)) (end_of w x)) None (at_end w x _) r (held_told (end_of w x) (reset_there (end_of w x)) (r x))
held_step w e o v f k r (ShutsDown x) = at_one_end w v x (shut (end_of w x)) None (at_end w x _) r (held_shut (end_of w x) (r x))
held_step w e o v f k r (AbortsIt x why) =
    let a = abort_answer (end_of w x) why in
    at_one_end w v x (abort_leaves a (end_of w x)) (abort_of a) (at_abort w x _ a) r (held_aborted (end_of w x) a (r x))
held_step w e o v f k r (NoMemory _ other_event) = r

held_run : (w : World) (es : List Event) (os : List (Option Outcome)) (v : World) → IsFresh w → HaveFragments w → AreReached w → AreHeldWell w → Run w es os v → AreHeldWell v
held_run w es os v fresh f k r (Rest _) = r
held_run w es os v fresh f k r (Then _ mid _ e rest o others step run) =
    let on = step_onward w e o mid fresh step in
    held_run mid rest others v on.fresh (λ x. subst (λ (c : Configuration). 0 < c.fragment) (sym (on.later x).configuration) (f x)) (reached_step w e o mid k step) (held_step w e o mid f k r step) run

-- an endpoint is set up as its pair was
configured_so : (s : Setup) (x : Side) → (end_of (start s) x).configuration ≡ configuration_of s x
configured_so s A = refl
configured_so s B = refl

pub none_is_held_for_ever : NoneIsHeldForEver
none_is_held_for_ever s events w r x =
    let later = ends_follow_the_diagram s [] events [] r.answers (start s) w (Rest (start s)) r.run x in
    let same = later.configuration ∙ configured_so s x in
    let large = subst (λ (c : Configuration). 12 < c.limit) (sym same) (omega (arith, (r.configured x).limit.0)) in
    never_held (end_of w x) large
    (held_run (start s) events r.answers w (λ on. (refl, refl)) fragments (senders_reached s [] [] (start s) (Rest (start s))) (at_both (start s) (λ some. tt, refl) (λ some. tt, refl)) r.run x)
  where
    fragments : HaveFragments (start s)
    fragments A = (let some = (r.configured A).fragment.0 in omega (arith, some))
    fragments B = (let some = (r.configured B).fragment.0 in omega (arith, some))
