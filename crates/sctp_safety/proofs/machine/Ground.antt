-- What holds in every world of a run, before anything is said of the opening: how the endpoints are set up, their seal, their times, the random values.
use Rattle.std.proofs.Common.{◌≡◌, ℕ, ◌^◌, ◌<◌, max, true, List, [], ◌∷◌, map, Option, Some, None, inl, refl, sym, subst, arith, ◌∙◌}
use Rattle.sctp_model.specs.numbers.Lists.{Has}
use Rattle.sctp_model.specs.wire.Chunk.{ChunkMeaning}
use Rattle.sctp_model.specs.wire.Packet.{Packet}
use Rattle.sctp_model.specs.end.Sealing.{Sealing}
use Rattle.sctp_model.specs.end.EndView.{Draw, Listener, EndView, has_association, IsDraw}
use Rattle.sctp_model.specs.end.Clock.{at_moment}
use Rattle.sctp_model.specs.end.Closing.{rested}
use Rattle.sctp_model.specs.end.Strays.{Verdict}
use Rattle.sctp_model.specs.end.Arriving.{AllAct, NoneLeft, Next, Last, EndsAnswered, Stopped, Arrives, Elsewhere, NotOurs, Stray, CookieBegins, Heard, DroppedUnread, ReadAs, CutFirst, CutLater, Notes, no_notes, noted, packet_ended, urged}
use Rattle.sctp_model.specs.end.Arriving.{Passes}
use Rattle.sctp_model.specs.end.Moments.{ticked}
use Rattle.sctp_model.specs.end.Wearing.{missed_below, wearing}
use Rattle.sctp_model.specs.end.Opening.{begun, opened}
use Rattle.sctp_model.specs.end.UserCalls.{reset_call, reset_leaves, reset_there, told_leaves, called, send_answer, shut, abort_answer, abort_leaves}
use Rattle.sctp_model.specs.end.PeerFaults.{Unnoted}
use Rattle.sctp_model.specs.world.World.{Side, A, B, World, end_of, end_now, Setup, configuration_of, clock_of}
use Rattle.sctp_model.specs.world.Events.{Event, Foreign, Outcome}
use Rattle.sctp_model.specs.world.Steps.{Step, OpensBoth, OpenRefused, TimePasses, Draws, Connects, ConnectRefused, BuildsOne, BuildsNone, PacketComes, IsAbsent, Sends, AbandonsOne, TakesOne, ResetsOne, TellsReset, ShutsDown, AbortsIt, NoMemory, PacketCut, TimeGoesOn, MomentComes}
use Rattle.sctp_model.specs.world.Premises.{draws_of, IsStranger}
use Rattle.sctp_safety.proofs.machine.Sides.{IsSameEnd, same_end, same_on, same_rested, goes_same, ends_same}
use Rattle.sctp_safety.proofs.machine.Turns.{IsPlain, rested_has, builds_plain, replies_plain, goes_left, plain_ended}
use Rattle.sctp_safety.proofs.machine.TurnsOfTime.{plain_worn, plain_ticked, plain_sent, plain_abandoned, plain_taken, plain_reset, plain_told, plain_shut, plain_aborted}
use Rattle.sctp_safety.proofs.machine.Diagram.{left_has}
use Rattle.sctp_safety.proofs.machine.OneEnd.{IsAt, at_end, at_log, at_packet, at_came, at_verdict, at_abort, answer_of, abort_of, both_ends}

-- ---- premises, of one event

-- its random values are among those of the run, and a foreign packet is a third party's
pub record IsFine (s : Setup) (drawn : List ℕ) (e : Event) : Type 0 where
  pub draws : (n : ℕ) → Has (map (λ (d : Draw). d.tag) (draws_of e)) n → Has drawn n
  pub strangers : (x : Side) (p : Packet) → e ≡ Foreign x (Some p) → IsStranger s.sealing drawn p

-- ---- a packet leaves an endpoint as it was set up

plain_is_same : (e t : EndView) → IsPlain e t → IsSameEnd e t
plain_is_same e t p = record { configuration = p.configuration; role = p.role; moment = p.moment }

acts_same : (tag : ℕ) (e : EndView) (b : Notes) (xs : List ChunkMeaning) (t : EndView) (m : Notes) (v : Verdict) → has_association e.phase ≡ true → AllAct tag e b xs t m v → IsSameEnd e t
acts_same tag e b xs t m v has (NoneLeft _ _) = same_end e
acts_same tag e b xs t m v has (Next _ mid _ y _ _ x ys _ act rest) =
    same_on e (rested mid) t (same_on e mid (rested mid) (goes_same e tag x y mid act) (same_rested mid))
    (acts_same tag (rested mid) (noted y b) ys t m v (rested_has mid (left_has e x mid (goes_left e tag x y mid act) has)) rest)
acts_same tag e b xs t m v has (Passes _ _ _ _ x ys _ act rest) = acts_same tag e b ys t m v has rest
acts_same tag e b xs t m v has (Last _ _ _ x ys act) = ends_same e tag x t act
acts_same tag e b xs t m v has (EndsAnswered _ _ _ x ys p act) = plain_is_same e t (replies_plain e tag x t p has act)
acts_same tag e b xs t m v has (Stopped _ _ x ys n act) = same_end e

same_ended : (e t : EndView) (n : Notes) → IsSameEnd e t → IsSameEnd e (packet_ended n t)
same_ended e t n k = same_on e t (packet_ended n t) k (plain_is_same t (packet_ended n t) (plain_ended n t))

pub arrives_same : (e : EndView) (d : Draw) (p : Packet) (t : EndView) (v : Verdict) → Arrives e d p t v → IsSameEnd e t
arrives_same e d p t v (Elsewhere ports) = same_end e
arrives_same e d p t v (NotOurs ports tag) = same_end e
arrives_same e d p t v (Stray ports tag none closed) = same_end e
arrives_same e d p t v (CookieBegins b u n _ ports tag none opens acts gap _) =
    same_ended e u (urged gap n) (same_on e (begun b e) u (record { configuration = refl; role = refl; moment = refl }) (acts_same p.tag (begun b e) (noted Unnoted no_notes) _ u n v refl acts))
arrives_same e d p t v (Heard u n _ ports tag has acts gap _) =
    let x = wearing (missed_below e.pace) u in
    same_ended e x (urged gap n) (same_on e u x (acts_same p.tag e no_notes p.chunks u n v has acts) (plain_is_same u x (plain_worn (missed_below e.pace) u)))

-- ---- an endpoint

pub record IsWell (s : Setup) (x : Side) (e : EndView) : Type 0 where
  pub configuration : e.configuration ≡ configuration_of s x
  pub seal : (z : Sealing) → e.role ≡ Listener z → z ≡ s.sealing
  pub moment : e.moment < 2 ^ 64

module _ (s : Setup) (x : Side) where
  well_same : (e t : EndView) → IsSameEnd e t → IsWell s x e → IsWell s x t
  well_same e t k w = record {
    configuration = k.configuration ∙ w.configuration;
    seal = λ z is. w.seal z (sym k.role ∙ is);
    moment = subst (λ (n : ℕ). n < 2 ^ 64) (sym k.moment) w.moment;
  }

  pub well_now : (e : EndView) (n : ℕ) → n < 2 ^ 64 → IsWell s x e → IsWell s x (at_moment e n)
  well_now e n b w = record { configuration = w.configuration; seal = w.seal; moment = let m = w.moment in omega (arith, m, b) }

  well_opened : (e : EndView) (own peer : Draw) → IsWell s x e → IsWell s x (opened e.configuration own peer)
  well_opened e own peer w = record { configuration = w.configuration; seal = λ z is. absurd (cc); moment = omega arith }

-- ---- a world

pub record IsGrounded (s : Setup) (drawn : List ℕ) (w : World) : Type 0 where
  pub ends : (x : Side) → IsWell s x (end_of w x)
  pub clock : (x : Side) → clock_of w x < 2 ^ 64
  pub draw : IsDraw w.draw
  pub draw_tag : Has drawn w.draw.tag

module _ (s : Setup) (drawn : List ℕ) where
  -- one endpoint acts, at its own time or at the clock
  ground_at : (w v : World) (x : Side) (t : EndView) (given : Option Packet) → IsGrounded s drawn w → IsAt w v x t given → IsWell s x t → IsGrounded s drawn v
  ground_at w v x t given g at well = record {
    ends = both_ends (λ (y : Side) (e : EndView). IsWell s y e) w v x t given at g.ends well;
    clock = clocks;
    draw = subst IsDraw (sym at.draw) g.draw;
    draw_tag = subst (λ (d : Draw). Has drawn d.tag) (sym at.draw) g.draw_tag;
  }
    where
      clocks : (y : Side) → clock_of v y < 2 ^ 64
      clocks A = subst (λ (n : ℕ). n < 2 ^ 64) (sym at.clock_a) (g.clock A)
      clocks B = subst (λ (n : ℕ). n < 2 ^ 64) (sym at.clock_b) (g.clock B)

  ground_same : (w v : World) (x : Side) (t : EndView) (given : Option Packet) → IsGrounded s drawn w → IsAt w v x t given → IsSameEnd (end_of w x) t → IsGrounded s drawn v
  ground_same w v x t given g at k = ground_at w v x t given g at (well_same s x (end_of w x) t k (g.ends x))

  ground_now : (w v : World) (x : Side) (t : EndView) (given : Option Packet) → IsGrounded s drawn w → IsAt w v x t given → IsSameEnd (end_now w x) t → IsGrounded s drawn v
  ground_now w v x t given g at k = ground_at w v x t given g at (well_same s x (end_now w x) t k (well_now s x (end_of w x) (clock_of w x) (g.clock x) (g.ends x)))

  ticked_well : (w : World) (x : Side) (n : ℕ) → n < 2 ^ 64 → IsGrounded s drawn w → IsWell s x (ticked (end_of w x) n)
  ticked_well w x n b g =
      well_same s x (at_moment (end_of w x) n) (ticked (end_of w x) n) (plain_is_same _ _ (plain_ticked (end_of w x) n)) (well_now s x (end_of w x) n b (g.ends x))

  pub ground_step : (w : World) (e : Event) (o : Option Outcome) (v : World) → IsFine s drawn e → IsGrounded s drawn w → Step w e o v → IsGrounded s drawn v
  ground_step w e o v fine g (OpensBoth x y like may dx dy) = record { ends = ends; clock = clocks; draw = g.draw; draw_tag = g.draw_tag }
    where
      clocks : (z : Side) → clock_of v z < 2 ^ 64
      clocks A = g.clock A
      clocks B = g.clock B

      ends : (z : Side) → IsWell s z (end_of v z)
      ends A = well_opened s A w.a x y (g.ends A)
      ends B = well_opened s B w.b y x (g.ends B)
  ground_step w e o v fine g (OpenRefused x y closed) = g
  ground_step w e o v fine g (TimeGoesOn A m small) = record { ends = ends; clock = clocks; draw = g.draw; draw_tag = g.draw_tag }
    where
      clocks : (z : Side) → clock_of v z < 2 ^ 64
      clocks A = let c = g.clock A in omega (arith, c, small)
      clocks B = g.clock B

      ends : (z : Side) → IsWell s z (end_of v z)
      ends A = g.ends A
      ends B = g.ends B
  ground_step w e o v fine g (TimeGoesOn B m small) = record { ends = ends; clock = clocks; draw = g.draw; draw_tag = g.draw_tag }
    where
      clocks : (z : Side) → clock_of v z < 2 ^ 64
      clocks A = g.clock A
      clocks B = let c = g.clock B in omega (arith, c, small)

      ends : (z : Side) → IsWell s z (end_of v z)
      ends A = g.ends A
      ends B = g.ends B
  ground_step w e o v fine g (MomentComes x) = ground_at w v x _ None g (at_log w x _ _) (ticked_well w x (clock_of w x) (g.clock x) g)
  ground_step w e o v fine g (TimePasses m small) = record { ends = ends; clock = clocks; draw = g.draw; draw_tag = g.draw_tag }
    where
      clocks : (z : Side) → clock_of v z < 2 ^ 64
      clocks A = let c = g.clock A in omega (arith, c, small)
      clocks B = let c = g.clock B in omega (arith, c, small)

      ends : (z : Side) → IsWell s z (end_of v z)
      ends A = ticked_well w A (max w.clock_a m) (clocks A) g
      ends B = ticked_well w B (max w.clock_b m) (clocks B) g
  ground_step w e o v fine g (Draws d dd) = record { ends = ends; clock = clocks; draw = dd; draw_tag = fine.draws d.tag (inl refl) }
    where
      clocks : (z : Side) → clock_of v z < 2 ^ 64
      clocks A = g.clock A
      clocks B = g.clock B

      ends : (z : Side) → IsWell s z (end_of v z)
      ends A = g.ends A
      ends B = g.ends B
  ground_step w e o v fine g (Connects d dd answer) = record { ends = ends; clock = clocks; draw = g.draw; draw_tag = g.draw_tag }
    where
      clocks : (z : Side) → clock_of v z < 2 ^ 64
      clocks A = g.clock A
      clocks B = g.clock B

      ends : (z : Side) → IsWell s z (end_of v z)
      ends A = well_same s A (end_now w A) (called (end_now w A) d) (record { configuration = refl; role = refl; moment = refl }) (well_now s A w.a w.clock_a (g.clock A) (g.ends A))
      ends B = g.ends B
  ground_step w e o v fine g (ConnectRefused d answer) = g
  ground_step w e o v fine g (BuildsOne x y ys t b) = ground_now w v x t _ g (at_packet w x t _) (plain_is_same _ t (builds_plain (end_now w x) (y ∷ ys) t b))
  ground_step w e o v fine g (BuildsNone x t b) = ground_now w v x t None g (at_end w x t) (plain_is_same _ t (builds_plain (end_now w x) [] t b))
  ground_step w e o v fine g (PacketComes _ x _ t d brings (ReadAs p _ _ arrives)) = ground_now w v x t (answer_of d) g (at_verdict w x t d) (arrives_same (end_now w x) w.draw p t d arrives)
  ground_step w e o v fine g (IsAbsent x n none) = g
  ground_step w e o v fine g (PacketComes _ x _ _ _ brings DroppedUnread) = ground_now w v x (end_now w x) None g (at_came w x (end_now w x)) (same_end (end_now w x))
  ground_step w e o v fine g (Sends x c) = ground_same w v x _ None g (at_log w x _ _) (plain_is_same _ _ (plain_sent (end_of w x) c (send_answer (end_of w x) c)))
  ground_step w e o v fine g (AbandonsOne x k) = ground_same w v x _ None g (at_log w x _ _) (plain_is_same _ _ (plain_abandoned (end_of w x) k))
  ground_step w e o v fine g (TakesOne x n h t takes) = ground_same w v x t None g (at_end w x t) (plain_is_same _ t (plain_taken (end_of w x) n h t takes))
  ground_step w e o v fine g (ResetsOne x n) = ground_same w v x (reset_leaves (reset_call (end_of w x) n) (end_of w x) n) None g (at_end w x _) (plain_is_same _ _ (plain_reset (end_of w x) (reset_call (end_of w x) n) n))
  ground_step w e o v fine g (TellsReset x) = ground_same w v x (told_leaves (reset_there (end_of w x)) (end_of w x)) None g (at_end w x _) (plain_is_same _ _ (plain_told (end_of w x) (reset_there (end_of w x))))
  ground_step w e o v fine g (ShutsDown x) = ground_same w v x (shut (end_of w x)) None g (at_end w x _) (plain_is_same _ _ (plain_shut (end_of w x)))
  ground_step w e o v fine g (AbortsIt x r) =
      ground_same w v x (abort_leaves (abort_answer (end_of w x) r) (end_of w x)) (abort_of (abort_answer (end_of w x) r)) g (at_abort w x _ _) (plain_is_same _ _ (plain_aborted (end_of w x) r))
  ground_step w e o v fine g (PacketCut _ x _ _ brings (CutFirst _)) = ground_now w v x (end_now w x) None g (at_came w x (end_now w x)) (same_end (end_now w x))
  ground_step w e o v fine g (PacketCut _ x _ t brings (CutLater p y front back c _ d part arrives untold)) =
      ground_now w v x t None g (at_came w x t) (arrives_same (end_now w x) w.draw _ t d arrives)
  ground_step w e o v fine g (NoMemory _ other_event) = g
