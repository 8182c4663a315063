-- Two endpoints that have met stay so: every step keeps both directions.
use Rattle.std.proofs.Common.{◌≡◌, ℕ, suc, true, List, [], ◌∷◌, ◌++◌, length, length-append, Option, Some, append-nil, refl, sym, subst, arith, ◌∙◌}
use Rattle.sctp_model.specs.numbers.Lists.{Has, item_at}
use Rattle.sctp_model.specs.wire.Chunk.{ChunkMeaning}
use Rattle.sctp_model.specs.wire.Packet.{Packet}
use Rattle.sctp_model.specs.end.EndView.{Phase, Idle, Listening, Calling, Echoing, Open, Over, EndView}
use Rattle.sctp_model.specs.end.Strays.{Verdict}
use Rattle.sctp_model.specs.end.Arriving.{Arrives, DroppedUnread, ReadAs, CutFirst, CutLater, cut_to}
use Rattle.sctp_model.specs.end.Building.{Builds, packet_of}
use Rattle.sctp_model.specs.end.UserCalls.{reset_call, reset_leaves, reset_there, told_leaves, connect_answer, Called, abort_answer, abort_leaves, shut}
use Rattle.sctp_model.specs.world.World.{Side, A, B, other, World, end_of, bag_of, with_end, with_packet, end_now, Setup}
use Rattle.sctp_model.specs.world.Events.{Event, Deliver, Outcome}
use Rattle.sctp_model.specs.world.Aged.{assigned_tsns}
use Rattle.sctp_model.specs.world.Steps.{Step, OpensBoth, OpenRefused, TimePasses, Draws, Connects, ConnectRefused, BuildsOne, BuildsNone, PacketComes, IsAbsent, Sends, AbandonsOne, TakesOne, ResetsOne, TellsReset, ShutsDown, AbortsIt, NoMemory, PacketCut, TimeGoesOn, MomentComes}
use Rattle.sctp_model.specs.world.Premises.{asked_at}
use Rattle.sctp_safety.specs.States.{has_agreed}
use Rattle.sctp_safety.specs.Agreement.{IsOpening}
use Rattle.sctp_safety.proofs.machine.Strangers.{stranger_stays}
use Rattle.sctp_safety.proofs.machine.Ground.{IsFine}
use Rattle.sctp_safety.proofs.machine.Fronts.{back_again, Brought, ByPeer, ByStranger, brought_whole, brought_cut}
use Rattle.sctp_safety.proofs.runs.Dates.{Date, IsYoung, Dated, dated, all_dated}
use Rattle.sctp_safety.proofs.runs.DatedBags.{Dates, dated_bag, bag_has, date_in, AreKept}
use Rattle.sctp_safety.proofs.runs.Acted.{Comes}
use Rattle.sctp_safety.proofs.runs.Pairs.{IsPair, date_at, pair_arrives, pair_built, pair_taken, pair_reset, pair_told, pair_shut, pair_aborted}
use Rattle.sctp_safety.proofs.runs.Answers.{answer_opens}
use Rattle.sctp_safety.proofs.runs.MetWorld.{MetAt, MetWith, Before, IsMetWorld, at_side, from_side, now_at, put_end, put_both, told_of, only_came, put_abort, sent_at, abandoned_there, passes_at, closed_abort, closed_end, closed_packet, closed_log, goes_on, moment_at}

-- What arrives is a packet of the endpoint across, or its beginning, and it arrives young; or a third party's, which changes nothing.
module _ (s : Setup) (drawn : List ℕ) (d : Dates) (w : World) (e : Event) (v : World) (dates : AreKept d w e v) (opening : IsOpening s drawn w) where
  -- a chunk of the packet at this place
  pub comes : (x : Side) (p : Packet) (n : ℕ) → e ≡ Deliver (other x) n → item_at (bag_of w (other x)) n ≡ Some p → (y : ChunkMeaning) → Has p.chunks y →
      Comes (end_of w (other x)) (length (end_now w x).sender.plan.entries) (dated_bag d w (other x)) y
  comes x p n is found y has =
      let young = dates.young (other x) n p is found in
      record {
        said = dated (d (other x) n) y;
        has = bag_has (d (other x)) (bag_of w (other x)) n p y found has;
        same = refl;
        own = young.own;
        there = subst (λ (z : Side). IsYoung (d (other x) n).there (assigned_tsns w z)) (back_again x) young.there;
      }

  arrived : (x : Side) (q : Packet) (t : EndView) (o : Verdict) → MetAt d w x → Brought s drawn w e x q → Arrives (end_now w x) w.draw q t o → Before d w x t
  arrived x q t o m (ByPeer p n is found front) arrives =
      pair_arrives (end_now w x) (end_of w (other x)) (asked_at w x) (asked_at w (other x)) (dated_bag d w x) (dated_bag d w (other x)) w.draw q t o
      (now_at d w x m) (λ y h. comes x p n is found y (front.chunks y h)) arrives
  arrived x q t o m (ByStranger strange alone) arrives =
      subst (Before d w x) (sym (stranger_stays s.sealing drawn (end_now w x) w.draw q t o strange alone (opening.drawn_tags x) (opening.one_seal x) arrives)) (now_at d w x m)

-- an endpoint that called before doesn't call again
pub no_call : (h : Phase) → connect_answer h ≡ Called → has_agreed h ≡ true → ⊥
no_call Idle e agreed = absurd (cc)
no_call Listening e agreed = absurd (cc)
no_call (Calling d) e agreed = absurd (cc)
no_call (Echoing t xs) e agreed = absurd (cc)
no_call (Open t g) e agreed = absurd (cc)
no_call (Over why) e agreed = absurd (cc)

-- ---- what is built

-- what both endpoints have assigned once this packet lies in the bag
date_built : (w : World) (x : Side) (t : EndView) (p : Packet) → date_in (with_packet (with_end w x t) x p) x ≡ date_at t (end_of w (other x))
date_built w A t p = refl
date_built w B t p = refl

one_longer : (w : World) (x : Side) (t : EndView) (p : Packet) → length (bag_of (with_packet (with_end w x t) x p) x) ≡ suc (length (bag_of w x))
one_longer w A t p = omega (arith, length-append w.from_a (p ∷ []))
one_longer w B t p = omega (arith, length-append w.from_b (p ∷ []))

built : (d : Dates) (w : World) (x : Side) (zs : List ChunkMeaning) (t : EndView) → MetAt d w x → Builds (end_now w x) zs t →
    IsPair t (end_of w (other x)) (asked_at w x) (asked_at w (other x)) (dated_bag d w x ++ all_dated (date_at t (end_of w (other x))) zs) (dated_bag d w (other x))
built d w x zs t m b =
    pair_built (end_of w (other x)) (asked_at w x) (asked_at w (other x)) (dated_bag d w (other x)) (dated_bag d w x) (end_now w x) zs t (now_at d w x m) b

-- a packet has the date of the world that it leaves
built_one : (d : Dates) (w : World) (e : Event) (x : Side) (zs : List ChunkMeaning) (t : EndView) (p : Packet) → AreKept d w e (with_packet (with_end w x t) x p) → MetAt d w x →
    Builds (end_now w x) zs t → MetWith d w x t zs
built_one d w e x zs t p dates m b =
    let long = one_longer w x t p in
    let date = dates.fresh x (suc (length (bag_of w x))) (omega arith) (omega (arith, long)) ∙ date_built w x t p in
    subst (λ (k : Date). IsPair t (end_of w (other x)) (asked_at w x) (asked_at w (other x)) (dated_bag d w x ++ all_dated k zs) (dated_bag d w (other x)))
    (sym date) (built d w x zs t m b)

built_none : (d : Dates) (w : World) (x : Side) (t : EndView) → MetAt d w x → Builds (end_now w x) [] t → Before d w x t
built_none d w x t m b = subst
    (λ (xs : List Dated). IsPair t (end_of w (other x)) (asked_at w x) (asked_at w (other x)) xs (dated_bag d w (other x))) (append-nil (dated_bag d w x)) (built d w x [] t m b)

-- ---- each step

module _ (s : Setup) (drawn : List ℕ) (d : Dates) (w : World) (opening : IsOpening s drawn w) (m : IsMetWorld d w) where
  at : (x : Side) → MetAt d w x
  at x = at_side d w x m.met

  -- one endpoint is another, and all else as before
  with_other : (x : Side) (t : EndView) → Before d w x t → IsMetWorld d (with_end w x t)
  with_other x t k = record { closed = closed_end w x t ∙ m.closed; met = from_side d (with_end w x t) x (put_end d w x t k) }

  pub met_step : (e : Event) (o : Option Outcome) (v : World) → AreKept d w e v → IsFine s drawn e → Step w e o v → IsMetWorld d v
  met_step e o v dates fine (OpensBoth x y like may dx dy) = absurd (let q = m.closed in cc)
  met_step e o v dates fine (OpenRefused x y off) = m
  met_step e o v dates fine (TimeGoesOn A n small) = record { closed = m.closed; met = goes_on d w A n (at A) }
  met_step e o v dates fine (TimeGoesOn B n small) = record { closed = m.closed; met = from_side d v B (goes_on d w B n (at B)) }
  met_step e o v dates fine (MomentComes x) = record { closed = closed_log w x _ _ ∙ m.closed; met = from_side d v x (moment_at d w x (at x)) }
  met_step e o v dates fine (TimePasses n small) = record { closed = m.closed; met = passes_at d w n m.met }
  met_step e o v dates fine (Draws c dd) = record { closed = m.closed; met = m.met }
  met_step e o v dates fine (Connects c dd answer) = absurd (no_call w.a.phase answer m.met.met.phase)
  met_step e o v dates fine (ConnectRefused c answer) = m
  met_step e o v dates fine (BuildsOne x y ys t b) = record {
    closed = closed_packet (with_end w x t) x (packet_of (end_of w x) (y ∷ ys)) ∙ closed_end w x t ∙ m.closed;
    met = from_side d v x (put_both d w x t (packet_of (end_of w x) (y ∷ ys)) (built_one d w e x (y ∷ ys) t (packet_of (end_of w x) (y ∷ ys)) dates (at x) b));
  }
  met_step e o v dates fine (BuildsNone x t b) = with_other x t (built_none d w x t (at x) b)
  met_step e o v dates fine (PacketComes _ x _ t k brings (ReadAs p _ _ arrives)) =
      told_of d w x t k (arrived s drawn d w e v dates opening x p t k (at x) (brought_whole s drawn w e x p fine brings) arrives)
      (answer_opens (end_now w x) w.draw p t k arrives)
  met_step e o v dates fine (IsAbsent x n none) = m
  met_step e o v dates fine (PacketComes _ x _ _ _ brings DroppedUnread) = only_came d w x (end_now w x) (now_at d w x (at x))
  met_step e o v dates fine (Sends x c) = record { closed = closed_log w x _ _ ∙ m.closed; met = from_side d v x (sent_at d w x c (at x)) }
  met_step e o v dates fine (AbandonsOne x k) = record { closed = closed_log w x _ _ ∙ m.closed; met = from_side d v x (abandoned_there d w x k (at x)) }
  met_step e o v dates fine (TakesOne x n h t takes) =
      with_other x t (pair_taken (end_of w (other x)) (asked_at w x) (asked_at w (other x)) (dated_bag d w x) (dated_bag d w (other x)) (end_of w x) n h t (at x) takes)
  met_step e o v dates fine (ResetsOne x n) =
      with_other x (reset_leaves (reset_call (end_of w x) n) (end_of w x) n)
      (pair_reset (end_of w (other x)) (asked_at w x) (asked_at w (other x)) (dated_bag d w x) (dated_bag d w (other x)) (end_of w x) (reset_call (end_of w x) n) n (at x))
  met_step e o v dates fine (TellsReset x) =
      with_other x (told_leaves (reset_there (end_of w x)) (end_of w x))
      (pair_told (end_of w (other x)) (asked_at w x) (asked_at w (other x)) (dated_bag d w x) (dated_bag d w (other x)) (end_of w x) (reset_there (end_of w x)) (at x))
  met_step e o v dates fine (ShutsDown x) =
      with_other x (shut (end_of w x))
      (pair_shut (end_of w (other x)) (asked_at w x) (asked_at w (other x)) (dated_bag d w x) (dated_bag d w (other x)) (end_of w x) (at x))
  met_step e o v dates fine (AbortsIt x r) = record {
    closed = closed_abort (with_end w x _) x (abort_answer (end_of w x) r) ∙ closed_end w x _ ∙ m.closed;
    met = from_side d v x (put_abort d (with_end w x (abort_leaves (abort_answer (end_of w x) r) (end_of w x))) x (end_of w x) r
        (put_end d w x (abort_leaves (abort_answer (end_of w x) r) (end_of w x))
        (pair_aborted (end_of w (other x)) (asked_at w x) (asked_at w (other x)) (dated_bag d w x) (dated_bag d w (other x)) (end_of w x)
        (abort_answer (end_of w x) r) (at x))));
  }
  met_step e o v dates fine (PacketCut _ x _ _ brings (CutFirst _)) = only_came d w x (end_now w x) (now_at d w x (at x))
  met_step e o v dates fine (PacketCut _ x _ t brings (CutLater p y front back z _ k parts arrives untold)) =
      only_came d w x t (arrived s drawn d w e v dates opening x (cut_to p (y ∷ front)) t k (at x)
      (brought_cut s drawn w e x p y front back z fine brings parts) arrives)
  met_step e o v dates fine (NoMemory _ other_event) = m
