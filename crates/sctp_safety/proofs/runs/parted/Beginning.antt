-- In a world whose endpoints haven't met, and in one whose endpoints have just met, no stream is reset.
use Rattle.std.proofs.Common.{◌≡◌, ℕ, max, Bool, true, false, List, [], ◌∷◌, Option, Some, None, inl, inr, refl, sym, subst, arith}
use Rattle.std.specs.Prelude.{drop}
use Rattle.sctp_model.specs.numbers.Lists.{IsWithin, item_at}
use Rattle.sctp_model.specs.wire.Packet.{Packet}
use Rattle.sctp_model.specs.sender.Outgoing.{is_sending, Request}
use Rattle.sctp_model.specs.sender.SenderView.{SenderView}
use Rattle.sctp_model.specs.receiver.ReceiverView.{ReceiverView}
use Rattle.sctp_model.specs.end.EndView.{EndView, Listening}
use Rattle.sctp_model.specs.end.Sealing.{Body}
use Rattle.sctp_model.specs.end.Opening.{begun}
use Rattle.sctp_model.specs.end.Moments.{ticked}
use Rattle.sctp_model.specs.end.PeerFaults.{Unnoted}
use Rattle.sctp_model.specs.end.Strays.{Verdict}
use Rattle.sctp_model.specs.end.Arriving.{AllAct, Arrives, Elsewhere, NotOurs, Stray, CookieBegins, Heard, Notes, no_notes, noted, urged, packet_ended, DroppedUnread, ReadAs, CutFirst, CutLater, cut_to}
use Rattle.sctp_model.specs.end.UserCalls.{reset_call, reset_leaves, reset_there, told_leaves, abort_answer, abort_leaves, abandoned_at, called, shut}
use Rattle.sctp_model.specs.world.World.{Side, A, B, World, end_of, end_now, Setup, clock_of}
use Rattle.sctp_model.specs.world.Events.{Event, Outcome}
use Rattle.sctp_model.specs.world.Steps.{Step, OpensBoth, OpenRefused, TimePasses, Draws, Connects, ConnectRefused, BuildsOne, BuildsNone, PacketComes, IsAbsent, Sends, AbandonsOne, TakesOne, ResetsOne, TellsReset, ShutsDown, AbortsIt, NoMemory, PacketCut, TimeGoesOn, MomentComes}
use Rattle.sctp_model.specs.world.Premises.{asked_at}
use Rattle.sctp_safety.specs.Agreement.{IsOpening}
use Rattle.sctp_safety.proofs.machine.Fronts.{item_has, Brought, ByPeer, ByStranger, brought_whole, brought_cut}
use Rattle.sctp_safety.proofs.machine.Ground.{IsFine}
use Rattle.sctp_safety.proofs.machine.EndWords.{all_act_keeps}
use Rattle.sctp_safety.proofs.machine.OneEnd.{IsAt, at_end, at_log, at_packet, at_came, answer_of, at_verdict, abort_of, at_abort}
use Rattle.sctp_safety.proofs.machine.Strangers.{IsFound, found_is, stranger_stays}
use Rattle.sctp_safety.proofs.runs.ApartWorld.{IsApartWorld, AreSetUp, now_unmet, apart_sent}
use Rattle.sctp_safety.proofs.runs.ApartSteps.{behind_comes, begun_pair, listener_has_none}
use Rattle.sctp_safety.proofs.runs.Bags.{chunk_of_bag}
use Rattle.sctp_safety.proofs.runs.Brought.{unmet_arrives}
use Rattle.sctp_safety.proofs.runs.DatedBags.{Dates, dated_bag, IsYoungIn, AreKept}
use Rattle.sctp_safety.proofs.runs.Unmet.{IsUnmet, IsBlank}
use Rattle.sctp_safety.proofs.runs.Waiting.{waits_ticked, waits_built, waits_abandoned, waits_taken, waits_reset, waits_told, waits_shut, waits_aborted, waits_called, waits_longer}
use Rattle.sctp_safety.proofs.runs.parted.LaterEnds.{LaterEnd, later_itself, later_on, later_ended, on_the_way, OnTheWay}

-- an endpoint none of whose streams is reset, either way
pub record IsUnreset (e : EndView) (n : ℕ) : Type 0 where
  pub sends : is_sending (e.sender.resets.sending n) ≡ true
  pub untold : e.receiver.resets.told n ≡ None

pub blank_unreset : (e : EndView) (n : ℕ) → IsBlank e → IsUnreset e n
blank_unreset e n b = record {
  sends = subst (λ (v : SenderView). is_sending (v.resets.sending n) ≡ true) (sym b.sender) refl;
  untold = subst (λ (r : ReceiverView). r.resets.told n ≡ None) (sym b.receiver) refl;
}

none_asked : (e : EndView) (q : Request) → IsBlank e → e.sender.resets.pending ≡ Some q → ⊥
none_asked e q b waits = let none : None ≡ Some q = subst (λ (v : SenderView). v.resets.pending ≡ Some q) b.sender waits in cc

-- a later end, whose peer is blank
later_unreset : (p e t : EndView) (n : ℕ) → IsBlank p → LaterEnd p e t → IsUnreset e n → IsUnreset t n
later_unreset p e t n blank l u = record { sends = sends (is_sending (t.sender.resets.sending n)) refl; untold = untold (t.receiver.resets.told n) refl }
  where
    sends : (b : Bool) → is_sending (t.sender.resets.sending n) ≡ b → b ≡ true
    sends true is = refl
    sends false is = absurd (let off = l.sender.shut n is in let on = u.sends in cc)

    untold : (o : Option ℕ) → t.receiver.resets.told n ≡ o → o ≡ None
    untold None is = refl
    untold (Some c) is = absurd (elim (l.receiver.told n c is) [
      | inl before ↦ let none = u.untold in cc
      | inr performed ↦ none_asked p performed.asks.request blank performed.asks.waits
    ])

module _ (s : Setup) (drawn : List ℕ) (d : Dates) (w : World) (opening : IsOpening s drawn w) (set : AreSetUp s w) (k : IsApartWorld w) (n : ℕ) where
  blank : (x : Side) → IsBlank (end_of w x)
  blank x = (k.ends x).blank

  unreset : (x : Side) → IsUnreset (end_of w x) n
  unreset x = blank_unreset (end_of w x) n (blank x)

  at_one : (v : World) (z : Side) (t : EndView) (given : Option Packet) → IsAt w v z t given → IsUnreset t n → (x : Side) → IsUnreset (end_of v x) n
  at_one v A t given is new A = subst (λ (e : EndView). IsUnreset e n) (sym is.here) new
  at_one v A t given is new B = subst (λ (e : EndView). IsUnreset e n) (sym is.there) (unreset B)
  at_one v B t given is new B = subst (λ (e : EndView). IsUnreset e n) (sym is.here) new
  at_one v B t given is new A = subst (λ (e : EndView). IsUnreset e n) (sym is.there) (unreset A)

  -- the listener opens a cookie
  meets : (p q : Packet) (i : ℕ) (b : Body) (t : EndView) (m : Notes) (gap : Bool) (v : Verdict) → item_at w.from_a i ≡ Some q → IsYoungIn w A (d A i) → IsWithin p.chunks q.chunks →
      IsFound (end_now w B) p.tag p.chunks b → AllAct p.tag (begun b (end_now w B)) (noted Unnoted no_notes) (drop 1 p.chunks) t m v → IsUnreset (packet_ended (urged gap m) t) n
  meets p q i b t m gap v there young within found acts =
      later_unreset w.a (begun b (end_now w B)) (packet_ended (urged gap m) t) n (blank A)
      (later_on w.a (begun b (end_now w B)) t (packet_ended (urged gap m) t)
      (all_act_keeps p.tag (OnTheWay w.a (asked_at w B) (asked_at w A) (dated_bag d w B) (dated_bag d w A) 0 (begun b (end_now w B))) _ _
      (on_the_way w.a (asked_at w B) (asked_at w A) (dated_bag d w B) (dated_bag d w A) 0 (begun b (end_now w B)) p.tag)
      (begun b (end_now w B)) (noted Unnoted no_notes) (drop 1 p.chunks) t m v (behind_comes s drawn d w opening set k p q i there young within)
      (record { met = record { met = (begun_pair s drawn d w opening set k p q i b there within found).met; assigned = refl }; later = later_itself w.a (begun b (end_now w B)) }) acts).0.later
      (later_ended w.a (urged gap m) t))
      (record { sends = refl; untold = refl })

  now_unreset : (x : Side) → IsUnreset (end_now w x) n
  now_unreset x = record { sends = (unreset x).sends; untold = (unreset x).untold }

  listener_hears : (p q : Packet) (i : ℕ) (t : EndView) (v : Verdict) → item_at w.from_a i ≡ Some q → IsYoungIn w A (d A i) → IsWithin p.chunks q.chunks →
      Arrives (end_now w B) w.draw p t v → IsUnreset t n
  listener_hears p q i t v here young within (Elsewhere ports) = now_unreset B
  listener_hears p q i t v here young within (NotOurs ports passes) = now_unreset B
  listener_hears p q i t v here young within (Stray ports passes none closed) = now_unreset B
  listener_hears p q i t v here young within (CookieBegins b u m _ ports passes none opens acts gap _) = meets p q i b u m gap v here young within (found_is (end_now w B) p.tag p.chunks b opens) acts
  listener_hears p q i t v here young within (Heard _ _ _ ports passes there acts gap _) = absurd (listener_has_none w.b.phase k.listens there)

  hears : (caller : w.a.phase ≡ Listening → ⊥) (e : Event) (after : World) → AreKept d w e after → (x : Side) (p : Packet) (t : EndView) (v : Verdict) → Brought s drawn w e x p →
      Arrives (end_now w x) w.draw p t v → IsUnreset t n
  hears caller e after dates x p t v (ByStranger strange alone) arrives =
      subst (λ (c : EndView). IsUnreset c n) (sym (stranger_stays s.sealing drawn (end_now w x) w.draw p t v strange alone (opening.drawn_tags x) (opening.one_seal x) arrives)) (now_unreset x)
  hears caller e after dates A p t v (ByPeer q i is found front) arrives =
      blank_unreset t n (unmet_arrives w.clock_a (end_now w A) w.draw p t v (now_unmet w A k) caller
      (λ y h. k.opening B y (chunk_of_bag w.from_b q y (item_has w.from_b i q found) (front.chunks y h))) arrives).blank
  hears caller e after dates B p t v (ByPeer q i is found front) arrives = listener_hears p q i t v found (dates.young A i q is found) front.chunks arrives

  by_blank : (clock : ℕ) (t : EndView) → IsUnmet clock t → IsUnreset t n
  by_blank clock t m = blank_unreset t n m.blank

  of_apart : (v : World) → IsApartWorld v → (x : Side) → IsUnreset (end_of v x) n
  of_apart v a x = blank_unreset (end_of v x) n (a.ends x).blank

  both : (v : World) → IsUnreset v.a n → IsUnreset v.b n → (x : Side) → IsUnreset (end_of v x) n
  both v a b A = a
  both v a b B = b

  -- so it is after one step
  pub step_unreset : (caller : w.a.phase ≡ Listening → ⊥) (e : Event) (o : Option Outcome) (v : World) → AreKept d w e v → IsFine s drawn e → Step w e o v → (x : Side) → IsUnreset (end_of v x) n
  step_unreset caller e o v dates fine (OpensBoth y z like may dx dy) = both v (record { sends = refl; untold = refl }) (record { sends = refl; untold = refl })
  step_unreset caller e o v dates fine (OpenRefused y z off) = unreset
  step_unreset caller e o v dates fine (TimeGoesOn A m small) = both v (unreset A) (unreset B)
  step_unreset caller e o v dates fine (TimeGoesOn B m small) = both v (unreset A) (unreset B)
  step_unreset caller e o v dates fine (MomentComes z) =
      at_one v z _ None (at_log w z _ _) (by_blank (clock_of w z) (ticked (end_of w z) (clock_of w z)) (waits_ticked (clock_of w z) (end_of w z) (clock_of w z) (k.ends z) (omega arith)))
  step_unreset caller e o v dates fine (TimePasses m small) =
      let here = max w.clock_a m in
      let there = max w.clock_b m in
      both v (by_blank here (ticked w.a here) (waits_ticked here w.a here (waits_longer w.clock_a here w.a (omega arith) (k.ends A)) (omega arith)))
      (by_blank there (ticked w.b there) (waits_ticked there w.b there (waits_longer w.clock_b there w.b (omega arith) (k.ends B)) (omega arith)))
  step_unreset caller e o v dates fine (Draws c dd) = both v (unreset A) (unreset B)
  step_unreset caller e o v dates fine (Connects c dd answer) = both v (by_blank w.clock_a (called (end_now w A) c) (waits_called w.clock_a (end_now w A) c (now_unmet w A k))) (unreset B)
  step_unreset caller e o v dates fine (ConnectRefused c answer) = unreset
  step_unreset caller e o v dates fine (BuildsOne z y ys t b) = at_one v z t _ (at_packet w z t _) (by_blank (clock_of w z) t (waits_built (clock_of w z) (end_now w z) (y ∷ ys) t (now_unmet w z k) b).0)
  step_unreset caller e o v dates fine (BuildsNone z t b) = at_one v z t None (at_end w z t) (by_blank (clock_of w z) t (waits_built (clock_of w z) (end_now w z) [] t (now_unmet w z k) b).0)
  step_unreset caller e o v dates fine (PacketComes _ z _ t c brings (ReadAs p _ _ arrives)) =
      at_one v z t (answer_of c) (at_verdict w z t c) (hears caller e v dates z p t c (brought_whole s drawn w e z p fine brings) arrives)
  step_unreset caller e o v dates fine (PacketComes _ z _ _ c brings DroppedUnread) = at_one v z (end_now w z) None (at_came w z (end_now w z)) (now_unreset z)
  step_unreset caller e o v dates fine (PacketCut _ z _ _ brings (CutFirst _)) = at_one v z (end_now w z) None (at_came w z (end_now w z)) (now_unreset z)
  step_unreset caller e o v dates fine (PacketCut _ z _ t brings (CutLater p y front back c _ g part arrives untold)) =
      at_one v z t None (at_came w z t) (hears caller e v dates z (cut_to p (y ∷ front)) t g (brought_cut s drawn w e z p y front back c fine brings part) arrives)
  step_unreset caller e o v dates fine (IsAbsent z i none) = unreset
  step_unreset caller e o v dates fine (Sends z c) = of_apart v (apart_sent w z c k)
  step_unreset caller e o v dates fine (AbandonsOne z i) = at_one v z _ None (at_log w z _ _) (by_blank (clock_of w z) (abandoned_at (end_of w z) i) (waits_abandoned (clock_of w z) (end_of w z) i (k.ends z)))
  step_unreset caller e o v dates fine (TakesOne z i h t takes) = at_one v z t None (at_end w z t) (by_blank (clock_of w z) t (waits_taken (clock_of w z) (end_of w z) i h t (k.ends z) takes))
  step_unreset caller e o v dates fine (ResetsOne z i) =
      at_one v z _ None (at_end w z _) (by_blank (clock_of w z) (reset_leaves (reset_call (end_of w z) i) (end_of w z) i) (waits_reset (clock_of w z) (end_of w z) i (k.ends z)))
  step_unreset caller e o v dates fine (TellsReset z) = at_one v z _ None (at_end w z _) (by_blank (clock_of w z) (told_leaves (reset_there (end_of w z)) (end_of w z)) (waits_told (clock_of w z) (end_of w z) (k.ends z)))
  step_unreset caller e o v dates fine (ShutsDown z) = at_one v z _ None (at_end w z _) (by_blank (clock_of w z) (shut (end_of w z)) (waits_shut (clock_of w z) (end_of w z) (k.ends z)))
  step_unreset caller e o v dates fine (AbortsIt z why) =
      let a = abort_answer (end_of w z) why in
      at_one v z (abort_leaves a (end_of w z)) (abort_of a) (at_abort w z _ a) (by_blank (clock_of w z) (abort_leaves a (end_of w z)) (waits_aborted (clock_of w z) (end_of w z) a (k.ends z)))
  step_unreset caller e o v dates fine (NoMemory _ other_event) = unreset
