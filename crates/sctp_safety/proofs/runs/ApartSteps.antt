-- Two endpoints that are apart stay apart, or meet: by `open`, or when the listener opens the cookie of what the caller has joined on.
use Rattle.std.proofs.Common.{◌≡◌, ℕ, max, true, false, List, [], ◌∷◌, drop, Option, Some, inl, inr, refl, sym, subst, arith, ◌⊎◌, Bool}
use Rattle.sctp_model.specs.numbers.Lists.{Has, IsWithin, item_at}
use Rattle.sctp_model.specs.wire.Chunk.{ChunkMeaning, CookieEcho}
use Rattle.sctp_model.specs.wire.Packet.{Packet}
use Rattle.sctp_model.specs.end.Sealing.{Body, Sealing}
use Rattle.sctp_model.specs.end.EndView.{Established, Open, Phase, Listening, EndView, has_association}
use Rattle.sctp_model.specs.end.Opening.{begun, joined, terms_of_body, tags_of_body}
use Rattle.sctp_model.specs.end.Clock.{turned}
use Rattle.sctp_model.specs.end.Strays.{Verdict}
use Rattle.sctp_model.specs.end.Arriving.{AllAct, Arrives, Elsewhere, NotOurs, Stray, CookieBegins, Heard, DroppedUnread, ReadAs, CutFirst, CutLater, cut_to, Notes, no_notes, noted, packet_ended, urged}
use Rattle.sctp_model.specs.end.Building.{Builds, packet_of}
use Rattle.sctp_model.specs.end.Moments.{ticked}
use Rattle.sctp_model.specs.end.UserCalls.{reset_call, reset_leaves, reset_there, told_leaves, called, abandoned_at, shut, abort_answer, abort_leaves, abandons}
use Rattle.sctp_model.specs.end.PeerFaults.{Unnoted}
use Rattle.sctp_model.specs.world.World.{Side, A, B, World, end_of, bag_of, log_of, with_end, end_now, came, logged, logged_one, Setup, clock_of}
use Rattle.sctp_model.specs.world.Events.{Event, with_verdict, Outcome}
use Rattle.sctp_model.specs.world.Steps.{named_at, Step, OpensBoth, OpenRefused, TimePasses, Draws, Connects, ConnectRefused, BuildsOne, BuildsNone, PacketComes, IsAbsent, Sends, AbandonsOne, TakesOne, ResetsOne, TellsReset, ShutsDown, AbortsIt, NoMemory, PacketCut, TimeGoesOn, MomentComes}
use Rattle.sctp_model.specs.world.Premises.{asked_at}
use Rattle.sctp_safety.specs.Agreement.{IsOpening}
use Rattle.sctp_safety.proofs.machine.Alike.{alike_is}
use Rattle.sctp_safety.proofs.machine.EndWords.{all_act_keeps}
use Rattle.sctp_safety.proofs.machine.Strangers.{IsFound, found_is, stranger_stays}
use Rattle.sctp_safety.proofs.machine.Ground.{IsFine}
use Rattle.sctp_safety.proofs.machine.Fronts.{item_has, Brought, ByPeer, ByStranger, brought_whole, brought_cut}
use Rattle.sctp_safety.proofs.machine.Turns.{builds_plain}
use Rattle.sctp_safety.proofs.machine.TurnsOfTime.{plain_ticked, plain_abandoned, plain_taken, plain_reset, plain_told, plain_shut, plain_aborted}
use Rattle.sctp_safety.proofs.runs.Bags.{chunks_in, chunk_of_bag}
use Rattle.sctp_safety.proofs.runs.Dates.{dated}
use Rattle.sctp_safety.proofs.runs.DatedBags.{Dates, dated_bag, bag_has, IsYoungIn, AreKept}
use Rattle.sctp_safety.proofs.runs.Pair.{AreOpening}
use Rattle.sctp_safety.proofs.runs.Acted.{Comes}
use Rattle.sctp_safety.proofs.runs.Homes.{IsHome, home_turned}
use Rattle.sctp_safety.proofs.runs.Pairs.{IsPair, pair_round, pair_acts, pair_ended}
use Rattle.sctp_safety.proofs.runs.Answers.{OpensOrEnds, answer_opens}
use Rattle.sctp_safety.proofs.runs.Brought.{unmet_arrives}
use Rattle.sctp_safety.proofs.runs.Unmet.{IsUnmet}
use Rattle.sctp_safety.proofs.runs.Waiting.{waits_ticked, waits_built, waits_abandoned, waits_taken, waits_reset, waits_told, waits_shut, waits_aborted, waits_called, waits_longer}
use Rattle.sctp_safety.proofs.runs.Meeting.{IsUnclosed, unmet_unclosed, ends_meet}
use Rattle.sctp_safety.proofs.runs.MetWorld.{Before, IsMetWorld, told_of, only_came}
use Rattle.sctp_safety.proofs.runs.ApartWorld.{Stands, IsApartWorld, apart_end, apart_same, apart_came, apart_log, apart_packet, apart_verdict, apart_abort, now_unmet, stands_on, stands_now, apart_sent, AreSetUp, some_fragment, dated_opening, opened_meet, apart_clock}

-- ---- the listener

pub listener_has_none : (h : Phase) → h ≡ Listening → has_association h ≡ true → ⊥
listener_has_none h is has = let q : false ≡ true = subst (λ (k : Phase). has_association k ≡ true) is has in absurd (cc)

has-drop : (xs : List ChunkMeaning) (y : ChunkMeaning) → Has (drop 1 xs) y → Has xs y
has-drop [] y h = h
has-drop (x ∷ xs) y h = inr h

module _ (s : Setup) (drawn : List ℕ) (d : Dates) (w : World) (opening : IsOpening s drawn w) (set : AreSetUp s w) (k : IsApartWorld w) where
  -- what is after a cookie in a packet of the caller's; the listener has assigned nothing yet
  pub behind_comes : (p q : Packet) (i : ℕ) → item_at w.from_a i ≡ Some q → IsYoungIn w A (d A i) → IsWithin p.chunks q.chunks → (y : ChunkMeaning) → Has (drop 1 p.chunks) y →
      Comes w.a 0 (dated_bag d w A) y
  behind_comes p q i there young within y h = record {
    said = dated (d A i) y;
    has = bag_has (d A) w.from_a i q y there (within y (has-drop p.chunks y h));
    same = refl;
    own = young.own;
    there = omega arith;
  }

  -- the listener that has opened a cookie of the caller's, and the caller
  pub begun_pair : (p q : Packet) (i : ℕ) (b : Body) → item_at w.from_a i ≡ Some q → IsWithin p.chunks q.chunks → IsFound (end_now w B) p.tag p.chunks b →
      IsPair (begun b (end_now w B)) w.a (asked_at w B) (asked_at w A) (dated_bag d w B) (dated_bag d w A)
  begun_pair p q i b there within found = start
    where
      has : Has w.from_a q
      has = item_has w.from_a i q there

      echo : Has q.chunks (CookieEcho found.cookie)
      echo = within (CookieEcho found.cookie) (subst (λ (xs : List ChunkMeaning). Has xs (CookieEcho found.cookie)) (sym found.chunks) (inl refl))

      ours : s.sealing.opened found.cookie ≡ Some b
      ours = subst (λ (z : Sealing). z.opened found.cookie ≡ Some b) (opening.one_seal B found.seal found.role) found.opens

      turned_home : IsHome (turned (Open (tags_of_body b) Established) (joined (terms_of_body b) b.rwnd (end_now w B)))
      turned_home = home_turned (Open (tags_of_body b) Established) (joined (terms_of_body b) b.rwnd (end_now w B))

      begun_unclosed : IsUnclosed (begun b (end_now w B))
      begun_unclosed = record {
        home = record { shutdown = turned_home.shutdown; ack = turned_home.ack; shutdown_runs = turned_home.shutdown_runs; ack_runs = turned_home.ack_runs };
        early = refl;
        untold = refl;
        uncompleted = λ is. absurd (cc);
      }

      start : IsPair (begun b (end_now w B)) w.a (asked_at w B) (asked_at w A) (dated_bag d w B) (dated_bag d w A)
      start =
          let fits = opening.cookies k.listens q found.cookie b has echo ours in
          pair_round w.a (begun b (end_now w B)) (asked_at w A) (asked_at w B) (dated_bag d w A) (dated_bag d w B)
          (ends_meet w.a (begun b (end_now w B)) (asked_at w A) (asked_at w B) (dated_bag d w A) (dated_bag d w B) (k.calls A) (k.calls B)
          (k.ends A).blank (record { rwnd = b.rwnd; sender = refl; receiver = refl }) fits.1 fits.0 refl
          (k.ends A).moment (now_unmet w B k).moment (some_fragment s w A set) (some_fragment s w B set) (dated_opening d w A k) (dated_opening d w B k)
          (unmet_unclosed w.clock_a w.a (k.ends A)) begun_unclosed)

  -- The listener opens a cookie of the caller's: the two have met, and what is after the cookie acts.
  meets : (p q : Packet) (i : ℕ) (b : Body) (t : EndView) (n : Notes) (gap : Bool) (v : Verdict) → item_at w.from_a i ≡ Some q → IsYoungIn w A (d A i) → IsWithin p.chunks q.chunks →
      IsFound (end_now w B) p.tag p.chunks b → AllAct p.tag (begun b (end_now w B)) (noted Unnoted no_notes) (drop 1 p.chunks) t n v → Before d w B (packet_ended (urged gap n) t)
  meets p q i b t n gap v there young within found acts =
      pair_ended w.a (asked_at w B) (asked_at w A) (dated_bag d w B) (dated_bag d w A) (urged gap n) t
      (all_act_keeps p.tag _ _ _ (pair_acts w.a (asked_at w B) (asked_at w A) (dated_bag d w B) (dated_bag d w A) p.tag 0)
      (begun b (end_now w B)) (noted Unnoted no_notes) (drop 1 p.chunks) t n v (behind_comes p q i there young within)
      (record { pair = begun_pair p q i b there within found; assigned = refl }) acts).0.pair

  listener_hears : (p q : Packet) (i : ℕ) (t : EndView) (v : Verdict) → item_at w.from_a i ≡ Some q → IsYoungIn w A (d A i) → IsWithin p.chunks q.chunks →
      Arrives (end_now w B) w.draw p t v → (t ≡ end_now w B) ⊎ Before d w B t
  listener_hears p q i t v here young within (Elsewhere ports) = inl refl
  listener_hears p q i t v here young within (NotOurs ports passes) = inl refl
  listener_hears p q i t v here young within (Stray ports passes none closed) = inl refl
  listener_hears p q i t v here young within (CookieBegins b u n _ ports passes none opens acts gap _) = inr (meets p q i b u n gap v here young within (found_is (end_now w B) p.tag p.chunks b opens) acts)
  listener_hears p q i t v here young within (Heard _ _ _ ports passes there acts gap _) = absurd (listener_has_none w.b.phase k.listens there)

  -- ---- either endpoint

  -- the endpoint is apart from its peer still, or they have met
  abbrev Left : Side → EndView → Type 0
  Left x t = (IsUnmet (clock_of w x) t × Stands x t.phase) ⊎ Before d w x t

  as_it_was : (x : Side) (t : EndView) → t ≡ end_now w x → Left x t
  as_it_was x t same = inl (subst (IsUnmet (clock_of w x)) (sym same) (now_unmet w x k), subst (λ (e : EndView). Stands x e.phase) (sym same) (stands_now w x k))

  hears : (caller : w.a.phase ≡ Listening → ⊥) (e : Event) (after : World) → AreKept d w e after → (x : Side) (p : Packet) (t : EndView) (v : Verdict) → Brought s drawn w e x p →
      Arrives (end_now w x) w.draw p t v → Left x t
  hears caller e after dates x p t v (ByStranger strange alone) arrives =
      as_it_was x t (stranger_stays s.sealing drawn (end_now w x) w.draw p t v strange alone (opening.drawn_tags x) (opening.one_seal x) arrives)
  hears caller e after dates A p t v (ByPeer q i is found front) arrives =
      inl (
        unmet_arrives w.clock_a (end_now w A) w.draw p t v (now_unmet w A k) caller
            (λ y h. k.opening B y (chunk_of_bag w.from_b q y (item_has w.from_b i q found) (front.chunks y h))) arrives,
        tt,
      )
  hears caller e after dates B p t v (ByPeer q i is found front) arrives =
      go (listener_hears p q i t v found (dates.young A i q is found) front.chunks arrives)
    where
      go : (t ≡ end_now w B) ⊎ Before d w B t → Left B t
      go (inl same) = as_it_was B t same
      go (inr met) = inr met

  told : (x : Side) (t : EndView) (v : Verdict) → OpensOrEnds v → Left x t → IsApartWorld (with_verdict (came w x t) x v) ⊎ IsMetWorld d (with_verdict (came w x t) x v)
  told x t v opens (inl (m, stands)) = inl (apart_verdict (came w x t) x v opens (apart_came w x t k m stands))
  told x t v opens (inr met) = inr (told_of d w x t v met opens)

  untold : (x : Side) (t : EndView) → Left x t → IsApartWorld (came w x t) ⊎ IsMetWorld d (came w x t)
  untold x t (inl (m, stands)) = inl (apart_came w x t k m stands)
  untold x t (inr met) = inr (only_came d w x t met)

  -- ---- steps

  passes : (n : ℕ) → IsApartWorld (record w {
    a = ticked w.a (max w.clock_a n);
    b = ticked w.b (max w.clock_b n);
    log_a = logged w A (ticked w.a (max w.clock_a n));
    log_b = logged w B (ticked w.b (max w.clock_b n));
    clock_a = max w.clock_a n;
    clock_b = max w.clock_b n;
  })
  passes n = record { listens = stands_on w B (ticked w.b there).phase k (plain_ticked w.b there).turn; ends = ends; calls = calls; opening = bags }
    where
      here : ℕ
      here = max w.clock_a n

      there : ℕ
      there = max w.clock_b n

      later : World
      later = record w { a = ticked w.a here; b = ticked w.b there; log_a = logged w A (ticked w.a here); log_b = logged w B (ticked w.b there); clock_a = here; clock_b = there }

      ends : (x : Side) → IsUnmet (clock_of later x) (end_of later x)
      ends A = waits_ticked here w.a here (waits_longer w.clock_a here w.a (omega arith) (k.ends A)) (omega arith)
      ends B = waits_ticked there w.b there (waits_longer w.clock_b there w.b (omega arith) (k.ends B)) (omega arith)

      calls : (x : Side) → (log_of later x).calls ≡ []
      calls A = k.calls A
      calls B = k.calls B

      bags : (x : Side) → AreOpening (chunks_in (bag_of later x))
      bags A = k.opening A
      bags B = k.opening B

  builds : (x : Side) (zs : List ChunkMeaning) (t : EndView) → Builds (end_now w x) zs t → IsUnmet (clock_of w x) t × AreOpening zs × Stands x t.phase
  builds x zs t b =
      let m = waits_built (clock_of w x) (end_now w x) zs t (now_unmet w x k) b in
      (m.0, m.1, stands_on w x t.phase k (builds_plain (end_now w x) zs t b).turn)

  pub apart_step : (caller : w.a.phase ≡ Listening → ⊥) (e : Event) (o : Option Outcome) (v : World) → AreKept d w e v → IsFine s drawn e → Step w e o v → IsApartWorld v ⊎ IsMetWorld d v
  apart_step caller e o v dates fine (OpensBoth x y like may dx dy) = inr (opened_meet s d w x y set (alike_is w.a.configuration w.b.configuration like) k)
  apart_step caller e o v dates fine (OpenRefused x y off) = inl k
  apart_step caller e o v dates fine (TimeGoesOn x n small) = inl (apart_clock w x n k)
  apart_step caller e o v dates fine (MomentComes x) =
      inl (apart_log (with_end w x (ticked (end_of w x) (clock_of w x))) x (logged w x (ticked (end_of w x) (clock_of w x))) (k.calls x)
      (apart_end w x (ticked (end_of w x) (clock_of w x)) k (waits_ticked (clock_of w x) (end_of w x) (clock_of w x) (k.ends x) (omega arith))
      (stands_on w x _ k (plain_ticked (end_of w x) (clock_of w x)).turn)))
  apart_step caller e o v dates fine (TimePasses n small) = inl (passes n)
  apart_step caller e o v dates fine (Draws c dd) = inl (apart_same w v refl refl refl refl refl refl refl refl k)
  apart_step caller e o v dates fine (Connects c dd answer) =
      inl (apart_same (with_end w A (called (end_now w A) c)) v refl refl refl refl refl refl refl refl
      (apart_end w A (called (end_now w A) c) k (waits_called w.clock_a (end_now w A) c (now_unmet w A k)) tt))
  apart_step caller e o v dates fine (ConnectRefused c answer) = inl k
  apart_step caller e o v dates fine (BuildsOne x y ys t b) =
      let m = builds x (y ∷ ys) t b in
      inl (apart_packet (with_end w x t) x (packet_of (end_of w x) (y ∷ ys)) m.1 (apart_end w x t k m.0 m.2))
  apart_step caller e o v dates fine (BuildsNone x t b) = let m = builds x [] t b in inl (apart_end w x t k m.0 m.2)
  apart_step caller e o v dates fine (PacketComes _ x _ t c brings (ReadAs p _ _ arrives)) =
      told x t c (answer_opens (end_now w x) w.draw p t c arrives) (hears caller e v dates x p t c (brought_whole s drawn w e x p fine brings) arrives)
  apart_step caller e o v dates fine (IsAbsent x n none) = inl k
  apart_step caller e o v dates fine (PacketComes _ x _ _ _ brings DroppedUnread) = inl (apart_came w x (end_now w x) k (now_unmet w x k) (stands_now w x k))
  apart_step caller e o v dates fine (Sends x c) = inl (apart_sent w x c k)
  apart_step caller e o v dates fine (AbandonsOne x n) =
      inl (apart_log (with_end w x (abandoned_at (end_of w x) n)) x (named_at (logged_one w x n (abandoned_at (end_of w x) n)) (abandons (end_of w x) n) n) (k.calls x)
      (apart_end w x (abandoned_at (end_of w x) n) k (waits_abandoned (clock_of w x) (end_of w x) n (k.ends x)) (stands_on w x _ k (plain_abandoned (end_of w x) n).turn)))
  apart_step caller e o v dates fine (TakesOne x n h t takes) =
      inl (apart_end w x t k (waits_taken (clock_of w x) (end_of w x) n h t (k.ends x) takes) (stands_on w x t.phase k (plain_taken (end_of w x) n h t takes).turn))
  apart_step caller e o v dates fine (ResetsOne x n) =
      inl (apart_end w x (reset_leaves (reset_call (end_of w x) n) (end_of w x) n) k (waits_reset (clock_of w x) (end_of w x) n (k.ends x)) (stands_on w x _ k (plain_reset (end_of w x) (reset_call (end_of w x) n) n).turn))
  apart_step caller e o v dates fine (TellsReset x) =
      inl (apart_end w x (told_leaves (reset_there (end_of w x)) (end_of w x)) k (waits_told (clock_of w x) (end_of w x) (k.ends x)) (stands_on w x _ k (plain_told (end_of w x) (reset_there (end_of w x))).turn))
  apart_step caller e o v dates fine (ShutsDown x) =
      inl (apart_end w x (shut (end_of w x)) k (waits_shut (clock_of w x) (end_of w x) (k.ends x)) (stands_on w x _ k (plain_shut (end_of w x)).turn))
  apart_step caller e o v dates fine (AbortsIt x r) =
      inl (apart_abort (with_end w x (abort_leaves (abort_answer (end_of w x) r) (end_of w x))) x (end_of w x) r
      (apart_end w x _ k (waits_aborted (clock_of w x) (end_of w x) (abort_answer (end_of w x) r) (k.ends x)) (stands_on w x _ k (plain_aborted (end_of w x) r).turn)))
  apart_step caller e o v dates fine (PacketCut _ x _ _ brings (CutFirst _)) = inl (apart_came w x (end_now w x) k (now_unmet w x k) (stands_now w x k))
  apart_step caller e o v dates fine (PacketCut _ x _ t brings (CutLater p y front back z _ c parts arrives silent)) =
      untold x t (hears caller e v dates x (cut_to p (y ∷ front)) t c (brought_cut s drawn w e x p y front back z fine brings parts) arrives)
  apart_step caller e o v dates fine (NoMemory _ other_event) = inl k
