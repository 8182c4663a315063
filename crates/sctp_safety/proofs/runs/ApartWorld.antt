-- A world in which the two endpoints are apart: the listener listens, the caller isn't open, nothing was said of a direction.
use Rattle.std.proofs.Common.{◌≡◌, ℕ, ◌-◌, ◌<◌, min, nat_le, Bool, true, false, List, [], ◌∷◌, ◌++◌, Option, Some, None, inl, inr, refl, sym, subst, ap, arith, ◌⊎◌, ◌∙◌, if◌then◌else◌, max}
use Rattle.sctp_model.specs.numbers.Lists.{Has}
use Rattle.sctp_model.specs.wire.Chunk.{ChunkMeaning}
use Rattle.sctp_model.specs.wire.Packet.{Packet, size_of_packet}
use Rattle.sctp_model.specs.world.Calls.{Call}
use Rattle.sctp_model.specs.end.EndView.{Draw, Configuration, Phase, Listening, EndView}
use Rattle.sctp_model.specs.end.Configured.{IsConfiguration}
use Rattle.sctp_model.specs.end.Strays.{Verdict, Taken, Dropped, Answer}
use Rattle.sctp_model.specs.end.UserCalls.{Aborts, TooLong, peer_tag, abort_packet, abort_answer_to, abort_answer, SendAnswer, send_answer, send_leaves}
use Rattle.sctp_model.specs.world.World.{Side, A, B, Log, World, end_of, bag_of, log_of, with_end, with_packet, with_log, end_now, came, Setup, configuration_of, clock_of, with_clock}
use Rattle.sctp_model.specs.world.Events.{with_verdict, with_abort}
use Rattle.sctp_model.specs.end.Opening.{opened}
use Rattle.sctp_model.specs.world.Steps.{accepted}
use Rattle.sctp_model.specs.world.Premises.{asked_at}
use Rattle.sctp_safety.specs.States.{has_begun}
use Rattle.sctp_safety.specs.Agreement.{AreAgreed}
use Rattle.sctp_safety.proofs.machine.Alike.{AreAlike}
use Rattle.sctp_safety.proofs.lists.Basics.{Has-cases}
use Rattle.sctp_safety.proofs.machine.Turns.{IsPlainTurn}
use Rattle.sctp_safety.proofs.machine.Diagram.{plain_unbegun}
use Rattle.sctp_safety.proofs.runs.Bags.{chunks_in, chunks_push}
use Rattle.sctp_safety.proofs.runs.Dates.{undated}
use Rattle.sctp_safety.proofs.runs.DatedBags.{Dates, dated_bag, undated_bag}
use Rattle.sctp_safety.proofs.runs.Pair.{opens_or_ends, AreOpening}
use Rattle.sctp_safety.proofs.runs.Answers.{OpensOrEnds, one_opening}
use Rattle.sctp_safety.proofs.runs.Unmet.{IsUnmet}
use Rattle.sctp_safety.proofs.runs.Waiting.{waits_now, nothing_sent, waits_longer}
use Rattle.sctp_safety.proofs.runs.Meeting.{IsUnclosed, ends_meet}
use Rattle.sctp_safety.proofs.runs.MetWorld.{IsMetWorld}

-- the listener is just that
abbrev pub Stands : Side → Phase → Type 0
Stands A h = Unit {0}
Stands B h = h ≡ Listening

pub record IsApartWorld (w : World) : Type 0 where
  pub listens : w.b.phase ≡ Listening
  pub ends : (x : Side) → IsUnmet (clock_of w x) (end_of w x)
  pub calls : (x : Side) → (log_of w x).calls ≡ []
  pub opening : (x : Side) → AreOpening (chunks_in (bag_of w x))

-- ---- what a step puts into the world

pub apart_end : (w : World) (x : Side) (t : EndView) → IsApartWorld w → IsUnmet (clock_of w x) t → Stands x t.phase → IsApartWorld (with_end w x t)
apart_end w A t k m s = record { listens = k.listens; ends = ends; calls = calls; opening = opening }
  where
    ends : (x : Side) → IsUnmet (clock_of (with_end w A t) x) (end_of (with_end w A t) x)
    ends A = m
    ends B = k.ends B

    calls : (x : Side) → (log_of (with_end w A t) x).calls ≡ []
    calls A = k.calls A
    calls B = k.calls B

    opening : (x : Side) → AreOpening (chunks_in (bag_of (with_end w A t) x))
    opening A = k.opening A
    opening B = k.opening B
apart_end w B t k m s = record { listens = s; ends = ends; calls = calls; opening = opening }
  where
    ends : (x : Side) → IsUnmet (clock_of (with_end w B t) x) (end_of (with_end w B t) x)
    ends A = k.ends A
    ends B = m

    calls : (x : Side) → (log_of (with_end w B t) x).calls ≡ []
    calls A = k.calls A
    calls B = k.calls B

    opening : (x : Side) → AreOpening (chunks_in (bag_of (with_end w B t) x))
    opening A = k.opening A
    opening B = k.opening B

-- the same endpoints, bags, logs and clocks
pub apart_same : (w v : World) → v.a ≡ w.a → v.b ≡ w.b → v.from_a ≡ w.from_a → v.from_b ≡ w.from_b → v.log_a.calls ≡ w.log_a.calls → v.log_b.calls ≡ w.log_b.calls → v.clock_a ≡ w.clock_a → v.clock_b ≡ w.clock_b →
    IsApartWorld w → IsApartWorld v
apart_same w v a b from_a from_b log_a log_b clock_a clock_b k = record { listens = ap (λ (e : EndView). e.phase) b ∙ k.listens; ends = ends; calls = calls; opening = opening }
  where
    ends : (x : Side) → IsUnmet (clock_of v x) (end_of v x)
    ends A = subst (λ (n : ℕ). IsUnmet n v.a) (sym clock_a) (subst (λ (e : EndView). IsUnmet w.clock_a e) (sym a) (k.ends A))
    ends B = subst (λ (n : ℕ). IsUnmet n v.b) (sym clock_b) (subst (λ (e : EndView). IsUnmet w.clock_b e) (sym b) (k.ends B))

    calls : (x : Side) → (log_of v x).calls ≡ []
    calls A = log_a ∙ k.calls A
    calls B = log_b ∙ k.calls B

    opening : (x : Side) → AreOpening (chunks_in (bag_of v x))
    opening A = subst (λ (ps : List Packet). AreOpening (chunks_in ps)) (sym from_a) (k.opening A)
    opening B = subst (λ (ps : List Packet). AreOpening (chunks_in ps)) (sym from_b) (k.opening B)

pub apart_came : (w : World) (x : Side) (t : EndView) → IsApartWorld w → IsUnmet (clock_of w x) t → Stands x t.phase → IsApartWorld (came w x t)
apart_came w A t k m s = apart_same (with_end w A t) (came w A t) refl refl refl refl refl refl refl refl (apart_end w A t k m s)
apart_came w B t k m s = apart_same (with_end w B t) (came w B t) refl refl refl refl refl refl refl refl (apart_end w B t k m s)

pub apart_log : (w : World) (x : Side) (l : Log) → l.calls ≡ [] → IsApartWorld w → IsApartWorld (with_log w x l)
apart_log w A l none k = apart_same w (with_log w A l) refl refl refl refl (none ∙ sym (k.calls A)) refl refl refl k
apart_log w B l none k = apart_same w (with_log w B l) refl refl refl refl refl (none ∙ sym (k.calls B)) refl refl k

-- the chunks of a bag with one packet more
opening_more : (ps : List Packet) (p : Packet) → AreOpening (chunks_in ps) → AreOpening p.chunks → AreOpening (chunks_in (ps ++ p ∷ []))
opening_more ps p all more y has = go (Has-cases (chunks_in ps) p.chunks y (subst (λ (xs : List ChunkMeaning). Has xs y) (chunks_push ps p) has))
  where
    go : Has (chunks_in ps) y ⊎ Has p.chunks y → opens_or_ends y ≡ true
    go (inl h) = all y h
    go (inr h) = more y h

pub apart_packet : (w : World) (x : Side) (p : Packet) → AreOpening p.chunks → IsApartWorld w → IsApartWorld (with_packet w x p)
apart_packet w A p more k = record { listens = k.listens; ends = ends; calls = calls; opening = opening }
  where
    ends : (x : Side) → IsUnmet (clock_of (with_packet w A p) x) (end_of (with_packet w A p) x)
    ends A = k.ends A
    ends B = k.ends B

    calls : (x : Side) → (log_of (with_packet w A p) x).calls ≡ []
    calls A = k.calls A
    calls B = k.calls B

    opening : (x : Side) → AreOpening (chunks_in (bag_of (with_packet w A p) x))
    opening A = opening_more w.from_a p (k.opening A) more
    opening B = k.opening B
apart_packet w B p more k = record { listens = k.listens; ends = ends; calls = calls; opening = opening }
  where
    ends : (x : Side) → IsUnmet (clock_of (with_packet w B p) x) (end_of (with_packet w B p) x)
    ends A = k.ends A
    ends B = k.ends B

    calls : (x : Side) → (log_of (with_packet w B p) x).calls ≡ []
    calls A = k.calls A
    calls B = k.calls B

    opening : (x : Side) → AreOpening (chunks_in (bag_of (with_packet w B p) x))
    opening A = k.opening A
    opening B = opening_more w.from_b p (k.opening B) more

pub apart_verdict : (w : World) (x : Side) (v : Verdict) → OpensOrEnds v → IsApartWorld w → IsApartWorld (with_verdict w x v)
apart_verdict w x Taken opens k = k
apart_verdict w x (Dropped n) opens k = k
apart_verdict w x (Answer p) opens k = apart_packet w x p opens k

pub apart_abort : (w : World) (x : Side) (e : EndView) (r : List ℕ) → IsApartWorld w → IsApartWorld (with_abort w x (abort_answer e r))
apart_abort w x e r k = go (peer_tag e.phase)
  where
    by : (n : ℕ) (b : Bool) → IsApartWorld (with_abort w x (if b then Aborts (abort_packet e n r) else TooLong))
    by n true = apart_packet w x (abort_packet e n r) (one_opening _ refl) k
    by n false = k

    go : (o : Option ℕ) → IsApartWorld (with_abort w x (abort_answer_to e r o))
    go None = k
    go (Some n) = by n (nat_le (size_of_packet (abort_packet e n r).chunks) e.configuration.limit)

-- the clock of one endpoint goes on
pub apart_clock : (w : World) (x : Side) (m : ℕ) → IsApartWorld w → IsApartWorld (with_clock w x m)
apart_clock w A m k = record { listens = k.listens; ends = ends; calls = calls; opening = opening }
  where
    ends : (x : Side) → IsUnmet (clock_of (with_clock w A m) x) (end_of (with_clock w A m) x)
    ends A = waits_longer w.clock_a (max w.clock_a m) w.a (omega arith) (k.ends A)
    ends B = k.ends B

    calls : (x : Side) → (log_of (with_clock w A m) x).calls ≡ []
    calls A = k.calls A
    calls B = k.calls B

    opening : (x : Side) → AreOpening (chunks_in (bag_of (with_clock w A m) x))
    opening A = k.opening A
    opening B = k.opening B
apart_clock w B m k = record { listens = k.listens; ends = ends; calls = calls; opening = opening }
  where
    ends : (x : Side) → IsUnmet (clock_of (with_clock w B m) x) (end_of (with_clock w B m) x)
    ends A = k.ends A
    ends B = waits_longer w.clock_b (max w.clock_b m) w.b (omega arith) (k.ends B)

    calls : (x : Side) → (log_of (with_clock w B m) x).calls ≡ []
    calls A = k.calls A
    calls B = k.calls B

    opening : (x : Side) → AreOpening (chunks_in (bag_of (with_clock w B m) x))
    opening A = k.opening A
    opening B = k.opening B

-- ---- what an endpoint does

pub now_unmet : (w : World) (x : Side) → IsApartWorld w → IsUnmet (clock_of w x) (end_now w x)
now_unmet w x k = waits_now (clock_of w x) (end_of w x) (clock_of w x) (k.ends x) (omega arith)

-- a plain turn of the listener leads nowhere
pub stands_on : (w : World) (x : Side) (h : Phase) → IsApartWorld w → IsPlainTurn (end_of w x).phase h → Stands x h
stands_on w A h k turn = tt
stands_on w B h k turn = plain_unbegun w.b.phase h turn (subst (λ (l : Phase). has_begun l ≡ false) (sym k.listens) refl) ∙ k.listens

pub stands_now : (w : World) (x : Side) → IsApartWorld w → Stands x (end_now w x).phase
stands_now w A k = tt
stands_now w B k = k.listens

-- a message is refused
pub apart_sent : (w : World) (x : Side) (c : Call) → IsApartWorld w →
    IsApartWorld (with_log (with_end w x (send_leaves (send_answer (end_of w x) c) (end_of w x) c)) x (accepted w x (send_answer (end_of w x) c) c))
apart_sent w x c k = subst (λ (o : SendAnswer). IsApartWorld (with_log (with_end w x (send_leaves o (end_of w x) c)) x (accepted w x o c))) (sym (nothing_sent (clock_of w x) (end_of w x) c (k.ends x)))
    (apart_log (with_end w x (end_of w x)) x (log_of w x) (k.calls x) (apart_end w x (end_of w x) k (k.ends x) (stands_now w x k)))

-- ---- `open`: both endpoints are set up alike

-- how the endpoints are set up, and that a fragment isn't empty
pub record AreSetUp (s : Setup) (w : World) : Type 0 where
  pub alike : (x : Side) → (end_of w x).configuration ≡ configuration_of s x
  pub within : (x : Side) → IsConfiguration (configuration_of s x)

pub some_fragment : (s : Setup) (w : World) (x : Side) → AreSetUp s w → 0 < (end_of w x).configuration.fragment
some_fragment s w x c = subst (λ (k : Configuration). 0 < k.fragment) (sym (c.alike x)) (let f = (c.within x).fragment.0 in omega (arith, f))

opened_agree : (s : Setup) (w : World) (x y : Draw) → AreSetUp s w → AreAlike w.a.configuration w.b.configuration → AreAgreed (opened w.a.configuration x y).terms (opened w.b.configuration y x).terms
opened_agree s w x y c like = record {
  first_tsn = refl;
  first_tsn_back = refl;
  streams = like.streams;
  streams_back = like.streams;
  interleave = like.interleave;
  partial = like.partial;
  reset = like.reset;
  zero_checksum = like.zero_checksum;
  some_streams = (some, some);
}
  where
    some : 0 < min w.a.configuration.outbound w.a.configuration.inbound
    some = subst (λ (k : Configuration). 0 < min k.outbound k.inbound) (sym (c.alike A))
        (let o = (c.within A).outbound.0 in let i = (c.within A).inbound.0 in omega (arith, o, i))

opened_unclosed : (c : Configuration) (own peer : Draw) → IsUnclosed (opened c own peer)
opened_unclosed c own peer = record {
  home = record { shutdown = λ on. absurd (cc); ack = λ on. absurd (cc); shutdown_runs = λ n on. absurd (cc); ack_runs = λ n on. absurd (cc) };
  early = refl;
  untold = refl;
  uncompleted = λ is. absurd (cc);
}

-- the dates of a bag change nothing of what its chunks are
pub dated_opening : (d : Dates) (w : World) (x : Side) → IsApartWorld w → AreOpening (undated (dated_bag d w x))
dated_opening d w x k = subst AreOpening (sym (undated_bag (d x) 0 (bag_of w x))) (k.opening x)

pub opened_meet : (s : Setup) (d : Dates) (w : World) (x y : Draw) → AreSetUp s w → AreAlike w.a.configuration w.b.configuration → IsApartWorld w →
    IsMetWorld d (record w { a = opened w.a.configuration x y; b = opened w.b.configuration y x; openable = false })
opened_meet s d w x y c like k = record {
  closed = refl;
  met = ends_meet (opened w.a.configuration x y) (opened w.b.configuration y x) (asked_at w A) (asked_at w B) (dated_bag d w A) (dated_bag d w B)
      (k.calls A) (k.calls B)
      (record { rwnd = w.a.configuration.buffer - w.a.configuration.reserve; sender = refl; receiver = refl }) (record { rwnd = w.b.configuration.buffer - w.b.configuration.reserve; sender = refl; receiver = refl })
      (opened_agree s w x y c like) refl refl (omega arith) (omega arith) (some_fragment s w A c) (some_fragment s w B c) (dated_opening d w A k) (dated_opening d w B k)
      (opened_unclosed w.a.configuration x y) (opened_unclosed w.b.configuration y x);
}
