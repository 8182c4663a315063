-- All that is kept of two endpoints that have met: both directions between them, and how far their association is closed.
use Rattle.std.proofs.Common.{◌≡◌, ℕ, ◌≤◌, max, true, List, ◌++◌, length, Option, refl, sym, subst, ap, arith, ◌∙◌}
use Rattle.sctp_model.specs.numbers.Lists.{Has, at}
use Rattle.sctp_model.specs.wire.Chunk.{ChunkMeaning, Data, IData, Init, InitAck, Sack, Heartbeat, HeartbeatAck, Abort, Shutdown, ShutdownAck, Error, CookieEcho, CookieAck, ShutdownComplete, ForwardTsn, IForwardTsn, Unknown}
use Rattle.sctp_model.specs.wire.Packet.{Packet}
use Rattle.sctp_model.specs.receiver.ReceiverView.{Handed}
use Rattle.sctp_model.specs.world.Calls.{Call, Asked}
use Rattle.sctp_model.specs.sender.SenderView.{SenderView}
use Rattle.sctp_model.specs.sender.Reached.{IsReached}
use Rattle.sctp_model.specs.end.EndView.{Draw, EndView, format_of}
use Rattle.sctp_model.specs.end.Clock.{at_moment}
use Rattle.sctp_model.specs.end.Building.{Builds}
use Rattle.sctp_model.specs.end.Closing.{rested}
use Rattle.sctp_model.specs.end.Moments.{ticked}
use Rattle.sctp_model.specs.end.PeerFaults.{GoesOn, Ends, Replies, Note}
use Rattle.sctp_model.specs.end.Acting.{Acts}
use Rattle.sctp_model.specs.end.UserCalls.{send_answer, send_leaves, abandoned_at, UserTakes, ResetCall, reset_leaves, told_leaves, shut, AbortAnswer, abort_leaves, abandons}
use Rattle.sctp_model.specs.end.Strays.{Verdict}
use Rattle.sctp_model.specs.end.Wearing.{missed_below, wearing}
use Rattle.sctp_model.specs.end.Arriving.{Arrives, Elsewhere, NotOurs, Stray, CookieBegins, Heard, Notes, no_notes, packet_ended, urged}
use Rattle.sctp_safety.proofs.machine.EndWords.{Keeps, all_act_keeps}
use Rattle.sctp_safety.proofs.machine.Strangers.{found_is}
use Rattle.sctp_safety.proofs.runs.Dates.{Date, Dated, all_dated, undated, undated_on, has_undated}
use Rattle.sctp_safety.proofs.runs.Pair.{opens_or_ends, AreOpening, IsMet, views_rested, turned_round, met_rested, met_quiet}
use Rattle.sctp_safety.proofs.runs.Acted.{Comes, IsMetWith, goes as met_goes, ends as met_ends, replies as met_replies, met_ended}
use Rattle.sctp_safety.proofs.runs.Answers.{reply_opens}
use Rattle.sctp_safety.proofs.runs.Packets.{builds_keep, built_window}
use Rattle.sctp_safety.proofs.runs.Timed.{met_worn, met_now, met_ticked, met_taken, met_reset, met_told, met_shut, met_aborted, met_sent, met_abandoned, met_clock, asked_more}
use Rattle.sctp_safety.proofs.runs.Brought.{listens_not}
use Rattle.sctp_safety.proofs.runs.Ending.{is_shutting, AreEnding, ending_round, ending_on, onward_same, ending_rested}
use Rattle.sctp_safety.proofs.runs.EndingActs.{goes, ends, replies, ending_ended}
use Rattle.sctp_safety.proofs.runs.EndingBuilds.{ending_built}
use Rattle.sctp_safety.proofs.runs.EndingTimes.{ending_worn, ending_now, ending_ticked, ending_sent, ending_abandoned, ending_taken, ending_reset, ending_told, ending_shut, ending_aborted}
use Rattle.sctp_model.specs.sender.Abandoning.{gives_up}
use Rattle.std.specs.Prelude.{if◌then◌else◌}

pub record IsPair (e p : EndView) (u v : Asked) (out back : List Dated) : Type 0 where
  pub met : IsMet e p u v out back
  pub ending : AreEnding e p (undated out) (undated back)

pub pair_round : (e p : EndView) (u v : Asked) (out back : List Dated) → IsPair e p u v out back → IsPair p e v u back out
pair_round e p u v out back k = record { met = turned_round e p u v out back k.met; ending = ending_round e p (undated out) (undated back) k.ending }

-- the sender of an endpoint that has met its peer is one that calls reach
pub reached_by : (e p : EndView) (u v : Asked) (out back : List Dated) → IsPair e p u v out back → IsReached (format_of e) e.sender
reached_by e p u v out back k = k.met.going.reached

-- ---- chunks that say nothing of either direction, nor of its endpoint

pub opening_other : (x : ChunkMeaning) → opens_or_ends x ≡ true → is_shutting x ≡ true → ⊥
opening_other (Shutdown n) a b = absurd (cc)
opening_other ShutdownAck a b = absurd (cc)
opening_other (Data m) a b = absurd (cc)
opening_other (IData m) a b = absurd (cc)
opening_other (Init m) a b = absurd (cc)
opening_other (InitAck m) a b = absurd (cc)
opening_other (Sack m) a b = absurd (cc)
opening_other (Heartbeat xs) a b = absurd (cc)
opening_other (HeartbeatAck xs) a b = absurd (cc)
opening_other (Abort t xs) a b = absurd (cc)
opening_other (Error xs) a b = absurd (cc)
opening_other (CookieEcho xs) a b = absurd (cc)
opening_other CookieAck a b = absurd (cc)
opening_other (ShutdownComplete t) a b = absurd (cc)
opening_other (ForwardTsn m) a b = absurd (cc)
opening_other (IForwardTsn m) a b = absurd (cc)
opening_other (Unknown k f v) a b = absurd (cc)

pub pair_quiet : (e p : EndView) (u v : Asked) (out back : List Dated) → IsPair e p u v out back → (k : Date) (xs : List ChunkMeaning) → AreOpening xs →
    IsPair e p u v (out ++ all_dated k xs) back
pair_quiet e p u v out back m k xs opening = record {
  met = met_quiet e p u v out back m.met k xs opening;
  ending = subst (λ (ys : List ChunkMeaning). AreEnding e p ys (undated back)) (sym (undated_on out k xs))
      (ending_on e p e (undated out) (undated back) xs m.ending
      (onward_same p (undated out) (undated back) e e m.ending m.ending.this.home refl (λ on. on)) (λ x has on. absurd (opening_other x (opening x has) on)));
}

-- ---- what arrives

-- at an endpoint that has assigned this many TSNs, which none of these chunks changes
pub record IsPairWith (many : ℕ) (e p : EndView) (u v : Asked) (out back : List Dated) : Type 0 where
  pub pair : IsPair e p u v out back
  pub assigned : length e.sender.plan.entries ≡ many

pub pair_acts : (p : EndView) (u v : Asked) (out back : List Dated) (tag many : ℕ) →
    Keeps tag (λ e. IsPairWith many e p u v out back) (λ x. Comes p many back x) (λ r. AreOpening r.chunks)
pair_acts p u v out back tag many = record { goes = on_going; ends = on_end; replies = on_reply }
  where
    met_with : (e : EndView) → IsPairWith many e p u v out back → IsMetWith many e p u v out back
    met_with e k = record { met = k.pair.met; assigned = k.assigned }

    there : (x : ChunkMeaning) → Comes p many back x → Has (undated back) x
    there x c = subst (λ (y : ChunkMeaning). Has (undated back) y) c.same (has_undated back c.said c.has)

    on_going : (e : EndView) (x : ChunkMeaning) (y : Note) (t : EndView) → Comes p many back x → IsPairWith many e p u v out back → Acts e tag x (GoesOn y t) →
        IsPairWith many (rested t) p u v out back
    on_going e x y t c k act =
        let m = met_goes p u v out back many e tag x y t c (met_with e k) act in
        record {
          pair = record {
            met = met_rested t p u v out back m.met;
            ending = ending_rested p (undated out) (undated back) t (goes p (undated out) (undated back) e tag x y t (there x c) k.pair.met.phase k.pair.ending act);
          };
          assigned = ap (λ (a : SenderView). length a.plan.entries) (views_rested t).sender ∙ m.assigned;
        }

    on_end : (e : EndView) (x : ChunkMeaning) (t : EndView) → Comes p many back x → IsPairWith many e p u v out back → Acts e tag x (Ends t) → IsPairWith many t p u v out back
    on_end e x t c k act =
        let m = met_ends p u v out back many e tag x t (met_with e k) act in
        record { pair = record { met = m.met; ending = ends p (undated out) (undated back) e tag x t k.pair.ending act }; assigned = m.assigned }

    on_reply : (e : EndView) (x : ChunkMeaning) (t : EndView) (r : Packet) → Comes p many back x → IsPairWith many e p u v out back → Acts e tag x (Replies t r) →
        IsPairWith many t p u v out back × AreOpening r.chunks
    on_reply e x t r c k act =
        let m = met_replies p u v out back many e tag x t r (met_with e k) act in (
          record { pair = record { met = m.met; ending = replies p (undated out) (undated back) e tag x t r (there x c) k.pair.ending act }; assigned = m.assigned },
          reply_opens e tag x t r act,
        )

pub pair_ended : (p : EndView) (u v : Asked) (out back : List Dated) (n : Notes) (e : EndView) → IsPair e p u v out back → IsPair (packet_ended n e) p u v out back
pair_ended p u v out back n e k = record {
  met = (met_ended p u v out back (length e.sender.plan.entries) n e (record { met = k.met; assigned = refl })).met;
  ending = ending_ended p (undated out) (undated back) n e k.ending;
}

-- at the end of a packet
pair_worn : (p : EndView) (u v : Asked) (out back : List Dated) (from : ℕ) (e : EndView) → IsPair e p u v out back → IsPair (wearing from e) p u v out back
pair_worn p u v out back from e k = record {
  met = met_worn p u v out back from e k.met;
  ending = ending_worn p (undated out) (undated back) from e (reached_by e p u v out back k) k.ending;
}

pub pair_arrives : (e p : EndView) (u v : Asked) (out back : List Dated) (d : Draw) (k : Packet) (t : EndView) (o : Verdict) → IsPair e p u v out back →
    ((x : ChunkMeaning) → Has k.chunks x → Comes p (length e.sender.plan.entries) back x) → Arrives e d k t o → IsPair t p u v out back
pair_arrives e p u v out back d k t o m comes (Elsewhere ports) = m
pair_arrives e p u v out back d k t o m comes (NotOurs ports passes) = m
pair_arrives e p u v out back d k t o m comes (Stray ports passes none closed) = m
pair_arrives e p u v out back d k t o m comes (CookieBegins b _ _ _ ports passes none opens acts gap _) = absurd (listens_not e.phase (found_is e k.tag k.chunks b opens).phase m.met.phase)
pair_arrives e p u v out back d k t o m comes (Heard w n _ ports passes has acts gap _) =
    pair_ended p u v out back (urged gap n) (wearing (missed_below e.pace) w) (pair_worn p u v out back (missed_below e.pace) w
    (all_act_keeps k.tag _ _ _ (pair_acts p u v out back k.tag (length e.sender.plan.entries)) e no_notes k.chunks w n o comes (record { pair = m; assigned = refl }) acts).0.pair)

-- ---- what is built, called, and passes

-- what both endpoints have assigned once the endpoint is this one
abbrev pub date_at : EndView → EndView → Date
date_at t p = record { own = length t.sender.plan.entries; there = length p.sender.plan.entries }

pub pair_built : (p : EndView) (u v : Asked) (back out : List Dated) (e : EndView) (zs : List ChunkMeaning) (t : EndView) → IsPair e p u v out back → Builds e zs t →
    IsPair t p u v (out ++ all_dated (date_at t p) zs) back
pair_built p u v back out e zs t k b = record {
  met = builds_keep p u v back (date_at t p) (omega arith) out e zs t k.met (built_window e zs t (reached_by e p u v out back k) k.met.phase b) b;
  ending = subst (λ (xs : List ChunkMeaning). AreEnding t p xs (undated back)) (sym (undated_on out (date_at t p) zs))
      (ending_built p (undated back) (undated out) e zs t k.met.phase (reached_by e p u v out back k) k.ending b);
}

module _ (p : EndView) (u v : Asked) (out back : List Dated) where
  pub pair_now : (e : EndView) (now : ℕ) → IsPair e p u v out back → now ≤ u.clock → IsPair (at_moment e now) p u v out back
  pair_now e now k le = record { met = met_now p u v out back e now k.met le; ending = ending_now p (undated out) (undated back) e now k.ending }

  pub pair_ticked : (e : EndView) (now : ℕ) → IsPair e p u v out back → now ≤ u.clock → IsPair (ticked e now) p u v out back
  pair_ticked e now k le = record { met = met_ticked p u v out back e now k.met le; ending = ending_ticked p (undated out) (undated back) e now (reached_by e p u v out back k) k.ending }

  pub pair_taken : (e : EndView) (s : ℕ) (h : Option Handed) (t : EndView) → IsPair e p u v out back → UserTakes e s h t → IsPair t p u v out back
  pair_taken e s h t k takes = record { met = met_taken p u v out back e s h t k.met takes; ending = ending_taken p (undated out) (undated back) e s h t k.ending takes }

  pub pair_reset : (e : EndView) (a : ResetCall) (s : ℕ) → IsPair e p u v out back → IsPair (reset_leaves a e s) p u v out back
  pair_reset e a s k = record { met = met_reset p u v out back e a s k.met; ending = ending_reset p (undated out) (undated back) e a s k.ending }

  pub pair_told : (e : EndView) (o : Option ℕ) → IsPair e p u v out back → IsPair (told_leaves o e) p u v out back
  pair_told e o k = record { met = met_told p u v out back e o k.met; ending = ending_told p (undated out) (undated back) e o k.ending }

  pub pair_shut : (e : EndView) → IsPair e p u v out back → IsPair (shut e) p u v out back
  pair_shut e k = record { met = met_shut p u v out back e k.met; ending = ending_shut p (undated out) (undated back) e k.ending }

  pub pair_aborted : (e : EndView) (a : AbortAnswer) → IsPair e p u v out back → IsPair (abort_leaves a e) p u v out back
  pair_aborted e a k = record { met = met_aborted p u v out back e a k.met; ending = ending_aborted p (undated out) (undated back) e a k.ending }

pub pair_sent : (e p : EndView) (u v : Asked) (out back : List Dated) (c : Call) → IsPair e p u v out back →
    IsPair (send_leaves (send_answer e c) e c) p (asked_more u (send_answer e c) c) v out back
pair_sent e p u v out back c k = record { met = met_sent e p u v out back c k.met; ending = ending_sent p (undated out) (undated back) e c k.ending }

pub pair_abandoned : (e p : EndView) (u v : Asked) (out back : List Dated) (n : ℕ) → IsPair e p u v out back →
    IsPair (abandoned_at e n) p (record u { named = if gives_up (abandons e n) then at u.named n true else u.named }) v out back
pair_abandoned e p u v out back n k = record {
  met = met_abandoned e p u v out back n k.met;
  ending = ending_abandoned p (undated out) (undated back) e n (reached_by e p u v out back k) k.ending;
}

pub pair_clock : (e p : EndView) (u v : Asked) (out back : List Dated) (m : ℕ) → IsPair e p u v out back →
    IsPair e p (record u { clock = max u.clock m }) v out back
pair_clock e p u v out back m k = record { met = met_clock e p u v out back m k.met; ending = k.ending }
