-- CUM stays with what no acknowledgement does, and with one it doesn't fall: what stands for a pace stands for it then still.
use Rattle.std.proofs.Common.{◌≡◌, ◌∙◌, ℕ, ◌≤◌, Bool, true, false, List, [], ◌∷◌, length, Option, None, Some, refl, subst, arith}
use Rattle.std.specs.Prelude.{suc, Result, Ok, Err, if◌then◌else◌, fold, is_some, ◌&&◌, nat_lt}
use Rattle.sctp_model.specs.numbers.Limits.{REQUEST_LIMIT}
use Rattle.sctp_model.specs.messages.Format.{Format, Lane}
use Rattle.sctp_model.specs.wire.Chunk.{SackMeaning}
use Rattle.sctp_model.specs.wire.Reconfig.{is_done_code, is_progress_code, is_number_code}
use Rattle.sctp_model.specs.sender.Outgoing.{takes_next, LaterNumber, Request}
use Rattle.sctp_model.specs.sender.SenderView.{SenderView}
use Rattle.sctp_model.specs.sender.Words.{count_up}
use Rattle.sctp_model.specs.sender.Abandoning.{abandon_after, is_overdue, expire_one, expired, worn}
use Rattle.sctp_model.specs.sender.Resetting.{asked, numbered_so, retried_in, retried, reset_done, kept_asking, is_past_first, number_back, reset_refused, answered_in, is_open_number, response_taken}
use Rattle.sctp_model.specs.sender.SackTaken.{sack_fault, sack_taken, sack_after, shutdown_fault, shutdown_taken, shutdown_after}
use Rattle.sctp_model.specs.end.Pacing.{Pace}
use Rattle.sctp_model.proofs.sender.AbandonCases.{after_abandon}
use Rattle.sctp_model.proofs.sender.WornLaws.{wears_each}
use Rattle.sctp_values.specs.declared.ticket.Ticket.{Ticket}
use Rattle.sctp_send.specs.SenderAnswers.{queue_after}
use Rattle.sctp_send.specs.declared.queueing.SendFault.{SendFault}
use Rattle.sctp_congestion.specs.PaceStands.{PaceKept, PaceStands, PacesStand}

-- ---- a pace

pub later_pace : (f : Format) (c d : ℕ) (k : Option PaceKept) (p : Option Pace) → c ≤ d → PacesStand f c k p → PacesStand f d k p
later_pace f c d None None up s = s
later_pace f c d None (Some p) up s = s
later_pace f c d (Some k) None up s = s
later_pace f c d (Some k) (Some p) up s = record {
  trips = s.trips;
  misses = record {
    first = s.misses.first;
    second = s.misses.second;
    third = s.misses.third;
    exit = s.misses.exit;
    went = record {
      base = let low = s.misses.went.base in omega (arith, up, low);
      each = λ i above. s.misses.went.each i (omega (arith, up, above));
      late = λ i above past. s.misses.went.late i (omega (arith, up, above)) past;
    };
  };
  control = s.control;
  header = s.header;
}

-- an endpoint has a pace exactly if the view has one
pub pace_there : (f : Format) (c : ℕ) (k : Option PaceKept) (q : PaceKept) (o : Option Pace) → k ≡ Some q → PacesStand f c k o → (p : Pace) × (o ≡ Some p) × PaceStands f c q p
pace_there f c k q None is s = absurd (subst (λ (x : Option PaceKept). PacesStand f c x None) is s)
pace_there f c k q (Some p) is s = (p, refl, subst (λ (x : Option PaceKept). PacesStand f c x (Some p)) is s)

pub no_pace : (f : Format) (c : ℕ) (k : Option PaceKept) (o : Option Pace) → k ≡ None → PacesStand f c k o → o ≡ None
no_pace f c k None is s = refl
no_pace f c k (Some p) is s = absurd (subst (λ (x : Option PaceKept). PacesStand f c x (Some p)) is s)

-- ---- CUM

-- it is as it was
pub no_lower : (n : ℕ) → n ≤ n
no_lower n = omega arith

pub as_high : (m n : ℕ) → n ≡ m → m ≤ n
as_high m n is = omega (arith, is)

abandoned_cum : (v : SenderView) (t : ℕ) → (abandon_after v t).cum ≡ v.cum
abandoned_cum v t = after_abandon (λ u. u.cum ≡ v.cum) v t refl (λ waiting. refl) (λ n is kept. refl)

expires_one : (now t : ℕ) (v : SenderView) → (expire_one now v t).cum ≡ v.cum
expires_one now t v = by_case (is_overdue v now t)
  where
    by_case : (b : Bool) → (if b then abandon_after v t else v).cum ≡ v.cum
    by_case true = abandoned_cum v t
    by_case false = refl

expires_each : (now : ℕ) (v : SenderView) (ts : List ℕ) → (fold (expire_one now) v ts).cum ≡ v.cum
expires_each now v [] = refl
expires_each now v (t ∷ ts) = expires_each now (expire_one now v t) ts ∙ expires_one now t v

pub abandon_stays : (v : SenderView) (t : ℕ) → v.cum ≤ (abandon_after v t).cum
abandon_stays v t = as_high v.cum (abandon_after v t).cum (abandoned_cum v t)

pub expiry_stays : (v : SenderView) (now : ℕ) → v.cum ≤ (expired v now).cum
expiry_stays v now = as_high v.cum (expired v now).cum (expires_each now v (count_up 1 v.tickets))

pub wear_stays : (test : ℕ → Bool) (v : SenderView) → v.cum ≤ (worn test v).cum
wear_stays test v =
    as_high v.cum (worn test v).cum (wears_each (λ u. u.cum ≡ v.cum) (λ u t is. abandoned_cum u t ∙ is) test v (count_up 1 (length v.plan.entries)) refl)

pub queue_stays : (v : SenderView) (lane : Lane) (payload : ℕ) (bytes : List ℕ) (until limit : Option ℕ) (r : Result Ticket SendFault)
    → v.cum ≤ (queue_after v lane payload bytes until limit r).cum
queue_stays v lane payload bytes until limit (Ok ticket) = no_lower v.cum
queue_stays v lane payload bytes until limit (Err why) = no_lower v.cum

-- one of these
either : (v x y : SenderView) (b : Bool) → v.cum ≤ x.cum → v.cum ≤ y.cum → v.cum ≤ (if b then x else y).cum
either v x y true one other = one
either v x y false one other = other

pub asked_stays : (v : SenderView) (b : Bool) → v.cum ≤ (if b then asked v else v).cum
asked_stays v b = either v (asked v) v b (no_lower v.cum) (no_lower v.cum)

retry_in : (v : SenderView) (o : Option Request) → v.cum ≤ (retried_in v o).cum
retry_in v None = no_lower v.cum
retry_in v (Some q) = either v (numbered_so v (suc v.resets.made) LaterNumber q) v (takes_next q.numbering && nat_lt v.resets.made REQUEST_LIMIT) (no_lower v.cum) (no_lower v.cum)

pub retry_stays : (v : SenderView) → v.cum ≤ (retried v).cum
retry_stays v = retry_in v v.resets.pending

answer_stays : (v : SenderView) (code : ℕ) (o : Option Request) → v.cum ≤ (answered_in v code o).cum
answer_stays v code None = no_lower v.cum
answer_stays v code (Some q) =
    let back : SenderView = if is_number_code code && is_past_first v q then number_back v q else reset_refused v q in
    let other : SenderView = if is_progress_code code then kept_asking v q else back in
    let same = no_lower v.cum in
    either v (reset_done v q) other (is_done_code code) same
    (either v (kept_asking v q) back (is_progress_code code) same (either v (number_back v q) (reset_refused v q) (is_number_code code && is_past_first v q) same same))

pub response_stays : (v : SenderView) (number code : ℕ) → v.cum ≤ (response_taken v number code).cum
response_stays v number code = either v _ v (is_open_number v number) (answer_stays v code v.resets.pending) (no_lower v.cum)

pub sack_rises : (v : SenderView) (x : SackMeaning) → v.cum ≤ (sack_after v x).cum
sack_rises v x = either v v (sack_taken v x) (is_some (sack_fault v x)) (no_lower v.cum) (omega arith)

pub shutdown_rises : (v : SenderView) (tsn : ℕ) → v.cum ≤ (shutdown_after v tsn).cum
shutdown_rises v tsn = either v v (shutdown_taken v tsn) (is_some (shutdown_fault v tsn)) (no_lower v.cum) (omega arith)
