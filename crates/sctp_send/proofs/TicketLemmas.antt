-- A message by its ticket, from what a sender keeps.
use Rattle.std.proofs.Common.{◌≡◌, ℕ, zero, suc, ◌+◌, ◌-◌, ◌<◌, ◌≤◌, List, [], ◌∷◌, ◌++◌, length, map, drop, Bool, true, false, Option, Some, None, refl, sym, ap, ◌∙◌, ◌⊎◌, arith, get_or, drop-cons}
use Rattle.std.specs.Prelude.{not, ◌&&◌, ◌||◌, if◌then◌else◌}
use Rattle.std.proofs.lemmas.List.{length-map}
use Rattle.std.proofs.lemmas.Bool.Decides.{nat_tests}
use Rattle.sctp_model.specs.messages.Format.{Format}
use Rattle.sctp_model.specs.messages.Plan.{Entry}
use Rattle.sctp_model.specs.sender.Words.{some_passes}
use Rattle.sctp_model.specs.sender.SenderView.{SenderView}
use Rattle.sctp_model.specs.sender.Entries.{any_from, continued, entry_message, is_in_part}
use Rattle.sctp_model.specs.sender.Abandoning.{Name, waits, name_of, is_abandoned, has_ticket, has_uncovered}
use Rattle.sctp_model.specs.sender.Readers.{acknowledged, is_acknowledged}
use Rattle.sctp_model.proofs.sender.Bounds.{is_bounded}
use Rattle.sctp_model.proofs.sender.TicketLaws.{is_ticketed}
use Rattle.sctp_model.proofs.sender.NameLaws.{goes_on_with, some_stream, in_part_by_ticket, uncovered_by_ticket}
use Rattle.sctp_send.specs.SenderKept.{Track, Kept}
use Rattle.sctp_send.specs.SenderFields.{track_meaning}
use Rattle.sctp_send.specs.SenderStands.{items_from, table, track_here, rest_here, fate_here, fate_named, Keeps}
use Rattle.sctp_send.specs.inner.Walks.{is_numbered_fate, any_uncovered, any_rest, rest_has}
use Rattle.sctp_send.specs.declared.kept.message.Fate.{Fate}
use Rattle.sctp_send.specs.declared.kept.message.Fate.TheVariants.{Queued as StillQueued, Numbered, Abandoned as WasAbandoned}
use Rattle.sctp_send.specs.declared.kept.track.Track.{Track as TrackFields}
use Rattle.sctp_send.proofs.TableLemmas.{table-push}
use Rattle.sctp_send.proofs.ReaderLemmas.{any_above, not_named, fate_at}
use Rattle.sctp_send.proofs.WalkLemmas.{none_behind, track_read}

-- ---- what is kept, and the view

uncovered_items : (v : SenderView) (t i : ℕ) (es : List Entry) → any_from (λ j e. has_ticket t (entry_message v.plan e) && not (v.covered j)) i es ≡ any_uncovered t (items_from v i es)
uncovered_items v t i [] = refl
uncovered_items v t i (e ∷ es) = rw (uncovered_items v t (suc i) es) refl

pub kept_uncovered : (f : Format) (s : Kept) (v : SenderView) (t : ℕ) (n : Name) → Keeps f s v → name_of v t ≡ Some n → any_uncovered t s.items ≡ has_uncovered v n
kept_uncovered f s v t n k is =
    let b = is_bounded f v k.reached in
    let one : 1 + v.cum ≡ suc v.cum = omega arith in
    let above = any_above (λ j e. has_ticket t (entry_message v.plan e) && not (v.covered j)) 1 v.cum v.plan.entries (λ j e lo hi. let on = b.covered j (omega arith) (omega arith) in rw on (grind (arith, nat_tests))) b.within in
    ap (any_uncovered t) k.holds.items ∙ sym (uncovered_items v t (suc v.cum) (drop v.cum v.plan.entries)) ∙ sym (rw one at above) ∙ sym (uncovered_by_ticket f v t n k.reached is)

any_push : (t : ℕ) (xs : List Track) (x : Track) → any_rest t (xs ++ x ∷ []) ≡ (rest_has t x.rest || any_rest t xs)
any_push t [] x = refl
any_push t (y ∷ xs) x = rw (any_push t xs x) (grind (arith, nat_tests))

rest_table : (v : SenderView) (t n : ℕ) → any_rest t (table (track_here v) 0 n) ≡ some_stream (λ s. goes_on_with v.plan t (continued v.plan s)) n
rest_table v t zero = refl
rest_table v t (suc n) =
    let zeroed : 0 + n ≡ n = omega arith in
    ap (any_rest t) (table-push (track_here v) 0 n) ∙ any_push t (table (track_here v) 0 n) (track_here v (0 + n)) ∙ rw (zeroed, rest_table v t n) (ap (λ (b : Bool). b || some_stream (λ s. goes_on_with v.plan t (continued v.plan s)) n) (same (continued v.plan n)))
  where
    same : (o : Option Entry) → rest_has t (rest_here v.plan o) ≡ goes_on_with v.plan t o
    same None = refl
    same (Some e) = refl

pub kept_goes_on : (f : Format) (s : Kept) (v : SenderView) (t : ℕ) (n : Name) → Keeps f s v → name_of v t ≡ Some n → any_rest t s.tracks ≡ is_in_part v n.lane n.number
kept_goes_on f s v t n k is = ap (any_rest t) k.holds.tracks ∙ rest_table v t v.streams ∙ sym (in_part_by_ticket f v t n k.reached is)

-- ---- acknowledged

pub numbered_acknowledged : (f : Format) (s : Kept) (v : SenderView) (t : ℕ) → Keeps f s v → is_numbered_fate (fate_here v t) ≡ true → (not (any_rest t s.tracks) && not (any_uncovered t s.items)) ≡ acknowledged v t
numbered_acknowledged f s v t k numbered = by_wait (waits t v.queue) refl numbered
  where
    by_kept : (n : Name) (b : Bool) → name_of v t ≡ Some n → is_abandoned v n ≡ b → is_numbered_fate (if b then WasAbandoned else Numbered) ≡ true → (not (any_rest t s.tracks) && not (any_uncovered t s.items)) ≡ some_passes (is_acknowledged v) (Some n)
    by_kept n true is on here = absurd (cc)
    by_kept n false is off here = rw (kept_goes_on f s v t n k is, kept_uncovered f s v t n k is, off) (grind (arith, nat_tests))

    by_name : (o : Option Name) → name_of v t ≡ o → is_numbered_fate (fate_named v o) ≡ true → (not (any_rest t s.tracks) && not (any_uncovered t s.items)) ≡ some_passes (is_acknowledged v) o
    by_name None is here = absurd (cc)
    by_name (Some n) is here = by_kept n (is_abandoned v n) is refl here

    by_wait : (b : Bool) → waits t v.queue ≡ b → is_numbered_fate (if b then StillQueued else fate_named v (name_of v t)) ≡ true → (not (any_rest t s.tracks) && not (any_uncovered t s.items)) ≡ acknowledged v t
    by_wait true is here = absurd (cc)
    by_wait false is here = by_name (name_of v t) refl here

pub other_acknowledged : (f : Format) (s : Kept) (v : SenderView) (t : ℕ) → Keeps f s v → is_numbered_fate (fate_here v t) ≡ false → acknowledged v t ≡ false
other_acknowledged f s v t k other = by_wait (waits t v.queue) refl other
  where
    by_kept : (n : Name) (b : Bool) → is_abandoned v n ≡ b → is_numbered_fate (if b then WasAbandoned else Numbered) ≡ false → some_passes (is_acknowledged v) (Some n) ≡ false
    by_kept n true on here = rw on (grind (arith, nat_tests))
    by_kept n false off here = absurd (cc)

    by_name : (o : Option Name) → is_numbered_fate (fate_named v o) ≡ false → some_passes (is_acknowledged v) o ≡ false
    by_name None here = refl
    by_name (Some n) here = by_kept n (is_abandoned v n) refl here

    by_wait : (b : Bool) → waits t v.queue ≡ b → is_numbered_fate (if b then StillQueued else fate_named v (name_of v t)) ≡ false → acknowledged v t ≡ false
    by_wait true is here = ap (some_passes (is_acknowledged v)) ((is_ticketed f v k.reached).waiting t is).2
    by_wait false is here = by_name (name_of v t) here

-- by the fate that was read
pub numbered_read : (f : Format) (s : Kept) (v : SenderView) (t : ℕ) (d : Fate) → Keeps f s v → 0 < t → t ≤ length s.fates → is_numbered_fate (get_or s.fates (t - 1) d) ≡ is_numbered_fate (fate_here v t)
numbered_read f s v t d k some le =
    let here : suc (t - 1) ≡ t = omega arith in
    ap is_numbered_fate (fate_at f s v (t - 1) d k (omega arith) ∙ ap (fate_here v) here)

pub not_acknowledged : (f : Format) (s : Kept) (v : SenderView) (t : ℕ) → Keeps f s v → (t ≡ 0) ⊎ (length s.fates < t) → acknowledged v t ≡ false
not_acknowledged f s v t k out = ap (some_passes (is_acknowledged v)) (not_named f s v t k out)

-- ---- walks, entry by entry and stream by stream

step_rest : (t : ℕ) (xs : List Track) (at : ℕ) (d : Track) → at < length xs → any_rest t (drop at xs) ≡ (rest_has t (get_or xs at d).rest || any_rest t (drop (suc at) xs))
step_rest t xs at d lt = rw (drop-cons xs at d lt) refl

pub walked_rest : (t size : ℕ) (ts : List TrackFields) (at : ℕ) (x : TrackFields) (b : Bool) → at < length ts → x ≡ get_or ts at x → b ≡ rest_has t (track_meaning size x).rest
    → any_rest t (map (track_meaning size) ts) ≡ any_rest t (drop at (map (track_meaning size) ts)) → any_rest t (map (track_meaning size) ts) ≡ (b || any_rest t (drop (at + 1) (map (track_meaning size) ts)))
walked_rest t size ts at x b lt read is before =
    let long = length-map ts (track_meaning size) in
    let step = step_rest t (map (track_meaning size) ts) at (track_meaning size x) (omega arith) in
    let one : at + 1 ≡ suc at = omega arith in
    before ∙ step ∙ rw (track_read size ts at x read, ← is, one) refl

pub ended_rest : (t size : ℕ) (ts : List TrackFields) (at : ℕ) → length ts ≤ at → any_rest t (map (track_meaning size) ts) ≡ any_rest t (drop at (map (track_meaning size) ts)) → false ≡ any_rest t (map (track_meaning size) ts)
ended_rest t size ts at le before =
    let long = length-map ts (track_meaning size) in
    sym (before ∙ ap (any_rest t) (none_behind at (map (track_meaning size) ts) (omega arith)))
