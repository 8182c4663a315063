-- The first stream in turn that has something to send, found among what waits and what is in part.
use Rattle.std.proofs.Common.{◌≡◌, ℕ, zero, suc, ◌+◌, ◌-◌, ◌*◌, ◌%◌, ◌<◌, ◌≤◌, min, List, [], ◌∷◌, Bool, true, false, Option, Some, None, refl, sym, ap, ◌∙◌, subst, arith}
use Rattle.std.specs.Prelude.{◌||◌, nat_lt}
use Rattle.std.proofs.lemmas.Bool.Decides.{nat_tests}
use Rattle.std.proofs.lemmas.Nat.{mod-mul-add}
use Rattle.sctp_model.specs.messages.Format.{Interleaved}
use Rattle.sctp_model.specs.sender.SenderView.{SenderView}
use Rattle.sctp_model.specs.sender.Assigning.{first_on, turn_of, assigned}
use Rattle.sctp_model.proofs.sender.SetLaws.{is_set}
use Rattle.sctp_send.specs.SenderKept.{Rest, Track, Kept}
use Rattle.sctp_send.specs.SenderStands.{Keeps}
use Rattle.sctp_send.specs.inner.Walks.{total, one_if_rest, any_rest, rest_has}
use Rattle.sctp_send.specs.inner.Newcomers.{rest_at, has_rest, IsNextPart}
use Rattle.sctp_send.specs.inner.Stocking.{TurnAnswer, NewAnswer, FirstTurnAnswer}
use Rattle.sctp_send.specs.inner.Seating.{IsNextOn}
use Rattle.sctp_send.specs.declared.kept.seats.Found.{Found}
use Rattle.sctp_send.specs.declared.fill.assigning.Beginning.{Beginning}
use Rattle.sctp_send.specs.declared.fill.assigning.Next.{Next}
use Rattle.sctp_send.specs.declared.fill.assigning.Next.TheVariants.{Begins, Continues}
use Rattle.sctp_send.proofs.fill.TurnLemmas.{turn_goes_on, turn_begins, turn_idle, turns_do, turns_all, turns_none, turns_more, new_in_turn}

-- ---- what is in part

-- where none counts as in part, none is
pub none_goes_on : (ts : List Track) (j : ℕ) → total (λ t. one_if_rest t.rest) ts ≡ 0 → has_rest (rest_at ts j) ≡ false
none_goes_on [] j none = refl
none_goes_on (t ∷ ts) zero none = by_rest t.rest (omega (arith, none))
  where
    by_rest : (o : Option Rest) → one_if_rest o ≡ 0 → has_rest o ≡ false
    by_rest None is = refl
    by_rest (Some r) is = absurd (omega (arith, is))
none_goes_on (t ∷ ts) (suc j) none = none_goes_on ts j (omega (arith, none))

-- one stream more has none
pub one_more_off : (from n : ℕ) (ts : List Track) → ((j : ℕ) → from ≤ j → j < n → has_rest (rest_at ts j) ≡ false) → has_rest (rest_at ts n) ≡ false → (j : ℕ) → from ≤ j → j < n + 1 → has_rest (rest_at ts j) ≡ false
one_more_off from n ts before off j lo hi = by_test (nat_lt j n) refl
  where
    by_test : (b : Bool) → nat_lt j n ≡ b → has_rest (rest_at ts j) ≡ false
    by_test true on = let lt : j < n = grind (arith, nat_tests) in before j lo lt
    by_test false off_it = let ge : n ≤ j = grind (arith, nat_tests) in let same : j ≡ n = omega (arith, ge, hi) in subst (λ (k : ℕ). has_rest (rest_at ts k) ≡ false) (sym same) off

-- and none goes on with any message
pub none_with : (t : ℕ) (ts : List Track) → total (λ t. one_if_rest t.rest) ts ≡ 0 → any_rest t ts ≡ false
none_with t [] none = refl
none_with t (x ∷ ts) none = ap (λ (b : Bool). b || any_rest t ts) (by_rest x.rest (omega (arith, none))) ∙ none_with t ts (omega (arith, none))
  where
    by_rest : (o : Option Rest) → one_if_rest o ≡ 0 → rest_has t o ≡ false
    by_rest None is = refl
    by_rest (Some r) is = absurd (omega (arith, is))

-- ---- the first of some streams

-- a message in part goes on, and nothing waits on the streams before it
pub part_first : (s : Kept) (v : SenderView) (from below part last : ℕ) → Keeps Interleaved s v → last ≤ v.streams → below ≤ v.streams → part < below → part < last → IsNextPart from last s.tracks part → ((j : ℕ) → from ≤ j → j < part → first_on j s.queue ≡ None)
    → FirstTurnAnswer v from below (Some (Continues part))
part_first s v from below part last k le within low lower next none = record {
  stream = part;
  above = (next.here lower).0;
  low = low;
  does = (refl, turn_goes_on Interleaved s v part k (omega (arith, low, within)) (next.here lower).1);
  before = λ j lo hi. turn_idle Interleaved s v j k (omega (arith, hi, low, within)) (next.before j lo hi) (none j lo hi);
}

-- a message begins, and none is in part up to its stream
pub waiting_first : (s : Kept) (v : SenderView) (from below part : ℕ) (found : Found) (next : Beginning) → Keeps Interleaved s v → below ≤ v.streams → IsNextOn from below s.queue found → IsNextPart from (found.stream + 1) s.tracks part → found.stream < part
    → next.place ≡ found.place → next.count ≡ 1 → next.turn ≡ suc found.stream % v.streams → FirstTurnAnswer v from below (Some (Begins next))
waiting_first s v from below part found next k within on none past place one turn = record {
  stream = found.stream;
  above = on.above;
  low = on.low;
  does = subst (λ (n : ℕ). TurnAnswer v found.stream (Some (Begins (record { place = next.place; count = n; turn = next.turn })))) (sym one)
      (subst (λ (n : ℕ). TurnAnswer v found.stream (Some (Begins (record { place = n; count = 1; turn = next.turn })))) (sym place)
      (turn_begins Interleaved s v found.stream found.place next.turn k (omega (arith, on.low, within)) (none.before found.stream on.above past) on.first turn));
  before = λ j lo hi. turn_idle Interleaved s v j k (omega (arith, hi, on.low, within)) (none.before j lo (omega (arith, hi, past))) (on.before j lo hi);
}

-- nothing waits, and nothing is in part
pub none_first : (s : Kept) (v : SenderView) (from below part : ℕ) → Keeps Interleaved s v → below ≤ v.streams → IsNextPart from below s.tracks part → below ≤ part → ((j : ℕ) → from ≤ j → j < below → first_on j s.queue ≡ None)
    → FirstTurnAnswer v from below None
none_first s v from below part k within none past waits = λ j lo hi. turn_idle Interleaved s v j k (omega (arith, hi, within)) (none.before j lo (omega (arith, hi, past))) (waits j lo hi)

-- ---- all streams, from the one whose turn it is

-- the first turns have nothing to send
turns_skip : (v : SenderView) (n : ℕ) → n ≤ v.streams → ((d : ℕ) → d < n → turn_of v ((v.turn + d) % v.streams) ≡ None) → assigned Interleaved v ≡ turns_do v n
turns_skip v zero le none = turns_all v
turns_skip v (suc n) le none =
    let one : n + 1 ≡ suc n = omega arith in
    subst (λ (k : ℕ). assigned Interleaved v ≡ turns_do v k) one
    (turns_more v n ((v.turn + n) % v.streams) (omega arith) refl (none n (omega arith)) (turns_skip v n (omega arith) (λ d lt. none d (omega arith))))

-- a number below another is its own remainder
low_rest : (a n r : ℕ) → a ≡ r → r < n → a % n ≡ r
low_rest a n r is lt = let same : a ≡ 0 * n + r = omega (arith, is) in ap (λ (k : ℕ). k % n) same ∙ mod-mul-add 0 n r lt

-- and so is what lies once above it
once_rest : (a n r : ℕ) → a ≡ n + r → r < n → a % n ≡ r
once_rest a n r is lt = let same : a ≡ 1 * n + r = omega (arith, is) in ap (λ (k : ℕ). k % n) same ∙ mod-mul-add 1 n r lt

-- one from the turn on has something
pub turn_found : (v : SenderView) (next : Next) → FirstTurnAnswer v v.turn v.streams (Some next) → NewAnswer Interleaved v (Some next)
turn_found v next first =
    let step = first.stream - v.turn in
    let at_is : first.stream ≡ (v.turn + step) % v.streams = sym (low_rest (v.turn + step) v.streams first.stream (omega (arith, first.above)) first.low) in
    let passed : (d : ℕ) → d < step → turn_of v ((v.turn + d) % v.streams) ≡ None = λ d lt.
    let here : (v.turn + d) % v.streams ≡ v.turn + d = low_rest (v.turn + d) v.streams (v.turn + d) refl (omega (arith, lt, first.low)) in
    ap (turn_of v) here ∙ first.before (v.turn + d) (omega arith) (omega (arith, lt)) in
    new_in_turn v step first.stream next (omega (arith, first.low)) at_is first.low first.does (turns_skip v step (omega (arith, first.low)) passed)

-- what the turns from the first stream on come to, once those from the turn on have nothing
wrapped : (v : SenderView) (n : ℕ) → v.turn < v.streams → n ≤ v.turn → FirstTurnAnswer v v.turn v.streams None → ((j : ℕ) → j < n → turn_of v j ≡ None) → (d : ℕ) → d < (v.streams - v.turn) + n → turn_of v ((v.turn + d) % v.streams) ≡ None
wrapped v n turn le none low d lt = by_test (nat_lt d (v.streams - v.turn)) refl
  where
    by_test : (b : Bool) → nat_lt d (v.streams - v.turn) ≡ b → turn_of v ((v.turn + d) % v.streams) ≡ None
    by_test true on =
        let k : d < v.streams - v.turn = grind (arith, nat_tests) in
        ap (turn_of v) (low_rest (v.turn + d) v.streams (v.turn + d) refl (omega (arith, k))) ∙ none (v.turn + d) (omega arith) (omega (arith, k))
    by_test false off =
        let k : v.streams - v.turn ≤ d = grind (arith, nat_tests) in
        ap (turn_of v) (once_rest (v.turn + d) v.streams (v.turn + d - v.streams) (omega (arith, k, turn)) (omega (arith, k, lt, turn, le))) ∙ low (v.turn + d - v.streams) (omega (arith, k, lt, turn))

-- one before the turn has something
pub turn_wrapped : (v : SenderView) (next : Next) → v.turn < v.streams → FirstTurnAnswer v v.turn v.streams None → FirstTurnAnswer v 0 v.turn (Some next) → NewAnswer Interleaved v (Some next)
turn_wrapped v next turn none first =
    let step = (v.streams - v.turn) + first.stream in
    let at_is : first.stream ≡ (v.turn + step) % v.streams = sym (once_rest (v.turn + step) v.streams first.stream (omega (arith, turn)) (omega (arith, first.low, turn))) in
    let passed = wrapped v first.stream turn (omega (arith, first.low)) none (λ j lt. first.before j (omega arith) lt) in
    new_in_turn v step first.stream next (omega (arith, first.low, turn)) at_is (omega (arith, first.low, turn)) first.does (turns_skip v step (omega (arith, first.low, turn)) passed)

-- whatever those below the turn have
pub turn_any : (v : SenderView) (below : ℕ) (o : Option Next) → (0 < v.streams → v.turn < v.streams) → below ≡ min v.turn v.streams → FirstTurnAnswer v v.turn v.streams None → FirstTurnAnswer v 0 below o → NewAnswer Interleaved v o
turn_any v below (Some next) turn is none first =
    let lt = turn (omega (arith, first.low, is)) in
    let same : below ≡ v.turn = omega (arith, is, lt) in
    turn_wrapped v next lt none (subst (λ (n : ℕ). FirstTurnAnswer v 0 n (Some next)) same first)
turn_any v below None turn is none low = by_streams v.streams refl
  where
    by_streams : (n : ℕ) → v.streams ≡ n → assigned Interleaved v ≡ None
    by_streams zero nil = turns_all v ∙ turns_none v 0 (omega (arith, nil))
    by_streams (suc n) some =
        let lt = turn (omega (arith, some)) in
        let passed = wrapped v v.turn lt (omega arith) none (λ j less. low j (omega arith) (omega (arith, is, lt, less))) in
        turns_skip v v.streams (omega arith) (λ d less. passed d (omega (arith, less, lt))) ∙ turns_none v v.streams (omega arith)

-- the same, from what is kept
pub turn_kept : (s : Kept) (v : SenderView) (streams turn : ℕ) (next : Next) → Keeps Interleaved s v → s.streams ≡ streams → turn ≡ s.turn → FirstTurnAnswer v turn streams (Some next) → NewAnswer Interleaved v (Some next)
turn_kept s v streams turn next k same at first =
    turn_found v next (subst (λ (n : ℕ). FirstTurnAnswer v n v.streams (Some next)) (at ∙ k.holds.turn) (subst (λ (n : ℕ). FirstTurnAnswer v turn n (Some next)) (sym same ∙ k.holds.streams) first))

pub turn_kept_on : (s : Kept) (v : SenderView) (streams turn below : ℕ) (o : Option Next) → Keeps Interleaved s v → s.streams ≡ streams → turn ≡ s.turn → below ≡ min turn streams → FirstTurnAnswer v turn streams None → FirstTurnAnswer v 0 below o → NewAnswer Interleaved v o
turn_kept_on s v streams turn below o k same at is none first =
    let width = sym same ∙ k.holds.streams in
    let here = at ∙ k.holds.turn in
    turn_any v below o (is_set Interleaved v k.reached).turn (is ∙ ap (λ (n : ℕ). min n streams) here ∙ ap (λ (n : ℕ). min v.turn n) width)
    (subst (λ (n : ℕ). FirstTurnAnswer v n v.streams None) here (subst (λ (n : ℕ). FirstTurnAnswer v turn n None) width none)) first
