-- What a packet sends again, counted by its pace: of the indexes that the sender lists those that are missed.
use Rattle.std.proofs.Common.{◌≡◌, ◌∙◌, ℕ, ◌+◌, ◌-◌, ◌<◌, ◌≤◌, nat_lt, Bool, true, false, not, ◌&&◌, List, [], ◌∷◌, Option, None, Some, refl, sym, ap, arith}
use Rattle.std.specs.Prelude.{if◌then◌else◌, cond, count_by}
use Rattle.std.specs.List.{All}
use Rattle.std.proofs.lemmas.List.Sums.{sum_by-cons}
use Rattle.sctp_model.specs.messages.Format.{Format}
use Rattle.sctp_model.specs.sender.SenderView.{SenderView}
use Rattle.sctp_model.specs.sender.Filling.{Wish}
use Rattle.sctp_model.specs.end.Misses.{is_missed, goes_again}
use Rattle.sctp_model.specs.end.Pacing.{Pace}
use Rattle.sctp_congestion.specs.Went.{AreThose}
use Rattle.sctp_congestion.specs.PaceStands.{PaceKept, missed_at, PaceStands}
use Rattle.sctp_send.specs.FillAnswers.{is_sent_first, is_sent_again, sendings_of, sent_again, AreRising, AreSentAgain}
use Rattle.sctp_send.specs.declared.fill.sendings.Sendings as sender
use Rattle.sctp_association.specs.declared.build.sendings.Sendings.{Sendings}
use Rattle.sctp_association.specs.Sends.{is_missed_by, is_sent_missed, is_sent_timed, sendings_by}

-- so many of each kind
abbrev of_kinds : (first timed missed : ℕ) → Sendings
of_kinds first timed missed = record { first = first; timed = timed; missed = missed }

-- ---- of what is sent again some is missed, and the rest isn't

kinds_of : (a b : Bool) → cond a 1 0 ≡ cond (a && not b) 1 0 + cond (a && b) 1 0
kinds_of true true = refl
kinds_of true false = refl
kinds_of false b = refl

again_kinds : (o : Option Pace) (ws : List Wish) → count_by is_sent_again ws ≡ count_by (is_sent_timed o) ws + count_by (is_sent_missed o) ws
again_kinds o [] = refl
again_kinds o (w ∷ ws) =
    let all = sum_by-cons (λ x. cond (is_sent_again x) 1 0) w ws in
    let timed = sum_by-cons (λ x. cond (is_sent_timed o x) 1 0) w ws in
    let missed = sum_by-cons (λ x. cond (is_sent_missed o x) 1 0) w ws in
    let more = again_kinds o ws in
    let one = kinds_of (is_sent_again w) (is_missed_by o w.index) in
    rw (all, timed, missed) (omega (arith, more, one))

-- ---- without a pace none is

abbrev at_most_one : Bool → ℕ
at_most_one b = cond b 1 0

never : (b : Bool) → at_most_one (b && false) ≡ 0
never true = refl
never false = refl

none_missed : (ws : List Wish) → count_by (is_sent_missed None) ws ≡ 0
none_missed [] = refl
none_missed (w ∷ ws) =
    let more = none_missed ws in
    sum_by-cons (λ x. cond (is_sent_missed None x) 1 0) w ws ∙ (ap (λ (n : ℕ). n + count_by (is_sent_missed None) ws) (never (is_sent_again w)) ∙ omega (arith, more))

pub unpaced : (ws : List Wish) (x : sender.Sendings) → x ≡ sendings_of ws → of_kinds x.first x.again 0 ≡ sendings_by None ws
unpaced ws x is =
    let timed : count_by is_sent_again ws ≡ count_by (is_sent_timed None) ws = let kinds = again_kinds None ws in let none = none_missed ws in omega (arith, kinds, none) in
    ap (λ (y : sender.Sendings). of_kinds y.first y.again 0) is
    ∙ (ap (λ (n : ℕ). of_kinds (count_by is_sent_first ws) n 0) timed
    ∙ ap (λ (n : ℕ). of_kinds (count_by is_sent_first ws) (count_by (is_sent_timed None) ws) n) (sym (none_missed ws)))

-- ---- what the sender lists

listed : (test : ℕ → Bool) (ws : List Wish) → count_by test (sent_again ws) ≡ count_by (λ w. is_sent_again w && test w.index) ws
listed test [] = refl
listed test (w ∷ ws) = by (is_sent_again w) (listed test ws) ∙ sym (sum_by-cons (λ x. cond (is_sent_again x && test x.index) 1 0) w ws)
  where
    by : (b : Bool) → count_by test (sent_again ws) ≡ count_by (λ x. is_sent_again x && test x.index) ws
        → count_by test (if b then w.index ∷ sent_again ws else sent_again ws) ≡ cond (b && test w.index) 1 0 + count_by (λ x. is_sent_again x && test x.index) ws
    by true more = sum_by-cons (λ i. cond (test i) 1 0) w.index (sent_again ws) ∙ ap (λ (n : ℕ). cond (test w.index) 1 0 + n) more
    by false more = more ∙ omega arith

-- tests that agree above a number count alike what is above it
counts_alike : (test says : ℕ → Bool) (above : ℕ) (is : List ℕ) → AreRising above is → ((i : ℕ) → above < i → test i ≡ says i) → count_by test is ≡ count_by says is
counts_alike test says above [] rising same = refl
counts_alike test says above (i ∷ is) rising same =
    sum_by-cons (λ j. cond (test j) 1 0) i is
    ∙ (ap (λ (b : Bool). cond b 1 0 + count_by test is) (same i rising.0)
    ∙ (ap (λ (n : ℕ). cond (says i) 1 0 + n) (counts_alike test says i is rising.1 (λ j past. same j (omega (arith, past, rising.0))))
    ∙ sym (sum_by-cons (λ j. cond (says j) 1 0) i is)))

-- what is missed by what is kept is missed
pub missed_same : (f : Format) (cum : ℕ) (k : PaceKept) (p : Pace) → PaceStands f cum k p → (i : ℕ) → cum < i → missed_at k i ≡ is_missed p.misses i
missed_same f cum k p s i above = ap (λ (n : ℕ). nat_lt n k.misses.third) (s.misses.went.each i above) ∙ ap (nat_lt (p.misses.went i)) s.misses.third

-- the pace takes note of them
pub those_again : (v : SenderView) (ws : List Wish) (is : List ℕ) (room : ℕ) → AreSentAgain v ws is → All (λ i. i ≤ room) is → AreThose (goes_again ws) v.cum room is
those_again v ws is room again within = record { those = λ i above. again.those i; within = within }

-- ---- with a pace

pub paced : (f : Format) (v : SenderView) (k : PaceKept) (p : Pace) (o : Option Pace) (ws : List Wish) (is : List ℕ) (n : ℕ) (x : Sendings) → PaceStands f v.cum k p → o ≡ Some p
    → AreSentAgain v ws is → n ≡ count_by (missed_at k) is → x ≡ sendings_by None ws → record x { timed = x.timed - n; missed = n } ≡ sendings_by o ws
paced f v k p o ws is n x stands pace again counted told = by
  where
    missed : n ≡ count_by (is_sent_missed (Some p)) ws
    missed = counted ∙ (counts_alike (missed_at k) (is_missed p.misses) v.cum is again.rising (missed_same f v.cum k p stands)
        ∙ (ap (count_by (is_missed p.misses)) again.exact ∙ listed (is_missed p.misses) ws))

    timed : x.timed ≡ count_by is_sent_again ws
    timed = let kinds = again_kinds None ws in let none = none_missed ws in let here = ap (λ (y : Sendings). y.timed) told in omega (arith, kinds, none, here)

    left : x.timed - n ≡ count_by (is_sent_timed (Some p)) ws
    left = let kinds = again_kinds (Some p) ws in omega (arith, timed, missed, kinds)

    by : record x { timed = x.timed - n; missed = n } ≡ sendings_by o ws
    by = ap (λ (y : ℕ). of_kinds y (x.timed - n) n) (ap (λ (y : Sendings). y.first) told)
        ∙ (ap (λ (y : ℕ). of_kinds (count_by is_sent_first ws) y n) left
        ∙ (ap (λ (y : ℕ). of_kinds (count_by is_sent_first ws) (count_by (is_sent_timed (Some p)) ws) y) missed ∙ ap (λ (q : Option Pace). sendings_by q ws) (sym pace)))
