-- The lanes of a FORWARD, found by halves in one walk: what is found is what the definition says.
use Rattle.std.proofs.Common.{◌≡◌, ℕ, zero, suc, ◌+◌, ◌<◌, ◌≤◌, List, [], ◌∷◌, ◌++◌, length, map, take, drop, set, get_or, Bool, true, false, None, refl, sym, ap, ◌∙◌, arith, append_assoc, subst}
use Rattle.std.specs.Prelude.{if◌then◌else◌}
use Rattle.std.proofs.lemmas.Bool.Decides.{nat_tests}
use Rattle.std.proofs.lemmas.List.{append-nil, map-append, take_more, get_or-map}
use Rattle.sctp_model.specs.messages.Format.{Format, Ordered, Unordered, Lane, is_numbered}
use Rattle.sctp_model.specs.messages.Plan.{Entry}
use Rattle.sctp_model.specs.messages.Forward.{Skip}
use Rattle.sctp_model.specs.sender.Entries.{entry_lane, entry_number}
use Rattle.sctp_model.specs.sender.Forwarding.{skip_in, skip_of, skips_below}
use Rattle.sctp_send.specs.SenderKept.{Item}
use Rattle.sctp_send.specs.OutstandingFields.{item_meaning, entries_of}
use Rattle.sctp_send.specs.inner.Lanes.{lane_key, passed_meaning, AreRising, before, told_at, at_least, noted, noted_entry}
use Rattle.sctp_send.specs.declared.forward.lanes.Passed.{Passed}
use Rattle.sctp_send.specs.declared.kept.entry.Entry.{Entry as EntryFields}
use Rattle.sctp_send.proofs.forward.LaneLemmas.{skips_more}

-- ---- never fewer

noted_longer : (l : Lane) (n : ℕ) (xs : List Skip) → length xs ≤ length (noted l n xs)
noted_longer l n [] = omega arith
noted_longer l n (x ∷ xs) = grind (arith, nat_tests, noted_longer l n xs)

pub skips_longer : (f : Format) (s : ℕ) (es ds : List Entry) → length (skips_below f es s) ≤ length (skips_below f (es ++ ds) s)
skips_longer f s es [] = rw append-nil (omega arith)
skips_longer f s es (d ∷ ds) =
    let rest = skips_longer f s (es ++ d ∷ []) ds in
    let joined : (es ++ d ∷ []) ++ ds ≡ es ++ d ∷ ds = append_assoc es (d ∷ []) ds in
    let one : length (skips_below f es s) ≤ length (noted_entry f s d (skips_below f es s)) = grind (arith, nat_tests, noted_longer (entry_lane d) (entry_number d) (skips_below f es s)) in
    let all : length (skips_below f (es ++ d ∷ []) s) ≤ length (skips_below f (es ++ d ∷ ds) s) = subst (λ (xs : List Entry). length (skips_below f (es ++ d ∷ []) s) ≤ length (skips_below f xs s)) joined rest in
    let is : length (skips_below f (es ++ d ∷ []) s) ≡ length (noted_entry f s d (skips_below f es s)) = ap length (skips_more f s es d) in
    omega (arith, one, all, is)

-- ---- by halves

pub before_within : (key : ℕ) (xs : List Skip) → before key xs ≤ length xs
before_within key [] = omega arith
before_within key (x ∷ xs) = grind (arith, nat_tests, before_within key xs)

-- one that comes before: so do all in front of it
pub before_above : (key here at : ℕ) (xs : List Skip) (d : Skip) → AreRising here xs → at < length xs → lane_key (get_or xs at d).lane < key → at < before key xs
before_above key here at [] d rising lt less = absurd (omega arith)
before_above key here zero (x ∷ xs) d rising lt less = grind (arith, nat_tests)
before_above key here (suc at) (x ∷ xs) d rising lt less =
    let first = first_lower (suc (lane_key x.lane)) at xs rising.1 (omega arith) in
    let rest = before_above key (suc (lane_key x.lane)) at xs d rising.1 (omega arith) less in
    grind (arith, nat_tests, first, rest)
  where
    first_lower : (n j : ℕ) (ys : List Skip) → AreRising n ys → j < length ys → n ≤ lane_key (get_or ys j d).lane
    first_lower n j [] h low = absurd (omega arith)
    first_lower n zero (y ∷ ys) h low = h.0
    first_lower n (suc j) (y ∷ ys) h low = let later = first_lower (suc (lane_key y.lane)) j ys h.1 (omega arith) in omega (arith, later, h.0)

-- one that doesn't: nor does any behind it
pub before_below : (key at : ℕ) (xs : List Skip) (d : Skip) → at < length xs → key ≤ lane_key (get_or xs at d).lane → before key xs ≤ at
before_below key at [] d lt le = absurd (omega arith)
before_below key zero (x ∷ xs) d lt le = grind (arith, nat_tests)
before_below key (suc at) (x ∷ xs) d lt le = let rest = before_below key at xs d (omega arith) le in grind (arith, nat_tests, rest)

-- ---- noted where it stands

pub noted_here : (l : Lane) (n at : ℕ) (xs : List Skip) (x d : Skip) → at ≡ before (lane_key l) xs → at < length xs → x ≡ get_or xs at d → lane_key x.lane ≡ lane_key l
    → set xs at (at_least n x) ≡ noted l n xs
noted_here l n at [] x d is lt read same = absurd (omega arith)
noted_here l n zero (y ∷ xs) x d is lt read same = grind (arith, nat_tests)
noted_here l n (suc at) (y ∷ xs) x d is lt read same = grind (arith, nat_tests, noted_here l n at xs x d)

pub noted_new : (l : Lane) (n at : ℕ) (xs : List Skip) (d : Skip) → at ≡ before (lane_key l) xs → (at < length xs → lane_key (get_or xs at d).lane ≡ lane_key l → ⊥)
    → take at xs ++ told_at l n ∷ drop at xs ≡ noted l n xs
noted_new l n zero [] d is other = refl
noted_new l n (suc at) [] d is other = absurd (omega arith)
noted_new l n zero (y ∷ xs) d is other = grind (arith, nat_tests)
noted_new l n (suc at) (y ∷ xs) d is other = grind (arith, nat_tests, noted_new l n at xs d)

-- ---- from what is kept

-- nothing passed, no lane
pub none_below : (f : Format) (s : ℕ) → skips_below f [] s ≡ []
none_below f zero = refl
none_below f (suc s) = rw (none_below f s, silent (record { stream = s; kind = Ordered }), silent (record { stream = s; kind = Unordered })) refl
  where
    by_kind : (l : Lane) (b : Bool) → (if b then skip_in l None else []) ≡ []
    by_kind l true = refl
    by_kind l false = refl

    silent : (l : Lane) → skip_of f [] l ≡ []
    silent l = by_kind l (is_numbered f l.kind)

pub lanes_step : (f : Format) (size s at : ℕ) (es : List EntryFields) (x : EntryFields) (was now : List Skip) → at < length es → x ≡ get_or es at x → now ≡ noted_entry f s (item_meaning size x).entry was
    → was ≡ skips_below f (entries_of (map (item_meaning size) (take at es))) s → now ≡ skips_below f (entries_of (map (item_meaning size) (take (at + 1) es))) s
lanes_step f size s at es x was now lt read is so_far =
    let more : take (at + 1) es ≡ take at es ++ x ∷ [] = take_more es at x lt ∙ ap (λ (y : EntryFields). take at es ++ y ∷ []) (sym read) in
    let entries : entries_of (map (item_meaning size) (take (at + 1) es)) ≡ entries_of (map (item_meaning size) (take at es)) ++ (item_meaning size x).entry ∷ [] =
    ap (λ (xs : List EntryFields). entries_of (map (item_meaning size) xs)) more ∙ ap entries_of (map-append (item_meaning size) (take at es) (x ∷ [])) ∙ map-append (λ (y : Item). y.entry) (map (item_meaning size) (take at es)) (item_meaning size x ∷ []) in
    is ∙ ap (noted_entry f s (item_meaning size x).entry) so_far ∙ sym (skips_more f s (entries_of (map (item_meaning size) (take at es))) (item_meaning size x).entry)
    ∙ ap (λ (xs : List Entry). skips_below f xs s) (sym entries)

pub passed_read : (lanes : List Passed) (at : ℕ) (x : Passed) → at < length lanes → x ≡ get_or lanes at x → get_or (map passed_meaning lanes) at (passed_meaning x) ≡ passed_meaning x
passed_read lanes at x lt read = get_or-map passed_meaning lanes at x (passed_meaning x) lt ∙ ap passed_meaning (sym read)
