-- The lanes of a FORWARD: each entry is noted where its lane stands.
use Rattle.std.proofs.Common.{◌≡◌, ℕ, zero, suc, ◌+◌, ◌*◌, ◌<◌, ◌≤◌, List, [], ◌∷◌, ◌++◌, Bool, true, false, Option, Some, None, refl, sym, ap, ◌∙◌, arith, subst}
use Rattle.std.specs.Prelude.{◌&&◌, ◌==◌, nat_lt, if◌then◌else◌}
use Rattle.std.proofs.lemmas.Bool.Decides.{nat_tests}
use Rattle.sctp_model.specs.messages.Format.{Format, Kind, Ordered, Unordered, Lane, is_numbered, same_kind, same_lane}
use Rattle.sctp_model.specs.messages.Plan.{Entry}
use Rattle.sctp_model.specs.messages.Forward.{Skip}
use Rattle.sctp_model.specs.sender.Entries.{entry_lane, entry_number}
use Rattle.sctp_model.specs.sender.Forwarding.{larger, largest_in, skip_in, skip_of, skips_on, skips_below}
use Rattle.sctp_send.specs.inner.Lanes.{lane_key, AreRising, noted, noted_entry}

-- ---- in order

-- the lanes rise from a key on, below another
abbrev pub AreWithin : (from to : ℕ) → List Skip → Type 0
AreWithin a b [] = a ≤ b
AreWithin a b (x ∷ xs) = (a ≤ lane_key x.lane) × AreWithin (suc (lane_key x.lane)) b xs

within_order : (a b : ℕ) (xs : List Skip) → AreWithin a b xs → a ≤ b
within_order a b [] h = h
within_order a b (x ∷ xs) h = let le = within_order (suc (lane_key x.lane)) b xs h.1 in omega (arith, h.0, le)

within_from : (a b c : ℕ) (xs : List Skip) → c ≤ a → AreWithin a b xs → AreWithin c b xs
within_from a b c [] le h = omega (arith, h)
within_from a b c (x ∷ xs) le h = (omega (arith, h.0), h.1)

within_joined : (a b c : ℕ) (xs ys : List Skip) → AreWithin a b xs → AreWithin b c ys → AreWithin a c (xs ++ ys)
within_joined a b c [] ys h k = within_from b c a ys h k
within_joined a b c (x ∷ xs) ys h k = (h.0, within_joined (suc (lane_key x.lane)) b c xs ys h.1 k)

within_rising : (a b : ℕ) (xs : List Skip) → AreWithin a b xs → AreRising a xs
within_rising a b [] h = tt
within_rising a b (x ∷ xs) h = (h.0, within_rising (suc (lane_key x.lane)) b xs h.1)

-- one lane
within_one : (f : Format) (es : List Entry) (l : Lane) (a b : ℕ) → a ≡ lane_key l → b ≡ suc a → AreWithin a b (skip_of f es l)
within_one f es l a b from to = by_kind (is_numbered f l.kind)
  where
    by_largest : (o : Option ℕ) → AreWithin a b (skip_in l o)
    by_largest None = omega arith
    by_largest (Some n) = (omega arith, omega arith)

    by_kind : (c : Bool) → AreWithin a b (if c then skip_in l (largest_in l None es) else [])
    by_kind false = omega arith
    by_kind true = by_largest (largest_in l None es)

-- of a stream the ordered one, and the other
ordered_within : (f : Format) (es : List Entry) (s : ℕ) → AreWithin (2 * s) (2 * s + 1) (skip_of f es (record { stream = s; kind = Ordered }))
ordered_within f es s = within_one f es (record { stream = s; kind = Ordered }) (2 * s) (2 * s + 1) (omega arith) (omega arith)

unordered_within : (f : Format) (es : List Entry) (s : ℕ) → AreWithin (2 * s + 1) (2 * s + 2) (skip_of f es (record { stream = s; kind = Unordered }))
unordered_within f es s = within_one f es (record { stream = s; kind = Unordered }) (2 * s + 1) (2 * s + 2) (omega arith) (omega arith)

on_within : (f : Format) (es : List Entry) (s : ℕ) → AreWithin (2 * s) (2 * s + 2) (skips_on f es s)
on_within f es s = within_joined (2 * s) (2 * s + 1) (2 * s + 2) (skip_of f es (record { stream = s; kind = Ordered })) (skip_of f es (record { stream = s; kind = Unordered })) (ordered_within f es s) (unordered_within f es s)

below_within : (f : Format) (es : List Entry) (s : ℕ) → AreWithin 0 (2 * s) (skips_below f es s)
below_within f es zero = omega arith
below_within f es (suc s) =
    let next : 2 * suc s ≡ 2 * s + 2 = omega arith in
    rw next (within_joined 0 (2 * s) (2 * s + 2) (skips_below f es s) (skips_on f es s) (below_within f es s) (on_within f es s))

pub below_rising : (f : Format) (es : List Entry) (s : ℕ) → AreRising 0 (skips_below f es s)
below_rising f es s = within_rising 0 (2 * s) (skips_below f es s) (below_within f es s)

-- ---- a number is noted among lanes

noted_behind : (l : Lane) (n a b : ℕ) (xs ys : List Skip) → AreWithin a b xs → b ≤ lane_key l → noted l n (xs ++ ys) ≡ xs ++ noted l n ys
noted_behind l n a b [] ys h le = refl
noted_behind l n a b (x ∷ xs) ys h le =
    let end = within_order (suc (lane_key x.lane)) b xs h.1 in
    let less : nat_lt (lane_key x.lane) (lane_key l) ≡ true = let lt : lane_key x.lane < lane_key l = omega (arith, end, le) in grind (arith, nat_tests) in
    rw less (ap (λ (zs : List Skip). x ∷ zs) (noted_behind l n (suc (lane_key x.lane)) b xs ys h.1 le))

noted_before : (l : Lane) (n a b : ℕ) (xs ys : List Skip) → AreWithin a b ys → lane_key l < a → noted l n (xs ++ ys) ≡ noted l n xs ++ ys
noted_before l n a b [] [] h lt = refl
noted_before l n a b [] (y ∷ ys) h lt = grind (arith, nat_tests, h.0)
noted_before l n a b (x ∷ xs) ys h lt = grind (arith, nat_tests, noted_before l n a b xs ys h lt)

noted_one : (l : Lane) (n : ℕ) (o : Option ℕ) → noted l n (skip_in l o) ≡ skip_in l (larger o n)
noted_one l n None = refl
noted_one l n (Some m) = grind (arith, nat_tests)

both : (a b c d : List Skip) → a ≡ c → b ≡ d → a ++ b ≡ c ++ d
both a b c d p q = rw (p, q) refl

-- ---- an entry more

-- the second list is the first one with an entry of this lane and number behind it
pub record IsMore (l : Lane) (n : ℕ) (es more : List Entry) : Type 0 where
  pub largest : (k : Lane) → largest_in k None more ≡ (if same_lane k l then larger (largest_in k None es) n else largest_in k None es)

largest_more : (k : Lane) (found : Option ℕ) (es : List Entry) (e : Entry) → largest_in k found (es ++ e ∷ []) ≡ (if same_lane k (entry_lane e) then larger (largest_in k found es) (entry_number e) else largest_in k found es)
largest_more k found [] e = refl
largest_more k found (d ∷ es) e = largest_more k (if same_lane k (entry_lane d) then larger found (entry_number d) else found) es e

is_more : (es : List Entry) (e : Entry) → IsMore (entry_lane e) (entry_number e) es (es ++ e ∷ [])
is_more es e = record { largest = λ k. largest_more k None es e }

kind_self : (k : Kind) → same_kind k k ≡ true
kind_self Ordered = refl
kind_self Unordered = refl

same_self : (s : ℕ) (k : Kind) → same_lane (record { stream = s; kind = k }) (record { stream = s; kind = k }) ≡ true
same_self s k = let same : (s == s) ≡ true = grind (arith, nat_tests) in rw (same, kind_self k) refl

other_stream : (s r : ℕ) (k j : Kind) → (s ≡ r → ⊥) → same_lane (record { stream = s; kind = k }) (record { stream = r; kind = j }) ≡ false
other_stream s r k j ne = let other : (s == r) ≡ false = grind (arith, nat_tests) in rw other refl

other_kind : (s r : ℕ) (k j : Kind) → same_kind k j ≡ false → same_lane (record { stream = s; kind = k }) (record { stream = r; kind = j }) ≡ false
other_kind s r k j other = rw other (grind (arith, nat_tests))

-- a lane that the entry isn't of
lane_same : (f : Format) (l k : Lane) (n : ℕ) (es more : List Entry) → IsMore l n es more → same_lane k l ≡ false → skip_of f more k ≡ skip_of f es k
lane_same f l k n es more h other =
    let same : largest_in k None more ≡ largest_in k None es = h.largest k ∙ ap (λ (b : Bool). if b then larger (largest_in k None es) n else largest_in k None es) other in
    ap (λ (o : Option ℕ). if is_numbered f k.kind then skip_in k o else []) same

-- and the one that it is of
lane_more : (f : Format) (s : ℕ) (k : Kind) (n : ℕ) (es more : List Entry) → IsMore (record { stream = s; kind = k }) n es more → is_numbered f k ≡ true
    → skip_of f more (record { stream = s; kind = k }) ≡ noted (record { stream = s; kind = k }) n (skip_of f es (record { stream = s; kind = k }))
lane_more f s k n es more h on =
    let l : Lane = record { stream = s; kind = k } in
    let found : largest_in l None more ≡ larger (largest_in l None es) n = h.largest l ∙ ap (λ (b : Bool). if b then larger (largest_in l None es) n else largest_in l None es) (same_self s k) in
    rw on (ap (skip_in l) found ∙ sym (noted_one l n (largest_in l None es)))

-- a stream that the entry isn't on
stream_same : (f : Format) (r s : ℕ) (k : Kind) (n : ℕ) (es more : List Entry) → IsMore (record { stream = r; kind = k }) n es more → (s ≡ r → ⊥) → skips_on f more s ≡ skips_on f es s
stream_same f r s k n es more h ne =
    let l : Lane = record { stream = r; kind = k } in
    let one = lane_same f l (record { stream = s; kind = Ordered }) n es more h (other_stream s r Ordered k ne) in
    let two = lane_same f l (record { stream = s; kind = Unordered }) n es more h (other_stream s r Unordered k ne) in
    cc

streams_same : (f : Format) (r s : ℕ) (k : Kind) (n : ℕ) (es more : List Entry) → IsMore (record { stream = r; kind = k }) n es more → s ≤ r → skips_below f more s ≡ skips_below f es s
streams_same f r zero k n es more h le = refl
streams_same f r (suc s) k n es more h le = cc (streams_same f r s k n es more h (omega arith), stream_same f r s k n es more h (λ is. absurd (omega arith)))

-- the stream that it is on
stream_more : (f : Format) (s : ℕ) (k : Kind) (n : ℕ) (es more : List Entry) → IsMore (record { stream = s; kind = k }) n es more → is_numbered f k ≡ true
    → skips_on f more s ≡ noted (record { stream = s; kind = k }) n (skips_on f es s)
stream_more f s Ordered n es more h on =
    let o : Lane = record { stream = s; kind = Ordered } in
    let u : Lane = record { stream = s; kind = Unordered } in
    both (skip_of f more o) (skip_of f more u) (noted o n (skip_of f es o)) (skip_of f es u) (lane_more f s Ordered n es more h on) (lane_same f o u n es more h (other_kind s s Unordered Ordered refl))
    ∙ sym (noted_before o n (2 * s + 1) (2 * s + 2) (skip_of f es o) (skip_of f es u) (unordered_within f es s) (omega arith))
stream_more f s Unordered n es more h on =
    let o : Lane = record { stream = s; kind = Ordered } in
    let u : Lane = record { stream = s; kind = Unordered } in
    both (skip_of f more o) (skip_of f more u) (skip_of f es o) (noted u n (skip_of f es u)) (lane_same f u o n es more h (other_kind s s Ordered Unordered refl)) (lane_more f s Unordered n es more h on)
    ∙ sym (noted_behind u n (2 * s) (2 * s + 1) (skip_of f es o) (skip_of f es u) (ordered_within f es s) (omega arith))

key_low : (s : ℕ) (k : Kind) → 2 * s ≤ lane_key (record { stream = s; kind = k })
key_low s Ordered = omega arith
key_low s Unordered = omega arith

key_high : (s : ℕ) (k : Kind) → lane_key (record { stream = s; kind = k }) < 2 * s + 2
key_high s Ordered = omega arith
key_high s Unordered = omega arith

streams_here : (f : Format) (s : ℕ) (k : Kind) (n : ℕ) (es more : List Entry) → IsMore (record { stream = s; kind = k }) n es more → is_numbered f k ≡ true
    → skips_below f more (suc s) ≡ noted (record { stream = s; kind = k }) n (skips_below f es (suc s))
streams_here f s k n es more h on =
    let l : Lane = record { stream = s; kind = k } in
    both (skips_below f more s) (skips_on f more s) (skips_below f es s) (noted l n (skips_on f es s)) (streams_same f s s k n es more h (omega arith)) (stream_more f s k n es more h on)
    ∙ sym (noted_behind l n 0 (2 * s) (skips_below f es s) (skips_on f es s) (below_within f es s) (key_low s k))

streams_more : (f : Format) (r s : ℕ) (k : Kind) (n : ℕ) (es more : List Entry) → IsMore (record { stream = r; kind = k }) n es more → is_numbered f k ≡ true → r < s
    → skips_below f more s ≡ noted (record { stream = r; kind = k }) n (skips_below f es s)
streams_more f r zero k n es more h on lt = absurd (omega arith)
streams_more f r (suc s) k n es more h on lt = by_at (s == r) refl (λ less. streams_more f r s k n es more h on less)
  where
    l : Lane
    l = record { stream = r; kind = k }

    by_at : (b : Bool) → (s == r) ≡ b → (r < s → skips_below f more s ≡ noted l n (skips_below f es s)) → skips_below f more (suc s) ≡ noted l n (skips_below f es (suc s))
    by_at true is further =
        let here : r ≡ s = grind (arith, nat_tests) in
        subst (λ (x : ℕ). skips_below f more (suc x) ≡ noted l n (skips_below f es (suc x))) here (streams_here f r k n es more h on)
    by_at false is further =
        let ne : s ≡ r → ⊥ = λ same. let equal : (s == r) ≡ true = grind (arith, nat_tests) in cc in
        let less : r < s = omega (arith, ne) in
        let high = key_high r k in
        both (skips_below f more s) (skips_on f more s) (noted l n (skips_below f es s)) (skips_on f es s) (further less) (stream_same f r s k n es more h ne)
        ∙ sym (noted_before l n (2 * s) (2 * s + 2) (skips_below f es s) (skips_on f es s) (on_within f es s) (omega (arith, high, less)))

-- under one that isn't numbered nothing is noted
unnumbered : (f : Format) (r s : ℕ) (k : Kind) (n : ℕ) (es more : List Entry) → IsMore (record { stream = r; kind = k }) n es more → is_numbered f k ≡ false → skips_below f more s ≡ skips_below f es s
unnumbered f r zero k n es more h none = refl
unnumbered f r (suc s) k n es more h none =
    cc (unnumbered f r s k n es more h none, each Ordered (same_kind Ordered k) refl, each Unordered (same_kind Unordered k) refl)
  where
    same : (a b : Kind) → same_kind a b ≡ true → a ≡ b
    same Ordered Ordered on = refl
    same Ordered Unordered on = absurd (cc)
    same Unordered Ordered on = absurd (cc)
    same Unordered Unordered on = refl

    each : (j : Kind) (b : Bool) → same_kind j k ≡ b → skip_of f more (record { stream = s; kind = j }) ≡ skip_of f es (record { stream = s; kind = j })
    each j true is = let off : is_numbered f j ≡ false = ap (is_numbered f) (same j k is) ∙ none in rw off refl
    each j false is = lane_same f (record { stream = r; kind = k }) (record { stream = s; kind = j }) n es more h (other_kind s r j k is)

-- an entry more: what is found then
pub skips_more : (f : Format) (s : ℕ) (es : List Entry) (e : Entry) → skips_below f (es ++ e ∷ []) s ≡ noted_entry f s e (skips_below f es s)
skips_more f s es e = by_tests (nat_lt (entry_lane e).stream s) (is_numbered f (entry_lane e).kind) refl refl
  where
    l : Lane
    l = entry_lane e

    by_tests : (b c : Bool) → nat_lt l.stream s ≡ b → is_numbered f l.kind ≡ c → skips_below f (es ++ e ∷ []) s ≡ (if b && c then noted l (entry_number e) (skips_below f es s) else skips_below f es s)
    by_tests false c past numbered = streams_same f l.stream s l.kind (entry_number e) es (es ++ e ∷ []) (is_more es e) (let le : s ≤ l.stream = grind (arith, nat_tests) in le)
    by_tests true false low numbered = unnumbered f l.stream s l.kind (entry_number e) es (es ++ e ∷ []) (is_more es e) numbered
    by_tests true true low numbered = streams_more f l.stream s l.kind (entry_number e) es (es ++ e ∷ []) (is_more es e) numbered (let lt : l.stream < s = grind (arith, nat_tests) in lt)
