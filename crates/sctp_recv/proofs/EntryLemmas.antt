-- The entries of a FORWARD, ordered by stream: those of one stream skip there what all skip.
use Rattle.std.proofs.Common.{◌≡◌, ℕ, zero, suc, ◌+◌, ◌-◌, ◌<◌, ◌≤◌, ◌⊎◌, max, true, false, nat_lt, nat_le, Option, None, Some, List, [], ◌∷◌, ◌++◌, length, get_or, take, drop, map, inl, inr, refl, sym, ◌∙◌, ap, subst, add-one, arith}
use Rattle.std.specs.List.Sorted.{IsPartitionPoint, IsPartitionedBy, IsPermutation}
use Rattle.std.specs.List.{Contains}
use Rattle.std.proofs.lemmas.Bool.{cases_Bool}
use Rattle.std.proofs.lemmas.Bool.Decides.{nat_tests}
use Rattle.std.proofs.lemmas.List.Sorted.{Contains-permutation, IsPermutation-sym}
use Rattle.std.specs.Prelude.{slice_get}
use Rattle.sctp_model.specs.numbers.Lists.{Has}
use Rattle.sctp_model.specs.numbers.Serial.{COUNTS}
use Rattle.sctp_model.specs.wire.Chunk.{SkipMeaning}
use Rattle.sctp_model.specs.messages.Format.{Format, Unordered, Lane, same_lane, ordered_lane, unordered_lane}
use Rattle.sctp_model.specs.messages.Framing.{lane_kind}
use Rattle.sctp_model.specs.messages.Pieces.{Piece}
use Rattle.sctp_model.specs.receiver.ReceiverView.{size_of_pieces, size_of_messages}
use Rattle.sctp_model.specs.receiver.Reading.{lane_of}
use Rattle.sctp_model.proofs.receiver.RowFacts.{lanes_same}
use Rattle.sctp_wire.specs.declared.skips.Skip.{Skip}
use Rattle.sctp_wire.specs.ChunkTree.{skip_meaning}
use Rattle.sctp_recv.specs.Filed.{Keeps}
use Rattle.sctp_chains.specs.WholeOf.{from_number}
use Rattle.sctp_recv.specs.declared.inbound.Inbound.{Inbound}
use Rattle.sctp_recv.specs.declared.restart.Restart.{Restart}
use Rattle.sctp_recv.specs.declared.stream.Stream.{Stream}
use Rattle.sctp_recv.specs.Fields.{known_of, stream_of}
use Rattle.sctp_recv.specs.Resets.{base_of}
use Rattle.sctp_recv.specs.ReceiverKept.{StreamKept, near_of, number_read, IsCount}
use Rattle.sctp_recv.specs.inner.Giving.{sized, IsDueFrom}
use Rattle.sctp_recv.specs.inner.Forwarding.{one_past, AreCounts, CountsOn, CountAllOn, skipped_by, most_skipped, lowest_after, skip_after, AreByStream, AreEntriesOf, stay, PassesOn}

-- ---- what is skipped, an entry more at a time

most_suc : (f : Format) (l : Lane) (base near : ℕ) (es : List Skip) (i : ℕ) (d : Skip) → i < length es →
    most_skipped f l base near (map skip_meaning (take (suc i) es)) ≡ max (most_skipped f l base near (map skip_meaning (take i es))) (skipped_by f l base near (skip_meaning (get_or es i d)))
most_suc f l base near [] i d low = absurd (omega (arith, low))
most_suc f l base near (x ∷ es) zero d low = omega arith
most_suc f l base near (x ∷ es) (suc i) d low = let more = most_suc f l base near es i d (omega (arith, low)) in omega (arith, more)

pub lowest_more : (f : Format) (l : Lane) (base near lowest : ℕ) (es : List Skip) (i : ℕ) (d : Skip) → i < length es →
    lowest_after f l base near lowest (map skip_meaning (take (i + 1) es)) ≡ max (lowest_after f l base near lowest (map skip_meaning (take i es))) (skipped_by f l base near (skip_meaning (get_or es i d)))
lowest_more f l base near lowest es i d low = rw add-one (let more = most_suc f l base near es i d low in omega (arith, more))

-- ---- entries that are the same

skipped_most : (f : Format) (l : Lane) (base near : ℕ) (xs : List SkipMeaning) (x : SkipMeaning) → Has xs x → skipped_by f l base near x ≤ most_skipped f l base near xs
skipped_most f l base near [] x there = absurd there
skipped_most f l base near (y ∷ xs) x (inl is) = let same = ap (λ (z : SkipMeaning). skipped_by f l base near z) is in omega (arith, same)
skipped_most f l base near (y ∷ xs) x (inr there) = let more = skipped_most f l base near xs x there in omega (arith, more)

most_within : (f : Format) (l : Lane) (base near : ℕ) (xs ys : List SkipMeaning) → ((x : SkipMeaning) → x.stream ≡ l.stream → Has xs x → Has ys x) → most_skipped f l base near xs ≤ most_skipped f l base near ys
most_within f l base near [] ys within = omega arith
most_within f l base near (x ∷ xs) ys within =
    let more = most_within f l base near xs ys (λ z at there. within z at (inr there)) in
    elim (cases_Bool (same_lane l (lane_of x.stream x.unordered))) [
      | inl same ↦
          let here = skipped_most f l base near ys x (within x (sym (ap (λ (k : Lane). k.stream) (lanes_same l (lane_of x.stream x.unordered) same))) (inl refl)) in
          omega (arith, here, more)
      | inr apart ↦ let none : skipped_by f l base near x ≡ 0 = rw apart refl in omega (arith, none, more)
    ]

-- a stream's own entries skip there what all skip
pub own_lowest : (f : Format) (l : Lane) (base near lowest : ℕ) (all own : List SkipMeaning) → AreEntriesOf l.stream all own → lowest_after f l base near lowest own ≡ lowest_after f l base near lowest all
own_lowest f l base near lowest all own entries =
    let up = most_within f l base near own all (λ x at there. (entries x at).1 there) in
    let down = most_within f l base near all own (λ x at there. (entries x at).0 there) in
    omega (arith, up, down)

-- ---- in another order

has_at : (xs : List SkipMeaning) (x : SkipMeaning) → Contains xs x → Has xs x
has_at [] x (k, low, at) = absurd (omega (arith, low))
has_at (y ∷ xs) x (zero, low, at) = inl at
has_at (y ∷ xs) x (suc k, low, at) = inr (has_at xs x (k, omega (arith, low), at))

at_has : (xs : List SkipMeaning) (x : SkipMeaning) → Has xs x → Contains xs x
at_has [] x there = absurd there
at_has (y ∷ xs) x (inl is) = (0, omega arith, is)
at_has (y ∷ xs) x (inr there) = let m = at_has xs x there in (suc m.0, (let low = m.1 in omega (arith, low)), m.2)

pub moved : (s : ℕ) (xs ys own : List SkipMeaning) → IsPermutation xs ys → AreEntriesOf s ys own → AreEntriesOf s xs own
moved s xs ys own same entries x at = (
  λ there. (entries x at).0 (has_at ys x (Contains-permutation xs ys x same (at_has xs x there))),
  λ there. has_at xs x (Contains-permutation ys xs x (IsPermutation-sym xs ys same) (at_has ys x ((entries x at).1 there))),
)

-- ---- those of one stream lie together

pub dropped_rise : (es : List Skip) (n : ℕ) → AreByStream es → AreByStream (drop n es)
dropped_rise es zero rise = rise
dropped_rise [] (suc n) rise = rise
dropped_rise (e ∷ es) (suc n) rise = dropped_rise es n (λ i j d le low. rise (suc i) (suc j) d (omega (arith, le)) (omega (arith, low)))

-- all that is left
pub rest_all : (es : List Skip) (n : ℕ) → take (length es - n) (drop n es) ≡ drop n es
rest_all es zero = let all : length es - 0 ≡ length es = omega arith in ap (λ (n : ℕ). take n es) all ∙ whole es
  where
    whole : (xs : List Skip) → take (length xs) xs ≡ xs
    whole [] = refl
    whole (x ∷ xs) = ap (λ (ys : List Skip). x ∷ ys) (whole xs)
rest_all [] (suc n) = nothing (0 - suc n)
  where
    nothing : (m : ℕ) → take {A = Skip} m [] ≡ []
    nothing zero = refl
    nothing (suc m) = refl
rest_all (e ∷ es) (suc n) = let same : length (e ∷ es) - suc n ≡ length es - n = omega arith in ap (λ (m : ℕ). take m (drop n es)) same ∙ rest_all es n

pub below_parted : (es : List Skip) (s : ℕ) → AreByStream es → IsPartitionedBy (λ (e : Skip). nat_lt e.stream s) es
below_parted es s rise i j d le low e = let up = rise i j d le low in grind (arith, up, e, nat_tests)

pub upto_parted : (es : List Skip) (s : ℕ) → AreByStream es → IsPartitionedBy (λ (e : Skip). nat_le e.stream s) es
upto_parted es s rise i j d le low e = let up = rise i j d le low in grind (arith, up, e, nat_tests)

abbrev pub IsFront : (s : ℕ) → List Skip → ℕ → Type 0
IsFront s es k = IsPartitionPoint (λ (e : Skip). nat_lt e.stream s ≡ true) (λ (e : Skip). nat_lt e.stream s ≡ false) es k

abbrev pub IsBack : (s : ℕ) → List Skip → ℕ → Type 0
IsBack s es k = IsPartitionPoint (λ (e : Skip). nat_le e.stream s ≡ true) (λ (e : Skip). nat_le e.stream s ≡ false) es k

-- what is taken of them, or left when some are dropped, is of them
taken_has : (es : List Skip) (n : ℕ) (x : SkipMeaning) → Has (map skip_meaning (take n es)) x → Has (map skip_meaning es) x
taken_has es zero x there = absurd there
taken_has [] (suc n) x there = absurd there
taken_has (e ∷ es) (suc n) x (inl is) = inl is
taken_has (e ∷ es) (suc n) x (inr there) = inr (taken_has es n x there)

dropped_has : (es : List Skip) (n : ℕ) (x : SkipMeaning) → Has (map skip_meaning (drop n es)) x → Has (map skip_meaning es) x
dropped_has es zero x there = there
dropped_has [] (suc n) x there = there
dropped_has (e ∷ es) (suc n) x there = inr (dropped_has es n x there)

-- no entry of the stream lies behind the last of them, or before the first
in_front : (s : ℕ) (es : List Skip) (k : ℕ) → IsBack s es k → (x : SkipMeaning) → x.stream ≡ s → Has (map skip_meaning es) x → Has (map skip_meaning (take k es)) x
in_front s [] k point x at there = absurd there
in_front s (e ∷ es) zero point x at (inl is) =
    let past = point.1 0 e (omega arith) (omega arith) in let here = ap (λ (y : SkipMeaning). y.stream) is in absurd (grind (arith, past, here, at, nat_tests))
in_front s (e ∷ es) zero point x at (inr there) =
    absurd (in_front s es zero (λ i d low high. absurd (omega (arith, high)), λ i d low high. point.1 (suc i) d (omega arith) (omega (arith, high))) x at there)
in_front s (e ∷ es) (suc k) point x at (inl is) = inl is
in_front s (e ∷ es) (suc k) point x at (inr there) =
    inr (in_front s es k (λ i d low high. point.0 (suc i) d (omega arith) (omega (arith, high)), λ i d low high. point.1 (suc i) d (omega (arith, low)) (omega (arith, high))) x at there)

behind : (s : ℕ) (es : List Skip) (k : ℕ) → IsFront s es k → (x : SkipMeaning) → x.stream ≡ s → Has (map skip_meaning es) x → Has (map skip_meaning (drop k es)) x
behind s es zero point x at there = there
behind s [] (suc k) point x at there = absurd there
behind s (e ∷ es) (suc k) point x at (inl is) =
    let before = point.0 0 e (omega arith) (omega arith) in let here = ap (λ (y : SkipMeaning). y.stream) is in absurd (grind (arith, before, here, at, nat_tests))
behind s (e ∷ es) (suc k) point x at (inr there) =
    behind s es k (λ i d low high. point.0 (suc i) d (omega arith) (omega (arith, high)), λ i d low high. point.1 (suc i) d (omega (arith, low)) (omega (arith, high))) x at there

pub between_points : (s : ℕ) (es : List Skip) (from count : ℕ) → IsFront s es from → IsBack s (drop from es) count → AreEntriesOf s (map skip_meaning es) (map skip_meaning (take count (drop from es)))
between_points s es from count front back x at = (
  λ there. in_front s (drop from es) count back x at (behind s es from front x at there),
  λ there. dropped_has es from x (taken_has (drop from es) count x there),
)

-- what a stream's own entries do there is what all do
pub passes_own : {F : Type 0} (f : Format) (b : Restart) (s jump : ℕ) (all own : List SkipMeaning) (os us : List Piece) (old new : Option (Inbound F)) (held left : ℕ) → AreEntriesOf s all own →
    PassesOn f b s jump own os us old new held left → PassesOn f b s jump all os us old new held left
passes_own f b s jump all own os us old new held left entries p = record {
  messages = p.messages;
  next = p.next;
  due = subst (λ (n : ℕ). IsDueFrom f os s (known_of old).next n p.messages p.next) (own_lowest f (ordered_lane s) b.ordered (known_of old).next (known_of old).next all own entries) p.due;
  ordered = p.ordered;
  unordered = subst (λ (n : ℕ). Keeps f new true (unordered_lane s) (stay f jump n us)) skip p.unordered;
  stream = p.stream ∙ (λ i. record (known_of old) { next = p.next; skip = skip i; waiting = (known_of old).waiting ++ p.messages });
  bytes = p.bytes
      ∙ (λ i. sized (sized (held - sized (size_of_pieces os + size_of_pieces us) + sized (size_of_pieces (from_number p.next os) + size_of_pieces (stay f jump (skip i) us))) + sized (size_of_messages p.messages)));
}
  where
    skip : skip_after f b s (known_of old) own ≡ skip_after f b s (known_of old) all
    skip = own_lowest f (unordered_lane s) b.unordered (near_of (known_of old) Unordered) (known_of old).skip all own entries

-- and their numbers are counts where those of all are
pub own_counts : (f : Format) (b c : Restart) (s t : ℕ) (a : StreamKept) (all own : List SkipMeaning) → AreEntriesOf s all own → t ≡ s → c ≡ b → AreCounts f b s a all → AreCounts f c t a own
own_counts f b c s t a all own entries same is counts = subst (λ (q : ℕ). AreCounts f c q a own) (sym same) (subst (λ (d : Restart). AreCounts f d s a own) (sym is) (record {
  ordered = let less = most_within f (ordered_lane s) b.ordered a.next own all (λ x at there. (entries x at).1 there) in let most = counts.ordered in omega (arith, less, most);
  unordered = let less = most_within f (unordered_lane s) b.unordered (near_of a Unordered) own all (λ x at there. (entries x at).1 there) in let most = counts.unordered in omega (arith, less, most);
}))

-- ---- entries whose numbers are counts

-- what one skips of a lane
skipped_counts : {F : Type 0} (f : Format) (b : ℕ → Restart) (streams : List (Stream F)) (l : Lane) (q : ℕ) (z : Stream F) (x : SkipMeaning) → slice_get streams q ≡ Some z → l.stream ≡ q →
    CountsOn f b streams x → skipped_by f l (base_of (b q) l.kind) (near_of (stream_of z) l.kind) x < COUNTS
skipped_counts {F} f b streams l q z x got on counts = go (cases_Bool (same_lane l (lane_of x.stream x.unordered)))
  where
    under : (o : Option ℕ) → IsCount o → one_past o < COUNTS
    under None small = omega arith
    under (Some n) small = small n refl

    go : (same_lane l (lane_of x.stream x.unordered) ≡ true) ⊎ (same_lane l (lane_of x.stream x.unordered) ≡ false) → skipped_by f l (base_of (b q) l.kind) (near_of (stream_of z) l.kind) x < COUNTS
    go (inr other) = rw other (omega arith)
    go (inl same) =
        let lane : l ≡ lane_of x.stream x.unordered = lanes_same l (lane_of x.stream x.unordered) same in
        let at : x.stream ≡ q = sym (ap (λ (k : Lane). k.stream) lane) ∙ on in
        let kind : lane_kind x.unordered ≡ l.kind = sym (ap (λ (k : Lane). k.kind) lane) in
        let own = counts z (ap (slice_get streams) at ∙ got) in
        let small : IsCount (number_read f l.kind (base_of (b q) l.kind) x.number (near_of (stream_of z) l.kind)) =
        subst (λ (o : Option ℕ). IsCount o) (λ i. number_read f (kind i) (base_of (b (at i)) (kind i)) x.number (near_of (stream_of z) (kind i))) own in
        rw same (under (number_read f l.kind (base_of (b q) l.kind) x.number (near_of (stream_of z) l.kind)) small)

most_counts : {F : Type 0} (f : Format) (b : ℕ → Restart) (streams : List (Stream F)) (l : Lane) (q : ℕ) (z : Stream F) (xs : List SkipMeaning) → slice_get streams q ≡ Some z → l.stream ≡ q →
    CountAllOn f b streams xs → most_skipped f l (base_of (b q) l.kind) (near_of (stream_of z) l.kind) xs < COUNTS
most_counts f b streams l q z [] got on all = omega arith
most_counts f b streams l q z (x ∷ xs) got on all =
    let here = skipped_counts f b streams l q z x got on all.0 in
    let more = most_counts f b streams l q z xs got on all.1 in
    omega (arith, here, more)

-- of a stream's lanes
pub all_counts : {F : Type 0} (f : Format) (b : ℕ → Restart) (streams : List (Stream F)) (q : ℕ) (z : Stream F) (xs : List SkipMeaning) → slice_get streams q ≡ Some z → CountAllOn f b streams xs →
    AreCounts f (b q) q (stream_of z) xs
all_counts f b streams q z xs got all = record { ordered = most_counts f b streams (ordered_lane q) q z xs got refl all; unordered = most_counts f b streams (unordered_lane q) q z xs got refl all }

-- one more
pub count_more : {F : Type 0} (f : Format) (b : ℕ → Restart) (streams : List (Stream F)) (es : List Skip) (i : ℕ) (d : Skip) → i < length es → CountAllOn f b streams (map skip_meaning (take i es)) →
    CountsOn f b streams (skip_meaning (get_or es i d)) → CountAllOn f b streams (map skip_meaning (take (i + 1) es))
count_more {F} f b streams es i d low all one = rw add-one (go es i low all one)
  where
    go : (ys : List Skip) (j : ℕ) → j < length ys → CountAllOn f b streams (map skip_meaning (take j ys)) → CountsOn f b streams (skip_meaning (get_or ys j d)) → CountAllOn f b streams (map skip_meaning (take (suc j) ys))
    go [] j under before last = absurd (omega (arith, under))
    go (y ∷ ys) zero under before last = (last, tt)
    go (y ∷ ys) (suc j) under before last = (before.0, go ys j (omega (arith, under)) before.1 last)

-- in another order
pub count_moved : {F : Type 0} (f : Format) (b : ℕ → Restart) (streams : List (Stream F)) (xs ys : List SkipMeaning) → IsPermutation xs ys → CountAllOn f b streams ys → CountAllOn f b streams xs
count_moved {F} f b streams xs ys same all = make xs (λ x there. found ys x all (has_at ys x (Contains-permutation xs ys x same (at_has xs x there))))
  where
    found : (zs : List SkipMeaning) (x : SkipMeaning) → CountAllOn f b streams zs → Has zs x → CountsOn f b streams x
    found [] x each there = absurd there
    found (z ∷ zs) x each (inl is) = subst (λ (y : SkipMeaning). CountsOn f b streams y) is each.0
    found (z ∷ zs) x each (inr there) = found zs x each.1 there

    make : (zs : List SkipMeaning) → ((x : SkipMeaning) → Has zs x → CountsOn f b streams x) → CountAllOn f b streams zs
    make [] each = tt
    make (z ∷ zs) each = (each z (inl refl), make zs (λ x there. each x (inr there)))
