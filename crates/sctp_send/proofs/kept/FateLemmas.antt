-- Fates in blocks: how many they are, each of them, and a block more.
use Rattle.std.proofs.Common.{◌≡◌, ℕ, ◌+◌, ◌*◌, ◌/◌, ◌%◌, ◌<◌, ◌≤◌, List, [], ◌∷◌, ◌++◌, length, get_or, take, drop, refl, sym, ap, ◌∙◌, arith, length-append, length-drop, append-nil, take_all}
use Rattle.std.specs.Prelude.{replicate}
use Rattle.std.proofs.lemmas.List.{append_assoc, length-take, length-take-le, get_or-replicate, get_or-take, get_or-drop, take-append-le, drop-append-le, take-append-drop, drop_at, length_push, flat_map_more}
use Rattle.std.proofs.lemmas.List.Concat.{get_or-flat_map}
use Rattle.std.proofs.lemmas.List.Elements.{All-head, All-tail, All-take, All-push}
use Rattle.sctp_send.specs.inner.FateBlocks.{fates_in, fates_of, AreWithin, AreFates, IsBlock}
use Rattle.sctp_send.specs.declared.kept.message.Fate.{Fate}
use Rattle.sctp_send.specs.declared.kept.blocks.Block.{Block}
use Rattle.sctp_send.specs.declared.kept.blocks.Block.TheVariants.{Alike, Each}

-- ---- how many

long_of : (m : List Fate) (bs : List Block) → AreWithin m bs → length (fates_of m bs) ≡ 4096 * length bs
long_of m [] within = refl
long_of m (b ∷ bs) within =
    let one = All-head (λ x. length (fates_in m x) ≡ 4096) b bs within in
    let rest = long_of m bs (All-tail (λ x. length (fates_in m x) ≡ 4096) b bs within) in
    let all = length-append (fates_in m b) (fates_of m bs) in
    omega (arith, one, rest, all)

pub long_ended : (ended : ℕ) (bs : List Block) (m r : List Fate) → AreFates ended bs m r → length (fates_of m bs) ≡ ended
long_ended ended bs m r are = let olds = long_of m bs are.within in let many = are.many in omega (arith, olds, many)

pub long_all : (ended : ℕ) (bs : List Block) (m r : List Fate) → AreFates ended bs m r → length (fates_of m bs ++ r) ≡ ended + length r
long_all ended bs m r are = let olds = long_ended ended bs m r are in let all = length-append (fates_of m bs) r in omega (arith, olds, all)

-- ---- each of them

read_of : (m : List Fate) (bs : List Block) (at : ℕ) (b : Block) (d : Fate) → AreWithin m bs → at < 4096 * length bs → get_or (fates_of m bs) at d ≡ get_or (fates_in m (get_or bs (at / 4096) b)) (at % 4096) d
read_of m bs at b d within lt =
    let low : at / 4096 < length bs = omega (arith, lt) in
    let olds = long_of m (take (at / 4096) bs) (All-take (λ x. length (fates_in m x) ≡ 4096) (at / 4096) bs within) in
    let many = length-take-le (at / 4096) bs (omega (arith, low)) in
    let before : length (fates_of m (take (at / 4096) bs)) + at % 4096 ≡ at = omega (arith, olds, many) in
    let here = within (at / 4096) b low in
    ap (λ (n : ℕ). get_or (fates_of m bs) n d) (sym before) ∙ get_or-flat_map (fates_in m) bs (at / 4096) (at % 4096) b d low (omega (arith, here))

pub read_alike : (m : List Fate) (bs : List Block) (at : ℕ) (b : Block) (x : Fate) → AreWithin m bs → at < 4096 * length bs → get_or bs (at / 4096) b ≡ Alike x → x ≡ get_or (fates_of m bs) at x
read_alike m bs at b x within lt is = rw (read_of m bs at b x within lt, is) (sym (get_or-replicate 4096 (at % 4096) x x (omega arith)))

fits : (m : List Fate) (k : ℕ) → length (take 4096 (drop k m)) ≡ 4096 → k + 4096 ≤ length m
fits m k is = let one = length-take 4096 (drop k m) in let rest = length-drop k m in omega (arith, one, rest, is)

pub each_within : (m : List Fate) (bs : List Block) (at : ℕ) (b : Block) (k : ℕ) → AreWithin m bs → at < 4096 * length bs → get_or bs (at / 4096) b ≡ Each k → k + at % 4096 < length m
each_within m bs at b k within lt is = let there = fits m k (rw is at (within (at / 4096) b (omega (arith, lt)))) in omega (arith, there)

pub read_each : (m : List Fate) (bs : List Block) (at : ℕ) (b : Block) (k : ℕ) (x : Fate) → AreWithin m bs → at < 4096 * length bs → get_or bs (at / 4096) b ≡ Each k → x ≡ get_or m (k + at % 4096) x → x ≡ get_or (fates_of m bs) at x
read_each m bs at b k x within lt is there = rw (read_of m bs at b x within lt, is) (there ∙ sym (get_or-take 4096 (drop k m) (at % 4096) x (omega arith) ∙ get_or-drop k m (at % 4096) x))

-- ---- a block more

in_more : (m xs : List Fate) (b : Block) → length (fates_in m b) ≡ 4096 → fates_in (m ++ xs) b ≡ fates_in m b
in_more m xs (Alike x) is = refl
in_more m xs (Each k) is =
    let there = fits m k is in
    let long = length-drop k m in
    ap (take 4096) (drop-append-le k m xs (omega (arith, there))) ∙ take-append-le 4096 (drop k m) xs (omega (arith, long, there))

of_more : (m xs : List Fate) (bs : List Block) → AreWithin m bs → fates_of (m ++ xs) bs ≡ fates_of m bs
of_more m xs [] within = refl
of_more m xs (b ∷ bs) within =
    rw (in_more m xs b (All-head (λ x. length (fates_in m x) ≡ 4096) b bs within), of_more m xs bs (All-tail (λ x. length (fates_in m x) ≡ 4096) b bs within)) refl

pub are_ended : (ended : ℕ) (bs : List Block) (b : Block) (old new recent : List Fate) → AreFates ended bs old recent → 4096 ≤ length recent → IsBlock b (take 4096 recent) old new → AreFates (ended + 4096) (bs ++ b ∷ []) new (drop 4096 recent)
are_ended ended bs b old new recent are many is =
    let one = length_push bs b in
    let fewer = length-drop 4096 recent in
    record {
      many = omega (arith, one, are.many);
      within = All-push (λ x. length (fates_in new x) ≡ 4096) bs b
          (λ k d lt. rw is.grown (ap length (in_more old is.more (get_or bs k d) (are.within k d lt)) ∙ are.within k d lt))
          (ap length is.same ∙ length-take-le 4096 recent many);
      few = omega (arith, fewer, are.few, many);
    }

pub ended_same : (ended : ℕ) (bs : List Block) (b : Block) (old new recent : List Fate) → AreFates ended bs old recent → IsBlock b (take 4096 recent) old new → fates_of new (bs ++ b ∷ []) ++ drop 4096 recent ≡ fates_of old bs ++ recent
ended_same ended bs b old new recent are is =
    let same : fates_of new bs ≡ fates_of old bs = rw is.grown (of_more old is.more bs are.within) in
    rw (← flat_map_more (fates_in new) [] bs b, same, is.same, append_assoc, take-append-drop) refl

-- ---- a block of them

pub alike_block : (fates old : List Fate) (x : Fate) → length fates ≡ 4096 → fates ≡ replicate (length fates) x → IsBlock (Alike x) fates old old
alike_block fates old x long alike = record { more = []; grown = sym (append-nil old); same = ap (λ (n : ℕ). replicate n x) (sym long) ∙ sym alike }

pub each_block : (fates old new : List Fate) (k : ℕ) → length fates ≡ 4096 → k ≡ length old → new ≡ old ++ fates → IsBlock (Each k) fates old new
each_block fates old new k long start grown = record {
  more = fates;
  grown = grown;
  same = rw (grown, drop_at old fates k (sym start)) (take_all 4096 fates (omega (arith, long)));
}
