-- Ranks of a lane's chunks: what follows what, and which place is whose.
use Rattle.std.proofs.Common.{◌≡◌, ℕ, suc, ◌+◌, ◌*◌, ◌^◌, ◌<◌, Bool, true, false, cond, ◌==◌, Option, Some, None, refl, sym, ◌∙◌, ap, arith}
use Rattle.std.specs.Prelude.{◌||◌, is_some}
use Rattle.std.proofs.lemmas.Bool.Decides.{nat_tests}
use Rattle.sctp_model.specs.messages.Format.{Format, Plain, Interleaved, Lane}
use Rattle.sctp_model.specs.messages.Framing.{place_in, begins_in, payload_in}
use Rattle.sctp_model.specs.messages.Pieces.{Piece, payload_of}
use Rattle.sctp_model.specs.messages.Whole.{IsFirst, Follows}
use Rattle.sctp_model.specs.receiver.Laws.{IsOnePlace}
use Rattle.sctp_chains.specs.Cells.{key_of, rank_of, head_of, IsOf}
use Rattle.sctp_chains.specs.declared.chain.Head.{Head}

-- ---- places

pub place_small : (f : Format) (l : Lane) (x : Piece) → IsOf f l x → place_in f x.index x.begin x.word < 2 ^ 64
place_small Plain l x h = let i = h.index in omega (arith, i)
place_small Interleaved l x h = small x.begin x.word h.word
  where
    small : (b : Bool) (w : ℕ) → w < 2 ^ 64 → cond b 0 w < 2 ^ 64
    small true w less = omega arith
    small false w less = less

-- of two messages of a lane with one key the numbers are one
pub one_number : (b : Bool) (m n : Option ℕ) → is_some m ≡ b → is_some n ≡ b → key_of m ≡ key_of n → m ≡ n
one_number b None None p q same = refl
one_number b None (Some n) p q same = absurd (let e : false ≡ true = p ∙ sym q in cc)
one_number b (Some m) None p q same = absurd (let e : true ≡ false = p ∙ sym q in cc)
one_number b (Some m) (Some n) p q same = ap (λ (i : ℕ). Some i) same

pub rank_parts : (a b p q : ℕ) → p < 2 ^ 64 → q < 2 ^ 64 → a * 2 ^ 64 + p ≡ b * 2 ^ 64 + q → (a ≡ b) × (p ≡ q)
rank_parts a b p q small less same = (omega (arith, small, less, same), omega (arith, small, less, same))

-- what one rank says of two chunks of a lane
pub same_rank : (f : Format) (l : Lane) (x y : Piece) → IsOf f l x → IsOf f l y → rank_of f x ≡ rank_of f y →
    (x.number ≡ y.number) × (place_in f x.index x.begin x.word ≡ place_in f y.index y.begin y.word)
same_rank f l x y h k same =
    let parts = rank_parts (key_of x.number) (key_of y.number) (place_in f x.index x.begin x.word) (place_in f y.index y.begin y.word) (place_small f l x h) (place_small f l y k) same in
    (one_number _ x.number y.number h.numbered k.numbered parts.0, parts.1)

pub rank_place : (f : Format) (l : Lane) (x y : Piece) → IsOf f l x → IsOf f l y → rank_of f x ≡ rank_of f y → IsOnePlace f x y
rank_place Plain l x y h k same = (same_rank Plain l x y h k same).1
rank_place Interleaved l x y h k same = let s = same_rank Interleaved l x y h k same in (h.lane ∙ sym k.lane, s.0, s.1)

-- ---- what follows what

inside : (b : Bool) (w n : ℕ) → cond b 0 w ≡ suc n → (b || (w == 0)) ≡ false
inside true w n e = absurd (omega (arith, e))
inside false w n e = grind (arith, e, nat_tests)

not_zero : (b : Bool) (w : ℕ) → (b || (w == 0)) ≡ false → cond b 0 w ≡ 0 → ⊥
not_zero true w e is = absurd (cc)
not_zero false w e is = absurd (grind (arith, e, is, nat_tests))

pub follows_rank : (f : Format) (x y : Piece) → Follows f x y → (rank_of f y ≡ suc (rank_of f x)) × (begins_in f y.begin y.word ≡ false)
follows_rank Plain x y (lane, number, index, begin) = (let key = ap key_of number in omega (arith, key, index), begin)
follows_rank Interleaved x y (lane, number, fragment) = (let key = ap key_of number in omega (arith, key, fragment), inside y.begin y.word (cond x.begin 0 x.word) fragment)

next_key : (a b p q : ℕ) → p < 2 ^ 64 → q < 2 ^ 64 → b * 2 ^ 64 + q ≡ suc (a * 2 ^ 64 + p) → (q ≡ 0 → ⊥) → (a ≡ b) × (q ≡ suc p)
next_key a b p q small less next some = (omega (arith, small, less, next, some), omega (arith, small, less, next, some))

next_key_low : (a b p q : ℕ) → suc p < 2 ^ 64 → q < 2 ^ 64 → b * 2 ^ 64 + q ≡ suc (a * 2 ^ 64 + p) → (a ≡ b) × (q ≡ suc p)
next_key_low a b p q small less next = (omega (arith, small, less, next), omega (arith, small, less, next))

pub rank_follows : (f : Format) (l : Lane) (x y : Piece) → IsOf f l x → IsOf f l y → rank_of f y ≡ suc (rank_of f x) → begins_in f y.begin y.word ≡ false → Follows f x y
rank_follows Plain l x y h k next begin =
    let low = h.index in let high = k.index in
    let s = next_key_low (key_of x.number) (key_of y.number) x.index y.index low (omega (arith, high)) next in
    (k.lane ∙ sym h.lane, sym (one_number _ x.number y.number h.numbered k.numbered s.0), s.1, begin)
rank_follows Interleaved l x y h k next begin =
    let s = next_key (key_of x.number) (key_of y.number) (cond x.begin 0 x.word) (cond y.begin 0 y.word) (place_small Interleaved l x h) (place_small Interleaved l y k) next
    (not_zero y.begin y.word begin) in
    (k.lane ∙ sym h.lane, sym (one_number _ x.number y.number h.numbered k.numbered s.0), s.1)

-- ---- where a message begins

first_zero : (b : Bool) (w : ℕ) → cond b 0 w ≡ 0 → (b || (w == 0)) ≡ true
first_zero true w e = refl
first_zero false w e = grind (arith, e, nat_tests)

zero_first : (b : Bool) (w : ℕ) → (b || (w == 0)) ≡ true → cond b 0 w ≡ 0
zero_first true w e = refl
zero_first false w e = grind (arith, e, nat_tests)

pub first_begins : (f : Format) (x : Piece) → IsFirst f x → begins_in f x.begin x.word ≡ true
first_begins Plain x h = h
first_begins Interleaved x h = first_zero x.begin x.word h

pub begins_first : (f : Format) (x : Piece) → begins_in f x.begin x.word ≡ true → IsFirst f x
begins_first Plain x h = h
begins_first Interleaved x h = zero_first x.begin x.word h

pub payload_same : (f : Format) (x : Piece) → payload_in f x.begin x.word ≡ payload_of f x
payload_same Plain x = refl
payload_same Interleaved x = refl

-- a chunk has a head exactly where a message begins with it
head_plain : (b : Bool) (g : Head) → (cond b (Some g) None ≡ None → b ≡ false) × ((k : Head) → cond b (Some g) None ≡ Some k → (b ≡ true) × (g ≡ k))
head_plain true g = (λ e. absurd (cc), λ k e. (refl, cc))
head_plain false g = (λ e. refl, λ k e. absurd (cc))

pub no_head : (f : Format) (x : Piece) → head_of f x ≡ None → begins_in f x.begin x.word ≡ false
no_head f x e = (head_plain (begins_in f x.begin x.word) (record { index = x.index; payload_id = payload_in f x.begin x.word })).0 e

pub has_head : (f : Format) (x : Piece) (g : Head) → head_of f x ≡ Some g → (begins_in f x.begin x.word ≡ true) × (x.index ≡ g.index) × (payload_of f x ≡ g.payload_id)
has_head f x g e =
    let m = (head_plain (begins_in f x.begin x.word) (record { index = x.index; payload_id = payload_in f x.begin x.word })).1 g e in
    (m.0, ap (λ (k : Head). k.index) m.1, sym (payload_same f x) ∙ ap (λ (k : Head). k.payload_id) m.1)

pub begun_head : (f : Format) (x : Piece) → begins_in f x.begin x.word ≡ true → head_of f x ≡ Some (record { index = x.index; payload_id = payload_in f x.begin x.word })
begun_head f x e = rw e refl

pub inner_head : (f : Format) (x : Piece) → begins_in f x.begin x.word ≡ false → head_of f x ≡ None
inner_head f x e = rw e refl
