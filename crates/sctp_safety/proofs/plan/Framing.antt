-- Which chunks of a plan are a whole message: just those that are, in order, all the fragments of one message.
use Rattle.std.proofs.Common.{if◌then◌else◌, ◌≡◌, ℕ, zero, suc, ◌+◌, ◌-◌, ◌<◌, ◌≤◌, ◌⊎◌, true, false, ◌==◌, List, [], ◌∷◌, ◌++◌, length, drop, slice_index_or, Some, inl, inr, refl, sym, subst, ap, arith, eqb-true, None}
use Rattle.std.proofs.lemmas.Bool.{cases_eq, eq-eqb, ne_eqb}
use Rattle.std.proofs.lemmas.Bool.Decides.{nat_tests}
use Rattle.std.proofs.lemmas.List.{drop_all}
use Rattle.sctp_model.specs.numbers.Lists.{Has, IsWithin, joined}
use Rattle.sctp_model.specs.messages.Format.{Format, Plain, Interleaved, Kind, Ordered, Unordered, Lane, is_numbered}
use Rattle.sctp_model.specs.messages.Plan.{Message, Part, Plan, entry_at, message_at}
use Rattle.sctp_model.specs.messages.Pieces.{Piece, number_of, piece_of, fragment_of, IsFragment}
use Rattle.sctp_model.specs.messages.Whole.{IsFirst, Follows, IsRow, text_of}
use Rattle.sctp_safety.proofs.lists.Basics.{item_at-above}
use Rattle.sctp_safety.proofs.moves.Facts.{IsOrderedPlan}

-- What framing rests on: a fragment is one of its message, it has one index, and under DATA indexes are consecutive.
pub record IsFramed (f : Format) (p : Plan) : Type 0 where
  pub within : (i : ℕ) (l : Lane) (n k : ℕ) → entry_at p i ≡ Some (Part l n k) →
      (m : Message) × (message_at p l n ≡ Some m) × (k < length m.fragments)
  pub once : (i j : ℕ) (l : Lane) (n k : ℕ) → entry_at p i ≡ Some (Part l n k) → entry_at p j ≡ Some (Part l n k) → i ≡ j
  pub consecutive : f ≡ Plain → (j : ℕ) (l : Lane) (n k : ℕ) → entry_at p j ≡ Some (Part l n (suc k)) → entry_at p (j - 1) ≡ Some (Part l n k)

pub framed_by_arranged : (f : Format) (p : Plan) → IsOrderedPlan f p → IsFramed f p
framed_by_arranged f p a = record { within = a.within; once = a.once; consecutive = a.consecutive }

-- the chunk is fragment k of this message, at its index
pub record IsPart (f : Format) (p : Plan) (l : Lane) (n : ℕ) (m : Message) (k : ℕ) (x : Piece) : Type 0 where
  pub within : k < length m.fragments
  pub here : entry_at p x.index ≡ Some (Part l n k)
  pub same : x ≡ piece_of f x.index l n k m

-- the chunks are the message's fragments k, k + 1, .., to the last
abbrev pub AreFrom : Format → Plan → Lane → ℕ → Message → ℕ → List Piece → Type 0
AreFrom f p l n m k [] = k ≡ length m.fragments
AreFrom f p l n m k (x ∷ xs) = IsPart f p l n m k x × AreFrom f p l n m (suc k) xs

pub part_by_fragment : (f : Format) (p : Plan) (x : Piece) (h : IsFragment f p x) → IsPart f p x.lane h.number h.message h.fragment x
part_by_fragment f p x h = record { within = h.within; here = h.here; same = h.same }

-- A chunk of the plan at a fragment's index is that fragment.
pub part_here : (f : Format) (p : Plan) (l : Lane) (n : ℕ) (m : Message) (k : ℕ) (x : Piece) →
    message_at p l n ≡ Some m → IsFragment f p x → entry_at p x.index ≡ Some (Part l n k) → IsPart f p l n m k x
part_here f p l n m k x named h here =
    let a = h.here in
    let e : Part x.lane h.number h.fragment ≡ Part l n k = cc in
    let el : x.lane ≡ l = cc in
    let en : h.number ≡ n = cc in
    let ek : h.fragment ≡ k = cc in
    let b = h.named in
    let c : message_at p x.lane h.number ≡ message_at p l n = cc in
    let em : h.message ≡ m = cc in
    let s = h.same in
    let w = h.within in
    let g : x ≡ piece_of f x.index l n k m = cc in
    record { within = subst (λ (q : Message). k < length q.fragments) em (subst (λ (j : ℕ). j < length h.message.fragments) ek w); here = here; same = g }

module _ (f : Format) (p : Plan) (l : Lane) (n : ℕ) (m : Message) (k : ℕ) (x : Piece) (h : IsPart f p l n m k x) where
  pub part_lane : x.lane ≡ l
  part_lane = ap (λ (y : Piece). y.lane) h.same

  pub part_number : x.number ≡ number_of f l n
  part_number = ap (λ (y : Piece). y.number) h.same

  pub part_begin : x.begin ≡ (k == 0)
  part_begin = ap (λ (y : Piece). y.begin) h.same

  pub part_end : x.end ≡ (suc k == length m.fragments)
  part_end = ap (λ (y : Piece). y.end) h.same

  pub part_bytes : x.bytes ≡ slice_index_or m.fragments k []
  part_bytes = ap (λ (y : Piece). y.bytes) h.same

-- An I-DATA chunk says its fragment number.
says : (k payload : ℕ) → (if k == 0 then 0 else (if k == 0 then payload else k)) ≡ k
says k payload = grind (arith, nat_tests)

pub part_fragment : (p : Plan) (l : Lane) (n : ℕ) (m : Message) (k : ℕ) (x : Piece) → IsPart Interleaved p l n m k x → fragment_of x ≡ k
part_fragment p l n m k x h =
    let e : fragment_of x ≡ fragment_of (piece_of Interleaved x.index l n k m) = ap fragment_of h.same in
    let s : fragment_of (piece_of Interleaved x.index l n k m) ≡ k = says k m.payload in
    cc

-- Under I-DATA the number on the chunk is the message's.
pub part_count : (p : Plan) (l : Lane) (n : ℕ) (m : Message) (k : ℕ) (x : Piece) → IsPart Interleaved p l n m k x → x.number ≡ Some n
part_count p l n m k x h = let e = part_number Interleaved p l n m k x h in let c : number_of Interleaved l n ≡ Some n = counts l.kind n in cc
  where
    counts : (d : Kind) (n : ℕ) → (if is_numbered Interleaved d then Some n else None) ≡ Some n
    counts Ordered n = refl
    counts Unordered n = refl

-- The first of four laws for each format: a message begins with its fragment 0 alone.
pub first_is : (f : Format) (p : Plan) (l : Lane) (n : ℕ) (m : Message) (k : ℕ) (x : Piece) → IsPart f p l n m k x → IsFirst f x → k ≡ 0
first_is Plain p l n m k x h first = let b = part_begin Plain p l n m k x h in let e : (k == 0) ≡ true = cc in eqb-true k 0 e
first_is Interleaved p l n m k x h first = let e = part_fragment p l n m k x h in let z : fragment_of x ≡ 0 = first in cc

pub is_first : (f : Format) (p : Plan) (l : Lane) (n : ℕ) (m : Message) (x : Piece) → IsPart f p l n m 0 x → IsFirst f x
is_first Plain p l n m x h = part_begin Plain p l n m 0 x h
is_first Interleaved p l n m x h = part_fragment p l n m 0 x h

-- what the chunk after the k-th fragment of a message is
abbrev pub IsNext : Lane → ℕ → ℕ → Lane → ℕ → ℕ → Type 0
IsNext l n k o q j = (o ≡ l) × (q ≡ n) × (j ≡ suc k)

after : (l o : Lane) (n q k j : ℕ) → Some (Part o q j) ≡ Some (Part l n k) → IsNext l n k o q (suc j)
after l o n q k j e = (cc, cc, let x : j ≡ k = cc in ap suc x)

-- What follows a fragment is the next of the same message.
pub next_is : (f : Format) (p : Plan) → IsFramed f p → (l : Lane) (n : ℕ) (m : Message) (k : ℕ) (x : Piece) →
    (o : Lane) (q : ℕ) (u : Message) (j : ℕ) (y : Piece) →
    IsPart f p l n m k x → IsPart f p o q u j y → Follows f x y → IsNext l n k o q j
next_is Plain p framed l n m k x o q u j y h g (lane, number, index, begin) = go j g
  where
    go : (j : ℕ) → IsPart Plain p o q u j y → IsNext l n k o q j
    go zero g = absurd (let b = part_begin Plain p o q u 0 y g in let c : y.begin ≡ true = b in cc)
    go (suc i) g =
        let c : entry_at p (y.index - 1) ≡ Some (Part o q i) = framed.consecutive refl y.index o q i g.here in
        let e : y.index - 1 ≡ x.index = omega arith in
        let d : entry_at p x.index ≡ Some (Part o q i) = subst (λ (z : ℕ). entry_at p z ≡ Some (Part o q i)) e c in
        let t = h.here in
        after l o n q k i cc
next_is Interleaved p framed l n m k x o q u j y h g (lane, number, follows) =
    let a = part_lane Interleaved p l n m k x h in
    let b = part_lane Interleaved p o q u j y g in
    let c = part_count p l n m k x h in
    let d = part_count p o q u j y g in
    let s = part_fragment p l n m k x h in
    let t = part_fragment p o q u j y g in
    (cc, cc, cc)

pub is_next : (f : Format) (p : Plan) → IsFramed f p → (l : Lane) (n : ℕ) (m : Message) (k : ℕ) (x y : Piece) →
    IsPart f p l n m k x → IsPart f p l n m (suc k) y → Follows f x y
is_next Plain p framed l n m k x y h g =
    let a = part_lane Plain p l n m k x h in
    let b = part_lane Plain p l n m (suc k) y g in
    let c = part_number Plain p l n m k x h in
    let d = part_number Plain p l n m (suc k) y g in
    let s = part_begin Plain p l n m (suc k) y g in
    let t : (suc k == 0) ≡ false = ne_eqb (suc k) 0 (λ z. absurd (omega arith)) in
    let e : y.index - 1 ≡ x.index = framed.once (y.index - 1) x.index l n k (framed.consecutive refl y.index l n k g.here) h.here in
    let z : 0 < y.index = item_at-above p.entries y.index (Part l n (suc k)) g.here in
    (cc, cc, omega arith, cc)
is_next Interleaved p framed l n m k x y h g =
    let a = part_lane Interleaved p l n m k x h in
    let b = part_lane Interleaved p l n m (suc k) y g in
    let c = part_number Interleaved p l n m k x h in
    let d = part_number Interleaved p l n m (suc k) y g in
    let s = part_fragment p l n m k x h in
    let t = part_fragment p l n m (suc k) y g in
    (cc, cc, cc)

-- A row that begins with a fragment is that fragment and all after it.
pub row_is : (f : Format) (p : Plan) → IsFramed f p → (l : Lane) (n : ℕ) (m : Message) → message_at p l n ≡ Some m →
    (xs : List Piece) (x : Piece) (k : ℕ) → IsPart f p l n m k x → ((y : Piece) → Has xs y → IsFragment f p y) →
    IsRow f x xs → AreFrom f p l n m k (x ∷ xs)
row_is f p framed l n m named [] x k h all row =
    let e = part_end f p l n m k x h in
    let last : (suc k == length m.fragments) ≡ true = cc row in
    (h, eqb-true (suc k) (length m.fragments) last)
row_is f p framed l n m named (y ∷ ys) x k h all (more, follows, row) =
    let g = all y (inl refl) in
    let next = next_is f p framed l n m k x y.lane g.number g.message g.fragment y h (part_by_fragment f p y g) follows in
    let here : entry_at p y.index ≡ Some (Part l n (suc k)) = let z = g.here in let a = next.0 in let b = next.1 in let c = next.2 in cc in
    let part : IsPart f p l n m (suc k) y = part_here f p l n m (suc k) y named g here in
    (h, row_is f p framed l n m named ys y (suc k) part (λ z has. all z (inr has)) row)

-- A fragment and all after it are a row.
pub is_row : (f : Format) (p : Plan) → IsFramed f p → (l : Lane) (n : ℕ) (m : Message) →
    (xs : List Piece) (x : Piece) (k : ℕ) → AreFrom f p l n m k (x ∷ xs) → IsRow f x xs
is_row f p framed l n m [] x k (h, last) =
    let e = part_end f p l n m k x h in
    let b : (suc k == length m.fragments) ≡ true = eq-eqb (suc k) (length m.fragments) last in
    cc
is_row f p framed l n m (y ∷ ys) x k (h, (g, rest)) =
    let e = part_end f p l n m k x h in
    let w : suc k < length m.fragments = g.within in
    let b : (suc k == length m.fragments) ≡ false = ne_eqb (suc k) (length m.fragments) (λ z. absurd (omega arith)) in
    (cc, is_next f p framed l n m k x y h g, is_row f p framed l n m ys y (suc k) (g, rest))

joined-drop : (xs : List (List ℕ)) (k : ℕ) → k < length xs → joined (drop k xs) ≡ slice_index_or xs k [] ++ joined (drop (suc k) xs)
joined-drop [] k l = absurd (omega arith)
joined-drop (x ∷ xs) zero l = refl
joined-drop (x ∷ xs) (suc k) l = joined-drop xs k (omega arith)

module _ (f : Format) (p : Plan) (l : Lane) (n : ℕ) (m : Message) where
  pub text_from : (xs : List Piece) (k : ℕ) → AreFrom f p l n m k xs → text_of xs ≡ joined (drop k m.fragments)
  text_from [] k last = let none : drop k m.fragments ≡ [] = drop_all k m.fragments (omega arith) in ap joined (sym none)
  text_from (x ∷ xs) k (h, rest) =
      let b = part_bytes f p l n m k x h in
      let j = joined-drop m.fragments k h.within in
      let r = text_from xs (suc k) rest in
      cc

  pub each_from : (xs : List Piece) (k : ℕ) → AreFrom f p l n m k xs → (y : Piece) → Has xs y → (j : ℕ) × IsPart f p l n m j y
  each_from [] k last y has = absurd has
  each_from (x ∷ xs) k (h, rest) y (inl e) = (k, subst (IsPart f p l n m k) e h)
  each_from (x ∷ xs) k (h, rest) y (inr has) = each_from xs (suc k) rest y has

  pub all_from : (xs : List Piece) (k : ℕ) → AreFrom f p l n m k xs → (j : ℕ) → k ≤ j → j < length m.fragments →
      (y : Piece) × Has xs y × IsPart f p l n m j y
  all_from [] k last j a b = absurd (omega arith)
  all_from (x ∷ xs) k (h, rest) j a b = go (cases_eq k j) (λ c. all_from xs (suc k) rest j c b)
    where
      go : (k ≡ j) ⊎ (k ≡ j → ⊥) → (suc k ≤ j → (y : Piece) × Has xs y × IsPart f p l n m j y) →
          (y : Piece) × Has (x ∷ xs) y × IsPart f p l n m j y
      go (inl e) more = (x, inl refl, subst (λ (i : ℕ). IsPart f p l n m i x) e h)
      go (inr ne) more = let r = more (omega arith) in (r.0, inr r.1, r.2)

  -- the chunks from the k-th fragment on, if each is in a list
  pub gather : (kept : List Piece) → ((k : ℕ) → k < length m.fragments → (y : Piece) × Has kept y × IsPart f p l n m k y) →
      (d k : ℕ) → k + d ≡ length m.fragments → (xs : List Piece) × AreFrom f p l n m k xs × IsWithin xs kept
  gather kept each zero k e = ([], omega arith, λ y h. absurd h)
  gather kept each (suc d) k e =
      let x = each k (omega arith) in
      let r = gather kept each d (suc k) (omega arith) in
      (x.0 ∷ r.0, (x.2, r.1), within x.0 r.0 x.1 r.2)
    where
      within : (x : Piece) (xs : List Piece) → Has kept x → IsWithin xs kept → IsWithin (x ∷ xs) kept
      within x xs h w y (inl e) = subst (Has kept) e h
      within x xs h w y (inr k) = w y k
