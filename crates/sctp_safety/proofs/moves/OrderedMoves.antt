-- The next ordered message of a stream is delivered, or its number is passed over.
use Rattle.std.proofs.Common.{◌≡◌, ℕ, suc, ◌<◌, ◌≤◌, ◌⊎◌, not, true, false, Bool, List, ◌∷◌, Some, inl, inr, refl, sym, subst, ap, arith, le_refl}
use Rattle.std.proofs.lemmas.Bool.{cases_eq, cases_Bool, and_parts}
use Rattle.sctp_model.specs.numbers.Lists.{Has, at}
use Rattle.sctp_model.specs.messages.Format.{Format, Ordered, Lane, same_lane, ordered_lane}
use Rattle.sctp_model.specs.messages.Plan.{Part, entry_at}
use Rattle.sctp_model.specs.messages.Pieces.{Piece, is_number_below, IsNumberBelow}
use Rattle.sctp_model.specs.sender.SenderView.{SenderView}
use Rattle.sctp_model.specs.receiver.ReceiverView.{Handed, ReceiverView}
use Rattle.sctp_model.specs.receiver.Receiving.{is_below, without_below}
use Rattle.sctp_model.specs.world.Safe.{WasHanded}
use Rattle.sctp_safety.specs.Way.{Way, Hand_over, Pass_over, Drop_below_next, Step}
use Rattle.sctp_safety.proofs.moves.Facts.{IsOver, IsAllSeen, MayPass, Held, Good}
use Rattle.sctp_safety.proofs.lists.Basics.{at_cases, at_same, Has-filter, Has-filtered, filter_is, same_lane-true, same_lane-refl}
use Rattle.sctp_safety.proofs.moves.MovesBySide.{by_receiver}
use Rattle.sctp_safety.proofs.plan.OneMessage.{IsOneMessage, IsGathered, honest_whole, number_counts}
use Rattle.sctp_safety.proofs.moves.Settled.{ordered_numbered, number_is, one_number, over_unless_whole}
use Rattle.sctp_safety.proofs.moves.Handing.{after, after-Learns, after_held, same_told, more_told, more_waiting, was_new, still_handed, which_handed}
use Rattle.sctp_safety.proofs.lists.Numbers.{below_is, is_below_by, below-true, true-below}

below_or_not : (s n : ℕ) (x : Piece) → (not (is_below s n x) ≡ true) ⊎ ((x.lane ≡ ordered_lane s) × IsNumberBelow n x.number)
below_or_not s n x = go (cases_Bool (is_below s n x))
  where
    go : (is_below s n x ≡ true) ⊎ (is_below s n x ≡ false) → (not (is_below s n x) ≡ true) ⊎ ((x.lane ≡ ordered_lane s) × IsNumberBelow n x.number)
    go (inl e) =
        let p = and_parts (same_lane x.lane (ordered_lane s)) (is_number_below n x.number) e in
        inr (same_lane-true x.lane (ordered_lane s) p.0, below-true n x.number p.1)
    go (inr e) = inl (ap not e)

not_below : (s n : ℕ) (x : Piece) → not (is_below s n x) ≡ true → x.lane ≡ ordered_lane s → IsNumberBelow n x.number → ⊥
not_below s n x h e l =
    let a : same_lane x.lane (ordered_lane s) ≡ true = subst (λ (k : Lane). same_lane x.lane k ≡ true) e (same_lane-refl x.lane) in
    let b = true-below n x.number l in
    absurd (grind (arith, a, b))

-- The next number of a stream is done with, and what lies below goes.
module _ (w : Way) (s : ℕ) (g : Good w) where
  abbrev f : Format
  f = w.format

  abbrev a : SenderView
  a = w.sender

  abbrev r : ReceiverView
  r = w.receiver

  abbrev held : Held f a r
  held = g.held

  abbrev next : ℕ → ℕ
  next = at r.next s (suc (r.next s))

  abbrev kept : List Piece
  kept = without_below r.kept s (suc (r.next s))

  forth : (u : ℕ) → r.next u ≤ next u
  forth u = at_cases (λ (y : ℕ). r.next u ≤ y) r.next s (suc (r.next s)) u (λ e. let q : r.next u ≡ r.next s = ap r.next e in omega arith) (λ ne. le_refl (r.next u))

  fewer : (x : Piece) → Has kept x → Has r.kept x
  fewer x h = Has-filtered (λ (y : Piece). not (is_below s (suc (r.next s)) y)) r.kept x h

  not_of_next : (x : Piece) → Has kept x → x.lane ≡ ordered_lane s → x.number ≡ Some (r.next s) → ⊥
  not_of_next x h lane number =
      not_below s (suc (r.next s)) x (filter_is (λ (y : Piece). not (is_below s (suc (r.next s)) y)) r.kept x h) lane (is_below_by (suc (r.next s)) (r.next s) x.number number (omega arith))

  counted : (x : Piece) (n k : ℕ) → Has r.kept x → entry_at a.plan x.index ≡ Some (Part x.lane n k) → x.lane ≡ ordered_lane s → x.number ≡ Some n
  counted x n k has here lane =
      let y = held.kept x has in
      let e = one_number f a.plan x y x.lane n k here in
      let d = number_is f a.plan x y (ordered_numbered f x.lane.kind (ap (λ (l : Lane). l.kind) lane)) in
      let i = e.1 in
      cc

  -- each number below is delivered or abandoned, if the next one is
  passed : (P : ℕ → ℕ → Type 0) → ((u n : ℕ) → n < r.next u → P u n) → P s (r.next s) → (u n : ℕ) → n < next u → P u n
  passed P before now u n = at_cases (λ (b : ℕ). n < b → P u n) r.next s (suc (r.next s)) u (λ e l. at_stream u e l (cases_eq n (r.next s))) (λ ne l. before u n l)
    where
      at_stream : (u : ℕ) → u ≡ s → n < suc (r.next s) → (n ≡ r.next s) ⊎ (n ≡ r.next s → ⊥) → P u n
      at_stream u e l (inl d) = subst (λ (y : ℕ). P y n) (sym e) (subst (P s) (sym d) now)
      at_stream u e l (inr ne) = subst (λ (y : ℕ). P y n) (sym e) (before s n (omega arith))

  -- what goes is over
  gone : (waiting : ℕ → List Handed) →
      ((u n : ℕ) → n < next u → WasHanded a.plan (after r kept next waiting) (ordered_lane u) n ⊎ (a.abandoned (ordered_lane u) n ≡ true)) →
      (x : Piece) (n k : ℕ) → Has r.kept x → entry_at a.plan x.index ≡ Some (Part x.lane n k) →
      Has kept x ⊎ IsOver f a (after r kept next waiting) x.lane n
  gone waiting told x n k has here = go (below_or_not s (suc (r.next s)) x)
    where
      over : n < next s → WasHanded a.plan (after r kept next waiting) (ordered_lane s) n ⊎ (a.abandoned (ordered_lane s) n ≡ true) →
          IsOver f a (after r kept next waiting) (ordered_lane s) n
      over l (inl h) = inl h
      over l (inr h) = inr (h, inr (inr (refl, l)))

      go : (not (is_below s (suc (r.next s)) x) ≡ true) ⊎ ((x.lane ≡ ordered_lane s) × IsNumberBelow (suc (r.next s)) x.number) →
          Has kept x ⊎ IsOver f a (after r kept next waiting) x.lane n
      go (inl b) = inl (Has-filter (λ (y : Piece). not (is_below s (suc (r.next s)) y)) r.kept x b has)
      go (inr (lane, l)) =
          let c = counted x n k has here lane in
          let low = below_is (suc (r.next s)) n x.number c l in
          let d = at_same r.next s (suc (r.next s)) in
          let m : n < next s = subst (λ (b : ℕ). n < b) (sym d) (omega arith) in
          inr (subst (λ (y : Lane). IsOver f a (after r kept next waiting) y n) (sym lane) (over m (told s n m)))

  hands_over : (v : Way) (x : Piece) (xs : List Piece) → Step w (Hand_over s x xs) v → Good v
  hands_over v x xs ((whole, within, (lane, number)), e) = subst Good (sym e)
      (by_receiver w (after r kept next hs) g (after-Learns f a r kept next hs forth)
      (after_held f a r kept next hs forth held fewer (gone hs done) fresh
      (still_handed f a r kept next s x xs one stream)
      (more_told f a r kept next s x xs one stream g.arranged held within forth place done)))
    where
      one : IsOneMessage f a.plan x xs
      one = honest_whole f a.plan g.arranged x xs (λ y h. held.kept y (within y h)) whole

      stream : x.lane.stream ≡ s
      stream = ap (λ (l : Lane). l.stream) lane

      hs : ℕ → List Handed
      hs = more_waiting f a r kept next s x xs one stream

      count : one.number ≡ r.next s
      count = let c = one.counted (ordered_numbered f x.lane.kind (ap (λ (l : Lane). l.kind) lane)) in cc (number, c)

      Past : ℕ → ℕ → Type 0
      Past u n = WasHanded a.plan (after r kept next hs) (ordered_lane u) n ⊎ (a.abandoned (ordered_lane u) n ≡ true)

      before : (u n : ℕ) → n < r.next u → Past u n
      before u n l = go (held.told.passed u n l)
        where
          go : WasHanded a.plan r (ordered_lane u) n ⊎ (a.abandoned (ordered_lane u) n ≡ true) → Past u n
          go (inl h) = inl (still_handed f a r kept next s x xs one stream (ordered_lane u) n h)
          go (inr h) = inr h

      now : Past s (r.next s)
      now = inl (subst (λ (n : ℕ). WasHanded a.plan (after r kept next hs) (ordered_lane s) n) count
          (subst (λ (l : Lane). WasHanded a.plan (after r kept next hs) l one.number) lane (was_new f a r kept next s x xs one stream)))

      done : (u n : ℕ) → n < next u → Past u n
      done = passed Past before now

      place : x.lane.kind ≡ Ordered → (n : ℕ) × (x.number ≡ Some n) × (r.next s ≤ n) × (n < next s)
      place k = (r.next s, number, le_refl (r.next s), let d = at_same r.next s (suc (r.next s)) in omega arith)

      fresh : (y : Piece) (n k : ℕ) → Has kept y → entry_at a.plan y.index ≡ Some (Part y.lane n k) → WasHanded a.plan (after r kept next hs) y.lane n → ⊥
      fresh y n k h here was = go (which_handed f a r kept next s x xs one stream y.lane n was)
        where
          go : WasHanded a.plan r y.lane n ⊎ ((y.lane ≡ x.lane) × (n ≡ one.number)) → ⊥
          go (inl b) = held.fresh y n k (fewer y h) here b
          go (inr (el, en)) =
              let l : y.lane ≡ ordered_lane s = cc lane in
              let c = counted y n k (fewer y h) here l in
              not_of_next y h l (cc (count, c))

  passes_over : (v : Way) → Step w (Pass_over s) v → Good v
  passes_over v (skipped, not_whole, e) = subst Good (sym e)
      (by_receiver w (after r kept next r.waiting) g (after-Learns f a r kept next r.waiting forth)
      (after_held f a r kept next r.waiting forth held fewer (gone r.waiting done)
      (λ y n k h. held.fresh y n k (fewer y h)) (λ l n h. h)
      (same_told f a r kept next forth held.told done)))
    where
      Past : ℕ → ℕ → Type 0
      Past u n = WasHanded a.plan r (ordered_lane u) n ⊎ (a.abandoned (ordered_lane u) n ≡ true)

      over : IsOver f a r (ordered_lane s) (r.next s) → Past s (r.next s)
      over (inl h) = inl h
      over (inr h) = inr h.0

      no_row : (x : IsAllSeen a.plan r (ordered_lane s) (r.next s)) → IsGathered f a.plan (ordered_lane s) (r.next s) x.message r.kept → ⊥
      no_row x row =
          let c = row.number in
          let d = number_counts f (ordered_lane s) (r.next s) (ordered_numbered f Ordered refl) in
          not_whole (row.head ∷ row.rest) (row.whole, row.within, (row.lane, cc))

      now : MayPass a r (ordered_lane s) (r.next s) → Past s (r.next s)
      now (inl h) = inr h
      now (inr x) = over (over_unless_whole f a r g.arranged held (ordered_lane s) (r.next s) x (no_row x))

      done : (u n : ℕ) → n < next u → Past u n
      done = passed Past held.told.passed (now (held.skips (ordered_lane s) (r.next s) skipped))

  drops_below : (v : Way) → Step w (Drop_below_next s) v → Good v
  drops_below v e = subst Good (sym e)
      (by_receiver w (after r ps r.next r.waiting) g (after-Learns f a r ps r.next r.waiting still)
      (after_held f a r ps r.next r.waiting still held fewer_left gone_below (λ y n k h. held.fresh y n k (fewer_left y h)) (λ l n h. h)
      (same_told f a r ps r.next still held.told held.told.passed)))
    where
      test : Piece → Bool
      test y = not (is_below s (r.next s) y)

      ps : List Piece
      ps = without_below r.kept s (r.next s)

      still : (u : ℕ) → r.next u ≤ r.next u
      still u = le_refl (r.next u)

      fewer_left : (y : Piece) → Has ps y → Has r.kept y
      fewer_left y h = Has-filtered test r.kept y h

      gone_below : (y : Piece) (n k : ℕ) → Has r.kept y → entry_at a.plan y.index ≡ Some (Part y.lane n k) → Has ps y ⊎ IsOver f a r y.lane n
      gone_below y n k h here = go (below_or_not s (r.next s) y)
        where
          go : (test y ≡ true) ⊎ ((y.lane ≡ ordered_lane s) × IsNumberBelow (r.next s) y.number) → Has ps y ⊎ IsOver f a r y.lane n
          go (inl b) = inl (Has-filter test r.kept y b h)
          go (inr (lane, l)) =
              let number = counted y n k h here lane in
              let below = below_is (r.next s) n y.number number l in
              inr (subst (λ (u : Lane). IsOver f a r u n) (sym lane) (over below (held.told.passed s n below)))
            where
              over : n < r.next s → WasHanded a.plan r (ordered_lane s) n ⊎ (a.abandoned (ordered_lane s) n ≡ true) → IsOver f a r (ordered_lane s) n
              over b (inl was) = inl was
              over b (inr dead) = inr (dead, inr (inr (refl, b)))

pub kept_by-Hand_over : (w v : Way) (s : ℕ) (x : Piece) (xs : List Piece) → Good w → Step w (Hand_over s x xs) v → Good v
kept_by-Hand_over w v s x xs g = hands_over w s g v x xs

pub kept_by-Pass_over : (w v : Way) (s : ℕ) → Good w → Step w (Pass_over s) v → Good v
kept_by-Pass_over w v s g = passes_over w s g v

pub kept_by-Drop_below_next : (w v : Way) (s : ℕ) → Good w → Step w (Drop_below_next s) v → Good v
kept_by-Drop_below_next w v s g = drops_below w s g v
