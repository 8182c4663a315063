-- An unordered message is delivered, or a chunk that a FORWARD passes goes.
use Rattle.std.proofs.Common.{◌≡◌, ℕ, ◌<◌, ◌≤◌, ◌⊎◌, not, ◌==◌, Bool, true, false, List, [], ◌∷◌, length, Some, inl, inr, refl, sym, subst, ap, ◌∙◌, filter, arith, le_refl, eqb-true}
use Rattle.std.proofs.lemmas.Bool.{cases_Bool, and_parts, or_cases, eq-eqb}
use Rattle.sctp_model.specs.numbers.Lists.{Has}
use Rattle.sctp_model.specs.messages.Format.{Format, Plain, Interleaved, Kind, Unordered, Lane, is_numbered, same_lane, ordered_lane}
use Rattle.sctp_model.specs.messages.Plan.{Message, Part, Plan, entry_at}
use Rattle.sctp_model.specs.messages.Pieces.{Piece, IsFragment, same_number}
use Rattle.sctp_model.specs.sender.SenderView.{SenderView}
use Rattle.sctp_model.specs.receiver.ReceiverView.{Handed, ReceiverView}
use Rattle.sctp_model.specs.receiver.Receiving.{IsWholeWith, IsLeftBehind, has_index, goes_with, without_message}
use Rattle.sctp_model.specs.world.Safe.{WasHanded}
use Rattle.sctp_safety.specs.Way.{Way, Hand_unordered, Let_go, with_receiver, Step}
use Rattle.sctp_safety.proofs.moves.Facts.{IsDone, IsOver, IsRetired, MayPass, IsOrderedPlan, Held, Good}
use Rattle.sctp_safety.proofs.lists.Basics.{Has-filter, Has-filtered, filter_is, item_at-above, same_lane-true, same_lane-refl}
use Rattle.sctp_safety.proofs.moves.MovesBySide.{by_receiver}
use Rattle.sctp_safety.proofs.plan.OneMessage.{IsOneMessage, honest_whole}
use Rattle.sctp_safety.proofs.moves.Settled.{all_numbered, number_is, one_number, one_message, over_unless_whole}
use Rattle.sctp_safety.proofs.moves.Handing.{after, after-Learns, after_held, same_told, more_told, more_waiting, was_new, still_handed, which_handed}
use Rattle.sctp_safety.proofs.lists.Numbers.{below_is, true-same, same-true}

has_index-found : (xs : List Piece) (i : ℕ) → has_index xs i ≡ true → (x : Piece) × Has xs x × (x.index ≡ i)
has_index-found [] i e = absurd (cc)
has_index-found (x ∷ xs) i e = go (or_cases (x.index == i) (has_index xs i) e) (has_index-found xs i)
  where
    go : ((x.index == i) ≡ true) ⊎ (has_index xs i ≡ true) → (has_index xs i ≡ true → (y : Piece) × Has xs y × (y.index ≡ i)) →
        (y : Piece) × Has (x ∷ xs) y × (y.index ≡ i)
    go (inl h) more = (x, inl refl, eqb-true x.index i h)
    go (inr h) more = let y = more h in (y.0, inr y.1, y.2)

has_index-is : (xs : List Piece) (x : Piece) → Has xs x → has_index xs x.index ≡ true
has_index-is [] x h = absurd h
has_index-is (y ∷ ys) x (inl e) = let i : y.index ≡ x.index = ap (λ (z : Piece). z.index) e in let b = eq-eqb y.index x.index i in grind (arith, b)
has_index-is (y ∷ ys) x (inr h) = let b = has_index-is ys x h in grind (arith, b)

-- a chunk goes with a message's chunks if it is of that message
goes_if : (f : Format) (p : Plan) → IsOrderedPlan f p → (x : Piece) (xs : List Piece) (one : IsOneMessage f p x xs)
    (y : Piece) (v : IsFragment f p y) → y.lane ≡ x.lane → v.number ≡ one.number → goes_with f (x ∷ xs) y ≡ true
goes_if Plain p arranged x xs one y v lane number =
    let z = one.all v.fragment within in
    let h = v.here in
    let e : z.0.index ≡ y.index = arranged.once z.0.index y.index x.lane one.number v.fragment z.2 (cc) in
    subst (λ (i : ℕ). has_index (x ∷ xs) i ≡ true) e (has_index-is (x ∷ xs) z.0 z.1)
  where
    within : v.fragment < length one.message.fragments
    within =
        let h = v.named in
        let k = one.complete.0 in
        let e : v.message ≡ one.message = cc in
        subst (λ (m : Message). v.fragment < length m.fragments) e v.within
goes_if Interleaved p arranged x xs one y v lane number =
    let a : same_lane y.lane x.lane ≡ true = subst (λ (l : Lane). same_lane y.lane l ≡ true) lane (same_lane-refl y.lane) in
    let c = number_is Interleaved p y v (all_numbered y.lane.kind) in
    let d = one.counted (all_numbered x.lane.kind) in
    let b = true-same y.number x.number (cc) in
    grind (arith, a, b)

-- and only if
goes_only : (f : Format) (p : Plan) (x : Piece) (xs : List Piece) (one : IsOneMessage f p x xs) (y : Piece) (v : IsFragment f p y) →
    goes_with f (x ∷ xs) y ≡ true → (y.lane ≡ x.lane) × (v.number ≡ one.number)
goes_only Plain p x xs one y v e =
    let z = has_index-found (x ∷ xs) y.index e in
    let h = one.each z.0 z.1 in
    let i = z.2 in
    let k = h.1.1 in
    let q = one_number Plain p y v x.lane one.number h.1.0 (cc) in
    (q.0, q.1)
goes_only Interleaved p x xs one y v e =
    let b = and_parts (same_lane y.lane x.lane) (same_number y.number x.number) e in
    let lane = same_lane-true y.lane x.lane b.0 in
    let n = same-true y.number x.number b.1 in
    let c = number_is Interleaved p y v (all_numbered y.lane.kind) in
    let d = one.counted (all_numbered x.lane.kind) in
    (lane, cc)

pub kept_by-Hand_unordered : (w v : Way) (x : Piece) (xs : List Piece) → Good w → Step w (Hand_unordered x xs) v → Good v
kept_by-Hand_unordered w v x xs g (kind, whole, within, e) = subst Good (sym e)
    (by_receiver w (after r ps r.next hs) g (after-Learns f a r ps r.next hs forth)
    (after_held f a r ps r.next hs forth held fewer gone fresh (still_handed f a r ps r.next s x xs one refl)
    (more_told f a r ps r.next s x xs one refl g.arranged held within forth (λ k. absurd (cc)) (λ u n l. passed u n (held.told.passed u n l)))))
  where
    f : Format
    f = w.format

    a : SenderView
    a = w.sender

    r : ReceiverView
    r = w.receiver

    s : ℕ
    s = x.lane.stream

    held : Held f a r
    held = g.held

    ps : List Piece
    ps = without_message f r.kept (x ∷ xs)

    forth : (u : ℕ) → r.next u ≤ r.next u
    forth u = le_refl (r.next u)

    test : Piece → Bool
    test y = not (goes_with f (x ∷ xs) y)

    fewer : (y : Piece) → Has ps y → Has r.kept y
    fewer y h = Has-filtered test r.kept y h

    one : IsOneMessage f a.plan x xs
    one = honest_whole f a.plan g.arranged x xs (λ y h. held.kept y (within y h)) whole

    hs : ℕ → List Handed
    hs = more_waiting f a r ps r.next s x xs one refl

    passed : (u n : ℕ) → WasHanded a.plan r (ordered_lane u) n ⊎ (a.abandoned (ordered_lane u) n ≡ true) →
        WasHanded a.plan (after r ps r.next hs) (ordered_lane u) n ⊎ (a.abandoned (ordered_lane u) n ≡ true)
    passed u n (inl h) = inl (still_handed f a r ps r.next s x xs one refl (ordered_lane u) n h)
    passed u n (inr h) = inr h

    gone : (y : Piece) (n k : ℕ) → Has r.kept y → entry_at a.plan y.index ≡ Some (Part y.lane n k) →
        Has ps y ⊎ IsOver f a (after r ps r.next hs) y.lane n
    gone y n k has here = go (cases_Bool (goes_with f (x ∷ xs) y))
      where
        part : IsFragment f a.plan y
        part = held.kept y has

        same : part.number ≡ n
        same = (one_number f a.plan y part y.lane n k here).1

        go : (goes_with f (x ∷ xs) y ≡ true) ⊎ (goes_with f (x ∷ xs) y ≡ false) → Has ps y ⊎ IsOver f a (after r ps r.next hs) y.lane n
        go (inr b) = inl (Has-filter test r.kept y (ap not b) has)
        go (inl b) =
            let q = goes_only f a.plan x xs one y part b in
            let c = q.1 in
            let d : one.number ≡ n = cc same in
            inr (inl (subst (λ (l : Lane). WasHanded a.plan (after r ps r.next hs) l n) (sym q.0)
            (subst (λ (j : ℕ). WasHanded a.plan (after r ps r.next hs) x.lane j) d (was_new f a r ps r.next s x xs one refl))))

    fresh : (y : Piece) (n k : ℕ) → Has ps y → entry_at a.plan y.index ≡ Some (Part y.lane n k) → WasHanded a.plan (after r ps r.next hs) y.lane n → ⊥
    fresh y n k h here was = go (which_handed f a r ps r.next s x xs one refl y.lane n was)
      where
        go : WasHanded a.plan r y.lane n ⊎ ((y.lane ≡ x.lane) × (n ≡ one.number)) → ⊥
        go (inl b) = held.fresh y n k (fewer y h) here b
        go (inr (el, en)) =
            let part = held.kept y (fewer y h) in
            let c = (one_number f a.plan y part y.lane n k here).1 in
            let b = goes_if f a.plan g.arranged x xs one y part el (cc) in
            let d : not (goes_with f (x ∷ xs) y) ≡ true = filter_is test r.kept y h in
            let z : not true ≡ true = subst (λ (b : Bool). not b ≡ true) b d in
            absurd (cc)

-- A chunk that a FORWARD passes is of a message that is over, if it isn't whole.
module _ (f : Format) (a : SenderView) (r : ReceiverView) (arranged : IsOrderedPlan f a.plan) (held : Held f a r) (x : Piece) (has : Has r.kept x) where
  abbrev u : IsFragment f a.plan x
  u = held.kept x has

  not_wanted : MayPass a r x.lane u.number → IsDone f r x.lane u.number → ((xs : List Piece) → IsWholeWith f r.kept x xs → ⊥) → IsOver f a r x.lane u.number
  not_wanted (inl h) done not_whole = inr (h, done)
  not_wanted (inr h) done not_whole = over_unless_whole f a r arranged held x.lane u.number h
      (λ row. not_whole (row.head ∷ row.rest) (row.whole, row.within, row.all x u.fragment has u.here))

  retired : IsRetired a r x.index → x.lane.kind ≡ Unordered → MayPass a r x.lane u.number
  retired h kind =
      let e = one_message f a.plan x u h.lane h.number h.entry h.here h.of in
      let c = e.0 in
      subst (λ (l : Lane). MayPass a r l u.number) (sym e.0) (subst (λ (n : ℕ). MayPass a r h.lane n) (sym e.1)
      (h.may (let q : x.lane.kind ≡ h.lane.kind = ap (λ (l : Lane). l.kind) e.0 in cc)))

left_over : (f : Format) (a : SenderView) (r : ReceiverView) (arranged : IsOrderedPlan f a.plan) (held : Held f a r) (x : Piece) (has : Has r.kept x) →
    IsLeftBehind f r x → ((xs : List Piece) → IsWholeWith f r.kept x xs → ⊥) → IsOver f a r x.lane (held.kept x has).number
left_over Plain a r arranged held x has (kind, below) not_whole = not_wanted Plain a r arranged held x has
    (retired Plain a r arranged held x has (held.old refl x.index (item_at-above a.plan.entries x.index _ (held.kept x has).here) below) kind)
    (inl (subst (λ (k : Kind). is_numbered Plain k ≡ false) (sym kind) refl)) not_whole
left_over Interleaved a r arranged held x has (kind, below) not_whole =
    not_wanted Interleaved a r arranged held x has (held.skips x.lane (held.kept x has).number skipped) (inr (inl skipped)) not_whole
  where
    skipped : (held.kept x has).number < r.skip x.lane
    skipped = below_is (r.skip x.lane) (held.kept x has).number x.number (number_is Interleaved a.plan x (held.kept x has) (all_numbered x.lane.kind)) below

pub kept_by-Let_go : (w v : Way) (t : ReceiverView) → Good w → Step w (Let_go t) v → Good v
kept_by-Let_go w v t g (goes, e) = subst Good (sym (e ∙ ap (with_receiver w) goes.kept))
    (by_receiver w (after r ps r.next r.waiting) g (after-Learns f a r ps r.next r.waiting forth)
    (after_held f a r ps r.next r.waiting forth held fewer gone (λ y n k h. held.fresh y n k (fewer y h)) (λ l n h. h)
    (same_told f a r ps r.next forth held.told held.told.passed)))
  where
    f : Format
    f = w.format

    a : SenderView
    a = w.sender

    r : ReceiverView
    r = w.receiver

    held : Held f a r
    held = g.held

    ps : List Piece
    ps = filter goes.stays r.kept

    forth : (s : ℕ) → r.next s ≤ r.next s
    forth s = le_refl (r.next s)

    fewer : (y : Piece) → Has ps y → Has r.kept y
    fewer y h = Has-filtered goes.stays r.kept y h

    gone : (y : Piece) (n k : ℕ) → Has r.kept y → entry_at a.plan y.index ≡ Some (Part y.lane n k) → Has ps y ⊎ IsOver f a r y.lane n
    gone y n k h here = go (cases_Bool (goes.stays y))
      where
        go : (goes.stays y ≡ true) ⊎ (goes.stays y ≡ false) → Has ps y ⊎ IsOver f a r y.lane n
        go (inl b) = inl (Has-filter goes.stays r.kept y b h)
        go (inr b) =
            let why = goes.gone y h b in
            let over = left_over f a r g.arranged held y h why.0 why.1 in
            let q = one_number f a.plan y (held.kept y h) y.lane n k here in
            inr (subst (λ (j : ℕ). IsOver f a r y.lane j) q.1 over)
