-- Under both formats, what a FORWARD makes go is of an abandoned message, or is among all chunks of a whole one.
use Rattle.std.proofs.Common.{◌≡◌, ℕ, zero, suc, ◌-◌, ◌<◌, ◌≤◌, ◌⊎◌, true, false, List, ◌∷◌, length, Some, refl, inl, inr, sym, subst, arith}
use Rattle.std.proofs.lemmas.Bool.{cases_eq, cases_lt}
use Rattle.sctp_model.specs.numbers.Lists.{Has}
use Rattle.sctp_model.specs.messages.Format.{Format, Plain, Interleaved, Kind, Ordered, Unordered, Lane, is_numbered}
use Rattle.sctp_model.specs.messages.Plan.{Message, Entry, Part, End, entry_at, message_at, IsOf, IsAssigned, IsClosed}
use Rattle.sctp_model.specs.messages.Orderly.{Orderly, IsTogether}
use Rattle.sctp_model.specs.messages.Pieces.{Piece, IsFragment}
use Rattle.sctp_model.specs.sender.SenderView.{SenderView, IsOfAbandoned, IsAllAbandoned}
use Rattle.sctp_model.specs.messages.Forward.{StandsIn}
use Rattle.sctp_model.specs.receiver.Receiving.{IsWholeWith}
use Rattle.sctp_model.specs.messages.FormatLaws.{IsTaken, IsUpTo, MakesGo, SkipLaw}
use Rattle.sctp_safety.proofs.lists.Basics.{each_or, item_at-above}
use Rattle.sctp_safety.proofs.plan.Framing.{part_by_fragment, part_number}
use Rattle.sctp_safety.proofs.plan.OneMessage.{number_counts, one_when_kept}
use Rattle.sctp_safety.proofs.plan.WholeLaw.{framed_by_orderly, some_fragment}
use Rattle.sctp_safety.proofs.lists.Numbers.{below_is}

-- an entry is of one message alone
of_one : (l k : Lane) (n o : ℕ) (e : Entry) → IsOf l n e → IsOf k o e → (k ≡ l) × (o ≡ n)
of_one l k n o (Part j m i) (a, b) (c, d) = (cc, cc)
of_one l k n o (End j m) (a, b) (c, d) = (cc, cc)

unnumbered_plain : (f : Format) (d : Kind) → is_numbered f d ≡ false → f ≡ Plain
unnumbered_plain Plain d e = refl
unnumbered_plain Interleaved Ordered e = absurd (cc)
unnumbered_plain Interleaved Unordered e = absurd (cc)

-- One message of a plan, with the hypotheses of the law.
module _ (f : Format) (v : SenderView) (o : Orderly f v.plan) (c p : ℕ) (more : c < p) (gone : IsAllAbandoned v c p) (kept : List Piece)
    (upto : IsUpTo f v kept c) (l : Lane) (n : ℕ) (m : Message) (named : message_at v.plan l n ≡ Some m) where
  -- an index that belongs to an abandoned message, and to this one
  this_gone : (i : ℕ) (e : Entry) → entry_at v.plan i ≡ Some e → IsOf l n e → IsOfAbandoned v i → v.abandoned l n ≡ true
  this_gone i e here of (k, q, d, there, is, dead) =
      let x : d ≡ e = cc in
      let s = of_one k l q n d is (subst (IsOf l n) (sym x) of) in
      let a = s.0 in
      let b = s.1 in
      cc

  -- the fragment is kept
  abbrev IsHere : ℕ → Type 0
  IsHere k = (y : Piece) × Has kept y × (entry_at v.plan y.index ≡ Some (Part l n k))

  -- of a message with a chunk kept, a fragment up to the point is kept too, or the message is abandoned
  up_to_point : (x : Piece) (q : ℕ) → Has kept x → entry_at v.plan x.index ≡ Some (Part l n q) →
      (i k : ℕ) → i ≤ p → entry_at v.plan i ≡ Some (Part l n k) → IsHere k ⊎ (v.abandoned l n ≡ true)
  up_to_point x q has mine i k le here = split (cases_lt c i)
    where
      old : IsTaken f v.plan kept i ⊎ IsOfAbandoned v i → IsHere k ⊎ (v.abandoned l n ≡ true)
      old (inr h) = inr (this_gone i (Part l n k) here (refl, refl) h)
      old (inl h) = state h.state
        where
          there : entry_at v.plan h.chunk.index ≡ Some (Part l n k)
          there = subst (λ (j : ℕ). entry_at v.plan j ≡ Some (Part l n k)) (sym h.index) here

          state : Has kept h.chunk ⊎ ((z : Piece) (j : ℕ) → Has kept z →
              entry_at v.plan z.index ≡ Some (Part h.chunk.lane h.fragment.number j) → ⊥) → IsHere k ⊎ (v.abandoned l n ≡ true)
          state (inl held) = inl (h.chunk, held, there)
          state (inr none) =
              let a = h.fragment.here in
              let t = there in
              let e : Part l n k ≡ Part h.chunk.lane h.fragment.number h.fragment.fragment = cc t in
              let el : l ≡ h.chunk.lane = cc in
              let en : n ≡ h.fragment.number = cc in
              let g : entry_at v.plan x.index ≡ Some (Part h.chunk.lane h.fragment.number q) = cc in
              absurd (none x q has g)

      split : (c < i) ⊎ (i ≤ c) → IsHere k ⊎ (v.abandoned l n ≡ true)
      split (inl new) = inr (this_gone i (Part l n k) here (refl, refl) (gone i new le))
      split (inr le') = old (upto.taken i (item_at-above v.plan.entries i (Part l n k) here) le')

  -- every fragment of the message is kept, or it is abandoned
  abbrev IsAllHere : Type 0
  IsAllHere = (k : ℕ) → k < length m.fragments → IsHere k ⊎ (v.abandoned l n ≡ true)

  -- If a higher number of the lane is at an index that the FORWARD passes, all of this message is before it.
  under_number : (x : Piece) (q : ℕ) → Has kept x → entry_at v.plan x.index ≡ Some (Part l n q) →
      (top : ℕ) → n < top → StandsIn v.plan c p l top → IsAllHere
  under_number x q has mine top less (i, e, new, le, here, of) = by_closed closed
    where
      before : (j : ℕ) (d : Entry) → entry_at v.plan j ≡ Some d → IsOf l n d → j < i
      before j d there is = o.counted l n top less j i d e there is here of

      message : (d : Entry) → entry_at v.plan i ≡ Some d → IsOf l top d → (u : Message) × (message_at v.plan l top ≡ Some u)
      message (Part k r j) at_i (a, b) =
          let w = o.numbered.within i k r j at_i in
          (w.0, let h = w.1 in cc)
      message (End k r) at_i (a, b) =
          let w = o.ended.message i k r at_i in
          (w.0, let h = w.1 in cc)

      closed : IsClosed v.plan l n
      closed =
          let u = message e here of in
          let a = o.numbered.begun l n m named in
          let b = o.numbered.begun l top u.0 u.1 in
          let first = o.counted l n top less a.0 b.0 (Part l n 0) (Part l top 0) a.1 (refl, refl) b.1 (refl, refl) in
          o.in_turn.closed a.0 b.0 l l n top refl a.1 b.1 first

      end_gone : (j : ℕ) → entry_at v.plan j ≡ Some (End l n) → v.abandoned l n ≡ true
      end_gone j there = split (cases_lt c j)
        where
          low : j < i
          low = before j (End l n) there (refl, refl)

          old : IsTaken f v.plan kept j ⊎ IsOfAbandoned v j → v.abandoned l n ≡ true
          old (inr h) = this_gone j (End l n) there (refl, refl) h
          old (inl h) =
              let a = h.fragment.here in
              let b = subst (λ (z : ℕ). entry_at v.plan z ≡ Some (End l n)) (sym h.index) there in
              let z : Part h.chunk.lane h.fragment.number h.fragment.fragment ≡ End l n = cc in
              absurd (cc)

          split : (c < j) ⊎ (j ≤ c) → v.abandoned l n ≡ true
          split (inl more') = this_gone j (End l n) there (refl, refl) (gone j more' (omega (arith, low)))
          split (inr le') = old (upto.taken j (item_at-above v.plan.entries j (End l n) there) le')

      by_closed : IsClosed v.plan l n → IsAllHere
      by_closed (inl (j, there)) k b = inr (end_gone j there)
      by_closed (inr (u, (named2, each))) k b =
          let same : m ≡ u = cc in
          let r = each k (subst (λ (z : Message). k < length z.fragments) same b) in
          let low = before r.0 (Part l n k) r.1 (refl, refl) in
          up_to_point x q has mine r.0 k (omega arith) r.1

  -- Under DATA the fragments from the first on take consecutive indexes: none lies past the point if one lies at or below CUM.
  under_index : f ≡ Plain → (x : Piece) (q : ℕ) → Has kept x → entry_at v.plan x.index ≡ Some (Part l n q) → x.index ≤ p → IsAllHere
  under_index plain x q has mine le k b = here (walk k r.0 r.1)
    where
      together : IsTogether v.plan
      together = o.together plain

      r : IsAssigned v.plan l n k
      r = (together.complete l n m named).1 k b

      first : (j i : ℕ) → entry_at v.plan i ≡ Some (Part l n j) → (h : ℕ) × (h ≤ i) × (entry_at v.plan h ≡ Some (Part l n 0))
      first zero i there = (i, omega arith, there)
      first (suc j) i there =
          let s = o.numbered.follows i l n j there in
          let t = first j s.0 s.2 in
          (t.0, omega arith, t.2)

      near : (i j : ℕ) → entry_at v.plan i ≡ Some (Part l n j) → i ≤ p → (i ≤ c) ⊎ (v.abandoned l n ≡ true)
      near i j there le' = split (cases_lt c i)
        where
          split : (c < i) ⊎ (i ≤ c) → (i ≤ c) ⊎ (v.abandoned l n ≡ true)
          split (inl new) = inr (this_gone i (Part l n j) there (refl, refl) (gone i new le'))
          split (inr old) = inl old

      walk : (j i : ℕ) → entry_at v.plan i ≡ Some (Part l n j) → (i ≤ c) ⊎ (v.abandoned l n ≡ true)
      walk zero i there =
          let s = first q x.index mine in
          let e = o.numbered.once i s.0 l n 0 there s.2 in
          near i 0 there (omega arith)
      walk (suc j) i there = step (walk j (i - 1) (together.consecutive i l n j there))
        where
          step : (i - 1 ≤ c) ⊎ (v.abandoned l n ≡ true) → (i ≤ c) ⊎ (v.abandoned l n ≡ true)
          step (inl low) = near i (suc j) there (omega arith)
          step (inr dead) = inr dead

      here : (r.0 ≤ c) ⊎ (v.abandoned l n ≡ true) → IsHere k ⊎ (v.abandoned l n ≡ true)
      here (inl low) = up_to_point x q has mine r.0 k (omega arith) r.1
      here (inr dead) = inr dead

  -- if every fragment is kept, the kept chunk is among all chunks of its whole message
  whole_or_gone : (x : Piece) (q : ℕ) → Has kept x → entry_at v.plan x.index ≡ Some (Part l n q) → IsAllHere →
      ((xs : List Piece) × IsWholeWith f kept x xs) ⊎ IsOfAbandoned v x.index
  whole_or_gone x q has mine all = go (each_or (length m.fragments) all)
    where
      go : ((k : ℕ) → k < length m.fragments → IsHere k) ⊎ (v.abandoned l n ≡ true) →
          ((xs : List Piece) × IsWholeWith f kept x xs) ⊎ IsOfAbandoned v x.index
      go (inl each) =
          let g = one_when_kept f v.plan (framed_by_orderly f v.plan o) l n m named (some_fragment f v.plan o l n m named) kept upto.chunks each in
          inl (g.head ∷ g.rest, (g.whole, g.within, g.all x q has mine))
      go (inr dead) = inr (l, n, Part l n q, mine, (refl, refl), dead)

pub skip_law : (f : Format) → SkipLaw f
skip_law f v c p x kept o more gone forward upto y has goes = go goes
  where
    h : IsFragment f v.plan y
    h = upto.chunks y has

    l : Lane
    l = y.lane

    Claim : Type 0
    Claim = ((xs : List Piece) × IsWholeWith f kept y xs) ⊎ IsOfAbandoned v y.index

    done : IsAllHere f v o c p more gone kept upto l h.number h.message h.named → Claim
    done = whole_or_gone f v o c p more gone kept upto l h.number h.message h.named y h.fragment has h.here

    by_number : (top : ℕ) → StandsIn v.plan c p l top → (h.number ≡ top) ⊎ (h.number ≡ top → ⊥) → h.number ≤ top → Claim
    by_number top stands (inr ne) le =
        done (under_number f v o c p more gone kept upto l h.number h.message h.named y h.fragment has h.here top (omega arith) stands)
    by_number top (i, e, new, le', here, of) (inl same) le =
        let is = subst (λ (z : ℕ). IsOf l z e) (sym same) of in
        let dead = this_gone f v o c p more gone kept upto l h.number h.message h.named i e here is (gone i new le') in
        inr (l, h.number, Part l h.number h.fragment, h.here, (refl, refl), dead)

    go : MakesGo f x y → Claim
    go (inl (s, listed, lane, le)) =
        let numbered : is_numbered f l.kind ≡ true = subst (λ (z : Lane). is_numbered f z.kind ≡ true) lane (forward.numbered s listed) in
        let stands : StandsIn v.plan c p l s.number = subst (λ (z : Lane). StandsIn v.plan c p z s.number) lane (forward.stands s listed) in
        let a = part_number f v.plan l h.number h.message h.fragment y (part_by_fragment f v.plan y h) in
        let b = number_counts f l h.number numbered in
        let e : y.number ≡ Some h.number = cc in
        let under = below_is (suc s.number) h.number y.number e le in
        by_number s.number stands (cases_eq h.number s.number) (omega arith)
    go (inr (plain, low)) =
        let e = forward.point in
        done (under_index f v o c p more gone kept upto l h.number h.message h.named (unnumbered_plain f l.kind plain) y h.fragment has h.here (omega arith))
