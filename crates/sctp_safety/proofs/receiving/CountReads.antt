-- If all that a stream will have for now is reached, the receiver has counted all of its messages: the next number of each lane is how many there are.
use Rattle.std.proofs.Common.{◌≡◌, ℕ, zero, suc, ◌-◌, ◌<◌, ◌≤◌, ◌⊎◌, max, true, List, [], ◌∷◌, length, slice_get, Option, None, Some, inl, inr, refl, sym, subst, ap, arith, ◌∙◌}
use Rattle.std.proofs.lemmas.Bool.{cases_lt, cond_both}
use Rattle.sctp_model.specs.numbers.Lists.{Has}
use Rattle.sctp_model.specs.messages.Format.{Kind, Ordered, Unordered, Lane, is_numbered, same_lane, ordered_lane, unordered_lane}
use Rattle.sctp_model.specs.messages.Plan.{Message, Entry, Part, entry_at, message_at, IsOf}
use Rattle.sctp_model.specs.messages.Pieces.{Piece, piece_of}
use Rattle.sctp_model.specs.receiver.ReceiverView.{Handed, ReceiverView, handed, Reaches}
use Rattle.sctp_model.specs.receiver.ResetTaken.{past_on, past_kept, past_handed, past_top, count_on}
use Rattle.sctp_model.specs.receiver.Laws.{IsIdle}
use Rattle.sctp_model.specs.world.Safe.{WasHanded}
use Rattle.sctp_safety.specs.Way.{Way, IsAllClosed}
use Rattle.sctp_safety.proofs.lists.Basics.{same_lane-true, same_lane-refl, item_at-above, slice_get-within}
use Rattle.sctp_safety.proofs.moves.Facts.{Good, MayPass, IsDone, IsLost, IsOver, IsSettled}
use Rattle.sctp_safety.proofs.moves.Settled.{number_is}
use Rattle.sctp_safety.proofs.plan.OneMessage.{number_counts}
use Rattle.sctp_safety.proofs.plan.PlanLemmas.{message_of, same_message, renamed}
use Rattle.sctp_safety.proofs.plan.WaitedFor.{not_all_reached, begun_below}

-- ---- one past the largest of some numbers

of_larger : (P : ℕ → Type 0) (a b : ℕ) → P a → P b → P (max a b)
of_larger P a b one other = elim (cases_lt a b) [
  | inl less ↦ let is : b ≡ max a b = omega (arith, less) in subst P is other
  | inr more ↦ let is : a ≡ max a b = omega (arith, more) in subst P is one
]

on_lane_is : (l k : Lane) (o : Option ℕ) (n : ℕ) → k ≡ l → o ≡ Some n → past_on l k o ≡ suc n
on_lane_is l k o n lane number =
    let same : same_lane k l ≡ true = subst (λ (y : Lane). same_lane k y ≡ true) lane (same_lane-refl k) in
    rw (number, same) refl

on_lane_has : (P : ℕ → Type 0) (l k : Lane) (o : Option ℕ) → P 0 → ((n : ℕ) → k ≡ l → o ≡ Some n → P (suc n)) → P (past_on l k o)
on_lane_has P l k None none own = none
on_lane_has P l k (Some n) none own = cond_both (same_lane k l) (suc n) 0 P (λ e. own n (same_lane-true k l e) refl) (λ e. none)

kept_below : (l : Lane) (xs : List Piece) (x : Piece) (n : ℕ) → Has xs x → x.lane ≡ l → x.number ≡ Some n → n < past_kept l xs
kept_below l [] x n there lane number = absurd there
kept_below l (y ∷ ys) x n (inl same) lane number =
    let own : past_on l y.lane y.number ≡ suc n = subst (λ (z : Piece). past_on l z.lane z.number ≡ suc n) (sym same) (on_lane_is l x.lane x.number n lane number) in
    omega (arith, own)
kept_below l (y ∷ ys) x n (inr there) lane number = let low = kept_below l ys x n there lane number in omega (arith, low)

kept_has : (P : ℕ → Type 0) (l : Lane) (xs : List Piece) → P 0 → ((x : Piece) (n : ℕ) → Has xs x → x.lane ≡ l → x.number ≡ Some n → P (suc n)) → P (past_kept l xs)
kept_has P l [] none each = none
kept_has P l (x ∷ xs) none each =
    of_larger P (past_on l x.lane x.number) (past_kept l xs) (on_lane_has P l x.lane x.number none (λ n. each x n (inl refl))) (kept_has P l xs none (λ y n there. each y n (inr there)))

handed_below : (l : Lane) (hs : List Handed) (h : Handed) (n : ℕ) → Has hs h → h.lane ≡ l → h.number ≡ Some n → n < past_handed l hs
handed_below l [] h n there lane number = absurd there
handed_below l (y ∷ ys) h n (inl same) lane number =
    let own : past_on l y.lane y.number ≡ suc n = subst (λ (z : Handed). past_on l z.lane z.number ≡ suc n) (sym same) (on_lane_is l h.lane h.number n lane number) in
    omega (arith, own)
handed_below l (y ∷ ys) h n (inr there) lane number = let low = handed_below l ys h n there lane number in omega (arith, low)

handed_has : (P : ℕ → Type 0) (l : Lane) (hs : List Handed) → P 0 → ((h : Handed) (n : ℕ) → Has hs h → h.lane ≡ l → h.number ≡ Some n → P (suc n)) → P (past_handed l hs)
handed_has P l [] none each = none
handed_has P l (h ∷ hs) none each =
    of_larger P (past_on l h.lane h.number) (past_handed l hs) (on_lane_has P l h.lane h.number none (λ n. each h n (inl refl))) (handed_has P l hs none (λ y n there. each y n (inr there)))

-- ---- unordered messages that have numbers

module _ (w : Way) (g : Good w) (s : ℕ) (numbered : is_numbered w.format Unordered ≡ true) where
  abbrev r : ReceiverView
  r = w.receiver

  abbrev l : Lane
  l = unordered_lane s

  numbered_there : (k : Lane) → k ≡ l → is_numbered w.format k.kind ≡ true
  numbered_there k same = subst (λ (y : Lane). is_numbered w.format y.kind ≡ true) (sym same) numbered

  done_low : (n : ℕ) → IsDone w.format r l n → n < past_top r s
  done_low n (inl unnumbered) = absurd (cc)
  done_low n (inr (inl skipped)) = omega (arith, skipped)
  done_low n (inr (inr (kind, below))) = absurd (cc)

  handed_low : (n : ℕ) → WasHanded w.sender.plan r l n → n < past_top r s
  handed_low n (h, has, lane, first) =
      let honest = g.held.told.honest s h has in
      let begins = honest.sent.first in
      let same : honest.sent.number ≡ n = cc (begins, first) in
      let low = handed_below l (handed r s) h n has lane (honest.counted (numbered_there h.lane lane) ∙ ap (λ (k : ℕ). Some k) same) in
      omega (arith, low)

  settled_low : (i n : ℕ) (e : Entry) → entry_at w.sender.plan i ≡ Some e → IsOf l n e → IsSettled w.format w.sender r i → n < past_top r s
  settled_low i n e here own x = go x.state
    where
      same : (x.lane ≡ l) × (x.number ≡ n)
      same =
          let there = x.here in
          let one : Part x.lane x.number x.fragment ≡ e = cc (there, here) in
          subst (IsOf l n) (sym one) own

      number : (piece_of w.format i x.lane x.number x.fragment x.message).number ≡ Some n
      number = number_counts w.format x.lane x.number (numbered_there x.lane same.0) ∙ ap (λ (k : ℕ). Some k) same.1

      go : Has r.kept (piece_of w.format i x.lane x.number x.fragment x.message) ⊎ IsOver w.format w.sender r x.lane x.number → n < past_top r s
      go (inl kept) =
          let low = kept_below l r.kept (piece_of w.format i x.lane x.number x.fragment x.message) n kept same.0 number in
          omega (arith, low)
      go (inr (inl told)) = handed_low n (renamed (WasHanded w.sender.plan r) x.lane l x.number n same.0 same.1 told)
      go (inr (inr (gone, done))) = done_low n (renamed (IsDone w.format r) x.lane l x.number n same.0 same.1 done)

  -- an index that is reached is of a message below
  reached_low : (i n : ℕ) (e : Entry) → entry_at w.sender.plan i ≡ Some e → IsOf l n e → Reaches r i → n < past_top r s
  reached_low i n e here own (inl seen) = settled_low i n e here own (g.held.seen i seen)
  reached_low i n e here own (inr upto) = elim (g.held.jumped i (item_at-above w.sender.plan.entries i e here) upto) [
    | inl seen ↦ settled_low i n e here own (g.held.seen i seen)
    | inr x ↦ lost x
  ]
    where
      lost : IsLost w.format w.sender r i → n < past_top r s
      lost x =
          let there = x.here in
          let one : x.entry ≡ e = cc (there, here) in
          let same = same_message x.lane l x.number n e (subst (IsOf x.lane x.number) one x.of) own in
          done_low n (renamed (IsDone w.format r) x.lane l x.number n same.0 same.1 x.done)

  abbrev IsNamed : ℕ → Type 0
  IsNamed n = (m : Message) × (message_at w.sender.plan l n ≡ Some m)

  -- a message has the number below
  abbrev IsNoneOrNamed : ℕ → Type 0
  IsNoneOrNamed n = 0 < n → IsNamed (n - 1)

  at_zero : IsNoneOrNamed 0
  at_zero some = absurd (omega (arith, some))

  skip_named : IsNoneOrNamed (r.skip l)
  skip_named some = go (g.held.skips l (r.skip l - 1) (omega (arith, some)))
    where
      go : MayPass w.sender r l (r.skip l - 1) → IsNamed (r.skip l - 1)
      go (inl gone) = let x = g.sound.abandoned l (r.skip l - 1) gone in (x.0, x.1)
      go (inr seen) = (seen.message, seen.named)

  piece_named : (x : Piece) (n : ℕ) → Has r.kept x → x.lane ≡ l → x.number ≡ Some n → IsNoneOrNamed (suc n)
  piece_named x n has lane number some =
      let y = g.held.kept x has in
      let own = number_is w.format w.sender.plan x y (numbered_there x.lane lane) in
      let same : y.number ≡ n = cc (own, number) in
      let back : n ≡ suc n - 1 = omega arith in
      subst IsNamed back (y.message, renamed (λ (k : Lane) (o : ℕ). message_at w.sender.plan k o ≡ Some y.message) x.lane l y.number n lane same y.named)

  message_named : (h : Handed) (n : ℕ) → Has (handed r s) h → h.lane ≡ l → h.number ≡ Some n → IsNoneOrNamed (suc n)
  message_named h n has lane number some =
      let honest = g.held.told.honest s h has in
      let own = honest.counted (numbered_there h.lane lane) in
      let same : honest.sent.number ≡ n = cc (own, number) in
      let back : n ≡ suc n - 1 = omega arith in
      subst IsNamed back (honest.sent.message, renamed (λ (k : Lane) (o : ℕ). message_at w.sender.plan k o ≡ Some honest.sent.message) h.lane l honest.sent.number n lane same honest.sent.complete.0)

  past_named : IsNoneOrNamed (past_top r s)
  past_named =
      of_larger IsNoneOrNamed (r.skip l) (max (past_kept l r.kept) (past_handed l (handed r s))) skip_named
      (of_larger IsNoneOrNamed (past_kept l r.kept) (past_handed l (handed r s)) (kept_has IsNoneOrNamed l r.kept at_zero piece_named)
      (handed_has IsNoneOrNamed l (handed r s) at_zero message_named))

-- ---- the counts

pub get_there : {A : Type 0} (xs : List A) (n : ℕ) → n < length xs → (x : A) × (slice_get xs n ≡ Some x)
get_there [] n lt = absurd (omega arith)
get_there (y ∷ ys) zero lt = (y, refl)
get_there (y ∷ ys) (suc n) lt = get_there ys n (omega arith)

module _ (w : Way) (g : Good w) (idle : IsIdle w.format w.receiver) (s : ℕ) (closed : IsAllClosed w.sender.plan s)
    (reached : (i : ℕ) (e : Entry) (l : Lane) (n : ℕ) → entry_at w.sender.plan i ≡ Some e → IsOf l n e → l.stream ≡ s → Reaches w.receiver i) where
  ordered_count : w.receiver.next s ≡ length (w.sender.plan.messages (ordered_lane s))
  ordered_count = go (cases_lt (w.receiver.next s) (length (w.sender.plan.messages (ordered_lane s)))) (cases_lt (length (w.sender.plan.messages (ordered_lane s))) (w.receiver.next s))
    where
      N : ℕ
      N = length (w.sender.plan.messages (ordered_lane s))

      known : (n : ℕ) → w.sender.abandoned (ordered_lane s) n ≡ true → (m : Message) × (message_at w.sender.plan (ordered_lane s) n ≡ Some m)
      known n gone = let x = g.sound.abandoned (ordered_lane s) n gone in (x.0, x.1)

      go : (w.receiver.next s < N) ⊎ (N ≤ w.receiver.next s) → (N < w.receiver.next s) ⊎ (w.receiver.next s ≤ N) → w.receiver.next s ≡ N
      go (inl less) other =
          let m = get_there (w.sender.plan.messages (ordered_lane s)) (w.receiver.next s) less in
          absurd (not_all_reached w.format w.sender w.receiver s g.held (idle.ordered s) g.arranged (closed (ordered_lane s) (w.receiver.next s) m.0 refl m.1)
          (λ i e here own. reached i e (ordered_lane s) (w.receiver.next s) here own refl))
      go (inr least) (inr most) = omega (arith, least, most)
      go (inr least) (inl more) =
          let first = begun_below w.format w.sender w.receiver s g.arranged g.held known N more in
          let m = message_of w.format w.sender.plan g.arranged first.0 (Part (ordered_lane s) N 0) (ordered_lane s) N first.1 (refl, refl) in
          let within = slice_get-within (w.sender.plan.messages (ordered_lane s)) N m.0 m.1 in
          absurd (omega (arith, within))

  unordered_count : is_numbered w.format Unordered ≡ true → past_top w.receiver s ≡ length (w.sender.plan.messages (unordered_lane s))
  unordered_count numbered = go (cases_lt (past_top w.receiver s) (length (w.sender.plan.messages (unordered_lane s)))) (cases_lt (length (w.sender.plan.messages (unordered_lane s))) (past_top w.receiver s))
    where
      N : ℕ
      N = length (w.sender.plan.messages (unordered_lane s))

      go : (past_top w.receiver s < N) ⊎ (N ≤ past_top w.receiver s) → (N < past_top w.receiver s) ⊎ (past_top w.receiver s ≤ N) → past_top w.receiver s ≡ N
      go (inl less) other =
          let m = get_there (w.sender.plan.messages (unordered_lane s)) (past_top w.receiver s) less in
          let first = g.arranged.begun (unordered_lane s) (past_top w.receiver s) m.0 m.1 in
          let low = reached_low w g s numbered first.0 (past_top w.receiver s) (Part (unordered_lane s) (past_top w.receiver s) 0) first.1 (refl, refl)
          (reached first.0 (Part (unordered_lane s) (past_top w.receiver s) 0) (unordered_lane s) (past_top w.receiver s) first.1 (refl, refl) refl) in
          absurd (omega (arith, low))
      go (inr least) (inr most) = omega (arith, least, most)
      go (inr least) (inl more) =
          let m = past_named w g s numbered (omega (arith, more)) in
          let within = slice_get-within (w.sender.plan.messages (unordered_lane s)) (past_top w.receiver s - 1) m.0 m.1 in
          absurd (omega (arith, within, more))

  -- of each numbered lane
  pub all_counted : (k : Kind) → is_numbered w.format k ≡ true → count_on w.receiver s k ≡ length (w.sender.plan.messages (record { stream = s; kind = k }))
  all_counted Ordered numbered = ordered_count
  all_counted Unordered numbered = unordered_count numbered
