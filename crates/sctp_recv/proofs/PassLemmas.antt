-- A FORWARD on one stream after the other: what is due on each is delivered in a view, and the bytes held are counted.
use Rattle.std.proofs.Common.{◌≡◌, ℕ, suc, ◌+◌, ◌-◌, ◌^◌, ◌<◌, ◌≤◌, max, true, false, List, [], ◌∷◌, ◌++◌, length, set, Some, inl, inr, refl, sym, ◌∙◌, ap, subst, arith}
use Rattle.std.specs.Prelude.{not, slice_get}
use Rattle.std.proofs.lemmas.Bool.{cases_eq}
use Rattle.sctp_model.specs.numbers.Lists.{Has, at}
use Rattle.sctp_model.specs.wire.Chunk.{SkipMeaning}
use Rattle.sctp_model.specs.messages.Format.{Format, Interleaved, Ordered, Unordered, Lane, ordered_lane, unordered_lane}
use Rattle.sctp_model.specs.messages.Framing.{lets_go}
use Rattle.sctp_model.specs.messages.Pieces.{Piece}
use Rattle.sctp_model.specs.receiver.ReceiverView.{Handed, ReceiverView, size_of_pieces, size_of_messages, size_of_waiting}
use Rattle.sctp_model.specs.receiver.Receiving.{IsDue, Stop, IsWholeNumber, HasNoWhole, is_below, without_below, handed_ordered, GivesAll}
use Rattle.sctp_model.specs.receiver.ResetTaken.{past_top}
use Rattle.sctp_model.proofs.receiver.Giving.{at_here, at_elsewhere}
use Rattle.sctp_model.proofs.receiver.HeldBytes.{filter_size}
use Rattle.sctp_model.proofs.receiver.OfLane.{whole_of, of_below, of_below_other, off_below, size_of_lane}
use Rattle.sctp_model.proofs.receiver.OneStep.{filter_has}
use Rattle.sctp_model.proofs.receiver.Sizes.{due_size}
use Rattle.sctp_chains.specs.WholeOf.{from_number}
use Rattle.sctp_recv.specs.declared.stream.Stream.{Stream}
use Rattle.sctp_recv.specs.declared.restart.Restart.{Restart}
use Rattle.sctp_recv.specs.Fields.{inside, stream_of}
use Rattle.sctp_model.specs.receiver.KeptOfLane.{of_lane}
use Rattle.sctp_recv.specs.Filed.{Keeps, IsFiledOn}
use Rattle.sctp_recv.specs.ReceiverKept.{StreamKept, past_of}
use Rattle.sctp_recv.specs.inner.Giving.{sized, IsDueView}
use Rattle.sctp_recv.specs.inner.Forwarding.{next_after, skip_after, stay, IsQuiet, PassesOn, IsStreamOf, AreToPass}
use Rattle.sctp_recv.proofs.PastLaws.{past_given, past_all_given}
use Rattle.sctp_recv.proofs.StreamLemmas.{waiting_set, size_append}
use Rattle.sctp_recv.proofs.FiledLemmas.{got_set_same, got_set_other, one_got, sum_to, sum_same, sum_upto, stream_size, all_sizes}

-- a stream's numbers and messages are the view's, those of unordered messages too
abbrev pub IsPassed : {F : Type 0} → Format → ReceiverView → (q : ℕ) → Stream F → Type 0
IsPassed f t q x = IsStreamOf t q x × (t.skip (unordered_lane q) ≡ (stream_of x).skip) × (f ≡ Interleaved → past_top t q ≡ past_of (stream_of x))

-- What came of the streams below k, in a view that r leads to.
pub record IsUpTo {F : Type 0} (f : Format) (v r : ReceiverView) (olds now : List (Stream F)) (bytes left k : ℕ) (t : ReceiverView) : Type 0 where
  pub gives : GivesAll f k r t
  pub done : (q : ℕ) (x : Stream F) → q < k → slice_get now q ≡ Some x → IsFiledOn f t.kept q x × IsPassed f t q x
  pub later : (q : ℕ) → k ≤ q → slice_get now q ≡ slice_get olds q
  pub kept : (q : ℕ) → k ≤ q → of_lane (ordered_lane q) t.kept ≡ of_lane (ordered_lane q) r.kept
  pub loose : (q : ℕ) → of_lane (unordered_lane q) t.kept ≡ of_lane (unordered_lane q) r.kept
  pub next : (q : ℕ) → k ≤ q → t.next q ≡ r.next q
  pub waiting : (q : ℕ) → k ≤ q → t.waiting q ≡ r.waiting q
  pub skip : t.skip ≡ r.skip
  pub within : (y : Piece) → Has t.kept y → Has r.kept y
  pub held : left + sum_to (stream_size v.kept) k + size_of_waiting v.waiting (length olds) ≡ bytes + sum_to (stream_size t.kept) k + size_of_waiting t.waiting (length olds)
  pub less : sum_to (stream_size t.kept) k + size_of_waiting t.waiting (length olds) ≤ sum_to (stream_size v.kept) k + size_of_waiting v.waiting (length olds)
  pub more : size_of_waiting v.waiting (length olds) ≤ size_of_waiting t.waiting (length olds)

pub upto_first : {F : Type 0} (f : Format) (b : ℕ → Restart) (jump : ℕ) (xs : List SkipMeaning) (v r : ReceiverView) (olds : List (Stream F)) (held : ℕ) → AreToPass f b jump xs v r olds held → IsUpTo f v r olds olds held held 0 r
upto_first f b jump xs v r olds held h = record {
  gives = refl;
  done = λ q x low got. absurd (omega (arith, low));
  later = λ q high. refl;
  kept = λ q high. refl;
  loose = λ q. refl;
  next = λ q high. refl;
  waiting = λ q high. refl;
  skip = refl;
  within = λ y has. has;
  held = let same = waits in omega (arith, same);
  less = let same = waits in omega (arith, same);
  more = let same = waits in omega (arith, same);
}
  where
    waits : size_of_waiting r.waiting (length olds) ≡ size_of_waiting v.waiting (length olds)
    waits = ap (λ (w : ℕ → List Handed). size_of_waiting w (length olds)) h.waiting

-- the bytes held less those of a stream before, and with those after and those handed over
left_counted : (left before after given now : ℕ) → before ≤ left → after + given ≤ before → left < 2 ^ 32 → now ≡ sized (sized (left - sized before + sized after) + sized given) → now + before ≡ left + after + given
left_counted left before after given now part less small is =
    let b : sized before ≡ before = omega (arith, part, small) in
    let a : sized after ≡ after = omega (arith, part, less, small) in
    let g : sized given ≡ given = omega (arith, part, less, small) in
    let first : sized (left - sized before + sized after) ≡ left - before + after = omega (arith, a, b, part, less, small) in
    omega (arith, is, first, g, part, less, small)

lanes_apart : (q p : ℕ) → (q ≡ p → ⊥) → ordered_lane q ≡ ordered_lane p → ⊥
lanes_apart q p other e = other (ap (λ (l : Lane). l.stream) e)

kinds_apart : (q p : ℕ) → unordered_lane q ≡ ordered_lane p → ⊥
kinds_apart q p e = let no : Unordered ≡ Ordered = ap (λ (l : Lane). l.kind) e in cc

module _ {F : Type 0} (f : Format) (b : ℕ → Restart) (jump : ℕ) (xs : List SkipMeaning) (v r : ReceiverView) (olds now : List (Stream F)) (held left k : ℕ) (t : ReceiverView) (h : AreToPass f b jump xs v r olds held)
    (u : IsUpTo f v r olds now held left k t) (x : Stream F) (low : k < length olds) (size : length now ≡ length olds) (got : slice_get olds k ≡ Some x) where
  own : of_lane (ordered_lane k) t.kept ≡ of_lane (ordered_lane k) v.kept
  own = u.kept k (omega arith) ∙ h.ordered k

  next_is : t.next k ≡ (stream_of x).next
  next_is = u.next k (omega arith) ∙ ap (λ (g : ℕ → ℕ). g k) h.next ∙ (h.stream k x got).next

  waiting_is : t.waiting k ≡ (stream_of x).waiting
  waiting_is = u.waiting k (omega arith) ∙ ap (λ (g : ℕ → List Handed). g k) h.waiting ∙ (h.stream k x got).waiting

  skip_is : t.skip (ordered_lane k) ≡ r.skip (ordered_lane k)
  skip_is = ap (λ (g : Lane → ℕ). g (ordered_lane k)) u.skip

  view : IsDueView f (of_lane (ordered_lane k) v.kept) k (stream_of x).next (next_after f (b k) k (stream_of x) xs) t
  view = record {
    same = own;
    above = let both = h.floor k x got in let s = skip_is in omega (arith, both, s);
    skipped = λ n lo hi. let both = h.floor k x got in let s = skip_is in omega (arith, both, s, lo, hi);
  }

  part : stream_size v.kept k ≤ left
  part =
      let held_is = h.held in
      let all = all_sizes (length olds) v.kept h.filed.there in
      let up = sum_upto (stream_size v.kept) (suc k) (length olds) (omega (arith, low)) in
      let sum = u.held in
      let more = u.more in
      omega (arith, held_is, all, up, sum, more)

  under : left ≤ held
  under = let sum = u.held in let less = u.less in omega (arith, sum, less)

  -- a stream that is quiet is passed as it is
  pub nothing : IsQuiet f (b k) jump xs v k x → PassesOn f (b k) k jump xs (of_lane (ordered_lane k) v.kept) (of_lane (unordered_lane k) v.kept) (inside x) (inside x) left left
  nothing q = record {
    messages = [];
    next = (stream_of x).next;
    due = λ w is. Stop (stream_of x).next (let above = is.above in let same = q.ordered in omega (arith, above, same)) (none_as w is.same);
    ordered = subst (λ (ps : List Piece). Keeps f (inside x) false (ordered_lane k) ps) (sym q.clear) (h.filed.each k x got).ordered;
    unordered = subst (λ (ps : List Piece). Keeps f (inside x) true (unordered_lane k) ps) (sym none_go) (h.filed.each k x got).unordered;
    stream = λ i. record (stream_of x) { next = (stream_of x).next; skip = sym q.unordered i; waiting = sym (none_more (stream_of x).waiting) i };
    bytes =
        let same = ap size_of_pieces q.clear in
        let loose = ap size_of_pieces none_go in
        let own_part = part in
        let small = h.small in
        let low_left = under in
        omega (arith, same, loose, own_part, small, low_left);
  }
    where
      none_as : (w : ReceiverView) → of_lane (ordered_lane k) w.kept ≡ of_lane (ordered_lane k) v.kept → HasNoWhole f w.kept (ordered_lane k) (stream_of x).next
      none_as w same ys whole = q.none ys
          ((whole_of f v.kept (ordered_lane k) (stream_of x).next ys).1 (subst (λ (ps : List Piece). IsWholeNumber f ps (ordered_lane k) (stream_of x).next ys) same ((whole_of f w.kept (ordered_lane k) (stream_of x).next ys).0 whole)))

      none_more : (ms : List Handed) → ms ++ [] ≡ ms
      none_more [] = refl
      none_more (m ∷ ms) = ap (λ (os : List Handed). m ∷ os) (none_more ms)

      none_go : stay f jump (skip_after f (b k) k (stream_of x) xs) (of_lane (unordered_lane k) v.kept) ≡ of_lane (unordered_lane k) v.kept
      none_go = ap (λ (n : ℕ). stay f jump n (of_lane (unordered_lane k) v.kept)) q.unordered ∙ q.stays

  module _ (y : Stream F) (now_left : ℕ) (p : PassesOn f (b k) k jump xs (of_lane (ordered_lane k) v.kept) (of_lane (unordered_lane k) v.kept) (inside x) (inside y) left now_left) where
    due : IsDue f t k (t.next k) p.messages p.next
    due = subst (λ (n : ℕ). IsDue f t k n p.messages p.next) (sym next_is) (p.due t view)

    own_after : of_lane (ordered_lane k) (without_below t.kept k p.next) ≡ from_number p.next (of_lane (ordered_lane k) v.kept)
    own_after = of_below k p.next t.kept ∙ ap (from_number p.next) own

    ordered_off : (q : ℕ) → (q ≡ k → ⊥) → of_lane (ordered_lane q) (without_below t.kept k p.next) ≡ of_lane (ordered_lane q) t.kept
    ordered_off q other = of_below_other (ordered_lane q) k p.next t.kept (lanes_apart q k other)

    unordered_off : (q : ℕ) → of_lane (unordered_lane q) (without_below t.kept k p.next) ≡ of_lane (unordered_lane q) t.kept
    unordered_off q = of_below_other (unordered_lane q) k p.next t.kept (kinds_apart q k)

    loose_after : of_lane (unordered_lane k) (without_below t.kept k p.next) ≡ stay f jump (skip_after f (b k) k (stream_of x) xs) (of_lane (unordered_lane k) v.kept)
    loose_after = unordered_off k ∙ u.loose k ∙ h.unordered k x got

    -- the stream itself
    here : IsFiledOn f (without_below t.kept k p.next) k y
    here = record {
      ordered = subst (λ (ps : List Piece). Keeps f (inside y) false (ordered_lane k) ps) (sym own_after) p.ordered;
      unordered = subst (λ (ps : List Piece). Keeps f (inside y) true (unordered_lane k) ps) (sym loose_after) p.unordered;
    }

    says : IsStreamOf (handed_ordered t k p.messages p.next) k y
    says = record {
      next = at_here t.next k p.next ∙ sym (ap (λ (a : StreamKept). a.next) p.stream);
      waiting = at_here t.waiting k (t.waiting k ++ p.messages) ∙ ap (λ (ms : List Handed). ms ++ p.messages) waiting_is ∙ sym (ap (λ (a : StreamKept). a.waiting) p.stream);
    }

    -- what is handed over in order says nothing of unordered numbers
    past_same : (q : ℕ) → past_top (handed_ordered t k p.messages p.next) q ≡ past_top t q
    past_same q = past_given f k t (handed_ordered t k p.messages p.next) q (p.messages, p.next, due, refl)

    past_here : f ≡ Interleaved → past_top (handed_ordered t k p.messages p.next) k ≡ past_of (stream_of y)
    past_here e =
        past_same k ∙ past_all_given f k r t k u.gives ∙ h.past k x got e
        ∙ (λ j. max (sym (ap (λ (a : StreamKept). a.skip) p.stream) j) (sym (ap (λ (a : StreamKept). a.past) p.stream) j))

    -- one that was done before
    still : (q : ℕ) (z : Stream F) → (q ≡ k → ⊥) → IsFiledOn f t.kept q z × IsPassed f t q z →
        IsFiledOn f (without_below t.kept k p.next) q z × IsPassed f (handed_ordered t k p.messages p.next) q z
    still q z other (on, (stream, skip, highest)) = (
      record {
        ordered = subst (λ (ps : List Piece). Keeps f (inside z) false (ordered_lane q) ps) (sym (ordered_off q other)) on.ordered;
        unordered = subst (λ (ps : List Piece). Keeps f (inside z) true (unordered_lane q) ps) (sym (unordered_off q)) on.unordered;
      },
      (
        record {
          next = at_elsewhere t.next k p.next q other ∙ stream.next;
          waiting = at_elsewhere t.waiting k (t.waiting k ++ p.messages) q other ∙ stream.waiting;
        },
        skip,
        λ e. past_same q ∙ highest e,
      ),
    )

    -- ---- bytes

    ordered_less : size_of_messages p.messages + size_of_pieces (of_lane (ordered_lane k) (without_below t.kept k p.next)) ≤ size_of_pieces (of_lane (ordered_lane k) v.kept)
    ordered_less =
        let all = due_size f t k (t.next k) p.messages p.next due in
        let a = size_of_lane (ordered_lane k) t.kept in
        let b = size_of_lane (ordered_lane k) (without_below t.kept k p.next) in
        let off = ap size_of_pieces (off_below k p.next t.kept) in
        let same = ap size_of_pieces own in
        omega (arith, all, a, b, off, same)

    unordered_less : size_of_pieces (of_lane (unordered_lane k) (without_below t.kept k p.next)) ≤ size_of_pieces (of_lane (unordered_lane k) v.kept)
    unordered_less =
        let less = filter_size (λ (z : Piece). not (lets_go f z.index z.number jump (skip_after f (b k) k (stream_of x) xs))) (of_lane (unordered_lane k) v.kept) in
        let same = ap size_of_pieces loose_after in
        omega (arith, less, same)

    fewer : stream_size (without_below t.kept k p.next) k + size_of_messages p.messages ≤ stream_size v.kept k
    fewer = let o = ordered_less in let w = unordered_less in omega (arith, o, w)

    waits : size_of_waiting (at t.waiting k (t.waiting k ++ p.messages)) (length olds) ≡ size_of_waiting t.waiting (length olds) + size_of_messages p.messages
    waits = let one = waiting_set t.waiting k (length olds) (t.waiting k ++ p.messages) low in let both = size_append (t.waiting k) p.messages in omega (arith, one, both)

    before_same : sum_to (stream_size (without_below t.kept k p.next)) k ≡ sum_to (stream_size t.kept) k
    before_same = sum_same (stream_size (without_below t.kept k p.next)) (stream_size t.kept) k
        (λ q less. let o = ap size_of_pieces (ordered_off q (λ e. omega (arith, less, e))) in let w = ap size_of_pieces (unordered_off q) in omega (arith, o, w))

    counted : now_left + stream_size v.kept k ≡ left + stream_size (without_below t.kept k p.next) k + size_of_messages p.messages
    counted =
        let o = ap size_of_pieces own_after in
        let w = ap size_of_pieces loose_after in
        let small = h.small in
        let low_left = under in
        left_counted left (stream_size v.kept k) (stream_size (without_below t.kept k p.next) k) (size_of_messages p.messages) now_left part fewer (omega (arith, small, low_left))
        (p.bytes ∙ (λ j. sized (sized (left - sized (stream_size v.kept k) + sized (sym o j + sym w j)) + sized (size_of_messages p.messages))))

    pub upto_next : IsUpTo f v r olds (set now k y) held now_left (suc k) (handed_ordered t k p.messages p.next)
    upto_next = record {
      gives = (t, u.gives, (p.messages, p.next, due, refl));
      done = λ q z less at_q. elim (cases_eq q k) [
        | inl same ↦
            let is : y ≡ z = one_got (slice_get (set now k y) k) y z (got_set_same now k y (omega (arith, low, size))) (ap (slice_get (set now k y)) (sym same) ∙ at_q) in
            let skip = ap (λ (g : Lane → ℕ). g (unordered_lane k)) u.skip ∙ h.skip k x got ∙ sym (ap (λ (a : StreamKept). a.skip) p.stream) in
            subst (λ (i : ℕ). IsFiledOn f (without_below t.kept k p.next) i z × IsPassed f (handed_ordered t k p.messages p.next) i z) (sym same)
            (subst (λ (w : Stream F). IsFiledOn f (without_below t.kept k p.next) k w × IsPassed f (handed_ordered t k p.messages p.next) k w) is (here, (says, skip, past_here)))
        | inr other ↦ still q z other (u.done q z (omega (arith, less, other)) (sym (got_set_other now k q y other) ∙ at_q))
      ];
      later = λ q high. got_set_other now k q y (λ e. omega (arith, high, e)) ∙ u.later q (omega (arith, high));
      kept = λ q high. ordered_off q (λ e. omega (arith, high, e)) ∙ u.kept q (omega (arith, high));
      loose = λ q. unordered_off q ∙ u.loose q;
      next = λ q high. at_elsewhere t.next k p.next q (λ e. omega (arith, high, e)) ∙ u.next q (omega (arith, high));
      waiting = λ q high. at_elsewhere t.waiting k (t.waiting k ++ p.messages) q (λ e. omega (arith, high, e)) ∙ u.waiting q (omega (arith, high));
      skip = u.skip;
      within = λ z has. u.within z (filter_has (λ (w : Piece). not (is_below k p.next w)) t.kept z has);
      held = let sum = u.held in let w = waits in let same = before_same in let c = counted in omega (arith, sum, w, same, c);
      less = let sum = u.less in let w = waits in let same = before_same in let f = fewer in omega (arith, sum, w, same, f);
      more = let more = u.more in let w = waits in omega (arith, more, w);
    }
