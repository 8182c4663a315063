-- What is known of the places of resets at an endpoint and its table, and what an event and a report leave of it.
use Rattle.std.proofs.Common.{◌≡◌, ◌⊎◌, ℕ, zero, suc, ◌+◌, ◌-◌, ◌<◌, ◌≤◌, ◌==◌, ◌&&◌, not, Bool, true, false, List, [], ◌∷◌, ◌++◌, length, length-append, Option, Some, None, is_some, inl, inr, refl, sym, subst, ap, ◌∙◌, arith, if◌then◌else◌}
use Rattle.std.proofs.lemmas.Bool.{and_parts, cases_lt}
use Rattle.std.proofs.lemmas.Bool.Decides.{nat_tests}
use Rattle.sctp_model.specs.numbers.Lists.{at}
use Rattle.sctp_model.specs.receiver.ReceiverView.{Handed, ReceiverView, handed}
use Rattle.sctp_model.specs.end.EndView.{EndView, ended_of}
use Rattle.sctp_channels.specs.declared.stream.Stream.{Stream}
use Rattle.sctp_channels.specs.Streams.{unused, is_reset, is_drained, Table, stream_at, with_stream, first_from}
use Rattle.sctp_channels.specs.Told.{Closed, Report}
use Rattle.sctp_channels.specs.Coming.{After, comes, one_taken, heard, left_over}
use Rattle.sctp_channels.specs.Calling.{outgoing}
use Rattle.sctp_channels.specs.Settling.{is_asked, is_closed, is_closing, is_resetting_out}
use Rattle.sctp_channels.specs.Events.{Reported, first_taken_at, quiet, reports_closed, reports_low, reports_taken, reports_waiting, reports_message, is_empty, is_readable, readable_from, or_else, turn, next_report, with_left_over}
use Rattle.sctp_channels.proofs.Promised.{Keeps, comes_keeps, report_turns, turn_passes, beyond, same_or_not}
use Rattle.sctp_channels.proofs.Marks.{own_taken, other_taken}
use Rattle.sctp_channels.proofs.Closings.{put_at}
use Rattle.sctp_channels.proofs.Places.{IsNotedAt, AtFirst, AtSecond, AreInOrder, KeepsPlaces, keeps_places, taken_places, LeavesPlaces, leaves_places}

-- ---- what is read

first_none : (test : ℕ → Bool) (i many k : ℕ) → first_from test i many ≡ None → i ≤ k → k < i + many → test k ≡ false
first_none test i zero k none low high = absurd (omega (arith, low, high))
first_none test i (suc m) k none low high = go (test i) refl none (λ further le. first_none test (suc i) m k further le (omega (arith, high)))
  where
    go : (b : Bool) → test i ≡ b → (if b then Some i else first_from test (suc i) m) ≡ None → (first_from test (suc i) m ≡ None → suc i ≤ k → test k ≡ false) → test k ≡ false
    go true on here further = absurd (cc here)
    go false off here further = elim (cases_lt i k) [
      | inl lt ↦ further here (omega (arith, lt))
      | inr le ↦ subst (λ (j : ℕ). test j ≡ false) (let e : i ≡ k = omega (arith, low, le) in e) off
    ]

-- if no stream is in turn none is readable
none_readable : (v : EndView) (x : Table) (n : ℕ) → n < 65_536 → turn v x ≡ None → is_readable v x n ≡ false
none_readable v x n small none = go (readable_from v x x.next) none
  where
    go : (o : Option ℕ) → or_else o (readable_from v x 0) ≡ None → is_readable v x n ≡ false
    go (Some s) is = absurd (cc is)
    go None is = first_none (is_readable v x) 0 (65_536 - 0) n is (omega arith) (omega (arith, small))

empty_is : (hs : List Handed) → is_empty hs ≡ true → length hs ≡ 0
empty_is [] on = refl
empty_is (h ∷ hs) on = absurd (cc on)

unread : (a b : Bool) → (not a && not b) ≡ false → (a ≡ true) ⊎ (b ≡ true)
unread true b off = inl refl
unread false true off = inr refl
unread false false off = absurd (cc off)

pub none_left : (z : Stream) → is_drained z ≡ true → z.left ≡ 0
none_left z on = let zero_is = (and_parts (is_reset z.resets) (z.left == 0) on).1 in grind (arith, nat_tests, zero_is)

not_true : (b : Bool) → not b ≡ true → b ≡ false
not_true true is = absurd (cc is)
not_true false is = refl

-- as many were delivered, once one of them was taken
own_rest : (f : ℕ → List Handed) (n : ℕ) (rest : List Handed) → length (at f n rest n) ≡ length rest
own_rest f n rest = go (n == n) refl
  where
    go : (b : Bool) → (n == n) ≡ b → length (if b then rest else f n) ≡ length rest
    go true is = refl
    go false is = absurd (grind (arith, nat_tests, is))

other_rest : (f : ℕ → List Handed) (i n : ℕ) (rest : List Handed) → (n ≡ i → ⊥) → length (at f i rest n) ≡ length (f n)
other_rest f i n rest ne = go (n == i) refl
  where
    go : (b : Bool) → (n == i) ≡ b → length (if b then rest else f n) ≡ length (f n)
    go true is = absurd (ne (grind (arith, nat_tests, is)))
    go false is = refl

-- ---- one stream of an endpoint

module _ (n : ℕ) where
  -- so many messages were taken from it, and so many delivered
  abbrev pub took : EndView → ℕ
  took v = length (v.receiver.taken n)

  abbrev pub got : EndView → ℕ
  got v = length (handed v.receiver n)

  pub got_is : (v : EndView) → got v ≡ took v + length (v.receiver.waiting n)
  got_is v = length-append (v.receiver.taken n) (v.receiver.waiting n)

  -- T says at which places a reset was told. Each of them was passed when B messages had been taken, or is noted; and what is to be told isn't before them.
  pub record Holds (T : ℕ → Type 0) (B : ℕ) (v : EndView) (z : Stream) : Type 0 where
    pub each : (p : ℕ) → T p → (p ≤ B) ⊎ IsNotedAt (took v) z p
    pub order : AreInOrder z
    pub within : (p : ℕ) → IsNotedAt (took v) z p → p ≤ got v
    pub pending : (c : ℕ) → v.receiver.resets.told n ≡ Some c → (took v ≤ c) × (c ≤ got v)
    pub behind : (c : ℕ) → v.receiver.resets.told n ≡ Some c → (p : ℕ) → IsNotedAt (took v) z p → p ≤ c

  -- of fewer places, or if more were passed
  pub holds_more : (T U : ℕ → Type 0) (B C : ℕ) (v : EndView) (z : Stream) → ((p : ℕ) → U p → T p) → B ≤ C → Holds T B v z → Holds U C v z
  holds_more T U B C v z fewer more h = record {
    each = λ p u. elim (h.each p (fewer p u)) [ inl le ↦ inl (omega (arith, le, more)) | inr noted ↦ inr noted ];
    order = h.order;
    within = h.within;
    pending = h.pending;
    behind = h.behind;
  }

  -- the stream keeps its places
  pub holds_keeps : (T : ℕ → Type 0) (B : ℕ) (v : EndView) (x z : Stream) → KeepsPlaces (took v) x (took v) z → Holds T B v x → Holds T B v z
  holds_keeps T B v x z k h = record {
    each = λ p t. elim (h.each p t) [ inl le ↦ inl le | inr noted ↦ inr (k.on p noted) ];
    order = k.order h.order;
    within = λ p noted. h.within p (k.back p noted);
    pending = h.pending;
    behind = λ c is p noted. h.behind c is p (k.back p noted);
  }

  -- the endpoint goes on, and nothing of the stream is taken
  pub holds_view : (T : ℕ → Type 0) (B : ℕ) (v u : EndView) (z : Stream) → took u ≡ took v → got v ≤ got u →
      ((c : ℕ) → u.receiver.resets.told n ≡ Some c → (v.receiver.resets.told n ≡ Some c) ⊎ (c ≡ got v)) → Holds T B v z → Holds T B u z
  holds_view T B v u z same grown told h = record {
    each = λ p t. elim (h.each p t) [ inl le ↦ inl le | inr noted ↦ inr (subst (λ (m : ℕ). IsNotedAt m z p) (sym same) noted) ];
    order = h.order;
    within = λ p noted. let le = h.within p (was p noted) in omega (arith, le, grown);
    pending = λ c is. elim (told c is) [
      | inl before ↦ let k = h.pending c before in let a = k.0 in let b = k.1 in (omega (arith, a, same), omega (arith, b, grown))
      | inr now ↦ let k = got_is v in (omega (arith, now, same, k), omega (arith, now, grown))
    ];
    behind = λ c is p noted. elim (told c is) [
      | inl before ↦ h.behind c before p (was p noted)
      | inr now ↦ let le = h.within p (was p noted) in omega (arith, le, now)
    ];
  }
    where
      was : (p : ℕ) → IsNotedAt (took u) z p → IsNotedAt (took v) z p
      was p noted = subst (λ (m : ℕ). IsNotedAt m z p) same noted

  -- a message of the stream is taken before the first place, and no reset is to be told
  pub holds_taken : (T : ℕ → Type 0) (B : ℕ) (v u : EndView) (x z : Stream) → took u ≡ suc (took v) → got u ≡ got v → u.receiver.resets.told n ≡ None → KeepsPlaces (took v) x (suc (took v)) z → Holds T B v x →
      Holds T B u z
  holds_taken T B v u x z one same none k h = record {
    each = λ p t. elim (h.each p t) [ inl le ↦ inl le | inr noted ↦ inr (subst (λ (m : ℕ). IsNotedAt m z p) (sym one) (k.on p noted)) ];
    order = k.order h.order;
    within = λ p noted. let le = h.within p (k.back p (subst (λ (m : ℕ). IsNotedAt m z p) one noted)) in omega (arith, le, same);
    pending = λ c is. absurd (cc (none, is));
    behind = λ c is. absurd (cc (none, is));
  }

  -- the stream is left
  pub holds_left : (T : ℕ → Type 0) (B : ℕ) (v : EndView) (x : Stream) → took v ≤ B → (is_reset x.resets ≡ true → x.left ≡ 0) → Holds T B v x → Holds T B v (left_over x)
  holds_left T B v x low passed h =
      let k = leaves_places (took v) x passed in
      record {
        each = λ p t. elim (h.each p t) [
          | inl le ↦ inl le
          | inr noted ↦ elim (k.on p noted) [ inl le ↦ inl (omega (arith, le, low)) | inr next ↦ inr next ]
        ];
        order = k.order;
        within = λ p noted. h.within p (k.back p noted);
        pending = h.pending;
        behind = λ c is p noted. h.behind c is p (k.back p noted);
      }

  -- ---- what is told next

  module _ (small : n < 65_536) (T : ℕ → Type 0) (B : ℕ) (v : EndView) (x : Table) (h : Holds T B v (stream_at x n)) where
    -- a message of the stream is taken with all resets told; and the stream is left only with its messages passed
    abbrev pub May : Reported → Type 0
    May q = ((took q.view ≡ took v) ⊎ (q.view.receiver.resets.told n ≡ None)) × ((took v ≤ B) ⊎ (q.report ≡ Some (record { stream = n; told = Closed }) → ⊥))

    abbrev pub P : Reported → Type 0
    P q = May q → Holds T B q.view (stream_at q.table n)

    own : (i : ℕ) → i ≡ n → Holds T B v (stream_at x i)
    own i e = subst (λ (j : ℕ). Holds T B v (stream_at x j)) (sym e) h

    leaves : (i : ℕ) → (i ≡ n → is_reset (stream_at x i).resets ≡ true → (stream_at x i).left ≡ 0) → P (reports_closed i v x)
    leaves i passed may = put_at (Holds T B v) x i n (left_over (stream_at x i)) (λ e lt. elim may.1 [
      | inl low ↦ holds_left T B v (stream_at x i) low (passed e) (own i e)
      | inr off ↦ absurd (off (ap (λ (k : ℕ). Some (record { stream = k; told = Closed })) e))
    ]) (λ beside. h)

    drained : (i : ℕ) → is_closed v x i ≡ true → (stream_at x i).left ≡ 0
    drained i on =
        let y = stream_at x i in
        none_left y (and_parts (is_drained y) (is_asked y.due && not (is_resetting_out v i)) (and_parts (is_closing y.state) (is_drained y && (is_asked y.due && not (is_resetting_out v i))) on).1).0

    -- once the association is over, and no stream is in turn
    passed_over : turn v x ≡ None → is_reset (stream_at x n).resets ≡ true → (stream_at x n).left ≡ 0
    passed_over idle on = elim (unread (is_empty (v.receiver.waiting n)) (is_drained (stream_at x n)) (none_readable v x n small idle)) [
      | inr all ↦ none_left (stream_at x n) all
      | inl none ↦
          let le = h.within (took v + (stream_at x n).left) (AtFirst on refl) in
          let k = got_is v in
          let e = empty_is (v.receiver.waiting n) none in
          omega (arith, le, k, e)
    ]

    module _ (i : ℕ) (on : is_readable v x i ≡ true) (g : Handed) (rest : List Handed) (waits : v.receiver.waiting i ≡ g ∷ rest) where
      abbrev k : After
      k = comes x.role (outgoing v x) i g (stream_at x i)

      keeps : Keeps (stream_at x i) k.stream
      keeps = comes_keeps x.role (outgoing v x) i g (stream_at x i)

      undrained : is_drained (stream_at x i) ≡ false
      undrained = not_true (is_drained (stream_at x i)) (and_parts (not (is_empty (v.receiver.waiting i))) (not (is_drained (stream_at x i))) on).1

      abbrev u : EndView
      u = first_taken_at v i g rest

      -- it is taken from this stream
      one : i ≡ n → took u ≡ suc (took v)
      one e = subst (λ (j : ℕ). length (at v.receiver.taken j (v.receiver.taken j ++ g ∷ []) n) ≡ suc (took v)) (sym e) (own_taken v.receiver.taken n g)

      as_many : i ≡ n → got u ≡ got v
      as_many e =
          let left : length (u.receiver.waiting n) ≡ length rest = subst (λ (j : ℕ). length (at v.receiver.waiting j rest n) ≡ length rest) (sym e) (own_rest v.receiver.waiting n rest) in
          let before : length (v.receiver.waiting n) ≡ suc (length rest) = ap length (subst (λ (j : ℕ). v.receiver.waiting j ≡ g ∷ rest) e waits) in
          let a = got_is u in let b = got_is v in let c = one e in omega (arith, a, b, c, left, before)

      untold : i ≡ n → (took u ≡ took v) ⊎ (u.receiver.resets.told n ≡ None) → u.receiver.resets.told n ≡ None
      untold e (inl same) = absurd (let o = one e in omega (arith, o, same))
      untold e (inr none) = none

      still : is_drained k.stream ≡ false
      still = let r = keeps.resets in let l = keeps.left in let off = undrained in rw (r, l) off

      own_one : i ≡ n → k.taken ≡ true → (took u ≡ took v) ⊎ (u.receiver.resets.told n ≡ None) → Holds T B u (heard k)
      own_one e is how =
          let there = holds_keeps T B v (stream_at x i) k.stream (keeps_places (took v) (stream_at x i) k.stream keeps) (own i e) in
          subst (Holds T B u) (sym (let same : heard k ≡ one_taken k.stream = rw is refl in same))
          (holds_taken T B v u k.stream (one_taken k.stream) (one e) (as_many e) (untold e how) (taken_places (took v) k.stream still there.order) there)

      -- which the table doesn't have
      own_none : i ≡ n → length x.streams ≤ n → (took u ≡ took v) ⊎ (u.receiver.resets.told n ≡ None) → Holds T B u (stream_at x n)
      own_none e le how =
          let is = beyond x.streams n unused le in
          subst (Holds T B u) (sym is)
          (holds_taken T B v u unused unused (one e) (as_many e) (untold e how) (taken_places (took v) unused refl (λ on. absurd (cc on))) (subst (Holds T B v) is h))

      -- from another one
      other_one : (n ≡ i → ⊥) → Holds T B u (stream_at x n)
      other_one ne =
          let a = other_taken v.receiver.taken i n g ne in
          let b = other_rest v.receiver.waiting i n rest ne in
          holds_view T B v u (stream_at x n) a (let c = got_is u in let f = got_is v in omega (arith, a, b, c, f)) (λ c is. inl is) h

      by_taken : (b : Bool) → k.taken ≡ b → P (if b then reports_taken i g rest k v x else reports_waiting i k v x)
      by_taken true is may = go (same_or_not i n)
        where
          beside : i ≡ n → (n ≡ i → ⊥) ⊎ (length x.streams ≤ n) → Holds T B u (stream_at x n)
          beside e (inl ne) = absurd (ne (sym e))
          beside e (inr le) = own_none e le may.0

          go : (i ≡ n) ⊎ (n ≡ i → ⊥) → Holds T B u (stream_at (with_stream x i (heard k)) n)
          go (inl e) = put_at (Holds T B u) x i n (heard k) (λ _ lt. own_one e is may.0) (beside e)
          go (inr ne) = put_at (Holds T B u) x i n (heard k) (λ e lt. absurd (ne (sym e))) (λ off. other_one ne)
      by_taken false is may = put_at (Holds T B v) x i n (heard k)
          (λ e lt. subst (Holds T B v) (sym (let same : heard k ≡ k.stream = rw is refl in same)) (holds_keeps T B v (stream_at x i) k.stream (keeps_places (took v) (stream_at x i) k.stream keeps) (own i e))) (λ off. h)

    by_waiting : (i : ℕ) → is_readable v x i ≡ true → (hs : List Handed) → v.receiver.waiting i ≡ hs → P (reports_message i hs v x)
    by_waiting i on [] waits may = h
    by_waiting i on (g ∷ rest) waits may = by_taken i on g rest waits (comes x.role (outgoing v x) i g (stream_at x i)).taken refl may

    pub report_holds : P (next_report v x)
    report_holds = report_turns P v x (λ i on. leaves i (λ e reset. drained i on)) (λ i may. h) (λ i is. by_waiting i (turn_passes v x i is) (v.receiver.waiting i) refl) (λ may. h)
        (λ i on idle. leaves i (λ e. subst (λ (j : ℕ). is_reset (stream_at x j).resets ≡ true → (stream_at x j).left ≡ 0) (sym e) (passed_over idle)))
