-- The streams that a FORWARD may change, and those that it leaves as they are.
use Rattle.std.proofs.Common.{◌≡◌, ℕ, zero, suc, ◌+◌, ◌<◌, ◌≤◌, ◌⊎◌, List, [], ◌∷◌, length, Option, None, Some, inl, inr, refl, sym, ◌∙◌, ap, subst, arith}
use Rattle.std.specs.Prelude.{false, nat_le, not, slice_get, slice_index_or}
use Rattle.std.specs.List.{Contains}
use Rattle.std.specs.List.Sorted.{IsNonDecreasing}
use Rattle.std.proofs.lemmas.Bool.{cases_Bool, cases_lt}
use Rattle.std.proofs.lemmas.Bool.Decides.{nat_tests}
use Rattle.std.proofs.lemmas.Option.{slice_get_read}
use Rattle.sctp_model.specs.numbers.Lists.{Has}
use Rattle.sctp_model.specs.wire.Chunk.{SkipMeaning}
use Rattle.sctp_model.specs.messages.Format.{Format, Plain, Interleaved, Unordered, Lane, same_lane, ordered_lane, unordered_lane}
use Rattle.sctp_model.specs.messages.Framing.{is_skipped, lets_go}
use Rattle.sctp_model.specs.messages.Pieces.{Piece}
use Rattle.sctp_model.specs.receiver.ReceiverView.{ReceiverView}
use Rattle.sctp_model.specs.receiver.Receiving.{is_below, without_below, HasNoWhole}
use Rattle.sctp_model.specs.receiver.Reading.{lane_of}
use Rattle.sctp_model.specs.receiver.KeptOfLane.{of_lane}
use Rattle.sctp_model.specs.receiver.Laws.{IsAtRest}
use Rattle.sctp_model.proofs.receiver.RowFacts.{lanes_same}
use Rattle.sctp_model.proofs.receiver.Filters.{filter_none}
use Rattle.sctp_model.proofs.receiver.OfLane.{of_says, of_below}
use Rattle.sctp_chains.specs.WholeOf.{from_number}
use Rattle.sctp_recv.specs.declared.stream.Stream.{Stream}
use Rattle.sctp_recv.specs.declared.restart.Restart.{Restart}
use Rattle.sctp_recv.specs.ReceiverKept.{near_of}
use Rattle.sctp_recv.specs.Fields.{stream_of}
use Rattle.sctp_recv.specs.StandsFor.{IsFindable, AreFindable}
use Rattle.sctp_recv.specs.inner.Forwarding.{most_skipped, stay, IsNamed, IsTouched, AreQuiet}
use Rattle.sctp_recv.specs.Lows.{IsMarked}
use Rattle.sctp_recv.specs.declared.places.Lows.{Lows}

-- ---- which streams are touched

pub named_kept : (s : ℕ) (old new : List ℕ) (x : SkipMeaning) (xs : List SkipMeaning) → ((q : ℕ) → Contains old q → Contains new q) → Contains new x.stream → Contains old s ⊎ IsNamed s (x ∷ xs) →
    Contains new s ⊎ IsNamed s xs
named_kept s old new x xs more here (inl there) = inl (more s there)
named_kept s old new x xs more here (inr (y, inl is, stream)) = inl (subst (Contains new) (ap (λ (z : SkipMeaning). z.stream) is ∙ stream) here)
named_kept s old new x xs more here (inr (y, inr later, stream)) = inr (y, later, stream)

pub named_all : (s : ℕ) (all : List ℕ) → Contains all s ⊎ IsNamed s [] → Contains all s
named_all s all (inl there) = there
named_all s all (inr (y, none, stream)) = absurd none

-- ---- which are not

-- So many of the streams touched lie below a stream, or aren't there.
abbrev pub AreBelow : (touched : List ℕ) (n next count : ℕ) → Type 0
AreBelow touched n next count = (i s : ℕ) → i < n → slice_get touched i ≡ Some s → (s < next) ⊎ (count ≤ s)

pub got_at : (xs : List ℕ) (i x d : ℕ) → i < length xs → x ≡ slice_index_or xs i d → slice_get xs i ≡ Some x
got_at [] i x d low is = absurd (omega (arith, low))
got_at (y ∷ xs) zero x d low is = ap Some (sym is)
got_at (y ∷ xs) (suc i) x d low is = got_at xs i x d (omega (arith, low)) is

got_or : (xs : List ℕ) (i x d : ℕ) → slice_get xs i ≡ Some x → slice_index_or xs i d ≡ x
got_or [] i x d got = absurd (let no : None ≡ Some x = got in cc)
got_or (y ∷ xs) zero x d got = cc
got_or (y ∷ xs) (suc i) x d got = got_or xs i x d got

-- one between them and the next one that is touched
pub between : (touched : List ℕ) (n next count s q : ℕ) → AreBelow touched n next count → IsNonDecreasing touched → slice_get touched n ≡ Some s → next ≤ q → q < s → q < count → Contains touched q → ⊥
between touched n next count s q below rising here past low there (i, within, is) = elim (cases_lt i n) [
  | inl before ↦ elim (below i q before (slice_get_read touched (length touched) i q refl within (sym is))) [ inl under ↦ omega (arith, under, past) | inr off ↦ omega (arith, off, there) ]
  | inr behind ↦
      let up = rising n i q behind within in
      let first = got_or touched n s q here in
      omega (arith, up, first, is, low)
]

-- one behind all of them
pub behind_all : (touched : List ℕ) (n next count q : ℕ) → AreBelow touched n next count → length touched ≤ n → next ≤ q → q < count → Contains touched q → ⊥
behind_all touched n next count q below all past there (i, within, is) =
    elim (below i q (omega (arith, within, all)) (slice_get_read touched (length touched) i q refl within (sym is))) [ inl under ↦ omega (arith, under, past) | inr off ↦ omega (arith, off, there) ]

pub below_more : (touched : List ℕ) (n next new count s : ℕ) → AreBelow touched n next count → slice_get touched n ≡ Some s → next ≤ new → (s < new) ⊎ (count ≤ s) → AreBelow touched (n + 1) new count
below_more touched n next new count s below here up now i q low got = elim (cases_lt i n) [
  | inl before ↦ elim (below i q before got) [ inl under ↦ inl (omega (arith, under, up)) | inr off ↦ inr off ]
  | inr behind ↦
      let same : n ≡ i = omega (arith, behind, low) in
      let is : s ≡ q = got_one (slice_get touched n) s q here (ap (slice_get touched) same ∙ got) in
      subst (λ (m : ℕ). (m < new) ⊎ (count ≤ m)) is now
]
  where
    got_one : (o : Option ℕ) (a b : ℕ) → o ≡ Some a → o ≡ Some b → a ≡ b
    got_one o a b e f = cc

-- ---- a stream that isn't touched is quiet

unnamed : (f : Format) (l : Lane) (base near : ℕ) (xs : List SkipMeaning) → ((x : SkipMeaning) → Has xs x → x.stream ≡ l.stream → ⊥) → most_skipped f l base near xs ≡ 0
unnamed f l base near [] other = refl
unnamed f l base near (x ∷ xs) other = elim (cases_Bool (same_lane l (lane_of x.stream x.unordered))) [
  | inl same ↦ absurd (other x (inl refl) (sym (ap (λ (k : Lane). k.stream) (lanes_same l (lane_of x.stream x.unordered) same))))
  | inr apart ↦ let more = unnamed f l base near xs (λ y there. other y (inr there)) in rw apart (omega (arith, more))
]

-- no unordered chunk goes from a stream to which the index doesn't lead, and that no entry names
none_left : (f : Format) (jump skip q : ℕ) (lows : Lows) (us : List Piece) → (IsMarked lows q jump → ⊥) → ((y : Piece) → Has us y → (y.lane.stream ≡ q) × IsFindable f lows skip y) →
    stay f jump skip us ≡ us
none_left Plain jump skip q lows us off all = filter_none (λ (y : Piece). not (lets_go Plain y.index y.number jump skip)) us (λ y has. ap not (behind y has))
  where
    behind : (y : Piece) → Has us y → nat_le y.index jump ≡ false
    behind y has = elim (cases_lt jump y.index) [
      | inl past ↦ grind (arith, past, nat_tests)
      | inr low ↦ let it = all y has in let le = it.1.1 in absurd (off (subst (λ (s : ℕ). IsMarked lows s jump) it.0 (it.1.0, omega (arith, le, low))))
    ]
none_left Interleaved jump skip q lows us off all = filter_none (λ (y : Piece). not (is_skipped y.number skip)) us (λ y has. ap not (all y has).1)

pub are_quiet : {F : Type 0} (f : Format) (b : ℕ → Restart) (jump : ℕ) (xs : List SkipMeaning) (v : ReceiverView) (lows : Lows) (touched : List ℕ) (streams : List (Stream F)) → IsAtRest f v → AreFindable f v lows →
    ((s : ℕ) → IsTouched s lows jump xs → Contains touched s) → ((q : ℕ) (x : Stream F) → slice_get streams q ≡ Some x → v.next q ≡ (stream_of x).next) →
    ((q : ℕ) (x : Stream F) → slice_get streams q ≡ Some x → v.skip (unordered_lane q) ≡ (stream_of x).skip) → AreQuiet f b jump xs v touched streams
are_quiet f b jump xs v lows touched streams rest findable all next skip q x got off = record {
  ordered = let none = unnamed f (ordered_lane q) (b q).ordered (stream_of x).next xs (λ y there same. off (all q (inr (y, there, same)))) in omega (arith, none);
  unordered = let none = unnamed f (unordered_lane q) (b q).unordered (near_of (stream_of x) Unordered) xs (λ y there same. off (all q (inr (y, there, same)))) in omega (arith, none);
  none = subst (λ (n : ℕ). HasNoWhole f v.kept (ordered_lane q) n) (next q x got) (rest.idle.ordered q).none;
  clear = subst (λ (n : ℕ). from_number n (of_lane (ordered_lane q) v.kept) ≡ of_lane (ordered_lane q) v.kept) (next q x got) clear_there;
  stays = none_left f jump (stream_of x).skip q lows (of_lane (unordered_lane q) v.kept) (λ there. off (all q (inl there)))
      (λ y has. let says = of_says (unordered_lane q) v.kept y has in (
        ap (λ (l : Lane). l.stream) says.1,
        subst (λ (n : ℕ). IsFindable f lows n y) (ap v.skip says.1 ∙ skip q x got) (findable.1 y says.0 (ap (λ (l : Lane). l.kind) says.1)),
      ));
}
  where
    stays : without_below v.kept q (v.next q) ≡ v.kept
    stays = filter_none (λ (y : Piece). not (is_below q (v.next q) y)) v.kept (λ y has. ap not (rest.settled q y has))

    clear_there : from_number (v.next q) (of_lane (ordered_lane q) v.kept) ≡ of_lane (ordered_lane q) v.kept
    clear_there = sym (of_below q (v.next q) v.kept) ∙ ap (of_lane (ordered_lane q)) stays
