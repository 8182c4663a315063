-- A chunk that is received, as one of its lane (a stream and a kind).
use Rattle.std.proofs.Common.{◌≡◌, ℕ, suc, ◌<◌, Bool, true, false, List, Option, None, Some, inl, inr, refl, sym, ◌∙◌, ap, subst, arith}
use Rattle.std.specs.Prelude.{◌&&◌, is_some}
use Rattle.sctp_model.specs.numbers.Serial.{COUNTS}
use Rattle.sctp_model.specs.wire.Chunk.{PieceMeaning}
use Rattle.sctp_model.specs.messages.Format.{Format, Plain, Interleaved, Kind, Ordered, Unordered, Lane, is_numbered}
use Rattle.sctp_model.specs.messages.Framing.{lane_kind}
use Rattle.sctp_model.specs.messages.Pieces.{Piece}
use Rattle.sctp_model.specs.receiver.ReceiverView.{ReceiverView}
use Rattle.sctp_model.specs.receiver.PieceTaken.{is_repeated}
use Rattle.sctp_model.specs.receiver.Reading.{lane_of}
use Rattle.sctp_model.proofs.receiver.OfLane.{of_says, size_of_lane, repeated_of}
use Rattle.sctp_model.proofs.receiver.OneStep.{kept_apart}
use Rattle.sctp_chains.specs.Cells.{IsOf}
use Rattle.sctp_chains.specs.StandsFor.{IsNew}
use Rattle.sctp_recv.specs.Fields.{inside}
use Rattle.sctp_recv.specs.declared.stream.Stream.{Stream}
use Rattle.sctp_chains.specs.Cells.{counted}
use Rattle.sctp_model.specs.receiver.KeptOfLane.{of_lane}
use Rattle.sctp_recv.specs.Filed.{Keeps, IsFiledOn}
use Rattle.sctp_recv.specs.ReceiverKept.{ReceiverKept, number_read, IsCount, is_below_or_none}
use Rattle.sctp_recv.specs.SeenKept.{SeenKept}
use Rattle.sctp_recv.proofs.RecordedLemmas.{IsKeepable}

-- a number that isn't too late is there exactly where the format has one
numbered_is : (f : Format) (k : Kind) (base wire reference low : ℕ) (n : Option ℕ) → n ≡ number_read f k base wire reference → (is_numbered f k && is_below_or_none low n) ≡ false → is_some n ≡ is_numbered f k
numbered_is Plain Unordered base wire reference low n near late = ap is_some near
numbered_is Plain Ordered base wire reference low None near late = absurd (cc)
numbered_is Plain Ordered base wire reference low (Some m) near late = refl
numbered_is Interleaved Ordered base wire reference low None near late = absurd (cc)
numbered_is Interleaved Ordered base wire reference low (Some m) near late = refl
numbered_is Interleaved Unordered base wire reference low None near late = absurd (cc)
numbered_is Interleaved Unordered base wire reference low (Some m) near late = refl

pub chunk_of : (f : Format) (p : PieceMeaning) (n : Option ℕ) (i base reference low : ℕ) → n ≡ number_read f (lane_kind p.unordered) base p.number reference → IsCount n →
    (is_numbered f (lane_kind p.unordered) && is_below_or_none low n) ≡ false → suc i < COUNTS → p.word < COUNTS → IsOf f (lane_of p.stream p.unordered) (counted i p n)
chunk_of f p n i base reference low near small late count word = record {
  lane = refl;
  numbered = numbered_is f (lane_kind p.unordered) base p.number reference low n near late;
  number = λ m is. let below = small m is in omega (arith, below);
  index = count;
  word = word;
}

-- what a stream keeps of a kind
pub lane_filed : {F : Type 0} (f : Format) (kept : List Piece) (s : ℕ) (x : Stream F) (u : Bool) → IsFiledOn f kept s x → Keeps f (inside x) u (lane_of s u) (of_lane (lane_of s u) kept)
lane_filed f kept s x true h = h.unordered
lane_filed f kept s x false h = h.ordered

-- whether a fragment is kept already, told by its stream
pub held_in_view : {F : Type 0} (f : Format) (v : ReceiverView) (p : PieceMeaning) (n : Option ℕ) (x : Stream F) (i j : ℕ) (b : Bool) → IsFiledOn f v.kept p.stream x →
    ((q : ℕ) (l : Lane) (ks : List Piece) → Keeps f (inside x) p.unordered l ks → IsOf f l (counted q p n) → b ≡ is_repeated f ks (counted q p n)) →
    IsOf f (lane_of p.stream p.unordered) (counted i p n) → i ≡ j → b ≡ is_repeated f v.kept (counted j p n)
held_in_view f v p n x i j b own says of same =
    subst (λ (q : ℕ). b ≡ is_repeated f v.kept (counted q p n)) same
    (says i (lane_of p.stream p.unordered) (of_lane (lane_of p.stream p.unordered) v.kept) (lane_filed f v.kept p.stream x p.unordered own) of ∙ sym (repeated_of f v.kept (counted i p n)))

-- a chunk that can be kept is new to its lane
pub chunk_new : (f : Format) (k : ReceiverKept) (v : ReceiverView) (x : Piece) (seen : SeenKept) → IsKeepable f k v x seen → IsOf f x.lane x → IsNew f x.lane (of_lane x.lane v.kept) x
chunk_new f k v x seen h of = record {
  of = of;
  free = λ y has place.
      let same = kept_apart f v x (record { apart = h.keeps.apart; recorded = h.keeps.recorded }) h.unseen h.wanted x y (inl refl) (inr (of_says x.lane v.kept y has).0) place in
      let came : v.seen x.index ≡ true = ap (λ (z : Piece). v.seen z.index) same ∙ h.keeps.recorded y (of_says x.lane v.kept y has).0 in
      let unseen = h.unseen in
      cc;
  fits =
      let all = size_of_lane x.lane v.kept in
      let was = h.keeps.held in
      let fits = h.fits in
      let small = h.keeps.small in
      omega (arith, all, was, fits, small);
}
