-- A data chunk of the bag is read as what it was built from, whatever is answered to it, and what its answer leaves is moves.
use Rattle.std.proofs.Common.{◌≡◌, ℕ, ◌+◌, ◌<◌, ◌≤◌, ◌⊎◌, nat_le, true, false, [], Option, Some, None, inl, inr, refl, sym, subst, ap, arith, ◌∙◌}
use Rattle.std.specs.Prelude.{if◌then◌else◌, option_map, ◌-◌, suc}
use Rattle.std.proofs.lemmas.Bool.{cases_Bool}
use Rattle.sctp_model.specs.numbers.Serial.{tsn, ahead, half_space}
use Rattle.sctp_model.specs.wire.Chunk.{PieceMeaning}
use Rattle.sctp_model.specs.messages.Format.{Format, Plain, Interleaved, Kind, Ordered, Unordered, Lane, is_numbered}
use Rattle.sctp_model.specs.messages.Framing.{lane_kind, wire_number, number_near}
use Rattle.sctp_model.specs.messages.Plan.{Message, Part}
use Rattle.sctp_model.specs.messages.Pieces.{Piece, piece_of, number_of, IsFragment}
use Rattle.sctp_model.specs.receiver.ReceiverView.{ReceiverView, IsCumulative}
use Rattle.sctp_model.specs.receiver.Receiving.{recorded, IsPassed, TakesPiece}
use Rattle.sctp_model.specs.sender.SentChunks.{is_unordered, number_said, piece_said}
use Rattle.sctp_model.specs.receiver.Reading.{offset, index_at, is_behind, reference_in, number_in, lane_of, piece_at}
use Rattle.sctp_model.specs.receiver.PieceTaken.{PieceAnswer, Duplicate, Ahead, NoSuchStream, Passed, NoRoom, Kept, is_passed, noted, PieceTaken}
use Rattle.sctp_model.specs.receiver.Laws.{IsIdle}
use Rattle.sctp_model.proofs.receiver.Idle.{still_idle}
use Rattle.sctp_model.proofs.receiver.AtRest.{takes_giving}
use Rattle.sctp_model.proofs.receiver.OneKept.{takes_idle}
use Rattle.sctp_safety.specs.Way.{Way, Note_duplicates, with_receiver}
use Rattle.sctp_safety.specs.SenderLaws.{IsUsual}
use Rattle.sctp_safety.specs.ReceiverLaws.{IsJoined, IsCounted, IsIndexNear, IsReceived, IsPieceSaid, IsBased, PieceTakenIsMoves}
use Rattle.sctp_safety.proofs.moves.Facts.{Good}
use Rattle.sctp_safety.proofs.plan.OneMessage.{number_counts}
use Rattle.sctp_safety.proofs.moves.Settled.{all_numbered}
use Rattle.sctp_safety.proofs.moves.Taken.{leads_by, taking_is_moves}
use Rattle.sctp_safety.proofs.moves.Built.{passing_is_moves}
use Rattle.sctp_safety.proofs.moves.UsualLemmas.{good_usual}
use Rattle.sctp_safety.proofs.receiving.NearReads.{ahead_is}
use Rattle.sctp_safety.proofs.receiving.NumberReads.{entry_reads}
use Rattle.sctp_safety.proofs.receiving.PieceAnswers.{ahead_of, fresh_is, no_stream_is, passed_is, passed_by}

-- ---- the chunk

-- the flag U says the kind
pub kind_reads : (l : Lane) → lane_of l.stream (is_unordered l.kind) ≡ l
kind_reads l = go l.kind refl
  where
    go : (k : Kind) → l.kind ≡ k → record { stream = l.stream; kind = lane_kind (is_unordered k) } ≡ l
    go Ordered e = ap (λ (k : Kind). record { stream = l.stream; kind = k }) (sym e)
    go Unordered e = ap (λ (k : Kind). record { stream = l.stream; kind = k }) (sym e)

-- a number counted from a base is read again by one that counts from there too
pub counted_again : (f : Format) (r : ReceiverView) (base : Lane → ℕ) (l : Lane) (n : ℕ) → base l ≤ n → base l ≡ r.resets.base l →
    number_near f l.kind (wire_number f l.kind (n - base l)) (reference_in r l.stream l.kind - base l) ≡ Some (n - base l) → number_in f r l (number_said f base l n) ≡ Some n
counted_again f r base l n low same near =
    ap (λ (b : ℕ). option_map (λ (k : ℕ). b + k) (number_near f l.kind (wire_number f l.kind (n - base l)) (reference_in r l.stream l.kind - b))) (sym same)
    ∙ ap (option_map (λ (k : ℕ). base l + k)) near
    ∙ ap (λ (k : ℕ). Some k) (let e : base l + (n - base l) ≡ n = omega (arith, low) in e)

-- one that isn't past all that is reached is counted from where the receiver counts
pub based_past : (f : Format) (r : ReceiverView) (base : Lane → ℕ) (c i : ℕ) (l : Lane) (n : ℕ) → IsCumulative r c → c < i → is_numbered f l.kind ≡ true → IsBased f r base i l n → base l ≡ r.resets.base l
based_past f r base c i l n cumulative past numbered b = elim (b.same numbered) [
  | inr same ↦ same
  | inl reached ↦ absurd (cumulative.open_end (reached (suc c) (omega arith) (omega (arith, past))))
]

-- a chunk reads as what it was built from if its index and its number do
piece_reads : (f : Format) (r : ReceiverView) (c initial : ℕ) (base : Lane → ℕ) (i : ℕ) (l : Lane) (n k : ℕ) (m : Message) → index_at r c (tsn initial i) ≡ i →
    number_in f r l (number_said f base l n) ≡ number_of f l n →
    piece_at f r c (piece_said f initial base i (Part l n k) (Some m)) ≡ piece_of f i l n k m
piece_reads f r c initial base i l n k m index number =
    ap (λ (y : Lane). record it { index = index_at r c (tsn initial i); lane = y; number = number_in f r y (number_said f base l n) }) (kind_reads l)
    ∙ ap (λ (j : ℕ). record it { index = j; number = number_in f r l (number_said f base l n) }) index
    ∙ ap (λ (o : Option ℕ). record it { number = o }) number
  where
    it : Piece
    it = piece_of f i l n k m

-- ---- what the answer leaves

unnumbered_kept : (f : Format) (r : ReceiverView) (x : Piece) → is_numbered f x.lane.kind ≡ false → is_passed f r x ≡ false
unnumbered_kept Plain r x e = rw e refl
unnumbered_kept Interleaved r x e = absurd (let h = all_numbered x.lane.kind in cc)

module _ (w : Way) (p : PieceMeaning) (usual : IsUsual w) (joined : IsJoined w) (counted : IsCounted w.sender) (idle : IsIdle w.format w.receiver)
    (said : IsPieceSaid w.format w.sender.initial w.pieces p) (near : IsIndexNear w.receiver said.index)
    (based : IsBased w.format w.receiver said.base said.index said.lane said.number) where
  g : Good w
  g = good_usual w usual

  abbrev x : Piece
  x = piece_of w.format said.index said.lane said.number said.fragment said.message

  fragment : IsFragment w.format w.sender.plan x
  fragment = g.between.pieces x said.put

  -- the number that the plan has at this index is the one that is said, if there is one
  same_number_said : is_numbered w.format said.lane.kind ≡ true → fragment.number ≡ said.number
  same_number_said e =
      let h : number_of w.format said.lane said.number ≡ number_of w.format said.lane fragment.number = ap (λ (y : Piece). y.number) fragment.same in
      let a = number_counts w.format said.lane said.number e in
      let b = number_counts w.format said.lane fragment.number e in
      cc

  wire : p.tsn ≡ tsn w.receiver.initial said.index
  wire = ap (λ (y : PieceMeaning). y.tsn) said.same ∙ ap (λ (i : ℕ). tsn i said.index) (sym joined.initial)

  -- a TSN that lies ahead is read as its index
  index_read : (c : ℕ) → IsCumulative w.receiver c → is_behind w.receiver c p.tsn ≡ false → (index_at w.receiver c p.tsn ≡ said.index) × (c < said.index)
  index_read c cumulative new = (index, past)
    where
      new_tsn : (0 < offset w.receiver c p.tsn) × (nat_le (half_space 32) (offset w.receiver c p.tsn) ≡ false)
      new_tsn = ahead_of w.receiver c p.tsn new

      index : index_at w.receiver c p.tsn ≡ said.index
      index =
          subst (λ (y : ℕ). c + ahead 32 (tsn w.receiver.initial c) y ≡ said.index) (sym wire)
          (ahead_is w.receiver.initial c said.index (near c cumulative)
          (subst (λ (y : ℕ). nat_le (half_space 32) (ahead 32 (tsn w.receiver.initial c) y) ≡ false) wire new_tsn.1))

      past : c < said.index
      past = let z = new_tsn.0 in let i = index in omega (arith, z, i)

  piece_read : (c : ℕ) → IsCumulative w.receiver c → is_behind w.receiver c p.tsn ≡ false → piece_at w.format w.receiver c p ≡ x
  piece_read c cumulative new =
      ap (λ (y : PieceMeaning). piece_at w.format w.receiver c y) said.same
      ∙ piece_reads w.format w.receiver c w.sender.initial said.base said.index said.lane said.number said.fragment said.message
      (subst (λ (y : ℕ). index_at w.receiver c y ≡ said.index) (ap (λ (y : PieceMeaning). y.tsn) said.same) (index_read c cumulative new).0)
      (number (cases_Bool (is_numbered w.format said.lane.kind)))
    where
      Reads : ℕ → Type 0
      Reads n = number_in w.format w.receiver said.lane (number_said w.format said.base said.lane n) ≡ number_of w.format said.lane n

      number : (is_numbered w.format said.lane.kind ≡ true) ⊎ (is_numbered w.format said.lane.kind ≡ false) → Reads said.number
      number (inl e) = subst Reads (same_number_said e)
          (counted_again w.format w.receiver said.base said.lane fragment.number
          (subst (λ (n : ℕ). said.base said.lane ≤ n) (sym (same_number_said e)) (based.low e))
          (based_past w.format w.receiver said.base c said.index said.lane said.number cumulative (index_read c cumulative new).1 e based)
          (entry_reads w g idle counted c cumulative said.lane e (said.base said.lane) said.index fragment.number (Part said.lane fragment.number fragment.fragment) fragment.here (refl, refl) (index_read c cumulative new).1)
          ∙ sym (number_counts w.format said.lane fragment.number e))
      number (inr e) = none w.format said.lane.kind e
        where
          none : (f : Format) (k : Kind) → is_numbered f k ≡ false →
              option_map (λ (n : ℕ). w.receiver.resets.base said.lane + n) (number_near f k (wire_number f k (said.number - said.base said.lane)) (reference_in w.receiver said.lane.stream k - w.receiver.resets.base said.lane))
              ≡ (if is_numbered f k then Some said.number else None)
          none Plain Ordered h = absurd (cc)
          none Plain Unordered h = refl
          none Interleaved Ordered h = absurd (cc)
          none Interleaved Unordered h = absurd (cc)

  same : IsReceived w w.receiver
  same = record { leads = ([], refl); idle = idle; initial = refl; streams = refl; buffer = refl }

  dropped : IsPassed w.format w.receiver x ⊎ (w.streams ≤ said.lane.stream) → w.receiver.seen said.index ≡ false → IsReceived w (recorded w.receiver x)
  dropped why unseen = record {
    leads = passing_is_moves w x said.put unseen why;
    idle = still_idle w.format w.receiver (recorded w.receiver x) refl refl refl idle;
    initial = refl;
    streams = refl;
    buffer = refl;
  }

  received : (a : PieceAnswer) (t : ReceiverView) → PieceTaken w.format w.receiver p a t → IsReceived w t
  received Duplicate t taken = subst (IsReceived w) (sym taken.leaves) (record {
    leads = leads_by w (with_receiver w (noted w.receiver p.tsn)) (Note_duplicates (noted w.receiver p.tsn)) (refl, refl);
    idle = still_idle w.format w.receiver (noted w.receiver p.tsn) refl refl refl idle;
    initial = refl;
    streams = refl;
    buffer = refl;
  })
  received Ahead t taken = subst (IsReceived w) (sym taken.leaves) same
  received NoRoom t taken = subst (IsReceived w) (sym taken.leaves) same
  received NoSuchStream t taken =
      let new = fresh_is w.format w.receiver taken.c p NoSuchStream taken.answer (λ e. cc) in
      let read = piece_read taken.c taken.cumulative new.ahead in
      subst (IsReceived w) (sym (subst (λ (y : Piece). t ≡ recorded w.receiver y) read taken.leaves))
      (dropped (inr stream) (subst (λ (y : Piece). w.receiver.seen y.index ≡ false) read new.unseen))
    where
      stream : w.streams ≤ said.lane.stream
      stream =
          let other = no_stream_is w.format w.receiver taken.c p taken.answer in
          let same : p.stream ≡ said.lane.stream = ap (λ (y : PieceMeaning). y.stream) said.same in
          let j = joined.streams in
          omega (arith, other, same, j)
  received Passed t taken =
      let new = fresh_is w.format w.receiver taken.c p Passed taken.answer (λ e. cc) in
      let read = piece_read taken.c taken.cumulative new.ahead in
      let by_table = subst (λ (y : Piece). is_passed w.format w.receiver y ≡ true) read (passed_is w.format w.receiver taken.c p taken.answer) in
      subst (IsReceived w) (sym (subst (λ (y : Piece). t ≡ recorded w.receiver y) read taken.leaves))
      (dropped (inl (passed (cases_Bool (is_numbered w.format said.lane.kind)) by_table)) (subst (λ (y : Piece). w.receiver.seen y.index ≡ false) read new.unseen))
    where
      passed : (is_numbered w.format said.lane.kind ≡ true) ⊎ (is_numbered w.format said.lane.kind ≡ false) → is_passed w.format w.receiver x ≡ true → IsPassed w.format w.receiver x
      passed (inl e) h = passed_by w.format w.receiver x said.number (number_counts w.format said.lane said.number e) h
      passed (inr e) h = absurd (let n = unnumbered_kept w.format w.receiver x e in cc)
  received Kept t taken =
      let f = fresh_is w.format w.receiver taken.c p Kept taken.answer (λ e. cc) in
      let r = piece_read taken.c taken.cumulative f.ahead in
      let k = subst (λ (y : Piece). TakesPiece w.format w.receiver y t) r taken.leaves in
      let u = subst (λ (y : Piece). w.receiver.seen y.index ≡ false) r f.unseen in
      let c = takes_giving w.format w.receiver t x k in
      record {
        leads = taking_is_moves w x t said.put u k;
        idle = takes_idle w.format w.receiver t x idle k;
        initial = c.initial;
        streams = c.streams;
        buffer = c.buffer;
      }

pub piece_taken_is_moves : PieceTakenIsMoves
piece_taken_is_moves w p a t usual joined counted idle said near based taken = received w p usual joined counted idle said near based a t taken
