-- What a receiver keeps after an index was recorded, or a duplicate noted; and what makes a chunk one that can be kept.
use Rattle.std.proofs.Common.{◌≡◌, ℕ, suc, ◌+◌, ◌<◌, ◌≤◌, ◌⊎◌, Bool, true, false, ◌==◌, take, List, [], ◌∷◌, ◌++◌, length, Some, inl, inr, refl, sym, ◌∙◌, ap, subst, arith}
use Rattle.std.proofs.lemmas.Bool.{cases_Bool}
use Rattle.std.proofs.lemmas.Bool.Decides.{nat_tests}
use Rattle.sctp_model.specs.numbers.Limits.{WINDOW, DUPLICATE_LIMIT}
use Rattle.sctp_model.specs.numbers.Serial.{COUNTS}
use Rattle.sctp_model.specs.numbers.Lists.{at}
use Rattle.sctp_model.specs.messages.Format.{Format}
use Rattle.sctp_model.specs.messages.Pieces.{Piece}
use Rattle.sctp_model.specs.receiver.ReceiverView.{ReceiverView}
use Rattle.sctp_model.specs.receiver.Receiving.{recorded}
use Rattle.sctp_model.specs.receiver.Reading.{piece_at}
use Rattle.sctp_model.specs.wire.Chunk.{PieceMeaning}
use Rattle.sctp_model.specs.receiver.PieceTaken.{is_passed, noted}
use Rattle.sctp_recv.specs.SeenKept.{SeenKept, is_reached}
use Rattle.sctp_recv.specs.ReceiverKept.{StreamKept, ReceiverKept}
use Rattle.sctp_recv.specs.StandsFor.{KeepsView}
use Rattle.sctp_recv.specs.inner.Giving.{RecordsNew}
use Rattle.sctp_recv.specs.inner.Rows.{IsNewIndex}

-- ---- an index recorded

pub at_cases : (g : ℕ → Bool) (i j : ℕ) → at g i true j ≡ true → (j ≡ i) ⊎ (g j ≡ true)
at_cases g i j e = elim (cases_Bool (j == i)) [
  | inl same ↦ inl (grind (arith, nat_tests))
  | inr other ↦ inr (rw other at e)
]

pub at_stays : (g : ℕ → Bool) (i j : ℕ) → g j ≡ true → at g i true j ≡ true
at_stays g i j e = elim (cases_Bool (j == i)) [ inl same ↦ rw same refl | inr other ↦ rw other e ]

pub at_here : (g : ℕ → Bool) (i : ℕ) → at g i true i ≡ true
at_here g i = let same : (i == i) ≡ true = grind (arith, nat_tests) in rw same refl

pub keeps_recorded : (f : Format) (k : ReceiverKept) (v : ReceiverView) (x : Piece) (seen : SeenKept) → KeepsView f k v → RecordsNew k.seen seen x.index →
    is_reached k.seen x.index ≡ false → x.index ≤ k.seen.cumulative + WINDOW → suc x.index < COUNTS → KeepsView f (record k { seen = seen }) (recorded v x)
keeps_recorded f k v x seen w records new near small = record {
  seen = records new near v.seen v.jump w.seen;
  counts = λ j came. elim (at_cases v.seen x.index j came) [ inl same ↦ omega arith | inr old ↦ w.counts j old ];
  apart = w.apart;
  recorded = λ y there. at_stays v.seen x.index y.index (w.recorded y there);
  numbers = w.numbers;
  next = w.next;
  skip = w.skip;
  past = w.past;
  skipped = w.skipped;
  waiting = w.waiting;
  streams = w.streams;
  few_streams = w.few_streams;
  duplicates = w.duplicates;
  resets = w.resets;
  held = w.held;
  room = w.room;
  small = w.small;
  initial = w.initial;
  buffer = w.buffer;
  reserve = w.reserve;
}

pub keeps_new : (f : Format) (k : ReceiverKept) (v : ReceiverView) (p : PieceMeaning) (i : ℕ) (seen : SeenKept) → KeepsView f k v → IsNewIndex f k v p i → RecordsNew k.seen seen i →
    KeepsView f (record k { seen = seen }) (recorded v (piece_at f v k.seen.cumulative p))
keeps_new f k v p i seen w n records =
    keeps_recorded f k v (piece_at f v k.seen.cumulative p) seen w (subst (λ (j : ℕ). RecordsNew k.seen seen j) n.index records) (subst (λ (j : ℕ). is_reached k.seen j ≡ false) n.index n.new)
    (subst (λ (j : ℕ). j ≤ k.seen.cumulative + WINDOW) n.index n.near) (subst (λ (j : ℕ). suc j < COUNTS) n.index n.count)

-- nothing changed
pub keeps_same : (f : Format) (k : ReceiverKept) (v : ReceiverView) (seen : SeenKept) (ss : List StreamKept) → KeepsView f k v → seen ≡ k.seen → ss ≡ k.streams → KeepsView f (record k { seen = seen; streams = ss }) v
keeps_same f k v seen ss w a c =
    subst (λ (n : SeenKept). KeepsView f (record k { seen = n; streams = ss }) v) (sym a) (subst (λ (n : List StreamKept). KeepsView f (record k { streams = n }) v) (sym c) w)

-- ---- a TSN noted

pub keeps_duplicates : (f : Format) (k : ReceiverKept) (v : ReceiverView) (ds es : List ℕ) → KeepsView f k v → es ≡ ds → KeepsView f (record k { duplicates = ds }) (record v { duplicates = es })
keeps_duplicates f k v ds es w same = record {
  seen = w.seen;
  counts = w.counts;
  apart = w.apart;
  recorded = w.recorded;
  numbers = w.numbers;
  next = w.next;
  skip = w.skip;
  past = w.past;
  skipped = w.skipped;
  waiting = w.waiting;
  streams = w.streams;
  few_streams = w.few_streams;
  duplicates = same;
  resets = w.resets;
  held = w.held;
  room = w.room;
  small = w.small;
  initial = w.initial;
  buffer = w.buffer;
  reserve = w.reserve;
}

pub keeps_noted : (f : Format) (k : ReceiverKept) (v : ReceiverView) (wire : ℕ) (ds : List ℕ) → KeepsView f k v → ds ≡ take DUPLICATE_LIMIT (k.duplicates ++ wire ∷ []) → KeepsView f (record k { duplicates = ds }) (noted v wire)
keeps_noted f k v wire ds w is = keeps_duplicates f k v ds (noted v wire).duplicates w (ap (λ (es : List ℕ). take DUPLICATE_LIMIT (es ++ wire ∷ [])) w.duplicates ∙ sym is)

-- what a chunk must be to be kept
pub record IsKeepable (f : Format) (k : ReceiverKept) (v : ReceiverView) (x : Piece) (seen : SeenKept) : Type 0 where
  pub keeps : KeepsView f k v
  pub records : RecordsNew k.seen seen x.index
  pub new : is_reached k.seen x.index ≡ false
  pub near : x.index ≤ k.seen.cumulative + WINDOW
  pub small : suc x.index < COUNTS
  pub unseen : v.seen x.index ≡ false
  pub wanted : is_passed f v x ≡ false
  pub number : (n : ℕ) → x.number ≡ Some n → suc n < COUNTS
  pub stream : x.lane.stream < length k.streams
  pub fits : k.held + length x.bytes ≤ k.buffer
