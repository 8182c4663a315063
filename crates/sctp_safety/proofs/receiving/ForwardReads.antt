-- A FORWARD of the bag is read as it was built, whatever is answered to it, and what its answer leaves is moves.
use Rattle.std.proofs.Common.{◌≡◌, ℕ, suc, ◌+◌, ◌<◌, max, ◌||◌, nat_le, false, List, [], Some, inl, inr, refl, sym, subst, ap, arith, ◌∙◌, le_refl}
use Rattle.std.proofs.lemmas.Bool.{or_parts}
use Rattle.sctp_model.specs.numbers.Lists.{Has}
use Rattle.sctp_model.specs.numbers.Serial.{tsn, ahead, half_space}
use Rattle.sctp_model.specs.wire.Chunk.{ForwardMeaning}
use Rattle.sctp_model.specs.messages.Format.{Lane}
use Rattle.sctp_model.specs.messages.Plan.{Message, Part, message_at}
use Rattle.sctp_model.specs.messages.Forward.{Skip, Forward, skipped}
use Rattle.sctp_model.specs.receiver.ReceiverView.{ReceiverView, IsCumulative}
use Rattle.sctp_model.specs.receiver.Receiving.{GivesAll}
use Rattle.sctp_model.specs.receiver.Reading.{offset, index_at, is_behind, is_ahead}
use Rattle.sctp_model.specs.receiver.ForwardTaken.{ForwardAnswer, OutOfDate, Bad, Moved, names_other_stream, skips_read, jumped, let_go, ForwardTaken}
use Rattle.sctp_model.specs.receiver.Laws.{IsIdle}
use Rattle.sctp_model.proofs.receiver.RowLemmas.{row_fails}
use Rattle.sctp_model.proofs.receiver.Giving.{IsGiving, all_served}
use Rattle.sctp_model.proofs.receiver.ForwardAtRest.{moved_idle, let_go_is}
use Rattle.sctp_safety.specs.Way.{Way, IsSkippedBy, Forward_comes, Let_go, with_receiver}
use Rattle.sctp_safety.specs.SenderLaws.{IsUsual}
use Rattle.sctp_safety.specs.ReceiverLaws.{IsJoined, IsCounted, IsIndexNear, IsReceived, IsForwardSaid, AreBased, ForwardTakenIsMoves}
use Rattle.sctp_safety.proofs.moves.Facts.{Good, IsSendersForward, MayPass}
use Rattle.sctp_safety.proofs.moves.Taken.{leads_on, leads_by, giving_all_is_moves}
use Rattle.sctp_safety.proofs.moves.UsualLemmas.{good_usual}
use Rattle.sctp_safety.proofs.receiving.NearReads.{ahead_is}
use Rattle.sctp_safety.proofs.receiving.NumberReads.{largest_reads}
use Rattle.sctp_safety.proofs.receiving.PieceAnswers.{ahead_of}
use Rattle.sctp_safety.proofs.receiving.PieceReads.{counted_again, based_past}
use Rattle.sctp_safety.proofs.receiving.SkipReads.{ReadsSkip, counting, read_again, counting_skips}

-- ---- the answer

module _ (w : Way) (m : ForwardMeaning) (usual : IsUsual w) (joined : IsJoined w) (counted : IsCounted w.sender) (idle : IsIdle w.format w.receiver)
    (said : IsForwardSaid w.format w.sender.initial w.sender.plan w.forwards m) (near : IsIndexNear w.receiver said.forward.point)
    (based : AreBased w.format w.receiver said.base said.forward) where
  g : Good w
  g = good_usual w usual

  abbrev x : Forward
  x = said.forward

  fair : IsSendersForward w.format w.sender w.receiver x
  fair = g.between.forwards x said.put

  index_read : (c : ℕ) → IsCumulative w.receiver c → is_behind w.receiver c m.cumulative ≡ false → (index_at w.receiver c m.cumulative ≡ x.point) × (c < x.point)
  index_read c cumulative new = (index, past)
    where
      wire : m.cumulative ≡ tsn w.receiver.initial x.point
      wire = said.cumulative ∙ ap (λ (i : ℕ). tsn i x.point) (sym joined.initial)

      new_tsn : (0 < offset w.receiver c m.cumulative) × (nat_le (half_space 32) (offset w.receiver c m.cumulative) ≡ false)
      new_tsn = ahead_of w.receiver c m.cumulative new

      index : index_at w.receiver c m.cumulative ≡ x.point
      index =
          subst (λ (y : ℕ). c + ahead 32 (tsn w.receiver.initial c) y ≡ x.point) (sym wire)
          (ahead_is w.receiver.initial c x.point (near c cumulative)
          (subst (λ (y : ℕ). nat_le (half_space 32) (ahead 32 (tsn w.receiver.initial c) y) ≡ false) wire new_tsn.1))

      past : c < x.point
      past = let z = new_tsn.0 in let i = index in omega (arith, z, i)

  -- each number listed is read again: it is the largest of its lane up to the point
  skip_reads : (c : ℕ) → IsCumulative w.receiver c → c < x.point → (y : Skip) → Has x.skips y → ReadsSkip w.format w.receiver said.base y
  skip_reads c cumulative past y has = go (named (fair.listed y has y.number (le_refl y.number)))
    where
      named : MayPass w.sender w.receiver y.lane y.number → (q : Message) × (message_at w.sender.plan y.lane y.number ≡ Some q)
      named (inl gone) = let z = g.sound.abandoned y.lane y.number gone in (z.0, z.1)
      named (inr seen) = (seen.message, seen.named)

      go : (q : Message) × (message_at w.sender.plan y.lane y.number ≡ Some q) → ReadsSkip w.format w.receiver said.base y
      go (q, there) =
          let first = g.arranged.begun y.lane y.number q there in
          counted_again w.format w.receiver said.base y.lane y.number ((based y has).low (fair.numbered y has))
          (based_past w.format w.receiver said.base c x.point y.lane y.number cumulative past (fair.numbered y has) (based y has))
          (largest_reads w g idle counted c cumulative y.lane (fair.numbered y has) (said.base y.lane) first.0 y.number (Part y.lane y.number 0) first.1 (refl, refl) x.point past
          (λ j o d. said.topped y j o d has))

  same : IsReceived w w.receiver
  same = record { leads = ([], refl); idle = idle; initial = refl; streams = refl; buffer = refl }

  -- one that moves
  moved : (c : ℕ) (t : ReceiverView) → IsCumulative w.receiver c → (index_at w.receiver c m.cumulative ≡ x.point) × (c < x.point) →
      names_other_stream w.receiver.streams m.skips ≡ false → GivesAll w.format w.receiver.streams (let_go w.format (jumped w.format w.receiver c m)) t → IsReceived w t
  moved c t cumulative (index, past) streams gives = record {
    leads = leads_on w (with_receiver w mid) (with_receiver w t)
        (leads_by w (with_receiver w mid) (Forward_comes x skip) (said.put, (suc c, past, cumulative.open_end), by, refl))
        (leads_on (with_receiver w mid) (with_receiver w low) (with_receiver w t)
        (leads_by (with_receiver w mid) (with_receiver w low) (Let_go low) (let_go_is w.format mid idle.unordered, refl))
        (giving_all_is_moves w w.receiver.streams low t all));
    idle = moved_idle w.format w.receiver t c m streams gives idle;
    initial = given.initial;
    streams = given.streams;
    buffer = given.buffer;
  }
    where
      reads : (y : Skip) → Has x.skips y → ReadsSkip w.format w.receiver said.base y
      reads = skip_reads c cumulative past

      skip : Lane → ℕ
      skip = skipped w.receiver.skip (counting w.receiver x.skips)

      mid : ReceiverView
      mid = record w.receiver { jump = max w.receiver.jump x.point; skip = skip }

      low : ReceiverView
      low = let_go w.format mid

      -- the view after the FORWARD's index and entries were taken
      Low : ℕ → List Skip → ReceiverView
      Low i ys = let_go w.format (record w.receiver { jump = max w.receiver.jump i; skip = skipped w.receiver.skip ys })

      entries : skips_read w.format w.receiver m.skips ≡ counting w.receiver x.skips
      entries = ap (skips_read w.format w.receiver) said.skips ∙ read_again w.format w.receiver said.base x.skips reads

      all : GivesAll w.format w.receiver.streams low t
      all = subst (λ (v : ReceiverView). GivesAll w.format w.receiver.streams v t) (λ i. Low (index i) (entries i)) gives

      by : IsSkippedBy w.receiver x.skips skip
      by = counting_skips w.receiver x.skips

      given : IsGiving low t
      given = (all_served w.format w.receiver.streams low t all).giving

  received : (a : ForwardAnswer) (t : ReceiverView) → ForwardTaken w.format w.receiver m a t → IsReceived w t
  received OutOfDate t taken = subst (IsReceived w) (sym taken.leaves) same
  received Bad t taken = subst (IsReceived w) (sym taken.leaves) same
  received Moved t taken =
      let new = row_fails (is_behind w.receiver taken.c m.cumulative) OutOfDate _ Moved (sym taken.answer) (λ e. cc) in
      let good = row_fails (is_ahead w.receiver taken.c m.cumulative || names_other_stream w.receiver.streams m.skips) Bad Moved Moved new.1 (λ e. cc) in
      let parts = or_parts (is_ahead w.receiver taken.c m.cumulative) (names_other_stream w.receiver.streams m.skips) good.0 in
      moved taken.c t taken.cumulative (index_read taken.c taken.cumulative new.0) parts.1 taken.leaves

pub forward_taken_is_moves : ForwardTakenIsMoves
forward_taken_is_moves w m a t usual joined counted idle said near based taken = received w m usual joined counted idle said near based a t taken
