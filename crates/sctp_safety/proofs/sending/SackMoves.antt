-- A SACK that is taken is a move, and so is the cumulative TSN of a SHUTDOWN, as long as counts lie less than half the space apart.
use Rattle.std.proofs.Common.{◌≡◌, ℕ, ◌+◌, not, ◌||◌, nat_le, false, Bool, List, [], ◌∷◌, Option, None, refl, sym, subst, arith, le_refl}
use Rattle.std.proofs.lemmas.Bool.{and_parts}
use Rattle.std.proofs.lemmas.Bool.Decides.{nat_tests}
use Rattle.sctp_model.specs.numbers.Serial.{IsWithinHalf, tsn, ahead, before}
use Rattle.sctp_model.specs.wire.Chunk.{BlockMeaning}
use Rattle.sctp_model.specs.sender.SenderView.{SenderView}
use Rattle.sctp_model.specs.messages.Acknowledgement.{covers}
use Rattle.sctp_model.specs.sender.Words.{when, first_there}
use Rattle.sctp_model.specs.sender.SackTaken.{SackFault, Stale, Beyond, BadBlock, is_stale, index_of, is_beyond, some_is_bad, sack_covers, covered_by}
use Rattle.sctp_model.proofs.sender.WordLaws.{of_none, when_absent}
use Rattle.sctp_safety.specs.Way.{Way, Sack_comes, Shutdown_comes, with_sender}
use Rattle.sctp_safety.specs.Exact.{Leads}
use Rattle.sctp_safety.specs.SenderLaws.{IsUsual, IsMoved, SackIsMoves, ShutdownIsMoves}
use Rattle.sctp_safety.proofs.moves.Taken.{leads_on, leads_by}
use Rattle.sctp_safety.proofs.moves.UsualLemmas.{retuned, order_fewer}

-- ---- the index that a TSN is read as

-- A TSN that isn't before that of CUM is read as its index.
pub index_read : (initial c i : ℕ) → IsWithinHalf 32 i c → before 32 (tsn initial i) (tsn initial c) ≡ false → c + ahead 32 (tsn initial c) (tsn initial i) ≡ i
index_read initial c i near fresh = let above = near.not_above in let below = near.not_below in grind (arith, nat_tests, above, below, fresh)

-- what has no fault isn't stale
is_fresh : (v : SenderView) (wire : ℕ) (others : List (Option SackFault)) → first_there (when (is_stale v wire) Stale ∷ others) ≡ None → is_stale v wire ≡ false
is_fresh v wire others none = when_absent (is_stale v wire) Stale (of_none (when (is_stale v wire) Stale) (first_there others) none).0

read_as : (v : SenderView) (i wire : ℕ) → wire ≡ tsn v.initial i → IsWithinHalf 32 i v.cum → is_stale v wire ≡ false → index_of v wire ≡ i
read_as v i wire is near fresh =
    subst (λ (t : ℕ). index_of v t ≡ i) (sym is) (index_read v.initial v.cum i near (subst (λ (t : ℕ). is_stale v t ≡ false) is fresh))

-- ---- the moves

-- if a move leads to such a CUM and such covered indexes, marks end with it, and the peer's window may change
acknowledged : (w : Way) (cum : ℕ) (covered : ℕ → Bool) (rwnd : ℕ) → IsUsual w → Leads w (with_sender w (record w.sender { cum = cum; covered = covered }))
    → IsMoved w (with_sender w (record (covered_by w.sender cum covered) { rwnd = rwnd }))
acknowledged w cum covered rwnd usual led = record {
  leads = leads_on w moved after led (retuned moved after.sender refl refl refl refl refl (λ i. le_refl (w.sender.repeats i)));
  order = order_fewer w after refl (λ i on. (and_parts (w.sender.marked i) (not (covered i)) on).0) refl refl usual.order;
  constants = record { initial = refl; streams = refl; fragment = refl; partial = refl };
}
  where
    moved : Way
    moved = with_sender w (record w.sender { cum = cum; covered = covered })

    after : Way
    after = with_sender w (record (covered_by w.sender cum covered) { rwnd = rwnd })

pub sack_is_moves : SackIsMoves
sack_is_moves w a s usual has of near none =
    subst (λ (i : ℕ). IsMoved w (with_sender w (record (covered_by w.sender i (sack_covers i s.blocks)) { rwnd = s.rwnd }))) (sym read)
    (subst (λ (bs : List BlockMeaning). IsMoved w (with_sender w (record (covered_by w.sender a.cum (sack_covers a.cum bs)) { rwnd = s.rwnd }))) (sym of.blocks)
    (acknowledged w a.cum (covers a) s.rwnd usual (leads_by w _ (Sack_comes a) (has, omega (arith, read), refl))))
  where
    read : index_of w.sender s.cumulative ≡ a.cum
    read = read_as w.sender a.cum s.cumulative of.cumulative near
        (is_fresh w.sender s.cumulative (when (is_beyond w.sender (index_of w.sender s.cumulative) s.blocks) Beyond ∷ when (some_is_bad 0 s.blocks) BadBlock ∷ []) none)

pub shutdown_is_moves : ShutdownIsMoves
shutdown_is_moves w c usual has near none =
    subst (λ (i : ℕ). IsMoved w (with_sender w (covered_by w.sender i (λ j. nat_le j i || w.sender.covered j)))) (sym read)
    (acknowledged w c (λ j. nat_le j c || w.sender.covered j) w.sender.rwnd usual (leads_by w _ (Shutdown_comes c) (has, omega (arith, read), refl)))
  where
    wire : ℕ
    wire = tsn w.sender.initial c

    read : index_of w.sender wire ≡ c
    read = read_as w.sender c wire refl near (is_fresh w.sender wire (when (is_beyond w.sender (index_of w.sender wire) []) Beyond ∷ []) none)
