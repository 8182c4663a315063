-- One chunk more is kept, and what is due with it is delivered: the view waits as it should.
use Rattle.std.proofs.Common.{◌≡◌, ℕ, ◌⊎◌, List, [], ◌∷◌, refl, ap, sym, ◌∙◌, subst, inl, inr}
use Rattle.std.specs.Prelude.{not}
use Rattle.std.proofs.lemmas.Bool.{cases_eq}
use Rattle.sctp_model.specs.numbers.Lists.{Has, IsWithin}
use Rattle.sctp_model.specs.messages.Format.{Format, Kind, Ordered, Unordered, Lane, ordered_lane}
use Rattle.sctp_model.specs.messages.Pieces.{Piece}
use Rattle.sctp_model.specs.messages.Whole.{IsWhole}
use Rattle.sctp_model.specs.receiver.ReceiverView.{ReceiverView}
use Rattle.sctp_model.specs.receiver.Receiving.{HasNoWhole, goes_with, recorded, GivesOrdered, GivesUnordered, Gives, TakesPiece}
use Rattle.sctp_model.specs.receiver.Laws.{IsWaiting, IsIdle}
use Rattle.sctp_model.proofs.receiver.RowFacts.{row_same, goes_own}
use Rattle.sctp_model.proofs.receiver.Sizes.{pick, between}
use Rattle.sctp_model.proofs.receiver.Giving.{filter_passes, IsGiving, giving_ordered, giving_unordered, IsServed, served, still_waiting}

-- ---- one chunk more

-- of what is within the chunks kept and a new one, the new one is there or all is old
pub new_or_old : (y : Piece) (kept xs : List Piece) → IsWithin xs (y ∷ kept) → Has xs y ⊎ IsWithin xs kept
new_or_old y kept xs within = elim (pick y kept xs within) [
  | inl old ↦ inr old
  | inr p ↦ inl (subst (λ (zs : List Piece). Has zs y) (sym p.is) (between p.front p.back y))
]

-- all chunks of a whole message are of one lane
pub one_lane : (f : Format) (xs : List Piece) (y z : Piece) → IsWhole f xs → Has xs y → Has xs z → y.lane ≡ z.lane
one_lane f [] y z whole here there = absurd here
one_lane f (x ∷ xs) y z whole here there = (row_same f x xs y whole.1 here).0 ∙ sym (row_same f x xs z whole.1 there).0

none_with_other : (f : Format) (y : Piece) (kept : List Piece) (l : Lane) (n : ℕ) → (y.lane ≡ l → ⊥) → HasNoWhole f kept l n → HasNoWhole f (y ∷ kept) l n
none_with_other f y kept l n other none [] whole = whole.0
none_with_other f y kept l n other none (x ∷ xs) (whole, within, (lane, number)) = elim (new_or_old y kept (x ∷ xs) within) [
  | inl there ↦ other ((row_same f x xs y whole.1 there).0 ∙ lane)
  | inr old ↦ none (x ∷ xs) (whole, old, (lane, number))
]

-- the view with the chunk recorded and kept, before anything is delivered
abbrev pub with_chunk : ReceiverView → Piece → ReceiverView
with_chunk r x = record (recorded r x) { kept = x ∷ r.kept }

not_both : (l : Lane) (s : ℕ) → l.kind ≡ Unordered → l ≡ ordered_lane s → ⊥
not_both l s kind lane = let e : Unordered ≡ Ordered = sym kind ∙ ap (λ (k : Lane). k.kind) lane in cc

module _ (f : Format) (r t : ReceiverView) (x : Piece) where
  -- what the stream of an ordered chunk waits for then, and the others
  ordered_idle : x.lane ≡ ordered_lane x.lane.stream → IsIdle f r → GivesOrdered f x.lane.stream (with_chunk r x) t → IsIdle f t
  ordered_idle lane idle gives = record {
    ordered = λ u. elim (cases_eq u x.lane.stream) [
      | inl here ↦ subst (IsWaiting f t) (sym here) one.waits
      | inr other ↦ still_waiting f (with_chunk r x) t u g.fewer (one.others u other) (ap (λ (k : Lane → ℕ). k (ordered_lane u)) g.skip) (record {
        passed = (idle.ordered u).passed;
        none = none_with_other f x r.kept (ordered_lane u) (r.next u) (λ e. other (ap (λ (l : Lane). l.stream) (sym e))) (idle.ordered u).none;
      })
    ];
    unordered = λ y kind xs (whole, within, has). elim (new_or_old x r.kept xs (λ z there. g.fewer z (within z there))) [
      | inl there ↦ not_both y.lane x.lane.stream kind (one_lane f xs y x whole has there ∙ lane)
      | inr old ↦ idle.unordered y kind xs (whole, old, has)
    ];
  }
    where
      one : IsServed f x.lane.stream (with_chunk r x) t
      one = served f x.lane.stream (with_chunk r x) t gives

      g : IsGiving (with_chunk r x) t
      g = giving_ordered f x.lane.stream (with_chunk r x) t gives

  -- an unordered chunk leaves all streams waiting, and its message is delivered if it is whole
  unordered_idle : x.lane.kind ≡ Unordered → IsIdle f r → GivesUnordered f x (with_chunk r x) t → IsIdle f t
  unordered_idle kind idle gives = record {
    ordered = λ u. still_waiting f (with_chunk r x) t u g.fewer (ap (λ (k : ℕ → ℕ). k u) (next gives)) (ap (λ (k : Lane → ℕ). k (ordered_lane u)) g.skip) (record {
      passed = (idle.ordered u).passed;
      none = none_with_other f x r.kept (ordered_lane u) (r.next u) (not_both x.lane u kind) (idle.ordered u).none;
    });
    unordered = λ y its xs (whole, within, has). elim (new_or_old x r.kept xs (λ z there. g.fewer z (within z there))) [
      | inl there ↦ gone gives xs whole within there
      | inr old ↦ idle.unordered y its xs (whole, old, has)
    ];
  }
    where
      g : IsGiving (with_chunk r x) t
      g = giving_unordered f x (with_chunk r x) t gives

      next : GivesUnordered f x (with_chunk r x) t → t.next ≡ r.next
      next (inl (h, hs, whole, is)) = ap (λ (v : ReceiverView). v.next) is
      next (inr (none, is)) = ap (λ (v : ReceiverView). v.next) is

      -- no whole message with the new chunk is left
      gone : GivesUnordered f x (with_chunk r x) t → (xs : List Piece) → IsWhole f xs → IsWithin xs t.kept → Has xs x → ⊥
      gone (inr (none, is)) xs whole within has = none xs (whole, subst (λ (v : ReceiverView). IsWithin xs v.kept) is within, has)
      gone (inl (h, hs, (its, inside, mine), is)) xs whole within has =
          let there = subst (λ (v : ReceiverView). Has v.kept x) is (within x has) in
          let stays = filter_passes (λ (y : Piece). not (goes_with f (h ∷ hs) y)) (x ∷ r.kept) x there in
          let goes = goes_own f h hs x its mine in
          absurd (cc)

  gives_idle : (k : Kind) → x.lane.kind ≡ k → IsIdle f r → Gives f k x (with_chunk r x) t → IsIdle f t
  gives_idle Ordered kind idle gives = ordered_idle (ap (λ (k : Kind). record { stream = x.lane.stream; kind = k }) kind) idle gives
  gives_idle Unordered kind idle gives = unordered_idle kind idle gives

  pub takes_idle : IsIdle f r → TakesPiece f r x t → IsIdle f t
  takes_idle idle takes = gives_idle x.lane.kind refl idle takes
