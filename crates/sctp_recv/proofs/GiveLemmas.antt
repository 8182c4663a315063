-- Delivering what is due on a stream, one message after another.
use Rattle.std.proofs.Common.{◌≡◌, ℕ, suc, ◌+◌, ◌<◌, ◌≤◌, max, true, List, [], ◌∷◌, ◌++◌, map, length, refl, sym, ◌∙◌, ap, subst, append_assoc, arith}
use Rattle.std.specs.Prelude.{not}
use Rattle.std.proofs.lemmas.List.{append-nil}
use Rattle.sctp_model.proofs.receiver.OneStep.{filter_has}
use Rattle.sctp_model.specs.receiver.Receiving.{message_of, HasNoWhole}
use Rattle.sctp_chains.specs.WholeOf.{from_number, TakesNumber}
use Rattle.sctp_chains.specs.declared.whole.Whole.{Whole}
use Rattle.sctp_chains.specs.declared.chains.Chains.{Chains}
use Rattle.sctp_model.specs.messages.Format.{Format, Plain, Interleaved, Ordered, Lane, is_numbered, ordered_lane}
use Rattle.sctp_model.specs.messages.Pieces.{Piece, is_number_below}
use Rattle.sctp_model.specs.receiver.ReceiverView.{Handed}
use Rattle.sctp_chains.specs.StandsFor as lane
use Rattle.sctp_chains.specs.StandsFor.{chain_count}
use Rattle.sctp_recv.specs.declared.inbound.Inbound.{Inbound}
use Rattle.sctp_recv.specs.Fields.{inbound_of}
use Rattle.sctp_recv.specs.ReceiverKept.{StreamKept}
use Rattle.sctp_recv.specs.inner.Giving.{sized, AreCounted, IsDueFrom, IsRest, IsDueSoFar, IsHandedSoFar, GivesDue}
use Rattle.sctp_recv.specs.HandedOf.{handed_of}
use Rattle.sctp_recv.proofs.StreamLemmas.{size_append}
use Rattle.sctp_recv.proofs.DueLemmas.{rest_first, rest_next, due_first, due_more}

pub ordered_numbered : (f : Format) → is_numbered f Ordered ≡ true
ordered_numbered Plain = refl
ordered_numbered Interleaved = refl

-- what is handed over of a stream that says the same, and keeps the same unordered chunks
pub gives_from : {F : Type 0} (f : Format) (s : ℕ) (kept : List Piece) (mid old new : Inbound F) (given : ℕ) → GivesDue f s mid.next kept mid new given → inbound_of mid ≡ inbound_of old →
    ((l : Lane) (ks : List Piece) → lane.StandsFor f old.unordered l ks → lane.StandsFor f mid.unordered l ks) → GivesDue f s old.next kept old new given
gives_from f s kept mid old new given h same others = record {
  messages = h.messages;
  next = h.next;
  due = subst (λ (n : ℕ). IsDueFrom f kept s n n h.messages h.next) (ap (λ (a : StreamKept). a.next) same) h.due;
  left = h.left;
  stream = h.stream ∙ ap (λ (a : StreamKept). record a { next = h.next; waiting = a.waiting ++ h.messages }) same;
  others = λ l ks stands. h.others l ks (others l ks stands);
  bytes = h.bytes;
}

-- at first nothing is handed over
pub handed_none : {F : Type 0} (f : Format) (s floor : ℕ) (kept : List Piece) (start : Inbound F) → IsHandedSoFar f s floor kept start start 0 kept
handed_none f s floor kept start = record {
  messages = [];
  within = λ x there. there;
  rests = rest_first start.next kept;
  due = due_first f kept s start.next floor;
  stream = λ i. record (inbound_of start) { waiting = sym (append-nil (inbound_of start).waiting) i };
  others = λ l ks is. is;
  bytes = refl;
}

-- and then a message more
module _ {F : Type 0} (f : Format) (s floor : ℕ) (kept rest : List Piece) (start old now : Inbound F) (given bytes sum : ℕ) (so : IsHandedSoFar f s floor kept start old given rest)
    (counted : AreCounted kept) (n : ℕ) (from last : ℕ) (m : Whole) (new : Chains F) (t : TakesNumber f (ordered_lane s) rest from last m new n) (is_from : from ≡ old.next) (is_last : last ≤ max old.next floor)
    (h : Handed) (made : h ≡ message_of f t.head t.rest) (next : now.next ≡ suc n) (skip : now.skip ≡ old.skip) (past : now.past ≡ old.past) (waits : map handed_of now.waiting.items ≡ map handed_of old.waiting.items ++ h ∷ [])
    (same : (l : Lane) (ks : List Piece) → lane.StandsFor f old.unordered l ks → lane.StandsFor f now.unordered l ks) (is_bytes : bytes ≡ sized (length h.bytes)) (is_sum : sum ≡ sized (given + bytes)) where
  low : old.next ≤ n
  low = let l = t.low in omega (arith, l, is_from)

  high : n ≤ max old.next floor
  high = let u = t.high in omega (arith, u, is_last)

  all_waits : map handed_of now.waiting.items ≡ map handed_of start.waiting.items ++ (so.messages ++ message_of f t.head t.rest ∷ [])
  all_waits = waits ∙ ap (λ (hs : List Handed). hs ++ h ∷ []) (ap (λ (a : StreamKept). a.waiting) so.stream) ∙ append_assoc (map handed_of start.waiting.items) so.messages (h ∷ [])
      ∙ ap (λ (g : Handed). map handed_of start.waiting.items ++ (so.messages ++ g ∷ [])) made

  pub handed_more : IsHandedSoFar f s floor kept start now sum (from_number (suc n) rest)
  handed_more =
      let both = size_append so.messages (message_of f t.head t.rest ∷ []) in
      let before = so.bytes in
      let bytes_is : length h.bytes ≡ length (message_of f t.head t.rest).bytes = ap (λ (g : Handed). length g.bytes) made in
      let skipped : now.skip ≡ start.skip = skip ∙ ap (λ (a : StreamKept). a.skip) so.stream in
      let highest : now.past ≡ start.past = past ∙ ap (λ (a : StreamKept). a.past) so.stream in
      record {
        messages = so.messages ++ message_of f t.head t.rest ∷ [];
        within = λ x there. so.within x (filter_has (λ (y : Piece). not (is_number_below (suc n) y.number)) rest x there);
        rests = subst (λ (k : ℕ). IsRest k kept (from_number (suc n) rest)) (sym next) (rest_next old.next n kept rest so.rests low);
        due = subst (λ (k : ℕ). IsDueSoFar f kept s start.next floor k (so.messages ++ message_of f t.head t.rest ∷ [])) (sym next)
            (due_more f kept rest s start.next floor old.next n so.messages t.head t.rest so.due so.rests low high (subst (λ (k : ℕ). (j : ℕ) → k ≤ j → j < n → HasNoWhole f rest (ordered_lane s) j) is_from t.before) t.whole t.lowest);
        stream = λ i. record { next = now.next; skip = skipped i; past = highest i; waiting = all_waits i };
        others = λ l ks stands. same l ks (so.others l ks stands);
        bytes = omega (arith, before, both, bytes_is, is_bytes, is_sum);
      }
