-- The messages that wait as they come and go, and what is asked of them by their tickets.
use Rattle.std.proofs.Common.{◌≡◌, ℕ, zero, suc, ◌+◌, ◌-◌, ◌%◌, ◌^◌, ◌<◌, ◌≤◌, List, [], ◌∷◌, ◌++◌, length, map, take, drop, get_or, Bool, true, inl, inr, refl, sym, ap, ◌∙◌, arith, subst}
use Rattle.std.specs.Prelude.{remove}
use Rattle.std.specs.declared.sync.Arc.{Arc}
use Rattle.std.specs.declared.alloc.Global.{Global}
use Rattle.std.specs.List.{All, Contains}
use Rattle.std.proofs.lemmas.Bool.{cases_lt}
use Rattle.std.proofs.lemmas.List.{length-map, get_or-map, map_push}
use Rattle.std.proofs.lemmas.List.Edits.{length-remove, get_or-remove_below, get_or-remove_above}
use Rattle.std.proofs.lemmas.List.Elements.{All-push, All-weaker}
use Rattle.std.proofs.lemmas.List.Quantifiers.{all_pairs_push, all_pairs_remove}
use Rattle.std.proofs.lemmas.List.Sums.{sum_by-cons, sum_by_push, sum_by-remove}
use Rattle.sctp_sequence.specs.Pairs.{AreSame}
use Rattle.sctp_sequence.specs.declared.pairs.Pair.{Pair}
use Rattle.sctp_model.specs.sender.Abandoning.{without}
use Rattle.sctp_model.specs.sender.SenderView.{Queued}
use Rattle.sctp_send.specs.SenderFields.{queued_by}
use Rattle.sctp_send.specs.inner.Owning.{IsOwned, messages_of}
use Rattle.sctp_send.specs.inner.Seating.{ticket_in, seat_of, bytes_of, owed_by, AreLower, IsQueueOf}
use Rattle.sctp_send.specs.inner.UserData.{IsCounted, without_bytes}
use Rattle.sctp_send.specs.declared.kept.message.Message.{Message as MessageFields}
use Rattle.sctp_send.specs.declared.kept.waiting.Waiting.{Waiting}
use Rattle.sctp_send.proofs.kept.OwnedLemmas.{message_read, messages_long}
use Rattle.sctp_send.proofs.kept.UserLemmas.{user_pushed, user_removed}
use Rattle.sctp_send.proofs.abandon.WithdrawLemmas.{walked_place}

-- ---- messages come and go

pub mapped_removed : {A B : Type 0} (f : A → B) (xs : List A) (n : ℕ) → map f (remove xs n) ≡ remove (map f xs) n
mapped_removed f [] zero = refl
mapped_removed f [] (suc n) = refl
mapped_removed f (y ∷ xs) zero = refl
mapped_removed f (y ∷ xs) (suc n) = ap (λ ys. f y ∷ ys) (mapped_removed f xs n)

-- what holds of all holds of those that are left
all_removed : {X : Type 0} (P : X → Type 0) (xs : List X) (n : ℕ) → n < length xs → All P xs → All P (remove xs n)
all_removed P xs n lt all k d low =
    let fewer = length-remove xs n lt in
    elim (cases_lt k n) [
      | inl before ↦ subst P (sym (get_or-remove_below xs n d k before lt)) (all k d (omega (arith, before, lt)))
      | inr behind ↦ subst P (sym (get_or-remove_above xs n d k behind lt)) (all (k + 1) d (omega (arith, low, fewer)))
    ]

-- one message more
pub queue_pushed : (size sum more load bytes last : ℕ) (rises up seated : Bool) (ws : List Waiting) (w : Waiting) (ps qs : List Pair) (us vs : List ℕ) → IsQueueOf size ws sum rises last seated ps load us → more ≡ owed_by size w.message % 2 ^ 64
    → bytes ≡ bytes_of w.message → IsCounted w.message.value us vs → IsOwned size 0 w.message w.others.items → (up ≡ true → (rises ≡ true) × (last < ticket_in w.message)) → (seated ≡ true → AreSame qs (seat_of w.message ∷ ps))
    → IsQueueOf size (ws ++ w ∷ []) ((sum + more) % 2 ^ 64) up (ticket_in w.message) seated qs ((load + bytes) % 2 ^ 64) vs
queue_pushed size sum more load bytes last rises up seated ws w ps qs us vs h owes has counted own above taken =
    let ms = messages_of ws in
    let x = w.message in
    let after : messages_of (ws ++ w ∷ []) ≡ ms ++ x ∷ [] = map_push (λ (y : Waiting). y.message) ws w in
    record {
      some = h.some;
      owed = let all = sum_by_push (owed_by size) ms x in let was = h.owed in rw after (omega (arith, all, was, owes));
      bytes = let all = sum_by_push bytes_of ms x in let was = h.bytes in rw after (omega (arith, all, was, has));
      user = rw after (user_pushed us vs ms x h.user counted);
      order = λ on.
          rw after (all_pairs_push (λ m n. ticket_in m < ticket_in n) ms x (h.order (above on).0) (λ k d lt. let most = h.most (above on).0 k d lt in let less = (above on).1 in omega (arith, most, less)));
      most = λ on.
          let less = (above on).1 in
          rw after (All-push (λ m. ticket_in m ≤ ticket_in x) ms x (All-weaker (λ m. ticket_in m ≤ last) (λ m. ticket_in m ≤ ticket_in x) (λ m le. omega (arith, le, less)) ms (h.most (above on).0)) (omega arith));
      seats = λ on f.
          let was = h.seats on f in
          let now = taken on f in
          let one = sum_by-cons f (seat_of x) ps in
          let all = sum_by_push f (map seat_of ms) (seat_of x) in
          rw (after, map_push seat_of ms x) (omega (arith, was, now, one, all));
      owned = All-push (λ y. IsOwned size 0 y.message y.others.items) ws w h.owned own;
    }

-- one less
pub queue_removed : (size sum less load bytes last n : ℕ) (rises seated : Bool) (ws : List Waiting) (w : Waiting) (ps qs : List Pair) (us : List ℕ) → IsQueueOf size ws sum rises last seated ps load us → n < length ws → w ≡ get_or ws n w
    → less ≡ owed_by size w.message % 2 ^ 64 → bytes ≡ bytes_of w.message → bytes < 2 ^ 64 → ((us : List Pair) → seated ≡ true → AreSame ps us → Contains us (seat_of w.message) → AreSame ps (seat_of w.message ∷ qs))
    → IsQueueOf size (remove ws n) ((sum + (2 ^ 64 - less)) % 2 ^ 64) rises last seated qs ((load + (2 ^ 64 - bytes)) % 2 ^ 64) (without_bytes w.message.value us)
queue_removed size sum less load bytes last n rises seated ws w ps qs us h lt read owes has fits gone =
    let ms = messages_of ws in
    let x = w.message in
    let after : messages_of (remove ws n) ≡ remove ms n = mapped_removed (λ (y : Waiting). y.message) ws n in
    let long = messages_long ws in
    let low : n < length ms = omega (arith, long, lt) in
    let here : get_or ms n x ≡ x = sym (message_read ws n w read) in
    record {
      some = h.some;
      owed = let all = sum_by-remove (owed_by size) ms n x low in let own = ap (owed_by size) here in let was = h.owed in rw after (omega (arith, all, own, was, owes));
      bytes = let all = sum_by-remove bytes_of ms n x low in let own = ap bytes_of here in let was = h.bytes in rw after (omega (arith, all, own, was, has, fits));
      user = rw after (user_removed us ms n x h.user low here (λ P. all_removed P ms n low));
      order = λ on. rw after (all_pairs_remove (λ m n. ticket_in m < ticket_in n) ms n low (h.order on));
      most = λ on. rw after (all_removed (λ m. ticket_in m ≤ last) ms n low (h.most on));
      seats = λ on f.
          let seats = length-map ms seat_of in
          let there : get_or (map seat_of ms) n (seat_of x) ≡ seat_of x = get_or-map seat_of ms n x (seat_of x) low ∙ ap seat_of here in
          let was = h.seats on f in
          let now = gone (map seat_of ms) on (h.seats on) (n, omega (arith, seats, low), there) f in
          let one = sum_by-cons f (seat_of x) qs in
          let all = sum_by-remove f (map seat_of ms) n (seat_of x) (omega (arith, seats, low)) in
          let own = ap f there in
          rw (after, mapped_removed seat_of ms n) (omega (arith, was, now, one, all, own));
      owned = all_removed (λ y. IsOwned size 0 y.message y.others.items) ws n lt h.owned;
    }

-- ---- by ticket

-- a message with a ticket isn't among those with lower ones
pub place_from : (t size n : ℕ) (ms : List (Arc MessageFields Global)) → n ≤ length ms → AreLower t n ms → without t (map (queued_by size) ms) ≡ take n (map (queued_by size) ms) ++ without t (drop n (map (queued_by size) ms))
place_from t size n [] le low = by_at n
  where
    by_at : (k : ℕ) → without t [] ≡ take k [] ++ without t (drop k [])
    by_at zero = refl
    by_at (suc k) = refl
place_from t size zero (m ∷ ms) le low = refl
place_from t size (suc n) (m ∷ ms) le low =
    let x = m in
    let first = low 0 x (omega arith) in
    let step = walked_place t size (m ∷ ms) 0 x (omega arith) refl (λ e. omega (arith, first, e)) refl in
    let rest = place_from t size n ms (omega arith) (λ k d lt. low (suc k) d (omega arith)) in
    step ∙ ap (λ (ys : List Queued). queued_by size m ∷ ys) rest
