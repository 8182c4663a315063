-- The start is good.
use Rattle.std.proofs.Common.{◌≡◌, ℕ, zero, suc, true, false, Bool, List, [], slice_get, Some, inr, refl, sym, subst, ap, arith}
use Rattle.sctp_model.specs.numbers.Lists.{Has, item_at}
use Rattle.sctp_model.specs.messages.Format.{Lane}
use Rattle.sctp_model.specs.messages.Plan.{Message, Entry, Part, End, entry_at, message_at}
use Rattle.sctp_model.specs.messages.Pieces.{Piece}
use Rattle.sctp_model.specs.sender.SenderView.{Queued, SenderView, fresh_sender, SendLimits}
use Rattle.sctp_model.specs.messages.Forward.{Forward}
use Rattle.sctp_model.specs.messages.Acknowledgement.{Acknowledgement}
use Rattle.sctp_model.specs.receiver.ReceiverView.{Handed, ReceiverView, fresh_receiver, handed}
use Rattle.sctp_model.specs.world.Safe.{IsRising, AreDifferent}
use Rattle.sctp_safety.specs.Way.{Way, IsStart}
use Rattle.sctp_safety.proofs.moves.Facts.{IsQueue, Good}

nothing_at : {A : Type 0} (i : ℕ) (x : A) → item_at [] i ≡ Some x → ⊥
nothing_at zero x h = cc
nothing_at (suc i) x h = cc

module _ (w : Way) (s : IsStart w) where
  no_entry : (i : ℕ) (e : Entry) → entry_at w.sender.plan i ≡ Some e → ⊥
  no_entry i e h = nothing_at i e (subst (λ (xs : List Entry). item_at xs i ≡ Some e) s.entries h)

  no_message : (l : Lane) (n : ℕ) (m : Message) → message_at w.sender.plan l n ≡ Some m → ⊥
  no_message l n m h =
      let e : w.sender.plan.messages l ≡ [] = ap (λ (f : Lane → List Message). f l) s.messages in
      let x = subst (λ (xs : List Message). slice_get xs n ≡ Some m) e h in
      absurd (cc)

  no_queued : (q : Queued) → Has w.sender.queue q → ⊥
  no_queued q h = subst (λ (xs : List Queued). Has xs q) s.queue h

  not_abandoned : (l : Lane) (n : ℕ) → w.sender.abandoned l n ≡ true → ⊥
  not_abandoned l n h = let e : w.sender.abandoned l n ≡ false = ap (λ (f : Lane → ℕ → Bool). f l n) s.abandoned in absurd (cc)

  not_seen : (i : ℕ) → w.receiver.seen i ≡ true → ⊥
  not_seen i h = let e : w.receiver.seen i ≡ false = ap (λ (f : ℕ → Bool). f i) s.seen in absurd (cc)

  not_covered : (i : ℕ) → w.sender.covered i ≡ true → ⊥
  not_covered i h = let e : w.sender.covered i ≡ false = ap (λ (f : ℕ → Bool). f i) s.covered in absurd (cc)

  no_kept : (x : Piece) → Has w.receiver.kept x → ⊥
  no_kept x h = subst (λ (xs : List Piece). Has xs x) s.kept h

  no_skip : (l : Lane) → w.receiver.skip l ≡ 0
  no_skip l = ap (λ (f : Lane → ℕ). f l) s.skip

  no_next : (t : ℕ) → w.receiver.next t ≡ 0
  no_next t = ap (λ (f : ℕ → ℕ). f t) s.next

  none_handed : (t : ℕ) → handed w.receiver t ≡ []
  none_handed t =
      let a : w.receiver.taken t ≡ [] = ap (λ (f : ℕ → List Handed). f t) s.taken in
      let b : w.receiver.waiting t ≡ [] = ap (λ (f : ℕ → List Handed). f t) s.waiting in
      rw (a, b) refl

  no_handed : (t : ℕ) (h : Handed) → Has (handed w.receiver t) h → ⊥
  no_handed t h has = subst (λ (xs : List Handed). Has xs h) (none_handed t) has

  pub good_start : Good w
  good_start = record {
    arranged = record {
      begun = λ l n m h. absurd (no_message l n m h);
      filled = λ l n m h. absurd (no_message l n m h);
      within = λ i l n k h. absurd (no_entry i (Part l n k) h);
      marked = λ i l n h. absurd (no_entry i (End l n) h);
      follows = λ j l n k h. absurd (no_entry j (Part l n (suc k)) h);
      once = λ i j l n k h. absurd (no_entry i (Part l n k) h);
      ended = λ i l n m h. absurd (no_entry i (End l n) h);
      consecutive = λ e j l n k h. absurd (no_entry j (Part l n (suc k)) h);
      complete = λ e l n m h. absurd (no_message l n m h);
      order = λ i j d e l k n o m x h. absurd (no_entry i d h);
      closed = λ l k n o m x h. absurd (no_message l n m h);
      rising = λ l n o m x h. absurd (no_message l n m h);
      different = λ l k n o m x h. absurd (no_message l n m h);
    };
    waits = record {
      rising = subst IsQueue (sym s.queue) tt;
      streamed = λ q h. absurd (no_queued q h);
      filled = λ q h. absurd (no_queued q h);
      called = λ q h. absurd (no_queued q h);
      later = λ q l n m h. absurd (no_queued q h);
      different = λ q l n m h. absurd (no_queued q h);
    };
    sound = record {
      streamed = λ l n m h. absurd (no_message l n m h);
      called = λ l n m h. absurd (no_message l n m h);
      abandoned = λ l n h. absurd (not_abandoned l n h);
      ended = λ i l n h. absurd (no_entry i (End l n) h);
    };
    between = record {
      pieces = λ x h. absurd (subst (λ (xs : List Piece). Has xs x) s.pieces h);
      forwards = λ x h. absurd (subst (λ (xs : List Forward). Has xs x) s.forwards h);
      sacks = λ x i h. absurd (subst (λ (xs : List Acknowledgement). Has xs x) s.sacks h);
      shutdowns = λ c i h. absurd (subst (λ (xs : List ℕ). Has xs c) s.shutdowns h);
      covered = λ i h. absurd (not_covered i h);
      cum = λ i l. inr (let c = s.cum in omega arith);
    };
    held = record {
      jumped = λ i pos l. absurd (let j = s.jump in omega arith);
      old = λ e i pos l. absurd (let j = s.jump in omega arith);
      kept = λ x h. absurd (no_kept x h);
      seen = λ i h. absurd (not_seen i h);
      skips = λ l n h. absurd (let z = no_skip l in omega arith);
      unskipped = λ l h. no_skip l;
      kept_seen = λ x h. absurd (no_kept x h);
      fresh = λ x n k h. absurd (no_kept x h);
      told = record {
        all_seen = λ l n h. absurd (no_handed l.stream h.0 h.1);
        below = λ t h k. absurd (no_handed t h k);
        rising = λ t. subst IsRising (sym (none_handed t)) tt;
        apart = λ t. subst AreDifferent (sym (none_handed t)) tt;
        honest = λ t h k. absurd (no_handed t h k);
        passed = λ t n l. absurd (let z = no_next t in omega arith);
      };
    };
  }

-- ---- ends that are new

-- A direction of a new sender and a new receiver, with nothing between them and nothing asked, is a start.
pub new_ends_start : (w : Way) (initial streams fragment rwnd : ℕ) (partial : Bool) (limits : SendLimits) (first inbound buffer reserve : ℕ) → w.sender ≡ fresh_sender initial streams fragment rwnd partial limits
    → w.receiver ≡ fresh_receiver first inbound buffer reserve → w.asked.calls ≡ [] → w.pieces ≡ [] → w.forwards ≡ [] → w.sacks ≡ [] → w.shutdowns ≡ [] → IsStart w
new_ends_start w initial streams fragment rwnd partial limits first inbound buffer reserve sender receiver calls pieces forwards sacks shutdowns = record {
  queue = ap (λ (v : SenderView). v.queue) sender;
  messages = ap (λ (v : SenderView). v.plan.messages) sender;
  entries = ap (λ (v : SenderView). v.plan.entries) sender;
  cum = ap (λ (v : SenderView). v.cum) sender;
  covered = ap (λ (v : SenderView). v.covered) sender;
  abandoned = ap (λ (v : SenderView). v.abandoned) sender;
  seen = ap (λ (r : ReceiverView). r.seen) receiver;
  jump = ap (λ (r : ReceiverView). r.jump) receiver;
  kept = ap (λ (r : ReceiverView). r.kept) receiver;
  next = ap (λ (r : ReceiverView). r.next) receiver;
  skip = ap (λ (r : ReceiverView). r.skip) receiver;
  taken = ap (λ (r : ReceiverView). r.taken) receiver;
  waiting = ap (λ (r : ReceiverView). r.waiting) receiver;
  calls = calls;
  pieces = pieces;
  forwards = forwards;
  sacks = sacks;
  shutdowns = shutdowns;
}
