-- How many bytes of user data wait on each stream, as messages are queued and leave the queue.
use Rattle.std.proofs.Common.{◌≡◌, ℕ, ◌+◌, ◌-◌, ◌%◌, ◌^◌, ◌<◌, ◌≤◌, List, [], ◌∷◌, ◌++◌, length, map, filter, get_or, set, Bool, true, false, inl, inr, refl, sym, ap, subst, ◌∙◌, arith}
use Rattle.std.specs.Prelude.{if◌then◌else◌, cond, remove, ◌==◌, ◌&&◌}
use Rattle.std.specs.declared.sync.Arc.{Arc}
use Rattle.std.specs.declared.alloc.Global.{Global}
use Rattle.std.specs.List.{All, sum_by}
use Rattle.std.proofs.lemmas.Bool.Decides.{eqb_tells}
use Rattle.std.proofs.lemmas.Grind.{get_or-set_at}
use Rattle.std.proofs.lemmas.List.{length-set, get_or-set_other}
use Rattle.std.proofs.lemmas.List.Elements.{All-push, All-weaker}
use Rattle.std.proofs.lemmas.List.Recursion.{is_sum_by}
use Rattle.std.proofs.lemmas.List.Sums.{sum_by_push, sum_by-remove}
use Rattle.sctp_model.specs.numbers.Lists.{joined}
use Rattle.sctp_model.specs.messages.Format.{Format}
use Rattle.sctp_model.specs.sender.SenderView.{Queued, SenderView}
use Rattle.sctp_model.specs.sender.Queueing.{cut}
use Rattle.sctp_model.proofs.sender.CutLaws.{joined_cut}
use Rattle.sctp_send.specs.SenderKept.{Kept}
use Rattle.sctp_send.specs.SenderStands.{Keeps}
use Rattle.sctp_send.specs.SenderFields.{queued_by}
use Rattle.sctp_send.specs.Waiting.{waiting_bytes, is_on_with, queued_bytes_on}
use Rattle.sctp_send.specs.inner.UserData.{user_data, has_user_data, user_bytes_on, AreUserBytes, with_bytes, IsCounted, without_bytes}
use Rattle.sctp_send.specs.declared.kept.message.Message.{Message as MessageFields}
use Rattle.sctp_send.proofs.kept.QueuedOnLemmas.{queued_on_fit}

-- ---- counts

and_false : (b : Bool) → (b && false) ≡ false
and_false true = refl
and_false false = refl

-- bytes are added to one of them
count_added : (us : List ℕ) (at s n sum : ℕ) (b : Bool) → (b ≡ true → at < length us) → get_or us s 0 ≡ sum % 2 ^ 32
    → get_or (if b then set us at ((get_or us at 0 + n % 2 ^ 32) % 2 ^ 32) else us) s 0 ≡ (sum + (if (at == s) && b then n else 0)) % 2 ^ 32
count_added us at s n sum false low was = rw (and_false (at == s)) (omega (arith, was))
count_added us at s n sum true low was = elim (eqb_tells at s) [
  | inl same ↦
      let here = get_or-set_at us at s ((get_or us at 0 + n % 2 ^ 32) % 2 ^ 32) 0 (sym same.1) (low refl) in
      let own = ap (λ (k : ℕ). get_or us k 0) same.1 in
      rw same.0 (omega (arith, here, own, was))
  | inr other ↦
      let here = get_or-set_other us at s ((get_or us at 0 + n % 2 ^ 32) % 2 ^ 32) 0 (λ is. other.1 (sym is)) in
      rw other.0 (omega (arith, here, was))
]

-- bytes are taken from one of them
count_taken : (us : List ℕ) (at s n sum rest one : ℕ) (b : Bool) → (b ≡ true → at < length us) → get_or us s 0 ≡ sum % 2 ^ 32 → rest + one ≡ sum → one ≡ (if (at == s) && b then n else 0)
    → get_or (if b then set us at ((get_or us at 0 + (2 ^ 32 - n % 2 ^ 32)) % 2 ^ 32) else us) s 0 ≡ rest % 2 ^ 32
count_taken us at s n sum rest one false low was all own = let none = rw (and_false (at == s)) at own in omega (arith, was, all, none)
count_taken us at s n sum rest one true low was all own = elim (eqb_tells at s) [
  | inl same ↦
      let here = get_or-set_at us at s ((get_or us at 0 + (2 ^ 32 - n % 2 ^ 32)) % 2 ^ 32) 0 (sym same.1) (low refl) in
      let read = ap (λ (k : ℕ). get_or us k 0) same.1 in
      let counted = rw same.0 at own in
      omega (arith, here, read, was, all, counted)
  | inr other ↦
      let here = get_or-set_other us at s ((get_or us at 0 + (2 ^ 32 - n % 2 ^ 32)) % 2 ^ 32) 0 (λ is. other.1 (sym is)) in
      let none = rw other.0 at own in
      omega (arith, here, was, all, none)
]

long_if : (us : List ℕ) (at n : ℕ) (b : Bool) → length (if b then set us at n else us) ≡ length us
long_if us at n true = length-set us at n
long_if us at n false = refl

-- ---- messages are queued and leave the queue

abbrev HasCount : List ℕ → Arc MessageFields Global → Type 0
HasCount us m = has_user_data m.value ≡ true → m.value.stream < length us

user_counts : (us vs : List ℕ) (ms : List (Arc MessageFields Global)) → AreUserBytes us ms → ((s : ℕ) → get_or vs s 0 ≡ get_or us s 0) → length us ≤ length vs → AreUserBytes vs ms
user_counts us vs ms h same longer = record {
  sums = λ s. same s ∙ h.sums s;
  reach = All-weaker (HasCount us) (HasCount vs) (λ m low on. let below = low on in omega (arith, below, longer)) ms h.reach;
}

-- one message more
pub user_pushed : (us vs : List ℕ) (ms : List (Arc MessageFields Global)) (x : Arc MessageFields Global) → AreUserBytes us ms → IsCounted x.value us vs → AreUserBytes vs (ms ++ x ∷ [])
user_pushed us vs ms x h counted =
    let m = x.value in
    let gs = counted.grown in
    let all = user_counts us gs ms h counted.same counted.longer in
    let long = long_if gs m.stream ((get_or gs m.stream 0 + length m.bytes.items % 2 ^ 32) % 2 ^ 32) (has_user_data m) in
    rw counted.after (record {
      sums = λ s. rw (sum_by_push (user_bytes_on s) ms x) (count_added gs m.stream s (length m.bytes.items) (sum_by (user_bytes_on s) ms) (has_user_data m) counted.reach (all.sums s));
      reach = All-push (HasCount (with_bytes m gs)) ms x (All-weaker (HasCount gs) (HasCount (with_bytes m gs)) (λ y there on. let below = there on in omega (arith, below, long)) ms all.reach) (λ on. let below = counted.reach on in omega (arith, below, long));
    })

-- the one that leaves has its count
pub reached : (us : List ℕ) (ms : List (Arc MessageFields Global)) (n : ℕ) (x : Arc MessageFields Global) → AreUserBytes us ms → n < length ms → get_or ms n x ≡ x → HasCount us x
reached us ms n x h lt here = subst (HasCount us) here (h.reach n x lt)

-- one less
pub user_removed : (us : List ℕ) (ms : List (Arc MessageFields Global)) (n : ℕ) (x : Arc MessageFields Global) → AreUserBytes us ms → n < length ms → get_or ms n x ≡ x
    → ((P : Arc MessageFields Global → Type 0) → All P ms → All P (remove ms n)) → AreUserBytes (without_bytes x.value us) (remove ms n)
user_removed us ms n x h lt here left =
    let m = x.value in
    let long = long_if us m.stream ((get_or us m.stream 0 + (2 ^ 32 - length m.bytes.items % 2 ^ 32)) % 2 ^ 32) (has_user_data m) in
    record {
      sums = λ s.
          let all = sum_by-remove (user_bytes_on s) ms n x lt in
          let own = ap (user_bytes_on s) here in
          count_taken us m.stream s (length m.bytes.items) (sum_by (user_bytes_on s) ms) (sum_by (user_bytes_on s) (remove ms n)) (user_bytes_on s (get_or ms n x)) (has_user_data m) (reached us ms n x h lt here) (h.sums s) all own;
      reach = All-weaker (HasCount us) (HasCount (without_bytes m us)) (λ y there on. let below = there on in omega (arith, below, long)) (remove ms n) (left (HasCount us) h.reach);
    }

-- ---- what is told of them

counted_one : (b : Bool) (q : Queued) (qs : List Queued) → waiting_bytes (cond b (q ∷ qs) qs) ≡ (if b then length (joined q.message.fragments) else 0) + waiting_bytes qs
counted_one true q qs = refl
counted_one false q qs = omega arith

pub user_is : (size s : ℕ) (ms : List (Arc MessageFields Global)) → 0 < size → waiting_bytes (filter (is_on_with s user_data) (map (queued_by size) ms)) ≡ sum_by (user_bytes_on s) ms
user_is size s ms some = is_sum_by (λ (ds : List (Arc MessageFields Global)). waiting_bytes (filter (is_on_with s user_data) (map (queued_by size) ds))) (user_bytes_on s) refl (λ m ds. one m ds) ms
  where
    one : (m : Arc MessageFields Global) (ds : List (Arc MessageFields Global)) → waiting_bytes (filter (is_on_with s user_data) (map (queued_by size) (m ∷ ds))) ≡ user_bytes_on s m + waiting_bytes (filter (is_on_with s user_data) (map (queued_by size) ds))
    one m ds =
        let q = queued_by size m in
        let qs = filter (is_on_with s user_data) (map (queued_by size) ds) in
        let cut_is : length (joined (cut size m.value.bytes.items)) ≡ length m.value.bytes.items = ap (λ (bs : List ℕ). length bs) (joined_cut size m.value.bytes.items some) in
        counted_one (is_on_with s user_data q) q qs ∙ ap (λ (n : ℕ). (if is_on_with s user_data q then n else 0) + waiting_bytes qs) cut_is

-- so few that the count in 32 bits is exact
pub user_on_is : (f : Format) (k : Kept) (v : SenderView) (s : ℕ) → Keeps f k v → waiting_bytes (filter (is_on_with s user_data) k.queue) % 2 ^ 32 ≡ queued_bytes_on s user_data v
user_on_is f k v s keeps =
    let same : waiting_bytes (filter (is_on_with s user_data) k.queue) ≡ queued_bytes_on s user_data v = ap (λ (qs : List Queued). waiting_bytes (filter (is_on_with s user_data) qs)) keeps.holds.queue in
    let fits = queued_on_fit f k v s user_data keeps in
    omega (arith, same, fits)
