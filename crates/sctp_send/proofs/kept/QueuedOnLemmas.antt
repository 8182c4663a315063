-- How many bytes wait on one stream with given payload protocol identifiers.
use Rattle.std.proofs.Common.{◌≡◌, ℕ, ◌+◌, ◌*◌, ◌%◌, ◌^◌, ◌<◌, ◌≤◌, List, [], ◌∷◌, ◌++◌, length, map, take, filter, get_or, Bool, sym, ap, subst, ◌∙◌, arith, take_all}
use Rattle.std.specs.Prelude.{if◌then◌else◌, cond}
use Rattle.std.specs.declared.sync.Arc.{Arc}
use Rattle.std.specs.declared.alloc.Global.{Global}
use Rattle.std.proofs.lemmas.List.{length-map}
use Rattle.std.proofs.lemmas.List.Elements.{filter_more}
use Rattle.sctp_model.specs.numbers.Limits.{LONGEST_MESSAGE, QUEUE_LIMIT}
use Rattle.sctp_model.specs.numbers.Lists.{joined}
use Rattle.sctp_model.specs.messages.Format.{Format}
use Rattle.sctp_model.specs.sender.SenderView.{Queued, SenderView}
use Rattle.sctp_model.specs.sender.Queueing.{cut}
use Rattle.sctp_model.proofs.sender.CutLaws.{joined_cut}
use Rattle.sctp_model.proofs.sender.SetLaws.{is_set}
use Rattle.sctp_send.specs.SenderKept.{Kept}
use Rattle.sctp_send.specs.SenderStands.{Keeps}
use Rattle.sctp_send.specs.OutstandingFields.{queued_meaning}
use Rattle.sctp_send.specs.SenderFields.{queued_by}
use Rattle.sctp_send.specs.Waiting.{waiting_bytes, is_on_with, queued_bytes_on}
use Rattle.sctp_send.specs.declared.kept.message.Message.{Message as MessageFields}
use Rattle.sctp_send.proofs.WalkLemmas.{queue_read}
use Rattle.sctp_send.proofs.kept.LoadLemmas.{queued_bytes_fit}

-- ---- a walk over the queue

bytes_joined : (xs ys : List Queued) → waiting_bytes (xs ++ ys) ≡ waiting_bytes xs + waiting_bytes ys
bytes_joined [] ys = omega arith
bytes_joined (x ∷ xs) ys = let rest = bytes_joined xs ys in omega (arith, rest)

bytes_of_one : (b : Bool) (q : Queued) → waiting_bytes (cond b (q ∷ []) []) ≡ (if b then length (joined q.message.fragments) else 0)
bytes_of_one b q = grind arith

-- one message more
pub looked_at : (size s : ℕ) (ids : List ℕ) (ms : List (Arc MessageFields Global)) (at : ℕ) (x : Arc MessageFields Global) (m : MessageFields) (sum bytes : ℕ) → 0 < size → at < length ms → x ≡ get_or ms at x → m ≡ x.value
    → bytes ≡ (if is_on_with s ids (queued_meaning size m) then length m.bytes.items else 0)
    → sum ≡ waiting_bytes (filter (is_on_with s ids) (take at (map (queued_by size) ms))) % 2 ^ 64
    → (sum + bytes) % 2 ^ 64 ≡ waiting_bytes (filter (is_on_with s ids) (take (at + 1) (map (queued_by size) ms))) % 2 ^ 64
looked_at size s ids ms at x m sum bytes some lt read same is before =
    let own = subst (λ (y : MessageFields). bytes ≡ (if is_on_with s ids (queued_meaning size y) then length y.bytes.items else 0)) same is in
    let long = length-map ms (queued_by size) in
    let here = queue_read size ms at x read in
    let p : Queued → Bool = is_on_with s ids in
    let more = filter_more p (map (queued_by size) ms) at (queued_by size x) (omega arith) in
    let one : waiting_bytes (filter p (take (at + 1) (map (queued_by size) ms))) ≡ waiting_bytes (filter p (take at (map (queued_by size) ms))) + waiting_bytes (cond (p (queued_by size x)) (queued_by size x ∷ []) []) =
    ap waiting_bytes (rw here at more) ∙ bytes_joined (filter p (take at (map (queued_by size) ms))) (cond (p (queued_by size x)) (queued_by size x ∷ []) []) in
    let cut_is : length (joined (cut size x.value.bytes.items)) ≡ length x.value.bytes.items = ap (λ (bs : List ℕ). length bs) (joined_cut size x.value.bytes.items some) in
    let alone : waiting_bytes (cond (p (queued_by size x)) (queued_by size x ∷ []) []) ≡ bytes = bytes_of_one (p (queued_by size x)) (queued_by size x) ∙ ap (λ (n : ℕ). if p (queued_by size x) then n else 0) cut_is ∙ sym own in
    omega (arith, one, alone, before)

-- all of them
pub looked_through : (size s : ℕ) (ids : List ℕ) (ms : List (Arc MessageFields Global)) (at sum : ℕ) → length ms ≤ at → sum ≡ waiting_bytes (filter (is_on_with s ids) (take at (map (queued_by size) ms))) % 2 ^ 64
    → sum ≡ waiting_bytes (filter (is_on_with s ids) (map (queued_by size) ms)) % 2 ^ 64
looked_through size s ids ms at sum past is =
    let long = length-map ms (queued_by size) in
    is ∙ ap (λ (qs : List Queued). waiting_bytes (filter (is_on_with s ids) qs) % 2 ^ 64) (take_all at (map (queued_by size) ms) (omega arith))

-- ---- what is told of them

-- its fragments have bytes
pub fragment_some : (f : Format) (k : Kept) (v : SenderView) → Keeps f k v → 0 < k.fragment
fragment_some f k v keeps =
    let some = (is_set f v keeps.reached).fragment in
    let same = keeps.holds.fragment in
    omega (arith, some, same)

bytes_filtered : (p : Queued → Bool) (qs : List Queued) → waiting_bytes (filter p qs) ≤ waiting_bytes qs
bytes_filtered p [] = omega arith
bytes_filtered p (q ∷ qs) = let rest = bytes_filtered p qs in grind arith

pub queued_on_fit : (f : Format) (k : Kept) (v : SenderView) (s : ℕ) (ids : List ℕ) → Keeps f k v → queued_bytes_on s ids v ≤ QUEUE_LIMIT * LONGEST_MESSAGE
queued_on_fit f k v s ids keeps =
    let all = queued_bytes_fit f k v keeps in
    let part = bytes_filtered (is_on_with s ids) v.queue in
    omega (arith, all, part)

pub queued_on_is : (f : Format) (k : Kept) (v : SenderView) (s : ℕ) (ids : List ℕ) → Keeps f k v → waiting_bytes (filter (is_on_with s ids) k.queue) % 2 ^ 64 ≡ queued_bytes_on s ids v
queued_on_is f k v s ids keeps =
    let same : waiting_bytes (filter (is_on_with s ids) k.queue) ≡ queued_bytes_on s ids v = ap (λ (qs : List Queued). waiting_bytes (filter (is_on_with s ids) qs)) keeps.holds.queue in
    let fits = queued_on_fit f k v s ids keeps in
    omega (arith, same, fits)
