-- The bytes of the chunks kept are those of all streams; where nothing waits for the user they are all that is held.
use Rattle.std.proofs.Common.{◌≡◌, ℕ, zero, suc, ◌+◌, ◌<◌, ◌≤◌, List, [], refl, ap, sym, ◌∙◌, arith}
use Rattle.sctp_model.specs.numbers.Lists.{Has}
use Rattle.sctp_model.specs.messages.Pieces.{Piece}
use Rattle.sctp_model.specs.receiver.ReceiverView.{Handed, size_of_pieces, size_of_messages, size_of_waiting}
use Rattle.sctp_recv.specs.inner.Reassembly.{bytes_below}
use Rattle.sctp_recv.proofs.FiledLemmas.{sum_to, sum_upto, stream_size, all_sizes}

below_is_sum : (kept : List Piece) (n : ℕ) → bytes_below kept n ≡ sum_to (stream_size kept) n
below_is_sum kept zero = refl
below_is_sum kept (suc n) = ap (λ (k : ℕ). k + stream_size kept n) (below_is_sum kept n)

-- all chunks are of streams below n
pub all_below : (n : ℕ) (kept : List Piece) → ((x : Piece) → Has kept x → x.lane.stream < n) → bytes_below kept n ≡ size_of_pieces kept
all_below n kept there = below_is_sum kept n ∙ sym (all_sizes n kept there)

-- those of some streams are no more than all
pub some_below : (m n : ℕ) (kept : List Piece) → ((x : Piece) → Has kept x → x.lane.stream < n) → m ≤ n → bytes_below kept m ≤ size_of_pieces kept
some_below m n kept there le =
    let a = below_is_sum kept m in
    let b = sum_upto (stream_size kept) m n le in
    let c = all_sizes n kept there in
    omega (arith, a, b, c)

-- nothing waits for the user
pub none_waits : (w : ℕ → List Handed) (n : ℕ) → ((q : ℕ) → w q ≡ []) → size_of_waiting w n ≡ 0
none_waits w zero none = refl
none_waits w (suc n) none =
    let more = none_waits w n none in
    let here = ap size_of_messages (none n) in
    omega (arith, more, here)
