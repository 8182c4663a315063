-- Streams that are closed without a channel are freed one after the other.
use Rattle.std.proofs.Common.{◌≡◌, ℕ, zero, suc, ◌+◌, ◌-◌, ◌<◌, ◌≤◌, Bool, true, false, length, refl, sym, ap, ◌∙◌, arith, if◌then◌else◌}
use Rattle.std.specs.Prelude.{◌&&◌, not}
use Rattle.sctp_model.specs.end.EndView.{EndView}
use Rattle.sctp_channels.specs.declared.stream.Stream.{Stream}
use Rattle.sctp_channels.specs.Streams.{is_silent, is_drained, Table, stream_at}
use Rattle.sctp_channels.specs.Coming.{left_over}
use Rattle.sctp_channels.specs.Settling.{is_asked, is_resetting_out, is_gone}
use Rattle.sctp_channels.specs.Events.{with_left_over, swept_at, swept_below, swept}
use Rattle.sctp_channels.proofs.Promised.{at_other}

-- ---- one more

pub swept_more : (n : ℕ) (v : EndView) (x : Table) → swept_below (n + 1) v x ≡ swept_at v (swept_below n v x) n
swept_more n v x = let next : n + 1 ≡ suc n = omega arith in rw next refl

-- one that isn't gone
stays : (v : EndView) (x : Table) (s : ℕ) → is_gone v x s ≡ false → swept_at v x s ≡ x
stays v x s off = rw off refl

-- ---- those before the range of busy streams

pub swept_idle : (n : ℕ) (v : EndView) (x : Table) → ((q : ℕ) → q < n → is_gone v x q ≡ false) → swept_below n v x ≡ x
swept_idle zero v x idle = refl
swept_idle (suc n) v x idle =
    ap (λ (t : Table). swept_at v t n) (swept_idle n v x (λ q less. idle q (omega (arith, less)))) ∙ stays v x n (idle n (omega arith))

-- ---- those behind it

at_once : (v : EndView) (x : Table) (n q : ℕ) → (q ≡ n → ⊥) → stream_at (swept_at v x n) q ≡ stream_at x q
at_once v x n q ne = go (is_gone v x n)
  where
    go : (b : Bool) → stream_at (if b then with_left_over x n else x) q ≡ stream_at x q
    go true = at_other x n q (left_over (stream_at x n)) ne
    go false = refl

swept_kept : (n : ℕ) (v : EndView) (x : Table) (q : ℕ) → n ≤ q → stream_at (swept_below n v x) q ≡ stream_at x q
swept_kept zero v x q low = refl
swept_kept (suc n) v x q low = at_once v (swept_below n v x) n q (λ e. omega (arith, e, low)) ∙ swept_kept n v x q (omega (arith, low))

still_there : (n : ℕ) (v : EndView) (x : Table) (q : ℕ) → n ≤ q → is_gone v x q ≡ false → is_gone v (swept_below n v x) q ≡ false
still_there n v x q low off =
    ap (λ (y : Stream). is_silent y.state && (is_drained y && (is_asked y.due && not (is_resetting_out v q)))) (swept_kept n v x q low) ∙ off

swept_on : (k n : ℕ) (v : EndView) (x : Table) → ((q : ℕ) → n ≤ q → is_gone v x q ≡ false) → swept_below (n + k) v x ≡ swept_below n v x
swept_on zero n v x idle = let none : n + zero ≡ n = omega arith in rw none refl
swept_on (suc k) n v x idle =
    let next : n + suc k ≡ suc (n + k) = omega arith in
    ap (λ (i : ℕ). swept_below i v x) next
    ∙ (stays v (swept_below (n + k) v x) (n + k) (still_there (n + k) v x (n + k) (omega arith) (idle (n + k) (omega arith))) ∙ swept_on k n v x idle)

pub swept_rest : (n : ℕ) (v : EndView) (x : Table) → n ≤ length x.streams → ((q : ℕ) → n ≤ q → is_gone v x q ≡ false) → swept_below n v x ≡ swept v x
swept_rest n v x most idle =
    let all : n + (length x.streams - n) ≡ length x.streams = omega (arith, most) in
    sym (swept_on (length x.streams - n) n v x idle) ∙ ap (λ (i : ℕ). swept_below i v x) all

-- none is in the range
pub swept_none : (v : EndView) (x : Table) → ((q : ℕ) → is_gone v x q ≡ false) → swept v x ≡ x
swept_none v x idle = swept_idle (length x.streams) v x (λ q less. idle q)
