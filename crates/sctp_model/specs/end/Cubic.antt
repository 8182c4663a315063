-- CUBIC: in congestion avoidance the window is a cubic function of the time since the last loss (RFC 9438). Windows are in bytes, times in milliseconds; C is
-- 0.4 packets a cubed second, and the window after a loss 0.7 of that before it.
use Rattle.std.specs.Prelude.{ℕ, ◌+◌, ◌-◌, ◌*◌, ◌/◌, ◌^◌, min, max, nat_lt, nat_le, if◌then◌else◌, Option, None, unwrap_or}
use Rattle.sctp_model.specs.sender.Words.{last_that}

-- Congestion avoidance since the last loss: the time at which it began, how long after it the window is that of the loss again (K), that window, or the one
-- with which it began if that was larger (W_max), and the one that additive increase would have reached (W_est).
pub record Epoch : Type 0 where
  pub start : ℕ
  pub rise : ℕ
  pub origin : ℕ
  pub additive : ℕ

-- What is remembered: the window of the last loss, 0 before the first, and the epoch, once an acknowledgement began it.
pub record Cubic : Type 0 where
  pub peak : ℕ
  pub epoch : Option Epoch

-- before the first loss
abbrev pub no_cubic : Cubic
no_cubic = record { peak = 0; epoch = None }

-- the largest number whose cube is at most this
abbrev pub cube_root : ℕ → ℕ
cube_root n = last_that (λ k. nat_le (k ^ 3) n) n

-- ---- a loss

-- the window after it is 0.7 of this (4.6)
abbrev pub lost_window : (cwnd : ℕ) → ℕ
lost_window cwnd = cwnd * 7 / 10

-- the window of the loss is remembered, less of it if it was below that of the loss before, so that others get their share sooner (4.7)
abbrev pub cubic_lost : (cwnd : ℕ) → Cubic → Cubic
cubic_lost cwnd c = record { peak = if nat_lt cwnd c.peak then cwnd * 17 / 20 else cwnd; epoch = None }

-- ---- the function

-- C times the cube of this time (4.2)
abbrev pub cubed : (size time : ℕ) → ℕ
cubed size time = 4 * size * time ^ 3 / 10 ^ 10

-- the window this long after the epoch began (4.2)
abbrev pub cubic_at : (size origin rise time : ℕ) → ℕ
cubic_at size origin rise time = if nat_le rise time then origin + cubed size (time - rise) else origin - cubed size (rise - time)

-- ---- an acknowledgement

-- an epoch that begins now, with this window (4.2 and 4.8)
abbrev pub epoch_begun : (now size cwnd peak : ℕ) → Epoch
epoch_begun now size cwnd peak =
    record { start = now; rise = cube_root ((peak - cwnd) * 2500000000 / size); origin = max peak cwnd; additive = cwnd }

-- by how much additive increase opens the window, below that of the loss and above it (4.3)
abbrev pub added : (size cwnd bytes peak additive : ℕ) → ℕ
added size cwnd bytes peak additive = if nat_lt additive peak then 9 * size * bytes / (17 * cwnd) else size * bytes / cwnd

-- the epoch after this many bytes were acknowledged
abbrev pub epoch_after : (size cwnd bytes peak : ℕ) → Epoch → Epoch
epoch_after size cwnd bytes peak e = record e { additive = e.additive + added size cwnd bytes peak e.additive }

-- what is remembered then: of the epoch there is, or of one that begins now
abbrev pub acked_cubic : (now size cwnd bytes : ℕ) → Cubic → Epoch
acked_cubic now size cwnd bytes c = epoch_after size cwnd bytes c.peak (unwrap_or c.epoch (epoch_begun now size cwnd c.peak))

-- what the window aims at a round trip from now, at most half as much again (4.2)
abbrev pub target : (size cwnd : ℕ) → Epoch → (now trip : ℕ) → ℕ
target size cwnd e now trip = min (max cwnd (cubic_at size e.origin e.rise (now - e.start + trip))) (cwnd * 3 / 2)

-- By how much the window opens: to that of additive increase, if the function is below it (4.3), else toward the target (4.4 and 4.5).
abbrev pub cubic_more : (size cwnd bytes : ℕ) → Epoch → (now trip : ℕ) → ℕ
cubic_more size cwnd bytes e now trip =
    if nat_lt (cubic_at size e.origin e.rise (now - e.start)) e.additive then e.additive - cwnd
    else (target size cwnd e now trip - cwnd) * bytes / cwnd
