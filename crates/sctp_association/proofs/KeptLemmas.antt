-- `recycle`: of two buffers the larger one is kept, and none above the packet limit.
use Rattle.std.proofs.Common.{◌≡◌, ◌∙◌, ℕ, ◌≤◌, ◌<◌, refl, ap, arith}
use Rattle.std.specs.Prelude.{vec_capacity}
use Rattle.std.specs.declared.vec.Vec.{Vec}
use Rattle.std.specs.declared.alloc.Global.{Global}
use Rattle.sctp_model.specs.end.EndView.{Configuration}
use Rattle.sctp_association.specs.KeptRoom.{kept_of}
use Rattle.sctp_association.proofs.AbortLemmas.{too_long, short_enough}

-- the packet limit as it is read
pub limit_read : (c d : Configuration) (limit n : ℕ) → c ≡ d → limit ≡ c.limit → n ≡ limit → n ≡ d.limit
limit_read c d limit n same exact from = from ∙ (exact ∙ ap (λ (k : Configuration). k.limit) same)

pub smaller : (limit size kept : ℕ) → size ≤ limit → size ≤ kept → kept ≡ kept_of limit size kept
smaller limit size kept within less = rw (short_enough size limit within, short_enough size kept less) refl

pub larger : (limit size kept : ℕ) → size ≤ limit → kept < size → size ≡ kept_of limit size kept
larger limit size kept within more = rw (short_enough size limit within, too_long size kept more) refl

-- a buffer that holds nothing
pub none_kept : (room : Vec ℕ Global) (limit : ℕ) → vec_capacity room ≡ 0 → vec_capacity room ≤ limit
none_kept room limit none = rw none (omega arith)
