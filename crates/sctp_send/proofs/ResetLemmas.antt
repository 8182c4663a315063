-- Numbers on the wire by the bases that are kept, and whether a stream takes messages.
use Rattle.std.proofs.Common.{◌≡◌, ℕ, ◌-◌, ◌<◌, map, refl, sym, ap, arith}
use Rattle.sctp_model.specs.messages.Format.{Format, Lane}
use Rattle.sctp_model.specs.messages.Framing.{wire_number}
use Rattle.sctp_model.specs.sender.Outgoing.{is_sending}
use Rattle.sctp_model.specs.sender.SenderView.{SenderView}
use Rattle.sctp_model.specs.sender.Forwarding.{forward_to}
use Rattle.sctp_model.specs.sender.SentChunks.{number_said, skip_said, forward_said}
use Rattle.sctp_send.specs.SenderKept.{Kept}
use Rattle.sctp_send.specs.SenderStands.{Keeps}
use Rattle.sctp_send.specs.OutstandingFields.{lane_meaning, no_base}
use Rattle.sctp_send.specs.ResetsKept.{base_of, sending_under}
use Rattle.sctp_send.specs.inner.Stocking.{fragment_chunk}
use Rattle.sctp_send.specs.declared.kept.message.Message.{Message as MessageFields}
use Rattle.sctp_send.specs.declared.kept.entry.Content.{Content}
use Rattle.sctp_send.specs.declared.kept.entry.Content.TheVariants.{Fragment, EndMark}

-- counted from 0 a number is itself
pub from_zero : (f : Format) (l : Lane) (n : ℕ) → number_said f no_base l n ≡ wire_number f l.kind n
from_zero f l n = let all : n - 0 ≡ n = omega arith in ap (wire_number f l.kind) all

-- a fragment's chunk, by its number since the base of its lane
pub fragment_based : (f : Format) (base : Lane → ℕ) (size initial i : ℕ) (m : MessageFields) (n d : ℕ) (p : Content) → d ≡ n - base (lane_meaning m)
    → fragment_chunk f no_base size initial i m d p ≡ fragment_chunk f base size initial i m n p
fragment_based f base size initial i m n d (Fragment k) is = let all : d - 0 ≡ n - base (lane_meaning m) = omega (arith, is) in rw all refl
fragment_based f base size initial i m n d EndMark is = let all : d - 0 ≡ n - base (lane_meaning m) = omega (arith, is) in rw all refl

-- the entries of a FORWARD
pub based_skips : (f : Format) (s : Kept) (v : SenderView) (p : ℕ) → Keeps f s v → map (skip_said f (base_of s.resets)) (forward_to f v p).skips ≡ (forward_said f v p).skips
based_skips f s v p k = ap (λ (b : Lane → ℕ). map (skip_said f b) (forward_to f v p).skips) (sym k.resets.base)

-- a stream takes messages if it is kept so
pub sends_by : (f : Format) (s : Kept) (v : SenderView) (stream : ℕ) → Keeps f s v → stream < v.streams → is_sending (v.resets.sending stream) ≡ is_sending (sending_under s.resets.table stream)
sends_by f s v stream k low = ap is_sending (k.resets.sending stream low)
