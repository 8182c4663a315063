-- The owners of messages: of those that wait, as they come and go; of what is left of the messages in part, stream by stream.
use Rattle.std.proofs.Common.{◌≡◌, ℕ, zero, suc, ◌+◌, ◌<◌, ◌≤◌, List, [], ◌∷◌, length, get_or, refl, sym, ap, ◌∙◌, arith, subst}
use Rattle.std.specs.Prelude.{set, replicate}
use Rattle.std.proofs.lemmas.List.{length-map}
use Rattle.std.proofs.lemmas.List.Elements.{All-cons, All-tail, All-replicate, All-set}
use Rattle.std.specs.declared.sync.Arc.{Arc}
use Rattle.std.specs.declared.alloc.Global.{Global}
use Rattle.sctp_model.specs.numbers.Limits.{LONGEST_MESSAGE}
use Rattle.sctp_model.specs.sender.Queueing.{cut}
use Rattle.sctp_values.specs.declared.kind.Kind.{Kind}
use Rattle.sctp_values.specs.declared.kind.Kind.TheVariants.{Ordered, Unordered}
use Rattle.sctp_send.specs.PartsKept.{changed_at}
use Rattle.sctp_send.specs.inner.Owning.{AreOf, IsOwned, messages_of, IsRestOwned, AreRestsOwned}
use Rattle.sctp_send.specs.inner.Entering.{counted_to}
use Rattle.sctp_send.specs.declared.kept.message.Message.{Message as MessageFields}
use Rattle.sctp_send.specs.declared.kept.track.Track.{Track as TrackFields}
use Rattle.sctp_send.specs.declared.kept.waiting.Waiting.{Waiting}
use Rattle.sctp_send.proofs.QueueLemmas.{cut_short}
use Rattle.sctp_send.proofs.kept.OwedLemmas.{fresh_fields}

-- ---- messages that wait

-- what is read of one that waits is read of its message
pub message_at : (ws : List Waiting) (i : ℕ) (d : Waiting) → get_or (messages_of ws) i d.message ≡ (get_or ws i d).message
message_at [] i d = refl
message_at (w ∷ ws) zero d = refl
message_at (w ∷ ws) (suc i) d = message_at ws i d

pub message_read : (ws : List Waiting) (i : ℕ) (x : Waiting) → x ≡ get_or ws i x → x.message ≡ get_or (messages_of ws) i x.message
message_read ws i x read = ap (λ (w : Waiting). w.message) read ∙ sym (message_at ws i x)

pub messages_long : (ws : List Waiting) → length (messages_of ws) ≡ length ws
messages_long ws = length-map ws (λ (w : Waiting). w.message)

-- a message has owners for all of its fragments
pub owned_new : (size fragments : ℕ) (m : Arc MessageFields Global) (xs : List (Arc MessageFields Global)) → 0 < size → length m.value.bytes.items ≤ LONGEST_MESSAGE → fragments ≡ length (cut size m.value.bytes.items)
    → AreOf m.value xs → length xs + 1 ≡ fragments → IsOwned size 0 m xs
owned_new size fragments m xs some short is all many = record {
  all = all;
  many = omega (arith, many, is);
  few = (let most = cut_short size m.value.bytes.items some in omega (arith, most, short));
}

-- ---- messages in part

pub rests_fresh : (size n : ℕ) → AreRestsOwned size (replicate n fresh_fields)
rests_fresh size n = All-replicate (λ (t : TrackFields). IsRestOwned size t.rest) n fresh_fields tt

pub rests_read : (size n : ℕ) (ts : List TrackFields) (x : TrackFields) → AreRestsOwned size ts → n < length ts → x ≡ get_or ts n x → IsRestOwned size x.rest
rests_read size n ts x all lt read = subst (λ (y : TrackFields). IsRestOwned size y.rest) (sym read) (all n x lt)

pub rests_set : (size n : ℕ) (ts : List TrackFields) (y : TrackFields) → AreRestsOwned size ts → IsRestOwned size y.rest → AreRestsOwned size (set ts n y)
rests_set size n ts y all own = All-set (λ (t : TrackFields). IsRestOwned size t.rest) ts n y own all

pub rests_counted : (size many at : ℕ) (k : Kind) (ts : List TrackFields) → AreRestsOwned size ts → AreRestsOwned size (changed_at (counted_to k many) at ts)
rests_counted size many at k [] all = all
rests_counted size many zero k (t ∷ ts) all = All-cons (λ (x : TrackFields). IsRestOwned size x.rest) _ ts (one k) (All-tail (λ (x : TrackFields). IsRestOwned size x.rest) t ts all)
  where
    one : (k : Kind) → IsRestOwned size (counted_to k many t).rest
    one Ordered = all 0 t (omega arith)
    one Unordered = all 0 t (omega arith)
rests_counted size many (suc at) k (t ∷ ts) all =
    All-cons (λ (x : TrackFields). IsRestOwned size x.rest) t _ (all 0 t (omega arith)) (rests_counted size many at k ts (All-tail (λ (x : TrackFields). IsRestOwned size x.rest) t ts all))
