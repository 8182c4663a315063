use Rattle.std.proofs.Common.{◌≡◌, ℕ, None, map, subst, sym, arith}
use Rattle.std.proofs.lemmas.List.{length-map}
use Rattle.sctp_send.specs.OutstandingFields.{item_meaning}
use Rattle.sctp_send.specs.SenderFields.{queued_by, track_meaning}
use Rattle.sctp_send.specs.SenderKept.{Kept}
use Rattle.sctp_send.specs.SenderStands.{StandsFor, Keeps}
use Rattle.sctp_send.specs.inner.Newcomers.{IsNextPart}
use Rattle.sctp_send.specs.inner.Wishing.{first_offset, is_item_marked, is_item_unsent}
use Rattle.sctp_send.proofs.fill.RestLemmas.{at_rest}
use Rattle.sctp_send.proofs.sender.Sender.is_at_rest.Goals as goal

pub returns : goal.returns
unfolding StandsFor
returns g c = λ v stands yes.
    let f = g.F.Framing.format in
    let s = c.self.inside in
    let size = s.told.fragment in
    let keeps = subst (λ (k : Kept). Keeps f k v) (sym c.self.view_is) stands in
    let window = c.self.invariant.window in
    let marked = subst (λ (n : ℕ). first_offset is_item_marked (map (item_meaning n) s.parts.outstanding.items) ≡ None) window (c.is_all_out.ensures.marked c.if-not-is_all_out.false) in
    let unsent = subst (λ (n : ℕ). first_offset is_item_unsent (map (item_meaning n) s.parts.outstanding.items) ≡ None) window (c.is_all_out.ensures.unsent c.if-not-is_all_out.false) in
    let long = length-map s.parts.queue.items (queued_by size) in
    let next = c.next_part.ensures size in
    let last : c.next_part.result ≡ s.told.streams = omega (arith, c.if-next_part-streams.false, next.within) in
    at_rest f _ v keeps marked unsent (omega (arith, long, c.len.ensures, c.if-len-gt0.false)) (subst (λ (n : ℕ). IsNextPart 0 s.told.streams (map (track_meaning size) s.parts.streams.items) n) last next)
