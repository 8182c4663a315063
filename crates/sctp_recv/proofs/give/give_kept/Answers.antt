use Rattle.std.proofs.Common.{◌≡◌, ℕ, suc, ◌<◌, max, List, inl, refl, sym, ap, subst, arith}
use Rattle.std.specs.VecDeque.{deque_len, deque_capacity}
use Rattle.sctp_model.specs.numbers.Serial.{COUNTS}
use Rattle.sctp_model.specs.messages.Format.{ordered_lane}
use Rattle.sctp_model.specs.messages.Pieces.{Piece}
use Rattle.sctp_model.specs.receiver.Receiving.{IsDue}
use Rattle.sctp_chains.specs.StandsFor as lane
use Rattle.sctp_chains.specs.WholeOf.{from_number}
use Rattle.sctp_recv.specs.HandedOf.{handed_of}
use Rattle.sctp_recv.specs.ReceiverKept.{StreamKept}
use Rattle.sctp_recv.proofs.DueLemmas.{due_end}
use Rattle.sctp_recv.proofs.GiveLemmas.{ordered_numbered, handed_more}
use Rattle.sctp_recv.proofs.give.give_kept.Goals as goal

pub loop-whole-init : goal.loop-whole-init
loop-whole-init g c = λ start kept counted so. so

pub loop-whole-preserved : goal.loop-whole-preserved
loop-whole-preserved g c = λ start kept counted before.
    let f = g.F.Framing.format in
    let s = c.args.stream in
    let so = c.loop-whole.invariant start kept counted before in
    let old = c.loop-whole.inbound in
    let taken = c.in-Some.ensures.taken (ordered_lane s) so.rest so.left (ordered_numbered f) in
    let n = taken.0 in
    let t = taken.1 in
    let number : suc n < COUNTS = counted t.head n (so.handed.within t.head (t.whole.1 t.head (inl refl))) t.whole.2.1 in
    let next : c.number_after-inbound.result ≡ suc n = c.number_after-inbound.ensures n t.number number in
    let fewer = c.in-Some.ensures.whole (ordered_lane s) so.rest so.left in
    let room = so.room in
    let spare : deque_len old.waiting < deque_capacity old.waiting = omega (arith, room, fewer) in
    record {
      rest = from_number (suc n) so.rest;
      handed = handed_more f s c.args.floor kept so.rest start old _ c.loop-whole.given c.wait-bytes.result c.saturating_add-given.result so.handed counted n _ _ _ _ t refl (omega (arith, c.max.ensures))
          (handed_of c.message_of.result) (c.message_of.ensures f t.head t.rest t.made t.whole.2.0) next refl refl (c.wait-bytes.ensures.waits spare) (λ l ks stands. stands) c.wait-bytes.ensures.bytes c.saturating_add-given.ensures;
      left = t.left;
      room = omega (arith, room, fewer, c.wait-bytes.ensures.len, c.wait-bytes.ensures.room);
    }

pub returns : goal.returns
returns g c = λ start kept counted before.
    let f = g.F.Framing.format in
    let s = c.args.stream in
    let so = c.loop-whole.invariant start kept counted before in
    let h = so.handed in
    let old = c.loop-whole.inbound in
    let none = c.in_default.ensures.taken (ordered_lane s) so.rest so.left (ordered_numbered f) in
    let next : c.max-inbound.result ≡ max old.next c.args.floor = c.max-inbound.ensures in
    let from : from_number c.max-inbound.result so.rest ≡ from_number c.max-inbound.result kept = h.rests.same c.max-inbound.result (omega (arith, next)) in
    record {
      messages = h.messages;
      next = c.max-inbound.result;
      due = λ r v. subst (λ (m : ℕ). IsDue f r s start.next h.messages m) (sym next)
          (due_end f kept so.rest s start.next c.args.floor old.next h.messages h.due h.rests (λ n low high. none.0 n low (omega (arith, high, c.max.ensures))) r v);
      left = subst (λ (ps : List Piece). lane.StandsFor f c.drop_below.new.self (ordered_lane s) ps) from (c.drop_below.ensures (ordered_lane s) so.rest none.1 (ordered_numbered f));
      stream = λ i. record { next = c.max-inbound.result; skip = ap (λ (a : StreamKept). a.skip) h.stream i; past = ap (λ (a : StreamKept). a.past) h.stream i; waiting = ap (λ (a : StreamKept). a.waiting) h.stream i };
      others = h.others;
      bytes = h.bytes;
    }
