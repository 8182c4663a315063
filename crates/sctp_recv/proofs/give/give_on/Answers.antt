use Rattle.std.proofs.Common.{◌≡◌, ℕ, max, List, sym, ◌∙◌, ap, subst, arith}
use Rattle.sctp_model.specs.messages.Format.{ordered_lane}
use Rattle.sctp_model.specs.messages.Pieces.{Piece}
use Rattle.sctp_model.specs.receiver.Receiving.{IsDue}
use Rattle.sctp_chains.specs.StandsFor as lane
use Rattle.sctp_chains.specs.WholeOf.{from_number}
use Rattle.sctp_recv.specs.ReceiverKept.{StreamKept}
use Rattle.sctp_recv.proofs.DueLemmas.{due_end}
use Rattle.sctp_recv.proofs.GiveLemmas.{ordered_numbered}
use Rattle.sctp_recv.proofs.give.give_on.Goals as goal

pub returns-then-is_resting : goal.returns-then-is_resting
returns-then-is_resting g c = λ start kept counted so.
    let f = g.F.Framing.format in
    let s = c.args.stream in
    let h = so.handed in
    let old = c.args.inbound.now in
    let n = c.max-next.result in
    let next : n ≡ max old.next c.args.floor = c.max-next.ensures in
    let rests = c.is_resting.ensures (ordered_lane s) so.rest so.left (ordered_numbered f) c.if-is_resting.true in
    let from : from_number n so.rest ≡ from_number n kept = h.rests.same n (omega (arith, next)) in
    record {
      messages = h.messages;
      next = n;
      due = λ r v. subst (λ (m : ℕ). IsDue f r s start.next h.messages m) (sym next)
          (due_end f kept so.rest s start.next c.args.floor old.next h.messages h.due h.rests (λ k low high. rests.none k) r v);
      left = subst (λ (ps : List Piece). lane.StandsFor f old.ordered (ordered_lane s) ps) (sym rests.above ∙ from) so.left;
      stream = λ i. record { next = n; skip = ap (λ (a : StreamKept). a.skip) h.stream i; past = ap (λ (a : StreamKept). a.past) h.stream i; waiting = ap (λ (a : StreamKept). a.waiting) h.stream i };
      others = h.others;
      bytes = h.bytes;
    }

pub returns : goal.returns
returns g c = λ start kept counted so. c.give_kept.ensures start kept counted so
