use Rattle.std.proofs.Common.{◌≡◌, suc, ◌<◌, ◌∷◌, inl, refl, sym, ap, subst, arith}
use Rattle.std.specs.Prelude.{Option, Some, IfSome}
use Rattle.sctp_model.specs.numbers.Serial.{COUNTS}
use Rattle.sctp_model.specs.messages.Pieces.{Piece}
use Rattle.sctp_chains.specs.StandsFor.{IsNew}
use Rattle.sctp_chains.specs.WholeOf.{TakesLowest, from_number}
use Rattle.sctp_chains.specs.declared.whole.Whole.{Whole}
use Rattle.sctp_recv.specs.HandedOf.{handed_of}
use Rattle.sctp_recv.specs.inner.Giving.{AreCounted, GivesDue}
use Rattle.sctp_model.specs.messages.Format.{ordered_lane}
use Rattle.sctp_wire.specs.ChunkTree.{piece_meaning}
use Rattle.sctp_chains.specs.Cells.{counted}
use Rattle.sctp_recv.proofs.ResultLemmas.{if_err}
use Rattle.sctp_recv.proofs.GiveLemmas.{gives_from, ordered_numbered, handed_none, handed_more}
use Rattle.sctp_recv.proofs.give.keep_ordered.Goals as goal

pub returns-in-Some-clause-given : goal.returns-in-Some-clause-given
returns-in-Some-clause-given g c = λ kept stands new numbers.
    let f = g.F.Framing.format in
    let s = c.args.piece.now.stream in
    let l = ordered_lane s in
    let p = piece_meaning c.args.piece.now in
    let old = c.args.inbound.now in
    let mid = c.make_room.new.inbound in
    let last = c.give_on.new.inbound in
    let y = counted c.args.index p (Some mid.next) in
    let same : counted c.args.index p c.args.number ≡ y = ap (counted c.args.index p) (c.is_next.ensures c.if-is_next.true) in
    let fresh = subst (IsNew f l kept) same new in
    let counts = subst (λ (z : Piece). AreCounted (z ∷ kept)) same numbers in
    let found = c.in_ok-whole.ensures l kept (c.make_room.ensures.chunks.0 l kept stands) fresh (ordered_numbered f) in
    let taken = subst (λ (o : Option Whole). IfSome o (λ (m : Whole). TakesLowest f l (y ∷ kept) mid.next mid.next (Some m) mid.ordered)) c.in-Some.is found in
    let n = taken.0 in
    let t = taken.1 in
    let number : suc n < COUNTS = counts t.head n (t.whole.1 t.head (inl refl)) t.whole.2.1 in
    let next : c.number_after-inbound.result ≡ suc n = c.number_after-inbound.ensures n t.number number in
    let room = c.in_ok-make_room.ensures.room in
    let gives : GivesDue f s mid.next (y ∷ kept) mid last c.give_on.result = c.give_on.ensures mid (y ∷ kept) counts (record {
      rest = from_number (suc n) (y ∷ kept);
      handed = handed_more f s mid.next (y ∷ kept) (y ∷ kept) mid mid _ 0 c.wait_reserved-bytes.result c.wait_reserved-bytes.result (handed_none f s mid.next (y ∷ kept) mid) counts n mid.next mid.next c.in-Some.whole mid.ordered t refl (omega arith)
          (handed_of c.message_of.result) (c.message_of.ensures f t.head t.rest t.made t.whole.2.0) next refl refl (c.wait_reserved-bytes.ensures.waits) (λ k ks there. there) c.wait_reserved-bytes.ensures.bytes (omega (arith, c.wait_reserved-bytes.ensures.bytes));
      left = t.left;
      room = omega (arith, room, c.wait_reserved-bytes.ensures.len, c.wait_reserved-bytes.ensures.room);
    }) in
    subst (λ (z : Piece). GivesDue f s old.next (z ∷ kept) old last c.give_on.result) (sym same) (gives_from f s (y ∷ kept) mid old last c.give_on.result gives c.make_room.ensures.same c.make_room.ensures.chunks.1)

pub returns-clause-given : goal.returns-clause-given
returns-clause-given g c = λ kept stands new numbers.
    let f = g.F.Framing.format in
    let l = ordered_lane c.args.piece.now.stream in
    let x = counted c.args.index (piece_meaning c.args.piece.now) c.args.number in
    let there = c.make_room.ensures.chunks.0 l kept stands in
    let added = c.in_ok-add.ensures.kept l kept there new in
    let gives = c.give_ordered.ensures (x ∷ kept) added numbers (omega (arith, c.in_ok-make_room.ensures.room, c.in_ok-add.ensures.whole)) in
    gives_from f c.args.piece.now.stream (x ∷ kept) _ c.args.inbound.now c.give_ordered.new.inbound c.give_ordered.result gives c.make_room.ensures.same c.make_room.ensures.chunks.1

pub returns-in_err-make_room-clause-refused : goal.returns-in_err-make_room-clause-refused
returns-in_err-make_room-clause-refused g c = if_err c.from_residual.result (c.make_room.ensures.same, c.make_room.ensures.chunks)

pub returns-in_err-add-clause-refused : goal.returns-in_err-add-clause-refused
returns-in_err-add-clause-refused g c = if_err c.from_residual-in_err-add.result (
  c.make_room.ensures.same,
  ((λ l kept stands. c.in_err-add.ensures.refused l kept (c.make_room.ensures.chunks.0 l kept stands)), c.make_room.ensures.chunks.1),
)
