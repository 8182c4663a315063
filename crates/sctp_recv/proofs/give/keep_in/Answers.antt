use Rattle.std.proofs.Common.{◌≡◌, Bool, true, false, inl, refl, sym, ap, subst}
use Rattle.std.specs.Prelude.{IfOk}
use Rattle.sctp_model.specs.receiver.Reading.{lane_of}
use Rattle.sctp_wire.specs.ChunkTree.{piece_meaning}
use Rattle.sctp_chains.specs.StandsFor as lane
use Rattle.sctp_chains.specs.StandsFor.{IsNew}
use Rattle.sctp_chains.specs.Cells.{counted}
use Rattle.sctp_recv.specs.inner.Giving.{GivesBy}
use Rattle.sctp_recv.specs.Filed.{lane_in}
use Rattle.sctp_recv.proofs.give.keep_in.Goals as goal

pub returns-then-unordered-clause-given : goal.returns-then-unordered-clause-given
returns-then-unordered-clause-given g c = λ kept stands new numbers.
    let f = g.F.Framing.format in
    let s = c.args.piece.now.stream in
    let x = counted c.args.index (piece_meaning c.args.piece.now) c.args.number in
    let old = c.args.inbound.now in
    let e : c.args.piece.now.unordered ≡ true = c.if-unordered.true in
    let P = λ (u : Bool). lane.StandsFor f (lane_in old u) (lane_of s u) kept → IsNew f (lane_of s u) kept x →
    IfOk c.keep_unordered.result (λ bytes. GivesBy u f s x kept old c.keep_unordered.new.inbound bytes) in
    subst P (sym e) (λ st nw. c.keep_unordered.ensures.given kept st nw (ap (lane_of s) e) (λ n is. numbers x n (inl refl) is)) stands new

pub returns-clause-given : goal.returns-clause-given
returns-clause-given g c = λ kept stands new numbers.
    let f = g.F.Framing.format in
    let s = c.args.piece.now.stream in
    let x = counted c.args.index (piece_meaning c.args.piece.now) c.args.number in
    let old = c.args.inbound.now in
    let e : c.args.piece.now.unordered ≡ false = c.if-unordered.false in
    let P = λ (u : Bool). lane.StandsFor f (lane_in old u) (lane_of s u) kept → IsNew f (lane_of s u) kept x →
    IfOk c.keep_ordered.result (λ bytes. GivesBy u f s x kept old c.keep_ordered.new.inbound bytes) in
    subst P (sym e) (λ st nw. c.keep_ordered.ensures.given kept st nw numbers) stands new
