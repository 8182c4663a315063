use Rattle.std.proofs.Common.{◌≡◌, length, arith}
use Rattle.std.proofs.lemmas.List.{length_push}
use Rattle.std.proofs.lemmas.Slice.Zip.{zip_end, zip_turn}
use Rattle.sctp_cookie.proofs.Comparing.{compared_all, compared_more}
use Rattle.sctp_cookie.proofs.sealing.same_bytes.Goals as goal

pub loop-one-init : goal.loop-one-init
loop-one-init c = record { same = λ none k below. absurd (omega arith); none = λ all. omega arith }

pub loop-one-preserved : goal.loop-one-preserved
loop-one-preserved c =
    let left = c.args.left.now in
    let right = c.args.right.now in
    let turn = zip_turn left right c.loop-one.yielded c.into_iter-one-iterator.result c.loop-one.one-iterator c.next.new.self c.next.result (cc) (cc) c.loop-one.yielded_by (c.in-Some.one, c.in-Some.other) c.in-Some.is c.next.ensures.steps in
    compared_more left right (length c.loop-one.yielded) _ c.loop-one.difference c.in-Some.one.now c.in-Some.other.now
    (length_push c.loop-one.yielded _) (turn.2 0) (turn.3 0) c.loop-one.invariant

pub returns : goal.returns
returns c =
    let left = c.args.left.now in
    let right = c.args.right.now in
    let end = zip_end left right c.loop-one.yielded c.into_iter-one-iterator.result c.loop-one.one-iterator c.next.new.self c.next.result (cc) (cc) c.loop-one.yielded_by c.in-None.is c.next.ensures.steps in
    let sizes : length left ≡ length right = c.requires in
    compared_all left right (length c.loop-one.yielded) c.loop-one.difference sizes (omega arith) c.loop-one.invariant
