use Rattle.std.proofs.Common.{◌≡◌, arith}
use Rattle.std.proofs.lemmas.Grind.{common_steps}
use Rattle.std.proofs.lemmas.List.{take_rest}
use Rattle.sctp_model.specs.wire.Chunk.{padded}
use Rattle.sctp_wire.specs.FirstFault.{stated_length}
use Rattle.sctp_wire.proofs.StandingLemmas.{whole_first, parted_is}
use Rattle.sctp_wire.proofs.first.parted.Goals as goal

pub stated_length-size-requires : goal.stated_length-size-requires
stated_length-size-requires c =
    let whole = whole_first c.args.chunks.now c.requires.some c.requires.chunks in omega arith

pub slice_bounds-result-count : goal.slice_bounds-result-count
slice_bounds-result-count c =
    let whole = whole_first c.args.chunks.now c.requires.some c.requires.chunks in grind (arith, common_steps)

pub slice_bounds-result-start : goal.slice_bounds-result-start
slice_bounds-result-start c =
    let whole = whole_first c.args.chunks.now c.requires.some c.requires.chunks in grind (arith, common_steps)

pub returns : goal.returns
returns c =
    let here : c.padded.result ≡ padded (stated_length c.args.chunks.now) = grind (arith, common_steps) in
    let size : c.stated_length-size.result ≡ stated_length c.args.chunks.now = c.stated_length-size.ensures.exact in
    rw (take_rest c.args.chunks.now c.padded.result, here, size) (parted_is c.args.chunks.now c.requires.some c.requires.chunks)

pub slice_bounds-result-end : goal.slice_bounds-result-end
slice_bounds-result-end c =
    let whole = whole_first c.args.chunks.now c.requires.some c.requires.chunks in grind (arith, common_steps)

pub slice_bounds-result-count-2 : goal.slice_bounds-result-count-2
slice_bounds-result-count-2 c =
    let whole = whole_first c.args.chunks.now c.requires.some c.requires.chunks in grind (arith, common_steps)

pub slice_bounds-result-start-2 : goal.slice_bounds-result-start-2
slice_bounds-result-start-2 c =
    let whole = whole_first c.args.chunks.now c.requires.some c.requires.chunks in grind (arith, common_steps)
