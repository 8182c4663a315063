use Rattle.std.proofs.Common.{ℕ, List, ◌++◌, ◌∙◌, ap}
use Rattle.std.proofs.lemmas.Result.{on_ok_weaker}
use Rattle.sctp_wire.specs.ChunkTree.{piece_meaning}
use Rattle.sctp_wire.proofs.AtOnceLemmas.{i_data_whole}
use Rattle.sctp_wire.proofs.chunks.i_data.write_i_data.Goals as goal

pub returns-clause-written : goal.returns-clause-written
returns-clause-written c =
    on_ok_weaker c.write_padded.result (λ e. e ∙ ap (λ (xs : List ℕ). c.args.out.now.items ++ xs) (i_data_whole (piece_meaning c.args.piece.now) c.i_data_head.result c.i_data_head.ensures)) c.write_padded.ensures.written
