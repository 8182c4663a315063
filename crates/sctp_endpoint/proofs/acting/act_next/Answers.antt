use Rattle.std.proofs.Common.{◌∙◌, refl, subst}
use Rattle.sctp_model.specs.wire.Chunk.{ChunkMeaning}
use Rattle.sctp_endpoint.specs.inner.Acted.{told_by, ActsOne}
use Rattle.sctp_endpoint.proofs.ChunksInTurn.{same_first, same_others}
use Rattle.sctp_endpoint.proofs.CountLemmas.{same_count}
use Rattle.sctp_endpoint.proofs.acting.act_next.Goals as goal

-- ---- a DATA

pub returns-in-Some-clause-taken : goal.returns-in-Some-clause-taken
returns-in-Some-clause-taken c = λ m ms e. same_others _ _ _ _ _ c.in-Some.ensures e

pub returns-in-Some-clause-step : goal.returns-in-Some-clause-step
returns-in-Some-clause-step c = λ v m ms e stands.
    subst (λ (x : ChunkMeaning). ActsOne c.args.tag v c.args.notes.now x (told_by c.act_piece.result c.act_piece.new.told) c.act_piece.new.machine c.act_piece.new.notes)
    (same_first _ _ _ _ _ c.in-Some.ensures e) (c.act_piece.ensures c.args.tag v stands)

pub returns-in-Some-clause-sacks : goal.returns-in-Some-clause-sacks
returns-in-Some-clause-sacks c = λ m ms e. same_count _ _ _ _ (same_first _ _ _ _ _ c.in-Some.ensures e) refl

-- ---- a SACK

pub returns-in-Some-next_sack-clause-taken : goal.returns-in-Some-next_sack-clause-taken
returns-in-Some-next_sack-clause-taken c = λ m ms e. same_others _ _ _ _ _ c.in-Some-next_sack.ensures (c.in_default.ensures.0 ∙ e)

pub returns-in-Some-next_sack-clause-step : goal.returns-in-Some-next_sack-clause-step
returns-in-Some-next_sack-clause-step c = λ v m ms e stands.
    subst (λ (x : ChunkMeaning). ActsOne c.args.tag v c.args.notes.now x (told_by c.act_sack.result c.act_sack.new.told) c.act_sack.new.machine c.act_sack.new.notes)
    (same_first _ _ _ _ _ c.in-Some-next_sack.ensures (c.in_default.ensures.0 ∙ e)) (c.act_sack.ensures c.args.tag v stands)

pub returns-in-Some-next_sack-clause-sacks : goal.returns-in-Some-next_sack-clause-sacks
returns-in-Some-next_sack-clause-sacks c = λ m ms e.
    same_count _ _ _ _ (same_first _ _ _ _ _ c.in-Some-next_sack.ensures (c.in_default.ensures.0 ∙ e)) refl

-- ---- an I-DATA

pub returns-in-Some-next_i_data-clause-taken : goal.returns-in-Some-next_i_data-clause-taken
returns-in-Some-next_i_data-clause-taken c = λ m ms e. same_others _ _ _ _ _ c.in-Some-next_i_data.ensures (c.in_default-next_sack.ensures.0 ∙ c.in_default.ensures.0 ∙ e)

pub returns-in-Some-next_i_data-clause-step : goal.returns-in-Some-next_i_data-clause-step
returns-in-Some-next_i_data-clause-step c = λ v m ms e stands.
    subst (λ (x : ChunkMeaning). ActsOne c.args.tag v c.args.notes.now x (told_by c.act_piece-in-Some-next_i_data.result c.act_piece-in-Some-next_i_data.new.told)
    c.act_piece-in-Some-next_i_data.new.machine c.act_piece-in-Some-next_i_data.new.notes)
    (same_first _ _ _ _ _ c.in-Some-next_i_data.ensures (c.in_default-next_sack.ensures.0 ∙ c.in_default.ensures.0 ∙ e)) (c.act_piece-in-Some-next_i_data.ensures c.args.tag v stands)

pub returns-in-Some-next_i_data-clause-sacks : goal.returns-in-Some-next_i_data-clause-sacks
returns-in-Some-next_i_data-clause-sacks c = λ m ms e. same_count _ _ _ _ (same_first _ _ _ _ _ c.in-Some-next_i_data.ensures (c.in_default-next_sack.ensures.0 ∙ c.in_default.ensures.0 ∙ e)) refl

-- ---- any other

pub returns-clause-taken : goal.returns-clause-taken
returns-clause-taken c = λ m ms e. c.act_any.ensures.taken m ms (c.in_default-next_i_data.ensures.0 ∙ c.in_default-next_sack.ensures.0 ∙ c.in_default.ensures.0 ∙ e)

pub returns-clause-step : goal.returns-clause-step
returns-clause-step c = λ v m ms e stands. c.act_any.ensures.step v m ms (c.in_default-next_i_data.ensures.0 ∙ c.in_default-next_sack.ensures.0 ∙ c.in_default.ensures.0 ∙ e) stands

pub returns-clause-sacks : goal.returns-clause-sacks
returns-clause-sacks c = λ m ms e. c.act_any.ensures.sacks m ms (c.in_default-next_i_data.ensures.0 ∙ c.in_default-next_sack.ensures.0 ∙ c.in_default.ensures.0 ∙ e)
