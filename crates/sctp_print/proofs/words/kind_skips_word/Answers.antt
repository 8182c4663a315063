use Rattle.std.proofs.Common.{◌≡◌, ◌∷◌, ◌++◌, List, sym, ap, ◌∙◌}
use Rattle.sctp_model.specs.wire.Chunk.{SkipMeaning}
use Rattle.sctp_wire.specs.ChunkTree.{skip_meaning}
use Rattle.sctp_print.specs.ChunkLines.{each_behind_comma, kind_skip_word}
use Rattle.sctp_print.specs.declared.words.TheConstants.{COMMA}
use Rattle.sctp_print.proofs.CommaLemmas.{comma_more}
use Rattle.sctp_print.proofs.words.kind_skips_word.Goals as goal

pub loop-skip-preserved : goal.loop-skip-preserved
loop-skip-preserved c =
    let before = c.loop-skip.word.items in
    let skip = skip_meaning c.in-Some.skip in
    let put : c.put_kind_skip.new.word.items ≡ before ++ (COMMA ∷ kind_skip_word skip) = c.in_ok-put_kind_skip.ensures in
    rw put
    (comma_more kind_skip_word before skip c.next.new.self
    ∙ (ap (λ (xs : List SkipMeaning). before ++ each_behind_comma kind_skip_word xs) (sym c.in-Some.ensures.steps) ∙ c.loop-skip.invariant))
