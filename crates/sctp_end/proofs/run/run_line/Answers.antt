use Rattle.std.proofs.Common.{[], ◌∷◌, ◌++◌, sym, ◌∙◌, append-nil, arith}
use Rattle.std.proofs.lemmas.Grind.{common_steps}
use Rattle.std.proofs.lemmas.Result.{err_from_is_err_and}
use Rattle.sctp_end.proofs.RunLemmas.{gives_on, lines_behind, lines_so_far, goes_on, ends_with, ends_there, stops_before, stops_within, moved_on}
use Rattle.sctp_end.proofs.run.run_line.Goals as goal

pub returns-in_ok-answer-in-Ok-Ended-clause-runs : goal.returns-in_ok-answer-in-Ok-Ended-clause-runs
returns-in_ok-answer-in-Ok-Ended-clause-runs g c = λ first text written lines so.
    let i = c.in-Ok-Ended in
    let b = i.ensures.bytes in
    let got = gives_on c.line_after_line.ensures text lines _ b.0 i.field-0 _ _ i.field-0-is so.given b.3 i.ensures.given i.ensures.answer in
    let out = rw c.deref.ensures.value at (c.in_ok-answer-in-Ok-Ended.ensures.answers so.view so.stands) in
    (b.0, out.0, b.1, out.1, (lines ++ i.line.items ∷ [], goes_on first _ _ _ _ text written lines b.0 i.line.items out.0 out.2.0 so got.0 out.2.1 out.2.2))

pub returns-in_err-answer-in-Ok-Ended-clause-runs : goal.returns-in_err-answer-in-Ok-Ended-clause-runs
returns-in_err-answer-in-Ok-Ended-clause-runs g c = λ first text written lines so.
    let i = c.in-Ok-Ended in
    let b = i.ensures.bytes in
    let got = gives_on c.line_after_line.ensures text lines _ b.0 i.field-0 _ _ i.field-0-is so.given b.3 i.ensures.given i.ensures.answer in
    let out = rw c.deref.ensures.value at (c.in_err-answer-in-Ok-Ended.ensures.answers so.view so.stands) in
    let p = err_from_is_err_and c.from_residual.result c.from_residual.ensures.1 in (
      b.0,
      out.0,
      b.1,
      out.1,
      rw p.1 (stops_within first _ _ text written lines _ (text ++ b.0) i.line.items out.2.0 out.0 out.2.1 so
          (lines_so_far c.lines_in_one_way.ensures.split _ _ _ got.0) out.2.2 out.2.3),
    )

pub returns-in_ok-answer-in-Ok-Last-clause-runs : goal.returns-in_ok-answer-in-Ok-Last-clause-runs
returns-in_ok-answer-in-Ok-Last-clause-runs g c = λ first text written lines so.
    let i = c.in-Ok-Last in
    let b = i.ensures.bytes in
    let got = gives_on c.line_after_line.ensures text lines _ b.0 i.field-0 _ _ i.field-0-is so.given b.3 i.ensures.given i.ensures.answer in
    let end = rw i.field-0-is at i.ensures.end in
    let out = rw c.deref-in-Ok-Last.ensures.value at (c.in_ok-answer-in-Ok-Last.ensures.answers so.view so.stands) in
    (b.0, out.0, b.1, out.1, (end, ends_with first _ _ text written lines (text ++ b.0) i.line.items out.0 _ so got.0.1 out.2.1))

pub returns-in_err-answer-in-Ok-Last-clause-runs : goal.returns-in_err-answer-in-Ok-Last-clause-runs
returns-in_err-answer-in-Ok-Last-clause-runs g c = λ first text written lines so.
    let i = c.in-Ok-Last in
    let b = i.ensures.bytes in
    let got = gives_on c.line_after_line.ensures text lines _ b.0 i.field-0 _ _ i.field-0-is so.given b.3 i.ensures.given i.ensures.answer in
    let out = rw c.deref-in-Ok-Last.ensures.value at (c.in_err-answer-in-Ok-Last.ensures.answers so.view so.stands) in
    let p = err_from_is_err_and c.from_residual-in_err-answer-in-Ok-Last.result c.from_residual-in_err-answer-in-Ok-Last.ensures.1 in (
      b.0,
      out.0,
      b.1,
      out.1,
      rw p.1 (stops_within first _ _ text written lines [] (text ++ b.0) i.line.items out.2.0 out.0 out.2.1 so
          (got.0.1 ∙ sym (append-nil (lines ++ i.line.items ∷ []))) out.2.2 out.2.3),
    )

pub returns-in-Ok-TooLong-clause-runs : goal.returns-in-Ok-TooLong-clause-runs
returns-in-Ok-TooLong-clause-runs g c = λ first text written lines so.
    let i = c.in-Ok-TooLong in
    let b = i.ensures.bytes in
    let got = gives_on c.line_after_line.ensures text lines _ b.0 i.field-0 _ _ i.field-0-is so.given b.3 i.ensures.given i.ensures.answer in
    let on = c.skip.ensures.runs first (text ++ b.0) written lines (record { given = got.0; view = so.view; answers = so.answers; stands = so.stands }) in
    (b.0 ++ on.0, on.1, g.met.R.Source.reads_more _ _ _ _ _ b.1 on.2, on.3, moved_on first _ _ _ _ text b.0 on.0 _ on.4)

pub returns-in-Ok-End-clause-runs : goal.returns-in-Ok-End-clause-runs
returns-in-Ok-End-clause-runs g c = λ first text written lines so.
    let i = c.in-Ok-End in
    let b = i.ensures.bytes in
    let got = gives_on c.line_after_line.ensures text lines _ b.0 i.field-0 _ _ i.field-0-is so.given b.3 i.ensures.given i.ensures.answer in
    let end = rw i.field-0-is at i.ensures.end in
    (b.0, [], b.1, g.met.W.Sink.writes_none _, (end, ends_there first _ _ text written lines (text ++ b.0) so got.0.1))

pub returns-in-Err-Failed-clause-runs : goal.returns-in-Err-Failed-clause-runs
returns-in-Err-Failed-clause-runs g c = λ first text written lines so.
    let b = c.in-Err-Failed.ensures.bytes in
    (b.0, [], b.1, g.met.W.Sink.writes_none _, stops_before first _ _ text written lines _ (text ++ b.0) so (lines_behind c.lines_in_one_way.ensures.split text lines _ b.0 so.given))

pub returns-in-Err-NoMemory-clause-runs : goal.returns-in-Err-NoMemory-clause-runs
returns-in-Err-NoMemory-clause-runs g c = λ first text written lines so.
    let b = c.in-Err-NoMemory.ensures.bytes in
    (b.0, [], b.1, g.met.W.Sink.writes_none _, stops_before first _ _ text written lines _ (text ++ b.0) so (lines_behind c.lines_in_one_way.ensures.split text lines _ b.0 so.given))

pub returns-in_ok-answer-in-Ok-Ended-clause-forth : goal.returns-in_ok-answer-in-Ok-Ended-clause-forth
returns-in_ok-answer-in-Ok-Ended-clause-forth g c = grind (arith, common_steps)

pub returns-in_err-answer-in-Ok-Ended-clause-small : goal.returns-in_err-answer-in-Ok-Ended-clause-small
returns-in_err-answer-in-Ok-Ended-clause-small g c = let p = err_from_is_err_and c.from_residual.result c.from_residual.ensures.1 in rw p.1 tt

pub returns-in_err-answer-in-Ok-Ended-clause-forth : goal.returns-in_err-answer-in-Ok-Ended-clause-forth
returns-in_err-answer-in-Ok-Ended-clause-forth g c = let p = err_from_is_err_and c.from_residual.result c.from_residual.ensures.1 in rw p.1 tt

pub returns-in_err-answer-in-Ok-Last-clause-small : goal.returns-in_err-answer-in-Ok-Last-clause-small
returns-in_err-answer-in-Ok-Last-clause-small g c = let p = err_from_is_err_and c.from_residual-in_err-answer-in-Ok-Last.result c.from_residual-in_err-answer-in-Ok-Last.ensures.1 in rw p.1 tt

pub returns-in_err-answer-in-Ok-Last-clause-forth : goal.returns-in_err-answer-in-Ok-Last-clause-forth
returns-in_err-answer-in-Ok-Last-clause-forth g c = let p = err_from_is_err_and c.from_residual-in_err-answer-in-Ok-Last.result c.from_residual-in_err-answer-in-Ok-Last.ensures.1 in rw p.1 tt
