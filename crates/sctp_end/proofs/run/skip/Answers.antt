use Rattle.std.proofs.Common.{[], ◌∷◌, ◌++◌, ap, sym, ◌∙◌, append-nil, arith}
use Rattle.std.proofs.lemmas.Grind.{common_steps}
use Rattle.std.proofs.lemmas.Result.{err_from_is_err_and}
use Rattle.sctp_end.specs.SessionStands.{standing}
use Rattle.sctp_end.proofs.RunLemmas.{skips_on, lines_behind, lines_so_far, goes_on, ends_with, stops_before, stops_within, long_answered, some_line}
use Rattle.sctp_end.proofs.run.skip.Goals as goal

pub returns-in_ok-reply_too_long-in-Ok-Ended-clause-runs : goal.returns-in_ok-reply_too_long-in-Ok-Ended-clause-runs
returns-in_ok-reply_too_long-in-Ok-Ended-clause-runs g c = λ first text written lines so.
    let i = c.in-Ok-Ended in
    let s = i.ensures.skips in
    let out = c.in_ok-reply_too_long-in-Ok-Ended.ensures.told in
    let got = skips_on c.skipped_lines_count.ensures text lines _ s.0 i.field-0 _ _ i.field-0-is so.given c.requires.long s.2 in
    (s.0, out.0, s.1, out.1, (lines ++ got.0 ∷ [], goes_on first _ _ _ _ text written lines s.0 got.0 out.0 so.view so got.2 (rw out.2 (long_answered _ got.0 got.1)) so.stands))

pub returns-in_err-reply_too_long-in-Ok-Ended-clause-runs : goal.returns-in_err-reply_too_long-in-Ok-Ended-clause-runs
returns-in_err-reply_too_long-in-Ok-Ended-clause-runs g c = λ first text written lines so.
    let i = c.in-Ok-Ended in
    let s = i.ensures.skips in
    let out = c.in_err-reply_too_long-in-Ok-Ended.ensures.told in
    let got = skips_on c.skipped_lines_count.ensures text lines _ s.0 i.field-0 _ _ i.field-0-is so.given c.requires.long s.2 in
    let p = err_from_is_err_and c.from_residual.result c.from_residual.ensures.1 in (
      s.0,
      out.0,
      s.1,
      out.1,
      rw p.1 (stops_within first _ _ text written lines _ (text ++ s.0) got.0 _ out.0 _ so
          (lines_so_far c.lines_in_one_way.ensures.split _ _ _ got.2) (long_answered _ got.0 got.1) out.2),
    )

pub returns-in_ok-reply_too_long-in-Ok-Last-clause-runs : goal.returns-in_ok-reply_too_long-in-Ok-Last-clause-runs
returns-in_ok-reply_too_long-in-Ok-Last-clause-runs g c = λ first text written lines so.
    let i = c.in-Ok-Last in
    let s = i.ensures.skips in
    let end = rw i.field-0-is at i.ensures.end in
    let out = c.in_ok-reply_too_long-in-Ok-Last.ensures.told in
    let got = skips_on c.skipped_lines_count.ensures text lines _ s.0 i.field-0 _ _ i.field-0-is so.given c.requires.long s.2 in
    (s.0, out.0, s.1, out.1, (end, ends_with first _ _ text written lines (text ++ s.0) got.0 out.0 (standing c.args.session.now so.view) so (got.2 ∙ ap (λ behind. lines ++ behind) (some_line got.0 got.1)) (rw out.2 (long_answered _ got.0 got.1))))

pub returns-in_err-reply_too_long-in-Ok-Last-clause-runs : goal.returns-in_err-reply_too_long-in-Ok-Last-clause-runs
returns-in_err-reply_too_long-in-Ok-Last-clause-runs g c = λ first text written lines so.
    let i = c.in-Ok-Last in
    let s = i.ensures.skips in
    let out = c.in_err-reply_too_long-in-Ok-Last.ensures.told in
    let got = skips_on c.skipped_lines_count.ensures text lines _ s.0 i.field-0 _ _ i.field-0-is so.given c.requires.long s.2 in
    let p = err_from_is_err_and c.from_residual-in_err-reply_too_long-in-Ok-Last.result c.from_residual-in_err-reply_too_long-in-Ok-Last.ensures.1 in (
      s.0,
      out.0,
      s.1,
      out.1,
      rw p.1 (stops_within first _ _ text written lines [] (text ++ s.0) got.0 _ out.0 _ so
          (got.2 ∙ ap (λ behind. lines ++ behind) (some_line got.0 got.1) ∙ sym (append-nil (lines ++ got.0 ∷ []))) (long_answered _ got.0 got.1) out.2),
    )

pub returns-in-Ok-TextTooLong-clause-runs : goal.returns-in-Ok-TextTooLong-clause-runs
returns-in-Ok-TextTooLong-clause-runs g c = λ first text written lines so.
    let s = c.in-Ok-TextTooLong.ensures.skips in
    (s.0, [], s.1, g.met.W.Sink.writes_none _, stops_before first _ _ text written lines _ (text ++ s.0) so (lines_behind c.lines_in_one_way.ensures.split text lines _ s.0 so.given))

pub returns-in-Err-clause-runs : goal.returns-in-Err-clause-runs
returns-in-Err-clause-runs g c = λ first text written lines so.
    let s = c.in-Err.ensures.skips in
    (s.0, [], s.1, g.met.W.Sink.writes_none _, stops_before first _ _ text written lines _ (text ++ s.0) so (lines_behind c.lines_in_one_way.ensures.split text lines _ s.0 so.given))

pub returns-in_ok-reply_too_long-in-Ok-Ended-clause-forth : goal.returns-in_ok-reply_too_long-in-Ok-Ended-clause-forth
returns-in_ok-reply_too_long-in-Ok-Ended-clause-forth g c = grind (arith, common_steps)
