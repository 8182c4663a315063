use Rattle.std.proofs.Common.{true, false, [], ◌∷◌, ◌++◌, Ok, Err, refl, sym, append-nil, arith}
use Rattle.sctp_words.specs.declared.line_fault.LineFault.TheVariants.{TooLong as LineTooLong}
use Rattle.sctp_trace.specs.declared.script.ScriptFault.TheVariants.{Line}
use Rattle.sctp_trace.specs.inner.ScriptSteps.{BeginsFront}
use Rattle.std.proofs.lemmas.Grind.{common_steps}
use Rattle.std.proofs.lemmas.Result.{err_from_is_err_and}
use Rattle.sctp_trace.proofs.ScriptLemmas.{ended_come, last_come, last_small, line_acted, ended_stops, last_stops, last_over, long_stops, end_over, line_unmade, unread}
use Rattle.sctp_trace.proofs.ScriptGathered.{passed_on, got_line, runs_behind, stopped_writing}
use Rattle.sctp_trace.proofs.script.Running.run_line.Goals as goal

pub returns-in_err-act-in-Ok-Ended-clause-runs : goal.returns-in_err-act-in-Ok-Ended-clause-runs
returns-in_err-act-in-Ok-Ended-clause-runs g c = λ text written lines state gathered.
    let p = c.in_ok-pass_on.ensures.written in
    let i = c.in-Ok-Ended in
    let b = i.ensures.bytes in
    let got = got_line c.line_after_line.ensures c.args.self.now text written _ p.0 c.pass_on.new.gathered.items lines state p.2 gathered c.requires.small b.0 i.field-0 _ _ i.field-0-is b.3 i.ensures.given i.ensures.answer in
    let fault = c.in_err-act-in-Ok-Ended.field-0.0 in
    let out = rw c.deref.ensures.value at (c.in_err-act-in-Ok-Ended.ensures.leaves state got.so.stands) in
    let q = err_from_is_err_and c.from_residual-in_err-act-in-Ok-Ended.result c.from_residual-in_err-act-in-Ok-Ended.ensures.1 in
    let come = ended_come _ text _ lines state b.0 i.line _ got in
    (b.0, p.0, b.1, p.1, rw (q.1, q.2) (runs_behind _ (Err fault) c.args.self.now (text ++ b.0) (written ++ p.0) c.pass_on.new.gathered.items out.0 _ out.1 (ended_stops _ fault _ _ text _ lines state b.0 i.line.items out.0 _ _ come got.gives got.is.2 out.2)))

pub returns-in_err-act-in-Ok-Last-clause-runs : goal.returns-in_err-act-in-Ok-Last-clause-runs
returns-in_err-act-in-Ok-Last-clause-runs g c = λ text written lines state gathered.
    let p = c.in_ok-pass_on.ensures.written in
    let i = c.in-Ok-Last in
    let b = i.ensures.bytes in
    let got = got_line c.line_after_line.ensures c.args.self.now text written _ p.0 c.pass_on.new.gathered.items lines state p.2 gathered c.requires.small b.0 i.field-0 _ _ i.field-0-is b.3 i.ensures.given i.ensures.answer in
    let end = rw i.field-0-is at i.ensures.end in
    let fault = c.in_err-act-in-Ok-Last.field-0.0 in
    let out = rw c.deref-in-Ok-Last.ensures.value at (c.in_err-act-in-Ok-Last.ensures.leaves state got.so.stands) in
    let q = err_from_is_err_and c.from_residual-in_err-act-in-Ok-Last.result c.from_residual-in_err-act-in-Ok-Last.ensures.1 in
    let come = last_come _ text _ lines state b.0 i.line _ got in
    let small = last_small _ text _ lines state b.0 i.line _ got in
    (b.0, p.0, b.1, p.1, rw (q.1, q.2) (runs_behind _ (Err fault) c.args.self.now (text ++ b.0) (written ++ p.0) c.pass_on.new.gathered.items out.0 _ out.1 (last_stops _ fault _ text _ lines state b.0 i.line.items out.0 _ _ end come got.is.1 small got.gives.1 out.2)))

pub returns-in_ok-act-in-Ok-Ended-clause-runs : goal.returns-in_ok-act-in-Ok-Ended-clause-runs
returns-in_ok-act-in-Ok-Ended-clause-runs g c = λ text written lines state gathered.
    let p = c.in_ok-pass_on.ensures.written in
    let i = c.in-Ok-Ended in
    let b = i.ensures.bytes in
    let got = got_line c.line_after_line.ensures c.args.self.now text written _ p.0 c.pass_on.new.gathered.items lines state p.2 gathered c.requires.small b.0 i.field-0 _ _ i.field-0-is b.3 i.ensures.given i.ensures.answer in
    let out = rw c.deref.ensures.value at (c.in_ok-act-in-Ok-Ended.ensures.leaves state got.so.stands) in
    let left = out.2 in
    (b.0, p.0, b.1, p.1, runs_behind (Unit {0}) (Ok true) _ (text ++ b.0) (written ++ p.0) c.pass_on.new.gathered.items out.0 _ out.1 (lines ++ i.line.items ∷ [], left.0, line_acted _ _ text _ lines state left.0 b.0 i.line.items out.0 got.so got.gives left.1 left.2 refl))

pub returns-in_ok-act-in-Ok-Last-clause-runs : goal.returns-in_ok-act-in-Ok-Last-clause-runs
returns-in_ok-act-in-Ok-Last-clause-runs g c = λ text written lines state gathered.
    let p = c.in_ok-pass_on.ensures.written in
    let i = c.in-Ok-Last in
    let b = i.ensures.bytes in
    let got = got_line c.line_after_line.ensures c.args.self.now text written _ p.0 c.pass_on.new.gathered.items lines state p.2 gathered c.requires.small b.0 i.field-0 _ _ i.field-0-is b.3 i.ensures.given i.ensures.answer in
    let end = rw i.field-0-is at i.ensures.end in
    let out = rw c.deref-in-Ok-Last.ensures.value at (c.in_ok-act-in-Ok-Last.ensures.leaves state got.so.stands) in
    let left = out.2 in
    (b.0, p.0, b.1, p.1, runs_behind _ (Ok false) _ (text ++ b.0) (written ++ p.0) c.pass_on.new.gathered.items out.0 _ out.1 (end, (left.0, last_over _ _ text _ lines state left.0 b.0 i.line _ out.0 got left.1 left.2)))

pub returns-in-Ok-TooLong-clause-runs : goal.returns-in-Ok-TooLong-clause-runs
returns-in-Ok-TooLong-clause-runs g c = λ text written lines state gathered.
    let p = c.in_ok-pass_on.ensures.written in
    let i = c.in-Ok-TooLong in
    let b = i.ensures.bytes in
    let got = got_line c.line_after_line.ensures c.args.self.now text written _ p.0 c.pass_on.new.gathered.items lines state p.2 gathered c.requires.small b.0 i.field-0 _ _ i.field-0-is b.3 i.ensures.given i.ensures.answer in
    (b.0, p.0, b.1, p.1, runs_behind _ (Err (Line c.args.self.now.number LineTooLong)) c.args.self.now (text ++ b.0) (written ++ p.0) c.pass_on.new.gathered.items [] _ (sym (append-nil _)) (long_stops _ _ text _ lines state b.0 _ got))

pub returns-in-Ok-End-clause-runs : goal.returns-in-Ok-End-clause-runs
returns-in-Ok-End-clause-runs g c = λ text written lines state gathered.
    let p = c.in_ok-pass_on.ensures.written in
    let i = c.in-Ok-End in
    let b = i.ensures.bytes in
    let got = got_line c.line_after_line.ensures c.args.self.now text written _ p.0 c.pass_on.new.gathered.items lines state p.2 gathered c.requires.small b.0 i.field-0 _ _ i.field-0-is b.3 i.ensures.given i.ensures.answer in
    let end = rw i.field-0-is at i.ensures.end in
    (b.0, p.0, b.1, p.1, runs_behind _ (Ok false) _ (text ++ b.0) (written ++ p.0) c.pass_on.new.gathered.items [] _ (sym (append-nil _)) (end, (state, end_over _ _ text _ lines state b.0 _ got got.so.stands.0)))

pub returns-in-Err-clause-runs : goal.returns-in-Err-clause-runs
returns-in-Err-clause-runs g c = λ text written lines state gathered.
    let p = c.in_ok-pass_on.ensures.written in
    let done = (written ++ p.0) ++ c.pass_on.new.gathered.items in
    let so = passed_on c.args.self.now text written c.args.gathered.now.items p.0 c.pass_on.new.gathered.items lines state p.2 gathered in
    let b = c.in-Err.ensures.bytes in
    let begins = line_unmade c.args.self.now text done lines state b.0 c.next_line.new.self.held [] so c.requires.small b.3 refl in
    let begins : BeginsFront (text ++ b.0) done = rw (append-nil done) at begins in
    (b.0, p.0, b.1, p.1, rw c.read_fault.ensures (unread _ c.in-Err.fault _ _ begins))

pub returns-in_err-pass_on-clause-runs : goal.returns-in_err-pass_on-clause-runs
returns-in_err-pass_on-clause-runs g c = λ text written lines state before.
    let p = c.in_err-pass_on.ensures.written in
    let fault = c.in_err-pass_on.field-0.0 in
    let q = err_from_is_err_and c.from_residual.result c.from_residual.ensures.1 in
    ([], p.0, g.met.R.Source.reads_none _, p.1, rw (q.1, q.2) (stopped_writing _ fault c.args.self.now c.args.self.now text written c.args.gathered.now.items p.0 _ lines state c.requires.small p.2 before))

pub returns-in_ok-act-in-Ok-Ended-clause-forth : goal.returns-in_ok-act-in-Ok-Ended-clause-forth
returns-in_ok-act-in-Ok-Ended-clause-forth g c = grind (arith, common_steps)

pub returns-in_err-act-in-Ok-Ended-clause-small : goal.returns-in_err-act-in-Ok-Ended-clause-small
returns-in_err-act-in-Ok-Ended-clause-small g c = let p = err_from_is_err_and c.from_residual-in_err-act-in-Ok-Ended.result c.from_residual-in_err-act-in-Ok-Ended.ensures.1 in rw p.1 tt

pub returns-in_err-act-in-Ok-Ended-clause-forth : goal.returns-in_err-act-in-Ok-Ended-clause-forth
returns-in_err-act-in-Ok-Ended-clause-forth g c = let p = err_from_is_err_and c.from_residual-in_err-act-in-Ok-Ended.result c.from_residual-in_err-act-in-Ok-Ended.ensures.1 in rw p.1 tt

pub returns-in_err-act-in-Ok-Last-clause-small : goal.returns-in_err-act-in-Ok-Last-clause-small
returns-in_err-act-in-Ok-Last-clause-small g c = let p = err_from_is_err_and c.from_residual-in_err-act-in-Ok-Last.result c.from_residual-in_err-act-in-Ok-Last.ensures.1 in rw p.1 tt

pub returns-in_err-act-in-Ok-Last-clause-forth : goal.returns-in_err-act-in-Ok-Last-clause-forth
returns-in_err-act-in-Ok-Last-clause-forth g c = let p = err_from_is_err_and c.from_residual-in_err-act-in-Ok-Last.result c.from_residual-in_err-act-in-Ok-Last.ensures.1 in rw p.1 tt
