use Rattle.std.proofs.Common.{◌≡◌, List, ap, sym, arith}
use Rattle.sctp_send.specs.declared.kept.entry.Entry.{Entry as EntryFields}
use Rattle.sctp_send.proofs.sack.TellLemmas.{run_starts}
use Rattle.sctp_send.proofs.kept.outstanding.Outstanding.tell_run.Goals as goal

pub returns-then-from-to : goal.returns-then-from-to
returns-then-from-to c =
    let w = c.args.self.now in
    let end : c.args.from ≡ c.args.to = omega (arith, c.requires.order, c.if-from-to.true) in
    rw (sym end) (ap (λ (es : List EntryFields). record w { items = es }) (run_starts c.args.covered c.args.from w.items))
