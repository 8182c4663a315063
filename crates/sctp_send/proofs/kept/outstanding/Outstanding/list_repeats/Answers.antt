use Rattle.std.proofs.Common.{◌++◌, List, ℕ, map, sym, ap, ◌∙◌, append-nil}
use Rattle.sctp_send.specs.OutstandingFields.{item_meaning}
use Rattle.sctp_send.specs.inner.Testing.{index_of}
use Rattle.sctp_send.proofs.pace.AgainLemmas.{listed_none}
use Rattle.sctp_send.proofs.kept.outstanding.Outstanding.list_repeats.Goals as goal

pub returns-then-not-may_repeat : goal.returns-then-not-may_repeat
returns-then-not-may_repeat g c =
    let none = listed_none g.F.Framing.format c.args.room 0 (map (item_meaning c.args.self.now.size) c.args.self.now.items) (c.may_repeat.ensures c.if-not-may_repeat.true) in
    sym (append-nil c.args.list.now.items) ∙ ap (λ (ks : List ℕ). c.args.list.now.items ++ map (index_of c.args.cum) ks) (sym none)
