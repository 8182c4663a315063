use Rattle.std.proofs.Common.{◌≡◌, ◌≤◌, ◌++◌, drop, map, length}
use Rattle.sctp_send.specs.OutstandingFields.{item_meaning}
use Rattle.sctp_send.specs.inner.Testing.{index_of}
use Rattle.sctp_send.specs.inner.Weighing.{repeats_from}
use Rattle.sctp_send.proofs.kept.outstanding.Outstanding.list_marked.Given as goal

-- what is listed, with what the entries from here on add
abbrev pub invariant-loop-at : goal.invariant-loop-at
invariant-loop-at g l =
    let xs = map (item_meaning l.self.size) l.self.items in
    record {
      size : l.size ≡ l.self.size;
      less : l.left ≤ l.room;
      end : l.at-end ≡ length l.self.items;
      rest : l.list.items ++ map (index_of l.cum) (repeats_from g.F.Framing.format l.left l.at (drop l.at xs)) ≡ l.initial.list.items ++ map (index_of l.cum) (repeats_from g.F.Framing.format l.room 0 xs);
    }
