use Rattle.std.proofs.Common.{◌≡◌, ◌≤◌, ◌+◌, ◌-◌, drop, map, length}
use Rattle.sctp_send.specs.OutstandingFields.{item_meaning}
use Rattle.sctp_send.specs.inner.Weighing.{repeats_room}
use Rattle.sctp_send.proofs.kept.outstanding.Outstanding.room_of_repeats.Given as goal

-- what is left is taken by the entries from here on
abbrev pub invariant-loop-at : goal.invariant-loop-at
invariant-loop-at g l =
    let xs = map (item_meaning l.self.size) l.self.items in
    record {
      size : l.size ≡ l.self.size;
      less : l.left ≤ l.fn.room;
      end : l.at-end ≡ length l.self.items;
      rest : repeats_room g.F.Framing.format l.fn.room xs ≡ (l.fn.room - l.left) + repeats_room g.F.Framing.format l.left (drop l.at xs);
    }
