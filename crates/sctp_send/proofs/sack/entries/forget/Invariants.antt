use Rattle.std.proofs.Common.{◌≡◌, drop}
use Rattle.sctp_send.specs.PartsKept.{IsSameRoom}
use Rattle.sctp_send.proofs.sack.entries.forget.Given as goal

abbrev pub invariant-loop : goal.invariant-loop
invariant-loop l = record {
  items : l.outstanding.items ≡ drop l.counter l.initial.outstanding.items;
  room : IsSameRoom l.initial.outstanding l.outstanding;
}
