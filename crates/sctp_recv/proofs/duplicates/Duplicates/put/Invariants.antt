use Rattle.std.proofs.Common.{◌≡◌, ◌%◌, length, take}
use Rattle.std.specs.List.{AllByRecursion}
use Rattle.sctp_wire.specs.Items.{words_in, IsWord}
use Rattle.sctp_recv.proofs.duplicates.Duplicates.put.Given as goal

abbrev pub invariant-loop-tsn : goal.invariant-loop-tsn
invariant-loop-tsn l = record {
  words : words_in l.list.items ≡ take l.tsn-index l.self.tsns.items;
  in_range : AllByRecursion IsWord (words_in l.list.items);
  whole : length l.list.items % 4 ≡ 0;
}
