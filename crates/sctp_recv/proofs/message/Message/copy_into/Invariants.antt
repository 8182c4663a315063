use Rattle.std.proofs.Common.{◌≡◌, ◌≤◌, length, take, drop}
use Rattle.sctp_recv.specs.Parts.{text_of_parts}
use Rattle.sctp_recv.proofs.message.Message.copy_into.Given as goal

-- the parts so far stand in the room, and what is behind them is as it was
abbrev pub invariant-loop-part : goal.invariant-loop-part
invariant-loop-part l = record {
  size : length l.room ≡ length l.fn.room;
  fits : length (text_of_parts l.parts) ≤ length l.fn.room;
  at : l.at ≡ length (text_of_parts (take l.part-index l.parts));
  put : take l.at l.room ≡ text_of_parts (take l.part-index l.parts);
  behind : drop l.at l.room ≡ drop l.at l.fn.room;
}
