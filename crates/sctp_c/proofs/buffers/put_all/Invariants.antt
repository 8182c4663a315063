use Rattle.std.proofs.Common.{◌≡◌, length}
use Rattle.sctp_c.proofs.TicketLemmas.{told}
use Rattle.sctp_c.proofs.buffers.put_all.Given as goal

abbrev pub invariant-loop-place : goal.invariant-loop-place
invariant-loop-place l = record {
  same : length l.buffer ≡ length l.fn.buffer;
  told : l.buffer ≡ told l.tickets l.place l.fn.buffer;
}
