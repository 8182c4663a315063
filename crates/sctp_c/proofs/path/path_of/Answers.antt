use Rattle.sctp_c.proofs.path.path_of.Goals as goal

pub returns : goal.returns
returns c = λ v stands. record {
  flight = rw c.path_told.ensures.flight (c.in_flight.ensures v stands);
  answer = c.path.result;
  answers = c.path.ensures v stands;
  told = c.path_told.ensures.told;
  reserved = c.path_told.ensures.reserved;
}
