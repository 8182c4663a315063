-- What the terms of an association say.
use Rattle.sctp_model.specs.end.EndView as model
use Rattle.sctp_opening.specs.declared.terms.Terms.{Terms}

-- these terms
abbrev pub terms_meaning : Terms → model.Terms
terms_meaning x = record {
  own_tsn = x.own_tsn;
  peer_tsn = x.peer_tsn;
  outbound = x.outbound;
  inbound = x.inbound;
  interleave = x.interleave;
  partial = x.partial;
  reset = x.reset;
  zero_checksum = x.zero_checksum;
}
