use Rattle.sctp_send.proofs.kept.user_data.add_first_bytes.Goals as goal

pub returns-clause-counted : goal.returns-clause-counted
returns-clause-counted c = record {
  grown = c.make_count.new.counts.items;
  same = c.make_count.ensures.same;
  longer = c.make_count.ensures.longer;
  reach = λ on. c.in_ok-make_count.ensures.made;
  after = c.add_there.ensures;
}
