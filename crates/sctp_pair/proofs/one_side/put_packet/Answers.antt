use Rattle.sctp_pair.proofs.BagLemmas.{bag_push}
use Rattle.sctp_pair.proofs.one_side.put_packet.Goals as goal

pub returns-clause-packets : goal.returns-clause-packets
returns-clause-packets c = λ ps p packets carries. rw c.push_reserved.ensures.items (bag_push _ ps c.shrink_to_fit.new.self p packets (rw c.shrink_to_fit.ensures.items carries))
