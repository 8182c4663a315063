use Rattle.sctp_trace.proofs.ScriptLines.{lines_behind}
use Rattle.sctp_trace.proofs.script_laws.lines_are_there.Goals as goal

pub returns : goal.returns
returns c = λ text front rest written state is.
    let there = lines_behind (record {
      one_meaning = c.one_meaning_at.ensures;
      events_follow = c.events_at_their_place.ensures.follow;
      splits = c.lines_in_one_way.ensures.split;
      lines = c.lines_in_one_way.ensures.exist;
      can_be = c.events_at_their_place.ensures.can_be;
      packets = c.one_packet.ensures;
      seals = c.keys_have_seals.ensures.some;
      outcomes = c.every_event_has_an_outcome.ensures;
    }) text front rest written state is in
    (there.lines, there.more, there.are, there.begins)
