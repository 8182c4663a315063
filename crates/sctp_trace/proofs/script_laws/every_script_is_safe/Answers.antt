use Rattle.sctp_trace.proofs.ScriptSafety.{PairLaws, StrangerLaws, has_course, course_is_safe}
use Rattle.sctp_trace.proofs.script_laws.every_script_is_safe.Goals as goal

pub returns : goal.returns
returns c = λ lines written stage w goes there.
    let pairs : PairLaws = record {
      first = c.the_pair_comes_first.ensures.first;
      pair = c.configurations_are_right.ensures.pair;
      options = c.configurations_are_right.ensures.options;
      within = λ k own peer none. (c.faultless_is_configured.ensures.within k own peer none).0;
    } in
    let strangers : StrangerLaws = record { can_be = c.events_at_their_place.ensures.can_be; byte_cookies = c.premises_are_the_keys.ensures.bytes } in
    let course = has_course pairs lines written stage w goes there in
    (course, course_is_safe c.each_world_on_the_way_is_safe.ensures c.users_take_what_was_sent.ensures c.premises_are_the_keys.ensures.premises strangers lines w course)
