use Rattle.std.proofs.Common.{ℕ, List, Option, None, arith, subst, set}
use Rattle.std.proofs.lemmas.List.{length-set, set-set, get_or-set_same}
use Rattle.sctp_sequence.specs.TwoWays.{IsMapOf}
use Rattle.sctp_sequence.proofs.two_way_map.TwoWayMap.change.Goals as goal

pub returns : goal.returns
returns c = λ values lt is h.
    let long = length-set values c.args.key None in
    subst (λ (os : List (Option ℕ)). IsMapOf os c.enter.new.self) (set-set values c.args.key None c.args.now)
    (c.enter.ensures (set values c.args.key None) (omega (arith, long, lt)) (get_or-set_same values c.args.key None None lt) (c.leave.ensures values lt is h))
