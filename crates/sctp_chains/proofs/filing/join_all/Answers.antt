use Rattle.std.proofs.Common.{◌≡◌, ◌<◌, length, ap, arith}
use Rattle.std.specs.Prelude.{Option, None, Some, IsSome, OnSome}
use Rattle.std.specs.List.{remove}
use Rattle.sctp_chains.proofs.MemoryLemmas.{as_long, one_shorter}
use Rattle.sctp_chains.proofs.LiftedLemmas.{both_back, joined_back, joined_whole, joined_few}
use Rattle.sctp_chains.proofs.filing.join_all.Goals as goal

when_some : {X : Type 0} (r : Option X) (P : Type 0) → IsSome r → OnSome r P → P
when_some (Some x) P some p = p
when_some None P some p = absurd (let never = some in cc)

pub returns-then-is_err-clause-refused : goal.returns-then-is_err-clause-refused
returns-then-is_err-clause-refused c =
    both_back c.args.chains.now.items c.replace-high.new.self.items c.replace-low.new.self.items c.args.left c.args.right c.nothing.result c.nothing-2.result c.replace-low.result c.replace-high.result
    c.make_joint_room.new.left c.make_joint_room.new.right c.requires.order c.requires.within c.replace-high.ensures.value c.replace-high.ensures.items c.replace-low.ensures.value c.replace-low.ensures.items
    c.make_joint_room.ensures.left c.make_joint_room.ensures.right c.replace.new.self.items c.replace-then-is_err.new.self.items c.replace.ensures.items c.replace-then-is_err.ensures.items

pub replace-requires-2 : goal.replace-requires-2
replace-requires-2 c =
    let one = as_long c.args.chains.now.items c.args.right c.nothing.result in
    let two = as_long c.replace-high.new.self.items c.args.left c.nothing-2.result in
    let first = ap length c.replace-high.ensures.items in
    let second = ap length c.replace-low.ensures.items in
    let within = c.requires.within in
    let order = c.requires.order in
    let less : c.args.right < length c.replace-low.new.self.items = omega (arith, within, one, two, first, second) in
    let fewer = one_shorter c.replace-low.new.self.items c.args.right less in
    let is = ap length (when_some c.remove.result _ (c.remove.ensures.variant.1 less) c.remove.ensures.items) in
    omega (arith, within, order, one, two, first, second, fewer, is)

pub returns-clause-few : goal.returns-clause-few
returns-clause-few c =
    let one = as_long c.args.chains.now.items c.args.right c.nothing.result in
    let two = as_long c.replace-high.new.self.items c.args.left c.nothing-2.result in
    let first = ap length c.replace-high.ensures.items in
    let second = ap length c.replace-low.ensures.items in
    let less : c.args.right < length c.replace-low.new.self.items = let l = c.requires.within in omega (arith, l, one, two, first, second) in
    let gone = when_some c.remove.result (c.remove.new.self.items ≡ remove c.replace-low.new.self.items c.args.right) (c.remove.ensures.variant.1 less) c.remove.ensures.items in
    joined_few c.args.chains.now.items c.replace-high.new.self.items c.replace-low.new.self.items c.args.left c.args.right c.nothing.result c.nothing-2.result c.replace-low.result c.replace-high.result
    c.make_joint_room.new.left c.make_joint_room.new.right c.requires.order c.requires.within c.replace-high.ensures.value c.replace-high.ensures.items c.replace-low.ensures.value c.replace-low.ensures.items
    c.make_joint_room.ensures.left c.make_joint_room.ensures.right c.remove.new.self.items c.replace-2.new.self.items c.close_gap.new.self gone c.replace-2.ensures.items

pub returns-clause-joined : goal.returns-clause-joined
returns-clause-joined c =
    let one = as_long c.args.chains.now.items c.args.right c.nothing.result in
    let two = as_long c.replace-high.new.self.items c.args.left c.nothing-2.result in
    let first = ap length c.replace-high.ensures.items in
    let second = ap length c.replace-low.ensures.items in
    let less : c.args.right < length c.replace-low.new.self.items = let l = c.requires.within in omega (arith, l, one, two, first, second) in
    let gone = when_some c.remove.result (c.remove.new.self.items ≡ remove c.replace-low.new.self.items c.args.right) (c.remove.ensures.variant.1 less) c.remove.ensures.items in
    joined_back c.args.chains.now.items c.replace-high.new.self.items c.replace-low.new.self.items c.args.left c.args.right c.nothing.result c.nothing-2.result c.replace-low.result c.replace-high.result
    c.make_joint_room.new.left c.make_joint_room.new.right c.requires.order c.requires.within c.replace-high.ensures.value c.replace-high.ensures.items c.replace-low.ensures.value c.replace-low.ensures.items
    c.make_joint_room.ensures.left c.make_joint_room.ensures.right c.remove.new.self.items c.replace-2.new.self.items c.close_gap.new.self c.args.part gone c.replace-2.ensures.items c.close_gap.ensures

pub returns-clause-whole : goal.returns-clause-whole
returns-clause-whole c =
    joined_whole c.args.chains.now.items c.replace-high.new.self.items c.replace-low.new.self.items c.args.left c.args.right c.nothing.result c.nothing-2.result c.replace-low.result c.replace-high.result
    c.make_joint_room.new.left c.make_joint_room.new.right c.requires.order c.requires.within c.replace-high.ensures.value c.replace-high.ensures.items c.replace-low.ensures.value c.replace-low.ensures.items
    c.make_joint_room.ensures.left c.make_joint_room.ensures.right c.close_gap.new.self c.args.part c.whole-whole.result c.close_gap.ensures c.whole-whole.ensures
