use Rattle.std.proofs.Common.{◌∙◌, nat_lt, sym, ap}
use Rattle.sctp_model.specs.messages.Format.{Format}
use Rattle.sctp_model.specs.end.EndView.{format_of}
use Rattle.sctp_association.specs.MachineStands.{MachineStands}
use Rattle.sctp_association.proofs.BackLemmas.{none_fit}
use Rattle.sctp_association.proofs.CumLemmas.{pace_there}
use Rattle.sctp_association.proofs.MachineLemmas.{joined}
use Rattle.sctp_association.proofs.FollowLemmas.{before_at, follows}
use Rattle.sctp_association.proofs.machine.Machine.follow_paced.Goals as goal

pub returns-in-Joined : goal.returns-in-Joined
unfolding MachineStands
returns-in-Joined c = λ v x t s g before back same phase stands.
    let f : Format = format_of x in
    let (p, there, was) = pace_there f x.sender.cum _ c.in-Some.pace x.pace c.in-Some.is stands.pace in
    let known = before_at f v x.sender p c.args.before (sym same ∙ there) before in
    let traffic = (joined _ _ _ c.in-Joined.is stands).traffic in
    let counted = c.count_misses.ensures f v.sender x.sender x.receiver p traffic known was (none_fit v.sender x.sender _ back) in
    let left = c.respond-reply.ensures.traffic f v.sender x.sender x.receiver p traffic known counted in
    follows _ _ v x t p _ _ _ _ c.args.before _ _ _ c.in-Joined.is stands there before.3 c.rto_min-rto_min.ensures
    (c.respond-reply.ensures.pace f v.sender x.sender x.receiver p traffic known counted) left (c.respond-reply.ensures.reply f v.sender x.sender x.receiver p traffic known counted)
    c.rto_after-rto.ensures (ap (nat_lt 0) (c.in_flight-flies.ensures f _ x.receiver left)) c.follow.ensures
