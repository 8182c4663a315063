-- The short forms of a receiver's definitions, at rest.
use Rattle.std.proofs.Common.{sym, subst}
use Rattle.sctp_model.specs.receiver.Receiving.{LetsGo}
use Rattle.sctp_model.specs.receiver.ForwardTaken.{jumped, forwarded}
use Rattle.sctp_model.proofs.receiver.OneStep.{all_only}
use Rattle.sctp_model.proofs.receiver.Idle.{nothing_given_anywhere}
use Rattle.sctp_model.proofs.receiver.AtRest.{piece_at_rest}
use Rattle.sctp_model.proofs.receiver.ForwardAtRest.{let_go_is, lets_go_only}
use Rattle.sctp_safety.specs.RestLaws.{NothingMoreIsDue, FilterIsWords}

pub nothing_more : NothingMoreIsDue
nothing_more f r p a t u n rest taken gives =
    let then = piece_at_rest f r p a t rest taken in
    all_only f n t u t then.ordinary.apart gives (nothing_given_anywhere f n t then.idle then.settled)

pub filter_words : FilterIsWords
filter_words f r c x t rest = (λ words. lets_go_only f (jumped f r c x) t (forwarded f r c x) words own, λ is. subst (LetsGo f (jumped f r c x)) (sym is) own)
  where
    own : LetsGo f (jumped f r c x) (forwarded f r c x)
    own = let_go_is f (jumped f r c x) rest.idle.unordered
