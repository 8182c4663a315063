-- What reaches an association's endpoint.
use Rattle.std.proofs.Common.{◌≡◌, ◌≢◌, Bool, true, false, if◌then◌else◌, refl}
use Rattle.sctp_model.specs.end.EndView.{Draw, Idle, Listening, Calling, Echoing, Open, Over}
use Rattle.sctp_model.specs.end.Opening.{cookie_read}
use Rattle.sctp_socket.specs.declared.meeting.Standing.{Standing}
use Rattle.sctp_socket.specs.declared.meeting.Standing.TheVariants.{Apart, Called, Echoed, Joined}
use Rattle.sctp_socket.specs.declared.meeting.Reply.{Reply}
use Rattle.sctp_socket.specs.declared.meeting.Reply.TheVariants.{Silent, UnderOwn, UnderFresh}
use Rattle.sctp_socket.specs.Meeting.{reply}
use Rattle.sctp_socket.specs.Routing.{ToEnd, ToListener, route_of_reply, route_of_ack, is_known, IsCalled, listener_there, ApartWithout, InitsReachNoEnd, EchoesAreOwn, AcksReachCallers}

reply_reaches : (x : Standing) (fresh : Draw) (y : Reply) → route_of_reply x fresh y ≢ ToEnd
reply_reaches x fresh Silent h = absurd (cc)
reply_reaches x fresh UnderOwn h = absurd (cc)
reply_reaches x fresh UnderFresh h = absurd (cc)

pub inits_reach_no_end : InitsReachNoEnd
inits_reach_no_end l tag m = reply_reaches l.standing l.fresh (reply l.standing l.bar l.now m.tag)

known_by : (fresh : Draw) (b : Bool) → (if b then ToEnd else ToListener fresh) ≡ ToEnd → b ≡ true
known_by fresh true h = refl
known_by fresh false h = absurd (cc)

pub echoes_are_own : EchoesAreOwn
echoes_are_own l tag cookie h = known_by l.fresh (is_known l.standing (cookie_read l.seal (listener_there l) tag cookie)) h

called_by : (x : Standing) (fresh : Draw) → route_of_ack x fresh ≡ ToEnd → IsCalled x
called_by Apart fresh h = absurd (cc)
called_by (Called d) fresh h = (d, refl)
called_by (Echoed own peer) fresh h = absurd (cc)
called_by (Joined own peer) fresh h = absurd (cc)

pub acks_reach_callers : AcksReachCallers
acks_reach_callers l tag m h = called_by l.standing l.fresh h

pub apart_without : ApartWithout
apart_without Idle = (λ has. absurd (let q : false ≡ true = has in cc), λ not. absurd (not refl))
apart_without Listening = (λ has. absurd (let q : false ≡ true = has in cc), λ not. absurd (not refl))
apart_without (Calling d) = (λ has apart. absurd (cc), λ not. refl)
apart_without (Echoing t xs) = (λ has apart. absurd (cc), λ not. refl)
apart_without (Open t g) = (λ has apart. absurd (cc), λ not. refl)
apart_without (Over why) = (λ has. absurd (let q : false ≡ true = has in cc), λ not. absurd (not refl))
