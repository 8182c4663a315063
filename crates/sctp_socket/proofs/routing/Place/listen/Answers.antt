use Rattle.std.proofs.Common.{refl}
use Rattle.sctp_socket.specs.Routing.{listener_at}
use Rattle.sctp_socket.proofs.ListeningLemmas.{is_there}
use Rattle.sctp_socket.proofs.routing.Place.listen.Goals as goal

pub returns-clause-answer : goal.returns-clause-answer
returns-clause-answer c = λ s under.
    let l = c.args.self.now in
    c.hear.ensures.answer (listener_at l.config s l.moment) (record { at = is_there l.config s l.moment; seal = (s, refl, under) })

pub returns-clause-memory : goal.returns-clause-memory
returns-clause-memory c = λ s under.
    let l = c.args.self.now in
    c.hear.ensures.memory (listener_at l.config s l.moment) (record { at = is_there l.config s l.moment; seal = (s, refl, under) })
