use Rattle.std.proofs.Common.{◌≡◌, ◌∙◌, length, option_map, true, ap, sym, arith}
use Rattle.std.proofs.lemmas.Grind.{common_steps}
use Rattle.sctp_association.specs.DueStands.{info_bytes}
use Rattle.sctp_association.proofs.PutLemmas.{none_left, no_causes_left}
use Rattle.sctp_association.proofs.state.due.Due.is_plain.Goals as goal

pub returns-in-None : goal.returns-in-None
returns-in-None c = λ d stands is.
    let none : length c.args.self.now.causes.bytes.items ≡ 0 = grind (arith, common_steps) in
    record {
      cookie_ack = c.if-self.false;
      heartbeat = none_left true d.heartbeat (sym stands.heartbeat ∙ ap (option_map info_bytes) c.in-None.is);
      beat = stands.beat;
      causes = no_causes_left true d.causes (sym (ap length stands.causes.bytes_are) ∙ none);
      forward = c.if-self-2.false;
      request = c.if-self-3.false;
      shutdown = c.if-self-4.false;
      shutdown_ack = c.if-self-5.false;
    }
