use Rattle.std.proofs.Common.{◌∙◌, ℕ, refl, ap, subst, arith}
use Rattle.sctp_model.specs.sender.SenderView.{fresh_sender}
use Rattle.sctp_model.specs.receiver.ReceiverView.{fresh_receiver}
use Rattle.sctp_model.specs.end.EndView.{EndView, Paired, Idle, Open, Established, fresh_end, format_for, send_limits}
use Rattle.sctp_model.specs.end.EndView as model
use Rattle.sctp_model.specs.end.Beating.{beating}
use Rattle.sctp_model.specs.end.Opening.{joined, pace_for, terms_alike, tags_between}
use Rattle.sctp_model.proofs.PacedEnds.{unbeating}
use Rattle.sctp_model.specs.messages.Framing.{header_of}
use Rattle.sctp_congestion.specs.PaceStands.{PacesStand}
use Rattle.sctp_association.specs.TrafficStands.{TrafficStands}
use Rattle.sctp_association.specs.MachineStands.{MachineStands}
use Rattle.sctp_association.proofs.MachineLemmas.{at_view}
use Rattle.sctp_association.proofs.OptionLemmas.{offers_all, unused_are}
use Rattle.sctp_association.proofs.JoinLemmas.{unpaced}
use Rattle.sctp_association.proofs.machine.Machine.paired.Goals as goal

pub returns : goal.returns
unfolding MachineStands
returns c =
    let config = c.args.config in
    let options = c.limit-limit.ensures.plain in
    let begins = rw c.buffer.ensures.exact at c.in_ok-traffic.ensures in
    let begun : ℕ → EndView =
    λ rwnd. record (joined (terms_alike config c.args.own c.args.peer) rwnd (fresh_end config Paired Idle)) { phase = Open (tags_between c.args.own c.args.peer) Established } in
    let v : EndView = begun config.buffer in
    at_view _ _ v (ap (λ (n : ℕ). beating (begun n)) (offers_all config options) ∙ unbeating v options.heartbeat) (record {
      configuration = refl;
      role = refl;
      clock = refl;
      due = c.nothing.ensures;
      timers = unused_are config options _ c.unused.ensures;
      delayed = refl;
      phase = rw (c.tag.ensures.exact, c.tag-2.ensures.exact) refl;
      life = record {
        terms = c.alike-terms.ensures;
        traffic = subst (λ (x : model.Terms). TrafficStands c.in_ok-traffic.traffic (format_for x.interleave)
            (fresh_sender x.own_tsn x.outbound config.fragment config.buffer x.partial (send_limits config)) (fresh_receiver x.peer_tsn x.inbound config.buffer config.reserve)) c.alike-terms.ensures begins;
        buffer = refl;
        answers = λ off. refl;
      };
      room = rw c.new.ensures.capacity (omega arith);
      pace = subst (λ (x : model.Terms). PacesStand (format_for x.interleave) 0 c.pace_for-pace.result (pace_for config (header_of (format_for x.interleave)) config.buffer)) c.alike-terms.ensures
          (rw c.buffer-2.ensures.exact at c.pace_for-pace.ensures);
      unpaced = unpaced config _ config.buffer;
      options = options;
      beats = refl;
    })
