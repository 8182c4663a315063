use Rattle.std.proofs.Common.{ℕ, sym, ap, ◌∙◌, subst}
use Rattle.std.specs.Prelude.{option_map}
use Rattle.sctp_model.specs.end.Trips.{timed_from}
use Rattle.sctp_model.specs.end.Misses.{misses_sent, goes_again}
use Rattle.sctp_model.specs.end.Control.{with_packet, chunk_flight}
use Rattle.sctp_congestion.specs.Went.{AreThose}
use Rattle.sctp_congestion.specs.PaceStands.{PaceKept, PaceStands, MissesStand, pace_room}
use Rattle.sctp_congestion.proofs.ControlLemmas.{header_sent}
use Rattle.sctp_congestion.proofs.PaceLemmas.{header_kept, step_by}
use Rattle.sctp_congestion.proofs.pacing.Pacing.sent.Goals as goal

pub returns : goal.returns
returns c = λ f cum v u ws p stands before after flight some again.
    let s = subst (λ (k : PaceKept). PaceStands f cum k p) (sym c.self.view_is) stands in
    let here = subst (λ (k : PaceKept). AreThose (goes_again ws) cum (pace_room k) c.args.again.now) (sym c.self.view_is) again in
    record {
      trips = c.start_timing.ensures ∙ (λ i. record (s.trips i) { timed = timed_from (s.trips i).timed c.args.now (before i) (after i) });
      misses = subst (λ (n : ℕ). MissesStand cum c.resend.new.self (misses_sent n ws p.misses)) before (c.resend.ensures cum p.misses ws s.misses here);
      control = c.send_by_window.ensures ws some ∙ (ap (option_map (with_packet c.args.flight ws)) s.control
          ∙ step_by f p.control (with_packet c.args.flight ws) (λ h k. with_packet (chunk_flight h u) ws k) (λ k. ap (λ (n : ℕ). with_packet n ws k) flight) s.header);
      header = header_kept f p.control (λ k. with_packet (chunk_flight k.header u) ws k) (λ k. header_sent (chunk_flight k.header u) ws k) s.header;
    }
