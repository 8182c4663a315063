use Rattle.std.proofs.Common.{Bool, subst, sym, ap, ◌∙◌}
use Rattle.std.specs.Prelude.{None, option_map, if◌then◌else◌}
use Rattle.sctp_model.specs.end.Trips.{Trips}
use Rattle.sctp_model.specs.end.Control.{control_expired}
use Rattle.sctp_model.specs.end.Pacing.{is_probe}
use Rattle.sctp_congestion.specs.PaceStands.{PaceKept, PaceStands}
use Rattle.sctp_congestion.proofs.ControlLemmas.{header_expired}
use Rattle.sctp_congestion.proofs.PaceLemmas.{header_kept}
use Rattle.sctp_congestion.proofs.pacing.Pacing.expire.Goals as goal

pub returns : goal.returns
returns c = λ f cum v p stands probes.
    let s = subst (λ (k : PaceKept). PaceStands f cum k p) (sym c.self.view_is) stands in
    record {
      trips = c.clear_timing.ensures ∙ ap (λ (t : Trips). record t { timed = None }) s.trips;
      misses = c.expire.ensures cum p.misses s.misses;
      control = c.expire_window.ensures ∙ (ap (λ (b : Bool). option_map (λ k. if b then k else control_expired k) c.self.inside.control) probes
          ∙ ap (option_map (λ k. if is_probe v then k else control_expired k)) s.control);
      header = header_kept f p.control (λ k. if is_probe v then k else control_expired k) (header_expired (is_probe v)) s.header;
    }
