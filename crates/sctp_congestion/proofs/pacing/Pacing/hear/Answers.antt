use Rattle.std.proofs.Common.{◌≡◌, ℕ, refl, sym, ap, ◌∙◌, subst}
use Rattle.std.specs.Prelude.{Option, option_map, is_some, IfSome, ◌||◌}
use Rattle.sctp_model.specs.messages.Framing.{header_of}
use Rattle.sctp_model.specs.sender.SenderView.{SenderView}
use Rattle.sctp_model.specs.end.Trips.{Trips, Smoothed, still_timed, trip_told, with_trip}
use Rattle.sctp_model.specs.end.Misses.{Misses, first_missed, recovery_begun}
use Rattle.sctp_model.specs.end.Control.{News, control_heard}
use Rattle.sctp_model.specs.end.Pacing.{misses_heard, news}
use Rattle.sctp_congestion.specs.Numbers.{is_measured}
use Rattle.sctp_congestion.specs.Weighs.{remarked}
use Rattle.sctp_congestion.specs.Says.{Says}
use Rattle.sctp_congestion.specs.declared.news.News as code
use Rattle.sctp_congestion.specs.PaceStands.{PaceKept, PaceStands, MissesStand}
use Rattle.sctp_congestion.proofs.ControlLemmas.{header_heard}
use Rattle.sctp_congestion.proofs.PaceLemmas.{header_kept, step_by}
use Rattle.sctp_congestion.proofs.pacing.Pacing.hear.Goals as goal

pub returns-clause-step : goal.returns-clause-step
returns-clause-step c = λ f v u p stands weighs.
    let m : Misses = misses_heard v u p.misses in
    let w : SenderView = remarked v u p in
    let now : ℕ = c.args.now in
    let s = subst (λ (k : PaceKept). PaceStands f u.cum k (record p { misses = m })) (sym c.self.view_is) stands in
    let trip : Option ℕ = trip_told now v u p.trips.timed in
    let after : Option Smoothed = with_trip trip p.trips.smoothed in
    let told : c.trip-trip.result ≡ trip =
    c.trip-trip.ensures v u (subst (λ (t : Trips). IfSome t.timed (λ x. c.args.said.acked ≡ is_measured v u x.index)) (sym s.trips) weighs.acked)
    ∙ ap (λ (t : Trips). trip_told now v u t.timed) s.trips in
    let stopped = c.stop_timing.ensures w (subst (λ (t : Trips). IfSome t.timed (λ x. c.args.said.over ≡ (w.marked x.index || w.covered x.index))) (sym s.trips) weighs.over) in
    let n : News = news (header_of f) now after (is_some m.exit) (is_some (first_missed m u)) v u w in
    let said = c.news.ensures in
    let says : Says n c.news.result = record {
      flight = ap (λ (x : code.News). x.flight) said ∙ weighs.flight;
      left = ap (λ (x : code.News). x.left) said ∙ weighs.left;
      bytes = ap (λ (x : code.News). x.bytes) said ∙ weighs.bytes;
      recovers = ap (λ (x : code.News). x.recovers) said ∙ (c.is_recovering-recovers.ensures ∙ ap (λ (o : Option ℕ). is_some o) s.misses.exit);
      lost = ap (λ (x : code.News). x.lost) said ∙ ap (λ (o : Option ℕ). is_some o) weighs.lost;
      moved = ap (λ (x : code.News). x.moved) said ∙ weighs.moved;
      waits = ap (λ (x : code.News). x.waits) said ∙ weighs.waits;
    } in
    record {
      trips = c.measure.ensures
          ∙ ((λ i. record (stopped i) { smoothed = with_trip (told i) (stopped i).smoothed })
          ∙ (λ i. record { timed = still_timed w (s.trips i).timed; smoothed = with_trip trip (s.trips i).smoothed }));
      misses = subst (λ (o : Option ℕ). MissesStand u.cum c.begin_recovery.new.self (recovery_begun u (is_some o) m)) weighs.lost
          (c.begin_recovery.ensures u.cum u m s.misses weighs.last_sent);
      control = c.acknowledge_window.ensures n says ∙ (ap (option_map (control_heard n)) s.control
          ∙ step_by f p.control (control_heard n) (λ h k. control_heard (news h now after (is_some m.exit) (is_some (first_missed m u)) v u w) k) (λ k. refl) s.header);
      header = header_kept f p.control (λ k. control_heard (news k.header now after (is_some m.exit) (is_some (first_missed m u)) v u w) k)
          (λ k. header_heard (news k.header now after (is_some m.exit) (is_some (first_missed m u)) v u w) k) s.header;
    }
