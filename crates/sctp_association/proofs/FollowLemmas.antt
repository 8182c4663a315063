-- `hear_sack`, `hear_shutdown` at an endpoint with a pace: what the sender says of an acknowledgement, and the pace and the data timer after it.
use Rattle.std.proofs.Common.{◌≡◌, ◌∙◌, ℕ, Bool, true, false, nat_lt, refl, sym, ap, subst}
use Rattle.std.proofs.lemmas.Bool.{and_parts}
use Rattle.std.specs.Prelude.{Option, None, Some, IfSome, ◌||◌, unwrap_or, option_map, ◌&&◌, not, ◌==◌, suc, if◌then◌else◌}
use Rattle.sctp_model.specs.numbers.Limits.{FIRST_WAIT}
use Rattle.sctp_model.specs.messages.Format.{Format}
use Rattle.sctp_model.specs.messages.Framing.{header_of}
use Rattle.sctp_model.specs.wire.Chunk.{SackMeaning}
use Rattle.sctp_model.specs.sender.SenderView.{SenderView}
use Rattle.sctp_model.specs.sender.Entries.{in_flight}
use Rattle.sctp_model.specs.sender.Readers.{unsettled}
use Rattle.sctp_model.specs.sender.SackTaken.{sack_fault, sack_taken, sack_after}
use Rattle.sctp_model.specs.sender.Words.{some_passes}
use Rattle.sctp_model.specs.end.Trips.{RtoBounds, Timed, was_given_up}
use Rattle.sctp_model.specs.end.Misses.{last_sent, first_missed}
use Rattle.sctp_model.specs.end.Control.{chunk_flight}
use Rattle.sctp_model.specs.end.Pacing.{Pace, Heard, misses_heard, heard, wait_heard}
use Rattle.sctp_model.specs.end.EndView.{EndView, Configuration, Alarm, InitAlarm, CookieAlarm, DataAlarm, ShutdownAlarm, AckAlarm, ResetAlarm, BeatAlarm, GuardAlarm, Timer, format_of, waits_of}
use Rattle.sctp_model.specs.end.Acting.{sack_heard}
use Rattle.sctp_model.specs.end.Clock.{replaced, with_timer, timer_heard, sender_heard, paced, paced_expiry, renewed, renewed_expiry, after_wait, is_point_past}
use Rattle.sctp_congestion.specs.Numbers.{is_measured}
use Rattle.sctp_congestion.specs.PaceStands.{PaceKept, PaceStands, PacesStand}
use Rattle.sctp_congestion.specs.Waits.{plain_waits}
use Rattle.sctp_congestion.specs.Weighs.{remarked, Weighs}
use Rattle.sctp_congestion.specs.declared.hearing.Reply.{Reply}
use Rattle.sctp_terms.specs.PlainOptions.{HasPlainOptions}
use Rattle.sctp_association.specs.TimersMean.{timers_meaning, kept_if}
use Rattle.sctp_association.specs.TrafficStands.{TrafficStands}
use Rattle.sctp_association.specs.DueStands.{DueStands}
use Rattle.sctp_association.specs.MachineStands.{KeepsMachine}
use Rattle.sctp_association.specs.SackLeaves.{IsLeft, timer_left}
use Rattle.sctp_association.specs.Weighing.{IsBefore, AreBefore, IsReply, followed}
use Rattle.sctp_association.specs.declared.peer.pacing.Before.{Before}
use Rattle.sctp_association.specs.declared.state.life.Association.{Association}
use Rattle.sctp_association.specs.declared.state.life.Life.TheVariants as life
use Rattle.sctp_association.specs.declared.traffic.Traffic.{Traffic}
use Rattle.sctp_association.specs.declared.traffic.acknowledging.Acknowledged.{Acknowledged}
use Rattle.sctp_association.specs.declared.state.due.Due.{Due}
use Rattle.sctp_association.specs.declared.time.timers.Timers.{Timers}
use Rattle.sctp_association.specs.declared.machine.Machine.{Machine}
use Rattle.sctp_association.proofs.CumLemmas.{sack_rises, no_lower, pace_there}
use Rattle.sctp_association.proofs.MachineLemmas.{at_view, with_timers, with_pace, with_traffic, with_both}
use Rattle.sctp_association.proofs.MomentLemmas.{owed_due}
use Rattle.sctp_association.proofs.HearingLemmas.{sack_counts, counted_in}
use Rattle.sctp_association.proofs.MeasureLemmas.{asked}
use Rattle.sctp_association.proofs.OptionLemmas.{counts_always, waits_are}

-- ---- what is known before

-- the pace that an endpoint has is the one of which it is known
pub before_at : (f : Format) (v : EndView) (u : SenderView) (p : Pace) (b : Before) → v.pace ≡ Some p → AreBefore f v u (Some b) → IsBefore f v.sender u p b
before_at f v u p b is (q, there, before, rto) =
    let same : q ≡ p = ap (λ (o : Option Pace). unwrap_or o p) (sym there ∙ is) in
    subst (λ (x : Pace). IsBefore f v.sender u x b) same before

-- of what is timed
acked_at : (v u : SenderView) (o : Option Timed) (acked : Bool) → IfSome (option_map (λ t. t.index) o) (λ i. acked ≡ (nat_lt v.cum i && (u.covered i && not (was_given_up v i))))
    → IfSome o (λ t. acked ≡ is_measured v u t.index)
acked_at v u None acked is = tt
acked_at v u (Some t) acked is = is

-- if it is acknowledged by it, it is acknowledged after it
pub covers_acked : (v u : SenderView) (o : Option Timed) (acked : Bool) → IfSome (option_map (λ t. t.index) o) (λ i. acked ≡ (nat_lt v.cum i && (u.covered i && not (was_given_up v i))))
    → IfSome o (λ t. acked ≡ true → u.covered t.index ≡ true)
covers_acked v u None acked is = tt
covers_acked v u (Some t) acked is = λ on.
    (and_parts (u.covered t.index) (not (was_given_up v t.index)) (and_parts (nat_lt v.cum t.index) (u.covered t.index && not (was_given_up v t.index)) (sym is ∙ on)).1).0

pub over_acked : (u : SenderView) (o : Option Timed) (acked : Bool) → acked ≡ true → IfSome o (λ t. acked ≡ true → u.covered t.index ≡ true) → IfSome o (λ t. true ≡ (u.marked t.index || u.covered t.index))
over_acked u None acked on covers = tt
over_acked u (Some t) acked on covers = sym (ap (λ (b : Bool). u.marked t.index || b) (covers on) ∙ or_true (u.marked t.index))
  where
    or_true : (b : Bool) → (b || true) ≡ true
    or_true true = refl
    or_true false = refl

-- the numbers of an acknowledgement, by those before it
pub weighs : (f : Format) (v u : SenderView) (p : Pace) (b : Before) (lost : Option ℕ) (sent left : ℕ) (over : Bool) → IsBefore f v u p b → lost ≡ first_missed (misses_heard v u p.misses) u
    → IfSome lost (λ i. sent ≡ last_sent u) → left ≡ chunk_flight (header_of f) (remarked v u p)
    → IfSome p.trips.timed (λ t. over ≡ ((remarked v u p).marked t.index || (remarked v u p).covered t.index))
    → Weighs f v u p (record {
      moved = b.weight.moved;
      cum = b.weight.cum;
      waits = b.waits;
      lost = lost;
      last_sent = sent;
      flight = b.flight;
      bytes = b.weight.bytes;
      left = left;
      acked = b.weight.acked;
      over = over;
    })
weighs f v u p b lost sent left over before is_lost is_sent is_left is_over = record {
  moved = before.weight.moved;
  cum = before.weight.cum;
  waits = before.waits;
  lost = is_lost;
  last_sent = is_sent;
  flight = before.flight;
  bytes = before.weight.bytes;
  left = is_left;
  acked = acked_at v u p.trips.timed b.weight.acked before.weight.acked;
  over = is_over;
}

-- ---- the endpoint after it

-- a timer that is put twice is put once
twice_at : (a : Alarm) (s t : Timer) (f : Alarm → Timer) → replaced DataAlarm t (replaced DataAlarm s f) a ≡ replaced DataAlarm t f a
twice_at InitAlarm s t f = refl
twice_at CookieAlarm s t f = refl
twice_at DataAlarm s t f = refl
twice_at ShutdownAlarm s t f = refl
twice_at AckAlarm s t f = refl
twice_at ResetAlarm s t f = refl
twice_at BeatAlarm s t f = refl
twice_at GuardAlarm s t f = refl

paced_some : (v : SenderView) (wait : ℕ) (t : Timer) (x : EndView) (p : Pace) → x.pace ≡ Some p
    → paced v wait t x ≡ record (with_timer DataAlarm (timer_heard (Some p) x.moment (waits_of x.configuration) wait v x.sender t) x) {
      sender = (heard x.moment v x.sender p).sender;
      pace = Some (heard x.moment v x.sender p).pace;
    }
paced_some v wait t x p is = λ i. record (with_timer DataAlarm (timer_heard (is i) x.moment (waits_of x.configuration) wait v x.sender t) x) {
  sender = sender_heard (is i) x.moment v x.sender;
  pace = option_map (λ q. (heard x.moment v x.sender q).pace) (is i);
}

pub follows : (m : Machine) (a : Association) (v x : EndView) (t : Timer) (p : Pace) (q : PaceKept) (traffic : Traffic) (s : Timers) (r : Reply) (b : Before) (rto least : ℕ) (flies : Bool)
    → m.life ≡ life.Joined a → KeepsMachine m (with_timer DataAlarm t x) → x.pace ≡ Some p → b.rto ≡ (v.timers DataAlarm).wait → least ≡ m.config.least_wait
    → PaceStands (format_of x) x.sender.cum q (heard m.moment v.sender x.sender p).pace → TrafficStands traffic (format_of x) (heard m.moment v.sender x.sender p).sender x.receiver
    → IsReply (heard m.moment v.sender x.sender p) r
    → ((f : Format) (cum : ℕ) (h : Heard) → PaceStands f cum q h.pace → r.trip ≡ h.trip → r.moved ≡ h.moved → rto ≡ wait_heard (plain_waits least) b.rto h)
    → flies ≡ nat_lt 0 (in_flight (heard m.moment v.sender x.sender p).sender)
    → timers_meaning s ≡ replaced DataAlarm (followed m.moment rto r.restarts flies (timers_meaning m.timers DataAlarm)) (timers_meaning m.timers)
    → KeepsMachine (record m { life = life.Joined (record a { traffic = traffic }); pace = Some q; timers = s }) (paced v.sender (v.timers DataAlarm).wait t x)
follows m a v x t p q traffic s r b rto least flies is k there waits config pace_is stands reply says flown timers =
    let h : Heard = heard x.moment v.sender x.sender p in
    let w : ℕ = wait_heard (waits_of x.configuration) (v.timers DataAlarm).wait h in
    let flies_then : Bool = nat_lt 0 (in_flight h.sender) in
    let pace : PaceStands (format_of x) x.sender.cum q h.pace = subst (λ (n : ℕ). PaceStands (format_of x) x.sender.cum q (heard n v.sender x.sender p).pace) k.clock pace_is in
    let trip : r.trip ≡ h.trip = reply.trip ∙ ap (λ (n : ℕ). (heard n v.sender x.sender p).trip) k.clock in
    let bounds : plain_waits least ≡ waits_of x.configuration = ap plain_waits (config ∙ ap (λ (c : Configuration). c.least_wait) k.configuration) ∙ sym (waits_are x.configuration k.options) in
    let rto_is : rto ≡ w = says (format_of x) x.sender.cum h pace trip reply.moved
    ∙ (ap (λ (n : ℕ). wait_heard (plain_waits least) n h) waits ∙ ap (λ (y : RtoBounds). wait_heard y (v.timers DataAlarm).wait h) bounds) in
    let f : Alarm → Timer = replaced DataAlarm (followed x.moment w h.anew flies_then t) x.timers in
    let same : timers_meaning s ≡ f = timers
    ∙ (ap (λ (g : Alarm → Timer). replaced DataAlarm (followed m.moment rto r.restarts flies (g DataAlarm)) g) k.timers
    ∙ ((λ i a. twice_at a t (followed m.moment rto r.restarts flies t) x.timers i)
    ∙ (ap (λ (n : ℕ). replaced DataAlarm (followed n rto r.restarts flies t) x.timers) k.clock
    ∙ (ap (λ (n : ℕ). replaced DataAlarm (followed x.moment n r.restarts flies t) x.timers) rto_is
    ∙ (ap (λ (c : Bool). replaced DataAlarm (followed x.moment w c flies t) x.timers) reply.restarts
    ∙ ap (λ (c : Bool). replaced DataAlarm (followed x.moment w h.anew c t) x.timers) flown))))) in
    let now = subst (λ (n : ℕ). TrafficStands traffic (format_of x) (heard n v.sender x.sender p).sender x.receiver) k.clock stands in
    let taken = with_traffic m a traffic (with_timer DataAlarm t x) h.sender x.receiver is k now (no_lower x.sender.cum) refl refl in
    at_view _ _ _ (paced_some v.sender (v.timers DataAlarm).wait t x p there)
    (with_pace _ _ (Some q) (Some h.pace) (with_timers _ _ s f taken same) pace (asked m (with_timer DataAlarm t x) p h.pace k there))

-- memory that the pace and the list of indexes take changes no view
pub room_made : (m : Machine) (a : Association) (v : EndView) (p q : PaceKept) (traffic : Traffic) → m.life ≡ life.Joined a → KeepsMachine m v → m.pace ≡ Some p
    → TrafficStands traffic (format_of v) v.sender v.receiver → ((f : Format) (cum : ℕ) (x : Pace) → PaceStands f cum p x → PaceStands f cum q x)
    → KeepsMachine (record m { life = life.Joined (record a { traffic = traffic }); pace = Some q }) v
room_made m a v p q traffic is k some stands same =
    let (x, there, was) = pace_there (format_of v) v.sender.cum m.pace p v.pace some k.pace in
    let paces : PacesStand (format_of v) v.sender.cum (Some q) v.pace = subst (λ (o : Option Pace). PacesStand (format_of v) v.sender.cum (Some q) o) (sym there) (same (format_of v) v.sender.cum x was) in
    with_pace _ v (Some q) v.pace (with_traffic m a traffic v v.sender v.receiver is k stands (no_lower v.sender.cum) refl refl) paces k.unpaced

-- ---- a SACK: its data timer is put once

-- a timer that is restarted is restarted whatever its expiry was
anew_expiry : (first now rto : ℕ) (restarts flies : Bool) (o : Option ℕ) → restarts ≡ true → paced_expiry now rto restarts flies o ≡ paced_expiry now rto restarts flies (renewed_expiry first now o)
anew_expiry first now rto restarts flies None on = refl
anew_expiry first now rto restarts flies (Some m) on =
    ap (λ (b : Bool). Some (if b then after_wait now rto else m)) on ∙ sym (ap (λ (b : Bool). Some (if b then after_wait now rto else after_wait now first)) on)

pub heard_anew : (first now rto : ℕ) (restarts flies moved : Bool) (t : Timer) → (moved ≡ true → restarts ≡ true)
    → record (followed now rto restarts flies t) { repeats = 0 } ≡ followed now rto restarts flies (renewed first now moved t)
heard_anew first now rto restarts flies false t anew = refl
heard_anew first now rto restarts flies true t anew = ap (λ (o : Option ℕ). record { wait = rto; repeats = 0; expiry = o }) (anew_expiry first now rto restarts flies t.expiry (anew refl))

-- the end after it, but for its data timer and its pace
abbrev rests_left : EndView → SenderView → EndView
rests_left v u = record v { sender = u; due = record v.due { forward = is_point_past u } }

abbrev paced_left : EndView → SenderView → EndView
paced_left v u = paced v.sender (v.timers DataAlarm).wait (timer_left v u) (rests_left v u)

heard_left : (v : EndView) (x : SackMeaning) → HasPlainOptions v.configuration → None ≡ sack_fault v.sender x → sack_heard v x ≡ paced_left v (sack_after v.sender x)
heard_left v x options none =
    let u = sack_taken v.sender x in
    let t = timer_heard v.pace v.moment (waits_of v.configuration) (v.timers DataAlarm).wait v.sender u (timer_left v u) in
    counts_always v x options ∙ (λ i. record v {
      sender = sender_heard v.pace v.moment v.sender u;
      due = record v.due { forward = is_point_past u };
      timers = λ a. twice_at a (kept_if (unsettled u) (v.timers DataAlarm)) t v.timers i;
      pace = option_map (λ p. (heard v.moment v.sender u p).pace) v.pace;
    }) ∙ ap (λ (y : EndView). paced_left v y.sender) (sack_counts v x none)

-- timers of which the data timer is this one
abbrev with_data : Timers → Timer → Timers
with_data s t = record s { fragments = record { wait = t.wait; repeats = t.repeats; expiry = t.expiry } }

data_at : (s : Timers) (t : Timer) (a : Alarm) → timers_meaning (with_data s t) a ≡ replaced DataAlarm t (timers_meaning s) a
data_at s t InitAlarm = refl
data_at s t CookieAlarm = refl
data_at s t DataAlarm = refl
data_at s t ShutdownAlarm = refl
data_at s t AckAlarm = refl
data_at s t ResetAlarm = refl
data_at s t BeatAlarm = refl
data_at s t GuardAlarm = refl

again_at : (s : Timers) (t x : Timer) (a : Alarm) → replaced DataAlarm x (timers_meaning s) a ≡ replaced DataAlarm x (timers_meaning (with_data s t)) a
again_at s t x InitAlarm = refl
again_at s t x CookieAlarm = refl
again_at s t x DataAlarm = refl
again_at s t x ShutdownAlarm = refl
again_at s t x AckAlarm = refl
again_at s t x ResetAlarm = refl
again_at s t x BeatAlarm = refl
again_at s t x GuardAlarm = refl

pub sack_follows : (m : Machine) (a : Association) (v : EndView) (x : SackMeaning) (p : Pace) (q : PaceKept) (taken traffic : Traffic) (d : Due) (s : Timers) (l : Acknowledged) (r : Reply) (b : Before)
    (rto least : ℕ) (flies : Bool) → m.life ≡ life.Joined a → KeepsMachine m v → v.pace ≡ Some p → None ≡ sack_fault v.sender x
    → TrafficStands taken (format_of v) (sack_after v.sender x) v.receiver → IsLeft v.sender (sack_after v.sender x) l → DueStands d (record v.due { forward = l.past })
    → b.rto ≡ (timers_meaning m.timers DataAlarm).wait → least ≡ m.config.least_wait
    → PaceStands (format_of v) (sack_after v.sender x).cum q (heard m.moment v.sender (sack_after v.sender x) p).pace
    → TrafficStands traffic (format_of v) (heard m.moment v.sender (sack_after v.sender x) p).sender v.receiver → IsReply (heard m.moment v.sender (sack_after v.sender x) p) r
    → ((f : Format) (cum : ℕ) (h : Heard) → PaceStands f cum q h.pace → r.trip ≡ h.trip → r.moved ≡ h.moved → rto ≡ wait_heard (plain_waits least) b.rto h)
    → flies ≡ nat_lt 0 (in_flight (heard m.moment v.sender (sack_after v.sender x) p).sender)
    → ((moved : Bool) → (moved ≡ true → r.restarts ≡ true) → timers_meaning s
    ≡ replaced DataAlarm (followed m.moment rto r.restarts flies (renewed FIRST_WAIT m.moment moved (kept_if l.wanted (timers_meaning m.timers DataAlarm)))) (timers_meaning m.timers))
    → KeepsMachine (record m { life = life.Joined (record a { traffic = traffic }); due = d; pace = Some q; timers = s }) (sack_heard v x)
sack_follows m a v x p q taken traffic d s l r b rto least flies is k there none stands left due waits config pace_is now reply says flown timers =
    let u : SenderView = sack_after v.sender x in
    let moved : Bool = nat_lt v.sender.cum u.cum in
    let t : Timer = renewed FIRST_WAIT m.moment moved (kept_if l.wanted (timers_meaning m.timers DataAlarm)) in
    let after : Timers = with_data m.timers t in
    let took = with_traffic m a taken v u v.receiver is k stands (sack_rises v.sender x) refl refl in
    let counted = with_both _ (record v { sender = u }) d _ after _ took (owed_due d v.due _ _ due left.past)
    (counted_in _ _ _ _ _ _ _ _ _ _ (λ i y. data_at m.timers t y i) left.wanted refl took.clock took.options.first_wait took.timers) in
    let anew = λ (on : moved ≡ true). reply.restarts ∙ ap (λ (c : Bool). c || some_passes (λ i. i == suc u.cum) (first_missed (misses_heard v.sender u p.misses) u)) on in
    let put = timers moved anew ∙ (λ i y. again_at m.timers t (followed m.moment rto r.restarts flies t) y i) in
    at_view _ _ _ (heard_left v x k.options none)
    (follows _ (record a { traffic = taken }) v (rests_left v u) (timer_left v u) p q traffic s r b rto least flies refl counted there
    (waits ∙ ap (λ (g : Alarm → Timer). (g DataAlarm).wait) k.timers) config pace_is now reply says flown put)
