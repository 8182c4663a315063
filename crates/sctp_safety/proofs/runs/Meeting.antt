-- Two endpoints meet: both are new and agree, so both directions start.
use Rattle.std.proofs.Common.{false, ◌≡◌, ℕ, zero, suc, ◌≤◌, ◌<◌, Bool, true, List, [], length, Some, None, arith, ◌∙◌, inl, refl, sym, subst, ap}
use Rattle.sctp_model.specs.numbers.Lists.{Has, item_at}
use Rattle.sctp_model.specs.wire.Chunk.{ChunkMeaning}
use Rattle.sctp_model.specs.messages.Format.{Format}
use Rattle.sctp_model.specs.wire.Reconfig.{BadNumber, InProgress}
use Rattle.sctp_model.specs.sender.Outgoing.{Outgoing, no_outgoing}
use Rattle.sctp_model.specs.receiver.Incoming.{Incoming, no_incoming}
use Rattle.sctp_safety.proofs.runs.ResetFacts.{AreInStep}
use Rattle.sctp_model.specs.sender.SenderView.{SenderView, fresh_sender, SendLimits}
use Rattle.sctp_model.specs.receiver.ReceiverView.{ReceiverView, fresh_receiver}
use Rattle.sctp_model.specs.world.Calls.{Asked}
use Rattle.sctp_model.specs.world.Safe.{Safe}
use Rattle.sctp_model.specs.sender.Reached.{Begins}
use Rattle.sctp_model.specs.end.EndView.{Completed, Phase, Idle, Listening, Calling, Echoing, Open, Over, EndView, format_for, format_of, send_limits}
use Rattle.sctp_model.specs.end.Closing.{hears, awaits_ack}
use Rattle.sctp_safety.specs.Way.{Way, IsStart}
use Rattle.sctp_safety.specs.SenderLaws.{IsSenderOrderly}
use Rattle.sctp_safety.specs.States.{has_agreed}
use Rattle.sctp_safety.specs.Agreement.{AreAgreed}
use Rattle.sctp_safety.proofs.moves.GoodStart.{new_ends_start}
use Rattle.sctp_safety.proofs.moves.Always.{safe_always}
use Rattle.sctp_model.proofs.receiver.AtRest.{fresh_at_rest}
use Rattle.sctp_safety.proofs.runs.Dates.{Dated, undated, has_undated}
use Rattle.sctp_safety.proofs.runs.Direction.{Bags, way_of, Direction}
use Rattle.sctp_safety.proofs.runs.Pair.{AreOpening, IsMet, opening_quiet, opening_quiet_back, quiet_says, quiet_says_back}
use Rattle.sctp_safety.proofs.runs.Unmet.{never_opened, IsBlank, IsUnmet}
use Rattle.sctp_safety.proofs.runs.Homes.{IsHome}
use Rattle.sctp_safety.proofs.runs.Ending.{was_told, IsEnding}
use Rattle.sctp_safety.proofs.runs.Pairs.{IsPair, opening_other}

-- nothing lies between the endpoints yet
abbrev pub no_bags : Bags
no_bags = record { pieces = []; forwards = []; sacks = []; shutdowns = [] }

pub nothing_stands : {A : Type 0} (i : ℕ) (x : A) → item_at [] i ≡ Some x → ⊥
nothing_stands zero x h = cc
nothing_stands (suc i) x h = cc

-- ---- a direction from new views

-- of two views that know of no reset
new_step : (f : Format) (a : SenderView) (r : ReceiverView) → a.resets ≡ no_outgoing → r.resets ≡ no_incoming → AreInStep f a r
new_step f a r sending receiving = record {
  few = omega (arith, made);
  taken = omega (arith, made, taken);
  next = omega (arith, made, taken);
  answered = λ none. taken ∙ sym made;
  finished = λ none is. not_progress is;
  counted = λ is. taken;
  fresh = λ q some low is. not_progress is;
  kept = λ q some. absurd (let h = pending in cc);
  waiting = λ q some. absurd (let h = pending in cc);
  bases = inl (λ l numbered. ap (λ (x : Outgoing). x.base l) sending ∙ sym (ap (λ (x : Incoming). x.base l) receiving), λ q some. absurd (let h = pending in cc));
  last = λ q is. absurd (let h = ap (λ (x : Outgoing). x.last_made) sending in cc);
  said = λ q some. absurd (let h = pending in cc);
  waited = λ w is. absurd (let h = ap (λ (x : Incoming). x.waited) receiving in cc);
  old = λ l n below. let h = ap (λ (x : Outgoing). x.base l) sending in absurd (omega (arith, below, h));
  answers = λ x has. absurd (subst (λ (y : Incoming). Has y.answers x) receiving has);
  typed = λ x has. absurd (subst (λ (y : Incoming). Has y.answers x) receiving has);
}
  where
    made : a.resets.made ≡ 0
    made = ap (λ (x : Outgoing). x.made) sending

    taken : r.resets.taken ≡ 0
    taken = ap (λ (x : Incoming). x.taken) receiving

    pending : a.resets.pending ≡ None
    pending = ap (λ (x : Outgoing). x.pending) sending

    not_progress : r.resets.result ≡ InProgress → ⊥
    not_progress is = let h : BadNumber ≡ InProgress = sym (ap (λ (x : Incoming). x.result) receiving) ∙ is in cc

module _ (f : Format) (tsn peer_tsn outbound inbound fragment rwnd buffer reserve : ℕ) (partial : Bool) (limits : SendLimits) (u : Asked) (none : u.calls ≡ []) where
  abbrev a : SenderView
  a = fresh_sender tsn outbound fragment rwnd partial limits

  abbrev r : ReceiverView
  r = fresh_receiver peer_tsn inbound buffer reserve

  abbrev way : Way
  way = way_of f outbound a u r no_bags

  begins : IsStart way
  begins = new_ends_start way tsn outbound fragment rwnd partial limits peer_tsn inbound buffer reserve refl refl none refl refl refl refl

  ordered : IsSenderOrderly way
  ordered = record {
    ends = λ i j l n k here there. absurd (nothing_stands i _ here);
    marked = λ i h. absurd (cc);
    tickets = ap length (sym none);
  }

  pub new_is_safe : Safe f a r u
  new_is_safe = safe_always way way [] begins refl

  pub new_direction : (out back : List Dated) → peer_tsn ≡ tsn → inbound ≡ outbound → 0 < fragment → AreOpening (undated out) → AreOpening (undated back) →
      Direction f outbound a u r out back
  new_direction out back same streams large opening opening_back = record {
    bags = no_bags;
    usual = record { origin = way; started = begins; led = ([], refl); order = ordered };
    reached = Begins tsn outbound fragment rwnd partial limits large;
    idle = (fresh_at_rest f peer_tsn inbound buffer reserve).idle;
    initial = same;
    outbound = refl;
    inbound = streams;
    step = new_step f a r refl refl;
    said = λ x has. quiet_says f tsn a r no_bags x.date.own x.chunk (opening_quiet x.chunk (opening x.chunk (has_undated out x has)));
    said_back = λ x has. quiet_says_back peer_tsn r no_bags x.date.there x.chunk (opening_quiet_back x.chunk (opening_back x.chunk (has_undated back x has)));
  }

-- ---- between two endpoints

-- each direction of two endpoints with new views is safe
pub blank_is_safe : (e p : EndView) (u : Asked) → u.calls ≡ [] → IsBlank e → IsBlank p → Safe (format_of e) e.sender p.receiver u
blank_is_safe e p u none be bp =
    subst (λ (x : SenderView). Safe (format_of e) x p.receiver u) (sym be.sender)
    (subst (λ (y : ReceiverView). Safe (format_of e) (fresh_sender e.terms.own_tsn e.terms.outbound e.configuration.fragment be.rwnd e.terms.partial (send_limits e.configuration)) y u) (sym bp.receiver)
    (new_is_safe (format_of e) e.terms.own_tsn p.terms.peer_tsn e.terms.outbound p.terms.inbound e.configuration.fragment be.rwnd p.configuration.buffer p.configuration.reserve e.terms.partial (send_limits e.configuration) u none))

one_way : (e p : EndView) (u : Asked) (out back : List Dated) → u.calls ≡ [] → IsBlank e → IsBlank p →
    p.terms.peer_tsn ≡ e.terms.own_tsn → p.terms.inbound ≡ e.terms.outbound → 0 < e.configuration.fragment → AreOpening (undated out) → AreOpening (undated back) →
    Direction (format_of e) e.terms.outbound e.sender u p.receiver out back
one_way e p u out back none be bp same streams large opening opening_back =
    subst (λ (x : SenderView). Direction (format_of e) e.terms.outbound x u p.receiver out back) (sym be.sender)
    (subst (λ (y : ReceiverView). Direction (format_of e) e.terms.outbound (fresh_sender e.terms.own_tsn e.terms.outbound e.configuration.fragment be.rwnd e.terms.partial (send_limits e.configuration)) u y out back) (sym bp.receiver)
    (new_direction (format_of e) e.terms.own_tsn p.terms.peer_tsn e.terms.outbound p.terms.inbound e.configuration.fragment be.rwnd p.configuration.buffer p.configuration.reserve e.terms.partial (send_limits e.configuration) u none
    out back same streams large opening opening_back))

-- Two new endpoints that agree have met.
directions_meet : (e p : EndView) (u v : Asked) (out back : List Dated) → u.calls ≡ [] → v.calls ≡ [] → IsBlank e → IsBlank p → AreAgreed e.terms p.terms →
    has_agreed e.phase ≡ true → has_agreed p.phase ≡ true → e.moment ≤ u.clock → p.moment ≤ v.clock →
    0 < e.configuration.fragment → 0 < p.configuration.fragment → AreOpening (undated out) → AreOpening (undated back) → IsMet e p u v out back
directions_meet e p u v out back none none_there be bp agreed phase phase_there moment moment_there large large_there opening opening_back = record {
  going = one_way e p u out back none be bp agreed.first_tsn agreed.streams large opening opening_back;
  coming = one_way p e v back out none_there bp be (sym agreed.first_tsn_back) (sym agreed.streams_back) large_there opening_back opening;
  format = ap format_for (sym agreed.interleave);
  phase = phase;
  phase_there = phase_there;
  moment = moment;
  moment_there = moment_there;
}

-- ---- nothing is closed yet

-- an endpoint that a new association leaves with nothing of closing due, and no timer of it running
pub record IsUnclosed (e : EndView) : Type 0 where
  pub home : IsHome e
  pub early : hears awaits_ack e.phase ≡ false
  pub untold : hears was_told e.phase ≡ false
  pub uncompleted : e.phase ≡ Over Completed → ⊥

-- an endpoint that was never open is so
never_closed : (h : Phase) → never_opened h ≡ true → (hears awaits_ack h ≡ false) × (hears was_told h ≡ false) × (h ≡ Over Completed → ⊥)
never_closed Idle on = (refl, refl, λ q. cc)
never_closed Listening on = (refl, refl, λ q. cc)
never_closed (Calling d) on = (refl, refl, λ q. cc)
never_closed (Echoing t xs) on = (refl, refl, λ q. cc)
never_closed (Open t g) on = absurd (cc)
never_closed (Over Completed) on = absurd (cc)
never_closed (Over why) on = (refl, refl, λ q. cc)

pub unmet_unclosed : (clock : ℕ) (e : EndView) → IsUnmet clock e → IsUnclosed e
unmet_unclosed clock e m = let n = never_closed e.phase m.unopened in record { home = m.home; early = n.0; untold = n.1; uncompleted = n.2 }

one_ending : (e p : EndView) (out back : List ChunkMeaning) → IsUnclosed e → AreOpening out → IsEnding e p out back
one_ending e p out back k opening = record {
  home = k.home;
  empty = λ on. absurd (let q = k.early in cc);
  said = λ x has on. absurd (opening_other x (opening x has) on);
  told = λ on. absurd (let q = k.untold in cc);
  completed = λ is. absurd (k.uncompleted is);
}

-- Both endpoints have met, and neither is closed.
pub ends_meet : (e p : EndView) (u v : Asked) (out back : List Dated) → u.calls ≡ [] → v.calls ≡ [] → IsBlank e → IsBlank p → AreAgreed e.terms p.terms →
    has_agreed e.phase ≡ true → has_agreed p.phase ≡ true → e.moment ≤ u.clock → p.moment ≤ v.clock →
    0 < e.configuration.fragment → 0 < p.configuration.fragment → AreOpening (undated out) → AreOpening (undated back) → IsUnclosed e → IsUnclosed p → IsPair e p u v out back
ends_meet e p u v out back none none_there be bp agreed phase phase_there moment moment_there large large_there opening opening_back unclosed unclosed_there = record {
  met = directions_meet e p u v out back none none_there be bp agreed phase phase_there moment moment_there large large_there opening opening_back;
  ending = record {
    this = one_ending e p (undated out) (undated back) unclosed opening;
    there = one_ending p e (undated back) (undated out) unclosed_there opening_back;
  };
}
