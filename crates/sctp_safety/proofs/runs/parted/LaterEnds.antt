-- What happens at an endpoint that has met its peer leaves its sender and its receiver as later ones.
use Rattle.std.proofs.Common.{◌≡◌, ℕ, suc, ◌≤◌, ◌⊎◌, ◌==◌, ◌&&◌, ◌||◌, not, Bool, true, false, List, [], ◌∷◌, ◌++◌, length, is_some, Option, Some, None, inl, inr, refl, sym, subst, ap, ◌∙◌, arith, eqb-true, if◌then◌else◌}
use Rattle.std.specs.List.{list_any}
use Rattle.std.specs.Prelude.{nat_le, drop, nat_lt}
use Rattle.sctp_model.specs.numbers.Limits.{REQUEST_LIMIT}
use Rattle.std.proofs.lemmas.Bool.{and_parts}
use Rattle.sctp_model.specs.numbers.Numbers.{u32_at}
use Rattle.sctp_model.specs.numbers.Lists.{Has}
use Rattle.sctp_model.specs.wire.Typed.{Typed, typed_in}
use Rattle.sctp_model.specs.wire.Reconfig.{RECONFIG, OUTGOING_RESET, RECONFIG_RESPONSE, ResetMeaning, reset_read, is_parameter, is_other_request, response_item, is_done_code, is_progress_code, is_number_code}
use Rattle.sctp_model.specs.wire.Chunk.{PieceMeaning, ForwardMeaning, ChunkMeaning, Data, IData, Init, InitAck, Sack, Heartbeat, HeartbeatAck, Abort, Shutdown, ShutdownAck, Error, CookieEcho, CookieAck, ShutdownComplete, ForwardTsn, IForwardTsn, Unknown}
use Rattle.sctp_model.specs.wire.Packet.{Packet}
use Rattle.sctp_model.specs.messages.Format.{Format}
use Rattle.sctp_model.specs.sender.Outgoing.{Sending, Sends, Refuses, is_sending, is_resetting, lists, NextNumber, LaterNumber, takes_next, Request, Outgoing}
use Rattle.sctp_model.specs.sender.SenderView.{SenderView}
use Rattle.sctp_model.specs.sender.Resetting.{asked, is_open_number, answered_in, reset_done, reset_refused, kept_asking, is_past_first, number_back, numbered_so, retried_in, retried, response_taken, may_ask, has_stream, ready}
use Rattle.sctp_model.specs.sender.SackTaken.{sack_taken, shutdown_taken}
use Rattle.sctp_model.specs.sender.Readers.{point}
use Rattle.sctp_model.specs.sender.Queueing.{Refusal, refusal}
use Rattle.sctp_model.specs.sender.Abandoning.{abandon_after, expired, worn, marking}
use Rattle.sctp_model.specs.sender.Words.{count_up}
use Rattle.sctp_model.specs.receiver.ReceiverView.{Handed, ReceiverView, IsCumulative}
use Rattle.sctp_model.specs.receiver.ResetTaken.{reset_answer, answer_in_turn}
use Rattle.sctp_model.specs.receiver.PieceTaken.{PieceAnswer, PieceTaken}
use Rattle.sctp_model.specs.receiver.ForwardTaken.{ForwardAnswer, ForwardTaken}
use Rattle.sctp_model.specs.world.Calls.{Call, Asked}
use Rattle.sctp_model.specs.end.EndView.{Draw, Aborted, TimedOut, Established, ShutdownPending, ShutdownSent, ShutdownReceived, ShutdownAckSent, Phase, Idle, Listening, Calling, Echoing, Open, Over, Alarm, InitAlarm, CookieAlarm, DataAlarm, ShutdownAlarm, AckAlarm, ResetAlarm, EndView, format_of, has_association, unused_timer}
use Rattle.sctp_model.specs.end.EndView.{BeatAlarm, GuardAlarm}
use Rattle.sctp_model.specs.end.Clock.{closed, with_timer, is_over_at, at_moment, settled, turned, sender_heard, expired_timer, is_home, may_go_on}
use Rattle.sctp_model.specs.end.Pacing.{Pace}
use Rattle.sctp_model.specs.end.Closing.{with_due, hears, takes_data, rested}
use Rattle.sctp_model.specs.end.PeerFaults.{GoesOn, Ends, Replies, Note}
use Rattle.sctp_model.specs.end.Opening.{AcceptedAck, RefusedAck, EchoedAgain, CookieAcked}
use Rattle.sctp_model.specs.end.Reconfiguring.{answers_with, request_heard, response_heard, other_heard, asking_on, in_progress, parameter_heard, parameters_heard, asking_now, asking}
use Rattle.sctp_model.specs.end.Beating.{beat_heard}
use Rattle.sctp_model.specs.end.Acting.{ReconfigComes, IsUnknown, Acts, PieceEmpty, WrongFormat, ForwardComes, PieceComes, WrongKind, IsBad, IsOld, SackStale, ShutdownStale, SackWrong, ShutdownWrong, HeartbeatCounts, SackCounts, ShutdownCounts, Closes, SaysNothing, Crosses, Again, AckCompletes, CompleteCompleted, Misnumbered}
use Rattle.sctp_model.specs.end.Arriving.{Arrives, Elsewhere, NotOurs, Stray, CookieBegins, Heard, Notes, no_notes, urged, packet_ended}
use Rattle.sctp_model.specs.end.Strays.{Verdict}
use Rattle.sctp_model.specs.end.Wearing.{missed_below, wearing}
use Rattle.sctp_model.specs.end.Building.{filled_behind, Slot, Puts, NoMore, NotDue, Put, IsFull, Builds, Sleeps, Waits, Calls, Echoes, EndsFull, Fills, EchoSlot, CookieAckSlot, HeartbeatSlot, ErrorSlot, SackSlot, ForwardSlot, ShutdownSlot, ShutdownAckSlot, once_built, room_behind, AnswerSlot, RequestSlot}
use Rattle.sctp_model.specs.end.Building.{BeatSlot}
use Rattle.sctp_model.specs.end.Moments.{after_abandoning, is_data_due, given_up, due_again, rung, ring, rung_all, all_alarms, waited_in, passed, ticked}
use Rattle.sctp_model.specs.end.UserCalls.{is_established, answer_for, send_answer, send_leaves, NotOpen, is_open, abandoned_at, shut_in, shut, AbortAnswer, Aborts, NoPeer, TooLong, abort_leaves, UserTakes}
use Rattle.sctp_model.proofs.PacedEnds.{worn_cases}
use Rattle.sctp_model.proofs.sender.FillLaws.{fill_is_fill}
use Rattle.sctp_model.proofs.sender.HeardLaws.{heard_cases}
use Rattle.sctp_model.proofs.sender.WornLaws.{wears_each}
use Rattle.sctp_safety.proofs.machine.EndWords.{Keeps, all_act_keeps, ended_cases}
use Rattle.sctp_safety.proofs.machine.Reconfigured.{response_of, retried_of, parameter_same}
use Rattle.sctp_safety.proofs.machine.Sides.{unknown_goes, unknown_ends, unknown_never_replies}
use Rattle.sctp_safety.proofs.machine.Strangers.{found_is}
use Rattle.sctp_safety.proofs.runs.Acted.{Comes, IsMetWith, not_calling, by_parameter, goes as met_goes, ends as met_ends, replies as met_replies}
use Rattle.sctp_safety.proofs.runs.Brought.{listens_not}
use Rattle.sctp_safety.proofs.runs.Dates.{Dated}
use Rattle.sctp_safety.proofs.runs.Direction.{IsSaid, IsSaidBack}
use Rattle.sctp_safety.proofs.runs.Pair.{IsMet, views_rested, met_rested}
use Rattle.sctp_safety.proofs.runs.ResetFacts.{IsAskedBy, IsAnsweredBy, AreAsked, AreAnswers, IsKept, IsNoted, noted_done, noted_received, noted_sent}
use Rattle.sctp_safety.proofs.runs.Asking.{progress_kept, never_bad_number, done_noted}
use Rattle.sctp_safety.proofs.runs.Sending.{abandon_resets, expire_resets, follows_resets}
use Rattle.sctp_safety.proofs.runs.parted.Since.{Since, since_same, since_itself, since_on, since_queued, since_filled, since_abandoned, since_worn, since_given_up}
use Rattle.sctp_safety.proofs.runs.parted.Onward.{Onward, onward_calm, onward_itself, onward_same, onward_on, piece_onward, skip_onward, take_onward, request_onward}

-- ---- a sender

pub record Goes (r : ReceiverView) (v u : SenderView) : Type 0 where
  pub since : Since v u
  -- a stream that takes no message took none before
  pub shut : (s : ℕ) → is_sending (u.resets.sending s) ≡ false → is_sending (v.resets.sending s) ≡ false
  -- one whose reset is asked for was so before, and what its peer has noted stays so
  pub resets : (s : ℕ) → is_resetting (u.resets.sending s) ≡ true → is_resetting (v.resets.sending s) ≡ true
  pub noted : (s : ℕ) → IsNoted v r s → is_resetting (u.resets.sending s) ≡ true → IsNoted u r s
  -- No fewer numbers are used than were taken. So what is noted then was noted before; and a stream that takes messages took them, or its reset was noted.
  pub low : r.resets.taken ≤ v.resets.made → r.resets.taken ≤ u.resets.made
  pub back : r.resets.taken ≤ v.resets.made → (s : ℕ) → IsNoted u r s → IsNoted v r s
  pub freed : r.resets.taken ≤ v.resets.made → (s : ℕ) → is_sending (u.resets.sending s) ≡ true → (is_sending (v.resets.sending s) ≡ true) ⊎ IsNoted v r s

-- nothing else is known of resets
goes_since : (r : ReceiverView) (v u : SenderView) → Since v u → u.resets ≡ v.resets → Goes r v u
goes_since r v u since resets = record {
  since = since;
  shut = λ s h. subst (λ (x : Outgoing). is_sending (x.sending s) ≡ false) resets h;
  resets = λ s h. subst (λ (x : Outgoing). is_resetting (x.sending s) ≡ true) resets h;
  noted = λ s k on. noted_sent v u r s (ap (λ (x : Outgoing). x.pending) resets) (ap (λ (x : Outgoing). x.made) resets) k;
  low = λ h. let e = ap (λ (x : Outgoing). x.made) resets in omega (arith, h, e);
  back = λ h s k. noted_sent u v r s (ap (λ (x : Outgoing). x.pending) (sym resets)) (ap (λ (x : Outgoing). x.made) (sym resets)) k;
  freed = λ h s on. inl (subst (λ (x : Outgoing). is_sending (x.sending s) ≡ true) resets on);
}

goes_itself : (r : ReceiverView) (v : SenderView) → Goes r v v
goes_itself r v = goes_since r v v (since_itself v) refl

goes_on : (r : ReceiverView) (v u w : SenderView) → Goes r v u → Goes r u w → Goes r v w
goes_on r v u w a b = record {
  since = since_on v u w a.since b.since;
  shut = λ s h. a.shut s (b.shut s h);
  resets = λ s h. a.resets s (b.resets s h);
  noted = λ s k on. b.noted s (a.noted s k (b.resets s on)) on;
  low = λ h. b.low (a.low h);
  back = λ h s k. a.back h s (b.back (a.low h) s k);
  freed = λ h s on. elim (b.freed (a.low h) s on) [ inl mid ↦ a.freed h s mid | inr noted ↦ inr (a.back h s noted) ];
}

heard_goes : (r : ReceiverView) (o : Option Pace) (now : ℕ) (v u : SenderView) → Goes r v u → Goes r v (sender_heard o now v u)
heard_goes r o now v u h = heard_cases (Goes r v) o now v u h
    (λ test. goes_on r v u (marking u test) h (goes_since r u (marking u test) (since_same u (marking u test) refl refl refl) refl))

worn_resets : (test : ℕ → Bool) (v : SenderView) → (worn test v).resets ≡ v.resets
worn_resets test v = wears_each (λ (u : SenderView). u.resets ≡ v.resets) (λ u t same. abandon_resets u t ∙ same) test v (count_up 1 (length v.plan.entries)) refl

given_up_goes : (r : ReceiverView) (b : Bool) (v : SenderView) (now : ℕ) → Goes r v (given_up b v now)
given_up_goes r b v now = goes_since r v (given_up b v now) (since_given_up b v now) (resets b)
  where
    resets : (b : Bool) → (given_up b v now).resets ≡ v.resets
    resets true = worn_resets (λ i. true) (expired v now) ∙ expire_resets now (count_up 1 v.tickets) v
    resets false = expire_resets now (count_up 1 v.tickets) v

-- a response: what is refused took no message before
response_goes : (r : ReceiverView) (v : SenderView) (number code : ℕ) →
    ((q : Request) → v.resets.pending ≡ Some q → (s : ℕ) → lists q.streams s ≡ true → (is_sending (v.resets.sending s) ≡ false) × (is_resetting (v.resets.sending s) ≡ true)) →
    (is_open_number v number ≡ true → is_progress_code code ≡ true → IsKept v r) →
    ((q : Request) → v.resets.pending ≡ Some q → is_open_number v number ≡ true → is_progress_code code ≡ false → is_number_code code ≡ true → ⊥) →
    ((q : Request) → v.resets.pending ≡ Some q → is_open_number v number ≡ true → is_done_code code ≡ true → (s : ℕ) → lists q.streams s ≡ true → IsNoted v r s) →
    Goes r v (response_taken v number code)
response_goes r v number code open_shut keeps no_other is_done = record {
  since = since;
  shut = λ s. shut (is_open_number v number) s;
  resets = λ s. resets (is_open_number v number) s;
  noted = λ s k. noted s k (is_open_number v number) refl v.resets.pending refl;
  low = λ h. low h (is_open_number v number) refl v.resets.pending refl;
  back = λ h s. back s (is_open_number v number) refl v.resets.pending refl;
  freed = λ h s. freed s (is_open_number v number) refl v.resets.pending refl;
}
  where
    since : Since v (response_taken v number code)
    since =
        let same = response_of v number code in
        since_same v (response_taken v number code) (ap (λ (a : SenderView). a.plan) same.1) (ap (λ (a : SenderView). a.queue) same.1) (ap (λ (a : SenderView). a.tickets) same.1)

    set : (q : Request) (x : Sending) (s : ℕ) → v.resets.pending ≡ Some q → (b : Bool) → lists q.streams s ≡ b → is_sending (if b then x else v.resets.sending s) ≡ false →
        is_sending (v.resets.sending s) ≡ false
    set q x s waits true listed h = (open_shut q waits s listed).0
    set q x s waits false listed h = h

    answered : (q : Request) (s : ℕ) → v.resets.pending ≡ Some q → (b c d : Bool) →
        is_sending ((if b then reset_done v q else if c then kept_asking v q else if d then number_back v q else reset_refused v q).resets.sending s) ≡ false →
        is_sending (v.resets.sending s) ≡ false
    answered q s waits true c d h = set q Sends s waits (lists q.streams s) refl h
    answered q s waits false true d h = h
    answered q s waits false false true h = h
    answered q s waits false false false h = set q Refuses s waits (lists q.streams s) refl h

    by_request : (o : Option Request) (s : ℕ) → v.resets.pending ≡ o → is_sending ((answered_in v code o).resets.sending s) ≡ false → is_sending (v.resets.sending s) ≡ false
    by_request None s waits h = h
    by_request (Some q) s waits h = answered q s waits (is_done_code code) (is_progress_code code) (is_number_code code && is_past_first v q) h

    shut : (b : Bool) (s : ℕ) → is_sending ((if b then answered_in v code v.resets.pending else v).resets.sending s) ≡ false → is_sending (v.resets.sending s) ≡ false
    shut false s h = h
    shut true s h = by_request v.resets.pending s refl h

    -- no stream is reset by it
    set_resets : (q : Request) (x : Sending) (s : ℕ) → v.resets.pending ≡ Some q → (b : Bool) → lists q.streams s ≡ b → is_resetting (if b then x else v.resets.sending s) ≡ true →
        is_resetting (v.resets.sending s) ≡ true
    set_resets q x s waits true listed h = (open_shut q waits s listed).1
    set_resets q x s waits false listed h = h

    resets_by : (q : Request) (s : ℕ) → v.resets.pending ≡ Some q → (b c d : Bool) →
        is_resetting ((if b then reset_done v q else if c then kept_asking v q else if d then number_back v q else reset_refused v q).resets.sending s) ≡ true →
        is_resetting (v.resets.sending s) ≡ true
    resets_by q s waits true c d h = set_resets q Sends s waits (lists q.streams s) refl h
    resets_by q s waits false true d h = h
    resets_by q s waits false false true h = h
    resets_by q s waits false false false h = set_resets q Refuses s waits (lists q.streams s) refl h

    resets_in : (o : Option Request) (s : ℕ) → v.resets.pending ≡ o → is_resetting ((answered_in v code o).resets.sending s) ≡ true → is_resetting (v.resets.sending s) ≡ true
    resets_in None s waits h = h
    resets_in (Some q) s waits h = resets_by q s waits (is_done_code code) (is_progress_code code) (is_number_code code && is_past_first v q) h

    resets : (b : Bool) (s : ℕ) → is_resetting ((if b then answered_in v code v.resets.pending else v).resets.sending s) ≡ true → is_resetting (v.resets.sending s) ≡ true
    resets false s h = h
    resets true s h = resets_in v.resets.pending s refl h

    -- what is set otherwise isn't reset any more
    set_off : (q : Request) (x : Sending) (s : ℕ) → is_resetting x ≡ false → (b : Bool) → b ≡ true → is_resetting (if b then x else v.resets.sending s) ≡ true → ⊥
    set_off q x s off true listed on = cc (off, on)
    set_off q x s off false listed on = cc

    its : (q : Request) (s : ℕ) (k : IsNoted v r s) → v.resets.pending ≡ Some q → k.request ≡ q
    its q s k waits = let w = k.waits in cc (w, waits)

    listed : (q : Request) (s : ℕ) (k : IsNoted v r s) → v.resets.pending ≡ Some q → lists q.streams s ≡ true
    listed q s k waits = subst (λ (z : Request). lists z.streams s ≡ true) (its q s k waits) k.named

    -- one that is noted stays so, as long as its response leaves it
    noted_by : (q : Request) (s : ℕ) (k : IsNoted v r s) → v.resets.pending ≡ Some q → is_open_number v number ≡ true → (b c d : Bool) → is_progress_code code ≡ c →
        (is_number_code code && is_past_first v q) ≡ d →
        is_resetting ((if b then reset_done v q else if c then kept_asking v q else if d then number_back v q else reset_refused v q).resets.sending s) ≡ true →
        IsNoted (if b then reset_done v q else if c then kept_asking v q else if d then number_back v q else reset_refused v q) r s
    noted_by q s k waits is_open true c d progress other on = absurd (set_off q Sends s refl (lists q.streams s) (listed q s k waits) on)
    noted_by q s k waits is_open false true d progress other on = let same = its q s k waits in record {
      request = record q { numbering = NextNumber };
      waits = refl;
      named = listed q s k waits;
      there = subst (λ (z : Request). list_any (nat_le r.streams) z.streams ≡ false) same k.there;
      done = inl (elim k.done [
        | inl done ↦ subst (λ (z : Request). r.resets.waited ≡ Some (noted_done r.initial z)) same done
        | inr never ↦ absurd (elim (keeps is_open progress).1 [
          | inl was ↦ let h = never.0 in let w = was.1 in cc (h, w)
          | inr is ↦ let h = never.1 in cc (h, is)
        ])
      ]);
    }
    noted_by q s k waits is_open false false true progress other on = absurd (no_other q waits is_open progress (and_parts (is_number_code code) (is_past_first v q) other).0)
    noted_by q s k waits is_open false false false progress other on = absurd (set_off q Refuses s refl (lists q.streams s) (listed q s k waits) on)

    noted : (s : ℕ) (k : IsNoted v r s) (b : Bool) → is_open_number v number ≡ b → (o : Option Request) → v.resets.pending ≡ o →
        is_resetting ((if b then answered_in v code o else v).resets.sending s) ≡ true → IsNoted (if b then answered_in v code o else v) r s
    noted s k false is_open o waits on = k
    noted s k true is_open None waits on = k
    noted s k true is_open (Some q) waits on = noted_by q s k waits is_open (is_done_code code) (is_progress_code code) (is_number_code code && is_past_first v q) refl refl on

    -- what is left of the outstanding request, by what is answered
    left : Request → Bool → Bool → Bool → SenderView
    left q b c d = if b then reset_done v q else if c then kept_asking v q else if d then number_back v q else reset_refused v q

    low_by : (q : Request) → v.resets.pending ≡ Some q → is_open_number v number ≡ true → (b c d : Bool) → is_progress_code code ≡ c → (is_number_code code && is_past_first v q) ≡ d →
        r.resets.taken ≤ v.resets.made → r.resets.taken ≤ (left q b c d).resets.made
    low_by q waits is_open true c d progress other h = h
    low_by q waits is_open false true d progress other h = h
    low_by q waits is_open false false true progress other h = absurd (no_other q waits is_open progress (and_parts (is_number_code code) (is_past_first v q) other).0)
    low_by q waits is_open false false false progress other h = h

    low : r.resets.taken ≤ v.resets.made → (b : Bool) → is_open_number v number ≡ b → (o : Option Request) → v.resets.pending ≡ o → r.resets.taken ≤ (if b then answered_in v code o else v).resets.made
    low h false is_open o waits = h
    low h true is_open None waits = h
    low h true is_open (Some q) waits = low_by q waits is_open (is_done_code code) (is_progress_code code) (is_number_code code && is_past_first v q) refl refl h

    -- what is noted of it was noted
    back_by : (q : Request) (s : ℕ) → v.resets.pending ≡ Some q → is_open_number v number ≡ true → (b c d : Bool) → is_progress_code code ≡ c → (is_number_code code && is_past_first v q) ≡ d →
        IsNoted (left q b c d) r s → IsNoted v r s
    back_by q s waits is_open true c d progress other k = absurd (let w = k.waits in cc w)
    back_by q s waits is_open false true d progress other k = let same : record q { numbering = NextNumber } ≡ k.request = let w = k.waits in cc w in record {
      request = q;
      waits = waits;
      named = subst (λ (z : Request). lists z.streams s ≡ true) (sym same) k.named;
      there = subst (λ (z : Request). list_any (nat_le r.streams) z.streams ≡ false) (sym same) k.there;
      done = elim k.done [
        | inl done ↦ inl (subst (λ (z : Request). r.resets.waited ≡ Some (noted_done r.initial z)) (sym same) done)
        | inr never ↦ absurd (let off = subst (λ (z : Request). takes_next z.numbering ≡ false) (sym same) never.3 in cc off)
      ];
    }
    back_by q s waits is_open false false true progress other k = absurd (no_other q waits is_open progress (and_parts (is_number_code code) (is_past_first v q) other).0)
    back_by q s waits is_open false false false progress other k = absurd (let w = k.waits in cc w)

    back : (s : ℕ) (b : Bool) → is_open_number v number ≡ b → (o : Option Request) → v.resets.pending ≡ o → IsNoted (if b then answered_in v code o else v) r s → IsNoted v r s
    back s false is_open o waits k = k
    back s true is_open None waits k = k
    back s true is_open (Some q) waits k = back_by q s waits is_open (is_done_code code) (is_progress_code code) (is_number_code code && is_past_first v q) refl refl k

    -- a stream that takes messages again is one whose reset was noted
    set_free : (q : Request) (x : Sending) (s : ℕ) → (lists q.streams s ≡ true → is_sending x ≡ true → IsNoted v r s) → (b : Bool) → lists q.streams s ≡ b → is_sending (if b then x else v.resets.sending s) ≡ true →
        (is_sending (v.resets.sending s) ≡ true) ⊎ IsNoted v r s
    set_free q x s free true listed on = inr (free listed on)
    set_free q x s free false listed on = inl on

    freed_by : (q : Request) (s : ℕ) → v.resets.pending ≡ Some q → is_open_number v number ≡ true → (b c d : Bool) → is_done_code code ≡ b → is_sending ((left q b c d).resets.sending s) ≡ true →
        (is_sending (v.resets.sending s) ≡ true) ⊎ IsNoted v r s
    freed_by q s waits is_open true c d done on = set_free q Sends s (λ listed free. is_done q waits is_open done s listed) (lists q.streams s) refl on
    freed_by q s waits is_open false true d done on = inl on
    freed_by q s waits is_open false false true done on = inl on
    freed_by q s waits is_open false false false done on = set_free q Refuses s (λ listed free. absurd (cc free)) (lists q.streams s) refl on

    freed : (s : ℕ) (b : Bool) → is_open_number v number ≡ b → (o : Option Request) → v.resets.pending ≡ o → is_sending ((if b then answered_in v code o else v).resets.sending s) ≡ true →
        (is_sending (v.resets.sending s) ≡ true) ⊎ IsNoted v r s
    freed s false is_open o waits on = inl on
    freed s true is_open None waits on = inl on
    freed s true is_open (Some q) waits on = freed_by q s waits is_open (is_done_code code) (is_progress_code code) (is_number_code code && is_past_first v q) refl on

-- a request that is retransmitted
retried_goes : (r : ReceiverView) (v : SenderView) → Goes r v (retried v)
retried_goes r v = record {
  since = since;
  shut = λ s. shut s v.resets.pending;
  resets = λ s. resets s v.resets.pending;
  noted = λ s k on. noted s k v.resets.pending refl;
  low = λ h. low h v.resets.pending;
  back = λ h s. back h s v.resets.pending refl;
  freed = λ h s on. inl (freed s v.resets.pending on);
}
  where
    since : Since v (retried v)
    since =
        let same = retried_of v in
        since_same v (retried v) (ap (λ (a : SenderView). a.plan) same.1) (ap (λ (a : SenderView). a.queue) same.1) (ap (λ (a : SenderView). a.tickets) same.1)

    by : (q : Request) (s : ℕ) (b : Bool) → is_sending ((if b then numbered_so v (suc v.resets.made) LaterNumber q else v).resets.sending s) ≡ false → is_sending (v.resets.sending s) ≡ false
    by q s true h = h
    by q s false h = h

    shut : (s : ℕ) (o : Option Request) → is_sending ((retried_in v o).resets.sending s) ≡ false → is_sending (v.resets.sending s) ≡ false
    shut s None h = h
    shut s (Some q) h = by q s (takes_next q.numbering && nat_lt v.resets.made REQUEST_LIMIT) h

    resets_by : (q : Request) (s : ℕ) (b : Bool) → is_resetting ((if b then numbered_so v (suc v.resets.made) LaterNumber q else v).resets.sending s) ≡ true → is_resetting (v.resets.sending s) ≡ true
    resets_by q s true h = h
    resets_by q s false h = h

    resets : (s : ℕ) (o : Option Request) → is_resetting ((retried_in v o).resets.sending s) ≡ true → is_resetting (v.resets.sending s) ≡ true
    resets s None h = h
    resets s (Some q) h = resets_by q s (takes_next q.numbering && nat_lt v.resets.made REQUEST_LIMIT) h

    noted_by : (q : Request) (s : ℕ) → IsNoted v r s → v.resets.pending ≡ Some q → (b : Bool) → (takes_next q.numbering && nat_lt v.resets.made REQUEST_LIMIT) ≡ b →
        IsNoted (if b then numbered_so v (suc v.resets.made) LaterNumber q else v) r s
    noted_by q s k waits false off = k
    noted_by q s k waits true on =
        let same : k.request ≡ q = let w = k.waits in cc (w, waits) in
        let next = (and_parts (takes_next q.numbering) (nat_lt v.resets.made REQUEST_LIMIT) on).0 in
        record {
          request = record q { numbering = LaterNumber };
          waits = refl;
          named = subst (λ (z : Request). lists z.streams s ≡ true) same k.named;
          there = subst (λ (z : Request). list_any (nat_le r.streams) z.streams ≡ false) same k.there;
          done = inl (elim k.done [
            | inl done ↦ subst (λ (z : Request). r.resets.waited ≡ Some (noted_done r.initial z)) same done
            | inr never ↦ absurd (let off = subst (λ (z : Request). takes_next z.numbering ≡ false) same never.3 in cc (off, next))
          ]);
        }

    low_by : (q : Request) (b : Bool) → r.resets.taken ≤ v.resets.made → r.resets.taken ≤ (if b then numbered_so v (suc v.resets.made) LaterNumber q else v).resets.made
    low_by q true h = omega (arith, h)
    low_by q false h = h

    low : r.resets.taken ≤ v.resets.made → (o : Option Request) → r.resets.taken ≤ (retried_in v o).resets.made
    low h None = h
    low h (Some q) = low_by q (takes_next q.numbering && nat_lt v.resets.made REQUEST_LIMIT) h

    back_by : r.resets.taken ≤ v.resets.made → (q : Request) (s : ℕ) → v.resets.pending ≡ Some q → (b : Bool) → IsNoted (if b then numbered_so v (suc v.resets.made) LaterNumber q else v) r s → IsNoted v r s
    back_by h q s waits false k = k
    back_by h q s waits true k = let same : record q { numbering = LaterNumber } ≡ k.request = let w = k.waits in cc w in record {
      request = q;
      waits = waits;
      named = subst (λ (z : Request). lists z.streams s ≡ true) (sym same) k.named;
      there = subst (λ (z : Request). list_any (nat_le r.streams) z.streams ≡ false) (sym same) k.there;
      done = elim k.done [
        | inl done ↦ inl (subst (λ (z : Request). r.resets.waited ≡ Some (noted_done r.initial z)) (sym same) done)
        | inr never ↦ absurd (let e = never.2 in omega (arith, h, e))
      ];
    }

    back : r.resets.taken ≤ v.resets.made → (s : ℕ) (o : Option Request) → v.resets.pending ≡ o → IsNoted (retried_in v o) r s → IsNoted v r s
    back h s None waits k = k
    back h s (Some q) waits k = back_by h q s waits (takes_next q.numbering && nat_lt v.resets.made REQUEST_LIMIT) k

    freed_by : (q : Request) (s : ℕ) (b : Bool) → is_sending ((if b then numbered_so v (suc v.resets.made) LaterNumber q else v).resets.sending s) ≡ true → is_sending (v.resets.sending s) ≡ true
    freed_by q s true h = h
    freed_by q s false h = h

    freed : (s : ℕ) (o : Option Request) → is_sending ((retried_in v o).resets.sending s) ≡ true → is_sending (v.resets.sending s) ≡ true
    freed s None h = h
    freed s (Some q) h = freed_by q s (takes_next q.numbering && nat_lt v.resets.made REQUEST_LIMIT) h

    noted : (s : ℕ) → IsNoted v r s → (o : Option Request) → v.resets.pending ≡ o → IsNoted (retried_in v o) r s
    noted s k None waits = k
    noted s k (Some q) waits = noted_by q s k waits (takes_next q.numbering && nat_lt v.resets.made REQUEST_LIMIT) refl

-- ---- an endpoint, beside its peer

pub record LaterEnd (p e t : EndView) : Type 0 where
  pub sender : Goes p.receiver e.sender t.sender
  pub receiver : Onward p.sender e.receiver t.receiver

pub later_views : (p e t : EndView) (a : SenderView) (r : ReceiverView) → t.sender ≡ a → t.receiver ≡ r → Goes p.receiver e.sender a → Onward p.sender e.receiver r → LaterEnd p e t
later_views p e t a r sender receiver goes onward = record {
  sender = subst (Goes p.receiver e.sender) (sym sender) goes;
  receiver = subst (Onward p.sender e.receiver) (sym receiver) onward;
}

pub later_same : (p e t : EndView) → t.sender ≡ e.sender → t.receiver ≡ e.receiver → LaterEnd p e t
later_same p e t sender receiver = later_views p e t e.sender e.receiver sender receiver (goes_itself p.receiver e.sender) (onward_itself p.sender e.receiver)

pub later_itself : (p e : EndView) → LaterEnd p e e
later_itself p e = later_same p e e refl refl

later_sender : (p e t : EndView) → Goes p.receiver e.sender t.sender → t.receiver ≡ e.receiver → LaterEnd p e t
later_sender p e t goes same = record { sender = goes; receiver = onward_same p.sender e.receiver t.receiver same }

later_receiver : (p e t : EndView) → t.sender ≡ e.sender → Onward p.sender e.receiver t.receiver → LaterEnd p e t
later_receiver p e t same onward = record { sender = subst (Goes p.receiver e.sender) (sym same) (goes_itself p.receiver e.sender); receiver = onward }

pub later_on : (p e t u : EndView) → LaterEnd p e t → LaterEnd p t u → LaterEnd p e u
later_on p e t u a b = record {
  sender = goes_on p.receiver e.sender t.sender u.sender a.sender b.sender;
  receiver = onward_on p.sender e.receiver t.receiver u.receiver a.receiver b.receiver;
}

later_rested : (p e : EndView) → LaterEnd p e (rested e)
later_rested p e = later_same p e (rested e) (views_rested e).sender (views_rested e).receiver

later_abandoning : (p e : EndView) (a : SenderView) → Goes p.receiver e.sender a → LaterEnd p e (after_abandoning e a)
later_abandoning p e a goes =
    let x = settled (record e { sender = a; due = record e.due { forward = e.due.forward || not (point a == point e.sender) } }) in
    later_views p e (after_abandoning e a) a e.receiver (views_rested x).sender (views_rested x).receiver goes (onward_itself p.sender e.receiver)

later_worn : (p : EndView) (from : ℕ) (e : EndView) → LaterEnd p e (wearing from e)
later_worn p from e = worn_cases (LaterEnd p e) from e (later_itself p e)
    (λ test on. later_abandoning p e (worn test e.sender) (goes_since p.receiver e.sender (worn test e.sender) (since_worn test e.sender) (worn_resets test e.sender)))

-- ---- a chunk

module _ (p : EndView) (u v : Asked) (out back : List Dated) (many : ℕ) where
  abbrev Met : EndView → Type 0
  Met e = IsMetWith many e p u v out back

  -- what a chunk says that arrives
  says : (e : EndView) (x : ChunkMeaning) → (m : Met e) (c : Comes p many back x) → IsSaid (format_of p) p.sender.initial p.sender e.receiver m.met.coming.bags c.said.date.own c.said.chunk →
      IsSaid (format_of p) p.sender.initial p.sender e.receiver m.met.coming.bags c.said.date.own x
  says e x m c h = subst (λ (y : ChunkMeaning). IsSaid (format_of p) p.sender.initial p.sender e.receiver m.met.coming.bags c.said.date.own y) c.same h

  by_data : (e : EndView) (x : PieceMeaning) (o : PieceAnswer) (r : ReceiverView) → Met e → Comes p many back (Data x) → PieceTaken (format_of e) e.receiver x o r → Onward p.sender e.receiver r
  by_data e x o r m c taken =
      piece_onward (format_of p) p.terms.outbound p.sender v e.receiver back out m.met.coming c.said x o r c.has c.own (says e (Data x) m c)
      (subst (λ (f : Format). PieceTaken f e.receiver x o r) m.met.format taken)

  by_i_data : (e : EndView) (x : PieceMeaning) (o : PieceAnswer) (r : ReceiverView) → Met e → Comes p many back (IData x) → PieceTaken (format_of e) e.receiver x o r → Onward p.sender e.receiver r
  by_i_data e x o r m c taken =
      piece_onward (format_of p) p.terms.outbound p.sender v e.receiver back out m.met.coming c.said x o r c.has c.own (says e (IData x) m c)
      (subst (λ (f : Format). PieceTaken f e.receiver x o r) m.met.format taken)

  by_forward : (e : EndView) (x : ForwardMeaning) (o : ForwardAnswer) (r : ReceiverView) → Met e → Comes p many back (ForwardTsn x) → ForwardTaken (format_of e) e.receiver x o r →
      Onward p.sender e.receiver r
  by_forward e x o r m c taken =
      skip_onward (format_of p) p.terms.outbound p.sender v e.receiver back out m.met.coming c.said x o r c.has c.own (says e (ForwardTsn x) m c)
      (subst (λ (f : Format). ForwardTaken f e.receiver x o r) m.met.format taken)

  by_i_forward : (e : EndView) (x : ForwardMeaning) (o : ForwardAnswer) (r : ReceiverView) → Met e → Comes p many back (IForwardTsn x) → ForwardTaken (format_of e) e.receiver x o r →
      Onward p.sender e.receiver r
  by_i_forward e x o r m c taken =
      skip_onward (format_of p) p.terms.outbound p.sender v e.receiver back out m.met.coming c.said x o r c.has c.own (says e (IForwardTsn x) m c)
      (subst (λ (f : Format). ForwardTaken f e.receiver x o r) m.met.format taken)

  -- ---- a RE-CONFIG

  by_request : (c : ℕ) (e : EndView) (x : ResetMeaning) → Met e → IsCumulative e.receiver c → IsAskedBy p.sender.initial p.sender x → LaterEnd p e (request_heard c e x)
  by_request c e x m cumulative ask =
      later_receiver p e (request_heard c e x) refl
      (request_onward (format_of p) p.terms.outbound p.sender v e.receiver back out m.met.coming c cumulative x ask
      (answers_with e (response_item x.number (answer_in_turn e.receiver x.number (reset_answer e.receiver c x)))))

  in_progress_same : (b : Bool) (e : EndView) → LaterEnd p e (in_progress b e)
  in_progress_same false e = later_itself p e
  in_progress_same true e = later_same p e (in_progress true e) refl refl

  asking_on_same : (e : EndView) → LaterEnd p e (asking_on e)
  asking_on_same e = go (is_some e.sender.resets.pending)
    where
      go : (b : Bool) → LaterEnd p e (if b then e else with_timer ResetAlarm (unused_timer e.configuration.first_wait) (with_due (record e.due { request = false }) e))
      go true = later_itself p e
      go false = later_same p e (with_timer ResetAlarm (unused_timer e.configuration.first_wait) (with_due (record e.due { request = false }) e)) refl refl

  by_response : (e : EndView) (x : Typed) → Met e → IsAnsweredBy p.receiver.initial p.receiver x → LaterEnd p e (response_heard e (u32_at x.value) (u32_at (drop 4 x.value)))
  by_response e x m answer =
      let number = u32_at x.value in
      let code = u32_at (drop 4 x.value) in
      let t = record e { sender = response_taken e.sender number code } in
      let b = is_open_number e.sender number in
      let first : LaterEnd p e t = later_sender p e t (response_goes p.receiver e.sender number code
      (λ q waits s listed. let o = m.met.going.step.waiting q waits in (o.shut s listed, o.resets s listed))
      (progress_kept (format_of e) e.terms.outbound e.sender u p.receiver out back m.met.going x answer)
      (never_bad_number (format_of e) e.terms.outbound e.sender u p.receiver out back m.met.going x answer)
      (done_noted (format_of e) e.terms.outbound e.sender u p.receiver out back m.met.going x answer)) refl in
      later_on p e t (response_heard e number code) first
      (later_on p t (in_progress b t) (response_heard e number code) (in_progress_same b t) (asking_on_same (in_progress b t)))

  by_parameter_later : (c : ℕ) (e : EndView) (x : Typed) → (is_parameter OUTGOING_RESET 12 x ≡ true → IsAskedBy p.sender.initial p.sender (reset_read x)) → is_other_request x ≡ false →
      (is_parameter RECONFIG_RESPONSE 8 x ≡ true → IsAnsweredBy p.receiver.initial p.receiver x) → Met e → IsCumulative e.receiver c → LaterEnd p e (parameter_heard c e x)
  by_parameter_later c e x ask other answer m cumulative = go (is_parameter OUTGOING_RESET 12 x) refl (is_parameter RECONFIG_RESPONSE 8 x) refl (is_other_request x) other
    where
      go : (b : Bool) → is_parameter OUTGOING_RESET 12 x ≡ b → (d : Bool) → is_parameter RECONFIG_RESPONSE 8 x ≡ d → (o : Bool) → o ≡ false →
          LaterEnd p e (if b then request_heard c e (reset_read x) else if d then response_heard e (u32_at x.value) (u32_at (drop 4 x.value)) else if o then other_heard e (u32_at x.value) else e)
      go true on d is o unasked = by_request c e (reset_read x) m cumulative (ask on)
      go false off true is o unasked = by_response e x m (answer is)
      go false off false is true unasked = absurd (cc)
      go false off false is false unasked = later_itself p e

  by_parameters : (c : ℕ) (xs : List Typed) → AreAsked p.sender.initial p.sender xs → AreAnswers p.receiver.initial p.receiver xs → (e : EndView) → Met e → IsCumulative e.receiver c →
      LaterEnd p e (parameters_heard c e xs)
  by_parameters c [] asks answers e m cumulative = later_itself p e
  by_parameters c (x ∷ xs) asks answers e m cumulative =
      let one = asks x (inl refl) in
      let mid = parameter_heard c e x in
      later_on p e mid (parameters_heard c mid xs) (by_parameter_later c e x one.0 one.1 (answers x (inl refl)) m cumulative)
      (by_parameters c xs (λ y has. asks y (inr has)) (λ y has. answers y (inr has)) mid
      (by_parameter p u v out back many c e x one.0 one.1 (answers x (inl refl)) m cumulative)
      (let same = (parameter_same c e x).receiver in subst (λ (r : ReceiverView). IsCumulative r c) (sym same.1) (record { reached = cumulative.reached; open_end = cumulative.open_end })))

  goes : (e : EndView) (tag : ℕ) (x : ChunkMeaning) (y : Note) (t : EndView) → Comes p many back x → Met e → Acts e tag x (GoesOn y t) → LaterEnd p e t
  goes e tag (Data d) y t has m (PieceComes k g o r is hears some same taken right) = later_receiver p e t refl (by_data e d o r m has taken)
  goes e tag (IData d) y t has m (PieceComes k g o r is hears some same taken right) = later_receiver p e t refl (by_i_data e d o r m has taken)
  goes e tag (Init i) y t has m h = absurd (cc)
  goes e tag (InitAck i) y t has m (AcceptedAck d cookie is tagged value fault) = absurd (not_calling e.phase d is m.met.phase)
  goes e tag (Sack s) y t has m (SackStale hears fault) = later_same p e t refl refl
  goes e tag (Sack s) y t has m (SackCounts hears none) =
      later_sender p e t (heard_goes p.receiver e.pace e.moment e.sender (sack_taken e.sender s) (goes_since p.receiver e.sender (sack_taken e.sender s) (since_same e.sender (sack_taken e.sender s) refl refl refl) refl)) refl
  goes e tag (Heartbeat i) y t has m (HeartbeatCounts hears) = later_same p e t refl refl
  goes e tag (HeartbeatAck i) y t has m h = let q : t ≡ beat_heard e i = cc in subst (LaterEnd p e) (sym q) (later_same p e (beat_heard e i) refl refl)
  goes e tag (Abort b xs) y t has m h = absurd (cc)
  goes e tag (Shutdown n) y t has m (ShutdownStale k g is hears fault) = later_same p e t refl refl
  goes e tag (Shutdown n) y t has m (ShutdownCounts k g is hears none) =
      later_sender p e t (heard_goes p.receiver e.pace e.moment e.sender (shutdown_taken e.sender n)
      (goes_since p.receiver e.sender (shutdown_taken e.sender n) (since_same e.sender (shutdown_taken e.sender n) refl refl refl) refl)) refl
  goes e tag (Shutdown n) y t has m (Crosses k is) = later_same p e t refl refl
  goes e tag (Shutdown n) y t has m (Again k is) = later_same p e t refl refl
  goes e tag ShutdownAck y t has m h = elim h [ ]
  goes e tag (Error xs) y t has m (SaysNothing off) = later_same p e t refl refl
  goes e tag (CookieEcho xs) y t has m (EchoedAgain _ _ _ _ _ _ _) = later_same p e t refl refl
  goes e tag CookieAck y t has m (CookieAcked k xs is) = later_same p e t refl refl
  goes e tag (ShutdownComplete b) y t has m h = elim h [ ]
  goes e tag (ForwardTsn d) y t has m (IsOld k g r is hears may taken) = later_receiver p e t refl (by_forward e d _ r m has taken)
  goes e tag (ForwardTsn d) y t has m (ForwardComes k g r is hears may taken) = later_receiver p e t refl (by_forward e d _ r m has taken)
  goes e tag (IForwardTsn d) y t has m (IsOld k g r is hears may taken) = later_receiver p e t refl (by_i_forward e d _ r m has taken)
  goes e tag (IForwardTsn d) y t has m (ForwardComes k g r is hears may taken) = later_receiver p e t refl (by_i_forward e d _ r m has taken)
  goes e tag (Unknown k f w) y t has m (ReconfigComes c takes cumulative) =
      let is = eqb-true k RECONFIG (and_parts (k == RECONFIG) (e.terms.reset && hears takes_data e.phase) takes).0 in
      let ask = says e (Unknown k f w) m has (m.met.coming.said has.said has.has) in
      let answer = subst (λ (z : ChunkMeaning). IsSaidBack p.receiver.initial p.receiver m.met.going.bags has.said.date.there z) has.same (m.met.going.said_back has.said has.has) in
      by_parameters c (typed_in w) (ask is) (answer is) e m cumulative
  goes e tag (Unknown k f w) y t has m (IsUnknown _ off h) = subst (LaterEnd p e) (sym (unknown_goes e y t k f w h).same) (later_same p e _ refl refl)

  ends : (e : EndView) (tag : ℕ) (x : ChunkMeaning) (t : EndView) → Acts e tag x (Ends t) → LaterEnd p e t
  ends e tag (Data d) t h = elim h [ ]
  ends e tag (IData d) t h = elim h [ ]
  ends e tag (Init i) t h = absurd (cc)
  ends e tag (InitAck i) t h = elim h [ ]
  ends e tag (Sack s) t h = elim h [ ]
  ends e tag (Heartbeat i) t h = elim h [ ]
  ends e tag (HeartbeatAck i) t h = absurd (cc)
  ends e tag (Abort b xs) t h = let q : t ≡ closed Aborted e = cc in subst (LaterEnd p e) (sym q) (later_same p e (closed Aborted e) refl refl)
  ends e tag (Shutdown n) t h = elim h [ ]
  ends e tag ShutdownAck t h = elim h [ ]
  ends e tag (Error xs) t (Closes on) = later_same p e t refl refl
  ends e tag (CookieEcho xs) t h = elim h [ ]
  ends e tag CookieAck t h = elim h [ ]
  ends e tag (ShutdownComplete b) t (CompleteCompleted on) = later_same p e t refl refl
  ends e tag (ForwardTsn d) t h = elim h [ ]
  ends e tag (IForwardTsn d) t h = elim h [ ]
  ends e tag (Unknown k f w) t (IsUnknown _ off h) = subst (LaterEnd p e) (sym (unknown_ends e t k f w h).same) (later_same p e _ refl refl)

  replies : (e : EndView) (tag : ℕ) (x : ChunkMeaning) (t : EndView) (r : Packet) → Acts e tag x (Replies t r) → LaterEnd p e t
  replies e tag (Data d) t r (PieceEmpty _ _ _ _ _) = later_same p e t refl refl
  replies e tag (Data d) t r (WrongFormat _ _ _ _ _ _) = later_same p e t refl refl
  replies e tag (Data d) t r (Misnumbered _ _ _ _ _ _ _ _ _) = later_same p e t refl refl
  replies e tag (IData d) t r (PieceEmpty _ _ _ _ _) = later_same p e t refl refl
  replies e tag (IData d) t r (WrongFormat _ _ _ _ _ _) = later_same p e t refl refl
  replies e tag (IData d) t r (Misnumbered _ _ _ _ _ _ _ _ _) = later_same p e t refl refl
  replies e tag (Init i) t r h = absurd (cc)
  replies e tag (InitAck i) t r (RefusedAck _ _ _ _ _) = later_same p e t refl refl
  replies e tag (Sack s) t r (SackWrong _ _ _ _ _) = later_same p e t refl refl
  replies e tag (Heartbeat i) t r h = elim h [ ]
  replies e tag (HeartbeatAck i) t r h = absurd (cc)
  replies e tag (Abort b xs) t r h = absurd (cc)
  replies e tag (Shutdown n) t r (ShutdownWrong _ _ _ _ _) = later_same p e t refl refl
  replies e tag ShutdownAck t r (AckCompletes _ _ _ _) = later_same p e t refl refl
  replies e tag (Error xs) t r h = elim h [ ]
  replies e tag (CookieEcho xs) t r h = elim h [ ]
  replies e tag CookieAck t r h = elim h [ ]
  replies e tag (ShutdownComplete b) t r h = elim h [ ]
  replies e tag (ForwardTsn d) t r (WrongKind _ _ _ _ _) = later_same p e t refl refl
  replies e tag (ForwardTsn d) t r (IsBad _ _ _ _ _ _ _) = later_same p e t refl refl
  replies e tag (IForwardTsn d) t r (WrongKind _ _ _ _ _) = later_same p e t refl refl
  replies e tag (IForwardTsn d) t r (IsBad _ _ _ _ _ _ _) = later_same p e t refl refl
  replies e tag (Unknown k f w) t r (IsUnknown _ off h) = absurd (unknown_never_replies e t r k f w h)

  -- ---- a packet

  -- an endpoint on the way through a packet, which found the first one
  pub record OnTheWay (first e : EndView) : Type 0 where
    pub met : Met e
    pub later : LaterEnd p first e

  pub on_the_way : (first : EndView) (tag : ℕ) → Keeps tag (OnTheWay first) (λ x. Comes p many back x) (λ r. Unit {0})
  on_the_way first tag = record {
    goes = λ e x y t c k act.
        let m = met_goes p u v out back many e tag x y t c k.met act in
        record {
          met = record { met = met_rested t p u v out back m.met; assigned = ap (λ (a : SenderView). length a.plan.entries) (views_rested t).sender ∙ m.assigned };
          later = later_on p first t (rested t) (later_on p first e t k.later (goes e tag x y t c k.met act)) (later_rested p t);
        };
    ends = λ e x t c k act. record { met = met_ends p u v out back many e tag x t k.met act; later = later_on p first e t k.later (ends e tag x t act) };
    replies = λ e x t r c k act. (record { met = met_replies p u v out back many e tag x t r k.met act; later = later_on p first e t k.later (replies e tag x t r act) }, tt);
  }

pub later_ended : (p : EndView) (n : Notes) (e : EndView) → LaterEnd p e (packet_ended n e)
later_ended p n e = ended_cases (LaterEnd p e) n e (later_itself p e) (λ t g is. later_same p e _ refl refl) (λ t g is. later_same p e _ refl refl)
    (λ x k. later_on p e x _ k (later_same p x _ refl refl))

pub arrives_later : (e p : EndView) (u v : Asked) (out back : List Dated) (d : Draw) (k : Packet) (t : EndView) (o : Verdict) → IsMet e p u v out back →
    ((x : ChunkMeaning) → Has k.chunks x → Comes p (length e.sender.plan.entries) back x) → Arrives e d k t o → LaterEnd p e t
arrives_later e p u v out back d k t o m comes (Elsewhere ports) = later_itself p e
arrives_later e p u v out back d k t o m comes (NotOurs ports passes) = later_itself p e
arrives_later e p u v out back d k t o m comes (Stray ports passes none closed) = later_itself p e
arrives_later e p u v out back d k t o m comes (CookieBegins b _ _ _ ports passes none opens acts gap _) = absurd (listens_not e.phase (found_is e k.tag k.chunks b opens).phase m.phase)
arrives_later e p u v out back d k t o m comes (Heard w n _ ports passes has acts gap _) =
    let first = (all_act_keeps k.tag (OnTheWay p u v out back (length e.sender.plan.entries) e) _ _ (on_the_way p u v out back (length e.sender.plan.entries) e k.tag) e no_notes k.chunks w n o comes
    (record { met = record { met = m; assigned = refl }; later = later_itself p e }) acts).0.later in
    let worn = wearing (missed_below e.pace) w in
    later_on p e w (packet_ended (urged gap n) worn) first (later_on p w worn (packet_ended (urged gap n) worn) (later_worn p (missed_below e.pace) w) (later_ended p (urged gap n) worn))

-- ---- a packet that is built

later_built : (p : EndView) (s : Slot) (e : EndView) → LaterEnd p e (once_built s e)
later_built p EchoSlot e = later_same p e _ refl refl
later_built p CookieAckSlot e = later_same p e _ refl refl
later_built p HeartbeatSlot e = later_same p e _ refl refl
later_built p BeatSlot e = later_same p e _ refl refl
later_built p ErrorSlot e = later_same p e _ refl refl
later_built p SackSlot e = later_receiver p e _ refl (onward_calm p.sender e.receiver _ (λ j h. h) refl (λ s. refl) refl (λ s k. noted_received p.sender e.receiver _ s refl refl refl refl refl k) (λ s k. noted_received p.sender _ e.receiver s refl refl refl refl refl k))
later_built p ForwardSlot e = later_same p e _ refl refl
later_built p AnswerSlot e = later_receiver p e _ refl (onward_calm p.sender e.receiver _ (λ j h. h) refl (λ s. refl) refl (λ s k. noted_received p.sender e.receiver _ s refl refl refl refl refl k) (λ s k. noted_received p.sender _ e.receiver s refl refl refl refl refl k))
later_built p RequestSlot e = later_same p e _ refl refl
later_built p ShutdownSlot e = later_same p e _ refl refl
later_built p ShutdownAckSlot e = later_same p e _ refl refl

later_puts : (p : EndView) (ss : List Slot) (e : EndView) (xs zs : List ChunkMeaning) (full : Bool) (t : EndView) → Puts ss e xs zs full t → LaterEnd p e t
later_puts p ss e xs zs full t (NoMore _ _) = later_itself p e
later_puts p ss e xs zs full t (NotDue _ more _ _ _ _ _ off rest) = later_puts p more e xs zs full t rest
later_puts p ss e xs zs full t (Put s more _ x _ _ _ _ due wants room rest) = later_on p e (once_built s e) t (later_built p s e) (later_puts p more (once_built s e) (xs ++ x ∷ []) zs full t rest)
later_puts p ss e xs zs full t (IsFull _ _ _ _ _ due wants room) = later_itself p e

-- a new request isn't noted
abbrev pub IsUnnoted : (p e : EndView) → Type 0
IsUnnoted p e = may_ask e.sender ≡ true → (s : ℕ) → IsNoted (asked e.sender) p.receiver s → ⊥

later_asking : (p e : EndView) → IsUnnoted p e → LaterEnd p e (asking e)
later_asking p e new = go (e.terms.reset && (is_home ResetAlarm e.phase && may_ask e.sender)) refl
  where
    -- none is outstanding then
    none_waits : may_ask e.sender ≡ true → (s : ℕ) → IsNoted e.sender p.receiver s → ⊥
    none_waits may s k =
        let free = (and_parts (not (is_some e.sender.resets.pending)) (has_stream (ready e.sender) && nat_lt e.sender.resets.made REQUEST_LIMIT) may).0 in
        let z : false ≡ true = subst (λ (o : Option Request). not (is_some o) ≡ true) k.waits free in
        cc

    go : (b : Bool) → (e.terms.reset && (is_home ResetAlarm e.phase && may_ask e.sender)) ≡ b → LaterEnd p e (asking_now b e)
    go true on =
        let may = (and_parts (is_home ResetAlarm e.phase) (may_ask e.sender) (and_parts e.terms.reset (is_home ResetAlarm e.phase && may_ask e.sender) on).1).1 in
        later_sender p e (asking_now true e)
        (record { since = since_same e.sender _ refl refl refl; shut = λ s h. h; resets = λ s h. h; noted = λ s k on_it. absurd (none_waits may s k); low = λ h. omega (arith, h); back = λ h s k. absurd (new may s k); freed = λ h s on_it. inl on_it }) refl
    go false off = later_itself p e

pub builds_later : (p e : EndView) (zs : List ChunkMeaning) (t : EndView) → IsUnnoted p e → Builds e zs t → LaterEnd p e t
builds_later p e zs t new (Sleeps _) = later_itself p e
builds_later p e zs t new (Waits _ _ _) = later_itself p e
builds_later p e zs t new (Calls _ _ _) = later_same p e t refl refl
builds_later p e zs t new (Echoes _ _ _ full _ is puts) = later_puts p _ e [] zs full t puts
builds_later p e zs t new (EndsFull _ _ _ _ is puts) = later_on p e (asking e) t (later_asking p e new) (later_puts p _ (asking e) [] zs true t puts)
builds_later p e zs t new (Fills _ _ ys x is puts) =
    let follows = (fill_is_fill (format_of x) (room_behind x ys) x.sender).follows in
    let fills : Goes p.receiver x.sender (filled_behind x ys).view =
    goes_since p.receiver x.sender (filled_behind x ys).view (since_filled (format_of x) x.sender (room_behind x ys) (filled_behind x ys).wishes (filled_behind x ys).view follows)
    (follows_resets (format_of x) x.sender (room_behind x ys) (filled_behind x ys).wishes (filled_behind x ys).view follows).last in
    later_on p e x t (later_on p e (asking e) x (later_asking p e new) (later_puts p _ (asking e) [] ys false x puts)) (later_sender p x t fills refl)

-- ---- time

later_again : (p : EndView) (a : Alarm) (e : EndView) → LaterEnd p e (due_again a e)
later_again p InitAlarm e = later_same p e _ refl refl
later_again p CookieAlarm e = later_same p e _ refl refl
later_again p DataAlarm e = later_sender p e _ (goes_since p.receiver e.sender (marking e.sender (λ i. true)) (since_same e.sender (marking e.sender (λ i. true)) refl refl refl) refl) refl
later_again p ShutdownAlarm e = later_same p e _ refl refl
later_again p AckAlarm e = later_same p e _ refl refl
later_again p ResetAlarm e = later_sender p e _ (retried_goes p.receiver e.sender) refl
later_again p BeatAlarm e = later_same p e _ refl refl
later_again p GuardAlarm e = later_same p e _ refl refl

later_rung : (p : EndView) (b : Bool) (a : Alarm) (e : EndView) → LaterEnd p e (rung b a e)
later_rung p false a e = later_itself p e
later_rung p true a e = go (may_go_on a e)
  where
    go : (c : Bool) → LaterEnd p e (if c then due_again a (with_timer a (expired_timer e.configuration.longest_wait (e.timers a)) e) else closed TimedOut e)
    go true = let x = with_timer a (expired_timer e.configuration.longest_wait (e.timers a)) e in later_on p e x (due_again a x) (later_same p e x refl refl) (later_again p a x)
    go false = later_same p e _ refl refl

later_rung_all : (p : EndView) (alarms : List Alarm) (e : EndView) → LaterEnd p e (rung_all alarms e)
later_rung_all p [] e = later_itself p e
later_rung_all p (a ∷ more) e = later_on p e (ring a e) (rung_all more (ring a e)) (later_rung p (is_over_at e.moment (e.timers a).expiry) a e) (later_rung_all p more (ring a e))

later_waited : (p : EndView) (b : Bool) (e : EndView) → LaterEnd p e (waited_in b e)
later_waited p false e = later_itself p e
later_waited p true e = later_same p e _ refl refl

pub ticked_later : (p e : EndView) (now : ℕ) → LaterEnd p e (ticked e now)
ticked_later p e now = go (has_association e.phase)
  where
    go : (b : Bool) → LaterEnd p e (if b then passed (at_moment e now) else at_moment e now)
    go false = later_same p e _ refl refl
    go true =
        let m = at_moment e now in
        let x = after_abandoning m (given_up (is_data_due m) m.sender m.moment) in
        let rang = rung_all all_alarms x in
        let abandoned = later_abandoning p m (given_up (is_data_due m) m.sender m.moment) (given_up_goes p.receiver (is_data_due m) m.sender m.moment) in
        later_on p e m (waited_in (is_over_at rang.moment rang.delayed) rang) (later_same p e m refl refl)
        (later_on p m x (waited_in (is_over_at rang.moment rang.delayed) rang) abandoned
        (later_on p x rang (waited_in (is_over_at rang.moment rang.delayed) rang) (later_rung_all p all_alarms x) (later_waited p (is_over_at rang.moment rang.delayed) rang)))

-- no time changes the receiver
again_receiver : (a : Alarm) (e : EndView) → (due_again a e).receiver ≡ e.receiver
again_receiver InitAlarm e = refl
again_receiver CookieAlarm e = refl
again_receiver DataAlarm e = refl
again_receiver ShutdownAlarm e = refl
again_receiver AckAlarm e = refl
again_receiver ResetAlarm e = refl
again_receiver BeatAlarm e = refl
again_receiver GuardAlarm e = refl

rung_receiver : (b : Bool) (a : Alarm) (e : EndView) → (rung b a e).receiver ≡ e.receiver
rung_receiver false a e = refl
rung_receiver true a e = go (may_go_on a e)
  where
    go : (c : Bool) → (if c then due_again a (with_timer a (expired_timer e.configuration.longest_wait (e.timers a)) e) else closed TimedOut e).receiver ≡ e.receiver
    go true = again_receiver a (with_timer a (expired_timer e.configuration.longest_wait (e.timers a)) e)
    go false = refl

rung_all_receiver : (alarms : List Alarm) (e : EndView) → (rung_all alarms e).receiver ≡ e.receiver
rung_all_receiver [] e = refl
rung_all_receiver (a ∷ more) e = rung_all_receiver more (ring a e) ∙ rung_receiver (is_over_at e.moment (e.timers a).expiry) a e

waited_receiver : (b : Bool) (e : EndView) → (waited_in b e).receiver ≡ e.receiver
waited_receiver false e = refl
waited_receiver true e = refl

pub ticked_receiver : (e : EndView) (now : ℕ) → (ticked e now).receiver ≡ e.receiver
ticked_receiver e now = go (has_association e.phase)
  where
    go : (b : Bool) → (if b then passed (at_moment e now) else at_moment e now).receiver ≡ e.receiver
    go false = refl
    go true =
        let m = at_moment e now in
        let a = given_up (is_data_due m) m.sender m.moment in
        let x = after_abandoning m a in
        let rang = rung_all all_alarms x in
        waited_receiver (is_over_at rang.moment rang.delayed) rang ∙ rung_all_receiver all_alarms x
        ∙ (views_rested (settled (record m { sender = a; due = record m.due { forward = m.due.forward || not (point a == point m.sender) } }))).receiver

-- ---- calls

pub sent_later : (p e : EndView) (c : Call) → LaterEnd p e (send_leaves (send_answer e c) e c)
sent_later p e c = go (hears is_established e.phase)
  where
    by : (o : Option Refusal) → LaterEnd p e (send_leaves (answer_for e o) e c)
    by None = later_sender p e _ (goes_since p.receiver e.sender _ (since_queued e.sender c.lane c.payload c.bytes c.until c.limit) refl) refl
    by (Some x) = later_itself p e

    go : (b : Bool) → LaterEnd p e (send_leaves (if b then answer_for e (refusal e.sender c.lane.stream c.bytes) else NotOpen) e c)
    go true = by (refusal e.sender c.lane.stream c.bytes)
    go false = later_itself p e

pub abandoned_later : (p e : EndView) (n : ℕ) → LaterEnd p e (abandoned_at e n)
abandoned_later p e n = go (is_open e.phase)
  where
    goes : Goes p.receiver e.sender (abandon_after e.sender n)
    goes = goes_since p.receiver e.sender (abandon_after e.sender n) (since_abandoned e.sender n) (abandon_resets e.sender n)

    go : (b : Bool) → LaterEnd p e (if b then after_abandoning e (abandon_after e.sender n) else record e { sender = abandon_after e.sender n })
    go true = later_abandoning p e (abandon_after e.sender n) goes
    go false = later_sender p e (record e { sender = abandon_after e.sender n }) goes refl

pub shut_later : (p e : EndView) → LaterEnd p e (shut e)
shut_later p e = go e.phase
  where
    go : (h : Phase) → LaterEnd p e (shut_in h e)
    go (Open t Established) = let x = turned (Open t ShutdownPending) e in later_on p e x (rested x) (later_same p e x refl refl) (later_rested p x)
    go (Open t ShutdownPending) = later_itself p e
    go (Open t ShutdownSent) = later_itself p e
    go (Open t ShutdownReceived) = later_itself p e
    go (Open t ShutdownAckSent) = later_itself p e
    go Idle = later_itself p e
    go Listening = later_itself p e
    go (Calling d) = later_itself p e
    go (Echoing t xs) = later_itself p e
    go (Over why) = later_itself p e

pub aborted_later : (p e : EndView) (a : AbortAnswer) → LaterEnd p e (abort_leaves a e)
aborted_later p e (Aborts x) = later_same p e _ refl refl
aborted_later p e NoPeer = later_itself p e
aborted_later p e TooLong = later_itself p e

pub taken_later : (p e : EndView) (u v : Asked) (out back : List Dated) (s : ℕ) (h : Option Handed) (t : EndView) → IsMet e p u v out back → UserTakes e s h t → LaterEnd p e t
taken_later p e u v out back s h t m takes =
    later_views p e t e.sender takes.receiver (ap (λ (x : EndView). x.sender) takes.leaves) (ap (λ (x : EndView). x.receiver) takes.leaves) (goes_itself p.receiver e.sender)
    (take_onward (format_of p) p.terms.outbound p.sender v e.receiver back out m.coming s h takes.receiver takes.takes)
