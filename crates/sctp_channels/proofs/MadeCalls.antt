-- What the user's calls make: an OPEN, the ACK that is due and the content, a reset; and what calls make that are passed on.
use Rattle.std.proofs.Common.{◌≡◌, ◌⊎◌, ℕ, ◌<◌, ◌≤◌, true, false, [], length, Some, Ok, Err, inl, inr, refl, arith, sym, subst, ap, ◌∙◌, if◌then◌else◌}
use Rattle.std.proofs.lemmas.Bool.{cases_lt}
use Rattle.sctp_model.specs.end.EndView.{EndView}
use Rattle.sctp_model.specs.end.UserCalls.{SendAnswer, Ticket, Refused, NotOpen, send_answer, send_leaves, Begun, reset_leaves}
use Rattle.sctp_model.specs.world.World.{Side, World, end_of}
use Rattle.sctp_model.specs.world.Steps.{last_of}
use Rattle.sctp_association.specs.CallAnswers.{sent_view}
use Rattle.sctp_dcep.specs.Content.{Content}
use Rattle.sctp_channels.specs.declared.fault.OpenFault.TheVariants as opening
use Rattle.sctp_channels.specs.declared.fault.SendFault.TheVariants as sending
use Rattle.sctp_channels.specs.declared.fault.CloseFault.TheVariants as closing
use Rattle.sctp_channels.specs.declared.fault.ThresholdFault.TheVariants as threshold
use Rattle.sctp_channels.specs.declared.stream.Due.{Due}
use Rattle.sctp_channels.specs.declared.stream.Due.TheVariants.{Nothing, Acknowledgement, Reset}
use Rattle.sctp_channels.specs.declared.stream.State.TheVariants as state
use Rattle.sctp_channels.specs.declared.stream.Stream.{Stream}
use Rattle.sctp_channels.specs.Streams.{unused, may_send, with_channel, Table, stream_at, with_stream}
use Rattle.sctp_channels.specs.Buffered.{with_look, threshold_set}
use Rattle.sctp_channels.specs.Calling.{open_call, ack_call, content_call}
use Rattle.sctp_channels.specs.Settling.{Settled, without_due, acknowledged}
use Rattle.sctp_channels.specs.Answers.{is_ack_due, with_ack_sent, closing as close_kept}
use Rattle.sctp_channels.specs.Driven.{Moves, Opens, Answers, Says, Closes, Agrees, Sets, Rests}
use Rattle.sctp_channels.specs.Making.{Makes}
use Rattle.sctp_channels.specs.MadeByCalls.{NothingIsMade, OpensAreMade, NegotiatedAreMade, SendsAreMade, ClosesAreMade, ThresholdsAreMade}
use Rattle.sctp_channels.proofs.Promised.{beyond, at_same}
use Rattle.sctp_channels.proofs.SettlingLemmas.{settled_none}
use Rattle.sctp_channels.proofs.MadeLemmas.{makes_still, makes_nothing, makes_more, makes_send, makes_reset}
use Rattle.sctp_channels.proofs.MadeRuns.{noted_same}

-- ---- a call that changed nothing

pub nothing_is_made : NothingIsMade
nothing_is_made y w x c stands = record { view = end_of w y; table = x; makes = makes_nothing y w x; stands = stands; few = omega arith; noted = λ r all. all }

-- ---- open

pub opens_are_made : OpensAreMade
opens_are_made y w x p o (Ok s) c (ticket, choice, answers, stands) = record {
  view = sent_view (end_of w y) (open_call s p) (Ok ticket);
  table = with_stream x s (with_channel state.Connecting p.ordered p.reliability (stream_at x s));
  makes = makes_send y w x (open_call s p) (Ticket ticket.0) answers _ (Opens s ticket.0 p o choice);
  stands = stands;
  few = omega arith;
  noted = λ r all. noted_same (end_of w y) (sent_view (end_of w y) (open_call s p) (Ok ticket)) refl all;
}
opens_are_made y w x p o (Err (opening.Refused why)) c (s, choice, refused, stands) = nothing_is_made y w x c stands
opens_are_made y w x p o (Err opening.TooLong) c (choice, stands) = nothing_is_made y w x c stands
opens_are_made y w x p o (Err opening.OutOfRange) c (choice, stands) = nothing_is_made y w x c stands
opens_are_made y w x p o (Err opening.NoStream) c (choice, stands) = nothing_is_made y w x c stands
opens_are_made y w x p o (Err opening.WrongHalf) c (choice, stands) = nothing_is_made y w x c stands
opens_are_made y w x p o (Err opening.Used) c (choice, stands) = nothing_is_made y w x c stands

pub negotiated_are_made : NegotiatedAreMade
negotiated_are_made y w x ordered l s (Err fault) c (choice, stands) = nothing_is_made y w x c stands
negotiated_are_made y w x ordered l s (Ok _) c (choice, stands) = record {
  view = end_of w y;
  table = with_stream x s (with_channel state.Open ordered l (stream_at x s));
  makes = makes_still y w x [] _ (Agrees w x _ [] [] [] [] s s ordered l choice (Rests w _));
  stands = stands;
  few = omega arith;
  noted = λ r all. all;
}

-- ---- send

-- a stream on which may be sent is there
sends_there : (x : Table) (s : ℕ) → may_send (stream_at x s).state ≡ true → s < length x.streams
sends_there x s may = go (cases_lt s (length x.streams))
  where
    go : (s < length x.streams) ⊎ (length x.streams ≤ s) → s < length x.streams
    go (inl lt) = lt
    go (inr le) = absurd (let none = ap (λ (y : Stream). may_send y.state) (beyond x.streams s unused le) in cc)

module _ (y : Side) (w : World) (x : Table) (s : ℕ) where
  abbrev v : EndView
  v = end_of w y

  abbrev z : Stream
  z = stream_at x s

  -- the ACK was sent, if it was due, or is due still
  record AckMade (t : Settled) : Type 0 where
    makes : Makes y w x [] [] [] t.view (with_stream x s t.stream)
    state : t.stream.state ≡ z.state
    receiver : t.view.receiver ≡ v.receiver

  ack_sent : z.due ≡ Acknowledgement → (a : SendAnswer) → send_answer v (ack_call s) ≡ a → is_ack_due (acknowledged a v s z).stream.due ≡ false → AckMade (acknowledged a v s z)
  ack_sent due (Ticket t) is free = record { makes = makes_send y w x (ack_call s) (Ticket t) is (with_stream x s (without_due z)) (Answers s t due); state = refl; receiver = refl }
  ack_sent due (Refused why) is free = absurd (let apart : true ≡ false = sym (ap is_ack_due due) ∙ free in cc apart)
  ack_sent due NotOpen is free = absurd (let apart : true ≡ false = sym (ap is_ack_due due) ∙ free in cc apart)

  ack_made : is_ack_due (with_ack_sent v s z).stream.due ≡ false → AckMade (with_ack_sent v s z)
  ack_made free = go z.due refl free
    where
      none : AckMade (record { view = v; stream = z })
      none = record { makes = subst (λ (q : Table). Makes y w x [] [] [] v q) (sym (settled_none x s)) (makes_nothing y w x); state = refl; receiver = refl }

      go : (d : Due) → z.due ≡ d → is_ack_due (if is_ack_due d then acknowledged (send_answer v (ack_call s)) v s z else record { view = v; stream = z }).stream.due ≡ false →
          AckMade (if is_ack_due d then acknowledged (send_answer v (ack_call s)) v s z else record { view = v; stream = z })
      go Nothing is free = none
      go Acknowledgement is free = ack_sent is (send_answer v (ack_call s)) refl free
      go Reset is free = none

  -- and then a content
  content_made : (now : ℕ) (k : Content) (t : Settled) → AckMade t → may_send z.state ≡ true → (ticket : ℕ) → send_answer t.view (content_call s t.stream now k) ≡ Ticket ticket →
      Makes y w x [] [] [] (send_leaves (Ticket ticket) t.view (content_call s t.stream now k))
      (with_look (send_leaves (Ticket ticket) t.view (content_call s t.stream now k)) s (with_stream x s t.stream))
  content_made now k t a may ticket answers =
      makes_more y w x [] [] [] [] [] [] t.view (sends t.view) q (with_look (sends t.view) s q) a.makes
      (subst (λ (e : EndView). Makes y w1 q [] [] [] (sends e) (with_look (sends e) s q)) a.makes.here
      (makes_send y w1 q (content_call s t.stream now k) (Ticket ticket) (subst (λ (e : EndView). send_answer e (content_call s t.stream now k) ≡ Ticket ticket) (sym a.makes.here) answers)
      (with_look (sends (end_of w1 y)) s q)
      (subst (λ (kept : Stream). Moves y (end_of w1 y) (sends (end_of w1 y)) q (Rattle.sctp_model.specs.world.Events.Send y (content_call s kept now k))
      (Some (Rattle.sctp_model.specs.world.Events.Told (Ticket ticket))) [] (with_look (sends (end_of w1 y)) s q)) there
      (Says s ticket now k (ap (λ (kept : Stream). may_send kept.state) there ∙ ap may_send a.state ∙ may)))))
    where
      q : Table
      q = with_stream x s t.stream

      w1 : World
      w1 = last_of w a.makes.worlds

      sends : EndView → EndView
      sends e = send_leaves (Ticket ticket) e (content_call s t.stream now k)

      there : stream_at q s ≡ t.stream
      there = at_same x s t.stream (sends_there x s may)

pub sends_are_made : SendsAreMade
sends_are_made y w x now s k (Ok ticket) c (may, free, answers, stands) =
    let t = with_ack_sent (end_of w y) s (stream_at x s) in
    let a = ack_made y w x s free in
    let u = send_leaves (Ticket ticket.0) t.view (content_call s t.stream now k) in
    record {
      view = u;
      table = with_look u s (with_stream x s t.stream);
      makes = content_made y w x s now k t a may ticket.0 answers;
      stands = stands;
      few = omega arith;
      noted = λ r all. noted_same (end_of w y) u a.receiver all;
    }
sends_are_made y w x now s k (Err sending.NoChannel) c (may, stands) = nothing_is_made y w x c stands
sends_are_made y w x now s k (Err (sending.Refused why)) c (may, inl (refused, stands)) = nothing_is_made y w x c stands
sends_are_made y w x now s k (Err (sending.Refused why)) c (may, inr (free, refused, stands)) =
    let t = with_ack_sent (end_of w y) s (stream_at x s) in
    let a = ack_made y w x s free in
    record { view = t.view; table = with_stream x s t.stream; makes = a.makes; stands = stands; few = omega arith; noted = λ r all. noted_same (end_of w y) t.view a.receiver all }

-- ---- close

pub closes_are_made : ClosesAreMade
closes_are_made y w x s (Ok _) c (may, answers, stands) = record {
  view = reset_leaves Begun (end_of w y) s;
  table = with_stream x s (close_kept (stream_at x s));
  makes = makes_reset y w x s Begun answers _ (Closes s may);
  stands = stands;
  few = omega arith;
  noted = λ r all. noted_same (end_of w y) (reset_leaves Begun (end_of w y) s) refl all;
}
closes_are_made y w x s (Err closing.NoChannel) c (may, stands) = nothing_is_made y w x c stands
closes_are_made y w x s (Err (closing.Refused why)) c (may, answers, stands) = nothing_is_made y w x c stands

-- ---- the low threshold

pub thresholds_are_made : ThresholdsAreMade
thresholds_are_made y w x s n (Ok _) c (may, stands) = record {
  view = end_of w y;
  table = threshold_set (end_of w y) s n x;
  makes = makes_still y w x [] _ (Sets w x _ [] [] [] [] s n may (Rests w _));
  stands = stands;
  few = omega arith;
  noted = λ r all. all;
}
thresholds_are_made y w x s n (Err threshold.NoChannel) c (may, stands) = nothing_is_made y w x c stands
thresholds_are_made y w x s n (Err threshold.NoMemory) c (may, stands) = nothing_is_made y w x c stands
