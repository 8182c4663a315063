-- How often a side resets a stream of its own, beside the resets of its peer's that are reported to it: once more at most, since a channel is closed between two.
use Rattle.std.proofs.Common.{◌≡◌, ◌⊎◌, ℕ, zero, suc, ◌+◌, ◌-◌, ◌<◌, ◌≤◌, ◌==◌, ◌&&◌, not, nat_le, Bool, true, false, List, [], ◌∷◌, length, Option, Some, None, Ok, inl, inr, refl, sym, subst, ap, ◌∙◌, arith, if◌then◌else◌}
use Rattle.std.specs.Prelude.{max, is_some, replicate, slice_index_or, Result, Err}
use Rattle.std.proofs.lemmas.Bool.{and_parts, cases_lt}
use Rattle.std.proofs.lemmas.Bool.Decides.{nat_tests}
use Rattle.sctp_model.specs.receiver.ReceiverView.{Handed}
use Rattle.sctp_model.specs.end.EndView.{Phase, EndView, Idle, Listening, Calling, Echoing, Open, Over, Ended, ended_of}
use Rattle.sctp_model.specs.world.World.{Side, A, B, World, end_of}
use Rattle.sctp_model.specs.world.Events.{Event, Send, Take, Reset, WasReset, Outcome, Done, NoSuchReset, ResetThere}
use Rattle.sctp_model.specs.world.Steps.{Step, PassesThrough, last_of}
use Rattle.sctp_safety.specs.States.{IsPath}
use Rattle.sctp_safety.proofs.machine.DiagramRuns.{IsFresh, step_onward, from_over}
use Rattle.sctp_outcomes.specs.Users.{same_side}
use Rattle.sctp_outcomes.specs.Parted.{is_reset as resets_it, is_reported, one_if}
use Rattle.sctp_outcomes.proofs.users.AllReported.{IsAccepted, reset_shuts}
use Rattle.sctp_outcomes.proofs.users.AllReported as accepting
use Rattle.sctp_dcep.specs.Content.{Content, DCEP, content_of}
use Rattle.sctp_dcep.specs.Dcep.{Reliability, Parameters, Control, Opens, Acknowledges, Faulty, control_of}
use Rattle.sctp_channels.specs.declared.stream.Due.{Due}
use Rattle.sctp_channels.specs.declared.stream.Due.TheVariants as due
use Rattle.sctp_channels.specs.declared.stream.Resets.{Resets}
use Rattle.sctp_channels.specs.declared.stream.Resets.TheVariants.{Zero, One, Two}
use Rattle.sctp_channels.specs.declared.stream.State.{State}
use Rattle.sctp_channels.specs.declared.stream.State.TheVariants as state
use Rattle.sctp_channels.specs.declared.stream.Stream.{Stream}
use Rattle.sctp_channels.specs.declared.table.DtlsRole.{DtlsRole}
use Rattle.sctp_channels.specs.declared.fault.OpenFault.{OpenFault}
use Rattle.sctp_channels.specs.declared.fault.OpenFault.TheVariants.{TooLong, OutOfRange, NoStream, WrongHalf as OwnHalf, Used}
use Rattle.sctp_channels.specs.Streams.{unused, is_unused, has_channel, is_silent, may_send, is_reset, is_reset_again, is_free, is_drained, with_channel, is_own, Table, stream_at, with_stream, first_from}
use Rattle.sctp_channels.specs.Told.{Refusal, WrongHalf, NoWayBack, Incoming, Report}
use Rattle.sctp_channels.specs.Coming.{After, tells, refuses, begins, opens_channel, with_ack, control_comes, content_comes, other_comes, data_comes, Said, OfDcep, OfChannel, said_in, comes_saying, comes, half_closed, leaving, one_taken, heard, peer_resets, left_over}
use Rattle.sctp_channels.specs.Calling.{outgoing, both_ways, is_too_long, is_out_of_range, own_stream, found_stream, stream_for, open_choice, negotiated_choice}
use Rattle.sctp_channels.specs.Settling.{without_due, is_asked, is_closed, is_closing, is_resetting_out, is_gone}
use Rattle.sctp_channels.specs.Events.{Reported, quiet, reports_closed, reports_low, reports_taken, reports_waiting, reports_message, next_report, with_left_over, with_reset}
use Rattle.sctp_channels.specs.Driven.{is_call, closes, Moves, Elsewhere, Fails, Takes, Notes, NotesNone, Opens as OpensIt, Answers, Says, Refuses, IsNotOpen, Closes, Resets as ResetsIt, ResetsNone, Driven, Rests, Goes, Tells, Agrees, Sets, Frees}
use Rattle.sctp_channels.proofs.Promised.{comes_keeps, left_is, report_cases, beyond, at_same, at_other, same_or_not}
use Rattle.sctp_channels.proofs.SpanLemmas.{unused_there}
use Rattle.sctp_channels.proofs.Marks.{beyond_set}
use Rattle.sctp_channels.proofs.MadeLemmas.{own_side}

-- ---- one stream

-- this side resets its half, or has reset it
abbrev pub is_shut : State → Bool
is_shut state.Unused = false
is_shut state.Connecting = false
is_shut state.Unanswered = false
is_shut state.Open = false
is_shut state.Closing = true
is_shut state.Refused = true
is_shut state.Silent = true

-- it has asked for that
abbrev pub has_asked : Stream → Bool
has_asked z = is_shut z.state && is_asked z.due

-- how many resets of the peer's are noted
abbrev pub marks_of : Resets → ℕ
marks_of Zero = 0
marks_of One = 1
marks_of Two = 2

-- What was asked for is so still, what is due is of a stream that is being shut, and a channel stays.
pub record Follows (x z : Stream) : Type 0 where
  pub asked : has_asked x ≡ true → has_asked z ≡ true
  pub due : (x.due ≡ due.Reset → is_shut x.state ≡ true) → z.due ≡ due.Reset → is_shut z.state ≡ true
  pub channel : has_channel x.state ≡ true → has_channel z.state ≡ true

pub follows_same : (x : Stream) → Follows x x
follows_same x = record { asked = λ on. on; due = λ h. h; channel = λ on. on }

follows_on : (x z u : Stream) → Follows x z → Follows z u → Follows x u
follows_on x z u a b = record { asked = λ on. b.asked (a.asked on); due = λ h is. b.due (a.due h) is; channel = λ on. b.channel (a.channel on) }

-- an open one isn't shut
not_asked : (x : Stream) → is_shut x.state ≡ false → has_asked x ≡ true → ⊥
not_asked x off on = let both = and_parts (is_shut x.state) (is_asked x.due) on in let yes = both.0 in cc (off, yes)

-- one that is shut now: there was no channel, or it is closed
follows_shut : (x z : Stream) → is_shut x.state ≡ false → is_shut z.state ≡ true → (has_channel x.state ≡ true → has_channel z.state ≡ true) → Follows x z
follows_shut x z off on channel = record { asked = λ asked. absurd (not_asked x off asked); due = λ h is. on; channel = channel }

-- one of which nothing is to be reset
follows_undue : (x z : Stream) → is_shut x.state ≡ false → (z.due ≡ due.Reset → ⊥) → (has_channel x.state ≡ true → has_channel z.state ≡ true) → Follows x z
follows_undue x z off none channel = record { asked = λ asked. absurd (not_asked x off asked); due = λ h is. absurd (none is); channel = channel }

-- one in another state with a channel, with the same due
follows_state : (x : Stream) (t : State) → is_shut x.state ≡ false → has_channel t ≡ true → Follows x (record x { state = t })
follows_state x t off there = record { asked = λ asked. absurd (not_asked x off asked); due = λ h is. absurd (let on = h is in cc (off, on)); channel = λ on. there }

-- no channel was there
none_there : {A : Type 0} (x : Stream) → x.state ≡ state.Unused → has_channel x.state ≡ true → A
none_there x is on = absurd (let off = ap has_channel is in cc (on, off))

off_by : (x : Stream) (t : State) → x.state ≡ t → is_shut t ≡ false → is_shut x.state ≡ false
off_by x t is off = ap is_shut is ∙ off

-- ---- a message

ack_follows : (x : Stream) (ack : After) (k : Control) → Follows x ack.stream → Follows x (with_ack ack k x).stream
ack_follows x ack (Opens p) h = follows_same x
ack_follows x ack Acknowledges h = h
ack_follows x ack (Faulty w) h = follows_same x

begins_follows : (role : DtlsRole) (o s : ℕ) (p : Parameters) (x : Stream) → x.state ≡ state.Unused → Follows x (begins role o s p x).stream
begins_follows role o s p x is = go (is_own role s) (nat_le o s)
  where
    off : is_shut x.state ≡ false
    off = off_by x state.Unused is refl

    go : (a b : Bool) → Follows x (if a then refuses WrongHalf x else if b then refuses NoWayBack x else tells (Incoming p) (record (with_channel state.Open p.ordered p.reliability x) { due = due.Acknowledgement })).stream
    go true b = follows_shut x _ off refl (none_there x is)
    go false true = follows_shut x _ off refl (none_there x is)
    go false false = follows_undue x _ off (λ reset. cc reset) (λ on. refl)

control_follows : (role : DtlsRole) (o s : ℕ) (t : State) (k : Control) (x : Stream) → x.state ≡ t → Follows x (control_comes role o s t k x).stream
control_follows role o s state.Unused (Opens p) x is = begins_follows role o s p x is
control_follows role o s state.Unused Acknowledges x is = follows_same x
control_follows role o s state.Unused (Faulty w) x is = follows_shut x _ (off_by x state.Unused is refl) refl (none_there x is)
control_follows role o s state.Connecting k x is = ack_follows x _ k (follows_state x state.Open (off_by x state.Connecting is refl) refl)
control_follows role o s state.Unanswered k x is = ack_follows x _ k (follows_state x state.Open (off_by x state.Unanswered is refl) refl)
control_follows role o s state.Open k x is = ack_follows x _ k (follows_same x)
control_follows role o s state.Closing k x is = follows_same x
control_follows role o s state.Refused k x is = follows_same x
control_follows role o s state.Silent k x is = follows_same x

content_follows : (t : State) (c : Content) (x : Stream) → x.state ≡ t → Follows x (content_comes t c x).stream
content_follows state.Unused c x is = follows_same x
content_follows state.Connecting c x is = follows_state x state.Unanswered (off_by x state.Connecting is refl) refl
content_follows state.Unanswered c x is = follows_same x
content_follows state.Open c x is = follows_same x
content_follows state.Closing c x is = follows_same x
content_follows state.Refused c x is = follows_same x
content_follows state.Silent c x is = follows_same x

other_follows : (t : State) (x : Stream) → Follows x (other_comes t x).stream
other_follows state.Unused x = follows_same x
other_follows state.Connecting x = follows_same x
other_follows state.Unanswered x = follows_same x
other_follows state.Open x = follows_same x
other_follows state.Closing x = follows_same x
other_follows state.Refused x = follows_same x
other_follows state.Silent x = follows_same x

pub comes_follows : (role : DtlsRole) (o s : ℕ) (h : Handed) (x : Stream) → Follows x (comes role o s h x).stream
comes_follows role o s h x = go (said_in h)
  where
    go : (y : Said) → Follows x (comes_saying role o s y x).stream
    go (OfDcep k) = control_follows role o s x.state k x refl
    go (OfChannel (Some c)) = content_follows x.state c x refl
    go (OfChannel None) = other_follows x.state x

-- ---- the peer's half

half_follows : (t : State) (x : Stream) → x.state ≡ t → Follows x (half_closed t x)
half_follows state.Unused x is = follows_shut x _ (off_by x state.Unused is refl) refl (none_there x is)
half_follows state.Connecting x is = follows_shut x _ (off_by x state.Connecting is refl) refl (λ on. refl)
half_follows state.Unanswered x is = follows_shut x _ (off_by x state.Unanswered is refl) refl (λ on. refl)
half_follows state.Open x is = follows_shut x _ (off_by x state.Open is refl) refl (λ on. refl)
half_follows state.Closing x is = follows_same x
half_follows state.Refused x is = record { asked = λ on. (and_parts (is_shut x.state) (is_asked x.due) on).1; due = λ h there. refl; channel = λ on. absurd (let off = ap has_channel is in cc (on, off)) }
half_follows state.Silent x is = follows_same x

-- another mark
remarked : (x : Stream) (left again : ℕ) (r : Resets) → Follows x (record x { left = left; again = again; resets = r })
remarked x left again r = record { asked = λ on. on; due = λ h. h; channel = λ on. on }

leaving_follows : (k : ℕ) (x : Stream) → Follows x (leaving k x)
leaving_follows k x = go (k == 0)
  where
    go : (b : Bool) → Follows x (if b then half_closed x.state (record x { left = 0 }) else record x { left = k })
    go true = follows_on x (record x { left = 0 }) (half_closed x.state (record x { left = 0 })) (remarked x 0 x.again x.resets) (half_follows x.state (record x { left = 0 }) refl)
    go false = remarked x k x.again x.resets

one_follows : (x : Stream) → Follows x (one_taken x)
one_follows x = go (is_reset x.resets)
  where
    go : (b : Bool) → Follows x (if b then leaving (x.left - 1) (record x { again = x.again - 1 }) else x)
    go true = follows_on x (record x { again = x.again - 1 }) _ (remarked x x.left (x.again - 1) x.resets) (leaving_follows (x.left - 1) (record x { again = x.again - 1 }))
    go false = follows_same x

one_resets : (x : Stream) → (one_taken x).resets ≡ x.resets
one_resets x = go (is_reset x.resets)
  where
    go : (b : Bool) → (if b then leaving (x.left - 1) (record x { again = x.again - 1 }) else x).resets ≡ x.resets
    go true = (left_is (x.left - 1) (record x { again = x.again - 1 })).1
    go false = refl

pub heard_follows : (x : Stream) (a : After) → Follows x a.stream → Follows x (heard a)
heard_follows x a h = go a.taken
  where
    go : (b : Bool) → Follows x (if b then one_taken a.stream else a.stream)
    go true = follows_on x a.stream (one_taken a.stream) h (one_follows a.stream)
    go false = h

heard_resets : (a : After) → (heard a).resets ≡ a.stream.resets
heard_resets a = go a.taken
  where
    go : (b : Bool) → (if b then one_taken a.stream else a.stream).resets ≡ a.stream.resets
    go true = one_resets a.stream
    go false = refl

pub peer_follows : (k : ℕ) (x : Stream) → Follows x (peer_resets k x)
peer_follows k x = go (is_reset x.resets)
  where
    go : (b : Bool) → Follows x (if b then record x { again = max x.left k; resets = Two } else leaving k (record x { resets = One }))
    go true = remarked x x.left (max x.left k) Two
    go false = follows_on x (record x { resets = One }) _ (remarked x x.left x.again One) (leaving_follows k (record x { resets = One }))

-- ---- what is counted

-- So many resets of this side's were accepted, and so many of its peer's reported to it. Of those some were passed, by what was closed; the others are noted. While the association
-- lives each accepted one was before a closing, but one.
pub record Tally (accepted reported : ℕ) (Lives : Type 0) (z : Stream) : Type 0 where
  pub passed : ℕ
  pub marks : passed + marks_of z.resets ≤ reported
  pub most : accepted ≤ passed + 1
  pub lives : Lives → accepted ≤ passed + one_if (has_asked z)
  pub due : z.due ≡ due.Reset → is_shut z.state ≡ true

module _ (a r : ℕ) (L : Type 0) where
  pub tally_follows : (x z : Stream) → z.resets ≡ x.resets → Follows x z → Tally a r L x → Tally a r L z
  tally_follows x z resets f t = record {
    passed = t.passed;
    marks = let m = t.marks in let e = ap marks_of resets in omega (arith, m, e);
    most = t.most;
    lives = λ l. by (has_asked x) refl (t.lives l);
    due = f.due t.due;
  }
    where
      by : (b : Bool) → has_asked x ≡ b → a ≤ t.passed + one_if b → a ≤ t.passed + one_if (has_asked z)
      by true on low = let e : one_if (has_asked z) ≡ 1 = ap one_if (f.asked on) in let one : one_if true ≡ 1 = refl in omega (arith, low, e, one)
      by false off low = let none : one_if false ≡ 0 = refl in omega (arith, low, none)

  -- a reset of the peer's is noted
  pub tally_noted : (x : Stream) (k : ℕ) → Tally a r L x → Tally a (r + 1) L (peer_resets k x)
  unfolding tally_follows
  tally_noted x k t = go x.resets refl
    where
      more : (z : Stream) → Follows x z → t.passed + marks_of z.resets ≤ r + 1 → Tally a (r + 1) L z
      more z f marks = record {
        passed = t.passed;
        marks = marks;
        most = t.most;
        lives = λ l. (tally_follows x (record z { resets = x.resets }) refl (follows_on x z _ f (remarked z z.left z.again x.resets)) t).lives l;
        due = f.due t.due;
      }

      low : (s : Resets) → x.resets ≡ s → t.passed + marks_of s ≤ r
      low s is = let m = t.marks in let e = ap marks_of is in omega (arith, m, e)

      first : Follows x (leaving k (record x { resets = One }))
      first = follows_on x (record x { resets = One }) _ (remarked x x.left x.again One) (leaving_follows k (record x { resets = One }))

      go : (s : Resets) → x.resets ≡ s → Tally a (r + 1) L (if is_reset s then record x { again = max x.left k; resets = Two } else leaving k (record x { resets = One }))
      go Zero is = more _ first (let m = low Zero is in let e : marks_of (leaving k (record x { resets = One })).resets ≡ 1 = ap marks_of (left_is k (record x { resets = One })).1 in omega (arith, m, e))
      go One is = more _ (remarked x x.left (max x.left k) Two) (let m = low One is in omega (arith, m))
      go Two is = more _ (remarked x x.left (max x.left k) Two) (let m = low Two is in omega (arith, m))

  -- it is closed
  pub tally_left : (x : Stream) → (is_reset x.resets ≡ true) ⊎ (L → ⊥) → Tally a r L x → Tally a r L (left_over x)
  tally_left x how t = go x.resets refl how
    where
      one_at_most : (b : Bool) → one_if b ≤ 1
      one_at_most true = omega arith
      one_at_most false = omega arith

      none_due : unused.due ≡ due.Reset → is_shut unused.state ≡ true
      none_due is = absurd (cc is)

      again : Stream
      again = leaving x.again (record unused { resets = One })

      again_due : again.due ≡ due.Reset → is_shut again.state ≡ true
      again_due = (leaving_follows x.again (record unused { resets = One })).due (λ is. absurd (cc is))

      go : (s : Resets) → x.resets ≡ s → (is_reset s ≡ true) ⊎ (L → ⊥) → Tally a r L (if is_reset_again s then peer_resets x.again unused else unused)
      go Zero is (inl on) = absurd (cc on)
      go Zero is (inr over) = record { passed = t.passed; marks = let m = t.marks in omega (arith, m); most = t.most; lives = λ l. absurd (over l); due = none_due }
      go One is any = record {
        passed = t.passed + 1;
        marks = let m = t.marks in let e = ap marks_of is in omega (arith, m, e);
        most = let m = t.most in omega (arith, m);
        lives = λ l. let low = t.lives l in let k = one_at_most (has_asked x) in omega (arith, low, k);
        due = none_due;
      }
      go Two is any = record {
        passed = t.passed + 1;
        marks = let m = t.marks in let e = ap marks_of is in let k : marks_of again.resets ≡ 1 = ap marks_of (left_is x.again (record unused { resets = One })).1 in omega (arith, m, e, k);
        most = let m = t.most in omega (arith, m);
        lives = λ l. let low = t.lives l in let k = one_at_most (has_asked x) in omega (arith, low, k);
        due = again_due;
      }

  -- its reset is accepted
  pub tally_accepted : (x z : Stream) → L → z.resets ≡ x.resets → has_asked x ≡ false → has_asked z ≡ true → (z.due ≡ due.Reset → ⊥) → Tally a r L x → Tally (a + 1) r L z
  tally_accepted x z l resets off on none t =
      let low : a ≤ t.passed = (let k = t.lives l in let e : one_if (has_asked x) ≡ 0 = ap one_if off in omega (arith, k, e)) in
      record {
        passed = t.passed;
        marks = let m = t.marks in let e = ap marks_of resets in omega (arith, m, e);
        most = omega (arith, low);
        lives = λ q. let e : one_if (has_asked z) ≡ 1 = ap one_if on in omega (arith, low, e);
        due = λ is. absurd (none is);
      }

-- by other counts that are no less
pub tally_at : (a b r q : ℕ) (L M : Type 0) (z : Stream) → b ≡ a → r ≤ q → (M → L) → Tally a r L z → Tally b q M z
tally_at a b r q L M z same more live t = record {
  passed = t.passed;
  marks = let m = t.marks in omega (arith, m, more);
  most = let m = t.most in omega (arith, m, same);
  lives = λ l. let m = t.lives (live l) in omega (arith, m, same);
  due = t.due;
}

-- ---- a table

-- one stream of it is changed
pub put_at : (P : Stream → Type 0) (x : Table) (i n : ℕ) (z : Stream) → (i ≡ n → n < length x.streams → P z) → (((n ≡ i → ⊥) ⊎ (length x.streams ≤ n)) → P (stream_at x n)) → P (stream_at (with_stream x i z) n)
put_at P x i n z here there = go (same_or_not i n)
  where
    own : (n < length x.streams) ⊎ (length x.streams ≤ n) → i ≡ n → P (stream_at (with_stream x n z) n)
    own (inl lt) e = subst P (sym (at_same x n z lt)) (here e lt)
    own (inr le) e = subst P (beyond x.streams n unused le ∙ sym (beyond_set x.streams n z unused le)) (there (inr le))

    go : (i ≡ n) ⊎ (n ≡ i → ⊥) → P (stream_at (with_stream x i z) n)
    go (inl e) = subst (λ (j : ℕ). P (stream_at (with_stream x j z) n)) (sym e) (own (cases_lt n (length x.streams)) e)
    go (inr ne) = subst P (sym (at_other x i n z ne)) (there (inl ne))

-- a channel is opened on a stream that is free
found_free : (test : ℕ → Bool) (i many s : ℕ) → first_from test i many ≡ Some s → test s ≡ true
found_free test i zero s is = absurd (cc)
found_free test i (suc m) s is = go (test i) refl is (λ further. found_free test (suc i) m s further)
  where
    go : (b : Bool) → test i ≡ b → (if b then Some i else first_from test (suc i) m) ≡ Some s → (first_from test (suc i) m ≡ Some s → test s ≡ true) → test s ≡ true
    go true on here further = let e : i ≡ s = cc here in subst (λ (k : ℕ). test k ≡ true) e on
    go false off here further = further here

ok_is : (t s : ℕ) → ◌≡◌ {A = Result ℕ OpenFault} (Ok t) (Ok s) → t ≡ s
ok_is t s is = cc is

free_by : (x : Table) (t s : ℕ) (b : Bool) → is_free (stream_at x t) ≡ b → (if b then Ok t else Err Used) ≡ Ok s → is_free (stream_at x s) ≡ true
free_by x t s true free is = subst (λ (k : ℕ). is_free (stream_at x k) ≡ true) (ok_is t s is) free
free_by x t s false off is = absurd (cc is)

own_free : (v : EndView) (x : Table) (t s : ℕ) → own_stream v x t ≡ Ok s → is_free (stream_at x s) ≡ true
own_free v x t s is = go (nat_le (both_ways v x) t) (not (is_own x.role t)) is
  where
    go : (a b : Bool) → (if a then Err NoStream else if b then Err OwnHalf else if is_free (stream_at x t) then Ok t else Err Used) ≡ Ok s → is_free (stream_at x s) ≡ true
    go true b here = absurd (cc here)
    go false true here = absurd (cc here)
    go false false here = free_by x t s (is_free (stream_at x t)) refl here

pub chosen_free : (v : EndView) (x : Table) (p : Parameters) (o : Option ℕ) (s : ℕ) → open_choice v x p o ≡ Ok s → is_free (stream_at x s) ≡ true
chosen_free v x p o s is = go (is_too_long p) (is_out_of_range p.reliability) is
  where
    found : (q : Option ℕ) → first_from (λ t. is_own x.role t && is_free (stream_at x t)) 0 (both_ways v x) ≡ q → found_stream q ≡ Ok s → is_free (stream_at x s) ≡ true
    found (Some t) there here =
        let e = ok_is t s here in
        (and_parts (is_own x.role s) (is_free (stream_at x s)) (found_free (λ k. is_own x.role k && is_free (stream_at x k)) 0 (both_ways v x) s (there ∙ ap (λ (k : ℕ). Some k) e))).1
    found None there here = absurd (cc here)

    by : (o : Option ℕ) → stream_for v x o ≡ Ok s → is_free (stream_at x s) ≡ true
    by (Some t) here = own_free v x t s here
    by None here = found (first_from (λ t. is_own x.role t && is_free (stream_at x t)) 0 (both_ways v x)) refl here

    go : (a b : Bool) → (if a then Err TooLong else if b then Err OutOfRange else stream_for v x o) ≡ Ok s → is_free (stream_at x s) ≡ true
    go true b here = absurd (cc here)
    go false true here = absurd (cc here)
    go false false here = by o here

pub agreed_free : (v : EndView) (x : Table) (l : Reliability) (t s : ℕ) → negotiated_choice v x l t ≡ Ok s → is_free (stream_at x s) ≡ true
agreed_free v x l t s is = go (is_out_of_range l) (nat_le (both_ways v x) t) is
  where
    go : (a b : Bool) → (if a then Err OutOfRange else if b then Err NoStream else if is_free (stream_at x t) then Ok t else Err Used) ≡ Ok s → is_free (stream_at x s) ≡ true
    go true b here = absurd (cc here)
    go false true here = absurd (cc here)
    go false false here = free_by x t s (is_free (stream_at x t)) refl here

-- it isn't shut
unused_open : (t : State) → is_unused t ≡ true → is_shut t ≡ false
unused_open state.Unused on = refl
unused_open state.Connecting on = absurd (cc on)
unused_open state.Unanswered on = absurd (cc on)
unused_open state.Open on = absurd (cc on)
unused_open state.Closing on = absurd (cc on)
unused_open state.Refused on = absurd (cc on)
unused_open state.Silent on = absurd (cc on)

unused_none : (t : State) → is_unused t ≡ true → has_channel t ≡ true → ⊥
unused_none state.Unused on there = cc there
unused_none state.Connecting on there = cc on
unused_none state.Unanswered on there = cc on
unused_none state.Open on there = cc on
unused_none state.Closing on there = cc on
unused_none state.Refused on there = cc on
unused_none state.Silent on there = cc on

pub sending_open : (t : State) → may_send t ≡ true → is_shut t ≡ false
sending_open state.Unused on = absurd (cc on)
sending_open state.Connecting on = refl
sending_open state.Unanswered on = refl
sending_open state.Open on = refl
sending_open state.Closing on = absurd (cc on)
sending_open state.Refused on = absurd (cc on)
sending_open state.Silent on = absurd (cc on)

pub free_follows : (x : Stream) (t : State) (ordered : Bool) (l : Reliability) → is_free x ≡ true → Follows x (with_channel t ordered l x)
free_follows x t ordered l free =
    let off = unused_open x.state (and_parts (is_unused x.state) (not (is_reset x.resets)) free).0 in
    record { asked = λ on. absurd (not_asked x off on); due = λ h is. absurd (let on = h is in cc (off, on)); channel = λ on. absurd (unused_none x.state (and_parts (is_unused x.state) (not (is_reset x.resets)) free).0 on) }

pub undue_follows : (x : Stream) → Follows x (without_due x)
undue_follows x = record { asked = λ on. let shut = (and_parts (is_shut x.state) (is_asked x.due) on).0 in rw shut refl; due = λ h is. absurd (cc is); channel = λ on. on }

drained_reset : (x : Stream) → is_drained x ≡ true → is_reset x.resets ≡ true
drained_reset x on = (and_parts (is_reset x.resets) (x.left == 0) on).0

closed_reset : (v : EndView) (x : Table) (i : ℕ) → is_closed v x i ≡ true → is_reset (stream_at x i).resets ≡ true
closed_reset v x i on =
    let y = stream_at x i in
    drained_reset y (and_parts (is_drained y) (is_asked y.due && not (is_resetting_out v i)) (and_parts (is_closing y.state) (is_drained y && (is_asked y.due && not (is_resetting_out v i))) on).1).0

pub gone_reset : (v : EndView) (x : Table) (i : ℕ) → is_gone v x i ≡ true → (is_silent (stream_at x i).state ≡ true) × (is_drained (stream_at x i) ≡ true)
gone_reset v x i on =
    let y = stream_at x i in
    let both = and_parts (is_silent y.state) (is_drained y && (is_asked y.due && not (is_resetting_out v i))) on in
    (both.0, (and_parts (is_drained y) (is_asked y.due && not (is_resetting_out v i)) both.1).0)

-- ---- what is told next

abbrev pub Lives : EndView → Type 0
Lives v = ended_of v.phase ≡ None

lives_back : (h k : Phase) → IsPath h k → ended_of k ≡ None → ended_of h ≡ None
lives_back Idle k path lives = refl
lives_back Listening k path lives = refl
lives_back (Calling d) k path lives = refl
lives_back (Echoing t xs) k path lives = refl
lives_back (Open t g) k path lives = refl
lives_back (Over why) k path lives = absurd (let is = ap ended_of (from_over (Over why) k why refl path) in cc (is, lives))

-- an end that lives lived before
pub lived : (y : Side) (w : World) (e : Event) (o : Option Outcome) (v : World) → IsFresh w → Step w e o v → Lives (end_of v y) → Lives (end_of w y)
lived y w e o v fresh step lives = lives_back (end_of w y).phase (end_of v y).phase ((step_onward w e o v fresh step).later y).path lives

module _ (n a r : ℕ) (v : EndView) (x : Table) (t : Tally a r (Lives v) (stream_at x n)) where
  own_there : (i : ℕ) → i ≡ n → Tally a r (Lives v) (stream_at x i)
  own_there i e = subst (λ (j : ℕ). Tally a r (Lives v) (stream_at x j)) (sym e) t

  left_there : (i : ℕ) → (is_reset (stream_at x i).resets ≡ true) ⊎ (Lives v → ⊥) → Tally a r (Lives v) (stream_at (with_left_over x i) n)
  left_there i how = put_at (Tally a r (Lives v)) x i n (left_over (stream_at x i)) (λ e lt. tally_left a r (Lives v) (stream_at x i) how (own_there i e)) (λ off. t)

  heard_there : (i : ℕ) (k : After) → Follows (stream_at x i) k.stream → k.stream.resets ≡ (stream_at x i).resets → Tally a r (Lives v) (stream_at (with_stream x i (heard k)) n)
  heard_there i k f same = put_at (Tally a r (Lives v)) x i n (heard k)
      (λ e lt. tally_follows a r (Lives v) (stream_at x i) (heard k) (heard_resets k ∙ same) (heard_follows (stream_at x i) k f) (own_there i e)) (λ off. t)

  by_waiting : (i : ℕ) (hs : List Handed) → Tally a r (Lives v) (stream_at (reports_message i hs v x).table n)
  by_waiting i [] = t
  by_waiting i (h ∷ rest) = go k.taken
    where
      k : After
      k = comes x.role (outgoing v x) i h (stream_at x i)

      there : Tally a r (Lives v) (stream_at (with_stream x i (heard k)) n)
      there = heard_there i k (comes_follows x.role (outgoing v x) i h (stream_at x i)) (comes_keeps x.role (outgoing v x) i h (stream_at x i)).resets

      go : (b : Bool) → Tally a r (Lives v) (stream_at (if b then reports_taken i h rest k v x else reports_waiting i k v x).table n)
      go true = there
      go false = there

  over_not : is_some (ended_of v.phase) ≡ true → Lives v → ⊥
  over_not on lives = let off = ap is_some lives in cc (on, off)

  pub report_tally : Tally a r (Lives v) (stream_at (next_report v x).table n)
  report_tally = report_cases (λ (q : Reported). Tally a r (Lives v) (stream_at q.table n)) v x (λ i on. left_there i (inl (closed_reset v x i on))) (λ i. t)
      (λ i on. by_waiting i (v.receiver.waiting i)) t (λ i on. left_there i (inr (over_not on)))

-- ---- an event

call_is : (y : Side) (n : ℕ) (e : Event) → e ≡ Reset y n → is_call y e ≡ true
call_is y n e is = subst (λ (f : Event). is_call y f ≡ true) (sym is) (own_side y)

module _ (y : Side) (n : ℕ) where
  own_one : (s : ℕ) → s ≡ n → one_if (same_side y y && (n == s)) ≡ 1
  own_one s e = let side = own_side y in let number : (n == s) ≡ true = grind (arith, nat_tests, e) in rw (side, number) refl

  other_none : (s : ℕ) → (n ≡ s → ⊥) → one_if (same_side y y && (n == s)) ≡ 0
  other_none s ne = go (n == s) refl
    where
      by_side : (b : Bool) → one_if (b && false) ≡ 0
      by_side true = refl
      by_side false = refl

      go : (b : Bool) → (n == s) ≡ b → one_if (same_side y y && b) ≡ 0
      go true e = absurd (ne (grind (arith, nat_tests, e)))
      go false e = by_side (same_side y y)

  module _ (a r : ℕ) (w v : World) (x : Table) (t : Tally a r (Lives (end_of w y)) (stream_at x n)) (back : Lives (end_of v y) → Lives (end_of w y)) where
    abbrev pub Then : Event → Option Outcome → Table → Type 0
    Then e o z = Tally (a + one_if (resets_it y n e o)) (r + one_if (is_reported y n e o)) (Lives (end_of v y)) (stream_at z n)

    -- no reset is accepted, nor one noted
    plain : (e : Event) (o : Option Outcome) (z : Table) → resets_it y n e o ≡ false → Tally a r (Lives (end_of w y)) (stream_at z n) → Then e o z
    plain e o z off k =
        let none : one_if (resets_it y n e o) ≡ 0 = ap one_if off in
        tally_at a (a + one_if (resets_it y n e o)) r (r + one_if (is_reported y n e o)) _ _ (stream_at z n) (omega (arith, none)) (omega arith) back k

    -- a stream follows
    there_follows : (s : ℕ) (z : Stream) → z.resets ≡ (stream_at x s).resets → Follows (stream_at x s) z → Tally a r (Lives (end_of w y)) (stream_at (with_stream x s z) n)
    there_follows s z same f = put_at (Tally a r (Lives (end_of w y))) x s n z
        (λ e lt. tally_follows a r (Lives (end_of w y)) (stream_at x s) z same f (subst (λ (j : ℕ). Tally a r (Lives (end_of w y)) (stream_at x j)) (sym e) t)) (λ off. t)

    -- the reset of a stream that is there is accepted
    accepted_there : (s : ℕ) (z : Stream) → Step w (Reset y s) (Some Done) v → (length x.streams ≤ s → ⊥) → z.resets ≡ (stream_at x s).resets → has_asked (stream_at x s) ≡ false → (s ≡ n → has_asked z ≡ true) →
        (z.due ≡ due.Reset → ⊥) → Then (Reset y s) (Some Done) (with_stream x s z)
    accepted_there s z step is_there same off on none = go (same_or_not s n)
      where
        own : s ≡ n → Then (Reset y s) (Some Done) (with_stream x s z)
        own e = put_at (Tally (a + one_if (same_side y y && (n == s))) (r + 0) (Lives (end_of v y))) x s n z
            (λ _ lt. tally_at (a + 1) _ r (r + 0) (Lives (end_of w y)) (Lives (end_of v y)) z (let k = own_one s e in omega (arith, k)) (omega arith) back
            (tally_accepted a r (Lives (end_of w y)) (stream_at x s) z alive same off (on e) none (subst (λ (j : ℕ). Tally a r (Lives (end_of w y)) (stream_at x j)) (sym e) t)))
            (λ beside. absurd (elim beside [ inl ne ↦ ne (sym e) | inr le ↦ is_there (subst (λ (j : ℕ). length x.streams ≤ j) (sym e) le) ]))
          where
            alive : Lives (end_of w y)
            alive = (reset_shuts w (Reset y s) (Some Done) v step y n (let side = own_side y in let number : (n == s) ≡ true = grind (arith, nat_tests, e) in rw (side, number) refl)).alive

        go : (s ≡ n) ⊎ (n ≡ s → ⊥) → Then (Reset y s) (Some Done) (with_stream x s z)
        go (inl e) = own e
        go (inr ne) = subst (Tally (a + one_if (same_side y y && (n == s))) (r + 0) (Lives (end_of v y))) (sym (at_other x s n z ne))
            (tally_at a _ r (r + 0) (Lives (end_of w y)) (Lives (end_of v y)) (stream_at x n) (let k = other_none s ne in omega (arith, k)) (omega arith) back t)

    pub move_tally : (e : Event) (o : Option Outcome) (rs : List Report) (z : Table) → Step w e o v → Moves y (end_of w y) (end_of v y) x e o rs z → Then e o z
    move_tally e o rs z step (Elsewhere _ _ off) = plain e o x (quiet_reset (resets_it y n e o) refl) t
      where
        quiet_reset : (b : Bool) → resets_it y n e o ≡ b → resets_it y n e o ≡ false
        quiet_reset false is = is
        quiet_reset true on = absurd (let call = call_is y n e (reset_shuts w e o v step y n on).call in cc (call, off))
    move_tally e o rs z step (Fails _) = plain e None x (accepting.none_off e y n) t
    move_tally e o rs z step (Takes s h q is leaves untold) = plain e o z refl (report_tally n a r (end_of w y) x t)
    move_tally e o rs z step (Notes s k) = go (same_or_not s n)
      where
        go : (s ≡ n) ⊎ (n ≡ s → ⊥) → Then (WasReset y) (Some (ResetThere s k)) (with_reset s k x)
        go (inl same) = put_at (Tally (a + 0) (r + one_if (same_side y y && (n == s))) (Lives (end_of v y))) x s n (peer_resets k (stream_at x s))
            (λ _ lt. tally_at a (a + 0) (r + 1) _ (Lives (end_of w y)) (Lives (end_of v y)) (peer_resets k (stream_at x s)) (omega arith) (let m = own_one s same in omega (arith, m)) back
            (tally_noted a r (Lives (end_of w y)) (stream_at x s) k (subst (λ (j : ℕ). Tally a r (Lives (end_of w y)) (stream_at x j)) (sym same) t)))
            (λ beside. tally_at a (a + 0) r _ (Lives (end_of w y)) (Lives (end_of v y)) (stream_at x n) (omega arith) (omega arith) back t)
        go (inr ne) = subst (Tally (a + 0) (r + one_if (same_side y y && (n == s))) (Lives (end_of v y))) (sym (at_other x s n (peer_resets k (stream_at x s)) ne))
            (tally_at a (a + 0) r _ (Lives (end_of w y)) (Lives (end_of v y)) (stream_at x n) (omega arith) (omega arith) back t)
    move_tally e o rs z step NotesNone = plain e o x refl t
    move_tally e o rs z step (OpensIt s k p q choice) = plain e o z refl (there_follows s _ refl (free_follows (stream_at x s) state.Connecting p.ordered p.reliability (chosen_free (end_of w y) x p q s choice)))
    move_tally e o rs z step (Answers s k is) = plain e o z refl (there_follows s _ refl (undue_follows (stream_at x s)))
    move_tally e o rs z step (Says s k now c may) = plain e o z refl t
    move_tally e o rs z step (Refuses c why) = plain e o x refl t
    move_tally e o rs z step (IsNotOpen c) = plain e o x refl t
    move_tally e o rs z step (Closes s may) =
        let off = sending_open (stream_at x s).state may in
        accepted_there s (closes (stream_at x s)) step (λ le. let none = ap (λ (q : Stream). may_send q.state) (beyond x.streams s unused le) in absurd (cc (none, may))) refl (rw off refl) (λ e. refl) (λ none. cc none)
    move_tally e o rs z step (ResetsIt s out is by) = go out by step
      where
        go : (out : Outcome) → (out ≡ Done) ⊎ (out ≡ NoSuchReset) → Step w (Reset y s) (Some out) v → Then (Reset y s) (Some out) (with_stream x s (without_due (stream_at x s)))
        go out (inl done) step = subst (λ (q : Outcome). Then (Reset y s) (Some q) (with_stream x s (without_due (stream_at x s)))) (sym done)
            (accepted_there s (without_due (stream_at x s)) (subst (λ (q : Outcome). Step w (Reset y s) (Some q) v) done step)
            (λ le. let none = ap (λ (q : Stream). q.due) (beyond x.streams s unused le) in absurd (cc (none, is))) refl off on (λ none. cc none))
          where
            shut : s ≡ n → is_shut (stream_at x s).state ≡ true
            shut e = (subst (λ (j : ℕ). Tally a r (Lives (end_of w y)) (stream_at x j)) (sym e) t).due is

            none_asked : (b c : Bool) → c ≡ false → (b && c) ≡ false
            none_asked true c none = none
            none_asked false c none = refl

            off : has_asked (stream_at x s) ≡ false
            off = let none : is_asked (stream_at x s).due ≡ false = ap is_asked is in none_asked (is_shut (stream_at x s).state) (is_asked (stream_at x s).due) none

            on : s ≡ n → has_asked (without_due (stream_at x s)) ≡ true
            on e = let yes = shut e in rw yes refl
        go out (inr none) step = subst (λ (q : Outcome). Then (Reset y s) (Some q) (with_stream x s (without_due (stream_at x s)))) (sym none)
            (plain (Reset y s) (Some NoSuchReset) (with_stream x s (without_due (stream_at x s))) refl (there_follows s (without_due (stream_at x s)) refl (undue_follows (stream_at x s))))
    move_tally e o rs z step (ResetsNone s out other) = plain e o x (quiet_reset (resets_it y n (Reset y s) (Some out)) refl) t
      where
        some_is : (p q : Outcome) → ◌≡◌ {A = Option Outcome} (Some p) (Some q) → p ≡ q
        some_is p q is = cc is

        quiet_reset : (b : Bool) → resets_it y n (Reset y s) (Some out) ≡ b → resets_it y n (Reset y s) (Some out) ≡ false
        quiet_reset false is = is
        quiet_reset true on = absurd (other (some_is out Done (reset_shuts w (Reset y s) (Some out) v step y n on).answer))

  -- ---- a run

  -- at each place no more resets were accepted than were reported, but one
  abbrev pub OwnAhead : (a r : ℕ) → List Event → List (Option Outcome) → Type 0
  OwnAhead a r (e ∷ es) (o ∷ os) = (a + one_if (resets_it y n e o) ≤ (r + one_if (is_reported y n e o)) + 1) × OwnAhead (a + one_if (resets_it y n e o)) (r + one_if (is_reported y n e o)) es os
  OwnAhead a r es os = Unit {0}

  pub agreed_tally : (a r : ℕ) (v : EndView) (x : Table) (s : ℕ) (ordered : Bool) (l : Reliability) → is_free (stream_at x s) ≡ true → Tally a r (Lives v) (stream_at x n) →
      Tally a r (Lives v) (stream_at (with_stream x s (with_channel state.Open ordered l (stream_at x s))) n)
  agreed_tally a r v x s ordered l free t = put_at (Tally a r (Lives v)) x s n _
      (λ e lt. tally_follows a r (Lives v) (stream_at x s) _ refl (free_follows (stream_at x s) state.Open ordered l free) (subst (λ (j : ℕ). Tally a r (Lives v) (stream_at x j)) (sym e) t)) (λ off. t)

  pub freed_tally : (a r : ℕ) (v : EndView) (x : Table) (s : ℕ) → is_gone v x s ≡ true → Tally a r (Lives v) (stream_at x n) → Tally a r (Lives v) (stream_at (with_left_over x s) n)
  freed_tally a r v x s gone t = left_there n a r v x t s (inl (drained_reset (stream_at x s) (gone_reset v x s gone).1))

  pub own_ahead : (a r : ℕ) (w : World) (x : Table) (es : List Event) (os : List (Option Outcome)) (vs : List World) (rs : List Report) (u : Table) → Driven y w x es os vs rs u → PassesThrough w es os vs →
      IsFresh w → Tally a r (Lives (end_of w y)) (stream_at x n) → OwnAhead a r es os
  own_ahead a r w x es os vs rs u (Rests _ _) passes fresh t = tt
  own_ahead a r w x es os vs rs u (Goes _ v _ z _ e o more others worlds now next move on) (step, passes) fresh t =
      let one = move_tally a r w v x t (lived y w e o v fresh step) e o now z step move in (
        (let m = one.most in let k = one.marks in omega (arith, m, k)),
        own_ahead (a + one_if (resets_it y n e o)) (r + one_if (is_reported y n e o)) v z more others worlds next u on passes (step_onward w e o v fresh step).fresh one,
      )
  own_ahead a r w x es os vs rs u (Tells _ _ _ _ _ _ q more is same on) passes fresh t = own_ahead a r w (next_report (end_of w y) x).table es os vs more u on passes fresh (report_tally n a r (end_of w y) x t)
  own_ahead a r w x es os vs rs u (Agrees _ _ _ _ _ _ more s k ordered l is on) passes fresh t =
      own_ahead a r w _ es os vs more u on passes fresh (agreed_tally a r (end_of w y) x s ordered l (agreed_free (end_of w y) x l k s is) t)
  own_ahead a r w x es os vs rs u (Sets _ _ _ _ _ _ more s k may on) passes fresh t = own_ahead a r w _ es os vs more u on passes fresh t
  own_ahead a r w x es os vs rs u (Frees _ _ _ _ _ _ more s gone on) passes fresh t = own_ahead a r w _ es os vs more u on passes fresh (freed_tally a r (end_of w y) x s gone t)

-- at the start nothing was asked for
pub start_tally : (L : Type 0) (many n : ℕ) → Tally 0 0 L (slice_index_or (replicate many unused) n unused)
start_tally L many n = subst (Tally 0 0 L) (sym (unused_there many n)) (record { passed = 0; marks = omega arith; most = omega arith; lives = λ l. omega arith; due = λ is. absurd (cc is) })
