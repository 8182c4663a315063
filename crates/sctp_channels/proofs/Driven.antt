-- Where tables of channels drive both ends of a run: what is told was sent, and across a reset no message of the old channel is told on the next one.
use Rattle.std.proofs.Common.{◌≡◌, ◌⊎◌, ℕ, zero, suc, ◌+◌, ◌-◌, ◌<◌, ◌≤◌, ◌==◌, ◌&&◌, Bool, true, false, List, [], ◌∷◌, ◌++◌, length, take, drop, length-append, Option, Some, None, inl, inr, refl, sym, subst, ap, ◌∙◌, arith, if◌then◌else◌}
use Rattle.std.specs.Prelude.{replicate, slice_index_or, slice_set}
use Rattle.std.proofs.lemmas.Bool.{cases_lt}
use Rattle.sctp_channels.specs.declared.table.DtlsRole.{DtlsRole}
use Rattle.sctp_channels.specs.Coming.{After, comes, leaving, one_taken, heard, peer_resets}
use Rattle.sctp_channels.specs.Buffered.{with_look, threshold_set}
use Rattle.sctp_channels.specs.Calling.{outgoing}
use Rattle.std.proofs.lemmas.Bool.Decides.{nat_tests}
use Rattle.std.proofs.lemmas.List.{append-nil, append_assoc}
use Rattle.sctp_model.specs.numbers.Lists.{Has, at}
use Rattle.sctp_model.specs.receiver.ReceiverView.{Handed}
use Rattle.sctp_model.specs.world.Calls.{Call}
use Rattle.sctp_model.specs.end.EndView.{EndView}
use Rattle.sctp_model.specs.end.UserCalls.{Ticket, Refused, NotOpen}
use Rattle.sctp_model.specs.world.World.{Side, other, World, end_of, Setup, start}
use Rattle.sctp_model.specs.world.Events.{Event, OpenBoth, Later, Moment, At, Drawing, Connect, Build, Deliver, Foreign, Send, Abandon, Take, Reset, WasReset, Shutdown, Abort, Outcome, Done, RefusedState, Sent, Quiet, Acted, Absent, Answered, NotActed, Told, Fate, Message, NoMessage, NoSuchReset, ResetThere, NoReset, AbortTooLong}
use Rattle.sctp_model.specs.world.Steps.{PassesThrough, last_of}
use Rattle.sctp_safety.proofs.machine.DiagramRuns.{IsFresh, step_onward}
use Rattle.sctp_outcomes.specs.Users.{same_side, sent_by, sent, taken_by, taken, Match}
use Rattle.sctp_outcomes.specs.Users as users
use Rattle.sctp_outcomes.specs.Parted.{ResetAfter, IsTold, TakesToldOnly, AreParted}
use Rattle.sctp_outcomes.proofs.AgedDates.{AreSound, start_sound, step_goes_on}
use Rattle.sctp_outcomes.proofs.users.Noted.{quiet_none, step_noted}
use Rattle.sctp_dcep.specs.Content.{Content, content_of}
use Rattle.sctp_channels.specs.declared.stream.Stream.{Stream}
use Rattle.sctp_channels.specs.declared.threshold.Threshold.{Threshold}
use Rattle.sctp_channels.specs.declared.stream.State.TheVariants as state
use Rattle.sctp_channels.specs.Streams.{unused, with_channel, Table, fresh_table, stream_at, with_stream}
use Rattle.sctp_channels.specs.Told as told
use Rattle.sctp_channels.specs.Told.{Closed, BufferedAmountLow, Report}
use Rattle.sctp_channels.specs.Settling.{without_due}
use Rattle.sctp_channels.specs.Events.{Reported, quiet, reports_closed, reports_low, reports_taken, reports_waiting, reports_message, next_report, with_left_over, with_reset}
use Rattle.sctp_channels.specs.Promise.{HasPlace, IsOfChannels}
use Rattle.sctp_channels.specs.Driven.{is_call, closes, Moves, Elsewhere, Fails, Takes, Notes, NotesNone, Opens, Answers, Says, Refuses, IsNotOpen, Closes, Resets, ResetsNone, Driven, Rests, Goes, Tells, Agrees, Sets, Frees, IsClosedIn, IsPartedThere, content_in, contents_on, AreOf, ChannelsAreFaithful}
use Rattle.sctp_channels.proofs.SpanLemmas.{unused_there}
use Rattle.sctp_channels.proofs.Marks.{Marked, marked_more, none_marked, noted_marked, put, same_marked, next_marked, report_marked}
use Rattle.sctp_channels.proofs.Promised.{Keeps, comes_keeps, comes_open, report_cases, one_report, low_is_open, beyond, at_same, at_other, same_or_not, within, noted_now, places_are_kept, contents_are_taken, closed_at_the_place, channels_say_what_was_sent}
use Rattle.sctp_channels.proofs.NextChannel.{beside_kept, notes_kept, took}

-- ---- lists

either : {A : Type 0} (xs ys : List A) (x : A) → Has (xs ++ ys) x → Has xs x ⊎ Has ys x
either [] ys x has = inr has
either (z ∷ xs) ys x (inl own) = inl (inl own)
either (z ∷ xs) ys x (inr has) = go (either xs ys x has)
  where
    go : Has xs x ⊎ Has ys x → ((z ≡ x) ⊎ Has xs x) ⊎ Has ys x
    go (inl here) = inl (inr here)
    go (inr behind) = inr behind

ahead : {A : Type 0} (xs ys : List A) (x : A) → Has xs x → Has (xs ++ ys) x
ahead [] ys x has = absurd has
ahead (z ∷ xs) ys x (inl own) = inl own
ahead (z ∷ xs) ys x (inr has) = inr (ahead xs ys x has)

behind : {A : Type 0} (xs ys : List A) (x : A) → Has ys x → Has (xs ++ ys) x
behind [] ys x has = has
behind (z ∷ xs) ys x has = inr (behind xs ys x has)

cancel : (xs ys zs : List Handed) → xs ++ ys ≡ xs ++ zs → ys ≡ zs
cancel [] ys zs is = is
cancel (x ∷ xs) ys zs is = cancel xs ys zs (cc is)

some_is : (a b : Report) → ◌≡◌ {A = Option Report} (Some a) (Some b) → a ≡ b
some_is a b is = cc is

-- ---- events that are no call of this end's user

quiet_sent : (y : Side) (e : Event) (o : Option Outcome) → is_call y e ≡ false → sent_by y e o ≡ []
quiet_sent y (OpenBoth a b) o off = refl
quiet_sent y (Later s m) o off = refl
quiet_sent y (Moment s) o off = refl
quiet_sent y (At m) o off = refl
quiet_sent y (Drawing d) o off = refl
quiet_sent y (Connect d) o off = refl
quiet_sent y (Build s) o off = refl
quiet_sent y (Deliver s k) o off = refl
quiet_sent y (Foreign s p) o off = refl
quiet_sent y (Abandon s k) o off = refl
quiet_sent y (Shutdown s) o off = refl
quiet_sent y (Abort s k) o off = refl
quiet_sent y (Reset s k) o off = refl
quiet_sent y (WasReset s) o off = refl
quiet_sent y (Take s k) o off = refl
quiet_sent y (Send s c) None off = refl
quiet_sent y (Send s c) (Some Done) off = refl
quiet_sent y (Send s c) (Some RefusedState) off = refl
quiet_sent y (Send s c) (Some (Sent a b)) off = refl
quiet_sent y (Send s c) (Some Quiet) off = refl
quiet_sent y (Send s c) (Some Acted) off = refl
quiet_sent y (Send s c) (Some Absent) off = refl
quiet_sent y (Send s c) (Some (Answered a b)) off = refl
quiet_sent y (Send s c) (Some (NotActed a)) off = refl
quiet_sent y (Send s c) (Some (Told (Ticket t))) off = rw off refl
quiet_sent y (Send s c) (Some (Told (Refused r))) off = refl
quiet_sent y (Send s c) (Some (Told NotOpen)) off = refl
quiet_sent y (Send s c) (Some (Fate f)) off = refl
quiet_sent y (Send s c) (Some (Message h)) off = refl
quiet_sent y (Send s c) (Some NoMessage) off = refl
quiet_sent y (Send s c) (Some NoSuchReset) off = refl
quiet_sent y (Send s c) (Some (ResetThere a b)) off = refl
quiet_sent y (Send s c) (Some NoReset) off = refl
quiet_sent y (Send s c) (Some AbortTooLong) off = refl

pub quiet_taken : (y : Side) (n : ℕ) (e : Event) (o : Option Outcome) → is_call y e ≡ false → taken_by y n e o ≡ []
quiet_taken y n (OpenBoth a b) o off = refl
quiet_taken y n (Later s m) o off = refl
quiet_taken y n (Moment s) o off = refl
quiet_taken y n (At m) o off = refl
quiet_taken y n (Drawing d) o off = refl
quiet_taken y n (Connect d) o off = refl
quiet_taken y n (Build s) o off = refl
quiet_taken y n (Deliver s k) o off = refl
quiet_taken y n (Foreign s p) o off = refl
quiet_taken y n (Abandon s k) o off = refl
quiet_taken y n (Shutdown s) o off = refl
quiet_taken y n (Abort s k) o off = refl
quiet_taken y n (Reset s k) o off = refl
quiet_taken y n (WasReset s) o off = refl
quiet_taken y n (Send s c) o off = refl
quiet_taken y n (Take s k) None off = refl
quiet_taken y n (Take s k) (Some Done) off = refl
quiet_taken y n (Take s k) (Some RefusedState) off = refl
quiet_taken y n (Take s k) (Some (Sent a b)) off = refl
quiet_taken y n (Take s k) (Some Quiet) off = refl
quiet_taken y n (Take s k) (Some Acted) off = refl
quiet_taken y n (Take s k) (Some Absent) off = refl
quiet_taken y n (Take s k) (Some (Answered a b)) off = refl
quiet_taken y n (Take s k) (Some (NotActed a)) off = refl
quiet_taken y n (Take s k) (Some (Told (Ticket t))) off = refl
quiet_taken y n (Take s k) (Some (Told (Refused r))) off = refl
quiet_taken y n (Take s k) (Some (Told NotOpen)) off = refl
quiet_taken y n (Take s k) (Some (Fate f)) off = refl
quiet_taken y n (Take s k) (Some (Message h)) off = rw off refl
quiet_taken y n (Take s k) (Some NoMessage) off = refl
quiet_taken y n (Take s k) (Some NoSuchReset) off = refl
quiet_taken y n (Take s k) (Some (ResetThere a b)) off = refl
quiet_taken y n (Take s k) (Some NoReset) off = refl
quiet_taken y n (Take s k) (Some AbortTooLong) off = refl

-- ---- what an end sends

abbrev AllOfChannels : List users.Sent → Type 0
AllOfChannels ss = (a : users.Sent) → Has ss a → IsOfChannels a.call

one_of_channels : (y : Side) (t : ℕ) (c : Call) → IsOfChannels c → AllOfChannels (sent_by y (Send y c) (Some (Told (Ticket t))))
one_of_channels y t c of a has = go (same_side y y) has
  where
    go : (b : Bool) → Has (if b then record { ticket = t; call = c } ∷ [] else []) a → IsOfChannels a.call
    go true (inl own) = subst (λ (z : users.Sent). IsOfChannels z.call) own of
    go true (inr none) = absurd none
    go false none = absurd none

none_sent : (ss : List users.Sent) → ss ≡ [] → AllOfChannels ss
none_sent ss is a has = absurd (subst (λ (xs : List users.Sent). Has xs a) is has)

move_sends : (y : Side) (v u : EndView) (x : Table) (e : Event) (o : Option Outcome) (rs : List Report) (z : Table) → Moves y v u x e o rs z → AllOfChannels (sent_by y e o)
move_sends y v u x e o rs z (Elsewhere _ _ off) = none_sent (sent_by y e o) (quiet_sent y e o off)
move_sends y v u x e o rs z (Fails _) = none_sent (sent_by y e None) (quiet_none e y 0).sent
move_sends y v u x e o rs z (Takes s h r is leaves untold) = λ a has. absurd has
move_sends y v u x e o rs z (Notes s k) = λ a has. absurd has
move_sends y v u x e o rs z NotesNone = λ a has. absurd has
move_sends y v u x e o rs z (Opens s t p c is) = one_of_channels y t _ (inl refl)
move_sends y v u x e o rs z (Answers s t is) = one_of_channels y t _ (inl refl)
move_sends y v u x e o rs z (Says s t now c may) = one_of_channels y t _ (inr (c, record { payload = refl; bytes = refl }))
move_sends y v u x e o rs z (Refuses c why) = λ a has. absurd has
move_sends y v u x e o rs z (IsNotOpen c) = λ a has. absurd has
move_sends y v u x e o rs z (Closes s may) = λ a has. absurd has
move_sends y v u x e o rs z (Resets s _ is by) = λ a has. absurd has
move_sends y v u x e o rs z (ResetsNone s _ by) = λ a has. absurd has

driven_sends : (y : Side) (w : World) (x : Table) (es : List Event) (os : List (Option Outcome)) (vs : List World) (rs : List Report) (u : Table) →
    Driven y w x es os vs rs u → AllOfChannels (sent y es os)
driven_sends y w x es os vs rs u (Rests _ _) a has = absurd has
driven_sends y w x es os vs rs u (Goes _ v _ z _ e o more others worlds now next move on) a has =
    by_part (either (sent_by y e o) (sent y more others) a has) (move_sends y (end_of w y) (end_of v y) x e o now z move a) (driven_sends y v z more others worlds next u on a)
  where
    by_part : Has (sent_by y e o) a ⊎ Has (sent y more others) a → (Has (sent_by y e o) a → IsOfChannels a.call) → (Has (sent y more others) a → IsOfChannels a.call) → IsOfChannels a.call
    by_part (inl here) first second = first here
    by_part (inr there) first second = second there
driven_sends y w x es os vs rs u (Tells _ _ _ _ _ _ r more is same on) a has = driven_sends y w (next_report (end_of w y) x).table es os vs more u on a has
driven_sends y w x es os vs rs u (Agrees _ _ _ _ _ _ _ s t ordered r is on) a has = driven_sends y w _ es os vs rs u on a has
driven_sends y w x es os vs rs u (Sets _ _ _ _ _ _ _ s k may on) a has = driven_sends y w _ es os vs rs u on a has
driven_sends y w x es os vs rs u (Frees _ _ _ _ _ _ _ s gone on) a has = driven_sends y w _ es os vs rs u on a has

-- ---- what is told

of_both : (hs ks : List Handed) (cs ds : List Content) → AreOf hs cs → AreOf ks ds → AreOf (hs ++ ks) (cs ++ ds)
of_both hs ks [] ds first second = later hs
  where
    later : (hs : List Handed) → AreOf (hs ++ ks) ds
    later [] = second
    later (h ∷ hs) = skips ds h (hs ++ ks) (later hs)
      where
        skips : (ds : List Content) (h : Handed) (xs : List Handed) → AreOf xs ds → AreOf (h ∷ xs) ds
        skips [] h xs of = tt
        skips (d ∷ ds) h xs of = inr of
of_both [] ks (c ∷ cs) ds first second = absurd first
of_both (h ∷ hs) ks (c ∷ cs) ds (inl (is, rest)) second = inl (is, of_both hs ks cs ds rest second)
of_both (h ∷ hs) ks (c ∷ cs) ds (inr rest) second = inr (of_both hs ks (c ∷ cs) ds rest second)

contents_both : (n : ℕ) (rs more : List Report) → contents_on n (rs ++ more) ≡ contents_on n rs ++ contents_on n more
contents_both n [] more = refl
contents_both n (r ∷ rs) more =
    ap (λ (cs : List Content). content_in n r.stream r.told ++ cs) (contents_both n rs more) ∙ sym (append_assoc (content_in n r.stream r.told) (contents_on n rs) (contents_on n more))

put_one : (f : ℕ → List Handed) (n : ℕ) (h : Handed) → at f n (f n ++ h ∷ []) n ≡ f n ++ h ∷ []
put_one f n h = go (n == n) refl
  where
    go : (b : Bool) → (n == n) ≡ b → (if b then f n ++ h ∷ [] else f n) ≡ f n ++ h ∷ []
    go true is = refl
    go false is = absurd (grind (arith, nat_tests, is))

-- a report of a content takes one message from the stream
takes_one : (n : ℕ) (v : EndView) (x : Table) (r : Report) → (next_report v x).report ≡ Some r → (P : List Content → Type 0) → P [] →
    ((c : Content) (m : Handed) → content_of m.payload m.bytes ≡ Some c → (next_report v x).view.receiver.taken n ≡ v.receiver.taken n ++ m ∷ [] → P (c ∷ [])) → P (content_in n r.stream r.told)
takes_one n v x r is P none one = go r.told refl
  where
    here : (c : Content) → r.told ≡ told.Message c → n ≡ r.stream → P (c ∷ [])
    here c says e =
        let same : r ≡ record { stream = n; told = told.Message c } = ap (λ (t : told.Told). record { stream = r.stream; told = t }) says ∙ ap (λ (j : ℕ). record { stream = j; told = told.Message c }) (sym e) in
        let t = contents_are_taken v x n c (is ∙ ap (λ (q : Report). Some q) same) in
        one c t.message t.content (ap (λ (q : EndView). q.receiver.taken n) t.leaves ∙ put_one v.receiver.taken n t.message)

    by_stream : (c : Content) → r.told ≡ told.Message c → (b : Bool) → (n == r.stream) ≡ b → P (if b then c ∷ [] else [])
    by_stream c says true e = here c says (grind (arith, nat_tests, e))
    by_stream c says false e = none

    go : (t : told.Told) → r.told ≡ t → P (content_in n r.stream t)
    go (told.Incoming p) says = none
    go told.Opened says = none
    go (told.Message c) says = by_stream c says (n == r.stream) refl
    go told.Closed says = none
    go told.BufferedAmountLow says = none
    go (told.Refuses why) says = none
    go (told.Ignores why) says = none

module _ (y : Side) (n : ℕ) where
  move_says : (v u : EndView) (x : Table) (e : Event) (o : Option Outcome) (rs : List Report) (z : Table) → Moves y v u x e o rs z →
      u.receiver.taken n ≡ v.receiver.taken n ++ taken_by y n e o → AreOf (taken_by y n e o) (contents_on n rs)
  move_says v u x e o rs z (Takes s h r is leaves untold) took =
      subst (AreOf (taken_by y n (Take y s) (Some (Message h)))) (sym (append-nil (content_in n r.stream r.told)))
      (takes_one n v x r is (AreOf (taken_by y n (Take y s) (Some (Message h)))) tt (λ c m content one.
      let same : taken_by y n (Take y s) (Some (Message h)) ≡ m ∷ [] = cancel (v.receiver.taken n) (taken_by y n (Take y s) (Some (Message h))) (m ∷ [])
      (sym took ∙ ap (λ (q : EndView). q.receiver.taken n) leaves ∙ one) in
      subst (λ (hs : List Handed). AreOf hs (c ∷ [])) (sym same) (inl (content, tt))))
  move_says v u x e o rs z (Elsewhere _ _ off) took = tt
  move_says v u x e o rs z (Fails _) took = tt
  move_says v u x e o rs z (Notes s count) took = tt
  move_says v u x e o rs z NotesNone took = tt
  move_says v u x e o rs z (Opens s t c choice is) took = tt
  move_says v u x e o rs z (Answers s t is) took = tt
  move_says v u x e o rs z (Says s t now c may) took = tt
  move_says v u x e o rs z (Refuses c why) took = tt
  move_says v u x e o rs z (IsNotOpen c) took = tt
  move_says v u x e o rs z (Closes s may) took = tt
  move_says v u x e o rs z (Resets s _ is by) took = tt
  move_says v u x e o rs z (ResetsNone s _ by) took = tt

  driven_says : (w : World) (x : Table) (es : List Event) (os : List (Option Outcome)) (vs : List World) (rs : List Report) (u : Table) → Driven y w x es os vs rs u →
      PassesThrough w es os vs → IsFresh w → AreSound w → AreOf (taken y n es os) (contents_on n rs)
  driven_says w x es os vs rs u (Rests _ _) passes fresh sound = tt
  driven_says w x es os vs rs u (Goes _ v _ z _ e o more others worlds now next move on) (step, passes) fresh sound =
      let sounds = step_goes_on w e o v fresh sound step in
      subst (AreOf (taken_by y n e o ++ taken y n more others)) (sym (contents_both n now next))
      (of_both (taken_by y n e o) (taken y n more others) (contents_on n now) (contents_on n next)
      (move_says (end_of w y) (end_of v y) x e o now z move (step_noted y n w e o v fresh sound step).taken)
      (driven_says v z more others worlds next u on passes (step_onward w e o v fresh step).fresh (λ q. (sounds q).sound)))
  driven_says w x es os vs rs u (Tells _ _ _ _ _ _ r more is same on) passes fresh sound =
      let rest = driven_says w (next_report (end_of w y) x).table es os vs more u on passes fresh sound in
      takes_one n (end_of w y) x r is (λ (cs : List Content). AreOf (taken y n es os) (cs ++ contents_on n more)) rest (λ c m content one.
      absurd (let twice = ap length (sym one ∙ ap (λ (q : EndView). q.receiver.taken n) same) in let l = length-append ((end_of w y).receiver.taken n) (m ∷ []) in omega (arith, twice, l)))
  driven_says w x es os vs rs u (Agrees _ _ _ _ _ _ _ s t ordered r is on) passes fresh sound = driven_says w _ es os vs rs u on passes fresh sound
  driven_says w x es os vs rs u (Sets _ _ _ _ _ _ _ s k may on) passes fresh sound = driven_says w _ es os vs rs u on passes fresh sound
  driven_says w x es os vs rs u (Frees _ _ _ _ _ _ _ s gone on) passes fresh sound = driven_says w _ es os vs rs u on passes fresh sound

-- ---- resets are noted before messages are taken

module _ (y : Side) (n : ℕ) where
  move_takes : (v u : EndView) (x : Table) (e : Event) (o : Option Outcome) (rs : List Report) (z : Table) → Moves y v u x e o rs z → (taken_by y n e o ≡ []) ⊎ (u.receiver.resets.told n ≡ None)
  move_takes v u x e o rs z (Takes s h r is leaves untold) = go (same_side y y) (n == s) refl
    where
      go : (a b : Bool) → (n == s) ≡ b → ((if a && b then h ∷ [] else []) ≡ []) ⊎ (u.receiver.resets.told n ≡ None)
      go a true e = inr (let same : s ≡ n = grind (arith, nat_tests, e) in subst (λ (k : ℕ). u.receiver.resets.told k ≡ None) same untold)
      go true false e = inl refl
      go false false e = inl refl
  move_takes v u x e o rs z (Elsewhere _ _ off) = inl (quiet_taken y n e o off)
  move_takes v u x e o rs z (Fails _) = inl (quiet_none e y n).taken
  move_takes v u x e o rs z (Notes s count) = inl refl
  move_takes v u x e o rs z NotesNone = inl refl
  move_takes v u x e o rs z (Opens s t c choice is) = inl refl
  move_takes v u x e o rs z (Answers s t is) = inl refl
  move_takes v u x e o rs z (Says s t now c may) = inl refl
  move_takes v u x e o rs z (Refuses c why) = inl refl
  move_takes v u x e o rs z (IsNotOpen c) = inl refl
  move_takes v u x e o rs z (Closes s may) = inl refl
  move_takes v u x e o rs z (Resets s _ is by) = inl refl
  move_takes v u x e o rs z (ResetsNone s _ by) = inl refl

  pub driven_takes : (w : World) (x : Table) (es : List Event) (os : List (Option Outcome)) (vs : List World) (rs : List Report) (u : Table) → Driven y w x es os vs rs u → TakesToldOnly y n es os vs
  driven_takes w x es os vs rs u (Rests _ _) = tt
  driven_takes w x es os vs rs u (Goes _ v _ z _ e o more others worlds now next move on) =
      (move_takes (end_of w y) (end_of v y) x e o now z move, driven_takes v z more others worlds next u on)
  driven_takes w x es os vs rs u (Tells _ _ _ _ _ _ r more is same on) = driven_takes w (next_report (end_of w y) x).table es os vs more u on
  driven_takes w x es os vs rs u (Agrees _ _ _ _ _ _ _ s t ordered r is on) = driven_takes w _ es os vs rs u on
  driven_takes w x es os vs rs u (Sets _ _ _ _ _ _ _ s k may on) = driven_takes w _ es os vs rs u on
  driven_takes w x es os vs rs u (Frees _ _ _ _ _ _ _ s gone on) = driven_takes w _ es os vs rs u on

-- ---- a run

fine_then : (w : World) (es : List Event) (os : List (Option Outcome)) (vs : List World) → PassesThrough w es os vs → IsFresh w → AreSound w → IsFresh (last_of w vs) × AreSound (last_of w vs)
fine_then w [] [] [] passes fresh sound = (fresh, sound)
fine_then w (e ∷ es) (o ∷ os) (v ∷ vs) (step, passes) fresh sound =
    let sounds = step_goes_on w e o v fresh sound step in fine_then v es os vs passes (step_onward w e o v fresh step).fresh (λ q. (sounds q).sound)
fine_then w [] (o ∷ os) vs passes fresh sound = absurd passes
fine_then w [] [] (v ∷ vs) passes fresh sound = absurd passes
fine_then w (e ∷ es) [] vs passes fresh sound = absurd passes
fine_then w (e ∷ es) (o ∷ os) [] passes fresh sound = absurd passes

pub taken_both : (y : Side) (n : ℕ) (es : List Event) (os : List (Option Outcome)) (more : List Event) (others : List (Option Outcome)) → length os ≡ length es →
    taken y n (es ++ more) (os ++ others) ≡ taken y n es os ++ taken y n more others
taken_both y n [] [] more others same = refl
taken_both y n (e ∷ es) (o ∷ os) more others same =
    ap (λ (hs : List Handed). taken_by y n e o ++ hs) (taken_both y n es os more others (cc same)) ∙ sym (append_assoc (taken_by y n e o) (taken y n es os) (taken y n more others))
taken_both y n [] (o ∷ os) more others same = absurd (cc same)
taken_both y n (e ∷ es) [] more others same = absurd (cc same)

-- ---- which reset a channel is closed for

abbrev none_handed : List Handed
none_handed = []

module _ (y : Side) (n : ℕ) where
  -- in these events a reset was told, with this place
  record ToldAt (es : List Event) (os : List (Option Outcome)) (k : ℕ) : Type 0 where
    past : List Event
    mid : List Event
    answers : List (Option Outcome)
    mids : List (Option Outcome)
    waiting : ℕ
    events : es ≡ past ++ WasReset y ∷ mid
    outcomes : os ≡ answers ++ Some (ResetThere n waiting) ∷ mids
    aligned : length answers ≡ length past
    place : length (taken y n past answers) + waiting ≡ k

  told_later : (es more : List Event) (os others : List (Option Outcome)) (k : ℕ) → ToldAt es os k → ToldAt (es ++ more) (os ++ others) k
  told_later es more os others k t = record {
    past = t.past;
    mid = t.mid ++ more;
    answers = t.answers;
    mids = t.mids ++ others;
    waiting = t.waiting;
    events = ap (λ (fs : List Event). fs ++ more) t.events ∙ append_assoc t.past (WasReset y ∷ t.mid) more;
    outcomes = ap (λ (ps : List (Option Outcome)). ps ++ others) t.outcomes ∙ append_assoc t.answers (Some (ResetThere n t.waiting) ∷ t.mids) others;
    aligned = t.aligned;
    place = t.place;
  }

  -- the marks of the stream are of resets that were told
  abbrev Mark : List Event → List (Option Outcome) → EndView → Table → Type 0
  Mark es os v x = Marked (ToldAt es os) (length (v.receiver.taken n)) (stream_at x n)

  -- after one event more, by which no message of the stream is taken
  abbrev Goes_on : List Event → List (Option Outcome) → Event → Option Outcome → EndView → Table → Table → Type 0
  Goes_on es os e o v x z = Marked (ToldAt (es ++ e ∷ []) (os ++ o ∷ [])) (length (v.receiver.taken n)) (stream_at x n) → Marked (ToldAt (es ++ e ∷ []) (os ++ o ∷ [])) (length (v.receiver.taken n)) (stream_at z n)

  mark_on : (es : List Event) (os : List (Option Outcome)) (e : Event) (o : Option Outcome) (v u : EndView) (x z : Table) → u.receiver.taken n ≡ v.receiver.taken n ++ [] → Goes_on es os e o v x z →
      Mark es os v x → Mark (es ++ e ∷ []) (os ++ o ∷ []) u z
  mark_on es os e o v u x z took on m =
      subst (λ (hs : List Handed). Marked (ToldAt (es ++ e ∷ []) (os ++ o ∷ [])) (length hs) (stream_at z n)) (sym (took ∙ append-nil (v.receiver.taken n)))
      (on (marked_more (ToldAt es os) (ToldAt (es ++ e ∷ []) (os ++ o ∷ [])) (length (v.receiver.taken n)) (stream_at x n) (told_later es (e ∷ []) os (o ∷ [])) m))

  -- a stream whose mark stays
  stands : (es : List Event) (os : List (Option Outcome)) (e : Event) (o : Option Outcome) (v : EndView) (x : Table) (s : ℕ) (z : Stream) → Keeps (stream_at x s) z → Goes_on es os e o v x (with_stream x s z)
  stands es os e o v x s z k p = same_marked n (ToldAt (es ++ e ∷ []) (os ++ o ∷ [])) (length (v.receiver.taken n)) x p s z k

  -- the same, once a reset more was told
  abbrev Noted : List Event → List (Option Outcome) → (s k : ℕ) → ℕ → Type 0
  Noted es os s k = ToldAt (es ++ WasReset y ∷ []) (os ++ Some (ResetThere s k) ∷ [])

  move_mark : (es : List Event) (os : List (Option Outcome)) (v u : EndView) (x : Table) (e : Event) (o : Option Outcome) (rs : List Report) (z : Table) → Moves y v u x e o rs z →
      u.receiver.taken n ≡ v.receiver.taken n ++ taken_by y n e o → length (v.receiver.taken n) ≡ length (taken y n es os) → length os ≡ length es →
      Mark es os v x → Mark (es ++ e ∷ []) (os ++ o ∷ []) u z
  move_mark es os v u x e o rs z (Elsewhere _ _ off) took count same m =
      mark_on es os e o v u x x (took ∙ ap (λ (hs : List Handed). v.receiver.taken n ++ hs) (quiet_taken y n e o off)) (λ p. p) m
  move_mark es os v u x e o rs z (Fails _) took count same m = mark_on es os e None v u x x (took ∙ ap (λ (hs : List Handed). v.receiver.taken n ++ hs) (quiet_none e y n).taken) (λ p. p) m
  move_mark es os v u x e o rs z (Takes s h r is leaves untold) took count same m =
      let T : ℕ → Type 0 = ToldAt (es ++ Take y s ∷ []) (os ++ Some (Message h) ∷ []) in
      subst (λ (q : EndView). Marked T (length (q.receiver.taken n)) (stream_at (next_report v x).table n)) (sym leaves)
      (report_marked n T v x (marked_more (ToldAt es os) T (length (v.receiver.taken n)) (stream_at x n) (told_later es (Take y s ∷ []) os (Some (Message h) ∷ [])) m))
  move_mark es os v u x e o rs z (Notes s k) took count same m = mark_on es os (WasReset y) (Some (ResetThere s k)) v u x (with_reset s k x) took noted m
    where
      told : s ≡ n → Noted es os s k (length (v.receiver.taken n) + k)
      told e = record {
        past = es;
        mid = [];
        answers = os;
        mids = [];
        waiting = k;
        events = refl;
        outcomes = ap (λ (j : ℕ). os ++ Some (ResetThere j k) ∷ []) e;
        aligned = same;
        place = ap (λ (i : ℕ). i + k) (sym count);
      }

      noted : Goes_on es os (WasReset y) (Some (ResetThere s k)) v x (with_reset s k x)
      noted p = put (λ (q : Stream). Marked (Noted es os s k) (length (v.receiver.taken n)) q) x s n (peer_resets k (stream_at x s))
          (λ e. noted_marked (Noted es os s k) (length (v.receiver.taken n)) (stream_at x s) k (told e) (subst (λ (j : ℕ). Marked (Noted es os s k) (length (v.receiver.taken n)) (stream_at x j)) (sym e) p))
          (none_marked (Noted es os s k) (length (v.receiver.taken n))) p
  move_mark es os v u x e o rs z NotesNone took count same m = mark_on es os e o v u x x took (λ p. p) m
  move_mark es os v u x e o rs z (Says s t now c may) took count same m = mark_on es os e o v u x (with_look u s x) took (λ p. p) m
  move_mark es os v u x e o rs z (Refuses c why) took count same m = mark_on es os e o v u x x took (λ p. p) m
  move_mark es os v u x e o rs z (IsNotOpen c) took count same m = mark_on es os e o v u x x took (λ p. p) m
  move_mark es os v u x e o rs z (ResetsNone s _ by) took count same m = mark_on es os e o v u x x took (λ p. p) m
  move_mark es os v u x e o rs z (Opens s t c choice is) took count same m =
      mark_on es os e o v u x (with_stream x s (with_channel state.Connecting c.ordered c.reliability (stream_at x s))) took
      (stands es os e o v x s (with_channel state.Connecting c.ordered c.reliability (stream_at x s)) (record { left = refl; again = refl; resets = refl })) m
  move_mark es os v u x e o rs z (Answers s t is) took count same m =
      mark_on es os e o v u x (with_stream x s (without_due (stream_at x s))) took (stands es os e o v x s (without_due (stream_at x s)) (record { left = refl; again = refl; resets = refl })) m
  move_mark es os v u x e o rs z (Closes s may) took count same m =
      mark_on es os e o v u x (with_stream x s (closes (stream_at x s))) took (stands es os e o v x s (closes (stream_at x s)) (record { left = refl; again = refl; resets = refl })) m
  move_mark es os v u x e o rs z (Resets s _ is by) took count same m =
      mark_on es os e o v u x (with_stream x s (without_due (stream_at x s))) took (stands es os e o v x s (without_due (stream_at x s)) (record { left = refl; again = refl; resets = refl })) m

  driven_mark : (es : List Event) (os : List (Option Outcome)) (w : World) (x : Table) (more : List Event) (others : List (Option Outcome)) (vs : List World) (rs : List Report) (u : Table) →
      Driven y w x more others vs rs u → PassesThrough w more others vs → IsFresh w → AreSound w → length ((end_of w y).receiver.taken n) ≡ length (taken y n es os) → length os ≡ length es →
      Mark es os (end_of w y) x → Mark (es ++ more) (os ++ others) (end_of (last_of w vs) y) u
  driven_mark es os w x more others vs rs u (Rests _ _) passes fresh sound count same m =
      marked_more (ToldAt es os) (ToldAt (es ++ []) (os ++ [])) (length ((end_of w y).receiver.taken n)) (stream_at x n) (told_later es [] os []) m
  driven_mark es os w x more others vs rs u (Goes _ v _ z _ e o ahead_of outcomes worlds now next move on) (step, passes) fresh sound count same m =
      let sounds = step_goes_on w e o v fresh sound step in
      let took = (step_noted y n w e o v fresh sound step).taken in
      let one = move_mark es os (end_of w y) (end_of v y) x e o now z move took count same m in
      let counts : length ((end_of v y).receiver.taken n) ≡ length (taken y n (es ++ e ∷ []) (os ++ o ∷ [])) =
      (let a = ap length took in let b = length-append ((end_of w y).receiver.taken n) (taken_by y n e o) in
      let c = ap length (taken_both y n es os (e ∷ []) (o ∷ []) same) in let d = length-append (taken y n es os) (taken_by y n e o ++ []) in
      let f = length-append (taken_by y n e o) (none_handed) in omega (arith, a, b, c, d, f, count)) in
      let aligned : length (os ++ o ∷ []) ≡ length (es ++ e ∷ []) = (let a = length-append os (o ∷ []) in let b = length-append es (e ∷ []) in omega (arith, a, b, same)) in
      let rest = driven_mark (es ++ e ∷ []) (os ++ o ∷ []) v z ahead_of outcomes worlds next u on passes (step_onward w e o v fresh step).fresh (λ q. (sounds q).sound) counts aligned one in
      subst (λ (fs : List Event). Mark fs (os ++ o ∷ outcomes) (end_of (last_of v worlds) y) u) (append_assoc es (e ∷ []) ahead_of)
      (subst (λ (ps : List (Option Outcome)). Mark ((es ++ e ∷ []) ++ ahead_of) ps (end_of (last_of v worlds) y) u) (append_assoc os (o ∷ []) outcomes) rest)
  driven_mark es os w x more others vs rs u (Tells _ _ _ _ _ _ r rest is same_view on) passes fresh sound count same m =
      driven_mark es os w (next_report (end_of w y) x).table more others vs rest u on passes fresh sound count same
      (subst (λ (q : EndView). Marked (ToldAt es os) (length (q.receiver.taken n)) (stream_at (next_report (end_of w y) x).table n)) same_view (report_marked n (ToldAt es os) (end_of w y) x m))
  driven_mark es os w x more others vs rs u (Agrees _ _ _ _ _ _ _ s t ordered r is on) passes fresh sound count same m =
      driven_mark es os w (with_stream x s (with_channel state.Open ordered r (stream_at x s))) more others vs rs u on passes fresh sound count same
      (same_marked n (ToldAt es os) (length ((end_of w y).receiver.taken n)) x m s (with_channel state.Open ordered r (stream_at x s)) (record { left = refl; again = refl; resets = refl }))
  driven_mark es os w x more others vs rs u (Sets _ _ _ _ _ _ _ s k may on) passes fresh sound count same m =
      driven_mark es os w (threshold_set (end_of w y) s k x) more others vs rs u on passes fresh sound count same m
  driven_mark es os w x more others vs rs u (Frees _ _ _ _ _ _ _ s gone on) passes fresh sound count same m =
      driven_mark es os w (with_left_over x s) more others vs rs u on passes fresh sound count same (next_marked n (ToldAt es os) (length ((end_of w y).receiver.taken n)) x m s)

-- ---- the law

reset_later : (x : Side) (n before : ℕ) (es more : List Event) (os others : List (Option Outcome)) (count : ℕ) → ResetAfter x n before es os count → ResetAfter x n before (es ++ more) (os ++ others) count
reset_later x n before [] more [] others count h = absurd h
reset_later x n before [] more (o ∷ os) others count h = absurd h
reset_later x n before (e ∷ es) more [] others count h = absurd h
reset_later x n before (e ∷ es) more (o ∷ os) others count (inl here) = inl here
reset_later x n before (e ∷ es) more (o ∷ os) others count (inr h) = inr (reset_later x n (before + length (sent_by x e o)) es more os others count h)

module _ (s : Setup) (es : List Event) (os : List (Option Outcome)) (vs : List World) (x : Side) (n : ℕ) (role : DtlsRole) (many : ℕ) (ms : List Match)
    (parts : (t : IsTold x n es os) → AreParted x n es os vs t ms) (takes : TakesToldOnly (other x) n es os vs) (c : IsClosedIn s (other x) role many n es os) where
  abbrev y : Side
  y = other x

  abbrev v : EndView
  v = end_of (last_of (start s) c.worlds) y

  at_place : HasPlace v c.table n (length (v.receiver.taken n))
  at_place = closed_at_the_place v c.table n c.alive c.closed

  start_count : length ((end_of (start s) y).receiver.taken n) ≡ length (taken y n [] [])
  start_count = took s y n [] [] [] tt

  mark : Mark y n c.events c.outcomes v c.table
  mark =
      driven_mark y n [] [] (start s) (fresh_table role many) c.events c.outcomes c.worlds c.told c.table c.driven c.passes (λ q. (refl, refl)) (start_sound s) start_count refl
      (subst (λ (q : Stream). Marked (ToldAt y n [] []) (length ((end_of (start s) y).receiver.taken n)) q) (sym (unused_there many n)) (none_marked (ToldAt y n [] []) (length ((end_of (start s) y).receiver.taken n))))

  by_told : ToldAt y n c.events c.outcomes (length (v.receiver.taken n)) → IsPartedThere x n c.events c.outcomes ms
  by_told t =
      let p = parts told in
      record {
        count = p.count;
        reset = subst (λ (fs : List Event). ResetAfter x n 0 fs c.outcomes p.count) (sym t.events)
            (subst (λ (ps : List (Option Outcome)). ResetAfter x n 0 (t.past ++ WasReset y ∷ t.mid) ps p.count) (sym t.outcomes)
            (reset_later x n 0 t.past (WasReset y ∷ t.mid) t.answers (Some (ResetThere n t.waiting) ∷ t.mids) p.count p.reset));
        old = λ m has. p.old (inr takes) m (subst (λ (k : ℕ). Has (take k ms) m) count has);
        new = λ m has. p.new m (subst (λ (k : ℕ). Has (drop k ms) m) count has);
      }
    where
      told : IsTold x n es os
      told = record {
        past = t.past;
        answers = t.answers;
        later = t.mid ++ c.later;
        others = t.mids ++ c.others;
        waiting = t.waiting;
        events = c.all ∙ ap (λ (fs : List Event). fs ++ c.later) t.events ∙ append_assoc t.past (WasReset y ∷ t.mid) c.later;
        outcomes = c.answered ∙ ap (λ (ps : List (Option Outcome)). ps ++ c.others) t.outcomes ∙ append_assoc t.answers (Some (ResetThere n t.waiting) ∷ t.mids) c.others;
        aligned = t.aligned;
      }

      count : length (taken y n c.events c.outcomes) ≡ length (taken y n t.past t.answers) + t.waiting
      count = let b = t.place in let d = took s y n c.events c.outcomes c.worlds c.passes in omega (arith, b, d)

  parted_there : IsPartedThere x n c.events c.outcomes ms
  parted_there = by_told (subst (ToldAt y n c.events c.outcomes) at_place.place (mark.first at_place.is_reset))

pub channels_are_faithful : ChannelsAreFaithful
channels_are_faithful s es os vs configured passes premises aged roles many rs left driven x n =
    let r = channels_say_what_was_sent s es os vs configured passes premises aged x n
    (λ a has on. driven_sends x (start s) (fresh_table (roles x) (many x)) es os vs (rs x) (left x) (driven x) a has) in (
      driven_says (other x) n (start s) (fresh_table (roles (other x)) (many (other x))) es os vs (rs (other x)) (left (other x)) (driven (other x)) passes (λ q. (refl, refl)) (start_sound s),
      (
        r.0,
        r.1,
        r.3,
        λ c. parted_there s es os vs x n (roles (other x)) (many (other x)) r.0 r.2
            (driven_takes (other x) n (start s) (fresh_table (roles (other x)) (many (other x))) es os vs (rs (other x)) (left (other x)) (driven (other x))) c,
      ),
    )
