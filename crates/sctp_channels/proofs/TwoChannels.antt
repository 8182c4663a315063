-- A stream is used by two channels, one after the other: two contents, the closing of the channel at both ends, and a content of the next one.
use Rattle.std.proofs.Common.{◌≡◌, ◌∙◌, ℕ, zero, suc, ◌≤◌, ◌==◌, if◌then◌else◌, Bool, true, false, List, [], ◌∷◌, take, drop, Option, Some, None, Ok, inl, inr, refl, sym, subst, ap, arith}
use Rattle.std.proofs.lemmas.Bool.Decides.{nat_tests}
use Rattle.sctp_model.specs.numbers.Lists.{Has, at}
use Rattle.sctp_model.specs.numbers.Numbers.{u16_bytes, u32_bytes, u16_at, u32_at}
use Rattle.sctp_model.specs.wire.Typed.{typed_of, starts_typed}
use Rattle.sctp_model.specs.receiver.ReceiverView.{Handed}
use Rattle.sctp_model.specs.end.EndView.{EndView}
use Rattle.sctp_model.specs.world.World.{Side, A, B, World, end_of, start}
use Rattle.sctp_model.specs.world.Events.{Event, Take, Outcome}
use Rattle.sctp_model.specs.world.Events as model
use Rattle.sctp_outcomes.specs.AllReported.{NoneIsLeft, HearsToldOnly}
use Rattle.sctp_outcomes.proofs.stories.Ours.{premises_of_ours}
use Rattle.sctp_outcomes.proofs.stories.TwoResets.{resetting, configured, opens}
use Rattle.sctp_outcomes.proofs.stories.TwoMessages.{taken, r0, r3, r4, r7, r8, step_1, step_2, step_3, step_4, step_5, step_6, step_7}
use Rattle.sctp_outcomes.proofs.stories.Reused.{r13, r16, r18, r19, r20, r22, r23, r24}
use Rattle.sctp_outcomes.proofs.stories.ReusedRun.{events, answers, worlds, passes}
use Rattle.sctp_dcep.specs.Content.{Content}
use Rattle.sctp_dcep.specs.Dcep.{Reliability, Reliable}
use Rattle.sctp_channels.specs.declared.stream.Due.TheVariants as due
use Rattle.sctp_channels.specs.declared.stream.State.TheVariants as state
use Rattle.sctp_channels.specs.declared.stream.Stream.{Stream}
use Rattle.sctp_channels.specs.declared.table.DtlsRole.{DtlsRole}
use Rattle.sctp_channels.specs.declared.table.DtlsRole.TheVariants.{Client, Server}
use Rattle.sctp_channels.specs.Streams.{unused, with_channel, Table, fresh_table, stream_at, with_stream, first_from}
use Rattle.sctp_channels.specs.Told.{Message, Closed, Report}
use Rattle.sctp_channels.specs.Coming.{peer_resets, left_over}
use Rattle.sctp_channels.specs.Calling.{negotiated_choice}
use Rattle.sctp_channels.specs.Settling.{without_due, is_closed}
use Rattle.sctp_channels.specs.Events.{Reported, is_readable, readable_from, or_else, turn, reports_turn, reports_first, next_report}
use Rattle.sctp_channels.specs.Driven.{is_call, closes, Moves, Elsewhere, Takes, Notes, Says, Closes, Resets, Driven, Rests, Goes, Tells, Agrees}
use Rattle.sctp_channels.specs.OneChannel.{IsTelling, IsOneChannel, TwoChannelsOnAStream}
use Rattle.sctp_channels.proofs.FirstLemmas.{none_from}

-- ---- contents, and their stream

abbrev text : (byte : ℕ) → Content
text b = record { text = true; bytes = b ∷ [] }

abbrev says_so : (byte : ℕ) → Report
says_so b = record { stream = 0; told = Message (text b) }

abbrev closed : Report
closed = record { stream = 0; told = Closed }

-- with a channel that both agreed on; as its user closes it, or the peer has reset it; and once both halves are reset
abbrev used : Stream
used = with_channel state.Open true Reliable unused

abbrev ended : Stream
ended = peer_resets 0 (closes used)

abbrev left : Stream
left = peer_resets 0 used

abbrev table : DtlsRole → (next : ℕ) → Stream → Table
table role n s = record { role = role; next = n; streams = s ∷ []; thresholds = [] }

-- ---- one event of a run that drives a table

-- it is elsewhere
elsewhere : {y : Side} {w v : World} {x u : Table} {e : Event} {o : Option Outcome} {es : List Event} {os : List (Option Outcome)} {vs : List World} {rs : List Report} →
    is_call y e ≡ false → Driven y v x es os vs rs u → Driven y w x (e ∷ es) (o ∷ os) (v ∷ vs) rs u
elsewhere {y} {w} {v} {x} {u} {e} {o} {es} {os} {vs} {rs} off more = Goes w v x x u e o es os vs [] rs (Elsewhere e o off) more

-- a call of which the user is told nothing
calls : {y : Side} {w v : World} {x z u : Table} {e : Event} {o : Option Outcome} {es : List Event} {os : List (Option Outcome)} {vs : List World} {rs : List Report} →
    Moves y (end_of w y) (end_of v y) x e o [] z → Driven y v z es os vs rs u → Driven y w x (e ∷ es) (o ∷ os) (v ∷ vs) rs u
calls {y} {w} {v} {x} {z} {u} {e} {o} {es} {os} {vs} {rs} moves more = Goes w v x z u e o es os vs [] rs moves more

-- a channel that both agree on
agrees : {y : Side} {w : World} {x u : Table} {es : List Event} {os : List (Option Outcome)} {vs : List World} {rs : List Report} → negotiated_choice (end_of w y) x Reliable 0 ≡ Ok 0 →
    Driven y w (with_stream x 0 (with_channel state.Open true Reliable (stream_at x 0))) es os vs rs u → Driven y w x es os vs rs u
agrees {y} {w} {x} {u} {es} {os} {vs} {rs} free more = Agrees w x u es os vs rs 0 0 true Reliable free more

-- this is told next, and nothing changes at the endpoint
tells : {y : Side} {w : World} {x z u : Table} {r : Report} {es : List Event} {os : List (Option Outcome)} {vs : List World} {rs : List Report} →
    next_report (end_of w y) x ≡ record { report = Some r; view = end_of w y; table = z } → Driven y w z es os vs rs u → Driven y w x es os vs (r ∷ rs) u
tells {y} {w} {x} {z} {u} {r} {es} {os} {vs} {rs} next more =
    Tells w x u es os vs r rs (ap (λ (t : Reported). t.report) next) (ap (λ (t : Reported). t.view) next)
    (subst (λ (t : Table). Driven y w t es os vs rs u) (sym (ap (λ (t : Reported). t.table) next)) more)

-- a message is taken of which this is told
takes : {y : Side} {w v : World} {x z u : Table} {h : Handed} {r : Report} {es : List Event} {os : List (Option Outcome)} {vs : List World} {rs : List Report} →
    next_report (end_of w y) x ≡ record { report = Some r; view = end_of v y; table = z } → (end_of v y).receiver.resets.told 0 ≡ None → Driven y v z es os vs rs u →
    Driven y w x (Take y 0 ∷ es) (Some (model.Message h) ∷ os) (v ∷ vs) (r ∷ rs) u
takes {y} {w} {v} {x} {z} {u} {h} {r} {es} {os} {vs} {rs} next none more =
    Goes w v x (next_report (end_of w y) x).table u (Take y 0) (Some (model.Message h)) es os vs (r ∷ []) rs
    (Takes 0 h r (ap (λ (t : Reported). t.report) next) (sym (ap (λ (t : Reported). t.view) next)) none)
    (subst (λ (t : Table). Driven y v t es os vs rs u) (sym (ap (λ (t : Reported). t.table) next)) more)

-- the channel is told closed
closed_first : (v : EndView) (role : DtlsRole) (n : ℕ) (s : Stream) → is_closed v (table role n s) 0 ≡ true → left_over s ≡ unused →
    next_report v (table role n s) ≡ record { report = Some closed; view = v; table = table role n unused }
closed_first v role n s on none =
    ap (λ (b : Bool). reports_first (if b then Some 0 else first_from (is_closed v (table role n s)) 1 0) v (table role n s)) on
    ∙ ap (λ (z : Stream). record { report = Some closed; view = v; table = table role n z }) none

tells_closed : {y : Side} {w : World} {u : Table} {es : List Event} {os : List (Option Outcome)} {vs : List World} {rs : List Report} (role : DtlsRole) (n : ℕ) (s : Stream) →
    is_closed (end_of w y) (table role n s) 0 ≡ true → left_over s ≡ unused → Driven y w (table role n unused) es os vs rs u → Driven y w (table role n s) es os vs (closed ∷ rs) u
tells_closed {y} {w} {u} {es} {os} {vs} {rs} role n s on none more = tells (closed_first (end_of w y) role n s on none) more

-- ---- which stream is next, where the first was read before

unread : (v : EndView) (x : Table) → ((q : ℕ) → 1 ≤ q → v.receiver.waiting q ≡ []) → (q : ℕ) → 1 ≤ q → is_readable v x q ≡ false
unread v x none q low = rw (none q low) refl

first_again : (v : EndView) (s : Stream) → ((q : ℕ) → 1 ≤ q → v.receiver.waiting q ≡ []) → readable_from v (table Server 1 s) 0 ≡ Some 0 → turn v (table Server 1 s) ≡ Some 0
first_again v s none now = ap (λ (o : Option ℕ). or_else o (readable_from v (table Server 1 s) 0)) (none_from (is_readable v (table Server 1 s)) 1 65_536 (unread v (table Server 1 s) none)) ∙ now

at_other : {T : Type 0} (f : ℕ → T) (i : ℕ) (t : T) (q : ℕ) → (q == i) ≡ false → at f i t q ≡ f q
at_other f i t q off = rw off refl

-- ---- what B is told

content_1 : next_report (end_of r3 B) (table Server 0 used) ≡ record { report = Some (says_so 97); view = end_of r4 B; table = table Server 1 used }
unfolding u16_bytes u32_bytes u16_at u32_at starts_typed typed_of
content_1 = refl

none_7 : (q : ℕ) → 1 ≤ q → (end_of r7 B).receiver.waiting q ≡ []
unfolding u16_bytes u32_bytes u16_at u32_at starts_typed typed_of
none_7 q low = let off : (q == 0) ≡ false = grind (arith, nat_tests, low) in rw off refl

content_2 : next_report (end_of r7 B) (table Server 1 used) ≡ record { report = Some (says_so 98); view = end_of r8 B; table = table Server 1 used }
unfolding u16_bytes u32_bytes u16_at u32_at starts_typed typed_of
content_2 = ap (λ (o : Option ℕ). reports_turn o (end_of r7 B) (table Server 1 used)) (first_again (end_of r7 B) used none_7 refl)

none_23 : (q : ℕ) → 1 ≤ q → (end_of r23 B).receiver.waiting q ≡ []
unfolding u16_bytes u32_bytes u16_at u32_at starts_typed typed_of
none_23 q low = let off : (q == 0) ≡ false = grind (arith, nat_tests, low) in rw off refl

content_3 : next_report (end_of r23 B) (table Server 1 used) ≡ record { report = Some (says_so 99); view = end_of r24 B; table = table Server 1 used }
unfolding u16_bytes u32_bytes u16_at u32_at starts_typed typed_of
content_3 = ap (λ (o : Option ℕ). reports_turn o (end_of r23 B) (table Server 1 used)) (first_again (end_of r23 B) used none_23 refl)

-- ---- both tables

driven_a : Driven A (start resetting) (fresh_table Client 1) events answers worlds (closed ∷ []) (table Client 0 used)
unfolding u16_bytes u32_bytes u16_at u32_at starts_typed typed_of
driven_a =
    elsewhere refl (agrees refl (calls (Says 0 1 0 (text 97) refl) (elsewhere refl (elsewhere refl (elsewhere refl (calls (Says 0 2 0 (text 98) refl) (elsewhere refl
    (elsewhere refl (elsewhere refl (elsewhere refl (elsewhere refl (calls (Closes 0 refl) (elsewhere refl (elsewhere refl (elsewhere refl (elsewhere refl (elsewhere refl
    (elsewhere refl (calls (Notes 0 0) (tells_closed Client 0 ended refl refl (agrees refl (elsewhere refl (elsewhere refl (calls (Says 0 3 0 (text 99) refl) (elsewhere refl (elsewhere refl
    (elsewhere refl (Rests r24 (table Client 0 used)))))))))))))))))))))))))))))

-- behind the events until the last content is told, until the closing is, until the reset is noted, and until each content before is told
driven_b_23 : Driven B r23 (table Server 1 used) (drop 24 events) (drop 24 answers) (drop 24 worlds) (says_so 99 ∷ []) (table Server 1 used)
unfolding u16_bytes u32_bytes u16_at u32_at starts_typed typed_of
driven_b_23 = takes {w = r23} {v = r24} content_3 refl (Rests r24 (table Server 1 used))

driven_b_20 : Driven B r20 (table Server 1 (without_due left)) (drop 21 events) (drop 21 answers) (drop 21 worlds) (closed ∷ says_so 99 ∷ []) (table Server 1 used)
unfolding u16_bytes u32_bytes u16_at u32_at starts_typed typed_of
driven_b_20 = tells_closed Server 1 (without_due left) refl refl (agrees refl (elsewhere refl (elsewhere refl (elsewhere refl driven_b_23))))

driven_b_13 : Driven B r13 (table Server 1 used) (drop 14 events) (drop 14 answers) (drop 14 worlds) (closed ∷ says_so 99 ∷ []) (table Server 1 used)
unfolding u16_bytes u32_bytes u16_at u32_at starts_typed typed_of
driven_b_13 = calls (Notes 0 0) (calls (Resets 0 model.Done refl (inl refl)) (elsewhere refl (elsewhere refl (elsewhere refl (elsewhere refl (elsewhere refl driven_b_20))))))

driven_b_7 : Driven B r7 (table Server 1 used) (drop 8 events) (drop 8 answers) (drop 8 worlds) (says_so 98 ∷ closed ∷ says_so 99 ∷ []) (table Server 1 used)
unfolding u16_bytes u32_bytes u16_at u32_at starts_typed typed_of
driven_b_7 = takes {w = r7} {v = r8} content_2 refl (elsewhere refl (elsewhere refl (elsewhere refl (elsewhere refl (elsewhere refl driven_b_13)))))

driven_b_3 : Driven B r3 (table Server 0 used) (drop 4 events) (drop 4 answers) (drop 4 worlds) (says_so 97 ∷ says_so 98 ∷ closed ∷ says_so 99 ∷ []) (table Server 1 used)
unfolding u16_bytes u32_bytes u16_at u32_at starts_typed typed_of
driven_b_3 = takes {w = r3} {v = r4} content_1 refl (elsewhere refl (elsewhere refl (elsewhere refl driven_b_7)))

driven_b : Driven B (start resetting) (fresh_table Server 1) events answers worlds (says_so 97 ∷ says_so 98 ∷ closed ∷ says_so 99 ∷ []) (table Server 1 used)
unfolding u16_bytes u32_bytes u16_at u32_at starts_typed typed_of
driven_b = elsewhere refl (agrees refl (elsewhere refl (elsewhere refl (elsewhere refl driven_b_3))))

-- ---- resets are noted in time

left_19 : (n : ℕ) → NoneIsLeft (end_of r19 B) n
unfolding u16_bytes u32_bytes u16_at u32_at starts_typed typed_of
left_19 zero = inl refl
left_19 (suc m) = inr (let one : (end_of r19 B).receiver.streams ≡ 1 = refl in omega (arith, one))

left_22 : (n : ℕ) → NoneIsLeft (end_of r22 B) n
unfolding u16_bytes u32_bytes u16_at u32_at starts_typed typed_of
left_22 zero = inl refl
left_22 (suc m) = inr (let one : (end_of r22 B).receiver.streams ≡ 1 = refl in omega (arith, one))

hears_a_17 : (n : ℕ) → HearsToldOnly A n r16 (drop 17 events) (drop 17 worlds)
unfolding u16_bytes u32_bytes u16_at u32_at starts_typed typed_of
hears_a_17 n = (inr (inl refl), (inl refl, (inl refl, (inl refl, (inl refl, (inl refl, (inl refl, (inl refl, tt))))))))

hears_a_9 : (n : ℕ) → HearsToldOnly A n r8 (drop 9 events) (drop 9 worlds)
unfolding u16_bytes u32_bytes u16_at u32_at starts_typed typed_of
hears_a_9 n = (inl refl, (inr (inl refl), (inl refl, (inl refl, (inl refl, (inl refl, (inl refl, (inl refl, hears_a_17 n))))))))

hears_a : (n : ℕ) → HearsToldOnly A n (start resetting) events worlds
unfolding u16_bytes u32_bytes u16_at u32_at starts_typed typed_of
hears_a n = (inl refl, (inl refl, (inl refl, (inl refl, (inl refl, (inl refl, (inl refl, (inl refl, (inl refl, hears_a_9 n)))))))))

hears_b_17 : (n : ℕ) → HearsToldOnly B n r16 (drop 17 events) (drop 17 worlds)
unfolding u16_bytes u32_bytes u16_at u32_at starts_typed typed_of
hears_b_17 n = (inl refl, (inl refl, (inl refl, (inr (left_19 n), (inl refl, (inl refl, (inr (left_22 n), (inl refl, tt))))))))

hears_b_9 : (n : ℕ) → HearsToldOnly B n r8 (drop 9 events) (drop 9 worlds)
unfolding u16_bytes u32_bytes u16_at u32_at starts_typed typed_of
hears_b_9 n = (inl refl, (inl refl, (inl refl, (inl refl, (inr (inl refl), (inl refl, (inl refl, (inl refl, hears_b_17 n))))))))

hears_b : (n : ℕ) → HearsToldOnly B n (start resetting) events worlds
unfolding u16_bytes u32_bytes u16_at u32_at starts_typed typed_of
hears_b n = (inl refl, (inl refl, (inl refl, (inr (inl refl), (inl refl, (inl refl, (inl refl, (inr (inl refl), (inl refl, hears_b_9 n)))))))))

hears : (y : Side) (n : ℕ) → HearsToldOnly y n (start resetting) events worlds
hears A n = hears_a n
hears B n = hears_b n

-- ---- two contents of one channel

-- the events until the first content is told, those until the second one is, and those behind; their answers, and worlds
first_told : IsTelling resetting B Server 1 0 (take 4 events) (take 4 answers) (take 4 worlds) [] (table Server 0 used) (text 97)
unfolding u16_bytes u32_bytes u16_at u32_at starts_typed typed_of
first_told = record {
  passes = (opens, (step_1, (step_2, (step_3, tt))));
  driven = elsewhere refl (agrees refl (elsewhere refl (elsewhere refl (elsewhere refl (Rests r3 (table Server 0 used))))));
  noted = refl;
  tells = refl;
}

goes_on : Driven B r3 (table Server 0 used) (take 4 (drop 4 events)) (take 4 (drop 4 answers)) (take 4 (drop 4 worlds)) (says_so 97 ∷ []) (table Server 1 used)
unfolding u16_bytes u32_bytes u16_at u32_at starts_typed typed_of
goes_on = takes content_1 refl (elsewhere refl (elsewhere refl (elsewhere refl (Rests r7 (table Server 1 used)))))

second_told : IsTelling resetting B Server 1 0 (take 8 events) (take 8 answers) (take 8 worlds) (says_so 97 ∷ []) (table Server 1 used) (text 98)
unfolding u16_bytes u32_bytes u16_at u32_at starts_typed typed_of
second_told = record {
  passes = (opens, (step_1, (step_2, (step_3, (step_4, (step_5, (step_6, (step_7, tt))))))));
  driven = elsewhere refl (agrees refl (elsewhere refl (elsewhere refl (elsewhere refl goes_on))));
  noted = refl;
  tells = ap (λ (t : Reported). t.report) content_2;
}

is_one : IsOneChannel resetting B Server 1 0 events answers worlds
unfolding u16_bytes u32_bytes u16_at u32_at starts_typed typed_of
is_one = record {
  events = take 4 events;
  between = take 4 (drop 4 events);
  later = drop 8 events;
  outcomes = take 4 answers;
  answers = take 4 (drop 4 answers);
  others = drop 8 answers;
  all = refl;
  answered = refl;
  worlds = take 4 worlds;
  beyond = take 4 (drop 4 worlds);
  after = drop 8 worlds;
  through = refl;
  told = [];
  behind = says_so 97 ∷ [];
  table = table Server 0 used;
  last = table Server 1 used;
  one = text 97;
  another = text 98;
  first = first_told;
  goes_on = goes_on;
  unclosed = none_closed;
  second = second_told;
}
  where
    none_closed : (r : Report) → Has (says_so 97 ∷ []) r → r ≡ closed → ⊥
    none_closed r (inl is) same = let told : Message (text 97) ≡ Closed = ap (λ (t : Report). t.told) (is ∙ same) in absurd (cc)
    none_closed r (inr none) same = absurd none

pub two_channels_on_a_stream : TwoChannelsOnAStream
unfolding u16_bytes u32_bytes u16_at u32_at starts_typed typed_of
two_channels_on_a_stream = record {
  setup = resetting;
  configured = configured;
  events = events;
  outcomes = answers;
  worlds = worlds;
  passes = passes;
  premises = premises_of_ours resetting.sealing events refl;
  of_a = Client;
  of_b = Server;
  told_a = closed ∷ [];
  left_a = table Client 0 used;
  driven_a = driven_a;
  left_b = table Server 1 used;
  one = text 97;
  another = text 98;
  next = text 99;
  driven_b = driven_b;
  hears = hears;
  channel = is_one;
}
