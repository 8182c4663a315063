-- A message is told.
use Rattle.std.proofs.Common.{◌≡◌, ℕ, suc, ◌+◌, ◌%◌, ◌≤◌, Bool, true, false, List, [], ◌∷◌, length, Option, Some, None, refl, sym, ap, ◌∙◌, subst, arith}
use Rattle.std.specs.Prelude.{nat_le, slice_get, if◌then◌else◌, option_map, ◌==◌, not}
use Rattle.std.proofs.lemmas.Bool.Decides.{nat_tests}
use Rattle.sctp_model.specs.receiver.ReceiverView.{Handed, ReceiverView}
use Rattle.sctp_recv.specs.HandedOf.{handed_of}
use Rattle.sctp_recv.specs.declared.message.Message.{Message}
use Rattle.sctp_channels.specs.declared.event.Event.{Event}
use Rattle.sctp_channels.specs.declared.event.Event.TheVariants as event
use Rattle.sctp_channels.specs.Meanings.{content_bytes, event_meaning}
use Rattle.sctp_channels.specs.Settling.{is_closed}
use Rattle.sctp_model.specs.receiver.SackMade.{first_taken}
use Rattle.sctp_model.specs.end.EndView.{EndView}
use Rattle.sctp_model.specs.end.UserCalls.{updating, UserTakes}
use Rattle.sctp_dcep.specs.Content.{Content}
use Rattle.sctp_dcep.specs.Dcep.{Parameters, Control, Opens, Acknowledges, Faulty}
use Rattle.sctp_channels.specs.declared.channels.Channels.{Channels}
use Rattle.sctp_channels.specs.declared.stream.Due.TheVariants.{Acknowledgement}
use Rattle.sctp_channels.specs.declared.stream.State.{State}
use Rattle.sctp_channels.specs.declared.stream.State.TheVariants.{Unused, Connecting, Unanswered, Open, Closing, Refused, Silent}
use Rattle.sctp_channels.specs.declared.stream.Stream.{Stream}
use Rattle.sctp_channels.specs.declared.table.DtlsRole.{DtlsRole}
use Rattle.sctp_channels.specs.Streams.{Table, stream_at, with_stream, is_own, with_channel, first_from}
use Rattle.sctp_channels.specs.Told.{Told, Incoming, Opened, WrongHalf, NoWayBack}
use Rattle.sctp_channels.specs.Coming.{After, tells, refuses, begins, with_ack, control_comes, content_comes, other_comes, Said, OfDcep, OfChannel, said_in, comes_saying, comes, one_taken, heard}
use Rattle.sctp_channels.specs.Buffered.{is_low}
use Rattle.sctp_channels.specs.Calling.{outgoing}
use Rattle.sctp_channels.specs.Events.{Reported, first_taken_at, one_on, reports_taken, reports_waiting, reports_after, reports_message, turn, reports_turn, reports_second, reports_first, next_report, freed_by, with_freed}
use Rattle.sctp_channels.specs.ChannelsStand.{ChannelsStand}
use Rattle.sctp_channels.specs.Telling.{Tells}

-- ---- the first message

pub first_waits : (hs : List Handed) (h : Handed) → slice_get hs 0 ≡ Some h → (rest : List Handed) × (hs ≡ h ∷ rest)
first_waits [] h is = absurd (cc)
first_waits (k ∷ rest) h is = let same : k ≡ h = cc in (rest, ap (λ (x : Handed). x ∷ rest) same)

pub none_waits : (hs : List Handed) → slice_get hs 0 ≡ None → hs ≡ []
none_waits [] is = refl
none_waits (k ∷ rest) is = absurd (cc)

-- ---- only one kind of message waits on

begun : (role : DtlsRole) (n s : ℕ) (p : Parameters) (x : Stream) → (begins role n s p x).taken ≡ true
begun role n s p x = go (is_own role s) (nat_le n s)
  where
    go : (a b : Bool) → (if a then refuses WrongHalf x else if b then refuses NoWayBack x else tells (Incoming p) (record (with_channel Open p.ordered p.reliability x) { due = Acknowledgement })).taken ≡ true
    go true b = refl
    go false true = refl
    go false false = refl

acked : (a : After) (k : Control) (x : Stream) → a.taken ≡ true → (with_ack a k x).taken ≡ true
acked a (Opens p) x is = refl
acked a Acknowledges x is = is
acked a (Faulty w) x is = refl

control_taken : (role : DtlsRole) (n s : ℕ) (t : State) (k : Control) (x : Stream) → (control_comes role n s t k x).taken ≡ true
control_taken role n s Unused (Opens p) x = begun role n s p x
control_taken role n s Unused Acknowledges x = refl
control_taken role n s Unused (Faulty w) x = refl
control_taken role n s Connecting k x = acked _ k x refl
control_taken role n s Unanswered k x = acked _ k x refl
control_taken role n s Open k x = acked _ k x refl
control_taken role n s Closing k x = refl
control_taken role n s Refused k x = refl
control_taken role n s Silent k x = refl

other_taken : (t : State) (x : Stream) → (other_comes t x).taken ≡ true
other_taken Unused x = refl
other_taken Connecting x = refl
other_taken Unanswered x = refl
other_taken Open x = refl
other_taken Closing x = refl
other_taken Refused x = refl
other_taken Silent x = refl

content_opens : (t : State) (c : Content) (x : Stream) → (content_comes t c x).taken ≡ false → (content_comes t c x).told ≡ Opened
content_opens Unused c x waits = absurd (cc)
content_opens Connecting c x waits = refl
content_opens Unanswered c x waits = absurd (cc)
content_opens Open c x waits = absurd (cc)
content_opens Closing c x waits = absurd (cc)
content_opens Refused c x waits = absurd (cc)
content_opens Silent c x waits = absurd (cc)

not_both : {A : Type 0} (b : Bool) → b ≡ true → b ≡ false → A
not_both true goes waits = absurd (cc)
not_both false goes waits = absurd (cc)

pub waiting_opens : (role : DtlsRole) (n s : ℕ) (k : Said) (x : Stream) → (comes_saying role n s k x).taken ≡ false → (comes_saying role n s k x).told ≡ Opened
waiting_opens role n s (OfDcep k) x waits = not_both _ (control_taken role n s x.state k x) waits
waiting_opens role n s (OfChannel (Some c)) x waits = content_opens x.state c x waits
waiting_opens role n s (OfChannel None) x waits = not_both _ (other_taken x.state x) waits

-- ---- the next stream

pub one_further : (s : ℕ) → s ≤ 65_535 → (s + 1) % 65_536 ≡ one_on s
one_further s low = go (s == 65_535) refl
  where
    go : (b : Bool) → (s == 65_535) ≡ b → (s + 1) % 65_536 ≡ (if b then 0 else suc s)
    go true is = let last : s ≡ 65_535 = grind (arith, nat_tests, is) in rw last refl
    go false is = omega (arith, low, other)
      where
        other : s ≡ 65_535 → ⊥
        other same = grind (arith, nat_tests, is, same)

-- ---- which report is next

pub next_turn : (v : EndView) (x : Table) (o : Option ℕ) → None ≡ first_from (is_closed v x) 0 (length x.streams) → None ≡ first_from (is_low v x) 0 (length x.streams) → o ≡ turn v x
    → next_report v x ≡ reports_turn o v x
next_turn v x o none high there =
    ap (λ (p : Option ℕ). reports_first p v x) (sym none) ∙ (ap (λ (p : Option ℕ). reports_second p v x) (sym high) ∙ ap (λ (p : Option ℕ). reports_turn p v x) (sym there))

-- ---- a message

-- what a message does, by equal things
pub came_as : (a : After) (role r : DtlsRole) (n m s : ℕ) (k j : Said) (y z : Stream) → a ≡ comes_saying role n s k y → role ≡ r → n ≡ m → k ≡ j → y ≡ z → a ≡ comes_saying r m s j z
came_as a role r n m s k j y z is roles many said kept =
    is ∙ (ap (λ (p : DtlsRole). comes_saying p n s k y) roles ∙ (ap (λ (p : ℕ). comes_saying r p s k y) many
    ∙ (ap (λ (p : Said). comes_saying r m s p y) said ∙ ap (λ (p : Stream). comes_saying r m s j p) kept)))

-- the report on it
pub reported : (v : EndView) (x : Table) (s : ℕ) (h : Handed) (rest : List Handed) (a : After) → v.receiver.waiting s ≡ h ∷ rest → a ≡ comes x.role (outgoing v x) s h (stream_at x s)
    → reports_message s (v.receiver.waiting s) v x ≡ reports_after s h rest a v x
reported v x s h rest a waits came = ap (λ (hs : List Handed). reports_message s hs v x) waits ∙ ap (λ (b : After). reports_after s h rest b v x) (sym came)

-- one that waits on
pub told_waiting : (v : EndView) (x : Table) (s : ℕ) (h : Handed) (rest : List Handed) (a : After) (c : Channels) → v.receiver.waiting s ≡ h ∷ rest
    → a ≡ comes x.role (outgoing v x) s h (stream_at x s) → a.taken ≡ false → ChannelsStand c v (with_stream x s a.stream)
    → Tells (with_freed (reports_message s (v.receiver.waiting s) v x)) (Some (event.Opened s)) c
told_waiting v x s h rest a c waits came stays stands =
    let after : reports_after s h rest a v x ≡ reports_waiting s a v x = ap (λ (b : Bool). if b then reports_taken s h rest a v x else reports_waiting s a v x) stays in
    let opened : a.told ≡ Opened = ap (λ (b : After). b.told) came ∙ waiting_opens x.role (outgoing v x) s (said_in h) (stream_at x s) (sym (ap (λ (b : After). b.taken) came) ∙ stays) in
    let same : heard a ≡ a.stream = ap (λ (b : Bool). if b then one_taken a.stream else a.stream) stays in
    subst (λ (r : Reported). Tells (with_freed r) (Some (event.Opened s)) c) (sym (reported v x s h rest a waits came ∙ after)) (record {
      report = ap (λ (t : Told). Some (record { stream = s; told = t })) (sym opened);
      stands = subst (λ (t : Told). ChannelsStand c v (freed_by t s v (with_stream x s (heard a)))) (sym opened) (subst (λ (y : Stream). ChannelsStand c v (with_stream x s y)) (sym same) stands);
    })

-- one that is taken, and its stream free behind it
pub told_taken : (v : EndView) (x : Table) (s : ℕ) (h : Handed) (rest : List Handed) (a : After) (e : Event) (c : Channels) → v.receiver.waiting s ≡ h ∷ rest
    → a ≡ comes x.role (outgoing v x) s h (stream_at x s) → a.taken ≡ true → event_meaning e ≡ record { stream = s; told = a.told }
    → ChannelsStand c (first_taken_at v s h rest) (freed_by a.told s (first_taken_at v s h rest) (record (with_stream x s (one_taken a.stream)) { next = one_on s }))
    → Tells (with_freed (reports_message s (v.receiver.waiting s) v x)) (Some e) c
told_taken v x s h rest a e c waits came goes says stands =
    let after : reports_after s h rest a v x ≡ reports_taken s h rest a v x = ap (λ (b : Bool). if b then reports_taken s h rest a v x else reports_waiting s a v x) goes in
    let same : heard a ≡ one_taken a.stream = ap (λ (b : Bool). if b then one_taken a.stream else a.stream) goes in
    let u : EndView = first_taken_at v s h rest in
    subst (λ (r : Reported). Tells (with_freed r) (Some e) c) (sym (reported v x s h rest a waits came ∙ after)) (record {
      report = ap Some says;
      stands = subst (λ (y : Stream). ChannelsStand c u (freed_by a.told s u (record (with_stream x s y) { next = one_on s }))) (sym same) stands;
    })

-- the message that the user takes is the one that waits
pub took : (v t : EndView) (s : ℕ) (o : Option Message) (h : Handed) (rest : List Handed) → UserTakes v s (option_map handed_of o) t → v.receiver.waiting s ≡ h ∷ rest
    → (content_bytes o ≡ h.bytes) × (t ≡ first_taken_at v s h rest)
took v t s None h rest takes waits = let empty = takes.takes.0 in absurd (cc)
took v t s (Some m) h rest takes waits =
    let there = takes.takes.1 in
    let first : handed_of m ≡ h = cc in
    let more : takes.takes.0 ≡ rest = cc in (
      ap (λ (k : Handed). k.bytes) first,
      takes.leaves ∙ (ap (λ (r : ReceiverView). updating (record v { receiver = r })) (takes.takes.2
          ∙ (ap (λ (k : Handed). first_taken v.receiver s k takes.takes.0) first ∙ ap (λ (ks : List Handed). first_taken v.receiver s h ks) more))),
    )

-- a test, the other way round
pub not_holds : (b : Bool) → not b ≡ true → b ≡ false
not_holds true is = absurd (cc)
not_holds false is = refl

pub not_fails : (b : Bool) → not b ≡ false → b ≡ true
not_fails true is = refl
not_fails false is = absurd (cc)
