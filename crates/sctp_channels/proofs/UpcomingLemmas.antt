-- What is told next, before it is.
use Rattle.std.proofs.Common.{◌≡◌, ℕ, ◌<◌, Bool, true, false, List, ◌∷◌, length, Option, Some, None, refl, sym, ap, ◌∙◌, subst}
use Rattle.std.specs.Prelude.{nat_le, if◌then◌else◌, ◌==◌}
use Rattle.sctp_model.specs.receiver.ReceiverView.{Handed, ReceiverView}
use Rattle.sctp_model.specs.receiver.SackMade.{first_taken}
use Rattle.sctp_model.specs.end.EndView.{EndView}
use Rattle.sctp_model.specs.end.UserCalls.{updating, UserTakes}
use Rattle.sctp_recv.specs.declared.message.Message as recv
use Rattle.sctp_dcep.specs.Content.{Content, DCEP, content_of}
use Rattle.sctp_dcep.specs.Dcep.{Parameters, Control, Opens, Acknowledges, Faulty, control_of}
use Rattle.sctp_channels.specs.declared.stream.Due.TheVariants.{Acknowledgement}
use Rattle.sctp_channels.specs.declared.stream.State.{State}
use Rattle.sctp_channels.specs.declared.stream.State.TheVariants.{Unused, Connecting, Unanswered, Open, Closing, Refused, Silent}
use Rattle.sctp_channels.specs.declared.stream.Stream.{Stream}
use Rattle.sctp_channels.specs.declared.table.DtlsRole.{DtlsRole}
use Rattle.sctp_channels.specs.Streams.{Table, stream_at, is_own, with_channel}
use Rattle.sctp_channels.specs.Told.{Told, Incoming, Opened, Message, Report, WrongHalf, NoWayBack}
use Rattle.sctp_channels.specs.Coming.{After, tells, refuses, begins, with_ack, control_comes, content_comes, other_comes, OfDcep, OfChannel, comes_saying, comes}
use Rattle.sctp_channels.specs.Calling.{outgoing}
use Rattle.sctp_channels.specs.Events.{Reported, first_taken_at, reports_taken, reports_waiting, reports_after, reports_message}
use Rattle.sctp_channels.specs.Meanings.{content_bytes}
use Rattle.sctp_channels.specs.inner.SaidMeans.{bytes_unless, content_told}
use Rattle.sctp_channels.specs.inner.Upcoming.{TellsNoMessage}
use Rattle.sctp_channels.specs.Writing.{FitsNot}
use Rattle.sctp_channels.proofs.HearingLemmas.{reported}
use Rattle.sctp_channels.proofs.ContentLemmas.{told_at_once}

-- ---- what a report tells

abbrev told_in : Option Report → Told
told_in None = Opened
told_in (Some r) = r.told

-- ---- a message that isn't told at once as a content is never told as one

begun : (role : DtlsRole) (n s : ℕ) (p : Parameters) (x : Stream) (c : Content) → (begins role n s p x).told ≡ Message c → ⊥
begun role n s p x c = go (is_own role s) (nat_le n s)
  where
    go : (a b : Bool) → (if a then refuses WrongHalf x else if b then refuses NoWayBack x else tells (Incoming p) (record (with_channel Open p.ordered p.reliability x) { due = Acknowledgement })).told ≡ Message c → ⊥
    go true b is = absurd (cc)
    go false true is = absurd (cc)
    go false false is = absurd (cc)

acked : (a : After) (k : Control) (x : Stream) (c : Content) → (a.told ≡ Message c → ⊥) → (with_ack a k x).told ≡ Message c → ⊥
acked a (Opens p) x c never is = absurd (cc)
acked a Acknowledges x c never is = never is
acked a (Faulty w) x c never is = absurd (cc)

opened_no : (c : Content) → Opened ≡ Message c → ⊥
opened_no c is = absurd (cc)

control_tells : (role : DtlsRole) (n s : ℕ) (t : State) (k : Control) (x : Stream) (c : Content) → (control_comes role n s t k x).told ≡ Message c → ⊥
control_tells role n s Unused (Opens p) x c is = begun role n s p x c is
control_tells role n s Unused Acknowledges x c is = absurd (cc)
control_tells role n s Unused (Faulty w) x c is = absurd (cc)
control_tells role n s Connecting k x c is = acked _ k x c (opened_no c) is
control_tells role n s Unanswered (Opens p) x c is = absurd (cc)
control_tells role n s Unanswered Acknowledges x c is = absurd (cc)
control_tells role n s Unanswered (Faulty w) x c is = absurd (cc)
control_tells role n s Open (Opens p) x c is = absurd (cc)
control_tells role n s Open Acknowledges x c is = absurd (cc)
control_tells role n s Open (Faulty w) x c is = absurd (cc)
control_tells role n s Closing k x c is = absurd (cc)
control_tells role n s Refused k x c is = absurd (cc)
control_tells role n s Silent k x c is = absurd (cc)

other_tells : (t : State) (x : Stream) (c : Content) → (other_comes t x).told ≡ Message c → ⊥
other_tells Unused x c is = absurd (cc)
other_tells Connecting x c is = absurd (cc)
other_tells Unanswered x c is = absurd (cc)
other_tells Open x c is = absurd (cc)
other_tells Closing x c is = absurd (cc)
other_tells Refused x c is = absurd (cc)
other_tells Silent x c is = absurd (cc)

content_tells : (t : State) (p : ℕ) (bytes : List ℕ) (k : Content) (x : Stream) (c : Content) → content_of p bytes ≡ Some k → None ≡ content_told t p bytes → (content_comes t k x).told ≡ Message c → ⊥
content_tells Unused p bytes k x c there none is = absurd (cc)
content_tells Connecting p bytes k x c there none is = absurd (cc)
content_tells Unanswered p bytes k x c there none is = absurd (cc)
content_tells Open p bytes k x c there none is = absurd (cc)
content_tells Closing p bytes k x c there none is = absurd (cc)
content_tells Refused p bytes k x c there none is = absurd (cc)
content_tells Silent p bytes k x c there none is = absurd (cc)

pub untold : (role : DtlsRole) (n s : ℕ) (h : Handed) (x : Stream) (c : Content) → None ≡ content_told x.state h.payload h.bytes → (comes role n s h x).told ≡ Message c → ⊥
untold role n s h x c none = go (h.payload == DCEP) (content_of h.payload h.bytes) refl
  where
    go : (b : Bool) (o : Option Content) → content_of h.payload h.bytes ≡ o → (comes_saying role n s (if b then OfDcep (control_of h.bytes) else OfChannel o) x).told ≡ Message c → ⊥
    go true o there is = control_tells role n s x.state (control_of h.bytes) x c is
    go false None there is = other_tells x.state x c is
    go false (Some k) there is = content_tells x.state h.payload h.bytes k x c there none is

-- whether it is taken or not, this is told
after_tells : (s : ℕ) (h : Handed) (rest : List Handed) (a : After) (v : EndView) (x : Table) → (reports_after s h rest a v x).report ≡ Some (record { stream = s; told = a.told })
after_tells s h rest a v x = go a.taken
  where
    go : (b : Bool) → (if b then reports_taken s h rest a v x else reports_waiting s a v x).report ≡ Some (record { stream = s; told = a.told })
    go true = refl
    go false = refl

pub tells_apart : (v : EndView) (x : Table) (s : ℕ) (h : Handed) (rest : List Handed) (y : Stream) → v.receiver.waiting s ≡ h ∷ rest → y ≡ stream_at x s → None ≡ content_told y.state h.payload h.bytes
    → TellsNoMessage (reports_message s (v.receiver.waiting s) v x)
tells_apart v x s h rest y waits kept none i c is =
    let a : After = comes x.role (outgoing v x) s h (stream_at x s) in
    let report = ap (λ (r : Reported). r.report) (reported v x s h rest a waits refl) ∙ after_tells s h rest a v x in
    let same : a.told ≡ Message c = ap told_in (sym report ∙ is) in
    untold x.role (outgoing v x) s h (stream_at x s) c (subst (λ (z : Stream). None ≡ content_told z.state h.payload h.bytes) kept none) same

-- ---- a message that is told, and is copied

-- the message that is taken is the one that waits
pub took_first : (v t : EndView) (s : ℕ) (h : Handed) (rest : List Handed) → UserTakes v s (Some h) t → v.receiver.waiting s ≡ h ∷ rest → t ≡ first_taken_at v s h rest
took_first v t s h rest takes waits =
    let there = takes.takes.1 in
    let more : takes.takes.0 ≡ rest = cc in
    takes.leaves ∙ (ap (λ (r : ReceiverView). updating (record v { receiver = r })) (takes.takes.2 ∙ ap (λ (ks : List Handed). first_taken v.receiver s h ks) more))

-- it is told as a content
pub content_report : (v : EndView) (x : Table) (s : ℕ) (h : Handed) (rest : List Handed) (y : Stream) (k : Content) → v.receiver.waiting s ≡ h ∷ rest → y ≡ stream_at x s
    → Some k ≡ content_told y.state h.payload h.bytes → reports_message s (v.receiver.waiting s) v x ≡ reports_taken s h rest (tells (Message k) (stream_at x s)) v x
content_report v x s h rest y k waits kept is =
    let told = subst (λ (z : Stream). Some k ≡ content_told z.state h.payload h.bytes) kept is in
    reported v x s h rest (tells (Message k) (stream_at x s)) waits (told_at_once x.role (outgoing v x) s h (stream_at x s) k told)

-- a buffer has no space for it
pub fits_not : (r : Reported) (s : ℕ) (h : Handed) (rest : List Handed) (y : Stream) (k : Content) (v : EndView) (x : Table) (room : ℕ) → r ≡ reports_taken s h rest (tells (Message k) y) v x
    → room < length k.bytes → FitsNot r room
fits_not r s h rest y k v x room is few i c told =
    let same : Message k ≡ Message c = ap told_in (sym (ap (λ (q : Reported). q.report) is) ∙ told) in
    let content : k ≡ c = cc in
    subst (λ (d : Content). room < length d.bytes) content few

-- a content, or none if it is empty
abbrev pub kept_unless : (empty : Bool) → recv.Message → Option recv.Message
kept_unless true m = None
kept_unless false m = Some m

pub kept_bytes : (empty : Bool) (m : recv.Message) (bytes : List ℕ) → content_bytes (Some m) ≡ bytes → content_bytes (kept_unless empty m) ≡ bytes_unless empty bytes
kept_bytes true m bytes is = refl
kept_bytes false m bytes is = is
