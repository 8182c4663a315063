-- A content that is all that a message tells.
use Rattle.std.proofs.Common.{◌≡◌, ℕ, Bool, true, false, List, ◌∷◌, Option, Some, None, refl, sym, ap, ◌∙◌, subst, arith}
use Rattle.std.specs.Prelude.{◌-◌, ◌==◌, if◌then◌else◌}
use Rattle.std.proofs.lemmas.Bool.Decides.{nat_tests}
use Rattle.std.proofs.lemmas.List.{set-get_or}
use Rattle.sctp_model.specs.receiver.ReceiverView.{Handed}
use Rattle.sctp_model.specs.end.EndView.{EndView}
use Rattle.sctp_dcep.specs.Content.{Content, DCEP, content_of}
use Rattle.sctp_dcep.specs.Dcep.{control_of}
use Rattle.sctp_channels.specs.declared.channels.Channels.{Channels}
use Rattle.sctp_channels.specs.declared.event.Event.{Event}
use Rattle.sctp_channels.specs.declared.stream.State.{State}
use Rattle.sctp_channels.specs.declared.stream.State.TheVariants.{Unused, Connecting, Unanswered, Open, Closing, Refused, Silent}
use Rattle.sctp_channels.specs.declared.stream.Stream.{Stream}
use Rattle.sctp_channels.specs.declared.table.DtlsRole.{DtlsRole}
use Rattle.sctp_channels.specs.Streams.{is_reset, unused, Table, stream_at, with_stream}
use Rattle.sctp_channels.specs.Told.{Message}
use Rattle.sctp_channels.specs.Coming.{tells, content_comes, OfDcep, OfChannel, comes_saying, comes, leaving, one_taken}
use Rattle.sctp_channels.specs.Calling.{outgoing}
use Rattle.sctp_channels.specs.Events.{Reported, reports_taken, reports_message, with_freed}
use Rattle.sctp_channels.specs.Telling.{Tells}
use Rattle.sctp_channels.specs.inner.SaidMeans.{content_told}
use Rattle.sctp_channels.proofs.HearingLemmas.{reported}

-- ---- it is what the message does

-- the message is a content, and it is told
by_state : (t : State) (p : ℕ) (bytes : List ℕ) (k : Content) (x : Stream) → Some k ≡ content_told t p bytes → (content_of p bytes ≡ Some k) × (tells (Message k) x ≡ content_comes t k x)
by_state Unused p bytes k x is = absurd (cc)
by_state Connecting p bytes k x is = absurd (cc)
by_state Unanswered p bytes k x is = (sym is, refl)
by_state Open p bytes k x is = (sym is, refl)
by_state Closing p bytes k x is = (sym is, refl)
by_state Refused p bytes k x is = absurd (cc)
by_state Silent p bytes k x is = absurd (cc)

-- a message of DCEP is none
not_dcep : (p : ℕ) (bytes : List ℕ) (k : Content) → content_of p bytes ≡ Some k → (p == DCEP) ≡ false
not_dcep p bytes k is = go (p == DCEP) refl
  where
    none : p ≡ 50 → None ≡ Some k
    none same = ap (λ (q : ℕ). content_of q bytes) (sym same) ∙ is

    go : (b : Bool) → (p == DCEP) ≡ b → b ≡ false
    go true holds = absurd (let same : p ≡ 50 = grind (arith, nat_tests, holds) in let no = none same in cc)
    go false holds = refl

-- so this is what comes of it
pub told_at_once : (role : DtlsRole) (n s : ℕ) (h : Handed) (x : Stream) (k : Content) → Some k ≡ content_told x.state h.payload h.bytes → tells (Message k) x ≡ comes role n s h x
told_at_once role n s h x k is =
    let by = by_state x.state h.payload h.bytes k x is in
    let off = not_dcep h.payload h.bytes k by.0 in
    sym (ap (λ (b : Bool). comes_saying role n s (if b then OfDcep (control_of h.bytes) else OfChannel (content_of h.payload h.bytes)) x) off
    ∙ (ap (λ (o : Option Content). comes_saying role n s (OfChannel o) x) by.0 ∙ sym by.1))

-- ---- and this is told of it

pub told_content : (v : EndView) (x : Table) (s : ℕ) (h : Handed) (rest : List Handed) (y : Stream) (k : Content) (e : Event) (c : Channels) → v.receiver.waiting s ≡ h ∷ rest → y ≡ stream_at x s
    → Some k ≡ content_told y.state h.payload h.bytes → Tells (reports_taken s h rest (tells (Message k) y) v x) (Some e) c → Tells (with_freed (reports_message s (v.receiver.waiting s) v x)) (Some e) c
told_content v x s h rest y k e c waits kept is told =
    let came = told_at_once x.role (outgoing v x) s h y k is ∙ ap (λ (z : Stream). comes x.role (outgoing v x) s h z) kept in
    subst (λ (r : Reported). Tells (with_freed r) (Some e) c) (sym (reported v x s h rest (tells (Message k) y) waits came)) told

-- ---- it counts only once the peer has reset the stream

pub uncounted : (x : Table) (s : ℕ) (y : Stream) → is_reset y.resets ≡ false → y ≡ stream_at x s → x ≡ with_stream x s (one_taken y)
uncounted x s y off kept =
    let same : one_taken y ≡ stream_at x s = ap (λ (b : Bool). if b then leaving (y.left - 1) (record y { again = y.again - 1 }) else y) off ∙ kept in
    sym (ap (λ (z : Stream). with_stream x s z) same ∙ ap (λ (ys : List Stream). record x { streams = ys }) (set-get_or x.streams s unused))
