-- What is told was taken and sent, and how a reset of the peer's parts a stream's channels.
use Rattle.std.proofs.Common.{◌≡◌, ◌⊎◌, ℕ, zero, suc, ◌+◌, ◌-◌, ◌<◌, ◌≤◌, ◌==◌, not, ◌&&◌, Bool, true, false, List, [], ◌∷◌, ◌++◌, length, length-append, Option, Some, None, is_some, inl, inr, refl, sym, subst, ap, ◌∙◌, arith, if◌then◌else◌}
use Rattle.std.specs.Prelude.{nat_le, max, slice_index_or}
use Rattle.std.proofs.lemmas.Bool.{and_parts, cases_lt}
use Rattle.std.proofs.lemmas.Bool.Decides.{nat_tests}
use lib.Seq.{get_or-set_same, get_or-set_other}
use Rattle.sctp_model.specs.numbers.Lists.{at}
use Rattle.sctp_model.specs.receiver.ReceiverView.{Handed}
use Rattle.sctp_model.specs.receiver.ResetTaken.{old_waiting}
use Rattle.sctp_model.specs.world.Calls.{Call}
use Rattle.sctp_model.specs.end.EndView.{EndView, Ended, ended_of}
use Rattle.sctp_outcomes.proofs.users.PartedRuns.{resets_part_messages}
use Rattle.sctp_dcep.specs.Content.{Content, DCEP, id_of, carried, content_of}
use Rattle.sctp_dcep.specs.Dcep.{Parameters, Control, Opens, Acknowledges, Faulty, control_of}
use Rattle.sctp_channels.specs.declared.stream.State.{State}
use Rattle.sctp_channels.specs.declared.stream.State.TheVariants.{Unused, Connecting, Unanswered, Open, Closing, Refused, Silent}
use Rattle.sctp_channels.specs.declared.stream.Resets.{Resets}
use Rattle.sctp_channels.specs.declared.stream.Resets.TheVariants.{One, Two}
use Rattle.sctp_channels.specs.declared.stream.Stream.{Stream}
use Rattle.sctp_channels.specs.declared.table.DtlsRole.{DtlsRole}
use Rattle.sctp_channels.specs.Streams.{unused, is_reset, is_drained, Table, stream_at, with_stream, is_own, first_from}
use Rattle.sctp_channels.specs.Told.{WrongHalf, NoWayBack, Told, Message, Closed, BufferedAmountLow, Report}
use Rattle.sctp_channels.specs.Coming.{After, tells, begins, refuses, control_comes, content_comes, other_comes, data_comes, Said, OfDcep, OfChannel, said_in, comes_saying, comes, half_closed, leaving, heard, peer_resets, left_over}
use Rattle.sctp_channels.specs.Coming.{Said}
use Rattle.sctp_channels.specs.Buffered.{is_low, with_low_told}
use Rattle.sctp_channels.specs.Calling.{outgoing}
use Rattle.sctp_channels.specs.Settling.{is_closing, is_asked, is_resetting_out, is_closed}
use Rattle.sctp_channels.specs.Events.{Reported, first_taken_at, quiet, reports_closed, reports_low, reports_message, reports_after, reports_taken, reports_waiting, is_empty, is_readable, readable_from, or_else, turn, is_used, reports_end, reports_turn, reports_second, reports_first, next_report, with_left_over, with_reset}
use Rattle.sctp_channels.specs.Promise.{ContentsAreTaken, HasPlace, ResetsAreNoted, PlacesAreKept, ClosedAtThePlace, IsOfContent, IsOfChannels, ChannelsSayWhatWasSent}

-- ---- what a message leaves of the mark of a reset

pub record Keeps (x y : Stream) : Type 0 where
  pub left : y.left ≡ x.left
  pub again : y.again ≡ x.again
  pub resets : y.resets ≡ x.resets

same : (x : Stream) → Keeps x x
same x = record { left = refl; again = refl; resets = refl }

begins_keeps : (role : DtlsRole) (o s : ℕ) (p : Parameters) (x : Stream) → Keeps x (begins role o s p x).stream
begins_keeps role o s p x = go (is_own role s) (nat_le o s)
  where
    go : (a b : Bool) → Keeps x (if a then refuses WrongHalf x else if b then refuses NoWayBack x else tells (Rattle.sctp_channels.specs.Told.Incoming p) (record (Rattle.sctp_channels.specs.Streams.with_channel Open p.ordered p.reliability x) { due = Rattle.sctp_channels.specs.declared.stream.Due.TheVariants.Acknowledgement })).stream
    go true b = record { left = refl; again = refl; resets = refl }
    go false true = record { left = refl; again = refl; resets = refl }
    go false false = record { left = refl; again = refl; resets = refl }

control_keeps : (role : DtlsRole) (o s : ℕ) (t : State) (k : Control) (x : Stream) → Keeps x (control_comes role o s t k x).stream
control_keeps role o s Unused (Opens p) x = begins_keeps role o s p x
control_keeps role o s Unused Acknowledges x = same x
control_keeps role o s Unused (Faulty w) x = record { left = refl; again = refl; resets = refl }
control_keeps role o s Connecting (Opens p) x = same x
control_keeps role o s Connecting Acknowledges x = record { left = refl; again = refl; resets = refl }
control_keeps role o s Connecting (Faulty w) x = same x
control_keeps role o s Unanswered (Opens p) x = same x
control_keeps role o s Unanswered Acknowledges x = record { left = refl; again = refl; resets = refl }
control_keeps role o s Unanswered (Faulty w) x = same x
control_keeps role o s Open (Opens p) x = same x
control_keeps role o s Open Acknowledges x = same x
control_keeps role o s Open (Faulty w) x = same x
control_keeps role o s Closing k x = same x
control_keeps role o s Refused k x = same x
control_keeps role o s Silent k x = same x

content_keeps : (t : State) (c : Content) (x : Stream) → Keeps x (content_comes t c x).stream
content_keeps Unused c x = same x
content_keeps Connecting c x = record { left = refl; again = refl; resets = refl }
content_keeps Unanswered c x = same x
content_keeps Open c x = same x
content_keeps Closing c x = same x
content_keeps Refused c x = same x
content_keeps Silent c x = same x

other_keeps : (t : State) (x : Stream) → Keeps x (other_comes t x).stream
other_keeps Unused x = same x
other_keeps Connecting x = same x
other_keeps Unanswered x = same x
other_keeps Open x = same x
other_keeps Closing x = same x
other_keeps Refused x = same x
other_keeps Silent x = same x

pub comes_keeps : (role : DtlsRole) (o s : ℕ) (h : Handed) (x : Stream) → Keeps x (comes role o s h x).stream
comes_keeps role o s h x = go (said_in h)
  where
    go : (y : Said) → Keeps x (comes_saying role o s y x).stream
    go (OfDcep k) = control_keeps role o s x.state k x
    go (OfChannel (Some c)) = content_keeps x.state c x
    go (OfChannel None) = other_keeps x.state x

half_keeps : (t : State) (x : Stream) → Keeps x (half_closed t x)
half_keeps Unused x = record { left = refl; again = refl; resets = refl }
half_keeps Connecting x = record { left = refl; again = refl; resets = refl }
half_keeps Unanswered x = record { left = refl; again = refl; resets = refl }
half_keeps Open x = record { left = refl; again = refl; resets = refl }
half_keeps Closing x = record { left = refl; again = refl; resets = refl }
half_keeps Refused x = record { left = refl; again = refl; resets = refl }
half_keeps Silent x = record { left = refl; again = refl; resets = refl }

-- so many are left
abbrev IsLeft : (n : ℕ) (x y : Stream) → Type 0
IsLeft n x y = (y.left ≡ n) × (y.resets ≡ x.resets) × (y.again ≡ x.again)

pub left_is : (n : ℕ) (x : Stream) → ((leaving n x).left ≡ n) × ((leaving n x).resets ≡ x.resets) × ((leaving n x).again ≡ x.again)
left_is n x = go (n == 0) refl
  where
    go : (b : Bool) → (n == 0) ≡ b → IsLeft n x (if b then half_closed x.state (record x { left = 0 }) else record x { left = n })
    go true is =
        let k = half_keeps x.state (record x { left = 0 }) in
        let none : 0 ≡ n = grind (arith, nat_tests, is) in
        (k.left ∙ none, k.resets, k.again)
    go false is = (refl, refl, refl)

-- ---- what a message tells

pub tells_no : (role : DtlsRole) (o s : ℕ) (t : State) (k : Control) (x : Stream) (c : Content) → (control_comes role o s t k x).told ≡ Message c → ⊥
tells_no role o s Unused (Opens p) x c is = go (is_own role s) (nat_le o s) is
  where
    go : (a b : Bool) → (if a then refuses WrongHalf x else if b then refuses NoWayBack x else tells (Rattle.sctp_channels.specs.Told.Incoming p) (record (Rattle.sctp_channels.specs.Streams.with_channel Open p.ordered p.reliability x) { due = Rattle.sctp_channels.specs.declared.stream.Due.TheVariants.Acknowledgement })).told ≡ Message c → ⊥
    go true b h = cc
    go false true h = cc
    go false false h = cc
tells_no role o s Unused Acknowledges x c is = cc
tells_no role o s Unused (Faulty w) x c is = cc
tells_no role o s Connecting (Opens p) x c is = cc
tells_no role o s Connecting Acknowledges x c is = cc
tells_no role o s Connecting (Faulty w) x c is = cc
tells_no role o s Unanswered (Opens p) x c is = cc
tells_no role o s Unanswered Acknowledges x c is = cc
tells_no role o s Unanswered (Faulty w) x c is = cc
tells_no role o s Open (Opens p) x c is = cc
tells_no role o s Open Acknowledges x c is = cc
tells_no role o s Open (Faulty w) x c is = cc
tells_no role o s Closing k x c is = cc
tells_no role o s Refused k x c is = cc
tells_no role o s Silent k x c is = cc

content_tells : (t : State) (d : Content) (x : Stream) (c : Content) → (content_comes t d x).told ≡ Message c → (d ≡ c) × ((content_comes t d x).taken ≡ true)
content_tells Unused d x c is = absurd (cc)
content_tells Connecting d x c is = absurd (cc)
content_tells Unanswered d x c is = (cc is, refl)
content_tells Open d x c is = (cc is, refl)
content_tells Closing d x c is = (cc is, refl)
content_tells Refused d x c is = absurd (cc)
content_tells Silent d x c is = absurd (cc)

pub other_tells : (t : State) (x : Stream) (c : Content) → (other_comes t x).told ≡ Message c → ⊥
other_tells Unused x c is = cc
other_tells Connecting x c is = cc
other_tells Unanswered x c is = cc
other_tells Open x c is = cc
other_tells Closing x c is = cc
other_tells Refused x c is = cc
other_tells Silent x c is = cc

comes_tells : (role : DtlsRole) (o s : ℕ) (h : Handed) (x : Stream) (c : Content) → (comes role o s h x).told ≡ Message c → (content_of h.payload h.bytes ≡ Some c) × ((comes role o s h x).taken ≡ true)
comes_tells role o s h x c is = go (h.payload == DCEP) is
  where
    by_content : (d : Option Content) → (data_comes d x).told ≡ Message c → (d ≡ Some c) × ((data_comes d x).taken ≡ true)
    by_content (Some d) there = let k = content_tells x.state d x c there in (ap (λ (y : Content). Some y) k.0, k.1)
    by_content None there = absurd (other_tells x.state x c there)

    go : (b : Bool) → (comes_saying role o s (if b then OfDcep (control_of h.bytes) else OfChannel (content_of h.payload h.bytes)) x).told ≡ Message c →
        (content_of h.payload h.bytes ≡ Some c) × ((comes_saying role o s (if b then OfDcep (control_of h.bytes) else OfChannel (content_of h.payload h.bytes)) x).taken ≡ true)
    go true there = absurd (tells_no role o s x.state (control_of h.bytes) x c there)
    go false there = by_content (content_of h.payload h.bytes) there

-- no message tells that the channel is closed
not_closed : (role : DtlsRole) (o s : ℕ) (t : State) (k : Control) (x : Stream) → (control_comes role o s t k x).told ≡ Closed → ⊥
not_closed role o s Unused (Opens p) x is = go (is_own role s) (nat_le o s) is
  where
    go : (a b : Bool) → (if a then refuses WrongHalf x else if b then refuses NoWayBack x else tells (Rattle.sctp_channels.specs.Told.Incoming p) (record (Rattle.sctp_channels.specs.Streams.with_channel Open p.ordered p.reliability x) { due = Rattle.sctp_channels.specs.declared.stream.Due.TheVariants.Acknowledgement })).told ≡ Closed → ⊥
    go true b h = cc
    go false true h = cc
    go false false h = cc
not_closed role o s Unused Acknowledges x is = cc
not_closed role o s Unused (Faulty w) x is = cc
not_closed role o s Connecting (Opens p) x is = cc
not_closed role o s Connecting Acknowledges x is = cc
not_closed role o s Connecting (Faulty w) x is = cc
not_closed role o s Unanswered (Opens p) x is = cc
not_closed role o s Unanswered Acknowledges x is = cc
not_closed role o s Unanswered (Faulty w) x is = cc
not_closed role o s Open (Opens p) x is = cc
not_closed role o s Open Acknowledges x is = cc
not_closed role o s Open (Faulty w) x is = cc
not_closed role o s Closing k x is = cc
not_closed role o s Refused k x is = cc
not_closed role o s Silent k x is = cc

content_open : (t : State) (d : Content) (x : Stream) → (content_comes t d x).told ≡ Closed → ⊥
content_open Unused d x is = cc
content_open Connecting d x is = cc
content_open Unanswered d x is = cc
content_open Open d x is = cc
content_open Closing d x is = cc
content_open Refused d x is = cc
content_open Silent d x is = cc

other_open : (t : State) (x : Stream) → (other_comes t x).told ≡ Closed → ⊥
other_open Unused x is = cc
other_open Connecting x is = cc
other_open Unanswered x is = cc
other_open Open x is = cc
other_open Closing x is = cc
other_open Refused x is = cc
other_open Silent x is = cc

pub comes_open : (role : DtlsRole) (o s : ℕ) (h : Handed) (x : Stream) → (comes role o s h x).told ≡ Closed → ⊥
comes_open role o s h x is = go (said_in h) is
  where
    go : (y : Said) → (comes_saying role o s y x).told ≡ Closed → ⊥
    go (OfDcep k) there = not_closed role o s x.state k x there
    go (OfChannel (Some c)) there = content_open x.state c x there
    go (OfChannel None) there = other_open x.state x there

-- ---- streams of a table

pub beyond : (xs : List Stream) (i : ℕ) (d : Stream) → length xs ≤ i → slice_index_or xs i d ≡ d
beyond [] zero d le = refl
beyond [] (suc i) d le = refl
beyond (x ∷ xs) zero d le = absurd (omega (arith, le))
beyond (x ∷ xs) (suc i) d le = beyond xs i d (omega (arith, le))

pub at_same : (x : Table) (s : ℕ) (y : Stream) → s < length x.streams → stream_at (with_stream x s y) s ≡ y
at_same x s y lt = get_or-set_same x.streams s y unused lt

pub at_other : (x : Table) (i s : ℕ) (y : Stream) → (s ≡ i → ⊥) → stream_at (with_stream x i y) s ≡ stream_at x s
at_other x i s y ne = get_or-set_other x.streams i s y unused ne

pub same_or_not : (i s : ℕ) → (i ≡ s) ⊎ (s ≡ i → ⊥)
same_or_not i s = go (i == s) refl
  where
    go : (b : Bool) → (i == s) ≡ b → (i ≡ s) ⊎ (s ≡ i → ⊥)
    go true is = inl (let e : i ≡ s = grind (arith, nat_tests, is) in e)
    go false is = inr (λ e. grind (arith, nat_tests, is, e))

pub within : (v : EndView) (x : Table) (s n : ℕ) → HasPlace v x s n → s < length x.streams
within v x s n p = go (cases_lt s (length x.streams))
  where
    go : (s < length x.streams) ⊎ (length x.streams ≤ s) → s < length x.streams
    go (inl lt) = lt
    go (inr le) = absurd (let none = ap (λ (y : Stream). is_reset y.resets) (beyond x.streams s unused le) in let on = p.is_reset in cc)

-- ---- which event is next

first_passes : (test : ℕ → Bool) (i many j : ℕ) → first_from test i many ≡ Some j → test j ≡ true
first_passes test i zero j is = absurd (cc)
first_passes test i (suc n) j is = go (test i) refl is (λ further. first_passes test (suc i) n j further)
  where
    go : (b : Bool) → test i ≡ b → (if b then Some i else first_from test (suc i) n) ≡ Some j → (first_from test (suc i) n ≡ Some j → test j ≡ true) → test j ≡ true
    go true on here further = let e : i ≡ j = cc here in subst (λ (k : ℕ). test k ≡ true) e on
    go false off here further = further here

pub turn_passes : (v : EndView) (x : Table) (j : ℕ) → turn v x ≡ Some j → is_readable v x j ≡ true
turn_passes v x j is = go (readable_from v x x.next) refl is
  where
    go : (o : Option ℕ) → readable_from v x x.next ≡ o → or_else o (readable_from v x 0) ≡ Some j → is_readable v x j ≡ true
    go (Some i) first here = first_passes (is_readable v x) x.next (65_536 - x.next) j (first ∙ here)
    go None first here = first_passes (is_readable v x) 0 (65_536 - 0) j here

pub report_turns : (P : Reported → Type 0) (v : EndView) (x : Table) → ((i : ℕ) → is_closed v x i ≡ true → P (reports_closed i v x)) →
    ((i : ℕ) → P (reports_low i v x)) → ((i : ℕ) → turn v x ≡ Some i → P (reports_message i (v.receiver.waiting i) v x)) → P (quiet v x) →
    ((i : ℕ) → is_some (ended_of v.phase) ≡ true → turn v x ≡ None → P (reports_closed i v x)) → P (next_report v x)
report_turns P v x closed low readable none over = first (first_from (is_closed v x) 0 (length x.streams)) refl
  where
    ends : (o : Option ℕ) → is_some (ended_of v.phase) ≡ true → turn v x ≡ None → P (reports_end o v x)
    ends (Some i) on idle = over i on idle
    ends None on idle = none

    third : (b : Bool) → is_some (ended_of v.phase) ≡ b → turn v x ≡ None → P (if b then reports_end (first_from (is_used x) 0 (length x.streams)) v x else quiet v x)
    third true on idle = ends (first_from (is_used x) 0 (length x.streams)) on idle
    third false off idle = none

    second : (o : Option ℕ) → turn v x ≡ o → P (reports_turn o v x)
    second (Some i) is = readable i is
    second None is = third (is_some (ended_of v.phase)) refl is

    by_low : (o : Option ℕ) → P (reports_second o v x)
    by_low (Some i) = low i
    by_low None = second (turn v x) refl

    first : (o : Option ℕ) → first_from (is_closed v x) 0 (length x.streams) ≡ o → P (reports_first o v x)
    first (Some i) is = closed i (first_passes (is_closed v x) 0 (length x.streams) i is)
    first None is = by_low (first_from (is_low v x) 0 (length x.streams))

pub report_cases : (P : Reported → Type 0) (v : EndView) (x : Table) → ((i : ℕ) → is_closed v x i ≡ true → P (reports_closed i v x)) →
    ((i : ℕ) → P (reports_low i v x)) → ((i : ℕ) → is_readable v x i ≡ true → P (reports_message i (v.receiver.waiting i) v x)) → P (quiet v x) →
    ((i : ℕ) → is_some (ended_of v.phase) ≡ true → P (reports_closed i v x)) → P (next_report v x)
report_cases P v x closed low readable none over = report_turns P v x closed low (λ i is. readable i (turn_passes v x i is)) none (λ i on idle. over i on)

-- what is told is one
or_report : Option Report → Report
or_report (Some r) = r
or_report None = record { stream = 0; told = Closed }

pub one_report : (i s : ℕ) (t u : Told) → ◌≡◌ {A = Option Report} (Some (record { stream = i; told = t })) (Some (record { stream = s; told = u })) → (i ≡ s) × (t ≡ u)
unfolding or_report
one_report i s t u is = (ap (λ (o : Option Report). (or_report o).stream) is, ap (λ (o : Option Report). (or_report o).told) is)

closed_says_nothing : (c : Content) → Closed ≡ Message c → ⊥
closed_says_nothing c is = cc

low_says_nothing : (c : Content) → BufferedAmountLow ≡ Message c → ⊥
low_says_nothing c is = cc

pub low_is_open : BufferedAmountLow ≡ Closed → ⊥
low_is_open is = cc

-- ---- what is told was taken

module _ (v : EndView) (x : Table) (s : ℕ) (c : Content) where
  abbrev TakesIt : Reported → Type 0
  TakesIt r = r.report ≡ Some (record { stream = s; told = Message c }) →
      (h : Handed) × (rest : List Handed) × (v.receiver.waiting s ≡ h ∷ rest) × (content_of h.payload h.bytes ≡ Some c) × (r.view ≡ first_taken_at v s h rest)

  by_stream : (i : ℕ) (h : Handed) (rest : List Handed) → v.receiver.waiting i ≡ h ∷ rest → i ≡ s → content_of h.payload h.bytes ≡ Some c →
      (k : Handed) × (ks : List Handed) × (v.receiver.waiting s ≡ k ∷ ks) × (content_of k.payload k.bytes ≡ Some c) × (first_taken_at v i h rest ≡ first_taken_at v s k ks)
  by_stream i h rest waits e content =
      (h, rest, subst (λ (j : ℕ). v.receiver.waiting j ≡ h ∷ rest) e waits, content, ap (λ (j : ℕ). first_taken_at v j h rest) e)

  takes_it : TakesIt (next_report v x)
  takes_it =
      report_cases TakesIt v x (λ i on is. absurd (closed_says_nothing c (one_report i s Closed (Message c) is).1))
      (λ i is. absurd (low_says_nothing c (one_report i s BufferedAmountLow (Message c) is).1)) (λ i on. by_waiting i (v.receiver.waiting i) refl) (λ is. absurd (cc))
      (λ i on is. absurd (closed_says_nothing c (one_report i s Closed (Message c) is).1))
    where
      apart : {A : Type 0} (b : Bool) → b ≡ false → b ≡ true → A
      apart b off on = absurd (cc)

      by_taken : (i : ℕ) (h : Handed) (rest : List Handed) → v.receiver.waiting i ≡ h ∷ rest → (b : Bool) → (comes x.role (outgoing v x) i h (stream_at x i)).taken ≡ b →
          TakesIt (if b then reports_taken i h rest (comes x.role (outgoing v x) i h (stream_at x i)) v x else reports_waiting i (comes x.role (outgoing v x) i h (stream_at x i)) v x)
      by_taken i h rest waits true on is =
          let one = one_report i s (comes x.role (outgoing v x) i h (stream_at x i)).told (Message c) is in
          by_stream i h rest waits one.0 (comes_tells x.role (outgoing v x) i h (stream_at x i) c one.1).0
      by_taken i h rest waits false off is =
          let one = one_report i s (comes x.role (outgoing v x) i h (stream_at x i)).told (Message c) is in
          apart (comes x.role (outgoing v x) i h (stream_at x i)).taken off (comes_tells x.role (outgoing v x) i h (stream_at x i) c one.1).1

      by_waiting : (i : ℕ) (hs : List Handed) → v.receiver.waiting i ≡ hs → TakesIt (reports_message i hs v x)
      by_waiting i [] waits is = absurd (cc)
      by_waiting i (h ∷ rest) waits is = by_taken i h rest waits (comes x.role (outgoing v x) i h (stream_at x i)).taken refl is

pub contents_are_taken : ContentsAreTaken
contents_are_taken v x s c is = let r = takes_it v x s c is in record { message = r.0; rest = r.1; waits = r.2; content = r.3; leaves = r.4 }

-- ---- the place of a reset

first_noted : (x : Stream) (count : ℕ) (b : Bool) → b ≡ false →
    (if b then record x { again = max x.left count; resets = Two } else leaving count (record x { resets = One })) ≡ leaving count (record x { resets = One })
first_noted x count true off = absurd (cc off)
first_noted x count false off = refl

pub again_noted : (x : Stream) (count : ℕ) (b : Bool) → b ≡ true →
    (if b then record x { again = max x.left count; resets = Two } else leaving count (record x { resets = One })) ≡ record x { again = max x.left count; resets = Two }
again_noted x count true on = refl
again_noted x count false on = absurd (cc on)

-- one more reset, with so many messages from before it
pub noted_now : (v : EndView) (x : Table) (s count : ℕ) → s < length x.streams → is_reset (stream_at x s).resets ≡ false → HasPlace v (with_reset s count x) s (length (v.receiver.taken s) + count)
noted_now v x s count lt off =
    let z : Stream = record (stream_at x s) { resets = One } in
    let is : stream_at (with_reset s count x) s ≡ leaving count z = at_same x s (peer_resets count (stream_at x s)) lt ∙ first_noted (stream_at x s) count (is_reset (stream_at x s).resets) off in
    let k = left_is count z in
    record {
      is_reset = ap (λ (y : Stream). is_reset y.resets) is ∙ ap (λ (r : Resets). is_reset r) k.1;
      place = ap (λ (y : Stream). length (v.receiver.taken s) + y.left) is ∙ ap (λ (n : ℕ). length (v.receiver.taken s) + n) k.0;
    }

pub resets_are_noted : ResetsAreNoted
resets_are_noted v x s lt = (noted_now v x s (old_waiting v.receiver s) lt, second)
  where
    second : (n count : ℕ) → HasPlace v x s n → HasPlace v (with_reset s count x) s n
    second n count p =
        let is : stream_at (with_reset s count x) s ≡ record (stream_at x s) { again = max (stream_at x s).left count; resets = Two } =
        at_same x s (peer_resets count (stream_at x s)) lt ∙ again_noted (stream_at x s) count (is_reset (stream_at x s).resets) p.is_reset in
        record { is_reset = ap (λ (y : Stream). is_reset y.resets) is; place = ap (λ (y : Stream). length (v.receiver.taken s) + y.left) is ∙ p.place }

module _ (v : EndView) (x : Table) (s n : ℕ) (p : HasPlace v x s n) where
  abbrev KeepsPlace : Reported → Type 0
  KeepsPlace r = (r.report ≡ Some (record { stream = s; told = Closed }) → ⊥) → HasPlace r.view r.table s n

  -- a stream with this mark
  with_mark : (view : EndView) (table : Table) (y : Stream) (taken : ℕ) → stream_at table s ≡ y → is_reset y.resets ≡ true → length (view.receiver.taken s) ≡ taken → taken + y.left ≡ n → HasPlace view table s n
  with_mark view table y taken is on count sum = record {
    is_reset = ap (λ (z : Stream). is_reset z.resets) is ∙ on;
    place = ap (λ (z : Stream). length (view.receiver.taken s) + z.left) is ∙ ap (λ (k : ℕ). k + y.left) count ∙ sum;
  }

  untouched : (view : EndView) (table : Table) → stream_at table s ≡ stream_at x s → length (view.receiver.taken s) ≡ length (v.receiver.taken s) → HasPlace view table s n
  untouched view table is count = with_mark view table (stream_at x s) (length (v.receiver.taken s)) is p.is_reset count p.place

  elsewhere_closed : (i : ℕ) → KeepsPlace (reports_closed i v x)
  elsewhere_closed i unclosed = go (same_or_not i s)
    where
      go : (i ≡ s) ⊎ (s ≡ i → ⊥) → HasPlace v (with_left_over x i) s n
      go (inl e) = absurd (unclosed (ap (λ (k : ℕ). Some (record { stream = k; told = Closed })) e))
      go (inr ne) = untouched v (with_left_over x i) (at_other x i s (left_over (stream_at x i)) ne) refl

  taken_at : (i : ℕ) (h : Handed) → (s ≡ i → ⊥) → length (at v.receiver.taken i (v.receiver.taken i ++ h ∷ []) s) ≡ length (v.receiver.taken s)
  taken_at i h ne = go (s == i) refl
    where
      go : (b : Bool) → (s == i) ≡ b → length (if b then v.receiver.taken i ++ h ∷ [] else v.receiver.taken s) ≡ length (v.receiver.taken s)
      go true is = absurd (ne (grind (arith, nat_tests, is)))
      go false is = refl

  own_taken : (h : Handed) → length (at v.receiver.taken s (v.receiver.taken s ++ h ∷ []) s) ≡ suc (length (v.receiver.taken s))
  own_taken h = go (s == s) refl
    where
      go : (b : Bool) → (s == s) ≡ b → length (if b then v.receiver.taken s ++ h ∷ [] else v.receiver.taken s) ≡ suc (length (v.receiver.taken s))
      go true is = let k = length-append (v.receiver.taken s) (h ∷ []) in omega (arith, k)
      go false is = absurd (grind (arith, nat_tests, is))

  some_left : is_readable v x s ≡ true → 0 < (stream_at x s).left
  some_left on = go (stream_at x s).left refl
    where
      tests : not (is_drained (stream_at x s)) ≡ true
      tests = (and_parts (not (is_empty (v.receiver.waiting s))) (not (is_drained (stream_at x s))) on).1

      go : (k : ℕ) → (stream_at x s).left ≡ k → 0 < (stream_at x s).left
      go zero is = absurd (
          let reset = p.is_reset in
          let drained : is_drained (stream_at x s) ≡ true = rw (reset, is) refl in
          cc (tests, drained))
      go (suc k) is = omega (arith, is)

  abbrev after : (i : ℕ) → Handed → After
  after i h = comes x.role (outgoing v x) i h (stream_at x i)

  here : is_readable v x s ≡ true → (h : Handed) (rest : List Handed) → KeepsPlace (reports_after s h rest (after s h) v x)
  here on h rest = go (after s h).taken refl
    where
      keeps : Keeps (stream_at x s) (after s h).stream
      keeps = comes_keeps x.role (outgoing v x) s h (stream_at x s)

      lt : s < length x.streams
      lt = within v x s n p

      go : (b : Bool) → (after s h).taken ≡ b → KeepsPlace (if b then reports_taken s h rest (after s h) v x else reports_waiting s (after s h) v x)
      go true taken unclosed =
          let y = (after s h).stream in
          let reset : is_reset y.resets ≡ true = ap (λ (r : Resets). is_reset r) keeps.resets ∙ p.is_reset in
          let z : Stream = record y { again = y.again - 1 } in
          let marked : heard (after s h) ≡ leaving (y.left - 1) z = rw (taken, reset) refl in
          let k = left_is (y.left - 1) z in
          let some = some_left on in
          let left = keeps.left in
          let sum = p.place in
          with_mark (first_taken_at v s h rest) (record (with_stream x s (heard (after s h))) { next = Rattle.sctp_channels.specs.Events.one_on s })
          (leaving (y.left - 1) z) (suc (length (v.receiver.taken s))) (at_same x s (heard (after s h)) lt ∙ marked) (ap (λ (r : Resets). is_reset r) k.1 ∙ reset) (own_taken h)
          (let l = k.0 in omega (arith, l, left, some, sum))
      go false waits unclosed =
          let marked : heard (after s h) ≡ (after s h).stream = rw waits refl in
          let left = keeps.left in
          let sum = p.place in
          with_mark v (with_stream x s (heard (after s h))) (after s h).stream (length (v.receiver.taken s)) (at_same x s (heard (after s h)) lt ∙ marked) (ap (λ (r : Resets). is_reset r) keeps.resets ∙ p.is_reset) refl
          (omega (arith, left, sum))

  there : (i : ℕ) → (s ≡ i → ⊥) → (h : Handed) (rest : List Handed) → KeepsPlace (reports_after i h rest (after i h) v x)
  there i ne h rest = go (after i h).taken
    where
      go : (b : Bool) → KeepsPlace (if b then reports_taken i h rest (after i h) v x else reports_waiting i (after i h) v x)
      go true unclosed = untouched _ _ (at_other x i s (heard (after i h)) ne) (taken_at i h ne)
      go false unclosed = untouched _ _ (at_other x i s (heard (after i h)) ne) refl

  place_kept : KeepsPlace (next_report v x)
  place_kept = report_cases KeepsPlace v x (λ i on. elsewhere_closed i) (λ i unclosed. untouched v (with_low_told i x) refl refl) (λ i on. by_stream i (same_or_not i s) on (v.receiver.waiting i)) (λ none. p) (λ i on. elsewhere_closed i)
    where
      by_stream : (i : ℕ) → (i ≡ s) ⊎ (s ≡ i → ⊥) → is_readable v x i ≡ true → (hs : List Handed) → KeepsPlace (reports_message i hs v x)
      by_stream i which on [] = λ none. p
      by_stream i (inl e) on (h ∷ rest) =
          subst (λ (k : ℕ). KeepsPlace (reports_message k (h ∷ rest) v x)) (sym e) (here (subst (λ (k : ℕ). is_readable v x k ≡ true) e on) h rest)
      by_stream i (inr ne) on (h ∷ rest) = there i ne h rest

pub places_are_kept : PlacesAreKept
places_are_kept v x s n p unclosed = place_kept v x s n p unclosed

module _ (v : EndView) (x : Table) (s : ℕ) where
  abbrev AtPlace : Reported → Type 0
  AtPlace r = r.report ≡ Some (record { stream = s; told = Closed }) → HasPlace v x s (length (v.receiver.taken s))

  by_closed : (i : ℕ) → is_closed v x i ≡ true → AtPlace (reports_closed i v x)
  by_closed i on is =
      let e : i ≡ s = (one_report i s Closed Closed is).0 in
      let y = stream_at x i in
      let drained = (and_parts (is_drained y) (is_asked y.due && not (is_resetting_out v i)) (and_parts (is_closing y.state) (is_drained y && (is_asked y.due && not (is_resetting_out v i))) on).1).0 in
      let parts = and_parts (is_reset y.resets) (y.left == 0) drained in
      let zero_left : y.left ≡ 0 = let z = parts.1 in grind (arith, nat_tests, z) in
      record {
        is_reset = subst (λ (k : ℕ). is_reset (stream_at x k).resets ≡ true) e parts.0;
        place = (let left : (stream_at x s).left ≡ 0 = subst (λ (k : ℕ). (stream_at x k).left ≡ 0) e zero_left in omega (arith, left));
      }

  by_taken : (i : ℕ) (h : Handed) (rest : List Handed) (a : After) → (a.told ≡ Closed → ⊥) → (b : Bool) → AtPlace (if b then reports_taken i h rest a v x else reports_waiting i a v x)
  by_taken i h rest a unclosed true is = absurd (unclosed (one_report i s a.told Closed is).1)
  by_taken i h rest a unclosed false is = absurd (unclosed (one_report i s a.told Closed is).1)

  by_waiting : (i : ℕ) (hs : List Handed) → AtPlace (reports_message i hs v x)
  by_waiting i [] is = absurd (cc)
  by_waiting i (h ∷ rest) is =
      by_taken i h rest (comes x.role (outgoing v x) i h (stream_at x i)) (comes_open x.role (outgoing v x) i h (stream_at x i)) (comes x.role (outgoing v x) i h (stream_at x i)).taken is

pub closed_at_the_place : ClosedAtThePlace
closed_at_the_place v x s alive =
    report_cases (AtPlace v x s) v x (by_closed v x s) (λ i is. absurd (low_is_open (one_report i s BufferedAmountLow Closed is).1)) (λ i on. by_waiting v x s i (v.receiver.waiting i)) (λ is. absurd (cc))
    (λ i on is. absurd (let off = ap (λ (o : Option Ended). is_some o) alive in cc))

-- ---- what is told was sent

reads_back : (text : Bool) (bytes : List ℕ) → content_of (id_of text bytes) (carried bytes) ≡ Some (record { text = text; bytes = bytes })
reads_back true [] = refl
reads_back false [] = refl
reads_back true (b ∷ bs) = refl
reads_back false (b ∷ bs) = refl

-- one that channels sent is read as the content that it was sent for
of_content : (k : Call) (payload : ℕ) (bytes : List ℕ) (c : Content) → IsOfChannels k → payload ≡ k.payload → bytes ≡ k.bytes → content_of payload bytes ≡ Some c → IsOfContent c k
of_content k payload bytes c (inl dcep) same_payload same_bytes is =
    absurd (let none : content_of DCEP bytes ≡ Some c = subst (λ (n : ℕ). content_of n bytes ≡ Some c) (same_payload ∙ dcep) is in cc)
of_content k payload bytes c (inr (d, of)) same_payload same_bytes is =
    let read : content_of (id_of d.text d.bytes) (carried d.bytes) ≡ Some c =
    subst (λ (bs : List ℕ). content_of (id_of d.text d.bytes) bs ≡ Some c) (same_bytes ∙ of.bytes) (subst (λ (n : ℕ). content_of n bytes ≡ Some c) (same_payload ∙ of.payload) is) in
    let back = reads_back d.text d.bytes in
    let e : d ≡ c = cc (read, back) in
    subst (λ (y : Content). IsOfContent y k) e of

pub channels_say_what_was_sent : ChannelsSayWhatWasSent
channels_say_what_was_sent s es os vs configured passes premises aged x n calls =
    let r = resets_part_messages s es os vs configured passes premises aged x n in (
      r.0,
      r.1,
      r.2,
      λ m has c is.
          let match = r.1.each m has in of_content m.sent.call m.message.payload m.message.bytes c (calls m.sent match.was_sent.accepted match.was_sent.stream) match.payload match.bytes is,
    )
