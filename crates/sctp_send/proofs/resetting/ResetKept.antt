-- What a sender keeps stands for a view with other resets, where what is kept of these is so.
use Rattle.std.proofs.Common.{drop, ◌≡◌, ℕ, zero, suc, ◌+◌, ◌%◌, ◌^◌, ◌<◌, ◌≤◌, List, [], ◌∷◌, length, map, get_or, Bool, true, false, Option, Some, None, refl, sym, ap, ◌∙◌, arith}
use Rattle.std.specs.Prelude.{◌==◌, ◌&&◌, if◌then◌else◌, nat_lt, is_some, slice_get, option_map}
use Rattle.std.specs.List.{AllByRecursion}
use Rattle.std.proofs.lemmas.Bool.Decides.{nat_tests}
use Rattle.std.proofs.lemmas.List.{length-map}
use Rattle.std.proofs.lemmas.Option.{slice_get-map, get_or_from_slice_get}
use Rattle.sctp_model.specs.numbers.Limits.{REQUEST_LIMIT, RESETS_AT_ONCE}
use Rattle.sctp_model.specs.numbers.Serial.{tsn}
use Rattle.sctp_model.specs.wire.Reconfig.{is_progress_code, is_number_code}
use Rattle.sctp_model.specs.messages.Format.{Format, Kind, Ordered, Unordered, Lane}
use Rattle.sctp_model.specs.messages.Plan.{Entry}
use Rattle.sctp_model.specs.sender.Outgoing.{Outgoing, Request, LaterNumber, takes_next}
use Rattle.sctp_model.specs.sender.SenderView.{SenderView}
use Rattle.sctp_model.specs.sender.Resetting.{with_resets, may_ask, ready, was_said, first_twice, named_next, is_open_number, response_taken, reset_answered, reset_done, reset_refused, kept_asking, is_past_first, number_back, numbered_so, retried_in}
use Rattle.sctp_model.specs.sender.Reached.{Rebases}
use Rattle.sctp_model.proofs.sender.OwedLaws.{is_promised}
use Rattle.sctp_send.specs.SenderKept.{Item, Track, Kept}
use Rattle.sctp_send.specs.SenderStands.{item_here, items_from, track_here, Holds, Keeps}
use Rattle.sctp_send.specs.SenderFields.{track_meaning}
use Rattle.sctp_send.specs.ForwardKept.{IsForwardKept}
use Rattle.sctp_send.specs.ResetsKept.{base_by, AreResets}
use Rattle.sctp_send.specs.inner.Resetting.{begun_anew, number_from, takes_next_in, says_same, named_after}
use Rattle.sctp_send.specs.declared.kept.track.Track.{Track as TrackFields}
use Rattle.sctp_send.specs.declared.kept.last_forward.LastForward.{LastForward}
use Rattle.sctp_send.specs.declared.kept.resets.OutgoingResets.{OutgoingResets}
use Rattle.sctp_send.proofs.TableLemmas.{length-table}
use Rattle.sctp_send.proofs.KeepLemmas.{kept_length}
use Rattle.sctp_send.proofs.fill.AssignLemmas.{track_at}
use Rattle.sctp_send.proofs.resetting.CountedUp.{all_taken}

-- entries say nothing of resets
same_items : (v : SenderView) (o : Outgoing) (i : ℕ) (es : List Entry) → items_from v i es ≡ items_from (with_resets o v) i es
same_items v o i [] = refl
same_items v o i (e ∷ es) = ap (λ (xs : List Item). item_here v i e ∷ xs) (same_items v o (suc i) es)

held_resets : (s : Kept) (v : SenderView) (w : Option LastForward) (y : OutgoingResets) (o : Outgoing) → Holds s v → Holds (record s { forward = w; resets = y }) (with_resets o v)
held_resets s v w y o h = assumption (h.items ∙ same_items v o (suc v.cum) (drop v.cum v.plan.entries))

pub keeps_resets : (f : Format) (s : Kept) (v : SenderView) (w : Option LastForward) (y : OutgoingResets) (o : Outgoing) → Keeps f s v → AreResets v.streams y o → IsForwardKept f o.base v.streams v.plan.entries w
    → Keeps f (record s { forward = w; resets = y }) (with_resets o v)
keeps_resets f s v w y o k are forward = record {
  holds = held_resets s v w y o k.holds;
  over = record { within = k.over.within; each = λ t le. assumption (k.over.each t le) };
  due = record { many = k.due.many; each = λ t now lt. assumption (k.due.each t now lt) };
  forward = forward;
  resets = are;
  before = k.before;
  counted = k.counted;
  limits = k.limits;
  reached = Rebases v o k.reached;
}

-- ---- what streams count

-- how many messages of a lane have a number
pub track_counts : (f : Format) (s : Kept) (v : SenderView) (size : ℕ) (ts : List TrackFields) (l : Lane) → Keeps f s v → s.tracks ≡ map (track_meaning size) ts → l.stream < v.streams → number_from ts l ≡ length (v.plan.messages l)
track_counts f s v size ts l k is low =
    let wide = ap (λ (xs : List Track). length xs) k.holds.tracks ∙ length-table (track_here v) 0 v.streams in
    let many = ap (λ (xs : List Track). length xs) is ∙ length-map ts (track_meaning size) in
    let has = there ts l.stream (omega (arith, wide, many, low)) in
    let here : track_meaning size has.0 ≡ track_here v l.stream =
    sym (get_or_from_slice_get (map (track_meaning size) ts) l.stream (track_meaning size has.0) (track_here v l.stream) (slice_get-map (track_meaning size) ts l.stream ∙ ap (λ (o : Option TrackFields). option_map (track_meaning size) o) has.1))
    ∙ ap (λ (xs : List Track). get_or xs l.stream (track_here v l.stream)) (sym is) ∙ track_at f s v l.stream (track_here v l.stream) k low in
    rw has.1 (by_kind l.stream has.0 here l.kind)
  where
    there : (xs : List TrackFields) (n : ℕ) → n < length xs → (t : TrackFields) × (slice_get xs n ≡ Some t)
    there [] n lt = absurd (omega arith)
    there (x ∷ xs) zero lt = (x, refl)
    there (x ∷ xs) (suc n) lt = there xs n (omega (arith, lt))

    by_kind : (n : ℕ) (t : TrackFields) → track_meaning size t ≡ track_here v n → (j : Kind) → base_by j (begun_anew (Some t)) ≡ length (v.plan.messages (record { stream = n; kind = j }))
    by_kind n t here Ordered = ap (λ (x : Track). x.ordered) here
    by_kind n t here Unordered = ap (λ (x : Track). x.unordered) here

-- ---- the index that was assigned last

pub last_index : (f : Format) (s : Kept) (v : SenderView) (n : ℕ) → Keeps f s v → n ≡ length s.items → (s.cum + n) % 2 ^ 64 ≡ length v.plan.entries
last_index f s v n k is = let cum = k.holds.cum in let all = kept_length f s v k in let most = is_promised f v k.reached in omega (arith, cum, all, most, is)

-- ---- a response

-- a request waits
pub open_waits : (v : SenderView) (number : ℕ) → is_open_number v number ≡ true → (q : Request) × (v.resets.pending ≡ Some q)
open_waits v number on = by_pending v.resets.pending refl on
  where
    by_pending : (o : Option Request) → v.resets.pending ≡ o → (is_some o && (number == tsn v.initial v.resets.made)) ≡ true → (q : Request) × (v.resets.pending ≡ Some q)
    by_pending None is waits = absurd (cc)
    by_pending (Some q) is waits = (q, is)

-- its response is taken
pub answered_by : (v : SenderView) (number code : ℕ) (q : Request) → is_open_number v number ≡ true → v.resets.pending ≡ Some q → response_taken v number code ≡ reset_answered v code q
answered_by v number code q on waits = rw (on, waits) refl

pub is_done : (v : SenderView) (code : ℕ) (q : Request) → code ≤ 1 → reset_answered v code q ≡ reset_done v q
is_done v code q low = grind (arith, nat_tests, low)

pub is_progress : (v : SenderView) (code : ℕ) (q : Request) → 1 < code → is_progress_code code ≡ true → reset_answered v code q ≡ kept_asking v q
is_progress v code q high on = grind (arith, nat_tests, high, on)

pub is_back : (v : SenderView) (code : ℕ) (q : Request) → 1 < code → is_progress_code code ≡ false → (is_number_code code && is_past_first v q) ≡ true → reset_answered v code q ≡ number_back v q
is_back v code q high off on = grind (arith, nat_tests, high, off, on)

pub is_refused : (v : SenderView) (code : ℕ) (q : Request) → 1 < code → is_progress_code code ≡ false → (is_number_code code && is_past_first v q) ≡ false → reset_answered v code q ≡ reset_refused v q
is_refused v code q high off other = grind (arith, nat_tests, high, off, other)

-- ---- a request is retransmitted

-- one waits that takes the next number
pub next_waits : (o : Option Request) → takes_next_in o ≡ true → (q : Request) × (o ≡ Some q) × (takes_next q.numbering ≡ true)
next_waits None on = absurd (cc)
next_waits (Some q) on = (q, refl, on)

-- none does
pub retried_not : (v : SenderView) (o : Option Request) → takes_next_in o ≡ false → retried_in v o ≡ v
retried_not v None off = refl
retried_not v (Some q) off = rw off refl

-- no number is left
pub retried_spent : (v : SenderView) (o : Option Request) → nat_lt v.resets.made REQUEST_LIMIT ≡ false → retried_in v o ≡ v
retried_spent v None off = refl
retried_spent v (Some q) off = grind (arith, off)

-- it takes it
pub retried_next : (v : SenderView) (o : Option Request) (q : Request) → o ≡ Some q → takes_next q.numbering ≡ true → nat_lt v.resets.made REQUEST_LIMIT ≡ true → retried_in v o ≡ numbered_so v (suc v.resets.made) LaterNumber q
retried_next v o q is on low = rw (is, on, low) refl

-- ---- what a request names

-- whether the last one said the same
said_is : (v : SenderView) (xs : List ℕ) (o : Option Request) → says_same v.initial (length v.plan.entries) xs o ≡ was_said v o xs
said_is v xs None = refl
said_is v xs (Some q) = refl

pub named_is : (v : SenderView) (xs : List ℕ) (o : Option Request) → o ≡ v.resets.last_made → xs ≡ ready v → named_after v.initial (length v.plan.entries) o xs ≡ named_next v
named_is v xs o last is = rw (last, is, said_is v (ready v) v.resets.last_made) refl

-- all that it names are streams
twice_all : (P : ℕ → Type 0) (b : Bool) (xs : List ℕ) → AllByRecursion P xs → AllByRecursion P (if b then first_twice xs else xs)
twice_all P true [] h = tt
twice_all P true (x ∷ xs) h = all_taken P RESETS_AT_ONCE (x ∷ x ∷ xs) (h.0, (h.0, h.1))
twice_all P false xs h = h

pub named_all : (P : ℕ → Type 0) (initial last : ℕ) (o : Option Request) (xs : List ℕ) → AllByRecursion P xs → AllByRecursion P (named_after initial last o xs)
named_all P initial last o xs h = twice_all P (says_same initial last xs o) xs h

-- ---- a request is taken back

-- none waits where one may be made
pub none_waits : (v : SenderView) → may_ask v ≡ true → v.resets.pending ≡ None
none_waits v on = grind (arith, on)
