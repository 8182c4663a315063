-- The cause that reports the unrecognized parameters of an INIT ACK: it is appended to the pending ones, with the parameters that fit.
use Rattle.std.proofs.Common.{◌≡◌, ℕ, ◌+◌, ◌-◌, ◌<◌, ◌≤◌, Bool, true, false, List, [], ◌∷◌, ◌++◌, length, refl, ap, sym, ◌∙◌, arith, nat_le}
use Rattle.std.proofs.lemmas.List.{append-nil}
use Rattle.std.proofs.lemmas.Bool.{le-leb, lt-leb}
use Rattle.sctp_model.specs.wire.Chunk.{InitMeaning, padded}
use Rattle.sctp_model.specs.wire.Typed.{Typed, WritesTyped, typed_in, written_typed}
use Rattle.sctp_model.specs.wire.Unknown.{parameters_reported}
use Rattle.sctp_model.specs.end.EndView.{EndView}
use Rattle.sctp_model.specs.end.Reports.{item, as_fit, UNRECOGNIZED_PARAMETERS}
use Rattle.sctp_model.specs.end.Opening.{causes_with_all, fits_in_error, ack_causes}
use Rattle.sctp_model.proofs.TypedWriting.{written_more}
use Rattle.sctp_opening.specs.Room.{size_alone}
use Rattle.sctp_opening.specs.inner.Fitting.{all_within}
use Rattle.sctp_opening.proofs.FittingLemmas.{length-appended, all_stay_within, written-as_fit}
use Rattle.sctp_opening.proofs.ListLemmas.{some_bytes}

-- ---- what fits, by two tests that agree

pub as_fit-same : (f g : List Typed → Bool) (taken ys : List Typed) → ((xs : List Typed) → f xs ≡ g xs) → as_fit f taken ys ≡ as_fit g taken ys
as_fit-same f g taken [] same = refl
as_fit-same f g taken (y ∷ ys) same = rw (same (taken ++ y ∷ [])) (as_fit-same f g _ ys same)

-- what is written for a list and those items behind it that fit
pub written_behind : (most : ℕ) (front ys : List Typed)
    → written_typed (front ++ as_fit (λ xs. nat_le (length (written_typed (front ++ xs))) most) [] ys) ≡ all_within most (written_typed front) ys
written_behind most front ys =
    written-as_fit most front [] ys ∙ ap (λ (xs : List Typed). all_within most (written_typed xs) ys) (append-nil front)

none_fit : (f : List Typed → Bool) (ys : List Typed) → ((xs : List Typed) → f xs ≡ false) → as_fit f [] ys ≡ []
none_fit f [] never = refl
none_fit f (y ∷ ys) never = rw (never (y ∷ [])) (none_fit f ys never)

-- ---- the room of an ERROR

-- The causes of an ERROR have so many bytes of room in this end's packets.
pub record HasRoom (e : EndView) (room : ℕ) : Type 0 where
  pub exact : (n : ℕ) → nat_le (size_alone (4 + n)) e.configuration.limit ≡ nat_le n room

-- the causes that wait, as bytes, and one more
pub record IsWaiting (e : EndView) (room : ℕ) (bytes : List ℕ) : Type 0 where
  pub limit : HasRoom e room
  pub written : WritesTyped bytes e.due.causes

by_size : (e : EndView) (room : ℕ) (bytes : List ℕ) (xs : List Typed) → IsWaiting e room bytes
    → fits_in_error e xs ≡ nat_le (padded (length bytes) + 4 + length (written_typed xs)) room
by_size e room bytes xs w =
    let x = item UNRECOGNIZED_PARAMETERS (written_typed xs) in
    let more = ap length (written_more e.due.causes x) ∙ length-appended (written_typed e.due.causes) x
    ∙ ap (λ (b : List ℕ). padded (length b) + 4 + length (written_typed xs)) (sym w.written.bytes_are) in
    rw more (w.limit.exact (padded (length bytes) + 4 + length (written_typed xs)))

rest_of : (used n room : ℕ) → used ≤ room → nat_le (used + n) room ≡ nat_le n (room - used)
rest_of used n room within = grind arith

too_large : (used n room : ℕ) → room < used → nat_le (used + n) room ≡ false
too_large used n room past = lt-leb _ _ (omega arith)

-- there is no room for a cause
pub no_room : (e : EndView) (m : InitMeaning) (room : ℕ) (bytes : List ℕ) → IsWaiting e room bytes → room < padded (length bytes) + 4
    → ack_causes e m ≡ e.due.causes
no_room e m room bytes w past =
    let ys = parameters_reported (typed_in m.parameters) in
    let used = padded (length bytes) + 4 in
    ap (causes_with_all e) (none_fit (fits_in_error e) ys (λ xs. by_size e room bytes xs w ∙ too_large used (length (written_typed xs)) room past))

-- the parameters that are reported, as bytes
reported_bytes : (e : EndView) (m : InitMeaning) (room : ℕ) (bytes : List ℕ) → IsWaiting e room bytes → padded (length bytes) + 4 ≤ room
    → written_typed (as_fit (fits_in_error e) [] (parameters_reported (typed_in m.parameters)))
    ≡ all_within (room - (padded (length bytes) + 4)) [] (parameters_reported (typed_in m.parameters))
reported_bytes e m room bytes w within =
    let ys = parameters_reported (typed_in m.parameters) in
    let used = padded (length bytes) + 4 in
    let same = as_fit-same (fits_in_error e) (λ xs. nat_le (length (written_typed xs)) (room - used)) [] ys
    (λ xs. by_size e room bytes xs w ∙ rest_of used (length (written_typed xs)) room within) in
    ap written_typed same ∙ written_behind (room - used) [] ys

-- nothing is reported
none_taken : (e : EndView) (taken : List Typed) → length (written_typed taken) ≡ 0 → causes_with_all e taken ≡ e.due.causes
none_taken e [] none = refl
none_taken e (x ∷ xs) none = let some = some_bytes x xs in absurd (omega arith)

pub none_reported : (e : EndView) (m : InitMeaning) (room : ℕ) (bytes list : List ℕ) → IsWaiting e room bytes → padded (length bytes) + 4 ≤ room
    → list ≡ all_within (room - (padded (length bytes) + 4)) [] (parameters_reported (typed_in m.parameters)) → length list ≡ 0
    → ack_causes e m ≡ e.due.causes
none_reported e m room bytes list w within are none =
    none_taken e _ (ap length (reported_bytes e m room bytes w within ∙ sym are) ∙ none)

-- something is
some_taken : (e : EndView) (taken : List Typed) → 0 < length (written_typed taken) → fits_in_error e taken ≡ true
    → causes_with_all e taken ≡ e.due.causes ++ item UNRECOGNIZED_PARAMETERS (written_typed taken) ∷ []
some_taken e [] some fits = absurd (omega arith)
some_taken e (x ∷ xs) some fits = rw fits refl

pub some_reported : (e : EndView) (m : InitMeaning) (room : ℕ) (bytes list : List ℕ) → IsWaiting e room bytes → padded (length bytes) + 4 ≤ room
    → list ≡ all_within (room - (padded (length bytes) + 4)) [] (parameters_reported (typed_in m.parameters)) → 0 < length list
    → ack_causes e m ≡ e.due.causes ++ item UNRECOGNIZED_PARAMETERS list ∷ []
some_reported e m room bytes list w within are some =
    let ys = parameters_reported (typed_in m.parameters) in
    let most = room - (padded (length bytes) + 4) in
    let taken = as_fit (fits_in_error e) [] ys in
    let same : written_typed taken ≡ list = reported_bytes e m room bytes w within ∙ sym are in
    let few : length list ≤ most = rw are (all_stay_within most [] ys (omega arith)) in
    let size : length (written_typed taken) ≡ length list = ap length same in
    let fits = by_size e room bytes taken w ∙ le-leb _ _ (omega arith) in
    some_taken e taken (omega arith) fits ∙ ap (λ (xs : List ℕ). e.due.causes ++ item UNRECOGNIZED_PARAMETERS xs ∷ []) same
