-- The messages that wait, by their tickets and by their streams: where the first one of a stream stands.
use Rattle.std.proofs.Common.{◌≡◌, ℕ, zero, suc, ◌+◌, ◌<◌, ◌≤◌, List, [], ◌∷◌, length, map, get_or, Some, None, refl, sym, ap, ◌∙◌, arith, subst}
use Rattle.std.specs.List.{Contains}
use Rattle.std.specs.declared.sync.Arc.{Arc}
use Rattle.std.specs.declared.alloc.Global.{Global}
use Rattle.std.proofs.lemmas.List.{length-map, get_or-map, get_or_default}
use Rattle.sctp_model.specs.sender.Assigning.{first_on}
use Rattle.sctp_sequence.specs.Pairs.{IsFirstFrom}
use Rattle.sctp_sequence.specs.declared.pairs.Pair.{Pair}
use Rattle.sctp_send.specs.SenderFields.{queued_by}
use Rattle.sctp_send.specs.inner.Seating.{ticket_in, seat_of, DoTicketsRise, IsPlaceOf, NextOnAnswer}
use Rattle.sctp_send.specs.declared.kept.message.Message.{Message as MessageFields}
use Rattle.sctp_send.proofs.kept.RiseLemmas.{ticket_place}
use Rattle.sctp_send.proofs.WalkLemmas.{queue_read}
use Rattle.sctp_send.proofs.fill.TurnLemmas.{IsPassedOn, passed_none, passed_more, passed_here, passed_all}

-- each message has its seat
seat_there : (ms : List (Arc MessageFields Global)) (j : ℕ) (x : Arc MessageFields Global) → j < length ms → Contains (map seat_of ms) (seat_of (get_or ms j x))
seat_there ms j x lt = (j, (let long = length-map ms seat_of in omega (arith, long, lt)), get_or-map seat_of ms j x (seat_of (get_or ms j x)) lt)

-- none of the first messages is of a stream
passed_upto : (s size : ℕ) (ms : List (Arc MessageFields Global)) (x : Arc MessageFields Global) (at : ℕ) → at ≤ length ms → ((j : ℕ) → j < at → (get_or ms j x).value.stream ≡ s → ⊥) → IsPassedOn s at (map (queued_by size) ms)
passed_upto s size ms x zero le apart = passed_none s (map (queued_by size) ms)
passed_upto s size ms x (suc at) le apart =
    let long = length-map ms (queued_by size) in
    let m = get_or ms at x in
    let one : at + 1 ≡ suc at = omega arith in
    let before = passed_upto s size ms x at (omega arith) (λ j lt. apart j (omega arith)) in
    subst (λ (n : ℕ). IsPassedOn s n (map (queued_by size) ms)) one
    (passed_more s at (map (queued_by size) ms) (queued_by size m) (omega (arith, long)) (queue_read size ms at m (get_or_default ms at x m (omega arith))) (apart at (omega arith)) before)

-- no seat on a stream: no message on it
none_on : (s size : ℕ) (ms : List (Arc MessageFields Global)) → ((p : Pair) → Contains (map seat_of ms) p → p.first ≡ s → ⊥) → first_on s (map (queued_by size) ms) ≡ None
none_on s size [] apart = refl
none_on s size (m ∷ ms) apart =
    let long = length-map (m ∷ ms) (queued_by size) in
    passed_all s (length (m ∷ ms)) (map (queued_by size) (m ∷ ms)) (omega (arith, long)) (passed_upto s size (m ∷ ms) m (length (m ∷ ms)) (omega arith) (λ j lt. apart _ (seat_there (m ∷ ms) j m lt)))

-- no seat from a stream on, or the first one is past another: no message on the streams between
pub next_none : (from below size : ℕ) (ms : List (Arc MessageFields Global)) → ((p : Pair) → Contains (map seat_of ms) p → p.first < from) → NextOnAnswer from below (map (queued_by size) ms) None
next_none from below size ms none s low high = none_on s size ms (λ p has on. let less = none p has in absurd (omega (arith, less, on, low)))

pub next_past : (from below size : ℕ) (ms : List (Arc MessageFields Global)) (seat : Pair) → IsFirstFrom from (map seat_of ms) seat → below ≤ seat.first → NextOnAnswer from below (map (queued_by size) ms) None
next_past from below size ms seat first past s low high = none_on s size ms (λ p has on. let after = first.first p has (omega (arith, on, low)) in absurd (omega (arith, after, on, high, past)))

-- the message of the first seat stands where its ticket is
record IsFirstSeat (place stream : ℕ) (ms : List (Arc MessageFields Global)) (x : Arc MessageFields Global) : Type 0 where
  within : place < length ms
  own : x.value.stream ≡ stream

first_seat : (from place : ℕ) (ms : List (Arc MessageFields Global)) (seat : Pair) (x : Arc MessageFields Global) → DoTicketsRise ms → IsFirstFrom from (map seat_of ms) seat → IsPlaceOf seat.second place ms → IsFirstSeat place seat.first ms (get_or ms place x)
first_seat from place ms seat x h found at =
    let k = found.there.0 in
    let k_within = found.there.1 in
    let k_read = found.there.2 in
    let seats = length-map ms seat_of in
    let low : k < length ms = omega (arith, k_within, seats) in
    let mine : seat_of (get_or ms k x) ≡ seat = sym (get_or-map seat_of ms k x seat low) ∙ k_read in
    let here : place ≡ k = ticket_place seat.second k place ms x h at low (ap (λ (p : Pair). p.second) mine) in
    record {
      within = omega (arith, here, low);
      own = ap (λ (n : ℕ). (get_or ms n x).value.stream) here ∙ ap (λ (p : Pair). p.first) mine;
    }

pub next_within : (from place : ℕ) (ms : List (Arc MessageFields Global)) (seat : Pair) → DoTicketsRise ms → IsFirstFrom from (map seat_of ms) seat → IsPlaceOf seat.second place ms → place < length ms
next_within from place [] seat h first at = absurd (let low = first.there.1 in omega (arith, low))
next_within from place (m ∷ ms) seat h first at = (first_seat from place (m ∷ ms) seat m h first at).within

pub next_found : (from below size place : ℕ) (ms : List (Arc MessageFields Global)) (seat : Pair) → DoTicketsRise ms → IsFirstFrom from (map seat_of ms) seat → IsPlaceOf seat.second place ms → seat.first < below
    → NextOnAnswer from below (map (queued_by size) ms) (Some (record { stream = seat.first; place = place }))
next_found from below size place [] seat h first at low = absurd (let none = first.there.1 in omega (arith, none))
next_found from below size place (m ∷ ms) seat h first at low =
    let f = first_seat from place (m ∷ ms) seat m h first at in
    let q = get_or (m ∷ ms) place m in
    let long = length-map (m ∷ ms) (queued_by size) in
    let within = f.within in
    let passed = passed_upto seat.first size (m ∷ ms) m place (omega (arith, within)) (λ j lt on.
    let after : seat.second ≤ ticket_in (get_or (m ∷ ms) j m) = first.second _ (seat_there (m ∷ ms) j m (omega (arith, lt, within))) on in
    let less = at.lower j m lt in
    omega (arith, after, less)) in
    record {
      above = first.above;
      low = low;
      first = passed_here seat.first place (map (queued_by size) (m ∷ ms)) (queued_by size q) (omega (arith, long, within)) (queue_read size (m ∷ ms) place q (get_or_default (m ∷ ms) place m q within)) f.own passed;
      before = λ s le less. none_on s size (m ∷ ms) (λ p has on. let after = first.first p has (omega (arith, on, le)) in omega (arith, after, on, less));
    }
