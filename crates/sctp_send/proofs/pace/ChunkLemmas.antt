-- The bytes of the chunks in flight, by what is kept.
use Rattle.std.proofs.Common.{◌≡◌, ℕ, suc, ◌+◌, ◌*◌, ◌%◌, ◌^◌, ◌<◌, ◌≤◌, ◌∙◌, List, [], ◌∷◌, length, drop, refl, sym, ap, arith}
use Rattle.sctp_model.specs.messages.Format.{Format, Plain, Interleaved}
use Rattle.sctp_model.specs.messages.Framing.{header_of}
use Rattle.sctp_model.specs.messages.Plan.{Entry}
use Rattle.sctp_model.specs.sender.SenderView.{SenderView}
use Rattle.sctp_model.specs.sender.Entries.{sum_from}
use Rattle.sctp_model.specs.end.Control.{whole, chunk_flight_of, chunk_flight}
use Rattle.sctp_model.proofs.sender.FlightLaws.{sum_from-drop, covered_lands}
use Rattle.sctp_model.proofs.sender.Bounds.{is_bounded}
use Rattle.sctp_model.proofs.sender.OwedLaws.{is_windowed}
use Rattle.sctp_send.specs.SenderKept.{Item, Kept}
use Rattle.sctp_send.specs.SenderStands.{items_from, Keeps}
use Rattle.sctp_send.specs.inner.Wishing.{item_chunks}
use Rattle.sctp_send.proofs.KeepLemmas.{kept_length}

-- a header is short
pub header_small : (f : Format) → header_of f < 2 ^ 16
header_small Plain = omega arith
header_small Interleaved = omega arith

chunks_fly : (header : ℕ) (v : SenderView) (i : ℕ) (es : List Entry) → item_chunks header (items_from v i es) ≡ sum_from (chunk_flight_of header v) i es
chunks_fly header v i [] = refl
chunks_fly header v i (e ∷ es) = ap (λ (n : ℕ). chunk_flight_of header v i e + n) (chunks_fly header v (suc i) es)

-- only chunks above CUM are in flight
chunks_kept : (f : Format) (header : ℕ) (s : Kept) (v : SenderView) → Keeps f s v → chunk_flight header v ≡ item_chunks header s.items
chunks_kept f header s v k =
    let b = is_bounded f v k.reached in
    let one : 1 + v.cum ≡ suc v.cum = omega arith in
    let above = sum_from-drop (chunk_flight_of header v) 1 v.cum v.plan.entries (λ j e lo hi. ap (whole header) (covered_lands v j e (b.covered j (omega arith) (omega arith)))) b.within in
    above ∙ ap (λ (n : ℕ). sum_from (chunk_flight_of header v) n (drop v.cum v.plan.entries)) one ∙ sym (chunks_fly header v (suc v.cum) (drop v.cum v.plan.entries)) ∙ ap (item_chunks header) (sym k.holds.items)

-- so few that the count in 64 bits is exact
pub chunks_told : (f : Format) (s : Kept) (v : SenderView) (flying many header : ℕ) (xs : List Item) → Keeps f s v → header ≡ header_of f → xs ≡ s.items → many ≡ length s.items → flying ≡ item_chunks header xs % 2 ^ 64 → item_chunks header xs ≤ many * 131072
    → flying ≡ chunk_flight (header_of f) v
chunks_told f s v flying many header xs k formed items count is few =
    let long = kept_length f s v k in
    let window = is_windowed f v k.reached in
    let all : chunk_flight (header_of f) v ≡ item_chunks header xs = chunks_kept f (header_of f) s v k ∙ ap (item_chunks (header_of f)) (sym items) ∙ ap (λ (n : ℕ). item_chunks n xs) (sym formed) in
    omega (arith, long, window, count, all, is, few)
