-- A sender at rest: no message waits, none is in part, and all is out that has its index. Then there is no next wish.
use Rattle.std.proofs.Common.{◌≡◌, ◌∙◌, ℕ, List, [], ◌∷◌, length, min, None, refl, sym, ap, arith}
use Rattle.std.specs.Prelude.{option_map}
use Rattle.sctp_model.specs.messages.Format.{Format, Plain, Interleaved}
use Rattle.sctp_model.specs.sender.SenderView.{SenderView, Queued}
use Rattle.sctp_model.specs.sender.Assigning.{first_on, assigned}
use Rattle.sctp_model.specs.sender.Filling.{newcomer, next_wish}
use Rattle.sctp_send.specs.SenderKept.{Kept}
use Rattle.sctp_send.specs.SenderStands.{Keeps}
use Rattle.sctp_send.specs.inner.Newcomers.{IsNextPart}
use Rattle.sctp_send.specs.inner.Wishing.{first_offset, is_item_marked, is_item_unsent}
use Rattle.sctp_send.proofs.fill.NextLemmas.{none_first, turn_kept_on}
use Rattle.sctp_send.proofs.fill.TurnLemmas.{whole_none}
use Rattle.sctp_send.proofs.fill.WishLemmas.{wish_new}

none_waits : (j : ℕ) (qs : List Queued) → length qs ≡ 0 → first_on j qs ≡ None
none_waits j [] none = refl
none_waits j (q ∷ qs) none = absurd (omega arith)

-- nothing takes an index
none_assigned : (f : Format) (s : Kept) (v : SenderView) → Keeps f s v → length s.queue ≡ 0 → IsNextPart 0 s.streams s.tracks s.streams → assigned f v ≡ None
none_assigned Plain s v k none parts = whole_none v (ap (λ (qs : List Queued). length qs) (sym k.holds.queue) ∙ none)
none_assigned Interleaved s v k none parts =
    let width = k.holds.streams in
    let low = min s.turn s.streams in
    let here : IsNextPart s.turn s.streams s.tracks s.streams = record { before = λ j lo hi. parts.before j (omega arith) hi; here = λ lt. absurd (omega (arith, lt)); within = omega arith } in
    let front : IsNextPart 0 low s.tracks low = record { before = λ j lo hi. parts.before j lo (omega (arith, hi)); here = λ lt. absurd (omega (arith, lt)); within = omega arith } in
    turn_kept_on s v s.streams s.turn low None k refl refl refl
    (none_first s v s.turn s.streams s.streams k (omega (arith, width)) here (omega arith) (λ j lo hi. none_waits j s.queue none))
    (none_first s v 0 low low k (omega (arith, width)) front (omega arith) (λ j lo hi. none_waits j s.queue none))

pub at_rest : (f : Format) (s : Kept) (v : SenderView) → Keeps f s v → first_offset is_item_marked s.items ≡ None → first_offset is_item_unsent s.items ≡ None → length s.queue ≡ 0 → IsNextPart 0 s.streams s.tracks s.streams → next_wish f v ≡ None
at_rest f s v k none also waits parts = wish_new f s v k none also ∙ ap (option_map (newcomer v)) (none_assigned f s v k waits parts)
