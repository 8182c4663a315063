-- How many messages are abandoned: as one takes its number, is withdrawn or is abandoned, and by the tickets of a view.
use Rattle.std.proofs.Common.{◌≡◌, ℕ, zero, suc, ◌+◌, ◌-◌, ◌%◌, ◌^◌, ◌<◌, ◌≤◌, List, [], ◌∷◌, length, get_or, set, Bool, true, false, Some, refl, sym, ap, ◌∙◌, arith}
use Rattle.std.specs.Prelude.{if◌then◌else◌, count_by, cond}
use Rattle.std.proofs.lemmas.List.{length-set}
use Rattle.std.proofs.lemmas.List.Recursion.{is_count_by}
use Rattle.sctp_model.specs.messages.Format.{Format}
use Rattle.sctp_model.specs.sender.SenderView.{SenderView}
use Rattle.sctp_model.specs.sender.Words.{count_up}
use Rattle.sctp_model.specs.sender.Readers.{abandoned}
use Rattle.sctp_model.specs.sender.Abandoning.{Name, waits, name_of, is_abandoned}
use Rattle.sctp_model.proofs.sender.TicketLaws.{is_ticketed}
use Rattle.sctp_send.specs.SenderKept.{Kept}
use Rattle.sctp_send.specs.SenderStands.{table, fate_here, fate_named, Keeps}
use Rattle.sctp_send.specs.SenderAnswers.{abandoned_messages}
use Rattle.sctp_send.specs.inner.Walks.{is_abandoned_fate, how_many_abandoned}
use Rattle.sctp_send.specs.declared.kept.message.Fate.{Fate}
use Rattle.sctp_send.specs.declared.kept.message.Fate.TheVariants.{Queued as StillQueued, Numbered, Abandoned as WasAbandoned}
use Rattle.sctp_send.proofs.TableLemmas.{length-table}
use Rattle.sctp_send.proofs.ReaderLemmas.{fate_at, abandoned_fate}
use Rattle.sctp_send.proofs.kept.GivenUpLemmas.{set_open, set_gone, few_abandoned}

-- ---- of a view

-- a message that waits isn't abandoned
waits_open : (v : SenderView) (t : ℕ) → waits t v.queue ≡ true → is_abandoned_fate (fate_here v t) ≡ false
waits_open v t on = ap (λ (b : Bool). is_abandoned_fate (if b then StillQueued else fate_named v (name_of v t))) on

-- nor one with this name, where that isn't
named_open : (v : SenderView) (t : ℕ) (n : Name) → waits t v.queue ≡ false → name_of v t ≡ Some n → is_abandoned v n ≡ false → is_abandoned_fate (fate_here v t) ≡ false
named_open v t n off named kept = rw (off, named, kept) refl

-- the fate of a ticket that was given
record IsGiven (s : Kept) (v : SenderView) (t : ℕ) (d : Fate) : Type 0 where
  lt : t - 1 < length s.fates
  here : get_or s.fates (t - 1) d ≡ fate_here v t

given : (f : Format) (s : Kept) (v : SenderView) (t : ℕ) (d : Fate) → Keeps f s v → 0 < t → t ≤ v.tickets → IsGiven s v t d
given f s v t d k some high =
    let long = ap (λ (xs : List Fate). length xs) k.holds.fates ∙ length-table (fate_here v) 1 v.tickets in
    let low : t - 1 < length s.fates = omega (arith, long, some, high) in
    let back : suc (t - 1) ≡ t = omega (arith, some) in
    record { lt = low; here = fate_at f s v (t - 1) d k low ∙ ap (fate_here v) back }

-- a message that waits takes its number, or is withdrawn
pub counted_waiting : (f : Format) (s : Kept) (v : SenderView) (t : ℕ) (x : Fate) → Keeps f s v → waits t v.queue ≡ true → is_abandoned_fate x ≡ false → s.abandoned ≡ how_many_abandoned (set s.fates (t - 1) x)
counted_waiting f s v t x k on is =
    let w = (is_ticketed f v k.reached).waiting t on in
    let g = given f s v t x k w.0 w.1 in
    k.counted ∙ sym (set_open s.fates (t - 1) x x g.lt (ap is_abandoned_fate g.here ∙ waits_open v t on) is)

-- a message with a number is abandoned
pub counted_gone : (f : Format) (s : Kept) (v : SenderView) (t : ℕ) (n : Name) → Keeps f s v → waits t v.queue ≡ false → name_of v t ≡ Some n → is_abandoned v n ≡ false → 0 < t → t ≤ v.tickets → length s.fates < 2 ^ 64
    → (s.abandoned + 1) % 2 ^ 64 ≡ how_many_abandoned (set s.fates (t - 1) WasAbandoned)
counted_gone f s v t n k off named kept some high few =
    let g = given f s v t Numbered k some high in
    let more = set_gone s.fates (t - 1) Numbered g.lt (ap is_abandoned_fate g.here ∙ named_open v t n off named kept) in
    let most = few_abandoned s.fates in
    let low = k.counted in
    let lt = g.lt in
    let most_after : how_many_abandoned (set s.fates (t - 1) WasAbandoned) < 2 ^ 64 = by_length (few_abandoned (set s.fates (t - 1) WasAbandoned)) in
    omega (arith, more, most_after, low)
  where
    by_length : how_many_abandoned (set s.fates (t - 1) WasAbandoned) ≤ length (set s.fates (t - 1) WasAbandoned) → how_many_abandoned (set s.fates (t - 1) WasAbandoned) < 2 ^ 64
    by_length le = let long = length-set s.fates (t - 1) WasAbandoned in omega (arith, le, long, few)

-- ---- the reader

-- those that a view counts, from a ticket on
counted_from : (f : Format) (s : Kept) (v : SenderView) (i n : ℕ) → Keeps f s v → how_many_abandoned (table (fate_here v) i n) ≡ count_by (abandoned v) (count_up i n)
counted_from f s v i n k = walked i n ∙ is_count_by walk (abandoned v) refl (λ x xs. refl) (count_up i n)
  where
    walk : List ℕ → ℕ
    walk [] = 0
    walk (x ∷ xs) = cond (abandoned v x) (1 + walk xs) (walk xs)

    by_first : (b : Bool) (x y : ℕ) → x ≡ y → (if b then suc x else x) ≡ cond b (1 + y) y
    by_first true x y same = let e : suc x ≡ 1 + y = omega (arith, same) in e
    by_first false x y same = same

    walked : (j m : ℕ) → how_many_abandoned (table (fate_here v) j m) ≡ walk (count_up j m)
    walked j zero = refl
    walked j (suc m) =
        ap (λ (b : Bool). if b then suc (how_many_abandoned (table (fate_here v) (suc j) m)) else how_many_abandoned (table (fate_here v) (suc j) m)) (sym (abandoned_fate f v j (is_ticketed f v k.reached)))
        ∙ by_first (abandoned v j) (how_many_abandoned (table (fate_here v) (suc j) m)) (walk (count_up (suc j) m)) (walked (suc j) m)

pub counted_is : (f : Format) (s : Kept) (v : SenderView) → Keeps f s v → s.abandoned ≡ abandoned_messages v
counted_is f s v k = k.counted ∙ ap how_many_abandoned k.holds.fates ∙ counted_from f s v 1 v.tickets k
