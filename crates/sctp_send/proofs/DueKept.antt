-- What is kept when moments of tickets are told anew, are woken, or are passed.
use Rattle.std.proofs.Common.{◌≡◌, ℕ, suc, ◌+◌, ◌<◌, ◌≤◌, ◌⊎◌, inl, inr, List, [], ◌∷◌, length, get_or, map, drop, Bool, true, false, Option, Some, refl, sym, ap, ◌∙◌, subst, arith, length-drop}
use Rattle.std.specs.Prelude.{◌&&◌, nat_lt, unwrap_or}
use Rattle.std.specs.List.{All}
use Rattle.std.proofs.lemmas.List.Elements.{All-tail}
use Rattle.std.proofs.lemmas.Bool.{cases_lt, cases_eq}
use Rattle.std.proofs.lemmas.Bool.Decides.{nat_tests}
use Rattle.std.specs.declared.sync.Arc.{Arc}
use Rattle.std.specs.declared.alloc.Global.{Global}
use Rattle.sctp_model.specs.numbers.Limits.{LAST_MOMENT}
use Rattle.sctp_model.specs.messages.Format.{Format}
use Rattle.sctp_model.specs.sender.SenderView.{SenderView}
use Rattle.sctp_model.specs.sender.Abandoning.{waits, is_to_expire}
use Rattle.sctp_send.specs.SenderKept.{Item, Kept}
use Rattle.sctp_send.specs.OutstandingFields.{item_meaning, message_meaning}
use Rattle.sctp_send.specs.SenderFields.{queued_by}
use Rattle.sctp_send.specs.SenderStands.{AreOver, Keeps}
use Rattle.sctp_send.specs.inner.Walks.{any_item, any_rest}
use Rattle.sctp_send.specs.inner.Seating.{ticket_in, DoTicketsRise}
use Rattle.sctp_send.specs.inner.Dues.{AreDue, due_at, is_late, some_late, standing_messages, AreWoken, has_come, IsIdle}
use Rattle.sctp_send.specs.declared.kept.message.Message.{Message as MessageFields}
use Rattle.sctp_send.specs.declared.kept.entry.Entry.{Entry as EntryFields}
use Rattle.sctp_send.proofs.HeldLemmas.{still_held}
use Rattle.sctp_send.proofs.DueLemmas.{late_before, late_other_items, over_idle}
use Rattle.sctp_send.proofs.kept.MomentLemmas.{not_come, due_behind}
use Rattle.sctp_send.proofs.kept.RiseLemmas.{first_place}
use Rattle.sctp_send.proofs.KeepLemmas.{items_given}
use Rattle.sctp_send.proofs.abandon.ExpireKept.{fewer_late, stays_idle}

-- ---- told anew

-- less is said of a ticket
idle_asleep : (s : Kept) (now t : ℕ) (ms : List ℕ) → IsIdle s now t → IsIdle (record s { moments = ms; asleep = true }) now t
idle_asleep s now t ms i = record { queue = i.queue; items = λ on. grind (arith, i.items on, fewer_late now t s.asleep s.items); tracks = i.tracks }

-- all but the moments stays
still_kept : (f : Format) (s : Kept) (v : SenderView) (passed : ℕ) (ms : List ℕ) (b : Bool) → Keeps f s v → AreDue (record s { passed = passed; moments = ms; asleep = b }) v.tickets → Keeps f (record s { passed = passed; moments = ms; asleep = b }) v
still_kept f s v passed ms b k due =
    let over : AreOver (record s { passed = passed; moments = ms; asleep = b }) v.tickets = record { within = k.over.within; each = λ t le. assumption (k.over.each t le) } in
    let holds = still_held s v s.ended passed ms b k.holds in
    assumption (k, holds, over, due)

pub keeps_told : (f : Format) (s : Kept) (v : SenderView) (t : ℕ) (r : Option ℕ) (ms : List ℕ) → Keeps f s v → ((now : ℕ) → is_to_expire v now t ≡ has_come now r) → length ms ≡ length s.moments
    → ((now : ℕ) → now < due_at s.passed ms t → ((s.passed < t) × (now < unwrap_or r LAST_MOMENT)) ⊎ (now < due_at s.passed s.moments t)) → ((u : ℕ) → (u ≡ t → ⊥) → due_at s.passed ms u ≡ due_at s.passed s.moments u)
    → Keeps f (record s { moments = ms; asleep = true }) v
keeps_told f s v t r ms k told long here others = still_kept f s v s.passed ms true k (record {
  many = let many = k.due.many in omega (arith, many, long);
  each = λ u now lt. elim (cases_eq u t) [
    | inr other ↦ let same = others u other in idle_asleep s now u ms (k.due.each u now (omega (arith, lt, same)))
    | inl same ↦
        let lower : now < due_at s.passed ms t = subst (λ (x : ℕ). now < due_at s.passed ms x) same lt in
        subst (λ (x : ℕ). IsIdle (record s { moments = ms; asleep = true }) now x) (sym same) (by_moment now (here now lower))
  ];
})
  where
    by_moment : (now : ℕ) → ((s.passed < t) × (now < unwrap_or r LAST_MOMENT)) ⊎ (now < due_at s.passed s.moments t) → IsIdle (record s { moments = ms; asleep = true }) now t
    by_moment now (inl below) = stays_idle f s v now t ms k below.0 (told now ∙ not_come now r below.1)
    by_moment now (inr below) = idle_asleep s now t ms (k.due.each t now below)

-- ---- woken

-- entries none of which is late
all_idle : (now t size : ℕ) (es : List EntryFields) → ((k : ℕ) (d : EntryFields) → k < length es → is_late now t (Some (message_meaning size (get_or es k d).message.value)) ≡ false) → some_late now t (standing_messages false (map (item_meaning size) es)) ≡ false
all_idle now t size [] off = refl
all_idle now t size (e ∷ es) off = grind (arith, off 0 e, all_idle now t size es (λ k d lt. off (suc k) d (omega (arith, lt))))

pub keeps_awake : (f : Format) (s : Kept) (v : SenderView) (size : ℕ) (es : List EntryFields) (ms : List ℕ) (b : Bool) → Keeps f s v → s.items ≡ map (item_meaning size) es → length ms ≡ length s.moments
    → ((t now : ℕ) → now < due_at s.passed ms t → now < due_at s.passed s.moments t) → (s.asleep ≡ true → b ≡ false → AreWoken s.passed ms es (length es)) → Keeps f (record s { moments = ms; asleep = b }) v
keeps_awake f s v size es ms b k are long each woken = still_kept f s v s.passed ms b k (record {
  many = let many = k.due.many in omega (arith, many, long);
  each = λ t now lt.
      let i = k.due.each t now (each t now lt) in
      record { queue = i.queue; items = λ on. grind (arith, nat_tests, i.items on, by_at t now lt, fewer_late now t false s.items); tracks = i.tracks };
})
  where
    by_at : (t now : ℕ) → now < due_at s.passed ms t → s.passed < t → s.asleep ≡ true → b ≡ false → some_late now t (standing_messages false s.items) ≡ false
    by_at t now lt past is off = elim (cases_lt v.tickets t) [
      | inl beyond ↦ late_other_items now t false s.items (items_given f s v t k beyond)
      | inr given ↦
          let many = k.due.many in
          ap (λ (xs : List Item). some_late now t (standing_messages false xs)) are
          ∙ all_idle now t size es (λ n d within. late_before now t (message_meaning size (get_or es n d).message.value) (λ same.
          let low = woken is off n d within within (omega (arith, past, same)) (omega (arith, given, same, many, long)) in
          let here : now < due_at s.passed ms (get_or es n d).message.value.ticket = subst (λ (x : ℕ). now < due_at s.passed ms x) same lt in
          not_come now (get_or es n d).message.value.until (omega (arith, here, low))))
    ]

-- ---- passed

pub keeps_passed : (f : Format) (s : Kept) (v : SenderView) (n last : ℕ) → Keeps f s v → last ≡ s.passed + n → n ≤ length s.moments → ((t : ℕ) → t ≤ last → waits t s.queue ≡ false)
    → ((t : ℕ) → t ≤ last → any_rest t s.tracks ≡ false) → ((t : ℕ) → t ≤ last → any_item t s.items ≡ false) → Keeps f (record s { passed = s.passed + n; moments = drop n s.moments }) v
keeps_passed f s v n last k end most queue rests items = still_kept f s v (s.passed + n) (drop n s.moments) s.asleep k (record {
  many = let many = k.due.many in let long = length-drop n s.moments in omega (arith, many, long, most);
  each = λ t now lt. elim (cases_lt last t) [
    | inl past ↦
        let i = k.due.each t now (due_behind s.passed s.moments n t now most (omega (arith, past, end)) lt) in
        let is : nat_lt (s.passed + n) t ≡ true = grind (arith, nat_tests) in
        let was : nat_lt s.passed t ≡ true = grind (arith, nat_tests) in
        record { queue = i.queue; items = λ on. ap (λ (c : Bool). some_late now t (standing_messages (c && s.asleep) s.items)) (is ∙ sym was) ∙ i.items on; tracks = i.tracks }
    | inr within ↦ over_idle (record s { passed = s.passed + n; moments = drop n s.moments }) now t (record { queue = queue t within; tracks = rests t within; items = items t within })
  ];
})

-- ---- the queue

pub none_waits : (size t : ℕ) (ms : List (Arc MessageFields Global)) → length ms ≡ 0 → waits t (map (queued_by size) ms) ≡ false
none_waits size t [] none = refl
none_waits size t (m ∷ ms) none = absurd (omega (arith, none))

all_above : (size t : ℕ) (ms : List (Arc MessageFields Global)) → All (λ m. t < ticket_in m) ms → waits t (map (queued_by size) ms) ≡ false
all_above size t [] above = refl
all_above size t (m ∷ ms) above =
    let low = above 0 m (omega arith) in
    grind (arith, nat_tests, low, all_above size t ms (All-tail (λ x. t < ticket_in x) m ms above))

-- where the first ticket lies behind one, all do
pub rising_past : (size last t : ℕ) (ms : List (Arc MessageFields Global)) (x : Arc MessageFields Global) → DoTicketsRise ms → 0 < length ms → x ≡ get_or ms 0 x → last < x.value.ticket → t ≤ last → waits t (map (queued_by size) ms) ≡ false
rising_past size last t ms x rise some read past le =
    let first = first_place (suc t) ms x rise some read (omega (arith, past, le)) in
    all_above size t ms (λ k d lt. let low = first.others k d (omega arith) lt in omega (arith, low))
