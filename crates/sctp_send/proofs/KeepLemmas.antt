-- What a SACK and a SHUTDOWN leave of what is kept, for each view that it stands for.
use Rattle.std.proofs.Common.{◌≡◌, ℕ, zero, suc, ◌+◌, ◌%◌, ◌^◌, ◌<◌, ◌≤◌, List, [], ◌∷◌, length, drop, Bool, true, false, Some, None, refl, sym, ap, ◌∙◌, arith, length-drop}
use Rattle.std.specs.Prelude.{nat_le, nat_lt, if◌then◌else◌, not, ◌&&◌, ◌||◌, Option, option_map}
use Rattle.std.proofs.lemmas.List.{drop-drop}
use Rattle.std.proofs.lemmas.Bool.{and_parts}
use Rattle.std.proofs.lemmas.Bool.Decides.{nat_tests}
use Rattle.sctp_model.specs.messages.Format.{Format}
use Rattle.sctp_model.specs.wire.Chunk.{BlockMeaning, SackMeaning}
use Rattle.sctp_model.specs.messages.Plan.{Entry}
use Rattle.sctp_model.specs.sender.SenderView.{SenderView}
use Rattle.sctp_model.specs.messages.Acknowledgement.{in_blocks}
use Rattle.sctp_model.specs.sender.SackTaken.{index_of, sack_fault, sack_covers, covered_by, sack_after, shutdown_fault, shutdown_after}
use Rattle.sctp_model.specs.sender.Entries.{entry_message, is_of_abandoned}
use Rattle.sctp_model.specs.sender.Words.{last_that}
use Rattle.sctp_model.specs.sender.Reached.{Covers, Closes}
use Rattle.sctp_model.specs.sender.Abandoning.{has_ticket}
use Rattle.sctp_model.proofs.sender.OwnLaws.{AllOwn}
use Rattle.sctp_model.proofs.sender.TicketLaws.{is_ticketed}
use Rattle.sctp_model.proofs.sender.ExpiredLaws.{all_own_drop}
use Rattle.sctp_model.proofs.sender.Bounds.{is_bounded}
use Rattle.sctp_model.proofs.sender.OwedLaws.{is_promised}
use Rattle.sctp_send.specs.SenderKept.{Item, Kept}
use Rattle.sctp_send.specs.CoveredRuns.{AreCovered, runs_behind}
use Rattle.sctp_send.specs.declared.kept.entry.CoveredRun.{CoveredRun}
use Rattle.sctp_send.specs.SenderStands.{item_here, items_from, Keeps}
use Rattle.sctp_send.specs.inner.Acknowledging.{IsPassing}
use Rattle.sctp_send.specs.inner.Walks.{any_item}
use Rattle.sctp_send.specs.inner.Dues.{is_late, some_late, standing_message, standing_messages, is_asleep}
use Rattle.sctp_send.proofs.sack.RunLemmas.{AreOfBlocks, covered_behind}
use Rattle.sctp_send.proofs.sack.CoverLemmas.{item_told, items_told}
use Rattle.sctp_send.proofs.sack.EachLemmas.{length-each, each_same}
use Rattle.sctp_send.proofs.OverLemmas.{neither, no_item_behind, same_told}
use Rattle.sctp_send.proofs.DueLemmas.{both_off, late_behind, late_told}

-- ---- how much is kept

pub count_items : (v : SenderView) (es : List Entry) (i : ℕ) → length (items_from v i es) ≡ length es
count_items v [] i = refl
count_items v (e ∷ es) i = ap suc (count_items v es (suc i))

-- from CUM to the last index
pub kept_length : (f : Format) (s : Kept) (v : SenderView) → Keeps f s v → length s.items + v.cum ≡ length v.plan.entries
kept_length f s v k =
    let items = ap (λ (xs : List Item). length xs) k.holds.items ∙ count_items v (drop v.cum v.plan.entries) (suc v.cum) in
    omega (arith, items, length-drop v.cum v.plan.entries, (is_bounded f v k.reached).within)

-- no entry has a ticket that was not given
none_given : (v : SenderView) (t i : ℕ) (es : List Entry) → AllOwn v.plan v.tickets v.plan.entries es → v.tickets < t → any_item t (items_from v i es) ≡ false
none_given v t i [] own lt = refl
none_given v t i (e ∷ es) own lt =
    let given : has_ticket t (entry_message v.plan e) ≡ true → t ≤ v.tickets = λ on. (own.0 t on).1 in
    grind (arith, nat_tests, given, none_given v t (suc i) es own.1 lt)

pub items_given : (f : Format) (s : Kept) (v : SenderView) (t : ℕ) → Keeps f s v → v.tickets < t → any_item t s.items ≡ false
items_given f s v t k lt =
    ap (any_item t) k.holds.items
    ∙ none_given v t (suc v.cum) (drop v.cum v.plan.entries) (all_own_drop v.plan v.tickets v.cum v.plan.entries v.plan.entries (is_ticketed f v k.reached).owned) lt

-- ---- CUM moves

-- it stays within its bits
next_cum : (f : Format) (s : Kept) (v : SenderView) (wire n : ℕ) → Keeps f s v → IsPassing v wire n → (s.cum + n) % 2 ^ 64 ≡ index_of v wire
next_cum f s v wire n k p = let cum = k.holds.cum in let most = is_promised f v k.reached in omega (arith, cum, most, p.index, p.within)

pub items_beyond : (v : SenderView) (es : List Entry) (i n : ℕ) → items_from v (n + i) (drop n es) ≡ drop n (items_from v i es)
items_beyond v es i zero = ap (λ (j : ℕ). items_from v j es) (let same : 0 + i ≡ i = omega arith in same)
items_beyond v [] i (suc n) = refl
items_beyond v (e ∷ es) i (suc n) = let same : suc n + i ≡ n + suc i = omega arith in ap (λ (j : ℕ). items_from v j (drop n es)) same ∙ items_beyond v es (suc i) n

-- what is left are the entries beyond it
pub left_items : (f : Format) (s : Kept) (v : SenderView) (n : ℕ) → Keeps f s v → drop n s.items ≡ items_from v (suc (v.cum + n)) (drop (v.cum + n) v.plan.entries)
left_items f s v n k =
    let index : n + suc v.cum ≡ suc (v.cum + n) = omega arith in
    ap (drop n) k.holds.items ∙ sym (items_beyond v (drop v.cum v.plan.entries) (suc v.cum) n) ∙ rw (index, drop-drop n v.cum v.plan.entries) refl

-- ---- a SACK

-- told by their indexes beyond c, items are those of the view in which just these are covered
told_items : (v : SenderView) (c : ℕ) (test : ℕ → Bool) (es : List Entry) (j : ℕ) → items_told (λ i. test (c + i)) (suc j) (items_from v (suc (c + j)) es) ≡ items_from (covered_by v c test) (suc (c + j)) es
told_items v c test [] j = refl
told_items v c test (e ∷ es) j =
    let next : c + suc j ≡ suc (c + j) = omega arith in
    let rest : items_told (λ i. test (c + i)) (suc (suc j)) (items_from v (suc (suc (c + j))) es) ≡ items_from (covered_by v c test) (suc (suc (c + j))) es = rw next at (told_items v c test es (suc j)) in
    rw (next, rest) refl

-- blocks counted from c
offset_blocks : (c i : ℕ) (bs : List BlockMeaning) → in_blocks c bs (c + i) ≡ in_blocks 0 bs i
offset_blocks c i [] = refl
offset_blocks c i (b ∷ bs) =
    let starts : nat_le (c + b.start) (c + i) ≡ nat_le (0 + b.start) i = grind (arith, nat_tests) in
    let ends : nat_le (c + i) (c + b.end) ≡ nat_le i (0 + b.end) = grind (arith, nat_tests) in
    rw (starts, ends, offset_blocks c i bs) refl

beyond_covers : (c i : ℕ) (bs : List BlockMeaning) → 0 < i → in_blocks 0 bs i ≡ sack_covers c bs (c + i)
beyond_covers c i bs some = let past : nat_le (c + i) c ≡ false = grind (arith, nat_tests) in rw past (sym (offset_blocks c i bs))

-- the runs of a SACK's blocks are what it covers above its index
sacked_runs : (o : Option (List CoveredRun)) (c : ℕ) (bs : List BlockMeaning) → AreOfBlocks o bs → AreCovered o (sack_covers c bs) c
sacked_runs None c bs h = tt
sacked_runs (Some rs) c bs h = (h.order, λ i some. sym (beyond_covers c i bs some) ∙ sym (h.same i some))

-- what stays covered makes no ticket late
stays_told : (v : SenderView) (test : ℕ → Bool) (now t c j : ℕ) (es : List Entry) → ((i : ℕ) → j ≤ i → v.covered (c + i) ≡ true → test i ≡ true) → some_late now t (standing_messages true (items_from v (c + j) es)) ≡ false
    → some_late now t (standing_messages true (items_told test j (items_from v (c + j) es))) ≡ false
stays_told v test now t c j [] stays none = refl
stays_told v test now t c j (e ∷ es) stays none =
    let next : suc (c + j) ≡ c + suc j = omega arith in
    let x = item_here v (c + j) e in
    let parts = neither (is_late now t (standing_message true x)) (some_late now t (standing_messages true (items_from v (suc (c + j)) es))) none in
    let rest = stays_told v test now t c (suc j) es (λ i le. stays i (omega (arith, le))) (ap (λ (n : ℕ). some_late now t (standing_messages true (items_from v n es))) (sym next) ∙ parts.1) in
    both_off (is_late now t (standing_message true (item_told (test j) x))) (some_late now t (standing_messages true (items_told test (suc j) (items_from v (suc (c + j)) es))))
    (by_test (test j) (v.covered (c + j)) (is_of_abandoned v e) (stays j (omega arith)) parts.0)
    (ap (λ (n : ℕ). some_late now t (standing_messages true (items_told test (suc j) (items_from v n es)))) next ∙ rest)
  where
    by_test : (told was g : Bool) → (was ≡ true → told ≡ true) → is_late now t (if was || g then None else entry_message v.plan e) ≡ false → is_late now t (if told || g then None else entry_message v.plan e) ≡ false
    by_test true was g on off = refl
    by_test false true g on off = let off = on refl in absurd (cc)
    by_test false false g on off = off

idle_sacked : (v : SenderView) (now t n : ℕ) (b : Bool) (test : ℕ → Bool) (xs : List Item) → drop n xs ≡ items_from v (suc (v.cum + n)) (drop (v.cum + n) v.plan.entries)
    → (b ≡ true → (i : ℕ) → 0 < i → v.covered (v.cum + n + i) ≡ true → test i ≡ true) → some_late now t (standing_messages b xs) ≡ false → some_late now t (standing_messages b (items_told test 1 (drop n xs))) ≡ false
idle_sacked v now t n false test xs left stays none = late_told now t test 1 (drop n xs) ∙ late_behind now t n false xs none
idle_sacked v now t n true test xs left stays none =
    let one : suc (v.cum + n) ≡ v.cum + n + 1 = omega arith in
    let are = left ∙ ap (λ (i : ℕ). items_from v i (drop (v.cum + n) v.plan.entries)) one in
    let before = ap (λ (ys : List Item). some_late now t (standing_messages true ys)) (sym are) ∙ late_behind now t n true xs none in
    ap (λ (ys : List Item). some_late now t (standing_messages true (items_told test 1 ys))) are ∙ stays_told v test now t (v.cum + n) 1 (drop (v.cum + n) v.plan.entries) (λ i le. stays refl i (omega (arith, le))) before

pub keeps_sacked : (f : Format) (s : Kept) (v : SenderView) (x : SackMeaning) (n b : ℕ) (rs : Option (List CoveredRun)) → Keeps f s v → b ≡ last_that v.sent (v.cum + n) → (s.asleep ≡ true → (i : ℕ) → 0 < i → v.covered (v.cum + n + i) ≡ true → in_blocks 0 x.blocks i ≡ true) → IsPassing v x.cumulative n → sack_fault v x ≡ None → AreOfBlocks rs x.blocks
    → Keeps f (record s { cum = (s.cum + n) % 2 ^ 64; rwnd = x.rwnd; items = items_told (in_blocks 0 x.blocks) 1 (drop n s.items); runs = rs; before = b }) (sack_after v x)
keeps_sacked f s v x n b rs k before stays p none runs =
    let c = v.cum + n in
    let start : suc (c + 0) ≡ suc c = omega arith in
    let told = rw start at (told_items v c (sack_covers c x.blocks) (drop c v.plan.entries) 0) in
    let alike = each_same (λ i. item_told (in_blocks 0 x.blocks i)) (λ i. item_told (sack_covers c x.blocks (c + i))) 1 (items_from v (suc c) (drop c v.plan.entries)) (λ j y lo hi. ap (λ (b : Bool). item_told b y) (beyond_covers c j x.blocks (omega arith))) in
    let count = length-each (λ i. item_told (in_blocks 0 x.blocks i)) 1 (drop n s.items) in
    let fewer = length-drop n s.items in
    let room = k.holds.room in
    rw none (record {
      holds = record {
        initial = k.holds.initial;
        streams = k.holds.streams;
        fragment = k.holds.fragment;
        partial = k.holds.partial;
        cum = next_cum f s v x.cumulative n k p;
        rwnd = refl;
        turn = k.holds.turn;
        items = rw (p.index, left_items f s v n k) (alike ∙ told);
        queue = k.holds.queue;
        tracks = k.holds.tracks;
        fates = k.holds.fates;
        covered = sacked_runs rs (index_of v x.cumulative) x.blocks runs;
        room = omega (arith, count, fewer, room);
      };
      over = record {
        within = k.over.within;
        each = λ t le. let o = k.over.each t le in record { queue = o.queue; tracks = o.tracks; items = same_told t (in_blocks 0 x.blocks) 1 (drop n s.items) ∙ no_item_behind t n s.items o.items };
      };
      due = record {
        many = k.due.many;
        each = λ t now lt.
            let i = k.due.each t now lt in
            record {
              queue = i.queue;
              items = λ on. idle_sacked v now t n (is_asleep s t) (in_blocks 0 x.blocks) s.items (left_items f s v n k) (λ asleep. stays (and_parts (nat_lt s.passed t) s.asleep asleep).1) (i.items on);
              tracks = i.tracks;
            };
      };
      forward = k.forward;
      resets = k.resets;
      before = before ∙ ap (last_that v.sent) (sym p.index);
      counted = k.counted;
      limits = k.limits;
      reached = Covers v x k.reached none;
    })

-- ---- a SHUTDOWN

-- beyond it all is as it was, since nothing that is covered has a mark
beyond_stays : (v : SenderView) (c : ℕ) (es : List Entry) (i : ℕ) → c < i → ((j : ℕ) → v.covered j ≡ true → v.marked j ≡ false) → items_from v i es ≡ items_from (covered_by v c (λ j. nat_le j c || v.covered j)) i es
beyond_stays v c [] i lt apart = refl
beyond_stays v c (e ∷ es) i lt apart =
    let past : nat_le i c ≡ false = grind (arith, nat_tests) in
    let same : (v.marked i && not (v.covered i)) ≡ v.marked i = grind (arith, nat_tests, apart i) in
    rw (past, beyond_stays v c es (suc i) (omega arith) apart, same) refl

pub keeps_shut : (f : Format) (s : Kept) (v : SenderView) (wire n b : ℕ) → Keeps f s v → b ≡ last_that v.sent (v.cum + n) → IsPassing v wire n → shutdown_fault v wire ≡ None
    → Keeps f (record s { cum = (s.cum + n) % 2 ^ 64; items = drop n s.items; runs = option_map (runs_behind n) s.runs; before = b }) (shutdown_after v wire)
keeps_shut f s v wire n b k before p none =
    let c = v.cum + n in
    let stays = beyond_stays v c (drop c v.plan.entries) (suc c) (omega arith) (is_bounded f v k.reached).apart in
    let fewer = length-drop n s.items in
    let room = k.holds.room in
    rw none (record {
      holds = record {
        initial = k.holds.initial;
        streams = k.holds.streams;
        fragment = k.holds.fragment;
        partial = k.holds.partial;
        cum = next_cum f s v wire n k p;
        rwnd = k.holds.rwnd;
        turn = k.holds.turn;
        items = rw p.index (left_items f s v n k ∙ stays);
        queue = k.holds.queue;
        tracks = k.holds.tracks;
        fates = k.holds.fates;
        covered = covered_behind s.runs v.covered v.cum (index_of v wire) n p.index k.holds.covered;
        room = omega (arith, fewer, room);
      };
      over = record { within = k.over.within; each = λ t le. let o = k.over.each t le in record { queue = o.queue; tracks = o.tracks; items = no_item_behind t n s.items o.items } };
      due = record { many = k.due.many; each = λ t now lt. let i = k.due.each t now lt in record { queue = i.queue; items = λ on. late_behind now t n (is_asleep s t) s.items (i.items on); tracks = i.tracks } };
      forward = k.forward;
      resets = k.resets;
      before = before ∙ ap (last_that v.sent) (sym p.index);
      counted = k.counted;
      limits = k.limits;
      reached = Closes v wire k.reached none;
    })
