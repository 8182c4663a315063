-- A message with a number that is abandoned: its entries above CUM, its fate, and the answers.
use Rattle.std.proofs.Common.{◌≡◌, ℕ, zero, suc, ◌+◌, ◌-◌, ◌<◌, ◌≤◌, List, [], ◌∷◌, length, map, drop, set, Bool, true, false, Option, Some, None, refl, ap, ◌∙◌, arith, sym}
use Rattle.std.specs.Prelude.{not, ◌&&◌, ◌==◌, min, if◌then◌else◌, slice_get, unwrap_or}
use Rattle.std.specs.Option.{option_map_or}
use Rattle.std.proofs.lemmas.Bool.{and_parts, false_from_ne_true}
use Rattle.std.proofs.lemmas.Bool.Decides.{nat_tests}
use Rattle.sctp_model.specs.messages.Format.{Format, Lane, same_lane}
use Rattle.sctp_model.specs.messages.Plan.{Message, Entry, Plan, entry_at}
use Rattle.sctp_model.specs.sender.Words.{when, first_there}
use Rattle.sctp_model.specs.sender.SenderView.{SenderView}
use Rattle.sctp_model.specs.sender.Entries.{entry_lane, entry_number, entry_message, is_of, is_of_abandoned}
use Rattle.sctp_model.specs.sender.Abandoning as gone
use Rattle.sctp_model.specs.sender.Abandoning.{Name, waits, without, name_of, has_ticket, is_covered, is_abandoned, ended, with_abandoned, abandon_named, abandon_answer, abandon_after}
use Rattle.sctp_model.specs.sender.Reached.{IsReached}
use Rattle.sctp_model.proofs.sender.OwnLaws.{Owns, AllOwn, found_owns}
use Rattle.sctp_model.proofs.sender.TicketLaws.{is_ticketed}
use Rattle.sctp_model.proofs.sender.AbandonCases.{lanes_same, same_lane-self, given_other, given_itself}
use Rattle.sctp_model.proofs.sender.NameLaws.{same_message}
use Rattle.sctp_model.proofs.sender.GivenLaws.{names_given, others_given}
use Rattle.sctp_send.specs.SenderKept.{Item, Kept}
use Rattle.sctp_send.specs.OutstandingFields.{item_meaning}
use Rattle.sctp_send.specs.inner.Changes.{as_abandoned, all_abandoned}
use Rattle.sctp_send.specs.SenderStands.{item_here, items_from, table, fate_here, fate_named, Keeps}
use Rattle.sctp_send.specs.inner.Walks.{is_numbered_fate}
use Rattle.sctp_send.specs.declared.kept.message.Fate.{Fate}
use Rattle.sctp_send.specs.declared.kept.message.Fate.TheVariants.{Queued as StillQueued, Numbered, Abandoned as WasAbandoned}
use Rattle.sctp_send.specs.declared.kept.entry.Entry.{Entry as EntryFields}
use Rattle.sctp_send.proofs.TableLemmas.{table-set}

-- ---- a message abandoned

-- an item of the message with this ticket is abandoned, and its mark ends
abbrev pub abandoned_item : ℕ → Item → Item
abandoned_item t x = if has_ticket t x.message then record x { abandoned = true; marked = false } else x

pub all_own_drop : (p : Plan) (k c : ℕ) (all es : List Entry) → AllOwn p k all es → AllOwn p k all (drop c es)
all_own_drop p k zero all es h = h
all_own_drop p k (suc c) all [] h = h
all_own_drop p k (suc c) all (e ∷ es) h = all_own_drop p k c all es h.1

-- the plan's messages are as they were
pub same_messages : (v : SenderView) (n : Name) → (ended v n).messages ≡ v.plan.messages
same_messages v n = grind arith

pub same_entry_message : (v : SenderView) (n : Name) (e : Entry) → entry_message (with_abandoned v n).plan e ≡ entry_message v.plan e
same_entry_message v n e = ap (λ (ms : Lane → List Message). slice_get (ms (entry_lane e)) (entry_number e)) (same_messages v n)

-- one entry, by whether it is of the message
abandoned_one : (f : Format) (v : SenderView) (t : ℕ) (n : Name) (i : ℕ) (e : Entry) → name_of v t ≡ Some n → AllOwn v.plan v.tickets v.plan.entries v.plan.entries
    → Owns v.plan v.tickets v.plan.entries (entry_lane e) (entry_number e) → entry_at v.plan i ≡ Some e → abandoned_item t (item_here v i e) ≡ item_here (with_abandoned v n) i e
abandoned_one f v t n i e is all own here = by_name (is_of n.lane n.number e) refl
  where
    has : has_ticket t (entry_message v.plan e) ≡ is_of n.lane n.number e
    has = same_message v.plan v.tickets t v.plan.entries n (entry_lane e) (entry_number e) own is (found_owns v.plan v.tickets t v.plan.entries v.plan.entries n all is).1

    item : Option Message → Bool → Bool → Item
    item m marked gone_now = record { entry = e; message = m; sent = v.sent i; marked = marked; covered = v.covered i; abandoned = gone_now; repeats = min (v.repeats i) 65535 }

    alike : (m k : Option Message) (a b c d : Bool) → m ≡ k → a ≡ b → c ≡ d → item m a c ≡ item k b d
    alike m k a b c d x y z = ap (λ (h : Option Message). item h a c) x ∙ ap (λ (h : Bool). item k h c) y ∙ ap (item k b) z

    mark : (with_abandoned v n).marked i ≡ (v.marked i && not (is_of n.lane n.number e))
    mark = grind (arith, here)

    by_name : (b : Bool) → is_of n.lane n.number e ≡ b → abandoned_item t (item_here v i e) ≡ item_here (with_abandoned v n) i e
    by_name true name =
        let tests = and_parts (same_lane n.lane (entry_lane e)) (n.number == entry_number e) name in
        let lane = lanes_same n.lane (entry_lane e) tests.0 in
        let number : n.number ≡ entry_number e = let on = tests.1 in grind (arith, nat_tests) in
        let is_given : is_of_abandoned (with_abandoned v n) e ≡ true = ap (λ (l : Lane). (with_abandoned v n).abandoned l (entry_number e)) (sym lane) ∙ ap ((with_abandoned v n).abandoned n.lane) (sym number) ∙ given_itself v n in
        ap (λ (b : Bool). if b then item (entry_message v.plan e) false true else item_here v i e) (has ∙ name)
        ∙ alike _ _ _ _ _ _ (sym (same_entry_message v n e)) (grind (arith, mark, name)) (sym is_given)
    by_name false name =
        let apart : (entry_lane e ≡ n.lane) × (entry_number e ≡ n.number) → ⊥ = λ same. clash same.0 same.1 name in
        let is_given : is_of_abandoned (with_abandoned v n) e ≡ is_of_abandoned v e = given_other v n (entry_lane e) (entry_number e) apart in
        ap (λ (b : Bool). if b then item (entry_message v.plan e) false true else item_here v i e) (has ∙ name)
        ∙ alike _ _ _ _ _ _ (sym (same_entry_message v n e)) (grind (arith, mark, name)) (sym is_given)
      where
        clash : entry_lane e ≡ n.lane → entry_number e ≡ n.number → is_of n.lane n.number e ≡ false → ⊥
        clash lane number off =
            let one : (n.number == entry_number e) ≡ true = grind (arith, nat_tests) in
            let on : is_of n.lane n.number e ≡ true = rw lane (rw (same_lane-self n.lane) one) in
            cc

pub abandoned-items_from : (f : Format) (v : SenderView) (t : ℕ) (n : Name) (i : ℕ) (es : List Entry) → IsReached f v → name_of v t ≡ Some n → AllOwn v.plan v.tickets v.plan.entries es
    → ((j : ℕ) → j < length es → entry_at v.plan (i + j) ≡ slice_get es j) → map (abandoned_item t) (items_from v i es) ≡ items_from (with_abandoned v n) i es
abandoned-items_from f v t n i [] h is own there = refl
abandoned-items_from f v t n i (e ∷ es) h is own there =
    let zeroed : i + 0 ≡ i = omega arith in
    let here : entry_at v.plan i ≡ Some e = rw zeroed at (there 0 (omega arith)) in
    let rest = abandoned-items_from f v t n (suc i) es h is own.1 (λ j lt. let next : suc i + j ≡ i + suc j = omega arith in rw next (there (suc j) (omega arith))) in
    ap (λ (x : Item). x ∷ map (abandoned_item t) (items_from v (suc i) es)) (abandoned_one f v t n i e is (is_ticketed f v h).owned own.0 here) ∙ ap (λ (xs : List Item). item_here (with_abandoned v n) i e ∷ xs) rest

-- a message with a number waits no more
not_waiting : (f : Format) (v : SenderView) (t : ℕ) (n : Name) → IsReached f v → name_of v t ≡ Some n → waits t v.queue ≡ false
not_waiting f v t n h is = false_from_ne_true _ (λ on. let none = ((is_ticketed f v h).waiting t on).2 in cc)

-- its fate, and that of the others
fate_abandoned : (f : Format) (v : SenderView) (t : ℕ) (n : Name) → IsReached f v → name_of v t ≡ Some n → fate_here (with_abandoned v n) t ≡ WasAbandoned
fate_abandoned f v t n h is =
    ap (λ (b : Bool). if b then StillQueued else fate_named (with_abandoned v n) (name_of (with_abandoned v n) t)) (not_waiting f v t n h is)
    ∙ ap (fate_named (with_abandoned v n)) (names_given f v t n h is t ∙ is) ∙ ap (λ (b : Bool). if b then WasAbandoned else Numbered) (given_itself v n)

other_fate : (f : Format) (v : SenderView) (t x : ℕ) (n : Name) → IsReached f v → name_of v t ≡ Some n → (t ≡ x → ⊥) → fate_here (with_abandoned v n) x ≡ fate_here v x
other_fate f v t x n h is ne = ap (λ (o : Fate). if waits x v.queue then StillQueued else o) (ap (fate_named (with_abandoned v n)) (names_given f v t n h is x) ∙ by_name (name_of v x) refl)
  where
    by_name : (o : Option Name) → name_of v x ≡ o → fate_named (with_abandoned v n) o ≡ fate_named v o
    by_name None also = refl
    by_name (Some m) also = ap (λ (b : Bool). if b then WasAbandoned else Numbered) (others_given f v t x n m h is also ne)

pub abandoned_fates : (f : Format) (s : Kept) (v : SenderView) (t : ℕ) (n : Name) → Keeps f s v → name_of v t ≡ Some n → 0 < t → t ≤ v.tickets → set s.fates (t - 1) WasAbandoned ≡ table (fate_here (with_abandoned v n)) 1 v.tickets
abandoned_fates f s v t n k is low high =
    let back : 1 + (t - 1) ≡ t = omega arith in
    let self : fate_here (with_abandoned v n) (1 + (t - 1)) ≡ WasAbandoned = rw back (fate_abandoned f v t n k.reached is) in
    let others : (j : ℕ) → 1 ≤ j → j < 1 + v.tickets → (j ≡ 1 + (t - 1) → ⊥) → fate_here (with_abandoned v n) j ≡ fate_here v j = λ j lo hi ne. other_fate f v t j n k.reached is (λ e. ne (omega arith)) in
    rw (k.holds.fates, table-set (fate_here v) (fate_here (with_abandoned v n)) 1 v.tickets (t - 1) (omega arith) others, self) refl

-- ---- entries, as clauses see them

abandoned_meaning : (size t : ℕ) (e : EntryFields) → item_meaning size (as_abandoned t e) ≡ abandoned_item t (item_meaning size e)
abandoned_meaning size t e = grind arith

pub items_abandoned : (size t : ℕ) (es : List EntryFields) → map (item_meaning size) (all_abandoned t es) ≡ map (abandoned_item t) (map (item_meaning size) es)
items_abandoned size t [] = refl
items_abandoned size t (e ∷ es) = rw (abandoned_meaning size t e, items_abandoned size t es) refl

-- ---- what is kept of a message that is abandoned

-- the message of a ticket that has a number and was not abandoned
pub record IsKept (v : SenderView) (t : ℕ) (n : Name) : Type 0 where
  pub named : name_of v t ≡ Some n
  pub waits : waits t v.queue ≡ false
  pub kept : is_abandoned v n ≡ false
  pub low : 0 < t
  pub high : t ≤ v.tickets

pub kept_name : (f : Format) (v : SenderView) (t : ℕ) → IsReached f v → is_numbered_fate (fate_here v t) ≡ true → (n : Name) × IsKept v t n
kept_name f v t h on = by_name (name_of v t) refl
  where
    by_name : (o : Option Name) → name_of v t ≡ o → (n : Name) × IsKept v t n
    by_name None is = absurd (grind (arith, on, is))
    by_name (Some n) is =
        let own = found_owns v.plan v.tickets t v.plan.entries v.plan.entries n (is_ticketed f v h).owned is in
        let was = own.0 t own.1 in
        (n, record { named = is; waits = grind (arith, on); kept = grind (arith, on, is); low = was.0; high = was.1 })

-- the answer for it, and the view that is left
pub kept_answer : (v : SenderView) (t : ℕ) (n : Name) → IsKept v t n
    → abandon_answer v t ≡ unwrap_or (first_there (when (is_covered v n) gone.Acknowledged ∷ when (not v.partial) gone.Reliable ∷ [])) gone.Abandoned
kept_answer v t n k = rw (k.named, k.kept) refl

kept_after : (v : SenderView) (t : ℕ) (n : Name) (b : Bool) → IsKept v t n → (v.partial && (not (is_abandoned v n) && not (is_covered v n))) ≡ b → abandon_after v t ≡ (if b then with_abandoned v n else v)
kept_after v t n b k is =
    ap (λ (o : Option Name). option_map_or (abandon_named v) o (record v { queue = without t v.queue })) k.named ∙ ap (λ (c : Bool). if c then with_abandoned v n else v) is

pub same_after : (v : SenderView) (t : ℕ) (n : Name) → IsKept v t n → is_covered v n ≡ true → abandon_after v t ≡ v
same_after v t n k on = kept_after v t n false k (grind (arith, on))

pub reliable_after : (v : SenderView) (t : ℕ) (n : Name) → IsKept v t n → v.partial ≡ false → abandon_after v t ≡ v
reliable_after v t n k fixed = kept_after v t n false k (rw fixed refl)

pub abandoned_after : (v : SenderView) (t : ℕ) (n : Name) → IsKept v t n → is_covered v n ≡ false → v.partial ≡ true → abandon_after v t ≡ with_abandoned v n
abandoned_after v t n k off partial = kept_after v t n true k (rw (partial, k.kept, off) refl)
