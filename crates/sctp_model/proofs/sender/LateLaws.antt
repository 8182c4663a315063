-- What has to be looked at to expire: the messages that wait, the entries above CUM that are neither covered nor given up, and what streams go on with.
-- Just those messages may be abandoned; if none of them is past its time, nothing changes (RFC 3758, 3.5).
use Rattle.std.proofs.Common.{◌≡◌, ℕ, suc, ◌+◌, ◌<◌, List, [], ◌∷◌, drop, Bool, true, false, Option, Some, None, refl, sym, ap, ◌∙◌, subst, arith}
use Rattle.std.specs.Prelude.{◌==◌, not, ◌&&◌, ◌||◌, if◌then◌else◌, fold, find, option_map}
use Rattle.std.specs.Option.{option_map_or}
use Rattle.std.specs.List.{list_any}
use Rattle.std.proofs.lemmas.Bool.{and_from, and_right, or_parts, or_left, or_right}
use Rattle.std.proofs.lemmas.Bool.Decides.{nat_tests}
use Rattle.sctp_model.specs.messages.Format.{Format}
use Rattle.sctp_model.specs.messages.Plan.{Message, Entry, Part, message_at}
use Rattle.sctp_model.specs.sender.SenderView.{Queued, SenderView}
use Rattle.sctp_model.specs.sender.Words.{some_passes, count_up}
use Rattle.sctp_model.specs.sender.Entries.{entry_lane, entry_number, entry_message, is_of, any_from, is_of_abandoned, is_in_part, continued}
use Rattle.sctp_model.specs.sender.Abandoning.{Name, name_at, name_of, waits, without, has_ticket, is_abandoned, has_uncovered, is_covered, with_abandoned, may_abandon_named, abandon_named, abandon_after, may_abandon, is_past, is_overdue, expire_one, is_to_expire, has_late, expired}
use Rattle.sctp_model.specs.sender.Reached.{IsReached}
use Rattle.sctp_model.proofs.sender.AbandonCases.{same_lane-self, without_none}
use Rattle.sctp_model.proofs.sender.AbandonedLaws.{due_is_past}
use Rattle.sctp_model.proofs.sender.Bounds.{is_bounded}
use Rattle.sctp_model.proofs.sender.CountLaws.{is_named, name_found}
use Rattle.sctp_model.proofs.sender.ExpiredLaws.{is_late, late_has, late_past, late_is, late_waits, waits_late, due_waits, due_named, all_own_drop, any_from-drop, found_late, first_alone}
use Rattle.sctp_model.proofs.sender.KeptLaws.{are_parts_kept}
use Rattle.sctp_model.proofs.sender.NameLaws.{uncovered_by_ticket, continued_owns}
use Rattle.sctp_model.proofs.sender.OwnLaws.{AllOwn, found_owns}
use Rattle.sctp_model.proofs.sender.PartLaws.{in_part_is}
use Rattle.sctp_model.proofs.sender.PlanLaws.{continued_is}
use Rattle.sctp_model.proofs.sender.TicketLaws.{is_ticketed}

-- ---- if nothing is late, nothing changes

-- a ticket whose message may not be abandoned, or isn't past its time
pub expires_none : (v : SenderView) (now t : ℕ) → is_to_expire v now t ≡ false → expire_one now v t ≡ v
expires_none v now t off = by_due (is_overdue v now t) off
  where
    by_name : (o : Option Name) → option_map_or (may_abandon_named v) o (waits t v.queue) ≡ false → option_map_or (abandon_named v) o (record v { queue = without t v.queue }) ≡ v
    by_name None none = ap (λ (qs : List Queued). record v { queue = qs }) (without_none t v.queue none)
    by_name (Some n) none = ap (λ (b : Bool). if b then with_abandoned v n else v) none

    by_due : (b : Bool) → (b && may_abandon v t) ≡ false → (if b then abandon_after v t else v) ≡ v
    by_due true none = by_name (name_of v t) none
    by_due false none = refl

none_expires : (v : SenderView) (now : ℕ) (ts : List ℕ) → list_any (is_to_expire v now) ts ≡ false → fold (expire_one now) v ts ≡ v
none_expires v now [] off = refl
none_expires v now (t ∷ ts) off =
    let parts = or_parts (is_to_expire v now t) (list_any (is_to_expire v now) ts) off in
    ap (λ (u : SenderView). fold (expire_one now) u ts) (expires_none v now t parts.0) ∙ none_expires v now ts parts.1

-- A time that makes no message late changes nothing.
pub nothing_expires : (v : SenderView) (now : ℕ) → has_late v now ≡ false → expired v now ≡ v
nothing_expires v now off = none_expires v now (count_up 1 v.tickets) off

-- ---- what is shown

-- the message of an entry, unless the entry is covered or given up
abbrev pub shown_message : SenderView → (index : ℕ) → Entry → Option Message
shown_message v i e = if v.covered i || is_of_abandoned v e then None else entry_message v.plan e

-- an entry of the ticket's message isn't covered
abbrev pub uncovered_from : SenderView → (ticket : ℕ) → ℕ → List Entry → Bool
uncovered_from v t i es = any_from (λ j e. has_ticket t (entry_message v.plan e) && not (v.covered j)) i es

-- a message of the ticket is shown late
abbrev pub shown_from : SenderView → (now ticket : ℕ) → ℕ → List Entry → Bool
shown_from v now t i es = any_from (λ j e. is_late now t (shown_message v j e)) i es

-- up to CUM all is covered
pub uncovered_above : (f : Format) (v : SenderView) (t : ℕ) (n : Name) → IsReached f v → name_of v t ≡ Some n → has_uncovered v n ≡ uncovered_from v t (suc v.cum) (drop v.cum v.plan.entries)
uncovered_above f v t n h is =
    let b = is_bounded f v h in
    let test : ℕ → Entry → Bool = λ j e. has_ticket t (entry_message v.plan e) && not (v.covered j) in
    let one : 1 + v.cum ≡ suc v.cum = omega arith in
    let below = any_from-drop test 1 v.cum v.plan.entries (λ j e lo hi. rw (b.covered j (omega arith) (omega arith)) (and_right (has_ticket t (entry_message v.plan e)) false refl)) b.within in
    uncovered_by_ticket f v t n h is ∙ (rw one at below)

-- ---- what is shown late may be abandoned

-- if it waits
pub late_waiting : (f : Format) (v : SenderView) (now t : ℕ) → IsReached f v → late_waits now t v.queue ≡ true → is_to_expire v now t ≡ true
late_waiting f v now t h late =
    let here = waits_late now t v.queue late in
    let unnamed = ((is_ticketed f v h).waiting t here).2 in
    and_from (is_overdue v now t) (may_abandon v t) (due_waits f v now t h late) (ap (λ (o : Option Name). option_map_or (may_abandon_named v) o (waits t v.queue)) unnamed ∙ here)

-- if it has a number
late_named : (f : Format) (v : SenderView) (now t : ℕ) (n : Name) → IsReached f v → v.partial ≡ true → name_of v t ≡ Some n → some_passes (is_past now) (message_at v.plan n.lane n.number) ≡ true
    → is_abandoned v n ≡ false → is_covered v n ≡ false → is_to_expire v now t ≡ true
late_named f v now t n h partial is past kept missing =
    and_from (is_overdue v now t) (may_abandon v t) (due_named f v now t n h is past)
    (ap (λ (o : Option Name). option_map_or (may_abandon_named v) o (waits t v.queue)) is ∙ all_three v.partial (is_abandoned v n) (is_covered v n) partial kept missing)
  where
    all_three : (a b c : Bool) → a ≡ true → b ≡ false → c ≡ false → (a && (not b && not c)) ≡ true
    all_three a b c x y z = rw (x, y, z) refl

-- a shown entry, by its message
record IsShown (v : SenderView) (now t i : ℕ) (es : List Entry) : Type 0 where
  pub name : Name
  pub named : name_of v t ≡ Some name
  pub past : some_passes (is_past now) (message_at v.plan name.lane name.number) ≡ true
  pub kept : is_abandoned v name ≡ false
  pub uncovered : uncovered_from v t i es ≡ true

shown_is : (v : SenderView) (now t i : ℕ) (es : List Entry) → AllOwn v.plan v.tickets v.plan.entries es → shown_from v now t i es ≡ true → IsShown v now t i es
shown_is v now t i [] own on = absurd (cc)
shown_is v now t i (e ∷ es) own on = by_covered (v.covered i) (is_of_abandoned v e) refl refl on (λ there. later (shown_is v now t (suc i) es own.1 there))
  where
    later : IsShown v now t (suc i) es → IsShown v now t i (e ∷ es)
    later x = record { name = x.name; named = x.named; past = x.past; kept = x.kept; uncovered = or_right (has_ticket t (entry_message v.plan e) && not (v.covered i)) (uncovered_from v t (suc i) es) x.uncovered }

    here : v.covered i ≡ false → is_of_abandoned v e ≡ false → is_late now t (entry_message v.plan e) ≡ true → IsShown v now t i (e ∷ es)
    here uncovered kept late =
        let has = late_has now t (entry_message v.plan e) late in
        let bare : not (v.covered i) ≡ true = rw uncovered refl in
        record {
          name = name_at e;
          named = (own.0 t has).2;
          past = late_past now t (entry_message v.plan e) late;
          kept = kept;
          uncovered = or_left (has_ticket t (entry_message v.plan e) && not (v.covered i)) (uncovered_from v t (suc i) es) (and_from (has_ticket t (entry_message v.plan e)) (not (v.covered i)) has bare);
        }

    by_late : (b : Bool) → is_late now t (entry_message v.plan e) ≡ b → v.covered i ≡ false → is_of_abandoned v e ≡ false → (b || shown_from v now t (suc i) es) ≡ true
        → (shown_from v now t (suc i) es ≡ true → IsShown v now t i (e ∷ es)) → IsShown v now t i (e ∷ es)
    by_late true late uncovered kept there further = here uncovered kept late
    by_late false late uncovered kept there further = further there

    by_covered : (c g : Bool) → v.covered i ≡ c → is_of_abandoned v e ≡ g → (is_late now t (if c || g then None else entry_message v.plan e) || shown_from v now t (suc i) es) ≡ true
        → (shown_from v now t (suc i) es ≡ true → IsShown v now t i (e ∷ es)) → IsShown v now t i (e ∷ es)
    by_covered true g covered given there further = further there
    by_covered false true covered given there further = further there
    by_covered false false covered given there further = by_late (is_late now t (entry_message v.plan e)) refl covered given there further

pub late_shown : (f : Format) (v : SenderView) (now t : ℕ) → IsReached f v → v.partial ≡ true → shown_from v now t (suc v.cum) (drop v.cum v.plan.entries) ≡ true → is_to_expire v now t ≡ true
late_shown f v now t h partial on =
    let own = all_own_drop v.plan v.tickets v.cum v.plan.entries v.plan.entries (is_ticketed f v h).owned in
    let x = shown_is v now t (suc v.cum) (drop v.cum v.plan.entries) own on in
    late_named f v now t x.name h partial x.named x.past x.kept (missing (is_in_part v x.name.lane x.name.number) (has_uncovered v x.name) (uncovered_above f v t x.name h x.named ∙ x.uncovered))
  where
    missing : (a b : Bool) → b ≡ true → (not a && not b) ≡ false
    missing a b on = rw on (and_right (not a) false refl)

-- what a stream goes on with
pub late_rest : (f : Format) (v : SenderView) (now t s : ℕ) (e : Entry) → IsReached f v → v.partial ≡ true → continued v.plan s ≡ Some e → is_late now t (entry_message v.plan e) ≡ true → is_to_expire v now t ≡ true
late_rest f v now t s e h partial on late =
    late_named f v now t (name_at e) h partial named (late_past now t (entry_message v.plan e) late) (are_parts_kept f v h s e on) (rw part refl)
  where
    named : name_of v t ≡ Some (name_at e)
    named = (continued_owns f v s e h on t (late_has now t (entry_message v.plan e) late)).2

    mine : is_of (entry_lane e) (entry_number e) e ≡ true
    mine = let self : (entry_number e == entry_number e) ≡ true = grind (arith, nat_tests) in and_from _ _ (same_lane-self (entry_lane e)) self

    part : is_in_part v (entry_lane e) (entry_number e) ≡ true
    part =
        let next = continued_is v.streams v.plan s e (is_named f v h) on in
        let there : (entry_lane e).stream ≡ s = ap (λ (x : Entry). (entry_lane x).stream) next.is ∙ next.on in
        ap (some_passes (is_of (entry_lane e) (entry_number e))) (ap (continued v.plan) there ∙ on) ∙ mine

-- ---- what isn't shown late is let be

-- nothing shows a message of the ticket past its time: of messages with a number only those of a partially reliable sender count
pub record IsPassedOver (v : SenderView) (now t : ℕ) : Type 0 where
  pub queue : late_waits now t v.queue ≡ false
  pub entries : v.partial ≡ true → shown_from v now t (suc v.cum) (drop v.cum v.plan.entries) ≡ false
  pub rests : v.partial ≡ true → (s : ℕ) (e : Entry) → s < v.streams → continued v.plan s ≡ Some e → is_late now t (entry_message v.plan e) ≡ false

-- if no entry is shown late, none is uncovered and of a message that is past its time, and was not given up
none_uncovered : (v : SenderView) (now t i : ℕ) (n : Name) (es : List Entry) → AllOwn v.plan v.tickets v.plan.entries es → name_of v t ≡ Some n → some_passes (is_past now) (message_at v.plan n.lane n.number) ≡ true
    → is_abandoned v n ≡ false → shown_from v now t i es ≡ false → uncovered_from v t i es ≡ false
none_uncovered v now t i n [] own is past kept off = refl
none_uncovered v now t i n (e ∷ es) own is past kept off =
    by_ticket (has_ticket t (entry_message v.plan e)) refl (v.covered i) off (λ rest. none_uncovered v now t (suc i) n es own.1 is past kept rest)
  where
    shown : has_ticket t (entry_message v.plan e) ≡ true → is_late now t (if is_of_abandoned v e then None else entry_message v.plan e) ≡ true
    shown has =
        let mine = (own.0 t has).2 in
        let same : n ≡ name_at e = let both : Some n ≡ Some (name_at e) = sym is ∙ mine in cc in
        let given : is_of_abandoned v e ≡ false = subst (λ (y : Name). is_abandoned v y ≡ false) same kept in
        let over = subst (λ (y : Name). some_passes (is_past now) (message_at v.plan y.lane y.number) ≡ true) same past in
        ap (λ (b : Bool). is_late now t (if b then None else entry_message v.plan e)) given ∙ late_is now t (entry_message v.plan e) has over

    by_ticket : (b : Bool) → has_ticket t (entry_message v.plan e) ≡ b → (c : Bool) → (is_late now t (if c || is_of_abandoned v e then None else entry_message v.plan e) || shown_from v now t (suc i) es) ≡ false
        → (shown_from v now t (suc i) es ≡ false → uncovered_from v t (suc i) es ≡ false) → ((b && not c) || uncovered_from v t (suc i) es) ≡ false
    by_ticket false has c here further = further (or_parts (is_late now t (if c || is_of_abandoned v e then None else entry_message v.plan e)) (shown_from v now t (suc i) es) here).1
    by_ticket true has true here further = further here
    by_ticket true has false here further =
        let off = (or_parts (is_late now t (if is_of_abandoned v e then None else entry_message v.plan e)) (shown_from v now t (suc i) es) here).0 in
        let on = shown has in
        absurd (cc)

-- a message that is past its time, was not given up and isn't shown was acknowledged whole
acknowledged_late : (f : Format) (v : SenderView) (now t : ℕ) (n : Name) → IsReached f v → IsPassedOver v now t → v.partial ≡ true → name_of v t ≡ Some n
    → some_passes (is_past now) (message_at v.plan n.lane n.number) ≡ true → is_abandoned v n ≡ false → is_covered v n ≡ true
acknowledged_late f v now t n h quiet partial is past kept = rw (whole (is_in_part v n.lane n.number) refl, covered) refl
  where
    has : has_ticket t (message_at v.plan n.lane n.number) ≡ true
    has = (found_owns v.plan v.tickets t v.plan.entries v.plan.entries n (is_ticketed f v h).owned is).1

    whole : (b : Bool) → is_in_part v n.lane n.number ≡ b → b ≡ false
    whole false off = refl
    whole true on =
        let part = in_part_is v n (is_named f v h) on in
        let low = (name_found v.streams v.plan t v.plan.entries n (is_named f v h) is).1 in
        let off = quiet.rests partial n.lane.stream (Part n.lane n.number (suc part.0)) low part.1 in
        let late = late_is now t (message_at v.plan n.lane n.number) has past in
        absurd (cc)

    covered : has_uncovered v n ≡ false
    covered =
        uncovered_above f v t n h is
        ∙ none_uncovered v now t (suc v.cum) n (drop v.cum v.plan.entries) (all_own_drop v.plan v.tickets v.cum v.plan.entries v.plan.entries (is_ticketed f v h).owned) is past kept (quiet.entries partial)

pub never_late : (f : Format) (v : SenderView) (now t : ℕ) → IsReached f v → IsPassedOver v now t → is_to_expire v now t ≡ false
never_late f v now t h over = by_due (is_overdue v now t) refl
  where
    by_rule : (n : Name) (a b : Bool) → v.partial ≡ a → is_abandoned v n ≡ b → name_of v t ≡ Some n → is_overdue v now t ≡ true → may_abandon_named v n ≡ false
    by_rule n false b off given is due = ap (λ (a : Bool). a && (not (is_abandoned v n) && not (is_covered v n))) off
    by_rule n true true on given is due = ap (λ (b : Bool). v.partial && (not b && not (is_covered v n))) given ∙ and_right v.partial false refl
    by_rule n true false on kept is due =
        let p = due_is_past f v now t n h due is in
        let past : some_passes (is_past now) (message_at v.plan n.lane n.number) ≡ true = subst (λ (o : Option Message). some_passes (is_past now) o ≡ true) (sym p.named) p.past in
        let whole = acknowledged_late f v now t n h over on is past kept in
        ap (λ (c : Bool). v.partial && (not (is_abandoned v n) && not c)) whole
        ∙ and_right v.partial (not (is_abandoned v n) && false) (and_right (not (is_abandoned v n)) false refl)

    by_name : (o : Option Name) → name_of v t ≡ o → is_overdue v now t ≡ true → option_map_or (may_abandon_named v) o (waits t v.queue) ≡ false
    by_name (Some n) is due = by_rule n v.partial (is_abandoned v n) refl refl is due
    by_name None is due = absurd (
        let found : some_passes (is_past now) (option_map (λ q. q.message) (find (λ q. q.message.ticket == t) v.queue)) ≡ true = first_alone now (option_map (λ q. q.message) (find (λ q. q.message.ticket == t) v.queue)) (rw is at due) in
        let late = found_late now t v.queue found in
        let off = over.queue in
        cc)

    by_due : (b : Bool) → is_overdue v now t ≡ b → (b && may_abandon v t) ≡ false
    by_due true due = by_name (name_of v t) refl due
    by_due false off = refl
