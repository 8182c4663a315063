-- What a moment gives up: messages past their lifetime and, if the data timer is due, those at their limit of retransmissions, and nothing else.
use Rattle.std.proofs.Common.{◌≡◌, ℕ, zero, suc, ◌+◌, ◌<◌, ◌≤◌, ◌⊎◌, inl, inr, Bool, true, false, List, [], ◌∷◌, length, length-append, Option, Some, refl, sym, ap, ◌∙◌, subst, arith, if◌then◌else◌}
use Rattle.std.specs.Prelude.{◌==◌, not, ◌&&◌, ◌||◌, nat_lt, fold, slice_get, option_map, option_and_then, unwrap_or}
use Rattle.std.specs.List.{list_any}
use Rattle.std.proofs.lemmas.Bool.{and_parts, and_from, or_left, or_right}
use Rattle.std.proofs.lemmas.Bool.Decides.{nat_tests}
use Rattle.sctp_model.specs.messages.Format.{Format, Lane, same_lane}
use Rattle.sctp_model.specs.messages.Plan.{Message, Entry, End, Plan, entry_at}
use Rattle.sctp_model.specs.sender.SenderView.{SendLimits, SenderView, fresh_sender}
use Rattle.sctp_model.specs.sender.Words.{some_passes, count_up}
use Rattle.sctp_model.specs.sender.Entries.{entry_lane, entry_number, entry_message, is_of_abandoned, is_wanted, is_unsettled, passes_at}
use Rattle.sctp_model.specs.sender.Abandoning.{Name, name_at, name_of, without, is_abandoned, with_abandoned, abandon_after, is_overdue, expire_one, is_to_expire, expired, is_used_up, is_worn, is_worn_at, ticket_at, wear_one, worn}
use Rattle.sctp_model.specs.sender.Readers.{abandoned}
use Rattle.sctp_model.specs.sender.Reached.{IsReached}
use Rattle.sctp_model.specs.end.EndView.{EndView}
use Rattle.sctp_model.specs.end.Moments.{given_up, is_data_due}
use Rattle.sctp_model.proofs.sender.WordLaws.{some_is}
use Rattle.sctp_model.proofs.sender.AbandonCases.{lanes_same, after_abandon, after_end}
use Rattle.sctp_model.proofs.sender.Bounds.{is_bounded}
use Rattle.sctp_model.proofs.sender.MarkLaws.{entry_kept}
use Rattle.sctp_model.proofs.sender.TicketLaws.{is_ticketed}
use Rattle.sctp_model.proofs.sender.WearLands.{own_item}
use Rattle.sctp_send.specs.SenderAnswers.{is_limit_at, is_at_limit}
use Rattle.sctp_association.specs.GivenUp.{GivesUpAlone}
use Rattle.sctp_association.proofs.SparedLemmas.{abandon_spares, expiry_spares, late_is_kept}

off : (b : Bool) → not b ≡ true → b ≡ false
off true on = absurd (cc)
off false on = refl

-- ---- of numbers that count up, one passes

pub any_up : (Q : ℕ → Bool) (i n k : ℕ) → i ≤ k → k < i + n → Q k ≡ true → list_any Q (count_up i n) ≡ true
any_up Q i zero k lo hi on = absurd (omega arith)
any_up Q i (suc n) k lo hi on = by_here (i == k) refl (λ above. any_up Q (suc i) n k above (omega arith) on)
  where
    by_here : (b : Bool) → (i == k) ≡ b → (suc i ≤ k → list_any Q (count_up (suc i) n) ≡ true) → (Q i || list_any Q (count_up (suc i) n)) ≡ true
    by_here true same further = let here : i ≡ k = grind (arith, nat_tests) in or_left (Q i) (list_any Q (count_up (suc i) n)) (ap Q here ∙ on)
    by_here false other further = or_right (Q i) (list_any Q (count_up (suc i) n)) (further (grind (arith, nat_tests)))

any_is : (Q : ℕ → Bool) (ks : List ℕ) → list_any Q ks ≡ true → (k : ℕ) × (Q k ≡ true)
any_is Q [] on = absurd (cc)
any_is Q (k ∷ ks) on = by_here (Q k) refl on (λ later. any_is Q ks later)
  where
    by_here : (b : Bool) → Q k ≡ b → (b || list_any Q ks) ≡ true → (list_any Q ks ≡ true → (j : ℕ) × (Q j ≡ true)) → (j : ℕ) × (Q j ≡ true)
    by_here true is here further = (k, is)
    by_here false is here further = further here

-- ---- a message at its limit isn't abandoned

-- the message of a fragment that may not be retransmitted again is found by its ticket
worn_named : (f : Format) (v : SenderView) (i : ℕ) (e : Entry) → IsReached f v → entry_at v.plan i ≡ Some e → is_worn v i e ≡ true → name_of v (ticket_at v i) ≡ Some (name_at e)
worn_named f v i e h there worn_out =
    let may = and_parts v.partial (some_passes (is_used_up (v.repeats i)) (entry_message v.plan e)) worn_out in
    let used = some_is (is_used_up (v.repeats i)) (entry_message v.plan e) may.1 in
    let whose : option_and_then (entry_message v.plan) (entry_at v.plan i) ≡ Some used.0 = ap (option_and_then (entry_message v.plan)) there ∙ used.1 in
    let ticket : ticket_at v i ≡ used.0.ticket = ap (λ (o : Option Message). unwrap_or (option_map (λ x. x.ticket) o) 0) whose in
    let own = own_item v.plan v.tickets v.plan.entries v.plan.entries i e (is_ticketed f v h).owned there in
    let self : (used.0.ticket == used.0.ticket) ≡ true = grind (arith, nat_tests) in
    let has : some_passes (λ (x : Message). x.ticket == used.0.ticket) (entry_message v.plan e) ≡ true = ap (some_passes (λ (x : Message). x.ticket == used.0.ticket)) used.1 ∙ self in
    ap (name_of v) ticket ∙ (own used.0.ticket has).2

pub limit_anew : (f : Format) (v : SenderView) (t : ℕ) → IsReached f v → is_at_limit v t ≡ true → abandoned v t ≡ false
limit_anew f v t h on =
    let one = any_is (λ i. is_limit_at v i && (ticket_at v i == t)) (count_up 1 (length v.plan.entries)) on in
    let i = one.0 in
    let both = and_parts (is_limit_at v i) (ticket_at v i == t) one.1 in
    let test = both.1 in
    let same : ticket_at v i ≡ t = grind (arith, nat_tests) in
    let limit = and_parts (nat_lt v.cum i) (passes_at v.plan (λ j e. not (is_of_abandoned v e) && is_worn v j e) i) both.0 in
    let there = some_is (λ e. not (is_of_abandoned v e) && is_worn v i e) (entry_at v.plan i) limit.1 in
    let parts = and_parts (not (is_of_abandoned v there.0)) (is_worn v i there.0) there.2 in
    let named : name_of v t ≡ Some (name_at there.0) = ap (name_of v) (sym same) ∙ worn_named f v i there.0 h there.1 parts.1 in
    ap (some_passes (is_abandoned v)) named ∙ off (is_of_abandoned v there.0) parts.0

-- ---- after some messages were abandoned

-- all else is as it was
record IsAfter (v u : SenderView) : Type 0 where
  messages : u.plan.messages ≡ v.plan.messages
  longer : length v.plan.entries ≤ length u.plan.entries
  entries : (i : ℕ) → i ≤ length v.plan.entries → entry_at u.plan i ≡ entry_at v.plan i
  sent : u.sent ≡ v.sent
  repeats : u.repeats ≡ v.repeats
  covered : u.covered ≡ v.covered
  partial : u.partial ≡ v.partial
  grows : (l : Lane) (n : ℕ) → v.abandoned l n ≡ true → u.abandoned l n ≡ true

after_itself : (v : SenderView) → IsAfter v v
after_itself v = record { messages = refl; longer = omega arith; entries = λ i low. refl; sent = refl; repeats = refl; covered = refl; partial = refl; grows = λ l n on. on }

given_grows : (v : SenderView) (n : Name) (l : Lane) (k : ℕ) → v.abandoned l k ≡ true → (with_abandoned v n).abandoned l k ≡ true
given_grows v n l k on = by_lane (same_lane l n.lane) refl
  where
    by_number : (b : Bool) → l ≡ n.lane → (if b then true else v.abandoned n.lane k) ≡ true
    by_number true lane = refl
    by_number false lane = ap (λ (x : Lane). v.abandoned x k) (sym lane) ∙ on

    by_lane : (b : Bool) → same_lane l n.lane ≡ b → (if b then (λ (j : ℕ). if j == n.number then true else v.abandoned n.lane j) else v.abandoned l) k ≡ true
    by_lane true same = by_number (k == n.number) (lanes_same l n.lane same)
    by_lane false other = on

abandoned_after : (v u : SenderView) (t : ℕ) → IsAfter v u → IsAfter v (abandon_after u t)
abandoned_after v u t k = after_abandon (IsAfter v) u t k (λ waits. withdrawn) (λ n is kept. given n)
  where
    withdrawn : IsAfter v (record u { queue = without t u.queue })
    withdrawn = record { messages = k.messages; longer = k.longer; entries = k.entries; sent = k.sent; repeats = k.repeats; covered = k.covered; partial = k.partial; grows = k.grows }

    given : (n : Name) → IsAfter v (with_abandoned u n)
    given n = after_end (λ (p : Plan). IsAfter v (record (with_abandoned u n) { plan = p })) u n
        (λ whole. record {
          messages = k.messages;
          longer = k.longer;
          entries = k.entries;
          sent = k.sent;
          repeats = k.repeats;
          covered = k.covered;
          partial = k.partial;
          grows = λ l m on. given_grows u n l m (k.grows l m on);
        })
        (λ part. record {
          messages = k.messages;
          longer = (let more = length-append u.plan.entries (End n.lane n.number ∷ []) in let low = k.longer in omega (arith, more, low));
          entries = λ i low. entry_kept u.plan.entries (End n.lane n.number ∷ []) i (let long = k.longer in omega (arith, long, low)) ∙ k.entries i low;
          sent = k.sent;
          repeats = k.repeats;
          covered = k.covered;
          partial = k.partial;
          grows = λ l m on. given_grows u n l m (k.grows l m on);
        })

expired_after : (now : ℕ) (v u : SenderView) (ts : List ℕ) → IsAfter v u → IsAfter v (fold (expire_one now) u ts)
expired_after now v u [] k = k
expired_after now v u (t ∷ ts) k = expired_after now v (expire_one now u t) ts (one (is_overdue u now t))
  where
    one : (b : Bool) → IsAfter v (if b then abandon_after u t else u)
    one true = abandoned_after v u t k
    one false = k

-- ---- what is abandoned at its limit was at its limit before

positive : (p : Plan) (i : ℕ) (e : Entry) → entry_at p i ≡ Some e → 0 < i
positive p zero e there = absurd (cc)
positive p (suc i) e there = omega arith

limit_there : (f : Format) (v u : SenderView) (test : ℕ → Bool) (i : ℕ) → IsReached f v → IsAfter v u → is_worn_at test u i ≡ true → is_at_limit v (ticket_at u i) ≡ true
limit_there f v u test i h k on =
    let there = some_is (λ e. is_unsettled u i e && is_worn u i e) (entry_at u.plan i) (and_parts (test i) (passes_at u.plan (λ j e. is_unsettled u j e && is_worn u j e) i) on).1 in
    let e = there.0 in
    let parts = and_parts (is_unsettled u i e) (is_worn u i e) there.2 in
    let live = and_parts (u.sent i) (is_wanted u i e) parts.0 in
    let want = and_parts (not (u.covered i)) (not (is_of_abandoned u e)) live.1 in
    let low = within live.0 (nat_lt (length v.plan.entries) i) refl in
    let here : entry_at v.plan i ≡ Some e = sym (k.entries i low) ∙ there.1 in
    let some = positive v.plan i e here in
    let bare : v.covered i ≡ false = sym (ap (λ (g : ℕ → Bool). g i) k.covered) ∙ off (u.covered i) want.0 in
    let passes : (not (is_of_abandoned v e) && is_worn v i e) ≡ true = and_from (not (is_of_abandoned v e)) (is_worn v i e) (ap not (kept e want.1 (is_of_abandoned v e) refl)) (wears e parts.1) in
    let limit : is_limit_at v i ≡ true =
    and_from (nat_lt v.cum i) (passes_at v.plan (λ j x. not (is_of_abandoned v x) && is_worn v j x) i) (above some bare (nat_lt v.cum i) refl)
    (ap (some_passes (λ x. not (is_of_abandoned v x) && is_worn v i x)) here ∙ passes) in
    let self : (ticket_at u i == ticket_at u i) ≡ true = grind (arith, nat_tests) in
    let ticket : (ticket_at v i == ticket_at u i) ≡ true = ap (λ (n : ℕ). n == ticket_at u i) (sym (tickets low)) ∙ self in
    any_up (λ j. is_limit_at v j && (ticket_at v j == ticket_at u i)) 1 (length v.plan.entries) i some (omega (arith, low)) (and_from (is_limit_at v i) (ticket_at v i == ticket_at u i) limit ticket)
  where
    within : u.sent i ≡ true → (b : Bool) → nat_lt (length v.plan.entries) i ≡ b → i ≤ length v.plan.entries
    within sent true past = absurd (let none = (is_bounded f v h).unsent i (grind (arith, nat_tests)) in let one : v.sent i ≡ true = sym (ap (λ (g : ℕ → Bool). g i) k.sent) ∙ sent in cc)
    within sent false low = grind (arith, nat_tests)

    above : 0 < i → v.covered i ≡ false → (b : Bool) → nat_lt v.cum i ≡ b → b ≡ true
    above some bare true past = refl
    above some bare false low = absurd (let all = (is_bounded f v h).covered i some (grind (arith, nat_tests)) in cc)

    kept : (e : Entry) → not (is_of_abandoned u e) ≡ true → (b : Bool) → is_of_abandoned v e ≡ b → is_of_abandoned v e ≡ false
    kept e not_given true given = absurd (let later = k.grows (entry_lane e) (entry_number e) given in let no = off (is_of_abandoned u e) not_given in cc)
    kept e not_given false free = free

    -- worn, by what that depends on
    wears_by : Entry → Bool → (ℕ → ℕ) → (Lane → List Message) → Bool
    wears_by e may repeats messages = may && some_passes (is_used_up (repeats i)) (slice_get (messages (entry_lane e)) (entry_number e))

    wears : (e : Entry) → is_worn u i e ≡ true → is_worn v i e ≡ true
    wears e worn_out =
        let one : wears_by e u.partial u.repeats u.plan.messages ≡ wears_by e v.partial u.repeats u.plan.messages = ap (λ (b : Bool). wears_by e b u.repeats u.plan.messages) k.partial in
        let two : wears_by e v.partial u.repeats u.plan.messages ≡ wears_by e v.partial v.repeats u.plan.messages = ap (λ (r : ℕ → ℕ). wears_by e v.partial r u.plan.messages) k.repeats in
        let three : wears_by e v.partial v.repeats u.plan.messages ≡ wears_by e v.partial v.repeats v.plan.messages = ap (λ (ms : Lane → List Message). wears_by e v.partial v.repeats ms) k.messages in
        sym (one ∙ two ∙ three) ∙ worn_out

    -- the ticket, by what it depends on
    ticket_by : (Lane → List Message) → Option Entry → ℕ
    ticket_by messages o = unwrap_or (option_map (λ (m : Message). m.ticket) (option_and_then (λ (x : Entry). slice_get (messages (entry_lane x)) (entry_number x)) o)) 0

    tickets : i ≤ length v.plan.entries → ticket_at u i ≡ ticket_at v i
    tickets low = ap (λ (ms : Lane → List Message). ticket_by ms (entry_at u.plan i)) k.messages ∙ ap (λ (o : Option Entry). ticket_by v.plan.messages o) (k.entries i low)

-- each ticket that is abandoned has the property
abbrev Gives : (ℕ → Type 0) → SenderView → Type 0
Gives P u = (t : ℕ) → abandoned u t ≡ true → P t

wears_one : (f : Format) (P : ℕ → Type 0) (v u : SenderView) (test : ℕ → Bool) (i : ℕ) → IsReached f v → ((t : ℕ) → is_at_limit v t ≡ true → P t) → IsAfter v u → Gives P u
    → IsAfter v (wear_one test u i) × Gives P (wear_one test u i)
wears_one f P v u test i h limit k g = by_worn (is_worn_at test u i) refl
  where
    by_ticket : (t : ℕ) → is_worn_at test u i ≡ true → abandoned (abandon_after u (ticket_at u i)) t ≡ true → (b : Bool) → (ticket_at u i == t) ≡ b → P t
    by_ticket t on given true same = let is : ticket_at u i ≡ t = grind (arith, nat_tests) in subst P is (limit (ticket_at u i) (limit_there f v u test i h k on))
    by_ticket t on given false other =
        let apart : ticket_at u i ≡ t → ⊥ = λ e. let yes : (ticket_at u i == t) ≡ true = grind (arith, nat_tests) in absurd (cc) in
        g t (sym (abandon_spares u (ticket_at u i) t apart) ∙ given)

    by_worn : (b : Bool) → is_worn_at test u i ≡ b → IsAfter v (if b then abandon_after u (ticket_at u i) else u) × Gives P (if b then abandon_after u (ticket_at u i) else u)
    by_worn false none = (k, g)
    by_worn true on = (abandoned_after v u (ticket_at u i) k, λ t given. by_ticket t on given (ticket_at u i == t) refl)

wears_all : (f : Format) (P : ℕ → Type 0) (v u : SenderView) (test : ℕ → Bool) (is : List ℕ) → IsReached f v → ((t : ℕ) → is_at_limit v t ≡ true → P t) → IsAfter v u → Gives P u → Gives P (fold (wear_one test) u is)
wears_all f P v u test [] h limit k g = g
wears_all f P v u test (i ∷ is) h limit k g = let next = wears_one f P v u test i h limit k g in wears_all f P v (wear_one test u i) test is h limit next.0 next.1

-- what wearing abandons was abandoned before, or at its limit
pub worn_alone : (f : Format) (v : SenderView) (test : ℕ → Bool) (t : ℕ) → IsReached f v → abandoned (worn test v) t ≡ true → (abandoned v t ≡ true) ⊎ (is_at_limit v t ≡ true)
worn_alone f v test t h given =
    wears_all f (λ k. (abandoned v k ≡ true) ⊎ (is_at_limit v k ≡ true)) v v test (count_up 1 (length v.plan.entries)) h (λ k on. inr on) (after_itself v) (λ k was. inl was) t given

-- ---- a moment

-- of a view that calls reach
pub gives_up_alone : (f : Format) (e : EndView) → IsReached f e.sender → GivesUpAlone e
gives_up_alone f e h = record { alone = λ t. alone t (is_data_due e); anew = λ t. anew t (is_to_expire v now t) refl }
  where
    v : SenderView
    v = e.sender

    now : ℕ
    now = e.moment

    late : (t : ℕ) → abandoned (expired v now) t ≡ true → (b : Bool) → is_to_expire v now t ≡ b → (abandoned v t ≡ true) ⊎ (is_to_expire v now t ≡ true)
    late t given true on = inr on
    late t given false none = inl (sym (expiry_spares v now t none) ∙ given)

    by_late : (t : ℕ) (b : Bool) → (abandoned v t ≡ true) ⊎ (is_to_expire v now t ≡ true) → (abandoned v t ≡ true) ⊎ ((is_to_expire v now t || (b && is_at_limit v t)) ≡ true)
    by_late t b (inl was) = inl was
    by_late t b (inr on) = inr (or_left (is_to_expire v now t) (b && is_at_limit v t) on)

    alone : (t : ℕ) (b : Bool) → abandoned (given_up b v now) t ≡ true → (abandoned v t ≡ true) ⊎ ((is_to_expire v now t || (b && is_at_limit v t)) ≡ true)
    alone t false given = by_late t false (late t given (is_to_expire v now t) refl)
    alone t true given =
        let P : ℕ → Type 0 = λ k. (abandoned v k ≡ true) ⊎ ((is_to_expire v now k || (true && is_at_limit v k)) ≡ true) in
        wears_all f P v (expired v now) (λ i. true) (count_up 1 (length (expired v now).plan.entries)) h
        (λ k on. inr (or_right (is_to_expire v now k) (is_at_limit v k) on))
        (expired_after now v v (count_up 1 v.tickets) (after_itself v))
        (λ k was. by_late k true (late k was (is_to_expire v now k) refl)) t given

    anew : (t : ℕ) (b : Bool) → is_to_expire v now t ≡ b → (is_to_expire v now t || (is_data_due e && is_at_limit v t)) ≡ true → abandoned v t ≡ false
    anew t true on some = late_is_kept v now t on
    anew t false none some =
        let rest : (is_data_due e && is_at_limit v t) ≡ true = sym (ap (λ (b : Bool). b || (is_data_due e && is_at_limit v t)) none) ∙ some in
        limit_anew f v t h (and_parts (is_data_due e) (is_at_limit v t) rest).1

-- of an endpoint before an association
pub unused_alone : (e : EndView) (fragment : ℕ) (l : SendLimits) → e.sender ≡ fresh_sender 0 0 fragment 0 false l → GivesUpAlone e
unused_alone e fragment l is = record {
  alone = λ t given. absurd (none t (is_data_due e) (sym (ap (λ (s : SenderView). abandoned (given_up (is_data_due e) s e.moment) t) is) ∙ given));
  anew = λ t on. ap (λ (s : SenderView). abandoned s t) is;
}
  where
    none : (t : ℕ) (b : Bool) → abandoned (given_up b (fresh_sender 0 0 fragment 0 false l) e.moment) t ≡ true → ⊥
    none t true given = cc
    none t false given = cc
