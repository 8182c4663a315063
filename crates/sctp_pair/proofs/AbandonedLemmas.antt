-- Which messages a time or a call abandons: those that weren't abandoned before and are now; at a time only those that it may give up.
use Rattle.std.proofs.Common.{◌≡◌, ℕ, zero, suc, ◌⊎◌, inl, inr, max, Bool, true, false, not, ◌&&◌, List, [], ◌∷◌, ◌++◌, refl, sym, ap, ◌∙◌, map, append_assoc}
use Rattle.std.specs.Prelude.{if◌then◌else◌, filter, ◌||◌, ◌==◌}
use Rattle.std.proofs.lemmas.List.{append-nil}
use Rattle.std.proofs.lemmas.List.Elements.{filter-append}
use Rattle.sctp_model.specs.sender.SenderView.{SenderView}
use Rattle.sctp_model.specs.sender.Words.{count_up}
use Rattle.sctp_model.specs.sender.Readers.{abandoned, point}
use Rattle.sctp_model.specs.end.EndView.{TimedOut, Alarm, InitAlarm, CookieAlarm, DataAlarm, ShutdownAlarm, AckAlarm, ResetAlarm, BeatAlarm, GuardAlarm, EndView, has_association}
use Rattle.sctp_model.specs.end.Clock.{is_over_at, may_go_on, with_timer, at_moment, closed, expired_timer, settled}
use Rattle.sctp_model.specs.end.Closing.{rested}
use Rattle.sctp_model.specs.end.Moments.{after_abandoning, is_data_due, given_up, due_again, rung, ring, rung_all, all_alarms, waited_in, passed, ticked}
use Rattle.sctp_model.specs.world.World.{if_newly_abandoned, newly_abandoned}
use Rattle.sctp_association.specs.GivenUp.{is_to_give_up, GivesUpAlone}
use Rattle.sctp_outcomes.specs.Kept.{IsSound}
use Rattle.sctp_outcomes.proofs.logs.Passed.{moments_keep_logs}
use Rattle.sctp_script.specs.ReportText.{ticket_number}
use Rattle.sctp_values.specs.declared.ticket.Ticket.{Ticket}
use Rattle.sctp_pair.specs.Noted.{tickets_to_give_up, IsWatched}
use Rattle.sctp_pair.proofs.ListedLemmas.{filter-more}
use Rattle.sctp_safety.proofs.machine.EndWords.{rested_cases}
use Rattle.sctp_safety.proofs.machine.Reconfigured.{retried_of}

-- ---- timers abandon nothing

abbrev IsGivenAlike : SenderView → EndView → Type 0
IsGivenAlike v e = (k : ℕ) → abandoned e.sender k ≡ abandoned v k

again_alike : (v : SenderView) (a : Alarm) (e : EndView) → IsGivenAlike v e → IsGivenAlike v (due_again a e)
again_alike v InitAlarm e alike = alike
again_alike v CookieAlarm e alike = alike
again_alike v DataAlarm e alike = alike
again_alike v ShutdownAlarm e alike = alike
again_alike v AckAlarm e alike = alike
again_alike v ResetAlarm e alike = λ k. ap (λ (x : SenderView). abandoned x k) (retried_of e.sender).1 ∙ alike k
again_alike v BeatAlarm e alike = alike
again_alike v GuardAlarm e alike = alike

rung_alike : (v : SenderView) (b : Bool) (a : Alarm) (e : EndView) → IsGivenAlike v e → IsGivenAlike v (rung b a e)
rung_alike v false a e alike = alike
rung_alike v true a e alike = go (may_go_on a e)
  where
    go : (c : Bool) → IsGivenAlike v (if c then due_again a (with_timer a (expired_timer e.configuration.longest_wait (e.timers a)) e) else closed TimedOut e)
    go true = again_alike v a (with_timer a (expired_timer e.configuration.longest_wait (e.timers a)) e) alike
    go false = alike

all_alike : (v : SenderView) (alarms : List Alarm) (e : EndView) → IsGivenAlike v e → IsGivenAlike v (rung_all alarms e)
all_alike v [] e alike = alike
all_alike v (a ∷ more) e alike = all_alike v more (ring a e) (rung_alike v (is_over_at e.moment (e.timers a).expiry) a e alike)

-- nor is the sender changed where a SACK waited
waited_alike : (v : SenderView) (b : Bool) (e : EndView) → IsGivenAlike v e → IsGivenAlike v (waited_in b e)
waited_alike v true e alike = alike
waited_alike v false e alike = alike

rested_alike : (v : SenderView) (e : EndView) → IsGivenAlike v e → IsGivenAlike v (rested e)
rested_alike v e alike = rested_cases (IsGivenAlike v) e alike (λ t h d. alike) (λ t h d. alike)

-- ---- a moment abandons none but those that it may give up

-- what is abandoned after a moment was abandoned before, or may be given up at it
moment_spares : (e : EndView) (now k : ℕ) → GivesUpAlone (at_moment e now) → is_to_give_up (at_moment e now) k ≡ false → abandoned (ticked e now).sender k ≡ true → abandoned e.sender k ≡ true
moment_spares e now k gives off = go (has_association e.phase)
  where
    g : SenderView
    g = given_up (is_data_due (at_moment e now)) e.sender (max e.moment now)

    left : EndView
    left = settled (record (at_moment e now) { sender = g; due = record e.due { forward = e.due.forward || not (point g == point e.sender) } })

    by : (abandoned e.sender k ≡ true) ⊎ (is_to_give_up (at_moment e now) k ≡ true) → abandoned e.sender k ≡ true
    by (inl before) = before
    by (inr on) = absurd (cc)

    go : (b : Bool) → abandoned (if b then passed (at_moment e now) else at_moment e now).sender k ≡ true → abandoned e.sender k ≡ true
    go false given = given
    go true given =
        let rang = rung_all all_alarms (after_abandoning (at_moment e now) g) in
        let alike = waited_alike g (is_over_at rang.moment rang.delayed) rang (all_alike g all_alarms (after_abandoning (at_moment e now) g) (rested_alike g left (λ j. refl))) k in
        by (gives.alone k (sym alike ∙ given))

-- ---- what is newly abandoned is abandoned then, and was listed

-- of one ticket
newly_listed : (v u : SenderView) (Q : ℕ → Bool) (k : ℕ) → (Q k ≡ true → abandoned v k ≡ false) → (abandoned u k ≡ true → Q k ≡ false → abandoned v k ≡ true)
    → (abandoned u k && not (abandoned v k)) ≡ (abandoned u k && Q k)
newly_listed v u Q k anew spares = by_listed (Q k) refl
  where
    by_given : (b : Bool) → abandoned u k ≡ b → Q k ≡ false → (b && not (abandoned v k)) ≡ (b && false)
    by_given true given off = ap not (spares given off)
    by_given false kept off = refl

    by_listed : (b : Bool) → Q k ≡ b → (abandoned u k && not (abandoned v k)) ≡ (abandoned u k && b)
    by_listed true on = ap (λ (b : Bool). abandoned u k && not b) (anew on)
    by_listed false off = by_given (abandoned u k) refl off

-- of one number, what two tests leave
two_tests : (P Q : ℕ → Bool) (k : ℕ) → (if P k && Q k then k ∷ [] else []) ≡ filter P (filter Q (k ∷ []))
two_tests P Q k = cases (P k) (Q k) refl refl
  where
    cases : (a b : Bool) → P k ≡ a → Q k ≡ b → (if P k && Q k then k ∷ [] else []) ≡ filter P (filter Q (k ∷ []))
    cases true true e f = rw (f, e) refl
    cases true false e f = rw (f, e) refl
    cases false true e f = rw (f, e) refl
    cases false false e f = rw (f, e) refl

-- Of the first n tickets: those that were listed, and are abandoned after it.
pub abandons_listed : (v u : SenderView) (Q : ℕ → Bool) (n : ℕ) → ((k : ℕ) → Q k ≡ true → abandoned v k ≡ false) → ((k : ℕ) → abandoned u k ≡ true → Q k ≡ false → abandoned v k ≡ true)
    → newly_abandoned v u n ≡ filter (λ k. abandoned u k) (filter Q (count_up 1 n))
abandons_listed v u Q zero anew spares = refl
abandons_listed v u Q (suc n) anew spares =
    let P : ℕ → Bool = λ k. abandoned u k in
    ap (λ (xs : List ℕ). xs ++ if_newly_abandoned v u (suc n)) (abandons_listed v u Q n anew spares)
    ∙ ap (λ (b : Bool). filter P (filter Q (count_up 1 n)) ++ (if b then suc n ∷ [] else [])) (newly_listed v u Q (suc n) (anew (suc n)) (spares (suc n)))
    ∙ ap (λ (xs : List ℕ). filter P (filter Q (count_up 1 n)) ++ xs) (two_tests P Q (suc n))
    ∙ sym (ap (filter P) (filter-more Q n) ∙ filter-append P (filter Q (count_up 1 n)) (filter Q (suc n ∷ [])))

-- a moment abandons of those that it may give up
moment_abandons : (e : EndView) (now n : ℕ) → GivesUpAlone (at_moment e now)
    → newly_abandoned e.sender (ticked e now).sender n ≡ filter (λ k. abandoned (ticked e now).sender k) (filter (is_to_give_up (at_moment e now)) (count_up 1 n))
moment_abandons e now n gives =
    abandons_listed e.sender (ticked e now).sender (is_to_give_up (at_moment e now)) n (λ k on. gives.anew k on) (λ k given off. moment_spares e now k gives off given)

-- the tickets to give up are those to look at again
pub watched_is : (e : EndView) (now : ℕ) (tickets : List Ticket) → IsSound e → GivesUpAlone (at_moment e now)
    → map ticket_number tickets ≡ tickets_to_give_up e now → IsWatched e now tickets
watched_is e now tickets sound gives listed =
    let u : SenderView = (ticked e now).sender in
    ap (λ (n : ℕ). newly_abandoned e.sender u n) (moments_keep_logs e now sound).tickets
    ∙ (moment_abandons e now e.sender.tickets gives ∙ ap (λ (ks : List ℕ). filter (λ k. abandoned u k) ks) (sym listed))

-- ---- what is noted

-- of a ticket that wasn't abandoned
pub one_noted : (v u : SenderView) (k : ℕ) → abandoned v k ≡ false → filter (λ n. abandoned u n) (k ∷ []) ≡ if_newly_abandoned v u k
one_noted v u k kept = by (abandoned u k) refl
  where
    by : (b : Bool) → abandoned u k ≡ b → filter (λ n. abandoned u n) (k ∷ []) ≡ if_newly_abandoned v u k
    by true on = rw (on, kept) refl
    by false off = rw off refl

-- .. and of one that was
pub none_noted : (v u : SenderView) (k : ℕ) → abandoned v k ≡ true → if_newly_abandoned v u k ≡ []
none_noted v u k given = ap (λ (b : Bool). if abandoned u k && not b then k ∷ [] else []) given ∙ by (abandoned u k)
  where
    by : (b : Bool) → (if b && false then k ∷ [] else []) ≡ []
    by true = refl
    by false = refl

-- a ticket more that was looked at, and is abandoned or not
pub noted_more : (P : ℕ → Bool) (logs front before : List ℕ) (k : ℕ) → P k ≡ true → logs ≡ front ++ filter P before → logs ++ k ∷ [] ≡ front ++ filter P (before ++ k ∷ [])
noted_more P logs front before k on is =
    let one : filter P (k ∷ []) ≡ k ∷ [] = rw on refl in
    ap (λ (ks : List ℕ). ks ++ k ∷ []) is
    ∙ (append_assoc front (filter P before) (k ∷ []) ∙ ap (λ (ks : List ℕ). front ++ ks) (ap (λ (ks : List ℕ). filter P before ++ ks) (sym one) ∙ sym (filter-append P before (k ∷ []))))

pub noted_same : (P : ℕ → Bool) (logs front before : List ℕ) (k : ℕ) → P k ≡ false → logs ≡ front ++ filter P before → logs ≡ front ++ filter P (before ++ k ∷ [])
noted_same P logs front before k off is =
    let one : filter P (k ∷ []) ≡ [] = rw off refl in
    is ∙ ap (λ (ks : List ℕ). front ++ ks) (sym (append-nil (filter P before)) ∙ (ap (λ (ks : List ℕ). filter P before ++ ks) (sym one) ∙ sym (filter-append P before (k ∷ []))))
