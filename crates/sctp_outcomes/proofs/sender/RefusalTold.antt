-- A sender reports why a message is refused, and accepts any other, as the relations say.
use Rattle.std.proofs.Common.{◌≡◌, ℕ, zero, suc, ◌+◌, ◌<◌, ◌≤◌, ◌⊎◌, inl, inr, Bool, true, false, ◌||◌, ◌==◌, List, [], ◌∷◌, length, Option, Some, None, refl, sym, subst, arith, not, ap, ◌∙◌}
use Rattle.std.specs.Prelude.{nat_lt, nat_le}
use Rattle.std.proofs.lemmas.Bool.{or_parts, or_left, or_right}
use Rattle.std.proofs.lemmas.Bool.Decides.{nat_tests}
use Rattle.sctp_model.specs.numbers.Limits.{QUEUE_LIMIT, TICKET_LIMIT, TSN_LIMIT}
use Rattle.sctp_model.specs.sender.SenderView.{SenderView}
use Rattle.sctp_model.specs.sender.Words.{when, first_there, some_passes}
use Rattle.sctp_model.specs.sender.Queueing.{Refusal, NoSuchStream, Empty, TooLong, QueueFull, Spent, cut, owed_for, promised, refusal, Resetting, is_over, queued_bytes}
use Rattle.sctp_model.proofs.sender.CutLaws.{cut_some}
use Rattle.sctp_outcomes.specs.sender.Refusals.{IsSendable, MayWait, IsTooMuch, IsRefused, Has_no_stream, Has_no_byte, Has_too_many, Has_no_place, Has_no_ticket, Has_no_numbers, IsAccepted, RefusalIsTold, AcceptedHasNoReason, Is_reset, IsOver, Has_no_space}
use Rattle.sctp_outcomes.proofs.sender.SackCases.{or_way}
use Rattle.sctp_outcomes.proofs.sender.CutTold.{cut_is_computed}
use Rattle.sctp_model.specs.sender.Outgoing.{is_sending}

-- ---- the first of six reasons

abbrev told : (a z b c d e : Bool) → Option Refusal
told a z b c d e = first_there (when a NoSuchStream ∷ when z Resetting ∷ when b Empty ∷ when c TooLong ∷ when d QueueFull ∷ when e Spent ∷ [])

data IsTold : (a z b c d e : Bool) → Refusal → Type 0 where
  First : (z b c d e : Bool) → IsTold true z b c d e NoSuchStream
  Shut : (b c d e : Bool) → IsTold false true b c d e Resetting
  Second : (c d e : Bool) → IsTold false false true c d e Empty
  Third : (d e : Bool) → IsTold false false false true d e TooLong
  Fourth : (e : Bool) → IsTold false false false false true e QueueFull
  Fifth : IsTold false false false false false true Spent

told_is : (a z b c d e : Bool) (x : Refusal) → told a z b c d e ≡ Some x → IsTold a z b c d e x
told_is true z b c d e x is = let same : NoSuchStream ≡ x = cc in subst (λ (y : Refusal). IsTold true z b c d e y) same (First z b c d e)
told_is false true b c d e x is = let same : Resetting ≡ x = cc in subst (λ (y : Refusal). IsTold false true b c d e y) same (Shut b c d e)
told_is false false true c d e x is = let same : Empty ≡ x = cc in subst (λ (y : Refusal). IsTold false false true c d e y) same (Second c d e)
told_is false false false true d e x is = let same : TooLong ≡ x = cc in subst (λ (y : Refusal). IsTold false false false true d e y) same (Third d e)
told_is false false false false true e x is = let same : QueueFull ≡ x = cc in subst (λ (y : Refusal). IsTold false false false false true e y) same (Fourth e)
told_is false false false false false true x is = let same : Spent ≡ x = cc in subst (λ (y : Refusal). IsTold false false false false false true y) same Fifth
told_is false false false false false false x is = absurd (cc)

record AreNone (a z b c d e : Bool) : Type 0 where
  first : a ≡ false
  shut : z ≡ false
  second : b ≡ false
  third : c ≡ false
  fourth : d ≡ false
  fifth : e ≡ false

none_told : (a z b c d e : Bool) → told a z b c d e ≡ None → AreNone a z b c d e
none_told true z b c d e is = absurd (cc)
none_told false true b c d e is = absurd (cc)
none_told false false true c d e is = absurd (cc)
none_told false false false true d e is = absurd (cc)
none_told false false false false true e is = absurd (cc)
none_told false false false false false true is = absurd (cc)
none_told false false false false false false is = record { first = refl; shut = refl; second = refl; third = refl; fourth = refl; fifth = refl }

-- ---- the tests, and what they say

abbrev no_stream : SenderView → ℕ → Bool
no_stream v s = nat_le v.streams s

abbrev is_shut : SenderView → ℕ → Bool
is_shut v s = not (is_sending (v.resets.sending s))

shut_is : (b : Bool) → not b ≡ true → b ≡ false
shut_is true on = absurd (cc)
shut_is false on = refl

open_is : (b : Bool) → not b ≡ false → b ≡ true
open_is true off = refl
open_is false off = absurd (cc)

abbrev no_byte : List ℕ → Bool
no_byte bytes = length bytes == 0

abbrev too_long : SenderView → List ℕ → Bool
too_long v bytes = nat_lt v.limits.message (length bytes)

abbrev no_place : SenderView → List ℕ → Bool
no_place v bytes = nat_le QUEUE_LIMIT (length v.queue) || is_over v bytes

abbrev no_ticket : SenderView → Bool
no_ticket v = nat_le TICKET_LIMIT v.tickets

abbrev too_much : SenderView → List ℕ → Bool
too_much v bytes = nat_lt TSN_LIMIT (promised v + owed_for (length (cut v.fragment bytes)))

abbrev spent : SenderView → List ℕ → Bool
spent v bytes = no_ticket v || too_much v bytes

le_is : (m n : ℕ) → nat_le m n ≡ true → m ≤ n
le_is m n is = grind (arith, nat_tests)

le_on : (m n : ℕ) → m ≤ n → nat_le m n ≡ true
le_on m n le = grind (arith, nat_tests)

le_off : (m n : ℕ) → n < m → nat_le m n ≡ false
le_off m n lt = grind (arith, nat_tests)

off_le : (m n : ℕ) → nat_le m n ≡ false → n < m
off_le m n is = grind (arith, nat_tests)

lt_is : (m n : ℕ) → nat_lt m n ≡ true → m < n
lt_is m n is = grind (arith, nat_tests)

lt_on : (m n : ℕ) → m < n → nat_lt m n ≡ true
lt_on m n lt = grind (arith, nat_tests)

lt_off : (m n : ℕ) → n ≤ m → nat_lt m n ≡ false
lt_off m n le = grind (arith, nat_tests)

off_lt : (m n : ℕ) → nat_lt m n ≡ false → n ≤ m
off_lt m n is = grind (arith, nat_tests)

eq_is : (m n : ℕ) → (m == n) ≡ true → m ≡ n
eq_is m n is = grind (arith, nat_tests)

eq_off : (m n : ℕ) → n < m → (m == n) ≡ false
eq_off m n lt = grind (arith, nat_tests)

off_eq : (m : ℕ) → (m == 0) ≡ false → 0 < m
off_eq m is = grind (arith, nat_tests)

no_length : (bytes : List ℕ) → length bytes ≡ 0 → bytes ≡ []
no_length [] is = refl
no_length (x ∷ xs) is = absurd (omega (arith, is))

empty_is : (bytes : List ℕ) → no_byte bytes ≡ true → bytes ≡ []
empty_is bytes is = no_length bytes (eq_is (length bytes) 0 is)

some_is : (bytes : List ℕ) → no_byte bytes ≡ false → 0 < length bytes
some_is bytes is = off_eq (length bytes) is

some_on : (bytes : List ℕ) → 0 < length bytes → no_byte bytes ≡ false
some_on bytes some = eq_off (length bytes) 0 some

-- ---- the TSNs of a message

-- a message with a byte has a fragment, so it may take an end mark
owes : (n : ℕ) → 0 < n → owed_for n ≡ suc n
owes zero lt = absurd (omega arith)
owes (suc n) lt = omega arith

owes_cut : (v : SenderView) (bytes : List ℕ) → 0 < v.fragment → 0 < length bytes → owed_for (length (cut v.fragment bytes)) ≡ suc (length (cut v.fragment bytes))
owes_cut v bytes large some = owes (length (cut v.fragment bytes)) (cut_some v.fragment bytes large some)

much_is : (v : SenderView) (bytes : List ℕ) → 0 < v.fragment → 0 < length bytes → too_much v bytes ≡ true → IsTooMuch v bytes
much_is v bytes large some is =
    let past = lt_is TSN_LIMIT (promised v + owed_for (length (cut v.fragment bytes))) is in
    record {
      fragments = cut v.fragment bytes;
      cut = (cut_is_computed v.fragment bytes (cut v.fragment bytes) large).0 refl;
      more = subst (λ (n : ℕ). TSN_LIMIT < promised v + n) (owes_cut v bytes large some) past;
    }

much_on : (v : SenderView) (bytes : List ℕ) → 0 < v.fragment → 0 < length bytes → IsTooMuch v bytes → too_much v bytes ≡ true
much_on v bytes large some h =
    let same : h.fragments ≡ cut v.fragment bytes = (cut_is_computed v.fragment bytes h.fragments large).1 h.cut in
    let past : TSN_LIMIT < promised v + suc (length (cut v.fragment bytes)) = subst (λ (xs : List (List ℕ)). TSN_LIMIT < promised v + suc (length xs)) same h.more in
    lt_on TSN_LIMIT (promised v + owed_for (length (cut v.fragment bytes))) (subst (λ (n : ℕ). TSN_LIMIT < promised v + n) (sym (owes_cut v bytes large some)) past)

-- ---- the bytes that wait

abbrev passes_limit : SenderView → List ℕ → ℕ → Bool
passes_limit v bytes n = nat_lt n (queued_bytes v.queue + length bytes)

over_is : (v : SenderView) (bytes : List ℕ) → is_over v bytes ≡ true → IsOver v bytes
over_is v bytes on = go v.limits.queue refl on
  where
    go : (o : Option ℕ) → v.limits.queue ≡ o → some_passes (passes_limit v bytes) o ≡ true → IsOver v bytes
    go None is off = absurd (cc)
    go (Some n) is up = record { most = n; limited = is; more = lt_is n (queued_bytes v.queue + length bytes) up }

over_on : (v : SenderView) (bytes : List ℕ) → IsOver v bytes → is_over v bytes ≡ true
over_on v bytes h = ap (λ (o : Option ℕ). some_passes (passes_limit v bytes) o) h.limited ∙ lt_on h.most (queued_bytes v.queue + length bytes) h.more

space_is : (v : SenderView) (bytes : List ℕ) → is_over v bytes ≡ false → (most : ℕ) → v.limits.queue ≡ Some most → queued_bytes v.queue + length bytes ≤ most
space_is v bytes off most is = off_lt most (queued_bytes v.queue + length bytes) (sym (ap (λ (o : Option ℕ). some_passes (passes_limit v bytes) o) is) ∙ off)

space_off : (v : SenderView) (bytes : List ℕ) → ((most : ℕ) → v.limits.queue ≡ Some most → queued_bytes v.queue + length bytes ≤ most) → is_over v bytes ≡ false
space_off v bytes space = go v.limits.queue refl
  where
    go : (o : Option ℕ) → v.limits.queue ≡ o → some_passes (passes_limit v bytes) o ≡ false
    go None is = refl
    go (Some n) is = lt_off n (queued_bytes v.queue + length bytes) (space n is)

-- a place, and space
placed : (v : SenderView) (s : ℕ) (bytes : List ℕ) → MayWait v s bytes → no_place v bytes ≡ false
placed v s bytes h = rw (le_off QUEUE_LIMIT (length v.queue) h.place, space_off v bytes h.space) refl

-- ---- both ways

sendable_is : (v : SenderView) (s : ℕ) (bytes : List ℕ) → no_stream v s ≡ false → is_shut v s ≡ false → no_byte bytes ≡ false → too_long v bytes ≡ false → IsSendable v s bytes
sendable_is v s bytes a z b c = record { there = off_le v.streams s a; sends = open_is (is_sending (v.resets.sending s)) z; some = some_is bytes b; short = off_lt v.limits.message (length bytes) c }

waits_is : (v : SenderView) (s : ℕ) (bytes : List ℕ) → no_stream v s ≡ false → is_shut v s ≡ false → no_byte bytes ≡ false → too_long v bytes ≡ false → no_place v bytes ≡ false → MayWait v s bytes
waits_is v s bytes a z b c d =
    let parts = or_parts (nat_le QUEUE_LIMIT (length v.queue)) (is_over v bytes) d in
    record { sendable = sendable_is v s bytes a z b c; place = off_le QUEUE_LIMIT (length v.queue) parts.0; space = space_is v bytes parts.1 }

record Sends (v : SenderView) (s : ℕ) (bytes : List ℕ) : Type 0 where
  a : no_stream v s ≡ false
  z : is_sending (v.resets.sending s) ≡ true
  b : no_byte bytes ≡ false
  c : too_long v bytes ≡ false

sends : (v : SenderView) (s : ℕ) (bytes : List ℕ) → IsSendable v s bytes → Sends v s bytes
sends v s bytes h = record { a = le_off v.streams s h.there; z = h.sends; b = some_on bytes h.some; c = lt_off v.limits.message (length bytes) h.short }

pub refusal_is_told : RefusalIsTold
refusal_is_told v s bytes x large = (λ is. forth (no_stream v s) (is_shut v s) (no_byte bytes) (too_long v bytes) (no_place v bytes) (spent v bytes) x refl refl refl refl refl refl (told_is (no_stream v s) (is_shut v s) (no_byte bytes) (too_long v bytes) (no_place v bytes) (spent v bytes) x is), λ h. back x h)
  where
    by_spent : MayWait v s bytes → (no_ticket v ≡ true) ⊎ (too_much v bytes ≡ true) → IsRefused v s bytes Spent
    by_spent waits way = elim way [
      | inl none ↦ Has_no_ticket waits (le_is TICKET_LIMIT v.tickets none)
      | inr much ↦ Has_no_numbers waits (much_is v bytes large (waits.sendable.some) much)
    ]

    by_full : IsSendable v s bytes → (nat_le QUEUE_LIMIT (length v.queue) ≡ true) ⊎ (is_over v bytes ≡ true) → IsRefused v s bytes QueueFull
    by_full may way = elim way [
      | inl full ↦ Has_no_place may (le_is QUEUE_LIMIT (length v.queue) full)
      | inr over ↦ Has_no_space may (over_is v bytes over)
    ]

    forth : (a z b c d e : Bool) (y : Refusal) → no_stream v s ≡ a → is_shut v s ≡ z → no_byte bytes ≡ b → too_long v bytes ≡ c → no_place v bytes ≡ d → spent v bytes ≡ e → IsTold a z b c d e y → IsRefused v s bytes y
    forth _ _ _ _ _ _ _ is_a is_z is_b is_c is_d is_e (First z b c d e) = Has_no_stream (le_is v.streams s is_a)
    forth _ _ _ _ _ _ _ is_a is_z is_b is_c is_d is_e (Shut b c d e) = Is_reset (off_le v.streams s is_a) (shut_is (is_sending (v.resets.sending s)) is_z)
    forth _ _ _ _ _ _ _ is_a is_z is_b is_c is_d is_e (Second c d e) = Has_no_byte (off_le v.streams s is_a) (open_is (is_sending (v.resets.sending s)) is_z) (empty_is bytes is_b)
    forth _ _ _ _ _ _ _ is_a is_z is_b is_c is_d is_e (Third d e) = Has_too_many (off_le v.streams s is_a) (open_is (is_sending (v.resets.sending s)) is_z) (lt_is v.limits.message (length bytes) is_c)
    forth _ _ _ _ _ _ _ is_a is_z is_b is_c is_d is_e (Fourth e) = by_full (sendable_is v s bytes is_a is_z is_b is_c) (or_way (nat_le QUEUE_LIMIT (length v.queue)) (is_over v bytes) is_d)
    forth _ _ _ _ _ _ _ is_a is_z is_b is_c is_d is_e Fifth = by_spent (waits_is v s bytes is_a is_z is_b is_c is_d) (or_way (no_ticket v) (too_much v bytes) is_e)

    spent_back : MayWait v s bytes → spent v bytes ≡ true → refusal v s bytes ≡ Some Spent
    spent_back waits on = let r = sends v s bytes waits.sendable in rw (r.a, r.z, r.b, r.c, placed v s bytes waits, on) refl

    full_back : IsSendable v s bytes → no_place v bytes ≡ true → refusal v s bytes ≡ Some QueueFull
    full_back h on = let r = sends v s bytes h in rw (r.a, r.z, r.b, r.c, on) refl

    back : (y : Refusal) → IsRefused v s bytes y → refusal v s bytes ≡ Some y
    back _ (Has_no_stream none) = rw (le_on v.streams s none) refl
    back _ (Is_reset there shut) = rw (le_off v.streams s there, shut) refl
    back _ (Has_no_byte there sends none) = rw (le_off v.streams s there, sends, none) refl
    back _ (Has_too_many there sends long) = rw (le_off v.streams s there, sends, some_on bytes (omega (arith, long)), lt_on v.limits.message (length bytes) long) refl
    back _ (Has_no_place h full) = full_back h (or_left (nat_le QUEUE_LIMIT (length v.queue)) (is_over v bytes) (le_on QUEUE_LIMIT (length v.queue) full))
    back _ (Has_no_space h over) = full_back h (or_right (nat_le QUEUE_LIMIT (length v.queue)) (is_over v bytes) (over_on v bytes over))
    back _ (Has_no_ticket waits none) = spent_back waits (or_left (no_ticket v) (too_much v bytes) (le_on TICKET_LIMIT v.tickets none))
    back _ (Has_no_numbers waits much) = spent_back waits (or_right (no_ticket v) (too_much v bytes) (much_on v bytes large waits.sendable.some much))

pub accepted_has_no_reason : AcceptedHasNoReason
accepted_has_no_reason v s bytes large = (λ is. forth (none_told (no_stream v s) (is_shut v s) (no_byte bytes) (too_long v bytes) (no_place v bytes) (spent v bytes) is), λ h. back h)
  where
    forth : AreNone (no_stream v s) (is_shut v s) (no_byte bytes) (too_long v bytes) (no_place v bytes) (spent v bytes) → IsAccepted v s bytes
    forth off =
        let waits = waits_is v s bytes off.first off.shut off.second off.third off.fourth in
        let parts = or_parts (no_ticket v) (too_much v bytes) off.fifth in
        record {
          waits = waits;
          ticket = off_le TICKET_LIMIT v.tickets parts.0;
          numbers = λ much. let on = much_on v bytes large waits.sendable.some much in let off = parts.1 in absurd (cc);
        }

    back : IsAccepted v s bytes → refusal v s bytes ≡ None
    back h =
        let r = sends v s bytes h.waits.sendable in
        let some = h.waits.sendable.some in
        rw (r.a, r.z, r.b, r.c, placed v s bytes h.waits, le_off TICKET_LIMIT v.tickets h.ticket, none (too_much v bytes) (λ on. h.numbers (much_is v bytes large some on))) refl
      where
        none : (b : Bool) → (b ≡ true → ⊥) → b ≡ false
        none true not_so = absurd (not_so refl)
        none false not_so = refl
