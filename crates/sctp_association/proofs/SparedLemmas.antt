-- Abandoning one message makes no other late: so what isn't late before EXPIRE is abandoned by it only if it was before (RFC 3758, 3.5).
use Rattle.std.proofs.Common.{◌≡◌, ℕ, suc, List, [], ◌∷◌, ◌++◌, Bool, true, false, Option, Some, None, refl, sym, ap, ◌∙◌, subst, arith}
use Rattle.std.specs.Prelude.{◌==◌, not, ◌&&◌, ◌||◌, if◌then◌else◌, fold, find, option_map, option_and_then}
use Rattle.std.specs.Option.{option_or, option_map_or}
use Rattle.std.proofs.lemmas.Bool.{and_parts}
use Rattle.std.proofs.lemmas.Bool.Decides.{nat_tests}
use Rattle.sctp_model.specs.messages.Format.{Lane, same_lane}
use Rattle.sctp_model.specs.messages.Plan.{Message, Entry, End, Plan, message_at}
use Rattle.sctp_model.specs.sender.SenderView.{Queued, SenderView}
use Rattle.sctp_model.specs.sender.Words.{first_there, some_passes, count_up}
use Rattle.sctp_model.specs.sender.Entries.{entry_message, is_of, any_from, is_in_part, continued}
use Rattle.sctp_model.specs.sender.Assigning.{with_entry}
use Rattle.sctp_model.specs.sender.Abandoning.{Name, name_at, name_among, name_of, waits, without, has_ticket, is_abandoned, has_uncovered, is_covered, ended, with_abandoned, may_abandon_named, abandon_after, may_abandon, is_past, is_overdue, expire_one, is_to_expire, expired}
use Rattle.sctp_model.specs.sender.Readers.{abandoned}
use Rattle.sctp_model.proofs.sender.AbandonCases.{lanes_same, may_be_given, after_abandon, after_end, given_other}
use Rattle.sctp_model.proofs.sender.LateLaws.{expires_none}
use Rattle.sctp_model.proofs.sender.OwnLaws.{name_among-append, name_among-same}
use Rattle.sctp_model.proofs.sender.PlanLaws.{continued_more}
use Rattle.sctp_model.proofs.sender.QueueLaws.{without_other, apart_tests}

-- ---- whose a name is

-- the message of the name that is found for a ticket has the ticket
found_has : (p : Plan) (t : ℕ) (es : List Entry) (n : Name) → name_among p t es ≡ Some n → has_ticket t (message_at p n.lane n.number) ≡ true
found_has p t [] n is = absurd (cc)
found_has p t (e ∷ es) n is = by_test (has_ticket t (entry_message p e)) refl is (λ there. found_has p t es n there)
  where
    by_test : (b : Bool) → has_ticket t (entry_message p e) ≡ b → option_map name_at (if b then Some e else find (λ x. has_ticket t (entry_message p x)) es) ≡ Some n
        → (name_among p t es ≡ Some n → has_ticket t (message_at p n.lane n.number) ≡ true) → has_ticket t (message_at p n.lane n.number) ≡ true
    by_test true on here further = let same : name_at e ≡ n = cc in subst (λ (y : Name). has_ticket t (message_at p y.lane y.number) ≡ true) same on
    by_test false off here further = further here

-- a message has one ticket
one_ticket : (m : Option Message) (t k : ℕ) → has_ticket t m ≡ true → has_ticket k m ≡ true → t ≡ k
one_ticket None t k on also = absurd (cc)
one_ticket (Some m) t k on also = let one : m.ticket ≡ t = grind (arith, nat_tests) in let two : m.ticket ≡ k = grind (arith, nat_tests) in sym one ∙ two

-- two names are one
abbrev IsSameName : Name → Name → Type 0
IsSameName n m = (m.lane ≡ n.lane) × (m.number ≡ n.number)

-- another ticket's message has another name
names_apart : (v : SenderView) (t k : ℕ) (n m : Name) → name_of v t ≡ Some n → name_of v k ≡ Some m → (t ≡ k → ⊥) → IsSameName n m → ⊥
names_apart v t k n m is also ne same =
    let mine = found_has v.plan t v.plan.entries n is in
    let its = found_has v.plan k v.plan.entries m also in
    let on_lane : has_ticket t (message_at v.plan m.lane n.number) ≡ true = subst (λ (l : Lane). has_ticket t (message_at v.plan l n.number) ≡ true) (sym same.0) mine in
    let here : has_ticket t (message_at v.plan m.lane m.number) ≡ true = subst (λ (y : ℕ). has_ticket t (message_at v.plan m.lane y) ≡ true) (sym same.1) on_lane in
    ne (one_ticket (message_at v.plan m.lane m.number) t k here its)

-- another ticket names what it named
name_stays : (v : SenderView) (t k : ℕ) (n : Name) → name_of v t ≡ Some n → (t ≡ k → ⊥) → name_of (with_abandoned v n) k ≡ name_of v k
name_stays v t k n is ne =
    after_end (λ (p : Plan). name_among p k p.entries ≡ name_of v k) v n (λ off. refl)
    (λ on. name_among-same v.plan (with_entry v.plan mark) k (v.plan.entries ++ mark ∷ []) (λ e. refl) ∙ name_among-append v.plan k v.plan.entries (mark ∷ [])
    ∙ of_mark (has_ticket k (message_at v.plan n.lane n.number)) refl)
  where
    mark : Entry
    mark = End n.lane n.number

    or_none : (o : Option Name) → option_or o None ≡ o
    or_none None = refl
    or_none (Some m) = refl

    of_mark : (b : Bool) → has_ticket k (message_at v.plan n.lane n.number) ≡ b → option_or (name_of v k) (option_map name_at (if b then Some mark else None)) ≡ name_of v k
    of_mark false off = or_none (name_of v k)
    of_mark true on = absurd (ne (one_ticket (message_at v.plan n.lane n.number) t k (found_has v.plan t v.plan.entries n is) on))

-- messages stay where they are
message_stays : (v : SenderView) (n m : Name) → message_at (ended v n) m.lane m.number ≡ message_at v.plan m.lane m.number
message_stays v n m = after_end (λ (p : Plan). message_at p m.lane m.number ≡ message_at v.plan m.lane m.number) v n (λ off. refl) (λ on. refl)

-- ---- the end mark of another message

mark_is_other : (n m : Name) → (IsSameName n m → ⊥) → is_of m.lane m.number (End n.lane n.number) ≡ false
mark_is_other n m ne = by_tests (same_lane m.lane n.lane) (m.number == n.number) refl refl
  where
    by_tests : (a b : Bool) → same_lane m.lane n.lane ≡ a → (m.number == n.number) ≡ b → (a && b) ≡ false
    by_tests true true lane number = absurd (ne (lanes_same m.lane n.lane lane, grind (arith, nat_tests)))
    by_tests true false lane number = refl
    by_tests false b lane number = refl

-- one entry more, which doesn't pass
any_more : (test : ℕ → Entry → Bool) (i : ℕ) (es : List Entry) (x : Entry) → ((j : ℕ) → test j x ≡ false) → any_from test i (es ++ x ∷ []) ≡ any_from test i es
any_more test i [] x off = ap (λ (b : Bool). b || false) (off i)
any_more test i (e ∷ es) x off = ap (λ (b : Bool). test i e || b) (any_more test (suc i) es x off)

-- the message's indexes are covered as they were
uncovered_stays : (v : SenderView) (n m : Name) → (IsSameName n m → ⊥) → has_uncovered (with_abandoned v n) m ≡ has_uncovered v m
uncovered_stays v n m ne =
    after_end (λ (p : Plan). any_from test 1 p.entries ≡ has_uncovered v m) v n (λ off. refl)
    (λ on. any_more test 1 v.plan.entries (End n.lane n.number) (λ j. ap (λ (b : Bool). b && not (v.covered j)) (mark_is_other n m ne)))
  where
    test : ℕ → Entry → Bool
    test j e = is_of m.lane m.number e && not (v.covered j)

-- it isn't in part if it wasn't
part_stays : (v : SenderView) (n m : Name) → is_in_part v m.lane m.number ≡ false → is_in_part (with_abandoned v n) m.lane m.number ≡ false
part_stays v n m whole =
    after_end (λ (p : Plan). some_passes (is_of m.lane m.number) (continued p m.lane.stream) ≡ false) v n (λ off. whole)
    (λ on. ap (some_passes (is_of m.lane m.number)) (continued_more v.plan (End n.lane n.number) m.lane.stream) ∙ by_stream (n.lane.stream == m.lane.stream))
  where
    by_stream : (b : Bool) → some_passes (is_of m.lane m.number) (if b then None else continued v.plan m.lane.stream) ≡ false
    by_stream true = refl
    by_stream false = whole

-- it is acknowledged whole if it was
covered_stays : (v : SenderView) (n m : Name) → (IsSameName n m → ⊥) → is_covered v m ≡ true → is_covered (with_abandoned v n) m ≡ true
covered_stays v n m ne whole =
    let parts = and_parts (not (is_in_part v m.lane m.number)) (not (has_uncovered v m)) whole in
    rw (part_stays v n m (off (is_in_part v m.lane m.number) parts.0), uncovered_stays v n m ne, off (has_uncovered v m) parts.1) refl
  where
    off : (b : Bool) → not b ≡ true → b ≡ false
    off true on = absurd (cc)
    off false on = refl

-- ---- what abandons one message spares another that isn't late

-- the ticket's message isn't late, and is abandoned only if it was before
abbrev IsSpared : SenderView → (now ticket : ℕ) → SenderView → Type 0
IsSpared v now k u = (is_to_expire u now k ≡ false) × (abandoned u k ≡ abandoned v k)

-- another message leaves the queue
find_other : (t k : ℕ) (qs : List Queued) → (t ≡ k → ⊥) → find (λ q. q.message.ticket == k) (without t qs) ≡ find (λ q. q.message.ticket == k) qs
find_other t k [] ne = refl
find_other t k (q ∷ qs) ne = by_test (q.message.ticket == t) refl (find_other t k qs ne)
  where
    by_test : (b : Bool) → (q.message.ticket == t) ≡ b → find (λ x. x.message.ticket == k) (without t qs) ≡ find (λ x. x.message.ticket == k) qs
        → find (λ x. x.message.ticket == k) (if b then qs else q ∷ without t qs) ≡ (if q.message.ticket == k then Some q else find (λ x. x.message.ticket == k) qs)
    by_test true on rest =
        let same : q.message.ticket ≡ t = grind (arith, nat_tests) in
        let off : (q.message.ticket == k) ≡ false = apart_tests q.message.ticket k (λ e. ne (sym same ∙ e)) in
        rw off refl
    by_test false off rest = ap (λ (o : Option Queued). if q.message.ticket == k then Some q else o) rest

withdrawn_spares : (v : SenderView) (now t k : ℕ) → (t ≡ k → ⊥) → is_to_expire (record v { queue = without t v.queue }) now k ≡ is_to_expire v now k
withdrawn_spares v now t k ne = rw (find_other t k v.queue ne, without_other t k v.queue ne) refl

-- another message with a number is abandoned
given_spares : (v : SenderView) (now t k : ℕ) (n : Name) → name_of v t ≡ Some n → (t ≡ k → ⊥) → is_to_expire v now k ≡ false → IsSpared v now k (with_abandoned v n)
given_spares v now t k n is ne off = by_name (name_of v k) refl
  where
    -- past its time, if this is the message of its name
    is_late_by : Option Message → Bool
    is_late_by m = some_passes (is_past now) (first_there (option_map (λ q. q.message) (find (λ q. q.message.ticket == k) v.queue) ∷ m ∷ []))

    -- to expire, if this is its name
    expires_by : SenderView → Option Name → Bool
    expires_by u o = is_late_by (option_and_then (λ m. message_at u.plan m.lane m.number) o) && option_map_or (may_abandon_named u) o (waits k v.queue)

    -- abandoned, if this is its name
    is_given_by : SenderView → Option Name → Bool
    is_given_by u o = some_passes (is_abandoned u) o

    -- what is acknowledged whole may not be abandoned
    fewer : (late partial given b c : Bool) → (c ≡ true → b ≡ true) → (late && (partial && (not given && not c))) ≡ false → (late && (partial && (not given && not b))) ≡ false
    fewer false partial given b c whole none = refl
    fewer true false given b c whole none = refl
    fewer true true true b c whole none = refl
    fewer true true false true c whole none = refl
    fewer true true false false true whole none = absurd (let no = whole refl in cc)
    fewer true true false false false whole none = none

    by_name : (o : Option Name) → name_of v k ≡ o → IsSpared v now k (with_abandoned v n)
    by_name None none =
        let here : name_of (with_abandoned v n) k ≡ None = name_stays v t k n is ne ∙ none in
        (ap (expires_by (with_abandoned v n)) here ∙ sym (ap (expires_by v) none) ∙ off, ap (is_given_by (with_abandoned v n)) here ∙ sym (ap (is_given_by v) none))
    by_name (Some m) some =
        let here : name_of (with_abandoned v n) k ≡ Some m = name_stays v t k n is ne ∙ some in
        let apart = names_apart v t k n m is some ne in
        let given : is_abandoned (with_abandoned v n) m ≡ is_abandoned v m = given_other v n m.lane m.number apart in (
          ap (expires_by (with_abandoned v n)) here
              ∙ ap (λ (x : Option Message). is_late_by x && may_abandon_named (with_abandoned v n) m) (message_stays v n m)
              ∙ ap (λ (b : Bool). is_late_by (message_at v.plan m.lane m.number) && (v.partial && (not b && not (is_covered (with_abandoned v n) m)))) given
              ∙ fewer (is_late_by (message_at v.plan m.lane m.number)) v.partial (is_abandoned v m) (is_covered (with_abandoned v n) m) (is_covered v m) (covered_stays v n m apart) (sym (ap (expires_by v) some) ∙ off),
          ap (is_given_by (with_abandoned v n)) here ∙ given ∙ sym (ap (is_given_by v) some),
        )

-- ---- one ticket after the other

-- each turn spares it: its own, since it isn't late, and another's
turn_spares : (now k t : ℕ) (v u : SenderView) → IsSpared v now k u → IsSpared v now k (expire_one now u t)
turn_spares now k t v u h = by_turn (is_to_expire u now t) refl
  where
    other : is_to_expire u now t ≡ true → t ≡ k → ⊥
    other on same = let here : is_to_expire u now k ≡ true = subst (λ (x : ℕ). is_to_expire u now x ≡ true) same on in let off = h.0 in cc

    given : (n : Name) → is_to_expire u now t ≡ true → name_of u t ≡ Some n → IsSpared v now k (with_abandoned u n)
    given n on is = let r = given_spares u now t k n is (other on) h.0 in (r.0, r.1 ∙ h.1)

    by_due : (b : Bool) → is_to_expire u now t ≡ true → IsSpared v now k (if b then abandon_after u t else u)
    by_due false on = h
    by_due true on = after_abandon (IsSpared v now k) u t h (λ waiting. (withdrawn_spares u now t k (other on) ∙ h.0, h.1)) (λ n is kept. given n on is)

    by_turn : (b : Bool) → is_to_expire u now t ≡ b → IsSpared v now k (expire_one now u t)
    by_turn false off = subst (λ (x : SenderView). IsSpared v now k x) (sym (expires_none u now t off)) h
    by_turn true on = by_due (is_overdue u now t) on

turns_spare : (now k : ℕ) (v u : SenderView) (ts : List ℕ) → IsSpared v now k u → IsSpared v now k (fold (expire_one now) u ts)
turns_spare now k v u [] h = h
turns_spare now k v u (t ∷ ts) h = turns_spare now k v (expire_one now u t) ts (turn_spares now k t v u h)

-- What isn't late is abandoned by EXPIRE only if it was before.
pub expiry_spares : (v : SenderView) (now k : ℕ) → is_to_expire v now k ≡ false → abandoned (expired v now) k ≡ abandoned v k
expiry_spares v now k off = (turns_spare now k v v (count_up 1 v.tickets) (off, refl)).1

-- What is late wasn't abandoned yet.
pub late_is_kept : (v : SenderView) (now k : ℕ) → is_to_expire v now k ≡ true → abandoned v k ≡ false
late_is_kept v now k on = by_name (name_of v k) refl
  where
    may : may_abandon v k ≡ true
    may = (and_parts (is_overdue v now k) (may_abandon v k) on).1

    by_name : (o : Option Name) → name_of v k ≡ o → abandoned v k ≡ false
    by_name None none = ap (some_passes (is_abandoned v)) none
    by_name (Some n) some =
        let rule : may_abandon_named v n ≡ true = sym (ap (λ (o : Option Name). option_map_or (may_abandon_named v) o (waits k v.queue)) some) ∙ may in
        ap (some_passes (is_abandoned v)) some ∙ (may_be_given v n rule).1

-- ---- one ticket abandoned

-- another message with a number is abandoned only if it was before
given_apart : (v : SenderView) (t k : ℕ) (n : Name) → name_of v t ≡ Some n → (t ≡ k → ⊥) → abandoned (with_abandoned v n) k ≡ abandoned v k
given_apart v t k n is ne = by_name (name_of v k) refl
  where
    by_name : (o : Option Name) → name_of v k ≡ o → abandoned (with_abandoned v n) k ≡ abandoned v k
    by_name None none = ap (some_passes (is_abandoned (with_abandoned v n))) (name_stays v t k n is ne ∙ none) ∙ sym (ap (some_passes (is_abandoned v)) none)
    by_name (Some m) some =
        ap (some_passes (is_abandoned (with_abandoned v n))) (name_stays v t k n is ne ∙ some)
        ∙ given_other v n m.lane m.number (names_apart v t k n m is some ne)
        ∙ sym (ap (some_passes (is_abandoned v)) some)

pub abandon_spares : (v : SenderView) (t k : ℕ) → (t ≡ k → ⊥) → abandoned (abandon_after v t) k ≡ abandoned v k
abandon_spares v t k ne = after_abandon (λ (u : SenderView). abandoned u k ≡ abandoned v k) v t refl (λ waiting. refl) (λ n is kept. given_apart v t k n is ne)
