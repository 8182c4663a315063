-- Never are more TSNs assigned and owed than there may be.
use Rattle.std.proofs.Common.{◌≡◌, ℕ, zero, suc, ◌+◌, ◌-◌, ◌<◌, ◌≤◌, inl, inr, List, [], ◌∷◌, ◌++◌, length, Bool, true, false, Option, Some, None, refl, sym, ap, ◌∙◌, subst, arith, length-append}
use Rattle.std.specs.Prelude.{◌==◌, nat_lt, if◌then◌else◌}
use Rattle.std.proofs.lemmas.Bool.Decides.{nat_tests}
use Rattle.sctp_model.specs.numbers.Limits.{TSN_LIMIT}
use Rattle.sctp_model.specs.numbers.Lists.{Has}
use Rattle.sctp_model.specs.messages.Format.{Format, Lane}
use Rattle.sctp_model.specs.messages.Plan.{Message, Entry, Part, End, Plan, message_at, parts_from}
use Rattle.sctp_model.specs.sender.SenderView.{Queued, SenderView}
use Rattle.sctp_model.specs.sender.Words.{when}
use Rattle.sctp_model.specs.sender.Entries.{entry_lane, entry_fragment, fragments_in, is_in_part, next_part, continued, fragments_from, sum_below}
use Rattle.sctp_model.specs.sender.Queueing.{owed_for, owed_by_queue, owed_by_parts, promised, cut}
use Rattle.sctp_model.specs.sender.Assigning.{with_message, with_entry, is_on, first_on, without_first}
use Rattle.sctp_model.specs.sender.Abandoning.{Name, with_abandoned}
use Rattle.sctp_model.specs.sender.Reached.{IsReached, Begins, Queues, Goes, Covers, Closes, Abandons, Repeats, Rebases}
use Rattle.sctp_model.proofs.sender.WordLaws.{sum-changed, found_is}
pub use Rattle.sctp_model.proofs.sender.WordLaws.{sum-zero}
use Rattle.sctp_model.proofs.sender.WishCases.{IsAssigned, Whole, Begun, Continued, after_wish}
use Rattle.sctp_model.proofs.sender.AbandonCases.{after_abandon, after_end}
use Rattle.sctp_model.proofs.sender.SetLaws.{AllFilled, is_filled, accepted}
use Rattle.sctp_model.proofs.sender.Bounds.{length-parts}
use Rattle.sctp_model.proofs.sender.PlanLaws.{AllNamed, message_new, message_stays, continued_is, continued_new, continued_more}
use Rattle.sctp_model.proofs.sender.CountLaws.{HasMessages, is_named, name_found, first_there}
use Rattle.sctp_model.proofs.sender.PartLaws.{in_part_is, with_end, ended_here, ended_there}
pub use Rattle.sctp_model.proofs.sender.PartLaws.{is_windowed}

-- ---- a message in part gets its end mark

pub fewer_owed : (v : SenderView) (n : Name) → HasMessages v → n.lane.stream < v.streams → is_in_part v n.lane n.number ≡ true
    → sum_below (λ s. owed_for (fragments_from (with_end v.plan n) (continued (with_end v.plan n) s))) v.streams + 1 ≤ owed_by_parts v
fewer_owed v n h lt is =
    let next = in_part_is v n h is in
    let s = n.lane.stream in
    let f : ℕ → ℕ = λ j. owed_for (fragments_from v.plan (continued v.plan j)) in
    let g : ℕ → ℕ = λ j. owed_for (fragments_from (with_end v.plan n) (continued (with_end v.plan n) j)) in
    let same : (j : ℕ) → (j ≡ s → ⊥) → f j ≡ g j = λ j apart. ap (λ (o : Option Entry). owed_for (fragments_from v.plan o)) (sym (ended_there v.plan n j apart)) ∙ ap owed_for (of_plan (continued (with_end v.plan n) j)) in
    let change = sum-changed f g v.streams s lt same in
    let after : g s ≡ 0 = ap (λ (o : Option Entry). owed_for (fragments_from (with_end v.plan n) o)) (ended_here v.plan n) in
    let before : f s ≡ owed_for (length (fragments_in (message_at v.plan n.lane n.number)) - suc next.0) = ap (λ (o : Option Entry). owed_for (fragments_from v.plan o)) next.1 in
    let more = next.2 in
    let some : 1 ≤ owed_for (length (fragments_in (message_at v.plan n.lane n.number)) - suc next.0) = owes (length (fragments_in (message_at v.plan n.lane n.number)) - suc next.0) (omega arith) in
    omega (arith, change, after, before, some)
  where
    of_plan : (o : Option Entry) → fragments_from v.plan o ≡ fragments_from (with_end v.plan n) o
    of_plan None = refl
    of_plan (Some e) = refl

    owes : (x : ℕ) → 0 < x → 1 ≤ owed_for x
    owes x lt = omega arith

-- ---- the TSNs assigned and owed

pub owed_push : (qs : List Queued) (q : Queued) → owed_by_queue (qs ++ q ∷ []) ≡ owed_by_queue qs + owed_for (length q.message.fragments)
owed_push [] q = omega arith
owed_push (x ∷ qs) q = let rest = owed_push qs q in omega arith

-- whichever message is taken out, no more is owed
pub owed_rest : (meant : Queued → Bool) (qs : List Queued) → owed_by_queue (without_first meant qs) ≤ owed_by_queue qs
owed_rest meant [] = omega arith
owed_rest meant (q ∷ qs) = by_test (meant q) (owed_rest meant qs)
  where
    by_test : (b : Bool) → owed_by_queue (without_first meant qs) ≤ owed_by_queue qs → owed_by_queue (if b then qs else q ∷ without_first meant qs) ≤ owed_for (length q.message.fragments) + owed_by_queue qs
    by_test true rest = omega arith
    by_test false rest = omega arith

-- the first message of a stream owed its part
owed_taken : (s : ℕ) (q : Queued) (qs : List Queued) → first_on s qs ≡ Some q → owed_by_queue (without_first (is_on s) qs) + owed_for (length q.message.fragments) ≡ owed_by_queue qs
owed_taken s q [] is = absurd (cc)
owed_taken s q (x ∷ qs) is = by_test (is_on s x) is (λ there. owed_taken s q qs there)
  where
    by_test : (b : Bool) → (if b then Some x else first_on s qs) ≡ Some q → (first_on s qs ≡ Some q → owed_by_queue (without_first (is_on s) qs) + owed_for (length q.message.fragments) ≡ owed_by_queue qs)
        → owed_by_queue (if b then qs else x ∷ without_first (is_on s) qs) + owed_for (length q.message.fragments) ≡ owed_for (length x.message.fragments) + owed_by_queue qs
    by_test true here further = let same : x ≡ q = cc in rw same (omega arith)
    by_test false here further = let rest = further here in omega arith

pub first_stream : (s : ℕ) (q : Queued) (qs : List Queued) → first_on s qs ≡ Some q → q.lane.stream ≡ s
first_stream s q qs is = let on = (found_is (is_on s) qs q is).1 in grind (arith, nat_tests)

abbrev pub IsPromised : SenderView → Type 0
IsPromised v = promised v ≤ TSN_LIMIT

-- what is owed at a stream
abbrev owed_at : Plan → ℕ → ℕ
owed_at p s = owed_for (fragments_from p (continued p s))

fragments_stay : (n : ℕ) (p : Plan) (q : Queued) (d s : ℕ) → AllNamed n p p.entries → fragments_from (with_message p q d) (continued p s) ≡ fragments_from p (continued p s)
fragments_stay n p q d s h = by_next (continued p s) refl
  where
    by_next : (o : Option Entry) → continued p s ≡ o → fragments_from (with_message p q d) o ≡ fragments_from p o
    by_next None is = refl
    by_next (Some e) is = ap (λ (x : Option Message). length (fragments_in x) - entry_fragment e) (message_stays n p q d e (continued_is n p s e h is).named)

-- other streams owe what they did
others_owe : (n : ℕ) (p : Plan) (q : Queued) (d j : ℕ) → AllNamed n p p.entries → (j ≡ q.lane.stream → ⊥) → owed_at p j ≡ owed_at (with_message p q (suc d)) j
others_owe n p q d j h apart =
    let off : (q.lane.stream == j) ≡ false = by_test (q.lane.stream == j) refl in
    let next : continued (with_message p q (suc d)) j ≡ continued p j = continued_new n p q d j h ∙ rw off refl in
    ap owed_for (sym (fragments_stay n p q (suc d) j h)) ∙ ap (λ (o : Option Entry). owed_for (fragments_from (with_message p q (suc d)) o)) (sym next)
  where
    by_test : (b : Bool) → (q.lane.stream == j) ≡ b → b ≡ false
    by_test false is = refl
    by_test true is = absurd (apart (grind (arith, nat_tests)))

-- and its own stream what the message has left
owes_new : (n : ℕ) (p : Plan) (q : Queued) (d : ℕ) → AllNamed n p p.entries → owed_at (with_message p q (suc d)) q.lane.stream ≡ owed_for (length q.message.fragments - suc d)
owes_new n p q d h =
    let on : (q.lane.stream == q.lane.stream) ≡ true = grind (arith, nat_tests) in
    let next = continued_new n p q d q.lane.stream h in
    ap (λ (o : Option Entry). owed_for (fragments_from (with_message p q (suc d)) o)) (next ∙ rw on refl) ∙ by_test (nat_lt (suc d) (length q.message.fragments)) refl
  where
    by_test : (b : Bool) → nat_lt (suc d) (length q.message.fragments) ≡ b
        → owed_for (fragments_from (with_message p q (suc d)) (when b (Part q.lane (length (p.messages q.lane)) (suc d)))) ≡ owed_for (length q.message.fragments - suc d)
    by_test true is = ap (λ (x : Option Message). owed_for (length (fragments_in x) - suc d)) (message_new p q (suc d))
    by_test false is = let none : length q.message.fragments - suc d ≡ 0 = grind (arith, nat_tests) in rw none refl

filled_has : (n : ℕ) (q : Queued) (qs : List Queued) → AllFilled n qs → Has qs q → 0 < length q.message.fragments
filled_has n q [] full has = absurd has
filled_has n q (x ∷ qs) full has = elim has [ inl same ↦ subst (λ (y : Queued). 0 < length y.message.fragments) same full.0.0 | inr rest ↦ filled_has n q qs full.1 rest ]

first_some : (n s : ℕ) (q : Queued) (qs : List Queued) → AllFilled n qs → first_on s qs ≡ Some q → 0 < length q.message.fragments
first_some n s q qs full is = filled_has n q qs full (found_is (is_on s) qs q is).0

-- a message of d fragments took its first index
counted : (d entries more waiting left parts now : ℕ) → 0 < d → more ≡ entries + 1 → left + owed_for d ≡ waiting → now ≡ parts + owed_for (d - 1) → more + (left + now) ≤ entries + (waiting + parts)
counted d entries more waiting left parts now some a b c = omega arith

-- the same of a plan, in place of the view's
abbrev HasPromised : SenderView → Plan → Type 0
HasPromised v p = length p.entries + (owed_by_queue v.queue + sum_below (λ s. owed_at p s) v.streams) ≤ TSN_LIMIT

promised_given : (v : SenderView) (n : Name) → HasMessages v → n.lane.stream < v.streams → IsPromised v → IsPromised (with_abandoned v n)
promised_given v n h lt k =
    after_end (HasPromised v) v n (λ off. k) (λ on. let less = fewer_owed v n h lt on in omega (arith, length-append v.plan.entries (End n.lane n.number ∷ []), less, k))

owes_more : (x y : ℕ) → y ≡ x + 1 → owed_for x + 1 ≤ owed_for y
owes_more x y is = omega arith

pub promised_assigned : (f : Format) (v u : SenderView) → AllFilled v.streams v.queue → HasMessages v → IsAssigned v f u → promised u ≤ promised v
promised_assigned _ v _ full h (Whole q rest is) = by_count (length q.message.fragments) refl here.0.0
  where
    here : AllFilled v.streams (q ∷ rest)
    here = subst (λ (qs : List Queued). AllFilled v.streams qs) is full

    by_count : (d : ℕ) → length q.message.fragments ≡ d → 0 < length q.message.fragments
        → length (v.plan.entries ++ parts_from q.lane (length (v.plan.messages q.lane)) 0 (length q.message.fragments)) + (owed_by_queue rest + sum_below (λ s. owed_at (with_message v.plan q (length q.message.fragments)) s) v.streams) ≤ promised v
    by_count zero long some = absurd (omega arith)
    by_count (suc d) long some =
        let m = length (v.plan.messages q.lane) in
        let s = q.lane.stream in
        let change = sum-changed (λ j. owed_at v.plan j) (λ j. owed_at (with_message v.plan q (suc d)) j) v.streams s here.0.1 (λ j apart. others_owe v.streams v.plan q d j h apart) in
        let own = owes_new v.streams v.plan q d h in
        let none : owed_for (length q.message.fragments - suc d) ≡ 0 = let z : length q.message.fragments - suc d ≡ 0 = omega arith in rw z refl in
        let waiting : owed_by_queue v.queue ≡ owed_for (suc d) + owed_by_queue rest = ap owed_by_queue is ∙ ap (λ (x : ℕ). owed_for x + owed_by_queue rest) long in
        let total = length-append v.plan.entries (parts_from q.lane m 0 (suc d)) in
        let parts = length-parts q.lane m 0 (suc d) in
        rw long (omega (arith, change, own, none, waiting, total, parts))
promised_assigned _ v _ full h (Begun s q lt on first) =
    let m = length (v.plan.messages q.lane) in
    let place = first_stream s q v.queue first in
    let there : q.lane.stream < v.streams = first_there v.streams s q v.queue full first in
    let change = sum-changed (λ j. owed_at v.plan j) (λ j. owed_at (with_message v.plan q 1) j) v.streams q.lane.stream there (λ j apart. others_owe v.streams v.plan q 0 j h apart) in
    let own = owes_new v.streams v.plan q 0 h in
    let before : owed_at v.plan q.lane.stream ≡ 0 = ap (λ (j : ℕ). owed_at v.plan j) place ∙ ap (λ (o : Option Entry). owed_for (fragments_from v.plan o)) on in
    let waiting = owed_taken s q v.queue first in
    let total = length-append v.plan.entries (parts_from q.lane m 0 1) in
    let some = first_some v.streams s q v.queue full first in
    let now = ap (λ (x : ℕ). sum_below (λ j. owed_at v.plan j) v.streams + x) own in
    counted (length q.message.fragments) (length v.plan.entries) (length (v.plan.entries ++ parts_from q.lane m 0 1)) (owed_by_queue v.queue) (owed_by_queue (without_first (is_on s) v.queue))
    (sum_below (λ j. owed_at v.plan j) v.streams) (sum_below (λ j. owed_at (with_message v.plan q 1) j) v.streams) some (omega (arith, total)) waiting (omega (arith, change, own, before, now))
promised_assigned _ v _ full h (Continued s e lt on) =
    let next = continued_is v.streams v.plan s e h on in
    let p = with_entry v.plan e in
    let same : (j : ℕ) → (j ≡ s → ⊥) → owed_at v.plan j ≡ owed_at p j = λ j apart. ap owed_for (of_plan (continued v.plan j)) ∙ ap (λ (o : Option Entry). owed_for (fragments_from p o)) (sym (others (entry_stream next.is next.on) j apart)) in
    let change = sum-changed (λ j. owed_at v.plan j) (λ j. owed_at p j) v.streams s lt same in
    let before : owed_at v.plan s ≡ owed_for (length (fragments_in (message_at v.plan next.lane next.number)) - suc next.fragment) =
    ap (λ (o : Option Entry). owed_for (fragments_from v.plan o)) (on ∙ ap (λ (x : Entry). Some x) next.is) in
    let here : continued p s ≡ next_part v.plan (Part next.lane next.number (suc next.fragment)) =
    continued_more v.plan e s ∙ ap (λ (b : Bool). if b then next_part v.plan e else continued v.plan s) (on_stream (entry_stream next.is next.on)) ∙ ap (next_part v.plan) next.is in
    let after : owed_at p s ≡ owed_for (fragments_from p (next_part v.plan (Part next.lane next.number (suc next.fragment)))) = ap (λ (o : Option Entry). owed_for (fragments_from p o)) here in
    let less = one_less (length (fragments_in (message_at v.plan next.lane next.number))) next.fragment next.lane next.number refl next.more in
    let total = length-append v.plan.entries (e ∷ []) in
    omega (arith, change, before, after, less, total)
  where
    entry_stream : {x : Entry} {l : Lane} {m k : ℕ} → x ≡ Part l m k → l.stream ≡ s → (entry_lane x).stream ≡ s
    entry_stream is place = ap (λ (y : Entry). (entry_lane y).stream) is ∙ place

    on_stream : (entry_lane e).stream ≡ s → ((entry_lane e).stream == s) ≡ true
    on_stream place = grind (arith, nat_tests)

    of_plan : (o : Option Entry) → fragments_from v.plan o ≡ fragments_from (with_entry v.plan e) o
    of_plan None = refl
    of_plan (Some x) = refl

    off_stream : (j : ℕ) → (entry_lane e).stream ≡ s → (j ≡ s → ⊥) → (b : Bool) → ((entry_lane e).stream == j) ≡ b → b ≡ false
    off_stream j place apart false is = refl
    off_stream j place apart true is = absurd (apart (grind (arith, nat_tests)))

    others : (entry_lane e).stream ≡ s → (j : ℕ) → (j ≡ s → ⊥) → continued (with_entry v.plan e) j ≡ continued v.plan j
    others place j apart = continued_more v.plan e j ∙ ap (λ (b : Bool). if b then next_part v.plan e else continued v.plan j) (off_stream j place apart ((entry_lane e).stream == j) refl)

    one_less : (n k : ℕ) (l : Lane) (m : ℕ) → length (fragments_in (message_at v.plan l m)) ≡ n → suc k < n
        → owed_for (fragments_from (with_entry v.plan e) (next_part v.plan (Part l m (suc k)))) + 1 ≤ owed_for (n - suc k)
    one_less n k l m long more = by_test (nat_lt (suc (suc k)) (length (fragments_in (message_at v.plan l m)))) refl
      where
        by_test : (b : Bool) → nat_lt (suc (suc k)) (length (fragments_in (message_at v.plan l m))) ≡ b
            → owed_for (fragments_from (with_entry v.plan e) (when b (Part l m (suc (suc k))))) + 1 ≤ owed_for (n - suc k)
        by_test true lt =
            let inside : suc (suc k) < n = grind (arith, nat_tests) in
            rw long (owes_more (n - suc (suc k)) (n - suc k) (omega arith))
        by_test false lt = last (n - suc k) (omega arith)
          where
            last : (x : ℕ) → 0 < x → owed_for 0 + 1 ≤ owed_for x
            last x some = omega arith

pub is_promised : (f : Format) (v : SenderView) → IsReached f v → IsPromised v
is_promised f _ (Begins i s b r p most large) = let none = sum-zero (λ j. owed_at (record { messages = λ l. []; entries = [] }) j) s (λ j. refl) in omega (arith, none)
is_promised f _ (Queues v l p b u n h free) =
    let a = accepted v l.stream b free in
    let k = is_promised f v h in
    omega (arith, a.owed, owed_push v.queue (record { lane = l; message = record { ticket = suc v.tickets; payload = p; fragments = cut v.fragment b; until = u; limit = n } }))
is_promised f _ (Goes v room w h next may) =
    let k = is_promised f v h in
    after_wish IsPromised f v w k (λ u a. let less = promised_assigned f v u (is_filled f v h) (is_named f v h) a in omega arith) (λ u i held. held) next
is_promised f _ (Covers v x h none) = is_promised f v h
is_promised f _ (Closes v x h none) = is_promised f v h
is_promised f _ (Abandons v t h) =
    let k = is_promised f v h in
    let names = is_named f v h in
    after_abandon IsPromised v t k (λ on. let less = owed_rest (λ q. q.message.ticket == t) v.queue in omega arith) (λ n is kept. promised_given v n names (name_found v.streams v.plan t v.plan.entries n names is).1 k)
is_promised f _ (Repeats v test h) = is_promised f v h
is_promised f _ (Rebases v x h) = is_promised f v h
