-- What a stream sends in its turn: the last entry of a stream, the message that has waited longest on it, and of the two what is sent.
use Rattle.std.proofs.Common.{◌≡◌, ℕ, zero, suc, ◌<◌, inl, inr, Bool, true, false, List, [], ◌∷◌, ◌++◌, length, Option, Some, None, refl, sym, ap, ◌∙◌, subst, arith}
use Rattle.std.specs.Prelude.{nat_lt, ◌==◌, slice_get, cond, if◌then◌else◌, option_map, option_and_then}
use Rattle.std.proofs.lemmas.Bool.{cases_lt}
use Rattle.std.proofs.lemmas.Bool.Decides.{nat_tests}
use Rattle.sctp_model.specs.numbers.Lists.{Has}
use Rattle.sctp_model.specs.messages.Format.{Lane}
use Rattle.sctp_model.specs.messages.Plan.{Message, Entry, Part, End, Plan, entry_at, message_at}
use Rattle.sctp_model.specs.sender.SenderView.{Queued, SenderView}
use Rattle.sctp_model.specs.sender.Words.{when, first_there}
use Rattle.sctp_model.specs.sender.Entries.{entry_lane, latest, fragments_in, next_part, continued}
use Rattle.sctp_model.specs.sender.Assigning.{is_on, first_on, without_first, going_on, beginning, turn_of}
use Rattle.sctp_model.proofs.sender.WordLaws.{of_two, of_none, when_there, when_absent}
use Rattle.sctp_outcomes.specs.sender.Wishes.{HasMore, IsFirstOn, SendsInTurn, Goes_on, Begins_one}
use Rattle.sctp_outcomes.specs.sender.WishLaws.{TurnIsComputed}

-- ---- the last entry of a stream, by its place from 0 on

record IsLast (s : ℕ) (es : List Entry) (i : ℕ) (e : Entry) : Type 0 where
  stands : slice_get es i ≡ Some e
  stream : (entry_lane e).stream ≡ s
  last : (j : ℕ) (x : Entry) → i < j → slice_get es j ≡ Some x → (entry_lane x).stream ≡ s → ⊥

same_of : (a b : ℕ) → (a == b) ≡ true → a ≡ b
same_of a b is = grind (arith, nat_tests)

not_same : (a b : ℕ) → (a == b) ≡ false → a ≡ b → ⊥
not_same a b off is = grind (arith, nat_tests)

of_same : (a b : ℕ) → a ≡ b → (a == b) ≡ true
of_same a b is = grind (arith, nat_tests)

no_latest : (s : ℕ) (es : List Entry) → latest s es ≡ None → (j : ℕ) (x : Entry) → slice_get es j ≡ Some x → (entry_lane x).stream ≡ s → ⊥
no_latest s [] none j x here on = absurd (cc)
no_latest s (e ∷ es) none zero x here on =
    let r = of_none (latest s es) (when ((entry_lane e).stream == s) e) none in
    let same : e ≡ x = cc in
    not_same (entry_lane e).stream s (when_absent ((entry_lane e).stream == s) e r.1) (ap (λ (y : Entry). (entry_lane y).stream) same ∙ on)
no_latest s (e ∷ es) none (suc j) x here on = no_latest s es (of_none (latest s es) (when ((entry_lane e).stream == s) e) none).0 j x here on

latest_last : (s : ℕ) (es : List Entry) (e : Entry) → latest s es ≡ Some e → (i : ℕ) × IsLast s es i e
latest_last s [] e is = absurd (cc)
latest_last s (x ∷ es) e is =
    elim (of_two (latest s es) (when ((entry_lane x).stream == s) x) e is) [
      | inl later ↦ let r = latest_last s es e later in (suc r.0, record { stands = r.1.stands; stream = r.1.stream; last = λ j y lt here on. behind r.0 r.1 j y lt here on })
      | inr first ↦ let r = when_there ((entry_lane x).stream == s) x e first.1 in
          (0, record { stands = ap (λ (y : Entry). Some y) r.1; stream = sym (ap (λ (y : Entry). (entry_lane y).stream) r.1) ∙ same_of (entry_lane x).stream s r.0; last = λ j y lt here on. alone first.0 j y lt here on })
    ]
  where
    behind : (i : ℕ) → IsLast s es i e → (j : ℕ) (y : Entry) → suc i < j → slice_get (x ∷ es) j ≡ Some y → (entry_lane y).stream ≡ s → ⊥
    behind i h zero y lt here on = absurd (omega arith)
    behind i h (suc j) y lt here on = h.last j y (omega arith) here on

    alone : latest s es ≡ None → (j : ℕ) (y : Entry) → 0 < j → slice_get (x ∷ es) j ≡ Some y → (entry_lane y).stream ≡ s → ⊥
    alone none zero y lt here on = absurd (omega arith)
    alone none (suc j) y lt here on = no_latest s es none j y here on

last_latest : (s : ℕ) (es : List Entry) (i : ℕ) (e : Entry) → IsLast s es i e → latest s es ≡ Some e
last_latest s es i e h = by_case (latest s es) refl
  where
    by_order : (d : Entry) (j : ℕ) → IsLast s es j d → Some d ≡ Some e
    by_order d j g =
        elim (cases_lt i j) [
          | inl lt ↦ absurd (h.last j d lt g.stands g.stream)
          | inr ge ↦ elim (cases_lt j i) [
            | inl gt ↦ absurd (g.last i e gt h.stands h.stream)
            | inr le ↦ let same : i ≡ j = omega arith in sym g.stands ∙ ap (λ k. slice_get es k) (sym same) ∙ h.stands
          ]
        ]

    by_case : (o : Option Entry) → latest s es ≡ o → o ≡ Some e
    by_case None none = absurd (no_latest s es none i e h.stands h.stream)
    by_case (Some d) some = let r = latest_last s es d some in by_order d r.0 r.1

-- ---- the fragment that a stream goes on with

pub record GoesOn (p : Plan) (s : ℕ) (e : Entry) : Type 0 where
  pub lane : Lane
  pub number : ℕ
  pub fragment : ℕ
  pub is : e ≡ Part lane number (suc fragment)
  pub more : HasMore p s lane number fragment

pub continued_more : (p : Plan) (s : ℕ) (e : Entry) → continued p s ≡ Some e → GoesOn p s e
continued_more p s e is = by_latest (latest s p.entries) refl is
  where
    by_message : (l : Lane) (n k i : ℕ) → IsLast s p.entries i (Part l n k) → (o : Option Message) → message_at p l n ≡ o → when (nat_lt (suc k) (length (fragments_in o))) (Part l n (suc k)) ≡ Some e → GoesOn p s e
    by_message l n k i h None none here = let r = when_there (nat_lt (suc k) 0) (Part l n (suc k)) e here in let on = r.0 in absurd (grind (arith, nat_tests))
    by_message l n k i h (Some m) named here =
        let r = when_there (nat_lt (suc k) (length m.fragments)) (Part l n (suc k)) e here in
        record {
          lane = l;
          number = n;
          fragment = k;
          is = sym r.1;
          more = record { index = suc i; stands = h.stands; stream = h.stream; last = λ j x lt there on. behind j x lt there on; message = m; named = named; more = let on = r.0 in grind (arith, nat_tests) };
        }
      where
        behind : (j : ℕ) (x : Entry) → suc i < j → entry_at p j ≡ Some x → (entry_lane x).stream ≡ s → ⊥
        behind zero x lt there on = absurd (omega arith)
        behind (suc j) x lt there on = h.last j x (omega arith) there on

    by_latest : (o : Option Entry) → latest s p.entries ≡ o → option_and_then (next_part p) o ≡ Some e → GoesOn p s e
    by_latest None none here = absurd (cc)
    by_latest (Some (End l n)) some here = absurd (cc)
    by_latest (Some (Part l n k)) some here = let r = latest_last s p.entries (Part l n k) some in by_message l n k r.0 r.1 (message_at p l n) refl here

pub more_continued : (p : Plan) (s : ℕ) (l : Lane) (n k : ℕ) → HasMore p s l n k → continued p s ≡ Some (Part l n (suc k))
more_continued p s l n k h = by_index h.index h.stands h.last
  where
    by_index : (i : ℕ) → entry_at p i ≡ Some (Part l n k)
        → ((j : ℕ) (e : Entry) → i < j → entry_at p j ≡ Some e → (entry_lane e).stream ≡ s → ⊥) → continued p s ≡ Some (Part l n (suc k))
    by_index zero stands last = absurd (cc)
    by_index (suc i) stands last =
        let some : latest s p.entries ≡ Some (Part l n k) = last_latest s p.entries i (Part l n k) (record { stands = stands; stream = h.stream; last = λ j x lt here on. last (suc j) x (omega arith) here on }) in
        let on : nat_lt (suc k) (length h.message.fragments) ≡ true = let lt = h.more in grind (arith, nat_tests) in
        rw some (rw (h.named) (rw on refl))

-- ---- the message that has waited longest on a stream

-- and those that are left
record IsFound (s : ℕ) (q : Queued) (queue others : List Queued) : Type 0 where
  found : first_on s queue ≡ Some q
  left : without_first (is_on s) queue ≡ others

first_is : (s : ℕ) (q : Queued) (qs : List Queued) → first_on s qs ≡ Some q → IsFirstOn s q qs (without_first (is_on s) qs)
first_is s q [] is = absurd (cc)
first_is s q (x ∷ qs) is = by_test (is_on s x) refl is (λ there. first_is s q qs there)
  where
    by_test : (b : Bool) → is_on s x ≡ b → cond b (Some x) (first_on s qs) ≡ Some q → (first_on s qs ≡ Some q → IsFirstOn s q qs (without_first (is_on s) qs)) → IsFirstOn s q (x ∷ qs) (if b then qs else x ∷ without_first (is_on s) qs)
    by_test true on here further =
        let same : x ≡ q = cc in
        subst (λ (y : Queued). IsFirstOn s y (x ∷ qs) qs) same (record { ahead = []; behind = qs; queue = refl; others = refl; stream = same_of x.lane.stream s on; first = λ y has. absurd has })
    by_test false off here further =
        let h = further here in
        record {
          ahead = x ∷ h.ahead;
          behind = h.behind;
          queue = ap (λ (ys : List Queued). x ∷ ys) h.queue;
          others = ap (λ (ys : List Queued). x ∷ ys) h.others;
          stream = h.stream;
          first = λ y has on. elim has [ inl same ↦ not_same x.lane.stream s off (ap (λ (z : Queued). z.lane.stream) same ∙ on) | inr later ↦ h.first y later on ];
        }

found_at : (s : ℕ) (q : Queued) (ahead behind : List Queued) → q.lane.stream ≡ s → ((x : Queued) → Has ahead x → x.lane.stream ≡ s → ⊥) → IsFound s q (ahead ++ q ∷ behind) (ahead ++ behind)
found_at s q [] behind on none = let test = of_same q.lane.stream s on in record { found = rw test refl; left = rw test refl }
found_at s q (x ∷ ahead) behind on none =
    let off : (x.lane.stream == s) ≡ false = off_of (x.lane.stream == s) (λ here. none x (inl refl) (same_of x.lane.stream s here)) in
    let h = found_at s q ahead behind on (λ y has here. none y (inr has) here) in
    record { found = rw off h.found; left = rw off (ap (λ (ys : List Queued). x ∷ ys) h.left) }
  where
    off_of : (b : Bool) → (b ≡ true → ⊥) → b ≡ false
    off_of true never = absurd (never refl)
    off_of false never = refl

is_first : (s : ℕ) (q : Queued) (qs others : List Queued) → IsFirstOn s q qs others → IsFound s q qs others
is_first s q qs others h =
    subst (λ (ys : List Queued). IsFound s q ys others) (sym h.queue)
    (subst (λ (ys : List Queued). IsFound s q (h.ahead ++ q ∷ h.behind) ys) (sym h.others) (found_at s q h.ahead h.behind h.stream h.first))

-- ---- the turn of a stream

pub turn_is_computed : TurnIsComputed
turn_is_computed v u s = (λ is. forth (continued v.plan s) refl (first_on s v.queue) refl is, λ is. back u is)
  where
    forth : (o : Option Entry) → continued v.plan s ≡ o → (q : Option Queued) → first_on s v.queue ≡ q → first_there (option_map (going_on v s) o ∷ option_map (beginning v s) q ∷ []) ≡ Some u → SendsInTurn v s u
    forth (Some e) on q first is =
        let r = continued_more v.plan s e on in
        let here : going_on v s e ≡ u = cc in
        let same : going_on v s (Part r.lane r.number (suc r.fragment)) ≡ u = ap (λ (x : Entry). going_on v s x) (sym r.is) ∙ here in
        subst (λ (x : SenderView). SendsInTurn v s x) same (Goes_on r.lane r.number r.fragment r.more)
    forth None on (Some q) first is =
        let same : beginning v s q ≡ u = cc in
        subst (λ (x : SenderView). SendsInTurn v s x) same (Begins_one q (without_first (is_on s) v.queue) (λ l n k more. let some = more_continued v.plan s l n k more in absurd (cc)) (first_is s q v.queue first))
    forth None on None first is = absurd (cc)

    none_of : (o : Option Entry) → continued v.plan s ≡ o → ((l : Lane) (n k : ℕ) → HasMore v.plan s l n k → ⊥) → o ≡ None
    none_of None is none = refl
    none_of (Some e) is none = let r = continued_more v.plan s e is in absurd (none r.lane r.number r.fragment r.more)

    back : (x : SenderView) → SendsInTurn v s x → turn_of v s ≡ Some x
    back _ (Goes_on l n k more) = rw (more_continued v.plan s l n k more) refl
    back _ (Begins_one q others none first) =
        let r = is_first s q v.queue others first in
        let off : continued v.plan s ≡ None = none_of (continued v.plan s) refl none in
        rw off (rw (r.found) (ap (λ (ys : List Queued). Some (record (beginning v s q) { queue = ys })) r.left))
