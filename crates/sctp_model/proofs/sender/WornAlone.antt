-- What wearing abandons was repeated as often as it may be, and nothing else is abandoned by it.
use Rattle.std.proofs.Common.{◌≡◌, ℕ, ◌≤◌, ◌⊎◌, inl, inr, Bool, true, false, List, [], ◌∷◌, length, length-append, Option, Some, refl, sym, ap, ◌∙◌, subst, arith, if◌then◌else◌, leb-true}
use Rattle.std.specs.Prelude.{◌==◌, ◌&&◌, nat_lt, nat_le, fold, slice_get, option_map, option_and_then, unwrap_or}
use Rattle.std.proofs.lemmas.Bool.{and_parts}
use Rattle.std.proofs.lemmas.Bool.Decides.{nat_tests}
use Rattle.sctp_model.specs.messages.Format.{Format, Lane}
use Rattle.sctp_model.specs.messages.Plan.{Message, Entry, Part, End, Plan, entry_at, message_at, IsOf}
use Rattle.sctp_model.specs.sender.SenderView.{SenderView}
use Rattle.sctp_model.specs.sender.Words.{some_passes, count_up}
use Rattle.sctp_model.specs.sender.Entries.{entry_lane, entry_number, entry_message, is_wanted, is_unsettled, passes_at}
use Rattle.sctp_model.specs.sender.Abandoning.{Name, name_at, name_of, with_abandoned, abandon_after, is_used_up, is_worn, is_worn_at, ticket_at, wear_one, worn}
use Rattle.sctp_model.specs.sender.Reached.{IsReached, Abandons}
use Rattle.sctp_model.specs.world.Safe.{WasRepeated}
use Rattle.sctp_model.proofs.sender.WordLaws.{some_is}
use Rattle.sctp_model.proofs.sender.AbandonCases.{after_abandon, after_end, given_or_before}
use Rattle.sctp_model.proofs.sender.Bounds.{is_bounded}
use Rattle.sctp_model.proofs.sender.MarkLaws.{entry_kept}
use Rattle.sctp_model.proofs.sender.TicketLaws.{is_ticketed}
use Rattle.sctp_model.proofs.sender.WearLands.{own_item}

-- the message of this name has a limit, and a fragment that went out again so often
pub record IsUsed (v : SenderView) (l : Lane) (n : ℕ) : Type 0 where
  pub message : Message
  pub named : message_at v.plan l n ≡ Some message
  pub limit : ℕ
  pub limited : message.limit ≡ Some limit
  pub repeated : WasRepeated v l n limit

-- what is abandoned was so before, or is such a message
abbrev pub OnlyUsed : SenderView → SenderView → Type 0
OnlyUsed v u = (l : Lane) (n : ℕ) → u.abandoned l n ≡ true → (v.abandoned l n ≡ true) ⊎ IsUsed v l n

-- a view that is another one as far as messages were sent, and has its entries first
pub record IsSent (v u : SenderView) : Type 0 where
  pub messages : u.plan.messages ≡ v.plan.messages
  pub sent : u.sent ≡ v.sent
  pub repeats : u.repeats ≡ v.repeats
  pub longer : length v.plan.entries ≤ length u.plan.entries
  pub entries : (i : ℕ) → i ≤ length v.plan.entries → entry_at u.plan i ≡ entry_at v.plan i

sent_same : (v : SenderView) → IsSent v v
sent_same v = record { messages = refl; sent = refl; repeats = refl; longer = omega arith; entries = λ i low. refl }

sent_on : (v u w : SenderView) → IsSent v u → IsSent u w → IsSent v w
sent_on v u w a b = record {
  messages = b.messages ∙ a.messages;
  sent = b.sent ∙ a.sent;
  repeats = b.repeats ∙ a.repeats;
  longer = (let x = a.longer in let y = b.longer in omega (arith, x, y));
  entries = λ i low. b.entries i (let x = a.longer in omega (arith, x, low)) ∙ a.entries i low;
}

sent_abandoned : (v : SenderView) (t : ℕ) → IsSent v (abandon_after v t)
sent_abandoned v t = after_abandon (IsSent v) v t (sent_same v) (λ on. record { messages = refl; sent = refl; repeats = refl; longer = omega arith; entries = λ i low. refl }) (λ n is kept. given n)
  where
    given : (n : Name) → IsSent v (with_abandoned v n)
    given n = after_end (λ (p : Plan). IsSent v (record (with_abandoned v n) { plan = p })) v n
        (λ off. record { messages = refl; sent = refl; repeats = refl; longer = omega arith; entries = λ i low. refl })
        (λ on. record {
          messages = refl;
          sent = refl;
          repeats = refl;
          longer = (let more = length-append v.plan.entries (End n.lane n.number ∷ []) in omega (arith, more));
          entries = λ i low. entry_kept v.plan.entries (End n.lane n.number ∷ []) i low;
        })

-- ---- one index

of_names : (l : Lane) (n : ℕ) (e : Entry) → entry_lane e ≡ l → entry_number e ≡ n → IsOf l n e
of_names l n (Part b o k) lane number = (lane, number)
of_names l n (End b o) lane number = (lane, number)

-- the message that is given up for a worn entry is the entry's
used_name : (f : Format) (v : SenderView) (i : ℕ) (n : Name) → IsReached f v → (e : Entry) → entry_at v.plan i ≡ Some e → is_worn v i e ≡ true → name_of v (ticket_at v i) ≡ Some n → (q : IsUsed v n.lane n.number) × (q.repeated.0 ≡ i)
used_name f v i n h e there worn_out is =
    let may = and_parts v.partial (some_passes (is_used_up (v.repeats i)) (entry_message v.plan e)) worn_out in
    let used = some_is (is_used_up (v.repeats i)) (entry_message v.plan e) may.1 in
    let limit = some_is (λ most. nat_le most (v.repeats i)) used.0.limit used.2 in
    let whose : option_and_then (entry_message v.plan) (entry_at v.plan i) ≡ Some used.0 = ap (option_and_then (entry_message v.plan)) there ∙ used.1 in
    let ticket : ticket_at v i ≡ used.0.ticket = ap (λ (o : Option Message). unwrap_or (option_map (λ x. x.ticket) o) 0) whose in
    let own = own_item v.plan v.tickets v.plan.entries v.plan.entries i e (is_ticketed f v h).owned there in
    let self : (used.0.ticket == used.0.ticket) ≡ true = grind (arith, nat_tests) in
    let has : some_passes (λ (x : Message). x.ticket == used.0.ticket) (entry_message v.plan e) ≡ true = ap (some_passes (λ (x : Message). x.ticket == used.0.ticket)) used.1 ∙ self in
    let named : Some (name_at e) ≡ Some n = sym (ap (name_of v) ticket ∙ (own used.0.ticket has).2) ∙ is in
    let same : name_at e ≡ n = cc in
    subst (λ (x : Name). (q : IsUsed v x.lane x.number) × (q.repeated.0 ≡ i)) same (
      (record {
        message = used.0;
        named = used.1;
        limit = limit.0;
        limited = limit.1;
        repeated = (i, e, there, of_names (entry_lane e) (entry_number e) e refl refl, leb-true limit.0 (v.repeats i) limit.2);
      }),
      refl,
    )

-- ---- index after index

-- what wearing leaves of a view, so far
record IsWornPart (f : Format) (v u : SenderView) : Type 0 where
  only : OnlyUsed v u
  same : IsSent v u
  reached : IsReached f u

-- what is so of the later view is so of the first
used_before : (f : Format) (v u : SenderView) → IsReached f v → IsSent v u → (l : Lane) (n i : ℕ) (e : Entry) (k : ℕ) → entry_at u.plan i ≡ Some e → u.sent i ≡ true → IsOf l n e → k ≤ u.repeats i → WasRepeated v l n k
used_before f v u h s l n i e k there sent of low = (i, e, sym (s.entries i within) ∙ there, of, subst (λ (r : ℕ → ℕ). k ≤ r i) s.repeats low)
  where
    by : (t : Bool) → nat_lt (length v.plan.entries) i ≡ t → i ≤ length v.plan.entries
    by true past = absurd (let off = (is_bounded f v h).unsent i (grind (arith, nat_tests)) in let on : v.sent i ≡ true = subst (λ (x : ℕ → Bool). x i ≡ true) s.sent sent in cc)
    by false low = grind (arith, nat_tests)

    within : i ≤ length v.plan.entries
    within = by (nat_lt (length v.plan.entries) i) refl

wears_one : (f : Format) (v u : SenderView) (test : ℕ → Bool) (i : ℕ) → IsReached f v → IsWornPart f v u → IsWornPart f v (wear_one test u i)
wears_one f v u test i h k = by_worn (is_worn_at test u i) refl
  where
    there : is_worn_at test u i ≡ true → (e : Entry) × (entry_at u.plan i ≡ Some e) × ((is_unsettled u i e && is_worn u i e) ≡ true)
    there on = some_is (λ e. is_unsettled u i e && is_worn u i e) (entry_at u.plan i) (and_parts (test i) (passes_at u.plan (λ j e. is_unsettled u j e && is_worn u j e) i) on).1

    of_first : (x : SenderView) (e : Entry) → u.sent i ≡ true → entry_at u.plan i ≡ Some e → ((l : Lane) (n : ℕ) → x.abandoned l n ≡ true → (u.abandoned l n ≡ true) ⊎ ((q : IsUsed u l n) × (q.repeated.0 ≡ i))) → OnlyUsed v x
    of_first x e sent here next l n on =
        elim (next l n on) [
          | inl was ↦ k.only l n was
          | inr used ↦ inr (record {
            message = used.0.message;
            named = ap (λ (ms : Lane → List Message). slice_get (ms l) n) (sym k.same.messages) ∙ used.0.named;
            limit = used.0.limit;
            limited = used.0.limited;
            repeated = used_before f v u h k.same l n used.0.repeated.0 used.0.repeated.1 used.0.limit used.0.repeated.2 (ap u.sent used.1 ∙ sent) used.0.repeated.3 used.0.repeated.4;
          })
        ]

    by_worn : (b : Bool) → is_worn_at test u i ≡ b → IsWornPart f v (if b then abandon_after u (ticket_at u i) else u)
    by_worn false off = k
    by_worn true on =
        let e = there on in
        let parts = and_parts (is_unsettled u i e.0) (is_worn u i e.0) e.2 in
        let sent = (and_parts (u.sent i) (is_wanted u i e.0) parts.0).0 in
        record {
          only = of_first (abandon_after u (ticket_at u i)) e.0 sent e.1 (only e.0 e.1 parts.1);
          same = sent_on v u (abandon_after u (ticket_at u i)) k.same (sent_abandoned u (ticket_at u i));
          reached = Abandons u (ticket_at u i) k.reached;
        }
      where
        given : (e : Entry) → entry_at u.plan i ≡ Some e → is_worn u i e ≡ true → (n : Name) → name_of u (ticket_at u i) ≡ Some n → (l : Lane) (m : ℕ) → (with_abandoned u n).abandoned l m ≡ true → (u.abandoned l m ≡ true) ⊎ ((q : IsUsed u l m) × (q.repeated.0 ≡ i))
        given e here worn_out n is l m on = by (given_or_before u n l m on)
          where
            by : ((l ≡ n.lane) × (m ≡ n.number)) ⊎ (u.abandoned l m ≡ true) → (u.abandoned l m ≡ true) ⊎ ((q : IsUsed u l m) × (q.repeated.0 ≡ i))
            by (inr before) = inl before
            by (inl this) = inr (subst (λ (y : ℕ). (q : IsUsed u l y) × (q.repeated.0 ≡ i)) (sym this.1) (subst (λ (y : Lane). (q : IsUsed u y n.number) × (q.repeated.0 ≡ i)) (sym this.0) (used_name f u i n k.reached e here worn_out is)))

        only : (e : Entry) → entry_at u.plan i ≡ Some e → is_worn u i e ≡ true → (l : Lane) (n : ℕ) → (abandon_after u (ticket_at u i)).abandoned l n ≡ true → (u.abandoned l n ≡ true) ⊎ ((q : IsUsed u l n) × (q.repeated.0 ≡ i))
        only e here worn_out = after_abandon (λ (x : SenderView). (l : Lane) (n : ℕ) → x.abandoned l n ≡ true → (u.abandoned l n ≡ true) ⊎ ((q : IsUsed u l n) × (q.repeated.0 ≡ i))) u (ticket_at u i)
            (λ l n on. inl on) (λ waiting l n on. inl on) (λ n is kept. given e here worn_out n is)

wears_all : (f : Format) (v u : SenderView) (test : ℕ → Bool) (is : List ℕ) → IsReached f v → IsWornPart f v u → IsWornPart f v (fold (wear_one test) u is)
wears_all f v u test [] h k = k
wears_all f v u test (i ∷ is) h k = wears_all f v (wear_one test u i) test is h (wears_one f v u test i h k)

pub wears_used_alone : (f : Format) (v : SenderView) (test : ℕ → Bool) → IsReached f v → OnlyUsed v (worn test v)
wears_used_alone f v test h = (wears_all f v v test (count_up 1 (length v.plan.entries)) h (record { only = λ l n on. inl on; same = sent_same v; reached = h })).only
