-- What abandoning, time and the data timer leave of a sender's tickets and numbers.
use Rattle.std.proofs.Common.{◌≡◌, ℕ, zero, suc, ◌<◌, ◌≤◌, ◌⊎◌, Bool, true, false, List, [], ◌∷◌, ◌++◌, length, length-append, arith, Option, Some, None, inl, inr, refl, sym, subst, ap, ◌∙◌}
use Rattle.std.specs.Prelude.{◌||◌, if◌then◌else◌, find, fold, option_map, option_and_then}
use Rattle.std.proofs.Math.Path.{fun_ext}
use Rattle.std.proofs.lemmas.List.{append-nil}
use Rattle.std.proofs.lemmas.List.Elements.{filter_map-append}
use Rattle.sctp_model.specs.numbers.Lists.{Has, item_at}
use Rattle.sctp_model.specs.messages.Format.{Lane}
use Rattle.sctp_model.specs.messages.Plan.{Message, Entry, End, Plan}
use Rattle.sctp_model.specs.sender.SenderView.{SenderView, fresh_sender, SendLimits}
use Rattle.sctp_model.specs.sender.Words.{when, count_up}
use Rattle.sctp_model.specs.sender.Entries.{entry_lane, entry_number, entry_message}
use Rattle.sctp_model.specs.sender.Assigning.{with_entry}
use Rattle.sctp_model.specs.sender.Abandoning.{Name, name_at, name_of, has_ticket, without, with_abandoned, abandon_after, is_overdue, expire_one, expired, worn, unsettled_at, timed_out}
use Rattle.sctp_model.specs.sender.Filling.{begun_ticket, begun_tickets}
use Rattle.sctp_model.specs.end.Moments.{given_up}
use Rattle.sctp_model.specs.sender.Resetting.{retried}
use Rattle.sctp_safety.proofs.machine.Reconfigured.{retried_of}
use Rattle.sctp_model.proofs.sender.WornLaws.{wears_each}
use Rattle.sctp_model.proofs.sender.AbandonCases.{after_abandon, after_end}
use Rattle.sctp_outcomes.specs.Kept.{IsNamed}

-- a sender that is as it is made
abbrev pub IsNew : ℕ → SendLimits → SenderView → Type 0
IsNew k m v = v ≡ fresh_sender 0 0 k 0 false m

-- What is noted of the one is noted of the other.
pub record KeepsNumbers (v u : SenderView) : Type 0 where
  pub numbers : begun_tickets u.plan u.plan.entries ≡ begun_tickets v.plan v.plan.entries
  pub named : IsNamed v.plan → IsNamed u.plan
  pub grown : length v.plan.entries ≤ length u.plan.entries
  pub tickets : u.tickets ≡ v.tickets
  pub new : (k : ℕ) (m : SendLimits) → IsNew k m v → IsNew k m u

pub keeps_itself : (v : SenderView) → KeepsNumbers v v
keeps_itself v = record { numbers = refl; named = λ n. n; grown = omega arith; tickets = refl; new = λ k m n. n }

pub keeps_on : (v u w : SenderView) → KeepsNumbers v u → KeepsNumbers u w → KeepsNumbers v w
keeps_on v u w a b = record { numbers = b.numbers ∙ a.numbers; named = λ n. b.named (a.named n); grown = (let x = a.grown in let y = b.grown in omega (arith, x, y)); tickets = b.tickets ∙ a.tickets; new = λ k m n. b.new k m (a.new k m n) }

-- ---- lists

pub has_cases : {A : Type 0} (xs ys : List A) (x : A) → Has (xs ++ ys) x → Has xs x ⊎ Has ys x
has_cases [] ys x has = inr has
has_cases (a ∷ xs) ys x (inl same) = inl (inl same)
has_cases (a ∷ xs) ys x (inr more) =
    elim (has_cases xs ys x more) [
      | inl left ↦ inl (inr left)
      | inr right ↦ inr right
    ]

-- ---- an end mark

-- no ticket is reported with it
no_ticket : (p : Plan) (l : Lane) (n : ℕ) → begun_ticket p (End l n) ≡ None
no_ticket p l n = by_message (entry_message p (End l n))
  where
    by_message : (o : Option Message) → option_and_then (λ (m : Message). when false m.ticket) o ≡ None
    by_message None = refl
    by_message (Some m) = refl

marked_numbers : (p : Plan) (l : Lane) (n : ℕ) → begun_tickets (with_entry p (End l n)) (p.entries ++ End l n ∷ []) ≡ begun_tickets p p.entries
marked_numbers p l n =
    filter_map-append (begun_ticket p) p.entries (End l n ∷ [])
    ∙ ap (λ (ts : List ℕ). begun_tickets p p.entries ++ ts) (rw (no_ticket p l n) refl) ∙ append-nil (begun_tickets p p.entries)

-- an entry of a message that has its number
pub named_more : (p : Plan) (x : Entry) → entry_number x < length (p.messages (entry_lane x)) → IsNamed p → IsNamed (with_entry p x)
named_more p x low named e has =
    elim (has_cases p.entries (x ∷ []) e has) [
      | inl old ↦ named e old
      | inr (inl same) ↦ subst (λ (y : Entry). entry_number y < length (p.messages (entry_lane y))) same low
      | inr (inr none) ↦ absurd none
    ]

-- ---- what is found has its number

pub found_has : (test : Entry → Bool) (es : List Entry) (x : Entry) → find test es ≡ Some x → Has es x
found_has test [] x is = absurd (cc)
found_has test (e ∷ es) x is = go (test e) is (λ here. found_has test es x here)
  where
    go : (b : Bool) → (if b then Some e else find test es) ≡ Some x → (find test es ≡ Some x → Has es x) → Has (e ∷ es) x
    go true here further = let same : e ≡ x = cc in inl same
    go false here further = inr (further here)

name_is_named : (p : Plan) (t : ℕ) (n : Name) → IsNamed p → option_map name_at (find (λ e. has_ticket t (entry_message p e)) p.entries) ≡ Some n → n.number < length (p.messages n.lane)
name_is_named p t n named is = go (find (λ e. has_ticket t (entry_message p e)) p.entries) refl is
  where
    go : (o : Option Entry) → find (λ e. has_ticket t (entry_message p e)) p.entries ≡ o → option_map name_at o ≡ Some n → n.number < length (p.messages n.lane)
    go None found here = absurd (cc)
    go (Some e) found here =
        let same : name_at e ≡ n = cc in
        subst (λ (x : Name). x.number < length (p.messages x.lane)) same (named e (found_has (λ x. has_ticket t (entry_message p x)) p.entries e found))

-- ---- abandoning

withdrawn_new : (v : SenderView) (t k : ℕ) (m : SendLimits) → IsNew k m v → IsNew k m (record v { queue = without t v.queue })
withdrawn_new v t k m is = subst (λ (x : SenderView). IsNew k m (record x { queue = without t x.queue })) (sym is) refl

given_keeps : (v : SenderView) (t : ℕ) (n : Name) → name_of v t ≡ Some n → KeepsNumbers v (with_abandoned v n)
given_keeps v t n is = record {
  numbers = after_end (λ (p : Plan). begun_tickets p p.entries ≡ begun_tickets v.plan v.plan.entries) v n (λ off. refl) (λ on. marked_numbers v.plan n.lane n.number);
  named = λ named. after_end IsNamed v n (λ off. named) (λ on. named_more v.plan (End n.lane n.number) (name_is_named v.plan t n named is) named);
  grown = after_end (λ (p : Plan). length v.plan.entries ≤ length p.entries) v n (λ off. omega arith) (λ on. (let q = length-append v.plan.entries (End n.lane n.number ∷ []) in omega (arith, q)));
  tickets = refl;
  new = λ k m new. absurd (let none : None ≡ Some n = subst (λ (x : SenderView). name_of x t ≡ Some n) new is in cc);
}

pub abandoned_keeps : (v : SenderView) (t : ℕ) → KeepsNumbers v (abandon_after v t)
abandoned_keeps v t =
    after_abandon (KeepsNumbers v) v t (keeps_itself v) (λ on. record { numbers = refl; named = λ n. n; grown = omega arith; tickets = refl; new = withdrawn_new v t }) (λ n is kept. given_keeps v t n is)

-- ---- time

one_keeps : (now : ℕ) (v : SenderView) (t : ℕ) → KeepsNumbers v (expire_one now v t)
one_keeps now v t = go (is_overdue v now t)
  where
    go : (b : Bool) → KeepsNumbers v (if b then abandon_after v t else v)
    go true = abandoned_keeps v t
    go false = keeps_itself v

all_keep : (now : ℕ) (v : SenderView) (ts : List ℕ) → KeepsNumbers v (fold (expire_one now) v ts)
all_keep now v [] = keeps_itself v
all_keep now v (t ∷ ts) = keeps_on v (expire_one now v t) (fold (expire_one now) (expire_one now v t) ts) (one_keeps now v t) (all_keep now (expire_one now v t) ts)

pub expired_keeps : (v : SenderView) (now : ℕ) → KeepsNumbers v (expired v now)
expired_keeps v now = all_keep now v (count_up 1 v.tickets)

pub worn_keeps : (test : ℕ → Bool) (v : SenderView) → KeepsNumbers v (worn test v)
worn_keeps test v = wears_each (KeepsNumbers v) (λ x t k. keeps_on v x (abandon_after x t) k (abandoned_keeps x t)) test v (count_up 1 (length v.plan.entries)) (keeps_itself v)

pub given_up_keeps : (rings : Bool) (v : SenderView) (now : ℕ) → KeepsNumbers v (given_up rings v now)
given_up_keeps true v now =
    let u = expired v now in
    keeps_on v u (worn (λ i. true) u) (expired_keeps v now) (worn_keeps (λ i. true) u)
given_up_keeps false v now = expired_keeps v now

-- ---- the data timer

nothing_marked : (k : ℕ) (m : SendLimits) (i : ℕ) → (false || unsettled_at (fresh_sender 0 0 k 0 false m) i (item_at [] i)) ≡ false
nothing_marked k m zero = refl
nothing_marked k m (suc i) = refl

new_timed_out : (k : ℕ) (m : SendLimits) → IsNew k m (timed_out (fresh_sender 0 0 k 0 false m))
new_timed_out k m = λ j. record (fresh_sender 0 0 k 0 false m) { marked = fun_ext (nothing_marked k m) j }

pub timed_out_keeps : (v : SenderView) → KeepsNumbers v (timed_out v)
timed_out_keeps v = record { numbers = refl; named = λ n. n; grown = omega arith; tickets = refl; new = λ k m new. subst (λ (x : SenderView). IsNew k m (timed_out x)) (sym new) (new_timed_out k m) }

-- ---- the timer of a request

pub retried_keeps : (v : SenderView) → KeepsNumbers v (retried v)
retried_keeps v = let same = (retried_of v).1 in record {
  numbers = ap (λ (x : SenderView). begun_tickets x.plan x.plan.entries) same;
  named = λ n. subst (λ (x : SenderView). IsNamed x.plan) (sym same) n;
  grown = (let q = ap (λ (x : SenderView). length x.plan.entries) same in omega (arith, q));
  tickets = ap (λ (x : SenderView). x.tickets) same;
  new = λ k m new. subst (λ (x : SenderView). IsNew k m (retried x)) (sym new) refl;
}
