-- A message given up: what is so of the other tickets stays so.
use Rattle.std.proofs.Common.{◌≡◌, ℕ, [], ◌∷◌, ◌++◌, Bool, true, false, Option, Some, None, refl, sym, ap, ◌∙◌, subst, arith}
use Rattle.std.specs.Prelude.{if◌then◌else◌, option_map}
use Rattle.std.specs.Option.{option_or}
use Rattle.std.proofs.lemmas.Bool.Decides.{nat_tests}
use Rattle.sctp_model.specs.messages.Format.{Format, Lane}
use Rattle.sctp_model.specs.messages.Plan.{Message, End, Plan, message_at}
use Rattle.sctp_model.specs.sender.SenderView.{SenderView}
use Rattle.sctp_model.specs.sender.Assigning.{with_entry}
use Rattle.sctp_model.specs.sender.Abandoning.{Name, name_at, name_of, name_among, has_ticket, with_abandoned, is_abandoned}
use Rattle.sctp_model.specs.sender.Reached.{IsReached}
use Rattle.sctp_model.proofs.sender.AbandonCases.{after_end, given_other}
use Rattle.sctp_model.proofs.sender.OwnLaws.{name_among-append, name_among-same, found_owns}
use Rattle.sctp_model.proofs.sender.TicketLaws.{is_ticketed}
pub use Rattle.sctp_model.proofs.sender.AbandonCases.{given_itself}
pub use Rattle.sctp_model.proofs.sender.QueueLaws.{without_other, without_self}

or_none : (o : Option Name) → option_or o None ≡ o
or_none None = refl
or_none (Some m) = refl

-- tickets name what they named
pub names_given : (f : Format) (v : SenderView) (t : ℕ) (n : Name) → IsReached f v → name_of v t ≡ Some n → (x : ℕ) → name_of (with_abandoned v n) x ≡ name_of v x
names_given f v t n h is x =
    after_end (λ (p : Plan). name_among p x p.entries ≡ name_of v x) v n (λ off. refl)
    (λ on. name_among-same v.plan p2 x (v.plan.entries ++ End n.lane n.number ∷ []) (λ e. refl) ∙ name_among-append v.plan x v.plan.entries (End n.lane n.number ∷ [])
    ∙ of_mark (has_ticket x (message_at v.plan n.lane n.number)) refl)
  where
    p2 : Plan
    p2 = with_entry v.plan (End n.lane n.number)

    of_mark : (b : Bool) → has_ticket x (message_at v.plan n.lane n.number) ≡ b → option_or (name_of v x) (option_map name_at (if b then Some (End n.lane n.number) else None)) ≡ name_of v x
    of_mark false off = or_none (name_of v x)
    of_mark true on =
        let own = found_owns v.plan v.tickets t v.plan.entries v.plan.entries n (is_ticketed f v h).owned is in
        let named = (own.0 x on).2 in
        ap (λ (o : Option Name). option_or o (Some (record { lane = n.lane; number = n.number }))) named ∙ sym named

-- a message has one ticket
one_ticket : (m : Option Message) (t x : ℕ) → has_ticket t m ≡ true → has_ticket x m ≡ true → t ≡ x
one_ticket None t x on also = absurd (cc)
one_ticket (Some m) t x on also = let one : m.ticket ≡ t = grind (arith, nat_tests) in let two : m.ticket ≡ x = grind (arith, nat_tests) in sym one ∙ two

-- other tickets' messages are abandoned if they were before
pub others_given : (f : Format) (v : SenderView) (t x : ℕ) (n m : Name) → IsReached f v → name_of v t ≡ Some n → name_of v x ≡ Some m → (t ≡ x → ⊥) → is_abandoned (with_abandoned v n) m ≡ is_abandoned v m
others_given f v t x n m h is also ne = given_other v n m.lane m.number apart
  where
    apart : (m.lane ≡ n.lane) × (m.number ≡ n.number) → ⊥
    apart (lane, number) =
        let k = (is_ticketed f v h).owned in
        let mine = (found_owns v.plan v.tickets t v.plan.entries v.plan.entries n k is).1 in
        let its = (found_owns v.plan v.tickets x v.plan.entries v.plan.entries m k also).1 in
        let here : has_ticket t (message_at v.plan m.lane m.number) ≡ true = subst (λ (y : ℕ). has_ticket t (message_at v.plan m.lane y) ≡ true) (sym number) (subst (λ (y : Lane). has_ticket t (message_at v.plan y n.number) ≡ true) (sym lane) mine) in
        ne (one_ticket (message_at v.plan m.lane m.number) t x here its)
