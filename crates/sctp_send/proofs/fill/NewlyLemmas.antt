-- The tickets newly numbered, gathered from wish to wish.
use Rattle.std.proofs.Common.{◌≡◌, ℕ, zero, suc, ◌-◌, ◌≤◌, inl, inr, List, [], ◌∷◌, ◌++◌, length, drop, Bool, false, Option, Some, None, refl, sym, ap, ◌∙◌, subst, arith, length-append}
use Rattle.std.specs.Prelude.{◌==◌, option_and_then}
use Rattle.std.proofs.lemmas.List.{drop_all, drop-append-le}
use Rattle.std.proofs.lemmas.List.Elements.{filter_map-append}
use Rattle.std.proofs.lemmas.Bool.Decides.{nat_tests}
use Rattle.sctp_model.specs.messages.Format.{Format, Lane}
use Rattle.sctp_model.specs.messages.Plan.{Message, Entry, Part, Plan, parts_from}
use Rattle.sctp_model.specs.sender.SenderView.{Queued, SenderView}
use Rattle.sctp_model.specs.sender.Words.{when}
use Rattle.sctp_model.specs.sender.Entries.{entry_message, continued}
use Rattle.sctp_model.specs.sender.Assigning.{with_message, with_entry}
use Rattle.sctp_model.specs.sender.Filling.{Wish, standing, newcomer, next_wish, goes, gone, with_sent, room_of, Follows, is_first, begun_ticket, begun_tickets, newly_numbered}
use Rattle.sctp_model.specs.sender.Reached.{IsReached, Goes}
use Rattle.sctp_model.proofs.sender.WishCases.{IsAssigned, Whole, Begun, Continued, assigned_cases, wish_cases}
use Rattle.sctp_model.proofs.sender.FillLaws.{goes_parts, room_after}
use Rattle.sctp_model.proofs.sender.PlanLaws.{IsNamed, AllNamed, message_new, message_stays, continued_is}
use Rattle.sctp_model.proofs.sender.CountLaws.{is_named}
use Rattle.sctp_send.proofs.fill.NewItems.{named_drop, numbered}
use Rattle.sctp_send.proofs.fill.GoingOnLemmas.{gone_on}

-- ---- of a view and itself, and of one step

pub newly_self : (v : SenderView) → newly_numbered v v ≡ []
newly_self v = ap (begun_tickets v.plan) (drop_all (length v.plan.entries) v.plan.entries (omega arith))

-- what has its index has its number
pub newly_standing : (v : SenderView) (i : ℕ) → newly_numbered v (gone (standing v i)) ≡ []
newly_standing v i = newly_self v

drop_behind : (es ds : List Entry) → drop (length es) (es ++ ds) ≡ ds
drop_behind [] ds = refl
drop_behind (e ∷ es) ds = drop_behind es ds

-- a fragment that isn't the first tells no ticket
later_part : (p : Plan) (l : Lane) (n k : ℕ) → begun_ticket p (Part l n (suc k)) ≡ None
later_part p l n k = let off : (suc k == 0) ≡ false = grind (arith, nat_tests) in by_message (entry_message p (Part l n (suc k))) (suc k == 0) off
  where
    by_message : (o : Option Message) (b : Bool) → b ≡ false → option_and_then (λ m. when b m.ticket) o ≡ None
    by_message None b is = refl
    by_message (Some m) b is = rw is refl

later_parts : (p : Plan) (l : Lane) (n k d : ℕ) → begun_tickets p (parts_from l n (suc k) d) ≡ []
later_parts p l n k zero = refl
later_parts p l n k (suc d) = rw (later_part p l n k) (later_parts p l n (suc k) d)

-- a message that begins tells its ticket
pub newly_begun : (v : SenderView) (q : Queued) (rest : List Queued) (d turn : ℕ) → newly_numbered v (gone (newcomer v (numbered v q (suc d) rest turn))) ≡ q.message.ticket ∷ []
newly_begun v q rest d turn =
    let p2 = with_message v.plan q (suc d) in
    let n = length (v.plan.messages q.lane) in
    ap (begun_tickets p2) (drop_behind v.plan.entries (parts_from q.lane n 0 (suc d))) ∙ rw (message_new v.plan q (suc d)) (ap (λ (ts : List ℕ). q.message.ticket ∷ ts) (later_parts p2 q.lane n 0 d))

-- one that goes on tells none
pub newly_continued : (f : Format) (v : SenderView) (j turn : ℕ) (e : Entry) → IsReached f v → continued v.plan j ≡ Some e → newly_numbered v (gone (newcomer v (gone_on v e turn))) ≡ []
newly_continued f v j turn e h on =
    let next = continued_is v.streams v.plan j e (is_named f v h) on in
    ap (begun_tickets (with_entry v.plan e)) (drop_behind v.plan.entries (e ∷ []))
    ∙ subst (λ (x : Entry). begun_tickets (with_entry v.plan e) (x ∷ []) ≡ []) (sym next.is) (rw (later_part (with_entry v.plan e) next.lane next.number next.fragment) refl)

-- ---- one step behind others

-- entries whose messages stay tell what they told
tickets_stay : (n : ℕ) (p r : Plan) (es : List Entry) → AllNamed n p es → ((e : Entry) → IsNamed n p e → entry_message r e ≡ entry_message p e) → begun_tickets r es ≡ begun_tickets p es
tickets_stay n p r [] named same = refl
tickets_stay n p r (e ∷ es) named same =
    let here : begun_ticket r e ≡ begun_ticket p e = ap (λ (o : Option Message). option_and_then (λ m. when (is_first e) m.ticket) o) (same e named.0) in
    rw (here, tickets_stay n p r es named.1 same) refl

-- a view has more entries than another, and the messages of the old ones stay
record IsLonger (u x : SenderView) : Type 0 where
  more : List Entry
  entries : x.plan.entries ≡ u.plan.entries ++ more
  messages : (e : Entry) → IsNamed u.streams u.plan e → entry_message x.plan e ≡ entry_message u.plan e

none_behind : (es : List Entry) → es ≡ es ++ []
none_behind [] = refl
none_behind (e ∷ es) = ap (λ (xs : List Entry). e ∷ xs) (none_behind es)

longer_assigned : (f : Format) (u x : SenderView) → IsAssigned u f x → IsLonger u x
longer_assigned _ u _ (Whole q rest is) =
    record { more = parts_from q.lane (length (u.plan.messages q.lane)) 0 (length q.message.fragments); entries = refl; messages = λ e named. message_stays u.streams u.plan q (length q.message.fragments) e named }
longer_assigned _ u _ (Begun s q lt idle first) = record { more = parts_from q.lane (length (u.plan.messages q.lane)) 0 1; entries = refl; messages = λ e named. message_stays u.streams u.plan q 1 e named }
longer_assigned _ u _ (Continued s e lt on) = record { more = e ∷ []; entries = refl; messages = λ x named. refl }

longer_gone : (f : Format) (u : SenderView) (w : Wish) → next_wish f u ≡ Some w → IsLonger u (gone w)
longer_gone f u w next =
    elim (wish_cases f u w next) [
      | inl r ↦ subst (λ (x : SenderView). IsLonger u (with_sent x w.index)) (sym r.view) (record { more = []; entries = none_behind u.plan.entries; messages = λ e named. refl })
      | inr r ↦ let l = longer_assigned f u w.view (assigned_cases f u w.view r.assigned) in record { more = l.more; entries = l.entries; messages = l.messages }
    ]

newly_joined : (f : Format) (v u x : SenderView) → IsReached f u → length v.plan.entries ≤ length u.plan.entries → IsLonger u x → newly_numbered v x ≡ newly_numbered v u ++ newly_numbered u x
newly_joined f v u x h le l =
    let n = length v.plan.entries in
    let old = drop n u.plan.entries in
    let all : drop n x.plan.entries ≡ old ++ l.more = ap (drop n) l.entries ∙ drop-append-le n u.plan.entries l.more le in
    let new : drop (length u.plan.entries) x.plan.entries ≡ l.more = ap (drop (length u.plan.entries)) l.entries ∙ drop_behind u.plan.entries l.more in
    let stays = tickets_stay u.streams u.plan x.plan old (named_drop u.streams u.plan n u.plan.entries (is_named f u h)) l.messages in
    ap (begun_tickets x.plan) all ∙ filter_map-append (begun_ticket x.plan) old l.more ∙ ap (λ (ts : List ℕ). ts ++ begun_tickets x.plan l.more) stays ∙ ap (λ (es : List Entry). newly_numbered v u ++ begun_tickets x.plan es) (sym new)

-- where wishes lead
pub record IsLed (f : Format) (v u : SenderView) : Type 0 where
  pub reached : IsReached f u
  pub longer : length v.plan.entries ≤ length u.plan.entries

pub follows_led : (f : Format) (v u : SenderView) (room : ℕ) (ws : List Wish) → IsReached f v → Follows f v room ws u → IsLed f v u
follows_led f v u room [] h is = subst (λ (x : SenderView). IsLed f v x) (sym is) (record { reached = h; longer = omega arith })
follows_led f v u room (w ∷ ws) h is =
    let parts = goes_parts f room v w is.0 in
    let rest = follows_led f (gone w) u (room - room_of f w) ws (Goes v room w h parts.0 parts.1) is.1 in
    let l = longer_gone f v w parts.0 in
    let long = ap (λ (es : List Entry). length es) l.entries ∙ length-append v.plan.entries l.more in
    record { reached = rest.reached; longer = omega (arith, long, rest.longer) }

pub newly_more : (f : Format) (v u : SenderView) (room : ℕ) (ws : List Wish) (w : Wish) → IsReached f v → Follows f v room ws u → goes f (room_after f room ws) u ≡ Some w
    → newly_numbered v (gone w) ≡ newly_numbered v u ++ newly_numbered u (gone w)
newly_more f v u room ws w h before next =
    let led = follows_led f v u room ws h before in
    newly_joined f v u (gone w) led.reached led.longer (longer_gone f u w (goes_parts f (room_after f room ws) u w next).0)
