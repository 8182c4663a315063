-- A drained sender stays drained: it takes no index, and nothing of it is left to be given up. Only `send` could undo that.
use Rattle.std.proofs.Common.{◌≡◌, ℕ, ◌<◌, ◌⊎◌, Bool, true, false, List, [], ◌∷◌, Some, inl, inr, sym, subst, ap, if◌then◌else◌, length}
use Rattle.std.specs.Prelude.{fold}
use Rattle.sctp_model.specs.messages.Format.{Format}
use Rattle.sctp_model.specs.messages.Plan.{Plan}
use Rattle.sctp_model.specs.sender.SenderView.{Queued, SenderView}
use Rattle.sctp_model.specs.sender.Words.{some_passes, count_up}
use Rattle.sctp_model.specs.sender.Entries.{is_of, is_in_part}
use Rattle.sctp_model.specs.sender.Assigning.{first_on}
use Rattle.sctp_model.specs.sender.Filling.{Wish, next_wish, gone, Follows, fill}
use Rattle.sctp_model.specs.sender.Abandoning.{Name, waits, with_abandoned, abandon_after, is_overdue, expire_one, expired, worn, timed_out}
use Rattle.sctp_model.specs.sender.Readers.{drained}
use Rattle.sctp_model.specs.sender.Reached.{IsReached, Goes, Abandons}
use Rattle.sctp_model.specs.end.Moments.{given_up}
use Rattle.sctp_model.proofs.sender.WornLaws.{wears_each}
use Rattle.sctp_model.proofs.sender.AbandonCases.{after_abandon, after_end}
use Rattle.sctp_model.proofs.sender.CountLaws.{name_found, is_named}
use Rattle.sctp_model.proofs.sender.FillLaws.{fill_is_fill, goes_parts}
use Rattle.sctp_model.proofs.sender.WishCases.{IsAssigned, Whole, Begun, Continued, assigned_cases, IsRepeat, IsNew, wish_cases}
use Rattle.sctp_safety.proofs.runs.Arrived.{IsEmpty, drained_is}

-- ---- filling

none_assigned : (f : Format) (v u : SenderView) → IsEmpty v → IsAssigned v f u → ⊥
none_assigned f v u e (Whole q rest is) = let h = e.queue in cc
none_assigned f v u e (Begun s q lt on first) =
    let h : first_on s [] ≡ Some q = subst (λ (qs : List Queued). first_on s qs ≡ Some q) e.queue first in cc
none_assigned f v u e (Continued s x lt on) = let h = e.idle s lt in cc

drained_goes : (f : Format) (v : SenderView) (w : Wish) → IsReached f v → drained v ≡ true → next_wish f v ≡ Some w → drained (gone w) ≡ true
drained_goes f v w h empty next = go (wish_cases f v w next)
  where
    go : IsRepeat v w ⊎ IsNew f v w → drained (gone w) ≡ true
    go (inl r) = subst (λ (u : SenderView). drained u ≡ true) (sym r.view) empty
    go (inr n) = absurd (none_assigned f v w.view (drained_is v empty) (assigned_cases f v w.view n.assigned))

drained_follows : (f : Format) (v : SenderView) (room : ℕ) (ws : List Wish) (u : SenderView) → IsReached f v → drained v ≡ true → Follows f v room ws u → drained u ≡ true
drained_follows f v room [] u h empty same = subst (λ (x : SenderView). drained x ≡ true) (sym same) empty
drained_follows f v room (w ∷ ws) u h empty (first, rest) =
    let parts = goes_parts f room v w first in
    drained_follows f (gone w) _ ws u (Goes v room w h parts.0 parts.1) (drained_goes f v w h empty parts.0) rest

pub drained_fill : (f : Format) (room : ℕ) (v : SenderView) → IsReached f v → drained v ≡ true → drained (fill f room v).view ≡ true
drained_fill f room v h empty = drained_follows f v room (fill f room v).wishes (fill f room v).view h empty (fill_is_fill f room v).follows

-- ---- giving up

drained_given : (v : SenderView) (n : Name) → n.lane.stream < v.streams → drained v ≡ true → drained (with_abandoned v n) ≡ true
drained_given v n lt empty = after_end (λ (p : Plan). drained (record v { plan = p }) ≡ true) v n (λ off. empty) (λ on. absurd (let quiet = off in cc))
  where
    off : is_in_part v n.lane n.number ≡ false
    off = ap (some_passes (is_of n.lane n.number)) ((drained_is v empty).idle n.lane.stream lt)

pub drained_abandoned : (f : Format) (v : SenderView) (t : ℕ) → IsReached f v → drained v ≡ true → drained (abandon_after v t) ≡ true
drained_abandoned f v t h empty =
    after_abandon (λ (u : SenderView). drained u ≡ true) v t empty
    (λ on. let q : waits t [] ≡ true = subst (λ (qs : List Queued). waits t qs ≡ true) (drained_is v empty).queue on in absurd (cc))
    (λ n is kept. drained_given v n (name_found v.streams v.plan t v.plan.entries n (is_named f v h) is).1 empty)

-- a view that calls reach, drained
abbrev IsDry : Format → SenderView → Type 0
IsDry f v = IsReached f v × (drained v ≡ true)

expires_dry : (f : Format) (v : SenderView) (now : ℕ) (ts : List ℕ) → IsDry f v → IsDry f (fold (expire_one now) v ts)
expires_dry f v now [] dry = dry
expires_dry f v now (t ∷ ts) (reached, empty) = expires_dry f (expire_one now v t) now ts (one (is_overdue v now t))
  where
    one : (b : Bool) → IsDry f (if b then abandon_after v t else v)
    one true = (Abandons v t reached, drained_abandoned f v t reached empty)
    one false = (reached, empty)

pub drained_expired : (f : Format) (v : SenderView) (now : ℕ) → IsReached f v → drained v ≡ true → drained (expired v now) ≡ true
drained_expired f v now h empty = (expires_dry f v now (count_up 1 v.tickets) (h, empty)).1

pub drained_worn : (f : Format) (test : ℕ → Bool) (v : SenderView) → IsReached f v → drained v ≡ true → drained (worn test v) ≡ true
drained_worn f test v h empty =
    (wears_each (IsDry f) (λ u t k. (Abandons u t k.0, drained_abandoned f u t k.0 k.1)) test v (count_up 1 (length v.plan.entries)) (h, empty)).1

pub drained_given_up : (f : Format) (rings : Bool) (v : SenderView) (now : ℕ) → IsReached f v → drained v ≡ true → drained (given_up rings v now) ≡ true
drained_given_up f true v now h empty =
    let dry : IsDry f (expired v now) = expires_dry f v now (count_up 1 v.tickets) (h, empty) in
    drained_worn f (λ i. true) (expired v now) dry.0 dry.1
drained_given_up f false v now h empty = drained_expired f v now h empty

pub drained_timed_out : (v : SenderView) → drained v ≡ true → drained (timed_out v) ≡ true
drained_timed_out v empty = empty
