-- What the next wish is: the lowest index to be repeated, or the lowest that never went out, or what is assigned next; and what may be assigned.
use Rattle.std.proofs.Common.{◌≡◌, ℕ, suc, ◌<◌, ◌≤◌, ◌⊎◌, inl, inr, List, [], ◌∷◌, length, drop, Option, Some, None, refl, subst}
use Rattle.std.specs.Prelude.{slice_get, option_map}
use Rattle.sctp_model.specs.messages.Format.{Format, Plain, Interleaved}
use Rattle.sctp_model.specs.messages.Plan.{Entry}
use Rattle.sctp_model.specs.sender.SenderView.{Queued, SenderView}
use Rattle.sctp_model.specs.sender.Words.{first_there, lowest}
use Rattle.sctp_model.specs.sender.Entries.{is_unsent, passes_at, continued}
use Rattle.sctp_model.specs.sender.Assigning.{with_message, first_on, going_on, beginning, turn_of, turns, assigned}
use Rattle.sctp_model.specs.sender.Filling.{Wish, standing, newcomer, next_wish, gone}
use Rattle.sctp_model.proofs.sender.WordLaws.{answer_to, in_turn, IsLowest, lowest_is}

-- ---- what is assigned

-- a view in which the fragment assigned next has its index
pub data IsAssigned (v : SenderView) : Format → SenderView → Type 0 where
  Whole : (q : Queued) (rest : List Queued) → v.queue ≡ q ∷ rest → IsAssigned v Plain (record v { plan = with_message v.plan q (length q.message.fragments); queue = rest })
  Begun : (s : ℕ) (q : Queued) → s < v.streams → continued v.plan s ≡ None → first_on s v.queue ≡ Some q → IsAssigned v Interleaved (beginning v s q)
  Continued : (s : ℕ) (e : Entry) → s < v.streams → continued v.plan s ≡ Some e → IsAssigned v Interleaved (going_on v s e)

whole_case : (v u : SenderView) (qs : List Queued) → v.queue ≡ qs
    → option_map (λ q. record v { plan = with_message v.plan q (length q.message.fragments); queue = drop 1 qs }) (slice_get qs 0) ≡ Some u → IsAssigned v Plain u
whole_case v u [] queue is = absurd (cc)
whole_case v u (q ∷ qs) queue is =
    let same : record v { plan = with_message v.plan q (length q.message.fragments); queue = qs } ≡ u = cc in
    subst (λ (x : SenderView). IsAssigned v Plain x) same (Whole q qs queue)

turn_case : (v u : SenderView) (s : ℕ) (o : Option Entry) (q : Option Queued) → s < v.streams → continued v.plan s ≡ o → first_on s v.queue ≡ q
    → first_there (option_map (going_on v s) o ∷ option_map (beginning v s) q ∷ []) ≡ Some u → IsAssigned v Interleaved u
turn_case v u s (Some e) q lt on first is = let same : going_on v s e ≡ u = cc in subst (λ (x : SenderView). IsAssigned v Interleaved x) same (Continued s e lt on)
turn_case v u s None (Some q) lt on first is = let same : beginning v s q ≡ u = cc in subst (λ (x : SenderView). IsAssigned v Interleaved x) same (Begun s q lt on first)
turn_case v u s None None lt on first is = absurd (cc)

pub assigned_cases : (f : Format) (v u : SenderView) → assigned f v ≡ Some u → IsAssigned v f u
assigned_cases Plain v u is = whole_case v u v.queue refl is
assigned_cases Interleaved v u is =
    let r = answer_to (turn_of v) (turns v) u is in
    turn_case v u r.0 (continued v.plan r.0) (first_on r.0 v.queue) (in_turn v.turn v.streams r.0 r.1) refl refl r.2

-- ---- the next wish

-- the three ways to be the next wish, each if those before it have none
pub data IsWished (f : Format) (v : SenderView) : Wish → Type 0 where
  Repeated : (i : ℕ) → IsLowest v.marked (length v.plan.entries) i → IsWished f v (standing v i)
  Unsent : (i : ℕ) → lowest v.marked (length v.plan.entries) ≡ None → IsLowest (passes_at v.plan (is_unsent v)) (length v.plan.entries) i → IsWished f v (standing v i)
  New : (u : SenderView) → lowest v.marked (length v.plan.entries) ≡ None → lowest (passes_at v.plan (is_unsent v)) (length v.plan.entries) ≡ None → assigned f v ≡ Some u → IsWished f v (newcomer v u)

pub wished_ways : (f : Format) (v : SenderView) (w : Wish) → next_wish f v ≡ Some w → IsWished f v w
wished_ways f v w is = by_mark (lowest v.marked (length v.plan.entries)) refl (lowest (passes_at v.plan (is_unsent v)) (length v.plan.entries)) refl (assigned f v) refl is
  where
    by_mark : (a : Option ℕ) → lowest v.marked (length v.plan.entries) ≡ a → (b : Option ℕ) → lowest (passes_at v.plan (is_unsent v)) (length v.plan.entries) ≡ b
        → (c : Option SenderView) → assigned f v ≡ c → first_there (option_map (standing v) a ∷ option_map (standing v) b ∷ option_map (newcomer v) c ∷ []) ≡ Some w → IsWished f v w
    by_mark (Some i) marks b unsent c new here = let same : standing v i ≡ w = cc in subst (λ (x : Wish). IsWished f v x) same (Repeated i (lowest_is v.marked (length v.plan.entries) i marks))
    by_mark None marks (Some i) unsent c new here =
        let same : standing v i ≡ w = cc in
        subst (λ (x : Wish). IsWished f v x) same (Unsent i marks (lowest_is (passes_at v.plan (is_unsent v)) (length v.plan.entries) i unsent))
    by_mark None marks None unsent (Some u) new here = let same : newcomer v u ≡ w = cc in subst (λ (x : Wish). IsWished f v x) same (New u marks unsent new)
    by_mark None marks None unsent None new here = absurd (cc)

-- a fragment that has an index
pub record IsRepeat (v : SenderView) (w : Wish) : Type 0 where
  pub view : w.view ≡ v
  pub low : 0 < w.index
  pub high : w.index ≤ length v.plan.entries

-- a fragment that takes its index
pub record IsNew (f : Format) (v : SenderView) (w : Wish) : Type 0 where
  pub assigned : assigned f v ≡ Some w.view
  pub index : w.index ≡ suc (length v.plan.entries)

pub wish_cases : (f : Format) (v : SenderView) (w : Wish) → next_wish f v ≡ Some w → IsRepeat v w ⊎ IsNew f v w
wish_cases f v w is = by_way w (wished_ways f v w is)
  where
    by_way : (x : Wish) → IsWished f v x → IsRepeat v x ⊎ IsNew f v x
    by_way _ (Repeated i h) = inl (record { view = refl; low = h.some; high = h.within })
    by_way _ (Unsent i marks h) = inl (record { view = refl; low = h.some; high = h.within })
    by_way _ (New u marks unsent new) = inr (record { assigned = new; index = refl })

-- What is so of a view is so of the one that a wish leaves, if it is so of what is assigned and of what is sent.
pub after_wish : (P : SenderView → Type 0) (f : Format) (v : SenderView) (w : Wish) → P v → ((u : SenderView) → IsAssigned v f u → P u) → ((u : SenderView) (i : ℕ) → P u → P (gone (standing u i)))
    → next_wish f v ≡ Some w → P (gone w)
after_wish P f v w same assigned sent next = by_way w (wished_ways f v w next)
  where
    by_way : (x : Wish) → IsWished f v x → P (gone x)
    by_way _ (Repeated i h) = sent v i same
    by_way _ (Unsent i marks h) = sent v i same
    by_way _ (New u marks unsent new) = sent u (suc (length v.plan.entries)) (assigned u (assigned_cases f v u new))
