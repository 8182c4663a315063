-- Laws of a sender's calls: what they abandon, that each has one result, and when the sender is drained.
use Rattle.sctp_model.proofs.sender.ForwardEnd.{end_from, end_upto, end_fits, end_behind, is_end}
use Rattle.std.proofs.Common.{◌≡◌, ℕ, zero, suc, max, take, drop, ◌+◌, ◌-◌, ◌<◌, ◌⊎◌, ◌==◌, ◌&&◌, true, false, Bool, List, [], ◌∷◌, length, Option, Some, None, inl, inr, refl, sym, subst, ap, arith, ◌∙◌}
use Rattle.std.specs.Prelude.{slice_get, option_and_then}
use Rattle.std.proofs.lemmas.Bool.{and_parts}
use Rattle.std.proofs.lemmas.Bool.Decides.{nat_tests}
use Rattle.sctp_model.specs.numbers.Lists.{Has}
use Rattle.sctp_model.specs.messages.Format.{Format, Lane, Ordered, Unordered}
use Rattle.sctp_model.specs.messages.Plan.{Message, Entry, Part, Plan, entry_at, IsAssigned, IsInPart}
use Rattle.sctp_model.specs.messages.Forward.{Skip, Forward, IsLaneBefore, IsListed, IsForward}
use Rattle.sctp_model.specs.sender.SenderView.{Queued, SenderView, IsDrained, IsPoint}
use Rattle.sctp_model.specs.sender.Entries.{entry_lane, continued, one_if_some, sum_below, in_part}
use Rattle.sctp_model.specs.sender.Filling.{Wish, gone, fill, Follows}
use Rattle.sctp_model.specs.sender.Readers.{point, drained}
use Rattle.sctp_model.specs.sender.Forwarding.{skips_below}
use Rattle.sctp_model.specs.sender.Reached.{IsReached, Goes}
use Rattle.sctp_model.proofs.sender.WordLaws.{sum-zero}
use Rattle.sctp_model.proofs.sender.WornLaws.{limit_of, is_limited}
use Rattle.sctp_model.proofs.sender.FillLaws.{goes_parts, one_fill, fill_is_fill}
use Rattle.sctp_model.proofs.sender.PointLaws.{point_is_point}
use Rattle.sctp_model.proofs.sender.ForwardLaws.{forward_between, forward_is_forward, named_at}
use Rattle.sctp_model.proofs.sender.CountLaws.{is_named}
use Rattle.sctp_model.proofs.sender.AbandonedLaws.{filling_abandons_none, sack_abandons_none, shutdown_abandons_none, abandons_by_ticket, expires_past_alone}
use Rattle.sctp_safety.specs.Way.{with_sender}
use Rattle.sctp_safety.specs.SenderCalls.{SameAbandoned, AbandonedOnlyAsked, EachViewHasOneFill, EachViewHasOnePoint, EachPlanHasOneForward, ForwardIsGiven, ForwardEndIsGiven, DrainedIsTold, NoneGoesTooOften}
use Rattle.sctp_safety.proofs.moves.Facts.{Good}
use Rattle.sctp_safety.proofs.plan.PlanLemmas.{assigned_below}
use Rattle.sctp_safety.proofs.plan.InPart.{idle_closed, goes_on_with, not_closed}
use Rattle.sctp_safety.proofs.moves.UsualLemmas.{good_usual}
use Rattle.sctp_safety.proofs.sending.OrderlyCalls.{shadow, IsShadowed, is_shadowed}
use Rattle.sctp_model.proofs.sender.WornAlone.{wears_used_alone}

-- ---- what is abandoned

follows_abandon_none : (f : Format) (v u : SenderView) (room : ℕ) (ws : List Wish) → IsReached f v → Follows f v room ws u → SameAbandoned v u
follows_abandon_none f v u room [] h same = ap (λ (x : SenderView). x.abandoned) same
follows_abandon_none f v u room (w ∷ ws) h (first, rest) =
    let parts = goes_parts f room v w first in
    follows_abandon_none f (gone w) u _ ws (Goes v room w h parts.0 parts.1) rest ∙ filling_abandons_none f v w h parts.0

pub abandoned_only_asked : AbandonedOnlyAsked
abandoned_only_asked f v h = record {
  queueing = λ l payload bytes until limit. refl;
  filling = λ room. follows_abandon_none f v (fill f room v).view room (fill f room v).wishes h (fill_is_fill f room v).follows;
  sack = sack_abandons_none v;
  shutdown = shutdown_abandons_none v;
  marks = λ test. refl;
  abandoning = λ t. abandons_by_ticket f v t h;
  expiring = λ now l n on. elim (expires_past_alone f v now h l n on) [ inl before ↦ inl before | inr past ↦ inr (past.message, past.named, past.past) ];
  wearing = λ test l n on. elim (wears_used_alone f v test h l n on) [ inl before ↦ inl before | inr used ↦ inr (used.message, used.named, (used.limit, used.limited, used.repeated)) ];
}

-- ---- one FORWARD

not_before_itself : (l : Lane) → IsLaneBefore l l → ⊥
not_before_itself l (inl low) = omega (arith, low)
not_before_itself l (inr (same, first, second)) = let clash : Ordered ≡ Unordered = sym first ∙ second in cc

-- two lanes aren't before each other
not_both : (l k : Lane) → IsLaneBefore l k → IsLaneBefore k l → ⊥
not_both l k (inl a) (inl b) = omega (arith, a, b)
not_both l k (inl a) (inr (same, first, second)) = omega (arith, a, same)
not_both l k (inr (same, first, second)) (inl b) = omega (arith, b, same)
not_both l k (inr (same, first, second)) (inr (again, third, fourth)) = let clash : Ordered ≡ Unordered = sym first ∙ fourth in cc

-- in a list two entries of one lane are one
one_of_lane : (xs : List Skip) (a b : Skip) → IsListed xs → Has xs a → Has xs b → a.lane ≡ b.lane → a ≡ b
one_of_lane [] a b listed has also same = absurd has
one_of_lane (x ∷ xs) a b listed (inl e) (inl d) same = sym e ∙ d
one_of_lane (x ∷ xs) a b listed (inl e) (inr d) same =
    absurd (not_before_itself b.lane (subst (λ (l : Lane). IsLaneBefore l b.lane) (ap (λ (y : Skip). y.lane) e ∙ same) (listed.0 b d)))
one_of_lane (x ∷ xs) a b listed (inr e) (inl d) same =
    absurd (not_before_itself a.lane (subst (λ (l : Lane). IsLaneBefore l a.lane) (ap (λ (y : Skip). y.lane) d ∙ sym same) (listed.0 a e)))
one_of_lane (x ∷ xs) a b listed (inr e) (inr d) same = one_of_lane xs a b listed.1 e d same

-- lists with the same entries are one
listed_alike : (xs ys : List Skip) → IsListed xs → IsListed ys → ((a : Skip) → Has xs a → Has ys a) → ((b : Skip) → Has ys b → Has xs b) → xs ≡ ys
listed_alike [] [] a b to from = refl
listed_alike [] (y ∷ ys) a b to from = absurd (from y (inl refl))
listed_alike (x ∷ xs) [] a b to from = absurd (to x (inl refl))
listed_alike (x ∷ xs) (y ∷ ys) a b to from =
    let same = heads (to x (inl refl)) (from y (inl refl)) in
    ap (λ (z : Skip). z ∷ xs) same ∙ ap (λ (zs : List Skip). y ∷ zs) (listed_alike xs ys a.1 b.1 (λ z has. left z same has (to z (inr has))) (λ z has. right z same has (from z (inr has))))
  where
    heads : (y ≡ x) ⊎ Has ys x → (x ≡ y) ⊎ Has xs y → x ≡ y
    heads (inl e) d = sym e
    heads (inr e) (inl d) = d
    heads (inr e) (inr d) = absurd (not_both y.lane x.lane (b.0 x e) (a.0 y d))

    left : (z : Skip) → x ≡ y → Has xs z → (y ≡ z) ⊎ Has ys z → Has ys z
    left z same has (inr rest) = rest
    left z same has (inl this) = absurd (not_before_itself z.lane (subst (λ (u : Skip). IsLaneBefore u.lane z.lane) (same ∙ this) (a.0 z has)))

    right : (z : Skip) → x ≡ y → Has ys z → (x ≡ z) ⊎ Has xs z → Has xs z
    right z same has (inr rest) = rest
    right z same has (inl this) = absurd (not_before_itself z.lane (subst (λ (u : Skip). IsLaneBefore u.lane z.lane) (sym same ∙ this) (b.0 z has)))

-- an entry of the one FORWARD is one of the other: each says the largest number of its lane
has_other : (f : Format) (plan : Plan) (c p : ℕ) (x y : Forward) → IsForward f plan c p x → IsForward f plan c p y → (a : Skip) → Has x.skips a → Has y.skips a
has_other f plan c p x y hx hy a has =
    let b = hy.largest a.lane a.number (hx.numbered a has) (hx.stands a has) in
    let c = hx.largest b.0.lane b.0.number (hy.numbered b.0 b.1) (hy.stands b.0 b.1) in
    let mine : c.0 ≡ a = one_of_lane x.skips c.0 a hx.order c.1 has (c.2 ∙ b.2) in
    let low = b.3 in
    let high = c.3 in
    let top : c.0.number ≡ a.number = ap (λ (z : Skip). z.number) mine in
    let number : b.0.number ≡ a.number = omega (arith, low, high, top) in
    let same : b.0 ≡ a = ap (λ (l : Lane). record { lane = l; number = b.0.number }) b.2 ∙ ap (λ (n : ℕ). record { lane = a.lane; number = n }) number in
    subst (Has y.skips) same b.1

one_forward : (f : Format) (plan : Plan) (c p : ℕ) (x y : Forward) → IsForward f plan c p x → IsForward f plan c p y → x ≡ y
one_forward f plan c p x y hx hy =
    let skips = listed_alike x.skips y.skips hx.order hy.order (has_other f plan c p x y hx hy) (has_other f plan c p y x hy hx) in
    ap (λ (i : ℕ). record { point = i; skips = x.skips }) (hx.point ∙ sym hy.point) ∙ ap (λ (zs : List Skip). record { point = y.point; skips = zs }) skips

-- ---- one result

one_point : (v : SenderView) (p q : ℕ) → IsPoint v p → IsPoint v q → p ≡ q
one_point v p q a b = let low = b.largest p a.from a.abandoned in let high = a.largest q b.from b.abandoned in omega (arith, low, high)

pub each_view_has_one_fill : EachViewHasOneFill
each_view_has_one_fill f v = record {
  fill_is = λ room. fill_is_fill f room v;
  fill_one = λ room ws u is. one_fill f v u (fill f room v).view room ws (fill f room v).wishes is (fill_is_fill f room v);
}

pub each_view_has_one_point : EachViewHasOnePoint
each_view_has_one_point v = record { point_is = point_is_point v; point_one = λ p is. one_point v p (point v) is (point_is_point v) }

-- a number above every stream of these entries
abbrev streams_of : List Entry → ℕ
streams_of [] = 0
streams_of (e ∷ es) = max (suc (entry_lane e).stream) (streams_of es)

below_streams : (es : List Entry) (j : ℕ) (e : Entry) → slice_get es j ≡ Some e → (entry_lane e).stream < streams_of es
below_streams [] j e here = absurd (cc)
below_streams (d ∷ es) zero e here =
    let same : d ≡ e = (let q : Some d ≡ Some e = here in cc) in
    subst (λ (x : Entry). (entry_lane x).stream < streams_of (d ∷ es)) same (omega arith)
below_streams (d ∷ es) (suc j) e here = let low = below_streams es j e here in omega (arith, low)

on_streams : (plan : Plan) (i : ℕ) (e : Entry) → entry_at plan i ≡ Some e → (entry_lane e).stream < streams_of plan.entries
on_streams plan zero e here = absurd (cc)
on_streams plan (suc i) e here = below_streams plan.entries i e here

pub each_plan_has_one_forward : EachPlanHasOneForward
each_plan_has_one_forward f plan c p =
    let x : Forward = record { point = p; skips = skips_below f (take (p - c) (drop c plan.entries)) (streams_of plan.entries) } in
    let is = forward_between f plan c p (streams_of plan.entries) (on_streams plan) in
    record { forward = x; forward_is = is; forward_one = λ y other. one_forward f plan c p y x other is }

pub forward_is_given : ForwardIsGiven
forward_is_given f v p h = forward_is_forward f v p h

pub forward_end_is_given : ForwardEndIsGiven
forward_end_is_given f limit v = (
  record { from = end_from f limit v; upto = end_upto f limit v; fits = end_fits f limit v; behind = end_behind f limit v },
  λ p is. is_end f limit v p is.from is.upto is.fits is.behind,
)

-- ---- drained

-- if no summand counts, no stream has one
none_of_sum : (g : ℕ → ℕ) (n s : ℕ) → sum_below g n ≡ 0 → s < n → g s ≡ 0
none_of_sum g zero s none low = absurd (omega (arith, low))
none_of_sum g (suc n) s none low = by_last (s == n) refl (λ less. none_of_sum g n s (omega (arith, none)) less)
  where
    by_last : (b : Bool) → (s == n) ≡ b → (s < n → g s ≡ 0) → g s ≡ 0
    by_last true last further = let same : s ≡ n = grind (arith, nat_tests) in ap g same ∙ omega (arith, none)
    by_last false other further = further (grind (arith, nat_tests))

none_some : (o : Option Entry) → one_if_some o ≡ 0 → o ≡ None
none_some None is = refl
none_some (Some e) is = absurd (omega (arith, is))

-- a message of the plan is of a stream that is there
stream_there : (f : Format) (v : SenderView) (l : Lane) (n : ℕ) → IsReached f v → IsAssigned v.plan l n 0 → l.stream < v.streams
stream_there f v l n h (zero, here) = absurd (cc)
stream_there f v l n h (suc i, here) = (named_at v.streams v.plan v.plan.entries i (Part l n 0) (is_named f v h) here).stream

pub drained_is_told : DrainedIsTold
drained_is_told f v h = (told, holds)
  where
    k : IsShadowed f v
    k = is_shadowed f v h

    good : Good (with_sender k.base (shadow v))
    good = good_usual (with_sender k.base (shadow v)) k.usual

    -- a message in part is what its stream goes on with
    nothing_open : (l : Lane) (n : ℕ) → in_part v ≡ 0 → IsInPart v.plan l n → ⊥
    nothing_open l n none (first, unclosed) =
        let low = stream_there f v l n h first in
        let idle : continued v.plan l.stream ≡ None = none_some (continued v.plan l.stream) (none_of_sum (λ s. one_if_some (continued v.plan s)) v.streams l.stream none low) in
        let m = good.arranged.within first.0 l n 0 first.1 in
        unclosed (idle_closed k.base.format v.plan good.arranged l.stream idle l n m.0 refl m.1)

    told : drained v ≡ true → IsDrained v
    told is =
        let outer = and_parts (length v.queue == 0) ((in_part v == 0) && (v.cum == length v.plan.entries)) is in
        let inner = and_parts (in_part v == 0) (v.cum == length v.plan.entries) outer.1 in
        let empty = outer.0 in
        let parts = inner.0 in
        let last = inner.1 in
        record {
          queue = no_length v.queue (grind (arith, empty, nat_tests));
          finished = λ l n open_now. nothing_open l n (grind (arith, parts, nat_tests)) open_now;
          acknowledged = grind (arith, last, nat_tests);
        }
      where
        no_length : (qs : List Queued) → length qs ≡ 0 → qs ≡ []
        no_length [] none = refl
        no_length (q ∷ qs) none = absurd (omega (arith, none))

    -- if a stream goes on, a message is in part
    idle_all : ((l : Lane) (n : ℕ) → IsInPart v.plan l n → ⊥) → (s : ℕ) (o : Option Entry) → continued v.plan s ≡ o → one_if_some o ≡ 0
    idle_all none s None is = refl
    idle_all none s (Some e) is =
        let g = goes_on_with k.base.format v.plan good.arranged k.usual.order.ends s e is in
        let first = assigned_below k.base.format v.plan good.arranged g.lane g.number 0 g.fragment (subst (λ (j : ℕ). IsAssigned v.plan g.lane g.number j) (let zeroed : g.fragment ≡ 0 + g.fragment = omega arith in zeroed) g.has) in
        absurd (none g.lane g.number (first, λ closed. not_closed v.plan s e g closed))

    holds : IsDrained v → drained v ≡ true
    holds d =
        let empty = d.queue in
        let parts : in_part v ≡ 0 = sum-zero (λ s. one_if_some (continued v.plan s)) v.streams (λ s. idle_all d.finished s (continued v.plan s) refl) in
        let last = d.acknowledged in
        let self : (length v.plan.entries == length v.plan.entries) ≡ true = grind (arith, nat_tests) in
        rw (empty, parts, last, self) refl

-- ---- limits

pub none_goes_too_often : NoneGoesTooOften
none_goes_too_often f v i k e m h on here named limit =
    (is_limited f v h).most on i k
    (ap (limit_of v.plan) here ∙ ap (λ (o : Option Message). option_and_then (λ x. x.limit) o) named ∙ limit)
