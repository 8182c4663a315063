-- A message that begins has the fragments that take their indexes, and its stream has nothing in part: that goes first.
use Rattle.std.proofs.Common.{◌≡◌, ℕ, zero, suc, ◌<◌, ◌≤◌, List, [], ◌∷◌, ◌++◌, length, drop, Bool, true, false, Some, None, refl, sym, ap, ◌∙◌, subst, arith}
use Rattle.std.specs.Prelude.{nat_lt, ◌==◌, if◌then◌else◌}
use Rattle.std.proofs.lemmas.Bool.Decides.{nat_tests}
use Rattle.sctp_model.specs.messages.Format.{Format, Plain, Lane}
use Rattle.sctp_model.specs.messages.Plan.{Message, Entry, Part, End, Plan, message_at, parts_from}
use Rattle.sctp_model.specs.sender.SenderView.{Queued, SenderView}
use Rattle.sctp_model.specs.sender.Words.{when}
use Rattle.sctp_model.specs.sender.Entries.{continued}
use Rattle.sctp_model.specs.sender.Assigning.{with_message, with_entry, first_on}
use Rattle.sctp_model.specs.sender.Reached.{IsReached, Begins, Queues, Goes, Covers, Closes, Abandons, Repeats, Rebases}
use Rattle.sctp_model.proofs.sender.WishCases.{IsAssigned, Whole, Begun, Continued, assigned_cases, after_wish}
use Rattle.sctp_model.proofs.sender.AbandonCases.{after_abandon, after_end}
use Rattle.sctp_model.proofs.sender.SetLaws.{AllFilled, is_filled}
use Rattle.sctp_model.proofs.sender.PlanLaws.{AllNamed, message_new, continued_is, continued_new, continued_more}
use Rattle.sctp_model.proofs.sender.CountLaws.{is_named}
use Rattle.sctp_model.proofs.sender.OwedLaws.{first_stream}
use Rattle.sctp_model.proofs.sender.Bounds.{length-parts}
use Rattle.sctp_send.specs.inner.Newcomers.{without_place, IsBegun}
use Rattle.sctp_send.proofs.fill.NewItems.{numbered}

-- ---- under DATA nothing is in part

-- no stream goes on with a message
abbrev IsIdle : SenderView → Type 0
IsIdle v = (s : ℕ) → continued v.plan s ≡ None

idle_assigned : (f : Format) (v u : SenderView) → f ≡ Plain → AllFilled v.streams v.queue → AllNamed v.streams v.plan v.plan.entries → IsIdle v → IsAssigned v f u → IsIdle u
idle_assigned _ v _ plain full named idle (Whole q rest is) s = by_count (length q.message.fragments) refl (subst (λ (qs : List Queued). AllFilled v.streams qs) is full).0.0
  where
    by_stream : (b : Bool) (e : Entry) (d : ℕ) → (if b then when (nat_lt (suc d) (suc d)) e else continued v.plan s) ≡ None
    by_stream true e d = let not_less : nat_lt (suc d) (suc d) ≡ false = grind (arith, nat_tests) in rw not_less refl
    by_stream false e d = idle s

    by_count : (d : ℕ) → length q.message.fragments ≡ d → 0 < length q.message.fragments → continued (with_message v.plan q (length q.message.fragments)) s ≡ None
    by_count zero long some = absurd (omega arith)
    by_count (suc d) long some =
        let new = continued_new v.streams v.plan q d s named in
        rw long (new ∙ rw long (by_stream (q.lane.stream == s) (Part q.lane (length (v.plan.messages q.lane)) (suc d)) d))
idle_assigned _ v _ plain full named idle (Begun j q lt on first) s = absurd (cc)
idle_assigned _ v _ plain full named idle (Continued j e lt on) s = absurd (cc)

idle_ended : (p : Plan) (l : Lane) (n : ℕ) → ((s : ℕ) → continued p s ≡ None) → (s : ℕ) → continued (with_entry p (End l n)) s ≡ None
idle_ended p l n idle s = continued_more p (End l n) s ∙ by_stream (l.stream == s)
  where
    by_stream : (b : Bool) → (if b then None else continued p s) ≡ None
    by_stream true = refl
    by_stream false = idle s

is_idle : (f : Format) (v : SenderView) → f ≡ Plain → IsReached f v → IsIdle v
is_idle f _ plain (Begins i s b r p most large) = λ j. refl
is_idle f _ plain (Queues v l p b u n h free) = is_idle f v plain h
is_idle f _ plain (Goes v room w h next may) =
    let k = is_idle f v plain h in
    after_wish IsIdle f v w k (λ u a. idle_assigned f v u plain (is_filled f v h) (is_named f v h) k a) (λ u i held. held) next
is_idle f _ plain (Covers v x h none) = is_idle f v plain h
is_idle f _ plain (Closes v x h none) = is_idle f v plain h
is_idle f _ plain (Abandons v t h) =
    let k = is_idle f v plain h in
    after_abandon IsIdle v t k (λ on. k) (λ n is kept. after_end (λ (p : Plan). (s : ℕ) → continued p s ≡ None) v n (λ off. k) (λ on. idle_ended v.plan n.lane n.number k))
is_idle f _ plain (Repeats v test h) = is_idle f v plain h
is_idle f _ plain (Rebases v x h) = is_idle f v plain h

-- ---- the message that begins

drop_behind : (es ds : List Entry) → drop (length es) (es ++ ds) ≡ ds
drop_behind [] ds = refl
drop_behind (e ∷ es) ds = drop_behind es ds

-- plans that grew alike
record IsSameMessage (q m : Queued) (d e : ℕ) : Type 0 where
  count : d ≡ e
  lane : q.lane ≡ m.lane
  message : q.message ≡ m.message

same_message : (p : Plan) (q m : Queued) (d e : ℕ) → with_message p q d ≡ with_message p m (suc e) → IsSameMessage q m d (suc e)
same_message p q m d e is = by_count d refl
  where
    lq : ℕ
    lq = length (p.messages q.lane)

    lm : ℕ
    lm = length (p.messages m.lane)

    parts : parts_from q.lane lq 0 d ≡ parts_from m.lane lm 0 (suc e)
    parts = sym (drop_behind p.entries (parts_from q.lane lq 0 d)) ∙ ap (λ (x : Plan). drop (length p.entries) x.entries) is ∙ drop_behind p.entries (parts_from m.lane lm 0 (suc e))

    count : d ≡ suc e
    count = sym (length-parts q.lane lq 0 d) ∙ ap (λ (es : List Entry). length es) parts ∙ length-parts m.lane lm 0 (suc e)

    by_count : (c : ℕ) → d ≡ c → IsSameMessage q m d (suc e)
    by_count zero none = absurd (omega (arith, count, none))
    by_count (suc c) some =
        let heads : parts_from q.lane lq 0 (suc c) ≡ parts_from m.lane lm 0 (suc e) = subst (λ (n : ℕ). parts_from q.lane lq 0 n ≡ parts_from m.lane lm 0 (suc e)) some parts in
        let first : Part q.lane lq 0 ≡ Part m.lane lm 0 = cc in
        let lane : q.lane ≡ m.lane = cc in
        let number : lq ≡ lm = cc in
        let said = sym (message_new p q d) ∙ ap (λ (x : Plan). message_at x q.lane lq) is ∙ ap (λ (l : Lane). message_at (with_message p m (suc e)) l lq) lane
        ∙ ap (λ (n : ℕ). message_at (with_message p m (suc e)) m.lane n) number ∙ message_new p m (suc e) in
        record { count = count; lane = lane; message = cc }

-- it has so many fragments, and its stream is idle
pub record IsReady (v : SenderView) (m : Queued) (count : ℕ) : Type 0 where
  pub within : count ≤ length m.message.fragments
  pub idle : continued v.plan m.lane.stream ≡ None

first_filled : (n s : ℕ) (q : Queued) (qs : List Queued) → AllFilled n qs → first_on s qs ≡ Some q → 0 < length q.message.fragments
first_filled n s q [] full is = absurd (cc)
first_filled n s q (x ∷ qs) full is = by_test (x.lane.stream == s) refl (λ there. first_filled n s q qs full.1 there)
  where
    by_test : (b : Bool) → (x.lane.stream == s) ≡ b → (first_on s qs ≡ Some q → 0 < length q.message.fragments) → 0 < length q.message.fragments
    by_test true on further = let here : Some x ≡ Some q = rw on at is in let same : x ≡ q = cc in subst (λ (y : Queued). 0 < length y.message.fragments) same full.0.0
    by_test false on further = further (rw on at is)

ready_assigned : (f : Format) (v u : SenderView) (m : Queued) (less turn : ℕ) (rest : List Queued) → IsReached f v → IsAssigned v f u → u ≡ numbered v m (suc less) rest turn → IsReady v m (suc less)
ready_assigned _ v _ m less turn rest h (Whole q others is) led =
    let same = same_message v.plan q m (length q.message.fragments) less (ap (λ (x : SenderView). x.plan) led) in
    let long = ap (λ (x : Message). length x.fragments) same.message in
    record { within = omega (arith, same.count, long); idle = is_idle Plain v refl h m.lane.stream }
ready_assigned f v _ m less turn rest h (Begun s q lt idle first) led =
    let same = same_message v.plan q m 1 less (ap (λ (x : SenderView). x.plan) led) in
    let long = ap (λ (x : Message). length x.fragments) same.message in
    let some = first_filled v.streams s q v.queue (is_filled f v h) first in
    let stream = ap (λ (l : Lane). l.stream) (sym same.lane) ∙ first_stream s q v.queue first in
    record { within = omega (arith, same.count, long, some); idle = ap (continued v.plan) stream ∙ idle }
ready_assigned f v _ m less turn rest h (Continued s e lt on) led =
    let next = continued_is v.streams v.plan s e (is_named f v h) on in
    let n = length (v.plan.messages m.lane) in
    let one : e ∷ [] ≡ Part m.lane n 0 ∷ parts_from m.lane n 1 less = sym (drop_behind v.plan.entries (e ∷ [])) ∙ ap (λ (x : SenderView). drop (length v.plan.entries) x.plan.entries) led ∙ drop_behind v.plan.entries (parts_from m.lane n 0 (suc less)) in
    let first : e ≡ Part m.lane n 0 = cc in
    let fragments : Part m.lane n 0 ≡ Part next.lane next.number (suc next.fragment) = sym first ∙ next.is in
    absurd (cc)

pub ready : (f : Format) (v : SenderView) (place count turn : ℕ) → IsReached f v → (b : IsBegun f v place count turn) → IsReady v b.message count
ready f v place count turn h b =
    let led = b.assigned ∙ ap (λ (n : ℕ). Some (numbered v b.message n (without_place place v.queue) turn)) b.some in
    subst (λ (n : ℕ). IsReady v b.message n) (sym b.some)
    (ready_assigned f v (numbered v b.message (suc b.less) (without_place place v.queue) turn) b.message b.less turn (without_place place v.queue) h (assigned_cases f v _ led) refl)
