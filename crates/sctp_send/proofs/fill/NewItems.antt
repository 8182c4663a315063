-- Items of a message that took its number: those before stay, and its fragments stand behind them, none of them out yet.
use Rattle.std.proofs.Common.{◌≡◌, ℕ, zero, suc, ◌+◌, ◌<◌, List, [], ◌∷◌, ◌++◌, length, drop, refl, ap, arith, length-drop}
use Rattle.std.proofs.lemmas.List.{drop-append-le}
use Rattle.sctp_model.specs.messages.Format.{Format}
use Rattle.sctp_model.specs.messages.Plan.{Entry, Part, Plan, parts_from}
use Rattle.sctp_model.specs.sender.SenderView.{Queued, SenderView}
use Rattle.sctp_model.specs.sender.Assigning.{with_message}
use Rattle.sctp_model.specs.sender.Reached.{IsReached}
use Rattle.sctp_model.proofs.sender.Bounds.{is_bounded}
use Rattle.sctp_model.proofs.sender.WornLaws.{is_limited}
use Rattle.sctp_model.proofs.sender.PlanLaws.{AllNamed, message_new, message_stays}
use Rattle.sctp_model.proofs.sender.CountLaws.{is_named, new_kept}
use Rattle.sctp_send.specs.SenderKept.{Item, Kept}
use Rattle.sctp_send.specs.SenderStands.{item_here, items_from, Keeps}
pub use Rattle.sctp_send.specs.inner.Newcomers.{new_item, new_items}

-- a view in which a message took its number
abbrev pub numbered : SenderView → Queued → (d : ℕ) → List Queued → (turn : ℕ) → SenderView
numbered v q d rest turn = record v { plan = with_message v.plan q d; queue = rest; turn = turn }

pub named_drop : (n : ℕ) (p : Plan) (c : ℕ) (es : List Entry) → AllNamed n p es → AllNamed n p (drop c es)
named_drop n p zero es h = h
named_drop n p (suc c) [] h = h
named_drop n p (suc c) (e ∷ es) h = named_drop n p c es h.1

items_stay : (v : SenderView) (q : Queued) (d : ℕ) (rest : List Queued) (turn i : ℕ) (es : List Entry) → AllNamed v.streams v.plan es → items_from (numbered v q d rest turn) i es ≡ items_from v i es
items_stay v q d rest turn i [] named = refl
items_stay v q d rest turn i (e ∷ es) named = rw (message_stays v.streams v.plan q d e named.0, items_stay v q d rest turn (suc i) es named.1) refl

items_joined : (v : SenderView) (i : ℕ) (es ds : List Entry) → items_from v i (es ++ ds) ≡ items_from v i es ++ items_from v (i + length es) ds
items_joined v i [] ds = let same : i + 0 ≡ i = omega arith in rw same refl
items_joined v i (e ∷ es) ds = let next : suc i + length es ≡ i + suc (length es) = omega arith in rw (← next) (ap (λ (xs : List Item). item_here v i e ∷ xs) (items_joined v (suc i) es ds))

-- nothing is said of an index behind the plan yet
item_new : (f : Format) (v : SenderView) (q : Queued) (d : ℕ) (rest : List Queued) (turn i k : ℕ) → IsReached f v → length v.plan.entries < i
    → item_here (numbered v q d rest turn) i (Part q.lane (length (v.plan.messages q.lane)) k) ≡ new_item (Part q.lane (length (v.plan.messages q.lane)) k) q.message
item_new f v q d rest turn i k h past =
    let b = is_bounded f v h in
    rw (message_new v.plan q d, b.unsent i past, b.unmarked i past, b.uncovered i past, new_kept f v q.lane h, (is_limited f v h).fresh i (b.unsent i past)) refl

items_new : (f : Format) (v : SenderView) (q : Queued) (d : ℕ) (rest : List Queued) (turn i k c : ℕ) → IsReached f v → length v.plan.entries < i
    → items_from (numbered v q d rest turn) i (parts_from q.lane (length (v.plan.messages q.lane)) k c) ≡ new_items q.lane (length (v.plan.messages q.lane)) q.message k c
items_new f v q d rest turn i k zero h past = refl
items_new f v q d rest turn i k (suc c) h past = rw (item_new f v q d rest turn i k h past, items_new f v q d rest turn (suc i) (suc k) c h (omega arith)) refl

pub numbered_items : (f : Format) (s : Kept) (v : SenderView) (q : Queued) (d : ℕ) (rest : List Queued) (turn : ℕ) → Keeps f s v
    → s.items ++ new_items q.lane (length (v.plan.messages q.lane)) q.message 0 d ≡ items_from (numbered v q d rest turn) (suc v.cum) (drop v.cum (with_message v.plan q d).entries)
numbered_items f s v q d rest turn k =
    let u = numbered v q d rest turn in
    let b = is_bounded f v k.reached in
    let es = drop v.cum v.plan.entries in
    let parts = parts_from q.lane (length (v.plan.messages q.lane)) 0 d in
    let long = length-drop v.cum v.plan.entries in
    let w = b.within in
    let past : length v.plan.entries < suc v.cum + length es = omega arith in
    let old = items_stay v q d rest turn (suc v.cum) es (named_drop v.streams v.plan v.cum v.plan.entries (is_named f v k.reached)) in
    let new = items_new f v q d rest turn (suc v.cum + length es) 0 d k.reached past in
    rw (drop-append-le v.cum v.plan.entries parts b.within, items_joined u (suc v.cum) es parts, old, new, k.holds.items) refl
