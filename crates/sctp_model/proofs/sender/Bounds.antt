-- Where the indexes of a view that calls reach may be: CUM within the plan, all covered up to it, and nothing is said of an index beyond the plan.
use Rattle.std.proofs.Common.{◌≡◌, ℕ, zero, suc, ◌+◌, ◌<◌, ◌≤◌, inl, inr, List, [], ◌∷◌, length, Bool, true, false, Option, Some, None, refl, sym, ap, ◌∙◌, subst, arith, length-append}
use Rattle.std.specs.Prelude.{◌==◌, nat_le, nat_lt, not, ◌&&◌, ◌||◌, if◌then◌else◌, slice_get}
use Rattle.std.proofs.lemmas.Bool.Decides.{nat_tests}
use Rattle.sctp_model.specs.numbers.Lists.{at}
use Rattle.sctp_model.specs.messages.Format.{Format, Lane}
use Rattle.sctp_model.specs.wire.Chunk.{BlockMeaning, SackMeaning}
use Rattle.sctp_model.specs.messages.Plan.{Entry, End, Plan, entry_at, parts_from}
use Rattle.sctp_model.specs.sender.SenderView.{Queued, SenderView}
use Rattle.sctp_model.specs.sender.Assigning.{is_on, without_first, stream_after}
use Rattle.sctp_model.specs.sender.Filling.{Wish, next_wish, gone, with_sent}
use Rattle.sctp_model.specs.messages.Acknowledgement.{in_blocks}
use Rattle.sctp_model.specs.sender.SackTaken.{is_stale, is_beyond, index_of, some_ends_past, sack_covers, covered_by, sack_fault, sack_taken, shutdown_fault, shutdown_taken, Stale, Beyond}
use Rattle.sctp_model.specs.sender.Abandoning.{Name, without, ended, with_abandoned, marking, unsettled_at, is_worn}
use Rattle.sctp_model.specs.sender.Reached.{IsReached, Begins, Queues, Goes, Covers, Closes, Abandons, Repeats, Rebases}
use Rattle.sctp_model.proofs.sender.WishCases.{IsAssigned, Whole, Begun, Continued, assigned_cases, wish_cases}
use Rattle.sctp_model.proofs.sender.AbandonCases.{after_abandon, after_end}
use Rattle.sctp_model.proofs.sender.SetLaws.{IsSet, is_set, AllFilled, is_filled}

pub record IsBounded (v : SenderView) : Type 0 where
  pub within : v.cum ≤ length v.plan.entries
  pub covered : (i : ℕ) → 0 < i → i ≤ v.cum → v.covered i ≡ true
  pub apart : (i : ℕ) → v.covered i ≡ true → v.marked i ≡ false
  pub unsent : (i : ℕ) → length v.plan.entries < i → v.sent i ≡ false
  pub uncovered : (i : ℕ) → length v.plan.entries < i → v.covered i ≡ false
  pub unmarked : (i : ℕ) → length v.plan.entries < i → v.marked i ≡ false

-- ---- a longer plan

bounded_longer : (v : SenderView) (p : Plan) (q : List Queued) (a : Lane → ℕ → Bool) (t : ℕ) → IsBounded v → length v.plan.entries ≤ length p.entries
    → IsBounded (record v { plan = p; queue = q; abandoned = a; turn = t })
bounded_longer v p q a t h le = record {
  within = omega (arith, h.within);
  covered = h.covered;
  apart = h.apart;
  unsent = λ i lt. h.unsent i (omega arith);
  uncovered = λ i lt. h.uncovered i (omega arith);
  unmarked = λ i lt. h.unmarked i (omega arith);
}

-- the plan grows by what is assigned
pub longer : (f : Format) (v u : SenderView) → IsAssigned v f u → length v.plan.entries ≤ length u.plan.entries
longer _ v _ (Whole q rest is) = omega (arith, length-append v.plan.entries (parts_from q.lane (length (v.plan.messages q.lane)) 0 (length q.message.fragments)))
longer _ v _ (Begun s q lt on first) = omega (arith, length-append v.plan.entries (parts_from q.lane (length (v.plan.messages q.lane)) 0 1))
longer _ v _ (Continued s e lt on) = omega (arith, length-append v.plan.entries (e ∷ []))

pub length-parts : (l : Lane) (n k d : ℕ) → length (parts_from l n k d) ≡ d
length-parts l n k zero = refl
length-parts l n k (suc d) = ap suc (length-parts l n (suc k) d)

-- and by one index at least, as no message is empty
grown : (f : Format) (v u : SenderView) → AllFilled v.streams v.queue → IsAssigned v f u → suc (length v.plan.entries) ≤ length u.plan.entries
grown _ v _ full (Whole q rest is) =
    let some = (subst (λ (qs : List Queued). AllFilled v.streams qs) is full).0.0 in
    let d = length q.message.fragments in
    omega (arith, some, length-append v.plan.entries (parts_from q.lane (length (v.plan.messages q.lane)) 0 d), length-parts q.lane (length (v.plan.messages q.lane)) 0 d)
grown _ v _ full (Begun s q lt on first) = omega (arith, length-append v.plan.entries (parts_from q.lane (length (v.plan.messages q.lane)) 0 1))
grown _ v _ full (Continued s e lt on) = omega (arith, length-append v.plan.entries (e ∷ []))

bounded_assigned : (f : Format) (v u : SenderView) → IsBounded v → IsAssigned v f u → IsBounded u
bounded_assigned _ v u h (Whole q rest is) = bounded_longer v _ rest v.abandoned v.turn h (longer _ v _ (Whole q rest is))
bounded_assigned _ v _ h (Begun s q lt on first) = bounded_longer v _ (without_first (is_on s) v.queue) v.abandoned (stream_after v s) h (longer _ v _ (Begun s q lt on first))
bounded_assigned _ v _ h (Continued s e lt on) = bounded_longer v _ v.queue v.abandoned (stream_after v s) h (longer _ v _ (Continued s e lt on))

-- ---- a fragment goes out

at_other : {A : Type 0} (f : ℕ → A) (i j : ℕ) (x : A) → (j ≡ i → ⊥) → at f i x j ≡ f j
at_other f i j x ne = let no : (j == i) ≡ false = grind (arith, nat_tests) in rw no refl

bounded_sent : (v : SenderView) (i : ℕ) → IsBounded v → i ≤ length v.plan.entries → IsBounded (with_sent v i)
bounded_sent v i h le = record {
  within = h.within;
  covered = h.covered;
  apart = λ j on. by_test j (j == i) (h.apart j on);
  unsent = λ j lt. at_other v.sent i j true (λ e. omega arith) ∙ h.unsent j lt;
  uncovered = h.uncovered;
  unmarked = λ j lt. at_other v.marked i j false (λ e. omega arith) ∙ h.unmarked j lt;
}
  where
    by_test : (j : ℕ) (b : Bool) → v.marked j ≡ false → (if b then false else v.marked j) ≡ false
    by_test j true off = refl
    by_test j false off = off

bounded_wish : (f : Format) (v : SenderView) (w : Wish) → IsSet v → AllFilled v.streams v.queue → IsBounded v → next_wish f v ≡ Some w → IsBounded (gone w)
bounded_wish f v w k full h next =
    elim (wish_cases f v w next) [
      | inl r ↦ bounded_sent w.view w.index (subst (λ (x : SenderView). IsBounded x) (sym r.view) h) (let high = r.high in let same = ap (λ (x : SenderView). length x.plan.entries) r.view in omega arith)
      | inr r ↦
          let u = assigned_cases f v w.view r.assigned in
          bounded_sent w.view w.index (bounded_assigned f v w.view h u) (let at = r.index in let more = grown f v w.view full u in omega arith)
    ]

-- ---- the data timer marks what is in the plan

beyond : (es : List Entry) (i : ℕ) → length es ≤ i → slice_get es i ≡ None
beyond [] i le = refl
beyond (e ∷ es) zero le = absurd (omega arith)
beyond (e ∷ es) (suc i) le = beyond es i (omega arith)

pub entry_beyond : (p : Plan) (i : ℕ) → length p.entries < i → entry_at p i ≡ None
entry_beyond p zero lt = absurd (omega arith)
entry_beyond p (suc i) lt = beyond p.entries i (omega arith)

bounded_timed : (v : SenderView) (test : ℕ → Bool) → IsBounded v → IsBounded (marking v test)
bounded_timed v test h = record {
  within = h.within;
  covered = h.covered;
  apart = λ i on. rw (h.apart i on, by_entry i (entry_at v.plan i) on) (off (test i));
  unsent = h.unsent;
  uncovered = h.uncovered;
  unmarked = λ i lt. rw (h.unmarked i lt, entry_beyond v.plan i lt) (off (test i));
}
  where
    off : (b : Bool) → (b && false) ≡ false
    off true = refl
    off false = refl

    by_entry : (i : ℕ) (o : Option Entry) → v.covered i ≡ true → unsettled_at v i o ≡ false
    by_entry i None on = refl
    by_entry i (Some e) on = rw on (both (v.sent i) (is_worn v i e))
      where
        both : (b c : Bool) → ((b && false) && not c) ≡ false
        both true c = refl
        both false c = refl

-- ---- what a SACK or a SHUTDOWN covers lies within the plan

-- if no block ends past the last index, none holds an index past it
past_none : (c last i : ℕ) (blocks : List BlockMeaning) → last < i → some_ends_past last c blocks ≡ false → in_blocks c blocks i ≡ false
past_none c last i [] over none = refl
past_none c last i (b ∷ blocks) over none = by_end (nat_lt last (c + b.end)) refl none (λ rest. past_none c last i blocks over rest)
  where
    by_end : (t : Bool) → nat_lt last (c + b.end) ≡ t → (t || some_ends_past last c blocks) ≡ false → (some_ends_past last c blocks ≡ false → in_blocks c blocks i ≡ false)
        → ((nat_le (c + b.start) i && nat_le i (c + b.end)) || in_blocks c blocks i) ≡ false
    by_end true past rest further = absurd (cc)
    by_end false inside rest further =
        let out : nat_le i (c + b.end) ≡ false = grind (arith, nat_tests) in
        rw (out, further rest) (both_off (nat_le (c + b.start) i))
      where
        both_off : (x : Bool) → ((x && false) || false) ≡ false
        both_off true = refl
        both_off false = refl

-- the cumulative index, and what the blocks hold
pub record IsInside (v : SenderView) (c : ℕ) (bs : List BlockMeaning) : Type 0 where
  pub within : c ≤ length v.plan.entries
  pub ends : some_ends_past (length v.plan.entries) c bs ≡ false

not_beyond : (v : SenderView) (c : ℕ) (bs : List BlockMeaning) → is_beyond v c bs ≡ false → IsInside v c bs
not_beyond v c bs inside = by_last (nat_lt (length v.plan.entries) c) refl inside
  where
    by_last : (t : Bool) → nat_lt (length v.plan.entries) c ≡ t → (t || some_ends_past (length v.plan.entries) c bs) ≡ false → IsInside v c bs
    by_last true past off = absurd (cc)
    by_last false low off = record { within = grind (arith, nat_tests); ends = off }

pub sack_inside : (v : SenderView) (x : SackMeaning) → sack_fault v x ≡ None → IsInside v (index_of v x.cumulative) x.blocks
sack_inside v x none = by_stale (is_stale v x.cumulative) refl
  where
    by_beyond : (b : Bool) → is_stale v x.cumulative ≡ false → is_beyond v (index_of v x.cumulative) x.blocks ≡ b → IsInside v (index_of v x.cumulative) x.blocks
    by_beyond true fresh over = let some : Some Beyond ≡ None = rw (fresh, over) at none in absurd (cc)
    by_beyond false fresh over = not_beyond v (index_of v x.cumulative) x.blocks over

    by_stale : (b : Bool) → is_stale v x.cumulative ≡ b → IsInside v (index_of v x.cumulative) x.blocks
    by_stale true old = let some : Some Stale ≡ None = rw old at none in absurd (cc)
    by_stale false fresh = by_beyond (is_beyond v (index_of v x.cumulative) x.blocks) fresh refl

pub shutdown_inside : (v : SenderView) (wire : ℕ) → shutdown_fault v wire ≡ None → IsInside v (index_of v wire) []
shutdown_inside v wire none = by_stale (is_stale v wire) refl
  where
    by_beyond : (b : Bool) → is_stale v wire ≡ false → is_beyond v (index_of v wire) [] ≡ b → IsInside v (index_of v wire) []
    by_beyond true fresh over = let some : Some Beyond ≡ None = rw (fresh, over) at none in absurd (cc)
    by_beyond false fresh over = not_beyond v (index_of v wire) [] over

    by_stale : (b : Bool) → is_stale v wire ≡ b → IsInside v (index_of v wire) []
    by_stale true old = let some : Some Stale ≡ None = rw old at none in absurd (cc)
    by_stale false fresh = by_beyond (is_beyond v (index_of v wire) []) fresh refl

-- a mark ends if the index is covered
ends_on : (b c : Bool) → c ≡ true → (b && not c) ≡ false
ends_on true c on = rw on refl
ends_on false c on = refl

stays_off : (b c : Bool) → b ≡ false → (b && c) ≡ false
stays_off b c off = rw off refl

-- a view in which CUM moved within the plan, and in which all up to it and nothing beyond the plan is covered
bounded_covered : (v : SenderView) (c r : ℕ) (covered : ℕ → Bool) → IsBounded v → c ≤ length v.plan.entries → ((i : ℕ) → i ≤ c → covered i ≡ true)
    → ((i : ℕ) → length v.plan.entries < i → covered i ≡ false) → IsBounded (record (covered_by v c covered) { rwnd = r })
bounded_covered v c r covered h within low high = record {
  within = within;
  covered = λ i lo hi. low i hi;
  apart = λ i on. ends_on (v.marked i) (covered i) on;
  unsent = h.unsent;
  uncovered = high;
  unmarked = λ i lt. stays_off (v.marked i) (not (covered i)) (h.unmarked i lt);
}

up_to : (c i : ℕ) (rest : Bool) → i ≤ c → (nat_le i c || rest) ≡ true
up_to c i rest le = let on : nat_le i c ≡ true = grind (arith, nat_tests) in rw on refl

past : (c i : ℕ) (rest : Bool) → c < i → rest ≡ false → (nat_le i c || rest) ≡ false
past c i rest lt off = let none : nat_le i c ≡ false = grind (arith, nat_tests) in rw (none, off) refl

bounded_sacked : (v : SenderView) (x : SackMeaning) → IsBounded v → IsInside v (index_of v x.cumulative) x.blocks → IsBounded (sack_taken v x)
bounded_sacked v x h inside =
    let c = index_of v x.cumulative in
    let w = inside.within in
    bounded_covered v c x.rwnd (sack_covers c x.blocks) h inside.within (λ i le. up_to c i (in_blocks c x.blocks i) le)
    (λ i lt. past c i (in_blocks c x.blocks i) (omega arith) (past_none c (length v.plan.entries) i x.blocks lt inside.ends))

bounded_shut : (v : SenderView) (wire : ℕ) → IsBounded v → IsInside v (index_of v wire) [] → IsBounded (shutdown_taken v wire)
bounded_shut v wire h inside =
    let c = index_of v wire in
    let w = inside.within in
    bounded_covered v c v.rwnd (λ i. nat_le i c || v.covered i) h inside.within (λ i le. up_to c i (v.covered i) le) (λ i lt. past c i (v.covered i) (omega arith) (h.uncovered i lt))

-- ---- a message is given up

bounded_given : (v : SenderView) (n : Name) → IsBounded v → IsBounded (with_abandoned v n)
bounded_given v n h =
    let long : length v.plan.entries ≤ length (ended v n).entries = after_end (λ (p : Plan). length v.plan.entries ≤ length p.entries) v n (λ off. omega arith) (λ on. omega (arith, length-append v.plan.entries (End n.lane n.number ∷ []))) in
    record {
      within = omega (arith, h.within);
      covered = h.covered;
      apart = λ i on. stays_off (v.marked i) _ (h.apart i on);
      unsent = λ i lt. h.unsent i (omega arith);
      uncovered = λ i lt. h.uncovered i (omega arith);
      unmarked = λ i lt. stays_off (v.marked i) _ (h.unmarked i (omega arith));
    }

pub is_bounded : (f : Format) (v : SenderView) → IsReached f v → IsBounded v
is_bounded f _ (Begins i s b r p most large) =
    record { within = omega arith; covered = λ j lo hi. absurd (omega arith); apart = λ j on. refl; unsent = λ j lt. refl; uncovered = λ j lt. refl; unmarked = λ j lt. refl }
is_bounded f _ (Queues v l p b u n h free) =
    let k = is_bounded f v h in
    record { within = k.within; covered = k.covered; apart = k.apart; unsent = k.unsent; uncovered = k.uncovered; unmarked = k.unmarked }
is_bounded f _ (Goes v room w h next may) = bounded_wish f v w (is_set f v h) (is_filled f v h) (is_bounded f v h) next
is_bounded f _ (Covers v x h none) = bounded_sacked v x (is_bounded f v h) (sack_inside v x none)
is_bounded f _ (Closes v x h none) = bounded_shut v x (is_bounded f v h) (shutdown_inside v x none)
is_bounded f _ (Abandons v t h) =
    let k = is_bounded f v h in
    after_abandon IsBounded v t k (λ on. bounded_longer v v.plan (without t v.queue) v.abandoned v.turn k (omega arith)) (λ n is kept. bounded_given v n k)
is_bounded f _ (Repeats v test h) = bounded_timed v test (is_bounded f v h)
is_bounded f _ (Rebases v x h) =
    let k = is_bounded f v h in
    record { within = k.within; covered = k.covered; apart = k.apart; unsent = k.unsent; uncovered = k.uncovered; unmarked = k.unmarked }
