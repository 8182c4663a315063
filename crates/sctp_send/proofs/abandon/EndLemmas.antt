-- A message with a number that is abandoned: what is kept after it, where it was in part and where it wasn't.
use Rattle.std.proofs.Common.{◌≤◌, ◌≡◌, ℕ, zero, suc, ◌+◌, ◌-◌, ◌%◌, ◌^◌, ◌<◌, List, [], ◌∷◌, ◌++◌, length, map, drop, set, Bool, true, false, Option, Some, None, refl, sym, ap, ◌∙◌, arith, append-nil, length-append, length-drop}
use Rattle.std.specs.Prelude.{not, ◌&&◌, min, if◌then◌else◌, slice_get}
use Rattle.std.proofs.lemmas.List.{length-map, drop-append-le}
use Rattle.sctp_model.specs.messages.Format.{Format, Lane, ordered_lane, unordered_lane}
use Rattle.sctp_model.specs.messages.Plan.{Message, Entry, Part, End, Plan, message_at}
use Rattle.sctp_model.specs.sender.Assigning.{with_entry}
use Rattle.sctp_model.specs.sender.SenderView.{SenderView}
use Rattle.sctp_model.specs.sender.Entries.{entry_message, is_of, is_in_part, passes_at, continued, fragments_from}
use Rattle.sctp_model.specs.sender.Queueing.{owed_for, owed_by_queue, owed_by_parts}
use Rattle.sctp_model.specs.sender.Abandoning.{Name, has_ticket, is_covered, with_abandoned, abandon_after}
use Rattle.sctp_model.specs.sender.Reached.{IsReached, Abandons}
use Rattle.sctp_model.proofs.sender.Bounds.{is_bounded}
use Rattle.sctp_model.proofs.sender.WornLaws.{is_limited}
use Rattle.sctp_model.proofs.sender.CountLaws.{is_named}
use Rattle.sctp_model.proofs.sender.WordLaws.{sum-same}
use Rattle.sctp_model.proofs.sender.PointLaws.{get-drop}
use Rattle.sctp_model.proofs.sender.PartLaws.{ended_here, ended_there, in_part_is, with_end}
use Rattle.sctp_model.proofs.sender.OwedLaws.{fewer_owed}
use Rattle.sctp_model.proofs.sender.TicketLaws.{is_ticketed}
use Rattle.sctp_model.proofs.sender.NameLaws.{goes_on_with, goes_on_stream}
use Rattle.sctp_model.proofs.sender.AbandonCases.{given_itself}
use Rattle.sctp_send.specs.SenderKept.{Item, Rest, Track, Kept}
use Rattle.sctp_send.specs.SenderStands.{item_here, items_from, table, rest_here, track_here, Keeps}
use Rattle.sctp_send.specs.inner.Walks.{any_rest, rest_has, end_item, EndsAt}
use Rattle.sctp_send.specs.inner.Expiring.{rest_messages}
use Rattle.sctp_send.specs.inner.Dues.{some_late, is_asleep}
use Rattle.sctp_send.specs.declared.kept.message.Fate.TheVariants.{Abandoned as WasAbandoned}
use Rattle.sctp_send.proofs.forward.StillForward.{still_forward}
use Rattle.sctp_send.proofs.TableLemmas.{table-set, table-same}
use Rattle.sctp_send.proofs.TicketLemmas.{kept_goes_on}
use Rattle.sctp_send.proofs.CountedLemmas.{counted_gone}
use Rattle.sctp_send.proofs.OverLemmas.{same_items, no_item_one, no_rest_set, no_rest_there}
use Rattle.sctp_send.proofs.DueLemmas.{late_abandoned, late_items_more, late_end, late_rest_set}
use Rattle.sctp_send.proofs.abandon.AbandonedLemmas.{abandoned_item, all_own_drop, same_messages, same_entry_message, abandoned-items_from, abandoned_fates, IsKept, abandoned_after}

-- ---- abandoned: what stands above CUM

items_joined : (v : SenderView) (i : ℕ) (es ds : List Entry) → items_from v i (es ++ ds) ≡ items_from v i es ++ items_from v (i + length es) ds
items_joined v i [] ds = let same : i + 0 ≡ i = omega arith in rw same refl
items_joined v i (e ∷ es) ds = let same : suc i + length es ≡ i + suc (length es) = omega arith in rw (← same) (ap (λ (xs : List Item). item_here v i e ∷ xs) (items_joined v (suc i) es ds))

items_left_abandoned : (f : Format) (s : Kept) (v : SenderView) (t : ℕ) (n : Name) → Keeps f s v → IsKept v t n → map (abandoned_item t) s.items ≡ items_from (with_abandoned v n) (suc v.cum) (drop v.cum v.plan.entries)
items_left_abandoned f s v t n k m =
    let own = all_own_drop v.plan v.tickets v.cum v.plan.entries v.plan.entries (is_ticketed f v k.reached).owned in
    ap (map (abandoned_item t)) k.holds.items
    ∙ abandoned-items_from f v t n (suc v.cum) (drop v.cum v.plan.entries) k.reached m.named own (λ j lt. let next : suc v.cum + j ≡ suc (v.cum + j) = omega arith in rw next (get-drop v.cum v.plan.entries j))

-- each item stays that of its message
abandoned_message : (t : ℕ) (x : Item) → (abandoned_item t x).message ≡ x.message
abandoned_message t x = grind arith

-- ---- abandoned: what streams go on with

-- what is owed on a stream
abbrev owed_at : Plan → ℕ → ℕ
owed_at p j = owed_for (fragments_from p (continued p j))

-- the plan names the same messages
rest_same : (v : SenderView) (n : Name) (o : Option Entry) → rest_here (with_abandoned v n).plan o ≡ rest_here v.plan o
rest_same v n None = refl
rest_same v n (Some e) = ap (λ (m : Option Message). Some (record { entry = e; message = m })) (same_entry_message v n e)

-- a stream, by what it goes on with
abbrev track_with : SenderView → ℕ → (Lane → List Message) → Option Rest → Track
track_with v j ms r = record { ordered = length (ms (ordered_lane j)); unordered = length (ms (unordered_lane j)); rest = r }

tracked : (v : SenderView) (n : Name) (j : ℕ) (o : Option Entry) → continued (with_abandoned v n).plan j ≡ o → track_here (with_abandoned v n) j ≡ track_with v j v.plan.messages (rest_here v.plan o)
tracked v n j o is =
    ap (λ (ms : Lane → List Message). track_with v j ms (rest_here (with_abandoned v n).plan (continued (with_abandoned v n).plan j))) (same_messages v n)
    ∙ ap (track_with v j v.plan.messages) (ap (rest_here (with_abandoned v n).plan) is ∙ rest_same v n o)

track_same : (v : SenderView) (n : Name) (j : ℕ) → continued (with_abandoned v n).plan j ≡ continued v.plan j → track_here (with_abandoned v n) j ≡ track_here v j
track_same v n j same = tracked v n j (continued v.plan j) same

closed_track : (v : SenderView) (n : Name) (j : ℕ) (x : Track) → x ≡ track_here v j → continued (with_abandoned v n).plan j ≡ None → track_here (with_abandoned v n) j ≡ record x { rest = None }
closed_track v n j x is none = tracked v n j None none ∙ ap (λ (y : Track). record y { rest = None }) (sym is)

some_same : {A : Type 0} {x y : A} → Some x ≡ Some y → x ≡ y
some_same is = cc

pub get-table : {A : Type 0} (f : ℕ → A) (i n k : ℕ) (x : A) → slice_get (table f i n) k ≡ Some x → (k < n) × (x ≡ f (i + k))
get-table f i zero k x is = absurd (cc)
get-table f i (suc n) zero x is = let same : i + 0 ≡ i = omega arith in (omega arith, rw same (some_same (sym is)))
get-table f i (suc n) (suc k) x is = let rest = get-table f (suc i) n k x is in let same : suc i + k ≡ i + suc k = omega arith in (let lt = rest.0 in omega arith, rest.1 ∙ ap f same)

rest_is : (p : Plan) (r : Rest) (o : Option Entry) → rest_here p o ≡ Some r → (e : Entry) × (o ≡ Some e) × (r ≡ record { entry = e; message = entry_message p e })
rest_is p r None is = absurd (cc)
rest_is p r (Some e) is = (e, refl, some_same (sym is))

any_there : (t : ℕ) (xs : List Track) (at : ℕ) (x : Track) → slice_get xs at ≡ Some x → rest_has t x.rest ≡ true → any_rest t xs ≡ true
any_there t [] at x is on = absurd (cc)
any_there t (y ∷ xs) zero x is on = grind (arith, is, on)
any_there t (y ∷ xs) (suc at) x is on = grind (arith, any_there t xs at x)

-- the view with it abandoned, where its stream doesn't go on with it
pub keeps_abandoned : (f : Format) (s : Kept) (v : SenderView) (t : ℕ) (n : Name) → Keeps f s v → IsKept v t n → is_covered v n ≡ false → v.partial ≡ true → length s.fates < 2 ^ 64 → any_rest t s.tracks ≡ false
    → Keeps f (record s { items = map (abandoned_item t) s.items; fates = set s.fates (t - 1) WasAbandoned; abandoned = (s.abandoned + 1) % 2 ^ 64 }) (abandon_after v t)
keeps_abandoned f s v t n k m off partial few none =
    let u = with_abandoned v n in
    let part : is_in_part v n.lane n.number ≡ false = sym (kept_goes_on f s v t n k m.named) ∙ none in
    let plan : u.plan ≡ v.plan = ap (λ (b : Bool). if b then with_entry v.plan (End n.lane n.number) else v.plan) part in
    let entries : u.plan.entries ≡ v.plan.entries = ap (λ (p : Plan). p.entries) plan in
    let goes_on : (j : ℕ) → continued u.plan j ≡ continued v.plan j = λ j. ap (λ (p : Plan). continued p j) plan in
    let long = length-map s.items (abandoned_item t) in
    let owed = sum-same (λ j. owed_at u.plan j) (λ j. owed_at v.plan j) v.streams (λ j lt. ap (λ (p : Plan). owed_at p j) plan) in
    let items : map (abandoned_item t) s.items ≡ items_from u (suc v.cum) (drop v.cum u.plan.entries) =
    items_left_abandoned f s v t n k m ∙ ap (λ (es : List Entry). items_from u (suc v.cum) (drop v.cum es)) (sym entries) in
    let tracks : s.tracks ≡ table (track_here u) 0 v.streams = k.holds.tracks ∙ table-same (track_here v) (track_here u) 0 v.streams (λ j lo hi. sym (track_same v n j (goes_on j))) in
    let fates = abandoned_fates f s v t n k m.named m.low m.high in
    let room = k.holds.room in
    let space : length (map (abandoned_item t) s.items) + (owed_by_queue v.queue + owed_by_parts u) ≤ s.capacity = omega (arith, long, owed, room) in
    let after = abandoned_after v t n m off partial in
    let reached = Abandons v t k.reached in
    rw after (record {
      holds = assumption (k.holds, items, tracks, fates, space);
      over = record { within = k.over.within; each = λ x le. let o = k.over.each x le in record { queue = o.queue; tracks = o.tracks; items = same_items x (abandoned_item t) s.items (abandoned_message t) ∙ o.items } };
      due = record { many = k.due.many; each = λ x now lt. let i = k.due.each x now lt in record { queue = i.queue; items = λ on. late_abandoned now x t (is_asleep s x) s.items (i.items on); tracks = i.tracks } };
      forward = still_forward f v.resets.base v.streams v.plan.entries [] u.plan.entries s.forward (entries ∙ sym (append-nil v.plan.entries)) k.forward;
      resets = k.resets;
      before = k.before;
      counted = counted_gone f s v t n k m.waits m.named m.kept m.low m.high few;
      limits = k.limits;
      reached = rw after at reached;
    })

-- its end mark
end_here : (f : Format) (v : SenderView) (t : ℕ) (n : Name) (i : ℕ) → IsReached f v → length v.plan.entries < i → item_here (with_abandoned v n) i (End n.lane n.number)
    ≡ record { entry = End n.lane n.number; message = message_at v.plan n.lane n.number; sent = false; marked = false; covered = false; abandoned = true; repeats = 0 }
end_here f v t n i h past =
    let b = is_bounded f v h in
    ap (λ (r : ℕ). record (item_here (with_abandoned v n) i (End n.lane n.number)) { repeats = min r 65535 }) ((is_limited f v h).fresh i (b.unsent i past))
    ∙ item_alike _ _ _ _ _ _ _ _ _ _ (same_entry_message v n (End n.lane n.number)) (b.unsent i past) (ap (λ (m : Bool). m && not (passes_at v.plan (λ j e. is_of n.lane n.number e) i)) (b.unmarked i past)) (b.uncovered i past) (given_itself v n)
  where
    item : Option Message → Bool → Bool → Bool → Bool → Item
    item m sent marked covered b = record { entry = End n.lane n.number; message = m; sent = sent; marked = marked; covered = covered; abandoned = b; repeats = 0 }

    item_alike : (m k : Option Message) (a b c d x y g h : Bool) → m ≡ k → a ≡ b → c ≡ d → x ≡ y → g ≡ h → item m a c x g ≡ item k b d y h
    item_alike m k a b c d x y g h p q r z w =
        ap (λ (o : Option Message). item o a c x g) p ∙ ap (λ (o : Bool). item k o c x g) q ∙ ap (λ (o : Bool). item k b o x g) r ∙ ap (λ (o : Bool). item k b d o g) z ∙ ap (item k b d y) w

-- the view with it abandoned, where its stream goes on with it
pub keeps_ended : (f : Format) (s : Kept) (v : SenderView) (t : ℕ) (n : Name) (r : Rest) (tracks : List Track) → Keeps f s v → IsKept v t n → is_covered v n ≡ false → v.partial ≡ true → length s.fates < 2 ^ 64 → EndsAt t r s.tracks tracks
    → (length s.items < s.capacity) × Keeps f (record s { items = map (abandoned_item t) s.items ++ end_item r ∷ []; fates = set s.fates (t - 1) WasAbandoned; abandoned = (s.abandoned + 1) % 2 ^ 64; tracks = tracks }) (abandon_after v t)
keeps_ended f s v t n r tracks k m off partial few ends =
    let u = with_abandoned v n in
    let read : slice_get (table (track_here v) 0 v.streams) ends.at ≡ Some ends.track = rw k.holds.tracks at ends.there in
    let at_is = get-table (track_here v) 0 v.streams ends.at ends.track read in
    let track : ends.track ≡ track_here v ends.at = let same : 0 + ends.at ≡ ends.at = omega arith in at_is.1 ∙ ap (track_here v) same in
    let there : rest_here v.plan (continued v.plan ends.at) ≡ Some r = ap (λ (x : Track). x.rest) (sym track) ∙ ends.rest in
    let next = rest_is v.plan r (continued v.plan ends.at) there in
    let mine : goes_on_with v.plan t (continued v.plan ends.at) ≡ true = rw (next.1, ← ap (λ (x : Rest). x.message) next.2) ends.mine in
    let stream = goes_on_stream f v t ends.at n k.reached m.named mine in
    let part : is_in_part v n.lane n.number ≡ true = sym (kept_goes_on f s v t n k m.named) ∙ any_there t s.tracks ends.at ends.track ends.there (ap (rest_has t) ends.rest ∙ ends.mine) in
    let named = is_named f v k.reached in
    let is = in_part_is v n named part in
    let entry : next.0 ≡ Part n.lane n.number (suc is.0) = some_same (sym next.1 ∙ ap (continued v.plan) (sym stream) ∙ is.1) in
    let mark : end_item r ≡ record { entry = End n.lane n.number; message = message_at v.plan n.lane n.number; sent = false; marked = false; covered = false; abandoned = true; repeats = 0 } =
    ap end_item (next.2 ∙ ap (λ (e : Entry). record { entry = e; message = entry_message v.plan e }) entry) in
    let plan : u.plan ≡ with_end v.plan n = ap (λ (b : Bool). if b then with_entry v.plan (End n.lane n.number) else v.plan) part in
    let bound = is_bounded f v k.reached in
    let entries : drop v.cum u.plan.entries ≡ drop v.cum v.plan.entries ++ End n.lane n.number ∷ [] =
    ap (λ (p : Plan). drop v.cum p.entries) plan ∙ drop-append-le v.cum v.plan.entries (End n.lane n.number ∷ []) bound.within in
    let past : length v.plan.entries < suc v.cum + length (drop v.cum v.plan.entries) = omega (arith, length-drop v.cum v.plan.entries, bound.within) in
    let items : map (abandoned_item t) s.items ++ end_item r ∷ [] ≡ items_from u (suc v.cum) (drop v.cum u.plan.entries) =
    rw (items_left_abandoned f s v t n k m, entries, items_joined u (suc v.cum) (drop v.cum v.plan.entries) (End n.lane n.number ∷ []))
    (ap (λ (x : Item). items_from u (suc v.cum) (drop v.cum v.plan.entries) ++ x ∷ []) (mark ∙ sym (end_here f v t n (suc v.cum + length (drop v.cum v.plan.entries)) k.reached past))) in
    let low : n.lane.stream < v.streams = omega (arith, at_is.0, stream) in
    let here : continued u.plan ends.at ≡ None = ap (λ (p : Plan). continued p ends.at) plan ∙ ap (continued (with_end v.plan n)) (sym stream) ∙ ended_here v.plan n in
    let other : (j : ℕ) → (j ≡ ends.at → ⊥) → continued u.plan j ≡ continued v.plan j = λ j apart. ap (λ (p : Plan). continued p j) plan ∙ ended_there v.plan n j (λ e. apart (e ∙ stream)) in
    let closed : track_here u (0 + ends.at) ≡ record ends.track { rest = None } = let same : 0 + ends.at ≡ ends.at = omega arith in ap (track_here u) same ∙ closed_track v n ends.at ends.track track here in
    let now : tracks ≡ table (track_here u) 0 v.streams =
    ends.now ∙ rw (k.holds.tracks, table-set (track_here v) (track_here u) 0 v.streams ends.at at_is.0 (λ j lo hi apart. track_same v n j (other j (λ e. apart (omega arith)))), closed) refl in
    let long = length-map s.items (abandoned_item t) in
    let more = length-append (map (abandoned_item t) s.items) (end_item r ∷ []) in
    let fewer = fewer_owed v n named low part in
    let parts = sum-same (λ j. owed_at u.plan j) (λ j. owed_at (with_end v.plan n) j) v.streams (λ j lt. ap (λ (p : Plan). owed_at p j) plan) in
    let fates = abandoned_fates f s v t n k m.named m.low m.high in
    let room = k.holds.room in
    let space : length (map (abandoned_item t) s.items ++ end_item r ∷ []) + (owed_by_queue v.queue + owed_by_parts u) ≤ s.capacity = omega (arith, long, more, fewer, parts, room) in
    let after = abandoned_after v t n m off partial in
    let reached = Abandons v t k.reached in (
      omega (arith, fewer, room),
      rw after (record {
        holds = assumption (k.holds, items, now, fates, space);
        over = record {
          within = k.over.within;
          each = λ x le.
              let o = k.over.each x le in
              let other : has_ticket x r.message ≡ false = ap (rest_has x) (sym ends.rest) ∙ no_rest_there x ends.at s.tracks ends.track ends.there o.tracks in
              record {
                queue = o.queue;
                tracks = ap (any_rest x) ends.now ∙ no_rest_set x ends.at s.tracks (record ends.track { rest = None }) o.tracks refl;
                items = no_item_one x (map (abandoned_item t) s.items) (end_item r) (same_items x (abandoned_item t) s.items (abandoned_message t) ∙ o.items) other;
              };
        };
        due = record {
          many = k.due.many;
          each = λ x now lt.
              let i = k.due.each x now lt in
              record {
                queue = i.queue;
                items = λ on. late_items_more now x (is_asleep s x) (map (abandoned_item t) s.items) (end_item r ∷ []) (late_abandoned now x t (is_asleep s x) s.items (i.items on)) (late_end now x (is_asleep s x) r);
                tracks = λ on. ap (λ (ts : List Track). some_late now x (rest_messages ts)) ends.now ∙ late_rest_set now x ends.at s.tracks (record ends.track { rest = None }) (i.tracks on) refl;
              };
        };
        forward = still_forward f v.resets.base v.streams v.plan.entries (End n.lane n.number ∷ []) u.plan.entries s.forward (ap (λ (p : Plan). p.entries) plan) k.forward;
        resets = k.resets;
        before = k.before;
        counted = counted_gone f s v t n k m.waits m.named m.kept m.low m.high few;
        limits = k.limits;
        reached = rw after at reached;
      }),
    )
