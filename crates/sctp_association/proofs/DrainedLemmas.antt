-- A drained sender has nothing to send: no packet takes user data from it, and its end's packet leaves the pace as it is.
use Rattle.std.proofs.Common.{◌≡◌, ◌∙◌, ℕ, zero, suc, ◌-◌, ◌<◌, ◌≤◌, ◌⊎◌, inl, inr, Bool, true, false, List, [], ◌∷◌, ◌++◌, length, map, refl, sym, ap, subst, arith, eqb-true}
use Rattle.std.specs.Prelude.{Option, None, Some, ◌==◌, ◌&&◌, not}
use Rattle.std.specs.Option.{option_map_or}
use Rattle.std.proofs.lemmas.List.{append-nil}
use Rattle.std.proofs.lemmas.Bool.{cases_lt, and_parts}
use Rattle.sctp_model.specs.messages.Format.{Format}
use Rattle.sctp_model.specs.messages.Plan.{Entry, entry_at}
use Rattle.sctp_model.specs.sender.SenderView.{Queued, SenderView}
use Rattle.sctp_model.specs.sender.Entries.{continued, one_if_some, in_part, sum_below, is_of_abandoned, is_unsent}
use Rattle.sctp_model.specs.sender.Readers.{drained}
use Rattle.sctp_model.specs.sender.Reached.{IsReached}
use Rattle.sctp_model.specs.sender.Assigning.{first_on}
use Rattle.sctp_model.specs.sender.Filling.{Wish, Fill, next_wish, room_of, gone, goes, no_more, before_these, fill_at_most, fill, newly_numbered, chunk_of}
use Rattle.sctp_model.proofs.sender.WordLaws.{some_is}
use Rattle.sctp_model.proofs.sender.WishCases.{IsAssigned, Whole, Begun, Continued, assigned_cases, IsWished, Repeated, Unsent, New, wished_ways}
use Rattle.sctp_model.proofs.sender.Bounds.{IsBounded, is_bounded}
use Rattle.sctp_model.proofs.sender.FillLaws.{goes_none}
use Rattle.sctp_model.specs.end.EndView.{EndView, Alarm, format_of}
use Rattle.sctp_model.specs.end.Building.{room_behind, filled_behind}
use Rattle.sctp_packet.specs.Draft.{Draft}
use Rattle.sctp_association.specs.declared.build.sendings.Filled.{Filled}
use Rattle.sctp_association.specs.Sends.{FillsNone, sendings_by}
use Rattle.sctp_association.specs.StartsMean.{starts_at, with_fragments, started_from}
use Rattle.sctp_association.specs.TrafficStands.{TrafficStands}
use Rattle.sctp_association.specs.Drafted.{drafted, IsOf}
use Rattle.sctp_association.specs.FillsBehind.{FillsBehind}
use Rattle.sctp_association.specs.declared.traffic.Traffic.{Traffic}
use Rattle.sctp_association.specs.declared.time.starts.Starts.{Starts}
use Rattle.sctp_association.specs.declared.build.packing.Marks.{Marks}
use Rattle.sctp_association.proofs.RoomLemmas.{some_wish, fragments_after}
use Rattle.sctp_association.proofs.BuildLemmas.{none_numbered}

-- ---- a drained sender

record IsEmpty (v : SenderView) : Type 0 where
  pub queue : v.queue ≡ []
  pub idle : (s : ℕ) → s < v.streams → continued v.plan s ≡ None
  pub all : v.cum ≡ length v.plan.entries

nothing_in : {A : Type 0} (xs : List A) → length xs ≡ 0 → xs ≡ []
nothing_in [] e = refl
nothing_in (x ∷ xs) e = absurd (omega (arith, e))

each_nothing : (g : ℕ → ℕ) (n : ℕ) → sum_below g n ≡ 0 → (s : ℕ) → s < n → g s ≡ 0
each_nothing g zero e s lt = absurd (omega (arith, lt))
each_nothing g (suc n) e s lt = go (cases_lt s n) (λ less. each_nothing g n (omega (arith, e)) s less)
  where
    go : (s < n) ⊎ (n ≤ s) → (s < n → g s ≡ 0) → g s ≡ 0
    go (inl less) before = before less
    go (inr le) before = let same : s ≡ n = omega (arith, le, lt) in ap g same ∙ omega (arith, e)

is_empty : (v : SenderView) → drained v ≡ true → IsEmpty v
is_empty v e = record {
  queue = nothing_in v.queue (eqb-true (length v.queue) 0 both.0);
  idle = λ s lt. none (continued v.plan s) (each_nothing (λ u. one_if_some (continued v.plan u)) v.streams (eqb-true (in_part v) 0 more.0) s lt);
  all = eqb-true v.cum (length v.plan.entries) more.1;
}
  where
    both : ((length v.queue == 0) ≡ true) × (((in_part v == 0) && (v.cum == length v.plan.entries)) ≡ true)
    both = and_parts (length v.queue == 0) ((in_part v == 0) && (v.cum == length v.plan.entries)) e

    more : ((in_part v == 0) ≡ true) × ((v.cum == length v.plan.entries) ≡ true)
    more = and_parts (in_part v == 0) (v.cum == length v.plan.entries) both.1

    none : (o : Option Entry) → one_if_some o ≡ 0 → o ≡ None
    none None h = refl
    none (Some x) h = absurd (cc)

-- ---- it has nothing to send

none_assigned : (f : Format) (v u : SenderView) → IsEmpty v → IsAssigned v f u → ⊥
none_assigned f v u e (Whole q rest is) = let h = e.queue in cc
none_assigned f v u e (Begun s q lt on first) =
    let h : first_on s [] ≡ Some q = subst (λ (qs : List Queued). first_on s qs ≡ Some q) e.queue first in cc
none_assigned f v u e (Continued s x lt on) = let h = e.idle s lt in cc

sent_at : (v : SenderView) (i : ℕ) (e : Entry) → v.covered i ≡ true → is_unsent v i e ≡ false
sent_at v i e on = ap (λ (b : Bool). not (v.sent i) && (not b && not (is_of_abandoned v e))) on ∙ off (not (v.sent i))
  where
    off : (b : Bool) → (b && false) ≡ false
    off true = refl
    off false = refl

none_wished : (f : Format) (v : SenderView) (w : Wish) → IsBounded v → IsEmpty v → IsWished f v w → ⊥
none_wished f v _ b e (Repeated i low) =
    let covered = b.covered i low.some (omega (arith, low.within, e.all)) in
    let off = b.apart i covered in
    let on = low.passes in cc
none_wished f v _ b e (Unsent i marks low) =
    let covered = b.covered i low.some (omega (arith, low.within, e.all)) in
    let there = some_is (is_unsent v i) (entry_at v.plan i) low.passes in
    let off = sent_at v i there.0 covered in
    let on = there.2 in cc
none_wished f v _ b e (New u marks unsent new) = none_assigned f v u e (assigned_cases f v u new)

nothing_next : (f : Format) (v : SenderView) → IsReached f v → drained v ≡ true → next_wish f v ≡ None
nothing_next f v reached empty = by (next_wish f v) refl
  where
    by : (o : Option Wish) → next_wish f v ≡ o → o ≡ None
    by None is = refl
    by (Some w) is = absurd (none_wished f v w (is_bounded f v reached) (is_empty v empty) (wished_ways f v w is))

nothing_goes : (many : ℕ) (f : Format) (room : ℕ) (v : SenderView) → goes f room v ≡ None → fill_at_most many f room v ≡ no_more v
nothing_goes zero f room v none = refl
nothing_goes (suc n) f room v none = ap (λ (o : Option Wish). option_map_or (λ w. before_these w (fill_at_most n f (room - room_of f w) (gone w))) o (no_more v)) none

pub nothing_fills : (f : Format) (room : ℕ) (v : SenderView) → IsReached f v → drained v ≡ true → fill f room v ≡ no_more v
nothing_fills f room v reached empty = nothing_goes room f room v (goes_none f room v (nothing_next f v reached empty))

-- ---- the packet

pub nothing_behind : (e : EndView) (m : Marks) (n : Starts) (w : Draft) (traffic : Traffic) (filled : Filled) → IsReached (format_of e) e.sender → drained e.sender ≡ true
    → TrafficStands traffic (format_of e) e.sender e.receiver → IsOf e (record { writer = w; marks = m }) → FillsNone filled → starts_at n ≡ with_fragments false (starts_at m.starts)
    → FillsBehind e.pace e (record { writer = w; marks = m }) (record { writer = w; marks = record m { starts = n } }) traffic filled
nothing_behind e m n w traffic filled reached empty stands of none starting =
    let x = drafted m e in
    let zs = w.chunks in
    let f = format_of e in
    let is : filled_behind x zs ≡ no_more e.sender = nothing_fills f (room_behind x zs) e.sender reached empty in
    record {
      chunks = sym (append-nil zs) ∙ sym (ap (λ (y : Fill). zs ++ map (chunk_of f) y.wishes) is);
      packet = record { limit = omega (arith, of.limit); source = of.source; destination = of.destination; tag = of.tag; sack = of.sack };
      marks = refl;
      timers = ap (λ (q : Alarm → Bool). started_from q e.moment e.timers) (starting ∙ sym (ap (λ (y : Fill). with_fragments (some_wish y.wishes) (starts_at m.starts)) is))
          ∙ fragments_after e m (filled_behind x zs).wishes;
      traffic_stands = subst (λ (y : Fill). TrafficStands traffic f y.view e.receiver) (sym is) stands;
      sendings_are = none.sendings ∙ sym (ap (λ (y : Fill). sendings_by e.pace y.wishes) is);
      tickets_are = none_numbered filled.tickets e.sender none.tickets ∙ sym (ap (λ (y : Fill). newly_numbered e.sender y.view) is);
    }
