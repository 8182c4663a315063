-- User data of an endpoint with a pace, or without one: how much space it has in a packet, and the pace once it went out.
use Rattle.std.proofs.Common.{◌≡◌, ◌∙◌, ℕ, ◌-◌, ◌<◌, ◌≤◌, nat_lt, Bool, List, [], ◌∷◌, length, refl, sym, ap, subst, arith}
use Rattle.std.specs.Prelude.{Option, None, Some, true, false, not, is_some, min, option_map, map, Result, Ok, Err, IfOk}
use Rattle.std.specs.declared.vec.Vec.{Vec}
use Rattle.std.specs.declared.alloc.Global.{Global}
use Rattle.std.proofs.lemmas.Bool.Decides.{nat_tests}
use Rattle.sctp_model.specs.messages.Format.{Format}
use Rattle.sctp_model.specs.sender.SenderView.{SenderView}
use Rattle.sctp_model.specs.sender.Words.{when}
use Rattle.sctp_model.specs.sender.Readers.{drained}
use Rattle.sctp_model.specs.sender.Reached.{IsReached}
use Rattle.sctp_model.specs.sender.Filling.{Wish, Fill, Follows, room_of, gone, no_more, fill}
use Rattle.sctp_model.specs.wire.Chunk.{ChunkMeaning}
use Rattle.sctp_model.specs.wire.Packet.{size_of_packet}
use Rattle.sctp_model.specs.end.EndView.{EndView, format_of}
use Rattle.sctp_model.specs.end.Trips.{Timed, timed_from}
use Rattle.sctp_model.specs.end.Misses.{last_sent}
use Rattle.sctp_model.specs.end.Control.{Control, chunk_flight, with_packet}
use Rattle.sctp_model.specs.end.Pacing.{Pace, room_by, room_paced, sent_pace}
use Rattle.sctp_model.specs.end.Building.{room_behind, filled_behind, sent}
use Rattle.sctp_model.proofs.sender.FillLaws.{goes_parts, fill_is_fill}
use Rattle.sctp_model.proofs.sender.WishCases.{IsAssigned, Whole, Begun, Continued, after_wish}
use Rattle.sctp_model.proofs.sender.HeardLaws.{unpaced_room}
use Rattle.sctp_packet.specs.Draft.{Draft, room_in}
use Rattle.sctp_values.specs.declared.ticket.Ticket.{Ticket}
use Rattle.sctp_congestion.specs.PaceStands.{PaceKept, PaceStands, PacesStand}
use Rattle.sctp_association.specs.declared.build.sendings.Filled.{Filled}
use Rattle.sctp_association.specs.StartsMean.{starts_at, with_fragments}
use Rattle.sctp_association.specs.Drafted.{drafted, IsOf, IsOwn}
use Rattle.sctp_association.specs.FillsBehind.{FillsBehind}
use Rattle.sctp_association.specs.Sends.{sendings_by}
use Rattle.sctp_association.specs.declared.traffic.Traffic.{Traffic}
use Rattle.sctp_association.specs.declared.time.starts.Starts.{Starts}
use Rattle.sctp_association.specs.declared.build.filling.Fragments.{Fragments}
use Rattle.sctp_association.specs.declared.build.packing.Marks.{Marks}
use Rattle.sctp_association.specs.declared.build.packing.Packing.{Packing}
use Rattle.sctp_association.proofs.CumLemmas.{later_pace, no_pace, as_high}
use Rattle.sctp_association.proofs.RoomLemmas.{some_count}
use Rattle.sctp_association.proofs.DrainedLemmas.{nothing_fills}

pub none_there : {A : Type 0} (o : Option A) → is_some o ≡ false → o ≡ None
none_there None is = refl
none_there (Some p) is = absurd (cc)

-- ---- the space

-- without a pace it is all that is left
pub room_free : (e : EndView) (m : Marks) (w : Draft) → e.pace ≡ None → w.limit ≡ e.configuration.limit → room_in w ≡ room_behind (drafted m e) w.chunks
room_free e m w none limit = ap (λ (n : ℕ). n - size_of_packet w.chunks) limit ∙ sym (unpaced_room (drafted m e) w.chunks none)

-- with one it is what that allows, in a packet that was narrowed to it
pub room_narrowed : (e : EndView) (m : Marks) (w x : Draft) (p : Pace) → e.pace ≡ Some p → w.limit ≡ e.configuration.limit → room_in x ≡ room_paced p.control (format_of e) (room_in w) e.sender
    → x ≡ record w { limit = x.limit } → room_in x ≡ room_behind (drafted m e) x.chunks
room_narrowed e m w x p pace limit is same =
    is ∙ (ap (λ (n : ℕ). room_paced p.control (format_of e) (n - size_of_packet w.chunks) e.sender) limit
    ∙ (sym (ap (λ (o : Option Pace). room_by o (format_of e) (e.configuration.limit - size_of_packet w.chunks) e.sender) pace)
    ∙ ap (λ (xs : List ChunkMeaning). room_behind (drafted m e) xs) (sym (ap (λ (d : Draft). d.chunks) same))))

-- the lower limit counts
pub low_limit : (a b : ℕ) → a ≤ b → min a b ≡ a
low_limit a b is = omega (arith, is)

pub own_narrowed : (e : EndView) (m : Marks) (w x : Draft) → x.limit ≤ w.limit → x ≡ record w { limit = x.limit } → IsOf e (record { writer = w; marks = m }) → IsOwn e (record { writer = x; marks = m })
own_narrowed e m w x within same of = record {
  limit = omega (arith, within, of.limit);
  source = ap (λ (d : Draft). d.source) same ∙ of.source;
  destination = ap (λ (d : Draft). d.destination) same ∙ of.destination;
  tag = ap (λ (d : Draft). d.tag) same ∙ of.tag;
  sack = of.sack;
}

-- the limit alone changes nothing of what goes in
widened : (o : Option Pace) (e : EndView) (w : Draft) (limit : ℕ) (m : Marks) (new : Packing) (traffic : Traffic) (filled : Filled)
    → FillsBehind o e (record { writer = record w { limit = limit }; marks = m }) new traffic filled → FillsBehind o e (record { writer = w; marks = m }) new traffic filled
widened o e w limit m new traffic filled fills = record {
  chunks = fills.chunks;
  packet = fills.packet;
  marks = fills.marks;
  timers = fills.timers;
  traffic_stands = fills.traffic_stands;
  sendings_are = fills.sendings_are;
  tickets_are = fills.tickets_are;
}

pub fills_narrowed : (o : Option Pace) (e : EndView) (w x : Draft) (m : Marks) (new : Packing) (traffic : Traffic) (filled : Filled) → x ≡ record w { limit = x.limit }
    → FillsBehind o e (record { writer = x; marks = m }) new traffic filled → FillsBehind o e (record { writer = w; marks = m }) new traffic filled
fills_narrowed o e w x m new traffic filled same fills =
    widened o e w x.limit m new traffic filled (subst (λ (d : Draft). FillsBehind o e (record { writer = d; marks = m }) new traffic filled) same fills)

-- what was counted as without a pace is counted by the end's
pub fills_counted : (e : EndView) (old new : Packing) (traffic : Traffic) (x y : Filled) → FillsBehind None e old new traffic x → y.tickets ≡ x.tickets
    → y.sendings ≡ sendings_by e.pace (filled_behind (drafted old.marks e) old.writer.chunks).wishes → FillsBehind e.pace e old new traffic y
fills_counted e old new traffic x y fills tickets counted = record {
  chunks = fills.chunks;
  packet = fills.packet;
  marks = fills.marks;
  timers = fills.timers;
  traffic_stands = fills.traffic_stands;
  sendings_are = counted;
  tickets_are = ap (λ (ts : Vec Ticket Global). map (λ t. t.0) ts.items) tickets ∙ fills.tickets_are;
}

-- where nothing is sent each pace counts the same
pub none_counted : (o : Option Pace) (e : EndView) (old new : Packing) (traffic : Traffic) (x : Filled) → (filled_behind (drafted old.marks e) old.writer.chunks).wishes ≡ []
    → FillsBehind None e old new traffic x → x.sendings ≡ sendings_by o (filled_behind (drafted old.marks e) old.writer.chunks).wishes
none_counted o e old new traffic x none fills = fills.sendings_are ∙ (ap (sendings_by None) none ∙ sym (ap (sendings_by o) none))

-- ---- the pace after it

-- what a packet is filled with leaves CUM
assigned_cum : (f : Format) (v u : SenderView) → IsAssigned v f u → u.cum ≡ v.cum
assigned_cum f v _ (Whole q rest is) = refl
assigned_cum f v _ (Begun s q lt on first) = refl
assigned_cum f v _ (Continued s x lt on) = refl

follows_cum : (f : Format) (v u : SenderView) (room : ℕ) (ws : List Wish) → Follows f v room ws u → u.cum ≡ v.cum
follows_cum f v u room [] is = ap (λ (x : SenderView). x.cum) is
follows_cum f v u room (w ∷ ws) is =
    follows_cum f (gone w) u (room - room_of f w) ws is.1
    ∙ after_wish (λ x. x.cum ≡ v.cum) f v w refl (λ x new. assigned_cum f v x new) (λ x i same. same) (goes_parts f room v w is.0).0

fill_stays : (f : Format) (room : ℕ) (v : SenderView) → v.cum ≤ (fill f room v).view.cum
fill_stays f room v = as_high v.cum (fill f room v).view.cum (follows_cum f v (fill f room v).view room (fill f room v).wishes (fill_is_fill f room v).follows)

-- without one there is none
pub paced_none : (e : EndView) (m : Marks) (xs : List ChunkMeaning) (cum : ℕ) (k : Option PaceKept) → PacesStand (format_of e) cum k e.pace → k ≡ None
    → PacesStand (format_of e) (filled_behind (drafted m e) xs).view.cum k (sent (drafted m e) xs).pace
paced_none e m xs cum k stands none =
    let x = drafted m e in
    let f = filled_behind x xs in
    let gone : (sent x xs).pace ≡ None = ap (option_map (sent_pace x.moment x.sender f.view f.wishes)) (no_pace (format_of e) cum k e.pace none stands) in
    subst (λ (o : Option Pace). PacesStand (format_of e) f.view.cum k o) (sym gone) (subst (λ (y : Option PaceKept). PacesStand (format_of e) f.view.cum y None) (sym none) tt)

-- with one it is that after the packet, in which the limit was narrowed
pub paced_sent : (e : EndView) (m : Marks) (w x : Draft) (k : PaceKept) (p : Pace) (now : ℕ) → x ≡ record w { limit = x.limit } → e.pace ≡ Some p → now ≡ e.moment
    → PaceStands (format_of e) e.sender.cum k (sent_pace now e.sender (filled_behind (drafted m e) x.chunks).view (filled_behind (drafted m e) x.chunks).wishes p)
    → PacesStand (format_of e) (filled_behind (drafted m e) w.chunks).view.cum (Some k) (sent (drafted m e) w.chunks).pace
paced_sent e m w x k p now same pace clock stands =
    let y = drafted m e in
    let f = filled_behind y w.chunks in
    let moment : PaceStands (format_of e) e.sender.cum k (sent_pace e.moment e.sender (filled_behind y x.chunks).view (filled_behind y x.chunks).wishes p) =
    subst (λ (n : ℕ). PaceStands (format_of e) e.sender.cum k (sent_pace n e.sender (filled_behind y x.chunks).view (filled_behind y x.chunks).wishes p)) clock stands in
    let here : PaceStands (format_of e) e.sender.cum k (sent_pace e.moment e.sender f.view f.wishes p) =
    subst (λ (xs : List ChunkMeaning). PaceStands (format_of e) e.sender.cum k (sent_pace e.moment e.sender (filled_behind y xs).view (filled_behind y xs).wishes p)) (ap (λ (d : Draft). d.chunks) same) moment in
    later_pace (format_of e) e.sender.cum f.view.cum (Some k) (sent y w.chunks).pace (fill_stays (format_of e) (room_behind y w.chunks) e.sender)
    (subst (λ (o : Option Pace). PacesStand (format_of e) e.sender.cum (Some k) (option_map (sent_pace e.moment e.sender f.view f.wishes) o)) (sym pace) here)

-- ---- nothing went out

pub unset : (b : Bool) → not b ≡ true → b ≡ false
unset true is = absurd (cc)
unset false is = refl

pub set : (b : Bool) → not b ≡ false → b ≡ true
set true is = refl
set false is = absurd (cc)

pub some_wishes : (n : ℕ) → nat_lt 0 n ≡ true → 0 < n
some_wishes n is = grind (arith, nat_tests)

pub no_wishes : (ws : List Wish) → nat_lt 0 (length ws) ≡ false → ws ≡ []
no_wishes [] none = refl
no_wishes (w ∷ ws) none = let some : true ≡ nat_lt 0 (length (w ∷ ws)) = some_count (w ∷ ws) in absurd (cc)

-- the sender is as it was
same_sender : (f : Format) (room : ℕ) (v : SenderView) → (fill f room v).wishes ≡ [] → (fill f room v).view ≡ v
same_sender f room v none = subst (λ (ws : List Wish). Follows f v room ws (fill f room v).view) none (fill_is_fill f room v).follows

still_timed_from : (o : Option Timed) (now n : ℕ) → timed_from o now n n ≡ o
still_timed_from (Some t) now n = refl
still_timed_from None now n = let low : nat_lt n n ≡ false = grind (arith, nat_tests) in ap (λ (b : Bool). when b (record { index = n; moment = now })) low

no_packet : (flight : Control → ℕ) (o : Option Control) → option_map (λ k. with_packet (flight k) [] k) o ≡ o
no_packet flight None = refl
no_packet flight (Some k) = refl

-- so is the pace
pub unsent_pace : (f : Format) (room now : ℕ) (v : SenderView) (p : Pace) → nat_lt 0 (length (fill f room v).wishes) ≡ false → p ≡ sent_pace now v (fill f room v).view (fill f room v).wishes p
unsent_pace f room now v p none =
    let empty = no_wishes (fill f room v).wishes none in
    sym (ap (λ (ws : List Wish). sent_pace now v (fill f room v).view ws p) empty
    ∙ (ap (λ (u : SenderView). sent_pace now v u [] p) (same_sender f room v empty)
    ∙ (ap (λ (o : Option Timed). record p { trips = record p.trips { timed = o }; control = option_map (λ k. with_packet (chunk_flight k.header v) [] k) p.control })
    (still_timed_from p.trips.timed now (last_sent v))
    ∙ ap (λ (o : Option Control). record p { control = o }) (no_packet (λ k. chunk_flight k.header v) p.control))))

-- a drained sender leaves it
pub drained_pace : (e : EndView) (m : Marks) (xs : List ChunkMeaning) (k : Option PaceKept) → IsReached (format_of e) e.sender → drained e.sender ≡ true
    → PacesStand (format_of e) e.sender.cum k e.pace → PacesStand (format_of e) (filled_behind (drafted m e) xs).view.cum k (sent (drafted m e) xs).pace
drained_pace e m xs k reached empty stands =
    later_pace (format_of e) e.sender.cum (filled_behind (drafted m e) xs).view.cum k (sent (drafted m e) xs).pace (fill_stays (format_of e) (room_behind (drafted m e) xs) e.sender)
    (subst (λ (o : Option Pace). PacesStand (format_of e) e.sender.cum k o) (by e.pace) stands)
  where
    none : filled_behind (drafted m e) xs ≡ no_more e.sender
    none = nothing_fills (format_of e) (room_behind (drafted m e) xs) e.sender reached empty

    by : (q : Option Pace) → q ≡ option_map (sent_pace e.moment e.sender (filled_behind (drafted m e) xs).view (filled_behind (drafted m e) xs).wishes) q
    by None = refl
    by (Some p) = ap (λ (y : Pace). Some y) (unsent_pace (format_of e) (room_behind (drafted m e) xs) e.moment e.sender p (ap (λ (y : Fill). nat_lt 0 (length y.wishes)) none))

-- ---- without a pace

pub filled_free : {E : Type 0} (r : Result Fragments E) (e : EndView) (m : Marks) (n : Starts) (w x : Draft) (traffic : Traffic) → e.pace ≡ None
    → IfOk r (λ fragments. starts_at n ≡ with_fragments fragments.some (starts_at m.starts)
    → FillsBehind None e (record { writer = w; marks = m }) (record { writer = x; marks = record m { starts = n } }) traffic fragments.filled)
    → IfOk r (λ fragments. starts_at n ≡ with_fragments fragments.some (starts_at m.starts)
    → FillsBehind e.pace e (record { writer = w; marks = m }) (record { writer = x; marks = record m { starts = n } }) traffic fragments.filled)
filled_free (Ok fragments) e m n w x traffic none fills = λ starting.
    subst (λ (o : Option Pace). FillsBehind o e (record { writer = w; marks = m }) (record { writer = x; marks = record m { starts = n } }) traffic fragments.filled) (sym none) (fills starting)
filled_free (Err failed) e m n w x traffic none fills = fills

-- ---- a call on the pace alone

-- it stands for what it did
pub kept_pace : (f : Format) (cum : ℕ) (k q : PaceKept) → ((p : Pace) → PaceStands f cum k p → PaceStands f cum q p) → (o : Option Pace) → PacesStand f cum (Some k) o → PacesStand f cum (Some q) o
kept_pace f cum k q each None s = s
kept_pace f cum k q each (Some p) s = each p s
