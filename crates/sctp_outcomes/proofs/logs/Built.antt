-- A packet that is built notes what it newly numbers, and nothing else.
use Rattle.std.proofs.Common.{◌≡◌, Bool, true, false, List, [], ◌∷◌, ◌++◌, refl, sym, subst, ap, ◌∙◌, arith, length-append}
use Rattle.std.specs.Prelude.{◌-◌, ◌*◌, ◌≤◌, length, map}
use Rattle.sctp_model.specs.wire.Chunk.{ChunkMeaning}
use Rattle.sctp_model.specs.wire.Packet.{HEADER_ROOM, size_of_packet}
use Rattle.sctp_model.specs.messages.Format.{Format}
use Rattle.sctp_model.specs.messages.Plan.{Entry}
use Rattle.sctp_model.specs.sender.SenderView.{SenderView}
use Rattle.sctp_model.specs.sender.Reached.{IsReached, Rebases}
use Rattle.sctp_model.specs.end.EndView.{Configuration, EndView, format_of, Terms, format_for}
use Rattle.sctp_model.specs.end.Clock.{at_moment}
use Rattle.sctp_model.specs.end.Building.{Slot, Puts, NoMore, NotDue, Put, IsFull, Builds, Sleeps, Waits, Calls, Echoes, EndsFull, Fills, EchoSlot, CookieAckSlot, HeartbeatSlot, BeatSlot, ErrorSlot, SackSlot, ForwardSlot, ShutdownSlot, ShutdownAckSlot, once_built, sent, filled_behind, fragments, room_behind, AnswerSlot, RequestSlot}
use Rattle.sctp_model.specs.sender.Filling.{Wish, newly_numbered, begun_tickets}
use Rattle.sctp_model.specs.sender.SentChunks.{chunk_of}
use Rattle.sctp_outcomes.specs.Kept.{is_before, IsNamed, IsSound, KeepsLogs, AddsNumbers, BuildsAddNumbers, EmptyBuildsKeepLogs, numbered}
use Rattle.sctp_outcomes.specs.Few.{IsFilling, BuildsBeginFew}
use Rattle.sctp_outcomes.proofs.logs.Few.{few_filled, none_newly}
use Rattle.sctp_outcomes.proofs.logs.Filled.{Grows, grows_not, grows_filled, numbers_grow, nothing_filled}
use Rattle.sctp_outcomes.proofs.logs.Ends.{never, IsSameToUser, keeps_itself, same_keeps, joined_keeps, keeps_on}
use Rattle.sctp_outcomes.proofs.logs.Heard.{moment_keeps}
use Rattle.sctp_model.proofs.sender.RoomLaws.{room_is_there}
use Rattle.sctp_model.specs.end.Reconfiguring.{asking}
use Rattle.sctp_model.specs.receiver.ReceiverView.{ReceiverView}
use Rattle.sctp_safety.proofs.machine.Reconfigured.{asking_same}

-- ---- what is due goes in

-- neither the sender nor the state changed, and nothing was taken
record IsPut (e t : EndView) : Type 0 where
  sender : t.sender ≡ e.sender
  same : IsSameToUser e.receiver t.receiver
  configuration : t.configuration ≡ e.configuration
  phase : t.phase ≡ e.phase
  format : format_of t ≡ format_of e

put_not : (e : EndView) → IsPut e e
put_not e = record { sender = refl; same = record { taken = refl; buffer = refl }; configuration = refl; phase = refl; format = refl }

put_on : (e t u : EndView) → IsPut e t → IsPut t u → IsPut e u
put_on e t u a b = record {
  sender = b.sender ∙ a.sender;
  same = record { taken = b.same.taken ∙ a.same.taken; buffer = b.same.buffer ∙ a.same.buffer };
  configuration = b.configuration ∙ a.configuration;
  phase = b.phase ∙ a.phase;
  format = b.format ∙ a.format;
}

once_put : (s : Slot) (e : EndView) → IsPut e (once_built s e)
once_put EchoSlot e = record { sender = refl; same = record { taken = refl; buffer = refl }; configuration = refl; phase = refl; format = refl }
once_put CookieAckSlot e = record { sender = refl; same = record { taken = refl; buffer = refl }; configuration = refl; phase = refl; format = refl }
once_put HeartbeatSlot e = record { sender = refl; same = record { taken = refl; buffer = refl }; configuration = refl; phase = refl; format = refl }
once_put BeatSlot e = record { sender = refl; same = record { taken = refl; buffer = refl }; configuration = refl; phase = refl; format = refl }
once_put ErrorSlot e = record { sender = refl; same = record { taken = refl; buffer = refl }; configuration = refl; phase = refl; format = refl }
once_put SackSlot e = record { sender = refl; same = record { taken = refl; buffer = refl }; configuration = refl; phase = refl; format = refl }
once_put ForwardSlot e = record { sender = refl; same = record { taken = refl; buffer = refl }; configuration = refl; phase = refl; format = refl }
once_put AnswerSlot e = record { sender = refl; same = record { taken = refl; buffer = refl }; configuration = refl; phase = refl; format = refl }
once_put RequestSlot e = record { sender = refl; same = record { taken = refl; buffer = refl }; configuration = refl; phase = refl; format = refl }
once_put ShutdownSlot e = record { sender = refl; same = record { taken = refl; buffer = refl }; configuration = refl; phase = refl; format = refl }
once_put ShutdownAckSlot e = record { sender = refl; same = record { taken = refl; buffer = refl }; configuration = refl; phase = refl; format = refl }

all_put : (ss : List Slot) (e : EndView) (xs zs : List ChunkMeaning) (full : Bool) (t : EndView) → Puts ss e xs zs full t → IsPut e t
all_put ss e xs zs full t (NoMore _ _) = put_not e
all_put ss e xs zs full t (NotDue _ more _ _ _ _ _ off rest) = all_put more e xs zs full t rest
all_put ss e xs zs full t (Put s more _ x _ _ _ _ due wants room rest) = put_on e (once_built s e) t (once_put s e) (all_put more (once_built s e) (xs ++ x ∷ []) zs full t rest)
all_put ss e xs zs full t (IsFull _ _ _ _ _ due wants room) = put_not e

-- ---- a request is made first

-- of what is noted nothing changes
asking_keeps : (e : EndView) → is_before e.phase ≡ false → IsSound e → KeepsLogs e (asking e)
asking_keeps e after s =
    let u = asking_same e in
    joined_keeps e (asking e) (ap (λ (v : SenderView). v.plan) u.sender.1) (ap (λ (v : SenderView). v.tickets) u.sender.1)
    (record { taken = ap (λ (r : ReceiverView). r.taken) u.receiver.1; buffer = ap (λ (r : ReceiverView). r.buffer) u.receiver.1 }) u.configuration (ap is_before u.phase ∙ after) s

-- so what adds numbers to that endpoint, adds them to this one
asked_adds : (e t : EndView) → AddsNumbers (asking e) t → AddsNumbers e t
asked_adds e t a =
    let u = asking_same e in
    record {
      sound = a.sound;
      grown = subst (λ (v : SenderView). length v.plan.entries ≤ length t.sender.plan.entries) u.sender.1 a.grown;
      numbers = subst (λ (v : SenderView). numbered t ≡ begun_tickets v.plan v.plan.entries ++ newly_numbered v t.sender) u.sender.1 a.numbers;
      tickets = a.tickets ∙ ap (λ (v : SenderView). v.tickets) u.sender.1;
      taken = a.taken ∙ ap (λ (r : ReceiverView). r.taken) u.receiver.1;
    }

-- ---- the packet

-- an endpoint whose sender has grown, with an association
grown : (e t : EndView) → Grows e.sender t.sender → IsSameToUser e.receiver t.receiver → t.configuration ≡ e.configuration → is_before t.phase ≡ false → IsSound e → AddsNumbers e t
grown e t g same configuration after s = record {
  sound = record { bare = λ on. never after on; buffer = same.buffer ∙ s.buffer ∙ ap (λ (c : Configuration). c.buffer) (sym configuration); named = g.named };
  grown = (let q = ap (λ (es : List Entry). length es) g.entries in let r = length-append e.sender.plan.entries g.more in omega (arith, q, r));
  numbers = numbers_grow e.sender t.sender s.named g;
  tickets = g.tickets;
  taken = same.taken;
}

-- or one that is the same to its logs
same_adds : (e t : EndView) → t.sender ≡ e.sender → t.receiver ≡ e.receiver → t.configuration ≡ e.configuration → t.phase ≡ e.phase → IsSound e → AddsNumbers e t
same_adds e t sender receiver configuration phase s =
    let k = same_keeps e t sender receiver configuration (λ on. ap is_before (sym phase) ∙ on) s in
    let g = grows_not e.sender t.sender (ap (λ (v : SenderView). v.plan) sender) (ap (λ (v : SenderView). v.tickets) sender) s.named in
    record { sound = k.sound; grown = k.grown; numbers = numbers_grow e.sender t.sender s.named g; tickets = k.tickets; taken = k.taken }

put_grown : (e t : EndView) → IsPut e t → is_before e.phase ≡ false → IsSound e → AddsNumbers e t
put_grown e t p after s =
    grown e t (grows_not e.sender t.sender (ap (λ (v : SenderView). v.plan) p.sender) (ap (λ (v : SenderView). v.tickets) p.sender) s.named) p.same p.configuration (ap is_before p.phase ∙ after) s

-- fragments after what is due
sent_grown : (e x : EndView) (zs : List ChunkMeaning) → IsPut e x → is_before e.phase ≡ false → IsSound e → AddsNumbers e (sent x zs)
sent_grown e x zs p after s =
    let from = subst (λ (v : SenderView). Grows v (sent x zs).sender) p.sender
    (grows_filled (format_of x) (room_behind x zs) x.sender (subst (λ (v : SenderView). IsNamed v.plan) (sym p.sender) s.named)) in
    grown e (sent x zs) from p.same p.configuration (ap is_before p.phase ∙ after) s

built_adds : (e t : EndView) (xs : List ChunkMeaning) → IsSound e → Builds e xs t → AddsNumbers e t
built_adds e t xs s (Sleeps _) = same_adds e e refl refl refl refl s
built_adds e t xs s (Waits _ _ _) = same_adds e e refl refl refl refl s
built_adds e t xs s (Calls _ _ _) = same_adds e t refl refl refl refl s
built_adds e t xs s (Echoes _ _ _ full _ is puts) = put_grown e t (all_put _ e [] _ full t puts) (ap is_before is) s
built_adds e t xs s (EndsFull _ _ _ _ is puts) =
    asked_adds e t (put_grown (asking e) t (all_put _ (asking e) [] _ true t puts) (ap is_before ((asking_same e).phase ∙ is)) (asking_keeps e (ap is_before is) s).sound)
built_adds e t xs s (Fills _ _ zs x is puts) =
    asked_adds e (sent x zs) (sent_grown (asking e) x zs (all_put _ (asking e) [] zs false x puts) (ap is_before ((asking_same e).phase ∙ is)) (asking_keeps e (ap is_before is) s).sound)

pub builds_add_numbers : BuildsAddNumbers
builds_add_numbers e now xs t s builds =
    let a = built_adds (at_moment e now) t xs (moment_keeps e now s).sound builds in
    record { sound = a.sound; grown = a.grown; numbers = a.numbers; tickets = a.tickets; taken = a.taken }

-- ---- no packet

mapped_nothing : (g : Wish → ChunkMeaning) (ws : List Wish) → map g ws ≡ [] → ws ≡ []
mapped_nothing g [] none = refl
mapped_nothing g (w ∷ ws) none = absurd (cc)

joined_nothing : (xs ys : List ChunkMeaning) → xs ++ ys ≡ [] → ys ≡ []
joined_nothing [] ys none = none
joined_nothing (x ∷ xs) ys none = absurd (cc)

put_keeps : (e t : EndView) → IsPut e t → is_before e.phase ≡ false → IsSound e → KeepsLogs e t
put_keeps e t p after s =
    joined_keeps e t (ap (λ (v : SenderView). v.plan) p.sender) (ap (λ (v : SenderView). v.tickets) p.sender) p.same p.configuration (ap is_before p.phase ∙ after) s

-- no fragment went out
unsent : (e x : EndView) (zs : List ChunkMeaning) → IsPut e x → fragments x zs ≡ [] → IsPut e (sent x zs)
unsent e x zs p none = record {
  sender = nothing_filled (format_of x) (room_behind x zs) x.sender (mapped_nothing (chunk_of (format_of x)) (filled_behind x zs).wishes none) ∙ p.sender;
  same = record { taken = p.same.taken; buffer = p.same.buffer };
  configuration = p.configuration;
  phase = p.phase;
  format = p.format;
}

empty_keeps : (e t : EndView) (xs : List ChunkMeaning) → IsSound e → xs ≡ [] → Builds e xs t → KeepsLogs e t
empty_keeps e t xs s none (Sleeps _) = keeps_itself e s
empty_keeps e t xs s none (Waits _ _ _) = keeps_itself e s
empty_keeps e t xs s none (Calls _ _ _) = absurd (cc)
empty_keeps e t xs s none (Echoes _ _ _ full _ is puts) = put_keeps e t (all_put _ e [] _ full t puts) (ap is_before is) s
empty_keeps e t xs s none (EndsFull _ _ _ _ is puts) =
    let asked = asking_keeps e (ap is_before is) s in
    keeps_on e (asking e) t asked (put_keeps (asking e) t (all_put _ (asking e) [] _ true t puts) (ap is_before ((asking_same e).phase ∙ is)) asked.sound)
empty_keeps e t xs s none (Fills _ _ zs x is puts) =
    let asked = asking_keeps e (ap is_before is) s in
    keeps_on e (asking e) (sent x zs) asked
    (put_keeps (asking e) (sent x zs) (unsent (asking e) x zs (all_put _ (asking e) [] zs false x puts) (joined_nothing zs (fragments x zs) none)) (ap is_before ((asking_same e).phase ∙ is)) asked.sound)

pub empty_builds_keep_logs : EmptyBuildsKeepLogs
empty_builds_keep_logs e now t s builds = let k = empty_keeps (at_moment e now) t [] (moment_keeps e now s).sound refl builds in record { sound = k.sound; grown = k.grown; numbers = k.numbers; tickets = k.tickets; taken = k.taken }

-- ---- few messages begin

none_begun : (e t : EndView) → t.sender ≡ e.sender → 20 * length (newly_numbered e.sender t.sender) ≤ e.configuration.limit - HEADER_ROOM
none_begun e t same = rw (none_newly e.sender t.sender same) (omega arith)

few_sent : (e x : EndView) (zs : List ChunkMeaning) → IsPut e x → IsNamed e.sender.plan → IsReached (format_of e) e.sender
    → 20 * length (newly_numbered e.sender (sent x zs).sender) ≤ e.configuration.limit - HEADER_ROOM
few_sent e x zs p named reached =
    let few : 20 * length (newly_numbered x.sender (filled_behind x zs).view) ≤ room_behind x zs =
    few_filled (format_of x) (room_behind x zs) x.sender (subst (λ (v : SenderView). IsNamed v.plan) (sym p.sender) named)
    (subst (λ (f : Format). IsReached f x.sender) (sym p.format) (subst (λ (v : SenderView). IsReached (format_of e) v) (sym p.sender) reached)) in
    let limit = ap (λ (c : Configuration). c.limit) p.configuration in
    let room = room_is_there x.pace (format_of x) (x.configuration.limit - size_of_packet zs) x.sender in
    subst (λ (v : SenderView). 20 * length (newly_numbered v (filled_behind x zs).view) ≤ e.configuration.limit - HEADER_ROOM) p.sender (omega (arith, few, room, limit))

asked_few : (e t : EndView) → 20 * length (newly_numbered (asking e).sender t.sender) ≤ (asking e).configuration.limit - HEADER_ROOM → 20 * length (newly_numbered e.sender t.sender) ≤ e.configuration.limit - HEADER_ROOM
asked_few e t few =
    let u = asking_same e in
    subst (λ (v : SenderView). 20 * length (newly_numbered v t.sender) ≤ e.configuration.limit - HEADER_ROOM) u.sender.1
    (subst (λ (c : Configuration). 20 * length (newly_numbered (asking e).sender t.sender) ≤ c.limit - HEADER_ROOM) u.configuration few)

few_built : (e t : EndView) (xs : List ChunkMeaning) → IsSound e → IsFilling e → Builds e xs t → 20 * length (newly_numbered e.sender t.sender) ≤ e.configuration.limit - HEADER_ROOM
few_built e t xs s reached (Sleeps _) = none_begun e e refl
few_built e t xs s reached (Waits _ _ _) = none_begun e e refl
few_built e t xs s reached (Calls _ _ _) = none_begun e t refl
few_built e t xs s reached (Echoes _ _ _ full _ is puts) = none_begun e t (all_put _ e [] _ full t puts).sender
few_built e t xs s reached (EndsFull _ _ _ _ is puts) = asked_few e t (none_begun (asking e) t (all_put _ (asking e) [] _ true t puts).sender)
few_built e t xs s reached (Fills g h zs x is puts) =
    let u = asking_same e in
    asked_few e (sent x zs) (few_sent (asking e) x zs (all_put _ (asking e) [] zs false x puts) (asking_keeps e (ap is_before is) s).sound.named
    (subst (λ (y : Terms). IsReached (format_for y.interleave) (asking e).sender) (sym u.terms)
    (subst (λ (v : SenderView). IsReached (format_of e) v) (sym u.sender.1) (Rebases e.sender u.sender.0 (reached g h is)))))

pub builds_begin_few : BuildsBeginFew
builds_begin_few e s reached now xs t builds = few_built (at_moment e now) t xs (moment_keeps e now s).sound reached builds
