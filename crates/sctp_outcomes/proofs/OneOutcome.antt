-- In every world of every run an event has one outcome, and leaves one world.
use Rattle.std.proofs.Common.{◌≡◌, ℕ, Bool, true, false, List, [], ◌∷◌, Option, Some, None, refl, sym, subst, ap, ◌∙◌}
use Rattle.std.specs.Prelude.{◌&&◌}
use Rattle.sctp_model.specs.numbers.Lists.{item_at}
use Rattle.sctp_model.specs.wire.Chunk.{ChunkMeaning}
use Rattle.sctp_model.specs.wire.Packet.{Packet, size_of_packet}
use Rattle.sctp_model.specs.receiver.ReceiverView.{Handed, ReceiverView}
use Rattle.sctp_model.specs.receiver.SackMade.{TakeLeaves, first_taken}
use Rattle.sctp_model.specs.receiver.Laws.{IsOrdinary}
use Rattle.sctp_model.specs.end.EndView.{EndView}
use Rattle.sctp_model.specs.end.Strays.{Verdict}
use Rattle.sctp_model.specs.end.Arriving.{Receives}
use Rattle.sctp_model.specs.end.Building.{packet_of}
use Rattle.sctp_model.specs.end.UserCalls.{Called, NotIdle, updating}
use Rattle.sctp_model.specs.world.World.{Side, other, are_alike, World, end_of, bag_of, with_end, with_packet, end_now, came, clock_of}
use Rattle.sctp_model.specs.world.Events.{Event, Deliver, Outcome, Sent, next_number, told, with_verdict, message_told}
use Rattle.sctp_model.specs.world.Steps.{FromBag, FromStranger, Brings, Step, OpensBoth, OpenRefused, TimePasses, Draws, Connects, ConnectRefused, BuildsOne, BuildsNone, PacketComes, IsAbsent, Sends, AbandonsOne, TakesOne, ShutsDown, AbortsIt, NoPacket, ResetsOne, TellsReset, TimeGoesOn, MomentComes}
use Rattle.sctp_outcomes.specs.Outcomes.{OutcomesAreOne}
use Rattle.sctp_outcomes.proofs.Receivers.{Whatever, HoldsIn, holds_always}
use Rattle.sctp_outcomes.proofs.Ordinary.{ordinary_law}
use Rattle.sctp_outcomes.proofs.OnePacket.{one_received}
use Rattle.sctp_outcomes.proofs.OneBuild.{one_built}

-- ---- what an event brings

one_brought : (w : World) (e : Event) (x y : Side) (p q : Option Packet) → Brings w e x p → Brings w e y q → (x ≡ y) × (p ≡ q)
one_brought w e x y p q (FromBag s n _ a) (FromBag _ _ _ b) = (refl, sym a ∙ b)
one_brought w e x y p q (FromStranger _ _ _) (FromStranger _ _ _) = (refl, refl)
one_brought w e x y p q (NoPacket _) (NoPacket _) = (refl, refl)

absent_not : (w : World) (s : Side) (n : ℕ) (x : Side) (p : Option Packet) → item_at (bag_of w s) n ≡ None → Brings w (Deliver s n) x p → ⊥
absent_not w s n x p none (FromBag _ _ r found) = let q : None ≡ Some r = sym none ∙ found in absurd (cc)

-- ---- what waits for the user

one_taken : (r : ReceiverView) (s : ℕ) (h k : Option Handed) (t u : ReceiverView) → TakeLeaves r s h t → TakeLeaves r s k u → (h ≡ k) × (t ≡ u)
one_taken r s None None t u (a, b) (c, d) = (refl, b ∙ sym d)
one_taken r s None (Some k) t u (a, b) (rest, c, d) = let q : [] ≡ k ∷ rest = sym a ∙ c in absurd (cc)
one_taken r s (Some h) None t u (rest, c, d) (a, b) = let q : [] ≡ h ∷ rest = sym a ∙ c in absurd (cc)
one_taken r s (Some h) (Some k) t u (xs, a, b) (ys, c, d) =
    let both : h ∷ xs ≡ k ∷ ys = sym a ∙ c in
    let head : h ≡ k = cc in
    let tail : xs ≡ ys = cc in
    (ap (λ (z : Handed). Some z) head, b ∙ ap (λ (z : Handed). first_taken r s z xs) head ∙ ap (first_taken r s k) tail ∙ sym d)

-- ---- ends opened without packets

both_off : (a b : Bool) → a ≡ true → b ≡ true → (a && b) ≡ false → ⊥
both_off false b on also off = absurd (cc)
both_off true false on also off = absurd (cc)
both_off true true on also off = absurd (cc)

-- ---- every event

one_step : (w : World) → HoldsIn (Whatever IsOrdinary) ordinary_law w → (e : Event) (o p : Outcome) (v u : World) → Step w e (Some o) v → Step w e (Some p) u → (o ≡ p) × (v ≡ u)
one_step w ordinary e o p v u (OpensBoth _ _ _ _ _ _) (OpensBoth _ _ _ _ _ _) = (refl, refl)
one_step w ordinary e o p v u (OpensBoth _ _ like may _ _) (OpenRefused _ _ off) = absurd (both_off w.openable (are_alike w.a.configuration w.b.configuration) may like off)
one_step w ordinary e o p v u (OpensBoth _ _ _ _ _ _) (PacketComes _ _ _ _ _ brings _) = elim brings [ ]
one_step w ordinary e o p v u (PacketComes _ _ _ _ _ brings _) (OpensBoth _ _ _ _ _ _) = elim brings [ ]
one_step w ordinary e o p v u (OpenRefused _ _ off) (OpensBoth _ _ like may _ _) = absurd (both_off w.openable (are_alike w.a.configuration w.b.configuration) may like off)
one_step w ordinary e o p v u (OpenRefused _ _ _) (OpenRefused _ _ _) = (refl, refl)
one_step w ordinary e o p v u (OpenRefused _ _ _) (PacketComes _ _ _ _ _ brings _) = elim brings [ ]
one_step w ordinary e o p v u (PacketComes _ _ _ _ _ brings _) (OpenRefused _ _ _) = elim brings [ ]
one_step w ordinary e o p v u (TimeGoesOn _ _ _) (TimeGoesOn _ _ _) = (refl, refl)
one_step w ordinary e o p v u (TimeGoesOn _ _ _) (PacketComes _ _ _ _ _ brings _) = elim brings [ ]
one_step w ordinary e o p v u (PacketComes _ _ _ _ _ brings _) (TimeGoesOn _ _ _) = elim brings [ ]
one_step w ordinary e o p v u (MomentComes _) (MomentComes _) = (refl, refl)
one_step w ordinary e o p v u (MomentComes _) (PacketComes _ _ _ _ _ brings _) = elim brings [ ]
one_step w ordinary e o p v u (PacketComes _ _ _ _ _ brings _) (MomentComes _) = elim brings [ ]
one_step w ordinary e o p v u (TimePasses _ _) (TimePasses _ _) = (refl, refl)
one_step w ordinary e o p v u (TimePasses _ _) (PacketComes _ _ _ _ _ brings _) = elim brings [ ]
one_step w ordinary e o p v u (PacketComes _ _ _ _ _ brings _) (TimePasses _ _) = elim brings [ ]
one_step w ordinary e o p v u (Draws _ _) (Draws _ _) = (refl, refl)
one_step w ordinary e o p v u (Draws _ _) (PacketComes _ _ _ _ _ brings _) = elim brings [ ]
one_step w ordinary e o p v u (PacketComes _ _ _ _ _ brings _) (Draws _ _) = elim brings [ ]
one_step w ordinary e o p v u (Connects _ _ _) (Connects _ _ _) = (refl, refl)
one_step w ordinary e o p v u (Connects _ _ a) (ConnectRefused _ b) = let q : Called ≡ NotIdle = sym a ∙ b in absurd (cc)
one_step w ordinary e o p v u (Connects _ _ _) (PacketComes _ _ _ _ _ brings _) = elim brings [ ]
one_step w ordinary e o p v u (PacketComes _ _ _ _ _ brings _) (Connects _ _ _) = elim brings [ ]
one_step w ordinary e o p v u (ConnectRefused _ b) (Connects _ _ a) = let q : Called ≡ NotIdle = sym a ∙ b in absurd (cc)
one_step w ordinary e o p v u (ConnectRefused _ _) (ConnectRefused _ _) = (refl, refl)
one_step w ordinary e o p v u (ConnectRefused _ _) (PacketComes _ _ _ _ _ brings _) = elim brings [ ]
one_step w ordinary e o p v u (PacketComes _ _ _ _ _ brings _) (ConnectRefused _ _) = elim brings [ ]
one_step w ordinary e o p v u (BuildsOne s x xs t a) (BuildsOne _ y ys r b) =
    let q = one_built (end_now w s) (x ∷ xs) (y ∷ ys) t r a b in (
      ap (λ (cs : List ChunkMeaning). Sent (next_number w s) (size_of_packet cs)) q.0,
      ap (λ (cs : List ChunkMeaning). with_packet (with_end w s t) s (packet_of (end_of w s) cs)) q.0
          ∙ ap (λ (z : EndView). with_packet (with_end w s z) s (packet_of (end_of w s) (y ∷ ys))) q.1,
    )
one_step w ordinary e o p v u (BuildsOne s x xs t a) (BuildsNone _ r b) = let q = (one_built (end_now w s) (x ∷ xs) [] t r a b).0 in absurd (cc)
one_step w ordinary e o p v u (BuildsOne _ _ _ _ _) (PacketComes _ _ _ _ _ brings _) = elim brings [ ]
one_step w ordinary e o p v u (PacketComes _ _ _ _ _ brings _) (BuildsOne _ _ _ _ _) = elim brings [ ]
one_step w ordinary e o p v u (BuildsNone s r b) (BuildsOne _ x xs t a) = let q = (one_built (end_now w s) (x ∷ xs) [] t r a b).0 in absurd (cc)
one_step w ordinary e o p v u (BuildsNone s t a) (BuildsNone _ r b) = (refl, ap (with_end w s) (one_built (end_now w s) [] [] t r a b).1)
one_step w ordinary e o p v u (BuildsNone _ _ _) (PacketComes _ _ _ _ _ brings _) = elim brings [ ]
one_step w ordinary e o p v u (PacketComes _ _ _ _ _ brings _) (BuildsNone _ _ _) = elim brings [ ]
one_step w ordinary e o p v u (IsAbsent s n none) (IsAbsent _ _ _) = (refl, refl)
one_step w ordinary e o p v u (IsAbsent s n none) (PacketComes _ x q t d brings a) = absurd (absent_not w s n x q none brings)
one_step w ordinary e o p v u (PacketComes _ x q t d brings a) (IsAbsent s n none) = absurd (absent_not w s n x q none brings)
one_step w ordinary e o p v u (Sends _ _) (Sends _ _) = (refl, refl)
one_step w ordinary e o p v u (Sends _ _) (PacketComes _ _ _ _ _ brings _) = elim brings [ ]
one_step w ordinary e o p v u (PacketComes _ _ _ _ _ brings _) (Sends _ _) = elim brings [ ]
one_step w ordinary e o p v u (AbandonsOne _ _) (AbandonsOne _ _) = (refl, refl)
one_step w ordinary e o p v u (AbandonsOne _ _) (PacketComes _ _ _ _ _ brings _) = elim brings [ ]
one_step w ordinary e o p v u (PacketComes _ _ _ _ _ brings _) (AbandonsOne _ _) = elim brings [ ]
one_step w ordinary e o p v u (TakesOne s n h t a) (TakesOne _ _ k r b) =
    let q = one_taken (end_of w s).receiver n h k a.receiver b.receiver a.takes b.takes in
    let same : t ≡ r = a.leaves ∙ ap (λ (z : ReceiverView). updating (record (end_of w s) { receiver = z })) q.1 ∙ sym b.leaves in
    (ap message_told q.0, ap (with_end w s) same)
one_step w ordinary e o p v u (TakesOne _ _ _ _ _) (PacketComes _ _ _ _ _ brings _) = elim brings [ ]
one_step w ordinary e o p v u (PacketComes _ _ _ _ _ brings _) (TakesOne _ _ _ _ _) = elim brings [ ]
one_step w ordinary e o p v u (ResetsOne _ _) (ResetsOne _ _) = (refl, refl)
one_step w ordinary e o p v u (ResetsOne _ _) (PacketComes _ _ _ _ _ brings _) = elim brings [ ]
one_step w ordinary e o p v u (PacketComes _ _ _ _ _ brings _) (ResetsOne _ _) = elim brings [ ]
one_step w ordinary e o p v u (TellsReset _) (TellsReset _) = (refl, refl)
one_step w ordinary e o p v u (TellsReset _) (PacketComes _ _ _ _ _ brings _) = elim brings [ ]
one_step w ordinary e o p v u (PacketComes _ _ _ _ _ brings _) (TellsReset _) = elim brings [ ]
one_step w ordinary e o p v u (ShutsDown _) (ShutsDown _) = (refl, refl)
one_step w ordinary e o p v u (ShutsDown _) (PacketComes _ _ _ _ _ brings _) = elim brings [ ]
one_step w ordinary e o p v u (PacketComes _ _ _ _ _ brings _) (ShutsDown _) = elim brings [ ]
one_step w ordinary e o p v u (AbortsIt _ _) (AbortsIt _ _) = (refl, refl)
one_step w ordinary e o p v u (AbortsIt _ _) (PacketComes _ _ _ _ _ brings _) = elim brings [ ]
one_step w ordinary e o p v u (PacketComes _ _ _ _ _ brings _) (AbortsIt _ _) = elim brings [ ]
one_step w ordinary e o p v u (PacketComes _ x q t d b a) (PacketComes _ y r z k c f) =
    let m = one_brought w e x y q r b c in
    let g : Receives (end_of w x) (clock_of w x) w.draw q z k =
    subst (λ (s : Side). Receives (end_of w s) (clock_of w s) w.draw q z k) (sym m.0) (subst (λ (s : Option Packet). Receives (end_of w y) (clock_of w y) w.draw s z k) (sym m.1) f) in
    let n = one_received (end_of w x) (clock_of w x) w.draw q t z d k (ordinary x) a g in (
      ap (λ (j : Verdict). told w x j) n.1 ∙ ap (λ (s : Side). told w s k) m.0,
      ap (λ (i : EndView). with_verdict (came w x i) x d) n.0 ∙ ap (λ (j : Verdict). with_verdict (came w x z) x j) n.1 ∙ ap (λ (s : Side). with_verdict (came w s z) s k) m.0,
    )

pub outcomes_are_one : OutcomesAreOne
outcomes_are_one s events answers w run e o p v u one other = one_step w (holds_always (Whatever IsOrdinary) ordinary_law s events answers w run) e o p v u one other
