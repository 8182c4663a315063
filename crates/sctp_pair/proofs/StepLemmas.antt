-- Steps of the world, each from what happens at one side.
use Rattle.std.proofs.Common.{◌≡◌, ℕ, List, [], ◌∷◌, ◌++◌, Option, Some, None, false, refl, sym, ap, subst, ◌∙◌}
use Rattle.sctp_model.specs.wire.Chunk.{ChunkMeaning}
use Rattle.sctp_model.specs.wire.Packet.{Packet, size_of_packet}
use Rattle.sctp_model.specs.receiver.ReceiverView.{Handed}
use Rattle.sctp_model.specs.world.Calls.{Call}
use Rattle.sctp_model.specs.end.EndView.{Draw, EndView}
use Rattle.sctp_model.specs.end.Clock.{at_moment}
use Rattle.sctp_model.specs.end.Strays.{Verdict, Taken, Dropped, Answer}
use Rattle.sctp_model.specs.end.Arriving.{Receives, IsCutShort}
use Rattle.sctp_model.specs.end.Building.{Builds, packet_of}
use Rattle.sctp_model.specs.end.UserCalls.{SendAnswer, send_answer, send_leaves, abandons, abandoned_at, UserTakes, ResetCall, reset_call, reset_leaves, reset_there, told_leaves, shutdown_answer, shut, AbortAnswer, Aborts, NoPeer, TooLong, abort_answer, abort_leaves}
use Rattle.sctp_model.specs.world.World.{Side, A, B, World, Log, end_of, bag_of, log_of, clock_of, with_end, with_packet, with_log, came, logged_one, logged_packet}
use Rattle.sctp_model.specs.world.Events.{Event, Build, Abandon, Send, Take, Reset, WasReset, Shutdown, Abort, Outcome, Sent, Quiet, Fate, Told, Acted, NotActed, Answered, RefusedState, AbortTooLong, next_number, told, with_verdict, abort_told, with_abort, message_told, reset_told, resets_told, shutdown_told}
use Rattle.sctp_model.specs.world.Steps as steps
use Rattle.sctp_model.specs.world.Steps.{Step, Brings, accepted, named_at}
use Rattle.sctp_pair.specs.Sides.{SideView, side_of, with_side, left}

-- ---- one side changed

-- its end, its bag and its log
abbrev pub side : EndView → List Packet → Log → SideView
side t ps l = record { end = t; bag = ps; log = l }

packet_here : (w : World) (s : Side) (t : EndView) (p : Packet) → with_packet (with_end w s t) s p ≡ with_side w s (side t (bag_of w s ++ p ∷ []) (log_of w s))
packet_here w A t p = refl
packet_here w B t p = refl

end_here : (w : World) (s : Side) (t : EndView) → with_end w s t ≡ with_side w s (side t (bag_of w s) (log_of w s))
end_here w A t = refl
end_here w B t = refl

log_here : (w : World) (s : Side) (t : EndView) (l : Log) → with_log (with_end w s t) s l ≡ with_side w s (side t (bag_of w s) l)
log_here w A t l = refl
log_here w B t l = refl

came_here : (w : World) (s : Side) (t : EndView) → came w s t ≡ left w s (side t (bag_of w s) (logged_packet w s t))
came_here w A t = refl
came_here w B t = refl

answer_here : (w : World) (s : Side) (t : EndView) (p : Packet) → with_packet (came w s t) s p ≡ left w s (side t (bag_of w s ++ p ∷ []) (logged_packet w s t))
answer_here w A t p = refl
answer_here w B t p = refl

same_side : (w : World) (s : Side) → with_side w s (side_of w s) ≡ w
same_side w A = refl
same_side w B = refl

-- a step with another answer, which is the same, and to another world, which is the same
moved : (w v x : World) (e : Event) (o u : Option Outcome) → o ≡ u → v ≡ x → Step w e o v → Step w e u x
moved w v x e o u same is step = subst (λ (y : World). Step w e u y) is (subst (λ (a : Option Outcome). Step w e a v) same step)

-- ---- want of memory, where no packet comes

pub no_memory : (w : World) (e : Event) (s : Side) → Step w e None w → Step w e None (with_side w s (side_of w s))
no_memory w e s step = subst (λ (v : World). Step w e None v) (sym (same_side w s)) step

-- ---- a packet is built

-- told by its number and its length
sent_so : (n m : ℕ) (size long : ℕ) → n ≡ m → size ≡ long → Some (Sent n size) ≡ Some (Sent m long)
sent_so n m size long a b = ap (λ (k : ℕ). Some (Sent k size)) a ∙ ap (λ (k : ℕ). Some (Sent m k)) b

pub builds : (w : World) (s : Side) (clock : ℕ) (xs : List ChunkMeaning) (t : EndView) (number long : ℕ) → clock_of w s ≡ clock → (xs ≡ [] → ⊥) →
    next_number w s ≡ number → size_of_packet xs ≡ long → Builds (at_moment (end_of w s) clock) xs t →
    Step w (Build s) (Some (Sent number long)) (with_side w s (side t (bag_of w s ++ packet_of (end_of w s) xs ∷ []) (log_of w s)))
builds w s clock [] t number long c some n l b = absurd (some refl)
builds w s clock (x ∷ xs) t number long c some n l b =
    moved w _ _ (Build s) _ _ (sent_so _ _ _ _ n l) (packet_here w s t (packet_of (end_of w s) (x ∷ xs)))
    (steps.BuildsOne s x xs t (subst (λ (k : ℕ). Builds (at_moment (end_of w s) k) (x ∷ xs) t) (sym c) b))

pub builds_none : (w : World) (s : Side) (clock : ℕ) (t : EndView) → clock_of w s ≡ clock → Builds (at_moment (end_of w s) clock) [] t →
    Step w (Build s) (Some Quiet) (with_side w s (side t (bag_of w s) (log_of w s)))
builds_none w s clock t c b =
    subst (λ (v : World). Step w (Build s) (Some Quiet) v) (end_here w s t)
    (steps.BuildsNone s t (subst (λ (k : ℕ). Builds (at_moment (end_of w s) k) [] t) (sym c) b))

-- ---- something comes

arrived : (w : World) (e : Event) (s : Side) (clock : ℕ) (d : Draw) (p : Option Packet) (t : EndView) (v : Verdict) → Brings w e s p → clock_of w s ≡ clock → w.draw ≡ d →
    Receives (end_of w s) clock d p t v → Step w e (Some (told w s v)) (with_verdict (came w s t) s v)
arrived w e s clock d p t v brings c r a =
    steps.PacketComes e s p t v brings
    (subst (λ (n : ℕ). Receives (end_of w s) n w.draw p t v) (sym c) (subst (λ (x : Draw). Receives (end_of w s) clock x p t v) (sym r) a))

pub acts : (w : World) (e : Event) (s : Side) (clock : ℕ) (d : Draw) (p : Option Packet) (t : EndView) (v : Verdict) → Brings w e s p → clock_of w s ≡ clock → w.draw ≡ d →
    Receives (end_of w s) clock d p t v → v ≡ Taken → Step w e (Some Acted) (left w s (side t (bag_of w s) (logged_packet w s t)))
acts w e s clock d p t v brings c r a is =
    subst (λ (x : World). Step w e (Some Acted) x) (came_here w s t)
    (subst (λ (u : Verdict). Step w e (Some (told w s u)) (with_verdict (came w s t) s u)) is (arrived w e s clock d p t v brings c r a))

pub drops : (w : World) (e : Event) (s : Side) (clock : ℕ) (d : Draw) (p : Option Packet) (t : EndView) (v : Verdict) (n : ℕ) → Brings w e s p → clock_of w s ≡ clock → w.draw ≡ d →
    Receives (end_of w s) clock d p t v → v ≡ Dropped n → Step w e (Some (NotActed n)) (left w s (side t (bag_of w s) (logged_packet w s t)))
drops w e s clock d p t v n brings c r a is =
    subst (λ (x : World). Step w e (Some (NotActed n)) x) (came_here w s t)
    (subst (λ (u : Verdict). Step w e (Some (told w s u)) (with_verdict (came w s t) s u)) is (arrived w e s clock d p t v brings c r a))

answered_so : (n m : ℕ) (size long : ℕ) → n ≡ m → size ≡ long → Some (Answered n size) ≡ Some (Answered m long)
answered_so n m size long a b = ap (λ (k : ℕ). Some (Answered k size)) a ∙ ap (λ (k : ℕ). Some (Answered m k)) b

pub answers : (w : World) (e : Event) (s : Side) (clock : ℕ) (d : Draw) (p : Option Packet) (t : EndView) (q : Packet) (number long : ℕ) → Brings w e s p → clock_of w s ≡ clock →
    w.draw ≡ d → next_number w s ≡ number → size_of_packet q.chunks ≡ long → Receives (end_of w s) clock d p t (Answer q) →
    Step w e (Some (Answered number long)) (left w s (side t (bag_of w s ++ q ∷ []) (logged_packet w s t)))
answers w e s clock d p t q number long brings c r n l a =
    moved w _ _ e _ _ (answered_so _ _ _ _ n l) (answer_here w s t q) (arrived w e s clock d p t (Answer q) brings c r a)

-- memory was wanted
pub is_cut : (w : World) (e : Event) (s : Side) (clock : ℕ) (d : Draw) (p : Option Packet) (t : EndView) → Brings w e s p → clock_of w s ≡ clock → w.draw ≡ d →
    IsCutShort (end_of w s) clock d p t → Step w e None (left w s (side t (bag_of w s) (logged_packet w s t)))
is_cut w e s clock d p t brings c r cut =
    subst (λ (x : World). Step w e None x) (came_here w s t)
    (steps.PacketCut e s p t brings
    (subst (λ (n : ℕ). IsCutShort (end_of w s) n w.draw p t) (sym c) (subst (λ (x : Draw). IsCutShort (end_of w s) clock x p t) (sym r) cut)))

-- ---- the user's calls

pub sends : (w : World) (s : Side) (c : Call) (a : SendAnswer) → send_answer (end_of w s) c ≡ a →
    Step w (Send s c) (Some (Told a)) (with_side w s (side (send_leaves a (end_of w s) c) (bag_of w s) (accepted w s a c)))
sends w s c a is =
    subst (λ (x : SendAnswer). Step w (Send s c) (Some (Told x)) (with_side w s (side (send_leaves x (end_of w s) c) (bag_of w s) (accepted w s x c)))) is
    (subst (λ (x : World). Step w (Send s c) (Some (Told (send_answer (end_of w s) c))) x)
    (log_here w s (send_leaves (send_answer (end_of w s) c) (end_of w s) c) (accepted w s (send_answer (end_of w s) c) c)) (steps.Sends s c))

-- what the log says of a call of abandon
abbrev pub log_after : World → Side → ℕ → Log
log_after w s k = named_at (logged_one w s k (abandoned_at (end_of w s) k)) (abandons (end_of w s) k) k

pub abandons_at : (w : World) (s : Side) (k : ℕ) →
    Step w (Abandon s k) (Some (Fate (abandons (end_of w s) k))) (with_side w s (side (abandoned_at (end_of w s) k) (bag_of w s) (log_after w s k)))
abandons_at w s k =
    subst (λ (x : World). Step w (Abandon s k) (Some (Fate (abandons (end_of w s) k))) x) (log_here w s (abandoned_at (end_of w s) k) (log_after w s k)) (steps.AbandonsOne s k)

pub takes : (w : World) (s : Side) (n : ℕ) (h : Option Handed) (t : EndView) → UserTakes (end_of w s) n h t →
    Step w (Take s n) (Some (message_told h)) (with_side w s (side t (bag_of w s) (log_of w s)))
takes w s n h t took = subst (λ (x : World). Step w (Take s n) (Some (message_told h)) x) (end_here w s t) (steps.TakesOne s n h t took)

pub resets : (w : World) (s : Side) (n : ℕ) (a : ResetCall) → reset_call (end_of w s) n ≡ a →
    Step w (Reset s n) (Some (reset_told a)) (with_side w s (side (reset_leaves a (end_of w s) n) (bag_of w s) (log_of w s)))
resets w s n a is =
    subst (λ (x : ResetCall). Step w (Reset s n) (Some (reset_told x)) (with_side w s (side (reset_leaves x (end_of w s) n) (bag_of w s) (log_of w s)))) is
    (subst (λ (x : World). Step w (Reset s n) (Some (reset_told (reset_call (end_of w s) n))) x) (end_here w s (reset_leaves (reset_call (end_of w s) n) (end_of w s) n))
    (steps.ResetsOne s n))

pub tells_reset : (w : World) (s : Side) (o : Option ℕ) → reset_there (end_of w s) ≡ o →
    Step w (WasReset s) (Some (resets_told (end_of w s) o)) (with_side w s (side (told_leaves o (end_of w s)) (bag_of w s) (log_of w s)))
tells_reset w s o is =
    subst (λ (x : Option ℕ). Step w (WasReset s) (Some (resets_told (end_of w s) x)) (with_side w s (side (told_leaves x (end_of w s)) (bag_of w s) (log_of w s)))) is
    (subst (λ (x : World). Step w (WasReset s) (Some (resets_told (end_of w s) (reset_there (end_of w s)))) x) (end_here w s (told_leaves (reset_there (end_of w s)) (end_of w s)))
    (steps.TellsReset s))

pub shuts_down : (w : World) (s : Side) →
    Step w (Shutdown s) (Some (shutdown_told (shutdown_answer (end_of w s).phase))) (with_side w s (side (shut (end_of w s)) (bag_of w s) (log_of w s)))
shuts_down w s =
    subst (λ (x : World). Step w (Shutdown s) (Some (shutdown_told (shutdown_answer (end_of w s).phase))) x) (end_here w s (shut (end_of w s))) (steps.ShutsDown s)

aborted : (w : World) (s : Side) (r : List ℕ) (a : AbortAnswer) → abort_answer (end_of w s) r ≡ a →
    Step w (Abort s r) (Some (abort_told w s a)) (with_abort (with_end w s (abort_leaves a (end_of w s))) s a)
aborted w s r a is =
    subst (λ (x : AbortAnswer). Step w (Abort s r) (Some (abort_told w s x)) (with_abort (with_end w s (abort_leaves x (end_of w s))) s x)) is (steps.AbortsIt s r)

pub aborts : (w : World) (s : Side) (r : List ℕ) (p : Packet) (number long : ℕ) → abort_answer (end_of w s) r ≡ Aborts p → next_number w s ≡ number →
    size_of_packet p.chunks ≡ long →
    Step w (Abort s r) (Some (Answered number long)) (with_side w s (side (abort_leaves (Aborts p) (end_of w s)) (bag_of w s ++ p ∷ []) (log_of w s)))
aborts w s r p number long is n l =
    moved w _ _ (Abort s r) _ _ (answered_so _ _ _ _ n l) (packet_here w s (abort_leaves (Aborts p) (end_of w s)) p) (aborted w s r (Aborts p) is)

pub has_no_peer : (w : World) (s : Side) (r : List ℕ) → abort_answer (end_of w s) r ≡ NoPeer → Step w (Abort s r) (Some RefusedState) (with_side w s (side_of w s))
has_no_peer w s r is = subst (λ (x : World). Step w (Abort s r) (Some RefusedState) x) (end_here w s (end_of w s)) (aborted w s r NoPeer is)

pub is_too_long : (w : World) (s : Side) (r : List ℕ) → abort_answer (end_of w s) r ≡ TooLong → Step w (Abort s r) (Some AbortTooLong) (with_side w s (side_of w s))
is_too_long w s r is = subst (λ (x : World). Step w (Abort s r) (Some AbortTooLong) x) (end_here w s (end_of w s)) (aborted w s r TooLong is)
