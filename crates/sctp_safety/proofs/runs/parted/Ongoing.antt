-- What goes on in one direction, in each step of a world whose ends have met.
use Rattle.std.proofs.Common.{◌≡◌, ℕ, ◌≤◌, ◌⊎◌, max, Bool, true, false, List, [], ◌∷◌, ◌++◌, is_some, Option, Some, None, inl, inr, refl, sym, subst, ap, ◌∙◌, arith, append-nil, ◌==◌, eqb-true, if◌then◌else◌}
use Rattle.std.proofs.lemmas.List.{append_assoc}
use Rattle.sctp_model.specs.numbers.Lists.{Has, item_at}
use Rattle.sctp_model.specs.wire.Chunk.{ChunkMeaning}
use Rattle.sctp_model.specs.wire.Packet.{Packet}
use Rattle.sctp_model.specs.messages.Format.{Format, Lane}
use Rattle.sctp_model.specs.messages.Plan.{Entry, Part, entry_at}
use Rattle.sctp_model.specs.sender.Outgoing.{is_sending, is_resetting}
use Rattle.sctp_model.specs.sender.SenderView.{SenderView}
use Rattle.sctp_model.specs.receiver.ReceiverView.{Handed, ReceiverView, handed, Reaches}
use Rattle.sctp_model.specs.world.Calls.{Asked}
use Rattle.sctp_model.specs.world.Safe.{WasHanded}
use Rattle.sctp_model.specs.end.EndView.{EndView}
use Rattle.sctp_model.specs.end.Strays.{Verdict}
use Rattle.sctp_model.specs.end.Arriving.{Arrives, DroppedUnread, ReadAs, CutFirst, CutLater, cut_to}
use Rattle.sctp_model.specs.end.Moments.{ticked}
use Rattle.sctp_model.specs.receiver.ResetTaken.{old_waiting, told_of}
use Rattle.sctp_model.specs.end.UserCalls.{ResetCall, Begun, NotAgreed, NoStream, reset_call, reset_leaves, reset_there, told_leaves, abort_answer, abort_leaves, shut, send_answer}
use Rattle.sctp_model.specs.sender.Outgoing.{Resets}
use Rattle.sctp_model.specs.world.World.{Side, A, B, other, World, end_of, end_now, Setup, clock_of}
use Rattle.sctp_model.specs.world.Events.{Event, Deliver, Foreign, Reset, WasReset, Outcome, Done, ResetThere, reset_told, resets_told}
use Rattle.sctp_model.specs.world.Steps.{Brings, FromBag, FromStranger, NoPacket, Step, OpensBoth, OpenRefused, TimePasses, Draws, Connects, ConnectRefused, BuildsOne, BuildsNone, PacketComes, IsAbsent, Sends, AbandonsOne, TakesOne, ResetsOne, TellsReset, ShutsDown, AbortsIt, NoMemory, PacketCut, TimeGoesOn, MomentComes}
use Rattle.sctp_model.specs.world.Premises.{asked_at}
use Rattle.sctp_safety.specs.Agreement.{IsOpening}
use Rattle.sctp_safety.proofs.lists.Basics.{at_cases, item_at-left}
use Rattle.sctp_safety.proofs.machine.Fronts.{Brought, ByPeer, ByStranger, brought_whole, brought_cut}
use Rattle.sctp_safety.proofs.machine.Ground.{IsFine}
use Rattle.sctp_safety.proofs.machine.OneEnd.{IsAt, at_end, at_log, at_packet, at_came, answer_of, at_verdict, abort_of, at_abort}
use Rattle.sctp_safety.proofs.machine.Strangers.{stranger_stays}
use Rattle.sctp_safety.proofs.moves.UsualLemmas.{good_usual}
use Rattle.sctp_safety.specs.Parted.{Asks}
use Rattle.sctp_safety.proofs.runs.Asking.{asked_unnoted}
use Rattle.sctp_safety.proofs.runs.Dates.{Dated}
use Rattle.sctp_safety.proofs.runs.DatedBags.{Dates, dated_bag, AreKept}
use Rattle.sctp_safety.proofs.runs.Direction.{Direction, way_of}
use Rattle.sctp_safety.proofs.runs.MetSteps.{comes, no_call}
use Rattle.sctp_safety.proofs.runs.MetWorld.{IsMetWorld, MetAt, at_side, now_at}
use Rattle.sctp_safety.proofs.runs.parted.Since.{Since, since_same, since_itself, since_on}
use Rattle.sctp_safety.proofs.runs.ResetFacts.{IsNoted, noted_sent, noted_received}
use Rattle.sctp_safety.proofs.runs.parted.Onward.{Onward, IsHandedLater, IsPerformed, onward_itself}
use Rattle.sctp_safety.proofs.runs.parted.Quiet.{IsQuiet, quiet_same, quiet_noted, builds_quiet, sent_quiet, abandoned_quiet, taken_quiet, shut_quiet, aborted_quiet}
use Rattle.sctp_safety.proofs.runs.parted.LaterEnds.{LaterEnd, IsUnnoted, later_same, later_on, arrives_later, builds_later, ticked_later, ticked_receiver, sent_later, abandoned_later, shut_later, aborted_later, taken_later}

-- ---- views

-- a sender and the receiver across, and later ones
pub record Ongoing (a : SenderView) (r : ReceiverView) (b : SenderView) (t : ReceiverView) : Type 0 where
  pub since : Since a b
  pub reached : (j : ℕ) → Reaches r j → Reaches t j
  pub next : (s : ℕ) → r.next s ≤ t.next s
  pub more : (s : ℕ) → (hs : List Handed) × (handed t s ≡ handed r s ++ hs)
  pub anew : (l : Lane) (k : ℕ) → WasHanded b.plan t l k → WasHanded a.plan r l k ⊎ IsHandedLater b.plan r l k

pub entries_last : (a b : SenderView) → Since a b → (i : ℕ) (e : Entry) → entry_at a.plan i ≡ Some e → entry_at b.plan i ≡ Some e
entries_last a b since i e here = subst (λ (es : List Entry). item_at es i ≡ Some e) (sym since.entries.1) (item_at-left a.plan.entries since.entries.0 i e here)

pub ongoing_on : (a : SenderView) (r : ReceiverView) (b : SenderView) (t : ReceiverView) (c : SenderView) (u : ReceiverView) → Ongoing a r b t → Ongoing b t c u → Ongoing a r c u
ongoing_on a r b t c u o p = record {
  since = since_on a b c o.since p.since;
  reached = λ j h. p.reached j (o.reached j h);
  next = λ s. (let x = o.next s in let y = p.next s in omega (arith, x, y));
  more = λ s. ((o.more s).0 ++ (p.more s).0, (p.more s).1 ∙ ap (λ (hs : List Handed). hs ++ (p.more s).0) (o.more s).1 ∙ append_assoc (handed r s) (o.more s).0 (p.more s).0);
  anew = λ l k h. by_last l k (p.anew l k h);
}
  where
    grown : (l : Lane) (k : ℕ) → IsHandedLater b.plan r l k → IsHandedLater c.plan r l k
    grown l k (inl ordered) = inl ordered
    grown l k (inr (i, j, here, off)) = inr (i, j, entries_last b c p.since i _ here, off)

    later : (l : Lane) (k : ℕ) → IsHandedLater c.plan t l k → IsHandedLater c.plan r l k
    later l k (inl (kind, le)) = inl (kind, (let x = o.next l.stream in omega (arith, x, le)))
    later l k (inr (i, j, here, off)) = inr (i, j, here, λ reached. off (o.reached i reached))

    by_last : (l : Lane) (k : ℕ) → WasHanded b.plan t l k ⊎ IsHandedLater c.plan t l k → WasHanded a.plan r l k ⊎ IsHandedLater c.plan r l k
    by_last l k (inl before) = elim (o.anew l k before) [ inl first ↦ inl first | inr new ↦ inr (grown l k new) ]
    by_last l k (inr new) = inr (later l k new)

pub by_receiver : (a : SenderView) (r t : ReceiverView) → Onward a r t → Ongoing a r a t
by_receiver a r t o = record { since = since_itself a; reached = o.reached; next = o.next; more = o.more; anew = o.anew }

pub by_sender : (f : Format) (n : ℕ) (a : SenderView) (u : Asked) (r : ReceiverView) (out back : List Dated) (b : SenderView) → Direction f n a u r out back → Since a b → Ongoing a r b r
by_sender f n a u r out back b d since = record {
  since = since;
  reached = λ j h. h;
  next = λ s. omega arith;
  more = λ s. ([], sym (append-nil (handed r s)));
  anew = λ l k (h, has, lane, first). inl (h, has, lane, own l k h has lane first);
}
  where
    own : (l : Lane) (k : ℕ) (h : Handed) → Has (handed r l.stream) h → h.lane ≡ l → entry_at b.plan h.first ≡ Some (Part l k 0) → entry_at a.plan h.first ≡ Some (Part l k 0)
    own l k h has lane first =
        let honest = ((good_usual (way_of f n a u r d.bags) d.usual).held.told.honest l.stream h has).sent in
        let begins = honest.first in
        let there = entries_last a b since h.first _ begins in
        let number : honest.number ≡ k = cc (there, first) in
        subst (λ (m : ℕ). entry_at a.plan h.first ≡ Some (Part l m 0)) number (subst (λ (y : Lane). entry_at a.plan h.first ≡ Some (Part y honest.number 0)) lane begins)

-- a packet arrives at the receiver's end in this event
pub data IsHeard (x : Side) : Event → Type 0 where
  Delivered : (n : ℕ) → IsHeard x (Deliver x n)
  Injected : (p : Option Packet) → IsHeard x (Foreign (other x) p)

heard_by : (w : World) (e : Event) (z : Side) (p : Option Packet) → Brings w e z p → (x : Side) → z ≡ other x → IsHeard x e
heard_by w e z p (FromBag A n q there) A is = Delivered n
heard_by w e z p (FromBag B n q there) B is = Delivered n
heard_by w e z p (FromBag A n q there) B is = absurd (cc is)
heard_by w e z p (FromBag B n q there) A is = absurd (cc is)
heard_by w e z p (FromStranger _ q placed) x is = subst (λ (y : Side). IsHeard x (Foreign y (Some q))) (sym is) (Injected (Some q))
heard_by w e z p (NoPacket _) x is = subst (λ (y : Side). IsHeard x (Foreign y None)) (sym is) (Injected None)

-- what an event leaves of one direction
pub record GoesOnBy (x : Side) (e : Event) (o : Option Outcome) (a : SenderView) (r : ReceiverView) (b : SenderView) (t : ReceiverView) : Type 0 where
  pub ongoing : Ongoing a r b t
  pub shut : (s : ℕ) → is_sending (b.resets.sending s) ≡ false → (is_sending (a.resets.sending s) ≡ false) ⊎ ((e ≡ Reset x s) × (o ≡ Some Done))
  pub told : (s n : ℕ) → t.resets.told s ≡ Some n → (r.resets.told s ≡ Some n) ⊎ ((b ≡ a) × IsPerformed a r t s n)
  pub resets : (s : ℕ) → is_resetting (b.resets.sending s) ≡ true → (is_resetting (a.resets.sending s) ≡ true) ⊎ ((e ≡ Reset x s) × (o ≡ Some Done))
  pub noted : (s : ℕ) → IsNoted a r s → is_resetting (b.resets.sending s) ≡ true → IsNoted b t s
  -- a stream that takes messages took them, or its reset was noted
  pub freed : (s : ℕ) → is_sending (b.resets.sending s) ≡ true → (is_sending (a.resets.sending s) ≡ true) ⊎ IsNoted a r s
  -- what is to be reported stays so until it is reported; and what is noted anew is to be reported, by a packet, at which the sender does nothing
  pub kept : (s : ℕ) → is_some (r.resets.told s) ≡ true → (is_some (t.resets.told s) ≡ true) ⊎ ((k : ℕ) × (e ≡ WasReset (other x)) × (o ≡ Some (ResetThere s k)))
  pub performed : (s : ℕ) → IsNoted b t s → IsNoted a r s ⊎ (IsHeard x e × ((b ≡ a) × (Asks a s × (is_some (t.resets.told s) ≡ true))))

-- ---- worlds

abbrev pub StepGoes : Side → World → Event → Option Outcome → World → Type 0
StepGoes x w e o v = GoesOnBy x e o (end_of w x).sender (end_of w (other x)).receiver (end_of v x).sender (end_of v (other x)).receiver

module _ (s : Setup) (drawn : List ℕ) (d : Dates) (w : World) (opening : IsOpening s drawn w) (m : IsMetWorld d w) where
  at : (x : Side) → MetAt d w x
  at x = at_side d w x m.met

  grows : (x : Side) (b : SenderView) → Since (end_of w x).sender b → Ongoing (end_of w x).sender (end_of w (other x)).receiver b (end_of w (other x)).receiver
  grows x b since = by_sender _ _ (end_of w x).sender (asked_at w x) (end_of w (other x)).receiver _ _ b (at x).met.going since

  module _ (e : Event) (o : Option Outcome) (v : World) where
    -- neither's sender nor its peer's receiver does anything
    still : (x : Side) → (end_of v x).sender ≡ (end_of w x).sender → (end_of v (other x)).receiver ≡ (end_of w (other x)).receiver → StepGoes x w e o v
    still x sender receiver =
        let a = (end_of w x).sender in
        let r = (end_of w (other x)).receiver in
        subst (λ (c : SenderView). GoesOnBy x e o a r c (end_of v (other x)).receiver) (sym sender)
        (subst (λ (c : ReceiverView). GoesOnBy x e o a r a c) (sym receiver) (record {
          ongoing = by_receiver a r r (onward_itself a r);
          shut = λ k h. inl h;
          told = λ k n is. inl is;
          resets = λ k h. inl h;
          noted = λ k h on. h;
          freed = λ k on. inl on;
          kept = λ k on. inl on;
          performed = λ k h. inl h;
        }))

    same : (x : Side) → v.a ≡ w.a → v.b ≡ w.b → StepGoes x w e o v
    same A a b = still A (ap (λ (y : EndView). y.sender) a) (ap (λ (y : EndView). y.receiver) b)
    same B a b = still B (ap (λ (y : EndView). y.sender) b) (ap (λ (y : EndView). y.receiver) a)

    -- the sender's end goes on
    sending : (x : Side) (t : EndView) → end_of v x ≡ t → end_of v (other x) ≡ end_of w (other x) → Since (end_of w x).sender t.sender →
        ((k : ℕ) → is_sending (t.sender.resets.sending k) ≡ false → (is_sending ((end_of w x).sender.resets.sending k) ≡ false) ⊎ ((e ≡ Reset x k) × (o ≡ Some Done))) →
        ((k : ℕ) → is_resetting (t.sender.resets.sending k) ≡ true → (is_resetting ((end_of w x).sender.resets.sending k) ≡ true) ⊎ ((e ≡ Reset x k) × (o ≡ Some Done))) →
        ((k : ℕ) → IsNoted (end_of w x).sender (end_of w (other x)).receiver k → is_resetting (t.sender.resets.sending k) ≡ true → IsNoted t.sender (end_of w (other x)).receiver k) →
        ((k : ℕ) → is_sending (t.sender.resets.sending k) ≡ true → (is_sending ((end_of w x).sender.resets.sending k) ≡ true) ⊎ IsNoted (end_of w x).sender (end_of w (other x)).receiver k) →
        ((k : ℕ) → IsNoted t.sender (end_of w (other x)).receiver k → IsNoted (end_of w x).sender (end_of w (other x)).receiver k) →
        StepGoes x w e o v
    sending x t here there since shut resets noted freed back =
        subst (λ (y : EndView). GoesOnBy x e o (end_of w x).sender (end_of w (other x)).receiver y.sender (end_of v (other x)).receiver) (sym here)
        (subst (λ (y : EndView). GoesOnBy x e o (end_of w x).sender (end_of w (other x)).receiver t.sender y.receiver) (sym there) (record {
          ongoing = grows x t.sender since;
          shut = shut;
          told = λ k n is. inl is;
          resets = resets;
          noted = noted;
          freed = freed;
          kept = λ k on. inl on;
          performed = λ k h. inl (back k h);
        }))

    -- the receiver's end does
    receiving : (x : Side) (t : EndView) → end_of v x ≡ end_of w x → end_of v (other x) ≡ t → LaterEnd (end_of w x) (end_of w (other x)) t →
        IsHeard x e ⊎ IsQuiet (end_of w (other x)).receiver t.receiver → StepGoes x w e o v
    receiving x t here there l how =
        subst (λ (y : EndView). GoesOnBy x e o (end_of w x).sender (end_of w (other x)).receiver y.sender (end_of v (other x)).receiver) (sym here)
        (subst (λ (y : EndView). GoesOnBy x e o (end_of w x).sender (end_of w (other x)).receiver (end_of w x).sender y.receiver) (sym there) (record {
          ongoing = by_receiver (end_of w x).sender (end_of w (other x)).receiver t.receiver l.receiver;
          shut = λ k h. inl h;
          told = λ k n is. elim (l.receiver.told k n is) [ inl before ↦ inl before | inr performed ↦ inr (refl, performed) ];
          resets = λ k h. inl h;
          noted = λ k h on. l.receiver.noted k h;
          freed = λ k on. inl on;
          kept = λ k on. inl (l.receiver.kept k on);
          performed = λ k h. elim (l.receiver.back k h) [
            | inl before ↦ inl before
            | inr new ↦ elim how [ inl heard ↦ inr (heard, (refl, new)) | inr quiet ↦ inl (quiet_noted (end_of w x).sender (end_of w (other x)).receiver t.receiver k quiet h) ]
          ];
        }))

    -- no fewer numbers of requests are used than were taken
    low : (x : Side) → (end_of w (other x)).receiver.resets.taken ≤ (end_of w x).sender.resets.made
    low x = (at x).met.going.step.taken

    -- by a packet, or by nothing that a receiver knows of requests
    abbrev How : Side → EndView → Type 0
    How z t = ((x : Side) → z ≡ other x → IsHeard x e) ⊎ IsQuiet (end_of w z).receiver t.receiver

    how_there : (z : Side) (t : EndView) → How z t → (x : Side) → z ≡ other x → IsHeard x e ⊎ IsQuiet (end_of w z).receiver t.receiver
    how_there z t (inl heard) x is = inl (heard x is)
    how_there z t (inr quiet) x is = inr quiet

    at_one : (z : Side) (t : EndView) (given : Option Packet) → IsAt w v z t given → LaterEnd (end_of w (other z)) (end_of w z) t → How z t → (x : Side) → StepGoes x w e o v
    at_one A t given is l how A = sending A t is.here is.there l.sender.since (λ k h. inl (l.sender.shut k h)) (λ k h. inl (l.sender.resets k h)) l.sender.noted (l.sender.freed (low A)) (l.sender.back (low A))
    at_one A t given is l how B = receiving B t is.there is.here l (how_there A t how B refl)
    at_one B t given is l how B = sending B t is.here is.there l.sender.since (λ k h. inl (l.sender.shut k h)) (λ k h. inl (l.sender.resets k h)) l.sender.noted (l.sender.freed (low B)) (l.sender.back (low B))
    at_one B t given is l how A = receiving A t is.there is.here l (how_there B t how A refl)

    -- time passes at both
    at_both : (x : Side) (now across_time : ℕ) → end_of v x ≡ ticked (end_of w x) now → end_of v (other x) ≡ ticked (end_of w (other x)) across_time → StepGoes x w e o v
    at_both x now across_time here there =
        let p = end_of w x in
        let q = end_of w (other x) in
        let own = ticked_later q p now in
        let across = ticked_later (ticked p now) q across_time in
        subst (λ (y : EndView). GoesOnBy x e o p.sender q.receiver y.sender (end_of v (other x)).receiver) (sym here)
        (subst (λ (y : EndView). GoesOnBy x e o p.sender q.receiver (ticked p now).sender y.receiver) (sym there)
        (record {
          ongoing = ongoing_on p.sender q.receiver (ticked p now).sender q.receiver (ticked p now).sender (ticked q across_time).receiver (grows x (ticked p now).sender own.sender.since)
              (by_receiver (ticked p now).sender q.receiver (ticked q across_time).receiver across.receiver);
          shut = λ k h. inl (own.sender.shut k h);
          told = λ k n is. inl (subst (λ (c : ReceiverView). c.resets.told k ≡ Some n) (ticked_receiver q across_time) is);
          resets = λ k h. inl (own.sender.resets k h);
          noted = λ k h on. across.receiver.noted k (own.sender.noted k h on);
          freed = λ k on. own.sender.freed (low x) k on;
          kept = λ k on. inl (subst (λ (c : ReceiverView). is_some (c.resets.told k) ≡ true) (sym (ticked_receiver q across_time)) on);
          performed = λ k h. inl (own.sender.back (low x) k (subst (λ (c : ReceiverView). IsNoted (ticked p now).sender c k) (ticked_receiver q across_time) h));
        }))

    arrived : (z : Side) (q : Packet) (t : EndView) (k : Verdict) → AreKept d w e v → Brought s drawn w e z q → Arrives (end_now w z) w.draw q t k → LaterEnd (end_of w (other z)) (end_of w z) t
    arrived z q t k dates (ByPeer p n is found front) arrives =
        later_on (end_of w (other z)) (end_of w z) (end_now w z) t (later_same (end_of w (other z)) (end_of w z) (end_now w z) refl refl)
        (arrives_later (end_now w z) (end_of w (other z)) (asked_at w z) (asked_at w (other z)) (dated_bag d w z) (dated_bag d w (other z)) w.draw q t k
        (now_at d w z (at z)).met (λ y h. comes s drawn d w e v dates opening z p n is found y (front.chunks y h)) arrives)
    arrived z q t k dates (ByStranger strange alone) arrives =
        subst (LaterEnd (end_of w (other z)) (end_of w z)) (sym (stranger_stays s.sealing drawn (end_now w z) w.draw q t k strange alone (opening.drawn_tags z) (opening.one_seal z) arrives))
        (later_same (end_of w (other z)) (end_of w z) (end_now w z) refl refl)

    built : (z : Side) (zs : List ChunkMeaning) (t : EndView) → LaterEnd (end_of w (other z)) (end_now w z) t → LaterEnd (end_of w (other z)) (end_of w z) t
    built z zs t l = later_on (end_of w (other z)) (end_of w z) (end_now w z) t (later_same (end_of w (other z)) (end_of w z) (end_now w z) refl refl) l

  -- the reset of a stream is asked for
  module _ (z : Side) (k : ℕ) where
    asked_since : (a : ResetCall) → Since (end_of w z).sender (reset_leaves a (end_of w z) k).sender
    asked_since Begun = since_same (end_of w z).sender _ refl refl refl
    asked_since NotAgreed = since_itself (end_of w z).sender
    asked_since NoStream = since_itself (end_of w z).sender

    asked_shut : (a : ResetCall) (i : ℕ) → is_sending ((reset_leaves a (end_of w z) k).sender.resets.sending i) ≡ false →
        (is_sending ((end_of w z).sender.resets.sending i) ≡ false) ⊎ ((Reset z k ≡ Reset z i) × (Some (reset_told a) ≡ Some Done))
    asked_shut Begun i h = at_cases (λ x. is_sending x ≡ false → (is_sending ((end_of w z).sender.resets.sending i) ≡ false) ⊎ ((Reset z k ≡ Reset z i) × (Some (reset_told Begun) ≡ Some Done)))
        (end_of w z).sender.resets.sending k Resets i (λ e off. inr (ap (Reset z) (sym e), refl)) (λ ne off. inl off) h
    asked_shut NotAgreed i h = inl h
    asked_shut NoStream i h = inl h

    asked_resets : (a : ResetCall) (i : ℕ) → is_resetting ((reset_leaves a (end_of w z) k).sender.resets.sending i) ≡ true →
        (is_resetting ((end_of w z).sender.resets.sending i) ≡ true) ⊎ ((Reset z k ≡ Reset z i) × (Some (reset_told a) ≡ Some Done))
    asked_resets Begun i h = at_cases (λ x. is_resetting x ≡ true → (is_resetting ((end_of w z).sender.resets.sending i) ≡ true) ⊎ ((Reset z k ≡ Reset z i) × (Some (reset_told Begun) ≡ Some Done)))
        (end_of w z).sender.resets.sending k Resets i (λ e on. inr (ap (Reset z) (sym e), refl)) (λ ne on. inl on) h
    asked_resets NotAgreed i h = inl h
    asked_resets NoStream i h = inl h

    asked_noted : (a : ResetCall) (r : ReceiverView) (i : ℕ) → IsNoted (end_of w z).sender r i → IsNoted (reset_leaves a (end_of w z) k).sender r i
    asked_noted Begun r i h = noted_sent (end_of w z).sender _ r i refl refl h
    asked_noted NotAgreed r i h = h
    asked_noted NoStream r i h = h

    asked_freed : (a : ResetCall) (i : ℕ) → is_sending ((reset_leaves a (end_of w z) k).sender.resets.sending i) ≡ true → is_sending ((end_of w z).sender.resets.sending i) ≡ true
    asked_freed Begun i h = at_cases (λ x. is_sending x ≡ true → is_sending ((end_of w z).sender.resets.sending i) ≡ true) (end_of w z).sender.resets.sending k Resets i (λ e on. absurd (cc on)) (λ ne on. on) h
    asked_freed NotAgreed i h = h
    asked_freed NoStream i h = h

    asked_back : (a : ResetCall) (r : ReceiverView) (i : ℕ) → IsNoted (reset_leaves a (end_of w z) k).sender r i → IsNoted (end_of w z).sender r i
    asked_back Begun r i h = noted_sent _ (end_of w z).sender r i refl refl h
    asked_back NotAgreed r i h = h
    asked_back NoStream r i h = h

    asked_receiver : (a : ResetCall) → (reset_leaves a (end_of w z) k).receiver ≡ (end_of w z).receiver
    asked_receiver Begun = refl
    asked_receiver NotAgreed = refl
    asked_receiver NoStream = refl

    asks : (v : World) → IsAt w v z (reset_leaves (reset_call (end_of w z) k) (end_of w z) k) None → (x : Side) → StepGoes x w (Reset z k) (Some (reset_told (reset_call (end_of w z) k))) v
    asks v is x = go z x is (asked_since call) (asked_shut call) (asked_resets call) (asked_noted call) (asked_freed call) (asked_back call) (asked_receiver call)
      where
        call : ResetCall
        call = reset_call (end_of w z) k

        t : EndView
        t = reset_leaves call (end_of w z) k

        o : Option Outcome
        o = Some (reset_told call)

        go : (y x : Side) → IsAt w v y t None → Since (end_of w y).sender t.sender →
            ((i : ℕ) → is_sending (t.sender.resets.sending i) ≡ false → (is_sending ((end_of w y).sender.resets.sending i) ≡ false) ⊎ ((Reset z k ≡ Reset y i) × (o ≡ Some Done))) →
            ((i : ℕ) → is_resetting (t.sender.resets.sending i) ≡ true → (is_resetting ((end_of w y).sender.resets.sending i) ≡ true) ⊎ ((Reset z k ≡ Reset y i) × (o ≡ Some Done))) →
            ((r : ReceiverView) (i : ℕ) → IsNoted (end_of w y).sender r i → IsNoted t.sender r i) →
            ((i : ℕ) → is_sending (t.sender.resets.sending i) ≡ true → is_sending ((end_of w y).sender.resets.sending i) ≡ true) →
            ((r : ReceiverView) (i : ℕ) → IsNoted t.sender r i → IsNoted (end_of w y).sender r i) →
            t.receiver ≡ (end_of w y).receiver → StepGoes x w (Reset z k) o v
        go A A at since shut resets noted freed back receiver =
            sending (Reset z k) o v A t at.here at.there since shut resets (λ i h on. noted (end_of w B).receiver i h) (λ i on. inl (freed i on)) (λ i h. back (end_of w B).receiver i h)
        go B B at since shut resets noted freed back receiver =
            sending (Reset z k) o v B t at.here at.there since shut resets (λ i h on. noted (end_of w A).receiver i h) (λ i on. inl (freed i on)) (λ i h. back (end_of w A).receiver i h)
        go A B at since shut resets noted freed back receiver = still (Reset z k) o v B (ap (λ (c : EndView). c.sender) at.there) (ap (λ (c : EndView). c.receiver) at.here ∙ receiver)
        go B A at since shut resets noted freed back receiver = still (Reset z k) o v A (ap (λ (c : EndView). c.sender) at.there) (ap (λ (c : EndView). c.receiver) at.here ∙ receiver)

  -- a reset is reported
  module _ (z : Side) where
    abbrev there : Option ℕ
    there = reset_there (end_of w z)

    told_sender : (o : Option ℕ) (e : EndView) → (told_leaves o e).sender ≡ e.sender
    told_sender None e = refl
    told_sender (Some i) e = refl

    -- of another stream it is to be reported still
    told_kept : (x : Side) (i k : ℕ) (b : Bool) → (k == i) ≡ b → z ≡ other x → is_some ((end_of w z).receiver.resets.told k) ≡ true →
        (is_some (if b then None else (end_of w z).receiver.resets.told k) ≡ true) ⊎ ((n : ℕ) × (WasReset z ≡ WasReset (other x)) × (Some (resets_told (end_of w z) (Some i)) ≡ Some (ResetThere k n)))
    told_kept x i k false off is on = inl on
    told_kept x i k true own is on =
        let same : i ≡ k = sym (eqb-true k i own) in
        inr (old_waiting (end_of w z).receiver i, ap WasReset is, ap (λ (j : ℕ). Some (ResetThere j (old_waiting (end_of w z).receiver i))) same)

    untold : (k n i : ℕ) (b : Bool) → (if b then None else (end_of w z).receiver.resets.told k) ≡ Some n → (end_of w z).receiver.resets.told k ≡ Some n
    untold k n i true here = absurd (cc)
    untold k n i false here = here

    told_goes : (x : Side) (o : Option ℕ) → z ≡ other x → GoesOnBy x (WasReset z) (Some (resets_told (end_of w z) o)) (end_of w x).sender (end_of w z).receiver (end_of w x).sender (told_leaves o (end_of w z)).receiver
    told_goes x None is = record {
      ongoing = by_receiver (end_of w x).sender (end_of w z).receiver (end_of w z).receiver (onward_itself (end_of w x).sender (end_of w z).receiver);
      shut = λ k h. inl h;
      told = λ k n same. inl same;
      resets = λ k h. inl h;
      noted = λ k h on. h;
      freed = λ k on. inl on;
      kept = λ k on. inl on;
      performed = λ k h. inl h;
    }
    told_goes x (Some i) is = record {
      ongoing = record {
        since = since_itself (end_of w x).sender;
        reached = λ j h. h;
        next = λ k. omega arith;
        more = λ k. ([], sym (append-nil (handed (end_of w z).receiver k)));
        anew = λ l k h. inl h;
      };
      shut = λ k h. inl h;
      told = λ k n same. inl (untold k n i (k == i) same);
      resets = λ k h. inl h;
      noted = λ k h on. noted_received (end_of w x).sender (end_of w z).receiver (told_of (end_of w z).receiver i) k refl refl refl refl refl h;
      freed = λ k on. inl on;
      kept = λ k on. told_kept x i k (k == i) refl is on;
      performed = λ k h. inl (noted_received (end_of w x).sender (told_of (end_of w z).receiver i) (end_of w z).receiver k refl refl refl refl refl h);
    }

    tells : (v : World) → IsAt w v z (told_leaves there (end_of w z)) None → (x : Side) → StepGoes x w (WasReset z) (Some (resets_told (end_of w z) there)) v
    tells v is x = go z x refl is
      where
        across : (x : Side) → z ≡ other x → end_of v x ≡ end_of w x → end_of v (other x) ≡ told_leaves there (end_of w z) → StepGoes x w (WasReset z) (Some (resets_told (end_of w z) there)) v
        across x side here at_it =
            subst (λ (c : EndView). GoesOnBy x (WasReset z) (Some (resets_told (end_of w z) there)) (end_of w x).sender (end_of w (other x)).receiver c.sender (end_of v (other x)).receiver) (sym here)
            (subst (λ (c : EndView). GoesOnBy x (WasReset z) (Some (resets_told (end_of w z) there)) (end_of w x).sender (end_of w (other x)).receiver (end_of w x).sender c.receiver) (sym at_it)
            (subst (λ (y : Side). GoesOnBy x (WasReset z) (Some (resets_told (end_of w z) there)) (end_of w x).sender (end_of w y).receiver (end_of w x).sender (told_leaves there (end_of w z)).receiver) side
            (told_goes x there side)))

        go : (y x : Side) → z ≡ y → IsAt w v y (told_leaves there (end_of w z)) None → StepGoes x w (WasReset z) (Some (resets_told (end_of w z) there)) v
        go A A side at_it = still (WasReset z) _ v A (ap (λ (c : EndView). c.sender) at_it.here ∙ told_sender there (end_of w z) ∙ ap (λ (y : Side). (end_of w y).sender) side) (ap (λ (c : EndView). c.receiver) at_it.there)
        go B B side at_it = still (WasReset z) _ v B (ap (λ (c : EndView). c.sender) at_it.here ∙ told_sender there (end_of w z) ∙ ap (λ (y : Side). (end_of w y).sender) side) (ap (λ (c : EndView). c.receiver) at_it.there)
        go A B side at_it = across B side at_it.there at_it.here
        go B A side at_it = across A side at_it.there at_it.here

  -- a new request isn't noted
  unnoted : (z : Side) → IsUnnoted (end_of w (other z)) (end_now w z)
  unnoted z may k h = asked_unnoted _ _ (end_of w z).sender _ (end_of w (other z)).receiver _ _ (at z).met.going may k h

  pub step_goes : (e : Event) (o : Option Outcome) (v : World) → AreKept d w e v → IsFine s drawn e → Step w e o v → (x : Side) → StepGoes x w e o v
  step_goes e o v dates fine (OpensBoth y z like may dx dy) x = absurd (let q = m.closed in cc)
  step_goes e o v dates fine (OpenRefused y z off) x = same e o v x refl refl
  step_goes e o v dates fine (TimeGoesOn A n small) x = same e o v x refl refl
  step_goes e o v dates fine (TimeGoesOn B n small) x = same e o v x refl refl
  step_goes e o v dates fine (MomentComes z) x = at_one e o v z _ None (at_log w z _ _) (ticked_later (end_of w (other z)) (end_of w z) (clock_of w z)) (inr (quiet_same (end_of w z).receiver _ (ticked_receiver (end_of w z) (clock_of w z)))) x
  step_goes e o v dates fine (TimePasses n small) A = at_both e o v A (max w.clock_a n) (max w.clock_b n) refl refl
  step_goes e o v dates fine (TimePasses n small) B = at_both e o v B (max w.clock_b n) (max w.clock_a n) refl refl
  step_goes e o v dates fine (Draws c dd) x = same e o v x refl refl
  step_goes e o v dates fine (Connects c dd answer) x = absurd (no_call w.a.phase answer m.met.met.phase)
  step_goes e o v dates fine (ConnectRefused c answer) x = same e o v x refl refl
  step_goes e o v dates fine (BuildsOne z y ys t b) x = at_one e o v z t _ (at_packet w z t _) (built e o v z (y ∷ ys) t (builds_later (end_of w (other z)) (end_now w z) (y ∷ ys) t (unnoted z) b)) (inr (builds_quiet (end_now w z) (y ∷ ys) t b)) x
  step_goes e o v dates fine (BuildsNone z t b) x = at_one e o v z t None (at_end w z t) (built e o v z [] t (builds_later (end_of w (other z)) (end_now w z) [] t (unnoted z) b)) (inr (builds_quiet (end_now w z) [] t b)) x
  step_goes e o v dates fine (PacketComes _ z _ t k brings (ReadAs p _ _ arrives)) x =
      at_one e o v z t (answer_of k) (at_verdict w z t k) (arrived e o v z p t k dates (brought_whole s drawn w e z p fine brings) arrives) (inl (heard_by w e z _ brings)) x
  step_goes e o v dates fine (PacketComes _ z _ _ k brings DroppedUnread) x =
      at_one e o v z (end_now w z) None (at_came w z (end_now w z)) (later_same (end_of w (other z)) (end_of w z) (end_now w z) refl refl) (inr (quiet_same (end_of w z).receiver _ refl)) x
  step_goes e o v dates fine (PacketCut _ z _ _ brings (CutFirst _)) x =
      at_one e o v z (end_now w z) None (at_came w z (end_now w z)) (later_same (end_of w (other z)) (end_of w z) (end_now w z) refl refl) (inr (quiet_same (end_of w z).receiver _ refl)) x
  step_goes e o v dates fine (PacketCut _ z _ t brings (CutLater p y front back c _ k part arrives untold)) x =
      at_one e o v z t None (at_came w z t) (arrived e o v z (cut_to p (y ∷ front)) t k dates (brought_cut s drawn w e z p y front back c fine brings part) arrives) (inl (heard_by w e z _ brings)) x
  step_goes e o v dates fine (IsAbsent z n none) x = same e o v x refl refl
  step_goes e o v dates fine (Sends z c) x = at_one e o v z _ None (at_log w z _ _) (sent_later (end_of w (other z)) (end_of w z) c) (inr (sent_quiet (send_answer (end_of w z) c) (end_of w z) c)) x
  step_goes e o v dates fine (AbandonsOne z k) x = at_one e o v z _ None (at_log w z _ _) (abandoned_later (end_of w (other z)) (end_of w z) k) (inr (abandoned_quiet (end_of w z) k)) x
  step_goes e o v dates fine (TakesOne z n h t takes) x =
      at_one e o v z t None (at_end w z t) (taken_later (end_of w (other z)) (end_of w z) (asked_at w z) (asked_at w (other z)) (dated_bag d w z) (dated_bag d w (other z)) n h t (at z).met takes) (inr (taken_quiet (end_of w z) n h t takes)) x
  step_goes e o v dates fine (ResetsOne z k) x = asks z k v (at_end w z (reset_leaves (reset_call (end_of w z) k) (end_of w z) k)) x
  step_goes e o v dates fine (TellsReset z) x = tells z v (at_end w z _) x
  step_goes e o v dates fine (ShutsDown z) x = at_one e o v z _ None (at_end w z _) (shut_later (end_of w (other z)) (end_of w z)) (inr (shut_quiet (end_of w z))) x
  step_goes e o v dates fine (AbortsIt z why) x =
      let k = abort_answer (end_of w z) why in
      at_one e o v z (abort_leaves k (end_of w z)) (abort_of k) (at_abort w z _ k) (aborted_later (end_of w (other z)) (end_of w z) k) (inr (aborted_quiet (end_of w z) k)) x
  step_goes e o v dates fine (NoMemory _ other_event) x = same e o v x refl refl
