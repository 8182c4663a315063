-- The fast path: if no slot but the SACK's is due, a packet of SACK and user data is the specification's next packet.
use Rattle.std.proofs.Common.{◌≡◌, ◌∙◌, ℕ, Bool, true, false, ◌&&◌, [], ◌∷◌, Option, Result, Ok, Err, IfOk, refl, ap, sym, subst}
use Rattle.sctp_model.specs.sender.SenderView.{SenderView}
use Rattle.sctp_model.specs.end.EndView as model
use Rattle.sctp_model.specs.end.EndView.{EndView, Alarm, InitAlarm, CookieAlarm, DataAlarm, ShutdownAlarm, AckAlarm, ResetAlarm, BeatAlarm, GuardAlarm, format_of, format_for}
use Rattle.sctp_model.specs.end.Clock.{is_point_past}
use Rattle.sctp_model.specs.end.Pacing.{Pace}
use Rattle.sctp_model.specs.end.Building.{CookieAckSlot, HeartbeatSlot, BeatSlot, ErrorSlot, SackSlot, ForwardSlot, AnswerSlot, RequestSlot, ShutdownSlot, ShutdownAckSlot, open_slots, filled_behind, sent}
use Rattle.sctp_packet.specs.Draft.{Draft}
use Rattle.sctp_association.specs.declared.build.sendings.Filled.{Filled}
use Rattle.sctp_values.specs.declared.no_memory.NoMemory.{NoMemory}
use Rattle.sctp_congestion.specs.PaceStands.{PacesStand}
use Rattle.sctp_congestion.specs.declared.pacing.Pacing.{Pacing}
use Rattle.sctp_association.specs.StartsMean.{starts_at, with_fragments}
use Rattle.sctp_association.specs.DueStands.{DueStands}
use Rattle.sctp_association.specs.PhaseMeans.{phase_unjoined}
use Rattle.sctp_association.specs.MachineStands.{KeepsMachine}
use Rattle.sctp_association.specs.Drafted.{due_left, drafted, IsFresh, IsOf, IsEmpty, PutsAt, IsPacked, IsWhole}
use Rattle.sctp_association.specs.FillsBehind.{FillsBehind}
use Rattle.sctp_association.specs.PlainPacket.{IsPlain, IsCalm, fragments_alone, plain_marks}
use Rattle.sctp_association.specs.declared.state.due.Due.{Due}
use Rattle.sctp_association.specs.declared.state.life.Unjoined.{Unjoined}
use Rattle.sctp_association.specs.declared.state.life.Unjoined.TheVariants.{Idle, Listening, Calling, Failed}
use Rattle.sctp_association.specs.declared.state.life.Association.{Association}
use Rattle.sctp_association.specs.declared.state.life.Life.TheVariants as life
use Rattle.sctp_association.specs.declared.traffic.Traffic.{Traffic}
use Rattle.sctp_association.specs.declared.build.plain.Plain.{Plain}
use Rattle.sctp_association.specs.declared.build.packing.Packing.{Packing}
use Rattle.sctp_association.specs.declared.machine.Machine.{Machine}
use Rattle.sctp_association.proofs.PutLemmas.{not_due, joined, cut}
use Rattle.sctp_association.proofs.RequestLemmas.{unanswered, unrequested}
use Rattle.sctp_association.proofs.SameLemmas.{due_same, drafted_same}
use Rattle.sctp_association.proofs.BuildLemmas.{fills_packet, with_traffic_and_pace}

-- a plain packet in the making
abbrev pub plain_at : Due → Draft → (sack fragments : Bool) → Packing
plain_at d w sack fragments = record { writer = w; marks = plain_marks d sack fragments }

-- ---- the places

module _ (e : EndView) (d : Due) (plain : IsPlain d e.due) (calm : IsCalm e) where
  front : (w : Draft) (s : Bool) → IsOf e (plain_at d w s false)
      → PutsAt (CookieAckSlot ∷ HeartbeatSlot ∷ BeatSlot ∷ ErrorSlot ∷ []) e (plain_at d w s false) (plain_at d w s false) true
  front w s packet =
      let p = plain_at d w s false in
      joined (CookieAckSlot ∷ []) (HeartbeatSlot ∷ BeatSlot ∷ ErrorSlot ∷ []) e p p p true true refl (not_due CookieAckSlot e p plain.cookie_ack packet)
      (joined (HeartbeatSlot ∷ []) (BeatSlot ∷ ErrorSlot ∷ []) e p p p true true refl (not_due HeartbeatSlot e p plain.heartbeat packet)
      (joined (BeatSlot ∷ []) (ErrorSlot ∷ []) e p p p true true refl (not_due BeatSlot e p plain.beat packet) (not_due ErrorSlot e p plain.causes packet)))

  back : (w : Draft) (s : Bool) → IsOf e (plain_at d w s false)
      → PutsAt (ForwardSlot ∷ AnswerSlot ∷ RequestSlot ∷ ShutdownSlot ∷ ShutdownAckSlot ∷ []) e (plain_at d w s false) (plain_at d w s false) true
  back w s packet =
      let p = plain_at d w s false in
      joined (ForwardSlot ∷ AnswerSlot ∷ RequestSlot ∷ []) (ShutdownSlot ∷ ShutdownAckSlot ∷ []) e p p p true true refl
      (joined (ForwardSlot ∷ []) (AnswerSlot ∷ RequestSlot ∷ []) e p p p true true refl (not_due ForwardSlot e p (ap (λ (b : Bool). b && is_point_past e.sender) plain.forward) packet)
      (joined (AnswerSlot ∷ []) (RequestSlot ∷ []) e p p p true true refl (unanswered e p calm.answers packet) (unrequested e p plain.request packet)))
      (joined (ShutdownSlot ∷ []) (ShutdownAckSlot ∷ []) e p p p true true refl (not_due ShutdownSlot e p plain.shutdown packet) (not_due ShutdownAckSlot e p plain.shutdown_ack packet))

  -- what goes in at all places is what goes in at that of the SACK
  pub all_slots : (old new : Draft) (s t room : Bool) → IsOf e (plain_at d old s false)
      → PutsAt (SackSlot ∷ []) e (plain_at d old s false) (plain_at d new t false) room → PutsAt open_slots e (plain_at d old s false) (plain_at d new t false) room
  all_slots old new s t true packet puts =
      let p = plain_at d old s false in
      let q = plain_at d new t false in
      joined (CookieAckSlot ∷ HeartbeatSlot ∷ BeatSlot ∷ ErrorSlot ∷ []) (SackSlot ∷ ForwardSlot ∷ AnswerSlot ∷ RequestSlot ∷ ShutdownSlot ∷ ShutdownAckSlot ∷ []) e p p q true true refl (front old s packet)
      (joined (SackSlot ∷ []) (ForwardSlot ∷ AnswerSlot ∷ RequestSlot ∷ ShutdownSlot ∷ ShutdownAckSlot ∷ []) e p q q true true refl puts (back new t puts.packet))
  all_slots old new s t false packet puts =
      let p = plain_at d old s false in
      let q = plain_at d new t false in
      joined (CookieAckSlot ∷ HeartbeatSlot ∷ BeatSlot ∷ ErrorSlot ∷ []) (SackSlot ∷ ForwardSlot ∷ AnswerSlot ∷ RequestSlot ∷ ShutdownSlot ∷ ShutdownAckSlot ∷ []) e p p q true false refl (front old s packet)
      (cut (SackSlot ∷ []) (ForwardSlot ∷ AnswerSlot ∷ RequestSlot ∷ ShutdownSlot ∷ ShutdownAckSlot ∷ []) e p q false refl puts)

-- fragments behind the SACK
pub plain_fills : (e : EndView) (t : model.Tags) (g : model.Stage) (d : Due) (old mid new : Draft) (s some : Bool) (traffic : Traffic) (filled : Filled) → e.phase ≡ model.Open t g
    → (q : Option Pacing) → IsCalm e → IsEmpty e (plain_at d old s false) → PutsAt open_slots e (plain_at d old s false) (plain_at d mid false false) true
    → FillsBehind e.pace e (plain_at d mid false false) (plain_at d new false some) traffic filled
    → PacesStand (format_of e) (filled_behind (drafted (plain_marks d false false) e) mid.chunks).view.cum q (sent (drafted (plain_marks d false false) e) mid.chunks).pace
    → IsWhole e traffic q (plain_at d new false some) filled
plain_fills e t g d old mid new s some traffic filled phase q calm empty puts fills paced =
    fills_packet {E = NoMemory} (Ok filled) e t g (plain_at d old s false) (plain_at d mid false false) (plain_at d new false some) true traffic q phase calm.unasked empty refl puts fills paced

-- no timer but that of fragments starts
starts_alone_at : (b : Bool) (a : Alarm) → starts_at (fragments_alone b) a ≡ with_fragments b (starts_at (fragments_alone false)) a
starts_alone_at true InitAlarm = refl
starts_alone_at true CookieAlarm = refl
starts_alone_at true DataAlarm = refl
starts_alone_at true ShutdownAlarm = refl
starts_alone_at true AckAlarm = refl
starts_alone_at true ResetAlarm = refl
starts_alone_at true BeatAlarm = refl
starts_alone_at true GuardAlarm = refl
starts_alone_at false a = refl

pub starts_alone : (b : Bool) → starts_at (fragments_alone b) ≡ with_fragments b (starts_at (fragments_alone false))
starts_alone b = λ i a. starts_alone_at b a i

none_start_at : (a : Alarm) → starts_at (fragments_alone false) a ≡ false
none_start_at InitAlarm = refl
none_start_at CookieAlarm = refl
none_start_at DataAlarm = refl
none_start_at ShutdownAlarm = refl
none_start_at AckAlarm = refl
none_start_at ResetAlarm = refl
none_start_at BeatAlarm = refl
none_start_at GuardAlarm = refl

pub none_start : starts_at (fragments_alone false) ≡ (λ a. false)
none_start = λ i a. none_start_at a i

-- ---- the end

-- one that never had an association isn't open
pub never_open : (x : Unjoined) (t : model.Tags) (g : model.Stage) → phase_unjoined x ≡ model.Open t g → ⊥
never_open Idle t g is = cc
never_open Listening t g is = cc
never_open (Calling d) t g is = cc
never_open (Failed why) t g is = cc

pub plain_sender : (r : Result Plain NoMemory) (v : EndView) (n : ℕ) (d : Due) (w : Draft) (m : Machine) (a b : Association) (q : Option Pacing) → m.life ≡ life.Joined a → KeepsMachine m v
    → b ≡ record a { traffic = b.traffic } → IfOk r (λ p. IsWhole (record v { moment = n }) b.traffic q (plain_at d w p.sack p.fragments) p.filled)
    → IfOk r (λ p. (x : SenderView) × (o : Option Pace) × IsPacked (record v { moment = n }) x o (plain_at d w p.sack p.fragments) p.filled
    × KeepsMachine (record m { life = life.Joined b; pace = q }) (record v { sender = x; pace = o }))
plain_sender (Ok p) v n d w m a b q is k kept x =
    (x.sender, x.after, x.packed, with_traffic_and_pace m a b v x.sender q x.after is k kept x.traffic_stands x.pace_stands x.unpaced)
plain_sender (Err failed) v n d w m a b q is k kept x = x

-- what is due behind it
pub due_plain : (d n : Due) (x : model.Due) (s f : Bool) → DueStands d x → DueStands n (record x { sack = s }) → DueStands n (due_left (plain_marks d s f) x)
due_plain d n x s f was now = record {
  init = now.init ∙ sym was.init;
  cookie_echo = now.cookie_echo ∙ sym was.cookie_echo;
  cookie_ack = now.cookie_ack ∙ sym was.cookie_ack;
  heartbeat = now.heartbeat;
  beat = now.beat;
  causes = now.causes;
  sack = now.sack;
  forward = now.forward ∙ sym was.forward;
  request = now.request ∙ sym was.request;
  shutdown = now.shutdown ∙ sym was.shutdown;
  shutdown_ack = now.shutdown_ack ∙ sym was.shutdown_ack;
}

-- nothing went in yet
pub plain_empty : (v : EndView) (moment : ℕ) (d : Due) (w : Draft) → IsFresh v w → DueStands d v.due → IsEmpty (record v { moment = moment }) (plain_at d w d.sack false)
plain_empty v moment d w fresh due =
    let m = plain_marks d d.sack false in
    record {
      packet = record { options = fresh.options; limit = fresh.limit; source = fresh.source; destination = fresh.destination; tag = fresh.tag; sack = λ still. sym due.sack ∙ still };
      chunks = fresh.chunks;
      same = drafted_same m (record v { moment = moment })
          (due_same m v.due due.init due.cookie_echo due.cookie_ack refl refl due.sack due.forward due.request due.shutdown due.shutdown_ack) due.sack refl none_start;
    }

pub still_plain : (d n : Due) (x : model.Due) → n ≡ d → IsPlain d x → IsPlain n x
still_plain d n x same plain = subst (λ (y : Due). IsPlain y x) (sym same) plain
