-- One direction of a world that is safe: each message that was delivered on a stream is matched with one that was sent.
use Rattle.std.proofs.Common.{◌≡◌, ℕ, ◌<◌, ◌≤◌, ◌⊎◌, true, List, [], ◌∷◌, map, Option, Some, inl, inr, refl, sym, subst, ap, ◌∙◌, arith}
use Rattle.std.proofs.lemmas.Bool.{cases_lt}
use Rattle.sctp_model.specs.numbers.Lists.{Has, item_at, AreInOrder}
use Rattle.sctp_model.specs.messages.Format.{Kind, Ordered, Unordered, Lane, ordered_lane, unordered_lane}
use Rattle.sctp_model.specs.messages.Plan.{Message, Part, entry_at, message_at, bytes_of}
use Rattle.sctp_model.specs.messages.Orderly.{Orderly}
use Rattle.sctp_model.specs.sender.SenderView.{SenderView, IsDrained}
use Rattle.sctp_model.specs.sender.Readers.{acknowledged}
use Rattle.sctp_model.specs.sender.Reached.{IsReached}
use Rattle.sctp_model.specs.receiver.ReceiverView.{Handed, ReceiverView, handed}
use Rattle.sctp_model.specs.world.Calls.{Call, Asked}
use Rattle.sctp_model.specs.world.Safe.{Safe, IsSent, IsNumberLess}
use Rattle.sctp_model.specs.end.EndView.{Over, Completed, ended_of, format_of}
use Rattle.sctp_model.specs.world.World.{Side, other, World, end_of}
use Rattle.sctp_model.specs.world.Premises.{asked_at, IsAllArrived}
use Rattle.sctp_safety.proofs.runs.Directions.{IsKnown}
use Rattle.sctp_outcomes.specs.Users.{Sent, Exchange, Match, IsMatch, IsDelivered}
use Rattle.sctp_outcomes.proofs.users.Accepted.{calls_of}
use Rattle.sctp_outcomes.proofs.users.Runs.{AreNumbered, call_of_sent, sent_of_call}

abbrev pub lane_for : Kind → ℕ → Lane
lane_for Ordered n = ordered_lane n
lane_for Unordered n = unordered_lane n

-- a message of the plan, as it was handed in
abbrev pub handed_in : Lane → Message → Sent
handed_in l m = record { ticket = m.ticket; call = record { lane = l; payload = m.payload; bytes = bytes_of m; until = m.until; limit = m.limit } }

-- what is mapped is of something
pub mapped_from : (ms : List Match) (hs : List Handed) (h : Handed) → map (λ (m : Match). m.message) ms ≡ hs → Has hs h → (m : Match) × Has ms m × (m.message ≡ h)
mapped_from ms hs h all has = go ms (subst (λ (ks : List Handed). Has ks h) (sym all) has)
  where
    go : (ms : List Match) → Has (map (λ (m : Match). m.message) ms) h → (m : Match) × Has ms m × (m.message ≡ h)
    go [] has = absurd has
    go (m ∷ ms) (inl own) = (m, inl refl, own)
    go (m ∷ ms) (inr has) = let r = go ms has in (r.0, inr r.1, r.2)

module _ (w : World) (x : Side) (n : ℕ) where
  abbrev pub a : SenderView
  a = (end_of w x).sender

  abbrev pub r : ReceiverView
  r = (end_of w (other x)).receiver

  abbrev pub u : Asked
  u = asked_at w x

  -- What is known of it: SAFE, and that its log is what events and answers show.
  pub record IsTold (ss : List Sent) (ts : List ℕ) (now : ℕ) : Type 0 where
    pub safe : Safe (format_of (end_of w x)) a r u
    pub orderly : Orderly (format_of (end_of w x)) a.plan
    pub reached : IsReached (format_of (end_of w x)) a
    pub known : IsKnown a u r
    pub numbered : AreNumbered 0 ss
    pub calls : u.calls ≡ calls_of ss
    pub named : (t : ℕ) → u.named t ≡ true → Has ts t
    pub clock : u.clock ≡ now
    pub closed : (y : Side) → (end_of w y).phase ≡ Over Completed → IsAllArrived a r × IsDrained a

  -- a message that was delivered, and the one that was sent
  pub record Right (m : Match) : Type 0 where
    pub kind : Kind
    pub sent : IsSent a.plan (lane_for kind n) m.message
    pub is : handed_in (lane_for kind n) sent.message ≡ m.sent
    pub number : m.message.lane.kind ≡ Ordered → m.message.number ≡ Some sent.number

  ticket_of : (m : Match) (q : Right m) → q.sent.message.ticket ≡ m.sent.ticket
  ticket_of m q = ap (λ (s : Sent). s.ticket) q.is

  record Found (h : Handed) : Type 0 where
    sent : Sent
    right : Right (record { message = h; sent = sent })

  module _ (ss : List Sent) (ts : List ℕ) (now : ℕ) (told : IsTold ss ts now) where
    abbrev pub exchanged : List Handed → Exchange
    exchanged hs = record {
      stream = n;
      sent = ss;
      named = ts;
      time = now;
      partial = a.partial;
      acknowledged = λ t. acknowledged a t;
      taken = hs;
      waiting = r.waiting n;
      held = r.kept;
      ended = λ y. ended_of (end_of w y).phase;
    }

    found : (h : Handed) → Has (handed r n) h → Found h
    found h has = go h.lane.kind refl
      where
        go : (k : Kind) → h.lane.kind ≡ k → Found h
        go Ordered is = let s = told.safe.in_order.sent n h has is in record {
          sent = handed_in (ordered_lane n) s.0.message;
          right = record { kind = Ordered; sent = s.0; is = refl; number = λ ord. s.1 };
        }
        go Unordered is = let s = told.safe.once.sent n h has is in record {
          sent = handed_in (unordered_lane n) s.message;
          right = record { kind = Unordered; sent = s; is = refl; number = λ ord. absurd (let no : Ordered ≡ Unordered = sym ord ∙ is in cc) };
        }

    on_stream : (k : Kind) → (lane_for k n).stream ≡ n
    on_stream Ordered = refl
    on_stream Unordered = refl

    -- each message of the plan was sent
    pub was_accepted : (l : Lane) (k : ℕ) (m : Message) → message_at a.plan l k ≡ Some m → Has ss (handed_in l m)
    was_accepted l k m named = sent_of_call ss m.ticket (handed_in l m).call told.numbered (subst (λ (cs : List Call). item_at cs m.ticket ≡ Some (handed_in l m).call) told.calls (told.safe.asked.called l k m named))

    -- and one that was sent with its ticket is that one
    pub sent_is : (l : Lane) (k : ℕ) (m : Message) (s : Sent) → message_at a.plan l k ≡ Some m → Has ss s → m.ticket ≡ s.ticket → handed_in l m ≡ s
    sent_is l k m s named has ticket =
        let own = call_of_sent ss (handed_in l m) told.numbered (was_accepted l k m named) in
        let its : item_at (calls_of ss) m.ticket ≡ Some s.call = subst (λ (t : ℕ). item_at (calls_of ss) t ≡ Some s.call) (sym ticket) (call_of_sent ss s told.numbered has) in
        let same : (handed_in l m).call ≡ s.call = cc in
        let with_ticket : handed_in l m ≡ record { ticket = s.ticket; call = (handed_in l m).call } = ap (λ (t : ℕ). record { ticket = t; call = (handed_in l m).call }) ticket in
        let with_call : record { ticket = s.ticket; call = (handed_in l m).call } ≡ s = ap (λ (c : Call). record { ticket = s.ticket; call = c }) same in
        with_ticket ∙ with_call

    -- it is a match
    pub is_match : (hs : List Handed) (m : Match) → Right m → IsMatch (exchanged hs) m
    is_match hs m q = record {
      was_sent = record {
        accepted = subst (Has ss) q.is (was_accepted (lane_for q.kind n) q.sent.number q.sent.message q.sent.complete.0);
        stream = subst (λ (s : Sent). s.call.lane.stream ≡ n) q.is (on_stream q.kind);
      };
      lane = q.sent.lane ∙ ap (λ (s : Sent). s.call.lane) q.is;
      payload = q.sent.payload ∙ ap (λ (s : Sent). s.call.payload) q.is;
      bytes = q.sent.bytes ∙ ap (λ (s : Sent). s.call.bytes) q.is;
    }

    -- one ticket, one message
    one_ticket : (m k : Match) (q : Right m) (p : Right k) → m.sent.ticket ≡ k.sent.ticket → (m.message.first ≡ k.message.first) × (q.sent.number ≡ p.sent.number)
    one_ticket m k q p same =
        let s = q.sent in
        let t = p.sent in
        let one = told.safe.asked.once (lane_for q.kind n) (lane_for p.kind n) s.number t.number s.message t.message s.complete.0 t.complete.0 (ticket_of m q ∙ same ∙ sym (ticket_of k p)) in
        let there : entry_at a.plan k.message.first ≡ Some (Part (lane_for q.kind n) s.number 0) =
        t.first ∙ ap (λ (l : Lane). Some (Part l t.number 0)) (sym one.0) ∙ ap (λ (i : ℕ). Some (Part (lane_for q.kind n) i 0)) (sym one.1) in
        (told.orderly.numbered.once m.message.first k.message.first (lane_for q.kind n) s.number 0 s.first there, one.1)

    pub kind_is : (m : Match) (q : Right m) → m.message.lane.kind ≡ Ordered → q.kind ≡ Ordered
    kind_is m q ord = back q.kind (ap (λ (l : Lane). l.kind) (sym q.sent.lane) ∙ ord)
      where
        back : (k : Kind) → (lane_for k n).kind ≡ Ordered → k ≡ Ordered
        back Ordered is = refl
        back Unordered is = absurd (cc)

    -- ordered ones come in the order of their tickets
    in_turn : (m k : Match) (q : Right m) (p : Right k) → m.message.lane.kind ≡ Ordered → k.message.lane.kind ≡ Ordered → IsNumberLess m.message.number k.message.number → m.sent.ticket < k.sent.ticket
    in_turn m k q p om ok less = go (cases_lt m.sent.ticket k.sent.ticket)
      where
        s : IsSent a.plan (lane_for q.kind n) m.message
        s = q.sent

        t : IsSent a.plan (lane_for p.kind n) k.message
        t = p.sent

        lanes : lane_for q.kind n ≡ lane_for p.kind n
        lanes = ap (λ (j : Kind). lane_for j n) (kind_is m q om ∙ sym (kind_is k p ok))

        numbers : s.number < t.number
        numbers = subst (λ (i : Option ℕ). IsNumberLess (Some s.number) i) (p.number ok) (subst (λ (i : Option ℕ). IsNumberLess i k.message.number) (q.number om) less)

        later : entry_at a.plan k.message.first ≡ Some (Part (lane_for q.kind n) t.number 0)
        later = t.first ∙ ap (λ (l : Lane). Some (Part l t.number 0)) (sym lanes)

        places : m.message.first < k.message.first
        places = told.orderly.counted (lane_for q.kind n) s.number t.number numbers m.message.first k.message.first _ _ s.first (refl, refl) later (refl, refl)

        streams : (lane_for p.kind n).stream ≡ (lane_for q.kind n).stream
        streams = ap (λ (l : Lane). l.stream) (sym lanes)

        go : (m.sent.ticket < k.sent.ticket) ⊎ (k.sent.ticket ≤ m.sent.ticket) → m.sent.ticket < k.sent.ticket
        go (inl lt) = lt
        go (inr ge) = decide (cases_lt k.sent.ticket m.sent.ticket)
          where
            decide : (k.sent.ticket < m.sent.ticket) ⊎ (m.sent.ticket ≤ k.sent.ticket) → m.sent.ticket < k.sent.ticket
            decide (inl gt) =
                let tickets : t.message.ticket < s.message.ticket = (let c = ticket_of m q in let d = ticket_of k p in omega (arith, gt, c, d)) in
                let back = told.safe.asked.order k.message.first m.message.first _ _ (lane_for p.kind n) (lane_for q.kind n) t.number s.number t.message s.message
                t.first (refl, refl) t.complete.0 s.first (refl, refl) s.complete.0 streams tickets in
                absurd (omega (arith, back, places))
            decide (inr le) =
                let equal : m.sent.ticket ≡ k.sent.ticket = omega (arith, ge, le) in
                let no = (one_ticket m k q p equal).1 in absurd (omega (arith, no, numbers))

    -- all that was delivered, match by match
    pub record Built (hs : List Handed) : Type 0 where
      pub matches : List Match
      pub all : map (λ (m : Match). m.message) matches ≡ hs
      pub each : (m : Match) → Has matches m → Right m × Has hs m.message
      pub once : AreInOrder (λ (m k : Match). m.sent.ticket ≡ k.sent.ticket → ⊥) matches
      pub in_order : AreInOrder (λ (m k : Match). m.message.lane.kind ≡ Ordered → k.message.lane.kind ≡ Ordered → m.sent.ticket < k.sent.ticket) matches

    put : (h : Handed) (hs : List Handed) → Has (handed r n) h → ((k : Handed) → Has hs k → h.first ≡ k.first → ⊥)
        → ((k : Handed) → Has hs k → h.lane.kind ≡ Ordered → k.lane.kind ≡ Ordered → IsNumberLess h.number k.number) → Built hs → Built (h ∷ hs)
    put h hs within apart less rest = record {
      matches = m ∷ rest.matches;
      all = ap (λ (ks : List Handed). h ∷ ks) rest.all;
      each = each;
      once = (λ k has same. apart k.message (rest.each k has).1 (one_ticket m k f.right (rest.each k has).0 same).0, rest.once);
      in_order = (λ k has om ok. in_turn m k f.right (rest.each k has).0 om ok (less k.message (rest.each k has).1 om ok), rest.in_order);
    }
      where
        f : Found h
        f = found h within

        m : Match
        m = record { message = h; sent = f.sent }

        each : (k : Match) → Has (m ∷ rest.matches) k → Right k × Has (h ∷ hs) k.message
        each k (inl same) = subst (λ (j : Match). Right j × Has (h ∷ hs) j.message) same (f.right, inl refl)
        each k (inr more) = ((rest.each k more).0, inr (rest.each k more).1)

    build : (hs : List Handed) → ((h : Handed) → Has hs h → Has (handed r n) h) → AreInOrder (λ (h k : Handed). h.first ≡ k.first → ⊥) hs
        → AreInOrder (λ (h k : Handed). h.lane.kind ≡ Ordered → k.lane.kind ≡ Ordered → IsNumberLess h.number k.number) hs → Built hs
    build [] within apart rising = record { matches = []; all = refl; each = λ m none. absurd none; once = tt; in_order = tt }
    build (h ∷ hs) within (apart, others) (less, rising) = put h hs (within h (inl refl)) apart less (build hs (λ k has. within k (inr has)) others rising)

    pub built : Built (handed r n)
    built = build (handed r n) (λ h has. has) (told.safe.once.apart n) (told.safe.in_order.rising n)

    -- a message of the plan that was delivered is among them
    pub delivered : (h : Handed) → Has (handed r n) h → (l : Lane) (k : ℕ) (m : Message) → message_at a.plan l k ≡ Some m → entry_at a.plan h.first ≡ Some (Part l k 0)
        → (s : Sent) → Has ss s → m.ticket ≡ s.ticket → IsDelivered built.matches s
    delivered h has l k m named first s accepted ticket =
        let f = mapped_from built.matches (handed r n) h built.all has in
        let q = (built.each f.0 f.1).0 in
        let its : entry_at a.plan h.first ≡ Some (Part (lane_for q.kind n) q.sent.number 0) =
        subst (λ (i : ℕ). entry_at a.plan i ≡ Some (Part (lane_for q.kind n) q.sent.number 0)) (ap (λ (z : Handed). z.first) f.2) q.sent.first in
        let entry : Part (lane_for q.kind n) q.sent.number 0 ≡ Part l k 0 = cc in
        let lane : lane_for q.kind n ≡ l = cc entry in
        let number : q.sent.number ≡ k = cc entry in
        let there : message_at a.plan l k ≡ Some q.sent.message = subst (λ (y : Lane). message_at a.plan y k ≡ Some q.sent.message) lane (subst (λ (y : ℕ). message_at a.plan (lane_for q.kind n) y ≡ Some q.sent.message) number q.sent.complete.0) in
        let message : q.sent.message ≡ m = cc (named, there) in
        (f.0, f.1, sym q.is ∙ ap (λ (y : Lane). handed_in y q.sent.message) lane ∙ ap (λ (y : Message). handed_in l y) message ∙ sent_is l k m s named accepted ticket)
