-- What is good is safe.
use Rattle.std.proofs.Common.{◌≡◌, ℕ, ◌<◌, ◌⊎◌, true, length, Some, inl, inr, refl, sym, subst, ap}
use Rattle.sctp_model.specs.numbers.Lists.{Has}
use Rattle.sctp_model.specs.messages.Format.{Format, Plain, Interleaved, Kind, Ordered, Unordered, Lane, is_numbered, ordered_lane, unordered_lane}
use Rattle.sctp_model.specs.messages.Plan.{Message, Part, Plan, entry_at, message_at, IsAssigned, IsComplete}
use Rattle.sctp_model.specs.messages.Pieces.{piece_of}
use Rattle.sctp_model.specs.sender.SenderView.{SenderView}
use Rattle.sctp_model.specs.receiver.ReceiverView.{Handed, ReceiverView, handed, Reaches}
use Rattle.sctp_model.specs.world.Safe.{IsSent, WasHanded, IsHeldWhole, IsInOrder, IsPassedRightly, IsOnce, IsKept, Safe}
use Rattle.sctp_safety.specs.Way.{Way}
use Rattle.sctp_safety.proofs.lists.Basics.{each_or, item_at-above, lane_is}
use Rattle.sctp_safety.proofs.moves.Facts.{IsLost, IsOver, IsSettled, Good}
use Rattle.sctp_safety.proofs.plan.EntryLemmas.{lost_at}

pub ordered_numbered : (f : Format) → is_numbered f Ordered ≡ true
ordered_numbered Plain = refl
ordered_numbered Interleaved = refl

-- a message of the plan, under another name of its lane
abbrev pub renamed : (p : Plan) (l k : Lane) (h : Handed) → l ≡ k → IsSent p l h → IsSent p k h
renamed p l k h e x = record {
  number = x.number;
  message = x.message;
  lane = subst (λ (u : Lane). h.lane ≡ u) e x.lane;
  complete = subst (λ (u : Lane). IsComplete p u x.number x.message) e x.complete;
  first = subst (λ (u : Lane). entry_at p h.first ≡ Some (Part u x.number 0)) e x.first;
  payload = x.payload;
  bytes = x.bytes;
}

-- what has become of a fragment whose index was seen
pub settled_at : (f : Format) (a : SenderView) (r : ReceiverView) (i : ℕ) (l : Lane) (n k : ℕ) (m : Message) → message_at a.plan l n ≡ Some m →
    entry_at a.plan i ≡ Some (Part l n k) → IsSettled f a r i → Has r.kept (piece_of f i l n k m) ⊎ IsOver f a r l n
settled_at f a r i l n k m named here y = go y.state
  where
    entry : Part y.lane y.number y.fragment ≡ Part l n k
    entry = let h = y.here in cc here

    el : y.lane ≡ l
    el = cc entry

    en : y.number ≡ n
    en = cc entry

    ek : y.fragment ≡ k
    ek = cc entry

    em : y.message ≡ m
    em = let h = y.named in cc (el, en, named)

    go : Has r.kept (piece_of f i y.lane y.number y.fragment y.message) ⊎ IsOver f a r y.lane y.number → Has r.kept (piece_of f i l n k m) ⊎ IsOver f a r l n
    go (inl h) = inl (subst (λ (u : Lane). Has r.kept (piece_of f i u n k m)) el
        (subst (λ (u : ℕ). Has r.kept (piece_of f i y.lane u k m)) en
        (subst (λ (u : ℕ). Has r.kept (piece_of f i y.lane y.number u m)) ek
        (subst (λ (u : Message). Has r.kept (piece_of f i y.lane y.number y.fragment u)) em h))))
    go (inr h) = inr (subst (λ (u : Lane). IsOver f a r u n) el (subst (λ (u : ℕ). IsOver f a r y.lane u) en h))

module _ (w : Way) (g : Good w) where
  in_order : IsInOrder w.sender w.receiver
  in_order = record { rising = g.held.told.rising; sent = sent }
    where
      sent : (s : ℕ) (h : Handed) → Has (handed w.receiver s) h → h.lane.kind ≡ Ordered →
          (x : IsSent w.sender.plan (ordered_lane s) h) × (h.number ≡ Some x.number)
      sent s h has kind =
          let x = g.held.told.honest s h has in
          let e : h.lane ≡ ordered_lane s = lane_is h.lane (ordered_lane s) x.stream kind in (
            renamed w.sender.plan h.lane (ordered_lane s) h e x.sent,
            x.counted (subst (λ (u : Kind). is_numbered w.format u ≡ true) (sym kind) (ordered_numbered w.format)),
          )

  passed_rightly : IsPassedRightly w.sender w.receiver
  passed_rightly s n l = go (g.held.told.passed s n l)
    where
      Claim : Type 0
      Claim = ((h : Handed) × Has (handed w.receiver s) h × (h.lane.kind ≡ Ordered) × (h.number ≡ Some n)) ⊎ (w.sender.abandoned (ordered_lane s) n ≡ true)

      go : WasHanded w.sender.plan w.receiver (ordered_lane s) n ⊎ (w.sender.abandoned (ordered_lane s) n ≡ true) → Claim
      go (inr d) = inr d
      go (inl (h, has, lane, here)) =
          let x = g.held.told.honest s h has in
          let kind : h.lane.kind ≡ Ordered = ap (λ (u : Lane). u.kind) lane in
          let first = x.sent.first in
          let entry : Part h.lane x.sent.number 0 ≡ Part (ordered_lane s) n 0 = cc in
          let counted = x.counted (subst (λ (u : Kind). is_numbered w.format u ≡ true) (sym kind) (ordered_numbered w.format)) in
          let number : x.sent.number ≡ n = cc in
          inl (h, has, kind, cc)

  once : IsOnce w.sender w.receiver
  once = record { apart = g.held.told.apart; sent = sent }
    where
      sent : (s : ℕ) (h : Handed) → Has (handed w.receiver s) h → h.lane.kind ≡ Unordered → IsSent w.sender.plan (unordered_lane s) h
      sent s h has kind =
          let x = g.held.told.honest s h has in
          renamed w.sender.plan h.lane (unordered_lane s) h (lane_is h.lane (unordered_lane s) x.stream kind) x.sent

  kept : IsKept w.format w.sender w.receiver
  kept l n m complete covered not_abandoned = both (each_or (length m.fragments) each)
    where
      Kept : ℕ → Type 0
      Kept k = (i : ℕ) × (entry_at w.sender.plan i ≡ Some (Part l n k)) × Has w.receiver.kept (piece_of w.format i l n k m)

      Was : Type 0
      Was = WasHanded w.sender.plan w.receiver l n

      each : (k : ℕ) → k < length m.fragments → Kept k ⊎ Was
      each k b = at' (complete.1 k b)
        where
          at' : IsAssigned w.sender.plan l n k → Kept k ⊎ Was
          at' (i, here) = gone (reached (g.between.covered i (covered i (Part l n k) here (refl, refl))))
            where
              reached : Reaches w.receiver i → (w.receiver.seen i ≡ true) ⊎ IsLost w.format w.sender w.receiver i
              reached (inl h) = inl h
              reached (inr h) = g.held.jumped i (item_at-above w.sender.plan.entries i (Part l n k) here) h

              which : Has w.receiver.kept (piece_of w.format i l n k m) ⊎ IsOver w.format w.sender w.receiver l n → Kept k ⊎ Was
              which (inl h) = inl (i, here, h)
              which (inr (inl h)) = inr h
              which (inr (inr (h, done))) = absurd (let f = not_abandoned in cc)

              gone : (w.receiver.seen i ≡ true) ⊎ IsLost w.format w.sender w.receiver i → Kept k ⊎ Was
              gone (inl h) = which (settled_at w.format w.sender w.receiver i l n k m complete.0 here (g.held.seen i h))
              gone (inr h) =
                  absurd (let q = lost_at w.format w.sender w.receiver i l n (Part l n k) here (refl, refl) h in let f = not_abandoned in cc)

      both : ((k : ℕ) → k < length m.fragments → Kept k) ⊎ Was → Was ⊎ IsHeldWhole w.format w.sender.plan w.receiver l n m
      both (inl h) = inr h
      both (inr h) = inl h

  pub safe_when_good : Safe w.format w.sender w.receiver w.asked
  safe_when_good = record {
    in_order = in_order;
    passed_rightly = passed_rightly;
    once = once;
    kept = kept;
    asked = record {
      called = g.sound.called;
      once = g.arranged.different;
      order = g.arranged.order;
      abandoned = g.sound.abandoned;
    };
  }
