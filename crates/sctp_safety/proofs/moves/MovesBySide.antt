-- A move of the sender, of the receiver, or of the bags keeps every fact if it says why some hold of what is new.
use Rattle.std.proofs.Common.{◌≡◌, ℕ, ◌≤◌, ◌⊎◌, true, List, Some, inl, inr, subst}
use Rattle.sctp_model.specs.numbers.Lists.{Has}
use Rattle.sctp_model.specs.messages.Format.{Format, Lane, ordered_lane}
use Rattle.sctp_model.specs.messages.Plan.{Entry, Part, entry_at}
use Rattle.sctp_model.specs.messages.Pieces.{Piece, IsFragment}
use Rattle.sctp_model.specs.sender.SenderView.{SenderView}
use Rattle.sctp_model.specs.messages.Forward.{Forward}
use Rattle.sctp_model.specs.receiver.ReceiverView.{ReceiverView, Reaches}
use Rattle.sctp_model.specs.messages.Acknowledgement.{Acknowledgement, covers}
use Rattle.sctp_model.specs.world.Calls.{Asked}
use Rattle.sctp_model.specs.world.Safe.{WasHanded}
use Rattle.sctp_safety.specs.Way.{Way, with_receiver}
use Rattle.sctp_safety.proofs.moves.Facts.{IsOver, IsSettled, IsSendersForward, IsOrderedPlan, Waits, IsAskedPlan, Held, Good}
use Rattle.sctp_safety.proofs.moves.Later.{Grows, Learns, Grows-refl, Learns-refl, IsFragment-later, IsHonest-later, WasHanded-later, WasHanded-earlier, IsAllSeen-later, IsReached-later, lost-later, MayPass-later, IsRetired-later, IsSendersForward-later}

-- A move of the sender or its user. It says why the plan is in order, and why what is covered was reached.
pub by_sender : (w : Way) (b : SenderView) (u : Asked) → Good w → Grows w.sender b → IsOrderedPlan w.format b.plan →
    Waits w.streams b.plan u b.queue → IsAskedPlan w.streams b u →
    ((i : ℕ) → b.covered i ≡ true → Reaches w.receiver i) → ((i : ℕ) → i ≤ b.cum → Reaches w.receiver i) →
    Good (record w { sender = b; asked = u })
by_sender w b u g grows arranged waits sound covered cum = record {
  arranged = arranged;
  waits = waits;
  sound = sound;
  between = record {
    pieces = λ x h. IsFragment-later a.plan b.plan grows.plan f x (g.between.pieces x h);
    forwards = λ x h. IsSendersForward-later f a b r r grows still x (g.between.forwards x h);
    sacks = g.between.sacks;
    shutdowns = g.between.shutdowns;
    covered = covered;
    cum = cum;
  };
  held = record {
    jumped = λ i l m. lost-later f a b r r grows still i (held.jumped i l m);
    old = λ e i l m. IsRetired-later f a b r r grows still i (held.old e i l m);
    kept = λ x h. IsFragment-later a.plan b.plan grows.plan f x (held.kept x h);
    seen = λ i h. settled i (held.seen i h);
    skips = λ l n h. MayPass-later f a b r r grows still l n (held.skips l n h);
    unskipped = held.unskipped;
    kept_seen = held.kept_seen;
    fresh = λ x n k h here was. fresh x n k h here was;
    told = record {
      all_seen = λ l n h. IsAllSeen-later a.plan b.plan grows.plan r r still l n (held.told.all_seen l n (earlier l n h));
      below = held.told.below;
      rising = held.told.rising;
      apart = held.told.apart;
      honest = λ s h k. IsHonest-later a.plan b.plan grows.plan f s h (held.told.honest s h k);
      passed = λ s n l. passed s n (held.told.passed s n l);
    };
  };
}
  where
    f : Format
    f = w.format

    a : SenderView
    a = w.sender

    r : ReceiverView
    r = w.receiver

    held : Held f a r
    held = g.held

    still : Learns r r
    still = Learns-refl r

    earlier : (l : Lane) (n : ℕ) → WasHanded b.plan r l n → WasHanded a.plan r l n
    earlier l n h = WasHanded-earlier a.plan b.plan grows.plan f r l n held.told.honest h

    fresh : (x : Piece) (n k : ℕ) → Has r.kept x → entry_at b.plan x.index ≡ Some (Part x.lane n k) → WasHanded b.plan r x.lane n → ⊥
    fresh x n k h here was =
        let y = held.kept x h in
        let z : entry_at b.plan x.index ≡ Some (Part x.lane y.number y.fragment) = grows.plan.entries _ _ y.here in
        let e : Part x.lane y.number y.fragment ≡ Part x.lane n k = cc in
        held.fresh x n k h (subst (λ (d : Entry). entry_at a.plan x.index ≡ Some d) e y.here) (earlier x.lane n was)

    over : (l : Lane) (n : ℕ) (K : Type 0) → K ⊎ IsOver f a r l n → K ⊎ IsOver f b r l n
    over l n K (inl h) = inl h
    over l n K (inr (inl h)) = inr (inl (WasHanded-later a.plan b.plan grows.plan r l n h))
    over l n K (inr (inr h)) = inr (inr (grows.abandoned l n h.0, h.1))

    settled : (i : ℕ) → IsSettled f a r i → IsSettled f b r i
    settled i x = record {
      lane = x.lane;
      number = x.number;
      fragment = x.fragment;
      message = x.message;
      named = grows.plan.messages _ _ _ x.named;
      here = grows.plan.entries _ _ x.here;
      state = over _ _ _ x.state;
    }

    passed : (s n : ℕ) → WasHanded a.plan r (ordered_lane s) n ⊎ (a.abandoned (ordered_lane s) n ≡ true) →
        WasHanded b.plan r (ordered_lane s) n ⊎ (b.abandoned (ordered_lane s) n ≡ true)
    passed s n (inl h) = inl (WasHanded-later a.plan b.plan grows.plan r (ordered_lane s) n h)
    passed s n (inr h) = inr (grows.abandoned (ordered_lane s) n h)

-- A move of the receiver or its user.
pub by_receiver : (w : Way) (t : ReceiverView) → Good w → Learns w.receiver t → Held w.format w.sender t → Good (with_receiver w t)
by_receiver w t g learns held = record {
  arranged = g.arranged;
  waits = g.waits;
  sound = g.sound;
  between = record {
    pieces = g.between.pieces;
    forwards = λ x h. IsSendersForward-later w.format w.sender w.sender w.receiver t (Grows-refl w.sender) learns x (g.between.forwards x h);
    sacks = λ x i h k. IsReached-later w.receiver t learns i (g.between.sacks x i h k);
    shutdowns = λ c i h k. IsReached-later w.receiver t learns i (g.between.shutdowns c i h k);
    covered = λ i h. IsReached-later w.receiver t learns i (g.between.covered i h);
    cum = λ i h. IsReached-later w.receiver t learns i (g.between.cum i h);
  };
  held = held;
}

-- A chunk more in the bags.
pub by_bags : (w : Way) (pieces : List Piece) (forwards : List Forward) (sacks : List Acknowledgement) (shutdowns : List ℕ) → Good w →
    ((x : Piece) → Has pieces x → IsFragment w.format w.sender.plan x) →
    ((x : Forward) → Has forwards x → IsSendersForward w.format w.sender w.receiver x) →
    ((x : Acknowledgement) (i : ℕ) → Has sacks x → covers x i ≡ true → Reaches w.receiver i) →
    ((c i : ℕ) → Has shutdowns c → i ≤ c → Reaches w.receiver i) →
    Good (record w { pieces = pieces; forwards = forwards; sacks = sacks; shutdowns = shutdowns })
by_bags w pieces forwards sacks shutdowns g p f s d = record {
  arranged = g.arranged;
  waits = g.waits;
  sound = g.sound;
  between = record {
    pieces = p;
    forwards = f;
    sacks = s;
    shutdowns = d;
    covered = g.between.covered;
    cum = g.between.cum;
  };
  held = g.held;
}
