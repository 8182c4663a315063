-- Plan, messages, abandoned ones, indexes seen and numbers passed only grow, and most facts last while they do.
use Rattle.std.proofs.Common.{Bool, ◌≡◌, ℕ, ◌≤◌, ◌⊎◌, true, List, Some, inl, inr, subst, arith, le_refl}
use Rattle.sctp_model.specs.numbers.Lists.{Has}
use Rattle.sctp_model.specs.messages.Format.{Format, Lane}
use Rattle.sctp_model.specs.messages.Plan.{Message, Entry, Part, Plan, entry_at, message_at, IsAssigned, IsComplete, IsClosed}
use Rattle.sctp_model.specs.messages.Pieces.{Piece, IsFragment}
use Rattle.sctp_model.specs.sender.SenderView.{SenderView}
use Rattle.sctp_model.specs.messages.Forward.{Skip, Forward}
use Rattle.sctp_model.specs.receiver.ReceiverView.{Handed, ReceiverView, handed, Reaches}
use Rattle.sctp_model.specs.world.Calls.{Asked}
use Rattle.sctp_model.specs.world.Safe.{IsSent, WasHanded, IsGivenUp}
use Rattle.sctp_safety.proofs.moves.Facts.{IsHandedRightly, IsDone, IsLost, IsLostBy, IsAllSeen, MayPass, IsRetired, IsAhead, IsSendersForward, IsHonest}

-- the plan gained entries and messages, and lost none
pub record Extends (p q : Plan) : Type 0 where
  pub entries : (i : ℕ) (e : Entry) → entry_at p i ≡ Some e → entry_at q i ≡ Some e
  pub messages : (l : Lane) (n : ℕ) (m : Message) → message_at p l n ≡ Some m → message_at q l n ≡ Some m

pub record Grows (a b : SenderView) : Type 0 where
  pub plan : Extends a.plan b.plan
  pub abandoned : (l : Lane) (n : ℕ) → a.abandoned l n ≡ true → b.abandoned l n ≡ true
  pub repeats : (i : ℕ) → a.repeats i ≤ b.repeats i

pub record Learns (r t : ReceiverView) : Type 0 where
  pub seen : (i : ℕ) → r.seen i ≡ true → t.seen i ≡ true
  pub jump : r.jump ≤ t.jump
  pub next : (s : ℕ) → r.next s ≤ t.next s
  pub skip : (l : Lane) → r.skip l ≤ t.skip l

pub Extends-refl : (p : Plan) → Extends p p
Extends-refl p = record { entries = λ i e h. h; messages = λ l n m h. h }

pub Grows-refl : (a : SenderView) → Grows a a
Grows-refl a = record { plan = Extends-refl a.plan; abandoned = λ l n h. h; repeats = λ i. le_refl (a.repeats i) }

-- what the user gave up stays given up
pub IsGivenUp-later : (a b : SenderView) (u : Asked) (l : Lane) (n : ℕ) (m : Message) → Grows a b → IsGivenUp a u l n m → IsGivenUp b u l n m
IsGivenUp-later a b u l n m grows (inl named) = inl named
IsGivenUp-later a b u l n m grows (inr (inl late)) = inr (inl late)
IsGivenUp-later a b u l n m grows (inr (inr (k, limit, (i, e, here, of, times)))) =
    let more = grows.repeats i in inr (inr (k, limit, (i, e, grows.plan.entries i e here, of, omega (arith, times, more))))

pub Learns-refl : (r : ReceiverView) → Learns r r
Learns-refl r = record { seen = λ i h. h; jump = le_refl r.jump; next = λ s. le_refl (r.next s); skip = λ l. le_refl (r.skip l) }

module _ (p q : Plan) (more : Extends p q) where
  pub IsFragment-later : (f : Format) (x : Piece) → IsFragment f p x → IsFragment f q x
  IsFragment-later f x h = record {
    number = h.number;
    fragment = h.fragment;
    message = h.message;
    named = more.messages _ _ _ h.named;
    within = h.within;
    here = more.entries _ _ h.here;
    same = h.same;
  }

  pub IsAssigned-later : (l : Lane) (n k : ℕ) → IsAssigned p l n k → IsAssigned q l n k
  IsAssigned-later l n k h = (h.0, more.entries _ _ h.1)

  pub IsComplete-later : (l : Lane) (n : ℕ) (m : Message) → IsComplete p l n m → IsComplete q l n m
  IsComplete-later l n m h = (more.messages _ _ _ h.0, λ k b. IsAssigned-later l n k (h.1 k b))

  pub IsClosed-later : (l : Lane) (n : ℕ) → IsClosed p l n → IsClosed q l n
  IsClosed-later l n (inl h) = inl (h.0, more.entries _ _ h.1)
  IsClosed-later l n (inr h) = inr (h.0, IsComplete-later l n h.0 h.1)

  abbrev pub IsSent-later : (l : Lane) (h : Handed) → IsSent p l h → IsSent q l h
  IsSent-later l h x = record {
    number = x.number;
    message = x.message;
    lane = x.lane;
    complete = IsComplete-later l x.number x.message x.complete;
    first = more.entries _ _ x.first;
    payload = x.payload;
    bytes = x.bytes;
  }

  pub IsHonest-later : (f : Format) (s : ℕ) (h : Handed) → IsHonest f p s h → IsHonest f q s h
  IsHonest-later f s h x = record { sent = IsSent-later h.lane h x.sent; stream = x.stream; counted = x.counted }

  pub WasHanded-later : (r : ReceiverView) (l : Lane) (n : ℕ) → WasHanded p r l n → WasHanded q r l n
  WasHanded-later r l n (h, has, lane, here) = (h, has, lane, more.entries _ _ here)

  -- a message delivered was in the plan before
  pub WasHanded-earlier : (f : Format) (r : ReceiverView) (l : Lane) (n : ℕ) →
      ((s : ℕ) (h : Handed) → Has (handed r s) h → IsHonest f p s h) → WasHanded q r l n → WasHanded p r l n
  WasHanded-earlier f r l n honest (h, has, lane, here) =
      let x = honest l.stream h has in
      let y = x.sent.first in
      let z : entry_at q h.first ≡ Some (Part h.lane x.sent.number 0) = more.entries h.first (Part h.lane x.sent.number 0) y in
      let e : Part h.lane x.sent.number 0 ≡ Part l n 0 = cc in
      (h, has, lane, subst (λ (d : Entry). entry_at p h.first ≡ Some d) e y)

  pub IsAllSeen-later : (r t : ReceiverView) → Learns r t → (l : Lane) (n : ℕ) → IsAllSeen p r l n → IsAllSeen q t l n
  IsAllSeen-later r t learns l n h = record {
    message = h.message;
    named = more.messages _ _ _ h.named;
    seen = λ k b. let x = h.seen k b in (x.0, more.entries _ _ x.1, learns.seen _ x.2);
  }

pub IsReached-later : (r t : ReceiverView) → Learns r t → (i : ℕ) → Reaches r i → Reaches t i
IsReached-later r t learns i (inl h) = inl (learns.seen i h)
IsReached-later r t learns i (inr h) = inr (let l : r.jump ≤ t.jump = learns.jump in omega arith)

pub IsAhead-earlier : (r t : ReceiverView) → Learns r t → (p : ℕ) → IsAhead t p → IsAhead r p
IsAhead-earlier r t learns p (j, below, not_yet) = (j, below, λ h. not_yet (IsReached-later r t learns j h))

pub IsDone-later : (f : Format) (r t : ReceiverView) → Learns r t → (l : Lane) (n : ℕ) → IsDone f r l n → IsDone f t l n
IsDone-later f r t learns l n (inl h) = inl h
IsDone-later f r t learns l n (inr (inl h)) = inr (inl (let m : r.skip l ≤ t.skip l = learns.skip l in omega arith))
IsDone-later f r t learns l n (inr (inr (k, h))) = inr (inr (k, let m : r.next l.stream ≤ t.next l.stream = learns.next l.stream in omega arith))

module _ (f : Format) (a b : SenderView) (r t : ReceiverView) (grows : Grows a b) (learns : Learns r t) where
  pub lost-later : (i : ℕ) → (r.seen i ≡ true) ⊎ IsLost f a r i → (t.seen i ≡ true) ⊎ IsLost f b t i
  lost-later i (inl h) = inl (learns.seen i h)
  lost-later i (inr h) = inr (record {
    lane = h.lane;
    number = h.number;
    entry = h.entry;
    here = grows.plan.entries _ _ h.here;
    of = h.of;
    gone = grows.abandoned _ _ h.gone;
    done = IsDone-later f r t learns h.lane h.number h.done;
  })

  pub lost_by-later : (xs : List Skip) (i : ℕ) → (r.seen i ≡ true) ⊎ IsLostBy f a r xs i → (t.seen i ≡ true) ⊎ IsLostBy f b t xs i
  lost_by-later xs i (inl h) = inl (learns.seen i h)
  lost_by-later xs i (inr h) = inr (record {
    lane = h.lane;
    number = h.number;
    entry = h.entry;
    here = grows.plan.entries _ _ h.here;
    of = h.of;
    gone = grows.abandoned _ _ h.gone;
    done = done h.done;
  })
    where
      done : IsDone f r h.lane h.number ⊎ ((y : Skip) × Has xs y × (y.lane ≡ h.lane) × (h.number ≤ y.number)) →
          IsDone f t h.lane h.number ⊎ ((y : Skip) × Has xs y × (y.lane ≡ h.lane) × (h.number ≤ y.number))
      done (inl k) = inl (IsDone-later f r t learns h.lane h.number k)
      done (inr k) = inr k

  pub MayPass-later : (l : Lane) (n : ℕ) → MayPass a r l n → MayPass b t l n
  MayPass-later l n (inl h) = inl (grows.abandoned _ _ h)
  MayPass-later l n (inr h) = inr (IsAllSeen-later a.plan b.plan grows.plan r t learns l n h)

  pub IsRetired-later : (i : ℕ) → IsRetired a r i → IsRetired b t i
  IsRetired-later i h = record {
    lane = h.lane;
    number = h.number;
    entry = h.entry;
    here = grows.plan.entries _ _ h.here;
    of = h.of;
    may = λ k. MayPass-later h.lane h.number (h.may k);
  }

  pub IsSendersForward-later : (x : Forward) → IsSendersForward f a r x → IsSendersForward f b t x
  IsSendersForward-later x h = record {
    upto = λ i l m. lost_by-later x.skips i (h.upto i l m);
    listed = λ y k n l. MayPass-later y.lane n (h.listed y k n l);
    numbered = h.numbered;
    old = λ e ahead i l m. IsRetired-later i (h.old e (IsAhead-earlier r t learns x.point ahead) i l m);
  }

-- What was delivered stays right if a receiver learns and delivers nothing.
pub told_later : (f : Format) (a : SenderView) (r : ReceiverView) (seen : ℕ → Bool) (jump : ℕ) (skip : Lane → ℕ) (kept : List Piece)
    → Learns r (record r { seen = seen; jump = jump; skip = skip; kept = kept }) → IsHandedRightly f a r
    → IsHandedRightly f a (record r { seen = seen; jump = jump; skip = skip; kept = kept })
told_later f a r seen jump skip kept learns told = record {
  all_seen = λ l n h. IsAllSeen-later a.plan a.plan (Extends-refl a.plan) r _ learns l n (told.all_seen l n h);
  below = told.below;
  rising = told.rising;
  apart = told.apart;
  honest = told.honest;
  passed = told.passed;
}
