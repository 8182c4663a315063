-- What a chunk says of its message, and what became of an index that was seen.
use Rattle.std.proofs.Common.{length, ◌≡◌, ℕ, ◌<◌, ◌⊎◌, true, false, Some, inl, inr, refl, sym, subst, ap}
use Rattle.sctp_model.specs.numbers.Lists.{Has}
use Rattle.sctp_model.specs.messages.Format.{Format, Plain, Interleaved, Kind, Ordered, Unordered, Lane, is_numbered}
use Rattle.sctp_model.specs.messages.Plan.{Message, Entry, Part, Plan, entry_at, message_at, IsOf}
use Rattle.sctp_model.specs.messages.Pieces.{Piece, piece_of, number_of, IsFragment}
use Rattle.sctp_model.specs.sender.SenderView.{SenderView}
use Rattle.sctp_model.specs.receiver.ReceiverView.{ReceiverView}
use Rattle.sctp_model.specs.world.Safe.{WasHanded}
use Rattle.sctp_safety.proofs.moves.Facts.{Held, IsOver, IsSettled, IsAllSeen, IsOrderedPlan}
use Rattle.sctp_safety.proofs.lists.Basics.{each_or}
use Rattle.sctp_safety.proofs.plan.OneMessage.{whole_when_kept, IsGathered, number_counts}
use Rattle.sctp_safety.proofs.moves.Later.{Learns, IsDone-later}

pub ordered_numbered : (f : Format) (k : Kind) → k ≡ Ordered → is_numbered f k ≡ true
ordered_numbered Plain Ordered e = refl
ordered_numbered Interleaved Ordered e = refl
ordered_numbered f Unordered e = absurd (cc)

pub all_numbered : (k : Kind) → is_numbered Interleaved k ≡ true
all_numbered Ordered = refl
all_numbered Unordered = refl

-- if the format numbers a lane, a chunk has its message's number
pub number_is : (f : Format) (p : Plan) (x : Piece) (y : IsFragment f p x) → is_numbered f x.lane.kind ≡ true → x.number ≡ Some y.number
number_is f p x y e =
    let h : x.number ≡ number_of f x.lane y.number = ap (λ (z : Piece). z.number) y.same in
    let d = number_counts f x.lane y.number e in
    cc

-- an index has one entry
pub one_number : (f : Format) (p : Plan) (x : Piece) (y : IsFragment f p x) (l : Lane) (n k : ℕ) →
    entry_at p x.index ≡ Some (Part l n k) → (x.lane ≡ l) × (y.number ≡ n) × (y.fragment ≡ k)
one_number f p x y l n k here =
    let h = y.here in
    let e : Part x.lane y.number y.fragment ≡ Part l n k = cc in
    (cc, cc, cc)

pub one_message : (f : Format) (p : Plan) (x : Piece) (y : IsFragment f p x) (l : Lane) (n : ℕ) (e : Entry) →
    entry_at p x.index ≡ Some e → IsOf l n e → (x.lane ≡ l) × (y.number ≡ n)
one_message f p x y l n e here of =
    let h = y.here in
    let d : Part x.lane y.number y.fragment ≡ e = cc in
    subst (IsOf l n) (sym d) of

-- An index stays settled if each chunk stays kept, or its message is over.
pub settled_on : (f : Format) (a : SenderView) (r t : ReceiverView) (i : ℕ) → Learns r t →
    ((x : Piece) (n k : ℕ) → Has r.kept x → entry_at a.plan x.index ≡ Some (Part x.lane n k) → Has t.kept x ⊎ IsOver f a t x.lane n) →
    ((l : Lane) (n : ℕ) → WasHanded a.plan r l n → WasHanded a.plan t l n) → IsSettled f a r i → IsSettled f a t i
settled_on f a r t i learns kept handed x = record {
  lane = x.lane;
  number = x.number;
  fragment = x.fragment;
  message = x.message;
  named = x.named;
  here = x.here;
  state = state x.state;
}
  where
    it : Piece
    it = piece_of f i x.lane x.number x.fragment x.message

    state : Has r.kept it ⊎ IsOver f a r x.lane x.number → Has t.kept it ⊎ IsOver f a t x.lane x.number
    state (inl h) = kept it x.number x.fragment h x.here
    state (inr (inl h)) = inr (inl (handed x.lane x.number h))
    state (inr (inr h)) = inr (inr (h.0, IsDone-later f r t learns x.lane x.number h.1))

-- the fragment at an index that was seen is kept, or its message is over
pub settled_at : (f : Format) (a : SenderView) (r : ReceiverView) (i : ℕ) (l : Lane) (n k : ℕ) (m : Message) →
    entry_at a.plan i ≡ Some (Part l n k) → message_at a.plan l n ≡ Some m → IsSettled f a r i →
    Has r.kept (piece_of f i l n k m) ⊎ IsOver f a r l n
settled_at f a r i l n k m here named x =
    subst (λ (y : Message). Has r.kept (piece_of f i l n k y) ⊎ IsOver f a r l n) message
    (subst (λ (y : ℕ). Has r.kept (piece_of f i l n y x.message) ⊎ IsOver f a r l n) fragment
    (subst (λ (y : ℕ). Has r.kept (piece_of f i l y x.fragment x.message) ⊎ IsOver f a r l y) number
    (subst (λ (y : Lane). Has r.kept (piece_of f i y x.number x.fragment x.message) ⊎ IsOver f a r y x.number) lane x.state)))
  where
    same : Part x.lane x.number x.fragment ≡ Part l n k
    same = let h = x.here in cc here

    lane : x.lane ≡ l
    lane = cc same

    number : x.number ≡ n
    number = cc same

    fragment : x.fragment ≡ k
    fragment = cc same

    message : x.message ≡ m
    message = let h = x.named in cc (same, named)

-- A chunk that wasn't seen is not of a message all of which was.
pub not_all_seen : (f : Format) (a : SenderView) (r : ReceiverView) (x : Piece) (y : IsFragment f a.plan x) → IsOrderedPlan f a.plan →
    r.seen x.index ≡ false → IsAllSeen a.plan r x.lane y.number → ⊥
not_all_seen f a r x y arranged unseen all = no (all.seen y.fragment within)
  where
    within : y.fragment < length all.message.fragments
    within =
        let h = y.named in
        let k = all.named in
        let e : y.message ≡ all.message = cc in
        subst (λ (m : Message). y.fragment < length m.fragments) e y.within

    no : (i : ℕ) × (entry_at a.plan i ≡ Some (Part x.lane y.number y.fragment)) × (r.seen i ≡ true) → ⊥
    no (i, here, seen) =
        let e : i ≡ x.index = arranged.once i x.index x.lane y.number y.fragment here y.here in
        let h : r.seen i ≡ r.seen x.index = ap r.seen e in
        absurd (cc)

-- A message all of which was seen is over, if it isn't whole.
pub over_unless_whole : (f : Format) (a : SenderView) (r : ReceiverView) → IsOrderedPlan f a.plan → Held f a r → (l : Lane) (n : ℕ) →
    (x : IsAllSeen a.plan r l n) → (IsGathered f a.plan l n x.message r.kept → ⊥) → IsOver f a r l n
over_unless_whole f a r arranged held l n x not_whole = go (each_or (length x.message.fragments) each)
  where
    IsThere : ℕ → Type 0
    IsThere k = (i : ℕ) × (entry_at a.plan i ≡ Some (Part l n k)) × Has r.kept (piece_of f i l n k x.message)

    each : (k : ℕ) → k < length x.message.fragments → IsThere k ⊎ IsOver f a r l n
    each k b = at' (x.seen k b)
      where
        which : (i : ℕ) → entry_at a.plan i ≡ Some (Part l n k) → Has r.kept (piece_of f i l n k x.message) ⊎ IsOver f a r l n →
            IsThere k ⊎ IsOver f a r l n
        which i here (inl h) = inl (i, here, h)
        which i here (inr h) = inr h

        at' : (i : ℕ) × (entry_at a.plan i ≡ Some (Part l n k)) × (r.seen i ≡ true) → IsThere k ⊎ IsOver f a r l n
        at' (i, here, seen) = which i here (settled_at f a r i l n k x.message here x.named (held.seen i seen))

    go : ((k : ℕ) → k < length x.message.fragments → IsThere k) ⊎ IsOver f a r l n → IsOver f a r l n
    go (inl h) = absurd (not_whole (whole_when_kept f a.plan arranged l n x.message x.named r.kept held.kept h))
    go (inr h) = h
