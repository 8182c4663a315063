-- One direction between two endpoints of the machine: moves led there from a start, and every chunk that was built says something of it.
use Rattle.std.proofs.Common.{◌≡◌, ℕ, zero, suc, ◌+◌, ◌<◌, ◌≤◌, List, [], ◌∷◌, length, slice_get, Some, refl, sym, arith, ◌∙◌}
use Rattle.sctp_model.specs.numbers.Limits.{WINDOW}
use Rattle.sctp_model.specs.numbers.Lists.{Has, IsWithin}
use Rattle.sctp_model.specs.numbers.Serial.{tsn}
use Rattle.sctp_model.specs.wire.Chunk.{PieceMeaning, ForwardMeaning, ChunkMeaning, Data, IData, Sack, Shutdown, ForwardTsn, IForwardTsn, Unknown}
use Rattle.sctp_model.specs.wire.Typed.{Typed, typed_in}
use Rattle.sctp_model.specs.wire.Reconfig.{RECONFIG, ResetMeaning, reset_read}
use Rattle.sctp_model.specs.messages.Format.{Format, Lane}
use Rattle.sctp_model.specs.messages.Plan.{Entry, Plan, entry_at}
use Rattle.sctp_model.specs.messages.Pieces.{Piece}
use Rattle.sctp_model.specs.messages.Forward.{Skip, Forward}
use Rattle.sctp_model.specs.sender.SenderView.{SenderView}
use Rattle.sctp_model.specs.receiver.ReceiverView.{ReceiverView}
use Rattle.sctp_model.specs.messages.Acknowledgement.{Acknowledgement}
use Rattle.sctp_model.specs.world.Calls.{Asked}
use Rattle.sctp_model.specs.sender.Reached.{IsReached}
use Rattle.sctp_model.specs.receiver.Laws.{IsIdle}
use Rattle.sctp_model.proofs.sender.OwedLaws.{is_windowed, is_promised}
use Rattle.sctp_safety.specs.Way.{Way}
use Rattle.sctp_safety.specs.SenderLaws.{IsUsual, IsSackOf}
use Rattle.sctp_safety.specs.ReceiverLaws.{IsJoined, IsCounted, IsPieceSaid, IsForwardSaid, IsTopped}
use Rattle.sctp_safety.proofs.lists.Basics.{item_at-within, item_at-above}
use Rattle.sctp_safety.proofs.runs.Dates.{Dated}
use Rattle.sctp_safety.proofs.runs.Grown.{IsPrefix}
use Rattle.sctp_safety.proofs.runs.ResetFacts.{IsReadable, IsAskedBy, IsAnsweredBy, AreAsked, AreAnswers, AreInStep}

-- ---- what the chunks of a direction say

-- what lies between the endpoints: chunks with data and FORWARDs one way, acknowledgements and the indexes of SHUTDOWNs the other
pub record Bags : Type 0 where
  pub pieces : List Piece
  pub forwards : List Forward
  pub sacks : List Acknowledgement
  pub shutdowns : List ℕ

-- a sender, what its user asked for, the receiver at its peer, and what lies between them
abbrev pub way_of : Format → ℕ → SenderView → Asked → ReceiverView → Bags → Way
way_of f n a u r b = record {
  format = f;
  streams = n;
  sender = a;
  receiver = r;
  asked = u;
  pieces = b.pieces;
  forwards = b.forwards;
  sacks = b.sacks;
  shutdowns = b.shutdowns;
}

-- a data chunk of the bag, whose index was in the window when the sender had assigned this many TSNs
pub record IsPieceIn (f : Format) (initial : ℕ) (a : SenderView) (r : ReceiverView) (ps : List Piece) (since : ℕ) (m : PieceMeaning) : Type 0 where
  pub said : IsPieceSaid f initial ps m
  pub window : since ≤ said.index + WINDOW
  pub readable : IsReadable f a r said.base said.index said.lane said.number

-- a FORWARD of the bag, up to an index that the plan has, and that was in the window then
pub record IsForwardIn (f : Format) (initial : ℕ) (a : SenderView) (r : ReceiverView) (fs : List Forward) (since : ℕ) (m : ForwardMeaning) : Type 0 where
  pub said : IsForwardSaid f initial a.plan fs m
  pub within : said.forward.point ≤ length a.plan.entries
  pub window : since ≤ said.forward.point + WINDOW
  pub readable : (y : Skip) → Has said.forward.skips y → IsReadable f a r said.base said.forward.point y.lane y.number

-- A chunk of the sender's endpoint, of a packet that was built when the sender had assigned this many TSNs: data and FORWARDs are of the bag, any other
-- says nothing of this direction.
abbrev pub IsSaid : Format → ℕ → SenderView → ReceiverView → Bags → (since : ℕ) → ChunkMeaning → Type 0
IsSaid f initial a r b since (Data m) = IsPieceIn f initial a r b.pieces since m
IsSaid f initial a r b since (IData m) = IsPieceIn f initial a r b.pieces since m
IsSaid f initial a r b since (ForwardTsn m) = IsForwardIn f initial a r b.forwards since m
IsSaid f initial a r b since (IForwardTsn m) = IsForwardIn f initial a r b.forwards since m
IsSaid f initial a r b since (Unknown kind flags value) = kind ≡ RECONFIG → AreAsked initial a (typed_in value)
IsSaid f initial a r b since x = Unit {0}

-- A chunk of the receiver's end, of such a packet: a SACK and a SHUTDOWN are of the bag, and what they acknowledge was in the window then.
abbrev pub IsSaidBack : ℕ → ReceiverView → Bags → (since : ℕ) → ChunkMeaning → Type 0
IsSaidBack initial r b since (Sack s) = (a : Acknowledgement) × Has b.sacks a × IsSackOf initial a s × (since ≤ a.cum + WINDOW)
IsSaidBack initial r b since (Shutdown n) = (c : ℕ) × Has b.shutdowns c × (n ≡ tsn initial c) × (since ≤ c + WINDOW)
IsSaidBack initial r b since (Unknown kind flags value) = kind ≡ RECONFIG → AreAnswers initial r (typed_in value)
IsSaidBack initial r b since x = Unit {0}

-- ---- the direction

-- `out` and `back` are the chunks that the sender's and the receiver's end ever built; the streams are those that both agreed on.
pub record Direction (f : Format) (n : ℕ) (a : SenderView) (u : Asked) (r : ReceiverView) (out back : List Dated) : Type 0 where
  pub bags : Bags
  pub usual : IsUsual (way_of f n a u r bags)
  pub reached : IsReached f a
  pub idle : IsIdle f r
  pub initial : r.initial ≡ a.initial
  pub outbound : a.streams ≡ n
  pub inbound : r.streams ≡ n
  pub step : AreInStep f a r
  pub said : (x : Dated) → Has out x → IsSaid f a.initial a r bags x.date.own x.chunk
  pub said_back : (x : Dated) → Has back x → IsSaidBack r.initial r bags x.date.there x.chunk

-- the same direction, between endpoints that built these chunks
pub with_chunks : (f : Format) (n : ℕ) (a : SenderView) (u : Asked) (r : ReceiverView) (out back : List Dated) (d : Direction f n a u r out back) (xs ys : List Dated) →
    ((x : Dated) → Has xs x → IsSaid f a.initial a r d.bags x.date.own x.chunk) → ((y : Dated) → Has ys y → IsSaidBack r.initial r d.bags y.date.there y.chunk) →
    Direction f n a u r xs ys
with_chunks f n a u r out back d xs ys said said_back = record {
  bags = d.bags;
  usual = d.usual;
  reached = d.reached;
  idle = d.idle;
  initial = d.initial;
  outbound = d.outbound;
  inbound = d.inbound;
  step = d.step;
  said = said;
  said_back = said_back;
}

pub joined_in : (f : Format) (n : ℕ) (a : SenderView) (u : Asked) (r : ReceiverView) (out back : List Dated) (d : Direction f n a u r out back) →
    IsJoined (way_of f n a u r d.bags)
joined_in f n a u r out back d = record { initial = d.initial; streams = d.inbound }

pub counted_in : (f : Format) (a : SenderView) → IsReached f a → IsCounted a
counted_in f a h =
    let w = is_windowed f a h in
    let p = is_promised f a h in
    record { window = omega (arith, w); counts = omega (arith, p) }

-- ---- what stays true while bags and plans grow

-- the bags hold no less
pub record IsMore (b c : Bags) : Type 0 where
  pub pieces : IsWithin b.pieces c.pieces
  pub forwards : IsWithin b.forwards c.forwards
  pub sacks : IsWithin b.sacks c.sacks
  pub shutdowns : IsWithin b.shutdowns c.shutdowns

pub more_same : (b : Bags) → IsMore b b
more_same b = record { pieces = λ x h. h; forwards = λ x h. h; sacks = λ x h. h; shutdowns = λ x h. h }

-- what reads still reads; what was asked, and what was answered, still is
abbrev pub Readably : Format → (a b : SenderView) (r t : ReceiverView) → Type 0
Readably f a b r t = (base : Lane → ℕ) (j : ℕ) (l : Lane) (n : ℕ) → IsReadable f a r base j l n → IsReadable f b t base j l n

abbrev pub Askedly : ℕ → (a b : SenderView) → Type 0
Askedly i a b = (m : ResetMeaning) → IsAskedBy i a m → IsAskedBy i b m

abbrev pub Answeredly : ℕ → (r t : ReceiverView) → Type 0
Answeredly i r t = (x : Typed) → IsAnsweredBy i r x → IsAnsweredBy i t x

piece_later : (f : Format) (i : ℕ) (a b : SenderView) (r t : ReceiverView) (ps qs : List Piece) (since : ℕ) (m : PieceMeaning) → IsWithin ps qs → Readably f a b r t →
    IsPieceIn f i a r ps since m → IsPieceIn f i b t qs since m
piece_later f i a b r t ps qs since m more up h = record {
  said = record {
    index = h.said.index;
    lane = h.said.lane;
    number = h.said.number;
    fragment = h.said.fragment;
    message = h.said.message;
    base = h.said.base;
    put = more _ h.said.put;
    same = h.said.same;
  };
  window = h.window;
  readable = up h.said.base h.said.index h.said.lane h.said.number h.readable;
}

-- an index within a list has an entry
pub entry_there : {A : Type 0} (xs : List A) (n : ℕ) → n < length xs → (x : A) × (slice_get xs n ≡ Some x)
entry_there [] n lt = absurd (omega arith)
entry_there (y ∷ ys) zero lt = (y, refl)
entry_there (y ∷ ys) (suc n) lt = entry_there ys n (omega arith)

standing : (p : Plan) (i : ℕ) → 0 < i → i ≤ length p.entries → (e : Entry) × (entry_at p i ≡ Some e)
standing p zero some le = absurd (omega arith)
standing p (suc i) some le = entry_there p.entries i (omega arith)

topped_later : (p q : Plan) (x : Forward) → IsPrefix p q → x.point ≤ length p.entries → IsTopped p x → IsTopped q x
topped_later p q x lasts within topped y i n e has le here of =
    let some = item_at-above q.entries i e here in
    let old = standing p i some (omega (arith, le, within)) in
    let same : Some old.0 ≡ Some e = sym (lasts i old.0 old.1) ∙ here in
    topped y i n e has le (old.1 ∙ same) of

pub prefix_longer : (p q : Plan) → IsPrefix p q → length p.entries ≤ length q.entries
prefix_longer p q lasts = go (length p.entries) refl
  where
    go : (k : ℕ) → length p.entries ≡ k → length p.entries ≤ length q.entries
    go zero e = omega (arith, e)
    go (suc k) e =
        let old = standing p (suc k) (omega arith) (omega (arith, e)) in
        let h = item_at-within q.entries (suc k) old.0 (lasts (suc k) old.0 old.1) in
        omega (arith, e, h)

forward_later : (f : Format) (i : ℕ) (a b : SenderView) (r t : ReceiverView) (fs gs : List Forward) (since : ℕ) (m : ForwardMeaning) → IsPrefix a.plan b.plan → IsWithin fs gs → Readably f a b r t →
    IsForwardIn f i a r fs since m → IsForwardIn f i b t gs since m
forward_later f i a b r t fs gs since m lasts more up h = record {
  said = record {
    forward = h.said.forward;
    base = h.said.base;
    put = more _ h.said.put;
    cumulative = h.said.cumulative;
    skips = h.said.skips;
    topped = topped_later a.plan b.plan h.said.forward lasts h.within h.said.topped;
  };
  within = let l = prefix_longer a.plan b.plan lasts in let k = h.within in omega (arith, l, k);
  window = h.window;
  readable = λ y has. up h.said.base h.said.forward.point y.lane y.number (h.readable y has);
}

pub said_later : (f : Format) (i : ℕ) (a b : SenderView) (r t : ReceiverView) (k c : Bags) (since : ℕ) (x : ChunkMeaning) → IsPrefix a.plan b.plan → IsMore k c → Readably f a b r t → Askedly i a b →
    IsSaid f i a r k since x → IsSaid f i b t c since x
said_later f i a b r t k c since (Data m) lasts more up asks h = piece_later f i a b r t k.pieces c.pieces since m more.pieces up h
said_later f i a b r t k c since (IData m) lasts more up asks h = piece_later f i a b r t k.pieces c.pieces since m more.pieces up h
said_later f i a b r t k c since (ForwardTsn m) lasts more up asks h = forward_later f i a b r t k.forwards c.forwards since m lasts more.forwards up h
said_later f i a b r t k c since (IForwardTsn m) lasts more up asks h = forward_later f i a b r t k.forwards c.forwards since m lasts more.forwards up h
said_later f i a b r t k c since (Unknown kind flags value) lasts more up asks h = λ is x has. ((λ on. asks (reset_read x) ((h is x has).0 on)), (h is x has).1)
said_later f i a b r t k c since x lasts more up asks h = tt

pub said_back_later : (i : ℕ) (r t : ReceiverView) (b c : Bags) (since : ℕ) (x : ChunkMeaning) → IsMore b c → Answeredly i r t → IsSaidBack i r b since x → IsSaidBack i t c since x
said_back_later i r t b c since (Sack s) more answers (a, has, of, window) = (a, more.sacks a has, of, window)
said_back_later i r t b c since (Shutdown n) more answers (k, has, is, window) = (k, more.shutdowns k has, is, window)
said_back_later i r t b c since (Unknown kind flags value) more answers h = λ is x has on. answers x (h is x has on)
said_back_later i r t b c since x more answers h = tt
