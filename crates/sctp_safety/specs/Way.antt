-- One direction of an association, and the moves that change it, each as loose as safety allows. Timers, windows, space, what is due, and the order of
-- filling only choose among moves; they don't appear here.
use Rattle.std.specs.Prelude.{◌≡◌, ℕ, suc, ◌+◌, ◌<◌, ◌≤◌, ◌⊎◌, max, ◌||◌, true, false, nat_le, List, [], ◌∷◌, ◌++◌, length, Some}
use Rattle.sctp_model.specs.numbers.Lists.{Has, IsWithin, at}
use Rattle.sctp_model.specs.messages.Format.{Format, Plain, Ordered, Unordered, Lane, is_numbered, ordered_lane, at_lane}
use Rattle.sctp_model.specs.messages.Plan.{Message, bytes_of, Part, End, Plan, entry_at, message_at, IsAssigned, HasEnd, IsClosed, parts_from}
use Rattle.sctp_model.specs.messages.Pieces.{Piece, piece_of}
use Rattle.sctp_model.specs.messages.Whole.{IsWhole}
use Rattle.sctp_model.specs.sender.SenderView.{Queued, SenderView, IsAllAbandoned}
use Rattle.sctp_model.specs.messages.Forward.{Skip, Forward, StandsIn, skipped}
use Rattle.sctp_model.specs.receiver.ReceiverView.{Handed, ReceiverView, Reaches}
use Rattle.sctp_model.specs.messages.Acknowledgement.{Acknowledgement, covers}
use Rattle.sctp_model.specs.receiver.Receiving.{IsWholeNumber, HasNoWhole, without_below, handed_unordered, message_of, recorded, IsPassed, LetsGo}
use Rattle.sctp_model.specs.world.Calls.{Call, Asked}
use Rattle.sctp_model.specs.world.Safe.{IsGivenUp}

-- A sender, the receiver at its peer, what its user asked for, and every chunk that was ever built for it: chunks with data and FORWARDs one way, SACKs and
-- the cumulative indexes of SHUTDOWNs the other. Nothing is ever taken out: a loss is a chunk that never arrives.
pub record Way : Type 0 where
  pub format : Format
  -- the streams that both endpoints agreed on
  pub streams : ℕ
  pub sender : SenderView
  pub receiver : ReceiverView
  pub asked : Asked
  pub pieces : List Piece
  pub forwards : List Forward
  pub sacks : List Acknowledgement
  pub shutdowns : List ℕ

-- Everything that may happen to one direction. `Step`, below, says of each when it may and where it leads.
pub data Move : Type 0 where
  -- the user of the sending endpoint
  Send : (call : Call) (fragments : List (List ℕ)) → Move
  Name : (ticket : ℕ) → Move
  Time_passes : (moment : ℕ) → Move
  -- the sender
  Number : (before : List Queued) (q : Queued) (rest : List Queued) (count : ℕ) → Move
  Continue : (lane : Lane) (number fragment count : ℕ) → Move
  Withdraw : (before : List Queued) (q : Queued) (rest : List Queued) → Move
  Abandon : (lane : Lane) (number : ℕ) → Move
  Mark : (lane : Lane) (number : ℕ) → Move
  Change_sending : SenderView → Move
  Sack_comes : Acknowledgement → Move
  Shutdown_comes : (cum : ℕ) → Move
  -- what is built
  Put_piece : (index : ℕ) → Move
  Put_forward : Forward → Move
  Put_sack : Acknowledgement → Move
  Put_shutdown : (cum : ℕ) → Move
  -- the receiver
  Keep_piece : Piece → Move
  Drop_piece : Piece → Move
  Forward_comes : Forward → (skip : Lane → ℕ) → Move
  Hand_over : (stream : ℕ) (first : Piece) (others : List Piece) → Move
  Hand_unordered : (first : Piece) (others : List Piece) → Move
  Pass_over : (stream : ℕ) → Move
  Drop_below_next : (stream : ℕ) → Move
  Let_go : ReceiverView → Move
  Take : (stream : ℕ) (message : Handed) (rest : List Handed) → Move
  -- duplicates for its next SACK, and what it knows of resets
  Note_duplicates : ReceiverView → Move

-- only the sender changed
abbrev pub with_sender : Way → SenderView → Way
with_sender w a = record w { sender = a }

-- only the receiver changed
abbrev pub with_receiver : Way → ReceiverView → Way
with_receiver w r = record w { receiver = r }

-- no message of the stream is in this part of the queue
abbrev pub HasNone : List Queued → ℕ → Type 0
HasNone qs s = (q : Queued) → Has qs q → q.lane.stream ≡ s → ⊥

-- every message of the stream that has a number takes no further index
abbrev pub IsAllClosed : Plan → ℕ → Type 0
IsAllClosed p s = (l : Lane) (n : ℕ) (m : Message) → l.stream ≡ s → message_at p l n ≡ Some m → IsClosed p l n

-- the plan with a message more in its lane, and the first `count` of its fragments
abbrev pub numbered : Plan → Lane → Message → ℕ → Plan
numbered p l m count = record {
  messages = at_lane p.messages l (p.messages l ++ m ∷ []);
  entries = p.entries ++ parts_from l (length (p.messages l)) 0 count;
}

-- the plan after a message in part took its next `count` fragments, from fragment k on
abbrev pub with_next_part : Plan → Lane → ℕ → ℕ → ℕ → Plan
with_next_part p l n k count = record p { entries = p.entries ++ parts_from l n k count }

-- the next ordered number of the stream is done with
abbrev pub past : ReceiverView → ℕ → ReceiverView
past r s = record r { next = at r.next s (suc (r.next s)); kept = without_below r.kept s (suc (r.next s)) }

-- what safety doesn't speak of: what went out, what is marked, the peer's window, the turn
pub record IsSameBesideSending (a b : SenderView) : Type 0 where
  pub queue : b.queue ≡ a.queue
  pub plan : b.plan ≡ a.plan
  pub cum : b.cum ≡ a.cum
  pub covered : b.covered ≡ a.covered
  pub abandoned : b.abandoned ≡ a.abandoned
  pub repeats : (i : ℕ) → a.repeats i ≤ b.repeats i

-- What a receiver skips after a FORWARD: no less than before, no more than is listed, and each number that is listed, but for an ordered one
-- below the next, which is done with.
pub record IsSkippedBy (r : ReceiverView) (xs : List Skip) (skip : Lane → ℕ) : Type 0 where
  pub raised : (l : Lane) → r.skip l ≤ skip l
  pub within : (l : Lane) → skip l ≤ skipped r.skip xs l
  pub counts : (y : Skip) → Has xs y → (y.number < skip y.lane) ⊎ ((y.lane.kind ≡ Ordered) × (y.number < r.next y.lane.stream))

-- The user gave up a message that waits for its number: its ticket was named, or its lifetime is over.
abbrev pub IsLetGo : Asked → Message → Type 0
IsLetGo u m = (u.named m.ticket ≡ true) ⊎ ((t : ℕ) × (m.until ≡ Some t) × (t ≤ u.clock))

-- `Step w e v`: if the move may happen in w, it leads to v.
abbrev pub Step : Way → Move → Way → Type 0
-- The user sends a message on a stream that there is. Its fragments, none empty, are its bytes.
Step w (Send call fragments) v =
    (call.lane.stream < w.streams) × (0 < length fragments)
    × ((x : List ℕ) → Has fragments x → 0 < length x)
    × (call.bytes ≡ bytes_of (sent call fragments))
    × (v ≡ record w {
      sender = record w.sender { queue = w.sender.queue ++ record { lane = call.lane; message = sent call fragments } ∷ [] };
      asked = record w.asked { calls = w.asked.calls ++ call ∷ [] };
    })
  where
    sent : Call → List (List ℕ) → Message
    sent c xs = record { ticket = suc (length w.asked.calls); payload = c.payload; fragments = xs; until = c.until; limit = c.limit }
Step w (Name t) v = v ≡ record w { asked = record w.asked { named = at w.asked.named t true } }
Step w (Time_passes t) v = v ≡ record w { asked = record w.asked { clock = max w.asked.clock t } }
-- The first message of its stream takes its number, and its first indexes: under DATA all of them.
Step w (Number before q rest count) v =
    (w.sender.queue ≡ before ++ q ∷ rest) × HasNone before q.lane.stream × IsAllClosed w.sender.plan q.lane.stream
    × (0 < count) × (count ≤ length q.message.fragments) × (w.format ≡ Plain → count ≡ length q.message.fragments)
    × (v ≡ with_sender w (record w.sender { queue = before ++ rest; plan = numbered w.sender.plan q.lane q.message count }))
-- A message in part takes its next indexes.
Step w (Continue l n k count) v =
    (m : Message) × (message_at w.sender.plan l n ≡ Some m) × (0 < count)
    × IsAssigned w.sender.plan l n k × (IsAssigned w.sender.plan l n (suc k) → ⊥) × (HasEnd w.sender.plan l n → ⊥)
    × (suc k + count ≤ length m.fragments)
    × (v ≡ with_sender w (record w.sender { plan = with_next_part w.sender.plan l n (suc k) count }))
-- A message without a number leaves the queue only if it is given up.
Step w (Withdraw before q rest) v =
    (w.sender.queue ≡ before ++ q ∷ rest) × IsLetGo w.asked q.message × (v ≡ with_sender w (record w.sender { queue = before ++ rest }))
-- A message is abandoned whose ticket was named, whose lifetime is over, or that was retransmitted as often as it may be.
Step w (Abandon l n) v =
    (m : Message) × (message_at w.sender.plan l n ≡ Some m) × IsGivenUp w.sender w.asked l n m
    × (v ≡ with_sender w (record w.sender { abandoned = at_lane w.sender.abandoned l (at (w.sender.abandoned l) n true) }))
-- An abandoned message in part takes one index more, for its end mark.
Step w (Mark l n) v =
    (m : Message) × (message_at w.sender.plan l n ≡ Some m) × (w.sender.abandoned l n ≡ true) × (IsClosed w.sender.plan l n → ⊥)
    × (v ≡ with_sender w (record w.sender { plan = record w.sender.plan { entries = w.sender.plan.entries ++ End l n ∷ [] } }))
Step w (Change_sending b) v = IsSameBesideSending w.sender b × (v ≡ with_sender w b)
Step w (Sack_comes x) v =
    Has w.sacks x × (w.sender.cum ≤ x.cum) × (v ≡ with_sender w (record w.sender { cum = x.cum; covered = covers x }))
Step w (Shutdown_comes c) v =
    Has w.shutdowns c × (w.sender.cum ≤ c)
    × (v ≡ with_sender w (record w.sender { cum = c; covered = λ i. nat_le i c || w.sender.covered i }))
Step w (Put_piece i) v =
    (l : Lane) × (n k : ℕ) × (m : Message) × (entry_at w.sender.plan i ≡ Some (Part l n k)) × (message_at w.sender.plan l n ≡ Some m)
    × (v ≡ record w { pieces = piece_of w.format i l n k m ∷ w.pieces })
-- A FORWARD passes abandoned messages alone, and lists of each numbered lane some number at or past all that it passes there.
Step w (Put_forward x) v =
    IsAllAbandoned w.sender w.sender.cum x.point
    × ((y : Skip) → Has x.skips y → (is_numbered w.format y.lane.kind ≡ true) × StandsIn w.sender.plan w.sender.cum x.point y.lane y.number)
    × ((l : Lane) (n : ℕ) → is_numbered w.format l.kind ≡ true → StandsIn w.sender.plan w.sender.cum x.point l n →
    (y : Skip) × Has x.skips y × (y.lane ≡ l) × (n ≤ y.number))
    × (v ≡ record w { forwards = x ∷ w.forwards })
Step w (Put_sack x) v = ((i : ℕ) → covers x i ≡ true → Reaches w.receiver i) × (v ≡ record w { sacks = x ∷ w.sacks })
Step w (Put_shutdown c) v = ((i : ℕ) → i ≤ c → Reaches w.receiver i) × (v ≡ record w { shutdowns = c ∷ w.shutdowns })
Step w (Keep_piece x) v =
    Has w.pieces x × (w.receiver.seen x.index ≡ false) × (v ≡ with_receiver w (record (recorded w.receiver x) { kept = x ∷ w.receiver.kept }))
Step w (Drop_piece x) v =
    Has w.pieces x × (w.receiver.seen x.index ≡ false) × (IsPassed w.format w.receiver x ⊎ (w.streams ≤ x.lane.stream))
    × (v ≡ with_receiver w (recorded w.receiver x))
-- A FORWARD counts if some index up to its point is not reached yet.
Step w (Forward_comes x skip) v =
    Has w.forwards x × ((i : ℕ) × (i ≤ x.point) × (Reaches w.receiver i → ⊥)) × IsSkippedBy w.receiver x.skips skip
    × (v ≡ with_receiver w (record w.receiver { jump = max w.receiver.jump x.point; skip = skip }))
Step w (Hand_over s x xs) v =
    IsWholeNumber w.format w.receiver.kept (ordered_lane s) (w.receiver.next s) (x ∷ xs)
    × (v ≡ with_receiver w (record (past w.receiver s) {
      waiting = at w.receiver.waiting s (w.receiver.waiting s ++ message_of w.format x xs ∷ []);
    }))
Step w (Hand_unordered x xs) v =
    (x.lane.kind ≡ Unordered) × IsWhole w.format (x ∷ xs) × IsWithin (x ∷ xs) w.receiver.kept
    × (v ≡ with_receiver w (handed_unordered w.format w.receiver x xs))
-- A number is passed over if it is skipped and its message isn't whole.
Step w (Pass_over s) v =
    (w.receiver.next s < w.receiver.skip (ordered_lane s))
    × HasNoWhole w.format w.receiver.kept (ordered_lane s) (w.receiver.next s)
    × (v ≡ with_receiver w (past w.receiver s))
Step w (Drop_below_next s) v =
    v ≡ with_receiver w (record w.receiver { kept = without_below w.receiver.kept s (w.receiver.next s) })
-- Unordered chunks that a FORWARD passed go, if they are of no whole message.
Step w (Let_go t) v = LetsGo w.format w.receiver t × (v ≡ with_receiver w t)
Step w (Take s h rest) v =
    (w.receiver.waiting s ≡ h ∷ rest)
    × (v ≡ with_receiver w (record w.receiver {
      taken = at w.receiver.taken s (w.receiver.taken s ++ h ∷ []);
      waiting = at w.receiver.waiting s rest;
    }))
Step w (Note_duplicates t) v =
    (t ≡ record w.receiver { duplicates = t.duplicates; resets = t.resets }) × (v ≡ with_receiver w t)

-- The moves may lead from the one to the other. The beginning of a run is a run, so what holds after each run holds in each of its worlds.
abbrev pub Run : Way → List Move → Way → Type 0
Run w [] v = v ≡ w
Run w (e ∷ es) v = (mid : Way) × Step w e mid × Run mid es v

-- Nothing was sent yet, and nothing was asked.
pub record IsStart (w : Way) : Type 0 where
  pub queue : w.sender.queue ≡ []
  pub messages : w.sender.plan.messages ≡ λ l. []
  pub entries : w.sender.plan.entries ≡ []
  pub cum : w.sender.cum ≡ 0
  pub covered : w.sender.covered ≡ λ i. false
  pub abandoned : w.sender.abandoned ≡ λ l n. false
  pub seen : w.receiver.seen ≡ λ i. false
  pub jump : w.receiver.jump ≡ 0
  pub kept : w.receiver.kept ≡ []
  pub next : w.receiver.next ≡ λ s. 0
  pub skip : w.receiver.skip ≡ λ l. 0
  pub taken : w.receiver.taken ≡ λ s. []
  pub waiting : w.receiver.waiting ≡ λ s. []
  pub calls : w.asked.calls ≡ []
  pub pieces : w.pieces ≡ []
  pub forwards : w.forwards ≡ []
  pub sacks : w.sacks ≡ []
  pub shutdowns : w.shutdowns ≡ []
