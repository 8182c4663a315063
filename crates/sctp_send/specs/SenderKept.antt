-- A sender's state as its clauses name it.
use Rattle.std.specs.Prelude.{ℕ, Bool, List, Option}
use Rattle.sctp_model.specs.messages.Plan.{Message, Entry}
use Rattle.sctp_model.specs.sender.SenderView.{Queued}
use Rattle.sctp_send.specs.declared.kept.message.Fate.{Fate}
use Rattle.sctp_send.specs.declared.kept.entry.CoveredRun.{CoveredRun}
use Rattle.sctp_send.specs.declared.kept.last_forward.LastForward.{LastForward}
use Rattle.sctp_send.specs.declared.kept.resets.OutgoingResets.{OutgoingResets}

-- what is kept of one index above CUM
pub record Item : Type 0 where
  pub entry : Entry
  pub message : Option Message
  pub sent : Bool
  pub marked : Bool
  pub covered : Bool
  pub abandoned : Bool
  -- how often it was retransmitted, 65535 at most
  pub repeats : ℕ

-- the fragment that a message in part takes next
pub record Rest : Type 0 where
  pub entry : Entry
  pub message : Option Message

-- a stream: how many messages of each kind have a number, and what is left of the one in part
pub record Track : Type 0 where
  pub ordered : ℕ
  pub unordered : ℕ
  pub rest : Option Rest

-- All that a sender keeps: its constants, CUM, the peer's window and the turn, then indexes, the queue, streams and tickets.
pub record Kept : Type 0 where
  pub initial : ℕ
  pub streams : ℕ
  pub fragment : ℕ
  pub partial : Bool
  pub cum : ℕ
  pub rwnd : ℕ
  pub turn : ℕ
  pub items : List Item
  pub queue : List Queued
  pub tracks : List Track
  -- by ticket, from 1 on
  pub fates : List Fate
  -- so many of the first tickets are over: nothing else is kept of them
  pub ended : ℕ
  -- so many messages were abandoned after they took their numbers
  pub abandoned : ℕ
  -- what is covered above CUM, where that is known
  pub runs : Option (List CoveredRun)
  -- how many entries above CUM there is room for
  pub capacity : ℕ
  -- so many of the first tickets are never late again; and of each ticket behind them, the moment from which its message may be
  pub passed : ℕ
  pub moments : List ℕ
  -- that is said of messages whose entries are covered, too, unless this is so
  pub asleep : Bool
  -- the highest index up to CUM that was sent
  pub before : ℕ
  -- the FORWARD that was built last
  pub forward : Option LastForward
  -- the resets of streams
  pub resets : OutgoingResets
