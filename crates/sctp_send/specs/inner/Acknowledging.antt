-- What a SACK or a SHUTDOWN is checked for, step by step (RFC 9260, 6.2.1 and 9.2).
use Rattle.std.specs.Prelude.{◌≡◌, ℕ, ◌+◌, ◌≤◌, nat_lt, true, false, List, [], ◌∷◌, length, Option, None, Some, Result, Ok, Err}
use Rattle.sctp_model.specs.wire.Chunk.{BlockMeaning, SackMeaning}
use Rattle.sctp_model.specs.sender.SenderView.{SenderView}
use Rattle.sctp_model.specs.sender.Words.{when, first_there}
use Rattle.sctp_model.specs.sender.SackTaken as taken
use Rattle.sctp_model.specs.sender.SackTaken.{is_stale, index_of, some_ends_past, some_is_bad, sack_fault}
use Rattle.sctp_send.specs.SenderAnswers.{fault_meaning}
use Rattle.sctp_send.specs.declared.sack.SackFault.{SackFault}
use Rattle.sctp_send.specs.declared.sack.SackFault.TheVariants.{Stale, Beyond, BadBlock}

-- A cumulative TSN passes n entries: it is that of an index of the plan, n past CUM.
pub record IsPassing (v : SenderView) (wire n : ℕ) : Type 0 where
  pub fresh : is_stale v wire ≡ false
  pub index : index_of v wire ≡ v.cum + n
  pub within : v.cum + n ≤ length v.plan.entries

-- a cumulative TSN is refused: it lies before that of CUM, or past the last index
abbrev pub Refuses : SenderView → ℕ → SackFault → Type 0
Refuses v wire Stale = is_stale v wire ≡ true
Refuses v wire Beyond = (is_stale v wire ≡ false) × (nat_lt (length v.plan.entries) (index_of v wire) ≡ true)
Refuses v wire BadBlock = ⊥

-- how many entries a cumulative TSN passes, or why it is refused
abbrev pub PassingAnswer : SenderView → ℕ → Result ℕ SackFault → Type 0
PassingAnswer v wire (Ok n) = IsPassing v wire n
PassingAnswer v wire (Err fault) = Refuses v wire fault

-- how many entries the cumulative TSN of a SACK passes, or why the SACK is refused
abbrev pub SackAnswer : SenderView → SackMeaning → Result ℕ SackFault → Type 0
SackAnswer v x (Ok n) = IsPassing v x.cumulative n × (sack_fault v x ≡ None)
SackAnswer v x (Err fault) = sack_fault v x ≡ Some (fault_meaning fault)

-- what is wrong with blocks, of which none may end past this entry
abbrev pub block_fault : ℕ → List BlockMeaning → Option taken.SackFault
block_fault last blocks = first_there (when (some_ends_past last 0 blocks) taken.Beyond ∷ when (some_is_bad 0 blocks) taken.BadBlock ∷ [])
