-- The answer to a call that changed nothing: the refusal that the definitions answer, or that an allocation failed.
use Rattle.std.specs.Prelude.{◌≡◌, ℕ, ◌⊎◌, List}
use Rattle.sctp_model.specs.world.Calls.{Call as Message}
use Rattle.sctp_model.specs.end.EndView.{EndView}
use Rattle.sctp_model.specs.end.UserCalls.{SendAnswer, AbortAnswer, send_answer, send_leaves, abort_answer, abort_leaves}
use Rattle.sctp_end.specs.declared.reply.Reply.{Reply}
use Rattle.sctp_end.specs.declared.reply.Reply.TheVariants as reply
use Rattle.sctp_endpoint.specs.Counted.{Counted}
use Rattle.sctp_end.specs.Counting.{abort_counts}
use Rattle.sctp_end.specs.Performing.{send_reply, TellsAbort}

-- of a message
abbrev pub SendTold : EndView → Message → Reply → Type 0
SendTold v c r = ((a : SendAnswer) × (send_answer v c ≡ a) × (r ≡ send_reply a) × (send_leaves a v c ≡ v)) ⊎ (r ≡ reply.NoMemory)

-- this answer to an abort adds nothing to what is counted
abbrev pub IsUncounted : Reply → Type 0
IsUncounted r = (c : Counted) → abort_counts r c ≡ c

-- of an abort
abbrev pub AbortTold : EndView → (reason : List ℕ) → Reply → Type 0
AbortTold v reason r = ((a : AbortAnswer) × (abort_answer v reason ≡ a) × TellsAbort a r × (abort_leaves a v ≡ v) × IsUncounted r) ⊎ (r ≡ reply.NoMemory)
