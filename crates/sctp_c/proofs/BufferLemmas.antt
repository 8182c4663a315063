-- What fits a buffer: a packet, if the buffer has space for the longest one of its endpoint; a message, if it has space for its bytes; a text.
use Rattle.std.proofs.Common.{◌≡◌, ℕ, suc, ◌≤◌, ◌<◌, ◌-◌, ◌^◌, List, [], ◌∷◌, ◌++◌, length, drop, set, min, refl, ◌∙◌, ap, arith}
use Rattle.std.specs.Prelude.{Option, Some, None, Result, Ok, Err, IfOk, IfErr, IfSome}
use Rattle.std.specs.declared.vec.Vec.{Vec}
use Rattle.std.specs.declared.alloc.Global.{Global}
use Rattle.sctp_model.specs.end.EndView.{EndView}
use Rattle.sctp_model.specs.end.Clock.{at_moment}
use Rattle.sctp_values.specs.declared.no_memory.NoMemory.{NoMemory}
use Rattle.sctp_terms.specs.declared.calls.AbortFault.{AbortFault}
use Rattle.sctp_endpoint.specs.Handled.{IsAnsweredWithin}
use Rattle.sctp_endpoint.specs.Transmitted.{Transmits}
use Rattle.sctp_endpoint.specs.declared.after.Verdict.{Verdict}
use Rattle.sctp_endpoint.specs.declared.after.Verdict.TheVariants.{Taken, Dropped, Answer}
use Rattle.sctp_endpoint.specs.declared.endpoint.Endpoint.{Endpoint}
use Rattle.sctp_endpoint.specs.declared.transmit.Sent.{Sent}

-- the next packet
pub next_fits : (v : EndView) (now : ℕ) (r : Result (Option Sent) NoMemory) (e : Endpoint) (n : ℕ) → IfOk r (λ sent. Transmits (at_moment v now) sent e)
    → v.configuration.limit ≤ n → IfOk r (λ o. IfSome o (λ s. length s.packet.items ≤ n))
next_fits v now (Err why) e n sends large = tt
next_fits v now (Ok None) e n sends large = tt
next_fits v now (Ok (Some s)) e n sends large = omega (arith, sends.within, large)

-- an answer
pub answer_fits : (limit : ℕ) (r : Result Verdict NoMemory) (n : ℕ) → IfOk r (λ verdict. IsAnsweredWithin limit verdict) → limit ≤ n → IfOk r (λ verdict. IsAnsweredWithin n verdict)
answer_fits limit (Err why) n within large = tt
answer_fits limit (Ok Taken) n within large = tt
answer_fits limit (Ok (Dropped reason)) n within large = tt
answer_fits limit (Ok (Answer bytes)) n within large = omega (arith, within, large)

-- an ABORT
pub abort_fits : (limit : ℕ) (r : Result (Vec ℕ Global) AbortFault) (n : ℕ) → IfOk r (λ packet. length packet.items ≤ limit) → limit ≤ n → IfOk r (λ packet. length packet.items ≤ n)
abort_fits limit (Err why) n within large = tt
abort_fits limit (Ok packet) n within large = omega (arith, within, large)

-- a message that is copied into a buffer that has space for it
pub message_put : (bytes old new : List ℕ) (r : Result ℕ ℕ) → IfOk r (λ many. (many ≡ length bytes) × (new ≡ bytes ++ drop many old))
    → IfErr r (λ many. (many ≡ min (length bytes) (2 ^ 64 - 1)) × (length old < many)) → length bytes ≤ length old → new ≡ bytes ++ drop (length bytes) old
message_put bytes old new (Ok many) put none large = put.1 ∙ ap (λ (n : ℕ). bytes ++ drop n old) put.0
message_put bytes old new (Err many) put none large = absurd (omega (arith, none.0, none.1, large))

-- a text and a 0 after it
pub put_zero : (text old : List ℕ) → length text < length old → set (text ++ drop (length text) old) (length text) 0 ≡ text ++ 0 ∷ drop (suc (length text)) old
put_zero [] [] fits = absurd (omega (arith, fits))
put_zero [] (x ∷ old) fits = refl
put_zero (t ∷ text) [] fits = absurd (omega (arith, fits))
put_zero (t ∷ text) (x ∷ old) fits = ap (λ (xs : List ℕ). t ∷ xs) (put_zero text old (omega (arith, fits)))
