-- What a strict endpoint doesn't take and doesn't say, computed: fragments numbered against the rules (RFC 8260, 2.1), options that weren't agreed on.
use Rattle.std.proofs.Common.{◌≡◌, ℕ, Bool, true, false, ◌==◌, List, [], ◌∷◌, ◌++◌, map, refl}
use Rattle.sctp_model.specs.wire.Chunk.{PieceMeaning}
use Rattle.sctp_model.specs.messages.Format.{Format, Plain, Interleaved}
use Rattle.sctp_model.specs.receiver.ReceiverView.{ReceiverView, fresh_receiver}
use Rattle.sctp_model.specs.receiver.PieceTaken.{Passed, Kept, answer_to, is_misnumbered}
use Rattle.sctp_model.specs.end.EndView.{Configuration, EndView}
use Rattle.sctp_model.specs.end.Configured.{plain_configuration}
use Rattle.sctp_model.specs.end.Opening.{opened}
use Rattle.sctp_model.specs.end.Options.{own_options, said_to}
use Rattle.sctp_model.specs.end.Reports.{written}
use Rattle.sctp_model.specs.end.Acting.{is_refused}
use Rattle.sctp_safety.proofs.machine.OwnOptions.{interleave_read, partial_read, reset_read}
use Rattle.sctp_outcomes.proofs.receiver.Examples.{chunk, takes}

-- ---- fragments

-- a receiver that holds the fragments 0 and 1 of message 0, at the TSNs 1 and 2
abbrev holds_two : ReceiverView
holds_two = takes Interleaved (takes Interleaved (fresh_receiver 1 1 100 0) (chunk false true false 1 0 7 1)) (chunk false false false 2 0 1 2)

-- a fragment without B says 0; fragment 1 arrives again under the TSN 4: both are against the rules
wrong : map (is_misnumbered Interleaved holds_two 2) (chunk false false true 3 0 0 9 ∷ chunk false false true 4 0 1 9 ∷ []) ≡ true ∷ true ∷ []
wrong = refl

-- not: the next fragment; the same chunk once more; the first of the next message, whose word is its payload id; DATA
right : map (is_misnumbered Interleaved holds_two 2) (chunk false false true 3 0 2 9 ∷ chunk false false false 2 0 1 2 ∷ chunk false true true 3 1 0 9 ∷ []) ≡ false ∷ false ∷ false ∷ []
right = refl

plain_words : is_misnumbered Plain holds_two 2 (chunk false false true 3 0 0 9) ≡ false
plain_words = refl

-- an endpoint that isn't strict takes the one, and records the TSN of the other
lenient : (answer_to Interleaved holds_two 2 (chunk false false true 3 0 0 9) ≡ Passed) × (answer_to Interleaved holds_two 2 (chunk false false true 4 0 1 9) ≡ Passed)
lenient = (refl, refl)

abbrev options : Configuration
options = record (plain_configuration 5000 5001 1500 1400 65536 1 1) { interleave = true; partial = true; reset = true }

abbrev holding : (strict : Bool) → EndView
holding strict = record (opened (record options { strict = strict }) (record { tag = 7; tsn = 1 }) (record { tag = 9; tsn = 1 })) { receiver = holds_two }

refuses : map (λ (strict : Bool). is_refused (holding strict) 2 (chunk false false true 4 0 1 9)) (true ∷ false ∷ []) ≡ true ∷ false ∷ []
refuses = refl

-- ---- options

-- the answer to an INIT that asks for partial reliability alone: a strict listener says that, another one all that it is set up for
abbrev strict : Configuration
strict = record options { strict = true }

abbrev asker : Configuration
asker = record options { interleave = false; reset = false }

abbrev asked : List ℕ
asked = written (own_options asker)

says_agreed : ((said_to strict asked).interleave ≡ false) × ((said_to strict asked).partial ≡ true) × ((said_to strict asked).reset ≡ false)
says_agreed = (interleave_read strict asker, partial_read strict asker, reset_read strict asker)

says_all : own_options (said_to options asked) ≡ own_options options
says_all = refl
