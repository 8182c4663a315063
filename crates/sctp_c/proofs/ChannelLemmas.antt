-- What is due of channels changes no configuration, so their next packet fits a buffer that has space for the longest one.
use Rattle.std.proofs.Common.{◌≡◌, ℕ, suc, ◌≤◌, List, [], ◌∷◌, length, take, refl, ◌∙◌, arith}
use Rattle.std.specs.Prelude.{Option, Some, None, Result, Ok, Err, IfOk, IfSome}
use Rattle.sctp_model.specs.end.EndView.{EndView}
use Rattle.sctp_model.specs.end.UserCalls.{SendAnswer, Ticket, Refused, NotOpen, send_answer, ResetCall, Begun, NotAgreed, NoStream, reset_call}
use Rattle.sctp_values.specs.declared.no_memory.NoMemory.{NoMemory}
use Rattle.sctp_endpoint.specs.declared.transmit.Sent.{Sent}
use Rattle.sctp_channels.specs.Calling.{ack_call}
use Rattle.sctp_channels.specs.Packets.{Transmit}
use Rattle.sctp_channels.specs.Settling.{acknowledged, reset_asked, settled_by, settled, all_settled}
use Rattle.sctp_channels.specs.Streams.{Table}
use Rattle.sctp_channels.specs.declared.channels.Channels.{Channels}
use Rattle.sctp_channels.specs.declared.stream.Due.{Due}
use Rattle.sctp_channels.specs.declared.stream.Due.TheVariants as due
use Rattle.sctp_channels.specs.declared.stream.Stream.{Stream}

-- an ACK that was due
acked : (a : SendAnswer) (v : EndView) (s : ℕ) (x : Stream) → (acknowledged a v s x).view.configuration ≡ v.configuration
acked (Ticket t) v s x = refl
acked (Refused why) v s x = refl
acked NotOpen v s x = refl

-- a reset
asked : (a : ResetCall) (v : EndView) (s : ℕ) (x : Stream) → (reset_asked a v s x).view.configuration ≡ v.configuration
asked Begun v s x = refl
asked NoStream v s x = refl
asked NotAgreed v s x = refl

-- whatever is due on a stream
by_due : (d : Due) (v : EndView) (s : ℕ) (x : Stream) → (settled_by d v s x).view.configuration ≡ v.configuration
by_due due.Nothing v s x = refl
by_due due.Acknowledgement v s x = acked (send_answer v (ack_call s)) v s x
by_due due.Reset v s x = asked (reset_call v s) v s x

-- on all of them
pub same_configuration : (v : EndView) (s : ℕ) (xs : List Stream) → (all_settled v s xs).view.configuration ≡ v.configuration
same_configuration v s [] = refl
same_configuration v s (x ∷ xs) = same_configuration (settled v s x).view (suc s) xs ∙ by_due x.due v s x

-- the next packet
pub transmit_fits : (v : EndView) (x : Table) (now : ℕ) (r : Result (Option Sent) NoMemory) (c : Channels) (n : ℕ) → Transmit v x now r c
    → v.configuration.limit ≤ n → IfOk r (λ o. IfSome o (λ s. length s.packet.items ≤ n))
transmit_fits v x now (Err why) c n sends large = tt
transmit_fits v x now (Ok None) c n sends large = tt
transmit_fits v x now (Ok (Some s)) c n sends large =
    let same = same_configuration v 0 (take (length x.streams) x.streams) in
    let within : length s.packet.items ≤ v.configuration.limit = rw same at sends.0.within in
    omega (arith, within, large)
