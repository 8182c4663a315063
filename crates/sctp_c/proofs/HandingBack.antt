-- What was said of an end is said of it too once something was handed back to it.
use Rattle.std.proofs.Common.{◌≡◌, ◌∙◌}
use Rattle.std.specs.Prelude.{Option, Some, None, Result, Ok, Err, IfOk, OnErr}
use Rattle.sctp_model.specs.end.EndView.{EndView}
use Rattle.sctp_values.specs.declared.no_memory.NoMemory.{NoMemory}
use Rattle.sctp_endpoint.specs.Counted.{Counted, counted, CountsAfter}
use Rattle.sctp_endpoint.specs.EndpointStands.{EndpointStands}
use Rattle.sctp_endpoint.specs.Transmitted.{Transmits}
use Rattle.sctp_endpoint.specs.Logs.{SendsLogs}
use Rattle.sctp_endpoint.specs.declared.endpoint.Endpoint.{Endpoint}
use Rattle.sctp_endpoint.specs.declared.transmit.Sent.{Sent}

-- the second end stands for each view for which the first one does
abbrev pub StandsOn : Endpoint → Endpoint → Type 0
StandsOn e f = (v : EndView) → EndpointStands e v → EndpointStands f v

-- its next packet
pub transmits_on : (v : EndView) (r : Result (Option Sent) NoMemory) (e f : Endpoint) → StandsOn e f → IfOk r (λ s. Transmits v s e) → IfOk r (λ s. Transmits v s f)
transmits_on v (Err why) e f on t = tt
transmits_on v (Ok None) e f on t = (t.0, t.1, on t.0 t.2)
transmits_on v (Ok (Some s)) e f on t =
    record { chunks = t.chunks; after = t.after; builds = t.builds; some = t.some; packet = t.packet; size = t.size; within = t.within; tickets = t.tickets; stands = on t.after t.stands }

-- no packet for want of memory
pub refused_on : (v : EndView) (r : Result (Option Sent) NoMemory) (e f : Endpoint) → StandsOn e f → OnErr r (EndpointStands e v) → OnErr r (EndpointStands f v)
refused_on v (Err why) e f on stands = on v stands
refused_on v (Ok sent) e f on stands = tt

-- what is noted of the packet
pub sends_on : (v : EndView) (r : Result (Option Sent) NoMemory) (e f : Endpoint) → StandsOn e f → IfOk r (λ s. SendsLogs v s e) → IfOk r (λ s. SendsLogs v s f)
sends_on v (Err why) e f on l = tt
sends_on v (Ok None) e f on l = (l.0, l.1, on l.0 l.2)
sends_on v (Ok (Some s)) e f on l = (l.0, l.1, l.2, on l.0 l.3)

-- what is counted of the packet
pub counts_on : (v : EndView) (r : Result (Option Sent) NoMemory) (e f : Endpoint) (before : Counted) → StandsOn e f → counted f ≡ counted e → CountsAfter v r e before
    → CountsAfter v r f before
counts_on v (Err why) e f before on same c = same ∙ c
counts_on v (Ok None) e f before on same c = same ∙ c
counts_on v (Ok (Some s)) e f before on same c =
    record { chunks = c.chunks; after = c.after; builds = c.builds; packet = c.packet; stands = on c.after c.stands; sendings = c.sendings; sends = c.sends; counts = same ∙ c.counts }
