-- Each call leaves the tickets returned, the messages numbered and the messages taken as its clause `logs` says.
use Rattle.std.proofs.Common.{◌≡◌, ℕ, ◌-◌, ◌*◌, ◌≤◌, List, length, map, Option, Some, None, sym, subst, ap, arith}
use Rattle.std.proofs.lemmas.List.{length-map}
use Rattle.std.specs.Prelude.{Result, Ok, Err, option_map}
use Rattle.std.specs.declared.vec.Vec.{Vec}
use Rattle.std.specs.declared.alloc.Global.{Global}
use Rattle.sctp_model.specs.numbers.Limits.{GREATEST_PACKET}
use Rattle.sctp_model.specs.wire.Packet.{HEADER_ROOM, Packet}
use Rattle.sctp_model.specs.world.Calls.{Call}
use Rattle.sctp_model.specs.end.EndView.{Draw, EndView}
use Rattle.sctp_model.specs.end.Clock.{at_moment}
use Rattle.sctp_model.specs.end.UserCalls as model
use Rattle.sctp_model.specs.end.UserCalls.{connect_answer, called, SendAnswer, send_answer, send_leaves, abort_answer, abort_leaves, UserTakes, ResetCall, Begun, reset_leaves, told_leaves}
use Rattle.sctp_values.specs.declared.no_memory.NoMemory.{NoMemory}
use Rattle.sctp_values.specs.declared.ticket.Ticket.{Ticket}
use Rattle.sctp_terms.specs.declared.calls.ConnectFault.{ConnectFault}
use Rattle.sctp_terms.specs.declared.calls.AbortFault.{AbortFault}
use Rattle.sctp_terms.specs.declared.calls.ResetFault.{ResetFault}
use Rattle.sctp_recv.specs.HandedOf.{handed_of}
use Rattle.sctp_recv.specs.declared.message.Message.{Message}
use Rattle.sctp_recv.specs.declared.restart.Reset.{Reset}
use Rattle.sctp_association.specs.AbortAnswers.{aborted_view}
use Rattle.sctp_association.specs.ResetAnswers.{ResetAnswers, reset_view, ToldAnswers, told_view}
use Rattle.sctp_association.specs.CallAnswers.{connect_meaning, connected, SendAnswers, sent_view}
use Rattle.sctp_association.specs.declared.user.calls.Refused.{Refused}
use Rattle.sctp_outcomes.specs.Kept.{IsSound, KeepsLogs, SendNotes}
use Rattle.sctp_outcomes.proofs.logs.Ends.{keeps_itself}
use Rattle.sctp_outcomes.proofs.logs.Heard.{moment_keeps, packets_keep_logs, cut_packets_keep_logs}
use Rattle.sctp_outcomes.proofs.logs.Called.{connect_keeps_logs, abort_keeps_logs, reset_keeps_logs, send_gives_tickets, take_takes_one, told_keeps_logs}
use Rattle.sctp_outcomes.proofs.logs.Built.{empty_builds_keep_logs}
use Rattle.sctp_endpoint.specs.EndpointStands.{EndpointStands}
use Rattle.sctp_endpoint.specs.Handled.{Handled}
use Rattle.sctp_endpoint.specs.Transmitted.{Transmits, MOST_TICKETS}
use Rattle.sctp_endpoint.specs.Logs.{LeavesLogs, GivesLogs, TakesLogs}
use Rattle.sctp_endpoint.specs.declared.after.Verdict.{Verdict}
use Rattle.sctp_endpoint.specs.declared.endpoint.Endpoint.{Endpoint}

pub same_logs : (v : EndView) (e : Endpoint) → IsSound v → EndpointStands e v → LeavesLogs v e
same_logs v e s stands = (v, keeps_itself v s, stands)

pub moment_logs : (v : EndView) (now : ℕ) (e : Endpoint) → IsSound v → EndpointStands e (at_moment v now) → LeavesLogs v e
moment_logs v now e s stands = (at_moment v now, moment_keeps v now s, stands)

pub handled_logs : (r : Result Verdict NoMemory) (v : EndView) (now : ℕ) (d : Draw) (o : Option Packet) (e : Endpoint) → IsSound v → Handled v now d o r e → LeavesLogs v e
handled_logs (Ok told) v now d o e s h = (h.0, packets_keep_logs v now d o h.0 h.1 s h.2, h.4)
handled_logs (Err why) v now d o e s h = (h.0, cut_packets_keep_logs v now d o h.0 s h.1, h.2)

pub connect_logs : (r : Result (Unit {0}) ConnectFault) (v : EndView) (now : ℕ) (d : Draw) (e : Endpoint) → IsSound v → connect_meaning r ≡ connect_answer v.phase
    → EndpointStands e (connected v now d r) → LeavesLogs v e
connect_logs (Ok done) v now d e s answer stands = (called (at_moment v now) d, connect_keeps_logs v now d s (sym answer), stands)
connect_logs (Err why) v now d e s answer stands = same_logs v e s stands

pub abort_logs : (r : Result (Vec ℕ Global) AbortFault) (v : EndView) (reason : List ℕ) (e : Endpoint) → IsSound v → EndpointStands e (aborted_view v reason r) → LeavesLogs v e
abort_logs (Ok bytes) v reason e s stands = (abort_leaves (abort_answer v reason) v, abort_keeps_logs v (abort_answer v reason) s, stands)
abort_logs (Err why) v reason e s stands = same_logs v e s stands

pub send_logs : (r : Result Ticket Refused) (v : EndView) (c : Call) (e : Endpoint) → IsSound v → SendAnswers v c r → EndpointStands e (sent_view v c r) → GivesLogs v r e
send_logs (Ok ticket) v c e s answer stands =
    (send_leaves (model.Ticket ticket.0) v c, subst (λ (a : SendAnswer). SendNotes a v (send_leaves a v c)) answer (send_gives_tickets v c s), stands)
send_logs (Err why) v c e s answer stands = same_logs v e s stands

pub reset_logs : (r : Result (Unit {0}) ResetFault) (v : EndView) (stream : ℕ) (e : Endpoint) → IsSound v → ResetAnswers v stream r → EndpointStands e (reset_view v stream r) → LeavesLogs v e
reset_logs (Ok done) v stream e s answer stands =
    (reset_leaves Begun v stream, subst (λ (a : ResetCall). KeepsLogs v (reset_leaves a v stream)) answer (reset_keeps_logs v stream s), stands)
reset_logs (Err why) v stream e s answer stands = same_logs v e s stands

pub told_logs : (r : Option Reset) (v : EndView) (e : Endpoint) → IsSound v → ToldAnswers v r → EndpointStands e (told_view v r) → LeavesLogs v e
told_logs None v e s answer stands = same_logs v e s stands
told_logs (Some r) v e s answer stands =
    (told_leaves (Some r.stream) v, subst (λ (o : Option ℕ). KeepsLogs v (told_leaves o v)) answer.0 (told_keeps_logs v s), stands)

pub take_logs : (m : Option Message) (v : EndView) (stream : ℕ) (t : EndView) (e : Endpoint) → IsSound v → UserTakes v stream (option_map handed_of m) t → EndpointStands e t → TakesLogs v stream m e
take_logs None v stream t e s takes stands = (t, take_takes_one v stream None t s takes, stands)
take_logs (Some m) v stream t e s takes stands = (t, take_takes_one v stream (Some (handed_of m)) t s takes, stands)

pub no_packet_logs : (v : EndView) (now : ℕ) (e : Endpoint) → IsSound v → Transmits (at_moment v now) None e → LeavesLogs v e
no_packet_logs v now e s t = (t.0, empty_builds_keep_logs v now t.0 s t.1, t.2)

-- So few tickets are told where so few messages begin in a packet of this limit.
pub few_told : (ts : List Ticket) (ns : List ℕ) (limit : ℕ) → map (λ t. t.0) ts ≡ ns → 20 * length ns ≤ limit - HEADER_ROOM → limit ≤ GREATEST_PACKET → length ts ≤ MOST_TICKETS
few_told ts ns limit are few within =
    let long = length-map ts (λ (t : Ticket). t.0) in
    let same = ap (λ (xs : List ℕ). length xs) are in
    omega (arith, long, same, few, within)
