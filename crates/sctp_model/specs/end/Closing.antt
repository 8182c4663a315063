-- How an endpoint goes from state to state while an association is closed (RFC 9260, 9.2).
use Rattle.std.specs.Prelude.{Bool, true, false}
use Rattle.sctp_model.specs.sender.Readers.{drained}
use Rattle.sctp_model.specs.end.EndView.{Tags, Stage, Established, ShutdownPending, ShutdownSent, ShutdownReceived, ShutdownAckSent, Phase, Open, Due, EndView}
use Rattle.sctp_model.specs.end.Clock.{turned}

-- the endpoint, with this due
abbrev pub with_due : Due → EndView → EndView
with_due d e = record e { due = d }

-- The endpoint has nothing left to be acknowledged after its user shut the association, and sends SHUTDOWN (RFC 9260, 9.2).
abbrev pub says_shutdown : Tags → EndView → EndView
says_shutdown t e = with_due (record (turned (Open t ShutdownSent) e).due { shutdown = true }) (turned (Open t ShutdownSent) e)

-- The peer has sent SHUTDOWN; this endpoint has nothing left either, and answers SHUTDOWN ACK (RFC 9260, 9.2).
abbrev pub answers_shutdown : Tags → EndView → EndView
answers_shutdown t e = with_due (record (turned (Open t ShutdownAckSent) e).due { shutdown_ack = true }) (turned (Open t ShutdownAckSent) e)

-- what follows in this state once everything is sent and acknowledged
abbrev pub rested_in : Phase → Bool → EndView → EndView
rested_in (Open t ShutdownPending) true e = says_shutdown t e
rested_in (Open t ShutdownReceived) true e = answers_shutdown t e
rested_in h b e = e

-- An endpoint whose sender is drained goes on with closing at once, before anything else acts.
abbrev pub rested : EndView → EndView
rested e = rested_in e.phase (drained e.sender) e

-- ---- the state table: which chunks a stage hears (RFC 9260, 4, 5.2.4, 6.2 and 9.2)

-- A row: the columns whose chunks act in a state. What arrives in the other columns is passed over. The columns are data and FORWARDs; what acknowledges, a
-- SACK or the cumulative TSN of a SHUTDOWN; a COOKIE ECHO that arrives again; SHUTDOWN ACK; SHUTDOWN COMPLETE.
pub record Hears : Type 0 where
  pub data_chunks : Bool
  pub acknowledgements : Bool
  pub cookies : Bool
  pub shutdown_acks : Bool
  pub completes : Bool

-- The rows: data is heard until the peer has shut its direction, acknowledgements until this endpoint has closed its own.
abbrev pub row_of : Stage → Hears
row_of Established = record { data_chunks = true; acknowledgements = true; cookies = true; shutdown_acks = false; completes = false }
row_of ShutdownPending = record { data_chunks = true; acknowledgements = true; cookies = true; shutdown_acks = false; completes = false }
row_of ShutdownSent = record { data_chunks = true; acknowledgements = false; cookies = true; shutdown_acks = true; completes = false }
row_of ShutdownReceived = record { data_chunks = false; acknowledgements = true; cookies = true; shutdown_acks = false; completes = false }
row_of ShutdownAckSent = record { data_chunks = false; acknowledgements = false; cookies = false; shutdown_acks = true; completes = true }

-- the column of data and FORWARDs
abbrev pub takes_data : Stage → Bool
takes_data g = (row_of g).data_chunks

-- the column of acknowledgements
abbrev pub takes_acknowledgements : Stage → Bool
takes_acknowledgements g = (row_of g).acknowledgements

-- the column of COOKIE ECHO
abbrev pub takes_cookies : Stage → Bool
takes_cookies g = (row_of g).cookies

-- the column of SHUTDOWN ACK
abbrev pub awaits_ack : Stage → Bool
awaits_ack g = (row_of g).shutdown_acks

-- the column of SHUTDOWN COMPLETE
abbrev pub awaits_complete : Stage → Bool
awaits_complete g = (row_of g).completes

-- a SHUTDOWN was sent, and isn't answered yet
abbrev pub is_shutdown_sent : Stage → Bool
is_shutdown_sent ShutdownSent = true
is_shutdown_sent g = false

-- An endpoint hears a chunk if it is open, in a stage whose row says so.
abbrev pub hears : (Stage → Bool) → Phase → Bool
hears says (Open t g) = says g
hears says h = false
