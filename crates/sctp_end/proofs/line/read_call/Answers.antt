use Rattle.sctp_end.proofs.line.read_call.Goals as goal

pub returns-in-Connect : goal.returns-in-Connect
returns-in-Connect c = rw c.in-Connect.is c.read_connect.ensures

pub returns-in-Draw : goal.returns-in-Draw
returns-in-Draw c = rw c.in-Draw.is c.read_new_draw.ensures

pub returns-in-At : goal.returns-in-At
returns-in-At c = rw c.in-At.is c.read_at.ensures

pub returns-in-Packet : goal.returns-in-Packet
returns-in-Packet c = rw c.in-Packet.is c.read_packet.ensures

pub returns-in-Send : goal.returns-in-Send
returns-in-Send c = rw c.in-Send.is c.read_send.ensures

pub returns-in-Abandon : goal.returns-in-Abandon
returns-in-Abandon c = rw c.in-Abandon.is c.read_abandon.ensures

pub returns-in-Acknowledged : goal.returns-in-Acknowledged
returns-in-Acknowledged c = rw c.in-Acknowledged.is c.read_acknowledged.ensures

pub returns-in-Abandoned : goal.returns-in-Abandoned
returns-in-Abandoned c = rw c.in-Abandoned.is c.read_abandoned.ensures

pub returns-in-Take : goal.returns-in-Take
returns-in-Take c = rw c.in-Take.is c.read_take.ensures

pub returns-in-Reset : goal.returns-in-Reset
returns-in-Reset c = rw c.in-Reset.is c.read_reset.ensures

pub returns-in-Abort : goal.returns-in-Abort
returns-in-Abort c = rw c.in-Abort.is c.read_abort.ensures
