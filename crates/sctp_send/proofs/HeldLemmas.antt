-- What is kept holds for the same view, however many tickets are over or passed, whatever moments they have, whichever FORWARD is kept, and wherever there is room.
use Rattle.std.proofs.Common.{ℕ, ◌+◌, ◌≤◌, List, length, Bool, Option}
use Rattle.sctp_model.specs.messages.Format.{Format}
use Rattle.sctp_model.specs.sender.SenderView.{SenderView}
use Rattle.sctp_model.specs.sender.Queueing.{owed_by_queue, owed_by_parts}
use Rattle.sctp_send.specs.SenderKept.{Kept}
use Rattle.sctp_send.specs.SenderStands.{Holds, Keeps}
use Rattle.sctp_send.specs.ForwardKept.{IsForwardKept}
use Rattle.sctp_send.specs.declared.kept.last_forward.LastForward.{LastForward}

held_with : (s : Kept) (v : SenderView) (ended passed : ℕ) (moments : List ℕ) (asleep : Bool) (o : Option LastForward) (c : ℕ) → Holds s v → length s.items + (owed_by_queue v.queue + owed_by_parts v) ≤ c
    → Holds (record s { ended = ended; passed = passed; moments = moments; asleep = asleep; forward = o; capacity = c }) v
held_with s v ended passed moments asleep o c h room = record {
  initial = h.initial;
  streams = h.streams;
  fragment = h.fragment;
  partial = h.partial;
  cum = h.cum;
  rwnd = h.rwnd;
  turn = h.turn;
  items = h.items;
  queue = h.queue;
  tracks = h.tracks;
  fates = h.fates;
  covered = h.covered;
  room = room;
}

pub still_held : (s : Kept) (v : SenderView) (ended passed : ℕ) (moments : List ℕ) (asleep : Bool) → Holds s v → Holds (record s { ended = ended; passed = passed; moments = moments; asleep = asleep }) v
still_held s v ended passed moments asleep h = held_with s v ended passed moments asleep s.forward s.capacity h h.room

-- another FORWARD is kept, or there is other room
pub keeps_with : (f : Format) (s : Kept) (v : SenderView) (o : Option LastForward) (c : ℕ) → Keeps f s v → IsForwardKept f v.resets.base v.streams v.plan.entries o → length s.items + (owed_by_queue v.queue + owed_by_parts v) ≤ c
    → Keeps f (record s { forward = o; capacity = c }) v
keeps_with f s v o c k built room = record {
  holds = held_with s v s.ended s.passed s.moments s.asleep o c k.holds room;
  over = record { within = k.over.within; each = λ t le. let x = k.over.each t le in record { queue = x.queue; tracks = x.tracks; items = x.items } };
  due = record { many = k.due.many; each = λ t now lt. let i = k.due.each t now lt in record { queue = i.queue; items = i.items; tracks = i.tracks } };
  forward = built;
  resets = k.resets;
  before = k.before;
  counted = k.counted;
  limits = k.limits;
  reached = k.reached;
}
