use Rattle.std.proofs.Common.{[], refl}
use Rattle.sctp_model.specs.world.World.{no_log}
use Rattle.sctp_pair.specs.Sides.{SideStands}
use Rattle.sctp_pair.proofs.NotesLemmas.{notes_none}
use Rattle.sctp_pair.proofs.one_side.OneSide.new.Goals as goal

pub returns-in-Ok : goal.returns-in-Ok
unfolding SideStands
returns-in-Ok c = λ v stands none. record {
  end = stands;
  bag = rw c.new.ensures.items tt;
  notes = rw (c.new-in-Ok.ensures.items, c.new-in-Ok-2.ensures.items) (notes_none [] c.in-Ok.taken.items v no_log refl c.in-Ok.ensures none);
}
