use Rattle.sctp_pair.specs.Sides.{SideStands}
use Rattle.sctp_pair.proofs.NotesLemmas.{notes_none}
use Rattle.sctp_pair.proofs.one_side.OneSide.put_in.Goals as goal

pub returns : goal.returns
unfolding SideStands
returns c = λ v t stands end none. record {
  end = rw c.replace.ensures.after end;
  bag = stands.bag;
  notes = rw (c.replace-2.ensures.after, c.new.ensures.items) (notes_none c.args.self.now.abandoned.items c.wipe.new.logs.items t v.log stands.notes.order c.wipe.ensures none);
}
