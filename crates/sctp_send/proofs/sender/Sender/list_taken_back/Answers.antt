use Rattle.std.proofs.Common.{◌≡◌, length, sym, ap, subst, arith}
use Rattle.std.proofs.lemmas.Bool.Decides.{nat_tests}
use Rattle.sctp_wire.specs.ChunkTree.{sack_meaning}
use Rattle.sctp_model.specs.sender.SackTaken.{sack_after}
use Rattle.sctp_send.specs.SenderKept.{Kept}
use Rattle.sctp_send.specs.SenderStands.{StandsFor}
use Rattle.sctp_send.specs.CoveredRuns.{AreCovered}
use Rattle.sctp_send.proofs.pace.BackLemmas.{none_known}
use Rattle.sctp_send.proofs.sender.Sender.list_taken_back.Goals as goal

pub returns-then-is_empty-clause-back : goal.returns-then-is_empty-clause-back
unfolding StandsFor
returns-then-is_empty-clause-back g c = λ v stands none.
    let s = c.self.inside in
    let runs = ap (λ (k : Kept). k.runs) c.self.view_is in
    let covered = subst (λ (o : _). AreCovered o v.covered v.cum) (sym runs) stands.holds.covered in
    let empty : length s.told.covered.items ≡ 0 = grind (arith, nat_tests, c.is_empty.ensures, c.if-is_empty.true, s.told.covered.ok.0) in
    none_known v (sack_after v (sack_meaning c.args.sack.now)) s.told.is_known s.told.covered.items c.clear.new.self.items c.clear.ensures.items c.if-self.true empty covered
