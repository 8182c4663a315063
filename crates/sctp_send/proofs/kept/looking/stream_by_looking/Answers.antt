use Rattle.std.proofs.Common.{ap, sym, ◌∙◌, arith, map, Some}
use Rattle.std.proofs.lemmas.List.{length-map}
use Rattle.std.proofs.lemmas.Option.{slice_get-get_or}
use Rattle.sctp_send.specs.SenderFields.{track_meaning}
use Rattle.sctp_send.proofs.WalkLemmas.{track_read}
use Rattle.sctp_send.proofs.TicketLemmas.{walked_rest, ended_rest}
use Rattle.sctp_send.proofs.kept.looking.stream_by_looking.Goals as goal

pub loop-at-preserved : goal.loop-at-preserved
loop-at-preserved c = λ size.
    let is = sym c.if-goes_on.false ∙ c.goes_on.ensures size in
    walked_rest c.args.ticket size c.args.tracks.now c.loop-at.at c.index-tracks-at.result _ (omega arith) c.index-tracks-at.is is (c.loop-at.invariant size)

pub returns-then-goes_on-clause-some : goal.returns-then-goes_on-clause-some
returns-then-goes_on-clause-some c = λ size.
    let long = length-map c.args.tracks.now (track_meaning size) in
    let x = track_meaning size c.index-tracks-at.result in
    record {
      track = x;
      there = slice_get-get_or (map (track_meaning size) c.args.tracks.now) c.loop-at.at x (omega arith) ∙ ap (λ y. Some y) (track_read size c.args.tracks.now c.loop-at.at c.index-tracks-at.result c.index-tracks-at.is);
      mine = sym (c.goes_on.ensures size) ∙ c.if-goes_on.true;
    }

pub returns-clause-none : goal.returns-clause-none
returns-clause-none c = λ size. sym (ended_rest c.args.ticket size c.args.tracks.now c.loop-at.at (omega arith) (c.loop-at.invariant size))
