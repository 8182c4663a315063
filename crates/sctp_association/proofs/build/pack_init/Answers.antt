use Rattle.std.proofs.Common.{◌∙◌, ap, sym}
use Rattle.std.proofs.lemmas.Bool.{false≢true}
use Rattle.sctp_model.specs.end.EndView.{Configuration}
use Rattle.sctp_association.proofs.InitLemmas.{init_fits}
use Rattle.sctp_association.proofs.BuildLemmas.{waits, calls_packet}
use Rattle.sctp_association.proofs.build.pack_init.Goals as goal

pub returns-then-not-packing : goal.returns-then-not-packing
returns-then-not-packing c = λ e configured phase empty. waits e c.args.draw c.args.packing.now c.filled_none.result phase c.if-not-packing.true empty c.filled_none.ensures

-- it does fit
pub returns-then-not-branch : goal.returns-then-not-branch
returns-then-not-branch c = λ e configured phase empty.
    let fits = init_fits c.args.config.now c.args.draw c.args.packing.now.writer empty.chunks (empty.packet.limit ∙ ap (λ (k : Configuration). k.limit) configured) c.limit-limit.ensures.configured.limit.0 in
    absurd (false≢true (sym c.if-not-branch.true ∙ (c.in_ok-put_init.ensures.answer ∙ fits)))

pub returns : goal.returns
returns c = λ e configured phase empty.
    calls_packet e c.args.config.now c.args.draw c.args.packing.now _ c.add.new.self _ c.filled_none-2.result configured phase empty c.if-not-packing.false c.if-not-branch.false
    c.in_ok-put_init.ensures.after c.add.ensures c.filled_none-2.ensures
