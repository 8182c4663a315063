use Rattle.std.proofs.Common.{◌≡◌, ℕ, List, ◌++◌, ◌∙◌, ap}
use Rattle.sctp_wire.specs.ChunkTree.{skip_meaning}
use Rattle.sctp_wire.specs.Skips.{skip_bytes, skips_in}
use Rattle.sctp_wire.proofs.SkipLemmas.{skips_in-push}
use Rattle.sctp_wire.proofs.NumberLemmas.{AreBytes-front}
use Rattle.sctp_wire.proofs.skips.put_skip.Goals as goal

pub returns-clause-skips : goal.returns-clause-skips
returns-clause-skips c =
    let old = c.args.list.now.items in
    let s = skip_meaning c.args.skip in
    let form = c.args.form in
    let joined : c.append_skip.new.out.items ≡ old ++ skip_bytes form s =
    c.append_skip.ensures.items ∙ ap (λ (xs : List ℕ). xs ++ skip_bytes form s) c.reserve.ensures.items in
    λ whole. ap (skips_in form) joined ∙ skips_in-push form old s (AreBytes-front old (skip_bytes form s) _ joined c.type_inv.list) c.requires whole
