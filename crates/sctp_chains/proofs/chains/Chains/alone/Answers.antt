use Rattle.std.proofs.Common.{rules, ℕ, List, [], ◌∷◌, refl, sym, ◌∙◌, ap}
use Rattle.std.specs.Prelude.{Some}
use Rattle.sctp_wire.specs.ChunkTree.{piece_meaning}
use Rattle.sctp_chains.specs.Cells.{counted}
use Rattle.sctp_chains.specs.WholeOf.{IsMadeOf}
use Rattle.sctp_chains.specs.declared.whole.Whole.{Whole}
use Rattle.sctp_chains.specs.declared.whole.Fragments.TheVariants.{One}
use Rattle.sctp_chains.proofs.AloneLemmas.{alone_taken, same_payload}
use Rattle.sctp_chains.proofs.chains.Chains.alone.Goals as goal

pub returns : goal.returns
returns g c = λ l kept stands new numbered.
    let f = g.F.Framing.format in
    let x = counted c.args.index (piece_meaning c.args.piece.now) (Some c.args.number) in
    let m : Whole = record { first = c.args.index; number = Some c.args.number; payload_id = c.payload.result; parts = One (c.in_ok-data.data ∷ []) } in
    let made : IsMadeOf f m x [] = record {
      first = refl;
      number = refl;
      payload = c.payload.ensures ∙ same_payload f x;
      parts = ap (λ (b : List ℕ). b ∷ []) (search rules);
    } in
    alone_taken f l kept x c.args.number m c.args.self.now new.of refl (sym c.begins.ensures ∙ c.if-not-begins.false) c.if-not-piece.false (c.is_above.ensures l kept stands numbered c.if-not-is_above.false) made stands
