use Rattle.std.proofs.Common.{◌≡◌, Bool, true, false, refl}
use Rattle.std.specs.Prelude.{not, ◌||◌}
use Rattle.std.proofs.lemmas.Bool.{and_from}
use Rattle.sctp_cookie.proofs.sealing.seal.Goals as goal

pub returns-clause-opens : goal.returns-clause-opens
returns-clause-opens c = λ taken now young. c.seal_content.ensures.opens taken now (and_from _ _ (all taken.reset) (all taken.zero_checksum)) young
  where
    all : (r : Bool) → (r || not false) ≡ true
    all true = refl
    all false = refl
