use Rattle.std.proofs.Common.{◌≡◌, ℕ, ◌+◌, ◌*◌, Bool, List, [], ◌∷◌, ◌++◌, sym, ap, subst, arith}
use Rattle.std.specs.List.{Contains}
use Rattle.std.proofs.lemmas.Grind.{common_steps}
use Rattle.std.proofs.lemmas.List.Elements.{Contains-push}
use Rattle.sctp_recv.specs.inner.Places.{low_at, place_under}
use Rattle.sctp_recv.proofs.SeenLemmas.{on_ok}
use Rattle.sctp_recv.proofs.PlaceLemmas.{under_from, under_low, under_leaf, inner_found}
use Rattle.sctp_recv.proofs.places.+gather.Goals.{then-at-eq0-via-then-at-eq0, then-at-eq0-via-else-at-eq0+then-at-places, then-at-eq0-via-else-at-eq0+else-at-places+then-places-at}
use Rattle.sctp_recv.proofs.places.+gather.Goals as goal

pub returns-then-at-eq0-clause-found : goal.returns-then-at-eq0-clause-found
returns-then-at-eq0-clause-found t c = λ path s tree size some is less le.
    let xs = c.args.places.now in
    elim c.then-at-eq0.branch [
      | then-at-eq0-via-then-at-eq0 w ↦ absurd (omega (arith, some, w.if-at-eq0.true))
      | then-at-eq0-via-else-at-eq0+then-at-places w ↦ absurd (let from = under_from path c.args.at in omega (arith, from, is, less, size, w.if-at-places.true))
      | then-at-eq0-via-else-at-eq0+else-at-places+then-places-at w ↦
          absurd (let low = under_low xs c.args.count tree size path c.args.at some (omega (arith, is, less)) in let eq = ap (low_at xs) is in omega (arith, low, eq, le, w.if-places-at.true))
    ]

pub returns-in_ok-map_err-clause-found : goal.returns-in_ok-map_err-clause-found
returns-in_ok-map_err-clause-found t c = λ path s tree size some is less le.
    let old = c.args.streams.now.items in
    let put : c.push.new.self.items ≡ old ++ c.in-Ok.stream ∷ [] = grind (arith, common_steps) in
    let leaf = under_leaf c.args.count path c.args.at (omega (arith, c.if-at-first.true, c.from-first.ensures)) (omega (arith, is, less)) in
    let same : c.in-Ok.stream ≡ s = omega (arith, leaf, is, c.in-Ok.ensures, c.from-first.ensures, c.if-at-first.true) in
    subst (λ (q : ℕ). Contains c.push.new.self.items q) same (rw put (Contains-push old c.in-Ok.stream))

pub returns-clause-found : goal.returns-clause-found
returns-clause-found t c =
    on_ok c.gather-2.result _ _ (λ found path s tree size some is less le.
    let at = c.args.at in
    let double : at * 2 ≡ at + at = omega arith in
    let next : at * 2 + 1 ≡ at + at + 1 = omega arith in
    inner_found (c.args.count + s) at (λ (p : List Bool). Contains c.gather-2.new.streams.items s) path is (λ (same : at ≡ c.args.count + s). omega (arith, same, c.if-at-first.false, c.from-first.ensures))
    (λ rest to. c.gather-2.ensures.more s (c.in_ok-gather.ensures.found rest s tree size (omega (arith, some)) (subst (λ (q : ℕ). place_under q rest ≡ c.args.count + s) (sym double) to) less le))
    (λ rest to. found rest s tree size (omega (arith, some)) (subst (λ (q : ℕ). place_under q rest ≡ c.args.count + s) (sym next) to) less le)) c.gather-2.ensures.found
