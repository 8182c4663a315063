use Rattle.std.proofs.Common.{◌≡◌, ℕ, suc, ◌-◌, ◌<◌, ◌≤◌, List, length, length-set, get_or, set, min, max, true, false, sym, ap, ◌∙◌, true≢false, subst, arith}
use Rattle.std.specs.Prelude.{Option, None, Some, IsSome, OnSome}
use Rattle.std.specs.List.{insert, remove}
use Rattle.std.proofs.lemmas.List.{set_split}
use Rattle.sctp_recv.specs.declared.runs.SeenRun.{SeenRun}
use Rattle.sctp_recv.specs.Runs.{Gain, HaveMore, IsPlace, AreSpaced, AllBelow, begins_by, in_run, in_runs}
use Rattle.sctp_recv.proofs.RunGains.{gains_alone, gains_one, gains_two}
use Rattle.sctp_recv.proofs.RunLemmas.{removed_next, held_at, taken}
use Rattle.sctp_recv.proofs.RunPlaces.{none_past, place_at, below_first, place_before, between}
use Rattle.sctp_recv.proofs.SeenLemmas.{on_ok}
use Rattle.sctp_recv.proofs.runs.insert.Goals as goal
use Rattle.sctp_recv.proofs.runs.insert.Goals.{then-last-index+in_default-reaching, else-last-index}

-- what holds where there is something
when_some : {X : Type 0} (r : Option X) (P : Type 0) → IsSome r → OnSome r P → P
when_some None P there h = absurd (true≢false (sym there))
when_some (Some x) P there h = h

-- a run of these ends
as_run : (r : SeenRun) (a b : ℕ) → r.first ≡ a → r.last ≡ b → r ≡ record { first = a; last = b }
as_run r a b low high = λ i. record { first = low i; last = high i }

pub returns-in_default-clause-inserted : goal.returns-in_default-clause-inserted
returns-in_default-clause-inserted c =
    let xs = c.args.runs.now.items in
    let i = c.args.index in
    let n = c.upto-next.result in
    let alone = as_run c.run_of.result i i c.run_of.ensures.first c.run_of.ensures.last in
    let gain : Gain i xs (insert xs n (record { first = i; last = i })) = λ d h high new.
    gains_alone xs n n d i (omega arith) (record { front = c.in_default.ensures.run h.spaced; back = none_past xs i h.spaced n (c.upto-next.ensures.place h.spaced) }) (c.upto-next.ensures.place h.spaced) h high in
    on_ok c.insert.result _ _ (λ e. subst (Gain i xs) (sym (e ∙ ap (insert xs n) alone)) gain) c.insert.ensures.items

pub returns-in_default-clause-there : goal.returns-in_default-clause-there
returns-in_default-clause-there c =
    let xs = c.args.runs.now.items in
    on_ok c.insert.result _ _ (λ e spaced there. absurd (true≢false (sym there ∙ between xs c.args.index c.upto-next.result (c.in_default.ensures.run spaced) (c.upto-next.ensures.place spaced)))) c.insert.ensures.items

-- the run that reaches the index, by its place
module _ (xs : List SeenRun) (i n : ℕ) (x : SeenRun) (some : 0 < n) (bound : n ≤ length xs) (place : AreSpaced xs → IsPlace (begins_by i) xs n) (is : x ≡ get_or xs (n - 1) x) where
  next : n ≡ suc (n - 1)
  next = omega (arith, some)

  less : n - 1 < length xs
  less = omega (arith, some, bound)

  by : AreSpaced xs → IsPlace (begins_by i) xs (suc (n - 1))
  by spaced = subst (IsPlace (begins_by i) xs) next (place spaced)

  -- an index that it doesn't have is in none
  missing : in_run x i ≡ false → AreSpaced xs → in_runs xs i ≡ false
  missing out spaced = held_at xs i (n - 1) x spaced less is (by spaced) ∙ out

  begins : AreSpaced xs → begins_by i x ≡ true
  begins spaced = (by spaced).front x (taken xs (n - 1) x less is)

pub returns-in-Some-reaching-clause-inserted : goal.returns-in-Some-reaching-clause-inserted
returns-in-Some-reaching-clause-inserted c = λ d h high new.
    let xs = c.args.runs.now.items in
    let i = c.args.index in
    let n = c.upto-next.result in
    let k = n - 1 - 1 in
    let x = c.in-Some-reaching.before in
    let y = c.in-Some.last in
    let some = c.in-Some.ensures.some in
    let more = c.in-Some-reaching.ensures.some in
    let bound = c.upto-next.ensures.bound in
    let one : n - 1 ≡ suc k = omega (arith, more) in
    let far : suc k < n = omega (arith, one, some) in
    let less : suc k < length xs = omega (arith, one, some, bound) in
    let wide : SeenRun = record { first = x.first; last = y.last } in
    let is = as_run c.run_of-in-Some-reaching.result x.first y.last c.run_of-in-Some-reaching.ensures.first c.run_of-in-Some-reaching.ensures.last in
    let put : c.replace.new.self.items ≡ set xs k wide = c.replace.ensures.items ∙ ap (set xs k) is in
    let behind : n - 1 < length c.replace.new.self.items = omega (arith, less, one, ap length put, length-set xs k wide) in
    let removed : c.remove.new.self.items ≡ remove (set xs k wide) (n - 1) = when_some c.remove.result _ (c.remove.ensures.variant.1 behind) c.remove.ensures.items ∙ ap (λ (l : List SeenRun). remove l (n - 1)) put in
    let last = (c.in-Some.ensures.run h.spaced).there in
    let other = subst (λ (m : ℕ). y ≡ get_or xs m y) one last in
    let first = c.in-Some-reaching.ensures.run h.spaced in
    let below = place_before xs i k x y h.spaced less first.there other (begins xs i n y some bound c.upto-next.ensures.place last h.spaced) first.reaches in
    subst (HaveMore d i xs) (sym (removed ∙ removed_next xs k (n - 1) wide one less)) (gains_two xs k n d i x y less far first.there other below (c.upto-next.ensures.place h.spaced) h high)

pub returns-in-Some-reaching-clause-there : goal.returns-in-Some-reaching-clause-there
returns-in-Some-reaching-clause-there c = λ spaced there.
    let xs = c.args.runs.now.items in
    absurd (true≢false (sym there ∙ missing xs c.args.index c.upto-next.result c.in-Some.last c.in-Some.ensures.some c.upto-next.ensures.bound c.upto-next.ensures.place (c.in-Some.ensures.run spaced).there (sym c.has.ensures ∙ c.if-has.false) spaced))

pub returns-clause-inserted : goal.returns-clause-inserted
returns-clause-inserted c = λ d h high new.
    let xs = c.args.runs.now.items in
    let i = c.args.index in
    let n = c.upto-next.result in
    let x = c.in-Some.last in
    let some = c.in-Some.ensures.some in
    let bound = c.upto-next.ensures.bound in
    let reached = c.in-Some.ensures.run h.spaced in
    let long : n - 1 < length xs = less xs i n x some bound c.upto-next.ensures.place reached.there in
    let front : AllBelow i xs (n - 1) = elim c.if-last-index.branch [
      | then-last-index+in_default-reaching w ↦ w.in_default-reaching.ensures.run h.spaced
      | else-last-index w ↦ (let low = w.if-last-index.false in below_first xs i h.spaced (n - 1) x long reached.there (omega (arith, low)))
    ] in
    let wide : SeenRun = record { first = min x.first i; last = max x.last i } in
    let is = as_run c.run_of-2.result _ _ (c.run_of-2.ensures.first ∙ c.min.ensures) (c.run_of-2.ensures.last ∙ c.max.ensures) in
    let put = c.replace-2.ensures.items ∙ ap (set xs (n - 1)) is ∙ set_split xs (n - 1) wide long in
    subst (HaveMore d i xs) (sym put) (gains_one xs (n - 1) d i x long reached.there (place_at xs i h.spaced (n - 1) x long reached.there front reached.reaches) (by xs i n x some bound c.upto-next.ensures.place reached.there h.spaced) h high new)

pub returns-clause-there : goal.returns-clause-there
returns-clause-there c = λ spaced there.
    let xs = c.args.runs.now.items in
    absurd (true≢false (sym there ∙ missing xs c.args.index c.upto-next.result c.in-Some.last c.in-Some.ensures.some c.upto-next.ensures.bound c.upto-next.ensures.place (c.in-Some.ensures.run spaced).there (sym c.has.ensures ∙ c.if-has.false) spaced))
