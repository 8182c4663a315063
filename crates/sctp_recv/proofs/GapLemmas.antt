-- An index above the cumulative one was received if and only if there is a run, and if and only if a SACK has a block.
use Rattle.std.proofs.Common.{◌≡◌, ◌<◌, ◌≤◌, List, [], ◌∷◌, length, take, true, false, inl, refl, sym, ◌∙◌, ap, arith}
use Rattle.std.specs.Prelude.{nat_lt}
use Rattle.std.proofs.lemmas.Bool.Decides.{nat_tests}
use Rattle.sctp_model.specs.receiver.ReceiverView.{ReceiverView}
use Rattle.sctp_model.specs.receiver.SackMade.{AreAllRuns, IsSack}
use Rattle.sctp_model.specs.numbers.Limits.{BLOCK_LIMIT}
use Rattle.sctp_model.specs.numbers.Lists.{Has}
use Rattle.sctp_model.specs.wire.Chunk.{BlockMeaning, SackMeaning}
use Rattle.sctp_model.specs.end.Arriving.{HasGap, TellsGap}
use Rattle.sctp_model.proofs.receiver.OneStep.{cumulative_only}
use Rattle.sctp_recv.specs.declared.runs.SeenRun.{SeenRun}
use Rattle.sctp_recv.specs.Runs.{in_run, in_runs}
use Rattle.sctp_recv.specs.SeenKept.{SeenKept}
use Rattle.sctp_recv.specs.SeenStands.{SeenStands}
use Rattle.sctp_recv.specs.Blocks.{block_of_run}
use Rattle.sctp_recv.proofs.BlockLemmas.{all_runs}
use Rattle.sctp_recv.proofs.ReceiverSteps.{cumulative_is}

-- the first run has its first index
begins : (r : SeenRun) (rs : List SeenRun) → r.first ≤ r.last → in_runs (r ∷ rs) r.first ≡ true
begins r rs some = let here : in_run r r.first ≡ true = grind (arith, some, nat_tests) in rw here refl

without_runs : (k : SeenKept) (v : ReceiverView) → SeenStands k v.seen v.jump → k.runs ≡ [] → HasGap v → ⊥
without_runs k v s none gap =
    let one : gap.0 ≡ k.cumulative = cumulative_only v gap.0 k.cumulative gap.2 (cumulative_is k v s) in
    let missing : v.seen gap.1 ≡ false = s.above gap.1 (omega (arith, one, gap.3)) ∙ ap (λ (rs : List SeenRun). in_runs rs gap.1) none in
    let came = gap.4 in
    cc

with_run : (k : SeenKept) (v : ReceiverView) (r : SeenRun) (rs : List SeenRun) → SeenStands k v.seen v.jump → k.runs ≡ r ∷ rs → HasGap v
with_run k v r rs s first =
    let runs = rw first at s.runs in
    let above = runs.above r (inl refl) in
    let came = s.above r.first (omega (arith, above)) ∙ ap (λ (ts : List SeenRun). in_runs ts r.first) first ∙ begins r rs (runs.spaced.some r (inl refl)) in
    (k.cumulative, r.first, cumulative_is k v s, omega (arith, above), came)

pub gap_is_run : (k : SeenKept) (v : ReceiverView) → SeenStands k v.seen v.jump → TellsGap (nat_lt 0 (length k.runs)) v
gap_is_run k v s = by_runs k.runs refl
  where
    by_runs : (rs : List SeenRun) → k.runs ≡ rs → TellsGap (nat_lt 0 (length rs)) v
    by_runs [] is = without_runs k v s is
    by_runs (r ∷ rs) is =
        let some : nat_lt 0 (length (r ∷ rs)) ≡ true = grind (arith, nat_tests) in
        rw some (with_run k v r rs s is)

no_first : (bs : List BlockMeaning) (b : BlockMeaning) → Has bs b → take BLOCK_LIMIT bs ≡ [] → ⊥
no_first [] b there none = there
no_first (x ∷ bs) b there none = let some = ap length none in absurd (omega (arith, some))

-- where there is a run a SACK has a block
told_first : (k : SeenKept) (v : ReceiverView) (t : SackMeaning) (r : SeenRun) (rs : List SeenRun) → SeenStands k v.seen v.jump → k.runs ≡ r ∷ rs → IsSack BLOCK_LIMIT v t → t.blocks ≡ [] → ⊥
told_first k v t r rs s first told none =
    let ours = rw first at (all_runs v k.cumulative k.runs s.runs s.above) in
    let one = cumulative_only v k.cumulative told.c (cumulative_is k v s) told.cumulative in
    let there = told.all.all (block_of_run k.cumulative r) (rw (← one) (ours.runs (block_of_run k.cumulative r) (inl refl))) in
    no_first told.runs (block_of_run k.cumulative r) there (ap (λ (x : SackMeaning). x.blocks) (sym told.is) ∙ none)

pub told_run : (k : SeenKept) (v : ReceiverView) (t : SackMeaning) → SeenStands k v.seen v.jump → 0 < length k.runs → IsSack BLOCK_LIMIT v t → t.blocks ≡ [] → ⊥
told_run k v t s some told none = by_runs k.runs refl
  where
    by_runs : (rs : List SeenRun) → k.runs ≡ rs → ⊥
    by_runs [] is = absurd (omega (arith, some, ap length is))
    by_runs (r ∷ rs) is = told_first k v t r rs s is told none

-- without one it has none
pub none_told : (k : SeenKept) (v : ReceiverView) → SeenStands k v.seen v.jump → k.runs ≡ [] → AreAllRuns v k.cumulative []
none_told k v s none = rw none at (all_runs v k.cumulative k.runs s.runs s.above)
