-- If each run lies in a gap block, a SACK takes back no acknowledgement.
use Rattle.std.proofs.Common.{◌≡◌, ℕ, suc, ◌+◌, ◌<◌, ◌≤◌, inl, inr, List, [], ◌∷◌, length, get_or, Bool, true, false, refl, sym, ap, ◌∙◌, arith}
use Rattle.std.specs.Prelude.{◌||◌}
use Rattle.std.proofs.lemmas.List.{get_or_default}
use Rattle.std.proofs.lemmas.Bool.{cases_lt, cases_eq, or_left, or_right}
use Rattle.sctp_model.specs.sender.Words.{when}
use Rattle.sctp_model.specs.wire.Chunk.{BlockMeaning}
use Rattle.sctp_model.specs.messages.Acknowledgement.{in_blocks}
use Rattle.sctp_send.specs.CoveredRuns.{in_run, in_runs, run_behind, runs_behind, AreCovered}
use Rattle.sctp_send.specs.declared.kept.entry.CoveredRun.{CoveredRun}
use Rattle.sctp_send.specs.declared.kept.entry.Entry.{Entry as EntryFields}
use Rattle.sctp_send.specs.inner.Dues.{due_at, until_of, AreWoken, is_in_block, LieIn}
use Rattle.sctp_send.proofs.sack.RunLemmas.{all_behind}

-- an offset that lies in the runs lies in one of them
pub some_run : (n i : ℕ) (rs : List CoveredRun) (d : CoveredRun) → in_runs (runs_behind n rs) i ≡ true → (k : ℕ) × (k < length rs) × (in_run (run_behind n (get_or rs k d)) i ≡ true)
some_run n i [] d on = absurd (cc)
some_run n i (r ∷ rs) d on = by_test (in_run (run_behind n r) i) refl on (λ there. some_run n i rs d there)
  where
    by_test : (b : Bool) → in_run (run_behind n r) i ≡ b → (b || in_runs (runs_behind n rs) i) ≡ true → (in_runs (runs_behind n rs) i ≡ true → (k : ℕ) × (k < length rs) × (in_run (run_behind n (get_or rs k d)) i ≡ true))
        → (k : ℕ) × (k < suc (length rs)) × (in_run (run_behind n (get_or (r ∷ rs) k d)) i ≡ true)
    by_test true is there further = (0, omega arith, is)
    by_test false off there further = let rest = further there in (suc rest.0, omega (arith, rest.1), rest.2)

pub in_first : (b : BlockMeaning) (bs : List BlockMeaning) (i : ℕ) → is_in_block b i ≡ true → in_blocks 0 (b ∷ bs) i ≡ true
in_first b bs i on = or_left (is_in_block b i) (in_blocks 0 bs i) on

pub in_others : (b : BlockMeaning) (bs : List BlockMeaning) (i : ℕ) → in_blocks 0 bs i ≡ true → in_blocks 0 (b ∷ bs) i ≡ true
in_others b bs i on = or_right (is_in_block b i) (in_blocks 0 bs i) on

-- what is covered lies in blocks, then
pub covered_lies : (known : Bool) (rs : List CoveredRun) (covered : ℕ → Bool) (cum n i : ℕ) (bs : List BlockMeaning) → known ≡ true → AreCovered (when known rs) covered cum → LieIn n rs bs → 0 < i → covered (cum + n + i) ≡ true → in_blocks 0 bs i ≡ true
covered_lies false rs covered cum n i bs is h lies some on = absurd (cc)
covered_lies true rs covered cum n i bs is h lies some on =
    let same : cum + n + i ≡ cum + (n + i) = omega arith in
    lies i some (sym (all_behind n i rs some) ∙ sym (h.1 (n + i) (omega (arith, some))) ∙ ap covered (sym same) ∙ on)

-- ---- one entry more is woken

pub woken_more : (p : ℕ) (ms ns : List ℕ) (es : List EntryFields) (at : ℕ) (x : EntryFields) (t m : ℕ) → AreWoken p ms es at → length ns ≡ length ms → ((u now : ℕ) → now < due_at p ns u → now < due_at p ms u)
    → (t ≤ p + length ms → p < t → due_at p ns t ≤ m) → x ≡ get_or es at x → t ≡ x.message.value.ticket → m ≡ until_of x.message → AreWoken p ns es (at + 1)
woken_more p ms ns es at x t m woken long each here read ticket until = λ k d lt within past given. elim (cases_eq k at) [
  | inl same ↦
      let is : get_or es k d ≡ x = get_or_default es k d x within ∙ ap (λ (n : ℕ). get_or es n x) same ∙ sym read in
      let own = ap (λ (e : EntryFields). e.message.value.ticket) is in
      let moment = ap (λ (e : EntryFields). until_of e.message) is in
      let low = here (omega (arith, own, ticket, given, long)) (omega (arith, own, ticket, past)) in
      omega (arith, ap (due_at p ns) (own ∙ sym ticket), low, until, moment)
  | inr other ↦
      let before = woken k d (omega (arith, lt, other)) within past (omega (arith, given, long)) in
      elim (cases_lt (until_of (get_or es k d).message) (due_at p ns (get_or es k d).message.value.ticket)) [
        | inl past ↦ let lower = each (get_or es k d).message.value.ticket (until_of (get_or es k d).message) past in absurd (omega (arith, lower, before))
        | inr le ↦ le
      ]
]
