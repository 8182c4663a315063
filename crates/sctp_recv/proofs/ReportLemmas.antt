-- A reset that is reported to the user, and receivers of which resets alone change.
use Rattle.std.proofs.Common.{◌≡◌, ℕ, zero, suc, ◌+◌, ◌-◌, ◌<◌, ◌≤◌, ◌⊎◌, Bool, true, false, ◌==◌, List, ◌∷◌, length, Option, None, Some, inl, inr, refl, sym, ◌∙◌, ap, subst, arith}
use Rattle.std.specs.Prelude.{if◌then◌else◌, is_some, unwrap_or, find, MatchOption}
use Rattle.std.specs.declared.alloc.Global.{Global}
use Rattle.std.specs.declared.boxed.Box.{Box}
use Rattle.std.proofs.lemmas.Bool.{cases_Bool, cases_eq, cases_lt}
use Rattle.std.proofs.lemmas.Bool.Decides.{nat_tests}
use Rattle.sctp_model.specs.messages.Format.{Format}
use Rattle.sctp_model.specs.sender.Words.{count_up}
use Rattle.sctp_model.specs.receiver.Incoming.{Incoming}
use Rattle.sctp_model.specs.receiver.ReceiverView.{Handed, ReceiverView}
use Rattle.sctp_model.specs.receiver.ResetTaken.{old_waiting, told_of}
use Rattle.sctp_model.proofs.receiver.AtRest.{reset_at_rest}
use Rattle.sctp_recv.specs.declared.receiver.Receiver.{Receiver}
use Rattle.sctp_recv.specs.declared.resets.Resets.{Resets}
use Rattle.sctp_recv.specs.declared.restart.Restart.{Restart}
use Rattle.sctp_recv.specs.declared.restart.Reset.{Reset}
use Rattle.sctp_recv.specs.KeptOf.{kept_of}
use Rattle.sctp_recv.specs.ResetsKept.{ResetsKept}
use Rattle.sctp_recv.specs.Resets.{restart_at, resets_of, resets_in, KeepsResets}
use Rattle.sctp_recv.specs.Requests.{reset_there}
use Rattle.sctp_recv.specs.StandsFor.{StandsFor}
use Rattle.sctp_recv.specs.inner.Bits.{bit_in, IsNextBit, NextBit}
use Rattle.sctp_recv.specs.inner.Restarting.{IsCleared, TakesTold}
use Rattle.sctp_recv.proofs.ResetLemmas.{keeps_resets}

-- ---- resets alone change

pub stands_resets : {F : Type 0} (f : Format) (r : Receiver F) (v : ReceiverView) (o : Option (Box Resets Global)) (x : Incoming) → StandsFor f r v → KeepsResets f (resets_in o) v.initial v.streams v.taken x →
    StandsFor f (record r { resets = o }) (record v { resets = x })
unfolding StandsFor
stands_resets f r v o x w h = (keeps_resets f (kept_of r) v (resets_in o) x w.0 h, (w.1.0, (reset_at_rest f v x w.1.1.0, w.1.1.1)))

pub resets_kept : {F : Type 0} (f : Format) (r : Receiver F) (v : ReceiverView) → StandsFor f r v → KeepsResets f (resets_in r.resets) v.initial v.streams v.taken v.resets
unfolding StandsFor
resets_kept f r v w = w.0.resets

-- ---- the lowest stream

found : (test : ℕ → Bool) (n from i : ℕ) → from ≤ i → i < from + n → test i ≡ true → ((j : ℕ) → from ≤ j → j < i → test j ≡ false) → find test (count_up from n) ≡ Some i
found test zero from i low high is first = absurd (omega (arith, low, high))
found test (suc n) from i low high is first = go (cases_eq from i) (λ past. found test n (suc from) i past (omega (arith, high)) is (λ j a b. first j (omega (arith, a)) b))
  where
    go : (from ≡ i) ⊎ (from ≡ i → ⊥) → (suc from ≤ i → find test (count_up (suc from) n) ≡ Some i) → find test (from ∷ count_up (suc from) n) ≡ Some i
    go (inl same) more = let here : test from ≡ true = ap test same ∙ is in rw here (ap Some same)
    go (inr other) more =
        let past : from < i = omega (arith, low, other) in
        let not_here : test from ≡ false = first from (omega arith) past in
        rw not_here (more (omega (arith, past)))

none_found : (test : ℕ → Bool) (n from : ℕ) → ((j : ℕ) → from ≤ j → j < from + n → test j ≡ false) → find test (count_up from n) ≡ None
none_found test zero from none = refl
none_found test (suc n) from none =
    let here : test from ≡ false = none from (omega arith) (omega arith) in
    let more = none_found test n (suc from) (λ j low high. none j (omega (arith, low)) (omega (arith, high))) in
    rw here more

-- ---- what is reported

module _ (f : Format) (v : ReceiverView) where
  has_bit : (b : Bool) (n : ℕ) → n ≡ (if b then 1 else 0) → n ≡ 1 → b ≡ true
  has_bit true n is one = refl
  has_bit false n is one = absurd (omega (arith, is, one))

  no_bit : (b : Bool) (n : ℕ) → n ≡ (if b then 1 else 0) → n ≡ 0 → b ≡ false
  no_bit true n is none = absurd (omega (arith, is, none))
  no_bit false n is none = refl

  -- before the first request there is nothing
  pub nothing_there : KeepsResets f None v.initial v.streams v.taken v.resets → reset_there v ≡ None
  nothing_there h = none_found (λ s. is_some (v.resets.told s)) v.streams 0 (λ s low high. no_bit (is_some (v.resets.told s)) 0 (h.told s (omega (arith, high))) refl)

  -- no bit is set
  none_there : (k : ResetsKept) → KeepsResets f (Some k) v.initial v.streams v.taken v.resets → NextBit k.told 0 None → reset_there v ≡ None
  none_there k h none = none_found (λ s. is_some (v.resets.told s)) v.streams 0 (λ s low high. no_bit (is_some (v.resets.told s)) (bit_in k.told s) (h.told s (omega (arith, high))) (none s (omega arith)))

  -- the first bit that is set is of a stream
  first_low : (k : ResetsKept) (s : ℕ) → KeepsResets f (Some k) v.initial v.streams v.taken v.resets → IsNextBit k.told 0 s → s < v.streams
  first_low k s h next = elim (cases_lt s v.streams) [ inl under ↦ under | inr high ↦ let none = h.none s high in let set = next.set in absurd (omega (arith, none, set)) ]

  -- it is the lowest that was reset
  first_there : (k : ResetsKept) (s : ℕ) → KeepsResets f (Some k) v.initial v.streams v.taken v.resets → IsNextBit k.told 0 s → reset_there v ≡ Some s
  first_there k s h next =
      let low = first_low k s h next in
      let there = has_bit (is_some (v.resets.told s)) (bit_in k.told s) (h.told s low) next.set in
      found (λ q. is_some (v.resets.told q)) v.streams 0 s (omega arith) (omega (arith, low)) there
      (λ j from under. no_bit (is_some (v.resets.told j)) (bit_in k.told j) (h.told j (omega (arith, under, low))) (next.first j from under))

  -- one was reset if a bit is set
  pub is_there : (k : ResetsKept) (o : Option ℕ) → KeepsResets f (Some k) v.initial v.streams v.taken v.resets → NextBit k.told 0 o → is_some o ≡ is_some (reset_there v)
  is_there k None h none = sym (ap is_some (none_there k h none))
  is_there k (Some s) h next = sym (ap is_some (first_there k s h next))

  cleared : (k l : ResetsKept) (s : ℕ) → KeepsResets f (Some k) v.initial v.streams v.taken v.resets → s < v.streams → IsCleared s k l → KeepsResets f (Some l) v.initial v.streams v.taken (told_of v s).resets
  cleared k l s h low is = record {
    last = is.last ∙ h.last;
    result = is.result ∙ h.result;
    waited = is.waited ∙ h.waited;
    begun = h.begun;
    answers = h.answers ∙ sym is.answers;
    ordered = λ q. h.ordered q ∙ sym (same (λ (x : Restart). x.ordered) (λ x. refl) q);
    unordered = λ q e. h.unordered q e ∙ sym (same (λ (x : Restart). x.unordered) (λ x. refl) q);
    old = old_now;
    told = told_now;
    none = λ q high. is.others q (λ e. omega (arith, e, high, low)) ∙ h.none q high;
    all = record { streams = is.restarts.streams ∙ h.all.streams; bits = let n = is.bits in let m = h.all.bits in omega (arith, n, m) };
  }
    where
      same : (field : Restart → ℕ) → ((x : Restart) → field (record x { old = 0 }) ≡ field x) → (q : ℕ) → field (restart_at l.streams q) ≡ field (restart_at k.streams q)
      same field but q = elim (cases_eq q s) [
        | inl e ↦ ap (λ (i : ℕ). field (restart_at l.streams i)) e ∙ ap field is.restarts.here ∙ but (restart_at k.streams s) ∙ ap (λ (i : ℕ). field (restart_at k.streams i)) (sym e)
        | inr other ↦ ap field (is.restarts.others q other)
      ]

      old_now : (q : ℕ) → unwrap_or (if q == s then None else v.resets.told q) 0 - length (v.taken q) ≡ (restart_at l.streams q).old
      old_now q = elim (cases_Bool (q == s)) [
        | inl e ↦
            let here : q ≡ s = grind (arith, e, nat_tests) in
            let now : (restart_at l.streams q).old ≡ 0 = ap (λ (i : ℕ). (restart_at l.streams i).old) here ∙ ap (λ (x : Restart). x.old) is.restarts.here in
            rw e (omega (arith, now))
        | inr e ↦ rw e (h.old q ∙ sym (ap (λ (x : Restart). x.old) (is.restarts.others q (λ here. grind (arith, e, here, nat_tests)))))
      ]

      told_now : (q : ℕ) → q < v.streams → bit_in l.told q ≡ (if is_some (if q == s then None else v.resets.told q) then 1 else 0)
      told_now q under = elim (cases_Bool (q == s)) [
        | inl e ↦
            let here : q ≡ s = grind (arith, e, nat_tests) in
            let bits = h.all.bits in
            rw e (ap (bit_in l.told) here ∙ is.here (omega (arith, bits, low)))
        | inr e ↦ rw e (is.others q (λ here. grind (arith, e, here, nat_tests)) ∙ h.told q under)
      ]

  pub reported : {F : Type 0} (r : Receiver F) (b : Box Resets Global) (c : Resets) (o : Option Reset) → StandsFor f r v → r.resets ≡ Some b → TakesTold (resets_of b.value) (resets_of c) o →
      (new : Option (Box Resets Global)) → resets_in new ≡ Some (resets_of c) →
      MatchOption o ((reset_there v ≡ None) × StandsFor f (record r { resets = new }) v)
      (λ t. (reset_there v ≡ Some t.stream) × (t.count ≡ old_waiting v t.stream) × StandsFor f (record r { resets = new }) (told_of v t.stream))
  reported r b c o w at taken new is = go o taken
    where
      k : ResetsKept
      k = resets_of b.value

      h : KeepsResets f (Some k) v.initial v.streams v.taken v.resets
      h = subst (λ (u : Option (Box Resets Global)). KeepsResets f (resets_in u) v.initial v.streams v.taken v.resets) at (resets_kept f r v w)

      stands : (x : Incoming) → KeepsResets f (Some (resets_of c)) v.initial v.streams v.taken x → StandsFor f (record r { resets = new }) (record v { resets = x })
      stands x kept = stands_resets f r v new x w (subst (λ (u : Option ResetsKept). KeepsResets f u v.initial v.streams v.taken x) (sym is) kept)

      go : (u : Option Reset) → TakesTold k (resets_of c) u → MatchOption u ((reset_there v ≡ None) × StandsFor f (record r { resets = new }) v)
          (λ t. (reset_there v ≡ Some t.stream) × (t.count ≡ old_waiting v t.stream) × StandsFor f (record r { resets = new }) (told_of v t.stream))
      go None (none, same) = (
        none_there k h none,
        stands v.resets (subst (λ (u : ResetsKept). KeepsResets f (Some u) v.initial v.streams v.taken v.resets) (sym same) h),
      )
      go (Some t) (next, count, clear) = (
        first_there k t.stream h next,
        count ∙ sym (h.old t.stream),
        stands (told_of v t.stream).resets (cleared k (resets_of c) t.stream h (first_low k t.stream h next) clear),
      )

-- ---- what is made stands for the same

pub made_kept : {F : Type 0} (f : Format) (r : Receiver F) (v : ReceiverView) → StandsFor f r v → (new : Option (Box Resets Global)) (count : ℕ) → count ≡ v.streams →
    ((g : Format) (taken : ℕ → List Handed) (x : Incoming) → KeepsResets g (resets_in r.resets) r.initial count taken x → KeepsResets g (resets_in new) r.initial count taken x) →
    KeepsResets f (resets_in new) v.initial v.streams v.taken v.resets
unfolding StandsFor
made_kept f r v w new count is same =
    let was = subst (λ (n : ℕ). KeepsResets f (resets_in r.resets) n count v.taken v.resets) w.0.initial (subst (λ (n : ℕ). KeepsResets f (resets_in r.resets) v.initial n v.taken v.resets) (sym is) w.0.resets) in
    subst (λ (n : ℕ). KeepsResets f (resets_in new) v.initial n v.taken v.resets) is (subst (λ (n : ℕ). KeepsResets f (resets_in new) n count v.taken v.resets) (sym w.0.initial) (same f v.taken v.resets was))
