-- An index that is reached stays so.
use Rattle.std.proofs.Common.{◌≡◌, ℕ, ◌≤◌, ◌⊎◌, max, Bool, true, List, [], ◌∷◌, inl, inr, refl, sym, subst, ap, arith, ◌∙◌}
use Rattle.sctp_model.specs.numbers.Lists.{at}
use Rattle.sctp_model.specs.receiver.ReceiverView.{ReceiverView, Reaches}
use Rattle.sctp_safety.specs.Way.{Way, Move, Send, Name, Time_passes, Number, Continue, Withdraw, Abandon, Mark, Change_sending, Sack_comes, Shutdown_comes, Put_piece, Put_forward, Put_sack, Put_shutdown, Keep_piece, Drop_piece, Forward_comes, Hand_over, Hand_unordered, Pass_over, Drop_below_next, Let_go, Take, Note_duplicates, Step, Run}
use Rattle.sctp_safety.specs.Exact.{Leads}
use Rattle.sctp_safety.proofs.lists.Basics.{at_cases}

abbrev Lasts : Way → Way → Type 0
Lasts w v = (j : ℕ) → Reaches w.receiver j → Reaches v.receiver j

lasts_to : (w u v : Way) → v ≡ u → Lasts w u → Lasts w v
lasts_to w u v e h = subst (λ (z : Way). Lasts w z) (sym e) h

-- one index more is recorded
recorded_lasts : (r : ReceiverView) (i j : ℕ) → Reaches r j → (at r.seen i true j ≡ true) ⊎ (j ≤ r.jump)
recorded_lasts r i j (inl on) = inl (at_cases (λ (b : Bool). b ≡ true) r.seen i true j (λ e. refl) (λ ne. on))
recorded_lasts r i j (inr le) = inr le

-- the same indexes are seen, and the jump is no less
same_seen : (r t : ReceiverView) → t.seen ≡ r.seen → t.jump ≡ r.jump → (j : ℕ) → Reaches r j → Reaches t j
same_seen r t seen jump j (inl on) = inl (ap (λ (f : ℕ → Bool). f j) seen ∙ on)
same_seen r t seen jump j (inr le) = inr (subst (λ (k : ℕ). j ≤ k) (sym jump) le)

move_lasts : (w v : Way) (m : Move) → Step w m v → Lasts w v
move_lasts w v (Send c xs) (a, b, d, f, e) = lasts_to w _ v e (λ j h. h)
move_lasts w v (Name t) e = lasts_to w _ v e (λ j h. h)
move_lasts w v (Time_passes t) e = lasts_to w _ v e (λ j h. h)
move_lasts w v (Number before q rest count) (a, b, c, d, f, g, e) = lasts_to w _ v e (λ j h. h)
move_lasts w v (Continue l n k count) (m, a, b, c, d, f, g, e) = lasts_to w _ v e (λ j h. h)
move_lasts w v (Withdraw before q rest) (a, b, e) = lasts_to w _ v e (λ j h. h)
move_lasts w v (Abandon l n) (m, a, b, e) = lasts_to w _ v e (λ j h. h)
move_lasts w v (Mark l n) (m, a, b, c, e) = lasts_to w _ v e (λ j h. h)
move_lasts w v (Change_sending b) (same, e) = lasts_to w _ v e (λ j h. h)
move_lasts w v (Sack_comes x) (a, b, e) = lasts_to w _ v e (λ j h. h)
move_lasts w v (Shutdown_comes c) (a, b, e) = lasts_to w _ v e (λ j h. h)
move_lasts w v (Put_piece i) (l, n, k, m, a, b, e) = lasts_to w _ v e (λ j h. h)
move_lasts w v (Put_forward x) (a, b, c, e) = lasts_to w _ v e (λ j h. h)
move_lasts w v (Put_sack x) (a, e) = lasts_to w _ v e (λ j h. h)
move_lasts w v (Put_shutdown c) (a, e) = lasts_to w _ v e (λ j h. h)
move_lasts w v (Keep_piece x) (a, b, e) = lasts_to w _ v e (λ j h. recorded_lasts w.receiver x.index j h)
move_lasts w v (Drop_piece x) (a, b, c, e) = lasts_to w _ v e (λ j h. recorded_lasts w.receiver x.index j h)
move_lasts w v (Forward_comes x skip) (a, b, c, e) = lasts_to w _ v e further
  where
    further : (j : ℕ) → Reaches w.receiver j → Reaches (record w.receiver { jump = max w.receiver.jump x.point; skip = skip }) j
    further j (inl on) = inl on
    further j (inr le) = inr (omega (arith, le))
move_lasts w v (Hand_over s x xs) (a, e) = lasts_to w _ v e (λ j h. h)
move_lasts w v (Hand_unordered x xs) (a, b, c, e) = lasts_to w _ v e (λ j h. h)
move_lasts w v (Pass_over s) (a, b, e) = lasts_to w _ v e (λ j h. h)
move_lasts w v (Drop_below_next s) e = lasts_to w _ v e (λ j h. h)
move_lasts w v (Let_go t) (a, e) = lasts_to w _ v e (same_seen w.receiver t (ap (λ (r : ReceiverView). r.seen) a.kept) (ap (λ (r : ReceiverView). r.jump) a.kept))
move_lasts w v (Take s x rest) (a, e) = lasts_to w _ v e (λ j h. h)
move_lasts w v (Note_duplicates t) (a, e) = lasts_to w _ v e (same_seen w.receiver t (ap (λ (r : ReceiverView). r.seen) a) (ap (λ (r : ReceiverView). r.jump) a))

run_lasts : (w v : Way) (ms : List Move) → Run w ms v → Lasts w v
run_lasts w v [] e = lasts_to w w v e (λ j h. h)
run_lasts w v (m ∷ ms) (mid, step, rest) = λ j h. run_lasts mid v ms rest j (move_lasts w mid m step j h)

pub reaches_last : (w v : Way) → Leads w v → (j : ℕ) → Reaches w.receiver j → Reaches v.receiver j
reaches_last w v (ms, run) = run_lasts w v ms run
