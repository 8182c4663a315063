-- Moves take nothing out of a plan: what is at an index is there in every later world.
use Rattle.std.proofs.Common.{◌≡◌, ℕ, List, [], ◌∷◌, Some, sym, subst}
use Rattle.sctp_model.specs.messages.Plan.{Entry, End, Plan, entry_at, parts_from}
use Rattle.sctp_safety.specs.Way.{Way, Move, Send, Name, Time_passes, Number, Continue, Withdraw, Abandon, Mark, Change_sending, Sack_comes, Shutdown_comes, Put_piece, Put_forward, Put_sack, Put_shutdown, Keep_piece, Drop_piece, Forward_comes, Hand_over, Hand_unordered, Pass_over, Drop_below_next, Let_go, Take, Note_duplicates, Step, Run}
use Rattle.sctp_safety.specs.Exact.{Leads}
use Rattle.sctp_safety.proofs.lists.Basics.{item_at-left}

-- what was at an index of the first plan is there in the second
abbrev pub IsPrefix : Plan → Plan → Type 0
IsPrefix p q = (i : ℕ) (e : Entry) → entry_at p i ≡ Some e → entry_at q i ≡ Some e

-- the sender's plan of the first world begins that of the second
abbrev Lasts : Way → Way → Type 0
Lasts w v = IsPrefix w.sender.plan v.sender.plan

same_plan : (w u v : Way) → v ≡ u → IsPrefix w.sender.plan u.sender.plan → Lasts w v
same_plan w u v e h = subst (λ (z : Way). Lasts w z) (sym e) h

move_lasts : (w v : Way) (m : Move) → Step w m v → Lasts w v
move_lasts w v (Send c xs) (a, b, d, f, e) = same_plan w _ v e (λ i x h. h)
move_lasts w v (Name t) e = same_plan w _ v e (λ i x h. h)
move_lasts w v (Time_passes t) e = same_plan w _ v e (λ i x h. h)
move_lasts w v (Number before q rest count) (a, b, c, d, f, g, e) =
    same_plan w _ v e (λ i x h. item_at-left w.sender.plan.entries (parts_from q.lane _ 0 count) i x h)
move_lasts w v (Continue l n k count) (m, a, b, c, d, f, g, e) =
    same_plan w _ v e (λ i x h. item_at-left w.sender.plan.entries (parts_from l n _ count) i x h)
move_lasts w v (Withdraw before q rest) (a, b, e) = same_plan w _ v e (λ i x h. h)
move_lasts w v (Abandon l n) (m, a, b, e) = same_plan w _ v e (λ i x h. h)
move_lasts w v (Mark l n) (m, a, b, c, e) = same_plan w _ v e (λ i x h. item_at-left w.sender.plan.entries (End l n ∷ []) i x h)
move_lasts w v (Change_sending b) (same, e) = same_plan w _ v e (subst (λ (p : Plan). IsPrefix w.sender.plan p) (sym same.plan) (λ i x h. h))
move_lasts w v (Sack_comes x) (a, b, e) = same_plan w _ v e (λ i y h. h)
move_lasts w v (Shutdown_comes c) (a, b, e) = same_plan w _ v e (λ i x h. h)
move_lasts w v (Put_piece i) (l, n, k, m, a, b, e) = same_plan w _ v e (λ j x h. h)
move_lasts w v (Put_forward x) (a, b, c, e) = same_plan w _ v e (λ i y h. h)
move_lasts w v (Put_sack x) (a, e) = same_plan w _ v e (λ i y h. h)
move_lasts w v (Put_shutdown c) (a, e) = same_plan w _ v e (λ i x h. h)
move_lasts w v (Keep_piece x) (a, b, e) = same_plan w _ v e (λ i y h. h)
move_lasts w v (Drop_piece x) (a, b, c, e) = same_plan w _ v e (λ i y h. h)
move_lasts w v (Forward_comes x skip) (a, b, c, e) = same_plan w _ v e (λ i y h. h)
move_lasts w v (Hand_over s x xs) (a, e) = same_plan w _ v e (λ i y h. h)
move_lasts w v (Hand_unordered x xs) (a, b, c, e) = same_plan w _ v e (λ i y h. h)
move_lasts w v (Pass_over s) (a, b, e) = same_plan w _ v e (λ i y h. h)
move_lasts w v (Drop_below_next s) e = same_plan w _ v e (λ i y h. h)
move_lasts w v (Let_go t) (a, e) = same_plan w _ v e (λ i y h. h)
move_lasts w v (Take s x rest) (a, e) = same_plan w _ v e (λ i y h. h)
move_lasts w v (Note_duplicates t) (a, e) = same_plan w _ v e (λ i y h. h)

run_lasts : (w v : Way) (ms : List Move) → Run w ms v → Lasts w v
run_lasts w v [] e = same_plan w w v e (λ i x h. h)
run_lasts w v (m ∷ ms) (mid, step, rest) =
    let first = move_lasts w mid m step in
    let later = run_lasts mid v ms rest in
    λ i x h. later i x (first i x h)

-- Where moves lead, nothing of the plan is lost.
pub plan_lasts : (w v : Way) → Leads w v → IsPrefix w.sender.plan v.sender.plan
plan_lasts w v (ms, run) = run_lasts w v ms run
