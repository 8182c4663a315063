-- A run and its worlds: it has a beginning, it goes on, and if it meets the premises so does each of its beginnings.
use Rattle.std.proofs.Common.{◌≡◌, ℕ, ◌<◌, List, [], ◌∷◌, ◌++◌, map, Option, Some, inl, inr, refl, sym, ap, subst, append_assoc, arith, ◌∙◌}
use Rattle.sctp_model.specs.numbers.Limits.{AGE_LIMIT}
use Rattle.sctp_model.specs.numbers.Lists.{Has, joined}
use Rattle.sctp_model.specs.wire.Chunk.{ChunkMeaning, Init, CookieEcho}
use Rattle.sctp_model.specs.end.EndView.{Draw}
use Rattle.sctp_model.specs.end.Sealing.{Sealing}
use Rattle.sctp_model.specs.world.World.{Side, World, FIRST_DRAW, start}
use Rattle.sctp_model.specs.world.Events.{Event, Deliver, Foreign, Outcome}
use Rattle.sctp_model.specs.world.Steps.{Rest, Then, PassesThrough, last_of}
use Rattle.sctp_model.specs.world.Aged.{assigned_tsns, ComesInTime, AllComeInTime}
use Rattle.sctp_model.specs.world.Premises.{draws_of, drawn_in, IsTheirs}
use Rattle.sctp_model.proofs.sender.WordLaws.{has_left}
use Rattle.sctp_safety.specs.Runs.{PassingIsARun, RunsHaveWorlds, RunsGoOn, BeginningsAreRuns, BeginningsMeetThePremises, PassingGoesOn, BeginningsAreAged, KeepBothPromises, EachWorldIsSafe, AssignFewer, ShortRunsAreAged}
use Rattle.sctp_safety.proofs.runs.Safety.{all_safe_in_time}

-- ---- worlds

pub passing_is_a_run : PassingIsARun
passing_is_a_run w [] [] [] p = Rest w
passing_is_a_run w (e ∷ es) (o ∷ os) (v ∷ vs) (step, more) = Then w v (last_of v vs) e es o os step (passing_is_a_run v es os vs more)
passing_is_a_run w [] (o ∷ os) vs p = absurd p
passing_is_a_run w [] [] (v ∷ vs) p = absurd p
passing_is_a_run w (e ∷ es) [] vs p = absurd p
passing_is_a_run w (e ∷ es) (o ∷ os) [] p = absurd p

pub runs_have_worlds : RunsHaveWorlds
runs_have_worlds w last es os (Rest _) = record { worlds = []; passes = tt; ends = refl }
runs_have_worlds w last es os (Then _ v _ e more o others step run) =
    let r = runs_have_worlds v last more others run in
    record { worlds = v ∷ r.worlds; passes = (step, r.passes); ends = r.ends }

-- ---- beginnings

pub runs_go_on : RunsGoOn
runs_go_on w v last es more os others (Rest _) on = on
runs_go_on w v last es more os others (Then _ next _ e later o told step run) on =
    Then w next last e (later ++ more) o (told ++ others) step (runs_go_on next v last later more told others run on)

pub beginnings_are_runs : BeginningsAreRuns
beginnings_are_runs w last [] more os run = record { between = w; before = []; behind = os; answered = refl; run = Rest w; goes_on = run }
beginnings_are_runs w last (e ∷ es) more os (Then _ v _ _ _ o told step run) =
    let r = beginnings_are_runs v last es more told run in
    record {
      between = r.between;
      before = o ∷ r.before;
      behind = r.behind;
      answered = ap (λ (xs : List (Option Outcome)). o ∷ xs) r.answered;
      run = Then w v r.between e es o r.before step r.run;
      goes_on = r.goes_on;
    }

-- ---- premises

-- all random values of two lists of events are those of the first, and then those of the second
draws_on : (es more : List Event) → joined (map draws_of (es ++ more)) ≡ joined (map draws_of es) ++ joined (map draws_of more)
draws_on [] more = refl
draws_on (e ∷ es) more =
    ap (λ (ds : List Draw). draws_of e ++ ds) (draws_on es more) ∙ sym (append_assoc (draws_of e) (joined (map draws_of es)) (joined (map draws_of more)))

tags_on : (ds others : List Draw) → map (λ (d : Draw). d.tag) (ds ++ others) ≡ map (λ (d : Draw). d.tag) ds ++ map (λ (d : Draw). d.tag) others
tags_on [] others = refl
tags_on (d ∷ ds) others = ap (λ (ts : List ℕ). d.tag ∷ ts) (tags_on ds others)

-- what is generated in the beginning is generated in the whole
drawn_on : (es more : List Event) (tag : ℕ) → Has (drawn_in es) tag → Has (drawn_in (es ++ more)) tag
drawn_on es more tag has =
    subst (λ (ts : List ℕ). Has ts tag)
    (sym (ap (λ (ds : List Draw). map (λ (d : Draw). d.tag) (FIRST_DRAW ∷ ds)) (draws_on es more) ∙ tags_on (FIRST_DRAW ∷ joined (map draws_of es)) (joined (map draws_of more))))
    (has_left (drawn_in es) (map (λ (d : Draw). d.tag) (joined (map draws_of more))) tag has)

theirs_on : (s : Sealing) (es more : List Event) (x : ChunkMeaning) → IsTheirs s (drawn_in es) x → IsTheirs s (drawn_in (es ++ more)) x
theirs_on s es more (Init m) theirs = drawn_on es more m.tag theirs
theirs_on s es more (CookieEcho cookie) theirs = theirs
theirs_on s es more x theirs = absurd theirs

pub beginnings_meet_the_premises : BeginningsMeetThePremises
beginnings_meet_the_premises s es more all x p has =
    let stranger = all x p (has_left es more (Foreign x (Some p)) has) in
    record {
      untagged = λ tag. stranger.untagged (drawn_on es more p.tag tag);
      chunks = λ c there theirs. stranger.chunks c there (theirs_on s es more c theirs);
    }

-- ---- worlds that go on

pub passing_goes_on : PassingGoesOn
passing_goes_on w [] more [] others [] beyond p on = (on, refl)
passing_goes_on w (e ∷ es) more (o ∷ os) others (v ∷ vs) beyond (step, p) on = let r = passing_goes_on v es more os others vs beyond p on in ((step, r.0), r.1)
passing_goes_on w [] more (o ∷ os) others vs beyond p on = absurd p
passing_goes_on w [] more [] others (v ∷ vs) beyond p on = absurd p
passing_goes_on w (e ∷ es) more [] others vs beyond p on = absurd p
passing_goes_on w (e ∷ es) more (o ∷ os) others [] beyond p on = absurd p

-- ---- AGED

in_time_before : (u w : World) (es more : List Event) (os : List (Option Outcome)) (vs beyond : List World) → PassesThrough w es os vs → AllComeInTime u w (es ++ more) (vs ++ beyond) → AllComeInTime u w es vs
in_time_before u w [] more [] [] beyond p all = tt
in_time_before u w (e ∷ es) more (o ∷ os) (v ∷ vs) beyond (step, p) (now, later) = (now, in_time_before u v es more os vs beyond p later)
in_time_before u w [] more (o ∷ os) vs beyond p all = absurd p
in_time_before u w [] more [] (v ∷ vs) beyond p all = absurd p
in_time_before u w (e ∷ es) more [] vs beyond p all = absurd p
in_time_before u w (e ∷ es) more (o ∷ os) [] beyond p all = absurd p

pub beginnings_are_aged : BeginningsAreAged
beginnings_are_aged w [] more [] [] beyond p aged = tt
beginnings_are_aged w (e ∷ es) more (o ∷ os) (v ∷ vs) beyond (step, p) (now, later) =
    (in_time_before w w (e ∷ es) more (o ∷ os) (v ∷ vs) beyond (step, p) now, beginnings_are_aged v es more os vs beyond p later)
beginnings_are_aged w [] more (o ∷ os) vs beyond p aged = absurd p
beginnings_are_aged w [] more [] (v ∷ vs) beyond p aged = absurd p
beginnings_are_aged w (e ∷ es) more [] vs beyond p aged = absurd p
beginnings_are_aged w (e ∷ es) more (o ∷ os) [] beyond p aged = absurd p

-- in a world of few TSNs everything arrives in time
few_in_time : (u w : World) (e : Event) → ((x : Side) → assigned_tsns w x < AGE_LIMIT) → ComesInTime u w e
few_in_time u w (Deliver s n) few = λ p there x. let f = few x in omega (arith, f)
few_in_time u w e few = tt

all_few_in_time : (u w : World) (es : List Event) (vs : List World) → AssignFewer AGE_LIMIT (w ∷ vs) → AllComeInTime u w es vs
all_few_in_time u w (e ∷ es) (v ∷ vs) few = (few_in_time u w e (few w (inl refl)), all_few_in_time u v es vs (λ z h. few z (inr h)))
all_few_in_time u w [] vs few = tt
all_few_in_time u w (e ∷ es) [] few = tt

pub short_runs_are_aged : ShortRunsAreAged
short_runs_are_aged w (e ∷ es) (v ∷ vs) few = (all_few_in_time w w (e ∷ es) (v ∷ vs) few, short_runs_are_aged v es vs (λ z h. few z (inr h)))
short_runs_are_aged w [] vs few = tt
short_runs_are_aged w (e ∷ es) [] few = tt

-- ---- each world

-- the worlds after the first of these
safe_behind : (w : World) (past vs : List World) → KeepBothPromises (w ∷ (past ++ vs)) → KeepBothPromises (last_of w past ∷ vs)
safe_behind w [] vs all = all
safe_behind w (v ∷ past) vs all = safe_behind v past vs all.1

pub each_world_is_safe : EachWorldIsSafe
each_world_is_safe s before es os others past vs configured run passes premises aged =
    safe_behind (start s) past vs
    (all_safe_in_time s (before ++ es) (os ++ others) (past ++ vs) configured (passing_goes_on (start s) before es os others past vs run passes).0 premises aged)
