-- Runs that tables drive go on, event by event and call by call.
use Rattle.std.proofs.Common.{◌≡◌, ℕ, not, true, false, List, [], ◌∷◌, ◌++◌, Option, Some, None, refl, sym, subst, ap, ◌∙◌}
use Rattle.std.proofs.lemmas.List.{append-nil, append_assoc}
use Rattle.std.proofs.lemmas.List.Elements.{filter-append}
use Rattle.sctp_model.specs.wire.Packet.{Packet}
use Rattle.sctp_model.specs.end.EndView.{EndView}
use Rattle.sctp_model.specs.end.UserCalls.{SendAnswer, send_answer, send_leaves, ResetCall, reset_call, reset_leaves, reset_there, told_leaves}
use Rattle.sctp_model.specs.world.Calls.{Call}
use Rattle.sctp_model.specs.world.World.{Side, A, B, other, World, end_of, bag_of, clock_of, start}
use Rattle.sctp_model.specs.world.Events.{Event, Send, Reset, WasReset, Outcome, Told, reset_told, resets_told}
use Rattle.sctp_model.specs.world.Steps as steps
use Rattle.sctp_model.specs.world.Steps.{Step, PassesThrough, last_of}
use Rattle.sctp_safety.proofs.machine.OneEnd.{IsAt, at_end, at_log}
use Rattle.sctp_outcomes.specs.Users.{same_side}
use Rattle.sctp_channels.specs.Streams.{Table}
use Rattle.sctp_channels.specs.Told.{Report}
use Rattle.sctp_channels.specs.Driven.{is_call, Moves, Elsewhere, Driven, Rests, Goes, Tells, Agrees, Sets, Frees}
use Rattle.sctp_channels.specs.Making.{others_in, Makes, IsReached}

-- ---- runs one after the other

pub passes_on : (w : World) (es : List Event) (os : List (Option Outcome)) (vs : List World) (fs : List Event) (ps : List (Option Outcome)) (us : List World) → PassesThrough w es os vs →
    PassesThrough (last_of w vs) fs ps us → PassesThrough w (es ++ fs) (os ++ ps) (vs ++ us)
passes_on w [] [] [] fs ps us first later = later
passes_on w (e ∷ es) (o ∷ os) (v ∷ vs) fs ps us (step, first) later = (step, passes_on v es os vs fs ps us first later)
passes_on w [] (o ∷ os) vs fs ps us first later = absurd first
passes_on w [] [] (v ∷ vs) fs ps us first later = absurd first
passes_on w (e ∷ es) [] vs fs ps us first later = absurd first
passes_on w (e ∷ es) (o ∷ os) [] fs ps us first later = absurd first

pub last_on : (w : World) (vs us : List World) → last_of w (vs ++ us) ≡ last_of (last_of w vs) us
last_on w [] us = refl
last_on w (v ∷ vs) us = last_on v vs us

pub driven_on : (y : Side) (w : World) (x : Table) (es : List Event) (os : List (Option Outcome)) (vs : List World) (rs : List Report) (u : Table) (fs : List Event) (ps : List (Option Outcome)) (us : List World)
    (ss : List Report) (z : Table) → Driven y w x es os vs rs u → Driven y (last_of w vs) u fs ps us ss z → Driven y w x (es ++ fs) (os ++ ps) (vs ++ us) (rs ++ ss) z
driven_on y w x es os vs rs u fs ps us ss z (Rests _ _) later = later
driven_on y w x es os vs rs u fs ps us ss z (Goes _ v _ q _ e o events outcomes worlds now more move on) later =
    subst (λ (reports : List Report). Driven y w x (e ∷ (events ++ fs)) (o ∷ (outcomes ++ ps)) (v ∷ (worlds ++ us)) reports z) (sym (append_assoc now more ss))
    (Goes w v x q z e o (events ++ fs) (outcomes ++ ps) (worlds ++ us) now (more ++ ss) move (driven_on y v q events outcomes worlds more u fs ps us ss z on later))
driven_on y w x es os vs rs u fs ps us ss z (Tells _ _ _ _ _ _ r more is same on) later =
    Tells w x z (es ++ fs) (os ++ ps) (vs ++ us) r (more ++ ss) is same (driven_on y w _ es os vs more u fs ps us ss z on later)
driven_on y w x es os vs rs u fs ps us ss z (Agrees _ _ _ _ _ _ more s t ordered r is on) later =
    Agrees w x z (es ++ fs) (os ++ ps) (vs ++ us) (more ++ ss) s t ordered r is (driven_on y w _ es os vs more u fs ps us ss z on later)
driven_on y w x es os vs rs u fs ps us ss z (Sets _ _ _ _ _ _ more s n may on) later =
    Sets w x z (es ++ fs) (os ++ ps) (vs ++ us) (more ++ ss) s n may (driven_on y w _ es os vs more u fs ps us ss z on later)
driven_on y w x es os vs rs u fs ps us ss z (Frees _ _ _ _ _ _ more s gone on) later =
    Frees w x z (es ++ fs) (os ++ ps) (vs ++ us) (more ++ ss) s gone (driven_on y w _ es os vs more u fs ps us ss z on later)

-- ---- what calls make

-- the packets of one event
abbrev pub packets_in : Option Packet → List Packet
packets_in None = []
packets_in (Some p) = p ∷ []

module _ (y : Side) (w : World) (x : Table) where
  -- what changes nothing at the endpoint
  pub makes_still : (told : List Report) (z : Table) → Driven y w x [] [] [] told z → Makes y w x [] told [] (end_of w y) z
  makes_still told z driven = record {
    events = [];
    outcomes = [];
    worlds = [];
    passes = tt;
    driven = driven;
    across = λ q. Rests w q;
    beside = refl;
    here = refl;
    there = refl;
    bag = sym (append-nil (bag_of w y));
    bag_there = refl;
    clock_a = refl;
    clock_b = refl;
    draw = refl;
  }

  -- nothing
  pub makes_nothing : Makes y w x [] [] [] (end_of w y) x
  makes_nothing = makes_still [] x (Rests w x)

  -- one, and then the other
  pub makes_more : (others more : List Event) (told later : List Report) (ps qs : List Packet) (u t : EndView) (z q : Table) → (m : Makes y w x others told ps u z) →
      Makes y (last_of w m.worlds) z more later qs t q → Makes y w x (others ++ more) (told ++ later) (ps ++ qs) t q
  makes_more others more told later ps qs u t z q m n = record {
    events = m.events ++ n.events;
    outcomes = m.outcomes ++ n.outcomes;
    worlds = m.worlds ++ n.worlds;
    passes = passes_on w m.events m.outcomes m.worlds n.events n.outcomes n.worlds m.passes n.passes;
    driven = driven_on y w x m.events m.outcomes m.worlds told z n.events n.outcomes n.worlds later q m.driven n.driven;
    across = λ o. driven_on (other y) w o m.events m.outcomes m.worlds [] o n.events n.outcomes n.worlds [] o (m.across o) (n.across o);
    beside = filter-append (λ (e : Event). not (is_call y e)) m.events n.events ∙ ap (λ (es : List Event). es ++ others_in y n.events) m.beside ∙ ap (λ (es : List Event). others ++ es) n.beside;
    here = ap (λ (v : World). end_of v y) on ∙ n.here;
    there = ap (λ (v : World). end_of v (other y)) on ∙ n.there ∙ m.there;
    bag = ap (λ (v : World). bag_of v y) on ∙ n.bag ∙ ap (λ (all : List Packet). all ++ qs) m.bag ∙ append_assoc (bag_of w y) ps qs;
    bag_there = ap (λ (v : World). bag_of v (other y)) on ∙ n.bag_there ∙ m.bag_there;
    clock_a = ap (λ (v : World). v.clock_a) on ∙ n.clock_a ∙ m.clock_a;
    clock_b = ap (λ (v : World). v.clock_b) on ∙ n.clock_b ∙ m.clock_b;
    draw = ap (λ (v : World). v.draw) on ∙ n.draw ∙ m.draw;
  }
    where
      on : last_of w (m.worlds ++ n.worlds) ≡ last_of (last_of w m.worlds) n.worlds
      on = last_on w m.worlds n.worlds

  bag_is : (v : World) (t : EndView) (given : Option Packet) → IsAt w v y t given → bag_of v y ≡ bag_of w y ++ packets_in given
  bag_is v t None is = is.bag ∙ sym (append-nil (bag_of w y))
  bag_is v t (Some p) is = is.bag

  -- one event
  pub makes_one : (others : List Event) (e : Event) (o : Option Outcome) (v : World) (t : EndView) (given : Option Packet) (rs : List Report) (z : Table) → others_in y (e ∷ []) ≡ others → IsAt w v y t given → Step w e o v → Moves y (end_of w y) t x e o rs z →
      is_call (other y) e ≡ false → Makes y w x others rs (packets_in given) t z
  makes_one others e o v t given rs z beside is step moves off = record {
    events = e ∷ [];
    outcomes = o ∷ [];
    worlds = v ∷ [];
    passes = (step, tt);
    driven = subst (λ (reports : List Report). Driven y w x (e ∷ []) (o ∷ []) (v ∷ []) reports z) (append-nil rs)
        (Goes w v x z z e o [] [] [] rs [] (subst (λ (u : EndView). Moves y (end_of w y) u x e o rs z) (sym is.here) moves) (Rests v z));
    across = λ q. Goes w v q q q e o [] [] [] [] [] (Elsewhere e o off) (Rests v q);
    beside = beside;
    here = is.here;
    there = is.there;
    bag = bag_is v t given is;
    bag_there = is.bag_there;
    clock_a = is.clock_a;
    clock_b = is.clock_b;
    draw = is.draw;
  }

  -- no clock goes on
  pub makes_no_time : (others : List Event) (told : List Report) (ps : List Packet) (u : EndView) (z : Table) → (m : Makes y w x others told ps u z) → (s : Side) →
      clock_of (last_of w m.worlds) s ≡ clock_of w s
  makes_no_time others told ps u z m A = m.clock_a
  makes_no_time others told ps u z m B = m.clock_b

  -- the same, of another view of the end after it
  pub makes_same : (others : List Event) (told : List Report) (ps : List Packet) (u t : EndView) (z q : Table) → u ≡ t → z ≡ q → Makes y w x others told ps u z → Makes y w x others told ps t q
  makes_same others told ps u t z q same is m =
      subst (λ (v : EndView). Makes y w x others told ps v q) same (subst (λ (o : Table). Makes y w x others told ps u o) is m)

-- ---- single calls

pub own_side : (y : Side) → same_side y y ≡ true
own_side A = refl
own_side B = refl

pub other_side : (y : Side) → same_side y (other y) ≡ false
other_side A = refl
other_side B = refl

-- a call of the end's user
pub own_call : (y : Side) (e : Event) → is_call y e ≡ true → others_in y (e ∷ []) ≡ []
own_call y e own = rw own refl

-- anything else
pub no_call : (y : Side) (e : Event) → is_call y e ≡ false → others_in y (e ∷ []) ≡ e ∷ []
no_call y e off = rw off refl

module _ (y : Side) (w : World) (x : Table) where
  abbrev v : EndView
  v = end_of w y

  pub makes_send : (c : Call) (a : SendAnswer) → send_answer v c ≡ a → (z : Table) → Moves y v (send_leaves a v c) x (Send y c) (Some (Told a)) [] z → Makes y w x [] [] [] (send_leaves a v c) z
  makes_send c a is z = subst (λ (b : SendAnswer). Moves y v (send_leaves b v c) x (Send y c) (Some (Told b)) [] z → Makes y w x [] [] [] (send_leaves b v c) z) is
      (λ moves. makes_one y w x [] (Send y c) _ _ _ None [] z (own_call y (Send y c) (own_side y)) (at_log w y _ _) (steps.Sends y c) moves (other_side y))

  pub makes_reset : (n : ℕ) (a : ResetCall) → reset_call v n ≡ a → (z : Table) → Moves y v (reset_leaves a v n) x (Reset y n) (Some (reset_told a)) [] z → Makes y w x [] [] [] (reset_leaves a v n) z
  makes_reset n a is z = subst (λ (b : ResetCall). Moves y v (reset_leaves b v n) x (Reset y n) (Some (reset_told b)) [] z → Makes y w x [] [] [] (reset_leaves b v n) z) is
      (λ moves. makes_one y w x [] (Reset y n) _ _ _ None [] z (own_call y (Reset y n) (own_side y)) (at_end w y _) (steps.ResetsOne y n) moves (other_side y))

  pub makes_told : (o : Option ℕ) → reset_there v ≡ o → (z : Table) → Moves y v (told_leaves o v) x (WasReset y) (Some (resets_told v o)) [] z → Makes y w x [] [] [] (told_leaves o v) z
  makes_told o is z = subst (λ (b : Option ℕ). Moves y v (told_leaves b v) x (WasReset y) (Some (resets_told v b)) [] z → Makes y w x [] [] [] (told_leaves b v) z) is
      (λ moves. makes_one y w x [] (WasReset y) _ _ _ None [] z (own_call y (WasReset y) (own_side y)) (at_end w y _) (steps.TellsReset y) moves (other_side y))

-- a run that goes on
pub reached_on : (y : Side) (w : World) (x : Table) (others : List Event) (told : List Report) (ps : List Packet) (u : EndView) (z : Table) → (m : Makes y w x others told ps u z) → IsReached w →
    IsReached (last_of w m.worlds)
reached_on y w x others told ps u z m r = record {
  setup = r.setup;
  events = r.events ++ m.events;
  outcomes = r.outcomes ++ m.outcomes;
  worlds = r.worlds ++ m.worlds;
  passes = passes_on (start r.setup) r.events r.outcomes r.worlds m.events m.outcomes m.worlds r.passes (subst (λ (q : World). PassesThrough q m.events m.outcomes m.worlds) (sym r.ends) m.passes);
  ends = last_on (start r.setup) r.worlds m.worlds ∙ ap (λ (q : World). last_of q m.worlds) r.ends;
}
