-- Over every run from START that meets the premises, two endpoints are apart or agree.
use Rattle.std.proofs.Common.{◌≡◌, ℕ, true, false, List, [], ◌∷◌, ◌++◌, map, Option, inl, inr, refl, sym, subst, ap, arith, ◌<◌, ◌^◌}
use Rattle.sctp_model.specs.numbers.Lists.{Has, joined}
use Rattle.sctp_model.specs.end.Sealing.{Sealing}
use Rattle.sctp_model.specs.end.EndView.{Draw, Phase, Listener}
use Rattle.sctp_model.specs.end.Configured.{IsConfiguration}
use Rattle.sctp_model.specs.world.World.{Side, A, B, World, end_of, Setup, configuration_of, start, clock_of}
use Rattle.sctp_model.specs.world.Events.{Event, Outcome}
use Rattle.sctp_model.specs.world.Steps.{Step, Run, Rest, Then}
use Rattle.sctp_model.specs.world.Premises.{draws_of, drawn_in, FreshAndUnforged}
use Rattle.sctp_safety.specs.Strangers.{IsDrawn}
use Rattle.sctp_safety.specs.Agreement.{was_open, IsOpening, EndsAgree}
use Rattle.sctp_safety.proofs.machine.DiagramRuns.{IsFresh, step_onward}
use Rattle.sctp_safety.proofs.machine.Ground.{IsFine, IsWell, IsGrounded, ground_step}
use Rattle.sctp_safety.proofs.machine.Story.{IsStory, story_step}
use Rattle.sctp_safety.proofs.machine.Story.{AreApart as StillApart, HaveMet as NowMet}

-- ---- the premises, event by event

has_behind : {X : Type 0} (xs ys : List X) (y : X) → Has ys y → Has (xs ++ ys) y
has_behind [] ys y h = h
has_behind (x ∷ xs) ys y h = inr (has_behind xs ys y h)

has_before : {X : Type 0} (xs ys : List X) (y : X) → Has xs y → Has (xs ++ ys) y
has_before [] ys y none = elim none [ ]
has_before (x ∷ xs) ys y (inl e) = inl e
has_before (x ∷ xs) ys y (inr h) = inr (has_before xs ys y h)

has_mapped : (xs ys : List Draw) (n : ℕ) → ((d : Draw) → Has xs d → Has ys d) → Has (map (λ (d : Draw). d.tag) xs) n → Has (map (λ (d : Draw). d.tag) ys) n
has_mapped [] ys n within none = elim none [ ]
has_mapped (x ∷ xs) ys n within (inr h) = has_mapped xs ys n (λ d k. within d (inr k)) h
has_mapped (x ∷ xs) ys n within (inl e) = subst (Has (map (λ (d : Draw). d.tag) ys)) e (tag_of ys x (within x (inl refl)))
  where
    tag_of : (zs : List Draw) (d : Draw) → Has zs d → Has (map (λ (c : Draw). c.tag) zs) d.tag
    tag_of [] d none = elim none [ ]
    tag_of (z ∷ zs) d (inl q) = inl (ap (λ (c : Draw). c.tag) q)
    tag_of (z ∷ zs) d (inr h) = inr (tag_of zs d h)

draws_within : (es : List Event) (e : Event) → Has es e → (d : Draw) → Has (draws_of e) d → Has (joined (map draws_of es)) d
draws_within [] e none d h = elim none [ ]
draws_within (x ∷ es) e (inl q) d h = has_before (draws_of x) _ d (subst (λ (y : Event). Has (draws_of y) d) (sym q) h)
draws_within (x ∷ es) e (inr k) d h = has_behind (draws_of x) _ d (draws_within es e k d h)

pub fine_by : (s : Setup) (es : List Event) → FreshAndUnforged s.sealing es → (e : Event) → Has es e → IsFine s (drawn_in es) e
fine_by s es premises e here = record {
  draws = λ n h. inr (has_mapped (draws_of e) (joined (map draws_of es)) n (draws_within es e here) h);
  strangers = λ x p is. premises x p (subst (Has es) is here);
}

-- ---- a world

pub record IsSound (s : Setup) (drawn : List ℕ) (w : World) : Type 0 where
  pub ground : IsGrounded s drawn w
  pub fresh : IsFresh w
  pub story : IsStory s drawn w

module _ (s : Setup) (drawn : List ℕ) (configured : (x : Side) → IsConfiguration (configuration_of s x)) where
  pub sound_step : (w : World) (e : Event) (o : Option Outcome) (v : World) → IsFine s drawn e → Step w e o v → IsSound s drawn w → IsSound s drawn v
  sound_step w e o v fine step i = record {
    ground = ground_step s drawn w e o v fine i.ground step;
    fresh = (step_onward w e o v i.fresh step).fresh;
    story = story_step s drawn configured w e o v fine i.ground i.fresh step i.story;
  }

  pub sound_run : (w : World) (es : List Event) (os : List (Option Outcome)) (v : World) → ((e : Event) → Has es e → IsFine s drawn e) → Run w es os v → IsSound s drawn w → IsSound s drawn v
  sound_run w es os v fine (Rest _) i = i
  sound_run w es os v fine (Then _ mid _ e rest o others step run) i =
      sound_run mid rest others v (λ x h. fine x (inr h)) run (sound_step w e o mid (fine e (inl refl)) step i)

-- ---- START

pub sound_start : (s : Setup) (drawn : List ℕ) → Has drawn 1 → IsSound s drawn (start s)
sound_start s drawn one = record {
  ground = record { ends = ends; clock = clocks; draw = record { some = omega arith; tag = omega arith; tsn = omega arith }; draw_tag = one };
  fresh = λ q. (refl, refl);
  story = StillApart (record {
    listens = refl;
    caller = record {
      configuration = refl;
      unopened = refl;
      calls = λ q. absurd (cc);
      draws = λ d q. absurd (cc);
      drawn_tags = λ n none. elim none [ ];
      inits = λ p m none h. elim none [ ];
      acks = λ p m none t h. elim none [ ];
      echoed = λ p xs b none h o. elim none [ ];
      echoes = λ t xs b q o. absurd (cc);
    };
    answers = λ p x none h. elim none [ ];
  });
}
  where
    clocks : (x : Side) → clock_of (start s) x < 2 ^ 64
    clocks A = omega arith
    clocks B = omega arith

    ends : (x : Side) → IsWell s x (end_of (start s) x)
    ends A = record { configuration = refl; seal = λ z q. absurd (cc); moment = omega arith }
    ends B = record { configuration = refl; seal = λ z q. let r : s.sealing ≡ z = cc in sym r; moment = omega arith }

-- ---- what it gives

pub opening_of : (s : Setup) (drawn : List ℕ) (w : World) → IsSound s drawn w → IsOpening s drawn w
opening_of s drawn w i = by i.story
  where
    seals : (x : Side) (z : Sealing) → (end_of w x).role ≡ Listener z → z ≡ s.sealing
    seals x = (i.ground.ends x).seal

    by : IsStory s drawn w → IsOpening s drawn w
    by (StillApart a) = record {
      drawn_tags = tags;
      one_seal = seals;
      cookies = λ is p cookie b here held opened. let f = a.caller.echoed p cookie b here held opened in (f.agreed, f.terms);
      met = inl (record { listens = a.listens; unopened = a.caller.unopened });
    }
      where
        tags : (x : Side) → IsDrawn drawn (end_of w x).phase
        tags A = a.caller.drawn_tags
        tags B = subst (IsDrawn drawn) (sym a.listens) (λ n none. elim none [ ])
    by (NowMet m) = record {
      drawn_tags = m.tags;
      one_seal = seals;
      cookies = λ is p cookie b here held opened. let q : false ≡ true = subst (λ (h : Phase). was_open h ≡ true) is m.met.listener in absurd (cc);
      met = inr m.met;
    }

pub ends_agree : EndsAgree
ends_agree s events w r =
    opening_of s (drawn_in events) w
    (sound_run s (drawn_in events) r.configured (start s) events r.answers w (fine_by s events r.premises) r.run (sound_start s (drawn_in events) (inl refl)))
