-- Once two endpoints have met, no step parts them: an endpoint goes along the diagram, and keeps its tags and its terms.
use Rattle.std.proofs.Common.{◌≡◌, ℕ, Bool, true, false, List, Option, refl, sym, subst}
use Rattle.sctp_model.specs.numbers.Lists.{IsWithin}
use Rattle.sctp_model.specs.end.EndView.{Terms, Phase, Idle, Listening, Calling, Echoing, Open, Over}
use Rattle.sctp_model.specs.world.World.{Side, A, B, World, end_of}
use Rattle.sctp_model.specs.world.Events.{Event, Outcome}
use Rattle.sctp_model.specs.world.Steps.{Step}
use Rattle.sctp_safety.specs.States.{IsTurn, ByCall, ByInitAck, ByCookieAck, ByCookie, ByPair, ByStage, ByEnd, IsPath, Here, On, has_agreed}
use Rattle.sctp_safety.specs.Strangers.{tags_of, IsDrawn}
use Rattle.sctp_safety.specs.Agreement.{AreAgreed, AreEachOthers, was_open, HaveMet}
use Rattle.sctp_safety.proofs.machine.Diagram.{path_agreed}
use Rattle.sctp_safety.proofs.machine.DiagramRuns.{IsFresh, IsOnward, step_onward}

-- ---- the tags of an endpoint that has agreed

turn_agrees : (h k : Phase) → IsTurn h k → has_agreed h ≡ true → has_agreed k ≡ true
turn_agrees h k t e = path_agreed h k (On h k k t (Here k)) e

turn_tags : (h k : Phase) → has_agreed h ≡ true → IsTurn h k → IsWithin (tags_of k) (tags_of h)
turn_tags h k e (ByCall _) n x = absurd (cc)
turn_tags h k e (ByInitAck _ _ _) n x = absurd (cc)
turn_tags h k e (ByCookieAck _ _) n x = x
turn_tags h k e (ByCookie _) n x = absurd (cc)
turn_tags h k e (ByPair _) n x = absurd (cc)
turn_tags h k e (ByStage _ _ _ _) n x = x
turn_tags h k e (ByEnd _ _ _) n x = elim x [ ]

pub path_tags : (h k : Phase) → has_agreed h ≡ true → IsPath h k → IsWithin (tags_of k) (tags_of h)
path_tags h k e (Here _) n x = x
path_tags h k e (On _ m _ t rest) n x = turn_tags h m e t n (path_tags m k (turn_agrees h m t e) rest n x)

-- ---- an endpoint that is open, or over

open_agreed : (h : Phase) → was_open h ≡ true → has_agreed h ≡ true
open_agreed Idle e = absurd (cc)
open_agreed Listening e = absurd (cc)
open_agreed (Calling d) e = absurd (cc)
open_agreed (Echoing t xs) e = refl
open_agreed (Open t g) e = refl
open_agreed (Over why) e = refl

turn_open : (h k : Phase) → was_open h ≡ true → IsTurn h k → was_open k ≡ true
turn_open h k e (ByCall _) = absurd (cc)
turn_open h k e (ByInitAck _ _ _) = absurd (cc)
turn_open h k e (ByCookieAck _ _) = absurd (cc)
turn_open h k e (ByCookie _) = absurd (cc)
turn_open h k e (ByPair _) = absurd (cc)
turn_open h k e (ByStage _ _ _ _) = refl
turn_open h k e (ByEnd _ _ _) = refl

pub path_open : (h k : Phase) → was_open h ≡ true → IsPath h k → was_open k ≡ true
path_open h k e (Here _) = e
path_open h k e (On _ m _ t rest) = path_open m k (turn_open h m e t) rest

-- ---- each other's tags

caller_turn : (h k l : Phase) → was_open l ≡ true → has_agreed h ≡ true → IsTurn h k → AreEachOthers h l → AreEachOthers k l
caller_turn h k (Open u i) e a (ByCall _) x = absurd (cc)
caller_turn h k (Open u i) e a (ByInitAck _ _ _) x = absurd (cc)
caller_turn h k (Open u i) e a (ByCookieAck _ _) x = x
caller_turn h k (Open u i) e a (ByCookie _) x = absurd (cc)
caller_turn h k (Open u i) e a (ByPair _) x = absurd (cc)
caller_turn h k (Open u i) e a (ByStage _ _ _ _) x = x
caller_turn h k (Open u i) e a (ByEnd _ _ _) x = tt
caller_turn h k (Over why) e a turn x = unsaid k
  where
    unsaid : (j : Phase) → AreEachOthers j (Over why)
    unsaid Idle = tt
    unsaid Listening = tt
    unsaid (Calling d) = tt
    unsaid (Echoing t xs) = tt
    unsaid (Open t g) = tt
    unsaid (Over y) = tt
caller_turn h k Idle e a turn x = absurd (cc)
caller_turn h k Listening e a turn x = absurd (cc)
caller_turn h k (Calling d) e a turn x = absurd (cc)
caller_turn h k (Echoing t xs) e a turn x = absurd (cc)

listener_turn : (h l m : Phase) → was_open l ≡ true → IsTurn l m → AreEachOthers h l → AreEachOthers h m
listener_turn h l m e (ByCall _) x = absurd (cc)
listener_turn h l m e (ByInitAck _ _ _) x = absurd (cc)
listener_turn h l m e (ByCookieAck _ _) x = absurd (cc)
listener_turn h l m e (ByCookie _) x = absurd (cc)
listener_turn h l m e (ByPair _) x = absurd (cc)
listener_turn Idle l m e (ByStage _ _ _ _) x = tt
listener_turn Listening l m e (ByStage _ _ _ _) x = tt
listener_turn (Calling d) l m e (ByStage _ _ _ _) x = tt
listener_turn (Echoing t xs) l m e (ByStage _ _ _ _) x = x
listener_turn (Open t g) l m e (ByStage _ _ _ _) x = x
listener_turn (Over y) l m e (ByStage _ _ _ _) x = tt
listener_turn Idle l m e (ByEnd _ _ _) x = tt
listener_turn Listening l m e (ByEnd _ _ _) x = tt
listener_turn (Calling d) l m e (ByEnd _ _ _) x = tt
listener_turn (Echoing t xs) l m e (ByEnd _ _ _) x = tt
listener_turn (Open t g) l m e (ByEnd _ _ _) x = tt
listener_turn (Over y) l m e (ByEnd _ _ _) x = tt

caller_path : (h k l : Phase) → was_open l ≡ true → has_agreed h ≡ true → IsPath h k → AreEachOthers h l → AreEachOthers k l
caller_path h k l e a (Here _) x = x
caller_path h k l e a (On _ m _ t rest) x = caller_path m k l e (turn_agrees h m t a) rest (caller_turn h m l e a t x)

pub listener_path : (h l m : Phase) → was_open l ≡ true → IsPath l m → AreEachOthers h l → AreEachOthers h m
listener_path h l m e (Here _) x = x
listener_path h l m e (On _ k _ t rest) x = listener_path h k m (turn_open l k e t) rest (listener_turn h l k e t x)

-- ---- a step

-- two endpoints that have met, and go by tags that were generated
pub record IsMet (drawn : List ℕ) (w : World) : Type 0 where
  pub met : HaveMet w
  pub tags : (x : Side) → IsDrawn drawn (end_of w x).phase

-- nothing may be opened if one endpoint has begun
closed_by : (w : World) → IsFresh w → was_open w.b.phase ≡ true → w.openable ≡ false
closed_by w fresh begun = go w.openable refl
  where
    go : (b : Bool) → w.openable ≡ b → w.openable ≡ false
    go false is = is
    go true is = let q : was_open Listening ≡ true = subst (λ (h : Phase). was_open h ≡ true) ((fresh is).1) begun in absurd (cc)

pub met_step : (drawn : List ℕ) (w : World) (e : Event) (o : Option Outcome) (v : World) → IsFresh w → Step w e o v → IsMet drawn w → IsMet drawn v
met_step drawn w e o v fresh step m = record {
  met = record { caller = caller; listener = listener; terms = terms; tags = each; closed_to_opening = closed_by v on.fresh listener };
  tags = tags;
}
  where
    on : IsOnward w v
    on = step_onward w e o v fresh step

    caller : has_agreed v.a.phase ≡ true
    caller = path_agreed w.a.phase v.a.phase (on.later A).path m.met.caller

    listener : was_open v.b.phase ≡ true
    listener = path_open w.b.phase v.b.phase m.met.listener (on.later B).path

    terms : AreAgreed v.a.terms v.b.terms
    terms =
        subst (λ (x : Terms). AreAgreed x v.b.terms) (sym ((on.later A).terms m.met.caller))
        (subst (λ (y : Terms). AreAgreed w.a.terms y) (sym ((on.later B).terms (open_agreed w.b.phase m.met.listener))) m.met.terms)

    each : AreEachOthers v.a.phase v.b.phase
    each =
        caller_path w.a.phase v.a.phase v.b.phase listener m.met.caller (on.later A).path
        (listener_path w.a.phase w.b.phase v.b.phase m.met.listener (on.later B).path m.met.tags)

    tags : (x : Side) → IsDrawn drawn (end_of v x).phase
    tags A = λ n h. m.tags A n (path_tags w.a.phase v.a.phase m.met.caller (on.later A).path n h)
    tags B = λ n h. m.tags B n (path_tags w.b.phase v.b.phase (open_agreed w.b.phase m.met.listener) (on.later B).path n h)
