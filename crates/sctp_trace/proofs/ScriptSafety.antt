-- The lines of a script have a course, and each of its worlds is safe.
use Rattle.std.proofs.Common.{◌≡◌, ℕ, ◌<◌, ◌^◌, Bool, true, false, ◌∷◌, [], List, map, None, Some, inl, inr, refl, sym, ap, ◌∙◌, subst, arith}
use Rattle.std.proofs.lemmas.Option.{same_Some}
use Rattle.sctp_model.specs.numbers.Lists.{Has}
use Rattle.sctp_model.specs.wire.Packet.{Packet}
use Rattle.sctp_model.specs.end.Sealing.{Sealing}
use Rattle.sctp_model.specs.end.EndView.{Configuration}
use Rattle.sctp_model.specs.end.Configured.{IsConfiguration, configuration_fault}
use Rattle.sctp_model.specs.world.World.{Side, A, B, World, configuration_of, start}
use Rattle.sctp_model.specs.world.Events.{Event, Foreign, Outcome}
use Rattle.sctp_model.specs.world.Steps.{Step, PassesThrough, last_of}
use Rattle.sctp_model.specs.world.Aged.{Aged}
use Rattle.sctp_safety.specs.Runs.{KeepBothPromises, EachWorldIsSafe}
use Rattle.sctp_outcomes.specs.Users.{exchange, IsFaithful, UsersTakeWhatWasSent}
use Rattle.sctp_cookie.specs.Seals.{IsUnder}
use Rattle.sctp_events.specs.Events.{Wanted, Happens, BringsBytes}
use Rattle.sctp_pair.specs.Happens.{IsMeant}
use Rattle.sctp_pair.specs.Unforged.{KeyPremises, HasByteCookies, HaveByteCookies, PremisesAreTheKeys, WhatIsReadHasByteCookies}
use Rattle.sctp_script.specs.CanBe.{CanBe}
use Rattle.sctp_events.specs.Alike.{turned_round}
use Rattle.sctp_events.specs.Setups.{setup_with}
use Rattle.sctp_script.specs.Configuration.{AreOfPair}
use Rattle.sctp_script.specs.Grammar.{Silent, Pairs, Acts, Fault, Says}
use Rattle.sctp_script.specs.Places as places
use Rattle.sctp_script.specs.Places.{Place, Behind, Acted, Plain, Configures, SaysAt, has_options}
use Rattle.sctp_trace.specs.Stages.{LISTENER_KEY, Stage, Unpaired, SetUp, Reached, world_of}
use Rattle.sctp_trace.specs.Script.{Goes}
use Rattle.sctp_trace.proofs.PlacedLines.{pair_plain, where_set}
use Rattle.sctp_trace.specs.ScriptSafe.{AreEventsOf, Course}

-- the laws of `pair` lines and lines of options, and of configurations
pub record PairLaws : Type 0 where
  pub first : (paired : Bool) (line : List ℕ) (c : Configuration) → Says paired line (Pairs c) → paired ≡ false
  pub pair : (place : Place) (line : List ℕ) (c : Configuration) → SaysAt place line (Plain (Pairs c)) → AreOfPair c (turned_round c)
  pub options : (line : List ℕ) (with_options : Bool) (a b c d : Configuration) → AreOfPair a b → SaysAt (Behind with_options a b) line (Configures c d) → AreOfPair c d
  pub within : (c : Configuration) → c.own_port < 2 ^ 16 → c.peer_port < 2 ^ 16 → configuration_fault c ≡ None → IsConfiguration c

-- the limits hold at both ends
both_configured : PairLaws → (a b : Configuration) (s : Sealing) → AreOfPair a b → (x : Side) → IsConfiguration (configuration_of (setup_with a b s) x)
both_configured laws a b s right A = laws.within a (omega (arith, right.of_a.own_port)) (omega (arith, right.of_a.peer_port)) right.of_a.faultless
both_configured laws a b s right B =
    let same : record b { own_port = a.peer_port; peer_port = a.own_port } ≡ b =
    ap (λ (p : ℕ). record b { own_port = p; peer_port = a.own_port }) (right.of_a.peer_port ∙ sym right.of_b.own_port)
    ∙ ap (λ (p : ℕ). record b { own_port = b.own_port; peer_port = p }) (right.of_a.own_port ∙ sym right.of_b.peer_port) in
    subst IsConfiguration (sym same) (laws.within b (omega (arith, right.of_b.own_port)) (omega (arith, right.of_b.peer_port)) right.of_b.faultless)

-- ---- a course from a world on

-- what lines behind one that acts lead through from a world to a world
record GoesThrough (with_options : Bool) (v w : World) (lines : List (List ℕ)) : Type 0 where
  pub events : List Event
  pub theirs : AreEventsOf (Acted with_options) lines events
  pub outcomes : List Outcome
  pub worlds : List World
  pub passes : PassesThrough v events (map Some outcomes) worlds
  pub ends : last_of v worlds ≡ w

goes_through : PairLaws → (with_options : Bool) (v w : World) (lines : List (List ℕ)) (written : List ℕ) (after : Stage) → Goes (Reached with_options v) lines written after → world_of after ≡ Some w
    → GoesThrough with_options v w lines
goes_through laws with_options v w [] written after goes there =
    record { events = []; theirs = refl; outcomes = []; worlds = []; passes = tt; ends = same_Some v w (ap world_of (sym goes.1) ∙ there) }
goes_through laws with_options v w (line ∷ lines) written after (here, behind, mid, (Plain Silent, says, does), rest, whole) there =
    let on = goes_through laws with_options v w lines behind after (subst (λ (s : Stage). Goes s lines behind after) does.1 rest) there in
    record { events = on.events; theirs = inl (says, on.theirs); outcomes = on.outcomes; worlds = on.worlds; passes = on.passes; ends = on.ends }
goes_through laws with_options v w (line ∷ lines) written after (here, behind, mid, (Plain (Pairs c), says, does), rest, whole) there =
    let no = laws.first true line c (pair_plain (Acted with_options) line c says) in cc
goes_through laws with_options v w (line ∷ lines) written after (here, behind, mid, (Configures c d, says, does), rest, whole) there =
    let set = where_set (Acted with_options) line c d says in cc
goes_through laws with_options v w (line ∷ lines) written after (here, behind, mid, (Plain (Acts wanted), says, (u, x, e, o, meant, was, step, writes, is)), rest, whole) there =
    let on = goes_through laws with_options x w lines behind after (subst (λ (s : Stage). Goes s lines behind after) is rest) there in
    record {
      events = e ∷ on.events;
      theirs = inr (inr (inr (wanted, e, on.events, says, meant, on.theirs, refl)));
      outcomes = o ∷ on.outcomes;
      worlds = x ∷ on.worlds;
      passes = (subst (λ (y : World). Step y e (Some o) x) (sym (same_Some v u was)) step, on.passes);
      ends = on.ends;
    }
goes_through laws with_options v w (line ∷ lines) written after (here, behind, mid, (Plain (Fault fault), says, does), rest, whole) there = absurd does

-- ---- a course from START on

-- what lines from this place on lead through, with two endpoints set up on the way
record HasCourse (place : Place) (lines : List (List ℕ)) (w : World) : Type 0 where
  pub a : Configuration
  pub b : Configuration
  pub seal : Sealing
  pub key : IsUnder LISTENER_KEY seal
  pub right : AreOfPair a b
  pub events : List Event
  pub theirs : AreEventsOf place lines events
  pub outcomes : List Outcome
  pub worlds : List World
  pub passes : PassesThrough (start (setup_with a b seal)) events (map Some outcomes) worlds
  pub ends : last_of (start (setup_with a b seal)) worlds ≡ w

-- the same behind one line more, by what it says
one_more : (place next : Place) (line : List ℕ) (lines : List (List ℕ)) (w : World) (on : HasCourse next lines w) → AreEventsOf place (line ∷ lines) on.events
    → HasCourse place (line ∷ lines) w
one_more place next line lines w on theirs = record {
  a = on.a;
  b = on.b;
  seal = on.seal;
  key = on.key;
  right = on.right;
  events = on.events;
  theirs = theirs;
  outcomes = on.outcomes;
  worlds = on.worlds;
  passes = on.passes;
  ends = on.ends;
}

-- no line: the world is the one that the endpoints were set up in
nothing_asked : (with_options : Bool) (a b : Configuration) (s : Sealing) (w : World) → IsUnder LISTENER_KEY s → AreOfPair a b → Some (start (setup_with a b s)) ≡ Some w → HasCourse (Behind with_options a b) [] w
nothing_asked with_options a b s w under right is = record {
  a = a;
  b = b;
  seal = s;
  key = under;
  right = right;
  events = [];
  theirs = refl;
  outcomes = [];
  worlds = [];
  passes = tt;
  ends = same_Some (start (setup_with a b s)) w is;
}

-- a line that says nothing, and a line of options
silent_first : (with_options : Bool) (a b : Configuration) (line : List ℕ) (lines : List (List ℕ)) (w : World) → SaysAt (Behind with_options a b) line (Plain Silent) → HasCourse (Behind with_options a b) lines w → HasCourse (Behind with_options a b) (line ∷ lines) w
silent_first with_options a b line lines w says on = one_more (Behind with_options a b) (Behind with_options a b) line lines w on (inl (says, on.theirs))

options_first : (with_options : Bool) (a b c d : Configuration) (line : List ℕ) (lines : List (List ℕ)) (w : World) → SaysAt (Behind with_options a b) line (Configures c d) → HasCourse (Behind true c d) lines w → HasCourse (Behind with_options a b) (line ∷ lines) w
options_first with_options a b c d line lines w says on = one_more (Behind with_options a b) (Behind true c d) line lines w on (inr (inr (inl (c, d, says, on.theirs))))

-- behind the pair no line is a `pair` line
no_pair_more : PairLaws → (with_options : Bool) (a b : Configuration) (line : List ℕ) (lines : List (List ℕ)) (w : World) (c : Configuration) → SaysAt (Behind with_options a b) line (Plain (Pairs c)) → HasCourse (Behind with_options a b) (line ∷ lines) w
no_pair_more laws with_options a b line lines w c says = let no : true ≡ false = laws.first true line c (pair_plain (Behind with_options a b) line c says) in cc

-- the first line that asks something of the two endpoints
asks_first : (with_options : Bool) (a b : Configuration) (s : Sealing) (line : List ℕ) (lines : List (List ℕ)) (w u x : World) (wanted : Wanted) (e : Event) (o : Outcome) → IsUnder LISTENER_KEY s → AreOfPair a b
    → SaysAt (Behind with_options a b) line (Plain (Acts wanted)) → IsMeant wanted e → Some (start (setup_with a b s)) ≡ Some u → Step u e (Some o) x → GoesThrough with_options x w lines
    → HasCourse (Behind with_options a b) (line ∷ lines) w
asks_first with_options a b s line lines w u x wanted e o under right says meant was step on = record {
  a = a;
  b = b;
  seal = s;
  key = under;
  right = right;
  events = e ∷ on.events;
  theirs = inr (inr (inr (wanted, e, on.events, says, meant, on.theirs, refl)));
  outcomes = o ∷ on.outcomes;
  worlds = x ∷ on.worlds;
  passes = (subst (λ (y : World). Step y e (Some o) x) (sym (same_Some (start (setup_with a b s)) u was)) step, on.passes);
  ends = on.ends;
}

-- lines behind the pair, whose configurations are right
behind_pair : PairLaws → (with_options : Bool) (a b : Configuration) (s : Sealing) (lines : List (List ℕ)) (written : List ℕ) (after : Stage) (w : World) → IsUnder LISTENER_KEY s → AreOfPair a b
    → Goes (SetUp with_options a b s) lines written after → world_of after ≡ Some w → HasCourse (Behind with_options a b) lines w
behind_pair laws with_options a b s [] written after w under right goes there = nothing_asked with_options a b s w under right (ap world_of (sym goes.1) ∙ there)
behind_pair laws with_options a b s (line ∷ lines) written after w under right (here, behind, mid, (Plain Silent, says, does), rest, whole) there =
    silent_first with_options a b line lines w says (behind_pair laws with_options a b s lines behind after w under right (subst (λ (x : Stage). Goes x lines behind after) does.1 rest) there)
behind_pair laws with_options a b s (line ∷ lines) written after w under right (here, behind, mid, (Plain (Pairs c), says, does), rest, whole) there =
    no_pair_more laws with_options a b line lines w c says
behind_pair laws with_options a b s (line ∷ lines) written after w under right (here, behind, mid, (Configures c d, says, (t, seals, writes, is)), rest, whole) there =
    options_first with_options a b c d line lines w says (behind_pair laws true c d t lines behind after w seals (laws.options line with_options a b c d right says) (subst (λ (x : Stage). Goes x lines behind after) is rest) there)
behind_pair laws with_options a b s (line ∷ lines) written after w under right (here, behind, mid, (Plain (Acts wanted), says, (u, x, e, o, meant, was, step, writes, is)), rest, whole) there =
    asks_first with_options a b s line lines w u x wanted e o under right says meant was step (goes_through laws with_options x w lines behind after (subst (λ (y : Stage). Goes y lines behind after) is rest) there)
behind_pair laws with_options a b s (line ∷ lines) written after w under right (here, behind, mid, (Plain (Fault fault), says, does), rest, whole) there = absurd does

-- before a `pair` line there is no world
no_world : (place : Place) (lines : List (List ℕ)) (u w : World) → None ≡ Some u → HasCourse place lines w
no_world place lines u w none = cc

-- the `pair` line, and a line that says nothing
pair_first : (c : Configuration) (line : List ℕ) (lines : List (List ℕ)) (w : World) → SaysAt places.Unpaired line (Plain (Pairs c)) → HasCourse (Behind false c (turned_round c)) lines w
    → HasCourse places.Unpaired (line ∷ lines) w
pair_first c line lines w says on = one_more places.Unpaired (Behind false c (turned_round c)) line lines w on (inr (inl (c, says, on.theirs)))

silent_start : (line : List ℕ) (lines : List (List ℕ)) (w : World) → SaysAt places.Unpaired line (Plain Silent) → HasCourse places.Unpaired lines w → HasCourse places.Unpaired (line ∷ lines) w
silent_start line lines w says on = one_more places.Unpaired places.Unpaired line lines w on (inl (says, on.theirs))

-- lines from the first one on
from_start : PairLaws → (lines : List (List ℕ)) (written : List ℕ) (after : Stage) (w : World) → Goes Unpaired lines written after → world_of after ≡ Some w
    → HasCourse places.Unpaired lines w
from_start laws [] written after w goes there = no_world places.Unpaired [] w w (ap world_of (sym goes.1) ∙ there)
from_start laws (line ∷ lines) written after w (here, behind, mid, (Plain Silent, says, does), rest, whole) there =
    silent_start line lines w says (from_start laws lines behind after w (subst (λ (x : Stage). Goes x lines behind after) does.1 rest) there)
from_start laws (line ∷ lines) written after w (here, behind, mid, (Plain (Pairs c), says, (s, under, writes, is)), rest, whole) there =
    pair_first c line lines w says (behind_pair laws false c (turned_round c) s lines behind after w under (laws.pair places.Unpaired line c says) (subst (λ (x : Stage). Goes x lines behind after) is rest) there)
from_start laws (line ∷ lines) written after w (here, behind, mid, (Configures c d, says, does), rest, whole) there = absurd says
from_start laws (line ∷ lines) written after w (here, behind, mid, (Plain (Acts wanted), says, (u, x, e, o, meant, was, step, writes, is)), rest, whole) there =
    no_world places.Unpaired (line ∷ lines) u w was
from_start laws (line ∷ lines) written after w (here, behind, mid, (Plain (Fault fault), says, does), rest, whole) there = absurd does

pub has_course : PairLaws → (lines : List (List ℕ)) (written : List ℕ) (stage : Stage) (w : World) → Goes Unpaired lines written stage → world_of stage ≡ Some w → Course lines w
has_course laws lines written stage w goes there =
    let on = from_start laws lines written stage w goes there in
    record {
      setup = setup_with on.a on.b on.seal;
      key = on.key;
      configured = both_configured laws on.a on.b on.seal on.right;
      events = on.events;
      theirs = on.theirs;
      outcomes = on.outcomes;
      worlds = on.worlds;
      passes = on.passes;
      ends = on.ends;
    }

-- ---- strangers

-- the laws of what a line asks for, and of what is read
pub record StrangerLaws : Type 0 where
  pub can_be : (place : Place) (line : List ℕ) (wanted : Wanted) → SaysAt place line (Plain (Acts wanted)) → CanBe wanted
  pub byte_cookies : WhatIsReadHasByteCookies

same_packet : (s x : Side) (q p : Packet) → Foreign s (Some q) ≡ Foreign x (Some p) → q ≡ p
same_packet s x q p is = cc

not_unread : (s x : Side) (p : Packet) → Foreign s None ≡ Foreign x (Some p) → ⊥
not_unread s x p is = cc

-- a stranger's packet was read from the bytes of its line
cookies_of : StrangerLaws → (place : Place) (line : List ℕ) (wanted : Wanted) (e : Event) (x : Side) (p : Packet) → SaysAt place line (Plain (Acts wanted)) → IsMeant wanted e
    → e ≡ Foreign x (Some p) → HasByteCookies p
cookies_of laws place line (Happens d) e x p says meant is =
    absurd (subst (λ (f : Event). CanBe (Happens f)) (sym meant ∙ is) (laws.can_be place line (Happens d) says))
cookies_of laws place line (BringsBytes s bytes) e x p says (Some q, reads, meant) is =
    let same : q ≡ p = same_packet s x q p (sym meant ∙ is) in
    subst HasByteCookies same (laws.byte_cookies bytes q (laws.can_be place line (BringsBytes s bytes) says) reads)
cookies_of laws place line (BringsBytes s bytes) e x p says (None, reads, meant) is = absurd (not_unread s x p (sym meant ∙ is))

pub have_byte_cookies : StrangerLaws → (place : Place) (lines : List (List ℕ)) (events : List Event) → AreEventsOf place lines events → HaveByteCookies events
have_byte_cookies laws place [] events none x p has = let has : Has [] (Foreign x (Some p)) = rw none at has in absurd has
have_byte_cookies laws place (line ∷ lines) events (inl silent) x p has = have_byte_cookies laws place lines events silent.1 x p has
have_byte_cookies laws place (line ∷ lines) events (inr (inl pair)) x p has = have_byte_cookies laws (Behind false pair.0 (turned_round pair.0)) lines events pair.2 x p has
have_byte_cookies laws place (line ∷ lines) events (inr (inr (inl options))) x p has = have_byte_cookies laws (Behind true options.0 options.1) lines events options.3 x p has
have_byte_cookies laws place (line ∷ lines) events (inr (inr (inr (wanted, e, es, says, meant, theirs, is)))) x p has =
    let has : Has (e ∷ es) (Foreign x (Some p)) = rw is at has in
    elim has [
      | inl this ↦ cookies_of laws place line wanted e x p says meant this
      | inr behind ↦ have_byte_cookies laws (Acted (has_options place)) lines es theirs x p behind
    ]

-- ---- safety

-- nothing happened before the events of a course
pub course_is_safe : EachWorldIsSafe → UsersTakeWhatWasSent → PremisesAreTheKeys → StrangerLaws → (lines : List (List ℕ)) (w : World) (c : Course lines w)
    → KeyPremises LISTENER_KEY c.events → Aged (start c.setup) c.events c.worlds
    → KeepBothPromises (start c.setup ∷ c.worlds) × ((x : Side) (n : ℕ) → IsFaithful (exchange x n c.events (map Some c.outcomes) w))
course_is_safe safe users keys laws lines w c premises aged =
    let cookies = have_byte_cookies laws places.Unpaired lines c.events c.theirs in
    let premises = (keys LISTENER_KEY c.setup.sealing c.events c.key).in_words_of_the_seal cookies premises in (
      safe c.setup [] c.events [] (map Some c.outcomes) [] c.worlds c.configured tt c.passes premises aged,
      λ x n. subst (λ (v : World). IsFaithful (exchange x n c.events (map Some c.outcomes) v)) c.ends
          (users c.setup c.events (map Some c.outcomes) c.worlds c.configured c.passes premises aged x n),
    )
