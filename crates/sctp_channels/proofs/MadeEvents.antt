-- What is reported makes at most one call: the message is taken of which it is told.
use Rattle.std.proofs.Common.{◌≡◌, ℕ, Bool, true, false, List, [], ◌∷◌, ◌==◌, Option, Some, None, refl, sym, subst, ap, ◌∙◌, arith, if◌then◌else◌}
use Rattle.std.proofs.lemmas.Bool.Decides.{nat_tests}
use Rattle.std.specs.Prelude.{option_map}
use Rattle.sctp_model.specs.receiver.ReceiverView.{Handed}
use Rattle.sctp_model.specs.receiver.SackMade.{first_taken}
use Rattle.sctp_model.specs.end.EndView.{EndView}
use Rattle.sctp_model.specs.world.World.{Side, World, end_of}
use Rattle.sctp_model.specs.world.Events.{Take, Message}
use Rattle.sctp_model.specs.world.Steps as steps
use Rattle.sctp_model.specs.world.Steps.{last_of}
use Rattle.sctp_safety.proofs.machine.OneEnd.{at_end}
use Rattle.sctp_channels.specs.declared.channels.Channels.{Channels}
use Rattle.sctp_channels.specs.declared.event.Event as declared
use Rattle.sctp_channels.specs.Streams.{Table, stream_at}
use Rattle.sctp_channels.specs.Told.{Report}
use Rattle.sctp_channels.specs.Coming.{After, comes}
use Rattle.sctp_channels.specs.Calling.{outgoing}
use Rattle.sctp_channels.specs.Events.{Reported, first_taken_at, reports_taken, reports_waiting, reports_message, next_report, freed_behind, with_freed}
use Rattle.sctp_channels.specs.Meanings.{event_meaning}
use Rattle.sctp_channels.specs.ChannelsStand.{ChannelsStand}
use Rattle.sctp_channels.specs.Telling.{Tells}
use Rattle.sctp_channels.specs.Driven.{Moves, Takes, Driven, Rests}
use Rattle.sctp_channels.specs.Driven as driven
use Rattle.sctp_channels.specs.Making.{Makes, IsAllNoted, IsMade}
use Rattle.sctp_channels.specs.MadeByCalls.{reports_of, EventsAreMade}
use Rattle.sctp_channels.proofs.Promised.{report_cases}
use Rattle.sctp_channels.proofs.MadeSwept.{makes_freed}
use Rattle.sctp_channels.proofs.MadeLemmas.{makes_still, makes_nothing, makes_one, own_side, other_side, own_call}

-- ---- what an event is

-- a message that waits first is taken
record TakesFirst (v : EndView) (r : Reported) : Type 0 where
  stream : ℕ
  message : Handed
  rest : List Handed
  waits : v.receiver.waiting stream ≡ message ∷ rest
  view : r.view ≡ first_taken_at v stream message rest

-- Nothing is told, and nothing changed; or something is, with the endpoint as it was, or with the message taken.
data Kinds (v : EndView) (x : Table) (r : Reported) : Type 0 where
  IsQuiet : r.report ≡ None → r.view ≡ v → r.table ≡ x → Kinds v x r
  IsTold : (q : Report) → r.report ≡ Some q → r.view ≡ v → Kinds v x r
  IsTaken : (q : Report) → r.report ≡ Some q → TakesFirst v r → Kinds v x r

module _ (v : EndView) (x : Table) where
  after : (s : ℕ) → Handed → After
  after s h = comes x.role (outgoing v x) s h (stream_at x s)

  by_taken : (s : ℕ) (h : Handed) (rest : List Handed) (a : After) → v.receiver.waiting s ≡ h ∷ rest → (b : Bool) → Kinds v x (if b then reports_taken s h rest a v x else reports_waiting s a v x)
  by_taken s h rest a waits true = IsTaken (record { stream = s; told = a.told }) refl (record { stream = s; message = h; rest = rest; waits = waits; view = refl })
  by_taken s h rest a waits false = IsTold (record { stream = s; told = a.told }) refl refl

  by_waiting : (s : ℕ) (hs : List Handed) → v.receiver.waiting s ≡ hs → Kinds v x (reports_message s hs v x)
  by_waiting s [] waits = IsQuiet refl refl refl
  by_waiting s (h ∷ rest) waits = by_taken s h rest (comes x.role (outgoing v x) s h (stream_at x s)) waits (comes x.role (outgoing v x) s h (stream_at x s)).taken

  kinds : Kinds v x (next_report v x)
  kinds = report_cases (λ (r : Reported). Kinds v x r) v x (λ s on. IsTold _ refl refl) (λ s. IsTold _ refl refl) (λ s on. by_waiting s (v.receiver.waiting s) refl) (IsQuiet refl refl refl) (λ s on. IsTold _ refl refl)

-- ---- what it makes

-- the report of an event
reports_are : (e : Option declared.Event) (o : Option Report) → option_map event_meaning e ≡ o → (q : Report) → o ≡ Some q → reports_of e ≡ q ∷ []
reports_are (Some e) o is q one = ap (λ (r : Report). r ∷ []) (let both = is ∙ one in cc both)
reports_are None o is q one = absurd (let both = is ∙ one in cc both)

reports_none : (e : Option declared.Event) (o : Option Report) → option_map event_meaning e ≡ o → o ≡ None → reports_of e ≡ []
reports_none None o is none = refl
reports_none (Some e) o is none = absurd (let both = is ∙ none in cc both)

-- a message less waits
still_noted : (v : EndView) (s : ℕ) (h : Handed) (rest : List Handed) → v.receiver.waiting s ≡ h ∷ rest → IsAllNoted v → IsAllNoted (first_taken_at v s h rest)
still_noted v s h rest waits all = record { there = all.there; waiting = λ i some. all.waiting i (λ none. some (go i (i == s) refl none)) }
  where
    go : (i : ℕ) (b : Bool) → (i == s) ≡ b → v.receiver.waiting i ≡ [] → (if b then rest else v.receiver.waiting i) ≡ []
    go i false is none = none
    go i true is none = absurd (let e : i ≡ s = grind (arith, nat_tests, is) in let there = ap v.receiver.waiting e in cc (sym none ∙ there ∙ waits))

module _ (y : Side) (w : World) (x : Table) where
  abbrev v : EndView
  v = end_of w y

  abbrev r : Reported
  r = next_report v x

  told_made : (q : Report) → r.report ≡ Some q → r.view ≡ v → Makes y w x [] (q ∷ []) [] v r.table
  told_made q is same = makes_still y w x (q ∷ []) r.table (driven.Tells w x r.table [] [] [] q [] is same (Rests w r.table))

  taken_made : IsAllNoted v → (q : Report) → r.report ≡ Some q → TakesFirst v r → Makes y w x [] (q ∷ []) [] r.view r.table
  taken_made all q is t =
      makes_one y w x [] (Take y t.stream) (Some (Message t.message)) _ r.view None (q ∷ []) r.table (own_call y (Take y t.stream) (own_side y)) (at_end w y r.view)
      (steps.TakesOne y t.stream (Some t.message) r.view (record { receiver = first_taken v.receiver t.stream t.message t.rest; takes = (t.rest, t.waits, refl); leaves = t.view }))
      (Takes t.stream t.message q is refl (subst (λ (u : EndView). u.receiver.resets.told t.stream ≡ None) (sym t.view) (all.waiting t.stream (λ none. absurd (cc (sym none ∙ t.waits)))))) (other_side y)

  made : (e : Option declared.Event) (c : Channels) → IsAllNoted v → Tells (with_freed r) e c → Kinds v x r → IsMade y w x [] (reports_of e) [] c
  made e c all tells (IsQuiet none view table) = record {
    view = v;
    table = x;
    makes = subst (λ (rs : List Report). Makes y w x [] rs [] v x) (sym (reports_none e r.report tells.report none)) (makes_nothing y w x);
    stands = subst (λ (u : EndView). ChannelsStand c u x) view (subst (λ (q : Table). ChannelsStand c r.view q) table (subst (λ (o : Option Report). ChannelsStand c r.view (freed_behind o r.view r.table)) none tells.stands));
    few = omega arith;
    noted = λ reached noted. noted;
  }
  made e c all tells (IsTold q is view) = record {
    view = v;
    table = freed_behind r.report v r.table;
    makes = subst (λ (rs : List Report). Makes y w x [] rs [] v (freed_behind r.report v r.table)) (sym (reports_are e r.report tells.report q is)) (makes_freed r.report y w x q v r.table (told_made q is view));
    stands = subst (λ (u : EndView). ChannelsStand c u (freed_behind r.report u r.table)) view tells.stands;
    few = omega arith;
    noted = λ reached noted. noted;
  }
  made e c all tells (IsTaken q is t) = record {
    view = r.view;
    table = freed_behind r.report r.view r.table;
    makes = subst (λ (rs : List Report). Makes y w x [] rs [] r.view (freed_behind r.report r.view r.table)) (sym (reports_are e r.report tells.report q is))
        (makes_freed r.report y w x q r.view r.table (taken_made all q is t));
    stands = tells.stands;
    few = omega arith;
    noted = λ reached noted. subst IsAllNoted (sym t.view) (still_noted v t.stream t.message t.rest t.waits noted);
  }

pub events_are_made : EventsAreMade
events_are_made y w x e c all tells = made y w x e c all tells (kinds (end_of w y) x)
