-- Calls at both ends, one after the other, are a run that the tables of both ends drive.
use Rattle.std.proofs.Common.{◌≡◌, ℕ, ◌<◌, ◌≤◌, max, List, [], ◌∷◌, ◌++◌, length, Option, None, false, inl, refl, sym, subst, ap, ◌∙◌}
use Rattle.std.proofs.lemmas.List.{append-nil}
use Rattle.sctp_model.specs.wire.Packet.{Packet}
use Rattle.sctp_model.specs.receiver.ReceiverView.{ReceiverView}
use Rattle.sctp_model.specs.end.EndView.{EndView}
use Rattle.sctp_model.specs.end.Moments.{ticked}
use Rattle.sctp_model.specs.world.World.{Side, A, B, other, World, end_of, Setup, start}
use Rattle.sctp_model.specs.world.Events.{Event, Outcome}
use Rattle.sctp_model.specs.world.Steps.{Step, OpensBoth, OpenRefused, TimeGoesOn, MomentComes, TimePasses, Draws, NoMemory, PassesThrough, last_of}
use Rattle.sctp_model.specs.world.Steps as steps
use Rattle.sctp_outcomes.specs.AllReported.{arrives_at, HearsToldOnly}
use Rattle.sctp_outcomes.proofs.Unheard.{unheard_ticked}
use Rattle.sctp_channels.specs.declared.channels.Channels.{Channels}
use Rattle.sctp_channels.specs.declared.table.DtlsRole.{DtlsRole}
use Rattle.sctp_channels.specs.Streams.{Table, fresh_table}
use Rattle.sctp_channels.specs.Told.{Report}
use Rattle.sctp_channels.specs.Driven.{is_call, Elsewhere, Driven, Rests, Goes}
use Rattle.sctp_channels.specs.Making.{Makes, IsReached, IsAllNoted, IsMade, with_side, IsDrivenTo}
use Rattle.sctp_channels.specs.MadeByCalls.{IsBeside, CallsAreDriven}
use Rattle.sctp_channels.specs.MadeByCalls as made
use Rattle.sctp_channels.proofs.HeardOnce.{hears_once, hears_on, none_left}
use Rattle.sctp_channels.proofs.MadeLemmas.{passes_on, last_on, driven_on}

-- ---- resets stay noted

pub noted_same : (e t : EndView) → t.receiver ≡ e.receiver → IsAllNoted e → IsAllNoted t
noted_same e t is all = record {
  there = λ s lt. subst (λ (r : ReceiverView). r.resets.told s ≡ None) (sym is) (all.there s (subst (λ (r : ReceiverView). s < r.streams) is lt));
  waiting = λ s some. subst (λ (r : ReceiverView). r.resets.told s ≡ None) (sym is) (all.waiting s (λ none. some (ap (λ (r : ReceiverView). r.waiting s) is ∙ none)));
}

start_noted : (s : Setup) (y : Side) → IsAllNoted (end_of (start s) y)
start_noted s A = record { there = λ k lt. refl; waiting = λ k some. refl }
start_noted s B = record { there = λ k lt. refl; waiting = λ k some. refl }

module _ (s : Setup) (roles : Side → DtlsRole) (many : Side → ℕ) where
  abbrev tables : Side → Table
  tables y = fresh_table (roles y) (many y)

  begins : IsDrivenTo s roles many [] [] [] (λ y. []) (start s) tables
  begins = record { passes = tt; ends = refl; driven = λ y. Rests (start s) (tables y); noted = start_noted s; in_time = λ y n. tt }

  module _ (es : List Event) (os : List (Option Outcome)) (vs : List World) (told : Side → List Report) (w : World) (x : Side → Table) (d : IsDrivenTo s roles many es os vs told w x) where
    reached : IsReached w
    reached = record { setup = s; events = es; outcomes = os; worlds = vs; passes = d.passes; ends = d.ends }

    -- a run from here on
    further_passes : (fs : List Event) (ps : List (Option Outcome)) (us : List World) → PassesThrough w fs ps us → PassesThrough (start s) (es ++ fs) (os ++ ps) (vs ++ us)
    further_passes fs ps us later = passes_on (start s) es os vs fs ps us d.passes (subst (λ (v : World). PassesThrough v fs ps us) (sym d.ends) later)

    further_ends : (us : List World) → last_of (start s) (vs ++ us) ≡ last_of w us
    further_ends us = last_on (start s) vs us ∙ ap (λ (v : World). last_of v us) d.ends

    further : (y : Side) (fs : List Event) (ps : List (Option Outcome)) (us : List World) (rs : List Report) (z : Table) → Driven y w (x y) fs ps us rs z →
        Driven y (start s) (tables y) (es ++ fs) (os ++ ps) (vs ++ us) (told y ++ rs) z
    further y fs ps us rs z later =
        driven_on y (start s) (tables y) es os vs (told y) (x y) fs ps us rs z (d.driven y) (subst (λ (v : World). Driven y v (x y) fs ps us rs z) (sym d.ends) later)

    further_heard : (z : Side) (n : ℕ) (fs : List Event) (ps : List (Option Outcome)) (us : List World) → HearsToldOnly z n w fs us → HearsToldOnly z n (start s) (es ++ fs) (vs ++ us)
    further_heard z n fs ps us later = hears_on z n (start s) es os vs fs us d.passes (d.in_time z n) (subst (λ (v : World). HearsToldOnly z n v fs us) (sym d.ends) later)

    -- where nothing is told
    further_still : (y : Side) (fs : List Event) (ps : List (Option Outcome)) (us : List World) → Driven y w (x y) fs ps us [] (x y) → Driven y (start s) (tables y) (es ++ fs) (os ++ ps) (vs ++ us) (told y) (x y)
    further_still y fs ps us later =
        subst (λ (rs : List Report). Driven y (start s) (tables y) (es ++ fs) (os ++ ps) (vs ++ us) rs (x y)) (append-nil (told y)) (further y fs ps us [] (x y) later)

    calls : (y : Side) (others : List Event) (reports : List Report) (ps : List Packet) (c : Channels) → (m : IsMade y w (x y) others reports ps c) →
        IsDrivenTo s roles many (es ++ m.makes.events) (os ++ m.makes.outcomes) (vs ++ m.makes.worlds) (with_side y (told y ++ reports) told) (last_of w m.makes.worlds) (with_side y m.table x)
    calls y others reports ps c m = record {
      passes = further_passes k.events k.outcomes k.worlds k.passes;
      ends = further_ends k.worlds;
      driven = both y k.driven (k.across (x (other y)));
      noted = all y (m.noted reached (d.noted y)) k.here k.there;
      in_time = λ z n. further_heard z n k.events k.outcomes k.worlds (hears_once y z n w k.events k.outcomes k.worlds k.passes (subst (λ (fs : List Event). length fs ≤ 1) (sym k.beside) m.few) (none_left (end_of w z) n (d.noted z)));
    }
      where
        k : Makes y w (x y) others reports ps m.view m.table
        k = m.makes

        both : (y : Side) → Driven y w (x y) k.events k.outcomes k.worlds reports m.table → Driven (other y) w (x (other y)) k.events k.outcomes k.worlds [] (x (other y)) → (q : Side) →
            Driven q (start s) (tables q) (es ++ k.events) (os ++ k.outcomes) (vs ++ k.worlds) (with_side y (told y ++ reports) told q) (with_side y m.table x q)
        both A own across A = further A k.events k.outcomes k.worlds reports m.table own
        both A own across B = further_still B k.events k.outcomes k.worlds across
        both B own across B = further B k.events k.outcomes k.worlds reports m.table own
        both B own across A = further_still A k.events k.outcomes k.worlds across

        all : (y : Side) → IsAllNoted m.view → end_of (last_of w k.worlds) y ≡ m.view → end_of (last_of w k.worlds) (other y) ≡ end_of w (other y) → (q : Side) → IsAllNoted (end_of (last_of w k.worlds) q)
        all A noted here there A = subst IsAllNoted (sym here) noted
        all A noted here there B = subst IsAllNoted (sym there) (d.noted B)
        all B noted here there B = subst IsAllNoted (sym here) noted
        all B noted here there A = subst IsAllNoted (sym there) (d.noted A)

    -- what happens beside
    off_call : (y : Side) (e : Event) → IsBeside e → is_call y e ≡ false
    off_call y e (made.OpensBoth _ _) = refl
    off_call y e (made.GoesOn _ _) = refl
    off_call y e (made.Comes _) = refl
    off_call y e (made.Passes _) = refl
    off_call y e (made.Draws _) = refl

    no_packet : (z : Side) (e : Event) → IsBeside e → arrives_at z e ≡ false
    no_packet z e (made.OpensBoth _ _) = refl
    no_packet z e (made.GoesOn _ _) = refl
    no_packet z e (made.Comes _) = refl
    no_packet z e (made.Passes _) = refl
    no_packet z e (made.Draws _) = refl

    still_noted : (e : Event) (o : Option Outcome) (v : World) → IsBeside e → Step w e o v → (y : Side) → IsAllNoted (end_of v y)
    still_noted e o v (made.OpensBoth _ _) (OpensBoth _ _ like may dx dy) A = record { there = λ k lt. refl; waiting = λ k some. refl }
    still_noted e o v (made.OpensBoth _ _) (OpensBoth _ _ like may dx dy) B = record { there = λ k lt. refl; waiting = λ k some. refl }
    still_noted e o v (made.OpensBoth _ _) (OpenRefused _ _ off) y = d.noted y
    still_noted e o v (made.OpensBoth _ _) (NoMemory _ calm) y = d.noted y
    still_noted e o v (made.GoesOn _ _) (TimeGoesOn A m small) A = d.noted A
    still_noted e o v (made.GoesOn _ _) (TimeGoesOn A m small) B = d.noted B
    still_noted e o v (made.GoesOn _ _) (TimeGoesOn B m small) A = d.noted A
    still_noted e o v (made.GoesOn _ _) (TimeGoesOn B m small) B = d.noted B
    still_noted e o v (made.GoesOn _ _) (NoMemory _ calm) y = d.noted y
    still_noted e o v (made.Comes _) (MomentComes A) A = noted_same w.a (ticked w.a w.clock_a) (unheard_ticked w.a w.clock_a).receiver (d.noted A)
    still_noted e o v (made.Comes _) (MomentComes A) B = d.noted B
    still_noted e o v (made.Comes _) (MomentComes B) A = d.noted A
    still_noted e o v (made.Comes _) (MomentComes B) B = noted_same w.b (ticked w.b w.clock_b) (unheard_ticked w.b w.clock_b).receiver (d.noted B)
    still_noted e o v (made.Comes _) (NoMemory _ calm) y = d.noted y
    still_noted e o v (made.Passes _) (TimePasses m small) A = noted_same w.a (ticked w.a (max w.clock_a m)) (unheard_ticked w.a (max w.clock_a m)).receiver (d.noted A)
    still_noted e o v (made.Passes _) (TimePasses m small) B = noted_same w.b (ticked w.b (max w.clock_b m)) (unheard_ticked w.b (max w.clock_b m)).receiver (d.noted B)
    still_noted e o v (made.Passes _) (NoMemory _ calm) y = d.noted y
    still_noted e o v (made.Draws _) (Draws _ dd) A = d.noted A
    still_noted e o v (made.Draws _) (Draws _ dd) B = d.noted B
    still_noted e o v (made.Draws _) (NoMemory _ calm) y = d.noted y
    still_noted e o v (made.OpensBoth _ _) (steps.PacketComes _ _ _ _ _ brings received) y = elim brings [ ]
    still_noted e o v (made.OpensBoth _ _) (steps.PacketCut _ _ _ _ brings cut) y = elim brings [ ]
    still_noted e o v (made.GoesOn _ _) (steps.PacketComes _ _ _ _ _ brings received) y = elim brings [ ]
    still_noted e o v (made.GoesOn _ _) (steps.PacketCut _ _ _ _ brings cut) y = elim brings [ ]
    still_noted e o v (made.Comes _) (steps.PacketComes _ _ _ _ _ brings received) y = elim brings [ ]
    still_noted e o v (made.Comes _) (steps.PacketCut _ _ _ _ brings cut) y = elim brings [ ]
    still_noted e o v (made.Passes _) (steps.PacketComes _ _ _ _ _ brings received) y = elim brings [ ]
    still_noted e o v (made.Passes _) (steps.PacketCut _ _ _ _ brings cut) y = elim brings [ ]
    still_noted e o v (made.Draws _) (steps.PacketComes _ _ _ _ _ brings received) y = elim brings [ ]
    still_noted e o v (made.Draws _) (steps.PacketCut _ _ _ _ brings cut) y = elim brings [ ]

    goes_on : (e : Event) (o : Option Outcome) (v : World) → IsBeside e → Step w e o v → IsDrivenTo s roles many (es ++ e ∷ []) (os ++ o ∷ []) (vs ++ v ∷ []) told v x
    goes_on e o v beside step = record {
      passes = further_passes (e ∷ []) (o ∷ []) (v ∷ []) (step, tt);
      ends = further_ends (v ∷ []);
      driven = λ y. further_still y (e ∷ []) (o ∷ []) (v ∷ []) (Goes w v (x y) (x y) (x y) e o [] [] [] [] [] (Elsewhere e o (off_call y e beside)) (Rests v (x y)));
      noted = still_noted e o v beside step;
      in_time = λ z n. further_heard z n (e ∷ []) (o ∷ []) (v ∷ []) (inl (no_packet z e beside), tt);
    }

pub calls_are_driven : CallsAreDriven
calls_are_driven = record {
  begins = begins;
  calls = λ s roles many es os vs told w x d. calls s roles many es os vs told w x d;
  goes_on = λ s roles many es os vs told w x d. goes_on s roles many es os vs told w x d;
}
