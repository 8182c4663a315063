-- What is freed of streams makes no event.
use Rattle.std.proofs.Common.{◌≡◌, ℕ, zero, suc, Bool, true, false, List, [], ◌∷◌, Option, Some, None, refl, subst, if◌then◌else◌}
use Rattle.sctp_model.specs.end.EndView.{EndView}
use Rattle.sctp_model.specs.world.World.{Side, World, end_of}
use Rattle.sctp_model.specs.world.Steps.{last_of}
use Rattle.sctp_channels.specs.Streams.{Table}
use Rattle.sctp_channels.specs.Told.{Told, Incoming, Opened, Message, Closed, BufferedAmountLow, Refuses, Ignores, Report}
use Rattle.sctp_channels.specs.Settling.{is_gone}
use Rattle.sctp_channels.specs.Events.{with_left_over, swept_at, swept_below, freed_by, freed_behind}
use Rattle.sctp_channels.specs.Driven.{Rests, Frees}
use Rattle.sctp_channels.specs.Making.{Makes}
use Rattle.sctp_channels.proofs.MadeLemmas.{makes_still, makes_nothing, makes_more}

one_swept : (y : Side) (w : World) (x : Table) (n : ℕ) → Makes y w x [] [] [] (end_of w y) (swept_at (end_of w y) x n)
one_swept y w x n = go (is_gone (end_of w y) x n) refl
  where
    go : (b : Bool) → is_gone (end_of w y) x n ≡ b → Makes y w x [] [] [] (end_of w y) (if b then with_left_over x n else x)
    go true gone = makes_still y w x [] (with_left_over x n) (Frees w x (with_left_over x n) [] [] [] [] n gone (Rests w (with_left_over x n)))
    go false stays = makes_nothing y w x

pub swept_made : (y : Side) (n : ℕ) (w : World) (x : Table) → Makes y w x [] [] [] (end_of w y) (swept_below n (end_of w y) x)
swept_made y zero w x = makes_nothing y w x
swept_made y (suc n) w x =
    let m = swept_made y n w x in
    let z = swept_below n (end_of w y) x in
    makes_more y w x [] [] [] [] [] [] (end_of w y) (end_of w y) z (swept_at (end_of w y) z n) m
    (subst (λ (e : EndView). Makes y (last_of w m.worlds) z [] [] [] e (swept_at e z n)) m.here (one_swept y (last_of w m.worlds) z n))

-- behind an event
freed_made : (o : Option Report) (y : Side) (w : World) (x : Table) → Makes y w x [] [] [] (end_of w y) (freed_behind o (end_of w y) x)
freed_made None y w x = makes_nothing y w x
freed_made (Some r) y w x = by_told r.told
  where
    by_told : (t : Told) → Makes y w x [] [] [] (end_of w y) (freed_by t r.stream (end_of w y) x)
    by_told (Incoming p) = makes_nothing y w x
    by_told Opened = makes_nothing y w x
    by_told (Message c) = makes_nothing y w x
    by_told Closed = makes_nothing y w x
    by_told BufferedAmountLow = makes_nothing y w x
    by_told (Refuses why) = makes_nothing y w x
    by_told (Ignores why) = one_swept y w x r.stream

pub makes_freed : (o : Option Report) (y : Side) (w : World) (x : Table) (q : Report) (u : EndView) (z : Table) → Makes y w x [] (q ∷ []) [] u z → Makes y w x [] (q ∷ []) [] u (freed_behind o u z)
makes_freed o y w x q u z m =
    makes_more y w x [] [] (q ∷ []) [] [] [] u u z (freed_behind o u z) m
    (subst (λ (e : EndView). Makes y (last_of w m.worlds) z [] [] [] e (freed_behind o e z)) m.here (freed_made o y (last_of w m.worlds) z))
