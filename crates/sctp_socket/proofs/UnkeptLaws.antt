-- What a listener that is made for a packet doesn't keep.
use Rattle.std.proofs.Common.{◌≡◌, ℕ, Bool, true, false, if◌then◌else◌, List, ◌∷◌, Option, Some, None, refl, subst, sym}
use Rattle.sctp_model.specs.wire.Chunk.{InitMeaning, ChunkMeaning, Init}
use Rattle.sctp_model.specs.end.Sealing.{Body, Sealing}
use Rattle.sctp_model.specs.end.EndView.{EndView}
use Rattle.sctp_model.specs.end.Strays.{holds_abort, body_in, body_among, listens}
use Rattle.sctp_socket.specs.Unkept.{InitsOpenNothing}

none_in_init : (o : Option Sealing) (e : EndView) (tag : ℕ) (m : InitMeaning) → body_in o e tag (Init m) ≡ None
none_in_init None e tag m = refl
none_in_init (Some s) e tag m = refl

either_way : (b : Bool) (o : Option Body) → o ≡ None → (if b then None else o) ≡ None
either_way true o none = refl
either_way false o none = none

none_among : (e : EndView) (tag : ℕ) (m : InitMeaning) (xs : List ChunkMeaning) → body_among e tag (Init m ∷ xs) ≡ None
none_among e tag m xs = either_way (holds_abort (Init m ∷ xs)) (body_in (listens e) e tag (Init m)) (none_in_init (listens e) e tag m)

pub inits_open_nothing : InitsOpenNothing
inits_open_nothing e p m xs first = subst (λ (cs : List ChunkMeaning). body_among e p.tag cs ≡ None) (sym first) (none_among e p.tag m xs)
