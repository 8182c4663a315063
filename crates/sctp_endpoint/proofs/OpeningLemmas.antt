-- A caller that waits for its COOKIE ACK, and what is returned of a packet of which no state is kept.
use Rattle.std.proofs.Common.{◌≡◌, ℕ, true, List, refl}
use Rattle.std.proofs.lemmas.Bool.{false≢true}
use Rattle.std.specs.Prelude.{Result, Ok, Err, OnErr}
use Rattle.sctp_model.specs.end.EndView as model
use Rattle.sctp_model.specs.end.Opening.{is_echoing}
use Rattle.sctp_model.specs.end.Strays.{Verdict}
use Rattle.sctp_model.specs.end.Strays as told
use Rattle.sctp_opening.specs.Told.{IsAnswer}
use Rattle.sctp_endpoint.specs.Handled as handled

-- its tags and its cookie
pub echoing_there : (h : model.Phase) → is_echoing h ≡ true → (t : model.Tags) × (xs : List ℕ) × (h ≡ model.Echoing t xs)
echoing_there model.Idle w = absurd (false≢true w)
echoing_there model.Listening w = absurd (false≢true w)
echoing_there (model.Calling d) w = absurd (false≢true w)
echoing_there (model.Echoing t xs) w = (t, xs, refl)
echoing_there (model.Open t g) w = absurd (false≢true w)
echoing_there (model.Over why) w = absurd (false≢true w)

-- an answer is one, whoever says so
pub answer_told : (bytes : List ℕ) (x : Verdict) → IsAnswer bytes x → handled.IsAnswer bytes x
answer_told bytes (told.Answer p) is = is
answer_told bytes (told.Dropped reason) is = is
answer_told bytes told.Taken is = is

-- what holds anyway holds where memory was wanted
pub where_wanted : {T E P : Type 0} (r : Result T E) → P → OnErr r P
where_wanted (Ok x) is = tt
where_wanted (Err y) is = is
