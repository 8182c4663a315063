-- What a socket need not keep, and need not hand over.
use Rattle.std.proofs.Common.{◌≡◌, ℕ, max, true, false, [], ◌∷◌, refl, sym, ap, ◌∙◌, arith}
use Rattle.sctp_model.specs.wire.Chunk.{InitMeaning, Init}
use Rattle.sctp_model.specs.end.EndView.{EndView, Listener, Listening, fresh_end}
use Rattle.sctp_model.specs.end.Strays.{Verdict, Dropped}
use Rattle.sctp_model.specs.end.PeerFaults.{PORTS, TAG, STATE}
use Rattle.sctp_model.specs.end.Arriving.{Notes, no_notes, AllAct, NoneLeft, Next, Passes, Last, EndsAnswered, Stopped, Elsewhere, NotOurs, Stray, CookieBegins, Heard}
use Rattle.sctp_socket.specs.Unmoved.{ListenersAreAnew, InitsAreDropped}

pub listeners_are_anew : ListenersAreAnew
listeners_are_anew c s then now before =
    let later : max (max 0 then) now ≡ max 0 now = omega (arith, before) in
    ap (λ (m : ℕ). record (fresh_end c (Listener s) Listening) { moment = m }) later

-- its only chunk is passed over
passed_over : (e t : EndView) (tag : ℕ) (m : InitMeaning) (n : Notes) (v : Verdict) → AllAct tag e no_notes (Init m ∷ []) t n v → (reason : ℕ) × (v ≡ Dropped reason)
passed_over e t tag m n v (Next _ mid _ k _ _ _ _ _ acts more) = absurd (cc)
passed_over e t tag m n v (Passes _ _ _ _ _ _ _ acts (NoneLeft _ _)) = (STATE, refl)
passed_over e t tag m n v (Last _ _ _ _ _ acts) = absurd (cc)
passed_over e t tag m n v (EndsAnswered _ _ _ _ _ p acts) = absurd (cc)
passed_over e t tag m n v (Stopped _ _ _ _ reason acts) = (reason, refl)

pub inits_are_dropped : InitsAreDropped
inits_are_dropped e t d p m v has (Elsewhere _) = (PORTS, refl)
inits_are_dropped e t d p m v has (NotOurs _ _) = (TAG, refl)
inits_are_dropped e t d p m v has (Stray _ _ none _) = absurd (let q : false ≡ true = sym none ∙ has in cc)
inits_are_dropped e t d p m v has (CookieBegins b u n w _ _ none _ _ gap _) = absurd (let q : false ≡ true = sym none ∙ has in cc)
inits_are_dropped e t d p m v has (Heard u n w _ _ _ acts gap _) = passed_over e u p.tag m n w acts
