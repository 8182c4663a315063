-- Nothing is taken if nothing waits, and an endpoint with plain options is left as it was.
use Rattle.std.proofs.Common.{◌≡◌, ℕ, Bool, true, false, ◌||◌, List, [], ◌∷◌, None, refl, sym, ap, ◌∙◌}
use Rattle.std.specs.Prelude.{slice_get}
use Rattle.sctp_model.specs.receiver.ReceiverView.{Handed}
use Rattle.sctp_model.specs.end.EndView.{EndView}
use Rattle.sctp_model.specs.end.UserCalls.{is_update, updating, UserTakes}
use Rattle.sctp_terms.specs.PlainOptions.{HasPlainOptions}

none_first : (hs : List Handed) → slice_get hs 0 ≡ None → hs ≡ []
none_first [] is = refl
none_first (h ∷ hs) is = absurd (cc)

-- no SACK is due by it
unupdating : (e : EndView) → HasPlainOptions e.configuration → updating e ≡ e
unupdating e o = ap (λ (b : Bool). record e { due = record e.due { sack = b } }) (ap (λ (b : Bool). e.due.sack || b) none ∙ or_none e.due.sack)
  where
    none : is_update e ≡ false
    none = rw o.updates refl

    or_none : (b : Bool) → (b || false) ≡ b
    or_none true = refl
    or_none false = refl

pub nothing_taken : (e : EndView) (stream : ℕ) → HasPlainOptions e.configuration → slice_get (e.receiver.waiting stream) 0 ≡ None → UserTakes e stream None e
nothing_taken e stream o is =
    record { receiver = e.receiver; takes = (none_first (e.receiver.waiting stream) is, refl); leaves = sym (unupdating e o) }
