use Rattle.std.proofs.Common.{◌≡◌, ◌∙◌, ◌++◌, List, ℕ, map, ap}
use Rattle.std.specs.Prelude.{Result, Ok, Err, OnOk}
use Rattle.sctp_send.specs.OutstandingFields.{item_meaning}
use Rattle.sctp_send.specs.SenderKept.{Kept}
use Rattle.sctp_send.specs.SenderStands.{StandsFor}
use Rattle.sctp_send.specs.inner.Testing.{index_of}
use Rattle.sctp_send.specs.inner.Weighing.{repeats_from}
use Rattle.sctp_send.proofs.pace.AgainLemmas.{listed_again}
use Rattle.sctp_send.proofs.sender.Sender.list_again.Goals as goal

on_ok_then : {A E : Type 0} (P Q : Type 0) (r : Result A E) → (P → Q) → OnOk r P → OnOk r Q
on_ok_then P Q (Ok x) next said = next said
on_ok_then P Q (Err e) next said = said

pub returns : goal.returns
unfolding StandsFor
returns g c = λ v stands.
    let s = c.self.inside in
    let xs = map (item_meaning s.parts.outstanding.size) s.parts.outstanding.items in
    let items : xs ≡ c.args.self.now.items = ap (λ (n : ℕ). map (item_meaning n) s.parts.outstanding.items) c.self.invariant.window ∙ ap (λ (k : Kept). k.items) c.self.view_is in
    let cum = ap (λ (k : Kept). k.cum) c.self.view_is in
    on_ok_then _ _ c.list_repeats.result
    (λ listed. listed_again g.F.Framing.format _ v c.args.room xs c.list_repeats.new.list.items stands items
    (listed ∙ ap (λ (is : List ℕ). is ++ map (index_of s.told.cum) (repeats_from g.F.Framing.format c.args.room 0 xs)) c.requires.fresh ∙ ap (λ (n : ℕ). map (index_of n) (repeats_from g.F.Framing.format c.args.room 0 xs)) cum))
    c.list_repeats.ensures
