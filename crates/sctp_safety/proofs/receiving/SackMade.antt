-- The SACK that a receiver makes may be put between the endpoints, and taking a message is a move.
use Rattle.std.proofs.Common.{◌≡◌, ℕ, zero, suc, List, [], ◌∷◌, take, Some, None, inl, inr, refl, sym, subst, ap}
use Rattle.sctp_model.specs.numbers.Lists.{Has}
use Rattle.sctp_model.specs.wire.Chunk.{BlockMeaning, SackMeaning}
use Rattle.sctp_model.specs.messages.Acknowledgement.{Acknowledgement, IsRun}
use Rattle.sctp_model.specs.receiver.SackMade.{first_taken}
use Rattle.sctp_model.proofs.receiver.Idle.{still_idle}
use Rattle.sctp_safety.specs.Way.{Put_sack, Take, with_receiver}
use Rattle.sctp_safety.specs.ReceiverLaws.{IsReceived, SackMadeIsMoves, TakeIsMoves}
use Rattle.sctp_safety.proofs.moves.Built.{sack_is_allowed}
use Rattle.sctp_safety.proofs.moves.Taken.{leads_by}

-- what a SACK has space for is among all runs
among_all : {A : Type 0} (n : ℕ) (xs : List A) (x : A) → Has (take n xs) x → Has xs x
among_all zero xs x there = absurd there
among_all (suc n) [] x there = there
among_all (suc n) (y ∷ xs) x (inl e) = inl e
among_all (suc n) (y ∷ xs) x (inr there) = inr (among_all n xs x there)

pub sack_made_is_moves : SackMadeIsMoves
sack_made_is_moves w most s made = record {
  sack = sack;
  of = record { cumulative = ap (λ (z : SackMeaning). z.cumulative) made.is; blocks = refl };
  cumulative = made.cumulative;
  leads = leads_by w (record w { sacks = sack ∷ w.sacks }) (Put_sack sack) (sack_is_allowed w sack (record { cumulative = made.cumulative; runs = runs }));
}
  where
    sack : Acknowledgement
    sack = record { cum = made.c; blocks = s.blocks }

    runs : (b : BlockMeaning) → Has s.blocks b → IsRun w.receiver made.c b
    runs b there =
        let lowest : s.blocks ≡ take most made.runs = ap (λ (z : SackMeaning). z.blocks) made.is in
        made.all.runs b (among_all most made.runs b (subst (λ (bs : List BlockMeaning). Has bs b) lowest there))

pub take_is_moves : TakeIsMoves
take_is_moves w s None t idle (none, e) = subst (IsReceived w) (sym e) (record { leads = ([], refl); idle = idle; initial = refl; streams = refl; buffer = refl })
take_is_moves w s (Some h) t idle (rest, waits, e) = subst (IsReceived w) (sym e) (record {
  leads = leads_by w (with_receiver w _) (Take s h rest) (waits, refl);
  idle = still_idle w.format w.receiver (first_taken w.receiver s h rest) refl refl refl idle;
  initial = refl;
  streams = refl;
  buffer = refl;
})
