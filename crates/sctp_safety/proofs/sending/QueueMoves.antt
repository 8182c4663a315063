-- A message that is accepted is the move of a call: its stream is there, and its fragments, none empty, are its bytes.
use Rattle.std.proofs.Common.{◌≡◌, ℕ, suc, ◌<◌, List, [], ◌∷◌, ◌++◌, length, refl, sym, subst, ap, ◌∙◌, le_refl}
use Rattle.sctp_model.specs.numbers.Lists.{Has}
use Rattle.sctp_model.specs.world.Calls.{Call}
use Rattle.sctp_model.specs.sender.SenderView.{SenderView}
use Rattle.sctp_model.specs.sender.Queueing.{cut, queued}
use Rattle.sctp_model.proofs.sender.CutLaws.{cut_some, each_full, joined_cut}
use Rattle.sctp_model.proofs.sender.SetLaws.{IsAccepted, accepted}
use Rattle.sctp_safety.specs.Way.{Way, Send, with_sender}
use Rattle.sctp_safety.specs.SenderLaws.{QueueIsMoves}
use Rattle.sctp_safety.proofs.moves.Taken.{leads_on, leads_by, leads_same}
use Rattle.sctp_safety.proofs.moves.UsualLemmas.{retuned}

pub queue_is_moves : QueueIsMoves
queue_is_moves w c usual size streams none = record {
  leads = leads_on w mid out
      (leads_by w mid (Send c (cut w.sender.fragment c.bytes)) (stream, cut_some w.sender.fragment c.bytes size is.some, full, sym (joined_cut w.sender.fragment c.bytes size), refl))
      (leads_same mid (with_sender mid tuned) out (retuned mid tuned refl refl refl refl refl (λ i. le_refl (w.sender.repeats i))) same);
  order = record { ends = usual.order.ends; marked = usual.order.marked; tickets = ap suc usual.order.tickets ∙ sym (length_more w.asked.calls) };
  constants = record { initial = refl; streams = refl; fragment = refl; partial = refl };
}
  where
    is : IsAccepted w.sender c.lane.stream c.bytes
    is = accepted w.sender c.lane.stream c.bytes none

    stream : c.lane.stream < w.streams
    stream = subst (λ (n : ℕ). c.lane.stream < n) streams is.there

    full : (x : List ℕ) → Has (cut w.sender.fragment c.bytes) x → 0 < length x
    full x has = each_full w.sender.fragment c.bytes x size has

    with_ticket : ℕ → SenderView
    with_ticket t = record w.sender {
      queue = w.sender.queue ++ record { lane = c.lane; message = record { ticket = t; payload = c.payload; fragments = cut w.sender.fragment c.bytes; until = c.until; limit = c.limit } } ∷ [];
    }

    mid : Way
    mid = record w { sender = with_ticket (suc (length w.asked.calls)); asked = record w.asked { calls = w.asked.calls ++ c ∷ [] } }

    tuned : SenderView
    tuned = record (with_ticket (suc (length w.asked.calls))) { tickets = suc w.sender.tickets }

    out : Way
    out = record w { sender = queued w.sender c.lane c.payload c.bytes c.until c.limit; asked = record w.asked { calls = w.asked.calls ++ c ∷ [] } }

    same : with_sender mid tuned ≡ out
    same = ap (λ (t : ℕ). with_sender mid (record (with_ticket (suc t)) { tickets = suc w.sender.tickets })) (sym usual.order.tickets)

    length_more : (xs : List Call) → length (xs ++ c ∷ []) ≡ suc (length xs)
    length_more [] = refl
    length_more (x ∷ xs) = ap suc (length_more xs)
