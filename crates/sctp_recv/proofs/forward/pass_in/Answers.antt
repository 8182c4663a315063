use Rattle.std.proofs.Common.{map, ◌≡◌, ℕ, ◌+◌, ◌-◌, ◌++◌, min, refl, ap, ◌∙◌, subst, arith}
use Rattle.sctp_model.specs.numbers.Serial.{COUNTS}
use Rattle.sctp_model.specs.messages.Format.{Unordered, ordered_lane, unordered_lane}
use Rattle.sctp_model.specs.receiver.ReceiverView.{size_of_pieces, size_of_messages}
use Rattle.sctp_wire.specs.ChunkTree.{skip_meaning}
use Rattle.sctp_chains.specs.StandsFor as lane
use Rattle.sctp_chains.specs.WholeOf.{from_number}
use Rattle.sctp_recv.specs.Fields.{inbound_of}
use Rattle.sctp_recv.specs.ReceiverKept.{near_of}
use Rattle.sctp_recv.specs.inner.Giving.{sized, IsDueFrom}
use Rattle.sctp_recv.specs.inner.Forwarding.{lowest_after, next_after, skip_after, stay}
use Rattle.sctp_recv.proofs.forward.pass_in.Goals as goal

pub returns : goal.returns
returns g c = λ os us ordered unordered counted room counts.
    let f = g.F.Framing.format in
    let s = c.args.stream in
    let xs = map skip_meaning c.args.entries.now in
    let old = c.args.inbound.now in
    let jump = c.args.jump in
    let b = c.args.restart in
    let near : c.near-near.result ≡ near_of (inbound_of old) Unordered = c.near-near.ensures.near in
    let few : min (skip_after f b s (inbound_of old) xs) (COUNTS - 1) ≡ skip_after f b s (inbound_of old) xs =
    let most = counts.unordered in let low = c.near-near.ensures.lowest in omega (arith, most, low) in
    let skip : c.lowest_after-inbound.result ≡ skip_after f b s (inbound_of old) xs =
    c.lowest_after-inbound.ensures ∙ ap (λ (n : ℕ). min (lowest_after f (unordered_lane s) b.unordered n old.skip xs) (COUNTS - 1)) near ∙ few in
    let floor : c.lowest_after-floor.result ≡ next_after f b s (inbound_of old) xs =
    let most = counts.ordered in let is = c.lowest_after-floor.ensures in let low = c.lowest_after-floor.result in omega (arith, most, is) in
    let left = stay f jump (skip_after f b s (inbound_of old) xs) us in
    let stays = subst (λ (n : ℕ). lane.StandsFor f c.let_go.new.self (unordered_lane s) (stay f jump n us)) skip (c.let_go.ensures (unordered_lane s) us unordered refl) in
    let gives = c.give_ordered-given.ensures os ordered counted room in
    let new_unordered = gives.others (unordered_lane s) left stays in
    let before : c.kept_bytes-before.result ≡ sized (size_of_pieces os + size_of_pieces us) = c.kept_bytes-before.ensures (ordered_lane s) (unordered_lane s) os us ordered unordered in
    let after : c.kept_bytes.result ≡ sized (size_of_pieces (from_number gives.next os) + size_of_pieces left) =
    c.kept_bytes.ensures (ordered_lane s) (unordered_lane s) (from_number gives.next os) left gives.left new_unordered in
    record {
      messages = gives.messages;
      next = gives.next;
      due = subst (λ (n : ℕ). IsDueFrom f os s old.next n gives.messages gives.next) floor gives.due;
      ordered = gives.left;
      unordered = new_unordered;
      stream = gives.stream ∙ (λ i. record (inbound_of old) { next = gives.next; skip = skip i; waiting = (inbound_of old).waiting ++ gives.messages });
      bytes = c.saturating_add-2.ensures ∙ (λ j. sized (c.saturating_add.ensures j + gives.bytes j)) ∙ (λ j. sized (sized (c.saturating_sub.ensures j + after j) + sized (size_of_messages gives.messages)))
          ∙ (λ j. sized (sized (c.args.held - before j + sized (size_of_pieces (from_number gives.next os) + size_of_pieces left)) + sized (size_of_messages gives.messages)));
    }
