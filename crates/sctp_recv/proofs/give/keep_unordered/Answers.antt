use Rattle.std.proofs.Common.{◌≡◌, ◌∷◌, [], ◌++◌, List, length, map, inl, inr, refl, sym, ◌∙◌, ap}
use Rattle.sctp_model.specs.messages.Format.{unordered_lane}
use Rattle.sctp_model.specs.receiver.ReceiverView.{Handed}
use Rattle.sctp_model.specs.receiver.Receiving.{message_of}
use Rattle.sctp_model.specs.messages.Whole.{text_of}
use Rattle.sctp_model.proofs.receiver.RowFacts.{row_same}
use Rattle.sctp_wire.specs.ChunkTree.{piece_meaning}
use Rattle.sctp_chains.specs.Cells.{counted}
use Rattle.sctp_recv.specs.Fields.{inbound_of}
use Rattle.sctp_recv.specs.HandedOf.{handed_of}
use Rattle.sctp_recv.specs.inner.Giving.{sized}
use Rattle.sctp_recv.proofs.ResultLemmas.{if_err}
use Rattle.sctp_recv.proofs.give.keep_unordered.Goals as goal

pub returns-in-Some-clause-given : goal.returns-in-Some-clause-given
returns-in-Some-clause-given g c = λ kept stands new kind small.
    let f = g.F.Framing.format in
    let l = unordered_lane c.args.piece.now.stream in
    let x = counted c.args.index (piece_meaning c.args.piece.now) c.args.number in
    let start = c.args.inbound.now in
    let added = c.in_ok-add.ensures.kept l kept stands new in
    let t = c.in-Some.ensures.taken l (x ∷ kept) added (inl refl) in
    let lane = sym (row_same f t.head t.rest x t.whole.0.1 t.whole.2).0 ∙ kind in
    let made : handed_of c.message_of.result ≡ message_of f t.head t.rest = c.message_of.ensures f t.head t.rest t.made lane in
    let waits = c.wait_reserved.ensures.waits ∙ ap (λ (hs : List Handed). hs ++ handed_of c.message_of.result ∷ []) c.make_one.ensures.same
    ∙ ap (λ (h : Handed). map handed_of start.waiting.items ++ h ∷ []) made in
    let bytes : c.wait_reserved.result ≡ sized (length (text_of (t.head ∷ t.rest))) = c.wait_reserved.ensures.bytes ∙ ap (λ (h : Handed). sized (length h.bytes)) made in
    record {
      gives = inl (record { head = t.head; rest = t.rest; whole = t.whole; left = t.left; stream = λ i. record (inbound_of start) { past = c.past_after-inbound.ensures small i; waiting = waits i }; bytes = bytes });
      others = λ m ks is. is;
    }

pub returns-in-None-clause-given : goal.returns-in-None-clause-given
returns-in-None-clause-given g c = λ kept stands new kind small.
    let l = unordered_lane c.args.piece.now.stream in
    let x = counted c.args.index (piece_meaning c.args.piece.now) c.args.number in
    let added = c.in_ok-add.ensures.kept l kept stands new in
    let t = c.in-None.ensures.taken l (x ∷ kept) added (inl refl) in
    record {
      gives = inr (record { none = t.0; left = t.1; stream = λ i. record (inbound_of c.args.inbound.now) { past = c.past_after-inbound.ensures small i; waiting = c.make_one.ensures.same i }; bytes = refl });
      others = λ m ks is. is;
    }

pub returns-in_err-make_one-clause-refused : goal.returns-in_err-make_one-clause-refused
returns-in_err-make_one-clause-refused g c = if_err c.from_residual.result (
  (λ i. record (inbound_of c.args.inbound.now) { waiting = c.make_one.ensures.same i }),
  ((λ l kept stands. stands), (λ l kept stands. stands)),
)

pub returns-in_err-add-clause-refused : goal.returns-in_err-add-clause-refused
returns-in_err-add-clause-refused g c = if_err c.from_residual-in_err-add.result (
  (λ i. record (inbound_of c.args.inbound.now) { waiting = c.make_one.ensures.same i }),
  ((λ l kept stands. stands), (λ l kept stands. c.in_err-add.ensures.refused l kept stands)),
)
