-- `Sender::fill` fills in exactly what the specification's function `fill` computes: chunks, view and tickets.
use Rattle.std.proofs.Common.{◌≡◌, ◌∙◌, List, map, Result, Ok, Err, IfOk, OnOk, ap, subst}
use Rattle.sctp_model.specs.messages.Format.{Format}
use Rattle.sctp_model.specs.sender.SenderView.{SenderView}
use Rattle.sctp_model.specs.sender.Filling.{Wish, fill, newly_numbered, chunk_of}
use Rattle.sctp_model.proofs.sender.FillLaws.{one_fill, fill_is_fill}
use Rattle.sctp_packet.specs.Draft.{Draft, room_in, with_chunks}
use Rattle.sctp_send.specs.SenderKept.{Kept}
use Rattle.sctp_send.specs.SenderStands.{StandsFor}
use Rattle.sctp_send.specs.FillAnswers.{FillAnswer}
use Rattle.sctp_send.specs.declared.fill.Filled.{Filled}

pub chunks_ok : {E : Type 0} (r : Result Filled E) (f : Format) (v : SenderView) (before after : Draft) (s : Kept) → IfOk r (λ filled. FillAnswer f v before after s filled)
    → OnOk r (after ≡ with_chunks before (map (chunk_of f) (fill f (room_in before) v).wishes))
chunks_ok (Ok filled) f v before after s x =
    let one = one_fill f v x.view (fill f (room_in before) v).view (room_in before) x.wishes (fill f (room_in before) v).wishes x.fill (fill_is_fill f (room_in before) v) in
    x.chunks ∙ ap (λ (ws : List Wish). with_chunks before (map (chunk_of f) ws)) one.0
chunks_ok (Err failed) f v before after s x = x

pub view_ok : {E : Type 0} (r : Result Filled E) (f : Format) (v : SenderView) (before after : Draft) (s : Kept) → IfOk r (λ filled. FillAnswer f v before after s filled)
    → OnOk r (StandsFor f s (fill f (room_in before) v).view)
view_ok (Ok filled) f v before after s x =
    let one = one_fill f v x.view (fill f (room_in before) v).view (room_in before) x.wishes (fill f (room_in before) v).wishes x.fill (fill_is_fill f (room_in before) v) in
    subst (StandsFor f s) one.1 x.stands
view_ok (Err failed) f v before after s x = x

pub tickets_ok : {E : Type 0} (r : Result Filled E) (f : Format) (v : SenderView) (before after : Draft) (s : Kept) → IfOk r (λ filled. FillAnswer f v before after s filled)
    → IfOk r (λ filled. map (λ t. t.0) filled.tickets.items ≡ newly_numbered v (fill f (room_in before) v).view)
tickets_ok (Ok filled) f v before after s x =
    let one = one_fill f v x.view (fill f (room_in before) v).view (room_in before) x.wishes (fill f (room_in before) v).wishes x.fill (fill_is_fill f (room_in before) v) in
    x.tickets ∙ ap (newly_numbered v) one.1
tickets_ok (Err failed) f v before after s x = x
