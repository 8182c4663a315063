use Rattle.std.proofs.Common.{refl, None}
use Rattle.sctp_end.specs.Performing.{Sends}
use Rattle.sctp_end.proofs.SessionLemmas.{same_message, accepted, refused}
use Rattle.sctp_end.proofs.session.Session.send.Goals as goal

pub returns-in-Ok : goal.returns-in-Ok
returns-in-Ok c = λ v stands.
    let same = same_message c.args.stream c.args.kind c.args.payload_id c.args.until None c.args.bytes _ _ c.flag-ordered.ensures c.into_vec.ensures in
    accepted _ _ _ _ _ _ (Sends _ _ _ _ _) same (c.in-Ok.ensures.answer v stands) (c.in-Ok.ensures.step v stands) c.in-Ok.ensures.counts

pub returns-in-Err : goal.returns-in-Err
returns-in-Err c = λ v stands.
    let same = same_message c.args.stream c.args.kind c.args.payload_id c.args.until None c.args.bytes _ _ c.flag-ordered.ensures c.into_vec.ensures in
    refused _ _ _ _ _ _ (Sends _ _ _ _ _) refl same (c.send_refused.ensures v _ (c.in-Err.ensures.answer v stands)) (c.in-Err.ensures.step v stands) c.in-Err.ensures.counts
