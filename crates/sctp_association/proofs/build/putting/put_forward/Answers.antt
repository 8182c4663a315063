use Rattle.std.proofs.Common.{◌≡◌, ◌∙◌, Bool, true, false, ◌&&◌, ap, sym}
use Rattle.sctp_model.specs.sender.SentChunks.{forward_chunk_of}
use Rattle.sctp_model.specs.end.EndView.{Configuration, DataAlarm, format_of}
use Rattle.sctp_model.specs.end.Clock.{is_point_past}
use Rattle.sctp_model.specs.end.Building.{ForwardSlot, PassOn}
use Rattle.sctp_packet.specs.Draft.{has_room}
use Rattle.sctp_association.proofs.PutLemmas.{not_due, stays_out, goes_in, started_left}
use Rattle.sctp_association.proofs.build.putting.put_forward.Goals as goal

pub returns-then-not-packing : goal.returns-then-not-packing
returns-then-not-packing c = λ e configured stands packet.
    not_due ForwardSlot e c.args.packing.now (ap (λ (b : Bool). b && is_point_past e.sender) c.if-not-packing.true) packet

pub returns-then-not-is_point_past : goal.returns-then-not-is_point_past
returns-then-not-is_point_past c = λ e configured stands packet.
    let past : is_point_past e.sender ≡ false = sym (c.is_point_past.ensures (format_of e) e.sender e.receiver stands) ∙ c.if-not-is_point_past.true in
    not_due ForwardSlot e c.args.packing.now (ap (λ (b : Bool). b && is_point_past e.sender) c.if-not-packing.false ∙ past) packet

pub returns-then-not-branch : goal.returns-then-not-branch
returns-then-not-branch c = λ e configured stands packet.
    let old = c.args.packing.now in
    let past : is_point_past e.sender ≡ true = sym (c.is_point_past.ensures (format_of e) e.sender e.receiver stands) ∙ c.if-not-is_point_past.false in
    let same : c.limit.result ≡ e.configuration.limit = c.limit.ensures.exact ∙ ap (λ (k : Configuration). k.limit) configured in
    let x = forward_chunk_of (format_of e) e.configuration.limit e.sender in
    stays_out ForwardSlot e old _ x _ (ap (λ (b : Bool). b && is_point_past e.sender) c.if-not-packing.false ∙ past)
    PassOn packet c.if-not-branch.true
    (rw same at (c.in_ok-put_forward.ensures.answer (format_of e) e.sender e.receiver stands) ∙ ap (λ (b : Bool). b && has_room old.writer x) past)
    (rw same at (c.in_ok-put_forward.ensures.after (format_of e) e.sender e.receiver stands))

pub returns : goal.returns
returns c = λ e configured stands packet.
    let old = c.args.packing.now in
    let m = old.marks in
    let past : is_point_past e.sender ≡ true = sym (c.is_point_past.ensures (format_of e) e.sender e.receiver stands) ∙ c.if-not-is_point_past.false in
    let same : c.limit.result ≡ e.configuration.limit = c.limit.ensures.exact ∙ ap (λ (k : Configuration). k.limit) configured in
    let x = forward_chunk_of (format_of e) e.configuration.limit e.sender in
    goes_in ForwardSlot e old (record m { forward = false; starts = c.add.new.self }) _ x _ (ap (λ (b : Bool). b && is_point_past e.sender) c.if-not-packing.false ∙ past)
    PassOn (started_left DataAlarm (record m { forward = false }) e c.add.new.self c.add.ensures)
    (λ still. still) packet c.if-not-branch.false
    (rw same at (c.in_ok-put_forward.ensures.answer (format_of e) e.sender e.receiver stands) ∙ ap (λ (b : Bool). b && has_room old.writer x) past)
    (rw same at (c.in_ok-put_forward.ensures.after (format_of e) e.sender e.receiver stands))
