use Rattle.std.proofs.Common.{◌≡◌, ℕ, List, Some, None, sym, ap, ◌∙◌, subst, refl}
use Rattle.std.specs.Prelude.{slice_get}
use Rattle.sctp_model.specs.receiver.ReceiverView.{Handed}
use Rattle.sctp_model.specs.end.EndView.{EndView}
use Rattle.sctp_recv.specs.HandedOf.{message_bytes, handed_of}
use Rattle.sctp_channels.specs.declared.stream.State.{State}
use Rattle.sctp_channels.specs.Streams.{Table, stream_at}
use Rattle.sctp_channels.specs.Told.{Message}
use Rattle.sctp_channels.specs.Events.{Reported, reports_message}
use Rattle.sctp_channels.specs.Writing.{Copies}
use Rattle.sctp_channels.specs.ChannelsStand.{ChannelsStand, endpoint_of, table_of}
use Rattle.sctp_channels.specs.inner.SaidMeans.{kind_meaning, content_told}
use Rattle.sctp_channels.proofs.HearingLemmas.{first_waits}
use Rattle.sctp_channels.proofs.UpcomingLemmas.{tells_apart, content_report, fits_not, took_first, kept_unless, kept_bytes}
use Rattle.sctp_channels.proofs.channels.Channels.write_first.Goals as goal

pub returns-in_default-content_told-clause-did : goal.returns-in_default-content_told-clause-did
unfolding ChannelsStand endpoint_of table_of
returns-in_default-content_told-clause-did c = λ v x stands kept left.
    let s = c.args.stream in
    let m = c.in-Some.message.now in
    let first = first_waits (v.receiver.waiting s) (handed_of m) (c.in-Some.ensures v stands.0) in
    let none = subst (λ (t : State). None ≡ content_told t m.payload_id (message_bytes m)) kept (c.in_default-content_told.ensures (message_bytes m)) in
    (λ i k is. absurd (tells_apart v x s (handed_of m) first.0 (stream_at x s) first.1 refl none i k is), stands, refl)

pub returns-in_default-copy_content-clause-did : goal.returns-in_default-copy_content-clause-did
unfolding ChannelsStand endpoint_of table_of
returns-in_default-copy_content-clause-did c = λ v x stands kept left.
    let s = c.args.stream in
    let m = c.in-Some.message.now in
    let k = kind_meaning (message_bytes m) c.in-Some-content_told.kind in
    let first = first_waits (v.receiver.waiting s) (handed_of m) (c.in-Some.ensures v stands.0) in
    let told = subst (λ (t : State). Some k ≡ content_told t m.payload_id (message_bytes m)) kept (c.in-Some-content_told.ensures (message_bytes m)) in
    let report = content_report v x s (handed_of m) first.0 (stream_at x s) k first.1 refl told in
    let few = c.in_default-copy_content.ensures in
    (fits_not _ s (handed_of m) first.0 (stream_at x s) k v x _ report few.0, stands, few.1)

pub returns-clause-did : goal.returns-clause-did
unfolding ChannelsStand endpoint_of table_of
returns-clause-did c = λ v x stands kept left.
    let s = c.args.stream in
    let m = c.in-Some.message.now in
    let h = handed_of m in
    let k = c.in-Some-content_told.kind in
    let first = first_waits (v.receiver.waiting s) h (c.in-Some.ensures v stands.0) in
    let rest = first.0 in
    let told = subst (λ (t : State). Some (kind_meaning (message_bytes m) k) ≡ content_told t m.payload_id (message_bytes m)) kept (c.in-Some-content_told.ensures (message_bytes m)) in
    let report = content_report v x s h rest (stream_at x s) (kind_meaning (message_bytes m) k) first.1 refl told in
    let step = c.drop_first.ensures.step v x h stands (ap (λ (hs : List Handed). slice_get hs 0) first.1) in
    let gone = took_first v step.0 s h rest step.1 first.1 in
    let put = c.count_taken.ensures.step step.0 x step.2 left in
    let copied = c.in-Some-copy_content.ensures in (
      kept_unless k.empty m,
      record {
        report = ap (λ (bytes : List ℕ). Some (record { stream = s; told = Message (record { text = k.text; bytes = bytes }) })) (kept_bytes k.empty m (message_bytes m) refl)
            ∙ sym (ap (λ (r : Reported). r.report) report);
        stands = subst (λ (t : EndView). ChannelsStand c.count_taken.new.self t (reports_message s (v.receiver.waiting s) v x).table) (gone ∙ sym (ap (λ (r : Reported). r.view) report))
            (subst (λ (t : Table). ChannelsStand c.count_taken.new.self step.0 t) (sym (ap (λ (r : Reported). r.table) report)) put);
      },
      subst (λ (bytes : List ℕ). Copies bytes c.in-Some-copy_content.length c.args.buffer.now c.copy_content.new.buffer) (sym (kept_bytes k.empty m (message_bytes m) refl))
          (record { counted = copied.0; fits = copied.1; put = copied.2 }),
    )
