use Rattle.std.proofs.Common.{◌<◌, length, map, arith, if◌then◌else◌}
use Rattle.std.proofs.lemmas.List.{length-map}
use Rattle.sctp_recv.specs.Fields.{stream_of}
use Rattle.sctp_recv.proofs.ShownLemmas.{shown_put, shown_past}
use Rattle.sctp_recv.proofs.ready.show_as.Goals as goal

pub returns-then-at-len : goal.returns-then-at-len
returns-then-at-len g c = λ old h long but shown.
    let items = c.args.streams.now.items in
    let n = length-map items stream_of in
    shown_past c.args.ready.now.words.items old (map stream_of items) c.args.stream h (omega (arith, n, long)) but
    (omega (arith, n, c.from-at.ensures, c.len.ensures, c.if-at-len.true, c.args.streams.now.ok))

pub returns : goal.returns
returns g c = λ old h long but shown.
    let items = c.args.streams.now.items in
    let n = length-map items stream_of in
    let within : c.from-at.result < length items = omega (arith, c.len.ensures, c.if-at-len.false, c.args.streams.now.ok) in
    shown_put c.args.ready.now.words.items c.mark.new.self.words.items old (map stream_of items) c.args.stream (if c.args.waits then 1 else 0) h (omega (arith, n, long)) but (omega (arith, n, within, c.from-at.ensures))
    c.mark.ensures.size c.mark.ensures.here shown c.mark.ensures.others
