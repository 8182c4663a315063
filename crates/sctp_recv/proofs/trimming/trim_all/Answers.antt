use Rattle.std.proofs.Common.{◌<◌, length, refl, ◌∙◌, arith}
use Rattle.std.proofs.lemmas.List.{length-set}
use Rattle.std.proofs.lemmas.Option.{slice_get_read}
use Rattle.sctp_recv.proofs.StreamLemmas.{set_unchanged}
use Rattle.sctp_recv.proofs.FiledLemmas.{filed_same}
use Rattle.sctp_recv.proofs.trimming.trim_all.Goals as goal

pub loop-at-init : goal.loop-at-init
loop-at-init g c = record { same = refl; size = refl; filed = λ kept was. was }

pub loop-at-preserved : goal.loop-at-preserved
loop-at-preserved g c =
    let items = c.loop-at.streams.items in
    let inv = c.loop-at.invariant in
    let k = c.loop-at.at in
    let x = c.index_mut.result.now in
    let y = c.trim_stream.new.stream in
    let low : k < length items = omega (arith, c.loop-at-test.true, inv.size) in
    let got = slice_get_read items (length items) k x refl low c.index_mut.ensures.value in
    record {
      same = set_unchanged items k y x low c.index_mut.ensures.value c.trim_stream.ensures.same ∙ inv.same;
      size = length-set items k y ∙ inv.size;
      filed = λ kept was. filed_same g.F.Framing.format kept items k x y (inv.filed kept was) low got c.trim_stream.ensures.chunks;
    }

pub returns-clause-same : goal.returns-clause-same
returns-clause-same g c = c.loop-at.invariant.same

pub returns-clause-filed : goal.returns-clause-filed
returns-clause-filed g c = c.loop-at.invariant.filed
