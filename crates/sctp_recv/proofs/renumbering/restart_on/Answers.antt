use Rattle.std.proofs.Common.{◌≡◌, ℕ, ◌<◌, length, map, set, sym, ◌∙◌, ap, subst, arith}
use Rattle.std.proofs.lemmas.List.{length-map, get_or_read}
use Rattle.sctp_recv.specs.Fields.{stream_of}
use Rattle.sctp_recv.specs.ReceiverKept.{stream_at}
use Rattle.sctp_recv.specs.Resets.{UNRESET, restart_at, resets_of, AreAll}
use Rattle.sctp_recv.specs.inner.Bits.{bit_in}
use Rattle.sctp_recv.specs.inner.Restarting.{restart_from, restart_by, told_by, AreRestarted}
use Rattle.sctp_recv.specs.inner.Requesting.{is_same}
use Rattle.sctp_recv.proofs.StreamLemmas.{stream_mapped}
use Rattle.sctp_recv.proofs.RestartLemmas.{restarted_one}
use Rattle.sctp_recv.proofs.renumbering.restart_on.Goals as goal

pub returns-then-at-len-2-clause-restarts : goal.returns-then-at-len-2-clause-restarts
returns-then-at-len-2-clause-restarts g c = λ all low.
    let again = c.args.again in
    let items = c.args.streams.now.items in
    let ss = map stream_of items in
    let n = length-map items stream_of in
    let old = resets_of c.args.resets.now in
    let at = c.from-at.result in
    let new = c.renumbered.result in
    let words = c.report.new.told.words.items in
    let is : at ≡ c.args.stream = c.from-at.ensures in
    let inside : at < length items = omega (arith, is, low) in
    let anew : c.restart.result ≡ restart_from (stream_at ss at) = c.restart.ensures ∙ ap restart_from (sym (stream_mapped items at c.index-then-at-len-2.result.now inside c.index-then-at-len-2.ensures)) in
    let bits = all.bits in
    let streams = all.streams in
    let was : c.index.result.now ≡ restart_at old.streams at = get_or_read old.streams at c.index.result.now (omega (arith, inside, streams)) c.index.ensures UNRESET in
    let here : new ≡ restart_by again (restart_from (stream_at ss at)) (restart_at old.streams at) = c.renumbered.ensures ∙ (λ i. restart_by again (anew i) (was i)) in
    let bit : bit_in words at ≡ told_by again (bit_in old.told at) = ap (bit_in words) is ∙ c.report.ensures.here (omega (arith, bits, low)) ∙ ap (λ (q : ℕ). told_by again (bit_in old.told q)) (sym is) in
    let one = restarted_one again ss old at new words (subst (λ (m : ℕ). AreAll m old) (sym n) all) (omega (arith, inside, n)) here bit (λ q other. c.report.ensures.others q (λ e. other (e ∙ sym is))) c.report.ensures.size in
    subst (λ (q : ℕ). AreRestarted again ss (is_same q) old (record old { streams = set old.streams at new; told = words })) is one
