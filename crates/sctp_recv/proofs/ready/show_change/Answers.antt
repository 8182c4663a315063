use Rattle.std.proofs.Common.{◌≡◌, Bool, true, false, map, refl, sym, ◌∙◌, ap, if◌then◌else◌, arith}
use Rattle.std.proofs.Math.Bool.{beq}
use Rattle.std.specs.Prelude.{not}
use Rattle.std.proofs.lemmas.List.{length-map}
use Rattle.sctp_recv.specs.Fields.{stream_of}
use Rattle.sctp_recv.proofs.ShownLemmas.{shown_still}
use Rattle.sctp_recv.proofs.ready.show_change.Goals as goal

same_bools : (a b : Bool) → not (beq a b) ≡ false → a ≡ b
same_bools true true e = refl
same_bools true false e = absurd (let no : true ≡ false = e in cc)
same_bools false true e = absurd (let no : true ≡ false = e in cc)
same_bools false false e = refl

pub returns-else-waited-waits : goal.returns-else-waited-waits
returns-else-waited-waits g c = λ old h long but waited waits.
    let items = c.args.streams.now.items in
    let n = length-map items stream_of in
    let same : c.args.waits ≡ c.args.waited = sym (same_bools c.args.waited c.args.waits c.if-waited-waits.false) in
    shown_still c.args.ready.now.words.items old (map stream_of items) c.args.stream (if c.args.waited then 1 else 0) h (omega (arith, n, long)) but waited
    (waits ∙ ap (λ (b : Bool). if b then 1 else 0) same)

pub returns-then-waited-waits : goal.returns-then-waited-waits
returns-then-waited-waits g c = λ old h long but waited waits. c.show_as.ensures old h long but waits
