use Rattle.std.proofs.Common.{ℕ, ◌<◌, arith}
use Rattle.std.specs.Prelude.{slice_index}
use Rattle.sctp_packet.proofs.EightLemmas.{eight_alone}
use Rattle.sctp_packet.proofs.checksum.left_alone.Goals as goal

pub returns : goal.returns
returns c =
    let bytes = c.args.bytes.now in
    let ranged : (k : ℕ) → slice_index bytes k < 256 = λ k. omega (arith, c.type_inv.bytes k) in
    rw (
      c.entry.ensures.steps,
      c.entry-2.ensures.steps,
      c.entry-3.ensures.steps,
      c.entry-4.ensures.steps,
      c.entry-5.ensures.steps,
      c.entry-6.ensures.steps,
      c.entry-7.ensures.steps,
      c.entry-8.ensures.steps,
      c.from.ensures,
      c.from-2.ensures,
      c.from-3.ensures,
      c.from-4.ensures,
      c.from-5.ensures,
      c.from-6.ensures,
      c.from-7.ensures,
      c.from-8.ensures,
    )
    (eight_alone bytes ranged)
