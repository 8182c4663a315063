-- An INIT has room in an empty packet, whatever the limit of the endpoint.
use Rattle.std.proofs.Common.{◌≡◌, ◌∙◌, ℕ, nat_le, ◌≤◌, Bool, true, false, List, [], ◌∷◌, ◌++◌, ap, arith}
use Rattle.std.proofs.lemmas.Bool.Decides.{nat_tests}
use Rattle.sctp_model.specs.numbers.Numbers.{u16_bytes}
use Rattle.sctp_model.specs.wire.Chunk.{ChunkMeaning}
use Rattle.sctp_model.specs.wire.Packet.{size_of_packet}
use Rattle.sctp_model.specs.end.EndView.{Configuration, Draw}
use Rattle.sctp_model.specs.end.Opening.{own_init}
use Rattle.sctp_packet.specs.Draft.{Draft, has_room}

small : (n l : ℕ) → n ≤ 576 → 576 ≤ l → nat_le n l ≡ true
small n l few some = grind (arith, nat_tests)

init_small : (c : Configuration) (d : Draw) (partial interleave reset zero : Bool)
    → size_of_packet (own_init (record c { partial = partial; interleave = interleave; reset = reset; zero_checksum = zero }) d ∷ []) ≤ 576
unfolding u16_bytes
init_small c d true true true true = omega arith
init_small c d true true true false = omega arith
init_small c d true true false true = omega arith
init_small c d true true false false = omega arith
init_small c d true false true true = omega arith
init_small c d true false true false = omega arith
init_small c d true false false true = omega arith
init_small c d true false false false = omega arith
init_small c d false true true true = omega arith
init_small c d false true true false = omega arith
init_small c d false true false true = omega arith
init_small c d false true false false = omega arith
init_small c d false false true true = omega arith
init_small c d false false true false = omega arith
init_small c d false false false true = omega arith
init_small c d false false false false = omega arith

-- the INIT of a configuration has room in an empty packet
pub init_fits : (c : Configuration) (d : Draw) (w : Draft) → w.chunks ≡ [] → w.limit ≡ c.limit → 576 ≤ c.limit → has_room w (own_init c d) ≡ true
init_fits c d w none limit some =
    ap (λ (xs : List ChunkMeaning). nat_le (size_of_packet (xs ++ own_init c d ∷ [])) w.limit) none
    ∙ ap (λ (l : ℕ). nat_le (size_of_packet (own_init c d ∷ [])) l) limit
    ∙ small (size_of_packet (own_init c d ∷ [])) c.limit (init_small c d c.partial c.interleave c.reset c.zero_checksum) some
