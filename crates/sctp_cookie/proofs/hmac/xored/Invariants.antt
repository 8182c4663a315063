use Rattle.std.proofs.Common.{◌≡◌, ◌++◌, bit_xor, map, take, drop}
use Rattle.sctp_cookie.proofs.hmac.xored.Given as goal

-- the bytes up to the index are xored, the rest stands as it was
abbrev pub invariant-loop-byte : goal.invariant-loop-byte
invariant-loop-byte l =
    l.byte-items ≡ map (λ byte. bit_xor byte l.pad) (take l.byte-index l.block) ++ drop l.byte-index l.block
