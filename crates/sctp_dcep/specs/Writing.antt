-- What `write_open` returns.
use Rattle.std.specs.Prelude.{◌≡◌, ℕ, ◌<◌, ◌≤◌, ◌^◌, ◌⊎◌, length, Result, Ok, Err}
use Rattle.std.specs.declared.vec.Vec.{Vec}
use Rattle.std.specs.declared.alloc.Global.{Global}
use Rattle.sctp_dcep.specs.Dcep.{Parameters, opening}
use Rattle.sctp_dcep.specs.declared.write.OpenFault.{OpenFault}
use Rattle.sctp_dcep.specs.declared.write.OpenFault.TheVariants.{TooLong, NoMemory}

-- the lengths of both texts fit their fields of 16 bits (RFC 8832, 5.1)
abbrev pub FitsFields : Parameters → Type 0
FitsFields p = (length p.label < 2 ^ 16) × (length p.protocol < 2 ^ 16)

-- The OPEN of these parameters; or a text is too long for its field. An allocation failure is reported only of parameters that fit.
abbrev pub OpenAnswers : Parameters → Result (Vec ℕ Global) OpenFault → Type 0
OpenAnswers p (Ok bytes) = FitsFields p × (bytes.items ≡ opening p)
OpenAnswers p (Err TooLong) = (2 ^ 16 ≤ length p.label) ⊎ (2 ^ 16 ≤ length p.protocol)
OpenAnswers p (Err NoMemory) = FitsFields p

-- a length as a field of 16 bits
abbrev pub TextAnswers : (length : ℕ) → Result ℕ OpenFault → Type 0
TextAnswers n (Ok field) = (n < 2 ^ 16) × (field ≡ n)
TextAnswers n (Err TooLong) = 2 ^ 16 ≤ n
TextAnswers n (Err NoMemory) = ⊥
