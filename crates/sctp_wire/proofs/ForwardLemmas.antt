-- The values of FORWARD-TSN and I-FORWARD-TSN are read in one way.
use Rattle.std.proofs.Common.{◌≡◌, ℕ, ◌+◌, ◌-◌, ◌*◌, ◌%◌, ◌≤◌, true, List, length, drop, refl, sym, ap, ◌∙◌, arith, length-append, length-drop}
use Rattle.std.specs.List.{flat_map}
use Rattle.std.proofs.lemmas.Grind.{common_steps}
use Rattle.sctp_model.specs.wire.Chunk.{ForwardMeaning}
use Rattle.sctp_model.specs.numbers.Numbers.{u32_bytes, AreBytes}
use Rattle.sctp_wire.specs.declared.skips.SkipForm.{SkipForm}
use Rattle.sctp_wire.specs.declared.skips.SkipForm.TheVariants.{Narrow, Wide}
use Rattle.sctp_wire.specs.Skips.{skip_size, skip_bytes}
use Rattle.sctp_wire.specs.chunks.Forward.{forward_value, ReadsForward, is_forward_value, IsForward, forward_at}
use Rattle.sctp_wire.proofs.NumberLemmas.{u32_at-bytes, length-u32, drop-u32, bytes-u32_at, u32_at-lt, AreBytes-drop}
use Rattle.sctp_wire.proofs.SkipLemmas.{skips_in-reads, reads-skips_in, all-skips_in, reads-skip_bytes, length-reads_skips}

-- what the test of the length says
pub record HasEntries (form : SkipForm) (value : List ℕ) : Type 0 where
  pub long : 4 ≤ length value
  pub whole : (length value - 4) % skip_size form ≡ 0

pub has_entries : (form : SkipForm) (value : List ℕ) → is_forward_value form value ≡ true → HasEntries form value
has_entries form value h = record { long = grind (arith, common_steps); whole = grind (arith, common_steps) }

-- what is written reads
pub reads_forward_value : (form : SkipForm) (f : ForwardMeaning) → ReadsForward form (forward_value form f) f
reads_forward_value form f = (flat_map (skip_bytes form) f.skips, (refl, reads-skip_bytes form f.skips))

pub length-reads_forward : (form : SkipForm) (f : ForwardMeaning) (value : List ℕ) → ReadsForward form value f → length value ≡ 4 + skip_size form * length f.skips
length-reads_forward form f value (rest, (e, reads)) =
    omega (arith, ap length e, length-append (u32_bytes f.cumulative) rest, length-u32 f.cumulative, length-reads_skips form f.skips rest reads)

multiple : (form : SkipForm) (n : ℕ) → (4 + skip_size form * n - 4) % skip_size form ≡ 0
multiple Narrow n = omega arith
multiple Wide n = omega arith

pub is_forward_value-reads : (form : SkipForm) (f : ForwardMeaning) (value : List ℕ) → ReadsForward form value f → is_forward_value form value ≡ true
is_forward_value-reads form f value reads =
    let long : length value ≡ 4 + skip_size form * length f.skips = length-reads_forward form f value reads in
    let whole : (length value - 4) % skip_size form ≡ 0 = ap (λ (n : ℕ). (n - 4) % skip_size form) long ∙ multiple form (length f.skips) in
    let four : 4 ≤ length value = omega arith in
    grind (arith, common_steps)

pub forward_at-reads : (form : SkipForm) (f : ForwardMeaning) (value : List ℕ) → ReadsForward form value f → IsForward form f → forward_at form value ≡ f
unfolding forward_at
forward_at-reads form f value (rest, (e, reads)) fits =
    rw (e, u32_at-bytes f.cumulative rest fits.cumulative, drop-u32 f.cumulative rest, skips_in-reads form f.skips rest fits.skips reads) refl

pub reads-forward_at : (form : SkipForm) (value : List ℕ) → AreBytes value → HasEntries form value → ReadsForward form value (forward_at form value)
unfolding forward_at
reads-forward_at form value bytes has =
    let rest = drop 4 value in
    let behind : AreBytes rest = AreBytes-drop 4 value bytes in
    let whole : length rest % skip_size form ≡ 0 = ap (λ (n : ℕ). n % skip_size form) (length-drop 4 value) ∙ has.whole in
    (rest, (sym (bytes-u32_at value bytes has.long), reads-skips_in form (length rest) rest (omega arith) behind whole))

pub IsForward-forward_at : (form : SkipForm) (value : List ℕ) → AreBytes value → IsForward form (forward_at form value)
unfolding forward_at
IsForward-forward_at form value bytes =
    record { cumulative = u32_at-lt value bytes; skips = all-skips_in form (drop 4 value) (AreBytes-drop 4 value bytes) }
