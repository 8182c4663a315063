-- Each number of the tables is the remainder that long division leaves: the tables are computed once, and the rule follows from how they are made.
use Rattle.std.proofs.Common.{◌≡◌, ℕ, zero, suc, ◌+◌, ◌*◌, ◌<◌, List, map, length, get_or, refl, sym, ap, ◌∙◌, arith}
use Rattle.std.specs.List.{range_with_len}
use Rattle.std.proofs.lemmas.List.{get_or-map, length-map}
use Rattle.std.proofs.lemmas.List.FromFn.{get_or-range_with_len, length-range_with_len}
use Rattle.sctp_packet.specs.declared.tables.TheConstants.{TABLES}
use Rattle.sctp_packet.specs.Tables.{step, steps, rows_from}
use Rattle.sctp_packet.proofs.StepLemmas.{steps_then}

-- all 4,096 numbers, computed
tables_are : TABLES ≡ rows_from 16 (range_with_len 0 256)
unfolding step steps rows_from
tables_are = refl

-- a row is the first one after so many zero bits
row_at : (n k b : ℕ) (row : List ℕ) (d : List ℕ) → k < n → b < length row → get_or (get_or (rows_from n row) k d) b 0 ≡ steps (8 * k + 8) (get_or row b 0)
unfolding rows_from
row_at zero k b row d few within = absurd (omega arith)
row_at (suc n) zero b row d few within = get_or-map (steps 8) row b 0 0 within
row_at (suc n) (suc k) b row d few within =
    let count : 8 + (8 * k + 8) ≡ 8 * suc k + 8 = omega arith in
    row_at n k b (map (steps 8) row) d (omega arith) (omega (arith, length-map row (steps 8)))
    ∙ (ap (steps (8 * k + 8)) (get_or-map (steps 8) row b 0 0 within)
    ∙ (sym (steps_then 8 (8 * k + 8) (get_or row b 0)) ∙ ap (λ (i : ℕ). steps i (get_or row b 0)) count))

pub entry_is : (place byte : ℕ) (d : List ℕ) → place < 16 → byte < 256 → get_or (get_or TABLES place d) byte 0 ≡ steps (8 * place + 8) byte
entry_is place byte d few small =
    let same : 0 + byte ≡ byte = omega arith in
    ap (λ (t : List (List ℕ)). get_or (get_or t place d) byte 0) tables_are
    ∙ (row_at 16 place byte (range_with_len 0 256) d few (omega (arith, length-range_with_len 0 256))
    ∙ ap (steps (8 * place + 8)) (get_or-range_with_len 0 256 byte 0 small ∙ same))
