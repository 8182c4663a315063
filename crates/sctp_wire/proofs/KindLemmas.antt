-- Which type a number is: one of those that have a case of their own, or another one.
use Rattle.std.proofs.Common.{◌≡◌, ℕ, ◌≤◌, Bool, true, false, refl, ap, arith, ⊎_elim, ◌≢◌}
use Rattle.std.specs.Prelude.{◌==◌, nat_le}
use Rattle.std.proofs.lemmas.Bool.Decides.{eqb_tells}
use Rattle.std.proofs.lemmas.Grind.{common_steps}
use Rattle.sctp_wire.specs.chunks.Other.{is_known}

-- the types, one by one
pub data IsType (kind : ℕ) : Type 0 where
  is_data : kind ≡ 0 → IsType kind
  is_init : kind ≡ 1 → IsType kind
  is_init_ack : kind ≡ 2 → IsType kind
  is_sack : kind ≡ 3 → IsType kind
  is_heartbeat : kind ≡ 4 → IsType kind
  is_heartbeat_ack : kind ≡ 5 → IsType kind
  is_abort : kind ≡ 6 → IsType kind
  is_shutdown : kind ≡ 7 → IsType kind
  is_shutdown_ack : kind ≡ 8 → IsType kind
  is_error : kind ≡ 9 → IsType kind
  is_cookie_echo : kind ≡ 10 → IsType kind
  is_cookie_ack : kind ≡ 11 → IsType kind
  is_shutdown_complete : kind ≡ 14 → IsType kind
  is_i_data : kind ≡ 64 → IsType kind
  is_forward_tsn : kind ≡ 192 → IsType kind
  is_i_forward_tsn : kind ≡ 194 → IsType kind
  is_other : is_known kind ≡ false → IsType kind

-- a number is above 11 where it is none of these
above : (kind : ℕ) → (kind ≢ 0) → (kind ≢ 1) → (kind ≢ 2) → (kind ≢ 3) → (kind ≢ 4) → (kind ≢ 5) → (kind ≢ 6) → (kind ≢ 7) → (kind ≢ 8) → (kind ≢ 9) → (kind ≢ 10) → (kind ≢ 11) → nat_le kind 11 ≡ false
above kind n0 n1 n2 n3 n4 n5 n6 n7 n8 n9 n10 n11 = let high : 12 ≤ kind = omega arith in grind (arith, common_steps)

other_type : (kind : ℕ) → nat_le kind 11 ≡ false → (kind == 14) ≡ false → (kind == 64) ≡ false → (kind == 192) ≡ false → (kind == 194) ≡ false → is_known kind ≡ false
other_type kind a b c d e = rw (a, b, c, d, e) refl

pub type_of : (kind : ℕ) → IsType kind
type_of kind =
    ⊎_elim (λ (y0 : ((kind == 0) ≡ true) × (kind ≡ 0)). is_data y0.1) (λ (n0 : ((kind == 0) ≡ false) × (kind ≢ 0)).
    ⊎_elim (λ (y1 : ((kind == 1) ≡ true) × (kind ≡ 1)). is_init y1.1) (λ (n1 : ((kind == 1) ≡ false) × (kind ≢ 1)).
    ⊎_elim (λ (y2 : ((kind == 2) ≡ true) × (kind ≡ 2)). is_init_ack y2.1) (λ (n2 : ((kind == 2) ≡ false) × (kind ≢ 2)).
    ⊎_elim (λ (y3 : ((kind == 3) ≡ true) × (kind ≡ 3)). is_sack y3.1) (λ (n3 : ((kind == 3) ≡ false) × (kind ≢ 3)).
    ⊎_elim (λ (y4 : ((kind == 4) ≡ true) × (kind ≡ 4)). is_heartbeat y4.1) (λ (n4 : ((kind == 4) ≡ false) × (kind ≢ 4)).
    ⊎_elim (λ (y5 : ((kind == 5) ≡ true) × (kind ≡ 5)). is_heartbeat_ack y5.1) (λ (n5 : ((kind == 5) ≡ false) × (kind ≢ 5)).
    ⊎_elim (λ (y6 : ((kind == 6) ≡ true) × (kind ≡ 6)). is_abort y6.1) (λ (n6 : ((kind == 6) ≡ false) × (kind ≢ 6)).
    ⊎_elim (λ (y7 : ((kind == 7) ≡ true) × (kind ≡ 7)). is_shutdown y7.1) (λ (n7 : ((kind == 7) ≡ false) × (kind ≢ 7)).
    ⊎_elim (λ (y8 : ((kind == 8) ≡ true) × (kind ≡ 8)). is_shutdown_ack y8.1) (λ (n8 : ((kind == 8) ≡ false) × (kind ≢ 8)).
    ⊎_elim (λ (y9 : ((kind == 9) ≡ true) × (kind ≡ 9)). is_error y9.1) (λ (n9 : ((kind == 9) ≡ false) × (kind ≢ 9)).
    ⊎_elim (λ (y10 : ((kind == 10) ≡ true) × (kind ≡ 10)). is_cookie_echo y10.1) (λ (n10 : ((kind == 10) ≡ false) × (kind ≢ 10)).
    ⊎_elim (λ (y11 : ((kind == 11) ≡ true) × (kind ≡ 11)). is_cookie_ack y11.1) (λ (n11 : ((kind == 11) ≡ false) × (kind ≢ 11)).
    ⊎_elim (λ (y14 : ((kind == 14) ≡ true) × (kind ≡ 14)). is_shutdown_complete y14.1) (λ (n14 : ((kind == 14) ≡ false) × (kind ≢ 14)).
    ⊎_elim (λ (y64 : ((kind == 64) ≡ true) × (kind ≡ 64)). is_i_data y64.1) (λ (n64 : ((kind == 64) ≡ false) × (kind ≢ 64)).
    ⊎_elim (λ (y192 : ((kind == 192) ≡ true) × (kind ≡ 192)). is_forward_tsn y192.1) (λ (n192 : ((kind == 192) ≡ false) × (kind ≢ 192)).
    ⊎_elim (λ (y194 : ((kind == 194) ≡ true) × (kind ≡ 194)). is_i_forward_tsn y194.1) (λ (n194 : ((kind == 194) ≡ false) × (kind ≢ 194)).
    is_other (other_type kind (above kind n0.1 n1.1 n2.1 n3.1 n4.1 n5.1 n6.1 n7.1 n8.1 n9.1 n10.1 n11.1) n14.0 n64.0 n192.0 n194.0)) (eqb_tells kind 194)) (eqb_tells kind 192)) (eqb_tells kind 64)) (eqb_tells kind 14)) (eqb_tells kind 11)) (eqb_tells kind 10)) (eqb_tells kind 9)) (eqb_tells kind 8)) (eqb_tells kind 7)) (eqb_tells kind 6)) (eqb_tells kind 5)) (eqb_tells kind 4)) (eqb_tells kind 3)) (eqb_tells kind 2)) (eqb_tells kind 1)) (eqb_tells kind 0)

-- an unknown type is unlike a known one
unlike_by : (kind n : ℕ) (t : Bool) → (kind == n) ≡ t → is_known kind ≡ false → is_known n ≡ true → (kind == n) ≡ false
unlike_by kind n false e other known = e
unlike_by kind n true e other known =
    ⊎_elim (λ (y : ((kind == n) ≡ true) × (kind ≡ n)). let same : is_known kind ≡ is_known n = ap is_known y.1 in cc) (λ (no : ((kind == n) ≡ false) × (kind ≢ n)). no.0) (eqb_tells kind n)

pub unlike : (kind n : ℕ) → is_known kind ≡ false → is_known n ≡ true → (kind == n) ≡ false
unlike kind n other known = unlike_by kind n (kind == n) refl other known
