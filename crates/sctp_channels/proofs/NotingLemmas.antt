-- Resets of the peer are noted one after the other.
use Rattle.std.proofs.Common.{◌≡◌, ℕ, zero, suc, ◌+◌, ◌-◌, ◌<◌, ◌≤◌, false, Option, Some, None, refl, ap, ◌∙◌, arith}
use Rattle.std.specs.Prelude.{is_some}
use Rattle.sctp_model.specs.end.EndView.{EndView}
use Rattle.sctp_model.specs.end.UserCalls.{reset_there}
use Rattle.sctp_channels.specs.Streams.{Table}
use Rattle.sctp_channels.specs.Events.{reset_noted, resets_noted}

-- once there is none, there is none
pub noted_none : (n : ℕ) (v : EndView) (x : Table) → reset_there v ≡ None → resets_noted n v x ≡ record { view = v; table = x }
noted_none zero v x none = refl
noted_none (suc n) v x none = rw none (noted_none n v x none)

-- what isn't there is none
pub none_there : (o : Option ℕ) → false ≡ is_some o → o ≡ None
none_there None is = refl
none_there (Some s) is = absurd (cc)

-- one more
pub noted_more : (i n : ℕ) (v : EndView) (x : Table) (s : ℕ) → i < n → reset_there v ≡ Some s
    → resets_noted (n - i) v x ≡ resets_noted (n - (i + 1)) (reset_noted (Some s) v x).view (reset_noted (Some s) v x).table
noted_more i n v x s less there =
    let many : n - i ≡ suc (n - (i + 1)) = omega (arith, less) in
    ap (λ (m : ℕ). resets_noted m v x) many
    ∙ ap (λ (o : Option ℕ). resets_noted (n - (i + 1)) (reset_noted o v x).view (reset_noted o v x).table) there

-- all are
pub noted_all : (i n : ℕ) (v : EndView) (x : Table) → n ≤ i → resets_noted (n - i) v x ≡ record { view = v; table = x }
noted_all i n v x most =
    let many : n - i ≡ zero = omega (arith, most) in
    rw many refl
