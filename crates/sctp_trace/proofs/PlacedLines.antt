-- What a line makes of a pair it makes at any place, and where options are set.
use Rattle.std.proofs.Common.{◌≡◌, ℕ, Bool, true, false, List, inl, inr, refl}
use Rattle.sctp_model.specs.end.EndView.{Configuration}
use Rattle.sctp_script.specs.Grammar.{Pairs, Says}
use Rattle.sctp_script.specs.Places.{Place, Unpaired, Behind, Acted, Plain, Configures, SaysUnlimited, SaysPaired, SaysAt, is_paired}

-- a line of a further command makes no pair
unlimited_plain : (line : List ℕ) (c : Configuration) → SaysUnlimited line (Plain (Pairs c)) → Says true line (Pairs c)
unlimited_plain line c (inl (r, args, is, says)) = absurd says
unlimited_plain line c (inr (none, says)) = says

-- nor does one with a limit of retransmissions
paired_plain : (o : Bool) (line : List ℕ) (c : Configuration) → SaysPaired o line (Plain (Pairs c)) → Says true line (Pairs c)
paired_plain false line c says = says
paired_plain true line c (inl (vs, is, same)) = cc
paired_plain true line c (inr (none, says)) = unlimited_plain line c says

pub pair_plain : (place : Place) (line : List ℕ) (c : Configuration) → SaysAt place line (Plain (Pairs c)) → Says (is_paired place) line (Pairs c)
pair_plain Unpaired line c says = says
pair_plain (Behind o a b) line c (inl options) = absurd options.3
pair_plain (Behind o a b) line c (inr plain) = paired_plain o line c plain.1
pair_plain (Acted o) line c says = paired_plain o line c says

-- and sets no options
no_options : (o : Bool) (line : List ℕ) (c d : Configuration) → SaysPaired o line (Configures c d) → ⊥
no_options false line c d says = says
no_options true line c d (inl (vs, is, same)) = cc
no_options true line c d (inr (none, says)) = says

-- only behind the pair options are set
pub where_set : (place : Place) (line : List ℕ) (c d : Configuration) → SaysAt place line (Configures c d)
    → (o : Bool) × (a b : Configuration) × (place ≡ Behind o a b) × SaysAt (Behind o a b) line (Configures c d)
where_set Unpaired line c d says = absurd says
where_set (Behind o a b) line c d says = (o, a, b, refl, says)
where_set (Acted o) line c d says = absurd (no_options o line c d says)
