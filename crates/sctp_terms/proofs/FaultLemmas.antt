-- A configuration without a fault is within its limits.
use Rattle.std.proofs.Common.{◌≡◌, ℕ, zero, suc, ◌+◌, ◌*◌, ◌^◌, ◌<◌, ◌≤◌, ◌==◌, nat_le, nat_lt, Bool, true, false, not, ◌&&◌, ◌||◌, List, [], ◌∷◌, Option, None, Some, refl, subst, arith}
use Rattle.std.proofs.lemmas.Bool.{leb-true}
use Rattle.sctp_model.specs.numbers.Limits.{STREAM_LIMIT, LEAST_PACKET, GREATEST_PACKET, LEAST_FRAGMENT, GREATEST_FRAGMENT, FRAGMENT_OVERHEAD, LEAST_BUFFER, GREATEST_BUFFER}
use Rattle.sctp_model.specs.numbers.Limits.{LONGEST_WAIT, WINDOW, GREATEST_GROWTH}
use Rattle.sctp_model.specs.sender.Words.{when, first_there, some_passes}
use Rattle.sctp_model.specs.wire.Chunk.{padded}
use Rattle.sctp_model.specs.end.EndView.{Configuration}
use Rattle.sctp_model.specs.end.Configured.{IsConfiguration, HasBoundedOptions, ConfigurationFault, WrongPort, WrongLimit, WrongFragment, WrongBuffer, WrongStreams}
use Rattle.sctp_model.specs.end.Configured.{WrongWait, WrongReserve, WrongMessage, WrongQueue, WrongGrowth, is_between, is_fragment, configuration_fault}

-- ---- tests that don't hold

-- none of five tests holds, since none of their faults is there, nor any after them
none_holds : (p l f b s : Bool) (u v x y z : ConfigurationFault) (os : List (Option ConfigurationFault))
    → first_there (when p u ∷ when l v ∷ when f x ∷ when b y ∷ when s z ∷ os) ≡ None
    → (p ≡ false) × (l ≡ false) × (f ≡ false) × (b ≡ false) × (s ≡ false) × (first_there os ≡ None)
none_holds true l f b s u v x y z os is = absurd (cc)
none_holds false true f b s u v x y z os is = absurd (cc)
none_holds false false true b s u v x y z os is = absurd (cc)
none_holds false false false true s u v x y z os is = absurd (cc)
none_holds false false false false true u v x y z os is = absurd (cc)
none_holds false false false false false u v x y z os is = (refl, refl, refl, refl, refl, is)

-- not both, and that isn't so: both
both : (b c : Bool) → not (b && c) ≡ false → (b ≡ true) × (c ≡ true)
both true true is = (refl, refl)
both true false is = absurd (cc)
both false c is = absurd (cc)

-- neither
neither : (b c : Bool) → (b || c) ≡ false → (b ≡ false) × (c ≡ false)
neither false false is = (refl, refl)
neither false true is = absurd (cc)
neither true c is = absurd (cc)

-- both, as they stand
two : (b c : Bool) → (b && c) ≡ true → (b ≡ true) × (c ≡ true)
two true true is = (refl, refl)
two true false is = absurd (cc)
two false c is = absurd (cc)

-- a number that is between two is
within : (least greatest n : ℕ) → is_between least greatest n ≡ true → (least ≤ n) × (n ≤ greatest)
within least greatest n is = (leb-true _ _ (two _ _ is).0, leb-true _ _ (two _ _ is).1)

-- a port that isn't 0 is above it
above : (n : ℕ) → (n == 0) ≡ false → 0 < n
above zero is = absurd (cc)
above (suc n) is = omega arith

-- what isn't off is on
on : (b : Bool) → not b ≡ false → b ≡ true
on true is = refl
on false is = absurd (cc)

-- what is no longer than a limit, if it is there
least_of : (n : ℕ) (o : Option ℕ) → some_passes (λ most. nat_lt most n) o ≡ false → (most : ℕ) → o ≡ Some most → n ≤ most
least_of n None is most there = absurd (cc)
least_of n (Some k) is most there =
    let same : k ≡ most = cc in
    subst (λ (x : ℕ). n ≤ x) same (grind arith)

-- ---- the configuration

-- the options of a configuration, if none of their faults is there
abbrev option_faults : Configuration → List (Option ConfigurationFault)
option_faults c =
    when (not (is_between 1 c.longest_wait c.first_wait && nat_le c.longest_wait LONGEST_WAIT)) WrongWait
    ∷ when (not (nat_le (2 * c.reserve) c.buffer)) WrongReserve
    ∷ when (not (is_between 1 (WINDOW * c.fragment) c.longest_message)) WrongMessage
    ∷ when (some_passes (λ most. nat_lt most c.longest_message) c.queue_bytes) WrongQueue
    ∷ when (not (is_between 1 GREATEST_GROWTH c.growth)) WrongGrowth
    ∷ []

-- where none of their faults is there, its options are in bounds
bounded_options : (c : Configuration) → first_there (option_faults c) ≡ None → HasBoundedOptions c
bounded_options c none =
    let off = none_holds (not (is_between 1 c.longest_wait c.first_wait && nat_le c.longest_wait LONGEST_WAIT)) (not (nat_le (2 * c.reserve) c.buffer))
    (not (is_between 1 (WINDOW * c.fragment) c.longest_message)) (some_passes (λ most. nat_lt most c.longest_message) c.queue_bytes)
    (not (is_between 1 GREATEST_GROWTH c.growth)) WrongWait WrongReserve WrongMessage WrongQueue WrongGrowth [] none in
    let waits = both (is_between 1 c.longest_wait c.first_wait) (nat_le c.longest_wait LONGEST_WAIT) off.0 in
    let first = within 1 c.longest_wait c.first_wait waits.0
    in record {
      waits = (first.0, first.1, leb-true c.longest_wait LONGEST_WAIT waits.1);
      reserve = leb-true (2 * c.reserve) c.buffer (on _ off.1);
      longest_message = within 1 (WINDOW * c.fragment) c.longest_message (on _ off.2);
      queue = least_of c.longest_message c.queue_bytes off.3;
      growth = within 1 GREATEST_GROWTH c.growth (on _ off.4);
    }

-- where there is no fault, all is within its limits
pub without_fault : (c : Configuration) → c.own_port < 2 ^ 16 → c.peer_port < 2 ^ 16 → configuration_fault c ≡ None → IsConfiguration c × HasBoundedOptions c
without_fault c own peer none =
    let off = none_holds ((c.own_port == 0) || (c.peer_port == 0)) (not (is_between LEAST_PACKET GREATEST_PACKET c.limit)) (not (is_fragment c.limit c.fragment))
    (not (is_between LEAST_BUFFER GREATEST_BUFFER c.buffer)) (not (is_between 1 STREAM_LIMIT c.outbound && is_between 1 STREAM_LIMIT c.inbound))
    WrongPort WrongLimit WrongFragment WrongBuffer WrongStreams (option_faults c) none in
    let ports = neither (c.own_port == 0) (c.peer_port == 0) off.0 in
    let fits = both (is_between LEAST_FRAGMENT GREATEST_FRAGMENT c.fragment) (nat_le (FRAGMENT_OVERHEAD + padded c.fragment) c.limit) off.2 in
    let size = within LEAST_FRAGMENT GREATEST_FRAGMENT c.fragment fits.0 in
    let streams = both (is_between 1 STREAM_LIMIT c.outbound) (is_between 1 STREAM_LIMIT c.inbound) off.4 in
    let whole : IsConfiguration c = record {
      own_port = (above c.own_port ports.0, own);
      peer_port = (above c.peer_port ports.1, peer);
      limit = within LEAST_PACKET GREATEST_PACKET c.limit (on _ off.1);
      fragment = (size.0, size.1, leb-true (FRAGMENT_OVERHEAD + padded c.fragment) c.limit fits.1);
      buffer = within LEAST_BUFFER GREATEST_BUFFER c.buffer (on _ off.3);
      outbound = within 1 STREAM_LIMIT c.outbound streams.0;
      inbound = within 1 STREAM_LIMIT c.inbound streams.1;
    }
    in (whole, bounded_options c off.5)
