-- What a slot owns: nothing, or the block of an endpoint.
use Rattle.std.specs.Prelude.{◌≡◌, Bool, true, false, Option, None, Some, refl}
use base.Fml.{Fml, ftrue}
use denote.RawPtr.{Ptr}
use Rattle.std.specs.Box.Ownership.{box_owns}
use Rattle.std.specs.declared.alloc.Global.{Global}
use Rattle.std.specs.contracts.impls.GlobalAllocator.TheImpl.{ghosts}
use Rattle.sctp_endpoint.specs.contracts.endpoint.Endpoint as endpoint

-- nothing, or the endpoint at this address and the right to free its block
abbrev pub slot_owns : Global → Ptr → Option (endpoint.the_row).Denot → Fml
slot_owns a p None = ftrue
slot_owns a p (Some e) = box_owns (ghosts.dealloc_token a) endpoint.the_row p e

-- something is there
abbrev pub is_full : {A : Type 0} → Option A → Bool
is_full None = false
is_full (Some x) = true

-- something is there, as a proposition
abbrev pub IsFull : {A : Type 0} → Option A → Type 0
IsFull None = ⊥
IsFull (Some x) = Unit {0}

-- what is there
pub value_of : {A : Type 0} (o : Option A) → IsFull o → (x : A) × (o ≡ Some x)
value_of None is = absurd is
value_of (Some x) is = (x, refl)
