-- The endpoint, channels and the allocator as rows, and the machine's value of a slot.
use Rattle.std.specs.Prelude.{[], ◌∷◌}
use lib.Dec.{T, lit<}
use mir.Syntax.{impl, tnil, tcons, dnil}
use mir.Val.{Val, vnull, vstruct, vnil, vcons, has_ty, WT}
use denote.Param.{layout}
use Rattle.core.proofs.alloc.Calls.{Al, Fits, α}
use Rattle.std_alloc.proofs.ResultValues.{and_tt}
use Rattle.std_alloc.proofs.BoxSteps.Form.{Bx, box_ty}
use Rattle.std_heap.specs.contracts.Global as global
use Rattle.std_heap.specs.contracts.GlobalAllocator.TheImpl.{ghosts, dict}
use Rattle.std_heap.proofs.Global.TheLaws as global_laws
use Rattle.sctp_endpoint.specs.contracts.endpoint.Endpoint as endpoint
use Rattle.sctp_endpoint.proofs.endpoint.Endpoint.TheLaws as endpoint_laws
use Rattle.sctp_c.specs.contracts.channels.held.Held as held
use Rattle.sctp_c.proofs.channels.held.Held.TheLaws as held_laws

-- memory of the C library
abbrev pub heap : Al
heap = record { row = global.the_row; laws = global_laws.the_row_laws; g = ghosts; d = dict; drops = impl ("sctp_c::Destruct++none::drop" ∷ []) (tcons (layout global.the_row) tnil) dnil }

-- an endpoint in a box there
abbrev pub boxed : Bx
boxed = record { row = endpoint.the_row; laws = endpoint_laws.the_row_laws; al = heap }

-- and what a handle of channels holds
abbrev pub held_boxed : Bx
held_boxed = record { row = held.the_row; laws = held_laws.the_row_laws; al = heap }

-- a slot at null
abbrev pub empty_word : Val → Val
empty_word hv = vstruct (vcons vnull (vcons hv vnil))

pub empty_typed : (hv : Val) → Fits heap hv → T (has_ty (box_ty boxed) (empty_word hv)) × WT (empty_word hv)
empty_typed hv fa = (and_tt (has_ty (α heap) hv) fa.0, (record { fits = lit< tt }, (fa.1, tt)))
