-- Congestion control by parts, and that no step changes a chunk's header.
use Rattle.std.proofs.Common.{◌≡◌, ℕ, Bool, true, false, List, [], ◌∷◌, refl}
use Rattle.std.specs.Prelude.{if◌then◌else◌, nat_lt, not, ◌&&◌, Option, Some, None}
use Rattle.sctp_model.specs.sender.Filling.{Wish}
use Rattle.sctp_model.specs.end.Cubic.{Cubic}
use Rattle.sctp_model.specs.end.Control.{Control, News, avoided_by, grown, is_in_use, window_after, control_heard}
use Rattle.sctp_model.specs.end.Control.{recovering, control_expired, with_packet}

-- either of two with this header has it
of_two : (b : Bool) (h : ℕ) (x y : Control) → x.header ≡ h → y.header ≡ h → (if b then x else y).header ≡ h
of_two true h x y first second = first
of_two false h x y first second = second

header_avoided_by : (o : Option Cubic) (in_use : Bool) (bytes now trip : ℕ) (k : Control) → (avoided_by o in_use bytes now trip k).header ≡ k.header
header_avoided_by None in_use bytes now trip k = of_two _ k.header _ _ refl refl
header_avoided_by (Some c) in_use bytes now trip k = of_two in_use k.header _ k refl refl

header_grown : (in_use : Bool) (bytes now trip : ℕ) (k : Control) → (grown in_use bytes now trip k).header ≡ k.header
header_grown in_use bytes now trip k =
    of_two _ k.header _ _ (of_two in_use k.header _ k refl refl) (header_avoided_by k.cubic in_use bytes now trip k)

-- an acknowledgement
pub header_heard : (n : News) (k : Control) → (control_heard n k).header ≡ k.header
header_heard n k =
    let opened : (window_after n k).header ≡ k.header =
    of_two (nat_lt 0 n.bytes && not n.recovers) k.header _ k (header_grown (is_in_use n.waits n.flight k) n.bytes n.now n.trip k) refl in
    of_two (n.lost && not n.recovers) k.header (recovering (window_after n k)) (window_after n k) opened opened

-- an expiry, but for a probe
pub header_expired : (probes : Bool) (k : Control) → (if probes then k else control_expired k).header ≡ k.header
header_expired probes k = of_two probes k.header k (control_expired k) refl refl

-- a packet
pub header_sent : (flight : ℕ) (ws : List Wish) (k : Control) → (with_packet flight ws k).header ≡ k.header
header_sent flight [] k = refl
header_sent flight (w ∷ ws) k = refl
