-- A listener's reply to an INIT: the bytes written are the INIT ACK of the definitions, and which verdict that is.
use Rattle.std.proofs.Common.{◌≡◌, ℕ, ◌+◌, true, false, Some, List, [], ◌∷◌, ◌++◌, length, refl, ap, sym, ◌∙◌, nat_le}
use Rattle.sctp_model.specs.wire.Chunk.{InitMeaning, ChunkMeaning, InitAck}
use Rattle.sctp_model.specs.wire.Typed.{Typed, typed_in, written_typed}
use Rattle.sctp_model.specs.wire.Unknown.{parameters_reported}
use Rattle.sctp_model.specs.end.Sealing.{Sealing}
use Rattle.sctp_model.specs.end.EndView.{Configuration, Draw, EndView}
use Rattle.sctp_model.specs.end.Reports.{item, as_fit, INVALID_PARAMETER}
use Rattle.sctp_model.specs.end.PeerFaults.{packet_to, abort_for}
use Rattle.sctp_model.specs.end.Options.{STATE_COOKIE, own_options, reports_of, said_to}
use Rattle.sctp_model.specs.end.Opening.{introduction, body_for, init_ack, has_no_stream}
use Rattle.sctp_model.specs.end.Strays.{Answer, init_verdict}
use Rattle.sctp_opening.specs.Room.{size_alone}
use Rattle.sctp_opening.specs.inner.Fitting.{all_within}
use Rattle.sctp_opening.proofs.CauseLemmas.{as_fit-same, written_behind}

-- The parameters of an INIT or an INIT ACK have so many bytes of room in packets of this limit.
pub record HasParameterRoom (limit most : ℕ) : Type 0 where
  pub exact : (n : ℕ) → nat_le (size_alone (20 + n)) limit ≡ nat_le n most

-- the parameters of the INIT ACK: cookie, options, and the reports that go in behind them
pub init_ack-is : (s : Sealing) (e : EndView) (d : Draw) (m : InitMeaning) (most : ℕ) (bytes : List ℕ) → HasParameterRoom e.configuration.limit most
    → bytes ≡ all_within most (written_typed (item STATE_COOKIE (s.sealed (body_for e d m)) ∷ own_options (said_to e.configuration m.parameters))) (reports_of (parameters_reported (typed_in m.parameters)))
    → InitAck (introduction e.configuration d bytes) ≡ init_ack s e d m
init_ack-is s e d m most bytes room are =
    let front = item STATE_COOKIE (s.sealed (body_for e d m)) ∷ own_options (said_to e.configuration m.parameters) in
    let reports = reports_of (parameters_reported (typed_in m.parameters)) in
    let whole : List Typed → List ℕ = λ xs. written_typed (front ++ xs) in
    let same = as_fit-same (λ xs. nat_le (length (whole xs)) most) (λ xs. nat_le (size_alone (20 + length (whole xs))) e.configuration.limit) [] reports (λ xs. sym (room.exact (length (whole xs)))) in
    let written : bytes ≡ whole (as_fit (λ xs. nat_le (length (whole xs)) most) [] reports) = are ∙ sym (written_behind most front reports) in
    ap (λ (parameters : List ℕ). InitAck (introduction e.configuration d parameters)) (written ∙ ap whole same)

-- an INIT that has streams
pub accepted-is : (s : Sealing) (e : EndView) (d : Draw) (m : InitMeaning) (c : Configuration) (ack : ChunkMeaning) → e.configuration ≡ c
    → has_no_stream m ≡ false → ack ≡ init_ack s e d m → Answer (packet_to c m.tag ack) ≡ init_verdict (Some s) e d m
accepted-is s e d m c ack same some is = rw (is, ← same, some) refl

-- an INIT that has none
pub refused-is : (s : Sealing) (e : EndView) (d : Draw) (m : InitMeaning) (c : Configuration) → e.configuration ≡ c
    → has_no_stream m ≡ true → Answer (packet_to c m.tag (abort_for (item INVALID_PARAMETER []))) ≡ init_verdict (Some s) e d m
refused-is s e d m c same none = rw (← same, none) refl
