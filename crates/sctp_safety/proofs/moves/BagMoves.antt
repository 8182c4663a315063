-- What the two endpoints put between them keeps every fact: chunks with data, FORWARDs, SACKs and SHUTDOWNs.
use Rattle.std.proofs.Common.{◌≡◌, ℕ, ◌<◌, ◌≤◌, true, ◌∷◌, length, inl, inr, refl, sym, subst, ap, arith}
use Rattle.sctp_model.specs.numbers.Lists.{Has}
use Rattle.sctp_model.specs.messages.Plan.{Message}
use Rattle.sctp_model.specs.messages.Pieces.{Piece, piece_of, IsFragment}
use Rattle.sctp_model.specs.messages.Forward.{Forward}
use Rattle.sctp_model.specs.receiver.ReceiverView.{Reaches}
use Rattle.sctp_model.specs.messages.Acknowledgement.{Acknowledgement, covers}
use Rattle.sctp_safety.specs.Way.{Way, Put_piece, Put_forward, Put_sack, Put_shutdown, Step}
use Rattle.sctp_safety.proofs.moves.Facts.{IsSendersForward, Good}
use Rattle.sctp_safety.proofs.moves.MovesBySide.{by_bags}
use Rattle.sctp_safety.proofs.moves.ForwardBuilt.{fair_forward}

pub kept_by-Put_piece : (w v : Way) (i : ℕ) → Good w → Step w (Put_piece i) v → Good v
kept_by-Put_piece w v i g (l, n, k, m, here, named, e) =
    subst Good (sym e) (by_bags w (piece_of w.format i l n k m ∷ w.pieces) w.forwards w.sacks w.shutdowns g pieces g.between.forwards g.between.sacks g.between.shutdowns)
  where
    within : k < length m.fragments
    within =
        let (x, named', l) = g.arranged.within i l n k here in
        let same : x ≡ m = cc in
        let count : length x.fragments ≡ length m.fragments = ap (λ (y : Message). length y.fragments) same in
        omega arith

    pieces : (x : Piece) → Has (piece_of w.format i l n k m ∷ w.pieces) x → IsFragment w.format w.sender.plan x
    pieces x (inl h) = subst (IsFragment w.format w.sender.plan) h
        (record { number = n; fragment = k; message = m; named = named; within = within; here = here; same = refl })
    pieces x (inr h) = g.between.pieces x h

pub kept_by-Put_sack : (w v : Way) (x : Acknowledgement) → Good w → Step w (Put_sack x) v → Good v
kept_by-Put_sack w v x g (sound, e) =
    subst Good (sym e) (by_bags w w.pieces w.forwards (x ∷ w.sacks) w.shutdowns g g.between.pieces g.between.forwards sacks g.between.shutdowns)
  where
    sacks : (y : Acknowledgement) (i : ℕ) → Has (x ∷ w.sacks) y → covers y i ≡ true → Reaches w.receiver i
    sacks y i (inl h) c = sound i (subst (λ (z : Acknowledgement). covers z i ≡ true) (sym h) c)
    sacks y i (inr h) c = g.between.sacks y i h c

pub kept_by-Put_shutdown : (w v : Way) (c : ℕ) → Good w → Step w (Put_shutdown c) v → Good v
kept_by-Put_shutdown w v c g (sound, e) =
    subst Good (sym e) (by_bags w w.pieces w.forwards w.sacks (c ∷ w.shutdowns) g g.between.pieces g.between.forwards g.between.sacks shutdowns)
  where
    shutdowns : (d i : ℕ) → Has (c ∷ w.shutdowns) d → i ≤ d → Reaches w.receiver i
    shutdowns d i (inl h) l = sound i (omega arith)
    shutdowns d i (inr h) l = g.between.shutdowns d i h l

pub kept_by-Put_forward : (w v : Way) (x : Forward) → Good w → Step w (Put_forward x) v → Good v
kept_by-Put_forward w v x g (gone, listed, each, e) =
    subst Good (sym e) (by_bags w w.pieces (x ∷ w.forwards) w.sacks w.shutdowns g g.between.pieces forwards g.between.sacks g.between.shutdowns)
  where
    forwards : (y : Forward) → Has (x ∷ w.forwards) y → IsSendersForward w.format w.sender w.receiver y
    forwards y (inl h) = subst (IsSendersForward w.format w.sender w.receiver) h (fair_forward w x g gone listed each)
    forwards y (inr h) = g.between.forwards y h
