use Rattle.std.proofs.Common.{ℕ, ◌+◌, ◌*◌, ◌/◌, length, sym, ap, ◌∙◌}
use Rattle.std.specs.Prelude.{nat_le}
use Rattle.sctp_model.specs.messages.Framing.{header_of}
use Rattle.sctp_model.specs.sender.Entries.{bytes_in}
use Rattle.sctp_send.proofs.fill.RoomLemmas.{fits_by_length}
use Rattle.sctp_send.proofs.kept.pieces.fits.Goals as goal

pub returns : goal.returns
returns g c = λ p base initial i e m left is.
    let f = g.F.Framing.format in
    ap (λ (n : ℕ). nat_le n c.args.room) c.padded.ensures
    ∙ ap (λ (n : ℕ). nat_le ((n + c.args.bytes + 3) / 4 * 4) c.args.room) c.header.ensures
    ∙ ap (λ (n : ℕ). nat_le ((header_of f + n + 3) / 4 * 4) c.args.room) is
    ∙ ap (nat_le ((header_of f + length (bytes_in e m) + 3) / 4 * 4)) left
    ∙ sym (fits_by_length f p base initial i e m)
