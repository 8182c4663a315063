use Rattle.std.proofs.Common.{◌≡◌, ◌++◌, List, [], ◌∷◌, ℕ, length, ap, sym, refl, ◌∙◌}
use Rattle.std.proofs.lemmas.List.{append-nil, take_at, drop_at}
use borrow.Rule.Slice.PartMut.{put_mid}
use Rattle.sctp_socket.proofs.peer.Peer.text.Goals as goal

-- five bytes are written after the first 32
placed_after : (front back : List ℕ) → length front ≡ 32 → put_mid 32 5 (front ++ 0 ∷ 0 ∷ 0 ∷ 0 ∷ 0 ∷ []) back ≡ front ++ back
placed_after front back size =
    rw (take_at front (0 ∷ 0 ∷ 0 ∷ 0 ∷ 0 ∷ []) 32 size, drop_at front (0 ∷ 0 ∷ 0 ∷ 0 ∷ 0 ∷ []) 32 size, append-nil back) refl

pub returns : goal.returns
returns c =
    let size : length c.args.self.now.host.bytes ≡ 32 = sym (ap (λ (xs : List ℕ). length xs) c.copy_from_slice.ensures.after) ∙ c.copy_from_slice.ensures.len in
    rw (c.copy_from_slice.ensures.after, c.copy_from_slice-2.ensures.after) (placed_after c.args.self.now.host.bytes _ size)
