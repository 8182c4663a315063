-- Tickets that are written one by one, each after a space.
use Rattle.std.proofs.Common.{◌≡◌, ℕ, ◌+◌, ◌<◌, List, [], ◌∷◌, ◌++◌, length, take, get_or, map, decimal, refl, sym, ap, ◌∙◌, append_assoc}
use Rattle.std.proofs.lemmas.List.{append-nil, take_more, map-append}
use Rattle.sctp_values.specs.declared.ticket.Ticket.{Ticket}
use Rattle.sctp_script.specs.ReportText.{ticket_number}
use Rattle.sctp_text.specs.SpacedWords.{each_behind_space}
use Rattle.sctp_text.specs.declared.limits.TheConstants.{SPACE}

behind-append : (xs ys : List (List ℕ)) → each_behind_space (xs ++ ys) ≡ each_behind_space xs ++ each_behind_space ys
behind-append [] ys = refl
behind-append (x ∷ xs) ys =
    ap (λ (zs : List ℕ). SPACE ∷ (x ++ zs)) (behind-append xs ys) ∙ ap (λ (zs : List ℕ). SPACE ∷ zs) (sym (append_assoc x _ _))

-- the words of tickets
abbrev pub ticket_words : List Ticket → List (List ℕ)
ticket_words ts = map decimal (map ticket_number ts)

-- one more ticket, put behind a space
pub behind_more : (ts : List Ticket) (i : ℕ) (d : Ticket) (old front : List ℕ) → i < length ts
    → old ≡ front ++ each_behind_space (ticket_words (take i ts))
    → (old ++ SPACE ∷ []) ++ decimal (ticket_number (get_or ts i d)) ≡ front ++ each_behind_space (ticket_words (take (i + 1) ts))
behind_more ts i d old front lt so_far =
    let x = get_or ts i d in
    rw (
      take_more ts i d lt,
      map-append ticket_number (take i ts) (x ∷ []),
      map-append decimal (map ticket_number (take i ts)) (ticket_number x ∷ []),
      behind-append (ticket_words (take i ts)) (decimal (ticket_number x) ∷ []),
      so_far,
      append-nil (decimal (ticket_number x)),
    ) (simp append_assoc)
