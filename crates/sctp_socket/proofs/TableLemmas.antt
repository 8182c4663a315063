-- Which association a packet is for.
use Rattle.std.proofs.Common.{◌≡◌, ℕ, Option, Some, None, MatchOption, sym, ap, subst, ◌∙◌}
use Rattle.sctp_socket.specs.declared.peer.Peer.{Peer}
use Rattle.sctp_socket.specs.declared.peer.Source.{Source}
use Rattle.sctp_socket.specs.declared.table.Table.{Table}
use Rattle.sctp_socket.specs.Table.{entry_of, tagged, IsAdmitted, IsFor}

some_is : (n k : ℕ) → Some n ≡ Some k → n ≡ k
some_is n k h = cc

module _ {E : Type 0} where
  -- the one that has the tag, if its peer admits the packet
  pub only_for : (t : Table E) (tag k : ℕ) (from : Peer) (source : Source) (r : Option ℕ) → tagged t tag ≡ Some k →
      MatchOption r (IsAdmitted source from (entry_of t k) → ⊥) (λ n. (n ≡ k) × IsAdmitted source from (entry_of t k)) →
      MatchOption r ((n : ℕ) → IsFor t tag from source n → ⊥) (λ n. IsFor t tag from source n)
  only_for t tag k from source None found h = λ n for. h (subst (λ (m : ℕ). IsAdmitted source from (entry_of t m)) (some_is n k (sym for.found ∙ found)) for.admitted)
  only_for t tag k from source (Some n) found h = record {
    found = found ∙ ap (λ (m : ℕ). Some m) (sym h.0);
    admitted = subst (λ (m : ℕ). IsAdmitted source from (entry_of t m)) (sym h.0) h.1;
  }
