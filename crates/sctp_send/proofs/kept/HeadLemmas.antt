-- Walks over entries in the order of their tickets: which entries are of a message, and which are passed.
use Rattle.std.proofs.Common.{◌≡◌, ℕ, ◌+◌, ◌-◌, ◌^◌, ◌<◌, ◌≤◌, ◌⊎◌, List, length, get_or, true, false, Some, inl, inr, sym, ◌∙◌, ap, subst, arith}
use Rattle.std.specs.Prelude.{slice_get}
use Rattle.std.specs.List.Sorted.{IsNonDecreasingBy}
use Rattle.std.proofs.lemmas.Bool.{cases_lt}
use Rattle.std.proofs.lemmas.Bool.Decides.{nat_tests}
use Rattle.std.proofs.lemmas.Option.{slice_get-get_or}
use Rattle.sctp_sequence.specs.Pairs.{IsRankFrom, first_of}
use Rattle.sctp_sequence.specs.declared.pairs.Pair.{Pair}
use Rattle.sctp_send.specs.declared.kept.by_ticket.ByTicket.{ByTicket}
use Rattle.sctp_send.specs.declared.kept.heads.Heads.{Heads}
use Rattle.sctp_send.specs.declared.kept.heads.OwnEntries.{OwnEntries}
use Rattle.sctp_send.specs.inner.TicketOrder.{no_pair, pair_at, offset_at, AreRisingTo, IsOrderOf}
use Rattle.sctp_send.specs.inner.TicketHeads.{AreHeads, AreAbove, IsFrontLower, IsLower, IsPassed, IsRankTo, IsOwn, offset_in}
use Rattle.sctp_send.proofs.kept.OrderLemmas.{pair_ticket, entry_pair}

-- ---- the rank of a ticket among those that rise

-- what the search knows at two offsets
pub record IsBetween (ticket many : ℕ) (ts : List ℕ) (low high : ℕ) : Type 0 where
  pub order : low ≤ high
  pub within : high ≤ many
  pub lower : (n t : ℕ) → n < low → slice_get ts n ≡ Some t → t < ticket
  pub higher : (n t : ℕ) → high ≤ n → n < many → slice_get ts n ≡ Some t → ticket ≤ t

pub raised : (ticket many : ℕ) (ts : List ℕ) (low high middle u : ℕ) → low ≤ middle → middle < high → slice_get ts middle ≡ Some u → u < ticket → AreRisingTo many ts → IsBetween ticket many ts low high → IsBetween ticket many ts (middle + 1) high
raised ticket many ts low high middle u from lt there below rising h = record {
  order = omega (arith, lt);
  within = h.within;
  lower = λ n t upto read. let within = h.within in let up = rising n middle t u (omega (arith, upto)) (omega (arith, lt, within)) read there in omega (arith, up, below);
  higher = h.higher;
}

pub lowered : (ticket many : ℕ) (ts : List ℕ) (low high middle u : ℕ) → low ≤ middle → middle < high → slice_get ts middle ≡ Some u → ticket ≤ u → AreRisingTo many ts → IsBetween ticket many ts low high → IsBetween ticket many ts low middle
lowered ticket many ts low high middle u from lt there above rising h = record {
  order = from;
  within = let within = h.within in omega (arith, lt, within);
  lower = h.lower;
  higher = λ n t le upto read. let up = rising middle n u t le upto there read in omega (arith, up, above);
}

-- ---- those of a message

pub own_in_front : (first : ℕ) (ps : List Pair) (o : OwnEntries) (k : ℕ) → k < o.front → offset_in first ps o k ≡ o.from + k
own_in_front first ps o k lt = grind (arith, nat_tests)

pub own_behind : (first : ℕ) (ps : List Pair) (o : OwnEntries) (k : ℕ) → o.front ≤ k → offset_in first ps o k ≡ offset_at first ps (o.rank + (k - o.front))
own_behind first ps o k le = grind (arith, nat_tests)

module _ (ts : List ℕ) (o : ByTicket) (few : length ts < 2 ^ 64) (h : IsOrderOf ts o) where
  pub are_own : (ticket from front rank above : ℕ) → IsRankTo ticket h.unpaired ts from → IsRankTo (ticket + 1) h.unpaired ts (from + front) → IsRankFrom ticket o.pairs.items rank → IsRankFrom (ticket + 1) o.pairs.items above
      → IsOwn ticket ts o.first o.pairs.items (record { front = front; from = from; rank = rank; many = front + (above - rank) })
  are_own ticket from front rank above is_from is_upto is_rank is_above =
      let whole = h.whole in
      let from_within = is_from.within in
      let front_within = is_upto.within in
      let rank_within = is_rank.within in
      let above_within = is_above.within in
      record {
        within = omega (arith, whole, from_within, front_within);
        ranks = omega (arith, rank_within, above_within);
        right = right;
        all = all;
      }
    where
      ps : List Pair
      ps = o.pairs.items

      own : OwnEntries
      own = record { front = front; from = from; rank = rank; many = front + (above - rank) }

      right : (k : ℕ) → k < own.many → slice_get ts (offset_in o.first ps own k) ≡ Some ticket
      right k lt = elim (cases_lt k front) [
        | inl inside ↦
            let at = own_in_front o.first ps own k inside in
            let whole = h.whole in
            let to = is_upto.within in
            let there = slice_get-get_or ts (from + k) 0 (omega (arith, inside, to, whole)) in
            let least = is_from.higher (from + k) (get_or ts (from + k) 0) (omega arith) (omega (arith, inside, to)) there in
            let most = is_upto.lower (from + k) (get_or ts (from + k) 0) (omega (arith, inside)) there in
            let same : get_or ts (from + k) 0 ≡ ticket = omega (arith, least, most) in
            ap (slice_get ts) at ∙ there ∙ ap Some same
        | inr behind ↦
            let at = own_behind o.first ps own k behind in
            let to = is_above.within in
            let upto : rank + (k - front) < above = omega (arith, lt, behind) in
            let there = pair_ticket ts o few h (rank + (k - front)) (omega (arith, upto, to)) in
            let least = is_rank.higher (rank + (k - front)) no_pair (omega arith) (omega (arith, upto, to)) in
            let most = is_above.lower (rank + (k - front)) no_pair upto in
            let same : (pair_at ps (rank + (k - front))).first ≡ ticket = omega (arith, least, most) in
            ap (slice_get ts) at ∙ there ∙ ap Some same
      ]

      all : (n : ℕ) → slice_get ts n ≡ Some ticket → (k : ℕ) × (k < own.many) × (offset_in o.first ps own k ≡ n)
      all n read = elim (cases_lt n h.unpaired) [
        | inl inside ↦
            let low : from ≤ n = elim (cases_lt n from) [ inl lt ↦ absurd (let less = is_from.lower n ticket lt read in omega (arith, less)) | inr le ↦ le ] in
            let high : n < from + front = elim (cases_lt n (from + front)) [ inl lt ↦ lt | inr le ↦ absurd (let more = is_upto.higher n ticket le inside read in omega (arith, more)) ] in
            (n - from, omega (arith, low, high), own_in_front o.first ps own (n - from) (omega (arith, low, high)) ∙ omega (arith, low))
        | inr behind ↦
            let mine = entry_pair ts o few h n ticket read behind in
            let k = mine.0 in
            let first = mine.3 in
            let low : rank ≤ k = elim (cases_lt k rank) [ inl lt ↦ absurd (let less = is_rank.lower k no_pair lt in omega (arith, less, first)) | inr le ↦ le ] in
            let high : k < above = elim (cases_lt k above) [ inl lt ↦ lt | inr le ↦ absurd (let more = is_above.higher k no_pair le mine.1 in omega (arith, more, first)) ] in
            let back : rank + (front + (k - rank) - front) ≡ k = omega (arith, low) in
            (front + (k - rank), omega (arith, low, high), own_behind o.first ps own (front + (k - rank)) (omega arith) ∙ ap (offset_at o.first ps) back ∙ mine.2)
      ]

  -- where no entry has a pair
  pub are_own_alone : (ticket from front : ℕ) → length o.pairs.items ≡ 0 → IsRankTo ticket h.unpaired ts from → IsRankTo (ticket + 1) h.unpaired ts (from + front)
      → IsOwn ticket ts o.first o.pairs.items (record { front = front; from = from; rank = 0; many = front })
  are_own_alone ticket from front none is_from is_upto =
      let plain : front + (0 - 0) ≡ front = omega arith in
      subst (λ (n : ℕ). IsOwn ticket ts o.first o.pairs.items (record { front = front; from = from; rank = 0; many = n })) plain (are_own ticket from front 0 0 is_from is_upto (no_rank ticket) (no_rank (ticket + 1)))
    where
      no_rank : (sought : ℕ) → IsRankFrom sought o.pairs.items 0
      no_rank sought = record { within = omega arith; lower = λ k d lt. absurd (omega (arith, lt)); higher = λ k d le lt. absurd (omega (arith, lt, none)) }

  -- ---- a walk by ticket

  -- where it begins
  pub are_above : (last front rank : ℕ) → IsRankTo (last + 1) h.unpaired ts front → IsRankFrom (last + 1) o.pairs.items rank → AreAbove last ts o.first o.pairs.items (record { front = front; rank = rank })
  are_above last front rank is_front is_rank = record {
    lower = λ n t read passed. elim passed [
      | inl lt ↦ let less = is_front.lower n t lt read in omega (arith, less)
      | inr pair ↦
          let to = is_rank.within in
          let there = pair_ticket ts o few h pair.0 (omega (arith, pair.1, to)) in
          let same : t ≡ (pair_at o.pairs.items pair.0).first = let both = sym read ∙ ap (slice_get ts) (sym pair.2) ∙ there in cc in
          let less = is_rank.lower pair.0 no_pair pair.1 in
          omega (arith, same, less)
    ];
    higher = λ n t read. elim (cases_lt n h.unpaired) [
      | inl unpaired ↦ elim (cases_lt n front) [ inl lt ↦ inl (inl lt) | inr le ↦ inr (let more = is_front.higher n t le unpaired read in omega (arith, more)) ]
      | inr behind ↦
          let mine = entry_pair ts o few h n t read behind in
          elim (cases_lt mine.0 rank) [ inl lt ↦ inl (inr (mine.0, lt, mine.2)) | inr le ↦ inr (let more = is_rank.higher mine.0 no_pair le mine.1 in let first = mine.3 in omega (arith, more, first)) ]
    ];
    left = record {
      front = λ n t le lt read. let whole = h.whole in let more = is_front.higher n t le (omega (arith, lt, whole)) read in omega (arith, more);
      rank = λ k le lt. let more = is_rank.higher k no_pair le lt in omega (arith, more);
    };
  }

  -- what is left has a ticket no lower than these two
  left_above : (d : Heads) (ticket : ℕ) → IsNonDecreasingBy first_of o.pairs.items → ((t : ℕ) → d.front < h.unpaired → slice_get ts d.front ≡ Some t → ticket ≤ t) → (d.rank < length o.pairs.items → ticket ≤ (pair_at o.pairs.items d.rank).first)
      → (n t : ℕ) → slice_get ts n ≡ Some t → IsPassed o.first o.pairs.items d n ⊎ (ticket ≤ t)
  left_above d ticket up front rank n t read = elim (cases_lt n h.unpaired) [
    | inl unpaired ↦ elim (cases_lt n d.front) [
      | inl lt ↦ inl (inl lt)
      | inr le ↦
          let whole = h.whole in
          let there = slice_get-get_or ts d.front 0 (omega (arith, le, unpaired, whole)) in
          let least = front (get_or ts d.front 0) (omega (arith, le, unpaired)) there in
          let more = h.rising d.front n (get_or ts d.front 0) t le unpaired there read in
          inr (omega (arith, least, more))
    ]
    | inr behind ↦
        let mine = entry_pair ts o few h n t read behind in
        elim (cases_lt mine.0 d.rank) [
          | inl lt ↦ inl (inr (mine.0, lt, mine.2))
          | inr le ↦
              let lt = mine.1 in
              let least = rank (omega (arith, le, lt)) in
              let more = up d.rank mine.0 no_pair le lt in
              let first = mine.3 in
              inr (omega (arith, least, more, first))
        ]
  ]

  -- the next one without a pair
  pub front_lower : (d : Heads) → AreHeads ts o.pairs.items d → IsFrontLower ts o.pairs.items d true → IsLower ts o.first o.pairs.items d (record { offset = d.front; heads = record { front = d.front + 1; rank = d.rank } })
  front_lower d are test =
      let ticket = get_or ts d.front 0 in
      let there = slice_get-get_or ts d.front 0 (omega (arith, test.0)) in
      record {
        ticket = ticket;
        there = there;
        lowest = left_above d ticket are.rising (λ t lt read. let same : ticket ≡ t = let both = sym there ∙ read in cc in omega (arith, same)) (test.1 ticket there);
        passed = λ n passed. elim passed [ inl upto ↦ elim (cases_lt n d.front) [ inl lt ↦ inl (inl lt) | inr le ↦ inr (omega (arith, upto, le)) ] | inr pair ↦ inl (inr pair) ];
        above = λ last left. (left.front d.front ticket (omega arith) test.0 there, record { front = λ n t le. left.front n t (omega (arith, le)); rank = left.rank });
        one_more = omega arith;
      }

  -- the next pair
  pub pair_lower : (d : Heads) → AreHeads ts o.pairs.items d → d.front + d.rank < length ts → IsFrontLower ts o.pairs.items d false
      → (d.rank < length o.pairs.items) × IsLower ts o.first o.pairs.items d (record { offset = offset_at o.first o.pairs.items d.rank; heads = record { front = d.front; rank = d.rank + 1 } })
  pair_lower d are some test =
      let lt : d.rank < length o.pairs.items = elim (cases_lt (d.front + length o.pairs.items) (length ts)) [ inl more ↦ (test more).0 | inr none ↦ omega (arith, some, none) ] in
      let whole = h.whole in (
        lt,
        record {
          ticket = (pair_at o.pairs.items d.rank).first;
          there = pair_ticket ts o few h d.rank lt;
          lowest = left_above d (pair_at o.pairs.items d.rank).first are.rising (λ t more read. (test (omega (arith, more, whole))).1 t read) (λ within. omega arith);
          passed = λ n passed. elim passed [
            | inl front ↦ inl (inl front)
            | inr pair ↦ elim (cases_lt pair.0 d.rank) [
              | inl before ↦ inl (inr (pair.0, before, pair.2))
              | inr le ↦ let upto = pair.1 in let last : pair.0 ≡ d.rank = omega (arith, upto, le) in inr (sym pair.2 ∙ ap (offset_at o.first o.pairs.items) last)
            ]
          ];
          above = λ last left. (left.rank d.rank (omega arith) lt, record { front = left.front; rank = λ k le. left.rank k (omega (arith, le)) });
          one_more = omega arith;
        },
      )

  -- where it ends
  pub all_passed : (d : Heads) → AreHeads ts o.pairs.items d → length ts ≤ d.front + d.rank → (n t : ℕ) → slice_get ts n ≡ Some t → IsPassed o.first o.pairs.items d n
  all_passed d are end n t read =
      let whole = h.whole in
      let front = are.front in
      let rank = are.rank in
      elim (cases_lt n h.unpaired) [
        | inl unpaired ↦ inl (omega (arith, whole, front, rank, end, unpaired))
        | inr behind ↦ let mine = entry_pair ts o few h n t read behind in let lt = mine.1 in inr (mine.0, omega (arith, whole, front, rank, end, lt), mine.2)
      ]
