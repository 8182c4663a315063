use Rattle.std.proofs.Common.{◌≡◌, ◌∙◌, ◌<◌, ℕ, List, map, length, suc, get_or, set, ap, arith}
use Rattle.std.specs.List.{refill}
use Rattle.std.proofs.lemmas.List.{get_or_default, length-set}
use Rattle.sctp_values.specs.declared.kind.Kind.TheVariants.{Ordered}
use Rattle.sctp_send.specs.inner.Lanes.{lane_key, passed_meaning, before, noted}
use Rattle.sctp_send.specs.declared.forward.lanes.Passed.{Passed}
use Rattle.sctp_send.proofs.forward.LaneBytes.{raised, put_in, one_more, put_back}
use Rattle.sctp_send.proofs.forward.lanes.note.Goals as goal
use Rattle.sctp_send.proofs.forward.lanes.note.Goals.{then-rank-len+else-key_of-key, else-rank-len}

pub returns-then-key_of-key-clause-noted : goal.returns-then-key_of-key-clause-noted
returns-then-key_of-key-clause-noted c = λ yes.
    let lanes = c.args.lanes.now.items in
    let next : Passed = c.args.next in
    let none : Passed = record { stream = 0; kind = Ordered; number = 0 } in
    let rank = c.rank_of-rank.result in
    let x : Passed = get_or c.as_slice-then-rank-len.result.now rank none in
    let here : rank ≡ before (lane_key (passed_meaning next).lane) (map passed_meaning lanes) =
    c.rank_of-rank.ensures.rank ∙ ap (λ (k : ℕ). before k (map passed_meaning c.as_slice.result.now)) c.key_of-key.ensures ∙ ap (λ (ys : List Passed). before (lane_key (passed_meaning next).lane) (map passed_meaning ys)) c.as_slice.ensures.value in
    let low : rank < length lanes = omega (arith, c.if-rank-len.true, c.len.ensures.value) in
    let read : x ≡ get_or lanes rank x = ap (λ (ys : List Passed). get_or ys rank none) c.as_slice-then-rank-len.ensures.value ∙ get_or_default lanes rank none x low in
    let key : lane_key (passed_meaning x).lane ≡ lane_key (passed_meaning next).lane = omega (arith, c.key_of.ensures, c.if-key_of-key.true, c.key_of-key.ensures) in
    let larger : Passed = record { stream = x.stream; kind = x.kind; number = c.max.result } in
    ap (map passed_meaning) (ap (λ (ys : List Passed). refill (length lanes) lanes (set ys rank larger)) c.as_mut_slice.ensures.value ∙ put_back lanes (set lanes rank larger) (length-set lanes rank larger))
    ∙ raised lanes rank x next c.max.result here low read key c.max.ensures

pub returns-then-len-most-clause-full : goal.returns-then-len-most-clause-full
returns-then-len-most-clause-full c = λ no.
    let lanes = c.args.lanes.now.items in
    let next : Passed = c.args.next in
    let none : Passed = record { stream = 0; kind = Ordered; number = 0 } in
    let here : c.rank_of-rank.result ≡ before (lane_key (passed_meaning next).lane) (map passed_meaning lanes) =
    c.rank_of-rank.ensures.rank ∙ ap (λ (k : ℕ). before k (map passed_meaning c.as_slice.result.now)) c.key_of-key.ensures ∙ ap (λ (ys : List Passed). before (lane_key (passed_meaning next).lane) (map passed_meaning ys)) c.as_slice.ensures.value in
    let more : length (noted (passed_meaning next).lane next.number (map passed_meaning lanes)) ≡ suc (length lanes) =
    elim c.if-rank-len.branch [
      | then-rank-len+else-key_of-key w ↦
          let read : lane_key (passed_meaning (get_or w.as_slice-then-rank-len.result.now c.rank_of-rank.result none)).lane ≡ lane_key (passed_meaning (get_or lanes c.rank_of-rank.result none)).lane =
          ap (λ (ys : List Passed). lane_key (passed_meaning (get_or ys c.rank_of-rank.result none)).lane) w.as_slice-then-rank-len.ensures.value in
          one_more lanes c.rank_of-rank.result next none here (λ lt same. absurd (w.if-key_of-key.false (omega (arith, w.key_of.ensures, read, same, c.key_of-key.ensures))))
      | else-rank-len w ↦ one_more lanes c.rank_of-rank.result next next here (λ lt same. absurd (omega (arith, lt, w.if-rank-len.false, c.len.ensures.value)))
    ] in
    omega (arith, more, c.len-2.ensures.value, c.if-len-most.true)

pub returns-clause-noted : goal.returns-clause-noted
returns-clause-noted c = λ yes.
    let lanes = c.args.lanes.now.items in
    let next : Passed = c.args.next in
    let none : Passed = record { stream = 0; kind = Ordered; number = 0 } in
    let here : c.rank_of-rank.result ≡ before (lane_key (passed_meaning next).lane) (map passed_meaning lanes) =
    c.rank_of-rank.ensures.rank ∙ ap (λ (k : ℕ). before k (map passed_meaning c.as_slice.result.now)) c.key_of-key.ensures ∙ ap (λ (ys : List Passed). before (lane_key (passed_meaning next).lane) (map passed_meaning ys)) c.as_slice.ensures.value in
    elim c.if-rank-len.branch [
      | then-rank-len+else-key_of-key w ↦
          let read : lane_key (passed_meaning (get_or w.as_slice-then-rank-len.result.now c.rank_of-rank.result none)).lane ≡ lane_key (passed_meaning (get_or lanes c.rank_of-rank.result none)).lane =
          ap (λ (ys : List Passed). lane_key (passed_meaning (get_or ys c.rank_of-rank.result none)).lane) w.as_slice-then-rank-len.ensures.value in
          ap (map passed_meaning) c.insert.ensures.items
          ∙ put_in lanes c.rank_of-rank.result next none here (λ lt same. absurd (w.if-key_of-key.false (omega (arith, w.key_of.ensures, read, same, c.key_of-key.ensures))))
      | else-rank-len w ↦ ap (map passed_meaning) c.insert.ensures.items ∙ put_in lanes c.rank_of-rank.result next next here (λ lt same. absurd (omega (arith, lt, w.if-rank-len.false, c.len.ensures.value)))
    ]
