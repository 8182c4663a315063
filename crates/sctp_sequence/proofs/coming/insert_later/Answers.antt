use Rattle.std.proofs.Common.{◌≡◌, ℕ, ◌+◌, ◌<◌, ◌≤◌, List, length, get_or, set, take, sym, ap, subst, ◌∙◌, length-set, arith}
use Rattle.std.specs.Vec.{vec_len}
use Rattle.std.specs.VecDeque.{deque_len}
use Rattle.std.specs.declared.collections.VecDeque.{VecDeque}
use Rattle.std.proofs.lemmas.List.{get_or_append_left, take-set-le}
use Rattle.std.proofs.lemmas.List.Edits.{length-insert}
use Rattle.sctp_sequence.specs.Blocks.{joined, AreStarts, IsBlock}
use Rattle.sctp_sequence.proofs.JoinedLemmas.{count_within}
use Rattle.sctp_sequence.proofs.BlockLemmas.{all-at}
use Rattle.sctp_sequence.proofs.StartLemmas.{front_insert, read_front, starts_same, starts_raised}
use Rattle.sctp_sequence.proofs.PlaceLemmas.{put_there, halved_there, as_read}
use Rattle.sctp_sequence.proofs.RoomLemmas.{was_ok, became_ok}
use Rattle.sctp_sequence.proofs.coming.insert_later.Goals as goal

pub returns-then-len-lt-BLOCK-clause-items : goal.returns-then-len-lt-BLOCK-clause-items
returns-then-len-lt-BLOCK-clause-items g c =
    let bs = c.args.rest.now.items in
    let b = c.index_mut-block.result.now in
    let k = c.find_for-place.result.block in
    let offset = c.find_for-place.result.offset in
    let less : k < length bs = omega (arith, c.args.rest.now.ok, c.find_for-place.ensures.block) in
    let inside : offset ≤ deque_len b = as_read (λ d. offset ≤ deque_len d) bs k b c.index_mut-block.ensures.value c.find_for-place.ensures.offset in
    let within : offset ≤ length b.items = omega (arith, b.ok, inside) in
    let sound = as_read IsBlock bs k b c.index_mut-block.ensures.value (λ d. all-at IsBlock bs k d less c.requires.blocks) in
    let put = was_ok c.insert.result _ _ c.insert.ensures.items c.insert.ensures.full (λ full. omega (arith, full, sound.wide, c.len.ensures, c.if-len-lt-BLOCK.true)) in
    put_there bs k c.args.at offset b less c.index_mut-block.ensures.value c.find_for-place.ensures.place c.args.item c.insert.new.self within put

pub returns-in-Some-clause-items : goal.returns-in-Some-clause-items
returns-in-Some-clause-items g c =
    let bs = c.args.rest.now.items in
    let b = c.index_mut-block.result.now in
    let k = c.find_for-place.result.block in
    let offset = c.find_for-place.result.offset in
    let less : k < length bs = omega (arith, c.args.rest.now.ok, c.find_for-place.ensures.block) in
    let inside : offset ≤ deque_len b = as_read (λ d. offset ≤ deque_len d) bs k b c.index_mut-block.ensures.value c.find_for-place.ensures.offset in
    let within : offset ≤ length b.items = omega (arith, b.ok, inside) in
    let room = c.requires.room in
    let put = became_ok c.insert-in-Some.result _ _ _ _ c.insert-in-Some.ensures.items c.insert-in-Some.ensures.full (λ full. omega (arith, full, room)) in
    ap joined put ∙ halved_there bs k c.args.at offset b less c.index_mut-block.ensures.value c.find_for-place.ensures.place c.args.item c.insert_halving.new.block c.insert_halving.new.later within c.insert_halving.ensures.items

pub raise-requires : goal.raise-requires
raise-requires g c = λ k d less.
    let bs = c.args.rest.now.items in
    let ss = c.args.starts.now in
    let within : k < vec_len c.args.rest.now = omega (arith, less, c.deref_mut.ensures.len, c.requires.each) in
    let read : get_or c.deref_mut.result.now k d ≡ length (joined (take k bs)) = ap (λ (l : List ℕ). get_or l k d) c.deref_mut.ensures.value ∙ c.requires.starts k d within in
    omega (arith, read, count_within bs k, c.requires.small)

pub returns-then-len-lt-BLOCK-clause-starts : goal.returns-then-len-lt-BLOCK-clause-starts
returns-then-len-lt-BLOCK-clause-starts g c = λ n d within.
    let bs = c.args.rest.now.items in
    let ss = c.args.starts.now in
    let m = vec_len c.args.rest.now in
    let b = c.index_mut-block.result.now in
    let k = c.find_for-place.result.block in
    let offset = c.find_for-place.result.offset in
    let less : k < length bs = omega (arith, c.args.rest.now.ok, c.find_for-place.ensures.block) in
    let inside : offset ≤ deque_len b = as_read (λ d. offset ≤ deque_len d) bs k b c.index_mut-block.ensures.value c.find_for-place.ensures.offset in
    let room : offset ≤ length b.items = omega (arith, b.ok, inside) in
    let sound = as_read IsBlock bs k b c.index_mut-block.ensures.value (λ d. all-at IsBlock bs k d less c.requires.blocks) in
    let put = was_ok c.insert.result _ _ c.insert.ensures.items c.insert.ensures.full (λ full. omega (arith, full, sound.wide, c.len.ensures, c.if-len-lt-BLOCK.true)) in
    let more : length c.insert.new.self.items ≡ length b.items + 1 = ap length put ∙ length-insert b.items offset c.args.item room in
    let old : AreStarts m c.deref_mut.result.now bs = subst (λ (l : List ℕ). AreStarts m l bs) (sym c.deref_mut.ensures.value) c.requires.starts in
    let each : length c.deref_mut.result.now ≡ m = omega (arith, c.deref_mut.ensures.len, c.requires.each) in
    let raised = starts_raised m k c.deref_mut.result.now c.raise.new.starts bs b c.insert.new.self less c.index_mut-block.ensures.value each old c.raise.ensures.before more c.raise.ensures.later in
    read_front (vec_len ss) c.raise.new.starts _ n d (omega (arith, within, c.requires.each)) (omega (arith, within, c.raise.ensures.len, each)) ∙ raised n d within

pub recount-requires-clause-small : goal.recount-requires-clause-small
recount-requires-clause-small g c =
    let bs = c.args.rest.now.items in
    let b = c.index_mut-block.result.now in
    let k = c.find_for-place.result.block in
    let offset = c.find_for-place.result.offset in
    let less : k < length bs = omega (arith, c.args.rest.now.ok, c.find_for-place.ensures.block) in
    let inside : offset ≤ deque_len b = as_read (λ d. offset ≤ deque_len d) bs k b c.index_mut-block.ensures.value c.find_for-place.ensures.offset in
    let within : offset ≤ length b.items = omega (arith, b.ok, inside) in
    let room = c.requires.room in
    let put = became_ok c.insert-in-Some.result _ _ _ _ c.insert-in-Some.ensures.items c.insert-in-Some.ensures.full (λ full. omega (arith, full, room)) in
    let all = ap joined put ∙ halved_there bs k c.args.at offset b less c.index_mut-block.ensures.value c.find_for-place.ensures.place c.args.item c.insert_halving.new.block c.insert_halving.new.later within c.insert_halving.ensures.items in
    omega (arith, ap length all ∙ length-insert (joined bs) c.args.at c.args.item c.requires.at, c.requires.small)

pub recount-requires-clause-starts : goal.recount-requires-clause-starts
recount-requires-clause-starts g c =
    let bs = c.args.rest.now.items in
    let ss = c.args.starts.now in
    let k = c.find_for-place.result.block in
    let low = c.insert_halving.new.block in
    let high = c.insert_halving.new.later in
    let room = c.requires.room in
    let put = became_ok c.insert-in-Some.result _ _ _ _ c.insert-in-Some.ensures.items c.insert-in-Some.ensures.full (λ full. omega (arith, full, room)) in
    let long : length (set bs k low) ≡ length bs = length-set bs k low in
    let read : (n d : ℕ) → n < k → get_or c.push_reserved.new.self.items n d ≡ get_or ss.items n d = λ n d below.
    ap (λ (l : List ℕ). get_or l n d) c.push_reserved.ensures.items ∙ get_or_append_left ss.items _ d n (omega (arith, below, c.find_for-place.ensures.block, c.requires.each, ss.ok.0)) in
    starts_same (vec_len c.args.rest.now) k ss.items c.push_reserved.new.self.items bs c.insert-in-Some.new.self.items (omega (arith, c.find_for-place.ensures.block)) c.requires.starts read
    (λ n below. ap (λ (l : List (VecDeque g.row.T.Denot _)). take n l) put
    ∙ front_insert (set bs k low) (k + 1) n high (omega (arith, below)) (omega (arith, long, c.args.rest.now.ok, c.find_for-place.ensures.block)) ∙ take-set-le n bs k low (omega (arith, below)))
