use Rattle.std.proofs.Common.{◌≡◌, ◌<◌, [], length, subst, sym, ◌∙◌, ap, arith, List, ℕ}
use Rattle.std.specs.Prelude.{IfOk}
use Rattle.sctp_model.specs.wire.Chunk.{InitMeaning, ChunkMeaning, Init}
use Rattle.sctp_model.specs.wire.Typed.{WritesTyped}
use Rattle.sctp_model.specs.end.Options.{own_options}
use Rattle.sctp_model.specs.end.Opening.{introduction, own_init}
use Rattle.sctp_wire.specs.ChunkTree.{init_meaning}
use Rattle.sctp_packet.specs.Draft.{has_room, after_try}
use Rattle.sctp_opening.specs.inner.Fitting.{IsList}
use Rattle.sctp_opening.proofs.ListLemmas.{empty_list, written_list, init-fits, options_short}
use Rattle.sctp_opening.proofs.options.put_init.Goals as goal

pub introduction-requires : goal.introduction-requires
introduction-requires c =
    let w = c.in_ok-put_options.ensures [] (rw c.new-list.ensures.items empty_list) in
    rw c.deref.ensures.value ((written_list c.put_options.new.list.items (_, w)).listed)

pub try_chunk-requires : goal.try_chunk-requires
try_chunk-requires c =
    let w : WritesTyped c.put_options.new.list.items (own_options c.args.config.now) = c.in_ok-put_options.ensures [] (rw c.new-list.ensures.items empty_list) in
    let m = init_meaning c.introduction.result in
    let is : m.parameters ≡ c.put_options.new.list.items = ap (λ (x : InitMeaning). x.parameters) c.introduction.ensures ∙ c.deref.ensures.value in
    let short : length m.parameters < 60000 = rw (is, w.bytes_are) (let h = options_short c.args.config.now in omega arith) in
    init-fits m (record { tag = omega arith; rwnd = omega arith; outbound = omega arith; inbound = omega arith; tsn = omega arith; short = short; list = subst IsList (sym is) (_, w) })

pub returns-clause-answer : goal.returns-clause-answer
returns-clause-answer c =
    let w : WritesTyped c.put_options.new.list.items (own_options c.args.config.now) = c.in_ok-put_options.ensures [] (rw c.new-list.ensures.items empty_list) in
    let same : Init (init_meaning c.introduction.result) ≡ own_init c.args.config.now c.args.draw
    = ap (λ m. Init m) (c.introduction.ensures ∙ ap (λ (xs : List ℕ). introduction c.args.config.now c.args.draw xs) (c.deref.ensures.value ∙ w.bytes_are)) in
    subst (λ (m : ChunkMeaning). IfOk c.try_chunk.result (λ put. put ≡ has_room c.args.writer.now m)) same c.try_chunk.ensures.answer

pub returns-clause-after : goal.returns-clause-after
returns-clause-after c =
    let w : WritesTyped c.put_options.new.list.items (own_options c.args.config.now) = c.in_ok-put_options.ensures [] (rw c.new-list.ensures.items empty_list) in
    let same : Init (init_meaning c.introduction.result) ≡ own_init c.args.config.now c.args.draw
    = ap (λ m. Init m) (c.introduction.ensures ∙ ap (λ (xs : List ℕ). introduction c.args.config.now c.args.draw xs) (c.deref.ensures.value ∙ w.bytes_are)) in
    subst (λ (m : ChunkMeaning). IfOk c.try_chunk.result (λ put. c.try_chunk.new.self ≡ after_try c.args.writer.now m put)) same c.try_chunk.ensures.after
