use Rattle.std.proofs.Common.{◌≡◌, ◌∙◌, ℕ, ◌+◌, List, ◌++◌, ◌∷◌, [], map, length, refl, ap, sym, subst, arith, length-append}
use Rattle.std.proofs.lemmas.List.{append_assoc, map-append}
use Rattle.std.specs.declared.alloc.Global.{Global}
use Rattle.std.specs.declared.sync.Arc.{Arc}
use Rattle.sctp_model.specs.messages.Plan.{Part}
use Rattle.sctp_send.specs.PartsKept.{OutstandingKept}
use Rattle.sctp_send.specs.SenderKept.{Item}
use Rattle.sctp_send.specs.OutstandingFields.{item_meaning, lane_meaning, message_meaning}
use Rattle.sctp_send.specs.inner.Newcomers.{new_item, begun_items}
use Rattle.sctp_send.specs.inner.Owning.{AreOf, IsOwned}
use Rattle.sctp_send.specs.inner.Entering.{fragment_entry}
use Rattle.sctp_send.specs.declared.kept.entry.Entry.{Entry as Fields}
use Rattle.sctp_send.specs.declared.kept.entry.Standing.TheVariants.{Unsent}
use Rattle.sctp_send.specs.declared.kept.message.Message.{Message as MessageFields}
use Rattle.sctp_send.proofs.fill.EnterLemmas.{begun_push}
use Rattle.sctp_send.specs.declared.kept.track.Rest.{Rest}
use Rattle.sctp_send.specs.declared.stock.Stock.{Stock}
use Rattle.sctp_send.proofs.fill.OwnerLemmas.{entered_all, entered_some, owners_last, owners_left, pushed_none, rest_owned}
use Rattle.sctp_send.proofs.fill.others.enter_others.Goals as goal
use Rattle.sctp_send.proofs.fill.others.enter_others.Goals.{in-Some, in_default}

pub loop-fragment-init : goal.loop-fragment-init
loop-fragment-init c = pushed_none c.args.stock.now c.args.others.items c.args.number

pub loop-fragment-preserved : goal.loop-fragment-preserved
loop-fragment-preserved c = elim c.match-pop.branch [
  | in-Some w ↦
      let was = c.loop-fragment.invariant in
      let long = was.long in
      let many = was.many in
      let k = c.loop-fragment.fragment in
      let d = c.loop-fragment.stock in
      let es = d.outstanding.items in
      let owner = w.in-Some.message in
      let left = c.pop.new.self.items in
      let popped = w.in-Some.ensures.items in
      let e = fragment_entry owner c.args.number k Unsent in
      let come : c.match-pop.stock ≡ record d { outstanding = record d.outstanding { items = es ++ e ∷ [] } } = w.stock-is ∙ ap (λ (x : OutstandingKept). record d { outstanding = x }) w.push_fragment.ensures in
      let came : c.match-pop.stock.outstanding.items ≡ es ++ e ∷ [] = ap (λ (x : Stock). x.outstanding.items) come in
      let one : length c.match-pop.stock.outstanding.items ≡ length es + 1 = ap (λ (xs : List Fields). length xs) came ∙ length-append es (e ∷ []) in
      let fewer : length c.loop-fragment.owners.items ≡ length left + 1 = ap (λ (xs : List (Arc MessageFields Global)). length xs) popped ∙ length-append left (owner ∷ []) in
      record {
        same = come ∙ ap (λ (x : Stock). record x { outstanding = record d.outstanding { items = es ++ e ∷ [] } }) was.same ∙ ap (λ (x : OutstandingKept). record c.args.stock.now { outstanding = x }) (ap (λ (y : Stock). y.outstanding) (sym come));
        items = λ size before m are is.
            let own = owners_last m left owner (subst (AreOf m) popped (was.owners m are)) in
            let l = lane_meaning m in
            let q = message_meaning size m in
            let last : List Item = new_item (Part l c.args.number k) q ∷ [] in
            ap (map (item_meaning size)) came ∙ map-append (item_meaning size) es (e ∷ [])
            ∙ ap (λ (x : MessageFields). map (item_meaning size) es ++ new_item (Part (lane_meaning x) c.args.number k) (message_meaning size x) ∷ []) own.0
            ∙ ap (λ (xs : List Item). xs ++ last) (was.items size before m are is)
            ∙ append_assoc before (begun_items l c.args.number q k) last
            ∙ ap (λ (xs : List Item). before ++ xs) (sym (begun_push l c.args.number q k (omega arith)));
        owners = λ m are. (owners_last m left owner (subst (AreOf m) popped (was.owners m are))).1;
        many = omega (arith, many, fewer);
        long = omega (arith, long, one);
        room = record {
          size = ap (λ (x : Stock). x.outstanding.size) come ∙ was.room.size;
          header = ap (λ (x : Stock). x.outstanding.header) come ∙ was.room.header;
          capacity = ap (λ (x : Stock). x.outstanding.capacity) come ∙ was.room.capacity;
        };
      }
  | in_default w ↦
      let was = c.loop-fragment.invariant in
      let none = w.in_default.ensures.cases in
      let many = was.many in
      absurd (omega (arith, none.0, many, c.loop-fragment.owners.ok.0, c.requires.owners))
]

pub push_fragment-requires : goal.push_fragment-requires
push_fragment-requires c = let long = c.loop-fragment.invariant.long in let capacity = c.loop-fragment.invariant.room.capacity in omega (arith, long, capacity, c.requires.room)

pub leave-idle-requires-clause-within : goal.leave-idle-requires-clause-within
leave-idle-requires-clause-within c = let wide = ap (λ (x : Stock). length x.streams.items) c.loop-fragment.invariant.same in omega (arith, wide, c.from.ensures, c.requires.stream)

pub leave-idle-requires-clause-owned : goal.leave-idle-requires-clause-owned
leave-idle-requires-clause-owned c =
    let was = c.loop-fragment.invariant in
    let many = was.many in
    let all : c.loop-fragment.fragment ≡ c.args.count = omega arith in
    let size = c.loop-fragment.stock.streams.size in
    let r : Rest = record { message = c.in-Some-pop.message; fragment = c.args.count; others = c.pop-2.new.self } in
    let x = c.requires.owned in
    let owned = subst (λ (n : ℕ). IsOwned n 0 x.0 c.args.others.items) (ap (λ (y : Stock). y.streams.size) (sym was.same)) x.1 in
    rest_owned size c.args.count x.0 r c.loop-fragment.owners.items c.in-Some-pop.ensures.items refl c.requires.some
    (owners_left size c.args.count x.0 c.args.others.items c.loop-fragment.owners.items c.requires.some (omega (arith, many, all)) (was.owners x.0.value owned.all) owned)

pub returns-in_default-pop : goal.returns-in_default-pop
returns-in_default-pop c = λ m owned.
    let all : c.loop-fragment.fragment ≡ c.args.count = omega arith in
    entered_all c.args.stock.now.streams.size c.args.stream c.args.number c.args.count m c.args.others.items c.loop-fragment.owners.items c.args.stock.now c.loop-fragment.stock (rw all at c.loop-fragment.invariant) c.requires.some (omega (arith, c.in_default-pop.ensures.cases.0, c.loop-fragment.owners.ok.0)) c.requires.idle owned

pub returns : goal.returns
returns c = λ m owned.
    let all : c.loop-fragment.fragment ≡ c.args.count = omega arith in
    let r : Rest = record { message = c.in-Some-pop.message; fragment = c.args.count; others = c.pop-2.new.self } in
    entered_some c.args.stock.now.streams.size c.args.stream c.from.result c.args.number c.args.count m c.args.others.items c.loop-fragment.owners.items c.args.stock.now c.loop-fragment.stock c.leave-idle.new.self r c.leave-idle.result
    (rw all at c.loop-fragment.invariant) c.requires.some c.in-Some-pop.ensures.items refl c.from.ensures c.requires.stream c.leave-idle.ensures.before c.leave-idle.ensures.after owned
