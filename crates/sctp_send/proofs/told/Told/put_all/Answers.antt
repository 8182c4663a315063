use Rattle.std.proofs.Common.{◌∙◌, arith, subst, length, ap, sym}
use Rattle.sctp_send.specs.SenderStands.{Keeps}
use Rattle.sctp_send.specs.inner.Stocking.{bare, stocked, AllPut, IsPut}
use Rattle.sctp_send.specs.declared.stock.Stock.{Stock}
use Rattle.sctp_send.proofs.fill.FilledLemmas.{loop_init, loop_more, loop_stopped, loop_ends}
use Rattle.sctp_send.proofs.fill.SendingLemmas.{counted_going}
use Rattle.sctp_send.proofs.told.Told.put_all.Goals as goal

pub loop-turn-init : goal.loop-turn-init
loop-turn-init g c = record {
  reserved = c.requires.reserved;
  sized = c.requires.sized;
  left = let none = ap length c.requires.fresh in omega (arith, none);
  so_far = λ v keeps. loop_init g.F.Framing.format (bare c.args.self.now) v c.args.packet.now c.args.stock.now c.none-sendings.result keeps c.requires.fresh c.none-sendings.ensures;
}

pub go-requires-clause-told : goal.go-requires-clause-told
go-requires-clause-told g c =
    let so_far = c.loop-turn.invariant in
    rw c.in-Some.ensures.same (omega (arith, so_far.left, c.loop-turn-test.true, c.requires.told))

pub loop-turn-preserved : goal.loop-turn-preserved
loop-turn-preserved g c =
    let f = g.F.Framing.format in
    let s = bare c.args.self.now in
    let before = c.loop-turn.invariant in
    let same = c.in-Some.ensures.same in
    record {
      reserved = c.go.ensures.reserved;
      sized = c.go.ensures.sized;
      left = let left = rw same at c.go.ensures.left in omega (arith, left, before.left);
      so_far = λ v keeps.
          let x = before.so_far v keeps in
          let goes = c.in-Some.ensures.goes x.view c.loop-turn.packet x.keeps c.room.ensures.room in
          let put = subst (λ (d : Stock). Keeps f (stocked s d) x.view → IsPut f s x.view c.loop-turn.packet c.go.new.packet d c.go.new.stock) same (λ k. c.go.ensures.put x.view k goes) in
          loop_more f s v c.args.packet.now c.loop-turn.packet c.go.new.packet c.loop-turn.stock c.go.new.stock c.loop-turn.turn c.loop-turn.sendings c.count.new.self x (omega (arith, c.loop-turn-test.true, c.requires.few)) (put x.keeps)
          (λ w is. c.count.ensures ∙ counted_going f _ x.view c.in-Some.going c.loop-turn.sendings w x.keeps goes.0 is);
    }

pub returns-in_default-clause-all : goal.returns-in_default-clause-all
returns-in_default-clause-all g c = λ v keeps.
    let f = g.F.Framing.format in
    let s = bare c.args.self.now in
    let x = c.loop-turn.invariant.so_far v keeps in
    let none = c.in_default.ensures.goes x.view c.loop-turn.packet x.keeps c.room.ensures.room in
    subst (λ (d : Stock). AllPut f s v c.args.packet.now c.loop-turn.packet d c.loop-turn.sendings) (sym c.in_default.ensures.same)
    (loop_stopped f s v c.args.packet.now c.loop-turn.packet c.loop-turn.stock c.loop-turn.turn c.loop-turn.sendings x none)

pub returns-clause-all : goal.returns-clause-all
returns-clause-all g c = λ v keeps.
    absurd (loop_ends g.F.Framing.format (bare c.args.self.now) v c.args.packet.now c.loop-turn.packet c.loop-turn.stock c.loop-turn.turn c.loop-turn.sendings (c.loop-turn.invariant.so_far v keeps) (omega (arith, c.requires.more, c.loop-turn-test.false)))
