use Rattle.std.proofs.Common.{◌≡◌, true, false, map, ap, subst, arith}
use Rattle.std.proofs.lemmas.List.{length-map}
use Rattle.sctp_send.specs.PartsKept.{OutstandingKept}
use Rattle.sctp_send.specs.OutstandingFields.{item_meaning}
use Rattle.sctp_send.specs.declared.kept.entry.Entry.{Entry as EntryFields}
use Rattle.sctp_send.specs.declared.kept.message.Message.{Message as MessageFields}
use Rattle.sctp_send.specs.inner.Dues.{IsItemUntil}
use Rattle.sctp_send.specs.inner.TicketOrder.{ticket_of}
use Rattle.sctp_send.specs.inner.Walks.{any_uncovered, is_item_uncovered}
use Rattle.sctp_send.proofs.kept.TicketWalks.{own_passed, one_passed, own_within, own_entry, other_uncovered, one_uncovered, none_uncovered}
use Rattle.sctp_send.proofs.abandon.UntilLemmas.{item_until, covered_item, uncovered_item}
use Rattle.sctp_send.proofs.kept.outstanding.Outstanding.uncovered_until.Goals as goal

pub own_offset-requires : goal.own_offset-requires
own_offset-requires c =
    let s = c.self.inside in
    let own = c.own-own.ensures in
    let within = own.within in
    record { within = c.loop-at-test.true; ranks = own.ranks; small = omega (arith, within, length-map s.entries.items ticket_of, s.entries.ok) }

pub index-entry-requires : goal.index-entry-requires
index-entry-requires c =
    let s = c.self.inside in
    let within = own_within s.entries.items c.loop-at.at c.own_offset.result c.own-own.ensures c.loop-at-test.true c.own_offset.ensures in
    omega (arith, within, s.entries.ok)

pub loop-at-preserved : goal.loop-at-preserved
loop-at-preserved c = λ size.
    let s = c.self.inside in
    let x = c.index-entry.result.now in
    let mine = own_entry s.entries.items c.loop-at.at c.own_offset.result x c.own-own.ensures c.loop-at-test.true c.own_offset.ensures c.index-entry.ensures in
    one_passed s.entries.items s.by_ticket.first s.by_ticket.pairs.items c.own-own.result (λ (e : EntryFields). is_item_uncovered c.args.ticket (item_meaning size e) ≡ false) c.loop-at.at x mine.0
    (covered_item c.args.ticket size x c.if-not-entry.false) (c.loop-at.invariant size)

pub returns-then-not-entry-clause-some : goal.returns-then-not-entry-clause-some
returns-then-not-entry-clause-some c = λ size.
    let es = c.self.inside.entries.items in
    let x = c.index-entry.result.now in
    let within = own_within es c.loop-at.at c.own_offset.result c.own-own.ensures c.loop-at-test.true c.own_offset.ensures in
    let mine = own_entry es c.loop-at.at c.own_offset.result x c.own-own.ensures c.loop-at-test.true c.own_offset.ensures c.index-entry.ensures in
    let until = ap (λ (m : MessageFields). m.until) c.deref.ensures in
    rw until (subst (λ (k : OutstandingKept). IsItemUntil c.args.ticket x.message.value.until (map (item_meaning size) k.items)) c.self.view_is (item_until c.args.ticket size c.own_offset.result es x within c.index-entry.ensures mine.1))

pub returns-then-not-entry-clause-uncovered : goal.returns-then-not-entry-clause-uncovered
returns-then-not-entry-clause-uncovered c = λ size.
    let es = c.self.inside.entries.items in
    let x = c.index-entry.result.now in
    let within = own_within es c.loop-at.at c.own_offset.result c.own-own.ensures c.loop-at-test.true c.own_offset.ensures in
    let mine = own_entry es c.loop-at.at c.own_offset.result x c.own-own.ensures c.loop-at-test.true c.own_offset.ensures c.index-entry.ensures in
    subst (λ (k : OutstandingKept). any_uncovered c.args.ticket (map (item_meaning size) k.items) ≡ true) c.self.view_is
    (one_uncovered c.args.ticket size c.own_offset.result es x within c.index-entry.ensures (uncovered_item c.args.ticket size x mine.1 c.if-not-entry.true))

pub returns-clause-none : goal.returns-clause-none
returns-clause-none c = λ size.
    let s = c.self.inside in
    let test = λ (e : EntryFields). is_item_uncovered c.args.ticket (item_meaning size e) ≡ false in
    subst (λ (k : OutstandingKept). any_uncovered c.args.ticket (map (item_meaning size) k.items) ≡ false) c.self.view_is
    (none_uncovered c.args.ticket size s.entries.items (own_passed s.entries.items s.by_ticket.first s.by_ticket.pairs.items c.own-own.result test c.args.ticket c.own-own.ensures (other_uncovered c.args.ticket size)
    (λ k e upto read. c.loop-at.invariant size k e (omega (arith, upto, c.loop-at-test.false)) read)))
