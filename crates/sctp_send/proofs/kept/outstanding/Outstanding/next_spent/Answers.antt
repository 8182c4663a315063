use Rattle.std.proofs.Common.{◌≡◌, ◌+◌, ◌≤◌, length, false, Some, None, inl, inr, refl, sym, ap, subst, ◌∙◌, arith}
use Rattle.std.specs.Prelude.{slice_get}
use Rattle.std.proofs.lemmas.List.{length-map}
use Rattle.sctp_send.specs.PartsKept.{OutstandingKept}
use Rattle.sctp_send.specs.inner.Wearing.{SaysSpent, NextSpentAnswer}
use Rattle.sctp_send.specs.inner.TicketOrder.{ticket_of, tickets_of}
use Rattle.sctp_send.specs.declared.kept.entry.Entry.{Entry as EntryFields}
use Rattle.sctp_send.specs.declared.kept.message.Message.{Message as MessageFields}
use Rattle.sctp_send.proofs.kept.HeadLemmas.{all_passed}
use Rattle.sctp_send.proofs.kept.TicketWalks.{same_entry, ticket_read, ticket_within}
use Rattle.sctp_send.proofs.kept.outstanding.Outstanding.next_spent.Goals as goal

pub loop-passed-init : goal.loop-passed-init
loop-passed-init c =
    let es = c.self.inside.entries.items in
    let above = c.heads_above-heads.ensures.above in
    record {
      heads = c.heads_above-heads.ensures.heads;
      left = above.left;
      at = refl;
      passed = λ n e read before low. absurd (let le = above.lower n (ticket_of e) (ticket_read es n e read) before in omega (arith, le, low));
    }

pub lower-step-requires : goal.lower-step-requires
lower-step-requires c =
    let h = c.loop-passed.invariant in
    let at = h.at in
    record { order = c.self.invariant.order; heads = h.heads; some = omega (arith, at, c.loop-passed-test.true, c.len-passed-end.ensures, c.self.inside.entries.ok) }

pub index-entry-requires : goal.index-entry-requires
index-entry-requires c =
    let s = c.self.inside in
    let next = c.lower-step.ensures.lower in
    let within = ticket_within s.entries.items c.lower-step.result.offset next.ticket next.there in
    omega (arith, within, s.entries.ok)

pub loop-passed-preserved : goal.loop-passed-preserved
loop-passed-preserved c =
    let es = c.self.inside.entries.items in
    let h = c.loop-passed.invariant in
    let next = c.lower-step.ensures.lower in
    let x = c.index-entry.result.now in
    let mine = same_entry es c.lower-step.result.offset next.ticket x next.there c.index-entry.ensures in
    record {
      heads = c.lower-step.ensures.heads;
      left = (next.above c.args.last h.left).1;
      at = let at = h.at in let more = next.one_more in omega (arith, at, more);
      passed = λ n e read before low. elim (next.passed n before) [
        | inl was ↦ h.passed n e read was low
        | inr is ↦
            let same : x ≡ e = let both = sym mine.0 ∙ ap (slice_get es) (sym is) ∙ read in cc in
            subst (λ (y : EntryFields). SaysSpent c.args.partial y false) same (λ r capped. c.is_at_limit.ensures r capped ∙ c.if-is_at_limit.false)
      ];
    }

pub returns-then-is_at_limit : goal.returns-then-is_at_limit
returns-then-is_at_limit c =
    let es = c.self.inside.entries.items in
    let h = c.loop-passed.invariant in
    let next = c.lower-step.ensures.lower in
    let x = c.index-entry.result.now in
    let mine = same_entry es c.lower-step.result.offset next.ticket x next.there c.index-entry.ensures in
    let ticket : c.deref.result.now.ticket ≡ ticket_of x = ap (λ (m : MessageFields). m.ticket) c.deref.ensures in
    let own = mine.1 in
    subst (λ (k : OutstandingKept). NextSpentAnswer c.args.partial c.args.last k.items (Some c.deref.result.now.ticket)) c.self.view_is (record {
      above = let above = (next.above c.args.last h.left).0 in omega (arith, above, ticket, own);
      at = c.lower-step.result.offset;
      entry = x;
      there = mine.0;
      mine = sym ticket;
      spent = λ r capped. c.is_at_limit.ensures r capped ∙ c.if-is_at_limit.true;
      before = λ n e read low high. elim (next.lowest n (ticket_of e) (ticket_read es n e read)) [
        | inl was ↦ h.passed n e read was low
        | inr le ↦ absurd (omega (arith, le, high, ticket, own))
      ];
    })

pub returns : goal.returns
returns c =
    let s = c.self.inside in
    let es = s.entries.items in
    let h = c.loop-passed.invariant in
    let at = h.at in
    let long = length-map es ticket_of in
    let end : length (tickets_of es) ≤ c.loop-passed.heads.front + c.loop-passed.heads.rank = omega (arith, at, long, c.loop-passed-test.false, c.len-passed-end.ensures, s.entries.ok) in
    subst (λ (k : OutstandingKept). NextSpentAnswer c.args.partial c.args.last k.items None) c.self.view_is
    (λ n e read low. h.passed n e read (all_passed (tickets_of es) s.by_ticket (omega (arith, long, s.entries.ok)) c.self.invariant.order c.loop-passed.heads h.heads end n (ticket_of e) (ticket_read es n e read)) low)
