use Rattle.std.proofs.Common.{◌≡◌, ℕ, List, length, min, ap, sym, subst, ◌∙◌, arith}
use Rattle.std.specs.Prelude.{◌&&◌, not, nat_lt, insert, is_ok, true}
use Rattle.sctp_model.specs.numbers.Limits.{STREAM_LIMIT}
use Rattle.sctp_send.specs.ResetsKept.{is_resetting_in}
use Rattle.sctp_send.specs.inner.Ordering.{before, AreInOrder}
use Rattle.sctp_send.specs.inner.Resetting.{waiting_of}
use Rattle.sctp_send.specs.declared.kept.resets.StreamReset.{StreamReset}
use Rattle.sctp_send.proofs.resetting.WaitingLemmas.{listed_with, listed_room, listed_so, waiting_rises}
use Rattle.sctp_send.proofs.resetting.table.list_stream.Goals as goal

pub returns-then-not-is_unlisted-clause-listed : goal.returns-then-not-is_unlisted-clause-listed
returns-then-not-is_unlisted-clause-listed c = λ room was.
    let off =
    ap (λ (rs : List StreamReset). nat_lt c.args.stream (min (length rs) STREAM_LIMIT) && not (is_resetting_in rs c.args.stream)) (sym c.deref.ensures.value) ∙ sym c.is_unlisted.ensures ∙ c.if-not-is_unlisted.true in
    was ∙ listed_so c.args.table.now.streams.items c.args.stream off

pub returns-clause-listed : goal.returns-clause-listed
returns-clause-listed c = λ room was.
    let rs = c.args.table.now.streams.items in
    let stream = c.args.stream in
    let resetting = c.args.table.now.resetting in
    let on = ap (λ (xs : List StreamReset). nat_lt stream (min (length xs) STREAM_LIMIT) && not (is_resetting_in xs stream)) (sym c.deref.ensures.value) ∙ sym c.is_unlisted.ensures ∙ c.if-not-is_unlisted.false in
    let same = c.deref-2.ensures.value ∙ was in
    let rank = c.rank_of-rank.ensures.rank (subst (λ (xs : List ℕ). AreInOrder (λ (s : ℕ). s) 0 xs) (sym same) (waiting_rises rs)) ∙ ap (λ (xs : List ℕ). before (λ (s : ℕ). s) stream xs) same in
    let few = listed_room rs stream on in
    let many = ap (λ (xs : List ℕ). length xs) was in
    let ok : is_ok c.insert-listed.result ≡ true = c.insert-listed.ensures.succeeds (omega (arith, few, many, room, resetting.ok)) in
    c.insert-listed.ensures.items ∙ rw ok (ap (λ (xs : List ℕ). insert xs c.rank_of-rank.result stream) was ∙ ap (λ (n : ℕ). insert (waiting_of rs) n stream) rank ∙ listed_with rs stream on)
