use Rattle.std.proofs.Common.{◌≡◌, ◌∙◌, suc, ◌+◌, length, true, false, refl, sym, ap, subst}
use Rattle.std.specs.Prelude.{nat_lt}
use Rattle.std.specs.declared.sync.Arc.{Arc}
use Rattle.std.specs.declared.alloc.Global.{Global}
use Rattle.std.proofs.lemmas.List.{get_or_default}
use Rattle.sctp_model.specs.sender.Queueing.{cut}
use Rattle.sctp_send.specs.OutstandingFields.{lane_meaning}
use Rattle.sctp_send.specs.inner.Asking.{IsEntrance}
use Rattle.sctp_send.specs.inner.Newcomers.{number_on}
use Rattle.sctp_send.specs.inner.Stocking.{bare, stocked, FitsInto}
use Rattle.sctp_send.specs.declared.kept.entry.Content.TheVariants.{Fragment}
use Rattle.sctp_send.specs.declared.kept.message.Message.{Message as MessageFields}
use Rattle.sctp_send.proofs.fill.BegunPut.{begun_message, begun_enters, begun_asked, begun_full}
use Rattle.sctp_send.proofs.fill.NewMayLemmas.{window_read}
use Rattle.sctp_send.proofs.told.Told.lets_begin.Goals as goal

pub returns-then-not-can_begin-clause-asked : goal.returns-then-not-can_begin-clause-asked
returns-then-not-can_begin-clause-asked g c = λ v p k room stands next.
    let f = g.F.Framing.format in
    let s = bare c.args.self.now in
    let d = c.args.stock.now in
    let x = c.args.message.now in
    let count = c.args.next.count in
    let mine = begun_message f s v d c.args.next.place count c.args.next.turn x k next c.requires.its in
    let enters = begun_enters f s v d x.value c.args.next.place count c.args.next.turn (number_on (stocked s d).tracks (lane_meaning x.value)) k stands next mine refl in
    let can = c.can_begin.ensures.always s.fragment (rw (c.deref.ensures, c.requires.all) enters) in
    let clash : true ≡ false = sym can ∙ c.if-not-can_begin.true in
    absurd (cc)

pub returns-then-not-has_window-clause-asked : goal.returns-then-not-has_window-clause-asked
returns-then-not-has_window-clause-asked g c = λ v p k room stands next.
    let f = g.F.Framing.format in
    let s = bare c.args.self.now in
    let d = c.args.stock.now in
    let x = c.args.message.now in
    let count = c.args.next.count in
    let mine = begun_message f s v d c.args.next.place count c.args.next.turn x k next c.requires.its in
    let idle = rw c.deref.ensures at (c.can_begin.ensures.can s.fragment c.if-not-can_begin.false).idle in
    let window = window_read s d count x.value.stream (nat_lt count c.args.all) false c.has_window.result false idle (c.has_window.ensures.fits s.fragment (sym c.requires.sized.tracks)) c.if-not-has_window.true in
    begun_full f s v d x.value c.args.next.place count c.args.next.turn (number_on (stocked s d).tracks (lane_meaning x.value)) k stands next mine refl p _ (ap (nat_lt count) c.requires.all) window

pub returns-clause-asked : goal.returns-clause-asked
returns-clause-asked g c = λ v p k room stands next.
    let f = g.F.Framing.format in
    let s = bare c.args.self.now in
    let d = c.args.stock.now in
    let x = c.args.message.now in
    let count = c.args.next.count in
    let number = number_on (stocked s d).tracks (lane_meaning x.value) in
    let mine = begun_message f s v d c.args.next.place count c.args.next.turn x k next c.requires.its in
    let idle = rw c.deref.ensures at (c.can_begin.ensures.can s.fragment c.if-not-can_begin.false).idle in
    let window = window_read s d count x.value.stream (nat_lt count c.args.all) false c.has_window.result true idle (c.has_window.ensures.fits s.fragment (sym c.requires.sized.tracks)) c.if-not-has_window.false in
    let on = rw c.deref-2.ensures at (c.is_let_in.ensures.asked v p number (suc (s.cum + length d.outstanding.items)) k room) in
    begun_asked f s v d x.value c.args.next.place count c.args.next.turn number k stands next mine refl p _ c.is_let_in.result (ap (nat_lt count) c.requires.all) window (sym on)

pub returns-clause-can : goal.returns-clause-can
returns-clause-can g c = λ p room on.
    let size = c.args.self.now.fragment in
    let d = c.args.stock.now in
    let count = c.args.next.count in
    let same = λ (m : Arc MessageFields Global) (read : m ≡ _). sym (read ∙ get_or_default d.queue.items c.args.next.place m c.args.message.now c.requires.place ∙ sym c.requires.its) in
    record {
      place = c.requires.place;
      some = c.requires.some;
      few = c.has_window.ensures.few c.if-not-has_window.false;
      enters = λ m read. subst (λ (y : Arc MessageFields Global). IsEntrance size d y.value.stream count (length (cut size y.value.bytes.items))) (same m read) (rw (c.requires.all, c.deref.ensures) at (c.can_begin.ensures.can size c.if-not-can_begin.false));
      fits = λ m read. subst (λ (y : Arc MessageFields Global). FitsInto g.F.Framing.format p size y.value (Fragment 0)) (same m read) (rw c.deref-2.ensures at (c.is_let_in.ensures.fits p room on));
    }
