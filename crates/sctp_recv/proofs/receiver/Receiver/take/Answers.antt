use Rattle.std.proofs.Common.{◌≡◌, ℕ, min, ◌<◌, ◌-◌, ◌∷◌, length, map, set, Some, refl, sym, ◌∙◌, ap, subst, arith}
use Rattle.std.proofs.lemmas.List.{length-map, length-set}
use Rattle.sctp_model.specs.receiver.SackMade.{first_taken, TakeLeaves}
use Rattle.sctp_model.proofs.receiver.AtRest.{take_at_rest}
use Rattle.sctp_recv.specs.HandedOf.{handed_of, message_bytes}
use Rattle.sctp_recv.specs.ReceiverKept.{StreamKept, stream_at}
use Rattle.sctp_recv.specs.Fields.{stream_of}
use Rattle.sctp_recv.specs.Resets.{resets_in}
use Rattle.sctp_recv.specs.KeptOf.{kept_of}
use Rattle.sctp_recv.specs.StandsFor.{StandsFor}
use Rattle.std.proofs.lemmas.Option.{slice_get_read}
use Rattle.sctp_recv.proofs.FiledLemmas.{filed_same}
use Rattle.sctp_recv.proofs.StreamLemmas.{stream_mapped, set_mapped, set_unchanged}
use Rattle.sctp_recv.specs.inner.Bits.{IsSameBut}
use Rattle.sctp_recv.proofs.ShownLemmas.{same_but, shown_list, shown_view}
use Rattle.sctp_recv.proofs.ReceiverSteps.{keeps_taken}
use Rattle.sctp_recv.proofs.receiver.Receiver.take.Goals as goal

pub returns-in-None : goal.returns-in-None
unfolding StandsFor
returns-in-None g c = λ v w.
    let items = c.args.self.now.streams.items in
    let l : c.from-at.result < length items = omega (arith, c.args.self.now.streams.ok) in
    let here = stream_mapped items c.from-at.result c.index_mut.result.now l c.index_mut.ensures.value in
    let there : stream_at (map stream_of items) c.args.stream ≡ stream_of c.index_mut.result.now = ap (λ (i : ℕ). stream_at (map stream_of items) i) (sym c.from-at.ensures) ∙ here in
    let same = set_unchanged items c.from-at.result c.take_first.new.stream c.index_mut.result.now l c.index_mut.ensures.value c.in-None.ensures.first.1 in
    let got = slice_get_read items (length items) c.from-at.result c.index_mut.result.now refl l c.index_mut.ensures.value in
    let files = filed_same g.F.Framing.format v.kept items c.from-at.result c.index_mut.result.now c.take_first.new.stream w.1.0 l got c.take_first.ensures.chunks in
    (v, (w.0.waiting c.args.stream ∙ ap (λ (s : StreamKept). s.waiting) there ∙ c.in-None.ensures.first.0, refl), (rw same w.0, (files, w.1.1)))

pub returns-in-Some : goal.returns-in-Some
unfolding StandsFor
returns-in-Some g c = λ v w.
    let items = c.args.self.now.streams.items in
    let s = c.args.stream in
    let x = stream_of c.take_first.new.stream in
    let l : c.from-at.result < length items = omega (arith, c.args.self.now.streams.ok) in
    let here = stream_mapped items c.from-at.result c.index_mut.result.now l c.index_mut.ensures.value in
    let there : stream_at (map stream_of items) s ≡ record x { waiting = handed_of c.in-Some.message ∷ x.waiting } =
    ap (λ (i : ℕ). stream_at (map stream_of items) i) (sym c.from-at.ensures) ∙ here ∙ c.in-Some.ensures.first in
    let less : c.less-self.result ≡ c.args.self.now.held - length (message_bytes c.in-Some.message) = c.less-self.ensures in
    let n = length-map items stream_of in
    let done = keeps_taken g.F.Framing.format (kept_of c.args.self.now) v s c.less-self.result (handed_of c.in-Some.message) x.waiting x (resets_in c.count_off.new.resets) w.0 (omega (arith, c.from-at.ensures)) there refl less c.count_off.ensures in
    let got = slice_get_read items (length items) c.from-at.result c.index_mut.result.now refl l c.index_mut.ensures.value in
    let files = filed_same g.F.Framing.format v.kept items c.from-at.result c.index_mut.result.now c.take_first.new.stream w.1.0 l got c.take_first.ensures.chunks in
    let h = handed_of c.in-Some.message in
    let leaves : TakeLeaves v s (Some h) (first_taken v s h x.waiting) = (x.waiting, w.0.waiting s ∙ ap (λ (y : StreamKept). y.waiting) there, refl) in
    let f = g.F.Framing.format in
    let old = map stream_of items in
    let y = c.take_first.new.stream in
    let ws = c.args.self.now.ready.words.items in
    let but = subst (λ (i : ℕ). IsSameBut i old (map stream_of (set items c.from-at.result y))) c.from-at.ensures (same_but items c.from-at.result y) in
    let count = length-set items c.from-at.result y in
    let waited : min 1 (length (stream_at old s).waiting) ≡ 1 = ap (λ (k : StreamKept). min 1 (length k.waiting)) there ∙ omega arith in
    let z = c.index.result.now in
    let last : c.from-at.result < length (set items c.from-at.result y) = omega (arith, l, count) in
    let now : stream_at (map stream_of (set items c.from-at.result y)) s ≡ stream_of z =
    ap (λ (i : ℕ). stream_at (map stream_of (set items c.from-at.result y)) i) (sym c.from-at.ensures) ∙ stream_mapped (set items c.from-at.result y) c.from-at.result z last c.index.ensures in
    let waits = ap (λ (k : StreamKept). min 1 (length k.waiting)) now ∙ c.has_message-waits.ensures in
    let list = c.show_change.ensures old (shown_list f ws (kept_of c.args.self.now) v w.0 w.1.1.1.1) (omega (arith, n, count)) but waited waits in
    let put = set_mapped items c.from-at.result y ∙ ap (λ (i : ℕ). set old i x) c.from-at.ensures in
    let shown = shown_view f _ _ _ (first_taken v s h x.waiting) done put list in
    (first_taken v s h x.waiting, leaves, (rw (set_mapped items c.from-at.result c.take_first.new.stream, c.from-at.ensures) done, (files, (take_at_rest g.F.Framing.format v s (Some h) (first_taken v s h x.waiting) w.1.1.0 leaves, (w.1.1.1.0, shown)))))
