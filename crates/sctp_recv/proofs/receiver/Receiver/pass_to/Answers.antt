use Rattle.std.proofs.Common.{◌≡◌, ℕ, false, List, length, map, refl, sym, ◌∙◌, ap, subst, arith}
use Rattle.std.proofs.lemmas.List.{length-map}
use Rattle.sctp_model.specs.wire.Chunk.{SkipMeaning}
use Rattle.sctp_model.specs.receiver.Receiving.{GivesAll}
use Rattle.sctp_model.specs.receiver.ForwardTaken.{names_other_stream, forwarded}
use Rattle.sctp_recv.specs.Fields.{stream_of}
use Rattle.sctp_recv.specs.Resets.{restart_in}
use Rattle.sctp_recv.specs.KeptOf.{kept_of}
use Rattle.sctp_recv.specs.ReceiverKept.{StreamKept}
use Rattle.sctp_recv.specs.StandsFor.{StandsFor}
use Rattle.sctp_wire.specs.declared.skips.Skip.{Skip}
use Rattle.sctp_wire.specs.ChunkTree.{skip_meaning}
use Rattle.sctp_recv.specs.inner.Forwarding.{AreByStream, CountAllOn, IsTouched, HaveRoom, AreQuiet, AreToPass}
use Rattle.std.specs.List.{Contains}
use Rattle.std.specs.List.Sorted.{IsNonDecreasing, IsPermutation}
use Rattle.sctp_recv.proofs.EntryLemmas.{all_counts, count_moved}
use Rattle.sctp_recv.proofs.TouchedLemmas.{are_quiet}
use Rattle.sctp_recv.proofs.ResultLemmas.{if_err}
use Rattle.sctp_recv.proofs.RestLemmas.{findable_forward}
use Rattle.sctp_recv.proofs.RecordedLemmas.{keeps_same}
use Rattle.sctp_recv.specs.inner.Bits.{AreShown}
use Rattle.sctp_recv.proofs.ShownLemmas.{shown_list, shown_view}
use Rattle.sctp_recv.proofs.ForwardKeeps.{stream_is, to_pass, keeps_forwarded}
use Rattle.sctp_recv.proofs.receiver.Receiver.pass_to.Goals as goal

pub returns-in_err-entries-clause-refused : goal.returns-in_err-entries-clause-refused
returns-in_err-entries-clause-refused g c = λ v w. if_err c.from_residual.result w

pub returns-in_err-touched-clause-refused : goal.returns-in_err-touched-clause-refused
returns-in_err-touched-clause-refused g c = λ v w. if_err c.from_residual-in_err-touched.result w

pub returns-in_err-make_rooms-clause-refused : goal.returns-in_err-make_rooms-clause-refused
unfolding StandsFor
returns-in_err-make_rooms-clause-refused g c = λ v w.
    let k = kept_of c.args.self.now in
    if_err c.from_residual-in_err-make_rooms.result (keeps_same g.F.Framing.format k v k.seen _ w.0 refl c.make_rooms.ensures.same, (c.make_rooms.ensures.filed v.kept w.1.0, w.1.1))

pub returns-then-not-all_count-clause-refused : goal.returns-then-not-all_count-clause-refused
unfolding StandsFor
returns-then-not-all_count-clause-refused g c = λ v w.
    let k = kept_of c.args.self.now in
    (keeps_same g.F.Framing.format k v k.seen _ w.0 refl c.make_rooms.ensures.same, (c.make_rooms.ensures.filed v.kept w.1.0, w.1.1))

pub returns-clause-passed : goal.returns-clause-passed
unfolding StandsFor
returns-clause-passed g c = λ v w x skips above named.
    let f = g.F.Framing.format in
    let k = kept_of c.args.self.now in
    let i = c.args.index in
    let items = c.args.self.now.streams.items in
    let olds = c.make_rooms.new.streams.items in
    let left = forwarded f v k.seen.cumulative x in
    let same : k.streams ≡ map stream_of olds = sym c.make_rooms.ensures.same in
    let kept_named : names_other_stream (length k.streams) x.skips ≡ false = ap (λ (n : ℕ). names_other_stream n x.skips) (length-map items stream_of) ∙ named in
    let count : length k.streams ≡ length olds = ap (λ (ss : List StreamKept). length ss) same ∙ length-map olds stream_of in
    let b = restart_in k.resets in
    let each = subst (λ (es : List Skip). CountAllOn f b olds (map skip_meaning es)) c.deref-2.ensures.value (c.all_count.ensures c.if-not-all_count.false) in
    let all_count = count_moved f b olds x.skips (map skip_meaning c.in_ok-entries.entries.items) (subst (λ (xs : List SkipMeaning). IsPermutation xs (map skip_meaning c.in_ok-entries.entries.items)) (sym skips) c.in_ok-entries.ensures.same) each in
    let ready = to_pass f k v x i w.0 above kept_named olds same (c.make_rooms.ensures.filed v.kept w.1.0) (λ q z got. all_counts f b olds q z x.skips got all_count) in
    let told = subst (λ (xs : List SkipMeaning). AreToPass f b i xs v left olds k.held) skips ready in
    let lows = c.args.self.now.lows in
    let touched = c.in_ok-touched.touched.items in
    let all = subst (λ (xs : List SkipMeaning). (s : ℕ) → IsTouched s lows i xs → Contains touched s) (sym skips) c.in_ok-touched.ensures.named in
    let quiet = are_quiet f b i x.skips v lows touched olds w.1.1.0 w.1.1.1.0 all (λ q z got. (ready.stream q z got).next)
    (λ q z got. w.0.skip q ∙ ap (λ (a : StreamKept). a.skip) (stream_is f k v x i w.0 above kept_named olds same q z got)) in
    let still = subst (λ (ts : List ℕ). AreQuiet f b i c.args.skips.now.skips v ts olds) (sym c.deref-3.ensures.value) (subst (λ (xs : List SkipMeaning). AreQuiet f b i xs v touched olds) skips quiet) in
    let rising = subst IsNonDecreasing (sym c.deref-3.ensures.value) c.in_ok-touched.ensures.rising in
    let room = subst (λ (ts : List ℕ). HaveRoom ts (length ts) olds) (c.deref.ensures.value ∙ sym c.deref-3.ensures.value) c.in_ok-make_rooms.ensures.room in
    let rise = subst AreByStream (sym c.deref-4.ensures.value) c.in_ok-entries.ensures.rising in
    let entries = subst (λ (es : List Skip). IsPermutation c.args.skips.now.skips (map skip_meaning es)) (sym c.deref-4.ensures.value) c.in_ok-entries.ensures.same in
    let m = c.pass_on_all-self.ensures.passed v left c.args.skips.now.skips rise entries told room rising still in
    let streams : v.streams ≡ length olds = w.0.streams ∙ count in
    let jumped = let high = above.above in c.jump.ensures (omega (arith, high)) in
    let stands = keeps_forwarded f k v x i w.0 above kept_named olds same m.0 m.1 c.pass_on_all-self.new.streams.items c.pass_on_all-self.ensures.count c.pass_on_all-self.result m.2 c.jump.new.self.kept jumped in
    let gives = subst (λ (n : ℕ). GivesAll f n left m.0) (sym streams) m.1 in
    let ws = c.args.self.now.ready.words.items in
    let before = subst (λ (ss : List StreamKept). AreShown ws ss) same (shown_list f ws k v w.0 w.1.1.1.1) in
    let shown = shown_view f _ (map stream_of c.pass_on_all-self.new.streams.items) _ m.0 stands refl (c.pass_on_all-self.ensures.shown before) in
    (m.0, gives, ((stands, m.2.filed), c.note_lowest.ensures m.0 m.2.filed (findable_forward f v m.0 k.seen.cumulative v.streams x lows gives w.1.1.1.0)), shown)
