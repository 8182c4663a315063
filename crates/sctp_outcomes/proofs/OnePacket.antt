-- What a packet leaves is one endpoint, and it has one verdict.
use Rattle.std.proofs.Common.{◌≡◌, ℕ, Bool, List, [], ◌∷◌, drop, Option, Some, None, refl, sym, subst, ap, ◌∙◌}
use Rattle.sctp_model.specs.wire.Chunk.{ChunkMeaning}
use Rattle.sctp_model.specs.wire.Packet.{Packet}
use Rattle.sctp_model.specs.receiver.Laws.{IsOrdinary}
use Rattle.sctp_model.specs.receiver.ReceiverView.{ReceiverView}
use Rattle.sctp_model.specs.end.Sealing.{Body}
use Rattle.sctp_model.specs.end.EndView.{Configuration, Draw, EndView, format_of}
use Rattle.sctp_model.specs.end.Clock.{at_moment}
use Rattle.sctp_model.specs.end.Closing.{rested}
use Rattle.sctp_model.specs.end.Opening.{begun}
use Rattle.sctp_model.specs.end.PeerFaults.{After, GoesOn, Ends, PassedOver, Replies, Drops, Note, Unnoted}
use Rattle.sctp_model.specs.end.Acting.{Acts}
use Rattle.sctp_model.specs.end.Strays.{Verdict, Taken, Dropped, Answer, opened_by}
use Rattle.sctp_model.specs.end.Wearing.{missed_below, wearing}
use Rattle.sctp_outcomes.proofs.Unheard.{unheard_worn}
use Rattle.sctp_model.specs.end.Arriving.{AllAct, NoneLeft, Next, Last, EndsAnswered, Stopped, Arrives, Elsewhere, NotOurs, Stray, CookieBegins, Heard, verdict_of, Receives, DroppedUnread, ReadAs, Notes, no_notes, noted, urged, packet_ended, TellsGap, LeavesGap}
use Rattle.sctp_model.specs.end.Arriving.{Passes}
use Rattle.sctp_outcomes.proofs.Receivers.{Whatever, holds_goes, holds_rested}
use Rattle.sctp_outcomes.proofs.Ordinary.{ordinary_law}
use Rattle.sctp_outcomes.proofs.Gaps.{gaps_are_one}
use Rattle.sctp_outcomes.proofs.OneAct.{clash, one_after}

-- ---- chunks, from the first on

-- what is left to say once the first chunk left this
abbrev GoesOnSo : ℕ → EndView → Notes → List ChunkMeaning → EndView → Notes → Verdict → After → Type 0
GoesOnSo tag e b xs t m v (GoesOn k mid) = AllAct tag (rested mid) (noted k b) xs t m v
GoesOnSo tag e b xs t m v PassedOver = AllAct tag e b xs t m v
GoesOnSo tag e b xs t m v (Ends u) = (t ≡ u) × (m ≡ b) × (v ≡ Taken)
GoesOnSo tag e b xs t m v (Replies u p) = (t ≡ u) × (m ≡ b) × (v ≡ Answer p)
GoesOnSo tag e b xs t m v (Drops n) = (t ≡ e) × (m ≡ b) × (v ≡ Dropped n)

record IsFirst (tag : ℕ) (e : EndView) (b : Notes) (x : ChunkMeaning) (xs : List ChunkMeaning) (t : EndView) (m : Notes) (v : Verdict) : Type 0 where
  after : After
  acts : Acts e tag x after
  more : GoesOnSo tag e b xs t m v after

first_of : (tag : ℕ) (e : EndView) (b : Notes) (x : ChunkMeaning) (xs : List ChunkMeaning) (t : EndView) (m : Notes) (v : Verdict) → AllAct tag e b (x ∷ xs) t m v → IsFirst tag e b x xs t m v
first_of tag e b x xs t m v (Next _ mid _ k _ _ _ _ _ act rest) = record { after = GoesOn k mid; acts = act; more = rest }
first_of tag e b x xs t m v (Passes _ _ _ _ _ _ _ act rest) = record { after = PassedOver; acts = act; more = rest }
first_of tag e b x xs t m v (Last _ _ _ _ _ act) = record { after = Ends t; acts = act; more = (refl, refl, refl) }
first_of tag e b x xs t m v (EndsAnswered _ _ _ _ _ p act) = record { after = Replies t p; acts = act; more = (refl, refl, refl) }
first_of tag e b x xs t m v (Stopped _ _ _ _ n act) = record { after = Drops n; acts = act; more = (refl, refl, refl) }

-- where both end: one endpoint, the same notes, one verdict
abbrev AreOne : EndView → EndView → Notes → Notes → Verdict → Verdict → Type 0
AreOne t u m n v w = (t ≡ u) × (m ≡ n) × (v ≡ w)

none_left : (tag : ℕ) (e : EndView) (b : Notes) (t : EndView) (m : Notes) (v : Verdict) → AllAct tag e b [] t m v → AreOne t e m b v (verdict_of b.listed)
none_left tag e b t m v (NoneLeft _ _) = (refl, refl, refl)

pub one_all : (tag : ℕ) (e : EndView) (b : Notes) (xs : List ChunkMeaning) (t u : EndView) (m n : Notes) (v w : Verdict) → IsOrdinary (format_of e) e.receiver →
    AllAct tag e b xs t m v → AllAct tag e b xs u n w → AreOne t u m n v w
one_all tag e b [] t u m n v w o one other =
    let x = none_left tag e b t m v one in
    let y = none_left tag e b u n w other in
    (x.0 ∙ sym y.0, x.1 ∙ sym y.1, x.2 ∙ sym y.2)
one_all tag e b (x ∷ xs) t u m n v w o one other =
    by (first_of tag e b x xs t m v one) (first_of tag e b x xs u n w other) (one_all tag e b xs t u m n v w o) (λ mid k. one_all tag mid (noted k b) xs t u m n v w)
  where
    by : IsFirst tag e b x xs t m v → IsFirst tag e b x xs u n w → (AllAct tag e b xs t m v → AllAct tag e b xs u n w → AreOne t u m n v w) →
        ((mid : EndView) (k : Note) → IsOrdinary (format_of mid) mid.receiver → AllAct tag mid (noted k b) xs t m v → AllAct tag mid (noted k b) xs u n w → AreOne t u m n v w) →
        AreOne t u m n v w
    by f g same on = go f.after f.acts f.more (subst (GoesOnSo tag e b xs u n w) (one_after e o tag x g.after f.after g.acts f.acts) g.more)
      where
        go : (a : After) → Acts e tag x a → GoesOnSo tag e b xs t m v a → GoesOnSo tag e b xs u n w a → AreOne t u m n v w
        go (GoesOn k mid) act i j = on (rested mid) k (holds_rested (Whatever IsOrdinary) ordinary_law mid (holds_goes (Whatever IsOrdinary) ordinary_law e tag x k mid o act)) i j
        go PassedOver act i j = same i j
        go (Ends z) act i j = (i.0 ∙ sym j.0, i.1 ∙ sym j.1, i.2 ∙ sym j.2)
        go (Replies z p) act i j = (i.0 ∙ sym j.0, i.1 ∙ sym j.1, i.2 ∙ sym j.2)
        go (Drops z) act i j = (i.0 ∙ sym j.0, i.1 ∙ sym j.1, i.2 ∙ sym j.2)

-- and after its end
ended_one : (t u : EndView) (m n : Notes) (a b : Bool) (v w : Verdict) → LeavesGap t a → LeavesGap u b → AreOne t u m n v w → (packet_ended (urged a m) t ≡ packet_ended (urged b n) u) × (v ≡ w)
ended_one t u m n a b v w left there one = (
  ap (λ (z : EndView). packet_ended (urged a m) z) one.0 ∙ ap (λ (z : Notes). packet_ended (urged a z) u) one.1
      ∙ gaps_are_one u n a b (subst (λ (z : EndView). LeavesGap z a) one.0 left) there,
  one.2,
)

-- what is given up there leaves no other gap
gap_worn : (from : ℕ) (e : EndView) (gap : Bool) → LeavesGap e gap → LeavesGap (wearing from e) gap
gap_worn from e gap left =
    let u = unheard_worn from e in
    λ on. subst (λ (r : ReceiverView). TellsGap gap r) (sym u.receiver) (left (sym (ap (λ (c : Configuration). c.delay) u.configuration) ∙ on))

-- ---- the whole packet

none_some : (e : EndView) (p : Packet) (b : Body) → opened_by e p ≡ None → opened_by e p ≡ Some b → ⊥
none_some e p b n s = let q : None ≡ Some b = sym n ∙ s in absurd (cc)

pub one_arrives : (e : EndView) (d : Draw) (p : Packet) (t u : EndView) (v w : Verdict) → IsOrdinary (format_of e) e.receiver → Arrives e d p t v → Arrives e d p u w → (t ≡ u) × (v ≡ w)
one_arrives e d p t u v w o (Elsewhere _) (Elsewhere _) = (refl, refl)
one_arrives e d p t u v w o (Elsewhere a) (NotOurs c _) = absurd (clash c a)
one_arrives e d p t u v w o (Elsewhere a) (Stray c _ _ _) = absurd (clash c a)
one_arrives e d p t u v w o (Elsewhere a) (CookieBegins _ _ _ _ c _ _ _ _ _ _) = absurd (clash c a)
one_arrives e d p t u v w o (Elsewhere a) (Heard _ _ _ c _ _ _ _ _) = absurd (clash c a)
one_arrives e d p t u v w o (NotOurs c _) (Elsewhere a) = absurd (clash c a)
one_arrives e d p t u v w o (NotOurs _ _) (NotOurs _ _) = (refl, refl)
one_arrives e d p t u v w o (NotOurs _ a) (Stray _ c _ _) = absurd (clash c a)
one_arrives e d p t u v w o (NotOurs _ a) (CookieBegins _ _ _ _ _ c _ _ _ _ _) = absurd (clash c a)
one_arrives e d p t u v w o (NotOurs _ a) (Heard _ _ _ _ c _ _ _ _) = absurd (clash c a)
one_arrives e d p t u v w o (Stray c _ _ _) (Elsewhere a) = absurd (clash c a)
one_arrives e d p t u v w o (Stray _ c _ _) (NotOurs _ a) = absurd (clash c a)
one_arrives e d p t u v w o (Stray _ _ _ _) (Stray _ _ _ _) = (refl, refl)
one_arrives e d p t u v w o (Stray _ _ _ n) (CookieBegins b _ _ _ _ _ _ s _ _ _) = absurd (none_some e p b n s)
one_arrives e d p t u v w o (Stray _ _ a _) (Heard _ _ _ _ _ c _ _ _) = absurd (clash c a)
one_arrives e d p t u v w o (CookieBegins _ _ _ _ c _ _ _ _ _ _) (Elsewhere a) = absurd (clash c a)
one_arrives e d p t u v w o (CookieBegins _ _ _ _ _ c _ _ _ _ _) (NotOurs _ a) = absurd (clash c a)
one_arrives e d p t u v w o (CookieBegins b _ _ _ _ _ _ s _ _ _) (Stray _ _ _ n) = absurd (none_some e p b n s)
one_arrives e d p t u v w o (CookieBegins b i m _ _ _ _ s one gap left) (CookieBegins c j n _ _ _ _ z other hole there) =
    let both : Some b ≡ Some c = sym s ∙ z in
    let body : c ≡ b = cc in
    ended_one i j m n gap hole v w left there (one_all p.tag (begun b e) (noted Unnoted no_notes) (drop 1 p.chunks) i j m n v w (ordinary_law.fresh _ _ _ _ _) one
    (subst (λ (y : Body). AllAct p.tag (begun y e) (noted Unnoted no_notes) (drop 1 p.chunks) j n w) body other))
one_arrives e d p t u v w o (CookieBegins _ _ _ _ _ _ a _ _ _ _) (Heard _ _ _ _ _ c _ _ _) = absurd (clash c a)
one_arrives e d p t u v w o (Heard _ _ _ c _ _ _ _ _) (Elsewhere a) = absurd (clash c a)
one_arrives e d p t u v w o (Heard _ _ _ _ c _ _ _ _) (NotOurs _ a) = absurd (clash c a)
one_arrives e d p t u v w o (Heard _ _ _ _ _ c _ _ _) (Stray _ _ a _) = absurd (clash c a)
one_arrives e d p t u v w o (Heard _ _ _ _ _ c _ _ _) (CookieBegins _ _ _ _ _ _ a _ _ _ _) = absurd (clash c a)
one_arrives e d p t u v w o (Heard i m _ _ _ _ one gap left) (Heard j n _ _ _ _ other hole there) =
    let k = missed_below e.pace in
    let both = one_all p.tag e no_notes p.chunks i j m n v w o one other in
    ended_one (wearing k i) (wearing k j) m n gap hole v w (gap_worn k i gap left) (gap_worn k j hole there) (ap (wearing k) both.0, both.1, both.2)

pub one_received : (e : EndView) (now : ℕ) (d : Draw) (p : Option Packet) (t u : EndView) (v w : Verdict) → IsOrdinary (format_of e) e.receiver →
    Receives e now d p t v → Receives e now d p u w → (t ≡ u) × (v ≡ w)
one_received e now d p t u v w o DroppedUnread DroppedUnread = (refl, refl)
one_received e now d p t u v w o (ReadAs q _ _ one) (ReadAs _ _ _ other) = one_arrives (at_moment e now) d q t u v w o one other
