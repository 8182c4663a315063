-- A third party's packet changes nothing at an endpoint: under no tag of its own does it pass, an INIT is passed over, and no cookie of its making opens.
use Rattle.std.proofs.Common.{◌≡◌, ℕ, nat_le, Bool, true, false, List, [], ◌∷◌, Option, Some, None, inl, inr, refl, sym, subst, ap, eqb-true}
use Rattle.std.specs.Prelude.{◌&&◌, if◌then◌else◌}
use Rattle.sctp_model.specs.numbers.Lists.{Has}
use Rattle.sctp_model.specs.numbers.Limits.{COOKIE_LIFE}
use Rattle.sctp_model.specs.wire.Chunk.{InitMeaning, ChunkMeaning, Data, IData, Init, InitAck, Sack, Heartbeat, HeartbeatAck, Abort, Shutdown, ShutdownAck, Error, CookieEcho, CookieAck, ShutdownComplete, ForwardTsn, IForwardTsn, Unknown}
use Rattle.sctp_model.specs.wire.Packet.{Packet}
use Rattle.sctp_model.specs.wire.Places.{ArePlaced}
use Rattle.sctp_model.specs.end.Sealing.{Body, Sealing}
use Rattle.sctp_model.specs.end.EndView.{Tags, Draw, Phase, Idle, Listening, Calling, Echoing, Open, Over, Role, Caller, Paired, Listener, EndView, has_association}
use Rattle.sctp_model.specs.end.Opening.{CookieOpens, CookieLate, Strange, is_addressed, is_formed, body_read, age}
use Rattle.sctp_model.specs.end.Passing.{passes_tag, passes_first, passes_chunks}
use Rattle.sctp_model.specs.end.Strays.{Verdict, holds_abort, seal_at, listens, body_of, body_in, body_among}
use Rattle.sctp_model.specs.end.Wearing.{missed_below, wearing}
use Rattle.sctp_model.proofs.PacedEnds.{nothing_missed}
use Rattle.sctp_model.specs.end.Arriving.{AllAct, NoneLeft, Next, Last, EndsAnswered, Stopped, Arrives, Elsewhere, NotOurs, Stray, CookieBegins, Heard, Notes, no_notes, packet_ended, urged}
use Rattle.sctp_model.specs.end.Arriving.{Passes}
use Rattle.sctp_model.specs.world.Premises.{IsBody, IsStranger}
use Rattle.sctp_safety.specs.Strangers.{tags_of, IsDrawn, StrangersChangeNothing}

-- ---- tags

-- one of two tags, whichever is asked for
either_tag : (t : Tags) (reflected : Bool) (n : ℕ) → n ≡ (if reflected then t.peer else t.own) → Has (t.own ∷ t.peer ∷ []) n
either_tag t true n e = inr (inl (sym e))
either_tag t false n e = inl (sym e)

-- A tag that passes is one that the endpoint goes by.
pub passing_is_own : (h : Phase) (reflected : Bool) (n : ℕ) → has_association h ≡ true → passes_tag h reflected n ≡ true → Has (tags_of h) n
passing_is_own Idle b n has e = absurd (cc)
passing_is_own Listening b n has e = absurd (cc)
passing_is_own (Calling d) true n has e = absurd (cc)
passing_is_own (Calling d) false n has e = inl (sym (eqb-true n d.tag e))
passing_is_own (Echoing t xs) b n has e = either_tag t b n (eqb-true n (if b then t.peer else t.own) e)
passing_is_own (Open t g) b n has e = either_tag t b n (eqb-true n (if b then t.peer else t.own) e)
passing_is_own (Over why) b n has e = absurd (cc)

-- Every first chunk but an INIT goes by them.
pub data GoesBy (h : Phase) (n : ℕ) : ChunkMeaning → Type 0 where
  Zero : (m : InitMeaning) → GoesBy h n (Init m)
  Tag : (x : ChunkMeaning) (reflected : Bool) → passes_tag h reflected n ≡ true → GoesBy h n x

pub goes_by : (h : Phase) (x : ChunkMeaning) (n : ℕ) → passes_first h x n ≡ true → GoesBy h n x
goes_by h (Init m) n e = Zero m
goes_by h (Abort b xs) n e = Tag _ b e
goes_by h (ShutdownComplete b) n e = Tag _ b e
goes_by h (Data p) n e = Tag _ false e
goes_by h (IData p) n e = Tag _ false e
goes_by h (InitAck m) n e = Tag _ false e
goes_by h (Sack s) n e = Tag _ false e
goes_by h (Heartbeat i) n e = Tag _ false e
goes_by h (HeartbeatAck i) n e = Tag _ false e
goes_by h (Shutdown k) n e = Tag _ false e
goes_by h ShutdownAck n e = Tag _ false e
goes_by h (Error xs) n e = Tag _ false e
goes_by h (CookieEcho xs) n e = Tag _ false e
goes_by h CookieAck n e = Tag _ false e
goes_by h (ForwardTsn m) n e = Tag _ false e
goes_by h (IForwardTsn m) n e = Tag _ false e
goes_by h (Unknown k f v) n e = Tag _ false e

-- ---- an INIT

-- an INIT is alone in its packet
init_alone : (m : InitMeaning) (xs : List ChunkMeaning) → ArePlaced (Init m ∷ xs) → xs ≡ []
init_alone m [] placed = refl
init_alone m (y ∷ ys) placed = absurd (cc)

-- and is passed over if there is an association
init_passed : (e t : EndView) (n : Notes) (gap : Bool) (tag : ℕ) (m : InitMeaning) (v : Verdict) → AllAct tag e no_notes (Init m ∷ []) t n v → packet_ended (urged gap n) (wearing (missed_below e.pace) t) ≡ e
init_passed e t n gap tag m v (Next _ _ _ _ _ _ _ _ _ act more) = absurd (cc)
init_passed e t n gap tag m v (Passes _ _ _ _ _ _ _ act (NoneLeft _ _)) = nothing_missed e
init_passed e t n gap tag m v (Last _ _ _ _ _ act) = absurd (cc)
init_passed e t n gap tag m v (EndsAnswered _ _ _ _ _ _ act) = absurd (cc)
init_passed e t n gap tag m v (Stopped _ _ _ _ _ act) = nothing_missed e

-- ---- a cookie

-- A body that begins an association was in a cookie, first in its packet, at a listener whose seal opened it.
pub record IsFound (e : EndView) (tag : ℕ) (xs : List ChunkMeaning) (b : Body) : Type 0 where
  pub seal : Sealing
  pub role : e.role ≡ Listener seal
  pub phase : e.phase ≡ Listening
  pub cookie : List ℕ
  pub behind : List ChunkMeaning
  pub chunks : xs ≡ CookieEcho cookie ∷ behind
  pub opens : seal.opened cookie ≡ Some b
  pub addressed : is_addressed e tag b ≡ true
  pub formed : is_formed e b ≡ true

pub listener_is : (h : Phase) (r : Role) (z : Sealing) → seal_at h r ≡ Some z → (h ≡ Listening) × (r ≡ Listener z)
listener_is Listening (Listener y) z e = let q : y ≡ z = cc in (refl, ap (λ (u : Sealing). Listener u) q)
listener_is Listening Caller z e = absurd (cc)
listener_is Listening Paired z e = absurd (cc)
listener_is Idle r z e = absurd (cc)
listener_is (Calling d) r z e = absurd (cc)
listener_is (Echoing t xs) r z e = absurd (cc)
listener_is (Open t g) r z e = absurd (cc)
listener_is (Over w) r z e = absurd (cc)

both_tests : (a b : Bool) → (a && b) ≡ true → (a ≡ true) × (b ≡ true)
both_tests true b h = (refl, h)
both_tests false b h = absurd (cc)

opens_is : (e : EndView) (tag : ℕ) (o : Option Body) (b : Body) → body_of (body_read e tag o) ≡ Some b → (o ≡ Some b) × (is_addressed e tag b ≡ true) × (is_formed e b ≡ true)
opens_is e tag None b h = absurd (cc)
opens_is e tag (Some x) b h = go (is_addressed e tag x && is_formed e x) refl h
  where
    inner : (c : Bool) → body_of (if c then CookieOpens x else CookieLate x) ≡ Some b → x ≡ b
    inner true q = cc
    inner false q = absurd (cc)

    go : (a : Bool) → (is_addressed e tag x && is_formed e x) ≡ a → body_of (if a then (if nat_le (age e.moment x) COOKIE_LIFE then CookieOpens x else CookieLate x) else Strange) ≡ Some b →
        (Some x ≡ Some b) × (is_addressed e tag b ≡ true) × (is_formed e b ≡ true)
    go true a q =
        let s = inner (nat_le (age e.moment x) COOKIE_LIFE) q in
        let both = both_tests (is_addressed e tag x) (is_formed e x) a in
        (ap (λ (y : Body). Some y) s, subst (λ (y : Body). is_addressed e tag y ≡ true) s both.0, subst (λ (y : Body). is_formed e y ≡ true) s both.1)
    go false a q = absurd (cc)

pub found_is : (e : EndView) (tag : ℕ) (xs : List ChunkMeaning) (b : Body) → body_among e tag xs ≡ Some b → IsFound e tag xs b
found_is e tag [] b h = absurd (cc)
found_is e tag (x ∷ xs) b h = go (holds_abort (x ∷ xs)) h
  where
    by_chunk : (o : Option Sealing) → listens e ≡ o → (y : ChunkMeaning) → body_in o e tag y ≡ Some b → IsFound e tag (y ∷ xs) b
    by_chunk (Some z) is (CookieEcho cookie) q =
        let l = listener_is e.phase e.role z is in
        let o = opens_is e tag (z.opened cookie) b q in
        record { seal = z; role = l.1; phase = l.0; cookie = cookie; behind = xs; chunks = refl; opens = o.0; addressed = o.1; formed = o.2 }
    by_chunk None is (CookieEcho cookie) q = absurd (cc)
    by_chunk (Some z) is y q = absurd (cc)
    by_chunk None is y q = absurd (cc)

    go : (a : Bool) → (if a then None else body_in (listens e) e tag x) ≡ Some b → IsFound e tag (x ∷ xs) b
    go true q = absurd (cc)
    go false q = by_chunk (listens e) refl x q

-- ---- the law

pub none_left : (tag : ℕ) (e t : EndView) (n : Notes) (gap : Bool) (v : Verdict) → AllAct tag e no_notes [] t n v → packet_ended (urged gap n) (wearing (missed_below e.pace) t) ≡ e
none_left tag e t n gap v (NoneLeft _ _) = nothing_missed e

-- if a packet begins with an INIT, that is all of it
abbrev pub IsInitAlone : List ChunkMeaning → Type 0
IsInitAlone ys = (m : InitMeaning) (xs : List ChunkMeaning) → ys ≡ Init m ∷ xs → xs ≡ []

module _ (s : Sealing) (drawn : List ℕ) (e t : EndView) (n : Notes) (gap : Bool) (p : Packet) (v : Verdict) (strange : IsStranger s drawn p) (own : IsDrawn drawn e.phase) where
  -- if there is an association
  heard_stays : has_association e.phase ≡ true → (xs : List ChunkMeaning) → IsInitAlone xs → passes_chunks e.phase p.tag xs ≡ true → AllAct p.tag e no_notes xs t n v → packet_ended (urged gap n) (wearing (missed_below e.pace) t) ≡ e
  heard_stays has [] alone may all = none_left p.tag e t n gap v all
  heard_stays has (x ∷ xs) alone may all = by x (goes_by e.phase x p.tag may) alone all
    where
      by : (y : ChunkMeaning) → GoesBy e.phase p.tag y → IsInitAlone (y ∷ xs) → AllAct p.tag e no_notes (y ∷ xs) t n v → packet_ended (urged gap n) (wearing (missed_below e.pace) t) ≡ e
      by y (Tag _ reflected through) stands acts = absurd (strange.untagged (own p.tag (passing_is_own e.phase reflected p.tag has through)))
      by y (Zero m) stands acts =
          init_passed e t n gap p.tag m v (subst (λ (ys : List ChunkMeaning). AllAct p.tag e no_notes (Init m ∷ ys) t n v) (stands m xs refl) acts)

  -- no cookie of a third party opens
  pub nothing_found : ((z : Sealing) → e.role ≡ Listener z → z ≡ s) → (b : Body) → IsFound e p.tag p.chunks b → ⊥
  nothing_found one b f = strange.chunks (CookieEcho f.cookie) held (is_body (s.opened f.cookie) opens)
    where
      held : Has p.chunks (CookieEcho f.cookie)
      held = subst (λ (xs : List ChunkMeaning). Has xs (CookieEcho f.cookie)) (sym f.chunks) (inl refl)

      opens : s.opened f.cookie ≡ Some b
      opens = subst (λ (z : Sealing). z.opened f.cookie ≡ Some b) (one f.seal f.role) f.opens

      is_body : (o : Option Body) → o ≡ Some b → IsBody o
      is_body (Some x) q = tt
      is_body None q = absurd (cc)

-- So the endpoint stays, even if a packet is cut before some chunk.
pub stranger_stays : (s : Sealing) (drawn : List ℕ) (e : EndView) (d : Draw) (p : Packet) (t : EndView) (v : Verdict) →
    IsStranger s drawn p → IsInitAlone p.chunks → IsDrawn drawn e.phase → ((z : Sealing) → e.role ≡ Listener z → z ≡ s) → Arrives e d p t v → t ≡ e
stranger_stays s drawn e d p t v strange alone own one (Elsewhere ports) = refl
stranger_stays s drawn e d p t v strange alone own one (NotOurs ports may) = refl
stranger_stays s drawn e d p t v strange alone own one (Stray ports may none closed) = refl
stranger_stays s drawn e d p t v strange alone own one (CookieBegins b _ _ _ ports may none opens acts gap _) =
    absurd (nothing_found s drawn e t no_notes gap p v strange own one b (found_is e p.tag p.chunks b opens))
stranger_stays s drawn e d p t v strange alone own one (Heard u n _ ports may has acts gap _) = heard_stays s drawn e u n gap p v strange own has p.chunks alone may acts

pub placed_alone : (ys : List ChunkMeaning) → ArePlaced ys → IsInitAlone ys
placed_alone ys placed m xs is = init_alone m xs (subst ArePlaced is placed)

pub strangers_change_nothing : StrangersChangeNothing
strangers_change_nothing s drawn e d p t v strange placed own one arrives = stranger_stays s drawn e d p t v strange (placed_alone p.chunks placed) own one arrives
