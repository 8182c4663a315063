-- The caller before its association has both endpoints: what its bag and the listener's say to it, in each state.
use Rattle.std.proofs.Common.{◌≡◌, ℕ, true, false, List, [], ◌∷◌, ◌++◌, Some, inl, inr, refl, sym, subst, ap, ◌∙◌}
use Rattle.sctp_model.specs.numbers.Lists.{Has}
use Rattle.sctp_model.specs.wire.Chunk.{InitMeaning, ChunkMeaning, Init, InitAck, CookieEcho, CookieAck}
use Rattle.sctp_model.specs.wire.Packet.{Packet}
use Rattle.sctp_model.specs.end.Sealing.{Body}
use Rattle.sctp_model.specs.end.EndView.{Configuration, Terms, Tags, Established, Draw, Ended, Phase, Idle, Listening, Calling, Echoing, Open, Over, EndView, has_association, IsDraw}
use Rattle.sctp_model.specs.end.Options.{STATE_COOKIE, value_of}
use Rattle.sctp_model.specs.end.Opening.{echoing, terms_of_ack, terms_of_body, tags_of_body}
use Rattle.sctp_model.specs.end.Strays.{Verdict}
use Rattle.sctp_model.specs.end.Arriving.{AllAct, NoneLeft, Next, Last, EndsAnswered, Stopped, Notes, noted}
use Rattle.sctp_model.specs.end.Arriving.{Passes}
use Rattle.sctp_model.specs.end.Closing.{rested}
use Rattle.sctp_model.specs.end.UserCalls.{is_open}
use Rattle.sctp_model.specs.world.World.{A, Setup, configuration_of}
use Rattle.sctp_safety.specs.States.{has_agreed}
use Rattle.sctp_safety.specs.Strangers.{IsDrawn}
use Rattle.sctp_safety.specs.Agreement.{AreAgreed, AreEachOthers}
use Rattle.sctp_safety.proofs.machine.Turns.{IsPlainTurn, Stays, Leaves, Goes, IsPlain, plain_rested, rested_has, IsLeft, Plainly, Accepts, Acked, goes_left, ends_plain, replies_plain}
use Rattle.sctp_safety.proofs.machine.AnswerToInit.{init_of, IsAnswer}

-- ---- what is said to a caller, by its state

-- an INIT of its bag: none before it called; then the one of its draw
abbrev pub InitFits : Setup → Phase → InitMeaning → Type 0
InitFits s Idle m = ⊥
InitFits s (Calling d) m = m ≡ init_of s d
InitFits s h m = Unit {0}

-- an INIT ACK of the listener's bag under a tag that was generated: none before it called; then one that answers it
abbrev pub AckFits : Setup → List ℕ → Phase → InitMeaning → Type 0
AckFits s drawn Idle m = ⊥
AckFits s drawn (Calling d) m = IsAnswer s drawn d m
AckFits s drawn h m = Unit {0}

-- The caller has joined on what this body says, under the tags that it names.
pub record IsFit (drawn : List ℕ) (e : EndView) (b : Body) : Type 0 where
  pub agreed : has_agreed e.phase ≡ true
  pub terms : AreAgreed e.terms (terms_of_body b)
  pub tags : AreEachOthers e.phase (Open (tags_of_body b) Established)
  pub listener_tag : Has drawn b.listener.tag
  pub caller_tag : Has drawn b.caller.tag

-- The caller, while the listener remembers nothing; `out` is its own bag, `back` the listener's.
pub record IsCaller (s : Setup) (drawn : List ℕ) (out back : List Packet) (e : EndView) : Type 0 where
  pub configuration : e.configuration ≡ configuration_of s A
  pub unopened : is_open e.phase ≡ false
  pub calls : e.phase ≡ Listening → ⊥
  pub draws : (d : Draw) → e.phase ≡ Calling d → IsDraw d
  pub drawn_tags : IsDrawn drawn e.phase
  pub inits : (p : Packet) (m : InitMeaning) → Has out p → Has p.chunks (Init m) → InitFits s e.phase m
  pub acks : (p : Packet) (m : InitMeaning) → Has back p → Has drawn p.tag → Has p.chunks (InitAck m) → AckFits s drawn e.phase m
  pub echoed : (p : Packet) (xs : List ℕ) (b : Body) → Has out p → Has p.chunks (CookieEcho xs) → s.sealing.opened xs ≡ Some b → IsFit drawn e b
  pub echoes : (t : Tags) (xs : List ℕ) (b : Body) → e.phase ≡ Echoing t xs → s.sealing.opened xs ≡ Some b → IsFit drawn e b

-- ---- bags that grow

pub in_more : {X : Type 0} (p : X) (ps : List X) (q : X) (P : X → Type 0) → ((r : X) → Has ps r → P r) → P p → Has (ps ++ p ∷ []) q → P q
in_more p [] q P all new (inl e) = subst P e new
in_more p [] q P all new (inr none) = elim none [ ]
in_more p (r ∷ rs) q P all new (inl e) = subst P e (all r (inl refl))
in_more p (r ∷ rs) q P all new (inr h) = in_more p rs q P (λ x k. all x (inr k)) new h

module _ (s : Setup) (drawn : List ℕ) (out back : List Packet) where
  -- a packet of the caller's that holds an INIT of its draw, a cookie that it echoes, or neither
  pub caller_gives : (e : EndView) (p : Packet) → IsCaller s drawn out back e →
      ((m : InitMeaning) → Has p.chunks (Init m) → InitFits s e.phase m) →
      ((xs : List ℕ) (b : Body) → Has p.chunks (CookieEcho xs) → s.sealing.opened xs ≡ Some b → IsFit drawn e b) → IsCaller s drawn (out ++ p ∷ []) back e
  caller_gives e p c init cookie = record {
    configuration = c.configuration;
    unopened = c.unopened;
    calls = c.calls;
    draws = c.draws;
    drawn_tags = c.drawn_tags;
    inits = λ q m h. in_more p out q (λ (r : Packet). (x : InitMeaning) → Has r.chunks (Init x) → InitFits s e.phase x) (λ r k x. c.inits r x k) init h m;
    acks = c.acks;
    echoed = λ q xs b h.
        in_more p out q (λ (r : Packet). (ys : List ℕ) (o : Body) → Has r.chunks (CookieEcho ys) → s.sealing.opened ys ≡ Some o → IsFit drawn e o) (λ r k ys o. c.echoed r ys o k) cookie h xs b;
    echoes = c.echoes;
  }

  -- a packet of the listener's
  pub caller_is_told : (e : EndView) (p : Packet) → IsCaller s drawn out back e →
      ((m : InitMeaning) → Has drawn p.tag → Has p.chunks (InitAck m) → AckFits s drawn e.phase m) → IsCaller s drawn out (back ++ p ∷ []) e
  caller_is_told e p c ack = record {
    configuration = c.configuration;
    unopened = c.unopened;
    calls = c.calls;
    draws = c.draws;
    drawn_tags = c.drawn_tags;
    inits = c.inits;
    acks = λ q m h. in_more p back q (λ (r : Packet). (x : InitMeaning) → Has drawn r.tag → Has r.chunks (InitAck x) → AckFits s drawn e.phase x) (λ r k x. c.acks r x k) ack h m;
    echoed = c.echoed;
    echoes = c.echoes;
  }

  -- ---- the caller turns

  -- it stays where it is
  caller_same : (e t : EndView) → t.configuration ≡ e.configuration → t.terms ≡ e.terms → t.phase ≡ e.phase → IsCaller s drawn out back e → IsCaller s drawn out back t
  caller_same e t same terms phase c = record {
    configuration = same ∙ c.configuration;
    unopened = subst (λ (h : Phase). is_open h ≡ false) (sym phase) c.unopened;
    calls = λ is. c.calls (sym phase ∙ is);
    draws = λ d is. c.draws d (sym phase ∙ is);
    drawn_tags = subst (IsDrawn drawn) (sym phase) c.drawn_tags;
    inits = λ p m h k. subst (λ (j : Phase). InitFits s j m) (sym phase) (c.inits p m h k);
    acks = λ p m h tag k. subst (λ (j : Phase). AckFits s drawn j m) (sym phase) (c.acks p m h tag k);
    echoed = λ p xs b h k o. fit b (c.echoed p xs b h k o);
    echoes = λ u xs b is o. fit b (c.echoes u xs b (sym phase ∙ is) o);
  }
    where
      fit : (b : Body) → IsFit drawn e b → IsFit drawn t b
      fit b f = record {
        agreed = subst (λ (j : Phase). has_agreed j ≡ true) (sym phase) f.agreed;
        terms = subst (λ (x : Terms). AreAgreed x (terms_of_body b)) (sym terms) f.terms;
        tags = subst (λ (j : Phase). AreEachOthers j (Open (tags_of_body b) Established)) (sym phase) f.tags;
        listener_tag = f.listener_tag;
        caller_tag = f.caller_tag;
      }

  -- it is over
  caller_over : (e t : EndView) (why : Ended) → t.configuration ≡ e.configuration → t.terms ≡ e.terms → t.phase ≡ Over why → IsCaller s drawn out back e → IsCaller s drawn out back t
  caller_over e t why same terms phase c = record {
    configuration = same ∙ c.configuration;
    unopened = subst (λ (h : Phase). is_open h ≡ false) (sym phase) refl;
    calls = λ is. let q : Over why ≡ Listening = sym phase ∙ is in absurd (cc);
    draws = λ d is. let q : Over why ≡ Calling d = sym phase ∙ is in absurd (cc);
    drawn_tags = subst (IsDrawn drawn) (sym phase) (λ n none. elim none [ ]);
    inits = λ p m h k. subst (λ (j : Phase). InitFits s j m) (sym phase) tt;
    acks = λ p m h tag k. subst (λ (j : Phase). AckFits s drawn j m) (sym phase) tt;
    echoed = λ p xs b h k o. fit b (c.echoed p xs b h k o);
    echoes = λ u xs b is o. let q : Over why ≡ Echoing u xs = sym phase ∙ is in absurd (cc);
  }
    where
      fit : (b : Body) → IsFit drawn e b → IsFit drawn t b
      fit b f = record {
        agreed = subst (λ (j : Phase). has_agreed j ≡ true) (sym phase) refl;
        terms = subst (λ (x : Terms). AreAgreed x (terms_of_body b)) (sym terms) f.terms;
        tags = subst (λ (j : Phase). AreEachOthers j (Open (tags_of_body b) Established)) (sym phase) tt;
        listener_tag = f.listener_tag;
        caller_tag = f.caller_tag;
      }

  -- a plain turn never opens it
  pub caller_turns : (e t : EndView) → t.configuration ≡ e.configuration → t.terms ≡ e.terms → IsPlainTurn e.phase t.phase → IsCaller s drawn out back e → IsCaller s drawn out back t
  caller_turns e t same terms turn c = by e.phase t.phase refl refl turn
    where
      by : (h k : Phase) → e.phase ≡ h → t.phase ≡ k → IsPlainTurn h k → IsCaller s drawn out back t
      by h k eh tk (Stays _) = caller_same e t same terms (tk ∙ sym eh) c
      by h k eh tk (Leaves _ why has) = caller_over e t why same terms tk c
      by h k eh tk (Goes u g i path) = let q : true ≡ false = sym (ap is_open eh) ∙ c.unopened in absurd (cc)

  pub caller_plain : (e t : EndView) → IsPlain e t → IsCaller s drawn out back e → IsCaller s drawn out back t
  caller_plain e t p c = caller_turns e t p.configuration p.terms p.turn c

  -- it takes an INIT ACK that answers it
  caller_accepts : (e : EndView) (m : InitMeaning) (d : Draw) (cookie : List ℕ) → e.phase ≡ Calling d → value_of STATE_COOKIE m.parameters ≡ Some cookie →
      IsAnswer s drawn d m → IsCaller s drawn out back e → IsCaller s drawn out back (echoing e d m cookie)
  caller_accepts e m d cookie is value a c = record {
    configuration = c.configuration;
    unopened = refl;
    calls = λ is. absurd (cc);
    draws = λ x q. absurd (cc);
    drawn_tags = λ n h. by_tag n h;
    inits = λ p x h k. tt;
    acks = λ p x h tag k. tt;
    echoed = λ p xs b h k o. absurd (never b (c.echoed p xs b h k o));
    echoes = λ u xs b q o. fit xs b q o;
  }
    where
      own : Has drawn d.tag
      own = subst (IsDrawn drawn) is c.drawn_tags d.tag (inl refl)

      by_tag : (n : ℕ) → Has (d.tag ∷ m.tag ∷ []) n → Has drawn n
      by_tag n (inl e) = subst (Has drawn) e own
      by_tag n (inr (inl e)) = subst (Has drawn) e a.drawn_tag
      by_tag n (inr (inr none)) = elim none [ ]

      never : (b : Body) → IsFit drawn e b → ⊥
      never b f = let q : false ≡ true = sym (ap has_agreed is) ∙ f.agreed in absurd (cc)

      fit : (xs : List ℕ) (b : Body) → {u : Tags} → Echoing (record { own = d.tag; peer = m.tag }) cookie ≡ Echoing u xs → s.sealing.opened xs ≡ Some b → IsFit drawn (echoing e d m cookie) b
      fit xs b {u} q o = subst (IsFit drawn (echoing e d m cookie)) same (record {
        agreed = refl;
        terms = subst (λ (k : Configuration). AreAgreed (terms_of_ack k d m) (terms_of_body a.body)) (sym c.configuration) a.agreed;
        tags = (a.listener_tag, a.caller_tag);
        listener_tag = subst (Has drawn) (sym a.listener_tag) a.drawn_tag;
        caller_tag = subst (Has drawn) (sym a.caller_tag) own;
      })
        where
          one : xs ≡ s.sealing.sealed a.body
          one = let x : cookie ≡ xs = cc in let v : Some cookie ≡ Some (s.sealing.sealed a.body) = sym value ∙ a.cookie in let w : cookie ≡ s.sealing.sealed a.body = cc in sym x ∙ w

          same : a.body ≡ b
          same = let h : Some a.body ≡ Some b = sym a.opens ∙ sym (ap s.sealing.opened one) ∙ o in cc

  -- ---- chunks of a packet of the listener's bag, which holds no COOKIE ACK

  module _ (p : Packet) (here : Has back p) (tagged : Has drawn p.tag) (early : Has p.chunks CookieAck → ⊥) where
    -- a chunk of it after which the packet goes on
    caller_goes : (e : EndView) (x : ChunkMeaning) (m : EndView) → Has p.chunks x → has_association e.phase ≡ true → IsCaller s drawn out back e → IsLeft e x m →
        IsCaller s drawn out back m × (has_association m.phase ≡ true)
    caller_goes e x m held has c (Plainly _ plain keeps) = (caller_plain e m plain c, keeps has)
    caller_goes e x m held has c (Accepts ack d cookie q is value) =
        let a = subst (λ (k : Phase). AckFits s drawn k ack) is (c.acks p ack here tagged (subst (Has p.chunks) q held)) in
        (caller_accepts e ack d cookie is value a c, refl)
    caller_goes e x m held has c (Acked u cookie _ q is _ _ _ _ _) = absurd (early (subst (Has p.chunks) q held))

    pub caller_acts : (tag : ℕ) (e : EndView) (b : Notes) (xs : List ChunkMeaning) (t : EndView) (m : Notes) (v : Verdict) → ((x : ChunkMeaning) → Has xs x → Has p.chunks x) →
        has_association e.phase ≡ true → IsCaller s drawn out back e → AllAct tag e b xs t m v → IsCaller s drawn out back t
    caller_acts tag e b xs t m v held has c (NoneLeft _ _) = c
    caller_acts tag e b xs t m v held has c (Next _ mid _ y _ _ x ys _ act rest) =
        let g = caller_goes e x mid (held x (inl refl)) has c (goes_left e tag x y mid act) in
        caller_acts tag (rested mid) (noted y b) ys t m v (λ z h. held z (inr h)) (rested_has mid g.1) (caller_plain mid (rested mid) (plain_rested mid) g.0) rest
    caller_acts tag e b xs t m v held has c (Passes _ _ _ _ x ys _ act rest) = caller_acts tag e b ys t m v (λ y h. held y (inr h)) has c rest
    caller_acts tag e b xs t m v held has c (Last _ _ _ x ys act) = caller_plain e t (ends_plain e tag x t has act) c
    caller_acts tag e b xs t m v held has c (EndsAnswered _ _ _ x ys r act) = caller_plain e t (replies_plain e tag x t r has act) c
    caller_acts tag e b xs t m v held has c (Stopped _ _ x ys n act) = c
