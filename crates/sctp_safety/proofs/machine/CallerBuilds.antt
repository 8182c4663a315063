-- What a caller builds before it is open: its INIT, its COOKIE ECHO, and an ERROR beside that.
use Rattle.std.proofs.Common.{◌≡◌, ℕ, Bool, true, false, List, [], ◌∷◌, ◌++◌, Some, inl, inr, refl, sym, subst, ap, ◌∙◌}
use Rattle.sctp_model.specs.numbers.Lists.{Has}
use Rattle.sctp_model.specs.wire.Chunk.{InitMeaning, ChunkMeaning, Init, CookieEcho}
use Rattle.sctp_model.specs.wire.Packet.{Packet}
use Rattle.sctp_model.specs.end.Sealing.{Body}
use Rattle.sctp_model.specs.end.EndView.{Configuration, Tags, Draw, Phase, Calling, Echoing, EndView}
use Rattle.sctp_model.specs.end.Opening.{own_init}
use Rattle.sctp_model.specs.end.Building.{Slot, EchoSlot, ErrorSlot, echoing_slots, Wants, EchoCookie, AckCookie, AckHeartbeat, Beat, ReportCauses, Acknowledge, PassOn, AnswerReset, AskReset, SayShutdown, AnswerShutdown, Puts, NoMore, NotDue, Put, IsFull, Builds, Sleeps, Waits, Calls, Echoes, Fills, once_built}
use Rattle.sctp_model.specs.end.Building.{EndsFull}
use Rattle.sctp_model.specs.end.UserCalls.{is_open}
use Rattle.sctp_model.specs.world.World.{Setup}
use Rattle.sctp_safety.proofs.machine.Turns.{builds_plain}
use Rattle.sctp_safety.proofs.machine.AnswerToInit.{init_of}
use Rattle.sctp_safety.proofs.machine.Answering.{opens_association}
use Rattle.sctp_safety.proofs.machine.CallerFacts.{InitFits, IsFit, IsCaller, in_more, caller_gives, caller_plain}

-- a chunk of it, by the endpoint's state
pub data IsSaid (c : Configuration) (h : Phase) (y : ChunkMeaning) : Type 0 where
  Says : opens_association y ≡ false → IsSaid c h y
  Inits : (d : Draw) → h ≡ Calling d → y ≡ own_init c d → IsSaid c h y
  Returns : (t : Tags) (xs : List ℕ) → h ≡ Echoing t xs → y ≡ CookieEcho xs → IsSaid c h y

-- what goes with a COOKIE ECHO
abbrev beside_cookie : Slot → Bool
beside_cookie EchoSlot = true
beside_cookie ErrorSlot = true
beside_cookie s = false

record IsWanted (e : EndView) (x : ChunkMeaning) (t : EndView) : Type 0 where
  phase : t.phase ≡ e.phase
  configuration : t.configuration ≡ e.configuration
  said : IsSaid e.configuration e.phase x

wants_said : (s : Slot) (e : EndView) (x : ChunkMeaning) → beside_cookie s ≡ true → Wants e s x → IsWanted e x (once_built s e)
wants_said s e x may (EchoCookie u xs is) = record { phase = refl; configuration = refl; said = Returns u xs is refl }
wants_said s e x may ReportCauses = record { phase = refl; configuration = refl; said = Says refl }
wants_said s e x may AckCookie = absurd (cc)
wants_said s e x may (AckHeartbeat _ _) = absurd (cc)
wants_said s e x may Beat = absurd (cc)
wants_said s e x may (Acknowledge _ _) = absurd (cc)
wants_said s e x may PassOn = absurd (cc)
wants_said s e x may AnswerReset = absurd (cc)
wants_said s e x may (AskReset _ _) = absurd (cc)
wants_said s e x may (SayShutdown _ _) = absurd (cc)
wants_said s e x may AnswerShutdown = absurd (cc)

puts_said : (ss : List Slot) (e : EndView) (xs zs : List ChunkMeaning) (full : Bool) (t : EndView) → ((s : Slot) → Has ss s → beside_cookie s ≡ true) → Puts ss e xs zs full t →
    ((y : ChunkMeaning) → Has xs y → IsSaid e.configuration e.phase y) → (y : ChunkMeaning) → Has zs y → IsSaid e.configuration e.phase y
puts_said ss e xs zs full t may (NoMore _ _) all y h = all y h
puts_said ss e xs zs full t may (NotDue _ more _ _ _ _ _ off rest) all y h = puts_said more e xs zs full t (λ s k. may s (inr k)) rest all y h
puts_said ss e xs zs full t may (Put s more _ x _ _ _ _ due wants room rest) all y h =
    let mid = once_built s e in
    let w = wants_said s e x (may s (inl refl)) wants in
    let there : IsSaid mid.configuration mid.phase y =
    puts_said more mid (xs ++ x ∷ []) zs full t (λ r k. may r (inr k)) rest
    (λ z k. subst (λ (c : Configuration). IsSaid c mid.phase z) (sym w.configuration)
    (subst (λ (i : Phase). IsSaid e.configuration i z) (sym w.phase) (in_more x xs z (IsSaid e.configuration e.phase) all w.said k))) y h in
    subst (λ (c : Configuration). IsSaid c e.phase y) w.configuration (subst (λ (i : Phase). IsSaid mid.configuration i y) w.phase there)
puts_said ss e xs zs full t may (IsFull _ _ _ _ _ due wants room) all y h = all y h

beside : (s : Slot) → Has echoing_slots s → beside_cookie s ≡ true
beside s (inl e) = subst (λ (r : Slot). beside_cookie r ≡ true) e refl
beside s (inr (inl e)) = subst (λ (r : Slot). beside_cookie r ≡ true) e refl
beside s (inr (inr none)) = elim none [ ]

-- Each chunk that an endpoint builds that isn't open.
builds_said : (e : EndView) (zs : List ChunkMeaning) (t : EndView) → is_open e.phase ≡ false → Builds e zs t → (y : ChunkMeaning) → Has zs y → IsSaid e.configuration e.phase y
builds_said e zs t off (Sleeps _) y h = elim h [ ]
builds_said e zs t off (Waits _ _ _) y h = elim h [ ]
builds_said e zs t off (Calls d is due) y (inl q) = Inits d is (sym q)
builds_said e zs t off (Calls d is due) y (inr none) = elim none [ ]
builds_said e zs t off (Echoes _ _ _ full _ is puts) y h = puts_said echoing_slots e [] zs full t beside puts (λ x none. elim none [ ]) y h
builds_said e zs t off (EndsFull u g _ _ is puts) y h = let q : true ≡ false = sym (ap is_open is) ∙ off in absurd (cc)
builds_said e zs t off (Fills u g _ x is puts) y h = let q : true ≡ false = sym (ap is_open is) ∙ off in absurd (cc)

-- And so its bag stays a caller's, in a packet of whichever header.
pub caller_builds : (s : Setup) (drawn : List ℕ) (out back : List Packet) (e : EndView) (zs : List ChunkMeaning) (t : EndView) (p : Packet) → p.chunks ≡ zs → Builds e zs t →
    IsCaller s drawn out back e → IsCaller s drawn (out ++ p ∷ []) back t
caller_builds s drawn out back e zs t p same builds c = caller_plain s drawn (out ++ p ∷ []) back e t (builds_plain e zs t builds) (caller_gives s drawn out back e p c init cookie)
  where
    said : (y : ChunkMeaning) → Has p.chunks y → IsSaid e.configuration e.phase y
    said y h = builds_said e zs t c.unopened builds y (subst (λ (ys : List ChunkMeaning). Has ys y) same h)

    init : (m : InitMeaning) → Has p.chunks (Init m) → InitFits s e.phase m
    init m h = by (said (Init m) h)
      where
        by : IsSaid e.configuration e.phase (Init m) → InitFits s e.phase m
        by (Says off) = absurd (cc)
        by (Inits d is q) =
            let n : Init m ≡ Init (init_of s d) = q ∙ ap (λ (k : Configuration). own_init k d) c.configuration in
            let r : m ≡ init_of s d = cc in
            subst (λ (i : Phase). InitFits s i m) (sym is) r
        by (Returns u xs is q) = absurd (cc)

    cookie : (xs : List ℕ) (b : Body) → Has p.chunks (CookieEcho xs) → s.sealing.opened xs ≡ Some b → IsFit drawn e b
    cookie xs b h o = by (said (CookieEcho xs) h)
      where
        by : IsSaid e.configuration e.phase (CookieEcho xs) → IsFit drawn e b
        by (Says off) = absurd (cc)
        by (Inits d is q) = absurd (cc)
        by (Returns u ys is q) = let r : xs ≡ ys = cc in c.echoes u ys b is (subst (λ (z : List ℕ). s.sealing.opened z ≡ Some b) r o)
