-- The next packet of an endpoint is one, and so is what building it leaves.
use Rattle.std.proofs.Common.{◌≡◌, ℕ, Bool, true, false, List, [], ◌∷◌, ◌++◌, Some, refl, sym, subst, ap, ◌∙◌}
use Rattle.sctp_model.specs.wire.Chunk.{SackMeaning, ChunkMeaning, Sack, HeartbeatAck, Shutdown, CookieEcho}
use Rattle.sctp_model.specs.numbers.Serial.{tsn}
use Rattle.sctp_model.specs.receiver.ResetTaken.{last_finished}
use Rattle.sctp_model.proofs.receiver.OneStep.{cumulative_only}
use Rattle.sctp_model.proofs.receiver.OneSack.{sack_only}
use Rattle.sctp_model.specs.end.EndView.{Tags, Draw, Stage, Phase, Calling, Echoing, Open, EndView, has_association}
use Rattle.sctp_model.specs.end.Opening.{own_init}
use Rattle.sctp_model.specs.end.Building.{Slot, Wants, EchoCookie, AckCookie, AckHeartbeat, Beat, ReportCauses, Acknowledge, PassOn, SayShutdown, AnswerShutdown, has_room, Puts, NoMore, NotDue, Put, IsFull, echoing_slots, open_slots, Builds, Sleeps, Waits, Calls, Echoes, Fills, sent, fragments, once_built, AnswerReset, AskReset, most_blocks}
use Rattle.sctp_model.specs.end.Building.{EndsFull}
use Rattle.sctp_outcomes.proofs.OneAct.{clash}
use Rattle.sctp_model.specs.end.Reconfiguring.{asking}
use Rattle.sctp_model.specs.sender.Outgoing.{Request}
use Rattle.sctp_model.specs.wire.Reconfig.{reconfig_chunk, reset_item}
use Rattle.sctp_model.specs.sender.Resetting.{request_said}

-- the chunk of a place
one_wanted : (e : EndView) (s : Slot) (x y : ChunkMeaning) → Wants e s x → Wants e s y → x ≡ y
one_wanted e s x y (EchoCookie a xs i) (EchoCookie b ys j) =
    let both : Echoing a xs ≡ Echoing b ys = sym i ∙ j in
    let cookie : xs ≡ ys = cc in
    ap (λ (z : List ℕ). CookieEcho z) cookie
one_wanted e s x y AckCookie AckCookie = refl
one_wanted e s x y (AckHeartbeat i p) (AckHeartbeat j q) =
    let both : Some i ≡ Some j = sym p ∙ q in
    let info : i ≡ j = cc in
    ap (λ (z : List ℕ). HeartbeatAck z) info
one_wanted e s x y Beat Beat = refl
one_wanted e s x y ReportCauses ReportCauses = refl
one_wanted e s x y (Acknowledge a p) (Acknowledge b q) = ap (λ (z : SackMeaning). Sack z) (sack_only (most_blocks e.configuration) e.receiver a b p q)
one_wanted e s x y PassOn PassOn = refl
one_wanted e s x y AnswerReset AnswerReset = refl
one_wanted e s x y (AskReset q i) (AskReset r j) =
    let both : Some q ≡ Some r = sym i ∙ j in
    let request : q ≡ r = cc in
    ap (λ (z : Request). reconfig_chunk (reset_item (last_finished e.receiver) (request_said e.sender z) ∷ [])) request
one_wanted e s x y (SayShutdown c p) (SayShutdown d q) = ap (λ (z : ℕ). Shutdown (tsn e.receiver.initial z)) (cumulative_only e.receiver c d p q)
one_wanted e s x y AnswerShutdown AnswerShutdown = refl

-- the places of a packet
one_put : (ss : List Slot) (e : EndView) (xs zs ys : List ChunkMeaning) (f g : Bool) (t u : EndView) → Puts ss e xs zs f t → Puts ss e xs ys g u → (zs ≡ ys) × (f ≡ g) × (t ≡ u)
one_put ss e xs zs ys f g t u (NoMore _ _) (NoMore _ _) = (refl, refl, refl)
one_put ss e xs zs ys f g t u (NotDue _ more _ _ _ _ _ off one) (NotDue _ _ _ _ _ _ _ _ other) = one_put more e xs zs ys f g t u one other
one_put ss e xs zs ys f g t u (NotDue _ _ _ _ _ _ _ off _) (Put _ _ _ _ _ _ _ _ due _ _ _) = absurd (clash due off)
one_put ss e xs zs ys f g t u (NotDue _ _ _ _ _ _ _ off _) (IsFull _ _ _ _ _ due _ _) = absurd (clash due off)
one_put ss e xs zs ys f g t u (Put _ _ _ _ _ _ _ _ due _ _ _) (NotDue _ _ _ _ _ _ _ off _) = absurd (clash due off)
one_put ss e xs zs ys f g t u (Put s more _ x _ _ _ _ _ a _ one) (Put _ _ _ y _ _ _ _ _ b _ other) =
    one_put more (once_built s e) (xs ++ x ∷ []) zs ys f g t u one
    (subst (λ (c : ChunkMeaning). Puts more (once_built s e) (xs ++ c ∷ []) ys g u) (one_wanted e s y x b a) other)
one_put ss e xs zs ys f g t u (Put s _ _ x _ _ _ _ _ a room _) (IsFull _ _ _ y _ _ b full) =
    absurd (clash room (subst (λ (c : ChunkMeaning). has_room e xs c ≡ false) (one_wanted e s y x b a) full))
one_put ss e xs zs ys f g t u (IsFull _ _ _ _ _ due _ _) (NotDue _ _ _ _ _ _ _ off _) = absurd (clash due off)
one_put ss e xs zs ys f g t u (IsFull s _ _ y _ _ b full) (Put _ _ _ x _ _ _ _ _ a room _) =
    absurd (clash room (subst (λ (c : ChunkMeaning). has_room e xs c ≡ false) (one_wanted e s y x b a) full))
one_put ss e xs zs ys f g t u (IsFull _ _ _ _ _ _ _ _) (IsFull _ _ _ _ _ _ _ _) = (refl, refl, refl)

-- ---- the next packet

-- it has an association, and none
sleeps_not : (e : EndView) (h : Phase) → has_association e.phase ≡ false → e.phase ≡ h → has_association h ≡ true → ⊥
sleeps_not e h off is has = clash (ap has_association is ∙ has) off

call_echo : (h : Phase) (d : Draw) (t : Tags) (xs : List ℕ) → h ≡ Calling d → h ≡ Echoing t xs → ⊥
call_echo h d t xs a b = let q : Calling d ≡ Echoing t xs = sym a ∙ b in absurd (cc)

call_open : (h : Phase) (d : Draw) (t : Tags) (g : Stage) → h ≡ Calling d → h ≡ Open t g → ⊥
call_open h d t g a b = let q : Calling d ≡ Open t g = sym a ∙ b in absurd (cc)

echo_open : (h : Phase) (u : Tags) (xs : List ℕ) (t : Tags) (g : Stage) → h ≡ Echoing u xs → h ≡ Open t g → ⊥
echo_open h u xs t g a b = let q : Echoing u xs ≡ Open t g = sym a ∙ b in absurd (cc)

full_not : (e x y : EndView) (zs ys : List ChunkMeaning) → Puts open_slots (asking e) [] zs true x → Puts open_slots (asking e) [] ys false y → ⊥
full_not e x y zs ys one other = let q : true ≡ false = (one_put open_slots (asking e) [] zs ys true false x y one other).1 in absurd (cc)

pub one_built : (e : EndView) (zs ys : List ChunkMeaning) (t u : EndView) → Builds e zs t → Builds e ys u → (zs ≡ ys) × (t ≡ u)
one_built e zs ys t u (Sleeps _) (Sleeps _) = (refl, refl)
one_built e zs ys t u (Sleeps n) (Waits d i _) = absurd (sleeps_not e (Calling d) n i refl)
one_built e zs ys t u (Sleeps n) (Calls d i _) = absurd (sleeps_not e (Calling d) n i refl)
one_built e zs ys t u (Sleeps n) (Echoes a c _ _ _ i _) = absurd (sleeps_not e (Echoing a c) n i refl)
one_built e zs ys t u (Sleeps n) (EndsFull a g _ _ i _) = absurd (sleeps_not e (Open a g) n i refl)
one_built e zs ys t u (Sleeps n) (Fills a g _ _ i _) = absurd (sleeps_not e (Open a g) n i refl)
one_built e zs ys t u (Waits d i _) (Sleeps n) = absurd (sleeps_not e (Calling d) n i refl)
one_built e zs ys t u (Waits _ _ _) (Waits _ _ _) = (refl, refl)
one_built e zs ys t u (Waits _ _ off) (Calls _ _ due) = absurd (clash due off)
one_built e zs ys t u (Waits d i _) (Echoes a c _ _ _ j _) = absurd (call_echo e.phase d a c i j)
one_built e zs ys t u (Waits d i _) (EndsFull a g _ _ j _) = absurd (call_open e.phase d a g i j)
one_built e zs ys t u (Waits d i _) (Fills a g _ _ j _) = absurd (call_open e.phase d a g i j)
one_built e zs ys t u (Calls d i _) (Sleeps n) = absurd (sleeps_not e (Calling d) n i refl)
one_built e zs ys t u (Calls _ _ due) (Waits _ _ off) = absurd (clash due off)
one_built e zs ys t u (Calls d i _) (Calls c j _) =
    let both : Calling d ≡ Calling c = sym i ∙ j in
    let draw : d ≡ c = cc in
    (ap (λ (z : Draw). own_init e.configuration z ∷ []) draw, refl)
one_built e zs ys t u (Calls d i _) (Echoes a c _ _ _ j _) = absurd (call_echo e.phase d a c i j)
one_built e zs ys t u (Calls d i _) (EndsFull a g _ _ j _) = absurd (call_open e.phase d a g i j)
one_built e zs ys t u (Calls d i _) (Fills a g _ _ j _) = absurd (call_open e.phase d a g i j)
one_built e zs ys t u (Echoes a c _ _ _ i _) (Sleeps n) = absurd (sleeps_not e (Echoing a c) n i refl)
one_built e zs ys t u (Echoes a c _ _ _ i _) (Waits d j _) = absurd (call_echo e.phase d a c j i)
one_built e zs ys t u (Echoes a c _ _ _ i _) (Calls d j _) = absurd (call_echo e.phase d a c j i)
one_built e zs ys t u (Echoes _ _ _ f _ _ one) (Echoes _ _ _ g _ _ other) = let r = one_put echoing_slots e [] zs ys f g t u one other in (r.0, r.2)
one_built e zs ys t u (Echoes a c _ _ _ i _) (EndsFull b g _ _ j _) = absurd (echo_open e.phase a c b g i j)
one_built e zs ys t u (Echoes a c _ _ _ i _) (Fills b g _ _ j _) = absurd (echo_open e.phase a c b g i j)
one_built e zs ys t u (EndsFull a g _ _ i _) (Sleeps n) = absurd (sleeps_not e (Open a g) n i refl)
one_built e zs ys t u (EndsFull a g _ _ i _) (Waits d j _) = absurd (call_open e.phase d a g j i)
one_built e zs ys t u (EndsFull a g _ _ i _) (Calls d j _) = absurd (call_open e.phase d a g j i)
one_built e zs ys t u (EndsFull a g _ _ i _) (Echoes b c _ _ _ j _) = absurd (echo_open e.phase b c a g j i)
one_built e zs ys t u (EndsFull _ _ _ _ _ one) (EndsFull _ _ _ _ _ other) = let r = one_put open_slots (asking e) [] zs ys true true t u one other in (r.0, r.2)
one_built e zs ys t u (EndsFull _ _ _ _ _ one) (Fills _ _ ws y _ other) = absurd (full_not e t y zs ws one other)
one_built e zs ys t u (Fills a g _ _ i _) (Sleeps n) = absurd (sleeps_not e (Open a g) n i refl)
one_built e zs ys t u (Fills a g _ _ i _) (Waits d j _) = absurd (call_open e.phase d a g j i)
one_built e zs ys t u (Fills a g _ _ i _) (Calls d j _) = absurd (call_open e.phase d a g j i)
one_built e zs ys t u (Fills a g _ _ i _) (Echoes b c _ _ _ j _) = absurd (echo_open e.phase b c a g j i)
one_built e zs ys t u (Fills _ _ ws y _ other) (EndsFull _ _ _ _ _ one) = absurd (full_not e u y ys ws one other)
one_built e zs ys t u (Fills _ _ ws x _ one) (Fills _ _ vs y _ other) =
    let r = one_put open_slots (asking e) [] ws vs false false x y one other in
    (ap (λ (cs : List ChunkMeaning). cs ++ fragments x cs) r.0 ∙ ap (λ (z : EndView). vs ++ fragments z vs) r.2, ap (λ (cs : List ChunkMeaning). sent x cs) r.0 ∙ ap (λ (z : EndView). sent z vs) r.2)
