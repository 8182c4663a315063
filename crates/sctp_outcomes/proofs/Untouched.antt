-- What is dropped changed nothing: no chunk of it was listed, or the endpoint still waits for an INIT ACK, or its first chunk was a COOKIE ECHO that
-- doesn't open.
use Rattle.std.proofs.Common.{◌≡◌, ℕ, ◌+◌, ◌⊎◌, Bool, true, false, List, [], ◌∷◌, drop, Option, Some, None, inl, inr, refl, sym, subst, ap, ◌∙◌}
use Rattle.std.specs.Prelude.{◌&&◌, if◌then◌else◌, ◌==◌}
use Rattle.sctp_model.specs.wire.Typed.{Typed, typed_in}
use Rattle.sctp_model.specs.wire.Packet.{Packet}
use Rattle.sctp_model.specs.wire.Places.{stands_alone, never_follows, misplaced_behind, ArePlaced}
use Rattle.sctp_model.specs.wire.Unknown.{chunk_rule}
use Rattle.sctp_model.specs.wire.Chunk.{ChunkMeaning, Data, IData, Init, InitAck, Sack, Heartbeat, HeartbeatAck, Abort, Shutdown, ShutdownAck, Error, CookieEcho, CookieAck, ShutdownComplete, ForwardTsn, IForwardTsn, Unknown, size_of_chunk}
use Rattle.sctp_model.specs.end.EndView.{Draw, Stage, Phase, Idle, Listening, Calling, Echoing, Open, Over, EndView, has_association}
use Rattle.sctp_model.specs.end.Clock.{at_moment}
use Rattle.sctp_model.specs.end.Closing.{takes_acknowledgements, hears, rested, takes_data}
use Rattle.sctp_model.specs.end.Reports.{with_causes, causes_with}
use Rattle.sctp_model.specs.end.PeerFaults.{COOKIE, Note, Unnoted, ToAcknowledge, GoesOn, Drops}
use Rattle.sctp_model.specs.end.Opening.{is_calling, NoTag, AcceptedAck, EchoedAgain, IsStrange, CookieAcked, begun}
use Rattle.sctp_model.specs.end.Beating.{beat_heard}
use Rattle.sctp_model.proofs.PacedEnds.{unanswered}
use Rattle.sctp_model.specs.end.Acting.{Acts, PieceComes, IsOld, ForwardComes, SackStale, SackCounts, HeartbeatCounts, SaysNothing, ShutdownStale, ShutdownCounts, Crosses, Again, may_report, unknown_item, unknown_causes, unknown_leaves, ReconfigComes, IsUnknown}
use Rattle.sctp_model.specs.end.Strays.{Verdict, Dropped, opened_by}
use Rattle.sctp_model.specs.end.Wearing.{missed_below, wearing}
use Rattle.sctp_model.proofs.PacedEnds.{nothing_missed}
use Rattle.sctp_model.specs.end.Arriving.{Notes, no_notes, noted, urged, acknowledges_in, packet_ended, verdict_of, AllAct, NoneLeft, Next, Passes, Last, EndsAnswered, Stopped, Arrives, Elsewhere, NotOurs, Stray, CookieBegins, Heard, Receives, DroppedUnread, ReadAs}
use Rattle.sctp_safety.proofs.machine.EndWords.{rested_cases}
use Rattle.sctp_safety.proofs.machine.Sides.{unknown_goes}
use Rattle.sctp_outcomes.specs.Untouched.{StraysChangeNothing, AreChunksPlaced, DropsChangeNothing}
use Rattle.sctp_model.specs.wire.Reconfig.{RECONFIG}
use Rattle.sctp_safety.proofs.machine.Reconfigured.{parameters_same}
use Rattle.std.proofs.lemmas.Bool.{and_parts}

-- ---- an endpoint that waits for an INIT ACK

-- it is in no other state
not_open : {X : Type 0} (h k : Phase) → is_calling k ≡ false → h ≡ k → is_calling h ≡ true → X
not_open {X} h k off is on = let q : false ≡ true = sym off ∙ sym (ap is_calling is) ∙ on in absurd (cc)

not_heard : {X : Type 0} (f : Stage → Bool) (h : Phase) → hears f h ≡ true → is_calling h ≡ true → X
not_heard f Idle heard on = absurd (cc)
not_heard f Listening heard on = absurd (cc)
not_heard f (Calling d) heard on = absurd (cc)
not_heard f (Echoing t xs) heard on = absurd (cc)
not_heard f (Open t g) heard on = absurd (cc)
not_heard f (Over why) heard on = absurd (cc)

-- it reports nothing
reports_nothing : (e : EndView) (k f : ℕ) (v : List ℕ) → is_calling e.phase ≡ true → unknown_causes e k f v ≡ e.due.causes
reports_nothing e k f v on = go e.phase on (chunk_rule k).report
  where
    go : (h : Phase) → is_calling h ≡ true → (b : Bool) → (if b && may_report h then causes_with e (unknown_item k f v) else e.due.causes) ≡ e.due.causes
    go (Calling d) is true = refl
    go (Calling d) is false = refl
    go Idle is b = absurd (cc)
    go Listening is b = absurd (cc)
    go (Echoing t xs) is b = absurd (cc)
    go (Open t g) is b = absurd (cc)
    go (Over why) is b = absurd (cc)

-- a chunk after which it waits still changed nothing
still_calling : (e : EndView) (tag : ℕ) (x : ChunkMeaning) (y : Note) (t : EndView) → Acts e tag x (GoesOn y t) → is_calling t.phase ≡ true → t ≡ e
still_calling e tag (Data p) y t (PieceComes u g a r is _ _ _ came _) on = not_open e.phase (Open u g) refl is on
still_calling e tag (IData p) y t (PieceComes u g a r is _ _ _ came _) on = not_open e.phase (Open u g) refl is on
still_calling e tag (Init m) y t h on = absurd (cc)
still_calling e tag (InitAck m) y t (AcceptedAck _ _ _ _ _ _) on = absurd (cc)
still_calling e tag (Sack k) y t (SackStale _ _) on = refl
still_calling e tag (Sack k) y t (SackCounts heard _) on = not_heard takes_acknowledgements e.phase heard on
still_calling e tag (Heartbeat i) y t (HeartbeatCounts heard) on = not_heard (λ g. true) e.phase heard on
still_calling e tag (HeartbeatAck i) y t h on = let q : t ≡ beat_heard e i = cc in q ∙ go (hears (λ g. true) e.phase) refl (subst (λ (z : EndView). is_calling z.phase ≡ true) q on)
  where
    go : (b : Bool) → hears (λ g. true) e.phase ≡ b → is_calling e.phase ≡ true → beat_heard e i ≡ e
    go true heard calls = not_heard (λ g. true) e.phase heard calls
    go false off calls = unanswered e i (rw off refl)
still_calling e tag (Abort b xs) y t h on = absurd (cc)
still_calling e tag (Shutdown n) y t (ShutdownStale _ _ _ _ _) on = absurd (cc)
still_calling e tag (Shutdown n) y t (ShutdownCounts _ _ _ _ _) on = absurd (cc)
still_calling e tag (Shutdown n) y t (Crosses _ _) on = absurd (cc)
still_calling e tag (Shutdown n) y t (Again u is) on = not_open e.phase _ refl is on
still_calling e tag ShutdownAck y t h on = elim h [ ]
still_calling e tag (Error xs) y t (SaysNothing _) on = refl
still_calling e tag (CookieEcho xs) y t (EchoedAgain s u g _ is _ _) on = not_open e.phase (Open u g) refl is on
still_calling e tag CookieAck y t (CookieAcked _ _ _) on = absurd (cc)
still_calling e tag (ShutdownComplete b) y t h on = elim h [ ]
still_calling e tag (ForwardTsn m) y t (IsOld u g r is _ _ came) on = not_open e.phase (Open u g) refl is on
still_calling e tag (ForwardTsn m) y t (ForwardComes u g r is _ _ came) on = not_open e.phase (Open u g) refl is on
still_calling e tag (IForwardTsn m) y t (IsOld u g r is _ _ came) on = not_open e.phase (Open u g) refl is on
still_calling e tag (IForwardTsn m) y t (ForwardComes u g r is _ _ came) on = not_open e.phase (Open u g) refl is on
still_calling e tag (Unknown n f v) y t (ReconfigComes c takes _) on =
    let heard = (and_parts e.terms.reset (hears takes_data e.phase) (and_parts (n == RECONFIG) (e.terms.reset && hears takes_data e.phase) takes).1).1 in
    not_heard takes_data e.phase heard (ap is_calling (sym (parameters_same c e (typed_in v)).phase) ∙ on)
still_calling e tag (Unknown n f v) y t (IsUnknown _ _ h) on =
    let u = unknown_goes e y t n f v h in
    let same : is_calling e.phase ≡ true = subst (λ (x : EndView). is_calling x.phase ≡ true) u.same on in
    u.same ∙ ap (λ (xs : List Typed). with_causes xs e) (reports_nothing e n f v same)

-- nor has it gone on with closing
rested_calling : (e : EndView) → is_calling (rested e).phase ≡ true → rested e ≡ e
rested_calling e = rested_cases (λ (x : EndView). is_calling x.phase ≡ true → x ≡ e) e (λ on. refl) (λ t is d on. absurd (cc)) (λ t is d on. absurd (cc))

-- ---- chunks

-- chunks after others, of which none is one that never follows another chunk
abbrev Follow : List ChunkMeaning → Type 0
Follow xs = (before : ℕ) × (misplaced_behind before xs ≡ None)

follow_on : (x : ChunkMeaning) (xs : List ChunkMeaning) → Follow (x ∷ xs) → (never_follows x ≡ false) × Follow xs
follow_on x xs f = go (never_follows x) refl f.1
  where
    go : (b : Bool) → never_follows x ≡ b → (if b then Some f.0 else misplaced_behind (f.0 + size_of_chunk x) xs) ≡ None → (never_follows x ≡ false) × Follow xs
    go true is h = absurd (cc)
    go false is h = (is, (f.0 + size_of_chunk x, h))

-- if chunks are where they may be, none after the first is
placed_follow : (x : ChunkMeaning) (xs : List ChunkMeaning) → ArePlaced (x ∷ xs) → Follow xs
placed_follow x [] placed = (0, refl)
placed_follow x (y ∷ ys) placed = go (stands_alone x) placed
  where
    go : (b : Bool) → (if b then Some 0 else misplaced_behind (size_of_chunk x) (y ∷ ys)) ≡ None → Follow (y ∷ ys)
    go true h = absurd (cc)
    go false h = (size_of_chunk x, h)

-- what drops a packet for a cookie is a COOKIE ECHO; for another reason, only an endpoint that waits for an INIT ACK drops one for a chunk
chunk_drops : (e : EndView) (tag : ℕ) (x : ChunkMeaning) (r : ℕ) → (r ≡ COOKIE → never_follows x ≡ false) → Acts e tag x (Drops r) → is_calling e.phase ≡ true
chunk_drops e tag (Data p) r behind h = elim h [ ]
chunk_drops e tag (IData p) r behind h = elim h [ ]
chunk_drops e tag (Init m) r behind h = absurd (cc)
chunk_drops e tag (InitAck m) r behind (NoTag d is none) = ap is_calling is
chunk_drops e tag (Sack k) r behind h = elim h [ ]
chunk_drops e tag (Heartbeat i) r behind h = elim h [ ]
chunk_drops e tag (HeartbeatAck i) r behind h = absurd (cc)
chunk_drops e tag (Abort b xs) r behind h = absurd (cc)
chunk_drops e tag (Shutdown n) r behind h = elim h [ ]
chunk_drops e tag ShutdownAck r behind h = elim h [ ]
chunk_drops e tag (Error xs) r behind h = elim h [ ]
chunk_drops e tag (CookieEcho xs) r behind (IsStrange _ _ _ _ _ _ _) = let q : true ≡ false = behind refl in absurd (cc)
chunk_drops e tag CookieAck r behind h = elim h [ ]
chunk_drops e tag (ShutdownComplete b) r behind h = elim h [ ]
chunk_drops e tag (ForwardTsn m) r behind h = elim h [ ]
chunk_drops e tag (IForwardTsn m) r behind h = elim h [ ]
chunk_drops e tag (Unknown n f v) r behind (IsUnknown _ _ h) = absurd (go (chunk_rule n).stop h)
  where
    go : (b : Bool) → Drops r ≡ unknown_leaves b (with_causes (unknown_causes e n f v) e) → ⊥
    go true q = absurd (cc)
    go false q = absurd (cc)

-- Nothing changed: the endpoint waits for an INIT ACK still, or nothing was noted.
abbrev IsLeftSo : EndView → Notes → EndView → Notes → Type 0
IsLeftSo e n t m = (t ≡ e) × ((is_calling t.phase ≡ true) ⊎ ((m ≡ n) × (n.listed ≡ false)))

noted_listed : (k : Note) (n : Notes) → (noted k n).listed ≡ true
noted_listed Unnoted n = refl
noted_listed (ToAcknowledge _ _) n = refl

left_by : (r : ℕ) (e : EndView) (n : Notes) (b : Bool) → n.listed ≡ b → verdict_of b ≡ Dropped r → IsLeftSo e n e n
left_by r e n true is told = absurd (cc)
left_by r e n false is told = (refl, inr (refl, is))

goes_left : (tag : ℕ) (e mid t : EndView) (k : Note) (n m : Notes) (x : ChunkMeaning) → Acts e tag x (GoesOn k mid) → IsLeftSo (rested mid) (noted k n) t m → IsLeftSo e n t m
goes_left tag e mid t k n m x act (same, inl calling) =
    let here = subst (λ (y : EndView). is_calling y.phase ≡ true) same calling in
    let rests = rested_calling mid here in
    (same ∙ rests ∙ still_calling e tag x k mid act (subst (λ (y : EndView). is_calling y.phase ≡ true) rests here), inl calling)
goes_left tag e mid t k n m x act (same, inr (notes, off)) = let on = noted_listed k n in let q : true ≡ false = sym on ∙ off in absurd (cc)

-- of chunks that follow others
acts_left : (r tag : ℕ) (e : EndView) (n : Notes) (xs : List ChunkMeaning) (t : EndView) (m : Notes) (v : Verdict) → (r ≡ COOKIE → Follow xs) →
    AllAct tag e n xs t m v → v ≡ Dropped r → IsLeftSo e n t m
acts_left r tag e n xs t m v behind (NoneLeft _ _) told = left_by r e n n.listed refl told
acts_left r tag e n xs t m v behind (Next _ mid _ k _ _ x ys _ act rest) told =
    goes_left tag e mid t k n m x act (acts_left r tag (rested mid) (noted k n) ys t m v (λ is. (follow_on x ys (behind is)).1) rest told)
acts_left r tag e n xs t m v behind (Passes _ _ _ _ x ys _ act rest) told = acts_left r tag e n ys t m v (λ is. (follow_on x ys (behind is)).1) rest told
acts_left r tag e n xs t m v behind (Last _ _ _ x ys act) told = absurd (cc)
acts_left r tag e n xs t m v behind (EndsAnswered _ _ _ x ys p act) told = absurd (cc)
acts_left r tag e n xs t m v behind (Stopped _ _ x ys q act) told =
    let same : q ≡ r = cc in
    (refl, inl (chunk_drops e tag x q (λ is. (follow_on x ys (behind (sym same ∙ is))).0) act))

-- of a whole packet, before whose first chunk nothing was noted
packet_left : (r tag : ℕ) (e : EndView) (xs : List ChunkMeaning) (t : EndView) (m : Notes) (v : Verdict) → (r ≡ COOKIE → ArePlaced xs) →
    AllAct tag e no_notes xs t m v → v ≡ Dropped r → IsLeftSo e no_notes t m
packet_left r tag e xs t m v placed (NoneLeft _ _) told = (refl, inr (refl, refl))
packet_left r tag e xs t m v placed (Next _ mid _ k _ _ x ys _ act rest) told =
    goes_left tag e mid t k no_notes m x act (acts_left r tag (rested mid) (noted k no_notes) ys t m v (λ is. placed_follow x ys (placed is)) rest told)
packet_left r tag e xs t m v placed (Passes _ _ _ _ x ys _ act rest) told = acts_left r tag e no_notes ys t m v (λ is. placed_follow x ys (placed is)) rest told
packet_left r tag e xs t m v placed (Last _ _ _ x ys act) told = absurd (cc)
packet_left r tag e xs t m v placed (EndsAnswered _ _ _ x ys p act) told = absurd (cc)
packet_left r tag e xs t m v placed (Stopped _ _ x ys q act) told = (refl, inr (refl, refl))

-- ---- a packet

ended_calling : (n : Notes) (t : EndView) → is_calling t.phase ≡ true → packet_ended n t ≡ t
ended_calling n t on = go n.acknowledges t.phase on
  where
    go : (b : Bool) (h : Phase) → is_calling h ≡ true → acknowledges_in n b h t ≡ t
    go false h is = refl
    go true (Calling d) is = refl
    go true Idle is = absurd (cc)
    go true Listening is = absurd (cc)
    go true (Echoing u xs) is = absurd (cc)
    go true (Open u g) is = absurd (cc)
    go true (Over why) is = absurd (cc)

-- an endpoint that stays has missed nothing
missed_not : (e t : EndView) → t ≡ e → wearing (missed_below e.pace) t ≡ t
missed_not e t same = ap (wearing (missed_below e.pace)) same ∙ nothing_missed e ∙ sym same

ended_left : (e t : EndView) (m : Notes) (gap : Bool) → IsLeftSo e no_notes t m → packet_ended (urged gap m) (wearing (missed_below e.pace) t) ≡ e
ended_left e t m gap (same, inl calling) = ap (packet_ended (urged gap m)) (missed_not e t same) ∙ ended_calling (urged gap m) t calling ∙ same
ended_left e t m gap (same, inr (notes, off)) = ap (λ (k : Notes). packet_ended (urged gap k) (wearing (missed_below e.pace) t)) notes ∙ missed_not e t same ∙ same

-- an endpoint that a cookie opened doesn't wait for an INIT ACK, and has a note
never_left : {X : Type 0} (e t : EndView) (n m : Notes) → is_calling e.phase ≡ false → n.listed ≡ true → IsLeftSo e n t m → X
never_left e t n m off on (same, inl calling) = not_open t.phase e.phase off (ap (λ (x : EndView). x.phase) same) calling
never_left e t n m off on (same, inr (notes, none)) = let q : true ≡ false = sym on ∙ none in absurd (cc)

-- the chunks after the cookie that opens follow it
behind_first : (xs : List ChunkMeaning) → ArePlaced xs → Follow (drop 1 xs)
behind_first [] placed = (0, refl)
behind_first (x ∷ xs) placed = placed_follow x xs placed

arrives_left : (r : ℕ) (e : EndView) (d : Draw) (p : Packet) (t : EndView) (v : Verdict) → (r ≡ COOKIE → ArePlaced p.chunks) → Arrives e d p t v → v ≡ Dropped r → t ≡ e
arrives_left r e d p t v placed (Elsewhere _) told = refl
arrives_left r e d p t v placed (NotOurs _ _) told = refl
arrives_left r e d p t v placed (Stray _ _ _ _) told = refl
arrives_left r e d p t v placed (CookieBegins b u n _ _ _ _ _ acts _ _) told =
    never_left (begun b e) u (noted Unnoted no_notes) n refl refl
    (acts_left r p.tag (begun b e) (noted Unnoted no_notes) _ u n v (λ is. behind_first p.chunks (placed is)) acts told)
arrives_left r e d p t v placed (Heard u n _ _ _ _ acts gap _) told = ended_left e u n gap (packet_left r p.tag e p.chunks u n v placed acts told)

pub drops_change_nothing : DropsChangeNothing
drops_change_nothing e now d p t reason placed came = go p t (Dropped reason) placed came refl
  where
    go : (o : Option Packet) (u : EndView) (v : Verdict) → (reason ≡ COOKIE → AreChunksPlaced o) → Receives e now d o u v → v ≡ Dropped reason → u ≡ at_moment e now
    go o u v placed DroppedUnread told = refl
    go o u v placed (ReadAs q _ _ arrives) told = arrives_left reason (at_moment e now) d q u v placed arrives told

-- ---- an endpoint without an association

stray_left : (e : EndView) (d : Draw) (p : Packet) (t : EndView) (v : Verdict) → has_association e.phase ≡ false → opened_by e p ≡ None → Arrives e d p t v → t ≡ e
stray_left e d p t v off none (Elsewhere _) = refl
stray_left e d p t v off none (NotOurs _ _) = refl
stray_left e d p t v off none (Stray _ _ _ _) = refl
stray_left e d p t v off none (CookieBegins b u n _ _ _ _ opens _ _ _) = let q : None ≡ Some b = sym none ∙ opens in absurd (cc)
stray_left e d p t v off none (Heard u n _ _ _ on _ _ _) = let q : true ≡ false = sym on ∙ off in absurd (cc)

pub strays_change_nothing : StraysChangeNothing
strays_change_nothing e now d p t v off none (ReadAs _ _ _ arrives) = stray_left (at_moment e now) d p t v off none arrives
