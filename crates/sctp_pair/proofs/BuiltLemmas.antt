-- The chunks of a packet that an endpoint builds are in permitted places: INIT has a packet of its own, COOKIE ECHO is first, others may be anywhere.
use Rattle.std.proofs.Common.{◌≡◌, ℕ, ◌+◌, Bool, true, false, List, [], ◌∷◌, ◌++◌, map, None, refl}
use Rattle.sctp_model.specs.wire.Chunk.{ChunkMeaning, Data, IData, Init, InitAck, Sack, Heartbeat, HeartbeatAck, Abort, Shutdown, ShutdownAck, Error, CookieEcho, CookieAck, ShutdownComplete, ForwardTsn, IForwardTsn, Unknown, size_of_chunk}
use Rattle.sctp_model.specs.wire.Places.{stands_alone, misplaced_behind, ArePlaced}
use Rattle.sctp_model.specs.messages.Format.{Format, Plain, Interleaved}
use Rattle.sctp_model.specs.sender.SenderView.{SenderView}
use Rattle.sctp_model.specs.sender.Filling.{Wish, chunk_of}
use Rattle.sctp_model.specs.sender.SentChunks.{forward_chunk_of}
use Rattle.sctp_model.specs.end.EndView.{EndView, format_of}
use Rattle.sctp_model.specs.end.Reconfiguring.{asking}
use Rattle.sctp_model.specs.end.Building.{Slot, EchoSlot, ErrorSlot, open_slots, echoing_slots, Wants, EchoCookie, AckCookie, AckHeartbeat, Beat, ReportCauses, Acknowledge, PassOn, AnswerReset, AskReset, SayShutdown, AnswerShutdown, once_built, Puts, NoMore, NotDue, Put, IsFull, fragments, filled_behind, Builds, Sleeps, Waits, Calls, Echoes, EndsFull, Fills}

-- a chunk that may stand anywhere
abbrev IsFree : ChunkMeaning → Type 0
IsFree (Init m) = ⊥
IsFree (InitAck m) = ⊥
IsFree (CookieEcho cookie) = ⊥
IsFree (ShutdownComplete reflected) = ⊥
IsFree x = Unit {0}

abbrev AreFree : List ChunkMeaning → Type 0
AreFree [] = Unit {0}
AreFree (x ∷ xs) = IsFree x × AreFree xs

-- before it, all that stands behind it is looked at
behind_one : (before : ℕ) (x : ChunkMeaning) (xs : List ChunkMeaning) → IsFree x → ((n : ℕ) → misplaced_behind n xs ≡ None) → misplaced_behind before (x ∷ xs) ≡ None
behind_one before (Data p) xs f rest = rest (before + size_of_chunk (Data p))
behind_one before (IData p) xs f rest = rest (before + size_of_chunk (IData p))
behind_one before (Sack s) xs f rest = rest (before + size_of_chunk (Sack s))
behind_one before (Heartbeat i) xs f rest = rest (before + size_of_chunk (Heartbeat i))
behind_one before (HeartbeatAck i) xs f rest = rest (before + size_of_chunk (HeartbeatAck i))
behind_one before (Abort t i) xs f rest = rest (before + size_of_chunk (Abort t i))
behind_one before (Shutdown n) xs f rest = rest (before + size_of_chunk (Shutdown n))
behind_one before ShutdownAck xs f rest = rest (before + size_of_chunk ShutdownAck)
behind_one before (Error i) xs f rest = rest (before + size_of_chunk (Error i))
behind_one before CookieAck xs f rest = rest (before + size_of_chunk CookieAck)
behind_one before (ForwardTsn m) xs f rest = rest (before + size_of_chunk (ForwardTsn m))
behind_one before (IForwardTsn m) xs f rest = rest (before + size_of_chunk (IForwardTsn m))
behind_one before (Unknown k g v) xs f rest = rest (before + size_of_chunk (Unknown k g v))
behind_one before (Init m) xs f rest = absurd f
behind_one before (InitAck m) xs f rest = absurd f
behind_one before (CookieEcho c) xs f rest = absurd f
behind_one before (ShutdownComplete t) xs f rest = absurd f

behind : (before : ℕ) (xs : List ChunkMeaning) → AreFree xs → misplaced_behind before xs ≡ None
behind before [] all = refl
behind before (x ∷ xs) (free, rest) = behind_one before x xs free (λ n. behind n xs rest)

-- chunks of which the first may be followed, and the others may stand anywhere
abbrev Begins : List ChunkMeaning → Type 0
Begins [] = Unit {0}
Begins (x ∷ xs) = (stands_alone x ≡ false) × AreFree xs

placed : (xs : List ChunkMeaning) → Begins xs → ArePlaced xs
placed [] all = refl
placed (x ∷ []) all = refl
placed (x ∷ y ∷ xs) (alone, rest) = rw alone (behind (size_of_chunk x) (y ∷ xs) rest)

alone_free : (x : ChunkMeaning) → IsFree x → stands_alone x ≡ false
alone_free (Data p) f = refl
alone_free (IData p) f = refl
alone_free (Sack s) f = refl
alone_free (Heartbeat i) f = refl
alone_free (HeartbeatAck i) f = refl
alone_free (Abort t i) f = refl
alone_free (Shutdown n) f = refl
alone_free ShutdownAck f = refl
alone_free (Error i) f = refl
alone_free CookieAck f = refl
alone_free (ForwardTsn m) f = refl
alone_free (IForwardTsn m) f = refl
alone_free (Unknown k g v) f = refl
alone_free (Init m) f = absurd f
alone_free (InitAck m) f = absurd f
alone_free (CookieEcho c) f = absurd f
alone_free (ShutdownComplete t) f = absurd f

free_append : (xs ys : List ChunkMeaning) → AreFree xs → AreFree ys → AreFree (xs ++ ys)
free_append [] ys a b = b
free_append (x ∷ xs) ys (first, rest) b = (first, free_append xs ys rest b)

begins_free : (ys : List ChunkMeaning) → AreFree ys → Begins ys
begins_free [] all = tt
begins_free (y ∷ ys) (first, rest) = (alone_free y first, rest)

begins_append : (xs ys : List ChunkMeaning) → Begins xs → AreFree ys → Begins (xs ++ ys)
begins_append [] ys a b = begins_free ys b
begins_append (x ∷ xs) ys (first, rest) b = (first, free_append xs ys rest b)

-- ---- what is due

-- a place where no cookie goes
abbrev IsOther : Slot → Type 0
IsOther EchoSlot = ⊥
IsOther s = Unit {0}

abbrev AreOther : List Slot → Type 0
AreOther [] = Unit {0}
AreOther (s ∷ ss) = IsOther s × AreOther ss

forward_free : (f : Format) (limit : ℕ) (v : SenderView) → IsFree (forward_chunk_of f limit v)
forward_free Plain limit v = tt
forward_free Interleaved limit v = tt

wants_free : (e : EndView) (s : Slot) (x : ChunkMeaning) → IsOther s → Wants e s x → IsFree x
wants_free e s x other (EchoCookie t xs is) = absurd other
wants_free e s x other AckCookie = tt
wants_free e s x other (AckHeartbeat info is) = tt
wants_free e s x other Beat = tt
wants_free e s x other ReportCauses = tt
wants_free e s x other (Acknowledge t is) = tt
wants_free e s x other PassOn = forward_free (format_of e) e.configuration.limit e.sender
wants_free e s x other AnswerReset = tt
wants_free e s x other (AskReset q is) = tt
wants_free e s x other (SayShutdown c is) = tt
wants_free e s x other AnswerShutdown = tt

puts_others : (ss : List Slot) (e : EndView) (xs zs : List ChunkMeaning) (full : Bool) (t : EndView) → AreOther ss → Begins xs → Puts ss e xs zs full t → Begins zs
puts_others ss e xs zs full t others all (NoMore _ _) = all
puts_others ss e xs zs full t others all (NotDue _ more _ _ _ _ _ off rest) = puts_others more e xs zs full t others.1 all rest
puts_others ss e xs zs full t others all (Put s more _ x _ _ _ _ due wants room rest) =
    puts_others more (once_built s e) (xs ++ x ∷ []) zs full t others.1 (begins_append xs (x ∷ []) all (wants_free e s x others.0 wants, tt)) rest
puts_others ss e xs zs full t others all (IsFull _ _ _ _ _ due wants room) = all

wants_cookie : (e : EndView) (x : ChunkMeaning) → Wants e EchoSlot x → stands_alone x ≡ false
wants_cookie e x (EchoCookie t xs is) = refl

puts_echo : (e : EndView) (zs : List ChunkMeaning) (full : Bool) (t : EndView) → Puts echoing_slots e [] zs full t → Begins zs
puts_echo e zs full t (NotDue _ _ _ _ _ _ _ off rest) = puts_others (ErrorSlot ∷ []) e [] zs full t (tt, tt) tt rest
puts_echo e zs full t (Put _ _ _ x _ _ _ _ due wants room rest) =
    puts_others (ErrorSlot ∷ []) (once_built EchoSlot e) (x ∷ []) zs full t (tt, tt) (wants_cookie e x wants, tt) rest
puts_echo e zs full t (IsFull _ _ _ _ _ due wants room) = tt

no_echo : AreOther open_slots
no_echo = (tt, (tt, (tt, (tt, (tt, (tt, (tt, (tt, (tt, (tt, tt))))))))))

-- ---- fragments

fragment_free : (f : Format) (w : Wish) → IsFree (chunk_of f w)
fragment_free Plain w = tt
fragment_free Interleaved w = tt

fragments_free : (f : Format) (ws : List Wish) → AreFree (map (chunk_of f) ws)
fragments_free f [] = tt
fragments_free f (w ∷ ws) = (fragment_free f w, fragments_free f ws)

-- ---- the next packet

-- each chunk of a packet that is built stands where it may
pub built_is_placed : (e : EndView) (zs : List ChunkMeaning) (x : EndView) → Builds e zs x → ArePlaced zs
built_is_placed e zs x (Sleeps off) = refl
built_is_placed e zs x (Waits d calling off) = refl
built_is_placed e zs x (Calls d calling due) = refl
built_is_placed e zs x (Echoes t cookie _ full _ echoing puts) = placed zs (puts_echo e zs full x puts)
built_is_placed e zs x (EndsFull t g _ _ is puts) = placed zs (puts_others open_slots (asking e) [] zs true x no_echo tt puts)
built_is_placed e zs x (Fills t g ys y is puts) =
    placed _ (begins_append ys (fragments y ys) (puts_others open_slots (asking e) [] ys false y no_echo tt puts) (fragments_free (format_of y) (filled_behind y ys).wishes))
