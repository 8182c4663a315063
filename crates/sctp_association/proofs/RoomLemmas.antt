-- User data went out exactly if less space is left in the packet; if so, the data timer starts as the specification says.
use Rattle.std.proofs.Common.{◌≡◌, ℕ, suc, ◌+◌, ◌-◌, ◌<◌, nat_lt, Bool, true, false, List, [], ◌∷◌, ◌++◌, length, map, refl, ap, sym, arith}
use Rattle.std.proofs.lemmas.List.{append-nil}
use Rattle.std.proofs.lemmas.Bool.Decides.{nat_tests}
use Rattle.sctp_model.specs.messages.Format.{Format}
use Rattle.sctp_model.specs.wire.Chunk.{ChunkMeaning}
use Rattle.sctp_model.specs.wire.Packet.{size_of_chunks, size_of_packet}
use Rattle.sctp_model.specs.sender.SenderView.{SenderView}
use Rattle.sctp_model.specs.sender.Filling.{Wish, chunk_of, Follows}
use Rattle.sctp_model.specs.end.EndView.{EndView, Alarm, InitAlarm, CookieAlarm, DataAlarm, ShutdownAlarm, AckAlarm, ResetAlarm, BeatAlarm, GuardAlarm, Timer}
use Rattle.sctp_model.specs.end.Clock.{replaced}
use Rattle.sctp_model.specs.end.Building.{timer_after}
use Rattle.sctp_model.proofs.sender.FillLaws.{goes_parts, room_fits, room_some}
use Rattle.sctp_association.specs.StartsMean.{starts_at, with_fragments, started_from}
use Rattle.sctp_association.specs.Drafted.{drafted}
use Rattle.sctp_association.specs.declared.build.packing.Marks.{Marks}
use Rattle.sctp_association.proofs.StartLemmas.{start_more}

-- there is a wish
abbrev pub some_wish : List Wish → Bool
some_wish [] = false
some_wish (w ∷ ws) = true

some_length : (n : ℕ) → nat_lt 0 (suc n) ≡ true
some_length n = grind (arith, nat_tests)

pub some_count : (ws : List Wish) → some_wish ws ≡ nat_lt 0 (length ws)
some_count [] = refl
some_count (w ∷ ws) = sym (some_length (length ws))

-- a timer put in its own place changes nothing
pub data_same : (f : Alarm → Timer) (b : Alarm) → replaced DataAlarm (f DataAlarm) f b ≡ f b
data_same f InitAlarm = refl
data_same f CookieAlarm = refl
data_same f DataAlarm = refl
data_same f ShutdownAlarm = refl
data_same f AckAlarm = refl
data_same f ResetAlarm = refl
data_same f BeatAlarm = refl
data_same f GuardAlarm = refl

-- the timers once that of fragments starts, if there is a wish
pub fragments_after : (e : EndView) (m : Marks) (ws : List Wish)
    → started_from (with_fragments (some_wish ws) (starts_at m.starts)) e.moment e.timers ≡ replaced DataAlarm (timer_after (drafted m e) ws) (drafted m e).timers
fragments_after e m [] = let there : replaced DataAlarm ((drafted m e).timers DataAlarm) (drafted m e).timers ≡ (drafted m e).timers = λ i b. data_same (drafted m e).timers b i in sym there
fragments_after e m (w ∷ ws) = sym (start_more DataAlarm (starts_at m.starts) e.moment e.timers)

size_joined : (xs ys : List ChunkMeaning) → size_of_chunks (xs ++ ys) ≡ size_of_chunks xs + size_of_chunks ys
size_joined [] ys = omega arith
size_joined (x ∷ xs) ys = let more = size_joined xs ys in omega (arith, more)

-- less room is left exactly where there is a wish
pub less_room : (f : Format) (v u : SenderView) (limit : ℕ) (cs : List ChunkMeaning) (ws : List Wish) → Follows f v (limit - size_of_packet cs) ws u
    → nat_lt (limit - size_of_packet (cs ++ map (chunk_of f) ws)) (limit - size_of_packet cs) ≡ some_wish ws
less_room f v u limit cs [] is = same (limit - size_of_packet (cs ++ [])) (limit - size_of_packet cs) (ap (λ (xs : List ChunkMeaning). limit - size_of_packet xs) (append-nil cs))
  where
    same : (a b : ℕ) → a ≡ b → nat_lt a b ≡ false
    same a b is = grind (arith, nat_tests)
less_room f v u limit cs (w ∷ ws) is =
    let fits = room_fits f (limit - size_of_packet cs) w (goes_parts f (limit - size_of_packet cs) v w is.0).1 in
    let some = room_some f w in
    less (limit - size_of_packet (cs ++ map (chunk_of f) (w ∷ ws))) (limit - size_of_packet cs)
    (omega (arith, fits, some, size_joined cs (map (chunk_of f) (w ∷ ws))))
  where
    less : (a b : ℕ) → a < b → nat_lt a b ≡ true
    less a b is = grind (arith, nat_tests)
