-- ERROR: the length of the collected causes with one more, whether they fit a packet, and that collecting one is the specification's step.
use Rattle.std.proofs.Common.{◌≡◌, ◌∙◌, ℕ, ◌+◌, ◌-◌, ◌<◌, ◌≤◌, nat_le, Bool, true, false, List, [], ◌∷◌, ◌++◌, length, replicate, sym, ap, subst, arith, length-append}
use Rattle.std.proofs.lemmas.Bool.{false≢true, lt-leb}
use Rattle.std.specs.Prelude.{if◌then◌else◌, Result, Ok, Err, is_err, OnOk, OnErr}
use Rattle.sctp_model.specs.numbers.Numbers.{u16_bytes}
use Rattle.sctp_model.specs.wire.Chunk.{Error, padded, padding_after}
use Rattle.sctp_model.specs.wire.Typed.{Typed, AreAsWritten, WritesTyped, written_typed, typed_bytes, filled}
use Rattle.sctp_model.specs.end.EndView.{Configuration, EndView}
use Rattle.sctp_model.specs.end.Reports.{written, fits_alone, causes_with, with_causes}
use Rattle.sctp_model.specs.end.Acting.{unknown_item}
use Rattle.sctp_model.proofs.TypedLemmas.{length-item}
use Rattle.sctp_model.proofs.TypedWriting.{written_more, writes_as_written, zeros_long}
use Rattle.sctp_values.specs.declared.no_memory.NoMemory.{NoMemory}
use Rattle.sctp_opening.specs.Room.{size_alone}
use Rattle.sctp_association.specs.DueStands.{DueStands}
use Rattle.sctp_association.specs.MachineStands.{KeepsMachine}
use Rattle.sctp_association.specs.declared.state.carried.WaitingCauses.{WaitingCauses}
use Rattle.sctp_association.specs.declared.state.due.Due.{Due}
use Rattle.sctp_association.specs.declared.machine.Machine.{Machine}
use Rattle.sctp_association.proofs.MachineLemmas.{with_due}

-- ---- sizes

-- one cause more, behind the padding of those before it
length-more : (xs : List Typed) (x : Typed) → length (written_typed (xs ++ x ∷ [])) ≡ padded (length (written_typed xs)) + 4 + length x.value
length-more xs x =
    let front = written_typed xs in
    let n = padding_after (length front) in
    ap length (written_more xs x)
    ∙ (omega (arith, length-append (filled front) (typed_bytes x), length-append front (replicate n 0), zeros_long n, length-item x))

-- the bytes of a chunk with a header of four have so much room in this end's packets
abbrev pub HasRoom : Configuration → (room : ℕ) → Type 0
HasRoom c room = (n : ℕ) → nat_le (size_alone (4 + n)) c.limit ≡ nat_le n room

-- whether the ERROR fits with one cause more, by its bytes
pub fits_by_size : (v : EndView) (x : Typed) (bytes : List ℕ) (size room : ℕ) → HasRoom v.configuration room → WritesTyped bytes v.due.causes → length x.value ≡ size
    → fits_alone v (Error (written (v.due.causes ++ x ∷ []))) ≡ nat_le (padded (length bytes) + 4 + size) room
fits_by_size v x bytes size room limit w long =
    let more = length-more v.due.causes x
    ∙ ap (λ (b : List ℕ). padded (length b) + 4 + length x.value) (sym w.bytes_are) ∙ ap (λ (n : ℕ). padded (length bytes) + 4 + n) long in
    ap (λ (n : ℕ). nat_le (size_alone (4 + n)) v.configuration.limit) more ∙ limit (padded (length bytes) + 4 + size)

pub none_fits : (used size room : ℕ) → room < used → false ≡ nat_le (used + size) room
none_fits used size room past = sym (lt-leb _ _ (omega arith))

pub rest_fits : (used size room : ℕ) → used ≤ room → nat_le size (room - used) ≡ nat_le (used + size) room
rest_fits used size room within = grind arith

-- ---- the causes that wait, with one more or not

pub causes_by : (v : EndView) (x : Typed) (b : Bool) → b ≡ fits_alone v (Error (written (v.due.causes ++ x ∷ [])))
    → causes_with v x ≡ (if b then v.due.causes ++ x ∷ [] else v.due.causes)
causes_by v x b is = ap (λ (c : Bool). if c then v.due.causes ++ x ∷ [] else v.due.causes) (sym is)

pub causes_stay : (v : EndView) (x : Typed) → false ≡ fits_alone v (Error (written (v.due.causes ++ x ∷ []))) → with_causes (causes_with v x) v ≡ v
causes_stay v x past = ap (λ (xs : List Typed). with_causes xs v) (causes_by v x false past)

pub reported : (v : EndView) (x : Typed) (bytes : List ℕ) (r : Result (Unit {0}) NoMemory) → true ≡ fits_alone v (Error (written (v.due.causes ++ x ∷ [])))
    → OnOk r (WritesTyped bytes (v.due.causes ++ x ∷ [])) → OnOk r (WritesTyped bytes (causes_with v x))
reported v x bytes (Ok _) fits w = subst (WritesTyped bytes) (sym (causes_by v x true fits)) w
reported v x bytes (Err why) fits w = tt

-- causes as they are written stay so, whether one joins them or not
pub grown_plain : (old new : List ℕ) (xs : List Typed) (r : Result (Unit {0}) NoMemory) → AreAsWritten old → OnErr r (new ≡ old) → OnOk r (WritesTyped new xs) → AreAsWritten new
grown_plain old new xs (Ok _) plain same w = writes_as_written new xs w
grown_plain old new xs (Err why) plain same w = subst AreAsWritten (sym same) plain

-- a chunk that is reported
pub length-unknown : (kind flags : ℕ) (value : List ℕ) → length (unknown_item kind flags value).value ≡ 4 + length value
unfolding u16_bytes
length-unknown kind flags value = omega arith

-- ---- an end whose causes are others

due_causes : (d : Due) (w : WaitingCauses) (v : EndView) (xs : List Typed) → DueStands d v.due → WritesTyped w.bytes.items xs → DueStands (record d { causes = w }) (record v.due { causes = xs })
due_causes d w v xs s writes = record { init = s.init; cookie_echo = s.cookie_echo; cookie_ack = s.cookie_ack; heartbeat = s.heartbeat; beat = s.beat; causes = writes; sack = s.sack; forward = s.forward; request = s.request; shutdown = s.shutdown; shutdown_ack = s.shutdown_ack }

pub waiting : (m : Machine) (v : EndView) (w : WaitingCauses) (xs : List Typed) → KeepsMachine m v → WritesTyped w.bytes.items xs
    → KeepsMachine (record m { due = record m.due { causes = w } }) (with_causes xs v)
waiting m v w xs k writes = with_due m v (record m.due { causes = w }) (record v.due { causes = xs }) k (due_causes m.due w v xs k.due writes)

pub waiting_same : (m : Machine) (v : EndView) (w : WaitingCauses) → KeepsMachine m v → w.bytes.items ≡ m.due.causes.bytes.items
    → KeepsMachine (record m { due = record m.due { causes = w } }) v
waiting_same m v w k same = waiting m v w v.due.causes k (subst (λ (b : List ℕ). WritesTyped b v.due.causes) (sym same) k.due.causes)

pub on_ok_waiting : (m : Machine) (v : EndView) (w : WaitingCauses) (xs : List Typed) (r : Result (Unit {0}) NoMemory) → KeepsMachine m v
    → OnOk r (WritesTyped w.bytes.items xs) → OnOk r (KeepsMachine (record m { due = record m.due { causes = w } }) (with_causes xs v))
on_ok_waiting m v w xs (Ok _) k writes = waiting m v w xs k writes
on_ok_waiting m v w xs (Err why) k writes = tt

pub on_err_waiting : (m : Machine) (v : EndView) (w : WaitingCauses) (r : Result (Unit {0}) NoMemory) → KeepsMachine m v
    → OnErr r (w.bytes.items ≡ m.due.causes.bytes.items) → OnErr r (KeepsMachine (record m { due = record m.due { causes = w } }) v)
on_err_waiting m v w (Ok _) k same = tt
on_err_waiting m v w (Err why) k same = waiting_same m v w k same

-- what is so anyway is so where memory was wanted
pub on_err : {A E : Type 0} (P : Type 0) (r : Result A E) → P → OnErr r P
on_err P (Ok x) p = tt
on_err P (Err why) p = p

-- a call that doesn't fail
pub unfailed : {A E : Type 0} (P : Type 0) (r : Result A E) → false ≡ is_err r → OnOk r P → P
unfailed P (Ok x) is p = p
unfailed P (Err why) is p = absurd (false≢true is)

-- ---- a HEARTBEAT's value

pub configured_room : (m : Machine) (v : EndView) (room : ℕ) → KeepsMachine m v → HasRoom m.config room → HasRoom v.configuration room
configured_room m v room k limit = subst (λ (c : Configuration). HasRoom c room) k.configuration limit
