-- RE-CONFIG in a packet: the responses that wait and the request that is due are what the specification wants, and one that is longer than what is left doesn't go in.
use Rattle.std.proofs.Common.{◌≡◌, ◌∙◌, ◌&&◌, ℕ, ◌+◌, ◌*◌, ◌<◌, ◌≤◌, nat_le, Bool, true, false, Option, None, List, [], ◌∷◌, ◌++◌, length, map, drop, get_or, refl, sym, ap, subst, arith, append_assoc, add-one, drop-cons}
use Rattle.std.specs.Prelude.{is_some}
use Rattle.std.proofs.lemmas.List.{append-nil, drop_all}
use Rattle.std.proofs.lemmas.Bool.Decides.{nat_tests}
use Rattle.sctp_model.specs.wire.Chunk.{ChunkMeaning, Unknown}
use Rattle.sctp_model.specs.wire.Packet.{size_of_chunks, size_of_packet}
use Rattle.sctp_model.specs.wire.Typed.{Typed, written_typed, WritesTyped}
use Rattle.sctp_model.specs.wire.Reconfig.{RECONFIG, ResetMeaning, reconfig_chunk, reset_item}
use Rattle.sctp_model.specs.sender.Outgoing.{Request}
use Rattle.sctp_model.specs.receiver.ReceiverView.{ReceiverView}
use Rattle.sctp_model.specs.receiver.ResetTaken.{last_finished, with_answers}
use Rattle.sctp_model.specs.end.EndView.{EndView}
use Rattle.sctp_model.specs.end.Building.{AnswerSlot, RequestSlot, is_due, has_causes, Wants, AnswerReset, AskReset, once_built}
use Rattle.sctp_model.proofs.TypedLemmas.{length-item}
use Rattle.sctp_reconfig.proofs.WritingLemmas.{length-reset}
use Rattle.sctp_packet.specs.Draft.{Draft, room_in, has_room}
use Rattle.sctp_recv.specs.Resets.{response_of}
use Rattle.sctp_recv.specs.declared.restart.ResetResponse.{ResetResponse}
use Rattle.sctp_send.specs.ResetAnswers.{IsRequest}
use Rattle.sctp_send.specs.declared.resetting.ResetRequest.{ResetRequest}
use Rattle.sctp_association.specs.Asks.{said_by, request_chunk}
use Rattle.sctp_association.specs.Drafted.{receiver_left, answers_left, drafted, IsOf, PutsAt}
use Rattle.sctp_association.specs.declared.build.packing.Marks.{Marks}
use Rattle.sctp_association.specs.declared.build.packing.Packing.{Packing}
use Rattle.sctp_association.proofs.PutLemmas.{not_due}

size_joined : (xs ys : List ChunkMeaning) → size_of_chunks (xs ++ ys) ≡ size_of_chunks xs + size_of_chunks ys
size_joined [] ys = omega arith
size_joined (x ∷ xs) ys = let more = size_joined xs ys in omega (arith, more)

too_large : (a b : ℕ) → b < a → nat_le a b ≡ false
too_large a b less = grind (arith, nat_tests)

pub too_long : (w : Draft) (value : List ℕ) → room_in w < 4 + length value → has_room w (Unknown RECONFIG 0 value) ≡ false
too_long w value less =
    let joined = size_joined w.chunks (Unknown RECONFIG 0 value ∷ []) in
    too_large (size_of_packet (w.chunks ++ Unknown RECONFIG 0 value ∷ [])) w.limit (omega (arith, less, joined))

-- the value with one request
request_length : (answered : ℕ) (m : ResetMeaning) → length (written_typed (reset_item answered m ∷ [])) ≡ 16 + 2 * length m.streams
request_length answered m = omega (arith, length-item (reset_item answered m), length-reset answered m)

pub request_too_long : (w : Draft) (answered : ℕ) (m : ResetMeaning) → room_in w < 20 + 2 * length m.streams → has_room w (Unknown RECONFIG 0 (written_typed (reset_item answered m ∷ []))) ≡ false
request_too_long w answered m less = too_long w (written_typed (reset_item answered m ∷ [])) (omega (arith, less, request_length answered m))

-- responses are there
pub some_answers : (xs : List ResetResponse) → 0 < length xs → has_causes (map response_of xs) ≡ true
some_answers [] some = absurd (omega (arith, some))
some_answers (x ∷ xs) some = refl

-- ---- what is written

pub no_items : (bytes : List ℕ) → bytes ≡ [] → WritesTyped bytes []
no_items bytes none = record { bytes_are = none; fit = tt }

-- one response more
pub responses_step : (xs : List ResetResponse) (i : ℕ) (d : ResetResponse) (front all : List Typed) → i < length xs → front ++ map response_of (drop i xs) ≡ all
    → (front ++ response_of (get_or xs i d) ∷ []) ++ map response_of (drop (i + 1) xs) ≡ all
responses_step xs i d front all there is =
    append_assoc front (response_of (get_or xs i d) ∷ []) (map response_of (drop (i + 1) xs))
    ∙ (ap (λ (n : ℕ). front ++ response_of (get_or xs i d) ∷ map response_of (drop n xs)) (add-one i)
    ∙ (ap (λ (ys : List ResetResponse). front ++ map response_of ys) (sym (drop-cons xs i d there)) ∙ is))

-- all of them
pub responses_end : (xs : List ResetResponse) (i : ℕ) (bytes : List ℕ) (front all : List Typed) → length xs ≤ i → WritesTyped bytes front → front ++ map response_of (drop i xs) ≡ all
    → WritesTyped bytes all
responses_end xs i bytes front all end writes is =
    let none : drop i xs ≡ [] = drop_all i xs end in
    subst (WritesTyped bytes) (sym (append-nil front) ∙ (ap (λ (ys : List ResetResponse). front ++ map response_of ys) (sym none) ∙ is)) writes

-- ---- resets of streams

-- what waits to answer requests, whether a SACK went out or not
still_answers : (was is : Bool) (r : ReceiverView) → (receiver_left was is r).resets.answers ≡ r.resets.answers
still_answers true false r = refl
still_answers true true r = refl
still_answers false is r = refl

-- none waits
no_answers : (b was is : Bool) (r : ReceiverView) → r.resets.answers ≡ [] → has_causes (answers_left b (receiver_left was is r)).resets.answers ≡ false
no_answers true was is r none = ap has_causes (still_answers was is r ∙ none)
no_answers false was is r none = refl

-- no response goes in
pub unanswered : (e : EndView) (p : Packing) → e.receiver.resets.answers ≡ [] → IsOf e p → PutsAt (AnswerSlot ∷ []) e p p true
unanswered e p none packet = not_due AnswerSlot e p (no_answers p.marks.answers e.due.sack p.marks.sack e.receiver none) packet

-- no request goes in
pub unrequested : (e : EndView) (p : Packing) → p.marks.request ≡ false → IsOf e p → PutsAt (RequestSlot ∷ []) e p p true
unrequested e p off packet = not_due RequestSlot e p (ap (λ (b : Bool). b && is_some e.sender.resets.pending) off) packet

-- the responses go out, all that wait
pub answers_go : (e : EndView) (m : Marks) (xs : List Typed) → m.answers ≡ true → xs ≡ e.receiver.resets.answers → Wants (drafted m e) AnswerSlot (reconfig_chunk xs)
answers_go e m xs due is =
    let same : (answers_left m.answers (receiver_left e.due.sack m.sack e.receiver)).resets.answers ≡ xs =
    ap (λ (b : Bool). (answers_left b (receiver_left e.due.sack m.sack e.receiver)).resets.answers) due ∙ (still_answers e.due.sack m.sack e.receiver ∙ sym is) in
    subst (λ (ys : List Typed). Wants (drafted m e) AnswerSlot (reconfig_chunk ys)) same AnswerReset

pub answers_due : (e : EndView) (m : Marks) (xs : List Typed) → m.answers ≡ true → xs ≡ e.receiver.resets.answers → has_causes xs ≡ true → is_due AnswerSlot (drafted m e) ≡ true
answers_due e m xs due is some =
    ap (λ (b : Bool). has_causes (answers_left b (receiver_left e.due.sack m.sack e.receiver)).resets.answers) due
    ∙ (ap has_causes (still_answers e.due.sack m.sack e.receiver ∙ sym is) ∙ some)

-- and none waits any more
pub answers_gone : (e : EndView) (m : Marks) → m.answers ≡ true → once_built AnswerSlot (drafted m e) ≡ drafted (record m { answers = false }) e
answers_gone e m due =
    let r = receiver_left e.due.sack m.sack e.receiver in
    ap (λ (b : Bool). record (drafted (record m { answers = false }) e) { receiver = with_answers (answers_left b r) [] }) due

still_finished : (b was is : Bool) (r : ReceiverView) → last_finished (answers_left b (receiver_left was is r)) ≡ last_finished r
still_finished true true false r = refl
still_finished true true true r = refl
still_finished true false is r = refl
still_finished false true false r = refl
still_finished false true true r = refl
still_finished false false is r = refl

-- the request goes out that waits for its response
pub request_goes : (e : EndView) (m : Marks) (a : ℕ) (q : ResetRequest) → a ≡ last_finished e.receiver → IsRequest e.sender q.number q.last q.streams.now
    → Wants (drafted m e) RequestSlot (request_chunk a q)
request_goes e m a q finished is =
    let n = last_finished (drafted m e).receiver in
    let same : n ≡ a = still_finished m.answers e.due.sack m.sack e.receiver ∙ sym finished in
    subst (λ (k : ℕ). Wants (drafted m e) RequestSlot (reconfig_chunk (reset_item k (said_by q) ∷ []))) same
    (subst (λ (x : ResetMeaning). Wants (drafted m e) RequestSlot (reconfig_chunk (reset_item n x ∷ []))) is.says (AskReset is.request is.waits))

pub request_due : (e : EndView) (m : Marks) (number last : ℕ) (streams : List ℕ) → m.request ≡ true → IsRequest e.sender number last streams → is_due RequestSlot (drafted m e) ≡ true
request_due e m number last streams due is = ap (λ (b : Bool). b && is_some e.sender.resets.pending) due ∙ ap (λ (o : Option Request). is_some o) is.waits

pub none_requested : (e : EndView) (p : Packing) → e.sender.resets.pending ≡ None → IsOf e p → PutsAt (RequestSlot ∷ []) e p p true
none_requested e p none packet = not_due RequestSlot e p (ap (λ (o : Option Request). p.marks.request && is_some o) none ∙ off p.marks.request) packet
  where
    off : (b : Bool) → (b && false) ≡ false
    off true = refl
    off false = refl
