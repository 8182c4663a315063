-- The RE-CONFIGs that an endpoint builds say its request, and the answers to its peer's.
use Rattle.std.proofs.Common.{◌≡◌, ℕ, ◌*◌, ◌≤◌, ◌⊎◌, ◌==◌, ◌&&◌, nat_le, Bool, true, false, List, [], ◌∷◌, ◌++◌, length, Some, inl, inr, refl, sym, subst, ap, arith, ◌∙◌, eqb-true}
use Rattle.std.specs.Prelude.{map}
use Rattle.std.proofs.lemmas.Bool.{and_parts}
use Rattle.sctp_model.specs.numbers.Limits.{RESETS_AT_ONCE}
use Rattle.sctp_model.specs.numbers.Lists.{Has, joined}
use Rattle.sctp_model.specs.numbers.Numbers.{u16_bytes, u32_bytes}
use Rattle.sctp_model.specs.numbers.Serial.{tsn}
use Rattle.sctp_model.specs.wire.Typed.{Typed, IsTyped, typed_in, written_typed}
use Rattle.sctp_model.specs.wire.Reconfig.{OUTGOING_RESET, INCOMING_RESET, TSN_RESET, ADD_OUTGOING, ADD_INCOMING, RECONFIG_RESPONSE, ResetMeaning, reset_item, reset_read, reconfig_chunk, is_parameter, is_other_request}
use Rattle.sctp_model.specs.messages.Format.{Format}
use Rattle.sctp_model.specs.sender.Outgoing.{Request}
use Rattle.sctp_model.specs.sender.SenderView.{SenderView}
use Rattle.sctp_model.specs.sender.Resetting.{request_said}
use Rattle.sctp_model.specs.receiver.ReceiverView.{ReceiverView}
use Rattle.sctp_model.specs.receiver.ResetTaken.{with_answers}
use Rattle.sctp_model.specs.world.Calls.{Asked}
use Rattle.sctp_safety.proofs.machine.Written.{AreTyped, written_read}
use Rattle.sctp_safety.proofs.runs.Dates.{Date, Dated, dated}
use Rattle.sctp_safety.proofs.runs.Direction.{IsSaid, Direction, more_same}
use Rattle.sctp_safety.proofs.runs.Sending.{said_more}
use Rattle.sctp_safety.proofs.runs.Hearing.{put_back}
use Rattle.sctp_safety.proofs.runs.Renumbering.{receiver_reset}
use Rattle.sctp_safety.proofs.runs.ResetFacts.{AreAsked, AreAnswers, IsAskedBy, IsAnsweredBy, IsOpen, last_received, request_back}

-- ---- parameters of one type are of no other

other_kind : (kind least : ℕ) (x : Typed) → (x.kind ≡ kind → ⊥) → is_parameter kind least x ≡ false
other_kind kind least x ne = go (x.kind == kind) refl (nat_le least (length x.value))
  where
    go : (b : Bool) → (x.kind == kind) ≡ b → (c : Bool) → (b && c) ≡ false
    go true on c = absurd (ne (eqb-true x.kind kind on))
    go false off c = refl

not_other : (x : Typed) → (x.kind ≡ RECONFIG_RESPONSE) ⊎ (x.kind ≡ OUTGOING_RESET) → is_other_request x ≡ false
not_other x of =
    let a = other_kind INCOMING_RESET 4 x (λ e. go 14 e (λ z. cc) (λ z. cc)) in
    let b = other_kind TSN_RESET 4 x (λ e. go 15 e (λ z. cc) (λ z. cc)) in
    let c = other_kind ADD_OUTGOING 8 x (λ e. go 17 e (λ z. cc) (λ z. cc)) in
    let d = other_kind ADD_INCOMING 8 x (λ e. go 18 e (λ z. cc) (λ z. cc)) in
    rw (a, b, c, d) refl
  where
    go : (k : ℕ) → x.kind ≡ k → (16 ≡ k → ⊥) → (13 ≡ k → ⊥) → ⊥
    go k e not_response not_reset = elim of [ inl is ↦ not_response (sym is ∙ e) | inr is ↦ not_reset (sym is ∙ e) ]

-- a request is no answer
two_kinds : (k : ℕ) → k ≡ 13 → k ≡ 16 → ⊥
two_kinds k a b = omega (arith, a, b)

no_response : (x : Typed) → x.kind ≡ OUTGOING_RESET → is_parameter RECONFIG_RESPONSE 8 x ≡ true → ⊥
no_response x is on = two_kinds x.kind is (eqb-true x.kind RECONFIG_RESPONSE (and_parts (x.kind == RECONFIG_RESPONSE) (nat_le 8 (length x.value)) on).0)

-- and an answer no request
no_request : (x : Typed) → x.kind ≡ RECONFIG_RESPONSE → is_parameter OUTGOING_RESET 12 x ≡ true → ⊥
no_request x is on = two_kinds x.kind (eqb-true x.kind OUTGOING_RESET (and_parts (x.kind == OUTGOING_RESET) (nat_le 12 (length x.value)) on).0) is

-- ---- answers

all_typed : (xs : List Typed) → ((x : Typed) → Has xs x → IsTyped x) → AreTyped xs
all_typed [] each = tt
all_typed (x ∷ xs) each = (each x (inl refl), all_typed xs (λ y has. each y (inr has)))

module _ (f : Format) (n : ℕ) (a : SenderView) (u : Asked) (r : ReceiverView) (out back : List Dated) (d : Direction f n a u r out back) (k : Date) where
  answers_there : typed_in (written_typed r.resets.answers) ≡ r.resets.answers
  answers_there = written_read r.resets.answers (all_typed r.resets.answers (λ x has. (d.step.typed x has).0))

  -- the receiver's end says them
  pub after_answers : Direction f n a u (with_answers r []) out (back ++ dated k (reconfig_chunk r.resets.answers) ∷ [])
  after_answers = receiver_reset f n a u r out (back ++ dated k (reconfig_chunk r.resets.answers) ∷ []) said (with_answers r []).resets (record {
    few = d.step.few;
    taken = d.step.taken;
    next = d.step.next;
    answered = d.step.answered;
    finished = d.step.finished;
    counted = d.step.counted;
    fresh = d.step.fresh;
    kept = d.step.kept;
    waiting = d.step.waiting;
    bases = elim d.step.bases [
      | inl both ↦ inl (both.0, both.1)
      | inr x ↦ inr (record { request = x.request; waits = x.waits; taken = x.taken; done = x.done; streams = x.streams; reached = x.reached; bases = x.bases; noted = x.noted })
    ];
    last = d.step.last;
    said = d.step.said;
    waited = λ w is. last_received a r (with_answers r []) w refl refl (d.step.waited w is);
    old = d.step.old;
    answers = λ x has. absurd has;
    typed = λ x has. absurd has;
  }) (λ base i l j h. record { based = record { low = h.based.low; same = h.based.same }; before = h.before; within = h.within }) (λ y h. record { number = h.number; taken = h.taken; wire = h.wire; code = h.code })
    where
      said : Direction f n a u r out (back ++ dated k (reconfig_chunk r.resets.answers) ∷ [])
      said = put_back f n a u r out back d d.bags (more_same d.bags) ([], refl) (dated k (reconfig_chunk r.resets.answers))
          (λ is x has kind. d.step.answers x (subst (λ (xs : List Typed). Has xs x) answers_there has) kind)

-- and its peer's direction takes them for no request
pub answers_ask_nothing : (f : Format) (n : ℕ) (a : SenderView) (u : Asked) (r : ReceiverView) (out back : List Dated) (d : Direction f n a u r out back) (k : Date) (answers : List Typed) →
    ((x : Typed) → Has answers x → IsTyped x × (x.kind ≡ RECONFIG_RESPONSE)) → Direction f n a u r (out ++ dated k (reconfig_chunk answers) ∷ []) back
answers_ask_nothing f n a u r out back d k answers typed = said_more f n a u r out back d (dated k (reconfig_chunk answers) ∷ []) says
  where
    there : typed_in (written_typed answers) ≡ answers
    there = written_read answers (all_typed answers (λ x has. (typed x has).0))

    asks : AreAsked a.initial a (typed_in (written_typed answers))
    asks x has =
        let kind = (typed x (subst (λ (xs : List Typed). Has xs x) there has)).1 in
        ((λ on. absurd (no_request x kind on)), not_other x (inl kind))

    says : (x : Dated) → Has (dated k (reconfig_chunk answers) ∷ []) x → IsSaid f a.initial a r d.bags x.date.own x.chunk
    says x (inl e) = subst (λ (y : Dated). IsSaid f a.initial a r d.bags y.date.own y.chunk) e (λ is. asks)
    says x (inr h) = absurd h

-- ---- a request

length_streams : (xs : List ℕ) → length (joined (map u16_bytes xs)) ≡ 2 * length xs
unfolding u16_bytes
length_streams [] = refl
length_streams (x ∷ xs) = let h = length_streams xs in omega (arith, h)

request_typed : (answered : ℕ) (m : ResetMeaning) → length m.streams ≤ RESETS_AT_ONCE → IsTyped (reset_item answered m)
unfolding u32_bytes
request_typed answered m few = let h = length_streams m.streams in record { kind = omega arith; length = omega (arith, h, few) }

module _ (f : Format) (n : ℕ) (a : SenderView) (u : Asked) (r : ReceiverView) (out back : List Dated) (d : Direction f n a u r out back) (k : Date) (q : Request) (waits : a.resets.pending ≡ Some q) (answered : ℕ) where
  abbrev item : Typed
  item = reset_item answered (request_said a q)

  o : IsOpen a q
  o = d.step.waiting q waits

  item_there : typed_in (written_typed (item ∷ [])) ≡ item ∷ []
  item_there = written_read (item ∷ []) (request_typed answered (request_said a q) o.few, tt)

  reads : reset_read item ≡ request_said a q
  reads = request_back answered (request_said a q) (omega arith) (omega arith) o.short

  asked_by : IsAskedBy a.initial a (request_said a q)
  asked_by = record {
    number = a.resets.made;
    some = let k = o.counted in let m = o.made in omega (arith, k, m);
    made = omega arith;
    wire = refl;
    same = λ x other le. let is : q ≡ x = cc (waits, other) in (ap (λ (y : Request). tsn a.initial y.last) is, ap (λ (y : Request). y.streams) is);
  }

  asks : AreAsked a.initial a (typed_in (written_typed (item ∷ [])))
  asks x has = go (subst (λ (xs : List Typed). Has xs x) item_there has)
    where
      go : Has (item ∷ []) x → (is_parameter OUTGOING_RESET 12 x ≡ true → IsAskedBy a.initial a (reset_read x)) × (is_other_request x ≡ false)
      go (inl e) = ((λ on. subst (λ (y : Typed). IsAskedBy a.initial a (reset_read y)) e (subst (IsAskedBy a.initial a) (sym reads) asked_by)), not_other x (inr (ap (λ (y : Typed). y.kind) (sym e))))
      go (inr h) = absurd h

  -- the sender's end says it
  pub after_request_built : Direction f n a u r (out ++ dated k (reconfig_chunk (item ∷ [])) ∷ []) back
  after_request_built = said_more f n a u r out back d (dated k (reconfig_chunk (item ∷ [])) ∷ []) says
    where
      says : (x : Dated) → Has (dated k (reconfig_chunk (item ∷ [])) ∷ []) x → IsSaid f a.initial a r d.bags x.date.own x.chunk
      says x (inl e) = subst (λ (y : Dated). IsSaid f a.initial a r d.bags y.date.own y.chunk) e (λ is. asks)
      says x (inr h) = absurd h

-- and its peer's direction takes it for no answer
pub request_answers_nothing : (f : Format) (n : ℕ) (a : SenderView) (u : Asked) (r : ReceiverView) (out back : List Dated) (d : Direction f n a u r out back) (k : Date) (answered : ℕ) (m : ResetMeaning) →
    length m.streams ≤ RESETS_AT_ONCE → Direction f n a u r out (back ++ dated k (reconfig_chunk (reset_item answered m ∷ [])) ∷ [])
request_answers_nothing f n a u r out back d k answered m few = put_back f n a u r out back d d.bags (more_same d.bags) ([], refl) (dated k (reconfig_chunk (reset_item answered m ∷ []))) (λ is. none)
  where
    there : typed_in (written_typed (reset_item answered m ∷ [])) ≡ reset_item answered m ∷ []
    there = written_read (reset_item answered m ∷ []) (request_typed answered m few, tt)

    none : AreAnswers r.initial r (typed_in (written_typed (reset_item answered m ∷ [])))
    none x has kind = go (subst (λ (xs : List Typed). Has xs x) there has)
      where
        go : Has (reset_item answered m ∷ []) x → IsAnsweredBy r.initial r x
        go (inl e) = absurd (no_response x (ap (λ (y : Typed). y.kind) (sym e)) kind)
        go (inr h) = absurd h
