-- The plan of a view that calls reach: each entry's message is there, and what each stream goes on with as the plan grows.
use Rattle.std.proofs.Common.{◌≡◌, ℕ, zero, suc, ◌+◌, ◌<◌, ◌≤◌, inl, inr, List, [], ◌∷◌, ◌++◌, length, Bool, true, false, Option, Some, None, refl, sym, ap, ◌∙◌, subst, arith, length-append}
use Rattle.std.specs.Prelude.{◌==◌, nat_lt, if◌then◌else◌, slice_get, option_and_then}
use Rattle.std.specs.Option.{option_or}
use Rattle.std.proofs.lemmas.Bool.Decides.{nat_tests}
use Rattle.sctp_model.specs.messages.Format.{Lane, same_lane}
use Rattle.sctp_model.specs.messages.Plan.{Message, Entry, Part, End, Plan, message_at, parts_from}
use Rattle.sctp_model.specs.sender.SenderView.{Queued}
use Rattle.sctp_model.specs.sender.Words.{when}
use Rattle.sctp_model.specs.sender.Entries.{entry_lane, entry_number, entry_message, fragments_in, latest, next_part, continued}
use Rattle.sctp_model.specs.sender.Assigning.{with_message, with_entry}
use Rattle.sctp_model.proofs.sender.WordLaws.{of_two, when_there}
use Rattle.sctp_model.proofs.sender.AbandonCases.{same_lane-self, lanes_same}

-- ---- messages that have numbers

-- a message more changes none before it
get_before : (ms more : List Message) (n : ℕ) → n < length ms → slice_get (ms ++ more) n ≡ slice_get ms n
get_before [] more n low = absurd (omega arith)
get_before (m ∷ ms) more zero low = refl
get_before (m ∷ ms) more (suc n) low = get_before ms more n (omega arith)

-- and is the one that its number says
get_last : (ms : List Message) (new : Message) → slice_get (ms ++ new ∷ []) (length ms) ≡ Some new
get_last [] new = refl
get_last (m ∷ ms) new = get_last ms new

-- an entry's message is there, on a stream that is there
pub record IsNamed (n : ℕ) (p : Plan) (e : Entry) : Type 0 where
  pub number : entry_number e < length (p.messages (entry_lane e))
  pub stream : (entry_lane e).stream < n

abbrev pub AllNamed : ℕ → Plan → List Entry → Type 0
AllNamed n p [] = Unit {0}
AllNamed n p (e ∷ es) = IsNamed n p e × AllNamed n p es

pub message_new : (p : Plan) (q : Queued) (d : ℕ) → message_at (with_message p q d) q.lane (length (p.messages q.lane)) ≡ Some q.message
message_new p q d = rw (same_lane-self q.lane) (get_last (p.messages q.lane) q.message)

pub message_stays : (n : ℕ) (p : Plan) (q : Queued) (d : ℕ) (e : Entry) → IsNamed n p e → entry_message (with_message p q d) e ≡ entry_message p e
message_stays n p q d e named = by_test (same_lane (entry_lane e) q.lane) refl
  where
    by_test : (b : Bool) → same_lane (entry_lane e) q.lane ≡ b → entry_message (with_message p q d) e ≡ entry_message p e
    by_test false is = rw is refl
    by_test true is =
        let same = lanes_same (entry_lane e) q.lane is in
        let lt : entry_number e < length (p.messages q.lane) = rw same at named.number in
        rw is (get_before (p.messages q.lane) (q.message ∷ []) (entry_number e) lt ∙ ap (λ (l : Lane). slice_get (p.messages l) (entry_number e)) (sym same))

longer_lane : (p : Plan) (q : Queued) (d : ℕ) (l : Lane) → length (p.messages l) ≤ length ((with_message p q d).messages l)
longer_lane p q d l = by_test (same_lane l q.lane) refl
  where
    by_test : (b : Bool) → same_lane l q.lane ≡ b → length (p.messages l) ≤ length ((with_message p q d).messages l)
    by_test false is = rw is (omega arith)
    by_test true is = let same = lanes_same l q.lane is in rw (is, same) (omega (arith, length-append (p.messages q.lane) (q.message ∷ [])))

pub named_stays : (n : ℕ) (p : Plan) (q : Queued) (d : ℕ) (es : List Entry) → AllNamed n p es → AllNamed n (with_message p q d) es
named_stays n p q d [] h = tt
named_stays n p q d (e ∷ es) h =
    let more = longer_lane p q d (entry_lane e) in
    let low = h.0.number in
    (record { number = omega arith; stream = h.0.stream }, named_stays n p q d es h.1)

pub named_append : (n : ℕ) (p : Plan) (es ds : List Entry) → AllNamed n p es → AllNamed n p ds → AllNamed n p (es ++ ds)
named_append n p [] ds h k = k
named_append n p (e ∷ es) ds h k = (h.0, named_append n p es ds h.1 k)

pub named_parts : (n : ℕ) (p : Plan) (l : Lane) (m k d : ℕ) → m < length (p.messages l) → l.stream < n → AllNamed n p (parts_from l m k d)
named_parts n p l m k zero low lt = tt
named_parts n p l m k (suc d) low lt = (record { number = low; stream = lt }, named_parts n p l m (suc k) d low lt)

-- other entries in the same plan of messages
pub named_kept : (n : ℕ) (p : Plan) (more : List Entry) (es : List Entry) → AllNamed n p es → AllNamed n (record p { entries = more }) es
named_kept n p more [] h = tt
named_kept n p more (e ∷ es) h = (record { number = h.0.number; stream = h.0.stream }, named_kept n p more es h.1)

-- ---- the latest entry of a stream

or_absent : {A : Type 0} (o : Option A) → o ≡ option_or o None
or_absent None = refl
or_absent (Some x) = refl

or_three : {A : Type 0} (a b c : Option A) → option_or (option_or a b) c ≡ option_or a (option_or b c)
or_three None b c = refl
or_three (Some x) b c = refl

-- of two lists one after the other it is that of the second, or else that of the first
pub latest-append : (s : ℕ) (es ds : List Entry) → latest s (es ++ ds) ≡ option_or (latest s ds) (latest s es)
latest-append s [] ds = or_absent (latest s ds)
latest-append s (e ∷ es) ds = ap (λ (o : Option Entry). option_or o (when ((entry_lane e).stream == s) e)) (latest-append s es ds) ∙ or_three (latest s ds) (latest s es) (when ((entry_lane e).stream == s) e)

-- what is found is an entry of the stream
pub record IsLatest (n : ℕ) (p : Plan) (s : ℕ) (e : Entry) : Type 0 where
  pub stream : (entry_lane e).stream ≡ s
  pub named : IsNamed n p e

pub latest_named : (n : ℕ) (p : Plan) (s : ℕ) (es : List Entry) (x : Entry) → AllNamed n p es → latest s es ≡ Some x → IsLatest n p s x
latest_named n p s [] x h is = absurd (cc)
latest_named n p s (e ∷ es) x h is =
    elim (of_two (latest s es) (when ((entry_lane e).stream == s) e) x is) [
      | inl later ↦ latest_named n p s es x h.1 later
      | inr here ↦ let on = when_there ((entry_lane e).stream == s) e x here.1 in subst (λ (y : Entry). IsLatest n p s y) on.1 (this on.0)
    ]
  where
    this : ((entry_lane e).stream == s) ≡ true → IsLatest n p s e
    this on = record { stream = grind (arith, nat_tests); named = h.0 }

-- of the fragments of one message it is the last
latest_parts : (s : ℕ) (l : Lane) (m k d : ℕ) → latest s (parts_from l m k (suc d)) ≡ when (l.stream == s) (Part l m (k + d))
latest_parts s l m k zero = let same : k + 0 ≡ k = omega arith in rw same refl
latest_parts s l m k (suc d) =
    let next : suc k + d ≡ k + suc d = omega arith in
    ap (λ (o : Option Entry). option_or o (when (l.stream == s) (Part l m k))) (rw next at (latest_parts s l m (suc k) d)) ∙ by_test (l.stream == s)
  where
    by_test : (b : Bool) → option_or (when b (Part l m (k + suc d))) (when b (Part l m k)) ≡ when b (Part l m (k + suc d))
    by_test true = refl
    by_test false = refl

-- ---- what a stream goes on with

-- what follows an entry is of its message
pub record IsFollower (n : ℕ) (p : Plan) (s : ℕ) (e : Entry) : Type 0 where
  pub lane : Lane
  pub number : ℕ
  pub fragment : ℕ
  pub before : latest s p.entries ≡ Some (Part lane number fragment)
  pub is : e ≡ Part lane number (suc fragment)
  pub more : suc fragment < length (fragments_in (message_at p lane number))
  pub on : lane.stream ≡ s
  pub named : IsNamed n p e

pub continued_is : (n : ℕ) (p : Plan) (s : ℕ) (e : Entry) → AllNamed n p p.entries → continued p s ≡ Some e → IsFollower n p s e
continued_is n p s e h is = by_latest (latest s p.entries) refl is
  where
    by_latest : (o : Option Entry) → latest s p.entries ≡ o → option_and_then (next_part p) o ≡ Some e → IsFollower n p s e
    by_latest None before here = absurd (cc)
    by_latest (Some (End l m)) before here = absurd (cc)
    by_latest (Some (Part l m k)) before here =
        let found = latest_named n p s p.entries (Part l m k) h before in
        let next = when_there (nat_lt (suc k) (length (fragments_in (message_at p l m)))) (Part l m (suc k)) e here in
        let lt = next.0 in
        subst (λ (y : Entry). IsFollower n p s y) next.1
        (record { lane = l; number = m; fragment = k; before = before; is = refl; more = grind (arith, nat_tests); on = found.stream; named = record { number = found.named.number; stream = found.named.stream } })

next_stays : (n : ℕ) (p : Plan) (q : Queued) (d : ℕ) (o : Option Entry) → ((e : Entry) → o ≡ Some e → IsNamed n p e) → option_and_then (next_part (with_message p q d)) o ≡ option_and_then (next_part p) o
next_stays n p q d None h = refl
next_stays n p q d (Some (End l m)) h = refl
next_stays n p q d (Some (Part l m k)) h =
    ap (λ (x : Option Message). when (nat_lt (suc k) (length (fragments_in x))) (Part l m (suc k))) (message_stays n p q d (Part l m k) (h (Part l m k) refl))

-- a message took its number: its stream goes on with it, if it has more fragments
pub continued_new : (n : ℕ) (p : Plan) (q : Queued) (d s : ℕ) → AllNamed n p p.entries → continued (with_message p q (suc d)) s
    ≡ (if q.lane.stream == s then when (nat_lt (suc d) (length q.message.fragments)) (Part q.lane (length (p.messages q.lane)) (suc d)) else continued p s)
continued_new n p q d s h =
    let m = length (p.messages q.lane) in
    let zeroed : 0 + d ≡ d = omega arith in
    ap (option_and_then (next_part (with_message p q (suc d)))) (latest-append s p.entries (parts_from q.lane m 0 (suc d)) ∙ ap (λ (o : Option Entry). option_or o (latest s p.entries)) (rw zeroed at (latest_parts s q.lane m 0 d)))
    ∙ by_test (q.lane.stream == s)
  where
    by_test : (b : Bool) → option_and_then (next_part (with_message p q (suc d))) (option_or (when b (Part q.lane (length (p.messages q.lane)) d)) (latest s p.entries))
        ≡ (if b then when (nat_lt (suc d) (length q.message.fragments)) (Part q.lane (length (p.messages q.lane)) (suc d)) else continued p s)
    by_test true = ap (λ (x : Option Message). when (nat_lt (suc d) (length (fragments_in x))) (Part q.lane (length (p.messages q.lane)) (suc d))) (message_new p q (suc d))
    by_test false = next_stays n p q (suc d) (latest s p.entries) (λ e is. (latest_named n p s p.entries e h is).named)

-- which entries there are doesn't matter to what follows one of them
pub next_kept : (p : Plan) (more : List Entry) (o : Option Entry) → option_and_then (next_part (record p { entries = more })) o ≡ option_and_then (next_part p) o
next_kept p more None = refl
next_kept p more (Some (End l m)) = refl
next_kept p more (Some (Part l m k)) = refl

-- one entry more: its stream goes on with what follows it, the others as before
pub continued_more : (p : Plan) (e : Entry) (s : ℕ) → continued (with_entry p e) s ≡ (if (entry_lane e).stream == s then next_part p e else continued p s)
continued_more p e s =
    next_kept p (p.entries ++ e ∷ []) (latest s (p.entries ++ e ∷ [])) ∙ ap (option_and_then (next_part p)) (latest-append s p.entries (e ∷ [])) ∙ by_test ((entry_lane e).stream == s)
  where
    by_test : (b : Bool) → option_and_then (next_part p) (option_or (when b e) (latest s p.entries)) ≡ (if b then next_part p e else continued p s)
    by_test true = refl
    by_test false = refl
