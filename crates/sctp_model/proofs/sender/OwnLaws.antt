-- Whose a ticket is: the name that a search among entries finds, and messages whose tickets name them.
use Rattle.std.proofs.Common.{◌≡◌, ℕ, zero, suc, ◌<◌, ◌≤◌, inl, inr, List, [], ◌∷◌, ◌++◌, length, Bool, true, false, Option, Some, None, refl, ap, ◌∙◌, subst, arith}
use Rattle.std.specs.Prelude.{◌==◌, if◌then◌else◌, find, option_map}
use Rattle.std.specs.Option.{option_or}
use Rattle.std.proofs.lemmas.List.Folds.{find-append}
use Rattle.sctp_model.specs.messages.Format.{Lane}
use Rattle.sctp_model.specs.messages.Plan.{Entry, Part, Plan, message_at, parts_from}
use Rattle.sctp_model.specs.sender.SenderView.{Queued}
use Rattle.sctp_model.specs.sender.Words.{when}
use Rattle.sctp_model.specs.sender.Entries.{entry_lane, entry_number, entry_message, latest}
use Rattle.sctp_model.specs.sender.Assigning.{with_message}
use Rattle.sctp_model.specs.sender.Abandoning.{Name, name_at, name_among, has_ticket}
use Rattle.sctp_model.proofs.sender.WordLaws.{of_two, when_there}
use Rattle.sctp_model.proofs.sender.PlanLaws.{IsNamed, AllNamed, message_new, message_stays}

-- ---- names among entries

-- an entry has the ticket
abbrev pub bears : Plan → ℕ → Entry → Bool
bears p t e = has_ticket t (entry_message p e)

pub name_among-append : (p : Plan) (t : ℕ) (es ds : List Entry) → name_among p t (es ++ ds) ≡ option_or (name_among p t es) (name_among p t ds)
name_among-append p t es ds = ap (option_map name_at) (find-append (bears p t) es ds) ∙ of_two_maps (find (bears p t) es)
  where
    of_two_maps : (o : Option Entry) → option_map name_at (option_or o (find (bears p t) ds)) ≡ option_or (option_map name_at o) (name_among p t ds)
    of_two_maps None = refl
    of_two_maps (Some e) = refl

-- the same search if entries have the same messages
pub name_among-same : (p r : Plan) (t : ℕ) (es : List Entry) → ((e : Entry) → entry_message r e ≡ entry_message p e) → name_among r t es ≡ name_among p t es
name_among-same p r t [] same = refl
name_among-same p r t (e ∷ es) same =
    let here : has_ticket t (entry_message r e) ≡ has_ticket t (entry_message p e) = ap (has_ticket t) (same e) in
    by_test (has_ticket t (entry_message r e)) (has_ticket t (entry_message p e)) here (name_among-same p r t es same)
  where
    by_test : (b c : Bool) → b ≡ c → name_among r t es ≡ name_among p t es → option_map name_at (if b then Some e else find (bears r t) es) ≡ option_map name_at (if c then Some e else find (bears p t) es)
    by_test true true is rest = refl
    by_test true false is rest = absurd (cc)
    by_test false true is rest = absurd (cc)
    by_test false false is rest = rest

pub name_among-stays : (n : ℕ) (p : Plan) (q : Queued) (d t : ℕ) (es : List Entry) → AllNamed n p es → name_among (with_message p q d) t es ≡ name_among p t es
name_among-stays n p q d t [] h = refl
name_among-stays n p q d t (e ∷ es) h =
    let here : has_ticket t (entry_message (with_message p q d) e) ≡ has_ticket t (entry_message p e) = ap (has_ticket t) (message_stays n p q d e h.0) in
    by_test (has_ticket t (entry_message (with_message p q d) e)) (has_ticket t (entry_message p e)) here (name_among-stays n p q d t es h.1)
  where
    by_test : (b c : Bool) → b ≡ c → name_among (with_message p q d) t es ≡ name_among p t es
        → option_map name_at (if b then Some e else find (bears (with_message p q d) t) es) ≡ option_map name_at (if c then Some e else find (bears p t) es)
    by_test true true is rest = refl
    by_test true false is rest = absurd (cc)
    by_test false true is rest = absurd (cc)
    by_test false false is rest = rest

-- the fragments of a new message have its ticket
pub name_among-parts : (p : Plan) (q : Queued) (d t k c : ℕ) → name_among (with_message p q d) t (parts_from q.lane (length (p.messages q.lane)) k (suc c))
    ≡ when (q.message.ticket == t) (record { lane = q.lane; number = length (p.messages q.lane) })
name_among-parts p q d t k zero = rw (message_new p q d) (alone (q.message.ticket == t))
  where
    alone : (b : Bool) → option_map name_at (if b then Some (Part q.lane (length (p.messages q.lane)) k) else None) ≡ when b (record { lane = q.lane; number = length (p.messages q.lane) })
    alone true = refl
    alone false = refl
name_among-parts p q d t k (suc c) =
    let here : has_ticket t (message_at (with_message p q d) q.lane (length (p.messages q.lane))) ≡ (q.message.ticket == t) = ap (has_ticket t) (message_new p q d) in
    by_test (has_ticket t (message_at (with_message p q d) q.lane (length (p.messages q.lane)))) (q.message.ticket == t) here (name_among-parts p q d t (suc k) c)
  where
    by_test : (b x : Bool) → b ≡ x → name_among (with_message p q d) t (parts_from q.lane (length (p.messages q.lane)) (suc k) (suc c)) ≡ when x (record { lane = q.lane; number = length (p.messages q.lane) })
        → option_map name_at (if b then Some (Part q.lane (length (p.messages q.lane)) k) else find (bears (with_message p q d) t) (parts_from q.lane (length (p.messages q.lane)) (suc k) (suc c)))
        ≡ when x (record { lane = q.lane; number = length (p.messages q.lane) })
    by_test true true is rest = refl
    by_test true false is rest = absurd (cc)
    by_test false true is rest = absurd (cc)
    by_test false false is rest = rest

-- ---- who has a ticket

-- a message's ticket was given, and names it
abbrev pub Owns : Plan → ℕ → List Entry → Lane → ℕ → Type 0
Owns p k all l m = (t : ℕ) → has_ticket t (message_at p l m) ≡ true → (0 < t) × (t ≤ k) × (name_among p t all ≡ Some (record { lane = l; number = m }))

abbrev pub AllOwn : Plan → ℕ → List Entry → List Entry → Type 0
AllOwn p k all [] = Unit {0}
AllOwn p k all (e ∷ es) = Owns p k all (entry_lane e) (entry_number e) × AllOwn p k all es

-- the message of a name that was found
pub found_owns : (p : Plan) (k t : ℕ) (all es : List Entry) (n : Name) → AllOwn p k all es → name_among p t es ≡ Some n → Owns p k all n.lane n.number × (has_ticket t (message_at p n.lane n.number) ≡ true)
found_owns p k t all [] n h is = absurd (cc)
found_owns p k t all (e ∷ es) n h is = by_test (bears p t e) refl is (λ there. found_owns p k t all es n h.1 there)
  where
    by_test : (b : Bool) → bears p t e ≡ b → option_map name_at (if b then Some e else find (bears p t) es) ≡ Some n
        → (name_among p t es ≡ Some n → Owns p k all n.lane n.number × (has_ticket t (message_at p n.lane n.number) ≡ true)) → Owns p k all n.lane n.number × (has_ticket t (message_at p n.lane n.number) ≡ true)
    by_test true on here further =
        let same : name_at e ≡ n = cc in
        subst (λ (y : Name). Owns p k all y.lane y.number × (has_ticket t (message_at p y.lane y.number) ≡ true)) same (h.0, on)
    by_test false off here further = further here

pub latest_owns : (p : Plan) (k : ℕ) (all : List Entry) (s : ℕ) (es : List Entry) (x : Entry) → AllOwn p k all es → latest s es ≡ Some x → Owns p k all (entry_lane x) (entry_number x)
latest_owns p k all s [] x h is = absurd (cc)
latest_owns p k all s (e ∷ es) x h is =
    elim (of_two (latest s es) (when ((entry_lane e).stream == s) e) x is) [
      | inl later ↦ latest_owns p k all s es x h.1 later
      | inr here ↦ let on = when_there ((entry_lane e).stream == s) e x here.1 in subst (λ (y : Entry). Owns p k all (entry_lane y) (entry_number y)) on.1 h.0
    ]

-- ---- a longer list of entries

pub own_push : (p r : Plan) (k c : ℕ) (all more : List Entry) (l : Lane) (m : ℕ) → k ≤ c → message_at r l m ≡ message_at p l m
    → ((t : ℕ) (n : Name) → name_among p t all ≡ Some n → name_among r t more ≡ Some n) → Owns p k all l m → Owns r c more l m
own_push p r k c all more l m le same names h = λ t has. let old = h t (rw same at has) in let b = old.1 in (old.0, omega arith, names t _ old.2)

pub all_own_push : (n : ℕ) (p r : Plan) (k c : ℕ) (all more es : List Entry) → k ≤ c → AllNamed n p es → ((e : Entry) → IsNamed n p e → entry_message r e ≡ entry_message p e)
    → ((t : ℕ) (x : Name) → name_among p t all ≡ Some x → name_among r t more ≡ Some x) → AllOwn p k all es → AllOwn r c more es
all_own_push n p r k c all more [] le named same names h = tt
all_own_push n p r k c all more (e ∷ es) le named same names h =
    (own_push p r k c all more (entry_lane e) (entry_number e) le (same e named.0) names h.0, all_own_push n p r k c all more es le named.1 same names h.1)

pub all_own_append : (p : Plan) (k : ℕ) (all es ds : List Entry) → AllOwn p k all es → AllOwn p k all ds → AllOwn p k all (es ++ ds)
all_own_append p k all [] ds h d = d
all_own_append p k all (e ∷ es) ds h d = (h.0, all_own_append p k all es ds h.1 d)

-- what the first of two names stays, whatever the second does
pub some_first : (o other : Option Name) (n : Name) → o ≡ Some n → option_or o other ≡ Some n
some_first o other n is = rw is refl
