-- What both endpoints of a direction know of its resets, and what their chunks say of them (RFC 6525, 5.1 and 5.2).
use Rattle.std.proofs.Common.{◌≡◌, ℕ, suc, ◌+◌, ◌-◌, ◌*◌, ◌/◌, ◌^◌, ◌%◌, ◌<◌, ◌≤◌, ◌⊎◌, nat_le, Bool, true, false, List, [], ◌∷◌, ◌++◌, length, Option, None, Some, inl, inr, refl, sym, subst, ap, arith, ◌∙◌, if◌then◌else◌}
use Rattle.std.specs.Prelude.{drop, map}
use Rattle.std.specs.List.{list_any}
use Rattle.std.proofs.lemmas.Bool.{cases_lt}
use Rattle.std.proofs.lemmas.Bool.Decides.{nat_tests}
use Rattle.sctp_model.specs.numbers.Limits.{WINDOW, REQUEST_LIMIT, RESETS_AT_ONCE}
use Rattle.sctp_model.specs.numbers.Lists.{Has, joined}
use Rattle.sctp_model.specs.numbers.Numbers.{u16_bytes, u32_bytes, u32_at}
use Rattle.sctp_model.specs.numbers.Serial.{tsn, ahead}
use Rattle.sctp_model.specs.wire.Typed.{Typed, IsTyped}
use Rattle.sctp_model.specs.wire.Reconfig.{OUTGOING_RESET, RECONFIG_RESPONSE, ResetMeaning, u16s_in, reset_item, reset_read, is_parameter, is_other_request, Performed, BadNumber, InProgress, result_code, is_progress_code}
use Rattle.sctp_model.specs.messages.Format.{Format, Lane, is_numbered}
use Rattle.sctp_model.specs.messages.Plan.{Entry, entry_at}
use Rattle.sctp_model.specs.sender.Outgoing.{is_sending, is_resetting, lists, FirstNumber, NextNumber, takes_next, Request, Outgoing}
use Rattle.sctp_model.specs.sender.SenderView.{SenderView}
use Rattle.sctp_model.specs.sender.Entries.{entry_lane}
use Rattle.sctp_model.specs.sender.Resetting.{rebased}
use Rattle.sctp_model.specs.receiver.Incoming.{Incoming, Waited}
use Rattle.sctp_model.specs.receiver.ReceiverView.{ReceiverView, Reaches}
use Rattle.sctp_model.specs.receiver.Reading.{is_behind}
use Rattle.sctp_safety.specs.ReceiverLaws.{AreReached, IsBased}
use Rattle.sctp_safety.proofs.runs.StillStreams.{IsOld, IsStill, IsAsStill}

-- ---- what chunks say

-- A number that a chunk says by a base: as the receiver reads it, or the chunk is old; and if its stream is of the request that waits, the chunk lies
-- before that.
pub record IsReadable (f : Format) (a : SenderView) (r : ReceiverView) (base : Lane → ℕ) (i : ℕ) (l : Lane) (n : ℕ) : Type 0 where
  pub based : IsBased f r base i l n
  pub before : (q : Request) → a.resets.pending ≡ Some q → lists q.streams l.stream ≡ true → i ≤ q.last
  pub within : i ≤ length a.plan.entries

-- a request of the sender's end: from the number on with which it was made, it says what waits
pub record IsAskedBy (i : ℕ) (a : SenderView) (m : ResetMeaning) : Type 0 where
  pub number : ℕ
  pub some : 0 < number
  pub made : number ≤ a.resets.made
  pub wire : m.number ≡ tsn i number
  pub same : (q : Request) → a.resets.pending ≡ Some q → q.first ≤ number → (m.last ≡ tsn i q.last) × (m.streams ≡ q.streams)

-- the last request was in progress
abbrev pub WasWaiting : ReceiverView → Type 0
WasWaiting r = (w : Waited) × (r.resets.waited ≡ Some w)

-- an answer of the receiver's end: what is answered to the last request stays so, unless it was in progress, which is noted
pub record IsAnsweredBy (i : ℕ) (r : ReceiverView) (x : Typed) : Type 0 where
  pub number : ℕ
  pub taken : number ≤ r.resets.taken
  pub wire : u32_at x.value ≡ tsn i number
  pub code : number ≡ r.resets.taken → ((is_progress_code (u32_at (drop 4 x.value)) ≡ true) × WasWaiting r) ⊎ (u32_at (drop 4 x.value) ≡ result_code r.resets.result)

-- parameters of a RE-CONFIG of the sender's end
abbrev pub AreAsked : ℕ → SenderView → List Typed → Type 0
AreAsked i a items = (x : Typed) → Has items x → (is_parameter OUTGOING_RESET 12 x ≡ true → IsAskedBy i a (reset_read x)) × (is_other_request x ≡ false)

-- and of the receiver's
abbrev pub AreAnswers : ℕ → ReceiverView → List Typed → Type 0
AreAnswers i r items = (x : Typed) → Has items x → is_parameter RECONFIG_RESPONSE 8 x ≡ true → IsAnsweredBy i r x

-- ---- both endpoints

-- the streams of the request that waits are still, and all that they have lies before it
pub record IsOpen (a : SenderView) (q : Request) : Type 0 where
  pub counted : 0 < q.first
  pub made : q.first ≤ a.resets.made
  pub some : 0 < length q.streams
  pub few : length q.streams ≤ RESETS_AT_ONCE
  pub short : (s : ℕ) → Has q.streams s → s < 2 ^ 16
  pub within : q.last ≤ length a.plan.entries
  pub shut : (s : ℕ) → lists q.streams s ≡ true → is_sending (a.resets.sending s) ≡ false
  pub resets : (s : ℕ) → lists q.streams s ≡ true → is_resetting (a.resets.sending s) ≡ true
  pub still : (s : ℕ) → lists q.streams s ≡ true → IsStill a s
  pub below : (s : ℕ) → lists q.streams s ≡ true → (i : ℕ) (e : Entry) → entry_at a.plan i ≡ Some e → (entry_lane e).stream ≡ s → (i ≤ a.cum) × (i ≤ q.last)

-- both count from the same numbers
abbrev pub AreEven : Format → SenderView → ReceiverView → Type 0
AreEven f a r = (l : Lane) → is_numbered f l.kind ≡ true → a.resets.base l ≡ r.resets.base l

-- what is noted of this request, once it was performed
abbrev pub noted_done : (initial : ℕ) → Request → Waited
noted_done i q = record { last = tsn i q.last; streams = q.streams; done = true }

-- It is noted that the request that waits was performed, after it had been in progress; or it was never in progress, and isn't retried with another number.
abbrev pub IsNotedDone : SenderView → ReceiverView → Request → Type 0
IsNotedDone a r q =
    (r.resets.waited ≡ Some (noted_done r.initial q)) ⊎
    ((r.resets.waited ≡ None) × (r.resets.result ≡ Performed) × (r.resets.taken ≡ a.resets.made) × (takes_next q.numbering ≡ false))

-- The request that waits names this stream, was performed, and is noted so: it is reported no more.
pub record IsNoted (a : SenderView) (r : ReceiverView) (s : ℕ) : Type 0 where
  pub request : Request
  pub waits : a.resets.pending ≡ Some request
  pub named : lists request.streams s ≡ true
  pub there : list_any (nat_le r.streams) request.streams ≡ false
  pub done : IsNotedDone a r request

-- by another receiver that has noted the same
pub noted_received : (a : SenderView) (r t : ReceiverView) (s : ℕ) → t.initial ≡ r.initial → t.streams ≡ r.streams → t.resets.waited ≡ r.resets.waited → t.resets.result ≡ r.resets.result →
    t.resets.taken ≡ r.resets.taken → IsNoted a r s → IsNoted a t s
noted_received a r t s initial streams waited result taken k = record {
  request = k.request;
  waits = k.waits;
  named = k.named;
  there = ap (λ (n : ℕ). list_any (nat_le n) k.request.streams) streams ∙ k.there;
  done = elim k.done [
    | inl done ↦ inl (waited ∙ done ∙ ap (λ (i : ℕ). Some (noted_done i k.request)) (sym initial))
    | inr never ↦ inr (waited ∙ never.0, result ∙ never.1, taken ∙ never.2, never.3)
  ];
}

-- and by another sender with the same request
pub noted_sent : (a b : SenderView) (r : ReceiverView) (s : ℕ) → b.resets.pending ≡ a.resets.pending → b.resets.made ≡ a.resets.made → IsNoted a r s → IsNoted b r s
noted_sent a b r s pending made k = record {
  request = k.request;
  waits = pending ∙ k.waits;
  named = k.named;
  there = k.there;
  done = elim k.done [
    | inl done ↦ inl done
    | inr never ↦ inr (never.0, never.1, never.2 ∙ sym made, never.3)
  ];
}

-- the receiver has done what waits, and the sender doesn't know
pub record IsAhead (f : Format) (a : SenderView) (r : ReceiverView) : Type 0 where
  pub request : Request
  pub waits : a.resets.pending ≡ Some request
  pub taken : request.first ≤ r.resets.taken
  pub done : (r.resets.result ≡ Performed) ⊎ (r.resets.result ≡ InProgress)
  pub streams : list_any (nat_le r.streams) request.streams ≡ false
  pub reached : AreReached r request.last
  pub bases : (l : Lane) → is_numbered f l.kind ≡ true → r.resets.base l ≡ rebased a request l
  pub noted : IsNotedDone a r request

-- it hasn't done it
abbrev pub IsUndone : SenderView → ReceiverView → Type 0
IsUndone a r = (q : Request) → a.resets.pending ≡ Some q → q.first ≤ r.resets.taken → r.resets.result ≡ Performed → ⊥

-- The receiver has taken the last number of the sender, and it was in progress.
abbrev pub IsKept : SenderView → ReceiverView → Type 0
IsKept a r = (r.resets.taken ≡ a.resets.made) × (WasWaiting r ⊎ (r.resets.result ≡ InProgress))

-- what is known of a request that was in progress is what this one says
abbrev pub SaysSame : (initial : ℕ) → Waited → Request → Type 0
SaysSame i w q = (w.last ≡ tsn i q.last) × (w.streams ≡ q.streams)

-- What the receiver knows of a request that was in progress is what the last one says that was made, if that was taken; else that one says something else.
pub record IsOfLast (a : SenderView) (r : ReceiverView) (w : Waited) : Type 0 where
  pub request : Request
  pub last : a.resets.last_made ≡ Some request
  pub taken : request.first ≤ r.resets.taken → SaysSame r.initial w request
  pub new : r.resets.taken < request.first → SaysSame r.initial w request → ⊥

pub last_sent : (a b : SenderView) (r : ReceiverView) (w : Waited) → b.resets.last_made ≡ a.resets.last_made → IsOfLast a r w → IsOfLast b r w
last_sent a b r w same k = record { request = k.request; last = same ∙ k.last; taken = k.taken; new = k.new }

pub last_received : (a : SenderView) (r t : ReceiverView) (w : Waited) → t.initial ≡ r.initial → t.resets.taken ≡ r.resets.taken → IsOfLast a r w → IsOfLast a t w
last_received a r t w initial taken k = record {
  request = k.request;
  last = k.last;
  taken = λ le. subst (λ (i : ℕ). SaysSame i w k.request) (sym initial) (k.taken (omega (arith, le, taken)));
  new = λ lt same. k.new (omega (arith, lt, taken)) (subst (λ (i : ℕ). SaysSame i w k.request) initial same);
}

pub record AreInStep (f : Format) (a : SenderView) (r : ReceiverView) : Type 0 where
  pub few : a.resets.made ≤ REQUEST_LIMIT
  pub counted : r.resets.result ≡ BadNumber → r.resets.taken ≡ 0
  pub taken : r.resets.taken ≤ a.resets.made
  pub next : a.resets.made ≤ suc r.resets.taken
  pub answered : a.resets.pending ≡ None → r.resets.taken ≡ a.resets.made
  pub finished : a.resets.pending ≡ None → r.resets.result ≡ InProgress → ⊥
  pub fresh : (q : Request) → a.resets.pending ≡ Some q → r.resets.taken < q.first → r.resets.result ≡ InProgress → ⊥
  pub kept : (q : Request) → a.resets.pending ≡ Some q → q.numbering ≡ NextNumber → IsKept a r
  pub waiting : (q : Request) → a.resets.pending ≡ Some q → IsOpen a q
  pub bases : (AreEven f a r × IsUndone a r) ⊎ IsAhead f a r
  pub last : (q : Request) → a.resets.last_made ≡ Some q → q.first ≤ a.resets.made
  pub said : (q : Request) → a.resets.pending ≡ Some q → a.resets.last_made ≡ Some (record q { numbering = FirstNumber })
  pub waited : (w : Waited) → r.resets.waited ≡ Some w → IsOfLast a r w
  pub old : (l : Lane) (n : ℕ) → n < a.resets.base l → IsOld a.plan a.cum l n
  pub answers : AreAnswers r.initial r r.resets.answers
  pub typed : (x : Typed) → Has r.resets.answers x → IsTyped x × (x.kind ≡ RECONFIG_RESPONSE)

-- ---- numbers on the wire

pub u32_back : (n : ℕ) (rest : List ℕ) → n < 2 ^ 32 → u32_at (u32_bytes n ++ rest) ≡ n
unfolding u32_bytes u32_at
u32_back n rest h = omega arith

pub behind_u32 : (n : ℕ) (rest : List ℕ) → drop 4 (u32_bytes n ++ rest) ≡ rest
unfolding u32_bytes
behind_u32 n rest = refl

pub behind_two : (n k : ℕ) (rest : List ℕ) → drop 8 (u32_bytes n ++ (u32_bytes k ++ rest)) ≡ rest
unfolding u32_bytes
behind_two n k rest = refl

pub behind_three : (n k d : ℕ) (rest : List ℕ) → drop 12 (u32_bytes n ++ (u32_bytes k ++ (u32_bytes d ++ rest))) ≡ rest
unfolding u32_bytes
behind_three n k d rest = refl

one_back : (x : ℕ) (rest : List ℕ) → x < 2 ^ 16 → u16s_in (u16_bytes x ++ rest) ≡ x ∷ u16s_in rest
unfolding u16_bytes
one_back x rest h = let e : x / 256 % 256 * 256 + x % 256 ≡ x = omega (arith, h) in ap (λ (y : ℕ). y ∷ u16s_in rest) e

pub u16s_back : (xs : List ℕ) → ((x : ℕ) → Has xs x → x < 2 ^ 16) → u16s_in (joined (map u16_bytes xs)) ≡ xs
u16s_back [] small = refl
u16s_back (x ∷ xs) small = one_back x (joined (map u16_bytes xs)) (small x (inl refl)) ∙ ap (λ (ys : List ℕ). x ∷ ys) (u16s_back xs (λ y h. small y (inr h)))

-- a request is read as it was written
pub request_back : (answered : ℕ) (m : ResetMeaning) → m.number < 2 ^ 32 → m.last < 2 ^ 32 → ((x : ℕ) → Has m.streams x → x < 2 ^ 16) → reset_read (reset_item answered m) ≡ m
request_back answered m number last streams =
    let rest = u32_bytes answered ++ (u32_bytes m.last ++ joined (map u16_bytes m.streams)) in
    ap (λ (n : ℕ). record (reset_read (reset_item answered m)) { number = n }) (u32_back m.number rest number)
    ∙ ap (λ (bs : List ℕ). record { number = m.number; last = u32_at bs; streams = u16s_in (drop 12 (reset_item answered m).value) }) (behind_two m.number answered (u32_bytes m.last ++ joined (map u16_bytes m.streams)))
    ∙ ap (λ (n : ℕ). record { number = m.number; last = n; streams = u16s_in (drop 12 (reset_item answered m).value) }) (u32_back m.last (joined (map u16_bytes m.streams)) last)
    ∙ ap (λ (bs : List ℕ). record { number = m.number; last = m.last; streams = u16s_in bs }) (behind_three m.number answered m.last (joined (map u16_bytes m.streams)))
    ∙ ap (λ (xs : List ℕ). record { number = m.number; last = m.last; streams = xs }) (u16s_back m.streams streams)

-- numbers of requests have wire values of their own
pub one_number : (i k j : ℕ) → k ≤ 2 ^ 31 → j ≤ 2 ^ 31 → tsn i k ≡ tsn i j → k ≡ j
one_number i k j a b same = omega (arith, a, b, same)

-- a last TSN that is old, and no further ahead than the window holds, is reached
pub behind_is : (r : ReceiverView) (c i : ℕ) → i ≤ c + WINDOW → is_behind r c (tsn r.initial i) ≡ true → i ≤ c
behind_is r c i near behind = elim (cases_lt c i) [
  | inr low ↦ low
  | inl past ↦ absurd (let e : ahead 32 (tsn r.initial c) (tsn r.initial i) ≡ i - c = omega (arith, past, near) in grind (arith, nat_tests, e, past, near, behind))
]

-- ---- what stays true

-- of a sender whose plan grows, and of a receiver that reaches more, if neither's resets change
pub readable_later : (f : Format) (a b : SenderView) (r t : ReceiverView) (base : Lane → ℕ) (i : ℕ) (l : Lane) (n : ℕ) → b.resets ≡ a.resets → length a.plan.entries ≤ length b.plan.entries →
    t.resets ≡ r.resets → ((j : ℕ) → Reaches r j → Reaches t j) → IsReadable f a r base i l n → IsReadable f b t base i l n
readable_later f a b r t base i l n sending longer receiving more h = record {
  based = record {
    low = h.based.low;
    same = λ numbered. elim (h.based.same numbered) [
      | inl reached ↦ inl (λ j some le. more j (reached j some le))
      | inr same ↦ inr (same ∙ ap (λ (x : Incoming). x.base l) (sym receiving))
    ];
  };
  before = λ q waits. h.before q (ap (λ (x : Outgoing). x.pending) (sym sending) ∙ waits);
  within = let w = h.within in omega (arith, w, longer);
}

pub asked_later : (i : ℕ) (a b : SenderView) (m : ResetMeaning) → b.resets ≡ a.resets → IsAskedBy i a m → IsAskedBy i b m
asked_later i a b m same h = record {
  number = h.number;
  some = h.some;
  made = let k = h.made in let e = ap (λ (x : Outgoing). x.made) same in omega (arith, k, e);
  wire = h.wire;
  same = λ q waits. h.same q (ap (λ (x : Outgoing). x.pending) (sym same) ∙ waits);
}

pub answered_later : (i : ℕ) (r t : ReceiverView) (x : Typed) → t.resets ≡ r.resets → IsAnsweredBy i r x → IsAnsweredBy i t x
answered_later i r t x same h = record {
  number = h.number;
  taken = let k = h.taken in let e = ap (λ (y : Incoming). y.taken) same in omega (arith, k, e);
  wire = h.wire;
  code = λ last. elim (h.code (last ∙ ap (λ (y : Incoming). y.taken) same)) [
    | inl on ↦ inl (on.0, (on.1.0, ap (λ (y : Incoming). y.waited) same ∙ on.1.1))
    | inr is ↦ inr (is ∙ ap (λ (y : Incoming). result_code y.result) (sym same))
  ];
}

-- the lanes of a still stream have the messages that they had
rebased_later : (f : Format) (a b : SenderView) (q : Request) (l : Lane) → b.resets ≡ a.resets → ((s : ℕ) → lists q.streams s ≡ true → IsAsStill s a b) → rebased b q l ≡ rebased a q l
rebased_later f a b q l same stills = go (lists q.streams l.stream) refl
  where
    go : (x : Bool) → lists q.streams l.stream ≡ x → (if x then length (b.plan.messages l) else b.resets.base l) ≡ (if x then length (a.plan.messages l) else a.resets.base l)
    go true on = ap length ((stills l.stream on).messages l refl)
    go false off = ap (λ (x : Outgoing). x.base l) same

-- The sender's plan grew, beside the streams that wait for their reset.
pub step_sent : (f : Format) (a b : SenderView) (r : ReceiverView) → b.resets ≡ a.resets → b.streams ≡ a.streams → a.cum ≤ b.cum → length a.plan.entries ≤ length b.plan.entries →
    ((s : ℕ) → is_sending (a.resets.sending s) ≡ false → IsStill a s → IsAsStill s a b) → ((l : Lane) (n : ℕ) → IsOld a.plan a.cum l n → IsOld b.plan a.cum l n) →
    AreInStep f a r → AreInStep f b r
step_sent f a b r same streams cum longer stills olds h = record {
  few = let k = h.few in omega (arith, k, made);
  taken = let k = h.taken in omega (arith, k, made);
  next = let k = h.next in omega (arith, k, made);
  answered = λ none. h.answered (waits None none) ∙ sym made;
  finished = λ none. h.finished (waits None none);
  counted = h.counted;
  fresh = λ q some. h.fresh q (waits (Some q) some);
  kept = λ q some next. let k = h.kept q (waits (Some q) some) next in (k.0 ∙ sym made, k.1);
  waiting = λ q some. waiting q (waits (Some q) some);
  bases = elim h.bases [
    | inl even ↦ inl (λ l numbered. ap (λ (x : Outgoing). x.base l) same ∙ even.0 l numbered, λ q some. even.1 q (waits (Some q) some))
    | inr on ↦ inr (record {
      request = on.request;
      waits = ap (λ (x : Outgoing). x.pending) same ∙ on.waits;
      taken = on.taken;
      done = on.done;
      streams = on.streams;
      reached = on.reached;
      bases = λ l numbered. on.bases l numbered ∙ sym (rebased_later f a b on.request l same (λ s listed. let o = h.waiting on.request on.waits in stills s (o.shut s listed) (o.still s listed)));
      noted = elim on.noted [
        | inl done ↦ inl done
        | inr never ↦ inr (never.0, never.1, never.2 ∙ sym made, never.3)
      ];
    })
  ];
  last = λ q is. let k = h.last q (ap (λ (x : Outgoing). x.last_made) (sym same) ∙ is) in omega (arith, k, made);
  said = λ q some. ap (λ (x : Outgoing). x.last_made) same ∙ h.said q (waits (Some q) some);
  waited = λ w is. last_sent a b r w (ap (λ (x : Outgoing). x.last_made) same) (h.waited w is);
  old = λ l n below. let o = olds l n (h.old l n (subst (λ (x : Outgoing). n < x.base l) same below)) in
      record { there = o.there; closed = o.closed; upto = λ i e here own. let u = o.upto i e here own in omega (arith, u, cum) };
  answers = h.answers;
  typed = h.typed;
}
  where
    made : b.resets.made ≡ a.resets.made
    made = ap (λ (x : Outgoing). x.made) same

    waits : (o : Option Request) → b.resets.pending ≡ o → a.resets.pending ≡ o
    waits o is = ap (λ (x : Outgoing). x.pending) (sym same) ∙ is

    waiting : (q : Request) → a.resets.pending ≡ Some q → IsOpen b q
    waiting q some =
        let o = h.waiting q some in
        record {
          counted = o.counted;
          made = let k = o.made in omega (arith, k, made);
          some = o.some;
          few = o.few;
          short = o.short;
          within = let w = o.within in omega (arith, w, longer);
          shut = λ s listed. ap (λ (x : Outgoing). is_sending (x.sending s)) same ∙ o.shut s listed;
          resets = λ s listed. ap (λ (x : Outgoing). is_resetting (x.sending s)) same ∙ o.resets s listed;
          still = λ s listed. (stills s (o.shut s listed) (o.still s listed)).still;
          below = λ s listed i e here on. let k = o.below s listed i e ((stills s (o.shut s listed) (o.still s listed)).entries i e here on) on in (let c = k.0 in omega (arith, c, cum), k.1);
        }

-- The receiver's resets are as they were.
pub step_received : (f : Format) (a : SenderView) (r t : ReceiverView) → t.resets ≡ r.resets → t.initial ≡ r.initial → t.streams ≡ r.streams → ((j : ℕ) → Reaches r j → Reaches t j) → AreInStep f a r → AreInStep f a t
step_received f a r t same initial streams more h = record {
  few = h.few;
  taken = let k = h.taken in omega (arith, k, taken);
  next = let k = h.next in omega (arith, k, taken);
  answered = λ none. taken ∙ h.answered none;
  finished = λ none is. h.finished none (sym result ∙ is);
  counted = λ is. taken ∙ h.counted (sym result ∙ is);
  fresh = λ q some low is. h.fresh q some (omega (arith, low, taken)) (sym result ∙ is);
  kept = λ q some next. let k = h.kept q some next in
      (taken ∙ k.0, elim k.1 [ inl w ↦ inl (w.0, ap (λ (x : Incoming). x.waited) same ∙ w.1) | inr is ↦ inr (result ∙ is) ]);
  waiting = h.waiting;
  bases = elim h.bases [
    | inl even ↦ inl (λ l numbered. even.0 l numbered ∙ ap (λ (x : Incoming). x.base l) (sym same), λ q some le done. even.1 q some (omega (arith, le, taken)) (sym result ∙ done))
    | inr on ↦ inr (record {
      request = on.request;
      waits = on.waits;
      taken = let k = on.taken in omega (arith, k, taken);
      done = elim on.done [ inl is ↦ inl (result ∙ is) | inr is ↦ inr (result ∙ is) ];
      streams = ap (λ (n : ℕ). list_any (nat_le n) on.request.streams) streams ∙ on.streams;
      reached = λ j some le. more j (on.reached j some le);
      bases = λ l numbered. ap (λ (x : Incoming). x.base l) same ∙ on.bases l numbered;
      noted = elim on.noted [
        | inl done ↦ inl (ap (λ (x : Incoming). x.waited) same ∙ done ∙ ap (λ (i : ℕ). Some (noted_done i on.request)) (sym initial))
        | inr never ↦ inr (ap (λ (x : Incoming). x.waited) same ∙ never.0, result ∙ never.1, taken ∙ never.2, never.3)
      ];
    })
  ];
  last = h.last;
  said = h.said;
  waited = λ w is. last_received a r t w initial taken (h.waited w (ap (λ (x : Incoming). x.waited) (sym same) ∙ is));
  old = h.old;
  answers = subst (λ (i : ℕ). AreAnswers i t t.resets.answers) (sym initial)
      (λ x has kind. answered_later r.initial r t x same (h.answers x (subst (λ (y : Incoming). Has y.answers x) same has) kind));
  typed = λ x has. h.typed x (subst (λ (y : Incoming). Has y.answers x) same has);
}
  where
    taken : t.resets.taken ≡ r.resets.taken
    taken = ap (λ (x : Incoming). x.taken) same

    result : t.resets.result ≡ r.resets.result
    result = ap (λ (x : Incoming). x.result) same
