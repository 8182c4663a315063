-- An end that has made its request to reset streams makes no other, and what it builds then is what it builds.
use Rattle.std.proofs.Common.{◌≡◌, ◌∙◌, ℕ, Bool, true, false, ◌&&◌, if◌then◌else◌, not, List, [], ◌∷◌, ◌++◌, length, map, Option, None, Some, Result, Ok, Err, IfOk, OnErr, refl, ap, sym, subst, arith}
use Rattle.std.specs.Prelude.{cond, filter, take, min, nat_lt, is_some, OnOk}
use Rattle.std.proofs.lemmas.Bool.{false≢true, and_parts}
use Rattle.sctp_model.specs.wire.Chunk.{ChunkMeaning}
use Rattle.sctp_model.specs.sender.SenderView.{SendLimits, SenderView, fresh_sender}
use Rattle.sctp_model.specs.numbers.Limits.{STREAM_LIMIT, REQUEST_LIMIT, RESETS_AT_ONCE}
use Rattle.sctp_model.specs.sender.Outgoing.{is_resetting}
use Rattle.sctp_model.specs.sender.Words.{count_up}
use Rattle.sctp_model.specs.sender.Resetting.{is_still_on, ready, has_stream, may_ask, asked}
use Rattle.sctp_send.specs.ResetAnswers.{resetting_streams}
use Rattle.sctp_model.specs.receiver.ReceiverView.{ReceiverView, fresh_receiver}
use Rattle.sctp_model.specs.receiver.ResetTaken.{with_answers}
use Rattle.sctp_model.specs.end.EndView.{EndView, Phase, Idle, Listening, Calling, Echoing, Open, Over, has_association, Timer, unused_timer, Alarm, InitAlarm, CookieAlarm, DataAlarm, ShutdownAlarm, AckAlarm, ResetAlarm, BeatAlarm, GuardAlarm}
use Rattle.sctp_model.specs.end.Clock.{is_home, replaced}
use Rattle.sctp_model.specs.end.Building.{Puts, open_slots, Builds, Sleeps, Waits, Calls, Echoes, EndsFull, Fills, filled_behind, fragments}
use Rattle.sctp_model.specs.end.Reconfiguring.{asking_now, asking}
use Rattle.sctp_association.specs.declared.build.sendings.Sendings.{Sendings}
use Rattle.sctp_recv.specs.Resets.{response_of}
use Rattle.sctp_recv.specs.declared.restart.ResetResponse.{ResetResponse}
use Rattle.sctp_association.specs.Asks.{asks}
use Rattle.sctp_association.specs.Sends.{sendings_by, Sends, SendsNone, SendsBehind}
use Rattle.sctp_association.specs.PlainPacket.{IsCalm}
use Rattle.sctp_association.specs.BuildAnswers.{BuildAnswer}
use Rattle.sctp_association.specs.declared.build.Built.{Built}
use Rattle.sctp_association.specs.declared.machine.Machine.{Machine}

-- one that asks for nothing is as it is
pub unasked : (e : EndView) → asks e ≡ false → asking e ≡ e
unasked e off = ap (λ (b : Bool). asking_now b e) off

never : (a b : Bool) → (a && (b && false)) ≡ false
never true true = refl
never true false = refl
never false b = refl

-- it asks once
pub asks_once : (e : EndView) (b : Bool) → b ≡ asks e → asks (asking_now b e) ≡ false
asks_once e true is = never e.terms.reset (is_home ResetAlarm e.phase)
asks_once e false is = sym is

-- ---- no stream waits for its reset

one_less : (b c : Bool) (x : ℕ) (ps qs : List ℕ) → length (cond b (x ∷ ps) ps) ≡ 0 → (length ps ≡ 0 → qs ≡ []) → cond (b && c) (x ∷ qs) qs ≡ []
one_less true c x ps qs none rest = absurd (omega (arith, none))
one_less false c x ps qs none rest = rest none

none_of_both : (p q : ℕ → Bool) (xs : List ℕ) → length (filter p xs) ≡ 0 → filter (λ s. p s && q s) xs ≡ []
none_of_both p q [] none = refl
none_of_both p q (x ∷ xs) none = one_less (p x) (q x) x (filter p xs) (filter (λ s. p s && q s) xs) none (none_of_both p q xs)

none_ready : (v : SenderView) → resetting_streams v ≡ 0 → has_stream (ready v) ≡ false
none_ready v none =
    ap (λ (ys : List ℕ). has_stream (take RESETS_AT_ONCE ys))
    (none_of_both (λ s. is_resetting (v.resets.sending s)) (is_still_on v) (count_up 0 (min v.streams STREAM_LIMIT)) none)

never_without : (a b c d e : Bool) → d ≡ false → (a && (b && (c && (d && e)))) ≡ false
never_without true true true d e off = rw off refl
never_without true true false d e off = refl
never_without true false c d e off = refl
never_without false b c d e off = refl

-- without one no request is made
pub unasked_without : (e : EndView) → resetting_streams e.sender ≡ 0 → asks e ≡ false
unasked_without e none =
    never_without e.terms.reset (is_home ResetAlarm e.phase) (not (is_some e.sender.resets.pending)) (has_stream (ready e.sender)) (nat_lt e.sender.resets.made REQUEST_LIMIT)
    (none_ready e.sender none)

-- ---- what it builds

module _ (e : EndView) (on : true ≡ asks e) where
  asked_so : asking (asking_now true e) ≡ asking e
  asked_so = unasked (asking_now true e) (asks_once e true on) ∙ ap (λ (b : Bool). asking_now b e) on

  home : is_home ResetAlarm e.phase ≡ true
  home = (and_parts (is_home ResetAlarm e.phase) (may_ask e.sender) (and_parts e.terms.reset (is_home ResetAlarm e.phase && may_ask e.sender) (sym on)).1).0

  elsewhere : (h : Phase) → e.phase ≡ h → is_home ResetAlarm h ≡ false → ⊥
  elsewhere h phase off = false≢true (sym off ∙ (sym (ap (is_home ResetAlarm) phase) ∙ home))

  awake : (h : Phase) → e.phase ≡ h → has_association h ≡ false → ⊥
  awake Idle phase over = elsewhere Idle phase refl
  awake Listening phase over = elsewhere Listening phase refl
  awake (Calling d) phase over = elsewhere (Calling d) phase refl
  awake (Echoing t xs) phase over = elsewhere (Echoing t xs) phase refl
  awake (Open t g) phase over = absurd (false≢true (sym over))
  awake (Over why) phase over = elsewhere (Over why) phase refl

  builds_asked : (xs : List ChunkMeaning) (x : EndView) → Builds (asking_now true e) xs x → Builds e xs x
  builds_asked _ _ (Sleeps over) = absurd (awake e.phase refl over)
  builds_asked _ _ (Waits d phase due) = absurd (elsewhere (Calling d) phase refl)
  builds_asked _ _ (Calls d phase due) = absurd (elsewhere (Calling d) phase refl)
  builds_asked _ _ (Echoes t cookie zs full x phase puts) = absurd (elsewhere (Echoing t cookie) phase refl)
  builds_asked _ _ (EndsFull t g zs x phase puts) = EndsFull t g zs x phase (subst (λ (y : EndView). Puts open_slots y [] zs true x) asked_so puts)
  builds_asked _ _ (Fills t g zs x phase puts) = Fills t g zs x phase (subst (λ (y : EndView). Puts open_slots y [] zs false x) asked_so puts)

  sends_asked : (xs : List ChunkMeaning) (x : Sendings) → Sends (asking_now true e) xs x → Sends e xs x
  sends_asked _ _ (SendsNone zs control) = SendsNone zs control
  sends_asked _ _ (SendsBehind zs control) =
      subst (λ (y : EndView). Sends e (zs ++ fragments y zs) (sendings_by e.pace (filled_behind y zs).wishes)) (sym asked_so) (SendsBehind zs control)

  answers_asked : (r : Option Built) (m : Machine) → BuildAnswer (asking_now true e) r m → BuildAnswer e r m
  answers_asked None m a = (a.0, builds_asked [] a.0 a.1, a.2)
  answers_asked (Some b) m a = record {
    chunks = a.chunks;
    after = a.after;
    builds = builds_asked a.chunks a.after a.builds;
    some = a.some;
    packet = a.packet;
    size = a.size;
    within = a.within;
    tickets = a.tickets;
    sendings = sends_asked a.chunks b.sendings a.sendings;
    stands = a.stands;
  }

-- the answer of an end that has asked, if it asks, is that of the end
pub built_asked : {E : Type 0} (r : Result (Option Built) E) (v : EndView) (n : ℕ) (went : Bool) (m : Machine) → went ≡ asks v
    → IfOk r (λ built. BuildAnswer (record (asking_now went v) { moment = n }) built m) → IfOk r (λ built. BuildAnswer (record v { moment = n }) built m)
built_asked (Ok built) v n true m on a = answers_asked (record v { moment = n }) on built m a
built_asked (Ok built) v n false m on a = a
built_asked (Err why) v n went m on a = a

-- ---- whether it asks

-- not where resets weren't agreed on
pub asks_unagreed : (e : EndView) → e.terms.reset ≡ false → false ≡ asks e
asks_unagreed e off = sym (ap (λ (b : Bool). b && (is_home ResetAlarm e.phase && may_ask e.sender)) off)

-- not outside ESTABLISHED
pub asks_away : (e : EndView) → is_home ResetAlarm e.phase ≡ false → false ≡ asks e
asks_away e away = sym (ap (λ (b : Bool). e.terms.reset && (b && may_ask e.sender)) away ∙ none e.terms.reset (may_ask e.sender))
  where
    none : (a b : Bool) → (a && (false && b)) ≡ false
    none true b = refl
    none false b = refl

-- there its sender says so
pub asks_home : (e : EndView) (may : Bool) → e.terms.reset ≡ true → is_home ResetAlarm e.phase ≡ true → may ≡ may_ask e.sender → may ≡ asks e
asks_home e may on home is =
    is ∙ sym (ap (λ (b : Bool). b && (is_home ResetAlarm e.phase && may_ask e.sender)) on ∙ ap (λ (b : Bool). b && may_ask e.sender) home)

-- if it asks, its sender may
pub may_then : (e : EndView) → true ≡ asks e → may_ask e.sender ≡ true
may_then e on = (and_parts (is_home ResetAlarm e.phase) (may_ask e.sender) (and_parts e.terms.reset (is_home ResetAlarm e.phase && may_ask e.sender) (sym on)).1).1

-- a sender that was never used may not
pub never_asks : (s : SenderView) (f : ℕ) (l : SendLimits) → s ≡ fresh_sender 0 0 f 0 false l → (if may_ask s then asked s else s) ≡ s
never_asks s f l is = ap (λ (x : SenderView). if may_ask x then asked x else s) is

pub never_may : (s : SenderView) (f : ℕ) (l : SendLimits) → s ≡ fresh_sender 0 0 f 0 false l → may_ask s ≡ false
never_may s f l is = ap (λ (x : SenderView). may_ask x) is

-- and none of its requests waits
pub unasked_fresh : (s : SenderView) (f : ℕ) (l : SendLimits) → asked s ≡ fresh_sender 0 0 f 0 false l → ⊥
unasked_fresh s f l is = false≢true (sym (ap (λ (x : SenderView). is_some x.resets.pending) is))

-- ---- the timer of a request

-- that of a new one is put in its place
pub put_new : (n f g : Alarm → Timer) (t : Timer) (w u : ℕ) → n ≡ replaced ResetAlarm t f → t ≡ unused_timer w → w ≡ u → f ≡ g → n ≡ replaced ResetAlarm (unused_timer u) g
put_new n f g t w u is made waits same =
    is ∙ ap (λ (x : Timer). replaced ResetAlarm x f) (made ∙ ap unused_timer waits)
    ∙ ap (λ (h : Alarm → Timer). replaced ResetAlarm (unused_timer u) h) same

-- the one that was there before is put back
again_at : (t x : Timer) (g : Alarm → Timer) → t ≡ g ResetAlarm → (a : Alarm) → replaced ResetAlarm t (replaced ResetAlarm x g) a ≡ g a
again_at t x g at InitAlarm = refl
again_at t x g at CookieAlarm = refl
again_at t x g at DataAlarm = refl
again_at t x g at ShutdownAlarm = refl
again_at t x g at AckAlarm = refl
again_at t x g at ResetAlarm = at
again_at t x g at BeatAlarm = refl
again_at t x g at GuardAlarm = refl

pub put_again : (n f g : Alarm → Timer) (t x : Timer) → n ≡ replaced ResetAlarm t f → f ≡ replaced ResetAlarm x g → t ≡ g ResetAlarm → n ≡ g
put_again n f g t x is was at = is ∙ ap (λ (h : Alarm → Timer). replaced ResetAlarm t h) was ∙ (λ i a. again_at t x g at a i)

-- ---- the end around its sender

pub went_on : {A E : Type 0} {P Q : Type 0} (r : Result A E) → (P → Q) → OnOk r P → OnOk r Q
went_on (Ok x) f p = f p
went_on (Err why) f p = tt

pub stayed : {A E : Type 0} {P Q : Type 0} (r : Result A E) → (P → Q) → OnErr r P → OnErr r Q
stayed (Ok x) f p = tt
stayed (Err why) f p = f p

-- a receiver that nothing came to has no responses
pub answers_fresh : (r : ReceiverView) (b n : ℕ) → r ≡ fresh_receiver 0 0 b n → with_answers r [] ≡ r
answers_fresh r b n is = ap (λ (x : ReceiverView). with_answers x []) is ∙ sym is

-- the calm of an end without resets
pub calm_unagreed : (e : EndView) → e.terms.reset ≡ false → (e.terms.reset ≡ false → e.receiver.resets.answers ≡ []) → IsCalm e
calm_unagreed e off none = record { answers = none off; unasked = sym (asks_unagreed e off) }

pub none_of : (xs : List ResetResponse) → length xs ≡ 0 → map response_of xs ≡ []
none_of [] none = refl
none_of (x ∷ xs) none = absurd (omega (arith, none))

pub not_true : (b : Bool) → not b ≡ true → b ≡ false
not_true true is = absurd (false≢true is)
not_true false is = refl
