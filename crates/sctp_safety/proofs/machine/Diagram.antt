-- Over every run each endpoint goes along the diagram of states, and keeps what it has agreed on.
use Rattle.std.proofs.Common.{◌≡◌, ℕ, ◌⊎◌, true, false, List, drop, inl, inr, refl, sym, subst, ◌∙◌}
use Rattle.sctp_model.specs.wire.Chunk.{ChunkMeaning}
use Rattle.sctp_model.specs.wire.Packet.{Packet}
use Rattle.sctp_model.specs.end.Sealing.{Body}
use Rattle.sctp_model.specs.end.EndView.{Draw, Established, Phase, Idle, Listening, Calling, Echoing, Open, EndView, has_association}
use Rattle.sctp_model.specs.end.EndView.{Over as IsOver}
use Rattle.sctp_model.specs.end.Closing.{rested}
use Rattle.sctp_model.specs.end.Clock.{at_moment}
use Rattle.sctp_model.specs.end.Opening.{begun, opened}
use Rattle.sctp_model.specs.end.Strays.{Verdict}
use Rattle.sctp_model.specs.end.Arriving.{AllAct, NoneLeft, Next, Last, EndsAnswered, Stopped, Arrives, Elsewhere, NotOurs, Stray, CookieBegins, Heard, Notes, no_notes, noted, packet_ended, urged}
use Rattle.sctp_model.specs.end.Arriving.{Passes}
use Rattle.sctp_model.specs.end.Moments.{ticked}
use Rattle.sctp_model.specs.end.Wearing.{missed_below, wearing}
use Rattle.sctp_model.specs.end.UserCalls.{called}
use Rattle.sctp_model.specs.end.PeerFaults.{Unnoted}
use Rattle.sctp_safety.specs.States.{IsTurn, ByCall, ByInitAck, ByCookieAck, ByCookie, ByPair, ByStage, ByEnd, IsPath, Here, On, has_begun, has_agreed, IsLaterEnd}
use Rattle.sctp_safety.proofs.machine.Strangers.{found_is}
use Rattle.sctp_safety.proofs.machine.Turns.{IsPlainTurn, Stays, Leaves, Goes, IsPlain, path_on, one_turn, begun_by_association, plain_rested, rested_has, IsLeft, Plainly, Accepts, Acked, goes_left, ends_plain, replies_plain, plain_ended}
use Rattle.sctp_safety.proofs.machine.TurnsOfTime.{plain_worn, plain_ticked}

-- ---- later, and later again

turn_to_begun : (h k : Phase) → IsTurn h k → has_begun k ≡ true
turn_to_begun h k (ByCall _) = refl
turn_to_begun h k (ByInitAck _ _ _) = refl
turn_to_begun h k (ByCookieAck _ _) = refl
turn_to_begun h k (ByCookie _) = refl
turn_to_begun h k (ByPair _) = refl
turn_to_begun h k (ByStage _ _ _ _) = refl
turn_to_begun h k (ByEnd _ _ _) = refl

turn_agreed : (h k : Phase) → IsTurn h k → has_agreed h ≡ true → has_agreed k ≡ true
turn_agreed h k (ByCall _) e = absurd (cc)
turn_agreed h k (ByInitAck _ _ _) e = refl
turn_agreed h k (ByCookieAck _ _) e = refl
turn_agreed h k (ByCookie _) e = refl
turn_agreed h k (ByPair _) e = refl
turn_agreed h k (ByStage _ _ _ _) e = refl
turn_agreed h k (ByEnd _ _ _) e = refl

path_begun : (h k : Phase) → IsPath h k → has_begun h ≡ true → has_begun k ≡ true
path_begun h k (Here _) e = e
path_begun h k (On _ m _ t rest) e = path_begun m k rest (turn_to_begun h m t)

pub path_agreed : (h k : Phase) → IsPath h k → has_agreed h ≡ true → has_agreed k ≡ true
path_agreed h k (Here _) e = e
path_agreed h k (On _ m _ t rest) e = path_agreed m k rest (turn_agreed h m t e)

pub later_same : (e : EndView) → IsLaterEnd e e
later_same e = record { configuration = refl; path = Here e.phase; role = λ h. refl; terms = λ h. refl }

pub later_on : (e t u : EndView) → IsLaterEnd e t → IsLaterEnd t u → IsLaterEnd e u
later_on e t u a b = record {
  configuration = b.configuration ∙ a.configuration;
  path = path_on e.phase t.phase u.phase a.path b.path;
  role = λ h. b.role (path_begun e.phase t.phase a.path h) ∙ a.role h;
  terms = λ h. b.terms (path_agreed e.phase t.phase a.path h) ∙ a.terms h;
}

-- ---- plain turns

plain_path : (h k : Phase) → IsPlainTurn h k → IsPath h k
plain_path h k (Stays _) = Here h
plain_path h k (Leaves _ why has) = one_turn h (IsOver why) (ByEnd h why has)
plain_path h k (Goes t g i p) = p

pub plain_later : (e t : EndView) → IsPlain e t → IsLaterEnd e t
plain_later e t p = record { configuration = p.configuration; path = plain_path e.phase t.phase p.turn; role = λ h. p.role; terms = λ h. p.terms }

pub plain_unbegun : (h k : Phase) → IsPlainTurn h k → has_begun h ≡ false → k ≡ h
plain_unbegun h k (Stays _) e = refl
plain_unbegun h k (Leaves _ why has) e = let b = begun_by_association h has in let q : true ≡ false = sym b ∙ e in absurd (cc)
plain_unbegun h k (Goes t g i p) e = absurd (cc)

-- ---- the time, and the calls that open

pub later_now : (e : EndView) (n : ℕ) → IsLaterEnd e (at_moment e n)
later_now e n = record { configuration = refl; path = Here e.phase; role = λ h. refl; terms = λ h. refl }

pub later_ticked : (e : EndView) (n : ℕ) → IsLaterEnd e (ticked e n)
later_ticked e n = later_on e (at_moment e n) (ticked e n) (later_now e n) (plain_later (at_moment e n) (ticked e n) (plain_ticked e n))

-- an endpoint that hasn't begun
not_begun : (e : EndView) (h : Phase) → e.phase ≡ h → has_begun h ≡ false → has_begun e.phase ≡ true → ⊥
not_begun e h is off on = let q : true ≡ false = sym (subst (λ (k : Phase). has_begun k ≡ true) is on) ∙ off in absurd (cc)

not_agreed : (e : EndView) (h : Phase) → e.phase ≡ h → has_agreed h ≡ false → has_agreed e.phase ≡ true → ⊥
not_agreed e h is off on = let q : true ≡ false = sym (subst (λ (k : Phase). has_agreed k ≡ true) is on) ∙ off in absurd (cc)

pub later_called : (e : EndView) (d : Draw) → e.phase ≡ Idle → IsLaterEnd e (called e d)
later_called e d is = record {
  configuration = refl;
  path = subst (λ (h : Phase). IsPath h (Calling d)) (sym is) (one_turn Idle (Calling d) (ByCall d));
  role = λ h. refl;
  terms = λ h. refl;
}

pub later_opened : (e : EndView) (own peer : Draw) (h : Phase) → e.phase ≡ h → (h ≡ Idle) ⊎ (h ≡ Listening) → IsLaterEnd e (opened e.configuration own peer)
later_opened e own peer h is (inl idle) = record {
  configuration = refl;
  path = subst (λ (k : Phase). IsPath k (Open (record { own = own.tag; peer = peer.tag }) Established)) (sym (is ∙ idle))
      (one_turn Idle (Open (record { own = own.tag; peer = peer.tag }) Established) (ByPair (record { own = own.tag; peer = peer.tag })));
  role = λ b. absurd (not_begun e Idle (is ∙ idle) refl b);
  terms = λ b. absurd (not_agreed e Idle (is ∙ idle) refl b);
}
later_opened e own peer h is (inr listening) = record {
  configuration = refl;
  path = subst (λ (k : Phase). IsPath k (Open (record { own = own.tag; peer = peer.tag }) Established)) (sym (is ∙ listening))
      (one_turn Listening (Open (record { own = own.tag; peer = peer.tag }) Established) (ByCookie (record { own = own.tag; peer = peer.tag })));
  role = λ b. absurd (not_begun e Listening (is ∙ listening) refl b);
  terms = λ b. absurd (not_agreed e Listening (is ∙ listening) refl b);
}

-- ---- a packet

left_later : (e : EndView) (x : ChunkMeaning) (t : EndView) → IsLeft e x t → IsLaterEnd e t
left_later e x t (Plainly _ p keeps) = plain_later e t p
left_later e x t (Accepts m d cookie q is value) = record {
  configuration = refl;
  path = subst (λ (h : Phase). IsPath h (Echoing (record { own = d.tag; peer = m.tag }) cookie)) (sym is)
      (one_turn (Calling d) (Echoing (record { own = d.tag; peer = m.tag }) cookie) (ByInitAck d m.tag cookie));
  role = λ h. refl;
  terms = λ h. absurd (not_agreed e (Calling d) is refl h);
}
left_later e x t (Acked u cookie _ q is configuration role moment terms phase) = record {
  configuration = configuration;
  path = subst (λ (k : Phase). IsPath e.phase k) (sym phase)
      (subst (λ (h : Phase). IsPath h (Open u Established)) (sym is) (one_turn (Echoing u cookie) (Open u Established) (ByCookieAck u cookie)));
  role = λ h. role;
  terms = λ h. terms;
}

pub left_has : (e : EndView) (x : ChunkMeaning) (t : EndView) → IsLeft e x t → has_association e.phase ≡ true → has_association t.phase ≡ true
left_has e x t (Plainly _ p keeps) has = keeps has
left_has e x t (Accepts m d cookie q is value) has = refl
left_has e x t (Acked u cookie _ q is configuration role moment terms phase) has = subst (λ (k : Phase). has_association k ≡ true) (sym phase) refl

pub acts_later : (tag : ℕ) (e : EndView) (b : Notes) (xs : List ChunkMeaning) (t : EndView) (m : Notes) (v : Verdict) → has_association e.phase ≡ true → AllAct tag e b xs t m v → IsLaterEnd e t
acts_later tag e b xs t m v has (NoneLeft _ _) = later_same e
acts_later tag e b xs t m v has (Next _ mid _ y _ _ x ys _ act rest) =
    let l = goes_left e tag x y mid act in
    later_on e (rested mid) t (later_on e mid (rested mid) (left_later e x mid l) (plain_later mid (rested mid) (plain_rested mid)))
    (acts_later tag (rested mid) (noted y b) ys t m v (rested_has mid (left_has e x mid l has)) rest)
acts_later tag e b xs t m v has (Passes _ _ _ _ x ys _ act rest) = acts_later tag e b ys t m v has rest
acts_later tag e b xs t m v has (Last _ _ _ x ys act) = plain_later e t (ends_plain e tag x t has act)
acts_later tag e b xs t m v has (EndsAnswered _ _ _ x ys p act) = plain_later e t (replies_plain e tag x t p has act)
acts_later tag e b xs t m v has (Stopped _ _ x ys n act) = later_same e

pub later_ended : (e t : EndView) (n : Notes) → IsLaterEnd e t → IsLaterEnd e (packet_ended n t)
later_ended e t n l = later_on e t (packet_ended n t) l (plain_later t (packet_ended n t) (plain_ended n t))

begun_later : (b : Body) (e : EndView) → e.phase ≡ Listening → IsLaterEnd e (begun b e)
begun_later b e is = record {
  configuration = refl;
  path = subst (λ (k : Phase). IsPath k (Open (record { own = b.listener.tag; peer = b.caller.tag }) Established)) (sym is)
      (one_turn Listening (Open (record { own = b.listener.tag; peer = b.caller.tag }) Established) (ByCookie (record { own = b.listener.tag; peer = b.caller.tag })));
  role = λ h. refl;
  terms = λ h. absurd (not_agreed e Listening is refl h);
}

pub arrives_later : (e : EndView) (d : Draw) (p : Packet) (t : EndView) (v : Verdict) → Arrives e d p t v → IsLaterEnd e t
arrives_later e d p t v (Elsewhere ports) = later_same e
arrives_later e d p t v (NotOurs ports passes) = later_same e
arrives_later e d p t v (Stray ports passes none closed) = later_same e
arrives_later e d p t v (CookieBegins b u n _ ports passes none opens acts gap _) =
    let f = found_is e p.tag p.chunks b opens in
    later_ended e u (urged gap n) (later_on e (begun b e) u (begun_later b e f.phase) (acts_later p.tag (begun b e) (noted Unnoted no_notes) (drop 1 p.chunks) u n v refl acts))
arrives_later e d p t v (Heard u n _ ports passes has acts gap _) =
    let x = wearing (missed_below e.pace) u in
    later_ended e x (urged gap n) (later_on e u x (acts_later p.tag e no_notes p.chunks u n v has acts) (plain_later u x (plain_worn (missed_below e.pace) u)))
