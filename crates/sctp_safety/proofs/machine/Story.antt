-- The story of two endpoints: they are apart until they have met, step by step.
use Rattle.std.proofs.Common.{◌≡◌, ℕ, ◌⊎◌, max, Bool, true, false, List, [], ◌∷◌, Option, Some, None, inl, inr, refl, sym, subst, ◌∙◌}
use Rattle.std.specs.Prelude.{if◌then◌else◌}
use Rattle.sctp_model.specs.numbers.Lists.{Has}
use Rattle.sctp_model.specs.wire.Chunk.{ChunkMeaning, Init, CookieEcho}
use Rattle.sctp_model.specs.wire.Packet.{Packet}
use Rattle.sctp_model.specs.end.EndView.{Phase, Listening, Calling, Echoing, Open, EndView}
use Rattle.sctp_model.specs.end.Configured.{IsConfiguration}
use Rattle.sctp_model.specs.end.Strays.{Verdict, Taken, Dropped, Answer}
use Rattle.sctp_model.specs.end.Arriving.{Arrives, DroppedUnread, ReadAs, CutFirst, CutLater, is_answer, cut_to}
use Rattle.sctp_model.specs.end.Building.{Builds, Sleeps, Waits, Calls, Echoes, Fills, packet_of}
use Rattle.sctp_model.specs.end.Building.{EndsFull}
use Rattle.sctp_model.specs.end.Moments.{ticked}
use Rattle.sctp_model.specs.end.UserCalls.{reset_call, reset_leaves, reset_there, told_leaves, send_answer, shut, Aborts, TooLong, abort_answer, abort_answer_to, abort_leaves, abort_packet, peer_tag}
use Rattle.sctp_model.specs.world.World.{Side, A, B, World, end_of, end_now, came, Setup, configuration_of, clock_of}
use Rattle.sctp_model.specs.world.Events.{Event, Outcome, with_verdict}
use Rattle.sctp_model.specs.end.Opening.{opened}
use Rattle.sctp_model.specs.world.Steps.{Step, OpensBoth, OpenRefused, TimePasses, Draws, Connects, ConnectRefused, BuildsOne, BuildsNone, PacketComes, IsAbsent, Sends, AbandonsOne, TakesOne, ResetsOne, TellsReset, ShutsDown, AbortsIt, NoMemory, PacketCut, TimeGoesOn, MomentComes}
use Rattle.sctp_safety.specs.States.{has_begun, has_agreed}
use Rattle.sctp_safety.specs.Strangers.{IsDrawn}
use Rattle.sctp_safety.specs.Agreement.{AreAgreed, AreEachOthers, was_open}
use Rattle.sctp_safety.proofs.machine.Alike.{alike_is}
use Rattle.sctp_safety.proofs.machine.Turns.{IsPlainTurn, Stays, IsPlain, plain_same, builds_plain}
use Rattle.sctp_safety.proofs.machine.TurnsOfTime.{plain_ticked, plain_sent, plain_abandoned, plain_taken, plain_reset, plain_told, plain_shut, plain_aborted}
use Rattle.sctp_safety.proofs.machine.Diagram.{plain_unbegun}
use Rattle.sctp_safety.proofs.machine.DiagramRuns.{IsFresh, connect_idle}
use Rattle.sctp_safety.proofs.machine.Answering.{one_chunk}
use Rattle.sctp_safety.proofs.machine.CallerFacts.{IsCaller, caller_gives, caller_turns}
use Rattle.sctp_safety.proofs.machine.Beginnings.{opens, calls}
use Rattle.sctp_safety.proofs.machine.CallerBuilds.{caller_builds}
use Rattle.sctp_safety.proofs.machine.OneEnd.{bag_with, IsAt, at_end, at_log, at_packet, at_came, answer_of, at_verdict, abort_of, at_abort}
use Rattle.sctp_safety.proofs.machine.Ground.{IsFine, IsGrounded}
use Rattle.sctp_safety.proofs.machine.Met.{IsMet, met_step}
use Rattle.sctp_safety.proofs.machine.Fronts.{From, from_whole, from_cut}
use Rattle.sctp_safety.proofs.machine.Apart.{IsApart, IsQuiet, IsGiven, caller_comes, caller_quiet, Listened, Listens, Joins, given_quiet, listens_on, listener_comes}

-- The listener listens and the caller isn't open, or both have met.
pub data IsStory (s : Setup) (drawn : List ℕ) (w : World) : Type 0 where
  AreApart : IsApart s drawn w.a w.b w.from_a w.from_b → IsStory s drawn w
  HaveMet : IsMet drawn w → IsStory s drawn w

-- an endpoint that listens builds nothing
sleeps : (e : EndView) (zs : List ChunkMeaning) (t : EndView) → e.phase ≡ Listening → Builds e zs t → zs ≡ []
sleeps e zs t is (Sleeps _) = refl
sleeps e zs t is (Waits _ _ _) = refl
sleeps e zs t is (Calls d at due) = let q : Listening ≡ Calling d = sym is ∙ at in absurd (cc)
sleeps e zs t is (Echoes u xs _ full _ at puts) = let q : Listening ≡ Echoing u xs = sym is ∙ at in absurd (cc)
sleeps e zs t is (EndsFull u g _ _ at puts) = let q : Listening ≡ Open u g = sym is ∙ at in absurd (cc)
sleeps e zs t is (Fills u g _ x at puts) = let q : Listening ≡ Open u g = sym is ∙ at in absurd (cc)

-- what the user's abort gives opens nothing
abort_quiet : (e : EndView) (r : List ℕ) → IsQuiet (abort_of (abort_answer e r))
abort_quiet e r = go (peer_tag e.phase)
  where
    by : (n : ℕ) (b : Bool) → IsQuiet (abort_of (if b then Aborts (abort_packet e n r) else TooLong))
    by n true = one_chunk e.configuration n _ refl
    by n false = tt

    go : (o : Option ℕ) → IsQuiet (abort_of (abort_answer_to e r o))
    go None = tt
    go (Some n) = by n _

module _ (s : Setup) (drawn : List ℕ) (w : World) (ground : IsGrounded s drawn w) (apart : IsApart s drawn w.a w.b w.from_a w.from_b) where
  -- ---- one endpoint acts

  -- the caller
  at_caller : (v : World) (t : EndView) (given : Option Packet) → IsAt w v A t given → IsCaller s drawn (bag_with w.from_a given) w.from_b t → IsStory s drawn v
  at_caller v t given at c = AreApart (record {
    listens = subst (λ (e : EndView). e.phase ≡ Listening) (sym at.there) apart.listens;
    caller = subst (λ (e : EndView). IsCaller s drawn v.from_a v.from_b e) (sym at.here)
        (subst (λ (ps : List Packet). IsCaller s drawn ps v.from_b t) (sym at.bag) (subst (λ (ps : List Packet). IsCaller s drawn (bag_with w.from_a given) ps t) (sym at.bag_there) c));
    answers = λ p x h. apart.answers p x (subst (λ (ps : List Packet). Has ps p) at.bag_there h);
  })

  -- the listener
  at_listener : (v : World) (t : EndView) (given : Option Packet) → IsAt w v B t given → v.openable ≡ false ⊎ (t.phase ≡ Listening) → Listened s drawn w ground apart t given → IsStory s drawn v
  at_listener v t given at may (Listens is c answers) = AreApart (record {
    listens = subst (λ (e : EndView). e.phase ≡ Listening) (sym at.here) is;
    caller = subst (λ (e : EndView). IsCaller s drawn v.from_a v.from_b e) (sym at.there)
        (subst (λ (ps : List Packet). IsCaller s drawn v.from_a ps w.a) (sym at.bag) (subst (λ (ps : List Packet). IsCaller s drawn ps (bag_with w.from_b given) w.a) (sym at.bag_there) c));
    answers = λ p x h. answers p x (subst (λ (ps : List Packet). Has ps p) at.bag h);
  })
  at_listener v t given at (inl closed) (Joins agreed opened terms tags drawn_tags) = HaveMet (record {
    met = record {
      caller = subst (λ (e : EndView). has_agreed e.phase ≡ true) (sym at.there) agreed;
      listener = subst (λ (e : EndView). was_open e.phase ≡ true) (sym at.here) opened;
      terms = subst (λ (e : EndView). AreAgreed v.a.terms e.terms) (sym at.here) (subst (λ (e : EndView). AreAgreed e.terms t.terms) (sym at.there) terms);
      tags = subst (λ (e : EndView). AreEachOthers v.a.phase e.phase) (sym at.here) (subst (λ (e : EndView). AreEachOthers e.phase t.phase) (sym at.there) tags);
      closed_to_opening = closed;
    };
    tags = each;
  })
    where
      each : (x : Side) → IsDrawn drawn (end_of v x).phase
      each A = subst (λ (e : EndView). IsDrawn drawn e.phase) (sym at.there) apart.caller.drawn_tags
      each B = subst (λ (e : EndView). IsDrawn drawn e.phase) (sym at.here) drawn_tags
  at_listener v t given at (inr is) (Joins agreed opened terms tags drawn_tags) =
      let q : false ≡ true = subst (λ (h : Phase). was_open h ≡ true) is opened in absurd (cc)

  -- a plain turn of either, and what it gives
  at_plain : (v : World) (x : Side) (t : EndView) (given : Option Packet) → IsAt w v x t given → t.configuration ≡ (end_of w x).configuration → t.terms ≡ (end_of w x).terms →
      IsPlainTurn (end_of w x).phase t.phase → IsQuiet given → IsStory s drawn v
  at_plain v A t given at same terms turn quiet = at_caller v t given at (gives given quiet)
    where
      c : IsCaller s drawn w.from_a w.from_b t
      c = caller_turns s drawn w.from_a w.from_b w.a t same terms turn apart.caller

      gives : (o : Option Packet) → IsQuiet o → IsCaller s drawn (bag_with w.from_a o) w.from_b t
      gives None off = c
      gives (Some p) off = caller_gives s drawn w.from_a w.from_b t p c (λ m h. let q = off (Init m) h in absurd (cc)) (λ xs b h o. let q = off (CookieEcho xs) h in absurd (cc))
  at_plain v B t given at same terms turn quiet = at_listener v t given at (inr is) (listens_on s drawn w ground apart t given is (gives given quiet))
    where
      is : t.phase ≡ Listening
      is = plain_unbegun w.b.phase t.phase turn (subst (λ (h : Phase). has_begun h ≡ false) (sym apart.listens) refl) ∙ apart.listens

      gives : (o : Option Packet) → IsQuiet o → (p : Packet) → o ≡ Some p → IsGiven s drawn w ground apart p
      gives None off p e = absurd (cc)
      gives (Some r) off p e = let q : r ≡ p = cc in subst (IsGiven s drawn w ground apart) q (given_quiet s drawn w ground apart r off)

  by_plain : (v : World) (x : Side) (t : EndView) (given : Option Packet) → IsAt w v x t given → IsPlain (end_of w x) t → IsQuiet given → IsStory s drawn v
  by_plain v x t given at p quiet = at_plain v x t given at p.configuration p.terms p.turn quiet

  now_plain : (v : World) (x : Side) (t : EndView) (given : Option Packet) → IsAt w v x t given → IsPlain (end_now w x) t → IsQuiet given → IsStory s drawn v
  now_plain v x t given at p quiet = at_plain v x t given at p.configuration p.terms p.turn quiet

  -- ---- packets

  builds_one : (v : World) (x : Side) (y : ChunkMeaning) (ys : List ChunkMeaning) (t : EndView) → IsAt w v x t (Some (packet_of (end_of w x) (y ∷ ys))) →
      Builds (end_now w x) (y ∷ ys) t → IsStory s drawn v
  builds_one v A y ys t at b =
      at_caller v t (Some (packet_of w.a (y ∷ ys))) at
      (caller_builds s drawn w.from_a w.from_b (end_now w A) (y ∷ ys) t (packet_of w.a (y ∷ ys)) refl b
      (caller_turns s drawn w.from_a w.from_b w.a (end_now w A) refl refl (Stays w.a.phase) apart.caller))
  builds_one v B y ys t at b = let q = sleeps (end_now w B) (y ∷ ys) t apart.listens b in absurd (cc)

  module _ (configured : (x : Side) → IsConfiguration (configuration_of s x)) where
    -- a packet arrives whole
    comes : (v : World) (x : Side) (q : Packet) (t : EndView) (d : Verdict) → IsAt w v x t (answer_of d) → v.openable ≡ false → From s drawn w x q → Arrives (end_now w x) w.draw q t d →
        IsStory s drawn v
    comes v A q t d at closed from arrives = at_caller v t (answer_of d) at (gives (answer_of d) (caller_quiet s drawn w ground apart q t d arrives))
      where
        c : IsCaller s drawn w.from_a w.from_b t
        c = caller_comes s drawn w ground apart q t d from arrives

        gives : (o : Option Packet) → IsQuiet o → IsCaller s drawn (bag_with w.from_a o) w.from_b t
        gives None off = c
        gives (Some p) off = caller_gives s drawn w.from_a w.from_b t p c (λ m h. let q = off (Init m) h in absurd (cc)) (λ xs b h o. let q = off (CookieEcho xs) h in absurd (cc))
    comes v B q t d at closed from arrives = at_listener v t (answer_of d) at (inl closed) (listener_comes s drawn w ground apart configured q t d from arrives)

    -- or cut, and nobody is notified of what it leaves
    comes_cut : (v : World) (x : Side) (q : Packet) (t : EndView) (d : Verdict) → IsAt w v x t None → v.openable ≡ false → is_answer d ≡ false → From s drawn w x q →
        Arrives (end_now w x) w.draw q t d → IsStory s drawn v
    comes_cut v x q t Taken at closed untold from arrives = comes v x q t Taken at closed from arrives
    comes_cut v x q t (Dropped n) at closed untold from arrives = comes v x q t (Dropped n) at closed from arrives
    comes_cut v x q t (Answer p) at closed untold from arrives = absurd (cc)

    -- ---- every step

    closed_verdict : (x : Side) (t : EndView) (d : Verdict) → (with_verdict (came w x t) x d).openable ≡ false
    closed_verdict A t Taken = refl
    closed_verdict A t (Dropped n) = refl
    closed_verdict A t (Answer p) = refl
    closed_verdict B t Taken = refl
    closed_verdict B t (Dropped n) = refl
    closed_verdict B t (Answer p) = refl

    closed_came : (x : Side) (t : EndView) → (came w x t).openable ≡ false
    closed_came A t = refl
    closed_came B t = refl

    apart_step : (e : Event) (o : Option Outcome) (v : World) → IsFine s drawn e → Step w e o v → IsStory s drawn v
    apart_step e o v fine (OpensBoth x y like may dx dy) = HaveMet (opens s drawn w ground configured (alike_is w.a.configuration w.b.configuration like) x y (fine.draws x.tag (inl refl)) (fine.draws y.tag (inr (inl refl))))
    apart_step e o v fine (OpenRefused x y closed) = AreApart apart
    apart_step e o v fine (TimeGoesOn A m small) = AreApart apart
    apart_step e o v fine (TimeGoesOn B m small) = AreApart apart
    apart_step e o v fine (MomentComes x) = now_plain v x _ None (at_log w x _ _) (plain_ticked (end_of w x) (clock_of w x)) tt
    apart_step e o v fine (TimePasses m small) = AreApart (record {
      listens = plain_unbegun w.b.phase _ (plain_ticked w.b (max w.clock_b m)).turn (subst (λ (h : Phase). has_begun h ≡ false) (sym apart.listens) refl) ∙ apart.listens;
      caller =
          let p = plain_ticked w.a (max w.clock_a m) in
          caller_turns s drawn w.from_a w.from_b w.a (ticked w.a (max w.clock_a m)) p.configuration p.terms p.turn apart.caller;
      answers = apart.answers;
    })
    apart_step e o v fine (Draws d dd) = AreApart apart
    apart_step e o v fine (Connects d dd answer) = AreApart (record {
      listens = apart.listens;
      caller = calls s drawn w apart.caller d dd (fine.draws d.tag (inl refl)) (connect_idle w.a.phase answer);
      answers = apart.answers;
    })
    apart_step e o v fine (ConnectRefused d answer) = AreApart apart
    apart_step e o v fine (BuildsOne x y ys t b) = builds_one v x y ys t (at_packet w x t _) b
    apart_step e o v fine (BuildsNone x t b) = now_plain v x t None (at_end w x t) (builds_plain (end_now w x) [] t b) tt
    apart_step e o v fine (PacketComes _ x _ t d brings (ReadAs p _ _ arrives)) = comes v x p t d (at_verdict w x t d) (closed_verdict x t d) (from_whole s drawn w e x p fine brings) arrives
    apart_step e o v fine (IsAbsent x n none) = AreApart apart
    apart_step e o v fine (PacketComes _ x _ _ _ brings DroppedUnread) = now_plain v x (end_now w x) None (at_came w x (end_now w x)) (plain_same (end_now w x)) tt
    apart_step e o v fine (Sends x c) = by_plain v x _ None (at_log w x _ _) (plain_sent (end_of w x) c (send_answer (end_of w x) c)) tt
    apart_step e o v fine (AbandonsOne x k) = by_plain v x _ None (at_log w x _ _) (plain_abandoned (end_of w x) k) tt
    apart_step e o v fine (TakesOne x n h t takes) = by_plain v x t None (at_end w x t) (plain_taken (end_of w x) n h t takes) tt
    apart_step e o v fine (ResetsOne x n) = by_plain v x (reset_leaves (reset_call (end_of w x) n) (end_of w x) n) None (at_end w x _) (plain_reset (end_of w x) (reset_call (end_of w x) n) n) tt
    apart_step e o v fine (TellsReset x) = by_plain v x (told_leaves (reset_there (end_of w x)) (end_of w x)) None (at_end w x _) (plain_told (end_of w x) (reset_there (end_of w x))) tt
    apart_step e o v fine (ShutsDown x) = by_plain v x (shut (end_of w x)) None (at_end w x _) (plain_shut (end_of w x)) tt
    apart_step e o v fine (AbortsIt x r) =
        by_plain v x (abort_leaves (abort_answer (end_of w x) r) (end_of w x)) (abort_of (abort_answer (end_of w x) r)) (at_abort w x _ _) (plain_aborted (end_of w x) r) (abort_quiet (end_of w x) r)
    apart_step e o v fine (PacketCut _ x _ _ brings (CutFirst _)) = now_plain v x (end_now w x) None (at_came w x (end_now w x)) (plain_same (end_now w x)) tt
    apart_step e o v fine (PacketCut _ x _ t brings (CutLater p y front back c _ d part arrives untold)) =
        comes_cut v x (cut_to p (y ∷ front)) t d (at_came w x t) (closed_came x t) untold (from_cut s drawn w e x p y front back c fine brings part) arrives
    apart_step e o v fine (NoMemory _ other_event) = AreApart apart

-- Whichever step follows, the story goes on.
pub story_step : (s : Setup) (drawn : List ℕ) → ((x : Side) → IsConfiguration (configuration_of s x)) → (w : World) (e : Event) (o : Option Outcome) (v : World) →
    IsFine s drawn e → IsGrounded s drawn w → IsFresh w → Step w e o v → IsStory s drawn w → IsStory s drawn v
story_step s drawn configured w e o v fine ground fresh step (AreApart apart) = apart_step s drawn w ground apart configured e o v fine step
story_step s drawn configured w e o v fine ground fresh step (HaveMet met) = HaveMet (met_step drawn w e o v fresh step met)
