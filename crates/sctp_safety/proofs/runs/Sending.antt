-- What a sender's calls do to its direction.
use Rattle.std.proofs.Common.{◌≡◌, ℕ, zero, suc, ◌+◌, ◌<◌, ◌≤◌, ◌⊎◌, true, false, nat_le, max, List, [], ◌∷◌, ◌++◌, length, map, Option, Some, None, inl, inr, refl, sym, subst, ap, arith, ◌∙◌, Bool}
use Rattle.std.specs.Prelude.{unwrap_or, fold, if◌then◌else◌}
use Rattle.std.proofs.lemmas.Bool.{cases_lt, cases_Bool}
use Rattle.std.proofs.lemmas.Bool.Decides.{nat_tests}
use Rattle.sctp_model.specs.numbers.Limits.{WINDOW}
use Rattle.sctp_model.specs.numbers.Lists.{Has, at}
use Rattle.sctp_model.specs.numbers.Serial.{tsn}
use Rattle.sctp_model.specs.wire.Chunk.{SackMeaning, ChunkMeaning, Sack, Shutdown}
use Rattle.sctp_model.specs.messages.Format.{Format, Plain, Interleaved, Lane, is_numbered, ordered_lane}
use Rattle.sctp_model.specs.messages.Plan.{Entry, Part, End, entry_at, IsOf}
use Rattle.sctp_model.specs.messages.Pieces.{Piece, piece_of, number_of, IsFragment}
use Rattle.sctp_model.specs.sender.SenderView.{Queued, SenderView}
use Rattle.sctp_model.specs.receiver.ReceiverView.{ReceiverView}
use Rattle.sctp_model.specs.receiver.ReceiverView.{Reaches}
use Rattle.sctp_model.specs.messages.Acknowledgement.{Acknowledgement, covers}
use Rattle.sctp_model.specs.world.Calls.{Call, Asked}
use Rattle.sctp_model.specs.sender.Queueing.{refusal, queued}
use Rattle.sctp_model.specs.sender.Entries.{entry_lane, entry_message}
use Rattle.sctp_model.specs.sender.Filling.{Wish, next_wish, wished, gone, Follows, IsFill}
use Rattle.sctp_model.specs.sender.SackTaken.{sack_fault, sack_taken, shutdown_fault, shutdown_taken}
use Rattle.sctp_model.specs.sender.SentChunks.{piece_said, chunk_of}
use Rattle.sctp_model.specs.sender.Abandoning.{abandon_after, is_overdue, expire_one, expired, worn, marking}
use Rattle.sctp_model.specs.sender.Words.{count_up}
use Rattle.sctp_model.specs.sender.Reached.{IsReached, Queues, Goes, Covers, Closes, Abandons, Repeats}
use Rattle.sctp_model.proofs.sender.SetLaws.{is_set, accepted}
use Rattle.sctp_model.proofs.sender.Bounds.{is_bounded}
use Rattle.sctp_model.proofs.sender.FillLaws.{goes_parts}
use Rattle.sctp_model.proofs.sender.AbandonedLaws.{expired_reached}
use Rattle.sctp_safety.specs.Way.{Way, Time_passes, HasNone}
use Rattle.sctp_model.proofs.sender.WornLaws.{worn_reached, wears_each}
use Rattle.sctp_safety.specs.ReceiverLaws.{IsPieceSaid}
use Rattle.sctp_safety.specs.SenderLaws.{IsMoved, IsPut, IsFilled, IsSackOf}
use Rattle.sctp_safety.proofs.lists.Basics.{Has-cases, Has-push, item_at-within}
use Rattle.sctp_safety.proofs.moves.Facts.{Good}
use Rattle.sctp_safety.proofs.moves.Taken.{leads_by}
use Rattle.sctp_safety.proofs.moves.UsualLemmas.{good_usual, usual_moved}
use Rattle.sctp_safety.proofs.receiving.ReadBounds.{reached_within}
use Rattle.sctp_safety.proofs.sending.FillMoves.{fill_is_moves}
use Rattle.sctp_safety.proofs.sending.QueueMoves.{queue_is_moves}
use Rattle.sctp_safety.proofs.sending.GivingMoves.{abandon_is_moves, expire_is_moves, wear_is_moves, marking_is_moves}
use Rattle.sctp_safety.proofs.sending.SackMoves.{sack_is_moves, shutdown_is_moves}
use Rattle.sctp_safety.proofs.runs.Grown.{IsPrefix, plan_lasts}
use Rattle.sctp_safety.proofs.runs.Dates.{Date, IsYoung, Dated, all_dated, each_dated}
use Rattle.sctp_safety.proofs.runs.Nearness.{cum_near}
use Rattle.sctp_safety.proofs.runs.PastCum.{ArePast, follows_past}
use Rattle.sctp_safety.proofs.runs.Direction.{with_chunks, Bags, way_of, IsSaid, IsSaidBack, Direction, counted_in, IsMore, more_same, said_later, said_back_later, prefix_longer}
use Rattle.sctp_model.specs.end.Pacing.{Pace}
use Rattle.sctp_model.specs.end.Clock.{sender_heard}
use Rattle.sctp_model.proofs.sender.HeardLaws.{heard_cases}
use Rattle.sctp_safety.proofs.plan.OneMessage.{number_counts}
use Rattle.sctp_safety.proofs.runs.StillStreams.{IsStill, IsAsStill, cum_lasts, old_lasts, still_lasts, fewer_wait}
use Rattle.sctp_safety.proofs.runs.ResetFacts.{IsReadable, IsAhead, AreInStep, readable_later, asked_later, step_sent}
use Rattle.sctp_model.specs.sender.Outgoing.{Outgoing, Request, is_sending, lists}
use Rattle.sctp_model.specs.sender.Resetting.{rebased}
use Rattle.sctp_model.proofs.sender.AbandonCases.{after_abandon as by_abandon}
use Rattle.sctp_model.proofs.sender.WishCases.{IsAssigned, Whole, Begun, Continued, after_wish}

-- ---- in general

-- The sender moved, and the bags hold no less.
abbrev pub sender_moved : (f : Format) (n : ℕ) (a : SenderView) (u : Asked) (r : ReceiverView) (out back : List Dated) (d : Direction f n a u r out back)
    (b : SenderView) (v : Asked) (c : Bags) → IsMore d.bags c → IsReached f b → IsMoved (way_of f n a u r d.bags) (way_of f n b v r c) → b.resets ≡ a.resets →
    ((s : ℕ) → is_sending (a.resets.sending s) ≡ false → IsStill a s → IsAsStill s a b) → Direction f n b v r out back
sender_moved f n a u r out back d b v c more reached m same stills = record {
  bags = c;
  usual = usual_moved (way_of f n a u r d.bags) (way_of f n b v r c) d.usual m;
  reached = reached;
  idle = d.idle;
  initial = d.initial ∙ sym m.constants.initial;
  outbound = m.constants.streams ∙ d.outbound;
  inbound = d.inbound;
  step = step_sent f a b r same m.constants.streams (cum_lasts here there m.leads) longer stills (λ l k. old_lasts here there a.cum l k m.leads) d.step;
  said = λ x has. subst (λ (i : ℕ). IsSaid f i b r c x.date.own x.chunk) (sym m.constants.initial)
      (said_later f a.initial a b r r d.bags c x.date.own x.chunk lasts more (λ base j l k. readable_later f a b r r base j l k same longer refl (λ i h. h)) (λ q. asked_later a.initial a b q same) (d.said x has));
  said_back = λ x has. said_back_later r.initial r r d.bags c x.date.there x.chunk more (λ y h. h) (d.said_back x has);
}
  where
    here : Way
    here = way_of f n a u r d.bags

    there : Way
    there = way_of f n b v r c

    lasts : IsPrefix a.plan b.plan
    lasts = plan_lasts here there m.leads

    longer : length a.plan.entries ≤ length b.plan.entries
    longer = prefix_longer a.plan b.plan lasts

-- a call that isn't one of `send` leaves still streams as they were
pub calm : (f : Format) (n : ℕ) (a : SenderView) (u : Asked) (r : ReceiverView) (k : Bags) (b : SenderView) (v : Asked) (c : Bags) → IsMoved (way_of f n a u r k) (way_of f n b v r c) → v.calls ≡ u.calls →
    (s : ℕ) → is_sending (a.resets.sending s) ≡ false → IsStill a s → IsAsStill s a b
calm f n a u r k b v c m calls s off h = still_lasts (way_of f n a u r k) (way_of f n b v r c) s m.leads calls h

-- ---- what calls leave of resets

pub abandon_resets : (a : SenderView) (t : ℕ) → (abandon_after a t).resets ≡ a.resets
abandon_resets a t = by_abandon (λ (u : SenderView). u.resets ≡ a.resets) a t refl (λ on. refl) (λ n is kept. refl)

pub expire_resets : (now : ℕ) (ts : List ℕ) (a : SenderView) → (fold (expire_one now) a ts).resets ≡ a.resets
expire_resets now [] a = refl
expire_resets now (t ∷ ts) a = expire_resets now ts (expire_one now a t) ∙ one (is_overdue a now t)
  where
    one : (b : Bool) → (if b then abandon_after a t else a).resets ≡ a.resets
    one true = abandon_resets a t
    one false = refl

assigned_resets : (f : Format) (v u : SenderView) → IsAssigned v f u → u.resets ≡ v.resets
assigned_resets _ v _ (Whole q rest is) = refl
assigned_resets _ v _ (Begun s q lt on first) = refl
assigned_resets _ v _ (Continued s e lt on) = refl

-- a wish's view, and the view that it leaves
wish_resets : (f : Format) (v : SenderView) (w : Wish) → next_wish f v ≡ Some w → (gone w).resets ≡ v.resets
wish_resets f v w next = after_wish (λ u. u.resets ≡ v.resets) f v w refl (λ u a. assigned_resets f v u a) (λ u i same. same) next

pub record AreFilling (a : SenderView) (ws : List Wish) (b : SenderView) : Type 0 where
  pub each : (w : Wish) → Has ws w → w.view.resets ≡ a.resets
  pub last : b.resets ≡ a.resets

pub follows_resets : (f : Format) (a : SenderView) (room : ℕ) (ws : List Wish) (b : SenderView) → Follows f a room ws b → AreFilling a ws b
follows_resets f a room [] b same = record { each = λ w h. absurd h; last = ap (λ (v : SenderView). v.resets) same }
follows_resets f a room (x ∷ ws) b (first, rest) =
    let parts = goes_parts f room a x first in
    let one = wish_resets f a x parts.0 in
    let later = follows_resets f (gone x) _ ws b rest in
    record { each = λ w h. elim h [ inl e ↦ subst (λ (y : Wish). y.view.resets ≡ a.resets) e one | inr k ↦ later.each w k ∙ one ]; last = later.last ∙ one }

-- ---- the calls

module _ (f : Format) (n : ℕ) (a : SenderView) (u : Asked) (r : ReceiverView) (out back : List Dated) (d : Direction f n a u r out back) where
  abbrev here : Way
  here = way_of f n a u r d.bags

  pub good_here : Good here
  good_here = good_usual here d.usual

  pub after_queue : (c : Call) → refusal a c.lane.stream c.bytes ≡ None →
      Direction f n (queued a c.lane c.payload c.bytes c.until c.limit) (record u { calls = u.calls ++ c ∷ [] }) r out back
  after_queue c none =
      sender_moved f n a u r out back d _ _ d.bags (more_same d.bags) (Queues a c.lane c.payload c.bytes c.until c.limit d.reached none)
      (queue_is_moves here c d.usual (is_set f a d.reached).fragment d.outbound none) refl
      (λ s off h. fewer_wait s a (queued a c.lane c.payload c.bytes c.until c.limit) refl (others s off h) h)
    where
      others : (s : ℕ) → is_sending (a.resets.sending s) ≡ false → IsStill a s → HasNone (queued a c.lane c.payload c.bytes c.until c.limit).queue s
      others s off h x has on = elim (Has-push a.queue _ x has) [
        | inl old ↦ h.queue x old on
        | inr new ↦
            let sends = (accepted a c.lane.stream c.bytes none).sends in
            let same : c.lane.stream ≡ s = ap (λ (q : Queued). q.lane.stream) new ∙ on in
            let open_still : is_sending (a.resets.sending s) ≡ true = subst (λ (k : ℕ). is_sending (a.resets.sending k) ≡ true) same sends in
            absurd (cc)
      ]

  pub after_abandon : (t : ℕ) → Direction f n (abandon_after a t) (record u { named = at u.named t true }) r out back
  after_abandon t =
      sender_moved f n a u r out back d _ _ d.bags (more_same d.bags) (Abandons a t d.reached) (abandon_is_moves here t d.usual) (abandon_resets a t)
      (calm f n a u r d.bags _ _ d.bags (abandon_is_moves here t d.usual) refl)

  pub after_expiry : (now : ℕ) → now ≤ u.clock → Direction f n (expired a now) u r out back
  after_expiry now past =
      sender_moved f n a u r out back d _ _ d.bags (more_same d.bags) (expired_reached f a now d.reached) (expire_is_moves here now d.usual past) (expire_resets now (count_up 1 a.tickets) a)
      (calm f n a u r d.bags _ _ d.bags (expire_is_moves here now d.usual past) refl)

  pub after_wear : (test : ℕ → Bool) → Direction f n (worn test a) u r out back
  after_wear test = sender_moved f n a u r out back d _ _ d.bags (more_same d.bags) (worn_reached f test a d.reached) (wear_is_moves here test d.usual)
      (wears_each (λ (v : SenderView). v.resets ≡ a.resets) (λ v t same. abandon_resets v t ∙ same) test a (count_up 1 (length a.plan.entries)) refl) (calm f n a u r d.bags _ _ d.bags (wear_is_moves here test d.usual) refl)

  pub after_marking : (test : ℕ → Bool) → Direction f n (marking a test) u r out back
  after_marking test = sender_moved f n a u r out back d _ _ d.bags (more_same d.bags) (Repeats a test d.reached) (marking_is_moves here test d.usual) refl (calm f n a u r d.bags _ _ d.bags (marking_is_moves here test d.usual) refl)

  -- what an acknowledgement reports marks at most
  pub after_heard : (o : Option Pace) (now : ℕ) (v : SenderView) → Direction f n (sender_heard o now v a) u r out back
  after_heard o now v = heard_cases (λ x. Direction f n x u r out back) o now v a d after_marking

  -- time passes in the world
  pub after_tick : (m : ℕ) → Direction f n a (record u { clock = max u.clock m }) r out back
  after_tick m =
      sender_moved f n a u r out back d _ _ d.bags (more_same d.bags) d.reached (record {
        leads = leads_by here (way_of f n a (record u { clock = max u.clock m }) r d.bags) (Time_passes m) refl;
        order = record { ends = d.usual.order.ends; marked = d.usual.order.marked; tickets = d.usual.order.tickets };
        constants = record { initial = refl; streams = refl; fragment = refl; partial = refl };
      }) refl (λ s off h. fewer_wait s a a refl h.queue h)

  -- ---- what acknowledges

  -- an index whose predecessors were all reached is the plan's, or 0
  acknowledged_within : (c : ℕ) → Reaches r c → c ≤ length a.plan.entries
  acknowledged_within zero h = omega arith
  acknowledged_within (suc c) h = reached_within here good_here (suc c) (omega arith) h

  -- CUM is the plan's, too
  low : a.cum ≤ length a.plan.entries
  low = (is_bounded f a d.reached).within

  pub after_sack : (x : Dated) (s : SackMeaning) → Has back x → x.chunk ≡ Sack s → IsYoung x.date.there (length a.plan.entries) → sack_fault a s ≡ None →
      Direction f n (sack_taken a s) u r out back
  after_sack b s has is young none = go (subst (λ (y : ChunkMeaning). IsSaidBack r.initial r d.bags b.date.there y) is (d.said_back b has))
    where
      itself : (x : Acknowledgement) → covers x x.cum ≡ true
      itself x = let h : nat_le x.cum x.cum ≡ true = grind (arith, nat_tests) in rw h refl

      go : (x : Acknowledgement) × Has d.bags.sacks x × IsSackOf r.initial x s × (b.date.there ≤ x.cum + WINDOW) → Direction f n (sack_taken a s) u r out back
      go (x, put, of, window) =
          sender_moved f n a u r out back d _ _ d.bags (more_same d.bags) (Covers a s d.reached none)
          (sack_is_moves here x s d.usual put (subst (λ (i : ℕ). IsSackOf i x s) d.initial of)
          (cum_near here good_here (counted_in f a d.reached) b.date.there young x.cum (acknowledged_within x.cum (good_here.between.sacks x x.cum put (itself x))) window low) none) refl
          (λ i off h. fewer_wait i a (sack_taken a s) refl h.queue h)

  pub after_shutdown : (x : Dated) (wire : ℕ) → Has back x → x.chunk ≡ Shutdown wire → IsYoung x.date.there (length a.plan.entries) → shutdown_fault a wire ≡ None →
      Direction f n (shutdown_taken a wire) u r out back
  after_shutdown b wire has told young none = go (subst (λ (y : ChunkMeaning). IsSaidBack r.initial r d.bags b.date.there y) told (d.said_back b has))
    where
      go : (c : ℕ) × Has d.bags.shutdowns c × (wire ≡ tsn r.initial c) × (b.date.there ≤ c + WINDOW) → Direction f n (shutdown_taken a wire) u r out back
      go (c, put, is, window) =
          let same : wire ≡ tsn a.initial c = is ∙ ap (λ (i : ℕ). tsn i c) d.initial in
          sender_moved f n a u r out back d _ _ d.bags (more_same d.bags) (Closes a wire d.reached none)
          (subst (λ (t : ℕ). IsMoved here (way_of f n (shutdown_taken a t) u r d.bags)) (sym same)
          (shutdown_is_moves here c d.usual put
          (cum_near here good_here (counted_in f a d.reached) b.date.there young c (acknowledged_within c (good_here.between.shutdowns c c put (omega arith))) window low)
          (subst (λ (t : ℕ). shutdown_fault a t ≡ None) same none))) refl (λ i off h. fewer_wait i a (shutdown_taken a wire) refl h.queue h)

-- ---- what is put into a packet

-- Chunks more that the sender's end built, each of which says something of the direction.
pub said_more : (f : Format) (n : ℕ) (a : SenderView) (u : Asked) (r : ReceiverView) (out back : List Dated) (d : Direction f n a u r out back)
    (xs : List Dated) → ((x : Dated) → Has xs x → IsSaid f a.initial a r d.bags x.date.own x.chunk) → Direction f n a u r (out ++ xs) back
said_more f n a u r out back d xs says = with_chunks f n a u r out back d (out ++ xs) back (λ x has. which x (Has-cases out xs x has)) d.said_back
  where
    which : (x : Dated) → Has out x ⊎ Has xs x → IsSaid f a.initial a r d.bags x.date.own x.chunk
    which x (inl h) = d.said x h
    which x (inr h) = says x h

-- ---- fragments

pub follows_reached : (f : Format) (a : SenderView) (room : ℕ) (ws : List Wish) (b : SenderView) → IsReached f a → Follows f a room ws b → IsReached f b
follows_reached f a room [] b h follows = subst (λ (x : SenderView). IsReached f x) (sym follows) h
follows_reached f a room (w ∷ ws) b h (first, rest) = let parts = goes_parts f room a w first in follows_reached f (gone w) _ ws b (Goes a room w h parts.0 parts.1) rest

-- the chunk of a fragment that was put between the endpoints says it
piece_is_said : (f : Format) (i : ℕ) (base : Lane → ℕ) (ps : List Piece) (w : Wish) → w.view.initial ≡ i → w.view.resets.base ≡ base → IsPut f ps w →
    IsPieceSaid f i ps (piece_said f w.view.initial w.view.resets.base w.index (wished w) (entry_message w.view.plan (wished w)))
piece_is_said f i base ps w initial from p = record {
  index = w.index;
  lane = p.lane;
  number = p.number;
  fragment = p.fragment;
  message = p.message;
  base = base;
  put = p.put;
  same = ap (λ (j : ℕ). piece_said f j w.view.resets.base w.index (wished w) (entry_message w.view.plan (wished w))) initial
      ∙ ap (λ (b : Lane → ℕ). piece_said f i b w.index (wished w) (entry_message w.view.plan (wished w))) from
      ∙ ap (λ (e : Entry). piece_said f i base w.index e (entry_message w.view.plan (wished w))) entry
      ∙ ap (piece_said f i base w.index (Part p.lane p.number p.fragment)) message;
}
  where
    entry : wished w ≡ Part p.lane p.number p.fragment
    entry = ap (λ (o : Option Entry). unwrap_or o (End (ordered_lane 0) 0)) p.here

    message : entry_message w.view.plan (wished w) ≡ Some p.message
    message = ap (entry_message w.view.plan) entry ∙ p.named

chunk_is_said : (f : Format) (b : SenderView) (r : ReceiverView) (c : Bags) (since : ℕ) (w : Wish) → w.view.initial ≡ b.initial → w.view.resets.base ≡ b.resets.base → since ≤ w.index + WINDOW →
    (p : IsPut f c.pieces w) → IsReadable f b r b.resets.base w.index p.lane p.number → IsSaid f b.initial b r c since (chunk_of f w)
unfolding piece_is_said
chunk_is_said Plain b r c since w initial from window p reads = record { said = piece_is_said Plain b.initial b.resets.base c.pieces w initial from p; window = window; readable = reads }
chunk_is_said Interleaved b r c since w initial from window p reads = record { said = piece_is_said Interleaved b.initial b.resets.base c.pieces w initial from p; window = window; readable = reads }

-- ---- what is written past CUM is readable

module _ (f : Format) (a : SenderView) (r : ReceiverView) (step : AreInStep f a r) (j : ℕ) (e : Entry) (l : Lane) (n : ℕ) (here : entry_at a.plan j ≡ Some e) (own : IsOf l n e) (past : a.cum < j) where
  written_low : a.resets.base l ≤ n
  written_low = elim (cases_lt n (a.resets.base l)) [
    | inr low ↦ low
    | inl below ↦ let u = (step.old l n below).upto j e here own in absurd (omega (arith, u, past))
  ]

  on_stream : (entry_lane e).stream ≡ l.stream
  on_stream = go e own
    where
      go : (d : Entry) → IsOf l n d → (entry_lane d).stream ≡ l.stream
      go (Part k m x) o = ap (λ (y : Lane). y.stream) o.0
      go (End k m) o = ap (λ (y : Lane). y.stream) o.0

  -- its stream isn't of the request that waits
  unlisted : (q : Request) → a.resets.pending ≡ Some q → lists q.streams l.stream ≡ true → ⊥
  unlisted q waits listed = let b = ((step.waiting q waits).below l.stream listed j e here on_stream).0 in omega (arith, b, past)

  same_base : is_numbered f l.kind ≡ true → a.resets.base l ≡ r.resets.base l
  same_base numbered = elim step.bases [
    | inl even ↦ even.0 l numbered
    | inr on ↦ by (lists on.request.streams l.stream) on refl
  ]
    where
      by : (b : Bool) → (on : IsAhead f a r) → lists on.request.streams l.stream ≡ b → a.resets.base l ≡ r.resets.base l
      by true on listed = absurd (unlisted on.request on.waits listed)
      by false on off = let h : rebased a on.request l ≡ a.resets.base l = rw off refl in sym (on.bases l numbered ∙ h)

  pub written_readable : (i : ℕ) → i ≤ length a.plan.entries → IsReadable f a r a.resets.base i l n
  written_readable i within = record {
    based = record { low = λ numbered. written_low; same = λ numbered. inr (same_base numbered) };
    before = λ q waits listed. absurd (unlisted q waits listed);
    within = within;
  }

pub Has-map : {A B : Type 0} (g : A → B) (xs : List A) (y : B) → Has (map g xs) y → (x : A) × Has xs x × (g x ≡ y)
Has-map g [] y h = absurd h
Has-map g (x ∷ xs) y (inl e) = (x, inl refl, e)
Has-map g (x ∷ xs) y (inr h) = let k = Has-map g xs y h in (k.0, inr k.1, k.2)

-- What a packet is filled with, if by its date no more is assigned than the window holds past CUM.
pub after_fill : (f : Format) (n : ℕ) (a : SenderView) (u : Asked) (r : ReceiverView) (out back : List Dated) → Direction f n a u r out back →
    (room : ℕ) (ws : List Wish) (b : SenderView) (k : Date) → k.own ≤ a.cum + WINDOW → IsFill f a room ws b → Direction f n b u r (out ++ all_dated k (map (chunk_of f) ws)) back
after_fill f n a u r out back d room ws b k window fill =
    said_more f n b u r out back moved (all_dated k (map (chunk_of f) ws)) (each_dated (λ y. IsSaid f b.initial b r bags y.date.own y.chunk) k (map (chunk_of f) ws) says)
  where
    filled : IsFilled (way_of f n a u r d.bags) ws b
    filled = fill_is_moves (way_of f n a u r d.bags) room ws b d.usual fill

    bags : Bags
    bags = record d.bags { pieces = filled.pieces }

    resets : AreFilling a ws b
    resets = follows_resets f a room ws b fill.follows

    moved : Direction f n b u r out back
    moved = sender_moved f n a u r out back d b u bags
        (record { pieces = filled.still; forwards = λ x h. h; sacks = λ x h. h; shutdowns = λ x h. h })
        (follows_reached f a room ws b d.reached fill.follows) filled.moved resets.last (calm f n a u r d.bags b u bags filled.moved refl)

    past_all : ArePast a ws b
    past_all = follows_past f a room ws b d.reached fill.follows

    -- the number that the plan has there is the one that is said, if there is one
    reads : (y : Wish) → Has ws y → (p : IsPut f bags.pieces y) → IsReadable f b r b.resets.base y.index p.lane p.number
    reads y has p = go (cases_Bool (is_numbered f p.lane.kind))
      where
        fragment : IsFragment f b.plan (piece_of f y.index p.lane p.number p.fragment p.message)
        fragment = (good_here f n b u r out back moved).between.pieces (piece_of f y.index p.lane p.number p.fragment p.message) p.put

        past : b.cum < y.index
        past = let h = past_all.past y has in let e = past_all.same in omega (arith, h, e)

        there : IsReadable f b r b.resets.base y.index p.lane fragment.number
        there = written_readable f b r moved.step y.index (Part p.lane fragment.number fragment.fragment) p.lane fragment.number fragment.here (refl, refl) past y.index (item_at-within b.plan.entries y.index _ fragment.here)

        go : (is_numbered f p.lane.kind ≡ true) ⊎ (is_numbered f p.lane.kind ≡ false) → IsReadable f b r b.resets.base y.index p.lane p.number
        go (inl numbered) =
            let h : number_of f p.lane p.number ≡ number_of f p.lane fragment.number = ap (λ (z : Piece). z.number) fragment.same in
            let k = number_counts f p.lane p.number numbered in
            let m = number_counts f p.lane fragment.number numbered in
            let same : fragment.number ≡ p.number = cc (h, k, m) in
            subst (IsReadable f b r b.resets.base y.index p.lane) same there
        go (inr off) = record {
          based = record { low = λ numbered. absurd (cc); same = there.based.same };
          before = there.before;
          within = there.within;
        }

    says : (x : ChunkMeaning) → Has (map (chunk_of f) ws) x → IsSaid f b.initial b r bags k.own x
    says x has =
        let y = Has-map (chunk_of f) ws x has in
        let past = past_all.past y.0 y.1 in
        let p = filled.puts y.0 y.1 in
        subst (λ (z : ChunkMeaning). IsSaid f b.initial b r bags k.own z) y.2
        (chunk_is_said f b r bags k.own y.0 (filled.same y.0 y.1 ∙ sym filled.moved.constants.initial)
        (ap (λ (z : Outgoing). z.base) (resets.each y.0 y.1 ∙ sym resets.last)) (omega (arith, window, past)) p (reads y.0 y.1 p))
