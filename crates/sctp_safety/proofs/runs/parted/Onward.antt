-- What a call does to a receiver, beside the sender across: nothing is forgotten, and each message that is delivered was waited for, or a fragment of it
-- wasn't reached before.
use Rattle.std.proofs.Common.{◌≡◌, ℕ, zero, suc, ◌≤◌, ◌⊎◌, Bool, true, false, List, [], ◌++◌, length, length-append, Option, Some, None, is_some, inl, inr, refl, sym, subst, ap, ◌∙◌, arith, append-nil, if◌then◌else◌, not}
use Rattle.std.proofs.lemmas.List.{append_assoc}
use Rattle.sctp_model.specs.numbers.Lists.{Has}
use Rattle.sctp_model.specs.wire.Typed.{Typed}
use Rattle.sctp_model.specs.wire.Chunk.{PieceMeaning, ForwardMeaning}
use Rattle.sctp_model.specs.wire.Reconfig.{ResetMeaning, ResetResult, Performed, Denied, WrongStream, BadNumber, InProgress}
use Rattle.sctp_model.specs.messages.Format.{Format, Kind, Ordered, Unordered, Lane}
use Rattle.sctp_model.specs.messages.Plan.{Part, Plan, entry_at}
use Rattle.sctp_model.specs.messages.Pieces.{Piece}
use Rattle.sctp_model.specs.sender.SenderView.{SenderView}
use Rattle.sctp_model.specs.receiver.Incoming.{Incoming}
use Rattle.sctp_model.specs.receiver.ReceiverView.{Handed, ReceiverView, handed, Reaches, IsCumulative}
use Rattle.sctp_model.specs.receiver.Receiving.{Gives, GivesOrdered, GivesAll}
use Rattle.sctp_model.specs.receiver.Reading.{piece_at}
use Rattle.sctp_model.specs.receiver.PieceTaken.{PieceAnswer, Duplicate, Ahead, NoSuchStream, Passed, NoRoom, Kept, Leaves, PieceTaken}
use Rattle.sctp_model.specs.receiver.ForwardTaken.{ForwardAnswer, OutOfDate, Bad, Moved, forwarded, ForwardLeaves, ForwardTaken}
use Rattle.sctp_model.specs.receiver.ResetTaken.{names, reset_answer, is_in_turn, with_answer, renumbered_by, reset_taken, with_answers, names_anew, was_performed}
use Rattle.sctp_model.specs.receiver.SackMade.{TakeLeaves}
use Rattle.sctp_model.specs.world.Calls.{Asked}
use Rattle.sctp_model.specs.world.Safe.{WasHanded}
use Rattle.sctp_safety.specs.Way.{Way, with_receiver}
use Rattle.sctp_safety.specs.Parted.{Asks}
use Rattle.sctp_safety.specs.ReceiverLaws.{IsReceived, IsCounted}
use Rattle.sctp_safety.proofs.machine.Reconfigured.{taken_in, waiting_in, IsResetIn}
use Rattle.sctp_safety.proofs.moves.Facts.{Good}
use Rattle.sctp_safety.proofs.moves.UsualLemmas.{good_usual}
use Rattle.sctp_safety.proofs.receiving.PieceReads.{piece_taken_is_moves}
use Rattle.sctp_safety.proofs.receiving.ForwardReads.{forward_taken_is_moves}
use Rattle.sctp_safety.proofs.receiving.SackMade.{take_is_moves}
use Rattle.sctp_safety.proofs.runs.Dates.{IsYoung, Dated}
use Rattle.sctp_safety.proofs.runs.Nearness.{piece_index_near, point_near}
use Rattle.sctp_safety.proofs.runs.Direction.{way_of, IsPieceIn, IsForwardIn, IsSaid, Direction, joined_in, counted_in}
use Rattle.sctp_safety.proofs.runs.ResetFacts.{IsAskedBy}
use Rattle.sctp_safety.proofs.runs.ReachesLast.{reaches_last}
use Rattle.sctp_safety.proofs.runs.ResetFacts.{IsNoted, noted_received}
use Rattle.sctp_safety.proofs.runs.Renumbering.{turn, named, not_noted, noted_performed, stays_noted, noted_back}
use Rattle.sctp_safety.proofs.runs.parted.OnWay.{OnWay, IsHandedAnew, on_leads}
use Rattle.sctp_safety.proofs.runs.parted.Recorded.{piece_records, forward_records}
use Rattle.std.proofs.lemmas.Bool.{and_parts}

-- the message was waited for, or lay ahead; or one of its fragments wasn't reached
abbrev pub IsHandedLater : Plan → ReceiverView → Lane → ℕ → Type 0
IsHandedLater p r l k = ((l.kind ≡ Ordered) × (r.next l.stream ≤ k)) ⊎ ((i : ℕ) × (j : ℕ) × (entry_at p i ≡ Some (Part l k j)) × (Reaches r i → ⊥))

-- a request for the stream that waits across was performed here, when this many messages had been delivered
pub record IsPerformed (a : SenderView) (r t : ReceiverView) (s n : ℕ) : Type 0 where
  pub asks : Asks a s
  pub anew : IsNoted a r s → ⊥
  pub noted : IsNoted a t s
  pub after : length (handed r s) ≤ n
  pub before : n ≤ length (handed t s)

pub record Onward (a : SenderView) (r t : ReceiverView) : Type 0 where
  pub reached : (j : ℕ) → Reaches r j → Reaches t j
  pub next : (s : ℕ) → r.next s ≤ t.next s
  pub more : (s : ℕ) → (hs : List Handed) × (handed t s ≡ handed r s ++ hs)
  pub anew : (l : Lane) (k : ℕ) → WasHanded a.plan t l k → WasHanded a.plan r l k ⊎ IsHandedLater a.plan r l k
  pub told : (s n : ℕ) → t.resets.told s ≡ Some n → (r.resets.told s ≡ Some n) ⊎ IsPerformed a r t s n
  pub noted : (s : ℕ) → IsNoted a r s → IsNoted a t s
  -- what is to be reported stays so; and of what is noted anew it is to be reported
  pub kept : (s : ℕ) → is_some (r.resets.told s) ≡ true → is_some (t.resets.told s) ≡ true
  pub back : (s : ℕ) → IsNoted a t s → IsNoted a r s ⊎ (Asks a s × (is_some (t.resets.told s) ≡ true))

-- nothing is delivered, and no request performed
pub onward_calm : (a : SenderView) (r t : ReceiverView) → ((j : ℕ) → Reaches r j → Reaches t j) → t.next ≡ r.next → ((s : ℕ) → handed t s ≡ handed r s) →
    t.resets.told ≡ r.resets.told → ((s : ℕ) → IsNoted a r s → IsNoted a t s) → ((s : ℕ) → IsNoted a t s → IsNoted a r s) → Onward a r t
onward_calm a r t reached next same told noted back = record {
  reached = reached;
  next = λ s. (let e = ap (λ (g : ℕ → ℕ). g s) next in omega (arith, e));
  more = λ s. ([], same s ∙ sym (append-nil (handed r s)));
  anew = λ l k (h, has, lane, first). inl (h, subst (λ (hs : List Handed). Has hs h) (same l.stream) has, lane, first);
  told = λ s n is. inl (subst (λ (g : ℕ → Option ℕ). g s ≡ Some n) told is);
  noted = noted;
  kept = λ s on. subst (λ (g : ℕ → Option ℕ). is_some (g s) ≡ true) (sym told) on;
  back = λ s k. inl (back s k);
}

pub onward_itself : (a : SenderView) (r : ReceiverView) → Onward a r r
onward_itself a r = onward_calm a r r (λ j h. h) refl (λ s. refl) refl (λ s k. k) (λ s k. k)

pub onward_same : (a : SenderView) (r t : ReceiverView) → t ≡ r → Onward a r t
onward_same a r t is = subst (Onward a r) (sym is) (onward_itself a r)

longer : (r t : ReceiverView) (s : ℕ) → (hs : List Handed) × (handed t s ≡ handed r s ++ hs) → length (handed r s) ≤ length (handed t s)
longer r t s (hs, is) = let e = ap length is in let k = length-append (handed r s) hs in omega (arith, e, k)

pub onward_on : (a : SenderView) (r t u : ReceiverView) → Onward a r t → Onward a t u → Onward a r u
onward_on a r t u o b = record {
  reached = λ j h. b.reached j (o.reached j h);
  next = λ s. (let x = o.next s in let y = b.next s in omega (arith, x, y));
  more = λ s. ((o.more s).0 ++ (b.more s).0, (b.more s).1 ∙ ap (λ (hs : List Handed). hs ++ (b.more s).0) (o.more s).1 ∙ append_assoc (handed r s) (o.more s).0 (b.more s).0);
  anew = λ l k h. by_last l k (b.anew l k h);
  told = λ s n is. told s n (b.told s n is);
  noted = λ s k. b.noted s (o.noted s k);
  kept = λ s on. b.kept s (o.kept s on);
  back = λ s k. elim (b.back s k) [ inl mid ↦ elim (o.back s mid) [ inl first ↦ inl first | inr new ↦ inr (new.0, b.kept s new.1) ] | inr new ↦ inr new ];
}
  where
    later : (l : Lane) (k : ℕ) → IsHandedLater a.plan t l k → IsHandedLater a.plan r l k
    later l k (inl (kind, le)) = inl (kind, (let x = o.next l.stream in omega (arith, x, le)))
    later l k (inr (i, j, here, off)) = inr (i, j, here, λ reached. off (o.reached i reached))

    by_last : (l : Lane) (k : ℕ) → WasHanded a.plan t l k ⊎ IsHandedLater a.plan t l k → WasHanded a.plan r l k ⊎ IsHandedLater a.plan r l k
    by_last l k (inl before) = o.anew l k before
    by_last l k (inr new) = inr (later l k new)

    first : (s n : ℕ) → (r.resets.told s ≡ Some n) ⊎ IsPerformed a r t s n → (r.resets.told s ≡ Some n) ⊎ IsPerformed a r u s n
    first s n (inl before) = inl before
    first s n (inr p) = inr (record { asks = p.asks; anew = p.anew; noted = b.noted s p.noted; after = p.after; before = (let x = p.before in let y = longer t u s (b.more s) in omega (arith, x, y)) })

    told : (s n : ℕ) → (t.resets.told s ≡ Some n) ⊎ IsPerformed a t u s n → (r.resets.told s ≡ Some n) ⊎ IsPerformed a r u s n
    told s n (inl before) = first s n (o.told s n before)
    told s n (inr p) = inr (record { asks = p.asks; anew = λ k. p.anew (o.noted s k); noted = p.noted; before = p.before; after = (let x = p.after in let y = longer r t s (o.more s) in omega (arith, x, y)) })

-- ---- what calls leave of resets

ordered_resets : (f : Format) (s : ℕ) (x t : ReceiverView) → GivesOrdered f s x t → t.resets ≡ x.resets
ordered_resets f s x t (ms, k, due, is) = ap (λ (y : ReceiverView). y.resets) is

all_resets : (f : Format) (k : ℕ) (x t : ReceiverView) → GivesAll f k x t → t.resets ≡ x.resets
all_resets f zero x t is = ap (λ (y : ReceiverView). y.resets) is
all_resets f (suc k) x t (mid, first, last) = ordered_resets f k mid t last ∙ all_resets f k x mid first

gives_resets : (f : Format) (k : Kind) (y : Piece) (x t : ReceiverView) → Gives f k y x t → t.resets ≡ x.resets
gives_resets f Ordered y x t gives = ordered_resets f y.lane.stream x t gives
gives_resets f Unordered y x t (inl (z, zs, whole, is)) = ap (λ (v : ReceiverView). v.resets) is
gives_resets f Unordered y x t (inr (none, is)) = ap (λ (v : ReceiverView). v.resets) is

piece_resets : (f : Format) (r : ReceiverView) (x : Piece) (wire : ℕ) (o : PieceAnswer) (t : ReceiverView) → Leaves f r x wire o t → t.resets ≡ r.resets
piece_resets f r x wire Duplicate t is = ap (λ (v : ReceiverView). v.resets) is
piece_resets f r x wire Ahead t is = ap (λ (v : ReceiverView). v.resets) is
piece_resets f r x wire NoSuchStream t is = ap (λ (v : ReceiverView). v.resets) is
piece_resets f r x wire Passed t is = ap (λ (v : ReceiverView). v.resets) is
piece_resets f r x wire NoRoom t is = ap (λ (v : ReceiverView). v.resets) is
piece_resets f r x wire Kept t gives = gives_resets f x.lane.kind x _ t gives

forward_resets : (f : Format) (r : ReceiverView) (c : ℕ) (m : ForwardMeaning) (o : ForwardAnswer) (t : ReceiverView) → ForwardLeaves f r c m o t → t.resets ≡ r.resets
forward_resets f r c m OutOfDate t is = ap (λ (v : ReceiverView). v.resets) is
forward_resets f r c m Bad t is = ap (λ (v : ReceiverView). v.resets) is
forward_resets f r c m Moved t gives = all_resets f r.streams (forwarded f r c m) t gives

-- ---- the calls

module _ (f : Format) (n : ℕ) (a : SenderView) (u : Asked) (r : ReceiverView) (out back : List Dated) (d : Direction f n a u r out back) where
  abbrev here : Way
  here = way_of f n a u r d.bags

  good_here : Good here
  good_here = good_usual here d.usual

  counted : IsCounted a
  counted = counted_in f a d.reached

  -- moves led there, and recorded nothing that was reached
  by_moves : (t : ReceiverView) → IsReceived here t → t.resets ≡ r.resets → ((j : ℕ) → r.seen j ≡ false → t.seen j ≡ true → Reaches r j → ⊥) → Onward a r t
  by_moves t m resets records = record {
    reached = reaches_last here (with_receiver here t) m.leads;
    next = o.next;
    more = o.more;
    anew = λ l k h. elim (o.anew l k h) [ inl before ↦ inl before | inr new ↦ inr (later l k new) ];
    told = λ s k is. inl (subst (λ (x : Incoming). x.told s ≡ Some k) resets is);
    noted = λ s k. noted_received a r t s m.initial m.streams (ap (λ (x : Incoming). x.waited) resets) (ap (λ (x : Incoming). x.result) resets) (ap (λ (x : Incoming). x.taken) resets) k;
    kept = λ s on. subst (λ (x : Incoming). is_some (x.told s) ≡ true) (sym resets) on;
    back = λ s k. inl (noted_received a t r s (sym m.initial) (sym m.streams) (ap (λ (x : Incoming). x.waited) (sym resets)) (ap (λ (x : Incoming). x.result) (sym resets)) (ap (λ (x : Incoming). x.taken) (sym resets)) k);
  }
    where
      o : OnWay here (with_receiver here t)
      o = on_leads here (with_receiver here t) good_here d.idle m.leads

      later : (l : Lane) (k : ℕ) → IsHandedAnew a.plan r t l k → IsHandedLater a.plan r l k
      later l k (inl ordered) = inl ordered
      later l k (inr (i, j, entry, off, on)) = inr (i, j, entry, records i off on)

  pub piece_onward : (x : Dated) (p : PieceMeaning) (o : PieceAnswer) (t : ReceiverView) → Has out x → IsYoung x.date.own (length a.plan.entries) →
      (IsSaid f a.initial a r d.bags x.date.own x.chunk → IsPieceIn f a.initial a r d.bags.pieces x.date.own p) → PieceTaken f r p o t → Onward a r t
  piece_onward x p o t has young says taken =
      let is = says (d.said x has) in
      by_moves t (piece_taken_is_moves here p o t d.usual (joined_in f n a u r out back d) counted d.idle is.said
      (piece_index_near here good_here counted x.date.own young p is.said is.window) is.readable.based taken)
      (piece_resets f r (piece_at f r taken.c p) p.tsn o t taken.leaves) (piece_records f r p o t taken)

  pub skip_onward : (x : Dated) (m : ForwardMeaning) (o : ForwardAnswer) (t : ReceiverView) → Has out x → IsYoung x.date.own (length a.plan.entries) →
      (IsSaid f a.initial a r d.bags x.date.own x.chunk → IsForwardIn f a.initial a r d.bags.forwards x.date.own m) → ForwardTaken f r m o t → Onward a r t
  skip_onward x m o t has young says taken =
      let is = says (d.said x has) in
      by_moves t (forward_taken_is_moves here m o t d.usual (joined_in f n a u r out back d) counted d.idle is.said
      (point_near here good_here counted x.date.own young m is.said is.window) (λ y has_y. (is.readable y has_y).based) taken)
      (forward_resets f r taken.c m o t taken.leaves) (λ j off on. absurd (let same = ap (λ (g : ℕ → Bool). g j) (forward_records f r m o t taken) in cc))

  pub take_onward : (s : ℕ) (h : Option Handed) (t : ReceiverView) → TakeLeaves r s h t → Onward a r t
  take_onward s h t takes = by_moves t (take_is_moves here s h t d.idle takes) (resets h takes) (λ j off on. absurd (let same = ap (λ (g : ℕ → Bool). g j) (seen h takes) in cc))
    where
      resets : (h : Option Handed) → TakeLeaves r s h t → t.resets ≡ r.resets
      resets None (none, is) = ap (λ (v : ReceiverView). v.resets) is
      resets (Some h) (rest, there, is) = ap (λ (v : ReceiverView). v.resets) is

      seen : (h : Option Handed) → TakeLeaves r s h t → t.seen ≡ r.seen
      seen None (none, is) = ap (λ (v : ReceiverView). v.seen) is
      seen (Some h) (rest, there, is) = ap (λ (v : ReceiverView). v.seen) is

  -- ---- a request

  module _ (c : ℕ) (cumulative : IsCumulative r c) (m : ResetMeaning) (ask : IsAskedBy a.initial a m) where
    -- what it leaves to be reported
    told_then : (b : Bool) (o : ResetResult) (s k : ℕ) → (if b then with_answer (renumbered_by r (names r m.streams) (names_anew r m) o) m o else r).resets.told s ≡ Some k
        → (r.resets.told s ≡ Some k) ⊎ ((b ≡ true) × ((o ≡ Performed) × ((names_anew r m s ≡ true) × (k ≡ length (handed r s)))))
    told_then false o s k is = inl is
    told_then true Performed s k is = by_name (names_anew r m s) refl is
      where
        by_name : (x : Bool) → names_anew r m s ≡ x → (if x then Some (length (handed r s)) else r.resets.told s) ≡ Some k
            → (r.resets.told s ≡ Some k) ⊎ ((true ≡ true) × ((Performed ≡ Performed) × ((names_anew r m s ≡ true) × (k ≡ length (handed r s)))))
        by_name true on here = inr (refl, (refl, (on, sym (cc))))
        by_name false off here = inl here
    told_then true Denied s k is = inl is
    told_then true WrongStream s k is = inl is
    told_then true BadNumber s k is = inl is
    told_then true InProgress s k is = inl is

    -- what was to be reported is
    kept_then : (b : Bool) (o : ResetResult) (s : ℕ) → is_some (r.resets.told s) ≡ true →
        is_some ((if b then with_answer (renumbered_by r (names r m.streams) (names_anew r m) o) m o else r).resets.told s) ≡ true
    kept_then false o s on = on
    kept_then true Performed s on = by_name (names_anew r m s)
      where
        by_name : (x : Bool) → is_some (if x then Some (length (handed r s)) else r.resets.told s) ≡ true
        by_name true = refl
        by_name false = on
    kept_then true Denied s on = on
    kept_then true WrongStream s on = on
    kept_then true BadNumber s on = on
    kept_then true InProgress s on = on

    pub request_onward : (xs : List Typed) → Onward a r (with_answers (reset_taken r c m) xs)
    request_onward xs = record {
      reached = λ j h. subst (λ (x : ReceiverView). Reaches x j) (sym is.1) h;
      next = λ s. (let e = ap (λ (x : ReceiverView). x.next s) is.1 in omega (arith, e));
      more = λ s. ([], ap (λ (x : ReceiverView). handed x s) is.1 ∙ sym (append-nil (handed r s)));
      anew = λ l k h. inl (subst (λ (x : ReceiverView). WasHanded a.plan x l k) is.1 h);
      told = λ s k there. by s k (told_then (is_in_turn r m.number) (reset_answer r c m) s k there);
      noted = stays_noted f n a u r out back d c cumulative m ask xs;
      kept = λ s on. kept_then (is_in_turn r m.number) (reset_answer r c m) s on;
      back = λ s k. elim (noted_back f n a u r out back d c cumulative m ask xs s k) [
        | inl before ↦ inl before
        | inr told ↦ inr (record { request = k.request; waits = k.waits; named = k.named }, told)
      ];
    }
      where
        is : IsResetIn r (with_answers (reset_taken r c m) xs)
        is = waiting_in r (reset_taken r c m) xs (taken_in r m (names r m.streams) (names_anew r m) (reset_answer r c m))

        by : (s k : ℕ) → (r.resets.told s ≡ Some k) ⊎ ((is_in_turn r m.number ≡ true) × ((reset_answer r c m ≡ Performed) × ((names_anew r m s ≡ true) × (k ≡ length (handed r s)))))
            → (r.resets.told s ≡ Some k) ⊎ IsPerformed a r (with_answers (reset_taken r c m) xs) s k
        by s k (inl before) = inl before
        by s k (inr (on, (done, (anew, count)))) =
            let t = turn f n a u r out back d c cumulative m ask on in
            let listed = sym (named f n a u r out back d c cumulative m ask on done s) ∙ (and_parts (names r m.streams s) (not (was_performed r m)) anew).0 in
            inr (record {
              asks = record { request = t.request; waits = t.waits; named = listed };
              anew = not_noted f n a u r out back d c cumulative m ask on s anew;
              noted = noted_performed f n a u r out back d c cumulative m ask on done xs s listed;
              after = omega (arith, count);
              before = (let e = ap (λ (x : ReceiverView). length (handed x s)) is.1 in omega (arith, e, count));
            })
