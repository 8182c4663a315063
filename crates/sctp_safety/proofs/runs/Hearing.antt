-- What a receiver's calls do to its direction: what arrives, what its user takes, and what it says back.
use Rattle.std.proofs.Common.{◌≡◌, ℕ, zero, suc, ap, None, Some, ◌+◌, ◌≤◌, ◌⊎◌, List, [], ◌∷◌, ◌++◌, length, Option, inl, inr, refl, sym, subst, arith, ◌∙◌}
use Rattle.sctp_model.specs.numbers.Limits.{WINDOW}
use Rattle.sctp_model.specs.numbers.Lists.{Has}
use Rattle.sctp_model.specs.numbers.Serial.{tsn}
use Rattle.sctp_model.specs.wire.Chunk.{PieceMeaning, SackMeaning, ForwardMeaning, Sack, Shutdown}
use Rattle.sctp_model.specs.messages.Format.{Format, Kind, Ordered, Unordered}
use Rattle.sctp_model.specs.messages.Pieces.{Piece}
use Rattle.sctp_model.specs.receiver.Reading.{piece_at}
use Rattle.sctp_model.specs.receiver.Receiving.{recorded, GivesOrdered, Gives, GivesAll}
use Rattle.sctp_model.specs.sender.SenderView.{SenderView}
use Rattle.sctp_model.specs.receiver.ReceiverView.{Handed, ReceiverView, Reaches, IsCumulative}
use Rattle.sctp_model.specs.world.Calls.{Asked}
use Rattle.sctp_model.specs.receiver.PieceTaken.{PieceAnswer, Duplicate, Ahead, NoSuchStream, Passed, NoRoom, Kept, Leaves, PieceTaken}
use Rattle.sctp_model.specs.receiver.ForwardTaken.{ForwardAnswer, OutOfDate, Bad, Moved, forwarded, ForwardLeaves, ForwardTaken}
use Rattle.sctp_model.specs.receiver.SackMade.{IsSack, TakeLeaves}
use Rattle.sctp_safety.specs.Way.{Way, Put_shutdown, Note_duplicates, with_receiver}
use Rattle.sctp_safety.specs.Exact.{Leads}
use Rattle.sctp_safety.specs.ReceiverLaws.{IsCounted, IsReceived, IsSackPut}
use Rattle.sctp_safety.proofs.lists.Basics.{Has-cases}
use Rattle.sctp_safety.proofs.moves.Built.{shutdown_is_allowed}
use Rattle.sctp_safety.proofs.moves.Taken.{leads_by}
use Rattle.sctp_safety.proofs.moves.UsualLemmas.{good_usual, usual_on}
use Rattle.sctp_safety.proofs.moves.Facts.{Good}
use Rattle.sctp_safety.proofs.receiving.ReadBounds.{cum_within}
use Rattle.sctp_safety.proofs.receiving.PieceReads.{piece_taken_is_moves}
use Rattle.sctp_safety.proofs.receiving.ForwardReads.{forward_taken_is_moves}
use Rattle.sctp_safety.proofs.receiving.SackMade.{sack_made_is_moves, take_is_moves}
use Rattle.sctp_safety.proofs.runs.Dates.{Date, IsYoung, Dated, dated}
use Rattle.sctp_safety.proofs.runs.Nearness.{piece_index_near, point_near}
use Rattle.sctp_safety.proofs.runs.Direction.{Bags, way_of, IsPieceIn, IsForwardIn, IsSaid, IsSaidBack, Direction, joined_in, counted_in, IsMore, more_same, said_later, said_back_later}
use Rattle.sctp_safety.proofs.runs.ResetFacts.{readable_later, answered_later, step_received}
use Rattle.sctp_safety.proofs.runs.ReachesLast.{reaches_last}

module _ (f : Format) (n : ℕ) (a : SenderView) (u : Asked) (r : ReceiverView) (out back : List Dated) (d : Direction f n a u r out back) where
  abbrev here : Way
  here = way_of f n a u r d.bags

  good_here : Good here
  good_here = good_usual here d.usual

  counted : IsCounted a
  counted = counted_in f a d.reached

  -- The receiver moved, and knows of resets what it knew.
  received : (t : ReceiverView) → IsReceived here t → t.resets ≡ r.resets → Direction f n a u t out back
  received t m same = record {
    bags = d.bags;
    usual = usual_on here (way_of f n a u t d.bags) d.usual m.leads
        (record { ends = d.usual.order.ends; marked = d.usual.order.marked; tickets = d.usual.order.tickets });
    reached = d.reached;
    idle = m.idle;
    initial = m.initial ∙ d.initial;
    outbound = d.outbound;
    inbound = m.streams ∙ d.inbound;
    step = step_received f a r t same m.initial m.streams more d.step;
    said = λ x has. said_later f a.initial a a r t d.bags d.bags x.date.own x.chunk (λ i e h. h) (more_same d.bags)
        (λ base j l k. readable_later f a a r t base j l k refl (omega arith) same more) (λ q h. h) (d.said x has);
    said_back = λ x has. subst (λ (i : ℕ). IsSaidBack i t d.bags x.date.there x.chunk) (sym m.initial)
        (said_back_later r.initial r t d.bags d.bags x.date.there x.chunk (more_same d.bags) (λ y. answered_later r.initial r t y same) (d.said_back x has));
  }
    where
      more : (j : ℕ) → Reaches r j → Reaches t j
      more = reaches_last here (with_receiver here t) m.leads

  -- ---- what calls leave of resets

  ordered_resets : (s : ℕ) (x t : ReceiverView) → GivesOrdered f s x t → t.resets ≡ x.resets
  ordered_resets s x t (ms, k, due, is) = ap (λ (y : ReceiverView). y.resets) is

  all_resets : (k : ℕ) (x t : ReceiverView) → GivesAll f k x t → t.resets ≡ x.resets
  all_resets zero x t is = ap (λ (y : ReceiverView). y.resets) is
  all_resets (suc k) x t (mid, first, last) = ordered_resets k mid t last ∙ all_resets k x mid first

  gives_resets : (k : Kind) (y : Piece) (x t : ReceiverView) → Gives f k y x t → t.resets ≡ x.resets
  gives_resets Ordered y x t gives = ordered_resets y.lane.stream x t gives
  gives_resets Unordered y x t (inl (z, zs, whole, is)) = ap (λ (v : ReceiverView). v.resets) is
  gives_resets Unordered y x t (inr (none, is)) = ap (λ (v : ReceiverView). v.resets) is

  piece_resets : (p : PieceMeaning) (o : PieceAnswer) (t : ReceiverView) → PieceTaken f r p o t → t.resets ≡ r.resets
  piece_resets p o t taken = go o taken.leaves
    where
      go : (o : PieceAnswer) → Leaves f r (piece_at f r taken.c p) p.tsn o t → t.resets ≡ r.resets
      go Duplicate is = ap (λ (v : ReceiverView). v.resets) is
      go Ahead is = ap (λ (v : ReceiverView). v.resets) is
      go NoSuchStream is = ap (λ (v : ReceiverView). v.resets) is
      go Passed is = ap (λ (v : ReceiverView). v.resets) is
      go NoRoom is = ap (λ (v : ReceiverView). v.resets) is
      go Kept gives = gives_resets (piece_at f r taken.c p).lane.kind (piece_at f r taken.c p) (record (recorded r (piece_at f r taken.c p)) { kept = piece_at f r taken.c p ∷ r.kept }) t gives

  forward_resets : (m : ForwardMeaning) (o : ForwardAnswer) (t : ReceiverView) → ForwardTaken f r m o t → t.resets ≡ r.resets
  forward_resets m o t taken = go o taken.leaves
    where
      go : (o : ForwardAnswer) → ForwardLeaves f r taken.c m o t → t.resets ≡ r.resets
      go OutOfDate is = ap (λ (v : ReceiverView). v.resets) is
      go Bad is = ap (λ (v : ReceiverView). v.resets) is
      go Moved gives = all_resets r.streams (forwarded f r taken.c m) t gives

  take_resets : (s : ℕ) (h : Option Handed) (t : ReceiverView) → TakeLeaves r s h t → t.resets ≡ r.resets
  take_resets s None t (none, is) = ap (λ (v : ReceiverView). v.resets) is
  take_resets s (Some h) t (rest, there, is) = ap (λ (v : ReceiverView). v.resets) is

  -- a chunk with data that lies between the endpoints, and arrives while it is young
  pub after_piece : (x : Dated) (p : PieceMeaning) (o : PieceAnswer) (t : ReceiverView) → Has out x → IsYoung x.date.own (length a.plan.entries) →
      (IsSaid f a.initial a r d.bags x.date.own x.chunk → IsPieceIn f a.initial a r d.bags.pieces x.date.own p) → PieceTaken f r p o t → Direction f n a u t out back
  after_piece x p o t has young says taken =
      let is = says (d.said x has) in
      received t (piece_taken_is_moves here p o t d.usual (joined_in f n a u r out back d) counted d.idle is.said
      (piece_index_near here good_here counted x.date.own young p is.said is.window) is.readable.based taken) (piece_resets p o t taken)

  -- a FORWARD that does
  pub after_skip : (x : Dated) (m : ForwardMeaning) (o : ForwardAnswer) (t : ReceiverView) → Has out x → IsYoung x.date.own (length a.plan.entries) →
      (IsSaid f a.initial a r d.bags x.date.own x.chunk → IsForwardIn f a.initial a r d.bags.forwards x.date.own m) → ForwardTaken f r m o t → Direction f n a u t out back
  after_skip x m o t has young says taken =
      let is = says (d.said x has) in
      received t (forward_taken_is_moves here m o t d.usual (joined_in f n a u r out back d) counted d.idle is.said
      (point_near here good_here counted x.date.own young m is.said is.window) (λ y has_y. (is.readable y has_y).based) taken) (forward_resets m o t taken)

  pub after_take : (s : ℕ) (h : Option Handed) (t : ReceiverView) → TakeLeaves r s h t → Direction f n a u t out back
  after_take s h t takes = received t (take_is_moves here s h t d.idle takes) (take_resets s h t takes)

  -- what arrived again is noted, or forgotten
  pub after_note : (ds : List ℕ) → Direction f n a u (record r { duplicates = ds }) out back
  after_note ds = received (record r { duplicates = ds }) (record {
    leads = leads_by here (with_receiver here (record r { duplicates = ds })) (Note_duplicates (record r { duplicates = ds })) (refl, refl);
    idle = record { ordered = λ s. record { passed = (d.idle.ordered s).passed; none = (d.idle.ordered s).none }; unordered = d.idle.unordered };
    initial = refl;
    streams = refl;
    buffer = refl;
  }) refl

  -- ---- what it says

  -- a chunk that is put between the endpoints, and one more that the receiver's endpoint built
  pub put_back : (c : Bags) → IsMore d.bags c → Leads here (way_of f n a u r c) → (x : Dated) → IsSaidBack r.initial r c x.date.there x.chunk → Direction f n a u r out (back ++ x ∷ [])
  put_back c more leads x says = record {
    bags = c;
    usual = usual_on here (way_of f n a u r c) d.usual leads
        (record { ends = d.usual.order.ends; marked = d.usual.order.marked; tickets = d.usual.order.tickets });
    reached = d.reached;
    idle = d.idle;
    initial = d.initial;
    outbound = d.outbound;
    inbound = d.inbound;
    step = d.step;
    said = λ y has. said_later f a.initial a a r r d.bags c y.date.own y.chunk (λ i e h. h) more (λ base j l k h. h) (λ q h. h) (d.said y has);
    said_back = λ y has. which y (Has-cases back (x ∷ []) y has);
  }
    where
      which : (y : Dated) → Has back y ⊎ Has (x ∷ []) y → IsSaidBack r.initial r c y.date.there y.chunk
      which y (inl h) = said_back_later r.initial r r d.bags c y.date.there y.chunk more (λ z k. k) (d.said_back y h)
      which y (inr (inl e)) = subst (λ (z : Dated). IsSaidBack r.initial r c z.date.there z.chunk) e says
      which y (inr (inr h)) = absurd h

  -- the cumulative index is in the window of what the sender has assigned
  cumulative_window : (c since : ℕ) → IsCumulative r c → since ≤ length a.plan.entries → since ≤ c + WINDOW
  cumulative_window c since cumulative by_then =
      let low = cum_within here good_here c cumulative in
      let ahead = counted.window in
      omega (arith, low, ahead, by_then)

  pub after_sack_made : (most : ℕ) (s : SackMeaning) (k : Date) → k.there ≤ length a.plan.entries → IsSack most r s → Direction f n a u r out (back ++ dated k (Sack s) ∷ [])
  after_sack_made most s k by_then made = go (sack_made_is_moves here most s made)
    where
      go : IsSackPut here s → Direction f n a u r out (back ++ dated k (Sack s) ∷ [])
      go p = put_back (record d.bags { sacks = p.sack ∷ d.bags.sacks })
          (record { pieces = λ x h. h; forwards = λ x h. h; sacks = λ x h. inr h; shutdowns = λ x h. h }) p.leads (dated k (Sack s))
          (p.sack, inl refl, p.of, cumulative_window p.sack.cum k.there p.cumulative by_then)

  pub after_shutdown_made : (c : ℕ) (k : Date) → k.there ≤ length a.plan.entries → IsCumulative r c → Direction f n a u r out (back ++ dated k (Shutdown (tsn r.initial c)) ∷ [])
  after_shutdown_made c k by_then cumulative =
      put_back (record d.bags { shutdowns = c ∷ d.bags.shutdowns })
      (record { pieces = λ x h. h; forwards = λ x h. h; sacks = λ x h. h; shutdowns = λ x h. inr h })
      (leads_by here (way_of f n a u r (record d.bags { shutdowns = c ∷ d.bags.shutdowns })) (Put_shutdown c) (shutdown_is_allowed here c cumulative))
      (dated k (Shutdown (tsn r.initial c))) (c, inl refl, refl, cumulative_window c k.there cumulative by_then)
