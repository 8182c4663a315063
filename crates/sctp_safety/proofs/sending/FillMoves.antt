-- What goes into a packet goes out by moves: a fragment takes its index if it has none yet, its chunk is put between the endpoints, and it counts as sent.
use Rattle.std.proofs.Common.{◌≡◌, ℕ, suc, ◌≤◌, arith, le_refl, if◌then◌else◌, ◌-◌, not, true, false, Bool, List, [], ◌∷◌, Some, inl, inr, refl, sym, subst, ◌∙◌}
use Rattle.std.proofs.lemmas.Bool.{and_parts}
use Rattle.sctp_model.specs.numbers.Lists.{Has}
use Rattle.sctp_model.specs.messages.Format.{Lane}
use Rattle.sctp_model.specs.messages.Plan.{Message, Entry, Part, End, entry_at, message_at}
use Rattle.sctp_model.specs.messages.Pieces.{Piece, piece_of}
use Rattle.sctp_model.specs.sender.SenderView.{SenderView}
use Rattle.sctp_model.specs.sender.Entries.{is_wanted, is_unsent}
use Rattle.sctp_model.specs.sender.Filling.{Wish, standing, newcomer, Follows, repeats_then, with_sent, gone, next_wish, room_of}
use Rattle.sctp_model.proofs.sender.WordLaws.{some_is}
use Rattle.sctp_model.proofs.sender.WishCases.{assigned_cases, IsWished, Repeated, Unsent, New, wished_ways}
use Rattle.sctp_model.proofs.sender.FillLaws.{goes_parts}
use Rattle.sctp_safety.specs.Way.{Way, Put_piece, with_sender}
use Rattle.sctp_safety.specs.SenderLaws.{HasPart, IsSenderOrderly, IsMoved, IsPut, IsFilled, FillIsMoves}
use Rattle.sctp_safety.proofs.lists.Basics.{at_cases}
use Rattle.sctp_safety.proofs.moves.Facts.{Good}
use Rattle.sctp_safety.proofs.moves.Taken.{leads_on, leads_by}
use Rattle.sctp_safety.proofs.sending.AssignMoves.{assigns}
use Rattle.sctp_safety.proofs.moves.UsualLemmas.{leads_good, good_usual, moved_on, nothing_moved, retuned}

-- ---- a wish

-- what goes out was repeated as often as before, or once more
pub sent_repeats : (v : SenderView) (i j : ℕ) → v.repeats j ≤ (with_sent v i).repeats j
sent_repeats v i j = at_cases (λ (n : ℕ). v.repeats j ≤ n) v.repeats i (repeats_then v i) j (λ same. subst (λ (k : ℕ). v.repeats k ≤ repeats_then v i) (sym same) (by_sent (v.sent i))) (λ other. le_refl (v.repeats j))
  where
    by_sent : (b : Bool) → v.repeats i ≤ (if b then suc (v.repeats i) else v.repeats i)
    by_sent true = omega arith
    by_sent false = le_refl (v.repeats i)

-- what one wish does: its data chunk is put to the others between the endpoints
record Goes (w : Way) (x : Wish) : Type 0 where
  piece : Piece
  moved : IsMoved w (record w { sender = gone x; pieces = piece ∷ w.pieces })
  same : x.view.initial ≡ w.sender.initial
  puts : IsPut w.format (piece ∷ w.pieces) x

-- moves lead to its view, if a fragment of a message is at its index
sent_on : (w : Way) (x : Wish) (l : Lane) (n k : ℕ) (m : Message) → IsMoved w (with_sender w x.view) → entry_at x.view.plan x.index ≡ Some (Part l n k) → message_at x.view.plan l n ≡ Some m → Goes w x
sent_on w x l n k m moved here named = record {
  piece = p;
  moved = moved_on w (with_sender w x.view) out moved (record {
    leads = leads_on (with_sender w x.view) put out
        (leads_by (with_sender w x.view) put (Put_piece x.index) (l, n, k, m, here, named, refl))
        (retuned put (gone x) refl refl refl refl refl (sent_repeats x.view x.index));
    order = record {
      ends = moved.order.ends;
      marked = λ j. at_cases (λ (b : Bool). b ≡ true → HasPart x.view.plan j) x.view.marked x.index false j (λ same on. absurd (cc)) (λ other on. moved.order.marked j on);
      tickets = moved.order.tickets;
    };
    constants = record { initial = refl; streams = refl; fragment = refl; partial = refl };
  });
  same = moved.constants.initial;
  puts = record { lane = l; number = n; fragment = k; message = m; here = here; named = named; put = inl refl };
}
  where
    p : Piece
    p = piece_of w.format x.index l n k m

    put : Way
    put = record (with_sender w x.view) { pieces = p ∷ w.pieces }

    out : Way
    out = record w { sender = gone x; pieces = p ∷ w.pieces }

-- a fragment that has its index
stands : (w : Way) (i : ℕ) → Good w → IsSenderOrderly w → HasPart w.sender.plan i → Goes w (standing w.sender i)
stands w i g order (l, n, k, here) = let m = g.arranged.within i l n k here in sent_on w (standing w.sender i) l n k m.0 (nothing_moved w order) here m.1

-- what is wanted is a fragment: the message of an end mark was given up
pub wanted_part : (w : Way) → Good w → (i : ℕ) (e : Entry) → entry_at w.sender.plan i ≡ Some e → is_wanted w.sender i e ≡ true → HasPart w.sender.plan i
wanted_part w g i (Part l n k) here wanted = (l, n, k, here)
wanted_part w g i (End l n) here wanted =
    let kept : not (w.sender.abandoned l n) ≡ true = (and_parts (not (w.sender.covered i)) (not (w.sender.abandoned l n)) wanted).1 in
    let lost : not true ≡ true = subst (λ (b : Bool). not b ≡ true) (g.sound.ended i l n here) kept in
    absurd (cc)

wish_goes : (w : Way) (x : Wish) → Good w → IsSenderOrderly w → next_wish w.format w.sender ≡ Some x → Goes w x
wish_goes w x g order next = by_way x (wished_ways w.format w.sender x next)
  where
    by_way : (y : Wish) → IsWished w.format w.sender y → Goes w y
    by_way _ (Repeated i low) = stands w i g order (order.marked i low.passes)
    by_way _ (Unsent i marks low) =
        let there = some_is (is_unsent w.sender i) (entry_at w.sender.plan i) low.passes in
        stands w i g order (wanted_part w g i there.0 there.1 (and_parts (not (w.sender.sent i)) (is_wanted w.sender i there.0) there.2).1)
    by_way _ (New u marks unsent new) =
        let a = assigns w w.format u g order refl (assigned_cases w.format w.sender u new) in
        sent_on w (newcomer w.sender u) a.lane a.number a.fragment a.message a.moved a.here a.named

-- ---- FILL

-- one wish, and then the others
then_filled : (w : Way) (x : Wish) (xs : List Wish) (u : SenderView) (r : Goes w x) → IsFilled (record w { sender = gone x; pieces = r.piece ∷ w.pieces }) xs u → IsFilled w (x ∷ xs) u
then_filled w x xs u r m = record {
  pieces = m.pieces;
  moved = moved_on w (record w { sender = gone x; pieces = r.piece ∷ w.pieces }) (record w { sender = u; pieces = m.pieces }) r.moved m.moved;
  same = same;
  puts = puts;
  still = λ y has. m.still y (inr has);
}
  where
    same : (z : Wish) → Has (x ∷ xs) z → z.view.initial ≡ w.sender.initial
    same z (inl this) = subst (λ (y : Wish). y.view.initial ≡ w.sender.initial) this r.same
    same z (inr later) = m.same z later ∙ r.moved.constants.initial

    put_still : IsPut w.format m.pieces x
    put_still = let y = r.puts in record {
      lane = y.lane;
      number = y.number;
      fragment = y.fragment;
      message = y.message;
      here = y.here;
      named = y.named;
      put = m.still (piece_of w.format x.index y.lane y.number y.fragment y.message) y.put;
    }

    puts : (z : Wish) → Has (x ∷ xs) z → IsPut w.format m.pieces z
    puts z (inl this) = subst (IsPut w.format m.pieces) this put_still
    puts z (inr later) = m.puts z later

follows_filled : (w : Way) (room : ℕ) (xs : List Wish) (u : SenderView) → Good w → IsSenderOrderly w → Follows w.format w.sender room xs u → IsFilled w xs u
follows_filled w room [] u g order same =
    subst (IsFilled w []) (sym same) (record { pieces = w.pieces; moved = nothing_moved w order; same = λ x has. absurd has; puts = λ x has. absurd has; still = λ y has. has })
follows_filled w room (x ∷ xs) u g order (first, rest) =
    let r = wish_goes w x g order (goes_parts w.format room w.sender x first).0 in
    let v : Way = record w { sender = gone x; pieces = r.piece ∷ w.pieces } in
    then_filled w x xs u r (follows_filled v (room - room_of w.format x) xs u (leads_good w v g r.moved.leads) r.moved.order rest)

pub fill_is_moves : FillIsMoves
fill_is_moves w room xs u usual fill = follows_filled w room xs u (good_usual w usual) usual.order fill.follows
