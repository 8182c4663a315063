-- One wish after the other: the packet and the stock after some steps, and when none may go any more.
use Rattle.std.proofs.Common.{◌≡◌, ℕ, ◌+◌, ◌*◌, ◌-◌, ◌<◌, ◌≤◌, List, [], ◌∷◌, ◌++◌, length, map, true, Some, None, refl, sym, ap, ◌∙◌, arith, append-nil, append_assoc, length-append}
use Rattle.std.proofs.lemmas.List.{map-append}
use Rattle.std.specs.Vec.{vec_len, vec_capacity}
use Rattle.sctp_model.specs.messages.Format.{Format, Plain, Interleaved}
use Rattle.sctp_model.specs.wire.Chunk.{ChunkMeaning}
use Rattle.sctp_model.specs.sender.SenderView.{SenderView}
use Rattle.sctp_model.specs.sender.Filling.{Wish, next_wish, chunk_of, room_of, goes, gone, Follows, newly_numbered}
use Rattle.sctp_model.specs.sender.Reached.{IsReached}
use Rattle.sctp_model.proofs.sender.FillLaws.{goes_parts, room_fits, room_after, follows_more, stopped_is_fill}
use Rattle.sctp_packet.specs.Draft.{Draft as PacketDraft, room_in, with_chunks}
use Rattle.sctp_send.specs.SenderKept.{Kept}
use Rattle.sctp_send.specs.SenderStands.{Keeps}
use Rattle.sctp_send.specs.inner.Stocking.{numbers_of, stocked, IsPut, AllPut}
use Rattle.sctp_send.specs.FillAnswers.{sendings_of}
use Rattle.sctp_send.specs.inner.Sending.{sent_more}
use Rattle.sctp_send.specs.inner.Entering.{IsSized}
use Rattle.sctp_send.specs.declared.fill.sendings.Sendings.{Sendings}
use Rattle.sctp_send.specs.declared.stock.Stock.{Stock}
use Rattle.sctp_send.proofs.fill.RoomLemmas.{room_more}
use Rattle.sctp_send.proofs.fill.NewlyLemmas.{newly_self, newly_more}
use Rattle.sctp_send.proofs.fill.SendingLemmas.{one_sent}

-- ---- chunks behind chunks

pub chunks_joined : (p : PacketDraft) (xs ys : List ChunkMeaning) → with_chunks (with_chunks p xs) ys ≡ with_chunks p (xs ++ ys)
chunks_joined p xs ys = ap (λ (ms : List ChunkMeaning). record p { chunks = ms }) (append_assoc p.chunks xs ys)

pub no_chunks : (p : PacketDraft) → with_chunks p [] ≡ p
no_chunks p = ap (λ (ms : List ChunkMeaning). record p { chunks = ms }) (append-nil p.chunks)

-- the room that is left in the packet is what the wishes leave
room_left : (f : Format) (p : PacketDraft) (ws : List Wish) → room_in (with_chunks p (map (chunk_of f) ws)) ≡ room_after f (room_in p) ws
room_left f p [] = ap room_in (no_chunks p)
room_left f p (w ∷ ws) =
    ap room_in (sym (chunks_joined p (chunk_of f w ∷ []) (map (chunk_of f) ws))) ∙ room_left f (with_chunks p (chunk_of f w ∷ [])) ws ∙ ap (λ (n : ℕ). room_after f n ws) (room_more p (chunk_of f w))

-- each wish takes a header's room at least
room_least : (f : Format) (w : Wish) → 16 ≤ room_of f w
room_least Plain w = omega arith
room_least Interleaved w = omega arith

room_used : (f : Format) (v u : SenderView) (room : ℕ) (ws : List Wish) → Follows f v room ws u → room_after f room ws + 16 * length ws ≤ room
room_used f v u room [] is = omega arith
room_used f v u room (w ∷ ws) is =
    let rest = room_used f (gone w) u (room - room_of f w) ws is.1 in
    let some = room_least f w in
    let fits = room_fits f room w (goes_parts f room v w is.0).1 in
    omega (arith, rest, some, fits)

-- ---- step by step

-- So many wishes went: their chunks are in the packet and counted, and the stock keeps what they leave.
pub record IsSoFar (f : Format) (s : Kept) (v : SenderView) (p now : PacketDraft) (d : Stock) (steps : ℕ) (r : Sendings) : Type 0 where
  pub wishes : List Wish
  pub view : SenderView
  pub from : IsReached f v
  pub follows : Follows f v (room_in p) wishes view
  pub chunks : now ≡ with_chunks p (map (chunk_of f) wishes)
  pub keeps : Keeps f (stocked s d) view
  pub told : numbers_of d.tickets.items ≡ newly_numbered v view
  pub many : length wishes ≡ steps
  pub counts : r ≡ sendings_of wishes

abbrev pub loop_init : (f : Format) (s : Kept) (v : SenderView) (p : PacketDraft) (d : Stock) (r : Sendings) → Keeps f (stocked s d) v → d.tickets.items ≡ [] → r ≡ sendings_of [] → IsSoFar f s v p p d 0 r
loop_init f s v p d r k none fresh = record {
  wishes = [];
  view = v;
  from = k.reached;
  follows = refl;
  chunks = sym (no_chunks p);
  keeps = k;
  told = ap numbers_of none ∙ sym (newly_self v);
  many = refl;
  counts = fresh;
}

-- the room at a step
pub room_now : (f : Format) (s : Kept) (v : SenderView) (p now : PacketDraft) (d : Stock) (steps : ℕ) (r : Sendings) → (x : IsSoFar f s v p now d steps r) → room_in now ≡ room_after f (room_in p) x.wishes
room_now f s v p now d steps r x = ap room_in x.chunks ∙ room_left f p x.wishes

-- chunks behind those that are there
pub chunks_more : (f : Format) (p now later : PacketDraft) (ws xs : List Wish) → now ≡ with_chunks p (map (chunk_of f) ws) → later ≡ with_chunks now (map (chunk_of f) xs) → later ≡ with_chunks p (map (chunk_of f) (ws ++ xs))
chunks_more f p now later ws xs here then =
    then ∙ ap (λ (y : PacketDraft). with_chunks y (map (chunk_of f) xs)) here ∙ chunks_joined p (map (chunk_of f) ws) (map (chunk_of f) xs) ∙ ap (with_chunks p) (sym (map-append (chunk_of f) ws xs))

abbrev pub loop_more : (f : Format) (s : Kept) (v : SenderView) (p now later : PacketDraft) (old new : Stock) (steps : ℕ) (r q : Sendings) → (x : IsSoFar f s v p now old steps r) → steps < 65536 → IsPut f s x.view now later old new
    → ((w : Wish) → next_wish f x.view ≡ Some w → q ≡ sent_more (w.view.sent w.index) r) → IsSoFar f s v p later new (steps + 1) q
loop_more f s v p now later old new steps r q x few put counted =
    let next : goes f (room_after f (room_in p) x.wishes) x.view ≡ Some put.wish = ap (λ (n : ℕ). goes f n x.view) (sym (room_now f s v p now old steps r x)) ∙ put.next in
    record {
      wishes = x.wishes ++ put.wish ∷ [];
      view = gone put.wish;
      from = x.from;
      follows = follows_more f v x.view (room_in p) x.wishes put.wish x.follows next;
      chunks = chunks_more f p now later x.wishes (put.wish ∷ []) x.chunks put.chunk;
      keeps = put.keeps;
      told = put.told ∙ ap (λ (ts : List ℕ). ts ++ newly_numbered x.view (gone put.wish)) x.told ∙ sym (newly_more f v x.view (room_in p) x.wishes put.wish x.from x.follows next);
      many = let long = length-append x.wishes (put.wish ∷ []) in let before = x.many in omega (arith, long, before);
      counts =
          let many = x.many in
          let wish = (goes_parts f (room_in now) x.view put.wish put.next).0 in
          counted put.wish wish ∙ ap (sent_more (put.wish.view.sent put.wish.index)) x.counts ∙ sym (one_sent x.wishes put.wish (omega (arith, few, many)));
    }

-- What holds at each step: the packet has its whole memory, the stock has parts of one size, each step takes room for one ticket at most, and so many
-- wishes went.
pub record IsFilledSoFar (f : Format) (s : Kept) (p now : PacketDraft) (old new : Stock) (steps : ℕ) (r : Sendings) : Type 0 where
  pub reserved : now.space ≡ true
  pub sized : IsSized f s.fragment new
  pub left : vec_capacity old.tickets + vec_len new.tickets ≤ vec_capacity new.tickets + steps
  pub so_far : (v : SenderView) → Keeps f (stocked s old) v → IsSoFar f s v p now new steps r

-- ---- the end

-- the next wish may not go
pub loop_stopped : (f : Format) (s : Kept) (v : SenderView) (p now : PacketDraft) (d : Stock) (steps : ℕ) (r : Sendings) → (x : IsSoFar f s v p now d steps r) → goes f (room_in now) x.view ≡ None → AllPut f s v p now d r
loop_stopped f s v p now d steps r x stop =
    let none : goes f (room_after f (room_in p) x.wishes) x.view ≡ None = ap (λ (m : ℕ). goes f m x.view) (sym (room_now f s v p now d steps r x)) ∙ stop in
    record {
      wishes = x.wishes;
      view = x.view;
      fill = stopped_is_fill f v x.view (room_in p) x.wishes x.follows none;
      chunks = x.chunks;
      keeps = x.keeps;
      told = x.told;
      counts = x.counts;
    }

-- no more go than there is room for
pub loop_ends : (f : Format) (s : Kept) (v : SenderView) (p now : PacketDraft) (d : Stock) (steps : ℕ) (r : Sendings) → IsSoFar f s v p now d steps r → room_in p < 16 * steps → ⊥
loop_ends f s v p now d steps r x past =
    let used = room_used f v x.view (room_in p) x.wishes x.follows in
    let count = x.many in
    omega (arith, used, count, past)
