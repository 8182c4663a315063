-- The responses that wait for a packet, and whether one more fits it.
use Rattle.std.proofs.Common.{◌≡◌, ℕ, ◌+◌, ◌-◌, ◌*◌, ◌/◌, ◌<◌, ◌≤◌, true, false, nat_le, List, [], ◌∷◌, ◌++◌, length, map, replicate, Some, refl, sym, ◌∙◌, ap, subst, arith}
use Rattle.std.proofs.lemmas.Bool.Decides.{nat_tests}
use Rattle.std.proofs.lemmas.List.{map-append, length-append}
use Rattle.sctp_model.specs.numbers.Numbers.{u16_bytes, u32_bytes}
use Rattle.sctp_model.specs.messages.Format.{Format}
use Rattle.sctp_model.specs.wire.Typed.{Typed, typed_bytes, filled, written_typed}
use Rattle.sctp_model.specs.wire.Packet.{size_of_packet}
use Rattle.sctp_model.specs.wire.Reconfig.{reconfig_chunk}
use Rattle.sctp_model.specs.receiver.Incoming.{Incoming}
use Rattle.sctp_model.specs.receiver.ReceiverView.{Handed}
use Rattle.sctp_recv.specs.declared.restart.ResetResponse.{ResetResponse}
use Rattle.sctp_recv.specs.ResetsKept.{ResetsKept}
use Rattle.sctp_recv.specs.Requests.{answers_within}
use Rattle.sctp_recv.specs.Resets.{response_of, KeepsResets}

-- ---- sizes

response_size : (x : ResetResponse) → length (typed_bytes (response_of x)) ≡ 12
unfolding u16_bytes u32_bytes
response_size x = refl

filled_size : (front : List ℕ) → length front ≡ 12 → length (filled front) ≡ 12
filled_size front is = length-append front (replicate ((length front + 3) / 4 * 4 - length front) 0) ∙ (λ i. is i + length (replicate {A = ℕ} ((is i + 3) / 4 * 4 - is i) 0))

written_size : (xs : List ResetResponse) → length (written_typed (map response_of xs)) ≡ 12 * length xs
written_size [] = refl
written_size (x ∷ []) = response_size x
written_size (x ∷ y ∷ ys) =
    let here = filled_size (typed_bytes (response_of x)) (response_size x) in
    let more = written_size (y ∷ ys) in
    let both = length-append (filled (typed_bytes (response_of x))) (written_typed (map response_of (y ∷ ys))) in
    omega (arith, here, more, both)

chunk_size : (xs : List ResetResponse) → size_of_packet (reconfig_chunk (map response_of xs) ∷ []) ≡ 16 + 12 * length xs
chunk_size xs = let size = written_size xs in omega (arith, size)

-- ---- one more

one_more : (xs : List ResetResponse) (x : ResetResponse) → map response_of (xs ++ x ∷ []) ≡ map response_of xs ++ response_of x ∷ []
one_more xs x = map-append response_of xs (x ∷ [])

size_more : (xs : List ResetResponse) (x : ResetResponse) → size_of_packet (reconfig_chunk (map response_of xs ++ response_of x ∷ []) ∷ []) ≡ 28 + 12 * length xs
size_more xs x =
    let more = length-append xs (x ∷ []) in
    ap (λ (ts : List Typed). size_of_packet (reconfig_chunk ts ∷ [])) (sym (one_more xs x)) ∙ chunk_size (xs ++ x ∷ []) ∙ omega (arith, more)

pub joined : (limit : ℕ) (xs : List ResetResponse) (x : ResetResponse) → length xs < (limit - 16) / 12 → map response_of (xs ++ x ∷ []) ≡ answers_within limit (map response_of xs) (response_of x)
joined limit xs x low =
    let size = size_more xs x in
    let small : 28 + 12 * length xs ≤ limit = omega (arith, low) in
    let fits : nat_le (size_of_packet (reconfig_chunk (map response_of xs ++ response_of x ∷ []) ∷ [])) limit ≡ true = ap (λ (n : ℕ). nat_le n limit) size ∙ grind (arith, small, nat_tests) in
    rw fits (one_more xs x)

pub left_out : (limit : ℕ) (xs : List ResetResponse) (x : ResetResponse) → (limit - 16) / 12 ≤ length xs → map response_of xs ≡ answers_within limit (map response_of xs) (response_of x)
left_out limit xs x high =
    let size = size_more xs x in
    let large : limit < 28 + 12 * length xs = omega (arith, high) in
    let fits : nat_le (size_of_packet (reconfig_chunk (map response_of xs ++ response_of x ∷ []) ∷ [])) limit ≡ false = ap (λ (n : ℕ). nat_le n limit) size ∙ grind (arith, large, nat_tests) in
    rw fits refl

-- ---- those that are kept

pub rejoined : (f : Format) (k l : ResetsKept) (initial streams : ℕ) (taken : ℕ → List Handed) (r : Incoming) (xs ys : List Typed) → KeepsResets f (Some k) initial streams taken r →
    l ≡ record k { answers = ys } → ys ≡ xs → KeepsResets f (Some l) initial streams taken (record r { answers = xs })
rejoined f k l initial streams taken r xs ys h is same = subst (λ (m : ResetsKept). KeepsResets f (Some m) initial streams taken (record r { answers = xs })) (sym is) (record {
  last = h.last;
  result = h.result;
  waited = h.waited;
  begun = h.begun;
  answers = sym same;
  ordered = h.ordered;
  unordered = h.unordered;
  old = h.old;
  told = h.told;
  none = h.none;
  all = record { streams = h.all.streams; bits = h.all.bits };
})
