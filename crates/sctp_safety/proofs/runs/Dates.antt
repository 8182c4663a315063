-- When a packet was built, in TSNs; and the chunks of packets, each with the date of its packet.
use Rattle.std.proofs.Common.{◌≡◌, ℕ, ◌+◌, ◌<◌, max, List, [], ◌∷◌, ◌++◌, map, inl, inr, refl, subst, ap, ◌∙◌}
use Rattle.sctp_model.specs.numbers.Limits.{AGE_LIMIT}
use Rattle.sctp_model.specs.numbers.Lists.{Has}
use Rattle.sctp_model.specs.numbers.Serial.{half_space}
use Rattle.sctp_model.specs.wire.Chunk.{ChunkMeaning}

-- how many TSNs the endpoint that built the packet had assigned by then, those of the packet too; and how many the endpoint across
pub record Date : Type 0 where
  pub own : ℕ
  pub there : ℕ

-- Not too many TSNs later: fewer than half their space are assigned by now in all, or fewer than AGE_LIMIT since then.
abbrev pub IsYoung : (since now : ℕ) → Type 0
IsYoung since now = now < max (half_space 32) (since + AGE_LIMIT)

-- ---- chunks

-- a chunk of a packet of this date
pub record Dated : Type 0 where
  pub chunk : ChunkMeaning
  pub date : Date

abbrev pub dated : Date → ChunkMeaning → Dated
dated k x = record { chunk = x; date = k }

-- the chunks of one packet
abbrev pub all_dated : Date → List ChunkMeaning → List Dated
all_dated k xs = map (dated k) xs

-- the chunks alone
abbrev pub undated : List Dated → List ChunkMeaning
undated xs = map (λ (x : Dated). x.chunk) xs

pub dated_on : (k : Date) (xs ys : List ChunkMeaning) → all_dated k (xs ++ ys) ≡ all_dated k xs ++ all_dated k ys
dated_on k [] ys = refl
dated_on k (x ∷ xs) ys = ap (λ (zs : List Dated). dated k x ∷ zs) (dated_on k xs ys)

pub undated_joined : (xs ys : List Dated) → undated (xs ++ ys) ≡ undated xs ++ undated ys
undated_joined [] ys = refl
undated_joined (x ∷ xs) ys = ap (λ (zs : List ChunkMeaning). x.chunk ∷ zs) (undated_joined xs ys)

pub undated_packet : (k : Date) (xs : List ChunkMeaning) → undated (all_dated k xs) ≡ xs
undated_packet k [] = refl
undated_packet k (x ∷ xs) = ap (λ (ys : List ChunkMeaning). x ∷ ys) (undated_packet k xs)

-- chunks without their dates, once those of a packet have been put after them
pub undated_on : (out : List Dated) (k : Date) (xs : List ChunkMeaning) → undated (out ++ all_dated k xs) ≡ undated out ++ xs
undated_on out k xs = undated_joined out (all_dated k xs) ∙ ap (λ (ys : List ChunkMeaning). undated out ++ ys) (undated_packet k xs)

pub has_undated : (xs : List Dated) (y : Dated) → Has xs y → Has (undated xs) y.chunk
has_undated [] y h = absurd h
has_undated (x ∷ xs) y (inl e) = inl (ap (λ (z : Dated). z.chunk) e)
has_undated (x ∷ xs) y (inr h) = inr (has_undated xs y h)

pub has_dated : (k : Date) (xs : List ChunkMeaning) (y : ChunkMeaning) → Has xs y → Has (all_dated k xs) (dated k y)
has_dated k [] y h = absurd h
has_dated k (x ∷ xs) y (inl e) = inl (ap (dated k) e)
has_dated k (x ∷ xs) y (inr h) = inr (has_dated k xs y h)

-- what is so of each chunk of a packet is so of each of them with its date
pub each_dated : (P : Dated → Type 0) (k : Date) (xs : List ChunkMeaning) → ((x : ChunkMeaning) → Has xs x → P (dated k x)) → (y : Dated) → Has (all_dated k xs) y → P y
each_dated P k [] all y h = absurd h
each_dated P k (x ∷ xs) all y (inl e) = subst P e (all x (inl refl))
each_dated P k (x ∷ xs) all y (inr h) = each_dated P k xs (λ z has. all z (inr has)) y h
