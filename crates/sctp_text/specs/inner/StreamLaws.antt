-- The laws of readers and writers of std, whose bytes are known or not: proofs, which stand here since an `impl` cites `specs` alone for its laws.
use Rattle.std.specs.Prelude.{ℕ, List, [], ◌++◌, Option, None, Some}
use Rattle.std.specs.Io.KnownBytes.{Consumes, Appends}
use Rattle.std.proofs.Common.{refl, sym, ◌∙◌, ap, append_assoc, append-nil}

-- known bytes lose nothing if nothing is read, and two reads in a row lose the bytes joined
pub consumes_none : (left : Option (List ℕ)) → Consumes left left []
consumes_none None = tt
consumes_none (Some bytes) = refl

pub consumes_more : (first between last : Option (List ℕ)) (a b : List ℕ)
    → Consumes first between a → Consumes between last b → Consumes first last (a ++ b)
consumes_more None between last a b _ _ = tt
consumes_more (Some xs) None last a b h _ = absurd h
consumes_more (Some xs) (Some ys) None a b _ h = absurd h
consumes_more (Some xs) (Some ys) (Some zs) a b h k = h ∙ ap (λ rest. a ++ rest) k ∙ sym (append_assoc a b zs)

-- known bytes gain nothing if nothing is written, and two writes in a row gain the bytes joined
pub appends_none : (held : Option (List ℕ)) → Appends held held []
appends_none None = tt
appends_none (Some bytes) = sym (append-nil bytes)

pub appends_more : (first between last : Option (List ℕ)) (a b : List ℕ)
    → Appends first between a → Appends between last b → Appends first last (a ++ b)
appends_more None between last a b _ _ = tt
appends_more (Some xs) None last a b h _ = absurd h
appends_more (Some xs) (Some ys) None a b _ h = absurd h
appends_more (Some xs) (Some ys) (Some zs) a b h k = k ∙ ap (λ front. front ++ b) h ∙ append_assoc xs a b
