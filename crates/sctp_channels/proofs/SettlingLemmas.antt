-- What is due is settled stream by stream.
use Rattle.std.proofs.Common.{◌≡◌, ℕ, zero, suc, ◌+◌, ◌-◌, ◌<◌, ◌≤◌, List, [], ◌∷◌, ◌++◌, length, take, drop, get_or, set, refl, sym, ap, ◌∙◌, append_assoc, arith}
use Rattle.std.proofs.lemmas.List.{take_more, drop_more, set_at, get_or-append_right, set-get_or, length-take-le}
use lib.Seq.{get_or-set_other}
use Rattle.sctp_model.specs.end.EndView.{EndView}
use Rattle.sctp_channels.specs.declared.stream.Due.{Due}
use Rattle.sctp_channels.specs.declared.stream.Due.TheVariants.{Nothing}
use Rattle.sctp_channels.specs.declared.stream.Stream.{Stream}
use Rattle.sctp_channels.specs.Streams.{unused, Table, stream_at, with_stream}
use Rattle.sctp_channels.specs.Settling.{settled_by, settled, AllSettled, all_settled, Standing, settled_below, settled_all}

-- as many streams are left as there were
settled_many : (v : EndView) (s : ℕ) (xs : List Stream) → length (all_settled v s xs).streams ≡ length xs
settled_many v s [] = refl
settled_many v s (x ∷ xs) = ap suc (settled_many (settled v s x).view (suc s) xs)

-- these, and one more
abbrev behind : AllSettled → (stream : ℕ) → Stream → AllSettled
behind t s y = record { view = (settled t.view s y).view; streams = t.streams ++ (settled t.view s y).stream ∷ [] }

settled_push : (v : EndView) (s : ℕ) (xs : List Stream) (y : Stream) → all_settled v s (xs ++ y ∷ []) ≡ behind (all_settled v s xs) (s + length xs) y
settled_push v s [] y = let same : s + zero ≡ s = omega arith in rw same refl
settled_push v s (x ∷ xs) y =
    let moved : suc s + length xs ≡ s + suc (length xs) = omega arith in
    rw (← moved) (ap (λ (t : AllSettled). record { view = t.view; streams = (settled v s x).stream ∷ t.streams }) (settled_push (settled v s x).view (suc s) xs y))

-- a stream of the table is settled
abbrev pub one_settled : Standing → (stream : ℕ) → Standing
one_settled t s = record {
  view = (settled t.view s (stream_at t.table s)).view;
  table = with_stream t.table s (settled t.view s (stream_at t.table s)).stream;
}

-- one stream more
pub settled_more : (n : ℕ) (v : EndView) (x : Table) → n < length x.streams → settled_below (n + 1) v x ≡ one_settled (settled_below n v x) n
settled_more n v x less =
    let xs = x.streams in
    let y = get_or xs n unused in
    let t = all_settled v 0 (take n xs) in
    let first : take (n + 1) xs ≡ take n xs ++ y ∷ [] = take_more xs n unused less in
    let many : length (take n xs) ≡ n = length-take-le n xs (omega (arith, less)) in
    let none : 0 + n ≡ n = omega arith in
    let front : n - n ≡ 0 = omega arith in
    let size : length t.streams ≡ n = settled_many v 0 (take n xs) ∙ many in
    let rest : drop n xs ≡ y ∷ drop (n + 1) xs = drop_more xs n unused less in
    let pushed : all_settled v 0 (take (n + 1) xs) ≡ behind t n y = rw first (settled_push v 0 (take n xs) y ∙ (ap (λ (k : ℕ). behind t (0 + k) y) many ∙ ap (λ (k : ℕ). behind t k y) none)) in
    let there : get_or (t.streams ++ drop n xs) n unused ≡ y = rw rest (get_or-append_right t.streams (y ∷ drop (n + 1) xs) n n unused size (omega arith) ∙ ap (λ (k : ℕ). get_or (y ∷ drop (n + 1) xs) k unused) front) in
    let put : set (t.streams ++ drop n xs) n (settled t.view n y).stream ≡ t.streams ++ (settled t.view n y).stream ∷ drop (n + 1) xs =
    rw rest (set_at t.streams y (drop (n + 1) xs) (settled t.view n y).stream n size) in
    let joined : (t.streams ++ (settled t.view n y).stream ∷ []) ++ drop (n + 1) xs ≡ t.streams ++ (settled t.view n y).stream ∷ drop (n + 1) xs =
    append_assoc t.streams ((settled t.view n y).stream ∷ []) (drop (n + 1) xs) in
    rw (pushed, there, put, joined) refl

-- nothing is due on a stream
pub settled_none : (x : Table) (s : ℕ) → with_stream x s (stream_at x s) ≡ x
settled_none x s = ap (λ (xs : List Stream). record x { streams = xs }) (set-get_or x.streams s unused)

-- ---- streams of which nothing is due

idle_one : (t : Standing) (s : ℕ) → (stream_at t.table s).due ≡ Nothing → one_settled t s ≡ t
idle_one t s idle =
    let y = stream_at t.table s in
    ap (λ (d : Due). record { view = (settled_by d t.view s y).view; table = with_stream t.table s (settled_by d t.view s y).stream }) idle
    ∙ ap (λ (z : Table). record { view = t.view; table = z }) (settled_none t.table s)

-- those below
pub settled_idle : (n : ℕ) (v : EndView) (x : Table) → n ≤ length x.streams → ((q : ℕ) → q < n → (stream_at x q).due ≡ Nothing) → settled_below n v x ≡ record { view = v; table = x }
settled_idle zero v x most idle = refl
settled_idle (suc n) v x most idle =
    let next : suc n ≡ n + 1 = omega arith in
    ap (λ (k : ℕ). settled_below k v x) next
    ∙ (settled_more n v x (omega (arith, most))
    ∙ (ap (λ (t : Standing). one_settled t n) (settled_idle n v x (omega (arith, most)) (λ q low. idle q (omega (arith, low))))
    ∙ idle_one (record { view = v; table = x }) n (idle n (omega arith))))

-- those above are as they were
settled_kept : (n : ℕ) (v : EndView) (x : Table) (i : ℕ) → n ≤ i → n ≤ length x.streams → stream_at (settled_below n v x).table i ≡ stream_at x i
settled_kept zero v x i low most = refl
settled_kept (suc n) v x i low most =
    let next : suc n ≡ n + 1 = omega arith in
    let t = settled_below n v x in
    let other : i ≡ n → ⊥ = λ e. omega (arith, e, low) in
    ap (λ (k : ℕ). stream_at (settled_below k v x).table i) next
    ∙ (ap (λ (u : Standing). stream_at u.table i) (settled_more n v x (omega (arith, most)))
    ∙ (get_or-set_other t.table.streams n i (settled t.view n (stream_at t.table n)).stream unused other
    ∙ settled_kept n v x i (omega (arith, low)) (omega (arith, most))))

-- those from one on
settled_on : (k n : ℕ) (v : EndView) (x : Table) → n + k ≤ length x.streams → ((q : ℕ) → n ≤ q → (stream_at x q).due ≡ Nothing) → settled_below (n + k) v x ≡ settled_below n v x
settled_on zero n v x most idle = let none : n + zero ≡ n = omega arith in ap (λ (i : ℕ). settled_below i v x) none
settled_on (suc k) n v x most idle =
    let next : n + suc k ≡ (n + k) + 1 = omega arith in
    ap (λ (i : ℕ). settled_below i v x) next
    ∙ (settled_more (n + k) v x (omega (arith, most))
    ∙ (ap (λ (t : Standing). one_settled t (n + k)) (settled_on k n v x (omega (arith, most)) idle)
    ∙ idle_one (settled_below n v x) (n + k)
    (ap (λ (y : Stream). y.due) (settled_kept n v x (n + k) (omega arith) (omega (arith, most))) ∙ idle (n + k) (omega arith))))

pub settled_rest : (n : ℕ) (v : EndView) (x : Table) → n ≤ length x.streams → ((q : ℕ) → n ≤ q → (stream_at x q).due ≡ Nothing) → settled_below n v x ≡ settled_all v x
settled_rest n v x most idle =
    let all : n + (length x.streams - n) ≡ length x.streams = omega (arith, most) in
    sym (settled_on (length x.streams - n) n v x (omega (arith, most)) idle) ∙ ap (λ (i : ℕ). settled_below i v x) all
