-- The longest message against the peer's window, computed: of 65,536 bytes in fragments of 1,400 all 47 chunks go into a window of 65,536, and 46 into
-- one of a byte less.
use Rattle.std.proofs.Common.{◌≡◌, ℕ, ◌*◌, ◌-◌, true, List, [], ◌∷◌, length, map, take, None, refl, ap, ◌∙◌}
use Rattle.std.specs.Prelude.{replicate}
use Rattle.std.proofs.lemmas.List.{drop-replicate, length-replicate}
use Rattle.sctp_model.specs.messages.Format.{Plain, ordered_lane}
use Rattle.sctp_model.specs.sender.SenderView.{SenderView, fresh_sender}
use Rattle.sctp_model.specs.sender.Words.{count_up}
use Rattle.sctp_model.specs.sender.Queueing.{fragment_of, cut}
use Rattle.sctp_model.specs.sender.Filling.{fill}
use Rattle.sctp_outcomes.proofs.sender.Makers.{asks, plain_limits}

-- ---- a message of one byte repeated, cut

-- the fragment with this number
abbrev nth : (size n k : ℕ) → List ℕ
nth size n k = take size (replicate (n - k * size) 7)

nth_is : (size n k : ℕ) → fragment_of size (replicate n 7) k ≡ nth size n k
nth_is size n k = ap (λ (xs : List ℕ). take size xs) (drop-replicate {X = ℕ} (k * size) n 7)

map_same : (f g : ℕ → List ℕ) (ks : List ℕ) → ((k : ℕ) → f k ≡ g k) → map f ks ≡ map g ks
map_same f g [] same = refl
map_same f g (k ∷ ks) same = rw (same k) (ap (λ (xs : List (List ℕ)). g k ∷ xs) (map_same f g ks same))

abbrev fragments : List (List ℕ)
fragments = map (nth 1400 65536) (count_up 0 47)

-- a message of 65,536 bytes has 47 fragments
cut_long : (bytes : List ℕ) → length bytes ≡ 65536 → cut 1400 bytes ≡ map (fragment_of 1400 bytes) (count_up 0 47)
cut_long bytes long = rw long refl

cut_is : cut 1400 (replicate 65536 7) ≡ fragments
cut_is = cut_long (replicate 65536 7) (length-replicate {A = ℕ} 65536 7) ∙ map_same (fragment_of 1400 (replicate 65536 7)) (nth 1400 65536) (count_up 0 47) (λ k. nth_is 1400 65536 k)

-- ---- how many chunks go

-- a message of these fragments waits
abbrev waits : (rwnd : ℕ) → List (List ℕ) → SenderView
waits rwnd xs = record (fresh_sender 1 1 1400 rwnd true plain_limits) {
  queue = record { lane = ordered_lane 0; message = record { ticket = 1; payload = 0; fragments = xs; until = None; limit = None } } ∷ [];
  tickets = 1;
}

-- this many go of them, into a space that takes them all
abbrev many : (rwnd : ℕ) → List (List ℕ) → ℕ
many rwnd xs = length (fill Plain 70000 (waits rwnd xs)).wishes

-- this many go of a message
abbrev go : (rwnd : ℕ) → List ℕ → ℕ
go rwnd bytes = length (fill Plain 70000 (asks (fresh_sender 1 1 1400 rwnd true plain_limits) 0 0 bytes)).wishes

so_many : (rwnd : ℕ) (bytes : List ℕ) → cut 1400 bytes ≡ fragments → go rwnd bytes ≡ many rwnd fragments
so_many rwnd bytes is = ap (λ (xs : List (List ℕ)). many rwnd xs) is

all_47 : many 65536 fragments ≡ 47
all_47 = refl

first_46 : many 65535 fragments ≡ 46
first_46 = refl

all_go : go 65536 (replicate 65536 7) ≡ 47
all_go = so_many 65536 (replicate 65536 7) cut_is ∙ all_47

last_waits : go 65535 (replicate 65536 7) ≡ 46
last_waits = so_many 65535 (replicate 65536 7) cut_is ∙ first_46
