-- Who may send, in turn.
use Rattle.std.specs.Prelude.{◌≡◌, ℕ, zero, suc, List, [], ◌∷◌, ◌++◌, length}
use Rattle.sctp_socket.specs.declared.turns.Turns.{Turns}

-- those who wait, in turn
abbrev pub waiting_of : Turns → List ℕ
waiting_of t = t.waiting.items

-- the first one goes behind all others
abbrev pub turned_once : List ℕ → List ℕ
turned_once [] = []
turned_once (x ∷ xs) = xs ++ x ∷ []

-- so often
abbrev pub turned : ℕ → List ℕ → List ℕ
turned zero xs = xs
turned (suc n) xs = turned n (turned_once xs)

-- EACH ONE'S TURN COMES: it is the first after as many turns as there were before it, if nobody is taken out meanwhile.
abbrev pub EachTurnComes : Type 0
EachTurnComes = (front back : List ℕ) (x : ℕ) → turned (length front) (front ++ x ∷ back) ≡ (x ∷ back) ++ front
