-- A chunk that is taken is a list of moves: it is kept, and what is due is delivered number by number.
use Rattle.std.proofs.Common.{◌≡◌, ℕ, zero, suc, ◌<◌, ◌⊎◌, ◌++◌, ◌∷◌, not, true, false, Bool, max, List, [], cond, filter, inl, inr, refl, sym, subst, ap, arith, append-nil, append_assoc, Some}
use Rattle.std.proofs.lemmas.Bool.{cases_Bool}
use Rattle.std.proofs.lemmas.Bool.Decides.{nat_tests}
use Rattle.sctp_model.specs.numbers.Lists.{Has, at}
use Rattle.sctp_model.specs.messages.Format.{Format, Plain, Interleaved, Kind, Ordered, Unordered, Lane, ordered_lane}
use Rattle.sctp_model.specs.messages.Pieces.{Piece, is_number_below}
use Rattle.sctp_model.specs.messages.Whole.{Follows, IsRow}
use Rattle.sctp_model.specs.messages.Forward.{skipped}
use Rattle.sctp_model.specs.receiver.ReceiverView.{Handed, ReceiverView}
use Rattle.sctp_model.specs.receiver.Receiving.{IsWholeNumber, HasNoWhole, message_of, IsDue, Stop, GivesWhole, Past, is_below, without_below, GivesOrdered, GivesAll, GivesUnordered, Gives, recorded}
use Rattle.sctp_safety.specs.Way.{Way, Move, Keep_piece, Hand_over, Hand_unordered, Pass_over, Drop_below_next, Forward_comes, Let_go, with_receiver, past, Step, Run}
use Rattle.sctp_safety.specs.Exact.{Leads, TakingIsMoves, ForwardIsMoves}
use Rattle.sctp_safety.proofs.moves.ForwardMove.{all_skipped}
use Rattle.sctp_safety.proofs.lists.Basics.{at_cases, at_same, Has-filter, Has-filtered}
use Rattle.sctp_safety.proofs.lists.Numbers.{below_is, below-true}

-- ---- runs

pub run_on : (u v w : Way) (ds es : List Move) → Run u ds v → Run v es w → Run u (ds ++ es) w
run_on u v w [] es a b = subst (λ (x : Way). Run x es w) a b
run_on u v w (d ∷ ds) es (mid, step, rest) b = (mid, step, run_on mid v w ds es rest b)

pub leads_on : (u v w : Way) → Leads u v → Leads v w → Leads u w
leads_on u v w (ds, a) (es, b) = (ds ++ es, run_on u v w ds es a b)

pub leads_by : (u v : Way) (e : Move) → Step u e v → Leads u v
leads_by u v e step = (e ∷ [], (v, step, refl))

pub leads_same : (u v w : Way) → Leads u v → v ≡ w → Leads u w
leads_same u v w h e = subst (Leads u) e h

-- ---- functions changed twice

pub at_twice : {A : Type 0} (f : ℕ → A) (s : ℕ) (a b : A) → at (at f s a) s b ≡ at f s b
at_twice {A} f s a b = λ i t. same t i
  where
    same : (t : ℕ) → at (at f s a) s b t ≡ at f s b t
    same t = at_cases (λ (y : A). y ≡ at f s b t) (at f s a) s b t
        (λ e. at_cases (λ (y : A). b ≡ y) f s b t (λ e2. refl) (λ ne. absurd (ne e)))
        (λ ne. at_cases (λ (y : A). y ≡ at f s b t) f s a t (λ e. absurd (ne e))
        (λ ne2. at_cases (λ (y : A). f t ≡ y) f s b t (λ e. absurd (ne e)) (λ ne3. refl)))

pub at_own : {A : Type 0} (f : ℕ → A) (s : ℕ) → at f s (f s) ≡ f
at_own {A} f s = λ i t. same t i
  where
    same : (t : ℕ) → at f s (f s) t ≡ f t
    same t = at_cases (λ (y : A). y ≡ f t) f s (f s) t (λ e. ap f (sym e)) (λ ne. refl)

-- ---- chunks of one number

-- the chunks of a row have the lane and the number of its first
pub row_same : (f : Format) (x : Piece) (xs : List Piece) → IsRow f x xs → (y : Piece) → Has xs y → (y.lane ≡ x.lane) × (y.number ≡ x.number)
row_same f x [] row y h = absurd h
row_same f x (z ∷ zs) (open_, follows, row) y h = go f follows h (row_same f z zs row y)
  where
    go : (g : Format) → Follows g x z → Has (z ∷ zs) y → (Has zs y → (y.lane ≡ z.lane) × (y.number ≡ z.number)) → (y.lane ≡ x.lane) × (y.number ≡ x.number)
    go Plain (l, n, i, b) (inl e) more = (subst (λ (u : Piece). u.lane ≡ x.lane) e l, subst (λ (u : Piece). u.number ≡ x.number) e n)
    go Plain (l, n, i, b) (inr k) more = let m = more k in (let a = m.0 in cc, let c = m.1 in cc)
    go Interleaved (l, n, i) (inl e) more = (subst (λ (u : Piece). u.lane ≡ x.lane) e l, subst (λ (u : Piece). u.number ≡ x.number) e n)
    go Interleaved (l, n, i) (inr k) more = let m = more k in (let a = m.0 in cc, let c = m.1 in cc)

-- a chunk of this number stays if what is below it goes
stays : (s n : ℕ) (y : Piece) → y.number ≡ Some n → not (is_below s n y) ≡ true
stays s n y e = go (cases_Bool (is_number_below n y.number))
  where
    go : (is_number_below n y.number ≡ true) ⊎ (is_number_below n y.number ≡ false) → not (is_below s n y) ≡ true
    go (inl h) = let l = below_is n n y.number e (below-true n y.number h) in absurd (omega arith)
    go (inr h) = grind (arith, h)

whole_stays : (f : Format) (kept : List Piece) (s n : ℕ) (x : Piece) (xs : List Piece) →
    IsWholeNumber f kept (ordered_lane s) n (x ∷ xs) → IsWholeNumber f (without_below kept s n) (ordered_lane s) n (x ∷ xs)
whole_stays f kept s n x xs ((first, row), within, (lane, number)) = ((first, row), stay, (lane, number))
  where
    stay : (y : Piece) → Has (x ∷ xs) y → Has (without_below kept s n) y
    stay y h = Has-filter (λ (z : Piece). not (is_below s n z)) kept y (stays s n y (same h)) (within y h)
      where
        same : Has (x ∷ xs) y → y.number ≡ Some n
        same (inl e) = subst (λ (u : Piece). u.number ≡ Some n) e number
        same (inr k) = let m = (row_same f x xs row y k).1 in cc

pub none_stays : (f : Format) (kept : List Piece) (s n : ℕ) → HasNoWhole f kept (ordered_lane s) n → HasNoWhole f (without_below kept s n) (ordered_lane s) n
none_stays f kept s n none xs (whole, within, number) =
    none xs (whole, (λ y h. Has-filtered (λ (z : Piece). not (is_below s n z)) kept y (within y h)), number)

-- a test after a weaker one is the test alone
filter_twice : {A : Type 0} (p q : A → Bool) → ((y : A) → p y ≡ true → q y ≡ true) → (xs : List A) → filter p (filter q xs) ≡ filter p xs
filter_twice p q weaker [] = refl
filter_twice {A} p q weaker (y ∷ ys) = go (q y) refl (filter_twice p q weaker ys)
  where
    go : (b : Bool) → q y ≡ b → filter p (filter q ys) ≡ filter p ys →
        filter p (cond {A = List A} b (y ∷ filter q ys) (filter q ys)) ≡ cond {A = List A} (p y) (y ∷ filter p ys) (filter p ys)
    go true e more = inner (p y)
      where
        inner : (c : Bool) → cond {A = List A} c (y ∷ filter p (filter q ys)) (filter p (filter q ys)) ≡ cond {A = List A} c (y ∷ filter p ys) (filter p ys)
        inner true = ap (λ (zs : List A). y ∷ zs) more
        inner false = more
    go false e more = inner (p y) refl
      where
        inner : (c : Bool) → p y ≡ c → filter p (filter q ys) ≡ cond {A = List A} c (y ∷ filter p ys) (filter p ys)
        inner true d = absurd (let z = weaker y d in cc)
        inner false d = more

-- what is below a number, and then what is below the next, is what is below the next
below_twice : (kept : List Piece) (s n : ℕ) → without_below (without_below kept s n) s (suc n) ≡ without_below kept s (suc n)
below_twice kept s n = filter_twice (λ (y : Piece). not (is_below s (suc n) y)) (λ (y : Piece). not (is_below s n y)) weaker kept
  where
    weaker : (y : Piece) → not (is_below s (suc n) y) ≡ true → not (is_below s n y) ≡ true
    weaker y h = grind (arith, h, nat_tests)

-- ---- what is due

-- a stream if all below n is done with, and these messages were delivered
abbrev given : ReceiverView → ℕ → ℕ → List Handed → ReceiverView
given r s n ms = record r { next = at r.next s n; waiting = at r.waiting s (r.waiting s ++ ms); kept = without_below r.kept s n }

same_receiver : (r : ReceiverView) (n m : ℕ → ℕ) (v w : ℕ → List Handed) (k l : List Piece) → n ≡ m → v ≡ w → k ≡ l →
    record r { next = n; waiting = v; kept = k } ≡ record r { next = m; waiting = w; kept = l }
same_receiver r n m v w k l a b c =
    subst (λ (x : ℕ → ℕ). record r { next = n; waiting = v; kept = k } ≡ record r { next = x; waiting = w; kept = l }) a
    (subst (λ (x : ℕ → List Handed). record r { next = n; waiting = v; kept = k } ≡ record r { next = n; waiting = x; kept = l }) b
    (ap (λ (x : List Piece). record r { next = n; waiting = v; kept = x }) c))

handed_next : (f : Format) (r : ReceiverView) (s n : ℕ) (done : List Handed) (x : Piece) (xs : List Piece) →
    record (past (given r s n done) s) {
      waiting = at (given r s n done).waiting s ((given r s n done).waiting s ++ message_of f x xs ∷ []);
    } ≡ given r s (suc n) (done ++ message_of f x xs ∷ [])
handed_next f r s n done x xs = same_receiver r _ _ _ _ _ _
    (rw at_same (at_twice r.next s n (suc n)))
    (rw (at_same, ← append_assoc) (at_twice r.waiting s (r.waiting s ++ done) ((r.waiting s ++ done) ++ message_of f x xs ∷ [])))
    (rw at_same (below_twice r.kept s n))

passed_next : (r : ReceiverView) (s n : ℕ) (done : List Handed) → past (given r s n done) s ≡ given r s (suc n) done
passed_next r s n done = same_receiver r _ _ _ _ _ _
    (rw at_same (at_twice r.next s n (suc n))) refl (rw at_same (below_twice r.kept s n))

due_is_moves : (w : Way) (r : ReceiverView) (s n m : ℕ) (ms done : List Handed) → IsDue w.format r s n ms m →
    Leads (with_receiver w (given r s n done)) (with_receiver w (given r s m (done ++ ms)))
due_is_moves w r s n m ms done (Stop k behind none) =
    ([], ap (λ (zs : List Handed). with_receiver w (given r s n zs)) (append-nil done))
due_is_moves w r s n m ms done (GivesWhole k l x xs zs whole lowest more) =
    leads_on (with_receiver w (given r s n done)) (with_receiver w (given r s (suc n) (done ++ message_of w.format x xs ∷ []))) _
    (leads_same _ _ _ (leads_by _ _ (Hand_over s x xs) (here, refl)) (ap (with_receiver w) (handed_next w.format r s n done x xs)))
    (leads_same _ _ _ (due_is_moves w r s (suc n) m zs (done ++ message_of w.format x xs ∷ []) more)
    (ap (λ (ys : List Handed). with_receiver w (given r s m ys)) (append_assoc done (message_of w.format x xs ∷ []) zs)))
  where
    here : IsWholeNumber w.format (without_below r.kept s n) (ordered_lane s) (at r.next s n s) (x ∷ xs)
    here = subst (λ (u : ℕ). IsWholeNumber w.format (without_below r.kept s n) (ordered_lane s) u (x ∷ xs)) (sym (at_same r.next s n))
        (whole_stays w.format r.kept s n x xs whole)
due_is_moves w r s n m ms done (Past k l zs within none more) =
    leads_on (with_receiver w (given r s n done)) (with_receiver w (given r s (suc n) done)) _
    (leads_same _ _ _ (leads_by _ _ (Pass_over s) (below, here, refl)) (ap (with_receiver w) (passed_next r s n done)))
    (due_is_moves w r s (suc n) m ms done more)
  where
    below : at r.next s n s < r.skip (ordered_lane s)
    below = rw at_same within

    here : HasNoWhole w.format (without_below r.kept s n) (ordered_lane s) (at r.next s n s)
    here = subst (λ (u : ℕ). HasNoWhole w.format (without_below r.kept s n) (ordered_lane s) u) (sym (at_same r.next s n))
        (none_stays w.format r.kept s n none)

-- what is due on a stream is delivered by moves
pub giving_is_moves : (w : Way) (s : ℕ) (r t : ReceiverView) → GivesOrdered w.format s r t → Leads (with_receiver w r) (with_receiver w t)
giving_is_moves w s r t (ms, n, due, e) =
    leads_on (with_receiver w r) (with_receiver w (given r s (r.next s) [])) _
    (leads_same _ _ _ (leads_by _ _ (Drop_below_next s) refl) (ap (with_receiver w) cleared))
    (leads_same _ _ _ (due_is_moves w r s (r.next s) n ms [] due) (ap (with_receiver w) (sym e)))
  where
    cleared : record r { kept = without_below r.kept s (r.next s) } ≡ given r s (r.next s) []
    cleared = same_receiver r r.next _ r.waiting _ _ _ (sym (at_own r.next s)) (sym (rw append-nil (at_own r.waiting s))) refl

pub giving_all_is_moves : (w : Way) (n : ℕ) (r t : ReceiverView) → GivesAll w.format n r t → Leads (with_receiver w r) (with_receiver w t)
giving_all_is_moves w zero r t e = ([], ap (with_receiver w) e)
giving_all_is_moves w (suc n) r t (mid, all, here) =
    leads_on (with_receiver w r) (with_receiver w mid) (with_receiver w t) (giving_all_is_moves w n r mid all) (giving_is_moves w n mid t here)

giving_unordered_is_moves : (w : Way) (y : Piece) (r t : ReceiverView) → y.lane.kind ≡ Unordered → GivesUnordered w.format y r t →
    Leads (with_receiver w r) (with_receiver w t)
giving_unordered_is_moves w y r t kind (inr (none, e)) = ([], ap (with_receiver w) e)
giving_unordered_is_moves w y r t kind (inl (x, xs, (whole, within, has), e)) =
    leads_by _ _ (Hand_unordered x xs) (first has, whole, within, ap (with_receiver w) e)
  where
    first : Has (x ∷ xs) y → x.lane.kind ≡ Unordered
    first (inl h) = subst (λ (u : Piece). u.lane.kind ≡ Unordered) (sym h) kind
    first (inr h) = let e = (row_same w.format x xs whole.1 y h).0 in subst (λ (l : Lane). l.kind ≡ Unordered) e kind

pub taking_is_moves : TakingIsMoves
taking_is_moves w x t has unseen takes =
    leads_on w (with_receiver w low) (with_receiver w t) (leads_by _ _ (Keep_piece x) (has, unseen, refl)) (give x.lane.kind refl takes)
  where
    low : ReceiverView
    low = record (recorded w.receiver x) { kept = x ∷ w.receiver.kept }

    give : (k : Kind) → x.lane.kind ≡ k → Gives w.format k x low t → Leads (with_receiver w low) (with_receiver w t)
    give Ordered e h = giving_is_moves w x.lane.stream low t h
    give Unordered e h = giving_unordered_is_moves w x low t e h

pub forward_is_moves : ForwardIsMoves
forward_is_moves w x t has i below not_yet (low, goes, gives) =
    leads_on w (with_receiver w mid) (with_receiver w t) (leads_by w (with_receiver w mid) (Forward_comes x mid.skip) (has, (i, below, not_yet), all_skipped w.receiver x.skips, refl))
    (leads_on (with_receiver w mid) (with_receiver w low) (with_receiver w t)
    (leads_by (with_receiver w mid) (with_receiver w low) (Let_go low) (goes, refl))
    (giving_all_is_moves w w.receiver.streams low t gives))
  where
    mid : ReceiverView
    mid = record w.receiver { jump = max w.receiver.jump x.point; skip = skipped w.receiver.skip x.skips }
