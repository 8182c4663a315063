-- The log of the messages that were delivered.
use Rattle.std.proofs.Common.{◌≡◌, ℕ, zero, suc, ◌+◌, ◌<◌, ◌⊎◌, inl, inr, ◌==◌, Bool, true, false, not, List, [], ◌∷◌, ◌++◌, length, get_or, set, Option, Some, None, refl, sym, ap, subst, ◌∙◌, arith, length-append}
use Rattle.std.specs.Prelude.{slice_get, OnOk, Result, Ok, Err}
use Rattle.std.proofs.lemmas.Bool.{cases_Bool, eqb-true}
use Rattle.std.proofs.lemmas.List.{append-nil}
use Rattle.std.proofs.lemmas.List.Elements.{filter-append, filter_map-append}
use Rattle.std.proofs.lemmas.Grind.{common_steps}
use Rattle.sctp_model.specs.numbers.Lists.{at}
use Rattle.sctp_model.specs.messages.Format.{Ordered, Unordered, same_kind}
use Rattle.sctp_model.specs.receiver.ReceiverView.{Handed}
use Rattle.sctp_model.specs.receiver.Reading.{lane_of}
use Rattle.sctp_recv.specs.HandedOf.{handed_of}
use Rattle.sctp_recv.specs.declared.message.Message.{Message}
use Rattle.sctp_script.specs.ReportText.{ordered_number, ordered_numbers, count_unordered}
use Rattle.sctp_pair.specs.Taken.{IsStreamLog, IsLogged, AreLogged, HasRoom, HasRoomAt}
use Rattle.sctp_pair.specs.declared.taken.StreamLog.{StreamLog}

-- ---- one message more

numbers_more : (hs : List Handed) (h : Handed) → ordered_numbers (hs ++ h ∷ []) ≡ ordered_numbers hs ++ ordered_numbers (h ∷ [])
numbers_more hs h = filter_map-append ordered_number hs (h ∷ [])

count_more : (hs : List Handed) (h : Handed) → count_unordered (hs ++ h ∷ []) ≡ count_unordered hs + count_unordered (h ∷ [])
count_more hs h =
    let is_unordered : Handed → Bool = λ x. same_kind x.lane.kind Unordered in
    ap length (filter-append is_unordered hs (h ∷ [])) ∙ length-append _ _

one_unordered : (h : Handed) → h.lane.kind ≡ Unordered → (ordered_numbers (h ∷ []) ≡ []) × (count_unordered (h ∷ []) ≡ 1)
one_unordered h k = (rw k refl, rw k refl)

one_ordered : (h : Handed) (n : ℕ) → h.lane.kind ≡ Ordered → h.number ≡ Some n → (ordered_numbers (h ∷ []) ≡ n ∷ []) × (count_unordered (h ∷ []) ≡ 0)
one_ordered h n k e = (rw (k, e) refl, rw k refl)

one_unnumbered : (h : Handed) → h.lane.kind ≡ Ordered → h.number ≡ None → (ordered_numbers (h ∷ []) ≡ []) × (count_unordered (h ∷ []) ≡ 0)
one_unnumbered h k e = (rw (k, e) refl, rw k refl)

kind_is : (m : Message) (b : Bool) → m.ordered ≡ b → (handed_of m).lane.kind ≡ (lane_of m.stream (not b)).kind
kind_is m b e = ap (λ (o : Bool). (lane_of m.stream (not o)).kind) e

pub notes_unordered : (l : StreamLog) (hs : List Handed) (m : Message) → IsStreamLog l hs → m.ordered ≡ false → IsStreamLog (record l { unordered = l.unordered + 1 }) (hs ++ handed_of m ∷ [])
notes_unordered l hs m is e =
    let one = one_unordered (handed_of m) (kind_is m false e) in record {
      numbers = is.numbers ∙ (sym (append-nil (ordered_numbers hs)) ∙ (ap (λ (ns : List ℕ). ordered_numbers hs ++ ns) (sym one.0) ∙ sym (numbers_more hs (handed_of m))));
      unordered = let old = is.unordered in let more = count_more hs (handed_of m) in omega (arith, old, more, one.1);
    }

pub notes_ordered : (l : StreamLog) (k : StreamLog) (hs : List Handed) (m : Message) (n : ℕ) → IsStreamLog l hs → m.ordered ≡ true → m.number ≡ Some n →
    k.numbers.items ≡ l.numbers.items ++ n ∷ [] → k.unordered ≡ l.unordered → IsStreamLog k (hs ++ handed_of m ∷ [])
notes_ordered l k hs m n is e f pushed same =
    let one = one_ordered (handed_of m) n (kind_is m true e) f in record {
      numbers = pushed ∙ (ap (λ (ns : List ℕ). ns ++ n ∷ []) is.numbers ∙ (ap (λ (ns : List ℕ). ordered_numbers hs ++ ns) (sym one.0) ∙ sym (numbers_more hs (handed_of m))));
      unordered = let old = is.unordered in let more = count_more hs (handed_of m) in omega (arith, old, more, one.1, same);
    }

pub notes_unnumbered : (l : StreamLog) (hs : List Handed) (m : Message) → IsStreamLog l hs → m.ordered ≡ true → m.number ≡ None → IsStreamLog l (hs ++ handed_of m ∷ [])
notes_unnumbered l hs m is e f =
    let one = one_unnumbered (handed_of m) (kind_is m true e) f in record {
      numbers = is.numbers ∙ (sym (append-nil (ordered_numbers hs)) ∙ (ap (λ (ns : List ℕ). ordered_numbers hs ++ ns) (sym one.0) ∙ sym (numbers_more hs (handed_of m))));
      unordered = let old = is.unordered in let more = count_more hs (handed_of m) in omega (arith, old, more, one.1);
    }

-- ---- the logs of all streams

-- a list with one log more, of a stream that nothing was taken from
get_pushed_is : (ls : List StreamLog) (l : StreamLog) (f : ℕ → List Handed) → ((s : ℕ) → IsLogged (slice_get ls s) (f s)) → IsStreamLog l [] → (s : ℕ) → IsLogged (slice_get (ls ++ l ∷ []) s) (f s)
get_pushed_is [] l f all empty zero = subst (IsStreamLog l) (sym (all 0)) empty
get_pushed_is [] l f all empty (suc s) = all (suc s)
get_pushed_is (x ∷ ls) l f all empty zero = all 0
get_pushed_is (x ∷ ls) l f all empty (suc s) = get_pushed_is ls l (λ (n : ℕ). f (suc n)) (λ (n : ℕ). all (suc n)) empty s

-- a log more, of a stream that nothing was taken from
pub logged_push : (ls ks : List StreamLog) (l : StreamLog) (f : ℕ → List Handed) → ks ≡ ls ++ l ∷ [] → IsStreamLog l [] → AreLogged ls f → AreLogged ks f
logged_push ls ks l f is empty all = rw is (get_pushed_is ls l f all empty)

-- the log at a place
get_at : (ls : List StreamLog) (i : ℕ) (x : StreamLog) → i < length ls → x ≡ get_or ls i x → slice_get ls i ≡ Some x
get_at [] i x less is = absurd (omega (arith, less))
get_at (y ∷ ls) zero x less is = ap Some (sym is)
get_at (y ∷ ls) (suc i) x less is = get_at ls i x (omega (arith, less)) is

pub room_there : (ls : List StreamLog) (i : ℕ) (x : StreamLog) → HasRoomAt ls i → x ≡ get_or ls i x → HasRoom x
room_there ls i x has is = has.room x (get_at ls i x has.within is)

get_set_here : (ls : List StreamLog) (i : ℕ) (y : StreamLog) → i < length ls → slice_get (set ls i y) i ≡ Some y
get_set_here [] i y less = absurd (omega (arith, less))
get_set_here (x ∷ ls) zero y less = refl
get_set_here (x ∷ ls) (suc i) y less = get_set_here ls i y (omega (arith, less))

get_set_there : (ls : List StreamLog) (i j : ℕ) (y : StreamLog) → (j ≡ i → ⊥) → slice_get (set ls i y) j ≡ slice_get ls j
get_set_there [] i j y other = refl
get_set_there (x ∷ ls) zero zero y other = absurd (other refl)
get_set_there (x ∷ ls) zero (suc j) y other = refl
get_set_there (x ∷ ls) (suc i) zero y other = refl
get_set_there (x ∷ ls) (suc i) (suc j) y other = get_set_there ls i j y (λ (e : j ≡ i). other (ap suc e))

long_set : (ls : List StreamLog) (i : ℕ) (y : StreamLog) → length (set ls i y) ≡ length ls
long_set [] i y = refl
long_set (x ∷ ls) zero y = refl
long_set (x ∷ ls) (suc i) y = ap suc (long_set ls i y)

pub room_set : (ls ks : List StreamLog) (i : ℕ) (y : StreamLog) → i < length ls → ks ≡ set ls i y → HasRoom y → HasRoomAt ks i
room_set ls ks i y less is room = subst (λ (xs : List StreamLog). HasRoomAt xs i) (sym is) (record {
  within = let long = long_set ls i y in omega (arith, less, long);
  room = λ l there. let same : y ≡ l = cc (get_set_here ls i y less) in subst HasRoom same room;
})

-- another log at a place, which says this of the stream
pub logged_set : (ls ks : List StreamLog) (i : ℕ) (x y : StreamLog) (f g : ℕ → List Handed) → i < length ls → x ≡ get_or ls i x → ks ≡ set ls i y →
    (IsStreamLog x (f i) → IsStreamLog y (g i)) → ((j : ℕ) → (j ≡ i → ⊥) → g j ≡ f j) → AreLogged ls f → AreLogged ks g
logged_set ls ks i x y f g less at_it is change same all = subst (λ (xs : List StreamLog). AreLogged xs g) (sym is) (λ (j : ℕ). by j (cases_Bool (j == i)))
  where
    here : IsLogged (slice_get (set ls i y) i) (g i)
    here =
        let old : IsStreamLog x (f i) = subst (λ (o : Option StreamLog). IsLogged o (f i)) (get_at ls i x less at_it) (all i) in
        subst (λ (o : Option StreamLog). IsLogged o (g i)) (sym (get_set_here ls i y less)) (change old)

    there : (j : ℕ) → (j ≡ i → ⊥) → IsLogged (slice_get (set ls i y) j) (g j)
    there j other =
        subst (λ (o : Option StreamLog). IsLogged o (g j)) (sym (get_set_there ls i j y other)) (subst (IsLogged (slice_get ls j)) (sym (same j other)) (all j))

    by : (j : ℕ) → ((j == i) ≡ true) ⊎ ((j == i) ≡ false) → IsLogged (slice_get (set ls i y) j) (g j)
    by j (inl e) = subst (λ (n : ℕ). IsLogged (slice_get (set ls i y) n) (g n)) (sym (eqb-true j i e)) here
    by j (inr e) = there j (λ (is : j ≡ i). grind (arith, common_steps))

-- the same function but for one argument
pub at_here : (f : ℕ → List Handed) (i : ℕ) (hs : List Handed) → at f i hs i ≡ hs
at_here f i hs = let e : (i == i) ≡ true = grind (arith, common_steps) in rw e refl

pub at_there : (f : ℕ → List Handed) (i j : ℕ) (hs : List Handed) → (j ≡ i → ⊥) → at f i hs j ≡ f j
at_there f i j hs other = go (cases_Bool (j == i))
  where
    go : ((j == i) ≡ true) ⊎ ((j == i) ≡ false) → at f i hs j ≡ f j
    go (inl e) = absurd (other (eqb-true j i e))
    go (inr e) = rw e refl

pub on_ok : {A E : Type 0} (r : Result A E) (P Q : Type 0) → (P → Q) → OnOk r P → OnOk r Q
on_ok (Ok x) P Q f p = f p
on_ok (Err x) P Q f p = p

-- a message more of one stream
pub logged_more : (ls ks : List StreamLog) (i : ℕ) (x y : StreamLog) (f : ℕ → List Handed) (h : Handed) → i < length ls → x ≡ get_or ls i x → ks ≡ set ls i y →
    ((hs : List Handed) → IsStreamLog x hs → IsStreamLog y (hs ++ h ∷ [])) → AreLogged ls f → AreLogged ks (at f i (f i ++ h ∷ []))
logged_more ls ks i x y f h less at_it is notes all =
    logged_set ls ks i x y f (at f i (f i ++ h ∷ [])) less at_it is
    (λ old. subst (IsStreamLog y) (sym (at_here f i (f i ++ h ∷ []))) (notes (f i) old)) (λ j other. at_there f i j (f i ++ h ∷ []) other) all
