-- A script has one first fault.
use Rattle.std.proofs.Common.{◌≡◌, ℕ, suc, ◌+◌, ◌<◌, ◌≤◌, inl, inr, Bool, true, false, List, [], ◌∷◌, ◌++◌, length, refl, sym, ap, ◌∙◌, subst, arith, append_assoc, length-append}
use Rattle.std.specs.List.{All}
use Rattle.std.proofs.lemmas.Bool.{cases_lt}
use Rattle.std.proofs.lemmas.List.Elements.{All-head, All-tail}
use Rattle.sctp_words.specs.declared.line_fault.LineFault.{LineFault}
use Rattle.sctp_words.specs.declared.line_fault.LineFault.TheVariants.{TooLong}
use Rattle.sctp_script.specs.Grammar.{Silent, Pairs, Acts, Fault}
use Rattle.sctp_script.specs.Places as places
use Rattle.sctp_script.specs.Places.{Place, Acted, PlacedMeaning, Plain, Configures, SaysPlain, SaysUnlimited, SaysPaired, SaysAt, SaysOneThingAt, has_options}
use Rattle.sctp_text.specs.TextLines.{IsOneLine, is_line_feed, ended, joined, first_length}
use Rattle.sctp_trace.specs.Stages.{Stage, Unpaired, place_of}
use Rattle.sctp_trace.specs.Script.{Does, LineActs, Goes, BeginsWith, HasFirstFault}
use Rattle.sctp_trace.specs.ScriptOneFault.{HasOneFault}
use Rattle.sctp_trace.proofs.ScriptRuns.{first_length-ended}
use Rattle.sctp_text.specs.declared.limits.TheConstants.{LINE_FEED, LONGEST_LINE, LONGEST_TEXT}

-- ---- a text begins with one line

apart : (byte : ℕ) (P : Type 0) → is_line_feed byte ≡ false → byte ≡ LINE_FEED → P
apart byte P other is = let same : is_line_feed byte ≡ true = ap is_line_feed is in cc

pub same_line : (l k : List ℕ) (t u : List ℕ) → IsOneLine l → IsOneLine k → l ++ LINE_FEED ∷ t ≡ k ++ LINE_FEED ∷ u → (l ≡ k) × (t ≡ u)
same_line [] [] t u a b e = (refl, cc)
same_line [] (y ∷ k) t u a b e = apart y (([] ≡ y ∷ k) × (t ≡ u)) (All-head (λ b. is_line_feed b ≡ false) y k b) (cc)
same_line (x ∷ l) [] t u a b e = apart x ((x ∷ l ≡ []) × (t ≡ u)) (All-head (λ b. is_line_feed b ≡ false) x l a) (cc)
same_line (x ∷ l) (y ∷ k) t u a b e =
    let on = same_line l k t u (All-tail (λ b. is_line_feed b ≡ false) x l a) (All-tail (λ b. is_line_feed b ≡ false) y k b) (cc) in
    let first : x ≡ y = cc in
    (ap (λ (z : ℕ). z ∷ l) first ∙ ap (λ (r : List ℕ). y ∷ r) on.0, on.1)

pub not_last : (l k : List ℕ) (t : List ℕ) → IsOneLine k → l ++ LINE_FEED ∷ t ≡ k → ⊥
not_last [] [] t b e = cc
not_last [] (y ∷ k) t b e = apart y ⊥ (All-head (λ b. is_line_feed b ≡ false) y k b) (cc)
not_last (x ∷ l) [] t b e = cc
not_last (x ∷ l) (y ∷ k) t b e = not_last l k t (All-tail (λ b. is_line_feed b ≡ false) y k b) (cc)

unfolded : (l t text : List ℕ) → text ≡ ended l ++ t → text ≡ l ++ LINE_FEED ∷ t
unfolded l t text e = e ∙ append_assoc l (LINE_FEED ∷ []) t

pub begins_once : (end : Type 0) (text l k : List ℕ) → BeginsWith end text l → BeginsWith end text k → l ≡ k
begins_once end text l k (a, inl (t, e)) (b, inl (u, f)) = (same_line l k t u a b (sym (unfolded l t text e) ∙ unfolded k u text f)).0
begins_once end text l k (a, inl (t, e)) (b, inr g) = absurd (not_last l k t b (sym (unfolded l t text e) ∙ g.2))
begins_once end text l k (a, inr g) (b, inl (u, f)) = absurd (not_last k l u a (sym (unfolded k u text f) ∙ g.2))
begins_once end text l k (a, inr g) (b, inr h) = sym g.2 ∙ h.2

-- ---- one meaning, and one fault

abbrev pub OneMeaning : Type 0
OneMeaning = (place : Place) (line : List ℕ) → SaysOneThingAt place line

one_says : OneMeaning → (b : Place) (line : List ℕ) (m n : PlacedMeaning) → SaysAt b line m → SaysAt b line n → m ≡ n
one_says law b line m n s t = (law b line).only m s ∙ sym ((law b line).only n t)

pub two_faults : OneMeaning → (end : Type 0) (b : Place) (given : ℕ) (text : List ℕ) (f g : LineFault)
    → HasFirstFault end b given text f → HasFirstFault end b given text g → f ≡ g
two_faults law end b given text f g (inl (e, long)) (inl (d, too)) = e ∙ sym d
two_faults law end b given text f g (inl (e, long)) (inr (short, rest)) = absurd (short long)
two_faults law end b given text f g (inr (short, rest)) (inl (d, too)) = absurd (short too)
two_faults law end b given text f g (inr (short, (l, begins, has))) (inr (too, (k, starts, also))) =
    let same : l ≡ k = begins_once end text l k begins starts in
    let fault : SaysAt b k (Plain (Fault f)) = subst (λ (line : List ℕ). SaysAt b line (Plain (Fault f))) same has in
    let both = one_says law b k (Plain (Fault f)) (Plain (Fault g)) fault also in cc

-- a line that acts has no fault
no_fault : (m : PlacedMeaning) (f : LineFault) (state after : Stage) (here : List ℕ) → Does state m here after → m ≡ Plain (Fault f) → ⊥
no_fault (Plain Silent) f state after here does e = cc
no_fault (Plain (Pairs c)) f state after here does e = cc
no_fault (Configures a b) f state after here does e = cc
no_fault (Plain (Acts wanted)) f state after here does e = cc
no_fault (Plain (Fault other)) f state after here does e = does

-- a line that says something else than a fault isn't too long
within : (line : List ℕ) → (LONGEST_LINE < length line → ⊥) → length line ≤ LONGEST_LINE
within line short = elim (cases_lt LONGEST_LINE (length line)) [ inl long ↦ absurd (short long) | inr le ↦ le ]

short_plain : (b : Bool) (line : List ℕ) (m : PlacedMeaning) (state after : Stage) (here : List ℕ) → SaysPlain b line m → Does state m here after
    → length line ≤ LONGEST_LINE
short_plain b line (Plain Silent) state after here says does = within line (says.0 TooLong)
short_plain b line (Plain (Pairs c)) state after here says does = within line (says.0 TooLong)
short_plain b line (Plain (Acts wanted)) state after here says does = within line (says.0 TooLong)
short_plain b line (Plain (Fault f)) state after here says does = absurd does
short_plain b line (Configures c d) state after here says does = absurd says

short_unlimited : (line : List ℕ) (m : PlacedMeaning) (state after : Stage) (here : List ℕ) → SaysUnlimited line m → Does state m here after
    → length line ≤ LONGEST_LINE
short_unlimited line (Plain m) state after here (inl (r, args, is, says)) does = is.0
short_unlimited line (Plain m) state after here (inr (none, says)) does = short_plain true line (Plain m) state after here says does
short_unlimited line (Configures c d) state after here says does = absurd says

short_paired : (o : Bool) (line : List ℕ) (m : PlacedMeaning) (state after : Stage) (here : List ℕ)
    → SaysPaired o line m → Does state m here after → length line ≤ LONGEST_LINE
short_paired false line m state after here says does = short_plain true line m state after here says does
short_paired true line m state after here (inl (vs, is, same)) does = is.short
short_paired true line m state after here (inr (none, says)) does = short_unlimited line m state after here says does

short_line : (place : Place) (line : List ℕ) (m : PlacedMeaning) (state after : Stage) (here : List ℕ)
    → SaysAt place line m → Does state m here after → length line ≤ LONGEST_LINE
short_line places.Unpaired line m state after here says does = short_plain false line m state after here says does
short_line (places.Behind o a b) line m state after here (inl options) does = options.2.0
short_line (places.Behind o a b) line m state after here (inr (plain, says)) does = short_paired o line m state after here says does
short_line (places.Acted o) line m state after here says does = short_paired o line m state after here says does

-- both lead to one place
both_placed : (m : PlacedMeaning) (s t p q : Stage) (v w : List ℕ) → Does s m v p → Does t m w q → place_of s ≡ place_of t → place_of p ≡ place_of q
both_placed (Plain Silent) s t p q v w a b e = ap place_of a.1 ∙ e ∙ ap place_of (sym b.1)
both_placed (Plain (Pairs c)) s t p q v w a b e = ap place_of a.3 ∙ ap place_of (sym b.3)
both_placed (Configures c d) s t p q v w a b e = ap place_of a.3 ∙ ap place_of (sym b.3)
both_placed (Plain (Acts wanted)) s t p q v w a b e = ap place_of a.8 ∙ ap (λ (place : Place). Acted (has_options place)) e ∙ ap place_of (sym b.8)
both_placed (Plain (Fault f)) s t p q v w a b e = absurd a

-- a line that acts has no first fault in its place
acts_not : OneMeaning → (end : Type 0) (s after : Stage) (here : List ℕ) (given : ℕ) (l t text : List ℕ) (f : LineFault) → IsOneLine l → text ≡ ended l ++ t
    → given + length (ended l) ≤ LONGEST_TEXT → LineActs s l here after → HasFirstFault end (place_of s) given text f → ⊥
acts_not law end s after here given l t text f a e small acts (inl (is, long)) =
    let first : first_length text ≡ length l = ap first_length (unfolded l t text e) ∙ first_length-ended l t a in
    let short = short_line (place_of s) l acts.0 s after here acts.1 acts.2 in
    elim long [
      | inl h ↦ omega (arith, h, first, short)
      | inr h ↦ omega (arith, h, first, small, length-append l (LINE_FEED ∷ []))
    ]
acts_not law end s after here given l t text f a e small acts (inr (short, (k, begins, has))) =
    let same : k ≡ l = begins_once end text k l begins (a, inl (t, e)) in
    let fault : SaysAt (place_of s) l (Plain (Fault f)) = subst (λ (line : List ℕ). SaysAt (place_of s) line (Plain (Fault f))) same has in
    no_fault acts.0 f s after here acts.2 (one_says law (place_of s) l acts.0 (Plain (Fault f)) acts.1 fault)

moved : (end : Type 0) (b c : Place) (m n : ℕ) (x y : List ℕ) (f : LineFault) → b ≡ c → m ≡ n → x ≡ y → HasFirstFault end b m x f → HasFirstFault end c n y f
moved end b c m n x y f p q r h =
    subst (λ (z : List ℕ). HasFirstFault end c n z f) r (subst (λ (k : ℕ). HasFirstFault end c k x f) q (subst (λ (z : Place). HasFirstFault end z m x f) p h))

-- the size and the text behind a first line
size_on : (given : ℕ) (l : List ℕ) (ls : List (List ℕ)) → given + length (joined (l ∷ ls)) ≡ given + length (ended l) + length (joined ls)
size_on given l ls = omega (arith, length-append (ended l) (joined ls))

-- ---- two ways of lines through one text have their first fault in one place
pub one_place : OneMeaning → (end : Type 0) (text : List ℕ) (front back : List (List ℕ)) (rest tail : List ℕ) (s t p q : Stage) (v w : List ℕ) (given : ℕ) (f g : LineFault)
    → place_of s ≡ place_of t → All IsOneLine front → All IsOneLine back → text ≡ joined front ++ rest → text ≡ joined back ++ tail
    → given + length (joined front) ≤ LONGEST_TEXT → given + length (joined back) ≤ LONGEST_TEXT → Goes s front v p → Goes t back w q
    → HasFirstFault end (place_of p) (given + length (joined front)) rest f → HasFirstFault end (place_of q) (given + length (joined back)) tail g
    → (length front ≡ length back) × (f ≡ g)
one_place law end text [] [] rest tail s t p q v w given f g e a b x y small less goes runs h k =
    let left = moved end (place_of p) (place_of t) (given + length (joined [])) given rest text f (ap place_of goes.1 ∙ e) (omega arith) (sym x) h in
    let right = moved end (place_of q) (place_of t) (given + length (joined [])) given tail text g (ap place_of runs.1) (omega arith) (sym y) k in
    (refl, two_faults law end (place_of t) given text f g left right)
one_place law end text [] (l ∷ back) rest tail s t p q v w given f g e a b x y small less goes runs h k =
    let left = moved end (place_of p) (place_of t) (given + length (joined [])) given rest text f (ap place_of goes.1 ∙ e) (omega arith) (sym x) h in
    absurd (acts_not law end t runs.2 runs.0 given l (joined back ++ tail) text f (All-head IsOneLine l back b) (y ∙ append_assoc (ended l) (joined back) tail)
    (omega (arith, less, size_on given l back)) runs.3 left)
one_place law end text (l ∷ front) [] rest tail s t p q v w given f g e a b x y small less goes runs h k =
    let right = moved end (place_of q) (place_of s) (given + length (joined [])) given tail text g (ap place_of runs.1 ∙ sym e) (omega arith) (sym y) k in
    absurd (acts_not law end s goes.2 goes.0 given l (joined front ++ rest) text g (All-head IsOneLine l front a) (x ∙ append_assoc (ended l) (joined front) rest)
    (omega (arith, small, size_on given l front)) goes.3 right)
one_place law end text (l ∷ front) (k ∷ back) rest tail s t p q v w given f g e a b x y small less goes runs h i =
    let first = unfolded l (joined front ++ rest) text (x ∙ append_assoc (ended l) (joined front) rest) in
    let other = unfolded k (joined back ++ tail) text (y ∙ append_assoc (ended k) (joined back) tail) in
    let same = same_line l k (joined front ++ rest) (joined back ++ tail) (All-head IsOneLine l front a) (All-head IsOneLine k back b) (sym first ∙ other) in
    let says : SaysAt (place_of t) k goes.3.0 = subst (λ (z : Place). SaysAt z k goes.3.0) e (subst (λ (line : List ℕ). SaysAt (place_of s) line goes.3.0) same.0 goes.3.1) in
    let one = one_says law (place_of t) k goes.3.0 runs.3.0 says runs.3.1 in
    let does = subst (λ (m : PlacedMeaning). Does s m goes.0 goes.2) one goes.3.2 in
    let both = both_placed runs.3.0 s t goes.2 runs.2 goes.0 runs.0 does runs.3.2 e in
    let size : length (ended k) ≡ length (ended l) = ap (λ (line : List ℕ). length (ended line)) (sym same.0) in
    let more : given + length (joined (k ∷ back)) ≡ given + length (ended l) + length (joined back) = omega (arith, size_on given k back, size) in
    let left = moved end (place_of p) (place_of p) (given + length (joined (l ∷ front))) (given + length (ended l) + length (joined front)) rest rest f refl (size_on given l front) refl h in
    let right = moved end (place_of q) (place_of q) (given + length (joined (k ∷ back))) (given + length (ended l) + length (joined back)) tail tail g refl more refl i in
    let on = one_place law end (joined front ++ rest) front back rest tail goes.2 runs.2 p q goes.1 runs.1 (given + length (ended l)) f g both
    (All-tail IsOneLine l front a) (All-tail IsOneLine k back b) refl same.1 (omega (arith, small, size_on given l front)) (omega (arith, less, more)) goes.4 runs.4 left right in
    (ap suc on.0, on.1)

pub has_one_fault : OneMeaning → (text : List ℕ) → HasOneFault text
has_one_fault law text m n fault other v w a b =
    let at = one_place law (Unit {0}) text a.front b.front a.rest b.rest Unpaired Unpaired a.stage b.stage v w 0 fault other refl a.before.each b.before.each a.before.whole b.before.whole
    (omega (arith, a.before.small)) (omega (arith, b.before.small)) a.before.goes b.before.goes
    (moved (Unit {0}) (place_of a.stage) (place_of a.stage) (length (joined a.front)) (0 + length (joined a.front)) a.rest a.rest fault refl (omega arith) refl a.has)
    (moved (Unit {0}) (place_of b.stage) (place_of b.stage) (length (joined b.front)) (0 + length (joined b.front)) b.rest b.rest other refl (omega arith) refl b.has) in
    (a.number ∙ ap suc at.0 ∙ sym b.number, at.1)
