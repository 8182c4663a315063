-- Lines of a script one after another, and how far a text was read with them.
use Rattle.std.proofs.Common.{◌≡◌, ℕ, suc, ◌+◌, ◌≤◌, Bool, true, false, cond, List, [], ◌∷◌, ◌++◌, length, None, refl, sym, ap, ◌∙◌, arith, append_assoc, append-nil, length-append}
use Rattle.std.specs.Prelude.{not}
use Rattle.std.specs.List.{All}
use Rattle.std.proofs.lemmas.List.Elements.{All-append, All-head, All-tail}
use Rattle.std.proofs.lemmas.Grind.{flat_map-append}
use Rattle.sctp_script.specs.Grammar.{Silent, Pairs, Acts, Fault}
use Rattle.sctp_script.specs.Places.{PlacedMeaning, Plain, Configures}
use Rattle.sctp_trace.specs.Stages.{Stage, Unpaired, SetUp, Reached, world_of}
use Rattle.sctp_text.specs.TextLines.{Reading, HasGiven, IsOneLine, is_line_feed, ended, joined, first_length}
use Rattle.sctp_trace.specs.declared.script.Running.{Running}
use Rattle.sctp_trace.specs.Script.{Does, LineActs, Goes, IsFront}
use Rattle.sctp_trace.specs.inner.ScriptSteps.{IsSoFar}
use Rattle.sctp_text.specs.declared.limits.TheConstants.{LINE_FEED, LONGEST_TEXT}

-- ---- lines one after another

-- one line more
pub goes-push : (lines : List (List ℕ)) (line : List ℕ) (state mid after : Stage) (done here : List ℕ)
    → Goes state lines done mid → LineActs mid line here after → Goes state (lines ++ line ∷ []) (done ++ here) after
goes-push [] line state mid after done here goes acts =
    let now : LineActs state line here after = rw goes.1 at acts in
    rw (goes.0) (here, [], after, now, (refl, refl), sym (append-nil here))
goes-push (l ∷ lines) line state mid after done here goes acts =
    (goes.0, goes.1 ++ here, goes.2, goes.3, goes-push lines line goes.2 mid after goes.1 here goes.4 acts, ap (λ (bytes : List ℕ). bytes ++ here) goes.5 ∙ append_assoc goes.0 goes.1 here)

-- more lines
pub goes-append : (lines more : List (List ℕ)) (state mid after : Stage) (done further : List ℕ)
    → Goes state lines done mid → Goes mid more further after → Goes state (lines ++ more) (done ++ further) after
goes-append [] more state mid after done further goes on = rw (goes.0, ← goes.1) on
goes-append (l ∷ lines) more state mid after done further goes on =
    (goes.0, goes.1 ++ further, goes.2, goes.3, goes-append lines more goes.2 mid after goes.1 further goes.4 on, ap (λ (bytes : List ℕ). bytes ++ further) goes.5 ∙ append_assoc goes.0 goes.1 further)

-- a line that leaves no pair writes nothing, and there was none before it
none_does : (m : PlacedMeaning) (state after : Stage) (here : List ℕ) → Does state m here after → world_of after ≡ None → (world_of state ≡ None) × (here ≡ [])
none_does (Plain Silent) state after here does e = (ap world_of (sym does.1) ∙ e, does.0)
none_does (Plain (Pairs c)) state after here does e = let some = ap world_of does.3 in cc
none_does (Configures a b) state after here does e = let some = ap world_of does.3 in cc
none_does (Plain (Acts wanted)) state after here does e = let some = ap world_of does.8 in cc
none_does (Plain (Fault fault)) state after here does e = absurd does

pub goes_none : (lines : List (List ℕ)) (state after : Stage) (done : List ℕ) → Goes state lines done after → world_of after ≡ None
    → (world_of state ≡ None) × (done ≡ [])
goes_none [] state after done goes e = (ap world_of (sym goes.1) ∙ e, goes.0)
goes_none (l ∷ lines) state after done goes e =
    let behind = goes_none lines goes.2 after goes.1 goes.4 e in
    let first = none_does goes.3.0 state goes.2 goes.0 goes.3.2 behind.0 in
    (first.0, goes.5 ∙ ap (λ (bytes : List ℕ). bytes ++ goes.1) first.1 ∙ behind.1)

-- a stage without a world is the one before the pair
pub no_world_yet : (state : Stage) → world_of state ≡ None → state ≡ Unpaired
no_world_yet Unpaired e = refl
no_world_yet (SetUp o a b s) e = cc
no_world_yet (Reached o w) e = cc

-- ---- first lines that go on

-- lines that go on behind first lines write more behind what those wrote
pub front_goes_on : (text : List ℕ) (front more : List (List ℕ)) (rest behind done further : List ℕ) (state after : Stage)
    → IsFront text front rest done state → All IsOneLine more → rest ≡ joined more ++ behind → length (joined (front ++ more)) ≤ LONGEST_TEXT
    → Goes state more further after → IsFront text (front ++ more) behind (done ++ further) after
front_goes_on text front more rest behind done further state after is each on small goes = record {
  each = All-append IsOneLine front more is.each each;
  whole = is.whole ∙ ap (λ (bytes : List ℕ). joined front ++ bytes) on ∙ sym (append_assoc (joined front) (joined more) behind)
      ∙ ap (λ (bytes : List ℕ). bytes ++ behind) (sym (flat_map-append ended front more));
  small = small;
  goes = goes-append front more Unpaired state after done further is.goes goes;
}

-- ---- what was read

pub text_behind : (text : List ℕ) (lines : List (List ℕ)) (now : Reading) (bytes rest : List ℕ)
    → HasGiven text lines now → now.held ++ bytes ≡ rest → text ++ bytes ≡ joined lines ++ rest
text_behind text lines now bytes rest has on =
    ap (λ (list : List ℕ). list ++ bytes) has.whole ∙ append_assoc (joined lines) now.held bytes ∙ ap (λ (list : List ℕ). joined lines ++ list) on

pub front_of : (s : Running) (text done : List ℕ) (lines : List (List ℕ)) (state : Stage) (bytes rest : List ℕ)
    → IsSoFar s text done lines state → s.lines.given ≤ LONGEST_TEXT → s.lines.held ++ bytes ≡ rest → IsFront (text ++ bytes) lines rest done state
front_of s text done lines state bytes rest so small on = record {
  each = so.given.each;
  whole = text_behind text lines s.lines bytes rest so.given on;
  small = omega (arith, so.given.count, small);
  goes = so.goes;
}

-- the length of what was read, where the lines that were given and a last one are all
pub length_read : (s : Running) (text done : List ℕ) (lines : List (List ℕ)) (state : Stage) (bytes rest : List ℕ)
    → IsSoFar s text done lines state → s.lines.held ++ bytes ≡ rest → length (text ++ bytes) ≡ s.lines.given + length rest
length_read s text done lines state bytes rest so on =
    ap length (text_behind text lines s.lines bytes rest so.given on) ∙ length-append (joined lines) rest ∙ ap (λ (n : ℕ). n + length rest) (sym so.given.count)

-- a first line has its length
length_at : (m n : ℕ) (b : Bool) → b ≡ false → m ≡ n → cond (not b) (1 + m) 0 ≡ suc n
length_at m n true is e = cc
length_at m n false is e = omega (arith, e)

pub first_length-ended : (line tail : List ℕ) → IsOneLine line → first_length (line ++ LINE_FEED ∷ tail) ≡ length line
first_length-ended [] tail one = refl
first_length-ended (byte ∷ line) tail one =
    length_at (first_length (line ++ LINE_FEED ∷ tail)) (length line) (is_line_feed byte) (All-head (λ b. is_line_feed b ≡ false) byte line one) (first_length-ended line tail (All-tail (λ b. is_line_feed b ≡ false) byte line one))

pub first_length-last : (line : List ℕ) → IsOneLine line → first_length line ≡ length line
first_length-last [] one = refl
first_length-last (byte ∷ line) one =
    length_at (first_length line) (length line) (is_line_feed byte) (All-head (λ b. is_line_feed b ≡ false) byte line one) (first_length-last line (All-tail (λ b. is_line_feed b ≡ false) byte line one))
