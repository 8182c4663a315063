-- Line after line: what is written is the answers to the lines that were given.
use Rattle.std.proofs.Common.{◌≡◌, ℕ, ◌+◌, ◌<◌, ◌==◌, if◌then◌else◌, Bool, List, [], ◌∷◌, ◌++◌, length, Result, Ok, Err, inl, inr, arith, refl, sym, ap, ◌∙◌, subst, append_assoc, append-nil}
use Rattle.std.proofs.lemmas.Bool.{cond-false, ne_eqb}
use Rattle.sctp_model.specs.end.EndView.{Draw, EndView}
use Rattle.sctp_endpoint.specs.Counted.{Counted, none_counted}
use Rattle.sctp_endpoint.specs.EndpointStands.{EndpointStands}
use Rattle.sctp_text.specs.declared.line_reader.NextLine.{NextLine}
use Rattle.sctp_text.specs.declared.line_reader.ReadFault.{ReadFault}
use Rattle.sctp_text.specs.declared.limits.TheConstants.{LONGEST_LINE}
use Rattle.sctp_text.specs.declared.line_reader.SkippedLine.{SkippedLine}
use Rattle.sctp_text.specs.declared.source_sink.Failed.{Failed}
use Rattle.sctp_text.specs.SkippedLines.{Skips, IsLong, CountsOn, IsSkipped}
use Rattle.sctp_text.specs.TextLines.{Reading, HasGiven, IsTooLong, SplitInOneWay, joined, lines_of}
use Rattle.sctp_text.specs.NextLineAnswer.{given_by, IsAnswer, GivesOn, LeadsOn}
use Rattle.sctp_end.specs.declared.run.RunFault.{RunFault}
use Rattle.sctp_end.specs.declared.session.Session.{Session}
use Rattle.sctp_end.specs.declared.reply.Reply.TheVariants as reply
use Rattle.sctp_end.specs.Answering.{AnswersLine, Answers, Faulty, IsAnswered, Begins, IsBegun}
use Rattle.sctp_end.specs.declared.command_line.TheConstants.{DONE, FAILED}
use Rattle.sctp_end.specs.ExitStatus.{Runs}
use Rattle.sctp_end.specs.SetUpWords.{first_standing}
use Rattle.sctp_end.specs.Performing.{Standing}
use Rattle.sctp_end.specs.ReplyText.{reply_line}
use Rattle.sctp_end.specs.SessionStands.{standing}
use Rattle.sctp_end.specs.inner.Running.{IsWritten, LineLeaves, IsSoFar, RunsOn}
use Rattle.sctp_words.specs.Lines.{kind_of}
use Rattle.sctp_words.specs.declared.line_fault.LineFault.{LineFault}
use Rattle.sctp_words.specs.declared.line_fault.LineFault.TheVariants.{TooLong, UnknownCommand, WordCount, BadValue, PairOrder}

-- ---- answers

-- one line more
pub answers_push : (first : Standing) (lines : List (List ℕ)) (done : List ℕ) (state : Standing) (line here : List ℕ) (after : Standing)
    → Answers first lines done state → AnswersLine state line here after → Answers first (lines ++ line ∷ []) (done ++ here) after
answers_push first [] done state line here after (none, same) answers = (
  here,
  [],
  after,
  subst (λ (s : Standing). AnswersLine s line here after) same answers,
  (refl, refl),
  ap (λ (bytes : List ℕ). bytes ++ here) none ∙ sym (append-nil here),
)
answers_push first (l ∷ ls) done state line here after (this, behind, mid, said, others, whole) answers = (
  this,
  behind ++ here,
  mid,
  said,
  answers_push mid ls behind state line here after others answers,
  ap (λ (bytes : List ℕ). bytes ++ here) whole ∙ append_assoc this behind here,
)

-- what is written of one answer
pub line_told : (result : Result (Unit {0}) RunFault) (s : Standing) (line whole written : List ℕ) (w : EndView) (new : Session)
    → AnswersLine s line whole (standing new w) → EndpointStands new.endpoint w → IsWritten result whole written → LineLeaves result s line written new
line_told (Ok u) s line whole written w new answers stands is =
    (w, subst (λ (here : List ℕ). AnswersLine s line here (standing new w)) (sym is) answers, stands)
line_told (Err fault) s line whole written w new answers stands begins = (whole, standing new w, answers, begins)

-- a line that is too long has this fault first
first_of_all : (other : LineFault) → kind_of other < 1 → ⊥
first_of_all TooLong below = omega (arith, below)
first_of_all UnknownCommand below = omega (arith, below)
first_of_all WordCount below = omega (arith, below)
first_of_all BadValue below = omega (arith, below)
first_of_all PairOrder below = omega (arith, below)

pub long_answered : (s : Standing) (line : List ℕ) → LONGEST_LINE < length line → AnswersLine s line (reply_line (reply.Fault TooLong)) s
long_answered s line long = Faulty TooLong (long, λ other below has. first_of_all other below)

-- ---- the lines of the text

-- the lines of what was read: those that were given, and those of what follows
pub lines_behind : ((lines : List (List ℕ)) (rest : List ℕ) → SplitInOneWay lines rest) → (text : List ℕ) (lines : List (List ℕ)) (now : Reading) (bytes : List ℕ)
    → HasGiven text lines now → lines_of (text ++ bytes) ≡ lines ++ lines_of (now.held ++ bytes)
lines_behind split text lines now bytes has =
    ap (λ (front : List ℕ). lines_of (front ++ bytes)) has.whole
    ∙ ap lines_of (append_assoc (joined lines) now.held bytes)
    ∙ (split lines (now.held ++ bytes)).all has.each

pub lines_so_far : ((lines : List (List ℕ)) (rest : List ℕ) → SplitInOneWay lines rest) → (text : List ℕ) (lines : List (List ℕ)) (now : Reading)
    → HasGiven text lines now → lines_of text ≡ lines ++ lines_of now.held
lines_so_far split text lines now has = ap lines_of has.whole ∙ (split lines now.held).all has.each

-- what the reader of lines gives, by the law of its answers
pub gives_on : ((text : List ℕ) (lines : List (List ℕ)) (now : Reading) (bytes : List ℕ) (answer : Result NextLine ReadFault) (after : Reading)
    → LeadsOn text lines now bytes answer after) → (text : List ℕ) (lines : List (List ℕ)) (now : Reading) (bytes : List ℕ) (x y : NextLine) (after : Reading) → x ≡ y
    → HasGiven text lines now → now.held ++ bytes ≡ given_by (Ok x) ++ after.held → after.given ≡ now.given + length (given_by (Ok x)) → IsAnswer (Ok x) after
    → GivesOn (text ++ bytes) lines (Ok y) after × IsAnswer (Ok y) after
gives_on law text lines now bytes x y after same has whole count is =
    subst (λ (z : NextLine). GivesOn (text ++ bytes) lines (Ok z) after × IsAnswer (Ok z) after) same (law text lines now bytes (Ok x) after has whole count is, is)

-- ---- how it goes on

-- a line was given and answered
pub goes_on : (first : Standing) (old new : Session) (before after : Reading) (text written : List ℕ) (lines : List (List ℕ)) (bytes line here : List ℕ) (w : EndView)
    → (so : IsSoFar first old before text written lines) → HasGiven (text ++ bytes) (lines ++ line ∷ []) after
    → AnswersLine (standing old so.view) line here (standing new w) → EndpointStands new.endpoint w
    → IsSoFar first new after (text ++ bytes) (written ++ here) (lines ++ line ∷ [])
goes_on first old new before after text written lines bytes line here w so given answers stands =
    record { given = given; view = w; answers = answers_push first lines written _ line here _ so.answers answers; stands = stands }

-- the last line was answered
pub ends_with : (first : Standing) (old : Session) (before : Reading) (text written : List ℕ) (lines : List (List ℕ)) (all line here : List ℕ) (after : Standing)
    → (so : IsSoFar first old before text written lines) → lines_of all ≡ lines ++ line ∷ [] → AnswersLine (standing old so.view) line here after
    → IsAnswered first all (written ++ here)
ends_with first old before text written lines all line here after so is answers =
    (after, subst (λ (ls : List (List ℕ)). Answers first ls (written ++ here) after) (sym is) (answers_push first lines written _ line here after so.answers answers))

-- no line was left
pub ends_there : (first : Standing) (old : Session) (before : Reading) (text written : List ℕ) (lines : List (List ℕ)) (all : List ℕ)
    → (so : IsSoFar first old before text written lines) → lines_of all ≡ lines → IsAnswered first all (written ++ [])
ends_there first old before text written lines all so is =
    subst (λ (bytes : List ℕ). IsAnswered first all bytes) (sym (append-nil written))
    (standing old so.view, subst (λ (ls : List (List ℕ)). Answers first ls written (standing old so.view)) (sym is) so.answers)

-- it stopped before a line was answered
pub stops_before : (first : Standing) (old : Session) (before : Reading) (text written : List ℕ) (lines behind : List (List ℕ)) (all : List ℕ)
    → (so : IsSoFar first old before text written lines) → lines_of all ≡ lines ++ behind → IsBegun first all (written ++ [])
stops_before first old before text written lines behind all so is = record {
  front = lines;
  behind = behind;
  whole = written;
  after = standing old so.view;
  lines = is;
  answers = so.answers;
  begins = ([], sym (append-nil (written ++ []) ∙ append-nil written));
}

-- it stopped while a line was answered
pub stops_within : (first : Standing) (old : Session) (before : Reading) (text written : List ℕ) (lines behind : List (List ℕ)) (all line whole here : List ℕ) (after : Standing)
    → (so : IsSoFar first old before text written lines) → lines_of all ≡ (lines ++ line ∷ []) ++ behind → AnswersLine (standing old so.view) line whole after
    → Begins here whole → IsBegun first all (written ++ here)
stops_within first old before text written lines behind all line whole here after so is answers (more, begins) = record {
  front = lines ++ line ∷ [];
  behind = behind;
  whole = written ++ whole;
  after = after;
  lines = is;
  answers = answers_push first lines written _ line whole after so.answers answers;
  begins = (more, ap (λ (bytes : List ℕ). written ++ bytes) begins ∙ sym (append_assoc written here more));
}

-- a line that is too long is there
pub some_line : (line : List ℕ) → LONGEST_LINE < length line → (if length line == 0 then [] else line ∷ []) ≡ line ∷ []
some_line line long = cond-false (length line == 0) [] (line ∷ []) (ne_eqb (length line) 0 (λ none. omega (arith, long, none)))

-- what was read first and then is read as one
pub moved_on : (first : Standing) (end : Type 0) (result : Result Bool RunFault) (new : Session) (after : Reading) (text a b written : List ℕ)
    → RunsOn end first result new after ((text ++ a) ++ b) written → RunsOn end first result new after (text ++ (a ++ b)) written
moved_on first end result new after text a b written runs =
    subst (λ (all : List ℕ). RunsOn end first result new after all written) (append_assoc text a b) runs

-- what the reader of lines skips, by the law of what it skips
pub skips_on : ((text : List ℕ) (lines : List (List ℕ)) (now : Reading) (bytes : List ℕ) (answer : Result SkippedLine Failed) (after : Reading)
    → IsSkipped text lines now bytes answer after) → (text : List ℕ) (lines : List (List ℕ)) (now : Reading) (bytes : List ℕ) (x y : SkippedLine) (after : Reading) → x ≡ y
    → HasGiven text lines now → IsTooLong now.given now.held → Skips now bytes (Ok x) after
    → (line : List ℕ) × IsLong (Ok y) line × CountsOn (text ++ bytes) lines (Ok y) line after
skips_on law text lines now bytes x y after same has long skips =
    let this = subst (λ (z : SkippedLine). Skips now bytes (Ok z) after) same skips in
    let says = law text lines now bytes (Ok y) after in
    (this.line, says.long this long, says.counts this has)

-- ---- the whole run

-- how the lines were answered from the first standing on
same_first : (v : EndView) (counts : Counted) (draw : Draw) → counts ≡ none_counted → draw ≡ record { tag = 1; tsn = 1 }
    → record { view = v; counts = counts; draw = draw; now = 0 } ≡ first_standing v
same_first v counts draw none is = λ i. record { view = v; counts = none i; draw = is i; now = 0 }

pub ran_whole : (end : Type 0) (v : EndView) (counts : Counted) (draw : Draw) (read written : List ℕ) → counts ≡ none_counted → draw ≡ record { tag = 1; tsn = 1 }
    → end × IsAnswered (record { view = v; counts = counts; draw = draw; now = 0 }) read written → Runs end (first_standing v) DONE read written
ran_whole end v counts draw read written none is (over, answered) =
    inl (refl, over, subst (λ (s : Standing). IsAnswered s read written) (same_first v counts draw none is) answered)

pub ran_partly : (end : Type 0) (v : EndView) (counts : Counted) (draw : Draw) (read written : List ℕ) → counts ≡ none_counted → draw ≡ record { tag = 1; tsn = 1 }
    → IsBegun (record { view = v; counts = counts; draw = draw; now = 0 }) read written → Runs end (first_standing v) FAILED read written
ran_partly end v counts draw read written none is begun =
    inr (refl, subst (λ (s : Standing). IsBegun s read written) (same_first v counts draw none is) begun)
