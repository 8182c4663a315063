-- LINES is defined for every text: first lines without a fault go on to the first line with one, or to the last that a line feed ends.
use Rattle.std.proofs.Common.{◌≡◌, ℕ, ◌+◌, ◌<◌, ◌≤◌, ◌⊎◌, inl, inr, true, false, List, [], ◌∷◌, ◌++◌, length, Option, Some, None, refl, sym, ap, ◌∙◌, subst, arith, append_assoc, length-append}
use Rattle.std.specs.List.{All}
use Rattle.std.proofs.lemmas.Bool.{cases_lt}
use Rattle.std.proofs.lemmas.List.Elements.{All-nil, All-cons, All-head, All-tail}
use Rattle.sctp_model.specs.end.Sealing.{Sealing}
use Rattle.sctp_model.specs.world.World.{World, start}
use Rattle.sctp_model.specs.world.Events.{Event, OpenBoth, Later, Moment, At, Drawing, Connect, Build, Deliver, Foreign, Send, Abandon, Take, Reset, WasReset, Shutdown, Abort}
use Rattle.sctp_cookie.specs.Seals.{IsUnder}
use Rattle.sctp_packet.specs.PacketLaws.{ReadInOneWay}
use Rattle.sctp_outcomes.specs.Outcomes.{CanHappen, EventsHaveOutcomes}
use Rattle.sctp_events.specs.Events.{Wanted, Happens, BringsBytes}
use Rattle.sctp_pair.specs.Happens.{IsMeant}
use Rattle.sctp_words.specs.declared.line_fault.LineFault.TheVariants.{TooLong}
use Rattle.sctp_script.specs.CanBe.{CanBe}
use Rattle.sctp_script.specs.Grammar.{Silent, Pairs, Acts, Fault, Says}
use Rattle.sctp_script.specs.Places.{Place, PlacedMeaning, Plain, Configures, SaysAt, SaysOneThingAt, is_paired, has_options}
use Rattle.sctp_events.specs.Alike.{turned_round}
use Rattle.sctp_events.specs.Setups.{setup_with}
use Rattle.sctp_trace.specs.Stages.{LISTENER_KEY, Stage, Unpaired, SetUp, Reached, place_of, world_of}
use Rattle.sctp_trace.proofs.ScriptReached.{IsReached, one_step, run_to, all_lines}
use Rattle.sctp_text.specs.TextLines.{SplitInOneWay}
use Rattle.sctp_text.specs.TextLines as split
use Rattle.sctp_text.specs.TextLines.{IsOneLine, IsTooLong, ended, joined, ended_lines_of, first_length, first_end}
use Rattle.sctp_script.specs.OutcomeText.{outcome_line}
use Rattle.sctp_trace.specs.Script.{Does, Goes, IsFront, Stops, IsLines}
use Rattle.sctp_trace.proofs.ScriptRuns.{first_length-ended, front_goes_on}
use Rattle.sctp_text.specs.declared.limits.TheConstants.{LINE_FEED, LONGEST_LINE, LONGEST_TEXT}

-- the laws of the script's grammar, of its lines, of packets and seals, and of the world of two ends
pub record Laws : Type 0 where
  pub one_meaning : (place : Place) (line : List ℕ) → SaysOneThingAt place line
  pub events_follow : (place : Place) (line : List ℕ) (wanted : Wanted) → SaysAt place line (Plain (Acts wanted)) → is_paired place ≡ true
  pub can_be : (place : Place) (line : List ℕ) (wanted : Wanted) → SaysAt place line (Plain (Acts wanted)) → CanBe wanted
  pub splits : (lines : List (List ℕ)) (rest : List ℕ) → SplitInOneWay lines rest
  pub lines : (text : List ℕ) → split.IsLines text
  pub packets : (bytes : List ℕ) → ReadInOneWay bytes
  pub seals : (key : List ℕ) → (s : Sealing) × IsUnder key s
  pub outcomes : EventsHaveOutcomes

-- ---- one line

-- the event of the world that a line asks for
pub record HasEvent (wanted : Wanted) : Type 0 where
  pub event : Event
  pub meant : IsMeant wanted event
  pub can : (w : World) → CanHappen w event

is_event : (e : Event) → CanBe (Happens e) → HasEvent (Happens e)
is_event (OpenBoth x y) can = record { event = OpenBoth x y; meant = refl; can = λ w. can }
is_event (Later s m) can = record { event = Later s m; meant = refl; can = λ w. can }
is_event (Moment s) can = record { event = Moment s; meant = refl; can = λ w. tt }
is_event (At m) can = record { event = At m; meant = refl; can = λ w. can }
is_event (Drawing d) can = record { event = Drawing d; meant = refl; can = λ w. can }
is_event (Connect d) can = record { event = Connect d; meant = refl; can = λ w. can }
is_event (Build s) can = record { event = Build s; meant = refl; can = λ w. tt }
is_event (Deliver s n) can = record { event = Deliver s n; meant = refl; can = λ w. tt }
is_event (Foreign s p) can = absurd can
is_event (Send s call) can = record { event = Send s call; meant = refl; can = λ w. tt }
is_event (Abandon s k) can = record { event = Abandon s k; meant = refl; can = λ w. tt }
is_event (Take s n) can = record { event = Take s n; meant = refl; can = λ w. tt }
is_event (Reset s n) can = record { event = Reset s n; meant = refl; can = λ w. tt }
is_event (WasReset s) can = record { event = WasReset s; meant = refl; can = λ w. tt }
is_event (Shutdown s) can = record { event = Shutdown s; meant = refl; can = λ w. tt }
is_event (Abort s reason) can = record { event = Abort s reason; meant = refl; can = λ w. tt }

has_event : ((bytes : List ℕ) → ReadInOneWay bytes) → (wanted : Wanted) → CanBe wanted → HasEvent wanted
has_event packets (Happens e) can = is_event e can
has_event packets (BringsBytes s bytes) can = elim ((packets bytes).one_of_them can) [
  | inl reads ↦ record { event = Foreign s (Some reads.0); meant = (Some reads.0, reads.1, refl); can = λ w. reads.1.chunks.placed }
  | inr fault ↦ record { event = Foreign s None; meant = (None, fault, refl); can = λ w. tt }
]

-- what a line without a fault says is done
pub record IsDone (state : Stage) (m : PlacedMeaning) : Type 0 where
  pub written : List ℕ
  pub after : Stage
  pub does : Does state m written after
  pub reached : IsReached after

-- a stage behind the `pair` line has a world
has_world : (state : Stage) → is_paired (place_of state) ≡ true → (w : World) × (world_of state ≡ Some w)
has_world Unpaired paired = cc
has_world (SetUp o a b s) paired = (start (setup_with a b s), refl)
has_world (Reached o w) paired = (w, refl)

done_event : EventsHaveOutcomes → (state : Stage) (wanted : Wanted) → HasEvent wanted → IsReached state → is_paired (place_of state) ≡ true
    → IsDone state (Plain (Acts wanted))
done_event outcomes state wanted its reached paired =
    let (w, was) = has_world state paired in
    let run = run_to state w reached was in
    let told = outcomes run.setup run.events run.answers w run.run its.event (its.can w) in
    record {
      written = outcome_line wanted told.0;
      after = Reached (has_options (place_of state)) told.1;
      does = (w, told.1, its.event, told.0, its.meant, was, told.2, refl, refl);
      reached = one_step w told.1 its.event told.0 run told.2;
    }

-- a line has a fault, or is done
one_line : (laws : Laws) (state : Stage) (line : List ℕ) (m : PlacedMeaning) → IsReached state → SaysAt (place_of state) line m
    → ((f : _) × (m ≡ Plain (Fault f))) ⊎ IsDone state m
one_line laws state line (Plain Silent) reached says = inr (record { written = []; after = state; does = (refl, refl); reached = reached })
one_line laws state line (Plain (Pairs c)) reached says =
    let s = laws.seals LISTENER_KEY in
    inr (record { written = []; after = SetUp false c (turned_round c) s.0; does = (s.0, s.1, refl, refl); reached = tt })
one_line laws state line (Configures a b) reached says =
    let s = laws.seals LISTENER_KEY in
    inr (record { written = []; after = SetUp true a b s.0; does = (s.0, s.1, refl, refl); reached = tt })
one_line laws state line (Plain (Acts wanted)) reached says =
    let its = has_event laws.packets wanted (laws.can_be (place_of state) line wanted says) in
    inr (done_event laws.outcomes state wanted its reached (laws.events_follow (place_of state) line wanted says))
one_line laws state line (Plain (Fault f)) reached says = inl (f, refl)

-- whether the next line is too long is decided
long_or_not : (given : ℕ) (text : List ℕ) → IsTooLong given text ⊎ (IsTooLong given text → ⊥)
long_or_not given text = go (cases_lt LONGEST_LINE (first_length text)) (cases_lt LONGEST_TEXT (given + first_end text))
  where
    go : (LONGEST_LINE < first_length text) ⊎ (first_length text ≤ LONGEST_LINE) → (LONGEST_TEXT < given + first_end text) ⊎ (given + first_end text ≤ LONGEST_TEXT)
        → IsTooLong given text ⊎ (IsTooLong given text → ⊥)
    go (inl h) b = inl (inl h)
    go (inr h) (inl k) = inl (inr k)
    go (inr h) (inr k) = inr (λ long. elim long [
      | inl l ↦ omega (arith, l, h)
      | inr l ↦ omega (arith, l, k)
    ])

-- Lines go on up to the first fault, or as far as line feeds end them.
pub record GoesOn (state : Stage) (given : ℕ) (rest : List ℕ) : Type 0 where
  pub more : List (List ℕ)
  pub behind : List ℕ
  pub written : List ℕ
  pub after : Stage
  pub each : All IsOneLine more
  pub whole : rest ≡ joined more ++ behind
  pub small : given + length (joined more) ≤ LONGEST_TEXT
  pub goes : Goes state more written after
  pub stops : Stops after (given + length (joined more)) behind

stop_here : (state : Stage) (given : ℕ) (rest : List ℕ) → given ≤ LONGEST_TEXT → Stops state given rest → GoesOn state given rest
stop_here state given rest small stops = record {
  more = [];
  behind = rest;
  written = [];
  after = state;
  each = All-nil IsOneLine;
  whole = refl;
  small = omega (arith, small);
  goes = (refl, refl);
  stops = subst (λ (n : ℕ). Stops state n rest) (omega arith) stops;
}

go_on : Laws → (ls : List (List ℕ)) (state : Stage) (given : ℕ) (rest tail : List ℕ) → IsReached state → All IsOneLine ls → IsOneLine tail
    → rest ≡ joined ls ++ tail → given ≤ LONGEST_TEXT → GoesOn state given rest
go_on laws [] state given rest tail reached each one whole small =
    stop_here state given rest small (inl (ap ended_lines_of whole ∙ (laws.splits [] tail).none_ended one))
go_on laws (l ∷ ls) state given rest tail reached each one whole small =
    decide (λ after on within. go_on laws ls after (given + length (ended l)) (joined ls ++ tail) tail on (All-tail IsOneLine l ls each) one refl within) (long_or_not given rest)
  where
    Behind : Type 0
    Behind = (after : Stage) → IsReached after → given + length (ended l) ≤ LONGEST_TEXT → GoesOn after (given + length (ended l)) (joined ls ++ tail)

    here : IsOneLine l
    here = All-head IsOneLine l ls each

    begins : rest ≡ ended l ++ (joined ls ++ tail)
    begins = whole ∙ append_assoc (ended l) (joined ls) tail

    size : length (ended l) ≡ length l + 1
    size = length-append l (LINE_FEED ∷ [])

    first : first_length rest ≡ length l
    first = ap first_length (begins ∙ append_assoc l (LINE_FEED ∷ []) (joined ls ++ tail)) ∙ first_length-ended l (joined ls ++ tail) here

    within : (IsTooLong given rest → ⊥) → given + length (ended l) ≤ LONGEST_TEXT
    within short = go (cases_lt LONGEST_TEXT (given + length (ended l)))
      where
        go : (LONGEST_TEXT < given + length (ended l)) ⊎ (given + length (ended l) ≤ LONGEST_TEXT) → given + length (ended l) ≤ LONGEST_TEXT
        go (inl more) = absurd (short (inr (omega (arith, more, size, first, ap length begins, length-append (ended l) (joined ls ++ tail)))))
        go (inr less) = less

    behind_here : Behind → (m : PlacedMeaning) → SaysAt (place_of state) l m → IsDone state m → (IsTooLong given rest → ⊥) → GoesOn state given rest
    behind_here behind m says done short =
        let next = behind done.after done.reached (within short) in
        let count : given + length (joined (l ∷ next.more)) ≡ given + length (ended l) + length (joined next.more) =
        omega (arith, length-append (ended l) (joined next.more)) in
        record {
          more = l ∷ next.more;
          behind = next.behind;
          written = done.written ++ next.written;
          after = next.after;
          each = All-cons IsOneLine l next.more here next.each;
          whole = begins ∙ ap (λ (bytes : List ℕ). ended l ++ bytes) next.whole ∙ sym (append_assoc (ended l) (joined next.more) next.behind);
          small = omega (arith, next.small, count);
          goes = (done.written, next.written, done.after, (m, says, done.does), next.goes, refl);
          stops = subst (λ (n : ℕ). Stops next.after n next.behind) (sym count) next.stops;
        }

    acts : Behind → (m : PlacedMeaning) → SaysAt (place_of state) l m → ((f : _) × (m ≡ Plain (Fault f))) ⊎ IsDone state m → (IsTooLong given rest → ⊥) → GoesOn state given rest
    acts behind m says (inl (f, is)) short =
        stop_here state given rest small (inr (f, inr (short, (l, (here, inl (joined ls ++ tail, begins)), rw is at says))))
    acts behind m says (inr done) short = behind_here behind m says done short

    decide : Behind → IsTooLong given rest ⊎ (IsTooLong given rest → ⊥) → GoesOn state given rest
    decide behind (inl long) = stop_here state given rest small (inr (TooLong, inl (refl, long)))
    decide behind (inr short) =
        let one_thing = laws.one_meaning (place_of state) l in
        acts behind one_thing.meaning one_thing.says (one_line laws state l one_thing.meaning reached one_thing.says) short

-- what first lines of a text wrote is a beginning of what is written for all
pub record LinesBehind (text written : List ℕ) : Type 0 where
  pub lines : List ℕ
  pub more : List ℕ
  pub are : IsLines text lines
  pub begins : lines ≡ written ++ more

pub lines_behind : Laws → (text : List ℕ) (front : List (List ℕ)) (rest written : List ℕ) (state : Stage) → IsFront text front rest written state → LinesBehind text written
lines_behind laws text front rest written state is =
    let parts = laws.lines rest in
    let on = go_on laws (ended_lines_of rest) state (length (joined front)) rest parts.rest (all_lines Unpaired front written state tt is.goes) parts.each parts.one_line parts.whole is.small in
    let count : length (joined (front ++ on.more)) ≡ length (joined front) + length (joined on.more) = length_joined front on.more in
    let longer = front_goes_on text front on.more rest on.behind written on.written state on.after is on.each on.whole (omega (arith, count, on.small)) on.goes in
    record {
      lines = written ++ on.written;
      more = on.written;
      are = (front ++ on.more, on.behind, on.after, longer, subst (λ (n : ℕ). Stops on.after n on.behind) (sym count) on.stops);
      begins = refl;
    }
  where
    length_joined : (xs ys : List (List ℕ)) → length (joined (xs ++ ys)) ≡ length (joined xs) + length (joined ys)
    length_joined [] ys = omega arith
    length_joined (x ∷ xs) ys =
        omega (arith, length_joined xs ys, length-append (ended x) (joined (xs ++ ys)), length-append (ended x) (joined xs))
