-- A chunk that is put in, doesn't fit or isn't due is a step of the specification's filling order, and so are several one after the other.
use Rattle.std.proofs.Common.{Result, Ok, Err, IfOk, ◌≡◌, ◌∙◌, ℕ, ◌<◌, nat_le, replicate, length-append, Bool, true, false, not, List, [], ◌∷◌, ◌++◌, Option, None, length, refl, ap, sym, subst, arith}
use Rattle.sctp_model.specs.numbers.Limits.{BLOCK_LIMIT}
use Rattle.sctp_model.specs.wire.Typed.{Typed, typed_bytes, filled, written_typed}
use Rattle.sctp_model.specs.wire.Chunk.{ChunkMeaning, BlockMeaning, SackMeaning, Sack, Shutdown, padding_after}
use Rattle.sctp_model.specs.messages.Acknowledgement.{IsRun}
use Rattle.sctp_model.specs.wire.Packet.{size_of_packet}
use Rattle.sctp_model.specs.numbers.Serial.{tsn}
use Rattle.sctp_model.specs.receiver.ReceiverView.{ReceiverView, IsCumulative, room_left}
use Rattle.sctp_model.specs.receiver.SackMade.{IsSack, sack_sent}
use Rattle.sctp_model.specs.receiver.ResetTaken.{with_answers}
use Rattle.sctp_model.specs.end.EndView.{EndView, Alarm, ShutdownAlarm, Timer}
use Rattle.sctp_model.specs.end.Clock.{started}
use Rattle.sctp_model.specs.end.Beating.{guarded}
use Rattle.sctp_model.specs.end.Reports.{written}
use Rattle.sctp_model.specs.end.Building.{Slot, SackSlot, ShutdownSlot, is_due, has_some, has_causes, Wants, Acknowledge, SayShutdown, once_built, Puts, NoMore, NotDue, Put, IsFull}
use Rattle.sctp_model.proofs.TypedLemmas.{length-item}
use Rattle.sctp_terms.specs.PlainOptions.{HasPlainOptions}
use Rattle.sctp_packet.specs.Draft.{Draft, has_room, after_try, with_chunks}
use Rattle.sctp_association.specs.StartsMean.{starts_at, with_start, started_from}
use Rattle.sctp_association.specs.Drafted.{value_left, causes_left, receiver_left, answers_left, offered_left, delayed_left, drafted, IsOf, PutsAt}
use Rattle.sctp_association.specs.declared.time.starts.Starts.{Starts}
use Rattle.sctp_association.specs.declared.build.packing.Marks.{Marks}
use Rattle.sctp_association.specs.declared.build.packing.Packing.{Packing}
use Rattle.sctp_association.proofs.StartLemmas.{start_more}
use Rattle.sctp_association.proofs.OptionLemmas.{unguarded, few_blocks}

-- ---- one place

-- nothing is due at the place
pub not_due : (s : Slot) (e : EndView) (p : Packing) → is_due s (drafted p.marks e) ≡ false → IsOf e p → PutsAt (s ∷ []) e p p true
not_due s e p none packet = record {
  puts = NotDue s [] (drafted p.marks e) p.writer.chunks p.writer.chunks false (drafted p.marks e) none (NoMore (drafted p.marks e) p.writer.chunks);
  packet = packet;
}

-- what fits by the packet's limit fits by the end's
fits_end : (e : EndView) (p : Packing) (x : ChunkMeaning) (put b : Bool) → IsOf e p → put ≡ b → put ≡ has_room p.writer x
    → nat_le (size_of_packet (p.writer.chunks ++ x ∷ [])) e.configuration.limit ≡ b
fits_end e p x put b packet is room = ap (λ (l : ℕ). nat_le (size_of_packet (p.writer.chunks ++ x ∷ [])) l) (sym packet.limit) ∙ (sym room ∙ is)

-- the chunk doesn't fit
pub stays_out : (s : Slot) (e : EndView) (old : Packing) (new : Draft) (x : ChunkMeaning) (put : Bool) → is_due s (drafted old.marks e) ≡ true
    → Wants (drafted old.marks e) s x → IsOf e old → put ≡ false → put ≡ has_room old.writer x → new ≡ after_try old.writer x put
    → PutsAt (s ∷ []) e old (record { writer = new; marks = old.marks }) false
stays_out s e old new x put due wants packet is room after =
    let same : new ≡ old.writer = after ∙ ap (after_try old.writer x) is in
    let here : PutsAt (s ∷ []) e old (record { writer = old.writer; marks = old.marks }) false = record {
      puts = IsFull s [] (drafted old.marks e) x old.writer.chunks due wants (fits_end e old x put false packet is room);
      packet = record { options = packet.options; limit = packet.limit; source = packet.source; destination = packet.destination; tag = packet.tag; sack = packet.sack };
    } in
    subst (λ (d : Draft). PutsAt (s ∷ []) e old (record { writer = d; marks = old.marks }) false) (sym same) here

-- the chunk goes in
pub goes_in : (s : Slot) (e : EndView) (old : Packing) (n : Marks) (new : Draft) (x : ChunkMeaning) (put : Bool) → is_due s (drafted old.marks e) ≡ true
    → Wants (drafted old.marks e) s x → once_built s (drafted old.marks e) ≡ drafted n e → (n.sack ≡ true → old.marks.sack ≡ true) → IsOf e old → put ≡ true
    → put ≡ has_room old.writer x → new ≡ after_try old.writer x put → PutsAt (s ∷ []) e old (record { writer = new; marks = n }) true
goes_in s e old n new x put due wants leaves fewer packet is room after =
    let same : new ≡ with_chunks old.writer (x ∷ []) = after ∙ ap (after_try old.writer x) is in
    let zs = old.writer.chunks ++ x ∷ [] in
    let last : Puts [] (once_built s (drafted old.marks e)) zs zs false (drafted n e) =
    subst (λ (y : EndView). Puts [] y zs zs false (drafted n e)) (sym leaves) (NoMore (drafted n e) zs) in
    let there : PutsAt (s ∷ []) e old (record { writer = with_chunks old.writer (x ∷ []); marks = n }) true = record {
      puts = Put s [] (drafted old.marks e) x old.writer.chunks zs false (drafted n e) due wants (fits_end e old x put true packet is room) last;
      packet = record { options = packet.options; limit = packet.limit; source = packet.source; destination = packet.destination; tag = packet.tag; sack = λ still. packet.sack (fewer still) };
    } in
    subst (λ (d : Draft). PutsAt (s ∷ []) e old (record { writer = d; marks = n }) true) (sym same) there

-- ---- several places

-- what goes in behind what went in
puts_then : (ss tt : List Slot) (e m t : EndView) (xs ys zs : List ChunkMeaning) (b full : Bool) → b ≡ false → Puts ss e xs ys b m → Puts tt m ys zs full t → Puts (ss ++ tt) e xs zs full t
puts_then _ tt _ _ t _ _ zs _ full quiet (NoMore e xs) more = more
puts_then _ tt _ _ t _ _ zs _ full quiet (NotDue s ss e xs ys b m none rest) more =
    NotDue s (ss ++ tt) e xs zs full t none (puts_then ss tt e m t xs ys zs b full quiet rest more)
puts_then _ tt _ _ t _ _ zs _ full quiet (Put s ss e x xs ys b m due wants room rest) more =
    Put s (ss ++ tt) e x xs zs full t due wants room (puts_then ss tt (once_built s e) m t (xs ++ x ∷ []) ys zs b full quiet rest more)
puts_then _ tt _ _ t _ _ zs _ full quiet (IsFull s ss e x xs due wants room) more = absurd (let never : true ≡ false = quiet in cc)

-- once the packet is full nothing goes in
puts_full : (ss tt : List Slot) (e m : EndView) (xs ys : List ChunkMeaning) (b : Bool) → b ≡ true → Puts ss e xs ys b m → Puts (ss ++ tt) e xs ys true m
puts_full _ tt _ _ _ _ _ full (NoMore e xs) = absurd (let never : false ≡ true = full in cc)
puts_full _ tt _ _ _ _ _ full (NotDue s ss e xs ys b m none rest) = NotDue s (ss ++ tt) e xs ys true m none (puts_full ss tt e m xs ys b full rest)
puts_full _ tt _ _ _ _ _ full (Put s ss e x xs ys b m due wants room rest) =
    Put s (ss ++ tt) e x xs ys true m due wants room (puts_full ss tt (once_built s e) m (xs ++ x ∷ []) ys b full rest)
puts_full _ tt _ _ _ _ _ full (IsFull s ss e x xs due wants room) = IsFull s (ss ++ tt) e x xs due wants room

pub joined : (ss tt : List Slot) (e : EndView) (a b c : Packing) (full room : Bool) → full ≡ true → PutsAt ss e a b full → PutsAt tt e b c room → PutsAt (ss ++ tt) e a c room
joined ss tt e a b c full room is one other = record {
  puts = puts_then ss tt (drafted a.marks e) (drafted b.marks e) (drafted c.marks e) a.writer.chunks b.writer.chunks c.writer.chunks (not full) (not room) (ap not is) one.puts other.puts;
  packet = other.packet;
}

pub cut : (ss tt : List Slot) (e : EndView) (a b : Packing) (room : Bool) → room ≡ false → PutsAt ss e a b room → PutsAt (ss ++ tt) e a b false
cut ss tt e a b room is one = record {
  puts = puts_full ss tt (drafted a.marks e) (drafted b.marks e) a.writer.chunks b.writer.chunks (not room) (ap not is) one.puts;
  packet = one.packet;
}

-- what goes in behind, of a call that may run out of memory
pub behind : {E : Type 0} (r : Result Bool E) (ss tt : List Slot) (e : EndView) (a b c : Packing) (full : Bool) → full ≡ true → PutsAt ss e a b full
    → IfOk r (λ room. PutsAt tt e b c room) → IfOk r (λ room. PutsAt (ss ++ tt) e a c room)
behind (Ok room) ss tt e a b c full is one other = joined ss tt e a b c full room is one other
behind (Err failed) ss tt e a b c full is one other = other

-- ---- what a chunk leaves

-- a timer that starts
pub started_left : (a : Alarm) (n : Marks) (e : EndView) (s : Starts) → starts_at s ≡ with_start a (starts_at n.starts) → started a (drafted n e) ≡ drafted (record n { starts = s }) e
started_left a n e s starts =
    let more = start_more a (starts_at n.starts) e.moment e.timers ∙ ap (λ (p : Alarm → Bool). started_from p e.moment e.timers) (sym starts) in
    ap (λ (g : Alarm → Timer). record (drafted n e) { timers = g }) more

-- a SHUTDOWN that goes out starts its timer, and no other
pub shutdown_left : (n : Marks) (e : EndView) (s : Starts) → HasPlainOptions e.configuration → starts_at s ≡ with_start ShutdownAlarm (starts_at n.starts)
    → guarded (started ShutdownAlarm (drafted n e)) ≡ drafted (record n { starts = s }) e
shutdown_left n e s options starts = unguarded (started ShutdownAlarm (drafted n e)) options ∙ started_left ShutdownAlarm n e s starts

-- a value that went out, or isn't there
pub none_left : (b : Bool) (x : Option (List ℕ)) → x ≡ None → has_some (value_left b x) ≡ false
none_left true x none = ap has_some none
none_left false x none = refl

-- causes are there where they have bytes
written_some : (x : Typed) (xs : List Typed) → 0 < length (written (x ∷ xs))
written_some x [] = omega (arith, length-item x)
written_some x (y ∷ ys) = omega (arith, length-item x, length-append (filled (typed_bytes x)) (written_typed (y ∷ ys)), length-append (typed_bytes x) (replicate (padding_after (length (typed_bytes x))) 0))

pub no_causes_left : (b : Bool) (xs : List Typed) → length (written xs) ≡ 0 → has_causes (causes_left b xs) ≡ false
no_causes_left true [] none = refl
no_causes_left true (x ∷ xs) none = absurd (omega (arith, none, written_some x xs))
no_causes_left false xs none = refl

pub some_causes : (xs : List Typed) → 0 < length (written xs) → has_causes xs ≡ true
some_causes [] some = absurd (omega (arith, some))
some_causes (x ∷ xs) some = refl

-- what the receiver says of its cumulative index stays
still_cumulative : (was is : Bool) (r : ReceiverView) (c : ℕ) → IsCumulative r c → IsCumulative (receiver_left was is r) c
still_cumulative true false r c k = record { reached = k.reached; open_end = k.open_end }
still_cumulative true true r c k = k
still_cumulative false is r c k = k

still_initial : (was is : Bool) (r : ReceiverView) → (receiver_left was is r).initial ≡ r.initial
still_initial true false r = refl
still_initial true true r = refl
still_initial false is r = refl

-- the same once responses went out
told_cumulative : (b : Bool) (r : ReceiverView) (c : ℕ) → IsCumulative r c → IsCumulative (answers_left b r) c
told_cumulative true r c k = k
told_cumulative false r c k = record { reached = k.reached; open_end = k.open_end }

told_initial : (b : Bool) (r : ReceiverView) → (answers_left b r).initial ≡ r.initial
told_initial true r = refl
told_initial false r = refl

told_run : (r : ReceiverView) (c : ℕ) (b : BlockMeaning) → IsRun r c b → IsRun (with_answers r []) c b
told_run r c b k = record { above = k.above; some = k.some; seen = k.seen; before = k.before; after = k.after }

run_told : (r : ReceiverView) (c : ℕ) (b : BlockMeaning) → IsRun (with_answers r []) c b → IsRun r c b
run_told r c b k = record { above = k.above; some = k.some; seen = k.seen; before = k.before; after = k.after }

told_sack : (b : Bool) (r : ReceiverView) (s : SackMeaning) → IsSack BLOCK_LIMIT r s → IsSack BLOCK_LIMIT (answers_left b r) s
told_sack true r s k = k
told_sack false r s k = record {
  c = k.c;
  runs = k.runs;
  cumulative = record { reached = k.cumulative.reached; open_end = k.cumulative.open_end };
  all = record {
    rising = k.all.rising;
    runs = λ b has. told_run r k.c b (k.all.runs b has);
    all = λ b is. k.all.all b (run_told r k.c b is);
  };
  is = k.is;
}

-- SHUTDOWN with the cumulative TSN
pub says_cumulative : (e : EndView) (m : Marks) (x : ℕ) → ((c : ℕ) × IsCumulative e.receiver c × (x ≡ tsn e.receiver.initial c)) → Wants (drafted m e) ShutdownSlot (Shutdown x)
says_cumulative e m x (c, at, is) =
    let r = receiver_left e.due.sack m.sack e.receiver in
    let same : tsn (answers_left m.answers r).initial c ≡ x = ap (λ (i : ℕ). tsn i c) (told_initial m.answers r ∙ still_initial e.due.sack m.sack e.receiver) ∙ sym is in
    subst (λ (y : ℕ). Wants (drafted m e) ShutdownSlot (Shutdown y)) same (SayShutdown c (told_cumulative m.answers r c (still_cumulative e.due.sack m.sack e.receiver c at)))

-- a SACK that is still due
before_sack : (was is : Bool) (r : ReceiverView) → is ≡ true → receiver_left was is r ≡ r
before_sack true true r due = refl
before_sack true false r due = absurd (let never : false ≡ true = due in cc)
before_sack false is r due = refl

-- the SACK of the receiver goes out
pub acknowledges : (e : EndView) (m : Marks) (s : SackMeaning) → HasPlainOptions e.configuration → m.sack ≡ true → IsSack BLOCK_LIMIT e.receiver s → Wants (drafted m e) SackSlot (Sack s)
acknowledges e m s options due is =
    let here = told_sack m.answers _ s (subst (λ (r : ReceiverView). IsSack BLOCK_LIMIT r s) (sym (before_sack e.due.sack m.sack e.receiver due)) is) in
    Acknowledge s (subst (λ (n : ℕ). IsSack n (drafted m e).receiver s) (sym (few_blocks e.configuration options)) here)

-- responses take no space of its buffer
room_told : (b : Bool) (r : ReceiverView) → room_left (answers_left b r) ≡ room_left r
room_told true r = refl
room_told false r = refl

-- in either order
sent_told : (b : Bool) (r : ReceiverView) → sack_sent (answers_left b r) ≡ answers_left b (sack_sent r)
sent_told true r = refl
sent_told false r = refl

-- and the receiver has told its window and its duplicates, and no SACK waits
pub sack_left : (e : EndView) (m : Marks) → m.sack ≡ true → e.due.sack ≡ true → once_built SackSlot (drafted m e) ≡ drafted (record m { sack = false }) e
sack_left e m due was =
    let same : receiver_left e.due.sack m.sack e.receiver ≡ e.receiver = before_sack e.due.sack m.sack e.receiver due in
    let after : sack_sent (answers_left m.answers (receiver_left e.due.sack m.sack e.receiver)) ≡ answers_left m.answers (receiver_left e.due.sack false e.receiver) =
    ap (λ (r : ReceiverView). sack_sent (answers_left m.answers r)) same ∙ (sent_told m.answers e.receiver ∙ sym (ap (λ (b : Bool). answers_left m.answers (receiver_left b false e.receiver)) was)) in
    let told : room_left (answers_left m.answers (receiver_left e.due.sack m.sack e.receiver)) ≡ offered_left e.due.sack false e.receiver e.offered =
    room_told m.answers (receiver_left e.due.sack m.sack e.receiver) ∙ (ap room_left same ∙ sym (ap (λ (b : Bool). offered_left b false e.receiver e.offered) was)) in
    let gone : None ≡ delayed_left e.due.sack false e.delayed = sym (ap (λ (b : Bool). delayed_left b false e.delayed) was) in
    ap (λ (r : ReceiverView). record (drafted (record m { sack = false }) e) {
      delayed = None;
      offered = room_left (answers_left m.answers (receiver_left e.due.sack m.sack e.receiver));
      receiver = r;
    }) after
    ∙ ap (λ (n : ℕ). record (drafted (record m { sack = false }) e) { delayed = None; offered = n }) told
    ∙ ap (λ (n : Option ℕ). record (drafted (record m { sack = false }) e) { delayed = n }) gone
