-- The parts of a report.
use Rattle.std.proofs.Common.{◌≡◌, ℕ, zero, suc, ◌+◌, ◌<◌, List, [], ◌∷◌, ◌++◌, length, take, get_or, map, Option, Some, None, refl, sym, ap, ◌∙◌, append_assoc}
use Rattle.std.specs.Prelude.{slice_get}
use Rattle.std.specs.declared.vec.Vec.{Vec}
use Rattle.std.specs.declared.alloc.Global.{Global}
use Rattle.std.proofs.lemmas.List.{take_more, map-append}
use Rattle.sctp_model.specs.receiver.ReceiverView.{Handed, ReceiverView, handed}
use Rattle.sctp_model.specs.end.EndView.{EndView, State, Ended, state_of, ended_of}
use Rattle.sctp_model.specs.world.World.{Side, Log}
use Rattle.sctp_script.specs.ReportText.{ticket_number, ordered_numbers, end_line, numbered_line, abandoned_line, handed_line, count_line, stream_lines, streams_lines, end_report}
use Rattle.sctp_values.specs.declared.ticket.Ticket.{Ticket}
use Rattle.sctp_outcomes.specs.Kept.{numbered}
use Rattle.sctp_pair.specs.Taken.{IsStreamLog}
use Rattle.sctp_pair.specs.Noted.{tickets_noted}
use Rattle.sctp_pair.proofs.NotesLemmas.{noted_push}
use Rattle.sctp_pair.specs.declared.taken.StreamLog.{StreamLog}

-- ---- tickets

-- the tickets of one packet more
pub tickets_more : (packets : List (Vec Ticket Global)) (i : ℕ) (p : Vec Ticket Global) (before after : List Ticket) → i < length packets → p ≡ get_or packets i p →
    map ticket_number before ≡ tickets_noted (take i packets) → after ≡ before ++ p.items → map ticket_number after ≡ tickets_noted (take (i + 1) packets)
tickets_more packets i p before after less there told is =
    ap (map ticket_number) is
    ∙ (map-append ticket_number before p.items
    ∙ (ap (λ (ks : List ℕ). ks ++ map ticket_number p.items) told
    ∙ (sym (noted_push (take i packets) p)
    ∙ ap tickets_noted (ap (λ (x : Vec Ticket Global). take i packets ++ x ∷ []) there ∙ sym (take_more packets i p less)))))

-- ---- streams

-- the lines of one stream more
pub stream_more : (x : Side) (r : ReceiverView) (n : ℕ) (l : StreamLog) (old front mid out : List ℕ) → IsStreamLog l (handed r n) → old ≡ front ++ streams_lines x r n →
    mid ≡ old ++ handed_line x n l.numbers.items → out ≡ mid ++ count_line x n l.unordered → out ≡ front ++ streams_lines x r (suc n)
stream_more x r n l old front mid out is before numbers counts =
    let lines : out ≡ old ++ stream_lines x n (handed r n) =
    counts
    ∙ (ap (λ (ys : List ℕ). ys ++ count_line x n l.unordered) numbers
    ∙ (append_assoc old (handed_line x n l.numbers.items) (count_line x n l.unordered)
    ∙ (ap (λ (ns : List ℕ). old ++ (handed_line x n ns ++ count_line x n l.unordered)) is.numbers
    ∙ ap (λ (k : ℕ). old ++ (handed_line x n (ordered_numbers (handed r n)) ++ count_line x n k)) is.unordered))) in
    lines ∙ (ap (λ (ys : List ℕ). ys ++ stream_lines x n (handed r n)) before ∙ append_assoc front (streams_lines x r n) (stream_lines x n (handed r n)))

-- what waits, up to a place
pub taken_all : (hs : List Handed) (i : ℕ) → slice_get hs i ≡ None → take i hs ≡ hs
taken_all [] zero is = refl
taken_all [] (suc i) is = refl
taken_all (h ∷ hs) zero is = absurd (cc)
taken_all (h ∷ hs) (suc i) is = ap (λ (xs : List Handed). h ∷ xs) (taken_all hs i is)

take_next : (hs : List Handed) (i : ℕ) (h : Handed) → slice_get hs i ≡ Some h → take (suc i) hs ≡ take i hs ++ h ∷ []
take_next [] i h is = absurd (cc)
take_next (x ∷ hs) zero h is = let same : x ≡ h = cc in ap (λ (y : Handed). y ∷ []) same
take_next (x ∷ hs) (suc i) h is = ap (λ (xs : List Handed). x ∷ xs) (take_next hs i h is)

-- .. and one message more
pub waiting_more : (ts hs : List Handed) (i n : ℕ) (h : Handed) → n ≡ suc i → slice_get hs i ≡ Some h → ts ++ take n hs ≡ (ts ++ take i hs) ++ h ∷ []
waiting_more ts hs i n h next is =
    ap (λ (k : ℕ). ts ++ take k hs) next ∙ (ap (λ (xs : List Handed). ts ++ xs) (take_next hs i h is) ∙ sym (append_assoc ts (take i hs) (h ∷ [])))

-- ---- a side

-- its lines, one behind the other
pub side_lines : (x : Side) (e : EndView) (l : Log) (state : State) (ended : Option Ended) (numbers gone old one two three out : List ℕ) →
    state ≡ state_of e.phase → ended ≡ ended_of e.phase → numbers ≡ numbered e → gone ≡ l.order → one ≡ old ++ end_line x state ended → two ≡ one ++ numbered_line x numbers →
    three ≡ two ++ abandoned_line x gone → out ≡ three ++ streams_lines x e.receiver e.receiver.streams → out ≡ old ++ end_report x e l
side_lines x e l state ended numbers gone old one two three out s d n o a b c streams =
    let last : List ℕ = streams_lines x e.receiver e.receiver.streams in
    let first : one ≡ old ++ end_line x (state_of e.phase) (ended_of e.phase) = a ∙ (ap (λ (y : State). old ++ end_line x y ended) s ∙ ap (λ (y : Option Ended). old ++ end_line x (state_of e.phase) y) d) in
    let second : two ≡ one ++ numbered_line x (numbered e) = b ∙ ap (λ (ks : List ℕ). one ++ numbered_line x ks) n in
    let third : three ≡ two ++ abandoned_line x l.order = c ∙ ap (λ (ks : List ℕ). two ++ abandoned_line x ks) o in
    all_behind old (end_line x (state_of e.phase) (ended_of e.phase)) (numbered_line x (numbered e)) (abandoned_line x l.order) last one two three out first second third streams
  where
    all_behind : (p q r s t u v w z : List ℕ) → u ≡ p ++ q → v ≡ u ++ r → w ≡ v ++ s → z ≡ w ++ t → z ≡ p ++ (q ++ (r ++ (s ++ t)))
    all_behind p q r s t u v w z f g h k = rw (k, h, g, f) (simp append_assoc)
