-- What is due is queued stream by stream: each is a call that drives the table.
use Rattle.std.proofs.Common.{◌≡◌, ℕ, zero, suc, ◌+◌, ◌≤◌, List, [], ◌∷◌, ◌++◌, length, take, drop, inl, inr, refl, sym, subst, ap, ◌∙◌, arith}
use Rattle.std.proofs.lemmas.Bool.{cases_lt}
use Rattle.sctp_model.specs.end.EndView.{EndView}
use Rattle.sctp_model.specs.end.UserCalls.{SendAnswer, Ticket, Refused, NotOpen, send_answer, ResetCall, Begun, NotAgreed, NoStream, reset_call}
use Rattle.sctp_model.specs.world.World.{Side, World, end_of}
use Rattle.sctp_model.specs.world.Events.{Done, RefusedState, NoSuchReset}
use Rattle.sctp_model.specs.world.Steps.{last_of}
use Rattle.sctp_channels.specs.declared.stream.Due.{Due}
use Rattle.sctp_channels.specs.declared.stream.Due.TheVariants.{Nothing, Acknowledgement, Reset}
use Rattle.sctp_channels.specs.declared.stream.Stream.{Stream}
use Rattle.sctp_channels.specs.Streams.{Table, stream_at, with_stream}
use Rattle.sctp_channels.specs.Calling.{ack_call}
use Rattle.sctp_channels.specs.Settling.{without_due, acknowledged, reset_asked, settled_by, settled, all_settled, Standing, settled_below, settled_all}
use Rattle.sctp_channels.specs.Driven.{Answers, Refuses, IsNotOpen, Resets, ResetsNone}
use Rattle.sctp_channels.specs.Making.{Makes}
use Rattle.sctp_channels.proofs.SettlingLemmas.{one_settled, settled_more, settled_none}
use Rattle.sctp_channels.proofs.MadeLemmas.{makes_nothing, makes_more, makes_same, makes_send, makes_reset}

-- ---- one stream

module _ (y : Side) (w : World) (x : Table) (s : ℕ) where
  abbrev v : EndView
  v = end_of w y

  abbrev z : Stream
  z = stream_at x s

  -- what stays due makes an event that moves nothing
  still : (u : EndView) → Makes y w x [] [] [] u x → Makes y w x [] [] [] u (with_stream x s z)
  still u m = makes_same y w x [] [] [] u u x (with_stream x s z) refl (sym (settled_none x s)) m

  by_answer : z.due ≡ Acknowledgement → (a : SendAnswer) → send_answer v (ack_call s) ≡ a → Makes y w x [] [] [] (acknowledged a v s z).view (with_stream x s (acknowledged a v s z).stream)
  by_answer due (Ticket t) is = makes_send y w x (ack_call s) (Ticket t) is (with_stream x s (without_due z)) (Answers s t due)
  by_answer due (Refused why) is = still v (makes_send y w x (ack_call s) (Refused why) is x (Refuses (ack_call s) why))
  by_answer due NotOpen is = still v (makes_send y w x (ack_call s) NotOpen is x (IsNotOpen (ack_call s)))

  by_reset : z.due ≡ Reset → (a : ResetCall) → reset_call v s ≡ a → Makes y w x [] [] [] (reset_asked a v s z).view (with_stream x s (reset_asked a v s z).stream)
  by_reset due Begun is = makes_reset y w x s Begun is (with_stream x s (without_due z)) (Resets s Done due (inl refl))
  by_reset due NoStream is = makes_reset y w x s NoStream is (with_stream x s (without_due z)) (Resets s NoSuchReset due (inr refl))
  by_reset due NotAgreed is = still v (makes_reset y w x s NotAgreed is x (ResetsNone s RefusedState (λ e. cc e)))

  by_due : (d : Due) → z.due ≡ d → Makes y w x [] [] [] (settled_by d v s z).view (with_stream x s (settled_by d v s z).stream)
  by_due Nothing is = still v (makes_nothing y w x)
  by_due Acknowledgement is = by_answer is (send_answer v (ack_call s)) refl
  by_due Reset is = by_reset is (reset_call v s) refl

  one_made : Makes y w x [] [] [] (settled v s z).view (with_stream x s (settled v s z).stream)
  one_made = by_due z.due refl

-- ---- all streams

-- what is due on streams below one
below_made : (y : Side) (w : World) (x : Table) (n : ℕ) → n ≤ length x.streams → Makes y w x [] [] [] (settled_below n (end_of w y) x).view (settled_below n (end_of w y) x).table
below_made y w x zero le = makes_nothing y w x
below_made y w x (suc n) le =
    let m = below_made y w x n (omega (arith, le)) in
    let t = settled_below n (end_of w y) x in
    let more : Makes y (last_of w m.worlds) t.table [] [] [] (one_settled t n).view (one_settled t n).table =
    subst (λ (e : EndView). Makes y (last_of w m.worlds) t.table [] [] [] (settled e n (stream_at t.table n)).view (with_stream t.table n (settled e n (stream_at t.table n)).stream)) m.here
    (one_made y (last_of w m.worlds) t.table n) in
    let both = makes_more y w x [] [] [] [] [] [] t.view (one_settled t n).view t.table (one_settled t n).table m more in
    let next : suc n ≡ n + 1 = omega arith in
    let is : settled_below (n + 1) (end_of w y) x ≡ one_settled t n = settled_more n (end_of w y) x (omega (arith, le)) in
    subst (λ (k : ℕ). Makes y w x [] [] [] (settled_below k (end_of w y) x).view (settled_below k (end_of w y) x).table) (sym next)
    (subst (λ (r : Standing). Makes y w x [] [] [] r.view r.table) (sym is) both)

take_all : {T : Type 0} (n : ℕ) (xs : List T) → length xs ≤ n → (take n xs ≡ xs) × (drop n xs ≡ [])
take_all zero [] le = (refl, refl)
take_all zero (x ∷ xs) le = absurd (omega (arith, le))
take_all (suc n) [] le = (refl, refl)
take_all (suc n) (x ∷ xs) le = let more = take_all n xs (omega (arith, le)) in (ap (λ (ys : List _). x ∷ ys) more.0, more.1)

-- there are no more streams than that
past_all : (n : ℕ) (v : EndView) (x : Table) → length x.streams ≤ n → settled_below n v x ≡ settled_all v x
past_all n v x le =
    let here = take_all n x.streams le in
    let all = take_all (length x.streams) x.streams (omega arith) in
    by n here.0 here.1 ∙ sym (by (length x.streams) all.0 all.1)
  where
    by : (k : ℕ) → take k x.streams ≡ x.streams → drop k x.streams ≡ [] →
        settled_below k v x ≡ record { view = (all_settled v 0 x.streams).view; table = record x { streams = (all_settled v 0 x.streams).streams ++ [] } }
    by k front back = rw (front, back) refl

-- whether so many streams are there or not
pub any_made : (y : Side) (w : World) (x : Table) (n : ℕ) → Makes y w x [] [] [] (settled_below n (end_of w y) x).view (settled_below n (end_of w y) x).table
any_made y w x n = elim (cases_lt n (length x.streams)) [
  | inl lt ↦ below_made y w x n (omega (arith, lt))
  | inr le ↦ subst (λ (r : Standing). Makes y w x [] [] [] r.view r.table) (sym (past_all n (end_of w y) x le)) (below_made y w x (length x.streams) (omega arith))
]

-- it changes senders alone
settled_receiver : (v : EndView) (s : ℕ) (x : Stream) → (settled v s x).view.receiver ≡ v.receiver
settled_receiver v s x = by_due x.due
  where
    by_answer : (a : SendAnswer) → (acknowledged a v s x).view.receiver ≡ v.receiver
    by_answer (Ticket t) = refl
    by_answer (Refused why) = refl
    by_answer NotOpen = refl

    by_reset : (a : ResetCall) → (reset_asked a v s x).view.receiver ≡ v.receiver
    by_reset Begun = refl
    by_reset NotAgreed = refl
    by_reset NoStream = refl

    by_due : (d : Due) → (settled_by d v s x).view.receiver ≡ v.receiver
    by_due Nothing = refl
    by_due Acknowledgement = by_answer (send_answer v (ack_call s))
    by_due Reset = by_reset (reset_call v s)

pub all_receiver : (v : EndView) (s : ℕ) (xs : List Stream) → (all_settled v s xs).view.receiver ≡ v.receiver
all_receiver v s [] = refl
all_receiver v s (x ∷ xs) = all_receiver (settled v s x).view (suc s) xs ∙ settled_receiver v s x
