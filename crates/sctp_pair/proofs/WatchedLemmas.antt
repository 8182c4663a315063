-- The log of a user after a packet: of the tickets that were at their limit when it came, those that are abandoned after it.
use Rattle.std.proofs.Common.{◌≡◌, ℕ, zero, suc, ◌⊎◌, inl, inr, Bool, true, false, List, [], ◌∷◌, ◌++◌, map, Option, None, Some, refl, sym, ap, ◌∙◌}
use Rattle.std.specs.Prelude.{if◌then◌else◌, not, ◌&&◌, filter}
use Rattle.std.specs.declared.vec.Vec.{Vec}
use Rattle.std.specs.declared.alloc.Global.{Global}
use Rattle.std.proofs.lemmas.List.{append-nil}
use Rattle.sctp_model.specs.sender.SenderView.{SenderView}
use Rattle.sctp_model.specs.sender.Words.{count_up}
use Rattle.sctp_model.specs.sender.Readers.{abandoned}
use Rattle.sctp_model.specs.end.EndView.{Configuration, EndView, format_of}
use Rattle.sctp_model.specs.end.Pacing.{Pace}
use Rattle.sctp_model.specs.end.Clock.{at_moment}
use Rattle.sctp_model.specs.world.World.{Side, World, end_of, log_of, if_newly_abandoned, newly_abandoned, order_heard, logged_packet}
use Rattle.sctp_outcomes.specs.Kept.{KeepsLogs}
use Rattle.sctp_send.specs.SenderAnswers.{is_at_limit}
use Rattle.sctp_association.proofs.GivenUpLemmas.{limit_anew}
use Rattle.sctp_script.specs.ReportText.{ticket_number}
use Rattle.sctp_values.specs.declared.ticket.Ticket.{Ticket}
use Rattle.sctp_pair.specs.Noted.{tickets_at_limit, tickets_to_watch, AreNoted}
use Rattle.sctp_pair.specs.declared.taken.StreamLog.{StreamLog}
use Rattle.sctp_pair.proofs.AbandonedLemmas.{abandons_listed}
use Rattle.sctp_pair.proofs.NotesLemmas.{notes_abandoned, notes_same}
use Rattle.sctp_pair.proofs.WornLemmas.{WearsAlone, IsHeld}

-- of those that pass one test, none passes the other
none_of_these : (P Q : ℕ → Bool) (ks : List ℕ) → ((k : ℕ) → Q k ≡ true → P k ≡ false) → filter P (filter Q ks) ≡ []
none_of_these P Q [] off = refl
none_of_these P Q (k ∷ ks) off = by_test (Q k) refl (none_of_these P Q ks off)
  where
    by_test : (b : Bool) → Q k ≡ b → filter P (filter Q ks) ≡ [] → filter P (filter Q (k ∷ ks)) ≡ []
    by_test true on rest = rw (on, off k on) rest
    by_test false out rest = rw out rest

-- ---- what a packet abandons

-- with a pace
listed_anew : (e t : EndView) (n : ℕ) → IsHeld e → WearsAlone e t → newly_abandoned e.sender t.sender n ≡ filter (λ k. abandoned t.sender k) (filter (is_at_limit e.sender) (count_up 1 n))
listed_anew e t n h k = abandons_listed e.sender t.sender (is_at_limit e.sender) n (λ j on. limit_anew (format_of e) e.sender j h.reached on) (λ j given off. by j off (k.alone j given))
  where
    by : (j : ℕ) → is_at_limit e.sender j ≡ false → (abandoned e.sender j ≡ true) ⊎ (is_at_limit e.sender j ≡ true) → abandoned e.sender j ≡ true
    by j off (inl was) = was
    by j off (inr on) = absurd (cc)

-- without one none
none_anew : (e t : EndView) (ks : List ℕ) → IsHeld e → WearsAlone e t → t.pace ≡ None → filter (λ k. abandoned t.sender k) (filter (is_at_limit e.sender) ks) ≡ []
none_anew e t ks h k none = none_of_these (λ j. abandoned t.sender j) (is_at_limit e.sender) ks (λ j on. off j on (abandoned t.sender j) refl)
  where
    off : (j : ℕ) → is_at_limit e.sender j ≡ true → (b : Bool) → abandoned t.sender j ≡ b → b ≡ false
    off j on true given = absurd (let was = k.unpaced none j given in let not_yet = limit_anew (format_of e) e.sender j h.reached on in cc)
    off j on false kept = refl

-- ---- the order of abandoning

watched_order : (w : World) (s : Side) (t : EndView) → IsHeld (end_of w s) → WearsAlone (end_of w s) t → t.sender.tickets ≡ (end_of w s).sender.tickets
    → (t.configuration.fast_retransmit ≡ false → t.pace ≡ None)
    → (logged_packet w s t).order ≡ (log_of w s).order ++ filter (λ k. abandoned t.sender k) (tickets_to_watch (end_of w s))
watched_order w s t h k tickets unpaced = by_pace t.pace refl
  where
    e : EndView
    e = end_of w s

    order : List ℕ
    order = (log_of w s).order

    P : ℕ → Bool
    P = λ j. abandoned t.sender j

    none : t.pace ≡ None → (b : Bool) → filter P (if b then tickets_at_limit e else []) ≡ []
    none bare true = none_anew e t (count_up 1 e.sender.tickets) h k bare
    none bare false = refl

    some : (p : Pace) → t.pace ≡ Some p → (b : Bool) → e.configuration.fast_retransmit ≡ b → newly_abandoned e.sender t.sender t.sender.tickets ≡ filter P (if b then tickets_at_limit e else [])
    some p is true on = ap (λ (n : ℕ). newly_abandoned e.sender t.sender n) tickets ∙ listed_anew e t e.sender.tickets h k
    some p is false off = absurd (let bare = unpaced (ap (λ (x : Configuration). x.fast_retransmit) k.configuration ∙ off) in cc)

    by_pace : (o : Option Pace) → t.pace ≡ o → order_heard o w s t ≡ order ++ filter P (tickets_to_watch e)
    by_pace None is = sym (append-nil order) ∙ ap (λ (ks : List ℕ). order ++ ks) (sym (none is e.configuration.fast_retransmit))
    by_pace (Some p) is = ap (λ (ks : List ℕ). order ++ ks) (some p is e.configuration.fast_retransmit refl)

-- nothing is abandoned anew by itself
itself_anew : (v : SenderView) (n : ℕ) → newly_abandoned v v n ≡ []
itself_anew v zero = refl
itself_anew v (suc n) = let one = by (abandoned v (suc n)) in rw (itself_anew v n) one
  where
    by : (b : Bool) → (if b && not b then suc n ∷ [] else []) ≡ []
    by true = refl
    by false = refl

moment_order : (w : World) (s : Side) (now : ℕ) → (logged_packet w s (at_moment (end_of w s) now)).order ≡ (log_of w s).order
moment_order w s now = by_pace (end_of w s).pace
  where
    v : SenderView
    v = (end_of w s).sender

    by_pace : (o : Option Pace) → order_heard o w s (at_moment (end_of w s) now) ≡ (log_of w s).order
    by_pace None = refl
    by_pace (Some p) = ap (λ (ks : List ℕ). (log_of w s).order ++ ks) (itself_anew v v.tickets) ∙ append-nil (log_of w s).order

-- ---- notes

module _ (packets : List (Vec Ticket Global)) (gone : List Ticket) (taken : List StreamLog) (w : World) (s : Side) where
  -- of a packet
  pub notes_heard : (t : EndView) (more before : List Ticket) → IsHeld (end_of w s) → WearsAlone (end_of w s) t → (t.configuration.fast_retransmit ≡ false → t.pace ≡ None)
      → map ticket_number before ≡ tickets_to_watch (end_of w s) → map ticket_number more ≡ map ticket_number gone ++ filter (λ k. abandoned t.sender k) (map ticket_number before)
      → AreNoted packets gone taken (end_of w s) (log_of w s) → KeepsLogs (end_of w s) t → AreNoted packets more taken t (logged_packet w s t)
  notes_heard t more before h k unpaced listed noted n keeps =
      let ks : List ℕ = filter (λ j. abandoned t.sender j) (tickets_to_watch (end_of w s)) in
      let is : map ticket_number more ≡ map ticket_number gone ++ ks = noted ∙ ap (λ (xs : List ℕ). map ticket_number gone ++ filter (λ j. abandoned t.sender j) xs) listed in
      notes_abandoned packets gone taken (end_of w s) t (log_of w s) more (logged_packet w s t) ks is (watched_order w s t h k keeps.tickets unpaced) n keeps

  -- of a moment alone
  pub notes_passed : (now : ℕ) → AreNoted packets gone taken (end_of w s) (log_of w s) → AreNoted packets gone taken (at_moment (end_of w s) now) (logged_packet w s (at_moment (end_of w s) now))
  notes_passed now n = notes_same packets gone taken (end_of w s) (at_moment (end_of w s) now) (log_of w s) (logged_packet w s (at_moment (end_of w s) now)) n refl refl (moment_order w s now)
