-- At the end of a packet messages at their limit of retransmissions are abandoned, and no others.
use Rattle.std.proofs.Common.{◌≡◌, ℕ, ◌<◌, ◌⊎◌, inl, inr, Bool, true, ◌∷◌, Option, None, refl, sym, ap, subst, ◌∙◌}
use Rattle.std.specs.Prelude.{not, ◌||◌, ◌==◌}
use Rattle.sctp_model.specs.wire.Packet.{Packet}
use Rattle.sctp_model.specs.sender.SenderView.{SenderView}
use Rattle.sctp_model.specs.sender.Abandoning.{worn}
use Rattle.sctp_model.specs.sender.Readers.{abandoned, point}
use Rattle.sctp_model.specs.sender.Reached.{IsReached}
use Rattle.sctp_model.specs.end.EndView.{Draw, Configuration, EndView, format_of}
use Rattle.sctp_model.specs.end.Clock.{at_moment, settled}
use Rattle.sctp_model.specs.end.Moments.{after_abandoning}
use Rattle.sctp_model.specs.end.Opening.{begun}
use Rattle.sctp_model.specs.end.Strays.{Verdict}
use Rattle.sctp_model.specs.end.Wearing.{missed_below, wearing}
use Rattle.sctp_model.specs.end.Arriving.{Notes, no_notes, urged, packet_ended, Arrives, Elsewhere, NotOurs, Stray, CookieBegins, Heard, Receives, DroppedUnread, ReadAs, IsCutShort, CutFirst, CutLater, cut_to}
use Rattle.sctp_model.proofs.PacedEnds.{worn_cases, unworn}
use Rattle.sctp_safety.proofs.machine.EndWords.{ended_cases, rested_cases}
use Rattle.sctp_outcomes.specs.Kept.{IsSound}
use Rattle.sctp_outcomes.proofs.logs.Ends.{begins_keeps}
use Rattle.sctp_outcomes.proofs.logs.Heard.{opens_before, moment_keeps}
use Rattle.sctp_outcomes.proofs.ReachedEnds.{IsReachedAt, reached_anew}
use Rattle.sctp_send.specs.SenderAnswers.{is_at_limit}
use Rattle.sctp_association.proofs.GivenUpLemmas.{worn_alone}
use Rattle.sctp_pair.proofs.SparedLemmas.{Spares, fresh_spares, spares_on, same_spares, acts_spare}

-- What an endpoint abandoned at a packet's end was abandoned, or at its limit, when the packet came; without a pace it abandons nothing.
pub record WearsAlone (e t : EndView) : Type 0 where
  pub alone : (k : ℕ) → abandoned t.sender k ≡ true → (abandoned e.sender k ≡ true) ⊎ (is_at_limit e.sender k ≡ true)
  pub unpaced : t.pace ≡ None → (k : ℕ) → abandoned t.sender k ≡ true → abandoned e.sender k ≡ true
  pub configuration : t.configuration ≡ e.configuration

-- what the chunks leave, and no more
wears_none : (e t : EndView) → Spares e t → WearsAlone e t
wears_none e t k = record { alone = λ j on. inl (sym (k.sender.same j) ∙ on); unpaced = λ none j on. sym (k.sender.same j) ∙ on; configuration = k.configuration }

-- the end of a packet changes neither
record IsAlike (x t : EndView) : Type 0 where
  sender : t.sender ≡ x.sender
  pace : t.pace ≡ x.pace
  configuration : t.configuration ≡ x.configuration

ended_alike : (n : Notes) (x : EndView) → IsAlike x (packet_ended n x)
ended_alike n x = ended_cases (IsAlike x) n x (record { sender = refl; pace = refl; configuration = refl }) (λ t g is. record { sender = refl; pace = refl; configuration = refl })
    (λ t g is. record { sender = refl; pace = refl; configuration = refl }) (λ y k. record { sender = k.sender; pace = k.pace; configuration = k.configuration })

wears_alike : (e x t : EndView) → IsAlike x t → WearsAlone e x → WearsAlone e t
wears_alike e x t a k = record {
  alone = λ j on. k.alone j (ap (λ (v : SenderView). abandoned v j) (sym a.sender) ∙ on);
  unpaced = λ none j on. k.unpaced (sym a.pace ∙ none) j (ap (λ (v : SenderView). abandoned v j) (sym a.sender) ∙ on);
  configuration = a.configuration ∙ k.configuration;
}

-- what abandoning leaves
given_sender : (e : EndView) (v : SenderView) → (after_abandoning e v).sender ≡ v
given_sender e v = rested_cases (λ (x : EndView). x.sender ≡ v) (settled (record e { sender = v; due = record e.due { forward = e.due.forward || not (point v == point e.sender) } })) refl (λ t is d. refl) (λ t is d. refl)

given_alike : (e : EndView) (v : SenderView) → ((after_abandoning e v).pace ≡ e.pace) × ((after_abandoning e v).configuration ≡ e.configuration)
given_alike e v = rested_cases (λ (x : EndView). (x.pace ≡ e.pace) × (x.configuration ≡ e.configuration)) (settled (record e { sender = v; due = record e.due { forward = e.due.forward || not (point v == point e.sender) } })) (refl, refl)
    (λ t is d. (refl, refl)) (λ t is d. (refl, refl))

worn_alike : (from : ℕ) (u : EndView) → ((wearing from u).pace ≡ u.pace) × ((wearing from u).configuration ≡ u.configuration)
worn_alike from u = worn_cases (λ (x : EndView). (x.pace ≡ u.pace) × (x.configuration ≡ u.configuration)) from u (refl, refl) (λ test on. given_alike u (worn test u.sender))

wears : (from : ℕ) (e u : EndView) → 0 < e.configuration.fragment → IsReachedAt e → Spares e u → WearsAlone e (wearing from u)
wears from e u some r k = record {
  alone = worn_cases (λ (x : EndView). (j : ℕ) → abandoned x.sender j ≡ true → (abandoned e.sender j ≡ true) ⊎ (is_at_limit e.sender j ≡ true)) from u (λ j on. inl (before j on)) (λ test heard. gives test);
  unpaced = λ none j on.
      let bare : u.pace ≡ None = sym (worn_alike from u).0 ∙ none in
      before j (ap (λ (x : EndView). abandoned x.sender j) (sym (unworn from u bare)) ∙ on);
  configuration = (worn_alike from u).1 ∙ k.configuration;
}
  where
    before : (j : ℕ) → abandoned u.sender j ≡ true → abandoned e.sender j ≡ true
    before j on = sym (k.sender.same j) ∙ on

    reached : IsReached (format_of u) u.sender
    reached = k.reached r (subst (λ (x : Configuration). 0 < x.fragment) (sym k.configuration) some)

    by_limit : (j : ℕ) → (abandoned u.sender j ≡ true) ⊎ (is_at_limit u.sender j ≡ true) → (abandoned e.sender j ≡ true) ⊎ (is_at_limit e.sender j ≡ true)
    by_limit j (inl was) = inl (before j was)
    by_limit j (inr on) = inr (k.sender.limit j on)

    gives : (test : ℕ → Bool) (j : ℕ) → abandoned (after_abandoning u (worn test u.sender)).sender j ≡ true → (abandoned e.sender j ≡ true) ⊎ (is_at_limit e.sender j ≡ true)
    gives test j on = by_limit j (worn_alone (format_of u) u.sender test j reached (ap (λ (v : SenderView). abandoned v j) (sym (given_sender u (worn test u.sender))) ∙ on))

-- an end that a packet finds, of which all this is known
pub record IsHeld (e : EndView) : Type 0 where
  pub sound : IsSound e
  pub fragment : 0 < e.configuration.fragment
  pub reached : IsReached (format_of e) e.sender

arrives_alone : (e : EndView) (d : Draw) (p : Packet) (t : EndView) (v : Verdict) → IsHeld e → Arrives e d p t v → WearsAlone e t
arrives_alone e d p t v h (Elsewhere _) = wears_none e e (same_spares e e refl refl refl)
arrives_alone e d p t v h (NotOurs _ _) = wears_none e e (same_spares e e refl refl refl)
arrives_alone e d p t v h (Stray _ _ _ _) = wears_none e e (same_spares e e refl refl refl)
arrives_alone e d p t v h (CookieBegins b u n _ _ _ _ opens acts gap _) =
    let before = opens_before e p.tag p.chunks b opens in
    let began = begins_keeps e (begun b e) refl refl refl refl refl before h.sound in
    let new : Spares e (begun b e) =
    record { sender = fresh_spares e.sender (begun b e).sender _ _ _ _ _ _ _ _ (h.sound.bare before).sender refl; reached = λ r. reached_anew (begun b e) _ _ _ _ _ refl; configuration = refl } in
    wears_alike e u (packet_ended (urged gap n) u) (ended_alike (urged gap n) u) (wears_none e u (spares_on e (begun b e) u new (acts_spare p.tag (begun b e) _ _ u n v began.sound acts)))
arrives_alone e d p t v h (Heard u n _ _ _ _ acts gap _) =
    let x = wearing (missed_below e.pace) u in
    wears_alike e x (packet_ended (urged gap n) x) (ended_alike (urged gap n) x)
    (wears (missed_below e.pace) e u h.fragment (λ some. h.reached) (acts_spare p.tag e no_notes p.chunks u n v h.sound acts))

held_at : (e : EndView) (now : ℕ) → IsHeld e → IsHeld (at_moment e now)
held_at e now h = record { sound = (moment_keeps e now h.sound).sound; fragment = h.fragment; reached = h.reached }

-- ---- what comes

moment_alone : (e : EndView) (now : ℕ) → WearsAlone e (at_moment e now)
moment_alone e now = wears_none e (at_moment e now) (same_spares e (at_moment e now) refl refl refl)

from_moment : (e t : EndView) (now : ℕ) → WearsAlone (at_moment e now) t → WearsAlone e t
from_moment e t now k = record { alone = k.alone; unpaced = k.unpaced; configuration = k.configuration }

pub packet_alone : (e : EndView) (now : ℕ) (d : Draw) (p : Option Packet) (t : EndView) (v : Verdict) → IsHeld e → Receives e now d p t v → WearsAlone e t
packet_alone e now d p t v h DroppedUnread = moment_alone e now
packet_alone e now d p t v h (ReadAs q _ _ arrives) = from_moment e t now (arrives_alone (at_moment e now) d q t v (held_at e now h) arrives)

pub cut_alone : (e : EndView) (now : ℕ) (d : Draw) (p : Option Packet) (t : EndView) → IsHeld e → IsCutShort e now d p t → WearsAlone e t
cut_alone e now d p t h (CutFirst _) = moment_alone e now
cut_alone e now d p t h (CutLater q y front back x _ v _ arrives _) = from_moment e t now (arrives_alone (at_moment e now) d (cut_to q (y ∷ front)) t v (held_at e now h) arrives)
