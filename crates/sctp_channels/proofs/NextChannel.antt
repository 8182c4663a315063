-- What is delivered after a channel is told closed was sent after the peer's reset.
use Rattle.std.proofs.Common.{◌≡◌, ℕ, ◌+◌, List, [], ◌++◌, length, take, drop, Option, inl, inr, refl, sym, subst, ap, ◌∙◌, ◌⊎◌, arith}
use Rattle.sctp_model.specs.numbers.Lists.{Has}
use Rattle.sctp_model.specs.receiver.ReceiverView.{Handed}
use Rattle.sctp_model.specs.end.EndView.{EndView}
use Rattle.sctp_model.specs.world.World.{Side, A, B, other, World, end_of, Setup, start}
use Rattle.sctp_model.specs.world.Events.{Event, Outcome}
use Rattle.sctp_model.specs.world.Steps.{PassesThrough, last_of}
use Rattle.sctp_outcomes.specs.Users.{taken, Match}
use Rattle.sctp_outcomes.specs.Parted.{IsTold, AreParted, place_of}
use Rattle.sctp_outcomes.proofs.AgedDates.{start_sound}
use Rattle.sctp_outcomes.proofs.users.Runs.{run_adds}
use Rattle.sctp_channels.specs.declared.stream.Stream.{Stream}
use Rattle.sctp_channels.specs.Streams.{is_reset, Table, stream_at}
use Rattle.sctp_channels.specs.Coming.{peer_resets}
use Rattle.sctp_channels.specs.Events.{next_report, with_reset}
use Rattle.sctp_channels.specs.Promise.{HasPlace}
use Rattle.sctp_channels.specs.NextChannel.{IsBeside, Here, Tells, Notes, Beside, CoursesKeepPlaces, IsClosed, IsNewBehind, NextChannelsAreNew}
use Rattle.sctp_channels.proofs.Promised.{at_other, same_or_not, within, noted_now, places_are_kept, resets_are_noted, closed_at_the_place, channels_say_what_was_sent}

pub beside_kept : (s n : ℕ) (v : EndView) (x : Table) (w : EndView) (z : Table) → IsBeside s v x w z → HasPlace v x s n → HasPlace w z s n
beside_kept s n v x w z b p = record {
  is_reset = b.is_reset ∙ p.is_reset;
  place = ap (λ (hs : List Handed). length hs + (stream_at z s).left) b.taken ∙ ap (λ (k : ℕ). length (v.receiver.taken s) + k) b.left ∙ p.place;
}

pub notes_kept : (s n : ℕ) (v : EndView) (x : Table) (k count : ℕ) → HasPlace v x s n → HasPlace v (with_reset k count x) s n
notes_kept s n v x k count p = go (same_or_not k s)
  where
    go : (k ≡ s) ⊎ (s ≡ k → ⊥) → HasPlace v (with_reset k count x) s n
    go (inl e) = subst (λ (j : ℕ). HasPlace v (with_reset j count x) s n) (sym e) ((resets_are_noted v x s (within v x s n p)).1 n count p)
    go (inr ne) =
        let same = at_other x k s (peer_resets count (stream_at x k)) ne in
        beside_kept s n v x v (with_reset k count x) (record { taken = refl; left = ap (λ (y : Stream). y.left) same; is_reset = ap (λ (y : Stream). is_reset y.resets) same }) p

pub courses_keep_places : CoursesKeepPlaces
courses_keep_places s n v x u y (Here _ _) p = p
courses_keep_places s n v x u y (Tells _ _ _ _ unclosed on) p = courses_keep_places s n (next_report v x).view (next_report v x).table u y on (places_are_kept v x s n p unclosed)
courses_keep_places s n v x u y (Notes _ _ _ _ k count on) p = courses_keep_places s n v (with_reset k count x) u y on (notes_kept s n v x k count p)
courses_keep_places s n v x u y (Beside _ _ w z _ _ b on) p = courses_keep_places s n w z u y on (beside_kept s n v x w z b p)

start_taken : (s : Setup) (x : Side) (n : ℕ) → (end_of (start s) x).receiver.taken n ≡ []
start_taken s A n = refl
start_taken s B n = refl

-- what an endpoint has given its user is what the events show
pub took : (s : Setup) (y : Side) (n : ℕ) (es : List Event) (os : List (Option Outcome)) (vs : List World) → PassesThrough (start s) es os vs →
    length ((end_of (last_of (start s) vs) y).receiver.taken n) ≡ length (taken y n es os)
took s y n es os vs passes =
    let noted = (run_adds y n (start s) es os vs passes (λ q. (refl, refl)) (start_sound s)).noted.taken in
    ap length (noted ∙ ap (λ (hs : List Handed). hs ++ taken y n es os) (start_taken s y n))

-- it is closed at the place of the reset
pub closed_at_its_place : (s : Setup) (x : Side) (n : ℕ) (es : List Event) (os : List (Option Outcome)) (t : IsTold x n es os) (c : IsClosed s x n es os t) →
    length (taken (other x) n c.past c.answers) ≡ place_of x n es os t
closed_at_its_place s x n es os t c =
    let at_first = noted_now (end_of (last_of (start s) c.worlds_then) (other x)) c.table_then n t.waiting c.there c.unreset in
    let at_last = courses_keep_places n _ _ _ _ _ c.course at_first in
    let closed = closed_at_the_place (end_of (last_of (start s) c.worlds) (other x)) c.table n c.alive c.closed in
    let here = took s (other x) n c.past c.answers c.worlds c.passes in
    let before = took s (other x) n t.past t.answers c.worlds_then c.passes_then in
    let a = at_last.place in
    let b = closed.place in
    omega (arith, a, b, here, before)

pub next_channels_are_new : NextChannelsAreNew
next_channels_are_new s es os vs configured passes premises aged x n calls =
    let r = channels_say_what_was_sent s es os vs configured passes premises aged x n calls in
    (r.0, r.1, r.3, λ t c. new r.0 t c (r.2 t))
  where
    new : (ms : List Match) (t : IsTold x n es os) (c : IsClosed s x n es os t) → AreParted x n es os vs t ms → IsNewBehind s x n es os t c ms
    new ms t c p =
        let e = closed_at_its_place s x n es os t c in
        record {
          count = p.count;
          reset = p.reset;
          new = λ m has. p.new m (subst (λ (k : ℕ). Has (drop k ms) m) e has);
          old = λ some m has. p.old (inl some) m (subst (λ (k : ℕ). Has (take k ms) m) e has);
        }
