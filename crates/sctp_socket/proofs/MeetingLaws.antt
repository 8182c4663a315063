-- Which call wins.
use Rattle.std.proofs.Common.{◌≡◌, ◌≢◌, ℕ, ◌⊎◌, inl, inr, nat_lt, Bool, true, false, ◌==◌, Option, refl, sym, arith, ◌∙◌}
use Rattle.sctp_model.specs.end.Sealing.{Body}
use Rattle.sctp_socket.specs.declared.meeting.Standing.{Standing}
use Rattle.sctp_socket.specs.declared.meeting.Standing.TheVariants.{Echoed, Joined}
use Rattle.sctp_socket.specs.declared.meeting.Meeting.TheVariants.{Ignored, Begins, CallsAgain}
use Rattle.sctp_socket.specs.Meeting.{is_barred, meets, meets_from}
use Rattle.sctp_socket.specs.Opposite.{OneCallWins, CallersTake, OlderAreIgnored, BarredAreIgnored, TagsServeOnce}

pub older_are_ignored : OlderAreIgnored
older_are_ignored d l b other = grind (arith, other)

pub callers_take : CallersTake
callers_take d b = grind (arith)

one_by : (a b : ℕ) → a ≢ b → (lower : Bool) → nat_lt a b ≡ lower →
    ((meets_from (Echoed a b) a b ≡ Begins) × (meets_from (Echoed b a) b a ≡ Ignored))
    ⊎ ((meets_from (Echoed a b) a b ≡ Ignored) × (meets_from (Echoed b a) b a ≡ Begins))
one_by a b differ true low = inl (grind (arith, differ, low), grind (arith, differ, low))
one_by a b differ false low = inr (grind (arith, differ, low), grind (arith, differ, low))

pub one_call_wins : OneCallWins
one_call_wins a b differ = one_by a b differ (nat_lt a b) refl

pub barred_are_ignored : BarredAreIgnored
barred_are_ignored x bar served b barred = rw barred refl

never_begins : (own peer caller : ℕ) (b : Bool) → (caller == peer) ≡ b → meets_from (Joined own peer) own caller ≢ Begins
never_begins own peer caller true same begins =
    let not : meets_from (Joined own peer) own caller ≡ Ignored = grind (arith, same) in
    let q : Ignored ≡ Begins = sym not ∙ begins in absurd (cc)
never_begins own peer caller false same begins =
    let not : meets_from (Joined own peer) own caller ≡ CallsAgain = grind (arith, same) in
    let q : CallsAgain ≡ Begins = sym not ∙ begins in absurd (cc)

served_is_ignored : (x : Standing) (bar : Option ℕ) (b : Body) (barred : Bool) → is_barred bar b.made ≡ barred → meets x bar true b ≡ Ignored
served_is_ignored x bar b true h = rw h refl
served_is_ignored x bar b false h = rw h refl

pub tags_serve_once : TagsServeOnce
tags_serve_once = record {
  others = λ x bar b. served_is_ignored x bar b (is_barred bar b.made) refl;
  joined = λ own peer caller. never_begins own peer caller (caller == peer) refl;
  echoed = λ own peer caller differ. grind (arith, differ);
}
