-- A step at one endpoint: what it leaves there, what it puts into that endpoint's bag, and that nothing changes across.
use Rattle.std.proofs.Common.{◌≡◌, List, [], ◌∷◌, ◌++◌, Option, Some, None, refl, sym, subst}
use Rattle.sctp_model.specs.wire.Packet.{Packet}
use Rattle.sctp_model.specs.end.EndView.{EndView}
use Rattle.sctp_model.specs.end.Strays.{Verdict, Taken, Dropped, Answer}
use Rattle.sctp_model.specs.end.UserCalls.{AbortAnswer, Aborts, NoPeer, TooLong}
use Rattle.sctp_model.specs.world.World.{Side, A, B, other, Log, World, end_of, bag_of, with_end, with_packet, with_log, came}
use Rattle.sctp_model.specs.world.Events.{with_verdict, with_abort}

-- a bag with a packet more, if there is one
abbrev pub bag_with : List Packet → Option Packet → List Packet
bag_with ps None = ps
bag_with ps (Some p) = ps ++ p ∷ []

pub record IsAt (w v : World) (s : Side) (t : EndView) (given : Option Packet) : Type 0 where
  pub here : end_of v s ≡ t
  pub there : end_of v (other s) ≡ end_of w (other s)
  pub bag : bag_of v s ≡ bag_with (bag_of w s) given
  pub bag_there : bag_of v (other s) ≡ bag_of w (other s)
  pub clock_a : v.clock_a ≡ w.clock_a
  pub clock_b : v.clock_b ≡ w.clock_b
  pub draw : v.draw ≡ w.draw

pub at_end : (w : World) (s : Side) (t : EndView) → IsAt w (with_end w s t) s t None
at_end w A t = record { here = refl; there = refl; bag = refl; bag_there = refl; clock_a = refl; clock_b = refl; draw = refl }
at_end w B t = record { here = refl; there = refl; bag = refl; bag_there = refl; clock_a = refl; clock_b = refl; draw = refl }

pub at_log : (w : World) (s : Side) (t : EndView) (l : Log) → IsAt w (with_log (with_end w s t) s l) s t None
at_log w A t l = record { here = refl; there = refl; bag = refl; bag_there = refl; clock_a = refl; clock_b = refl; draw = refl }
at_log w B t l = record { here = refl; there = refl; bag = refl; bag_there = refl; clock_a = refl; clock_b = refl; draw = refl }

pub at_packet : (w : World) (s : Side) (t : EndView) (p : Packet) → IsAt w (with_packet (with_end w s t) s p) s t (Some p)
at_packet w A t p = record { here = refl; there = refl; bag = refl; bag_there = refl; clock_a = refl; clock_b = refl; draw = refl }
at_packet w B t p = record { here = refl; there = refl; bag = refl; bag_there = refl; clock_a = refl; clock_b = refl; draw = refl }

pub at_came : (w : World) (s : Side) (t : EndView) → IsAt w (came w s t) s t None
at_came w A t = record { here = refl; there = refl; bag = refl; bag_there = refl; clock_a = refl; clock_b = refl; draw = refl }
at_came w B t = record { here = refl; there = refl; bag = refl; bag_there = refl; clock_a = refl; clock_b = refl; draw = refl }

-- the packet of an answer
abbrev pub answer_of : Verdict → Option Packet
answer_of Taken = None
answer_of (Dropped n) = None
answer_of (Answer p) = Some p

pub at_verdict : (w : World) (s : Side) (t : EndView) (v : Verdict) → IsAt w (with_verdict (came w s t) s v) s t (answer_of v)
at_verdict w A t Taken = at_came w A t
at_verdict w A t (Dropped n) = at_came w A t
at_verdict w A t (Answer p) = record { here = refl; there = refl; bag = refl; bag_there = refl; clock_a = refl; clock_b = refl; draw = refl }
at_verdict w B t Taken = at_came w B t
at_verdict w B t (Dropped n) = at_came w B t
at_verdict w B t (Answer p) = record { here = refl; there = refl; bag = refl; bag_there = refl; clock_a = refl; clock_b = refl; draw = refl }

-- the packet of an abort
abbrev pub abort_of : AbortAnswer → Option Packet
abort_of (Aborts p) = Some p
abort_of NoPeer = None
abort_of TooLong = None

pub at_abort : (w : World) (s : Side) (t : EndView) (v : AbortAnswer) → IsAt w (with_abort (with_end w s t) s v) s t (abort_of v)
at_abort w s t (Aborts p) = at_packet w s t p
at_abort w s t NoPeer = at_end w s t
at_abort w s t TooLong = at_end w s t

-- what each endpoint is, is so still
pub both_ends : (P : Side → EndView → Type 0) (w v : World) (s : Side) (t : EndView) (given : Option Packet) → IsAt w v s t given →
    ((x : Side) → P x (end_of w x)) → P s t → (x : Side) → P x (end_of v x)
both_ends P w v A t given at all new A = subst (P A) (sym at.here) new
both_ends P w v A t given at all new B = subst (P B) (sym at.there) (all B)
both_ends P w v B t given at all new B = subst (P B) (sym at.here) new
both_ends P w v B t given at all new A = subst (P A) (sym at.there) (all A)
