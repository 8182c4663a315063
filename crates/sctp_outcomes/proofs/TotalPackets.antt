-- Every packet does something to an endpoint whose receiver is bounded.
use Rattle.std.proofs.Common.{◌≡◌, ℕ, Bool, true, false, List, [], ◌∷◌, drop, Option, Some, None, refl}
use Rattle.sctp_model.specs.wire.Chunk.{ChunkMeaning}
use Rattle.sctp_model.specs.wire.Packet.{Packet}
use Rattle.sctp_model.specs.end.Sealing.{Body}
use Rattle.sctp_model.specs.end.EndView.{Draw, EndView, has_association, format_of}
use Rattle.sctp_model.specs.end.Closing.{rested}
use Rattle.sctp_model.specs.end.PeerFaults.{After, GoesOn, Ends, PassedOver, Replies, Drops, Note, Unnoted}
use Rattle.sctp_model.specs.end.Opening.{begun}
use Rattle.sctp_model.specs.end.Acting.{Acts}
use Rattle.sctp_model.specs.end.Passing.{has_ports, passes}
use Rattle.sctp_model.specs.end.Strays.{Verdict, Taken, opened_by, stray_verdict}
use Rattle.sctp_model.specs.end.Wearing.{missed_below, wearing}
use Rattle.sctp_model.specs.end.Arriving.{AllAct, NoneLeft, Next, Last, EndsAnswered, Stopped, Arrives, Elsewhere, NotOurs, Stray, CookieBegins, Heard, verdict_of, Notes, no_notes, noted, urged, packet_ended, TellsGap}
use Rattle.sctp_model.specs.end.Arriving.{Passes}
use Rattle.sctp_outcomes.proofs.Receivers.{Whatever, holds_goes, holds_rested, holds_acts}
use Rattle.sctp_outcomes.proofs.Bounded.{IsBounded, bounded_law}
use Rattle.sctp_outcomes.proofs.Gaps.{gap_is_told}
use Rattle.sctp_outcomes.proofs.TotalActs.{acted}

pub record AllActed (tag : ℕ) (e : EndView) (b : Notes) (xs : List ChunkMeaning) : Type 0 where
  pub last : EndView
  pub notes : Notes
  pub verdict : Verdict
  pub acts : AllAct tag e b xs last notes verdict

-- whether there is a gap after them
gap_left : (tag : ℕ) (e : EndView) (b : Notes) (xs : List ChunkMeaning) → IsBounded (format_of e) e.receiver → (r : AllActed tag e b xs) → (gap : Bool) × TellsGap gap r.last.receiver
gap_left tag e b xs bound r = gap_is_told (format_of r.last) r.last.receiver (holds_acts (Whatever IsBounded) bounded_law tag e b xs r.last r.notes r.verdict bound r.acts)

pub all_acted : (tag : ℕ) (e : EndView) (b : Notes) (xs : List ChunkMeaning) → IsBounded (format_of e) e.receiver → AllActed tag e b xs
all_acted tag e b [] bound = record { last = e; notes = b; verdict = verdict_of b.listed; acts = NoneLeft e b }
all_acted tag e b (x ∷ xs) bound =
    by (acted e tag bound x).after (acted e tag bound x).acts (all_acted tag e b xs bound) (λ mid y k. all_acted tag mid (noted y b) xs k)
  where
    by : (a : After) → Acts e tag x a → AllActed tag e b xs → ((mid : EndView) (y : Note) → IsBounded (format_of mid) mid.receiver → AllActed tag mid (noted y b) xs) → AllActed tag e b (x ∷ xs)
    by (GoesOn y mid) act same on =
        let r = on (rested mid) y (holds_rested (Whatever IsBounded) bounded_law mid (holds_goes (Whatever IsBounded) bounded_law e tag x y mid bound act)) in
        record { last = r.last; notes = r.notes; verdict = r.verdict; acts = Next e mid r.last y b r.notes x xs r.verdict act r.acts }
    by (Ends t) act same on = record { last = t; notes = b; verdict = Taken; acts = Last e t b x xs act }
    by PassedOver act same on = record { last = same.last; notes = same.notes; verdict = same.verdict; acts = Passes e same.last b same.notes x xs same.verdict act same.acts }
    by (Replies t p) act same on = record { last = t; notes = b; verdict = _; acts = EndsAnswered e t b x xs p act }
    by (Drops n) act same on = record { last = e; notes = b; verdict = _; acts = Stopped e b x xs n act }

pub record Arrived (e : EndView) (d : Draw) (p : Packet) : Type 0 where
  pub last : EndView
  pub verdict : Verdict
  pub arrives : Arrives e d p last verdict

pub arrived : (e : EndView) (d : Draw) (p : Packet) → IsBounded (format_of e) e.receiver → Arrived e d p
arrived e d p bound = ports (has_ports e.configuration p) refl
  where
    opened : has_ports e.configuration p ≡ true → passes e.phase p ≡ true → has_association e.phase ≡ false → (o : Option Body) → opened_by e p ≡ o → Arrived e d p
    opened a t none None q = record { last = e; verdict = stray_verdict e d p; arrives = Stray a t none q }
    opened a t none (Some y) q =
        let r = all_acted p.tag (begun y e) (noted Unnoted no_notes) (drop 1 p.chunks) (bounded_law.fresh _ _ _ _ _) in
        let g = gap_left p.tag (begun y e) (noted Unnoted no_notes) (drop 1 p.chunks) (bounded_law.fresh _ _ _ _ _) r in
        record { last = packet_ended (urged g.0 r.notes) r.last; verdict = r.verdict; arrives = CookieBegins y r.last r.notes r.verdict a t none q r.acts g.0 (λ on. g.1) }

    joined : has_ports e.configuration p ≡ true → passes e.phase p ≡ true → (h : Bool) → has_association e.phase ≡ h → Arrived e d p
    joined a t true has =
        let r = all_acted p.tag e no_notes p.chunks bound in
        let g = gap_left p.tag e no_notes p.chunks bound r in
        record { last = packet_ended (urged g.0 r.notes) (wearing (missed_below e.pace) r.last); verdict = r.verdict; arrives = Heard r.last r.notes r.verdict a t has r.acts g.0 (λ on. g.1) }
    joined a t false none = opened a t none (opened_by e p) refl

    tagged : has_ports e.configuration p ≡ true → (r : Bool) → passes e.phase p ≡ r → Arrived e d p
    tagged a true t = joined a t (has_association e.phase) refl
    tagged a false t = record { last = e; verdict = _; arrives = NotOurs a t }

    ports : (r : Bool) → has_ports e.configuration p ≡ r → Arrived e d p
    ports true a = tagged a (passes e.phase p) refl
    ports false a = record { last = e; verdict = _; arrives = Elsewhere a }
