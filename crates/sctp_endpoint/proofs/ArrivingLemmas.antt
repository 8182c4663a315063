-- A packet whose chunks acted, all of them or those before a failed allocation: it was received as the state machine receives it.
use Rattle.std.proofs.Common.{◌≡◌, ℕ, inl, inr, Bool, true, false, List, [], ◌∷◌, ◌++◌, drop, Some, None, refl, sym, ap, subst, ◌∙◌}
use Rattle.std.specs.Prelude.{Option, Result, Ok, Err, if◌then◌else◌, ◌||◌}
use Rattle.sctp_model.specs.wire.Chunk.{ChunkMeaning}
use Rattle.sctp_model.specs.wire.Packet.{Packet}
use Rattle.sctp_model.specs.wire.Places.{ArePlaced}
use Rattle.sctp_model.specs.end.Sealing.{Body}
use Rattle.sctp_model.specs.end.EndView.{Draw, EndView, has_association}
use Rattle.sctp_model.specs.end.Clock.{at_moment}
use Rattle.sctp_model.specs.end.Wearing.{missed_below, wearing}
use Rattle.sctp_model.specs.end.Opening.{begun}
use Rattle.sctp_model.specs.end.PeerFaults.{Unnoted}
use Rattle.sctp_model.specs.end.Strays as model
use Rattle.sctp_model.specs.end.Strays.{holds_abort, is_abort, listens, body_in, body_among}
use Rattle.sctp_model.specs.end.Arriving.{AllAct, NoneLeft, CookieBegins, Heard, Notes, noted, no_notes, verdict_of, is_answer, LeavesGap, urged, packet_ended, ReadAs, IsCutShort, CutFirst, CutLater, WantsNoMemory}
use Rattle.sctp_values.specs.declared.no_memory.NoMemory.{NoMemory}
use Rattle.sctp_association.specs.MachineStands.{MachineStands}
use Rattle.sctp_association.specs.declared.machine.Machine.{Machine}
use Rattle.sctp_endpoint.specs.Straying.{StrayWants}
use Rattle.sctp_endpoint.specs.inner.Acted.{notes_meaning, ActsAll}
use Rattle.sctp_endpoint.specs.inner.Arrived.{IsFor, Ends, HearsAll, Arrived}
use Rattle.sctp_endpoint.specs.declared.after.Notes as declared
use Rattle.sctp_endpoint.specs.declared.after.Verdict.{Verdict}
use Rattle.sctp_endpoint.proofs.WearingLemmas.{none_missed}
use Rattle.sctp_endpoint.proofs.TagLemmas.{all_tagged, others_tagged, late_heard, late_outside, wants}

-- what is told of chunks that went on is no answer
pub goes_unanswered : (listed : Bool) → is_answer (verdict_of listed) ≡ false
goes_unanswered true = refl
goes_unanswered false = refl

-- the end of a packet behind the chunks that acted
pub hears : (r : Result Verdict NoMemory) (from : Option ℕ) (tag : ℕ) (v : EndView) (n l : declared.Notes) (ms : List ChunkMeaning) (e f : Machine) → ActsAll tag v n ms r e l
    → ((t : EndView) → MachineStands e t → Ends from t (notes_meaning l) f) → HearsAll from tag v (notes_meaning n) ms r f
hears (Ok told) from tag v n l ms e f a ended = (a.0, notes_meaning l, a.1, a.2, a.3, a.4, ended a.0 a.5)
hears (Err why) from tag v n l ms e f a ended = (a.0, a.1, a.2, a.3, notes_meaning l, a.4, a.5, a.6, ended a.3 a.7)

-- without chunks nothing acted
none_acted : (tag : ℕ) (v t : EndView) (k n : Notes) (gap : Bool) (x : model.Verdict) → AllAct tag v k [] t n x
    → packet_ended (urged gap n) (wearing (missed_below v.pace) t) ≡ packet_ended (urged gap k) v
none_acted tag v t k n gap x (NoneLeft _ _) = ap (packet_ended (urged gap k)) (none_missed v)

-- ---- at an end with an association

module _ (e : EndView) (now : ℕ) (d : Draw) (p : Packet) (for : IsFor (at_moment e now) p) (has : has_association (at_moment e now).phase ≡ true) where
  cut_heard : (m : Machine) (front back : List ChunkMeaning) (c : ChunkMeaning) (t : EndView) (n : Notes) → p.chunks ≡ front ++ c ∷ back
      → AllAct p.tag (at_moment e now) no_notes front t n (verdict_of n.listed) → Ends (Some (missed_below (at_moment e now).pace)) t n m
      → (u : EndView) × IsCutShort e now d (Some p) u × MachineStands m u
  cut_heard m [] back c t n split acts (gap, leaves, stands) =
      ((at_moment e now), CutFirst (Some p), subst (MachineStands m) (none_acted p.tag (at_moment e now) t no_notes n gap (verdict_of n.listed) acts) stands)
  cut_heard m (y ∷ front) back c t n split acts (gap, leaves, stands) = (
    packet_ended (urged gap n) (wearing (missed_below (at_moment e now).pace) t),
    CutLater p y front back c (packet_ended (urged gap n) (wearing (missed_below (at_moment e now).pace) t)) (verdict_of n.listed) split
        (Heard t n (verdict_of n.listed) for.ports (rw split at for.tag) has acts gap leaves) (goes_unanswered n.listed),
    stands,
  )

  all_heard : (r : Result Verdict NoMemory) (m : Machine) → HearsAll (Some (missed_below (at_moment e now).pace)) p.tag (at_moment e now) no_notes p.chunks r m → Arrived e now d p r m
  all_heard (Ok told) m h = (packet_ended (urged h.6.0 h.1) (wearing (missed_below (at_moment e now).pace) h.0), h.2, ReadAs p _ _ (Heard h.0 h.1 h.2 for.ports for.tag has h.3 h.6.0 h.6.1), h.4, h.5, h.6.2)
  all_heard (Err why) m h =
      let cut = cut_heard m h.0 h.1 h.2 h.3 h.4 h.5 h.7 h.8 in (
        cut.0,
        cut.1,
        cut.2,
        λ placed. wants e now d p (λ t x. late_heard (at_moment e now) d p t x for.ports for.tag has (rw h.5 (all_tagged h.0 h.1 h.2 (rw h.5 at placed) h.6))),
      )

  pub arrived_heard : (r : Result Verdict NoMemory) (m : Machine) (k : Notes) (from : ℕ) → k ≡ no_notes → from ≡ missed_below (at_moment e now).pace
      → HearsAll (Some from) p.tag (at_moment e now) k p.chunks r m → Arrived e now d p r m
  arrived_heard r m k from none since h =
      all_heard r m (subst (λ (i : Notes). HearsAll (Some (missed_below (at_moment e now).pace)) p.tag (at_moment e now) i p.chunks r m) none
      (subst (λ (n : ℕ). HearsAll (Some n) p.tag (at_moment e now) k p.chunks r m) since h))

-- ---- at an end without one

neither : (b c d : Bool) → (c ≡ false → d ≡ false) → (b || c) ≡ false → (b || d) ≡ false
neither true c d fewer off = absurd (cc)
neither false c d fewer off = fewer off

-- an ABORT among the first chunks is one among all
fewer_aborts : (front back : List ChunkMeaning) → holds_abort (front ++ back) ≡ false → holds_abort front ≡ false
fewer_aborts [] back none = refl
fewer_aborts (x ∷ front) back none = neither (is_abort x) (holds_abort (front ++ back)) (holds_abort front) (fewer_aborts front back) none

-- so a packet that is cut behind its first chunk holds the same cookie
same_body : (v : EndView) (tag : ℕ) (y : ChunkMeaning) (front back : List ChunkMeaning) (b : Body) → body_among v tag (y ∷ (front ++ back)) ≡ Some b
    → body_among v tag (y ∷ front) ≡ Some b
same_body v tag y front back b is = by (holds_abort (y ∷ (front ++ back))) (holds_abort (y ∷ front)) (fewer_aborts (y ∷ front) back) is
  where
    by : (all few : Bool) → (all ≡ false → few ≡ false) → (if all then None else body_in (listens v) v tag y) ≡ Some b
        → (if few then None else body_in (listens v) v tag y) ≡ Some b
    by true few fewer some = absurd (cc)
    by false few fewer some = rw (fewer refl) some

module _ (e : EndView) (now : ℕ) (d : Draw) (p : Packet) (for : IsFor (at_moment e now) p) (has : has_association (at_moment e now).phase ≡ false) where
  -- why it isn't dropped early
  outside_late : (model.opened_by (at_moment e now) p ≡ None → is_answer (model.stray_verdict (at_moment e now) d p) ≡ true) → ArePlaced p.chunks → WantsNoMemory e now d (Some p) → ⊥
  outside_late answered placed = wants e now d p (λ t x. late_outside (at_moment e now) d p t x for.ports for.tag has answered (others_tagged p.chunks placed))

  opens : (b : Body) → model.opened_by (at_moment e now) p ≡ Some b → model.opened_by (at_moment e now) p ≡ None → is_answer (model.stray_verdict (at_moment e now) d p) ≡ true
  opens b some none = let q : None ≡ Some b = sym none ∙ some in absurd (cc)

  -- a stray that wanted memory
  pub stray_cut : (m : Machine) → StrayWants (at_moment e now) d p.tag p.chunks → MachineStands m (at_moment e now)
      → (t : EndView) × IsCutShort e now d (Some p) t × MachineStands m t × (ArePlaced p.chunks → WantsNoMemory e now d (Some p) → ⊥)
  stray_cut m (inl answered) stands = ((at_moment e now), CutFirst (Some p), stands, outside_late (λ none. answered))
  stray_cut m (inr opened) stands = ((at_moment e now), CutFirst (Some p), stands, outside_late (opens opened.0 opened.1))

  cut_begun : (m : Machine) (b : Body) (all front back : List ChunkMeaning) (c : ChunkMeaning) (t : EndView) (n : Notes) (gap : Bool) → p.chunks ≡ all
      → model.opened_by (at_moment e now) p ≡ Some b → drop 1 all ≡ front ++ c ∷ back
      → AllAct p.tag (begun b (at_moment e now)) (noted Unnoted no_notes) front t n (verdict_of n.listed) → LeavesGap t gap
      → IsCutShort e now d (Some p) (packet_ended (urged gap n) t)
  cut_begun m b [] [] back c t n gap chunks opened split acts leaves = absurd (cc)
  cut_begun m b [] (f ∷ front) back c t n gap chunks opened split acts leaves = absurd (cc)
  cut_begun m b (y ∷ ys) front back c t n gap chunks opened split acts leaves =
      let whole : p.chunks ≡ y ∷ (front ++ c ∷ back) = rw split at chunks in
      CutLater p y front back c (packet_ended (urged gap n) t) (verdict_of n.listed) whole
      (CookieBegins b t n (verdict_of n.listed) for.ports (rw whole at for.tag) has (same_body (at_moment e now) p.tag y front (c ∷ back) b (rw whole at opened)) acts gap leaves)
      (goes_unanswered n.listed)

  all_begun : (r : Result Verdict NoMemory) (m : Machine) (b : Body) → body_among (at_moment e now) p.tag p.chunks ≡ Some b
      → HearsAll None p.tag (begun b (at_moment e now)) (noted Unnoted no_notes) (drop 1 p.chunks) r m → Arrived e now d p r m
  all_begun (Ok told) m b opened h =
      (packet_ended (urged h.6.0 h.1) h.0, h.2, ReadAs p _ _ (CookieBegins b h.0 h.1 h.2 for.ports for.tag has opened h.3 h.6.0 h.6.1), h.4, h.5, h.6.2)
  all_begun (Err why) m b opened h =
      (packet_ended (urged h.8.0 h.4) h.3, cut_begun m b p.chunks h.0 h.1 h.2 h.3 h.4 h.8.0 refl opened h.5 h.7 h.8.1, h.8.2, outside_late (opens b opened))

  pub arrived_begun : (r : Result Verdict NoMemory) (m : Machine) (b : Body) (k : Notes) (ms : List ChunkMeaning) → body_among (at_moment e now) p.tag p.chunks ≡ Some b
      → k ≡ noted Unnoted no_notes → ms ≡ drop 1 p.chunks → HearsAll None p.tag (begun b (at_moment e now)) k ms r m → Arrived e now d p r m
  arrived_begun r m b k ms opened one behind h =
      all_begun r m b opened (subst (λ (i : Notes). HearsAll None p.tag (begun b (at_moment e now)) i (drop 1 p.chunks) r m) one
      (subst (λ (xs : List ChunkMeaning). HearsAll None p.tag (begun b (at_moment e now)) k xs r m) behind h))
