-- What moves deliver: an ordered message has a number that was waited for or lay ahead; of an unordered one some fragment was recorded on the way.
use Rattle.std.proofs.Common.{◌≡◌, ℕ, suc, ◌≤◌, ◌⊎◌, ◌==◌, Bool, true, false, List, [], ◌∷◌, ◌++◌, Some, inl, inr, refl, sym, subst, ap, ◌∙◌, arith, append-nil, if◌then◌else◌}
use Rattle.std.proofs.lemmas.Bool.Decides.{nat_tests}
use Rattle.std.proofs.lemmas.List.{append_assoc}
use Rattle.sctp_model.specs.numbers.Lists.{Has, at}
use Rattle.sctp_model.specs.messages.Format.{Format, Ordered, Lane}
use Rattle.sctp_model.specs.messages.Plan.{Part, Plan, entry_at}
use Rattle.sctp_model.specs.messages.Pieces.{Piece}
use Rattle.sctp_model.specs.messages.Whole.{IsWhole}
use Rattle.sctp_model.specs.receiver.ReceiverView.{Handed, ReceiverView, handed}
use Rattle.sctp_model.specs.receiver.Receiving.{message_of, recorded, handed_unordered}
use Rattle.sctp_model.specs.receiver.Laws.{IsIdle}
use Rattle.sctp_model.specs.world.Safe.{WasHanded}
use Rattle.sctp_safety.specs.Way.{Way, Move, Send, Name, Time_passes, Number, Continue, Withdraw, Abandon, Mark, Change_sending, Sack_comes, Shutdown_comes, Put_piece, Put_forward, Put_sack, Put_shutdown, Keep_piece, Drop_piece, Forward_comes, Hand_over, Hand_unordered, Pass_over, Drop_below_next, Let_go, Take, Note_duplicates, Step, Run, with_receiver, past}
use Rattle.sctp_safety.specs.Exact.{Leads}
use Rattle.sctp_safety.proofs.lists.Basics.{at_cases, Has-push, Has-filtered}
use Rattle.sctp_safety.proofs.moves.Facts.{Good}
use Rattle.sctp_safety.proofs.moves.Always.{kept_by-Step}
use Rattle.sctp_safety.proofs.moves.Settled.{ordered_numbered}
use Rattle.sctp_safety.proofs.moves.Taken.{leads_by}
use Rattle.sctp_safety.proofs.plan.OneMessage.{IsOneMessage, honest_whole, number_counts}
use Rattle.sctp_safety.proofs.runs.Grown.{IsPrefix, plan_lasts}

-- some fragment of the message was recorded from the one to the other
abbrev pub IsRecordedAnew : Plan → (r t : ReceiverView) → Lane → ℕ → Type 0
IsRecordedAnew p r t l k = (i : ℕ) × (j : ℕ) × (entry_at p i ≡ Some (Part l k j)) × (r.seen i ≡ false) × (t.seen i ≡ true)

abbrev pub IsHandedAnew : Plan → (r t : ReceiverView) → Lane → ℕ → Type 0
IsHandedAnew p r t l k = ((l.kind ≡ Ordered) × (r.next l.stream ≤ k)) ⊎ IsRecordedAnew p r t l k

pub record OnWay (w v : Way) : Type 0 where
  pub format : v.format ≡ w.format
  pub lasts : IsPrefix w.sender.plan v.sender.plan
  pub seen : (j : ℕ) → w.receiver.seen j ≡ true → v.receiver.seen j ≡ true
  pub kept : (z : Piece) → Has v.receiver.kept z → Has w.receiver.kept z ⊎ (w.receiver.seen z.index ≡ false)
  pub next : (s : ℕ) → w.receiver.next s ≤ v.receiver.next s
  pub more : (s : ℕ) → (hs : List Handed) × (handed v.receiver s ≡ handed w.receiver s ++ hs)
  pub anew : (l : Lane) (k : ℕ) → WasHanded v.sender.plan v.receiver l k → WasHanded w.sender.plan w.receiver l k ⊎ IsHandedAnew v.sender.plan w.receiver v.receiver l k

on_itself : (w : Way) → OnWay w w
on_itself w = record {
  format = refl;
  lasts = λ i e h. h;
  seen = λ j h. h;
  kept = λ z h. inl h;
  next = λ s. omega arith;
  more = λ s. ([], sym (append-nil (handed w.receiver s)));
  anew = λ l k h. inl h;
}

-- ---- what the moves do to a receiver

-- one that waits after all others
more_behind : (taken waiting : ℕ → List Handed) (s : ℕ) (m : Handed) (c : ℕ) → (hs : List Handed) × (taken c ++ at waiting s (waiting s ++ m ∷ []) c ≡ (taken c ++ waiting c) ++ hs)
more_behind taken waiting s m c =
    at_cases (λ (ws : List Handed). (hs : List Handed) × (taken c ++ ws ≡ (taken c ++ waiting c) ++ hs)) waiting s (waiting s ++ m ∷ []) c
    (λ e. (m ∷ [], ap (λ (i : ℕ). taken c ++ (waiting i ++ m ∷ [])) (sym e) ∙ sym (append_assoc (taken c) (waiting c) (m ∷ []))))
    (λ ne. ([], sym (append-nil (taken c ++ waiting c))))

has_behind : (taken waiting : ℕ → List Handed) (s : ℕ) (m : Handed) (c : ℕ) (h : Handed) → Has (taken c ++ at waiting s (waiting s ++ m ∷ []) c) h → Has (taken c ++ waiting c) h ⊎ (m ≡ h)
has_behind taken waiting s m c h =
    at_cases (λ (ws : List Handed). Has (taken c ++ ws) h → Has (taken c ++ waiting c) h ⊎ (m ≡ h)) waiting s (waiting s ++ m ∷ []) c
    (λ e has. Has-push (taken c ++ waiting c) m h
    (subst (λ (hs : List Handed). Has hs h) (ap (λ (i : ℕ). taken c ++ (waiting i ++ m ∷ [])) (sym e) ∙ sym (append_assoc (taken c) (waiting c) (m ∷ []))) has))
    (λ ne has. inl has)

-- one that is taken
taken_same : (taken waiting : ℕ → List Handed) (s : ℕ) (m : Handed) (rest : List Handed) (c : ℕ) → waiting s ≡ m ∷ rest →
    at taken s (taken s ++ m ∷ []) c ++ at waiting s rest c ≡ taken c ++ waiting c
taken_same taken waiting s m rest c waits = go (c == s) refl
  where
    go : (b : Bool) → (c == s) ≡ b → (if b then taken s ++ m ∷ [] else taken c) ++ (if b then rest else waiting c) ≡ taken c ++ waiting c
    go true is =
        let own : s ≡ c = grind (arith, nat_tests, is) in
        append_assoc (taken s) (m ∷ []) rest ∙ ap (λ (hs : List Handed). taken s ++ hs) (sym waits) ∙ ap (λ (i : ℕ). taken i ++ waiting i) own
    go false is = refl

-- all of some chunks were kept, or one of them was recorded later
search : (r : ReceiverView) (ys : List Piece) → ((z : Piece) → Has ys z → Has r.kept z ⊎ (r.seen z.index ≡ false)) →
    ((z : Piece) → Has ys z → Has r.kept z) ⊎ ((z : Piece) × Has ys z × (r.seen z.index ≡ false))
search r [] each = inl (λ z none. absurd none)
search r (y ∷ ys) each = go (each y (inl refl)) (search r ys (λ z has. each z (inr has)))
  where
    go : Has r.kept y ⊎ (r.seen y.index ≡ false) → ((z : Piece) → Has ys z → Has r.kept z) ⊎ ((z : Piece) × Has ys z × (r.seen z.index ≡ false)) →
        ((z : Piece) → Has (y ∷ ys) z → Has r.kept z) ⊎ ((z : Piece) × Has (y ∷ ys) z × (r.seen z.index ≡ false))
    go (inr off) more = inr (y, inl refl, off)
    go (inl has) (inr (z, there, off)) = inr (z, inr there, off)
    go (inl has) (inl all) = inl (λ z there. elim there [ inl same ↦ subst (Has r.kept) same has | inr further ↦ all z further ])

-- ---- one move

module _ (w : Way) (idle : IsIdle w.format w.receiver) where
  unseen_before : (v : Way) → OnWay w v → (i : ℕ) → v.receiver.seen i ≡ false → w.receiver.seen i ≡ false
  unseen_before v o i off = go (w.receiver.seen i) refl
    where
      go : (b : Bool) → w.receiver.seen i ≡ b → b ≡ false
      go true on = absurd (let there = o.seen i on in cc)
      go false is = refl

  anew_on : (v u : Way) (l : Lane) (k : ℕ) → IsPrefix v.sender.plan u.sender.plan → ((j : ℕ) → v.receiver.seen j ≡ true → u.receiver.seen j ≡ true) →
      IsHandedAnew v.sender.plan w.receiver v.receiver l k → IsHandedAnew u.sender.plan w.receiver u.receiver l k
  anew_on v u l k lasts seen (inl ordered) = inl ordered
  anew_on v u l k lasts seen (inr (i, j, here, off, on)) = inr (i, j, lasts i _ here, off, seen i on)

  -- the receiver stays, and the plan may grow
  calm : (v u : Way) → Good v → OnWay w v → u.format ≡ v.format → IsPrefix v.sender.plan u.sender.plan → u.receiver ≡ v.receiver → OnWay w u
  calm v u g o format lasts same = record {
    format = format ∙ o.format;
    lasts = λ i e h. lasts i e (o.lasts i e h);
    seen = λ j h. seen j (o.seen j h);
    kept = λ z has. o.kept z (subst (λ (r : ReceiverView). Has r.kept z) same has);
    next = λ s. subst (λ (r : ReceiverView). w.receiver.next s ≤ r.next s) (sym same) (o.next s);
    more = λ s. ((o.more s).0, ap (λ (r : ReceiverView). handed r s) same ∙ (o.more s).1);
    anew = λ l k h. anew l k (subst (λ (r : ReceiverView). WasHanded u.sender.plan r l k) same h);
  }
    where
      seen : (j : ℕ) → v.receiver.seen j ≡ true → u.receiver.seen j ≡ true
      seen j h = subst (λ (r : ReceiverView). r.seen j ≡ true) (sym same) h

      anew : (l : Lane) (k : ℕ) → WasHanded u.sender.plan v.receiver l k → WasHanded w.sender.plan w.receiver l k ⊎ IsHandedAnew u.sender.plan w.receiver u.receiver l k
      anew l k (h, has, lane, first) =
          let honest = (g.held.told.honest l.stream h has).sent in
          let begins = honest.first in
          let there = lasts h.first _ begins in
          let number : honest.number ≡ k = cc (there, first) in
          let own : entry_at v.sender.plan h.first ≡ Some (Part l k 0) =
          subst (λ (n : ℕ). entry_at v.sender.plan h.first ≡ Some (Part l n 0)) number (subst (λ (y : Lane). entry_at v.sender.plan h.first ≡ Some (Part y honest.number 0)) lane begins) in
          elim (o.anew l k (h, has, lane, own)) [ inl before ↦ inl before | inr new ↦ inr (anew_on v u l k lasts seen new) ]

  -- the receiver changes, and delivers nothing
  quiet : (v : Way) (t : ReceiverView) → OnWay w v → ((j : ℕ) → v.receiver.seen j ≡ true → t.seen j ≡ true) →
      ((z : Piece) → Has t.kept z → Has v.receiver.kept z ⊎ (v.receiver.seen z.index ≡ false)) → ((s : ℕ) → v.receiver.next s ≤ t.next s) →
      ((s : ℕ) → handed t s ≡ handed v.receiver s) → OnWay w (with_receiver v t)
  quiet v t o seen kept next same = record {
    format = o.format;
    lasts = o.lasts;
    seen = λ j h. seen j (o.seen j h);
    kept = λ z has. elim (kept z has) [ inl before ↦ o.kept z before | inr off ↦ inr (unseen_before v o z.index off) ];
    next = λ s. (let a = o.next s in let b = next s in omega (arith, a, b));
    more = λ s. ((o.more s).0, same s ∙ (o.more s).1);
    anew = anew;
  }
    where
      anew : (l : Lane) (k : ℕ) → WasHanded v.sender.plan t l k → WasHanded w.sender.plan w.receiver l k ⊎ IsHandedAnew v.sender.plan w.receiver t l k
      anew l k (h, has, lane, first) =
          elim (o.anew l k (h, subst (λ (hs : List Handed). Has hs h) (same l.stream) has, lane, first)) [
            | inl before ↦ inl before
            | inr new ↦ inr (anew_on v (with_receiver v t) l k (λ i e here. here) seen new)
          ]

  -- it delivers a message
  hands : (v : Way) (t : ReceiverView) (s : ℕ) (m : Handed) → OnWay w v → t.seen ≡ v.receiver.seen → ((z : Piece) → Has t.kept z → Has v.receiver.kept z) →
      ((c : ℕ) → v.receiver.next c ≤ t.next c) → t.taken ≡ v.receiver.taken → t.waiting ≡ at v.receiver.waiting s (v.receiver.waiting s ++ m ∷ []) →
      ((l : Lane) (k : ℕ) → m.lane ≡ l → entry_at v.sender.plan m.first ≡ Some (Part l k 0) → IsHandedAnew v.sender.plan w.receiver t l k) → OnWay w (with_receiver v t)
  hands v t s m o seen kept next taken waiting new = record {
    format = o.format;
    lasts = o.lasts;
    seen = λ j h. on j (o.seen j h);
    kept = λ z has. o.kept z (kept z has);
    next = λ c. (let a = o.next c in let b = next c in omega (arith, a, b));
    more = λ c.
        let behind = more_behind v.receiver.taken v.receiver.waiting s m c in
        ((o.more c).0 ++ behind.0, all c ∙ behind.1 ∙ ap (λ (hs : List Handed). hs ++ behind.0) (o.more c).1 ∙ append_assoc (handed w.receiver c) (o.more c).0 behind.0);
    anew = anew;
  }
    where
      r : ReceiverView
      r = v.receiver

      on : (j : ℕ) → v.receiver.seen j ≡ true → t.seen j ≡ true
      on j h = ap (λ (f : ℕ → Bool). f j) seen ∙ h

      all : (c : ℕ) → handed t c ≡ r.taken c ++ at r.waiting s (r.waiting s ++ m ∷ []) c
      all c = ap (λ (f : ℕ → List Handed). f c ++ t.waiting c) taken ∙ ap (λ (f : ℕ → List Handed). r.taken c ++ f c) waiting

      anew : (l : Lane) (k : ℕ) → WasHanded v.sender.plan t l k → WasHanded w.sender.plan w.receiver l k ⊎ IsHandedAnew v.sender.plan w.receiver t l k
      anew l k (h, has, lane, first) = go (has_behind r.taken r.waiting s m l.stream h (subst (λ (hs : List Handed). Has hs h) (all l.stream) has))
        where
          go : Has (handed r l.stream) h ⊎ (m ≡ h) → WasHanded w.sender.plan w.receiver l k ⊎ IsHandedAnew v.sender.plan w.receiver t l k
          go (inl old) = elim (o.anew l k (h, old, lane, first)) [ inl before ↦ inl before | inr later ↦ inr (anew_on v (with_receiver v t) l k (λ i e here. here) on later) ]
          go (inr same) = inr (new l k (ap (λ (y : Handed). y.lane) same ∙ lane) (subst (λ (y : Handed). entry_at v.sender.plan y.first ≡ Some (Part l k 0)) (sym same) first))

  sent_on : (v u : Way) (m : Move) → Good v → OnWay w v → Step v m u → u.format ≡ v.format → u.receiver ≡ v.receiver → OnWay w u
  sent_on v u m g o step format same = calm v u g o format (plan_lasts v u (leads_by v u m step)) same

  to : (v u : Way) → v ≡ u → OnWay w u → OnWay w v
  to v u e o = subst (λ (z : Way). OnWay w z) (sym e) o

  recorded_seen : (r : ReceiverView) (i j : ℕ) → r.seen j ≡ true → at r.seen i true j ≡ true
  recorded_seen r i j on = at_cases (λ (b : Bool). b ≡ true) r.seen i true j (λ e. refl) (λ ne. on)

  -- the next number of a stream is done with
  next_on : (r : ReceiverView) (s c : ℕ) → r.next c ≤ at r.next s (suc (r.next s)) c
  next_on r s c = at_cases (λ (n : ℕ). r.next c ≤ n) r.next s (suc (r.next s)) c (λ e. (let same = ap r.next e in omega (arith, same))) (λ ne. omega arith)

  step_on : (v u : Way) (m : Move) → Good v → OnWay w v → Step v m u → OnWay w u
  step_on v u (Send c xs) g o (a, b, d, f, e) = sent_on v u (Send c xs) g o (a, b, d, f, e) (ap (λ (z : Way). z.format) e) (ap (λ (z : Way). z.receiver) e)
  step_on v u (Name t) g o e = sent_on v u (Name t) g o e (ap (λ (z : Way). z.format) e) (ap (λ (z : Way). z.receiver) e)
  step_on v u (Time_passes t) g o e = sent_on v u (Time_passes t) g o e (ap (λ (z : Way). z.format) e) (ap (λ (z : Way). z.receiver) e)
  step_on v u (Number before q rest count) g o (a, b, c, d, f, i, e) = sent_on v u (Number before q rest count) g o (a, b, c, d, f, i, e) (ap (λ (z : Way). z.format) e) (ap (λ (z : Way). z.receiver) e)
  step_on v u (Continue l n k count) g o (m, a, b, c, d, f, i, e) = sent_on v u (Continue l n k count) g o (m, a, b, c, d, f, i, e) (ap (λ (z : Way). z.format) e) (ap (λ (z : Way). z.receiver) e)
  step_on v u (Withdraw before q rest) g o (a, b, e) = sent_on v u (Withdraw before q rest) g o (a, b, e) (ap (λ (z : Way). z.format) e) (ap (λ (z : Way). z.receiver) e)
  step_on v u (Abandon l n) g o (m, a, b, e) = sent_on v u (Abandon l n) g o (m, a, b, e) (ap (λ (z : Way). z.format) e) (ap (λ (z : Way). z.receiver) e)
  step_on v u (Mark l n) g o (m, a, b, c, e) = sent_on v u (Mark l n) g o (m, a, b, c, e) (ap (λ (z : Way). z.format) e) (ap (λ (z : Way). z.receiver) e)
  step_on v u (Change_sending b) g o (same, e) = sent_on v u (Change_sending b) g o (same, e) (ap (λ (z : Way). z.format) e) (ap (λ (z : Way). z.receiver) e)
  step_on v u (Sack_comes x) g o (a, b, e) = sent_on v u (Sack_comes x) g o (a, b, e) (ap (λ (z : Way). z.format) e) (ap (λ (z : Way). z.receiver) e)
  step_on v u (Shutdown_comes c) g o (a, b, e) = sent_on v u (Shutdown_comes c) g o (a, b, e) (ap (λ (z : Way). z.format) e) (ap (λ (z : Way). z.receiver) e)
  step_on v u (Put_piece i) g o (l, n, k, m, a, b, e) = sent_on v u (Put_piece i) g o (l, n, k, m, a, b, e) (ap (λ (z : Way). z.format) e) (ap (λ (z : Way). z.receiver) e)
  step_on v u (Put_forward x) g o (a, b, c, e) = sent_on v u (Put_forward x) g o (a, b, c, e) (ap (λ (z : Way). z.format) e) (ap (λ (z : Way). z.receiver) e)
  step_on v u (Put_sack x) g o (a, e) = sent_on v u (Put_sack x) g o (a, e) (ap (λ (z : Way). z.format) e) (ap (λ (z : Way). z.receiver) e)
  step_on v u (Put_shutdown c) g o (a, e) = sent_on v u (Put_shutdown c) g o (a, e) (ap (λ (z : Way). z.format) e) (ap (λ (z : Way). z.receiver) e)
  step_on v u (Keep_piece x) g o (a, b, e) =
      to u _ e (quiet v (record (recorded v.receiver x) { kept = x ∷ v.receiver.kept }) o (recorded_seen v.receiver x.index) kept (λ s. omega arith) (λ s. refl))
    where
      kept : (z : Piece) → Has (x ∷ v.receiver.kept) z → Has v.receiver.kept z ⊎ (v.receiver.seen z.index ≡ false)
      kept z (inl same) = inr (subst (λ (y : Piece). v.receiver.seen y.index ≡ false) same b)
      kept z (inr has) = inl has
  step_on v u (Drop_piece x) g o (a, b, c, e) = to u _ e (quiet v (recorded v.receiver x) o (recorded_seen v.receiver x.index) (λ z has. inl has) (λ s. omega arith) (λ s. refl))
  step_on v u (Forward_comes x skip) g o (a, b, c, e) = to u _ e (quiet v _ o (λ j h. h) (λ z has. inl has) (λ s. omega arith) (λ s. refl))
  step_on v u (Hand_over s x xs) g o (whole, e) =
      to u _ e (hands v _ s (message_of v.format x xs) o refl (λ z has. Has-filtered _ v.receiver.kept z has) (next_on v.receiver s) refl refl
      (λ l k lane first. inl (ordered l k lane first)))
    where
      ordered : (l : Lane) (k : ℕ) → x.lane ≡ l → entry_at v.sender.plan x.index ≡ Some (Part l k 0) → (l.kind ≡ Ordered) × (w.receiver.next l.stream ≤ k)
      ordered l k lane first =
          let y = g.held.kept x (whole.1 x (inl refl)) in
          let own = whole.2 in
          let here = y.here in
          let number : y.number ≡ k = cc (here, first) in
          let kind : x.lane.kind ≡ Ordered = ap (λ (z : Lane). z.kind) own.0 in
          let counts = number_counts v.format x.lane y.number (ordered_numbered v.format x.lane.kind kind) in
          let said = ap (λ (z : Piece). z.number) y.same in
          let has_number = own.1 in
          let next : y.number ≡ v.receiver.next s = cc (said, counts, has_number) in
          let stream : l.stream ≡ s = ap (λ (z : Lane). z.stream) (sym lane ∙ own.0) in
          let low = o.next s in
          (ap (λ (z : Lane). z.kind) (sym lane) ∙ kind, subst (λ (i : ℕ). w.receiver.next i ≤ k) (sym stream) (omega (arith, low, next, number)))
  step_on v u (Hand_unordered x xs) g o (kind, whole, within, e) =
      to u _ e (hands v (handed_unordered v.format v.receiver x xs) x.lane.stream (message_of v.format x xs) o refl (λ z has. Has-filtered _ v.receiver.kept z has) (λ c. omega arith) refl refl
      (λ l k lane first. inr (unordered l k lane first)))
    where
      unordered : (l : Lane) (k : ℕ) → x.lane ≡ l → entry_at v.sender.plan x.index ≡ Some (Part l k 0) → IsRecordedAnew v.sender.plan w.receiver v.receiver l k
      unordered l k lane first = go (search w.receiver (x ∷ xs) (λ z has. o.kept z (within z has)))
        where
          one : IsOneMessage v.format v.sender.plan x xs
          one = honest_whole v.format v.sender.plan g.arranged x xs (λ z has. g.held.kept z (within z has)) whole

          number : one.number ≡ k
          number = let begins = one.first in cc (begins, first)

          go : ((z : Piece) → Has (x ∷ xs) z → Has w.receiver.kept z) ⊎ ((z : Piece) × Has (x ∷ xs) z × (w.receiver.seen z.index ≡ false)) → IsRecordedAnew v.sender.plan w.receiver v.receiver l k
          go (inl all) = absurd (idle.unordered x kind (x ∷ xs) (subst (λ (f : Format). IsWhole f (x ∷ xs)) o.format whole, all, inl refl))
          go (inr (z, has, off)) =
              let part = one.each z has in (
                z.index,
                part.1.0,
                subst (λ (n : ℕ). entry_at v.sender.plan z.index ≡ Some (Part l n part.1.0)) number
                    (subst (λ (y : Lane). entry_at v.sender.plan z.index ≡ Some (Part y one.number part.1.0)) lane part.1.1),
                off,
                g.held.kept_seen z (within z has),
              )
  step_on v u (Pass_over s) g o (a, b, e) = to u _ e (quiet v (past v.receiver s) o (λ j h. h) (λ z has. inl (Has-filtered _ v.receiver.kept z has)) (next_on v.receiver s) (λ c. refl))
  step_on v u (Drop_below_next s) g o e = to u _ e (quiet v _ o (λ j h. h) (λ z has. inl (Has-filtered _ v.receiver.kept z has)) (λ c. omega arith) (λ c. refl))
  step_on v u (Let_go t) g o (a, e) =
      to u _ e (quiet v t o (λ j h. ap (λ (r : ReceiverView). r.seen j) a.kept ∙ h)
      (λ z has. inl (Has-filtered a.stays v.receiver.kept z (subst (λ (r : ReceiverView). Has r.kept z) a.kept has)))
      (λ c. (let same = ap (λ (r : ReceiverView). r.next c) a.kept in omega (arith, same))) (λ c. ap (λ (r : ReceiverView). handed r c) a.kept))
  step_on v u (Take s h rest) g o (waits, e) =
      to u _ e (quiet v _ o (λ j on. on) (λ z has. inl has) (λ c. omega arith) (λ c. taken_same v.receiver.taken v.receiver.waiting s h rest c waits))
  step_on v u (Note_duplicates t) g o (a, e) =
      to u _ e (quiet v t o (λ j h. ap (λ (r : ReceiverView). r.seen j) a ∙ h) (λ z has. inl (subst (λ (r : ReceiverView). Has r.kept z) a has))
      (λ c. (let same = ap (λ (r : ReceiverView). r.next c) a in omega (arith, same))) (λ c. ap (λ (r : ReceiverView). handed r c) a))

  run_on : (v u : Way) (ms : List Move) → Good v → OnWay w v → Run v ms u → OnWay w u
  run_on v u [] g o e = to u v e o
  run_on v u (m ∷ ms) g o (mid, step, rest) = run_on mid u ms (kept_by-Step v mid m g step) (step_on v mid m g o step) rest

-- Where moves lead from a way at rest.
pub on_leads : (w v : Way) → Good w → IsIdle w.format w.receiver → Leads w v → OnWay w v
on_leads w v g idle (ms, run) = run_on w idle w v ms g (on_itself w) run
