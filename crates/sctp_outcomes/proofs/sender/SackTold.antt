-- A sender reports the fault of a SACK or SHUTDOWN that has one, and takes any other, as the relations say.
use Rattle.std.proofs.Common.{◌≡◌, ℕ, ◌+◌, ◌-◌, ◌^◌, ◌<◌, ◌≤◌, ◌⊎◌, inl, inr, Bool, true, false, ◌||◌, [], ◌∷◌, length, Option, Some, None, refl, sym, subst, arith}
use Rattle.std.specs.Prelude.{nat_lt, nat_le}
use Rattle.std.proofs.lemmas.Bool.{or_parts, or_left, or_right}
use Rattle.std.proofs.lemmas.Bool.Decides.{nat_tests}
use Rattle.sctp_model.specs.numbers.Serial.{tsn}
use Rattle.sctp_model.specs.sender.SenderView.{SenderView}
use Rattle.sctp_model.specs.sender.Words.{when, first_there}
use Rattle.sctp_model.specs.sender.SackTaken.{SackFault, Stale, Beyond, BadBlock, is_stale, index_of, is_beyond, some_is_bad, sack_fault, sack_taken, sack_after, shutdown_fault, shutdown_taken, shutdown_after}
use Rattle.sctp_outcomes.specs.sender.Sacks.{IsReadAs, IsFaulty, Comes_late, Says_more, Is_mixed, IsShutdownFaulty, IsSackTaken, IsShutdownTaken}
use Rattle.sctp_outcomes.specs.sender.SackLaws.{SackFaultIsTold, SackIsTaken, TakenHasNoFault, FaultyIsDropped, ShutdownFaultIsTold, ShutdownIsTaken, FaultyShutdownIsDropped}
use Rattle.sctp_outcomes.proofs.sender.SackCases.{or_way, read_is, not_before, ahead_is, beyond_is, past_is, blocks_are, are_blocks, covers_is, mark_stays}

-- ---- what is read is read so

record IsRead (v : SenderView) (wire c : ℕ) : Type 0 where
  fresh : is_stale v wire ≡ false
  index : index_of v wire ≡ c

read_one : (v : SenderView) (wire c : ℕ) → IsReadAs v wire c → IsRead v wire c
read_one v wire c h = subst (λ (t : ℕ). IsRead v t c) (h.tsn) (by_distance (c - v.cum) (let from = h.from in omega arith) (let from = h.from in let within = h.within in omega arith))
  where
    by_distance : (d : ℕ) → c ≡ v.cum + d → d ≤ 2 ^ 31 → IsRead v (tsn v.initial c) c
    by_distance d is near =
        subst (λ (j : ℕ). IsRead v (tsn v.initial j) j) (sym is)
        (record { fresh = not_before v.initial v.cum d near; index = let same = ahead_is v.initial v.cum d near in omega (arith, same) })

-- ---- the first of three faults

abbrev told : (old far mixed : Bool) → Option SackFault
told s b m = first_there (when s Stale ∷ when b Beyond ∷ when m BadBlock ∷ [])

data IsTold : (old far mixed : Bool) → SackFault → Type 0 where
  Old : (b m : Bool) → IsTold true b m Stale
  Far : (m : Bool) → IsTold false true m Beyond
  Mixed : IsTold false false true BadBlock

told_is : (s b m : Bool) (a : SackFault) → told s b m ≡ Some a → IsTold s b m a
told_is true b m a is = let same : Stale ≡ a = cc in subst (λ (x : SackFault). IsTold true b m x) same (Old b m)
told_is false true m a is = let same : Beyond ≡ a = cc in subst (λ (x : SackFault). IsTold false true m x) same (Far m)
told_is false false true a is = let same : BadBlock ≡ a = cc in subst (λ (x : SackFault). IsTold false false true x) same Mixed
told_is false false false a is = absurd (cc)

record AreNone (s b m : Bool) : Type 0 where
  old : s ≡ false
  far : b ≡ false
  mixed : m ≡ false

none_told : (s b m : Bool) → told s b m ≡ None → AreNone s b m
none_told true b m is = absurd (cc)
none_told false true m is = absurd (cc)
none_told false false true is = absurd (cc)
none_told false false false is = record { old = refl; far = refl; mixed = refl }

-- what is not so has the test false
off_of : (b : Bool) → (b ≡ true → ⊥) → b ≡ false
off_of true not_so = absurd (not_so refl)
off_of false not_so = refl

on_of : (b : Bool) → (b ≡ false → ⊥) → b ≡ true
on_of true not_off = refl
on_of false not_off = absurd (not_off refl)

off_on : (b : Bool) → b ≡ true → b ≡ false → ⊥
off_on b on off = absurd (cc)

-- ---- a SACK

pub sack_fault_told : SackFaultIsTold
sack_fault_told v x a low = (λ is. forth (is_stale v x.cumulative) refl (is_beyond v c x.blocks) refl (some_is_bad 0 x.blocks) refl a is, λ is. back a is)
  where
    c : ℕ
    c = index_of v x.cumulative

    forth : (s : Bool) → is_stale v x.cumulative ≡ s → (b : Bool) → is_beyond v (index_of v x.cumulative) x.blocks ≡ b → (m : Bool) → some_is_bad 0 x.blocks ≡ m → (e : SackFault) → told s b m ≡ Some e → IsFaulty v x e
    forth s old b far m mixed e is = by_way s b m e old far mixed (told_is s b m e is)
      where
        by_way : (s b m : Bool) (e : SackFault) → is_stale v x.cumulative ≡ s → is_beyond v (index_of v x.cumulative) x.blocks ≡ b → some_is_bad 0 x.blocks ≡ m → IsTold s b m e → IsFaulty v x e
        by_way _ _ _ _ old far mixed (Old b m) = Comes_late old
        by_way _ _ _ _ old far mixed (Far m) = Says_more (index_of v x.cumulative) (read_is v x.cumulative low old) (beyond_is v (index_of v x.cumulative) x.blocks far)
        by_way _ _ _ _ old far mixed Mixed =
            Is_mixed (index_of v x.cumulative) (read_is v x.cumulative low old)
            (λ past. off_on (is_beyond v (index_of v x.cumulative) x.blocks) (past_is v (index_of v x.cumulative) x.blocks past) far)
            (λ apart. off_on (some_is_bad 0 x.blocks) mixed (are_blocks 0 x.blocks apart))

    back : (e : SackFault) → IsFaulty v x e → sack_fault v x ≡ Some e
    back _ (Comes_late old) = rw old refl
    back _ (Says_more i read past) =
        let r = read_one v x.cumulative i read in
        let far : is_beyond v (index_of v x.cumulative) x.blocks ≡ true = subst (λ (j : ℕ). is_beyond v j x.blocks ≡ true) (sym r.index) (past_is v i x.blocks past) in
        rw (r.fresh, far) refl
    back _ (Is_mixed i read within mixed) =
        let r = read_one v x.cumulative i read in
        let near : is_beyond v i x.blocks ≡ false = off_of (is_beyond v i x.blocks) (λ far. within (beyond_is v i x.blocks far)) in
        let near_c : is_beyond v (index_of v x.cumulative) x.blocks ≡ false = subst (λ (j : ℕ). is_beyond v j x.blocks ≡ false) (sym r.index) near in
        let bad : some_is_bad 0 x.blocks ≡ true = on_of (some_is_bad 0 x.blocks) (λ good. mixed (blocks_are 0 x.blocks good)) in
        rw (r.fresh, near_c, bad) refl

pub sack_is_taken : SackIsTaken
sack_is_taken v x low none = subst (λ (u : SenderView). IsSackTaken v x u) (sym after) taken
  where
    after : sack_after v x ≡ sack_taken v x
    after = rw none refl

    off : AreNone (is_stale v x.cumulative) (is_beyond v (index_of v x.cumulative) x.blocks) (some_is_bad 0 x.blocks)
    off = none_told (is_stale v x.cumulative) (is_beyond v (index_of v x.cumulative) x.blocks) (some_is_bad 0 x.blocks) none

    taken : IsSackTaken v x (sack_taken v x)
    taken = record {
      c = index_of v x.cumulative;
      read = read_is v x.cumulative low off.old;
      inside = λ past. off_on (is_beyond v (index_of v x.cumulative) x.blocks) (past_is v (index_of v x.cumulative) x.blocks past) off.far;
      blocks = blocks_are 0 x.blocks off.mixed;
      cum = refl;
      covered = λ i. covers_is (index_of v x.cumulative) x.blocks i;
      marked = λ i. mark_stays (v.marked i) ((sack_taken v x).covered i);
      rwnd = refl;
      others = refl;
    }

pub taken_has_none : TakenHasNoFault
taken_has_none v u x low h =
    let r = read_one v x.cumulative h.c h.read in
    let near : is_beyond v h.c x.blocks ≡ false = off_of (is_beyond v h.c x.blocks) (λ far. h.inside (beyond_is v h.c x.blocks far)) in
    let near_c : is_beyond v (index_of v x.cumulative) x.blocks ≡ false = subst (λ (j : ℕ). is_beyond v j x.blocks ≡ false) (sym r.index) near in
    let good = are_blocks 0 x.blocks h.blocks in
    rw (r.fresh, near_c, good) refl

pub faulty_is_dropped : FaultyIsDropped
faulty_is_dropped v x a low is = let told : sack_fault v x ≡ Some a = (sack_fault_told v x a low).1 is in rw told refl

-- ---- a SHUTDOWN

abbrev told_two : (old far : Bool) → Option SackFault
told_two s b = first_there (when s Stale ∷ when b Beyond ∷ [])

data IsToldTwo : (old far : Bool) → SackFault → Type 0 where
  OldOne : (b : Bool) → IsToldTwo true b Stale
  FarOne : IsToldTwo false true Beyond

told_two_is : (s b : Bool) (a : SackFault) → told_two s b ≡ Some a → IsToldTwo s b a
told_two_is true b a is = let same : Stale ≡ a = cc in subst (λ (x : SackFault). IsToldTwo true b x) same (OldOne b)
told_two_is false true a is = let same : Beyond ≡ a = cc in subst (λ (x : SackFault). IsToldTwo false true x) same FarOne
told_two_is false false a is = absurd (cc)

none_told_two : (s b : Bool) → told_two s b ≡ None → (s ≡ false) × (b ≡ false)
none_told_two true b is = absurd (cc)
none_told_two false true is = absurd (cc)
none_told_two false false is = (refl, refl)

-- without blocks, past the last one is the index alone
past_alone : (v : SenderView) (c : ℕ) → is_beyond v c [] ≡ true → length v.plan.entries < c
past_alone v c is = elim (or_way (nat_lt (length v.plan.entries) c) false is) [ inl past ↦ grind (arith, nat_tests) | inr none ↦ absurd (cc) ]

alone_past : (v : SenderView) (c : ℕ) → length v.plan.entries < c → is_beyond v c [] ≡ true
alone_past v c past = or_left (nat_lt (length v.plan.entries) c) false (let lt = past in grind (arith, nat_tests))

pub shutdown_fault_told : ShutdownFaultIsTold
shutdown_fault_told v wire a low = (λ is. forth (is_stale v wire) (is_beyond v (index_of v wire) []) a refl refl (told_two_is (is_stale v wire) (is_beyond v (index_of v wire) []) a is), λ is. back a is)
  where
    forth : (s b : Bool) (e : SackFault) → is_stale v wire ≡ s → is_beyond v (index_of v wire) [] ≡ b → IsToldTwo s b e → IsShutdownFaulty v wire e
    forth _ _ _ old far (OldOne b) = IsShutdownFaulty.Comes_late old
    forth _ _ _ old far FarOne = IsShutdownFaulty.Says_more (index_of v wire) (read_is v wire low old) (past_alone v (index_of v wire) far)

    back : (e : SackFault) → IsShutdownFaulty v wire e → shutdown_fault v wire ≡ Some e
    back _ (IsShutdownFaulty.Comes_late old) = rw old refl
    back _ (IsShutdownFaulty.Says_more i read past) =
        let r = read_one v wire i read in
        let far : is_beyond v (index_of v wire) [] ≡ true = subst (λ (j : ℕ). is_beyond v j [] ≡ true) (sym r.index) (alone_past v i past) in
        rw (r.fresh, far) refl

pub shutdown_is_taken : ShutdownIsTaken
shutdown_is_taken v wire low none = subst (λ (u : SenderView). IsShutdownTaken v wire u) (sym after) taken
  where
    after : shutdown_after v wire ≡ shutdown_taken v wire
    after = rw none refl

    off : (is_stale v wire ≡ false) × (is_beyond v (index_of v wire) [] ≡ false)
    off = none_told_two (is_stale v wire) (is_beyond v (index_of v wire) []) none

    within : is_beyond v (index_of v wire) [] ≡ false → index_of v wire ≤ length v.plan.entries
    within near = let parts = or_parts (nat_lt (length v.plan.entries) (index_of v wire)) false near in let off = parts.0 in grind (arith, nat_tests)

    cover : (i : ℕ) (rest : Bool) → ((nat_le i (index_of v wire) || rest) ≡ true → (i ≤ index_of v wire) ⊎ (rest ≡ true)) × ((i ≤ index_of v wire) ⊎ (rest ≡ true) → (nat_le i (index_of v wire) || rest) ≡ true)
    cover i rest = (
      λ is. elim (or_way (nat_le i (index_of v wire)) rest is) [ inl low ↦ inl (let on = low in grind (arith, nat_tests)) | inr on ↦ inr on ],
      λ is. elim is [ inl low ↦ or_left (nat_le i (index_of v wire)) rest (let le = low in grind (arith, nat_tests)) | inr on ↦ or_right (nat_le i (index_of v wire)) rest on ],
    )

    taken : IsShutdownTaken v wire (shutdown_taken v wire)
    taken = record {
      c = index_of v wire;
      read = read_is v wire low off.0;
      inside = within off.1;
      cum = refl;
      covered = λ i. cover i (v.covered i);
      marked = λ i. mark_stays (v.marked i) ((shutdown_taken v wire).covered i);
      others = refl;
    }

pub faulty_shutdown_is_dropped : FaultyShutdownIsDropped
faulty_shutdown_is_dropped v wire a low is = let told : shutdown_fault v wire ≡ Some a = (shutdown_fault_told v wire a low).1 is in rw told refl
