-- The lanes of a FORWARD as bytes, and the ranks at which they stand.
use Rattle.std.proofs.Common.{◌≡◌, ℕ, zero, suc, ◌+◌, ◌-◌, ◌*◌, ◌%◌, ◌<◌, ◌≤◌, max, List, [], ◌∷◌, ◌++◌, length, map, take, drop, set, get_or, Bool, true, false, refl, sym, ap, ◌∙◌, arith, length-append, length-drop}
use Rattle.std.specs.List.{AllByRecursion, refill}
use Rattle.std.proofs.lemmas.List.{length-map, length-take, map-append, map-set, take-map, drop-map, take_all, take_at, take_more, get_or-map}
use Rattle.sctp_model.specs.messages.Format.{Format, Plain, Interleaved, Lane}
use Rattle.sctp_model.specs.messages.Forward.{Skip}
use Rattle.sctp_model.specs.sender.Forwarding.{larger}
use Rattle.sctp_model.specs.messages.Framing.{lane_kind, wire_number}
use Rattle.sctp_model.specs.sender.SentChunks.{is_unordered, skip_said}
use Rattle.sctp_model.specs.wire.Chunk.{SkipMeaning}
use Rattle.sctp_values.specs.Meanings.{kind_meaning}
use Rattle.sctp_wire.specs.declared.skips.SkipForm.{SkipForm}
use Rattle.sctp_wire.specs.Skips.{skip_size, skips_in, IsSkip}
use Rattle.sctp_framing.specs.SkipForms.{skip_form}
use Rattle.sctp_send.specs.OutstandingFields.{lane_of}
use Rattle.sctp_send.specs.inner.Lanes.{lane_key, passed_meaning, AreRising, before, told_at, noted}
use Rattle.sctp_send.specs.declared.forward.lanes.Passed.{Passed}
use Rattle.sctp_send.proofs.forward.LaneWalks.{before_within, before_above, before_below, noted_here, noted_new, passed_read}

-- ---- as bytes

pub said_is : (f : Format) (base : Lane → ℕ) (p : Passed) (b : Bool) (w : ℕ) → lane_kind b ≡ kind_meaning p.kind → w ≡ wire_number f (kind_meaning p.kind) (p.number - base (lane_of p.stream p.kind))
    → record { stream = p.stream; unordered = b; number = w } ≡ skip_said f base (passed_meaning p)
said_is f base p b w flag number =
    let unordered : b ≡ is_unordered (kind_meaning p.kind) = by_flag b ∙ ap is_unordered flag in
    rw (number, unordered) refl
  where
    by_flag : (c : Bool) → c ≡ is_unordered (lane_kind c)
    by_flag true = refl
    by_flag false = refl

pub said_fits : (f : Format) (base : Lane → ℕ) (lanes : List Passed) (at : ℕ) (d : Passed) → at < length lanes
    → AllByRecursion (IsSkip (skip_form f)) (map (skip_said f base) (map passed_meaning lanes)) → IsSkip (skip_form f) (skip_said f base (passed_meaning (get_or lanes at d)))
said_fits f base [] at d lt h = absurd (omega arith)
said_fits f base (x ∷ lanes) zero d lt h = h.0
said_fits f base (x ∷ lanes) (suc at) d lt h = said_fits f base lanes at d (omega arith) h.1

pub said_more : (f : Format) (base : Lane → ℕ) (lanes : List Passed) (at : ℕ) (d : Passed) (was now : List SkipMeaning) → at < length lanes → now ≡ was ++ skip_said f base (passed_meaning (get_or lanes at d)) ∷ []
    → was ≡ map (skip_said f base) (map passed_meaning (take at lanes)) → now ≡ map (skip_said f base) (map passed_meaning (take (at + 1) lanes))
said_more f base lanes at d was now lt is so_far =
    let x : Passed = get_or lanes at d in
    is ∙ ap (λ (xs : List SkipMeaning). xs ++ skip_said f base (passed_meaning x) ∷ []) so_far
    ∙ sym (ap (λ (xs : List Passed). map (skip_said f base) (map passed_meaning xs)) (take_more lanes at d lt) ∙ ap (map (skip_said f base)) (map-append passed_meaning (take at lanes) (x ∷ [])) ∙ map-append (skip_said f base) (map passed_meaning (take at lanes)) (passed_meaning x ∷ []))

pub said_all : (f : Format) (base : Lane → ℕ) (lanes : List Passed) (at : ℕ) → length lanes ≤ at → map (skip_said f base) (map passed_meaning (take at lanes)) ≡ map (skip_said f base) (map passed_meaning lanes)
said_all f base lanes at le = rw take_all refl

-- ---- ranks of lanes

lane_read : (lanes : List Passed) (at : ℕ) (d : Passed) → at < length lanes → lane_key (get_or (map passed_meaning lanes) at (passed_meaning d)).lane ≡ lane_key (passed_meaning (get_or lanes at d)).lane
lane_read lanes at d lt = ap (λ (x : Skip). lane_key x.lane) (get_or-map passed_meaning lanes at d (passed_meaning d) lt)

pub half_above : (key at : ℕ) (lanes : List Passed) (d : Passed) → AreRising 0 (map passed_meaning lanes) → at < length lanes → lane_key (passed_meaning (get_or lanes at d)).lane < key → at < before key (map passed_meaning lanes)
half_above key at lanes d rising lt less =
    let long = length-map lanes passed_meaning in
    let read = lane_read lanes at d lt in
    before_above key 0 at (map passed_meaning lanes) (passed_meaning d) rising (omega (arith, long)) (omega (arith, read, less))

pub half_below : (key at : ℕ) (lanes : List Passed) (d : Passed) → at < length lanes → key ≤ lane_key (passed_meaning (get_or lanes at d)).lane → before key (map passed_meaning lanes) ≤ at
half_below key at lanes d lt le =
    let long = length-map lanes passed_meaning in
    let read = lane_read lanes at d lt in
    before_below key at (map passed_meaning lanes) (passed_meaning d) (omega (arith, long)) (omega (arith, read, le))

pub raised : (lanes : List Passed) (at : ℕ) (x next : Passed) (m : ℕ) → at ≡ before (lane_key (passed_meaning next).lane) (map passed_meaning lanes) → at < length lanes → x ≡ get_or lanes at x
    → lane_key (passed_meaning x).lane ≡ lane_key (passed_meaning next).lane → m ≡ max x.number next.number
    → map passed_meaning (set lanes at (record { stream = x.stream; kind = x.kind; number = m })) ≡ noted (passed_meaning next).lane next.number (map passed_meaning lanes)
raised lanes at x next m is lt read same larger =
    let long = length-map lanes passed_meaning in
    map-set passed_meaning lanes at (record { stream = x.stream; kind = x.kind; number = m })
    ∙ ap (λ (k : ℕ). set (map passed_meaning lanes) at (told_at (passed_meaning x).lane k)) larger
    ∙ noted_here (passed_meaning next).lane next.number at (map passed_meaning lanes) (passed_meaning x) (passed_meaning x) is (omega (arith, long)) (sym (passed_read lanes at x lt read)) same

pub put_in : (lanes : List Passed) (at : ℕ) (next d : Passed) → at ≡ before (lane_key (passed_meaning next).lane) (map passed_meaning lanes)
    → (at < length lanes → lane_key (passed_meaning (get_or lanes at d)).lane ≡ lane_key (passed_meaning next).lane → ⊥)
    → map passed_meaning (take at lanes ++ next ∷ drop at lanes) ≡ noted (passed_meaning next).lane next.number (map passed_meaning lanes)
put_in lanes at next d is other =
    let long = length-map lanes passed_meaning in
    simp (map-append, take-map, drop-map) refl ∙ noted_new (passed_meaning next).lane next.number at (map passed_meaning lanes) (passed_meaning d) is
    (λ lt same. let low : at < length lanes = omega (arith, lt, long) in other low (sym (lane_read lanes at d low) ∙ same))

-- and makes them one more
pub one_more : (lanes : List Passed) (at : ℕ) (next d : Passed) → at ≡ before (lane_key (passed_meaning next).lane) (map passed_meaning lanes)
    → (at < length lanes → lane_key (passed_meaning (get_or lanes at d)).lane ≡ lane_key (passed_meaning next).lane → ⊥)
    → length (noted (passed_meaning next).lane next.number (map passed_meaning lanes)) ≡ suc (length lanes)
one_more lanes at next d is other =
    let long = length-map lanes passed_meaning in
    let within = before_within (lane_key (passed_meaning next).lane) (map passed_meaning lanes) in
    rw (← put_in lanes at next d is other) (simp (length-map, length-append, length-take, length-drop) (omega arith))

-- a slice as long as the whole, put back
pub put_back : (xs ys : List Passed) → length ys ≡ length xs → refill (length xs) xs ys ≡ ys
put_back xs ys same = rw (← same) (rw (take_at ys (drop (length ys) xs) (length ys) refl) refl)

-- an entry put behind whole ones
pub whole_before : (f : Format) (form : SkipForm) (n m : ℕ) → form ≡ skip_form f → n ≡ skip_size (skip_form f) * m → n % skip_size form ≡ 0
whole_before Plain form n m is count = rw is (omega (arith, count))
whole_before Interleaved form n m is count = rw is (omega (arith, count))

pub put_more : (f : Format) (form : SkipForm) (m said : SkipMeaning) (old new : List ℕ) → form ≡ skip_form f → m ≡ said → skips_in form new ≡ skips_in form old ++ m ∷ []
    → skips_in (skip_form f) new ≡ skips_in (skip_form f) old ++ said ∷ []
put_more f form m said old new by_form is more =
    sym (ap (λ (x : SkipForm). skips_in x new) by_form) ∙ more ∙ ap (λ (x : SkipForm). skips_in x old ++ m ∷ []) by_form ∙ ap (λ (x : SkipMeaning). skips_in (skip_form f) old ++ x ∷ []) is
