-- What the requests of a RE-CONFIG leave of what a view knows of resets, and what is kept of that.
use Rattle.std.proofs.Common.{◌≡◌, ℕ, ◌<◌, ◌⊎◌, Bool, true, false, nat_le, List, [], ◌∷◌, Option, Some, inl, inr, refl, sym, ◌∙◌, ap, subst, arith}
use Rattle.std.specs.Prelude.{if◌then◌else◌, ◌||◌}
use Rattle.std.specs.List.{list_any}
use Rattle.std.specs.declared.alloc.Global.{Global}
use Rattle.std.specs.declared.vec.Vec.{Vec}
use Rattle.std.proofs.lemmas.Bool.{cases_Bool}
use Rattle.std.proofs.lemmas.Bool.Decides.{nat_tests}
use Rattle.sctp_model.specs.numbers.Lists.{Has}
use Rattle.sctp_model.specs.messages.Format.{Format}
use Rattle.sctp_model.specs.wire.Reconfig.{ResetMeaning, ResetResult, Performed, Denied, WrongStream, BadNumber, InProgress}
use Rattle.sctp_model.specs.receiver.ReceiverView.{ReceiverView}
use Rattle.sctp_model.specs.receiver.ResetTaken.{names, names_anew, reset_answer, is_in_turn, answer_in_turn, with_answer, renumbered_by, request_taken, other_meaning, denied}
use Rattle.sctp_reconfig.specs.Reading.{ParameterMeaning, ResetRequested, Responded, OtherRequested, Ignored}
use Rattle.sctp_recv.specs.declared.resets.Resets.{Resets}
use Rattle.sctp_recv.specs.declared.stream.Stream.{Stream}
use Rattle.sctp_recv.specs.Requests.{answered, requested, all_requested}
use Rattle.sctp_recv.specs.Resets.{resets_of, KeepsResets}
use Rattle.sctp_recv.specs.ReceiverKept.{ReceiverKept}
use Rattle.sctp_recv.specs.ResetsKept.{ResetsKept}
use Rattle.sctp_recv.specs.inner.Restarting.{noted, postponed, acted}
use Rattle.sctp_recv.specs.inner.Requesting.{AreLow, IsBefore}

-- ---- only resets change

-- what a request leaves, once it is in its turn or not
with_else : (r : ReceiverView) (m : ResetMeaning) (a : ResetResult) (b : Bool) (t : ReceiverView) → t ≡ record r { resets = t.resets } → (if b then with_answer t m a else r) ≡ record r { resets = (if b then with_answer t m a else r).resets }
with_else r m a true t is = (λ i. record (is i) { resets = (with_answer t m a).resets })
with_else r m a false t is = refl

by_else : (r : ReceiverView) (named anew : ℕ → Bool) (a : ResetResult) → renumbered_by r named anew a ≡ record r { resets = (renumbered_by r named anew a).resets }
by_else r named anew Performed = refl
by_else r named anew Denied = refl
by_else r named anew WrongStream = refl
by_else r named anew BadNumber = refl
by_else r named anew InProgress = refl

taken_else : (r : ReceiverView) (m : ResetMeaning) (named anew : ℕ → Bool) (a : ResetResult) → request_taken r m named anew a ≡ record r { resets = (request_taken r m named anew a).resets }
taken_else r m named anew a = with_else r m a (is_in_turn r m.number) (renumbered_by r named anew a) (by_else r named anew a)

pub requested_else : (limit c : ℕ) (r : ReceiverView) (p : ParameterMeaning) → requested limit c r p ≡ record r { resets = (requested limit c r p).resets }
requested_else limit c r (ResetRequested m) = (λ i. record (taken_else r m (names r m.streams) (names_anew r m) (reset_answer r c m) i) { resets = (requested limit c r (ResetRequested m)).resets })
requested_else limit c r (OtherRequested n) = (λ i. record (taken_else r (other_meaning n) (λ s. false) (λ s. false) Denied i) { resets = (requested limit c r (OtherRequested n)).resets })
requested_else limit c r (Responded n code) = refl
requested_else limit c r Ignored = refl

pub all_else : (limit c : ℕ) (r : ReceiverView) (ps : List ParameterMeaning) → all_requested limit c r ps ≡ record r { resets = (all_requested limit c r ps).resets }
all_else limit c r [] = refl
all_else limit c r (p ∷ ps) =
    all_else limit c (requested limit c r p) ps
    ∙ (λ i. record (requested_else limit c r p i) { resets = (all_requested limit c (requested limit c r p) ps).resets })

-- ---- a request in its turn, or not

-- one that acted, and whose number and result are noted, is taken
acted_taken : (v : ReceiverView) (m : ResetMeaning) (a : ResetResult) → is_in_turn v m.number ≡ true → noted (acted v m a) m.number a ≡ request_taken v m (names v m.streams) (names_anew v m) a
acted_taken v m Performed turn = rw turn refl
acted_taken v m Denied turn = rw turn refl
acted_taken v m WrongStream turn = rw turn refl
acted_taken v m BadNumber turn = rw turn refl
acted_taken v m InProgress turn = rw turn refl

-- only resets change
pub acted_else : (v : ReceiverView) (m : ResetMeaning) (a : ResetResult) → acted v m a ≡ record v { resets = (acted v m a).resets }
acted_else v m Performed = refl
acted_else v m Denied = refl
acted_else v m WrongStream = refl
acted_else v m BadNumber = refl
acted_else v m InProgress = refl

-- unless it is performed no stream begins anew
pub not_performed : (v : ReceiverView) (named anew : ℕ → Bool) (a : ResetResult) → (a ≡ Performed → ⊥) → renumbered_by v named anew a ≡ v
not_performed v named anew Performed other = absurd (other refl)
not_performed v named anew Denied other = refl
not_performed v named anew WrongStream other = refl
not_performed v named anew BadNumber other = refl
not_performed v named anew InProgress other = refl

-- its answer and the responses that wait are as they were
acted_answer : (limit : ℕ) (v : ReceiverView) (m : ResetMeaning) (a : ResetResult) (t : ReceiverView) →
    answered limit (acted v m a) m.number (answer_in_turn (acted v m a) m.number a) t ≡ answered limit v m.number (answer_in_turn v m.number a) t
acted_answer limit v m Performed t = refl
acted_answer limit v m Denied t = refl
acted_answer limit v m WrongStream t = refl
acted_answer limit v m BadNumber t = refl
acted_answer limit v m InProgress t = refl

pub in_turn : (limit : ℕ) (v : ReceiverView) (m : ResetMeaning) (a : ResetResult) → is_in_turn v m.number ≡ true →
    answered limit (acted v m a) m.number (answer_in_turn (acted v m a) m.number a) (noted (acted v m a) m.number a)
    ≡ answered limit v m.number (answer_in_turn v m.number a) (request_taken v m (names v m.streams) (names_anew v m) a)
in_turn limit v m a turn = acted_answer limit v m a (noted (acted v m a) m.number a) ∙ ap (λ (t : ReceiverView). answered limit v m.number (answer_in_turn v m.number a) t) (acted_taken v m a turn)

-- one of another kind
pub other_in_turn : (limit : ℕ) (v : ReceiverView) (n : ℕ) → is_in_turn v n ≡ true →
    answered limit (postponed v (other_meaning n) Denied) n (answer_in_turn (postponed v (other_meaning n) Denied) n Denied) (noted (postponed v (other_meaning n) Denied) n Denied)
    ≡ answered limit v n (answer_in_turn v n Denied) (denied v n)
other_in_turn limit v n turn = ap (λ (t : ReceiverView). answered limit v n (answer_in_turn v n Denied) t) same
  where
    same : noted (postponed v (other_meaning n) Denied) n Denied ≡ denied v n
    same = rw turn refl

-- one that isn't in its turn changes nothing
pub not_in_turn : (v : ReceiverView) (m : ResetMeaning) (named anew : ℕ → Bool) (a : ResetResult) → is_in_turn v m.number ≡ false → noted v m.number a ≡ request_taken v m named anew a
not_in_turn v m named anew a other = rw other refl

-- ---- the result

-- of one that is performed all streams exist
low_of : (count : ℕ) (xs : List ℕ) → list_any (nat_le count) xs ≡ false → AreLow count xs
low_of count [] none s there = absurd there
low_of count (x ∷ xs) none s there = go (cases_Bool (nat_le count x)) there (λ others later. low_of count xs others s later)
  where
    go : (nat_le count x ≡ true) ⊎ (nat_le count x ≡ false) → Has (x ∷ xs) s → (list_any (nat_le count) xs ≡ false → Has xs s → s < count) → s < count
    go (inl high) has more = absurd (let no_other : true ≡ false = ap (λ (b : Bool). b || list_any (nat_le count) xs) (sym high) ∙ none in cc)
    go (inr low) (inl is) more = let under : x < count = grind (arith, low, nat_tests) in omega (arith, under, is)
    go (inr low) (inr later) more = more (ap (λ (b : Bool). b || list_any (nat_le count) xs) (sym low) ∙ none) later

pub performed_low : (v : ReceiverView) (c : ℕ) (m : ResetMeaning) → reset_answer v c m ≡ Performed → AreLow v.streams m.streams
performed_low v c m is = go (cases_Bool (list_any (nat_le v.streams) m.streams))
  where
    go : (list_any (nat_le v.streams) m.streams ≡ true) ⊎ (list_any (nat_le v.streams) m.streams ≡ false) → AreLow v.streams m.streams
    go (inl some) = absurd (let wrong : WrongStream ≡ Performed = rw some at is in cc)
    go (inr none) = low_of v.streams m.streams none

-- ---- before a step

pub kept_before : {F : Type 0} (f : Format) (streams : Vec (Stream F) Global) (cumulative limit : ℕ) (resets : Resets) (k : ReceiverKept) (v : ReceiverView) (c : ℕ) → IsBefore f streams cumulative limit resets k v c →
    KeepsResets f (Some (resets_of resets)) v.initial v.streams v.taken v.resets
kept_before f streams cumulative limit resets k v c h = subst (λ (o : Option ResetsKept). KeepsResets f o v.initial v.streams v.taken v.resets) h.resets h.keeps.resets
