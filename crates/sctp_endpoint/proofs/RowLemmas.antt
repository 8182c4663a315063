-- Which row of the state machine's tables applies to a chunk, by what the code tested.
use Rattle.std.proofs.Common.{◌≡◌, ◌∙◌, ℕ, Bool, true, false, [], ◌∷◌, refl, sym, ap, subst}
use Rattle.std.proofs.lemmas.Bool.{false≢true}
use Rattle.std.specs.Prelude.{Some, Result, Ok, Err, OnErr}
use Rattle.sctp_model.specs.receiver.ReceiverView.{ReceiverView}
use Rattle.sctp_model.specs.sender.SenderView.{SenderView}
use Rattle.sctp_model.specs.sender.Words.{when, first_there}
use Rattle.sctp_model.specs.sender.SackTaken.{Stale, Beyond, BadBlock, is_stale, is_beyond, index_of, shutdown_fault}
use Rattle.sctp_model.specs.end.EndView.{Stage, Phase, Open, Tags, EndView, Established, ShutdownPending, ShutdownSent, ShutdownReceived, ShutdownAckSent, format_for}
use Rattle.sctp_model.specs.sender.Readers.{drained}
use Rattle.sctp_model.specs.end.Closing.{rested_in, rested, hears, takes_acknowledgements, is_shutdown_sent}
use Rattle.sctp_model.specs.end.Acting.{same_format}
use Rattle.sctp_association.specs.MachineStands.{MachineStands}
use Rattle.sctp_association.specs.declared.machine.Machine.{Machine}

-- ---- an end that is open in this stage

pub hears_by : (says : Stage → Bool) (h : Phase) (t : Tags) (g : Stage) (b r : Bool) → h ≡ Open t g → r ≡ says g → r ≡ b → hears says h ≡ b
hears_by says h t g b r phase is same = ap (hears says) phase ∙ sym is ∙ same

-- it goes on with closing as it is
pub rests : (v : EndView) (t : Tags) → v.phase ≡ Open t Established → rested v ≡ v
rests v t phase = ap (λ (h : Phase). rested_in h (drained v.sender) v) phase

pub shutdown_sent : (g : Stage) (b : Bool) → b ≡ is_shutdown_sent g → b ≡ true → g ≡ ShutdownSent
shutdown_sent Established b is sent = absurd (false≢true (sym is ∙ sent))
shutdown_sent ShutdownPending b is sent = absurd (false≢true (sym is ∙ sent))
shutdown_sent ShutdownSent b is sent = refl
shutdown_sent ShutdownReceived b is sent = absurd (false≢true (sym is ∙ sent))
shutdown_sent ShutdownAckSent b is sent = absurd (false≢true (sym is ∙ sent))

pub ack_sent : (g : Stage) → takes_acknowledgements g ≡ false → is_shutdown_sent g ≡ false → g ≡ ShutdownAckSent
ack_sent Established takes sent = absurd (false≢true (sym takes))
ack_sent ShutdownPending takes sent = absurd (false≢true (sym takes))
ack_sent ShutdownSent takes sent = absurd (false≢true (sym sent))
ack_sent ShutdownReceived takes sent = absurd (false≢true (sym takes))
ack_sent ShutdownAckSent takes sent = refl

-- ---- formats, by whether I-DATA is on

pub formats_same : (a b : Bool) → a ≡ b → same_format (format_for b) (format_for a) ≡ true
formats_same true true e = refl
formats_same false false e = refl
formats_same true false e = cc
formats_same false true e = cc

pub formats_differ : (a b : Bool) → (a ≡ b → ⊥) → same_format (format_for b) (format_for a) ≡ false
formats_differ true true d = absurd (d refl)
formats_differ false false d = absurd (d refl)
formats_differ true false d = refl
formats_differ false true d = refl

-- ---- a SHUTDOWN has no blocks

first_of_two : (a b : Bool) → first_there (when a Stale ∷ when b Beyond ∷ []) ≡ Some BadBlock → ⊥
first_of_two true b e = cc
first_of_two false true e = cc
first_of_two false false e = cc

pub no_bad_block : (s : SenderView) (tsn : ℕ) → Some BadBlock ≡ shutdown_fault s tsn → ⊥
no_bad_block s tsn is = first_of_two (is_stale s tsn) (is_beyond s (index_of s tsn) []) (sym is)

-- ---- a receiver that is as it was

pub receiver_same : (m : Machine) (v : EndView) (r : ReceiverView) → r ≡ v.receiver → MachineStands m (record v { receiver = r }) → MachineStands m v
receiver_same m v r same stands = subst (λ (x : ReceiverView). MachineStands m (record v { receiver = x })) same stands

-- ---- what is so anyway is so where memory was wanted

pub on_err : {A E : Type 0} (P : Type 0) (r : Result A E) → P → OnErr r P
on_err P (Ok x) p = tt
on_err P (Err why) p = p
