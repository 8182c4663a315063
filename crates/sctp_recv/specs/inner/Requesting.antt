-- What handling requests leaves of resets.
use Rattle.std.specs.Prelude.{◌≡◌, ℕ, ◌==◌, ◌<◌, ◌≤◌, Bool, List, [], length, map, Some, vec_capacity}
use Rattle.std.specs.declared.alloc.Global.{Global}
use Rattle.std.specs.declared.vec.Vec.{Vec}
use Rattle.sctp_model.specs.numbers.Lists.{Has}
use Rattle.sctp_model.specs.numbers.Serial.{tsn}
use Rattle.sctp_model.specs.messages.Format.{Format}
use Rattle.sctp_model.specs.wire.Reconfig.{ResetMeaning, ResetResult, Performed}
use Rattle.sctp_model.specs.receiver.ReceiverView.{ReceiverView}
use Rattle.sctp_reconfig.specs.Reading.{ParameterMeaning, ListsAtMost, ListAtMost}
use Rattle.sctp_recv.specs.declared.resets.Resets.{Resets}
use Rattle.sctp_recv.specs.declared.stream.Stream.{Stream}
use Rattle.sctp_recv.specs.Fields.{stream_of}
use Rattle.sctp_recv.specs.ReceiverKept.{ReceiverKept}
use Rattle.sctp_recv.specs.Requests.{requested, all_requested}
use Rattle.sctp_recv.specs.Resets.{resets_of, KeepsResets}
use Rattle.sctp_recv.specs.StandsFor.{KeepsView}
use Rattle.sctp_recv.specs.inner.Restarting.{HasSpace, acted}

-- the stream is this one
abbrev pub is_same : (stream : ℕ) → ℕ → Bool
is_same stream s = stream == s

-- each of these streams exists
abbrev pub AreLow : (count : ℕ) → List ℕ → Type 0
AreLow count named = (s : ℕ) → Has named s → s < count

-- What is kept before a step of requests, of a view: all but its resets is kept as k says, and there is space for responses.
pub record IsBefore {F : Type 0} (f : Format) (all : Vec (Stream F) Global) (wire limit : ℕ) (own : Resets) (k : ReceiverKept) (v : ReceiverView) (c : ℕ) : Type 0 where
  pub keeps : KeepsView f k v
  pub resets : k.resets ≡ Some (resets_of own)
  pub streams : k.streams ≡ map stream_of all.items
  pub cumulative : wire ≡ tsn v.initial c
  pub space : HasSpace limit own

-- What is kept before a request in its turn acts, of a view, and its streams, for which there is capacity: they exist if it is performed.
pub record IsInTurn {F : Type 0} (f : Format) (all : Vec (Stream F) Global) (own : Resets) (k : ReceiverKept) (v : ReceiverView) (named : List ℕ) (a : ResetResult) : Type 0 where
  pub keeps : KeepsView f k v
  pub resets : k.resets ≡ Some (resets_of own)
  pub streams : k.streams ≡ map stream_of all.items
  pub low : a ≡ Performed → AreLow v.streams named
  pub room : length named ≤ vec_capacity own.named

-- the resets are those of the view once a request in its turn acted, with this result
abbrev pub ActsInTurn : {F : Type 0} → Format → Vec (Stream F) Global → (old new : Resets) → ResetMeaning → ResetResult → Type 0
ActsInTurn f streams old new m a = (k : ReceiverKept) (v : ReceiverView) → IsInTurn f streams old k v m.streams a →
    KeepsResets f (Some (resets_of new)) v.initial v.streams v.taken (acted v m a).resets

-- the resets are those of the view after the parameter, if there is capacity for its streams
abbrev pub StandsInPart : {F : Type 0} → Format → Vec (Stream F) Global → (cumulative limit : ℕ) → (old new : Resets) → ParameterMeaning → Type 0
StandsInPart f streams cumulative limit old new p = (k : ReceiverKept) (v : ReceiverView) (c n : ℕ) → IsBefore f streams cumulative limit old k v c →
    ListsAtMost n p → n ≤ vec_capacity old.named → KeepsResets f (Some (resets_of new)) v.initial v.streams v.taken (requested limit c v p).resets

-- the same of all parameters
abbrev pub StandInPart : {F : Type 0} → Format → Vec (Stream F) Global → (cumulative limit : ℕ) → (old new : Resets) → List ParameterMeaning → Type 0
StandInPart f streams cumulative limit old new ps = (k : ReceiverKept) (v : ReceiverView) (c n : ℕ) → IsBefore f streams cumulative limit old k v c →
    ListAtMost n ps → n ≤ vec_capacity old.named → KeepsResets f (Some (resets_of new)) v.initial v.streams v.taken (all_requested limit c v ps).resets

-- ---- without a request

-- a parameter leaves each view as it is
abbrev pub DoesNothing : ParameterMeaning → Type 0
DoesNothing p = (limit c : ℕ) (v : ReceiverView) → requested limit c v p ≡ v

-- these parameters do what those do
abbrev pub ActAs : List ParameterMeaning → List ParameterMeaning → Type 0
ActAs ps qs = (limit c : ℕ) (v : ReceiverView) → all_requested limit c v ps ≡ all_requested limit c v qs

-- they leave each view as it is
abbrev pub DoNothing : List ParameterMeaning → Type 0
DoNothing ps = ActAs ps []
