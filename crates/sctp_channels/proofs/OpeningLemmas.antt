-- On which stream a channel is opened.
use Rattle.std.proofs.Common.{◌≡◌, ℕ, Bool, true, false, Option, Some, None, Ok, Err, refl}
use Rattle.std.specs.Prelude.{nat_le, not, if◌then◌else◌}
use Rattle.sctp_model.specs.end.EndView.{EndView}
use Rattle.sctp_association.specs.declared.user.calls.Refused.{Refused}
use Rattle.sctp_dcep.specs.Dcep.{Reliability, Parameters}
use Rattle.sctp_channels.specs.declared.channels.Channels.{Channels}
use Rattle.sctp_channels.specs.declared.fault.OpenFault.{OpenFault}
use Rattle.sctp_channels.specs.declared.fault.OpenFault.TheVariants as opening
use Rattle.sctp_channels.specs.Streams.{Table, stream_at, is_own, is_free}
use Rattle.sctp_channels.specs.Calling.{both_ways, is_too_long, is_out_of_range, found_stream, own_stream, stream_for, open_choice, negotiated_choice}
use Rattle.sctp_channels.specs.Answers.{Opens}
use Rattle.sctp_channels.specs.ChannelsStand.{ChannelsStand}

-- a negotiated channel is on the stream asked for
pub negotiated_same : (v : EndView) (x : Table) (r : Reliability) (s k : ℕ) → Ok k ≡ negotiated_choice v x r s → negotiated_choice v x r s ≡ Ok s
negotiated_same v x r s k is = go (is_out_of_range r) (nat_le (both_ways v x) s) (is_free (stream_at x s)) is
  where
    go : (a b d : Bool) → Ok k ≡ (if a then Err opening.OutOfRange else if b then Err opening.NoStream else if d then Ok s else Err opening.Used)
        → (if a then Err opening.OutOfRange else if b then Err opening.NoStream else if d then Ok s else Err opening.Used) ≡ Ok s
    go true b d same = absurd (cc)
    go false true d same = absurd (cc)
    go false false true same = refl
    go false false false same = absurd (cc)

-- no stream is refused by the endpoint before it is asked
own_not : (v : EndView) (x : Table) (s : ℕ) (why : Refused) → own_stream v x s ≡ Err (opening.Refused why) → ⊥
own_not v x s why = go (nat_le (both_ways v x) s) (not (is_own x.role s)) (is_free (stream_at x s))
  where
    go : (a b d : Bool) → (if a then Err opening.NoStream else if b then Err opening.WrongHalf else if d then Ok s else Err opening.Used) ≡ Err (opening.Refused why) → ⊥
    go true b d same = absurd (cc)
    go false true d same = absurd (cc)
    go false false true same = absurd (cc)
    go false false false same = absurd (cc)

found_not : (o : Option ℕ) (why : Refused) → found_stream o ≡ Err (opening.Refused why) → ⊥
found_not (Some s) why same = absurd (cc)
found_not None why same = absurd (cc)

stream_not : (v : EndView) (x : Table) (o : Option ℕ) (why : Refused) → stream_for v x o ≡ Err (opening.Refused why) → ⊥
stream_not v x (Some s) why same = own_not v x s why same
stream_not v x None why same = found_not _ why same

choice_not : (v : EndView) (x : Table) (p : Parameters) (o : Option ℕ) (why : Refused) → open_choice v x p o ≡ Err (opening.Refused why) → ⊥
choice_not v x p o why = go (is_too_long p) (is_out_of_range p.reliability)
  where
    go : (a b : Bool) → (if a then Err opening.TooLong else if b then Err opening.OutOfRange else stream_for v x o) ≡ Err (opening.Refused why) → ⊥
    go true b same = absurd (cc)
    go false true same = absurd (cc)
    go false false same = stream_not v x o why same

-- there is no stream for it, for this reason
pub opens_not : (v : EndView) (x : Table) (p : Parameters) (o : Option ℕ) (fault : OpenFault) (c : Channels) → open_choice v x p o ≡ Err fault → ChannelsStand c v x
    → Opens v x p o (Err fault) c
opens_not v x p o opening.TooLong c is stands = (is, stands)
opens_not v x p o opening.OutOfRange c is stands = (is, stands)
opens_not v x p o opening.NoStream c is stands = (is, stands)
opens_not v x p o opening.WrongHalf c is stands = (is, stands)
opens_not v x p o opening.Used c is stands = (is, stands)
opens_not v x p o (opening.Refused why) c is stands = absurd (choice_not v x p o why is)
