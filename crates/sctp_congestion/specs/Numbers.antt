-- What an acknowledgement measures: `v` is the sender before it, `u` the sender after it.
use Rattle.std.specs.Prelude.{ℕ, nat_lt, Bool, not, ◌&&◌}
use Rattle.sctp_model.specs.sender.SenderView.{SenderView}
use Rattle.sctp_model.specs.end.Trips.{was_given_up}

-- it newly acknowledges this index, which was above CUM, and whose message was not abandoned
abbrev pub is_measured : (v u : SenderView) → ℕ → Bool
is_measured v u i = nat_lt v.cum i && (u.covered i && not (was_given_up v i))
