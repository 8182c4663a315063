-- What the types of this crate say, in the words of the definitions.
use Rattle.sctp_model.specs.wire.Reconfig as reconfig
use Rattle.sctp_model.specs.wire.Reconfig.{ResetMeaning}
use Rattle.sctp_reconfig.specs.declared.parameter.ResetRequest.{ResetRequest}
use Rattle.sctp_reconfig.specs.declared.parameter.Parameter.{Parameter}
use Rattle.sctp_reconfig.specs.declared.parameter.Parameter.TheVariants.{Reset, Response, OtherRequest, Skipped}
use Rattle.sctp_reconfig.specs.declared.result.ResetResult.{ResetResult}
use Rattle.sctp_reconfig.specs.declared.result.ResetResult.TheVariants.{Performed, Denied, WrongStream, BadNumber, InProgress}
use Rattle.sctp_reconfig.specs.declared.write.OwnReset.{OwnReset}
use Rattle.sctp_reconfig.specs.Reading.{ParameterMeaning, ResetRequested, Responded, OtherRequested, Ignored}

-- a request that was received (RFC 6525, 4.1)
abbrev pub request_meaning : ResetRequest → ResetMeaning
request_meaning r = record { number = r.number; last = r.last; streams = r.streams }

-- one to be sent (4.1)
abbrev pub own_meaning : OwnReset → ResetMeaning
own_meaning r = record { number = r.number; last = r.last; streams = r.streams.now }

-- a parameter (4)
abbrev pub parameter_meaning : Parameter → ParameterMeaning
parameter_meaning (Reset r) = ResetRequested (request_meaning r)
parameter_meaning (Response number code) = Responded number code
parameter_meaning (OtherRequest number) = OtherRequested number
parameter_meaning Skipped = Ignored

-- the result of a request (4.4)
abbrev pub result_meaning : ResetResult → reconfig.ResetResult
result_meaning Performed = reconfig.Performed
result_meaning Denied = reconfig.Denied
result_meaning WrongStream = reconfig.WrongStream
result_meaning BadNumber = reconfig.BadNumber
result_meaning InProgress = reconfig.InProgress
