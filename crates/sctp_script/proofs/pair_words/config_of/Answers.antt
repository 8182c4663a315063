use Rattle.std.proofs.Common.{[], ap}
use Rattle.sctp_script.specs.Grammar.{Pairs}
use Rattle.sctp_script.proofs.LineLemmas.{pair_words, each_of_five, says_nothing}
use Rattle.sctp_script.proofs.pair_words.config_of.Goals as goal

pub returns-in_err-limit : goal.returns-in_err-limit
returns-in_err-limit c = rw c.from_residual.ensures (λ m says.
    let each = each_of_five [] c.args.limit.now c.args.fragment.now c.args.buffer.now c.args.streams.now c.args.mode.now [] says.0 says.1 in
    c.in_err-limit.ensures says.0.0 each.0)

pub returns-in_err-fragment : goal.returns-in_err-fragment
returns-in_err-fragment c = rw c.from_residual-in_err-fragment.ensures (λ m says.
    let each = each_of_five [] c.args.limit.now c.args.fragment.now c.args.buffer.now c.args.streams.now c.args.mode.now [] says.0 says.1 in
    c.in_err-fragment.ensures says.0.1.0 each.1)

pub returns-in_err-buffer : goal.returns-in_err-buffer
returns-in_err-buffer c = rw c.from_residual-in_err-buffer.ensures (λ m says.
    let each = each_of_five [] c.args.limit.now c.args.fragment.now c.args.buffer.now c.args.streams.now c.args.mode.now [] says.0 says.1 in
    c.in_err-buffer.ensures says.0.1.1.0 each.2)

pub returns-in_err-streams : goal.returns-in_err-streams
returns-in_err-streams c = rw c.from_residual-in_err-streams.ensures (λ m says.
    let each = each_of_five [] c.args.limit.now c.args.fragment.now c.args.buffer.now c.args.streams.now c.args.mode.now [] says.0 says.1 in
    c.in_err-streams.ensures says.0.1.1.1.0 each.3)

pub returns-in_err-mode : goal.returns-in_err-mode
returns-in_err-mode c = rw c.from_residual-in_err-mode.ensures (λ m says.
    let each = each_of_five [] c.args.limit.now c.args.fragment.now c.args.buffer.now c.args.streams.now c.args.mode.now [] says.0 says.1 in
    c.in_err-mode.ensures says.0.1.1.1.1.0 each.4)

pub returns-in-Ok : goal.returns-in-Ok
returns-in-Ok c =
    let made = c.in-Ok.ensures in
    let said = pair_words _ _ _ _ _ _ _ _ _ _ c.in_ok-limit.ensures c.in_ok-fragment.ensures c.in_ok-buffer.ensures c.in_ok-streams.ensures c.in_ok-mode.ensures in
    (_, said, made.1, ap Pairs made.0)

pub returns-in-Err : goal.returns-in-Err
returns-in-Err c =
    let said = pair_words _ _ _ _ _ _ _ _ _ _ c.in_ok-limit.ensures c.in_ok-fragment.ensures c.in_ok-buffer.ensures c.in_ok-streams.ensures c.in_ok-mode.ensures in
    let say = c.words_say_one_value.ensures in
    says_nothing (record { numbers = say.numbers; bytes = say.bytes }) _ _ _ _ _ _ _ said c.in-Err.ensures
