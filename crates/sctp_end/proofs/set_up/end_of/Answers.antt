use Rattle.std.proofs.Common.{◌≡◌, map, length, string_bytes, codes, sym, ◌∙◌, arith}
use Rattle.std.proofs.lemmas.List.{length-map}
use Rattle.sctp_end.specs.declared.set_up.Role.TheVariants.{Caller, Listener}
use Rattle.sctp_end.proofs.SetUpLemmas.{two_of, too_few, neither, caller_set, listener_set}
use Rattle.sctp_end.proofs.set_up.end_of.Goals as goal

pub returns-in_default-clause-exact : goal.returns-in_default-clause-exact
returns-in_default-clause-exact c =
    let size : length (map string_bytes c.args.words.now) ≡ length c.args.words.now = length-map c.args.words.now string_bytes in
    too_few _ (omega (arith, size, c.in_default.len_below))

pub returns-in-Some-Caller-clause-exact : goal.returns-in-Some-Caller-clause-exact
returns-in-Some-Caller-clause-exact c =
    let two = two_of string_bytes c.args.words.now c.role-item.result c.in-len2-up.len_at_least c.role-item.is in
    let called : c.as_bytes.result.now ≡ codes "caller" = rw c.in-Some-Caller.field-0-is at c.in-Some-Caller.ensures in
    caller_set _ two.0 _ _ _ two.1 (sym c.as_bytes.ensures.value ∙ called) c.caller_of.ensures.exact

pub returns-in-Some-Listener-clause-exact : goal.returns-in-Some-Listener-clause-exact
returns-in-Some-Listener-clause-exact c =
    let two = two_of string_bytes c.args.words.now c.role-item.result c.in-len2-up.len_at_least c.role-item.is in
    let called : c.as_bytes.result.now ≡ codes "listener" = rw c.in-Some-Listener.field-0-is at c.in-Some-Listener.ensures in
    listener_set _ two.0 _ _ _ two.1 (sym c.as_bytes.ensures.value ∙ called) c.listener_of.ensures.exact

pub returns-in-None-clause-exact : goal.returns-in-None-clause-exact
returns-in-None-clause-exact c =
    let two = two_of string_bytes c.args.words.now c.role-item.result c.in-len2-up.len_at_least c.role-item.is in
    let none = c.in-None.ensures in
    neither _ two.0 _ _ two.1 (λ is. none Caller (c.as_bytes.ensures.value ∙ is)) (λ is. none Listener (c.as_bytes.ensures.value ∙ is))
