use Rattle.std.proofs.Common.{◌≡◌, map, length, string_bytes, arith}
use Rattle.std.proofs.lemmas.List.{length-map}
use Rattle.sctp_end.proofs.SetUpLemmas.{last_of, no_words_listen, settings_listen_not, key_listens_not}
use Rattle.sctp_end.proofs.set_up.listener_of.Goals as goal

pub returns-in_default-clause-exact : goal.returns-in_default-clause-exact
returns-in_default-clause-exact c =
    let size : length (map string_bytes c.args.words.now) ≡ length c.args.words.now = length-map c.args.words.now string_bytes in
    no_words_listen _ (omega (arith, size, c.in_default.len_below))

pub returns-in_default-read_config-clause-exact : goal.returns-in_default-read_config-clause-exact
returns-in_default-read_config-clause-exact c =
    let is = last_of string_bytes c.args.words.now c.last-item.result c.in-len1-up.len_at_least c.last-item.is in
    settings_listen_not _ _ _ is c.in_default-read_config.ensures

pub returns-in-None-clause-exact : goal.returns-in-None-clause-exact
returns-in-None-clause-exact c =
    let is = last_of string_bytes c.args.words.now c.last-item.result c.in-len1-up.len_at_least c.last-item.is in
    key_listens_not _ _ _ is (λ key keyed. c.in-None.ensures key (rw c.as_bytes.ensures.value keyed))

pub returns-in-Some-read_key-clause-exact : goal.returns-in-Some-read_key-clause-exact
returns-in-Some-read_key-clause-exact c =
    let is = last_of string_bytes c.args.words.now c.last-item.result c.in-len1-up.len_at_least c.last-item.is in
    let keyed = c.in-Some-read_key.ensures in
    let seal = c.keys_have_seals.ensures.some c.in-Some-read_key.key in
    (c.in-Some.config, c.in-Some-read_key.key, seal.0, (_, _, is, c.in-Some.ensures, rw c.as_bytes.ensures.value at keyed), seal.1, c.listener.ensures.stands seal.0 seal.1)
