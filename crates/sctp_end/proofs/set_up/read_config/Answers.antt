use Rattle.std.proofs.Common.{◌≡◌, ◌≤◌, ◌<◌, ℕ, List, [], ◌∷◌, map, length, string_bytes, sym, ap, ◌∙◌, subst, arith}
use Rattle.std.proofs.lemmas.List.{length-map}
use Rattle.sctp_model.specs.end.EndView.{Configuration}
use Rattle.sctp_end.specs.SetUpWords.{Settles}
use Rattle.sctp_end.proofs.SetUpLemmas.{too_few_settings, parts_of, configured, none_configured, none_least, five_of, pair_of, seven, same_words}
use Rattle.sctp_end.proofs.set_up.read_config.Goals as goal

pub returns-in_default : goal.returns-in_default
returns-in_default c =
    let size : length (map string_bytes c.args.words.now) ≡ length c.args.words.now = length-map c.args.words.now string_bytes in
    too_few_settings _ (omega (arith, size, c.in_default.len_below))

pub returns-then-rest-gt-PORTS : goal.returns-then-rest-gt-PORTS
returns-then-rest-gt-PORTS c = λ x conf.
    let are = five_of string_bytes c.args.words.now c.limit-item.result c.fragment-item.result c.buffer-item.result c.streams-item.result c.mode-item.result c.in-len5-up.len_at_least c.limit-item.is c.fragment-item.is c.buffer-item.is c.streams-item.is c.mode-item.is in
    let parts = parts_of _ _ _ _ _ _ _ _ _ _ _ x are c.split_options.ensures c.split_rto_min.ensures conf in
    let size = length-map c.split_rto_min.result.1.now string_bytes in
    omega (arith, size, ap length parts.left_is, c.if-rest-gt-PORTS.true)

pub returns-in_default-rest : goal.returns-in_default-rest
returns-in_default-rest c = λ x conf.
    let are = five_of string_bytes c.args.words.now c.limit-item.result c.fragment-item.result c.buffer-item.result c.streams-item.result c.mode-item.result c.in-len5-up.len_at_least c.limit-item.is c.fragment-item.is c.buffer-item.is c.streams-item.is c.mode-item.is in
    let parts = parts_of _ _ _ _ _ _ _ _ _ _ _ x are c.split_options.ensures c.split_rto_min.ensures conf in
    let size = length-map c.split_rto_min.result.1.now string_bytes in
    omega (arith, size, ap length parts.left_is, c.in_default-rest.len_below)

pub returns-in_default-read_rto_min : goal.returns-in_default-read_rto_min
returns-in_default-read_rto_min c =
    let are = five_of string_bytes c.args.words.now c.limit-item.result c.fragment-item.result c.buffer-item.result c.streams-item.result c.mode-item.result c.in-len5-up.len_at_least c.limit-item.is c.fragment-item.is c.buffer-item.is c.streams-item.is c.mode-item.is in
    none_least _ _ _ _ _ _ _ _ _ _ _ are c.split_options.ensures c.split_rto_min.ensures c.in_default-read_rto_min.ensures

pub returns-in-Some-config_of : goal.returns-in-Some-config_of
returns-in-Some-config_of c =
    let are = five_of string_bytes c.args.words.now c.limit-item.result c.fragment-item.result c.buffer-item.result c.streams-item.result c.mode-item.result c.in-len5-up.len_at_least c.limit-item.is c.fragment-item.is c.buffer-item.is c.streams-item.is c.mode-item.is in
    let ports = pair_of string_bytes c.split_rto_min.result.1.now c.own_port-item.result c.peer_port-item.result (omega (arith, c.if-rest-gt-PORTS.false, c.in-len2-up.len_at_least)) c.own_port-item.is c.peer_port-item.is in
    let words = same_words _ _ _ _ _ _ _ _ _ _ _ _ _ _ c.as_bytes.ensures.value c.as_bytes-2.ensures.value c.as_bytes-3.ensures.value c.as_bytes-4.ensures.value c.as_bytes-5.ensures.value c.as_bytes-6.ensures.value c.as_bytes-7.ensures.value in
    configured _ _ _ _ _ _ _ _ _ _ _ _ _ _ _ _ are c.split_options.ensures c.split_rto_min.ensures ports
    (subst (λ (ws : List (List ℕ)). Settles ws c.in-Some-config_of.config) (sym words) c.in-Some-config_of.ensures.exact) c.in-Some.ensures c.with_options.ensures

pub returns-in-None : goal.returns-in-None
returns-in-None c =
    let are = five_of string_bytes c.args.words.now c.limit-item.result c.fragment-item.result c.buffer-item.result c.streams-item.result c.mode-item.result c.in-len5-up.len_at_least c.limit-item.is c.fragment-item.is c.buffer-item.is c.streams-item.is c.mode-item.is in
    let ports = pair_of string_bytes c.split_rto_min.result.1.now c.own_port-item.result c.peer_port-item.result (omega (arith, c.if-rest-gt-PORTS.false, c.in-len2-up.len_at_least)) c.own_port-item.is c.peer_port-item.is in
    let words = same_words _ _ _ _ _ _ _ _ _ _ _ _ _ _ c.as_bytes.ensures.value c.as_bytes-2.ensures.value c.as_bytes-3.ensures.value c.as_bytes-4.ensures.value c.as_bytes-5.ensures.value c.as_bytes-6.ensures.value c.as_bytes-7.ensures.value in
    none_configured _ _ _ _ _ _ _ _ _ _ _ _ _ are c.split_options.ensures c.split_rto_min.ensures ports
    (subst (λ (ws : List (List ℕ)). (x : Configuration) → Settles ws x → ⊥) (sym words) c.in-None.ensures.exact)
