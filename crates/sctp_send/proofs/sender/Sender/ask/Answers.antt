use Rattle.std.proofs.Common.{◌≡◌, ◌<◌, ◌+◌, ◌%◌, ◌^◌, suc, ℕ, List, true, false, Some, length, take, filter, subst, sym, refl, ap, ◌∙◌, arith}
use Rattle.std.specs.Prelude.{not}
use Rattle.std.specs.List.{AllByRecursion}
use Rattle.std.specs.Vec.{vec_len}
use Rattle.std.proofs.lemmas.Bool.Decides.{nat_tests}
use Rattle.std.proofs.lemmas.List.{length-map}
use Rattle.sctp_model.specs.numbers.Limits.{RESETS_AT_ONCE, REQUEST_LIMIT}
use Rattle.sctp_model.specs.sender.Resetting.{ready, may_ask, named_next, next_request}
use Rattle.sctp_send.specs.OutstandingFields.{item_meaning}
use Rattle.sctp_send.specs.ResetAnswers.{WasMade}
use Rattle.sctp_send.specs.ResetsKept.{AreResets, made_under, last_under}
use Rattle.sctp_send.specs.SenderKept.{Kept}
use Rattle.sctp_send.specs.SenderStands.{StandsFor, Keeps}
use Rattle.sctp_send.specs.inner.Resetting.{is_still_in, is_low, listed_under, named_after}
use Rattle.sctp_send.proofs.resetting.StillLemmas.{listed_low, ready_is, named_by, not_free, some_table, named_within, free_made}
use Rattle.sctp_send.proofs.resetting.ResetKept.{keeps_resets, last_index, named_is, named_all}
use Rattle.sctp_send.proofs.sender.Sender.ask.Goals as goal

pub returns-then-is_empty-clause-step : goal.returns-then-is_empty-clause-step
unfolding StandsFor
returns-then-is_empty-clause-step g c = λ v stands.
    let s = c.self.inside in
    let f = g.F.Framing.format in
    let size = s.told.fragment in
    let keeps = subst (λ (k : Kept). Keeps f k v) (sym c.self.view_is) stands in
    let low = subst (λ (xs : List ℕ). AllByRecursion is_low xs) (sym c.resetting.ensures) (listed_low v.streams s.told.resets.table keeps.resets.table) in
    let xs = c.in_ok-streams.streams.items in
    let named : xs ≡ take RESETS_AT_ONCE (filter (is_still_in size s.parts) (listed_under s.told.resets.table)) =
    c.in_ok-streams.ensures size low ∙ ap (λ (ys : List ℕ). take RESETS_AT_ONCE (filter (is_still_in size s.parts) ys)) c.resetting.ensures in
    let is : xs ≡ ready v = named ∙ sym (ready_is f _ v size s.parts keeps (record { items = refl; queue = refl; tracks = refl })) in
    let long : length xs ≡ vec_len c.in_ok-streams.streams = omega (arith, c.in_ok-streams.streams.ok) in
    let free = sym c.is_free.ensures ∙ c.if-not-is_free.false in
    let off : may_ask v ≡ false = named_by f _ v xs (vec_len c.in_ok-streams.streams) c.is_empty.result keeps free is long c.is_empty.ensures ∙ ap not c.if-is_empty.true in
    rw off stands

pub returns-clause-step : goal.returns-clause-step
unfolding StandsFor
returns-clause-step g c = λ v stands.
    let s = c.self.inside in
    let f = g.F.Framing.format in
    let size = s.told.fragment in
    let keeps = subst (λ (k : Kept). Keeps f k v) (sym c.self.view_is) stands in
    let low = subst (λ (xs : List ℕ). AllByRecursion is_low xs) (sym c.resetting.ensures) (listed_low v.streams s.told.resets.table keeps.resets.table) in
    let xs = c.in_ok-streams.streams.items in
    let named : xs ≡ take RESETS_AT_ONCE (filter (is_still_in size s.parts) (listed_under s.told.resets.table)) =
    c.in_ok-streams.ensures size low ∙ ap (λ (ys : List ℕ). take RESETS_AT_ONCE (filter (is_still_in size s.parts) ys)) c.resetting.ensures in
    let is : xs ≡ ready v = named ∙ sym (ready_is f _ v size s.parts keeps (record { items = refl; queue = refl; tracks = refl })) in
    let long : length xs ≡ vec_len c.in_ok-streams.streams = omega (arith, c.in_ok-streams.streams.ok) in
    let free = sym c.is_free.ensures ∙ c.if-not-is_free.false in
    let on : may_ask v ≡ true = named_by f _ v xs (vec_len c.in_ok-streams.streams) c.is_empty.result keeps free is long c.is_empty.ensures ∙ ap not c.if-is_empty.false in
    let filled : length xs ≡ 0 → ⊥ = λ none. let off = c.is_empty.ensures in let some = c.if-is_empty.false in let zero_is : vec_len c.in_ok-streams.streams ≡ 0 = omega (arith, long, none) in grind (arith, nat_tests) in
    let there = some_table s.told.resets.table size s.parts xs named filled in
    let number = free_made s.told.resets.table free in
    let few : made_under s.told.resets.table < REQUEST_LIMIT = grind (arith, nat_tests) in
    let ys = c.in_ok-named.named.items in
    let many = length-map s.parts.outstanding.items (item_meaning size) in
    let last : (s.told.cum + c.len.result) % 2 ^ 64 ≡ length v.plan.entries = last_index f _ v c.len.result keeps (c.len.ensures ∙ sym many) in
    let says : ys ≡ named_after s.told.initial ((s.told.cum + c.len.result) % 2 ^ 64) (last_under s.told.resets.table) xs = c.in_ok-named.ensures in
    let within : AllByRecursion (λ (j : ℕ). j < v.streams) ys =
    subst (λ (zs : List ℕ). AllByRecursion (λ (j : ℕ). j < v.streams) zs) (sym says) (named_all (λ (j : ℕ). j < v.streams) s.told.initial ((s.told.cum + c.len.result) % 2 ^ 64) (last_under s.told.resets.table) xs
    (named_within v.streams size s.told.resets.table s.parts xs keeps.resets.table named)) in
    let names : ys ≡ named_next v =
    says ∙ ap (λ (i : ℕ). named_after i ((s.told.cum + c.len.result) % 2 ^ 64) (last_under s.told.resets.table) xs) keeps.holds.initial
    ∙ ap (λ (i : ℕ). named_after v.initial i (last_under s.told.resets.table) xs) last ∙ named_is v xs (last_under s.told.resets.table) (sym keeps.resets.last) is in
    let are = c.ask-request.ensures.step v.streams v.resets there few within keeps.resets in
    let asks : AreResets v.streams c.ask-request.new.self (record v.resets { made = suc v.resets.made; pending = Some (next_request v); last_made = Some (next_request v) }) =
    rw (last, names) at are in
    rw on (keeps_resets f _ v s.told.forward c.ask-request.new.self _ keeps asks keeps.forward)

pub returns-clause-before : goal.returns-clause-before
unfolding StandsFor WasMade
returns-clause-before g c = λ v stands may.
    let s = c.self.inside in
    let keeps = subst (λ (k : Kept). Keeps g.F.Framing.format k v) (sym c.self.view_is) stands in
    c.ask-request.ensures.before v.streams v.resets keeps.resets

pub returns-then-not-is_free-clause-before : goal.returns-then-not-is_free-clause-before
unfolding StandsFor
returns-then-not-is_free-clause-before g c = λ v stands may.
    let keeps = subst (λ (k : Kept). Keeps g.F.Framing.format k v) (sym c.self.view_is) stands in
    let off = not_free g.F.Framing.format _ v keeps (sym c.is_free.ensures ∙ c.if-not-is_free.true) in
    absurd (cc)

pub returns-then-is_empty-clause-before : goal.returns-then-is_empty-clause-before
unfolding StandsFor
returns-then-is_empty-clause-before g c = λ v stands may.
    let s = c.self.inside in
    let f = g.F.Framing.format in
    let size = s.told.fragment in
    let keeps = subst (λ (k : Kept). Keeps f k v) (sym c.self.view_is) stands in
    let low = subst (λ (xs : List ℕ). AllByRecursion is_low xs) (sym c.resetting.ensures) (listed_low v.streams s.told.resets.table keeps.resets.table) in
    let xs = c.in_ok-streams.streams.items in
    let named : xs ≡ take RESETS_AT_ONCE (filter (is_still_in size s.parts) (listed_under s.told.resets.table)) =
    c.in_ok-streams.ensures size low ∙ ap (λ (ys : List ℕ). take RESETS_AT_ONCE (filter (is_still_in size s.parts) ys)) c.resetting.ensures in
    let is : xs ≡ ready v = named ∙ sym (ready_is f _ v size s.parts keeps (record { items = refl; queue = refl; tracks = refl })) in
    let long : length xs ≡ vec_len c.in_ok-streams.streams = omega (arith, c.in_ok-streams.streams.ok) in
    let free = sym c.is_free.ensures ∙ c.if-not-is_free.false in
    let off : may_ask v ≡ false = named_by f _ v xs (vec_len c.in_ok-streams.streams) c.is_empty.result keeps free is long c.is_empty.ensures ∙ ap not c.if-is_empty.true in
    absurd (cc)
