use Rattle.std.proofs.Common.{◌≡◌, ◌≤◌, [], ◌∷◌, length, refl, ap, sym, ◌∙◌, arith, List, ℕ}
use Rattle.std.proofs.lemmas.Bool.{leb-true, le-leb}
use Rattle.sctp_model.specs.wire.Typed.{WritesTyped, written_typed, typed_in}
use Rattle.sctp_model.specs.wire.Unknown.{parameters_reported}
use Rattle.sctp_model.specs.end.Options.{STATE_COOKIE, own_options, reports_of, said_to}
use Rattle.sctp_model.specs.end.Reports.{item}
use Rattle.sctp_model.specs.end.Opening.{body_for}
use Rattle.sctp_wire.specs.ChunkTree.{init_meaning}
use Rattle.sctp_cookie.specs.CookieTree.{content_meaning}
use Rattle.sctp_opening.specs.inner.Fitting.{all_within}
use Rattle.sctp_opening.proofs.FittingLemmas.{all_stay_within}
use Rattle.sctp_opening.proofs.ListLemmas.{all_said, empty_list, front_short}
use Rattle.sctp_opening.proofs.AckLemmas.{HasParameterRoom, init_ack-is}
use Rattle.sctp_opening.proofs.outside.Outside.ack_parameters.Goals as goal

pub returns-clause-exact : goal.returns-clause-exact
returns-clause-exact c = λ s e under at.
    let o = c.args.self.now in
    let m = init_meaning c.args.offer.now in
    let cookie : c.seal_content-cookie.result ≡ s.sealed (body_for e o.draw m)
    = c.seal_content-cookie.ensures.sealed ∙ sym (under.seals (content_meaning c.cookie_content.result)) ∙ ap s.sealed (c.cookie_content.ensures e at) in
    let first = c.in_ok-put_parameter.ensures.writes [] (rw c.new-list.ensures.items empty_list) in
    let w : WritesTyped c.put_options.new.list.items (item STATE_COOKIE c.seal_content-cookie.result ∷ own_options o.config) = c.in_ok-put_options.ensures _ first in
    let most = c.room_behind.result in
    let reports = reports_of (parameters_reported (typed_in c.args.offer.now.parameters)) in
    let said : own_options o.config ≡ own_options (said_to e.configuration m.parameters)
    = rw at.configured (sym (all_said o.config m.parameters c.limit-limit.ensures.plain.strict)) in
    let bytes : c.put_reports.new.list.items ≡ all_within most (written_typed (item STATE_COOKIE (s.sealed (body_for e o.draw m)) ∷ own_options (said_to e.configuration m.parameters))) reports
    = c.in_ok-put_reports.ensures.bytes ∙ ap (λ (xs : List ℕ). all_within most xs reports) (w.bytes_are ∙ rw (cookie, said) refl) in
    let room : HasParameterRoom e.configuration.limit most = record { exact = rw at.configured c.room_behind.ensures.exact } in
    rw (← at.configured) (init_ack-is s e o.draw m most c.put_reports.new.list.items room bytes)

pub returns-clause-list : goal.returns-clause-list
returns-clause-list c =
    let first = c.in_ok-put_parameter.ensures.writes [] (rw c.new-list.ensures.items empty_list) in
    c.in_ok-put_reports.ensures.list (_, c.in_ok-put_options.ensures _ first)

pub returns-clause-room : goal.returns-clause-room
returns-clause-room c =
    let o = c.args.self.now in
    let first = c.in_ok-put_parameter.ensures.writes [] (rw c.new-list.ensures.items empty_list) in
    let w : WritesTyped c.put_options.new.list.items (item STATE_COOKIE c.seal_content-cookie.result ∷ own_options o.config) = c.in_ok-put_options.ensures _ first in
    let most = c.room_behind.result in
    let reports = reports_of (parameters_reported (typed_in c.args.offer.now.parameters)) in
    let size : length c.seal_content-cookie.result ≡ 72 = omega arith in
    let base : length c.put_options.new.list.items ≤ most = rw w.bytes_are (let h = front_short o.config c.seal_content-cookie.result size in omega (arith, c.room_behind.ensures.least)) in
    let n = length c.put_reports.new.list.items in
    let few : n ≤ most = rw c.in_ok-put_reports.ensures.bytes (all_stay_within most c.put_options.new.list.items reports base) in
    leb-true _ _ (c.room_behind.ensures.exact n ∙ le-leb _ _ few)
