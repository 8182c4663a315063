use Rattle.std.proofs.Common.{◌∙◌}
use Rattle.sctp_opening.proofs.ReadingLemmas.{late_reading, late_told, read_is, stale_by}
use Rattle.sctp_opening.proofs.cookies.read_cookie.Goals as goal

pub returns-in-Ok-clause-read : goal.returns-in-Ok-clause-read
returns-in-Ok-clause-read c = λ s e under at.
    let a = c.args in
    let law = c.cookies_are_read.ensures a.key.now a.cookie.now a.tag s e under in
    read_is a.key.now a.cookie.now a.now a.config.now a.tag s e at law _ c.ports_of-ports.ensures _ c.options_of-taken.ensures _ c.in-Ok.ensures.answer

pub returns-in-Err-Stale-clause-read : goal.returns-in-Err-Stale-clause-read
returns-in-Err-Stale-clause-read c = λ s e under at.
    let a = c.args in
    let law = c.cookies_are_read.ensures a.key.now a.cookie.now a.tag s e under in
    late_reading _ _ _ c.late.ensures
    ∙ read_is a.key.now a.cookie.now a.now a.config.now a.tag s e at law _ c.ports_of-ports.ensures _ c.options_of-taken.ensures _ (rw c.in-Err-Stale.field-0-is at c.in-Err-Stale.ensures.answer)

pub returns-in-Err-Stale-clause-late : goal.returns-in-Err-Stale-clause-late
returns-in-Err-Stale-clause-late c =
    let a = c.args in
    late_told _ _ a.now _ c.late.ensures
    (stale_by _ a.key.now a.cookie.now a.now _ a.tag _ (c.cookies_are_sealed.ensures a.key.now) (rw c.in-Err-Stale.field-0-is at c.in-Err-Stale.ensures.meaning))

pub returns-in-Err-Form-clause-read : goal.returns-in-Err-Form-clause-read
returns-in-Err-Form-clause-read c = λ s e under at.
    let a = c.args in
    let law = c.cookies_are_read.ensures a.key.now a.cookie.now a.tag s e under in
    read_is a.key.now a.cookie.now a.now a.config.now a.tag s e at law _ c.ports_of-ports.ensures _ c.options_of-taken.ensures _ (rw c.in-Err-Form.field-0-is at c.in-Err-Form.ensures.answer)

pub returns-in-Err-Mac-clause-read : goal.returns-in-Err-Mac-clause-read
returns-in-Err-Mac-clause-read c = λ s e under at.
    let a = c.args in
    let law = c.cookies_are_read.ensures a.key.now a.cookie.now a.tag s e under in
    read_is a.key.now a.cookie.now a.now a.config.now a.tag s e at law _ c.ports_of-ports.ensures _ c.options_of-taken.ensures _ (rw c.in-Err-Mac.field-0-is at c.in-Err-Mac.ensures.answer)

pub returns-in-Err-Ports-clause-read : goal.returns-in-Err-Ports-clause-read
returns-in-Err-Ports-clause-read c = λ s e under at.
    let a = c.args in
    let law = c.cookies_are_read.ensures a.key.now a.cookie.now a.tag s e under in
    read_is a.key.now a.cookie.now a.now a.config.now a.tag s e at law _ c.ports_of-ports.ensures _ c.options_of-taken.ensures _ (rw c.in-Err-Ports.field-0-is at c.in-Err-Ports.ensures.answer)

pub returns-in-Err-Tag-clause-read : goal.returns-in-Err-Tag-clause-read
returns-in-Err-Tag-clause-read c = λ s e under at.
    let a = c.args in
    let law = c.cookies_are_read.ensures a.key.now a.cookie.now a.tag s e under in
    read_is a.key.now a.cookie.now a.now a.config.now a.tag s e at law _ c.ports_of-ports.ensures _ c.options_of-taken.ensures _ (rw c.in-Err-Tag.field-0-is at c.in-Err-Tag.ensures.answer)
