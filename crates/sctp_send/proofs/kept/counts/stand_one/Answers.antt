use Rattle.std.proofs.Common.{◌≡◌, ◌<◌, ◌≤◌, map, length, refl}
use Rattle.std.proofs.lemmas.List.{length-map, length-set, map-set}
use Rattle.sctp_send.specs.OutstandingFields.{item_meaning}
use Rattle.sctp_send.specs.inner.Walks.{abandoned_items}
use Rattle.sctp_send.specs.inner.Changes.{stood}
use Rattle.sctp_send.proofs.kept.CountLemmas.{counts_set}
use Rattle.sctp_send.proofs.kept.FrontLemmas.{front_within}
use Rattle.sctp_send.proofs.kept.ChangedLemmas.{changed_set}
use Rattle.sctp_send.proofs.kept.counts.stand_one.Goals as goal

pub front_after-counts-requires : goal.front_after-counts-requires
front_after-counts-requires c =
    let es = c.args.entries.now.items in
    let counts = c.args.counts.now in
    let within : counts.front ≤ length es = front_within c.args.size es counts.front c.requires.counted.front in
    rw (c.lower.ensures c.args.size, c.enter.ensures, c.leave.ensures, length-set es c.args.at (stood c.args.state c.index_mut-entry.result.now)) within

pub returns-clause-counted : goal.returns-clause-counted
returns-clause-counted c =
    let size = c.args.size in
    let es = c.args.entries.now.items in
    let counts = c.args.counts.now in
    let new = stood c.args.state c.index_mut-entry.result.now in
    let items = map (item_meaning size) es in
    let before : c.lower.new.self.front ≡ abandoned_items items = rw (c.lower.ensures size, c.enter.ensures, c.leave.ensures) c.requires.counted.front in
    let within : c.args.at < length items = rw (length-map es (item_meaning size)) c.requires.within in
    let front = c.front_after-counts.ensures size items (item_meaning size new) before within (map-set (item_meaning size) es c.args.at new) refl in
    rw (c.lower.ensures size, c.enter.ensures, c.leave.ensures)
    (counts_set size es c.args.at c.index_mut-entry.result.now new counts c.front_after-counts.result c.requires.within c.index_mut-entry.ensures.value c.requires.counted front)

pub returns-clause-items : goal.returns-clause-items
returns-clause-items c =
    let es = c.args.entries.now.items in
    rw (changed_set (stood c.args.state) c.args.at es c.index_mut-entry.result.now c.requires.within c.index_mut-entry.ensures.value) refl

pub returns-clause-header : goal.returns-clause-header
returns-clause-header c = rw (c.lower.ensures c.args.size, c.enter.ensures, c.leave.ensures) refl
