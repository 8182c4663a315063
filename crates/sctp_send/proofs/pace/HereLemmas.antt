-- What a test says of the item at an offset, read from the entries.
use Rattle.std.proofs.Common.{◌≡◌, ℕ, ◌<◌, ◌≤◌, ◌∙◌, List, length, map, get_or, Bool, false, Some, None, refl, ap}
use Rattle.std.specs.Prelude.{option_map}
use Rattle.std.proofs.lemmas.Option.{slice_get-map, slice_get_read, slice_get_past}
use Rattle.sctp_model.specs.sender.Words.{some_passes}
use Rattle.sctp_send.specs.SenderKept.{Item}
use Rattle.sctp_send.specs.OutstandingFields.{item_meaning}
use Rattle.sctp_send.specs.inner.Weighing.{passes_here}
use Rattle.sctp_send.specs.declared.kept.entry.Entry.{Entry as EntryFields}
use Rattle.std.specs.Prelude.{slice_get}

pub item_read : (size : ℕ) (es : List EntryFields) (at : ℕ) (e : EntryFields) → at < length es → e ≡ get_or es at e → slice_get (map (item_meaning size) es) at ≡ Some (item_meaning size e)
item_read size es at e lt read = slice_get-map (item_meaning size) es at ∙ ap (option_map (item_meaning size)) (slice_get_read es (length es) at e refl lt read)

pub item_past : (size : ℕ) (es : List EntryFields) (at : ℕ) → length es ≤ at → slice_get (map (item_meaning size) es) at ≡ None
item_past size es at le = slice_get-map (item_meaning size) es at ∙ ap (option_map (item_meaning size)) (slice_get_past es at le)

-- where an entry is read
pub here_read : (test : Item → Bool) (size : ℕ) (es : List EntryFields) (at : ℕ) (e : EntryFields) → at < length es → e ≡ get_or es at e → passes_here test (map (item_meaning size) es) at ≡ test (item_meaning size e)
here_read test size es at e lt read = ap (some_passes test) (item_read size es at e lt read)

-- behind all entries
pub here_past : (test : Item → Bool) (size : ℕ) (es : List EntryFields) (at : ℕ) → length es ≤ at → passes_here test (map (item_meaning size) es) at ≡ false
here_past test size es at le = ap (some_passes test) (item_past size es at le)
