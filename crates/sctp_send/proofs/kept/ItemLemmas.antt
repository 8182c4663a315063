-- From entries to items: what is read, as clauses see it.
use Rattle.std.proofs.Common.{◌≡◌, ℕ, zero, suc, List, [], ◌∷◌, get_or, map, refl, sym, ap, ◌∙◌}
use Rattle.sctp_send.specs.OutstandingFields.{item_meaning}
use Rattle.sctp_send.specs.declared.kept.entry.Entry.{Entry as EntryFields}

-- reading an entry is reading its item
pub item_read : (size : ℕ) (es : List EntryFields) (i : ℕ) (x : EntryFields) → x ≡ get_or es i x → get_or (map (item_meaning size) es) i (item_meaning size x) ≡ item_meaning size x
item_read size es i x read = of_map es i x ∙ ap (item_meaning size) (sym read)
  where
    of_map : (ds : List EntryFields) (j : ℕ) (d : EntryFields) → get_or (map (item_meaning size) ds) j (item_meaning size d) ≡ item_meaning size (get_or ds j d)
    of_map [] j d = refl
    of_map (e ∷ ds) zero d = refl
    of_map (e ∷ ds) (suc j) d = of_map ds j d
