-- Walks over entries, streams and the queue: what is read, and the end.
use Rattle.std.proofs.Common.{◌≡◌, ℕ, ◌≤◌, List, [], length, map, drop, sym, ap, ◌∙◌, get_or}
use Rattle.std.proofs.Math.ListN.{get_or-map}
use Rattle.std.proofs.lemmas.List.{drop_all}
use Rattle.std.specs.declared.sync.Arc.{Arc}
use Rattle.std.specs.declared.alloc.Global.{Global}
use Rattle.sctp_send.specs.SenderFields.{track_meaning, queued_by}
use Rattle.sctp_send.specs.declared.kept.message.Message.{Message as MessageFields}
use Rattle.sctp_send.specs.declared.kept.track.Track.{Track as TrackFields}

-- ---- the end

pub none_behind : {A : Type 0} (n : ℕ) (xs : List A) → length xs ≤ n → drop n xs ≡ []
none_behind n xs le = drop_all n xs le

-- ---- what is read of streams and of the queue

pub track_read : (size : ℕ) (ts : List TrackFields) (i : ℕ) (x : TrackFields) → x ≡ get_or ts i x → get_or (map (track_meaning size) ts) i (track_meaning size x) ≡ track_meaning size x
track_read size ts i x read = get_or-map (track_meaning size) ts i x ∙ ap (track_meaning size) (sym read)

pub queue_read : (size : ℕ) (ms : List (Arc MessageFields Global)) (i : ℕ) (x : Arc MessageFields Global) → x ≡ get_or ms i x → get_or (map (queued_by size) ms) i (queued_by size x) ≡ queued_by size x
queue_read size ms i x read = get_or-map (queued_by size) ms i x ∙ ap (queued_by size) (sym read)
