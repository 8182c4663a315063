-- What a stream goes on with: taken out, as clauses see it.
use Rattle.std.proofs.Common.{◌≡◌, ℕ, zero, suc, ◌<◌, List, [], ◌∷◌, length, map, set, get_or, Option, Some, None, sym, ap, ◌∙◌, arith, IfSome, IfNone}
use Rattle.std.proofs.lemmas.List.{map-set}
use Rattle.std.proofs.lemmas.Option.{get_or_from_slice_get}
use Rattle.sctp_send.specs.SenderKept.{Track}
use Rattle.sctp_send.specs.SenderFields.{track_meaning, ending_meaning, endings_meaning}
use Rattle.sctp_send.specs.inner.Walks.{rest_has, GoesOnAt, EndsAt}
use Rattle.sctp_send.specs.declared.kept.track.Ending.{Ending as EndingFields}
use Rattle.sctp_send.specs.declared.kept.track.Track.{Track as TrackFields}
use Rattle.sctp_send.proofs.WalkLemmas.{track_read}

pub rest_taken : (size t at : ℕ) (ts : List TrackFields) (x : TrackFields) (o : Option EndingFields) → x ≡ get_or ts at x → GoesOnAt t at (map (track_meaning size) ts) → endings_meaning size o ≡ (track_meaning size x).rest
    → IfSome o (λ ending. EndsAt t (ending_meaning size ending) (map (track_meaning size) ts) (map (track_meaning size) (set ts at (record x { rest = None }))))
rest_taken size t at ts x o read g was = by_ending o was
  where
    same : g.track ≡ track_meaning size x
    same = sym (get_or_from_slice_get (map (track_meaning size) ts) at g.track (track_meaning size x) g.there) ∙ track_read size ts at x read

    by_ending : (e : Option EndingFields) → endings_meaning size e ≡ (track_meaning size x).rest → IfSome e (λ ending. EndsAt t (ending_meaning size ending) (map (track_meaning size) ts) (map (track_meaning size) (set ts at (record x { rest = None }))))
    by_ending None is = tt
    by_ending (Some e) is =
        let rest : g.track.rest ≡ Some (ending_meaning size e) = ap (λ (y : Track). y.rest) same ∙ sym is in
        record {
          at = at;
          track = g.track;
          there = g.there;
          rest = rest;
          mine = sym (ap (rest_has t) rest) ∙ g.mine;
          now = map-set (track_meaning size) ts at (record x { rest = None }) ∙ ap (λ (y : Track). set (map (track_meaning size) ts) at (record y { rest = None })) (sym same);
        }

pub never_none : (size t at : ℕ) (ts : List TrackFields) (x : TrackFields) (o : Option EndingFields) (P : Type 0) → x ≡ get_or ts at x → GoesOnAt t at (map (track_meaning size) ts) → endings_meaning size o ≡ (track_meaning size x).rest → IfNone o P
never_none size t at ts x o P read g was = by_ending o was
  where
    same : g.track ≡ track_meaning size x
    same = sym (get_or_from_slice_get (map (track_meaning size) ts) at g.track (track_meaning size x) g.there) ∙ track_read size ts at x read

    by_ending : (e : Option EndingFields) → endings_meaning size e ≡ (track_meaning size x).rest → IfNone e P
    by_ending (Some e) is = tt
    by_ending None is = let none : g.track.rest ≡ None = ap (λ (y : Track). y.rest) same ∙ sym is in let off = sym (ap (rest_has t) none) ∙ g.mine in absurd (cc)

-- what stands at a number is one, whatever stands for what is beyond the list
pub same_read : (ts : List TrackFields) (at : ℕ) (x y : TrackFields) → at < length ts → x ≡ get_or ts at x → y ≡ get_or ts at y → x ≡ y
same_read [] at x y lt one two = absurd (omega arith)
same_read (t ∷ ts) zero x y lt one two = one ∙ sym two
same_read (t ∷ ts) (suc at) x y lt one two = same_read ts at x y (omega arith) one two
