-- Of which resets a table is, as it is made and as it changes (RFC 6525, 5.1 and 5.2.7).
use Rattle.std.proofs.Common.{◌≡◌, ℕ, zero, suc, ◌<◌, ◌≤◌, min, List, [], ◌∷◌, length, filter, Bool, true, false, Option, Some, None, refl, sym, ap, ◌∙◌, subst, arith}
use Rattle.std.specs.Prelude.{◌==◌, if◌then◌else◌, slice_get, option_map, replicate, is_some, not}
use Rattle.std.specs.List.{AllByRecursion}
use Rattle.std.specs.Vec.{vec_capacity}
use Rattle.std.specs.declared.alloc.Global.{Global}
use Rattle.std.specs.declared.boxed.Box.{Box}
use Rattle.std.proofs.Math.Path.{fun_ext}
use Rattle.std.proofs.lemmas.List.{length-replicate}
use Rattle.std.proofs.lemmas.Option.{slice_get_within}
use Rattle.std.proofs.lemmas.Bool.Decides.{nat_tests}
use Rattle.sctp_model.specs.numbers.Limits.{STREAM_LIMIT}
use Rattle.sctp_model.specs.numbers.Lists.{at}
use Rattle.sctp_model.specs.messages.Format.{Kind, Ordered, Unordered, Lane}
use Rattle.sctp_model.specs.sender.Outgoing as model
use Rattle.sctp_model.specs.sender.Outgoing.{Outgoing, lists}
use Rattle.sctp_model.specs.sender.Resetting.{set_to}
use Rattle.sctp_model.specs.sender.Words.{count_up}
use Rattle.sctp_send.specs.PartsKept.{changed_at}
use Rattle.sctp_send.specs.ResetsKept.{base_there, base_in, base_under, sending_there, sending_under, numbering_meaning, request_meaning, pending_meaning, pending_under, last_meaning, last_under, made_under, IsWithin, is_resetting_in, IsTable, AreResets}
use Rattle.sctp_send.specs.inner.Resetting.{stream_as, restarted_by, refused_by, number_from, all_changed, waiting_of, IsFresh}
use Rattle.sctp_send.specs.declared.kept.track.Track.{Track as TrackFields}
use Rattle.sctp_send.specs.declared.kept.resets.Sending.{Sending}
use Rattle.sctp_send.specs.declared.kept.resets.Sending.TheVariants.{Sends, Resets}
use Rattle.sctp_send.specs.declared.kept.request.Numbering.{Numbering}
use Rattle.sctp_send.specs.declared.kept.resets.StreamReset.{StreamReset}
use Rattle.sctp_send.specs.declared.kept.request.Request.{Request}
use Rattle.sctp_send.specs.declared.kept.resets.ResetTable.{ResetTable}
use Rattle.sctp_send.proofs.kept.ChangedLemmas.{count_changed}
use Rattle.sctp_send.proofs.resetting.CountedUp.{filter_off, get_changed, get_all, length-all, listed_below}
use Rattle.sctp_send.proofs.resetting.WaitingLemmas.{IsListed, sends_anew}

-- ---- a table is made

abbrev unreset : StreamReset
unreset = record { ordered = 0; unordered = 0; sending = Sends }

base_fresh : (k : Kind) (n s : ℕ) → base_there k (slice_get (replicate n unreset) s) ≡ 0
base_fresh k zero s = refl
base_fresh Ordered (suc n) zero = refl
base_fresh Unordered (suc n) zero = refl
base_fresh k (suc n) (suc s) = base_fresh k n s

sends_fresh : (n s : ℕ) → sending_there (slice_get (replicate n unreset) s) ≡ model.Sends
sends_fresh zero s = refl
sends_fresh (suc n) zero = refl
sends_fresh (suc n) (suc s) = sends_fresh n s

pub resets_made : (n : ℕ) (t : Option (Box ResetTable Global)) (b : Box ResetTable Global) (o : Outgoing) → t ≡ None → IsFresh n b.value → AreResets n (record { table = t }) o → AreResets n (record { table = Some b }) o
resets_made n t b o none fresh k = record {
  base = k.base ∙ fun_ext (λ (l : Lane). ap (λ (u : Option (Box ResetTable Global)). base_under u l) none ∙ sym (ap (λ (rs : List StreamReset). base_in rs l) fresh.streams ∙ base_fresh l.kind n l.stream));
  sending = λ s low. k.sending s low ∙ ap (λ (u : Option (Box ResetTable Global)). sending_under u s) none ∙ sym (sends s);
  made = k.made ∙ ap made_under none ∙ sym fresh.made;
  pending = k.pending ∙ ap pending_under none ∙ sym (ap pending_meaning fresh.last);
  last = k.last ∙ ap last_under none ∙ sym (ap last_meaning fresh.last);
  table = record {
    streams = ap (λ (rs : List StreamReset). length rs) fresh.streams ∙ length-replicate n unreset;
    request = subst (λ (r : Option Request). IsWithin n r) (sym fresh.last) tt;
    resetting = fresh.resetting ∙ sym (filter_off (is_resetting_in b.value.streams.items) 0 (min n STREAM_LIMIT) (λ s lo hi. ap model.is_resetting (sends s)));
    room = fresh.room;
  };
}
  where
    sends : (s : ℕ) → sending_there (slice_get b.value.streams.items s) ≡ model.Sends
    sends s = ap (λ (rs : List StreamReset). sending_there (slice_get rs s)) fresh.streams ∙ sends_fresh n s

-- there is none
pub none_there : (t : Option (Box ResetTable Global)) (b : Bool) → is_some t ≡ not b → b ≡ true → t ≡ None
none_there None b is on = refl
none_there (Some x) b is on = absurd (cc)

-- ---- a table changes

still_table : (n : ℕ) (t u : ResetTable) (rs : List StreamReset) (r : Option Request) (made : ℕ) → IsTable n t → IsListed t u rs r made → length rs ≡ length t.streams.items → IsWithin n r → IsTable n u
still_table n t u rs r made h i long within = record {
  streams = many;
  request = subst (λ (x : Option Request). IsWithin n x) (sym i.last) within;
  resetting = i.listed room was ∙ ap (λ (xs : List StreamReset). waiting_of xs) (sym i.streams) ∙ ap (λ (j : ℕ). filter (is_resetting_in u.streams.items) (count_up 0 (min j STREAM_LIMIT))) many;
  room = let held = h.room in let more = i.capacity in omega (arith, held, more);
}
  where
    many : length u.streams.items ≡ n
    many = ap (λ (xs : List StreamReset). length xs) i.streams ∙ long ∙ h.streams

    room : min (length t.streams.items) STREAM_LIMIT ≤ vec_capacity t.resetting
    room = subst (λ (j : ℕ). min j STREAM_LIMIT ≤ vec_capacity t.resetting) (sym h.streams) h.room

    was : t.resetting.items ≡ waiting_of t.streams.items
    was = h.resetting ∙ ap (λ (j : ℕ). filter (is_resetting_in t.streams.items) (count_up 0 (min j STREAM_LIMIT))) (sym h.streams)

there : (rs : List StreamReset) (s : ℕ) → s < length rs → (r : StreamReset) × (slice_get rs s ≡ Some r)
there [] s low = absurd (omega arith)
there (r ∷ rs) zero low = (r, refl)
there (r ∷ rs) (suc s) low = there rs s (omega (arith, low))

base_kept : (k : Kind) (x : Sending) (o : Option StreamReset) → base_there k (option_map (stream_as x) o) ≡ base_there k o
base_kept k x None = refl
base_kept Ordered x (Some r) = refl
base_kept Unordered x (Some r) = refl

-- a stream takes no further message
pub resets_shut : (n stream : ℕ) (b c : Box ResetTable Global) (o : Outgoing) → AreResets n (record { table = Some b }) o
    → IsListed b.value c.value (changed_at (stream_as Resets) stream b.value.streams.items) b.value.last_made b.value.made
    → AreResets n (record { table = Some c }) (record o { sending = at o.sending stream model.Resets })
resets_shut n stream b c o k i = record {
  base = k.base ∙ fun_ext (λ (l : Lane). sym (ap (λ (rs : List StreamReset). base_in rs l) i.streams ∙ ap (base_there l.kind) (get_changed (stream_as Resets) stream b.value.streams.items l.stream) ∙ same_base l (stream == l.stream)));
  sending = sends;
  made = k.made ∙ sym i.made;
  pending = k.pending ∙ sym (ap pending_meaning i.last);
  last = k.last ∙ sym (ap last_meaning i.last);
  table = still_table n b.value c.value _ b.value.last_made b.value.made k.table i (count_changed (stream_as Resets) stream b.value.streams.items) k.table.request;
}
  where
    same_base : (l : Lane) (x : Bool) → base_there l.kind (if x then option_map (stream_as Resets) (slice_get b.value.streams.items l.stream) else slice_get b.value.streams.items l.stream) ≡ base_in b.value.streams.items l
    same_base l x = grind (arith, base_kept)

    now : (s : ℕ) → sending_there (slice_get c.value.streams.items s) ≡ sending_there (if stream == s then option_map (stream_as Resets) (slice_get b.value.streams.items s) else slice_get b.value.streams.items s)
    now s = ap (λ (rs : List StreamReset). sending_there (slice_get rs s)) i.streams ∙ ap sending_there (get_changed (stream_as Resets) stream b.value.streams.items s)

    sends : (s : ℕ) → s < n → (if s == stream then model.Resets else o.sending s) ≡ sending_there (slice_get c.value.streams.items s)
    sends s low =
        let long = k.table.streams in
        let has = there b.value.streams.items s (omega (arith, low, long)) in
        grind (arith, nat_tests, now s, has, k.sending s low)

-- the request that waits is the last one that was made
waits_last : (y : Option Numbering) (z q : model.Request) → Some q ≡ (if is_some y then Some z else None) → z ≡ q
waits_last None z q is = absurd (cc)
waits_last (Some y) z q is = cc

-- the streams of a request are changed, and none waits
module _ (n : ℕ) (f : ℕ → StreamReset → StreamReset) (same : (s : ℕ) (r : StreamReset) → f s (f s r) ≡ f s r) (b c : Box ResetTable Global) (o : Outgoing) (q : model.Request) (d : ResetTable) (p : Option Request) (r : Request)
    (k : AreResets n (record { table = Some b }) o) (asked : o.pending ≡ Some q) (here : d ≡ b.value) (waits : d.last_made ≡ Some r) (none : p ≡ None)
    (i : IsListed (record d { last_made = p }) c.value (all_changed f r.streams.items d.streams.items) (Some (record r { numbering = None })) d.made) where
  is_last : b.value.last_made ≡ Some r
  is_last = ap (λ (t : ResetTable). t.last_made) (sym here) ∙ waits

  pub named : r.streams.items ≡ q.streams
  named =
      let was : Some q ≡ pending_meaning (Some r) = sym asked ∙ k.pending ∙ ap pending_meaning is_last in
      ap (λ (x : model.Request). x.streams) (waits_last r.numbering (request_meaning r) q was)

  listed : IsListed (record b.value { last_made = None }) c.value (all_changed f q.streams b.value.streams.items) (Some (record r { numbering = None })) b.value.made
  listed =
      subst (λ (ss : List ℕ). IsListed (record b.value { last_made = None }) c.value (all_changed f ss b.value.streams.items) (Some (record r { numbering = None })) b.value.made) named
      (subst (λ (y : Option Request). IsListed (record b.value { last_made = y }) c.value (all_changed f r.streams.items b.value.streams.items) (Some (record r { numbering = None })) b.value.made) none
      (subst (λ (t : ResetTable). IsListed (record t { last_made = p }) c.value (all_changed f r.streams.items t.streams.items) (Some (record r { numbering = None })) t.made) here i))

  here_within : AllByRecursion (λ (s : ℕ). s < n) r.streams.items
  here_within = subst (λ (x : Option Request). IsWithin n x) is_last k.table.request

  within : AllByRecursion (λ (s : ℕ). s < n) q.streams
  within = subst (λ (ss : List ℕ). AllByRecursion (λ (s : ℕ). s < n) ss) named here_within

  -- a stream then
  pub got : (s : ℕ) → slice_get c.value.streams.items s ≡ (if lists q.streams s then option_map (f s) (slice_get b.value.streams.items s) else slice_get b.value.streams.items s)
  got s = ap (λ (rs : List StreamReset). slice_get rs s) listed.streams ∙ get_all f same q.streams b.value.streams.items s

  -- it is there
  pub found : (s : ℕ) → lists q.streams s ≡ true → (x : StreamReset) × (slice_get b.value.streams.items s ≡ Some x)
  found s on = let low = listed_below q.streams s n within on in let long = k.table.streams in there b.value.streams.items s (omega (arith, low, long))

  pub changed_table : IsTable n c.value
  changed_table =
      still_table n (record b.value { last_made = None }) c.value (all_changed f q.streams b.value.streams.items) (Some (record r { numbering = None })) b.value.made
      (record { streams = k.table.streams; request = tt; resetting = k.table.resetting; room = k.table.room }) listed (length-all f q.streams b.value.streams.items) here_within

  pub changed_made : o.made ≡ c.value.made
  changed_made = k.made ∙ sym listed.made

  pub changed_pending : None ≡ pending_meaning c.value.last_made
  changed_pending = sym (ap pending_meaning listed.last)

  pub changed_last : o.last_made ≡ last_meaning c.value.last_made
  changed_last = k.last ∙ ap last_meaning is_last ∙ sym (ap last_meaning listed.last)

-- the streams of the request are reset
pub resets_restarted : (n : ℕ) (ts : List TrackFields) (b c : Box ResetTable Global) (o : Outgoing) (q : model.Request) (d : ResetTable) (p : Option Request) (r : Request) (count : Lane → ℕ)
    → AreResets n (record { table = Some b }) o → o.pending ≡ Some q → d ≡ b.value → d.last_made ≡ Some r → p ≡ None
    → IsListed (record d { last_made = p }) c.value (all_changed (restarted_by ts) r.streams.items d.streams.items) (Some (record r { numbering = None })) d.made → ((l : Lane) → l.stream < n → number_from ts l ≡ count l)
    → AreResets n (record { table = Some c }) (record o { base = λ l. if lists q.streams l.stream then count l else o.base l; sending = set_to model.Sends q o.sending; pending = None })
resets_restarted n ts b c o q d p r count k asked here waits none i counts = record {
  base = fun_ext (λ (l : Lane). base_of_lane l (lists q.streams l.stream) refl ∙ sym (ap (base_there l.kind) (now l.stream)));
  sending = sends;
  made = changed_made n (restarted_by ts) (λ s x. refl) b c o q d p r k asked here waits none i;
  pending = changed_pending n (restarted_by ts) (λ s x. refl) b c o q d p r k asked here waits none i;
  last = changed_last n (restarted_by ts) (λ s x. refl) b c o q d p r k asked here waits none i;
  table = changed_table n (restarted_by ts) (λ s x. refl) b c o q d p r k asked here waits none i;
}
  where
    now : (s : ℕ) → slice_get c.value.streams.items s ≡ (if lists q.streams s then option_map (restarted_by ts s) (slice_get b.value.streams.items s) else slice_get b.value.streams.items s)
    now s = got n (restarted_by ts) (λ s x. refl) b c o q d p r k asked here waits none i s

    base_of_lane : (l : Lane) (y : Bool) → lists q.streams l.stream ≡ y
        → (if lists q.streams l.stream then count l else o.base l) ≡ base_there l.kind (if lists q.streams l.stream then option_map (restarted_by ts l.stream) (slice_get b.value.streams.items l.stream) else slice_get b.value.streams.items l.stream)
    base_of_lane l true on =
        let has = found n (restarted_by ts) (λ s x. refl) b c o q d p r k asked here waits none i l.stream on in
        let low : l.stream < n = let inside = slice_get_within b.value.streams.items l.stream has.0 has.1 in let long = k.table.streams in omega (arith, inside, long) in
        rw (on, has.1) (sym (counts l low))
    base_of_lane l false off = rw off (ap (λ (g : Lane → ℕ). g l) k.base)

    sends : (s : ℕ) → s < n → set_to model.Sends q o.sending s ≡ sending_there (slice_get c.value.streams.items s)
    sends s low = grind (arith, now s, found n (restarted_by ts) (λ s x. refl) b c o q d p r k asked here waits none i s, k.sending s low, sends_anew)

-- the peer refused
pub resets_refused : (n : ℕ) (b c : Box ResetTable Global) (o : Outgoing) (q : model.Request) (d : ResetTable) (p : Option Request) (r : Request)
    → AreResets n (record { table = Some b }) o → o.pending ≡ Some q → d ≡ b.value → d.last_made ≡ Some r → p ≡ None
    → IsListed (record d { last_made = p }) c.value (all_changed refused_by r.streams.items d.streams.items) (Some (record r { numbering = None })) d.made
    → AreResets n (record { table = Some c }) (record o { sending = set_to model.Refuses q o.sending; pending = None })
resets_refused n b c o q d p r k asked here waits none i = record {
  base = k.base ∙ fun_ext (λ (l : Lane). sym (ap (base_there l.kind) (now l.stream) ∙ same_base l (lists q.streams l.stream)));
  sending = sends;
  made = changed_made n refused_by (λ s x. refl) b c o q d p r k asked here waits none i;
  pending = changed_pending n refused_by (λ s x. refl) b c o q d p r k asked here waits none i;
  last = changed_last n refused_by (λ s x. refl) b c o q d p r k asked here waits none i;
  table = changed_table n refused_by (λ s x. refl) b c o q d p r k asked here waits none i;
}
  where
    now : (s : ℕ) → slice_get c.value.streams.items s ≡ (if lists q.streams s then option_map (refused_by s) (slice_get b.value.streams.items s) else slice_get b.value.streams.items s)
    now s = got n refused_by (λ s x. refl) b c o q d p r k asked here waits none i s

    same_base : (l : Lane) (y : Bool) → base_there l.kind (if y then option_map (refused_by l.stream) (slice_get b.value.streams.items l.stream) else slice_get b.value.streams.items l.stream) ≡ base_in b.value.streams.items l
    same_base l y = grind (arith, base_kept)

    sends : (s : ℕ) → s < n → set_to model.Refuses q o.sending s ≡ sending_there (slice_get c.value.streams.items s)
    sends s low = grind (arith, now s, found n refused_by (λ s x. refl) b c o q d p r k asked here waits none i s, k.sending s low)

-- ---- a hint is noted

-- a table with other hints stands for the same
pub resets_noted : (n : ℕ) (b c : Box ResetTable Global) (o : Outgoing) → c.value ≡ record b.value { hints = c.value.hints } → AreResets n (record { table = Some b }) o → AreResets n (record { table = Some c }) o
resets_noted n b c o is k = record {
  base = k.base ∙ fun_ext (λ (l : Lane). ap (λ (rs : List StreamReset). base_in rs l) (sym streams));
  sending = λ s low. k.sending s low ∙ ap (λ (rs : List StreamReset). sending_there (slice_get rs s)) (sym streams);
  made = k.made ∙ sym (ap (λ (t : ResetTable). t.made) is);
  pending = k.pending ∙ ap pending_meaning (sym last);
  last = k.last ∙ ap last_meaning (sym last);
  table = record {
    streams = ap (λ (rs : List StreamReset). length rs) streams ∙ k.table.streams;
    request = subst (λ (r : Option Request). IsWithin n r) (sym last) k.table.request;
    resetting =
        ap (λ (t : ResetTable). t.resetting.items) is ∙ k.table.resetting
        ∙ ap (λ (rs : List StreamReset). filter (is_resetting_in rs) (count_up 0 (min n STREAM_LIMIT))) (sym streams);
    room = let room = k.table.room in let same : vec_capacity c.value.resetting ≡ vec_capacity b.value.resetting = ap (λ (t : ResetTable). vec_capacity t.resetting) is in omega (arith, room, same);
  };
}
  where
    streams : c.value.streams.items ≡ b.value.streams.items
    streams = ap (λ (t : ResetTable). t.streams.items) is

    last : c.value.last_made ≡ b.value.last_made
    last = ap (λ (t : ResetTable). t.last_made) is

-- ---- the request that was made last

-- a table with another one, and another count of numbers
pub resets_asked : (n : ℕ) (b c : Box ResetTable Global) (o : Outgoing) (made : ℕ) (r : Option Request) (p l : Option model.Request) → c.value ≡ record b.value { made = c.value.made; last_made = c.value.last_made }
    → AreResets n (record { table = Some b }) o → made ≡ c.value.made → r ≡ c.value.last_made → p ≡ pending_meaning r → l ≡ last_meaning r → IsWithin n r
    → AreResets n (record { table = Some c }) (record o { made = made; pending = p; last_made = l })
resets_asked n b c o made r p l is k many here waits last within = record {
  base = k.base ∙ fun_ext (λ (j : Lane). ap (λ (rs : List StreamReset). base_in rs j) (sym streams));
  sending = λ s low. k.sending s low ∙ ap (λ (rs : List StreamReset). sending_there (slice_get rs s)) (sym streams);
  made = many;
  pending = waits ∙ ap pending_meaning here;
  last = last ∙ ap last_meaning here;
  table = record {
    streams = ap (λ (rs : List StreamReset). length rs) streams ∙ k.table.streams;
    request = subst (λ (x : Option Request). IsWithin n x) here within;
    resetting =
        ap (λ (t : ResetTable). t.resetting.items) is ∙ k.table.resetting
        ∙ ap (λ (rs : List StreamReset). filter (is_resetting_in rs) (count_up 0 (min n STREAM_LIMIT))) (sym streams);
    room = let room = k.table.room in let same : vec_capacity c.value.resetting ≡ vec_capacity b.value.resetting = ap (λ (t : ResetTable). vec_capacity t.resetting) is in omega (arith, room, same);
  };
}
  where
    streams : c.value.streams.items ≡ b.value.streams.items
    streams = ap (λ (t : ResetTable). t.streams.items) is

pub same_request : (x q : model.Request) → Some x ≡ Some q → x ≡ q
same_request x q is = cc

-- the request that waits has another number
pub renumbered : (x : Numbering) (r : Request) (q : model.Request) → Some q ≡ pending_meaning (Some r) → Some (record q { numbering = numbering_meaning x }) ≡ pending_meaning (Some (record r { numbering = Some x }))
renumbered x r q is = ap (λ (y : model.Request). Some (record y { numbering = numbering_meaning x })) (sym (waits_last r.numbering (request_meaning r) q is))
