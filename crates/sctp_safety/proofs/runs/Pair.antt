-- Two endpoints that have met: both directions between them, and what each endpoint's chunks say of both.
use Rattle.std.proofs.Common.{◌≡◌, ℕ, ◌≤◌, ◌⊎◌, Bool, true, false, List, ◌++◌, inl, inr, refl, sym, subst}
use Rattle.sctp_model.specs.numbers.Lists.{Has}
use Rattle.sctp_model.specs.wire.Chunk.{ChunkMeaning, Data, IData, Init, InitAck, Sack, Abort, Shutdown, Error, CookieEcho, ShutdownComplete, ForwardTsn, IForwardTsn, Unknown}
use Rattle.sctp_model.specs.messages.Format.{Format}
use Rattle.sctp_model.specs.sender.SenderView.{SenderView}
use Rattle.sctp_model.specs.receiver.ReceiverView.{ReceiverView}
use Rattle.sctp_model.specs.world.Calls.{Asked}
use Rattle.sctp_model.specs.end.EndView.{Terms, EndView, format_of}
use Rattle.sctp_model.specs.end.Closing.{rested}
use Rattle.sctp_safety.specs.States.{has_agreed}
use Rattle.sctp_safety.proofs.lists.Basics.{Has-cases}
use Rattle.sctp_safety.proofs.machine.EndWords.{rested_cases}
use Rattle.sctp_safety.proofs.runs.Dates.{Date, Dated, all_dated, each_dated}
use Rattle.sctp_safety.proofs.runs.Direction.{with_chunks, Bags, IsSaid, IsSaidBack, Direction}
use Rattle.sctp_safety.proofs.runs.Sending.{said_more}

-- ---- chunks that say nothing of a direction

-- one way: neither data nor a FORWARD
abbrev pub is_quiet : ChunkMeaning → Bool
is_quiet (Data p) = false
is_quiet (IData p) = false
is_quiet (ForwardTsn m) = false
is_quiet (IForwardTsn m) = false
is_quiet (Unknown k f v) = false
is_quiet x = true

-- the other way: neither a SACK nor a SHUTDOWN
abbrev pub is_quiet_back : ChunkMeaning → Bool
is_quiet_back (Sack s) = false
is_quiet_back (Shutdown n) = false
is_quiet_back (Unknown k f v) = false
is_quiet_back x = true

-- those of an opening, and those that end an association: neither way
abbrev pub opens_or_ends : ChunkMeaning → Bool
opens_or_ends (Init m) = true
opens_or_ends (InitAck m) = true
opens_or_ends (Abort t xs) = true
opens_or_ends (Error xs) = true
opens_or_ends (CookieEcho xs) = true
opens_or_ends (ShutdownComplete t) = true
opens_or_ends x = false

-- each of these chunks is such a one
abbrev pub AreOpening : List ChunkMeaning → Type 0
AreOpening xs = (x : ChunkMeaning) → Has xs x → opens_or_ends x ≡ true

pub quiet_says : (f : Format) (i : ℕ) (p : SenderView) (r : ReceiverView) (b : Bags) (since : ℕ) (x : ChunkMeaning) → is_quiet x ≡ true → IsSaid f i p r b since x
quiet_says f i p r b since (Data m) h = absurd (cc)
quiet_says f i p r b since (IData m) h = absurd (cc)
quiet_says f i p r b since (ForwardTsn m) h = absurd (cc)
quiet_says f i p r b since (IForwardTsn m) h = absurd (cc)
quiet_says f i p r b since (Unknown k g v) h = absurd (cc)
quiet_says f i p r b since x h = tt

pub quiet_says_back : (i : ℕ) (r : ReceiverView) (b : Bags) (since : ℕ) (x : ChunkMeaning) → is_quiet_back x ≡ true → IsSaidBack i r b since x
quiet_says_back i r b since (Sack s) h = absurd (cc)
quiet_says_back i r b since (Shutdown n) h = absurd (cc)
quiet_says_back i r b since (Unknown k g v) h = absurd (cc)
quiet_says_back i r b since x h = tt

pub opening_quiet : (x : ChunkMeaning) → opens_or_ends x ≡ true → is_quiet x ≡ true
opening_quiet (Data m) h = absurd (cc)
opening_quiet (IData m) h = absurd (cc)
opening_quiet (ForwardTsn m) h = absurd (cc)
opening_quiet (IForwardTsn m) h = absurd (cc)
opening_quiet (Unknown k f v) h = absurd (cc)
opening_quiet x h = refl

pub opening_quiet_back : (x : ChunkMeaning) → opens_or_ends x ≡ true → is_quiet_back x ≡ true
opening_quiet_back (Sack s) h = absurd (cc)
opening_quiet_back (Shutdown n) h = absurd (cc)
opening_quiet_back (Unknown k f v) h = absurd (cc)
opening_quiet_back x h = refl

-- chunks more that the receiver's end built, and that say nothing of the direction
pub quiet_back_more : (f : Format) (n : ℕ) (a : SenderView) (u : Asked) (r : ReceiverView) (out back : List Dated) (d : Direction f n a u r out back)
    (xs : List Dated) → ((x : Dated) → Has xs x → is_quiet_back x.chunk ≡ true) → Direction f n a u r out (back ++ xs)
quiet_back_more f n a u r out back d xs quiet = with_chunks f n a u r out back d out (back ++ xs) d.said (λ x has. which x (Has-cases back xs x has))
  where
    which : (x : Dated) → Has back x ⊎ Has xs x → IsSaidBack r.initial r d.bags x.date.there x.chunk
    which x (inl h) = d.said_back x h
    which x (inr h) = quiet_says_back r.initial r d.bags x.date.there x.chunk (quiet x h)

-- and such that the sender's end built
pub quiet_more : (f : Format) (n : ℕ) (a : SenderView) (u : Asked) (r : ReceiverView) (out back : List Dated) → Direction f n a u r out back →
    (xs : List Dated) → ((x : Dated) → Has xs x → is_quiet x.chunk ≡ true) → Direction f n a u r (out ++ xs) back
quiet_more f n a u r out back d xs quiet = said_more f n a u r out back d xs (λ x has. quiet_says f a.initial a r d.bags x.date.own x.chunk (quiet x has))

-- ---- both directions

-- `u` and `v` are what the users asked for, `out` and `back` the chunks that the endpoint and its peer ever built. Neither endpoint's time is past the
-- clock.
pub record IsMet (e p : EndView) (u v : Asked) (out back : List Dated) : Type 0 where
  pub going : Direction (format_of e) e.terms.outbound e.sender u p.receiver out back
  pub coming : Direction (format_of p) p.terms.outbound p.sender v e.receiver back out
  pub format : format_of e ≡ format_of p
  pub phase : has_agreed e.phase ≡ true
  pub phase_there : has_agreed p.phase ≡ true
  pub moment : e.moment ≤ u.clock
  pub moment_there : p.moment ≤ v.clock

pub turned_round : (e p : EndView) (u v : Asked) (out back : List Dated) → IsMet e p u v out back → IsMet p e v u back out
turned_round e p u v out back m = record {
  going = m.coming;
  coming = m.going;
  format = sym m.format;
  phase = m.phase_there;
  phase_there = m.phase;
  moment = m.moment_there;
  moment_there = m.moment;
}

-- an endpoint with these views, once its chunks are these
pub met_views : (e p : EndView) (u v : Asked) (out back more : List Dated) → IsMet e p u v out back → (a : SenderView) (r : ReceiverView) →
    Direction (format_of e) e.terms.outbound a u p.receiver more back → Direction (format_of p) p.terms.outbound p.sender v r back more →
    IsMet (record e { sender = a; receiver = r }) p u v more back
met_views e p u v out back more m a r going coming = record {
  going = going;
  coming = coming;
  format = m.format;
  phase = m.phase;
  phase_there = m.phase_there;
  moment = m.moment;
  moment_there = m.moment_there;
}

-- the same views, terms and time
pub record AreViews (e t : EndView) : Type 0 where
  pub terms : t.terms ≡ e.terms
  pub sender : t.sender ≡ e.sender
  pub receiver : t.receiver ≡ e.receiver
  pub moment : t.moment ≡ e.moment

pub views_same : (e : EndView) → AreViews e e
views_same e = record { terms = refl; sender = refl; receiver = refl; moment = refl }

pub met_same : (e t p : EndView) (u v : Asked) (out back : List Dated) → IsMet e p u v out back → AreViews e t → has_agreed t.phase ≡ true → IsMet t p u v out back
met_same e t p u v out back m same phase = record {
  going = subst (λ (x : Terms). Direction (format_of (record t { terms = x })) x.outbound t.sender u p.receiver out back) (sym same.terms)
      (subst (λ (a : SenderView). Direction (format_of e) e.terms.outbound a u p.receiver out back) (sym same.sender) m.going);
  coming = subst (λ (r : ReceiverView). Direction (format_of p) p.terms.outbound p.sender v r back out) (sym same.receiver) m.coming;
  format = subst (λ (x : Terms). format_of (record t { terms = x }) ≡ format_of p) (sym same.terms) m.format;
  phase = phase;
  phase_there = m.phase_there;
  moment = subst (λ (n : ℕ). n ≤ u.clock) (sym same.moment) m.moment;
  moment_there = m.moment_there;
}

-- ---- an endpoint at rest

pub views_rested : (e : EndView) → AreViews e (rested e)
views_rested e = rested_cases (λ (t : EndView). AreViews e t) e (views_same e)
    (λ t is d. record { terms = refl; sender = refl; receiver = refl; moment = refl })
    (λ t is d. record { terms = refl; sender = refl; receiver = refl; moment = refl })

pub agreed_rested : (e : EndView) → has_agreed e.phase ≡ true → has_agreed (rested e).phase ≡ true
agreed_rested e h = rested_cases (λ (t : EndView). has_agreed t.phase ≡ true) e h (λ t is d. refl) (λ t is d. refl)

pub met_rested : (e p : EndView) (u v : Asked) (out back : List Dated) → IsMet e p u v out back → IsMet (rested e) p u v out back
met_rested e p u v out back m = met_same e (rested e) p u v out back m (views_rested e) (agreed_rested e m.phase)

-- ---- chunks more

-- the endpoint built chunks that say nothing of either direction
pub met_quiet : (e p : EndView) (u v : Asked) (out back : List Dated) → IsMet e p u v out back → (k : Date) (xs : List ChunkMeaning) → AreOpening xs →
    IsMet e p u v (out ++ all_dated k xs) back
met_quiet e p u v out back m k xs opening =
    met_views e p u v out back (out ++ all_dated k xs) m e.sender e.receiver
    (quiet_more (format_of e) e.terms.outbound e.sender u p.receiver out back m.going (all_dated k xs)
    (each_dated (λ y. is_quiet y.chunk ≡ true) k xs (λ x has. opening_quiet x (opening x has))))
    (quiet_back_more (format_of p) p.terms.outbound p.sender v e.receiver back out m.coming (all_dated k xs)
    (each_dated (λ y. is_quiet_back y.chunk ≡ true) k xs (λ x has. opening_quiet_back x (opening x has))))
