-- How an association begins: INIT, INIT ACK, COOKIE ECHO, COOKIE ACK (RFC 9260, 5.1).
use Rattle.std.specs.Prelude.{◌≡◌, ℕ, ◌-◌, ◌*◌, ◌^◌, ◌<◌, ◌⊎◌, min, nat_le, Bool, true, false, not, ◌&&◌, ◌||◌, ◌==◌, if◌then◌else◌, List, [], ◌∷◌, ◌++◌}
use Rattle.std.specs.Prelude.{Option, Some, None}
use Rattle.sctp_model.specs.messages.Framing.{header_of}
use Rattle.sctp_model.specs.numbers.Limits.{COOKIE_LIFE, LONGEST_WAIT}
use Rattle.sctp_model.specs.numbers.Numbers.{u16_bytes, u32_bytes}
use Rattle.sctp_model.specs.wire.Typed.{Typed, typed_in}
use Rattle.sctp_model.specs.wire.Unknown.{parameters_reported}
use Rattle.sctp_model.specs.wire.Chunk.{InitMeaning, ChunkMeaning, Init, InitAck, CookieEcho, Error}
use Rattle.sctp_model.specs.wire.Packet.{size_of_packet}
use Rattle.sctp_model.specs.sender.Words.{when}
use Rattle.sctp_model.specs.sender.SenderView.{fresh_sender}
use Rattle.sctp_model.specs.receiver.ReceiverView.{fresh_receiver}
use Rattle.sctp_model.specs.end.Sealing.{Body, Sealing}
use Rattle.sctp_model.specs.end.Pacing.{Pace, fresh_pace}
use Rattle.sctp_model.specs.end.EndView.{Terms, Configuration, first_offer, send_limits, Draw, Tags, AbortedHere, Stage, Established, Phase, Idle, Calling, Echoing, Open}
use Rattle.sctp_model.specs.end.EndView.{Role, Caller, Paired, Listener, CookieAlarm, EndView, fresh_end, format_for}
use Rattle.sctp_model.specs.end.Clock.{turned, closed, echo_trip, measured}
use Rattle.sctp_model.specs.end.Beating.{beating}
use Rattle.sctp_model.specs.end.Closing.{with_due, takes_cookies, hears}
use Rattle.sctp_model.specs.end.Reports.{written, item, fits_alone, causes_with, as_fit, MISSING_PARAMETER, OUT_OF_RESOURCE, INVALID_PARAMETER}
use Rattle.sctp_model.specs.end.Reports.{UNRECOGNIZED_PARAMETERS}
use Rattle.sctp_model.specs.end.Options.{STATE_COOKIE, value_of, agreed_interleave, agreed_partial, agreed_reset, own_options, reports_of, said_to}
use Rattle.sctp_model.specs.end.Options.{agreed_zero_checksum}
pub use Rattle.sctp_model.specs.end.Joining.{tags_between, pace_for, joined, terms_of_ack, terms_of_body, terms_alike}
use Rattle.sctp_model.specs.end.PeerFaults.{TAG, COOKIE, Unnoted, After, GoesOn, PassedOver, Replies, Drops, packet_to, abort_for}

-- ---- an association that begins

-- an endpoint that is opened without packets: established at once, its peer's window its own
abbrev pub opened : Configuration → Draw → Draw → EndView
opened c own peer = beating (record (joined (terms_alike c own peer) (first_offer c) (fresh_end c Paired Idle)) { phase = Open (tags_between own peer) Established })

-- ---- INIT (5.1.1)

-- What an endpoint says of itself to one that it wants an association with, in INIT and in INIT ACK alike: its tag and first TSN, its receiver window, its
-- streams (3.3.2).
abbrev pub introduction : Configuration → Draw → List ℕ → InitMeaning
introduction c d parameters =
    record { tag = d.tag; rwnd = first_offer c; outbound = c.outbound; inbound = c.inbound; tsn = d.tsn; parameters = parameters }

-- the caller's INIT (3.3.2): of parameters it has its options alone
abbrev pub own_init : Configuration → Draw → ChunkMeaning
own_init c d = Init (introduction c d (written (own_options c)))

-- it offers or takes no stream (3.3.2)
abbrev pub has_no_stream : InitMeaning → Bool
has_no_stream m = (m.outbound == 0) || (m.inbound == 0)

-- The body of the cookie that answers an INIT: what the listener would remember, if it did (5.1.3).
abbrev pub body_for : EndView → Draw → InitMeaning → Body
body_for e d m =
    let c = e.configuration in record {
      made = e.moment;
      listener = record { port = c.own_port; tag = d.tag; tsn = d.tsn };
      caller = record { port = c.peer_port; tag = m.tag; tsn = m.tsn };
      rwnd = m.rwnd;
      to_caller = min c.outbound m.inbound;
      from_caller = min m.outbound c.inbound;
      partial = agreed_partial c m.parameters;
      interleave = agreed_interleave c m.parameters;
      reset = agreed_reset c m.parameters;
      zero_checksum = agreed_zero_checksum c m.parameters;
    }

-- the INIT ACK that holds these reports: the first parameter is the cookie, then the listener's options (3.3.3)
abbrev pub init_ack_with : Sealing → EndView → Draw → InitMeaning → List Typed → ChunkMeaning
init_ack_with s e d m reports =
    let options = own_options (said_to e.configuration m.parameters) in
    InitAck (introduction e.configuration d (written (item STATE_COOKIE (s.sealed (body_for e d m)) ∷ (options ++ reports))))

-- the unknown parameters of the INIT are reported as far as they fit (3.2.2)
abbrev pub init_ack : Sealing → EndView → Draw → InitMeaning → ChunkMeaning
init_ack s e d m =
    init_ack_with s e d m (as_fit (λ xs. fits_alone e (init_ack_with s e d m xs)) [] (reports_of (parameters_reported (typed_in m.parameters))))

-- ---- INIT ACK (5.1.2)

-- the cause for a missing State Cookie (3.3.10.2)
abbrev pub missing_cookie : Typed
missing_cookie = item MISSING_PARAMETER (u32_bytes 1 ++ u16_bytes STATE_COOKIE)

-- why an INIT ACK is refused: no stream (3.3.3), no cookie, or one too large to echo in one packet (5.1.2)
abbrev pub ack_fault : EndView → InitMeaning → Option (List ℕ) → Option Typed
ack_fault e m None = Some (if has_no_stream m then item INVALID_PARAMETER [] else missing_cookie)
ack_fault e m (Some xs) =
    if has_no_stream m then Some (item INVALID_PARAMETER [])
    else if fits_alone e (CookieEcho xs) then None
    else Some (item OUT_OF_RESOURCE [])

-- the unknown parameters of an INIT ACK are reported in one cause (3.3.10.8), as a list, as far as the ERROR fits
abbrev pub causes_with_all : EndView → List Typed → List Typed
causes_with_all e [] = e.due.causes
causes_with_all e (x ∷ xs) = causes_with e (item UNRECOGNIZED_PARAMETERS (written (x ∷ xs)))

-- the ERROR of what waits and of these parameters fits a packet
abbrev pub fits_in_error : EndView → List Typed → Bool
fits_in_error e xs = fits_alone e (Error (written (e.due.causes ++ item UNRECOGNIZED_PARAMETERS (written xs) ∷ [])))

-- the causes that wait once an INIT ACK was read
abbrev pub ack_causes : EndView → InitMeaning → List Typed
ack_causes e m = causes_with_all e (as_fit (fits_in_error e) [] (parameters_reported (typed_in m.parameters)))

-- The caller has both tags and all terms now: it joins, and the cookie is to go back (5.1, C).
abbrev pub echoing : EndView → Draw → InitMeaning → List ℕ → EndView
echoing e d m xs =
    let t = turned (Echoing (record { own = d.tag; peer = m.tag }) xs) (joined (terms_of_ack e.configuration d m) m.rwnd e) in
    with_due (record t.due { cookie_echo = true; causes = ack_causes e m }) t

-- COOKIE-WAIT (4)
abbrev pub is_calling : Phase → Bool
is_calling (Calling d) = true
is_calling h = false

-- What an INIT ACK does (5.1, C): a caller takes the first that it may, and passes over all that arrive later, as it waits for none any more (5.2.3).
pub data InitAckActs (e : EndView) (m : InitMeaning) : After → Type 0 where
  NotCalling : is_calling e.phase ≡ false → InitAckActs e m PassedOver
  NoTag : (d : Draw) → e.phase ≡ Calling d → m.tag ≡ 0 → InitAckActs e m (Drops TAG)
  RefusedAck : (d : Draw) (x : Typed) → e.phase ≡ Calling d → 0 < m.tag → ack_fault e m (value_of STATE_COOKIE m.parameters) ≡ Some x →
      InitAckActs e m (Replies (closed AbortedHere e) (packet_to e.configuration m.tag (abort_for x)))
  AcceptedAck : (d : Draw) (xs : List ℕ) → e.phase ≡ Calling d → 0 < m.tag → value_of STATE_COOKIE m.parameters ≡ Some xs →
      ack_fault e m (Some xs) ≡ None → InitAckActs e m (GoesOn Unnoted (echoing e d m xs))

-- ---- COOKIE ECHO (5.1.5 and 5.2.4)

-- the milliseconds from when a cookie was made to this time; 0 if that was later
abbrev pub age : (moment : ℕ) → Body → ℕ
age moment b = moment - b.made

-- by how many microseconds it outlived its life, as far as the field of 32 bits can say (3.3.10.3)
abbrev pub staleness : (moment : ℕ) → Body → ℕ
staleness moment b = min ((age moment b - COOKIE_LIFE) * 1000) (2 ^ 32 - 1)

-- The cookie was made for this pair of ports, and for the tag under which it was returned (5.1.5, item 2).
abbrev pub is_addressed : EndView → ℕ → Body → Bool
is_addressed e tag b =
    (b.listener.port == e.configuration.own_port) && ((b.caller.port == e.configuration.peer_port) && (b.listener.tag == tag))

-- This listener could have made it: one that is set up without stream reset, or without zero checksums, makes no cookie that says so.
abbrev pub is_formed : EndView → Body → Bool
is_formed e b = (e.configuration.reset || not b.reset) && (e.configuration.zero_checksum || not b.zero_checksum)

-- What a listener makes of a cookie (5.1.5): it opens, it would if it weren't too old, or it is nobody's.
pub data CookieRead : Type 0 where
  CookieOpens CookieLate : Body → CookieRead
  Strange : CookieRead

-- what a listener reads in a body, or in none
abbrev pub body_read : EndView → ℕ → Option Body → CookieRead
body_read e tag None = Strange
body_read e tag (Some b) =
    if is_addressed e tag b && is_formed e b then (if nat_le (age e.moment b) COOKIE_LIFE then CookieOpens b else CookieLate b) else Strange

-- what a listener reads in the bytes of a cookie
abbrev pub cookie_read : Sealing → EndView → ℕ → List ℕ → CookieRead
cookie_read s e tag xs = body_read e tag (s.opened xs)

-- The tags that a cookie names, as its listener sees them.
abbrev pub tags_of_body : Body → Tags
tags_of_body b = record { own = b.listener.tag; peer = b.caller.tag }

-- the time from an INIT ACK to its cookie, which is a round trip, or longer if a COOKIE ECHO was lost (6.3.1)
abbrev pub cookie_trip : (moment : ℕ) → Body → ℕ
cookie_trip moment b = min (age moment b) LONGEST_WAIT

-- The listener joins on the terms of its cookie, and a COOKIE ACK is due (5.1, D).
abbrev pub begun : Body → EndView → EndView
begun b e =
    let x = turned (Open (tags_of_body b) Established) (joined (terms_of_body b) b.rwnd e) in
    let t = beating (measured (Some (cookie_trip e.moment b)) e.configuration.first_wait x) in
    with_due (record t.due { cookie_ack = true }) t

-- the two tags are the association's
abbrev pub has_tags : Tags → Body → Bool
has_tags t b = (b.listener.tag == t.own) && (b.caller.tag == t.peer)

-- the cookie is the association's own, however old
abbrev pub is_ours : Tags → CookieRead → Bool
is_ours t (CookieOpens b) = has_tags t b
is_ours t (CookieLate b) = has_tags t b
is_ours t Strange = false

-- the seal of a listener
abbrev pub seal_in : Role → Option Sealing
seal_in (Listener s) = Some s
seal_in Caller = None
seal_in Paired = None

-- What a COOKIE ECHO does if the association is there already: its COOKIE ACK may have been lost, so it is sent once more (5.2.4).
pub data EchoActs (e : EndView) (tag : ℕ) (xs : List ℕ) : After → Type 0 where
  NotHere : (seal_in e.role ≡ None) ⊎ (hears takes_cookies e.phase ≡ false) → EchoActs e tag xs PassedOver
  EchoedAgain : (s : Sealing) (t : Tags) (g : Stage) → seal_in e.role ≡ Some s → e.phase ≡ Open t g → takes_cookies g ≡ true →
      is_ours t (cookie_read s e tag xs) ≡ true → EchoActs e tag xs (GoesOn Unnoted (with_due (record e.due { cookie_ack = true }) e))
  IsStrange : (s : Sealing) (t : Tags) (g : Stage) → seal_in e.role ≡ Some s → e.phase ≡ Open t g → takes_cookies g ≡ true →
      is_ours t (cookie_read s e tag xs) ≡ false → EchoActs e tag xs (Drops COOKIE)

-- ---- COOKIE ACK (5.1, E)

-- COOKIE-ECHOED (4)
abbrev pub is_echoing : Phase → Bool
is_echoing (Echoing t xs) = true
is_echoing h = false

-- The caller's association begins: its COOKIE ECHO is acknowledged (5.1, E).
abbrev pub acknowledged_echo : Tags → EndView → EndView
acknowledged_echo t e =
    let trip = echo_trip e.configuration.first_wait e.moment (e.timers CookieAlarm) in
    beating (measured trip (e.timers CookieAlarm).wait (turned (Open t Established) e))

-- What a COOKIE ACK does (5.1, E).
pub data CookieAckActs (e : EndView) : After → Type 0 where
  NotEchoing : is_echoing e.phase ≡ false → CookieAckActs e PassedOver
  CookieAcked : (t : Tags) (xs : List ℕ) → e.phase ≡ Echoing t xs → CookieAckActs e (GoesOn Unnoted (acknowledged_echo t e))
