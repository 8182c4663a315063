-- What a listener answers to the caller's INIT, and that the caller reads in it the terms which the cookie names.
use Rattle.std.proofs.Common.{◌≡◌, ℕ, ◌^◌, ◌<◌, ◌≤◌, min, List, [], ◌∷◌, ◌++◌, length, Some, refl, sym, subst, ap, arith, ◌∙◌, Bool, true, false, ◌&&◌, if◌then◌else◌}
use Rattle.std.proofs.Math.Nat.{min-le_left, le-min}
use Rattle.sctp_model.specs.numbers.Limits.{STREAM_LIMIT}
use Rattle.sctp_model.specs.numbers.Lists.{Has}
use Rattle.sctp_model.specs.wire.Typed.{Typed}
use Rattle.sctp_model.specs.wire.Chunk.{InitMeaning, InitAck}
use Rattle.sctp_model.specs.end.Sealing.{Body}
use Rattle.sctp_model.specs.end.EndView.{Configuration, Draw, EndView, IsDraw}
use Rattle.sctp_model.specs.end.Configured.{IsConfiguration}
use Rattle.sctp_model.specs.end.Reports.{written, item, fits_alone, as_fit}
use Rattle.sctp_model.specs.end.Options.{STATE_COOKIE, value_of, own_options, reports_of, said_to, agreed_interleave, agreed_partial, agreed_reset, agreed_zero_checksum}
use Rattle.sctp_model.specs.end.Opening.{introduction, body_for, init_ack_with, init_ack, terms_of_ack, terms_of_body}
use Rattle.sctp_model.specs.world.World.{Side, A, B, Setup, configuration_of}
use Rattle.sctp_safety.specs.Agreement.{AreAgreed}
use Rattle.sctp_safety.proofs.machine.OwnOptions.{nothing_to_report, interleave_read, partial_read, cookie_read_back, interleave_behind, partial_behind, reset_read, reset_behind, zero_read, zero_behind, both_ways}

-- The INIT that a caller of this draw sends.
abbrev pub init_of : Setup → Draw → InitMeaning
init_of s d = introduction (configuration_of s A) d (written (own_options (configuration_of s A)))

-- An INIT ACK that answers it: there is a body whose seal is its cookie and opens again, and which says what the caller makes of the INIT ACK.
pub record IsAnswer (s : Setup) (drawn : List ℕ) (d : Draw) (m : InitMeaning) : Type 0 where
  pub body : Body
  pub cookie : value_of STATE_COOKIE m.parameters ≡ Some (s.sealing.sealed body)
  pub opens : s.sealing.opened (s.sealing.sealed body) ≡ Some body
  pub agreed : AreAgreed (terms_of_ack (configuration_of s A) d m) (terms_of_body body)
  pub listener_tag : body.listener.tag ≡ m.tag
  pub caller_tag : body.caller.tag ≡ d.tag
  pub drawn_tag : Has drawn m.tag

-- what both are set up for, if the listener says what it is set up for, or what was agreed on
said_so : (strict a b x : Bool) → x ≡ (b && a) → (a && (if strict then x else b)) ≡ (b && a)
said_so false a b x is = both_ways a b
said_so true a b x is = ap (λ (y : Bool). a && y) is ∙ again a b
  where
    again : (a b : Bool) → (a && (b && a)) ≡ (b && a)
    again false false = refl
    again false true = refl
    again true false = refl
    again true true = refl

-- two counts that aren't 0
pub both_some : (n m : ℕ) → 1 ≤ n → 1 ≤ m → 0 < min n m
both_some n m a b = le-min {k = 1} {a = n} {b = m} a b

-- a count of streams has 16 bits
few : (n m : ℕ) → n ≤ STREAM_LIMIT → min n m < 2 ^ 16
few n m b = let c = min-le_left n m in omega (arith, b, c)

module _ (s : Setup) (configured : (x : Side) → IsConfiguration (configuration_of s x)) (drawn : List ℕ) (d x : Draw) (dd : IsDraw d) (dx : IsDraw x) where
  -- a listener's end, as far as it matters here
  module _ (e : EndView) (now : e.moment < 2 ^ 64) where
    abbrev listener : EndView
    listener = record e { configuration = configuration_of s B }

    abbrev body : Body
    body = body_for listener x (init_of s d)

    -- what the listener says of itself
    abbrev said : Configuration
    said = said_to (configuration_of s B) (init_of s d).parameters

    abbrev parameters : List ℕ
    parameters = written (item STATE_COOKIE (s.sealing.sealed body) ∷ (own_options said ++ []))

    abbrev answer : InitMeaning
    answer = introduction (configuration_of s B) x parameters

    short : length (s.sealing.sealed body) < 100
    short = let e = s.sealing.size body in omega (arith, e)

    in_range : s.sealing.opened (s.sealing.sealed body) ≡ Some body
    in_range =
        let a = configured A in
        let b = configured B in
        s.sealing.opens body (record {
          moment = now;
          parties = (record { port = b.own_port.1; tag = dx.tag; tsn = dx.tsn }, record { port = b.peer_port.1; tag = dd.tag; tsn = dd.tsn });
          window = (let c = a.buffer.1 in omega (arith, c));
          counts = (few (configuration_of s B).outbound (configuration_of s A).inbound (b.outbound.1), few (configuration_of s A).outbound (configuration_of s B).inbound (a.outbound.1));
        })

    agreed : AreAgreed (terms_of_ack (configuration_of s A) d answer) (terms_of_body body)
    agreed =
        let a = configured A in
        let b = configured B in
        record {
          first_tsn = refl;
          first_tsn_back = refl;
          streams = refl;
          streams_back = refl;
          interleave =
              let read = interleave_read (configuration_of s B) (configuration_of s A) in
              read ∙ sym (said_so (configuration_of s B).strict (configuration_of s A).interleave (configuration_of s B).interleave (agreed_interleave (configuration_of s B) (init_of s d).parameters) read)
              ∙ sym (interleave_behind (configuration_of s A) said (s.sealing.sealed body) short);
          partial =
              let read = partial_read (configuration_of s B) (configuration_of s A) in
              read ∙ sym (said_so (configuration_of s B).strict (configuration_of s A).partial (configuration_of s B).partial (agreed_partial (configuration_of s B) (init_of s d).parameters) read)
              ∙ sym (partial_behind (configuration_of s A) said (s.sealing.sealed body) short);
          reset =
              let read = reset_read (configuration_of s B) (configuration_of s A) in
              read ∙ sym (said_so (configuration_of s B).strict (configuration_of s A).reset (configuration_of s B).reset (agreed_reset (configuration_of s B) (init_of s d).parameters) read)
              ∙ sym (reset_behind (configuration_of s A) said (s.sealing.sealed body) short);
          zero_checksum =
              let read = zero_read (configuration_of s B) (configuration_of s A) in
              read ∙ sym (said_so (configuration_of s B).strict (configuration_of s A).zero_checksum (configuration_of s B).zero_checksum (agreed_zero_checksum (configuration_of s B) (init_of s d).parameters) read)
              ∙ sym (zero_behind (configuration_of s A) said (s.sealing.sealed body) short);
          some_streams = (both_some (configuration_of s A).outbound (configuration_of s B).inbound (a.outbound.0) (b.inbound.0), both_some (configuration_of s B).outbound (configuration_of s A).inbound (b.outbound.0) (a.inbound.0));
        }

    pub is_answer : Has drawn x.tag → IsAnswer s drawn d answer
    is_answer tag = record {
      body = body;
      cookie = cookie_read_back (configuration_of s A) said (s.sealing.sealed body) short;
      opens = in_range;
      agreed = agreed;
      listener_tag = refl;
      caller_tag = refl;
      drawn_tag = tag;
    }

    -- nothing of the caller's INIT is reported, so the answer is this one
    answered : init_ack s.sealing listener x (init_of s d) ≡ InitAck answer
    answered =
        ap (λ (ys : List Typed). init_ack_with s.sealing listener x (init_of s d) (as_fit (λ xs. fits_alone listener (init_ack_with s.sealing listener x (init_of s d) xs)) [] (reports_of ys)))
        (nothing_to_report (configuration_of s A))

  -- The INIT ACK of a listener that is set up so.
  pub init_answered : (e : EndView) → e.configuration ≡ configuration_of s B → e.moment < 2 ^ 64 → Has drawn x.tag →
      (m : InitMeaning) → init_ack s.sealing e x (init_of s d) ≡ InitAck m → IsAnswer s drawn d m
  init_answered e same now tag m is = subst (IsAnswer s drawn d) given (is_answer e now tag)
    where
      given : answer e now ≡ m
      given =
          let q : InitAck (answer e now) ≡ InitAck m = sym (answered e now) ∙ sym (ap (λ (c : Configuration). init_ack s.sealing (record e { configuration = c }) x (init_of s d)) same) ∙ is in
          cc
