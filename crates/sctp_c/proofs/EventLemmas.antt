-- The next event is told, whether it is a message that is copied at once, or nothing, or is taken and told.
use Rattle.std.proofs.Common.{◌≡◌, ℕ, ◌<◌, ◌-◌, ◌^◌, min, Bool, List, refl, sym, ap, ◌∙◌, subst, arith}
use Rattle.std.specs.Prelude.{Option, Some, None, Ok, IfOk}
use Rattle.sctp_model.specs.end.EndView.{EndView}
use Rattle.sctp_channels.specs.declared.event.Event.{Event}
use Rattle.sctp_channels.specs.declared.event.Event.TheVariants as event
use Rattle.sctp_channels.specs.declared.reading.Written.TheVariants.{Nothing, Message as Copied, Other}
use Rattle.sctp_channels.specs.ChannelsStand.{ChannelsStand}
use Rattle.sctp_channels.specs.Streams.{Table}
use Rattle.sctp_channels.specs.Telling.{Tells}
use Rattle.sctp_c.specs.channels.Events.{plain_event, waits_after, rest_of, WritesNext, TellsNext}
use Rattle.sctp_c.specs.channels.Holds.{TellsIn, next_of}
use Rattle.sctp_c.specs.declared.channels.crossing.SctpChannelEvent.{SctpChannelEvent}
use Rattle.sctp_c.specs.declared.channels.held.Held.{Held}
use Rattle.sctp_c.specs.declared.codes.TheConstants.{OK, NOTHING}

-- as many as 64 bits say
within : (n many : ℕ) → n ≡ many → n < 2 ^ 64 → n ≡ min many (2 ^ 64 - 1)
within n many is small = omega (arith, is, small)

-- a message is copied
pub copied_next : (v : EndView) (x : Table) (h after : Held) (s : ℕ) (text : Bool) (n : ℕ) (e_old e : SctpChannelEvent) (old new : List ℕ)
    → WritesNext v x h.waiting (Copied s text n) after.channels old new → after.waiting ≡ h.waiting
    → e ≡ record (plain_event s 3) { length = n; text = text } → n < 2 ^ 64 → TellsNext v x (Some h) (Some after) OK e_old e old new
copied_next v x h after s text n e_old e old new writes same numbers small = go h.waiting refl writes
  where
    go : (before : Option Event) → h.waiting ≡ before → WritesNext v x before (Copied s text n) after.channels old new → TellsNext v x (Some h) (Some after) OK e_old e old new
    go None none written =
        let next = event.Message s text written.0 in
        record {
          answer = Ok (Some next);
          tells = subst (λ (o : Option Event). Tells (next_of o v x) (Some next) after.channels) (sym none) written.1;
          refused = tt;
          told = record {
            numbers = numbers ∙ ap (λ (k : ℕ). record (plain_event s 3) { length = k; text = text }) (within n _ written.2.counted small);
            narrow = λ few. absurd (omega (arith, few, written.2.fits));
            put = λ large. (refl, written.2.put);
          };
          waits = same ∙ none;
        }
    go (Some other) none written = absurd (cc (written.0))

-- there is none
pub none_next : (v : EndView) (x : Table) (h after : Held) (e : SctpChannelEvent) (old new : List ℕ)
    → WritesNext v x h.waiting Nothing after.channels old new → after.waiting ≡ h.waiting → TellsNext v x (Some h) (Some after) NOTHING e e old new
none_next v x h after e old new writes same = go h.waiting refl writes
  where
    go : (before : Option Event) → h.waiting ≡ before → WritesNext v x before Nothing after.channels old new → TellsNext v x (Some h) (Some after) NOTHING e e old new
    go None none written = record {
      answer = Ok None;
      tells = subst (λ (o : Option Event). Tells (next_of o v x) None after.channels) (sym none) written.0;
      refused = tt;
      told = (refl, refl, written.1);
      waits = same ∙ none;
    }
    go (Some other) none written = absurd (cc (written.0))

-- it is left to be taken: the channels stand for what they stood for
pub left_next : (v : EndView) (x : Table) (before : Option Event) (held : Held) (old mid : List ℕ) → WritesNext v x before Other held.channels old mid → ChannelsStand held.channels v x
left_next v x None held old mid writes = writes.1
left_next v x (Some event) held old mid writes = writes.1

-- and it is taken, and told
pub taken_next : (v : EndView) (x : Table) (h held after : Held) (code : ℕ) (e_old e : SctpChannelEvent) (old mid new : List ℕ) → held.waiting ≡ h.waiting → mid ≡ old
    → TellsNext v x (Some held) (Some after) code e_old e mid new → TellsNext v x (Some h) (Some after) code e_old e old new
taken_next v x h held after code e_old e old mid new same kept tells =
    let next : TellsNext v x (Some held) (Some after) code e_old e old new = subst (λ (bytes : List ℕ). TellsNext v x (Some held) (Some after) code e_old e bytes new) kept tells in
    record {
      answer = next.answer;
      tells = subst (λ (o : Option Event). IfOk next.answer (λ told. TellsIn (next_of o v x) told (Some after))) same next.tells;
      refused = next.refused;
      told = next.told;
      waits = subst (λ (o : Option Event). after.waiting ≡ waits_after next.answer code (rest_of next.answer o)) same next.waits;
    }
