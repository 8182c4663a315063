-- The run: two messages, the reset of both halves of their stream, and a message of its next channel. The reset lies between messages, and is reported.
use Rattle.std.proofs.Common.{ℕ, ◌<◌, List, [], ◌∷◌, drop, Option, Some, inl, inr, refl, subst, arith}
use Rattle.sctp_model.specs.numbers.Lists.{Has}
use Rattle.sctp_model.specs.numbers.Numbers.{u16_bytes, u32_bytes, u16_at, u32_at}
use Rattle.sctp_model.specs.wire.Typed.{typed_of, starts_typed}
use Rattle.sctp_model.specs.wire.Chunk.{Data, Sack}
use Rattle.sctp_model.specs.wire.Packet.{size_of_packet}
use Rattle.sctp_model.specs.wire.Reconfig.{reconfig_chunk}
use Rattle.sctp_model.specs.end.UserCalls.{Ticket}
use Rattle.sctp_model.specs.world.World.{A, B, World, start}
use Rattle.sctp_model.specs.world.Events.{Event, OpenBoth, Send, Take, Reset, WasReset, Build, Deliver, Outcome, Done, Told, Message, Sent, Acted, ResetThere}
use Rattle.sctp_model.specs.world.Steps.{PassesThrough}
use Rattle.sctp_outcomes.specs.Users.{Exchange, exchange, Match, IsMatch}
use Rattle.sctp_outcomes.specs.Parted.{TakesToldOnly, AreMatched}
use Rattle.sctp_outcomes.specs.AllReported.{HearsToldOnly, AResetLiesBetween}
use Rattle.sctp_outcomes.proofs.stories.Small.{of_a, of_b}
use Rattle.sctp_outcomes.proofs.stories.Ours.{premises_of_ours}
use Rattle.sctp_outcomes.proofs.stories.TwoResets.{resetting, configured, opens}
use Rattle.sctp_outcomes.proofs.stories.TwoMessages.{content, piece, taken, sack, r0, r1, r2, r3, r4, r5, r6, r7, r8, r9, r10, step_1, step_2, step_3, step_4, step_5, step_6, step_7, step_8, step_9, step_10}
use Rattle.sctp_outcomes.proofs.stories.Reused.{request, response, request_back, response_back, r11, r12, r13, r14, r15, r16, r17, r18, r19, r20, r21, r22, r23, r24, step_11, step_12, step_13, step_14, step_15, step_16, step_17, step_18, step_19, step_20, step_21, step_22, step_23, step_24}

-- ---- the run

abbrev pub events : List Event
events =
    OpenBoth of_a of_b ∷ Send A (content 97) ∷ Build A ∷ Deliver A 1 ∷ Take B 0 ∷ Send A (content 98) ∷ Build A ∷ Deliver A 2 ∷ Take B 0 ∷ Build B ∷ Deliver B 1 ∷ Reset A 0 ∷ Build A
    ∷ Deliver A 3 ∷ WasReset B ∷ Reset B 0 ∷ Build B ∷ Deliver B 2 ∷ WasReset A ∷ Build A ∷ Deliver A 4 ∷ Send A (content 99) ∷ Build A ∷ Deliver A 5 ∷ Take B 0 ∷ []

abbrev pub answers : List (Option Outcome)
answers =
    Some Done ∷ Some (Told (Ticket 1)) ∷ Some (Sent 1 (size_of_packet (Data (piece 100 0 97) ∷ []))) ∷ Some Acted ∷ Some (Message (taken 1 0 97)) ∷ Some (Told (Ticket 2))
    ∷ Some (Sent 2 (size_of_packet (Data (piece 101 1 98) ∷ []))) ∷ Some Acted ∷ Some (Message (taken 2 1 98)) ∷ Some (Sent 1 (size_of_packet (Sack sack ∷ []))) ∷ Some Acted ∷ Some Done
    ∷ Some (Sent 3 (size_of_packet (reconfig_chunk request ∷ []))) ∷ Some Acted ∷ Some (ResetThere 0 0) ∷ Some Done
    ∷ Some (Sent 2 (size_of_packet (reconfig_chunk response ∷ reconfig_chunk request_back ∷ []))) ∷ Some Acted ∷ Some (ResetThere 0 0)
    ∷ Some (Sent 4 (size_of_packet (reconfig_chunk response_back ∷ []))) ∷ Some Acted ∷ Some (Told (Ticket 3)) ∷ Some (Sent 5 (size_of_packet (Data (piece 102 0 99) ∷ []))) ∷ Some Acted
    ∷ Some (Message (taken 3 2 99)) ∷ []

abbrev pub worlds : List World
worlds = r0 ∷ r1 ∷ r2 ∷ r3 ∷ r4 ∷ r5 ∷ r6 ∷ r7 ∷ r8 ∷ r9 ∷ r10 ∷ r11 ∷ r12 ∷ r13 ∷ r14 ∷ r15 ∷ r16 ∷ r17 ∷ r18 ∷ r19 ∷ r20 ∷ r21 ∷ r22 ∷ r23 ∷ r24 ∷ []

passes_17 : PassesThrough r16 (drop 17 events) (drop 17 answers) (drop 17 worlds)
unfolding u16_bytes u32_bytes u16_at u32_at starts_typed typed_of
passes_17 = (step_17, (step_18, (step_19, (step_20, (step_21, (step_22, (step_23, (step_24, tt))))))))

passes_9 : PassesThrough r8 (drop 9 events) (drop 9 answers) (drop 9 worlds)
unfolding u16_bytes u32_bytes u16_at u32_at starts_typed typed_of
passes_9 = (step_9, (step_10, (step_11, (step_12, (step_13, (step_14, (step_15, (step_16, passes_17))))))))

pub passes : PassesThrough (start resetting) events answers worlds
unfolding u16_bytes u32_bytes u16_at u32_at starts_typed typed_of
passes = (opens, (step_1, (step_2, (step_3, (step_4, (step_5, (step_6, (step_7, (step_8, passes_9)))))))))

-- ---- each reset is asked for in time

hears_17 : HearsToldOnly B 0 r16 (drop 17 events) (drop 17 worlds)
unfolding u16_bytes u32_bytes u16_at u32_at starts_typed typed_of
hears_17 = (inl refl, (inl refl, (inl refl, (inr (inl refl), (inl refl, (inl refl, (inr (inl refl), (inl refl, tt))))))))

hears_9 : HearsToldOnly B 0 r8 (drop 9 events) (drop 9 worlds)
unfolding u16_bytes u32_bytes u16_at u32_at starts_typed typed_of
hears_9 = (inl refl, (inl refl, (inl refl, (inl refl, (inr (inl refl), (inl refl, (inl refl, (inl refl, hears_17))))))))

hears : HearsToldOnly B 0 (start resetting) events worlds
unfolding u16_bytes u32_bytes u16_at u32_at starts_typed typed_of
hears = (inl refl, (inl refl, (inl refl, (inr (inl refl), (inl refl, (inl refl, (inl refl, (inr (inl refl), (inl refl, hears_9)))))))))

takes_17 : TakesToldOnly B 0 (drop 17 events) (drop 17 answers) (drop 17 worlds)
unfolding u16_bytes u32_bytes u16_at u32_at starts_typed typed_of
takes_17 = (inl refl, (inl refl, (inl refl, (inl refl, (inl refl, (inl refl, (inl refl, (inr refl, tt))))))))

takes_9 : TakesToldOnly B 0 (drop 9 events) (drop 9 answers) (drop 9 worlds)
unfolding u16_bytes u32_bytes u16_at u32_at starts_typed typed_of
takes_9 = (inl refl, (inl refl, (inl refl, (inl refl, (inl refl, (inl refl, (inl refl, (inl refl, takes_17))))))))

takes : TakesToldOnly B 0 events answers worlds
unfolding u16_bytes u32_bytes u16_at u32_at starts_typed typed_of
takes = (inl refl, (inl refl, (inl refl, (inl refl, (inr refl, (inl refl, (inl refl, (inl refl, (inr refl, takes_9)))))))))

-- ---- what is delivered

-- a message that was taken, and the call of `send` that it is of
abbrev match : (first number byte ticket : ℕ) → Match
match i k b t = record { message = taken i k b; sent = record { ticket = t; call = content b } }

abbrev matches : List Match
matches = match 1 0 97 1 ∷ match 2 1 98 2 ∷ match 3 2 99 3 ∷ []

abbrev both : Exchange
both = exchange A 0 events answers r24

are_matched : AreMatched both matches
unfolding u16_bytes u32_bytes u16_at u32_at starts_typed typed_of
are_matched = record {
  all = refl;
  each = each;
  once = (λ y has same. let late = after_one y has in omega (arith, late, same), (λ y has same. let late = after_two y has in omega (arith, late, same), (λ y has. absurd has, tt)));
  in_order = (λ y has on off. after_one y has, (λ y has on off. after_two y has, (λ y has. absurd has, tt)));
}
  where
    each : (m : Match) → Has matches m → IsMatch both m
    each m (inl is) = subst (IsMatch both) is (record { was_sent = record { accepted = inl refl; stream = refl }; lane = refl; payload = refl; bytes = refl })
    each m (inr (inl is)) = subst (IsMatch both) is (record { was_sent = record { accepted = inr (inl refl); stream = refl }; lane = refl; payload = refl; bytes = refl })
    each m (inr (inr (inl is))) = subst (IsMatch both) is (record { was_sent = record { accepted = inr (inr (inl refl)); stream = refl }; lane = refl; payload = refl; bytes = refl })
    each m (inr (inr (inr none))) = absurd none

    after_one : (y : Match) → Has (match 2 1 98 2 ∷ match 3 2 99 3 ∷ []) y → 1 < y.sent.ticket
    after_one y (inl is) = subst (λ (m : Match). 1 < m.sent.ticket) is (omega arith)
    after_one y (inr (inl is)) = subst (λ (m : Match). 1 < m.sent.ticket) is (omega arith)
    after_one y (inr (inr none)) = absurd none

    after_two : (y : Match) → Has (match 3 2 99 3 ∷ []) y → 2 < y.sent.ticket
    after_two y (inl is) = subst (λ (m : Match). 2 < m.sent.ticket) is (omega arith)
    after_two y (inr none) = absurd none

pub a_reset_lies_between : AResetLiesBetween
unfolding u16_bytes u32_bytes u16_at u32_at starts_typed typed_of
a_reset_lies_between = record {
  setup = resetting;
  configured = configured;
  events = events;
  answers = answers;
  worlds = worlds;
  passes = passes;
  premises = premises_of_ours resetting.sealing events refl;
  hears = hears;
  takes = takes;
  begun = refl;
  reported = refl;
  matches = matches;
  matched = are_matched;
  between = record {
    before = match 2 1 98 2;
    behind = match 3 2 99 3;
    one = refl;
    other_one = refl;
    reset = inr (inr (inr (inr (inr (inr (inr (inr (inr (inr (inr (inl (refl, refl))))))))))));
    old = omega arith;
    new = omega arith;
  };
}
