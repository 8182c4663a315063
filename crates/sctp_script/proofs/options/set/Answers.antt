use Rattle.std.proofs.Common.{[], ◌∷◌, List, ℕ, Some, refl, sym, ap, ◌∙◌, subst}
use Rattle.sctp_script.specs.Fields.{ANumber, AMode}
use Rattle.sctp_script.specs.declared.option_name.OptionName.{OptionName}
use Rattle.sctp_script.proofs.OptionsLeave.{IsTaken, none_of_one, first_of_two, second_of_two}
use Rattle.sctp_script.proofs.options.set.Goals as goal

pub returns-in_err-read_u16-in-Limit : goal.returns-in_err-read_u16-in-Limit
returns-in_err-read_u16-in-Limit c =
    subst (λ (o : OptionName). IsTaken o c.args.words.now c.next_word.new.self c.args.settings c.from_residual.result) (sym c.in-Limit.is)
    (c.next_word.result.now ∷ [], c.next_word.ensures, refl, rw c.from_residual.ensures (λ d sets. none_of_one (ANumber 16) _ c.in_err-read_u16-in-Limit.ensures sets.0 sets.1))

pub returns-in_ok-read_u16-in-Limit : goal.returns-in_ok-read_u16-in-Limit
returns-in_ok-read_u16-in-Limit c =
    subst (λ (o : OptionName). IsTaken o c.args.words.now c.next_word.new.self c.args.settings (Some c.with_limit.result)) (sym c.in-Limit.is)
    (c.next_word.result.now ∷ [], c.next_word.ensures, refl, ((c.in_ok-read_u16-in-Limit.field-0, tt), (_, _, refl, c.in_ok-read_u16-in-Limit.ensures, refl), c.with_limit.ensures))

pub returns-in_err-read_u16-in-Fragment : goal.returns-in_err-read_u16-in-Fragment
returns-in_err-read_u16-in-Fragment c =
    subst (λ (o : OptionName). IsTaken o c.args.words.now c.next_word-in-Fragment.new.self c.args.settings c.from_residual-in_err-read_u16-in-Fragment.result) (sym c.in-Fragment.is)
    (c.next_word-in-Fragment.result.now ∷ [], c.next_word-in-Fragment.ensures, refl, rw c.from_residual-in_err-read_u16-in-Fragment.ensures (λ d sets. none_of_one (ANumber 16) _ c.in_err-read_u16-in-Fragment.ensures sets.0 sets.1))

pub returns-in_ok-read_u16-in-Fragment : goal.returns-in_ok-read_u16-in-Fragment
returns-in_ok-read_u16-in-Fragment c =
    subst (λ (o : OptionName). IsTaken o c.args.words.now c.next_word-in-Fragment.new.self c.args.settings (Some c.with_fragment.result)) (sym c.in-Fragment.is)
    (c.next_word-in-Fragment.result.now ∷ [], c.next_word-in-Fragment.ensures, refl, ((c.in_ok-read_u16-in-Fragment.field-0, tt), (_, _, refl, c.in_ok-read_u16-in-Fragment.ensures, refl), c.with_fragment.ensures))

pub returns-in_err-read_u32-in-Buffer : goal.returns-in_err-read_u32-in-Buffer
returns-in_err-read_u32-in-Buffer c =
    subst (λ (o : OptionName). IsTaken o c.args.words.now c.next_word-in-Buffer.new.self c.args.settings c.from_residual-in_err-read_u32-in-Buffer.result) (sym c.in-Buffer.is)
    (c.next_word-in-Buffer.result.now ∷ [], c.next_word-in-Buffer.ensures, refl, rw c.from_residual-in_err-read_u32-in-Buffer.ensures (λ d sets. none_of_one (ANumber 32) _ c.in_err-read_u32-in-Buffer.ensures sets.0 sets.1))

pub returns-in_ok-read_u32-in-Buffer : goal.returns-in_ok-read_u32-in-Buffer
returns-in_ok-read_u32-in-Buffer c =
    subst (λ (o : OptionName). IsTaken o c.args.words.now c.next_word-in-Buffer.new.self c.args.settings (Some c.with_buffer.result)) (sym c.in-Buffer.is)
    (c.next_word-in-Buffer.result.now ∷ [], c.next_word-in-Buffer.ensures, refl, ((c.in_ok-read_u32-in-Buffer.field-0, tt), (_, _, refl, c.in_ok-read_u32-in-Buffer.ensures, refl), c.with_buffer.ensures))

pub returns-in_err-read_mode-in-Mode : goal.returns-in_err-read_mode-in-Mode
returns-in_err-read_mode-in-Mode c =
    subst (λ (o : OptionName). IsTaken o c.args.words.now c.next_word-in-Mode.new.self c.args.settings c.from_residual-in_err-read_mode-in-Mode.result) (sym c.in-Mode.is)
    (c.next_word-in-Mode.result.now ∷ [], c.next_word-in-Mode.ensures, refl, rw c.from_residual-in_err-read_mode-in-Mode.ensures (λ d sets. none_of_one AMode _ c.in_err-read_mode-in-Mode.ensures sets.0 sets.1))

pub returns-in_ok-read_mode-in-Mode : goal.returns-in_ok-read_mode-in-Mode
returns-in_ok-read_mode-in-Mode c =
    subst (λ (o : OptionName). IsTaken o c.args.words.now c.next_word-in-Mode.new.self c.args.settings (Some c.with_mode.result)) (sym c.in-Mode.is)
    (c.next_word-in-Mode.result.now ∷ [], c.next_word-in-Mode.ensures, refl, ((c.in_ok-read_mode-in-Mode.field-0, tt), (_, _, refl, c.in_ok-read_mode-in-Mode.ensures, refl), c.with_mode.ensures))

pub returns-in_err-read_u16-in-Streams : goal.returns-in_err-read_u16-in-Streams
returns-in_err-read_u16-in-Streams c =
    subst (λ (o : OptionName). IsTaken o c.args.words.now c.next_word-inbound.new.self c.args.settings c.from_residual-in_err-read_u16-in-Streams.result) (sym c.in-Streams.is) (
      c.next_word-outbound.result.now ∷ c.next_word-inbound.result.now ∷ [],
      c.next_word-outbound.ensures ∙ ap (λ (ws : List (List ℕ)). c.next_word-outbound.result.now ∷ ws) c.next_word-inbound.ensures,
      refl,
      rw c.from_residual-in_err-read_u16-in-Streams.ensures (λ d sets. first_of_two (ANumber 16) (ANumber 16) _ _ c.in_err-read_u16-in-Streams.ensures sets.0 sets.1),
    )

pub returns-in_err-read_u16-in-Streams-2 : goal.returns-in_err-read_u16-in-Streams-2
returns-in_err-read_u16-in-Streams-2 c =
    subst (λ (o : OptionName). IsTaken o c.args.words.now c.next_word-inbound.new.self c.args.settings c.from_residual-in_err-read_u16-in-Streams-2.result) (sym c.in-Streams.is) (
      c.next_word-outbound.result.now ∷ c.next_word-inbound.result.now ∷ [],
      c.next_word-outbound.ensures ∙ ap (λ (ws : List (List ℕ)). c.next_word-outbound.result.now ∷ ws) c.next_word-inbound.ensures,
      refl,
      rw c.from_residual-in_err-read_u16-in-Streams-2.ensures (λ d sets. second_of_two (ANumber 16) (ANumber 16) _ _ c.in_err-read_u16-in-Streams-2.ensures sets.0 sets.1),
    )

pub returns-in_ok-read_u16-in-Streams-2 : goal.returns-in_ok-read_u16-in-Streams-2
returns-in_ok-read_u16-in-Streams-2 c =
    subst (λ (o : OptionName). IsTaken o c.args.words.now c.next_word-inbound.new.self c.args.settings (Some c.with_streams.result)) (sym c.in-Streams.is) (
      c.next_word-outbound.result.now ∷ c.next_word-inbound.result.now ∷ [],
      c.next_word-outbound.ensures ∙ ap (λ (ws : List (List ℕ)). c.next_word-outbound.result.now ∷ ws) c.next_word-inbound.ensures,
      refl,
      (
        (c.in_ok-read_u16-in-Streams.field-0, (c.in_ok-read_u16-in-Streams-2.field-0, tt)),
        (_, _, refl, c.in_ok-read_u16-in-Streams.ensures, (_, _, refl, c.in_ok-read_u16-in-Streams-2.ensures, refl)),
        c.with_streams.ensures,
      ),
    )

pub returns-in_err-read_u32-in-RtoMin : goal.returns-in_err-read_u32-in-RtoMin
returns-in_err-read_u32-in-RtoMin c =
    subst (λ (o : OptionName). IsTaken o c.args.words.now c.next_word-in-RtoMin.new.self c.args.settings c.from_residual-in_err-read_u32-in-RtoMin.result) (sym c.in-RtoMin.is)
    (c.next_word-in-RtoMin.result.now ∷ [], c.next_word-in-RtoMin.ensures, refl, rw c.from_residual-in_err-read_u32-in-RtoMin.ensures (λ d sets. none_of_one (ANumber 32) _ c.in_err-read_u32-in-RtoMin.ensures sets.0 sets.1))

pub returns-in_ok-read_u32-in-RtoMin : goal.returns-in_ok-read_u32-in-RtoMin
returns-in_ok-read_u32-in-RtoMin c =
    subst (λ (o : OptionName). IsTaken o c.args.words.now c.next_word-in-RtoMin.new.self c.args.settings (Some c.with_rto_min.result)) (sym c.in-RtoMin.is)
    (c.next_word-in-RtoMin.result.now ∷ [], c.next_word-in-RtoMin.ensures, refl, ((c.in_ok-read_u32-in-RtoMin.field-0, tt), (_, _, refl, c.in_ok-read_u32-in-RtoMin.ensures, refl), c.with_rto_min.ensures))
