-- Two meanings of a line are the same.
use Rattle.std.proofs.Common.{◌≡◌, ℕ, ◌==◌, ◌&&◌, Bool, true, false, not, cond, nat_lt, inl, inr, List, [], ◌∷◌, length, slice_index, refl, sym, ap, ◌∙◌, subst}
use Rattle.std.proofs.lemmas.Bool.{cases_order}
use Rattle.sctp_script.specs.declared.command.Command.{Command}
use Rattle.sctp_words.specs.declared.line_fault.LineFault.{LineFault}
use Rattle.sctp_words.specs.declared.line_fault.LineFault.TheVariants.{TooLong, UnknownCommand, WordCount, BadValue, PairOrder}
use Rattle.sctp_script.specs.Commands.{name_of, fields_of}
use Rattle.sctp_script.specs.Grammar.{LineMeaning, Silent, Pairs, Acts, Fault, Spells, IsLineOf, Means, IsFirstFaultOf, Says, meaning_of}
use Rattle.sctp_words.specs.Lines.{IsSilent, kind_of}
use Rattle.sctp_script.proofs.CommandLemmas.{plain_name}
use Rattle.sctp_script.proofs.FieldLemmas.{WordsSay, one_values}
use Rattle.sctp_script.proofs.LineLemmas.{first_and_others, first_of, one_command, one_list, spelled_count}
use Rattle.sctp_text.specs.SpacedWords.{words_of}

-- the name of a command is not empty and doesn't begin as a comment does
no_comment : (word : List ℕ) → (not (slice_index word 0 == 35) && nat_lt 0 (length word)) ≡ true → (word ≡ [] → ⊥) × (slice_index word 0 ≡ 35 → ⊥)
no_comment [] plain = cc
no_comment (x ∷ xs) plain = (λ e. cc, λ h. let Plain : ℕ → Type 0 = λ n. (not (n == 35) && nat_lt 0 (length (x ∷ xs))) ≡ true in let bad : false ≡ true = subst Plain h plain in cc)

-- a line that does nothing is of no command
pub silent_is_no_command : (line : List ℕ) (c : Command) (args : List (List ℕ)) → IsSilent line → IsLineOf line c args → ⊥
silent_is_no_command [] c args silent is = (no_comment (name_of c) (plain_name c)).0 (sym (ap first_of is))
silent_is_no_command (x ∷ xs) c args silent is =
    let (w, ws, shape) = first_and_others xs in
    let here : words_of (x ∷ xs) ≡ (35 ∷ w) ∷ ws = rw (silent, shape) refl in
    (no_comment (name_of c) (plain_name c)).1 (ap (λ (vs : List (List ℕ)). slice_index (first_of vs) 0) (sym is ∙ here))

-- a command with its words says one thing
one_spelled : (say : WordsSay) (c : Command) (args : List (List ℕ)) (m n : LineMeaning) → Spells c args m → Spells c args n → m ≡ n
one_spelled say c args m n a b = a.3 ∙ ap (meaning_of c) (one_values say (fields_of c) args a.0 b.0 a.1 b.1) ∙ sym b.3

one_meant : (say : WordsSay) (line : List ℕ) (m n : LineMeaning) → Means line m → Means line n → m ≡ n
one_meant say line m n (c, xs, f, s) (d, ys, g, t) =
    let same = one_command line c d xs ys f g (spelled_count c xs m s) (spelled_count d ys n t) in
    let list = one_list line c d xs ys f g in
    one_spelled say c xs m n s (subst (λ (x : Command). Spells x xs n) (sym same) (subst (λ (zs : List (List ℕ)). Spells d zs n) (sym list) t))

abbrev fault_at : ℕ → LineFault
fault_at k = cond (k == 1) TooLong (cond (k == 2) UnknownCommand (cond (k == 3) WordCount (cond (k == 4) BadValue PairOrder)))

fault_of_kind : (f : LineFault) → fault_at (kind_of f) ≡ f
fault_of_kind TooLong = refl
fault_of_kind UnknownCommand = refl
fault_of_kind WordCount = refl
fault_of_kind BadValue = refl
fault_of_kind PairOrder = refl

one_first_fault : (p : Bool) (line : List ℕ) (f g : LineFault) → IsFirstFaultOf p line f → IsFirstFaultOf p line g → f ≡ g
one_first_fault p line f g a b =
    elim (cases_order (kind_of f) (kind_of g)) [
      | inl same ↦ sym (fault_of_kind f) ∙ ap fault_at same ∙ fault_of_kind g
      | inr apart ↦ elim apart [ inl less ↦ absurd (b.1 f less a.0) | inr more ↦ absurd (a.1 g more b.0) ]
    ]

unsaid : (line : List ℕ) (m : LineMeaning) → IsSilent line → Means line m → ⊥
unsaid line m silent (c, xs, f, s) = silent_is_no_command line c xs silent f

pub one_said : (say : WordsSay) (p : Bool) (line : List ℕ) (m n : LineMeaning) → Says p line m → Says p line n → m ≡ n
one_said say p line Silent Silent a b = refl
one_said say p line Silent (Pairs d) a b = absurd (unsaid line (Pairs d) a.1 b.1)
one_said say p line Silent (Acts e) a b = absurd (unsaid line (Acts e) a.1 b.1)
one_said say p line Silent (Fault f) a b = absurd (a.0 f b.0)
one_said say p line (Pairs c) Silent a b = absurd (unsaid line (Pairs c) b.1 a.1)
one_said say p line (Pairs c) (Pairs d) a b = one_meant say line (Pairs c) (Pairs d) a.1 b.1
one_said say p line (Pairs c) (Acts e) a b = one_meant say line (Pairs c) (Acts e) a.1 b.1
one_said say p line (Pairs c) (Fault f) a b = absurd (a.0 f b.0)
one_said say p line (Acts e) Silent a b = absurd (unsaid line (Acts e) b.1 a.1)
one_said say p line (Acts e) (Pairs d) a b = one_meant say line (Acts e) (Pairs d) a.1 b.1
one_said say p line (Acts e) (Acts d) a b = one_meant say line (Acts e) (Acts d) a.1 b.1
one_said say p line (Acts e) (Fault f) a b = absurd (a.0 f b.0)
one_said say p line (Fault f) Silent a b = absurd (b.0 f a.0)
one_said say p line (Fault f) (Pairs d) a b = absurd (b.0 f a.0)
one_said say p line (Fault f) (Acts e) a b = absurd (b.0 f a.0)
one_said say p line (Fault f) (Fault g) a b = ap Fault (one_first_fault p line f g a b)
