-- The words of a line of options are options in one way.
use Rattle.std.proofs.Common.{◌≡◌, ℕ, ◌+◌, ◌<◌, ◌≤◌, List, [], ◌∷◌, ◌++◌, length, take, drop, refl, sym, ap, ◌∙◌, subst, arith}
use Rattle.std.proofs.Math.Seq.{take-append_seam, drop-append_seam}
use Rattle.std.proofs.lemmas.List.{length-append}
use Rattle.sctp_script.specs.Options.{option_word, words_taken}
use Rattle.sctp_script.specs.OptionLines.{GivenOption, AreOptions, IsOptionsLine}
use Rattle.sctp_script.specs.declared.option_name.Ends.{Ends}
use Rattle.sctp_script.specs.declared.option_name.OptionName.{OptionName}
use Rattle.sctp_script.proofs.OptionNames.{one_option}
use Rattle.sctp_text.specs.SpacedWords.{words_of}

-- ---- the first option

abbrev first_of : List (List ℕ) → List ℕ
first_of [] = []
first_of (w ∷ ws) = w

abbrev others_of : List (List ℕ) → List (List ℕ)
others_of [] = []
others_of (w ∷ ws) = ws

-- two lists in two parts, of which the first are as long
pub same_front : (xs ys us vs : List (List ℕ)) → xs ++ ys ≡ us ++ vs → length xs ≡ length us → xs ≡ us
same_front xs ys us vs same long =
    sym (take-append_seam xs ys) ∙ ap (λ (zs : List (List ℕ)). take (length xs) zs) same ∙ ap (λ (n : ℕ). take n (us ++ vs)) long ∙ take-append_seam us vs

pub same_back : (xs ys us vs : List (List ℕ)) → xs ++ ys ≡ us ++ vs → length xs ≡ length us → ys ≡ vs
same_back xs ys us vs same long =
    sym (drop-append_seam xs ys) ∙ ap (λ (zs : List (List ℕ)). drop (length xs) zs) same ∙ ap (λ (n : ℕ). drop n (us ++ vs)) long ∙ drop-append_seam us vs

-- no word is no option
pub nothing_given : (words : List (List ℕ)) (gs : List GivenOption) → words ≡ [] → AreOptions words gs → gs ≡ []
nothing_given words [] none are = refl
nothing_given words (g ∷ gs) none are = absurd (omega (arith, ap length (sym none ∙ are.1)))

-- some words are some options
pub some_given : (words : List (List ℕ)) (gs : List GivenOption) → AreOptions words gs → 0 < length words → 0 < length gs
some_given words [] are some = absurd (omega (arith, ap length are))
some_given words (g ∷ gs) are some = omega arith

pub some_words : (words : List (List ℕ)) (gs : List GivenOption) → AreOptions words gs → 0 < length gs → 0 < length words
some_words words [] are some = absurd (omega (arith, some))
some_words words (g ∷ gs) are some = omega (arith, ap length are.1)

-- words that begin with this one begin with an option of that name
pub record Begins (w : List ℕ) (ws : List (List ℕ)) (gs : List GivenOption) : Type 0 where
  pub first : GivenOption
  pub more : List GivenOption
  pub others : List (List ℕ)
  pub all : gs ≡ first ∷ more
  pub word : w ≡ option_word first.option
  pub behind : ws ≡ first.words ++ others
  pub count : length first.words ≡ words_taken first.option
  pub rest : AreOptions others more

pub begun : (words : List (List ℕ)) (w : List ℕ) (ws : List (List ℕ)) (gs : List GivenOption) → words ≡ w ∷ ws → AreOptions words gs → Begins w ws gs
begun words w ws [] is are = absurd (omega (arith, ap length (sym is ∙ are)))
begun words w ws (g ∷ gs) is (others, at, count, rest) = record {
  first = g;
  more = gs;
  others = others;
  all = refl;
  word = ap first_of (sym is ∙ at);
  behind = ap others_of (sym is ∙ at);
  count = count;
  rest = rest;
}

-- a word that is no option's name
pub unknown_given : (words : List (List ℕ)) (w : List ℕ) (ws : List (List ℕ)) (gs : List GivenOption) → words ≡ w ∷ ws
    → ((o : OptionName) → w ≡ option_word o → ⊥) → AreOptions words gs → ⊥
unknown_given words w ws gs is none are = let b = begun words w ws gs is are in none b.first.option b.word

-- there are as many words as an option takes
pub enough_given : (words : List (List ℕ)) (w : List ℕ) (ws : List (List ℕ)) (o : OptionName) (gs : List GivenOption) → words ≡ w ∷ ws → w ≡ option_word o
    → AreOptions words gs → words_taken o ≤ length ws
enough_given words w ws o gs is name are =
    let b = begun words w ws gs is are in
    let same : words_taken b.first.option ≡ words_taken o = ap words_taken (one_option b.first.option o (sym b.word ∙ name)) in
    let size : length ws ≡ length b.first.words + length b.others = ap length b.behind ∙ length-append b.first.words b.others in
    let count = b.count in
    omega (arith, same, size, count)

-- the option with these words
abbrev pub given : OptionName → List (List ℕ) → GivenOption
given o args = record { option = o; words = args }

-- one option is in front of others
pub put_front : (words : List (List ℕ)) (w : List ℕ) (ws args rest : List (List ℕ)) (o : OptionName) (gs : List GivenOption) → words ≡ w ∷ ws → w ≡ option_word o
    → ws ≡ args ++ rest → length args ≡ words_taken o → AreOptions rest gs → AreOptions words (given o args ∷ gs)
put_front words w ws args rest o gs is name behind count are =
    (rest, is ∙ ap (λ (v : List ℕ). v ∷ ws) name ∙ ap (λ (vs : List (List ℕ)). option_word o ∷ vs) behind, count, are)

-- and it is taken from there
pub record TakenFront (rest : List (List ℕ)) (o : OptionName) (args : List (List ℕ)) (gs : List GivenOption) : Type 0 where
  pub more : List GivenOption
  pub all : gs ≡ given o args ∷ more
  pub are : AreOptions rest more

pub take_front : (words : List (List ℕ)) (w : List ℕ) (ws args rest : List (List ℕ)) (o : OptionName) (gs : List GivenOption) → words ≡ w ∷ ws → w ≡ option_word o
    → ws ≡ args ++ rest → length args ≡ words_taken o → AreOptions words gs → TakenFront rest o args gs
take_front words w ws args rest o gs is name behind count are =
    let b = begun words w ws gs is are in
    let option : b.first.option ≡ o = one_option b.first.option o (sym b.word ∙ name) in
    let long : length b.first.words ≡ length args = b.count ∙ ap words_taken option ∙ sym count in
    let both : b.first.words ++ b.others ≡ args ++ rest = sym b.behind ∙ behind in
    let front : b.first.words ≡ args = same_front b.first.words b.others args rest both long in
    let back : b.others ≡ rest = same_back b.first.words b.others args rest both long in
    let first : b.first ≡ given o args = ap (λ (p : OptionName). given p b.first.words) option ∙ ap (λ (us : List (List ℕ)). given o us) front in
    record {
      more = b.more;
      all = b.all ∙ ap (λ (g : GivenOption). g ∷ b.more) first;
      are = subst (λ (us : List (List ℕ)). AreOptions us b.more) back b.rest;
    }

-- ---- lines

-- a line of options has three words at least
pub three_words : (line : List ℕ) (x : Ends) (gs : List GivenOption) → IsOptionsLine line x gs → 3 ≤ length (words_of line)
three_words line x gs (short, some, words, is, are) =
    let more = some_words words gs are some in
    omega (arith, ap length is, more)
