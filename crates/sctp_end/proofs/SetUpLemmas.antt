-- The words that the program is started with.
use Rattle.std.proofs.Common.{◌≡◌, ℕ, ◌+◌, ◌-◌, ◌<◌, ◌≤◌, Bool, true, false, inl, inr, List, [], ◌∷◌, ◌++◌, length, map, take, drop, get_or, take-append-drop, take_all, slice_index, Some, None, codes, arith, refl, sym, ap, ◌∙◌, subst, length-append}
use Rattle.sctp_model.specs.end.Configured.{ConfigurationFault, configuration_fault, plain_configuration}
use Rattle.std.specs.Prelude.{Option, MatchOption}
use Rattle.std.proofs.lemmas.List.{drop_all, drop_more, map-append}
use Rattle.sctp_cookie.specs.Seals.{IsUnder}
use Rattle.sctp_endpoint.specs.EndpointStands.{EndpointStands}
use Rattle.sctp_endpoint.specs.declared.endpoint.Endpoint.{Endpoint}
use Rattle.sctp_model.specs.end.EndView.{Configuration, EndView, Caller, Listener, Idle, Listening, fresh_end}
use Rattle.sctp_model.specs.end.Sealing.{Sealing}
use Rattle.sctp_terms.specs.declared.mode.Mode.{Mode}
use Rattle.sctp_terms.specs.declared.mode.Mode.TheVariants.{Data, PartialData, IData, PartialIData}
use Rattle.sctp_terms.specs.Modes.{asked}
use Rattle.sctp_text.specs.Numerals.{SaysOneNumber}
use Rattle.sctp_end.specs.Fields.{Field, ANumber, AMode, Value, IsValue}
use Rattle.sctp_end.specs.SetUpWords.{setting_fields, plain_of, word_if, rto_min_words, option_words, with_options, SaysLeast, Settles, Configures, IsKey, SetsUpCaller, SetsUpListener, SetsUp}
use Rattle.sctp_end.specs.declared.options.Options.{Options}
use Rattle.sctp_end.specs.inner.SettingUp.{IsSplit, AreSplit, IsLeastSplit, HasNoOptions, SetsListener}
use Rattle.sctp_words.specs.Fields.{IsNumber, mode_word, delay_word, standard_closing_word, fast_retransmit_word, congestion_control_word, reset_word, rto_min_word, Values, AreValues}
use Rattle.sctp_end.proofs.FieldLemmas.{first_of, others_of, first_value, other_values}

-- ---- settings

-- seven words
abbrev pub seven : (a b c d m p q : List ℕ) → List (List ℕ)
seven a b c d m p q = a ∷ b ∷ c ∷ d ∷ m ∷ p ∷ q ∷ []

-- what each of them says
pub record Say (a b c d m p q : List ℕ) (vs : Values Value setting_fields) : Type 0 where
  pub limit : IsNumber 16 a vs.0
  pub fragment : IsNumber 16 b vs.1.0
  pub buffer : IsNumber 32 c vs.1.1.0
  pub streams : IsNumber 16 d vs.1.1.1.0
  pub mode : m ≡ mode_word vs.1.1.1.1.0
  pub own_port : IsNumber 16 p vs.1.1.1.1.1.0
  pub peer_port : IsNumber 16 q vs.1.1.1.1.1.1.0

-- the fields that are left behind each
abbrev one_field : List Field
one_field = ANumber 16 ∷ []

abbrev two_fields : List Field
two_fields = ANumber 16 ∷ one_field

abbrev three_fields : List Field
three_fields = AMode ∷ two_fields

abbrev four_fields : List Field
four_fields = ANumber 16 ∷ three_fields

abbrev five_fields : List Field
five_fields = ANumber 32 ∷ four_fields

abbrev six_fields : List Field
six_fields = ANumber 16 ∷ five_fields

pub they_say : (words : List (List ℕ)) (a b c d m p q : List ℕ) (vs : Values Value setting_fields) → words ≡ seven a b c d m p q
    → AreValues Value IsValue setting_fields words vs → Say a b c d m p q vs
they_say words a b c d m p q vs is are =
    let behind_limit = other_values (ANumber 16) six_fields words a (b ∷ c ∷ d ∷ m ∷ p ∷ q ∷ []) vs is are in
    let behind_fragment = other_values (ANumber 16) five_fields (b ∷ c ∷ d ∷ m ∷ p ∷ q ∷ []) b (c ∷ d ∷ m ∷ p ∷ q ∷ []) vs.1 refl behind_limit in
    let behind_buffer = other_values (ANumber 32) four_fields (c ∷ d ∷ m ∷ p ∷ q ∷ []) c (d ∷ m ∷ p ∷ q ∷ []) vs.1.1 refl behind_fragment in
    let behind_streams = other_values (ANumber 16) three_fields (d ∷ m ∷ p ∷ q ∷ []) d (m ∷ p ∷ q ∷ []) vs.1.1.1 refl behind_buffer in
    let behind_mode = other_values AMode two_fields (m ∷ p ∷ q ∷ []) m (p ∷ q ∷ []) vs.1.1.1.1 refl behind_streams in
    let behind_own = other_values (ANumber 16) one_field (p ∷ q ∷ []) p (q ∷ []) vs.1.1.1.1.1 refl behind_mode in record {
      limit = first_value (ANumber 16) six_fields words a (b ∷ c ∷ d ∷ m ∷ p ∷ q ∷ []) vs is are;
      fragment = first_value (ANumber 16) five_fields (b ∷ c ∷ d ∷ m ∷ p ∷ q ∷ []) b (c ∷ d ∷ m ∷ p ∷ q ∷ []) vs.1 refl behind_limit;
      buffer = first_value (ANumber 32) four_fields (c ∷ d ∷ m ∷ p ∷ q ∷ []) c (d ∷ m ∷ p ∷ q ∷ []) vs.1.1 refl behind_fragment;
      streams = first_value (ANumber 16) three_fields (d ∷ m ∷ p ∷ q ∷ []) d (m ∷ p ∷ q ∷ []) vs.1.1.1 refl behind_buffer;
      mode = first_value AMode two_fields (m ∷ p ∷ q ∷ []) m (p ∷ q ∷ []) vs.1.1.1.1 refl behind_streams;
      own_port = first_value (ANumber 16) one_field (p ∷ q ∷ []) p (q ∷ []) vs.1.1.1.1.1 refl behind_mode;
      peer_port = first_value (ANumber 16) [] (q ∷ []) q [] vs.1.1.1.1.1.1 refl behind_own;
    }

-- words that say no settings
pub settings_not : (words : List (List ℕ)) (a b c d m p q : List ℕ) → words ≡ seven a b c d m p q
    → ((vs : Values Value setting_fields) → Say a b c d m p q vs → configuration_fault (plain_of vs) ≡ None → ⊥) → (x : Configuration) → Settles words x → ⊥
settings_not words a b c d m p q is none x (vs, are, fine, whole) = none vs (they_say words a b c d m p q vs is are) fine

-- they are seven
how_many : (words : List (List ℕ)) (x : Configuration) → Settles words x → length words ≡ 7
how_many words x ((limit, (fragment, (buffer, (streams, (mode, (own_port, (peer_port, rest))))))), are, fine, whole) =
    omega (
      arith,
      ap length are.2,
      ap length are.4.2,
      ap length are.4.4.2,
      ap length are.4.4.4.2,
      ap length are.4.4.4.4.2,
      ap length are.4.4.4.4.4.2,
      ap length are.4.4.4.4.4.4.2,
      ap length are.4.4.4.4.4.4.4,
    )

-- words that say settings with a fault
pub faulty : ((word : List ℕ) → SaysOneNumber word) → (a b c d m p q : List ℕ) (limit fragment buffer streams own peer : ℕ) (fault : ConfigurationFault)
    → IsNumber 16 a limit → IsNumber 16 b fragment → IsNumber 32 c buffer → IsNumber 16 d streams → IsNumber 16 p own → IsNumber 16 q peer
    → configuration_fault (plain_configuration own peer limit fragment buffer streams streams) ≡ Some fault
    → (vs : Values Value setting_fields) → Say a b c d m p q vs → configuration_fault (plain_of vs) ≡ None → ⊥
faulty one a b c d m p q limit fragment buffer streams own peer fault is_limit is_fragment is_buffer is_streams is_own is_peer fails vs says none =
    let l : vs.0 ≡ limit = (one a).one _ _ says.limit.0 is_limit.0 in
    let f : vs.1.0 ≡ fragment = (one b).one _ _ says.fragment.0 is_fragment.0 in
    let u : vs.1.1.0 ≡ buffer = (one c).one _ _ says.buffer.0 is_buffer.0 in
    let s : vs.1.1.1.0 ≡ streams = (one d).one _ _ says.streams.0 is_streams.0 in
    let o : vs.1.1.1.1.1.0 ≡ own = (one p).one _ _ says.own_port.0 is_own.0 in
    let e : vs.1.1.1.1.1.1.0 ≡ peer = (one q).one _ _ says.peer_port.0 is_peer.0 in
    let same : plain_of vs ≡ plain_configuration own peer limit fragment buffer streams streams =
    λ i. plain_configuration (o i) (e i) (l i) (f i) (u i) (s i) (s i) in
    let both = sym none ∙ ap configuration_fault same ∙ fails in
    cc

-- words that say settings without one
pub settings : (words : List (List ℕ)) (a b c d m p q : List ℕ) (limit fragment buffer streams own peer : ℕ) (mode : Mode) (config : Configuration) → words ≡ seven a b c d m p q
    → IsNumber 16 a limit → IsNumber 16 b fragment → IsNumber 32 c buffer → IsNumber 16 d streams → m ≡ mode_word mode → IsNumber 16 p own → IsNumber 16 q peer
    → config ≡ plain_configuration own peer limit fragment buffer streams streams
    → configuration_fault (plain_configuration own peer limit fragment buffer streams streams) ≡ None → Settles words (asked mode config)
settings words a b c d m p q limit fragment buffer streams own peer mode config is is_limit is_fragment is_buffer is_streams is_mode is_own is_peer whole none = (
  (limit, (fragment, (buffer, (streams, (mode, (own, (peer, tt))))))),
  (a, _, is, is_limit, (b, _, refl, is_fragment, (c, _, refl, is_buffer, (d, _, refl, is_streams, (m, _, refl, is_mode, (p, _, refl, is_own, (q, _, refl, is_peer, refl))))))),
  none,
  ap (asked mode) whole,
)

-- a mode asks for no option
pub asked_plain : (m : Mode) (config : Configuration) → HasNoOptions config → HasNoOptions (asked m config)
asked_plain Data config none = none
asked_plain PartialData config none = none
asked_plain IData config none = none
asked_plain PartialIData config none = none

-- a plain configuration has none
pub plain_has_none : (own peer limit fragment buffer outbound inbound : ℕ) (config : Configuration)
    → config ≡ plain_configuration own peer limit fragment buffer outbound inbound → HasNoOptions config
plain_has_none own peer limit fragment buffer outbound inbound config is = (
  ap (λ (k : Configuration). k.delay) is,
  ap (λ (k : Configuration). k.standard_closing) is,
  ap (λ (k : Configuration). k.fast_retransmit) is,
  ap (λ (k : Configuration). k.congestion_control) is,
  ap (λ (k : Configuration). k.reset) is,
)

-- ---- the words behind the mode

abbrev second_of : List (List ℕ) → List ℕ
second_of ws = first_of (others_of ws)

abbrev behind_both : List (List ℕ) → List (List ℕ)
behind_both ws = others_of (others_of ws)

-- these words don't begin with this one
abbrev Lacks : List ℕ → List (List ℕ) → Type 0
Lacks word words = (more : List (List ℕ)) → words ≡ word ∷ more → ⊥

-- nor with another option before them
lacks_if : (word other : List ℕ) (b : Bool) (words : List (List ℕ)) → (other ≡ word → ⊥) → Lacks word words → Lacks word (word_if b other ++ words)
lacks_if word other true words differs lacks more e = differs (ap first_of e)
lacks_if word other false words differs lacks more e = lacks more e

lacks_least : (word : List ℕ) (number : Option (List ℕ)) (words : List (List ℕ)) → (rto_min_word ≡ word → ⊥) → Lacks word words → Lacks word (rto_min_words number ++ words)
lacks_least word (Some n) words differs lacks more e = differs (ap first_of e)
lacks_least word None words differs lacks more e = lacks more e

-- what begins with a word, or doesn't, is split as it is
one_split : (word : List ℕ) (words others rest : List (List ℕ)) (b x : Bool) → words ≡ word_if b word ++ others
    → ((more : List (List ℕ)) → others ≡ word ∷ more → ⊥) → IsSplit word words x rest → (b ≡ x) × (others ≡ rest)
one_split word words others rest true true is none split = (refl, ap others_of (sym is ∙ split))
one_split word words others rest true false is none split = absurd (split.1 others is)
one_split word words others rest false true is none split = absurd (none rest (sym is ∙ split))
one_split word words others rest false false is none split = (refl, sym is ∙ split.0)

-- and the other way round
joined_again : (word : List ℕ) (words rest : List (List ℕ)) (x : Bool) → IsSplit word words x rest → words ≡ word_if x word ++ rest
joined_again word words rest true split = split
joined_again word words rest false split = split.0

-- so is RTO.Min
least_split : (words back left : List (List ℕ)) (x y : Option (List ℕ)) → words ≡ rto_min_words x ++ back → Lacks rto_min_word back → IsLeastSplit words y left
    → (x ≡ y) × (back ≡ left)
least_split words back left None None is lacks split = (refl, sym is ∙ split.0)
least_split words back left None (Some n) is lacks split = absurd (lacks (n ∷ left) (sym is ∙ split))
least_split words back left (Some n) None is lacks split = absurd (split.1 n back is)
least_split words back left (Some n) (Some m) is lacks split =
    let e : rto_min_word ∷ n ∷ back ≡ rto_min_word ∷ m ∷ left = sym is ∙ split in
    (ap (λ (ws : List (List ℕ)). Some (second_of ws)) e, ap behind_both e)

-- and the other way round
least_again : (words rest : List (List ℕ)) (x : Option (List ℕ)) → IsLeastSplit words x rest → words ≡ rto_min_words x ++ rest
least_again words rest (Some n) split = split
least_again words rest None split = split.0

-- what is configured by five words, options and two words behind them
pub record Parts (a b c d m : List ℕ) (o : Options) (number : Option (List ℕ)) (left : List (List ℕ)) (config : Configuration) : Type 0 where
  pub own : List ℕ
  pub peer : List ℕ
  pub left_is : left ≡ own ∷ peer ∷ []
  pub plain : Configuration
  pub settles : Settles (seven a b c d m own peer) plain
  pub least : ℕ
  pub says : SaysLeast number least
  pub whole : config ≡ with_options o.delay o.standard_closing o.fast_retransmit o.congestion_control o.reset least plain

five_in_front : (front more : List (List ℕ)) (a b c d m : List ℕ) (rest : List (List ℕ)) → length front ≡ 5 → a ∷ b ∷ c ∷ d ∷ m ∷ rest ≡ front ++ more
    → (front ≡ a ∷ b ∷ c ∷ d ∷ m ∷ []) × (rest ≡ more)
five_in_front (x0 ∷ x1 ∷ x2 ∷ x3 ∷ x4 ∷ []) more a b c d m rest size is = (
  λ i. first_of (sym is i) ∷ first_of (others_of (sym is i)) ∷ first_of (others_of (others_of (sym is i)))
      ∷ first_of (others_of (others_of (others_of (sym is i)))) ∷ first_of (others_of (others_of (others_of (others_of (sym is i))))) ∷ [],
  ap (λ (ws : List (List ℕ)). others_of (others_of (others_of (others_of (others_of ws))))) is,
)
five_in_front [] more a b c d m rest size is = absurd (omega (arith, size))
five_in_front (x0 ∷ []) more a b c d m rest size is = absurd (omega (arith, size))
five_in_front (x0 ∷ x1 ∷ []) more a b c d m rest size is = absurd (omega (arith, size))
five_in_front (x0 ∷ x1 ∷ x2 ∷ []) more a b c d m rest size is = absurd (omega (arith, size))
five_in_front (x0 ∷ x1 ∷ x2 ∷ x3 ∷ []) more a b c d m rest size is = absurd (omega (arith, size))
five_in_front (x0 ∷ x1 ∷ x2 ∷ x3 ∷ x4 ∷ x5 ∷ xs) more a b c d m rest size is = absurd (omega (arith, size))

-- two words behind five of seven
two_behind : (a b c d m : List ℕ) (back : List (List ℕ)) (x : Configuration) → Settles (a ∷ b ∷ c ∷ d ∷ m ∷ back) x
    → (p : List ℕ) × (q : List ℕ) × (back ≡ p ∷ q ∷ []) × (n : ℕ) × IsNumber 16 p n
two_behind a b c d m (p ∷ q ∷ []) x says = (p, q, refl, says.0.1.1.1.1.1.0, (they_say (seven a b c d m p q) a b c d m p q says.0 refl says.1).own_port)
two_behind a b c d m [] x says = absurd (omega (arith, how_many (a ∷ b ∷ c ∷ d ∷ m ∷ []) x says))
two_behind a b c d m (p ∷ []) x says = absurd (omega (arith, how_many (a ∷ b ∷ c ∷ d ∷ m ∷ p ∷ []) x says))
two_behind a b c d m (p ∷ q ∷ r ∷ ws) x says = absurd (omega (arith, how_many (a ∷ b ∷ c ∷ d ∷ m ∷ p ∷ q ∷ r ∷ ws) x says))

-- no option stands where the ports do: a number begins with a digit
no_option : (word : List ℕ) (back : List (List ℕ)) (p q : List ℕ) (n : ℕ) → back ≡ p ∷ q ∷ [] → IsNumber 16 p n → ((k : ℕ) → IsNumber 16 word k → ⊥) → Lacks word back
no_option word back p q n is number none more other =
    none n (subst (λ (w : List ℕ). IsNumber 16 w n) (ap first_of (sym is ∙ other)) number)

-- behind each option none of those before it stands
pub record Behind (standard fast control reset : Bool) (number : Option (List ℕ)) (back : List (List ℕ)) : Type 0 where
  pub no_delay : Lacks delay_word (word_if standard standard_closing_word
      ++ (word_if fast fast_retransmit_word ++ (word_if control congestion_control_word ++ (word_if reset reset_word ++ (rto_min_words number ++ back)))))
  pub no_standard : Lacks standard_closing_word (word_if fast fast_retransmit_word
      ++ (word_if control congestion_control_word ++ (word_if reset reset_word ++ (rto_min_words number ++ back))))
  pub no_fast : Lacks fast_retransmit_word (word_if control congestion_control_word ++ (word_if reset reset_word ++ (rto_min_words number ++ back)))
  pub no_control : Lacks congestion_control_word (word_if reset reset_word ++ (rto_min_words number ++ back))
  pub no_reset : Lacks reset_word (rto_min_words number ++ back)
  pub no_least : Lacks rto_min_word back

in_turn : (standard fast control reset : Bool) (number : Option (List ℕ)) (back : List (List ℕ)) (p q : List ℕ) (n : ℕ) → back ≡ p ∷ q ∷ [] → IsNumber 16 p n
    → Behind standard fast control reset number back
in_turn standard fast control reset number back p q n is at =
    let nd : Lacks delay_word back = no_option delay_word back p q n is at (λ k w. omega (arith, w.0.digits.1.0)) in
    let ns : Lacks standard_closing_word back = no_option standard_closing_word back p q n is at (λ k w. omega (arith, w.0.digits.1.0)) in
    let nf : Lacks fast_retransmit_word back = no_option fast_retransmit_word back p q n is at (λ k w. omega (arith, w.0.digits.1.0)) in
    let nc : Lacks congestion_control_word back = no_option congestion_control_word back p q n is at (λ k w. omega (arith, w.0.digits.1.0)) in
    let nr : Lacks reset_word back = no_option reset_word back p q n is at (λ k w. omega (arith, w.0.digits.1.0)) in
    record {
      no_delay = lacks_if delay_word standard_closing_word standard _ (λ e. omega (arith, ap length e))
          (lacks_if delay_word fast_retransmit_word fast _ (λ e. omega (arith, ap length e))
          (lacks_if delay_word congestion_control_word control _ (λ e. omega (arith, ap length e))
          (lacks_if delay_word reset_word reset _ (λ e. omega (arith, ap (λ (w : List ℕ). slice_index w 0) e))
          (lacks_least delay_word number back (λ e. omega (arith, ap length e)) nd))));
      no_standard = lacks_if standard_closing_word fast_retransmit_word fast _ (λ e. omega (arith, ap length e))
          (lacks_if standard_closing_word congestion_control_word control _ (λ e. omega (arith, ap length e))
          (lacks_if standard_closing_word reset_word reset _ (λ e. omega (arith, ap length e))
          (lacks_least standard_closing_word number back (λ e. omega (arith, ap length e)) ns)));
      no_fast = lacks_if fast_retransmit_word congestion_control_word control _ (λ e. omega (arith, ap length e))
          (lacks_if fast_retransmit_word reset_word reset _ (λ e. omega (arith, ap length e))
          (lacks_least fast_retransmit_word number back (λ e. omega (arith, ap length e)) nf));
      no_control = lacks_if congestion_control_word reset_word reset _ (λ e. omega (arith, ap length e))
          (lacks_least congestion_control_word number back (λ e. omega (arith, ap length e)) nc);
      no_reset = lacks_least reset_word number back (λ e. omega (arith, ap length e)) nr;
      no_least = no_option rto_min_word back p q n is at (λ k w. omega (arith, w.0.digits.1.0));
    }

-- what is configured by words that were split so
pub parts_of : (words : List (List ℕ)) (a b c d m : List ℕ) (rest behind left : List (List ℕ)) (o : Options) (number : Option (List ℕ)) (config : Configuration)
    → words ≡ a ∷ b ∷ c ∷ d ∷ m ∷ rest → AreSplit rest o behind → IsLeastSplit behind number left
    → Configures words config → Parts a b c d m o number left config
parts_of words a b c d m rest behind left o number config is split last
    (front, back, delay, standard, fast, control, reset, asked_number, least, plain, whole, size, settled, said, made) =
    let (fronts, rests) = five_in_front front _ a b c d m rest size (sym is ∙ whole) in
    let settles : Settles (a ∷ b ∷ c ∷ d ∷ m ∷ back) plain = subst (λ (ws : List (List ℕ)). Settles (ws ++ back) plain) fronts settled in
    let (p, q, two, n, at) = two_behind a b c d m back plain settles in
    let none = in_turn standard fast control reset asked_number back p q n two at in
    let one = one_split delay_word rest _ split.behind_delay delay o.delay rests none.no_delay split.delay in
    let next = one_split standard_closing_word split.behind_delay _ split.behind_standard standard o.standard_closing (sym one.1) none.no_standard split.standard in
    let third = one_split fast_retransmit_word split.behind_standard _ split.behind_fast fast o.fast_retransmit (sym next.1) none.no_fast split.fast in
    let fourth = one_split congestion_control_word split.behind_fast _ split.behind_control control o.congestion_control (sym third.1) none.no_control split.control in
    let fifth = one_split reset_word split.behind_control _ behind reset o.reset (sym fourth.1) none.no_reset split.reset in
    let sixth = least_split behind back left asked_number number (sym fifth.1) none.no_least last in
    record {
      own = p;
      peer = q;
      left_is = sym sixth.1 ∙ two;
      plain = plain;
      settles = subst (λ (ws : List (List ℕ)). Settles (a ∷ b ∷ c ∷ d ∷ m ∷ ws) plain) two settles;
      least = least;
      says = subst (λ (x : Option (List ℕ)). SaysLeast x least) sixth.0 said;
      whole = made ∙ (λ i. with_options (one.0 i) (next.0 i) (third.0 i) (fourth.0 i) (fifth.0 i) least plain);
    }

-- fewer than five words
pub too_few_settings : (words : List (List ℕ)) → length words < 5 → (x : Configuration) → Configures words x → ⊥
too_few_settings words few x (front, back, delay, standard, fast, control, reset, number, least, plain, whole, size, settled, said, made) =
    omega (arith, few, size, ap length whole, length-append front (option_words delay standard fast control reset number back))

-- five words, options and two ports configure what they say
pub configured : (words : List (List ℕ)) (a b c d m p q : List ℕ) (rest behind left : List (List ℕ)) (o : Options) (number : Option (List ℕ)) (least : ℕ)
    (plain config : Configuration)
    → words ≡ a ∷ b ∷ c ∷ d ∷ m ∷ rest → AreSplit rest o behind → IsLeastSplit behind number left → left ≡ p ∷ q ∷ []
    → Settles (seven a b c d m p q) plain → SaysLeast number least
    → config ≡ with_options o.delay o.standard_closing o.fast_retransmit o.congestion_control o.reset least plain → Configures words config
configured words a b c d m p q rest behind left o number least plain config is split last two settled said made =
    let last_is = least_again behind left number last ∙ ap (λ (ws : List (List ℕ)). rto_min_words number ++ ws) two in
    let reset_is = joined_again reset_word split.behind_control behind o.reset split.reset
    ∙ ap (λ (ws : List (List ℕ)). word_if o.reset reset_word ++ ws) last_is in
    let control_is = joined_again congestion_control_word split.behind_fast split.behind_control o.congestion_control split.control
    ∙ ap (λ (ws : List (List ℕ)). word_if o.congestion_control congestion_control_word ++ ws) reset_is in
    let fast_is = joined_again fast_retransmit_word split.behind_standard split.behind_fast o.fast_retransmit split.fast
    ∙ ap (λ (ws : List (List ℕ)). word_if o.fast_retransmit fast_retransmit_word ++ ws) control_is in
    let standard_is = joined_again standard_closing_word split.behind_delay split.behind_standard o.standard_closing split.standard
    ∙ ap (λ (ws : List (List ℕ)). word_if o.standard_closing standard_closing_word ++ ws) fast_is in
    let rest_is = joined_again delay_word rest split.behind_delay o.delay split.delay
    ∙ ap (λ (ws : List (List ℕ)). word_if o.delay delay_word ++ ws) standard_is in (
      a ∷ b ∷ c ∷ d ∷ m ∷ [],
      p ∷ q ∷ [],
      o.delay,
      o.standard_closing,
      o.fast_retransmit,
      o.congestion_control,
      o.reset,
      number,
      least,
      plain,
      is ∙ ap (λ (ws : List (List ℕ)). a ∷ b ∷ c ∷ d ∷ m ∷ ws) rest_is,
      refl,
      settled,
      said,
      made,
    )

-- nor do they configure anything where the seven words say nothing
pub none_configured : (words : List (List ℕ)) (a b c d m p q : List ℕ) (rest behind left : List (List ℕ)) (o : Options) (number : Option (List ℕ))
    → words ≡ a ∷ b ∷ c ∷ d ∷ m ∷ rest → AreSplit rest o behind → IsLeastSplit behind number left → left ≡ p ∷ q ∷ []
    → ((config : Configuration) → Settles (seven a b c d m p q) config → ⊥) → (config : Configuration) → Configures words config → ⊥
none_configured words a b c d m p q rest behind left o number is split last two none config conf =
    let parts = parts_of words a b c d m rest behind left o number config is split last conf in
    let ports : parts.own ∷ parts.peer ∷ [] ≡ p ∷ q ∷ [] = sym parts.left_is ∙ two in
    none parts.plain (subst (λ (ws : List (List ℕ)). Settles (a ∷ b ∷ c ∷ d ∷ m ∷ ws) parts.plain) ports parts.settles)

-- nor where RTO.Min is no number
pub none_least : (words : List (List ℕ)) (a b c d m : List ℕ) (rest behind left : List (List ℕ)) (o : Options) (number : Option (List ℕ))
    → words ≡ a ∷ b ∷ c ∷ d ∷ m ∷ rest → AreSplit rest o behind → IsLeastSplit behind number left
    → ((n : ℕ) → SaysLeast number n → ⊥) → (config : Configuration) → Configures words config → ⊥
none_least words a b c d m rest behind left o number is split last none config conf =
    let parts = parts_of words a b c d m rest behind left o number config is split last conf in
    none parts.least parts.says

-- seven words, each the same
pub same_words : (a b c d m p q e f g h n r s : List ℕ) → e ≡ a → f ≡ b → g ≡ c → h ≡ d → n ≡ m → r ≡ p → s ≡ q → seven a b c d m p q ≡ seven e f g h n r s
same_words a b c d m p q e f g h n r s ia ib ic id im ip iq =
    λ i. seven (sym ia i) (sym ib i) (sym ic i) (sym id i) (sym im i) (sym ip i) (sym iq i)

-- five items and those behind them, and two items
pub five_of : {X : Type 0} → (f : X → List ℕ) (xs : List X) (a b c d m : X) → 5 ≤ length xs → a ≡ get_or xs 0 a → b ≡ get_or xs 1 b → c ≡ get_or xs 2 c
    → d ≡ get_or xs 3 d → m ≡ get_or xs 4 m → map f xs ≡ f a ∷ f b ∷ f c ∷ f d ∷ f m ∷ map f (take (length xs - 5) (drop 5 xs))
five_of f (x0 ∷ x1 ∷ x2 ∷ x3 ∷ x4 ∷ xs) a b c d m size ia ib ic id im =
    let rest : take (length (x0 ∷ x1 ∷ x2 ∷ x3 ∷ x4 ∷ xs) - 5) xs ≡ xs = take_all (length (x0 ∷ x1 ∷ x2 ∷ x3 ∷ x4 ∷ xs) - 5) xs (omega arith) in
    λ i. f (sym ia i) ∷ f (sym ib i) ∷ f (sym ic i) ∷ f (sym id i) ∷ f (sym im i) ∷ map f (sym rest i)
five_of f [] a b c d m size ia ib ic id im = absurd (omega (arith, size))
five_of f (x0 ∷ []) a b c d m size ia ib ic id im = absurd (omega (arith, size))
five_of f (x0 ∷ x1 ∷ []) a b c d m size ia ib ic id im = absurd (omega (arith, size))
five_of f (x0 ∷ x1 ∷ x2 ∷ []) a b c d m size ia ib ic id im = absurd (omega (arith, size))
five_of f (x0 ∷ x1 ∷ x2 ∷ x3 ∷ []) a b c d m size ia ib ic id im = absurd (omega (arith, size))

pub pair_of : {X : Type 0} → (f : X → List ℕ) (xs : List X) (p q : X) → length xs ≡ 2 → p ≡ get_or xs 0 p → q ≡ get_or xs 1 q → map f xs ≡ f p ∷ f q ∷ []
pair_of f (x0 ∷ x1 ∷ []) p q size ip iq = λ i. f (sym ip i) ∷ f (sym iq i) ∷ []
pair_of f [] p q size ip iq = absurd (omega (arith, size))
pair_of f (x0 ∷ []) p q size ip iq = absurd (omega (arith, size))
pair_of f (x0 ∷ x1 ∷ x2 ∷ xs) p q size ip iq = absurd (omega (arith, size))

-- ---- the program's own name, what the end is, and what stands behind

differ : codes "caller" ≡ codes "listener" → ⊥
differ e = omega (arith, ap (λ (w : List ℕ). slice_index w 0) e)

-- words that set up no caller, no listener
no_caller : (words : List (List ℕ)) (name role : List ℕ) (rest : List (List ℕ)) → words ≡ name ∷ role ∷ rest
    → (role ≡ codes "caller" → (c : Configuration) → Configures rest c → ⊥) → (v : EndView) → SetsUpCaller words v → ⊥
no_caller words name role rest is none v (own, settings, c, whole, configures, view) =
    none (ap second_of (sym is ∙ whole)) c (subst (λ (ws : List (List ℕ)). Configures ws c) (ap behind_both (sym whole ∙ is)) configures)

no_listener : (words : List (List ℕ)) (name role : List ℕ) (rest : List (List ℕ)) → words ≡ name ∷ role ∷ rest
    → (role ≡ codes "listener" → (c : Configuration) (key : List ℕ) → SetsListener rest c key → ⊥) → (v : EndView) → SetsUpListener words v → ⊥
no_listener words name role rest is none v (own, last, key, settings, c, seal, whole, configures, keyed, under, view) =
    none (ap second_of (sym is ∙ whole)) c key (settings, last, ap behind_both (sym is ∙ whole), configures, keyed)

pub caller_not : (words : List (List ℕ)) (name role : List ℕ) (rest : List (List ℕ)) → words ≡ name ∷ role ∷ rest → role ≡ codes "caller"
    → ((c : Configuration) → Configures rest c → ⊥) → (v : EndView) → SetsUp words v → ⊥
caller_not words name role rest is called none v (inl caller) = no_caller words name role rest is (λ _. none) v caller
caller_not words name role rest is called none v (inr listener) =
    no_listener words name role rest is (λ other. absurd (differ (sym called ∙ other))) v listener

pub listener_not : (words : List (List ℕ)) (name role : List ℕ) (rest : List (List ℕ)) → words ≡ name ∷ role ∷ rest → role ≡ codes "listener"
    → ((c : Configuration) (key : List ℕ) → SetsListener rest c key → ⊥) → (v : EndView) → SetsUp words v → ⊥
listener_not words name role rest is called none v (inl caller) =
    no_caller words name role rest is (λ other. absurd (differ (sym other ∙ called))) v caller
listener_not words name role rest is called none v (inr listener) = no_listener words name role rest is (λ _. none) v listener

pub neither : (words : List (List ℕ)) (name role : List ℕ) (rest : List (List ℕ)) → words ≡ name ∷ role ∷ rest → (role ≡ codes "caller" → ⊥)
    → (role ≡ codes "listener" → ⊥) → (v : EndView) → SetsUp words v → ⊥
neither words name role rest is not_caller not_listener v (inl caller) = no_caller words name role rest is (λ called. absurd (not_caller called)) v caller
neither words name role rest is not_caller not_listener v (inr listener) =
    no_listener words name role rest is (λ called. absurd (not_listener called)) v listener

-- fewer than two words
pub too_few : (words : List (List ℕ)) → length words < 2 → (v : EndView) → SetsUp words v → ⊥
too_few words few v (inl caller) = omega (arith, few, ap length caller.3)
too_few words few v (inr listener) = omega (arith, few, ap length listener.6)

-- ---- slices of words

-- a first word, a second one, and the rest
pub two_of : {X : Type 0} → (f : X → List ℕ) (xs : List X) (b : X) → 2 ≤ length xs → b ≡ get_or xs 1 b
    → (name : List ℕ) × (map f xs ≡ name ∷ f b ∷ map f (take (length xs - 2) (drop 2 xs)))
two_of f [] b size is = absurd (omega (arith, size))
two_of f (x0 ∷ []) b size is = absurd (omega (arith, size))
two_of f (x0 ∷ x1 ∷ xs) b size is =
    let rest : take (length (x0 ∷ x1 ∷ xs) - 2) xs ≡ xs = take_all (length (x0 ∷ x1 ∷ xs) - 2) xs (omega arith) in
    (f x0, λ i. f x0 ∷ f (sym is i) ∷ map f (sym rest i))

-- all words but the last one, and that
pub last_of : {X : Type 0} → (f : X → List ℕ) (xs : List X) (b : X) → 1 ≤ length xs → b ≡ get_or xs (length xs - 1) b
    → map f xs ≡ map f (take (length xs - 1) xs) ++ f b ∷ []
last_of f xs b size is =
    let there : length xs - 1 < length xs = omega (arith, size) in
    let end : length xs - 1 + 1 ≡ length xs = omega (arith, size) in
    let one : drop (length xs - 1) xs ≡ b ∷ [] =
    drop_more xs (length xs - 1) b there
    ∙ ap (λ y. y ∷ drop (length xs - 1 + 1) xs) (sym is)
    ∙ ap (λ ys. b ∷ ys) (drop_all (length xs - 1 + 1) xs (omega (arith, end))) in
    ap (map f) (sym (take-append-drop (length xs - 1) xs) ∙ ap (λ ys. take (length xs - 1) xs ++ ys) one)
    ∙ map-append f (take (length xs - 1) xs) (b ∷ [])

-- lists with a last word are the same where the parts are
same_parts : (xs ys : List (List ℕ)) (x y : List ℕ) → xs ++ x ∷ [] ≡ ys ++ y ∷ [] → (xs ≡ ys) × (x ≡ y)
same_parts [] [] x y e = (refl, ap first_of e)
same_parts [] (b ∷ ys) x y e = absurd (omega (arith, ap length e, length-append ys (y ∷ [])))
same_parts (a ∷ xs) [] x y e = absurd (omega (arith, ap length e, length-append xs (x ∷ [])))
same_parts (a ∷ xs) (b ∷ ys) x y e =
    let rest = same_parts xs ys x y (ap others_of e) in
    let first : a ≡ b = ap first_of e in
    (λ i. first i ∷ rest.0 i, rest.1)

-- ---- a listener's words

pub no_words_listen : (words : List (List ℕ)) → length words < 1 → (c : Configuration) (key : List ℕ) → SetsListener words c key → ⊥
no_words_listen words few c key (others, last, is, configures, keyed) = omega (arith, few, ap length is, length-append others (last ∷ []))

pub settings_listen_not : (words settings : List (List ℕ)) (last : List ℕ) → words ≡ settings ++ last ∷ [] → ((c : Configuration) → Configures settings c → ⊥)
    → (c : Configuration) (key : List ℕ) → SetsListener words c key → ⊥
settings_listen_not words settings last is none c key (others, end, whole, configures, keyed) =
    none c (subst (λ (ws : List (List ℕ)). Configures ws c) (same_parts others settings end last (sym whole ∙ is)).0 configures)

pub key_listens_not : (words settings : List (List ℕ)) (last : List ℕ) → words ≡ settings ++ last ∷ [] → ((key : List ℕ) → IsKey last key → ⊥)
    → (c : Configuration) (key : List ℕ) → SetsListener words c key → ⊥
key_listens_not words settings last is none c key (others, end, whole, configures, keyed) =
    none key (subst (λ (word : List ℕ). IsKey word key) (same_parts others settings end last (sym whole ∙ is)).1 keyed)

-- ---- the end that is set up

pub caller_set : (words : List (List ℕ)) (name role : List ℕ) (rest : List (List ℕ)) (result : Option Endpoint) → words ≡ name ∷ role ∷ rest → role ≡ codes "caller"
    → MatchOption result ((c : Configuration) → Configures rest c → ⊥)
    (λ end. (c : Configuration) × Configures rest c × EndpointStands end (fresh_end c Caller Idle))
    → MatchOption result ((v : EndView) → SetsUp words v → ⊥) (λ end. (v : EndView) × SetsUp words v × EndpointStands end v)
caller_set words name role rest None is called none = caller_not words name role rest is called none
caller_set words name role rest (Some end) is called (c, configures, stands) =
    (fresh_end c Caller Idle, inl (name, rest, c, is ∙ ap (λ w. name ∷ w ∷ rest) called, configures, refl), stands)

pub listener_set : (words : List (List ℕ)) (name role : List ℕ) (rest : List (List ℕ)) (result : Option Endpoint) → words ≡ name ∷ role ∷ rest → role ≡ codes "listener"
    → MatchOption result ((c : Configuration) (key : List ℕ) → SetsListener rest c key → ⊥)
    (λ end. (c : Configuration) × (key : List ℕ) × (seal : Sealing) × SetsListener rest c key × IsUnder key seal
    × EndpointStands end (fresh_end c (Listener seal) Listening))
    → MatchOption result ((v : EndView) → SetsUp words v → ⊥) (λ end. (v : EndView) × SetsUp words v × EndpointStands end v)
listener_set words name role rest None is called none = listener_not words name role rest is called none
listener_set words name role rest (Some end) is called (c, key, seal, (settings, last, whole, configures, keyed), under, stands) = (
  fresh_end c (Listener seal) Listening,
  inr (name, last, key, settings, c, seal, is ∙ (λ i. name ∷ called i ∷ whole i), configures, keyed, under, refl),
  stands,
)
