-- The configurations of a script's pair are right, also behind lines of options.
use Rattle.std.proofs.Common.{◌≡◌, ℕ, Bool, true, false, List, inl, inr, None, sym, ap, ◌∙◌}
use Rattle.sctp_model.specs.end.EndView.{Configuration}
use Rattle.sctp_model.specs.end.Configured.{configuration_fault}
use Rattle.sctp_events.specs.Alike.{turned_round}
use Rattle.sctp_script.specs.Configuration.{PORT_A, PORT_B, IsOfPair, AreOfPair}
use Rattle.sctp_script.specs.Ends.{has_a, has_b}
use Rattle.sctp_script.specs.Grammar.{Pairs, Says}
use Rattle.sctp_script.specs.OptionLines.{GivenOption, LeaveAt}
use Rattle.sctp_script.specs.Places.{Place, Unpaired, Behind, Acted, Plain, Configures, SaysUnlimited, SaysPaired, SaysAt}
use Rattle.sctp_script.proofs.OptionsLeave.{left_at_ports}
use Rattle.sctp_script.proofs.SpellLemmas.{of_the_pair}

-- the ports the other way round bring no fault
turned_fault : (c : Configuration) → c.own_port ≡ PORT_A → c.peer_port ≡ PORT_B → configuration_fault (turned_round c) ≡ configuration_fault c
turned_fault c own peer =
    let there : configuration_fault (turned_round c) ≡ configuration_fault (record c { own_port = PORT_B; peer_port = PORT_A }) =
    ap (λ (p : ℕ). configuration_fault (record c { own_port = p; peer_port = c.own_port })) peer
    ∙ ap (λ (p : ℕ). configuration_fault (record c { own_port = PORT_B; peer_port = p })) own in
    let here : configuration_fault c ≡ configuration_fault (record c { own_port = PORT_A; peer_port = PORT_B }) =
    ap (λ (p : ℕ). configuration_fault (record c { own_port = p; peer_port = c.peer_port })) own
    ∙ ap (λ (p : ℕ). configuration_fault (record c { own_port = PORT_A; peer_port = p })) peer in
    there ∙ sym here

of_alike : (c : Configuration) → IsOfPair c → AreOfPair c (turned_round c)
of_alike c right = record {
  of_a = right;
  of_b = record { own_port = right.peer_port; peer_port = right.own_port; faultless = turned_fault c right.own_port right.peer_port ∙ right.faultless };
}

-- a line of a further command makes no pair
unlimited_pairs : (line : List ℕ) (c : Configuration) → SaysUnlimited line (Plain (Pairs c)) → Says true line (Pairs c)
unlimited_pairs line c (inl (r, args, is, says)) = absurd says
unlimited_pairs line c (inr (none, says)) = says

-- a line with a limit makes no pair
paired_pairs : (o : Bool) (line : List ℕ) (c : Configuration) → SaysPaired o line (Plain (Pairs c)) → Says true line (Pairs c)
paired_pairs false line c says = says
paired_pairs true line c (inl (vs, is, same)) = cc
paired_pairs true line c (inr (none, says)) = unlimited_pairs line c says

-- and sets no options
paired_configures : (o : Bool) (line : List ℕ) (c d : Configuration) → SaysPaired o line (Configures c d) → ⊥
paired_configures false line c d says = says
paired_configures true line c d (inl (vs, is, same)) = cc
paired_configures true line c d (inr (none, says)) = says

pub pair_right : (place : Place) (line : List ℕ) (c : Configuration) → SaysAt place line (Plain (Pairs c)) → AreOfPair c (turned_round c)
pair_right Unpaired line c says = of_alike c (of_the_pair false line c says)
pair_right (Behind o a b) line c (inl options) = absurd options.3
pair_right (Behind o a b) line c (inr plain) = of_alike c (of_the_pair true line c (paired_pairs o line c plain.1))
pair_right (Acted o) line c says = of_alike c (of_the_pair true line c (paired_pairs o line c says))

faultless_at : (named : Bool) (gs : List GivenOption) (c d : Configuration) → LeaveAt named gs c d → configuration_fault c ≡ None → configuration_fault d ≡ None
faultless_at true gs c d left fine = left.1
faultless_at false gs c d same fine = ap configuration_fault same ∙ fine

pub options_right : (line : List ℕ) (o : Bool) (a b c d : Configuration) → AreOfPair a b → SaysAt (Behind o a b) line (Configures c d) → AreOfPair c d
options_right line o a b c d right (inr plain) = absurd (paired_configures o line c d plain.1)
options_right line o a b c d right (inl (x, gs, is, both)) =
    let ports_a = left_at_ports (has_a x) gs a c both.0 in
    let ports_b = left_at_ports (has_b x) gs b d both.1 in
    record {
      of_a = record {
        own_port = ports_a.own ∙ right.of_a.own_port;
        peer_port = ports_a.peer ∙ right.of_a.peer_port;
        faultless = faultless_at (has_a x) gs a c both.0 right.of_a.faultless;
      };
      of_b = record {
        own_port = ports_b.own ∙ right.of_b.own_port;
        peer_port = ports_b.peer ∙ right.of_b.peer_port;
        faultless = faultless_at (has_b x) gs b d both.1 right.of_b.faultless;
      };
    }
