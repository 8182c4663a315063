use Rattle.std.proofs.Common.{MatchResult, sym, subst}
use Rattle.sctp_script.specs.PlacedAnswer.{place_meaning, FindsAt, RefusesAt}
use Rattle.sctp_script.specs.declared.placed.Place.{Place}
use Rattle.sctp_script.proofs.PlaceLemmas.{unpaired_says, acted_says}
use Rattle.sctp_script.proofs.placed.read_line_at.Goals as goal

pub returns-in-Unpaired : goal.returns-in-Unpaired
returns-in-Unpaired c =
    subst (λ (p : Place). MatchResult c.read_plain.result (λ found. FindsAt (place_meaning p) c.args.line.now found) (λ e. RefusesAt (place_meaning p) c.args.line.now e))
    (sym c.in-Unpaired.is) (unpaired_says c.args.line.now c.read_plain.result c.read_plain.ensures)

pub returns-in-Behind : goal.returns-in-Behind
returns-in-Behind c =
    subst (λ (p : Place). MatchResult c.read_behind.result (λ found. FindsAt (place_meaning p) c.args.line.now found) (λ e. RefusesAt (place_meaning p) c.args.line.now e))
    (sym c.in-Behind.is) c.read_behind.ensures

pub returns-in-Acted : goal.returns-in-Acted
returns-in-Acted c =
    subst (λ (p : Place). MatchResult c.read_paired.result (λ found. FindsAt (place_meaning p) c.args.line.now found) (λ e. RefusesAt (place_meaning p) c.args.line.now e))
    (sym c.in-Acted.is) (acted_says c.in-Acted.with_options c.args.line.now c.read_paired.result c.read_paired.ensures)
