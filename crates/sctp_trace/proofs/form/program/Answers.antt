use Rattle.std.proofs.Common.{ap, ap₂, refl, ◌∙◌, ◌≡◌, Bool, true, false, not, ◌&&◌, codes}
use Rattle.clap.specs.Words.{App, app_of}
use Rattle.clap.specs.Simple.{Shape, app_of_fields, new_app, on_top, with_subcommand}
use Rattle.sctp_trace.proofs.form.program.Goals as goal

-- a plain command has no global argument
third : (a b g rest : Bool) → (a && (b && (not g && rest))) ≡ true → g ≡ false
third true true false rest is = refl
third true true true rest is = absurd (cc)
third true false g rest is = absurd (cc)
third false b g rest is = absurd (cc)

pub returns-in_ok-program-in-Ok-with_hex : goal.returns-in_ok-program-in-Ok-with_hex
returns-in_ok-program-in-Ok-with_hex c =
    let top : app_of c.subcommand_required-bare.result ≡ on_top (λ s. record s { subcommand_required = true }) (new_app (codes "sctp-trace")) =
    ap app_of_fields c.subcommand_required-bare.ensures ∙ ap (on_top (λ s. record s { subcommand_required = true })) c.new.ensures.app in
    let first = c.in_ok-running.ensures.shape c.new-run.ensures.local ∙ ap₂ with_subcommand top (ap (λ (a : App). a.top) c.new-run.ensures.app) in
    let packet = c.in_ok-printing.ensures.shape (third _ _ _ _ (ap (λ (s : Shape). s.is_plain) c.in-Ok.ensures)) in
    let second = packet ∙ ap₂ with_subcommand first c.in-Ok.ensures in
    let chunks = c.in_ok-program-in-Ok-with_hex.ensures.shape (third _ _ _ _ (ap (λ (s : Shape). s.is_plain) c.in-Ok-with_hex.ensures)) in
    chunks ∙ ap₂ with_subcommand second c.in-Ok-with_hex.ensures
