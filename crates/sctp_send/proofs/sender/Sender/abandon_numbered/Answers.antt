use Rattle.std.proofs.Common.{◌≡◌, ◌∙◌, map, subst, sym}
use Rattle.std.specs.Prelude.{not, ◌&&◌, true, false}
use Rattle.sctp_send.specs.OutstandingFields.{item_meaning}
use Rattle.sctp_send.specs.SenderFields.{track_meaning}
use Rattle.sctp_send.specs.SenderKept.{Kept}
use Rattle.sctp_send.specs.SenderStands.{StandsFor, Keeps}
use Rattle.sctp_send.specs.inner.Walks.{any_rest, any_uncovered}
use Rattle.sctp_send.proofs.abandon.AnswerLemmas.{answered_whole, answered_reliable, answered_abandoned, abandoned_may}
use Rattle.sctp_send.proofs.sender.Sender.abandon_numbered.Goals as goal

pub returns-then-is_all_covered-clause-answer : goal.returns-then-is_all_covered-clause-answer
unfolding StandsFor
returns-then-is_all_covered-clause-answer g c = λ v stands on.
    let s = c.self.inside in
    let keeps = subst (λ (k : Kept). Keeps g.F.Framing.format k v) (sym c.self.view_is) stands in
    let whole : (not (any_rest c.args.ticket (map (track_meaning s.told.fragment) s.parts.streams.items)) && not (any_uncovered c.args.ticket (map (item_meaning s.told.fragment) s.parts.outstanding.items))) ≡ true =
    sym (c.is_all_covered.ensures s.told.fragment) ∙ c.if-is_all_covered.true in
    (answered_whole g.F.Framing.format _ v c.args.ticket keeps on whole).answer

pub returns-then-is_all_covered-clause-step : goal.returns-then-is_all_covered-clause-step
unfolding StandsFor
returns-then-is_all_covered-clause-step g c = λ v stands on.
    let s = c.self.inside in
    let keeps = subst (λ (k : Kept). Keeps g.F.Framing.format k v) (sym c.self.view_is) stands in
    let whole : (not (any_rest c.args.ticket (map (track_meaning s.told.fragment) s.parts.streams.items)) && not (any_uncovered c.args.ticket (map (item_meaning s.told.fragment) s.parts.outstanding.items))) ≡ true =
    sym (c.is_all_covered.ensures s.told.fragment) ∙ c.if-is_all_covered.true in
    rw (answered_whole g.F.Framing.format _ v c.args.ticket keeps on whole).after stands

pub returns-then-not-self-clause-answer : goal.returns-then-not-self-clause-answer
unfolding StandsFor
returns-then-not-self-clause-answer g c = λ v stands on.
    let s = c.self.inside in
    let keeps = subst (λ (k : Kept). Keeps g.F.Framing.format k v) (sym c.self.view_is) stands in
    let missing : (not (any_rest c.args.ticket (map (track_meaning s.told.fragment) s.parts.streams.items)) && not (any_uncovered c.args.ticket (map (item_meaning s.told.fragment) s.parts.outstanding.items))) ≡ false =
    sym (c.is_all_covered.ensures s.told.fragment) ∙ c.if-is_all_covered.false in
    (answered_reliable g.F.Framing.format _ v c.args.ticket keeps on missing c.if-not-self.true).answer

pub returns-then-not-self-clause-step : goal.returns-then-not-self-clause-step
unfolding StandsFor
returns-then-not-self-clause-step g c = λ v stands on.
    let s = c.self.inside in
    let keeps = subst (λ (k : Kept). Keeps g.F.Framing.format k v) (sym c.self.view_is) stands in
    let missing : (not (any_rest c.args.ticket (map (track_meaning s.told.fragment) s.parts.streams.items)) && not (any_uncovered c.args.ticket (map (item_meaning s.told.fragment) s.parts.outstanding.items))) ≡ false =
    sym (c.is_all_covered.ensures s.told.fragment) ∙ c.if-is_all_covered.false in
    rw (answered_reliable g.F.Framing.format _ v c.args.ticket keeps on missing c.if-not-self.true).after stands

pub returns-clause-answer : goal.returns-clause-answer
unfolding StandsFor
returns-clause-answer g c = λ v stands on.
    let s = c.self.inside in
    let keeps = subst (λ (k : Kept). Keeps g.F.Framing.format k v) (sym c.self.view_is) stands in
    let missing : (not (any_rest c.args.ticket (map (track_meaning s.told.fragment) s.parts.streams.items)) && not (any_uncovered c.args.ticket (map (item_meaning s.told.fragment) s.parts.outstanding.items))) ≡ false =
    sym (c.is_all_covered.ensures s.told.fragment) ∙ c.if-is_all_covered.false in
    (answered_abandoned g.F.Framing.format _ v c.args.ticket keeps on missing c.if-not-self.false).answer

pub returns-clause-step : goal.returns-clause-step
unfolding StandsFor
returns-clause-step g c = λ v stands on.
    let s = c.self.inside in
    let keeps = subst (λ (k : Kept). Keeps g.F.Framing.format k v) (sym c.self.view_is) stands in
    let missing : (not (any_rest c.args.ticket (map (track_meaning s.told.fragment) s.parts.streams.items)) && not (any_uncovered c.args.ticket (map (item_meaning s.told.fragment) s.parts.outstanding.items))) ≡ false =
    sym (c.is_all_covered.ensures s.told.fragment) ∙ c.if-is_all_covered.false in
    c.give_up.ensures v stands on (abandoned_may v c.args.ticket (answered_abandoned g.F.Framing.format _ v c.args.ticket keeps on missing c.if-not-self.false))
