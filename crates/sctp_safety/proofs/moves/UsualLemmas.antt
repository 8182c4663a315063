-- Ways that moves lead to from a start, and what a call leaves: moves joined, and what a sender's view keeps beside the facts.
use Rattle.std.proofs.Common.{◌≡◌, ℕ, [], length, true, refl, sym, subst, ap, ◌∙◌, ◌≤◌}
use Rattle.sctp_model.specs.messages.Plan.{Plan}
use Rattle.sctp_model.specs.sender.SenderView.{SenderView}
use Rattle.sctp_safety.specs.Way.{Way, Change_sending, with_sender}
use Rattle.sctp_safety.specs.Exact.{Leads}
use Rattle.sctp_safety.specs.SenderLaws.{HasPart, IsSenderOrderly, HasConstants, IsUsual, IsMoved}
use Rattle.sctp_safety.proofs.moves.Facts.{Good}
use Rattle.sctp_safety.proofs.moves.Always.{kept_by-Run}
use Rattle.sctp_safety.proofs.moves.GoodStart.{good_start}
use Rattle.sctp_safety.proofs.plan.InPart.{AreEndsLast}
use Rattle.sctp_safety.proofs.moves.Taken.{leads_on, leads_by}

pub leads_good : (w v : Way) → Good w → Leads w v → Good v
leads_good w v g (es, run) = kept_by-Run w v es g run

pub good_usual : (w : Way) → IsUsual w → Good w
good_usual w u = leads_good u.origin w (good_start u.origin u.started) u.led

pub usual_on : (w v : Way) → IsUsual w → Leads w v → IsSenderOrderly v → IsUsual v
usual_on w v u leads order = record { origin = u.origin; started = u.started; led = leads_on u.origin w v u.led leads; order = order }

pub constants_same : (v : SenderView) → HasConstants v v
constants_same v = record { initial = refl; streams = refl; fragment = refl; partial = refl }

pub constants_on : (v u t : SenderView) → HasConstants v u → HasConstants u t → HasConstants v t
constants_on v u t a b = record {
  initial = b.initial ∙ a.initial;
  streams = b.streams ∙ a.streams;
  fragment = b.fragment ∙ a.fragment;
  partial = b.partial ∙ a.partial;
}

pub moved_on : (w v x : Way) → IsMoved w v → IsMoved v x → IsMoved w x
moved_on w v x a b = record {
  leads = leads_on w v x a.leads b.leads;
  order = b.order;
  constants = constants_on w.sender v.sender x.sender a.constants b.constants;
}

pub usual_moved : (w v : Way) → IsUsual w → IsMoved w v → IsUsual v
usual_moved w v u m = usual_on w v u m.leads m.order

pub nothing_moved : (w : Way) → IsSenderOrderly w → IsMoved w w
nothing_moved w order = record { leads = ([], refl); order = order; constants = constants_same w.sender }

-- a change of what moves don't speak of
pub retuned : (w : Way) (b : SenderView) → b.queue ≡ w.sender.queue → b.plan ≡ w.sender.plan → b.cum ≡ w.sender.cum →
    b.covered ≡ w.sender.covered → b.abandoned ≡ w.sender.abandoned → ((i : ℕ) → w.sender.repeats i ≤ b.repeats i) → Leads w (with_sender w b)
retuned w b queue plan cum covered abandoned repeats = leads_by w (with_sender w b) (Change_sending b)
    (record { queue = queue; plan = plan; cum = cum; covered = covered; abandoned = abandoned; repeats = repeats }, refl)

-- the same plan and tickets, and no mark more
pub order_fewer : (w v : Way) → v.sender.plan ≡ w.sender.plan → ((i : ℕ) → v.sender.marked i ≡ true → w.sender.marked i ≡ true) →
    v.sender.tickets ≡ w.sender.tickets → v.asked.calls ≡ w.asked.calls → IsSenderOrderly w → IsSenderOrderly v
order_fewer w v plan fewer tickets calls order = record {
  ends = subst AreEndsLast (sym plan) order.ends;
  marked = λ i h. subst (λ (p : Plan). HasPart p i) (sym plan) (order.marked i (fewer i h));
  tickets = tickets ∙ order.tickets ∙ ap length (sym calls);
}
