-- What an assignment does to tickets: that of a message which begins has a number from now on; every other one waits, or names its message, as before.
use Rattle.std.proofs.Common.{◌≡◌, ℕ, zero, suc, ◌<◌, ◌⊎◌, inl, inr, List, [], ◌∷◌, ◌++◌, length, Bool, true, false, Option, Some, None, refl, sym, ap, ◌∙◌, subst, arith}
use Rattle.std.specs.Prelude.{◌==◌, if◌then◌else◌, option_map}
use Rattle.std.specs.Option.{option_or}
use Rattle.std.proofs.lemmas.Bool.Decides.{nat_tests}
use Rattle.sctp_model.specs.messages.Format.{Format}
use Rattle.sctp_model.specs.messages.Plan.{Entry, parts_from}
use Rattle.sctp_model.specs.sender.SenderView.{Queued, SenderView}
use Rattle.sctp_model.specs.sender.Words.{when}
use Rattle.sctp_model.specs.sender.Entries.{entry_message, continued}
use Rattle.sctp_model.specs.sender.Assigning.{with_message, with_entry, is_on, without_first, assigned}
use Rattle.sctp_model.specs.sender.Abandoning.{Name, name_at, name_of, name_among, waits, has_ticket, is_abandoned}
use Rattle.sctp_model.specs.sender.Reached.{IsReached}
use Rattle.sctp_model.proofs.sender.WishCases.{IsAssigned, Whole, Begun, Continued, assigned_cases}
use Rattle.sctp_model.proofs.sender.SetLaws.{AllFilled, is_filled}
use Rattle.sctp_model.proofs.sender.CountLaws.{is_named, new_kept}
use Rattle.sctp_model.proofs.sender.OwnLaws.{name_among-append, name_among-same, name_among-stays, name_among-parts}
use Rattle.sctp_model.proofs.sender.QueueLaws.{IsTaken, taken_head, taken_first, self_same}
use Rattle.sctp_model.proofs.sender.TicketLaws.{is_ticketed}
use Rattle.sctp_model.proofs.sender.NameLaws.{continued_owns}

-- a ticket that says what it said
pub record IsSameTicket (v u : SenderView) (t : ℕ) : Type 0 where
  pub waiting : waits t u.queue ≡ waits t v.queue
  pub named : name_of u t ≡ name_of v t

-- a ticket whose message takes its number
pub record IsNumberedNow (v u : SenderView) (t : ℕ) : Type 0 where
  pub was : waits t v.queue ≡ true
  pub gone : waits t u.queue ≡ false
  pub name : Name
  pub named : name_of u t ≡ Some name
  pub kept : is_abandoned u name ≡ false

or_absent : {A : Type 0} (o : Option A) → option_or o None ≡ o
or_absent None = refl
or_absent (Some x) = refl

-- the ticket's name in the plan in which a message took its number
name_new : (f : Format) (v : SenderView) (q : Queued) (d t : ℕ) → IsReached f v
    → name_among (with_message v.plan q (suc d)) t (v.plan.entries ++ parts_from q.lane (length (v.plan.messages q.lane)) 0 (suc d))
    ≡ option_or (name_of v t) (when (q.message.ticket == t) (record { lane = q.lane; number = length (v.plan.messages q.lane) }))
name_new f v q d t h =
    let p2 = with_message v.plan q (suc d) in
    let parts = parts_from q.lane (length (v.plan.messages q.lane)) 0 (suc d) in
    name_among-append p2 t v.plan.entries parts ∙ ap (λ (o : Option Name). option_or o (name_among p2 t parts)) (name_among-stays v.streams v.plan q (suc d) t v.plan.entries (is_named f v h))
    ∙ ap (option_or (name_of v t)) (name_among-parts v.plan q (suc d) t 0 d)

-- a message takes its number, and the queue is left without it
pub numbered_ticket : (f : Format) (v : SenderView) (q : Queued) (rest : List Queued) (d turn t : ℕ) → IsReached f v → IsTaken q rest v.queue
    → IsSameTicket v (record v { plan = with_message v.plan q (suc d); queue = rest; turn = turn }) t ⊎ IsNumberedNow v (record v { plan = with_message v.plan q (suc d); queue = rest; turn = turn }) t
numbered_ticket f v q rest d turn t h taken = by_ticket (q.message.ticket == t) refl
  where
    m : Name
    m = record { lane = q.lane; number = length (v.plan.messages q.lane) }

    same_ticket : q.message.ticket ≡ t → (waits t v.queue ≡ true) × (waits t rest ≡ false)
    same_ticket is = (subst (λ (x : ℕ). waits x v.queue ≡ true) is taken.was, subst (λ (x : ℕ). waits x rest ≡ false) is (taken.alone (is_ticketed f v h).apart).0)

    by_ticket : (b : Bool) → (q.message.ticket == t) ≡ b
        → IsSameTicket v (record v { plan = with_message v.plan q (suc d); queue = rest; turn = turn }) t ⊎ IsNumberedNow v (record v { plan = with_message v.plan q (suc d); queue = rest; turn = turn }) t
    by_ticket true on =
        let is : q.message.ticket ≡ t = grind (arith, nat_tests) in
        let waiting = same_ticket is in
        let none = ((is_ticketed f v h).waiting t waiting.0).2 in
        inr (record {
          was = waiting.0;
          gone = waiting.1;
          name = m;
          named = name_new f v q d t h ∙ rw (none, on) refl;
          kept = new_kept f v q.lane h;
        })
    by_ticket false off = inl (record {
      waiting = taken.others t (λ is. let on : (q.message.ticket == t) ≡ true = rw is (self_same t) in cc);
      named = name_new f v q d t h ∙ rw off (or_absent (name_of v t));
    })

-- a message in part takes its next fragment: it has its number already
pub continued_ticket : (f : Format) (v : SenderView) (s t : ℕ) (e : Entry) → IsReached f v → continued v.plan s ≡ Some e → name_among (with_entry v.plan e) t (v.plan.entries ++ e ∷ []) ≡ name_of v t
continued_ticket f v s t e h on =
    let p2 = with_entry v.plan e in
    name_among-same v.plan p2 t (v.plan.entries ++ e ∷ []) (λ x. refl) ∙ name_among-append v.plan t v.plan.entries (e ∷ []) ∙ by_ticket (has_ticket t (entry_message v.plan e)) refl
  where
    by_ticket : (b : Bool) → has_ticket t (entry_message v.plan e) ≡ b → option_or (name_of v t) (option_map name_at (if b then Some e else None)) ≡ name_of v t
    by_ticket false off = or_absent (name_of v t)
    by_ticket true mine =
        let named = (continued_owns f v s e h on t mine).2 in
        ap (λ (o : Option Name). option_or o (Some (name_at e))) named ∙ sym named

pub ticket_assigned : (f : Format) (v u : SenderView) (t : ℕ) → IsReached f v → assigned f v ≡ Some u → IsSameTicket v u t ⊎ IsNumberedNow v u t
ticket_assigned f v u t h is = by_case f u (assigned_cases f v u is)
  where
    by_count : (q : Queued) (rest : List Queued) (d : ℕ) → v.queue ≡ q ∷ rest → 0 < d
        → IsSameTicket v (record v { plan = with_message v.plan q d; queue = rest }) t ⊎ IsNumberedNow v (record v { plan = with_message v.plan q d; queue = rest }) t
    by_count q rest zero queue some = absurd (omega arith)
    by_count q rest (suc d) queue some = numbered_ticket f v q rest d v.turn t h (subst (λ (qs : List Queued). IsTaken q rest qs) (sym queue) (taken_head q rest))

    by_case : (g : Format) (x : SenderView) → IsAssigned v g x → IsSameTicket v x t ⊎ IsNumberedNow v x t
    by_case _ _ (Whole q rest queue) = by_count q rest (length q.message.fragments) queue (subst (λ (qs : List Queued). AllFilled v.streams qs) queue (is_filled f v h)).0.0
    by_case _ _ (Begun s q lt idle first) = numbered_ticket f v q (without_first (is_on s) v.queue) 0 _ t h (taken_first s q v.queue first)
    by_case _ _ (Continued s e lt on) = inl (record { waiting = refl; named = continued_ticket f v s t e h on })
