-- The FORWARD that was built last stays true as the plan grows.
use Rattle.std.proofs.Common.{◌≡◌, ℕ, ◌+◌, ◌≤◌, List, ◌++◌, length, take, drop, Option, Some, None, sym, ap, ◌∙◌, subst, arith, length-append}
use Rattle.std.proofs.lemmas.List.{drop-append-le, take-append-le, length-drop}
use Rattle.sctp_model.specs.messages.Format.{Format, Lane}
use Rattle.sctp_model.specs.messages.Plan.{Entry}
use Rattle.sctp_send.specs.ForwardKept.{IsBuilt, IsForwardKept}
use Rattle.sctp_send.specs.declared.kept.last_forward.LastForward.{LastForward}

-- the entries between two indexes are the same in a longer plan
same_between : (c n : ℕ) (es more : List Entry) → c + n ≤ length es → take n (drop c (es ++ more)) ≡ take n (drop c es)
same_between c n es more le =
    ap (take n) (drop-append-le c es more (omega (arith, le))) ∙ take-append-le n (drop c es) more (omega (arith, le, length-drop c es))

pub still_forward : (f : Format) (base : Lane → ℕ) (streams : ℕ) (es more now : List Entry) (o : Option LastForward) → now ≡ es ++ more → IsForwardKept f base streams es o → IsForwardKept f base streams now o
still_forward f base streams es more now None is h = tt
still_forward f base streams es more now (Some l) is h = record {
  there = let long = ap (λ (xs : List Entry). length xs) is in omega (arith, long, length-append es more, h.there);
  built = subst (λ (xs : List Entry). IsBuilt f base streams xs l) (sym (ap (λ (xs : List Entry). take l.run (drop l.cum xs)) is ∙ same_between l.cum l.run es more h.there)) h.built;
}
