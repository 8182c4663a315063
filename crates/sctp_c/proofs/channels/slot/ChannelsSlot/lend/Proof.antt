-- A full slot lends its channels, and follows them.
use Rattle.std.proofs.Common.{◌≡◌, ℕ, List, [], ◌∷◌, refl}
use seplogic.Ra.Ura.{Ura}
use mir.Syntax.{named}
use mir.Raw.{raw as bare}
use mir.Val.{Val, vptr}
use base.Fraction.{full_share}
use base.Logic.{ent, sep, id⊢}
use base.Fml.{GName, Fml, ftrue, fsep, flft}
use types.Logic.{Logic, sem}
use types.Kit.{‵, raw, ◌⊛◌, some, later, at_ret, ◌$◌, ◌∵◌, !, qed, move, keep, use1, split, split3, join, group, pick, await, rewrite, fsplit, fsplit3, fjoin, fpack, suffices, frame, done}
use types.Part.{whole, sub, look_in}
use types.Run.{enter, of_opd, load, addr, stop, fld, first, blocks, exec, returns}
use types.ByLocal.{alloc_all, pass_all, free_all, look_at, get, through, sets, sets_last, env}
use contract.Monad.{fact}
use contract.Running.{tables}
use denote.Exit.{no}
use denote.Follow.{follows, Part, lends_Part}
use denote.Memory.{part_at, part_of, mem, cell_at}
use denote.RawPtr.{block_ptr}
use denote.Ref.{MutBor, MutRef, mut_vals, mut_Tells}
use denote.Signature.{plain, mut_ref_to}
use denote.Steps.{nothing, opens, heard}
use denote.Triple.Walked.{says, Stays, stay_dropped, walk_of, ends_at, Goes-spent_ref}
use Rattle.core.proofs.alloc.Calls.{token}
use Rattle.std.proofs.raw_atomic.Walks.{proved}
use Rattle.std.specs.Prelude.{Option}
use Rattle.std_alloc.proofs.BoxSteps.Form.{D, B, τ, word, handle}
use Rattle.std_alloc.proofs.BoxSteps.Steps.{box_out, box_in}
use Rattle.std_alloc.proofs.VecSteps.Shapes.{after}
use Rattle.sctp_c.specs.contracts.channels.held.Held as held
use Rattle.sctp_c.specs.Slot.{IsFull, value_of}
use Rattle.sctp_c.specs.channels.Lending.{with_held}
use Rattle.sctp_c.specs.contracts.channels.slot.ChannelsSlot as slot
use Rattle.sctp_c.specs.contracts.channels.slot.ChannelsSlot.lend as f
use Rattle.sctp_c.proofs.Apart.{heap, held_boxed as boxed}
use Rattle.sctp_c.proofs.channels.slot.ChannelsSlot.lend.Statement.{statement}
use Rattle.sctp_c.proofs.channels.slot.ChannelsSlot.lend.Code as code

abbrev stayed : Stays f.ended.signature.params f.ended.kept
stayed = (stay_dropped (mut_ref_to (0 ∷ []) tt (plain (λ _. slot.the_row))) no, tt)

module _ {M : Type 1} {𝓤 : Ura M} (𝓛 : Logic 𝓤) (h : slot.the_row.Denot) (b o rb ro : ℕ) (hv : Val) where
  -- all of the slot but its channels
  abbrev Rest : Fml
  Rest = fsep (fsep (token heap h.alloc (bare (τ boxed)) (block_ptr b o)) (handle boxed h.alloc hv)) (cell_at full_share slot.the_row.mir (word boxed hv b o ∷ []) rb ro)

  back : h.at ≡ block_ptr b o → (w : held.the_row.Denot) → ent 𝓤 (sep 𝓤 (sem 𝓛 ((mem held.the_row).own_at w b o)) (sem 𝓛 Rest)) (sem 𝓛 ((mem slot.the_row).own_at (with_held h w) rb ro))
  unfolding part_of
  back at_b w =
      let v : D boxed = record { ptr = h.at; alloc = h.alloc; value = w } in let us = word boxed hv b o ∷ [] in
      qed 𝓛 (‵ (part_at held.the_row full_share w b o) ∷ ‵ Rest ∷ []) ∵ move ! (1 ∷ []) $ fsplit ! $ fsplit ! $ move ! (3 ∷ []) $
      box_in boxed ! v b o w at_b refl $ use1 𝓛 (‵ (slot.the_row.own_val (with_held h w) us)) (id⊢ 𝓤 _) $ move ! (1 ∷ 0 ∷ []) $ fjoin ! $
      fpack ! (List Val) (λ ws. fsep (cell_at full_share slot.the_row.mir ws rb ro) (slot.the_row.own_val (with_held h w) ws)) us $ done !

pub lend_spec : {M : Type 1} → statement M
lend_spec 𝓤 𝓛 𝓜 𝓡 wired =
    let c = f.clauses 𝓛 𝓜.mem 𝓡.returns in let W = walk_of 𝓛 f.ended stayed c in let 𝓣 = tables 𝓤 𝓛.H 𝓜 𝓡 𝓡.env in
    proved 𝓛 f.ended stayed c 𝓜 𝓡 (Goes-spent_ref 𝓛 1 (0 ∷ []) tt (plain (λ _. slot.the_row)), tt)
    f.Key.name code.function (code.unfolded 𝓤 𝓛.H 𝓜 𝓡 wired)
    (λ κs. (mut_vals, tt)) (λ κs. (mut_Tells (named 0) κs.0 slot.the_row, tt)) (λ κs qs bounds a _ are.
    let κ = κs.0 in let q = qs.0 in let rb = a.0.ref_ptr.0 in let ro = a.0.ref_ptr.1 in let γ = a.0.ghost_name in let h = a.0.now in
    let y : W.Ghost = ((κs, qs, bounds, a, (mut_vals a.0, tt)), tt) in
    qed 𝓛 (((‵ (flft κ q) ⊛ ‵ ftrue) ⊛ ‵ ((MutRef (named 0) κ slot.the_row).own_val a.0 (mut_vals a.0)) ⊛ ‵ ftrue) ∷ raw (fact 𝓤 (IsFull h.held)) ∷ []) ∵
    move ! (1 ∷ []) $ heard ! (IsFull h.held) (λ full. let there = value_of h.held full in
    split ! $ split ! $ move ! (2 ∷ []) $ split ! $ keep ! (0 ∷ 2 ∷ []) $
    enter ! _ _ _ _ _ $ alloc_all ! (λ l. pass_all ! refl ((tt, tt), tt) $
    fsplit3 ! $ move ! (1 ∷ 2 ∷ 3 ∷ []) $ opens ! tt slot.the_row {h = h} rb ro (λ us. move ! (1 ∷ []) $
    rewrite ! 0 (λ (e : Option held.the_row.Denot). ‵ (slot.the_row.own_val (record h { held = e }) us)) there.1 refl $
    let v : D boxed = record { ptr = h.at; alloc = h.alloc; value = there.0 } in
    use1 𝓛 (‵ ((B boxed).own_val v us)) (id⊢ 𝓤 _) $ box_out boxed ! v us (λ b o hv at_b is fits.
    -- [the channels; the token; the handle; the slot's cell; the open borrow, in three entries]
    rewrite ! 3 (λ (ws : List Val). ‵ (cell_at full_share slot.the_row.mir ws rb ro)) is refl $
    sets ! (of_opd ! (load ! (through ! refl (fld ! refl (stop !))) (look_in ! 3 (sub ! 0 refl (whole !))))) refl (tt, tt) $
    sets ! (of_opd ! (get ! refl)) refl (tt, tt) $
    first ! $ blocks ! $ sets_last ! (addr ! (through ! refl (stop !))) refl (tt, tt) $
    exec ! 𝓣.C 𝓣.Λ (env code.Mir.locals l) (after 3 (code.function).body) (at_ret _ (W.post y)) $
    sets ! (of_opd ! (get ! refl)) refl (tt, tt) $
    move ! (1 ∷ 2 ∷ []) $ fjoin ! $ move ! (0 ∷ 2 ∷ []) $ fjoin ! $ move ! (2 ∷ 3 ∷ 4 ∷ 1 ∷ 0 ∷ []) $ group ! 5 $
    let rest = sem 𝓛 (Rest 𝓛 h b o rb ro hv) in let way = back 𝓛 h b o rb ro hv at_b in let said = slot.the_row.coded.code h in
    use1 𝓛 (later (some (λ (γ' : GName). raw (Part 𝓛 slot.the_row held.the_row (with_held h) (named 0) κ q rb ro b o γ rest way there.0 γ'))))
    (lends_Part 𝓛 slot.the_row held.the_row (with_held h) (named 0) κ q rb ro b o γ rest way said said there.0) $ await ! tt $ pick ! (λ γ'.
    returns ! (look_at ! 0 refl) $ free_all ! refl $ keep ! (0 ∷ []) $
    let lent : MutBor held.the_row.Denot = record { ref_ptr = (b, o); ghost_name = γ'; now = there.0 } in
    use1 𝓛 (‵ ((MutRef (named 0) κ held.the_row).own_val lent (vptr b o ∷ [])) ⊛ ‵ (flft κ q) ⊛ ‵ (follows slot.the_row held.the_row γ γ' (with_held h))) (id⊢ 𝓤 _) $
    split3 ! $ suffices ! _ (ends_at 𝓛 f.ended stayed c y (vptr b o) lent (tt, tt) (tt, tt)) $
    nothing ! $ nothing ! $ fjoin ! $ join ! $ nothing ! $ move ! (2 ∷ 0 ∷ []) $ join ! $ join ! $ frame ! $ says ! there.1 $ done !))))))
