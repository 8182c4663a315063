-- A full slot's block owns what the slot owned.
use Rattle.std.proofs.Common.{List, [], ◌∷◌, ◌++◌, refl, sym, subst}
use mir.Val.{Val}
use base.Logic.{ent, id⊢}
use base.Fml.{ftrue, fsep}
use prog.Wp.{WpFn}
use types.Kit.{Item, ⋆, ‵, raw, ◌⊛◌, ◌$◌, ◌∵◌, !, qed, by, move, keep, drop, rewrite, use1, split, join, fsplit, fjoin, suffices, done}
use types.Run.{enter, of_opd, stop, fld, no_more, and_then, returns}
use types.ByLocal.{alloc_all, pass_all, free_all, look_at, get, get_in, sets}
use types.Part.{agg, whole, sub}
use contract.Monad.{fact}
use contract.Running.{tables}
use denote.Exit.{yes}
use denote.Signature.{plain}
use denote.Steps.{nothing, heard}
use denote.Triple.Walked.{says, Stays, stay_dropped, walk_of, ends_at, Goes-dropped}
use Rattle.std.proofs.raw_atomic.Walks.{proved_at}
use Rattle.std_alloc.proofs.BoxSteps.Form.{D, B, word, box_typed}
use Rattle.std_alloc.proofs.BoxSteps.Steps.{box_out, box_in}
use Rattle.std_heap.specs.contracts.Global as global
use Rattle.std_heap.specs.contracts.GlobalAllocator.TheImpl.{ghosts}
use Rattle.std.specs.Prelude.{Option}
use Rattle.sctp_c.specs.Slot.{IsFull, value_of}
use Rattle.sctp_c.specs.contracts.channels.held.Held as held
use Rattle.sctp_c.specs.contracts.block.Block as block
use Rattle.sctp_c.specs.contracts.channels.slot.ChannelsSlot as slot
use Rattle.sctp_c.specs.contracts.channels.slot.ChannelsSlot.into_block as f
use Rattle.sctp_c.proofs.Apart.{held_boxed as boxed}
use Rattle.sctp_c.proofs.channels.slot.ChannelsSlot.into_block.Statement.{statement}
use Rattle.sctp_c.proofs.channels.slot.ChannelsSlot.into_block.Code as code

abbrev stayed : Stays f.ended.signature.params f.ended.kept
stayed = (stay_dropped (plain (λ _. slot.the_row)) yes, tt)

pub into_block_spec : {M : Type 1} → statement M
into_block_spec 𝓤 𝓛 𝓜 𝓡 wired =
    let c = f.clauses 𝓛 𝓜.mem 𝓡.returns in let W = walk_of 𝓛 f.ended stayed c in let 𝓣 = tables 𝓤 𝓛.H 𝓜 𝓡 𝓡.env in
    proved_at 𝓛 f.ended stayed c 𝓜 𝓡 (Goes-dropped 𝓛 0 (plain (λ _. slot.the_row)) yes (λ κs x w. refl), tt)
    f.Key.name code.function (code.unfolded 𝓤 𝓛.H 𝓜 𝓡 wired) (λ y are.
    let d = y.0.3.0 in
    qed 𝓛 ((‵ ftrue ⊛ ‵ (fsep (slot.the_row.own_val d y.0.4.0) ftrue)) ∷ raw (fact 𝓤 (IsFull d.held)) ∷ []) ∵ split ! $ drop ! $ fsplit ! $
    move ! (2 ∷ []) $ heard ! (IsFull d.held) (λ full. let there = value_of d.held full in
    rewrite ! 0 (λ (o : Option held.the_row.Denot). ‵ (slot.the_row.own_val (record d { held = o }) y.0.4.0)) there.1 refl $
    let v : D boxed = record { ptr = d.at; alloc = d.alloc; value = there.0 } in
    let made : (block.the_row held.the_row global.the_row ghosts).Denot = record { at = d.at; alloc = d.alloc; value = there.0 } in
    use1 𝓛 (‵ ((B boxed).own_val v y.0.4.0)) (id⊢ 𝓤 _) $
    box_out boxed ! v y.0.4.0 (λ b o hv at_b is fits. box_in boxed ! v b o v.value at_b refl $
    let w = word boxed hv b o in
    use1 𝓛 (‵ ((block.the_row held.the_row global.the_row ghosts).own_val made (w ∷ []))) (id⊢ 𝓤 _) $ keep ! (0 ∷ []) $
    let Γ : List (Item 𝓤) = ‵ ((block.the_row held.the_row global.the_row ghosts).own_val made (w ∷ [])) ∷ [] in
    by ! (subst (λ (us : List Val). ent 𝓤 (⋆ 𝓛 Γ) (WpFn 𝓤 𝓛.H 𝓣.C 𝓣.Λ code.function (us ++ []) (W.post y))) (sym is)
    (qed 𝓛 Γ ∵ enter ! _ _ _ _ _ $ alloc_all ! (λ l. pass_all ! refl (box_typed boxed hv b o fits, tt) $
    sets ! (of_opd ! (get_in ! (fld ! refl (stop !)) (sub ! 0 refl (whole !)))) refl (tt, tt) $
    sets ! (of_opd ! (get_in ! (fld ! refl (stop !)) (sub ! 1 refl (whole !)))) refl fits $
    sets ! (of_opd ! (get ! refl)) refl (tt, tt) $
    sets ! (agg ! (and_then ! (get ! refl) (and_then ! (get ! refl) (no_more !)))) refl (box_typed boxed hv b o fits) $
    returns ! (look_at ! 0 refl) $ free_all ! refl $
    suffices ! _ (ends_at 𝓛 f.ended stayed c y w made (tt, tt) (tt, tt)) $ says ! there.1 $
    nothing ! $ nothing ! $ fjoin ! $ join ! $ nothing ! $ join ! $ done !))))))
