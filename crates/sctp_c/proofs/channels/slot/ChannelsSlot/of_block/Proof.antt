-- A slot owns what the block owned.
use Rattle.std.proofs.Common.{List, [], ◌∷◌, ◌++◌, refl, sym, subst}
use mir.Val.{Val}
use base.Logic.{ent, emp, id⊢}
use base.Fml.{ftrue, fsep}
use prog.Wp.{WpFn}
use types.Kit.{Item, ⋆, ‵, raw, ◌⊛◌, ◌$◌, ◌∵◌, !, qed, by, keep, drop, use1, split, join, fsplit, fjoin, suffices, done}
use types.Run.{enter, of_opd, stop, fld, no_more, and_then, returns}
use types.ByLocal.{alloc_all, pass_all, free_all, look_at, get, get_in, sets}
use types.Part.{agg, whole, sub}
use contract.Running.{tables}
use denote.Exit.{yes}
use denote.Signature.{plain}
use denote.Steps.{nothing}
use denote.Triple.Walked.{says, Stays, stay_dropped, walk_of, ends_at, Goes-dropped}
use Rattle.std.proofs.raw_atomic.Walks.{proved_at}
use Rattle.std_alloc.proofs.BoxSteps.Form.{D, B, word, box_typed}
use Rattle.std_alloc.proofs.BoxSteps.Steps.{box_out, box_in}
use Rattle.std.specs.Prelude.{Some}
use Rattle.std_heap.specs.contracts.Global as global
use Rattle.std_heap.specs.contracts.GlobalAllocator.TheImpl.{ghosts}
use Rattle.sctp_c.specs.contracts.channels.held.Held as held
use Rattle.sctp_c.specs.contracts.block.Block as block
use Rattle.sctp_c.specs.contracts.channels.slot.ChannelsSlot as slot
use Rattle.sctp_c.specs.contracts.channels.slot.ChannelsSlot.of_block as f
use Rattle.sctp_c.proofs.Apart.{held_boxed as boxed}
use Rattle.sctp_c.proofs.channels.slot.ChannelsSlot.of_block.Statement.{statement}
use Rattle.sctp_c.proofs.channels.slot.ChannelsSlot.of_block.Code as code

abbrev stayed : Stays f.ended.signature.params f.ended.kept
stayed = (stay_dropped (plain (λ _. block.the_row held.the_row global.the_row ghosts)) yes, tt)

pub of_block_spec : {M : Type 1} → statement M
of_block_spec 𝓤 𝓛 𝓜 𝓡 wired =
    let c = f.clauses 𝓛 𝓜.mem 𝓡.returns in let W = walk_of 𝓛 f.ended stayed c in let 𝓣 = tables 𝓤 𝓛.H 𝓜 𝓡 𝓡.env in
    proved_at 𝓛 f.ended stayed c 𝓜 𝓡 (Goes-dropped 𝓛 0 (plain (λ _. block.the_row held.the_row global.the_row ghosts)) yes (λ κs x w. refl), tt)
    f.Key.name code.function (code.unfolded 𝓤 𝓛.H 𝓜 𝓡 wired) (λ y are.
    let v : D boxed = record { ptr = y.0.3.0.at; alloc = y.0.3.0.alloc; value = y.0.3.0.value } in
    let made : slot.the_row.Denot = record { at = v.ptr; alloc = v.alloc; held = Some v.value } in
    qed 𝓛 ((‵ ftrue ⊛ ‵ (fsep ((B boxed).own_val v y.0.4.0) ftrue)) ∷ raw (emp 𝓤) ∷ []) ∵ split ! $ drop ! $ fsplit ! $
    box_out boxed ! v y.0.4.0 (λ b o hv at_b is fits. box_in boxed ! v b o v.value at_b refl $
    let w = word boxed hv b o in
    use1 𝓛 (‵ (slot.the_row.own_val made (w ∷ []))) (id⊢ 𝓤 _) $ keep ! (0 ∷ []) $
    let Γ : List (Item 𝓤) = ‵ (slot.the_row.own_val made (w ∷ [])) ∷ [] in
    by ! (subst (λ (us : List Val). ent 𝓤 (⋆ 𝓛 Γ) (WpFn 𝓤 𝓛.H 𝓣.C 𝓣.Λ code.function (us ++ []) (W.post y))) (sym is)
    (qed 𝓛 Γ ∵ enter ! _ _ _ _ _ $ alloc_all ! (λ l. pass_all ! refl (box_typed boxed hv b o fits, tt) $
    sets ! (of_opd ! (get_in ! (fld ! refl (stop !)) (sub ! 0 refl (whole !)))) refl (tt, tt) $
    sets ! (of_opd ! (get_in ! (fld ! refl (stop !)) (sub ! 1 refl (whole !)))) refl fits $
    sets ! (of_opd ! (get ! refl)) refl (tt, tt) $
    sets ! (agg ! (and_then ! (get ! refl) (and_then ! (get ! refl) (no_more !)))) refl (box_typed boxed hv b o fits) $
    returns ! (look_at ! 0 refl) $ free_all ! refl $
    suffices ! _ (ends_at 𝓛 f.ended stayed c y w made (tt, tt) (tt, tt)) $ says ! refl $
    nothing ! $ nothing ! $ fjoin ! $ join ! $ nothing ! $ join ! $ done !)))))
