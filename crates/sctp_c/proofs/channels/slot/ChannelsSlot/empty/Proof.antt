-- A slot at null owns its handle alone.
use Rattle.std.proofs.Common.{List, [], ◌∷◌, ◌++◌, refl, sym, subst}
use mir.Val.{Val, vnull}
use base.Logic.{ent, emp, id⊢}
use base.Fml.{ftrue, fsep}
use prog.Wp.{WpFn}
use types.Kit.{Item, ⋆, ‵, raw, ◌⊛◌, ◌$◌, ◌∵◌, !, qed, by, move, drop, use1, split, join, fsplit, fjoin, fpack, feq_i, suffices, done}
use types.Run.{enter, lit, no_more, and_then, returns}
use types.ByLocal.{alloc_all, pass_all, free_all, look_at, get, sets}
use types.Part.{agg}
use contract.Running.{tables}
use denote.Exit.{yes}
use denote.RattleType.{Valss}
use denote.RawPtr.{RawPtr, null_ptr}
use denote.Signature.{plain}
use denote.Steps.{nothing}
use denote.Struct.Struct.{within}
use denote.Struct.Owning.{shape, to}
use denote.Triple.Walked.{says, Stays, stay_dropped, walk_of, ends_at, Goes-dropped}
use Rattle.core.proofs.alloc.Calls.{handle_tells}
use Rattle.std.proofs.raw_atomic.Walks.{proved_at}
use Rattle.std.specs.Prelude.{None}
use Rattle.std_heap.specs.contracts.Global as global
use Rattle.sctp_c.specs.contracts.channels.slot.ChannelsSlot as slot
use Rattle.sctp_c.specs.contracts.channels.slot.ChannelsSlot.empty as f
use Rattle.sctp_c.proofs.Apart.{heap, empty_word, empty_typed}
use Rattle.sctp_c.proofs.channels.slot.ChannelsSlot.empty.Statement.{statement}
use Rattle.sctp_c.proofs.channels.slot.ChannelsSlot.empty.Code as code

abbrev stayed : Stays f.ended.signature.params f.ended.kept
stayed = (stay_dropped (plain (λ _. global.the_row)) yes, tt)

pub empty_spec : {M : Type 1} → statement M
empty_spec 𝓤 𝓛 𝓜 𝓡 wired =
    let c = f.clauses 𝓛 𝓜.mem 𝓡.returns in let W = walk_of 𝓛 f.ended stayed c in let 𝓣 = tables 𝓤 𝓛.H 𝓜 𝓡 𝓡.env in
    proved_at 𝓛 f.ended stayed c 𝓜 𝓡 (Goes-dropped 𝓛 0 (plain (λ _. global.the_row)) yes (λ κs x w. refl), tt)
    f.Key.name code.function (code.unfolded 𝓤 𝓛.H 𝓜 𝓡 wired) (λ y are.
    let a = y.0.3.0 in
    qed 𝓛 ((‵ ftrue ⊛ ‵ (fsep (global.the_row.own_val a y.0.4.0) ftrue)) ∷ raw (emp 𝓤) ∷ []) ∵ split ! $ drop ! $ fsplit ! $
    handle_tells heap ! a y.0.4.0 (λ hv is fits.
    let Γ : List (Item 𝓤) = ‵ (global.the_row.own_val a (hv ∷ [])) ∷ ‵ ftrue ∷ raw (emp 𝓤) ∷ [] in
    let w = empty_word hv in
    let made : slot.the_row.Denot = record { at = null_ptr; alloc = a; held = None } in
    by ! (subst (λ (us : List Val). ent 𝓤 (⋆ 𝓛 Γ) (WpFn 𝓤 𝓛.H 𝓣.C 𝓣.Λ code.function (us ++ []) (W.post y))) (sym is)
    (qed 𝓛 Γ ∵ enter ! _ _ _ _ _ $ alloc_all ! (λ l. pass_all ! refl (fits, tt) $
    sets ! (agg ! (and_then ! (lit ! tt) (and_then ! (get ! refl) (no_more !)))) refl (empty_typed hv fits) $
    returns ! (look_at ! 0 refl) $ free_all ! refl $
    -- [the handle; what an empty slot owns beside it; the requires]
    nothing ! $ move ! (1 ∷ 0 ∷ []) $ fjoin ! $ feq_i ! (List Val) (vnull ∷ []) (vnull ∷ []) refl $ fjoin ! $ feq_i ! (List Val) (w ∷ []) (w ∷ []) refl $ fjoin ! $
    fpack ! (Valss (RawPtr ∷ (global.the_field).row ∷ [])) (within (shape slot.the_type) (to slot.the_type made) (w ∷ [])) (vnull ∷ [], (hv ∷ [], tt)) $ fjoin ! $
    use1 𝓛 (‵ (slot.the_row.own_val made (w ∷ []))) (id⊢ 𝓤 _) $ move ! (1 ∷ []) $ drop ! $
    suffices ! _ (ends_at 𝓛 f.ended stayed c y w made (tt, tt) (tt, tt)) $ says ! refl $
    nothing ! $ nothing ! $ fjoin ! $ join ! $ nothing ! $ join ! $ done !)))))
