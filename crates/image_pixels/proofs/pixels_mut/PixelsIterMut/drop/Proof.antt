-- `drop` lets the cells go as they are. Assumes `Logic`.
use Rattle.std.proofs.Common.{refl, List, [], ◌∷◌}
use Rattle.borrow_laws.proofs.Walking.{Fn, a_type, dcons, dnil, inst_fn, Val, vunit, id⊢, Lft, Share, ftrue, flft, fres, coded_list, tables, ‵, raw, ◌⊛◌, ◌$◌, ◌∵◌, !, qed, by, move, keep, drop, use1, split, fsplit, fsplit3, fjoin, feq_i, enter, of_opd, unit_lit, returns, alloc_all, pass_all, free_all, look_at, sets, no, RattleType, param, bounded, param_laws, Lfts, in_a_block, plain, named_lft, nothing, Stays, walk_of, stay_dropped, Goes-dropped, proved, leaves}
use Rattle.image_pixels.proofs.pixels_mut.PixelsIterMut.TheLaws as laws
use Rattle.image_pixels.specs.Loans.{lent}
use Rattle.image_pixels.specs.contracts.pixels_mut.PixelsIterMut as P
use Rattle.image_pixels.specs.declared.pixels_mut.PixelsIterMut.{PixelsIterMut}
use Rattle.image_pixels.specs.contracts.pixels_mut.PixelsIterMut.drop as f
use Rattle.image_pixels.specs.contracts.pixels_mut.PixelsIterMut.drop.Key.{name as #self}
use Rattle.image_pixels.proofs.pixels_mut.PixelsIterMut.drop.Statement.{statement}
use Rattle.image_pixels.proofs.pixels_mut.PixelsIterMut.drop.Code as code

pub drop_spec : {M : Type 1} → statement M
drop_spec 𝓤 𝓛 𝓜 𝓡 wired T' L d glue =
    let R : RattleType = param 0 T' in let En = f.ended T' d in let c = f.clauses T' d 𝓛 𝓜.mem 𝓡.returns in
    let hs : Stays En.signature.params En.kept = (stay_dropped (plain (λ κs. P.the_row (named_lft 2 0 tt κs) R)) no, tt) in
    let inst = bounded (a_type ∷ []) (T', tt) (dcons d dnil) in let fn : Fn = inst_fn inst code.function in let 𝓣 = tables 𝓤 𝓛.H 𝓜 𝓡 𝓡.env in
    let laid = λ (κs : Lfts 2). laws.lowers (named_lft 2 0 tt κs) R (param_laws 0 T' L) in
    proved 𝓛 En hs c 𝓜 𝓡 (Goes-dropped 𝓛 2 (plain (λ κs. P.the_row (named_lft 2 0 tt κs) R)) no (λ κs x f. refl), tt) (#self inst) fn (code.unfolded 𝓤 𝓛.H 𝓜 𝓡 wired (T', tt) d)
    (λ κs. ((λ x. laws.lowered (named_lft 2 0 tt κs) R (param_laws 0 T' L) x ∷ []), tt)) (λ κs. ((laid κs).val_is, tt)) (λ κs qs bounds a g are.
    let κ₀ : Lft = κs.0 in let κ₁ : Lft = κs.1.0 in let q₀ : Share = qs.0 in let q₁ : Share = qs.1.0 in let α = named_lft 2 0 tt κs in let It : RattleType = P.the_row α R in
    let h : PixelsIterMut T'.Denot = a.0 in let vs : List Val = laws.lowered α R (param_laws 0 T' L) h ∷ [] in
    let W = walk_of 𝓛 En hs c in let y : W.Ghost = ((κs, qs, bounds, a, (vs, tt)), g) in
    qed 𝓛 (((‵ (flft κ₀ q₀) ⊛ ‵ (flft κ₁ q₁) ⊛ ‵ ftrue) ⊛ ‵ (It.own_val h vs) ⊛ ‵ ftrue) ∷ raw ((c κs a).requires g) ∷ []) ∵ move ! (1 ∷ []) $ drop ! $ split ! $ move ! (1 ∷ []) $ split ! $ fsplit ! $ drop ! $
    in_a_block ! h.current (λ p. lent κ₀ R h.name h.cells p) (id⊢ 𝓤 _) (λ b o e. fsplit3 ! $ drop ! $ use1 𝓛 (‵ (fres h.name ((coded_list R.coded).code h.cells))) (𝓛.names.obs-res h.name ((coded_list R.coded).code h.cells)) $ keep ! (0 ∷ 3 ∷ []) $
    enter ! 𝓣.C 𝓣.Λ fn vs (W.post y) $ alloc_all ! (λ l. pass_all ! refl (((laws.the_row_laws α R (param_laws 0 T' L)).lawful 𝓛).typed h vs are.0) $
    sets ! (of_opd ! (unit_lit !)) refl (tt, tt) $ returns ! (look_at ! 0 refl) $ free_all ! refl $
    feq_i ! (List Val) (vunit ∷ []) (vunit ∷ []) refl $ nothing ! $ nothing ! $ fjoin ! $ move ! (3 ∷ 0 ∷ 1 ∷ 2 ∷ []) $ by ! (leaves 𝓛 En hs c y vunit tt (tt, tt) (tt, tt)))))
