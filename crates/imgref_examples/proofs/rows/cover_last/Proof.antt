-- `cover_last` lends the image to an iterator and the iterator to `step`, fills the last row and lets the others go: the image ends as its cells do. Assumes `Logic`.
use base.Share
use mir.Syntax.{Body}
use Rattle.std.proofs.Common.{⊎_elim, ◌≡◌, refl, sym, ap, subst, ℕ, List, [], ◌∷◌, length, replicate, T, lit<, MutBor, Option, Some, None}
use Rattle.std.proofs.alloc.Shapes.{after}
use Rattle.std.specs.contracts.option.Option as OP
use Rattle.image_model.specs.Layout.{Layout, Fits}
use Rattle.imgref.specs.Image.{with_all, layout_by}
use Rattle.borrow_laws.proofs.Walking.{full_share, Lft, GName, Share, feq, ftrue, fres, fat, flft, SProp, ent, emp, id⊢, sem, Args, Fn, Ty, named, ty_unit, skip, inst_fn, Val, WT, has_ty, vptr, vunit, of_list, Wp, after_seq, at_return, ◌⊑◌, ⊑_trans, meet_⊑_right, fact, fact_i, tables, Item, Sq, any_q, ‵, ◌⊛◌, raw, later, some, at_ret, runs, ◌$◌, ◌∵◌, !, qed, by, move, keep, drop, split, split3, join, fsplit, fjoin, feq_l, feq_i, rewrite, use0, use1, use2, use3, await, pick, live, vrt, in_variant, all_of, sub, agg, stop, fld, hop, from, addr, of_opd, unit_lit, and_then, no_more, first, switches_on, skips, exec, returns, enter, alloc_all, pass_all, free_all, look_at, look_in_at, get, get_in, get_tag, through, sets, lands_as, lands_last, env, holding, forget_but, take_at, give_at, Array, unit, no, follows, followed, finally-res, shows, Is, part_at, part_in_at, part_out_at, param, copied, param_laws, copied_laws, copied_copy, RattleType, owns, mut_vals, mut_Tells, plain, named_lft, types_at, MutSlice, nothing, heard, peeks, only, calls_at, calls_at_last, lasts, triple_of, framed, Stays, stay_ref, stay_dropped, walk_of, Goes-ref, Goes-dropped, proved, leaves, owned, row_Makes, lit}
use Rattle.borrow_laws.proofs.Bodies.{of_copied, first_arm, type_of}
use Rattle.borrow_laws.proofs.Declared.{typed}
use Rattle.borrow_laws.specs.Endings.{ends_as}
use Rattle.borrow_laws.proofs.Endings.{ends_beside, ends_said}
use Rattle.borrow_laws.proofs.Lifetimes.{Loan, Kept, lent, lends, ends}
use Rattle.borrow_laws.proofs.Places.{KeptPlace, lends_place, place_ends}
use Rattle.borrow_laws.proofs.Options.{none_or_some, none_told, some_told, some_slice, lent_val}
use Rattle.borrow_laws.proofs.Parts.{given_up}
use Rattle.image_shape.specs.declared.ends.End.TheVariants.{Last}
use Rattle.image_shape.specs.contracts.ends.End as end_type
use Rattle.image_shape.proofs.ends.End.TheLaws as end_laws
use Rattle.image_rows.specs.declared.writing.RowsIterMut.{RowsIterMut}
use Rattle.image_rows.specs.contracts.writing.RowsIterMut as P
use Rattle.image_rows.proofs.writing.RowsIterMut.TheLaws as laws
use Rattle.image_rows.proofs.IterValues.{cells_out}
use Rattle.image_rows.specs.contracts.writing.RowsIterMut.step as N
use Rattle.image_rows.proofs.writing.RowsIterMut.step.Met as stepping
use Rattle.imgref.specs.Spacing.{whole_spacing}
use Rattle.imgref.specs.Rows.{AreRows, cells_left, spacing_left, muts_left, rows_name, put_back, hands_on, Yields, Moves}
use Rattle.imgref.specs.declared.img.Img.{Img}
use Rattle.imgref.specs.contracts.img.Img.{the_row}
use Rattle.imgref.specs.contracts.img.Img.rows_mut as M
use Rattle.imgref.proofs.img.Img.rows_mut.Met as making
use Rattle.imgref_examples.specs.Rows.{with_last_row}
use Rattle.imgref_examples.proofs.LastRow.{none_left, last_left}
use Rattle.imgref_examples.specs.contracts.rows.fill_row as W
use Rattle.imgref_examples.proofs.rows.fill_row.Met as writing
use Rattle.imgref_examples.specs.contracts.rows.cover_last.{ended, clauses}
use Rattle.imgref_examples.specs.contracts.rows.cover_last.Key.{name as #self}
use Rattle.imgref_examples.proofs.rows.cover_last.Statement.{statement}
use Rattle.imgref_examples.proofs.rows.cover_last.Code as compiled

pub cover_last_spec : {M : Type 1} → statement M
cover_last_spec 𝓤 𝓛 𝓜 𝓡 wired X Y LX LY CY gh d gs ds gc dc bm bs bc =
    let H = 𝓛.H in let 𝓣 = tables 𝓤 H 𝓜 𝓡 𝓡.env in let fm = framed 𝓤 H 𝓜 𝓣 in
    let args : Args = of_copied X Y d ds dc in let fn : Fn = inst_fn args compiled.function in let R : RattleType = copied 1 Y in let Whole : RattleType = the_row (param 0 X) in let w = (copied_copy 1 Y CY).val in
    let En = ended X Y gh d gs ds gc dc in let c = clauses X Y gh d gs ds gc dc 𝓛 𝓜.mem 𝓡.returns in let hs : Stays En.signature.params En.kept = (stay_ref (0 ∷ []) tt (plain (λ _. Whole)), (stay_dropped (plain (λ _. R)) no, tt)) in
    proved 𝓛 En hs c 𝓜 𝓡 (Goes-ref 𝓛 3 0 tt (plain (λ _. Whole)), (Goes-dropped 𝓛 3 (plain (λ _. R)) no (λ κs x f. refl), tt)) (#self args) fn (compiled.unfolded 𝓤 H 𝓜 𝓡 wired (X, (Y, tt)) d ds dc)
    (λ κs. (mut_vals, ((λ x. w x ∷ []), tt))) (λ κs. (mut_Tells (named 0) κs.0 Whole, ((copied_copy 1 Y CY).tells, tt))) (λ κs qs bounds a gg are.
    let κ₀ : Lft = κs.0 in let κ₁ : Lft = κs.1.0 in let κ₂ : Lft = κs.1.1.0 in let q₀ : Share = qs.0 in let q₁ : Share = qs.1.0 in let q₂ : Share = qs.1.1.0 in
    let x : MutBor (Img X.Denot) = a.0 in let value : Y.Denot = a.1.0 in let v : Val = w value in
    let b : ℕ = x.ref_ptr.0 in let o : ℕ = x.ref_ptr.1 in let γ : GName = x.ghost_name in
    let old : Layout Y.Denot = layout_by gs.cells x.now in let Fit : Type 0 = Fits old in
    let bound : (walk_of 𝓛 En hs c).Ghost = ((κs, qs, bounds, a, (mut_vals x, (v ∷ [], tt))), gg) in
    let Post : Val → SProp 𝓤 = (walk_of 𝓛 En hs c).post bound in
    let good = (((copied_laws 1 Y LY).lawful 𝓛).typed value (v ∷ []) are.1.0).0 in
    qed 𝓛 (((‵ (flft κ₀ q₀) ⊛ ‵ (flft κ₁ q₁) ⊛ ‵ (flft κ₂ q₂) ⊛ ‵ ftrue) ⊛ ‵ (owns (types_at En.signature.params κs) a bound.0.4)) ∷ (raw (fact 𝓤 (κ₁ ⊑ X.lives)) ⊛ raw (fact 𝓤 (κ₂ ⊑ Y.lives)) ⊛ raw (fact 𝓤 Fit)) ∷ []) ∵
    move ! (1 ∷ []) $ split3 ! $ heard ! (κ₁ ⊑ X.lives) (λ inX. heard ! (κ₂ ⊑ Y.lives) (λ inY. heard ! Fit (λ fits. split ! $ move ! (1 ∷ []) $ fsplit ! $ move ! (1 ∷ []) $ fsplit ! $ keep ! (2 ∷ 0 ∷ 3 ∷ []) $
    -- [the image's reference; the value; the tokens]
    enter ! 𝓣.C 𝓣.Λ fn (vptr b o ∷ v ∷ []) Post $ alloc_all ! (λ l. pass_all ! refl ((tt, tt), (good, tt)) $
    sets ! (addr ! (through ! refl (stop !))) refl (tt, tt) $
    move ! (2 ∷ []) $ split3 ! $ move ! (2 ∷ []) $ split ! $ move ! (1 ∷ []) $ drop ! $ move ! (1 ∷ 3 ∷ []) $
    use2 𝓛 (later (some (λ (d : Loan). ‵ (lent Whole b o (d.0 ∷ κ₀) d.2 x.now) ⊛ ‵ (flft (d.0 ∷ κ₀) d.1) ⊛ raw (Kept 𝓛 Whole κ₀ q₀ b o γ x.now d)))) (lends 𝓛 Whole κ₀ q₀ b o γ x.now) $ await ! tt $ pick ! (λ d₀. split3 ! $
    let α : Lft = d₀.0 ∷ κ₀ in let qα : Share = d₀.1 in let δ : GName = d₀.2 in let below : α ⊑ κ₀ = meet_⊑_right (d₀.0 ∷ []) κ₀ in let in₁ : α ⊑ κ₁ = ⊑_trans α κ₀ κ₁ below bounds.1.0 in let in₂ : α ⊑ κ₂ = ⊑_trans α κ₀ κ₂ below bounds.0 in
    -- [the borrow; α; what is kept; κ₂; κ₁; the value]
    let G₁ = triple_of 𝓛 (M.signature X Y) (M.spec X Y gh d gs ds 𝓛 𝓜.mem 𝓡.returns) in
    let x₁ : MutBor (Img X.Denot) = record { ref_ptr = (b, o); ghost_name = δ; now = x.now } in
    let z₁ : G₁.Ghost = (((α, (κ₁, (κ₂, tt))), (qα, (q₁, (q₂, tt))), (in₁, (in₂, tt)), (x₁, tt), (mut_vals x₁, tt)), tt) in
    nothing ! $ move ! (1 ∷ 0 ∷ []) $ join ! $ nothing ! $ move ! (4 ∷ 0 ∷ []) $ join ! $ move ! (4 ∷ 0 ∷ []) $ join ! $ move ! (2 ∷ 0 ∷ []) $ join ! $ join ! $
    use0 𝓛 (raw (fact 𝓤 Fit)) (fact_i 𝓤 Fit (emp 𝓤) fits) $ use0 𝓛 (raw (fact 𝓤 (κ₂ ⊑ Y.lives))) (fact_i 𝓤 (κ₂ ⊑ Y.lives) (emp 𝓤) inY) $ join ! $ use0 𝓛 (raw (fact 𝓤 (κ₁ ⊑ X.lives))) (fact_i 𝓤 (κ₁ ⊑ X.lives) (emp 𝓤) inX) $ join ! $
    move ! (1 ∷ 0 ∷ []) $ use2 𝓛 (raw (G₁.pre z₁)) (id⊢ 𝓤 _) $
    -- [what the call asks; what is kept; the value]
    calls_at ! fm G₁ (making.met 𝓤 𝓛 𝓜 𝓡 (compiled.calls-imgref::img::Img::rows_mut 𝓡.env wired) X Y LX LY gh d gs ds bm bs) z₁ (and_then ! (get ! refl) (no_more !)) (λ v₁.
    let named_α = named_lft 3 0 tt (α, (κ₁, (κ₂, tt))) in
    let Rows : RattleType = P.the_row named_α (param 1 Y) in
    let Sort : Type 0 = RowsIterMut Y.Denot in
    let F : List Y.Denot → Img X.Denot = with_all gs.cells gh.with_cells x.now in
    use1 𝓛 (later (some (λ (r : Sort). ((‵ (flft α qα) ⊛ ‵ (flft κ₁ q₁) ⊛ ‵ (flft κ₂ q₂) ⊛ ‵ ftrue) ⊛ ‵ (Rows.own_val r (v₁ ∷ []))) ⊛ some (λ (ws : Unit {0} × Unit {0}). ‵ (lasts (M.ended X Y gh d gs ds) z₁.0.0 z₁.0.3 ws)
    ⊛ (‵ (follows Whole (Array (param 1 Y) 0) δ (rows_name r) F) ⊛ raw (fact 𝓤 (cells_left r ≡ old.cells)) ⊛ raw (fact 𝓤 (spacing_left r ≡ whole_spacing old.width old.height old.stride)) ⊛ raw (fact 𝓤 (AreRows old (muts_left r)))))))) (id⊢ 𝓤 _) $
    await ! tt $ pick ! (λ r. split ! $ split ! $ move ! (2 ∷ []) $ pick ! (λ ws₁. split ! $ drop ! $ split ! $ move ! (1 ∷ []) $ split ! $ heard ! (cells_left r ≡ old.cells) (λ cells. split ! $ heard ! (spacing_left r ≡ whole_spacing old.width old.height old.stride) (λ spacing. heard ! (AreRows old (muts_left r)) (λ all.
    -- [what follows; the tokens; the iterator; what is kept; the value]
    let LY₁ = param_laws 1 Y LY in
    let lowers = laws.lowers named_α (param 1 Y) LY₁ in
    let word : Sort → Val = lowers.lowered in
    let told : (s : Sort) (vs : List Val) → Is Rows s vs → vs ≡ word s ∷ [] = lowers.val_is in
    let fit : (s : Sort) (vs : List Val) → Is Rows s vs → _ = λ s vs is. (typed Rows (laws.the_row_laws named_α (param 1 Y) LY₁) lowers 𝓛 s vs is).0 in
    move ! (2 ∷ []) $ peeks ! Rows (Is Rows) (shows 𝓛 Rows) r (v₁ ∷ []) (λ is₁. let t₁ = told r (v₁ ∷ []) is₁ in
    rewrite ! 0 (λ (us : List Val). ‵ (Rows.own_val r us)) t₁ refl $
    lands_as ! (ap only t₁) refl (fit r (v₁ ∷ []) is₁) $
    sets ! (of_opd ! (get ! refl)) refl (fit r (v₁ ∷ []) is₁) $
    -- [the iterator; what follows; the tokens; what is kept; the value]
    move ! (2 ∷ []) $ split3 ! $ move ! (2 ∷ []) $ split ! $ move ! (1 ∷ []) $ drop ! $
    take_at ! 3 $ move ! (0 ∷ 4 ∷ []) $
    -- [local 3; the iterator; κ₂; α; κ₁; what follows; what is kept; the value]
    let spelled : Ty = type_of 3 fn.locals in
    use2 𝓛 (‵ (part_at Rows full_share r (l 3) 0)) (part_in_at 𝓛 Rows refl full_share r (l 3) 0 spelled refl (word r)) $ move ! (2 ∷ 0 ∷ []) $
    use2 𝓛 (later (some (λ (p : Loan). ‵ (lent Rows (l 3) 0 (p.0 ∷ α) p.2 r) ⊛ ‵ (flft (p.0 ∷ α) p.1) ⊛ ‵ (flft α (Share.right qα)) ⊛ raw (KeptPlace 𝓛 Rows α qα (l 3) p)))) (lends_place 𝓛 Rows α qα (l 3) r) $ await ! tt $ pick ! (λ p'. split3 ! $ move ! (2 ∷ []) $ split ! $ move ! (2 ∷ 3 ∷ []) $
    let β : Lft = p'.0 ∷ α in let qβ : Share = p'.1 in let ε : GName = p'.2 in let inside : β ⊑ α = meet_⊑_right (p'.0 ∷ []) α in
    -- [the borrow; β; α; what is kept of the place; κ₂; κ₁; what follows; what is kept; the value]
    sets ! (addr ! (from ! (stop !))) refl (tt, tt) $
    sets ! (agg ! (and_then ! (lit ! tt) (no_more !))) refl (tt, (record { fits = lit< tt }, tt)) $
    let e_last : Val = end_laws.lowered Last in
    let G₂ = triple_of 𝓛 (N.signature Y) (N.spec Y 𝓛 𝓜.mem 𝓡.returns) in
    let x₂ : MutBor Sort = record { ref_ptr = (l 3, 0); ghost_name = ε; now = r } in
    let z₂ : G₂.Ghost = (((β, (α, (κ₂, tt))), (qβ, (Share.right qα, (q₂, tt))), (inside, (⊑_trans β α κ₂ inside in₂, (in₂, tt))), (x₂, (Last, tt)), (mut_vals x₂, (e_last ∷ [], tt))), tt) in
    nothing ! $ owned ! end_type.the_row (Is end_type.the_row) (row_Makes end_type.the_row end_laws.the_row_plain 𝓛) Last (e_last ∷ []) ([], (refl, (tt, (refl, tt)))) $ join ! $ move ! (1 ∷ 0 ∷ []) $ join ! $
    nothing ! $ move ! (5 ∷ 0 ∷ []) $ join ! $ move ! (3 ∷ 0 ∷ []) $ join ! $ move ! (2 ∷ 0 ∷ []) $ join ! $ join ! $
    nothing ! $ use0 𝓛 (raw (fact 𝓤 (κ₂ ⊑ Y.lives))) (fact_i 𝓤 (κ₂ ⊑ Y.lives) (emp 𝓤) inY) $ join ! $ move ! (1 ∷ 0 ∷ []) $ use2 𝓛 (raw (G₂.pre z₂)) (id⊢ 𝓤 _) $
    -- [what the call asks; what is kept of the place; κ₁; what follows; what is kept; the value]
    calls_at ! fm G₂ (stepping.met 𝓤 𝓛 𝓜 𝓡 (compiled.calls-image_rows::writing::RowsIterMut::step 𝓡.env wired) Y LY) z₂ (and_then ! (get ! refl) (and_then ! (get ! refl) (no_more !))) (λ v₂.
    let Slice : RattleType = MutSlice (named 0) α R in
    let Row : RattleType = OP.the_row Slice in
    let Given : Type 0 = Option (MutBor (List Y.Denot)) in
    use1 𝓛 (later (some (λ (m : Given). ((‵ (flft β qβ) ⊛ ‵ (flft α (Share.right qα)) ⊛ ‵ (flft κ₂ q₂) ⊛ ‵ ftrue) ⊛ ‵ (Row.own_val m (v₂ ∷ []))) ⊛ some (λ (ws : Sort × (Unit {0} × Unit {0})). ‵ (lasts (N.ended Y) z₂.0.0 z₂.0.3 ws)
    ⊛ (‵ (hands_on R Last r m ws.0) ⊛ raw (fact 𝓤 (Yields Last r m ws.0)) ⊛ raw (fact 𝓤 (Moves Last r m ws.0))))))) (id⊢ 𝓤 _) $
    await ! tt $ pick ! (λ m. split ! $ split ! $ move ! (2 ∷ []) $ pick ! (λ ws₂. let t : Sort = ws₂.0 in split ! $ fsplit ! $ fsplit ! $ move ! (3 ∷ []) $ split3 ! $ move ! (1 ∷ []) $
    heard ! (Yields Last r m t) (λ steps. move ! (1 ∷ []) $ heard ! (Moves Last r m t) (λ moved.
    -- [what follows the row; how the iterator ends; its borrow; nothing; the tokens; the row; what is kept of the place; κ₁; what follows; what is kept; the value]
    move ! (4 ∷ []) $ split3 ! $ move ! (2 ∷ []) $ split ! $ move ! (1 ∷ []) $ drop ! $
    move ! (1 ∷ 2 ∷ []) $ join ! $
    -- [β and α; κ₂; what follows the row; how the iterator ends; its borrow; nothing; the row; what is kept of the place; κ₁; what follows; what is kept; the value]
    move ! (0 ∷ 7 ∷ 3 ∷ []) $ use3 𝓛 (later (‵ (part_at Rows full_share t (l 3) 0) ⊛ ‵ (flft α qα))) (place_ends 𝓛 Rows α qα (l 3) p' t) $ await ! tt $ split ! $
    use1 𝓛 (some (λ (v₃ : Val). ‵ (fat full_share spelled (l 3) 0 v₃) ⊛ ‵ (Rows.own_val t (v₃ ∷ [])))) (part_out_at 𝓛 Rows refl full_share t (l 3) 0 spelled refl) $ pick ! (λ v₃. split ! $
    move ! (1 ∷ []) $ peeks ! Rows (Is Rows) (shows 𝓛 Rows) t (v₃ ∷ []) (λ is₃. let t₃ = told t (v₃ ∷ []) is₃ in
    rewrite ! 0 (λ (us : List Val). ‵ (Rows.own_val t us)) t₃ refl $ move ! (1 ∷ []) $ rewrite ! 0 (λ (us : Val). ‵ (fat full_share spelled (l 3) 0 us)) (ap only t₃) refl $ give_at ! 3 $
    -- [the iterator; α; κ₂; what follows the row; its borrow; nothing; the row; κ₁; what follows; what is kept; the value]
    move ! (4 ∷ 5 ∷ []) $ drop ! $ drop ! $
    let A₀ : RattleType = Array R 0 in
    let Res : GName → List Y.Denot → Item 𝓤 = λ ν ys. ‵ (fres ν (A₀.coded.code ys)) in
    let given_back : ent 𝓤 (sem 𝓛 (Rows.own_val t (word t ∷ []))) (sem 𝓛 (fres (rows_name t) (A₀.coded.code (cells_left t)))) =
    qed 𝓛 (‵ (Rows.own_val t (word t ∷ [])) ∷ []) ∵ use1 𝓛 (‵ ((MutSlice named_α.mir α (param 1 Y)).own_val t.cells (lent_val t.cells ∷ []))) (cells_out named_α (param 1 Y) LY₁ 𝓛 t (word t ∷ [])) $
    by ! (given_up 𝓛 (param 1 Y) named_α.mir α t.cells (lent_val t.cells ∷ [])) in
    use1 𝓛 (Res (rows_name t) (cells_left t)) given_back $ move ! (4 ∷ []) $
    -- [the row; how the iterator's cells end; α; κ₂; what follows the row; κ₁; what follows; what is kept; the value]
    let E = env fn.locals l in
    let rest : Body = after 7 fn.body in
    let next = any_q (after_seq 𝓤 H (Wp 𝓤 H 𝓣.C 𝓣.Λ E rest (at_return 𝓤 H E Post)) (at_return 𝓤 H E Post)) in
    let zs : List Y.Denot = with_last_row old value in
    let tail : Sq 𝓛 (Res (rows_name r) zs ∷ ‵ (flft α qα) ∷ ‵ (flft κ₂ q₂) ∷ ‵ (flft κ₁ q₁) ∷ ‵ (follows Whole (Array (param 1 Y) 0) δ (rows_name r) F) ∷ raw (Kept 𝓛 Whole κ₀ q₀ b o γ x.now d₀)
    ∷ holding 𝓛 E ((1, vptr b o) ∷ (2, v) ∷ [])) (runs 𝓣.C 𝓣.Λ E rest (at_ret E Post)) =
    move ! (4 ∷ 0 ∷ []) $ use2 𝓛 (‵ (fres δ (Whole.coded.code (F zs)))) (followed 𝓛 Whole A₀ F δ (rows_name r) zs) $
    -- [how the image ends; α; κ₂; κ₁; what is kept]
    move ! (1 ∷ 4 ∷ 0 ∷ []) $ use3 𝓛 (later (‵ (flft κ₀ q₀) ⊛ ‵ (lent Whole b o κ₀ γ (F zs)))) (ends 𝓛 Whole κ₀ q₀ b o γ x.now d₀ (F zs)) $ await ! tt $ split ! $
    sets ! (of_opd ! (unit_lit !)) refl (tt, tt) $ returns ! (look_at ! 0 refl) $ free_all ! refl $
    -- [κ₀; the image; κ₂; κ₁]
    let Is_filled : Type 0 = F zs ≡ F zs in
    use0 𝓛 (raw (fact 𝓤 Is_filled)) (fact_i 𝓤 Is_filled (emp 𝓤) refl) $
    feq_i ! (List Val) (vunit ∷ []) (vunit ∷ []) refl $ nothing ! $ nothing ! $ fjoin ! $ move ! (4 ∷ 0 ∷ []) $ fjoin ! $
    nothing ! $ move ! (5 ∷ 0 ∷ []) $ join ! $ move ! (5 ∷ 0 ∷ []) $ join ! $ move ! (4 ∷ 0 ∷ []) $ join ! $
    -- [the tokens; the image; (); the ensures]
    by ! (leaves 𝓛 En hs c bound vunit tt (F zs, (tt, tt)) (tt, (tt, tt))) in
    ⊎_elim
    (λ (e : m ≡ None).
    let at_end : t ≡ r = subst (λ (m' : Given). Moves Last r m' t) e moved in
    rewrite ! 0 (λ (m' : Given). ‵ (Row.own_val m' (v₂ ∷ []))) e refl $
    peeks ! Row (Is Row) (shows 𝓛 Row) None (v₂ ∷ []) (λ is.
    lands_as ! (ap only (none_told Slice (v₂ ∷ []) is)) refl (tt, (record { fits = lit< tt }, tt)) $ drop ! $
    first ! $ switches_on ! (get_tag ! (vrt ! refl (fld ! refl (stop !))) (all_of !)) $ exec ! 𝓣.C 𝓣.Λ E skip next $ skips ! $
    exec ! 𝓣.C 𝓣.Λ E rest (at_ret E Post) $ forget_but ! E (1 ∷ 2 ∷ []) refl $
    -- [how the iterator's cells end; α; κ₂; what follows the row; κ₁; what follows; what is kept; the value]
    rewrite ! 0 (λ (s : Sort). Res (rows_name s) (cells_left t)) at_end refl $
    rewrite ! 0 (Res (rows_name r)) (none_left old r t value cells spacing all.count (subst (λ (m' : Given). Yields Last r m' t) e steps) at_end) refl $
    move ! (3 ∷ 7 ∷ []) $ drop ! $ drop ! $ tail))
    (λ (found : (y : MutBor (List Y.Denot)) × (m ≡ Some y)). let y : MutBor (List Y.Denot) = found.0 in let e : m ≡ Some y = found.1 in
    let ν : GName = y.ghost_name in let full : List Y.Denot = replicate (length y.now) value in
    let some_row : Val = live 1 (of_list (lent_val y ∷ [])) in
    rewrite ! 0 (λ (m' : Given). ‵ (Row.own_val m' (v₂ ∷ []))) e refl $
    rewrite ! 4 (λ (m' : Given). ‵ (hands_on R Last r m' t)) e refl $
    peeks ! Row (Is Row) (shows 𝓛 Row) (Some y) (v₂ ∷ []) (λ is. let told_y = some_told 𝓛 (named 0) α R y (v₂ ∷ []) is in
    let row_ok : WT (lent_val y) = (tt, (record { fits = is.1.1.1.1.0.0.1.0 }, tt)) in
    lands_as ! (ap only told_y) refl (tt, (record { fits = lit< tt }, (row_ok, tt))) $
    rewrite ! 0 (λ (us : List Val). ‵ (Row.own_val (Some y) us)) told_y refl $
    use1 𝓛 (‵ (feq (List Val) (some_row ∷ []) (some_row ∷ [])) ⊛ ‵ (Slice.own_val y (lent_val y ∷ []))) (some_slice 𝓛 (named 0) α R y some_row) $ split ! $ drop ! $
    -- [the row; how the iterator's cells end; α; κ₂; what follows the row; κ₁; what follows; what is kept; the value]
    first ! $ switches_on ! (get_tag ! (vrt ! refl (fld ! refl (stop !))) (all_of !)) $ exec ! 𝓣.C 𝓣.Λ E (first_arm (after 6 fn.body)) next $
    sets ! (of_opd ! (get_in ! (vrt ! refl (fld ! refl (stop !))) (in_variant ! 1 0 refl refl (all_of !)))) refl (tt, row_ok) $
    sets ! (addr ! (from ! (fld ! refl (hop ! (look_in_at ! 4 (sub ! 0 refl (all_of !))) (stop !))))) refl (tt, tt) $
    sets ! (agg ! (and_then ! (get ! refl) (and_then ! (get_in ! (fld ! refl (stop !)) (sub ! 1 refl (all_of !))) (no_more !)))) refl (tt, row_ok) $
    let G₃ = triple_of 𝓛 (W.signature Y) (W.spec Y gc dc 𝓛 𝓜.mem 𝓡.returns) in
    let z₃ : G₃.Ghost = (((α, (κ₂, tt)), (qα, (q₂, tt)), (in₂, tt), (y, (value, tt)), (lent_val y ∷ [], (v ∷ [], tt))), tt) in
    nothing ! $ move ! (9 ∷ 0 ∷ []) $ fjoin ! $ move ! (1 ∷ 0 ∷ []) $ fjoin ! $ nothing ! $ move ! (4 ∷ 0 ∷ []) $ join ! $ move ! (3 ∷ 0 ∷ []) $ join ! $ join ! $
    nothing ! $ use0 𝓛 (raw (fact 𝓤 (κ₂ ⊑ Y.lives))) (fact_i 𝓤 (κ₂ ⊑ Y.lives) (emp 𝓤) inY) $ join ! $ move ! (1 ∷ 0 ∷ []) $ use2 𝓛 (raw (G₃.pre z₃)) (id⊢ 𝓤 _) $
    -- [what the call asks; how the iterator's cells end; what follows the row; κ₁; what follows; what is kept]
    calls_at_last ! fm G₃ (writing.met 𝓤 𝓛 𝓜 𝓡 (compiled.calls-imgref_examples::rows::fill_row 𝓡.env wired) Y LY CY gc dc bc) z₃ (and_then ! (get ! refl) (and_then ! (get ! refl) (no_more !))) (λ v₄.
    use1 𝓛 (later (some (λ (u : Unit {0}). ((‵ (flft α qα) ⊛ ‵ (flft κ₂ q₂) ⊛ ‵ ftrue) ⊛ ‵ (unit.own_val u (v₄ ∷ []))) ⊛ some (λ (ws : List Y.Denot × (Unit {0} × Unit {0})). ‵ (lasts (W.ended Y gc dc) z₃.0.0 z₃.0.3 ws) ⊛ raw (fact 𝓤 (ws.0 ≡ full)))))) (id⊢ 𝓤 _) $
    await ! tt $ pick ! (λ u. split ! $ split ! $ move ! (1 ∷ []) $ feq_l ! (λ is_unit.
    lands_last ! refl (subst (λ (v' : Val). T (has_ty ty_unit v') × WT v') (sym (ap only is_unit)) (tt, tt)) $
    exec ! 𝓣.C 𝓣.Λ E rest (at_ret E Post) $
    move ! (1 ∷ []) $ pick ! (λ ws₃. split ! $ fsplit ! $ fsplit ! $ fsplit ! $ move ! (4 ∷ []) $ heard ! (ws₃.0 ≡ full) (λ is_full.
    -- [how the row ends; its length; its borrow; nothing; the tokens; how the iterator's cells end; what follows the row; κ₁; what follows; what is kept]
    use1 𝓛 (Res ν ws₃.0) (finally-res 𝓛 R ν ws₃.0) $ rewrite ! 0 (Res ν) is_full refl $
    move ! (0 ∷ 6 ∷ []) $ use2 𝓛 (‵ (ends_as A₀ A₀ (rows_name r) (rows_name t) (put_back Last r full))) (ends_beside 𝓛 A₀ A₀ A₀ (rows_name r) ν (rows_name t) (put_back Last r) full) $
    move ! (0 ∷ 5 ∷ []) $ use2 𝓛 (Res (rows_name r) (put_back Last r full (cells_left t))) (ends_said 𝓛 A₀ A₀ (rows_name r) (rows_name t) (put_back Last r full) (cells_left t)) $
    rewrite ! 0 (Res (rows_name r)) (last_left old r t value cells spacing all.count fits all.lengths y (subst (λ (m' : Given). Yields Last r m' t) e steps) (subst (λ (m' : Given). Moves Last r m' t) e moved)) refl $
    -- [how the cells end; the row's length; its borrow; nothing; the tokens; κ₁; what follows; what is kept]
    move ! (1 ∷ 2 ∷ 3 ∷ []) $ drop ! $ drop ! $ drop ! $ move ! (1 ∷ []) $ split3 ! $ move ! (2 ∷ []) $ drop ! $ forget_but ! E (1 ∷ 2 ∷ []) refl $ move ! (2 ∷ 0 ∷ 1 ∷ []) $ tail)))))))
    (none_or_some m)
    )))))))))))))))))))))
