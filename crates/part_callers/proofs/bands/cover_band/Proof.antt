-- `cover_band` makes the bands of an image, takes the first, fills it and lets the others go: what the image shows then. Assumes `Logic`.
use base.Share
use mir.Syntax.{Body}
use Rattle.std.proofs.Common.{⊎_elim, ◌≡◌, refl, sym, ap, subst, ◌∙◌, ℕ, ◌^◌, ◌<◌, List, [], ◌∷◌, length, T, lit<, w64, MutBor, Option, Some, None}
use Rattle.std.proofs.alloc.Shapes.{after}
use Rattle.std.specs.Iterator.{YieldsFirstBy}
use Rattle.std.specs.contracts.option.Option as OP
use Rattle.image_model.specs.Layout.{Layout, Fits, SameOutside}
use Rattle.image_model.specs.Grid.{grid_of, uniform}
use Rattle.image_shape.specs.declared.shape.Shape.{Shape}
use Rattle.image_shape.specs.contracts.shape.Shape as shape
use Rattle.imgref.specs.Image.{with_all, layout_by, mut_layout, shape_of}
use Rattle.imgref.proofs.ImageValues.{shape_val, shape_made, img_row, LentCells, lent_cells_laws, ImgParts, img_parts_told}
use Rattle.borrow_laws.proofs.Walking.{full_share, Lft, GName, Share, ftrue, fres, fat, flft, SProp, ent, emp, id⊢, sem, Args, Fn, Ty, named, ty_unit, skip, inst_fn, vint, Val, WT, has_ty, vptr, vunit, Wp, after_seq, at_return, ◌⊑◌, ⊑_refl, ⊑_meet, ⊑_trans, meet_⊑_right, fact, fact_i, tables, Item, Sq, any_q, ‵, ◌⊛◌, raw, later, some, at_ret, runs, ◌$◌, ◌∵◌, !, qed, by, move, keep, drop, split, split3, join, fsplit, fpick, fjoin, feq_l, feq_i, rewrite, use0, use1, use2, use3, await, pick, vrt, in_variant, all_of, sub, agg, stop, fld, hop, from, addr, of_opd, unit_lit, and_then, no_more, first, switches_on, skips, exec, returns, enter, alloc_all, pass_all, free_all, look_at, look_in_at, get, get_in, get_tag, through, sets, lands_as, lands_last, env, holding, forget_but, take_at, give_at, Array, unit, usize, no, yes, follows, followed, finally-res, shows, Is, uint_Makes, uint_vals, uint_Tells, part_at, part_in_at, part_out_at, param, copied, param_laws, copied_laws, copied_copy, RattleType, owns, mut_vals, mut_Tells, plain, named_lft, types_at, MutSlice, slice_val, nothing, heard, owned, peeks, only, calls_at, calls_at_last, lasts, triple_of, framed, Stays, stay_ref, stay_dropped, walk_of, Goes-ref, Goes-dropped, proved, leaves}
use Rattle.borrow_laws.proofs.Bodies.{of_copied, first_arm, type_of}
use Rattle.borrow_laws.proofs.Declared.{typed}
use Rattle.borrow_laws.specs.Endings.{ends_as}
use Rattle.borrow_laws.proofs.Endings.{ends_beside, ends_said}
use Rattle.borrow_laws.proofs.Lifetimes.{Loan, Kept, lent, lends, ends}
use Rattle.borrow_laws.proofs.Places.{KeptPlace, lends_place, place_ends}
use Rattle.borrow_laws.proofs.Options.{none_or_some, none_told, lent_val}
use Rattle.borrow_laws.proofs.Parts.{given_up}
use Rattle.image_tiles.specs.declared.bands.BandsMut.{BandsMut}
use Rattle.image_tiles.specs.contracts.bands.BandsMut as P
use Rattle.image_tiles.proofs.bands.BandsMut.TheLaws as laws
use Rattle.image_tiles.proofs.BandValues.{cells_out, band_val, band_ok, band_told}
use Rattle.image_tiles.specs.contracts.bands.BandsMut.step as N
use Rattle.image_tiles.proofs.bands.BandsMut.step.Met as stepping
use Rattle.image_tiles.specs.Bands.{bands, bands_left, cells_left, spacing_left, band_spacing, bands_name, put_back, hands_on, Moves}
use Rattle.imgref.specs.declared.img.Img.{Img}
use Rattle.imgref.specs.contracts.img.Img.{the_row}
use Rattle.imgref.specs.contracts.img.Img.into_parts as parts
use Rattle.imgref.proofs.img.Img.into_parts.Met as apart
use Rattle.part_callers.specs.contracts.bands.bands_of as M
use Rattle.part_callers.proofs.bands.bands_of.Met as making
use Rattle.part_callers.specs.Bands.{HasFirstBand}
use Rattle.part_callers.proofs.LentImages.{some_image}
use Rattle.part_callers.proofs.FirstBand.{no_band, first_band, first_fits, in_image}
use Rattle.part_callers.specs.contracts.fills.fill as W
use Rattle.part_callers.proofs.fills.fill.Met as writing
use Rattle.part_callers.specs.contracts.bands.cover_band.{ended, clauses}
use Rattle.part_callers.specs.contracts.bands.cover_band.Key.{name as #self}
use Rattle.part_callers.proofs.bands.cover_band.Statement.{statement}
use Rattle.part_callers.proofs.bands.cover_band.Code as compiled

pub cover_band_spec : {M : Type 1} → statement M
cover_band_spec 𝓤 𝓛 𝓜 𝓡 wired X Y LX LY CY gh d gs ds gc dc bm bs bc =
    let H = 𝓛.H in let 𝓣 = tables 𝓤 H 𝓜 𝓡 𝓡.env in let fm = framed 𝓤 H 𝓜 𝓣 in
    let args : Args = of_copied X Y d ds dc in let fn : Fn = inst_fn args compiled.function in let R : RattleType = copied 1 Y in let Whole : RattleType = the_row (param 0 X) in let w = (copied_copy 1 Y CY).val in
    let En = ended X Y gh d gs ds gc dc in let c = clauses X Y gh d gs ds gc dc 𝓛 𝓜.mem 𝓡.returns in let hs : Stays En.signature.params En.kept = (stay_ref (0 ∷ []) tt (plain (λ _. Whole)), (stay_dropped (plain (λ _. usize)) yes, (stay_dropped (plain (λ _. R)) no, tt))) in
    proved 𝓛 En hs c 𝓜 𝓡 (Goes-ref 𝓛 3 0 tt (plain (λ _. Whole)), (Goes-dropped 𝓛 3 (plain (λ _. usize)) yes (λ κs x f. refl), (Goes-dropped 𝓛 3 (plain (λ _. R)) no (λ κs x f. refl), tt))) (#self args) fn (compiled.unfolded 𝓤 H 𝓜 𝓡 wired (X, (Y, tt)) d ds dc)
    (λ κs. (mut_vals, (uint_vals w64, ((λ x. w x ∷ []), tt)))) (λ κs. (mut_Tells (named 0) κs.0 Whole, (uint_Tells w64, ((copied_copy 1 Y CY).tells, tt)))) (λ κs qs bounds a gg are.
    let κ₀ : Lft = κs.0 in let κ₁ : Lft = κs.1.0 in let κ₂ : Lft = κs.1.1.0 in let q₀ : Share = qs.0 in let q₁ : Share = qs.1.0 in let q₂ : Share = qs.1.1.0 in
    let x : MutBor (Img X.Denot) = a.0 in let bh : ℕ = a.1.0 in let low : bh < 2 ^ 64 = are.1.0.1 in let value : Y.Denot = a.1.1.0 in let v : Val = w value in let narrow = x.now.holds_width in
    let b : ℕ = x.ref_ptr.0 in let o : ℕ = x.ref_ptr.1 in let γ : GName = x.ghost_name in
    let old : Layout Y.Denot = layout_by gs.cells x.now in let Fit : Type 0 = Fits old in let High : Type 0 = 0 < bh in
    let bound : (walk_of 𝓛 En hs c).Ghost = ((κs, qs, bounds, a, (mut_vals x, (vint w64 bh ∷ [], (v ∷ [], tt)))), gg) in
    let Post : Val → SProp 𝓤 = (walk_of 𝓛 En hs c).post bound in
    let good = (((copied_laws 1 Y LY).lawful 𝓛).typed value (v ∷ []) are.1.1.0).0 in
    qed 𝓛 (((‵ (flft κ₀ q₀) ⊛ ‵ (flft κ₁ q₁) ⊛ ‵ (flft κ₂ q₂) ⊛ ‵ ftrue) ⊛ ‵ (owns (types_at En.signature.params κs) a bound.0.4)) ∷ (raw (fact 𝓤 (κ₁ ⊑ X.lives)) ⊛ raw (fact 𝓤 (κ₂ ⊑ Y.lives)) ⊛ raw (fact 𝓤 Fit) ⊛ raw (fact 𝓤 High)) ∷ []) ∵
    move ! (1 ∷ []) $ split3 ! $ heard ! (κ₁ ⊑ X.lives) (λ inX. heard ! (κ₂ ⊑ Y.lives) (λ inY. split ! $ heard ! Fit (λ fits. heard ! High (λ high. split ! $ move ! (1 ∷ []) $ fsplit ! $ move ! (1 ∷ []) $ fsplit ! $ move ! (1 ∷ []) $ fsplit ! $ keep ! (3 ∷ 0 ∷ 4 ∷ []) $
    -- [the image's reference; the value; the tokens]
    enter ! 𝓣.C 𝓣.Λ fn (vptr b o ∷ vint w64 bh ∷ v ∷ []) Post $ alloc_all ! (λ l. pass_all ! refl ((tt, tt), ((tt, record { fits = low }), (good, tt))) $
    sets ! (addr ! (through ! refl (stop !))) refl (tt, tt) $
    move ! (2 ∷ []) $ split3 ! $ move ! (2 ∷ []) $ split ! $ move ! (1 ∷ []) $ drop ! $ move ! (1 ∷ 3 ∷ []) $
    use2 𝓛 (later (some (λ (d : Loan). ‵ (lent Whole b o (d.0 ∷ κ₀) d.2 x.now) ⊛ ‵ (flft (d.0 ∷ κ₀) d.1) ⊛ raw (Kept 𝓛 Whole κ₀ q₀ b o γ x.now d)))) (lends 𝓛 Whole κ₀ q₀ b o γ x.now) $ await ! tt $ pick ! (λ d₀. split3 ! $
    let α : Lft = d₀.0 ∷ κ₀ in let qα : Share = d₀.1 in let δ : GName = d₀.2 in let below : α ⊑ κ₀ = meet_⊑_right (d₀.0 ∷ []) κ₀ in let in₁ : α ⊑ κ₁ = ⊑_trans α κ₀ κ₁ below bounds.1.0 in let in₂ : α ⊑ κ₂ = ⊑_trans α κ₀ κ₂ below bounds.0 in
    -- [the borrow; α; what is kept; κ₂; κ₁; the value]
    let G₁ = triple_of 𝓛 (M.signature X Y) (M.spec X Y gh d gs ds 𝓛 𝓜.mem 𝓡.returns) in
    let x₁ : MutBor (Img X.Denot) = record { ref_ptr = (b, o); ghost_name = δ; now = x.now } in
    let z₁ : G₁.Ghost = (((α, (κ₁, (κ₂, tt))), (qα, (q₁, (q₂, tt))), (in₁, (in₂, tt)), (x₁, (bh, tt)), (mut_vals x₁, (vint w64 bh ∷ [], tt))), tt) in
    nothing ! $ owned ! usize (Is usize) (uint_Makes 𝓛 w64) bh (vint w64 bh ∷ []) (refl, low) $ fjoin ! $ move ! (1 ∷ 0 ∷ []) $ fjoin ! $ nothing ! $ move ! (4 ∷ 0 ∷ []) $ join ! $ move ! (4 ∷ 0 ∷ []) $ join ! $ move ! (2 ∷ 0 ∷ []) $ join ! $ join ! $
    use0 𝓛 (raw (fact 𝓤 High)) (fact_i 𝓤 High (emp 𝓤) high) $ use0 𝓛 (raw (fact 𝓤 Fit)) (fact_i 𝓤 Fit (emp 𝓤) fits) $ join ! $ use0 𝓛 (raw (fact 𝓤 (κ₂ ⊑ Y.lives))) (fact_i 𝓤 (κ₂ ⊑ Y.lives) (emp 𝓤) inY) $ join ! $ use0 𝓛 (raw (fact 𝓤 (κ₁ ⊑ X.lives))) (fact_i 𝓤 (κ₁ ⊑ X.lives) (emp 𝓤) inX) $ join ! $
    move ! (1 ∷ 0 ∷ []) $ use2 𝓛 (raw (G₁.pre z₁)) (id⊢ 𝓤 _) $
    -- [what the call asks; what is kept; the value]
    calls_at ! fm G₁ (making.met 𝓤 𝓛 𝓜 𝓡 (compiled.calls-part_callers::bands::bands_of 𝓡.env wired) X Y LX LY gh d gs ds bm bs) z₁ (and_then ! (get ! refl) (and_then ! (get ! refl) (no_more !))) (λ v₁.
    let named_α = named_lft 3 0 tt (α, (κ₁, (κ₂, tt))) in
    let Rows : RattleType = P.the_row named_α (param 1 Y) in
    let Sort : Type 0 = BandsMut Y.Denot in
    let F : List Y.Denot → Img X.Denot = with_all gs.cells gh.with_cells x.now in
    let Spaced : Sort → Type 0 = λ r. spacing_left r ≡ band_spacing old.width old.height old.stride bh in
    let Lists : Sort → Type 0 = λ r. bands_left r ≡ bands old bh in
    use1 𝓛 (later (some (λ (r : Sort). ((‵ (flft α qα) ⊛ ‵ (flft κ₁ q₁) ⊛ ‵ (flft κ₂ q₂) ⊛ ‵ ftrue) ⊛ ‵ (Rows.own_val r (v₁ ∷ []))) ⊛ some (λ (ws : Unit {0} × (Unit {0} × Unit {0})). ‵ (lasts (M.ended X Y gh d gs ds) z₁.0.0 z₁.0.3 ws)
    ⊛ (‵ (follows Whole (Array (param 1 Y) 0) δ (bands_name r) F) ⊛ raw (fact 𝓤 (cells_left r ≡ old.cells)) ⊛ raw (fact 𝓤 (Spaced r)) ⊛ raw (fact 𝓤 (Lists r))))))) (id⊢ 𝓤 _) $
    await ! tt $ pick ! (λ r. split ! $ split ! $ move ! (2 ∷ []) $ pick ! (λ ws₁. split ! $ drop ! $ split ! $ move ! (1 ∷ []) $ split ! $ heard ! (cells_left r ≡ old.cells) (λ cells. split ! $ heard ! (Spaced r) (λ spacing. heard ! (Lists r) (λ lists.
    -- [what follows; the tokens; the iterator; what is kept; the value]
    let LY₁ = param_laws 1 Y LY in
    let lowers = laws.lowers named_α (param 1 Y) LY₁ in
    let word : Sort → Val = lowers.lowered in
    let told : (s : Sort) (vs : List Val) → Is Rows s vs → vs ≡ word s ∷ [] = lowers.val_is in
    let fit : (s : Sort) (vs : List Val) → Is Rows s vs → _ = λ s vs is. (typed Rows (laws.the_row_laws named_α (param 1 Y) LY₁) lowers 𝓛 s vs is).0 in
    move ! (2 ∷ []) $ peeks ! Rows (Is Rows) (shows 𝓛 Rows) r (v₁ ∷ []) (λ is₁. let t₁ = told r (v₁ ∷ []) is₁ in
    rewrite ! 0 (λ (us : List Val). ‵ (Rows.own_val r us)) t₁ refl $
    lands_as ! (ap only t₁) refl (fit r (v₁ ∷ []) is₁) $
    sets ! (of_opd ! (get ! refl)) refl (fit r (v₁ ∷ []) is₁) $
    -- [the iterator; what follows; the tokens; what is kept; the value]
    move ! (2 ∷ []) $ split3 ! $ move ! (2 ∷ []) $ split ! $ move ! (1 ∷ []) $ drop ! $
    take_at ! 4 $ move ! (0 ∷ 4 ∷ []) $
    -- [local 4; the iterator; κ₂; α; κ₁; what follows; what is kept; the value]
    let spelled : Ty = type_of 4 fn.locals in
    use2 𝓛 (‵ (part_at Rows full_share r (l 4) 0)) (part_in_at 𝓛 Rows refl full_share r (l 4) 0 spelled refl (word r)) $ move ! (2 ∷ 0 ∷ []) $
    use2 𝓛 (later (some (λ (p : Loan). ‵ (lent Rows (l 4) 0 (p.0 ∷ α) p.2 r) ⊛ ‵ (flft (p.0 ∷ α) p.1) ⊛ ‵ (flft α (Share.right qα)) ⊛ raw (KeptPlace 𝓛 Rows α qα (l 4) p)))) (lends_place 𝓛 Rows α qα (l 4) r) $ await ! tt $ pick ! (λ p'. split3 ! $ move ! (2 ∷ []) $ split ! $ move ! (2 ∷ 3 ∷ []) $
    let β : Lft = p'.0 ∷ α in let qβ : Share = p'.1 in let ε : GName = p'.2 in let inside : β ⊑ α = meet_⊑_right (p'.0 ∷ []) α in
    -- [the borrow; β; α; what is kept of the place; κ₂; κ₁; what follows; what is kept; the value]
    sets ! (addr ! (from ! (stop !))) refl (tt, tt) $
    let G₂ = triple_of 𝓛 (N.signature Y) (N.spec Y 𝓛 𝓜.mem 𝓡.returns) in
    let x₂ : MutBor Sort = record { ref_ptr = (l 4, 0); ghost_name = ε; now = r } in
    let z₂ : G₂.Ghost = (((β, (α, (κ₂, tt))), (qβ, (Share.right qα, (q₂, tt))), (inside, (⊑_trans β α κ₂ inside in₂, (in₂, tt))), (x₂, tt), (mut_vals x₂, tt)), tt) in
    nothing ! $ move ! (1 ∷ 0 ∷ []) $ fjoin ! $
    nothing ! $ move ! (5 ∷ 0 ∷ []) $ join ! $ move ! (3 ∷ 0 ∷ []) $ join ! $ move ! (2 ∷ 0 ∷ []) $ join ! $ join ! $
    nothing ! $ use0 𝓛 (raw (fact 𝓤 (κ₂ ⊑ Y.lives))) (fact_i 𝓤 (κ₂ ⊑ Y.lives) (emp 𝓤) inY) $ join ! $ move ! (1 ∷ 0 ∷ []) $ use2 𝓛 (raw (G₂.pre z₂)) (id⊢ 𝓤 _) $
    -- [what the call asks; what is kept of the place; κ₁; what follows; what is kept; the value]
    calls_at ! fm G₂ (stepping.met 𝓤 𝓛 𝓜 𝓡 (compiled.calls-image_tiles::bands::BandsMut::step 𝓡.env wired) Y LY) z₂ (and_then ! (get ! refl) (no_more !)) (λ v₂.
    let Slice : RattleType = MutSlice (named 0) α R in
    let Image : RattleType = img_row (named 0) α R in
    let Row : RattleType = OP.the_row Image in
    let Out : Type 0 = Img (MutBor (List Y.Denot)) in
    let Given : Type 0 = Option Out in
    use1 𝓛 (later (some (λ (m : Given). ((‵ (flft β qβ) ⊛ ‵ (flft α (Share.right qα)) ⊛ ‵ (flft κ₂ q₂) ⊛ ‵ ftrue) ⊛ ‵ (Row.own_val m (v₂ ∷ []))) ⊛ some (λ (ws : Sort × Unit {0}). ‵ (lasts (N.ended Y) z₂.0.0 z₂.0.3 ws)
    ⊛ (‵ (hands_on R r m ws.0) ⊛ raw (fact 𝓤 (YieldsFirstBy mut_layout bands_left r m ws.0)) ⊛ raw (fact 𝓤 (Moves r m ws.0))))))) (id⊢ 𝓤 _) $
    await ! tt $ pick ! (λ m. split ! $ split ! $ move ! (2 ∷ []) $ pick ! (λ ws₂. let t : Sort = ws₂.0 in split ! $ fsplit ! $ fsplit ! $ move ! (3 ∷ []) $ split3 ! $ move ! (1 ∷ []) $
    heard ! (YieldsFirstBy mut_layout bands_left r m t) (λ steps. move ! (1 ∷ []) $ heard ! (Moves r m t) (λ moved.
    -- [what follows the row; how the iterator ends; its borrow; nothing; the tokens; the row; what is kept of the place; κ₁; what follows; what is kept; the value]
    move ! (4 ∷ []) $ split3 ! $ move ! (2 ∷ []) $ split ! $ move ! (1 ∷ []) $ drop ! $
    move ! (1 ∷ 2 ∷ []) $ join ! $
    -- [β and α; κ₂; what follows the row; how the iterator ends; its borrow; nothing; the row; what is kept of the place; κ₁; what follows; what is kept; the value]
    move ! (0 ∷ 7 ∷ 3 ∷ []) $ use3 𝓛 (later (‵ (part_at Rows full_share t (l 4) 0) ⊛ ‵ (flft α qα))) (place_ends 𝓛 Rows α qα (l 4) p' t) $ await ! tt $ split ! $
    use1 𝓛 (some (λ (v₃ : Val). ‵ (fat full_share spelled (l 4) 0 v₃) ⊛ ‵ (Rows.own_val t (v₃ ∷ [])))) (part_out_at 𝓛 Rows refl full_share t (l 4) 0 spelled refl) $ pick ! (λ v₃. split ! $
    move ! (1 ∷ []) $ peeks ! Rows (Is Rows) (shows 𝓛 Rows) t (v₃ ∷ []) (λ is₃. let t₃ = told t (v₃ ∷ []) is₃ in
    rewrite ! 0 (λ (us : List Val). ‵ (Rows.own_val t us)) t₃ refl $ move ! (1 ∷ []) $ rewrite ! 0 (λ (us : Val). ‵ (fat full_share spelled (l 4) 0 us)) (ap only t₃) refl $ give_at ! 4 $
    -- [the iterator; α; κ₂; what follows the row; its borrow; nothing; the row; κ₁; what follows; what is kept; the value]
    move ! (4 ∷ 5 ∷ []) $ drop ! $ drop ! $
    let A₀ : RattleType = Array R 0 in
    let Res : GName → List Y.Denot → Item 𝓤 = λ ν ys. ‵ (fres ν (A₀.coded.code ys)) in
    let given_back : ent 𝓤 (sem 𝓛 (Rows.own_val t (word t ∷ []))) (sem 𝓛 (fres (bands_name t) (A₀.coded.code (cells_left t)))) =
    qed 𝓛 (‵ (Rows.own_val t (word t ∷ [])) ∷ []) ∵ use1 𝓛 (‵ ((MutSlice named_α.mir α (param 1 Y)).own_val t.cells (lent_val t.cells ∷ []))) (cells_out named_α (param 1 Y) LY₁ 𝓛 t (word t ∷ [])) $
    by ! (given_up 𝓛 (param 1 Y) named_α.mir α t.cells (lent_val t.cells ∷ [])) in
    use1 𝓛 (Res (bands_name t) (cells_left t)) given_back $ move ! (4 ∷ []) $
    -- [the row; how the iterator's cells end; α; κ₂; what follows the row; κ₁; what follows; what is kept; the value]
    let E = env fn.locals l in
    let rest : Body = after 6 fn.body in
    let next = any_q (after_seq 𝓤 H (Wp 𝓤 H 𝓣.C 𝓣.Λ E rest (at_return 𝓤 H E Post)) (at_return 𝓤 H E Post)) in
    let tail : (zs : List Y.Denot) → HasFirstBand old bh value (record old { cells = zs }) → Sq 𝓛 (Res (bands_name r) zs ∷ ‵ (flft α qα) ∷ ‵ (flft κ₂ q₂) ∷ ‵ (flft κ₁ q₁) ∷ ‵ (follows Whole (Array (param 1 Y) 0) δ (bands_name r) F) ∷ raw (Kept 𝓛 Whole κ₀ q₀ b o γ x.now d₀)
    ∷ holding 𝓛 E ((1, vptr b o) ∷ (2, vint w64 bh) ∷ (3, v) ∷ [])) (runs 𝓣.C 𝓣.Λ E rest (at_ret E Post)) = λ zs has.
    move ! (4 ∷ 0 ∷ []) $ use2 𝓛 (‵ (fres δ (Whole.coded.code (F zs)))) (followed 𝓛 Whole A₀ F δ (bands_name r) zs) $
    -- [how the image ends; α; κ₂; κ₁; what is kept]
    move ! (1 ∷ 4 ∷ 0 ∷ []) $ use3 𝓛 (later (‵ (flft κ₀ q₀) ⊛ ‵ (lent Whole b o κ₀ γ (F zs)))) (ends 𝓛 Whole κ₀ q₀ b o γ x.now d₀ (F zs)) $ await ! tt $ split ! $
    sets ! (of_opd ! (unit_lit !)) refl (tt, tt) $ returns ! (look_at ! 0 refl) $ free_all ! refl $
    -- [κ₀; the image; κ₂; κ₁]
    let Is_filled : Type 0 = HasFirstBand old bh value (layout_by gs.cells (F zs)) in
    use0 𝓛 (raw (fact 𝓤 Is_filled)) (fact_i 𝓤 Is_filled (emp 𝓤) (in_image gs.cells gh.with_cells bm.others_stay x.now bh value zs has)) $
    feq_i ! (List Val) (vunit ∷ []) (vunit ∷ []) refl $ nothing ! $ nothing ! $ fjoin ! $ nothing ! $ fjoin ! $ move ! (4 ∷ 0 ∷ []) $ fjoin ! $
    nothing ! $ move ! (5 ∷ 0 ∷ []) $ join ! $ move ! (5 ∷ 0 ∷ []) $ join ! $ move ! (4 ∷ 0 ∷ []) $ join ! $
    -- [the tokens; the image; (); the ensures]
    by ! (leaves 𝓛 En hs c bound vunit tt (F zs, (tt, (tt, tt))) (tt, (tt, (tt, tt)))) in
    ⊎_elim
    (λ (e : m ≡ None).
    let at_end : t ≡ r = subst (λ (m' : Given). Moves r m' t) e moved in
    let none_left : bands old bh ≡ [] = sym lists ∙ (subst (λ (m' : Given). YieldsFirstBy mut_layout bands_left r m' t) e steps).0 in
    rewrite ! 0 (λ (m' : Given). ‵ (Row.own_val m' (v₂ ∷ []))) e refl $
    peeks ! Row (Is Row) (shows 𝓛 Row) None (v₂ ∷ []) (λ is.
    lands_as ! (ap only (none_told Image (v₂ ∷ []) is)) refl (tt, (record { fits = lit< tt }, tt)) $ drop ! $
    first ! $ switches_on ! (get_tag ! (vrt ! refl (fld ! refl (stop !))) (all_of !)) $ exec ! 𝓣.C 𝓣.Λ E skip next $ skips ! $
    exec ! 𝓣.C 𝓣.Λ E rest (at_ret E Post) $ forget_but ! E (1 ∷ 2 ∷ 3 ∷ []) refl $
    -- [how the iterator's cells end; α; κ₂; what follows the row; κ₁; what follows; what is kept; the value]
    rewrite ! 0 (λ (s : Sort). Res (bands_name s) (cells_left t)) at_end refl $
    rewrite ! 0 (Res (bands_name r)) (ap (λ (q : Sort). cells_left q) at_end ∙ cells) refl $
    move ! (3 ∷ 7 ∷ []) $ drop ! $ drop ! $ tail old.cells (no_band old bh value high narrow fits none_left)))
    (λ (found : (y : Out) × (m ≡ Some y)). let y : Out = found.0 in let e : m ≡ Some y = found.1 in
    let ν : GName = y.buf.ghost_name in let inner : Shape = shape_of y in let sv : Val = slice_val y.buf.ref_ptr (length y.buf.now) in
    let yields : YieldsFirstBy mut_layout bands_left r (Some y) t = subst (λ (m' : Given). YieldsFirstBy mut_layout bands_left r m' t) e steps in
    let moves : Moves r (Some y) t = subst (λ (m' : Given). Moves r m' t) e moved in
    rewrite ! 0 (λ (m' : Given). ‵ (Row.own_val m' (v₂ ∷ []))) e refl $
    rewrite ! 4 (λ (m' : Given). ‵ (hands_on R r m' t)) e refl $
    peeks ! Row (Is Row) (shows 𝓛 Row) (Some y) (v₂ ∷ []) (λ is. let told_y = band_told (named 0) α R y (v₂ ∷ []) is in
    let band_is_ok : WT (band_val y) = band_ok (named 0) α R y _ is.1.1.1.1.0 in
    lands_as ! (ap only told_y) refl (tt, (record { fits = lit< tt }, (band_is_ok, tt))) $
    use1 𝓛 (‵ (Image.own_val y (band_val y ∷ []))) (some_image (named 0) α R y 𝓛 v₂) $
    -- [the band; how the iterator's cells end; α; κ₂; what follows the band; κ₁; what follows; what is kept; the value]
    first ! $ switches_on ! (get_tag ! (vrt ! refl (fld ! refl (stop !))) (all_of !)) $ exec ! 𝓣.C 𝓣.Λ E (first_arm (after 5 fn.body)) next $
    sets ! (of_opd ! (get_in ! (vrt ! refl (fld ! refl (stop !))) (in_variant ! 1 0 refl refl (all_of !)))) refl (tt, band_is_ok) $
    sets ! (of_opd ! (get ! refl)) refl (tt, band_is_ok) $
    let Held : RattleType = LentCells α Y in let Two : RattleType = ImgParts α R in
    let lives : α ⊑ Held.lives = ⊑_meet α α Y.lives (⊑_refl α) (⊑_trans α κ₂ Y.lives in₂ inY) in
    let G₃ = triple_of 𝓛 (parts.signature Held) (parts.spec Held 𝓛 𝓜.mem 𝓡.returns) in
    let z₃ : G₃.Ghost = (((α, tt), (qα, tt), tt, (y, tt), (band_val y ∷ [], tt)), tt) in
    nothing ! $ move ! (1 ∷ 0 ∷ []) $ join ! $ nothing ! $ move ! (3 ∷ 0 ∷ []) $ join ! $ join ! $
    nothing ! $ use0 𝓛 (raw (fact 𝓤 (α ⊑ Held.lives))) (fact_i 𝓤 (α ⊑ Held.lives) (emp 𝓤) lives) $ join ! $ move ! (1 ∷ 0 ∷ []) $ use2 𝓛 (raw (G₃.pre z₃)) (id⊢ 𝓤 _) $
    -- [what the call asks; how the iterator's cells end; κ₂; what follows the band; κ₁; what follows; what is kept; the value]
    calls_at ! fm G₃ (apart.met 𝓤 𝓛 𝓜 𝓡 (compiled.calls-imgref::img::Img::into_parts 𝓡.env wired) Held (lent_cells_laws α Y LY)) z₃ (and_then ! (get ! refl) (no_more !)) (λ v₃.
    let Parted : Type 0 = MutBor (List Y.Denot) × Shape in
    use1 𝓛 (later (some (λ (p₃ : Parted). ((‵ (flft α qα) ⊛ ‵ ftrue) ⊛ ‵ (Two.own_val p₃ (v₃ ∷ []))) ⊛ some (λ (us₃ : (Unit {0} × Unit {0}) × Unit {0}). ‵ (lasts (parts.ended Held) z₃.0.0 z₃.0.3 us₃)
    ⊛ raw (fact 𝓤 (p₃.0 ≡ y.buf)) ⊛ raw (fact 𝓤 (p₃.1 ≡ inner)))))) (id⊢ 𝓤 _) $
    await ! tt $ pick ! (λ p₃. split ! $ split ! $ move ! (2 ∷ []) $ pick ! (λ us₃. split ! $ drop ! $ split ! $ heard ! (p₃.0 ≡ y.buf) (λ e₁. heard ! (p₃.1 ≡ inner) (λ e₂.
    -- [α; the parts; how the iterator's cells end; κ₂; what follows the band; κ₁; what follows; what is kept; the value]
    let both : Parted = (y.buf, inner) in let known : p₃ ≡ both = λ k. (e₁ k, e₂ k) in
    split ! $ move ! (1 ∷ []) $ drop ! $ move ! (1 ∷ []) $ rewrite ! 0 (λ (q : Parted). ‵ (Two.own_val q (v₃ ∷ []))) known refl $
    peeks ! Two (Is Two) (shows 𝓛 Two) both (v₃ ∷ []) (λ is₃'. let pt = img_parts_told α R both (v₃ ∷ []) is₃' in
    let slice_ok : WT sv = (tt, (record { fits = pt.1.0 }, tt)) in let shape_ok : WT (shape_val inner) = (record { fits = pt.2 }, (record { fits = pt.3 }, (record { fits = pt.4 }, tt))) in
    lands_as ! (ap only (pt.0)) refl (tt, (slice_ok, (shape_ok, tt))) $
    fpick ! (λ vs₃. fsplit ! $ drop ! $ fsplit ! $ move ! (1 ∷ []) $ drop ! $
    peeks ! Slice (Is Slice) (shows 𝓛 Slice) y.buf (vs₃.0) (λ isS. rewrite ! 0 (λ (vs : List Val). ‵ (Slice.own_val y.buf vs)) (isS.0.0) refl $
    -- [the band's cells; α; how the iterator's cells end; κ₂; what follows the band; κ₁; what follows; what is kept; the value]
    sets ! (of_opd ! (get_in ! (fld ! refl (stop !)) (sub ! 0 refl (all_of !)))) refl (tt, slice_ok) $
    sets ! (of_opd ! (get_in ! (fld ! refl (stop !)) (sub ! 1 refl (all_of !)))) refl (tt, shape_ok) $
    sets ! (addr ! (from ! (fld ! refl (hop ! (look_in_at ! 6 (sub ! 0 refl (all_of !))) (stop !))))) refl (tt, tt) $
    sets ! (agg ! (and_then ! (get ! refl) (and_then ! (get_in ! (fld ! refl (stop !)) (sub ! 1 refl (all_of !))) (no_more !)))) refl (tt, slice_ok) $
    let Fit_y : Type 0 = Fits (mut_layout y) in let fit_y : Fit_y = first_fits old bh value high narrow fits r t cells spacing lists y yields moves in
    let G₄ = triple_of 𝓛 (W.signature Y) (W.spec Y gc dc 𝓛 𝓜.mem 𝓡.returns) in
    let z₄ : G₄.Ghost = (((α, (κ₂, tt)), (qα, (q₂, tt)), (in₂, tt), (y.buf, (inner, (value, tt))), (sv ∷ [], (shape_val inner ∷ [], (v ∷ [], tt)))), tt) in
    nothing ! $ move ! (9 ∷ 0 ∷ []) $ fjoin ! $ use0 𝓛 (‵ (shape.the_row.own_val inner (shape_val inner ∷ []))) (shape_made 𝓛 inner pt.2 pt.3 pt.4) $ fjoin ! $ move ! (1 ∷ 0 ∷ []) $ fjoin ! $
    nothing ! $ move ! (4 ∷ 0 ∷ []) $ join ! $ move ! (2 ∷ 0 ∷ []) $ join ! $ join ! $
    use0 𝓛 (raw (fact 𝓤 Fit_y)) (fact_i 𝓤 Fit_y (emp 𝓤) fit_y) $ use0 𝓛 (raw (fact 𝓤 (κ₂ ⊑ Y.lives))) (fact_i 𝓤 (κ₂ ⊑ Y.lives) (emp 𝓤) inY) $ join ! $ move ! (1 ∷ 0 ∷ []) $ use2 𝓛 (raw (G₄.pre z₄)) (id⊢ 𝓤 _) $
    -- [what the call asks; how the iterator's cells end; what follows the band; κ₁; what follows; what is kept]
    calls_at_last ! fm G₄ (writing.met 𝓤 𝓛 𝓜 𝓡 (compiled.calls-part_callers::fills::fill 𝓡.env wired) Y LY CY gc dc bc) z₄ (and_then ! (get ! refl) (and_then ! (get ! refl) (and_then ! (get ! refl) (no_more !)))) (λ v₄.
    let Left : List Y.Denot → Layout Y.Denot = λ ys. record (mut_layout y) { cells = ys } in
    let One : List Y.Denot → Type 0 = λ ys. grid_of (Left ys) ≡ uniform y.width y.height value in
    let Stays_out : List Y.Denot → Type 0 = λ ys. SameOutside (mut_layout y) (Left ys) in
    use1 𝓛 (later (some (λ (u : Unit {0}). ((‵ (flft α qα) ⊛ ‵ (flft κ₂ q₂) ⊛ ‵ ftrue) ⊛ ‵ (unit.own_val u (v₄ ∷ []))) ⊛ some (λ (ws : List Y.Denot × (Unit {0} × (Unit {0} × Unit {0}))). ‵ (lasts (W.ended Y gc dc) z₄.0.0 z₄.0.3 ws) ⊛ (raw (fact 𝓤 (One ws.0)) ⊛ raw (fact 𝓤 (Stays_out ws.0))))))) (id⊢ 𝓤 _) $
    await ! tt $ pick ! (λ u. split ! $ split ! $ move ! (1 ∷ []) $ feq_l ! (λ is_unit.
    lands_last ! refl (subst (λ (v' : Val). T (has_ty ty_unit v') × WT v') (sym (ap only is_unit)) (tt, tt)) $
    exec ! 𝓣.C 𝓣.Λ E rest (at_ret E Post) $
    move ! (1 ∷ []) $ pick ! (λ ws₄. split ! $ move ! (1 ∷ []) $ split ! $ heard ! (One ws₄.0) (λ one. heard ! (Stays_out ws₄.0) (λ stays. fsplit ! $ fsplit ! $ fsplit ! $
    -- [how the band's cells end; their number; its borrow; the rest; the tokens; how the iterator's cells end; what follows the band; κ₁; what follows; what is kept]
    use1 𝓛 (Res ν ws₄.0) (finally-res 𝓛 R ν ws₄.0) $
    move ! (0 ∷ 6 ∷ []) $ use2 𝓛 (‵ (ends_as A₀ A₀ (bands_name r) (bands_name t) (put_back r ws₄.0))) (ends_beside 𝓛 A₀ A₀ A₀ (bands_name r) ν (bands_name t) (put_back r) ws₄.0) $
    move ! (0 ∷ 5 ∷ []) $ use2 𝓛 (Res (bands_name r) (put_back r ws₄.0 (cells_left t))) (ends_said 𝓛 A₀ A₀ (bands_name r) (bands_name t) (put_back r ws₄.0) (cells_left t)) $
    -- [how the cells end; the number; the borrow; the rest; the tokens; κ₁; what follows; what is kept]
    move ! (1 ∷ 2 ∷ 3 ∷ []) $ drop ! $ drop ! $ drop ! $ move ! (1 ∷ []) $ split3 ! $ move ! (2 ∷ []) $ drop ! $ forget_but ! E (1 ∷ 2 ∷ 3 ∷ []) refl $ move ! (2 ∷ 0 ∷ 1 ∷ []) $
    tail (put_back r ws₄.0 (cells_left t)) (first_band old bh value high narrow fits r t cells spacing lists y yields moves ws₄.0 stays one)))))))))))))))))
    (none_or_some m)))))))))))))))))))))))
