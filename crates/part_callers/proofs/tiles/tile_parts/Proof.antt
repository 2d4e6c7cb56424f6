-- `tile_parts` takes the next tile and parts it: its MIR, proved by hand. Assumes `Logic`.
use mir.Syntax.{Body}
use Rattle.std.proofs.Common.{⊎_elim, arith, ◌≡◌, refl, sym, ap, subst, ◌∙◌, ◌<◌, List, [], ◌∷◌, T, lit<, length, MutBor, Option, Some, None}
use Rattle.std.proofs.alloc.Shapes.{after}
use Rattle.std.specs.contracts.option.Option as OP
use Rattle.borrow_laws.proofs.Walking.{SProp, emp, id⊢, Lft, GName, ftrue, flft, Args, Fn, named, inst_fn, Val, WT, has_ty, vptr, Env, Wp, after_seq, at_return, ◌⊑◌, ⊑_refl, ⊑_trans, ⊑_meet, fact, fact_i, tables, Item, any_q, ‵, ◌⊛◌, raw, later, some, at_ret, ◌$◌, ◌∵◌, !, qed, by, move, keep, drop, split, split3, join, fsplit, fjoin, rewrite, use0, use1, use2, await, pick, vrt, in_variant, all_of, stop, fld, addr, of_opd, and_then, no_more, first, switches_on, exec, returns, enter, alloc_all, pass_all, free_all, look_at, get, get_in, get_tag, through, sets, lands_as, lands_last, env, Array, follows, follows_if, shows, Is, param, RattleType, owns, mut_vals, mut_Tells, plain, types_at, nothing, heard, peeks, only, calls_at, calls_at_last, lasts, triple_of, framed, Stays, stay_dropped, walk_of, Goes-spent_ref, proved, leaves}
use Rattle.borrow_laws.proofs.Bodies.{of_container, first_arm, type_of}
use Rattle.borrow_laws.proofs.Followed.{if_given}
use Rattle.borrow_laws.proofs.Options.{none_or_some}
use Rattle.image_model.specs.Layout.{Layout}
use Rattle.image_model.specs.Windows.{Window}
use Rattle.image_shape.specs.declared.shape.Shape.{Shape}
use Rattle.imgref.specs.Image.{layout_by, mut_layout, shape_of}
use Rattle.imgref.proofs.ImageValues.{img_row, LentCells, lent_cells_laws, ImgParts, img_parts_told}
use Rattle.imgref.specs.declared.img.Img.{Img}
use Rattle.imgref.specs.contracts.img.Img.into_parts as parts
use Rattle.imgref.proofs.img.Img.into_parts.Met as apart
use Rattle.image_tiles.specs.Lending.{image_of, tiling_of, after_tile, tile_name, NextTile, tiles_left}
use Rattle.image_tiles.specs.Tiling.{tile_now}
use Rattle.image_tiles.specs.declared.tiles.TileCursor.{TileCursor}
use Rattle.image_tiles.specs.contracts.tiles.TileCursor.{the_row}
use Rattle.image_tiles.specs.contracts.tiles.TileCursor.next_tile as f
use Rattle.image_tiles.proofs.tiles.TileCursor.next_tile.Met as stepping
use Rattle.image_tiles.proofs.BandValues.{band_val, band_ok, band_told}
use Rattle.part_callers.specs.Tiles.{IsTile}
use Rattle.part_callers.proofs.Sizes.{window_width, window_height}
use Rattle.part_callers.proofs.LentImages.{some_image}
use Rattle.part_callers.specs.contracts.tiles.tile_parts.{ended, clauses}
use Rattle.part_callers.specs.contracts.tiles.tile_parts.Key.{name as #self}
use Rattle.part_callers.proofs.tiles.tile_parts.Statement.{statement}
use Rattle.part_callers.proofs.tiles.tile_parts.Code as compiled

pub tile_parts_spec : {M : Type 1} → statement M
tile_parts_spec 𝓤 𝓛 𝓜 𝓡 wired X Y LX LY gh d gs ds bm bs =
    let H = 𝓛.H in let 𝓣 = tables 𝓤 H 𝓜 𝓡 𝓡.env in let fm = framed 𝓤 H 𝓜 𝓣 in
    let args : Args = of_container X Y d ds in let fn : Fn = inst_fn args compiled.function in let R : RattleType = param 1 Y in let Whole : RattleType = the_row (param 0 X) in
    let En = ended X Y gh d gs ds in let c = clauses X Y gh d gs ds 𝓛 𝓜.mem 𝓡.returns in let stays : Stays En.signature.params En.kept = (stay_dropped _ En.kept.0, tt) in
    proved 𝓛 En stays c 𝓜 𝓡 (Goes-spent_ref 𝓛 3 (0 ∷ []) tt (plain (λ _. Whole)), tt) (#self args) fn (compiled.unfolded 𝓤 H 𝓜 𝓡 wired (X, (Y, tt)) d ds) (λ κs. (mut_vals, tt)) (λ κs. (mut_Tells (named 0) κs.0 Whole, tt)) (λ κs qs bounds a gg are.
    let κ : Lft = κs.0 in let κX : Lft = κs.1.0 in let κY : Lft = κs.1.1.0 in
    let x : MutBor (TileCursor X.Denot) = a.0 in
    let z : (walk_of 𝓛 En stays c).Ghost = ((κs, qs, bounds, a, (mut_vals x, tt)), gg) in let Post : Val → SProp 𝓤 = (walk_of 𝓛 En stays c).post z in
    let h : TileCursor X.Denot = x.now in
    let γ : GName = x.ghost_name in
    let before : List Window = tiles_left gs.cells h in
    let whole_image : Layout Y.Denot = layout_by gs.cells (image_of h) in
    let here : Window = tile_now (tiling_of h) in
    let More : Type 0 = 0 < length before in
    let Row : RattleType = img_row (named 0) κ R in
    let Ans : RattleType = OP.the_row Row in
    let Held : RattleType = LentCells κ Y in
    let Two : RattleType = ImgParts κ R in
    let F : List Y.Denot → TileCursor X.Denot = after_tile gs.cells gh.with_cells gh.padded_windows h in
    let Tile : Type 0 = Img (MutBor (List Y.Denot)) in
    let Given : Type 0 = Option Tile in
    let Gives : Given → Type 0 = NextTile gs.cells gh.with_cells gh.padded_windows h before in
    let Tok : Item 𝓤 = ‵ (flft κ qs.0) ⊛ ‵ (flft κX qs.1.0) ⊛ ‵ (flft κY qs.1.1.0) ⊛ ‵ ftrue in
    let G₁ = triple_of 𝓛 (f.signature X Y) (f.spec X Y gh d gs ds 𝓛 𝓜.mem 𝓡.returns) in
    let z₁ : G₁.Ghost = ((κs, qs, bounds, (x, tt), (mut_vals x, tt)), tt) in
    qed 𝓛 ((Tok ⊛ ‵ (owns (types_at En.signature.params κs) a z.0.4)) ∷ (raw (fact 𝓤 (κX ⊑ X.lives)) ⊛ raw (fact 𝓤 (κY ⊑ Y.lives)) ⊛ raw (fact 𝓤 More)) ∷ []) ∵
    move ! (1 ∷ []) $ split3 ! $ heard ! (κX ⊑ X.lives) (λ leX. heard ! (κY ⊑ Y.lives) (λ leY. heard ! More (λ more. split ! $ move ! (1 ∷ []) $ fsplit ! $ keep ! (0 ∷ 2 ∷ []) $
    -- [the cursor's reference; the tokens]
    enter ! 𝓣.C 𝓣.Λ fn (vptr x.ref_ptr.0 x.ref_ptr.1 ∷ []) Post $ alloc_all ! (λ l. pass_all ! refl ((tt, tt), tt) $
    sets ! (addr ! (through ! refl (stop !))) refl (tt, tt) $
    nothing ! $ move ! (1 ∷ 0 ∷ []) $ join ! $ move ! (1 ∷ 0 ∷ []) $ join ! $
    nothing ! $ use0 𝓛 (raw (fact 𝓤 (κY ⊑ Y.lives))) (fact_i 𝓤 (κY ⊑ Y.lives) (emp 𝓤) leY) $ join ! $ use0 𝓛 (raw (fact 𝓤 (κX ⊑ X.lives))) (fact_i 𝓤 (κX ⊑ X.lives) (emp 𝓤) leX) $ join ! $
    move ! (1 ∷ 0 ∷ []) $ use2 𝓛 (raw (G₁.pre z₁)) (id⊢ 𝓤 _) $
    calls_at ! fm G₁ (stepping.met 𝓤 𝓛 𝓜 𝓡 (compiled.calls-image_tiles::tiles::TileCursor::next_tile 𝓡.env wired) X Y LX LY gh d gs ds bm bs) z₁ (and_then ! (get ! refl) (no_more !)) (λ v.
    use1 𝓛 (later (some (λ (m : Given). (Tok ⊛ ‵ (Ans.own_val m (v ∷ []))) ⊛ some (λ (us : Unit {0} × Unit {0}). ‵ (lasts (f.ended X Y gh d gs ds) z₁.0.0 z₁.0.3 us)
    ⊛ (‵ (follows_if Whole (Array R 0) γ (tile_name m) F h) ⊛ raw (fact 𝓤 (Gives m))))))) (id⊢ 𝓤 _) $
    await ! tt $ pick ! (λ m. split ! $ split ! $ move ! (2 ∷ []) $ pick ! (λ us. split ! $ drop ! $ split ! $ move ! (1 ∷ []) $ heard ! (Gives m) (λ gives.
    -- [what the cursor follows; the tokens; the tile, if there is one]
    ⊎_elim
    (λ (e : m ≡ None). let no_tile : before ≡ [] = subst Gives e gives in absurd (omega (arith, more, ap length no_tile)))
    (λ (found : (y : Tile) × (m ≡ Some y)). let y : Tile = found.0 in let e : m ≡ Some y = found.1 in
    let next = subst Gives e gives in
    rewrite ! 0 (λ (m' : Given). ‵ (follows_if Whole (Array R 0) γ (tile_name m') F h)) e refl $ use1 𝓛 (‵ (follows Whole (Array R 0) γ y.buf.ghost_name F)) (if_given 𝓛 Whole (Array R 0) γ y.buf.ghost_name F h) $
    move ! (2 ∷ []) $ rewrite ! 0 (λ (m' : Given). ‵ (Ans.own_val m' (v ∷ []))) e refl $
    -- [the tile; what the cursor follows; the tokens]
    peeks ! Ans (Is Ans) (shows 𝓛 Ans) (Some y) (v ∷ []) (λ is. let told_y = band_told (named 0) κ R y (v ∷ []) is in
    let tile_ok : WT (band_val y) = band_ok (named 0) κ R y _ is.1.1.1.1.0 in
    lands_as ! (ap only told_y) refl (tt, (record { fits = lit< tt }, (tile_ok, tt))) $
    use1 𝓛 (‵ (Row.own_val y (band_val y ∷ []))) (some_image (named 0) κ R y 𝓛 v) $
    let E : Env 𝓤 H = env fn.locals l in
    let rest : Body = after 3 fn.body in
    let next_body = any_q (after_seq 𝓤 H (Wp 𝓤 H 𝓣.C 𝓣.Λ E rest (at_return 𝓤 H E Post)) (at_return 𝓤 H E Post)) in
    first ! $ switches_on ! (get_tag ! (vrt ! refl (fld ! refl (stop !))) (all_of !)) $ exec ! 𝓣.C 𝓣.Λ E (first_arm (after 2 fn.body)) next_body $
    sets ! (of_opd ! (get_in ! (vrt ! refl (fld ! refl (stop !))) (in_variant ! 1 0 refl refl (all_of !)))) refl (tt, tile_ok) $
    sets ! (of_opd ! (get ! refl)) refl (tt, tile_ok) $
    -- [the tile; what the cursor follows; the tokens]
    move ! (2 ∷ []) $ split3 ! $ nothing ! $ move ! (4 ∷ 0 ∷ []) $ join ! $ nothing ! $ move ! (2 ∷ 0 ∷ []) $ join ! $ join ! $
    let lives : κ ⊑ Held.lives = ⊑_meet κ κ Y.lives (⊑_refl κ) (⊑_trans κ κY Y.lives bounds.1.0 leY) in
    let G₂ = triple_of 𝓛 (parts.signature Held) (parts.spec Held 𝓛 𝓜.mem 𝓡.returns) in
    let z₂ : G₂.Ghost = (((κ, tt), (qs.0, tt), tt, (y, tt), (band_val y ∷ [], tt)), tt) in
    nothing ! $ use0 𝓛 (raw (fact 𝓤 (κ ⊑ Held.lives))) (fact_i 𝓤 (κ ⊑ Held.lives) (emp 𝓤) lives) $ join ! $ move ! (1 ∷ 0 ∷ []) $ use2 𝓛 (raw (G₂.pre z₂)) (id⊢ 𝓤 _) $
    -- [what the call asks; the token of κX; that of κY; what the cursor follows]
    calls_at_last ! fm G₂ (apart.met 𝓤 𝓛 𝓜 𝓡 (compiled.calls-imgref::img::Img::into_parts 𝓡.env wired) Held (lent_cells_laws κ Y LY)) z₂ (and_then ! (get ! refl) (no_more !)) (λ v₂.
    let Parted : Type 0 = MutBor (List Y.Denot) × Shape in
    use1 𝓛 (later (some (λ (r : Parted). ((‵ (flft κ qs.0) ⊛ ‵ ftrue) ⊛ ‵ (Two.own_val r (v₂ ∷ []))) ⊛ some (λ (us₂ : (Unit {0} × Unit {0}) × Unit {0}). ‵ (lasts (parts.ended Held) z₂.0.0 z₂.0.3 us₂)
    ⊛ raw (fact 𝓤 (r.0 ≡ y.buf)) ⊛ raw (fact 𝓤 (r.1 ≡ shape_of y)))))) (id⊢ 𝓤 _) $
    await ! tt $ pick ! (λ r. split ! $ split ! $ move ! (2 ∷ []) $ pick ! (λ us₂. split ! $ drop ! $ split ! $ heard ! (r.0 ≡ y.buf) (λ e₁. heard ! (r.1 ≡ shape_of y) (λ e₂.
    -- [the token of κ; the parts; the token of κX; that of κY; what the cursor follows]
    let both : Parted = (y.buf, shape_of y) in
    let known : r ≡ both = λ i. (e₁ i, e₂ i) in
    move ! (1 ∷ []) $ rewrite ! 0 (λ (p : Parted). ‵ (Two.own_val p (v₂ ∷ []))) known refl $
    peeks ! Two (Is Two) (shows 𝓛 Two) both (v₂ ∷ []) (λ is₂. let pt = img_parts_told κ R both (v₂ ∷ []) is₂ in
    let good : T (has_ty (type_of 5 fn.locals) v₂) × WT v₂ = subst (λ (v' : Val). T (has_ty (type_of 5 fn.locals) v') × WT v') (sym (ap only (pt.0))) (tt, ((tt, (record { fits = pt.1.0 }, tt)), ((record { fits = pt.2 }, (record { fits = pt.3 }, (record { fits = pt.4 }, tt))), tt))) in
    lands_last ! refl good $ exec ! 𝓣.C 𝓣.Λ E rest (at_ret E Post) $
    sets ! (of_opd ! (get ! refl)) refl good $ returns ! (look_at ! 0 refl) $ free_all ! refl $
    -- [the parts; the token of κ; that of κX; that of κY; what the cursor follows]
    let Taken : Type 0 = IsTile gs.cells gh.with_cells gh.padded_windows h (mut_layout y) in
    let taken : Taken = record { first = next.first; fits = next.fits; same_width = ap (λ (k : Layout Y.Denot). k.width) next.cells_are ∙ window_width gh.padded_windows whole_image here; same_height = ap (λ (k : Layout Y.Denot). k.height) next.cells_are ∙ window_height gh.padded_windows whole_image here; grid = next.grid; still_fits = next.still_fits; outside = next.outside } in
    move ! (4 ∷ []) $ use0 𝓛 (raw (fact 𝓤 Taken)) (fact_i 𝓤 Taken (emp 𝓤) taken) $ move ! (1 ∷ 0 ∷ []) $ join ! $
    -- [the ensures; the parts; the token of κ; that of κX; that of κY]
    move ! (2 ∷ []) $ split ! $ move ! (1 ∷ []) $ drop ! $ move ! (3 ∷ 4 ∷ []) $ join ! $ move ! (1 ∷ 0 ∷ []) $ join ! $
    -- [the tokens; the ensures; the parts]
    nothing ! $ nothing ! $ fjoin ! $ move ! (1 ∷ 0 ∷ 3 ∷ 2 ∷ []) $ by ! (leaves 𝓛 En stays c z v₂ both (tt, tt) (tt, tt))))))))))
    (none_or_some m))))))))))
