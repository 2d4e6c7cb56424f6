-- `parts_at` lends the whole image, takes the window of the path from it, and parts that: its MIR, proved by hand. Assumes `Logic`.
use mir.Syntax.{Body}
use Rattle.std.proofs.Common.{⊎_elim, ◌≡◌, refl, sym, ap, subst, ◌∙◌, ℕ, List, [], ◌∷◌, T, lit<, length, Bor, MutBor, None}
use Rattle.std.proofs.alloc.Shapes.{after}
use Rattle.std.proofs.lemmas.Option.{none-some}
use Rattle.std.specs.Result.{IfOk, result_err}
use Rattle.std.specs.contracts.result.Result as result
use Rattle.std.specs.declared.result.Result.{Result}
use Rattle.std.specs.declared.result.Result.TheVariants.{Ok, Err}
use Rattle.borrow_laws.proofs.Walking.{SProp, emp, id⊢, Lft, GName, ftrue, flft, Args, Fn, named, inst_fn, Val, WT, has_ty, vptr, Env, Wp, after_seq, at_return, ◌⊑◌, ⊑_refl, ⊑_trans, ⊑_meet, fact, fact_i, tables, Item, any_q, ‵, ◌⊛◌, raw, later, some, at_ret, ◌$◌, ◌∵◌, !, qed, by, move, keep, drop, split, split3, join, fsplit, fjoin, rewrite, use0, use1, use2, await, pick, updating, now, done, vrt, in_variant, all_of, stop, fld, addr, of_opd, and_then, no_more, first, switches_on, exec, returns, enter, alloc_all, pass_all, free_all, look_at, get, get_in, get_tag, through, sets, lands_as, lands_last, env, Array, usize, follows, follows_if, follows_then, shows, Is, param, RattleType, owns, mut_vals, mut_Tells, plain, types_at, ShrSlice, slice_val, shr_slice_Tells, nothing, heard, peeks, only, calls_at, calls_at_last, lasts, triple_of, framed, Stays, stay_dropped, walk_of, Goes-spent_ref, proved, leaves}
use Rattle.borrow_laws.proofs.Bodies.{of_container, first_arm, type_of}
use Rattle.borrow_laws.proofs.Followed.{if_given}
use Rattle.image_model.specs.Layout.{Layout, Fits}
use Rattle.image_model.specs.Windows as model
use Rattle.image_model.specs.Windows.{first_outside, path_stretch, path_layout, whole, with_stretch}
use Rattle.image_shape.specs.declared.shape.Shape.{Shape}
use Rattle.imgref.specs.Image.{with_all, layout_by, mut_layout, shape_of}
use Rattle.imgref.proofs.ImageValues.{img_row, img_told, LentCells, lent_cells_laws, ImgParts, img_parts_told}
use Rattle.imgref.specs.declared.img.Img.{Img}
use Rattle.imgref.specs.contracts.img.Img.into_parts as parts
use Rattle.imgref.proofs.img.Img.into_parts.Met as apart
use Rattle.imgref.specs.contracts.img.Img.{the_row}
use Rattle.imgref.specs.contracts.img.Img.as_mut as g
use Rattle.imgref.proofs.img.Img.as_mut.Met as lending
use Rattle.imgref.specs.Window.{as_path}
use Rattle.image_shape.specs.declared.window.Window.{Window}
use Rattle.image_shape.specs.contracts.window.Window as window
use Rattle.image_tiles.proofs.BandValues.{band_val, band_ok}
use Rattle.imgref_replay.specs.Path.{IsPathWindow, window_name}
use Rattle.imgref_replay.specs.contracts.into_window_at as f
use Rattle.imgref_replay.proofs.into_window_at.Met as finding
use Rattle.part_callers.specs.Paths.{IsNested}
use Rattle.part_callers.proofs.Nested.{nested}
use Rattle.part_callers.proofs.LentImages.{ok_or_err, ok_told, ok_image}
use Rattle.part_callers.specs.contracts.paths.parts_at.{ended, clauses}
use Rattle.part_callers.specs.contracts.paths.parts_at.Key.{name as #self}
use Rattle.part_callers.proofs.paths.parts_at.Statement.{statement}
use Rattle.part_callers.proofs.paths.parts_at.Code as compiled

pub parts_at_spec : {M : Type 1} → statement M
parts_at_spec 𝓤 𝓛 𝓜 𝓡 wired X Y LX LY gh d gs ds bm bs =
    let H = 𝓛.H in let 𝓣 = tables 𝓤 H 𝓜 𝓡 𝓡.env in let fm = framed 𝓤 H 𝓜 𝓣 in
    let args : Args = of_container X Y d ds in let fn : Fn = inst_fn args compiled.function in let R : RattleType = param 1 Y in let Whole : RattleType = the_row (param 0 X) in
    let En = ended X Y gh d gs ds in let c = clauses X Y gh d gs ds 𝓛 𝓜.mem 𝓡.returns in let stays : Stays En.signature.params En.kept = (stay_dropped _ En.kept.0, (stay_dropped _ En.kept.1.0, tt)) in
    proved 𝓛 En stays c 𝓜 𝓡 (Goes-spent_ref 𝓛 4 (0 ∷ []) tt (plain (λ _. Whole)), ((λ κs x f vs ok. qed 𝓛 (‵ ftrue ∷ []) ∵ updating ! $ now ! $ done !), tt)) (#self args) fn (compiled.unfolded 𝓤 H 𝓜 𝓡 wired (X, (Y, tt)) d ds)
    (λ κs. (mut_vals, ((λ path. slice_val path.ref_ptr (length path.now) ∷ []), tt))) (λ κs. (mut_Tells (named 0) κs.0 Whole, (shr_slice_Tells (named 1) κs.1.0 window.the_row, tt))) (λ κs qs bounds a gg are.
    let κ : Lft = κs.0 in let κp : Lft = κs.1.0 in let κX : Lft = κs.1.1.0 in let κY : Lft = κs.1.1.1.0 in
    let x : MutBor (Img X.Denot) = a.0 in
    let path : Bor (List Window) = a.1.0 in
    let ws : List model.Window = as_path path.now in
    let i : Img X.Denot = x.now in
    let γ : GName = x.ghost_name in
    let li : Layout Y.Denot = layout_by gs.cells i in
    let FitsIn : Type 0 = Fits li in
    let Inside : Type 0 = first_outside li.width li.height ws ≡ None in
    let Row : RattleType = img_row (named 0) κ R in
    let Path : RattleType = ShrSlice (named 1) κp window.the_row in
    let Ans : RattleType = result.the_row Row usize in
    let Held : RattleType = LentCells κ Y in
    let Two : RattleType = ImgParts κ R in
    let A₀ : RattleType = Array R 0 in
    let Tile : Type 0 = Img (MutBor (List Y.Denot)) in
    let Given : Type 0 = Result Tile ℕ in
    let F : List Y.Denot → Img X.Denot = with_all gs.cells gh.with_cells i in
    let G : Layout Y.Denot → List Y.Denot → List Y.Denot = λ k. with_stretch k.cells (path_stretch k.stride (whole k.cells) ws) in
    let Tok₁ : Item 𝓤 = ‵ (flft κ qs.0) ⊛ ‵ (flft κX qs.1.1.0) ⊛ ‵ (flft κY qs.1.1.1.0) ⊛ ‵ ftrue in
    let Tok₂ : Item 𝓤 = ‵ (flft κ qs.0) ⊛ ‵ (flft κp qs.1.0) ⊛ ‵ (flft κY qs.1.1.1.0) ⊛ ‵ ftrue in
    let pw : Val = slice_val path.ref_ptr (length path.now) in
    let z : (walk_of 𝓛 En stays c).Ghost = ((κs, qs, bounds, a, (mut_vals x, (pw ∷ [], tt))), gg) in let Post : Val → SProp 𝓤 = (walk_of 𝓛 En stays c).post z in
    let G₁ = triple_of 𝓛 (g.signature X Y) (g.spec X Y gh d gs ds 𝓛 𝓜.mem 𝓡.returns) in
    let z₁ : G₁.Ghost = (((κ, (κX, (κY, tt))), (qs.0, (qs.1.1.0, (qs.1.1.1.0, tt))), bounds, (x, tt), (mut_vals x, tt)), tt) in
    qed 𝓛 (((‵ (flft κ qs.0) ⊛ ‵ (flft κp qs.1.0) ⊛ ‵ (flft κX qs.1.1.0) ⊛ ‵ (flft κY qs.1.1.1.0) ⊛ ‵ ftrue) ⊛ ‵ (owns (types_at En.signature.params κs) a z.0.4)) ∷ (raw (fact 𝓤 (κX ⊑ X.lives)) ⊛ raw (fact 𝓤 (κY ⊑ Y.lives)) ⊛ raw (fact 𝓤 FitsIn) ⊛ raw (fact 𝓤 Inside)) ∷ []) ∵
    move ! (1 ∷ []) $ split3 ! $ heard ! (κX ⊑ X.lives) (λ leX. heard ! (κY ⊑ Y.lives) (λ leY. split ! $ heard ! FitsIn (λ fits. heard ! Inside (λ inside. split ! $ move ! (1 ∷ []) $ fsplit ! $ move ! (1 ∷ []) $ fsplit ! $ keep ! (2 ∷ 0 ∷ 3 ∷ []) $
    -- [the image's reference; the path; the tokens]
    enter ! 𝓣.C 𝓣.Λ fn (vptr x.ref_ptr.0 x.ref_ptr.1 ∷ pw ∷ []) Post $ alloc_all ! (λ l. pass_all ! refl ((tt, tt), ((tt, (tt, (record { fits = are.1.0.0.1.0 }, tt))), tt)) $
    sets ! (addr ! (through ! refl (stop !))) refl (tt, tt) $
    move ! (2 ∷ []) $ split3 ! $ nothing ! $ move ! (4 ∷ 0 ∷ []) $ join ! $ move ! (1 ∷ 3 ∷ []) $ join ! $ join ! $
    nothing ! $ use0 𝓛 (raw (fact 𝓤 (κY ⊑ Y.lives))) (fact_i 𝓤 (κY ⊑ Y.lives) (emp 𝓤) leY) $ join ! $ use0 𝓛 (raw (fact 𝓤 (κX ⊑ X.lives))) (fact_i 𝓤 (κX ⊑ X.lives) (emp 𝓤) leX) $ join ! $
    move ! (1 ∷ 0 ∷ []) $ use2 𝓛 (raw (G₁.pre z₁)) (id⊢ 𝓤 _) $
    -- [what the call asks; the path's token; the path]
    calls_at ! fm G₁ (lending.met 𝓤 𝓛 𝓜 𝓡 (compiled.calls-imgref::img::Img::as_mut 𝓡.env wired) X Y LX LY gh d gs ds bm bs) z₁ (and_then ! (get ! refl) (no_more !)) (λ v₁.
    use1 𝓛 (later (some (λ (r : Tile). (Tok₁ ⊛ ‵ (Row.own_val r (v₁ ∷ []))) ⊛ some (λ (us : Unit {0} × Unit {0}). ‵ (lasts (g.ended X Y gh d gs ds) z₁.0.0 z₁.0.3 us)
    ⊛ (‵ (follows Whole A₀ γ r.buf.ghost_name F) ⊛ raw (fact 𝓤 (mut_layout r ≡ li))))))) (id⊢ 𝓤 _) $
    await ! tt $ pick ! (λ r. split ! $ split ! $ move ! (2 ∷ []) $ pick ! (λ us. split ! $ drop ! $ split ! $ move ! (1 ∷ []) $ heard ! (mut_layout r ≡ li) (λ all.
    -- [what the image follows; the tokens; the whole image; the path's token; the path]
    move ! (2 ∷ []) $ peeks ! Row (Is Row) (shows 𝓛 Row) r (v₁ ∷ []) (λ is₁. let told₁ = img_told (named 0) κ R r (v₁ ∷ []) is₁ in
    let whole_ok : WT (band_val r) = band_ok (named 0) κ R r (v₁ ∷ []) is₁ in
    rewrite ! 0 (λ (vs : List Val). ‵ (Row.own_val r vs)) told₁.0 refl $
    lands_as ! (ap only (told₁.0)) refl (tt, whole_ok) $
    -- [the whole image; what the image follows; the tokens; the path's token; the path]
    let Fit_r : Type 0 = Fits (mut_layout r) in
    let fit_r : Fit_r = subst (λ (k : Layout Y.Denot). Fits k) (sym all) fits in
    let G₂ = triple_of 𝓛 (f.signature Y) (f.spec Y 𝓛 𝓜.mem 𝓡.returns) in
    let z₂ : G₂.Ghost = (((κ, (κp, (κY, tt))), (qs.0, (qs.1.0, (qs.1.1.1.0, tt))), (bounds.1.0, tt), (r, (path, tt)), (band_val r ∷ [], (pw ∷ [], tt))), tt) in
    nothing ! $ move ! (5 ∷ 0 ∷ []) $ fjoin ! $ move ! (1 ∷ 0 ∷ []) $ fjoin ! $
    move ! (2 ∷ []) $ split3 ! $ move ! (5 ∷ 2 ∷ []) $ join ! $ move ! (1 ∷ 0 ∷ []) $ join ! $ move ! (0 ∷ 2 ∷ []) $ join ! $
    use0 𝓛 (raw (fact 𝓤 Fit_r)) (fact_i 𝓤 Fit_r (emp 𝓤) fit_r) $ use0 𝓛 (raw (fact 𝓤 (κY ⊑ Y.lives))) (fact_i 𝓤 (κY ⊑ Y.lives) (emp 𝓤) leY) $ join ! $
    move ! (1 ∷ 0 ∷ []) $ use2 𝓛 (raw (G₂.pre z₂)) (id⊢ 𝓤 _) $
    -- [what the call asks; the token of κX; what the image follows]
    calls_at ! fm G₂ (finding.met 𝓤 𝓛 𝓜 𝓡 (compiled.calls-imgref_replay::into_window_at 𝓡.env wired) Y LY) z₂ (and_then ! (get ! refl) (and_then ! (get ! refl) (no_more !))) (λ v₂.
    let lr : Layout Y.Denot = mut_layout r in
    let Seen : Given → Type 0 = λ m. result_err m ≡ first_outside lr.width lr.height ws in
    let Found : Given → Type 0 = λ m. IfOk m (λ y. IsPathWindow lr ws (mut_layout y)) in
    use1 𝓛 (later (some (λ (m : Given). (Tok₂ ⊛ ‵ (Ans.own_val m (v₂ ∷ []))) ⊛ some (λ (us₂ : (Unit {0} × Unit {0}) × (Unit {0} × Unit {0})). ‵ (lasts (f.ended Y) z₂.0.0 z₂.0.3 us₂)
    ⊛ (‵ (follows_if A₀ A₀ r.buf.ghost_name (window_name m) (G lr) r.buf.now) ⊛ raw (fact 𝓤 (Seen m)) ⊛ raw (fact 𝓤 (Found m))))))) (id⊢ 𝓤 _) $
    await ! tt $ pick ! (λ m. split ! $ split ! $ move ! (2 ∷ []) $ pick ! (λ us₂. split ! $ drop ! $ split ! $ move ! (1 ∷ []) $ split ! $ heard ! (Seen m) (λ seen. heard ! (Found m) (λ is_found.
    -- [what the whole image follows; the tokens; the window, if the path is inside; the token of κX; what the image follows]
    ⊎_elim
    (λ (found : (y : Tile) × (m ≡ Ok y)). let y : Tile = found.0 in let e : m ≡ Ok y = found.1 in
    let is_path : mut_layout y ≡ path_layout li ws = (subst Found e is_found).layout ∙ ap (λ (k : Layout Y.Denot). path_layout k ws) all in
    rewrite ! 0 (λ (m' : Given). ‵ (follows_if A₀ A₀ r.buf.ghost_name (window_name m') (G lr) r.buf.now)) e refl $ use1 𝓛 (‵ (follows A₀ A₀ r.buf.ghost_name y.buf.ghost_name (G lr))) (if_given 𝓛 A₀ A₀ r.buf.ghost_name y.buf.ghost_name (G lr) r.buf.now) $
    move ! (4 ∷ 0 ∷ []) $ use2 𝓛 (‵ (follows Whole A₀ γ y.buf.ghost_name (λ others. F (G lr others)))) (follows_then 𝓛 Whole A₀ A₀ F (G lr) γ r.buf.ghost_name y.buf.ghost_name) $
    rewrite ! 0 (λ (k : Layout Y.Denot). ‵ (follows Whole A₀ γ y.buf.ghost_name (λ others. F (G k others)))) all refl $
    move ! (2 ∷ []) $ rewrite ! 0 (λ (m' : Given). ‵ (Ans.own_val m' (v₂ ∷ []))) e refl $
    -- [the window; what the image follows; the tokens; the token of κX]
    peeks ! Ans (Is Ans) (shows 𝓛 Ans) (Ok y) (v₂ ∷ []) (λ is. let told_y = ok_told (named 0) κ R y (v₂ ∷ []) is in
    let window_ok : WT (band_val y) = band_ok (named 0) κ R y _ is.1.1.1.1.0 in
    lands_as ! (ap only told_y) refl (tt, (record { fits = lit< tt }, (window_ok, tt))) $
    use1 𝓛 (‵ (Row.own_val y (band_val y ∷ []))) (ok_image (named 0) κ R y 𝓛 v₂) $
    let E : Env 𝓤 H = env fn.locals l in
    let rest : Body = after 4 fn.body in
    let next_body = any_q (after_seq 𝓤 H (Wp 𝓤 H 𝓣.C 𝓣.Λ E rest (at_return 𝓤 H E Post)) (at_return 𝓤 H E Post)) in
    first ! $ switches_on ! (get_tag ! (vrt ! refl (fld ! refl (stop !))) (all_of !)) $ exec ! 𝓣.C 𝓣.Λ E (first_arm (after 3 fn.body)) next_body $
    sets ! (of_opd ! (get_in ! (vrt ! refl (fld ! refl (stop !))) (in_variant ! 0 0 refl refl (all_of !)))) refl (tt, window_ok) $
    sets ! (of_opd ! (get ! refl)) refl (tt, window_ok) $
    -- [the window; what the image follows; the tokens; the token of κX]
    move ! (2 ∷ []) $ split3 ! $ nothing ! $ move ! (4 ∷ 0 ∷ []) $ join ! $ nothing ! $ move ! (2 ∷ 0 ∷ []) $ join ! $ join ! $
    let lives : κ ⊑ Held.lives = ⊑_meet κ κ Y.lives (⊑_refl κ) (⊑_trans κ κY Y.lives bounds.1.0 leY) in
    let G₃ = triple_of 𝓛 (parts.signature Held) (parts.spec Held 𝓛 𝓜.mem 𝓡.returns) in
    let z₃ : G₃.Ghost = (((κ, tt), (qs.0, tt), tt, (y, tt), (band_val y ∷ [], tt)), tt) in
    nothing ! $ use0 𝓛 (raw (fact 𝓤 (κ ⊑ Held.lives))) (fact_i 𝓤 (κ ⊑ Held.lives) (emp 𝓤) lives) $ join ! $ move ! (1 ∷ 0 ∷ []) $ use2 𝓛 (raw (G₃.pre z₃)) (id⊢ 𝓤 _) $
    -- [what the call asks; the path's token; that of κY; what the image follows; the token of κX]
    calls_at_last ! fm G₃ (apart.met 𝓤 𝓛 𝓜 𝓡 (compiled.calls-imgref::img::Img::into_parts 𝓡.env wired) Held (lent_cells_laws κ Y LY)) z₃ (and_then ! (get ! refl) (no_more !)) (λ v₃.
    let Parted : Type 0 = MutBor (List Y.Denot) × Shape in
    use1 𝓛 (later (some (λ (p : Parted). ((‵ (flft κ qs.0) ⊛ ‵ ftrue) ⊛ ‵ (Two.own_val p (v₃ ∷ []))) ⊛ some (λ (us₃ : (Unit {0} × Unit {0}) × Unit {0}). ‵ (lasts (parts.ended Held) z₃.0.0 z₃.0.3 us₃)
    ⊛ raw (fact 𝓤 (p.0 ≡ y.buf)) ⊛ raw (fact 𝓤 (p.1 ≡ shape_of y)))))) (id⊢ 𝓤 _) $
    await ! tt $ pick ! (λ p. split ! $ split ! $ move ! (2 ∷ []) $ pick ! (λ us₃. split ! $ drop ! $ split ! $ heard ! (p.0 ≡ y.buf) (λ e₁. heard ! (p.1 ≡ shape_of y) (λ e₂.
    let both : Parted = (y.buf, shape_of y) in
    let known : p ≡ both = λ k. (e₁ k, e₂ k) in
    move ! (1 ∷ []) $ rewrite ! 0 (λ (q : Parted). ‵ (Two.own_val q (v₃ ∷ []))) known refl $
    peeks ! Two (Is Two) (shows 𝓛 Two) both (v₃ ∷ []) (λ is₃. let pt = img_parts_told κ R both (v₃ ∷ []) is₃ in
    let good : T (has_ty (type_of 7 fn.locals) v₃) × WT v₃ = subst (λ (v' : Val). T (has_ty (type_of 7 fn.locals) v') × WT v') (sym (ap only (pt.0))) (tt, ((tt, (record { fits = pt.1.0 }, tt)), ((record { fits = pt.2 }, (record { fits = pt.3 }, (record { fits = pt.4 }, tt))), tt))) in
    lands_last ! refl good $ exec ! 𝓣.C 𝓣.Λ E rest (at_ret E Post) $
    sets ! (of_opd ! (get ! refl)) refl good $ returns ! (look_at ! 0 refl) $ free_all ! refl $
    -- [the parts; the token of κ; the path's; that of κY; what the image follows; the token of κX]
    let Taken : Type 0 = IsNested gs.cells gh.with_cells i ws (mut_layout y) in
    let taken : Taken = nested gs.cells gh.with_cells bm.others_stay i ws fits inside (mut_layout y) is_path in
    move ! (4 ∷ []) $ use0 𝓛 (raw (fact 𝓤 Taken)) (fact_i 𝓤 Taken (emp 𝓤) taken) $ move ! (1 ∷ 0 ∷ []) $ join ! $
    -- [the ensures; the parts; the token of κ; the path's; that of κY; that of κX]
    move ! (2 ∷ []) $ split ! $ move ! (1 ∷ []) $ drop ! $ move ! (5 ∷ 4 ∷ []) $ join ! $ move ! (4 ∷ 0 ∷ []) $ join ! $ move ! (1 ∷ 0 ∷ []) $ join ! $
    -- [the tokens; the ensures; the parts]
    nothing ! $ nothing ! $ fjoin ! $ nothing ! $ fjoin ! $ move ! (1 ∷ 0 ∷ 3 ∷ 2 ∷ []) $ by ! (leaves 𝓛 En stays c z v₃ both (tt, (tt, tt)) (tt, (tt, tt)))))))))))
    (λ (lost : (n : ℕ) × (m ≡ Err n)). let out : Seen (Err lost.0) = subst Seen lost.1 seen in
    absurd (none-some lost.0 (sym (out ∙ ap (λ (k : Layout Y.Denot). first_outside k.width k.height ws) all ∙ inside))))
    (ok_or_err m)))))))))))))))))
