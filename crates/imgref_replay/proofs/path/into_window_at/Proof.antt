-- `into_window_at` asks where the path leads, and lends that stretch on; where a window is outside, the cells are given up as they are.
use mathlib.Core.Option.{some as there}
use types.Match.{by_variants}
use Rattle.std.proofs.Common.{◌≡◌, refl, sym, ap, subst, ◌∙◌, inl, inr, ℕ, ◌≤◌, suc-ne-zero, List, [], ◌∷◌, ◌++◌, lit<, length, w64, MutBor, Bor, Option, None}
use Rattle.std.proofs.VecSteps.Shapes.{after}
use Rattle.std.specs.Result.{IfOk, result_err}
use Rattle.std.specs.contracts.result.Result as result
use Rattle.std.specs.declared.result.Result.{Result}
use Rattle.std.specs.declared.result.Result.TheVariants.{Ok, Err}
use Rattle.borrow_laws.proofs.Walking.{none, SProp, emp, id⊢, Lft, GName, ftrue, flft, fobs, coded_list, Args, Fn, named, inst_fn, Val, vint, vcons, vnil, Env, WpFn, ◌⊑◌, ⊑_refl, ⊑_trans, ⊑_meet, fact, fact_i, tables, Item, ‵, ◌⊛◌, raw, later, some, prop, at_ret, ◌$◌, ◌∵◌, !, qed, by, move, keep, drop, split, split3, join, fsplit, fsplit3, fjoin, fpick, rewrite, regoal, use0, use1, use2, await, pick, updating, now, done, live, vrt, in_variant, all_of, sub, agg, stop, fld, hop, from, addr, of_opd, lit, and_then, no_more, first, exec, returns, enter, alloc_all, pass_all, free_all, look_at, look_in_at, get, get_in, get_tag, sets, sets_last, lands_as, env, name_done, Array, usize, follows, follows_if, heres_id, shows, Is, param, uint_Makes, RattleType, owns, types_at, MutSlice, ShrSlice, slice_val, shr_slice_Tells, nothing, heard, peeks, owned, only, calls_at, lasts, triple_of, framed, Stays, stay_dropped, walk_of, proved_at, leaves}
use Rattle.borrow_laws.proofs.Bodies.{of_one}
use Rattle.borrow_laws.proofs.Followed.{if_some, if_none}
use Rattle.image_model.specs.Layout.{Layout, Fits, layout}
use Rattle.image_model.specs.Windows as model
use Rattle.image_model.specs.Windows.{Stretch, first_outside, path_stretch, stretch_cells, whole, with_stretch}
use Rattle.imgref.specs.Image.{mut_layout, shape_of}
use Rattle.imgref.specs.declared.img.Img.{Img}
use Rattle.imgref.specs.contracts.img.Img.into_parts as parts
use Rattle.imgref.proofs.img.Img.into_parts.Met as apart
use Rattle.imgref.specs.Window.{as_path, as_stretch}
use Rattle.imgref_replay.specs.Path.{IsPathWindow, LeadsTo}
use Rattle.imgref_replay.proofs.Paths.{path_window_is}
use Rattle.image_shape.specs.declared.window.Stretch.{Stretch as Run}
use Rattle.image_shape.specs.declared.shape.Shape.{Shape}
use Rattle.image_shape.specs.contracts.window.Stretch as stretch
use Rattle.image_shape.specs.contracts.shape.Shape as shape
use Rattle.image_shape.specs.Shape.{shaped}
use Rattle.image_shape.specs.declared.window.Window.{Window}
use Rattle.image_shape.specs.contracts.window.Window as window
use Rattle.imgref_replay.specs.contracts.path.region_at as f
use Rattle.imgref_replay.proofs.path.region_at.Met as find
use Rattle.imgref.specs.contracts.window.Img+mut+slice+T.from_stretch as g
use Rattle.imgref.proofs.window.Img+mut+slice+T.from_stretch.Met as part
use Rattle.imgref.proofs.ImageValues.{stretch_val, stretch_made, shape_val, shape_made, img_val, img_row, img_told, LentCells, lent_cells_laws, ImgParts, img_parts_told}
use Rattle.imgref_replay.proofs.AnswerValues.{Answer, answer_told, ok_made, err_made}
use Rattle.imgref_replay.specs.contracts.path.into_window_at.{ended, clauses}
use Rattle.imgref_replay.specs.contracts.path.into_window_at.Key.{name as #self}
use Rattle.imgref_replay.proofs.path.into_window_at.Statement.{statement}
use Rattle.imgref_replay.proofs.path.into_window_at.Code as compiled

pub into_window_at_spec : {M : Type 1} → statement M
into_window_at_spec 𝓤 𝓛 𝓜 𝓡 wired T L =
    let H = 𝓛.H in let 𝓣 = tables 𝓤 H 𝓜 𝓡 𝓡.env in let fm = framed 𝓤 H 𝓜 𝓣 in
    let args : Args = of_one T in let fn : Fn = inst_fn args compiled.function in let R : RattleType = param 0 T in
    let En = ended T in let c = clauses T 𝓛 𝓜.mem 𝓡.returns in let ps = En.signature.params in let stays : Stays En.signature.params En.kept = (stay_dropped _ En.kept.0, (stay_dropped _ En.kept.1.0, tt)) in
    proved_at 𝓛 En stays c 𝓜 𝓡 ((λ κs x f vs ok. qed 𝓛 (‵ ftrue ∷ []) ∵ updating ! $ nothing ! $ fjoin ! $ now ! $ done !), ((λ κs x f vs ok. qed 𝓛 (‵ ftrue ∷ []) ∵ updating ! $ now ! $ done !), tt)) (#self args) fn (compiled.unfolded 𝓤 H 𝓜 𝓡 wired (T, tt)) (λ z are.
    let Post : Val → SProp 𝓤 = (walk_of 𝓛 En stays c).post z in let a = z.0.3 in let vss = z.0.4 in let κs = z.0.0 in let qs = z.0.1 in let κ : Lft = κs.0 in let κp : Lft = κs.1.0 in let κT : Lft = κs.1.1.0 in
    let img : Img (MutBor (List T.Denot)) = a.0 in
    let path : Bor (List Window) = a.1.0 in
    let ws : List model.Window = as_path path.now in
    let cells : MutBor (List T.Denot) = img.buf in
    let xs : List T.Denot = cells.now in
    let γ : GName = cells.ghost_name in
    let li : Layout T.Denot = mut_layout img in
    let st : Stretch = path_stretch img.stride (whole xs) ws in
    let out : Option ℕ = first_outside img.width img.height ws in
    let Slice : RattleType = MutSlice (named 0) κ R in
    let Row : RattleType = img_row (named 0) κ R in
    let Path : RattleType = ShrSlice (named 1) κp window.the_row in
    let X : RattleType = LentCells κ T in
    let told = img_told (named 0) κ R img vss.0 are.0 in
    let ptold : vss.1.0 ≡ slice_val path.ref_ptr (length path.now) ∷ [] = shr_slice_Tells (named 1) κp window.the_row path vss.1.0 are.1.0 in
    let w : Val = img_val cells.ref_ptr (length xs) (shape_of img) in
    let sv : Val = slice_val cells.ref_ptr (length xs) in
    let pw : Val = slice_val path.ref_ptr (length path.now) in
    let FitsIn : Type 0 = Fits li in
    let F : List T.Denot → List T.Denot = with_stretch xs st in
    let Seen : Result (Img (MutBor (List T.Denot))) ℕ → Type 0 = λ r. result_err r ≡ out in
    let Found : Result (Img (MutBor (List T.Denot))) ℕ → Type 0 = λ r. IfOk r (λ y. IsPathWindow li ws (mut_layout y)) in
    let alive : κ ⊑ T.lives → κ ⊑ X.lives = λ le. ⊑_meet κ κ T.lives (⊑_refl κ) le in
    let G₁ = triple_of 𝓛 (parts.signature X) (parts.spec X 𝓛 𝓜.mem 𝓡.returns) in
    let z₁ : G₁.Ghost = (((κ, tt), (qs.0, tt), tt, (img, tt), (w ∷ [], tt)), tt) in
    qed 𝓛 (((‵ (flft κ qs.0) ⊛ ‵ (flft κp qs.1.0) ⊛ ‵ (flft κT qs.1.1.0) ⊛ ‵ ftrue) ⊛ ‵ (owns (types_at ps z.0.0) a vss)) ∷ (raw (fact 𝓤 (κT ⊑ T.lives)) ⊛ raw (fact 𝓤 FitsIn)) ∷ []) ∵
    move ! (1 ∷ []) $ split ! $ heard ! (κT ⊑ T.lives) (λ le. heard ! FitsIn (λ fits. split ! $ move ! (1 ∷ []) $ fsplit ! $ move ! (1 ∷ []) $ fsplit ! $ keep ! (2 ∷ 0 ∷ 3 ∷ []) $
    -- [the image; the path; the tokens]
    rewrite ! 0 (λ (vs : List Val). ‵ (Row.own_val img vs)) (told.0) refl $ rewrite ! 1 (λ (vs : List Val). ‵ (Path.own_val path vs)) ptold refl $
    regoal ! (λ (vs : List Val). prop (WpFn 𝓤 H 𝓣.C 𝓣.Λ fn vs Post)) (λ k. told.0 k ++ (ptold k ++ [])) refl $
    enter ! 𝓣.C 𝓣.Λ fn (w ∷ pw ∷ []) Post $
    alloc_all ! (λ l. let Ev : Env 𝓤 H = env fn.locals l in
    pass_all ! refl ((tt, ((tt, (record { fits = told.1.0 }, tt)), (record { fits = told.2 }, (record { fits = told.3 }, (record { fits = told.4 }, tt))))), ((tt, (tt, (record { fits = are.1.0.0.1.0 }, tt))), tt)) $
    sets ! (of_opd ! (get ! refl)) refl (tt, ((tt, (record { fits = told.1.0 }, tt)), (record { fits = told.2 }, (record { fits = told.3 }, (record { fits = told.4 }, tt))))) $
    move ! (2 ∷ []) $ split3 ! $ nothing ! $ move ! (4 ∷ 0 ∷ []) $ join ! $ nothing ! $ move ! (2 ∷ 0 ∷ []) $ join ! $ join ! $
    -- [the token of κ and the image; the path's token; the token of κT; the path]
    let lives : κ ⊑ X.lives = alive (⊑_trans κ κT T.lives z.0.2.0 le) in
    nothing ! $ use0 𝓛 (raw (fact 𝓤 (κ ⊑ X.lives))) (fact_i 𝓤 (κ ⊑ X.lives) (emp 𝓤) lives) $ join ! $ move ! (1 ∷ 0 ∷ []) $ use2 𝓛 (raw (G₁.pre z₁)) (id⊢ 𝓤 _) $
    calls_at ! fm G₁ (apart.met 𝓤 𝓛 𝓜 𝓡 (compiled.calls-imgref::img::Img::into_parts 𝓡.env wired) X (lent_cells_laws κ T L)) z₁ (and_then ! (get ! refl) (no_more !)) (λ v.
    use1 𝓛 (later (some (λ (x : MutBor (List T.Denot) × Shape). ((‵ (flft κ qs.0) ⊛ ‵ ftrue) ⊛ ‵ ((ImgParts κ R).own_val x (v ∷ []))) ⊛ some (λ (us : (Unit {0} × Unit {0}) × Unit {0}). ‵ (lasts (parts.ended X) z₁.0.0 z₁.0.3 us)
    ⊛ raw (fact 𝓤 (x.0 ≡ cells)) ⊛ raw (fact 𝓤 (x.1 ≡ (shape_of img))))))) (id⊢ 𝓤 _) $
    await ! tt $ pick ! (λ x. split ! $ split ! $ move ! (2 ∷ []) $ pick ! (λ us. split ! $ drop ! $ split ! $ heard ! (x.0 ≡ cells) (λ e₁. heard ! (x.1 ≡ (shape_of img)) (λ e₂.
    -- [the token of κ; the parts; the path's token; the token of κT; the path]
    let y₁ : MutBor (List T.Denot) × Shape = (cells, (shape_of img)) in
    let known : x ≡ y₁ = λ i. (e₁ i, e₂ i) in
    move ! (1 ∷ []) $ rewrite ! 0 (λ (u : MutBor (List T.Denot) × Shape). ‵ ((ImgParts κ R).own_val u (v ∷ []))) known refl $
    peeks ! (ImgParts κ R) (Is (ImgParts κ R)) (shows 𝓛 (ImgParts κ R)) y₁ (v ∷ []) (λ is. let pt = img_parts_told κ R y₁ (v ∷ []) is in
    lands_as ! (ap only (pt.0)) refl (tt, ((tt, (record { fits = pt.1.0 }, tt)), ((record { fits = pt.2 }, (record { fits = pt.3 }, (record { fits = pt.4 }, tt))), tt))) $
    fpick ! (λ vs₁. fsplit ! $ drop ! $ fsplit ! $ move ! (1 ∷ []) $ drop ! $
    peeks ! Slice (Is Slice) (shows 𝓛 Slice) cells (vs₁.0) (λ isS. rewrite ! 0 (λ (vs : List Val). ‵ (Slice.own_val cells vs)) (isS.0.0) refl $
    -- [the cells; the token of κ; the path's token; the token of κT; the path]
    sets ! (of_opd ! (get_in ! (fld ! refl (stop !)) (sub ! 0 refl (all_of !)))) refl (tt, (tt, (record { fits = pt.1.0 }, tt))) $
    sets ! (of_opd ! (get_in ! (fld ! refl (stop !)) (sub ! 1 refl (all_of !)))) refl (tt, (record { fits = pt.2 }, (record { fits = pt.3 }, (record { fits = pt.4 }, tt)))) $
    sets ! (of_opd ! (get_in ! (fld ! refl (stop !)) (sub ! 1 refl (all_of !)))) refl (tt, record { fits = pt.1.0 }) $
    let G₂ = triple_of 𝓛 f.signature (f.spec 𝓛 𝓜.mem 𝓡.returns) in
    let z₂ : G₂.Ghost = (((κp, tt), (qs.1.0, tt), tt, (length xs, ((shape_of img), (path, tt))), (vint w64 (length xs) ∷ [], (shape_val (shape_of img) ∷ [], (pw ∷ [], tt)))), tt) in
    nothing ! $ move ! (5 ∷ 0 ∷ []) $ join ! $ use0 𝓛 (‵ (shape.the_row.own_val (shape_of img) (shape_val (shape_of img) ∷ []))) (shape_made 𝓛 (shape_of img) pt.2 pt.3 pt.4) $ join ! $
    owned ! usize (Is usize) (uint_Makes 𝓛 w64) (length xs) (vint w64 (length xs) ∷ []) (refl, pt.1.0) $ join ! $
    nothing ! $ move ! (4 ∷ 0 ∷ []) $ join ! $ join ! $
    use0 𝓛 (raw (fact 𝓤 FitsIn)) (fact_i 𝓤 FitsIn (emp 𝓤) fits) $
    move ! (1 ∷ 0 ∷ []) $ use2 𝓛 (raw (G₂.pre z₂)) (id⊢ 𝓤 _) $
    calls_at ! fm G₂ (find.met 𝓤 𝓛 𝓜 𝓡 (compiled.calls-imgref_replay::path::region_at 𝓡.env wired)) z₂ (and_then ! (get ! refl) (and_then ! (get ! refl) (and_then ! (get ! refl) (no_more !)))) (λ v₂.
    let At₀ : Run × Shape → Type 0 = λ x. LeadsTo (length xs) (shape_of img) ws x.0 x.1 in
    let Room₀ : Run × Shape → Type 0 = λ x. model.IsWithin (length xs) (as_stretch x.0) in
    let Out : Result (Run × Shape) ℕ → Type 0 = λ r. result_err r ≡ out in
    let At : Result (Run × Shape) ℕ → Type 0 = λ r. IfOk r At₀ in
    let Inside : Result (Run × Shape) ℕ → Type 0 = λ r. IfOk r Room₀ in
    let Wide : Type 0 = img.width ≤ img.stride in
    use1 𝓛 (later (some (λ (r : Result (Run × Shape) ℕ). ((‵ (flft κp qs.1.0) ⊛ ‵ ftrue) ⊛ ‵ (Answer.own_val r (v₂ ∷ []))) ⊛ some (λ (us₂ : Unit {0} × (Unit {0} × (Unit {0} × Unit {0}))). ‵ (lasts f.ended z₂.0.0 z₂.0.3 us₂)
    ⊛ raw (fact 𝓤 (Out r)) ⊛ raw (fact 𝓤 (At r)) ⊛ raw (fact 𝓤 (Inside r)) ⊛ raw (fact 𝓤 Wide))))) (id⊢ 𝓤 _) $
    await ! tt $ pick ! (λ r. split ! $ split ! $ move ! (2 ∷ []) $ pick ! (λ us₂. split ! $ drop ! $ split ! $ heard ! (Out r) (λ outside. split ! $ heard ! (At r) (λ at_r. split ! $ heard ! (Inside r) (λ inside. heard ! Wide (λ wide.
    move ! (1 ∷ []) $ peeks ! Answer (Is Answer) (shows 𝓛 Answer) r (v₂ ∷ []) (λ is₂. drop ! $
    -- [the path's token; the cells; the token of κ; the token of κT]
    elim (answer_told r (v₂ ∷ []) is₂) [
      | inl h ↦ let y : Run × Shape = h.0 in let o = h.1 in
          let leads : At₀ y = subst (λ (m : Result (Run × Shape) ℕ). At m) (o.0) at_r in
          let all_inside : None ≡ out = subst (λ (m : Result (Run × Shape) ℕ). Out m) (o.0) outside in
          let In : Type 0 = Room₀ y in
          let in_bounds : In = subst (λ (m : Result (Run × Shape) ℕ). Inside m) (o.0) inside in
          let G₃ = triple_of 𝓛 (g.signature T) (g.spec T 𝓛 𝓜.mem 𝓡.returns) in
          let z₃ : G₃.Ghost = (((κ, (κT, tt)), (qs.0, (qs.1.1.0, tt)), z.0.2, (cells, (y.0, (y.1, tt))), (sv ∷ [], (stretch_val y.0 ∷ [], (shape_val y.1 ∷ [], tt)))), tt) in
          let Tok : Item 𝓤 = ‵ (flft κ qs.0) ⊛ ‵ (flft κT qs.1.1.0) ⊛ ‵ ftrue in
          lands_as ! (ap only (o.1)) refl (tt, (record { fits = lit< tt }, (((record { fits = o.2 }, (record { fits = o.3 }, tt)), ((record { fits = o.4 }, (record { fits = o.5 }, (record { fits = o.6 }, tt))), tt)), tt))) $
          first ! $ by_variants ! 14 (all_of !) (get_tag ! (vrt ! refl (fld ! refl (stop !))) (all_of !)) tt (
            (λ _. sets ! (of_opd ! (get_in ! (vrt ! refl (fld ! refl (fld ! refl (stop !)))) (sub ! 0 refl (in_variant ! 0 0 refl refl (all_of !))))) refl (tt, (record { fits = o.2 }, (record { fits = o.3 }, tt))) $
                sets ! (of_opd ! (get_in ! (vrt ! refl (fld ! refl (fld ! refl (stop !)))) (sub ! 1 refl (in_variant ! 0 0 refl refl (all_of !))))) refl (tt, (record { fits = o.4 }, (record { fits = o.5 }, (record { fits = o.6 }, tt)))) $
                sets ! (addr ! (from ! (fld ! refl (hop ! (look_in_at ! 3 (sub ! 0 refl (all_of !))) (stop !))))) refl (tt, tt) $
                sets ! (agg ! (and_then ! (get ! refl) (and_then ! (get_in ! (fld ! refl (stop !)) (sub ! 1 refl (all_of !))) (no_more !)))) refl (tt, (tt, (record { fits = pt.1.0 }, tt))) $
                nothing ! $ use0 𝓛 (‵ (shape.the_row.own_val y.1 (shape_val y.1 ∷ []))) (shape_made 𝓛 y.1 (o.4) (o.5) (o.6)) $ join ! $
                use0 𝓛 (‵ (stretch.the_row.own_val y.0 (stretch_val y.0 ∷ []))) (stretch_made 𝓛 y.0 (o.2) (o.3)) $ join ! $ move ! (2 ∷ 0 ∷ []) $ join ! $
                -- [the arguments; the path's token; the token of κ; the token of κT]
                move ! (2 ∷ []) $ split ! $ move ! (0 ∷ 4 ∷ []) $ join ! $ move ! (0 ∷ 2 ∷ []) $ join ! $ move ! (1 ∷ []) $ drop ! $
                use0 𝓛 (raw (fact 𝓤 In)) (fact_i 𝓤 In (emp 𝓤) in_bounds) $ use0 𝓛 (raw (fact 𝓤 (κT ⊑ T.lives))) (fact_i 𝓤 (κT ⊑ T.lives) (emp 𝓤) le) $ join ! $
                move ! (1 ∷ 0 ∷ []) $ use2 𝓛 (raw (G₃.pre z₃)) (id⊢ 𝓤 _) $
                calls_at ! fm G₃ (part.met 𝓤 𝓛 𝓜 𝓡 (compiled.calls-imgref::window::Img+mut+slice+T::from_stretch 𝓡.env wired) T L) z₃ (and_then ! (get ! refl) (and_then ! (get ! refl) (and_then ! (get ! refl) (no_more !)))) (λ v₃.
                let Made : Img (MutBor (List T.Denot)) → Type 0 = λ u. mut_layout u ≡ shaped (stretch_cells xs (as_stretch y.0)) y.1 in
                use1 𝓛 (later (some (λ (r₃ : Img (MutBor (List T.Denot))). (Tok ⊛ ‵ (Row.own_val r₃ (v₃ ∷ []))) ⊛ some (λ (us₃ : Unit {0} × (Unit {0} × (Unit {0} × Unit {0}))). ‵ (lasts (g.ended T) z₃.0.0 z₃.0.3 us₃)
                ⊛ (‵ (follows (Array R 0) (Array R 0) γ r₃.buf.ghost_name (with_stretch xs (as_stretch y.0))) ⊛ raw (fact 𝓤 (Made r₃))))))) (id⊢ 𝓤 _) $
                await ! tt $ pick ! (λ r₃. split ! $ split ! $ move ! (2 ∷ []) $ pick ! (λ us₃. split ! $ drop ! $ split ! $ move ! (1 ∷ []) $ heard ! (Made r₃) (λ made.
                -- [what follows; the tokens of κ and κT; the window; the path's token]
                let found : Found (Ok r₃) = path_window_is li ws wide fits (sym all_inside) (mut_layout r₃) (made ∙ (λ i. layout (stretch_cells xs (leads.cells i)) (leads.width i) (leads.height i) (leads.stride i))) in
                move ! (2 ∷ []) $ peeks ! Row (Is Row) (shows 𝓛 Row) r₃ (v₃ ∷ []) (λ is₃. let t = img_told (named 0) κ R r₃ (v₃ ∷ []) is₃ in
                let w₃ : Val = img_val r₃.buf.ref_ptr (length r₃.buf.now) (shape_of r₃) in
                rewrite ! 0 (λ (us : List Val). ‵ (Row.own_val r₃ us)) (t.0) refl $
                lands_as ! (ap only (t.0)) refl (tt, ((tt, (record { fits = t.1.0 }, tt)), (record { fits = t.2 }, (record { fits = t.3 }, (record { fits = t.4 }, tt))))) $
                sets_last ! (agg ! (and_then ! (lit ! tt) (and_then ! (get ! refl) (no_more !)))) refl (tt, (record { fits = lit< tt }, (((tt, (record { fits = t.1.0 }, tt)), (record { fits = t.2 }, (record { fits = t.3 }, (record { fits = t.4 }, tt)))), tt))) $
                exec ! 𝓣.C 𝓣.Λ Ev (after 7 fn.body) (at_ret Ev Post) $
                sets ! (of_opd ! (get ! refl)) refl (tt, (record { fits = lit< tt }, (((tt, (record { fits = t.1.0 }, tt)), (record { fits = t.2 }, (record { fits = t.3 }, (record { fits = t.4 }, tt)))), tt))) $
                returns ! (look_at ! 0 refl) $ free_all ! refl $
                use1 𝓛 (‵ ((result.the_row Row usize).own_val (Ok r₃) (live 0 (vcons w₃ vnil) ∷ []))) (ok_made 𝓛 Row r₃ w₃) $ move ! (1 ∷ []) $
                rewrite ! 0 (λ (u : Stretch). ‵ (follows (Array R 0) (Array R 0) γ r₃.buf.ghost_name (with_stretch xs u))) leads.cells refl $
                use1 𝓛 (‵ (follows_if (Array R 0) (Array R 0) γ (there r₃.buf.ghost_name) F xs)) (if_some 𝓛 (Array R 0) (Array R 0) γ F xs r₃.buf.ghost_name) $
                use0 𝓛 (raw (fact 𝓤 (Found (Ok r₃)))) (fact_i 𝓤 (Found (Ok r₃)) (emp 𝓤) found) $ use0 𝓛 (raw (fact 𝓤 (Seen (Ok r₃)))) (fact_i 𝓤 (Seen (Ok r₃)) (emp 𝓤) all_inside) $ join ! $ move ! (1 ∷ 0 ∷ []) $ join ! $
                -- [the ensures; the answer; the tokens of κ and κT; the path's token]
                move ! (3 ∷ []) $ split ! $ move ! (4 ∷ []) $ split ! $ move ! (2 ∷ 1 ∷ []) $ join ! $ move ! (1 ∷ 0 ∷ []) $ join ! $ move ! (1 ∷ []) $ drop ! $
                nothing ! $ nothing ! $ fjoin ! $ nothing ! $ fjoin ! $ move ! (1 ∷ 0 ∷ 3 ∷ 2 ∷ []) $ by ! (leaves 𝓛 En stays c z (live 0 (vcons w₃ vnil)) (Ok r₃) ((tt, tt), (tt, tt)) (tt, (tt, tt))))))))),
            ((λ n. absurd (suc-ne-zero 0 (sym n))), tt),
          )
      | inr h ↦ let k : ℕ = h.0 in let o = h.1 in
          let failed : Seen (Err k) = subst (λ (m : Result (Run × Shape) ℕ). Out m) (o.0) outside in
          move ! (1 ∷ []) $ fsplit3 ! $ drop ! $ move ! (1 ∷ []) $ drop ! $ rewrite ! 0 (λ (l : List T.Denot). ‵ (fobs γ ((coded_list R.coded).code l))) (heres_id R xs) refl $ name_done ! tt $
          -- [the cells' last value; the path's token; the token of κ; the token of κT]
          lands_as ! (ap only (o.1)) refl (tt, (record { fits = lit< tt }, (record { fits = o.2 }, tt))) $
          first ! $ by_variants ! 14 (all_of !) (get_tag ! (vrt ! refl (fld ! refl (stop !))) (all_of !)) tt (
            (λ n. absurd (suc-ne-zero 0 n)),
            (
              (λ _. sets ! (of_opd ! (get_in ! (vrt ! refl (fld ! refl (stop !))) (in_variant ! 1 0 refl refl (all_of !)))) refl (tt, record { fits = o.2 }) $
                  sets_last ! (agg ! (and_then ! (lit ! tt) (and_then ! (get ! refl) (no_more !)))) refl (tt, (record { fits = lit< tt }, (record { fits = o.2 }, tt))) $
                  exec ! 𝓣.C 𝓣.Λ Ev (after 7 fn.body) (at_ret Ev Post) $
                  sets ! (of_opd ! (get ! refl)) refl (tt, (record { fits = lit< tt }, (record { fits = o.2 }, tt))) $
                  returns ! (look_at ! 0 refl) $ free_all ! refl $
                  use1 𝓛 (‵ (follows_if (Array R 0) (Array R 0) γ none F xs)) (if_none 𝓛 (Array R 0) (Array R 0) γ F xs) $
                  use0 𝓛 (raw (fact 𝓤 (Found (Err k)))) (fact_i 𝓤 (Found (Err k)) (emp 𝓤) tt) $ use0 𝓛 (raw (fact 𝓤 (Seen (Err k)))) (fact_i 𝓤 (Seen (Err k)) (emp 𝓤) failed) $ join ! $ move ! (1 ∷ 0 ∷ []) $ join ! $
                  use0 𝓛 (‵ ((result.the_row Row usize).own_val (Err k) (live 1 (vcons (vint w64 k) vnil) ∷ []))) (err_made 𝓛 Row k (o.2)) $
                  -- [the answer; the ensures; the path's token; the token of κ; the token of κT]
                  move ! (2 ∷ []) $ split ! $ move ! (4 ∷ []) $ split ! $ move ! (2 ∷ 6 ∷ []) $ join ! $ move ! (1 ∷ 0 ∷ []) $ join ! $ move ! (1 ∷ []) $ drop ! $ move ! (1 ∷ []) $ drop ! $
                  nothing ! $ nothing ! $ fjoin ! $ nothing ! $ fjoin ! $ move ! (1 ∷ 0 ∷ []) $ by ! (leaves 𝓛 En stays c z (live 1 (vcons (vint w64 k) vnil)) (Err k) ((tt, tt), (tt, tt)) (tt, (tt, tt)))),
              tt,
            ),
          )
    ]))))))))))))))))))))
