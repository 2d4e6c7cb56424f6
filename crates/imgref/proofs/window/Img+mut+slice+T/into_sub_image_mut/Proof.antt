-- `into_sub_image_mut` finds the window's stretch and shape, and lends that stretch on: its MIR, proved by hand.
use Rattle.std.proofs.Common.{◌≡◌, refl, sym, ap, subst, ◌∙◌, ◌^◌, ◌<◌, List, [], ◌∷◌, ◌++◌, length, w64, MutBor}
use Rattle.borrow_laws.proofs.Walking.{SProp, emp, id⊢, Lft, GName, Share, ftrue, flft, Args, Fn, named, inst_fn, Val, vint, WpFn, ◌⊑◌, ⊑_refl, ⊑_trans, ⊑_meet, fact, fact_i, tables, Item, ‵, fpick, ◌⊛◌, raw, later, some, prop, ◌$◌, ◌∵◌, !, qed, by, move, keep, drop, split, split3, join, fsplit, fjoin, rewrite, regoal, use0, use1, use2, await, pick, updating, now, done, whole, sub, agg, stop, fld, addr, of_opd, and_then, no_more, returns, enter, from, hop, alloc_all, pass_all, free_all, look_at, look_in_at, get, get_in, sets, lands_as, Array, usize, follows, shows, Is, param, RattleType, owns, MutSlice, slice_val, plain, types_at, nothing, heard, peeks, only, calls_at, lasts, triple_of, framed, Stays, stay_dropped, walk_of, Goes-dropped, proved_at, leaves}
use Rattle.borrow_laws.proofs.Bodies.{of_one}
use Rattle.image_model.specs.Layout.{Fits}
use Rattle.image_model.specs.Grid.{grid_of}
use Rattle.image_model.specs.Windows.{Window as Pane, window, window_view, IsInside, IsWithin, Stretch as Part, padded_stretch, padded_window, stretch_cells, with_stretch}
use Rattle.image_shape.specs.declared.window.Window.{Window}
use Rattle.image_shape.specs.declared.window.Stretch.{Stretch}
use Rattle.image_shape.specs.declared.shape.Shape.{Shape}
use Rattle.image_shape.specs.contracts.window.Window as pane
use Rattle.image_shape.specs.contracts.window.Stretch as stretch
use Rattle.image_shape.specs.contracts.shape.Shape as shape
use Rattle.image_shape.specs.Shape.{shaped}
use Rattle.image_shape.specs.Window.{as_stretch}
use Rattle.imgref.specs.Image.{mut_layout, shape_of}
use Rattle.imgref.specs.declared.img.Img.{Img}
use Rattle.imgref.proofs.ImageValues.{window_val, window_made, stretch_val, stretch_made, shape_val, shape_made, img_val, img_row, img_told, ImgParts, img_parts_told, Parts, parts_told, LentCells, lent_cells_laws}
use Rattle.image_writes.specs.contracts.padded_stretch_mut as f
use Rattle.image_writes.proofs.padded_stretch_mut.Met as found
use Rattle.imgref.specs.contracts.img.Img.into_parts as parts
use Rattle.imgref.proofs.img.Img.into_parts.Met as apart
use Rattle.imgref.specs.contracts.window.Img+mut+slice+T.from_stretch as g
use Rattle.imgref.proofs.window.Img+mut+slice+T.from_stretch.Met as made
use Rattle.imgref.specs.contracts.window.Img+mut+slice+T.into_sub_image_mut.{ended, clauses}
use Rattle.imgref.specs.contracts.window.Img+mut+slice+T.into_sub_image_mut.Key.{name as #self}
use Rattle.imgref.proofs.window.Img+mut+slice+T.into_sub_image_mut.Statement.{statement}
use Rattle.imgref.proofs.window.Img+mut+slice+T.into_sub_image_mut.Code as compiled

pub into_sub_image_mut_spec : {M : Type 1} → statement M
into_sub_image_mut_spec 𝓤 𝓛 𝓜 𝓡 wired T L =
    let H = 𝓛.H in let 𝓣 = tables 𝓤 H 𝓜 𝓡 𝓡.env in let fm = framed 𝓤 H 𝓜 𝓣 in
    let args : Args = of_one T in let fn : Fn = inst_fn args compiled.function in let R : RattleType = param 0 T in
    let En = ended T in let c = clauses T 𝓛 𝓜.mem 𝓡.returns in let ps = En.signature.params in let stays : Stays En.signature.params En.kept = (stay_dropped _ En.kept.0, (stay_dropped _ En.kept.1.0, (stay_dropped _ En.kept.1.1.0, (stay_dropped _ En.kept.1.1.1.0, (stay_dropped _ En.kept.1.1.1.1.0, tt))))) in
    proved_at 𝓛 En stays c 𝓜 𝓡 ((λ κs x f vs ok. qed 𝓛 (‵ ftrue ∷ []) ∵ updating ! $ nothing ! $ fjoin ! $ now ! $ done !), (Goes-dropped 𝓛 2 (plain (λ _. usize)) En.kept.1.0 (λ κs x f. refl), (Goes-dropped 𝓛 2 (plain (λ _. usize)) En.kept.1.1.0 (λ κs x f. refl), (Goes-dropped 𝓛 2 (plain (λ _. usize)) En.kept.1.1.1.0 (λ κs x f. refl), (Goes-dropped 𝓛 2 (plain (λ _. usize)) En.kept.1.1.1.1.0 (λ κs x f. refl), tt))))) (#self args) fn (compiled.unfolded 𝓤 H 𝓜 𝓡 wired (T, tt)) (λ z are.
    let Post : Val → SProp 𝓤 = (walk_of 𝓛 En stays c).post z in let a = z.0.3 in let vss = z.0.4 in let κ : Lft = z.0.0.0 in let q : Share = z.0.1.0 in let κT : Lft = z.0.0.1.0 in let qT : Share = z.0.1.1.0 in
    let img : Img (MutBor (List T.Denot)) = a.0 in
    let win : Window = record { left = a.1.0; top = a.1.1.0; width = a.1.1.1.0; height = a.1.1.1.1.0 } in
    let cells : MutBor (List T.Denot) = img.buf in
    let xs : List T.Denot = cells.now in
    let γ : GName = cells.ghost_name in
    let Slice : RattleType = MutSlice (named 0) κ R in
    let Row : RattleType = img_row (named 0) κ R in
    let told = img_told (named 0) κ R img vss.0 are.0 in
    let fl : win.left < 2 ^ 64 = are.1.0.1 in
    let ft : win.top < 2 ^ 64 = are.1.1.0.1 in
    let fw : win.width < 2 ^ 64 = are.1.1.1.0.1 in
    let fh : win.height < 2 ^ 64 = are.1.1.1.1.0.1 in
    let w : Val = img_val cells.ref_ptr (length xs) (shape_of img) in
    let sv : Val = slice_val cells.ref_ptr (length xs) in
    let li = mut_layout img in
    let here : Pane = window win.left win.top win.width win.height in
    let Holds : Type 0 = Fits li in
    let Inside : Type 0 = IsInside li.width li.height here in
    let Tok : Item 𝓤 = ‵ (flft κ q) ⊛ ‵ (flft κT qT) ⊛ ‵ ftrue in
    let Found : RattleType = Parts (named 0) κ R in
    let G = triple_of 𝓛 (f.signature T) (f.spec T 𝓛 𝓜.mem 𝓡.returns) in
    let z₁ : G.Ghost = (((κ, (κT, tt)), (q, (qT, tt)), z.0.2, (cells, (shape_of img, (win, tt))), (sv ∷ [], (shape_val (shape_of img) ∷ [], (window_val win ∷ [], tt)))), tt) in
    let X : RattleType = LentCells κ T in
    let G₁ = triple_of 𝓛 (parts.signature X) (parts.spec X 𝓛 𝓜.mem 𝓡.returns) in
    let zₚ : G₁.Ghost = (((κ, tt), (q, tt), tt, (img, tt), (w ∷ [], tt)), tt) in
    qed 𝓛 ((Tok ⊛ ‵ (owns (types_at ps z.0.0) a vss)) ∷ (raw (fact 𝓤 (κT ⊑ T.lives)) ⊛ raw (fact 𝓤 Holds) ⊛ raw (fact 𝓤 Inside)) ∷ []) ∵
    move ! (1 ∷ []) $ split3 ! $ heard ! (κT ⊑ T.lives) (λ le. heard ! Holds (λ holds. heard ! Inside (λ inside. split ! $ move ! (1 ∷ []) $ fsplit ! $ keep ! (0 ∷ 2 ∷ []) $
    -- [the image; the tokens]
    rewrite ! 0 (λ (vs : List Val). ‵ (Row.own_val img vs)) (told.0) refl $
    regoal ! (λ (vs : List Val). prop (WpFn 𝓤 H 𝓣.C 𝓣.Λ fn vs Post)) (λ k. told.0 k ++ (are.1.0.0 k ++ (are.1.1.0.0 k ++ (are.1.1.1.0.0 k ++ (are.1.1.1.1.0.0 k ++ []))))) refl $
    enter ! 𝓣.C 𝓣.Λ fn (w ∷ vint w64 win.left ∷ vint w64 win.top ∷ vint w64 win.width ∷ vint w64 win.height ∷ []) Post $
    alloc_all ! (λ l. pass_all ! refl ((tt, ((tt, (record { fits = told.1.0 }, tt)), (record { fits = told.2 }, (record { fits = told.3 }, (record { fits = told.4 }, tt))))), ((tt, record { fits = fl }), ((tt, record { fits = ft }), ((tt, record { fits = fw }), ((tt, record { fits = fh }), tt))))) $
    sets ! (agg ! (and_then ! (get ! refl) (and_then ! (get ! refl) (and_then ! (get ! refl) (and_then ! (get ! refl) (no_more !)))))) refl (tt, (record { fits = fl }, (record { fits = ft }, (record { fits = fw }, (record { fits = fh }, tt))))) $
    sets ! (of_opd ! (get ! refl)) refl (tt, ((tt, (record { fits = told.1.0 }, tt)), (record { fits = told.2 }, (record { fits = told.3 }, (record { fits = told.4 }, tt))))) $
    move ! (1 ∷ []) $ split3 ! $ nothing ! $ move ! (4 ∷ 0 ∷ []) $ join ! $ nothing ! $ move ! (2 ∷ 0 ∷ []) $ join ! $ join ! $
    -- [the token of κ and the image; the token of κT; nothing]
    let lives : κ ⊑ X.lives = ⊑_meet κ κ T.lives (⊑_refl κ) (⊑_trans κ κT T.lives z.0.2.0 le) in
    nothing ! $ use0 𝓛 (raw (fact 𝓤 (κ ⊑ X.lives))) (fact_i 𝓤 (κ ⊑ X.lives) (emp 𝓤) lives) $ join ! $ move ! (1 ∷ 0 ∷ []) $ use2 𝓛 (raw (G₁.pre zₚ)) (id⊢ 𝓤 _) $
    calls_at ! fm G₁ (apart.met 𝓤 𝓛 𝓜 𝓡 (compiled.calls-imgref::img::Img::into_parts 𝓡.env wired) X (lent_cells_laws κ T L)) zₚ (and_then ! (get ! refl) (no_more !)) (λ v₀.
    use1 𝓛 (later (some (λ (x : MutBor (List T.Denot) × Shape). ((‵ (flft κ q) ⊛ ‵ ftrue) ⊛ ‵ ((ImgParts κ R).own_val x (v₀ ∷ []))) ⊛ some (λ (us : (Unit {0} × Unit {0}) × Unit {0}). ‵ (lasts (parts.ended X) zₚ.0.0 zₚ.0.3 us)
    ⊛ raw (fact 𝓤 (x.0 ≡ cells)) ⊛ raw (fact 𝓤 (x.1 ≡ shape_of img)))))) (id⊢ 𝓤 _) $
    await ! tt $ pick ! (λ x₀. split ! $ split ! $ move ! (2 ∷ []) $ pick ! (λ us₀. split ! $ drop ! $ split ! $ heard ! (x₀.0 ≡ cells) (λ c₀. heard ! (x₀.1 ≡ shape_of img) (λ s₀.
    -- [the token of κ; the parts; the token of κT; nothing]
    let y₀ : MutBor (List T.Denot) × Shape = (cells, shape_of img) in
    let known₀ : x₀ ≡ y₀ = λ i. (c₀ i, s₀ i) in
    move ! (1 ∷ []) $ rewrite ! 0 (λ (u : MutBor (List T.Denot) × Shape). ‵ ((ImgParts κ R).own_val u (v₀ ∷ []))) known₀ refl $
    peeks ! (ImgParts κ R) (Is (ImgParts κ R)) (shows 𝓛 (ImgParts κ R)) y₀ (v₀ ∷ []) (λ isₚ. let t₀ = img_parts_told κ R y₀ (v₀ ∷ []) isₚ in
    lands_as ! (ap only (t₀.0)) refl (tt, ((tt, (record { fits = t₀.1.0 }, tt)), ((record { fits = t₀.2 }, (record { fits = t₀.3 }, (record { fits = t₀.4 }, tt))), tt))) $
    fpick ! (λ vs₀. fsplit ! $ drop ! $ fsplit ! $ move ! (1 ∷ []) $ drop ! $
    peeks ! Slice (Is Slice) (shows 𝓛 Slice) cells (vs₀.0) (λ is₀. rewrite ! 0 (λ (vs : List Val). ‵ (Slice.own_val cells vs)) (is₀.0.0) refl $
    move ! (1 ∷ []) $ split ! $ move ! (3 ∷ 4 ∷ []) $ join ! $ move ! (1 ∷ 0 ∷ []) $ join ! $ move ! (1 ∷ []) $ drop ! $ move ! (1 ∷ []) $
    -- [the slice; the tokens]
    sets ! (of_opd ! (get_in ! (fld ! refl (stop !)) (sub ! 0 refl (whole !)))) refl (tt, (tt, (record { fits = t₀.1.0 }, tt))) $
    sets ! (of_opd ! (get_in ! (fld ! refl (stop !)) (sub ! 1 refl (whole !)))) refl (tt, (record { fits = t₀.2 }, (record { fits = t₀.3 }, (record { fits = t₀.4 }, tt)))) $
    sets ! (addr ! (from ! (fld ! refl (hop ! (look_in_at ! 7 (sub ! 0 refl (whole !))) (stop !))))) refl (tt, tt) $
    sets ! (agg ! (and_then ! (get ! refl) (and_then ! (get_in ! (fld ! refl (stop !)) (sub ! 1 refl (whole !))) (no_more !)))) refl (tt, (tt, (record { fits = t₀.1.0 }, tt))) $
    nothing ! $ use0 𝓛 (‵ (pane.the_row.own_val win (window_val win ∷ []))) (window_made 𝓛 win fl ft fw fh) $ join ! $ use0 𝓛 (‵ (shape.the_row.own_val (shape_of img) (shape_val (shape_of img) ∷ []))) (shape_made 𝓛 (shape_of img) t₀.2 t₀.3 t₀.4) $ join ! $
    move ! (1 ∷ 0 ∷ []) $ join ! $ move ! (1 ∷ 0 ∷ []) $ join ! $
    use0 𝓛 (raw (fact 𝓤 Inside)) (fact_i 𝓤 Inside (emp 𝓤) inside) $ use0 𝓛 (raw (fact 𝓤 Holds)) (fact_i 𝓤 Holds (emp 𝓤) holds) $ join ! $ use0 𝓛 (raw (fact 𝓤 (κT ⊑ T.lives))) (fact_i 𝓤 (κT ⊑ T.lives) (emp 𝓤) le) $ join ! $
    move ! (1 ∷ 0 ∷ []) $ use2 𝓛 (raw (G.pre z₁)) (id⊢ 𝓤 _) $
    calls_at ! fm G (found.met 𝓤 𝓛 𝓜 𝓡 (compiled.calls-image_writes::padded_stretch_mut 𝓡.env wired) T L) z₁ (and_then ! (get ! refl) (and_then ! (get ! refl) (and_then ! (get ! refl) (no_more !)))) (λ v.
    let Cells₁ : MutBor (List T.Denot) × Stretch × Shape → Type 0 = λ x. x.0 ≡ cells in
    let Room₁ : MutBor (List T.Denot) × Stretch × Shape → Type 0 = λ x. IsWithin (length xs) (as_stretch x.1) in
    let There : MutBor (List T.Denot) × Stretch × Shape → Type 0 = λ x. as_stretch x.1 ≡ padded_stretch (length xs) li.stride here in
    let Laid : MutBor (List T.Denot) × Stretch × Shape → Type 0 = λ x. shaped (stretch_cells xs (as_stretch x.1)) x.2 ≡ padded_window li here in
    let Fits₁ : Type 0 = Fits (padded_window li here) in
    let View₁ : Type 0 = grid_of (padded_window li here) ≡ window_view (grid_of li) here in
    use1 𝓛 (later (some (λ (x : MutBor (List T.Denot) × Stretch × Shape). (Tok ⊛ ‵ (Found.own_val x (v ∷ []))) ⊛ some (λ (us : Unit {0} × (Unit {0} × (Unit {0} × Unit {0}))). ‵ (lasts (f.ended T) z₁.0.0 z₁.0.3 us)
    ⊛ raw (fact 𝓤 (Cells₁ x)) ⊛ raw (fact 𝓤 (Room₁ x)) ⊛ raw (fact 𝓤 (There x)) ⊛ raw (fact 𝓤 (Laid x)) ⊛ raw (fact 𝓤 Fits₁) ⊛ raw (fact 𝓤 View₁))))) (id⊢ 𝓤 _) $
    await ! tt $ pick ! (λ x. split ! $ split ! $ move ! (2 ∷ []) $ pick ! (λ us. split ! $ drop ! $ split ! $ heard ! (Cells₁ x) (λ e₁. split ! $ heard ! (Room₁ x) (λ room. split ! $ heard ! (There x) (λ there. split ! $ heard ! (Laid x) (λ laid. split ! $ heard ! Fits₁ (λ fits. heard ! View₁ (λ view.
    -- [the tokens; the parts]
    let y : MutBor (List T.Denot) × Stretch × Shape = (cells, x.1, x.2) in
    let known : x ≡ y = λ i. (e₁ i, x.1, x.2) in
    move ! (1 ∷ []) $ rewrite ! 0 (λ (u : MutBor (List T.Denot) × Stretch × Shape). ‵ (Found.own_val u (v ∷ []))) known refl $
    peeks ! Found (Is Found) (shows 𝓛 Found) y (v ∷ []) (λ is. let pt = parts_told (named 0) κ R y (v ∷ []) is in
    lands_as ! (ap only (pt.0)) refl (tt, ((tt, (record { fits = pt.1.0 }, tt)), ((record { fits = pt.2 }, (record { fits = pt.3 }, tt)), ((record { fits = pt.4 }, (record { fits = pt.5 }, (record { fits = pt.6 }, tt))), tt)))) $
    fpick ! (λ vs₁. fsplit ! $ drop ! $ fsplit ! $ move ! (1 ∷ []) $ drop ! $
    peeks ! Slice (Is Slice) (shows 𝓛 Slice) cells (vs₁.0) (λ isS. rewrite ! 0 (λ (vs : List Val). ‵ (Slice.own_val cells vs)) (isS.0.0) refl $
    -- [the slice; the tokens]
    sets ! (of_opd ! (get_in ! (fld ! refl (stop !)) (sub ! 0 refl (whole !)))) refl (tt, (tt, (record { fits = pt.1.0 }, tt))) $
    sets ! (of_opd ! (get_in ! (fld ! refl (stop !)) (sub ! 1 refl (whole !)))) refl (tt, (record { fits = pt.2 }, (record { fits = pt.3 }, tt))) $
    sets ! (of_opd ! (get_in ! (fld ! refl (stop !)) (sub ! 2 refl (whole !)))) refl (tt, (record { fits = pt.4 }, (record { fits = pt.5 }, (record { fits = pt.6 }, tt)))) $
    sets ! (addr ! (from ! (fld ! refl (hop ! (look_in_at ! 9 (sub ! 0 refl (whole !))) (stop !))))) refl (tt, tt) $
    sets ! (agg ! (and_then ! (get ! refl) (and_then ! (get_in ! (fld ! refl (stop !)) (sub ! 1 refl (whole !))) (no_more !)))) refl (tt, (tt, (record { fits = pt.1.0 }, tt))) $
    let G₂ = triple_of 𝓛 (g.signature T) (g.spec T 𝓛 𝓜.mem 𝓡.returns) in
    let z₂ : G₂.Ghost = (((κ, (κT, tt)), (q, (qT, tt)), z.0.2, (cells, (x.1, (x.2, tt))), (sv ∷ [], (stretch_val x.1 ∷ [], (shape_val x.2 ∷ [], tt)))), tt) in
    nothing ! $ use0 𝓛 (‵ (shape.the_row.own_val x.2 (shape_val x.2 ∷ []))) (shape_made 𝓛 x.2 pt.4 pt.5 pt.6) $ join ! $ use0 𝓛 (‵ (stretch.the_row.own_val x.1 (stretch_val x.1 ∷ []))) (stretch_made 𝓛 x.1 pt.2 pt.3) $ join ! $
    move ! (1 ∷ 0 ∷ []) $ join ! $ move ! (1 ∷ 0 ∷ []) $ join ! $
    use0 𝓛 (raw (fact 𝓤 (Room₁ x))) (fact_i 𝓤 (Room₁ x) (emp 𝓤) room) $ use0 𝓛 (raw (fact 𝓤 (κT ⊑ T.lives))) (fact_i 𝓤 (κT ⊑ T.lives) (emp 𝓤) le) $ join ! $
    move ! (1 ∷ 0 ∷ []) $ use2 𝓛 (raw (G₂.pre z₂)) (id⊢ 𝓤 _) $
    calls_at ! fm G₂ (made.met 𝓤 𝓛 𝓜 𝓡 (compiled.calls-imgref::window::Img+mut+slice+T::from_stretch 𝓡.env wired) T L) z₂ (and_then ! (get ! refl) (and_then ! (get ! refl) (and_then ! (get ! refl) (no_more !)))) (λ v₂.
    let Made : Img (MutBor (List T.Denot)) → Type 0 = λ r₂. mut_layout r₂ ≡ shaped (stretch_cells xs (as_stretch x.1)) x.2 in
    use1 𝓛 (later (some (λ (r₂ : Img (MutBor (List T.Denot))). (Tok ⊛ ‵ (Row.own_val r₂ (v₂ ∷ []))) ⊛ some (λ (us : Unit {0} × (Unit {0} × (Unit {0} × Unit {0}))). ‵ (lasts (g.ended T) z₂.0.0 z₂.0.3 us)
    ⊛ (‵ (follows (Array R 0) (Array R 0) γ r₂.buf.ghost_name (with_stretch xs (as_stretch x.1))) ⊛ raw (fact 𝓤 (Made r₂))))))) (id⊢ 𝓤 _) $
    await ! tt $ pick ! (λ r₂. split ! $ split ! $ move ! (2 ∷ []) $ pick ! (λ us₂. split ! $ drop ! $ split ! $ move ! (1 ∷ []) $ heard ! (Made r₂) (λ e₂.
    -- [what follows; the tokens; the window]
    move ! (2 ∷ []) $ peeks ! Row (Is Row) (shows 𝓛 Row) r₂ (v₂ ∷ []) (λ is₂. let t₂ = img_told (named 0) κ R r₂ (v₂ ∷ []) is₂ in
    let w₂ : Val = img_val r₂.buf.ref_ptr (length r₂.buf.now) (shape_of r₂) in
    let Is₂ : Type 0 = mut_layout r₂ ≡ padded_window li here in
    let Fits₂ : Type 0 = Fits (mut_layout r₂) in
    let Shows : Type 0 = grid_of (mut_layout r₂) ≡ window_view (grid_of li) here in
    let is₃ : Is₂ = e₂ ∙ laid in
    rewrite ! 0 (λ (us : List Val). ‵ (Row.own_val r₂ us)) (t₂.0) refl $
    lands_as ! (ap only (t₂.0)) refl (tt, ((tt, (record { fits = t₂.1.0 }, tt)), (record { fits = t₂.2 }, (record { fits = t₂.3 }, (record { fits = t₂.4 }, tt))))) $
    returns ! (look_at ! 0 refl) $ free_all ! refl $
    -- [the window; what follows; the tokens]
    move ! (1 ∷ []) $ rewrite ! 0 (λ (m : Part). ‵ (follows (Array R 0) (Array R 0) γ r₂.buf.ghost_name (with_stretch xs m))) there refl $
    use0 𝓛 (raw (fact 𝓤 Shows)) (fact_i 𝓤 Shows (emp 𝓤) (ap grid_of is₃ ∙ view)) $ use0 𝓛 (raw (fact 𝓤 Fits₂)) (fact_i 𝓤 Fits₂ (emp 𝓤) (subst Fits (sym is₃) fits)) $ join ! $
    use0 𝓛 (raw (fact 𝓤 Is₂)) (fact_i 𝓤 Is₂ (emp 𝓤) is₃) $ join ! $ move ! (1 ∷ 0 ∷ []) $ join ! $
    -- [the ensures; the window; the tokens]
    nothing ! $ nothing ! $ fjoin ! $ nothing ! $ fjoin ! $ nothing ! $ fjoin ! $ nothing ! $ fjoin ! $ nothing ! $ fjoin ! $
    move ! (3 ∷ 0 ∷ 2 ∷ 1 ∷ []) $
    by ! (leaves 𝓛 En stays c z w₂ r₂ ((tt, tt), (tt, (tt, (tt, (tt, tt))))) (tt, (tt, (tt, (tt, (tt, tt))))))))))))))))))))))))))))))))))))
