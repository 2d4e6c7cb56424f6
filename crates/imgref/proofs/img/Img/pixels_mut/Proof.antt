-- `pixels_mut` makes the cursor of `exact_pixels_mut`, which goes on under a name of the whole image. Assumes `Logic`.
use Rattle.std.proofs.Common.{◌≡◌, refl, sym, ap, ◌∙◌, subst, List, [], ◌∷◌, ◌++◌, length, MutBor}
use Rattle.borrow_laws.proofs.Walking.{Lft, GName, ftrue, flft, SProp, emp, id⊢, Args, Fn, named, inst_fn, Val, vptr, WpFn, ◌⊑◌, fact, fact_i, tables, ‵, ◌⊛◌, raw, later, some, prop, ◌$◌, ◌∵◌, !, qed, by, move, keep, drop, split, split3, join, fsplit, fjoin, rewrite, regoal, use0, use1, use2, await, pick, stop, addr, and_then, no_more, returns, enter, alloc_all, pass_all, free_all, look_at, get, through, sets, lands_as, Array, follows, follows_then, shows, Is, param, param_laws, RattleType, owns, MutRef, mut_vals, mut_Tells, plain, named_lft, types_at, nothing, heard, peeks, only, calls_at, lasts, triple_of, framed, Stays, stay_dropped, walk_of, Goes-spent_ref, proved_at, leaves}
use Rattle.borrow_laws.proofs.Bodies.{of_container}
use Rattle.image_model.specs.Layout.{Layout, Fits}
use Rattle.image_pixels.specs.Marks.{marks_of}
use Rattle.image_pixels.specs.Pixels.{ArePixels, cells_left, marks_left, muts_left, pixels_name}
use Rattle.image_pixels.specs.declared.pixels_mut.PixelsIterMut.{PixelsIterMut}
use Rattle.image_pixels.specs.contracts.pixels_mut.PixelsIterMut as P
use Rattle.image_pixels.proofs.pixels_mut.PixelsIterMut.TheLaws as laws
use Rattle.image_pixels.proofs.Lenders.{relent, relends}
use Rattle.imgref.specs.contracts.img.Img.exact_pixels_mut as f
use Rattle.imgref.proofs.img.Img.exact_pixels_mut.Met as making
use Rattle.imgref.specs.Image.{layout_by, with_all, as_many, KeepsCount, AnyCellsFit}
use Rattle.imgref.specs.declared.img.Img.{Img}
use Rattle.imgref.specs.contracts.img.Img.{the_row}
use Rattle.imgref.proofs.AsMany.{as_many_already, has_given, keeps_count, any_cells_fit}
use Rattle.imgref.specs.contracts.img.Img.pixels_mut.{ended, clauses}
use Rattle.imgref.specs.contracts.img.Img.pixels_mut.Key.{name as #self}
use Rattle.imgref.proofs.img.Img.pixels_mut.Statement.{statement}
use Rattle.imgref.proofs.img.Img.pixels_mut.Code as compiled

pub pixels_mut_spec : {M : Type 1} → statement M
unfolding muts_left
pixels_mut_spec 𝓤 𝓛 𝓜 𝓡 wired X Y LX LY gh d gs ds bm bs =
    let H = 𝓛.H in let 𝓣 = tables 𝓤 H 𝓜 𝓡 𝓡.env in let fm = framed 𝓤 H 𝓜 𝓣 in
    let args : Args = of_container X Y d ds in let fn : Fn = inst_fn args compiled.function in let R : RattleType = param 1 Y in let Whole : RattleType = the_row (param 0 X) in
    let En = ended X Y gh d gs ds in let c = clauses X Y gh d gs ds 𝓛 𝓜.mem 𝓡.returns in let ps = En.signature.params in let stays : Stays En.signature.params En.kept = (stay_dropped _ En.kept.0, tt) in
    proved_at 𝓛 En stays c 𝓜 𝓡 (Goes-spent_ref 𝓛 3 (0 ∷ []) tt (plain (λ _. Whole)), tt) (#self args) fn (compiled.unfolded 𝓤 H 𝓜 𝓡 wired (X, (Y, tt)) d ds) (λ z are.
    let Post : Val → SProp 𝓤 = (walk_of 𝓛 En stays c).post z in let vss = z.0.4 in let κs = z.0.0 in let qs = z.0.1 in let κ : Lft = κs.0 in let κX : Lft = κs.1.0 in let κY : Lft = κs.1.1.0 in
    let x : MutBor (Img X.Denot) = z.0.3.0 in
    let old : Layout Y.Denot = layout_by gs.cells x.now in
    let Fit : Type 0 = Fits old in
    let α = named_lft 3 0 tt κs in
    let cursor : RattleType = P.the_row α R in
    let G = triple_of 𝓛 (f.signature X Y) (f.spec X Y gh d gs ds 𝓛 𝓜.mem 𝓡.returns) in
    let z₁ : G.Ghost = (((κ, (κX, (κY, tt))), (qs.0, (qs.1.0, (qs.1.1.0, tt))), z.0.2, (x, tt), (mut_vals x, tt)), tt) in
    qed 𝓛 (((‵ (flft κ qs.0) ⊛ ‵ (flft κX qs.1.0) ⊛ ‵ (flft κY qs.1.1.0) ⊛ ‵ ftrue) ⊛ ‵ (owns (types_at ps z.0.0) z.0.3 vss)) ∷ (raw (fact 𝓤 (κX ⊑ X.lives)) ⊛ raw (fact 𝓤 (κY ⊑ Y.lives)) ⊛ raw (fact 𝓤 Fit)) ∷ []) ∵
    move ! (1 ∷ []) $ split3 ! $ heard ! (κX ⊑ X.lives) (λ leX. heard ! (κY ⊑ Y.lives) (λ leY. heard ! Fit (λ fits. split ! $ move ! (1 ∷ []) $ fsplit ! $ keep ! (0 ∷ 2 ∷ []) $
    -- [the image's reference; the tokens]
    let told = mut_Tells (named 0) κ Whole x vss.0 are.0 in
    rewrite ! 0 (λ (vs : List Val). ‵ ((MutRef (named 0) κ Whole).own_val x vs)) told refl $
    regoal ! (λ (vs : List Val). prop (WpFn 𝓤 H 𝓣.C 𝓣.Λ fn vs Post)) (λ k. told k ++ []) refl $
    enter ! 𝓣.C 𝓣.Λ fn (vptr x.ref_ptr.0 x.ref_ptr.1 ∷ []) Post $
    alloc_all ! (λ l. pass_all ! refl ((tt, tt), tt) $
    sets ! (addr ! (through ! refl (stop !))) refl (tt, tt) $
    nothing ! $ move ! (1 ∷ 0 ∷ []) $ join ! $ move ! (1 ∷ 0 ∷ []) $ join ! $
    use0 𝓛 (raw (fact 𝓤 Fit)) (fact_i 𝓤 Fit (emp 𝓤) fits) $ use0 𝓛 (raw (fact 𝓤 (κY ⊑ Y.lives))) (fact_i 𝓤 (κY ⊑ Y.lives) (emp 𝓤) leY) $ join ! $ use0 𝓛 (raw (fact 𝓤 (κX ⊑ X.lives))) (fact_i 𝓤 (κX ⊑ X.lives) (emp 𝓤) leX) $ join ! $
    move ! (1 ∷ 0 ∷ []) $ use2 𝓛 (raw (G.pre z₁)) (id⊢ 𝓤 _) $
    calls_at ! fm G (making.met 𝓤 𝓛 𝓜 𝓡 (compiled.calls-imgref::img::Img::exact_pixels_mut 𝓡.env wired) X Y LX LY gh d gs ds bm bs) z₁ (and_then ! (get ! refl) (no_more !)) (λ v.
    let F : List Y.Denot → Img X.Denot = with_all gs.cells gh.with_cells x.now in
    let Sort : Type 0 = PixelsIterMut Y.Denot in
    let Cells : Sort → Type 0 = λ r. cells_left r ≡ old.cells in let Marks : Sort → Type 0 = λ r. marks_left r ≡ marks_of old.width old.height old.stride in
    let All_pixels : Sort → Type 0 = λ r. ArePixels old (muts_left r) in
    use1 𝓛 (later (some (λ (r : Sort). ((‵ (flft κ qs.0) ⊛ ‵ (flft κX qs.1.0) ⊛ ‵ (flft κY qs.1.1.0) ⊛ ‵ ftrue) ⊛ ‵ (cursor.own_val r (v ∷ []))) ⊛ some (λ (us : Unit {0} × Unit {0}). ‵ (lasts (f.ended X Y gh d gs ds) z₁.0.0 z₁.0.3 us)
    ⊛ (‵ (follows Whole (Array R 0) x.ghost_name (pixels_name r) F) ⊛ raw (fact 𝓤 (Cells r)) ⊛ raw (fact 𝓤 (Marks r)) ⊛ raw (fact 𝓤 (All_pixels r))))))) (id⊢ 𝓤 _) $
    await ! tt $ pick ! (λ r. split ! $ split ! $ move ! (2 ∷ []) $ pick ! (λ us. split ! $ drop ! $
    split ! $ move ! (1 ∷ []) $ split ! $ heard ! (Cells r) (λ full. split ! $ heard ! (Marks r) (λ marks. heard ! (All_pixels r) (λ all.
    -- [what follows; the tokens; the cursor]
    move ! (2 ∷ []) $ peeks ! cursor (Is cursor) (shows 𝓛 cursor) r (v ∷ []) (λ is.
    let word : Val = laws.lowered α R (param_laws 1 Y LY) r in
    let told₁ : v ∷ [] ≡ word ∷ [] = (laws.lowers α R (param_laws 1 Y LY)).val_is r (v ∷ []) is in
    let fit = (((laws.the_row_laws α R (param_laws 1 Y LY)).lawful 𝓛).typed r (word ∷ []) (subst (Is cursor r) told₁ is)).0 in
    rewrite ! 0 (λ (vs : List Val). ‵ (cursor.own_val r vs)) told₁ refl $
    lands_as ! (ap only told₁) refl fit $
    -- the cursor goes on under a new name, below one of the whole
    let cells_of : Img X.Denot → List Y.Denot = λ i. as_many old.cells (gs.cells i.buf) in
    let has : cells_of x.now ≡ r.cells = as_many_already old.cells old.cells refl ∙ sym full in
    let own : (ws : List Y.Denot) → length ws ≡ length r.cells → cells_of (F ws) ≡ ws = λ ws same. let as_long : length ws ≡ length old.cells = same ∙ ap length full in
    ap (as_many old.cells) (has_given gs.cells gh.with_cells bm.others_stay x.now ws as_long) ∙ as_many_already old.cells ws as_long in
    -- [the cursor; what follows; the tokens]
    move ! (2 ∷ []) $ split ! $ move ! (2 ∷ 0 ∷ []) $
    use2 𝓛 (later (some (λ (δs : GName × GName). ‵ (cursor.own_val (relent r δs.0 δs.1) (word ∷ [])) ⊛ ‵ (flft κ qs.0) ⊛ ‵ (follows (Array R 0) Whole r.name δs.0 cells_of)))) (relends 𝓛 α qs.0 Whole R cells_of F r own x.now has word) $
    await ! tt $ pick ! (λ δs. split3 ! $
    -- [the cursor; the borrow's token; what follows the cells; the other tokens; what follows]
    let r' : Sort = relent r δs.0 δs.1 in
    move ! (4 ∷ 2 ∷ []) $ use2 𝓛 (‵ (follows Whole Whole x.ghost_name δs.0 (λ i. F (cells_of i)))) (follows_then 𝓛 Whole (Array R 0) Whole F cells_of x.ghost_name r.name δs.0) $
    -- [what follows; the cursor; the borrow's token; the other tokens]
    move ! (2 ∷ 3 ∷ []) $ join ! $
    -- [the tokens; what follows; the cursor]
    returns ! (look_at ! 0 refl) $ free_all ! refl $
    let Fitting : Type 0 = AnyCellsFit gs.cells gh.with_cells x.now in let As_long : Type 0 = KeepsCount gs.cells gh.with_cells x.now in
    use0 𝓛 (raw (fact 𝓤 (All_pixels r'))) (fact_i 𝓤 (All_pixels r') (emp 𝓤) all) $ use0 𝓛 (raw (fact 𝓤 (Marks r'))) (fact_i 𝓤 (Marks r') (emp 𝓤) marks) $ join ! $ use0 𝓛 (raw (fact 𝓤 (Cells r'))) (fact_i 𝓤 (Cells r') (emp 𝓤) full) $ join ! $
    use0 𝓛 (raw (fact 𝓤 Fitting)) (fact_i 𝓤 Fitting (emp 𝓤) (any_cells_fit gs.cells gh.with_cells bm.others_stay x.now fits)) $ join ! $
    use0 𝓛 (raw (fact 𝓤 As_long)) (fact_i 𝓤 As_long (emp 𝓤) (keeps_count gs.cells gh.with_cells bm.others_stay x.now)) $ join ! $
    -- [the plain clauses; the tokens; what follows; the cursor]
    move ! (2 ∷ 0 ∷ []) $ join ! $ nothing ! $ nothing ! $ fjoin ! $
    -- [the reference; the ensures; the tokens; the cursor]
    move ! (2 ∷ 0 ∷ 3 ∷ 1 ∷ []) $ by ! (leaves 𝓛 En stays c z word r' (tt, tt) (tt, tt)))))))))))))))
