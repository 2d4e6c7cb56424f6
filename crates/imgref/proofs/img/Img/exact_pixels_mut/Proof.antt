-- `exact_pixels_mut` makes a cursor over all cells, under the name by which the image's cells were lent. Assumes `Logic`.
use Rattle.std.proofs.Common.{◌≡◌, refl, sym, ap, ◌∙◌, subst, ℕ, ◌<◌, ◌^◌, List, [], ◌∷◌, ◌++◌, length, MutBor}
use Rattle.borrow_laws.proofs.Walking.{Lft, GName, ftrue, flft, SProp, emp, id⊢, Args, Fn, named, inst_fn, Val, vptr, vstruct, vcons, vnil, of_list, WpFn, ◌⊑◌, fact, fact_i, tables, Item, ‵, ◌⊛◌, raw, later, some, prop, ◌$◌, ◌∵◌, !, qed, by, move, keep, drop, split, split3, join, fsplit, fjoin, fpick, rewrite, regoal, use0, use1, use2, await, pick, whole, sub, agg, stop, fld, hop, from, addr, of_opd, and_then, no_more, returns, enter, alloc_all, pass_all, free_all, look_at, look_in_at, get, get_in, through, sets, lands_as, Array, follows, shows, Is, param, param_laws, RattleType, owns, MutRef, mut_vals, mut_Tells, plain, named_lft, types_at, MutSlice, slice_val, nothing, heard, peeks, only, Tuple, calls_at, lasts, triple_of, framed, Stays, stay_dropped, walk_of, Goes-spent_ref, proved_at, leaves}
use Rattle.borrow_laws.proofs.Bodies.{of_container}
use Rattle.image_model.specs.Layout.{Layout, Fits}
use Rattle.image_shape.specs.declared.shape.Shape.{Shape}
use Rattle.image_shape.specs.contracts.shape.Shape as shape
use Rattle.image_shape.specs.Shape.{shaped}
use Rattle.image_pixels.specs.Marks.{marks_of}
use Rattle.image_pixels.specs.Pixels.{ArePixels, cells_left, marks_left, muts_left, pixels_name}
use Rattle.image_pixels.specs.declared.pixels_mut.PixelsIterMut.{PixelsIterMut}
use Rattle.image_pixels.specs.contracts.pixels_mut.PixelsIterMut as P
use Rattle.image_pixels.proofs.pixels_mut.PixelsIterMut.TheLaws as laws
use Rattle.image_pixels.specs.contracts.pixels_mut.PixelsIterMut.new as f
use Rattle.image_pixels.proofs.pixels_mut.PixelsIterMut.new.Met as making
use Rattle.imgref.specs.Image.{layout_by, with_all, shape_of}
use Rattle.imgref.specs.declared.img.Img.{Img}
use Rattle.imgref.specs.contracts.img.Img.{the_row}
use Rattle.imgref.proofs.ImageValues.{shape_val, shape_told, shape_made}
use Rattle.imgref.specs.contracts.img.Img.all_parts_mut as a
use Rattle.imgref.proofs.img.Img.all_parts_mut.Met as taking
use Rattle.imgref.specs.contracts.img.Img.exact_pixels_mut.{ended, clauses}
use Rattle.imgref.specs.contracts.img.Img.exact_pixels_mut.Key.{name as #self}
use Rattle.imgref.proofs.img.Img.exact_pixels_mut.Statement.{statement}
use Rattle.imgref.proofs.img.Img.exact_pixels_mut.Code as compiled

-- all cells and a shape, as one machine value
abbrev both_val : ℕ × ℕ → ℕ → Shape → Val
both_val p n s = vstruct (vcons (slice_val p n) (vcons (shape_val s) vnil))

abbrev Both : Lft → RattleType → RattleType
Both κ R = Tuple (MutSlice (named 0) κ R ∷ shape.the_row ∷ [])

pub exact_pixels_mut_spec : {M : Type 1} → statement M
unfolding muts_left
exact_pixels_mut_spec 𝓤 𝓛 𝓜 𝓡 wired X Y LX LY gh d gs ds bm bs =
    let H = 𝓛.H in let 𝓣 = tables 𝓤 H 𝓜 𝓡 𝓡.env in let fm = framed 𝓤 H 𝓜 𝓣 in
    let args : Args = of_container X Y d ds in let fn : Fn = inst_fn args compiled.function in let R : RattleType = param 1 Y in let Whole : RattleType = the_row (param 0 X) in
    let En = ended X Y gh d gs ds in let c = clauses X Y gh d gs ds 𝓛 𝓜.mem 𝓡.returns in let ps = En.signature.params in let stays : Stays En.signature.params En.kept = (stay_dropped _ En.kept.0, tt) in
    proved_at 𝓛 En stays c 𝓜 𝓡 (Goes-spent_ref 𝓛 3 (0 ∷ []) tt (plain (λ _. Whole)), tt) (#self args) fn (compiled.unfolded 𝓤 H 𝓜 𝓡 wired (X, (Y, tt)) d ds) (λ z are.
    let Post : Val → SProp 𝓤 = (walk_of 𝓛 En stays c).post z in let vss = z.0.4 in let κs = z.0.0 in let qs = z.0.1 in let κ : Lft = κs.0 in let κX : Lft = κs.1.0 in let κY : Lft = κs.1.1.0 in
    let x : MutBor (Img X.Denot) = z.0.3.0 in
    let old : Layout Y.Denot = layout_by gs.cells x.now in
    let Fit : Type 0 = Fits old in
    let α = named_lft 3 0 tt κs in
    let cursor : RattleType = P.the_row α R in
    let Two : RattleType = Both κ R in
    let Slice : RattleType = MutSlice (named 0) κ R in
    let G₁ = triple_of 𝓛 (a.signature X Y) (a.spec X Y gh d gs ds 𝓛 𝓜.mem 𝓡.returns) in
    let z₁ : G₁.Ghost = (((κ, (κX, (κY, tt))), (qs.0, (qs.1.0, (qs.1.1.0, tt))), z.0.2, (x, tt), (mut_vals x, tt)), tt) in
    qed 𝓛 (((‵ (flft κ qs.0) ⊛ ‵ (flft κX qs.1.0) ⊛ ‵ (flft κY qs.1.1.0) ⊛ ‵ ftrue) ⊛ ‵ (owns (types_at ps z.0.0) z.0.3 vss)) ∷ (raw (fact 𝓤 (κX ⊑ X.lives)) ⊛ raw (fact 𝓤 (κY ⊑ Y.lives)) ⊛ raw (fact 𝓤 Fit)) ∷ []) ∵
    move ! (1 ∷ []) $ split3 ! $ heard ! (κX ⊑ X.lives) (λ leX. heard ! (κY ⊑ Y.lives) (λ leY. heard ! Fit (λ fits. split ! $ move ! (1 ∷ []) $ fsplit ! $ keep ! (0 ∷ 2 ∷ []) $
    -- [the image's reference; the tokens]
    let told = mut_Tells (named 0) κ Whole x vss.0 are.0 in
    rewrite ! 0 (λ (vs : List Val). ‵ ((MutRef (named 0) κ Whole).own_val x vs)) told refl $
    regoal ! (λ (vs : List Val). prop (WpFn 𝓤 H 𝓣.C 𝓣.Λ fn vs Post)) (λ k. told k ++ []) refl $
    enter ! 𝓣.C 𝓣.Λ fn (vptr x.ref_ptr.0 x.ref_ptr.1 ∷ []) Post $
    alloc_all ! (λ l. pass_all ! refl ((tt, tt), tt) $
    sets ! (addr ! (through ! refl (stop !))) refl (tt, tt) $
    nothing ! $ move ! (1 ∷ 0 ∷ []) $ join ! $ move ! (1 ∷ 0 ∷ []) $ join ! $
    nothing ! $ use0 𝓛 (raw (fact 𝓤 (κY ⊑ Y.lives))) (fact_i 𝓤 (κY ⊑ Y.lives) (emp 𝓤) leY) $ join ! $ use0 𝓛 (raw (fact 𝓤 (κX ⊑ X.lives))) (fact_i 𝓤 (κX ⊑ X.lives) (emp 𝓤) leX) $ join ! $
    move ! (1 ∷ 0 ∷ []) $ use2 𝓛 (raw (G₁.pre z₁)) (id⊢ 𝓤 _) $
    calls_at ! fm G₁ (taking.met 𝓤 𝓛 𝓜 𝓡 (compiled.calls-imgref::img::Img::all_parts_mut 𝓡.env wired) X Y LX LY gh d gs ds bm bs) z₁ (and_then ! (get ! refl) (no_more !)) (λ v.
    let Tok : Item 𝓤 = ‵ (flft κ qs.0) ⊛ ‵ (flft κX qs.1.0) ⊛ ‵ (flft κY qs.1.1.0) ⊛ ‵ ftrue in
    let F : List Y.Denot → Img X.Denot = with_all gs.cells gh.with_cells x.now in
    use1 𝓛 (later (some (λ (p : MutBor (List Y.Denot) × Shape). (Tok ⊛ ‵ (Two.own_val p (v ∷ []))) ⊛ some (λ (ws : Unit {0} × Unit {0}). ‵ (lasts (a.ended X Y gh d gs ds) z₁.0.0 z₁.0.3 ws) ⊛ (‵ (follows Whole (Array R 0) x.ghost_name p.0.ghost_name F)
    ⊛ raw (fact 𝓤 (p.0.now ≡ old.cells)) ⊛ raw (fact 𝓤 (p.1 ≡ shape_of x.now))))))) (id⊢ 𝓤 _) $
    await ! tt $ pick ! (λ p. split ! $ split ! $ move ! (2 ∷ []) $ pick ! (λ ws. split ! $ drop ! $ split ! $ move ! (1 ∷ []) $
    split ! $ heard ! (p.0.now ≡ old.cells) (λ all. heard ! (p.1 ≡ shape_of x.now) (λ same.
    -- [what follows; the tokens; the cells and the shape]
    move ! (2 ∷ []) $ peeks ! Two (Is Two) (shows 𝓛 Two) p (v ∷ []) (λ is.
    let n : ℕ = length p.0.now in let sh = shape_told p.1 _ is.1.1.1.0 in let fn' : n < 2 ^ 64 = is.1.1.0.0.1.0 in
    let has : v ∷ [] ≡ both_val p.0.ref_ptr n p.1 ∷ [] = is.1.0 ∙ (λ i. vstruct (of_list (is.1.1.0.0.0 i ++ (sh.0 i ++ []))) ∷ []) in
    lands_as ! (ap only has) refl (tt, ((tt, (record { fits = fn' }, tt)), ((record { fits = sh.1 }, (record { fits = sh.2 }, (record { fits = sh.3 }, tt))), tt))) $
    fpick ! (λ us. fsplit ! $ drop ! $ fsplit ! $ move ! (1 ∷ []) $ drop ! $
    peeks ! Slice (Is Slice) (shows 𝓛 Slice) p.0 us.0 (λ isS. rewrite ! 0 (λ (vs : List Val). ‵ (Slice.own_val p.0 vs)) isS.0.0 refl $
    -- [the cells; what follows; the tokens]
    sets ! (of_opd ! (get_in ! (fld ! refl (stop !)) (sub ! 0 refl (whole !)))) refl (tt, (tt, (record { fits = fn' }, tt))) $
    sets ! (of_opd ! (get_in ! (fld ! refl (stop !)) (sub ! 1 refl (whole !)))) refl (tt, (record { fits = sh.1 }, (record { fits = sh.2 }, (record { fits = sh.3 }, tt)))) $
    sets ! (addr ! (from ! (fld ! refl (hop ! (look_in_at ! 2 (sub ! 0 refl (whole !))) (stop !))))) refl (tt, tt) $
    sets ! (agg ! (and_then ! (get ! refl) (and_then ! (get_in ! (fld ! refl (stop !)) (sub ! 1 refl (whole !))) (no_more !)))) refl (tt, (tt, (record { fits = fn' }, tt))) $
    let G₂ = triple_of 𝓛 (f.signature Y) (f.spec Y 𝓛 𝓜.mem 𝓡.returns) in
    let z₂ : G₂.Ghost = (((κ, (κY, tt)), (qs.0, (qs.1.1.0, tt)), (z.0.2.1.0, tt), (p.0, (p.1, tt)), (slice_val p.0.ref_ptr n ∷ [], (shape_val p.1 ∷ [], tt))), tt) in
    let Fit₂ : Type 0 = Fits (shaped p.0.now p.1) in let is_old : shaped p.0.now p.1 ≡ old = λ i. shaped (all i) (same i) in
    -- [the token of the image; the cells; what follows; the tokens of the call]
    move ! (2 ∷ []) $ split3 ! $ move ! (2 ∷ []) $ split ! $
    -- [the token of Y; nothing; the borrow's; the image's; the cells; what follows]
    move ! (0 ∷ 1 ∷ []) $ join ! $ move ! (1 ∷ 0 ∷ []) $ join ! $
    nothing ! $ use0 𝓛 (‵ (shape.the_row.own_val p.1 (shape_val p.1 ∷ []))) (shape_made 𝓛 p.1 sh.1 sh.2 sh.3) $ join ! $ move ! (3 ∷ 0 ∷ []) $ join ! $ move ! (1 ∷ 0 ∷ []) $ join ! $
    use0 𝓛 (raw (fact 𝓤 Fit₂)) (fact_i 𝓤 Fit₂ (emp 𝓤) (subst Fits (sym is_old) fits)) $ use0 𝓛 (raw (fact 𝓤 (κY ⊑ Y.lives))) (fact_i 𝓤 (κY ⊑ Y.lives) (emp 𝓤) leY) $ join ! $
    move ! (1 ∷ 0 ∷ []) $ use2 𝓛 (raw (G₂.pre z₂)) (id⊢ 𝓤 _) $
    -- [what the call asks; the image's token; what follows]
    calls_at ! fm G₂ (making.met 𝓤 𝓛 𝓜 𝓡 (compiled.calls-image_pixels::pixels_mut::PixelsIterMut::new 𝓡.env wired) Y LY) z₂ (and_then ! (get ! refl) (and_then ! (get ! refl) (no_more !))) (λ v₂.
    let here : Layout Y.Denot = shaped p.0.now p.1 in
    let Sort : Type 0 = PixelsIterMut Y.Denot in
    let Name : Sort → Type 0 = λ r. pixels_name r ≡ p.0.ghost_name in let Cells : Layout Y.Denot → Sort → Type 0 = λ l r. cells_left r ≡ l.cells in let Marks : Layout Y.Denot → Sort → Type 0 = λ l r. marks_left r ≡ marks_of l.width l.height l.stride in
    let Whole₂ : Layout Y.Denot → Sort → Type 0 = λ l r. ArePixels l (muts_left r) in
    use1 𝓛 (later (some (λ (r : Sort). ((‵ (flft κ qs.0) ⊛ ‵ (flft κY qs.1.1.0) ⊛ ‵ ftrue) ⊛ ‵ (cursor.own_val r (v₂ ∷ []))) ⊛ some (λ (us : Unit {0} × (Unit {0} × Unit {0})). ‵ (lasts (f.ended Y) z₂.0.0 z₂.0.3 us)
    ⊛ (raw (fact 𝓤 (Name r)) ⊛ raw (fact 𝓤 (Cells here r)) ⊛ raw (fact 𝓤 (Marks here r)) ⊛ raw (fact 𝓤 (Whole₂ here r))))))) (id⊢ 𝓤 _) $
    await ! tt $ pick ! (λ r. split ! $ split ! $ move ! (2 ∷ []) $ pick ! (λ us₂. split ! $ drop ! $
    split ! $ heard ! (Name r) (λ name. split ! $ heard ! (Cells here r) (λ cells. split ! $ heard ! (Marks here r) (λ marks. heard ! (Whole₂ here r) (λ whole.
    -- [the tokens; the cursor; the image's token; what follows]
    move ! (1 ∷ []) $ peeks ! cursor (Is cursor) (shows 𝓛 cursor) r (v₂ ∷ []) (λ is₂.
    let word : Val = laws.lowered α R (param_laws 1 Y LY) r in
    let told₂ : v₂ ∷ [] ≡ word ∷ [] = (laws.lowers α R (param_laws 1 Y LY)).val_is r (v₂ ∷ []) is₂ in
    let fit = (((laws.the_row_laws α R (param_laws 1 Y LY)).lawful 𝓛).typed r (word ∷ []) (subst (Is cursor r) told₂ is₂)).0 in
    rewrite ! 0 (λ (vs : List Val). ‵ (cursor.own_val r vs)) told₂ refl $
    lands_as ! (ap only told₂) refl fit $
    -- [the cursor; the tokens of the call; the image's token; what follows]
    let full : r.cells ≡ old.cells = cells ∙ all in
    move ! (1 ∷ []) $ split ! $ move ! (3 ∷ 1 ∷ []) $ join ! $ move ! (1 ∷ 0 ∷ []) $ join ! $
    move ! (2 ∷ []) $ rewrite ! 0 (λ (γ : GName). ‵ (follows Whole (Array R 0) x.ghost_name γ F)) (sym name) refl $ move ! (1 ∷ []) $
    -- [the tokens; what follows; the cursor]
    returns ! (look_at ! 0 refl) $ free_all ! refl $
    use0 𝓛 (raw (fact 𝓤 (Whole₂ old r))) (fact_i 𝓤 (Whole₂ old r) (emp 𝓤) (subst (λ l. Whole₂ l r) is_old whole)) $
    use0 𝓛 (raw (fact 𝓤 (Marks old r))) (fact_i 𝓤 (Marks old r) (emp 𝓤) (subst (λ l. Marks l r) is_old marks)) $ join ! $ use0 𝓛 (raw (fact 𝓤 (Cells old r))) (fact_i 𝓤 (Cells old r) (emp 𝓤) full) $ join ! $
    -- [the plain clauses; the tokens; what follows; the cursor]
    move ! (2 ∷ 0 ∷ []) $ join ! $ nothing ! $ nothing ! $ fjoin ! $
    -- [the reference; the ensures; the tokens; the cursor]
    move ! (2 ∷ 0 ∷ 3 ∷ 1 ∷ []) $ by ! (leaves 𝓛 En stays c z word r (tt, tt) (tt, tt)))))))))))))))))))))))
