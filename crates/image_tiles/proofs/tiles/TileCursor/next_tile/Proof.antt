-- `next_tile` counts the tiles that are left, and lends the next one on; where none is left, the cursor is given up as it is. A walk of its MIR by hand.
use Rattle.std.proofs.Common.{◌≡◌, refl, sym, ap, ◌∙◌, subst, ℕ, ◌<◌, List, [], ◌∷◌, ◌++◌, eqb→eq, lit<, length, MutBor, Option, Some, None, IsTrue}
use Rattle.std.proofs.alloc.Shapes.{after}
use Rattle.std.proofs.option.Made.{Some-of, none_of}
use Rattle.std.specs.contracts.option.Option as OP
use Rattle.borrow_laws.proofs.Walking.{SProp, emp, id⊢, Lft, GName, ftrue, flft, Args, Fn, named, inst_fn, Val, vptr, of_list, Env, WpFn, ◌⊑◌, fact, fact_i, tables, Item, ‵, ◌⊛◌, raw, later, some, prop, at_ret, ◌$◌, ◌∵◌, !, qed, by, move, keep, drop, split, split3, join, fsplit, fsplit3, fjoin, rewrite, regoal, use0, use1, use2, await, pick, live, all_of, sub, agg, stop, fld, lit, addr, bin, of_opd, and_then, no_more, first, branches, skips, exec, returns, returns_within, enter, alloc_all, pass_all, free_all, look_at, get, get_in, through, sets, lands_as, env, name_done, Array, follows, follows_if, shows, Is, param, RattleType, owns, MutRef, mut_vals, mut_Tells, plain, types_at, nothing, heard, peeks, only, calls_at, lasts, triple_of, framed, Stays, stay_dropped, walk_of, Goes-spent_ref, proved_at, leaves}
use Rattle.borrow_laws.proofs.Bodies.{of_container}
use Rattle.borrow_laws.proofs.Followed.{if_some, if_none}
use Rattle.image_model.specs.Layout.{Layout, Fits}
use Rattle.image_model.specs.Windows.{Window}
use Rattle.imgref.specs.Image.{layout_by, shape_of}
use Rattle.imgref.proofs.ImageValues.{img_val, img_row, img_told}
use Rattle.imgref.specs.declared.img.Img.{Img}
use Rattle.image_tiles.specs.Lending.{image_of, tiling_of, after_tile, tile_name, IsNext, NextTile, tiles_left}
use Rattle.image_tiles.specs.Tiling.{windows_left, has_tile}
use Rattle.image_tiles.specs.declared.tiles.TileCursor.{TileCursor}
use Rattle.image_tiles.specs.contracts.tiles.TileCursor.{the_row}
use Rattle.image_tiles.specs.contracts.tiles.TileCursor.counted as f
use Rattle.image_tiles.proofs.tiles.TileCursor.counted.Met as counting
use Rattle.image_tiles.specs.contracts.tiles.TileCursor.tile as g
use Rattle.image_tiles.proofs.tiles.TileCursor.tile.Met as lending
use Rattle.image_tiles.proofs.CountedValues.{Counted, counted_told, counted_out}
use Rattle.std.proofs.lemmas.List.{nil_from_length}
use Rattle.image_tiles.proofs.Left.{tiles_all_left}
use Rattle.borrow_laws.proofs.Tests.{one_at_least}
use Rattle.image_tiles.specs.contracts.tiles.TileCursor.next_tile.{ended, clauses}
use Rattle.image_tiles.specs.contracts.tiles.TileCursor.next_tile.Key.{name as #self}
use Rattle.image_tiles.proofs.tiles.TileCursor.next_tile.Statement.{statement}
use Rattle.image_tiles.proofs.tiles.TileCursor.next_tile.Code as compiled

pub next_tile_spec : {M : Type 1} → statement M
next_tile_spec 𝓤 𝓛 𝓜 𝓡 wired X Y LX LY gh d gs ds bm bs =
    let H = 𝓛.H in let 𝓣 = tables 𝓤 H 𝓜 𝓡 𝓡.env in let fm = framed 𝓤 H 𝓜 𝓣 in
    let args : Args = of_container X Y d ds in let fn : Fn = inst_fn args compiled.function in let R : RattleType = param 1 Y in let Whole : RattleType = the_row (param 0 X) in
    let En = ended X Y gh d gs ds in let c = clauses X Y gh d gs ds 𝓛 𝓜.mem 𝓡.returns in let ps = En.signature.params in let stays : Stays En.signature.params En.kept = (stay_dropped _ En.kept.0, tt) in
    proved_at 𝓛 En stays c 𝓜 𝓡 (Goes-spent_ref 𝓛 3 (0 ∷ []) tt (plain (λ _. Whole)), tt) (#self args) fn (compiled.unfolded 𝓤 H 𝓜 𝓡 wired (X, (Y, tt)) d ds) (λ z are.
    let Post : Val → SProp 𝓤 = (walk_of 𝓛 En stays c).post z in let a = z.0.3 in let vss = z.0.4 in let κs = z.0.0 in let qs = z.0.1 in let κ : Lft = κs.0 in let κX : Lft = κs.1.0 in let κY : Lft = κs.1.1.0 in
    let x : MutBor (TileCursor X.Denot) = a.0 in
    let h : TileCursor X.Denot = x.now in
    let γ : GName = x.ghost_name in
    let li : Layout Y.Denot = layout_by gs.cells (image_of h) in
    let before : List Window = tiles_left gs.cells h in
    let padded = gh.padded_windows in
    let FitsIn : Type 0 = Fits li in
    let More : Type 0 = IsTrue (has_tile (tiling_of h)) in
    let Row : RattleType = img_row (named 0) κ R in
    let Ans : RattleType = OP.the_row Row in
    let Pair : RattleType = Counted (named 0) κ Whole in
    let F : List Y.Denot → TileCursor X.Denot = after_tile gs.cells gh.with_cells padded h in
    let Answered : Type 0 = Option (Img (MutBor (List Y.Denot))) in
    let Next : List Window → Img (MutBor (List Y.Denot)) → Type 0 = IsNext gs.cells gh.with_cells padded h in
    let Gives : Answered → Type 0 = NextTile gs.cells gh.with_cells padded h before in
    let Tok : Item 𝓤 = ‵ (flft κ qs.0) ⊛ ‵ (flft κX qs.1.0) ⊛ ‵ (flft κY qs.1.1.0) ⊛ ‵ ftrue in
    let G₁ = triple_of 𝓛 (f.signature X Y) (f.spec X Y gh d gs ds 𝓛 𝓜.mem 𝓡.returns) in
    let z₁ : G₁.Ghost = ((κs, qs, (z.0.2.0, tt), (x, tt), (mut_vals x, tt)), tt) in
    qed 𝓛 ((Tok ⊛ ‵ (owns (types_at ps z.0.0) a vss)) ∷ (raw (fact 𝓤 (κX ⊑ X.lives)) ⊛ raw (fact 𝓤 (κY ⊑ Y.lives)) ⊛ raw (emp 𝓤)) ∷ []) ∵
    move ! (1 ∷ []) $ split3 ! $ heard ! (κX ⊑ X.lives) (λ leX. heard ! (κY ⊑ Y.lives) (λ leY. drop ! $ split ! $ move ! (1 ∷ []) $ fsplit ! $ keep ! (0 ∷ 2 ∷ []) $
    -- [the cursor's reference; the tokens]
    let told = mut_Tells (named 0) κ Whole x vss.0 are.0 in
    rewrite ! 0 (λ (vs : List Val). ‵ ((MutRef (named 0) κ Whole).own_val x vs)) told refl $
    regoal ! (λ (vs : List Val). prop (WpFn 𝓤 H 𝓣.C 𝓣.Λ fn vs Post)) (λ k. told k ++ []) refl $
    enter ! 𝓣.C 𝓣.Λ fn (vptr x.ref_ptr.0 x.ref_ptr.1 ∷ []) Post $
    alloc_all ! (λ l. let Ev : Env 𝓤 H = env fn.locals l in
    pass_all ! refl ((tt, tt), tt) $
    sets ! (addr ! (through ! refl (stop !))) refl (tt, tt) $
    nothing ! $ move ! (1 ∷ 0 ∷ []) $ join ! $ move ! (1 ∷ 0 ∷ []) $ join ! $
    nothing ! $ use0 𝓛 (raw (fact 𝓤 (κY ⊑ Y.lives))) (fact_i 𝓤 (κY ⊑ Y.lives) (emp 𝓤) leY) $ join ! $ use0 𝓛 (raw (fact 𝓤 (κX ⊑ X.lives))) (fact_i 𝓤 (κX ⊑ X.lives) (emp 𝓤) leX) $ join ! $
    move ! (1 ∷ 0 ∷ []) $ use2 𝓛 (raw (G₁.pre z₁)) (id⊢ 𝓤 _) $
    calls_at ! fm G₁ (counting.met 𝓤 𝓛 𝓜 𝓡 (compiled.calls-image_tiles::tiles::TileCursor::counted 𝓡.env wired) X Y LX LY gh d gs ds bm bs) z₁ (and_then ! (get ! refl) (no_more !)) (λ v.
    let Sized : Type 0 = MutBor (TileCursor X.Denot) × ℕ in
    let Same_name : Sized → Type 0 = λ r. r.0.ghost_name ≡ γ in
    let Same : Sized → Type 0 = λ r. r.0.now ≡ h in
    let Counts : Sized → Type 0 = λ r. r.1 ≡ length before in
    let Some_left : Sized → Type 0 = λ r. 0 < r.1 → More in
    let Fits_then : Sized → Type 0 = λ r. 0 < r.1 → FitsIn in
    use1 𝓛 (later (some (λ (r : Sized). (Tok ⊛ ‵ (Pair.own_val r (v ∷ []))) ⊛ some (λ (us : Unit {0} × Unit {0}). ‵ (lasts (f.ended X Y gh d gs ds) z₁.0.0 z₁.0.3 us)
    ⊛ raw (fact 𝓤 (Same_name r)) ⊛ raw (fact 𝓤 (Same r)) ⊛ raw (fact 𝓤 (Counts r)) ⊛ raw (fact 𝓤 (Some_left r)) ⊛ raw (fact 𝓤 (Fits_then r)))))) (id⊢ 𝓤 _) $
    await ! tt $ pick ! (λ r. split ! $ split ! $ move ! (2 ∷ []) $ pick ! (λ us. split ! $ drop ! $ split ! $ heard ! (Same_name r) (λ e₁. split ! $ heard ! (Same r) (λ e₂. split ! $ heard ! (Counts r) (λ counts. split ! $ heard ! (Some_left r) (λ more. heard ! (Fits_then r) (λ fits_then.
    -- [the tokens; the cursor's reference with the count]
    let k : ℕ = r.1 in
    let this : MutBor (TileCursor X.Denot) = record { ref_ptr = r.0.ref_ptr; ghost_name = γ; now = h } in
    let known : r ≡ (this, k) = λ i. (record { ref_ptr = r.0.ref_ptr; ghost_name = e₁ i; now = e₂ i }, k) in
    let w : Val = vptr this.ref_ptr.0 this.ref_ptr.1 in
    move ! (1 ∷ []) $ rewrite ! 0 (λ (n : Sized). ‵ (Pair.own_val n (v ∷ []))) known refl $
    peeks ! Pair (Is Pair) (shows 𝓛 Pair) (this, k) (v ∷ []) (λ is. let pt = counted_told (named 0) κ Whole (this, k) (v ∷ []) is in
    lands_as ! (ap only (pt.0)) refl (tt, (tt, (record { fits = pt.1 }, tt))) $
    use1 𝓛 (‵ ((MutRef (named 0) κ Whole).own_val this (w ∷ []))) (counted_out (named 0) κ Whole 𝓛 (this, k) (v ∷ [])) $
    sets ! (of_opd ! (get_in ! (fld ! refl (stop !)) (sub ! 0 refl (all_of !)))) refl (tt, tt) $
    sets ! (of_opd ! (get_in ! (fld ! refl (stop !)) (sub ! 1 refl (all_of !)))) refl (tt, record { fits = pt.1 }) $
    sets ! (bin ! (get ! refl) (lit ! tt) tt) refl (tt, tt) $
    -- [the cursor's reference; the tokens]
    first ! $ branches ! (get ! refl)
    (λ t. let none_left : Gives None = nil_from_length before (sym counts ∙ eqb→eq k 0 t) in
    fsplit3 ! $ drop ! $ move ! (1 ∷ []) $ drop ! $ name_done ! tt $
    sets ! (agg ! (and_then ! (lit ! tt) (no_more !))) refl (tt, (record { fits = lit< tt }, tt)) $
    returns_within ! Post refl (look_at ! 0 refl) $ free_all ! refl $
    use1 𝓛 (‵ (follows_if Whole (Array R 0) γ (tile_name {T = Y.Denot} None) F h)) (if_none 𝓛 Whole (Array R 0) γ F h) $
    use0 𝓛 (raw (fact 𝓤 (Gives None))) (fact_i 𝓤 (Gives None) (emp 𝓤) none_left) $ move ! (1 ∷ 0 ∷ []) $ join ! $
    use0 𝓛 (‵ (Ans.own_val None (live 0 (of_list []) ∷ []))) (none_of 𝓛 Row) $
    nothing ! $ nothing ! $ fjoin ! $
    -- [nothing of the cursor; the answer; the ensures; the tokens]
    move ! (3 ∷ 0 ∷ 1 ∷ 2 ∷ []) $ by ! (leaves 𝓛 En stays c z (live 0 (of_list [])) None (tt, tt) (tt, tt)))
    (λ t. let has : More = more (one_at_least k t) in
    let fits : FitsIn = fits_then (one_at_least k t) in
    skips ! $ exec ! 𝓣.C 𝓣.Λ Ev (after 6 fn.body) (at_ret Ev Post) $
    sets ! (addr ! (through ! refl (stop !))) refl (tt, tt) $
    let G₂ = triple_of 𝓛 (g.signature X Y) (g.spec X Y gh d gs ds 𝓛 𝓜.mem 𝓡.returns) in
    let z₂ : G₂.Ghost = ((κs, qs, z.0.2, (this, tt), (mut_vals this, tt)), tt) in
    nothing ! $ move ! (1 ∷ 0 ∷ []) $ join ! $ move ! (1 ∷ 0 ∷ []) $ join ! $
    use0 𝓛 (raw (fact 𝓤 More)) (fact_i 𝓤 More (emp 𝓤) has) $ use0 𝓛 (raw (fact 𝓤 FitsIn)) (fact_i 𝓤 FitsIn (emp 𝓤) fits) $ join ! $
    use0 𝓛 (raw (fact 𝓤 (κY ⊑ Y.lives))) (fact_i 𝓤 (κY ⊑ Y.lives) (emp 𝓤) leY) $ join ! $ use0 𝓛 (raw (fact 𝓤 (κX ⊑ X.lives))) (fact_i 𝓤 (κX ⊑ X.lives) (emp 𝓤) leX) $ join ! $
    move ! (1 ∷ 0 ∷ []) $ use2 𝓛 (raw (G₂.pre z₂)) (id⊢ 𝓤 _) $
    calls_at ! fm G₂ (lending.met 𝓤 𝓛 𝓜 𝓡 (compiled.calls-image_tiles::tiles::TileCursor::tile 𝓡.env wired) X Y LX LY gh d gs ds bm bs) z₂ (and_then ! (get ! refl) (no_more !)) (λ v₂.
    let Tile : Type 0 = Img (MutBor (List Y.Denot)) in
    let Left : List Window = windows_left (tiling_of h) in
    use1 𝓛 (later (some (λ (u : Tile). (Tok ⊛ ‵ (Row.own_val u (v₂ ∷ []))) ⊛ some (λ (us₂ : Unit {0} × Unit {0}). ‵ (lasts (g.ended X Y gh d gs ds) z₂.0.0 z₂.0.3 us₂)
    ⊛ (‵ (follows Whole (Array R 0) γ u.buf.ghost_name F) ⊛ raw (fact 𝓤 (Next Left u))))))) (id⊢ 𝓤 _) $
    await ! tt $ pick ! (λ u. split ! $ split ! $ move ! (2 ∷ []) $ pick ! (λ us₂. split ! $ drop ! $ split ! $ move ! (1 ∷ []) $
    heard ! (Next Left u) (λ next.
    -- [what the cursor follows; the tokens; the tile]
    let gives : Gives (Some u) = subst (λ (ws : List Window). Next ws u) (sym (tiles_all_left gs.cells h fits)) next in
    move ! (2 ∷ []) $ peeks ! Row (Is Row) (shows 𝓛 Row) u (v₂ ∷ []) (λ is₂. let t₂ = img_told (named 0) κ R u (v₂ ∷ []) is₂ in
    let w₂ : Val = img_val u.buf.ref_ptr (length u.buf.now) (shape_of u) in
    rewrite ! 0 (λ (vs : List Val). ‵ (Row.own_val u vs)) (t₂.0) refl $
    lands_as ! (ap only (t₂.0)) refl (tt, ((tt, (record { fits = t₂.1.0 }, tt)), (record { fits = t₂.2 }, (record { fits = t₂.3 }, (record { fits = t₂.4 }, tt))))) $
    sets ! (agg ! (and_then ! (lit ! tt) (and_then ! (get ! refl) (no_more !)))) refl (tt, (record { fits = lit< tt }, (((tt, (record { fits = t₂.1.0 }, tt)), (record { fits = t₂.2 }, (record { fits = t₂.3 }, (record { fits = t₂.4 }, tt)))), tt))) $
    returns ! (look_at ! 0 refl) $ free_all ! refl $
    use1 𝓛 (‵ (Ans.own_val (Some u) (live 1 (of_list (w₂ ∷ [])) ∷ []))) (Some-of 𝓛 Row u w₂) $
    -- [the answer; what the cursor follows; the tokens]
    move ! (1 ∷ []) $ use1 𝓛 (‵ (follows_if Whole (Array R 0) γ (tile_name (Some u)) F h)) (if_some 𝓛 Whole (Array R 0) γ F h u.buf.ghost_name) $
    use0 𝓛 (raw (fact 𝓤 (Gives (Some u)))) (fact_i 𝓤 (Gives (Some u)) (emp 𝓤) gives) $ move ! (1 ∷ 0 ∷ []) $ join ! $
    nothing ! $ nothing ! $ fjoin ! $
    -- [nothing of the cursor; the ensures; the answer; the tokens]
    move ! (3 ∷ 0 ∷ 2 ∷ 1 ∷ []) $ by ! (leaves 𝓛 En stays c z (live 1 (of_list (w₂ ∷ []))) (Some u) (tt, tt) (tt, tt)))))))))))))))))))))
