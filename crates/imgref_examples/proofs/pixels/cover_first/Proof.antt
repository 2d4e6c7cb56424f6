-- `cover_first` lends the image to a cursor and the cursor to `write_next`, and takes both back: the image ends as the cursor's cells do. Assumes `Logic`.
use base.Share
use mir.Syntax.{impl}
use denote.Param.NoDrop.{glues}
use Rattle.std.proofs.Common.{◌≡◌, refl, ap, subst, ℕ, ◌<◌, ◌^◌, List, [], ◌∷◌, ◌++◌, w64, MutBor}
use Rattle.image_model.specs.Layout.{Layout, Fits}
use Rattle.borrow_laws.proofs.Walking.{Lft, GName, Share, ftrue, fres, flft, fat, full_share, SProp, emp, id⊢, coded_list, Args, Dict, Fn, Ty, named, dnil, tcons, tnil, inst_fn, Val, vint, vptr, vunit, ◌⊑◌, ⊑_trans, meet_⊑_right, fact, fact_i, tables, ‵, ◌⊛◌, raw, later, some, ◌$◌, ◌∵◌, !, qed, by, move, keep, drop, split, split3, join, fsplit, fjoin, fpick, feq_l, feq_i, rewrite, use0, use1, use2, use3, await, pick, stop, from, addr, of_opd, unit_lit, and_then, no_more, returns, enter, alloc_all, pass_all, free_all, look_at, get, through, sets, lands_as, take_at, give_at, part_in_at, part_out_at, Array, unit, usize, no, yes, uint_Makes, uint_vals, uint_Tells, follows, followed, shows, Is, part_at, param, copied, layout, param_laws, copied_laws, copied_copy, RattleType, owns, mut_vals, mut_Tells, plain, named_lft, types_at, nothing, heard, owned, peeks, only, calls_at, lasts, triple_of, framed, Stays, stay_ref, stay_dropped, walk_of, Goes-ref, Goes-dropped, proved, leaves}
use Rattle.borrow_laws.proofs.Bodies.{of_copied}
use Rattle.borrow_laws.proofs.Endings.{ends_said}
use Rattle.borrow_laws.proofs.Lifetimes.{Loan, Kept, lent, lends, ends}
use Rattle.borrow_laws.proofs.Places.{KeptPlace, lends_place, place_ends}
use Rattle.image_pixels.specs.Marks.{marks_of}
use Rattle.image_pixels.specs.Pixels.{ArePixels, cells_left, marks_left, muts_left, pixels_name}
use Rattle.image_pixels.specs.declared.pixels_mut.PixelsIterMut.{PixelsIterMut}
use Rattle.image_pixels.specs.contracts.pixels_mut.PixelsIterMut as P
use Rattle.image_pixels.proofs.pixels_mut.PixelsIterMut.TheLaws as laws
use Rattle.image_pixels.specs.contracts.pixels_mut.PixelsIterMut.drop as D
use Rattle.image_pixels.proofs.pixels_mut.PixelsIterMut.drop.Met as dropping
use Rattle.imgref.specs.Image.{with_all, layout_by}
use Rattle.imgref.specs.declared.img.Img.{Img}
use Rattle.imgref.specs.contracts.img.Img.{the_row}
use Rattle.imgref.specs.contracts.img.Img.exact_pixels_mut as M
use Rattle.imgref.proofs.img.Img.exact_pixels_mut.Met as making
use Rattle.imgref_examples.specs.Pixels.{first_covered, writes_first}
use Rattle.imgref_examples.specs.contracts.pixels.write_next as W
use Rattle.imgref_examples.proofs.pixels.write_next.Met as writing
use Rattle.imgref_examples.specs.contracts.pixels.cover_first.{ended, clauses}
use Rattle.imgref_examples.specs.contracts.pixels.cover_first.Key.{name as #self}
use Rattle.imgref_examples.proofs.pixels.cover_first.Statement.{statement}
use Rattle.imgref_examples.proofs.pixels.cover_first.Code as compiled
use Rattle.imgref_examples.proofs.Destruct++none.drop.Code.{code as let_go_code}

pub cover_first_spec : {M : Type 1} → statement M
unfolding let_go_code
cover_first_spec 𝓤 𝓛 𝓜 𝓡 wired X Y LX LY CY gh d gs ds gc dc bm bs bc =
    let H = 𝓛.H in let 𝓣 = tables 𝓤 H 𝓜 𝓡 𝓡.env in let fm = framed 𝓤 H 𝓜 𝓣 in
    let args : Args = of_copied X Y d ds dc in let fn : Fn = inst_fn args compiled.function in let R : RattleType = copied 1 Y in let Whole : RattleType = the_row (param 0 X) in let w = (copied_copy 1 Y CY).val in
    let En = ended X Y gh d gs ds gc dc in let c = clauses X Y gh d gs ds gc dc 𝓛 𝓜.mem 𝓡.returns in let hs : Stays En.signature.params En.kept = (stay_ref (0 ∷ []) tt (plain (λ _. Whole)), (stay_dropped (plain (λ _. usize)) yes, (stay_dropped (plain (λ _. R)) no, tt))) in
    proved 𝓛 En hs c 𝓜 𝓡 (Goes-ref 𝓛 3 0 tt (plain (λ _. Whole)), (Goes-dropped 𝓛 3 (plain (λ _. usize)) yes (λ κs x f. refl), (Goes-dropped 𝓛 3 (plain (λ _. R)) no (λ κs x f. refl), tt))) (#self args) fn (compiled.unfolded 𝓤 H 𝓜 𝓡 wired (X, (Y, tt)) d ds dc)
    (λ κs. (mut_vals, (uint_vals w64, ((λ x. w x ∷ []), tt)))) (λ κs. (mut_Tells (named 0) κs.0 Whole, (uint_Tells w64, ((copied_copy 1 Y CY).tells, tt)))) (λ κs qs bounds a gg are.
    let κ₀ : Lft = κs.0 in let κ₁ : Lft = κs.1.0 in let κ₂ : Lft = κs.1.1.0 in let q₀ : Share = qs.0 in let q₁ : Share = qs.1.0 in let q₂ : Share = qs.1.1.0 in
    let x : MutBor (Img X.Denot) = a.0 in let count : ℕ = a.1.0 in let low_count : count < 2 ^ 64 = are.1.0.1 in let value : Y.Denot = a.1.1.0 in let v : Val = w value in
    let b : ℕ = x.ref_ptr.0 in let o : ℕ = x.ref_ptr.1 in let γ : GName = x.ghost_name in
    let old : Layout Y.Denot = layout_by gs.cells x.now in let Fit : Type 0 = Fits old in
    let bound : (walk_of 𝓛 En hs c).Ghost = ((κs, qs, bounds, a, (mut_vals x, (vint w64 count ∷ [], (v ∷ [], tt)))), gg) in
    let Post : Val → SProp 𝓤 = (walk_of 𝓛 En hs c).post bound in
    let good = (((copied_laws 1 Y LY).lawful 𝓛).typed value (v ∷ []) are.1.1.0).0 in
    qed 𝓛 (((‵ (flft κ₀ q₀) ⊛ ‵ (flft κ₁ q₁) ⊛ ‵ (flft κ₂ q₂) ⊛ ‵ ftrue) ⊛ ‵ (owns (types_at En.signature.params κs) a bound.0.4)) ∷ (raw (fact 𝓤 (κ₁ ⊑ X.lives)) ⊛ raw (fact 𝓤 (κ₂ ⊑ Y.lives)) ⊛ raw (fact 𝓤 Fit)) ∷ []) ∵
    move ! (1 ∷ []) $ split3 ! $ heard ! (κ₁ ⊑ X.lives) (λ inX. heard ! (κ₂ ⊑ Y.lives) (λ inY. heard ! Fit (λ fits. split ! $ move ! (1 ∷ []) $ fsplit ! $ move ! (1 ∷ []) $ fsplit ! $ move ! (1 ∷ []) $ fsplit ! $ keep ! (3 ∷ 0 ∷ 4 ∷ []) $
    -- [the image's reference; the value; the tokens]
    enter ! 𝓣.C 𝓣.Λ fn (vptr b o ∷ vint w64 count ∷ v ∷ []) Post $ alloc_all ! (λ l. pass_all ! refl ((tt, tt), ((tt, record { fits = low_count }), (good, tt))) $
    sets ! (addr ! (through ! refl (stop !))) refl (tt, tt) $
    move ! (2 ∷ []) $ split3 ! $ move ! (2 ∷ []) $ split ! $ move ! (1 ∷ []) $ drop ! $ move ! (1 ∷ 3 ∷ []) $
    use2 𝓛 (later (some (λ (d : Loan). ‵ (lent Whole b o (d.0 ∷ κ₀) d.2 x.now) ⊛ ‵ (flft (d.0 ∷ κ₀) d.1) ⊛ raw (Kept 𝓛 Whole κ₀ q₀ b o γ x.now d)))) (lends 𝓛 Whole κ₀ q₀ b o γ x.now) $ await ! tt $ pick ! (λ d₀. split3 ! $
    let α : Lft = d₀.0 ∷ κ₀ in let qα : Share = d₀.1 in let δ : GName = d₀.2 in let below : α ⊑ κ₀ = meet_⊑_right (d₀.0 ∷ []) κ₀ in let in₁ : α ⊑ κ₁ = ⊑_trans α κ₀ κ₁ below bounds.1.0 in let in₂ : α ⊑ κ₂ = ⊑_trans α κ₀ κ₂ below bounds.0 in
    -- [the borrow; α; what is kept; κ₂; κ₁; the value]
    let G₁ = triple_of 𝓛 (M.signature X Y) (M.spec X Y gh d gs ds 𝓛 𝓜.mem 𝓡.returns) in
    let x₁ : MutBor (Img X.Denot) = record { ref_ptr = (b, o); ghost_name = δ; now = x.now } in
    let z₁ : G₁.Ghost = (((α, (κ₁, (κ₂, tt))), (qα, (q₁, (q₂, tt))), (in₁, (in₂, tt)), (x₁, tt), (mut_vals x₁, tt)), tt) in
    nothing ! $ move ! (1 ∷ 0 ∷ []) $ join ! $ nothing ! $ move ! (4 ∷ 0 ∷ []) $ join ! $ move ! (4 ∷ 0 ∷ []) $ join ! $ move ! (2 ∷ 0 ∷ []) $ join ! $ join ! $
    use0 𝓛 (raw (fact 𝓤 Fit)) (fact_i 𝓤 Fit (emp 𝓤) fits) $ use0 𝓛 (raw (fact 𝓤 (κ₂ ⊑ Y.lives))) (fact_i 𝓤 (κ₂ ⊑ Y.lives) (emp 𝓤) inY) $ join ! $ use0 𝓛 (raw (fact 𝓤 (κ₁ ⊑ X.lives))) (fact_i 𝓤 (κ₁ ⊑ X.lives) (emp 𝓤) inX) $ join ! $
    move ! (1 ∷ 0 ∷ []) $ use2 𝓛 (raw (G₁.pre z₁)) (id⊢ 𝓤 _) $
    -- [what the call asks; what is kept; the value]
    calls_at ! fm G₁ (making.met 𝓤 𝓛 𝓜 𝓡 (compiled.calls-imgref::img::Img::exact_pixels_mut 𝓡.env wired) X Y LX LY gh d gs ds bm bs) z₁ (and_then ! (get ! refl) (no_more !)) (λ v₁.
    let cursor : RattleType = P.the_row (named_lft 3 0 tt (α, (κ₁, (κ₂, tt)))) (param 1 Y) in
    let Sort : Type 0 = PixelsIterMut Y.Denot in
    let F : List Y.Denot → Img X.Denot = with_all gs.cells gh.with_cells x.now in
    let marked = marks_of x.now.width x.now.height x.now.stride in
    use1 𝓛 (later (some (λ (r : Sort). ((‵ (flft α qα) ⊛ ‵ (flft κ₁ q₁) ⊛ ‵ (flft κ₂ q₂) ⊛ ‵ ftrue) ⊛ ‵ (cursor.own_val r (v₁ ∷ []))) ⊛ some (λ (ws : Unit {0} × Unit {0}). ‵ (lasts (M.ended X Y gh d gs ds) z₁.0.0 z₁.0.3 ws)
    ⊛ (‵ (follows Whole (Array (param 1 Y) 0) δ (pixels_name r) F) ⊛ raw (fact 𝓤 (cells_left r ≡ old.cells)) ⊛ raw (fact 𝓤 (marks_left r ≡ marked)) ⊛ raw (fact 𝓤 (ArePixels old (muts_left r)))))))) (id⊢ 𝓤 _) $
    await ! tt $ pick ! (λ r. split ! $ split ! $ move ! (2 ∷ []) $ pick ! (λ ws₁. split ! $ drop ! $ split ! $ move ! (1 ∷ []) $ split ! $ heard ! (cells_left r ≡ old.cells) (λ cells. split ! $ heard ! (marks_left r ≡ marked) (λ marked_is. drop ! $
    -- [what follows; the tokens; the cursor; what is kept; the value]
    let lowered : Sort → Val = laws.lowered (named_lft 3 0 tt (α, (κ₁, (κ₂, tt)))) (param 1 Y) (param_laws 1 Y LY) in
    let low = laws.lowers (named_lft 3 0 tt (α, (κ₁, (κ₂, tt)))) (param 1 Y) (param_laws 1 Y LY) in
    let typed = ((laws.the_row_laws (named_lft 3 0 tt (α, (κ₁, (κ₂, tt)))) (param 1 Y) (param_laws 1 Y LY)).lawful 𝓛).typed in
    move ! (2 ∷ []) $ peeks ! cursor (Is cursor) (shows 𝓛 cursor) r (v₁ ∷ []) (λ is₁.
    let told₁ : v₁ ∷ [] ≡ lowered r ∷ [] = low.val_is r (v₁ ∷ []) is₁ in
    let fit : (s : Sort) (vs : List Val) → Is cursor s vs → _ = λ s vs is. (typed s (lowered s ∷ []) (subst (Is cursor s) (low.val_is s vs is) is)).0 in
    rewrite ! 0 (λ (us : List Val). ‵ (cursor.own_val r us)) told₁ refl $
    lands_as ! (ap only told₁) refl (fit r (v₁ ∷ []) is₁) $
    sets ! (of_opd ! (get ! refl)) refl (fit r (v₁ ∷ []) is₁) $
    -- [the cursor; what follows; the tokens; what is kept; the value]
    move ! (2 ∷ []) $ split3 ! $ move ! (2 ∷ []) $ split ! $ move ! (1 ∷ []) $ drop ! $
    take_at ! 4 $ move ! (0 ∷ 4 ∷ []) $
    -- [local 4; the cursor; κ₂; α; κ₁; what follows; what is kept; the value]
    let spelled : Ty = low.mir in
    use2 𝓛 (‵ (part_at cursor full_share r (l 4) 0)) (part_in_at 𝓛 cursor refl full_share r (l 4) 0 spelled refl (lowered r)) $ move ! (2 ∷ 0 ∷ []) $
    use2 𝓛 (later (some (λ (p : Loan). ‵ (lent cursor (l 4) 0 (p.0 ∷ α) p.2 r) ⊛ ‵ (flft (p.0 ∷ α) p.1) ⊛ ‵ (flft α (Share.right qα)) ⊛ raw (KeptPlace 𝓛 cursor α qα (l 4) p)))) (lends_place 𝓛 cursor α qα (l 4) r) $ await ! tt $ pick ! (λ p'. split3 ! $ move ! (2 ∷ []) $ split ! $ move ! (2 ∷ 3 ∷ []) $
    let β : Lft = p'.0 ∷ α in let qβ : Share = p'.1 in let ε : GName = p'.2 in let inside : β ⊑ α = meet_⊑_right (p'.0 ∷ []) α in
    -- [the borrow; β; α; what is kept of the place; κ₂; κ₁; what follows; what is kept; the value]
    sets ! (addr ! (from ! (stop !))) refl (tt, tt) $
    let G₂ = triple_of 𝓛 (W.signature Y) (W.spec Y gc dc 𝓛 𝓜.mem 𝓡.returns) in
    let x₂ : MutBor Sort = record { ref_ptr = (l 4, 0); ghost_name = ε; now = r } in
    let z₂ : G₂.Ghost = (((β, (α, (κ₂, tt))), (qβ, (Share.right qα, (q₂, tt))), (inside, (⊑_trans β α κ₂ inside in₂, (in₂, tt))), (x₂, (count, (value, tt))), (mut_vals x₂, (vint w64 count ∷ [], (v ∷ [], tt)))), tt) in
    nothing ! $ move ! (9 ∷ 0 ∷ []) $ fjoin ! $ owned ! usize (Is usize) (uint_Makes 𝓛 w64) count (vint w64 count ∷ []) (refl, low_count) $ fjoin ! $ move ! (1 ∷ 0 ∷ []) $ fjoin ! $
    nothing ! $ move ! (5 ∷ 0 ∷ []) $ join ! $ move ! (3 ∷ 0 ∷ []) $ join ! $ move ! (2 ∷ 0 ∷ []) $ join ! $ join ! $
    nothing ! $ use0 𝓛 (raw (fact 𝓤 (κ₂ ⊑ Y.lives))) (fact_i 𝓤 (κ₂ ⊑ Y.lives) (emp 𝓤) inY) $ join ! $ move ! (1 ∷ 0 ∷ []) $ use2 𝓛 (raw (G₂.pre z₂)) (id⊢ 𝓤 _) $
    -- [what the call asks; what is kept of the place; κ₁; what follows; what is kept]
    calls_at ! fm G₂ (writing.met 𝓤 𝓛 𝓜 𝓡 (compiled.calls-imgref_examples::pixels::write_next 𝓡.env wired) Y LY CY gc dc bc) z₂ (and_then ! (get ! refl) (and_then ! (get ! refl) (and_then ! (get ! refl) (no_more !)))) (λ v₂.
    use1 𝓛 (later (some (λ (u : Unit {0}). ((‵ (flft β qβ) ⊛ ‵ (flft α (Share.right qα)) ⊛ ‵ (flft κ₂ q₂) ⊛ ‵ ftrue) ⊛ ‵ (unit.own_val u (v₂ ∷ []))) ⊛ some (λ (ws : Sort × (Unit {0} × (Unit {0} × Unit {0}))). ‵ (lasts (W.ended Y gc dc) z₂.0.0 z₂.0.3 ws) ⊛ ‵ (writes_first R count value r ws.0))))) (id⊢ 𝓤 _) $
    await ! tt $ pick ! (λ u. split ! $ split ! $ move ! (1 ∷ []) $ feq_l ! (λ is_unit. lands_as ! (ap only is_unit) refl (tt, tt) $
    move ! (1 ∷ []) $ pick ! (λ ws₂. let t : Sort = ws₂.0 in split ! $ fsplit ! $ fsplit ! $
    -- [the cursor's last value; its borrow; nothing; what it fills; the tokens; what is kept of the place; κ₁; what follows; what is kept]
    move ! (4 ∷ []) $ split3 ! $ join ! $
    -- [β and α; κ₂; the cursor's last value; its borrow; nothing; what it fills; what is kept of the place; κ₁; what follows; what is kept]
    move ! (0 ∷ 6 ∷ 2 ∷ []) $ use3 𝓛 (later (‵ (part_at cursor full_share t (l 4) 0) ⊛ ‵ (flft α qα))) (place_ends 𝓛 cursor α qα (l 4) p' t) $ await ! tt $ split ! $
    use1 𝓛 (some (λ (v₃ : Val). ‵ (fat full_share spelled (l 4) 0 v₃) ⊛ ‵ (cursor.own_val t (v₃ ∷ [])))) (part_out_at 𝓛 cursor refl full_share t (l 4) 0 spelled refl) $ pick ! (λ v₃. split ! $
    move ! (1 ∷ []) $ peeks ! cursor (Is cursor) (shows 𝓛 cursor) t (v₃ ∷ []) (λ is₃.
    let told₃ : v₃ ∷ [] ≡ lowered t ∷ [] = low.val_is t (v₃ ∷ []) is₃ in
    rewrite ! 0 (λ (us : List Val). ‵ (cursor.own_val t us)) told₃ refl $ move ! (1 ∷ []) $ rewrite ! 0 (λ (us : Val). ‵ (fat full_share spelled (l 4) 0 us)) (ap only told₃) refl $ give_at ! 4 $
    -- [the cursor; α; κ₂; its borrow; nothing; what it fills; κ₁; what follows; what is kept]
    sets ! (of_opd ! (unit_lit !)) refl (tt, tt) $ sets ! (of_opd ! (get ! refl)) refl (fit t (v₃ ∷ []) is₃) $
    let let_go : Dict = impl ("imgref_examples::Destruct++none::drop" ∷ []) (tcons (layout Y) tnil) dnil in
    let G₃ = triple_of 𝓛 (D.signature Y) (D.spec Y let_go 𝓛 𝓜.mem 𝓡.returns) in
    let z₃ : G₃.Ghost = (((α, (κ₂, tt)), (qα, (q₂, tt)), (in₂, tt), (t, tt), (lowered t ∷ [], tt)), tt) in
    nothing ! $ move ! (1 ∷ 0 ∷ []) $ fjoin ! $ move ! (1 ∷ 2 ∷ []) $ join ! $ join ! $
    nothing ! $ use0 𝓛 (raw (fact 𝓤 (κ₂ ⊑ Y.lives))) (fact_i 𝓤 (κ₂ ⊑ Y.lives) (emp 𝓤) inY) $ join ! $ move ! (1 ∷ 0 ∷ []) $ use2 𝓛 (raw (G₃.pre z₃)) (id⊢ 𝓤 _) $
    -- [what the call asks; the borrow of the cursor; nothing; what it fills; κ₁; what follows; what is kept]
    calls_at ! fm G₃ (dropping.met 𝓤 𝓛 𝓜 𝓡 (compiled.calls-image_pixels::pixels_mut::PixelsIterMut::drop 𝓡.env wired) Y LY let_go (glues "imgref_examples::Destruct++none::drop" 𝓡.env (compiled.calls-imgref_examples::Destruct++none::drop 𝓡.env wired) Y LY _ 𝓤 𝓛 𝓜 𝓡)) z₃ (and_then ! (get ! refl) (no_more !)) (λ v₄.
    use1 𝓛 (later (some (λ (u₃ : Unit {0}). ((‵ (flft α qα) ⊛ ‵ (flft κ₂ q₂) ⊛ ‵ ftrue) ⊛ ‵ (unit.own_val u₃ (v₄ ∷ []))) ⊛ some (λ (ws : Unit {0} × Unit {0}). ‵ (lasts (D.ended Y let_go) z₃.0.0 z₃.0.3 ws) ⊛ ‵ (fres (pixels_name t) ((coded_list R.coded).code (cells_left t))))))) (id⊢ 𝓤 _) $
    await ! tt $ pick ! (λ u₃. split ! $ split ! $ move ! (1 ∷ []) $ feq_l ! (λ was_unit. lands_as ! (ap only was_unit) refl (tt, tt) $
    move ! (1 ∷ []) $ pick ! (λ ws₃. split ! $ drop ! $ move ! (1 ∷ []) $ split3 ! $
    -- [α; κ₂; nothing; how the cells that are left end; the borrow of the cursor; nothing; what it fills; κ₁; what follows; what is kept]
    move ! (6 ∷ []) $ fpick ! (λ done. fsplit ! $ feq_l ! (λ all.
    -- [how the cells end; α; κ₂; nothing; how the cells that are left end; the borrow of the cursor; nothing; κ₁; what follows; what is kept]
    let A₀ : RattleType = Array R 0 in let zs : List Y.Denot = first_covered count (marks_left r) value (cells_left r) in
    move ! (0 ∷ 4 ∷ []) $ use2 𝓛 (‵ (fres (pixels_name r) (A₀.coded.code (done ++ cells_left t)))) (ends_said 𝓛 A₀ A₀ (pixels_name r) (pixels_name t) (λ ws. done ++ ws) (cells_left t)) $
    rewrite ! 0 (λ (ys : List Y.Denot). ‵ (fres (pixels_name r) (A₀.coded.code ys))) all refl $
    move ! (7 ∷ 0 ∷ []) $ use2 𝓛 (‵ (fres δ (Whole.coded.code (F zs)))) (followed 𝓛 Whole A₀ F δ (pixels_name r) zs) $
    -- [how the image ends; α; κ₂; nothing; the borrow of the cursor; nothing; κ₁; what is kept]
    move ! (1 ∷ 7 ∷ 0 ∷ []) $ use3 𝓛 (later (‵ (flft κ₀ q₀) ⊛ ‵ (lent Whole b o κ₀ γ (F zs)))) (ends 𝓛 Whole κ₀ q₀ b o γ x.now d₀ (F zs)) $ await ! tt $ split ! $
    returns ! (look_at ! 0 refl) $ free_all ! refl $
    -- [κ₀; the image; κ₂; nothing; the borrow of the cursor; nothing; κ₁]
    let Is_written : Type 0 = F zs ≡ F (first_covered count marked value old.cells) in
    use0 𝓛 (raw (fact 𝓤 Is_written)) (fact_i 𝓤 Is_written (emp 𝓤) (λ i. F (first_covered count (marked_is i) value (cells i)))) $
    feq_i ! (List Val) (vunit ∷ []) (vunit ∷ []) refl $ nothing ! $ nothing ! $ fjoin ! $ nothing ! $ fjoin ! $ move ! (4 ∷ 0 ∷ []) $ fjoin ! $
    nothing ! $ move ! (5 ∷ 0 ∷ []) $ join ! $ move ! (8 ∷ 0 ∷ []) $ join ! $ move ! (4 ∷ 0 ∷ []) $ join ! $
    -- [the tokens; the image; (); the ensures]
    keep ! (0 ∷ 1 ∷ 2 ∷ 3 ∷ []) $ by ! (leaves 𝓛 En hs c bound vunit tt (F zs, (tt, (tt, tt))) (tt, (tt, (tt, tt)))))))))))))))))))))))))))))
