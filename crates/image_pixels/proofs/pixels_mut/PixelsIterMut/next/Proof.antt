-- `next` gives the first pixel, and the cells that were lent follow it and those that are left. Assumes `Logic`.
use types.Run.{size_lit, well_typed}
use Rattle.std.proofs.Common.{◌≡◌, refl, sym, ap, ◌∙◌, true, false, ℕ, ◌+◌, ◌-◌, ◌*◌, ◌≤◌, ◌<◌, ◌^◌, arith, List, [], ◌∷◌, ◌++◌, length, lit<, MutBor, take, one-mul, mul-le-mul_right, eqb→eq, replicate, Some, None}
use Rattle.image_pixels.specs.Loans.{lent}
use Rattle.image_pixels.proofs.Cursors.{words, then_runs, then_arm}
use Rattle.image_pixels.proofs.Writing.{Data, made}
use Rattle.borrow_laws.proofs.Walking.{full_share, Fn, named, a_type, inst_fn, Val, vptr, of_list, SProp, emp, Lft, GName, Share, ftrue, fat, flft, fobs, fbor, fact, fact_i, tables, ‵, raw, ◌⊛◌, some, later, at_ret, Sq, ◌$◌, ◌∵◌, !, qed, by, move, keep, drop, use0, use1, split, split3, join, fsplit, fsplit3, fjoin, fjoin3, feq_i, pick, await, rewrite, group, enter, of_opd, lit, bin, addr, load, stop, fld, no_more, and_then, assigns, assigns_last, first, blocks, branches, skips, exec, returns, returns_within, whole, sub, look_in, store_in, agg, alloc_all, pass_all, free_all, look_at, get, through, sets, sets_last, env, forget_but, holding, RattleType, shows, Is, mem, cell_at, Ptr, block_ptr, in_a_block, pure_l, pure_i, room, both_by, id⊢, Ty, param, layouts, param_laws, MutRef, mut_vals, mut_Tells, plain, named_lft, nothing, opens, closes, peeks, Stays, walk_of, stay_ref, Goes-ref, proved, leaves, Wp, prop, post, Arr, Body, after₂, fauth, fobor, coded_list, at, at_mul, to, live}
use Rattle.borrow_laws.proofs.Tests.{one_at_least}
use Rattle.image_pixels.proofs.Marks.{marks_in_row, marks_new_row, parts, pick_past, skipped_in_row, times_one_less}
use Rattle.image_pixels.proofs.Writing.{Taken, takes}
use Rattle.image_pixels.specs.contracts.pixels_mut.PixelsIterMut as P
use Rattle.image_pixels.proofs.pixels_mut.PixelsIterMut.TheLaws as laws
use Rattle.image_pixels.specs.declared.pixels_mut.PixelsIterMut.{PixelsIterMut}
use Rattle.image_pixels.specs.contracts.pixels_mut.PixelsIterMut.next as f
use Rattle.image_pixels.specs.contracts.pixels_mut.PixelsIterMut.next.Key.{name as #self}
use Rattle.image_pixels.proofs.pixels_mut.PixelsIterMut.next.Statement.{statement}
use Rattle.image_pixels.proofs.pixels_mut.PixelsIterMut.next.Code as code
use mir.Raw.{raw as bare}
use Rattle.std.proofs.alloc.Shapes.{after, head}
use Rattle.image_pixels.specs.Pixels.{muts_left, Moves}
use Rattle.image_pixels.specs.Marks.{skipped}
use Rattle.image_pixels.specs.Marks.{pick as chosen, marks}
use Rattle.std.proofs.option.Made.{Some-of, none_of}
use Rattle.std.specs.contracts.option.Option as OP
use Rattle.std.specs.Iterator.{MakesProgress, item_count, YieldsFirstMut}
use Rattle.std.proofs.iter.Next.{firm}

abbrev stayed : (T : RattleType) → Stays (f.ended T).signature.params (f.ended T).kept
stayed T = (stay_ref (0 ∷ []) tt (plain (λ κs. P.the_row (named_lft 3 1 tt κs) (param 0 T))), tt)

pub next_spec : {M : Type 1} → statement M
unfolding muts_left both_by
next_spec 𝓤 𝓛 𝓜 𝓡 wired T' L =
    let R : RattleType = param 0 T' in let En = f.ended T' in let hs = stayed T' in let c = f.clauses T' 𝓛 𝓜.mem 𝓡.returns in
    let inst = layouts (a_type ∷ []) (T', tt) in let fn : Fn = inst_fn inst code.function in let 𝓣 = tables 𝓤 𝓛.H 𝓜 𝓡 𝓡.env in
    proved 𝓛 En hs c 𝓜 𝓡 (Goes-ref 𝓛 3 0 tt (plain (λ κs. P.the_row (named_lft 3 1 tt κs) R)), tt) (#self inst) fn (code.unfolded 𝓤 𝓛.H 𝓜 𝓡 wired (T', tt))
    (λ κs. (mut_vals, tt)) (λ κs. (mut_Tells (named 0) κs.0 (P.the_row (named_lft 3 1 tt κs) R), tt)) (λ κs qs bounds a g are.
    let κ₀ : Lft = κs.0 in let κ₁ : Lft = κs.1.0 in let κ₂ : Lft = κs.1.1.0 in let q₀ : Share = qs.0 in let q₁ : Share = qs.1.0 in let q₂ : Share = qs.1.1.0 in
    let α = named_lft 3 1 tt κs in let It : RattleType = P.the_row α R in
    let rb : ℕ = a.0.ref_ptr.0 in let ro : ℕ = a.0.ref_ptr.1 in let γ : GName = a.0.ghost_name in let h : PixelsIterMut T'.Denot = a.0.now in let vs = mut_vals a.0 in
    let W = walk_of 𝓛 En hs c in let y : W.Ghost = ((κs, qs, bounds, a, (vs, tt)), g) in let Post : Val → SProp 𝓤 = W.post y in
    let s : ℕ = (mem R).size in let n : ℕ = length h.cells in let δ : GName = h.name in
    qed 𝓛 (((‵ (flft κ₀ q₀) ⊛ ‵ (flft κ₁ q₁) ⊛ ‵ (flft κ₂ q₂) ⊛ ‵ ftrue) ⊛ ‵ ((MutRef (named 0) κ₀ It).own_val a.0 vs) ⊛ ‵ ftrue) ∷ raw ((c κs a).requires g) ∷ []) ∵
    move ! (1 ∷ []) $ drop ! $ split ! $ split ! $ move ! (2 ∷ []) $ split ! $ fsplit3 ! $ drop ! $ keep ! (0 ∷ 1 ∷ 3 ∷ 4 ∷ []) $
    enter ! 𝓣.C 𝓣.Λ fn vs Post $ alloc_all ! (λ l. pass_all ! refl ((tt, tt), tt) $
    let Ev = env fn.locals l in
    opens ! tt It {h = h} rb ro (λ us. move ! (1 ∷ []) $ peeks ! It (Is It) (shows 𝓛 It) h us (λ is. fsplit ! $ drop ! $
    -- [the heap; the cell; the open borrow; obs; auth; the tokens of 'a and of T]
    in_a_block ! h.current (λ p. lent κ₁ R δ h.cells p) (id⊢ 𝓤 _) (λ b o e. fsplit3 ! $ pure_l ! (room R n) (λ rm. move ! (2 ∷ []) $
    let written : Ty = (laws.lowers α R (param_laws 0 T' L)).mir in
    let word : us ≡ words b o h.remaining h.rows_left h.width h.pad ∷ [] = (laws.lowers α R (param_laws 0 T' L)).val_is h us is ∙ ap (λ (p : Ptr). laws.lowered α R (param_laws 0 T' L) (record h { current = p }) ∷ []) e in
    rewrite ! 0 (λ (ws : List Val). ‵ (cell_at full_share It.mir ws rb ro)) word refl $
    use1 𝓛 (‵ (fat full_share written rb ro (words b o h.remaining h.rows_left h.width h.pad))) (𝓛.laws.raw_at full_share written rb ro (words b o h.remaining h.rows_left h.width h.pad)) $
    well_typed ! (λ ok.
    let fl : h.remaining < 2 ^ 64 = ok.1.1.0.fits in let fr : h.rows_left < 2 ^ 64 = ok.1.1.1.0.fits in let fw : h.width < 2 ^ 64 = ok.1.1.1.1.0.fits in let fp : h.pad < 2 ^ 64 = ok.1.1.1.1.1.0.fits in
    -- [the cell; obs δ; its borrow; the open borrow; obs; auth; the tokens]
    let X : Type 0 = T'.Denot in let sk : ℕ = skipped h.remaining h.pad in let front : List X = take sk h.cells in
    let tail : (p remaining rows : ℕ) (x : X) (back : List X) → h.cells ≡ front ++ x ∷ back → at o s (length front) ≡ p → 1 ≤ remaining → remaining < 2 ^ 64 → rows < 2 ^ 64 → (remaining - 1) + rows * (h.pad + h.width) ≤ length back → (0 < rows → 0 < h.width)
    → muts_left h ≡ x ∷ chosen (marks (remaining - 1) rows h.width h.pad) back → length front ≡ sk → marks h.remaining h.rows_left h.width h.pad ≡ replicate sk false ++ true ∷ marks (remaining - 1) rows h.width h.pad → length back < n
    → Sq 𝓛 (‵ (fat full_share written rb ro (words b p remaining rows h.width h.pad)) ∷ ‵ (fobs δ ((coded_list R.coded).code h.cells)) ∷ ‵ (fbor κ₁ (Body (Arr (mem R) n) b o δ)) ∷ ‵ (fobor κ₀ q₀ (Body (mem It) rb ro γ)) ∷ ‵ (fobs γ (It.coded.code h)) ∷ ‵ (fauth γ (It.coded.code h))
    ∷ (‵ (flft κ₁ q₁) ⊛ ‵ (flft κ₂ q₂) ⊛ ‵ ftrue) ∷ holding 𝓛 Ev ((1, vptr rb ro) ∷ [])) (prop (Wp 𝓤 𝓛.H 𝓣.C 𝓣.Λ Ev (after 3 fn.body) (post 𝓤 𝓛.H (at_ret Ev Post)))) = λ p remaining rows x back cut at_p pos fl' fr' reaches' wide' px lf mk less.
    let one : 1 ≤ n = omega arith in let first' : 1 * s ≤ n * s = mul-le-mul_right s one in let once : 1 * s ≡ s = one-mul s in let below : length back * s ≤ n * s = mul-le-mul_right s (omega arith) in
    let fn' : n < 2 ^ 64 = rm.0 in let fit : n * s < 2 ^ 63 = rm.1 in
    let tiny : s < 2 ^ 64 = omega arith in let f₁ : 1 * s < 2 ^ 64 = omega arith in let fm : remaining - 1 < 2 ^ 64 = omega arith in
    let on : at o s (length front) + s ≡ 1 * s + p = omega (arith, at_p) in
    let r : GName → MutBor X = λ ν. record { ref_ptr = (b, p); ghost_name = ν; now = x } in
    let new : GName → PixelsIterMut X = λ ν. record { current = block_ptr b (1 * s + p); remaining = remaining - 1; rows_left = rows; width = h.width; pad = h.pad; marker = h.marker; name = ν; lender = h.lender; cells = back; reaches = reaches'; wide = wide'; small = omega (arith, less, rm.0) } in
    let shorter : length (chosen (marks (remaining - 1) rows h.width h.pad) back) < length (muts_left h) = omega (arith, ap length px) in
    exec ! 𝓣.C 𝓣.Λ Ev (after 3 fn.body) (at_ret Ev Post) $
    sets ! (of_opd ! (load ! (through ! refl (fld ! refl (stop !))) (look_in ! 0 (sub ! 0 refl (whole !))))) refl (tt, tt) $
    first ! $ blocks ! $ sets ! (of_opd ! (get ! refl)) refl (tt, tt) $
    sets ! (bin ! (lit ! tt) (size_lit ! (record { fits = tiny })) (record { fits = f₁ })) refl (tt, record { fits = f₁ }) $
    sets ! (bin ! (get ! refl) (get ! refl) tt) refl (tt, tt) $
    assigns_last ! (of_opd ! (get ! refl)) (through ! refl (fld ! refl (stop !))) (store_in ! 0 (sub ! 0 refl (whole !)) (tt, tt)) $
    exec ! 𝓣.C 𝓣.Λ Ev (after 5 fn.body) (at_ret Ev Post) $
    sets ! (of_opd ! (load ! (through ! refl (fld ! refl (stop !))) (look_in ! 0 (sub ! 1 refl (whole !))))) refl (tt, record { fits = fl' }) $
    sets ! (bin ! (get ! refl) (lit ! tt) pos) refl (tt, record { fits = fm }) $
    assigns ! (of_opd ! (get ! refl)) (through ! refl (fld ! refl (stop !))) (store_in ! 0 (sub ! 1 refl (whole !)) (tt, record { fits = fm })) $
    first ! $ blocks ! $ sets_last ! (addr ! (through ! refl (stop !))) refl (tt, tt) $
    exec ! 𝓣.C 𝓣.Λ Ev (after 9 fn.body) (at_ret Ev Post) $
    sets ! (of_opd ! (get ! refl)) refl (tt, tt) $
    sets ! (agg ! (and_then ! (lit ! tt) (and_then ! (get ! refl) (no_more !)))) refl (tt, (record { fits = lit< tt }, (tt, tt))) $
    use1 𝓛 (‵ (fat full_share (bare written) rb ro (words b (1 * s + p) (remaining - 1) rows h.width h.pad))) (𝓛.laws.at_raw full_share written rb ro (words b (1 * s + p) (remaining - 1) rows h.width h.pad)) $
    -- the pixel is cut out of the cells
    move ! (6 ∷ []) $ split ! $ move ! (3 ∷ 4 ∷ 0 ∷ []) $
    rewrite ! 0 (λ (zs : List X). ‵ (fobs δ ((coded_list R.coded).code zs))) cut refl $ rewrite ! 1 (λ (zs : List X). ‵ (fbor κ₁ (Body (Arr (mem R) (length zs)) b o δ))) cut refl $ group ! 3 $
    use1 𝓛 (later (some (λ (νs : GName × GName). raw (Taken 𝓛 R (named 1) κ₁ q₁ b o δ front x back νs)))) (takes 𝓛 R (named 1) κ₁ q₁ b o δ front x back) $ await ! tt $ pick ! (λ νs.
    use1 𝓛 (‵ ((MutRef (named 1) κ₁ R).own_val (record { ref_ptr = (b, at o s (length front)); ghost_name = νs.0; now = x }) (vptr b (at o s (length front)) ∷ [])) ⊛ (‵ (fobs νs.1 ((coded_list R.coded).code back)) ⊛ ‵ (fbor κ₁ (Body (Arr (mem R) (length back)) b (at o s (length front) + s) νs.1))) ⊛ ‵ (flft κ₁ q₁) ⊛ ‵ (after₂ (Arr (mem R) 0) (mem R) (Arr (mem R) 0) δ νs.0 νs.1 (λ w ws. front ++ w ∷ ws))) (id⊢ 𝓤 _) $ split3 ! $
    rewrite ! 0 (λ (k : ℕ). ‵ ((MutRef (named 1) κ₁ R).own_val (record { ref_ptr = (b, k); ghost_name = νs.0; now = x }) (vptr b k ∷ []))) at_p refl $ move ! (1 ∷ []) $ split ! $
    -- [obs; its borrow; the pixel; the token and what follows; the token of T; the cell; the open borrow; obs; auth]
    rewrite ! 1 (λ (k : ℕ). ‵ (fbor κ₁ (Body (Arr (mem R) (length back)) b k νs.1))) on refl $ fjoin ! $ pure_i ! (room R (length back)) (tt, tt) (omega arith, omega arith) $ fjoin ! $
    use0 𝓛 (‵ ((Data α R).own_val (to (P.the_type α R) (new νs.1)) (words b (1 * s + p) (remaining - 1) rows h.width h.pad ∷ []))) (made α R 𝓛 (new νs.1) b (1 * s + p) refl fm fr' fw fp) $ fjoin ! $
    move ! (4 ∷ 0 ∷ 5 ∷ 6 ∷ 7 ∷ []) $ closes ! tt It (new νs.1) (words b (1 * s + p) (remaining - 1) rows h.width h.pad ∷ []) rb ro $
    returns ! (look_at ! 0 refl) $ free_all ! refl $
    -- [obs; the borrow of self; its token; the pixel; the token of 'a and what follows; the token of T]
    move ! (4 ∷ []) $ split ! $ move ! (0 ∷ 6 ∷ []) $ join ! $ move ! (4 ∷ 0 ∷ []) $ join ! $
    move ! (2 ∷ 3 ∷ []) $ feq_i ! (List Val) (vptr rb ro ∷ []) (vptr rb ro ∷ []) refl $ fjoin3 ! $ nothing ! $ move ! (1 ∷ 0 ∷ []) $ fjoin ! $
    move ! (3 ∷ []) $ use1 𝓛 (‵ ((OP.the_row (MutRef (named 1) κ₁ R)).own_val (Some (r νs.0)) (live 1 (of_list (vptr b p ∷ [])) ∷ []))) (Some-of 𝓛 (MutRef (named 1) κ₁ R) (r νs.0) (vptr b p)) $
    let Goes : Type 0 = MakesProgress (λ _. Unit {0}) (item_count muts_left) h (Some (r νs.0)) (new νs.1) in let Steps : Type 0 = YieldsFirstMut muts_left h (Some (r νs.0)) (new νs.1) in let Moved : Type 0 = Moves h (Some (r νs.0)) (new νs.1) in
    move ! (3 ∷ []) $ use0 𝓛 (raw (fact 𝓤 Moved)) (fact_i 𝓤 Moved (emp 𝓤) (cut, lf, mk)) $ join ! $ use0 𝓛 (raw (fact 𝓤 Goes)) (fact_i 𝓤 Goes (emp 𝓤) (firm (tt, tt, shorter) (λ _. tt))) $ join ! $ use0 𝓛 (raw (fact 𝓤 Steps)) (fact_i 𝓤 Steps (emp 𝓤) px) $ join ! $
    move ! (3 ∷ 2 ∷ 1 ∷ 0 ∷ []) $ by ! (leaves 𝓛 En hs c y (live 1 (of_list (vptr b p ∷ []))) (Some (r νs.0)) (new νs.1, tt) (tt, tt)))
    in
    let m : ℕ = h.pad + h.width in let arm = then_arm (head (after 2 fn.body)) in let q = then_runs 𝓛 𝓣.C 𝓣.Λ Ev (after 3 fn.body) (at_ret Ev Post) in
    sets ! (of_opd ! (load ! (through ! refl (fld ! refl (stop !))) (look_in ! 0 (sub ! 1 refl (whole !))))) refl (tt, record { fits = fl }) $
    sets ! (bin ! (get ! refl) (lit ! tt) tt) refl (tt, tt) $
    first ! $ branches ! (get ! refl)
    (λ t. let z : h.remaining ≡ 0 = eqb→eq h.remaining 0 t in
    sets ! (of_opd ! (load ! (through ! refl (fld ! refl (stop !))) (look_in ! 0 (sub ! 2 refl (whole !))))) refl (tt, record { fits = fr }) $
    sets ! (bin ! (get ! refl) (lit ! tt) tt) refl (tt, tt) $
    first ! $ branches ! (get ! refl)
    (λ t'. let z' : h.rows_left ≡ 0 = eqb→eq h.rows_left 0 t' in
    sets ! (agg ! (and_then ! (lit ! tt) (no_more !))) refl (tt, (record { fits = lit< tt }, tt)) $
    let none : muts_left h ≡ [] = ap (λ (k : ℕ). chosen (marks k h.rows_left h.width h.pad) h.cells) z ∙ ap (λ (k : ℕ). chosen (marks 0 k h.width h.pad) h.cells) z' in
    let Ref : RattleType = MutRef (named 1) κ₁ R in let Steps : Type 0 = YieldsFirstMut muts_left h None h in let Goes : Type 0 = MakesProgress {A = MutBor X} (λ _. Unit {0}) (item_count muts_left) h None h in let Moved : Type 0 = Moves h None h in
    use1 𝓛 (‵ (fat full_share (bare written) rb ro (words b o h.remaining h.rows_left h.width h.pad))) (𝓛.laws.at_raw full_share written rb ro (words b o h.remaining h.rows_left h.width h.pad)) $
    move ! (1 ∷ 2 ∷ []) $ fjoin ! $ pure_i ! (room R n) (tt, tt) rm $ fjoin ! $ rewrite ! 0 (λ (p : Ptr). ‵ (lent κ₁ R δ h.cells p)) (sym e) refl $
    use0 𝓛 (‵ ((Data α R).own_val (to (P.the_type α R) h) (words b o h.remaining h.rows_left h.width h.pad ∷ []))) (made α R 𝓛 h b o e fl fr fw fp) $ fjoin ! $
    move ! (1 ∷ 0 ∷ 2 ∷ 3 ∷ 4 ∷ []) $ closes ! tt It h (words b o h.remaining h.rows_left h.width h.pad ∷ []) rb ro $
    returns_within ! Post refl (look_at ! 0 refl) $ free_all ! refl $
    move ! (2 ∷ 3 ∷ []) $ join ! $ move ! (1 ∷ 2 ∷ []) $ feq_i ! (List Val) (vptr rb ro ∷ []) (vptr rb ro ∷ []) refl $ fjoin3 ! $ nothing ! $ move ! (1 ∷ 0 ∷ []) $ fjoin ! $
    use0 𝓛 (‵ ((OP.the_row Ref).own_val None (live 0 (of_list []) ∷ []))) (none_of 𝓛 Ref) $
    nothing ! $ use0 𝓛 (raw (fact 𝓤 Moved)) (fact_i 𝓤 Moved (emp 𝓤) refl) $ join ! $ use0 𝓛 (raw (fact 𝓤 Goes)) (fact_i 𝓤 Goes (emp 𝓤) (firm tt (λ _. tt))) $ join ! $ use0 𝓛 (raw (fact 𝓤 Steps)) (fact_i 𝓤 Steps (emp 𝓤) (none, none)) $ join ! $
    move ! (3 ∷ 2 ∷ 1 ∷ 0 ∷ []) $ by ! (leaves 𝓛 En hs c y (live 0 (of_list [])) None (h, tt) (tt, tt)))
    (λ t'. let rows : 1 ≤ h.rows_left = one_at_least h.rows_left t' in let wide : 1 ≤ h.width = h.wide rows in
    let all : h.rows_left * m ≡ m + (h.rows_left - 1) * m = times_one_less h.rows_left m rows in
    let at_pad : sk ≡ h.pad = ap (λ (k : ℕ). skipped k h.pad) z in
    let long : sk < n = omega (arith, h.reaches, all, z, at_pad) in let cut = parts sk h.cells long in
    let fit : n * s < 2 ^ 63 = rm.1 in let some_s : h.pad * s ≤ n * s = mul-le-mul_right s (omega arith) in let one_s : 1 * s ≤ n * s = mul-le-mul_right s (omega arith) in
    let once : 1 * s ≡ s = one-mul s in let tiny : s < 2 ^ 64 = omega arith in let fps : h.pad * s < 2 ^ 64 = omega arith in
    skips ! $ exec ! 𝓣.C 𝓣.Λ Ev (after 3 arm) q $ first ! $ blocks ! $
    sets ! (of_opd ! (load ! (through ! refl (fld ! refl (stop !))) (look_in ! 0 (sub ! 0 refl (whole !))))) refl (tt, tt) $
    sets ! (of_opd ! (load ! (through ! refl (fld ! refl (stop !))) (look_in ! 0 (sub ! 4 refl (whole !))))) refl (tt, record { fits = fp }) $
    sets ! (bin ! (get ! refl) (size_lit ! (record { fits = tiny })) (record { fits = fps })) refl (tt, record { fits = fps }) $
    sets ! (bin ! (get ! refl) (get ! refl) tt) refl (tt, tt) $
    assigns_last ! (of_opd ! (get ! refl)) (through ! refl (fld ! refl (stop !))) (store_in ! 0 (sub ! 0 refl (whole !)) (tt, tt)) $
    exec ! 𝓣.C 𝓣.Λ Ev (after 4 arm) q $
    sets ! (of_opd ! (load ! (through ! refl (fld ! refl (stop !))) (look_in ! 0 (sub ! 2 refl (whole !))))) refl (tt, record { fits = fr }) $
    let fr' : h.rows_left - 1 < 2 ^ 64 = omega arith in
    sets ! (bin ! (get ! refl) (lit ! tt) rows) refl (tt, record { fits = fr' }) $
    assigns ! (of_opd ! (get ! refl)) (through ! refl (fld ! refl (stop !))) (store_in ! 0 (sub ! 2 refl (whole !)) (tt, record { fits = fr' })) $
    sets ! (of_opd ! (load ! (through ! refl (fld ! refl (stop !))) (look_in ! 0 (sub ! 3 refl (whole !))))) refl (tt, record { fits = fw }) $
    assigns_last ! (of_opd ! (get ! refl)) (through ! refl (fld ! refl (stop !))) (store_in ! 0 (sub ! 1 refl (whole !)) (tt, record { fits = fw })) $
    forget_but ! Ev (1 ∷ []) refl $
    let marked : marks h.remaining h.rows_left h.width h.pad ≡ replicate h.pad false ++ true ∷ marks (h.width - 1) (h.rows_left - 1) h.width h.pad = ap (λ (k : ℕ). marks k h.rows_left h.width h.pad) z ∙ marks_new_row h.rows_left h.width h.pad rows wide in
    tail (h.pad * s + o) h.width (h.rows_left - 1) cut.0 cut.1 cut.2 (at_mul o s (length front) ∙ ap (λ (k : ℕ). k * s + o) (cut.3 ∙ at_pad)) wide fw fr' (omega (arith, h.reaches, all, z, at_pad, cut.4)) (λ _. wide)
    (ap (λ ms. chosen ms h.cells) marked ∙ ap (λ zs. chosen (replicate h.pad false ++ true ∷ marks (h.width - 1) (h.rows_left - 1) h.width h.pad) zs) cut.2 ∙ pick_past h.pad (marks (h.width - 1) (h.rows_left - 1) h.width h.pad) front cut.0 cut.1 (cut.3 ∙ at_pad)) cut.3 (marked ∙ ap (λ (k : ℕ). replicate k false ++ true ∷ marks (h.width - 1) (h.rows_left - 1) h.width h.pad) (sym at_pad)) (omega (arith, cut.4))))
    (λ t. let pos : 1 ≤ h.remaining = one_at_least h.remaining t in let at_zero : sk ≡ 0 = skipped_in_row h.remaining h.pad pos in
    let long : sk < n = omega (arith, h.reaches, at_zero) in let cut = parts sk h.cells long in
    skips ! $ forget_but ! Ev (1 ∷ []) refl $
    tail o h.remaining h.rows_left cut.0 cut.1 cut.2 (ap (λ (k : ℕ). at o s k) (cut.3 ∙ at_zero)) pos fl fr (omega (arith, h.reaches, at_zero, cut.4)) h.wide
    (ap (λ ms. chosen ms h.cells) (marks_in_row h.remaining h.rows_left h.width h.pad pos) ∙ ap (λ zs. chosen (replicate 0 false ++ true ∷ marks (h.remaining - 1) h.rows_left h.width h.pad) zs) cut.2 ∙ pick_past 0 (marks (h.remaining - 1) h.rows_left h.width h.pad) front cut.0 cut.1 (cut.3 ∙ at_zero)) cut.3 (marks_in_row h.remaining h.rows_left h.width h.pad pos ∙ ap (λ (k : ℕ). replicate k false ++ true ∷ marks (h.remaining - 1) h.rows_left h.width h.pad) (sym at_zero)) (omega (arith, cut.4))))))))))
