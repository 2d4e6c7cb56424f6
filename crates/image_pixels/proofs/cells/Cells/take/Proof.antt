-- `take` shows the first cells. Assumes `Logic`.
use mir.Raw.{raw as bare}
use denote.Memory.{shared_of}
use denote.Opens.{hide}
use denote.Slice.{shr_slice_at, elements_shared}
use Rattle.std.proofs.Common.{◌≡◌, refl, sym, ap, subst, ◌∙◌, ℕ, ◌+◌, ◌-◌, ◌*◌, ◌≤◌, ◌<◌, ◌^◌, arith, mul-le-mul_right, List, [], ◌∷◌, length, take, drop as drop_list, take-append-drop, length-drop, w64, Bor}
use Rattle.std.proofs.alloc.Shapes.{after}
use Rattle.borrow_laws.proofs.Walking.{full_share, Fn, Ty, named, a_type, inst_fn, Val, vint, vptr, SProp, emp, id⊢, Lft, GName, Share, ftrue, fat, flft, fhide, ◌⊑◌, fact, fact_i, tables, ‵, raw, ◌⊛◌, at_ret, ◌$◌, ◌∵◌, !, qed, by, move, keep, drop, use0, use1, split, join, fsplit, fsplit3, fjoin, fjoin3, feq_i, rewrite, enter, of_opd, bin, load, stop, fld, no_more, and_then, assigns, first, blocks, exec, returns, size_word, whole, sub, look_in, store_in, agg, alloc_all, pass_all, free_all, look_at, get, through, sets, sets_last, is, env, usize, yes, RattleType, owns, shows, Is, mem, cell_at, unhide, param, layouts, param_laws, uint_vals, uint_Tells, Ptr, block_ptr, in_a_block, mut_vals, mut_Tells, pure_l, pure_i, plain, named_lft, types_at, room, slice_val, nothing, heard, opens, closes, peeks, to, Stays, walk_of, stay_ref, stay_dropped, Goes-ref, Goes-dropped, at, at_mul, length-take-le, proved, leaves}
use Rattle.borrow_laws.proofs.Stretches.{uncapped}
use Rattle.image_pixels.specs.Loans.{seen}
use Rattle.image_pixels.proofs.Reading.{Data, made, parts, place}
use Rattle.image_pixels.specs.contracts.cells.Cells as P
use Rattle.image_pixels.proofs.cells.Cells.TheLaws as laws
use Rattle.image_pixels.specs.declared.cells.Cells.{Cells}
use Rattle.image_pixels.specs.contracts.cells.Cells.take as f
use Rattle.image_pixels.specs.contracts.cells.Cells.take.Key.{name as #self}
use Rattle.image_pixels.proofs.cells.Cells.take.Statement.{statement}
use Rattle.image_pixels.proofs.cells.Cells.take.Code as code

abbrev stayed : (T : RattleType) → Stays (f.ended T).signature.params (f.ended T).kept
stayed T = (stay_ref (0 ∷ []) tt (plain (λ κs. P.the_row (named_lft 3 1 tt κs) (param 0 T))), (stay_dropped (plain (λ _. usize)) yes, tt))

pub take_spec : {M : Type 1} → statement M
take_spec 𝓤 𝓛 𝓜 𝓡 wired T' L =
    let R : RattleType = param 0 T' in let En = f.ended T' in let hs = stayed T' in let c = f.clauses T' 𝓛 𝓜.mem 𝓡.returns in
    let inst = layouts (a_type ∷ []) (T', tt) in let fn : Fn = inst_fn inst code.function in let 𝓣 = tables 𝓤 𝓛.H 𝓜 𝓡 𝓡.env in
    proved 𝓛 En hs c 𝓜 𝓡 (Goes-ref 𝓛 3 0 tt (plain (λ κs. P.the_row (named_lft 3 1 tt κs) R)), (Goes-dropped 𝓛 3 (plain (λ _. usize)) yes (λ κs x f. refl), tt)) (#self inst) fn (code.unfolded 𝓤 𝓛.H 𝓜 𝓡 wired (T', tt))
    (λ κs. (mut_vals, (uint_vals w64, tt))) (λ κs. (mut_Tells (named 0) κs.0 (P.the_row (named_lft 3 1 tt κs) R), (uint_Tells w64, tt))) (λ κs qs bounds a g are.
    let κ₀ : Lft = κs.0 in let κ₁ : Lft = κs.1.0 in let κ₂ : Lft = κs.1.1.0 in let q₀ : Share = qs.0 in let q₁ : Share = qs.1.0 in let q₂ : Share = qs.1.1.0 in
    let α = named_lft 3 1 tt κs in let It : RattleType = P.the_row α R in
    let rb : ℕ = a.0.ref_ptr.0 in let ro : ℕ = a.0.ref_ptr.1 in let γ : GName = a.0.ghost_name in let h : Cells T'.Denot = a.0.now in
    let k : ℕ = a.1.0 in let fk : k < 2 ^ 64 = are.1.0.1 in
    let W = walk_of 𝓛 En hs c in let y : W.Ghost = ((κs, qs, bounds, a, (mut_vals a.0, (uint_vals w64 k, tt))), g) in let Post : Val → SProp 𝓤 = W.post y in
    let X : Type 0 = T'.Denot in let s : ℕ = (mem R).size in let n : ℕ = length h.cells in let Within : Type 0 = k ≤ n in
    qed 𝓛 (((‵ (flft κ₀ q₀) ⊛ ‵ (flft κ₁ q₁) ⊛ ‵ (flft κ₂ q₂) ⊛ ‵ ftrue) ⊛ ‵ (owns (types_at En.signature.params κs) a y.0.4)) ∷ (raw (fact 𝓤 (κ₂ ⊑ T'.lives)) ⊛ raw (fact 𝓤 Within)) ∷ []) ∵
    move ! (1 ∷ []) $ split ! $ drop ! $ heard ! Within (λ within. split ! $ split ! $ move ! (2 ∷ []) $ fsplit ! $ fsplit3 ! $ drop ! $ keep ! (0 ∷ 1 ∷ 3 ∷ 4 ∷ []) $
    enter ! 𝓣.C 𝓣.Λ fn (vptr rb ro ∷ vint w64 k ∷ []) Post $ alloc_all ! (λ l. pass_all ! refl ((tt, tt), ((tt, record { fits = fk }), tt)) $
    let Ev = env fn.locals l in
    opens ! tt It {h = h} rb ro (λ us. move ! (1 ∷ []) $ peeks ! It (Is It) (shows 𝓛 It) h us (λ seen_as. fsplit ! $ drop ! $
    -- [the heap; the cell; the open borrow; obs; auth; the tokens of 'a and of T]
    in_a_block ! h.current (λ p. seen κ₁ R h.cells p) (id⊢ 𝓤 _) (λ b o e. fsplit ! $ pure_l ! (room R n) (λ rm. move ! (1 ∷ []) $
    let written : Ty = (laws.lowers α R (param_laws 0 T' L)).mir in
    let word : us ≡ place b o ∷ [] = (laws.lowers α R (param_laws 0 T' L)).val_is h us seen_as ∙ ap (λ (p : Ptr). laws.lowered α R (param_laws 0 T' L) (record h { current = p }) ∷ []) e in
    rewrite ! 0 (λ (ws : List Val). ‵ (cell_at full_share It.mir ws rb ro)) word refl $
    use1 𝓛 (‵ (fat full_share written rb ro (place b o))) (𝓛.laws.raw_at full_share written rb ro (place b o)) $
    -- [the cell; what is seen; the open borrow; obs; auth; the tokens]
    let front : List X = take k h.cells in let back : List X = drop_list k h.cells in
    let is_front : length front ≡ k = length-take-le k h.cells within in let is_back : length back ≡ n - k = length-drop k h.cells in
    let fit : n * s < 2 ^ 63 = rm.1 in let fn' : n < 2 ^ 64 = rm.0 in
    let less : k * s ≤ n * s = mul-le-mul_right s within in let rest : length back * s ≤ n * s = mul-le-mul_right s (omega arith) in
    let fks : k * s < 2 ^ 64 = omega arith in let taken : length front * s < 2 ^ 63 = rw is_front (omega (arith, less, fit)) in
    let on : at o s (length front) ≡ k * s + o = at_mul o s (length front) ∙ ap (λ (j : ℕ). j * s + o) is_front in
    let r : Bor (List X) = record { ref_ptr = (b, o); now = front } in
    let new : Cells X = record { current = block_ptr b (k * s + o); marker = h.marker; cells = back; small = omega (arith, fn', is_back) } in
    sets ! (of_opd ! (load ! (through ! refl (fld ! refl (stop !))) (look_in ! 0 (sub ! 0 refl (whole !))))) refl (tt, tt) $
    first ! $ blocks ! $ sets ! (is ! (bin ! (get ! refl) (size_word !) (record { fits = subst (λ (j : ℕ). j < 2 ^ 64) (sym (uncapped k s fks)) fks })) (ap (vint w64) (uncapped k s fks))) refl (tt, record { fits = fks }) $
    sets_last ! (bin ! (get ! refl) (get ! refl) tt) refl (tt, tt) $
    exec ! 𝓣.C 𝓣.Λ Ev (after 2 fn.body) (at_ret Ev Post) $
    assigns ! (of_opd ! (get ! refl)) (through ! refl (fld ! refl (stop !))) (store_in ! 0 (sub ! 0 refl (whole !)) (tt, tt)) $
    first ! $ blocks ! $ sets_last ! (agg ! (and_then ! (get ! refl) (and_then ! (get ! refl) (no_more !)))) refl (tt, (tt, (record { fits = fk }, tt))) $
    exec ! 𝓣.C 𝓣.Λ Ev (after 4 fn.body) (at_ret Ev Post) $
    sets ! (of_opd ! (get ! refl)) refl (tt, (tt, (record { fits = fk }, tt))) $
    use1 𝓛 (‵ (fat full_share (bare written) rb ro (place b (k * s + o)))) (𝓛.laws.at_raw full_share written rb ro (place b (k * s + o))) $
    -- the first cells are seen beside those after them
    move ! (1 ∷ []) $ rewrite ! 0 (λ (zs : List X). ‵ (fhide (elements_shared R zs b o κ₁))) (sym (take-append-drop k h.cells)) refl $ unhide ! $
    use1 𝓛 (‵ (elements_shared R front b o κ₁) ⊛ ‵ (elements_shared R back b (at o s (length front)) κ₁)) (parts 𝓛 (shared_of R) s b κ₁ back front o) $ split ! $
    hide ! $ pure_i ! (shr_slice_at R r (slice_val (b, o) k ∷ [])) (tt, (tt, tt)) (ap (λ (j : ℕ). slice_val (b, o) j ∷ []) (sym is_front), (omega (arith, is_front), taken)) $ fjoin ! $ move ! (1 ∷ []) $
    rewrite ! 0 (λ (j : ℕ). ‵ (elements_shared R back b j κ₁)) on refl $ hide ! $ pure_i ! (room R (length back)) (tt, tt) (omega (arith, is_back), omega (arith, rest)) $ fjoin ! $
    use0 𝓛 (‵ ((Data α R).own_val (to (P.the_type α R) new) (place b (k * s + o) ∷ []))) (made α R 𝓛 new b (k * s + o) refl) $ fjoin ! $
    -- [the cells; the slice; the cell; the open borrow; obs; auth; the tokens]
    move ! (2 ∷ 0 ∷ 3 ∷ 4 ∷ 5 ∷ []) $ closes ! tt It new (place b (k * s + o) ∷ []) rb ro $
    returns ! (look_at ! 0 refl) $ free_all ! refl $
    -- [obs; the borrow of self; its token; the slice; the tokens of 'a and of T]
    move ! (2 ∷ 4 ∷ []) $ join ! $ move ! (1 ∷ 2 ∷ []) $ feq_i ! (List Val) (vptr rb ro ∷ []) (vptr rb ro ∷ []) refl $ fjoin3 ! $ nothing ! $ nothing ! $ fjoin ! $ move ! (1 ∷ 0 ∷ []) $ fjoin ! $
    let Taken : Type 0 = front ≡ front in let Left : Type 0 = back ≡ back in
    use0 𝓛 (raw (fact 𝓤 Left)) (fact_i 𝓤 Left (emp 𝓤) refl) $ use0 𝓛 (raw (fact 𝓤 Taken)) (fact_i 𝓤 Taken (emp 𝓤) refl) $ join ! $
    -- [the clauses; the cells' reference; the tokens; the slice]
    move ! (2 ∷ 1 ∷ 3 ∷ 0 ∷ []) $ by ! (leaves 𝓛 En hs c y (slice_val (b, o) k) r (new, (tt, tt)) (tt, (tt, tt))))))))))
