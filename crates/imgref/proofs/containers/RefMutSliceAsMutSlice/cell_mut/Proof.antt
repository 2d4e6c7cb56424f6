-- `&mut self[start..end]` at a `&mut &mut [T]`: a stretch of the inner slice is lent, and the outer reference follows it. A walk of its MIR by hand.
use lib.ListN.{length-map}
use borrow.Rule.Slice.Handed.{takes_at, get_or_heres}
use borrow.Rule.Slice.AtParam.{inhabits}
use types.Hole.{here}
use denote.Slice.{heres}
use types.SemTy.{Body as Borrowed}
use Rattle.std.proofs.Common.{◌≡◌, refl, sym, ap, subst, ℕ, ◌+◌, ◌*◌, ◌^◌, ◌<◌, ◌≤◌, mul-le-mul_right, arith, List, [], ◌∷◌, length, slice_index_or as get_or, slice_set as set, w64, MutBor}
use Rattle.std.proofs.lemmas.Option.{slice_get-get_or}
use Rattle.borrow_laws.proofs.Walking.{◌⊛◌, ◌$◌, ◌∵◌, ◌⊑◌, after, Ura, full_share, SProp, ent, sep, ex, Lft, GName, Share, ftrue, flft, fobs, fbor, fat, Fn, Ty, Lifetime, named, erased, mut, ty_ref, ty_param, inst_fn, Val, vint, vptr, Memory, size, Routine, Calls, Loops, WpFn, Logic, sem, Arr, open_ref, close_ref, Item, ‵, raw, given, some, later, !, qed, by, move, keep, drop, split, split3, join, learn, fsplit, fsplit3, fjoin, fjoin3, feq_i, feq_l, flt_l, flt_i, rewrite, updating, use1, use2, use3, await, pick, now, show, suffices, frame, done, whole, sub, look_in, stop, fld, load, addr, bin, size_word, returns, enter, alloc_all, pass_all, free_all, look_at, get, through, is, sets, AllOutlive, Fun, tables, Array, usize, yes, no, follows, follows_then, heres_id, mem, part_at, param, layout, uint_vals, uint_Tells, RattleType, owns, MutRef, at_last, mut_vals, mut_Tells, plain, mut_ref_to, mut_slice_of, MutSlice, slice_ty, slice_val, mut_slice_vals, nothing, only, renamed, lends_inner_slice, Clauses, on_entry, says, Stays, stay_dropped, walk_of, ends_at, Goes-dropped, Goes-spent_ref, at, at_mul, part_out_at, part_in_at, proved}
use Rattle.borrow_laws.proofs.Bodies.{of_one}
use Rattle.borrow_laws.proofs.Stretches.{uncapped}
use Rattle.imgref.specs.contracts.containers.RefMutSliceAsMutSlice.cell_mut as F
use Rattle.imgref.specs.contracts.containers.RefMutSliceAsMutSlice.cell_mut.Key.{name as #self}
use Rattle.imgref.proofs.containers.RefMutSliceAsMutSlice.cell_mut.Statement as stated
use Rattle.imgref.proofs.containers.RefMutSliceAsMutSlice.cell_mut.Code as code

-- ---- the borrow of the element at i
module _ {M : Type 1} {𝓤 : Ura M} (𝓛 : Logic 𝓤) (ℓ : Lifetime) (κ : Lft) (q : Share) (b o : ℕ) (γ : GName) (R : RattleType) (xs : List R.Denot) (i : ℕ) (lt : i < length xs) (p : ℕ) (on : at o (mem R).size i ≡ p) where
  open 𝓛 use {H, A}

  abbrev el : R.Denot
  el = get_or xs i (inhabits xs i lt)

  abbrev cell_lent : GName → Item 𝓤
  cell_lent δ = ‵ ((MutRef ℓ κ R).own_val (record { ref_ptr = (b, p); ghost_name = δ; now = el }) (vptr b p ∷ [])) ⊛ ‵ (flft κ q) ⊛ ‵ (follows (Array R 0) R γ δ (set xs i))

  abbrev CellLent : GName → SProp 𝓤
  CellLent δ = sep 𝓤 (sem 𝓛 ((MutRef ℓ κ R).own_val (record { ref_ptr = (b, p); ghost_name = δ; now = el }) (vptr b p ∷ []))) (sep 𝓤 (A.lft κ q) (sem 𝓛 (follows (Array R 0) R γ δ (set xs i))))

  lends_cell : (vs : List Val)
      → ent 𝓤 (sep 𝓤 (sem 𝓛 ((MutSlice ℓ κ R).own_val (record { ref_ptr = (b, o); ghost_name = γ; now = xs }) vs)) (A.lft κ q)) (H.⇛ (ex 𝓤 CellLent))
  lends_cell vs = qed 𝓛 (‵ ((MutSlice ℓ κ R).own_val (record { ref_ptr = (b, o); ghost_name = γ; now = xs }) vs) ∷ ‵ (flft κ q) ∷ []) ∵ updating ! $ fsplit3 ! $ drop ! $
      use3 𝓛 (later (some (λ (δ : GName). ‵ (fobs δ (R.coded.code el)) ⊛ ‵ (fbor κ (Borrowed (mem R) b p δ)) ⊛ ‵ (flft κ q) ⊛ ‵ (after (Arr (mem R) (length xs)) (mem R) γ δ (set (heres R xs) i)))))
      (takes_at 𝓛 (mem R) κ (length xs) b o q γ (heres R xs) i p (here (mem R) (inhabits xs i lt)) el on (subst (λ (k : ℕ). i < k) (sym (length-map xs (here (mem R)))) lt) (get_or_heres (mem R) xs i (inhabits xs i lt))) $ await ! tt $ pick ! (λ δ. split3 ! $
      move ! (2 ∷ []) $ split ! $ rewrite ! 1 (λ (l : List R.Denot). ‵ (follows (Array R 0) R γ δ (set l i))) (heres_id R xs) refl $ move ! (2 ∷ 3 ∷ []) $
      feq_i ! (List Val) (vptr b p ∷ []) (vptr b p ∷ []) refl $ fjoin3 ! $ now ! $ show ! CellLent δ $ done !)

-- ---- the function
module _ (X : RattleType) where
  abbrev function : Fn
  function = inst_fn (of_one X) code.function

  abbrev stayed : Stays (F.ended X).signature.params (F.ended X).kept
  stayed = (stay_dropped (mut_ref_to (0 ∷ []) tt (mut_slice_of (1 ∷ []) tt (plain (λ _. param 0 X)))) no, (stay_dropped (plain (λ _. usize)) yes, tt))

module _ (X : RattleType) {M : Type 1} {𝓤 : Ura M} (𝓛 : Logic 𝓤) (at_mem : Memory → SProp 𝓤) (run : Routine → Fun 𝓤) where
  open 𝓛 use {H}

  abbrev clauses : Clauses 𝓤 (F.ended X)
  clauses = F.clauses X 𝓛 at_mem run

  module _ (C : Calls 𝓤 H) (Λ : Loops 𝓤 H) (κ κ' κT : Lft) (q q' qT : Share) (bd : AllOutlive 3 (F.ended X).signature.outlives (κ, (κ', (κT, tt)))) (b o : ℕ) (γ : GName) (y : MutBor (List (param 0 X).Denot)) (i : ℕ) where
    abbrev Sl : RattleType
    Sl = MutSlice (named 1) κ' (param 0 X)

    abbrev self : MutBor (MutBor (List (param 0 X).Denot))
    self = record { ref_ptr = (b, o); ghost_name = γ; now = y }

    abbrev bound : (walk_of 𝓛 (F.ended X) (stayed X) clauses).Ghost
    bound = (((κ, (κ', (κT, tt))), (q, (q', (qT, tt))), bd, (self, (i, tt)), (mut_vals self, (vint w64 i ∷ [], tt))), tt)

    abbrev Post : Val → SProp 𝓤
    Post = (walk_of 𝓛 (F.ended X) (stayed X) clauses).post bound

    abbrev xs : List (param 0 X).Denot
    xs = y.now

    walk : i < 2 ^ 64 → i < length xs
        → ent 𝓤 (on_entry 𝓛 (F.ended X).signature (κ, (κ', (κT, tt))) (q, (q', (qT, tt))) (self, (i, tt)) (mut_vals self, (vint w64 i ∷ [], tt))) (WpFn 𝓤 H C Λ (function X) (vptr b o ∷ vint w64 i ∷ []) Post)
    walk fi lo =
        let s : ℕ = size (layout X) in
        let b' : ℕ = y.ref_ptr.0 in
        let o' : ℕ = y.ref_ptr.1 in
        let p : ℕ = i * s + o' in
        let Inner : Ty = slice_ty (ty_ref erased mut (ty_param 0)) in
        let Whole : GName → Item 𝓤 = λ δ. ‵ ((MutSlice (named 0) κ (param 0 X)).own_val (renamed y δ) (mut_slice_vals y)) ⊛ ‵ (flft κ q) ⊛ ‵ (follows Sl (Array (param 0 X) 0) γ δ (at_last y)) in
        qed 𝓛 ((‵ (flft κ q) ⊛ ‵ (flft κ' q') ⊛ ‵ (flft κT qT) ⊛ ‵ ftrue) ∷ ‵ (owns (MutRef (named 0) κ Sl ∷ usize ∷ []) (self, (i, tt)) (mut_vals self, (vint w64 i ∷ [], tt))) ∷ []) ∵
        enter ! C Λ (function X) (vptr b o ∷ vint w64 i ∷ []) _ $
        alloc_all ! (λ l. pass_all ! refl ((tt, tt), ((tt, record { fits = fi }), tt)) $
        split ! $ move ! (2 ∷ []) $ fsplit ! $ move ! (0 ∷ 2 ∷ []) $
        fsplit3 ! $ move ! (1 ∷ 2 ∷ 3 ∷ []) $ open_ref ! tt (mem Sl) {b = b} {o = o} $
        use1 𝓛 (some (λ (v : Val). ‵ (fat full_share Inner b o v) ⊛ ‵ (Sl.own_val y (v ∷ [])))) (part_out_at 𝓛 Sl refl full_share y b o Inner refl) $ pick ! (λ v. split ! $ move ! (1 ∷ []) $ fsplit3 ! $ fsplit3 ! $
        feq_l ! (λ e. flt_l ! (λ fits. flt_l ! (λ small.
        rewrite ! 2 (λ (w : Val). ‵ (fat full_share Inner b o w)) (ap only e) refl $
        let bytes : i * s ≤ length xs * s = mul-le-mul_right s (omega arith) in
        let fs : i * s < 2 ^ 64 = omega arith in
        let on : at o' s i ≡ p = at_mul o' s i in
        sets ! (is ! (bin ! (get ! refl) (size_word !) (record { fits = subst (λ (k : ℕ). k < 2 ^ 64) (sym (uncapped i s fs)) fs })) (ap (vint w64) (uncapped i s fs))) refl (tt, record { fits = fs }) $
        sets ! (bin ! (load ! (through ! refl (fld ! refl (stop !))) (look_in ! 2 (sub ! 0 refl (whole !)))) (get ! refl) tt) refl (tt, tt) $
        sets ! (addr ! (through ! refl (stop !))) refl (tt, tt) $
        flt_i ! (length xs * (mem (param 0 X)).size) (2 ^ 63) small $ flt_i ! (length xs) (2 ^ 64) fits $ feq_i ! (List Val) (mut_slice_vals y) (mut_slice_vals y) refl $ fjoin3 ! $ fjoin3 ! $ move ! (1 ∷ 0 ∷ []) $
        use2 𝓛 (‵ (part_at Sl full_share y b o)) (part_in_at 𝓛 Sl refl full_share y b o Inner refl (slice_val y.ref_ptr (length xs))) $
        close_ref ! tt (mem Sl) y {b = b} {o = o} $
        use3 𝓛 (later (some Whole)) (lends_inner_slice 𝓛 (param 0 X) (named 0) (named 1) κ κ' self bd.0 (fits, small) q) $ await ! tt $ pick ! (λ δ₁. split3 ! $
        use2 𝓛 (later (some (cell_lent 𝓛 (named 0) κ q b' o' δ₁ (param 0 X) xs i lo p on))) (lends_cell 𝓛 (named 0) κ q b' o' δ₁ (param 0 X) xs i lo p on (mut_slice_vals y)) $ await ! tt $ pick ! (λ δ. split3 ! $
        move ! (3 ∷ 2 ∷ []) $ use2 𝓛 (‵ (follows Sl (param 0 X) γ δ (λ w. at_last y (set xs i w)))) (follows_then 𝓛 Sl (Array (param 0 X) 0) (param 0 X) (at_last y) (set xs i) γ δ₁ δ) $
        returns ! (look_at ! 0 refl) $ free_all ! refl $ keep ! (1 ∷ 2 ∷ 0 ∷ 5 ∷ []) $
        suffices ! _ (ends_at 𝓛 (F.ended X) (stayed X) clauses bound (vptr b' p) (record { ref_ptr = (b', p); ghost_name = δ; now = get_or xs i (inhabits xs i lo) }) (tt, (tt, tt)) (tt, (tt, tt))) $
        nothing ! $ nothing ! $ fjoin ! $ nothing ! $ fjoin ! $ join ! $ move ! (1 ∷ 3 ∷ []) $ join ! $ join ! $ frame ! $ says ! (slice_get-get_or xs i (inhabits xs i lo) lo) $ done !)))))))

pub cell_mut_spec : {M : Type 1} → stated.statement M
cell_mut_spec 𝓤 𝓛 𝓜 𝓡 wired X L =
    let 𝓣 = tables 𝓤 𝓛.H 𝓜 𝓡 𝓡.env in let number = Goes-dropped 𝓛 3 (plain (λ _. usize)) yes (λ κs x f. refl) in
    proved 𝓛 (F.ended X) (stayed X) (F.clauses X 𝓛 𝓜.mem 𝓡.returns) 𝓜 𝓡 (Goes-spent_ref 𝓛 3 (0 ∷ []) tt (mut_slice_of (1 ∷ []) tt (plain (λ _. param 0 X))), (number, tt)) (#self (of_one X)) (function X) (code.unfolded 𝓤 𝓛.H 𝓜 𝓡 wired (X, tt))
    (λ κs. (mut_vals, (uint_vals w64, tt))) (λ κs. (mut_Tells (named 0) κs.0 (MutSlice (named 1) κs.1.0 (param 0 X)), (uint_Tells w64, tt))) (λ κs qs bounds a g are.
    qed 𝓛 (raw (on_entry 𝓛 (F.ended X).signature κs qs a (mut_vals a.0, (vint w64 a.1.0 ∷ [], tt))) ∷ (given (κs.1.1.0 ⊑ X.lives) (‵ ftrue) ⊛ given (a.1.0 < length a.0.now.now) (‵ ftrue)) ∷ []) ∵
    move ! (1 ∷ []) $ split ! $ drop ! $ learn ! (λ lo. drop ! $
    by ! (walk X 𝓛 𝓜.mem 𝓡.returns 𝓣.C 𝓣.Λ κs.0 κs.1.0 κs.1.1.0 qs.0 qs.1.0 qs.1.1.0 bounds a.0.ref_ptr.0 a.0.ref_ptr.1 a.0.ghost_name a.0.now a.1.0 are.1.0.1 lo)))
