-- `&mut self[start..start + len]` at a `&mut &mut [T]`: a stretch of the inner slice is lent, and the outer reference follows it. A walk of its MIR by hand.
use Rattle.std.proofs.Common.{◌≡◌, refl, sym, ap, subst, ◌∙◌, ℕ, ◌+◌, ◌-◌, ◌*◌, ◌^◌, ◌<◌, ◌≤◌, mul-le-mul_right, arith, List, [], ◌∷◌, ◌++◌, length, take, drop as drop_list, length-drop, w64, MutBor}
use Rattle.borrow_laws.proofs.Walking.{◌⊛◌, ◌$◌, ◌∵◌, ◌⊑◌, Ura, full_share, SProp, ent, Lft, GName, Share, ftrue, flft, fat, Fn, Ty, named, erased, mut, ty_ref, ty_param, inst_fn, Val, vint, vptr, Memory, size, Routine, Calls, Loops, WpFn, Logic, open_ref, close_ref, Item, ‵, raw, given, some, later, !, qed, by, move, keep, drop, split, split3, join, learn, fsplit, fsplit3, fjoin, fjoin3, feq_i, feq_l, flt_l, flt_i, rewrite, use1, use2, use3, await, pick, suffices, frame, done, whole, sub, look_in, agg, stop, fld, hop, load, addr, bin, of_opd, size_word, and_then, no_more, returns, enter, alloc_all, pass_all, free_all, look_at, get, get_in, through, is, sets, AllOutlive, Fun, tables, Array, usize, yes, no, follows, follows_then, mem, part_at, param, layout, uint_vals, uint_Tells, RattleType, owns, MutRef, at_last, mut_vals, mut_Tells, plain, mut_ref_to, mut_slice_of, MutSlice, Room, slice_ty, slice_val, mut_slice_vals, nothing, only, renamed, lends_inner_slice, Clauses, on_entry, says, Stays, stay_dropped, walk_of, ends_at, Goes-dropped, Goes-spent_ref, at, at_mul, length-take-le, part_out_at, part_in_at, proved}
use Rattle.borrow_laws.proofs.Bodies.{of_one}
use Rattle.borrow_laws.proofs.Stretches.{uncapped, cut_at, part_lent, lends_part}
use Rattle.imgref.specs.contracts.containers.RefMutSliceAsMutSlice.stretch_mut as F
use Rattle.imgref.specs.contracts.containers.RefMutSliceAsMutSlice.stretch_mut.Key.{name as #self}
use Rattle.imgref.proofs.containers.RefMutSliceAsMutSlice.stretch_mut.Statement as stated
use Rattle.imgref.proofs.containers.RefMutSliceAsMutSlice.stretch_mut.Code as code

-- ---- the function
module _ (X : RattleType) where
  abbrev function : Fn
  function = inst_fn (of_one X) code.function

  abbrev stayed : Stays (F.ended X).signature.params (F.ended X).kept
  stayed = (stay_dropped (mut_ref_to (0 ∷ []) tt (mut_slice_of (1 ∷ []) tt (plain (λ _. param 0 X)))) no, (stay_dropped (plain (λ _. usize)) yes, (stay_dropped (plain (λ _. usize)) yes, tt)))

module _ (X : RattleType) {M : Type 1} {𝓤 : Ura M} (𝓛 : Logic 𝓤) (at_mem : Memory → SProp 𝓤) (run : Routine → Fun 𝓤) where
  open 𝓛 use {H}

  abbrev clauses : Clauses 𝓤 (F.ended X)
  clauses = F.clauses X 𝓛 at_mem run

  module _ (C : Calls 𝓤 H) (Λ : Loops 𝓤 H) (κ κ' κT : Lft) (q q' qT : Share) (bd : AllOutlive 3 (F.ended X).signature.outlives (κ, (κ', (κT, tt)))) (b o : ℕ) (γ : GName) (y : MutBor (List (param 0 X).Denot)) (i n : ℕ) where
    abbrev Sl : RattleType
    Sl = MutSlice (named 1) κ' (param 0 X)

    abbrev self : MutBor (MutBor (List (param 0 X).Denot))
    self = record { ref_ptr = (b, o); ghost_name = γ; now = y }

    abbrev bound : (walk_of 𝓛 (F.ended X) (stayed X) clauses).Ghost
    bound = (((κ, (κ', (κT, tt))), (q, (q', (qT, tt))), bd, (self, (i, (n, tt))), (mut_vals self, (vint w64 i ∷ [], (vint w64 n ∷ [], tt)))), tt)

    abbrev Post : Val → SProp 𝓤
    Post = (walk_of 𝓛 (F.ended X) (stayed X) clauses).post bound

    abbrev xs : List (param 0 X).Denot
    xs = y.now

    walk : i < 2 ^ 64 → n < 2 ^ 64 → i + n ≤ length xs
        → ent 𝓤 (on_entry 𝓛 (F.ended X).signature (κ, (κ', (κT, tt))) (q, (q', (qT, tt))) (self, (i, (n, tt))) (mut_vals self, (vint w64 i ∷ [], (vint w64 n ∷ [], tt)))) (WpFn 𝓤 H C Λ (function X) (vptr b o ∷ vint w64 i ∷ vint w64 n ∷ []) Post)
    walk fi fn within =
        let s : ℕ = size (layout X) in
        let b' : ℕ = y.ref_ptr.0 in
        let o' : ℕ = y.ref_ptr.1 in
        let j : ℕ = i + n in
        let m : ℕ = j - i in
        let same : m ≡ n = omega arith in
        let p : ℕ = i * s + o' in
        let on : at o' s (length (take i xs)) ≡ p = at_mul o' s (length (take i xs)) ∙ ap (λ (k : ℕ). k * s + o') (length-take-le i xs (omega arith)) in
        let front : List X.Denot = take i xs in
        let mid : List X.Denot = take n (drop_list i xs) in
        let back : List X.Denot = drop_list j xs in
        let cut : xs ≡ front ++ (mid ++ back) = cut_at i n j xs refl in
        let left : length (drop_list i xs) ≡ length xs - i = length-drop i xs in
        let long : length mid ≡ n = length-take-le n (drop_list i xs) (omega arith) in
        let Inner : Ty = slice_ty (ty_ref erased mut (ty_param 0)) in
        let Whole : GName → Item 𝓤 = λ δ. ‵ ((MutSlice (named 0) κ (param 0 X)).own_val (renamed y δ) (mut_slice_vals y)) ⊛ ‵ (flft κ q) ⊛ ‵ (follows Sl (Array (param 0 X) 0) γ δ (at_last y)) in
        qed 𝓛 ((‵ (flft κ q) ⊛ ‵ (flft κ' q') ⊛ ‵ (flft κT qT) ⊛ ‵ ftrue) ∷ ‵ (owns (MutRef (named 0) κ Sl ∷ usize ∷ usize ∷ []) (self, (i, (n, tt))) (mut_vals self, (vint w64 i ∷ [], (vint w64 n ∷ [], tt)))) ∷ []) ∵
        enter ! C Λ (function X) (vptr b o ∷ vint w64 i ∷ vint w64 n ∷ []) _ $
        alloc_all ! (λ l. pass_all ! refl ((tt, tt), ((tt, record { fits = fi }), ((tt, record { fits = fn }), tt))) $
        split ! $ move ! (2 ∷ []) $ fsplit ! $ move ! (0 ∷ 2 ∷ []) $
        fsplit3 ! $ move ! (1 ∷ 2 ∷ 3 ∷ []) $ open_ref ! tt (mem Sl) {b = b} {o = o} $
        use1 𝓛 (some (λ (v : Val). ‵ (fat full_share Inner b o v) ⊛ ‵ (Sl.own_val y (v ∷ [])))) (part_out_at 𝓛 Sl refl full_share y b o Inner refl) $ pick ! (λ v. split ! $ move ! (1 ∷ []) $ fsplit3 ! $ fsplit3 ! $
        feq_l ! (λ e. flt_l ! (λ fits. flt_l ! (λ small.
        let bytes : i * s ≤ length xs * s = mul-le-mul_right s (omega arith) in
        let fs : i * s < 2 ^ 64 = omega arith in
        let fj : j < 2 ^ 64 = omega arith in
        let part : length mid * s ≤ length xs * s = mul-le-mul_right s (omega arith) in
        let room : Room (param 0 X) (length mid) = (omega arith, omega arith) in
        rewrite ! 2 (λ (w : Val). ‵ (fat full_share Inner b o w)) (ap only e) refl $
        -- [obs and borrow of the inner reference; its cell; the outer borrow, open; ..]
        sets ! (of_opd ! (load ! (through ! refl (fld ! refl (stop !))) (look_in ! 2 (sub ! 1 refl (whole !))))) refl (tt, record { fits = fits }) $
        sets ! (addr ! (through ! refl (fld ! refl (hop ! (look_in ! 2 (sub ! 0 refl (whole !))) (stop !))))) refl (tt, tt) $
        sets ! (agg ! (and_then ! (get ! refl) (and_then ! (get ! refl) (no_more !)))) refl (tt, (tt, (record { fits = fits }, tt))) $
        sets ! (bin ! (get ! refl) (get ! refl) (record { fits = fj })) refl (tt, record { fits = fj }) $
        sets ! (is ! (bin ! (get ! refl) (size_word !) (record { fits = subst (λ (k : ℕ). k < 2 ^ 64) (sym (uncapped i s fs)) fs })) (ap (vint w64) (uncapped i s fs))) refl (tt, record { fits = fs }) $
        sets ! (bin ! (get_in ! (fld ! refl (stop !)) (sub ! 0 refl (whole !))) (get ! refl) tt) refl (tt, tt) $
        sets ! (is ! (bin ! (get ! refl) (get ! refl) (omega arith)) (ap (vint w64) same)) refl (tt, record { fits = fn }) $
        sets ! (addr ! (through ! refl (stop !))) refl (tt, tt) $
        sets ! (agg ! (and_then ! (get ! refl) (and_then ! (get ! refl) (no_more !)))) refl (tt, (tt, (record { fits = fn }, tt))) $
        flt_i ! (length xs * (mem (param 0 X)).size) (2 ^ 63) small $ flt_i ! (length xs) (2 ^ 64) fits $ feq_i ! (List Val) (mut_slice_vals y) (mut_slice_vals y) refl $ fjoin3 ! $ fjoin3 ! $ move ! (1 ∷ 0 ∷ []) $
        use2 𝓛 (‵ (part_at Sl full_share y b o)) (part_in_at 𝓛 Sl refl full_share y b o Inner refl (slice_val y.ref_ptr (length xs))) $
        close_ref ! tt (mem Sl) y {b = b} {o = o} $
        use3 𝓛 (later (some Whole)) (lends_inner_slice 𝓛 (param 0 X) (named 0) (named 1) κ κ' self bd.0 (fits, small) q) $ await ! tt $ pick ! (λ δ₁. split3 ! $
        -- [the whole slice; the token; the outer follows it; ..]
        use2 𝓛 (later (some (part_lent 𝓛 (named 0) κ q b' o' δ₁ (param 0 X) xs front mid back cut p on room))) (lends_part 𝓛 (named 0) κ q b' o' δ₁ (param 0 X) xs front mid back cut p on room (mut_slice_vals y)) $ await ! tt $ pick ! (λ δ. split3 ! $
        -- [the stretch; the token; the whole follows it; the outer follows the whole; ..]
        move ! (3 ∷ 2 ∷ []) $ use2 𝓛 (‵ (follows Sl (Array (param 0 X) 0) γ δ (λ w. at_last y (front ++ (w ++ back))))) (follows_then 𝓛 Sl (Array (param 0 X) 0) (Array (param 0 X) 0) (at_last y) (λ w. front ++ (w ++ back)) γ δ₁ δ) $
        returns ! (look_at ! 0 refl) $ free_all ! refl $ keep ! (1 ∷ 2 ∷ 0 ∷ 5 ∷ []) $
        rewrite ! 0 (λ (k : ℕ). ‵ ((MutSlice (named 0) κ (param 0 X)).own_val (record { ref_ptr = (b', p); ghost_name = δ; now = mid }) (slice_val (b', p) k ∷ []))) long refl $
        suffices ! _ (ends_at 𝓛 (F.ended X) (stayed X) clauses bound (slice_val (b', p) n) (record { ref_ptr = (b', p); ghost_name = δ; now = mid }) (tt, (tt, (tt, tt))) (tt, (tt, (tt, tt)))) $
        nothing ! $ nothing ! $ fjoin ! $ nothing ! $ fjoin ! $ nothing ! $ fjoin ! $ join ! $ move ! (1 ∷ 3 ∷ []) $ join ! $ join ! $ frame ! $ says ! refl $ done !)))))))

pub stretch_mut_spec : {M : Type 1} → stated.statement M
stretch_mut_spec 𝓤 𝓛 𝓜 𝓡 wired X L =
    let 𝓣 = tables 𝓤 𝓛.H 𝓜 𝓡 𝓡.env in let number = Goes-dropped 𝓛 3 (plain (λ _. usize)) yes (λ κs x f. refl) in
    proved 𝓛 (F.ended X) (stayed X) (F.clauses X 𝓛 𝓜.mem 𝓡.returns) 𝓜 𝓡 (Goes-spent_ref 𝓛 3 (0 ∷ []) tt (mut_slice_of (1 ∷ []) tt (plain (λ _. param 0 X))), (number, (number, tt))) (#self (of_one X)) (function X) (code.unfolded 𝓤 𝓛.H 𝓜 𝓡 wired (X, tt))
    (λ κs. (mut_vals, (uint_vals w64, (uint_vals w64, tt)))) (λ κs. (mut_Tells (named 0) κs.0 (MutSlice (named 1) κs.1.0 (param 0 X)), (uint_Tells w64, (uint_Tells w64, tt)))) (λ κs qs bounds a g are.
    qed 𝓛 (raw (on_entry 𝓛 (F.ended X).signature κs qs a (mut_vals a.0, (vint w64 a.1.0 ∷ [], (vint w64 a.1.1.0 ∷ [], tt)))) ∷ (given (κs.1.1.0 ⊑ X.lives) (‵ ftrue) ⊛ given (a.1.0 + a.1.1.0 ≤ length a.0.now.now) (‵ ftrue)) ∷ []) ∵
    move ! (1 ∷ []) $ split ! $ drop ! $ learn ! (λ within. drop ! $
    by ! (walk X 𝓛 𝓜.mem 𝓡.returns 𝓣.C 𝓣.Λ κs.0 κs.1.0 κs.1.1.0 qs.0 qs.1.0 qs.1.1.0 bounds a.0.ref_ptr.0 a.0.ref_ptr.1 a.0.ghost_name a.0.now a.1.0 a.1.1.0 are.1.0.1 are.1.1.0.1 within)))
