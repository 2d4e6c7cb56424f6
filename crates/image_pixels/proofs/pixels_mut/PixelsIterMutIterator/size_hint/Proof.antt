-- `size_hint` reads the counts. Assumes `Logic`.
use types.Run.{look}
use denote.Builtin.{RefOf}
use denote.Ref.{shr_vals, shr_Tells}
use denote.Struct.Declared.{shape}
use Rattle.std.proofs.Common.{◌≡◌, refl, sym, ap, ◌∙◌, ℕ, ◌+◌, ◌*◌, ◌<◌, ◌≤◌, ◌^◌, arith, mul-le-mul_left, List, [], ◌∷◌, length, lit<, w64, Some, IfSome}
use Rattle.std.proofs.option.Made.{Some-of}
use Rattle.std.specs.contracts.option.Option as OP
use Rattle.std.specs.Iterator.{item_count, UpTo}
use Rattle.std.specs.Iterator.SizeHint.{IsWithinCount}
use Rattle.borrow_laws.proofs.Walking.{Fn, a_type, named, inst_fn, Val, vint, vptr, vstruct, vcons, vnil, of_list, emp, Lft, Share, ftrue, flft, live, fact, fact_i, tables, ‵, raw, ◌⊛◌, ◌$◌, ◌∵◌, !, qed, by, move, keep, drop, use0, use1, split, split3, join, fsplit, fjoin, fpack, feq_i, flt_i, enter, of_opd, lit, load, stop, fld, no_more, and_then, returns, agg, alloc_all, pass_all, free_all, look_at, get, through, sets, yes, usize, hidden_shr, param, layouts, RattleType, owns, Valss, plain, named_lft, types_at, nothing, within, tuple_type, Stays, walk_of, stay_dropped, Goes-dropped, proved, leaves, later, some, ◌⊛◌, triple_of, framed, owned, Is, uint_Makes, shows, use2, id⊢, calls_at, await, pick, lasts, heard, peeks, lands_as, only}
use Rattle.image_pixels.proofs.Marks.{length-pixels}
use Rattle.image_pixels.proofs.Writing.{shown}
use Rattle.image_pixels.proofs.Cursors.{word_in, word_out}
use Rattle.image_pixels.specs.Pixels.{muts_left}
use Rattle.image_pixels.specs.contracts.pixels_mut.PixelsIterMut as P
use Rattle.image_pixels.specs.declared.pixels_mut.PixelsIterMut.{PixelsIterMut}
use Rattle.image_pixels.specs.contracts.counts.pixels_left as counts
use Rattle.image_pixels.proofs.counts.pixels_left.Met as counting
use Rattle.image_pixels.specs.contracts.pixels_mut.PixelsIterMutIterator.size_hint as f
use Rattle.image_pixels.specs.contracts.pixels_mut.PixelsIterMutIterator.size_hint.Key.{name as #self}
use Rattle.image_pixels.proofs.pixels_mut.PixelsIterMutIterator.size_hint.Statement.{statement}
use Rattle.image_pixels.proofs.pixels_mut.PixelsIterMutIterator.size_hint.Code as code

pub size_hint_spec : {M : Type 1} → statement M
unfolding muts_left
size_hint_spec 𝓤 𝓛 𝓜 𝓡 wired T' L =
    let R : RattleType = param 0 T' in let En = f.ended T' in let c = f.clauses T' 𝓛 𝓜.mem 𝓡.returns in
    let slot = RefOf (0 ∷ []) tt (plain (λ κs. P.the_row (named_lft 3 1 tt κs) R)) (λ _. tt) in
    let hs : Stays En.signature.params En.kept = (stay_dropped slot yes, tt) in
    let inst = layouts (a_type ∷ []) (T', tt) in let fn : Fn = inst_fn inst code.function in let 𝓣 = tables 𝓤 𝓛.H 𝓜 𝓡 𝓡.env in
    proved 𝓛 En hs c 𝓜 𝓡 (Goes-dropped 𝓛 3 slot yes (λ κs x f. refl), tt) (#self inst) fn (code.unfolded 𝓤 𝓛.H 𝓜 𝓡 wired (T', tt))
    (λ κs. (shr_vals, tt)) (λ κs. (shr_Tells (named 0) κs.0 (P.the_row (named_lft 3 1 tt κs) R), tt)) (λ κs qs bounds a g are.
    let κ₀ : Lft = κs.0 in let κ₁ : Lft = κs.1.0 in let κ₂ : Lft = κs.1.1.0 in let q₀ : Share = qs.0 in let q₁ : Share = qs.1.0 in let q₂ : Share = qs.1.1.0 in let α = named_lft 3 1 tt κs in
    let b : ℕ = a.0.ref_ptr.0 in let o : ℕ = a.0.ref_ptr.1 in let h : PixelsIterMut T'.Denot = a.0.now in
    let W = walk_of 𝓛 En hs c in let y : W.Ghost = ((κs, qs, bounds, a, (shr_vals a.0, tt)), g) in
    qed 𝓛 (((‵ (flft κ₀ q₀) ⊛ ‵ (flft κ₁ q₁) ⊛ ‵ (flft κ₂ q₂) ⊛ ‵ ftrue) ⊛ ‵ (owns (types_at En.signature.params κs) a y.0.4)) ∷ raw ((c κs a).requires g) ∷ []) ∵
    split ! $ split ! $ move ! (2 ∷ []) $ fsplit ! $ fsplit ! $ drop ! $ use1 𝓛 (‵ (hidden_shr usize κ₀ h.remaining b (o + 8)) ⊛ ‵ (hidden_shr usize κ₀ h.rows_left b (o + 16)) ⊛ ‵ (hidden_shr usize κ₀ h.width b (o + 24))) (shown α R 𝓛 κ₀ h b o) $ split3 ! $
    -- [left; rows; width; nothing; the token; the others; the requires]
    keep ! (0 ∷ 4 ∷ 1 ∷ 2 ∷ 5 ∷ []) $
    enter ! 𝓣.C 𝓣.Λ fn (vptr b o ∷ []) (W.post y) $ alloc_all ! (λ l. pass_all ! refl ((tt, tt), tt) $
    word_in ! tt h.remaining b (o + 8) (λ q fl. sets ! (of_opd ! (load ! (through ! refl (fld ! refl (stop !))) (look ! 0 refl))) refl (tt, record { fits = fl }) $ word_out ! tt h.remaining b (o + 8) fl $ move ! (1 ∷ 0 ∷ []) $
    word_in ! tt h.rows_left b (o + 16) (λ q' fr. sets ! (of_opd ! (load ! (through ! refl (fld ! refl (stop !))) (look ! 0 refl))) refl (tt, record { fits = fr }) $ word_out ! tt h.rows_left b (o + 16) fr $ move ! (1 ∷ 0 ∷ []) $
    word_in ! tt h.width b (o + 24) (λ q'' fw. sets ! (of_opd ! (load ! (through ! refl (fld ! refl (stop !))) (look ! 0 refl))) refl (tt, record { fits = fw }) $ word_out ! tt h.width b (o + 24) fw $
    -- [the token; nothing; the others; the requires]
    let less : h.rows_left * h.width ≤ h.rows_left * (h.pad + h.width) = mul-le-mul_left h.rows_left (omega arith) in
    let fc : h.remaining + h.rows_left * h.width < 2 ^ 64 = omega (arith, h.small, h.reaches, less) in let Counts : Type 0 = h.remaining + h.rows_left * h.width < 2 ^ 64 in
    let GC = triple_of 𝓛 counts.signature (counts.spec 𝓛 𝓜.mem 𝓡.returns) in
    let zc : GC.Ghost = ((tt, tt, tt, (h.remaining, (h.rows_left, (h.width, tt))), (vint w64 h.remaining ∷ [], (vint w64 h.rows_left ∷ [], (vint w64 h.width ∷ [], tt)))), tt) in
    nothing ! $ owned ! usize (Is usize) (uint_Makes 𝓛 w64) h.width (vint w64 h.width ∷ []) (refl, fw) $ join ! $
    owned ! usize (Is usize) (uint_Makes 𝓛 w64) h.rows_left (vint w64 h.rows_left ∷ []) (refl, fr) $ join ! $
    owned ! usize (Is usize) (uint_Makes 𝓛 w64) h.remaining (vint w64 h.remaining ∷ []) (refl, fl) $ join ! $ nothing ! $ join ! $
    use0 𝓛 (raw (fact 𝓤 Counts)) (fact_i 𝓤 Counts (emp 𝓤) fc) $ move ! (1 ∷ 0 ∷ []) $ use2 𝓛 (raw (GC.pre zc)) (id⊢ 𝓤 _) $
    calls_at ! (framed 𝓤 𝓛.H 𝓜 𝓣) GC (counting.met 𝓤 𝓛 𝓜 𝓡 (code.calls-image_pixels::counts::pixels_left 𝓡.env wired)) zc (and_then ! (get ! refl) (and_then ! (get ! refl) (and_then ! (get ! refl) (no_more !)))) (λ v.
    use1 𝓛 (later (some (λ (k : ℕ). (‵ ftrue ⊛ ‵ (usize.own_val k (v ∷ []))) ⊛ some (λ (ws : Unit {0} × (Unit {0} × (Unit {0} × Unit {0}))). ‵ (lasts counts.ended zc.0.0 zc.0.3 ws) ⊛ raw (fact 𝓤 (k ≡ h.remaining + h.rows_left * h.width)))))) (id⊢ 𝓤 _) $
    await ! tt $ pick ! (λ n. split ! $ split ! $ drop ! $ move ! (1 ∷ []) $ pick ! (λ ws. split ! $ drop ! $ heard ! (n ≡ h.remaining + h.rows_left * h.width) (λ made.
    peeks ! usize (Is usize) (shows 𝓛 usize) n (v ∷ []) (λ isn. drop ! $ lands_as ! (ap only isn.0) refl (tt, record { fits = isn.1 }) $
    let is : length (muts_left h) ≡ n = length-pixels h.remaining h.rows_left h.width h.pad h.cells h.reaches ∙ sym made in
    let fn' : n < 2 ^ 64 = isn.1 in
    sets ! (agg ! (and_then ! (lit ! tt) (and_then ! (get ! refl) (no_more !)))) refl (tt, (record { fits = lit< tt }, (record { fits = fn' }, tt))) $
    sets ! (agg ! (and_then ! (get ! refl) (and_then ! (get ! refl) (no_more !)))) refl (tt, (record { fits = fn' }, ((record { fits = lit< tt }, (record { fits = fn' }, tt)), tt))) $
    returns ! (look_at ! 0 refl) $ free_all ! refl $
    let some : Val = live 1 (of_list (vint w64 n ∷ [])) in let both : Val = vstruct (vcons (vint w64 n) (vcons some vnil)) in let Two : List RattleType = usize ∷ OP.the_row usize ∷ [] in
    let Lower : Type 0 = IsWithinCount n (item_count muts_left h) in let Upper : Type 0 = IfSome (Some n) (UpTo (item_count muts_left h)) in
    let Exact : Type 0 = (n ≡ length (muts_left h)) × (Some n ≡ Some (length (muts_left h))) in
    join ! $ nothing ! $ nothing ! $ fjoin ! $
    nothing ! $ flt_i ! n (2 ^ 64) fn' $ feq_i ! (List Val) (vint w64 n ∷ []) (vint w64 n ∷ []) refl $ fjoin ! $ use1 𝓛 (‵ ((OP.the_row usize).own_val (Some n) (some ∷ []))) (Some-of 𝓛 usize n (vint w64 n)) $ fjoin ! $
    flt_i ! n (2 ^ 64) fn' $ feq_i ! (List Val) (vint w64 n ∷ []) (vint w64 n ∷ []) refl $ fjoin ! $ fjoin ! $
    feq_i ! (List Val) (both ∷ []) (both ∷ []) refl $ fjoin ! $ fpack ! (Valss Two) (within (shape (tuple_type Two)) (n, (Some n, tt)) (both ∷ [])) (vint w64 n ∷ [], (some ∷ [], tt)) $
    use0 𝓛 (raw (fact 𝓤 Exact)) (fact_i 𝓤 Exact (emp 𝓤) (sym is, ap (λ (k : ℕ). Some k) (sym is))) $ use0 𝓛 (raw (fact 𝓤 Upper)) (fact_i 𝓤 Upper (emp 𝓤) (tt, omega (arith, is))) $ join ! $
    use0 𝓛 (raw (fact 𝓤 Lower)) (fact_i 𝓤 Lower (emp 𝓤) (λ _. omega (arith, is))) $ join ! $
    -- [the clauses; the result; nothing; the tokens]
    move ! (3 ∷ 2 ∷ 1 ∷ 0 ∷ []) $ by ! (leaves 𝓛 En hs c y both (n, Some n) (tt, tt) (tt, tt))))))))))))
