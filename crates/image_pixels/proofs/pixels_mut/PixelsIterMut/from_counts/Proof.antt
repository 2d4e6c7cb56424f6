-- `from_counts` keeps the slice's own borrow. Assumes `Logic`.
use denote.Slice.{mut_slice_Tells}
use denote.Triple.Walked.{Goes-spent_slice}
use Rattle.std.proofs.Common.{◌≡◌, refl, ℕ, ◌+◌, ◌*◌, ◌<◌, ◌≤◌, ◌^◌, List, [], ◌∷◌, length, w64, MutBor}
use Rattle.borrow_laws.proofs.Walking.{Fn, a_type, named, inst_fn, Val, vint, emp, Lft, GName, Share, ftrue, flft, fobs, coded_list, fact, fact_i, tables, ‵, raw, ◌⊛◌, ◌$◌, ◌∵◌, !, qed, by, move, keep, drop, use0, split, split3, join, fsplit, fsplit3, fjoin, rewrite, enter, addr, from, fld, hop, stop, no_more, and_then, returns, whole, sub, agg, alloc_all, pass_all, free_all, look_at, look_in_at, get, sets, no, yes, RattleType, owns, usize, heres_id, param, layouts, uint_vals, uint_Tells, block_ptr, pure_l, pure_i, ◌⊑◌, plain, named_lft, mut_slice_of, types_at, room, slice_val, mut_slice_vals, nothing, heard, to, Stays, walk_of, stay_dropped, Goes-dropped, proved, leaves}
use Rattle.image_pixels.proofs.Cursors.{words}
use Rattle.image_pixels.proofs.Writing.{Data, made}
use Rattle.image_pixels.specs.Marks.{pick, marks}
use Rattle.image_pixels.specs.Pixels.{muts_left}
use Rattle.image_pixels.specs.contracts.pixels_mut.PixelsIterMut as P
use Rattle.image_pixels.specs.declared.pixels_mut.PixelsIterMut.{PixelsIterMut}
use Rattle.image_pixels.specs.contracts.pixels_mut.PixelsIterMut.from_counts as f
use Rattle.image_pixels.specs.contracts.pixels_mut.PixelsIterMut.from_counts.Key.{name as #self}
use Rattle.image_pixels.proofs.pixels_mut.PixelsIterMut.from_counts.Statement.{statement}
use Rattle.image_pixels.proofs.pixels_mut.PixelsIterMut.from_counts.Code as code

pub from_counts_spec : {M : Type 1} → statement M
unfolding muts_left
from_counts_spec 𝓤 𝓛 𝓜 𝓡 wired T' L =
    let R : RattleType = param 0 T' in let En = f.ended T' in let c = f.clauses T' 𝓛 𝓜.mem 𝓡.returns in let number = stay_dropped (plain (λ κs. usize)) yes in
    let hs : Stays En.signature.params En.kept = (stay_dropped (mut_slice_of (0 ∷ []) tt (plain (λ _. R))) no, (number, (number, (number, (number, tt))))) in
    let goes = Goes-dropped 𝓛 2 (plain (λ _. usize)) yes (λ κs x f. refl) in
    let inst = layouts (a_type ∷ []) (T', tt) in let fn : Fn = inst_fn inst code.function in let 𝓣 = tables 𝓤 𝓛.H 𝓜 𝓡 𝓡.env in let vals = uint_vals w64 in let tells = uint_Tells w64 in
    proved 𝓛 En hs c 𝓜 𝓡 (Goes-spent_slice 𝓛 2 (0 ∷ []) tt (plain (λ _. R)), (goes, (goes, (goes, (goes, tt))))) (#self inst) fn (code.unfolded 𝓤 𝓛.H 𝓜 𝓡 wired (T', tt))
    (λ κs. (mut_slice_vals, (vals, (vals, (vals, (vals, tt)))))) (λ κs. (mut_slice_Tells (named 0) κs.0 R, (tells, (tells, (tells, (tells, tt)))))) (λ κs qs bounds a g are.
    let κ₀ : Lft = κs.0 in let κ₁ : Lft = κs.1.0 in let q₀ : Share = qs.0 in let q₁ : Share = qs.1.0 in let α = named_lft 2 0 tt κs in let It : RattleType = P.the_row α R in
    let self : MutBor (List T'.Denot) = a.0 in let xs : List T'.Denot = self.now in let n : ℕ = length xs in let b : ℕ = self.ref_ptr.0 in let o : ℕ = self.ref_ptr.1 in let γ : GName = self.ghost_name in
    let remaining : ℕ = a.1.0 in let rows : ℕ = a.1.1.0 in let width : ℕ = a.1.1.1.0 in let pad : ℕ = a.1.1.1.1.0 in
    let fl : remaining < 2 ^ 64 = are.1.0.1 in let fr : rows < 2 ^ 64 = are.1.1.0.1 in let fw : width < 2 ^ 64 = are.1.1.1.0.1 in let fp : pad < 2 ^ 64 = are.1.1.1.1.0.1 in
    let W = walk_of 𝓛 En hs c in let y : W.Ghost = ((κs, qs, bounds, a, (mut_slice_vals self, (vals remaining, (vals rows, (vals width, (vals pad, tt)))))), g) in
    let Reaches : Type 0 = remaining + rows * (pad + width) ≤ n in let Wide : Type 0 = 0 < rows → 0 < width in
    qed 𝓛 (((‵ (flft κ₀ q₀) ⊛ ‵ (flft κ₁ q₁) ⊛ ‵ ftrue) ⊛ ‵ (owns (types_at En.signature.params κs) a y.0.4)) ∷ (raw (fact 𝓤 (κ₁ ⊑ T'.lives)) ⊛ raw (fact 𝓤 Reaches) ⊛ raw (fact 𝓤 Wide)) ∷ []) ∵
    move ! (1 ∷ []) $ split3 ! $ drop ! $ heard ! Reaches (λ reaches. heard ! Wide (λ wide. split ! $ move ! (1 ∷ []) $ fsplit ! $ fsplit3 ! $ fsplit ! $ drop ! $ pure_l ! (room R n) (λ rm.
    rewrite ! 0 (λ (zs : List T'.Denot). ‵ (fobs γ ((coded_list R.coded).code zs))) (heres_id R xs) refl $ keep ! (0 ∷ 1 ∷ 3 ∷ []) $
    let new : PixelsIterMut T'.Denot = record { current = block_ptr b o; remaining = remaining; rows_left = rows; width = width; pad = pad; marker = record {}; name = γ; lender = γ; cells = xs; reaches = reaches; wide = wide; small = rm.0 } in let word : Val = words b o remaining rows width pad in
    fjoin ! $ pure_i ! (room R n) (tt, tt) rm $ fjoin ! $ use0 𝓛 (‵ ((Data α R).own_val (to (P.the_type α R) new) (word ∷ []))) (made α R 𝓛 new b o refl fl fr fw fp) $ fjoin ! $
    -- [the cursor; the tokens]
    enter ! 𝓣.C 𝓣.Λ fn (slice_val (b, o) n ∷ vint w64 remaining ∷ vint w64 rows ∷ vint w64 width ∷ vint w64 pad ∷ []) (W.post y) $
    alloc_all ! (λ l. pass_all ! refl ((tt, (tt, (record { fits = rm.0 }, tt))), ((tt, record { fits = fl }), ((tt, record { fits = fr }), ((tt, record { fits = fw }), ((tt, record { fits = fp }), tt))))) $
    sets ! (addr ! (from ! (fld ! refl (hop ! (look_in_at ! 1 (sub ! 0 refl (whole !))) (stop !))))) refl (tt, tt) $
    sets ! (agg ! (no_more !)) refl (tt, tt) $
    sets ! (agg ! (and_then ! (get ! refl) (and_then ! (get ! refl) (and_then ! (get ! refl) (and_then ! (get ! refl) (and_then ! (get ! refl) (and_then ! (get ! refl) (no_more !)))))))) refl
    (tt, (tt, (record { fits = fl }, (record { fits = fr }, (record { fits = fw }, (record { fits = fp }, (tt, tt))))))) $
    returns ! (look_at ! 0 refl) $ free_all ! refl $
    let Name : Type 0 = γ ≡ γ in let Cells : Type 0 = xs ≡ xs in let Marks : Type 0 = marks remaining rows width pad ≡ marks remaining rows width pad in let Pixels : Type 0 = muts_left new ≡ pick (marks remaining rows width pad) xs in
    nothing ! $ nothing ! $ fjoin ! $ nothing ! $ fjoin ! $ nothing ! $ fjoin ! $ nothing ! $ fjoin ! $ nothing ! $ fjoin ! $
    use0 𝓛 (raw (fact 𝓤 Pixels)) (fact_i 𝓤 Pixels (emp 𝓤) refl) $ use0 𝓛 (raw (fact 𝓤 Marks)) (fact_i 𝓤 Marks (emp 𝓤) refl) $ join ! $ use0 𝓛 (raw (fact 𝓤 Cells)) (fact_i 𝓤 Cells (emp 𝓤) refl) $ join ! $ use0 𝓛 (raw (fact 𝓤 Name)) (fact_i 𝓤 Name (emp 𝓤) refl) $ join ! $
    move ! (3 ∷ 1 ∷ 2 ∷ 0 ∷ []) $ by ! (leaves 𝓛 En hs c y word new (tt, (tt, (tt, (tt, (tt, tt))))) (tt, (tt, (tt, (tt, (tt, tt)))))))))))
