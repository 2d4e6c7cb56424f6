-- `new` keeps what the slice sees. Assumes `Logic`.
use denote.Signature.{shr_slice_of}
use denote.Slice.{shr_slice_vals}
use Rattle.std.proofs.Common.{◌≡◌, refl, ℕ, List, [], ◌∷◌, length, Bor}
use Rattle.borrow_laws.proofs.Walking.{Fn, a_type, named, inst_fn, emp, Lft, Share, ftrue, flft, fact, fact_i, tables, ‵, raw, ◌⊛◌, ◌$◌, ◌∵◌, !, qed, by, move, keep, drop, use0, split, fsplit, fjoin, enter, addr, from, fld, hop, stop, no_more, and_then, returns, whole, sub, agg, alloc_all, pass_all, free_all, look_at, look_in_at, get, sets, yes, RattleType, owns, param, layouts, block_ptr, pure_l, pure_i, plain, named_lft, types_at, room, slice_val, shr_slice_Tells, nothing, to, Stays, walk_of, stay_dropped, Goes-dropped, proved, leaves}
use Rattle.image_pixels.proofs.Reading.{place}
use Rattle.image_pixels.proofs.Reading.{Data, made}
use Rattle.image_pixels.specs.contracts.cells.Cells as P
use Rattle.image_pixels.specs.declared.cells.Cells.{Cells}
use Rattle.image_pixels.specs.contracts.cells.Cells.new as f
use Rattle.image_pixels.specs.contracts.cells.Cells.new.Key.{name as #self}
use Rattle.image_pixels.proofs.cells.Cells.new.Statement.{statement}
use Rattle.image_pixels.proofs.cells.Cells.new.Code as code

pub new_spec : {M : Type 1} → statement M
new_spec 𝓤 𝓛 𝓜 𝓡 wired T' L =
    let R : RattleType = param 0 T' in let En = f.ended T' in let c = f.clauses T' 𝓛 𝓜.mem 𝓡.returns in
    let hs : Stays En.signature.params En.kept = (stay_dropped (shr_slice_of (0 ∷ []) tt (plain (λ _. R))) yes, tt) in
    let inst = layouts (a_type ∷ []) (T', tt) in let fn : Fn = inst_fn inst code.function in let 𝓣 = tables 𝓤 𝓛.H 𝓜 𝓡 𝓡.env in
    proved 𝓛 En hs c 𝓜 𝓡 (Goes-dropped 𝓛 2 (shr_slice_of (0 ∷ []) tt (plain (λ _. R))) yes (λ κs x f. refl), tt) (#self inst) fn (code.unfolded 𝓤 𝓛.H 𝓜 𝓡 wired (T', tt))
    (λ κs. (shr_slice_vals, tt)) (λ κs. (shr_slice_Tells (named 0) κs.0 R, tt)) (λ κs qs bounds a g are.
    let κ₀ : Lft = κs.0 in let κ₁ : Lft = κs.1.0 in let q₀ : Share = qs.0 in let q₁ : Share = qs.1.0 in let α = named_lft 2 0 tt κs in let It : RattleType = P.the_row α R in
    let self : Bor (List T'.Denot) = a.0 in let xs : List T'.Denot = self.now in let n : ℕ = length xs in let b : ℕ = self.ref_ptr.0 in let o : ℕ = self.ref_ptr.1 in
    let W = walk_of 𝓛 En hs c in let y : W.Ghost = ((κs, qs, bounds, a, (shr_slice_vals self, tt)), g) in
    qed 𝓛 (((‵ (flft κ₀ q₀) ⊛ ‵ (flft κ₁ q₁) ⊛ ‵ ftrue) ⊛ ‵ (owns (types_at En.signature.params κs) a y.0.4)) ∷ raw ((c κs a).requires g) ∷ []) ∵
    move ! (1 ∷ []) $ drop ! $ split ! $ move ! (1 ∷ []) $ fsplit ! $ fsplit ! $ fsplit ! $ drop ! $ pure_l ! (room R n) (λ rm. keep ! (0 ∷ 2 ∷ []) $
    let new : Cells T'.Denot = record { current = block_ptr b o; marker = record {}; cells = xs; small = rm.0 } in
    pure_i ! (room R n) (tt, tt) rm $ fjoin ! $ use0 𝓛 (‵ ((Data α R).own_val (to (P.the_type α R) new) (place b o ∷ []))) (made α R 𝓛 new b o refl) $ fjoin ! $
    -- [the cells; the tokens]
    enter ! 𝓣.C 𝓣.Λ fn (slice_val (b, o) n ∷ []) (W.post y) $
    alloc_all ! (λ l. pass_all ! refl ((tt, (tt, (record { fits = rm.0 }, tt))), tt) $
    sets ! (addr ! (from ! (fld ! refl (hop ! (look_in_at ! 1 (sub ! 0 refl (whole !))) (stop !))))) refl (tt, tt) $
    sets ! (agg ! (no_more !)) refl (tt, tt) $
    sets ! (agg ! (and_then ! (get ! refl) (and_then ! (get ! refl) (no_more !)))) refl (tt, (tt, (tt, tt))) $
    returns ! (look_at ! 0 refl) $ free_all ! refl $
    let All : Type 0 = xs ≡ xs in
    nothing ! $ nothing ! $ fjoin ! $ use0 𝓛 (raw (fact 𝓤 All)) (fact_i 𝓤 All (emp 𝓤) refl) $
    move ! (3 ∷ 1 ∷ 2 ∷ 0 ∷ []) $ by ! (leaves 𝓛 En hs c y (place b o) new (tt, tt) (tt, tt)))))
