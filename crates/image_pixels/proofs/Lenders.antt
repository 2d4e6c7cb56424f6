-- A cursor goes on under a name of a whole that has its cells: whatever the whole's final value is, the final cells are those that it has. Assumes `Logic`.
use types.SemTy.{SemTy}
use Rattle.std.proofs.Common.{◌≡◌, refl, sym, ℕ, ◌*◌, List, [], ◌∷◌, length}
use Rattle.borrow_laws.proofs.Walking.{Ura, SProp, ent, emp, sep, ex, coded_list, Lft, GName, Share, flft, fobs, fbor, after, takes_part, ‵, ◌⊛◌, raw, some, later, ◌$◌, ◌∵◌, !, qed, move, keep, use1, fsplit3, split, split3, group, pick, fsplit, fjoin, feq_i, feq_l, rewrite, show, await, updating, now, done, Logic, sem, open_ref, Arr, Body, Array, follows, mem, RattleType, NamedLft, Ptr, in_a_block, pure_l, pure_i, room, nothing, id⊢, Val}
use Rattle.image_pixels.specs.Loans.{lent}
use Rattle.image_pixels.specs.contracts.pixels_mut.PixelsIterMut as P
use Rattle.image_pixels.specs.declared.pixels_mut.PixelsIterMut.{PixelsIterMut}

module _ {M : Type 1} {𝓤 : Ura M} (𝓛 : Logic 𝓤) (W R : RattleType) (cells_of : W.Denot → List R.Denot) (made : List R.Denot → W.Denot) (n : ℕ)
    (own : (ws : List R.Denot) → length ws ≡ n → cells_of (made ws) ≡ ws) (κ : Lft) (q : Share) (b o : ℕ) where
  open 𝓛 use {H, A}

  -- the cells, told by a whole that has them
  abbrev Told : SemTy
  Told = record { rep = W.Denot; coded = W.coded; size = n * (mem R).size; own_at = λ w b o. (Arr (mem R) n).own_at (cells_of w) b o }

  back_told : (w : W.Denot) → ent 𝓤 (sep 𝓤 (sem 𝓛 (Told.own_at w b o)) (emp 𝓤)) (sem 𝓛 ((Arr (mem R) n).own_at (cells_of w) b o))
  back_told w = qed 𝓛 (‵ ((Arr (mem R) n).own_at (cells_of w) b o) ∷ raw (emp 𝓤) ∷ []) ∵ keep ! (0 ∷ []) $ done !

  back_cells : (ws : List R.Denot) → ent 𝓤 (sep 𝓤 (sem 𝓛 ((Arr (mem R) n).own_at ws b o)) (emp 𝓤)) (sem 𝓛 (Told.own_at (made ws) b o))
  back_cells ws = qed 𝓛 (‵ ((Arr (mem R) n).own_at ws b o) ∷ raw (emp 𝓤) ∷ []) ∵ keep ! (0 ∷ []) $ fsplit ! $ feq_l ! (λ e.
      feq_i ! ℕ (length ws) n e $ fjoin ! $ rewrite ! 0 (λ (zs : List R.Denot). ‵ ((Arr (mem R) n).own_at zs b o)) (sym (own ws e)) refl $ done !)

  module _ (γ : GName) (xs : List R.Denot) (i : W.Denot) (has : cells_of i ≡ xs) where
    abbrev pub Between : GName × GName → SProp 𝓤
    Between δs = sep 𝓤 (A.obs δs.1 ((coded_list R.coded).code xs)) (sep 𝓤 (A.bor κ (Body (Arr (mem R) n) b o δs.1)) (sep 𝓤 (A.lft κ q) (sem 𝓛 (follows (Array R 0) W γ δs.0 cells_of))))

    pub between : ent 𝓤 (sep 𝓤 (A.obs γ ((coded_list R.coded).code xs)) (sep 𝓤 (A.bor κ (Body (Arr (mem R) n) b o γ)) (A.lft κ q))) (H.⇛ (ex 𝓤 Between))
    between = qed 𝓛 (‵ (fobs γ ((coded_list R.coded).code xs)) ∷ ‵ (fbor κ (Body (Arr (mem R) n) b o γ)) ∷ ‵ (flft κ q) ∷ []) ∵ updating ! $
        open_ref ! tt (Arr (mem R) n) {x = xs} {b = b} {o = o} $
        rewrite ! 0 (λ (zs : List R.Denot). ‵ ((Arr (mem R) n).own_at zs b o)) (sym has) refl $
        nothing ! $ move ! (2 ∷ 3 ∷ 4 ∷ 1 ∷ 0 ∷ []) $ group ! 5 $
        use1 𝓛 (later (some (λ (δ : GName). ‵ (fobs δ (W.coded.code i)) ⊛ ‵ (fbor κ (Body Told b o δ)) ⊛ ‵ (flft κ q) ⊛ ‵ (follows (Array R 0) W γ δ cells_of))))
        (takes_part 𝓛 (Arr (mem R) n) Told cells_of κ q b o b o γ (emp 𝓤) back_told ((coded_list R.coded).code xs) ((coded_list R.coded).code xs) i) $ await ! tt $ pick ! (λ δ. split3 ! $ move ! (2 ∷ []) $ split ! $
        -- [the token; what follows; obs; the borrow]
        move ! (2 ∷ 3 ∷ 0 ∷ 1 ∷ []) $ open_ref ! tt Told {x = i} {b = b} {o = o} $
        rewrite ! 0 (λ (zs : List R.Denot). ‵ ((Arr (mem R) n).own_at zs b o)) has refl $
        nothing ! $ move ! (2 ∷ 3 ∷ 4 ∷ 1 ∷ 0 ∷ []) $ group ! 5 $
        use1 𝓛 (later (some (λ (δ' : GName). ‵ (fobs δ' ((coded_list R.coded).code xs)) ⊛ ‵ (fbor κ (Body (Arr (mem R) n) b o δ')) ⊛ ‵ (flft κ q) ⊛ ‵ (after Told (Arr (mem R) n) δ δ' made))))
        (takes_part 𝓛 Told (Arr (mem R) n) made κ q b o b o δ (emp 𝓤) back_cells (W.coded.code i) (W.coded.code i) xs) $ await ! tt $ pick ! (λ δ'. split3 ! $ move ! (2 ∷ []) $ split ! $
        -- [the token; what is of no use; obs; the borrow; what follows]
        now ! $ show ! Between (δ, δ') $ keep ! (2 ∷ 3 ∷ 0 ∷ 4 ∷ []) $ done !))

-- the cursor with another borrow of the same cells, and what lent it
abbrev pub relent : {T : Type 0} → PixelsIterMut T → GName → GName → PixelsIterMut T
relent r lender name = record { current = r.current; remaining = r.remaining; rows_left = r.rows_left; width = r.width; pad = r.pad; marker = r.marker; name = name; lender = lender; cells = r.cells; reaches = r.reaches; wide = r.wide; small = r.small }

module _ {M : Type 1} {𝓤 : Ura M} (𝓛 : Logic 𝓤) (α : NamedLft) (q : Share) (W R : RattleType) (cells_of : W.Denot → List R.Denot) (made : List R.Denot → W.Denot) (r : PixelsIterMut R.Denot)
    (own : (ws : List R.Denot) → length ws ≡ length r.cells → cells_of (made ws) ≡ ws) (i : W.Denot) (has : cells_of i ≡ r.cells) (v : Val) where
  open 𝓛 use {H, A}

  abbrev cursor : RattleType
  cursor = P.the_row α R

  abbrev pub Relent : GName × GName → SProp 𝓤
  Relent δs = sep 𝓤 (sem 𝓛 (cursor.own_val (relent r δs.0 δs.1) (v ∷ []))) (sep 𝓤 (A.lft α.lft q) (sem 𝓛 (follows (Array R 0) W r.name δs.0 cells_of)))

  -- a cursor under a name of such a whole
  pub relends : ent 𝓤 (sep 𝓤 (sem 𝓛 (cursor.own_val r (v ∷ []))) (A.lft α.lft q)) (H.⇛ (ex 𝓤 Relent))
  relends =
      let κ : Lft = α.lft in let n : ℕ = length r.cells in
      qed 𝓛 (‵ (cursor.own_val r (v ∷ [])) ∷ ‵ (flft κ q) ∷ []) ∵ updating ! $ fsplit ! $ move ! (1 ∷ []) $
      in_a_block ! r.current (λ p. lent κ R r.name r.cells p) (id⊢ 𝓤 _) (λ b o e. fsplit3 ! $ pure_l ! (room R n) (λ rm.
      -- [obs; the borrow; the data; the token]
      move ! (0 ∷ 1 ∷ 3 ∷ []) $ group ! 3 $
      use1 𝓛 (later (some (λ (δs : GName × GName). ‵ (fobs δs.1 ((coded_list R.coded).code r.cells)) ⊛ ‵ (fbor κ (Body (Arr (mem R) n) b o δs.1)) ⊛ ‵ (flft κ q) ⊛ ‵ (follows (Array R 0) W r.name δs.0 cells_of))))
      (between 𝓛 W R cells_of made n own κ q b o r.name r.cells i has) $ await ! tt $ pick ! (λ δs. split3 ! $ move ! (2 ∷ []) $ split ! $
      -- [the token; what follows; obs; the borrow; the data]
      move ! (2 ∷ 3 ∷ []) $ fjoin ! $ pure_i ! (room R n) (tt, tt) rm $ fjoin ! $ rewrite ! 0 (λ (p : Ptr). ‵ (lent κ R δs.1 r.cells p)) (sym e) refl $
      move ! (3 ∷ 0 ∷ []) $ fjoin ! $
      -- [the cursor; the token; what follows]
      now ! $ show ! Relent δs $ done !)))
