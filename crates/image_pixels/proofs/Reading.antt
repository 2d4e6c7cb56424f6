-- Cells that are seen are taken from the front. Assumes `Logic`.
use denote.Memory.{each_shared}
use Rattle.std.proofs.Common.{◌≡◌, refl, sym, ap, ℕ, ◌+◌, List, [], ◌∷◌, ◌++◌, length}
use Rattle.borrow_laws.proofs.Walking.{Ura, Val, vptr, vstruct, vcons, vnil, ent, emp, sep, Fml, Lft, Logic, sem, ‵, ◌⊛◌, ◌$◌, ◌∵◌, !, qed, move, use1, split, fsplit, fjoin, done, RattleType, ptr_val, block_ptr, NamedLft, makes_shadow, nothing, shape, to, Struct, at}
use Rattle.image_pixels.specs.contracts.cells.Cells as P
use Rattle.image_pixels.specs.declared.cells.Cells.{Cells}

-- the one machine value of a pointer to cells
abbrev pub place : ℕ → ℕ → Val
place b o = vstruct (vcons (vptr b o) (vcons (vstruct vnil) vnil))

-- what the data fields own
module _ (a : NamedLft) (R : RattleType) where
  abbrev pub Data : RattleType
  Data = Struct (shape (P.the_type a R))

  pub made : {M : Type 1} {𝓤 : Ura M} (𝓛 : Logic 𝓤) (d : Cells R.Denot) (b o : ℕ) → d.current ≡ block_ptr b o → ent 𝓤 (emp 𝓤) (sem 𝓛 (Data.own_val (to (P.the_type a R) d) (place b o ∷ [])))
  made 𝓛 d b o e = makes_shadow 𝓛 (Data.own_val (to (P.the_type a R) d) (place b o ∷ [])) (λ vss. (tt, (tt, ((λ uss. (tt, tt)), tt))))
      ((vptr b o ∷ [], (vstruct vnil ∷ [], tt)), (refl, (ap (λ p. ptr_val p ∷ []) (sym e), ((tt, (refl, tt)), tt))))

-- a `&` to elements is one to the first of them, and one to those after these
module _ {M : Type 1} {𝓤 : Ura M} (𝓛 : Logic 𝓤) {D : Type 0} (c : D → ℕ → ℕ → Lft → Fml) (s b : ℕ) (κ : Lft) (back : List D) where
  pub parts : (front : List D) (o : ℕ) → ent 𝓤 (sem 𝓛 (each_shared (front ++ back) c s b o κ))
      (sep 𝓤 (sem 𝓛 (each_shared front c s b o κ)) (sem 𝓛 (each_shared back c s b (at o s (length front)) κ)))
  parts [] o = qed 𝓛 (‵ (each_shared back c s b o κ) ∷ []) ∵ nothing ! $ done !
  parts (x ∷ xs) o =
      qed 𝓛 (‵ (each_shared (x ∷ xs ++ back) c s b o κ) ∷ []) ∵ fsplit ! $ move ! (1 ∷ []) $
      use1 𝓛 (‵ (each_shared xs c s b (o + s) κ) ⊛ ‵ (each_shared back c s b (at (o + s) s (length xs)) κ)) (parts xs (o + s)) $ split ! $
      move ! (2 ∷ 0 ∷ []) $ fjoin ! $ done !
