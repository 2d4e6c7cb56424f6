-- What the proof by hand of `into_window_at` passes on, as machine values: the parts of an image, and the answers of `region_at` and of itself.
use denote.Enum.Enum.{in_a_row}
use Rattle.std.proofs.Common.{◌≡◌, refl, ◌∙◌, ◌⊎◌, inl, ℕ, ◌^◌, ◌<◌, List, [], ◌∷◌, ◌++◌, w64, arith}
use Rattle.std.specs.contracts.result.Result as result
use Rattle.std.specs.declared.result.Result.{Result}
use Rattle.std.specs.declared.result.Result.TheVariants.{Ok, Err}
use Rattle.borrow_laws.proofs.Walking.{Ura, fsep, feq, fex, ent, emp, Val, vint, vstruct, vcons, vnil, of_list, Logic, sem, ‵, ◌$◌, ◌∵◌, !, qed, move, fjoin, fpack, feq_i, done, live, usize, Is, uint_Makes, RattleType, Valss, owns, nothing, owned, Tuple}
use Rattle.image_shape.specs.declared.window.Stretch.{Stretch}
use Rattle.image_shape.specs.contracts.window.Stretch as stretch
use Rattle.image_shape.specs.declared.shape.Shape.{Shape}
use Rattle.image_shape.specs.contracts.shape.Shape as shape
use Rattle.imgref.proofs.ImageValues.{stretch_val, stretch_told, shape_val, shape_told}

-- ---- a stretch and a shape, or a number
abbrev pub Found : RattleType
Found = Tuple (stretch.the_row ∷ shape.the_row ∷ [])

abbrev pub found_val : Stretch × Shape → Val
found_val x = vstruct (vcons (stretch_val x.0) (vcons (shape_val x.1) vnil))

abbrev pub Answer : RattleType
Answer = result.the_row Found usize

abbrev pub IsFound : Result (Stretch × Shape) ℕ → List Val → Stretch × Shape → Type 0
IsFound r vs x = (r ≡ Ok x) × (vs ≡ live 0 (vcons (found_val x) vnil) ∷ []) × (x.0.start < 2 ^ 64) × (x.0.len < 2 ^ 64) × (x.1.width < 2 ^ 32) × (x.1.height < 2 ^ 32) × (x.1.stride < 2 ^ 64)

abbrev pub IsOutside : Result (Stretch × Shape) ℕ → List Val → ℕ → Type 0
IsOutside r vs k = (r ≡ Err k) × (vs ≡ live 1 (vcons (vint w64 k) vnil) ∷ []) × (k < 2 ^ 64)

pub answer_told : (r : Result (Stretch × Shape) ℕ) (vs : List Val) → Is Answer r vs → ((x : Stretch × Shape) × IsFound r vs x) ⊎ ((k : ℕ) × IsOutside r vs k)
answer_told (Ok x) vs s =
    let f = s.1.1.1.1.0 in
    let at = stretch_told x.0 _ f.1.1.0 in
    let sh = shape_told x.1 _ f.1.1.1.0 in
    inl (x, (refl, s.1.0 ∙ (λ i. live 0 (of_list ((s.1.1.1.0 ∙ (λ j. (f.1.0 ∙ (λ m. vstruct (of_list (at.0 m ++ (sh.0 m ++ []))) ∷ [])) j ++ [])) i)) ∷ []), at.1, at.2, sh.1, sh.2, sh.3))
answer_told (Err k) vs s = grind (arith, of_list, live)

module _ {M : Type 1} {𝓤 : Ura M} (𝓛 : Logic 𝓤) where
  module _ (Row : RattleType) where
    pub ok_made : (y : Row.Denot) (w : Val) → ent 𝓤 (sem 𝓛 (Row.own_val y (w ∷ []))) (sem 𝓛 ((result.the_row Row usize).own_val (Ok y) (live 0 (vcons w vnil) ∷ [])))
    ok_made y w = qed 𝓛 (‵ (Row.own_val y (w ∷ [])) ∷ []) ∵ nothing ! $ move ! (1 ∷ 0 ∷ []) $ fjoin ! $
        feq_i ! (List Val) (w ∷ []) (w ∷ []) refl $ fjoin ! $ fpack ! (Valss (Row ∷ [])) (in_a_row (Row ∷ []) (owns (Row ∷ []) (y, tt)) (w ∷ [])) (w ∷ [], tt) $
        feq_i ! (List Val) (live 0 (vcons w vnil) ∷ []) (live 0 (vcons w vnil) ∷ []) refl $ fjoin ! $
        fpack ! (List Val) (λ us. fsep (feq (List Val) (live 0 (vcons w vnil) ∷ []) (live 0 (of_list us) ∷ [])) (fex (Valss (Row ∷ [])) (in_a_row (Row ∷ []) (owns (Row ∷ []) (y, tt)) us))) (w ∷ []) $ done !

    pub err_made : (k : ℕ) → k < 2 ^ 64 → ent 𝓤 (emp 𝓤) (sem 𝓛 ((result.the_row Row usize).own_val (Err k) (live 1 (vcons (vint w64 k) vnil) ∷ [])))
    err_made k f = qed 𝓛 [] ∵ nothing ! $ owned ! usize (Is usize) (uint_Makes 𝓛 w64) k (vint w64 k ∷ []) (refl, f) $ fjoin ! $
        feq_i ! (List Val) (vint w64 k ∷ []) (vint w64 k ∷ []) refl $ fjoin ! $ fpack ! (Valss (usize ∷ [])) (in_a_row (usize ∷ []) (owns (usize ∷ []) (k, tt)) (vint w64 k ∷ [])) (vint w64 k ∷ [], tt) $
        feq_i ! (List Val) (live 1 (vcons (vint w64 k) vnil) ∷ []) (live 1 (vcons (vint w64 k) vnil) ∷ []) refl $ fjoin ! $
        fpack ! (List Val) (λ us. fsep (feq (List Val) (live 1 (vcons (vint w64 k) vnil) ∷ []) (live 1 (of_list us) ∷ [])) (fex (Valss (usize ∷ [])) (in_a_row (usize ∷ []) (owns (usize ∷ []) (k, tt)) us))) (vint w64 k ∷ []) $ done !
