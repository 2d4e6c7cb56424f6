-- A pair of what two machine values hold: made, and taken apart. Assumes `Logic`.
use Rattle.std.proofs.Common.{◌≡◌, refl, ◌∙◌, List, [], ◌∷◌, ◌++◌, MutBor, None}
use Rattle.std.proofs.option.Made.{none_of}
use Rattle.std.specs.contracts.option.Option as OP
use Rattle.borrow_laws.proofs.Options.{lent_val}
use Rattle.borrow_laws.proofs.Walking.{Lft, WT, named, MutSlice, live, join, by, use0, Ura, ent, sep, Val, vstruct, vcons, vnil, of_list, Logic, sem, ‵, ◌$◌, ◌∵◌, !, qed, move, keep, drop, fjoin, fpack, fsplit, fpick, feq_i, rewrite, done, Is, shows, RattleType, Valss, nothing, peeks, within, Tuple, tuple_type}
use denote.Struct.Declared.{shape}

abbrev pub pair_val : Val → Val → Val
pair_val v w = vstruct (vcons v (vcons w vnil))

module _ (A B : RattleType) (x : A.Denot) (y : B.Denot) (v w : Val) where
  abbrev Pair : RattleType
  Pair = Tuple (A ∷ B ∷ [])

  pub pair_made : {M : Type 1} {𝓤 : Ura M} (𝓛 : Logic 𝓤) → ent 𝓤 (sep 𝓤 (sem 𝓛 (A.own_val x (v ∷ []))) (sem 𝓛 (B.own_val y (w ∷ [])))) (sem 𝓛 (Pair.own_val (x, y) (pair_val v w ∷ [])))
  pair_made 𝓛 = qed 𝓛 (‵ (A.own_val x (v ∷ [])) ∷ ‵ (B.own_val y (w ∷ [])) ∷ []) ∵
      nothing ! $ move ! (2 ∷ 0 ∷ []) $ fjoin ! $ move ! (1 ∷ 0 ∷ []) $ fjoin ! $
      feq_i ! (List Val) (pair_val v w ∷ []) (pair_val v w ∷ []) refl $ fjoin ! $
      fpack ! (Valss (A ∷ B ∷ [])) (within (shape (tuple_type (A ∷ B ∷ []))) (x, (y, tt)) (pair_val v w ∷ [])) (v ∷ [], (w ∷ [], tt)) $ done !

  -- where the two have one machine value each
  module _ (first : (us : List Val) → Is A x us → us ≡ v ∷ []) (second : (us : List Val) → Is B y us → us ≡ w ∷ []) (vs : List Val) where
    pub pair_told : Is Pair (x, y) vs → vs ≡ pair_val v w ∷ []
    pair_told is = is.1.0 ∙ (λ i. vstruct (of_list (first is.0.0 is.1.1.0 i ++ (second is.0.1.0 is.1.1.1.0 i ++ []))) ∷ [])

    pub pair_out : {M : Type 1} {𝓤 : Ura M} (𝓛 : Logic 𝓤) → ent 𝓤 (sem 𝓛 (Pair.own_val (x, y) vs)) (sep 𝓤 (sem 𝓛 (A.own_val x (v ∷ []))) (sem 𝓛 (B.own_val y (w ∷ []))))
    pair_out 𝓛 = qed 𝓛 (‵ (Pair.own_val (x, y) vs) ∷ []) ∵ fpick ! (λ us. fsplit ! $ drop ! $ fsplit ! $
        peeks ! A (Is A) (shows 𝓛 A) x us.0 (λ is. rewrite ! 0 (λ (ws : List Val). ‵ (A.own_val x ws)) (first us.0 is) refl $ move ! (1 ∷ []) $ fsplit ! $
        peeks ! B (Is B) (shows 𝓛 B) y us.1.0 (λ is'. rewrite ! 0 (λ (ws : List Val). ‵ (B.own_val y ws)) (second us.1.0 is') refl $ keep ! (2 ∷ 0 ∷ []) $ done !)))

-- a pair of slices that are lent
module _ (κ : Lft) (R : RattleType) (r : MutBor (List R.Denot) × MutBor (List R.Denot)) (v : Val) where
  abbrev Lent : RattleType
  Lent = MutSlice (named 0) κ R

  slice_told : (x : MutBor (List R.Denot)) (us : List Val) → Is Lent x us → us ≡ lent_val x ∷ []
  slice_told x us is = is.0.0

  -- its machine value, which has its type
  pub slices_told : Is (Tuple (Lent ∷ Lent ∷ [])) r (v ∷ []) → (v ∷ [] ≡ pair_val (lent_val r.0) (lent_val r.1) ∷ []) × WT (lent_val r.0) × WT (lent_val r.1)
  slices_told is =
      (pair_told Lent Lent r.0 r.1 (lent_val r.0) (lent_val r.1) (slice_told r.0) (slice_told r.1) (v ∷ []) is, (tt, (record { fits = is.1.1.0.0.1.0 }, tt)), (tt, (record { fits = is.1.1.1.0.0.1.0 }, tt)))

  pub slices_out : {M : Type 1} {𝓤 : Ura M} (𝓛 : Logic 𝓤) → ent 𝓤 (sem 𝓛 ((Tuple (Lent ∷ Lent ∷ [])).own_val r (v ∷ []))) (sep 𝓤 (sem 𝓛 (Lent.own_val r.0 (lent_val r.0 ∷ []))) (sem 𝓛 (Lent.own_val r.1 (lent_val r.1 ∷ []))))
  slices_out = pair_out Lent Lent r.0 r.1 (lent_val r.0) (lent_val r.1) (slice_told r.0) (slice_told r.1) (v ∷ [])

-- nothing beside a value
pub none_beside : {M : Type 1} {𝓤 : Ura M} (𝓛 : Logic 𝓤) (A B : RattleType) (y : B.Denot) (w : Val) → ent 𝓤 (sem 𝓛 (B.own_val y (w ∷ []))) (sem 𝓛 ((Tuple (OP.the_row A ∷ B ∷ [])).own_val (None, y) (pair_val (live 0 (of_list [])) w ∷ [])))
none_beside 𝓛 A B y w =
    let Row : RattleType = OP.the_row A in let no : Val = live 0 (of_list []) in
    qed 𝓛 (‵ (B.own_val y (w ∷ [])) ∷ []) ∵ use0 𝓛 (‵ (Row.own_val None (no ∷ []))) (none_of 𝓛 A) $ join ! $ by ! (pair_made Row B None y no w 𝓛)
