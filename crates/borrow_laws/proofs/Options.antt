-- What an `Option` of one machine value holds: none, a `&mut`, or a slice for writing. Assumes `Logic`.
use Rattle.std.proofs.Common.{◌≡◌, refl, ap, ◌∙◌, List, [], ◌∷◌, ◌++◌, ◌⊎◌, inl, inr, length, MutBor, Option, Some, None}
use Rattle.std.specs.contracts.option.Option as OP
use Rattle.borrow_laws.proofs.Walking.{Ura, Lft, feq, ent, sep, Lifetime, Val, vptr, of_list, ‵, ◌$◌, ◌∵◌, !, qed, move, drop, fsplit, fsplit3, fjoin3, fpick, feq_i, feq_l, rewrite, done, Logic, sem, live, shows, Is, RattleType, MutRef, MutSlice, slice_val, peeks}

-- there is none, or there is one
pub none_or_some : {X : Type 0} (m : Option X) → (m ≡ None) ⊎ ((x : X) × (m ≡ Some x))
none_or_some None = inl refl
none_or_some (Some x) = inr (x, refl)

module _ {M : Type 1} {𝓤 : Ura M} (𝓛 : Logic 𝓤) where
  -- the machine value of a `Some` of a `&mut`, and the `&mut`
  pub some_out : (ℓ : Lifetime) (κ : Lft) (R : RattleType) (r : MutBor R.Denot) (v : Val) → ent 𝓤 (sem 𝓛 ((OP.the_row (MutRef ℓ κ R)).own_val (Some r) (v ∷ [])))
      (sep 𝓤 (sem 𝓛 (feq (List Val) (v ∷ []) (live 1 (of_list (vptr r.ref_ptr.0 r.ref_ptr.1 ∷ [])) ∷ []))) (sem 𝓛 ((MutRef ℓ κ R).own_val r (vptr r.ref_ptr.0 r.ref_ptr.1 ∷ []))))
  some_out ℓ κ R r v = let p : Val = vptr r.ref_ptr.0 r.ref_ptr.1 in qed 𝓛 (‵ ((OP.the_row (MutRef ℓ κ R)).own_val (Some r) (v ∷ [])) ∷ []) ∵ fpick ! (λ us. fsplit ! $ feq_l ! (λ e. fpick ! (λ vss. fsplit ! $ feq_l ! (λ e'. fsplit ! $ move ! (1 ∷ []) $ drop ! $
      fsplit3 ! $ feq_l ! (λ e''. feq_i ! (List Val) (p ∷ []) (p ∷ []) refl $ fjoin3 ! $ feq_i ! (List Val) (v ∷ []) (live 1 (of_list (p ∷ [])) ∷ []) (e ∙ ap (λ (ws : List Val). live 1 (of_list ws) ∷ []) (e' ∙ ap (λ (ws : List Val). ws ++ []) e'')) $ done !)))))

  pub none_out : (X : RattleType) (v : Val) → ent 𝓤 (sem 𝓛 ((OP.the_row X).own_val None (v ∷ []))) (sem 𝓛 (feq (List Val) (v ∷ []) (live 0 (of_list []) ∷ [])))
  none_out X v = qed 𝓛 (‵ ((OP.the_row X).own_val None (v ∷ [])) ∷ []) ∵ fpick ! (λ us. fsplit ! $ feq_l ! (λ e. fpick ! (λ vss. fsplit ! $ feq_l ! (λ e'. drop ! $
      feq_i ! (List Val) (v ∷ []) (live 0 (of_list []) ∷ []) (e ∙ ap (λ (ws : List Val). live 0 (of_list ws) ∷ []) e') $ done !))))

-- the machine value of a `None`
pub none_told : (X : RattleType) (vs : List Val) → Is (OP.the_row X) None vs → vs ≡ live 0 (of_list []) ∷ []
none_told X vs is = is.1.0 ∙ ap (λ (ws : List Val). live 0 (of_list ws) ∷ []) is.1.1.1.0

-- the machine value of a slice for writing
abbrev pub lent_val : {T : Type 0} → MutBor (List T) → Val
lent_val x = slice_val x.ref_ptr (length x.now)

module _ {M : Type 1} {𝓤 : Ura M} (𝓛 : Logic 𝓤) (ℓ : Lifetime) (κ : Lft) (R : RattleType) where
  abbrev Slice : RattleType
  Slice = MutSlice ℓ κ R

  -- that of a `Some` of one
  pub some_told : (x : MutBor (List R.Denot)) (vs : List Val) → Is (OP.the_row Slice) (Some x) vs → vs ≡ live 1 (of_list (lent_val x ∷ [])) ∷ []
  some_told x vs is = is.1.0 ∙ ap (λ (ws : List Val). live 1 (of_list ws) ∷ []) (is.1.1.1.0 ∙ ap (λ (ws : List Val). ws ++ []) is.1.1.1.1.0.0.0)

  pub some_slice : (x : MutBor (List R.Denot)) (v : Val) → ent 𝓤 (sem 𝓛 ((OP.the_row Slice).own_val (Some x) (v ∷ [])))
      (sep 𝓤 (sem 𝓛 (feq (List Val) (v ∷ []) (live 1 (of_list (lent_val x ∷ [])) ∷ []))) (sem 𝓛 (Slice.own_val x (lent_val x ∷ []))))
  some_slice x v = qed 𝓛 (‵ ((OP.the_row Slice).own_val (Some x) (v ∷ [])) ∷ []) ∵ fpick ! (λ us. fsplit ! $ feq_l ! (λ e. fpick ! (λ vss. fsplit ! $ feq_l ! (λ e'. fsplit ! $ move ! (1 ∷ []) $ drop ! $
      peeks ! Slice (Is Slice) (shows 𝓛 Slice) x vss.0 (λ is. rewrite ! 0 (λ (ws : List Val). ‵ (Slice.own_val x ws)) is.0.0 refl $
      feq_i ! (List Val) (v ∷ []) (live 1 (of_list (lent_val x ∷ [])) ∷ []) (e ∙ ap (λ (ws : List Val). live 1 (of_list ws) ∷ []) (e' ∙ ap (λ (ws : List Val). ws ++ []) is.0.0)) $ done !)))))
