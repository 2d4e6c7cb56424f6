-- The final value of one name by that of another. Assumes `Logic`.
use Rattle.std.proofs.Common.{[], ◌∷◌}
use Rattle.borrow_laws.proofs.Walking.{Ura, SProp, ent, emp, sep, wand, all, all_e, apply∗, GName, fres, Logic, sem, ‵, raw, ◌$◌, ◌∵◌, !, qed, by, move, use1, use2, join, each, assume, done, RattleType, follows_both, both_by}
use Rattle.borrow_laws.specs.Endings.{ends_as}

module _ {M : Type 1} {𝓤 : Ura M} (𝓛 : Logic 𝓤) where
  open 𝓛 use {A}

  -- one of the two parts is done
  pub ends_beside : (R T U : RattleType) (γ γ₁ γ₂ : GName) (F : T.Denot → U.Denot → R.Denot) (v : T.Denot)
      → ent 𝓤 (sep 𝓤 (A.res γ₁ (T.coded.code v)) (sem 𝓛 (follows_both R T U γ γ₁ γ₂ F))) (sem 𝓛 (ends_as R U γ γ₂ (λ w. F v w)))
  unfolding both_by
  ends_beside R T U γ γ₁ γ₂ F v =
      let Both : T.Denot × U.Denot → SProp 𝓤 = λ w. wand 𝓤 (sep 𝓤 (A.res γ₁ (T.coded.code w.0)) (A.res γ₂ (U.coded.code w.1))) (A.res γ (R.coded.code (F w.0 w.1))) in
      qed 𝓛 (‵ (fres γ₁ (T.coded.code v)) ∷ raw (all 𝓤 Both) ∷ []) ∵ each ! (λ (w : U.Denot). wand 𝓤 (A.res γ₂ (U.coded.code w)) (A.res γ (R.coded.code (F v w)))) (λ w.
      assume ! (‵ (fres γ₂ (U.coded.code w))) $ move ! (1 ∷ 0 ∷ []) $ join ! $ move ! (1 ∷ []) $ use1 𝓛 (raw (Both (v, w))) (all_e 𝓤 Both (v, w)) $ move ! (1 ∷ 0 ∷ []) $
      by ! (apply∗ 𝓤 (sep 𝓤 (A.res γ₁ (T.coded.code v)) (A.res γ₂ (U.coded.code w))) (A.res γ (R.coded.code (F v w)))))

  pub ends_then : (R T U : RattleType) (γ γ₁ γ₂ : GName) (F : T.Denot → R.Denot) (G : U.Denot → T.Denot)
      → ent 𝓤 (sep 𝓤 (sem 𝓛 (ends_as R T γ γ₁ F)) (sem 𝓛 (ends_as T U γ₁ γ₂ G))) (sem 𝓛 (ends_as R U γ γ₂ (λ w. F (G w))))
  ends_then R T U γ γ₁ γ₂ F G =
      let One : T.Denot → SProp 𝓤 = λ w. wand 𝓤 (A.res γ₁ (T.coded.code w)) (A.res γ (R.coded.code (F w))) in let Two : U.Denot → SProp 𝓤 = λ w. wand 𝓤 (A.res γ₂ (U.coded.code w)) (A.res γ₁ (T.coded.code (G w))) in
      qed 𝓛 (raw (all 𝓤 One) ∷ raw (all 𝓤 Two) ∷ []) ∵ each ! (λ (w : U.Denot). wand 𝓤 (A.res γ₂ (U.coded.code w)) (A.res γ (R.coded.code (F (G w))))) (λ w.
      assume ! (‵ (fres γ₂ (U.coded.code w))) $ move ! (2 ∷ []) $ use1 𝓛 (raw (Two w)) (all_e 𝓤 Two w) $ move ! (1 ∷ 0 ∷ []) $ use2 𝓛 (‵ (fres γ₁ (T.coded.code (G w)))) (apply∗ 𝓤 (A.res γ₂ (U.coded.code w)) (A.res γ₁ (T.coded.code (G w)))) $
      move ! (1 ∷ []) $ use1 𝓛 (raw (One (G w))) (all_e 𝓤 One (G w)) $ move ! (1 ∷ 0 ∷ []) $ by ! (apply∗ 𝓤 (A.res γ₁ (T.coded.code (G w))) (A.res γ (R.coded.code (F (G w))))))

  pub ends_itself : (R : RattleType) (γ : GName) → ent 𝓤 (emp 𝓤) (sem 𝓛 (ends_as R R γ γ (λ w. w)))
  ends_itself R γ = qed 𝓛 [] ∵ each ! (λ (w : R.Denot). wand 𝓤 (A.res γ (R.coded.code w)) (A.res γ (R.coded.code w))) (λ w. assume ! (‵ (fres γ (R.coded.code w))) $ done !)

  -- the last value of the second name is learned
  pub ends_said : (R S : RattleType) (γ δ : GName) (F : S.Denot → R.Denot) (w : S.Denot) → ent 𝓤 (sep 𝓤 (sem 𝓛 (ends_as R S γ δ F)) (A.res δ (S.coded.code w))) (A.res γ (R.coded.code (F w)))
  ends_said R S γ δ F w =
      let One : S.Denot → SProp 𝓤 = λ w. wand 𝓤 (A.res δ (S.coded.code w)) (A.res γ (R.coded.code (F w))) in
      qed 𝓛 (raw (all 𝓤 One) ∷ ‵ (fres δ (S.coded.code w)) ∷ []) ∵ use1 𝓛 (raw (One w)) (all_e 𝓤 One w) $ move ! (1 ∷ 0 ∷ []) $ by ! (apply∗ 𝓤 (A.res δ (S.coded.code w)) (A.res γ (R.coded.code (F w))))
