-- Lent cells that are cut in two, and one part again, where a piece is let go: the final cells of the whole. Assumes `Logic`.
use Rattle.std.proofs.Common.{refl, List, [], ◌∷◌, MutBor}
use Rattle.borrow_laws.proofs.Walking.{Ura, Lifetime, Val, Lft, GName, fres, fobs, SProp, ent, sep, wand, all, all_e, apply∗, coded_list, ‵, raw, ◌⊛◌, ◌$◌, ◌∵◌, !, qed, by, move, keep, drop, split, join, each, assume, fsplit3, rewrite, use1, use2, done, Logic, sem, Array, follows_both, both_by, heres_id, RattleType, MutSlice}
use base.Stored.{Gv}

module _ {M : Type 1} {𝓤 : Ura M} (𝓛 : Logic 𝓤) (R : RattleType) where
  open 𝓛 use {A}

  abbrev L : Type 0
  L = List R.Denot

  abbrev code : L → Gv
  code = (coded_list R.coded).code

  -- the final cells of a slice that is let go are those that it has
  pub given_up : (ℓ : Lifetime) (κ : Lft) (r : MutBor L) (vs : List Val) → ent 𝓤 (sem 𝓛 ((MutSlice ℓ κ R).own_val r vs)) (sem 𝓛 (fres r.ghost_name (code r.now)))
  given_up ℓ κ r vs = qed 𝓛 (‵ ((MutSlice ℓ κ R).own_val r vs) ∷ []) ∵ fsplit3 ! $ drop ! $
      rewrite ! 0 (λ (l : L). ‵ (fobs r.ghost_name (code l))) (heres_id R r.now) refl $
      use1 𝓛 (‵ (fres r.ghost_name (code r.now))) (𝓛.names.obs-res r.ghost_name (code r.now)) $ keep ! (0 ∷ []) $ done !

  -- one of the two parts is cut again, and a piece of it is let go: the other piece and the other part are left
  module _ (γ γ₀ γ₁ δ ν : GName) (F G : L → L → L) where
    abbrev Made : (L → L → L) → GName → GName → GName → L × L → SProp 𝓤
    Made H β β₀ β₁ w = wand 𝓤 (sep 𝓤 (A.res β₀ (code w.0)) (A.res β₁ (code w.1))) (A.res β (code (H w.0 w.1)))

    abbrev Parts : (L → L → L) → GName → GName → GName → SProp 𝓤
    Parts H β β₀ β₁ = sem 𝓛 (follows_both (Array R 0) (Array R 0) (Array R 0) β β₀ β₁ H)

    pub cut_within : (v : L) → ent 𝓤 (sep 𝓤 (Parts F γ γ₀ γ₁) (sep 𝓤 (sem 𝓛 (fres δ (code v))) (Parts G γ₀ δ ν))) (Parts (λ w ws. F (G v w) ws) γ ν γ₁)
    unfolding both_by
    cut_within v =
        let Whole : L × L → SProp 𝓤 = Made F γ γ₀ γ₁ in
        let Part : L × L → SProp 𝓤 = Made G γ₀ δ ν in
        qed 𝓛 (raw (all 𝓤 Whole) ∷ ‵ (fres δ (code v)) ∷ raw (all 𝓤 Part) ∷ []) ∵
        each ! (λ (w : L × L). wand 𝓤 (sep 𝓤 (A.res ν (code w.0)) (A.res γ₁ (code w.1))) (A.res γ (code (F (G v w.0) w.1)))) (λ w.
        assume ! (‵ (fres ν (code w.0)) ⊛ ‵ (fres γ₁ (code w.1))) $ split ! $
        -- [the other piece; the other part; the whole; what is let go; the part]
        move ! (3 ∷ 0 ∷ []) $ join ! $ move ! (3 ∷ []) $ use1 𝓛 (raw (Part (v, w.0))) (all_e 𝓤 Part (v, w.0)) $ move ! (1 ∷ 0 ∷ []) $
        use2 𝓛 (‵ (fres γ₀ (code (G v w.0)))) (apply∗ 𝓤 (sep 𝓤 (A.res δ (code v)) (A.res ν (code w.0))) (A.res γ₀ (code (G v w.0)))) $
        join ! $ move ! (1 ∷ []) $ use1 𝓛 (raw (Whole (G v w.0, w.1))) (all_e 𝓤 Whole (G v w.0, w.1)) $ move ! (1 ∷ 0 ∷ []) $
        by ! (apply∗ 𝓤 (sep 𝓤 (A.res γ₀ (code (G v w.0))) (A.res γ₁ (code w.1))) (A.res γ (code (F (G v w.0) w.1)))))
