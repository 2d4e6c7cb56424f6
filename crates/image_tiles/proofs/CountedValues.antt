-- What the proof by hand of `next_tile` passes on: a reference with a number, as machine values. Assumes `Logic`.
use Rattle.std.proofs.Common.{arith, ◌≡◌, refl, ℕ, ◌^◌, ◌<◌, List, [], ◌∷◌, w64, MutBor}
use Rattle.borrow_laws.proofs.Walking.{Ura, Lft, ent, Lifetime, Val, vint, vptr, vstruct, vcons, vnil, Logic, sem, ‵, ◌$◌, ◌∵◌, !, qed, keep, drop, fsplit, fpick, rewrite, done, usize, Is, shows, RattleType, MutRef, mut_Tells, peeks, Tuple}

abbrev pub counted_val : ℕ × ℕ → ℕ → Val
counted_val p n = vstruct (vcons (vptr p.0 p.1) (vcons (vint w64 n) vnil))

module _ (ℓ : Lifetime) (κ : Lft) (R : RattleType) where
  abbrev pub Ref : RattleType
  Ref = MutRef ℓ κ R

  abbrev pub Counted : RattleType
  Counted = Tuple (Ref ∷ usize ∷ [])

  pub counted_told : (x : MutBor R.Denot × ℕ) (vs : List Val) → Is Counted x vs → (vs ≡ counted_val x.0.ref_ptr x.1 ∷ []) × (x.1 < 2 ^ 64)
  counted_told x vs s = grind arith

  module _ {M : Type 1} {𝓤 : Ura M} (𝓛 : Logic 𝓤) where
    pub counted_out : (x : MutBor R.Denot × ℕ) (vs : List Val) → ent 𝓤 (sem 𝓛 (Counted.own_val x vs)) (sem 𝓛 (Ref.own_val x.0 (vptr x.0.ref_ptr.0 x.0.ref_ptr.1 ∷ [])))
    counted_out x vs = qed 𝓛 (‵ (Counted.own_val x vs) ∷ []) ∵ fpick ! (λ us. fsplit ! $ drop ! $ fsplit ! $
        peeks ! Ref (Is Ref) (shows 𝓛 Ref) x.0 us.0 (λ is. rewrite ! 0 (λ (ws : List Val). ‵ (Ref.own_val x.0 ws)) (mut_Tells ℓ κ R x.0 us.0 is) refl $ keep ! (0 ∷ []) $ done !))
