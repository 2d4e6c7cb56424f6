-- What follows an answer that lends or lends nothing. Assumes `Logic`.
use Rattle.borrow_laws.proofs.Walking.{none, Ura, GName, ent, id⊢, Logic, sem, follows, follows_if, RattleType}
use mathlib.Core.Option.{some}
use denote.Follow.{follows_by}

module _ {M : Type 1} {𝓤 : Ura M} (𝓛 : Logic 𝓤) (R T : RattleType) (γ : GName) (F : T.Denot → R.Denot) (v : R.Denot) where
  open 𝓛 use {A}

  pub if_some : (γ' : GName) → ent 𝓤 (sem 𝓛 (follows R T γ γ' F)) (sem 𝓛 (follows_if R T γ (some γ') F v))
  unfolding follows_by
  if_some γ' = id⊢ 𝓤 _

  pub if_none : ent 𝓤 (A.res γ (R.coded.code v)) (sem 𝓛 (follows_if R T γ none F v))
  unfolding follows_by
  if_none = id⊢ 𝓤 _

-- what the lender follows, where something was lent
module _ {M : Type 1} {𝓤 : Ura M} (𝓛 : Logic 𝓤) (R T : RattleType) (γ γ' : GName) (F : T.Denot → R.Denot) (v : R.Denot) where
  pub if_given : ent 𝓤 (sem 𝓛 (follows_if R T γ (some γ') F v)) (sem 𝓛 (follows R T γ γ' F))
  unfolding follows_by
  if_given = id⊢ 𝓤 _
