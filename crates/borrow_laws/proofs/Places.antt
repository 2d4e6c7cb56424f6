-- A value in a local that a `&mut` lends for one call, and that is back after it. Assumes `Logic`.
use base.Share
use Rattle.std.proofs.Common.{ℕ, [], ◌∷◌}
use Rattle.borrow_laws.proofs.Walking.{Ura, Lft, GName, Share, full_share, flft, fdead, fres, flent, SProp, ent, sep, apply∗, ex, sem, named, part_at, mem, Body, lends_ref, ref_back, ‵, raw, ◌⊛◌, later, some, ◌$◌, ◌∵◌, !, qed, move, split, join, use1, use2, use3, await, pick, updating, show, done, at_once, Logic, RattleType}
use Rattle.borrow_laws.proofs.Lifetimes.{Ends, begins, Loan, lent}

-- a value at the start of block `b`, lent for a new lifetime inside ρ
module _ {M : Type 1} {𝓤 : Ura M} (𝓛 : Logic 𝓤) (R : RattleType) (ρ : Lft) (q : Share) (b : ℕ) where
  open 𝓛 use {H, A}

  -- what is kept of the place meanwhile
  abbrev pub KeptPlace : Loan → SProp 𝓤
  KeptPlace d = sep 𝓤 (A.lent (d.0 ∷ ρ) (Body (mem R) b 0 d.2)) (Ends 𝓛 ρ (Share.left q) d.0 d.1)

  abbrev LentPlace : R.Denot → Loan → SProp 𝓤
  LentPlace s d = sep 𝓤 (sem 𝓛 (lent R b 0 (d.0 ∷ ρ) d.2 s)) (sep 𝓤 (A.lft (d.0 ∷ ρ) d.1) (sep 𝓤 (A.lft ρ (Share.right q)) (KeptPlace d)))

  pub lends_place : (s : R.Denot) → ent 𝓤 (sep 𝓤 (A.lft ρ q) (sem 𝓛 (part_at R full_share s b 0))) (H.⇛ (ex 𝓤 (LentPlace s)))
  lends_place s =
      qed 𝓛 (‵ (flft ρ q) ∷ ‵ (part_at R full_share s b 0) ∷ []) ∵ updating ! $
      use1 𝓛 (‵ (flft ρ (Share.left q)) ⊛ ‵ (flft ρ (Share.right q))) (𝓛.lfts.lft_split ρ q) $ split ! $
      use1 𝓛 (later (some (λ (p : ℕ × Share). ‵ (flft (p.0 ∷ ρ) p.1) ⊛ raw (Ends 𝓛 ρ (Share.left q) p.0 p.1)))) (begins 𝓛 ρ (Share.left q)) $ await ! tt $ pick ! (λ p. split ! $
      -- [the new lifetime; its end; ρ; the value]
      move ! (3 ∷ []) $ use1 𝓛 (later (some (λ (δ : GName). ‵ (lent R b 0 (p.0 ∷ ρ) δ s) ⊛ ‵ (flent (p.0 ∷ ρ) (Body (mem R) b 0 δ))))) (lends_ref 𝓛 R (named 0) (p.0 ∷ ρ) s b 0) $ await ! tt $ pick ! (λ δ. split ! $
      -- [the borrow; what is kept of it; the new lifetime; its end; ρ]
      move ! (1 ∷ 3 ∷ []) $ join ! $ move ! (1 ∷ 2 ∷ 3 ∷ []) $ at_once ! $ show ! (LentPlace s) (p.0, p.1, δ) $ done !))

  -- the borrow ends with the value `t`, which then lies there
  pub place_ends : (d : Loan) (t : R.Denot) → ent 𝓤 (sep 𝓤 (sep 𝓤 (A.lft (d.0 ∷ ρ) d.1) (A.lft ρ (Share.right q))) (sep 𝓤 (KeptPlace d) (sem 𝓛 (fres d.2 (R.coded.code t))))) (H.⇛ (sep 𝓤 (sem 𝓛 (part_at R full_share t b 0)) (A.lft ρ q)))
  place_ends d t =
      qed 𝓛 ((‵ (flft (d.0 ∷ ρ) d.1) ⊛ ‵ (flft ρ (Share.right q))) ∷ (‵ (flent (d.0 ∷ ρ) (Body (mem R) b 0 d.2)) ⊛ raw (Ends 𝓛 ρ (Share.left q) d.0 d.1)) ∷ ‵ (fres d.2 (R.coded.code t)) ∷ []) ∵ updating ! $
      split ! $ move ! (2 ∷ []) $ split ! $
      -- [what is kept of the borrow; the end of the lifetime; the lifetime; ρ; how the borrow ends]
      move ! (2 ∷ 1 ∷ []) $ use2 𝓛 (later (‵ (fdead (d.0 ∷ ρ)) ⊛ ‵ (flft ρ (Share.left q)))) (apply∗ 𝓤 (A.lft (d.0 ∷ ρ) d.1) _) $ await ! tt $ split ! $
      -- [it is over; ρ; what is kept of the borrow; ρ; how the borrow ends]
      move ! (1 ∷ 3 ∷ []) $ use2 𝓛 (‵ (flft ρ q)) (𝓛.lfts.lft_join ρ q) $
      move ! (1 ∷ 2 ∷ 3 ∷ []) $ use3 𝓛 (later (‵ (part_at R full_share t b 0))) (ref_back 𝓛 R (d.0 ∷ ρ) d.2 t b 0) $ await ! tt $ at_once ! $ done !
