-- Machine values of declared types: the one that is related to a value, and a struct of lent cells and one field more. Assumes `Logic`.
use mir.Syntax.{Sym}
use denote.Lowered.{Lowered}
use denote.Param.Plain.{IsPlain}
use denote.Struct.Struct.{Shape}
use Rattle.std.proofs.Common.{refl, subst, List, [], ◌∷◌, MutBor}
use Rattle.borrow_laws.proofs.Walking.{Ura, Lft, ent, emp, Lifetime, Val, vstruct, vcons, vnil, Logic, sem, ‵, ◌$◌, ◌∵◌, !, qed, move, keep, drop, fjoin, fpack, fpick, fsplit, feq_i, rewrite, use0, done, Is, Typed, shows, row_Makes, Laws, RattleType, Valss, MutSlice, nothing, owned, peeks, Struct, within}
use Rattle.borrow_laws.proofs.Options.{lent_val}

-- of a declared type: what is related to x is its one machine value, and that has the type
module _ (R : RattleType) (L : Laws R) (low : Lowered R) {M : Type 1} {𝓤 : Ura M} (𝓛 : Logic 𝓤) (x : R.Denot) (vs : List Val) (is : Is R x vs) where
  pub is_low : Is R x (low.lowered x ∷ [])
  is_low = subst (Is R x) (low.val_is x vs is) is

  pub typed : Typed R.mir (low.lowered x ∷ [])
  typed = (L.lawful 𝓛).typed x (low.lowered x ∷ []) is_low

-- a plain value is made of nothing
pub plain_made : {M : Type 1} {𝓤 : Ura M} (𝓛 : Logic 𝓤) (P : RattleType) → IsPlain P → (p : P.Denot) (vs : List Val) → Is P p vs → ent 𝓤 (emp 𝓤) (sem 𝓛 (P.own_val p vs))
plain_made 𝓛 P plain p vs is = qed 𝓛 [] ∵ owned ! P (Is P) (row_Makes P plain 𝓛) p vs is $ done !

-- a struct of lent cells and one field more: its cells, and it made again
module _ (name : Sym) (args : List Lifetime) (types : List RattleType) (ℓ : Lifetime) (κ : Lft) (R P : RattleType) where
  abbrev Slice : RattleType
  Slice = MutSlice ℓ κ R

  abbrev pub held : Shape
  held = record { name = name; args = args; types = types; fields = Slice ∷ P ∷ [] }

  module _ {M : Type 1} {𝓤 : Ura M} (𝓛 : Logic 𝓤) (x : MutBor (List R.Denot)) (p : P.Denot) where
    pub held_cells : (vs : List Val) → ent 𝓤 (sem 𝓛 ((Struct held).own_val (x, (p, tt)) vs)) (sem 𝓛 (Slice.own_val x (lent_val x ∷ [])))
    held_cells vs = qed 𝓛 (‵ ((Struct held).own_val (x, (p, tt)) vs) ∷ []) ∵ fpick ! (λ us. fsplit ! $ drop ! $ fsplit ! $
        peeks ! Slice (Is Slice) (shows 𝓛 Slice) x us.0 (λ is. rewrite ! 0 (λ (ws : List Val). ‵ (Slice.own_val x ws)) is.0.0 refl $ keep ! (0 ∷ []) $ done !))

    pub held_again : (w : Val) → ent 𝓤 (emp 𝓤) (sem 𝓛 (P.own_val p (w ∷ [])))
        → ent 𝓤 (sem 𝓛 (Slice.own_val x (lent_val x ∷ []))) (sem 𝓛 ((Struct held).own_val (x, (p, tt)) (vstruct (vcons (lent_val x) (vcons w vnil)) ∷ [])))
    held_again w made =
        let v : Val = vstruct (vcons (lent_val x) (vcons w vnil)) in
        qed 𝓛 (‵ (Slice.own_val x (lent_val x ∷ [])) ∷ []) ∵
        nothing ! $ use0 𝓛 (‵ (P.own_val p (w ∷ []))) made $ fjoin ! $
        move ! (1 ∷ 0 ∷ []) $ fjoin ! $ feq_i ! (List Val) (v ∷ []) (v ∷ []) refl $ fjoin ! $
        fpack ! (Valss (Slice ∷ P ∷ [])) (within held (x, (p, tt)) (v ∷ [])) (lent_val x ∷ [], (w ∷ [], tt)) $ done !
