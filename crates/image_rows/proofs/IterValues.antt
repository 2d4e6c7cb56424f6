-- Machine values of an iterator for writing: its slice, and it made again. Assumes `Logic`.
use Rattle.std.proofs.Common.{List, [], ◌∷◌}
use Rattle.borrow_laws.proofs.Walking.{Ura, ent, Val, Logic, sem, Is, Laws, RattleType, NamedLft, MutSlice}
use Rattle.borrow_laws.proofs.Declared.{plain_made, held_cells, held_again}
use Rattle.borrow_laws.proofs.Options.{lent_val}
use Rattle.image_rows.specs.declared.writing.RowsIterMut.{RowsIterMut}
use Rattle.image_shape.specs.contracts.spacing.Spacing as sp
use Rattle.image_rows.specs.contracts.writing.RowsIterMut.{the_row, the_type}
use Rattle.image_shape.proofs.spacing.Spacing.TheLaws as sp_laws
use Rattle.image_rows.proofs.writing.RowsIterMut.TheLaws as it

module _ (a : NamedLft) (R : RattleType) (L : Laws R) {M : Type 1} {𝓤 : Ura M} (𝓛 : Logic 𝓤) (s : RowsIterMut R.Denot) where
  pub cells_out : (vs : List Val) → ent 𝓤 (sem 𝓛 ((the_row a R).own_val s vs)) (sem 𝓛 ((MutSlice a.mir a.lft R).own_val s.cells (lent_val s.cells ∷ [])))
  cells_out vs = held_cells (the_type a R).name (a.mir ∷ []) (R ∷ []) a.mir a.lft R sp.the_field.row 𝓛 s.cells (sp.the_field.into s.spacing) vs

  pub cells_in : Is sp.the_row s.spacing (sp_laws.lowered s.spacing ∷ []) → ent 𝓤 (sem 𝓛 ((MutSlice a.mir a.lft R).own_val s.cells (lent_val s.cells ∷ []))) (sem 𝓛 ((the_row a R).own_val s ((it.lowers a R L).lowered s ∷ [])))
  cells_in is = held_again (the_type a R).name (a.mir ∷ []) (R ∷ []) a.mir a.lft R sp.the_field.row 𝓛 s.cells (sp.the_field.into s.spacing) _ (plain_made 𝓛 sp.the_row sp_laws.the_row_plain s.spacing _ is)
