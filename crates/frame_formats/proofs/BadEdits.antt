-- No edit is bad where none is told as bad.
use Rattle.std.proofs.Common.{◌≡◌, ◌<◌, ◌&&◌, ℕ, Bool, false, List, [], ◌∷◌, Option, Some, None, IfSome, arith, length, sym, ap, ◌∙◌, subst}
use Rattle.std.specs.List.{list_all, slice_get}
use Rattle.std.specs.Option.{is_none}
use Rattle.std.proofs.lemmas.List.Folds.{list_all_at}
use Rattle.std.proofs.lemmas.Option.{slice_get-get_or}
use Rattle.frame_edits.specs.declared.words.Edit.{Edit}
use Rattle.frame_formats.specs.Suits.{TellsBad}
use Rattle.frame_edits.specs.declared.unsuited.Unsuited.{Unsuited}
use Rattle.frame_edits.specs.declared.unsuited.Unsuited.TheVariants.{Edit as BadEdit, Size as BadSize}

bad_there : (suits : Edit → Bool) (es : List Edit) (at : ℕ) → at < length es → IfSome (slice_get es at) (λ e. suits e ≡ false) → list_all suits es ≡ false
bad_there suits [] at there bad = absurd (omega (arith, there))
bad_there suits (e ∷ es) at there bad = list_all_at suits (e ∷ es) at e there (subst (λ o. IfSome o (λ x. suits x ≡ false)) (slice_get-get_or (e ∷ es) at e there) bad)

pub decided : (suits : Edit → Bool) (size_suits : Bool) (es : List Edit) (bad : Option Unsuited) → TellsBad suits size_suits es bad → is_none bad ≡ (list_all suits es && size_suits)
decided suits size_suits es None told = sym (ap (λ b. b && size_suits) told.0 ∙ told.1)
decided suits size_suits es (Some (BadEdit at)) told = sym (ap (λ b. b && size_suits) (bad_there suits es at told.there told.bad))
decided suits size_suits es (Some BadSize) told = sym (ap (λ b. b && size_suits) told.0 ∙ told.1)
