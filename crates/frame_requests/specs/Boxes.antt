-- Edits that begin with the boxes of a tracker's list.
use Rattle.std.specs.Prelude.{◌≡◌, false, ℕ, List, [], ◌++◌, Option, Some, None}
use Rattle.texts.specs.Reading.{is_nil}
use Rattle.frame_texts.specs.Boxes.{HasBoxes, each_box}
use Rattle.frame_edits.specs.BoxCovers.{AreCovers}
use Rattle.frame_edits.specs.Edits.{Edits}
use Rattle.frame_edits.specs.Holds.{AreHeld}
use Rattle.frame_edits.specs.declared.box_covers.BoxStyle.{BoxStyle}
use Rattle.frame_edits.specs.declared.words.Edit.{Edit}
use Rattle.frame_requests.specs.declared.words.Refusal.{Refusal}
use Rattle.frame_requests.specs.declared.words.Refusal.TheVariants.{NoBoxes, EmptyBoxes, Memory}

-- the covers of all boxes of a text, each in its own frame, or held for so many
abbrev pub CoverBoxes : BoxStyle → List ℕ → Option ℕ → List Edit → Type 0
CoverBoxes style text None covers = AreCovers style text covers
CoverBoxes style text (Some hold) covers = AreHeld style text hold covers

-- the covers of all boxes of a text, of which there is one, and after them the edits
pub record BeginsWithBoxes (style : BoxStyle) (text : List ℕ) (hold : Option ℕ) (others new : Edits) : Type 0 where
  pub covers : List Edit
  pub are : CoverBoxes style text hold covers
  pub some : is_nil covers ≡ false
  pub steps : new.steps ≡ covers ++ others.steps
  pub framing : new.framing ≡ others.framing

-- why the boxes before edits are refused: a line is no box, there is no box, or there was no memory. Memory is needed only where there is a box, and a bad line is told whatever memory there is
abbrev pub BoxesAreRefused : BoxStyle → List ℕ → Option ℕ → Refusal → Type 0
BoxesAreRefused style text hold NoBoxes = each_box text ≡ None
BoxesAreRefused style text hold EmptyBoxes = CoverBoxes style text hold []
BoxesAreRefused style text hold Memory = HasBoxes text
BoxesAreRefused style text hold _ = ⊥
