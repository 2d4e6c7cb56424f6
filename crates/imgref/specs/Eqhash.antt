-- Equality and hash of images whose containers are read as these cells: they depend only on the layouts.
use Rattle.std.specs.Prelude.{Bool, List}
use Rattle.std.specs.Cmp.{IsPartialEquivalence, IsEquivalence, on_per, on_equiv}
use Rattle.std.specs.Hash.{HashWrites, Alike as FedAlike}
use Rattle.image_model.specs.Alike.{is_alike, fed_by}
use Rattle.image_model.proofs.Alike.{is_alike_per, is_alike_equiv, is_alike_fed}
use Rattle.imgref.specs.declared.img.Img.{Img}
use Rattle.imgref.specs.Image.{layout_by}

module _ {C T : Type 0} (cells : C → List T) where
  -- images are equal if their layouts are alike
  abbrev pub equal_by : (T → T → Bool) → Img C → Img C → Bool
  equal_by eq x y = is_alike eq (layout_by cells x) (layout_by cells y)

  -- what an image feeds to a hasher
  abbrev pub fed_image : (T → HashWrites) → Img C → HashWrites
  fed_image feed x = fed_by feed (layout_by cells x)

  -- equality is symmetric and transitive where the pixel's is
  pub equal_per : {eq : T → T → Bool} → IsPartialEquivalence eq → IsPartialEquivalence (equal_by eq)
  equal_per {eq} laws = on_per (layout_by cells) (is_alike_per eq laws)

  -- and reflexive
  pub equal_equiv : {eq : T → T → Bool} → IsEquivalence eq → IsEquivalence (equal_by eq)
  equal_equiv {eq} laws = on_equiv (layout_by cells) (is_alike_equiv eq laws)

  -- equal images feed a hasher the same where equal pixels do
  pub equal_fed : {eq : T → T → Bool} {feed : T → HashWrites} → FedAlike eq feed → FedAlike (equal_by eq) (fed_image feed)
  equal_fed {eq} {feed} lawful = record { fed = λ x y. (is_alike_fed eq feed lawful).fed (layout_by cells x) (layout_by cells y) }
