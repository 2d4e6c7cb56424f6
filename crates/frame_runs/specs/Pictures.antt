-- The heads of pictures, and what edits are for each.
use Rattle.std.specs.Prelude.{◌≡◌, ◌≢◌, ◌≤◌, ◌+◌, ℕ, List, [], ◌∷◌, ◌++◌, Option, Some, None, Result, Ok, Err, IfSome, length}
use Rattle.std.specs.Option.{option_map}
use Rattle.std.specs.Io.KnownBytes.{Consumes}
use Rattle.devices.specs.Whole.{Gave}
use Rattle.frame_texts.specs.Picture.{picture_of, scanned, start}
use Rattle.frame_edits.specs.Edits.{Edits}
use Rattle.frame_formats.specs.Recipe.{Recipe, buffers_len, picture_recipe}
use Rattle.frame_texts.specs.declared.picture.Picture.{Picture}
use Rattle.frame_texts.specs.declared.picture.Scan.{Scan}
use Rattle.frame_requests.specs.declared.fault.RunFault.{RunFault}
use Rattle.frame_requests.specs.declared.fault.RunFault.TheVariants.{Input}

-- the head of a picture, of at most 64 KiB
pub record IsHead (head : List ℕ) (picture : Picture) : Type 0 where
  pub counted : length head ≤ 65536
  pub named : picture_of head ≡ Some picture

-- a head names a picture that the edits are edits of
pub record PictureHead (edit : Edits) (head : List ℕ) (recipe : Recipe) : Type 0 where
  pub picture : Picture
  pub is : IsHead head picture
  pub edited : picture_recipe edit picture ≡ Some recipe

-- and the buffers that the edits need for it have at most so many bytes
pub record PictureWithin (limit : ℕ) (edit : Edits) (head : List ℕ) (recipe : Recipe) : Type 0 where
  pub is : PictureHead edit head recipe
  pub within : buffers_len recipe ≤ limit

-- the bytes begin with the head of a picture
pub record BeginsPicture (bytes : List ℕ) : Type 0 where
  pub head : List ℕ
  pub more : List ℕ
  pub picture : Picture
  pub is : IsHead head picture
  pub read : bytes ≡ head ++ more

-- they don't
abbrev pub IsNoPicture : List ℕ → Type 0
IsNoPicture bytes = (picture : Picture) (head more : List ℕ) → IsHead head picture → bytes ≡ head ++ more → ⊥

-- they begin with the head of a picture that the edits don't suit
pub record IsPictureNotEdited (edit : Edits) (bytes : List ℕ) : Type 0 where
  pub begins : BeginsPicture bytes
  pub none : picture_recipe edit begins.picture ≡ None

-- what there was before a P was read
abbrev pub behind_letter : Option (List ℕ) → Option (List ℕ)
behind_letter left = option_map (λ bytes. 80 ∷ bytes) left

-- what was found in the place of a head, whose first letter was read
abbrev pub IsHeadFound : Option Picture → Option (List ℕ) → Option (List ℕ) → Type 0
IsHeadFound (Some picture) old new = (head : List ℕ) × IsHead head picture × Consumes (behind_letter old) new head
IsHeadFound None old new = IfSome (behind_letter old) IsNoPicture

-- the reader failed within a head, whose first letter was read
abbrev pub HeadCut : Option (List ℕ) → Option (List ℕ) → Type 0
HeadCut old new = Gave (λ bytes. (bytes ≢ []) × IsNoPicture bytes) (behind_letter old) new

abbrev pub HeadIs : Result (Option Picture) RunFault → Option (List ℕ) → Option (List ℕ) → Type 0
HeadIs (Ok found) old new = IsHeadFound found old new
HeadIs (Err e) old new = (e ≡ Input) × HeadCut old new

-- so many bytes that were read after a letter took the scan this far, and no beginning of them, except all, is a head
pub record HeadBegun (count : ℕ) (scan : Scan) (old new : Option (List ℕ)) : Type 0 where
  pub bytes : List ℕ
  pub count_is : length bytes ≡ count + 1
  pub read : Consumes (behind_letter old) new bytes
  pub scan_is : scan ≡ scanned start bytes
  pub none : (picture : Picture) (head more : List ℕ) → picture_of head ≡ Some picture → bytes ≡ head ++ more → more ≡ []
