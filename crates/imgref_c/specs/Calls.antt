-- What a call leaves, by the status that it returns: with any other than 0 everything is as before.
use Rattle.std.specs.Prelude.{◌≡◌, ℕ, ◌+◌, ◌*◌, ◌<◌, ◌≤◌, ◌⊎◌, List, ◌++◌, drop}
use Rattle.image_model.specs.Layout.{Layout, layout, SameOutside}
use Rattle.image_model.specs.Grid.{Grid, grid_of, patch}
use Rattle.image_model.specs.Windows.{Window, Stretch, window, window_view}
use Rattle.image_model.specs.Rows.{joined_rows}
use Rattle.image_model.specs.Compaction.{least_stride}
use Rattle.image_model.specs.Boxes.{IsNowhere, IsBoundingBox}
use Rattle.image_model.specs.Connected.{AreFilled, AllFilled}
use Rattle.image_model.specs.Regions.{AreRegions}

-- what an image of these cells shows at a window
abbrev pub seen : {T : Type 0} → ℕ → ℕ → ℕ → List T → Window → Grid T
seen width height stride cells w = window_view (grid_of (layout cells width height stride)) w

-- the cells of an image that was written: with status 0 it shows the old grid with another one put at this column and row, and its padding is as before
pub record Writes {T : Type 0} (status width height stride : ℕ) (old new : List T) (left top : ℕ) (put : Grid T) : Type 0 where
  pub shows : status ≡ 0 → grid_of (layout new width height stride) ≡ patch (grid_of (layout old width height stride)) left top put
  pub outside : status ≡ 0 → SameOutside (layout old width height stride) (layout new width height stride)
  pub unchanged : 0 < status → new ≡ old

-- an image that was packed: with status 0 its rows are joined, the cells after them are as before, and at the least stride it shows the old grid
pub record Packs {T : Type 0} (status : ℕ) (old : Layout T) (new : List T) : Type 0 where
  pub joins : status ≡ 0 → new ≡ joined_rows old ++ drop (old.width * old.height) old.cells
  pub shows : status ≡ 0 → grid_of (layout new old.width old.height (least_stride old.width)) ≡ grid_of old
  pub unchanged : 0 < status → new ≡ old.cells

-- a stretch that is written through two references: with status 0 it is this one, and is within so many cells
pub record Finds (status start count new_start new_count len : ℕ) (s : Stretch) : Type 0 where
  pub begins : status ≡ 0 → new_start ≡ s.start
  pub counts : status ≡ 0 → new_count ≡ s.len
  pub within : status ≡ 0 → new_start + new_count ≤ len
  pub start_unchanged : 0 < status → new_start ≡ start
  pub count_unchanged : 0 < status → new_count ≡ count

-- what is written through a reference: with status 0 this holds of it
pub record Gives {T : Type 0} (status : ℕ) (old new : T) (Holds : Type 0) : Type 0 where
  pub gives : status ≡ 0 → Holds
  pub unchanged : 0 < status → new ≡ old

-- an image that was filled from a place on: with status 0 exactly what is connected with it has the value, and the padding is as before
pub record Fills {T : Type 0} (status : ℕ) (old new : Layout T) (x y : ℕ) (value : T) : Type 0 where
  pub filled : status ≡ 0 → AreFilled x y value (grid_of old) (grid_of new)
  pub all : status ≡ 0 → AllFilled x y value (grid_of old) (grid_of new)
  pub outside : status ≡ 0 → SameOutside old new
  pub unchanged : 0 < status → new.cells ≡ old.cells

-- labels of the regions of an image: with status 0 there are so many regions, and the padding is as before
pub record Labels {T : Type 0} (status : ℕ) (image : Layout T) (old new : Layout ℕ) (count new_count : ℕ) : Type 0 where
  pub regions : status ≡ 0 → AreRegions (grid_of image) (grid_of new) new_count
  pub outside : status ≡ 0 → SameOutside old new
  pub unchanged : 0 < status → new.cells ≡ old.cells
  pub count_unchanged : 0 < status → new_count ≡ count

-- the least window with every place that shows a value: where there is none, the window of no pixel at the corner
abbrev pub IsBox : {T : Type 0} → Grid T → T → Window → Type 0
IsBox g value w = (IsNowhere g value × (w ≡ window 0 0 0 0)) ⊎ IsBoundingBox g value w
