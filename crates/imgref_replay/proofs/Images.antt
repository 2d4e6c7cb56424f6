-- Lists of images: the layout and the grid of each by its number, and what a place names in them.
use Rattle.std.proofs.Common.{◌≡◌, ◌≢◌, ℕ, zero, suc, ◌<◌, List, [], ◌∷◌, Bool, length, map, set, get_or, false, Some, None, Option, ap, sym, ◌∙◌, subst, ⊎_elim, arith, Vec, All, slice_get, if◌then◌else◌, is_some}
use Rattle.std.proofs.lemmas.Bool.{lt-leb, cond-false, cases_eq}
use Rattle.std.proofs.lemmas.Option.{same_Some, get_or_from_slice_get}
use Rattle.std.proofs.lemmas.List.Elements.{All-set}
use Rattle.std.proofs.lemmas.List.{length-map, length-set, map-set, get_or-map, get_or-set_same, set-get_or}
use Rattle.image_model.specs.Layout.{Layout, Fits, SameOutside}
use Rattle.image_model.specs.Grid.{grid_of}
use Rattle.image_model.specs.Compaction.{IsKept}
use Rattle.image_model.specs.Windows.{Window, IsInside, first_outside}
use Rattle.image_model.proofs.Places.{outside_refl}
use Rattle.image_model.proofs.Cells.{slice_get-set_other}
use Rattle.imgref.specs.Image.{width_of, height_of, vec_layout}
use Rattle.imgref.specs.declared.img.Img.{Img}
use Rattle.imgref.specs.Window.{as_path}
use Rattle.imgref.specs.Lists.{grids_of}
use Rattle.image_commands.specs.Commands.{grid_at, sizes_of, window_faults}
use Rattle.imgref_replay.specs.Step.{first_fault, AllKept}
use Rattle.image_commands.specs.declared.commands.Place.{Place}
use Rattle.image_commands.specs.declared.commands.Refusal.TheVariants.{WindowOutside}

-- as many grids as images
pub length-grids : {T Z : Type 0} (images : List (Img (Vec T Z))) → length (grids_of images) ≡ length images
length-grids images = length-map (map vec_layout images) grid_of ∙ length-map images vec_layout

-- grid i is that of image i
pub grid_at-images : {T Z : Type 0} (images : List (Img (Vec T Z))) (i : ℕ) (image : Img (Vec T Z)) → i < length images → image ≡ get_or images i image → grid_at (grids_of images) i ≡ grid_of (vec_layout image)
grid_at-images [] i image h is = absurd (omega arith)
grid_at-images (first ∷ images) zero image h is = ap (λ x. grid_of (vec_layout x)) (sym is)
grid_at-images (first ∷ images) (suc i) image h is = grid_at-images images i image (omega arith) is

-- where all fit, image i fits
pub fits_at : {T Z : Type 0} (images : List (Img (Vec T Z))) (i : ℕ) (image : Img (Vec T Z)) → i < length images → image ≡ get_or images i image → All Fits (map vec_layout images) → Fits (vec_layout image)
fits_at [] i image h is fits = absurd (omega arith)
fits_at (first ∷ images) zero image h is fits = subst (λ x. Fits (vec_layout x)) (sym is) (fits 0 (vec_layout first) (omega arith))
fits_at (first ∷ images) (suc i) image h is fits = fits_at images i image (omega arith) is (λ k d below. fits (suc k) d (omega arith))

-- a window inside grid i is inside image i
pub inside_at : {T Z : Type 0} (images : List (Img (Vec T Z))) (i : ℕ) (image : Img (Vec T Z)) (w : Window) → i < length images → image ≡ get_or images i image
    → (let g = grid_at (grids_of images) i in IsInside g.width g.height w) → IsInside (width_of image) (height_of image) w
unfolding grid_of
inside_at images i image w there is inside = subst (λ g. IsInside g.width g.height w) (grid_at-images images i image there is) inside

-- a place of grid i is one of image i
pub place_at : {T Z : Type 0} (images : List (Img (Vec T Z))) (i : ℕ) (image : Img (Vec T Z)) (x y : ℕ) → i < length images → image ≡ get_or images i image
    → (let g = grid_at (grids_of images) i in (x < g.width) × (y < g.height)) → (x < width_of image) × (y < height_of image)
unfolding grid_of
place_at images i image x y there is inside = subst (λ g. (x < g.width) × (y < g.height)) (grid_at-images images i image there is) inside

-- layout i of a list is kept as its test says, and every other layout is as it was
layouts_set : {T : Type 0} (compacted : ℕ → Bool) (ls : List (Layout T)) (i : ℕ) (d new : Layout T) → i < length ls → ((j : ℕ) → j ≢ i → compacted j ≡ false)
    → IsKept (compacted i) (get_or ls i d) new → AllKept compacted ls (set ls i new)
layouts_set compacted ls i d new within others kept j before now in_old in_new =
    ⊎_elim (λ same.
    let old_is : get_or ls i d ≡ before = get_or_from_slice_get ls i before d (ap (slice_get ls) (sym same) ∙ in_old) in
    let there : i < length (set ls i new) = rw length-set within in
    let new_is : new ≡ now =
    sym (get_or-set_same ls i new d within)
    ∙ get_or_from_slice_get (set ls i new) i now d (ap (slice_get (set ls i new)) (sym same) ∙ in_new) in
    subst (λ k. IsKept (compacted k) before now) (sym same) (subst (λ l. IsKept (compacted i) l now) old_is (subst (IsKept (compacted i) (get_or ls i d)) new_is kept)))
    (λ differ.
    let stays : before ≡ now = same_Some before now (sym in_old ∙ sym (slice_get-set_other ls i j new differ) ∙ in_new) in
    subst (λ b. IsKept b before now) (sym (others j differ)) (subst (SameOutside before) stays (outside_refl before)))
    (cases_eq j i)

-- what a write to image i leaves: its grid alone is another
pub grids_set : {T Z : Type 0} (images : List (Img (Vec T Z))) (i : ℕ) (new : Img (Vec T Z)) → grids_of (set images i new) ≡ set (grids_of images) i (grid_of (vec_layout new))
grids_set images i new = ap (map grid_of) (map-set vec_layout images i new) ∙ map-set grid_of (map vec_layout images) i (vec_layout new)

-- and where that is the old one, no grid changes
pub same_grids : {T Z : Type 0} (images : List (Img (Vec T Z))) (i : ℕ) (image new : Img (Vec T Z)) → i < length images → image ≡ get_or images i image → grid_of (vec_layout new) ≡ grid_of (vec_layout image)
    → grids_of (set images i new) ≡ grids_of images
same_grids images i image new there is same =
    grids_set images i new ∙ ap (set (grids_of images) i) (same ∙ ap (λ v. grid_of (vec_layout v)) is) ∙ sym (grids_set images i (get_or images i image)) ∙ ap grids_of (set-get_or images i image)

-- all images fit again where the new one fits
pub fits_set : {T Z : Type 0} (images : List (Img (Vec T Z))) (i : ℕ) (new : Img (Vec T Z)) → Fits (vec_layout new) → All Fits (map vec_layout images) → All Fits (map vec_layout (set images i new))
fits_set images i new fits all_fit = subst (All Fits) (sym (map-set vec_layout images i new)) (All-set Fits (map vec_layout images) i (vec_layout new) fits all_fit)

-- each image is kept where the new one is
pub kept_set : {T Z : Type 0} (compacted : ℕ → Bool) (images : List (Img (Vec T Z))) (i : ℕ) (image new : Img (Vec T Z)) → i < length images → image ≡ get_or images i image
    → ((j : ℕ) → j ≢ i → compacted j ≡ false) → IsKept (compacted i) (vec_layout image) (vec_layout new) → AllKept compacted (map vec_layout images) (map vec_layout (set images i new))
kept_set compacted images i image new there is others kept =
    let ls = map vec_layout images in
    let within : i < length ls = rw (length-map images vec_layout) there in
    let at : vec_layout image ≡ get_or ls i (vec_layout image) = ap vec_layout is ∙ sym (get_or-map vec_layout images i image (vec_layout image) there) in
    subst (AllKept compacted ls) (sym (map-set vec_layout images i new)) (layouts_set compacted ls i (vec_layout image) (vec_layout new) within others (subst (λ l. IsKept (compacted i) l (vec_layout new)) at kept))

-- of the window that a place names: its image is there, so its path alone decides whether it is refused
pub fault_named : {T Z : Type 0} (images : List (Img (Vec T Z))) (spot : Place) (image : Img (Vec T Z)) (outside : Option ℕ) → spot.image < length images → image ≡ get_or images spot.image image
    → outside ≡ first_outside (width_of image) (height_of image) (as_path spot.path.items)
    → first_fault (window_faults spot (sizes_of (grids_of images))) ≡ (if is_some outside then Some WindowOutside else None)
unfolding grid_of
fault_named images spot image outside there is at_path = grind (arith, is_some, lt-leb, cond-false, length-grids, grid_at-images)
