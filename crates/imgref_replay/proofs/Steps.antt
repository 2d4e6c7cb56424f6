-- Commands without a fault: what one that asks and one that writes leave.
use Rattle.std.proofs.Common.{◌≡◌, ◌≢◌, ℕ, ◌<◌, Bool, true, false, List, [], ◌∷◌, ◌++◌, length, map, set, get_or, Some, None, Vec, refl, sym, ap, ◌∙◌, subst, All, Ok, arith}
use Rattle.std.specs.Option.{option_map_or}
use Rattle.std.proofs.lemmas.Bool.{cond-false, lt-leb, eq-eqb, ne_eqb}
use Rattle.std.proofs.lemmas.Option.{same_Some}
use Rattle.image_model.specs.Layout.{Layout, Fits, SameOutside}
use Rattle.image_model.specs.Grid.{Grid, grid_of}
use Rattle.image_model.specs.Windows as model
use Rattle.image_model.specs.Compaction.{IsKept, IsPacked, packed}
use Rattle.image_model.proofs.Places.{outside_refl}
use Rattle.imgref.specs.Image.{vec_layout}
use Rattle.imgref.specs.declared.img.Img.{Img}
use Rattle.imgref.specs.Lists.{grids_of}
use Rattle.image_commands.specs.Commands.{grid_at, Sizes, sizes_of, window_named, lacks_image, window_faults, tile_faults, meaning}
use Rattle.imgref_replay.specs.Step.{first_fault, fault_of, answer_to, effect_of, compacts, AllKept, IsStep}
use Rattle.image_commands.specs.declared.commands.Command.{Command}
use Rattle.image_commands.specs.declared.commands.Command.TheVariants.{Compact}
use Rattle.image_commands.specs.declared.commands.Place.{Place}
use Rattle.image_commands.specs.declared.commands.Refusal.{Refusal}
use Rattle.image_commands.specs.declared.commands.Reply.{Reply}
use Rattle.image_commands.specs.declared.commands.Reply.TheVariants.{Done}
use Rattle.image_commands.specs.declared.commands.Refusal.TheVariants.{NoImage}
use Rattle.imgref_replay.proofs.Images.{length-grids, grid_at-images, grids_set, fits_set, kept_set, same_grids}

-- where the first tests don't hold, the others decide
pub faults_after : (firsts others : List (Bool × Refusal)) → first_fault firsts ≡ None → first_fault (firsts ++ others) ≡ first_fault others
faults_after [] others e = refl
faults_after ((true, refusal) ∷ firsts) others e = absurd cc
faults_after ((false, refusal) ∷ firsts) others e = faults_after firsts others e

-- a window with tiles that has no fault
pub no_tile_fault : (spot : Place) (tile_width tile_height : ℕ) (sizes : Sizes) → None ≡ first_fault (window_faults spot sizes) → tile_width ≢ 0 → tile_height ≢ 0
    → None ≡ first_fault (tile_faults spot tile_width tile_height sizes)
no_tile_fault spot tile_width tile_height sizes e wide high = grind (arith, cond-false, ne_eqb, faults_after)

-- images stay as they are kept, where nothing is compacted
kept_outside : {T : Type 0} (compacted : ℕ → Bool) (olds news : List (Layout T)) → ((i : ℕ) → compacted i ≡ false) → AllKept (λ _. false) olds news → AllKept compacted olds news
kept_outside compacted olds news none kept i old new in_old in_new = subst (λ b. IsKept b old new) (sym (none i)) (kept i old new in_old in_new)

not_compacted : {T : Type 0} (command : Command T) → (meaning command).compacted ≡ None → (i : ℕ) → compacts i command ≡ false
not_compacted command none i = rw none refl

-- a command that asks, and leaves all as it is
pub asked : {T : Type 0} (eq : T → T → Bool) (command : Command T) (ls : List (Layout T)) (reply : Reply T) → None ≡ fault_of command (map grid_of ls)
    → reply ≡ answer_to eq command (map grid_of ls) → effect_of command (map grid_of ls) ≡ map grid_of ls → (meaning command).compacted ≡ None → All Fits ls
    → IsStep eq command ls ls (Ok reply)
asked eq command ls reply accepted answer stays none fits = grind (arith, same_Some, outside_refl, kept_outside, not_compacted)

-- a command that writes in the window of a place, and leaves all else as it is
pub wrote : {T Z : Type 0} (eq : T → T → Bool) (command : Command T) (images : List (Img (Vec T Z))) (spot : Place) (image new : Img (Vec T Z)) (window : model.Window) (change : model.Window → Grid T → Grid T)
    → spot.image < length images → image ≡ get_or images spot.image image → window ≡ window_named spot (sizes_of (grids_of images))
    → grid_of (vec_layout new) ≡ change window (grid_of (vec_layout image)) → SameOutside (vec_layout image) (vec_layout new) → Fits (vec_layout new) → All Fits (map vec_layout images)
    → None ≡ fault_of command (grids_of images) → Done ≡ answer_to eq command (grids_of images)
    → effect_of command (grids_of images) ≡ set (grids_of images) spot.image (change (window_named spot (sizes_of (grids_of images))) (grid_at (grids_of images) spot.image)) → (meaning command).compacted ≡ None
    → IsStep eq command (map vec_layout images) (map vec_layout (set images spot.image new)) (Ok Done)
wrote eq command images spot image new window change there is comes_to changed outside fits all_fit accepted answer effect none = record {
  fault = accepted;
  answer = answer;
  grids =
      grids_set images spot.image new
      ∙ ap (set (grids_of images) spot.image) (changed ∙ ap (λ w. change w (grid_of (vec_layout image))) comes_to ∙ ap (change (window_named spot (sizes_of (grids_of images)))) (sym (grid_at-images images spot.image image there is)))
      ∙ sym effect
      ∙ ap (λ o. option_map_or (λ _. grids_of images) o (effect_of command (grids_of images))) accepted;
  kept = kept_outside (λ i. compacts i command) _ _ (not_compacted command none) (kept_set (λ _. false) images spot.image image new there is (λ _ _. refl) outside);
  fits = fits_set images spot.image new fits all_fit;
}

-- a command that compacts image i, and leaves all else as it is
pub packed_image : {T Z : Type 0} (eq : T → T → Bool) (i : ℕ) (images : List (Img (Vec T Z))) (image new : Img (Vec T Z)) → i < length images → image ≡ get_or images i image
    → vec_layout new ≡ packed (vec_layout image) → IsPacked (packed (vec_layout image)) → Fits (packed (vec_layout image)) → grid_of (packed (vec_layout image)) ≡ grid_of (vec_layout image)
    → All Fits (map vec_layout images) → IsStep eq (Compact i) (map vec_layout images) (map vec_layout (set images i new)) (Ok Done)
packed_image {T} eq i images image new there is layout packs fits grid all_fit =
    let accepted : None ≡ fault_of {T = T} (Compact i) (grids_of images) = sym (cond-false (lacks_image i (sizes_of (grids_of images))) (Some NoImage) None (lt-leb (length (grids_of images)) i (rw (length-grids images) there))) in
    record {
      fault = accepted;
      answer = refl;
      grids = same_grids images i image new there is (ap grid_of layout ∙ grid) ∙ ap (λ o. option_map_or (λ _. grids_of images) o (grids_of images)) accepted;
      kept = kept_set (λ j. compacts {T = T} j (Compact i)) images i image new there is (λ j differ. ne_eqb i j (λ e. differ (sym e)))
          (subst (λ b. IsKept b (vec_layout image) (vec_layout new)) (sym (eq-eqb i i refl)) (subst IsPacked (sym layout) packs));
      fits = fits_set images i new (subst Fits (sym layout) fits) all_fit;
    }
