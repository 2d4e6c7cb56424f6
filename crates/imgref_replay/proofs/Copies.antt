-- A window of an image of a list, copied over another window of the list.
use Rattle.std.proofs.Common.{◌≡◌, ℕ, ◌-◌, ◌<◌, Bool, false, List, ◌++◌, length, map, set, get_or, None, Vec, refl, sym, ap, subst, ◌∙◌, arith, All, Ok}
use Rattle.std.proofs.lemmas.Bool.{cond-false, and_from, eq-eqb}
use Rattle.std.proofs.lemmas.List.{set-append_left, set-append_right, get_or_append_left, get_or-append_right}
use Rattle.image_model.specs.Layout.{Layout, Fits, SameOutside}
use Rattle.image_model.specs.Grid.{Grid, grid, grid_of, view, patch}
use Rattle.image_model.proofs.Grids.{at_place, same_grids}
use Rattle.imgref.specs.Image.{vec_layout}
use Rattle.imgref.specs.declared.img.Img.{Img}
use Rattle.image_model.specs.Windows as model
use Rattle.image_model.specs.Windows.{IsInside, window_view}
use Rattle.imgref.specs.Lists.{grids_of}
use Rattle.image_commands.specs.Commands.{grid_at, Sizes, sizes_of, window_named, pair_faults, copy_faults}
use Rattle.imgref_replay.specs.Step.{first_fault, IsStep, MayCopy, ShowsCopy}
use Rattle.image_commands.specs.declared.commands.Place.{Place}
use Rattle.image_commands.specs.declared.commands.Command.TheVariants.{Blit}
use Rattle.image_commands.specs.declared.commands.Reply.TheVariants.{Done}
use Rattle.imgref_replay.proofs.Images.{fits_at, inside_at, grid_at-images, grids_set, fits_set, kept_set}
use Rattle.imgref_replay.proofs.Steps.{faults_after}

-- an image of the list that shows a window of image j, in its old image's place
pub copied : {T Z : Type 0} (images : List (Img (Vec T Z))) (i j left top : ℕ) (from : model.Window) (image seen new : Img (Vec T Z)) (news : List (Img (Vec T Z))) → news ≡ set images i new → i < length images → j < length images → image ≡ get_or images i image → seen ≡ get_or images j seen
    → grid_of (vec_layout new) ≡ patch (grid_of (vec_layout image)) left top (window_view (grid_of (vec_layout seen)) from) → SameOutside (vec_layout image) (vec_layout new) → Fits (vec_layout new) → All Fits (map vec_layout images)
    → ShowsCopy i left top (window_view (grid_at (grids_of images) j) from) (map vec_layout images) (map vec_layout news)
copied images i j left top from image seen new news changed there seen_there is seen_is shows outside fits all_fit =
    let copy = window_view (grid_at (grids_of images) j) from in
    let shown = shows ∙ ap (λ g. patch (grid_of (vec_layout image)) left top (window_view g from)) (sym (grid_at-images images j seen seen_there seen_is)) in
    subst (λ all. ShowsCopy i left top copy (map vec_layout images) (map vec_layout all)) (sym changed) (record {
      grids = grids_set images i new ∙ ap (set (grids_of images) i) (shown ∙ ap (λ g. patch g left top copy) (sym (grid_at-images images i image there is)));
      kept = kept_set (λ _. false) images i image new there is (λ _ _. refl) outside;
      fits = fits_set images i new fits all_fit;
    })

-- two images of a list and windows of theirs
pub may_copy : {T Z : Type 0} (images : List (Img (Vec T Z))) (i j : ℕ) (image seen : Img (Vec T Z)) (to from : model.Window) → i < length images → j < length images → image ≡ get_or images i image → seen ≡ get_or images j seen
    → All Fits (map vec_layout images) → (let g = grid_at (grids_of images) i in IsInside g.width g.height to) → (let g = grid_at (grids_of images) j in IsInside g.width g.height from) → from.width ≡ to.width → from.height ≡ to.height
    → MayCopy (vec_layout image) to (vec_layout seen) from
may_copy images i j image seen to from there seen_there is seen_is fit inside seen_inside wide high = record {
  fits = fits_at images i image there is fit;
  inside = inside_at images i image to there is inside;
  source_fits = fits_at images j seen seen_there seen_is fit;
  source_inside = inside_at images j seen from seen_there seen_is seen_inside;
  same_width = wide;
  same_height = high;
}

-- windows of one size that two places name, with no other fault
pub no_copy_fault : (source target : Place) (sizes : Sizes) (from to : model.Window) → None ≡ first_fault (pair_faults source target sizes) → from ≡ window_named source sizes → to ≡ window_named target sizes
    → from.width ≡ to.width → from.height ≡ to.height → None ≡ first_fault (copy_faults source target sizes)
no_copy_fault source target sizes from to none from_is to_is wide high = grind (arith, cond-false, and_from, eq-eqb, faults_after)

-- a view with its own size is that view
view_again : {T : Type 0} (g : Grid T) (v : model.Window) (width height : ℕ) → width ≡ v.width → height ≡ v.height → grid width height (window_view g v).pixel ≡ window_view g v
unfolding view
view_again g v width height wide high = grind (arith, at_place, same_grids)

-- the command whose copy the list shows
pub blitted : {T Z : Type 0} (eq : T → T → Bool) (images : List (Img (Vec T Z))) (news : List (Layout T)) (source target : Place) (from to : model.Window)
    → None ≡ first_fault (copy_faults source target (sizes_of (grids_of images)))
    → from ≡ window_named source (sizes_of (grids_of images)) → to ≡ window_named target (sizes_of (grids_of images)) → from.width ≡ to.width → from.height ≡ to.height
    → ShowsCopy target.image to.left to.top (window_view (grid_at (grids_of images) source.image) from) (map vec_layout images) news → IsStep eq (Blit source target) (map vec_layout images) news (Ok Done)
blitted {T} eq images news source target from to accepted from_is to_is wide high shows = grind (arith, view_again)

-- ---- a list in two parts

module _ {X : Type 0} (all front back : List X) (n : ℕ) (parts : all ≡ front ++ back) (cut : length front ≡ n) where
  -- an element of either part is one of the list
  pub front_is : (i : ℕ) (d : X) → i < n → d ≡ get_or front i d → get_or front i d ≡ get_or all i (get_or front i d)
  front_is i d below is = sym (ap (λ xs. get_or xs i d) parts ∙ get_or_append_left front back d i (omega (arith, cut))) ∙ ap (get_or all i) is

  pub back_is : (d : X) → d ≡ get_or back 0 d → get_or back 0 d ≡ get_or all n (get_or back 0 d)
  back_is d is =
      sym (ap (λ xs. get_or xs n d) parts ∙ get_or-append_right front back n n d cut (omega arith) ∙ ap (λ k. get_or back k d) (let none : n - n ≡ 0 = omega arith in none))
      ∙ ap (get_or all n) is

  pub set_front : (i : ℕ) (x : X) → i < n → set front i x ++ back ≡ set all i x
  set_front i x below = sym (ap (λ xs. set xs i x) parts ∙ set-append_left front back i x (omega (arith, cut)))

  pub set_back : (x : X) → front ++ set back 0 x ≡ set all n x
  set_back x = sym (ap (λ xs. set xs n x) parts ∙ set-append_right front back n n x cut (omega arith) ∙ ap (λ k. front ++ set back k x) (let none : n - n ≡ 0 = omega arith in none))
