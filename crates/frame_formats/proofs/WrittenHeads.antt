-- What is written before a picture is the head of one.
use Rattle.std.proofs.Common.{◌≡◌, ℕ, ◌*◌, ◌<◌, ◌^◌, Bool, true, false, cond, eqb, List, Option, Some, None, refl, sym, ap, ◌∙◌, arith, inl, inr}
use Rattle.std.specs.Option.{option_map}
use Rattle.std.proofs.lemmas.Bool.Decides.{eqb_tells}
use Rattle.std.proofs.Math.Nat.{le-mul_of_pos_right, mul_comm}
use Rattle.texts.proofs.Options.{bind_some, map_some}
use Rattle.image_planes.specs.Changes.{Job}
use Rattle.image_planes.specs.Resized.{Resizing, is_resizing, new_width, new_height}
use Rattle.image_planes.specs.declared.target.Resize.{Resize}
use Rattle.image_planes.specs.declared.target.Resize.TheVariants.{Crop, Pad, Turn}
use Rattle.frame_formats.specs.Framings.{resize_for}
use Rattle.frame_formats.specs.Layers.{picture_pixel, picture_layers, resizings_on}
use Rattle.frame_texts.specs.Pixels.{pixel_size}
use Rattle.frame_texts.specs.Heads.{head_text, ReadsBack}
use Rattle.frame_texts.specs.Picture.{picture_of, is_greatest}
use Rattle.frame_formats.specs.Recipe.{HeadsAreRead, Recipe, recipe, finished_picture, resized_picture}
use Rattle.frame_formats.proofs.PictureSizes.{picture_size, picture_resized}
use Rattle.frame_edits.specs.declared.framing.Framing.{Framing}
use Rattle.frame_texts.specs.declared.picture.Picture.{Picture}

-- numbers for which the test holds are one
same_number : (a b : ℕ) → eqb a b ≡ true → a ≡ b
same_number a b e = elim (eqb_tells a b) [ inl t ↦ t.1 | inr t ↦ absurd (let bad : true ≡ false = sym e ∙ t.0 in cc) ]

-- the numbers of a plane in its new size
below : (size width : ℕ) → 0 < size → size * width < 2 ^ 32 → width < 2 ^ 32
below size width some small = omega (arith, le-mul_of_pos_right width some, mul_comm width size)

new_size : (size width height : ℕ) (resize : Resize) → is_resizing size width height resize ≡ true → (0 < new_width resize) × (new_width resize < 2 ^ 32) × (new_height resize < 2 ^ 32)
new_size size width height (Crop w) is =
    let old : width < 2 ^ 32 = below size width (grind arith) (grind arith) in
    (grind arith, grind (arith, old), grind arith)
new_size size width height (Pad left top wide high value) is = (grind arith, below size wide (grind arith) (grind arith), grind arith)
new_size size width height (Turn quarter wide high) is =
    let old : width < 2 ^ 32 = below size width (grind arith) (grind arith) in
    let same : high ≡ width = grind (arith, same_number) in
    (grind arith, below size wide (grind arith) (grind arith), omega (arith, same, old))

abbrev HasHead : Recipe → Type 0
HasHead r = (q : Picture) × (picture_of r.head ≡ Some q)

-- the recipe that is left where the new size has a row
abbrev resized_recipe : Picture → List Job → Resize → List Resizing → Recipe
resized_recipe p jobs resize resizings = recipe (head_text (resized_picture p (new_width resize) (new_height resize))) jobs (Some resizings)

with_rows : (b : Bool) (o : Option Recipe) (r : Recipe) → cond b None o ≡ Some r → (b ≡ false) × (o ≡ Some r)
with_rows true o r e = absurd cc
with_rows false o r e = (refl, e)

finished_head : ReadsBack → (p : Picture) (jobs : List Job) (f : Option Framing) (r : Recipe) → 0 < p.width → p.width < 2 ^ 32 → 0 < p.height → p.height < 2 ^ 32 → is_greatest p.greatest ≡ true → finished_picture p jobs f ≡ Some r → HasHead r
finished_head back p jobs None r columns width_bound rows height_bound great made =
    let same : recipe (head_text p) jobs None ≡ r = cc in
    (p, ap (λ (x : Recipe). picture_of x.head) (sym same) ∙ back p columns width_bound rows height_bound great)
finished_head back p jobs (Some framing) r columns width_bound rows height_bound great made =
    let step = bind_some (resize_for true (picture_pixel p) p.width p.height framing) (λ resize. cond (eqb (new_height resize) 0) None (option_map (resized_recipe p jobs resize) (resizings_on (picture_pixel p) picture_layers p.width p.height resize))) r made in
    let resize : Resize = step.0 in
    let left = with_rows (eqb (new_height resize) 0) (option_map (resized_recipe p jobs resize) (resizings_on (picture_pixel p) picture_layers p.width p.height resize)) r step.2 in
    let some : 0 < new_height resize = elim (eqb_tells (new_height resize) 0) [ inl t ↦ absurd (let bad : true ≡ false = sym t.0 ∙ left.0 in cc) | inr t ↦ omega (arith, t.1) ] in
    let found = map_some (resizings_on (picture_pixel p) picture_layers p.width p.height resize) (resized_recipe p jobs resize) r left.1 in
    let size = new_size (pixel_size (picture_pixel p)) p.width p.height resize (picture_resized (picture_pixel p) p.width p.height resize found.0 found.1) in
    let q : Picture = resized_picture p (new_width resize) (new_height resize) in
    (q, ap (λ (x : Recipe). picture_of x.head) (sym found.2) ∙ back q size.0 size.1 some size.2 great)

pub heads_are_read : ReadsBack → HeadsAreRead
heads_are_read back e p r rows great made = grind (arith, bind_some, picture_size, finished_head, back)
