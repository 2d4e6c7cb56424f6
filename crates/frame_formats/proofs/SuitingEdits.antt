-- Edits that have a recipe are each one of the frame.
use Rattle.std.proofs.Common.{◌≡◌, ℕ, ◌&&◌, ◌==◌, Bool, true, false, if◌then◌else◌, List, [], ◌∷◌, ◌++◌, Option, Some, None, nat_lt, refl, sym, ap, ◌∙◌, subst, arith}
use Rattle.std.specs.List.{list_all}
use Rattle.std.proofs.lemmas.Bool.Decides.{nat_tests}
use Rattle.std.specs.Option.{is_some, option_map}
use Rattle.texts.proofs.Options.{bind_some, map_some, some_is, guard_some}
use Rattle.texts.specs.Reading.{◌>>=◌}
use Rattle.image_planes.specs.Changes.{Job, are_inside, is_change_of, job_for}
use Rattle.image_planes.specs.Resized.{Resizing, new_height, new_width}
use Rattle.image_commands.specs.declared.changes.Change.{Change}
use Rattle.image_planes.specs.declared.change.Step.{Step}
use Rattle.image_planes.specs.declared.target.Resize.{Resize}
use Rattle.frame_texts.specs.Format.{format_of, is_upright}
use Rattle.frame_texts.specs.Heads.{head_text}
use Rattle.frame_texts.specs.VideoLine.{resized}
use Rattle.frame_texts.specs.Pixels.{pixel_size}
use Rattle.frame_texts.specs.Rates.{rate_of}
use Rattle.frame_texts.specs.declared.header.Format.{Format}
use Rattle.frame_texts.specs.declared.picture.Picture.{Picture}
use Rattle.frame_texts.specs.declared.pixel.Pixel.{Pixel}
use Rattle.frame_edits.specs.Covers.{one_pixel, video_unit}
use Rattle.frame_edits.specs.Edits.{Edits}
use Rattle.frame_edits.specs.declared.framing.Framing.{Framing}
use Rattle.frame_edits.specs.declared.paint.Paint.{Paint}
use Rattle.frame_edits.specs.declared.words.Edit.{Edit}
use Rattle.frame_formats.specs.Framings.{resize_for}
use Rattle.frame_formats.specs.Layers.{change_on, job_on, jobs_on, layer_height, layer_width, picture_layers, picture_pixel, resizing_on, resizings_on, video_layers}
use Rattle.frame_formats.specs.Recipe.{Recipe, finished_picture, finished_video, picture_recipe, recipe, resized_picture, video_recipe}
use Rattle.frame_formats.specs.Steps.{all_some, step_by, step_in}
use Rattle.frame_formats.specs.Suits.{is_valid, size_suits, size_suits_by, suit_picture, suit_video, suits_plane}
use Rattle.frame_formats.specs.declared.layers.Layer.{Layer}

both : (a b : Bool) → a ≡ true → b ≡ true → a && b ≡ true
both true b p q = q
both false b p q = absurd cc

first_of : (a b : Bool) → a && b ≡ true → (a ≡ true) × (b ≡ true)
first_of true b p = (refl, p)
first_of false b p = absurd cc

-- ---- steps of a plane

valid_by : (width height : ℕ) (o : Option (Change (List ℕ))) (c : Change (List ℕ)) → o ≡ Some c → is_change_of width height c ≡ true → is_valid width height o ≡ true
valid_by width height None c is valid = absurd cc
valid_by width height (Some d) c is valid = subst (λ x. is_change_of width height x ≡ true) (sym (some_is d c is)) valid

-- where each step becomes one of a plane, and these are valid
each_valid : (become : Change Paint → Option (Change (List ℕ))) (width height : ℕ) (steps : List (Step Paint)) (made : List (Step (List ℕ))) → all_some (step_by become) steps ≡ Some made → are_inside width height made ≡ true
    → list_all (λ s. is_valid width height (become s.change)) steps ≡ true
unfolding all_some
each_valid become width height [] made are inside = refl
each_valid become width height (s ∷ ss) made are inside =
    let one = bind_some (step_by become s) (λ y. all_some (step_by become) ss >>= λ ys. Some (y ∷ ys)) made are in
    let rest = bind_some (all_some (step_by become) ss) (λ ys. Some (one.0 ∷ ys)) made one.2 in
    let whole = some_is (one.0 ∷ rest.0) made rest.2 in
    let fine = first_of (is_change_of width height one.0.change) (are_inside width height rest.0) (subst (λ m. are_inside width height m ≡ true) (sym whole) inside) in
    let c = map_some (become s.change) (λ change. record { first = s.first; end = s.end; change = change }) one.0 one.1 in
    both _ _ (valid_by width height (become s.change) c.0 c.1 (subst (λ x. is_change_of width height x.change ≡ true) (sym c.2) fine.0))
    (each_valid become width height ss rest.0 rest.1 fine.1)

job_valid : (pixel : Pixel) (layer : Layer) (width height : ℕ) (steps : List (Step Paint)) (j : Job) → job_on pixel layer width height steps ≡ Some j
    → list_all (λ s. is_valid (layer_width layer width) (layer_height layer height) (change_on pixel layer width height s.change)) steps ≡ true
job_valid pixel layer width height steps j is =
    let made = bind_some (all_some (step_by (change_on pixel layer width height)) steps) (job_for (pixel_size pixel) (layer_width layer width) (layer_height layer height)) j is in
    let job = guard_some _ _ _ made.2 in
    each_valid (change_on pixel layer width height) (layer_width layer width) (layer_height layer height) steps made.0 made.1 (first_of _ _ job.0).1

-- ---- the edits that become these steps

plane_suits : (f : Edit → Option (Step Paint)) (pixel : Pixel) (layer : Layer) (width height : ℕ) (es : List Edit) (steps : List (Step Paint)) → all_some f es ≡ Some steps
    → list_all (λ s. is_valid (layer_width layer width) (layer_height layer height) (change_on pixel layer width height s.change)) steps ≡ true
    → list_all (λ e. suits_plane pixel layer width height (f e)) es ≡ true
unfolding all_some
plane_suits f pixel layer width height [] steps are valid = refl
plane_suits f pixel layer width height (e ∷ es) steps are valid =
    let one = bind_some (f e) (λ y. all_some f es >>= λ ys. Some (y ∷ ys)) steps are in
    let rest = bind_some (all_some f es) (λ ys. Some (one.0 ∷ ys)) steps one.2 in
    let whole = some_is (one.0 ∷ rest.0) steps rest.2 in
    let fine = first_of (is_valid (layer_width layer width) (layer_height layer height) (change_on pixel layer width height one.0.change)) _
    (subst (λ l. list_all (λ s. is_valid (layer_width layer width) (layer_height layer height) (change_on pixel layer width height s.change)) l ≡ true) (sym whole) valid) in
    both _ _ (subst (λ o. suits_plane pixel layer width height o ≡ true) (sym one.1) fine.0) (plane_suits f pixel layer width height es rest.0 rest.1 fine.1)

planes_suit : (f : Edit → Option (Step Paint)) (pixel : Pixel) (layers : List Layer) (width height : ℕ) (es : List Edit) (steps : List (Step Paint)) (js : List Job) → all_some f es ≡ Some steps → jobs_on pixel layers width height steps ≡ Some js
    → list_all (λ layer. list_all (λ e. suits_plane pixel layer width height (f e)) es) layers ≡ true
unfolding all_some
planes_suit f pixel [] width height es steps js are jobs = refl
planes_suit f pixel (l ∷ ls) width height es steps js are jobs =
    let one = bind_some (job_on pixel l width height steps) (λ y. jobs_on pixel ls width height steps >>= λ ys. Some (y ∷ ys)) js jobs in
    let rest = bind_some (jobs_on pixel ls width height steps) (λ ys. Some (one.0 ∷ ys)) js one.2 in
    both _ _ (plane_suits f pixel l width height es steps are (job_valid pixel l width height steps one.0 one.1)) (planes_suit f pixel ls width height es steps rest.0 are rest.1)

-- what holds of each edit on each plane holds on each plane of each edit
both_all : {A : Type 0} (f g : A → Bool) (xs : List A) → list_all f xs ≡ true → list_all g xs ≡ true → list_all (λ x. f x && g x) xs ≡ true
both_all f g [] p q = refl
both_all f g (x ∷ xs) p q =
    let a = first_of (f x) (list_all f xs) p in
    let b = first_of (g x) (list_all g xs) q in
    both _ _ (both _ _ a.0 b.0) (both_all f g xs a.1 b.1)

all_true : {A : Type 0} (xs : List A) → list_all (λ x. true) xs ≡ true
all_true [] = refl
all_true (x ∷ xs) = all_true xs

by_edits : {A B : Type 0} (f : A → B → Bool) (xs : List A) (ys : List B) → list_all (λ x. list_all (f x) ys) xs ≡ true → list_all (λ y. list_all (λ x. f x y) xs) ys ≡ true
by_edits f [] ys p = all_true ys
by_edits f (x ∷ xs) ys p =
    let one = first_of (list_all (f x) ys) (list_all (λ z. list_all (f z) ys) xs) p in
    both_all (f x) (λ y. list_all (λ z. f z y) xs) ys one.0 (by_edits f xs ys one.1)

-- ---- what becomes of the size

each_there : {A B : Type 0} (f : A → Option B) (xs : List A) (ys : List B) → all_some f xs ≡ Some ys → list_all (λ x. is_some (f x)) xs ≡ true
unfolding all_some
each_there f [] ys are = refl
each_there f (x ∷ xs) ys are =
    let one = bind_some (f x) (λ y. all_some f xs >>= λ zs. Some (y ∷ zs)) ys are in
    let rest = bind_some (all_some f xs) (λ zs. Some (one.0 ∷ zs)) ys one.2 in
    both _ _ (ap is_some one.1) (each_there f xs rest.0 rest.1)

row_left : (n : ℕ) (o : Option Recipe) (r : Recipe) → (if n == 0 then None else o) ≡ Some r → (nat_lt 0 n ≡ true) × (o ≡ Some r)
row_left n o r is = (grind (arith, nat_tests), grind (arith, nat_tests))

resize_suits : (pixel : Pixel) (layers : List Layer) (width height : ℕ) (found : Option Resize) (head : Resize → List Resizing → Recipe) (r : Recipe)
    → (found >>= λ resize. if new_height resize == 0 then None else option_map (head resize) (resizings_on pixel layers width height resize)) ≡ Some r → size_suits_by pixel layers width height found ≡ true
resize_suits pixel layers width height None head r is = absurd cc
resize_suits pixel layers width height (Some resize) head r is =
    let left = row_left (new_height resize) (option_map (head resize) (resizings_on pixel layers width height resize)) r is in
    let made = map_some (resizings_on pixel layers width height resize) (head resize) r left.1 in
    both _ _ left.0 (each_there (λ layer. resizing_on pixel layer width height resize) layers made.0 made.1)

-- ---- videos

video_size : (line : List ℕ) (format : Format) (jobs : List Job) (framing : Option Framing) (r : Recipe) → finished_video line format jobs framing ≡ Some r → size_suits (is_upright format) format.pixel (video_layers format.chroma) format.width format.height framing ≡ true
video_size line format jobs None r is = refl
video_size line format jobs (Some framing) r is =
    resize_suits format.pixel (video_layers format.chroma) format.width format.height (resize_for (is_upright format) format.pixel format.width format.height framing)
    (λ resize resizings. recipe (resized (new_width resize) (new_height resize) line ++ 10 ∷ []) jobs (Some resizings)) r is

abbrev video_steps : Edits → List ℕ → Format → Option Recipe
video_steps e line format = all_some (step_in (video_unit format) (rate_of line) format.width format.height) e.steps >>= λ steps. jobs_on format.pixel (video_layers format.chroma) format.width format.height steps >>= λ jobs. finished_video line format jobs e.framing

suited_video : (e : Edits) (line : List ℕ) (format : Format) (r : Recipe) → video_steps e line format ≡ Some r → suit_video e line format ≡ true
suited_video e line format r is =
    let f = step_in (video_unit format) (rate_of line) format.width format.height in
    let s = bind_some (all_some f e.steps) (λ steps. jobs_on format.pixel (video_layers format.chroma) format.width format.height steps >>= λ jobs. finished_video line format jobs e.framing) r is in
    let j = bind_some (jobs_on format.pixel (video_layers format.chroma) format.width format.height s.0) (λ jobs. finished_video line format jobs e.framing) r s.2 in
    both _ _ (by_edits (λ layer e. suits_plane format.pixel layer format.width format.height (f e)) (video_layers format.chroma) e.steps (planes_suit f format.pixel (video_layers format.chroma) format.width format.height e.steps s.0 j.0 s.1 j.1)) (video_size line format j.0 e.framing r j.2)

none_by : (o : Option Recipe) (suits : Bool) → ((r : Recipe) → o ≡ Some r → suits ≡ true) → suits ≡ false → o ≡ None
none_by None suits good bad = refl
none_by (Some r) suits good bad = let both : true ≡ false = sym (good r refl) ∙ bad in absurd cc

pub unsuited_video : (e : Edits) (line : List ℕ) (format : Format) → format_of line ≡ Some format → suit_video e line format ≡ false → video_recipe e line ≡ None
unsuited_video e line format named bad =
    let steps : video_recipe e line ≡ video_steps e line format = ap (λ o. o >>= video_steps e line) named in
    steps ∙ none_by (video_steps e line format) (suit_video e line format) (suited_video e line format) bad

-- ---- pictures

picture_size : (p : Picture) (jobs : List Job) (framing : Option Framing) (r : Recipe) → finished_picture p jobs framing ≡ Some r → size_suits true (picture_pixel p) picture_layers p.width p.height framing ≡ true
picture_size p jobs None r is = refl
picture_size p jobs (Some framing) r is =
    resize_suits (picture_pixel p) picture_layers p.width p.height (resize_for true (picture_pixel p) p.width p.height framing)
    (λ resize resizings. recipe (head_text (resized_picture p (new_width resize) (new_height resize))) jobs (Some resizings)) r is

suited_picture : (e : Edits) (p : Picture) (r : Recipe) → picture_recipe e p ≡ Some r → suit_picture e p ≡ true
suited_picture e p r is =
    let f = step_in one_pixel None p.width p.height in
    let s = bind_some (all_some f e.steps) (λ steps. jobs_on (picture_pixel p) picture_layers p.width p.height steps >>= λ jobs. finished_picture p jobs e.framing) r is in
    let j = bind_some (jobs_on (picture_pixel p) picture_layers p.width p.height s.0) (λ jobs. finished_picture p jobs e.framing) r s.2 in
    both _ _ (by_edits (λ layer e. suits_plane (picture_pixel p) layer p.width p.height (f e)) picture_layers e.steps (planes_suit f (picture_pixel p) picture_layers p.width p.height e.steps s.0 j.0 s.1 j.1)) (picture_size p j.0 e.framing r j.2)

pub unsuited_picture : (e : Edits) (p : Picture) → suit_picture e p ≡ false → picture_recipe e p ≡ None
unsuited_picture e p bad = none_by (picture_recipe e p) (suit_picture e p) (suited_picture e p) bad
