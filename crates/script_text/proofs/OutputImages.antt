-- The lines of images, as they are written one after the other: of each its sizes, and then each cell after a space.
use Rattle.std.proofs.Common.{◌≡◌, ℕ, ◌+◌, ◌<◌, List, [], ◌∷◌, ◌++◌, map, length, take, get_or, ap, sym, subst, ◌∙◌, append_assoc, All, codes}
use Rattle.std.specs.List.{flat_map, join_with_byte}
use Rattle.std.specs.Fmt.{decimal}
use Rattle.std.proofs.lemmas.List.{append-nil, length-map, get_or-map, map-append, take_more}
use Rattle.std.proofs.lemmas.List.Elements.{All-push}
use Rattle.image_model.specs.Layout.{Layout}
use Rattle.script_text.specs.Line.{line_of, sizes_fields, image_text}
use Rattle.script_text.specs.Output.{ended_line}

joined : (first : List ℕ) (cells : List ℕ) → join_with_byte 32 (first ∷ map decimal cells) ≡ first ++ flat_map (λ cell. 32 ∷ decimal cell) cells
joined first [] = sym (append-nil first)
joined first (cell ∷ cells) = ap (λ (l : List ℕ). first ++ 32 ∷ l) (joined (decimal cell) cells)

regrouped : (a b c t : List ℕ) → a ++ 32 ∷ (b ++ 32 ∷ (c ++ t)) ≡ (a ++ 32 ∷ (b ++ 32 ∷ c)) ++ t
regrouped a b c t = simp append_assoc

joined_after : (a b first : List ℕ) (cells : List ℕ) → a ++ 32 ∷ (b ++ 32 ∷ join_with_byte 32 (first ∷ map decimal cells)) ≡ (a ++ 32 ∷ (b ++ 32 ∷ first)) ++ flat_map (λ cell. 32 ∷ decimal cell) cells
joined_after a b first cells = ap (λ (l : List ℕ). a ++ 32 ∷ (b ++ 32 ∷ l)) (joined first cells) ∙ regrouped a b first (flat_map (λ cell. 32 ∷ decimal cell) cells)

pub image_text_is : (i : Layout ℕ) → image_text i ≡ line_of (sizes_fields i) ++ flat_map (λ cell. 32 ∷ decimal cell) i.cells
image_text_is i = ap (λ (l : List ℕ). codes "image " ++ l) (joined_after (decimal i.width) (decimal i.height) (decimal i.stride) i.cells)

-- an image that was written in three pieces
pub pushed_image : (old one two new sizes cells text : List ℕ) → text ≡ sizes ++ cells → one ≡ old ++ sizes → two ≡ one ++ cells → new ≡ two ++ 10 ∷ [] → new ≡ old ++ ended_line text
pushed_image old one two new sizes cells text t a b c = rw (c, b, a, t) (simp append_assoc)

-- what holds of each layout holds of that of image i
pub at_image : {X Y : Type 0} (P : Y → Type 0) (layout_of : X → Y) (images : List X) (i : ℕ) (image : X) → i < length images → image ≡ get_or images i image → All P (map layout_of images) → P (layout_of image)
at_image P layout_of images i image within is all =
    subst P (get_or-map layout_of images i image (layout_of image) within ∙ ap layout_of (sym is)) (all i (layout_of image) (rw (length-map images layout_of) within))

-- and what holds of the first i layouts and of image i holds of one more
pub more_images : {X Y : Type 0} (P : Y → Type 0) (layout_of : X → Y) (images : List X) (i : ℕ) (image : X) → i < length images → image ≡ get_or images i image
    → All P (map layout_of (take i images)) → P (layout_of image) → All P (map layout_of (take (i + 1) images))
more_images P layout_of images i image within is firsts here =
    subst (All P) (sym (map-append layout_of (take i images) (image ∷ [])) ∙ ap (map layout_of) (ap (λ x. take i images ++ x ∷ []) is ∙ sym (take_more images i image within)))
    (All-push P (map layout_of (take i images)) (layout_of image) firsts here)
