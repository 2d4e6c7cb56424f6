-- Images: what the fields after the word are read as has those fields, and is read from them.
use Rattle.std.proofs.Common.{◌≡◌, ℕ, true, ◌&&◌, List, [], ◌∷◌, map, Some, refl, ap, subst, arith, leb, codes}
use Rattle.std.specs.List.{AllByRecursion}
use Rattle.std.specs.Fmt.{decimal}
use Rattle.std.proofs.lemmas.Bool.{leb-true, le-leb}
use Rattle.image_model.specs.Layout.{Layout, layout, is_fitting}
use Rattle.image_model.proofs.Places.{is_fitting_decides}
use Rattle.texts.specs.Fields.{IsWord, IsPixel}
use Rattle.script_text.specs.Line.{IsScriptImage, image_line, entry_fields}
use Rattle.texts.specs.Reading.{◌>>=◌, number_of, number_at, each_of, pixel_of}
use Rattle.script_text.specs.Reading.{image_in, is_sized, sized}
use Rattle.texts.proofs.PartsJoined.{AllLack, and_parts, lacks-decimal}
use Rattle.texts.proofs.Options.{bind_some, guard_some}
use Rattle.texts.proofs.FieldTexts.{first_is, first_back, each_is, each_back, then, number_law, pixel_law}

sized_is : (i : Layout ℕ) → is_sized i ≡ true → IsWord i.stride → AllByRecursion IsPixel i.cells → IsScriptImage i
sized_is i e stride cells =
    let a = and_parts (leb i.width 4294967295) (leb i.height 4294967295 && (leb 1 i.stride && (leb i.width i.stride && is_fitting i))) e in
    let b = and_parts (leb i.height 4294967295) (leb 1 i.stride && (leb i.width i.stride && is_fitting i)) a.1 in
    let c = and_parts (leb 1 i.stride) (leb i.width i.stride && is_fitting i) b.1 in
    let d = and_parts (leb i.width i.stride) (is_fitting i) c.1 in
    record {
      width = leb-true i.width 4294967295 a.0;
      height = leb-true i.height 4294967295 b.0;
      stride = stride;
      stride_positive = leb-true 1 i.stride c.0;
      holds_width = leb-true i.width i.stride d.0;
      cells = cells;
      fits = (is_fitting_decides i).0 d.1;
    }

is_sized-image : (i : Layout ℕ) → IsScriptImage i → is_sized i ≡ true
is_sized-image i is =
    rw (le-leb i.width 4294967295 is.width, le-leb i.height 4294967295 is.height, le-leb 1 i.stride is.stride_positive, le-leb i.width i.stride is.holds_width)
    ((is_fitting_decides i).1 is.fits)

pub image_is : (fields : List (List ℕ)) (i : Layout ℕ) → image_in fields ≡ Some i → (codes "image" ∷ fields ≡ entry_fields (image_line i)) × IsScriptImage i
unfolding image_in
image_is fields i e =
    let number = first_is number_of decimal IsWord number_law in
    let a = bind_some (number_at fields) (λ width. number_at width.1 >>= λ height. number_at height.1 >>= λ stride. each_of pixel_of stride.1 >>= λ cells. sized (layout cells width.0 height.0 stride.0)) i e in
    let b = bind_some (number_at a.0.1) (λ height. number_at height.1 >>= λ stride. each_of pixel_of stride.1 >>= λ cells. sized (layout cells a.0.0 height.0 stride.0)) i a.2 in
    let c = bind_some (number_at b.0.1) (λ stride. each_of pixel_of stride.1 >>= λ cells. sized (layout cells a.0.0 b.0.0 stride.0)) i b.2 in
    let d = bind_some (each_of pixel_of c.0.1) (λ cells. sized (layout cells a.0.0 b.0.0 c.0.0)) i c.2 in
    let made : Layout ℕ = layout d.0 a.0.0 b.0.0 c.0.0 in
    let end = guard_some (is_sized made) made i d.2 in
    let at = number fields a.0 a.1 in
    let bt = number a.0.1 b.0 b.1 in
    let ct = number b.0.1 c.0 c.1 in
    let dt = each_is pixel_of decimal IsPixel pixel_law c.0.1 d.0 d.1 in
    let whole = then fields _ _ _ at.0 (then a.0.1 _ _ _ bt.0 (then b.0.1 _ _ _ ct.0 dt.0)) in
    subst (λ (v : Layout ℕ). (codes "image" ∷ fields ≡ entry_fields (image_line v)) × IsScriptImage v) {x = made} {y = i} end.1
    (ap (λ (l : List (List ℕ)). codes "image" ∷ l) whole, sized_is made end.0 ct.1 dt.1)

pub image_back : (i : Layout ℕ) → IsScriptImage i → image_in (decimal i.width ∷ decimal i.height ∷ decimal i.stride ∷ map decimal i.cells) ≡ Some i
unfolding image_in
image_back i is =
    let number = first_back number_of decimal IsWord number_law in
    rw (
      number i.width (decimal i.height ∷ decimal i.stride ∷ map decimal i.cells) (omega (arith, is.width)),
      number i.height (decimal i.stride ∷ map decimal i.cells) (omega (arith, is.height)),
      number i.stride (map decimal i.cells) is.stride,
      each_back pixel_of decimal IsPixel pixel_law i.cells is.cells,
      is_sized-image i is,
    ) refl

lacks-cells : (cells : List ℕ) → AllByRecursion IsPixel cells → AllLack 32 (map decimal cells)
lacks-cells [] all = tt
lacks-cells (cell ∷ cells) all = (lacks-decimal 32 cell (omega arith) (omega (arith, all.0)), lacks-cells cells all.1)

-- no field of an image has a space
pub lacks-image : (i : Layout ℕ) → IsScriptImage i → AllLack 32 (entry_fields (image_line i))
lacks-image i is = (
  refl,
  (
    lacks-decimal 32 i.width (omega arith) (omega (arith, is.width)),
    (
      lacks-decimal 32 i.height (omega arith) (omega (arith, is.height)),
      (lacks-decimal 32 i.stride (omega arith) is.stride, lacks-cells i.cells is.cells),
    ),
  ),
)
