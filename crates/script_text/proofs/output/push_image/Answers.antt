use Rattle.std.proofs.Common.{◌≡◌, ◌++◌, arith}
use Rattle.std.proofs.lemmas.List.Elements.{recursion_from_All}
use Rattle.imgref.specs.Image.{vec_layout}
use Rattle.texts.specs.Fields.{IsPixel}
use Rattle.script_text.specs.Line.{line_of, sizes_fields}
use Rattle.script_text.proofs.OutputImages.{image_text_is, pushed_image}
use Rattle.script_text.proofs.output.push_image.Goals as goal

pub returns-clause-text : goal.returns-clause-text
returns-clause-text c =
    let l = vec_layout c.args.image.now in
    let sizes : c.push_sizes.new.text.items ≡ c.args.text.now.items ++ line_of (sizes_fields l) = rw (c.width.ensures.value, c.height.ensures.value, c.stride.ensures.value) at c.in_ok-push_sizes.ensures.text in
    pushed_image _ _ _ _ _ _ _ (image_text_is l) sizes (rw (c.deref.ensures.value, c.buf.ensures) at c.in_ok-push_pixels.ensures.text) c.in_ok-extend_from_slice.ensures.items

pub returns-clause-good : goal.returns-clause-good
returns-clause-good c = record {
  width = omega arith;
  height = omega arith;
  stride = omega arith;
  stride_positive = omega arith;
  holds_width = omega arith;
  cells = recursion_from_All IsPixel _ (rw (c.deref.ensures.value, c.buf.ensures) at c.in_ok-push_pixels.ensures.pixels);
  fits = c.requires.fits;
}
