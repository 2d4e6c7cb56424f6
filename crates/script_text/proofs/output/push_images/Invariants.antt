use Rattle.std.proofs.Common.{◌≡◌, ◌++◌, length, map, take, All}
use Rattle.std.specs.Io.{StartsWith}
use Rattle.imgref.specs.Image.{vec_layout}
use Rattle.script_text.specs.Line.{IsScriptImage}
use Rattle.script_text.specs.Output.{images_text}
use Rattle.script_text.proofs.output.push_images.Given as goal

abbrev pub invariant-loop-image : goal.invariant-loop-image
invariant-loop-image l = record {
  text : l.text.items ≡ l.initial.text.items ++ images_text (map vec_layout (take l.image-index l.images));
  len : length l.block ≡ 512;
  kept : StartsWith l.text.items l.initial.text.items;
  good : All IsScriptImage (map vec_layout (take l.image-index l.images));
}
