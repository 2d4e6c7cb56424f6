use Rattle.std.proofs.Common.{map, arith, ◌∙◌}
use Rattle.std.proofs.lemmas.Grind.{common_steps}
use Rattle.std.proofs.lemmas.List.{take_all}
use Rattle.texts.proofs.Beginnings.{starts_before}
use Rattle.image_model.specs.Layout.{Fits}
use Rattle.imgref.specs.Image.{vec_layout}
use Rattle.script_text.specs.Line.{IsScriptImage}
use Rattle.script_text.proofs.ScriptGood.{own_script}
use Rattle.script_text.proofs.OutputImages.{at_image, more_images}
use Rattle.script_text.proofs.output.push_images.Goals as goal

pub push_image-requires-clause-fits : goal.push_image-requires-clause-fits
push_image-requires-clause-fits c = at_image Fits vec_layout c.args.images.now c.loop-image.image-index c.image-item.result c.loop-image-test.true c.image-item.is c.requires

pub loop-image-preserved : goal.loop-image-preserved
loop-image-preserved c = record {
  text = grind (arith, common_steps);
  len = c.in_ok-push_image.ensures.len ∙ c.loop-image.invariant.len;
  kept = starts_before _ _ _ c.in_ok-push_image.ensures.kept c.loop-image.invariant.kept;
  good = more_images IsScriptImage vec_layout c.args.images.now c.loop-image.image-index c.image-item.result c.loop-image-test.true c.image-item.is c.loop-image.invariant.good c.in_ok-push_image.ensures.good;
}

pub returns-clause-again : goal.returns-clause-again
returns-clause-again c = own_script (map vec_layout c.args.images.now) (rw (take_all c.loop-image.image-index c.args.images.now (omega (arith, c.loop-image-test.false))) at c.loop-image.invariant.good)
