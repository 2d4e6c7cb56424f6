use Rattle.std.proofs.Common.{ap, sym, ◌∙◌, refl, arith}
use Rattle.script_text.specs.Script.{whole_lines, lines_of}
use Rattle.script_text.proofs.ScriptLines.{lines_of-is, length-lines_of}
use Rattle.script_text.proofs.ScriptGood.{none_good}
use Rattle.script_text.proofs.script.Script.new.Goals as goal

pub returns : goal.returns
returns c = record {
  script = record { texts = refl; images_in_range = tt; orders_in_range = tt };
  good = none_good (lines_of c.args.bytes.now);
  left = lines_of-is c.args.bytes.now ∙ ap whole_lines (sym c.new.ensures);
  within = omega arith;
  countable = omega (arith, length-lines_of c.args.bytes.now);
  commanded = refl;
}
