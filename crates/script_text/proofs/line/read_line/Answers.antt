use Rattle.script_text.proofs.LineTexts.{line_bad}
use Rattle.script_text.proofs.line.read_line.Goals as goal

pub returns-clause-bad : goal.returns-clause-bad
returns-clause-bad c = line_bad c.parse.result c.args.text.now c.parse.ensures
