use Rattle.std.proofs.Common.{Err, ap}
use Rattle.script_text.proofs.ScriptRead.{not_good, reads_on}
use Rattle.script_text.proofs.script.Script.next.Goals as goal

pub returns-in-Err-Bad-clause-fault : goal.returns-in-Err-Bad-clause-fault
returns-in-Err-Bad-clause-fault c = λ lines images orders read.
    not_good c.args.self.now lines images orders _ c.in-Some.text.now _ c.in-Some.ensures c.saturating_add-number.ensures (c.in-Err-Bad.ensures.bad (ap (λ e. Err e) c.in-Err-Bad.field-0-is)) read

pub returns-clause-read : goal.returns-clause-read
returns-clause-read c = λ lines images orders read.
    reads_on c.args.self.now _ c.in-Ok.line lines images orders c.in-Some.text.now c.in-Some.ensures c.saturating_add-number.ensures c.is_command-self.ensures c.in-Ok.ensures.found c.in-Ok.ensures.follows read
