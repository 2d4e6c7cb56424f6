-- What each program over devices prints for the faults that all of them may end with.
use Rattle.std.specs.Prelude.{ℕ, List, codes}

abbrev pub memory_text : List ℕ
memory_text = codes "fault memory"

abbrev pub input_text : List ℕ
input_text = codes "fault input"

abbrev pub output_text : List ℕ
output_text = codes "fault output"
