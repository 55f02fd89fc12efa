-- The number of each status.
use Rattle.std.specs.Prelude.{ℕ}
use Rattle.cv_base.specs.declared.status.Status.{Status}
use Rattle.cv_base.specs.declared.status.Status.TheVariants.{Fine, Alarm, Rejected, Refused, Usage, ReadFault, WriteFault, Memory, Open, Limit, NotBuilt}

abbrev pub code_of : Status → ℕ
code_of Fine = 0
code_of Alarm = 1
code_of Rejected = 1
code_of Refused = 2
code_of Usage = 3
code_of ReadFault = 4
code_of WriteFault = 5
code_of Memory = 6
code_of Open = 7
code_of Limit = 8
code_of NotBuilt = 9
