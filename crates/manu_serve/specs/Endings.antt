-- The number and the text of each ending.
use Rattle.std.specs.Prelude.{ℕ, List, codes, Option, Some, None}
use Rattle.manu_serve.specs.declared.endings.Status.{Status}
use Rattle.manu_serve.specs.declared.endings.Status.TheVariants.{Done, BadHeader, ReadFault, WriteFault, Limit, Memory, Usage}

-- the number by which the program ends
abbrev pub number_of : Status → ℕ
number_of Done = 0
number_of BadHeader = 2
number_of ReadFault = 4
number_of WriteFault = 5
number_of Limit = 6
number_of Memory = 7
number_of Usage = 64

-- the text that the program then says on standard error
abbrev pub said_of : Status → Option (List ℕ)
said_of Done = None
said_of BadHeader = Some (codes "manu: bad header")
said_of ReadFault = Some (codes "manu: read fault")
said_of WriteFault = Some (codes "manu: write fault")
said_of Limit = Some (codes "manu: limit")
said_of Memory = Some (codes "manu: memory")
said_of Usage = Some (codes "manu: usage: manu run [--still]")
