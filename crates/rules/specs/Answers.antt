-- What the answers and refusals of step, offer and take hold, case by case.
use Rattle.std.specs.Prelude.{Bool, true, false, ℕ, ℤ, Option, Some, None}
use Rattle.rules.specs.Types.{Answer, Halted, Moved, Slept, Passed, Ended, Finished, Waits, Stuck, Taken, Held, Refusal, NoProgram, NoLink, LinkHolds, NoOutput, NoRule, Host, Fault}

-- an answer's process, its channel and value, and whether it tells them as a communication
abbrev pub contents : Answer → Option ℕ × Option (ℕ × ℤ) × Bool
contents (Halted p) = (Some p, None, false)
contents (Moved p) = (Some p, None, false)
contents (Slept p) = (Some p, None, false)
contents (Passed p c v) = (Some p, Some (c, v), true)
contents (Ended p) = (Some p, None, false)
contents Finished = (None, None, false)
contents Waits = (None, None, false)
contents Stuck = (None, None, false)
contents (Taken p c v) = (Some p, Some (c, v), true)
contents (Held c v) = (None, Some (c, v), false)

-- the process that an answer names
abbrev pub process_of : Answer → Option ℕ
process_of a = (contents a).0

-- the channel and the value that an answer names
abbrev pub message_of : Answer → Option (ℕ × ℤ)
message_of a = (contents a).1

-- the number of a refusal
abbrev pub number_of : Refusal → ℕ
number_of NoProgram = 15
number_of NoLink = 16
number_of LinkHolds = 17
number_of NoOutput = 18
number_of NoRule = 20

-- the fault that a refusal is: the host's, with neither line nor byte
abbrev pub fault_of : Refusal → Fault
fault_of r = record { number = number_of r; layer = Host; line = 0; byte = 0 }
