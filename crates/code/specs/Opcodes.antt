-- The numbers of the six instructions, as `Opcode` names them.
use Rattle.std.specs.Prelude.{ℕ, ◌≡◌, ◌≤◌, Result, MatchResult}
use Rattle.code.specs.declared.opcode.Opcode.{Opcode}
use Rattle.code.specs.declared.opcode.Opcode.TheVariants.{Call, Schedule, If, Jump, Future, Return}
use Rattle.code.specs.declared.opcode.UnknownOpcode.{UnknownOpcode}
use Rattle.code.specs.Op.{call_number, schedule_number, if_number, jump_number, future_number, return_number, no_number}

abbrev pub opcode_number : Opcode → ℕ
opcode_number Call = call_number
opcode_number Schedule = schedule_number
opcode_number If = if_number
opcode_number Jump = jump_number
opcode_number Future = future_number
opcode_number Return = return_number

-- a number names the instruction that has it, and none from `no_number` on
abbrev pub OpcodeOf : ℕ → Result Opcode UnknownOpcode → Type 0
OpcodeOf n r = MatchResult r (λ opcode. opcode_number opcode ≡ n) (λ unknown. no_number ≤ n)
