-- The refusals of tables that have their shape, in two parts: what is declared, and what the modes do.
use Rattle.std.specs.Prelude.{List, take, drop}
use Rattle.theory.specs.Verdict.{Refusal}
use Rattle.program.specs.Tables.{Tables}
use Rattle.rules.specs.Verdict.{table_refusals}

-- numbers 2 to 5: fields, task ports, guards and copies, mode ports
abbrev pub declared_refusals : List (Refusal Tables)
declared_refusals = take 4 table_refusals

-- numbers 6 to 10 and 24: invocations, updates, switches, units, frequencies, gaps
abbrev pub mode_refusals : List (Refusal Tables)
mode_refusals = drop 4 table_refusals
