-- What every call that is lent the tables and more asks of them after its own 1: numbers 2 to 11 and 24.
use Rattle.std.specs.Prelude.{[], ◌∷◌, ◌++◌}
use Rattle.theory.specs.Verdict.{first_refusal}
use Rattle.theory.specs.declared.Answer.{Answer}
use Rattle.program.specs.Tables.{Tables}
use Rattle.rules.specs.Verdict.{table_refusals}
use Rattle.code.specs.Compile.{long_refusal}

-- the first of numbers 2 to 11 and 24 that applies to the tables, with its place
unfoldable pub tables_and_code_answer : Tables → Answer
tables_and_code_answer T = first_refusal (table_refusals ++ (long_refusal ∷ [])) T
