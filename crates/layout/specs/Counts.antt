-- The instructions of a block by their kind, counted: from the tables, and of a program. How far it is from the beginning of a
-- block to each of its parts, and the most that this, a mode and the listing come to within document 01's limits.
use Rattle.std.specs.Prelude.{ℕ, suc, ◌+◌, ◌*◌, List, ℤ, length}
use Rattle.cells.specs.Limits.{max_ports, max_modes, max_invocations, max_updates, max_switches, max_units}
use Rattle.program.specs.Tables.{invocation_width, update_width, switch_width}
use Rattle.program.specs.Units.{due_rows}
use Rattle.program.specs.Program.{Program, Mode, due_invocations, due_updates, due_switches}
use Rattle.layout.specs.declared.counts.Counts.{Counts}

-- how many rows of these tables are due at unit k of mode m, which has u units
abbrev pub counts_in : List ℤ → List ℤ → List ℤ → ℕ → ℕ → ℕ → ℕ → Counts
counts_in invocations updates switches sensors m u k =
    record {
      invocations = length (due_rows invocation_width invocations m u k (λ i. i));
      updates = length (due_rows update_width updates m u k (λ i. i));
      switches = length (due_rows switch_width switches m u k (λ i. i));
      sensors = sensors;
    }

-- how many rows are due at unit k of a mode of a program
abbrev pub counts_of : Program → Mode → ℕ → Counts
counts_of P M k =
    record {
      invocations = length (due_invocations M k);
      updates = length (due_updates M k);
      switches = length (due_switches M k);
      sensors = length P.sensors;
    }

-- from the beginning of a block to its switch tests
abbrev pub before_tests : Counts → ℕ
before_tests c = c.invocations + (c.updates + c.sensors)

-- from the beginning of a block to its entry
abbrev pub before_entry : Counts → ℕ
before_entry c = before_tests c + c.switches

-- from the beginning of a block to its `future`
abbrev pub before_future : Counts → ℕ
before_future c = before_entry c + 2 * c.invocations

-- from the beginning of a block to its end
abbrev pub size_of : Counts → ℕ
size_of c = before_tests c + (c.switches + (2 * c.invocations + (2 + 2 * c.switches)))

-- the counts where every row that the tables may have is due
abbrev pub most_counts : Counts
most_counts = record { invocations = max_invocations; updates = max_updates; switches = max_switches; sensors = max_ports }

-- the most instructions that a block can have
abbrev pub most_block : ℕ
most_block = size_of most_counts

-- the most instructions that a mode can have: its units are one more than the limit where their least common multiple exceeds it
abbrev pub most_mode : ℕ
most_mode = suc max_units * most_block

-- the most instructions that a listing can have
abbrev pub most_code : ℕ
most_code = 1 + max_modes * most_mode
