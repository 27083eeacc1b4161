-- The verdict on a program: numbers 1 to 10 and 24, the first that applies, and its place; and the rules of the same numbers, as claims.
use Rattle.std.specs.Prelude.{ℕ, List, [], ◌∷◌, ◌++◌}
use Rattle.theory.specs.Verdict.{Refusal, unplaced, verdict, first_refusal, Rule, unplaced_rule}
use Rattle.theory.specs.declared.Answer.{Answer}
use Rattle.cells.specs.Refusals.{shape_refused, fields_refused, task_ports_refused, copies_refused, mode_ports_refused}
use Rattle.cells.specs.Refusals.{invocations_refused, updates_refused, switches_refused, units_refused, whole_refused, gap_refused}
use Rattle.program.specs.Tables.{Tables}
use Rattle.rules.specs.Shape.{shape_bad, Shaped}
use Rattle.rules.specs.Fields.{field_tests, fields_bad, Fields, field_rules}
use Rattle.rules.specs.Declared.{task_port_tests, task_ports_bad, TaskPorts, task_port_rules, copy_tests, copies_bad, Copies, copy_rules}
use Rattle.rules.specs.Declared.{mode_port_tests, mode_ports_bad, ModePorts, mode_port_rules}
use Rattle.rules.specs.Modes.{invocation_tests, invocations_bad, Invocations, invocation_rules, update_tests, updates_bad, Updates}
use Rattle.rules.specs.Modes.{update_rules, switch_tests, switches_bad, Switches, switch_rules}
use Rattle.rules.specs.Timing.{unit_tests, units_bad, UnitsFit, unit_rules, whole_tests, whole_bad, Whole, whole_rules}
use Rattle.rules.specs.Missing.{gap_bad, NoGap}

-- number 1, asked first, since the other numbers are of tables in shape
abbrev pub shape_refusal : Refusal Tables
shape_refusal = unplaced shape_refused shape_bad

-- numbers 2 to 10 and 24: what every call asks of the program after its own number 1
abbrev pub table_refusals : List (Refusal Tables)
table_refusals =
    record { number = fields_refused; applies = fields_bad; rows = field_tests }
    ∷ record { number = task_ports_refused; applies = task_ports_bad; rows = task_port_tests }
    ∷ record { number = copies_refused; applies = copies_bad; rows = copy_tests }
    ∷ record { number = mode_ports_refused; applies = mode_ports_bad; rows = mode_port_tests }
    ∷ record { number = invocations_refused; applies = invocations_bad; rows = invocation_tests }
    ∷ record { number = updates_refused; applies = updates_bad; rows = update_tests }
    ∷ record { number = switches_refused; applies = switches_bad; rows = switch_tests }
    ∷ record { number = units_refused; applies = units_bad; rows = unit_tests }
    ∷ record { number = whole_refused; applies = whole_bad; rows = whole_tests }
    ∷ unplaced gap_refused gap_bad
    ∷ []

-- the verdict on a program: the first of numbers 1 to 10 and 24 that applies, and 0 where none does
unfoldable pub program_verdict : Tables → ℕ
program_verdict T = verdict (shape_refusal ∷ table_refusals) T

-- the answer on a program: that number with its place
unfoldable pub program_answer : Tables → Answer
program_answer T = first_refusal (shape_refusal ∷ table_refusals) T

-- the rules of numbers 2 to 10, as claims
abbrev pub giotto_rules : List (Rule Tables)
giotto_rules =
    record { number = fields_refused; holds = Fields; rows = field_rules }
    ∷ record { number = task_ports_refused; holds = TaskPorts; rows = task_port_rules }
    ∷ record { number = copies_refused; holds = Copies; rows = copy_rules }
    ∷ record { number = mode_ports_refused; holds = ModePorts; rows = mode_port_rules }
    ∷ record { number = invocations_refused; holds = Invocations; rows = invocation_rules }
    ∷ record { number = updates_refused; holds = Updates; rows = update_rules }
    ∷ record { number = switches_refused; holds = Switches; rows = switch_rules }
    ∷ record { number = units_refused; holds = UnitsFit; rows = unit_rules }
    ∷ record { number = whole_refused; holds = Whole; rows = whole_rules }
    ∷ []

-- the rules of numbers 1 to 10, as claims: Giotto's published rules, as document 01 bounds them
abbrev pub published_rules : List (Rule Tables)
published_rules = unplaced_rule shape_refused Shaped ∷ giotto_rules

-- the rules of numbers 2 to 10 and 24, as claims
abbrev pub table_rules : List (Rule Tables)
table_rules = giotto_rules ++ (unplaced_rule gap_refused NoGap ∷ [])

-- the rules of numbers 1 to 10 and 24, as claims
abbrev pub program_rules : List (Rule Tables)
program_rules = unplaced_rule shape_refused Shaped ∷ table_rules
