-- What the definitions compute with: a theorem with the line `unfolding computed` under its signature opens them all, so that
-- `refl` runs a definition on a case.
use Rattle.theory.specs.Search.{any, first_from, first}
use Rattle.cells.specs.Cell.{name_of, num_at, name_at, word_at}
use Rattle.readings.specs.Reading.{inside, is_missing, is_value}
use Rattle.program.specs.Sets.{is_kind, may_take, may_give, is_task_port, mode_port_at, is_input, is_output, is_mode_port, copies_from}
use Rattle.program.specs.Sets.{copies_to, is_source, is_destination}
use Rattle.program.specs.Units.{misses, row_misses, is_multiple, units}
use Rattle.rules.specs.Declared.{same_port, task_port_clash, task_ports_bad, guard_wrong, copy_clash, copies_bad, mode_port_clash, mode_ports_bad}
use Rattle.rules.specs.Fields.{in_range, port_bad, task_bad, task_port_bad, always_fits, interval_fits, driver_bad, copy_bad, mode_bad, mode_port_bad}
use Rattle.rules.specs.Fields.{invocation_bad, update_bad, switch_bad, start_bad, fields_bad}
use Rattle.rules.specs.Modes.{own_port, output_with, input_with, port_with, source_with, destination_with, some_output, some_input, some_port}
use Rattle.rules.specs.Modes.{some_source, some_destination, unreadable, invocation_clash, invocation_wrong, invocations_bad, update_clash}
use Rattle.rules.specs.Modes.{update_wrong, updates_bad, switch_clash, switch_wrong, switches_bad}
use Rattle.rules.specs.Missing.{for_missing, gap_at, gap_bad}
use Rattle.rules.specs.Shape.{bad_slice, bad_length, shape_bad}
use Rattle.rules.specs.Timing.{units_wrong, units_bad, not_whole, whole_wrong, whole_bad}
use Rattle.rules.specs.Verdict.{program_verdict, program_answer}
use Rattle.code.specs.Compile.{listing_of, code_long, slice_short, compile_verdict}
use Rattle.code.specs.Listing.{listing}
use Rattle.runs.specs.Windows.{window_has, in_window, share_tick}
use Rattle.suppliers.specs.Schedule.{dispatch_fits, idle_fits, precedes, row_wrong, part_bad, row_count, past_part, joined_bad}
use Rattle.suppliers.specs.Supplier.{part_shape_bad, part_verdict, part_answer, supplier_verdict}
use Rattle.suppliers.specs.Windows.{window_wrong, windows_bad, windows_shape_bad, windows_verdict, windows_answer}
use Rattle.machine.specs.Advance.{fresh_answer, advance_shape_bad, state_out, advance_verdict, advance_answer}
use Rattle.text.specs.Shipped.{answer_line, is_larger, shipped}

unfoldable pub computed : Unit {0}
unfolding any first_from first name_of num_at name_at word_at inside is_missing is_value is_kind may_take may_give is_task_port mode_port_at is_input is_output is_mode_port copies_from copies_to is_source is_destination misses row_misses is_multiple units same_port task_port_clash task_ports_bad guard_wrong copy_clash copies_bad mode_port_clash mode_ports_bad in_range port_bad task_bad task_port_bad always_fits interval_fits driver_bad copy_bad mode_bad mode_port_bad invocation_bad update_bad switch_bad start_bad fields_bad own_port output_with input_with port_with source_with destination_with some_output some_input some_port some_source some_destination unreadable invocation_clash invocation_wrong invocations_bad update_clash update_wrong updates_bad switch_clash switch_wrong switches_bad for_missing gap_at gap_bad bad_slice bad_length shape_bad units_wrong units_bad not_whole whole_wrong whole_bad program_verdict program_answer listing_of code_long slice_short compile_verdict listing window_has in_window share_tick dispatch_fits idle_fits precedes row_wrong part_bad row_count past_part joined_bad part_shape_bad part_verdict part_answer supplier_verdict window_wrong windows_bad windows_shape_bad windows_verdict windows_answer fresh_answer advance_shape_bad state_out advance_verdict advance_answer answer_line is_larger shipped
computed = tt
