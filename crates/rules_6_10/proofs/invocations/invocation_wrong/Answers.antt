-- `rules_6_10::invocations::invocation_wrong` meets its contract: each part of the rule is asked of the row.
use Rattle.std.proofs.Common.{rules}
use mathlib.Core.Path.{refl}
use mathlib.Core.Bool.{not}
use Rattle.program.specs.Tables.{tables_in}
use Rattle.program.specs.Sets.{is_mode_port, is_input, is_destination}
use Rattle.rules.specs.Modes.{invocation_wrong, unreadable, some_output, output_with, some_input, input_with}
use Rattle.rules_6_10.proofs.invocations.invocation_wrong.Goals as goal

pub returns : goal.returns
unfolding invocation_wrong some_output output_with some_input input_with
returns c start =
    let T = tables_in c.args.tables.now start in
    let m = c.named-m.result.0 in
    let t = c.named-t.result.0 in
    let d = c.named-d.result.0 in
    let outputs = c.some_task_port-outputs.ensures start (λ p. not (is_mode_port T m p)) (λ p l b r. search rules) in
    let sources = c.some_source-sources.ensures start (unreadable T m) (λ p l b r. search rules) in
    let destinations = c.some_destination-destinations.ensures T refl (λ p. not (is_input T t p)) (λ p l b r. search rules) in
    let inputs = c.some_task_port-inputs.ensures start (λ p. not (is_destination T d p)) (λ p l b r. search rules) in
    simp (c.has_invocation_clash-clash.ensures start, c.is_always-always.ensures T refl, inputs, destinations, sources, outputs, c.named-d.ensures, c.named-t.ensures, c.named-m.ensures) refl
