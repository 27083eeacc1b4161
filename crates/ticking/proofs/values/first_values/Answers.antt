-- `ticking::values::first_values` meets its contract: after k ports the first k values are those of the first k rows.
use Rattle.std.proofs.Common.{◌≡◌, ℕ, replicate, pos, set, refl, ap, ◌∙◌, arith, w32, to_z, of_z, rules}
use Rattle.theory.specs.Lists.{filled}
use Rattle.theory.proofs.Filled.{filled_more, filled-all}
use Rattle.cells.specs.Limits.{max_ports}
use Rattle.cells.proofs.Ints.{back}
use Rattle.cells.proofs.Names.{name-small}
use Rattle.program.specs.Tables.{port_first}
use Rattle.ticking.proofs.values.first_values.Goals as goal

pub loop-k-preserved : goal.loop-k-preserved
loop-k-preserved c =
    let l = c.loop-k in
    let x = c.first.result in
    let p = c.of-p.result.0 in
    let small = name-small l.k (omega arith) in
    let named : p ≡ l.k = c.of-p.ensures ∙ small in (
      search rules,
      λ T e.
          let told : x ≡ port_first T l.k = simp (c.first.ensures, named, e) refl in
          c.put.ensures
          ∙ ap (λ (k : ℕ). set l.values k (to_z w32 (of_z w32 x))) named
          ∙ filled_more (port_first T) (replicate max_ports (pos 0)) l.k l.values (to_z w32 (of_z w32 x)) (l.invariant.1 T e) (back x c.first.type_inv ∙ told),
    )

pub returns : goal.returns
returns c T e =
    let all : c.loop-k.k ≡ max_ports = omega arith in
    c.loop-k.invariant.1 T e
    ∙ ap (λ (n : ℕ). filled (port_first T) n (replicate max_ports (pos 0))) all
    ∙ filled-all (port_first T) (replicate max_ports (pos 0)) (pos 0) max_ports refl
