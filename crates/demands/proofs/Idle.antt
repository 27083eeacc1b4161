-- A supplier without tasks and rows is accepted, so a system is by the verdicts of the suppliers that have something to do.
-- The premises are the statements'.
use mathlib.Core.Path.{ap}
use mathlib.Core.Logic.{⊎_elim}
use Rattle.theory.specs.declared.Answer.{Answer}
use Rattle.suppliers.proofs.Idle as suppliers
use Rattle.demands.specs.Idle.{IdleAccepted, asked_of, AcceptedOf}

pub idle-accepted : IdleAccepted
idle-accepted L w l i = suppliers.idle-accepted L w l i.no_rows i.no-tasks

pub accepted-of : AcceptedOf
accepted-of Y w c each = record {
  windows = w;
  compiled = c;
  suppliers = λ s l. ⊎_elim (λ i. ap (λ (a : Answer). a.number) (idle-accepted (asked_of Y s) w l i)) (λ v. v) (each s l);
}
