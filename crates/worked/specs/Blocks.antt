-- Blocks of schedule code that tell timeouts, idles and cut-off dispatches apart, and what runs in them tick by tick.
use Rattle.std.specs.Prelude.{ℕ, zero, suc, List, [], ◌∷◌, ℤ}
use Rattle.runs.specs.Tick.{dispatch, idle, Row, Act, Place, doing, tick}
use Rattle.suppliers.specs.Supplier.{supplier_verdict}
use Rattle.theory.specs.declared.Answer.{Answer}
use Rattle.worked.specs.Programs.{numbers, asked}

-- a row that dispatches a job up to a timeout, and one that idles up to it
abbrev pub dispatch_to : ℕ → ℕ → Row
dispatch_to job timeout = record { kind = dispatch; job = job; timeout = timeout }

abbrev pub idle_to : ℕ → Row
idle_to timeout = record { kind = idle; job = 0; timeout = timeout }

-- the place at a block's start, with these remaining times
abbrev pub from : List ℕ → Place
from left = record { position = 0; left = left }

-- what runs in n ticks of a block from a place, when e ticks have gone by
abbrev pub acts : List Row → ℕ → ℕ → Place → List Act
acts block zero e s = []
acts block (suc n) e s = doing block e s ∷ acts block n (suc e) (tick block e s)

-- the place after n ticks of a block from a place, when e ticks have gone by
abbrev pub place : List Row → ℕ → ℕ → Place → Place
place block zero e s = s
place block (suc n) e s = place block n (suc e) (tick block e s)

-- F's supplier with an idle row and timeouts inside the units. In the block at 9: idle to 1, t2 to 3, t1 to 4; in the block at 15: t2,
-- t1, to 5. With worst-case times 4 and 2, t2 runs in ticks 1, 2, 5 and 6, t1 in ticks 3, 7, 8 and 9.
abbrev pub cut_off : List ℤ
cut_off = numbers
    (0 ∷ 9 ∷ 1 ∷ 0 ∷ 1 ∷ 0 ∷ 9 ∷ 0 ∷ 1 ∷ 3 ∷ 0 ∷ 9 ∷ 0 ∷ 0 ∷ 4 ∷ 0 ∷ 15 ∷ 0 ∷ 1 ∷ 5 ∷ 0 ∷ 15 ∷ 0 ∷ 0 ∷ 5 ∷ [])

-- the answer on `cut_off` for this worst-case time of t1 and two windows, each from a tick to a tick
abbrev pub cut_off_answer : ℕ → ℕ → ℕ → ℕ → ℕ → Answer
cut_off_answer worst1 from1 to1 from2 to2 =
    supplier_verdict (asked worst1 (numbers (0 ∷ 0 ∷ from1 ∷ to1 ∷ 0 ∷ 0 ∷ from2 ∷ to2 ∷ [])) cut_off)
