-- The blocks of a tick, supplier after supplier, each sought behind the last: what is known before supplier j, and that it comes to
-- the shares of the tick. Assumes, of what is known, that the schedule is sorted.
use Rattle.std.proofs.Common.{◌≡◌, ℕ, suc, ◌+◌, ◌≤◌, List, length, get_or, set, ℤ, sym, refl, ap, ◌∙◌, subst, ap₂, add-one, arith}
use Rattle.theory.specs.Lists.{each, filled}
use Rattle.theory.proofs.Filled.{filled_more, filled-beyond, filled-all}
use Rattle.cells.specs.Limits.{suppliers}
use Rattle.runs.specs.declared.block.Span.{Span}
use Rattle.runs.specs.declared.turn.Turn.{Turn}
use Rattle.runs.specs.Tick.{Row, turn_of, turn}
use Rattle.runs.specs.Schedule.{schedule_count, rows_of, block_of, Sorted, Behind, found, span_of}
use Rattle.runs.proofs.Blocks.{behind-none, behind-supplier, found-behind}
use Rattle.runs.proofs.Found.{block-found}
use Rattle.machine.specs.declared.State.{State}
use Rattle.machine.specs.declared.Running.{Running}
use Rattle.machine.specs.declared.Running.TheVariants.{Nobody}
use Rattle.machine.specs.declared.Shares.{Shares}
use Rattle.machine.specs.Schedules.{told, who_runs, act_of, moved_of, shares_of}
use Rattle.ticking.specs.Joined.{join_told}
use Rattle.ticking.proofs.Joining.{joined-told}

module _ (S : List ℤ) (s : State) where
  -- before supplier j, from row `from` on: the suppliers below j had their turns, and no later supplier's block begins before that row
  pub record Walked (positions : List ℕ) (running : Running) (from j : ℕ) : Type 0 where
    pub behind : Behind S j s.current from
    pub moved : positions ≡ filled (moved_of S s) j s.positions
    pub who : running ≡ told (who_runs (act_of S s) j)

  -- the walk begins at row 0, before supplier 0
  pub walk-begun : Walked s.positions Nobody 0 0
  walk-begun = record { behind = behind-none S 0 s.current; moved = refl; who = refl }

  -- supplier j has its turn t on the block that is found
  pub walk_more : (positions : List ℕ) (running : Running) (from j : ℕ) (at : Span) (block : List ℤ) (t : Turn) (next : Running)
      → Sorted S
      → from ≤ schedule_count S
      → at ≡ found S from j s.current
      → block ≡ span_of S at
      → t ≡ turn (rows_of block) s.elapsed (record { position = get_or positions j 0; left = s.left })
      → next ≡ join_told running t.job
      → Walked positions running from j
      → Walked (set positions j t.position) next at.end (j + 1)
  walk_more positions running from j at block t next o l is_found is_Block is-turn is-joined h = record {
    behind =
        subst (Behind S (j + 1) s.current) (sym (ap (λ (at : Span). at.end) is_found))
        (behind-supplier S j (j + 1) (suc s.current) s.current _ (omega arith) (found-behind S j s.current from h.behind));
    moved = filled_more (moved_of S s) s.positions j positions t.position h.moved (ap (λ (t : Turn). t.position) own_turn);
    who =
        is-joined
        ∙ joined-told running t.job (who_runs (act_of S s) j) (act_of S s j) h.who (ap (λ (t : Turn). t.job) own_turn)
        ∙ ap (λ (n : ℕ). told (who_runs (act_of S s) n)) (sym (add-one j));
  }
    where
      -- the rows found are the supplier's block
      rows : rows_of block ≡ block_of S j s.current
      rows = ap rows_of is_Block ∙ ap (λ (at : Span). rows_of (span_of S at)) is_found ∙ block-found S j s.current from o l h.behind

      -- its position is still as it was at the tick's start
      position : get_or positions j 0 ≡ get_or s.positions j 0
      position = ap (λ (l : List ℕ). get_or l j 0) h.moved ∙ filled-beyond (moved_of S s) s.positions 0 j j (omega arith)

      -- the turn of a supplier on the part that the walk found is its own turn
      own_turn : t ≡ turn_of (moved_of S s j) (act_of S s j)
      own_turn = is-turn ∙ ap₂ (λ (rows : List Row) (position : ℕ). turn rows s.elapsed (record { position = position; left = s.left })) rows position

  -- once the first n suppliers had their turns, who runs and the positions are those of n suppliers
  walk-all : (positions : List ℕ) (running : Running) (from n : ℕ) → length s.positions ≡ n → Walked positions running from n
      → ◌≡◌ {A = Shares} (record { running = running; positions = positions })
      (record { running = told (who_runs (act_of S s) n); positions = each (moved_of S s) n 0 })
  walk-all positions running from n k h =
      ap₂ (λ (r : Running) (l : List ℕ). record { running = r; positions = l }) h.who (h.moved ∙ filled-all (moved_of S s) s.positions 0 n k)

  -- once all suppliers had their turns, who runs and the positions are the shares of the tick
  pub walk-ended : (positions : List ℕ) (running : Running) (from j : ℕ) → j ≡ suppliers → length s.positions ≡ suppliers
      → Walked positions running from j → record { running = running; positions = positions } ≡ shares_of S s
  walk-ended positions running from j e k h =
      walk-all positions running from suppliers k (subst (Walked positions running from) e h)
