-- Units: "the units of a mode are the least common multiple of its frequencies (1 if none)"; when a row is due.
use Rattle.std.specs.Prelude.{ℕ, suc, ◌/◌, ◌%◌, ◌≤◌, ◌<◌, ◌≡◌, Bool, not, ◌&&◌, ◌||◌, List, ◌⊎◌, eqb, ℤ}
use Rattle.std.specs.Int.{◌∣◌}
use Rattle.theory.specs.Search.{any, first}
use Rattle.theory.specs.Lists.{those}
use Rattle.cells.specs.Cell.{rows_in}
use Rattle.cells.specs.Limits.{max_units}
use Rattle.program.specs.Tables.{Tables, row_mode, row_frequency, invocation_width, update_width, switch_width, invocation_count}
use Rattle.program.specs.Tables.{invocation_mode}
use Rattle.program.specs.Tables.{invocation_frequency, update_count, update_mode, update_frequency, switch_count, switch_mode}
use Rattle.program.specs.Tables.{switch_frequency}

-- u is not a multiple of the frequency f
unfoldable pub misses : ℕ → ℕ → Bool
misses u f = not (eqb (u % f) 0)

-- row i of invocations, updates or switches is of mode m, and u is not a multiple of its frequency
unfoldable pub row_misses : ℕ → List ℤ → ℕ → ℕ → ℕ → Bool
row_misses width t m u i = eqb (row_mode width t i) m && misses u (row_frequency width t i)

-- u is a multiple of every frequency of mode m
unfoldable pub is_multiple : Tables → ℕ → ℕ → Bool
is_multiple T m u =
    not
    (any (row_misses invocation_width T.invocations m u) (invocation_count T)
    || any (row_misses update_width T.updates m u) (update_count T)
    || any (row_misses switch_width T.switches m u) (switch_count T))

-- the least number from 1 to 256 that is a multiple of every frequency of mode m; 257 where there is none
unfoldable pub units : Tables → ℕ → ℕ
units T m = suc (first (λ u. is_multiple T m (suc u)) max_units)

-- a row of frequency f is due at unit k of a mode of u units when k is a multiple of u / f
abbrev pub due : ℕ → ℕ → ℕ → Bool
due u f k = eqb (k % (u / f)) 0

-- row i of invocations, updates or switches is of mode m, which has u units, and due at unit k
unfoldable pub row_due : ℕ → List ℤ → ℕ → ℕ → ℕ → ℕ → Bool
row_due width t m u k i = eqb (row_mode width t i) m && due u (row_frequency width t i) k

-- what `row` gives of each row that is of mode m, which has u units, and due at unit k, in table order
abbrev pub due_rows : {A : Type 0} → ℕ → List ℤ → ℕ → ℕ → ℕ → (ℕ → A) → List A
due_rows width t m u k row = those (row_due width t m u k) row (rows_in width t) 0

-- f is a mode frequency of m (001, section 3.2), as a claim
abbrev pub Frequency : Tables → ℕ → ℕ → Type 0
Frequency T m f =
    ((i : ℕ) × (i < invocation_count T) × ((invocation_mode T i ≡ m) × (invocation_frequency T i ≡ f)))
    ⊎ (((i : ℕ) × (i < update_count T) × ((update_mode T i ≡ m) × (update_frequency T i ≡ f)))
    ⊎ ((i : ℕ) × (i < switch_count T) × ((switch_mode T i ≡ m) × (switch_frequency T i ≡ f))))

-- u is a multiple of each mode frequency of m, as a claim
abbrev pub Multiple : Tables → ℕ → ℕ → Type 0
Multiple T m u = (f : ℕ) → Frequency T m f → f ∣ u

-- u is the least common multiple of the frequencies of m: a multiple of each that divides every such multiple
pub record Units (T : Tables) (m u : ℕ) : Type 0 where
  pub some : 1 ≤ u
  pub multiple : Multiple T m u
  pub least : (w : ℕ) → Multiple T m w → u ∣ w
