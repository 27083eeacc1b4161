-- Where the modes of a listing begin and are entered, counted from the tables; and what lists of that say of the listing.
use Rattle.std.specs.Prelude.{ℕ, ◌+◌, ◌≤◌, ◌<◌, ◌≡◌, List, length, get_or}
use Rattle.theory.specs.Lists.{sum}
use Rattle.program.specs.Tables.{Tables, mode_count}
use Rattle.program.specs.Units.{units}
use Rattle.program.specs.Program.{program_of}
use Rattle.code.specs.Listing.{block_address, entry_address}
use Rattle.code.specs.Compile.{listing_of}
use Rattle.layout.specs.declared.counts.Counts.{Counts}
use Rattle.layout.specs.Counts.{counts_in, before_entry, size_of, most_code}

-- how many rows of these tables are due at unit k of mode m
abbrev pub unit_counts : Tables → ℕ → ℕ → ℕ → Counts
unit_counts T sensors m k = counts_in T.invocations T.updates T.switches sensors m (units T m) k

-- how many instructions mode m has
abbrev pub size_in : Tables → ℕ → ℕ → ℕ
size_in T sensors m = sum (λ k. size_of (unit_counts T sensors m k)) (units T m)

-- where mode m begins, behind the jump at address 0
abbrev pub start_in : Tables → ℕ → ℕ → ℕ
start_in T sensors m = 1 + sum (size_in T sensors) m

-- where unit 0 of mode m is entered
abbrev pub entry_in : Tables → ℕ → ℕ → ℕ
entry_in T sensors m = start_in T sensors m + before_entry (unit_counts T sensors m 0)

-- lists with room for all modes say where each begins and where its unit 0 is entered; the end is that of the listing
pub record LaidOut (T : Tables) (begins enters : List ℕ) (end : ℕ) : Type 0 where
  pub starts : mode_count T ≤ length begins → (m : ℕ) → m < mode_count T → get_or begins m 0 ≡ block_address (program_of T) m 0
  pub entries : mode_count T ≤ length enters → (m : ℕ) → m < mode_count T → get_or enters m 0 ≡ entry_address (program_of T) m 0
  pub length : end ≡ length (listing_of T)

-- no number of a list exceeds the longest code, so that each fits a word
abbrev pub Small : List ℕ → Type 0
Small list = (m : ℕ) → get_or list m 0 ≤ most_code
