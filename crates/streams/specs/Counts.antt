-- What one read or one write answers.
use Rattle.std.specs.Prelude.{ℕ, ◌≤◌, min, ⊤, Option, Some, None, Result, Ok, Err}

-- what a call that is handed n bytes may answer: that it failed, or how many bytes it moved, at most n
abbrev pub Moved : {E : Type 0} → ℕ → Result ℕ E → Type 0
Moved n (Ok k) = k ≤ n
Moved n (Err e) = ⊤

-- how many bytes a call has moved, brought into `0..=most`; none where it failed
abbrev pub clamp_len : Option ℕ → ℕ → ℕ
clamp_len (Some k) most = min k most
clamp_len None most = 0
