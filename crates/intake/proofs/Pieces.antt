-- The tables as they lie in the room, one after the other: what stands past them does not matter, and where they begin and how many
-- numbers they have decides.
use Prim.Native.Nat.{ℕ, zero, suc, ◌+◌, ◌<◌, ◌≤◌}
use mathlib.Core.Path.{◌≡◌, refl, sym, ap, ap₂, ◌∙◌}
use mathlib.Core.List.{List, [], ◌∷◌, ◌++◌}
use native.Mathlib.Omega.{arith}
use lib.IntN.{ℤ}
use lib.ListN.{length, get_or, take, drop, length-drop}
use lib.Seq.{take-append-le, drop-append-le, take_all, drop_at, get_or-set_same, get_or-set_other}
use Rattle.intake.specs.Change.{nowhere, with_table}
use Rattle.intake.specs.Heard.{piece}
use Rattle.intake.specs.declared.state.Intake.{Intake}
use Rattle.intake.specs.declared.state.Span.{Span}

-- the first tables, by their number
abbrev pub pieces : (ℕ → List ℤ) → ℕ → List (List ℤ)
pieces t zero = []
pieces t (suc k) = pieces t k ++ (t k ∷ [])

-- tables that are the same one by one are the same together
pub pieces-same : (t u : ℕ → List ℤ) (n : ℕ) → ((k : ℕ) → k < n → t k ≡ u k) → pieces t n ≡ pieces u n
pieces-same t u zero e = refl
pieces-same t u (suc n) e =
    ap₂ (λ (ts : List (List ℤ)) (l : List ℤ). ts ++ (l ∷ [])) (pieces-same t u n (λ k h. e k (omega arith))) (e n (omega arith))

-- where a table ends
abbrev pub end_of : Intake → ℕ → ℕ
end_of i k =
    let span = get_or i.spans k nowhere in
    span.from + span.len

-- a table that ends within a room does not see what is put behind
piece-within : (i : Intake) (l more : List ℤ) (k : ℕ) → end_of i k ≤ length l → piece i (l ++ more) k ≡ piece i l k
piece-within i l more k h =
    let span = get_or i.spans k nowhere in
    let from = span.from in
    let n = span.len in
    ap (take n) (drop-append-le from l more (omega arith))
    ∙ take-append-le n (drop from l) more (simp length-drop (omega arith))

-- tables that end within a room do not see what stands behind it
pub pieces-within : (i : Intake) (l more other : List ℤ) (n : ℕ) → ((k : ℕ) → k < n → end_of i k ≤ length l)
    → pieces (piece i (l ++ more)) n ≡ pieces (piece i (l ++ other)) n
pieces-within i l more other n h =
    pieces-same (piece i (l ++ more)) (piece i (l ++ other)) n
    (λ k b. piece-within i l more k (h k b) ∙ sym (piece-within i l other k (h k b)))

-- the next table begins at the end of the room, and its numbers stand behind
module _ (i : Intake) (l zs : List ℤ) (n : ℕ) (here : length l ≡ i.at) (many : length zs ≡ n)
    (there : i.table < length i.spans) where
  -- where the next table lies
  abbrev place : Span
  place = record { from = i.at; len = n }

  -- the tables before the next one stay as they are
  earlier : (k : ℕ) → k < i.table → piece (with_table i n) (l ++ zs) k ≡ piece i (l ++ zs) k
  earlier k h =
      ap (λ (p : Span). take p.len (drop p.from (l ++ zs))) (get_or-set_other i.spans i.table k place nowhere (λ e. omega (arith, e)))

  -- the next table has the numbers that stand behind
  latest : piece (with_table i n) (l ++ zs) i.table ≡ zs
  latest =
      ap (λ (p : Span). take p.len (drop p.from (l ++ zs))) (get_or-set_same i.spans i.table place nowhere there)
      ∙ ap (take n) (drop_at l zs i.at here)
      ∙ take_all n zs (omega arith)

  -- the tables with the next one are those before it and its numbers
  pub pieces_more : pieces (piece (with_table i n) (l ++ zs)) (suc i.table) ≡ pieces (piece i (l ++ zs)) i.table ++ (zs ∷ [])
  pieces_more =
      ap₂ (λ (ts : List (List ℤ)) (t : List ℤ). ts ++ (t ∷ []))
      (pieces-same (piece (with_table i n) (l ++ zs)) (piece i (l ++ zs)) i.table earlier) latest
