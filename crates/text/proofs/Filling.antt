-- A page that is filled line by line: what stands on it, and when it has a line at least.
use Prim.Native.Nat.{ℕ, zero, suc, ◌+◌, ◌-◌, ◌≤◌, ◌<◌}
use mathlib.Core.Path.{◌≡◌, refl, sym, ap, ◌∙◌}
use mathlib.Core.List.{List, [], ◌++◌}
use native.Mathlib.Decide.{dec_lt}
use native.Mathlib.Numerals.{add-one}
use native.Mathlib.Omega.{arith}
use lib.ListN.{length, get_or, take, drop, length-append, length-drop}
use lib.Seq.{slice_empty, take_at, drop-append-add, drop-drop}
use borrow.Author.Tests.{lt-ltb, le-ltb}
use Rattle.code.specs.Op.{Op, faulty}
use Rattle.text.specs.Listing.{line_of, lines_from}
use Rattle.text.specs.Line.{room, text_of, Holds}
use Rattle.text.specs.Page.{Laid, lines_of, PageWritten, page_end}
use Rattle.text.specs.declared.line.Line.{Line}
use Rattle.text.proofs.Pages.{lines_more, pages-join}

-- a page has come to an instruction: from here it ends where it was to end from its start
abbrev pub Paged : List Op → ℕ → ℕ → ℕ → ℕ → Type 0
Paged os size from next len = page_end (length os - next) os size next len ≡ page_end (length os - from) os size from 0

module _ (os : List Op) (size from next len : ℕ) (p : Paged os size from next len) where
  -- a page ends where there is no room for any line
  pub paged-full : size - len < room → next ≡ page_end (length os - from) os size from 0
  paged-full h = sym (stops (length os - next)) ∙ p
    where
      stops : (left : ℕ) → page_end left os size next len ≡ next
      stops zero = refl
      stops (suc left) = rw (lt-ltb (size - len) room h, page_end)

  -- a page ends where there is no instruction left
  pub paged-last : length os ≤ next → next ≡ page_end (length os - from) os size from 0
  paged-last h = let z : 0 ≡ length os - next = omega arith in ap (λ (k : ℕ). page_end k os size next len) z ∙ p

  -- a page with room for any line goes on by a line where an instruction is left
  pub paged-more : (end : ℕ) → next < length os → room ≤ size - len → end ≡ len + length (line_of next (get_or os next faulty)) → Paged os size from (next + 1) end
  paged-more end l h e =
      let z : length os - next ≡ suc (length os - (next + 1)) = omega arith in
      ap (page_end (length os - (next + 1)) os size (next + 1)) e
      ∙ sym (ap (λ (k : ℕ). page_end k os size next len) z ∙ rw (le-ltb (size - len) room h, page_end))
      ∙ p

-- from an instruction up to itself there is no line
pub lines_none : (os : List Op) (from : ℕ) → lines_of os from from ≡ []
lines_none os from = ap (lines_from from) (slice_empty from os)

-- a page with no line leaves the slice as it was
pub written_none : (os : List Op) (from : ℕ) (before : List ℕ) → PageWritten os from before before from 0
written_none os from before =
    record {
      onward = omega arith;
      inside = omega arith;
      within = omega arith;
      size = sym (ap length (lines_none os from));
      text = sym (ap (λ (l : List ℕ). l ++ before) (lines_none os from));
    }

module _ (os : List Op) (from : ℕ) (before after : List ℕ) (next len : ℕ) (w : PageWritten os from before after next len) where
  -- a page keeps the length of the slice
  pub written_same : length after ≡ length before
  written_same =
      omega (arith, ap length w.text, length-append (lines_of os from next) (drop len before), length-drop len before, w.size, w.within)

  -- what stands on a page is its lines
  pub written-text : take len after ≡ lines_of os from next
  written-text = ap (take len) w.text ∙ take_at (lines_of os from next) (drop len before) len (sym w.size)

  -- what stands behind a page is as it was
  behind : (k : ℕ) → drop (len + k) after ≡ drop (len + k) before
  behind k =
      ap (drop (len + k)) w.text
      ∙ ap (λ (n : ℕ). drop (n + k) (lines_of os from next ++ drop len before)) w.size
      ∙ drop-append-add (lines_of os from next) (drop len before) k
      ∙ drop-drop k len before

  -- a page with one line more
  pub written-more : (l : Line) (out : List ℕ) (end : ℕ) → next < length os → end ≤ length before
      → Holds l (line_of next (get_or os next faulty)) → Laid after out len l end → PageWritten os from before out (next + 1) end
  written-more l out end h fits said laid =
      let o = get_or os next faulty in
      let more : lines_of os from (next + 1) ≡ lines_of os from next ++ line_of next o = rw add-one (lines_more os from next w.onward h) in
      record {
        onward = omega (arith, w.onward);
        inside = omega arith;
        within = fits;
        size = omega (arith, laid.end, said.len, w.size, ap length more, length-append (lines_of os from next) (line_of next o));
        text =
            laid.text
            ∙ ap (λ (t : List ℕ). t ++ text_of l ++ drop end after) written-text
            ∙ ap (λ (t : List ℕ). lines_of os from next ++ t ++ drop end after) said.text
            ∙ ap (λ (t : List ℕ). t ++ drop end after) (sym more)
            ∙ ap (λ (t : List ℕ). lines_of os from (next + 1) ++ t) (ap (λ (n : ℕ). drop n after) laid.end ∙ behind l.len ∙ ap (λ (n : ℕ). drop n before) (sym laid.end));
      }

  -- a page behind the pages before it goes on with the listing
  pub written-joins : (shown : List ℕ) → from ≤ length os → shown ≡ lines_of os 0 from → shown ++ take len after ≡ lines_of os 0 next
  written-joins shown h e =
      (λ j. e j ++ written-text j) ∙ pages-join os 0 from next (omega arith) w.onward (omega (arith, w.inside))

  -- a page that ends with its first instruction has no byte
  written_start : next ≡ from → len ≡ 0
  written_start e = w.size ∙ ap length (ap (lines_of os from) e ∙ lines_none os from)

  -- a page that ended for want of room has a line, where there was room for one
  pub written-some : length after - len < room → room ≤ length before → from < next
  written-some h r = go (dec_lt from next)
    where
      go : Dec (from < next) → from < next
      go (yes l) = l
      go (no l) = let e : next ≡ from = omega (arith, w.onward) in absurd (omega (arith, written_start e, written_same))

  -- past the last instruction nothing is written
  pub written-past : length os ≤ from → (next ≡ from) × (len ≡ 0)
  written-past h = let e : next ≡ from = omega (arith, w.onward, w.inside) in (e, written_start e)
