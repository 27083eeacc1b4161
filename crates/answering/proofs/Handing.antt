-- What writes come to, however much each of them takes: what was taken and what is still to come is the text.
use Prim.Native.Nat.{ℕ, zero, suc, ◌+◌, ◌-◌, ◌*◌, ◌≤◌, ◌<◌}
use mathlib.Core.Path.{◌≡◌, refl, sym, ap, subst, ◌∙◌}
use mathlib.Core.Bool.{Bool, true, false}
use mathlib.Core.List.{List, [], ◌∷◌, ◌++◌, append_assoc, append-nil}
use native.Mathlib.Decide.{dec_lt}
use native.Mathlib.Omega.{arith}
use lib.Dec.{ltb}
use lib.ListN.{length, take, drop, length-append, length-take, length-drop, take-append-drop, drop_of_length-le}
use lib.Seq.{length-take-le, take-append_seam, take_all, drop-drop}
use borrow.Author.Tests.{ltb-true, ltb-false, eqb-true, eq-eqb, ne_eqb}
use Rattle.theory.specs.Lists.{Every}
use Rattle.theory.proofs.Conditions.{cond-all}
use Rattle.cells.specs.Limits.{words_each}
use Rattle.code.specs.Op.{Op, instructions}
use Rattle.text.specs.Line.{room, Holds}
use Rattle.text.specs.Listing.{lines_from, listing_text}
use Rattle.text.specs.Page.{Laid, lines_of, page_end, Filled}
use Rattle.text.specs.declared.line.Line.{Line}
use Rattle.text.specs.declared.page.Page.{Page}
use Rattle.text.specs.Shipped.{bad_input}
use Rattle.text.proofs.Answers.{line-some, answer-few, larger-length}
use Rattle.text.proofs.PageEnd.{Ends, page-ends, page-goes, lines-some, lines_cut}
use Rattle.answering.specs.Answer.{Answered, larger_lines, text_shown, text_of_answer}
use Rattle.answering.specs.declared.answer.Shown.{Shown}
use Rattle.answering.specs.declared.answer.Shown.TheVariants.{Bad, Larger, Said}
use Rattle.answering.specs.Writing.{opening_of, length_shown, code_of, ops_of, Spread, spread, laid, page_of, rest_of, onward, wrote_of, page_left, taken_of}
use Rattle.answering.specs.Writing.{pending_of, is_written, AfterWrites}

-- a page that was just laid has its whole text to hand on
laid-rest : (text : List ℕ) (next : ℕ) (buffer : List ℕ) → rest_of (laid text next buffer) ≡ text
unfolding rest_of
laid-rest text next buffer = take-append_seam text (drop (length text) buffer)

-- a page that is laid keeps the length of the buffer
laid_same : (text : List ℕ) (next : ℕ) (buffer : List ℕ) → length text ≤ length buffer → length (laid text next buffer).buffer ≡ length buffer
laid_same text next buffer h = omega (arith, length-append text (drop (length text) buffer), length-drop (length text) buffer)

-- what an answer begins with and the lines that follow are its text
pub opening-text : (a : Answered) → opening_of a.shown ++ listing_text (ops_of a) ≡ text_of_answer a
unfolding opening_of code_of text_of_answer
opening-text a = go a.shown
  where
    go : (s : Shown) → opening_of s ++ listing_text (instructions (take (words_each * length_shown s) a.code)) ≡ text_shown s a.code
    go Bad = append-nil bad_input
    go Larger = append-nil larger_lines
    go (Said x n) = refl

-- a text has some byte, and any buffer has room for it
pub record Short (text : List ℕ) : Type 0 where
  pub some : 0 < length text
  pub few : length text ≤ room

pub opening-line : (s : Shown) → Short (opening_of s)
unfolding opening_of
opening-line Bad = record { some = omega arith; few = omega arith }
opening-line Larger = record { some = omega (arith, larger-length); few = omega (arith, larger-length) }
opening-line (Said x n) = record { some = line-some x; few = answer-few x }

module _ (a : Answered) (from : ℕ) (buffer : List ℕ) where
  -- where the page from an instruction on ends
  last : ℕ
  last = page_end (length (ops_of a) - from) (ops_of a) (length buffer) from 0

  -- from the first page on the whole text of the answer is still to come
  pub first-pending : pending_of a (page_of a false from buffer) ≡ text_of_answer a
  unfolding page_of
  first-pending = ap (λ (l : List ℕ). l ++ listing_text (ops_of a)) (laid-rest (opening_of a.shown) 0 buffer) ∙ opening-text a

  -- from another page on the lines from its first instruction on are still to come
  later-pending : pending_of a (page_of a true from buffer) ≡ lines_from from (drop from (ops_of a))
  unfolding page_of last
  later-pending =
      ap (λ (l : List ℕ). l ++ lines_from last (drop last (ops_of a))) (laid-rest (lines_of (ops_of a) from last) last buffer)
      ∙ sym (lines_cut (ops_of a) from last (page-ends (ops_of a) (length buffer) from).onward)

-- what the code lays is the page that comes next: what the answer begins with, and the lines from an instruction on
pub laid-page : (a : Answered) (from : ℕ) (buffer after : List ℕ) (l : Line) (behind : ℕ)
    → Laid buffer after 0 l behind → Holds l (opening_of a.shown)
    → spread (record { from = 0; len = behind; next = 0 }) after ≡ page_of a false from buffer
unfolding page_of
laid-page a from buffer after l behind f h =
    let len : behind ≡ length (opening_of a.shown) = omega (arith, f.end, h.len) in
    λ i. spread (record { from = 0; len = len i; next = 0 }) ((f.text ∙ (λ j. h.text j ++ drop (len j) buffer)) i)

pub filled-page : (a : Answered) (from : ℕ) (buffer after code : List ℕ) (p : Page) → code ≡ code_of a → Filled (instructions code) from buffer after p
    → spread (record { from = 0; len = p.len; next = p.next }) after ≡ page_of a true from buffer
unfolding page_of
filled-page a from buffer after code p e g =
    let f : Filled (ops_of a) from buffer after p = subst (λ (l : List ℕ). Filled (instructions l) from buffer after p) e g in
    let lines = lines_of (ops_of a) from in
    let len = f.written.size ∙ ap (λ (n : ℕ). length (lines n)) f.end in
    λ i. spread (record { from = 0; len = len i; next = f.end i }) ((f.written.text ∙ (λ j. lines (f.end j) ++ drop (len j) buffer)) i)

-- a page is whole, and the last one where nothing of it is left
pub record Ready (a : Answered) (p : Spread) : Type 0 where
  pub fits : room ≤ length p.buffer
  pub last : length (rest_of p) ≡ 0 → length (ops_of a) ≤ p.sheet.next

-- every page that is laid is whole, and the last one where nothing of it is left
pub page-ready : (a : Answered) (begun : Bool) (from : ℕ) (buffer : List ℕ) → room ≤ length buffer → Ready a (page_of a begun from buffer)
unfolding page_of
page-ready a false from buffer r =
    let o = opening-line a.shown in
    let text = opening_of a.shown in
    record {
      fits = omega (arith, laid_same text 0 buffer (omega (arith, o.few)));
      last = λ e. absurd (omega (arith, o.some, ap length (laid-rest text 0 buffer)));
    }
page-ready a true from buffer r =
    record {
      fits = omega (arith, laid_same lines to buffer ends.fits);
      last = λ e. go (dec_lt from (length os)) e;
    }
  where
    os : List Op
    os = ops_of a

    to : ℕ
    to = page_end (length os - from) os (length buffer) from 0

    ends : Ends os (length buffer) from from to
    ends = page-ends os (length buffer) from

    lines : List ℕ
    lines = lines_of os from to

    go : Dec (from < length os) → length (rest_of (laid lines to buffer)) ≡ 0 → length os ≤ to
    go (yes h) e = absurd (omega (arith, lines-some os from to (page-goes os (length buffer) from h r) h, ap length (laid-rest lines to buffer)))
    go (no h) e = omega (arith, ends.onward)

-- what is left of a page of which so many bytes more were written
further : (p : Spread) (n : ℕ) → rest_of (spread (onward p.sheet n) p.buffer) ≡ drop n (rest_of p)
unfolding rest_of
further p n = sym (drop-drop n p.sheet.from (take p.sheet.len p.buffer))

-- a write that took so many bytes
module _ (a : Answered) (p : Spread) (n : ℕ) where
  -- what a write took and what is still to come after it was still to come before it
  pub wrote-pending : take n (rest_of p) ++ pending_of a (wrote_of a p n) ≡ pending_of a p
  unfolding wrote_of
  wrote-pending = cond-all Joined (ltb n (length (rest_of p))) _ _ within beyond
    where
      lines : List ℕ
      lines = lines_from p.sheet.next (drop p.sheet.next (ops_of a))

      Joined : Spread → Type 0
      Joined q = take n (rest_of p) ++ pending_of a q ≡ pending_of a p

      within : ltb n (length (rest_of p)) ≡ true → Joined (spread (onward p.sheet n) p.buffer)
      within e =
          ap (λ (l : List ℕ). take n (rest_of p) ++ (l ++ lines)) (further p n)
          ∙ sym (append_assoc (take n (rest_of p)) (drop n (rest_of p)) lines)
          ∙ ap (λ (l : List ℕ). l ++ lines) (take-append-drop n (rest_of p))

      beyond : ltb n (length (rest_of p)) ≡ false → Joined (page_of a true p.sheet.next p.buffer)
      beyond e =
          ap (λ (l : List ℕ). l ++ pending_of a (page_of a true p.sheet.next p.buffer)) (take_all n (rest_of p) (ltb-false n (length (rest_of p)) e))
          ∙ ap (λ (l : List ℕ). rest_of p ++ l) (later-pending a p.sheet.next p.buffer)

  -- the page after a write is whole, and the last one where nothing of it is left
  pub wrote-ready : Ready a p → Ready a (wrote_of a p n)
  unfolding wrote_of
  wrote-ready r =
      cond-all (Ready a) (ltb n (length (rest_of p))) _ _
      (λ e.
      record {
        fits = r.fits;
        last = λ z. absurd (omega (arith, ltb-true n (length (rest_of p)) e, ap length (further p n), length-drop n (rest_of p)));
      })
      (λ e. page-ready a true p.sheet.next p.buffer r.fits)

-- what any writes took and what is still to come after them was still to come before them
pub taken-pending : (a : Answered) (p : Spread) (takes : List ℕ) → taken_of a p takes ++ pending_of a (page_left a p takes) ≡ pending_of a p
taken-pending a p [] = refl
taken-pending a p (n ∷ ns) =
    append_assoc (take n (rest_of p)) (taken_of a (wrote_of a p n) ns) (pending_of a (page_left a (wrote_of a p n) ns))
    ∙ ap (λ (l : List ℕ). take n (rest_of p) ++ l) (taken-pending a (wrote_of a p n) ns)
    ∙ wrote-pending a p n

left-ready : (a : Answered) (p : Spread) (takes : List ℕ) → Ready a p → Ready a (page_left a p takes)
left-ready a p [] r = r
left-ready a p (n ∷ ns) r = left-ready a (wrote_of a p n) ns (wrote-ready a p n r)

-- nothing is still to come where nothing is left to hand on
none-pending : (a : Answered) (p : Spread) → Ready a p → is_written p ≡ true → pending_of a p ≡ []
unfolding is_written
none-pending a p r e =
    let z : length (rest_of p) ≡ 0 = eqb-true (length (rest_of p)) 0 e in
    ap (λ (l : List ℕ). l ++ lines_from p.sheet.next (drop p.sheet.next (ops_of a))) (drop_of_length-le (rest_of p) {i = 0} (omega arith))
    ∙ ap (lines_from p.sheet.next) (drop_of_length-le (ops_of a) {i = p.sheet.next} (r.last z))

-- where nothing is left to hand on, all was taken
pub taken-whole : (a : Answered) (p : Spread) (takes : List ℕ) → Ready a p → is_written (page_left a p takes) ≡ true → taken_of a p takes ≡ pending_of a p
taken-whole a p takes r e =
    sym (append-nil (taken_of a p takes))
    ∙ ap (λ (l : List ℕ). taken_of a p takes ++ l) (sym (none-pending a (page_left a p takes) (left-ready a p takes r) e))
    ∙ taken-pending a p takes

-- a write that takes a byte at least leaves less to come, unless nothing is
pending-falls : (a : Answered) (p : Spread) (n : ℕ) → Ready a p → 1 ≤ n → length (pending_of a (wrote_of a p n)) ≤ length (pending_of a p) - 1
unfolding is_written
pending-falls a p n r h = go (length (rest_of p)) refl
  where
    joins : length (take n (rest_of p)) + length (pending_of a (wrote_of a p n)) ≡ length (pending_of a p)
    joins = sym (length-append (take n (rest_of p)) (pending_of a (wrote_of a p n))) ∙ ap length (wrote-pending a p n)

    go : (k : ℕ) → length (rest_of p) ≡ k → length (pending_of a (wrote_of a p n)) ≤ length (pending_of a p) - 1
    go zero e = omega (arith, joins, ap length (none-pending a p r (eq-eqb (length (rest_of p)) 0 e)))
    go (suc k) e = omega (arith, joins, length-take n (rest_of p))

-- after as many writes that take a byte at least as there are bytes to come, nothing is left
pub writes_end : (a : Answered) (p : Spread) (takes : List ℕ) → Ready a p → Every (λ (n : ℕ). 1 ≤ n) takes
    → length (pending_of a p) ≤ length takes → is_written (page_left a p takes) ≡ true
unfolding is_written
writes_end a p [] r all h =
    let z = length-append (rest_of p) (lines_from p.sheet.next (drop p.sheet.next (ops_of a))) in
    eq-eqb (length (rest_of p)) 0 (omega (arith, z))
writes_end a p (n ∷ ns) r all h =
    writes_end a (wrote_of a p n) ns (wrote-ready a p n r) all.1 (omega (arith, pending-falls a p n r all.0))

-- the page that is left after one write more
left-more : (a : Answered) (p : Spread) (takes : List ℕ) (n : ℕ) → page_left a p (takes ++ (n ∷ [])) ≡ wrote_of a (page_left a p takes) n
left-more a p [] n = refl
left-more a p (m ∷ ms) n = left-more a (wrote_of a p m) ms n

-- before the first write the page is the first one
pub writes-none : (a : Answered) (p : Spread) → AfterWrites a p p
writes-none a p = record { takes = []; comes = refl }

-- after one write more, whatever it took, the page is that after some writes
pub writes_more : (a : Answered) (first p q : Spread) (n : ℕ) → AfterWrites a first p → q ≡ wrote_of a p n → AfterWrites a first q
writes_more a first p q n w e =
    record {
      takes = w.takes ++ (n ∷ []);
      comes = left-more a first w.takes n ∙ ap (λ (s : Spread). wrote_of a s n) w.comes ∙ sym e;
    }

-- after a write that took some byte less is still to come
pub pending-less : (a : Answered) (p q : Spread) (n : ℕ) → q ≡ wrote_of a p n → (n ≡ 0 → ⊥) → n ≤ length (rest_of p)
    → length (pending_of a q) < length (pending_of a p)
pending-less a p q n e some few =
    omega
    (arith, ap (λ (s : Spread). length (pending_of a s)) e, ap length (wrote-pending a p n), length-append (take n (rest_of p)) (pending_of a (wrote_of a p n)), length-take-le n (rest_of p) few)

-- where nothing is left of the page, all was written
pub written-yes : (p : Spread) (rest : List ℕ) → rest ≡ rest_of p → length rest ≤ 0 → is_written p ≡ true
unfolding is_written
written-yes p rest e h = eq-eqb (length (rest_of p)) 0 (omega (arith, ap length e))

-- where something is left of the page, not all was written
pub written-no : (p : Spread) (rest : List ℕ) → rest ≡ rest_of p → 0 < length rest → is_written p ≡ false
unfolding is_written
written-no p rest e h = ne_eqb (length (rest_of p)) 0 (λ z. omega (arith, ap length e))
