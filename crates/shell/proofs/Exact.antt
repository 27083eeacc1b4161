-- The shipped program prints what document 01 says of the text that reads bring, in whatever pieces, however much each write takes; and
-- it asks for no read once the text is decided.
use Prim.Native.Nat.{ℕ, min}
use mathlib.Core.Path.{◌≡◌, refl, sym, ap, ◌∙◌}
use mathlib.Core.Bool.{Bool, true, false}
use mathlib.Core.List.{List, [], ◌∷◌, ◌++◌}
use native.Mathlib.Omega.{arith}
use lib.IntN.{pos}
use lib.ListN.{length, drop, get_or, replicate, length-replicate}
use Rattle.text.specs.Decimal.{newline}
use Rattle.std.specs.Prelude.{Some}
use Rattle.text.specs.Part.{capped, digits_after, part_after, signed_of}
use Rattle.theory.specs.Rows.{placeless}
use Rattle.cells.specs.Refusals.{shape_refused}
use Rattle.text.specs.Line.{room}
use Rattle.text.specs.Shipped.{bad_input, answer_line, printed, shipped}
use Rattle.intake.specs.Change.{start_intake}
use Rattle.intake.specs.Shapes.{whole_room, shape_at}
use Rattle.intake.specs.Line.{Fed, fed, is_decided, is_complete, counted_of, took_of}
use Rattle.intake.specs.Bytes.{line_end, fed_of, fed_all, ended_of}
use Rattle.intake.specs.Heard.{heard}
use Rattle.intake.specs.Exact.{empty_room}
use Rattle.intake.proofs.Cut.{cut-anywhere}
use Rattle.intake.proofs.Exact.{reads-exactly}
use Rattle.shell.specs.Reading.{Brought, end, failure, piece_of, brought, Hearing, after_read}
use Rattle.answering.specs.Answer.{answer_shown, blank}
use Rattle.answering.specs.Writing.{buffer_size, empty_buffer, opening_of, code_of, page_of, rest_of, wrote_of, is_written}
use Rattle.shell.specs.Running.{heard_in, answer_in, Ran}
use Rattle.shell.specs.Exact.{Buffers, Finished, pieces, pieces_text, heard_by, answer_to, first_page, Prints, RanWhole, BroughtExactly}
use Rattle.shell.specs.Exact.{PrintsExactly, FailsPlainly, StopsDecided, StopsAtOnce}
use Rattle.answering.proofs.Shipped.{read-text}
use Rattle.shell.proofs.Hearing.{brought-bytes, some_bytes, hears-one}
use Rattle.answering.proofs.Handing.{first-pending, page-ready, taken-pending, taken-whole, writes_end}
use Rattle.shell.proofs.Pieces.{pieces-heard, stopped-heard, going-heard}
use Rattle.shell.proofs.AtOnce.{no_number, heard-bad, spoilt-bad}

-- a program that has heard a text prints what is printed of it, whatever writes take
prints : (B : Buffers) (reads : List Brought) (text : List ℕ) → printed (heard (heard_by B reads).fed) ≡ text → Prints B reads text
prints B reads text e =
    let a = answer_to B reads in
    let p = first_page B reads in
    let ready = page-ready a false 0 B.bytes B.fits in
    let all = first-pending a 0 B.bytes ∙ read-text (heard (heard_by B reads).fed) ∙ e in
    record {
      in_order = λ takes. taken-pending a p takes ∙ all;
      whole = λ takes f. taken-whole a p takes ready f ∙ all;
      ends = λ takes each h. writes_end a p takes ready each (omega (arith, ap length all));
    }

-- a run of the code that says that all was written has handed on the whole text of the answer
pub ran-whole : RanWhole
ran-whole tables left code buffer R =
    let f = (heard_in tables R.reads).fed in
    let a = answer_in tables R.reads in
    let w = R.prints.writes in
    taken-whole a (page_of a false 0 R.bytes) w.takes (page-ready a false 0 R.bytes R.fits) (ap is_written w.comes ∙ R.prints.whole)
    ∙ first-pending a 0 R.bytes
    ∙ read-text (heard f)

-- what a read has brought is told by its answer
pub brought-exactly : BroughtExactly
unfolding brought
brought-exactly buffer =
    record {
      failed = refl;
      ended = let z : min 0 (length buffer) ≡ 0 = omega arith in ap (λ (n : ℕ). piece_of n buffer) z;
      came = λ n some few.
          let z : n ≡ min n (length buffer) = omega arith in
          brought-bytes (Some n) buffer n refl z ∙ some_bytes n buffer (λ e. omega arith);
    }

-- a text of which nothing was read yet is not decided
start-open : is_decided start_intake ≡ false
unfolding is_decided
start-open = refl

-- a text, in whatever pieces reads bring it, is answered as document 01 says
pub prints-exactly : PrintsExactly
unfolding shipped
prints-exactly B ps =
    prints B (pieces ps ++ _) (shipped (pieces_text ps))
    (ap printed (pieces-heard (fed start_intake B.tables) ps ∙ reads-exactly B.tables B.roomy (pieces_text ps)))

-- a text after which the program reads no more is answered as document 01 says, whatever would have followed
pub stops-decided : StopsDecided
unfolding shipped
stops-decided B ps e more =
    prints B (pieces ps) (shipped (pieces_text ps ++ more))
    (ap printed (stopped-heard (fed start_intake B.tables) ps more e ∙ reads-exactly B.tables B.roomy (pieces_text ps ++ more)))

-- a read that fails before the text is decided has the program print `bad input`
pub fails-plainly : FailsPlainly
unfolding after_read
fails-plainly B ps e =
    let f = fed start_intake B.tables in
    let g = going-heard f ps start-open e in
    prints B (pieces ps ++ (failure ∷ [])) bad_input
    (ap (λ (h : Hearing). printed (heard h.fed)) (hears-one f true (pieces ps) (fed_all f (pieces_text ps)) failure g.comes)
    ∙ ap printed (heard-bad (fed_all f (pieces_text ps)) g.undecided))

-- a text that reads on may still be bad, so its answer is not 1 whatever follows
pub stops-at-once : StopsAtOnce
unfolding shipped answer_line
stops-at-once B ps all = go (heard_by B (pieces ps)).more refl
  where
    f : Fed
    f = fed start_intake B.tables

    go : (b : Bool) → (heard_by B (pieces ps)).more ≡ b → b ≡ false
    go false e = refl
    go true e =
        let g = going-heard f ps start-open e in
        let spoilt : shipped (pieces_text ps ++ no_number) ≡ bad_input =
        ap printed (sym (reads-exactly B.tables B.roomy (pieces_text ps ++ no_number)) ∙ ap (λ (h : Fed). heard (ended_of h)) (sym (cut-anywhere f (pieces_text ps) no_number)) ∙ spoilt-bad (fed_all f (pieces_text ps)) g.undecided) in
        absurd (omega (arith, ap (λ (l : List ℕ). get_or l 0 0) (sym spoilt ∙ all no_number)))

-- buffers of zeros: instances of the premises
zeros : Buffers
zeros =
    record {
      tables = empty_room;
      roomy = omega (arith, length-replicate whole_room (pos 0));
      bytes = replicate room 0;
      fits = omega (arith, length-replicate {A = ℕ} room 0);
    }

-- the answer to no text at all is ten bytes, here in three writes
ten-bytes : Finished zeros (end ∷ []) (4 ∷ 5 ∷ 1 ∷ [])
unfolding zeros after_read ended_of heard is_complete answer_shown code_of page_of opening_of wrote_of rest_of is_written
ten-bytes = refl

-- a run on no text at all: the tables and the code are as they were, `bad input` stands in the buffer
nothing-ran : Ran empty_room empty_room blank (bad_input ++ drop (length bad_input) empty_buffer) true
unfolding after_read ended_of heard is_complete answer_shown code_of page_of opening_of wrote_of rest_of is_written
nothing-ran =
    record {
      reads = end ∷ [];
      over = refl;
      filled = refl;
      listed = refl;
      bytes = empty_buffer;
      fits = omega (arith, length-replicate {A = ℕ} buffer_size 0);
      prints =
          record {
            sheet = record { from = 0; len = 0; next = 0 };
            writes = record { takes = length bad_input ∷ []; comes = refl };
            whole = refl;
          };
    }

-- before its first byte a text is read on
reads_on : (heard_by zeros (pieces [])).more ≡ true
reads_on = refl

-- a start mode, then 65 ports, in two pieces: one more than there may be, so no read more is asked for
too_many_ports : List (List ℕ)
too_many_ports = (48 ∷ newline ∷ 54 ∷ []) ∷ (53 ∷ newline ∷ []) ∷ []

stops-there : (heard_by zeros (pieces too_many_ports)).more ≡ false
unfolding too_many_ports zeros after_read fed_of line_end took_of counted_of shape_at is_decided signed_of part_after digits_after capped
stops-there = refl

-- the answer to a text with too many ports is 1 whatever follows
one-there : (more : List ℕ) → shipped (pieces_text too_many_ports ++ more) ≡ answer_line (placeless shape_refused)
unfolding too_many_ports zeros after_read fed_of line_end took_of counted_of shape_at is_decided is_complete heard signed_of part_after digits_after capped shipped
one-there more = ap printed (sym (reads-exactly empty_room zeros.roomy (pieces_text too_many_ports ++ more)) ∙ sym (stopped-heard (fed start_intake empty_room) too_many_ports more stops-there))
