-- `text::page::lay` meets its contract: the line's bytes are copied to their place.
use Prim.Native.Nat.{◌+◌, ◌-◌}
use mathlib.Core.Path.{◌≡◌, refl, ap, ◌∙◌}
use mathlib.Core.List.{List, ◌++◌}
use native.Mathlib.Omega.{arith}
use lib.ListN.{length, take, drop}
use lib.Seq.{take_all, length-take-le}
use borrow.Author.Rules.{rules}
use Prim.Native.Nat.{ℕ}
use Rattle.std.proofs.lemmas.Slice.{put_mid-paste}
use Rattle.text.specs.Line.{room, text_of}
use Rattle.text.proofs.page.lay.Goals as goal

pub returns : goal.returns
unfolding text_of
returns c =
    let a = c.args in
    let out = a.out.now in
    let line = a.line in
    let whole : length line.bytes ≡ room = search rules in
    let len : length (take line.len line.bytes) ≡ line.len = length-take-le line.len line.bytes (omega (arith, c.requires.len_le_room)) in
    record {
      end = refl;
      text =
          put_mid-paste a.at ((a.at + line.len) - a.at) out c.copy_from_slice.new.self (take line.len line.bytes) line.len
          c.copy_from_slice.ensures.after (omega arith) (omega arith)
          ∙ ap (λ (l : List ℕ). take a.at out ++ l ++ drop (a.at + line.len) out) (take_all line.len (take line.len line.bytes) (omega arith));
    }
