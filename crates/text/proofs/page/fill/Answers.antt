-- `text::page::fill` meets its contract: a line a turn, as long as there is an instruction and room for any line.
use Prim.Native.Nat.{ℕ, ◌-◌, ◌≤◌, ◌<◌}
use mathlib.Core.Path.{◌≡◌, subst}
use native.Mathlib.Omega.{arith}
use lib.ListN.{length, get_or}
use Rattle.code.specs.Op.{faulty, instructions}
use Rattle.code.proofs.Fetch.{instructions-length}
use Rattle.text.specs.Line.{room}
use Rattle.text.specs.Page.{Filled}
use Rattle.text.proofs.Filling.{paged-full, paged-last, paged-more, written_same, written-more, written-some}
use Rattle.text.proofs.Said.{line-few}
use Rattle.text.proofs.page.fill.Goals as goal

pub returns-then-out-len-lt-ROOM : goal.returns-then-out-len-lt-ROOM
returns-then-out-len-lt-ROOM c =
    let l = c.loop-next in
    let a = c.args in
    let w = l.invariant.0 in
    let full : length a.out.now - l.len < room = omega (arith, c.if-out-len-lt-ROOM.true, written_same _ _ _ _ _ _ w) in
    record {
      written = w;
      end = paged-full (instructions a.code.now) (length a.out.now) a.from l.next l.len l.invariant.1 full;
      progress = λ h r. written-some _ _ _ _ _ _ w c.if-out-len-lt-ROOM.true r;
    }

pub loop-next-preserved : goal.loop-next-preserved
loop-next-preserved c =
    let w = c.loop-next.invariant.0 in
    let code = c.args.code.now in
    let said = c.line_at.ensures in
    let laid = c.lay-len.ensures in
    let few = line-few c.loop-next.next (get_or (instructions code) c.loop-next.next faulty) in
    let there : c.loop-next.next < length (instructions code) =
    omega (arith, c.loop-next-test.true, instructions-length code) in
    let out = c.args.out.now in
    let from = c.args.from in
    let fits : room ≤ length out - c.loop-next.len =
    omega (arith, c.if-out-len-lt-ROOM.false, written_same _ _ _ _ _ _ w) in (
      written-more _ _ _ _ _ _ w _ _ _ there (omega (arith, laid.end, said.len, fits, written_same _ _ _ _ _ _ w, w.within)) said laid,
      paged-more (instructions code) (length out) from c.loop-next.next c.loop-next.len c.loop-next.invariant.1 c.lay-len.result there fits
          (omega (arith, laid.end, said.len)),
    )

pub lay-len-requires-clause-len_le_room : goal.lay-len-requires-clause-len_le_room
lay-len-requires-clause-len_le_room c =
    let few = line-few c.loop-next.next (get_or (instructions c.args.code.now) c.loop-next.next faulty) in
    omega (arith, c.line_at.ensures.len)

pub returns : goal.returns
returns c =
    let a = c.args in
    let os = instructions a.code.now in
    let l = c.loop-next in
    let w = l.invariant.0 in
    let past = c.loop-next-test.false in
    let count = instructions-length a.code.now in
    let e : l.next ≡ c.max.result = omega (arith, c.max.ensures, past, count, w.inside, w.onward) in
    subst (λ (n : ℕ). Filled os a.from a.out.now l.out (record { next = n; len = l.len })) e
    (record {
      written = w;
      end = paged-last os (length a.out.now) a.from l.next l.len l.invariant.1 (omega (arith, past, count));
      progress = λ h r. omega (arith, past, count);
    })
