-- One proof for every two widths. The rest's unit is 1 moved left by its width.
use Rattle.std.proofs.Common.{arith, eqb, refl, shl_exact, ℕ, ◌%◌, ◌*◌, ◌+◌, ◌/◌, ◌^◌, ◌∙◌, ◌≡◌, ◌≤◌}
use Rattle.syntax.proofs.Glances.{lead, last, sent_if, whichever}
use Rattle.syntax.proofs.glance.look_pair.Goals as goal

unit : (k : ℕ) → k ≤ 8 → 1 * 2 ^ k % 2 ^ 32 ≡ 2 ^ k
unit k h = let e : 1 * 2 ^ k ≡ 2 ^ k = omega arith in shl_exact {a = 1} 1 k 32 (omega arith) (omega arith) ∙ e

pub returns : goal.returns
returns c =
    let e = c.look-q.ensures.0 in
    let o = c.args.o in
    let w = c.args.w in
    let k = c.args.k in
    let sent = eqb (c.look-q.result.value / 2 ^ k) c.args.which in
    rw (c.only.ensures, c.pick.ensures, unit k (omega arith))
    (record {
      mid = o + w;
      first = lead o w k e (omega arith);
      second = sent_if sent (last o w k (o + w) e (omega arith) refl);
      near = whichever sent (omega arith) (omega arith);
    })
