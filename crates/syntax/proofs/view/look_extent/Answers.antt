use Rattle.std.proofs.Common.{Bool, arith, eqb, eqb-true, false, refl, true, ℕ, ◌%◌, ◌+◌, ◌/◌, ◌≡◌}
use Rattle.bits.specs.Language.{pick, give, ◌>>=◌, bits, bits_if}
use Rattle.bits.specs.View.{Looks}
use Rattle.bits.proofs.Free.{looks-give, ◌▹◌}
use Rattle.oamd.specs.declared.Extent.{Extent}
use Rattle.oamd.specs.Block.{extent}
use Rattle.oamd.specs.Reserved.{ObjectSizeIdx}
use Rattle.syntax.proofs.Glances.{fair, shut, slot, last, whichever}
use Rattle.syntax.proofs.view.look_extent.Goals as goal

-- the sizes behind the index: one for all, or one for each, or none
sizes : (even each : Bool) {x o one two three i a d h : ℕ} → (even ≡ true → each ≡ true → ⊥)
    → Looks (bits 5) x o a one → Looks (bits 5) x one d two → Looks (bits 5) x two h three
    → Looks
    (bits_if even 5 >>= λ all. bits_if each 5 >>= λ width. bits_if each 5 >>= λ depth. bits_if each 5 >>= λ height.
    give {A = Extent} (record { index = i; all = all; width = width; depth = depth; height = height }))
    x o
    (record { index = i; all = pick even a 0; width = pick each a 0; depth = pick each d 0; height = pick each h 0 })
    (pick each three (pick even one o))
sizes true true n p q r = absurd (n refl refl)
sizes true false n p q r = p ▹ looks-give ▹ looks-give ▹ looks-give ▹ looks-give
sizes false true n p q r = looks-give ▹ p ▹ q ▹ r ▹ looks-give
sizes false false n p q r = looks-give ▹ looks-give ▹ looks-give ▹ looks-give ▹ looks-give

-- no index says both
not-both : (i : ℕ) → eqb i 1 ≡ true → eqb i 2 ≡ true → ⊥
not-both i p q = omega (arith, eqb-true i 1 p, eqb-true i 2 q)

pub returns : goal.returns
unfolding extent
returns c =
    let o = c.args.o in
    let e = c.look-q.ensures.0 in
    let v = c.look-q.result.value / 32768 % 4 in
    let code = slot o 0 2 15 o (o + 2) e (omega arith) (omega arith) (omega arith) in
    rw (c.only.ensures, c.only-2.ensures, c.only-3.ensures, c.only-4.ensures, c.pick-2.ensures, c.pick.ensures)
    (record {
      looks = λ g.
          fair ObjectSizeIdx code g
          ▹ sizes (eqb v 1) (eqb v 2) (not-both v)
          (slot o 2 5 10 (o + 2) (o + 7) e (omega arith) (omega arith) (omega arith))
          (slot o 7 5 5 (o + 7) (o + 12) e (omega arith) (omega arith) (omega arith))
          (last o 12 5 (o + 12) e (omega arith) (omega arith));
      met = λ g. shut ObjectSizeIdx code _ g (omega arith);
      near = whichever (eqb v 2) (omega arith) (whichever (eqb v 1) (omega arith) (omega arith));
    })
