-- 5.5.1 and 5.5.4: an element's size and frame are read back as they were written.
use Rattle.std.specs.Prelude.{◌≡◌, List, ◌++◌, ℕ, ◌+◌, ◌-◌, ◌*◌, ◌/◌, ◌%◌, ◌<◌, length}
use Rattle.std.proofs.Common.{append_assoc, arith, length-append, le-leb}
use Rattle.std.proofs.lemmas.Bool.{lt-leb}
use Rattle.bits.specs.declared.Size.{Size}
use Rattle.bits.specs.Language.{P}
use Rattle.bits.specs.Steps.{by_order}
use Rattle.bits.specs.Size.{size_of, size_from, variable_bits_max}
use Rattle.bits.specs.Writes.{to_bits}
use Rattle.bits.specs.Lists.{length-to_bits}
use Rattle.bits.specs.Back.{w-give, w-bits, w-bind, w_end, w_list, w-within}
use Rattle.bits.specs.Terms.{Writes}
use Rattle.oamd.specs.declared.Kind.{Kind}
use Rattle.oamd.specs.Element.{kind, framed}
use Rattle.form.specs.Form.{group_bits, size_bits, size_for, framed_bits, element_bits}

-- what is read of a size
pub record Sized (v : ℕ) : Type 0 where
  pub size : Size
  pub value : size.value ≡ v
  pub writes : Writes variable_bits_max (size_bits v) size

pub size-writes : (v : ℕ) → v < 69904 → Sized v
unfolding size_from size_bits group_bits
size-writes v h =
    let a : ℕ = v / 16 - 1 in
    let b : ℕ = a / 16 - 1 in
    let c : ℕ = b / 16 - 1 in
    by_order 4368 v
    (λ l. record {
      size = size_of ((((0 + c) * 16 + 16 + b % 16) * 16 + 16 + a % 16) * 16 + 16 + v % 16) 4;
      value = omega arith;
      writes =
          rw (le-leb 4368 v l, le-leb 272 v (omega arith), le-leb 16 v (omega arith)) (w_list (simp append_assoc) (w-bind (w-bits 4 c (omega arith))
          (w-bind (w-bits 1 1 (omega arith)) (w-bind (w-bits 4 (b % 16) (omega arith)) (w-bind (w-bits 1 1 (omega arith))
          (w-bind (w-bits 4 (a % 16) (omega arith)) (w-bind (w-bits 1 1 (omega arith)) (w-bind (w-bits 4 (v % 16) (omega arith))
          (w_end (w-bits 1 0 (omega arith)) (w-give _))))))))));
    })
    (λ k. by_order 272 v
    (λ l. record {
      size = size_of (((0 + b % 16) * 16 + 16 + a % 16) * 16 + 16 + v % 16) 3;
      value = omega arith;
      writes =
          rw (lt-leb 4368 v k, le-leb 272 v l, le-leb 16 v (omega arith)) (w_list (simp append_assoc) (w-bind (w-bits 4 (b % 16) (omega arith))
          (w-bind (w-bits 1 1 (omega arith)) (w-bind (w-bits 4 (a % 16) (omega arith)) (w-bind (w-bits 1 1 (omega arith))
          (w-bind (w-bits 4 (v % 16) (omega arith)) (w_end (w-bits 1 0 (omega arith)) (w-give _))))))));
    })
    (λ l. by_order 16 v
    (λ m. record {
      size = size_of ((0 + a % 16) * 16 + 16 + v % 16) 2;
      value = omega arith;
      writes =
          rw (lt-leb 4368 v k, lt-leb 272 v l, le-leb 16 v m) (w_list (simp append_assoc) (w-bind (w-bits 4 (a % 16) (omega arith))
          (w-bind (w-bits 1 1 (omega arith)) (w-bind (w-bits 4 (v % 16) (omega arith)) (w_end (w-bits 1 0 (omega arith)) (w-give _))))));
    })
    (λ m. record {
      size = size_of (0 + v % 16) 1;
      value = omega arith;
      writes =
          rw (lt-leb 4368 v k, lt-leb 272 v l, lt-leb 16 v m) (w-bind (w-bits 4 (v % 16) (omega arith)) (w_end (w-bits 1 0 (omega arith)) (w-give _)));
    })))

-- an element without an alternate id, whatever is read inside it
pub element-writes : {A : Type 0} (f : Kind → Size → P A) (id : ℕ) (fields : List ℕ) (v : A) → id < 16 → length fields < 559231
    → ((size : Size) → Writes (f (kind id 0) size) fields v) → Writes (framed 0 f) (element_bits id fields) v
unfolding framed element_bits framed_bits size_for
element-writes f id fields v i l h =
    let n : ℕ = 1 + length fields in
    let z = size-writes (size_for n) (omega arith) in
    let value = z.value in
    let flag = length-to_bits 1 0 in
    let inside : length (to_bits 1 0 ++ fields) ≡ length (to_bits 1 0) + length fields = length-append (to_bits 1 0) fields in
    w-bind (w-bits 4 id (omega arith)) (w-bind z.writes
    (w-within (8 * (size_for n + 1) - n) (w-bind (w-give 0) (w-bind (w-bits 1 0 (omega arith)) (h z.size))) (omega arith)))
