-- The extended element's fields, from the records' bytes. Assumes nothing.
use mathlib.Core.Path.{◌≡◌, refl, ap, ap₂, ◌∙◌, subst}
use mathlib.Core.Bool.{Bool, true, false, ◌||◌}
use mathlib.Core.List.{List}
use Prim.Native.Nat.{ℕ, suc, ◌+◌, ◌-◌, ◌*◌, ◌≤◌, ◌<◌}
use native.Mathlib.Omega.{arith}
use Rattle.bits.specs.Language.{pick, as_flag}
use Rattle.bits.specs.Writes.{only, to_bits, each_bits}
use Rattle.writer.specs.declared.Groups.{Groups}
use Rattle.laying.specs.declared.Pen.{Pen}
use Rattle.laying.specs.Laying.{Laid}
use Rattle.writer.specs.Parts.{extra_bits, Wide, Needed, Inside, bits_below, PacksEach}
use Rattle.laying.proofs.Laws.{laid-bind, laid_only, laid-value}
use Rattle.coding.specs.declared.Packed.{Packed}
use Rattle.coding.specs.Packing.{PacksIn}
use Rattle.record.specs.Laws.{records-count}
use Rattle.writer.specs.Most.{most_extra}
use Rattle.writer.proofs.Entries.{numbered, packs-each, all-laid, all-wide}
use Rattle.writer.proofs.Records.{record-entry}
use Rattle.oamd.specs.Tables.{record_stride}
use Rattle.oamd.specs.declared.Scene.{Scene}
use Rattle.oamd.specs.declared.Divergence.{Divergence}
use Rattle.oamd.specs.declared.Precise.{Precise}
use Rattle.oamd.specs.Record.{Record, carries}
use Rattle.form.specs.Form.{divergence_bits, precise_bits, any, extended_element_bits, has_extended}
use Rattle.record.specs.Bytes.{scene_at, divergence_at, precise_at, record_at, records_at}

-- one of the two groups' bits, from what was read of the record
module _ {scene : Scene} {sent first : Bool} (s : List ℕ) (k : ℕ) (e : scene ≡ scene_at s k) (f : sent ≡ carries scene) where
  pub divergence-of : {d : Divergence} → first ≡ true → d ≡ divergence_at s k → divergence_bits sent d ≡ extra_bits first (record_at s k)
  divergence-of t g = rw (t, f, e, g) refl

  pub precise-of : {d : Precise} → first ≡ false → d ≡ precise_at s k → precise_bits sent d ≡ extra_bits first (record_at s k)
  precise-of t g = rw (t, f, e, g) refl

-- a flag that is set once some record passed the test, and the records still to come
module _ (test : Record → Bool) (s : List ℕ) (n i : ℕ) (seen : Bool) where
  pub any_more : (here : Bool) → i < n → here ≡ test (record_at s (record_stride * i))
      → (seen || here) || any test (records_at s (n - (i + 1)) (record_stride * (i + 1))) ≡ seen || any test (records_at s (n - i) (record_stride * i))
  unfolding any records_at
  any_more here h e =
      let from : record_stride * (i + 1) ≡ record_stride * i + record_stride = omega arith in
      let left : n - i ≡ suc (n - (i + 1)) = omega arith in
      rw (from, left, e) (or_or seen (test (record_at s (record_stride * i))) _)
    where
      or_or : (x y z : Bool) → (x || y) || z ≡ x || pick y true z
      or_or true y z = refl
      or_or false true z = refl
      or_or false false z = refl

  pub any_end : n ≤ i → seen ≡ seen || any test (records_at s (n - i) (record_stride * i))
  unfolding any records_at
  any_end h = let none : n - i ≡ 0 = omega arith in rw none (ended seen)
    where
      ended : (x : Bool) → x ≡ x || false
      ended true = refl
      ended false = refl

-- as many records, counted in another way
pub needed_of : {g : Groups} {n m : ℕ} (s : List ℕ) → n ≡ m → Needed (records_at s n 0) g → Needed (records_at s m 0) g
needed_of {g} s e h = subst (λ (k : ℕ). Needed (records_at s k 0) g) e h

pub inside_of : {k i n m : ℕ} (s : List ℕ) → n ≡ m → Inside k i (extended_element_bits (records_at s n 0)) → Inside k i (extended_element_bits (records_at s m 0))
inside_of {k} {i} s e h = subst (λ (j : ℕ). Inside k i (extended_element_bits (records_at s j 0))) e h

pub extended_there : {rs : List Record} {g : Groups} {some : Bool} → Needed rs g → some ≡ pick g.diverges true g.refines → some ≡ has_extended rs
unfolding has_extended
extended_there h e = e ∙ ap₂ (λ (x y : Bool). pick x true y) h.diverges h.refines

-- the two groups, each behind its flag
pub extended-laid : {w m n o : ℕ} {s t u v z : List ℕ} {at a b c r : Pen} {rs : List Record} {g : Groups} {one two : ℕ} → Needed rs g
    → one ≡ as_flag g.diverges → two ≡ as_flag g.refines → Laid w s t at a (to_bits 1 one)
    → Laid m t u a b (only g.diverges (each_bits (λ i r. divergence_bits (carries r.scene) r.divergence) 0 rs)) → Laid n u v b c (to_bits 1 two)
    → Laid o v z c r (only g.refines (each_bits (λ i r. precise_bits (carries r.scene) r.precise) 0 rs))
    → Laid (w + (m + (n + o))) s z at r (extended_element_bits rs)
unfolding extended_element_bits
extended-laid {rs = rs} need e f first divergences second precises =
    laid-bind (laid-value 1 (e ∙ ap (λ (x : Bool). as_flag x) need.diverges) first)
    (laid-bind (laid_only (each_bits (λ i r. divergence_bits (carries r.scene) r.divergence) 0 rs) need.diverges divergences)
    (laid-bind (laid-value 1 (f ∙ ap (λ (x : Bool). as_flag x) need.refines) second)
    (laid_only (each_bits (λ i r. precise_bits (carries r.scene) r.precise) 0 rs) need.refines precises)))

-- ---- extras

module _ (first : Bool) (s : List ℕ) (n : ℕ) where
  abbrev pub numbered-extras : ℕ → List ℕ
  numbered-extras = numbered (λ r. extra_bits first r) (records_at s n 0) (record_at s 0) (λ i. record_at s (record_stride * i)) (λ i h. record-entry s n i (record_at s 0) h)

  pub packs-extras : {post : ℕ → Packed → Type 0} {j : ℕ} → j ≤ n → ((i : ℕ) (r : Packed) → i < n → post i r → PacksIn 0 most_extra r (extra_bits first (record_at s (record_stride * i))))
      → PacksEach post most_extra numbered-extras j
  packs-extras = packs-each (λ r. extra_bits first r) (records_at s n 0) (record_at s 0) (λ i. record_at s (record_stride * i)) (λ i h. record-entry s n i (record_at s 0) h)

  pub extras-laid : (on : Bool) {j : ℕ} {t u : List ℕ} {p r : Pen} → j ≡ pick on n 0 → Laid (most_extra * j) t u p r (bits_below numbered-extras j)
      → Laid (most_extra * n) t u p r (only on (each_bits (λ i r. extra_bits first r) 0 (records_at s n 0)))
  extras-laid on = all-laid (λ r. extra_bits first r) (records_at s n 0) (record_at s 0) (λ i. record_at s (record_stride * i)) (λ i h. record-entry s n i (record_at s 0) h) (records-count s n 0) on most_extra

  pub extras-wide : (on : Bool) {j k : ℕ} → j ≡ pick on n 0 → Wide (most_extra * j) k (bits_below numbered-extras j)
      → Wide (most_extra * n) k (only on (each_bits (λ i r. extra_bits first r) 0 (records_at s n 0)))
  extras-wide on = all-wide (λ r. extra_bits first r) (records_at s n 0) (record_at s 0) (λ i. record_at s (record_stride * i)) (λ i h. record-entry s n i (record_at s 0) h) (records-count s n 0) on most_extra
