-- The same for the trim element (5.5.12): its two reserved bits are the only choice, and they are 0.
use Rattle.std.proofs.Common.{subst, append-nil, arith}
use Rattle.std.specs.Prelude.{Bool, true, false, List, [], ℕ, replicate, eqb}
use Rattle.bits.specs.Language.{P, bits, when, from, for}
use Rattle.bits.specs.Writes.{to_bits, only, each_bits, Spells, First}
use Rattle.bits.specs.Lists.{length-to_bits, number-to_bits}
use Rattle.bits.specs.Spells.{s-give, s-bind, s-bits, s-then}
use Rattle.bits.specs.First.{first_same, first-append, each_first, bits_of_all}
use Rattle.oamd.specs.Tables.{trim_configs}
use Rattle.oamd.specs.Programme.{set?}
use Rattle.oamd.specs.Reserved.{WarpMode, GlobalTrimMode}
use Rattle.oamd.specs.Trim.{trim_config, no_config, trim_element}
use Rattle.form.specs.Form.{config_bits, trim_element_bits}
use Rattle.roundtrip.specs.Lemmas.Unreserved.{s-unreserved}
use Rattle.roundtrip.specs.Lemmas.AcceptedTrim.{config-spells}

-- a configuration leaves no choice
config_only : Spells trim_config (λ l c. First (config_bits c) l)
config_only = s-then _ _ _ config-spells λ l c h. subst (First (config_bits c)) h.0 (first_same (config_bits c))

-- an array all of whose entries are sent if the test holds, and else none
array_first : {A : Type 0} (p : P A) (enc : A → List ℕ) (empty : A) → Spells p (λ l a. First (enc a) l) → (on : Bool) (n : ℕ)
    → Spells (when on (for n (λ i. p)) (replicate n empty)) (λ l vs. First (only on (each_bits (λ i a. enc a) 0 vs)) l)
array_first p enc empty h true n =
    s-then _ _ _ (each_first (λ i. p) (λ i. enc) (λ i. h) (from 0 n)) λ l vs f. rw (← bits_of_all enc (from 0 n) 0 vs f.1) f.0
array_first p enc empty h false n = s-give _ _ (first_same [])

-- reserved bits that are 0
zeros_first : (v : ℕ) → First (to_bits 2 0) (to_bits 2 v)
zeros_first v = record {
  fewer = omega (arith, length-to_bits 2 0, length-to_bits 2 v);
  smaller = λ e. omega (arith, number-to_bits 2 0);
}

pub trim_fewest : (objects : ℕ) → Spells (trim_element objects) (λ l t. First (trim_element_bits t) l)
unfolding trim_element trim_element_bits
trim_fewest objects =
    s-bind _ _ _ (s-unreserved true WarpMode _ λ warp w w'.
    s-bind _ _ _ (s-bits 2 _ λ reserved r.
    s-bind _ _ _ (s-unreserved true GlobalTrimMode _ λ mode m m'.
    s-bind _ _ _ (s-then _ _ _ (array_first trim_config config_bits no_config config_only (eqb mode 2) trim_configs) λ l configs c.
    s-bind _ _ _ (s-bits 1 _ λ flag f.
    s-bind _ _ _ (s-then _ _ _ (array_first (bits 1) (λ x. to_bits 1 x) 0 (s-bits 1 _ λ x b. first_same _) (set? flag) objects) λ n flags d.
    s-give _ _ (rw (append-nil n)
    (first-append (first_same (to_bits 2 warp)) (first-append (zeros_first reserved) (first-append (first_same (to_bits 2 mode))
    (first-append c (first-append (first_same (to_bits 1 flag)) d))))))))))))
