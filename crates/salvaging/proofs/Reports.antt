-- The array of the drops, filled one by one. Assumes nothing.
use mathlib.Core.Path.{◌≡◌, sym, ap, ◌∙◌}
use mathlib.Core.List.{List, [], ◌∷◌, ◌++◌, map, map-append}
use Prim.Native.Nat.{ℕ, ◌+◌, ◌-◌, ◌<◌}
use native.Mathlib.Numerals.{add-one}
use native.Mathlib.Omega.{arith}
use lib.ListN.{length, get_or, take, set, replicate, length-map, length-take}
use lib.Seq.{take-suc}
use Rattle.oamd.specs.declared.Gone.{Gone}
use Rattle.oamd.specs.Tables.{most_elements}
use Rattle.oamd.specs.Programme.{filled}
use Rattle.syntax.proofs.Filled.{filled_next}
use Rattle.salvaging.specs.declared.Drop.{Drop}
use Rattle.salvaging.specs.Salvage.{drop_of, no_drop, reported}

-- the first i of the elements that go are reported
pub record Reporting (gone : List Gone) (dropped : List Drop) (i : ℕ) : Type 0 where
  pub holds : dropped ≡ filled most_elements no_drop (map drop_of (take i gone))

pub reporting_start : {gone : List Gone} {dropped : List Drop} → dropped ≡ replicate most_elements no_drop → Reporting gone dropped 0
reporting_start e = record { holds = e }

pub reporting_step : {gone : List Gone} {dropped : List Drop} {i : ℕ} (none : Gone) → Reporting gone dropped i → i < most_elements → length gone ≡ most_elements
    → Reporting gone (set dropped i (drop_of (get_or gone i none))) (i + 1)
reporting_step {gone} {dropped} {i} none h l e =
    let g : Gone = get_or gone i none in
    let before : List Gone = take i gone in
    let many : length (map drop_of before) ≡ i = length-map before drop_of ∙ length-take i gone ∙ omega arith in
    let next : before ++ (g ∷ []) ≡ take (i + 1) gone = sym (take-suc gone i none (omega arith)) ∙ ap (λ (k : ℕ). take k gone) (sym (add-one i)) in
    record {
      holds =
          ap (λ (x : List Drop). set x i (drop_of g)) h.holds
          ∙ filled_next most_elements no_drop (map drop_of before) (drop_of g) i many l
          ∙ ap (filled most_elements no_drop) (sym (map-append drop_of before (g ∷ [])) ∙ ap (map drop_of) next);
    }

pub reporting_end : {gone : List Gone} {dropped : List Drop} {i : ℕ} (n : ℕ) → Reporting gone dropped i → i ≡ n → dropped ≡ reported (take n gone)
reporting_end {gone} n h e =
    h.holds
    ∙ ap (λ (k : ℕ). filled most_elements no_drop (map drop_of (take k gone))) e
    ∙ ap (λ (k : ℕ). map drop_of (take n gone) ++ replicate (most_elements - k) no_drop) (length-map (take n gone) drop_of)
