-- A loop that fills an array from the front: the entries that were read, and behind them the entry for none.
use mathlib.Core.Path.{◌≡◌, refl, ◌∙◌}
use mathlib.Core.List.{List, [], ◌∷◌, ◌++◌, append_assoc, map, map-append}
use Prim.Native.Nat.{ℕ, suc, ◌+◌, ◌-◌, ◌≤◌, ◌<◌}
use native.Mathlib.Nat.{sub-zero}
use native.Mathlib.Omega.{arith}
use lib.ListN.{length, set, replicate, length-append, length-map}
use lib.Seq.{set-append_seam}
use Rattle.bits.specs.declared.Cur.{Cur}
use Rattle.bits.specs.declared.Limit.{Limit}
use Rattle.bits.specs.Language.{Bits, P, ◌>>=◌, for}
use Rattle.bits.specs.View.{Reads}
use Rattle.bits.proofs.Sticky.{Left, turns, for_start, for_step, for-stop}
use Rattle.oamd.specs.Programme.{filled}

-- one more entry, stored at i, the length of the list
pub filled_next : {A : Type 0} (n : ℕ) (none : A) (xs : List A) (x : A) (i : ℕ) → length xs ≡ i → i < n
    → set (filled n none xs) i x ≡ filled n none (xs ++ (x ∷ []))
filled_next n none xs x i e h =
    let k : n - length xs ≡ suc (n - length (xs ++ (x ∷ []))) = simp length-append (omega arith) in
    rw (← e, k) (set-append_seam xs none (replicate (n - length (xs ++ (x ∷ []))) none) x ∙ rw append_assoc)

-- Of `for n f`, from the cursor c, i turns are done; the array holds what g makes of the entries that they read; h is what is made of all entries.
pub record Filling {A B E : Type 0} (n : ℕ) (f : ℕ → P A) (h : List A → P B) (g : A → E) (most : ℕ) (none : E) (b : Bits) (c : Cur) (l : Limit)
    (array : List E) (d : Cur) (i : ℕ) : Type 0 where
  pub list : List A
  pub long : length list ≡ i
  pub holds : array ≡ filled most none (map g list)
  pub left : Left (for n f >>= h) b c l (turns n f h i list) d

module _ {A B E : Type 0} {n : ℕ} {f : ℕ → P A} {h : List A → P B} {g : A → E} {most : ℕ} {none : E} {b : Bits} {c : Cur} {l : Limit} where
  pub filling_start : Filling n f h g most none b c l (replicate most none) c 0
  filling_start = record { list = []; long = refl; holds = rw (sub-zero most); left = for_start n f h }

  pub filling_step : {array : List E} {d d' : Cur} {i : ℕ} {x : A} → Filling n f h g most none b c l array d i → i < n → i < most
      → Reads (f i) b d l x d' → Filling n f h g most none b c l (set array i (g x)) d' (i + 1)
  filling_step {i = i} {x} r q m s =
      record {
        list = r.list ++ (x ∷ []);
        long = simp length-append (omega (arith, r.long));
        holds = rw (r.holds, map-append) (filled_next most none (map g r.list) (g x) i (length-map r.list g ∙ r.long) m);
        left = for_step n f h i r.list q r.left s;
      }

  pub filling-stop : {array : List E} {d : Cur} {i : ℕ} (r : Filling n f h g most none b c l array d i) → n ≤ i → Left (for n f >>= h) b c l (h r.list) d
  filling-stop {i = i} r q = for-stop n f h i r.list q r.left
