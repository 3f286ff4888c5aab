-- The entries of an array, stored one after the other behind what stands. Assumes nothing.
use mathlib.Core.Path.{◌≡◌, refl, sym, ap, ◌∙◌}
use mathlib.Core.List.{List, [], ◌∷◌, ◌++◌, append_assoc, append-nil}
use Prim.Native.Nat.{ℕ, ◌+◌, ◌≤◌, ◌<◌}
use native.Mathlib.Numerals.{add-one}
use native.Mathlib.Omega.{arith}
use Rattle.std.proofs.Common.{drop, drop-drop, length-drop, length-take-le, take-append-drop}
use lib.ListN.{length, get_or, take, length-append}
use lib.Seq.{take-suc, take_all}
use Rattle.oamd.specs.Tables.{answer_bytes}
use Rattle.oamd.specs.Record.{onto}
use Rattle.oamd.specs.Batch.{each_bytes}
use Rattle.record.specs.Bytes.{set_from}
use Rattle.record.specs.Stored.{seam}
use Rattle.batch.specs.Parts.{Stands}

-- bytes laid over as many are stored one by one
pub laid : (xs s : List ℕ) (at n : ℕ) {m : ℕ} → n ≡ m → length xs ≡ length (take m (drop at s)) → at + n ≤ length s
    → take at s ++ (xs ++ drop m (drop at s)) ≡ set_from at 0 xs s
unfolding onto
laid xs s at n {m} e l h =
    let front : List ℕ = take at s in
    let far : length front ≡ at = length-take-le at s (omega arith) in
    let long : length xs ≡ m = l ∙ length-take-le m (drop at s) (omega (arith, length-drop at s)) in
    let again : onto front s ≡ s = ap (λ (k : ℕ). front ++ drop k s) far ∙ take-append-drop at s in
    let behind : length (front ++ xs) ≡ at + m = length-append front xs ∙ omega (arith, far, long) in
    let rest : drop (length (front ++ xs)) s ≡ drop m (drop at s) = ap (λ (k : ℕ). drop k s) behind ∙ sym (drop-drop m at s) in
    sym (ap (set_from at 0 xs) (sym again) ∙ seam xs front s at 0 (omega (arith, far)) (omega (arith, long))
    ∙ ap (λ (t : List ℕ). (front ++ xs) ++ t) rest ∙ append_assoc front xs (drop m (drop at s)))

module _ {A : Type 0} (f : A → List ℕ) where
  pub each_append : (xs ys : List A) → each_bytes f (xs ++ ys) ≡ each_bytes f xs ++ each_bytes f ys
  unfolding each_bytes
  each_append [] ys = refl
  each_append (x ∷ xs) ys = ap (λ (t : List ℕ). f x ++ t) (each_append xs ys) ∙ sym (append_assoc (f x) (each_bytes f xs) (each_bytes f ys))

  one_more : (xs : List A) (i : ℕ) (d : A) → i < length xs → each_bytes f (take (i + 1) xs) ≡ each_bytes f (take i xs) ++ f (get_or xs i d)
  unfolding each_bytes
  one_more xs i d h =
      ap (λ (k : ℕ). each_bytes f (take k xs)) (add-one i)
      ∙ ap (each_bytes f) (take-suc xs i d h)
      ∙ each_append (take i xs) (get_or xs i d ∷ [])
      ∙ ap (λ (t : List ℕ). each_bytes f (take i xs) ++ t) (append-nil (f (get_or xs i d)))

  -- the first i entries are stored from byte n on, and at is behind them
  pub record Filling (n : ℕ) (xs : List A) (out₀ out : List ℕ) (at i : ℕ) : Type 0 where
    pub place : at ≡ n + length (each_bytes f (take i xs))
    pub stands : Stands f n (take i xs) out₀ out

  module _ {n : ℕ} {xs : List A} {out₀ : List ℕ} where
    pub begun : Filling n xs out₀ out₀ n 0
    unfolding each_bytes
    begun = record { place = omega arith; stands = λ front room long whole is. is ∙ ap (λ (t : List ℕ). onto t room) (sym (append-nil front)) }

    pub turn : {out out' : List ℕ} {at w i : ℕ} (d : A) → Filling n xs out₀ out at i → i < length xs → length (f (get_or xs i d)) ≡ w → at + w ≤ answer_bytes
        → out' ≡ set_from at 0 (f (get_or xs i d)) out → Filling n xs out₀ out' (at + w) (i + 1)
    turn {out} {out'} {at} {w} {i} d before h wide fits e =
        let more = one_more xs i d h in
        let x : List ℕ = f (get_or xs i d) in
        record {
          place = omega (arith, before.place, ap length more, length-append (each_bytes f (take i xs)) x, wide);
          stands = λ front room long whole is.
              let so_far : List ℕ = front ++ each_bytes f (take i xs) in
              let end : at + 0 ≡ length so_far = omega (arith, before.place, length-append front (each_bytes f (take i xs))) in
              let room-left : at + 0 + length x ≤ length room = omega arith in
              e
              ∙ ap (set_from at 0 x) (before.stands front room long whole is)
              ∙ seam x so_far room at 0 end room-left
              ∙ ap (λ (t : List ℕ). onto t room) (append_assoc front (each_bytes f (take i xs)) x ∙ ap (λ (t : List ℕ). front ++ t) (sym more));
        }

    pub ended : {out : List ℕ} {at i : ℕ} → Filling n xs out₀ out at i → length xs ≤ i → Stands f n xs out₀ out
    ended {out} {at} {i} before h front room long whole is =
        before.stands front room long whole is ∙ ap (λ (ys : List A). onto (front ++ each_bytes f ys) room) (take_all i xs h)
