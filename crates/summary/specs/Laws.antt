-- Counting and the counts: one more of each entry of a list, one after the other, is how often each number stands in it.
use Rattle.std.specs.Prelude.{◌≡◌, refl, Bool, true, false, List, [], ◌∷◌, ◌++◌, map, ℕ, zero, suc, ◌+◌, ◌*◌, ◌≤◌, ◌<◌, eqb, ltb, length, get_or, set, take}
use Rattle.std.proofs.Common.{sym, ap, ◌∙◌, append_assoc, append-nil, mul-suc, arith, length-set, ext_get_or, get_or-set_same, get_or-set_other, ltb-false, eqb-true}
use Rattle.std.proofs.lemmas.List.{length-map}
use Rattle.std.proofs.Math.ListN.{get_or-eq_default}
use Rattle.std.proofs.Math.Seq.{take-nil}
use Rattle.std.proofs.lemmas.Bool.{eqb-false}
use Rattle.bits.specs.Language.{pick, from, as_flag}
use Rattle.bits.specs.Laws.{length_from}
use Rattle.bits.specs.Steps.{by_order}
use Rattle.summary.specs.Summary.{tally, tallies, total}
use Rattle.summary.specs.Counting.{bumped, all_bumped, Low}

-- ---- one more

pub length-bumped : (v : ℕ) (counts : List ℕ) → length (bumped v counts) ≡ length counts
unfolding bumped
length-bumped v counts = go (ltb v (length counts))
  where
    go : (t : Bool) → length (pick t (set counts v (get_or counts v 0 + 1)) counts) ≡ length counts
    go true = length-set counts v _
    go false = refl

-- at k: one more, if it is k
get_or-bumped : (v k : ℕ) (counts : List ℕ) → k < length counts → get_or (bumped v counts) k 0 ≡ get_or counts k 0 + as_flag (eqb v k)
unfolding bumped
get_or-bumped v k counts l = go (ltb v (length counts)) refl (eqb v k) refl
  where
    go : (t : Bool) → ltb v (length counts) ≡ t → (u : Bool) → eqb v k ≡ u
        → get_or (pick t (set counts v (get_or counts v 0 + 1)) counts) k 0 ≡ get_or counts k 0 + as_flag u
    go true below true same =
        let e = eqb-true v k same in
        rw e (get_or-set_same counts k _ 0 l)
    go true below false other = get_or-set_other counts v k _ 0 (λ e. eqb-false v k other (sym e)) ∙ omega arith
    go false past true same = absurd (omega (arith, eqb-true v k same, ltb-false v (length counts) past))
    go false past false other = omega arith

pub flag_small : (t : Bool) → as_flag t ≤ 1
flag_small true = omega arith
flag_small false = omega arith

-- room for one less
pub low-bumped : (n v : ℕ) (counts : List ℕ) → Low (suc n) counts → Low n (bumped v counts)
low-bumped n v counts low = record {
  room = λ k. by_order (length counts) k
      (λ past.
      let e = get_or-eq_default (bumped v counts) 0 {n = k} (omega (arith, length-bumped v counts)) in
      omega (arith, low.room k))
      (λ below. omega (arith, low.room k, get_or-bumped v k counts below, flag_small (eqb v k)));
}

-- ---- how often each number stands in a list

tally-append : (k : ℕ) (xs ys : List ℕ) → tally k (xs ++ ys) ≡ tally k xs + tally k ys
unfolding tally
tally-append k [] ys = omega arith
tally-append k (x ∷ xs) ys = let e = tally-append k xs ys in omega arith

pub length-tallies : (n : ℕ) (xs : List ℕ) → length (tallies n xs) ≡ n
unfolding tallies
length-tallies n xs = length-map (from 0 n) (λ k. tally k xs) ∙ length_from 0 n

get_or-from : (f : ℕ → ℕ) (i n k : ℕ) → k < n → get_or (map f (from i n)) k 0 ≡ f (i + k)
unfolding from
get_or-from f i zero k l = absurd (omega arith)
get_or-from f i (suc n) zero l = let e : i + 0 ≡ i = omega arith in rw e refl
get_or-from f i (suc n) (suc k) l = let e : i + suc k ≡ suc i + k = omega arith in rw e (get_or-from f (suc i) n k (omega arith))

pub get_or-tallies : (n : ℕ) (xs : List ℕ) (k : ℕ) → k < n → get_or (tallies n xs) k 0 ≡ tally k xs
unfolding tallies
get_or-tallies n xs k l = get_or-from (λ k. tally k xs) 0 n k l ∙ ap (λ (i : ℕ). tally i xs) (omega arith)

-- one more of v
pub bumped-tallies : (n : ℕ) (xs : List ℕ) (v : ℕ) → bumped v (tallies n xs) ≡ tallies n (xs ++ (v ∷ []))
unfolding tally
bumped-tallies n xs v =
    let long = length-tallies n xs in
    let same = length-bumped v (tallies n xs) in
    ext_get_or 0 (bumped v (tallies n xs)) (tallies n (xs ++ (v ∷ []))) (omega (arith, length-tallies n (xs ++ (v ∷ [])))) (λ k l.
    let below : k < n = omega arith in
    get_or-bumped v k (tallies n xs) (omega arith)
    ∙ omega (arith, get_or-tallies n xs k below, get_or-tallies n (xs ++ (v ∷ [])) k below, tally-append k xs (v ∷ [])))

-- one more of each of these
pub all-bumped-tallies : (n : ℕ) (xs ys : List ℕ) → all_bumped ys (tallies n xs) ≡ tallies n (xs ++ ys)
unfolding all_bumped
all-bumped-tallies n xs [] = ap (tallies n) (sym (append-nil xs))
all-bumped-tallies n xs (v ∷ vs) =
    ap (all_bumped vs) (bumped-tallies n xs v) ∙ all-bumped-tallies n (xs ++ (v ∷ [])) vs ∙ ap (tallies n) (append_assoc xs (v ∷ []) vs)

-- no more often than it is long
pub tally_le : (k : ℕ) (xs : List ℕ) → tally k xs ≤ length xs
unfolding tally
tally_le k [] = omega arith
tally_le k (x ∷ xs) = let e = tally_le k xs in let f = flag_small (eqb x k) in omega arith

-- so n more have room, where that is so for all of them
pub low-tallies : (m n : ℕ) (xs : List ℕ) → length xs + n ≤ 4294967295 → Low n (tallies m xs)
low-tallies m n xs h = record {
  room = λ k. by_order m k
      (λ past. let e = get_or-eq_default (tallies m xs) 0 {n = k} (omega (arith, length-tallies m xs)) in omega arith)
      (λ below. omega (arith, get_or-tallies m xs k below, tally_le k xs));
}

-- ---- sums

pub total-append : {A : Type 0} (f : A → ℕ) (xs ys : List A) → total f (xs ++ ys) ≡ total f xs + total f ys
unfolding total
total-append f [] ys = omega arith
total-append f (x ∷ xs) ys = let e = total-append f xs ys in omega arith

-- up to m for each of the first n
pub total_most : {A : Type 0} (f : A → ℕ) (m : ℕ) (d : A) (xs : List A) (n : ℕ) → ((i : ℕ) → i < n → f (get_or xs i d) ≤ m) → total f (take n xs) ≤ m * n
unfolding total
total_most f m d [] n h =
    let e = ap (total f) (take-nil n) in
    omega arith
total_most f m d (x ∷ xs) zero h = omega arith
total_most f m d (x ∷ xs) (suc n) h =
    let first = h 0 (omega arith) in
    let rest = total_most f m d xs n (λ i l. h (suc i) (omega arith)) in
    let e = mul-suc m n in
    omega arith
