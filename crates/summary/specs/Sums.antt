-- The theorems on a summary: when a call is refused, that its counts add up, and how large they can be.
use Rattle.std.specs.Prelude.{◌≡◌, refl, Bool, true, false, List, [], ◌∷◌, ◌++◌, map, ◌⊎◌, ℕ, zero, suc, ◌+◌, ◌≤◌, ◌<◌, eqb, length, replicate}
use Rattle.std.proofs.Common.{sym, ◌∙◌, subst, arith, eqb-true, ne_eqb}
use Rattle.std.proofs.Math.Path.{ap}
use Rattle.std.proofs.Math.Logic.{⊎_elim}
use Rattle.std.proofs.Math.ListN.{get_or, length-map, get_or-eq_default}
use Rattle.std.proofs.lemmas.Bool.{eqb-false}
use Rattle.bits.specs.Language.{pick, from, as_flag}
use Rattle.bits.specs.Steps.{by_order}
use Rattle.bits.specs.Terms.{Every}
use Rattle.oamd.specs.Tables.{record_bytes}
use Rattle.oamd.specs.Answer.{Outcome}
use Rattle.roundtrip.specs.Promises.{most_byte}
use Rattle.summary.specs.declared.Summary.{Summary}
use Rattle.summary.specs.Summary.{most_entries, tally, tallies, total, joined, outcomes, refusal_of, accepted_of, records_of, column, summary_of, refused_summary, summing}
use Rattle.summary.specs.Laws.{length-tallies, get_or-tallies, tally_le}
use Rattle.summary.specs.Entries.{Ranged}
use Rattle.summary.specs.More.{column_long, bounded, all-ranged, length-outcomes}
use Rattle.summary.specs.Calls.{unequal, too_many, summed-up}
use Rattle.summary.specs.Promises.{When, sum, AddsUp, Bounds}

-- ---- how often each number below n stands in a list, put together

sum-plus : (f g : ℕ → ℕ) (ks : List ℕ) → sum (map (λ k. f k + g k) ks) ≡ sum (map f ks) + sum (map g ks)
unfolding total
sum-plus f g [] = refl
sum-plus f g (k ∷ ks) = let e = sum-plus f g ks in omega arith

sum_none : (x i n : ℕ) → x < i → sum (map (λ k. as_flag (eqb x k)) (from i n)) ≡ 0
unfolding total from
sum_none x i zero h = refl
sum_none x i (suc n) h =
    let here : as_flag (eqb x i) ≡ 0 = ap as_flag (ne_eqb x i (λ e. omega arith)) in
    let rest = sum_none x (suc i) n (omega arith) in
    omega arith

sum-once : (x i n : ℕ) → i ≤ x → x < i + n → sum (map (λ k. as_flag (eqb x k)) (from i n)) ≡ 1
unfolding total from
sum-once x i zero l h = absurd (omega arith)
sum-once x i (suc n) l h = go (eqb x i) refl (λ l'. sum-once x (suc i) n l' (omega arith))
  where
    go : (t : Bool) → eqb x i ≡ t → (suc i ≤ x → sum (map (λ k. as_flag (eqb x k)) (from (suc i) n)) ≡ 1)
        → as_flag t + sum (map (λ k. as_flag (eqb x k)) (from (suc i) n)) ≡ 1
    go true q rest = let e = eqb-true x i q in let z = sum_none x (suc i) n (omega arith) in omega arith
    go false q rest =
        by_order (suc i) x (λ m. let z = rest m in omega arith) (λ m. absurd (eqb-false x i q (omega arith)))

sum_zeros : (ks : List ℕ) → sum (map (λ k. 0) ks) ≡ 0
unfolding total
sum_zeros [] = refl
sum_zeros (k ∷ ks) = let e = sum_zeros ks in omega arith

-- each entry is counted once, where all of them are below n
sum-tallies : (n : ℕ) (xs : List ℕ) → Every (λ x. x < n) xs → sum (tallies n xs) ≡ length xs
unfolding tallies tally
sum-tallies n [] all = sum_zeros (from 0 n)
sum-tallies n (x ∷ xs) all =
    let rest = sum-tallies n xs all.1 in
    let first = sum-once x 0 n (omega arith) (omega (arith, all.0)) in
    sum-plus (λ k. as_flag (eqb x k)) (λ k. tally k xs) (from 0 n) ∙ omega arith

tally_none : (k : ℕ) (xs : List ℕ) → Every (λ x. x ≡ k → ⊥) xs → tally k xs ≡ 0
unfolding tally
tally_none k [] all = refl
tally_none k (x ∷ xs) all =
    let here : as_flag (eqb x k) ≡ 0 = ap as_flag (ne_eqb x k all.0) in
    let rest = tally_none k xs all.1 in
    omega arith

count_le : (m : ℕ) (xs : List ℕ) (k : ℕ) → get_or (tallies m xs) k 0 ≤ length xs
count_le m xs k = by_order m k
    (λ past. let e = get_or-eq_default (tallies m xs) 0 {n = k} (omega (arith, length-tallies m xs)) in omega arith)
    (λ below. omega (arith, get_or-tallies m xs k below, tally_le k xs))

-- ---- the columns are in their ranges

every_append : {A : Type 0} (P : A → Type 0) (xs ys : List A) → Every P xs → Every P ys → Every P (xs ++ ys)
every_append P [] ys p q = q
every_append P (x ∷ xs) ys p q = (p.0, every_append P xs ys p.1 q)

every-from : (P : ℕ → Type 0) (f : ℕ → ℕ) (i n : ℕ) → ((j : ℕ) → j < i + n → P (f j)) → Every P (map f (from i n))
unfolding from
every-from P f i zero h = tt
every-from P f i (suc n) h = (h i (omega arith), every-from P f (suc i) n (λ j l. h j (omega arith)))

columns_in : (m k : ℕ) → k < record_bytes → get_or most_byte k 0 < m → (os : List Outcome) → Every Ranged os → Every (λ x. x < m) (joined (column k) (accepted_of os))
unfolding joined accepted_of
columns_in m k l h [] all = tt
columns_in m k l h (o ∷ os) all = go (eqb (refusal_of o) 0) (columns_in m k l h os all.1)
  where
    go : (t : Bool) → Every (λ x. x < m) (joined (column k) (accepted_of os)) → Every (λ x. x < m) (joined (column k) (pick t (o ∷ accepted_of os) (accepted_of os)))
    go true rest = every_append (λ x. x < m) (column k o) (joined (column k) (accepted_of os)) (every-from (λ x. x < m) _ 0 (records_of o) (λ i j. omega (arith, all.0.bytes i k (omega arith) l))) rest
    go false rest = rest

refusals_in : (P : ℕ → Type 0) → ((x : ℕ) → (x ≤ 8) ⊎ (x ≡ 12) → P x) → (os : List Outcome) → Every Ranged os → Every P (map refusal_of os)
refusals_in P h [] all = tt
refusals_in P h (o ∷ os) all = (h (refusal_of o) all.0.number, refusals_in P h os all.1)

-- ---- the theorems

module _ (os : List Outcome) (all : Every Ranged os) where
  column-sums : (m k : ℕ) → k < record_bytes → get_or most_byte k 0 < m → sum (tallies m (joined (column k) (accepted_of os))) ≡ total records_of (accepted_of os)
  column-sums m k l h = sum-tallies m (joined (column k) (accepted_of os)) (columns_in m k l h os all) ∙ column_long k (accepted_of os)

  none_of : (k : ℕ) → 8 < k → k < 12 → get_or (tallies 13 (map refusal_of os)) k 0 ≡ 0
  none_of k l h =
      get_or-tallies 13 (map refusal_of os) k (omega arith)
      ∙ tally_none k (map refusal_of os) (refusals_in (λ x. x ≡ k → ⊥) (λ x p e. ⊎_elim (λ (q : x ≤ 8). omega arith) (λ (q : x ≡ 12). omega arith) p) os all)

  summary-adds-up : AddsUp (length os) (summary_of os)
  unfolding summary_of
  summary-adds-up = record {
    gains = column-sums 66 2 (omega arith) (omega arith);
    zones = column-sums 6 11 (omega arith) (omega arith);
    classes = column-sums 3 1 (omega arith) (omega arith);
    activity = column-sums 2 0 (omega arith) (omega arith);
    payloads =
        sum-tallies 13 (map refusal_of os)
        (refusals_in (λ x. x < 13) (λ x p. ⊎_elim (λ (q : x ≤ 8). omega arith) (λ (q : x ≡ 12). omega arith) p) os all)
        ∙ length-map os refusal_of;
    no_9 = none_of 9 (omega arith) (omega arith);
    no_10 = none_of 10 (omega arith) (omega arith);
    no_11 = none_of 11 (omega arith) (omega arith);
  }

  summary-bounds : length os ≤ most_entries → Bounds (summary_of os)
  unfolding summary_of
  summary-bounds few =
      let b = bounded os all in
      let in-column : (m k j : ℕ) → get_or (tallies m (joined (column k) (accepted_of os))) j 0 ≤ total records_of (accepted_of os) =
      λ m k j. omega (arith, count_le m (joined (column k) (accepted_of os)) j, column_long k (accepted_of os)) in
      record {
        records = omega (arith, b.records);
        late = omega (arith, b.late);
        ramps = omega (arith, b.ramps);
        gains = in-column 66 2;
        zones = in-column 6 11;
        classes = in-column 3 1;
        activity = in-column 2 0;
        payloads = λ k. omega (arith, count_le 13 (map refusal_of os) k, length-map os refusal_of);
      }

refused-bounds : (number place : ℕ) → Bounds (refused_summary number place)
unfolding refused_summary
refused-bounds number place = record {
  records = omega arith;
  late = omega arith;
  ramps = omega arith;
  gains = zero_at 66;
  zones = zero_at 6;
  classes = zero_at 3;
  activity = zero_at 2;
  payloads = λ k. let z = zero_at 13 k in omega arith;
}
  where
    zero_at : (n k : ℕ) → get_or (replicate n 0) k 0 ≤ 0
    zero_at zero k = omega arith
    zero_at (suc n) zero = omega arith
    zero_at (suc n) (suc k) = zero_at n k

module _ (store starts lengths : List ℕ) where
  -- by whether there is a length for each start, and whether there are too many
  by-lists : {X : Type 0} → ((length lengths ≡ length starts → ⊥) → X) → (length lengths ≡ length starts → most_entries < length starts → X)
      → (length lengths ≡ length starts → length starts ≤ most_entries → X) → X
  by-lists {X} f g h = go (eqb (length lengths) (length starts)) refl
    where
      go : (t : Bool) → eqb (length lengths) (length starts) ≡ t → X
      go true q = by_order (length starts) most_entries (h (eqb-true _ _ q)) (g (eqb-true _ _ q))
      go false q = f (eqb-false _ _ q)

  -- 13 and 16, exactly when, and where.
  pub summary_when : When store starts lengths
  unfolding refused_summary summary_of
  summary_when = record {
    lists = (
      λ r e. by-lists (λ h. h e)
          (λ e' h. omega (arith, ap (λ (s : Summary). s.refusal) (sym (too_many store starts lengths e' h) ∙ r)))
          (λ e' h. omega (arith, ap (λ (s : Summary). s.refusal) (sym (summed-up store starts lengths e' h) ∙ r))),
      unequal store starts lengths,
    );
    many = (
      λ r. by-lists (λ h. absurd (omega (arith, ap (λ (s : Summary). s.refusal) (sym (unequal store starts lengths h) ∙ r))))
          (λ e h. (e, h))
          (λ e h. absurd (omega (arith, ap (λ (s : Summary). s.refusal) (sym (summed-up store starts lengths e h) ∙ r)))),
      λ h. too_many store starts lengths h.0 h.1,
    );
    neither = λ e h. (ap (λ (s : Summary). s.refusal) (summed-up store starts lengths e h), ap (λ (s : Summary). s.place) (summed-up store starts lengths e h));
  }

  -- Of every call that is not refused, the gains, the zones, the classes and the activity each add up to the records, and the payloads to the entries.
  pub adds-up : (summing store starts lengths).refusal ≡ 0 → AddsUp (length starts) (summing store starts lengths)
  unfolding refused_summary
  adds-up z = by-lists
      (λ h. absurd (let e = ap (λ (s : Summary). s.refusal) (unequal store starts lengths h) in omega arith))
      (λ e h. absurd (let e = ap (λ (s : Summary). s.refusal) (too_many store starts lengths e h) in omega arith))
      (λ e h. rw (summed-up store starts lengths e h) (subst (λ (n : ℕ). AddsUp n (summary_of (outcomes store starts lengths))) (length-outcomes store starts lengths e)
      (summary-adds-up (outcomes store starts lengths) (all-ranged store starts lengths))))

  -- No count passes 32 bits, whatever is called.
  pub bounds : Bounds (summing store starts lengths)
  bounds = by-lists
      (λ h. rw (unequal store starts lengths h) (refused-bounds _ _))
      (λ e h. rw (too_many store starts lengths e h) (refused-bounds _ _))
      (λ e h. rw (summed-up store starts lengths e h) (summary-bounds (outcomes store starts lengths) (all-ranged store starts lengths)
      (omega (arith, length-outcomes store starts lengths e))))
