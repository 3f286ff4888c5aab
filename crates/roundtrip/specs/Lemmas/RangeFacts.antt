-- What the tests of valid tables say of single bytes and entries.
use Rattle.std.specs.Prelude.{◌≡◌, Bool, true, false, length, get_or, leb, ltb}
use mathlib.Core.List.{List, [], ◌∷◌, ◌++◌}
use Prim.Native.Nat.{ℕ, zero, suc, ◌+◌, ◌-◌, ◌≤◌, ◌<◌}
use native.Mathlib.Omega.{arith}
use Rattle.std.proofs.Common.{le-leb}
use Rattle.std.proofs.lemmas.Bool.{lt-leb}
use Rattle.oamd.specs.declared.Shares.{Shares}
use Rattle.oamd.specs.declared.TrimConfig.{TrimConfig}
use Rattle.oamd.specs.Programme.{class_of}
use Rattle.oamd.specs.Trim.{TrimTable, config_bytes_of, configs_bytes_of, trim_bytes_of}
use Rattle.form.specs.Valid.{between_if, entries_valid, config_valid, trim_valid}
use Rattle.form.specs.Lemmas.Tests.{halves, by-test, Ranged, in-range}
use Rattle.roundtrip.specs.Lemmas.TrimBack.{config-facts, trim-facts}
use Rattle.roundtrip.specs.Lemmas.AcceptedTiming.{picked_le}

-- a value that is in its range where it is carried, and else the default, if both are up to n
pub most : {carried : Bool} {low high default v n : ℕ} → Ranged carried low high default v → (high ≤ n) × (default ≤ n) → v ≤ n
most {carried} h l = by-test carried (λ q. let m = (h.on q).1 in omega arith) (λ q. let e = h.off q in omega arith)

-- from n on
pub least : {carried : Bool} {low high default v n : ℕ} → Ranged carried low high default v → (n ≤ low) × (n ≤ default) → n ≤ v
least {carried} h l = by-test carried (λ q. let m = (h.on q).0 in omega arith) (λ q. let e = h.off q in omega arith)

pub class_le : (s : Shares) (j : ℕ) → class_of s j ≤ 2
unfolding class_of
class_le s j =
    picked_le (ltb j s.bed) 0 _ 2 (λ q. omega arith) (λ q. picked_le (ltb j (s.bed + s.isf)) 1 2 2 (λ p. omega arith) (λ p. omega arith))

-- ---- entries of an array of which the first n are used

module _ {A : Type 0} (valid : Bool → A → Bool) (d : A) where
  pub entry-used : (n : ℕ) (xs : List A) → entries_valid valid n xs ≡ true → (i : ℕ) → i < n → i < length xs → valid true (get_or xs i d) ≡ true
  unfolding entries_valid
  entry-used n [] h i l m = absurd (omega arith)
  entry-used n (a ∷ rest) h zero l m = rw (le-leb 1 n l) at (halves (valid (leb 1 n) a) _ h).0
  entry-used n (a ∷ rest) h (suc i) l m = entry-used (n - 1) rest (halves (valid (leb 1 n) a) _ h).1 i (omega arith) (omega arith)

  pub entry-unused : (n : ℕ) (xs : List A) → entries_valid valid n xs ≡ true → (i : ℕ) → n ≤ i → i < length xs → valid false (get_or xs i d) ≡ true
  unfolding entries_valid
  entry-unused n [] h i l m = absurd (omega arith)
  entry-unused n (a ∷ rest) h zero l m = let z : n < 1 = omega arith in rw (lt-leb 1 n z) at (halves (valid (leb 1 n) a) _ h).0
  entry-unused n (a ∷ rest) h (suc i) l m = entry-unused (n - 1) rest (halves (valid (leb 1 n) a) _ h).1 i (omega arith) (omega arith)

-- ---- the bytes of a trim table

-- none is above 31
pub data Small : List ℕ → Type 0 where
  none : Small []
  more : {b : ℕ} {bs : List ℕ} → b ≤ 31 → Small bs → Small (b ∷ bs)

small : {carried : Bool} {low high v : ℕ} {bs : List ℕ} → Ranged carried low high 0 v → high ≤ 31 → Small bs → Small (v ∷ bs)
small {high = high} {v} h l rest =
    let m : v ≤ 31 = most h (omega arith) in
    more m rest

joined : {xs ys : List ℕ} → Small xs → Small ys → Small (xs ++ ys)
joined none g = g
joined (more l f) g = more l (joined f g)

config-small : (sent : Bool) (c : TrimConfig) → config_valid sent c ≡ true → Small (config_bytes_of c)
config-small sent c v =
    let f = config-facts sent c v in
    small f.bydefault (omega arith) (small f.disabled (omega arith) (small f.presence (omega arith)
    (small f.centre (omega arith) (small f.surround (omega arith) (small f.height (omega arith)
    (small f.tbsign (omega arith) (small f.tbamount (omega arith) (small f.lissign (omega arith) (small f.lisamount (omega arith) none)))))))))

configs-small : (n : ℕ) (cs : List TrimConfig) → entries_valid config_valid n cs ≡ true → Small (configs_bytes_of cs)
unfolding entries_valid configs_bytes_of
configs-small n [] h = none
configs-small n (c ∷ cs) h =
    let x = halves (config_valid (leb 1 n) c) _ h in
    joined (config-small (leb 1 n) c x.0) (configs-small (n - 1) cs x.1)

flags-small : (n : ℕ) (xs : List ℕ) → entries_valid (λ used x. between_if used 0 1 x) n xs ≡ true → Small xs
unfolding entries_valid
flags-small n [] h = none
flags-small n (b ∷ bs) h =
    let x = halves (between_if (leb 1 n) 0 1 b) _ h in
    small (in-range (leb 1 n) 0 1 b x.0) (omega arith) (flags-small (n - 1) bs x.1)

pub trim-small : (objects : ℕ) (t : TrimTable) → trim_valid objects t ≡ true → Small (trim_bytes_of t)
unfolding trim_bytes_of
trim-small objects t v =
    let f = trim-facts objects t v in
    small f.present (omega arith) (small f.warp (omega arith) (small f.mode (omega arith)
    (joined (configs-small _ t.configs f.configs) (small f.per-object (omega arith) (flags-small _ t.disabled f.disabled)))))

pub small_at : {bs : List ℕ} → Small bs → (i : ℕ) → get_or bs i 0 ≤ 31
small_at none i = omega arith
small_at (more l rest) zero = l
small_at (more l rest) (suc i) = small_at rest i
