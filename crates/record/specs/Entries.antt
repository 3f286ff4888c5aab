-- Laws of tables whose entries take so many bytes each: what is made of bytes has these bytes, and the bytes of entries give the entries again.
use Rattle.std.specs.Prelude.{◌≡◌, refl, List, [], ◌∷◌, ◌++◌, ℕ, zero, suc, ◌+◌, ◌*◌, ◌≤◌, ◌<◌, length, get_or, take, drop}
use Rattle.std.proofs.Common.{sym, ap, ap₂, ◌∙◌, append_assoc, arith, mul-zero, mul-suc, drop-cons, drop-drop, take-add}
use Rattle.record.specs.Bytes.{bytes_at}

pub no_bytes : (l : List ℕ) → [] ≡ take 0 l
no_bytes [] = refl
no_bytes (x ∷ xs) = refl

pub from_first : (l : List ℕ) → drop 0 l ≡ l
from_first [] = refl
from_first (x ∷ xs) = refl

pub bytes-are : (s : List ℕ) (n at : ℕ) → at + n ≤ length s → bytes_at s n at ≡ take n (drop at s)
unfolding bytes_at
bytes-are s zero at h = no_bytes (drop at s)
bytes-are s (suc n) at h =
    let e : at + 1 ≡ suc at = omega arith in
    rw (drop-cons s at 0 (omega arith), e) (ap (λ (xs : List ℕ). get_or s at 0 ∷ xs) (bytes-are s n (suc at) (omega arith)))

-- m bytes, and n behind them
pub joined : (s : List ℕ) (at m n : ℕ) (a b : List ℕ) → a ≡ take m (drop at s) → b ≡ take n (drop (at + m) s) → a ++ b ≡ take (m + n) (drop at s)
joined s at m n a b f g = rw (take-add m n (drop at s), drop-drop m at s) (ap₂ (λ (x y : List ℕ). x ++ y) f g)

-- ---- tables of entries that take so many bytes each: how one is read from bytes, and many; the bytes of one, and of all

module _ {A : Type 0} (stride : ℕ) (one : List ℕ → ℕ → A) (many : List ℕ → ℕ → ℕ → List A)
    (none : (s : List ℕ) (at : ℕ) → many s zero at ≡ []) (more : (s : List ℕ) (n at : ℕ) → many s (suc n) at ≡ one s at ∷ many s n (at + stride)) where
  pub count : (s : List ℕ) (n at : ℕ) → length (many s n at) ≡ n
  count s zero at = ap length (none s at)
  count s (suc n) at = ap length (more s n at) ∙ ap suc (count s n (at + stride))

  pub shifted : ((s : List ℕ) (a at : ℕ) → one s (a + at) ≡ one (drop a s) at) → (s : List ℕ) (n a at : ℕ) → many s n (a + at) ≡ many (drop a s) n at
  shifted f s zero a at = none s (a + at) ∙ sym (none (drop a s) at)
  shifted f s (suc n) a at =
      let e : a + at + stride ≡ a + (at + stride) = omega arith in
      rw (more s n (a + at), more (drop a s) n at, e) (ap₂ (λ (x : A) (xs : List A). x ∷ xs) (f s a at) (shifted f s n a (at + stride)))

  pub entry : (s : List ℕ) (n at i : ℕ) (none-there : A) → i < n → get_or (many s n at) i none-there ≡ one s (at + stride * i)
  entry s zero at i d h = absurd (omega arith)
  entry s (suc n) at zero d h =
      let e : at ≡ at + stride * 0 = (let z = mul-zero stride in omega arith) in
      ap (λ (xs : List A). get_or xs 0 d) (more s n at) ∙ ap (one s) e
  entry s (suc n) at (suc i) d h =
      let e : at + stride + stride * i ≡ at + stride * suc i = (let z = mul-suc stride i in omega arith) in
      ap (λ (xs : List A). get_or xs (suc i) d) (more s n at) ∙ entry s n (at + stride) i d (omega arith) ∙ ap (one s) e

  -- the entries counted from i on, since their bytes may go by that
  module _ (bytes : ℕ → A → List ℕ) (all : ℕ → List A → List ℕ) (All-none : (i : ℕ) → all i [] ≡ [])
      (All-more : (i : ℕ) (x : A) (xs : List A) → all i (x ∷ xs) ≡ bytes i x ++ all (suc i) xs) where
    -- the bytes of what was made of bytes are these, if they are for each entry
    pub entries-bytes : (s : List ℕ) (n at i : ℕ)
        → ((k : ℕ) → k < n → at + stride * k + stride ≤ length s → bytes (i + k) (one s (at + stride * k)) ≡ take stride (drop (at + stride * k) s))
        → at + stride * n ≤ length s → all i (many s n at) ≡ take (stride * n) (drop at s)
    entries-bytes s zero at i f h = rw (none s at, All-none i, mul-zero stride) (no_bytes (drop at s))
    entries-bytes s (suc n) at i f h =
        let e : stride * suc n ≡ stride * n + stride = mul-suc stride n in
        let d : stride * n + stride ≡ stride + stride * n = omega arith in
        let z = mul-zero stride in
        let here : at + stride * 0 ≡ at = omega arith in
        let first : i + 0 ≡ i = omega arith in
        rw (more s n at, All-more i (one s at) (many s n (at + stride)), e, d)
        (joined s at stride (stride * n) _ _ (rw (here, first) at (f 0 (omega arith) (omega arith)))
        (entries-bytes s n (at + stride) (suc i) (λ k l m. later k l m) (omega arith)))
      where
        later : (k : ℕ) → k < n → at + stride + stride * k + stride ≤ length s
            → bytes (suc i + k) (one s (at + stride + stride * k)) ≡ take stride (drop (at + stride + stride * k) s)
        later k l m =
            let z = mul-suc stride k in
            let e : at + stride * suc k ≡ at + stride + stride * k = omega arith in
            let j : i + suc k ≡ suc i + k = omega arith in
            rw (e, j) at (f (suc k) (omega arith) (omega arith))

    -- and what is made of the bytes of entries, whatever stands behind them, is these
    pub entries-again : ((s : List ℕ) (a at : ℕ) → one s (a + at) ≡ one (drop a s) at) → ((i : ℕ) (x : A) (tail : List ℕ) → one (bytes i x ++ tail) 0 ≡ x)
        → ((i : ℕ) (x : A) (tail : List ℕ) → drop stride (bytes i x ++ tail) ≡ tail)
        → (i : ℕ) (xs : List A) (tail : List ℕ) → many (all i xs ++ tail) (length xs) 0 ≡ xs
    entries-again f g h i [] tail = none (all i [] ++ tail) 0
    entries-again f g h i (x ∷ xs) tail =
        let behind : List ℕ = all (suc i) xs ++ tail in
        let s : List ℕ = bytes i x ++ behind in
        let e : 0 + stride ≡ stride + 0 = omega arith in
        let rest : many s (length xs) (0 + stride) ≡ xs =
        ap (many s (length xs)) e ∙ shifted f s (length xs) stride 0 ∙ ap (λ (l : List ℕ). many l (length xs) 0) (h i x behind)
        ∙ entries-again f g h (suc i) xs tail in
        ap (λ (l : List ℕ). many (l ++ tail) (suc (length xs)) 0) (All-more i x xs)
        ∙ ap (λ (l : List ℕ). many l (suc (length xs)) 0) (append_assoc (bytes i x) (all (suc i) xs) tail) ∙ more s (length xs) 0
        ∙ ap₂ (λ (y : A) (ys : List A). y ∷ ys) (g i x behind) rest
