-- What the digits of a number are: by its last digit, the number that they stand for, that the first is not 0, and how many there are.
use Rattle.std.specs.Prelude.{◌≡◌, refl, List, [], ◌∷◌, ◌++◌, ℕ, zero, suc, ◌+◌, ◌-◌, ◌*◌, ◌/◌, ◌%◌, ◌^◌, ◌≤◌, ◌<◌, length, get_or}
use Rattle.std.proofs.Common.{sym, ap, ◌∙◌, append-nil, append_assoc, arith, pow-suc, lt-ltb, le-ltb, length-append}
use Rattle.bits.specs.Steps.{by_order}
use Rattle.text.specs.Numerals.{digit, digits_in, decimal, Digit, Digits, Numeral, worth_from, worth}

-- ---- by the last digit

digits_one : (steps n : ℕ) → n < 10 → digits_in (suc steps) n ≡ digit n ∷ []
digits_one steps n h = rw (lt-ltb n 10 h, digits_in)

digits_more : (steps n : ℕ) → 10 ≤ n → digits_in (suc steps) n ≡ digits_in steps (n / 10) ++ (digit (n % 10) ∷ [])
digits_more steps n h = rw (le-ltb n 10 h, digits_in)

-- steps enough give the same digits
steps-enough : (a b n : ℕ) → n ≤ a → n ≤ b → digits_in a n ≡ digits_in b n
steps-enough zero zero n h j = refl
steps-enough zero (suc b) n h j = ap (λ (m : ℕ). digit m ∷ []) (omega arith) ∙ sym (digits_one b n (omega arith))
steps-enough (suc a) zero n h j = digits_one a n (omega arith) ∙ ap (λ (m : ℕ). digit m ∷ []) (omega arith)
steps-enough (suc a) (suc b) n h j =
    by_order 10 n
    (λ l.
    digits_more a n l
    ∙ ap (λ (ds : List ℕ). ds ++ (digit (n % 10) ∷ [])) (steps-enough a b (n / 10) (omega arith) (omega arith))
    ∙ sym (digits_more b n l))
    (λ l. digits_one a n l ∙ sym (digits_one b n l))

-- a number below 10 is its one digit
pub decimal_one : (n : ℕ) → n < 10 → decimal n ≡ digit n ∷ []
unfolding decimal
decimal_one n h = steps-enough n (suc n) n (omega arith) (omega arith) ∙ digits_one n n h

-- any other has the digits of its tenth part, and behind them that of what is left over
pub decimal_more : (n : ℕ) → 10 ≤ n → decimal n ≡ decimal (n / 10) ++ (digit (n % 10) ∷ [])
unfolding decimal
decimal_more n h =
    steps-enough n (suc n) n (omega arith) (omega arith)
    ∙ digits_more n n h
    ∙ ap (λ (ds : List ℕ). ds ++ (digit (n % 10) ∷ [])) (steps-enough n (n / 10) (n / 10) (omega arith) (omega arith))

-- so what holds of one digit, and goes on from a tenth part to the whole, holds of the digits of every number
by_digits : (P : ℕ → List ℕ → Type 0) → ((n : ℕ) → n < 10 → P n (digit n ∷ []))
    → ((n : ℕ) (cs : List ℕ) → 10 ≤ n → P (n / 10) cs → P n (cs ++ (digit (n % 10) ∷ []))) → (n : ℕ) → P n (decimal n)
by_digits P one more n = go n n (omega arith)
  where
    go : (most n : ℕ) → n ≤ most → P n (decimal n)
    go zero n h = rw (decimal_one n (omega arith)) (one n (omega arith))
    go (suc most) n h =
        by_order 10 n
        (λ l. rw (decimal_more n l) (more n (decimal (n / 10)) l (go most (n / 10) (omega arith))))
        (λ l. rw (decimal_one n l) (one n l))

-- ---- the statements

worth_last : (n : ℕ) (cs : List ℕ) (c : ℕ) → worth_from n (cs ++ (c ∷ [])) ≡ 10 * worth_from n cs + (c - digit 0)
worth_last n [] c = refl
worth_last n (d ∷ cs) c = worth_last (10 * n + (d - digit 0)) cs c

-- the digits of n stand for n
pub decimal-worth : (n : ℕ) → worth (decimal n) ≡ n
decimal-worth = by_digits (λ n cs. worth cs ≡ n) (λ n h. omega arith) (λ n cs h e. worth_last 0 cs (digit (n % 10)) ∙ omega arith)

digits_last : (cs : List ℕ) (c : ℕ) → Digits cs → Digit c → Digits (cs ++ (c ∷ []))
digits_last [] c h d = (d, tt)
digits_last (x ∷ cs) c h d = (h.0, digits_last cs c h.1 d)

numeral_last : (cs : List ℕ) (c : ℕ) → digit 1 ≤ get_or cs 0 0 → Numeral cs → Digit c → Numeral (cs ++ (c ∷ []))
numeral_last [] c f h d = absurd h
numeral_last (x ∷ []) c f h d = (f, (h, (d, tt)))
numeral_last (x ∷ y ∷ cs) c f h d = (h.0, digits_last (x ∷ y ∷ cs) c h.1 d)

first_last : (cs : List ℕ) (c : ℕ) → Numeral cs → get_or (cs ++ (c ∷ [])) 0 0 ≡ get_or cs 0 0
first_last [] c h = absurd h
first_last (x ∷ cs) c h = refl

-- they are digits without leading zeros
pub decimal-numeral : (n : ℕ) → Numeral (decimal n)
decimal-numeral n =
    (by_digits (λ n cs. Numeral cs × (1 ≤ n → digit 1 ≤ get_or cs 0 0))
    (λ n h. (omega arith, λ j. omega arith))
    (λ n cs h p.
    let first = p.1 (omega arith) in
    (numeral_last cs (digit (n % 10)) first p.0 (omega arith), λ j. rw (first_last cs (digit (n % 10)) p.0) first)) n).0

worth-digits : (n : ℕ) (cs : List ℕ) → 1 ≤ n → Digits cs → decimal (worth_from n cs) ≡ decimal n ++ cs
worth-digits n [] h d = sym (append-nil (decimal n))
worth-digits n (c ∷ cs) h d =
    let m : ℕ = 10 * n + (c - digit 0) in
    let low = d.0.0 in
    let high = d.0.1 in
    let tenth : m / 10 ≡ n = omega arith in
    let left : digit (m % 10) ≡ c = omega arith in
    let last : decimal m ≡ decimal n ++ (c ∷ []) = decimal_more m (omega arith) ∙ rw (tenth, left) in
    worth-digits m cs (omega arith) d.1 ∙ ap (λ (x : List ℕ). x ++ cs) last ∙ append_assoc (decimal n) (c ∷ []) cs

-- and no other such digits stand for n
pub decimal_only : (cs : List ℕ) → Numeral cs → cs ≡ decimal (worth cs)
decimal_only [] h = absurd h
decimal_only (c ∷ []) h = sym (decimal_one (10 * 0 + (c - digit 0)) (omega arith) ∙ ap (λ (x : ℕ). x ∷ []) (omega arith))
decimal_only (c ∷ d ∷ cs) h =
    let first = h.0 in
    let low = h.1.0 in
    let n : ℕ = 10 * 0 + (c - digit 0) in
    let is : digit n ≡ c = omega arith in
    sym (worth-digits n (d ∷ cs) (omega arith) h.1.1 ∙ rw (decimal_one n (omega arith), is))

-- how many there are
pub decimal-length : (k n : ℕ) → 1 ≤ k → n < 10 ^ k → length (decimal n) ≤ k
decimal-length k n h j = by_digits (λ n cs. (k : ℕ) → 1 ≤ k → n < 10 ^ k → length cs ≤ k) (λ n l k h j. omega arith) more n k h j
  where
    more : (n : ℕ) (cs : List ℕ) → 10 ≤ n → ((k : ℕ) → 1 ≤ k → n / 10 < 10 ^ k → length cs ≤ k)
        → (k : ℕ) → 1 ≤ k → n < 10 ^ k → length (cs ++ (digit (n % 10) ∷ [])) ≤ k
    more n cs l f zero h j = absurd (omega arith)
    more n cs l f (suc zero) h j = absurd (omega arith)
    more n cs l f (suc (suc k)) h j =
        let e : 10 ^ suc (suc k) ≡ 10 ^ suc k * 10 = pow-suc 10 (suc k) in
        let g = f (suc k) (omega arith) (omega arith) in
        omega (arith, length-append cs (digit (n % 10) ∷ []))
