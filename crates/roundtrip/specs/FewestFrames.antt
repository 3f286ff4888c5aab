-- The same for an element's size and for the extended object element.
use Rattle.std.specs.Prelude.{◌≡◌, false, [], ◌++◌, ℕ, ◌+◌, ◌-◌, ◌*◌, ◌/◌, ◌%◌, ◌≤◌, ◌<◌, eqb}
use Rattle.std.proofs.Common.{append-nil, append_assoc, arith, eqb-true, le-leb}
use Rattle.std.proofs.Math.Arith.{digits_div, digits_mod}
use Rattle.std.proofs.lemmas.Bool.{eqb-false, lt-leb}
use Rattle.bits.specs.Size.{size_from, variable_bits_max}
use Rattle.bits.specs.Writes.{to_bits, Spells}
use Rattle.bits.specs.Spells.{s-give, s-bind, s-bits, s-pick}
use Rattle.form.specs.Form.{group_bits, size_bits, size_for}

-- ---- sizes (5.5.1)

one-group : (a : ℕ) → a < 16 → to_bits 4 a ++ (to_bits 1 0 ++ []) ≡ size_bits (0 + a)
unfolding size_bits group_bits
one-group a i =
    let v : ℕ = 0 + a in
    let x : v % 16 ≡ a = omega arith in
    rw (lt-leb 4368 v (omega arith), lt-leb 272 v (omega arith), lt-leb 16 v (omega arith), x) (simp append-nil)

-- what a group behind others adds
last-group : (u b : ℕ) → b < 16 → ((u * 16 + 16 + b) % 16 ≡ b) × ((u * 16 + 16 + b) / 16 - 1 ≡ u)
last-group u b l =
    let e : u * 16 + 16 + b ≡ (u + 1) * 16 + b = omega arith in
    let d : ((u + 1) * 16 + b) / 16 ≡ u + 1 = digits_div (u + 1) l in
    let m : ((u + 1) * 16 + b) % 16 ≡ b = digits_mod (u + 1) l in
    (rw e m, rw (e, d) (omega arith))

two-groups : (a b : ℕ) → a < 16 → b < 16 → to_bits 4 a ++ (to_bits 1 1 ++ (to_bits 4 b ++ (to_bits 1 0 ++ []))) ≡ size_bits ((0 + a) * 16 + 16 + b)
unfolding size_bits group_bits
two-groups a b i j =
    let u : ℕ = 0 + a in
    let v : ℕ = u * 16 + 16 + b in
    let x = last-group u b j in
    let y : u % 16 ≡ a = omega arith in
    rw (lt-leb 4368 v (omega arith), lt-leb 272 v (omega arith), le-leb 16 v (omega arith), x.0, x.1, y) (simp (append-nil, append_assoc))

three-groups : (a b c : ℕ) → a < 16 → b < 16 → c < 16
    → to_bits 4 a ++ (to_bits 1 1 ++ (to_bits 4 b ++ (to_bits 1 1 ++ (to_bits 4 c ++ (to_bits 1 0 ++ []))))) ≡ size_bits (((0 + a) * 16 + 16 + b) * 16 + 16 + c)
unfolding size_bits group_bits
three-groups a b c i j k =
    let t : ℕ = 0 + a in
    let u : ℕ = t * 16 + 16 + b in
    let v : ℕ = u * 16 + 16 + c in
    let x = last-group u c k in
    let y = last-group t b j in
    let z : t % 16 ≡ a = omega arith in
    rw (lt-leb 4368 v (omega arith), le-leb 272 v (omega arith), le-leb 16 v (omega arith), x.0, x.1, y.0, y.1, z) (simp (append-nil, append_assoc))

four-groups : (a b c d : ℕ) → a < 16 → b < 16 → c < 16 → d < 16
    → to_bits 4 a ++ (to_bits 1 1 ++ (to_bits 4 b ++ (to_bits 1 1 ++ (to_bits 4 c ++ (to_bits 1 1 ++ (to_bits 4 d ++ (to_bits 1 0 ++ [])))))))
    ≡ size_bits ((((0 + a) * 16 + 16 + b) * 16 + 16 + c) * 16 + 16 + d)
unfolding size_bits group_bits
four-groups a b c d i j k l =
    let s : ℕ = 0 + a in
    let t : ℕ = s * 16 + 16 + b in
    let u : ℕ = t * 16 + 16 + c in
    let v : ℕ = u * 16 + 16 + d in
    let x = last-group u d l in
    let y = last-group t c k in
    let z = last-group s b j in
    let w : s ≡ a = omega arith in
    rw (le-leb 4368 v (omega arith), le-leb 272 v (omega arith), le-leb 16 v (omega arith), x.0, x.1, y.0, y.1, z.0, z.1, w)
    (simp (append-nil, append_assoc))

-- a flag for more that is not clear
more : (m : ℕ) → m < 2 → eqb m 0 ≡ false → m ≡ 1
more m l q = let n : m ≡ 0 → ⊥ = eqb-false m 0 q in omega arith

-- A size has no choice: what is read as a size below 69,904 has the form's groups, and no others. (Above it the flag behind the fifth group is free.)
pub size_only : Spells variable_bits_max (λ l z. z.value < 69904 → l ≡ size_bits z.value)
unfolding size_from
size_only =
    s-bind _ _ _ (s-bits 4 _ λ a i. s-bind _ _ _ (s-bits 1 _ λ e p. s-pick (eqb e 0) _ _ _
    (λ q. s-give _ _ (λ below. rw (eqb-true e 0 q) (one-group a i)))
    (λ q.
    s-bind _ _ _ (s-bits 4 _ λ b j. s-bind _ _ _ (s-bits 1 _ λ f r. s-pick (eqb f 0) _ _ _
    (λ s. s-give _ _ (λ below. rw (more e p q, eqb-true f 0 s) (two-groups a b i j)))
    (λ s.
    s-bind _ _ _ (s-bits 4 _ λ c k. s-bind _ _ _ (s-bits 1 _ λ g t. s-pick (eqb g 0) _ _ _
    (λ u. s-give _ _ (λ below. rw (more e p q, more f r s, eqb-true g 0 u) (three-groups a b c i j k)))
    (λ u.
    s-bind _ _ _ (s-bits 4 _ λ d l. s-bind _ _ _ (s-bits 1 _ λ h v. s-pick (eqb h 0) _ _ _
    (λ w. s-give _ _ (λ below. rw (more e p q, more f r s, more g t u, eqb-true h 0 w) (four-groups a b c d i j k l)))
    (λ w.
    s-bind _ _ _ (s-bits 4 _ λ x m. s-bind _ _ _ (s-bits 1 _ λ y n. s-give _ _ (λ below. absurd (omega arith))))))))))))))))

-- the size of an element holds what is inside it, and no smaller one does
pub size_fewest : (n : ℕ) → 1 ≤ n → (n ≤ 8 * (size_for n + 1)) × ((v : ℕ) → n ≤ 8 * (v + 1) → size_for n ≤ v)
unfolding size_for
size_fewest n h = (omega arith, λ v l. omega arith)
