-- What a reader answers within the first lines of a text rests on these lines alone: of every tree of Scan, whatever its steps.
use Rattle.std.specs.Prelude.{◌≡◌, refl, Bool, true, false, List, [], ◌∷◌, ◌++◌, ℕ, suc, ◌+◌, ◌-◌, ◌*◌, eqb, leb}
use Rattle.std.proofs.Common.{sym, ap, ◌∙◌, true≢false, arith, eqb-true, eq-eqb}
use Rattle.std.proofs.Math.Option.{Option, none, some}
use Rattle.bits.specs.Language.{pick}
use Rattle.text.specs.Numerals.{digit}
use Rattle.text.specs.Lines.{newline}
use Rattle.catalogue.specs.Scan.{got, bad, S, give, fail, word, peek, number, end_line, whether, at_end, ◌>>=◌, after, is_digit, digits, numeral, next_line, run}
use Rattle.catalogue.specs.Lemmas.Lines.{lines_in, behind, behind_is, InLine}
use Rattle.catalogue.specs.Lemmas.Spells.{Spells, spelled}

-- ---- texts of whole lines

-- one line or more, with its end
pub data Whole : List ℕ → Type 0 where
  last : (c : ℕ) → c ≡ newline → Whole (c ∷ [])
  more : (c : ℕ) {s : List ℕ} → Whole s → Whole (c ∷ s)

test {ℓ} : {X : Type ℓ} (t : Bool) → (t ≡ true → X) → (t ≡ false → X) → X
test true f g = f refl
test false f g = g refl

-- a byte that is none of a line's end does not count
behind-byte : (n c : ℕ) (s : List ℕ) → eqb c newline ≡ false → behind n (c ∷ s) ≡ behind n s
unfolding behind
behind-byte n c s h = rw h

word_byte : (c : ℕ) (w : List ℕ) → lines_in (c ∷ w) ≡ 0 → (eqb c newline ≡ false) × (lines_in w ≡ 0)
unfolding lines_in
word_byte c w h = go (eqb c newline) refl h
  where
    go : (t : Bool) → eqb c newline ≡ t → pick t (suc (lines_in w)) (lines_in w) ≡ 0 → (eqb c newline ≡ false) × (lines_in w ≡ 0)
    go true q z = absurd (omega arith)
    go false q z = (q, z)

no_lines : (w : List ℕ) → InLine w → lines_in w ≡ 0
no_lines w h = let e = h 0 in omega (arith, behind_is 0 w (omega arith))

-- a word in front of whole lines stands there, with whole lines left, or does not, whatever comes behind them
data After (w t : List ℕ) : Type 0 where
  stands : (r : List ℕ) → Whole r → ((n : ℕ) → behind n r ≡ behind n t) → ((u : List ℕ) → after w (t ++ u) ≡ some (r ++ u)) → After w t
  lacks : ((u : List ℕ) → after w (t ++ u) ≡ none) → After w t

after-whole : (w : List ℕ) {t : List ℕ} → lines_in w ≡ 0 → Whole t → After w t
unfolding after
after-whole [] {t} h e = stands t e (λ n. refl) (λ u. refl)
after-whole (c ∷ w) h (last x q) =
    test (eqb x c) (λ s. absurd (true≢false (sym (eq-eqb c newline (sym (eqb-true x c s) ∙ q)) ∙ (word_byte c w h).0))) (λ s. lacks (λ u. rw s))
after-whole (c ∷ w) h (more x {s} e) =
    test (eqb x c) (λ same. go same (after-whole w (word_byte c w h).1 e)) (λ other. lacks (λ u. rw other))
  where
    go : eqb x c ≡ true → After w s → After (c ∷ w) (x ∷ s)
    go same (stands r l b f) = stands r l (λ n. b n ∙ sym (behind-byte n x s (rw (eqb-true x c same) (word_byte c w h).0))) (λ u. rw same (f u))
    go same (lacks f) = lacks (λ u. rw same (f u))

-- and so does a number
data Numbered (f : List ℕ → Option (ℕ × List ℕ)) (t : List ℕ) : Type 0 where
  counts : (v : ℕ) (r : List ℕ) → Whole r → ((n : ℕ) → behind n r ≡ behind n t) → ((u : List ℕ) → f (t ++ u) ≡ some (v, r ++ u)) → Numbered f t
  misses : ((u : List ℕ) → f (t ++ u) ≡ none) → Numbered f t

end-digit : (c : ℕ) → c ≡ newline → is_digit c ≡ false
end-digit c q = rw q

digit-byte : (c : ℕ) → is_digit c ≡ true → eqb c newline ≡ false
digit-byte c h = test (eqb c newline) (λ e. absurd (true≢false (sym h ∙ end-digit c (eqb-true c newline e)))) (λ e. e)

digits-whole : (most n : ℕ) {t : List ℕ} → Whole t → Numbered (digits most n) t
unfolding digits
digits-whole most n (last x q) = counts n (x ∷ []) (last x q) (λ m. refl) (λ u. rw (end-digit x q))
digits-whole most n (more x {s} e) =
    test (is_digit x)
    (λ d. test (leb (10 * n + (x - digit 0)) most) (λ l. go d l (digits-whole most (10 * n + (x - digit 0)) e)) (λ l. misses (λ u. rw (d, l))))
    (λ d. counts n (x ∷ s) (more x e) (λ m. refl) (λ u. rw d))
  where
    go : is_digit x ≡ true → leb (10 * n + (x - digit 0)) most ≡ true → Numbered (digits most (10 * n + (x - digit 0))) s → Numbered (digits most n) (x ∷ s)
    go d l (counts v r w b f) = counts v r w (λ m. b m ∙ sym (behind-byte m x s (digit-byte x d))) (λ u. rw (d, l) (f u))
    go d l (misses f) = misses (λ u. rw (d, l) (f u))

numeral-whole : (most : ℕ) {t : List ℕ} → Whole t → Numbered (numeral most) t
unfolding numeral
numeral-whole most (last x q) = misses (λ u. rw (end-digit x q))
numeral-whole most (more x {s} e) =
    test (is_digit x)
    (λ d. test (eqb x (digit 0)) (λ z. counts 0 s e (λ m. sym (behind-byte m x s (digit-byte x d))) (λ u. rw (d, z))) (λ z. go d z (digits-whole most 0 (more x e))))
    (λ d. misses (λ u. rw d))
  where
    go : is_digit x ≡ true → eqb x (digit 0) ≡ false → Numbered (digits most 0) (x ∷ s) → Numbered (numeral most) (x ∷ s)
    go d z (counts v r w b f) = counts v r w b (λ u. rw (d, z) (f u))
    go d z (misses f) = misses (λ u. rw (d, z) (f u))

-- ---- the law

-- In no word of p does a line end, and Z holds of what is left of p behind the end of each line
unfoldable pub Lined : {A : Type 0} → S A → (S A → Type 0) → Type 0
Lined (give a) Z = Unit {0}
Lined fail Z = Unit {0}
Lined (word w) Z = InLine w
Lined (peek c) Z = Unit {0}
Lined (number least most) Z = Unit {0}
Lined end_line Z = Z (give tt)
Lined (whether w p q) Z = InLine w × Lined p Z × Lined q Z
Lined (at_end p q) Z = Lined p Z × Lined q Z
Lined (p >>= k) Z = Lined p (λ q. Z (q >>= k)) × Spells p (λ t a r. Lined (k a) Z)

-- What p comes to from line n on, where the lines t stand and whatever text u behind them: it gives a value with lines of t left; it breaks off in a line of t; or all of t is
-- taken, and what is left of p reads u. In the first two cases r is what is left of t, from the line on that is answered
pub data Reach {A : Type 0} (p : S A) (Z : S A → Type 0) (n : ℕ) (t : List ℕ) : Type 1 where
  stays : (a : A) (m : ℕ) (r : List ℕ) → Whole r → behind m r ≡ behind n t → ((u : List ℕ) → run p n (t ++ u) ≡ got a m (r ++ u)) → Reach p Z n t
  breaks : (k : ℕ) (r : List ℕ) → Whole r → behind k r ≡ behind n t → ((u : List ℕ) → run p n (t ++ u) ≡ bad k) → Reach p Z n t
  passes : (q : S A) → Z q → ((u : List ℕ) → run p n (t ++ u) ≡ run q (behind n t) u) → Reach p Z n t

-- a reader that goes on as another does from some of the lines on
moved : {A : Type 0} {p : S A} (P : S A) {Z : S A → Type 0} {m : ℕ} (n : ℕ) {r : List ℕ} (t : List ℕ) → behind m r ≡ behind n t
    → ((u : List ℕ) → run P n (t ++ u) ≡ run p m (r ++ u)) → Reach p Z m r → Reach P Z n t
moved P n t b e (stays a i s w c f) = stays a i s w (c ∙ b) (λ u. e u ∙ f u)
moved P n t b e (breaks k s w c f) = breaks k s w (c ∙ b) (λ u. e u ∙ f u)
moved {p = p} P n t b e (passes q z f) = passes q z (λ u. e u ∙ f u ∙ ap (λ (i : ℕ). run q i u) b)

peek-reach : (c : ℕ) (Z : S (Unit {0}) → Type 0) (n : ℕ) {t : List ℕ} → Whole t → Reach (peek c) Z n t
unfolding run
peek-reach c Z n (last x q) =
    test (eqb x c) (λ s. stays tt n (x ∷ []) (last x q) refl (λ u. rw s)) (λ s. breaks n (x ∷ []) (last x q) refl (λ u. rw s))
peek-reach c Z n (more x {s = t} w) = test (eqb x c) (λ s. stays tt n (x ∷ t) (more x w) refl (λ u. rw s)) (λ s. breaks n (x ∷ t) (more x w) refl (λ u. rw s))

end-reach : (Z : S (Unit {0}) → Type 0) → Z (give tt) → (n : ℕ) {t : List ℕ} → Whole t → Reach end_line Z n t
unfolding run behind
end-reach Z z n (last x q) = let e = eq-eqb x newline q in passes (give tt) z (λ u. rw e)
end-reach Z z n (more x {s = t} w) = test (eqb x newline) (λ s. stays tt (next_line n) t w (rw s) (λ u. rw s)) (λ s. breaks n (x ∷ t) (more x w) refl (λ u. rw s))

word-reach : (v : List ℕ) (Z : S (Unit {0}) → Type 0) (n : ℕ) {t : List ℕ} → Whole t → After v t → Reach (word v) Z n t
unfolding run
word-reach v Z n {t} w (stands r l b f) = stays tt n r l (b n) (λ u. rw (f u))
word-reach v Z n {t} w (lacks f) = breaks n t w refl (λ u. rw (f u))

number-reach : (least most : ℕ) (Z : S ℕ → Type 0) (n : ℕ) {t : List ℕ} → Whole t → Numbered (numeral most) t → Reach (number least most) Z n t
unfolding run
number-reach least most Z n {t} w (counts v r l b f) =
    test (leb least v) (λ s. stays v n r l (b n) (λ u. rw (f u, s))) (λ s. breaks n t w refl (λ u. rw (f u, s)))
number-reach least most Z n {t} w (misses f) = breaks n t w refl (λ u. rw (f u))

whether-reach : {A : Type 0} (v : List ℕ) (p q : S A) (Z : S A → Type 0) (n : ℕ) {t : List ℕ} → After v t
    → ((r : List ℕ) → Whole r → Reach p Z n r) → Reach q Z n t → Reach (whether v p q) Z n t
unfolding run
whether-reach v p q Z n {t} (stands r l b f) there here = moved (whether v p q) n t (b n) (λ u. rw (f u)) (there r l)
whether-reach v p q Z n {t} (lacks f) there here = moved (whether v p q) n t refl (λ u. rw (f u)) here

at_end-reach : {A : Type 0} (p q : S A) (Z : S A → Type 0) (n : ℕ) {t : List ℕ} → Whole t → Reach q Z n t → Reach (at_end p q) Z n t
unfolding run
at_end-reach p q Z n (last x e) here = moved (at_end p q) n (x ∷ []) refl (λ u. refl) here
at_end-reach p q Z n (more x {s = t} w) here = moved (at_end p q) n (x ∷ t) refl (λ u. refl) here

bind-reach : {A B : Type 0} (p : S A) (k : A → S B) (Z : S B → Type 0) (n : ℕ) {t : List ℕ} → Spells p (λ u a r. Lined (k a) Z) → Reach p (λ q. Z (q >>= k)) n t
    → ((a : A) → Lined (k a) Z → (m : ℕ) (r : List ℕ) → Whole r → Reach (k a) Z m r) → Reach (p >>= k) Z n t
unfolding run
bind-reach p k Z n {t} g (stays a m r w b f) on =
    moved (p >>= k) n t b (λ u. rw (f u)) (on a (spelled p _ g n (t ++ []) (f [])).holds m r w)
bind-reach p k Z n g (breaks j r w b f) on = breaks j r w b (λ u. rw (f u))
bind-reach p k Z n g (passes q z f) on = passes (q >>= k) z (λ u. rw (f u))

pub reach : {A : Type 0} (p : S A) (Z : S A → Type 0) → Lined p Z → (n : ℕ) (t : List ℕ) → Whole t → Reach p Z n t
unfolding run Lined
reach (give a) Z h n t w = stays a n t w refl (λ u. refl)
reach fail Z h n t w = breaks n t w refl (λ u. refl)
reach (word v) Z h n t w = word-reach v Z n w (after-whole v (no_lines v h) w)
reach (peek c) Z h n t w = peek-reach c Z n w
reach (number least most) Z h n t w = number-reach least most Z n w (numeral-whole most w)
reach end_line Z h n t w = end-reach Z h n w
reach (whether v p q) Z h n t w = whether-reach v p q Z n (after-whole v (no_lines v h.0) w) (λ r l. reach p Z h.1 n r l) (reach q Z h.2 n t w)
reach (at_end p q) Z h n t w = at_end-reach p q Z n w (reach q Z h.1 n t w)
reach (p >>= k) Z h n t w = bind-reach p k Z n h.1 (reach p (λ q. Z (q >>= k)) h.0 n t w) (λ a l m r x. reach (k a) Z l m r x)
