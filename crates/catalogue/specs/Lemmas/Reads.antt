-- Texts that a reader reads back as a value, whatever stands behind them: a rule for each step.
use Rattle.std.specs.Prelude.{◌≡◌, refl, Bool, true, List, [], ◌∷◌, ◌++◌, ℕ, ◌≤◌}
use Rattle.std.proofs.Common.{◌∙◌, subst, append-nil, append_assoc, eq-eqb, le-leb}
use Rattle.std.proofs.Math.Option.{none}
use Rattle.text.specs.Numerals.{decimal}
use Rattle.text.specs.Lines.{newline}
use Rattle.catalogue.specs.Scan.{got, S, give, word, peek, number, end_line, whether, at_end, ◌>>=◌, after, run}
use Rattle.catalogue.specs.Back.{check}
use Rattle.catalogue.specs.NumeralBack.{NoDigit, after-append, numeral_back}
use Rattle.catalogue.specs.Lemmas.Lines.{behind, behind-append, InLine, decimal_in-line}

-- wherever the text t stands, and behind it a text of which Q holds, p reads it as a and comes to its end
pub record Reads {A : Type 0} (p : S A) (t : List ℕ) (a : A) (Q : List ℕ → Type 0) : Type 0 where
  pub reads : (n : ℕ) (s : List ℕ) → Q s → run p n (t ++ s) ≡ got a (behind n t) s

-- a text that begins with a byte, one at which all ends, and any text
abbrev pub Begins : ℕ → List ℕ → Type 0
Begins c [] = ⊥
Begins c (x ∷ s) = x ≡ c

abbrev pub End : List ℕ → Type 0
End [] = Unit {0}
End (c ∷ s) = ⊥

abbrev pub Any : List ℕ → Type 0
Any s = Unit {0}

-- ---- a rule for each step

pub r-give : {A : Type 0} {Q : List ℕ → Type 0} (a : A) → Reads (give a) [] a Q
unfolding run behind
r-give a = record { reads = λ n s q. refl }

pub r-word : (w : List ℕ) → InLine w → Reads (word w) w tt Any
unfolding run
r-word w h = record { reads = λ n s q. rw (after-append w s, h n) }

pub r_peek : (c : ℕ) → Reads (peek c) [] tt (Begins c)
unfolding run behind
r_peek c = record { reads = go }
  where
    go : (n : ℕ) (s : List ℕ) → Begins c s → run (peek c) n s ≡ got tt n s
    go n [] h = absurd h
    go n (x ∷ s) h = rw (eq-eqb x c h)

pub r-number : {least most v : ℕ} → least ≤ v → v ≤ most → Reads (number least most) (decimal v) v NoDigit
unfolding run
r-number {least} {most} {v} l h = record { reads = λ n s q. rw (numeral_back most v s h q, le-leb least v l, decimal_in-line v n) }

pub r_end-line : Reads end_line (newline ∷ []) tt Any
unfolding run behind
r_end-line = record { reads = λ n s q. refl }

pub r_there : {A : Type 0} {p q : S A} {t : List ℕ} {a : A} {Q : List ℕ → Type 0} (w : List ℕ) → InLine w → Reads p t a Q → Reads (whether w p q) (w ++ t) a Q
unfolding run
r_there {t = t} w h f = record { reads = λ n s q. rw (append_assoc w t s, after-append w (t ++ s), behind-append n w t, h n) (f.reads n s q) }

pub r_else : {A : Type 0} {p q : S A} {t : List ℕ} {a : A} {Q : List ℕ → Type 0} (w : List ℕ) → ((s : List ℕ) → Q s → after w (t ++ s) ≡ none)
    → Reads q t a Q → Reads (whether w p q) t a Q
unfolding run
r_else {t = t} w h f = record { reads = λ n s q. rw (h s q) (f.reads n s q) }

pub r-stop : {A : Type 0} {p q : S A} {a : A} → Reads p [] a End → Reads (at_end p q) [] a End
unfolding run
r-stop {p = p} {q} {a} f = record { reads = go }
  where
    go : (n : ℕ) (s : List ℕ) → End s → run (at_end p q) n s ≡ got a (behind n []) s
    go n [] h = f.reads n [] h
    go n (x ∷ s) h = absurd h

pub r_more : {A : Type 0} {p q : S A} {t : List ℕ} {a : A} {Q : List ℕ → Type 0} (c : ℕ) → ((s : List ℕ) → Q s → Begins c (t ++ s)) → Reads q t a Q
    → Reads (at_end p q) t a Q
unfolding run
r_more {p = p} {q} {t} c h f = record { reads = λ n s g. more n (t ++ s) (h s g) ∙ f.reads n s g }
  where
    more : (n : ℕ) (s : List ℕ) → Begins c s → run (at_end p q) n s ≡ run q n s
    more n [] e = absurd e
    more n (x ∷ s) e = refl

pub r-bind : {A B : Type 0} {p : S A} {k : A → S B} {t u : List ℕ} {a : A} {b : B} {Q R : List ℕ → Type 0} → Reads p t a Q
    → ((s : List ℕ) → R s → Q (u ++ s)) → Reads (k a) u b R → Reads (p >>= k) (t ++ u) b R
unfolding run
r-bind {t = t} {u} f h g = record { reads = λ n s q. rw (append_assoc t u s, f.reads n (u ++ s) (h s q), behind-append n t u) (g.reads (behind n t) s q) }

pub r-check : {A : Type 0} {p : S A} {t : List ℕ} {a : A} {Q : List ℕ → Type 0} {test : Bool} → test ≡ true → Reads p t a Q → Reads (check test p) t a Q
r-check {p = p} {t} {a} {Q} {test} e f = rw e f

-- ---- the same, said in another way

pub r-text : {A : Type 0} {p : S A} {t u : List ℕ} {a : A} {Q : List ℕ → Type 0} → t ≡ u → Reads p t a Q → Reads p u a Q
r-text {p = p} {a = a} {Q} e f = subst (λ (x : List ℕ). Reads p x a Q) e f

pub r-value : {A : Type 0} {p : S A} {t : List ℕ} {a b : A} {Q : List ℕ → Type 0} → a ≡ b → Reads p t a Q → Reads p t b Q
r-value {p = p} {t} {Q = Q} e f = subst (λ (x : _). Reads p t x Q) e f

pub r-before : {A : Type 0} {p : S A} {t : List ℕ} {a : A} {Q R : List ℕ → Type 0} → ((s : List ℕ) → R s → Q s) → Reads p t a Q → Reads p t a R
r-before h f = record { reads = λ n s q. f.reads n s (h s q) }

-- what follows the last part reads nothing
pub r_last : {A B : Type 0} {p : S A} {k : A → S B} {t : List ℕ} {a : A} {b : B} {Q : List ℕ → Type 0} → Reads p t a Q → Reads (k a) [] b Q
    → Reads (p >>= k) t b Q
r_last {t = t} f g = r-text (append-nil t) (r-bind f (λ s q. q) g)
