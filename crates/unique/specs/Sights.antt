-- What a function that looks at a window has seen is one: of every number there are 64 bits that it holds.
use Rattle.std.specs.Prelude.{◌≡◌, refl, Bool, true, false, List, [], ◌∷◌, ℕ, zero, suc, ◌+◌, ◌-◌, ◌*◌, ◌/◌, ◌%◌, ◌^◌, ◌≤◌}
use Rattle.std.proofs.Common.{sym, ap, ◌∙◌, zero-add, arith, shr-shr}
use Rattle.std.proofs.Math.Nat.{mod-one}
use base.Stored.{Coded, Coded-set, coded_ℕ, coded×, coded_list}
use Rattle.std.proofs.lemmas.Nat.{shl-shr, mod-pow-add}
use Rattle.std.proofs.Math.Pow.{field}
use Rattle.bits.specs.Language.{pick, ok, Bits, slice, number, P, give, ◌>>=◌}
use Rattle.bits.specs.Steps.{value, next, length-slice}
use Rattle.bits.specs.View.{Sees, Freely, Looks}
use Rattle.bits.proofs.Free.{looks-give, ◌▹◌}
use Rattle.syntax.specs.Looks.{Seen, Shut, SeenIf, Pair}
use Rattle.unique.specs.OneAnswer.{◌beside◌}

-- ---- bits that a number holds

abbrev bits_of : ℕ → Bits
bits_of x i = x / 2 ^ (63 - i) % 2

counted : (x o n : ℕ) → o + n ≤ 64 → number (slice (bits_of x) o n) ≡ x / 2 ^ (64 - (o + n)) % 2 ^ n
unfolding slice number
counted x o zero h = sym (mod-one _)
counted x o (suc n) h =
    let y = x / 2 ^ (64 - (o + suc n)) in
    let e : 64 - (suc o + n) ≡ 64 - (o + suc n) = omega arith in
    let f : 63 - o ≡ 64 - (o + suc n) + n = omega arith in
    let g : 1 + n ≡ suc n = omega arith in
    rw (length-slice (bits_of x) (suc o) n, counted x (suc o) n (omega arith), e, f, ← shr-shr x (64 - (o + suc n)) n) (sym (mod-pow-add y 1 n) ∙ ap (λ (k : ℕ). y % 2 ^ k) g)

held : (x : ℕ) → Sees x (bits_of x) 0
held x =
    record {
      sight = λ o n h.
          let e : 64 ≡ n + (64 - n) = omega arith in
          let f : 64 - n ≡ o + (64 - (o + n)) = omega arith in
          let g : o ≡ 0 + o = omega arith in
          ap (λ (k : ℕ). x * 2 ^ o % 2 ^ k / 2 ^ (64 - n)) e
          ∙ field (x * 2 ^ o) n (64 - n)
          ∙ ap (λ (k : ℕ). x * 2 ^ o / 2 ^ k % 2 ^ n) f
          ∙ ap (λ (y : ℕ). y % 2 ^ n) (sym (shr-shr (x * 2 ^ o) o (64 - (o + n))) ∙ ap (λ (y : ℕ). y / 2 ^ (64 - (o + n))) (shl-shr x o))
          ∙ sym (counted x o n h)
          ∙ ap (λ (k : ℕ). number (slice (bits_of x) k n)) g;
    }

-- ---- what was read

pub freely-once : {A : Type 0} {p : P A} {b : Bits} {at to to' : ℕ} {v v' : A} → Freely p b at v to → Freely p b at v' to' → (v beside to) ≡ (v' beside to')
freely-once {to = to} {to'} {v} {v'} f g =
    let same : ok v to ≡ ok v' to' = sym (f.same (to + to') 0 (omega arith)) ∙ g.same (to + to') 0 (omega arith) in
    let q = value same in
    let r = next same in
    λ j. (q j, r j)

module _ {A : Type 0} {p : P A} {x o off off' : ℕ} {v v' : A} where
  looks-once : Looks p x o v off → Looks p x o v' off' → (v beside off) ≡ (v' beside off')
  looks-once f g = simp zero-add at (freely-once (f.free (bits_of x) 0 (held x)) (g.free (bits_of x) 0 (held x)))

  pub seen-once : {n : ℕ} → Seen p n x o v off → Seen p n x o v' off' → (v beside off) ≡ (v' beside off')
  seen-once f g = looks-once f.looks g.looks

-- two fields, the second of which may hang on the first
pub pair-once : {p : P ℕ} {k : ℕ → P ℕ} {n x o v v' w w' off off' : ℕ} → Pair p k n x o v w off → Pair p k n x o v' w' off'
    → ((v beside w) beside off) ≡ ((v' beside w') beside off')
pair-once {p} {k} f g =
    let both : P (ℕ × ℕ) = p >>= λ v. k v >>= λ w. give {A = ℕ × ℕ} (v, w) in
    looks-once {p = both} (f.first ▹ f.second ▹ looks-give) (g.first ▹ g.second ▹ looks-give)

not-shut : {A : Type 0} {p : P A} {x o off : ℕ} {v : A} → Looks p x o v off → Shut p x o → ⊥
not-shut {x = x} {o} {off} f s = s.never (bits_of x) 0 (0 + off) 0 (held x) ((f.free (bits_of x) 0 (held x)).same (0 + off) 0 (omega arith))

-- what was seen, unless a reserved code was met: then it does not count
abbrev pub seen_if : {A : Type 0} → Bool → A → ℕ → List (A × ℕ)
seen_if good v off = pick good ((v, off) ∷ []) []

seen_if-once : {A : Type 0} {p : P A} (good good' : Bool) {n x o off off' : ℕ} {v v' : A} → SeenIf good p n x o v off → SeenIf good' p n x o v' off'
    → seen_if good v off ≡ seen_if good' v' off'
seen_if-once true true f g = ap (λ (s : _). s ∷ []) (looks-once (f.looks refl) (g.looks refl))
seen_if-once true false f g = absurd (not-shut (f.looks refl) (g.met refl))
seen_if-once false true f g = absurd (not-shut (g.looks refl) (f.met refl))
seen_if-once false false f g = refl

-- inputs: the window, where in it, and others
module _ {A X : Type 0} (p : P A) (n : ℕ) (i : ℕ × (ℕ × X)) where
  abbrev pub SeenBy : List (A × ℕ) → Type 0
  SeenBy s = (good : Bool) × (v : A) × (off : ℕ) × SeenIf good p n i.0 i.1.0 v off × (s ≡ seen_if good v off)

  pub seen_by-once : (s s' : List (A × ℕ)) → SeenBy s → SeenBy s' → s ≡ s'
  seen_by-once s s' t t' = t.4 ∙ seen_if-once t.0 t'.0 t.3 t'.3 ∙ sym t'.4

pub seen-set : {A : Type 0} → Coded A → IsSet (List (A × ℕ))
seen-set c = Coded-set (coded_list (coded× c coded_ℕ))
