-- The laws of laying: nothing, one after the other, a loop, and at the top the bytes of a whole form.
use Rattle.std.proofs.Common.{◌≡◌, ℕ, zero, suc, ◌+◌, ◌-◌, ◌*◌, ◌/◌, ◌%◌, ◌^◌, ◌<◌, ◌≤◌, Bool, true, false, List, [], ◌∷◌, ◌++◌, length, get_or, drop, replicate, sym, refl, ap, ◌∙◌, subst, ap₂, append_assoc, append-nil, mod-eq_of_lt, arith, length-append, length-drop, ext_get_or, le-leb}
use native.Mathlib.Nat.{zero-div}
use borrow.Author.Tests.{lt-leb}
use Rattle.bits.specs.Language.{slice, bit, number, pick}
use Rattle.bits.specs.Steps.{by_order}
use Rattle.bits.specs.Laws.{slice-agree}
use Rattle.bits.specs.Writes.{listed, to_bits, only, to_bytes}
use Rattle.bits.specs.Lists.{length-to_bits, number-to_bits, get_or-to_bits, holds_slice}
use Rattle.bits.specs.Bytes.{length-to_bytes, get_or-pack}
use Rattle.laying.specs.Laying.{Laid, Holds, Bytes, place, reach, roomy, blank, most_position, set_wide}
use Rattle.laying.specs.declared.Pen.{Pen}
use Rattle.laying.proofs.Words.{spelt, spelt_lt, stored-bit, wide-length, bytes-wide, binary-drop}

pub laid_nil : {s : List ℕ} {p : Pen} → Laid 0 s s p p []
laid_nil {s} {p} = record {
  kept = refl;
  next = omega arith;
  most = omega arith;
  holds = λ e b h. subst (Holds s p) (sym (append-nil b)) h;
}

-- one part behind the other
pub laid-bind : {k n : ℕ} {s t u : List ℕ} {p q r : Pen} {l m : List ℕ} → Laid k s t p q l → Laid n t u q r m → Laid (k + n) s u p r (l ++ m)
laid-bind {k} {n} {s} {t} {u} {p} {q} {r} {l} {m} f g = record {
  kept = g.kept ∙ f.kept;
  next = omega (arith, f.next, g.next, length-append l m);
  most = omega (arith, f.most, g.most);
  holds = λ e b h.
      subst (Holds u r) (append_assoc b l m) (g.holds (omega (arith, f.kept)) (b ++ l) (f.holds (omega (arith, g.next)) b h));
}

-- what is laid within k bits is laid within more
pub laid-within : {k n : ℕ} {s t : List ℕ} {p r : Pen} {l : List ℕ} → k ≤ n → Laid k s t p r l → Laid n s t p r l
laid-within e f = record {
  kept = f.kept;
  next = f.next;
  most = omega (arith, f.most);
  holds = f.holds;
}

-- a byte is told by its bits
pub byte-bits : (s : List ℕ) (j : ℕ) → get_or s j 0 < 256 → number (slice (bit s) (8 * j) 8) ≡ get_or s j 0
unfolding bit
byte-bits s j h =
    let x : ℕ = get_or s j 0 in
    let l = length-to_bits 8 x in
    let q : slice (bit s) (8 * j) (length (to_bits 8 x)) ≡ to_bits 8 x = holds_slice (bit s) (8 * j) (to_bits 8 x) (λ i k.
    let a : (8 * j + i) / 8 ≡ j = omega arith in
    let e : 7 - (8 * j + i) % 8 ≡ 8 - 1 - i = omega arith in
    rw (a, e) (sym (get_or-to_bits 8 x i (omega arith)))) in
    ap number (rw l at q) ∙ number-to_bits 8 x ∙ mod-eq_of_lt h

pub zeros-to_bits : (n : ℕ) → to_bits n 0 ≡ replicate n 0
unfolding to_bits
zeros-to_bits zero = refl
zeros-to_bits (suc n) = ap₂ (λ (x : ℕ) (xs : List ℕ). x ∷ xs) (rw (zero-div (2 ^ n))) (zeros-to_bits n)

-- a part that may be absent
pub laid_on : {k : ℕ} {s t : List ℕ} {p r : Pen} {l : List ℕ} {on : Bool} → on ≡ true → Laid k s t p r l → Laid k s t p r (only on l)
laid_on e h = rw e h

pub laid-off : {k : ℕ} {s : List ℕ} {p : Pen} {on : Bool} (l : List ℕ) → on ≡ false → Laid k s s p p (only on l)
laid-off l e = rw e (laid-within (omega arith) laid_nil)

-- the same bits, said in another way
pub laid_is : {k : ℕ} {s t : List ℕ} {p r : Pen} {l m : List ℕ} → l ≡ m → Laid k s t p r l → Laid k s t p r m
laid_is {k} {s} {t} {p} {r} e h = subst (λ (x : List ℕ). Laid k s t p r x) e h

-- the same field, under another name for its value
pub laid-value : {k x y : ℕ} {s t : List ℕ} {p r : Pen} (w : ℕ) → x ≡ y → Laid k s t p r (to_bits w x) → Laid k s t p r (to_bits w y)
laid-value w e h = laid_is (ap (to_bits w) e) h

-- the same bits, under another name for their test
pub laid_only : {k : ℕ} {s t : List ℕ} {p r : Pen} {on test : Bool} (l : List ℕ) → on ≡ test → Laid k s t p r (only on l) → Laid k s t p r (only test l)
laid_only l e h = laid_is (ap (λ (b : Bool). only b l) e) h

-- a loop's invariant: no more than k bits were laid, and whoever lays m from here has laid l from the start
pub record Rest (k : ℕ) (s₀ s : List ℕ) (p₀ p : Pen) (l m : List ℕ) : Type 0 where
  pub kept : length s ≡ length s₀
  pub most : reach s p ≤ reach s₀ p₀ + k
  pub ends : {n : ℕ} {u : List ℕ} {r : Pen} → Laid n s u p r m → Laid (k + n) s₀ u p₀ r l

pub rest_start : {k : ℕ} {s : List ℕ} {p : Pen} {l m : List ℕ} → m ≡ l → Rest k s s p p l m
rest_start e = record { kept = refl; most = omega arith; ends = λ h. laid-within (omega arith) (laid_is e h) }

pub rest_step : {k w n : ℕ} {s₀ s t : List ℕ} {p₀ p q : Pen} {l m a b : List ℕ} → k + w ≤ n → m ≡ a ++ b → Rest k s₀ s p₀ p l m → Laid w s t p q a
    → Rest n s₀ t p₀ q l b
rest_step e f h g = record {
  kept = g.kept ∙ h.kept;
  most = omega (arith, h.most, g.most);
  ends = λ j. laid-within (omega arith) (h.ends (laid_is (sym f) (laid-bind g j)));
}

pub rest_end : {k n : ℕ} {s₀ s : List ℕ} {p₀ p : Pen} {l m : List ℕ} → k ≤ n → m ≡ [] → Rest k s₀ s p₀ p l m → Laid n s₀ s p₀ p l
rest_end e f h = laid-within (omega arith) (h.ends (laid_is (sym f) laid_nil))

-- ---- where pens stand

pub place-reach : (s : List ℕ) (p : Pen) → place p ≤ reach s p
unfolding reach
place-reach s p = omega arith

reach_is : (s : List ℕ) (p : Pen) (t : Bool) → roomy s p ≡ t → reach s p ≡ place p + pick t (4294967296 * (p.held.0 - 7)) 0
unfolding reach
reach_is s p t e = ap (λ (b : Bool). place p + pick b (4294967296 * (p.held.0 - 7)) 0) e

-- where eight bytes have no room, and with seven bits or fewer, it is the place
pub reach_near : (s : List ℕ) (p : Pen) → length s < p.stored.0 + 8 → reach s p ≡ place p
reach_near s p h = omega (arith, reach_is s p false (lt-leb (p.stored.0 + 8) (length s) h))

pub reach_few : (s : List ℕ) (p : Pen) → p.held.0 ≤ 7 → reach s p ≡ place p
reach_few s p h =
    by_order (p.stored.0 + 8) (length s) (λ o. omega (arith, reach_is s p true (le-leb (p.stored.0 + 8) (length s) o))) (λ o. reach_near s p o)

-- and where they have room, no more are held
pub few-held : (s : List ℕ) (p : Pen) → reach s p ≤ most_position → p.stored.0 + 8 ≤ length s → p.held.0 ≤ 7
few-held s p h l = omega (arith, reach_is s p true (le-leb (p.stored.0 + 8) (length s) l))

pub reach-blank : (s : List ℕ) → reach s blank ≡ 0
reach-blank s = reach_few s blank (omega arith)

-- ---- a whole form laid from the start: its bytes

-- nothing is held at the start
holds-blank : (s : List ℕ) → Bytes s → Holds s blank []
unfolding number
holds-blank s h = record {
  bytes = h;
  long = refl;
  binary = λ i. omega arith;
  stands = λ i l. absurd (omega arith);
  rest = refl;
}

-- a buffer that has room for the whole form and no more, and in which the bits that are held were stored, has its bytes
pub laid-bytes : {k : ℕ} → k ≤ most_position → (s u t : List ℕ) (r : Pen) (l : List ℕ) → Laid k s u blank r l → Bytes s → place r ≤ 8 * length s
    → 8 * length s < place r + 8 → t ≡ set_wide u r.stored.0 r.word → t ≡ to_bytes l
unfolding to_bytes
laid-bytes {k} most s u t r l h bytes room full same =
    let i : ℕ = r.stored.0 in
    let x : List ℕ = drop (8 * i) l in
    let g = h.holds room [] (holds-blank s bytes) in
    let few = few-held u r (omega (arith, h.most, reach-blank s)) in
    let near : length s < i + 8 = by_order (i + 8) (length u) (λ o. omega (arith, few o, h.kept)) (λ o. omega (arith, h.kept)) in
    let long : length x ≡ r.held.0 = omega (arith, length-drop (8 * i) l, g.long) in
    let word : r.word ≡ spelt x = g.rest ∙ ap (λ (n : ℕ). number x * 2 ^ (64 - n)) (sym long) in
    let is : t ≡ set_wide u i (spelt x) = same ∙ ap (set_wide u i) word in
    let wide = wide-length u i (spelt x) in
    let n : length (to_bytes l) ≡ length s = omega (arith, length-to_bytes l, g.long) in
    let kept = h.kept in
    rw is (ext_get_or 0 (set_wide u i (spelt x)) (to_bytes l) (omega arith) λ j o.
    sym (byte-bits (set_wide u i (spelt x)) j (bytes-wide u i (spelt x) (spelt_lt x (binary-drop (8 * i) l g.binary) (omega arith)) g.bytes j))
    ∙ ap number (slice-agree (bit (set_wide u i (spelt x))) (listed l) (8 * j) (0 + 8 * j) 8 (λ q w.
    let v : 0 + 8 * j + q ≡ 8 * j + q = omega arith in
    stored-bit u i l g.binary (omega (arith, g.long)) g.stands (8 * j + q) (omega arith) (omega arith) ∙ ap (listed l) (sym v)))
    ∙ sym (get_or-pack (listed l) 0 ((length l + 7) / 8) j (omega (arith, length-to_bytes l))))

-- the buffer keeps its length
pub laid-length : {k : ℕ} {s t : List ℕ} {p r : Pen} {l : List ℕ} → Laid k s t p r l → length t ≡ length s
laid-length h = h.kept
