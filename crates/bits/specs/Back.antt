-- Bits that a reader reads back as a value: a rule for each step, and what is read from the bytes that hold them.
use Rattle.std.specs.Prelude.{◌≡◌, refl, Bool, true, false, List, [], ◌∷◌, ◌++◌, map, ℕ, suc, ◌+◌, ◌*◌, ◌^◌, ◌<◌, length, get_or, replicate}
use Rattle.std.proofs.Common.{sym, ap, ◌∙◌, subst, append-nil, arith, mod-eq_of_lt, length-append}
use Rattle.std.proofs.lemmas.List.{length-replicate}
use Rattle.bits.specs.Language.{ok, slice, P, give, within, ◌>>=◌, run, bits, when, bits_if, refuse_if, bits_unless, each, number, bit, past_payload, past_declared}
use Rattle.bits.specs.Steps.{ok_at, give_is, bind_is, within_is, field_is}
use Rattle.bits.specs.Laws.{local}
use Rattle.bits.specs.Writes.{Binary, listed, to_bits, only, each_bits, to_bytes}
use Rattle.bits.specs.Lists.{holds_slice, holds_left, holds_right, binary-append, binary-to_bits, binary-zeros, length-to_bits, number-to_bits}
use Rattle.bits.specs.Bytes.{bytes-hold, bytes_long}
use Rattle.bits.specs.Terms.{Along, Writes}

-- ---- a rule for each step

pub w-give : {A : Type 0} (v : A) → Writes (give v) [] v
w-give v = record { binary = λ i. omega arith; reads = λ b at e o h l. ok_at (give_is v b at e o) (omega arith) }

pub w-bits : (w v : ℕ) → v < 2 ^ w → Writes (bits w) (to_bits w v) v
w-bits w v h = record {
  binary = binary-to_bits w v;
  reads = λ b at e o hs l.
      let x : slice b at w ≡ to_bits w v =
      subst (λ (n : ℕ). slice b at n ≡ to_bits w v) (length-to_bits w v) (holds_slice b at (to_bits w v) hs) in
      rw (length-to_bits w v)
      (field_is w number b at e o (omega (arith, length-to_bits w v))
      ∙ ap (λ (y : ℕ). ok y (at + w)) (ap number x ∙ number-to_bits w v ∙ mod-eq_of_lt h));
}

pub w-bind : {A B : Type 0} {p : P A} {k : A → P B} {l m : List ℕ} {u : A} {v : B} → Writes p l u → Writes (k u) m v → Writes (p >>= k) (l ++ m) v
w-bind {p = p} {k} {l} {m} f g = record {
  binary = binary-append l m f.binary g.binary;
  reads = λ b at e o h j.
      let n = length-append l m in
      ok_at
      (bind_is p k b at e o (f.reads b at e o (holds_left b at l m h) (omega arith))
      ∙ g.reads b (at + length l) e o (holds_right b at l m h) (omega arith))
      (omega arith);
}

-- what follows the last field reads nothing
pub w_end : {A B : Type 0} {p : P A} {k : A → P B} {l : List ℕ} {u : A} {v : B} → Writes p l u → Writes (k u) [] v → Writes (p >>= k) l v
w_end {p = p} {k} {l} {v = v} f g = subst (λ (m : List ℕ). Writes (p >>= k) m v) (append-nil l) (w-bind f g)

-- the same value, or the same bits, said in another way
pub w_is : {A : Type 0} {p : P A} {l : List ℕ} {v v' : A} → v ≡ v' → Writes p l v → Writes p l v'
w_is {p = p} {l} e w = subst (λ (x : _). Writes p l x) e w

pub w_list : {A : Type 0} {p : P A} {l m : List ℕ} {v : A} → l ≡ m → Writes p l v → Writes p m v
w_list {p = p} {v = v} e w = subst (λ (x : List ℕ). Writes p x v) e w

-- a group that is there only if the test holds; else its value is the reader's other one
pub w_when : {A : Type 0} {p : P A} {l : List ℕ} {d v : A} (t : Bool) → (t ≡ true → Writes p l v) → (t ≡ false → d ≡ v)
    → Writes (when t p d) (only t l) v
w_when true f g = f refl
w_when {d = d} false f g = w_is (g refl) (w-give d)

-- a field that is there only if the test holds; else it is 0
pub w_if : (t : Bool) (w v : ℕ) → (t ≡ true → v < 2 ^ w) → (t ≡ false → 0 ≡ v) → Writes (bits_if t w) (only t (to_bits w v)) v
w_if t w v f g = w_when t (λ q. w-bits w v (f q)) g

-- a value that is not refused
pub w-pass : {A : Type 0} (t : Bool) (r back : ℕ) (v : A) → t ≡ false → Writes (refuse_if t r back v) [] v
w-pass t r back v e = rw e (w-give v)

-- a field that is there only if the test holds, and whose value is not refused
pub w-unless : (on : Bool) (r w : ℕ) (test : ℕ → Bool) (v : ℕ) → (on ≡ true → (v < 2 ^ w) × (test v ≡ false)) → (on ≡ false → 0 ≡ v)
    → Writes (when on (bits_unless r w test) 0) (only on (to_bits w v)) v
w-unless on r w test v f g = w_when on (λ q. w_end (w-bits w v (f q).0) (w-pass (test v) r w v (f q).1)) g

-- an element of n bits: its fields, and zeros behind them
pub w-within : {A : Type 0} {n back : ℕ} {p : P A} {l : List ℕ} {v : A} (pad : ℕ) → Writes p l v → length l + pad ≡ n
    → Writes (within n back p) (l ++ replicate pad 0) v
w-within {n = n} {back} {p} {l} {v} pad f c = record {
  binary = binary-append l _ f.binary (binary-zeros pad);
  reads = λ b at e o h j.
      let m = length-append l (replicate pad 0) in
      let z = length-replicate {A = ℕ} pad 0 in
      let r = f.reads b at (at + n) past_declared (holds_left b at l _ h) (omega arith) in
      ok_at {m = at + n} (within_is n back p b at e o (omega arith) ∙ rw r) (omega arith);
}

-- a loop: one entry after the other
pub w-each : {X Y A : Type 0} (f : X → P A) (l : ℕ → Y → List ℕ) (v : Y → A) (xs : List X) (i : ℕ) (ys : List Y)
    → Along (λ x i y. Writes (f x) (l i y) (v y)) xs i ys → Writes (each f xs) (each_bits l i ys) (map v ys)
unfolding each each_bits
w-each f l v [] i [] h = w-give []
w-each f l v [] i (y ∷ ys) h = absurd h
w-each f l v (x ∷ xs) i [] h = absurd h
w-each f l v (x ∷ xs) i (y ∷ ys) h = w-bind h.0 (w_end (w-each f l v xs (suc i) ys h.1) (w-give (v y ∷ map v ys)))

-- what p reads of a list of bits, from the first to the last, it reads wherever they stand
pub w-exact : {A : Type 0} (p : P A) (l : List ℕ) (o : ℕ) {v : A} → Binary l → run p (listed l) 0 (length l) o ≡ ok v (length l) → Writes p l v
w-exact p l o bin h =
    let x = local p (listed l) 0 (length l) o h (omega arith) in
    record {
      binary = bin;
      reads = λ b at e o' holds fits.
          ok_at
          (x.moved b at e o' (λ i j. ap (λ (k : ℕ). get_or l k 0) (omega arith) ∙ sym (holds i (omega (arith, x.ends)))) (omega (arith, x.ends)))
          (omega (arith, x.ends));
    }

-- ---- what is read from bytes

-- what p reads from the bits l it reads from the bytes that hold them, whatever stands behind
pub from-padded : {A : Type 0} {p : P A} {l : List ℕ} {v : A} (pad : List ℕ) → Writes p l v → Binary pad
    → run p (bit (to_bytes (l ++ pad))) 0 (8 * length (to_bytes (l ++ pad))) past_payload ≡ ok v (length l)
from-padded {l = l} pad w h =
    let m : List ℕ = l ++ pad in
    let a = length-append l pad in
    let n = bytes_long m in
    let x = bytes-hold m (binary-append l pad w.binary h) in
    ok_at (w.reads (bit (to_bytes m)) 0 (8 * length (to_bytes m)) past_payload (holds_left (bit (to_bytes m)) 0 l pad x) (omega arith)) (omega arith)

pub from_bytes : {A : Type 0} {p : P A} {l : List ℕ} {v : A} → Writes p l v
    → run p (bit (to_bytes l)) 0 (8 * length (to_bytes l)) past_payload ≡ ok v (length l)
from_bytes {p = p} {l} {v} w =
    subst (λ (m : List ℕ). run p (bit (to_bytes m)) 0 (8 * length (to_bytes m)) past_payload ≡ ok v (length l)) (append-nil l)
    (from-padded [] w (λ i. omega arith))
