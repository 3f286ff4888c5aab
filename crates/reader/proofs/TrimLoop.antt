-- The trim element: its lists, laid out one entry behind the other where all was 0, and what stays 0. Assumes nothing.
use mathlib.Core.Path.{◌≡◌, refl, sym, ap, ◌∙◌}
use mathlib.Core.Bool.{false}
use mathlib.Core.List.{List, [], ◌∷◌, ◌++◌, append_assoc, append-nil}
use mathlib.Core.Option.{none}
use Prim.Native.Nat.{ℕ, zero, suc, ◌+◌, ◌*◌, ◌≤◌, ◌<◌}
use native.Mathlib.Omega.{arith}
use lib.Dec.{eqb}
use borrow.Author.Tests.{eq-eqb, ne_eqb}
use lib.ListN.{length, set, replicate, length-append, length-replicate, replicate-append-replicate}
use Rattle.bits.specs.declared.Cur.{Cur}
use Rattle.bits.specs.declared.Limit.{Limit}
use Rattle.bits.specs.Language.{Bits, P, give, bits, when, for}
use Rattle.bits.specs.View.{Reads}
use Rattle.bits.proofs.Sticky.{Left, done, turns, for_step, for-stop, bind, plain}
use Rattle.oamd.specs.declared.TrimConfig.{TrimConfig}
use Rattle.oamd.specs.Tables.{most_objects, per_object_byte, trim_fixed, most_trim}
use Rattle.oamd.specs.Programme.{set?}
use Rattle.oamd.specs.Reserved.{WarpMode, GlobalTrimMode, unreserved}
use Rattle.oamd.specs.Record.{onto}
use Rattle.oamd.specs.Trim.{TrimTable, trim_element, no_trim, trim_of, config_bytes_of, configs_bytes_of, trim_bytes_of, trim_needed}
use Rattle.reader.specs.Layout.{set_from, no_trim_bytes}
use Rattle.reader.specs.Steps.{PartRead, ConfigsRead, FlagsRead, TrimRead, TrimHeld}
use Rattle.reader.proofs.Bytes.{seam}
use Rattle.reader.proofs.ObjectLoop.{begun, length-set_from}

-- ---- zeros

-- what is 0 and not stored is there all the same
zeros-stay : (front : List ℕ) (k n : ℕ) → length front + k ≤ n → onto (front ++ replicate k 0) (replicate n 0) ≡ onto front (replicate n 0)
unfolding onto
zeros-stay [] zero n h = refl
zeros-stay [] (suc k) zero h = absurd (omega arith)
zeros-stay [] (suc k) (suc n) h = ap (λ (t : List ℕ). 0 ∷ t) (zeros-stay [] k n (omega arith))
zeros-stay (x ∷ front) k zero h = absurd (omega arith)
zeros-stay (x ∷ front) k (suc n) h = ap (λ (t : List ℕ). x ∷ t) (zeros-stay front k n (omega arith))

pub length_none : length no_trim_bytes ≡ most_trim
unfolding no_trim_bytes
length_none = length-replicate {A = ℕ} most_trim 0

-- a list that is not carried
pub absent : {X : Type 0} (bytes : List X → List ℕ) (value : List X) (n from : ℕ) {b : Bits} {c : Cur} {l : Limit} {out : List ℕ} → bytes value ≡ replicate n 0
    → from + n ≤ most_trim → length out ≡ most_trim → PartRead (give value) bytes n from b c l out c out
unfolding no_trim_bytes
absent bytes value n from e f h = record {
  value = value;
  reads = plain;
  long = ap length e ∙ length-replicate n 0;
  size = h;
  stand = λ front m s. s ∙ sym (ap (λ (t : List ℕ). onto (front ++ t) no_trim_bytes) e ∙ zeros-stay front n most_trim (omega arith));
}

-- a list that is sent where a field is this number, and else nothing of it
module _ {X : Type 0} (p : P (List X)) {bytes : List X → List ℕ} (value : List X) {n from v : ℕ} {b : Bits} {c : Cur} {l : Limit} {out : List ℕ} (k : ℕ) where
  pub sent : {d : Cur} {out' : List ℕ} → v ≡ k → PartRead p bytes n from b c l out d out' → PartRead (when (eqb v k) p value) bytes n from b c l out d out'
  sent e r = rw (eq-eqb v k e) r

  pub unsent : (v ≡ k → ⊥) → bytes value ≡ replicate n 0 → from + n ≤ most_trim → length out ≡ most_trim
      → PartRead (when (eqb v k) p value) bytes n from b c l out c out
  unsent z e f h = rw (ne_eqb v k z) (absent bytes value n from e f h)

-- ---- the loop over a list's entries, each of which takes so many bytes

module _ {X : Type 0} (n : ℕ) (f : ℕ → P X) (bytes : List X → List ℕ) (wide from : ℕ) (b : Bits) (c : Cur) (l : Limit) (out₀ : List ℕ)
    (count : (us : List X) → length (bytes us) ≡ wide * length us) where
  -- before entry i
  pub record Laying (i : ℕ) (cur : Cur) (out : List ℕ) : Type 0 where
    pub within : i ≤ n
    pub vs : List X
    pub many : length vs ≡ i
    pub size : length out ≡ most_trim
    pub left : Left (for n f) b c l (turns n f (λ vs. give vs) i vs) cur
    pub stand : (front : List ℕ) → length front ≡ from → out₀ ≡ onto front no_trim_bytes → out ≡ onto (front ++ bytes vs) no_trim_bytes

  pub none_laid : bytes [] ≡ [] → length out₀ ≡ most_trim → Laying 0 c out₀
  none_laid e h = record {
    within = omega arith;
    vs = [];
    many = refl;
    size = h;
    left = begun n f;
    stand = λ front m s. s ∙ ap (λ (t : List ℕ). onto t no_trim_bytes) (sym (append-nil front) ∙ ap (λ (t : List ℕ). front ++ t) (sym e));
  }

  module _ {i : ℕ} {cur : Cur} {out : List ℕ} (x : Laying i cur out) where
    pub one-laid : {v : X} {cur' : Cur} (one : List ℕ) (at k : ℕ) → i < n → ((us : List X) → bytes (us ++ (v ∷ [])) ≡ bytes us ++ one) → at + k ≡ from + wide * i
        → at + k + length one ≤ most_trim → Reads (f i) b cur l v cur' → Laying (i + 1) cur' (set_from at k one out)
    one-laid {v} one at k h flat place fits r = record {
      within = omega arith;
      vs = x.vs ++ (v ∷ []);
      many = length-append x.vs (v ∷ []) ∙ omega (arith, x.many);
      size = length-set_from at k one out ∙ x.size;
      left = for_step n f (λ vs. give vs) i x.vs h x.left r;
      stand = λ front m s.
          let d = length-append front (bytes x.vs) in
          let e = ap (λ (j : ℕ). wide * j) x.many in
          ap (set_from at k one) (x.stand front m s)
          ∙ seam one (front ++ bytes x.vs) no_trim_bytes at k (omega (arith, count x.vs)) (omega (arith, length_none))
          ∙ ap (λ (t : List ℕ). onto t no_trim_bytes) (append_assoc front (bytes x.vs) one ∙ ap (λ (t : List ℕ). front ++ t) (sym (flat x.vs)));
    }

    pub all_laid : {m : ℕ} → n ≤ i → m ≡ wide * n → PartRead (for n f) bytes m from b c l out₀ cur out
    all_laid h e = record {
      value = x.vs;
      reads = done (for-stop n f (λ vs. give vs) i x.vs h x.left);
      long = count x.vs ∙ ap (λ (j : ℕ). wide * j) (let all : length x.vs ≡ n = omega (arith, x.within, x.many) in all) ∙ sym e;
      size = x.size;
      stand = x.stand;
    }

pub next-config : (c : TrimConfig) (cs : List TrimConfig) → configs_bytes_of (cs ++ (c ∷ [])) ≡ configs_bytes_of cs ++ config_bytes_of c
unfolding configs_bytes_of
next-config c [] = refl
next-config c (d ∷ cs) = ap (λ (t : List ℕ). config_bytes_of d ++ t) (next-config c cs)

pub count-flags : (flags : List ℕ) → length flags ≡ 1 * length flags
count-flags flags = omega arith

-- ---- the element: its fields in a line, and each of its bytes stored where the front ends

pub trimming : {objects : ℕ} {b : Bits} {c c₁ c₂ c₃ c₄ c₅ d : Cur} {l : Limit} {out out₁ out₂ : List ℕ} {warp reserved mode flagged : ℕ}
    → Reads (unreserved WarpMode) b c l warp c₁ → Reads (bits 2) b c₁ l reserved c₂ → Reads (unreserved GlobalTrimMode) b c₂ l mode c₃
    → ConfigsRead (eqb mode 2) b c₃ l (set (set (set out 0 1) 1 warp) 2 mode) c₄ out₁ → Reads (bits 1) b c₄ l flagged c₅
    → FlagsRead (set? flagged) objects b c₅ l (set out₁ per_object_byte flagged) d out₂ → TrimRead objects b c l out d out₂
unfolding trim_element trim_bytes_of onto
trimming {out = out} {out₂ = out₂} {warp = warp} {mode = mode} {flagged} r₁ r₂ r₃ cs r₅ fs = record {
  value = value;
  reads = bind r₁ (bind r₂ (bind r₃ (bind cs.reads (bind r₅ (bind fs.reads plain)))));
  long = omega (arith, length-append (configs_bytes_of cs.value) (flagged ∷ fs.value), cs.long, fs.long);
  size = fs.size;
  stand = stand;
}
  where
    value : TrimTable
    value = record { present = 1; warp = warp; mode = mode; configs = cs.value; per-object = flagged; disabled = fs.value }

    head : List ℕ
    head = 1 ∷ warp ∷ mode ∷ []

    stand : out ≡ no_trim_bytes → out₂ ≡ onto (trim_bytes_of value) no_trim_bytes
    stand e =
        let begins = ap (set_from 0 0 head) e ∙ seam head [] no_trim_bytes 0 0 (omega arith) (omega (arith, length_none)) in
        let front : List ℕ = head ++ configs_bytes_of cs.value in
        let n : length front ≡ per_object_byte = omega (arith, cs.long) in
        let flag = seam (flagged ∷ []) front no_trim_bytes per_object_byte 0 (omega arith) (omega (arith, length_none)) in
        fs.stand (front ++ (flagged ∷ [])) (length-append front (flagged ∷ []) ∙ omega arith) (ap (λ (t : List ℕ). set t per_object_byte flagged) (cs.stand head refl begins) ∙ flag)
        ∙ ap (λ (t : List ℕ). onto (head ++ t) no_trim_bytes) (append_assoc (configs_bytes_of cs.value) (flagged ∷ []) fs.value)

-- ---- without the element

pub not-read : (objects : ℕ) → objects ≤ most_objects → TrimHeld objects none false no_trim_bytes
unfolding trim_of trim_bytes_of configs_bytes_of onto no_trim_bytes
not-read objects h =
    let e : trim_bytes_of (no_trim objects) ≡ replicate (trim_needed objects) 0 = replicate-append-replicate trim_fixed objects 0 in
    record {
      told = refl;
      long = ap length e ∙ length-replicate (trim_needed objects) 0;
      stand = sym (ap (λ (t : List ℕ). onto t no_trim_bytes) e ∙ zeros-stay [] (trim_needed objects) most_trim (omega arith));
    }
