-- A loop over the elements that go, run by run: what is left of them, and of the bits between them. Assumes nothing.
use mathlib.Core.Path.{◌≡◌, sym, ap, ◌∙◌, subst}
use mathlib.Core.List.{List, [], ◌∷◌, ◌++◌}
use Prim.Native.Nat.{ℕ, suc, ◌+◌, ◌-◌, ◌*◌, ◌%◌, ◌≤◌, ◌<◌}
use native.Mathlib.Nat.{sub-zero}
use native.Mathlib.Numerals.{add-one}
use native.Mathlib.Omega.{arith}
use lib.ListN.{length, get_or, take, drop, length-append}
use lib.Seq.{drop-cons}
use Rattle.bits.specs.Language.{slice, bit}
use Rattle.bits.specs.Steps.{length-slice}
use Rattle.oamd.specs.declared.Gone.{Gone}
use Rattle.reader.specs.declared.Sifted.{Sifted}
use Rattle.salvaging.specs.Salvage.{without}
use Rattle.salvaging.specs.Promises.{InOrder, one}
use Rattle.salvaging.specs.Lemmas.Keeping.{without_fewer}
use Rattle.salvaging.specs.Parts.{most_bits, runs_by, Fair}

-- ---- elements that stand one behind the other

-- one of them, and the others
record Next (at e : ℕ) (g : Gone) (gs : List Gone) : Type 0 where
  pub after : at ≤ g.from.0
  pub some : g.from.0 < g.to.0
  pub others : InOrder g.to.0 gs e

next : {at e : ℕ} {g : Gone} {gs : List Gone} → InOrder at (g ∷ gs) e → Next at e g gs
next (one g gs h m x) = record { after = h; some = m; others = x }

-- ---- the loop

-- those from index i on
abbrev pub gone_from : Sifted → ℕ → List Gone
gone_from d i = take (d.drops - i) (drop i d.gone)

gone_more : (d : Sifted) (i : ℕ) (blank : Gone) → i < d.drops → d.drops ≤ length d.gone → gone_from d i ≡ get_or d.gone i blank ∷ gone_from d (i + 1)
gone_more d i blank h l =
    let k : i < length d.gone = omega arith in
    ap (λ (m : ℕ). take m (drop i d.gone)) (let e : d.drops - i ≡ suc (d.drops - (i + 1)) = omega arith in e)
    ∙ ap (λ (gs : List Gone). take (suc (d.drops - (i + 1))) gs) (drop-cons d.gone i blank k)
    ∙ rw add-one

gone_none : (d : Sifted) (i : ℕ) → d.drops ≤ i → gone_from d i ≡ []
gone_none d i h = ap (λ (m : ℕ). take m (drop i d.gone)) (let e : d.drops - i ≡ 0 = omega arith in e)

-- the bits between them, from the bit at on
abbrev pub runs_from : List ℕ → Sifted → ℕ → ℕ → List ℕ
runs_from s d at i = without (bit s) at (gone_from d i) (8 * length s)

-- the loop has come to the element i, and to the bit at
pub record Come (s : List ℕ) (d : Sifted) (at i : ℕ) : Type 0 where
  pub order : InOrder at (gone_from d i) (8 * length s)
  pub counted : i ≤ d.drops
  pub behind : d.body.0 ≤ at

pub runs_start : (s : List ℕ) (d : Sifted) → runs_from s d d.body.0 0 ≡ runs_by s d
runs_start s d = rw (sub-zero d.drops)

pub come_start : {s : List ℕ} {d : Sifted} → Fair s d → Come s d d.body.0 0
come_start {s} {d} f =
    record {
      order = subst (λ (n : ℕ). InOrder d.body.0 (take n d.gone) (8 * length s)) (sym (sub-zero d.drops)) f.order;
      counted = omega arith;
      behind = omega arith;
    }

-- no further than the payload's end
pub come_most : {s : List ℕ} {d : Sifted} {at i : ℕ} → Come s d at i → at ≤ 8 * length s
come_most {s} c = omega (arith, without_fewer (bit s) c.order)

-- a turn: a run up to the element's first bit, and on behind the element
pub record Turn (s : List ℕ) (d : Sifted) (at i : ℕ) (g : Gone) : Type 0 where
  pub after : at ≤ g.from.0
  pub some : g.from.0 < g.to.0
  pub runs : runs_from s d at i ≡ slice (bit s) at (g.from.0 - at) ++ runs_from s d g.to.0 (i + 1)
  pub come : Come s d g.to.0 (i + 1)

pub turn : {s : List ℕ} {d : Sifted} {at i : ℕ} (blank : Gone) → Come s d at i → Fair s d → i < d.drops → Turn s d at i (get_or d.gone i blank)
unfolding without
turn {s} {d} {at} {i} blank c f h =
    let g : Gone = get_or d.gone i blank in
    let more = gone_more d i blank h (omega (arith, f.few, f.most, f.array)) in
    let n : Next at (8 * length s) g (gone_from d (i + 1)) = next (subst (λ (gs : List Gone). InOrder at gs (8 * length s)) more c.order) in
    record {
      after = n.after;
      some = n.some;
      runs = ap (λ (gs : List Gone). without (bit s) at gs (8 * length s)) more;
      come = record { order = n.others; counted = omega arith; behind = omega (arith, c.behind, n.after, n.some) };
    }

-- its run ends no further than the payload
pub turn_most : {s : List ℕ} {d : Sifted} {at i n : ℕ} {g : Gone} → Turn s d at i g → n ≡ g.from.0 - at → at + n ≤ 8 * length s
turn_most t e = omega (arith, t.after, t.some, come_most t.come)

-- behind the last element
pub runs_end : (s : List ℕ) (d : Sifted) (at i : ℕ) → d.drops ≤ i → runs_from s d at i ≡ slice (bit s) at (8 * length s - at)
unfolding without
runs_end s d at i h = ap (λ (gs : List Gone). without (bit s) at gs (8 * length s)) (gone_none d i h)

-- ---- how many bits

-- all the bits between the elements are no more than a payload has
pub runs-few : {s : List ℕ} {d : Sifted} → Fair s d → length (runs_by s d) ≤ most_bits
runs-few {s} f = omega (arith, f.short, without_fewer (bit s) f.order)

-- n bits are counted before the bit at
pub record Counted (s : List ℕ) (d : Sifted) (at i n : ℕ) : Type 0 where
  pub same : n + length (runs_from s d at i) ≡ length (runs_by s d)

pub counted_start : {s : List ℕ} {d : Sifted} {n : ℕ} → n ≡ 0 → Counted s d d.body.0 0 n
counted_start {s} {d} e = record { same = omega (arith, e, ap length (runs_start s d)) }

pub counted-turn : {s : List ℕ} {d : Sifted} {at i n m r : ℕ} {g : Gone} → Fair s d → Turn s d at i g → Counted s d at i n → m ≡ g.from.0 - at
    → r ≡ (n + m) % 4294967296 → Counted s d g.to.0 (i + 1) r
counted-turn {s} {d} {at} {i} {g = g} f t c e q =
    let run : List ℕ = slice (bit s) at (g.from.0 - at) in
    let rest : List ℕ = runs_from s d g.to.0 (i + 1) in
    record { same = omega (arith, runs-few f, c.same, ap length t.runs ∙ length-append run rest, length-slice (bit s) at (g.from.0 - at)) }

pub counted_end : {s : List ℕ} {d : Sifted} {at i n m r : ℕ} → Fair s d → d.drops ≤ i → Counted s d at i n → m ≡ 8 * length s - at → r ≡ (n + m) % 4294967296
    → r ≡ length (runs_by s d)
counted_end {s} {d} {at} {i} f h c e q =
    omega (arith, runs-few f, c.same, ap length (runs_end s d at i h), length-slice (bit s) at (8 * length s - at))
