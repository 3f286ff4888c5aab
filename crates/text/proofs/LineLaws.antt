-- The lines of the listing, from the pieces that they are laid by. Assumes nothing.
use mathlib.Core.Path.{◌≡◌, sym, ap, ap₂, ◌∙◌}
use mathlib.Core.List.{List, [], ◌∷◌, ◌++◌, append-nil, append_assoc}
use Prim.Native.Nat.{ℕ, suc, ◌+◌, ◌-◌, ◌*◌, ◌≤◌, ◌<◌}
use native.Mathlib.Nat.{mul-le-mul_right}
use native.Mathlib.Numerals.{add-one}
use native.Mathlib.Omega.{arith}
use borrow.Author.Tests.{ne_eqb}
use lib.Dec.{eqb}
use lib.ListN.{take, drop}
use Rattle.bits.specs.Language.{from}
use Rattle.bits.specs.Writes.{only}
use Rattle.oamd.specs.declared.Programme.{Programme}
use Rattle.oamd.specs.declared.Shares.{Shares}
use Rattle.oamd.specs.declared.Update.{Update}
use Rattle.oamd.specs.Tables.{record_stride}
use Rattle.oamd.specs.Programme.{shares}
use Rattle.keys.specs.Names.{objects_key, bed_key, isf_key, dynamic_key, block_key, record_key}
use Rattle.text.specs.Numerals.{decimal}
use Rattle.text.specs.Lines.{texts, hex, comma, newline, line, number_line}
use Rattle.text.specs.Listing.{block_line, record_line, share_lines}
use Rattle.text.specs.Laying.{Laid}
use Rattle.text.proofs.LayLaws.{laid-bind, laid_is}

-- ---- a loop that counts

pub count_more : (f : ℕ → List ℕ) (n i : ℕ) → i < n → texts f (from i (n - i)) ≡ f i ++ texts f (from (i + 1) (n - (i + 1)))
unfolding texts from
count_more f n i h = ap (λ (m : ℕ). texts f (from i m)) (let e : n - i ≡ suc (n - (i + 1)) = omega arith in e) ∙ rw add-one

pub count_none : (f : ℕ → List ℕ) (n i : ℕ) → n ≤ i → texts f (from i (n - i)) ≡ []
unfolding texts from
count_none f n i h = ap (λ (m : ℕ). texts f (from i m)) (let e : n - i ≡ 0 = omega arith in e)

-- ---- a line of three values

three-values : (key a b c : List ℕ) → key ++ ((a ++ (comma ∷ [])) ++ ((b ++ (comma ∷ [])) ++ (c ++ (newline ∷ [])))) ≡ line key (a ∷ b ∷ c ∷ [])
unfolding line
three-values key a b c = simp append_assoc

three-laid : {s t u v w : List ℕ} {at p q o r : ℕ} (key a b c : List ℕ) → Laid s t at p key → Laid t u p q (a ++ (comma ∷ []))
    → Laid u v q o (b ++ (comma ∷ [])) → Laid v w o r (c ++ (newline ∷ [])) → Laid s w at r (line key (a ∷ b ∷ c ∷ []))
three-laid key a b c f g h i = laid_is (three-values key a b c) (laid-bind f (laid-bind g (laid-bind h i)))

pub block-laid : {s t u v w : List ℕ} {at p q o r : ℕ} (blk start ramp : ℕ) (x : Update) → start ≡ x.start.0 → ramp ≡ x.ramp.0
    → Laid s t at p block_key → Laid t u p q (decimal blk ++ (comma ∷ [])) → Laid u v q o (decimal start ++ (comma ∷ []))
    → Laid v w o r (decimal ramp ++ (newline ∷ []))
    → Laid s w at r (block_line blk x)
block-laid blk start ramp x d e f g h i =
    laid_is (ap₂ (λ (m n : ℕ). line block_key (decimal blk ∷ decimal m ∷ decimal n ∷ [])) d e) (three-laid block_key (decimal blk) (decimal start) (decimal ramp) f g h i)

pub record-laid : {s t u v w x : List ℕ} {at p q o n r : ℕ} (object blk : ℕ) (records : List ℕ) (place : ℕ) → Laid s t at p record_key
    → Laid t u p q (decimal object ++ (comma ∷ [])) → Laid u v q o (decimal blk ++ (comma ∷ []))
    → Laid v w o n (hex (take (place + record_stride - place) (drop place records))) → Laid w x n r (newline ∷ [])
    → Laid s x at r (record_line object blk (take record_stride (drop place records)))
record-laid object blk records place f g h i j =
    let long : place + record_stride - place ≡ record_stride = omega arith in
    laid_is (ap (λ (n : ℕ). record_line object blk (take n (drop place records))) long)
    (three-laid record_key (decimal object) (decimal blk) (hex (take (place + record_stride - place) (drop place records))) f g h (laid-bind i j))

-- the records of an object lie before the end of all
pub object-within : (objects blocks object : ℕ) → object < objects → record_stride * (object * blocks) + record_stride * blocks ≤ record_stride * (objects * blocks)
object-within objects blocks object h = omega (arith, mul-le-mul_right blocks h)

-- ---- the whole

pub shares-laid : {s t u v w : List ℕ} {at i j k r : ℕ} (p : Programme) (of : Shares) → of ≡ shares p → Laid s t at i (number_line objects_key p.objects)
    → Laid t u i j (number_line bed_key of.bed) → Laid u v j k (number_line isf_key of.isf) → Laid v w k r (number_line dynamic_key of.dynamic)
    → Laid s w at r (share_lines p)
unfolding share_lines
shares-laid p of e f g h i =
    laid_is
    (ap (λ (x : Shares). number_line objects_key p.objects ++ (number_line bed_key x.bed ++ (number_line isf_key x.isf ++ number_line dynamic_key x.dynamic))) e)
    (laid-bind f (laid-bind g (laid-bind h i)))

-- what is laid behind the place: the tables of a payload that is accepted, the missing bits of one that ends early, and of others nothing
pub accepted-laid : {s t : List ℕ} {at r : ℕ} (n : ℕ) (m l : List ℕ) → n ≡ 0 → Laid s t at r l → Laid s t at r (only (eqb n 2) m ++ only (eqb n 0) l)
accepted-laid n m l e h = laid_is (rw e) h

pub early-laid : {s t : List ℕ} {at r : ℕ} (n : ℕ) (m l : List ℕ) → n ≡ 2 → Laid s t at r m → Laid s t at r (only (eqb n 2) m ++ only (eqb n 0) l)
early-laid n m l e h = laid_is (rw e (sym (append-nil m))) h

pub refused-laid : {s t : List ℕ} {at r : ℕ} (n : ℕ) (m l k : List ℕ) → (n ≡ 0 → ⊥) → (n ≡ 2 → ⊥) → Laid s t at r k
    → Laid s t at r (k ++ (only (eqb n 2) m ++ only (eqb n 0) l))
refused-laid n m l k e f h = laid_is (rw (ne_eqb n 0 e, ne_eqb n 2 f) (sym (append-nil k))) h
