-- What is put together is read as such, and what is read was put together.
use Rattle.std.specs.Prelude.{◌≡◌, refl, Bool, true, false, List, [], ◌∷◌, ◌++◌, ℕ, zero, suc, ◌+◌, ◌-◌, ◌*◌, ◌≤◌, ◌<◌, ltb, eqb, length}
use Rattle.std.proofs.Common.{sym, ap, ap₂, ◌∙◌, subst, append-nil, append_assoc, arith, length-append, ltb-true, ltb-false, lt-ltb, le-ltb, eqb-true, ne_eqb}
use Rattle.std.proofs.Math.Option.{some}
use Rattle.std.proofs.lemmas.Bool.{eqb-false}
use Rattle.bits.specs.Language.{ok, pick, Bits, slice, P, run, bit, past_payload}
use Rattle.bits.specs.Steps.{ok_at, give_ok, bind_ok, slice_get, slice_at, length-slice}
use Rattle.bits.specs.Laws.{local}
use Rattle.bits.specs.Writes.{Binary, listed, to_bits, only, to_bytes, Spells}
use Rattle.bits.specs.Lists.{holds_left, binary-slice}
use Rattle.bits.specs.Bytes.{bit_lt}
use Rattle.bits.specs.Back.{w-give, w-bits, w-bind, w_end, w_is, w-exact, from-padded}
use Rattle.bits.specs.Spells.{taken-join, spelled, s-give, s-bind, s-bits, s_if}
use Rattle.bits.specs.Terms.{Holds, taken, Writes}
use Rattle.oamd.specs.Tables.{most_elements}
use Rattle.oamd.specs.Payload.{oa_element_count, header}
use Rattle.demands.specs.Terms.{runs}
use Rattle.demands.specs.Skeleton.{Body, body, bodies, Outline, outline_payload, given, outline}
use Rattle.demands.specs.Assembly.{Exactly, Head, Element, all_bits, all_bodies, count_bits, payload_of, PutTogether}

-- ---- what is put together

pub count-writes : (n : ℕ) → n ≤ most_elements → Writes oa_element_count (count_bits n) n
unfolding oa_element_count count_bits
count-writes n few = go (ltb n 15) refl
  where
    go : (t : Bool) → ltb n 15 ≡ t → Writes oa_element_count (pick t (to_bits 4 n) (to_bits 4 15 ++ to_bits 5 (n - 15))) n
    go true q =
        let l = ltb-true n 15 q in
        let e : n + 0 ≡ n = omega arith in
        w_is e (w_end (w-bits 4 n (omega arith)) (rw (ne_eqb n 15 (omega arith)) (w-bind (w-give 0) (w-give _))))
    go false q =
        let l = ltb-false n 15 q in
        let e : 15 + (n - 15) ≡ n = omega arith in
        w_is e (w-bind (w-bits 4 15 (omega arith)) (w_end (w-bits 5 (n - 15) (omega arith)) (w-give _)))

bodies-write : (alternate : ℕ) (es : List (Element alternate)) → Writes (bodies alternate (length es)) (all_bits es) (all_bodies es)
unfolding bodies
bodies-write alternate [] = w-give []
bodies-write alternate (x ∷ xs) =
    w-bind (w-exact (body alternate) x.bits past_payload x.binary x.whole) (w_end (bodies-write alternate xs) (w-give _))

-- bits so put together have the outline of the parts
outline-writes : (h : Head) (es : List (Element h.is.alternate)) → length es ≤ most_elements
    → Writes outline_payload (h.bits ++ (count_bits (length es) ++ all_bits es)) (record { header = h.is; elements = all_bodies es })
unfolding outline_payload
outline-writes h es few =
    w-bind (w-exact header h.bits past_payload h.binary h.whole)
    (w-bind (count-writes (length es) few) (w_end (bodies-write h.is.alternate es) (w-give _)))

-- with the padding behind them
padded : (a b c d : List ℕ) → (a ++ (b ++ c)) ++ d ≡ a ++ (b ++ (c ++ d))
padded a b c d = append_assoc a (b ++ c) d ∙ ap (λ (l : List ℕ). a ++ l) (append_assoc b c d)

pub outline_is : (h : Head) (es : List (Element h.is.alternate)) (padding : List ℕ) → length es ≤ most_elements → Binary padding
    → outline (payload_of h es padding) ≡ some (record { header = h.is; elements = all_bodies es })
unfolding outline payload_of
outline_is h es padding few bin =
    subst (λ (l : List ℕ). given (runs outline_payload (to_bytes l) 0) ≡ some (record { header = h.is; elements = all_bodies es }))
    (padded h.bits (count_bits (length es)) (all_bits es) padding) (ap given (from-padded padding (outline-writes h es few) bin))

-- and so has what they were put together into
pub outline-together : (s : List ℕ) (x : PutTogether s) → outline s ≡ some (record { header = x.head.is; elements = all_bodies x.elements })
unfolding outline
outline-together s x =
    let b = bit s in
    let e : ℕ = 8 * length s in
    let l : List ℕ = x.head.bits ++ (count_bits (length x.elements) ++ all_bits x.elements) in
    let n = length-slice b 0 e in
    let same : slice b 0 e ≡ l ++ x.padding = x.together ∙ sym (padded x.head.bits (count_bits (length x.elements)) (all_bits x.elements) x.padding) in
    let holds : Holds b 0 (l ++ x.padding) = subst (Holds b 0) same (λ i j. slice_get b 0 e i (omega arith)) in
    let fits : length l ≤ e = omega (arith, length-append l x.padding, ap length same) in
    ap given ((outline-writes x.head x.elements x.few).reads b 0 e past_payload (holds_left b 0 l x.padding holds) (omega arith))

pub bodies-append : {alternate : ℕ} (xs ys : List (Element alternate)) → all_bodies (xs ++ ys) ≡ all_bodies xs ++ all_bodies ys
bodies-append [] ys = refl
bodies-append (x ∷ xs) ys = ap (λ (l : List Body). x.is ∷ l) (bodies-append xs ys)

-- ---- what is read

-- the bits that a reader took it reads exactly
pub piece : {A : Type 0} (p : P A) (b : Bits) (at e o : ℕ) {v : A} {to : ℕ} → run p b at e o ≡ ok v to → at ≤ e → Exactly p (taken b at to) v
piece p b at e o {v} {to} h le =
    let x = local p b at e o h le in
    let n = length-slice b at x.used in
    let used : x.used ≡ to - at = omega (arith, x.ends) in
    subst (λ (k : ℕ). Exactly p (slice b at k) v) used
    (ok_at (x.moved (listed (slice b at x.used)) 0 (length (slice b at x.used)) past_payload (slice_at b at x.used) (omega arith)) (omega arith))

pub count-spells : Spells oa_element_count (λ l n. (l ≡ count_bits n) × (n ≤ most_elements))
unfolding oa_element_count count_bits
count-spells =
    s-bind _ _ _ (s-bits 4 _ λ c a.
    s-bind _ _ _ (s_if (eqb c 15) 5 _ λ x b b'.
    s-give _ _ (go c x (eqb c 15) refl a b b')))
  where
    go : (c x : ℕ) (t : Bool) → eqb c 15 ≡ t → c < 16 → (t ≡ true → x < 32) → (t ≡ false → 0 ≡ x)
        → (to_bits 4 c ++ (only t (to_bits 5 x) ++ []) ≡ pick (ltb (c + x) 15) (to_bits 4 (c + x)) (to_bits 4 15 ++ to_bits 5 (c + x - 15)))
        × (c + x ≤ most_elements)
    go c x true q a b b' =
        let e : c ≡ 15 = eqb-true c 15 q in
        let l = b refl in
        let f : 15 + x - 15 ≡ x = omega arith in
        (rw (e, le-ltb (15 + x) 15 (omega arith), f, append-nil (to_bits 5 x)), omega arith)
    go c x false q a b b' =
        let n : c ≡ 15 → ⊥ = eqb-false c 15 q in
        let z : 0 ≡ x = b' refl in
        let f : c + 0 ≡ c = omega arith in
        (rw (← z, f, lt-ltb c 15 (omega arith), append-nil (to_bits 4 c)), omega arith)

-- n elements, as they were read
record Elements (alternate n : ℕ) (b : Bits) (at to : ℕ) : Type 0 where
  es : List (Element alternate)
  many : length es ≡ n
  bits : taken b at to ≡ all_bits es

bodies_of : (alternate n : ℕ) (b : Bits) (at e o : ℕ) {xs : List Body} {to : ℕ} → ((i : ℕ) → b i < 2) → at ≤ e → run (bodies alternate n) b at e o ≡ ok xs to
    → Elements alternate n b at to
unfolding bodies slice
bodies_of alternate zero b at e o {xs} {to} bin le h =
    let z : to - at ≡ 0 = omega (arith, (give_ok [] b at e o h).1) in
    record { es = []; many = refl; bits = rw z }
bodies_of alternate (suc n) b at e o {xs} {to} bin le h =
    bind_ok _ _ b at e o h λ x p1 h1 h.
    bind_ok _ _ b p1 e o h λ xs p2 h2 h.
    let first = local (body alternate) b at e o h1 le in
    let rest = local (bodies alternate n) b p1 e o h2 first.fits in
    let end = (give_ok (x ∷ xs) b p2 e o h).1 in
    let z = bodies_of alternate n b p1 e o bin first.fits h2 in
    record {
      es = record { bits = taken b at p1; binary = binary-slice b at (p1 - at) bin; is = x; whole = piece (body alternate) b at e o h1 le } ∷ z.es;
      many = ap suc z.many;
      bits = ap (taken b at) end
          ∙ sym (ap (λ (l : List ℕ). taken b at p1 ++ l) (sym z.bits) ∙ taken-join b at p1 p2 (omega (arith, first.ends)) (omega (arith, rest.ends)));
    }

-- what has an outline was put together
pub together_of : (s : List ℕ) {x : Outline} {to : ℕ} → runs outline_payload s 0 ≡ ok x to → PutTogether s
unfolding outline_payload
together_of s {x} {to} h =
    let b = bit s in
    let e : ℕ = 8 * length s in
    let o : ℕ = past_payload in
    let bin = bit_lt s in
    let start : 0 ≤ e = omega arith in
    bind_ok _ _ b 0 e o h λ hd p1 h1 h.
    bind_ok _ _ b p1 e o h λ n p2 h2 h.
    bind_ok _ _ b p2 e o h λ xs p3 h3 h.
    let l1 = local header b 0 e o h1 start in
    let l2 = local oa_element_count b p1 e o h2 l1.fits in
    let l3 = local (bodies hd.alternate n) b p2 e o h3 l2.fits in
    let count = spelled oa_element_count _ count-spells b bin p1 e o l1.fits h2 in
    let elements = bodies_of hd.alternate n b p2 e o bin l2.fits h3 in
    let j3 = taken-join b p2 p3 e (omega (arith, l3.ends)) l3.fits in
    let j2 = taken-join b p1 p2 e (omega (arith, l2.ends)) l2.fits in
    let j1 = taken-join b 0 p1 e (omega arith) l1.fits in
    let whole : e ≡ e - 0 = omega arith in
    let c : count_bits (length elements.es) ≡ taken b p1 p2 = ap count_bits elements.many ∙ sym count.0 in
    record {
      head = record { bits = taken b 0 p1; binary = binary-slice b 0 (p1 - 0) bin; is = hd; whole = piece header b 0 e o h1 start };
      elements = elements.es;
      few = omega (arith, count.1, elements.many);
      padding = taken b p3 e;
      binary = binary-slice b p3 (e - p3) bin;
      together = ap (slice b 0) whole ∙ sym (ap (λ (l : List ℕ). taken b 0 p1 ++ l)
          (ap₂ (λ (u v : List ℕ). u ++ v) c (ap (λ (l : List ℕ). l ++ taken b p3 e) (sym elements.bits) ∙ j3) ∙ j2) ∙ j1);
    }
