-- Where a field with reserved values is refused, and where an element is: in its id or its size, by its declared end, or in the fields of a known element.
use Rattle.std.specs.Prelude.{◌≡◌, refl, Bool, true, false, List, ◌⊎◌, ℕ, ◌+◌, ◌-◌, ◌≤◌, ◌<◌}
use Rattle.std.proofs.Common.{sym, ap, ◌∙◌, subst, inl, inr, arith}
use Rattle.bits.specs.declared.Size.{Size}
use Rattle.bits.specs.Language.{ok, no, Bits, P, field, slice, bits_if, refuse_if, run, number, pick, past_declared}
use Rattle.bits.specs.Steps.{no_ok, place, bind_no, bind_is, field_ok, field_is, give_no, refuse_no}
use Rattle.bits.specs.Size.{variable_bits_max}
use Rattle.bits.specs.Reached.{Comes, here, inside, first, behind, reads, size-passes}
use Rattle.bits.specs.ReachedLaws.{comes-on, stop-refuses, element_no, Halts, at_field, at-marked, of-own, halts}
use Rattle.oamd.specs.declared.Kind.{Kind}
use Rattle.oamd.specs.declared.Kind.TheVariants.{Unknown, Object, Trim, Extended}
use Rattle.oamd.specs.declared.Programme.{Programme}
use Rattle.oamd.specs.Programme.{set?}
use Rattle.oamd.specs.Reserved.{Field, width_of, is_reserved, unreserved}
use Rattle.oamd.specs.Element.{declared_length, size_length, State, kind, is_second, is_early, fields, framed, pass_over, read_known, oa_element}
use Rattle.demands.specs.Skeleton.{is_known}
use Rattle.demands.specs.Lemmas.Plain.{size-plain}
use Rattle.demands.specs.Lemmas.Frame.{size-goes, alternate-goes}
use Rattle.demands.specs.Lemmas.Elements.{refuse_if_ok}

-- no reader is marked
pub data Unmarked : (A : Type 0) → P A → Type 1 where

-- p comes to a field that passes the end to which p itself is held
pub record Passes {A : Type 0} (p : P A) (b : Bits) (at e o r pl : ℕ) : Type 1 where
  pub Value : Type 0
  pub width : ℕ
  pub value : List ℕ → Value
  pub comes : Comes p b at e o (field width value) pl e o
  pub passes : e < pl + width
  pub over : r ≡ o

pub field_in : {A B : Type 0} {p : P A} {q : P B} {b : Bits} {at to e o r pl m : ℕ} → Comes p b at e o q to e o
    → Halts Unmarked (λ r. ⊥) q b to e o r pl m → Passes p b at e o r pl
field_in x (at_field c l i) = record { Value = _; width = _; value = _; comes = comes-on x c; passes = l; over = i }
field_in x (at-marked k _ _) = elim k [ ]
field_in x (of-own k) = elim k [ ]

refusal_of-own : {A : Type 0} (t : Bool) (r back : ℕ) (v : A) (b : Bits) (at e o : ℕ) {r' pl m : ℕ} → run (refuse_if t r back v) b at e o ≡ no r' pl m
    → (t ≡ true) × (r' ≡ r) × (pl ≡ at - back)
refusal_of-own true r back v b at e o h = let x = refuse_no r back b at e o h in (refl, x.0, x.1)
refusal_of-own false r back v b at e o h = absurd (give_no v b at e o h)

-- ---- a field with reserved values

-- p comes to it, still held to its own end, and its value is reserved
pub record Reserves {A : Type 0} (p : P A) (b : Bits) (at e o pl : ℕ) : Type 1 where
  pub field : Field
  pub comes : Comes p b at e o (unreserved field) pl e o
  pub fits : pl + width_of field ≤ e
  pub reserved : is_reserved field (number (slice b pl (width_of field))) ≡ true

-- it is refused where it passes the end, or where its value is reserved
pub limited-refused : {A : Type 0} {p : P A} (f : Field) (b : Bits) {at to e o r pl m : ℕ} → Comes p b at e o (unreserved f) to e o
    → run (unreserved f) b to e o ≡ no r pl m → Passes p b at e o r pl ⊎ ((r ≡ 5) × Reserves p b at e o pl)
limited-refused {A} {p} f b {at} {to} {e} {o} {r} {pl} {m} c h =
    bind_no _ _ b to e o h (λ x. inl (field_in (comes-on c (first here)) (halts b to e o reads x))) λ v mid hv h.
    let x = refusal_of-own (is_reserved f v) 5 (width_of f) v b mid e o h in
    let y = field_ok (width_of f) number b to e o hv in
    let place : to ≡ pl = omega arith in
    inr (
      x.1,
      record {
        field = f;
        comes = subst (λ (n : ℕ). Comes p b at e o (unreserved f) n e o) place c;
        fits = omega arith;
        reserved = ap (is_reserved f) (ap (λ (n : ℕ). number (slice b n (width_of f))) (sym place) ∙ y.1) ∙ x.0;
      },
    )

refused_if : {A : Type 0} (t : Bool) (r back : ℕ) (v : A) (b : Bits) (at e o : ℕ) → t ≡ true → run (refuse_if t r back v) b at e o ≡ no r (at - back) 0
unfolding run
refused_if t r back v b at e o h = rw h

pub limited-refuses : (f : Field) (b : Bits) (at e o : ℕ) → at + width_of f ≤ e → is_reserved f (number (slice b at (width_of f))) ≡ true
    → run (unreserved f) b at e o ≡ no 5 at 0
limited-refuses f b at e o fits reserved =
    bind_is _ _ b at e o (field_is (width_of f) number b at e o fits) ∙ refused_if _ 5 (width_of f) _ b (at + width_of f) e o reserved
    ∙ ap (λ (n : ℕ). no 5 n 0) (omega arith)

-- ---- an element

pub data InElement {A : Type 0} (alternate : ℕ) (f : Kind → Size → P A) (b : Bits) (id e o r pl m : ℕ) : Type 1 where
  in_field : Passes (framed alternate f) b id e o r pl → InElement alternate f b id e o r pl m
  by_end : (size : Size) (to : ℕ) → run variable_bits_max b (id + 4) e o ≡ ok size to → e < to + declared_length size → r ≡ o → pl ≡ id + 4
      → InElement alternate f b id e o r pl m
  in_body : (size : Size) (to : ℕ) (k : Kind) (at : ℕ) → run variable_bits_max b (id + 4) e o ≡ ok size to
      → Comes (framed alternate f) b id e o (f k size) at (to + declared_length size) past_declared
      → run (f k size) b at (to + declared_length size) past_declared ≡ no r pl m → InElement alternate f b id e o r pl m

-- the alternate id and the discard flag fit into every element
alternate_fits : (t : Bool) (b : Bits) (at e o : ℕ) {r pl m : ℕ} → at + 4 ≤ e → run (bits_if t 4) b at e o ≡ no r pl m → ⊥
alternate_fits true b at e o l h = no_ok (sym h ∙ field_is 4 number b at e o l)
alternate_fits false b at e o l h = give_no 0 b at e o h

head_small : (t : Bool) → pick {A = ℕ} t 5 1 ≤ 5
head_small true = omega arith
head_small false = omega arith

pub element-refused : {A : Type 0} (alternate : ℕ) (f : Kind → Size → P A) (b : Bits) (id e o : ℕ) {r pl m : ℕ} → run (framed alternate f) b id e o ≡ no r pl m
    → InElement alternate f b id e o r pl m
unfolding framed
element-refused alternate f b id e o {r} {pl} {m} h =
    bind_no _ _ b id e o h (λ x. in_field (field_in (first here) (halts b id e o reads x))) λ i p hi h.
    bind_no _ _ b p e o h (λ x. in_field (field_in (behind hi (first here)) (halts b p e o (size-plain _ _ 4 0 0) x))) λ size to hz h.
    let at_size : p ≡ id + 4 = (field_ok 4 number b id e o hi).2 in
    let sized = subst (λ (n : ℕ). run variable_bits_max b n e o ≡ ok size to) at_size hz in
    let end : ℕ = to + declared_length size in
    let goes = size-goes 4 0 0 b p e o hz in
    let small = head_small (set? alternate) in
    element_no (declared_length size) (size_length size) _ b to e o h
    (λ l h.
    bind_no _ _ b to end past_declared h (λ x. absurd (alternate_fits (set? alternate) b to end past_declared (omega arith) x)) λ other q ho h.
    let flag_at = alternate-goes alternate b to end past_declared ho in
    bind_no _ _ b q end past_declared h (λ x. absurd (no_ok (sym x ∙ field_is 1 number b q end past_declared (omega arith)))) λ d body hd h.
    in_body size to (kind i other) body sized (behind hi (behind hz (inside l (behind ho (behind hd here))))) h)
    (λ l.
    let is = place (sym (stop-refuses b (size-passes l)) ∙ h) in
    by_end size to sized l is.0 (omega arith))

-- what stands behind a frame is refused if its kind is known: with 6 or 7, so many bits back, or in its fields
pub data InKnown (p : Programme) (back : ℕ) (st : State) (k : Kind) (q : P State) (b : Bits) (at e o r pl m : ℕ) : Type 1 where
  of-order : is_known k ≡ true → (r ≡ 6) ⊎ (r ≡ 7) → pl ≡ at - back → InKnown p back st k q b at e o r pl m
  in-fields : is_known k ≡ true → (to : ℕ) → Comes q b at e o (fields p k st.known) to e o → run (fields p k st.known) b to e o ≡ no r pl m
      → InKnown p back st k q b at e o r pl m

known-refused : (p : Programme) (back : ℕ) (st : State) (k : Kind) (b : Bits) (at e o : ℕ) {r pl m : ℕ} → is_known k ≡ true
    → run (read_known p back st k) b at e o ≡ no r pl m → InKnown p back st k (read_known p back st k) b at e o r pl m
unfolding read_known
known-refused p back st k b at e o known h =
    bind_no _ _ b at e o h (λ x. let y = refusal_of-own (is_second k st.known) _ _ _ b at e o x in of-order known (inl y.1) y.2) λ once p1 h1 h.
    let here-still : p1 ≡ at = (refuse_if_ok (is_second k st.known) _ _ _ b at e o h1).1 in
    bind_no _ _ b p1 e o h (λ x. let y = refusal_of-own (is_early k st.known) _ _ _ b p1 e o x in of-order known (inr y.1) (omega arith)) λ timely p2 h2 h.
    bind_no _ _ b p2 e o h (λ x. in-fields known p2 (behind h1 (behind h2 (first here))) x) λ known p3 h3 h.
    absurd (give_no _ b p3 e o h)

pub body_refused : (p : Programme) (back : ℕ) (st : State) (k : Kind) (b : Bits) (at e o : ℕ) {r pl m : ℕ} → run (oa_element p back st k) b at e o ≡ no r pl m
    → InKnown p back st k (oa_element p back st k) b at e o r pl m
unfolding oa_element pass_over
body_refused p back st Unknown b at e o h = absurd (give_no _ b at e o h)
body_refused p back st Object b at e o h = known-refused p back st Object b at e o refl h
body_refused p back st Trim b at e o h = known-refused p back st Trim b at e o refl h
body_refused p back st Extended b at e o h = known-refused p back st Extended b at e o refl h
