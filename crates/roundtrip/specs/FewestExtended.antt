-- The same for the extended object element (5.5.13 to 5.5.15): which of its two groups are there, and which records say that they have a precise position.
use Rattle.std.specs.Prelude.{◌≡◌, Bool, true, false, ℕ, suc, ◌<◌, length, get_or, ltb}
use Rattle.std.proofs.Math.Path.{refl, ap}
use Rattle.std.proofs.Common.{sym, ap₂, ◌∙◌, subst, arith}
use Rattle.std.proofs.lemmas.Bool.{false≢true}
use mathlib.Core.List.{List, [], ◌∷◌, ◌++◌, map, append-nil, append_assoc}
use Rattle.std.proofs.Math.ListN.{replicate}
use Rattle.bits.specs.Language.{P, when, each, number, as_flag}
use Rattle.bits.specs.Writes.{to_bits, only, each_bits, Spells, First}
use Rattle.bits.specs.Spells.{s-give, s-bind, s-bits, s_if, s-pick, s-then}
use Rattle.bits.specs.First.{first_of, first_same, first_none, first-append, each_first}
use Rattle.bits.specs.Terms.{bits_of_each}
use Rattle.oamd.specs.declared.Divergence.{Divergence}
use Rattle.oamd.specs.declared.Precise.{Precise}
use Rattle.oamd.specs.Programme.{set?}
use Rattle.oamd.specs.Extended.{obj_div_block, ext_prec_pos_block, has_x, has_y, has_z, no_divergence, no_precise, extended_object_element}
use Rattle.oamd.specs.Record.{Record, carries, all_carry, divergence_bytes, precise_bytes}
use Rattle.form.specs.Form.{divergence_bits, precise_bits, any, diverges, refines, extended_element_bits}
use Rattle.form.specs.Lemmas.Tests.{by-test, by_flag}
use Rattle.roundtrip.specs.Lemmas.AcceptedRecords.{divergence-spells}
use Rattle.roundtrip.specs.Lemmas.ExtendedBack.{Carried, no-divergence, no-precise}
use Rattle.roundtrip.specs.Promises.{carried_bytes}

-- ---- a record

-- divergence leaves no choice
divergence_only : (sent : Bool) → Spells (obj_div_block sent) (λ l d. First (divergence_bits sent d) l)
divergence_only sent = s-then _ _ _ (divergence-spells sent) λ l d h. subst (First (divergence_bits sent d)) h.0 (first_same (divergence_bits sent d))

-- the flag for a precise position that has no presence bit is not set
flag_first : (given presence : ℕ) → given < 2 → (set? given ≡ false → 0 ≡ presence)
    → First (to_bits 1 (as_flag (ltb 0 presence)) ++ only (ltb 0 presence) (to_bits 3 presence)) (to_bits 1 given ++ only (set? given) (to_bits 3 presence))
unfolding to_bits number
flag_first given presence l h = by_flag given (omega arith)
    (λ e. let z : 0 ≡ presence = h (rw e refl) in rw (e, ← z) (first_same _))
    (λ e. by-test (ltb 0 presence)
    (λ q. rw (e, q) (first_same _))
    (λ q. rw (e, q) (first-append {a = to_bits 1 0} {b = to_bits 1 1} (first_of _ _ refl) (first_none _))))

-- two parts, and what follows both
then_first : (a b c a' b' c' : List ℕ) → First (a ++ b) (a' ++ b') → First c c' → First (a ++ (b ++ c)) (a' ++ (b' ++ c'))
then_first a b c a' b' c' f g = rw (← append_assoc a b c, ← append_assoc a' b' c') (first-append f g)

pub precise_fewest : (sent : Bool) → Spells (ext_prec_pos_block sent) (λ l p. First (precise_bits sent p) l)
unfolding ext_prec_pos_block precise_bits
precise_fewest sent =
    s-bind _ _ _ (s_if sent 1 _ λ given g g'.
    s-bind _ _ _ (s_if (set? given) 3 _ λ presence n n'.
    s-bind _ _ _ (s_if (has_x presence) 2 _ λ x a a'.
    s-bind _ _ _ (s_if (has_y presence) 2 _ λ y b b'.
    s-bind _ _ _ (s_if (has_z presence) 2 _ λ z c c'.
    s-give _ _ (rw (append-nil (only (has_z presence) (to_bits 2 z)))
    (by-test sent
    (λ q. rw q (then_first (to_bits 1 (as_flag (ltb 0 presence))) (only (ltb 0 presence) (to_bits 3 presence)) _ (to_bits 1 given)
    (only (set? given) (to_bits 3 presence)) _
    (flag_first given presence (g q) n') (first_same _)))
    (λ q.
    let e : 0 ≡ given = g' q in
    let f : 0 ≡ presence = n' (rw (← e) refl) in
    rw (q, ← e, ← f) (first_same _)))))))))

-- ---- the element

-- one of the two groups: a part of each record, with a value that stands for none, and a test that says which records have it
module _ {A : Type 0} (block : Bool → P A) (enc : Bool → A → List ℕ) (least : (c : Bool) → Spells (block c) (λ l a. First (enc c a) l))
    (part : Record → A) (none : A) (has : Record → Bool) (absent : (r : Record) → none ≡ part r → has r ≡ false) where
  abbrev sent : List Record → List Bool
  sent rs = all_carry (map (λ r. r.scene) rs)

  -- what is read behind the flag b
  record Group (rs : List Record) (b : ℕ) (l : List ℕ) (vs : List A) : Type 0 where
    there : set? b ≡ true → First (bits_of_each enc (sent rs) vs) l
    not_there : set? b ≡ false → replicate (length (sent rs)) none ≡ vs

  group : (rs : List Record) (b : ℕ) → Spells (when (set? b) (each block (sent rs)) (replicate (length (sent rs)) none)) (Group rs b)
  group rs b =
      s-pick (set? b) _ _ _
      (λ q. s-then _ _ _ (each_first block enc least (sent rs)) λ l vs f. record { there = λ p. f.0; not_there = λ p. absurd (false≢true (sym p ∙ q)) })
      (λ q. s-give _ _ (record { there = λ p. absurd (false≢true (sym q ∙ p)); not_there = λ p. refl }))

  none_has : (rs : List Record) → replicate (length (sent rs)) none ≡ map part rs → any has rs ≡ false
  unfolding any
  none_has [] h = refl
  none_has (r ∷ rs) h =
      let a : none ≡ part r = cc in
      let b : replicate (length (sent rs)) none ≡ map part rs = cc in
      rw (absent r a) (none_has rs b)

  same_bits : (i : ℕ) (rs : List Record) → each_bits (λ i r. enc (carries r.scene) (part r)) i rs ≡ bits_of_each enc (sent rs) (map part rs)
  unfolding each_bits
  same_bits i [] = refl
  same_bits i (r ∷ rs) = ap (λ (l : List ℕ). enc (carries r.scene) (part r) ++ l) (same_bits (suc i) rs)

  group_first : (rs : List Record) (b : ℕ) (l : List ℕ) (vs : List A) → b < 2 → Group rs b l vs → vs ≡ map part rs
      → First (to_bits 1 (as_flag (any has rs)) ++ only (any has rs) (each_bits (λ i r. enc (carries r.scene) (part r)) 0 rs)) (to_bits 1 b ++ l)
  unfolding to_bits number
  group_first rs b l vs low g e = by-test (any has rs)
      (λ q. by_flag b (omega arith)
      (λ z. absurd (false≢true (sym (none_has rs (g.not_there (rw z refl) ∙ e)) ∙ q)))
      (λ z. rw (q, z, same_bits 0 rs) (first-append {a = to_bits 1 1} {b = to_bits 1 1} (first_same _)
      (subst (λ (ys : List A). First (bits_of_each enc (sent rs) ys) l) e (g.there (rw z refl))))))
      (λ q. by_flag b (omega arith)
      (λ z. rw (q, z) (first-append {a = to_bits 1 0} {b = to_bits 1 0} (first_same _) (first_none l)))
      (λ z. rw (q, z) (first-append {a = to_bits 1 0} {b = to_bits 1 1} (first_of _ _ refl) (first_none l))))

no_use : (r : Record) → no_divergence ≡ r.divergence → diverges r ≡ false
no_use r e = ap (λ (d : Divergence). set? d.used) (sym e)

no-presence : (r : Record) → no_precise ≡ r.precise → refines r ≡ false
no-presence r e = ap (λ (p : Precise). ltb 0 p.presence) (sym e)

-- whatever bits are read as what these records carry
pub extended_fewest : (rs : List Record)
    → Spells (extended_object_element (all_carry (map (λ r. r.scene) rs)))
    (λ l x. x.divergence ≡ map (λ r. r.divergence) rs → x.precise ≡ map (λ r. r.precise) rs → First (extended_element_bits rs) l)
unfolding extended_object_element extended_element_bits
extended_fewest rs =
    s-bind _ _ _ (s-bits 1 _ λ b i.
    s-bind _ _ _ (s-then _ _ _ (group obj_div_block divergence_bits divergence_only (λ r. r.divergence) no_divergence diverges no_use rs b) λ l ds d.
    s-bind _ _ _ (s-bits 1 _ λ c j.
    s-bind _ _ _ (s-then _ _ _ (group ext_prec_pos_block precise_bits precise_fewest (λ r. r.precise) no_precise refines no-presence rs c) λ m ps p.
    s-give _ _ (λ e f.
    rw (append-nil m)
    (then_first (to_bits 1 (as_flag (any diverges rs))) (only (any diverges rs) (each_bits
    (λ i r. divergence_bits (carries r.scene) r.divergence) 0 rs)) _ (to_bits 1 b) l _
    (group_first obj_div_block divergence_bits divergence_only (λ r. r.divergence) no_divergence diverges no_use rs b l ds i d e)
    (group_first ext_prec_pos_block precise_bits precise_fewest (λ r. r.precise) no_precise refines no-presence rs c m ps j p f)))))))

-- ---- whether it is there

-- a valid record calls for the element just where these bytes are not all 0
pub not-called-for : (r : Record) → Carried r → diverges r ≡ false → refines r ≡ false → carried_bytes r ≡ replicate 7 0
not-called-for r c d p =
    let a = no-divergence (carries r.scene) r.divergence c.0 d in
    let b = no-precise (carries r.scene) r.precise c.1 p in
    sym (ap₂ (λ (x : Divergence) (y : Precise). divergence_bytes x ++ precise_bytes y) a b)

pub called-for : (r : Record) → carried_bytes r ≡ replicate 7 0 → (diverges r ≡ false) × (refines r ≡ false)
called-for r e =
    let u : r.divergence.used ≡ 0 = ap (λ (l : List ℕ). get_or l 0 0) e in
    let p : r.precise.presence ≡ 0 = ap (λ (l : List ℕ). get_or l 3 0) e in
    (rw u refl, rw p refl)
