-- The ways of `put`: the field behind the bits that are held, stored with them or held with them, is laid.
use Rattle.std.proofs.Common.{◌≡◌, ℕ, ◌+◌, ◌-◌, ◌*◌, ◌/◌, ◌%◌, ◌^◌, ◌<◌, ◌≤◌, Bool, List, ◌++◌, length, get_or, drop, sym, refl, ap, ◌∙◌, subst, ap₂, arith, length-append, length-drop, drop-drop, le-leb}
use lib.ListN.{get_or-append}
use lib.Seq.{drop-append-le}
use borrow.Author.Tests.{lt-leb}
use Rattle.bits.specs.Language.{number, bit, pick}
use Rattle.bits.specs.Writes.{to_bits, Binary}
use Rattle.bits.specs.Lists.{binary-append, binary-to_bits, length-to_bits}
use Rattle.laying.specs.Laying.{Laid, Holds, Put, reach, widest_put, most_position, set_wide, joined, advanced, longer}
use Rattle.laying.specs.declared.Pen.{Pen}
use Rattle.laying.proofs.Laws.{place-reach, reach_few, reach_near, few-held}
use Rattle.laying.proofs.Words.{spelt, spelt_lt, spelt-join, spelt-drop, binary-drop, stored-bit, wide-length, bytes-wide}

abbrev pen : ℕ → ℕ → ℕ → Pen
pen x k j = record { word = x; held = record { 0 = k }; stored = record { 0 = j } }

-- a pen is told by its numbers
pub pen_is : {p q : Pen} → p.word ≡ q.word → p.held.0 ≡ q.held.0 → p.stored.0 ≡ q.stored.0 → p ≡ q
pen_is {p} {q} e f g = ap₂ (λ (x k : ℕ). pen x k p.stored.0) e f ∙ ap (pen q.word q.held.0) g

-- a choice whose test is known
picked : {A : Type 0} {b c : Bool} (x y : A) → b ≡ c → pick c x y ≡ pick b x y
picked x y e = ap (λ (t : Bool). pick t x y) (sym e)

module _ (s : List ℕ) (p : Pen) (w v : ℕ) (hw : w ≤ widest_put) (hv : v < 2 ^ w) (most : reach s p + w ≤ most_position) where
  abbrev i : ℕ
  i = p.stored.0

  abbrev n : ℕ
  n = p.held.0 + w

  abbrev y : ℕ
  y = joined p.word n v

  -- of the bits that were laid with the field behind them, those that are held
  module _ (b : List ℕ) (h : Holds s p b) (fits : n ≤ 63) where
    abbrev whole : List ℕ
    whole = b ++ to_bits w v

    abbrev still : List ℕ
    still = drop (8 * i) whole

    whole_long : length whole ≡ 8 * i + n
    whole_long = omega (arith, length-append b (to_bits w v), length-to_bits w v, h.long)

    still_long : length still ≡ n
    still_long = omega (arith, length-drop (8 * i) whole, whole_long)

    whole-binary : Binary whole
    whole-binary = binary-append b (to_bits w v) h.binary (binary-to_bits w v)

    whole-stands : (q : ℕ) → q < 8 * i → bit s q ≡ get_or whole q 0
    whole-stands q l = h.stands q l ∙ sym (get_or-append b (to_bits w v) 0 q (omega (arith, h.long)))

    joined_is : y ≡ spelt still
    unfolding joined
    joined_is =
        let e : length (drop (8 * i) b) ≡ p.held.0 = omega (arith, length-drop (8 * i) b, h.long) in
        ap (λ (x : ℕ). (x + v * 2 ^ (64 - n)) % 2 ^ 64) h.rest
        ∙ rw e at (spelt-join (drop (8 * i) b) w v (binary-drop (8 * i) b h.binary) hv (omega arith))
        ∙ ap spelt (sym (drop-append-le (8 * i) b (to_bits w v) (omega (arith, h.long))))

    holds-longer : Holds s (longer p n v) whole
    holds-longer = record {
      bytes = h.bytes;
      long = whole_long;
      binary = whole-binary;
      stands = whole-stands;
      rest = sym (picked y p.word (le-leb n 63 fits)) ∙ joined_is ∙ ap (λ (k : ℕ). number still * 2 ^ (64 - k)) still_long;
    }

    holds-advanced : i + 8 ≤ length s → Holds (set_wide s i (spelt still)) (advanced p n (spelt still)) whole
    holds-advanced room = record {
      bytes = bytes-wide s i (spelt still) (spelt_lt still (binary-drop (8 * i) whole whole-binary) (omega (arith, still_long))) h.bytes;
      long = omega (arith, whole_long);
      binary = whole-binary;
      stands = λ q l. stored-bit s i whole whole-binary (omega (arith, whole_long)) whole-stands q (omega arith) (omega arith);
      rest =
          let k : ℕ = n / 8 * 8 in
          let e : 8 * i + k ≡ 8 * (i + n / 8) = omega arith in
          let d : drop k still ≡ drop (8 * (i + n / 8)) whole = drop-drop k (8 * i) whole ∙ ap (λ (j : ℕ). drop j whole) e in
          let c : length (drop k still) ≡ n % 8 = omega (arith, length-drop k still, still_long) in
          spelt-drop still k (binary-drop (8 * i) whole whole-binary) (omega (arith, still_long)) (omega (arith, still_long))
          ∙ ap₂ (λ (x : List ℕ) (j : ℕ). number x * 2 ^ (64 - j)) d c;
    }

  laid-stored : i + 8 ≤ length s → Laid w s (set_wide s i y) p (advanced p n y) (to_bits w v)
  laid-stored room =
      let few = few-held s p (omega arith) room in
      record {
        kept = wide-length s i y;
        next = omega (arith, length-to_bits w v);
        most = omega (arith, place-reach s p, reach_few (set_wide s i y) (advanced p n y) (omega arith));
        holds = λ e b h.
            subst (λ (x : ℕ). Holds (set_wide s i x) (advanced p n x) (b ++ to_bits w v)) (sym (joined_is b h (omega arith))) (holds-advanced b h (omega arith) room);
      }

  laid-held : length s < i + 8 → Laid w s s p (longer p n v) (to_bits w v)
  laid-held near = record {
    kept = refl;
    next = omega (arith, length-to_bits w v);
    most = omega (arith, place-reach s p, reach_near s (longer p n v) near);
    holds = λ e b h. holds-longer b h (omega arith);
  }

  -- eight bytes have room
  pub put-stored : (t : List ℕ) (r : Pen) → i + 8 ≤ length s → t ≡ set_wide s i y → r.word ≡ y * 2 ^ (n / 8 * 8) % 2 ^ 64 → r.held.0 ≡ n % 8
      → r.stored.0 ≡ i + n / 8 → Put w s t p r v
  put-stored t r room same word held stored =
      let pen : r ≡ advanced p n y = pen_is word held stored in
      let on = le-leb (i + 8) (length s) room in
      record { same = same ∙ picked (set_wide s i y) s on; pen = pen ∙ picked (advanced p n y) (longer p n v) on; laid = rw (same, pen) (laid-stored room) }

  -- they have not
  put-near : (r : Pen) → length s < i + 8 → r ≡ longer p n v → Put w s s p r v
  put-near r near pen =
      let off = lt-leb (i + 8) (length s) near in
      record { same = picked (set_wide s i y) s off; pen = pen ∙ picked (advanced p n y) (longer p n v) off; laid = rw pen (laid-held near) }

  pub put-held : (r : Pen) → length s < i + 8 → n ≤ 63 → r.word ≡ y → r.held.0 ≡ n → r.stored.0 ≡ i → Put w s s p r v
  put-held r near few word held stored = put-near r near (pen_is (word ∙ picked y p.word (le-leb n 63 few)) held stored)

  pub put-past : (r : Pen) → length s < i + 8 → 63 < n → r.word ≡ p.word → r.held.0 ≡ n → r.stored.0 ≡ i → Put w s s p r v
  put-past r near more word held stored = put-near r near (pen_is (word ∙ picked y p.word (lt-leb n 63 more)) held stored)
