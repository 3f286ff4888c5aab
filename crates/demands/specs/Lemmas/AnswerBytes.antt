-- The bytes of an answer, taken apart again, are the answer.
use Rattle.std.specs.Prelude.{◌≡◌, get_or}
use Rattle.std.proofs.Math.Path.{refl, sym, ap, ap₂}
use Rattle.std.proofs.Common.{◌∙◌, pow-suc, div-lt_iff_lt-mul, arith, get_or-append-add}
use mathlib.Core.List.{List, [], ◌∷◌, ◌++◌, append_assoc, append-nil}
use Prim.Native.Nat.{ℕ, zero, suc, ◌+◌, ◌*◌, ◌/◌, ◌%◌, ◌^◌, ◌<◌}
use Rattle.std.proofs.Math.ListN.{length, length-append}
use Rattle.bits.specs.Terms.{Every}
use Rattle.oamd.specs.declared.Bed.{Bed}
use Rattle.oamd.specs.declared.Programme.{Programme}
use Rattle.oamd.specs.declared.Update.{Update}
use Rattle.oamd.specs.declared.ReadAnswer.{ReadAnswer}
use Rattle.oamd.specs.Tables.{most_beds, most_blocks}
use Rattle.oamd.specs.LeastFirst.{least_first, least_at}
use Rattle.oamd.specs.Lengths.{length-each, length-bed, length-update}
use Rattle.oamd.specs.Batch.{each_bytes, bed_bytes_of, update_bytes_of, programme_bytes_of, timing_bytes_of, answer_bytes_of, entries_at, bed_at, programme_at, update_at, timing_at, answer_at}
use Rattle.demands.specs.Promises.{InTypes}

-- ---- a number

-- behind p
least-shift : (n : ℕ) (p s : List ℕ) (k : ℕ) → least_at n (p ++ s) (length p + k) ≡ least_at n s k
unfolding least_at
least-shift zero p s k = refl
least-shift (suc n) p s k =
    let e : suc (length p + k) ≡ length p + suc k = omega arith in
    ap₂ (λ (x y : ℕ). x + 256 * y) (get_or-append-add p s k 0) (ap (least_at n (p ++ s)) e ∙ least-shift n p s (suc k))

quotient : (n v : ℕ) → v < 256 ^ suc n → v / 256 < 256 ^ n
quotient n v h = (div-lt_iff_lt-mul {k = 256} {x = v} {y = 256 ^ n} (omega arith)).1 (rw (pow-suc 256 n) at h)

least_back : (n v : ℕ) (rest : List ℕ) → v < 256 ^ n → least_at n (least_first n v ++ rest) 0 ≡ v
unfolding least_at least_first
least_back zero v rest h = let e : v < 1 = h in omega arith
least_back (suc n) v rest h =
    let tail = least-shift n (v % 256 ∷ []) (least_first n (v / 256) ++ rest) 0 ∙ least_back n (v / 256) rest (quotient n v h) in
    ap (λ (x : ℕ). v % 256 + 256 * x) tail ∙ omega arith

-- behind so many bytes
pub least_at_lem : (n v at : ℕ) (p rest : List ℕ) → length p ≡ at → v < 256 ^ n → least_at n (p ++ (least_first n v ++ rest)) at ≡ v
least_at_lem n v at p rest e h =
    let z : at ≡ length p + 0 = omega arith in
    ap (least_at n (p ++ (least_first n v ++ rest))) z ∙ least-shift n p (least_first n v ++ rest) 0 ∙ least_back n v rest h

-- ---- entries of one width

module _ {A : Type 0} (f : List ℕ → ℕ → A) (g : A → List ℕ) (w : ℕ) (Q : A → Type 0) (wide : (a : A) → length (g a) ≡ w)
    (back : (a : A) (p rest : List ℕ) → Q a → f (p ++ (g a ++ rest)) (length p) ≡ a) where
  entries_back : (xs : List A) (p rest : List ℕ) → Every Q xs → entries_at f (length xs) w (p ++ (each_bytes g xs ++ rest)) (length p) ≡ xs
  unfolding entries_at each_bytes
  entries_back [] p rest h = refl
  entries_back (x ∷ xs) p rest h =
      let behind : List ℕ = each_bytes g xs ++ rest in
      let one : p ++ ((g x ++ each_bytes g xs) ++ rest) ≡ p ++ (g x ++ behind) = ap (λ (t : List ℕ). p ++ t) (append_assoc (g x) (each_bytes g xs) rest) in
      let two : p ++ ((g x ++ each_bytes g xs) ++ rest) ≡ (p ++ g x) ++ behind = one ∙ sym (append_assoc p (g x) behind) in
      let next : length p + w ≡ length (p ++ g x) = omega (arith, length-append p (g x), wide x) in
      ap₂ (λ (y : A) (ys : List A). y ∷ ys)
      (ap (λ (t : List ℕ). f t (length p)) one ∙ back x p behind h.0)
      ((λ j. entries_at f (length xs) w (two j) (next j)) ∙ entries_back xs (p ++ g x) rest h.1)

abbrev BedFits : Bed → Type 0
BedFits b = b.assignment < 2 ^ 32

bed_back : (b : Bed) (p rest : List ℕ) → BedFits b → bed_at (p ++ (bed_bytes_of b ++ rest)) (length p) ≡ b
unfolding bed_at bed_bytes_of least_first
bed_back b p rest h =
    let bytes : List ℕ = bed_bytes_of b ++ rest in
    (λ j. record {
      assignment = least_at_lem 4 b.assignment (length p) p (b.lfeonly ∷ b.standard ∷ 0 ∷ 0 ∷ rest) refl h j;
      lfeonly = get_or-append-add p bytes 4 0 j;
      standard = get_or-append-add p bytes 5 0 j;
    })

abbrev UpdateFits : Update → Type 0
UpdateFits u = (u.start.0 < 2 ^ 16) × (u.ramp.0 < 2 ^ 16)

update_back : (u : Update) (p rest : List ℕ) → UpdateFits u → update_at (p ++ (update_bytes_of u ++ rest)) (length p) ≡ u
unfolding update_at update_bytes_of least_first
update_back u p rest h =
    let s : ℕ = u.start.0 in
    let bytes : List ℕ = update_bytes_of u ++ rest in
    let ramp : least_at 2 (p ++ bytes) (length p + 2) ≡ u.ramp.0 =
    least-shift 2 p bytes 2 ∙ least_at_lem 2 u.ramp.0 2 (s % 256 ∷ s / 256 % 256 ∷ []) rest refl h.1 in
    (λ j. record { start = record { 0 = least_at_lem 2 s (length p) p (least_first 2 u.ramp.0 ++ rest) refl h.0 j }; ramp = record { 0 = ramp j } })

-- ---- an answer

module _ (a : ReadAnswer) (t : InTypes a) where
  abbrev p : Programme
  p = a.programme

  -- bytes 0 to 23
  abbrev front : List ℕ
  front =
      least_first 8 a.place
      ++ (a.refusal ∷ a.unknown ∷ 0 ∷ 0
      ∷ p.objects ∷ p.dynonly ∷ p.lfe ∷ p.content ∷ p.distribute ∷ p.multiple ∷ p.instances ∷ p.bedcount ∷ p.isf ∷ p.dynamics ∷ 0 ∷ 0 ∷ [])

  abbrev beds : List ℕ
  beds = each_bytes bed_bytes_of p.beds

  abbrev blocks : List ℕ
  blocks = a.timing.blocks ∷ 0 ∷ []

  abbrev updates : List ℕ
  updates = each_bytes update_bytes_of a.timing.updates

  abbrev gap : List ℕ
  gap = 0 ∷ 0 ∷ []

  abbrev missing : List ℕ
  missing = least_first 4 a.missing

  -- from byte 96 on
  abbrev behind : List ℕ
  behind = blocks ++ ((updates ++ gap) ++ missing)

  front_long : length front ≡ 24
  unfolding least_first
  front_long = refl

  to-beds : length (front ++ beds) ≡ 96
  to-beds = omega (arith, length-append front beds, front_long, length-each bed_bytes_of 8 length-bed p.beds ∙ ap (λ (n : ℕ). n * 8) t.nine)

  to-blocks : length ((front ++ beds) ++ blocks) ≡ 98
  to-blocks = omega (arith, length-append (front ++ beds) blocks, to-beds)

  updates_long : length updates ≡ 32
  updates_long = length-each update_bytes_of 4 length-update a.timing.updates ∙ ap (λ (n : ℕ). n * 4) t.eight

  to-gap : length (((front ++ beds) ++ blocks) ++ (updates ++ gap)) ≡ 132
  to-gap = omega (arith, length-append ((front ++ beds) ++ blocks) (updates ++ gap), length-append updates gap, to-blocks, updates_long)

  -- the bytes, cut at each of these places
  at-beds : answer_bytes_of a ≡ front ++ (beds ++ behind)
  unfolding answer_bytes_of programme_bytes_of timing_bytes_of least_first
  at-beds = refl

  at-blocks : answer_bytes_of a ≡ (front ++ beds) ++ behind
  at-blocks = at-beds ∙ sym (append_assoc front beds behind)

  at-updates : answer_bytes_of a ≡ ((front ++ beds) ++ blocks) ++ (updates ++ (gap ++ missing))
  at-updates =
      at-blocks
      ∙ sym (append_assoc (front ++ beds) blocks ((updates ++ gap) ++ missing))
      ∙ ap (λ (x : List ℕ). ((front ++ beds) ++ blocks) ++ x) (append_assoc updates gap missing)

  at-missing : answer_bytes_of a ≡ (((front ++ beds) ++ blocks) ++ (updates ++ gap)) ++ (missing ++ [])
  at-missing =
      at-blocks
      ∙ sym (append_assoc (front ++ beds) blocks ((updates ++ gap) ++ missing))
      ∙ sym (append_assoc ((front ++ beds) ++ blocks) (updates ++ gap) missing)
      ∙ ap (λ (x : List ℕ). (((front ++ beds) ++ blocks) ++ (updates ++ gap)) ++ x) (sym (append-nil missing))

  place_back : least_at 8 (answer_bytes_of a) 0 ≡ a.place
  unfolding answer_bytes_of
  place_back =
      least_back 8 a.place ((a.refusal ∷ a.unknown ∷ 0 ∷ 0 ∷ []) ++ (programme_bytes_of p ++ (timing_bytes_of a.timing ++ missing))) t.place

  beds_back : entries_at bed_at most_beds 8 (answer_bytes_of a) 24 ≡ p.beds
  beds_back =
      (λ j. entries_at bed_at (sym t.nine j) 8 (at-beds j) (sym front_long j))
      ∙ entries_back bed_at bed_bytes_of 8 BedFits length-bed bed_back p.beds front behind t.beds

  blocks_back : get_or (answer_bytes_of a) 96 0 ≡ a.timing.blocks
  blocks_back = let e : 96 ≡ length (front ++ beds) + 0 = omega (arith, to-beds) in
      (λ j. get_or (at-blocks j) (e j) 0) ∙ get_or-append-add (front ++ beds) behind 0 0

  updates_back : entries_at update_at most_blocks 4 (answer_bytes_of a) 98 ≡ a.timing.updates
  updates_back =
      (λ j. entries_at update_at (sym t.eight j) 4 (at-updates j) (sym to-blocks j))
      ∙ entries_back update_at update_bytes_of 4 UpdateFits length-update update_back a.timing.updates ((front ++ beds) ++ blocks) (gap ++ missing) t.updates

  missing_back : least_at 4 (answer_bytes_of a) 132 ≡ a.missing
  missing_back =
      ap (λ (x : List ℕ). least_at 4 x 132) at-missing
      ∙ least_at_lem 4 a.missing 132 (((front ++ beds) ++ blocks) ++ (updates ++ gap)) [] to-gap t.missing

  pub answer_back : answer_at (answer_bytes_of a) 0 ≡ a
  unfolding answer_at programme_at timing_at answer_bytes_of programme_bytes_of timing_bytes_of least_first
  answer_back = (λ j. record {
    place = place_back j;
    refusal = a.refusal;
    unknown = a.unknown;
    programme = record {
      objects = p.objects;
      dynonly = p.dynonly;
      lfe = p.lfe;
      content = p.content;
      distribute = p.distribute;
      multiple = p.multiple;
      instances = p.instances;
      bedcount = p.bedcount;
      isf = p.isf;
      dynamics = p.dynamics;
      beds = beds_back j;
    };
    timing = record { blocks = blocks_back j; updates = updates_back j };
    missing = missing_back j;
  })
