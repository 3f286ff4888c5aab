-- From the fields of the extended element to what it has for a record. Assumes nothing.
use mathlib.Core.Path.{◌≡◌, refl, sym, ap, ap₂, ◌∙◌, subst}
use mathlib.Core.Bool.{Bool, true, false, false≢true}
use mathlib.Core.List.{List, [], ◌∷◌, ◌++◌, map}
use mathlib.Core.Option.{Option}
use Prim.Native.Nat.{ℕ, suc, ◌+◌, ◌*◌, ◌≤◌, ◌<◌}
use native.Mathlib.Omega.{arith}
use native.Mathlib.Nat.{zero-mul}
use borrow.Author.Tests.{eq-eqb, ne_eqb}
use lib.Dec.{eqb}
use lib.ListN.{length, get_or, replicate}
use Rattle.std.specs.Prelude as prelude
use Rattle.std.specs.Prelude.{Some, None, is_some}
use Rattle.bits.specs.declared.Cur.{Cur}
use Rattle.bits.specs.declared.Limit.{Limit}
use Rattle.bits.specs.declared.Step.{Step}
use Rattle.bits.specs.Language.{P, give, ◌>>=◌, both, bits, bits_if, bit, when, each, from, for, past_declared}
use Rattle.bits.specs.Steps.{give_ok}
use Rattle.bits.specs.View.{over_of, Reads}
use Rattle.oamd.specs.Tables.{record_stride}
use Rattle.oamd.specs.declared.Precise.{Precise}
use Rattle.oamd.specs.declared.Programme.{Programme}
use Rattle.oamd.specs.Programme.{set?}
use Rattle.oamd.specs.Extended.{obj_div_block, ext_prec_pos_block, no_divergence, no_precise, Extension, extended_object_element}
use Rattle.oamd.specs.Meaning.{idle}
use Rattle.oamd.specs.Record.{Record, carries, all_carry}
use Rattle.oamd.specs.Element.{scenes}
use Rattle.record.specs.Bytes.{scene_at}
use Rattle.reader.specs.declared.Header.{Header}
use Rattle.reader.specs.Steps.{Headed}
use Rattle.demands.specs.Terms.{tables_of}
use Rattle.sources.specs.declared.Inside.{Inside}
use Rattle.sources.specs.declared.Extra.{Extra}
use Rattle.sources.specs.Chain.{objects_in, blocks_in, no_record, coded_in, record_at, may_carry, divergence_sent, presence_sent}
use Rattle.sources.specs.Sources.{prec_block}
use Rattle.sources.specs.Given.{divergence_in, precise_in, divergence_at, precise_at}
use Rattle.sources.specs.SceneAt.{length_all}
use Rattle.sources.specs.Asked.{payload_in, most_records, Asked, Recorded}
use Rattle.sources.specs.Lemmas.Blocks.{objects_long, blocks_long}
use Rattle.sources.specs.Lemmas.Records.{carry_at, length-carry, scenes-coded, record-at}
use Rattle.sources.specs.Places.{arrival_here}
use Rattle.sources.specs.Where.{bit_of, path_of, extended_path, divergence_present, precise_present, precise_flag}
use Rattle.sources.specs.Lemmas.Extras.{flag-bit}
use Rattle.sources.specs.Lemmas.Standing.{both_first, both-second}
use Rattle.sources.specs.Lemmas.Meeting.{line}
use Rattle.sources.specs.Lemmas.Walking.{Here, here, stepped, On, on_over, on-turn}
use Rattle.sources.specs.Walks.{Went, Entered, Sought, carries_at, Carried, Room, DivergenceFound, PreciseFound}
use Rattle.sources.proofs.ToBlock.{programme_is, restated}
use Rattle.sources.proofs.Chaining.{among-asked}

-- ---- which records can carry anything

-- a list, entry by entry
as-map : (xs : List Bool) (g : ℕ → Bool) (i : ℕ) → ((k : ℕ) → k < length xs → get_or xs k false ≡ g (i + k)) → xs ≡ map g (from i (length xs))
unfolding from
as-map [] g i h = refl
as-map (x ∷ xs) g i h =
    let first : x ≡ g i = h 0 (omega arith) ∙ ap g (let e : i + 0 ≡ i = omega arith in e) in
    ap₂ (λ (x : Bool) (xs : List Bool). x ∷ xs) first
    (as-map xs g (suc i) (λ k l. h (suc k) (omega arith) ∙ ap g (let e : i + suc k ≡ suc i + k = omega arith in e)))

each_map : {X Y A : Type 0} (f : Y → P A) (g : X → Y) (xs : List X) → each f (map g xs) ≡ each (λ x. f (g x)) xs
unfolding each
each_map f g [] = refl
each_map f g (x ∷ xs) = ap (λ (p : P (List _)). f (g x) >>= λ a. p >>= λ rest. give (a ∷ rest)) (each_map f g xs)

module _ {s records : List ℕ} {n j b : ℕ} (a : Asked s n j b) (r : Recorded s records) where
  abbrev carry : List Bool
  carry = all_carry (scenes (payload_in s).known.object)

  abbrev pub count : ℕ
  count = objects_in (payload_in s) * blocks_in (payload_in s)

  pub counted : {h : Step Header} → Headed s h → h.value.programme.objects * n ≡ count
  counted headed = ap₂ (λ (p : Programme) (m : ℕ). p.objects * m) (programme_is a.accepted headed) a.blocks

  carry_long : length carry ≡ count
  carry_long =
      let m : b < blocks_in (payload_in s) = omega (arith, a.block, a.blocks) in
      let many = length_all (blocks_in (payload_in s)) [] (coded_in (payload_in s).known.object) (blocks_long s a.accepted.ran b m) in
      let objects = objects_long s a.accepted.ran b m in
      rw (length-carry, scenes-coded, many, objects)

  carry_here : (i : ℕ) → i < count → get_or carry i false ≡ carries_at records i
  unfolding record_at
  carry_here i l =
      let ss = scenes (payload_in s).known.object in
      let first : 0 * blocks_in (payload_in s) + i ≡ i = omega (arith, zero-mul (blocks_in (payload_in s))) in
      let scene : get_or ss i (idle 0) ≡ scene_at records (record_stride * i) =
      ap (λ (k : ℕ). get_or ss k (idle 0)) (sym first) ∙ ap (λ (r : Record). r.scene) (sym (record-at s a.accepted.ran 0 i))
      ∙ ap (λ (k : ℕ). (get_or (tables_of (payload_in s)).records k no_record).scene) first ∙ ap (λ (r : Record). r.scene) (sym (r.same i l)) in
      sym (carry_at ss i) ∙ ap carries scene

  -- so each loop over what they carry is one over the records
  pub over-records : {A : Type 0} (f : Bool → P A) → each f carry ≡ for count (λ i. f (carries_at records i))
  over-records f =
      let all = as-map carry (carries_at records) 0 (λ k l. carry_here k (omega (arith, carry_long)) ∙ ap (carries_at records) (let e : k ≡ 0 + k = omega arith in e)) in
      ap (each f) (all ∙ ap (λ (m : ℕ). map (carries_at records) (from 0 m)) carry_long) ∙ each_map f (carries_at records) (from 0 count)

  -- the same where a flag says whether it is sent
  over-records_if : {A : Type 0} (t : Bool) (f : Bool → P A) (blank : A)
      → when t (each f carry) (replicate (length carry) blank) ≡ when t (for count (λ i. f (carries_at records i))) (replicate count blank)
  over-records_if t f blank = ap₂ (λ (p : P (List _)) (m : ℕ). when t p (replicate m blank)) (over-records f) carry_long

  sent-on : {A : Type 0} {way : List ℕ → List ℕ} {t : Bool} (f : Bool → P A) (blank : A) {v w : List A} {c : Cur} {l : Limit} → t ≡ true → v ≡ w
      → On s way (when t (each f carry) (replicate (length carry) blank)) v c l → On s way (for count (λ i. f (carries_at records i))) w c l
  sent-on {A} {way} f blank {v} {c = c} {l} set same m =
      subst (λ (w : List A). On s way (for count (λ i. f (carries_at records i))) w c l) same
      (subst (λ (p : P (List A)). On s way p v c l) (over-records f) (rw set at m))

  -- ---- the lines of the element: two flags, and behind each a loop

  module _ {c : Cur} {l : Limit} (e : Entered true s c l) where
    abbrev extension : Extension
    extension = e.found.value

    on : On s (λ l. extended_path s ++ l) (extended_object_element carry) extension c l
    on = record { good = e.good; within = e.within; here = restated refl refl (sym (ap over_of e.inner)) e.found.here }

    -- b_obj_div_block
    module _ {flag : ℕ} {c₂ : Cur} (r₁ : Reads (bits 1) (bit s) c l flag c₂) where
      pub flag_is : bit s (bit_of s (extended_path s ++ divergence_present)) ≡ flag
      unfolding extended_object_element
      flag_is = flag-bit on.here.meets (stepped on.good (line on.here.meets).here.ran r₁).ran

      pub divergences-on : set? flag ≡ true → On s (λ l. extended_path s ++ (1 ∷ l)) (for count (λ i. obj_div_block (carries_at records i))) extension.divergence c₂ l
      unfolding extended_object_element
      divergences-on set =
          let o = on_over on r₁ in
          let these = line o.here.meets in
          let others = line (line these.rest).rest in
          let same = (give_ok _ (bit s) others.mid l.end.0 (over_of l.inner) others.rest.ran).0 in
          sent-on obj_div_block no_divergence set (ap (λ (x : Extension). x.divergence) same) (record { good = o.good; within = o.within; here = here these.here })

      -- behind its loop, b_ext_prec_pos_block
      module _ {flag' : ℕ} {c₃ c₄ : Cur} (passed : Went (when (set? flag) (for count (λ i. obj_div_block (carries_at records i))) (replicate count no_divergence)) (bit s) c₂ l c₃)
          (r₂ : Reads (bits 1) (bit s) c₃ l flag' c₄) where
        abbrev behind : Reads (when (set? flag) (each obj_div_block carry) (replicate (length carry) no_divergence)) (bit s) c₂ l passed.value c₃
        behind = rw (over-records_if (set? flag) obj_div_block no_divergence) passed.reads

        pub flag-is' : bit s (bit_of s (extended_path s ++ precise_present)) ≡ flag'
        unfolding extended_object_element
        flag-is' =
            let o = on_over (on_over on r₁) behind in
            flag-bit o.here.meets (stepped o.good (line o.here.meets).here.ran r₂).ran

        pub precises-on : set? flag' ≡ true → On s (λ l. extended_path s ++ (3 ∷ l)) (for count (λ i. ext_prec_pos_block (carries_at records i))) extension.precise c₄ l
        unfolding extended_object_element
        precises-on set =
            let o = on_over (on_over (on_over on r₁) behind) r₂ in
            let these = line o.here.meets in
            let same = (give_ok _ (bit s) these.mid l.end.0 (over_of l.inner) these.rest.ran).0 in
            sent-on ext_prec_pos_block no_precise set (ap (λ (x : Extension). x.precise) same) (record { good = o.good; within = o.within; here = here these.here })

-- ---- what it has for a record

both_true : (t : Bool) → both t true ≡ t
both_true true = refl
both_true false = refl

both_false : (t : Bool) → both t false ≡ false
both_false true = refl
both_false false = refl

-- a record's block there, by other names
carried_at : {A : Type 0} {s : List ℕ} {way : List ℕ → List ℕ} (f : Bool → P A) {t : Bool} {v w : A} {at at' e o : ℕ} → t ≡ true → v ≡ w → at' ≡ at → o ≡ past_declared
    → Here s way (f t) v at e o → Carried s way (f true) w at'
carried_at f {e = e} set same at-is past m = record { end = e; here = restated (sym same) at-is past (rw set at m) }

-- b_ext_prec_pos, read where the record can carry it: the bit on its line
flag-given : {s : List ℕ} {way : List ℕ → List ℕ} (t : Bool) {v : Precise} {c d : Cur} {l : Limit} {w : ℕ} → On s way (ext_prec_pos_block t) v c l → Reads (bits_if t 1) (bit s) c l w d
    → (eqb w 1 ≡ both t (set? (bit s (bit_of s (way (0 ∷ [])))))) × (bit_of s (way (0 ∷ [])) ≡ c.at.0)
unfolding ext_prec_pos_block
flag-given {s} {way} true {c = c} {l = l} m r =
    let x = stepped m.good (line m.here.meets).here.ran r in
    (ap set? (sym (flag-bit m.here.meets x.ran)), m.here.meets.comes 0 [] ∙ arrival_here _ _ (bit s) c.at.0 l.end.0 (over_of l.inner))
flag-given {s} {way} false {c = c} {l = l} m r =
    let x = stepped m.good (line m.here.meets).here.ran r in
    (ap set? (sym (give_ok 0 (bit s) c.at.0 l.end.0 (over_of l.inner) x.ran).0), m.here.meets.comes 0 [] ∙ arrival_here _ _ (bit s) c.at.0 l.end.0 (over_of l.inner))

module _ {s : List ℕ} {n j b : ℕ} where
  unsent-divergence : divergence_sent s (payload_in s) j b ≡ false → DivergenceFound s n j b (record { sent = false; at = 0 })
  unsent-divergence h = record { sent = sym h; near = omega arith; met = λ t. absurd (false≢true t) }

  unsent-precise : presence_sent s (payload_in s) j b ≡ false → PreciseFound s n j b (record { sent = false; at = 0 })
  unsent-precise h = record { sent = sym h; near = omega arith; met = λ t. absurd (false≢true t); flag = λ t. absurd (false≢true t) }

module _ {s records : List ℕ} {n j b : ℕ} (a : Asked s n j b) (r : Recorded s records) where
  abbrev k : ℕ
  k = j * n + b

  -- of an index below the count
  pub below : k < count a r
  below = omega (arith, (among-asked a).index, ap (λ (m : ℕ). objects_in (payload_in s) * m) a.blocks)

  index : k ≡ j * blocks_in (payload_in s) + b
  index = ap (λ (m : ℕ). j * m + b) a.blocks

  -- the record carries anything
  carries_here : carries_at records k ≡ carries (record_at (payload_in s) j b).scene
  unfolding record_at
  carries_here = ap (λ (x : Record). carries x.scene) (r.same k below ∙ ap (λ (m : ℕ). get_or (tables_of (payload_in s)).records m no_record) index)

  -- records up to some of them stand in the buffer
  pub count-few : count a r ≤ most_records
  count-few = omega (arith, (among-asked a).few, ap (λ (m : ℕ). objects_in (payload_in s) * m) a.blocks)

  pub room-up_to : {m : ℕ} → m ≤ count a r → Room records m
  room-up_to l = record { few = omega (arith, count-few); fits = omega (arith, r.room) }

module _ {s records : List ℕ} {n j b : ℕ} (a : Asked s n j b) (r : Recorded s records) {o : prelude.Option Inside} (sought : Sought true s o) where
  abbrev extended : Option Extension
  extended = (payload_in s).known.extended

  -- there is no such element
  absent-divergence : is_some o ≡ false → divergence_sent s (payload_in s) j b ≡ false
  unfolding divergence_sent
  absent-divergence h = rw (sym sought.told ∙ h)

  pub divergence-absent : is_some o ≡ false → {x : Extra} → x ≡ record { sent = false; at = 0 } → DivergenceFound s n j b x
  divergence-absent h is = rw is (unsent-divergence (absent-divergence h))

  absent-precise : is_some o ≡ false → presence_sent s (payload_in s) j b ≡ false
  unfolding presence_sent
  absent-precise h = rw (sym sought.told ∙ h)

  pub precise-absent : is_some o ≡ false → {x : Extra} → x ≡ record { sent = false; at = 0 } → PreciseFound s n j b x
  precise-absent h is = rw is (unsent-precise (absent-precise h))

  module _ {i : Inside} (is : o ≡ Some i) where
    abbrev e : Entered true s i.cur i.held
    e = (rw is at sought).entered

    -- whether it can carry anything there is whether the record can
    may-carry : may_carry (payload_in s) j b ≡ carries_at records (k a r)
    may-carry = rw (sym sought.told ∙ ap is_some is) (sym (carries_here a r))

    -- the entries of the record
    own-divergence : get_or e.found.value.divergence (k a r) no_divergence ≡ (record_at (payload_in s) j b).divergence
    unfolding divergence_at
    own-divergence =
        ap (λ (o : Option Extension). get_or (divergence_in o) (k a r) no_divergence) (sym e.found.is) ∙ ap (λ (m : ℕ). get_or (divergence_in extended) m no_divergence) (index a r)
        ∙ ap (λ (x : Record). x.divergence) (sym (record-at s a.accepted.ran j b))

    own-precise : get_or e.found.value.precise (k a r) no_precise ≡ (record_at (payload_in s) j b).precise
    unfolding precise_at
    own-precise =
        ap (λ (o : Option Extension). get_or (precise_in o) (k a r) no_precise) (sym e.found.is) ∙ ap (λ (m : ℕ). get_or (precise_in extended) m no_precise) (index a r)
        ∙ ap (λ (x : Record). x.precise) (sym (record-at s a.accepted.ran j b))

    -- b_obj_div_block
    module _ {flag : ℕ} {c₂ : Cur} (r₁ : Reads (bits 1) (bit s) i.cur i.held flag c₂) where
      clear-divergence : (flag ≡ 1 → ⊥) → divergence_sent s (payload_in s) j b ≡ false
      unfolding divergence_sent
      clear-divergence h = rw (flag_is a r e r₁, ne_eqb flag 1 h) (both_false (may_carry (payload_in s) j b))

      set-divergence : flag ≡ 1 → divergence_sent s (payload_in s) j b ≡ carries_at records (k a r)
      unfolding divergence_sent
      set-divergence h = rw (flag_is a r e r₁, eq-eqb flag 1 h, may-carry) (both_true (carries_at records (k a r)))

      pub no-divergence : (flag ≡ 1 → ⊥) → {x : Extra} → x ≡ record { sent = false; at = 0 } → DivergenceFound s n j b x
      no-divergence h is = rw is (unsent-divergence (clear-divergence h))

      pub divergence-found : flag ≡ 1 → {m : ℕ} {c₃ : Cur} {sent : Bool} {at : ℕ} → m ≡ k a r → Went (for m (λ i. obj_div_block (carries_at records i))) (bit s) c₂ i.held c₃
          → sent ≡ carries_at records m → at ≡ c₃.at.0 → DivergenceFound s n j b (record { sent = sent; at = at })
      unfolding path_of
      divergence-found h m-is w carry-is at-is =
          let sent_is = carry-is ∙ ap (carries_at records) m-is in
          let m = on-turn (count a r) (k a r) (λ i. obj_div_block (carries_at records i)) no_divergence (below a r) (divergences-on a r e r₁ (eq-eqb flag 1 h)) (rw m-is at w.reads) in
          record {
            sent = sent_is ∙ sym (set-divergence h);
            near = omega (arith, m.within, e.near);
            met = λ t. carried_at obj_div_block (sym sent_is ∙ t) own-divergence at-is (ap over_of e.inner) m.here;
          }

      -- b_ext_prec_pos_block
      module _ {flag' : ℕ} {c₃ c₄ : Cur}
          (passed : Went (when (set? flag) (for (count a r) (λ i. obj_div_block (carries_at records i))) (replicate (count a r) no_divergence)) (bit s) c₂ i.held c₃)
          (r₂ : Reads (bits 1) (bit s) c₃ i.held flag' c₄) where
        clear-precise : (flag' ≡ 1 → ⊥) → presence_sent s (payload_in s) j b ≡ false
        unfolding presence_sent
        clear-precise h = rw (flag-is' a r e r₁ passed r₂, ne_eqb flag' 1 h, both_false (may_carry (payload_in s) j b))

        set-precise : flag' ≡ 1 → presence_sent s (payload_in s) j b ≡ both (carries_at records (k a r)) (set? (bit s (bit_of s (path_of s n j b prec_block precise_flag))))
        unfolding presence_sent
        set-precise h = rw (flag-is' a r e r₁ passed r₂, eq-eqb flag' 1 h, both_true (may_carry (payload_in s) j b), may-carry, a.blocks)

        pub no-precise : (flag' ≡ 1 → ⊥) → {x : Extra} → x ≡ record { sent = false; at = 0 } → PreciseFound s n j b x
        no-precise h is = rw is (unsent-precise (clear-precise h))

        pub precise-found : flag' ≡ 1 → {m : ℕ} {c₅ c₆ : Cur} {carry sent : Bool} {v at : ℕ} → m ≡ k a r
            → Went (for m (λ i. ext_prec_pos_block (carries_at records i))) (bit s) c₄ i.held c₅ → carry ≡ carries_at records m → Reads (bits_if carry 1) (bit s) c₅ i.held v c₆ → sent ≡ eqb v 1 → at ≡ c₅.at.0
            → PreciseFound s n j b (record { sent = sent; at = at })
        unfolding path_of
        precise-found h m-is w carry-as given sent_is at-is =
            let carry-is = carry-as ∙ ap (carries_at records) m-is in
            let m = on-turn (count a r) (k a r) (λ i. ext_prec_pos_block (carries_at records i)) no_precise (below a r) (precises-on a r e r₁ passed r₂ (eq-eqb flag' 1 h)) (rw m-is at w.reads) in
            let f = flag-given (carries_at records (k a r)) m (rw carry-is at given) in
            record {
              sent = sent_is ∙ f.0 ∙ sym (set-precise h);
              near = omega (arith, m.within, e.near);
              met = λ t. carried_at ext_prec_pos_block (both_first _ _ (sym f.0 ∙ sym sent_is ∙ t)) own-precise at-is (ap over_of e.inner) m.here;
              flag = λ t. ap (λ (p : ℕ). set? (bit s p)) (at-is ∙ sym f.1) ∙ both-second (carries_at records (k a r)) _ (sym f.0 ∙ sym sent_is ∙ t);
            }
