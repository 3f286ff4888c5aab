-- The ways through an element, the frame around it, and the loop over the elements. Assumes nothing.
use mathlib.Core.Path.{◌≡◌, refl, sym, ap, ◌∙◌}
use mathlib.Core.Bool.{false, not, true≢false}
use mathlib.Core.List.{List}
use mathlib.Core.Option.{Option, none, some}
use mathlib.Core.Logic.{◌⊎◌, inl, inr}
use Prim.Native.Nat.{ℕ, suc, ◌+◌, ◌-◌, ◌*◌, ◌≤◌, ◌<◌}
use native.Mathlib.Omega.{arith}
use native.Mathlib.Numerals.{add-one}
use native.Mathlib.Nat.{sub-zero}
use lib.Dec.{eqb}
use lib.ListN.{length}
use borrow.Author.Tests.{ne_eqb}
use Rattle.bits.specs.declared.Cur.{Cur}
use Rattle.bits.specs.declared.Limit.{Limit}
use Rattle.bits.specs.declared.Refusal.TheVariants.{Second, Early}
use Rattle.bits.specs.declared.Size.{Size}
use Rattle.bits.specs.declared.Step.{Step}
use Rattle.bits.specs.Language.{pick, Bits, bits, bits_if, refuse_if}
use Rattle.bits.specs.Refusals.{number_of}
use Rattle.bits.specs.Size.{variable_bits_max}
use Rattle.bits.specs.View.{Reads, open_at, inner_of, close_at}
use Rattle.bits.specs.Unique.{begun}
use Rattle.bits.proofs.Sticky.{Left, start, step, done, broken, bind, plain, framing}
use Rattle.oamd.specs.declared.Kind.{Kind}
use Rattle.oamd.specs.declared.Kind.TheVariants.{Unknown, Object, Trim, Extended}
use Rattle.oamd.specs.declared.Programme.{Programme}
use Rattle.oamd.specs.declared.Timing.{Timing}
use Rattle.oamd.specs.Tables.{most_objects, most_blocks}
use Rattle.oamd.specs.Programme.{set?}
use Rattle.oamd.specs.Record.{plain_records, bytes_of, onto}
use Rattle.oamd.specs.Trim.{trim_of}
use Rattle.oamd.specs.Element.{kind, size_length, back_to_id, framed, Known, nothing, with_object, with_trim, with_extended, there, is_second, is_early, scenes}
use Rattle.oamd.specs.Element.{fields, pass_over, read_known, oa_element, oa_element_md, elements}
use Rattle.oamd.specs.Payload.{timing, records}
use Rattle.reader.specs.declared.Scope.{Scope}
use Rattle.reader.specs.declared.State.{State}
use Rattle.reader.specs.Layout.{no_trim_bytes}
use Rattle.reader.specs.Steps.{Buffers, lent, nothing_read, object_seen, trim_seen, extended_seen, unknown_seen, seen, too_early, Holding, Underway, state_of, Scoped}
use Rattle.reader.specs.Steps.{Sized, ElementRead, TrimRead, ExtendedRead, FieldsRead, KnownRead, BodyRead, OneRead, ElementsRead}
use Rattle.reader.proofs.Bytes.{length-plain}
use Rattle.reader.proofs.ObjectLoop.{still-roomy}
use Rattle.reader.proofs.Gates.{stuck, carried, regiven, opened, by_zero}
use Rattle.reader.proofs.TrimLoop.{not-read}

none_of : {A : Type 0} (o : Option A) → there o ≡ false → o ≡ none
none_of none h = refl
none_of (some a) h = absurd (true≢false h)

-- ---- what the state tells of the elements that have been read, by kind

pub told-second : {objects : ℕ} {known : Known} {t : List ℕ} {st : State} {held : Buffers} (k : Kind) → Holding objects known t st held → seen k st ≡ is_second k known
told-second Unknown h = refl
told-second Object h = h.records.object-told
told-second Trim h = h.trim.told
told-second Extended h = h.records.extended-told

pub told-early : {objects : ℕ} {known : Known} {t : List ℕ} {st : State} {held : Buffers} (k : Kind) → Holding objects known t st held → too_early k st ≡ is_early k known
told-early Unknown h = refl
told-early Object h = refl
told-early Trim h = refl
told-early Extended h = ap not h.records.object-told

-- ---- the fields of each kind: what they add to what is held

module _ {scope : Scope} {st : State} {b : Bits} {c : Cur} {l : Limit} {out table : List ℕ} (asked : Underway 1 scope st (lent out table)) where
  -- nothing
  pub unknown-fields : FieldsRead Unknown scope st b c l (lent out table) (record { value = st; cur = c }) (lent out table)
  unfolding fields
  unknown-fields = record {
    sized = asked.ready.sized;
    few = asked.blocks;
    same = refl;
    went = λ q known t sc first timely h. record { known = known; reads = plain; holding = λ z. h };
  }

  pub object-fields : {r : Step Timing} {out' : List ℕ} → ElementRead scope.objects scope.shares b c l out r out'
      → FieldsRead Object scope st b c l (lent out table) (record { value = object_seen r.value st; cur = r.cur }) (lent out' table)
  unfolding fields scenes timing records bytes_of plain_records onto
  object-fields e = record {
    sized = record { out = still-roomy asked.ready.sized.out e.size; table = asked.ready.sized.table };
    few = e.few;
    same = refl;
    went = λ q known t sc first timely h.
        let gone : known.object ≡ none = none_of known.object first in
        let bare : known.extended ≡ none = h.records.ordered gone in
        let fresh : out ≡ t = rw (gone, bare) at h.records.stand in
        record {
          known = with_object e.value known;
          reads = bind (rw (sc.1, sc.0) e.reads) plain;
          holding = λ z. record {
            records = record {
              object-told = refl;
              extended-told = h.records.extended-told;
              ordered = λ o. absurd (let k : ◌≡◌ {A = ℕ} 0 1 = cc in omega arith);
              timed = e.holds;
              many = e.many z;
              full = rw bare (length-plain (scenes (some e.value)));
              stand = rw (bare, ← fresh) (e.stand z);
            };
            trim = h.trim;
          };
        };
  }

  pub trim-fields : {cur : Cur} {table' : List ℕ} → TrimRead scope.objects b c l table cur table'
      → FieldsRead Trim scope st b c l (lent out table) (record { value = trim_seen st; cur = cur }) (lent out table')
  unfolding fields trim_of
  trim-fields e = record {
    sized = record { out = asked.ready.sized.out; table = e.size };
    few = asked.blocks;
    same = refl;
    went = λ q known t sc first timely h.
        let gone : known.trim ≡ none = none_of known.trim first in
        let fresh : table ≡ no_trim_bytes = rw gone at h.trim.stand ∙ sym (not-read scope.objects asked.ready.objects).stand in
        record {
          known = with_trim e.value known;
          reads = bind (rw sc.0 e.reads) plain;
          holding = λ z. record { records = h.records; trim = record { told = refl; long = e.long; stand = e.stand fresh } };
        };
  }

  pub extended-fields : {cur : Cur} {out' : List ℕ} → ExtendedRead (scope.objects * st.timing.blocks) b c l out cur out'
      → FieldsRead Extended scope st b c l (lent out table) (record { value = extended_seen st; cur = cur }) (lent out' table)
  unfolding fields records
  extended-fields e = record {
    sized = record { out = still-roomy asked.ready.sized.out e.size; table = asked.ready.sized.table };
    few = asked.blocks;
    same = refl;
    went = λ q known t sc first timely h.
        let bare : known.extended ≡ none = none_of known.extended first in
        let stood : out ≡ onto (bytes_of (plain_records (scenes known.object))) t = rw bare at h.records.stand in
        let u = e.went (scenes known.object) t stood h.records.many in
        record {
          known = with_extended u.value known;
          reads = bind u.reads plain;
          holding = λ z. record {
            records = record {
              object-told = h.records.object-told;
              extended-told = refl;
              ordered = λ o. absurd (true≢false (rw o at timely));
              timed = h.records.timed;
              many = h.records.many;
              full = u.full z;
              stand = u.stand z;
            };
            trim = h.trim;
          };
        };
  }

-- ---- a known element: the same for every kind

module _ {scope : Scope} {st : State} (back : ℕ) {b : Bits} {c first timely : Cur} {l : Limit} {held : Buffers} {x y : ℕ} (k : Kind) (asked : Underway 1 scope st held)
    (g : Reads (refuse_if (seen k st) (number_of Second) back x) b c l x first) (d : Reads (refuse_if (too_early k st) (number_of Early) back y) b first l y timely) where
  -- refused: a second one of its kind, one too early, or one behind a refusal
  pub known-refused : (timely.no ≡ 0 → ⊥) → KnownRead k back scope st b c l held (record { value = st; cur = timely }) held
  unfolding read_known
  known-refused z = record {
    sized = asked.ready.sized;
    few = asked.blocks;
    next = omega arith;
    went = λ q known t sc h. record {
      known = known;
      reads = by_zero c.no
          (λ u. bind (regiven (is_second k known) (number_of Second) back (rw (told-second k (h u)) at g))
          (bind (regiven (is_early k known) (number_of Early) back (rw (told-early k (h u)) at d)) (stuck z)))
          (λ u. carried (bind {k = λ v. refuse_if (too_early k st) (number_of Early) back y} g d) u);
      holding = λ u. absurd (z u);
    };
  }

  -- not refused: its fields
  pub known_read : {r : Step State} {held' : Buffers} → timely.no ≡ 0 → FieldsRead k scope st b timely l held r held' → KnownRead k back scope st b c l held r held'
  unfolding read_known
  known_read z e = record {
    sized = e.sized;
    few = e.few;
    next = omega (arith, e.same);
    went = λ q known t sc h.
        let v = h (begun g (begun d z)) in
        let one : seen k st ≡ false = opened (seen k st) _ _ g (begun d z) in
        let due : too_early k st ≡ false = opened (too_early k st) _ _ d z in
        let u = e.went q known t sc (sym (told-second k v) ∙ one) (sym (told-early k v) ∙ due) v in
        record {
          known = u.known;
          reads = bind (regiven (is_second k known) (number_of Second) back (rw (told-second k v) at g))
              (bind (regiven (is_early k known) (number_of Early) back (rw (told-early k v) at d)) (bind u.reads (rw e.same plain)));
          holding = u.holding;
        };
  }

-- ---- an element of any kind

-- an unknown element is counted
pub passed : {scope : Scope} {st : State} (back : ℕ) {b : Bits} {c : Cur} {l : Limit} {held : Buffers} → Underway 1 scope st held
    → BodyRead Unknown back scope st b c l held (record { value = unknown_seen st; cur = c }) held
unfolding oa_element pass_over
passed {st = st} back asked = record {
  sized = asked.ready.sized;
  few = asked.blocks;
  next = omega arith;
  went = λ q known t sc h. record {
    known = known;
    reads = rw (add-one st.unknown) plain;
    holding = λ z. record { records = (h z).records; trim = (h z).trim };
  };
}

-- any other is a known one
pub as-known : {scope : Scope} {st : State} (back : ℕ) {b : Bits} {c : Cur} {l : Limit} {held held' : Buffers} {r : Step State} (k : Kind) → (k ≡ Unknown → ⊥)
    → KnownRead k back scope st b c l held r held' → BodyRead k back scope st b c l held r held'
unfolding oa_element
as-known back Unknown h e = absurd (h refl)
as-known back Object h e = e
as-known back Trim h e = e
as-known back Extended h e = e

-- ---- the frame

-- a cursor that a step leaves alone where it carries a refusal
unrefused : (c d : Cur) {o : Cur} → o ≡ pick (eqb c.no 0) d c → o.no ≡ 0 → c.no ≡ 0
unrefused c d e z = by_zero c.no (λ y. y) (λ y. ap (λ (o : Cur). o.no) (sym (rw (ne_eqb c.no 0 y) at e)) ∙ z)

pub framed-read : {scope : Scope} {st : State} {b : Bits} {c c₁ c₂ o c₃ c₄ d : Cur} {l i : Limit} {held held' : Buffers} {id other flag back n : ℕ} {z : Size} {k : Kind} {r : Step State}
    → Reads (bits 4) b c l id c₁ → Reads variable_bits_max b c₁ l z c₂ → n ≡ z.value + 1 → o ≡ open_at l c₂ (8 * n) (size_length z) → i ≡ inner_of l c₂ (8 * n)
    → Reads (bits_if (set? scope.alternate) 4) b o i other c₃ → Reads (bits 1) b c₃ i flag c₄ → k ≡ kind id other → back ≡ back_to_id scope.alternate z
    → BodyRead k back scope st b c₄ i held r held' → d ≡ close_at r.cur i → OneRead scope st b c l held (record { value = r.value; cur = d }) held'
unfolding oa_element_md framed open_at close_at
framed-read {c₂ = c₂} {r = r} r₁ r₂ hn ho hi r₃ r₄ hk hb body hd = record {
  sized = body.sized;
  few = body.few;
  next = body.next;
  went = λ q known t sc h.
      let u = body.went q known t sc (λ y. h (begun r₁ (begun r₂ (unrefused c₂ _ ho (begun r₃ (begun r₄ y)))))) in
      record {
        known = u.known;
        reads = bind r₁ (bind r₂ (framing _ _ _ _ _ _ _ _ _ _ _ _ (rw hn at ho) (rw hn at hi) (bind r₃ (bind r₄ (rw (hk, hb) at u.reads))) hd));
        holding = λ y. u.holding (unrefused r.cur _ hd y);
      };
}

-- ---- one element after the other

-- before the first, the buffers are as they came
pub nothing-held : (objects : ℕ) {t table : List ℕ} → objects ≤ most_objects → table ≡ no_trim_bytes → Holding objects nothing t nothing_read (lent t table)
unfolding scenes timing records bytes_of plain_records onto
nothing-held objects few empty = record {
  records = record {
    object-told = refl;
    extended-told = refl;
    ordered = λ o. refl;
    timed = refl;
    many = omega arith;
    full = refl;
    stand = refl;
  };
  trim = rw empty (not-read objects few);
}

module _ (n : ℕ) (scope : Scope) (st₀ : State) (b : Bits) (c : Cur) (l : Limit) (held₀ : Buffers) where
  -- before element i, where so much was known before the first
  pub record Reached (q : Programme) (from : Known) (t : List ℕ) (i : ℕ) (st : State) (cur : Cur) (held : Buffers) : Type 0 where
    pub known : Known
    pub left : Left (elements q scope.alternate n (state_of from st₀.unknown)) b c l (elements q scope.alternate (n - i) (state_of known st.unknown)) cur
    pub holding : cur.no ≡ 0 → Holding scope.objects known t st held

  -- the same whatever was known
  pub record Ongoing (i : ℕ) (st : State) (cur : Cur) (held : Buffers) : Type 0 where
    pub within : i ≤ n
    pub sized : Sized scope.objects held
    pub same : length held.out ≡ length held₀.out
    pub blocks : st.timing.blocks ≤ most_blocks
    pub unknown : st.unknown ≤ st₀.unknown + i
    pub reached : (q : Programme) (known : Known) (t : List ℕ) → Scoped q scope → (c.no ≡ 0 → Holding scope.objects known t st₀ held₀)
        → Reached q known t i st cur held

module _ {n : ℕ} {scope : Scope} {st₀ : State} {b : Bits} {c : Cur} {l : Limit} {held₀ : Buffers} where
  pub first : Underway n scope st₀ held₀ → Ongoing n scope st₀ b c l held₀ 0 st₀ c held₀
  first asked = record {
    within = omega arith;
    sized = asked.ready.sized;
    same = refl;
    blocks = asked.blocks;
    unknown = omega arith;
    reached = λ q known t sc h. record { known = known; left = rw (sub-zero n) start; holding = h };
  }

  module _ {i : ℕ} {st : State} {cur : Cur} {held : Buffers} (x : Ongoing n scope st₀ b c l held₀ i st cur held) where
    pub further : {r : Step State} {held' : Buffers} → i < n → length held'.out ≡ length held.out → OneRead scope st b cur l held r held'
        → Ongoing n scope st₀ b c l held₀ (i + 1) r.value r.cur held'
    unfolding elements
    further h e one = record {
      within = omega arith;
      sized = one.sized;
      same = e ∙ x.same;
      blocks = one.few;
      unknown = omega (arith, one.next, x.unknown);
      reached = λ q known t sc g.
          let y = x.reached q known t sc g in
          let u = one.went q y.known t sc y.holding in
          let d : n - i ≡ suc (n - (i + 1)) = omega arith in
          record { known = u.known; left = step (rw d at y.left) u.reads; holding = u.holding };
    }

    -- none is left, or one was refused
    pub ended : (n ≤ i) ⊎ (cur.no ≡ 0 → ⊥) → ElementsRead n scope st₀ b c l held₀ (record { value = st; cur = cur }) held
    unfolding elements
    ended h = record {
      sized = x.sized;
      few = x.blocks;
      next = omega (arith, x.unknown, x.within);
      went = λ q known t sc g. let y = x.reached q known t sc g in record { known = y.known; reads = reads y h; holding = y.holding };
    }
      where
        reads : {q : Programme} {from : Known} {t : List ℕ} (y : Reached n scope st₀ b c l held₀ q from t i st cur held) → (n ≤ i) ⊎ (cur.no ≡ 0 → ⊥)
            → Reads (elements q scope.alternate n (state_of from st₀.unknown)) b c l (state_of y.known st.unknown) cur
        reads y (inl e) = let d : n - i ≡ 0 = omega arith in done (rw d at y.left)
        reads y (inr z) = broken y.left z
