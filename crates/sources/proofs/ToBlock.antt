-- From the fields of the object element to a block of an object. Assumes nothing.
use mathlib.Core.Path.{◌≡◌, refl, sym, ap, ◌∙◌}
use mathlib.Core.Bool.{true, false}
use mathlib.Core.List.{List, [], ◌∷◌, ◌++◌}
use mathlib.Core.Option.{Option, none, some}
use Prim.Native.Nat.{ℕ, ◌*◌, ◌<◌}
use native.Mathlib.Omega.{arith}
use lib.ListN.{length}
use Rattle.std.specs.Prelude as prelude
use Rattle.std.specs.Prelude.{Some, is_some}
use Rattle.bits.specs.declared.Cur.{Cur}
use Rattle.bits.specs.declared.Limit.{Limit}
use Rattle.bits.specs.declared.Step.{Step}
use Rattle.bits.specs.Language.{P, bits, bits_if, bit, for, past_payload, past_declared}
use Rattle.bits.specs.Steps.{bind_ok, give_ok}
use Rattle.bits.specs.View.{over_of, Reads, Gave}
use Rattle.oamd.specs.declared.Timing.{Timing}
use Rattle.oamd.specs.declared.Block.{Block}
use Rattle.oamd.specs.declared.Shares.{Shares}
use Rattle.oamd.specs.Programme.{clear?, shares, class_of}
use Rattle.oamd.specs.Timing.{MdUpdateInfo, timing_of}
use Rattle.oamd.specs.Block.{object_info_block}
use Rattle.oamd.specs.ObjectElement.{ObjectElement, object_data, object_element}
use Rattle.oamd.specs.Element.{there}
use Rattle.oamd.specs.Payload.{Payload, object_audio_metadata_payload, timing, tables}
use Rattle.reader.specs.declared.Header.{Header}
use Rattle.reader.specs.Steps.{Headed, TimingRead}
use Rattle.sources.specs.declared.Inside.{Inside}
use Rattle.sources.specs.Where.{object_path, path_of}
use Rattle.sources.specs.Chain.{objects_in, no_block, coded_in, block_at}
use Rattle.sources.specs.Asked.{payload_in, Accepted, Asked}
use Rattle.sources.specs.Lemmas.Meeting.{line}
use Rattle.sources.specs.Lemmas.Walking.{Here, here, one_value, stepped, On, on_over, on_read, on-turn}
use Rattle.sources.specs.Walks.{Went, Entered, Sought, BlockFound}

-- the programme that the header names
pub programme_is : {s : List ℕ} → Accepted s → {h : Step Header} → Headed s h → h.value.programme ≡ (payload_in s).programme
unfolding object_audio_metadata_payload
programme_is {s} a {h} headed =
    bind_ok _ _ (bit s) 0 (8 * length s) past_payload a.ran λ hd p1 h1 r1.
    bind_ok _ _ (bit s) p1 (8 * length s) past_payload r1 λ n p2 h2 r2.
    bind_ok _ _ (bit s) p2 (8 * length s) past_payload r2 λ st p3 h3 r3.
    let x = stepped refl h1 headed.head.reads in
    ap (λ (hd : _). hd.programme) (one_value x.ran h1) ∙ ap (λ (q : Payload). q.programme) (give_ok _ (bit s) p3 (8 * length s) past_payload r3).0

-- where there is a block, there is an object element
object_there : (object : Option ObjectElement) (n : ℕ) → n < (timing object).blocks → there object ≡ true
unfolding timing
object_there none n l = absurd (omega arith)
object_there (some e) n l = refl

-- ---- its objects

-- the cursor stands before the loop over them
abbrev Objects : List ℕ → ℕ → Cur → Limit → Type 0
Objects s n c l =
    On s (λ l. object_path s ++ (3 ∷ l)) (for (objects_in (payload_in s)) (λ j. object_data n (class_of (shares (payload_in s).programme) j))) (coded_in (payload_in s).known.object) c l

-- how many blocks each has, and which they are
blocks_of : (object : Option ObjectElement) {e : ObjectElement} {t : MdUpdateInfo} {objects : List (List Block)} → object ≡ some e → record { timing = t; objects = objects } ≡ e
    → ((timing object).blocks ≡ length t.blocks) × (coded_in object ≡ objects)
unfolding timing timing_of
blocks_of object is e-is = (
  ap (λ (o : Option ObjectElement). (timing o).blocks) is ∙ ap (λ (e : ObjectElement). length e.timing.blocks) (sym e-is),
  ap coded_in is ∙ ap (λ (e : ObjectElement). e.objects) (sym e-is),
)

objects-on : {s : List ℕ} {n j b : ℕ} → Asked s n j b → {c c₂ c₃ : Cur} {l : Limit} {t : Step Timing} {flag more : ℕ} → Entered false s c l → TimingRead (bit s) c l t
    → Reads (bits 1) (bit s) t.cur l flag c₂ → Reads (bits_if (clear? flag) 5) (bit s) c₂ l more c₃ → Objects s n c₃ l
unfolding object_element tables
objects-on {s} {n} a {c} {c₃ = c₃} {l} e t r₁ r₂ =
    let f = e.found in
    let inner : over_of l.inner ≡ past_declared = ap over_of e.inner in
    let m : On s (λ l. object_path s ++ l) (object_element (payload_in s).programme.objects (shares (payload_in s).programme)) f.value c l =
    record { good = e.good; within = e.within; here = rw inner f.here } in
    let o = on_over (on_over (on_over m t.reads) r₁) r₂ in
    let these = line o.here.meets in
    let same = blocks_of (payload_in s).known.object f.is (give_ok _ (bit s) these.mid l.end.0 (over_of l.inner) these.rest.ran).0 in
    loop-on n (a.blocks ∙ same.0) same.1 (record { good = o.good; within = o.within; here = here these.here })
  where
    loop-on : (n : ℕ) {m : ℕ} {objects : List (List Block)} → n ≡ m → coded_in (payload_in s).known.object ≡ objects
        → On s (λ l. object_path s ++ (3 ∷ l)) (for (objects_in (payload_in s)) (λ j. object_data m (class_of (shares (payload_in s).programme) j))) objects c₃ l → Objects s n c₃ l
    loop-on n is same m = rw (is, same) m

-- ---- the block

reclassed-on : (n : ℕ) {s : List ℕ} {way : List ℕ → List ℕ} {class class' : ℕ} {v : List Block} {c : Cur} {l : Limit} → class ≡ class' → On s way (object_data n class) v c l
    → On s way (for n (object_info_block class')) v c l
unfolding object_data
reclassed-on n h m = rw h at m

-- the same place, by other names
pub restated : {A : Type 0} {s : List ℕ} {way : List ℕ → List ℕ} {p : P A} {v w : A} {at at' e o o' : ℕ} → w ≡ v → at' ≡ at → o ≡ o' → Here s way p v at e o → Here s way p w at' e o'
restated h g k m = rw (h, g, ← k) m

module _ {s : List ℕ} {n j b : ℕ} (a : Asked s n j b) {h : Step Header} (headed : Headed s h) {o : prelude.Option Inside} (sought : Sought false s o) where
  -- the element is found
  pub element-there : is_some o ≡ true
  unfolding tables
  element-there = sought.told ∙ object_there (payload_in s).known.object b (omega (arith, a.block, a.blocks))

  module _ {i : Inside} (is : o ≡ Some i) where
    element : Entered false s i.cur i.held
    element = (rw is at sought).entered

    pub block-found : {t : Step Timing} {flag more class at : ℕ} {c₂ c₃ c₄ c₅ c₆ : Cur} {sh : Shares} {x : Block} → TimingRead (bit s) i.cur i.held t
        → Reads (bits 1) (bit s) t.cur i.held flag c₂ → Reads (bits_if (clear? flag) 5) (bit s) c₂ i.held more c₃ → sh ≡ shares h.value.programme
        → Went (for j (λ j. object_data n (class_of sh j))) (bit s) c₃ i.held c₄ → class ≡ class_of sh j → Went (object_data b class) (bit s) c₄ i.held c₅
        → Gave (object_info_block class b) (bit s) c₅ i.held x c₆ → at ≡ c₅.at.0 → BlockFound s n j b (record { block = x; at = at })
    unfolding object_data block_at path_of
    block-found {class = class} {at} {sh = sh} {x} t r₁ r₂ shares-is objects class-is blocks read at-is =
        let sh-is : sh ≡ shares (payload_in s).programme = shares-is ∙ ap shares (programme_is a.accepted headed) in
        let object = on-turn (objects_in (payload_in s)) j (λ j. object_data n (class_of (shares (payload_in s).programme) j)) [] a.object (objects-on a element t r₁ r₂)
        (rw sh-is at objects.reads) in
        let class-known : class ≡ class_of (shares (payload_in s).programme) j = class-is ∙ ap (λ (sh : Shares). class_of sh j) sh-is in
        let block = on-turn n b (object_info_block class) no_block a.block (reclassed-on n (sym class-known) object) blocks.reads in
        let same = on_read block read.reads in
        record {
          same = same;
          near = omega (arith, block.within, element.near);
          class = class;
          end = i.held.end.0;
          here = restated same at-is (ap over_of element.inner) block.here;
        }
